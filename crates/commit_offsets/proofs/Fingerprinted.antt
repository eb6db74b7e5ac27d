-- The value whose text is digested has no float, so its text is known.
use Rattle.std.proofs.Common.{◌≡◌, ℕ, false, refl}
use Rattle.helios_model.specs.Plans.{PlanData, count_of, rtt}
use Rattle.serde_json.specs.Data.{Data, string}
use Rattle.serde_json.specs.Written.{has_float}
use Rattle.commit_offsets.specs.Fingerprint.{canonical_members, canonical_data}
use Rattle.commit_offsets.specs.Printing.{whole, array_data, square_data}
use Rattle.commit_offsets.proofs.Printed.{neither, items_float, square_float}

members_float : (latency names trips : Data) → has_float latency ≡ false → has_float names ≡ false → has_float trips ≡ false → has_float (canonical_members latency names trips) ≡ false
unfolding canonical_members
members_float latency names trips a b c = neither (has_float latency) _ a (neither (has_float names) _ b (neither (has_float trips) _ c refl))

pub canonical_no_float : (plan : PlanData) → has_float (canonical_data plan) ≡ false
canonical_no_float plan =
    members_float (array_data whole plan.latencies) (array_data string plan.names) (square_data (count_of plan) (λ i j. whole (rtt plan i j)))
    (items_float whole (λ n. refl) plan.latencies) (items_float string (λ name. refl) plan.names)
    (square_float (count_of plan) (λ i j. whole (rtt plan i j)) (λ i j. refl))
