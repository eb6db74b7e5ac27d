-- A plan and its certificate as a text says them, or the first rule that the text breaks.
use Rattle.std.specs.Prelude.{◌≡◌, ℕ, ℤ, ◌-◌, ◌*◌, ◌≤◌, ◌/◌, ◌%◌, ◌==◌, Bool, not, nat_le, List, length, Option, Some, None, option_and_then, Result, Ok, Err, sum, slice_index_or, pos}
use Rattle.std.specs.Ordering.{int_eq}
use Rattle.std.specs.List.{list_all}
use Rattle.helios_model.specs.Limits.{longest_trip, greatest_latency, most_sites}
use Rattle.helios_model.specs.Naming.{AreNames}
use Rattle.helios_model.specs.Offset.{offset}
use Rattle.helios_model.specs.Plans.{PlanData, count_of}
use Rattle.helios_model.specs.Squares.{first_below, IsSymmetric, IsZeroOnDiagonal}
use Rattle.helios_model.specs.declared.plans.Certificate.{Certificate}
use Rattle.json_text.specs.Arrays.{whole_number}
use Rattle.json_text.specs.Reading.{◌>>=◌, required, demand}
use Rattle.json_text.specs.Text.{json_of}
use Rattle.serde_json.specs.Data.{Data}
use Rattle.serde_json.specs.Find.{get, as_object}
use Rattle.commit_offsets.specs.Forms.{version_of, names_of, trips_of, latencies_of, offsets_of, pair_of}
use Rattle.commit_offsets.specs.Lines.{field_text}
use Rattle.commit_offsets.specs.declared.data.PlanFields.{PlanFields}
use Rattle.commit_offsets.specs.declared.refusal.FieldName.{FieldName}
use Rattle.commit_offsets.specs.declared.refusal.FieldName.TheVariants as fields
use Rattle.commit_offsets.specs.declared.refusal.PlanRefusal.{PlanRefusal}
use Rattle.commit_offsets.specs.declared.refusal.PlanRefusal.TheVariants as refusals

-- a field where it has its form
abbrev pub field : {A : Type 0} → FieldName → (Data → Option A) → Data → Result A PlanRefusal
field name form d = required (refusals.BadField name) (option_and_then form (get (field_text name) d))

-- fields of their forms: as many of each as names
pub record HaveForms (f : PlanFields) : Type 0 where
  pub some : 1 ≤ length f.names
  pub few : length f.names ≤ most_sites
  pub names : AreNames f.names
  pub square : length f.trips ≡ length f.names * length f.names
  pub symmetric : IsSymmetric (length f.names) f.trips
  pub diagonal : IsZeroOnDiagonal (length f.names) f.trips
  pub latencies : length f.latencies ≡ length f.names
  pub offsets : length f.offsets ≡ length f.names * length f.names
  pub pair : length f.pair ≡ length f.names

-- the fields, each of its form, or the first that isn't
unfoldable pub fields_at : Data → Result PlanFields PlanRefusal
fields_at d = do
  whole ← required (refusals.BadField fields.Plan) (as_object d)
  version ← field fields.Version version_of d
  names ← field fields.Names names_of d
  trips ← field fields.Rtt (trips_of (length names)) d
  latencies ← field fields.Latency (latencies_of (length names)) d
  offsets ← field fields.Offset (offsets_of (length names)) d
  pair ← field fields.Pair (pair_of (length names)) d
  total ← field fields.Total whole_number d
  Ok (record { names = names; trips = trips; latencies = latencies; offsets = offsets; pair = pair; total = total })

-- the numbers of a field where none is over its limit
unfoldable pub limited : FieldName → ℕ → List ℕ → Result (Unit {0}) PlanRefusal
limited name limit numbers = demand (refusals.Limit name) (list_all (λ n. nat_le n limit) numbers)

-- whether the offset at a place, row after row, isn't the plan's
abbrev pub differs_at : PlanData → List ℤ → ℕ → Bool
differs_at plan offsets place = not (int_eq (slice_index_or offsets place (pos 0)) (offset plan (place / count_of plan) (place % count_of plan)))

-- the first place, in row order, of an offset that isn't the plan's
abbrev pub other_offset : PlanData → List ℤ → Option ℕ
other_offset plan offsets = first_below (differs_at plan offsets) (count_of plan * count_of plan)

-- the offset of two sites differs where there is such a place
abbrev pub offset_refusal : ℕ → Option ℕ → Result (Unit {0}) PlanRefusal
offset_refusal count None = Ok tt
offset_refusal count (Some place) = Err (refusals.OffsetDiffers (place / count) (place % count))

abbrev pub planned : PlanFields → PlanData
planned f = record { names = f.names; trips = f.trips; latencies = f.latencies }

-- the plan and the certificate of fields whose numbers agree, or the first that doesn't
unfoldable pub accepted : PlanFields → Result (PlanData × Certificate) PlanRefusal
accepted f = do
  trips ← limited fields.Rtt longest_trip f.trips
  latencies ← limited fields.Latency greatest_latency f.latencies
  pair ← limited fields.Pair (most_sites - 1) f.pair
  offsets ← offset_refusal (length f.names) (other_offset (planned f) f.offsets)
  total ← demand (refusals.TotalDiffers f.total (sum f.latencies)) (f.total == sum f.latencies)
  Ok (planned f, record { pair = f.pair })

-- what a JSON value says as a plan
unfoldable pub plan_at : Data → Result (PlanData × Certificate) PlanRefusal
plan_at d = fields_at d >>= accepted

-- what a text says as a plan
unfoldable pub plan_of_text : List ℕ → Result (PlanData × Certificate) PlanRefusal
plan_of_text bytes = required refusals.NotJson (json_of bytes) >>= plan_at
