-- What the judge of a plan needs of the plan's limits, and what it has shown where it finds no fault.
use Rattle.std.proofs.Common.{◌≡◌, inl, inr, ℕ, ◌<◌, List, length, get_or, arith}
use Rattle.std.specs.List.{All, sum}
use Rattle.std.proofs.lemmas.Bool.{cases_lt}
use Rattle.std.proofs.lemmas.List.Elements.{All-get_or, All-from_get_or}
use Rattle.helios_model.specs.Optimal.{IsCertificate, pair_value, IsOptimal}
use Rattle.helios_model.specs.Plans.{PlanData, IsAccepted, count_of}
use Rattle.helios_model.specs.Pairings.{CertificatesShowOptimal, PairingsAreOrders}
use Rattle.plan_certificate.specs.Verdict.{ArePaired}

-- each partner of a pairing is a site
pub partners_are_sites : (plan : PlanData) (pair : List ℕ) → ArePaired (count_of plan) pair (length pair) → All (λ partner. partner < count_of plan) pair
partners_are_sites plan pair paired = All-from_get_or (λ partner. partner < count_of plan) pair 0 (λ i within.
    elim (cases_lt (get_or pair i 0) (count_of plan)) [ inl low ↦ low | inr high ↦ absurd (paired i within (inl high)) ])

-- a pairing without a fault, whose round trips add up to the latencies, is a certificate
pub certified : PairingsAreOrders → (plan : PlanData) (pair : List ℕ) → length pair ≡ count_of plan → ArePaired (count_of plan) pair (length pair) → sum plan.latencies ≡ pair_value plan pair → IsCertificate plan pair
certified orders plan pair long paired value = record {
  pairing = (orders (count_of plan) pair).1 (record {
    size = long;
    sites = λ i within. All-get_or (λ partner. partner < count_of plan) pair i 0 (omega arith) (partners_are_sites plan pair paired);
    apart = λ i j before within same. paired j (omega arith) (inr (i, before, same));
  });
  value = value;
}

pub certified_optimal : CertificatesShowOptimal → PairingsAreOrders → (plan : PlanData) (pair : List ℕ) → IsAccepted plan → length pair ≡ count_of plan → ArePaired (count_of plan) pair (length pair) → sum plan.latencies ≡ pair_value plan pair → IsOptimal plan
certified_optimal shows orders plan pair accepted long paired value = shows plan pair accepted (certified orders plan pair long paired value)
