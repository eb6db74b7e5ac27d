-- The first short pair of a plan is the one that the search by rows finds.
use Rattle.std.proofs.Common.{◌≡◌, inl, inr, ℕ, ◌+◌, ◌*◌, ◌<◌, Bool, true, false, ◌&&◌, nat_lt, Some, None, refl, ◌∙◌, ap, arith}
use Rattle.std.specs.Prelude.{is_some, option_map, option_and_then, find}
use Rattle.std.proofs.lemmas.Bool.{cases_lt, lt-ltb, le-ltb}
use Rattle.helios_model.proofs.FirstBelow.{find_first, find_none}
use Rattle.helios_model.specs.Optimal.{sites_of}
use Rattle.helios_model.specs.Plans.{PlanData, IsAccepted, count_of, rtt, latency}
use Rattle.helios_model.specs.Short.{is_short, short_of, first_short_of, EachShortPairIsFound, IsReached, IsRowReached, IsFirstShort, IsFirstShortInRow}

both_true : (b c : Bool) → b ≡ true → c ≡ true → (b && c) ≡ true
both_true true c first second = second
both_true false c first second = cc

second_false : (b c : Bool) → c ≡ false → (b && c) ≡ false
second_false true c second = second
second_false false c second = refl

-- where two sites reach their round trip, they aren't short
not_short : (plan : PlanData) (i j : ℕ) → (i < j → IsReached plan i j) → is_short plan i j ≡ false
not_short plan i j reached = elim (cases_lt i j) [
  | inl later ↦ second_false (nat_lt i j) (nat_lt (latency plan i + latency plan j) (2 * rtt plan i j)) (le-ltb (latency plan i + latency plan j) (2 * rtt plan i j) (reached later))
  | inr past ↦ ap (λ b. b && nat_lt (latency plan i + latency plan j) (2 * rtt plan i j)) (le-ltb i j past)
]

short_found : (plan : PlanData) (i j : ℕ) → IsFirstShortInRow plan i j → short_of plan i ≡ Some j
short_found plan i j first = find_first (is_short plan i) (count_of plan) j first.within (both_true (nat_lt i j) (nat_lt (latency plan i + latency plan j) (2 * rtt plan i j)) (lt-ltb i j first.ordered) (lt-ltb (latency plan i + latency plan j) (2 * rtt plan i j) first.short)) (λ k before. not_short plan i k (λ later. first.reached k later before))

none_short : (plan : PlanData) (i : ℕ) → IsRowReached plan i (count_of plan) → short_of plan i ≡ None
none_short plan i reached = find_none (is_short plan i) (count_of plan) (λ k low. not_short plan i k (λ later. reached k later low))

pub first_short_found : (plan : PlanData) (i j : ℕ) → IsFirstShort plan i j → first_short_of plan ≡ Some (i, j)
first_short_found plan i j first =
    let row : find (λ k. is_some (short_of plan k)) (sites_of plan) ≡ Some i =
    find_first (λ k. is_some (short_of plan k)) (count_of plan) i (let a : i < j = first.row.ordered in let b : j < count_of plan = first.row.within in omega arith)
    (ap is_some (short_found plan i j first.row)) (λ k before. ap is_some (none_short plan k (first.above k before))) in
    ap (option_and_then (λ k. option_map (λ m. (k, m)) (short_of plan k))) row ∙ ap (option_map (λ m. (i, m))) (short_found plan i j first.row)

pub no_short_found : (plan : PlanData) → IsAccepted plan → first_short_of plan ≡ None
no_short_found plan accepted =
    let none : find (λ k. is_some (short_of plan k)) (sites_of plan) ≡ None =
    find_none (λ k. is_some (short_of plan k)) (count_of plan) (λ k low. ap is_some (none_short plan k (λ j later within. accepted.reached k j low within (λ same. (omega arith))))) in
    ap (option_and_then (λ k. option_map (λ m. (k, m)) (short_of plan k))) none

pub each_short_pair_is_found : EachShortPairIsFound
each_short_pair_is_found plan = record { found = first_short_found plan; none = no_short_found plan }
