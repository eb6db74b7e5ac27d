-- Which records a sound node may take next.
use Rattle.std.proofs.Common.{◌≡◌, ◌≢◌, ◌∙◌, ap, sym, arith, eq-eqb, ℕ, ◌<◌, ◌≤◌, nat_eq, nat_le, List, get_or, All}
use Rattle.std.proofs.lemmas.Bool.{both_ways, leb-false, or_parts}
use Rattle.helios_model.specs.declared.records.Record.{Record}
use Rattle.helios_model.specs.Log.{origin, own_time}
use Rattle.helios_model.specs.Plans.{PlanData}
use Rattle.helios_model.specs.Node.{Node, clock, known, with_clock}
use Rattle.node_limits.specs.Limits.{IsAfter, IsSoundNode, MayTake}
use Rattle.node_limits.proofs.Sound.{known_put}

-- what a sound node may take of a message, once its clock went on
pub may_take_all : (plan : PlanData) (n : Node) (time : ℕ) (records : List Record) → IsSoundNode plan n → All (MayTake n.site (known plan (with_clock plan n time) n.site) n.log) records
may_take_all plan n time records h = λ k d low. each (get_or records k d)
  where
    each : (m : Record) → MayTake n.site (known plan (with_clock plan n time) n.site) n.log m
    each m new = λ k d low. λ same.
        let parts = or_parts (nat_eq (origin m) n.site) (nat_le (own_time m) (known plan (with_clock plan n time) n.site (origin m))) new in
        let apart : origin m ≢ n.site = λ own. both_ways (nat_eq (origin m) n.site) parts.0 (eq-eqb (origin m) n.site own) in
        let above : known plan (with_clock plan n time) n.site (origin m) < own_time m = leb-false (own_time m) (known plan (with_clock plan n time) n.site (origin m)) parts.1 in
        let rows : known plan (with_clock plan n time) n.site (origin m) ≡ known plan n n.site (origin m) = known_put plan n time (origin m) apart in
        let old : own_time (get_or n.log k d) ≤ known plan n n.site (origin (get_or n.log k d)) = h.sound.others k d low (λ own. apart (sym same ∙ own)) in
        let turned : known plan n n.site (origin (get_or n.log k d)) ≡ known plan n n.site (origin m) = ap (known plan n n.site) same in
        omega arith

-- an own record above the clock comes after all
pub own_after : (plan : PlanData) (n : Node) (r : Record) → IsSoundNode plan n → origin r ≡ n.site → clock plan n < own_time r → IsAfter n.log r
own_after plan n r h own above = λ k d low. λ same.
    let old : own_time (get_or n.log k d) ≤ clock plan n = h.sound.own k d low (same ∙ own) in
    omega arith
