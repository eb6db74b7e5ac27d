use Rattle.std.proofs.Common.{ℕ, ◌≤◌, List, length, map, pos, sym, ◌∙◌, ap, subst}
use Rattle.std.specs.Prelude.{All}
use Rattle.helios_model.specs.Limits.{longest_trip}
use Rattle.latency_assign.specs.Assignment.{count_of, distance}
use Rattle.latency_assign.proofs.Results.{columns_small, assigned_as}
use Rattle.latency_assign.proofs.assignment.assignment_of.Goals as goal

pub ints-requires-2 : goal.ints-requires-2
ints-requires-2 c =
    let P : List ℕ → Type 0 = All (λ x. x ≤ longest_trip) in
    subst P (sym c.deref-2.ensures.value) (columns_small (count_of c.args.m.now) (distance c.args.m.now) c.args.u.now c.args.w.now c.args.s.items c.in_ok-v.v.items c.requires
    (c.in_ok-v.ensures.size ∙ ap length c.deref.ensures.value)
    (rw c.deref.ensures.value at c.in_ok-v.ensures.placed))

pub returns : goal.returns
returns c =
    assigned_as c.args.m.now c.args.u.now c.args.w.now c.args.s.items c.in_ok-v.v.items c.in_ok-u.u c.in_ok-v-2.v c.new.result c.requires
    (c.in_ok-v.ensures.size ∙ ap length c.deref.ensures.value)
    (rw c.deref.ensures.value at c.in_ok-v.ensures.placed)
    c.in_ok-u.ensures
    (c.in_ok-v-2.ensures ∙ ap (map pos) c.deref-2.ensures.value)
    c.new.ensures
