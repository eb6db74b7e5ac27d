use Rattle.std.proofs.Common.{◌≡◌, ◌+◌, ◌-◌, ◌^◌, arith, ap, length, min, sym, subst}
use Rattle.helios_model.specs.Step.{MayBeAsked}
use Rattle.commit_rules.specs.Core.{IsCoreOf}
use Rattle.commit_rules.proofs.Standing.{IsAt, IsEnd, base_of, core_still, parts_at, stepped}
use Rattle.commit_rules.proofs.rules.Core.redo.Goals as goal

pub redo-requires-clause-within : goal.redo-requires-clause-within
redo-requires-clause-within c =
    let s = c.self.inside.node in
    let n = c.self.invariant.0.node in
    let at : IsAt s.plan n s = parts_at s c.self.inside.log_length s.plan n c.self.invariant.0.is c.self.invariant.1 c.self.invariant.2 in
    record { base = base_of n s; is = at.stands; within = at.within }

pub invariant_of-core : goal.invariant_of-core
invariant_of-core c =
    let s = c.self.inside.node in
    let e = c.finish-node.ensures in
    let end : IsEnd c.in_ok-moved.moved c.finish-node.result.0 c.finish-node.result.1 c.finish-node.result.2 =
    record { added_is = e.added; commits_are = e.commits; none = e.fresh.0; kept = e.kept; stands = e.stands; table = e.table; place = e.place } in
    let long : c.saturating_add-later.result ≡ min (c.self.inside.log_length + length c.finish-node.result.1) (2 ^ 64 - 1) = omega (arith, ap (λ xs. length xs) c.items.ensures) in
    let may = subst (λ core. MayBeAsked core.plan core.site c.args.entry.input) (sym c.self.view_is) c.requires in (
      core_still s c.in_ok-moved.moved c.finish-node.result.0 c.self.inside.log_length c.saturating_add-later.result c.args.entry
          c.finish-node.result.1 c.finish-node.result.2 c.self.invariant.1 c.self.invariant.2
          (record { moves = c.in_ok-moved.ensures.moves; place = c.in_ok-moved.ensures.place; end = end })
          long c.a_step_keeps_limits.ensures may c.self.invariant.0,
      e.fresh.0,
      e.fresh.1,
    )

pub returns-clause-redone : goal.returns-clause-redone
returns-clause-redone c =
    λ plan n is.
    let s = c.self.inside.node in
    let e = c.finish-node.ensures in
    let end : IsEnd c.in_ok-moved.moved c.finish-node.result.0 c.finish-node.result.1 c.finish-node.result.2 =
    record { added_is = e.added; commits_are = e.commits; none = e.fresh.0; kept = e.kept; stands = e.stands; table = e.table; place = e.place } in
    let long : c.saturating_add-later.result ≡ min (c.self.inside.log_length + length c.finish-node.result.1) (2 ^ 64 - 1) = omega (arith, ap (λ xs. length xs) c.items.ensures) in
    let may = subst (λ core. MayBeAsked core.plan core.site c.args.entry.input) (sym c.self.view_is) c.requires in
    let told = stepped s c.in_ok-moved.moved c.finish-node.result.0 c.self.inside.log_length c.saturating_add-later.result c.args.entry
    c.finish-node.result.1 c.finish-node.result.2 c.self.invariant.1 c.self.invariant.2
    (record { moves = c.in_ok-moved.ensures.moves; place = c.in_ok-moved.ensures.place; end = end })
    long c.a_step_keeps_limits.ensures may plan n (subst (λ core. IsCoreOf core plan n) (sym c.self.view_is) is) in
    record { core = told.core; commits = told.commits }
