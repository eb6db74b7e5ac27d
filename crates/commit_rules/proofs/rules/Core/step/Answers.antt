use Rattle.std.proofs.Common.{◌≡◌, ◌+◌, ◌-◌, ◌^◌, arith, ap, length, min, sym, subst}
use Rattle.helios_model.specs.Step.{MayBeAsked, step}
use Rattle.commit_rules.specs.Core.{IsCoreOf}
use Rattle.commit_rules.proofs.Standing.{IsAt, IsEnd, base_of, core_still, moved, parts_at, replied, reply_still, stepped}
use Rattle.commit_rules.proofs.rules.Core.step.Goals as goal

pub answer-requires-clause-within : goal.answer-requires-clause-within
answer-requires-clause-within c =
    let s = c.self.inside.node in
    let n = c.self.invariant.0.node in
    let at : IsAt s.plan n s = parts_at s c.self.inside.log_length s.plan n c.self.invariant.0.is c.self.invariant.1 c.self.invariant.2 in
    record { base = base_of n s; is = at.stands; within = at.within }

pub invariant_of-core : goal.invariant_of-core
invariant_of-core c =
    let s = c.self.inside.node in
    let e = c.finish-node.ensures in
    let end : IsEnd c.in_ok-answered.answered c.finish-node.result.0 c.finish-node.result.1 c.finish-node.result.2 =
    record { added_is = e.added; commits_are = e.commits; none = e.fresh.0; kept = e.kept; stands = e.stands; table = e.table; place = e.place } in
    let long : c.saturating_add.result ≡ min (c.self.inside.log_length + length c.finish-node.result.1) (2 ^ 64 - 1) = omega (arith, ap (λ xs. length xs) c.items.ensures) in
    let may = subst (λ core. MayBeAsked core.plan core.site c.args.entry.input) (sym c.self.view_is) c.requires in (
      core_still s c.in_ok-answered.answered c.finish-node.result.0 c.self.inside.log_length c.saturating_add.result c.args.entry
          c.finish-node.result.1 c.finish-node.result.2 c.self.invariant.1 c.self.invariant.2
          (record { moves = moved s c.in_ok-answered.answered c.in_ok-answered.reply (λ m. step s.plan m c.args.entry) c.in_ok-answered.ensures.answer; place = c.in_ok-answered.ensures.place; end = end })
          long c.a_step_keeps_limits.ensures may c.self.invariant.0,
      e.fresh.0,
      e.fresh.1,
    )

pub returns-clause-outcome : goal.returns-clause-outcome
returns-clause-outcome c =
    λ plan n is.
    let s = c.self.inside.node in
    let e = c.finish-node.ensures in
    let end : IsEnd c.in_ok-answered.answered c.finish-node.result.0 c.finish-node.result.1 c.finish-node.result.2 =
    record { added_is = e.added; commits_are = e.commits; none = e.fresh.0; kept = e.kept; stands = e.stands; table = e.table; place = e.place } in
    let long : c.saturating_add.result ≡ min (c.self.inside.log_length + length c.finish-node.result.1) (2 ^ 64 - 1) = omega (arith, ap (λ xs. length xs) c.items.ensures) in
    let may = subst (λ core. MayBeAsked core.plan core.site c.args.entry.input) (sym c.self.view_is) c.requires in
    let told = stepped s c.in_ok-answered.answered c.finish-node.result.0 c.self.inside.log_length c.saturating_add.result c.args.entry
    c.finish-node.result.1 c.finish-node.result.2 c.self.invariant.1 c.self.invariant.2
    (record { moves = moved s c.in_ok-answered.answered c.in_ok-answered.reply (λ m. step s.plan m c.args.entry) c.in_ok-answered.ensures.answer; place = c.in_ok-answered.ensures.place; end = end })
    long c.a_step_keeps_limits.ensures may plan n (subst (λ core. IsCoreOf core plan n) (sym c.self.view_is) is) in
    record {
      core = told.core;
      reply =
          replied s c.in_ok-answered.answered c.self.inside.log_length c.args.entry c.in_ok-answered.reply c.self.invariant.1 c.self.invariant.2 c.in_ok-answered.ensures.answer plan n
          (subst (λ core. IsCoreOf core plan n) (sym c.self.view_is) is);
      added = told.added;
      commits = told.commits;
    }

pub returns-clause-spelled : goal.returns-clause-spelled
returns-clause-spelled c =
    let s = c.self.inside.node in
    let may = subst (λ core. MayBeAsked core.plan core.site c.args.entry.input) (sym c.self.view_is) c.requires in
    reply_still s c.in_ok-answered.answered c.self.inside.log_length c.args.entry c.in_ok-answered.reply c.self.invariant.1 c.self.invariant.2 c.in_ok-answered.ensures.answer
    c.each_reply_is_spellable.ensures may c.self.invariant.0
