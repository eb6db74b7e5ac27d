use Rattle.std.proofs.Common.{◌≡◌, ◌∙◌, ap, subst, arith, min}
use Rattle.std.specs.List.{AllByRecursion}
use Rattle.helios_model.specs.Limits.{most_sites}
use Rattle.log_exchange.specs.Runs.{IsOfSite, with_left}
use Rattle.log_exchange.proofs.Fronts.{cleared_all, cleared_more, cleared_none}
use Rattle.log_exchange.proofs.backlog.Backlog.drop_known.Goals as goal

pub loop-k-init : goal.loop-k-init
loop-k-init c = cleared_none c.args.self.now c.args.t.now.times (subst (λ b. AllByRecursion (IsOfSite b.count) b.entries) c.self.view_is c.self.invariant.sites)

pub loop-k-preserved : goal.loop-k-preserved
loop-k-preserved c =
    cleared_more c.args.self.now c.loop-k.self c.drop_run.new.self c.args.t.now.times c.loop-k.k c.loop-k.invariant
    (c.drop_run.ensures ∙ ap (with_left c.loop-k.self c.args.t.now.times) c.of.ensures)

pub returns : goal.returns
returns c =
    let end : c.loop-k.k ≡ c.min-k-end.result = omega arith in
    cleared_all c.args.self.now c.loop-k.self c.args.t.now.times c.loop-k.k c.loop-k.invariant
    (end ∙ c.min-k-end.ensures ∙ ap (λ b. min b.count most_sites) c.self.view_is)
