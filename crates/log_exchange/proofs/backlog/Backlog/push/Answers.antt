use Rattle.std.proofs.Common.{◌∙◌, ap, refl, sym, subst, ◌<◌}
use Rattle.helios_model.specs.Log.{origin}
use Rattle.log_exchange.proofs.Backlogs.{as_it_was, has_entered}
use Rattle.log_exchange.proofs.backlog.Backlog.push.Goals as goal

pub invariant_of-self-in-Ok : goal.invariant_of-self-in-Ok
invariant_of-self-in-Ok c =
    (has_entered c.self.inside.count _ c.args.self.now.entries _ _ _ _ _ _ _ _ c.args.r (ap (λ b. b.entries) c.self.view_is) c.self.invariant
    (c.number-at.ensures.value ∙ c.origin.ensures) c.number-at.ensures.small (subst (λ b. origin c.args.r < b.count) (sym c.self.view_is) c.requires) (c.half_micros-time.ensures ∙ c.own_time.ensures) c.index_mut-run.ensures.value
    c.in_ok-push.ensures.pushed refl c.in-Ok.ensures.entries).0

pub returns-in-Ok-clause-pushed : goal.returns-in-Ok-clause-pushed
returns-in-Ok-clause-pushed c =
    (has_entered c.self.inside.count _ c.args.self.now.entries _ _ _ _ _ _ _ _ c.args.r (ap (λ b. b.entries) c.self.view_is) c.self.invariant
    (c.number-at.ensures.value ∙ c.origin.ensures) c.number-at.ensures.small (subst (λ b. origin c.args.r < b.count) (sym c.self.view_is) c.requires) (c.half_micros-time.ensures ∙ c.own_time.ensures) c.index_mut-run.ensures.value
    c.in_ok-push.ensures.pushed refl c.in-Ok.ensures.entries).1

pub invariant_of-self-in-Err : goal.invariant_of-self-in-Err
invariant_of-self-in-Err c =
    as_it_was c.self.inside.count _ _ _ _ _ _ _ _ _ _ c.args.r c.self.invariant (c.number-at.ensures.value ∙ c.origin.ensures) (subst (λ b. origin c.args.r < b.count) (sym c.self.view_is) c.requires) c.index_mut-run.ensures.value
    c.in_ok-push.ensures.pushed c.index_mut-run-in-Err.ensures.value c.take_back.ensures c.in-Err.ensures.err
