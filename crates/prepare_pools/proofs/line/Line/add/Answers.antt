use Rattle.std.proofs.Common.{◌∙◌, ap, refl}
use Rattle.prepare_pools.proofs.Waits.{as_it_was, enters, has_entered}
use Rattle.prepare_pools.proofs.line.Line.add.Goals as goal

pub enter-requires-clause-last : goal.enter-requires-clause-last
enter-requires-clause-last c =
    (enters _ _ _ _ _ _ c.args.p.id _ c.self.view_is c.self.invariant c.requires
    (c.number-at.ensures.value ∙ ap (λ i. i.site) c.id-id.ensures) c.number-at.ensures.small (c.half_micros-time.ensures ∙ ap (λ i. i.time) c.id-id.ensures) c.index_mut-site.ensures.value).0

pub enter-requires-clause-absent : goal.enter-requires-clause-absent
enter-requires-clause-absent c =
    (enters _ _ _ _ _ _ c.args.p.id _ c.self.view_is c.self.invariant c.requires
    (c.number-at.ensures.value ∙ ap (λ i. i.site) c.id-id.ensures) c.number-at.ensures.small (c.half_micros-time.ensures ∙ ap (λ i. i.time) c.id-id.ensures) c.index_mut-site.ensures.value).1

pub invariant_of-self-in-Ok : goal.invariant_of-self-in-Ok
invariant_of-self-in-Ok c =
    (has_entered _ _ _ _ _ _ _ _ c.args.p _ _ c.self.view_is c.self.invariant c.requires
    (c.number-at.ensures.value ∙ ap (λ i. i.site) c.id-id.ensures) c.number-at.ensures.small (c.half_micros-time.ensures ∙ ap (λ i. i.time) c.id-id.ensures) c.index_mut-site.ensures.value
    c.in_ok-enter.ensures.entered refl c.in-Ok.ensures.entries).0

pub returns-in-Ok-clause-added : goal.returns-in-Ok-clause-added
returns-in-Ok-clause-added c =
    (has_entered _ _ _ _ _ _ _ _ c.args.p _ _ c.self.view_is c.self.invariant c.requires
    (c.number-at.ensures.value ∙ ap (λ i. i.site) c.id-id.ensures) c.number-at.ensures.small (c.half_micros-time.ensures ∙ ap (λ i. i.time) c.id-id.ensures) c.index_mut-site.ensures.value
    c.in_ok-enter.ensures.entered refl c.in-Ok.ensures.entries).1

pub invariant_of-self-in-Err : goal.invariant_of-self-in-Err
invariant_of-self-in-Err c =
    as_it_was _ _ _ _ _ _ _ _ _ c.args.p.id _ _ c.self.view_is c.self.invariant c.requires
    (c.number-at.ensures.value ∙ ap (λ i. i.site) c.id-id.ensures) c.number-at.ensures.small (c.half_micros-time.ensures ∙ ap (λ i. i.time) c.id-id.ensures) c.index_mut-site.ensures.value
    c.in_ok-enter.ensures.entered c.index_mut-site-in-Err.ensures.value c.leave.ensures.left c.in-Err.ensures.err
