use Rattle.std.proofs.Common.{◌∙◌, ap, sym, filter, not}
use Rattle.helios_model.specs.Ids.{same_id}
use Rattle.prepare_pools.proofs.Waits.{has_left, none_taken, taken}
use Rattle.prepare_pools.proofs.line.Line.remove.Goals as goal

pub invariant_of-self : goal.invariant_of-self
invariant_of-self c =
    has_left _ _ _ _ _ _ _ c.args.id.now _ c.self.invariant c.number.ensures.value c.number.ensures.small c.half_micros.ensures c.index_mut-site.ensures.value c.in-Some.ensures.left
    (taken _ _ _ _ _ c.in-Some.arrival _ c.args.id.now _ _ c.self.view_is c.self.invariant c.number.ensures.value c.number.ensures.small c.half_micros.ensures c.index_mut-site.ensures.value (sym c.in-Some.ensures.arrival) c.remove.ensures.entries).0

pub invariant_of-self-in-None : goal.invariant_of-self-in-None
invariant_of-self-in-None c =
    has_left _ _ _ _ _ _ _ c.args.id.now _ c.self.invariant c.number.ensures.value c.number.ensures.small c.half_micros.ensures c.index_mut-site.ensures.value c.in-None.ensures.left
    (none_taken _ _ _ _ _ _ c.args.id.now _ c.self.view_is c.self.invariant c.number.ensures.value c.number.ensures.small c.half_micros.ensures c.index_mut-site.ensures.value (sym c.in-None.ensures.arrival)).0

pub returns-in-Some-clause-found : goal.returns-in-Some-clause-found
returns-in-Some-clause-found c =
    c.remove.ensures.value ∙
    (taken _ _ _ _ _ c.in-Some.arrival _ c.args.id.now _ _ c.self.view_is c.self.invariant c.number.ensures.value c.number.ensures.small c.half_micros.ensures c.index_mut-site.ensures.value (sym c.in-Some.ensures.arrival) c.remove.ensures.entries).1

pub returns-in-Some-clause-removed : goal.returns-in-Some-clause-removed
returns-in-Some-clause-removed c =
    (taken _ _ _ _ _ c.in-Some.arrival _ c.args.id.now _ _ c.self.view_is c.self.invariant c.number.ensures.value c.number.ensures.small c.half_micros.ensures c.index_mut-site.ensures.value (sym c.in-Some.ensures.arrival) c.remove.ensures.entries).0 ∙
    ap (filter (λ e. not (same_id e.1.id c.args.id.now))) c.self.view_is

pub returns-in-None-clause-found : goal.returns-in-None-clause-found
returns-in-None-clause-found c =
    (none_taken _ _ _ _ _ _ c.args.id.now _ c.self.view_is c.self.invariant c.number.ensures.value c.number.ensures.small c.half_micros.ensures c.index_mut-site.ensures.value (sym c.in-None.ensures.arrival)).1

pub returns-in-None-clause-removed : goal.returns-in-None-clause-removed
returns-in-None-clause-removed c =
    (none_taken _ _ _ _ _ _ c.args.id.now _ c.self.view_is c.self.invariant c.number.ensures.value c.number.ensures.small c.half_micros.ensures c.index_mut-site.ensures.value (sym c.in-None.ensures.arrival)).0 ∙
    ap (filter (λ e. not (same_id e.1.id c.args.id.now))) c.self.view_is
