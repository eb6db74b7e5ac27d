use Rattle.std.proofs.Common.{sym, refl}
use Rattle.prepare_pools.proofs.Pooled.{indexed_less, indexed_same, none_out, removed_values}
use Rattle.prepare_pools.proofs.pools.Pools.remove.Goals as goal

pub invariant_of-self : goal.invariant_of-self
invariant_of-self c =
    indexed_less c.args.id c.in-Some.p _ _ _ _ c.self.invariant c.remove.ensures.line (sym c.in-Some.ensures.found) c.remove.ensures.removed c.untouch_all.ensures

pub invariant_of-self-in-None : goal.invariant_of-self-in-None
invariant_of-self-in-None c =
    indexed_same _ _ _ _ c.self.invariant (none_out c.args.id _ _ (sym c.in-None.ensures.found) c.remove.ensures.removed) (λ key. refl)

pub returns-in-Some-clause-removed : goal.returns-in-Some-clause-removed
returns-in-Some-clause-removed c = removed_values c.args.id _ _ _ c.self.view_is c.remove.ensures.removed

pub returns-in-None-clause-removed : goal.returns-in-None-clause-removed
returns-in-None-clause-removed c = removed_values c.args.id _ _ _ c.self.view_is c.remove.ensures.removed
