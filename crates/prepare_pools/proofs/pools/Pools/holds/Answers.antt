use Rattle.helios_model.specs.Ids.{same_id}
use Rattle.prepare_pools.proofs.Pooled.{held_is}
use Rattle.prepare_pools.proofs.pools.Pools.holds.Goals as goal

pub returns : goal.returns
returns c = held_is (λ p. same_id p.id c.args.id) _ _ c.find.result _ c.self.view_is c.is_some.ensures c.find.ensures
