use Rattle.std.proofs.Common.{◌∙◌, ap}
use Rattle.prepare_pools.proofs.Pooled.{added_found, added_is, back_again, found_some, fresh, indexed_more, indexed_same}
use Rattle.prepare_pools.proofs.pools.Pools.add.Goals as goal

pub unwrap-added-requires : goal.unwrap-added-requires
unwrap-added-requires c = found_some _ c.args.p (added_found _ _ _ c.args.p _ _ c.self.view_is c.requires c.id-id.ensures c.in_ok-add.ensures.added c.find.ensures)

pub touch_all-requires : goal.touch_all-requires
touch_all-requires c =
    let found = added_found _ _ _ c.args.p _ _ c.self.view_is c.requires c.id-id.ensures c.in_ok-add.ensures.added c.find.ensures in
    fresh c.args.p.id _ _ _ _ c.self.view_is c.self.invariant (ap (λ p. p.id) (added_is _ _ c.args.p found c.unwrap-added.ensures)) c.requires

pub invariant_of-self-in-Ok : goal.invariant_of-self-in-Ok
invariant_of-self-in-Ok c =
    let found = added_found _ _ _ c.args.p _ _ c.self.view_is c.requires c.id-id.ensures c.in_ok-add.ensures.added c.find.ensures in
    indexed_more _ _ c.args.p _ _ _ c.self.invariant (added_is _ _ c.args.p found c.unwrap-added.ensures) c.in_ok-add.ensures.added c.in-Ok.ensures.pushed

pub invariant_of-self-in-Err : goal.invariant_of-self-in-Err
invariant_of-self-in-Err c =
    indexed_same _ _ _ _ c.self.invariant (back_again _ _ c.args.p _ _ _ c.self.view_is c.requires c.id-id.ensures c.in_ok-add.ensures.added c.remove.ensures.removed) c.in-Err.ensures.as_before

pub returns-in-Err-clause-as_before : goal.returns-in-Err-clause-as_before
returns-in-Err-clause-as_before c =
    back_again _ _ c.args.p _ _ _ c.self.view_is c.requires c.id-id.ensures c.in_ok-add.ensures.added c.remove.ensures.removed ∙ c.self.view_is
