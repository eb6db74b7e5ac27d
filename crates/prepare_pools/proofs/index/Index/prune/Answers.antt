use Rattle.std.proofs.Common.{◌≡◌, ◌∙◌, ap, sym, None, [], length}
use Rattle.std.proofs.lemmas.Bool.{eqb-true}
use Rattle.prepare_pools.specs.Touches.{touched}
use Rattle.prepare_pools.proofs.Lists.{empty_is, list_kept}
use Rattle.prepare_pools.proofs.index.Index.prune.Goals as goal
use Rattle.prepare_pools.proofs.index.Index.prune.Goals.{in-Some-1, in-None-1}

pub returns-then-is_empty : goal.returns-then-is_empty
returns-then-is_empty c =
    let empty : c.touching.result.now ≡ [] =
    empty_is c.touching.result.now (eqb-true (length c.touching.result.now) 0 (sym c.is_empty.ensures ∙ c.if-is_empty.true)) in
    let kept = list_kept c.args.key.now _ _ _ None c.self.view_is c.remove.ensures.updates.0
    (sym (ap (λ es. touched es c.args.key.now) c.self.view_is ∙ (sym c.touching.ensures ∙ empty))) in
    elim c.match-remove.branch [ in-Some-1 w ↦ rw w.self-is kept | in-None-1 w ↦ rw w.self-is kept ]
