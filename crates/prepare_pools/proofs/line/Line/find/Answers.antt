use Rattle.std.proofs.Common.{◌∙◌, sym}
use Rattle.helios_model.specs.Ids.{same_id}
use Rattle.prepare_pools.proofs.Found.{none_at, value_at}
use Rattle.prepare_pools.proofs.line.Line.find.Goals as goal

pub returns-in-Some : goal.returns-in-Some
returns-in-Some c =
    c.get.ensures.value ∙ value_at (λ p. same_id p.id c.args.id.now) _ _ c.in-Some.arrival c.self.view_is c.self.invariant.line (sym c.in-Some.ensures)

pub returns-in-None : goal.returns-in-None
returns-in-None c = none_at (λ p. same_id p.id c.args.id.now) _ (sym c.in-None.ensures)
