use Rattle.std.proofs.Common.{◌∙◌, sym}
use Rattle.prepare_pools.proofs.Firsts.{arrival_by_id, none_by_id}
use Rattle.prepare_pools.proofs.conflicts.first_touch.Goals as goal

pub returns-in-Some : goal.returns-in-Some
returns-in-Some c = c.arrival.ensures ∙ arrival_by_id c.args.any c.args.key.now _ _ _ c.in-Some.id c.requires.line c.requires.indexed c.touching.ensures (sym c.in-Some.ensures)

pub returns-in-None : goal.returns-in-None
returns-in-None c = none_by_id c.args.any c.args.key.now _ _ _ c.requires.indexed c.touching.ensures (sym c.in-None.ensures)
