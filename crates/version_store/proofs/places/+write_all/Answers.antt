use Rattle.std.proofs.Common.{◌≡◌, ◌-◌, ◌∷◌, length, take, drop, arith}
use Rattle.std.proofs.lemmas.Grind.{common_steps}
use Rattle.version_store.proofs.Writes.{write_step}
use Rattle.version_store.proofs.places.+write_all.Goals as goal

pub returns-in-Ok-clause-written : goal.returns-in-Ok-clause-written
returns-in-Ok-clause-written t c =
    let writes = c.args.writes.now in
    let all : writes ≡ c.first-item.result ∷ take (length writes - 1) (drop 1 writes) = grind (arith, common_steps) in
    write_step c.args.id.now c.first-item.result _ _ c.in_ok-value-in-len1-up.value _ _ _ _ _ all c.in_ok-value-in-len1-up.ensures
    c.in_ok-made-in-len1-up.ensures.made c.in-Ok.ensures.written c.put.ensures.0
