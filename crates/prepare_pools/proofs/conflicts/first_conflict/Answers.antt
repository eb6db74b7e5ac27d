use Rattle.std.proofs.Common.{◌∙◌, ap, map, refl, sym}
use Rattle.std.specs.Option.{option_map}
use Rattle.helios_model.specs.Transactions.{conflict}
use Rattle.prepare_pools.proofs.Found.{none_at, value_at}
use Rattle.prepare_pools.proofs.Firsts.{conflict_at}
use Rattle.prepare_pools.proofs.conflicts.first_conflict.Goals as goal

pub returns-in-Some : goal.returns-in-Some
returns-in-Some c =
    c.id_at.ensures ∙ ap (option_map (λ q. q.id)) (value_at (conflict c.args.p.now) _ _ c.in-Some.arrival refl c.requires.line
    (sym (conflict_at c.args.p.now _ _ c.args.line.now _ _ _ c.requires.line (ap (map (λ w. w.key)) (c.items.ensures ∙ c.writes.ensures.value)) (ap (map (λ r. r.key)) (c.items-2.ensures ∙ c.reads.ensures.value))
    c.first_among-written.ensures c.first_among-read.ensures c.in-Some.ensures)))

pub returns-in-None : goal.returns-in-None
returns-in-None c =
    ap (option_map (λ q. q.id)) (none_at (conflict c.args.p.now) c.args.line.now
    (sym (conflict_at c.args.p.now _ _ c.args.line.now _ _ _ c.requires.line (ap (map (λ w. w.key)) (c.items.ensures ∙ c.writes.ensures.value)) (ap (map (λ r. r.key)) (c.items-2.ensures ∙ c.reads.ensures.value))
    c.first_among-written.ensures c.first_among-read.ensures c.in-None.ensures)))
