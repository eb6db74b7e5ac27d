use Rattle.std.proofs.Common.{sym}
use Rattle.version_store.proofs.Entries.{gets_place}
use Rattle.version_store.proofs.places.make_place.Goals as goal

pub returns-clause-made : goal.returns-clause-made
returns-clause-made c =
    let e = c.in_ok-insert.ensures in
    gets_place c.args.key.now c.in_ok-copy.field-0 _ _ _ c.in_ok-copy.ensures (sym c.if-contains_key.ensures) e.entries e.updates.1 e.updates.2
