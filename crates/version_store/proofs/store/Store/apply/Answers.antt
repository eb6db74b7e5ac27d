use Rattle.std.proofs.lemmas.Result.{on_ok_weaker}
use Rattle.version_store.proofs.Writes.{versions_after}
use Rattle.version_store.proofs.store.Store.apply.Goals as goal

pub returns-clause-versions : goal.returns-clause-versions
returns-clause-versions c =
    on_ok_weaker c.write_all.result (versions_after c.args.id _ _ _ _ _ c.items.ensures c.self.view_is) c.write_all.ensures.written
