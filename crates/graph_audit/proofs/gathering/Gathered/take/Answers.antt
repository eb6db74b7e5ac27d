use Rattle.std.proofs.Common.{◌++◌, ◌∷◌, [], refl, sym, subst}
use Rattle.graph_audit.specs.Gathered.{IsGathered}
use Rattle.graph_audit.proofs.More.{with_abort, with_commit}
use Rattle.graph_audit.proofs.gathering.Gathered.take.Goals as goal

pub returns-in_ok-add_id-in-Commit : goal.returns-in_ok-add_id-in-Commit
returns-in_ok-add_id-in-Commit c = λ records is.
    subst (λ r. IsGathered (record { prepares = c.args.self.now.prepares; differing = c.args.self.now.differing; committed = c.add_id.new.ids }) (records ++ r ∷ [])) (sym c.in-Commit.is)
    (with_commit c.args.self.now (record { prepares = c.args.self.now.prepares; differing = c.args.self.now.differing; committed = c.add_id.new.ids })
    c.in-Commit.id c.in-Commit.time records is (λ other. refl) refl c.in_ok-add_id-in-Commit.ensures)

pub returns-in-Abort : goal.returns-in-Abort
returns-in-Abort c = λ records is.
    subst (λ r. IsGathered c.args.self.now (records ++ r ∷ [])) (sym c.in-Abort.is)
    (with_abort c.args.self.now c.args.self.now c.in-Abort.id c.in-Abort.cause c.in-Abort.time records is (λ other. refl) refl refl)
