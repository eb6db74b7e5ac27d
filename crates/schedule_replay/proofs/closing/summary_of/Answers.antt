use Rattle.std.proofs.Common.{subst}
use Rattle.schedule_replay.specs.Walks.{IsSeat}
use Rattle.schedule_replay.proofs.Ending.{host_summary, none_summary}
use Rattle.schedule_replay.proofs.closing.summary_of.Goals as goal

pub returns-in-Some : goal.returns-in-Some
returns-in-Some c = λ plan p site m h.
    c.summary.ensures plan _ (host_summary c.host_laws.ensures.recovered plan p site c.in-Some.host m (subst (λ o. IsSeat plan p site o m) c.in-Some.is h))

pub returns-in-None : goal.returns-in-None
returns-in-None c = λ plan p site m h.
    none_summary plan p site m c.of.result c.of.ensures (subst (λ o. IsSeat plan p site o m) c.in-None.is h)
