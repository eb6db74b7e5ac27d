use Rattle.std.proofs.Common.{inr, sym, ◌∙◌, ap}
use Rattle.std.specs.Prelude.{option_map}
use Rattle.graph_audit.proofs.Said.{none_first, said_all, said_unprepared}
use Rattle.graph_audit.proofs.gathering.committed.Goals as goal

pub returns-in-Some-first_unprepared : goal.returns-in-Some-first_unprepared
returns-in-Some-first_unprepared c =
    inr (said_unprepared c.in_ok-prepares.field-0 _ c.in_ok-prepares.ensures c.in-Some-first_unprepared.id.now
    (none_first c.first.result _ c.first.ensures.variant c.in_default.is)
    (sym c.first_unprepared.ensures ∙ ap (option_map (λ id. id.now)) c.in-Some-first_unprepared.is))

pub returns : goal.returns
returns c =
    said_all c.in_ok-prepares.field-0 _ c.in_ok-prepares.ensures c.in_ok-committed.committed
    (none_first c.first.result _ c.first.ensures.variant c.in_default.is)
    (sym c.first_unprepared.ensures ∙ ap (option_map (λ id. id.now)) c.in_default-first_unprepared.is)
    c.in_ok-committed.ensures
