-- What the rest of a list gives each walk over it.
use Rattle.std.proofs.Common.{◌≡◌, ℕ, ◌+◌, ◌<◌, ◌++◌, List, ◌∷◌, length, get_or, drop, refl}
use Rattle.std.specs.List.{flat_map}
use Rattle.std.proofs.lemmas.List.{drop_more}
use Rattle.helios_model.specs.declared.messages.Message.{Message}
use Rattle.helios_model.specs.declared.records.CommitEvent.{CommitEvent}
use Rattle.schedule_text.specs.declared.planned.Planned.{Planned}
use Rattle.schedule_replay.specs.Refusals.{inputs_refusal}
use Rattle.schedule_replay.specs.Report.{commit_line}

pub refusal_drop : (sent : List Message) (step site : ℕ) (inputs : List Planned) (i : ℕ) (d : Planned) → i < length inputs
    → inputs_refusal sent step site (drop i inputs) ≡ inputs_refusal sent step site (get_or inputs i d ∷ drop (i + 1) inputs)
refusal_drop sent step site inputs i d h = rw (drop_more inputs i d h) refl

pub commit_lines_drop : (events : List CommitEvent) (i : ℕ) (d : CommitEvent) → i < length events
    → flat_map commit_line (drop i events) ≡ commit_line (get_or events i d) ++ flat_map commit_line (drop (i + 1) events)
commit_lines_drop events i d h = rw (drop_more events i d h) refl
