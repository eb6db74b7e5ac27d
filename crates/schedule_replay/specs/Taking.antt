-- Which inputs a site can take, and what telling the replies to them adds to what a replay tells.
use Rattle.std.specs.Prelude.{◌≡◌, ℕ, ◌+◌, ◌-◌, ◌^◌, List, [], ◌∷◌, ◌++◌, length, min, IfSome, slice_get, codes, if◌then◌else◌}
use Rattle.std.specs.List.{count_by, filter_map, sum_by}
use Rattle.helios_model.specs.declared.entries.Reply.{Reply}
use Rattle.disk_store.specs.declared.fate.Stop.{Stop}
use Rattle.node_journal.specs.Appending.{is_kept}
use Rattle.helios_model.specs.declared.messages.Message.{Message}
use Rattle.helios_model.specs.Plans.{PlanData}
use Rattle.helios_model.specs.Step.{IsFor}
use Rattle.helios_model.specs.World.{message_in}
use Rattle.schedule_text.specs.declared.planned.Planned.{Planned}
use Rattle.schedule_text.specs.declared.planned.Planned.TheVariants.{Get, Status, Request, Pull, Push}
use Rattle.schedule_text.specs.Steps.{IsInput}
use Rattle.schedule_replay.specs.declared.output.Output.{Output}
use Rattle.schedule_replay.specs.Progress.{message_size}
use Rattle.schedule_replay.specs.Report.{is_refusal, released_after, reply_text, step_line}

-- a site of the plan can take the input, over the messages that were sent
abbrev pub CanTake : PlanData → ℕ → List Message → Planned → Type 0
CanTake plan site sent (Get key) = IsInput plan site (Get key)
CanTake plan site sent (Status id) = IsInput plan site (Status id)
CanTake plan site sent (Request at reads puts) = IsInput plan site (Request at reads puts)
CanTake plan site sent (Pull at to) = IsInput plan site (Pull at to)
CanTake plan site sent (Push at message) = IfSome (slice_get sent message) (IsFor plan site)

-- a line for each reply of a site, before which so many messages were released
abbrev pub lines_told : ℕ → ℕ → ℕ → List Reply → List ℕ
lines_told number site released [] = []
lines_told number site released (r ∷ rs) = step_line number site (reply_text released r) ++ lines_told number site (released_after released r) rs

abbrev pub messages_told : List Reply → List Message
messages_told replies = filter_map message_in replies

-- the replies of a site to a step with this number were told: a line for each, and their messages were released
pub record HasTold (number site : ℕ) (before : Output) (replies : List Reply) (after : Output) : Type 0 where
  pub text : after.text.items ≡ before.text.items ++ lines_told number site (length before.sent.items) replies
  pub sent : after.sent.items ≡ before.sent.items ++ messages_told replies
  pub commits : after.commits.items ≡ before.commits.items
  pub refusals : after.refusals ≡ before.refusals + count_by is_refusal replies
  pub volume : after.volume ≡ min (before.volume + length (lines_told number site (length before.sent.items) replies) + sum_by message_size (messages_told replies)) (2 ^ 64 - 1)

-- the line of a stopped batch
abbrev pub stop_line : ℕ → ℕ → Stop → List ℕ
stop_line number site stop = step_line number site (if is_kept stop.call stop.keep then codes "kept" else codes "lost")

-- a line was added, and nothing else
pub record HasAdded (before : Output) (line : List ℕ) (after : Output) : Type 0 where
  pub text : after.text.items ≡ before.text.items ++ line
  pub sent : after.sent.items ≡ before.sent.items
  pub commits : after.commits.items ≡ before.commits.items
  pub refusals : after.refusals ≡ before.refusals
  pub volume : after.volume ≡ min (before.volume + length line) (2 ^ 64 - 1)
