-- The lines of a report: one for each reply, each stopped batch and each restart; then the commits, and what each site has come to.
use Rattle.std.specs.Prelude.{Bool, true, false, ℕ, ◌+◌, ◌-◌, ◌^◌, List, [], ◌∷◌, ◌++◌, length, min, codes, decimal, count_by}
use Rattle.std.specs.List.{flat_map, range_with_len}
use Rattle.std.specs.Option.{option_to_list}
use Rattle.hex.specs.Hex.{encode_lower}
use Rattle.helios_model.specs.declared.entries.Reply.{Reply}
use Rattle.helios_model.specs.declared.entries.Reply.TheVariants.{Prepared, Committed, Overwritten, Conflict, Value, State as StateReply, Sent, Taken, ClockSpent, PoolFull}
use Rattle.helios_model.specs.declared.entries.State.{State}
use Rattle.helios_model.specs.declared.entries.State.TheVariants.{Pending, Committed as StateCommitted, Aborted, Unknown}
use Rattle.helios_model.specs.declared.records.CommitEvent.{CommitEvent}
use Rattle.helios_model.specs.Ids.{id_text, version_text}
use Rattle.helios_model.specs.Plans.{PlanData, count_of}
use Rattle.helios_model.specs.Node.{Node, clock, own_open}
use Rattle.helios_model.specs.World.{World, Ending, Done, Kept, Lost, Told, message_in, node_of, replies}
use Rattle.schedule_text.specs.declared.steps.Step.{Step}
use Rattle.schedule_text.specs.declared.steps.Step.TheVariants.{Batch, Restart}
use Rattle.schedule_text.specs.declared.planned.Planned.{Planned}
use Rattle.schedule_replay.specs.Entries.{ending_of, entries_at}

-- the line feed
abbrev pub line_end : List ℕ
line_end = 10 ∷ []

-- the bytes of a value in hexadecimal, or `-` where there are none
abbrev pub value_text : List ℕ → List ℕ
value_text [] = codes "-"
value_text (b ∷ bs) = encode_lower (b ∷ bs)

abbrev pub state_text : State → List ℕ
state_text Pending = codes "state pending"
state_text StateCommitted = codes "state committed"
state_text (Aborted cause) = codes "state aborted " ++ id_text cause
state_text Unknown = codes "state unknown"

-- a reply before which so many messages were released, which is the number of the message that it sends
abbrev pub reply_text : ℕ → Reply → List ℕ
reply_text released (Prepared id) = codes "prepared " ++ id_text id
reply_text released (Committed id) = codes "committed " ++ id_text id
reply_text released (Overwritten key version) = codes "overwritten " ++ key ++ (codes " " ++ version_text version)
reply_text released (Conflict id) = codes "conflict " ++ id_text id
reply_text released (Value version value) = codes "value " ++ version_text version ++ codes " " ++ value_text value
reply_text released (StateReply state) = state_text state
reply_text released (Sent m) = codes "sent " ++ decimal released ++ codes " " ++ decimal (length m.records)
reply_text released Taken = codes "taken"
reply_text released ClockSpent = codes "clock-spent"
reply_text released PoolFull = codes "pool-full"

-- STEP SITE TEXT
abbrev pub step_line : ℕ → ℕ → List ℕ → List ℕ
step_line number site text = decimal number ++ codes " " ++ decimal site ++ codes " " ++ text ++ line_end

-- how many messages are released with one reply more
abbrev pub released_after : ℕ → Reply → ℕ
released_after released reply = released + length (option_to_list (message_in reply))

-- a line for each of these replies, before which so many messages were released
abbrev pub reply_lines : ℕ → ℕ → List Told → List ℕ
reply_lines number released [] = []
reply_lines number released (t ∷ ts) = step_line number t.site (reply_text released t.reply) ++ reply_lines number (released_after released t.reply) ts

-- the lines of a batch: a line for each reply, or one that tells how the batch was stopped
abbrev pub batch_lines : PlanData → World → ℕ → ℕ → List Planned → Ending → List ℕ
batch_lines plan w number site inputs Done = reply_lines number (length w.sent) (replies plan (node_of plan w site) (entries_at plan w site inputs))
batch_lines plan w number site inputs Kept = step_line number site (codes "kept")
batch_lines plan w number site inputs Lost = step_line number site (codes "lost")

-- the lines of a step with this number
abbrev pub step_lines : PlanData → World → ℕ → Step → List ℕ
step_lines plan w number (Batch site inputs stop) = batch_lines plan w number site inputs (ending_of stop)
step_lines plan w number (Restart site stop) = step_line number site (codes "restarted")

abbrev pub commit_line : CommitEvent → List ℕ
commit_line e = codes "commit " ++ id_text e.prepare.id ++ line_end

-- site S time T log L pending P
abbrev pub site_text : ℕ → ℕ → ℕ → ℕ → List ℕ
site_text site time log pending = codes "site " ++ decimal site ++ codes " time " ++ decimal time ++ codes " log " ++ decimal log ++ codes " pending " ++ decimal pending ++ line_end

-- what a site has come to; a log that is longer counts as 2^64 - 1 records
abbrev pub site_line : PlanData → Node → List ℕ
site_line plan n = site_text n.site (clock plan n) (min (length n.log) (2 ^ 64 - 1)) (length (own_open n))

-- the lines after those of the steps: the commits, and what each site has come to
abbrev pub closing_lines : PlanData → World → List ℕ
closing_lines plan w = flat_map commit_line w.history ++ flat_map (λ site. site_line plan (node_of plan w site)) (range_with_len 0 (count_of plan))

abbrev pub is_refusal : Reply → Bool
is_refusal (Prepared id) = false
is_refusal (Committed id) = false
is_refusal (Overwritten key version) = true
is_refusal (Conflict id) = true
is_refusal (Value version value) = false
is_refusal (StateReply state) = false
is_refusal (Sent m) = false
is_refusal Taken = false
is_refusal ClockSpent = false
is_refusal PoolFull = false

-- how many released replies name an overwritten read or a conflict
abbrev pub refusals_in : List Told → ℕ
refusals_in told = count_by (λ t. is_refusal t.reply) told
