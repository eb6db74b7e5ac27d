-- What a value says as a step of a schedule.
use Rattle.std.specs.Prelude.{ℕ, ◌&&◌, ◌||◌, Bool, List, Option, Some, None, option_map, is_none, nat_le, if◌then◌else◌, codes}
use Rattle.std.specs.List.{list_any}
use Rattle.serde_json.specs.Data.{Data}
use Rattle.serde_json.specs.Find.{get}
use Rattle.disk_store.specs.declared.fate.Keep.{Keep}
use Rattle.disk_store.specs.declared.fate.Keep.TheVariants.{All, Nothing, Byte}
use Rattle.disk_store.specs.declared.fate.Stop.{Stop}
use Rattle.helios_model.specs.Plans.{PlanData}
use Rattle.json_text.specs.Arrays.{whole_number}
use Rattle.json_text.specs.Members.{array_member, has_member, is_text, number_member}
use Rattle.json_text.specs.Unread.{◌>>=◌}
use Rattle.schedule_text.specs.declared.planned.Planned.{Planned}
use Rattle.schedule_text.specs.declared.steps.Step.{Step}
use Rattle.schedule_text.specs.declared.steps.Step.TheVariants.{Batch, Restart}
use Rattle.schedule_text.specs.Inputs.{inputs_of, site_member}
use Rattle.schedule_text.specs.Steps.{is_journaled, last_batch_call, last_restart_call}

-- ---- stops

abbrev pub byte_of : ℕ → Option Keep
byte_of number = if nat_le number 255 then Some (Byte number) else None

-- "all", "nothing" or a whole number up to 255
unfoldable pub keep_at : Data → Option Keep
keep_at d =
    if is_text (codes "all") d then Some All
    else (if is_text (codes "nothing") d then Some Nothing
    else whole_number d >>= byte_of)

-- a call from 1 to the last
abbrev pub call_of : ℕ → ℕ → Option ℕ
call_of last number = if nat_le 1 number && nat_le number last then Some number else None

-- {"call":K,"keep":X}
unfoldable pub stop_at : ℕ → Data → Option Stop
stop_at last d = do
  call ← number_member (codes "call") d >>= call_of last
  keep ← get (codes "keep") d >>= keep_at
  Some (record { call = call; keep = keep })

-- no stop where none is given, and else the one that the value says
abbrev pub stop_given : ℕ → Option Data → Option (Option Stop)
stop_given last None = Some None
stop_given last (Some d) = option_map Some (stop_at last d)

-- ---- steps

-- a stop needs an input that goes into the journal
abbrev pub may_stop : List Planned → Option Stop → Bool
may_stop inputs stop = is_none stop || list_any is_journaled inputs

-- {"site":S,"inputs":[..]}, and maybe "stop"
unfoldable pub batch_at : PlanData → Data → Option Step
batch_at plan d = do
  site ← site_member plan (codes "site") d
  inputs ← array_member (codes "inputs") d >>= inputs_of plan site
  stop ← stop_given last_batch_call (get (codes "stop") d)
  if may_stop inputs stop then Some (Batch site inputs stop) else None

-- {"restart":S}, and maybe "stop"
unfoldable pub restart_at : PlanData → Data → Option Step
restart_at plan d = do
  site ← site_member plan (codes "restart") d
  stop ← stop_given last_restart_call (get (codes "stop") d)
  Some (Restart site stop)

-- whether a value gives both of the names that tell the form of a step
abbrev pub is_both : Data → Bool
is_both d = has_member (codes "restart") d && has_member (codes "site") d

-- the step of a plan that a value says
unfoldable pub step_at : PlanData → Data → Option Step
step_at plan d =
    if is_both d then None
    else (if has_member (codes "restart") d then restart_at plan d
    else batch_at plan d)
