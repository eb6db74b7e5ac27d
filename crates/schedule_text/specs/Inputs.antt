-- What a value says as an input of a batch.
use Rattle.std.specs.Prelude.{ℕ, ◌==◌, List, [], ◌∷◌, length, Option, Some, None, option_map, nat_lt, count_by, if◌then◌else◌, codes}
use Rattle.serde_json.specs.Data.{Data, Items}
use Rattle.serde_json.specs.Find.{get}
use Rattle.helios_model.specs.Limits.{most_inputs}
use Rattle.helios_model.specs.Plans.{PlanData, count_of}
use Rattle.helios_model.specs.declared.transactions.PutItem.{PutItem}
use Rattle.json_text.specs.Lists.{parts_of}
use Rattle.json_text.specs.Members.{array_member, has_member, number_member, pair_at}
use Rattle.json_text.specs.Spelled.{id_at, key_at, named_version_at}
use Rattle.json_text.specs.Transactions.{keyed_of, put_at}
use Rattle.json_text.specs.Unread.{◌>>=◌}
use Rattle.json_text.specs.declared.spelled.NamedVersion.{NamedVersion}
use Rattle.json_text.specs.declared.spelled.NamedVersion.TheVariants as named
use Rattle.schedule_text.specs.declared.planned.Planned.{Planned}
use Rattle.schedule_text.specs.declared.planned.Planned.TheVariants.{Get, Status, Request, Pull, Push}
use Rattle.schedule_text.specs.declared.planned.PlannedRead.{PlannedRead}
use Rattle.schedule_text.specs.declared.planned.PlannedVersion.{PlannedVersion}
use Rattle.schedule_text.specs.declared.planned.PlannedVersion.TheVariants.{At, Current}

-- ---- sites

-- the site of the plan with this number
unfoldable pub site_of : PlanData → ℕ → Option ℕ
site_of plan number = if nat_lt number (count_of plan) then Some number else None

-- the site of the plan that the member of this name numbers
abbrev pub site_member : PlanData → List ℕ → Data → Option ℕ
site_member plan name d = number_member name d >>= site_of plan

-- ---- reads and writes

abbrev pub planned_version : NamedVersion → PlannedVersion
planned_version named.Current = Current
planned_version (named.At version) = At version

-- a read, [KEY,VERSION], whose version may be `current`
unfoldable pub read_at : Data → Option PlannedRead
read_at d = do
  pair ← pair_at d
  key ← key_at pair.0
  version ← named_version_at pair.1
  Some (record { key = key; version = planned_version version })

-- at most 16 reads, of distinct keys
unfoldable pub reads_of : Items → Option (List PlannedRead)
reads_of items = keyed_of (λ r. r.key) read_at items

-- at most 16 writes, of distinct keys
unfoldable pub puts_of : Items → Option (List PutItem)
puts_of items = keyed_of (λ p. p.key) put_at items

-- ---- the five forms of an input

-- {"get":KEY}
unfoldable pub get_at : Data → Option Planned
get_at d = option_map Get (get (codes "get") d >>= key_at)

-- {"status":ID}
unfoldable pub status_at : Data → Option Planned
status_at d = option_map Status (get (codes "status") d >>= id_at)

-- {"at":T,"reads":[[KEY,VERSION],..],"writes":[[KEY,VALUE],..]}
unfoldable pub request_at : Data → Option Planned
request_at d = do
  at ← number_member (codes "at") d
  reads ← array_member (codes "reads") d >>= reads_of
  puts ← array_member (codes "writes") d >>= puts_of
  Some (Request at reads puts)

-- another site than this one
abbrev pub other_site : ℕ → ℕ → Option ℕ
other_site site to = if to == site then None else Some to

-- {"at":T,"pull":S}, with a site of the plan other than that of the step
unfoldable pub pull_at : PlanData → ℕ → Data → Option Planned
pull_at plan site d = do
  at ← number_member (codes "at") d
  to ← site_member plan (codes "pull") d >>= other_site site
  Some (Pull at to)

-- {"at":T,"push":M}
unfoldable pub push_at : Data → Option Planned
push_at d = do
  at ← number_member (codes "at") d
  message ← number_member (codes "push") d
  Some (Push at message)

-- ---- an input

-- how many of the names that tell the form of an input a value gives, whatever their values
abbrev pub forms_given : Data → ℕ
forms_given d = count_by (λ given. given)
    (has_member (codes "get") d ∷ has_member (codes "status") d ∷ has_member (codes "reads") d ∷ has_member (codes "pull") d ∷ has_member (codes "push") d ∷ [])

-- the input of a site that a value says by the one of the names that it gives
unfoldable pub input_at : PlanData → ℕ → Data → Option Planned
input_at plan site d =
    if nat_lt 1 (forms_given d) then None
    else (if has_member (codes "get") d then get_at d
    else (if has_member (codes "status") d then status_at d
    else (if has_member (codes "reads") d then request_at d
    else (if has_member (codes "pull") d then pull_at plan site d
    else push_at d))))

-- a list of one item or more
abbrev pub some_of : {T : Type 0} → List T → Option (List T)
some_of xs = if length xs == 0 then None else Some xs

-- 1 to 16 inputs of a site
unfoldable pub inputs_of : PlanData → ℕ → Items → Option (List Planned)
inputs_of plan site items = parts_of most_inputs (input_at plan site) items >>= some_of
