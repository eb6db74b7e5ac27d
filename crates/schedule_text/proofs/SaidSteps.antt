-- What a value says as a step is a step that the plan can have.
use Rattle.std.proofs.Common.{◌≡◌, ℕ, suc, ◌+◌, ◌<◌, ◌≤◌, ◌≢◌, ◌&&◌, ◌||◌, Bool, true, false, List, [], ◌∷◌, ◌==◌, length, nat_lt, nat_le, Option, Some, None, Result, Ok, Err, option_map, option_and_then, All, IsTrue, IsSome, if◌then◌else◌, refl, ap, subst, arith, codes}
use Rattle.std.specs.Prelude.{is_none}
use Rattle.std.specs.List.{list_any}
use Rattle.std.proofs.lemmas.Bool.{and_parts, eqb-false, leb-true, ltb-true}
use Rattle.std.proofs.lemmas.List.Elements.{All-cons, All-nil, All-weaker}
use Rattle.serde_json.specs.Data.{Data, Items, item, no_items}
use Rattle.serde_json.specs.Events.{items_len}
use Rattle.serde_json.specs.Find.{get}
use Rattle.serde_json.specs.View.{items_view}
use Rattle.serde_json.specs.declared.value.Value.{Value}
use Rattle.serde_json.proofs.Views.{items_len-items_view}
use Rattle.disk_store.specs.declared.fate.Keep.{Keep}
use Rattle.disk_store.specs.declared.fate.Stop.{Stop}
use Rattle.helios_model.specs.declared.ids.Version.{Version}
use Rattle.helios_model.specs.declared.transactions.PutItem.{PutItem}
use Rattle.helios_model.specs.Limits.{most_inputs}
use Rattle.helios_model.specs.Plans.{PlanData, count_of}
use Rattle.helios_model.specs.Spellable.{AreSpellablePuts, IsSpellableVersion}
use Rattle.helios_model.specs.Texts.{IsKey, IsValue}
use Rattle.json_text.specs.Lists.{items_from, list_of, parts_of, put_first}
use Rattle.json_text.specs.Members.{array_member, has_member, is_text, number_member, pair_at}
use Rattle.json_text.specs.Reading.{◌>>=◌, demand, required}
use Rattle.json_text.specs.Spelled.{id_at, key_at, named_version_at, version_at}
use Rattle.json_text.specs.Transactions.{put_at}
use Rattle.json_text.specs.declared.spelled.NamedVersion.{NamedVersion}
use Rattle.json_text.specs.declared.spelled.NamedVersion.TheVariants as named
use Rattle.schedule_text.specs.declared.planned.Planned.{Planned}
use Rattle.schedule_text.specs.declared.planned.Planned.TheVariants.{Get, Status, Request, Pull, Push}
use Rattle.schedule_text.specs.declared.planned.PlannedRead.{PlannedRead}
use Rattle.schedule_text.specs.declared.refusal.ScheduleRefusal.{ScheduleRefusal}
use Rattle.schedule_text.specs.declared.refusal.ScheduleRefusal.TheVariants.{TooManySteps, BadStep}
use Rattle.schedule_text.specs.declared.steps.Step.{Step}
use Rattle.schedule_text.specs.declared.steps.Step.TheVariants.{Batch, Restart}
use Rattle.schedule_text.specs.Inputs.{forms_given, get_at, input_at, inputs_of, other_site, planned_version, pull_at, push_at, puts_of, read_at, reads_of, request_at, site_member, site_of, some_of, status_at}
use Rattle.schedule_text.specs.Reading.{steps_of}
use Rattle.schedule_text.specs.Stepping.{batch_at, call_of, is_both, keep_at, may_stop, restart_at, step_at, stop_at, stop_given}
use Rattle.schedule_text.specs.Steps.{ArePlannedReads, IsInput, IsPlannedVersion, IsStep, IsStop, is_journaled, last_batch_call, last_restart_call, most_steps}
use Rattle.schedule_text.proofs.SaidParts.{AreParts, IsGivenPut, bind_some, either_some, guard_some, id_limits, key_limits, keyed_limits, map_some, parts_limits, put_given, some_injective, unless_some, version_limits}

-- ---- sites

site_limits : (plan : PlanData) (name : List ℕ) (d : Data) (site : ℕ) → site_member plan name d ≡ Some site → site < count_of plan
unfolding site_of
site_limits plan name d site e =
    let number = bind_some (number_member name d) (site_of plan) site e in
    let within = guard_some (nat_lt number.0 (count_of plan)) number.0 site number.1.1 in
    subst (λ (s : ℕ). s < count_of plan) within.1 (ltb-true number.0 (count_of plan) within.0)

-- ---- requests

current_or_known : (b : Bool) (found : Option Version) (v : NamedVersion) → ((w : Version) → found ≡ Some w → IsSpellableVersion w)
    → (if b then Some named.Current else option_map named.At found) ≡ Some v → IsPlannedVersion (planned_version v)
current_or_known true found v limits e = let same : named.Current ≡ v = cc in subst (λ (w : NamedVersion). IsPlannedVersion (planned_version w)) same tt
current_or_known false found v limits e = let known = map_some found named.At v e in subst (λ (w : NamedVersion). IsPlannedVersion (planned_version w)) known.1.1 (limits known.0 known.1.0)

named_limits : (d : Data) (v : NamedVersion) → named_version_at d ≡ Some v → IsPlannedVersion (planned_version v)
unfolding named_version_at
named_limits d v e = current_or_known (is_text (codes "current") d) (version_at d) v (version_limits d) e

-- a read of a key, at a planned version
record IsPlannedRead (r : PlannedRead) : Type 0 where
  key : IsKey r.key
  version : IsPlannedVersion r.version

read_limits : (d : Data) (r : PlannedRead) → read_at d ≡ Some r → IsPlannedRead r
unfolding read_at
read_limits d r e =
    let pair = bind_some (pair_at d) (λ (p : Data × Data). option_and_then (λ (k : List ℕ). option_and_then (λ (v : NamedVersion). Some (record { key = k; version = planned_version v })) (named_version_at p.1)) (key_at p.0)) r e in
    let key = bind_some (key_at pair.0.0) (λ (k : List ℕ). option_and_then (λ (v : NamedVersion). Some (record { key = k; version = planned_version v })) (named_version_at pair.0.1)) r pair.1.1 in
    let version = bind_some (named_version_at pair.0.1) (λ (v : NamedVersion). Some (record { key = key.0; version = planned_version v })) r key.1.1 in
    let made : PlannedRead = record { key = key.0; version = planned_version version.0 } in
    subst IsPlannedRead {x = made} (some_injective made r version.1.1)
    (record { key = key_limits pair.0.0 key.0 key.1.0; version = named_limits pair.0.1 version.0 version.1.0 })

reads_limits : (items : Items) (reads : List PlannedRead) → reads_of items ≡ Some reads → ArePlannedReads reads
unfolding reads_of
reads_limits items reads e =
    let limits = keyed_limits (λ r. r.key) read_at IsPlannedRead read_limits items reads e in
    record {
      few = limits.few;
      differ = limits.differ;
      keys = All-weaker IsPlannedRead (λ r. IsKey r.key) (λ r is. is.key) reads limits.each;
      versions = All-weaker IsPlannedRead (λ r. IsPlannedVersion r.version) (λ r is. is.version) reads limits.each;
    }

puts_limits : (items : Items) (puts : List PutItem) → puts_of items ≡ Some puts → AreSpellablePuts puts
unfolding puts_of
puts_limits items puts e =
    let limits = keyed_limits (λ p. p.key) put_at IsGivenPut put_given items puts e in
    record {
      few = limits.few;
      differ = limits.differ;
      keys = All-weaker IsGivenPut (λ p. IsKey p.key) (λ p is. is.key) puts limits.each;
      values = All-weaker IsGivenPut (λ p. IsValue p.value) (λ p is. is.value) puts limits.each;
    }

-- ---- inputs

module _ (plan : PlanData) (site : ℕ) (d : Data) (p : Planned) where
  get_limits : get_at d ≡ Some p → IsInput plan site p
  unfolding get_at
  get_limits e =
      let key = map_some (option_and_then key_at (get (codes "get") d)) Get p e in
      let given = bind_some (get (codes "get") d) key_at key.0 key.1.0 in
      subst (IsInput plan site) key.1.1 (key_limits given.0 key.0 given.1.1)

  status_limits : status_at d ≡ Some p → IsInput plan site p
  unfolding status_at
  status_limits e =
      let id = map_some (option_and_then id_at (get (codes "status") d)) Status p e in
      let given = bind_some (get (codes "status") d) id_at id.0 id.1.0 in
      subst (IsInput plan site) id.1.1 (id_limits given.0 id.0 given.1.1)

  request_limits : request_at d ≡ Some p → IsInput plan site p
  unfolding request_at
  request_limits e =
      let said_reads = option_and_then reads_of (array_member (codes "reads") d) in
      let said_puts = option_and_then puts_of (array_member (codes "writes") d) in
      let time = bind_some (number_member (codes "at") d)
      (λ (t : ℕ). option_and_then (λ (rs : List PlannedRead). option_and_then (λ (ps : List PutItem). Some (Request t rs ps)) said_puts) said_reads) p e in
      let reads = bind_some said_reads (λ (rs : List PlannedRead). option_and_then (λ (ps : List PutItem). Some (Request time.0 rs ps)) said_puts) p time.1.1 in
      let puts = bind_some said_puts (λ (ps : List PutItem). Some (Request time.0 reads.0 ps)) p reads.1.1 in
      let in_reads = bind_some (array_member (codes "reads") d) reads_of reads.0 reads.1.0 in
      let in_puts = bind_some (array_member (codes "writes") d) puts_of puts.0 puts.1.0 in
      subst (IsInput plan site) (some_injective (Request time.0 reads.0 puts.0) p puts.1.1)
      (reads_limits in_reads.0 reads.0 in_reads.1.1, puts_limits in_puts.0 puts.0 in_puts.1.1)

  pull_limits : pull_at plan site d ≡ Some p → IsInput plan site p
  unfolding pull_at
  pull_limits e =
      let said_to = option_and_then (other_site site) (site_member plan (codes "pull") d) in
      let time = bind_some (number_member (codes "at") d) (λ (t : ℕ). option_and_then (λ (s : ℕ). Some (Pull t s)) said_to) p e in
      let to = bind_some said_to (λ (s : ℕ). Some (Pull time.0 s)) p time.1.1 in
      let number = bind_some (site_member plan (codes "pull") d) (other_site site) to.0 to.1.0 in
      let other = unless_some (number.0 == site) (Some number.0) to.0 number.1.1 in
      let same : number.0 ≡ to.0 = some_injective number.0 to.0 other.1 in
      let known : (number.0 < count_of plan) × (number.0 ≢ site) = (site_limits plan (codes "pull") d number.0 number.1.0, eqb-false number.0 site other.0) in
      subst (IsInput plan site) (some_injective (Pull time.0 to.0) p to.1.1)
      (subst (λ (s : ℕ). (s < count_of plan) × (s ≢ site)) same known)

  push_limits : push_at d ≡ Some p → IsInput plan site p
  unfolding push_at
  push_limits e =
      let time = bind_some (number_member (codes "at") d) (λ (t : ℕ). option_and_then (λ (m : ℕ). Some (Push t m)) (number_member (codes "push") d)) p e in
      let message = bind_some (number_member (codes "push") d) (λ (m : ℕ). Some (Push time.0 m)) p time.1.1 in
      subst (IsInput plan site) (some_injective (Push time.0 message.0) p message.1.1) tt

input_limits : (plan : PlanData) (site : ℕ) (d : Data) (p : Planned) → input_at plan site d ≡ Some p → IsInput plan site p
unfolding input_at
input_limits plan site d p e =
    let P : Planned → Type 0 = IsInput plan site in
    let pull_or = if has_member (codes "pull") d then pull_at plan site d else push_at d in
    let reads_or = if has_member (codes "reads") d then request_at d else pull_or in
    let status_or = if has_member (codes "status") d then status_at d else reads_or in
    let said = if has_member (codes "get") d then get_at d else status_or in
    either_some P (has_member (codes "get") d) (get_at d) status_or (get_limits plan site d)
    (either_some P (has_member (codes "status") d) (status_at d) reads_or (status_limits plan site d)
    (either_some P (has_member (codes "reads") d) (request_at d) pull_or (request_limits plan site d)
    (either_some P (has_member (codes "pull") d) (pull_at plan site d) (push_at d) (pull_limits plan site d) (push_limits plan site d))))
    p (unless_some (nat_lt 1 (forms_given d)) said p e).1

-- one item or more, each of which is an input
record AreInputs (plan : PlanData) (site : ℕ) (inputs : List Planned) : Type 0 where
  some : 1 ≤ length inputs
  few : length inputs ≤ most_inputs
  each : All (IsInput plan site) inputs

inputs_limits : (plan : PlanData) (site : ℕ) (items : Items) (inputs : List Planned) → inputs_of plan site items ≡ Some inputs → AreInputs plan site inputs
unfolding inputs_of
inputs_limits plan site items inputs e =
    let found = bind_some (parts_of most_inputs (input_at plan site) items) some_of inputs e in
    let filled = unless_some (length found.0 == 0) (Some found.0) inputs found.1.1 in
    let parts = parts_limits most_inputs (input_at plan site) (IsInput plan site) (input_limits plan site) items found.0 found.1.0 in
    let nonzero : length found.0 ≢ 0 = eqb-false (length found.0) 0 filled.0 in
    subst (AreInputs plan site) (some_injective found.0 inputs filled.1) (record { some = omega arith; few = parts.few; each = parts.each })

-- ---- stops

stop_limits : (last : ℕ) (d : Data) (stop : Stop) → stop_at last d ≡ Some stop → (1 ≤ stop.call) × (stop.call ≤ last)
unfolding stop_at
stop_limits last d stop e =
    let said_call = option_and_then (call_of last) (number_member (codes "call") d) in
    let said_keep = option_and_then keep_at (get (codes "keep") d) in
    let call = bind_some said_call (λ (c : ℕ). option_and_then (λ (k : Keep). Some (record { call = c; keep = k })) said_keep) stop e in
    let keep = bind_some said_keep (λ (k : Keep). Some (record { call = call.0; keep = k })) stop call.1.1 in
    let number = bind_some (number_member (codes "call") d) (call_of last) call.0 call.1.0 in
    let within = guard_some (nat_le 1 number.0 && nat_le number.0 last) number.0 call.0 number.1.1 in
    let parts = and_parts (nat_le 1 number.0) (nat_le number.0 last) within.0 in
    let known : (1 ≤ number.0) × (number.0 ≤ last) = (leb-true 1 number.0 parts.0, leb-true number.0 last parts.1) in
    let made : Stop = record { call = call.0; keep = keep.0 } in
    subst (λ (s : Stop). (1 ≤ s.call) × (s.call ≤ last)) (some_injective made stop keep.1.1)
    (subst (λ (c : ℕ). (1 ≤ c) × (c ≤ last)) within.1 known)

given_limits : (last : ℕ) (given : Option Data) (stop : Option Stop) → stop_given last given ≡ Some stop → IsStop last stop
given_limits last None stop e = let same : None ≡ stop = cc in subst (IsStop last) same tt
given_limits last (Some d) stop e = let found = map_some (stop_at last d) Some stop e in subst (IsStop last) found.1.1 (stop_limits last d found.0 found.1.0)

stop_is_journaled : (stop : Option Stop) (b : Bool) → (is_none stop || b) ≡ true → IsSome stop → IsTrue b
stop_is_journaled None b h some = cc
stop_is_journaled (Some s) b h some = h

-- ---- steps

module _ (plan : PlanData) (d : Data) (step : Step) where
  batch_made : (site : ℕ) (inputs : List Planned) (stop : Option Stop) → site < count_of plan → AreInputs plan site inputs → IsStop last_batch_call stop
      → (may_stop inputs stop ≡ true) × (Batch site inputs stop ≡ step) → IsStep plan step
  batch_made site inputs stop here limits stops may = subst (IsStep plan) may.1 (record {
    here = here;
    some = limits.some;
    few = limits.few;
    each = limits.each;
    stops = stops;
    journaled = stop_is_journaled stop (list_any is_journaled inputs) may.0;
  })

  batch_limits : batch_at plan d ≡ Some step → IsStep plan step
  unfolding batch_at
  batch_limits e =
      let said_stop = stop_given last_batch_call (get (codes "stop") d) in
      let site = bind_some (site_member plan (codes "site") d)
      (λ (s : ℕ). option_and_then (λ (is : List Planned). option_and_then (λ (o : Option Stop). if may_stop is o then Some (Batch s is o) else None) said_stop) (option_and_then (inputs_of plan s) (array_member (codes "inputs") d))) step e in
      let said_inputs = option_and_then (inputs_of plan site.0) (array_member (codes "inputs") d) in
      let inputs = bind_some said_inputs (λ (is : List Planned). option_and_then (λ (o : Option Stop). if may_stop is o then Some (Batch site.0 is o) else None) said_stop) step site.1.1 in
      let stop = bind_some said_stop (λ (o : Option Stop). if may_stop inputs.0 o then Some (Batch site.0 inputs.0 o) else None) step inputs.1.1 in
      let may = guard_some (may_stop inputs.0 stop.0) (Batch site.0 inputs.0 stop.0) step stop.1.1 in
      let in_inputs = bind_some (array_member (codes "inputs") d) (inputs_of plan site.0) inputs.0 inputs.1.0 in
      let limits = inputs_limits plan site.0 in_inputs.0 inputs.0 in_inputs.1.1 in
      batch_made site.0 inputs.0 stop.0 (site_limits plan (codes "site") d site.0 site.1.0) limits (given_limits last_batch_call (get (codes "stop") d) stop.0 stop.1.0) may

  restart_limits : restart_at plan d ≡ Some step → IsStep plan step
  unfolding restart_at
  restart_limits e =
      let said_stop = stop_given last_restart_call (get (codes "stop") d) in
      let site = bind_some (site_member plan (codes "restart") d) (λ (s : ℕ). option_and_then (λ (o : Option Stop). Some (Restart s o)) said_stop) step e in
      let stop = bind_some said_stop (λ (o : Option Stop). Some (Restart site.0 o)) step site.1.1 in
      subst (IsStep plan) (some_injective (Restart site.0 stop.0) step stop.1.1) (record {
        here = site_limits plan (codes "restart") d site.0 site.1.0;
        stops = given_limits last_restart_call (get (codes "stop") d) stop.0 stop.1.0;
      })

step_limits : (plan : PlanData) (d : Data) (step : Step) → step_at plan d ≡ Some step → IsStep plan step
unfolding step_at
step_limits plan d step e =
    either_some (IsStep plan) (has_member (codes "restart") d) (restart_at plan d) (batch_at plan d) (restart_limits plan d) (batch_limits plan d) step
    (unless_some (is_both d) (if has_member (codes "restart") d then restart_at plan d else batch_at plan d) step e).1

-- ---- the list of steps

required_ok : {A E : Type 0} (refusal : E) (o : Option A) (x : A) → required refusal o ≡ Ok x → o ≡ Some x
required_ok refusal None x e = cc
required_ok refusal (Some y) x e = cc

put_ok : {A E : Type 0} (first : Result A E) (rest : Result (List A) E) (xs : List A) → put_first first rest ≡ Ok xs → (x : A) × (ys : List A) × (first ≡ Ok x) × (rest ≡ Ok ys) × (x ∷ ys ≡ xs)
put_ok (Ok x) (Ok ys) xs e = (x, ys, refl, refl, cc)
put_ok (Ok x) (Err refusal) xs e = cc
put_ok (Err refusal) rest xs e = cc

demanded : {A E : Type 0} (refusal : E) (b : Bool) (rest : Result A E) (x : A) → (demand refusal b >>= λ fits. rest) ≡ Ok x → (b ≡ true) × (rest ≡ Ok x)
demanded refusal true rest x e = (refl, e)
demanded refusal false rest x e = cc

-- as many as the items, each of which is said at its place
record AreRead {A : Type 0} (P : A → Type 0) (items : Items) (xs : List A) : Type 0 where
  count : items_len items ≡ length xs
  each : All P xs

items_read : {A E : Type 0} (said : ℕ → Data → Result A E) (P : A → Type 0) → ((i : ℕ) (d : Data) (x : A) → said i d ≡ Ok x → P x)
    → (i : ℕ) (items : Items) (xs : List A) → items_from said i items ≡ Ok xs → AreRead P items xs
items_read said P holds i no_items xs e = let same : [] ≡ xs = cc in subst (AreRead P no_items) same (record { count = refl; each = All-nil P })
items_read said P holds i (item d ds) xs e =
    let parts = put_ok (said i d) (items_from said (i + 1) ds) xs e in
    let rest = items_read said P holds (i + 1) ds parts.1 parts.3 in
    subst (AreRead P (item d ds)) parts.4 (record { count = ap suc rest.count; each = All-cons P parts.0 parts.1 (holds i d parts.0 parts.2) rest.each })

steps_limits : (plan : PlanData) (items : Items) (steps : List Step) → steps_of plan items ≡ Ok steps → AreParts most_steps (IsStep plan) steps
unfolding steps_of list_of
steps_limits plan items steps e =
    let said : ℕ → Data → Result Step ScheduleRefusal = λ number d. required (BadStep number) (step_at plan d) in
    let fits = demanded (TooManySteps (items_len items)) (nat_le (items_len items) most_steps) (items_from said 0 items) steps e in
    let read = items_read said (IsStep plan) (λ i d step is. step_limits plan d step (required_ok (BadStep i) (step_at plan d) step is)) 0 items steps fits.1 in
    record { few = subst (λ (n : ℕ). n ≤ most_steps) read.count (leb-true (items_len items) most_steps fits.0); each = read.each }

-- an array has as many items as the list of its values
pub steps_counted : (plan : PlanData) (values : List Value) → steps_of plan (items_view values) ≡ list_of most_steps (TooManySteps (length values)) (λ number d. required (BadStep number) (step_at plan d)) (items_view values)
unfolding steps_of
steps_counted plan values = ap (λ (n : ℕ). list_of most_steps (TooManySteps n) (λ number d. required (BadStep number) (step_at plan d)) (items_view values)) (items_len-items_view values)

pub few_steps : (plan : PlanData) (items : Items) (steps : List Step) → steps_of plan items ≡ Ok steps → length steps ≤ most_steps
few_steps plan items steps e = (steps_limits plan items steps e).few

pub each_step : (plan : PlanData) (items : Items) (steps : List Step) → steps_of plan items ≡ Ok steps → All (IsStep plan) steps
each_step plan items steps e = (steps_limits plan items steps e).each
