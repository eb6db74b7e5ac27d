-- A walk from one step to the next.
use Rattle.std.proofs.Common.{◌≡◌, ◌∙◌, ap, refl, sym, subst, ◌⊎◌, inl, inr, ℕ, ◌+◌, ◌^◌, ◌<◌, ◌≤◌, List, [], ◌∷◌, ◌++◌, Option, Some, None, Result, Ok, Err, IsErrAnd, length, set, get_or, slice_index_or, if◌then◌else◌, arith}
use Rattle.std.proofs.lemmas.Bool.{cases_eq}
use Rattle.std.proofs.lemmas.List.{get_or-set_other, get_or-set_same, length-set}
use Rattle.disk_store.specs.Memory.{MemState}
use Rattle.node_host.specs.States.{HostState}
use Rattle.helios_model.specs.Plans.{PlanData, IsAccepted, count_of}
use Rattle.helios_model.specs.World.{StepsReach, Ending, Done, Kept, Lost, happens, journal_of}
use Rattle.helios_model.specs.World.Event.{Batch as Batched}
use Rattle.protocol_laws.specs.Times.{EachRecordIsSpellable}
use Rattle.protocol_laws.specs.Told.{EachSentIsMessage}
use Rattle.schedule_text.specs.Steps.{IsStep}
use Rattle.schedule_text.specs.declared.steps.Step.{Step}
use Rattle.schedule_text.specs.declared.steps.Step.TheVariants.{Batch, Restart}
use Rattle.schedule_replay.specs.declared.output.Output.{Output}
use Rattle.schedule_replay.specs.declared.taken.Taken.{Taken}
use Rattle.schedule_replay.specs.Entries.{ending_of, entries_at}
use Rattle.schedule_replay.specs.Progress.{Progress, pass, progress, site_of}
use Rattle.schedule_replay.specs.Refusals.{refusal_of}
use Rattle.schedule_replay.specs.Seats.{BenchBetween, BenchStands, IsHolding, IsSeated, with_batch}
use Rattle.schedule_replay.specs.Standing.{IsBetween, IsPart, IsPlaced}
use Rattle.schedule_replay.specs.Walks.{IsNamed, IsNamedRefusal, IsSeat, IsWalkAt, IsWalkOf, RefusesAs}
use Rattle.schedule_replay.specs.declared.refusal.ReplayRefusal.{ReplayRefusal}
use Rattle.schedule_replay.specs.declared.refusal.ReplayRefusal.TheVariants.{NoMemory}
use Rattle.schedule_replay.specs.WalkStates.{WalkState}
use Rattle.schedule_replay.proofs.Passes.{progress_push, refusal_names, unrefused_step}
use Rattle.schedule_replay.proofs.Reach.{may_pass}
use Rattle.schedule_replay.proofs.Seated.{held_holds, seat_elsewhere, seat_held, seat_here, seated_holds}
use Rattle.schedule_replay.proofs.NextBatch.{volume_low}
use Rattle.schedule_replay.proofs.Tally as tally

pub site_below : (plan : PlanData) (s : Step) → IsStep plan s → site_of s < count_of plan
site_below plan (Batch site inputs stop) h = h.here
site_below plan (Restart site stop) h = h.here

-- the walk's hosts, and what was told
pub record Parts (walk : WalkState) (output : Output) : Type 0 where
  pub sent : output.sent.items ≡ walk.sent
  pub commits : output.commits.items ≡ walk.commits
  pub text : output.text.items ≡ walk.text
  pub refusals : output.refusals ≡ walk.refusals
  pub volume : output.volume ≡ walk.volume

pub walk_part : (plan : PlanData) (steps : List Step) (s : Step) (walk : WalkState) (bench : List MemState) (held : Option HostState) (m : MemState) (output : Output)
    → IsAccepted plan → IsStep plan s → refusal_of (progress plan steps) s ≡ None → IsWalkAt plan steps walk bench → Parts walk output
    → held ≡ slice_index_or walk.hosts (site_of s) held → m ≡ slice_index_or bench (site_of s) m
    → IsPart plan steps walk.number s held m output
walk_part plan steps s walk bench held m output accepted planned unrefused h parts at there = record {
  next = record { accepted = accepted; planned = planned; reaches = h.reaches; unrefused = unrefused; counted = h.stands.counted };
  seat = subst (λ k. IsSeat plan (progress plan steps) (site_of s) k m) (sym at)
      (subst (λ k. IsSeat plan (progress plan steps) (site_of s) (slice_index_or walk.hosts (site_of s) held) k) (sym there) (h.stands.seats (site_of s) held m (site_below plan s planned)));
  tells = record {
    lines = parts.text ∙ h.stands.lines;
    sent = parts.sent ∙ h.stands.released;
    commits = parts.commits ∙ h.stands.committed;
    refusals = parts.refusals ∙ h.stands.told;
    volume = parts.volume ∙ h.stands.written;
  };
}

-- the number of the next step is in range
pub walk_room : (plan : PlanData) (steps : List Step) (s : Step) (walk : WalkState) (bench : List MemState) → refusal_of (progress plan steps) s ≡ None → IsWalkAt plan steps walk bench
    → walk.number + 1 < 2 ^ 64
walk_room plan steps s walk bench unrefused h = omega (arith, h.stands.counted, h.numbered, volume_low (progress plan steps) s unrefused, tally.lines_low (progress plan steps))

-- the walk behind a step: what was told, and the commits that are new
pub record Joined (after : WalkState) (output : Output) (taken : Taken) : Type 0 where
  pub sent : after.sent ≡ output.sent.items
  pub commits : after.commits ≡ output.commits.items ++ (if taken.are_new then taken.commits else [])
  pub text : after.text ≡ output.text.items
  pub refusals : after.refusals ≡ output.refusals
  pub volume : after.volume ≡ output.volume

-- one seat moved, and what was told: the walk stands for one step more
pub walk_joined : EachRecordIsSpellable → EachSentIsMessage → (plan : PlanData) (steps : List Step) (s : Step) (walk after : WalkState) (bench bench' : List MemState) (taken : Taken) (m : MemState) (output : Output)
    → IsAccepted plan → IsStep plan s → refusal_of (progress plan steps) s ≡ None → IsWalkAt plan steps walk bench
    → IsPlaced plan (progress plan steps) s taken m output → Joined after output taken
    → after.plan ≡ walk.plan → after.hosts ≡ set walk.hosts (site_of s) (Some taken.host) → after.number ≡ walk.number + 1
    → bench' ≡ set bench (site_of s) m → site_of s < length bench
    → IsWalkAt plan (steps ++ s ∷ []) after bench'
walk_joined spellable messages plan steps s walk after bench bench' taken m output accepted planned unrefused h placed joined same_plan hosts number benches inside = record {
  stands = subst (λ q. IsWalkOf plan q after bench') (sym next) (record {
    of_plan = same_plan ∙ h.stands.of_plan;
    sites = ap length hosts ∙ length-set walk.hosts (site_of s) (Some taken.host) ∙ h.stands.sites;
    seats = λ site k d low. subst (λ hs. IsSeat plan (pass plan p s) site (slice_index_or hs site k) (slice_index_or bench' site d)) (sym hosts)
        (subst (λ b. IsSeat plan (pass plan p s) site (slice_index_or (set walk.hosts (site_of s) (Some taken.host)) site k) (slice_index_or b site d)) (sym benches) (by_site site k d low (cases_eq site (site_of s))));
    released = joined.sent ∙ placed.sent;
    committed = joined.commits ∙ ap (λ es. es ++ (if taken.are_new then taken.commits else [])) placed.commits ∙ sym placed.added;
    told = joined.refusals ∙ placed.refusals;
    lines = joined.text ∙ placed.lines;
    counted = number ∙ ap (λ k. k + 1) h.stands.counted;
    written = joined.volume ∙ placed.volume;
  });
  reaches = subst (λ q. StepsReach plan q.world) (sym next) (may_pass spellable messages plan p s accepted h.reaches planned (unrefused_step p s unrefused));
  numbered = subst (λ q. q.number ≤ length q.lines) (sym next)
      (tally.tallied_pass plan p s planned (unrefused_step p s unrefused) (tally.tallied_by plan p (tally.counted plan steps) h.numbered)).number;
}
  where
    p : Progress
    p = progress plan steps

    next : progress plan (steps ++ s ∷ []) ≡ pass plan p s
    next = progress_push plan steps s

    below : site_of s < count_of plan
    below = site_below plan s planned

    here : site_of s < length walk.hosts
    here = omega (arith, h.stands.sites, below)

    by_site : (site : ℕ) (k : Option HostState) (d : MemState) → site < count_of plan → (site ≡ site_of s) ⊎ (site ≡ site_of s → ⊥)
        → IsSeat plan (pass plan p s) site (slice_index_or (set walk.hosts (site_of s) (Some taken.host)) site k) (slice_index_or (set bench (site_of s) m) site d)
    by_site site k d low (inl same) =
        subst (λ st. IsSeat plan (pass plan p s) st (slice_index_or (set walk.hosts (site_of s) (Some taken.host)) st k) (slice_index_or (set bench (site_of s) m) st d)) (sym same)
        (subst (λ hh. IsSeat plan (pass plan p s) (site_of s) hh (slice_index_or (set bench (site_of s) m) (site_of s) d)) (sym (get_or-set_same walk.hosts (site_of s) (Some taken.host) k here))
        (subst (λ mm. IsSeat plan (pass plan p s) (site_of s) (Some taken.host) mm) (sym (get_or-set_same bench (site_of s) m d inside))
        (seat_here plan p s taken.host m (omega (arith, (tally.counted plan steps).opened, below)) placed.seated)))
    by_site site k d low (inr apart) =
        subst (λ hh. IsSeat plan (pass plan p s) site hh (slice_index_or (set bench (site_of s) m) site d)) (sym (get_or-set_other walk.hosts (site_of s) site (Some taken.host) k apart))
        (subst (λ mm. IsSeat plan (pass plan p s) site (slice_index_or walk.hosts site k) mm) (sym (get_or-set_other bench (site_of s) site m d apart))
        (seat_elsewhere plan p s site (slice_index_or walk.hosts site k) (slice_index_or bench site d) apart (h.stands.seats site k d low)))

-- each disk holds its site's journal
pub bench_stands : (plan : PlanData) (steps : List Step) (walk : WalkState) (bench : List MemState) → IsWalkAt plan steps walk bench → BenchStands plan (progress plan steps).world bench
bench_stands plan steps walk bench h = λ site d low.
    held_holds plan site (journal_of (progress plan steps).world site) (slice_index_or walk.hosts site None) (slice_index_or bench site d)
    (seat_held plan (progress plan steps) site (slice_index_or walk.hosts site None) (slice_index_or bench site d) (h.stands.seats site None d low))

-- want of memory within a step
pub bench_between : (plan : PlanData) (steps : List Step) (s : Step) (walk : WalkState) (bench bench' : List MemState) (m : MemState) → IsWalkAt plan steps walk bench
    → IsBetween plan (progress plan steps) s m → bench' ≡ set bench (site_of s) m → site_of s < length bench → BenchBetween plan (progress plan steps) s bench'
bench_between plan steps s walk bench bench' m h between benches inside = λ site d low.
    subst (λ b. Between site (slice_index_or b site d)) (sym benches) (by_site site d low (cases_eq site (site_of s)))
  where
    p : Progress
    p = progress plan steps

    Between : ℕ → MemState → Type 0
    Between site disk = IsHolding plan site (journal_of p.world site) disk ⊎ IsHolding plan site (journal_of (with_batch plan p.world s) site) disk

    by_site : (site : ℕ) (d : MemState) → site < count_of plan → (site ≡ site_of s) ⊎ (site ≡ site_of s → ⊥) → Between site (slice_index_or (set bench (site_of s) m) site d)
    by_site site d low (inl same) =
        subst (λ st. Between st (slice_index_or (set bench (site_of s) m) st d)) (sym same)
        (subst (Between (site_of s)) (sym (get_or-set_same bench (site_of s) m d inside)) between)
    by_site site d low (inr apart) =
        subst (Between site) (sym (get_or-set_other bench (site_of s) site m d apart)) (inl (bench_stands plan steps walk bench h site d low))

-- a disk of a step that was taken holds its journal without the step's batch or with it
pub taken_between : (plan : PlanData) (steps : List Step) (s : Step) (taken : Taken) (m : MemState) (output : Output) → IsStep plan s → IsPlaced plan (progress plan steps) s taken m output → IsBetween plan (progress plan steps) s m
taken_between plan steps (Restart site stop) taken m output planned placed = inl (seated_holds plan site (journal_of (progress plan steps).world site) taken.host m placed.seated)
taken_between plan steps (Batch site inputs stop) taken m output planned placed = by_ending (ending_of stop) placed.seated
  where
    p : Progress
    p = progress plan steps

    by_ending : (ending : Ending) → IsSeated plan site (journal_of (happens plan p.world (Batched site (entries_at plan p.world site inputs) ending)) site) taken.host m → IsBetween plan p (Batch site inputs stop) m
    by_ending Done seated = inr (seated_holds plan site _ taken.host m seated)
    by_ending Kept seated = inr (seated_holds plan site _ taken.host m seated)
    by_ending Lost seated = inl (seated_holds plan site (journal_of p.world site) taken.host m seated)

pub held_at : (hosts : List (Option HostState)) (place site there : ℕ) (slot held : Option HostState) → place ≡ site → site ≡ there → slot ≡ get_or hosts place slot → held ≡ slot
    → held ≡ slice_index_or hosts there held
held_at hosts place site there slot held same same' at is =
    is ∙ at ∙ ap (λ k. get_or hosts k slot) (same ∙ same') ∙ ap (get_or hosts there) (sym is)

pub refuses_some : (T : Type 0) (o : Option ReplayRefusal) (r : ReplayRefusal) → o ≡ Some r → RefusesAs {T = T} o (Err r)
refuses_some T o r is = subst (λ x. RefusesAs {T = T} x (Err r)) (sym is) refl

-- a step that was run was not to be refused
pub refuses_none : (T : Type 0) (o : Option ReplayRefusal) (r : Result T ReplayRefusal) → o ≡ None → (IsNamed r → ⊥) → RefusesAs {T = T} o r
refuses_none T o r is unnamed = subst (λ x. RefusesAs {T = T} x r) (sym is) unnamed

-- a refusal that was found names a step
pub found_named : (p : Progress) (s : Step) → refusal_of p s ≡ Some NoMemory → ⊥
found_named p s is = refusal_names p s NoMemory is

-- want of memory names no step
pub unnamed : (T : Type 0) (r : Result T ReplayRefusal) → IsErrAnd r (λ e. e ≡ NoMemory) → IsNamed r → ⊥
unnamed T (Ok x) is named = named
unnamed T (Err e) is named = subst IsNamedRefusal is named
