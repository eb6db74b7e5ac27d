-- The replay of a schedule: a walk through its steps, up to a refusal or its end.
use Rattle.std.proofs.Common.{◌≡◌, ◌∙◌, ap, refl, sym, subst, inl, inr, ℕ, ◌+◌, ◌<◌, ◌≤◌, Option, Some, None, Result, Ok, Err, IsErrAnd, List, [], ◌∷◌, ◌++◌, get_or, length, take, drop, arith}
use Rattle.std.proofs.lemmas.List.{drop_more, get_or_default, length-take-le, take-append-drop, take_more}
use Rattle.disk_store.specs.Memory.{MemState}
use Rattle.helios_model.specs.Plans.{PlanData, IsAccepted}
use Rattle.helios_model.specs.World.{StepsReach, World}
use Rattle.protocol_laws.specs.Safe.{EachWorldIsSafe, IsSafe}
use Rattle.schedule_text.specs.declared.steps.Step.{Step}
use Rattle.schedule_replay.specs.declared.refusal.ReplayRefusal.{ReplayRefusal}
use Rattle.schedule_replay.specs.declared.refusal.ReplayRefusal.TheVariants.{ReplayFull, NoSuchMessage, NotForSite, NoMemory}
use Rattle.schedule_replay.specs.declared.report.Report.{Report}
use Rattle.schedule_replay.specs.Progress.{Progress, progress, reached}
use Rattle.schedule_replay.specs.Refusals.{first_refusal, refusal_of}
use Rattle.schedule_replay.specs.Replay.{Replays, StandsAfter}
use Rattle.schedule_replay.specs.Seats.{BenchBetween, BenchStands}
use Rattle.schedule_replay.specs.Walks.{IsNamedRefusal, IsWalkAt, RefusesAs}
use Rattle.schedule_replay.specs.WalkStates.{WalkState}
use Rattle.schedule_replay.proofs.Passes.{number_is, refusal_at, refusal_names, refusal_push, refused_front}
use Rattle.schedule_replay.proofs.Walking.{bench_stands}

-- the steps up to a place and the one there
up_to : (steps : List Step) (i : ℕ) (s : Step) → i < length steps → s ≡ get_or steps i s → take (i + 1) steps ≡ take i steps ++ s ∷ []
up_to steps i s low at = take_more steps i s low ∙ ap (λ x. take i steps ++ x ∷ []) (sym at)

parted : (steps : List Step) (i : ℕ) (s : Step) → i < length steps → s ≡ get_or steps i s → steps ≡ take i steps ++ s ∷ drop (i + 1) steps
parted steps i s low at =
    sym (take-append-drop i steps) ∙ ap (λ xs. take i steps ++ xs) (drop_more steps i s low) ∙ ap (λ x. take i steps ++ x ∷ drop (i + 1) steps) (sym at)

-- a step that was run is not refused
ran : {T : Type 0} (o : Option ReplayRefusal) (x : T) → RefusesAs o (Ok x) → o ≡ None
ran None x h = refl
ran (Some r) x h = absurd (cc)

-- one that was refused by name is refused by this
named_by : (T : Type 0) (o : Option ReplayRefusal) (r : ReplayRefusal) → RefusesAs {T = T} o (Err r) → IsNamedRefusal r → o ≡ Some r
named_by T None r h named = absurd (h named)
named_by T (Some x) r h named = cc

pub loop_goes : {T : Type 0} (plan : PlanData) (steps : List Step) (i : ℕ) (s : Step) (after : WalkState) (bench : List MemState) (x : T) → i < length steps → s ≡ get_or steps i s
    → first_refusal plan (take i steps) ≡ None → RefusesAs (refusal_of (progress plan (take i steps)) s) (Ok x) → IsWalkAt plan (take i steps ++ s ∷ []) after bench
    → IsWalkAt plan (take (i + 1) steps) after bench × (first_refusal plan (take (i + 1) steps) ≡ None)
loop_goes plan steps i s after bench x low at unrefused told h = (
  subst (λ ss. IsWalkAt plan ss after bench) (sym (up_to steps i s low at)) h,
  ap (first_refusal plan) (up_to steps i s low at) ∙ refusal_push plan (take i steps) s unrefused ∙ ran (refusal_of (progress plan (take i steps)) s) x told,
)

stands_at : (plan : PlanData) (steps : List Step) (i number : ℕ) (walk : WalkState) (bench bench' : List MemState) → i < length steps → number ≡ (progress plan (take i steps)).number
    → IsWalkAt plan (take i steps) walk bench → bench' ≡ bench → StandsAfter plan steps bench' number
stands_at plan steps i number walk bench bench' low named h same =
    let is : number ≡ i = named ∙ number_is plan (take i steps) ∙ length-take-le i steps (omega arith) in (
      omega (arith, is),
      subst (λ k. BenchStands plan (reached plan (take k steps)) bench') (sym is)
          (subst (BenchStands plan (reached plan (take i steps))) (sym same) (bench_stands plan (take i steps) walk bench h)),
    )

-- a step within which memory ran out was not to be refused
not_refused : (T : Type 0) (p : Progress) (s : Step) → RefusesAs {T = T} (refusal_of p s) (Err NoMemory) → refusal_of p s ≡ None
not_refused T p s told = by_case (refusal_of p s) refl told
  where
    by_case : (o : Option ReplayRefusal) → refusal_of p s ≡ o → RefusesAs {T = T} o (Err NoMemory) → o ≡ None
    by_case None is told = refl
    by_case (Some r) is told =
        let same : r ≡ NoMemory = cc in
        absurd (refusal_names p s NoMemory (is ∙ ap Some same))

-- the step at a place was refused, or memory ran out within it
pub replay_refused : (T : Type 0) (plan : PlanData) (steps : List Step) (i : ℕ) (s : Step) (walk : WalkState) (bench bench' : List MemState) (r : ReplayRefusal) → i < length steps → s ≡ get_or steps i s
    → first_refusal plan (take i steps) ≡ None → IsWalkAt plan (take i steps) walk bench
    → RefusesAs {T = T} (refusal_of (progress plan (take i steps)) s) (Err r)
    → (IsNamedRefusal r → bench' ≡ bench)
    → (r ≡ NoMemory → BenchBetween plan (progress plan (take i steps)) s bench')
    → Replays plan steps bench' (Err r)
replay_refused T plan steps i s walk bench bench' r low at unrefused h told unmoved between = by_refusal r told unmoved between
  where
    found : (r : ReplayRefusal) → refusal_of (progress plan (take i steps)) s ≡ Some r → first_refusal plan steps ≡ Some r
    found r is = ap (first_refusal plan) (parted steps i s low at) ∙ refused_front plan (take i steps) (drop (i + 1) steps) s r unrefused is

    by_refusal : (r : ReplayRefusal) → RefusesAs {T = T} (refusal_of (progress plan (take i steps)) s) (Err r) → (IsNamedRefusal r → bench' ≡ bench)
        → (r ≡ NoMemory → BenchBetween plan (progress plan (take i steps)) s bench') → Replays plan steps bench' (Err r)
    by_refusal (ReplayFull k) told unmoved between =
        let is = named_by T (refusal_of (progress plan (take i steps)) s) (ReplayFull k) told tt in
        (found (ReplayFull k) is, stands_at plan steps i k walk bench bench' low (refusal_names (progress plan (take i steps)) s (ReplayFull k) is) h (unmoved tt))
    by_refusal (NoSuchMessage k) told unmoved between =
        let is = named_by T (refusal_of (progress plan (take i steps)) s) (NoSuchMessage k) told tt in
        (found (NoSuchMessage k) is, stands_at plan steps i k walk bench bench' low (refusal_names (progress plan (take i steps)) s (NoSuchMessage k) is) h (unmoved tt))
    by_refusal (NotForSite k) told unmoved between =
        let is = named_by T (refusal_of (progress plan (take i steps)) s) (NotForSite k) told tt in
        (found (NotForSite k) is, stands_at plan steps i k walk bench bench' low (refusal_names (progress plan (take i steps)) s (NotForSite k) is) h (unmoved tt))
    by_refusal NoMemory told unmoved between = record {
      taken = i;
      few = omega arith;
      unrefused = unrefused;
      stands = inr (low, refusal_at plan steps i s low at unrefused ∙ not_refused T (progress plan (take i steps)) s told, λ d. subst (λ x. BenchBetween plan (progress plan (take i steps)) x bench') (at ∙ get_or_default steps i s d low) (between refl));
    }

-- memory ran out between two steps
pub cut_short : (plan : PlanData) (steps : List Step) (i : ℕ) (bench : List MemState) (r : Result Report ReplayRefusal) → i ≤ length steps
    → first_refusal plan (take i steps) ≡ None → BenchStands plan (reached plan (take i steps)) bench → IsErrAnd r (λ e. e ≡ NoMemory) → Replays plan steps bench r
cut_short plan steps i bench (Ok x) few unrefused h is = absurd is
cut_short plan steps i bench (Err e) few unrefused h is =
    subst (λ x. Replays plan steps bench (Err x)) (sym is) (record { taken = i; few = few; unrefused = unrefused; stands = inl h })

pub safe_at : EachWorldIsSafe → (plan : PlanData) (w : World) → IsAccepted plan → StepsReach plan w → IsSafe plan w
safe_at law plan w accepted h = subst (IsSafe plan) (sym h.reach) (law plan h.events h.may accepted)

-- a refusal that is passed on
pub passed_on : (plan : PlanData) (steps : List Step) (bench : List MemState) (r : Result Report ReplayRefusal) (refusal : ReplayRefusal) → IsErrAnd r (λ e. e ≡ refusal)
    → Replays plan steps bench (Err refusal) → Replays plan steps bench r
passed_on plan steps bench (Ok x) refusal is h = absurd is
passed_on plan steps bench (Err e) refusal is h = subst (λ x. Replays plan steps bench (Err x)) (sym is) h
