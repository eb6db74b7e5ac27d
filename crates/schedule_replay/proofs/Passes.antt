-- A step more: how far the steps come, and the first refusal among them.
use Rattle.std.proofs.Common.{◌≡◌, ◌∙◌, ap, refl, subst, sym, Bool, true, false, ℕ, ◌+◌, ◌<◌, ◌≤◌, Option, Some, None, IfSome, List, [], ◌∷◌, ◌++◌, drop, fold, get_or, length, take, nat_eq, nat_lt, if◌then◌else◌, arith}
use Rattle.std.specs.Option.{option_or}
use Rattle.std.specs.Prelude.{slice_get}
use Rattle.std.proofs.lemmas.Bool.{le-ltb, lt-ltb, ltb-false}
use Rattle.std.proofs.lemmas.Grind.{fold-append}
use Rattle.std.proofs.lemmas.List.{drop_more, take-append-drop, take_more}
use Rattle.helios_model.specs.declared.messages.Message.{Message}
use Rattle.helios_model.specs.Plans.{PlanData}
use Rattle.helios_model.specs.World.{World}
use Rattle.schedule_text.specs.declared.planned.Planned.{Planned}
use Rattle.schedule_text.specs.declared.planned.Planned.TheVariants.{Get, Status, Request, Pull, Push}
use Rattle.schedule_text.specs.declared.steps.Step.{Step}
use Rattle.schedule_text.specs.declared.steps.Step.TheVariants.{Batch, Restart}
use Rattle.schedule_replay.specs.declared.refusal.ReplayRefusal.{ReplayRefusal}
use Rattle.schedule_replay.specs.declared.refusal.ReplayRefusal.TheVariants.{ReplayFull, NoSuchMessage, NotForSite, NoMemory}
use Rattle.schedule_replay.specs.Progress.{Progress, first_progress, most_volume, pass, progress, volume}
use Rattle.schedule_replay.specs.Refusals.{first_refusal, input_refusal, inputs_refusal, push_refusal, refusal_from, refusal_of, step_refusal}

-- before any step
pub progress_nil : (plan : PlanData) → progress plan [] ≡ first_progress plan
unfolding progress
progress_nil plan = refl

-- one step more
pub progress_push : (plan : PlanData) (steps : List Step) (s : Step) → progress plan (steps ++ s ∷ []) ≡ pass plan (progress plan steps) s
unfolding progress
progress_push plan steps s = fold-append (pass plan) (first_progress plan) steps (s ∷ [])

-- ---- how many steps were taken

number_from : (plan : PlanData) (steps : List Step) (p : Progress) → (fold (pass plan) p steps).number ≡ p.number + length steps
number_from plan [] p = omega arith
number_from plan (s ∷ steps) p = omega (arith, number_from plan steps (pass plan p s))

pub number_is : (plan : PlanData) (steps : List Step) → (progress plan steps).number ≡ length steps
unfolding progress
number_is plan steps = omega (arith, number_from plan steps (first_progress plan))

-- ---- the first refusal

or_assoc : {X : Type 0} (a b c : Option X) → option_or a (option_or b c) ≡ option_or (option_or a b) c
or_assoc None b c = refl
or_assoc (Some x) b c = refl

or_none : {X : Type 0} (o : Option X) → option_or o None ≡ o
or_none None = refl
or_none (Some x) = refl

-- of two lists of steps
refusal_after : (plan : PlanData) (p : Progress) (xs ys : List Step)
    → refusal_from plan p (xs ++ ys) ≡ option_or (refusal_from plan p xs) (refusal_from plan (fold (pass plan) p xs) ys)
refusal_after plan p [] ys = refl
refusal_after plan p (x ∷ xs) ys =
    ap (option_or (refusal_of p x)) (refusal_after plan (pass plan p x) xs ys)
    ∙ or_assoc (refusal_of p x) (refusal_from plan (pass plan p x) xs) (refusal_from plan (fold (pass plan) p (x ∷ xs)) ys)

pub refusal_both : (plan : PlanData) (xs ys : List Step) → first_refusal plan (xs ++ ys) ≡ option_or (first_refusal plan xs) (refusal_from plan (progress plan xs) ys)
unfolding progress
refusal_both plan xs ys = refusal_after plan (first_progress plan) xs ys

-- where the steps before are not refused, the next one decides
pub refusal_push : (plan : PlanData) (steps : List Step) (s : Step) → first_refusal plan steps ≡ None
    → first_refusal plan (steps ++ s ∷ []) ≡ refusal_of (progress plan steps) s
refusal_push plan steps s unrefused =
    refusal_both plan steps (s ∷ []) ∙ ap (λ o. option_or o (refusal_from plan (progress plan steps) (s ∷ []))) unrefused ∙ or_none (refusal_of (progress plan steps) s)

-- where the steps before are not refused, and the step at a place is, that is the first refusal
pub refused_front : (plan : PlanData) (front rest : List Step) (s : Step) (r : ReplayRefusal) → first_refusal plan front ≡ None
    → refusal_of (progress plan front) s ≡ Some r → first_refusal plan (front ++ s ∷ rest) ≡ Some r
refused_front plan front rest s r unrefused here =
    refusal_both plan front (s ∷ rest) ∙ ap (λ o. option_or o (refusal_from plan (progress plan front) (s ∷ rest))) unrefused
    ∙ ap (λ o. option_or o (refusal_from plan (pass plan (progress plan front) s) rest)) here

-- ---- the steps of a schedule, one after the other

-- the steps up to a place and the one at it
pub progress_at : (plan : PlanData) (steps : List Step) (i : ℕ) (s : Step) → i < length steps → s ≡ get_or steps i s → progress plan (take (i + 1) steps) ≡ pass plan (progress plan (take i steps)) s
progress_at plan steps i s low at =
    ap (progress plan) (take_more steps i s low) ∙ ap (λ x. progress plan (take i steps ++ x ∷ [])) (sym at) ∙ progress_push plan (take i steps) s

pub refusal_at : (plan : PlanData) (steps : List Step) (i : ℕ) (s : Step) → i < length steps → s ≡ get_or steps i s → first_refusal plan (take i steps) ≡ None
    → first_refusal plan (take (i + 1) steps) ≡ refusal_of (progress plan (take i steps)) s
refusal_at plan steps i s low at unrefused =
    ap (first_refusal plan) (take_more steps i s low) ∙ ap (λ x. first_refusal plan (take i steps ++ x ∷ [])) (sym at) ∙ refusal_push plan (take i steps) s unrefused

pub refused_at : (plan : PlanData) (steps : List Step) (i : ℕ) (s : Step) (r : ReplayRefusal) → i < length steps → s ≡ get_or steps i s → first_refusal plan (take i steps) ≡ None
    → refusal_of (progress plan (take i steps)) s ≡ Some r → first_refusal plan steps ≡ Some r
refused_at plan steps i s r low at unrefused here = ap (first_refusal plan) whole ∙ refused_front plan (take i steps) (drop (i + 1) steps) s r unrefused here
  where
    whole : steps ≡ take i steps ++ s ∷ drop (i + 1) steps
    whole =
        sym (take-append-drop i steps) ∙ ap (λ xs. take i steps ++ xs) (drop_more steps i s low)
        ∙ ap (λ x. take i steps ++ x ∷ drop (i + 1) steps) (sym at)

-- ---- a step that is not refused

-- where a step is not refused, not too much was written before it, and it takes in nothing that it cannot take
pub unrefused_low : (p : Progress) (s : Step) → refusal_of p s ≡ None → volume p ≤ most_volume
unrefused_low p s unrefused = by_test (nat_lt most_volume (volume p)) refl unrefused
  where
    by_test : (b : Bool) → nat_lt most_volume (volume p) ≡ b → (if b then Some (ReplayFull p.number) else step_refusal p.world p.number s) ≡ None → volume p ≤ most_volume
    by_test true is h = absurd (cc)
    by_test false is h = ltb-false most_volume (volume p) is

pub unrefused_step : (p : Progress) (s : Step) → refusal_of p s ≡ None → step_refusal p.world p.number s ≡ None
unrefused_step p s unrefused = by_test (nat_lt most_volume (volume p)) unrefused
  where
    by_test : (b : Bool) → (if b then Some (ReplayFull p.number) else step_refusal p.world p.number s) ≡ None → step_refusal p.world p.number s ≡ None
    by_test true h = absurd (cc)
    by_test false h = h

-- where not too much was written, the step alone decides
pub refusal_low : (p : Progress) (s : Step) → volume p ≤ most_volume → refusal_of p s ≡ step_refusal p.world p.number s
refusal_low p s low = rw (le-ltb most_volume (volume p) low) refl

-- and where too much was, no step is taken
pub refusal_full : (p : Progress) (s : Step) → most_volume < volume p → refusal_of p s ≡ Some (ReplayFull p.number)
refusal_full p s full = rw (lt-ltb most_volume (volume p) full) refl

-- ---- the step that a refusal names

-- the refusal names the step with this number
abbrev pub Names : ℕ → ReplayRefusal → Type 0
Names number (ReplayFull step) = step ≡ number
Names number (NoSuchMessage step) = step ≡ number
Names number (NotForSite step) = step ≡ number
Names number NoMemory = ⊥

push_names : (step site : ℕ) (o : Option Message) (r : ReplayRefusal) → push_refusal step site o ≡ Some r → Names step r
push_names step site None r is = subst (λ o. IfSome o (Names step)) is refl
push_names step site (Some m) r is = by_test (nat_eq m.to site) is
  where
    by_test : (b : Bool) → (if b then None else Some (NotForSite step)) ≡ Some r → Names step r
    by_test true h = absurd (cc)
    by_test false h = subst (λ o. IfSome o (Names step)) h refl

input_names : (sent : List Message) (step site : ℕ) (i : Planned) (r : ReplayRefusal) → input_refusal sent step site i ≡ Some r → Names step r
input_names sent step site (Get key) r is = absurd (cc)
input_names sent step site (Status id) r is = absurd (cc)
input_names sent step site (Request at reads puts) r is = absurd (cc)
input_names sent step site (Pull at to) r is = absurd (cc)
input_names sent step site (Push at message) r is = push_names step site (slice_get sent message) r is

inputs_names : (sent : List Message) (step site : ℕ) (inputs : List Planned) (r : ReplayRefusal) → inputs_refusal sent step site inputs ≡ Some r → Names step r
inputs_names sent step site [] r is = absurd (cc)
inputs_names sent step site (i ∷ is) r h = by_first (input_refusal sent step site i) refl h (inputs_names sent step site is r)
  where
    by_first : (o : Option ReplayRefusal) → input_refusal sent step site i ≡ o → option_or o (inputs_refusal sent step site is) ≡ Some r
        → (inputs_refusal sent step site is ≡ Some r → Names step r) → Names step r
    by_first None first h later = later h
    by_first (Some x) first h later = input_names sent step site i r (first ∙ h)

step_names : (w : World) (number : ℕ) (s : Step) (r : ReplayRefusal) → step_refusal w number s ≡ Some r → Names number r
step_names w number (Batch site inputs stop) r is = inputs_names w.sent number site inputs r is
step_names w number (Restart site stop) r is = absurd (cc)

-- each refusal names the step that is next
pub refusal_names : (p : Progress) (s : Step) (r : ReplayRefusal) → refusal_of p s ≡ Some r → Names p.number r
refusal_names p s r is = by_test (nat_lt most_volume (volume p)) is
  where
    by_test : (b : Bool) → (if b then Some (ReplayFull p.number) else step_refusal p.world p.number s) ≡ Some r → Names p.number r
    by_test true h = subst (λ o. IfSome o (Names p.number)) h refl
    by_test false h = step_names p.world p.number s r h
