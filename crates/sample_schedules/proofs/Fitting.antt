-- Each step fits the plan, and each Push what was pulled before it.
use Rattle.std.proofs.Common.{◌≡◌, ℕ, zero, suc, ◌+◌, ◌-◌, ◌*◌, ◌<◌, ◌≤◌, ◌^◌, ◌==◌, Bool, true, false, ◌||◌, List, [], ◌∷◌, ◌++◌, length, map, min, get_or, nat_lt, Option, None, Some, if◌then◌else◌, inl, inr, refl, ap, ◌∙◌, sym, subst, arith}
use Rattle.std.specs.Prelude.{IsTrue}
use Rattle.std.specs.List.{All, list_any, range_with_len}
use Rattle.std.proofs.lemmas.Bool.{ltb-true, ltb-false}
use Rattle.std.proofs.lemmas.List.Elements.{All-append, All-cons, All-get_or, All-nil}
use Rattle.std.proofs.lemmas.List.FromFn.{length-map-range_with_len}
use Rattle.std.proofs.Math.Nat.{mod-lt}
use Rattle.disk_store.specs.declared.fate.Stop.{Stop}
use Rattle.helios_model.specs.Plans.{PlanData, count_of}
use Rattle.helios_model.specs.Spellable.{AreSpellablePuts}
use Rattle.helios_model.specs.Texts.{IsKey, IsValue}
use Rattle.helios_model.specs.declared.transactions.PutItem.{PutItem}
use Rattle.schedule_text.specs.Steps.{ArePlannedReads, IsInput, IsPlannedVersion, IsStep, IsStop, is_journaled, last_batch_call}
use Rattle.schedule_text.specs.declared.planned.Planned.{Planned}
use Rattle.schedule_text.specs.declared.planned.Planned.TheVariants.{Pull, Push}
use Rattle.schedule_text.specs.declared.planned.PlannedRead.{PlannedRead}
use Rattle.schedule_text.specs.declared.planned.PlannedVersion.TheVariants.{Current}
use Rattle.schedule_text.specs.declared.steps.Step.{Step}
use Rattle.schedule_text.specs.declared.steps.Step.TheVariants.{Batch, Restart}
use Rattle.sample_schedules.specs.Draws.{draw, gives, next}
use Rattle.sample_schedules.specs.Generator.{batch, batch_stop, line_plan, other_site, plain_request, pull, pulled, push, push_of, push_recent, rare, rare_of, request, site_name, step, step_of, steps_from, stopped_request}
use Rattle.sample_schedules.specs.Pushes.{IsPulled, PushesPulled, PushWhatWasPulled}
use Rattle.sample_schedules.proofs.Texts.{short_key, short_value}

pub below : (n x : ℕ) → 0 < n → (draw n x).0 < n
unfolding draw
below n x some = mod-lt _ some

count_line : (sites : ℕ) → count_of (line_plan sites) ≡ sites
unfolding line_plan
count_line sites = length-map-range_with_len site_name 0 sites

-- the step is one of the plan; its Pulls are to sites of the plan, and its Pushes name Pulls that were made before
record Fits (sites : ℕ) (pulls : List ℕ) (s : Step) : Type 0 where
  pub fits : IsStep (line_plan sites) s
  pub targets : All (λ to. to < sites) (pulled s)
  pub pushes : PushesPulled pulls s

-- ---- one input

one_input : (plan : PlanData) (s : ℕ) (input : Planned) (stop : Option Stop) → s < count_of plan → IsInput plan s input → is_journaled input ≡ true → IsStop last_batch_call stop → IsStep plan (batch s input stop)
one_input plan s input stop here fits journaled stops = record {
  here = here;
  some = omega arith;
  few = omega arith;
  each = All-cons (IsInput plan s) input [] fits (All-nil (IsInput plan s));
  stops = stops;
  journaled = λ given. ap (λ b. b || list_any is_journaled []) journaled;
}

one_read : (key : List ℕ) → IsKey key → ArePlannedReads (record { key = key; version = Current } ∷ [])
one_read key is = record {
  few = omega arith;
  differ = refl;
  keys = All-cons (λ (r : PlannedRead). IsKey r.key) (record { key = key; version = Current }) [] is (All-nil (λ (r : PlannedRead). IsKey r.key));
  versions = All-cons (λ (r : PlannedRead). IsPlannedVersion r.version) (record { key = key; version = Current }) [] tt (All-nil (λ (r : PlannedRead). IsPlannedVersion r.version));
}

one_put : (key value : List ℕ) → IsKey key → IsValue value → AreSpellablePuts (record { key = key; value = value } ∷ [])
one_put key value is small = record {
  few = omega arith;
  differ = refl;
  keys = All-cons (λ (p : PutItem). IsKey p.key) (record { key = key; value = value }) [] is (All-nil (λ (p : PutItem). IsKey p.key));
  values = All-cons (λ (p : PutItem). IsValue p.value) (record { key = key; value = value }) [] small (All-nil (λ (p : PutItem). IsValue p.value));
}

asked_fits : (plan : PlanData) (s t i x : ℕ) → i < 2 ^ 64 → IsInput plan s (request t i x).0
unfolding request
asked_fits plan s t i x small = (one_read _ (short_key _ (below 50 x (omega arith))), one_put _ _ (short_key _ (below 50 (draw 50 x).1 (omega arith))) (short_value i small))

asked_journaled : (t i x : ℕ) → is_journaled (request t i x).0 ≡ true
unfolding request
asked_journaled t i x = refl

stop_fits : (x : ℕ) → IsStop last_batch_call (Some (batch_stop x).0)
unfolding batch_stop
stop_fits x = (let call : (draw 4 x).0 < 4 = below 4 x (omega arith) in (omega arith, omega arith))

-- ---- each kind of step

asked_pulls : (s t i x : ℕ) (stop : Option Stop) → pulled (batch s (request t i x).0 stop) ≡ []
unfolding request
asked_pulls s t i x stop = refl

asked_pushes : (pulls : List ℕ) (s t i x : ℕ) → IsPulled pulls s (request t i x).0
unfolding request
asked_pushes pulls s t i x = tt

batch_fits : (sites : ℕ) (pulls : List ℕ) (s t i x : ℕ) (stop : Option Stop) → s < sites → i < 2 ^ 64 → IsStop last_batch_call stop → Fits sites pulls (batch s (request t i x).0 stop)
batch_fits sites pulls s t i x stop here small stops = record {
  fits = one_input (line_plan sites) s (request t i x).0 stop (let count = count_line sites in omega arith) (asked_fits (line_plan sites) s t i x small) (asked_journaled t i x) stops;
  targets = subst (λ (to : List ℕ). All (λ site. site < sites) to) (sym (asked_pulls s t i x stop)) (All-nil (λ site. site < sites));
  pushes = All-cons (IsPulled pulls s) (request t i x).0 [] (asked_pushes pulls s t i x) (All-nil (IsPulled pulls s));
}

plain_fits : (sites : ℕ) (pulls : List ℕ) (s t i x : ℕ) → s < sites → i < 2 ^ 64 → Fits sites pulls (plain_request s t i x).0
unfolding plain_request
plain_fits sites pulls s t i x here small = batch_fits sites pulls s t i x None here small tt

stopped_fits : (sites : ℕ) (pulls : List ℕ) (s t i x : ℕ) → s < sites → i < 2 ^ 64 → Fits sites pulls (stopped_request s t i x).0
unfolding stopped_request
stopped_fits sites pulls s t i x here small = batch_fits sites pulls s t i x (Some (batch_stop (request t i x).1).0) here small (stop_fits (request t i x).1)

record IsOther (sites s to : ℕ) : Type 0 where
  pub here : to < sites
  pub other : to ≡ s → ⊥

other_by : (sites s d : ℕ) (b : Bool) → nat_lt d s ≡ b → s < sites → d + 1 < sites → IsOther sites s (if b then d else d + 1)
other_by sites s d true is here low = (let before : d < s = ltb-true d s is in record { here = omega arith; other = λ same. omega arith })
other_by sites s d false is here low = (let past : s ≤ d = ltb-false d s is in record { here = omega arith; other = λ same. omega arith })

pull_to : (sites : ℕ) (pulls : List ℕ) (s t to : ℕ) → s < sites → IsOther sites s to → Fits sites pulls (batch s (Pull t to) None)
pull_to sites pulls s t to here is = record {
  fits = one_input (line_plan sites) s (Pull t to) None (let count = count_line sites in omega arith) (let count = count_line sites in (omega (arith, is.here), is.other)) refl tt;
  targets = All-cons (λ site. site < sites) to [] is.here (All-nil (λ site. site < sites));
  pushes = All-cons (IsPulled pulls s) (Pull t to) [] tt (All-nil (IsPulled pulls s));
}

pull_fits : (sites : ℕ) (pulls : List ℕ) (s t x : ℕ) → 2 ≤ sites → s < sites → Fits sites pulls (pull sites s t x).0
unfolding pull
pull_fits sites pulls s t x some here =
    let low : (draw (sites - 1) x).0 < sites - 1 = below (sites - 1) x (omega arith) in
    pull_to sites pulls s t (other_site s (draw (sites - 1) x).0) here (other_by sites s (draw (sites - 1) x).0 (nat_lt (draw (sites - 1) x).0 s) refl here (omega arith))

some_pulls : (pulls : List ℕ) → (length pulls == 0) ≡ false → 0 < length pulls
some_pulls [] is = cc
some_pulls (p ∷ ps) is = omega arith

push_at : (sites : ℕ) (pulls : List ℕ) (t m : ℕ) → All (λ to. to < sites) pulls → m < length pulls → Fits sites pulls (push_of pulls t m)
push_at sites pulls t m within there = record {
  fits = one_input (line_plan sites) (get_or pulls m 0) (Push t m) None (let count = count_line sites in let low : get_or pulls m 0 < sites = All-get_or (λ to. to < sites) pulls m 0 there within in omega arith) tt refl tt;
  targets = All-nil (λ site. site < sites);
  pushes = All-cons (IsPulled pulls (get_or pulls m 0)) (Push t m) [] (there, refl) (All-nil (IsPulled pulls (get_or pulls m 0)));
}

recent_fits : (sites : ℕ) (pulls : List ℕ) (t x : ℕ) → All (λ to. to < sites) pulls → 0 < length pulls → Fits sites pulls (push_recent pulls t x).0
unfolding push_recent
recent_fits sites pulls t x within some =
    let back : (draw (min (length pulls) 16) x).0 < min (length pulls) 16 = below (min (length pulls) 16) x (omega arith) in
    push_at sites pulls t (length pulls - 1 - (draw (min (length pulls) 16) x).0) within (omega arith)

push_by : (sites : ℕ) (pulls : List ℕ) (s t x : ℕ) (b : Bool) → (length pulls == 0) ≡ b → 2 ≤ sites → s < sites → All (λ to. to < sites) pulls → Fits sites pulls ((if b then pull sites s t else push_recent pulls t) x).0
push_by sites pulls s t x true is some here within = pull_fits sites pulls s t x some here
push_by sites pulls s t x false is some here within = recent_fits sites pulls t x within (some_pulls pulls is)

push_fits : (sites : ℕ) (pulls : List ℕ) (s t x : ℕ) → 2 ≤ sites → s < sites → All (λ to. to < sites) pulls → Fits sites pulls (push sites pulls s t x).0
push_fits sites pulls s t x some here within = push_by sites pulls s t x (length pulls == 0) refl some here within

restart_fits : (sites : ℕ) (pulls : List ℕ) (s : ℕ) → s < sites → Fits sites pulls (Restart s None)
restart_fits sites pulls s here = record {
  fits = record { here = (let count = count_line sites in omega arith); stops = tt };
  targets = All-nil (λ site. site < sites);
  pushes = tt;
}

rare_by : (sites : ℕ) (pulls : List ℕ) (i s t x : ℕ) (a b : Bool) → 2 ≤ sites → s < sites → i < 2 ^ 64 → All (λ to. to < sites) pulls
    → Fits sites pulls ((if a then gives (Restart s None) else (if b then stopped_request s t i else push sites pulls s t)) x).0
rare_by sites pulls i s t x true b some here small within = restart_fits sites pulls s here
rare_by sites pulls i s t x false true some here small within = stopped_fits sites pulls s t i x here small
rare_by sites pulls i s t x false false some here small within = push_fits sites pulls s t x some here within

rare_fits : (sites : ℕ) (pulls : List ℕ) (i s t x : ℕ) → 2 ≤ sites → s < sites → i < 2 ^ 64 → All (λ to. to < sites) pulls → Fits sites pulls (rare sites pulls i s t x).0
unfolding rare
rare_fits sites pulls i s t x some here small within = rare_by sites pulls i s t (draw 10 x).1 ((draw 10 x).0 == 0) ((draw 10 x).0 == 1) some here small within

step_by : (sites : ℕ) (pulls : List ℕ) (i s t x : ℕ) (a b c : Bool) → 2 ≤ sites → s < sites → i < 2 ^ 64 → All (λ to. to < sites) pulls
    → Fits sites pulls ((if a then plain_request s t i else (if b then pull sites s t else (if c then push sites pulls s t else rare sites pulls i s t))) x).0
step_by sites pulls i s t x true b c some here small within = plain_fits sites pulls s t i x here small
step_by sites pulls i s t x false true c some here small within = pull_fits sites pulls s t x some here
step_by sites pulls i s t x false false true some here small within = push_fits sites pulls s t x some here within
step_by sites pulls i s t x false false false some here small within = rare_fits sites pulls i s t x some here small within

step_fits : (sites : ℕ) (pulls : List ℕ) (i x : ℕ) → 2 ≤ sites → i < 2 ^ 64 → All (λ to. to < sites) pulls → Fits sites pulls (step sites pulls i x).0
unfolding step
step_fits sites pulls i x some small within =
    step_by sites pulls i (draw sites x).0 (1000 * i + (draw 5000 (draw sites x).1).0) (draw 8 (draw 5000 (draw sites x).1).1).1
    (nat_lt (draw 8 (draw 5000 (draw sites x).1).1).0 4) (nat_lt (draw 8 (draw 5000 (draw sites x).1).1).0 6) ((draw 8 (draw 5000 (draw sites x).1).1).0 == 6)
    some (below sites x (omega arith)) small within

-- ---- all steps

pub record AllFit (sites count : ℕ) (pulls : List ℕ) (steps : List Step) : Type 0 where
  pub counted : length steps ≡ count
  pub each : All (IsStep (line_plan sites)) steps
  pub pushes : PushWhatWasPulled pulls steps

pub all_fit : (sites count i : ℕ) (pulls : List ℕ) (x : ℕ) → 2 ≤ sites → i + count < 2 ^ 64 → All (λ to. to < sites) pulls → AllFit sites count pulls (steps_from sites count i pulls x)
unfolding steps_from
all_fit sites zero i pulls x some small within = record { counted = refl; each = All-nil (IsStep (line_plan sites)); pushes = tt }
all_fit sites (suc more) i pulls x some small within =
    let first : Fits sites pulls (step sites pulls i x).0 = step_fits sites pulls i x some (omega arith) within in
    let rest = all_fit sites more (i + 1) (pulls ++ pulled (step sites pulls i x).0) (step sites pulls i x).1 some (omega arith) (All-append (λ to. to < sites) pulls (pulled (step sites pulls i x).0) within first.targets) in
    record {
      counted = ap suc rest.counted;
      each = All-cons (IsStep (line_plan sites)) (step sites pulls i x).0 _ first.fits rest.each;
      pushes = (first.pushes, rest.pushes);
    }
