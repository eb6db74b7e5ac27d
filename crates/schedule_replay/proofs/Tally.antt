-- How much a progress counts: its lines bound its steps, messages and refusals, and what was written bounds each journal.
use Rattle.std.proofs.Common.{◌≡◌, ◌∙◌, ap, refl, sym, Bool, true, false, cond, ◌⊎◌, inl, inr, suc, ℕ, ◌+◌, ◌*◌, ◌<◌, ◌≤◌, All, Option, Some, None, List, [], ◌∷◌, ◌++◌, length, length-append, fold, replicate, slice_index_or, slice_set, if◌then◌else◌, codes, arith}
use Rattle.std.specs.List.{cons_option, count_by, sum_by}
use Rattle.std.proofs.lemmas.Bool.{cases_eq, cases_lt}
use Rattle.std.proofs.lemmas.List.{append-nil, get_or-set_other, get_or-set_same, get_or_past, get_or-replicate, length-replicate, length-set, set_past}
use Rattle.std.proofs.lemmas.List.Elements.{All-head, All-tail}
use Rattle.std.proofs.lemmas.List.Sums.{count_by-le-length, get_or-le-sum_by, sum_by-append, sum_by-set, sum_by_push}
use Rattle.node_journal.specs.Appending.{is_kept}
use Rattle.node_host.specs.Journals.{frame_size, journal_size}
use Rattle.helios_model.specs.declared.entries.Entry.{Entry}
use Rattle.helios_model.specs.declared.messages.Message.{Message}
use Rattle.helios_model.specs.Node.{Node}
use Rattle.helios_model.specs.Plans.{PlanData, count_of}
use Rattle.helios_model.specs.Step.{after_entry}
use Rattle.helios_model.specs.World.{World, Ending, Done, Kept, Lost, Told, grown, happens, journal_of, journaled, message_in, messages_in, node_of, replies}
use Rattle.helios_model.specs.World.Event.{Batch as Batched}
use Rattle.schedule_text.specs.Steps.{IsStep}
use Rattle.schedule_text.specs.declared.planned.Planned.{Planned}
use Rattle.schedule_text.specs.declared.steps.Step.{Step}
use Rattle.schedule_text.specs.declared.steps.Step.TheVariants.{Batch, Restart}
use Rattle.schedule_replay.specs.Entries.{ending_of, entries_at, event_for}
use Rattle.schedule_replay.specs.Progress.{Progress, first_progress, message_size, pass, progress, site_of, step_frame, volume}
use Rattle.schedule_replay.specs.Refusals.{first_refusal, refusal_from, refusal_of, step_refusal}
use Rattle.schedule_replay.specs.Report.{batch_lines, is_refusal, refusals_in, released_after, reply_lines, reply_text, step_line, step_lines}
use Rattle.schedule_replay.proofs.Journals.{journals_stay}
use Rattle.schedule_replay.proofs.Passes.{unrefused_step}
use Rattle.schedule_replay.proofs.Asked.{or_none}
use Rattle.schedule_replay.proofs.Reach.{entries_number}

-- what a step tells: the replies of a batch that was not stopped
abbrev pub told_by : PlanData → World → Step → List Told
told_by plan w (Batch site inputs None) = replies plan (node_of plan w site) (entries_at plan w site inputs)
told_by plan w (Batch site inputs (Some stop)) = []
told_by plan w (Restart site stop) = []

-- the messages that a step releases
abbrev pub released_by : PlanData → World → Step → List Message
released_by plan w s = messages_in (told_by plan w s)

pub told_pass : (plan : PlanData) (w : World) (s : Step) → (happens plan w (event_for plan w s)).told ≡ w.told ++ told_by plan w s
told_pass plan w (Batch site inputs None) = refl
told_pass plan w (Batch site inputs (Some stop)) = by_test (is_kept stop.call stop.keep)
  where
    by_test : (b : Bool) → (happens plan w (Batched site (entries_at plan w site inputs) (if b then Kept else Lost))).told ≡ w.told ++ []
    by_test true = sym (append-nil w.told)
    by_test false = sym (append-nil w.told)
told_pass plan w (Restart site stop) = sym (append-nil w.told)

pub sent_pass : (plan : PlanData) (w : World) (s : Step) → (happens plan w (event_for plan w s)).sent ≡ w.sent ++ released_by plan w s
sent_pass plan w (Batch site inputs None) = refl
sent_pass plan w (Batch site inputs (Some stop)) = by_test (is_kept stop.call stop.keep)
  where
    by_test : (b : Bool) → (happens plan w (Batched site (entries_at plan w site inputs) (if b then Kept else Lost))).sent ≡ w.sent ++ []
    by_test true = sym (append-nil w.sent)
    by_test false = sym (append-nil w.sent)
sent_pass plan w (Restart site stop) = sym (append-nil w.sent)

-- ---- the lines

-- each line has at least its end
pub line_some : (number site : ℕ) (text : List ℕ) → 1 ≤ length (step_line number site text)
line_some number site text = simp length-append (omega arith)

-- there is a line for each reply
pub lines_long : (number released : ℕ) (ts : List Told) → length ts ≤ length (reply_lines number released ts)
lines_long number released [] = omega arith
lines_long number released (t ∷ ts) =
    let line : List ℕ = step_line number t.site (reply_text released t.reply) in
    let rest : List ℕ = reply_lines number (released_after released t.reply) ts in
    omega (arith, length-append line rest, line_some number t.site (reply_text released t.reply), lines_long number (released_after released t.reply) ts)

pub messages_few : (ts : List Told) → length (messages_in ts) ≤ length ts
messages_few [] = omega arith
messages_few (t ∷ ts) = by_option (message_in t.reply) (messages_few ts)
  where
    by_option : (o : Option Message) → length (messages_in ts) ≤ length ts → length (cons_option o (messages_in ts)) ≤ length (t ∷ ts)
    by_option None few = omega arith
    by_option (Some m) few = omega arith

pub refusals_few : (ts : List Told) → refusals_in ts ≤ length ts
refusals_few ts = count_by-le-length (λ t. is_refusal t.reply) ts

-- a step adds a line for each reply that it tells
pub told_few : (plan : PlanData) (w : World) (number : ℕ) (s : Step) → length (told_by plan w s) ≤ length (step_lines plan w number s)
told_few plan w number (Batch site inputs None) = lines_long number (length w.sent) (replies plan (node_of plan w site) (entries_at plan w site inputs))
told_few plan w number (Batch site inputs (Some stop)) = omega arith
told_few plan w number (Restart site stop) = omega arith

replies_each : (plan : PlanData) (w : World) (site : ℕ) (inputs : List Planned) → length (replies plan (node_of plan w site) (entries_at plan w site inputs)) ≡ length (entries_at plan w site inputs)
replies_each plan w site inputs = as_many (node_of plan w site) (entries_at plan w site inputs)
  where
    as_many : (n : Node) (es : List Entry) → length (replies plan n es) ≡ length es
    as_many n [] = refl
    as_many n (e ∷ es) = ap suc (as_many (after_entry plan n e) es)

-- and at least one line
pub lines_some : (plan : PlanData) (w : World) (number : ℕ) (s : Step) → IsStep plan s → step_refusal w number s ≡ None → 1 ≤ length (step_lines plan w number s)
lines_some plan w number (Batch site inputs None) h unrefused =
    omega (arith, h.some, entries_number plan w number site inputs unrefused, replies_each plan w site inputs, told_few plan w number (Batch site inputs None))
lines_some plan w number (Batch site inputs (Some stop)) h unrefused = by_test (is_kept stop.call stop.keep)
  where
    by_test : (b : Bool) → 1 ≤ length (batch_lines plan w number site inputs (if b then Kept else Lost))
    by_test true = line_some number site (codes "kept")
    by_test false = line_some number site (codes "lost")
lines_some plan w number (Restart site stop) h unrefused = line_some number site (codes "restarted")

-- ---- the journals

pub size_grown : (batches : List (List Entry)) (es : List Entry) → journal_size (grown batches es) ≡ journal_size batches + frame_size es
size_grown batches [] = omega arith
size_grown batches (e ∷ es) = omega (arith, sum_by_push frame_size batches (e ∷ es))

size_put : (journals : List (List (List Entry))) (site k : ℕ) (es : List Entry)
    → journal_size (slice_index_or (slice_set journals site (grown (slice_index_or journals site []) es)) k []) ≤ journal_size (slice_index_or journals k []) + frame_size es
size_put journals site k es = by_site (cases_eq k site) (cases_lt site (length journals))
  where
    batches : List (List Entry)
    batches = grown (slice_index_or journals site []) es

    by_site : (k ≡ site) ⊎ (k ≡ site → ⊥) → (site < length journals) ⊎ (length journals ≤ site)
        → journal_size (slice_index_or (slice_set journals site batches) k []) ≤ journal_size (slice_index_or journals k []) + frame_size es
    by_site (inl same) (inl low) = rw (same, get_or-set_same journals site batches [] low) (omega (arith, size_grown (slice_index_or journals site []) es))
    by_site (inl same) (inr past) = rw (set_past journals site batches past) (omega arith)
    by_site (inr apart) low = rw (get_or-set_other journals site k batches [] apart) (omega arith)

-- a step adds at most the frame of its batch to a journal
pub size_pass : (plan : PlanData) (w : World) (s : Step) (k : ℕ) → journal_size (journal_of (happens plan w (event_for plan w s)) k) ≤ journal_size (journal_of w k) + step_frame plan w s
size_pass plan w (Batch site inputs stop) k = by_ending (ending_of stop)
  where
    es : List Entry
    es = journaled (entries_at plan w site inputs)

    by_ending : (ending : Ending) → journal_size (journal_of (happens plan w (Batched site (entries_at plan w site inputs) ending)) k) ≤ journal_size (journal_of w k) + frame_size es
    by_ending Done = size_put w.journals site k es
    by_ending Kept = size_put w.journals site k es
    by_ending Lost = omega arith
size_pass plan w (Restart site stop) k = omega arith

-- ---- what is counted

-- what holds after any steps: the lines bound the messages and the refusals, and what was written bounds each journal
pub record IsCounted (plan : PlanData) (p : Progress) : Type 0 where
  pub refusals : refusals_in p.world.told ≤ length p.lines
  pub sent : length p.world.sent ≤ length p.lines
  pub opened : length p.opened ≡ count_of plan
  pub journals : length p.world.journals ≡ count_of plan
  pub sizes : (site : ℕ) → journal_size (journal_of p.world site) ≤ 39 + p.frames

-- the same, and the lines bound the steps, as after steps that are planned and not refused
pub record IsTallied (plan : PlanData) (p : Progress) : Type 0 where
  pub number : p.number ≤ length p.lines
  pub refusals : refusals_in p.world.told ≤ length p.lines
  pub sent : length p.world.sent ≤ length p.lines
  pub opened : length p.opened ≡ count_of plan
  pub journals : length p.world.journals ≡ count_of plan
  pub sizes : (site : ℕ) → journal_size (journal_of p.world site) ≤ 39 + p.frames

pub tallied_by : (plan : PlanData) (p : Progress) → IsCounted plan p → p.number ≤ length p.lines → IsTallied plan p
tallied_by plan p h number = record { number = number; refusals = h.refusals; sent = h.sent; opened = h.opened; journals = h.journals; sizes = h.sizes }

pub counted_by : (plan : PlanData) (p : Progress) → IsTallied plan p → IsCounted plan p
counted_by plan p h = record { refusals = h.refusals; sent = h.sent; opened = h.opened; journals = h.journals; sizes = h.sizes }

pub counted_first : (plan : PlanData) → IsCounted plan (first_progress plan)
counted_first plan = record {
  refusals = omega arith;
  sent = omega arith;
  opened = length-replicate (count_of plan) false;
  journals = length-replicate (count_of plan) [];
  sizes = λ site. no_journal (count_of plan) site;
}
  where
    none_at : (n site : ℕ) → (site < n) ⊎ (n ≤ site) → slice_index_or (replicate {A = List (List Entry)} n []) site [] ≡ []
    none_at n site (inl low) = get_or-replicate n site [] [] low
    none_at n site (inr past) = get_or_past (replicate n []) site [] (rw length-replicate past)

    no_journal : (n site : ℕ) → journal_size (slice_index_or (replicate {A = List (List Entry)} n []) site []) ≤ 39 + 0
    no_journal n site = rw (none_at n site (cases_lt site n)) (omega arith)

refusals_both : (ts us : List Told) → refusals_in (ts ++ us) ≡ refusals_in ts + refusals_in us
refusals_both ts us = sum_by-append (λ t. cond (is_refusal t.reply) 1 0) ts us

-- one step more
pub counted_pass : (plan : PlanData) (p : Progress) (s : Step) → IsCounted plan p → IsCounted plan (pass plan p s)
counted_pass plan p s h =
    let w : World = p.world in
    let few : length (told_by plan w s) ≤ length (step_lines plan w p.number s) = told_few plan w p.number s in
    let longer : length (p.lines ++ step_lines plan w p.number s) ≡ length p.lines + length (step_lines plan w p.number s) = length-append p.lines (step_lines plan w p.number s) in
    record {
      refusals = rw (told_pass plan w s) (omega (arith, longer, few, h.refusals, refusals_both w.told (told_by plan w s), refusals_few (told_by plan w s)));
      sent = rw (sent_pass plan w s) (omega (arith, longer, few, h.sent, length-append w.sent (released_by plan w s), messages_few (told_by plan w s)));
      opened = length-set p.opened (site_of s) true ∙ h.opened;
      journals = journals_stay plan w (event_for plan w s) ∙ h.journals;
      sizes = λ site. omega (arith, size_pass plan w s site, h.sizes site);
    }

counted_from : (plan : PlanData) (steps : List Step) (p : Progress) → IsCounted plan p → IsCounted plan (fold (pass plan) p steps)
counted_from plan [] p h = h
counted_from plan (s ∷ steps) p h = counted_from plan steps (pass plan p s) (counted_pass plan p s h)

pub counted : (plan : PlanData) (steps : List Step) → IsCounted plan (progress plan steps)
unfolding progress
counted plan steps = counted_from plan steps (first_progress plan) (counted_first plan)

-- ---- and how many steps there are

pub tallied_first : (plan : PlanData) → IsTallied plan (first_progress plan)
tallied_first plan = tallied_by plan (first_progress plan) (counted_first plan) (omega arith)

pub tallied_pass : (plan : PlanData) (p : Progress) (s : Step) → IsStep plan s → step_refusal p.world p.number s ≡ None → IsTallied plan p → IsTallied plan (pass plan p s)
tallied_pass plan p s is unrefused h =
    tallied_by plan (pass plan p s) (counted_pass plan p s (counted_by plan p h))
    (omega (arith, h.number, length-append p.lines (step_lines plan p.world p.number s), lines_some plan p.world p.number s is unrefused))

tallied_from : (plan : PlanData) (steps : List Step) (p : Progress) → All (IsStep plan) steps → refusal_from plan p steps ≡ None → IsTallied plan p → IsTallied plan (fold (pass plan) p steps)
tallied_from plan [] p are unrefused h = h
tallied_from plan (s ∷ steps) p are unrefused h =
    let both = or_none (refusal_of p s) (refusal_from plan (pass plan p s) steps) unrefused in
    tallied_from plan steps (pass plan p s) (All-tail (IsStep plan) s steps are) both.1
    (tallied_pass plan p s (All-head (IsStep plan) s steps are) (unrefused_step p s both.0) h)

pub tallied : (plan : PlanData) (steps : List Step) → All (IsStep plan) steps → first_refusal plan steps ≡ None → IsTallied plan (progress plan steps)
unfolding progress
tallied plan steps are unrefused = tallied_from plan steps (first_progress plan) are unrefused (tallied_first plan)

-- ---- what was written

-- a site that was opened counts
opened_counts : (opened : List Bool) (site : ℕ) → site < length opened → slice_index_or opened site true ≡ true → 1 ≤ count_by (λ is_open. is_open) opened
opened_counts opened site low is =
    let one : ◌≡◌ {A = ℕ} (cond (slice_index_or opened site true) 1 0) 1 = rw is refl in
    omega (arith, one, get_or-le-sum_by (λ is_open. cond is_open 1 0) opened site true low)

-- so what was written is no less than the journal of a site that was opened
pub low_gate : (plan : PlanData) (p : Progress) (site : ℕ) → slice_index_or p.opened site true ≡ true → site < count_of plan → IsTallied plan p
    → journal_size (journal_of p.world site) ≤ volume p
low_gate plan p site is low h =
    let inside : site < length p.opened = rw h.opened low in
    omega (arith, h.sizes site, opened_counts p.opened site inside is)

-- the same where the steps are not known to be planned
pub low_gate_counted : (plan : PlanData) (p : Progress) (site : ℕ) → slice_index_or p.opened site true ≡ true → site < count_of plan → IsCounted plan p
    → journal_size (journal_of p.world site) ≤ volume p
low_gate_counted plan p site is low h =
    let inside : site < length p.opened = rw h.opened low in
    omega (arith, h.sizes site, opened_counts p.opened site inside is)

-- how many bytes the head of a site has that is opened by a step
abbrev pub head_size : Bool → ℕ
head_size true = 0
head_size false = 39

pub opened_pass : (opened : List Bool) (site : ℕ)
    → 39 * count_by (λ is_open. is_open) (slice_set opened site true) ≡ 39 * count_by (λ is_open. is_open) opened + head_size (slice_index_or opened site true)
opened_pass opened site = by_place (cases_lt site (length opened))
  where
    by_test : (b : Bool) (old new : ℕ) → new + cond b 1 0 ≡ old + 1 → 39 * new ≡ 39 * old + head_size b
    by_test true old new h = omega arith
    by_test false old new h = omega arith

    by_place : (site < length opened) ⊎ (length opened ≤ site)
        → 39 * count_by (λ is_open. is_open) (slice_set opened site true) ≡ 39 * count_by (λ is_open. is_open) opened + head_size (slice_index_or opened site true)
    by_place (inl low) =
        by_test (slice_index_or opened site true) (count_by (λ is_open. is_open) opened) (count_by (λ is_open. is_open) (slice_set opened site true))
        (sum_by-set (λ is_open. cond is_open 1 0) opened site true true low)
    by_place (inr past) = rw (set_past opened site true past, get_or_past opened site true past) (omega arith)

-- what one step more writes: a head where it opens a site, the frame of its batch, the messages that it releases, and its lines
pub volume_pass : (plan : PlanData) (p : Progress) (s : Step)
    → volume (pass plan p s) ≡ volume p + head_size (slice_index_or p.opened (site_of s) true) + step_frame plan p.world s + sum_by message_size (released_by plan p.world s) + length (step_lines plan p.world p.number s)
volume_pass plan p s =
    let sent : sum_by message_size (happens plan p.world (event_for plan p.world s)).sent ≡ sum_by message_size p.world.sent + sum_by message_size (released_by plan p.world s) =
    ap (sum_by message_size) (sent_pass plan p.world s) ∙ sum_by-append message_size p.world.sent (released_by plan p.world s) in
    omega (arith, opened_pass p.opened (site_of s), sent, length-append p.lines (step_lines plan p.world p.number s))

-- the lines are among what was written, and with them all that they bound
pub lines_low : (p : Progress) → length p.lines ≤ volume p
lines_low p = omega arith
