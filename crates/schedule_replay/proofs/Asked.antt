-- What the inputs of a batch ask of its site, where none of them is refused.
use Rattle.std.proofs.Common.{◌≡◌, ◌∙◌, ap, refl, subst, suc, ℕ, ◌≤◌, Bool, true, false, ◌||◌, All, Contains, IfSome, Option, Some, None, List, [], ◌∷◌, length, filter_map, find, fold, map, nat_eq, if◌then◌else◌, option_map, slice_get, arith}
use Rattle.std.specs.List.{cons_option, list_any}
use Rattle.std.specs.Option.{option_or}
use Rattle.std.proofs.lemmas.Bool.{cond_both, eqb-true}
use Rattle.std.proofs.lemmas.List.{length-map}
use Rattle.std.proofs.lemmas.List.Elements.{All-cons, All-head, All-nil, All-tail}
use Rattle.std.proofs.lemmas.Option.{get_or_from_slice_get, slice_get_within}
use Rattle.helios_model.specs.declared.entries.Entry.{Entry}
use Rattle.helios_model.specs.declared.ids.Version.{Version}
use Rattle.helios_model.specs.declared.ids.Version.TheVariants.{Initial, Of}
use Rattle.helios_model.specs.declared.messages.Message.{Message}
use Rattle.helios_model.specs.declared.records.CommitEvent.{CommitEvent}
use Rattle.helios_model.specs.declared.records.Record.{Record}
use Rattle.helios_model.specs.declared.records.Record.TheVariants.{Prepare, Commit, Abort}
use Rattle.helios_model.specs.declared.transactions.PutItem.{PutItem}
use Rattle.helios_model.specs.Ids.{same_id}
use Rattle.helios_model.specs.Limits.{most_sites}
use Rattle.helios_model.specs.Log.{commit_in, current, event_at, prepare_of, prepares, version_after}
use Rattle.helios_model.specs.Plans.{PlanData, count_of}
use Rattle.helios_model.specs.Spellable.{AreSpellablePuts, IsMessageOf, IsSpellableAsk, IsSpellablePrepare, IsSpellableRecord, IsSpellableVersion}
use Rattle.helios_model.specs.Step.{IsFor, MayBeAsked, is_journaled as is_kept}
use Rattle.helios_model.specs.Texts.{IsKey, all_differ, same_text}
use Rattle.helios_model.specs.Transactions.{Transaction, writes_key}
use Rattle.helios_model.specs.World.{World, IsReleased, journaled}
use Rattle.node_host.specs.Journals.{AreAsked}
use Rattle.schedule_text.specs.declared.planned.Planned.{Planned}
use Rattle.schedule_text.specs.declared.planned.Planned.TheVariants.{Get, Status, Request, Pull, Push}
use Rattle.schedule_text.specs.declared.planned.PlannedRead.{PlannedRead}
use Rattle.schedule_text.specs.declared.planned.PlannedVersion.{PlannedVersion}
use Rattle.schedule_text.specs.declared.planned.PlannedVersion.TheVariants.{At, Current}
use Rattle.schedule_text.specs.Steps.{ArePlannedReads, IsInput, IsPlannedVersion, is_journaled}
use Rattle.schedule_replay.specs.declared.refusal.ReplayRefusal.TheVariants.{NotForSite}
use Rattle.schedule_replay.specs.Entries.{entries_for, entry_for, push_at, read_for, version_for}
use Rattle.schedule_replay.specs.Refusals.{input_refusal, inputs_refusal, push_refusal}

-- ---- the current versions of a log have a spelling

found : {X : Type 0} (P : X → Type 0) (p : X → Bool) (xs : List X) → All P xs → IfSome (find p xs) P
found P p [] all = tt
found P p (x ∷ xs) all =
    cond_both (p x) (Some x) (find p xs) (λ o. IfSome o P) (λ _. All-head P x xs all) (λ _. found P p xs (All-tail P x xs all))

prepares_spelled : (count : ℕ) (log : List Record) → All (IsSpellableRecord count) log → All (IsSpellablePrepare count) (prepares log)
prepares_spelled count [] all = All-nil (IsSpellablePrepare count)
prepares_spelled count (Prepare p ∷ rs) all =
    All-cons (IsSpellablePrepare count) p (prepares rs) (All-head (IsSpellableRecord count) (Prepare p) rs all) (prepares_spelled count rs (All-tail (IsSpellableRecord count) (Prepare p) rs all))
prepares_spelled count (Commit id time ∷ rs) all = prepares_spelled count rs (All-tail (IsSpellableRecord count) (Commit id time) rs all)
prepares_spelled count (Abort id time cause ∷ rs) all = prepares_spelled count rs (All-tail (IsSpellableRecord count) (Abort id time cause) rs all)

version_spelled : (count : ℕ) (key : List ℕ) (version : Version) (e : CommitEvent) → count ≤ most_sites → IsSpellableVersion version → IsSpellablePrepare count e.prepare
    → IsSpellableVersion (version_after key version e)
version_spelled count key version e few good spelled =
    cond_both (writes_key e.prepare key) (Of e.prepare.id) version IsSpellableVersion
    (λ _. record { here = omega (arith, spelled.named.here); some = spelled.named.some; last = spelled.named.last }) (λ _. good)

fold_spelled : (count : ℕ) (key : List ℕ) (log rest : List Record) (version : Version) → count ≤ most_sites → All (IsSpellablePrepare count) (prepares log)
    → IsSpellableVersion version → IsSpellableVersion (fold (version_after key) version (filter_map (commit_in log) rest))
fold_spelled count key log [] version few all good = good
fold_spelled count key log (Prepare p ∷ rs) version few all good = fold_spelled count key log rs version few all good
fold_spelled count key log (Abort id time cause ∷ rs) version few all good = fold_spelled count key log rs version few all good
fold_spelled count key log (Commit id time ∷ rs) version few all good =
    by_prepare (prepare_of log id) (found (IsSpellablePrepare count) (λ p. same_id p.id id) (prepares log) all) (λ next fine. fold_spelled count key log rs next few all fine)
  where
    by_prepare : (o : Option Transaction) → IfSome o (IsSpellablePrepare count)
        → ((next : Version) → IsSpellableVersion next → IsSpellableVersion (fold (version_after key) next (filter_map (commit_in log) rs)))
        → IsSpellableVersion (fold (version_after key) version (cons_option (option_map (event_at time) o) (filter_map (commit_in log) rs)))
    by_prepare None is later = later version good
    by_prepare (Some p) is later = later (version_after key version (event_at time p)) (version_spelled count key version (event_at time p) few good is)

-- each version that can be looked up in a log has a spelling
abbrev pub AreCurrentSpelled : List Record → Type 0
AreCurrentSpelled log = (key : List ℕ) → IsSpellableVersion (current log key)

pub current_spelled : (count : ℕ) (log : List Record) → count ≤ most_sites → All (IsSpellableRecord count) log → AreCurrentSpelled log
current_spelled count log few all = λ key. fold_spelled count key log log Initial few (prepares_spelled count log all) tt

-- ---- what is planned within the limits is a request within the limits

any_same : (log : List Record) (t : List ℕ) (reads : List PlannedRead) → list_any (λ x. same_text x.key t) (map (read_for log) reads) ≡ list_any (λ x. same_text x.key t) reads
any_same log t [] = refl
any_same log t (r ∷ rs) = ap (λ b. same_text r.key t || b) (any_same log t rs)

differ_same : (log : List Record) (reads : List PlannedRead) → all_differ (λ x. x.key) (map (read_for log) reads) ≡ all_differ (λ x. x.key) reads
differ_same log [] = refl
differ_same log (r ∷ rs) = rw (any_same log r.key rs, differ_same log rs) refl

keys_of : (log : List Record) (reads : List PlannedRead) → All (λ r. IsKey r.key) reads → All (λ r. IsKey r.key) (map (read_for log) reads)
keys_of log [] keys = All-nil (λ r. IsKey r.key)
keys_of log (r ∷ rs) keys =
    All-cons (λ x. IsKey x.key) (read_for log r) (map (read_for log) rs) (All-head (λ x. IsKey x.key) r rs keys) (keys_of log rs (All-tail (λ x. IsKey x.key) r rs keys))

version_of : (log : List Record) (key : List ℕ) (v : PlannedVersion) → AreCurrentSpelled log → IsPlannedVersion v → IsSpellableVersion (version_for log key v)
version_of log key (At version) spelled planned = planned
version_of log key Current spelled planned = spelled key

versions_of : (log : List Record) (reads : List PlannedRead) → AreCurrentSpelled log → All (λ r. IsPlannedVersion r.version) reads
    → All (λ r. IsSpellableVersion r.version) (map (read_for log) reads)
versions_of log [] spelled planned = All-nil (λ r. IsSpellableVersion r.version)
versions_of log (r ∷ rs) spelled planned =
    All-cons (λ x. IsSpellableVersion x.version) (read_for log r) (map (read_for log) rs)
    (version_of log r.key r.version spelled (All-head (λ x. IsPlannedVersion x.version) r rs planned)) (versions_of log rs spelled (All-tail (λ x. IsPlannedVersion x.version) r rs planned))

ask_spelled : (log : List Record) (reads : List PlannedRead) (puts : List PutItem) → AreCurrentSpelled log → ArePlannedReads reads → AreSpellablePuts puts
    → IsSpellableAsk (record { reads = map (read_for log) reads; puts = puts })
ask_spelled log reads puts spelled planned within = record {
  reads = record {
    few = rw length-map planned.few;
    differ = rw (differ_same log reads) planned.differ;
    keys = keys_of log reads planned.keys;
    versions = versions_of log reads spelled planned.versions;
  };
  puts = within;
}

-- ---- each input by itself

pub or_none : {X : Type 0} (a b : Option X) → option_or a b ≡ None → (a ≡ None) × (b ≡ None)
or_none None b h = (refl, h)
or_none (Some x) b h = absurd (cc)

-- an element that is found is one of the list
all_at : {X : Type 0} (P : X → Type 0) (xs : List X) (k : ℕ) (x : X) → All P xs → slice_get xs k ≡ Some x → P x
all_at P xs k x all is = subst P (get_or_from_slice_get xs k x x is) (all k x (slice_get_within xs k x is))

contains_at : {X : Type 0} (xs : List X) (k : ℕ) (x : X) → slice_get xs k ≡ Some x → Contains xs x
contains_at xs k x is = (k, slice_get_within xs k x is, get_or_from_slice_get xs k x x is)

-- what is pushed and not refused is there, and for the site
push_found : (plan : PlanData) (sent : List Message) (step site message : ℕ) → All (IsMessageOf (count_of plan)) sent
    → push_refusal step site (slice_get sent message) ≡ None → (m : Message) × (slice_get sent message ≡ Some m) × IsFor plan site m
push_found plan sent step site message formed unrefused = by_message (slice_get sent message) refl unrefused
  where
    by_test : (m : Message) (b : Bool) → nat_eq m.to site ≡ b → (if b then None else Some (NotForSite step)) ≡ None → m.to ≡ site
    by_test m true same h = eqb-true m.to site same
    by_test m false same h = absurd (cc)

    by_message : (o : Option Message) → slice_get sent message ≡ o → push_refusal step site o ≡ None → (m : Message) × (slice_get sent message ≡ Some m) × IsFor plan site m
    by_message None is h = absurd (cc)
    by_message (Some m) is h =
        (m, is, record { message = all_at (IsMessageOf (count_of plan)) sent message m formed is; here = by_test m (nat_eq m.to site) refl h })

input_asked : (plan : PlanData) (log : List Record) (sent : List Message) (step site : ℕ) (i : Planned) (es : List Entry) → AreCurrentSpelled log
    → All (IsMessageOf (count_of plan)) sent → IsInput plan site i → input_refusal sent step site i ≡ None → AreAsked plan site es
    → AreAsked plan site (cons_option (entry_for log sent i) es)
input_asked plan log sent step site (Get key) es spelled formed is unrefused all = All-cons (λ e. MayBeAsked plan site e.input) _ es tt all
input_asked plan log sent step site (Status id) es spelled formed is unrefused all = All-cons (λ e. MayBeAsked plan site e.input) _ es tt all
input_asked plan log sent step site (Request at reads puts) es spelled formed is unrefused all =
    All-cons (λ e. MayBeAsked plan site e.input) _ es (ask_spelled log reads puts spelled is.0 is.1) all
input_asked plan log sent step site (Pull at to) es spelled formed is unrefused all =
    All-cons (λ e. MayBeAsked plan site e.input) _ es (record { below = is.0; other = is.1 }) all
input_asked plan log sent step site (Push at message) es spelled formed is unrefused all =
    let there = push_found plan sent step site message formed unrefused in
    rw there.1 (All-cons (λ e. MayBeAsked plan site e.input) (push_at at there.0) es there.2 all)

-- what an unrefused batch asks may be asked
pub inputs_asked : (plan : PlanData) (log : List Record) (sent : List Message) (step site : ℕ) (inputs : List Planned) → AreCurrentSpelled log
    → All (IsMessageOf (count_of plan)) sent → All (IsInput plan site) inputs → inputs_refusal sent step site inputs ≡ None → AreAsked plan site (entries_for log sent inputs)
inputs_asked plan log sent step site [] spelled formed are unrefused = All-nil (λ e. MayBeAsked plan site e.input)
inputs_asked plan log sent step site (i ∷ is) spelled formed are unrefused =
    let both = or_none (input_refusal sent step site i) (inputs_refusal sent step site is) unrefused in
    input_asked plan log sent step site i (entries_for log sent is) spelled formed (All-head (IsInput plan site) i is are) both.0
    (inputs_asked plan log sent step site is spelled formed (All-tail (IsInput plan site) i is are) both.1)

-- each input that is not refused asks one thing
asks_one : (log : List Record) (sent : List Message) (step site : ℕ) (i : Planned) (es : List Entry) → input_refusal sent step site i ≡ None
    → length (cons_option (entry_for log sent i) es) ≡ suc (length es)
asks_one log sent step site (Get key) es h = refl
asks_one log sent step site (Status id) es h = refl
asks_one log sent step site (Request at reads puts) es h = refl
asks_one log sent step site (Pull at to) es h = refl
asks_one log sent step site (Push at message) es h = by_message (slice_get sent message) h
  where
    by_message : (o : Option Message) → push_refusal step site o ≡ None → length (cons_option (option_map (push_at at) o) es) ≡ suc (length es)
    by_message None h = absurd (cc)
    by_message (Some m) h = refl

pub asks_each : (log : List Record) (sent : List Message) (step site : ℕ) (inputs : List Planned) → inputs_refusal sent step site inputs ≡ None
    → length (entries_for log sent inputs) ≡ length inputs
asks_each log sent step site [] h = refl
asks_each log sent step site (i ∷ is) h =
    let both = or_none (input_refusal sent step site i) (inputs_refusal sent step site is) h in
    asks_one log sent step site i (entries_for log sent is) both.0 ∙ ap suc (asks_each log sent step site is both.1)

-- of an input that goes into the journal, so does what it asks
some_journaled : (log : List Record) (sent : List Message) (step site : ℕ) (i : Planned) (es : List Entry) → input_refusal sent step site i ≡ None
    → is_journaled i ≡ true → 1 ≤ length (journaled (cons_option (entry_for log sent i) es))
some_journaled log sent step site (Get key) es h journal = absurd (cc)
some_journaled log sent step site (Status id) es h journal = absurd (cc)
some_journaled log sent step site (Request at reads puts) es h journal = omega arith
some_journaled log sent step site (Pull at to) es h journal = omega arith
some_journaled log sent step site (Push at message) es h journal = by_message (slice_get sent message) h
  where
    by_message : (o : Option Message) → push_refusal step site o ≡ None → 1 ≤ length (journaled (cons_option (option_map (push_at at) o) es))
    by_message None h = absurd (cc)
    by_message (Some m) h = omega arith

more_journaled : (o : Option Entry) (es : List Entry) → length (journaled es) ≤ length (journaled (cons_option o es))
more_journaled None es = omega arith
more_journaled (Some e) es =
    cond_both (is_kept e.input) (e ∷ journaled es) (journaled es) (λ entries. length (journaled es) ≤ length entries) (λ _. omega arith) (λ _. omega arith)

pub asks_journaled : (log : List Record) (sent : List Message) (step site : ℕ) (inputs : List Planned) → inputs_refusal sent step site inputs ≡ None
    → list_any is_journaled inputs ≡ true → 1 ≤ length (journaled (entries_for log sent inputs))
asks_journaled log sent step site [] h journal = absurd (cc)
asks_journaled log sent step site (i ∷ is) h journal =
    let both = or_none (input_refusal sent step site i) (inputs_refusal sent step site is) h in
    by_test (is_journaled i) refl journal both.0 (asks_journaled log sent step site is both.1)
  where
    by_test : (b : Bool) → is_journaled i ≡ b → (b || list_any is_journaled is) ≡ true → input_refusal sent step site i ≡ None
        → (list_any is_journaled is ≡ true → 1 ≤ length (journaled (entries_for log sent is))) → 1 ≤ length (journaled (entries_for log sent (i ∷ is)))
    by_test true here any unrefused later = some_journaled log sent step site i (entries_for log sent is) unrefused here
    by_test false here any unrefused later = omega (arith, later any, more_journaled (entry_for log sent i) (entries_for log sent is))

one_released : (w : World) (log : List Record) (i : Planned) (es : List Entry) → All (λ e. IsReleased w e.input) es → All (λ e. IsReleased w e.input) (cons_option (entry_for log w.sent i) es)
one_released w log (Get key) es all = All-cons (λ e. IsReleased w e.input) _ es tt all
one_released w log (Status id) es all = All-cons (λ e. IsReleased w e.input) _ es tt all
one_released w log (Request at reads puts) es all = All-cons (λ e. IsReleased w e.input) _ es tt all
one_released w log (Pull at to) es all = All-cons (λ e. IsReleased w e.input) _ es tt all
one_released w log (Push at message) es all = by_message (slice_get w.sent message) refl
  where
    by_message : (o : Option Message) → slice_get w.sent message ≡ o → All (λ e. IsReleased w e.input) (cons_option (option_map (push_at at) o) es)
    by_message None is = all
    by_message (Some m) is = All-cons (λ e. IsReleased w e.input) (push_at at m) es (contains_at w.sent message m is) all

-- each message that is taken in was released before the batch
pub each_released : (w : World) (log : List Record) (inputs : List Planned) → All (λ e. IsReleased w e.input) (entries_for log w.sent inputs)
each_released w log [] = All-nil (λ e. IsReleased w e.input)
each_released w log (i ∷ is) = one_released w log i (entries_for log w.sent is) (each_released w log is)
