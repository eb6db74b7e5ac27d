-- A step of a node only adds records to its log, and what the Commits among them commit is settled then.
use Rattle.std.proofs.Common.{◌≡◌, ◌∙◌, ap, refl, sym, suc, ℕ, ◌+◌, Bool, true, false, ◌&&◌, ◌⊎◌, inl, inr, Option, Some, None, List, [], ◌∷◌, ◌++◌, append_assoc, fold, filter, filter_map, find, length, get_or, drop, All, eq-eqb, arith}
use Rattle.std.specs.List.{list_any}
use Rattle.std.specs.Option.{option_or}
use Rattle.std.proofs.Math.Seq.{drop-append_seam}
use Rattle.std.proofs.lemmas.Bool.{cases_Bool}
use Rattle.std.proofs.lemmas.List.{append-nil}
use Rattle.std.proofs.lemmas.List.Elements.{All-filter, All-map, filter-append, filter_map-append}
use Rattle.std.proofs.lemmas.List.Folds.{find-append, list_any_at}
use Rattle.helios_model.specs.declared.ids.TxnId.{TxnId}
use Rattle.helios_model.specs.declared.entries.Reply.{Reply}
use Rattle.helios_model.specs.declared.entries.Entry.{Entry}
use Rattle.helios_model.specs.declared.entries.Input.{Input}
use Rattle.helios_model.specs.declared.entries.Input.TheVariants.{Get, Status, Request, Pull, Push}
use Rattle.helios_model.specs.declared.messages.Message.{Message}
use Rattle.helios_model.specs.declared.records.Record.{Record}
use Rattle.helios_model.specs.declared.records.Record.TheVariants.{Prepare, Commit, Abort}
use Rattle.helios_model.specs.Ids.{same_id}
use Rattle.helios_model.specs.Exchange.{Intake, abort_one, clashing, is_passed, is_unfinished, take_all, take_end, take_new, take_one, with_taken}
use Rattle.helios_model.specs.Log.{commit_in, finished, is_own, prepare_in, prepare_of, prepares, unfinished}
use Rattle.helios_model.specs.Messages.{advanced, arrived, intake_of}
use Rattle.helios_model.specs.Plans.{PlanData}
use Rattle.helios_model.specs.Node.{Node, clock, is_spent, known, own_open}
use Rattle.helios_model.specs.Request.{asked, entered, next_id, refusal, unless_refused}
use Rattle.helios_model.specs.Settle.{commit_one, is_reached, ready, settle}
use Rattle.helios_model.specs.Step.{after_entries, after_entry, by_clock, is_journaled}
use Rattle.helios_model.specs.Transactions.{Transaction}
use Rattle.helios_model.specs.World.{is_own_commit, own_commits}
use Rattle.std.proofs.Common.{not}

-- the records that were added, of which each Commit has its Prepare in the log already
pub record LogGoes (old new : List Record) : Type 0 where
  pub more : List Record
  pub grown : new ≡ old ++ more
  pub settled : (later : List Record) → filter_map (commit_in (new ++ later)) more ≡ filter_map (commit_in new) more

pub goes_none : (log : List Record) → LogGoes log log
goes_none log = record { more = []; grown = sym (append-nil log); settled = λ later. refl }

-- what one of two stages commits is what it committed then
first_settled : (a b c : List Record) (f : LogGoes a b) (g : LogGoes b c) (later : List Record)
    → filter_map (commit_in (c ++ later)) f.more ≡ filter_map (commit_in b) f.more
first_settled a b c f g later =
    ap (λ log. filter_map (commit_in (log ++ later)) f.more) g.grown
    ∙ ap (λ log. filter_map (commit_in log) f.more) (append_assoc b g.more later)
    ∙ f.settled (g.more ++ later)

pub first_stays : (a b c : List Record) (f : LogGoes a b) (g : LogGoes b c) → filter_map (commit_in c) f.more ≡ filter_map (commit_in b) f.more
first_stays a b c f g = ap (λ log. filter_map (commit_in log) f.more) g.grown ∙ f.settled g.more

pub goes_both : (a b c : List Record) → LogGoes a b → LogGoes b c → LogGoes a c
goes_both a b c f g = record {
  more = f.more ++ g.more;
  grown = g.grown ∙ ap (λ log. log ++ g.more) f.grown ∙ append_assoc a f.more g.more;
  settled = λ later.
      filter_map-append (commit_in (c ++ later)) f.more g.more
      ∙ ap (λ es. es ++ filter_map (commit_in (c ++ later)) g.more) (first_settled a b c f g later)
      ∙ ap (λ es. filter_map (commit_in b) f.more ++ es) (g.settled later)
      ∙ ap (λ es. es ++ filter_map (commit_in c) g.more) (sym (first_stays a b c f g))
      ∙ sym (filter_map-append (commit_in c) f.more g.more);
}

pub drop_grown : (a b : List Record) (f : LogGoes a b) → drop (length a) b ≡ f.more
drop_grown a b f = ap (drop (length a)) f.grown ∙ drop-append_seam a f.more

-- the own commits of two stages are those of the first and then those of the second
pub commits_both : (site : ℕ) (a b c : List Record) → LogGoes a b → LogGoes b c
    → own_commits site c (length a) ≡ own_commits site b (length a) ++ own_commits site c (length b)
unfolding goes_both
commits_both site a b c f g =
    ap (λ rs. filter (is_own_commit site) (filter_map (commit_in c) rs)) (drop_grown a c (goes_both a b c f g))
    ∙ ap (filter (is_own_commit site)) (filter_map-append (commit_in c) f.more g.more)
    ∙ filter-append (is_own_commit site) (filter_map (commit_in c) f.more) (filter_map (commit_in c) g.more)
    ∙ ap (λ es. filter (is_own_commit site) es ++ filter (is_own_commit site) (filter_map (commit_in c) g.more)) (first_stays a b c f g)
    ∙ ap (λ rs. filter (is_own_commit site) (filter_map (commit_in b) rs) ++ filter (is_own_commit site) (filter_map (commit_in c) g.more)) (sym (drop_grown a b f))
    ∙ ap (λ rs. own_commits site b (length a) ++ filter (is_own_commit site) (filter_map (commit_in c) rs)) (sym (drop_grown b c g))

-- ---- ids that have a Prepare

abbrev named : TxnId → Transaction → Bool
named id p = same_id p.id id

IsNamed : List Record → TxnId → Type 0
IsNamed log id = (p : Transaction) × (prepare_of log id ≡ Some p)

named_more : (log later : List Record) (id : TxnId) → IsNamed log id → IsNamed (log ++ later) id
unfolding IsNamed
named_more log later id h = (
  h.0,
  ap (find (named id)) (filter_map-append prepare_in log later) ∙ find-append (named id) (prepares log) (prepares later)
      ∙ ap (λ o. option_or o (find (named id) (prepares later))) h.1,
)

found : {X : Type 0} (p : X → Bool) (xs : List X) → list_any p xs ≡ true → (x : X) × (find p xs ≡ Some x)
found p [] h = absurd (cc)
found {X = X} p (x ∷ xs) h = by_test (cases_Bool (p x)) (found p xs)
  where
    by_test : (p x ≡ true) ⊎ (p x ≡ false) → (list_any p xs ≡ true → (y : X) × (find p xs ≡ Some y)) → (y : X) × (find p (x ∷ xs) ≡ Some y)
    by_test (inl passes) later = (x, rw passes refl)
    by_test (inr fails) later =
        let rest : list_any p xs ≡ true = rw fails at h in
        let there = later rest in
        (there.0, rw fails there.1)

any_filtered : {X : Type 0} (p q : X → Bool) (xs : List X) → list_any p (filter q xs) ≡ true → list_any p xs ≡ true
any_filtered p q [] h = h
any_filtered {X = X} p q (x ∷ xs) h = by_test (cases_Bool (q x)) (cases_Bool (p x)) (any_filtered p q xs)
  where
    by_test : (q x ≡ true) ⊎ (q x ≡ false) → (p x ≡ true) ⊎ (p x ≡ false) → (list_any p (filter q xs) ≡ true → list_any p xs ≡ true) → list_any p (x ∷ xs) ≡ true
    by_test kept (inl passes) later = rw passes refl
    by_test (inl kept) (inr fails) later =
        let rest : list_any p (filter q xs) ≡ true = rw (kept, fails) at h in
        rw fails (later rest)
    by_test (inr left) (inr fails) later =
        let rest : list_any p (filter q xs) ≡ true = rw left at h in
        rw fails (later rest)

unfinished_named : (log : List Record) (id : TxnId) → is_unfinished log id ≡ true → IsNamed log id
unfolding IsNamed
unfinished_named log id h = found (named id) (prepares log) (any_filtered (named id) (λ p. not (finished log p.id)) (prepares log) h)

same_itself : (id : TxnId) → same_id id id ≡ true
same_itself id = rw (eq-eqb id.site id.site refl, eq-eqb id.time id.time refl) refl

each_named : (log : List Record) → All (λ p. IsNamed log p.id) (prepares log)
unfolding IsNamed
each_named log = λ k d low. found (named (get_or (prepares log) k d).id) (prepares log)
    (list_any_at (named (get_or (prepares log) k d).id) (prepares log) k d low (same_itself (get_or (prepares log) k d).id))

ready_named : (plan : PlanData) (n : Node) → All (IsNamed n.log) (ready plan n)
ready_named plan n =
    All-map (IsNamed n.log) (λ p. p.id) (filter (λ p. is_reached plan n p.id.time) (own_open n))
    (All-filter (λ p. is_reached plan n p.id.time) (λ p. IsNamed n.log p.id) (own_open n)
    (All-filter (is_own n.site) (λ p. IsNamed n.log p.id) (unfinished n.log)
    (All-filter (λ p. not (finished n.log p.id)) (λ p. IsNamed n.log p.id) (prepares n.log) (each_named n.log))))

-- ---- one record more

goes_prepare : (log : List Record) (p : Transaction) → LogGoes log (log ++ Prepare p ∷ [])
goes_prepare log p = record { more = Prepare p ∷ []; grown = refl; settled = λ later. refl }

goes_abort : (log : List Record) (id : TxnId) (time : ℕ) (cause : TxnId) → LogGoes log (log ++ Abort id time cause ∷ [])
goes_abort log id time cause = record { more = Abort id time cause ∷ []; grown = refl; settled = λ later. refl }

goes_commit : (log : List Record) (id : TxnId) (time : ℕ) → IsNamed log id → LogGoes log (log ++ Commit id time ∷ [])
unfolding IsNamed named_more
goes_commit log id time h =
    let once : IsNamed (log ++ Commit id time ∷ []) id = named_more log (Commit id time ∷ []) id h in
    record {
      more = Commit id time ∷ [];
      grown = refl;
      settled = λ later.
          let beyond : IsNamed ((log ++ Commit id time ∷ []) ++ later) id = named_more (log ++ Commit id time ∷ []) later id once in
          let here : prepare_of (log ++ Commit id time ∷ []) id ≡ Some once.0 = once.1 in
          let there : prepare_of ((log ++ Commit id time ∷ []) ++ later) id ≡ Some once.0 = beyond.1 in
          rw (here, there) refl;
    }

-- ---- settling

commits_go : (plan : PlanData) (n : Node) (ids : List TxnId) → All (IsNamed n.log) ids → LogGoes n.log (fold (commit_one plan) n ids).log
commits_go plan n [] h = goes_none n.log
commits_go plan n (id ∷ ids) h =
    let n' : Node = commit_one plan n id in
    goes_both n.log n'.log (fold (commit_one plan) n' ids).log
    (goes_commit n.log id (clock plan n + 1) (h 0 id (omega arith)))
    (commits_go plan n' ids (λ k d low. named_more n.log (Commit id (clock plan n + 1) ∷ []) (get_or ids k d) (h (suc k) d (omega arith))))

commits_site : (plan : PlanData) (n : Node) (ids : List TxnId) → (fold (commit_one plan) n ids).site ≡ n.site
commits_site plan n [] = refl
commits_site plan n (id ∷ ids) = commits_site plan (commit_one plan n id) ids

settle_goes : (plan : PlanData) (n : Node) → LogGoes n.log (settle plan n).log
settle_goes plan n = commits_go plan n (ready plan n) (ready_named plan n)

settle_site : (plan : PlanData) (n : Node) → (settle plan n).site ≡ n.site
settle_site plan n = commits_site plan n (ready plan n)

-- ---- taking a message's records in

aborts_go : (cause : TxnId) (a : Intake) (ids : List TxnId) → LogGoes a.log (fold (abort_one cause) a ids).log
aborts_go cause a [] = goes_none a.log
aborts_go cause a (id ∷ ids) =
    goes_both a.log (abort_one cause a id).log (fold (abort_one cause) (abort_one cause a id) ids).log
    (goes_abort a.log id (a.clock + 1) cause) (aborts_go cause (abort_one cause a id) ids)

commit_goes : (a : Intake) (id : TxnId) (time : ℕ) (open_then : Bool) → is_unfinished a.log id ≡ open_then → LogGoes a.log (take_end a id (Commit id time)).log
commit_goes a id time true is = rw is (goes_commit a.log id time (unfinished_named a.log id is))
commit_goes a id time false is = rw is (goes_none a.log)

abort_goes : (a : Intake) (id : TxnId) (time : ℕ) (cause : TxnId) (open_then : Bool) → is_unfinished a.log id ≡ open_then → LogGoes a.log (take_end a id (Abort id time cause)).log
abort_goes a id time cause true is = rw is (goes_abort a.log id time cause)
abort_goes a id time cause false is = rw is (goes_none a.log)

new_goes : (site : ℕ) (a : Intake) (r : Record) → LogGoes a.log (take_new site a r).log
new_goes site a (Prepare p) =
    goes_both a.log (with_taken a (Prepare p)).log (fold (abort_one p.id) (with_taken a (Prepare p)) (clashing site a.log p)).log
    (goes_prepare a.log p) (aborts_go p.id (with_taken a (Prepare p)) (clashing site a.log p))
new_goes site a (Commit id time) = commit_goes a id time (is_unfinished a.log id) refl
new_goes site a (Abort id time cause) = abort_goes a id time cause (is_unfinished a.log id) refl

one_goes : (site : ℕ) (row : ℕ → ℕ) (a : Intake) (r : Record) (passed : Bool) → is_passed site row r ≡ passed → LogGoes a.log (take_one site row a r).log
one_goes site row a r true is = rw is (goes_none a.log)
one_goes site row a r false is = rw is (new_goes site a r)

all_go : (site : ℕ) (row : ℕ → ℕ) (a : Intake) (rs : List Record) → LogGoes a.log (take_all site row a rs).log
all_go site row a [] = goes_none a.log
all_go site row a (r ∷ rs) =
    goes_both a.log (take_one site row a r).log (take_all site row (take_one site row a r) rs).log
    (one_goes site row a r (is_passed site row r) refl) (all_go site row (take_one site row a r) rs)

-- ---- a step

pub record NodeGoes (old new : Node) : Type 0 where
  pub site : new.site ≡ old.site
  pub log : LogGoes old.log new.log

stays : (n : Node) → NodeGoes n n
stays n = record { site = refl; log = goes_none n.log }

pub goes_twice : (a b c : Node) → NodeGoes a b → NodeGoes b c → NodeGoes a c
goes_twice a b c f g = record { site = g.site ∙ f.site; log = goes_both a.log b.log c.log f.log g.log }

settles : (plan : PlanData) (n : Node) → NodeGoes n (settle plan n)
settles plan n = record { site = settle_site plan n; log = settle_goes plan n }

request_goes : (plan : PlanData) (n : Node) (p : Transaction) (o : Option Reply) → NodeGoes n (unless_refused plan n p o).node
request_goes plan n p (Some reply) = stays n
request_goes plan n p None =
    goes_twice n (entered plan n p) (settle plan (entered plan n p)) (record { site = refl; log = goes_prepare n.log p }) (settles plan (entered plan n p))

push_goes : (plan : PlanData) (n : Node) (m : Message) → NodeGoes n (settle plan (arrived plan n m))
push_goes plan n m =
    goes_twice n (arrived plan n m) (settle plan (arrived plan n m))
    (record { site = refl; log = all_go n.site (known plan n n.site) (intake_of plan n) m.records }) (settles plan (arrived plan n m))

clock_goes : (plan : PlanData) (n : Node) (reading : ℕ) (input : Input) (spent : Bool) → NodeGoes n (by_clock plan n reading input spent).node
clock_goes plan n reading input true = stays n
clock_goes plan n reading (Get key) false = stays n
clock_goes plan n reading (Status id) false = stays n
clock_goes plan n reading (Request ask) false = request_goes plan n (asked n.log (next_id plan n reading) ask) (refusal n ask)
clock_goes plan n reading (Pull to) false = record { site = refl; log = goes_none n.log }
clock_goes plan n reading (Push m) false = goes_twice n (advanced plan n reading) _ (record { site = refl; log = goes_none n.log }) (push_goes plan (advanced plan n reading) m)

pub entry_goes : (plan : PlanData) (n : Node) (e : Entry) → NodeGoes n (after_entry plan n e)
entry_goes plan n e = clock_goes plan n e.reading e.input (is_journaled e.input && is_spent plan n)

pub entries_go : (plan : PlanData) (n : Node) (entries : List Entry) → NodeGoes n (after_entries plan n entries)
entries_go plan n [] = stays n
entries_go plan n (e ∷ es) = goes_twice n (after_entry plan n e) (after_entries plan (after_entry plan n e) es) (entry_goes plan n e) (entries_go plan (after_entry plan n e) es)
