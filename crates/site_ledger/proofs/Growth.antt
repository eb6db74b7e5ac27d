-- A ledger that takes one more record stands for the log with that record.
use Rattle.std.proofs.Common.{◌≡◌, ◌∙◌, ap, refl, sym, subst, ℕ, Bool, true, false, cond, Option, Some, None, is_some, List, [], ◌∷◌, ◌++◌, append_assoc, length, drop, filter, find, filter_map, get_or, map, not, nat_eq}
use Rattle.std.specs.Prelude.{if◌then◌else◌}
use Rattle.std.specs.List.{cons_option}
use Rattle.std.specs.Option.{option_map, option_or}
use Rattle.std.proofs.Math.Seq.{drop-append_seam}
use Rattle.std.proofs.lemmas.List.{append-nil}
use Rattle.std.proofs.lemmas.List.Elements.{All-head, filter-append, filter_map-append}
use Rattle.std.proofs.lemmas.List.Folds.{list_any-append, list_any_at}
use Rattle.std.proofs.lemmas.Bool.{or_right}
use Rattle.helios_model.specs.declared.entries.State.{State}
use Rattle.helios_model.specs.declared.entries.State.TheVariants.{Aborted, Committed}
use Rattle.helios_model.specs.declared.ids.TxnId.{TxnId}
use Rattle.helios_model.specs.declared.ids.Version.TheVariants.{Of}
use Rattle.helios_model.specs.declared.records.CommitEvent.{CommitEvent}
use Rattle.helios_model.specs.declared.records.Record.{Record}
use Rattle.helios_model.specs.declared.records.Record.TheVariants.{Prepare, Commit, Abort}
use Rattle.helios_model.specs.Ids.{same_id}
use Rattle.helios_model.specs.Texts.{contains_text, same_text}
use Rattle.helios_model.specs.Transactions.{Transaction}
use Rattle.helios_model.specs.Log.{commit_in, ends, event_at, finished, prepare_of, write_over}
use Rattle.helios_model.specs.World.{is_own_commit, own_commits}
use Rattle.node_limits.specs.Laws.{EndLeavesTheRest, PrepareWaitsBehindTheRest}
use Rattle.node_limits.specs.Limits.{IsAfter}
use Rattle.log_exchange.specs.Kept.{LogData, appended, needed}
use Rattle.log_exchange.specs.Laws.{NeedSame, NeededAppends}
use Rattle.version_store.specs.declared.held.Held.{Held}
use Rattle.version_store.specs.Store.{value_in, version_in}
use Rattle.site_ledger.specs.Ledger.{AreEnds, AreKnown, Base, IsKept, IsLedgerOf, LedgerData, end_in, holds_id, ledger_data, log_in}
use Rattle.site_ledger.proofs.Backed.{IsBacked, commit_in_grown, filter_map_same, open_found, prepare_of_grows}
use Rattle.site_ledger.proofs.Kept.{after_fresh, any_found, kept_abort, kept_commit, kept_prepare, not_held}
use Rattle.site_ledger.proofs.Ends.{ends_left, ends_more}

-- of a log that goes on, the own Commits behind its front go on
commits_more : (site : ℕ) (front back : List Record) (r : Record) → IsBacked (front ++ back)
    → own_commits site ((front ++ back) ++ r ∷ []) (length front)
    ≡ own_commits site (front ++ back) (length front) ++ filter (is_own_commit site) (cons_option (commit_in ((front ++ back) ++ r ∷ []) r) [])
commits_more site front back r backed =
    ap (λ rs. filter (is_own_commit site) (filter_map (commit_in ((front ++ back) ++ r ∷ [])) rs)) (ap (drop (length front)) (append_assoc front back (r ∷ [])) ∙ drop-append_seam front (back ++ r ∷ []))
    ∙ ap (filter (is_own_commit site)) (filter_map-append (commit_in ((front ++ back) ++ r ∷ [])) back (r ∷ []))
    ∙ filter-append (is_own_commit site) (filter_map (commit_in ((front ++ back) ++ r ∷ [])) back) (cons_option (commit_in ((front ++ back) ++ r ∷ []) r) [])
    ∙ ap (λ es. filter (is_own_commit site) es ++ filter (is_own_commit site) (cons_option (commit_in ((front ++ back) ++ r ∷ []) r) []))
    (filter_map_same (commit_in ((front ++ back) ++ r ∷ [])) (commit_in (front ++ back)) back
    (λ k d low. commit_in_grown (front ++ back) (r ∷ []) (get_or back k d)
    (λ id here. backed id (list_any-append (ends id) front back ∙ or_right (finished front id) (finished back id) (list_any_at (ends id) back k d low here)))))
    ∙ ap (λ rs. filter (is_own_commit site) (filter_map (commit_in (front ++ back)) rs) ++ filter (is_own_commit site) (cons_option (commit_in ((front ++ back) ++ r ∷ []) r) []))
    (sym (drop-append_seam front back))

pub grown_log : (b : Base) (added added' : List Record) (r : Record) → added' ≡ added ++ r ∷ [] → b.log ++ added' ≡ (b.log ++ added) ++ r ∷ []
grown_log b added added' r more = ap (λ rs. b.log ++ rs) more ∙ sym (append_assoc b.log added (r ∷ []))

-- a transaction that was made after all that the log has of its origin is not held
pub fresh_held : (b : Base) (l : LedgerData) (p : Transaction) → IsLedgerOf b l → IsAfter (log_in b l) (Prepare p) → holds_id l.pools p.id ≡ false
fresh_held b l p h after = not_held (log_in b l) l.pools l.store p.id h.lookups (after_fresh (log_in b l) p after)

pub holds_found : (pools : List Transaction) (id : TxnId) (o : Option Transaction) → o ≡ find (λ q. same_id q.id id) pools → holds_id pools id ≡ is_some o
holds_found pools id o found = any_found (λ q. same_id q.id id) pools ∙ ap (λ x. is_some x) (sym found)

module _ (b : Base) (x x' : LogData) (pools pools' : List Transaction) (store store' : List (List ℕ × Held)) (ended ended' : List (ℕ × State)) (added added' : List Record)
    (commits commits' : List CommitEvent) (r : Record) (h : IsLedgerOf b (ledger_data x pools store ended added commits)) (log_more : x' ≡ appended x r) (more : added' ≡ added ++ r ∷ []) where
  stands_more : IsKept ((b.log ++ added) ++ r ∷ []) pools' store' → AreEnds x.site ((b.log ++ added) ++ r ∷ []) ended'
      → commits' ≡ commits ++ filter (is_own_commit x.site) (cons_option (commit_in ((b.log ++ added) ++ r ∷ []) r) [])
      → IsLedgerOf b (ledger_data x' pools' store' ended' added' commits')
  stands_more lookups now_ended told = record {
    lookups = subst (λ log. IsKept log pools' store') (sym (grown_log b added added' r more)) lookups;
    ends = subst (λ log. AreEnds x'.site log ended') (sym (grown_log b added added' r more)) (subst (λ site. AreEnds site ((b.log ++ added) ++ r ∷ []) ended') (ap (λ l. l.site) (sym log_more)) now_ended);
    kept = ap (λ l. l.records) log_more ∙ ap (λ rs. rs ++ r ∷ []) h.kept ∙ append_assoc b.kept added (r ∷ []) ∙ ap (λ rs. b.kept ++ rs) (sym more);
    commits = told ∙ ap (λ es. es ++ filter (is_own_commit x.site) (cons_option (commit_in ((b.log ++ added) ++ r ∷ []) r) [])) h.commits
        ∙ sym (commits_more x.site b.log added r h.lookups.backed)
        ∙ ap (λ log. own_commits x.site log (length b.log)) (sym (grown_log b added added' r more))
        ∙ ap (λ l. own_commits l.site (b.log ++ added') (length b.log)) (sym log_more);
  }

pub prepare_stands : PrepareWaitsBehindTheRest → (b : Base) (x x' : LogData) (pools pools' : List Transaction) (store : List (List ℕ × Held)) (ended : List (ℕ × State)) (added added' : List Record)
    (commits : List CommitEvent) (p : Transaction) → IsLedgerOf b (ledger_data x pools store ended added commits) → IsAfter (b.log ++ added) (Prepare p)
    → x' ≡ appended x (Prepare p) → added' ≡ added ++ Prepare p ∷ [] → pools' ≡ pools ++ p ∷ [] → IsLedgerOf b (ledger_data x' pools' store ended added' commits)
prepare_stands waits b x x' pools pools' store ended added added' commits p h after log_more more held =
    stands_more b x x' pools pools' store store ended ended added added' commits commits (Prepare p) h log_more more
    (kept_prepare waits (b.log ++ added) pools pools' store p h.lookups after held)
    (ends_left x.site (b.log ++ added) ended (Prepare p) h.ends (λ id. refl))
    (sym (append-nil commits))

pub abort_stands : EndLeavesTheRest → (b : Base) (x x' : LogData) (pools pools' : List Transaction) (store : List (List ℕ × Held)) (ended ended' : List (ℕ × State)) (added added' : List Record)
    (commits : List CommitEvent) (id : TxnId) (time : ℕ) (cause : TxnId) → IsLedgerOf b (ledger_data x pools store ended added commits) → AreKnown (b.log ++ added) (id ∷ [])
    → x' ≡ appended x (Abort id time cause) → added' ≡ added ++ Abort id time cause ∷ [] → pools' ≡ filter (λ p. not (same_id id p.id)) pools
    → ((at : ℕ) → end_in ended' at ≡ option_or (end_in ended at) (cond (same_id id (record { site = x.site; time = at })) (Some (Aborted cause)) None))
    → IsLedgerOf b (ledger_data x' pools' store ended' added' commits)
abort_stands leaves b x x' pools pools' store ended ended' added added' commits id time cause h known log_more more out end =
    stands_more b x x' pools pools' store store ended ended' added added' commits commits (Abort id time cause) h log_more more
    (kept_abort leaves (b.log ++ added) pools pools' store id h.lookups out time cause (All-head (λ i. is_some (prepare_of (b.log ++ added) i) ≡ true) id [] known))
    (ends_more x.site (b.log ++ added) ended ended' (Abort id time cause) id h.ends (λ i. refl) end)
    (sym (append-nil commits))

pub commit_stands : EndLeavesTheRest → (b : Base) (x x' : LogData) (pools pools' : List Transaction) (store store' : List (List ℕ × Held)) (ended ended' : List (ℕ × State)) (added added' : List Record)
    (commits commits' : List CommitEvent) (id : TxnId) (time : ℕ) (p : Transaction) → IsLedgerOf b (ledger_data x pools store ended added commits)
    → x' ≡ appended x (Commit id time) → added' ≡ added ++ Commit id time ∷ [] → Some p ≡ find (λ q. same_id q.id id) pools → pools' ≡ filter (λ q. not (same_id id q.id)) pools
    → ((key : List ℕ) → version_in store' key ≡ (if contains_text (map (λ w. w.key) p.writes) key then Of id else version_in store key))
    → ((key : List ℕ) → value_in store' key ≡ write_over (value_in store key) (find (λ w. same_text w.key key) p.writes))
    → ((at : ℕ) → end_in ended' at ≡ option_or (end_in ended at) (cond (same_id id (record { site = x.site; time = at })) (Some Committed) None))
    → commits' ≡ commits ++ filter (is_own_commit x.site) (event_at time p ∷ [])
    → IsLedgerOf b (ledger_data x' pools' store' ended' added' commits')
commit_stands leaves b x x' pools pools' store store' ended ended' added added' commits commits' id time p h log_more more found out versions values end told =
    stands_more b x x' pools pools' store store' ended ended' added added' commits commits' (Commit id time) h log_more more
    (kept_commit leaves (b.log ++ added) pools pools' store id h.lookups out store' time p found versions values)
    (ends_more x.site (b.log ++ added) ended ended' (Commit id time) id h.ends (λ i. refl) end)
    (told ∙ ap (λ o. commits ++ filter (is_own_commit x.site) (cons_option (option_map (event_at time) o) [])) (sym here))
  where
    looked : cond (not (finished (b.log ++ added) id)) (prepare_of (b.log ++ added) id) None ≡ Some p
    looked = sym (open_found (b.log ++ added) id) ∙ ap (find (λ q. same_id q.id id)) (sym h.lookups.waiting) ∙ sym found

    by_test : (t : Bool) (o : Option Transaction) → cond t o None ≡ Some p → o ≡ Some p
    by_test true o e = e
    by_test false o e = absurd (cc)

    named : prepare_of (b.log ++ added) id ≡ Some p
    named = by_test (not (finished (b.log ++ added) id)) (prepare_of (b.log ++ added) id) looked

    here : prepare_of ((b.log ++ added) ++ Commit id time ∷ []) id ≡ Some p
    here = prepare_of_grows (b.log ++ added) (Commit id time ∷ []) id (ap (λ o. is_some o) named) ∙ named

-- what some site needs of what is kept is what it needs of the log
pub need_same : NeededAppends → (count : ℕ) (table : List ℕ) (b : Base) (l : LedgerData) → IsLedgerOf b l → NeedSame count table b.kept b.log → NeedSame count table l.kept (log_in b l)
need_same appends count table b l h same =
    ap (needed count table) h.kept ∙ appends count table b.kept l.added ∙ ap (λ rs. rs ++ needed count table l.added) same ∙ sym (appends count table b.log l.added)

-- a step that ends leaves the log as the next one begins
pub finished_stands : (b : Base) (l l' : LedgerData) → IsLedgerOf b l → l'.site ≡ l.site → l'.pools ≡ l.pools → l'.store ≡ l.store → l'.ended ≡ l.ended → l'.added ≡ [] → l'.commits ≡ []
    → IsLedgerOf (record { log = log_in b l; kept = l'.kept }) l'
finished_stands b l l' h site pools store ended fresh told =
    let same : log_in b l ++ l'.added ≡ log_in b l = ap (λ rs. log_in b l ++ rs) fresh ∙ append-nil (log_in b l) in
    record {
      lookups = subst (λ log. IsKept log l'.pools l'.store) (sym same) (subst (λ ps. IsKept (log_in b l) ps l'.store) (sym pools) (subst (λ s. IsKept (log_in b l) l.pools s) (sym store) h.lookups));
      ends = subst (λ log. AreEnds l'.site log l'.ended) (sym same) (subst (λ s. AreEnds s (log_in b l) l'.ended) (sym site) (subst (λ e. AreEnds l.site (log_in b l) e) (sym ended) h.ends));
      kept = sym (ap (λ rs. l'.kept ++ rs) fresh ∙ append-nil l'.kept);
      commits = told ∙ sym (ap (λ rs. filter (is_own_commit l'.site) (filter_map (commit_in (log_in b l ++ l'.added)) rs)) (drop-append_seam (log_in b l) l'.added ∙ fresh));
    }

-- a commit event, by whether its transaction is the site's own
pub event_other : (commits : List CommitEvent) (site : ℕ) (p : Transaction) (time : ℕ) → nat_eq p.id.site site ≡ false → commits ≡ commits ++ filter (is_own_commit site) (event_at time p ∷ [])
event_other commits site p time other = rw other (sym (append-nil commits))

pub event_own : (commits : List CommitEvent) (site : ℕ) (p : Transaction) (time : ℕ) → nat_eq p.id.site site ≡ true
    → commits ++ event_at time p ∷ [] ≡ commits ++ filter (is_own_commit site) (event_at time p ∷ [])
event_own commits site p time own = rw own refl
