use Rattle.std.proofs.Common.{◌≡◌, ◌∙◌, ap, refl, sym, subst, ℕ, true, Option, Some, None, is_some, option_map, List, [], ◌∷◌, ◌++◌, fold, filter_map, All, Contains}
use Rattle.std.specs.List.{cons_option}
use Rattle.std.proofs.lemmas.Grind.{fold-append}
use Rattle.std.proofs.lemmas.List.{append-nil}
use Rattle.std.proofs.lemmas.List.Elements.{All-head, All-tail, All-push, All-weaker, filter_map-append}
use Rattle.helios_model.specs.declared.ids.TxnId.{TxnId}
use Rattle.helios_model.specs.declared.ids.Version.TheVariants.{Initial}
use Rattle.helios_model.specs.declared.records.Record.{Record}
use Rattle.helios_model.specs.declared.records.Record.TheVariants.{Prepare, Commit, Abort}
use Rattle.helios_model.specs.declared.records.CommitEvent.{CommitEvent}
use Rattle.helios_model.specs.Ids.{same_id}
use Rattle.helios_model.specs.Transactions.{Transaction}
use Rattle.helios_model.specs.Log.{ends, finished, prepares, prepare_of, event_at, commit_in, commits, version_after, current}
use Rattle.protocol_laws.specs.Pool.{IsBacked}
use Rattle.protocol_laws.proofs.Lists.{any_from, find_passes, contains_from_filter_map}
use Rattle.protocol_laws.proofs.Ids.{same_id_is, same_id_of}
use Rattle.protocol_laws.proofs.OneMore.{prepare_of_grows}

pub backed_grows : (log more : List Record) (r : Record) → IsBacked log r → IsBacked (log ++ more) r
backed_grows log more (Prepare p) h = tt
backed_grows log more (Commit id time) h = ap (λ o. is_some o) (prepare_of_grows log more id h) ∙ h
backed_grows log more (Abort id time cause) h = ap (λ o. is_some o) (prepare_of_grows log more id h) ∙ h

pub backed_one_more : (log : List Record) (r : Record) → All (IsBacked log) log → IsBacked log r → All (IsBacked (log ++ r ∷ [])) (log ++ r ∷ [])
backed_one_more log r h new =
    All-push (IsBacked (log ++ r ∷ [])) log r (All-weaker (IsBacked log) (IsBacked (log ++ r ∷ [])) (backed_grows log (r ∷ [])) log h)
    (backed_grows log (r ∷ []) r new)

commit_in_grown : (log more : List Record) (r : Record) → IsBacked log r → commit_in (log ++ more) r ≡ commit_in log r
commit_in_grown log more (Prepare p) h = refl
commit_in_grown log more (Commit id time) h = ap (option_map (event_at time)) (prepare_of_grows log more id h)
commit_in_grown log more (Abort id time cause) h = refl

filter_map_same : {X Y : Type 0} (f g : X → Option Y) (xs : List X) → All (λ x. f x ≡ g x) xs → filter_map f xs ≡ filter_map g xs
filter_map_same f g [] h = refl
filter_map_same {X = X} {Y = Y} f g (x ∷ xs) h =
    joined (f x) (g x) (filter_map f xs) (filter_map g xs) (All-head (λ y. f y ≡ g y) x xs h) (filter_map_same f g xs (All-tail (λ y. f y ≡ g y) x xs h))
  where
    joined : (a b : Option Y) (as2 bs : List Y) → a ≡ b → as2 ≡ bs → cons_option a as2 ≡ cons_option b bs
    joined a b as2 bs p q = λ i. cons_option (p i) (q i)

-- what was committed stays, and the Commits among the new records follow
pub commits_grown : (log more : List Record) → All (IsBacked log) log → commits (log ++ more) ≡ commits log ++ filter_map (commit_in (log ++ more)) more
commits_grown log more h =
    filter_map-append (commit_in (log ++ more)) log more
    ∙ ap (λ es. es ++ filter_map (commit_in (log ++ more)) more)
    (filter_map_same (commit_in (log ++ more)) (commit_in log) log
    (All-weaker (IsBacked log) (λ r. commit_in (log ++ more) r ≡ commit_in log r) (commit_in_grown log more) log h))

pub commits_prepare : (log : List Record) (p : Transaction) → All (IsBacked log) log → commits (log ++ Prepare p ∷ []) ≡ commits log
commits_prepare log p h = commits_grown log (Prepare p ∷ []) h ∙ append-nil (commits log)

pub commits_commit : (log : List Record) (id : TxnId) (time : ℕ) (p : Transaction) → All (IsBacked log) log → prepare_of log id ≡ Some p
    → commits (log ++ Commit id time ∷ []) ≡ commits log ++ event_at time p ∷ []
commits_commit log id time p h found =
    let known : is_some (prepare_of log id) ≡ true = ap (λ o. is_some o) found in
    let here : prepare_of (log ++ Commit id time ∷ []) id ≡ Some p = prepare_of_grows log (Commit id time ∷ []) id known ∙ found in
    commits_grown log (Commit id time ∷ []) h ∙ ap (λ o. commits log ++ cons_option (option_map (event_at time) o) []) here

pub current_prepare : (log : List Record) (p : Transaction) (key : List ℕ) → All (IsBacked log) log → current (log ++ Prepare p ∷ []) key ≡ current log key
current_prepare log p key h = ap (fold (version_after key) Initial) (commits_prepare log p h)

pub current_abort : (log : List Record) (id : TxnId) (time : ℕ) (cause : TxnId) (key : List ℕ) → All (IsBacked log) log
    → current (log ++ Abort id time cause ∷ []) key ≡ current log key
current_abort log id time cause key h =
    ap (fold (version_after key) Initial) (commits_grown log (Abort id time cause ∷ []) h ∙ append-nil (commits log))

pub current_commit : (log : List Record) (id : TxnId) (time : ℕ) (p : Transaction) (key : List ℕ) → All (IsBacked log) log → prepare_of log id ≡ Some p
    → current (log ++ Commit id time ∷ []) key ≡ version_after key (current log key) (event_at time p)
current_commit log id time p key h found =
    ap (fold (version_after key) Initial) (commits_commit log id time p h found)
    ∙ fold-append (version_after key) Initial (commits log) (event_at time p ∷ [])

-- a commit event of a log: its Commit and its Prepare stand there
pub record IsEventOf (log : List Record) (e : CommitEvent) : Type 0 where
  pub committed : Contains log (Commit e.prepare.id e.time)
  pub prepared : Contains (prepares log) e.prepare

pub event_of : (log : List Record) (e : CommitEvent) → Contains (commits log) e → IsEventOf log e
event_of log e h = by_record found.0 found.1 found.2
  where
    found : (r : Record) × Contains log r × (commit_in log r ≡ Some e)
    found = contains_from_filter_map (commit_in log) log e h

    by_prepare : (id : TxnId) (time : ℕ) (o : Option Transaction) → Contains log (Commit id time) → prepare_of log id ≡ o
        → option_map (event_at time) o ≡ Some e → IsEventOf log e
    by_prepare id time None there look gives = absurd (cc)
    by_prepare id time (Some p) there look gives =
        let event : event_at time p ≡ e = cc in
        let passes = find_passes (λ q. same_id q.id id) (prepares log) p look in
        let named : id ≡ p.id = sym (same_id_is p.id id passes.1) in
        let here : Contains log (Commit p.id time) = subst (λ x. Contains log (Commit x time)) named there in
        subst (IsEventOf log) event (record { committed = here; prepared = passes.0 })

    by_record : (r : Record) → Contains log r → commit_in log r ≡ Some e → IsEventOf log e
    by_record (Prepare p) there gives = absurd (cc)
    by_record (Commit id time) there gives = by_prepare id time (prepare_of log id) there refl gives
    by_record (Abort id time cause) there gives = absurd (cc)

pub event_ends : (log : List Record) (e : CommitEvent) → Contains (commits log) e → finished log e.prepare.id ≡ true
event_ends log e h =
    any_from (ends e.prepare.id) log (Commit e.prepare.id e.time) (event_of log e h).committed (same_id_of e.prepare.id e.prepare.id refl)
