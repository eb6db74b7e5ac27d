use Rattle.std.proofs.Common.{◌≡◌, ◌∙◌, ap, refl, sym, ℕ, true, false, not, ◌⊎◌, inl, inr, Option, Some, None, is_some, List, [], ◌∷◌, ◌++◌, filter, All, AllPairs, Contains}
use Rattle.std.proofs.lemmas.List.Elements.{All-push, All-same, All-weaker, All-filter, All-contains}
use Rattle.std.proofs.lemmas.List.Folds.{list_any_none}
use Rattle.std.proofs.lemmas.List.Quantifiers.{all_pairs_push}
use Rattle.std.proofs.lemmas.Bool.{both_ways, not-true}
use Rattle.helios_model.specs.declared.ids.TxnId.{TxnId}
use Rattle.helios_model.specs.declared.records.Record.{Record}
use Rattle.helios_model.specs.declared.records.Record.TheVariants.{Prepare, Commit, Abort}
use Rattle.helios_model.specs.Ids.{same_id}
use Rattle.helios_model.specs.Transactions.{Transaction, conflict}
use Rattle.helios_model.specs.Log.{ends, finished, prepares, prepare_of, unfinished, event_at, version_after, current}
use Rattle.helios_model.specs.Serial.{Follows}
use Rattle.protocol_laws.specs.Pool.{IsBacked, IsApart, PoolLaws}
use Rattle.protocol_laws.specs.Order.{IsNew, IsAsked}
use Rattle.protocol_laws.proofs.Lists.{find_passes, find_finds, all_from, contains_from_filter, pairs_cases}
use Rattle.protocol_laws.proofs.Ids.{same_id_is, same_id_of, same_id_itself}
use Rattle.protocol_laws.proofs.OneMore.{prepares_end, prepares_prepare, unfinished_end, unfinished_prepare, unfinished_has}
use Rattle.protocol_laws.proofs.Committed.{backed_one_more, current_prepare, current_commit}
use Rattle.protocol_laws.proofs.Fits.{follows_after, follows_same}

-- a look-up of a Prepare's id finds this Prepare
pub found_itself : (log : List Record) (p : Transaction) → AllPairs (λ a b. same_id a.id b.id ≡ false) (prepares log) → Contains (prepares log) p
    → prepare_of log p.id ≡ Some p
found_itself log p ids there = by_find (prepare_of log p.id) refl (find_finds (λ q. same_id q.id p.id) (prepares log) p there (same_id_itself p.id))
  where
    by_case : (q : Transaction) → same_id q.id p.id ≡ true → (p ≡ q) ⊎ ((same_id p.id q.id ≡ false) ⊎ (same_id q.id p.id ≡ false)) → q ≡ p
    by_case q same (inl one) = sym one
    by_case q same (inr (inl apart)) = absurd (both_ways (same_id p.id q.id) apart (same_id_of p.id q.id (sym (same_id_is q.id p.id same))))
    by_case q same (inr (inr apart)) = absurd (both_ways (same_id q.id p.id) apart same)

    by_find : (o : Option Transaction) → prepare_of log p.id ≡ o → is_some o ≡ true → prepare_of log p.id ≡ Some p
    by_find None look none = absurd (cc)
    by_find (Some q) look some =
        let passes = find_passes (λ x. same_id x.id p.id) (prepares log) q look in
        look ∙ ap Some (by_case q passes.1 (pairs_cases (λ a b. same_id a.id b.id ≡ false) (prepares log) p q ids there passes.0))

-- a Commit or an Abort is backed by a Prepare of its id
not_ending : (log : List Record) (id other : TxnId) → IsNew log id → is_some (prepare_of log other) ≡ true → same_id other id ≡ false
not_ending log id other new backed = by_find (prepare_of log other) refl backed
  where
    by_find : (o : Option Transaction) → prepare_of log other ≡ o → is_some o ≡ true → same_id other id ≡ false
    by_find None look none = absurd (cc)
    by_find (Some p) look some =
        let passes = find_passes (λ q. same_id q.id other) (prepares log) p look in
        let fresh : same_id p.id id ≡ false = All-contains (λ q. same_id q.id id ≡ false) (prepares log) p new passes.0 in
        ap (λ x. same_id x id) (sym (same_id_is p.id other passes.1)) ∙ fresh

-- an id with no Prepare has no Commit or Abort
pub fresh_unended : (log : List Record) (id : TxnId) → All (IsBacked log) log → IsNew log id → finished log id ≡ false
fresh_unended log id backed new = list_any_none (ends id) log (All-weaker (IsBacked log) (λ r. ends id r ≡ false) by_record log backed)
  where
    by_record : (r : Record) → IsBacked log r → ends id r ≡ false
    by_record (Prepare p) h = refl
    by_record (Commit other time) h = not_ending log id other new h
    by_record (Abort other time cause) h = not_ending log id other new h

pub pool_prepare : (site : ℕ) (log : List Record) (p : Transaction) → PoolLaws site log → IsNew log p.id
    → All (λ q. q.id.site ≡ site → conflict q p ≡ false) (unfinished log) → (p.id.site ≡ site → IsAsked log p)
    → PoolLaws site (log ++ Prepare p ∷ [])
pool_prepare site log p h new clear asked = record {
  ids = rw (prepares_prepare log p) (all_pairs_push (λ a b. same_id a.id b.id ≡ false) (prepares log) p h.ids new);
  backed = backed_one_more log (Prepare p) h.backed tt;
  apart = All-same (λ q. q.id.site ≡ site → IsApart (log ++ Prepare p ∷ []) q) (unfinished (log ++ Prepare p ∷ [])) (unfinished log ++ p ∷ []) pool_is (All-push (λ q. q.id.site ≡ site → IsApart (log ++ Prepare p ∷ []) q) (unfinished log) p
      (all_from (λ q. q.id.site ≡ site → IsApart (log ++ Prepare p ∷ []) q) (unfinished log) old_apart) new_apart);
  fits = All-same (λ q. q.id.site ≡ site → Follows (current (log ++ Prepare p ∷ [])) q) (unfinished (log ++ Prepare p ∷ [])) (unfinished log ++ p ∷ []) pool_is (All-push (λ q. q.id.site ≡ site → Follows (current (log ++ Prepare p ∷ [])) q) (unfinished log) p
      (All-weaker (λ q. q.id.site ≡ site → Follows (current log) q) (λ q. q.id.site ≡ site → Follows (current (log ++ Prepare p ∷ [])) q)
      (λ q fits own. still q (fits own)) (unfinished log) h.fits)
      (λ own. still p (asked own).follows));
}
  where
    pool_is : unfinished (log ++ Prepare p ∷ []) ≡ unfinished log ++ p ∷ []
    pool_is = unfinished_prepare log p (fresh_unended log p.id h.backed new)

    still : (q : Transaction) → Follows (current log) q → Follows (current (log ++ Prepare p ∷ [])) q
    still q f = follows_same (current log) (current (log ++ Prepare p ∷ [])) q (λ key. current_prepare log p key h.backed) f

    old_apart : (q : Transaction) → Contains (unfinished log) q → q.id.site ≡ site → IsApart (log ++ Prepare p ∷ []) q
    old_apart q there own = All-same (λ x. same_id x.id q.id ≡ false → conflict q x ≡ false) (unfinished (log ++ Prepare p ∷ [])) (unfinished log ++ p ∷ []) pool_is (All-push (λ x. same_id x.id q.id ≡ false → conflict q x ≡ false) (unfinished log) p
        (All-contains (λ x. x.id.site ≡ site → IsApart log x) (unfinished log) q h.apart there own)
        (λ differs. All-contains (λ x. x.id.site ≡ site → conflict x p ≡ false) (unfinished log) q clear there own))

    new_apart : p.id.site ≡ site → IsApart (log ++ Prepare p ∷ []) p
    new_apart own = All-same (λ x. same_id x.id p.id ≡ false → conflict p x ≡ false) (unfinished (log ++ Prepare p ∷ [])) (unfinished log ++ p ∷ []) pool_is (All-push (λ x. same_id x.id p.id ≡ false → conflict p x ≡ false) (unfinished log) p
        (All-weaker (λ x. conflict p x ≡ false) (λ x. same_id x.id p.id ≡ false → conflict p x ≡ false) (λ x apart differs. apart) (unfinished log) (asked own).alone)
        (λ differs. absurd (both_ways (same_id p.id p.id) differs (same_id_itself p.id))))

pub pool_commit : (site : ℕ) (log : List Record) (id : TxnId) (time : ℕ) (p : Transaction) → PoolLaws site log → prepare_of log id ≡ Some p
    → finished log id ≡ false → PoolLaws site (log ++ Commit id time ∷ [])
pool_commit site log id time p h found unended = record {
  ids = rw (prepares_end log (Commit id time) refl) h.ids;
  backed = backed_one_more log (Commit id time) h.backed (ap (λ o. is_some o) found);
  apart = All-same (λ q. q.id.site ≡ site → IsApart (log ++ Commit id time ∷ []) q) (unfinished (log ++ Commit id time ∷ [])) (filter (λ q. not (ends q.id (Commit id time))) (unfinished log)) pool_is (All-filter (λ q. not (ends q.id (Commit id time))) (λ q. q.id.site ≡ site → IsApart (log ++ Commit id time ∷ []) q) (unfinished log)
      (All-weaker (λ q. q.id.site ≡ site → IsApart log q) (λ q. q.id.site ≡ site → IsApart (log ++ Commit id time ∷ []) q) still_apart (unfinished log) h.apart));
  fits = All-same (λ q. q.id.site ≡ site → Follows (current (log ++ Commit id time ∷ [])) q) (unfinished (log ++ Commit id time ∷ [])) (filter (λ q. not (ends q.id (Commit id time))) (unfinished log)) pool_is (all_from (λ q. q.id.site ≡ site → Follows (current (log ++ Commit id time ∷ [])) q)
      (filter (λ q. not (ends q.id (Commit id time))) (unfinished log)) still_fits);
}
  where
    pool_is : unfinished (log ++ Commit id time ∷ []) ≡ filter (λ q. not (ends q.id (Commit id time))) (unfinished log)
    pool_is = unfinished_end log (Commit id time) refl

    still_apart : (q : Transaction) → (q.id.site ≡ site → IsApart log q) → q.id.site ≡ site → IsApart (log ++ Commit id time ∷ []) q
    still_apart q apart own = All-same (λ x. same_id x.id q.id ≡ false → conflict q x ≡ false) (unfinished (log ++ Commit id time ∷ [])) (filter (λ q. not (ends q.id (Commit id time))) (unfinished log)) pool_is (All-filter (λ x. not (ends x.id (Commit id time))) (λ x. same_id x.id q.id ≡ false → conflict q x ≡ false) (unfinished log) (apart own))

    passes : Contains (prepares log) p × (same_id p.id id ≡ true)
    passes = find_passes (λ q. same_id q.id id) (prepares log) p found

    named : p.id ≡ id
    named = same_id_is p.id id passes.1

    in_pool : Contains (unfinished log) p
    in_pool = unfinished_has log p passes.0 (ap (finished log) named ∙ unended)

    still_fits : (q : Transaction) → Contains (filter (λ x. not (ends x.id (Commit id time))) (unfinished log)) q → q.id.site ≡ site
        → Follows (current (log ++ Commit id time ∷ [])) q
    still_fits q there own =
        let parts = contains_from_filter (λ x. not (ends x.id (Commit id time))) (unfinished log) q there in
        let other : same_id id q.id ≡ false = not-true (same_id id q.id) parts.1 in
        let differs : same_id p.id q.id ≡ false = ap (λ x. same_id x q.id) named ∙ other in
        let apart : IsApart log q = All-contains (λ x. x.id.site ≡ site → IsApart log x) (unfinished log) q h.apart parts.0 own in
        let free : conflict q p ≡ false = All-contains (λ x. same_id x.id q.id ≡ false → conflict q x ≡ false) (unfinished log) p apart in_pool differs in
        let fits : Follows (current log) q = All-contains (λ x. x.id.site ≡ site → Follows (current log) x) (unfinished log) q h.fits parts.0 own in
        follows_same (λ key. version_after key (current log key) (event_at time p)) (current (log ++ Commit id time ∷ [])) q
        (λ key. current_commit log id time p key h.backed found) (follows_after (current log) q p time free fits)
