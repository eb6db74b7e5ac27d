-- The laws of one log, but for own transactions that are excused, as one more record stands at its end.
use Rattle.std.proofs.Common.{◌≡◌, ◌≢◌, ◌∙◌, ap, refl, ℕ, ◌<◌, Bool, false, not, Some, is_some, List, [], ◌∷◌, ◌++◌, filter, All, AllPairs, Contains}
use Rattle.std.proofs.lemmas.List.Elements.{All-push, All-same, All-weaker, All-filter, All-contains}
use Rattle.std.proofs.lemmas.List.Quantifiers.{all_pairs_push}
use Rattle.helios_model.specs.declared.ids.TxnId.{TxnId}
use Rattle.helios_model.specs.declared.records.Record.{Record}
use Rattle.helios_model.specs.declared.records.Record.TheVariants.{Prepare, Commit, Abort}
use Rattle.helios_model.specs.Ids.{same_id}
use Rattle.helios_model.specs.Transactions.{Transaction, conflict}
use Rattle.helios_model.specs.Log.{ends, finished, prepares, prepare_of, unfinished, current}
use Rattle.helios_model.specs.Serial.{Follows}
use Rattle.protocol_laws.specs.Shapes.{EachBehind}
use Rattle.protocol_laws.specs.Pool.{IsBacked, IsApart}
use Rattle.protocol_laws.specs.Order.{IsNew, IsAsked, IsPending, IsClearBehind, IsLawful}
use Rattle.protocol_laws.specs.LogLaws.{IsCaused, HasCause, EndsLater, LogLaws}
use Rattle.protocol_laws.proofs.Lists.{all_from}
use Rattle.protocol_laws.proofs.OneMore.{prepares_end, prepares_prepare, unfinished_before, unfinished_end, unfinished_prepare, unfinished_has}
use Rattle.protocol_laws.proofs.Committed.{backed_one_more, current_prepare, current_abort}
use Rattle.protocol_laws.proofs.Fits.{conflict_back, follows_same}
use Rattle.protocol_laws.proofs.PoolSteps.{fresh_unended, pool_prepare, pool_commit}
use Rattle.protocol_laws.proofs.OrderSteps.{each_one_more, cut_prepared, clear_end, clear_prepare, order_commit, order_prepare}

-- the laws of a log but for own unfinished transactions that are excused
pub record LawsBut (site : ℕ) (excused : Transaction → Bool) (log : List Record) : Type 0 where
  pub ids : AllPairs (λ p q. same_id p.id q.id ≡ false) (prepares log)
  pub backed : All (IsBacked log) log
  pub apart : All (λ p. p.id.site ≡ site → excused p ≡ false → IsApart log p) (unfinished log)
  pub fits : All (λ p. p.id.site ≡ site → Follows (current log) p) (unfinished log)
  pub each : EachBehind (IsLawful site) log
  pub clear : (p : Transaction) → p.id.site ≡ site → excused p ≡ false → finished log p.id ≡ false → IsClearBehind log p
  pub caused : EachBehind (HasCause site) log
  pub later : All EndsLater log

pub excuses_none : (site : ℕ) (log : List Record) → LogLaws site log → LawsBut site (λ p. false) log
excuses_none site log h = record {
  ids = h.pool.ids;
  backed = h.pool.backed;
  apart = All-weaker (λ p. p.id.site ≡ site → IsApart log p) (λ p. p.id.site ≡ site → false ≡ false → IsApart log p) (λ p apart own free. apart own) (unfinished log) h.pool.apart;
  fits = h.pool.fits;
  each = h.order.each;
  clear = λ p own free unended. h.order.clear p own unended;
  caused = h.caused;
  later = h.later;
}

-- where no own unfinished transaction is excused the laws hold
pub laws_whole : (site : ℕ) (excused : Transaction → Bool) (log : List Record) → LawsBut site excused log
    → ((p : Transaction) → Contains (unfinished log) p → p.id.site ≡ site → excused p ≡ false) → LogLaws site log
laws_whole site excused log h none = record {
  pool = record {
    ids = h.ids;
    backed = h.backed;
    apart = all_from (λ p. p.id.site ≡ site → IsApart log p) (unfinished log)
        (λ p there own. All-contains (λ x. x.id.site ≡ site → excused x ≡ false → IsApart log x) (unfinished log) p h.apart there own (none p there own));
    fits = h.fits;
  };
  order = record {
    each = h.each;
    clear = λ p own unended before after cut.
        h.clear p own (none p (unfinished_has log p (cut_prepared log before p after cut) unended) own) unended before after cut;
  };
  caused = h.caused;
  later = h.later;
}

-- another site's Prepare arrives: own unfinished transactions that conflict with it are excused
pub laws_arrive : (site : ℕ) (log : List Record) (q : Transaction) → LogLaws site log → IsNew log q.id → q.id.site ≢ site
    → LawsBut site (conflict q) (log ++ Prepare q ∷ [])
laws_arrive site log q h new foreign = record {
  ids = rw (prepares_prepare log q) (all_pairs_push (λ a b. same_id a.id b.id ≡ false) (prepares log) q h.pool.ids new);
  backed = backed_one_more log (Prepare q) h.pool.backed tt;
  apart = All-same (λ x. x.id.site ≡ site → conflict q x ≡ false → IsApart (log ++ Prepare q ∷ []) x) (unfinished (log ++ Prepare q ∷ [])) (unfinished log ++ q ∷ []) pool_is
      (All-push (λ x. x.id.site ≡ site → conflict q x ≡ false → IsApart (log ++ Prepare q ∷ []) x) (unfinished log) q
      (all_from (λ x. x.id.site ≡ site → conflict q x ≡ false → IsApart (log ++ Prepare q ∷ []) x) (unfinished log) old_apart)
      (λ own free. absurd (foreign own)));
  fits = All-same (λ x. x.id.site ≡ site → Follows (current (log ++ Prepare q ∷ [])) x) (unfinished (log ++ Prepare q ∷ [])) (unfinished log ++ q ∷ []) pool_is
      (All-push (λ x. x.id.site ≡ site → Follows (current (log ++ Prepare q ∷ [])) x) (unfinished log) q
      (All-weaker (λ x. x.id.site ≡ site → Follows (current log) x) (λ x. x.id.site ≡ site → Follows (current (log ++ Prepare q ∷ [])) x)
      (λ x fits own. follows_same (current log) (current (log ++ Prepare q ∷ [])) x (λ key. current_prepare log q key h.pool.backed) (fits own)) (unfinished log) h.pool.fits)
      (λ own. absurd (foreign own)));
  each = each_one_more (IsLawful site) log (Prepare q) h.order.each (new, λ own. absurd (foreign own));
  clear = λ p own free unended.
      clear_prepare log q p (λ there. conflict_back p q ∙ free) (h.order.clear p own (unfinished_before log (Prepare q ∷ []) p.id unended));
  caused = each_one_more (HasCause site) log (Prepare q) h.caused tt;
  later = All-push EndsLater log (Prepare q) h.later tt;
}
  where
    pool_is : unfinished (log ++ Prepare q ∷ []) ≡ unfinished log ++ q ∷ []
    pool_is = unfinished_prepare log q (fresh_unended log q.id h.pool.backed new)

    old_apart : (x : Transaction) → Contains (unfinished log) x → x.id.site ≡ site → conflict q x ≡ false → IsApart (log ++ Prepare q ∷ []) x
    old_apart x there own free =
        All-same (λ y. same_id y.id x.id ≡ false → conflict x y ≡ false) (unfinished (log ++ Prepare q ∷ [])) (unfinished log ++ q ∷ []) pool_is
        (All-push (λ y. same_id y.id x.id ≡ false → conflict x y ≡ false) (unfinished log) q
        (All-contains (λ y. y.id.site ≡ site → IsApart log y) (unfinished log) x h.pool.apart there own)
        (λ differs. conflict_back x q ∙ free))

-- an Abort of a pending id
pub laws_abort : (site : ℕ) (excused : Transaction → Bool) (log : List Record) (id : TxnId) (time : ℕ) (cause : TxnId) → LawsBut site excused log → IsPending log id
    → id.time < time → (id.site ≡ site → IsCaused site log id cause) → LawsBut site excused (log ++ Abort id time cause ∷ [])
laws_abort site excused log id time cause h pending later caused = record {
  ids = rw (prepares_end log (Abort id time cause) refl) h.ids;
  backed = backed_one_more log (Abort id time cause) h.backed pending.prepared;
  apart = All-same (λ x. x.id.site ≡ site → excused x ≡ false → IsApart (log ++ Abort id time cause ∷ []) x) (unfinished (log ++ Abort id time cause ∷ []))
      (filter (λ x. not (ends x.id (Abort id time cause))) (unfinished log)) pool_is
      (All-filter (λ x. not (ends x.id (Abort id time cause))) (λ x. x.id.site ≡ site → excused x ≡ false → IsApart (log ++ Abort id time cause ∷ []) x) (unfinished log)
      (All-weaker (λ x. x.id.site ≡ site → excused x ≡ false → IsApart log x)
      (λ x. x.id.site ≡ site → excused x ≡ false → IsApart (log ++ Abort id time cause ∷ []) x) still_apart (unfinished log) h.apart));
  fits = All-same (λ x. x.id.site ≡ site → Follows (current (log ++ Abort id time cause ∷ [])) x) (unfinished (log ++ Abort id time cause ∷ []))
      (filter (λ x. not (ends x.id (Abort id time cause))) (unfinished log)) pool_is
      (All-filter (λ x. not (ends x.id (Abort id time cause))) (λ x. x.id.site ≡ site → Follows (current (log ++ Abort id time cause ∷ [])) x) (unfinished log)
      (All-weaker (λ x. x.id.site ≡ site → Follows (current log) x) (λ x. x.id.site ≡ site → Follows (current (log ++ Abort id time cause ∷ [])) x)
      (λ x fits own. follows_same (current log) (current (log ++ Abort id time cause ∷ [])) x (λ key. current_abort log id time cause key h.backed) (fits own))
      (unfinished log) h.fits));
  each = each_one_more (IsLawful site) log (Abort id time cause) h.each pending;
  clear = λ p own free unended.
      clear_end log (Abort id time cause) p refl (h.clear p own free (unfinished_before log (Abort id time cause ∷ []) p.id unended));
  caused = each_one_more (HasCause site) log (Abort id time cause) h.caused caused;
  later = All-push EndsLater log (Abort id time cause) h.later later;
}
  where
    pool_is : unfinished (log ++ Abort id time cause ∷ []) ≡ filter (λ x. not (ends x.id (Abort id time cause))) (unfinished log)
    pool_is = unfinished_end log (Abort id time cause) refl

    still_apart : (x : Transaction) → (x.id.site ≡ site → excused x ≡ false → IsApart log x) → x.id.site ≡ site → excused x ≡ false
        → IsApart (log ++ Abort id time cause ∷ []) x
    still_apart x apart own free =
        All-same (λ y. same_id y.id x.id ≡ false → conflict x y ≡ false) (unfinished (log ++ Abort id time cause ∷ []))
        (filter (λ y. not (ends y.id (Abort id time cause))) (unfinished log)) pool_is
        (All-filter (λ y. not (ends y.id (Abort id time cause))) (λ y. same_id y.id x.id ≡ false → conflict x y ≡ false) (unfinished log) (apart own free))

-- a Commit of a pending id, own or not
pub laws_commit : (site : ℕ) (log : List Record) (id : TxnId) (time : ℕ) (p : Transaction) → LogLaws site log → prepare_of log id ≡ Some p
    → finished log id ≡ false → id.time < time → LogLaws site (log ++ Commit id time ∷ [])
laws_commit site log id time p h found unended later = record {
  pool = pool_commit site log id time p h.pool found unended;
  order = order_commit site log id time h.order (record { prepared = ap (λ o. is_some o) found; unended = unended });
  caused = each_one_more (HasCause site) log (Commit id time) h.caused tt;
  later = All-push EndsLater log (Commit id time) h.later later;
}

-- an own Prepare under a new id, over current versions, apart from all that is unfinished
pub laws_begin : (site : ℕ) (log : List Record) (p : Transaction) → LogLaws site log → IsNew log p.id → IsAsked log p → LogLaws site (log ++ Prepare p ∷ [])
laws_begin site log p h new asked = record {
  pool = pool_prepare site log p h.pool new clear (λ own. asked);
  order = order_prepare site log p h.order new (λ own. asked) clear;
  caused = each_one_more (HasCause site) log (Prepare p) h.caused tt;
  later = All-push EndsLater log (Prepare p) h.later tt;
}
  where
    clear : All (λ q. q.id.site ≡ site → conflict q p ≡ false) (unfinished log)
    clear = All-weaker (λ q. conflict p q ≡ false) (λ q. q.id.site ≡ site → conflict q p ≡ false) (λ q free own. conflict_back q p ∙ free) (unfinished log) asked.alone
