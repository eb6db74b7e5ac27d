-- Of two Prepares of a log that conflict, the first has its Commit or Abort before the other.
use Rattle.std.proofs.Common.{◌≡◌, ◌∙◌, ap, refl, sym, subst, ℕ, true, false, ◌⊎◌, inl, inr, List, ◌∷◌, ◌++◌, append_assoc, Contains}
use Rattle.std.proofs.lemmas.List.Elements.{All-contains, Contains-append_cases}
use Rattle.std.proofs.lemmas.Bool.{both_ways, cases_Bool, true_from_ne_false}
use Rattle.helios_model.specs.declared.ids.TxnId.{TxnId}
use Rattle.helios_model.specs.declared.records.Record.{Record}
use Rattle.helios_model.specs.declared.records.Record.TheVariants.{Prepare, Commit, Abort}
use Rattle.helios_model.specs.Transactions.{Transaction, conflict}
use Rattle.helios_model.specs.Log.{ends, finished, prepares, unfinished}
use Rattle.protocol_laws.specs.Order.{IsAsked, IsClearBehind, IsLawful, OrderLaws}
use Rattle.helios_model.specs.ConflictOrder.{aborts, aborted, EndsFirst}
use Rattle.protocol_laws.proofs.Lists.{contains_cases, any_from, some_of}
use Rattle.protocol_laws.proofs.Ids.{same_id_is}
use Rattle.protocol_laws.proofs.OneMore.{prepare_stands, unfinished_has}
use Rattle.protocol_laws.proofs.Fits.{conflict_back}
use Rattle.protocol_laws.proofs.OrderSteps.{cut_prepared}
use Rattle.protocol_laws.proofs.Cuts.{contains_cut}

pub own_later_ends : (site : ℕ) (log : List Record) (p q : Transaction) → OrderLaws site log → q.id.site ≡ site → EndsFirst log p q
own_later_ends site log p q h own before after cut there conflicts =
    true_from_ne_false (finished before p.id) (λ open_then.
    let lawful : IsLawful site before (Prepare q) = h.each before (Prepare q) after cut in
    let asked : IsAsked before q = lawful.1 own in
    let free : conflict q p ≡ false = All-contains (λ x. conflict q x ≡ false) (unfinished before) p asked.alone (unfinished_has before p there open_then) in
    both_ways (conflict p q) (conflict_back p q ∙ free) conflicts)

-- a transaction that is clear behind does not conflict with one whose Prepare is behind its own
pub clear_apart : (records before : List Record) (p q : Transaction) (after : List Record) → IsClearBehind records p → records ≡ before ++ Prepare q ∷ after
    → Contains (prepares before) p → conflict p q ≡ false
clear_apart records before p q after clear cut there =
    let at_p = contains_cut before (Prepare p) (prepare_stands before p there) in
    let whole : records ≡ at_p.0 ++ Prepare p ∷ (at_p.1 ++ Prepare q ∷ after) =
    cut ∙ ap (λ xs. xs ++ Prepare q ∷ after) at_p.2 ∙ append_assoc at_p.0 (Prepare p ∷ at_p.1) (Prepare q ∷ after) in
    All-contains (λ x. conflict p x ≡ false) (prepares (at_p.1 ++ Prepare q ∷ after)) q (clear at_p.0 (at_p.1 ++ Prepare q ∷ after) whole)
    (cut_prepared (at_p.1 ++ Prepare q ∷ after) at_p.1 q after refl)

pub own_earlier_ends : (site : ℕ) (log : List Record) (p q : Transaction) → OrderLaws site log → p.id.site ≡ site → aborted log p.id ≡ false → EndsFirst log p q
own_earlier_ends site log p q h own kept before after cut there conflicts = by_end (cases_Bool (finished log p.id))
  where
    commits_late : (id : TxnId) (time : ℕ) → p.id ≡ id → Contains after (Commit id time) → conflict p q ≡ false
    commits_late id time named late =
        let at_end = contains_cut after (Commit id time) late in
        let whole : log ≡ (before ++ Prepare q ∷ at_end.0) ++ Commit id time ∷ at_end.1 =
        cut ∙ ap (λ xs. before ++ Prepare q ∷ xs) at_end.2 ∙ sym (append_assoc before (Prepare q ∷ at_end.0) (Commit id time ∷ at_end.1)) in
        let lawful : IsLawful site (before ++ Prepare q ∷ at_end.0) (Commit id time) = h.each (before ++ Prepare q ∷ at_end.0) (Commit id time) at_end.1 whole in
        clear_apart (before ++ Prepare q ∷ at_end.0) before p q at_end.0 (lawful.1 (ap (λ x. x.site) (sym named) ∙ own) p named) refl there

    by_record : (r : Record) → ends p.id r ≡ true → Contains log r → Contains after r → conflict p q ≡ false
    by_record (Prepare x) ends_it in_log late = absurd (cc)
    by_record (Commit id time) ends_it in_log late = commits_late id time (sym (same_id_is id p.id ends_it)) late
    by_record (Abort id time cause) ends_it in_log late =
        absurd (both_ways (aborted log p.id) kept (any_from (aborts p.id) log (Abort id time cause) in_log ends_it))

    by_late : (r : Record) → ends p.id r ≡ true → Contains log r → (Prepare q ≡ r) ⊎ Contains after r → finished before p.id ≡ true
    by_late r ends_it in_log (inl here) = let no_end : ends p.id r ≡ false = ap (ends p.id) (sym here) in absurd (both_ways (ends p.id r) no_end ends_it)
    by_late r ends_it in_log (inr late) = absurd (both_ways (conflict p q) (by_record r ends_it in_log late) conflicts)

    by_place : (r : Record) → ends p.id r ≡ true → Contains log r → Contains before r ⊎ Contains (Prepare q ∷ after) r → finished before p.id ≡ true
    by_place r ends_it in_log (inl early) = any_from (ends p.id) before r early ends_it
    by_place r ends_it in_log (inr late) = by_late r ends_it in_log (contains_cases (Prepare q) after r late)

    by_end : (finished log p.id ≡ true) ⊎ (finished log p.id ≡ false) → finished before p.id ≡ true
    by_end (inl done) =
        let found = some_of (ends p.id) log done in
        by_place found.0 found.2 found.1 (Contains-append_cases before (Prepare q ∷ after) found.0 (subst (λ xs. Contains xs found.0) cut found.1))
    by_end (inr unended) = absurd (both_ways (conflict p q) (clear_apart log before p q after (h.clear p own unended) cut there) conflicts)
