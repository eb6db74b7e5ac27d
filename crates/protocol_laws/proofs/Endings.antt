-- Plain consequences of the laws of one log: one Prepare and at most one end for each id, and the end behind the Prepare.
use Rattle.std.proofs.Common.{◌≡◌, ℕ, true, false, ◌⊎◌, inl, inr, refl, sym, Option, Some, None, is_some, List, AllPairs, Contains}
use Rattle.std.proofs.lemmas.List.Elements.{All-contains}
use Rattle.std.proofs.lemmas.Bool.{both_ways, false_from_ne_true}
use Rattle.helios_model.specs.declared.ids.TxnId.{TxnId}
use Rattle.helios_model.specs.declared.records.Record.{Record}
use Rattle.helios_model.specs.declared.records.Record.TheVariants.{Prepare, Commit, Abort}
use Rattle.helios_model.specs.Ids.{same_id}
use Rattle.helios_model.specs.Transactions.{Transaction}
use Rattle.helios_model.specs.Log.{ends, prepares, prepare_of}
use Rattle.protocol_laws.specs.Shapes.{EachBehind}
use Rattle.protocol_laws.specs.Order.{IsLawful, OrderLaws}
use Rattle.protocol_laws.specs.Logs.{EndsPending, FollowsBefore}
use Rattle.protocol_laws.specs.LogLaws.{EndsLater, LogLaws}
use Rattle.protocol_laws.proofs.Lists.{find_passes, pairs_cases}
use Rattle.protocol_laws.proofs.Ids.{same_id_is, same_id_of}
use Rattle.protocol_laws.proofs.Sequences.{mem_from_contains, contains_from_mem, mem_of_cut}
use Rattle.protocol_laws.proofs.Cuts.{pairs_from_cuts}
use Rattle.protocol_laws.proofs.LogEnds.{alone_before}

-- two Prepares of one id in a log are the same
pub one_in_log : (log : List Record) (p q : Transaction) → AllPairs (λ a b. same_id a.id b.id ≡ false) (prepares log) → Contains (prepares log) p
    → Contains (prepares log) q → p.id ≡ q.id → p ≡ q
one_in_log log p q ids at_p at_q same = by_case (pairs_cases (λ a b. same_id a.id b.id ≡ false) (prepares log) p q ids at_p at_q)
  where
    by_case : (p ≡ q) ⊎ ((same_id p.id q.id ≡ false) ⊎ (same_id q.id p.id ≡ false)) → p ≡ q
    by_case (inl one) = one
    by_case (inr (inl apart)) = absurd (both_ways (same_id p.id q.id) apart (same_id_of p.id q.id same))
    by_case (inr (inr apart)) = absurd (both_ways (same_id q.id p.id) apart (same_id_of q.id p.id (sym same)))

-- a Prepare that a look-up finds
pub prepare_found : (records : List Record) (id : TxnId) → is_some (prepare_of records id) ≡ true
    → (p : Transaction) × (prepare_of records id ≡ Some p) × Contains (prepares records) p × (p.id ≡ id)
prepare_found records id some = by_find (prepare_of records id) refl some
  where
    by_find : (o : Option Transaction) → prepare_of records id ≡ o → is_some o ≡ true
        → (p : Transaction) × (prepare_of records id ≡ Some p) × Contains (prepares records) p × (p.id ≡ id)
    by_find None look none = absurd (cc)
    by_find (Some p) look found =
        let passes = find_passes (λ q. same_id q.id id) (prepares records) p look in
        (p, look, passes.0, same_id_is p.id id passes.1)

-- no two records of a log end one id
pub ends_once : (site : ℕ) (log : List Record) → OrderLaws site log → AllPairs (λ a b. (id : TxnId) → ends id a ≡ true → ends id b ≡ false) log
ends_once site log h = pairs_from_cuts (λ a b. (id : TxnId) → ends id a ≡ true → ends id b ≡ false) log
    (λ before b after a cut there id ends_a. false_from_ne_true (ends id b) (λ ends_b.
    alone_before site log h.each id a b ends_a ends_b before after cut (mem_from_contains before a there)))

-- each Commit and Abort ends what is pending, later than its id began
pub ends_behind : (site : ℕ) (log : List Record) → LogLaws site log → EachBehind EndsPending log
ends_behind site log h before r after cut =
    by_record r (h.order.each before r after cut) (All-contains EndsLater log r h.later (contains_from_mem log r (mem_of_cut r log before after cut)))
  where
    by_record : (x : Record) → IsLawful site before x → EndsLater x → EndsPending before x
    by_record (Prepare p) lawful later = tt
    by_record (Commit id time) lawful later = record { pending = lawful.0; later = later }
    by_record (Abort id time cause) lawful later = record { pending = lawful; later = later }

-- where an own transaction is taken, the versions that it names are current
pub versions_current : (site : ℕ) (log : List Record) → OrderLaws site log → EachBehind (FollowsBefore site) log
versions_current site log h before r after cut = by_record r (h.each before r after cut)
  where
    by_record : (x : Record) → IsLawful site before x → FollowsBefore site before x
    by_record (Prepare p) lawful = λ own. (lawful.1 own).follows
    by_record (Commit id time) lawful = tt
    by_record (Abort id time cause) lawful = tt
