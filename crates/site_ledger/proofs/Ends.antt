-- How own transactions ended: what one more record says of it, and what a look-up finds.
use Rattle.std.proofs.Common.{◌≡◌, ◌∙◌, ap, refl, sym, subst, ℕ, Bool, true, false, not, ◌⊎◌, inl, inr, cond, Option, Some, None, is_some, option_map, List, [], ◌∷◌, ◌++◌, find, nat_eq, eqb-true, arith}
use Rattle.std.specs.List.{list_any}
use Rattle.std.specs.Option.{option_or}
use Rattle.std.specs.Ordering.{nat_cmp}
use Rattle.std.specs.BTreeMap.{is_at}
use Rattle.std.proofs.lemmas.Bool.{both_ways, cases_Bool, cases_eq, eq-eqb, ne_eqb}
use Rattle.std.proofs.lemmas.Bool.Decides.{nat_tests}
use Rattle.std.proofs.lemmas.List.Folds.{find-append}
use Rattle.helios_model.specs.declared.entries.State.{State}
use Rattle.helios_model.specs.declared.entries.State.TheVariants.{Pending, Unknown}
use Rattle.helios_model.specs.declared.ids.TxnId.{TxnId}
use Rattle.helios_model.specs.declared.records.Record.{Record}
use Rattle.helios_model.specs.Ids.{same_id}
use Rattle.helios_model.specs.Log.{ends, finished, prepare_of, unfinished}
use Rattle.helios_model.specs.Exchange.{is_unfinished}
use Rattle.helios_model.specs.Node.{Node, ending_of, status}
use Rattle.site_ledger.specs.Ledger.{AreEnds, Base, IsLedgerOf, LedgerData, end_in, end_of, holds_id, log_in}
use Rattle.site_ledger.proofs.Backed.{found_first, open_found, same_id_is}
use Rattle.site_ledger.proofs.Kept.{any_found, held_known}

map_or : {X Y : Type 0} (f : X → Y) (a b : Option X) → option_map f (option_or a b) ≡ option_or (option_map f a) (option_map f b)
map_or f None b = refl
map_or f (Some x) b = refl

ended_at : (r : Record) (b : Bool) → option_map end_of (cond b (Some r) None) ≡ cond b (Some (end_of r)) None
ended_at r true = refl
ended_at r false = refl

found_more : (log : List Record) (r : Record) (x : TxnId) (b : Bool) → ends x r ≡ b
    → option_map end_of (find (ends x) (log ++ r ∷ [])) ≡ option_or (option_map end_of (find (ends x) log)) (cond b (Some (end_of r)) None)
found_more log r x b e =
    ap (option_map end_of) (find-append (ends x) log (r ∷ []))
    ∙ map_or end_of (find (ends x) log) (find (ends x) (r ∷ []))
    ∙ ap (option_or (option_map end_of (find (ends x) log))) (ap (λ t. option_map end_of (cond t (Some r) None)) e ∙ ended_at r b)

nothing : {X : Type 0} (o : Option X) → is_some o ≡ false → o ≡ None
nothing None e = refl
nothing (Some x) e = absurd (both_ways true e refl)

at_same : (t q : ℕ) → t ≡ q → is_at (nat_cmp t) q ≡ true
at_same t q same = grind (arith, nat_tests)

at_other : (t q : ℕ) → (t ≡ q → ⊥) → is_at (nat_cmp t) q ≡ false
at_other t q other = grind (arith, nat_tests)

-- the end that a record of this id gives to the transaction of a time, unless it has one
pub ends_more : (site : ℕ) (log : List Record) (ended ended' : List (ℕ × State)) (r : Record) (id : TxnId) → AreEnds site log ended → ((x : TxnId) → ends x r ≡ same_id id x)
    → ((time : ℕ) → end_in ended' time ≡ option_or (end_in ended time) (cond (same_id id (record { site = site; time = time })) (Some (end_of r)) None))
    → AreEnds site (log ++ r ∷ []) ended'
ends_more site log ended ended' r id h named more time =
    more time
    ∙ ap (λ o. option_or o (cond (same_id id (record { site = site; time = time })) (Some (end_of r)) None)) (h time)
    ∙ sym (found_more log r (record { site = site; time = time }) (same_id id (record { site = site; time = time })) (named (record { site = site; time = time })))

or_nothing : {X : Type 0} (o : Option X) → option_or o None ≡ o
or_nothing None = refl
or_nothing (Some x) = refl

-- a record that ends nothing leaves the ends
pub ends_left : (site : ℕ) (log : List Record) (ended : List (ℕ × State)) (r : Record) → AreEnds site log ended → ((x : TxnId) → ends x r ≡ false) → AreEnds site (log ++ r ∷ []) ended
ends_left site log ended r h none time =
    h time
    ∙ sym (or_nothing (option_map end_of (find (ends (record { site = site; time = time })) log)))
    ∙ sym (found_more log r (record { site = site; time = time }) false (none (record { site = site; time = time })))

end_found : (o : Option Record) (state : State) → Some state ≡ option_map end_of o → (is_some o ≡ true) × (state ≡ ending_of o)
end_found None state e = absurd (cc)
end_found (Some r) state e = (refl, cc)

no_end : (o : Option Record) → None ≡ option_map end_of o → is_some o ≡ false
no_end None e = refl
no_end (Some r) e = absurd (cc)

open_is : (log : List Record) (id : TxnId) → is_unfinished log id ≡ is_some (cond (not (finished log id)) (prepare_of log id) None)
open_is log id = any_found (λ p. same_id p.id id) (unfinished log) ∙ ap (λ o. is_some o) (open_found log id)

none_ended : (o : Option Record) → is_some o ≡ false → ending_of o ≡ Pending
none_ended None e = refl
none_ended (Some r) e = absurd (both_ways true e refl)

-- what is known of an own transaction, by whether the log has its Prepare
status_is : (n : Node) (id : TxnId) (has : Bool) → nat_eq id.site n.site ≡ true → is_some (prepare_of n.log id) ≡ has → status n id ≡ cond has (ending_of (find (ends id) n.log)) Unknown
status_is n id has own is = rw (own, is) refl

open_waits : (log : List Record) (id : TxnId) → is_unfinished log id ≡ true → finished log id ≡ false
open_waits log id held = by_test (cases_Bool (finished log id))
  where
    by_test : (finished log id ≡ true) ⊎ (finished log id ≡ false) → finished log id ≡ false
    by_test (inl over) = absurd (both_ways (is_unfinished log id) (open_is log id ∙ ap (λ e. is_some (cond (not e) (prepare_of log id) None)) over) held)
    by_test (inr waits) = waits

pub status_open : (b : Base) (l : LedgerData) (table : List ℕ) (id : TxnId) → nat_eq id.site l.site ≡ true → is_unfinished (log_in b l) id ≡ true
    → Pending ≡ status (record { site = l.site; log = log_in b l; table = table }) id
status_open b l table id own held =
    let none : is_some (find (ends id) (log_in b l)) ≡ false = sym (any_found (ends id) (log_in b l)) ∙ open_waits (log_in b l) id held in
    sym (status_is (record { site = l.site; log = log_in b l; table = table }) id true own (held_known (log_in b l) id held) ∙ none_ended (find (ends id) (log_in b l)) none)

own_end : (b : Base) (l : LedgerData) (id : TxnId) → IsLedgerOf b l → nat_eq id.site l.site ≡ true → end_in l.ended id.time ≡ option_map end_of (find (ends id) (log_in b l))
own_end b l id h own =
    let site : id.site ≡ l.site = eqb-true id.site l.site own in
    let same : id ≡ record { site = l.site; time = id.time } = λ i. record { site = site i; time = id.time } in
    h.ends id.time ∙ ap (λ x. option_map end_of (find (ends x) (log_in b l))) (sym same)

pub status_ended : (b : Base) (l : LedgerData) (table : List ℕ) (id : TxnId) (state : State) → IsLedgerOf b l → nat_eq id.site l.site ≡ true → Some state ≡ end_in l.ended id.time
    → state ≡ status (record { site = l.site; log = log_in b l; table = table }) id
status_ended b l table id state h own found =
    let end = end_found (find (ends id) (log_in b l)) state (found ∙ own_end b l id h own) in
    let known : is_some (prepare_of (log_in b l) id) ≡ true = h.lookups.backed id (any_found (ends id) (log_in b l) ∙ end.0) in
    end.1 ∙ sym (status_is (record { site = l.site; log = log_in b l; table = table }) id true own known)

pub status_none : (b : Base) (l : LedgerData) (table : List ℕ) (id : TxnId) → IsLedgerOf b l → nat_eq id.site l.site ≡ true → is_unfinished (log_in b l) id ≡ false → None ≡ end_in l.ended id.time
    → Unknown ≡ status (record { site = l.site; log = log_in b l; table = table }) id
status_none b l table id h own other found =
    let waits : finished (log_in b l) id ≡ false = any_found (ends id) (log_in b l) ∙ no_end (find (ends id) (log_in b l)) (found ∙ own_end b l id h own) in
    let unknown : is_some (prepare_of (log_in b l) id) ≡ false = sym (open_is (log_in b l) id ∙ ap (λ e. is_some (cond (not e) (prepare_of (log_in b l) id) None)) waits) ∙ other in
    sym (status_is (record { site = l.site; log = log_in b l; table = table }) id false own unknown)

-- what is held is unfinished
pub held_waits : (b : Base) (l : LedgerData) (id : TxnId) → IsLedgerOf b l → holds_id l.pools id ≡ is_unfinished (log_in b l) id
held_waits b l id h = ap (list_any (λ p. same_id p.id id)) h.lookups.waiting

-- what a look-up of an end gives once one was kept, by whether the transaction is the site's own and has an end
module _ (ended : List (ℕ × State)) (site : ℕ) (id : TxnId) (end : State) where
  pub kept_other : nat_eq id.site site ≡ false → (time : ℕ) → end_in ended time ≡ option_or (end_in ended time) (cond (same_id id (record { site = site; time = time })) (Some end) None)
  kept_other other time = rw other (sym (or_nothing (end_in ended time)))

  pub kept_there : is_some (end_in ended id.time) ≡ true
      → (time : ℕ) → end_in ended time ≡ option_or (end_in ended time) (cond (same_id id (record { site = site; time = time })) (Some end) None)
  kept_there there time = by_test (cases_Bool (same_id id (record { site = site; time = time })))
    where
      by_test : (same_id id (record { site = site; time = time }) ≡ true) ⊎ (same_id id (record { site = site; time = time }) ≡ false)
          → end_in ended time ≡ option_or (end_in ended time) (cond (same_id id (record { site = site; time = time })) (Some end) None)
      by_test (inl same) =
          let at : id.time ≡ time = ap (λ x. x.time) (same_id_is id (record { site = site; time = time }) same) in
          sym (found_first (end_in ended time) (cond (same_id id (record { site = site; time = time })) (Some end) None) (subst (λ t. is_some (end_in ended t) ≡ true) at there))
      by_test (inr other) = rw other (sym (or_nothing (end_in ended time)))

  pub kept_new : (ended' : List (ℕ × State)) → nat_eq id.site site ≡ true → is_some (end_in ended id.time) ≡ false
      → ((q : ℕ) → end_in ended' q ≡ cond (is_at (nat_cmp id.time) q) (Some end) (end_in ended q))
      → (time : ℕ) → end_in ended' time ≡ option_or (end_in ended time) (cond (same_id id (record { site = site; time = time })) (Some end) None)
  kept_new ended' own none put time = put time ∙ by_test (cases_eq id.time time)
    where
      by_test : (id.time ≡ time) ⊎ (id.time ≡ time → ⊥) → cond (is_at (nat_cmp id.time) time) (Some end) (end_in ended time)
          ≡ option_or (end_in ended time) (cond (same_id id (record { site = site; time = time })) (Some end) None)
      by_test (inl same) =
          let here : is_at (nat_cmp id.time) time ≡ true = at_same id.time time same in
          let equal : nat_eq id.time time ≡ true = eq-eqb id.time time same in
          let absent : end_in ended time ≡ None = nothing (end_in ended time) (subst (λ t. is_some (end_in ended t) ≡ false) same none) in
          rw (here, absent, own, equal) refl
      by_test (inr other) =
          let there : is_at (nat_cmp id.time) time ≡ false = at_other id.time time other in
          let apart : nat_eq id.time time ≡ false = ne_eqb id.time time other in
          rw (there, own, apart) (sym (or_nothing (end_in ended time)))
