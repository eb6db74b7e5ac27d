-- The reply to a request that was taken.
use Rattle.std.proofs.Common.{◌≡◌, ◌∙◌, ap, refl, sym, eq-eqb, Bool, true, false, not, cond, ◌⊎◌, inl, inr, nat_eq, List, [], ◌∷◌, ◌++◌, ◌+◌, filter, fold}
use Rattle.std.specs.List.{list_any}
use Rattle.std.proofs.lemmas.List.Elements.{filter_map-append}
use Rattle.std.proofs.lemmas.List.Folds.{list_any-append}
use Rattle.std.proofs.lemmas.Bool.{and_parts, both_ways, cases_Bool, eqb-true, or_left, or_right}
use Rattle.helios_model.specs.declared.ids.TxnId.{TxnId}
use Rattle.helios_model.specs.declared.records.Record.{Record}
use Rattle.helios_model.specs.declared.records.Record.TheVariants.{Prepare, Commit}
use Rattle.helios_model.specs.declared.entries.Reply.TheVariants.{Prepared, Committed}
use Rattle.helios_model.specs.Ids.{same_id}
use Rattle.helios_model.specs.Transactions.{Transaction}
use Rattle.helios_model.specs.Log.{finished, prepare_in, prepares}
use Rattle.helios_model.specs.Exchange.{is_unfinished}
use Rattle.helios_model.specs.Plans.{PlanData}
use Rattle.helios_model.specs.Node.{Node, clock}
use Rattle.helios_model.specs.Settle.{commit_one, ready, settle}
use Rattle.helios_model.specs.Request.{accept, entered, taken_reply}

same_id_is : (a b : TxnId) → same_id a b ≡ true → a ≡ b
same_id_is a b same =
    let parts = and_parts (nat_eq a.site b.site) (nat_eq a.time b.time) same in
    let sites : a.site ≡ b.site = eqb-true a.site b.site parts.0 in
    let times : a.time ≡ b.time = eqb-true a.time b.time parts.1 in
    λ i. record { site = sites i; time = times i }

-- the log has a Prepare of this id
abbrev has_prepare : List Record → TxnId → Bool
has_prepare log id = list_any (λ p. same_id p.id id) (prepares log)

has_more : (log more : List Record) (id : TxnId) → has_prepare log id ≡ true → has_prepare (log ++ more) id ≡ true
has_more log more id here =
    ap (list_any (λ p. same_id p.id id)) (filter_map-append prepare_in log more)
    ∙ list_any-append (λ p. same_id p.id id) (prepares log) (prepares more)
    ∙ or_left (has_prepare log id) (has_prepare more id) here

has_last : (log : List Record) (p : Transaction) → has_prepare (log ++ Prepare p ∷ []) p.id ≡ true
has_last log p =
    let itself : same_id p.id p.id ≡ true = rw (eq-eqb p.id.site p.id.site refl, eq-eqb p.id.time p.id.time refl) refl in
    ap (list_any (λ q. same_id q.id p.id)) (filter_map-append prepare_in log (Prepare p ∷ []))
    ∙ list_any-append (λ q. same_id q.id p.id) (prepares log) (p ∷ [])
    ∙ or_right (has_prepare log p.id) (list_any (λ q. same_id q.id p.id) (p ∷ [])) (or_left (same_id p.id p.id) false itself)

has_settled : (plan : PlanData) (n : Node) (ids : List TxnId) (id : TxnId) → has_prepare n.log id ≡ true → has_prepare (fold (commit_one plan) n ids).log id ≡ true
has_settled plan n [] id here = here
has_settled plan n (x ∷ xs) id here = has_settled plan (commit_one plan n x) xs id (has_more n.log (Commit x (clock plan n + 1) ∷ []) id here)

-- where each that passes the first test has this answer at the second, and one passes, one is left exactly where the answer is yes
any_left : {X : Type 0} (t f : X → Bool) (b : Bool) → ((x : X) → t x ≡ true → f x ≡ b) → (xs : List X) → list_any t xs ≡ true → list_any t (filter f xs) ≡ b
any_left {X = X} t f b same xs some = by_answer (cases_Bool b)
  where
    left : b ≡ true → (ys : List X) → list_any t ys ≡ true → list_any t (filter f ys) ≡ true
    left is [] here = here
    left is (y ∷ ys) here = by_tests (cases_Bool (t y)) (cases_Bool (f y)) (left is ys)
      where
        by_tests : (t y ≡ true) ⊎ (t y ≡ false) → (f y ≡ true) ⊎ (f y ≡ false) → (list_any t ys ≡ true → list_any t (filter f ys) ≡ true) → list_any t (filter f (y ∷ ys)) ≡ true
        by_tests (inl passes) (inl kept) rest = rw (kept, passes) refl
        by_tests (inl passes) (inr gone) rest = absurd (both_ways (f y) gone (same y passes ∙ is))
        by_tests (inr fails) (inl kept) rest = rw (kept, fails) (rest (rw fails at here))
        by_tests (inr fails) (inr gone) rest = rw gone (rest (rw fails at here))

    none : b ≡ false → (ys : List X) → list_any t (filter f ys) ≡ false
    none is [] = refl
    none is (y ∷ ys) = by_tests (cases_Bool (t y)) (cases_Bool (f y)) (none is ys)
      where
        by_tests : (t y ≡ true) ⊎ (t y ≡ false) → (f y ≡ true) ⊎ (f y ≡ false) → list_any t (filter f ys) ≡ false → list_any t (filter f (y ∷ ys)) ≡ false
        by_tests (inl passes) (inl kept) rest = absurd (both_ways (f y) (same y passes ∙ is) kept)
        by_tests (inr fails) (inl kept) rest = rw (kept, fails) rest
        by_tests passed (inr gone) rest = rw gone rest

    by_answer : (b ≡ true) ⊎ (b ≡ false) → list_any t (filter f xs) ≡ b
    by_answer (inl is) = left is xs some ∙ sym is
    by_answer (inr is) = none is xs ∙ sym is

-- of a transaction that a log has, it is unfinished where it is not finished
known_open : (log : List Record) (id : TxnId) → has_prepare log id ≡ true → is_unfinished log id ≡ not (finished log id)
known_open log id here =
    any_left (λ p. same_id p.id id) (λ p. not (finished log p.id)) (not (finished log id))
    (λ p same. ap (λ x. not (finished log x)) (same_id_is p.id id same)) (prepares log) here

reply_of : (log : List Record) (id : TxnId) (open_one : Bool) → has_prepare log id ≡ true → is_unfinished log id ≡ open_one
    → taken_reply log id ≡ cond open_one (Prepared id) (Committed id)
reply_of log id open_one here is = by_test (finished log id) open_one (sym (known_open log id here) ∙ is)
  where
    by_test : (b o : Bool) → not b ≡ o → cond b (Committed id) (Prepared id) ≡ cond o (Prepared id) (Committed id)
    by_test true true e = absurd (both_ways false refl e)
    by_test true false e = refl
    by_test false true e = refl
    by_test false false e = absurd (both_ways true e refl)

-- a request that was taken is answered by whether its transaction is still unfinished
pub accepted : (plan : PlanData) (n settled : Node) (p : Transaction) (id : TxnId) (open_one : Bool) → settled ≡ settle plan (entered plan n p) → id ≡ p.id
    → is_unfinished settled.log id ≡ open_one → accept plan n p ≡ record { reply = cond open_one (Prepared id) (Committed id); node = settled }
accepted plan n settled p id open_one is named look =
    let last : Node = settle plan (entered plan n p) in
    let here : has_prepare last.log p.id ≡ true = has_settled plan (entered plan n p) (ready plan (entered plan n p)) p.id (has_last n.log p) in
    let looked : is_unfinished last.log p.id ≡ open_one = ap (λ m. is_unfinished m.log p.id) (sym is) ∙ ap (is_unfinished settled.log) (sym named) ∙ look in
    ap (λ reply. record { reply = reply; node = last }) (reply_of last.log p.id open_one here looked)
    ∙ ap (λ x. record { reply = cond open_one (Prepared x) (Committed x); node = last }) (sym named)
    ∙ ap (λ m. record { reply = cond open_one (Prepared id) (Committed id); node = m }) (sym is)
