-- The times of each site's transactions, as the line of all of them changes.
use Rattle.std.proofs.Common.{◌≡◌, ℕ, suc, List, [], ◌∷◌, ◌++◌, Bool, true, false, not, filter, length, nat_eq, refl, sym, ap, ◌∙◌, subst}
use Rattle.std.specs.Map.{values_of}
use Rattle.std.proofs.lemmas.Bool.{eq-eqb, eqb-true, ne_eqb}
use Rattle.helios_model.specs.declared.ids.TxnId.{TxnId}
use Rattle.helios_model.specs.Ids.{same_id}
use Rattle.helios_model.specs.Transactions.{Transaction}
use Rattle.helios_model.specs.Log.{is_own}
use Rattle.prepare_pools.specs.Line.{arrival_of}
use Rattle.prepare_pools.specs.Waiting.{of_site}

pub same_id_is : (a b : TxnId) → same_id a b ≡ true → a ≡ b
same_id_is a b same = same_parts a b _ _ refl refl same
  where
    same_parts : (a b : TxnId) (s t : Bool) → nat_eq a.site b.site ≡ s → nat_eq a.time b.time ≡ t → same_id a b ≡ true → a ≡ b
    same_parts a b true true s t same =
        let site : a.site ≡ b.site = eqb-true a.site b.site s in
        let time : a.time ≡ b.time = eqb-true a.time b.time t in
        ap (λ n. record { site = n; time = a.time }) site ∙ ap (λ n. record { site = b.site; time = n }) time
    same_parts a b true false s t same = absurd (let e = rw (s, t) at same in cc)
    same_parts a b false t' s t same = absurd (let e = rw s at same in cc)

pub same_id_itself : (a : TxnId) → same_id a a ≡ true
same_id_itself a =
    let site : nat_eq a.site a.site ≡ true = eq-eqb a.site a.site refl in
    let time : nat_eq a.time a.time ≡ true = eq-eqb a.time a.time refl in
    rw (site, time) refl

pub same_id_of : (a b : TxnId) → a ≡ b → same_id a b ≡ true
same_id_of a b same = subst (λ c. same_id a c ≡ true) same (same_id_itself a)

arrival_case : (e : ℕ × Transaction) (es : List (ℕ × Transaction)) (id : TxnId) (s t : Bool) → nat_eq e.1.id.site id.site ≡ s → nat_eq e.1.id.time id.time ≡ t
    → arrival_of (λ u. nat_eq u id.time) (of_site id.site es) ≡ arrival_of (λ p. same_id p.id id) es
    → arrival_of (λ u. nat_eq u id.time) (of_site id.site (e ∷ es)) ≡ arrival_of (λ p. same_id p.id id) (e ∷ es)
arrival_case e es id true true s t rest = rw s (rw t refl)
arrival_case e es id true false s t rest = rw s (rw t rest)
arrival_case e es id false t' s t rest = rw s rest

-- a transaction is found among its site's by its time
pub site_arrival : (es : List (ℕ × Transaction)) (id : TxnId)
    → arrival_of (λ u. nat_eq u id.time) (of_site id.site es) ≡ arrival_of (λ p. same_id p.id id) es
site_arrival [] id = refl
site_arrival (e ∷ es) id = arrival_case e es id _ _ refl refl (site_arrival es id)

own_case : (k : ℕ) (e : ℕ × Transaction) (es more : List (ℕ × Transaction)) (b : Bool) → is_own k e.1 ≡ b
    → of_site k (es ++ more) ≡ of_site k es ++ of_site k more → of_site k ((e ∷ es) ++ more) ≡ of_site k (e ∷ es) ++ of_site k more
own_case k e es more true own rest = rw own (ap (λ xs. (e.0, e.1.id.time) ∷ xs) rest)
own_case k e es more false own rest = rw own rest

pub site_append : (k : ℕ) (es more : List (ℕ × Transaction)) → of_site k (es ++ more) ≡ of_site k es ++ of_site k more
site_append k [] more = refl
site_append k (e ∷ es) more = own_case k e es more _ refl (site_append k es more)

-- one more at the end
pub site_push_own : (es : List (ℕ × Transaction)) (n : ℕ) (p : Transaction)
    → of_site p.id.site (es ++ (n, p) ∷ []) ≡ of_site p.id.site es ++ (n, p.id.time) ∷ []
site_push_own es n p =
    let own : nat_eq p.id.site p.id.site ≡ true = eq-eqb p.id.site p.id.site refl in
    site_append p.id.site es ((n, p) ∷ []) ∙ rw own refl

pub append_none : {X : Type 0} (xs : List X) → xs ++ [] ≡ xs
append_none [] = refl
append_none (x ∷ xs) = ap (λ ys. x ∷ ys) (append_none xs)

pub site_push_other : (k : ℕ) (es : List (ℕ × Transaction)) (n : ℕ) (p : Transaction) → (p.id.site ≡ k → ⊥) → of_site k (es ++ (n, p) ∷ []) ≡ of_site k es
site_push_other k es n p other =
    let foreign : nat_eq p.id.site k ≡ false = ne_eqb p.id.site k other in
    site_append k es ((n, p) ∷ []) ∙ rw foreign (append_none (of_site k es))

leave_case : (e : ℕ × Transaction) (es : List (ℕ × Transaction)) (id : TxnId) (s t : Bool) → nat_eq e.1.id.site id.site ≡ s → nat_eq e.1.id.time id.time ≡ t
    → of_site id.site (filter (λ e. not (same_id e.1.id id)) es) ≡ filter (λ f. not (nat_eq f.1 id.time)) (of_site id.site es)
    → of_site id.site (filter (λ e. not (same_id e.1.id id)) (e ∷ es)) ≡ filter (λ f. not (nat_eq f.1 id.time)) (of_site id.site (e ∷ es))
leave_case e es id true true s t rest = rw s (rw t rest)
leave_case e es id true false s t rest = rw s (rw t (rw s (ap (λ xs. (e.0, e.1.id.time) ∷ xs) rest)))
leave_case e es id false t' s t rest = rw s (rw s rest)

-- one taken out: its site loses its time
pub site_leave_own : (es : List (ℕ × Transaction)) (id : TxnId)
    → of_site id.site (filter (λ e. not (same_id e.1.id id)) es) ≡ filter (λ f. not (nat_eq f.1 id.time)) (of_site id.site es)
site_leave_own [] id = refl
site_leave_own (e ∷ es) id = leave_case e es id _ _ refl refl (site_leave_own es id)

stay_case : (k : ℕ) (e : ℕ × Transaction) (es : List (ℕ × Transaction)) (id : TxnId) (o s : Bool) → (id.site ≡ k → ⊥)
    → nat_eq e.1.id.site k ≡ o → same_id e.1.id id ≡ s
    → of_site k (filter (λ e. not (same_id e.1.id id)) es) ≡ of_site k es → of_site k (filter (λ e. not (same_id e.1.id id)) (e ∷ es)) ≡ of_site k (e ∷ es)
stay_case k e es id true true other own same rest =
    absurd (other (sym (ap (λ i. i.site) (same_id_is e.1.id id same)) ∙ eqb-true e.1.id.site k own))
stay_case k e es id true false other own same rest = rw same (rw own (ap (λ xs. (e.0, e.1.id.time) ∷ xs) rest))
stay_case k e es id false true other own same rest = rw same (rw own rest)
stay_case k e es id false false other own same rest = rw same (rw own rest)

pub site_leave_other : (k : ℕ) (es : List (ℕ × Transaction)) (id : TxnId) → (id.site ≡ k → ⊥)
    → of_site k (filter (λ e. not (same_id e.1.id id)) es) ≡ of_site k es
site_leave_other k [] id other = refl
site_leave_other k (e ∷ es) id other = stay_case k e es id _ _ other refl refl (site_leave_other k es id other)

count_case : (k : ℕ) (e : ℕ × Transaction) (es : List (ℕ × Transaction)) (b : Bool) → is_own k e.1 ≡ b
    → length (of_site k es) ≡ length (filter (is_own k) (values_of es))
    → length (of_site k (e ∷ es)) ≡ length (filter (is_own k) (values_of (e ∷ es)))
count_case k e es true own rest = rw own (ap (λ n. suc n) rest)
count_case k e es false own rest = rw own rest

-- as many as the site has
pub site_count : (k : ℕ) (es : List (ℕ × Transaction)) → length (of_site k es) ≡ length (filter (is_own k) (values_of es))
site_count k [] = refl
site_count k (e ∷ es) = count_case k e es _ refl (site_count k es)
