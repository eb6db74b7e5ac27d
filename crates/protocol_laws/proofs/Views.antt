-- Entries of tables, looked up within the plan.
use Rattle.std.proofs.Common.{◌≡◌, ◌≢◌, ◌∙◌, ap, refl, ℕ, ◌+◌, ◌*◌, ◌<◌, Bool, true, false, ◌&&◌, ◌⊎◌, inl, inr, cond, nat_eq, nat_lt, max, List, length, get_or}
use Rattle.std.proofs.lemmas.Bool.{and_from, and_parts, cases_Bool, cond-true, lt-ltb, ltb-true, eq-eqb, ne_eqb}
use Rattle.std.proofs.lemmas.List.{get_or-set_same, get_or-set_other}
use Rattle.std.proofs.lemmas.Nat.{mul-add-lt}
use Rattle.helios_model.specs.Grid.{at, put}
use Rattle.helios_model.specs.Exchange.{merged}
use Rattle.protocol_laws.specs.Views.{within, table_in, cover_in}
use Rattle.protocol_laws.proofs.Grids.{merged_there, same_place}

pub within_inside : (count a b time : ℕ) → a < count → b < count → within count a b time ≡ time
within_inside count a b time row column =
    cond-true (nat_lt a count && nat_lt b count) time 0 (and_from (nat_lt a count) (nat_lt b count) (lt-ltb a count row) (lt-ltb b count column))

pub within_same : (count a b x y : ℕ) → (a < count → b < count → x ≡ y) → within count a b x ≡ within count a b y
within_same count a b x y h = by_test (nat_lt a count && nat_lt b count) refl
  where
    by_test : (t : Bool) → (nat_lt a count && nat_lt b count) ≡ t → cond t x 0 ≡ cond t y 0
    by_test true inside =
        let parts = and_parts (nat_lt a count) (nat_lt b count) inside in
        h (ltb-true a count parts.0) (ltb-true b count parts.1)
    by_test false outside = refl

max_cond : (t : Bool) (x y : ℕ) → cond t (max x y) 0 ≡ max (cond t x 0) (cond t y 0)
max_cond true x y = refl
max_cond false x y = refl

pub within_max : (count a b x y : ℕ) → within count a b (max x y) ≡ max (within count a b x) (within count a b y)
within_max count a b x y = max_cond (nat_lt a count && nat_lt b count) x y

pub within_nothing : (count a b : ℕ) → within count a b 0 ≡ 0
within_nothing count a b = by_test (nat_lt a count && nat_lt b count)
  where
    by_test : (t : Bool) → ◌≡◌ {A = ℕ} (cond t 0 0) 0
    by_test true = refl
    by_test false = refl

pub put_here : (count : ℕ) (table : List ℕ) (s time : ℕ) → s < count → length table ≡ count * count → table_in count (put count table s s time) s s ≡ time
put_here count table s time low sized =
    let place : s * count + s < count * count = mul-add-lt s count s count low low in
    let inside : s * count + s < length table = rw sized place in
    within_inside count s s (at count (put count table s s time) s s) low low ∙ get_or-set_same table (s * count + s) time 0 inside

pub put_other : (count : ℕ) (table : List ℕ) (s time a b : ℕ) → s < count → (a ≢ s) ⊎ (b ≢ s)
    → table_in count (put count table s s time) a b ≡ table_in count table a b
put_other count table s time a b low apart =
    within_same count a b (at count (put count table s s time) a b) (at count table a b)
    (λ row column. get_or-set_other table (s * count + s) (a * count + b) time 0 (λ same. by_side apart (same_place count a b s s column low same)))
  where
    by_side : (a ≢ s) ⊎ (b ≢ s) → (a ≡ s) × (b ≡ s) → ⊥
    by_side (inl rows) same = rows same.0
    by_side (inr columns) same = columns same.1

-- the site's own time is not touched by a merge
pub merged_clock : (count own : ℕ) (table theirs cover : List ℕ) → table_in count (merged count own table theirs cover) own own ≡ table_in count table own own
merged_clock count own table theirs cover =
    within_same count own own (at count (merged count own table theirs cover) own own) (at count table own own) (λ row column.
    let same : nat_eq own own ≡ true = eq-eqb own own refl in
    merged_there count own table theirs cover own own row column ∙ rw same refl)

-- its row goes up to the cover
pub merged_row : (count own : ℕ) (table theirs cover : List ℕ) (k : ℕ) → own < count → k ≢ own
    → table_in count (merged count own table theirs cover) own k ≡ max (table_in count table own k) (cover_in count cover k)
merged_row count own table theirs cover k low apart =
    within_same count own k (at count (merged count own table theirs cover) own k) (max (at count table own k) (get_or cover k 0)) (λ row column.
    let same : nat_eq own own ≡ true = eq-eqb own own refl in
    let other : nat_eq k own ≡ false = ne_eqb k own apart in
    merged_there count own table theirs cover own k row column ∙ rw (same, other) refl)
    ∙ within_max count own k (at count table own k) (get_or cover k 0)
    ∙ ap (max (table_in count table own k)) (by_column (cases_Bool (nat_lt k count)))
  where
    by_column : (nat_lt k count ≡ true) ⊎ (nat_lt k count ≡ false) → within count own k (get_or cover k 0) ≡ cover_in count cover k
    by_column (inl inside) = rw (lt-ltb own count low) refl
    by_column (inr outside) = rw (lt-ltb own count low) refl

-- every other row goes up to the message's
pub merged_rows : (count own : ℕ) (table theirs cover : List ℕ) (a k : ℕ) → a ≢ own
    → table_in count (merged count own table theirs cover) a k ≡ max (table_in count table a k) (table_in count theirs a k)
merged_rows count own table theirs cover a k apart =
    within_same count a k (at count (merged count own table theirs cover) a k) (max (at count table a k) (at count theirs a k)) (λ row column.
    let other : nat_eq a own ≡ false = ne_eqb a own apart in
    merged_there count own table theirs cover a k row column ∙ rw other refl)
    ∙ within_max count a k (at count table a k) (at count theirs a k)
