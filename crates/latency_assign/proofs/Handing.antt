-- Columns are handed on along the tree, from a free one to the new row.
use Rattle.std.proofs.Common.{◌≡◌, inl, inr, ℕ, ◌+◌, ◌<◌, ◌≤◌, List, length, get_or, refl, sym, ◌∙◌, ap, subst, arith}
use Rattle.std.specs.List.{swap, range_with_len}
use Rattle.std.proofs.lemmas.Bool.{cases_eq}
use Rattle.std.proofs.lemmas.List.Edits.{Swapped, swapped_from_swap, length-swap}
use Rattle.std.proofs.lemmas.List.Sorted.{IsPermutation-swap, IsPermutation-trans}
use Rattle.latency_assign.specs.Search.{IsTight, IsFeasible, IsMatched, IsGrown, IsPath}

module _ (n : ℕ) (d : ℕ → ℕ → ℕ) (u w s : List ℕ) (a b : ℕ) (feasible : IsFeasible n d u w s) (first : a < n) (second : b < n) where
  potentials : Swapped (λ i. get_or w i 0) (λ i. get_or (swap w a b) i 0) a b
  potentials = swapped_from_swap w (swap w a b) a b 0 (let size : length w ≡ n = feasible.places in omega arith) (let size : length w ≡ n = feasible.places in omega arith) refl

  columns : Swapped (λ i. get_or s i 0) (λ i. get_or (swap s a b) i 0) a b
  columns = swapped_from_swap s (swap s a b) a b 0 (let size : length s ≡ n = feasible.columns in omega arith) (let size : length s ≡ n = feasible.columns in omega arith) refl

  -- a place holds what another held
  pub record Holds (place from : ℕ) : Type 0 where
    pub potential : get_or (swap w a b) place 0 ≡ get_or w from 0
    pub column : get_or (swap s a b) place 0 ≡ get_or s from 0

  pub at_first : Holds a b
  at_first = record { potential = potentials.0; column = columns.0 }

  pub at_second : Holds b a
  at_second = record { potential = potentials.1; column = columns.1 }

  pub elsewhere : (q : ℕ) → (q ≡ a → ⊥) → (q ≡ b → ⊥) → Holds q q
  elsewhere q not_first not_second = record { potential = potentials.2 q not_first not_second; column = columns.2 q not_first not_second }

  pub from_somewhere : (q : ℕ) → q < n → (p : ℕ) × ((p < n) × Holds q p)
  from_somewhere q low = elim (cases_eq q a) [
    | inl same ↦ (let P : ℕ → Type 0 = λ x. Holds x b in (b, (second, subst P (sym same) at_first)))
    | inr not_first ↦ elim (cases_eq q b) [
      | inl same ↦ (let P : ℕ → Type 0 = λ x. Holds x a in (a, (first, subst P (sym same) at_second)))
      | inr not_second ↦ (q, (low, elsewhere q not_first not_second))
    ]
  ]

  pub tight_from : (row place from : ℕ) → Holds place from → IsTight d u w s row from → IsTight d u (swap w a b) (swap s a b) row place
  tight_from row place from held tight =
      let same : d row (get_or (swap s a b) place 0) ≡ d row (get_or s from 0) = ap (d row) held.column in
      let is : get_or (swap w a b) place 0 ≡ get_or w from 0 = held.potential in
      omega arith

  -- potentials stay feasible
  pub exchanged : IsFeasible n d u (swap w a b) (swap s a b)
  exchanged = record {
    short = feasible.short;
    rows = feasible.rows;
    places = length-swap w a b ∙ feasible.places;
    columns = length-swap s a b ∙ feasible.columns;
    permutation = IsPermutation-trans (range_with_len 0 n) s (swap s a b) feasible.permutation
        (IsPermutation-swap s (swap s a b) a b (let size : length s ≡ n = feasible.columns in omega arith) (let size : length s ≡ n = feasible.columns in omega arith) refl);
    below = λ q low. (
        let held : (p : ℕ) × ((p < n) × Holds q p) = from_somewhere q low in
        let before : get_or s held.0 0 < n = feasible.below held.0 held.1.0 in
        let is : get_or (swap s a b) q 0 ≡ get_or s held.0 0 = held.1.1.column in
        omega arith);
    reached = λ i q row low. (
        let held : (p : ℕ) × ((p < n) × Holds q p) = from_somewhere q low in
        let before : d i (get_or s held.0 0) ≤ get_or u i 0 + get_or w held.0 0 = feasible.reached i held.0 row held.1.0 in
        let same : d i (get_or (swap s a b) q 0) ≡ d i (get_or s held.0 0) = ap (d i) held.1.1.column in
        let is : get_or (swap w a b) q 0 ≡ get_or w held.0 0 = held.1.1.potential in
        omega arith);
    small_rows = feasible.small_rows;
    small_places = λ q low. (
        let held : (p : ℕ) × ((p < n) × Holds q p) = from_somewhere q low in
        let before : get_or w held.0 0 ≤ 1000000000 = feasible.small_places held.0 held.1.0 in
        let is : get_or (swap w a b) q 0 ≡ get_or w held.0 0 = held.1.1.potential in
        omega arith);
  }

-- the free column goes to place k
pub begun_path : (n : ℕ) (d : ℕ → ℕ → ℕ) (k : ℕ) (u w s order near : List ℕ) (place : ℕ) → k < n → IsGrown n d k u w s order near place → IsPath n d k u (swap w k place) (swap s k place) order near (get_or near place 0)
begun_path n d k u w s order near place row grown =
    let feasible : IsFeasible n d u w s = grown.matched.feasible in
    let late : k ≤ place = grown.free in
    record {
      feasible = exchanged n d u w s k place feasible row grown.within;
      shape = grown.shape;
      within = grown.shape.within place grown.within;
      joined = grown.shape.joined place grown.within;
      tight = λ i early low. tight_from n d u w s k place feasible row grown.within i i i
          (elsewhere n d u w s k place feasible row grown.within i (λ same. absurd (omega arith)) (λ same. absurd (omega arith)))
          (grown.matched.tight i early low);
      free = λ q above low. elim (cases_eq q place) [
        | inl same ↦ (
            let held : get_or (swap w k place) place 0 ≡ get_or w k 0 = (at_second n d u w s k place feasible row grown.within).potential in
            let none : get_or w k 0 ≡ 0 = grown.matched.free k (omega arith) row in
            ap (λ x. get_or (swap w k place) x 0) same ∙ held ∙ none)
        | inr other ↦ (elsewhere n d u w s k place feasible row grown.within q (λ same. absurd (omega arith)) other).potential ∙ grown.matched.free q (omega arith) low
      ];
      linked = λ q low deep not_later. (
          let early : q < k = grown.shape.inner q low deep in
          tight_from n d u w s k place feasible row grown.within (get_or near q 0) q q
          (elsewhere n d u w s k place feasible row grown.within q (λ same. absurd (omega arith)) (λ same. absurd (omega arith)))
          (grown.linked q low deep));
      handed = tight_from n d u w s k place feasible row grown.within (get_or near place 0) k place (at_first n d u w s k place feasible row grown.within) grown.tight;
    }

-- the row takes the column at place k, and its own goes there
pub next_path : (n : ℕ) (d : ℕ → ℕ → ℕ) (k : ℕ) (u w s order near : List ℕ) (row : ℕ) → k < n → 2 ≤ get_or order row 0 → IsPath n d k u w s order near row → IsPath n d k u (swap w k row) (swap s k row) order near (get_or near row 0)
next_path n d k u w s order near row within deep path =
    let feasible : IsFeasible n d u w s = path.feasible in
    let early : row < k = path.shape.inner row path.within deep in
    let root : get_or order k 0 ≡ 1 = path.shape.root in
    let less : get_or order (get_or near row 0) 0 < get_or order row 0 = path.shape.earlier row path.within deep in
    record {
      feasible = exchanged n d u w s k row feasible within path.within;
      shape = path.shape;
      within = path.shape.within row path.within;
      joined = path.shape.joined row path.within;
      tight = λ i before low. elim (cases_eq i row) [
        | inl same ↦ (
            let P : ℕ → Type 0 = λ x. IsTight d u (swap w k row) (swap s k row) x x in
            subst P (sym same) (tight_from n d u w s k row feasible within path.within row row k (at_second n d u w s k row feasible within path.within) path.handed))
        | inr other ↦ tight_from n d u w s k row feasible within path.within i i i
            (elsewhere n d u w s k row feasible within path.within i (λ same. absurd (omega arith)) other)
            (path.tight i before low)
      ];
      free = λ q above low. (elsewhere n d u w s k row feasible within path.within q (λ same. absurd (omega arith)) (λ same. absurd (omega arith))).potential ∙ path.free q above low;
      linked = λ q low joined not_later. (
          let apart : q ≡ row → ⊥ = λ same. (let is : get_or order q 0 ≡ get_or order row 0 = ap (λ x. get_or order x 0) same in absurd (omega arith)) in
          let not_root : q ≡ k → ⊥ = λ same. (let is : get_or order q 0 ≡ get_or order k 0 = ap (λ x. get_or order x 0) same in absurd (omega arith)) in
          tight_from n d u w s k row feasible within path.within (get_or near q 0) q q
          (elsewhere n d u w s k row feasible within path.within q not_root apart)
          (path.linked q low joined (omega arith)));
      handed = tight_from n d u w s k row feasible within path.within (get_or near row 0) k row (at_first n d u w s k row feasible within path.within)
          (path.linked row path.within deep (omega arith));
    }

-- the new row takes the column
pub ended_path : (n : ℕ) (d : ℕ → ℕ → ℕ) (k : ℕ) (u w s order near : List ℕ) (row : ℕ) → get_or order row 0 ≤ 1 → IsPath n d k u w s order near row → IsMatched n d (k + 1) u w s
ended_path n d k u w s order near row low path =
    let joined : 1 ≤ get_or order row 0 = path.joined in
    let root : row ≡ k = path.shape.only_root row path.within (omega arith) in
    record {
      feasible = path.feasible;
      tight = λ i early within. elim (cases_eq i k) [
        | inl same ↦ (
            let P : ℕ → Type 0 = λ x. IsTight d u w s x k in
            let Q : ℕ → Type 0 = λ x. IsTight d u w s x x in
            subst Q (sym same) (subst P root path.handed))
        | inr other ↦ path.tight i (omega arith) within
      ];
      free = λ q above within. path.free q (omega arith) within;
    }
