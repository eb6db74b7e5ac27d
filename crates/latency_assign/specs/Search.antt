-- The search for partners. There are n rows and n columns, each the number of a site, and d is the round trip of a row
-- and a column. Each place holds a column: u has the potentials of the rows, and w those of the columns s by place.
use Rattle.std.specs.Prelude.{◌≡◌, ◌⊎◌, ℕ, ◌+◌, ◌<◌, ◌≤◌, List, length, slice_index, nat_le, count_by}
use Rattle.std.specs.List.{range_with_len}
use Rattle.std.specs.List.Sorted.{IsPermutation}
use Rattle.helios_model.specs.Limits.{longest_trip}

-- the potentials of a row and of the column at a place are their round trip
abbrev pub IsTight : (ℕ → ℕ → ℕ) → List ℕ → List ℕ → List ℕ → ℕ → ℕ → Type 0
IsTight d u w s row place = slice_index u row + slice_index w place ≡ d row (slice_index s place)

-- potentials, none over the longest round trip, that reach each round trip
pub record IsFeasible (n : ℕ) (d : ℕ → ℕ → ℕ) (u w s : List ℕ) : Type 0 where
  pub short : (i j : ℕ) → d i j ≤ longest_trip
  pub rows : length u ≡ n
  pub places : length w ≡ n
  pub columns : length s ≡ n
  pub permutation : IsPermutation (range_with_len 0 n) s
  pub below : (q : ℕ) → q < n → slice_index s q < n
  pub reached : (i q : ℕ) → i < n → q < n → d i (slice_index s q) ≤ slice_index u i + slice_index w q
  pub small_rows : (i : ℕ) → i < n → slice_index u i ≤ longest_trip
  pub small_places : (q : ℕ) → q < n → slice_index w q ≤ longest_trip

-- each of the first k rows has the column at its place for a partner, and the other columns are free
pub record IsMatched (n : ℕ) (d : ℕ → ℕ → ℕ) (k : ℕ) (u w s : List ℕ) : Type 0 where
  pub feasible : IsFeasible n d u w s
  pub tight : (i : ℕ) → i < k → i < n → IsTight d u w s i i
  pub free : (q : ℕ) → k ≤ q → q < n → slice_index w q ≡ 0

-- A tree of rows that grows from row k. A row joined it if its order isn't 0, and the column at a place if its order is
-- above 1. The row that is near to a place stands in the tree, and joined it before the column.
pub record IsShape (n k : ℕ) (order near : List ℕ) : Type 0 where
  pub orders : length order ≡ n
  pub nears : length near ≡ n
  pub root : slice_index order k ≡ 1
  pub only_root : (a : ℕ) → a < n → slice_index order a ≡ 1 → a ≡ k
  pub inner : (a : ℕ) → a < n → 2 ≤ slice_index order a → a < k
  pub within : (q : ℕ) → q < n → slice_index near q < n
  pub joined : (q : ℕ) → q < n → 1 ≤ slice_index order (slice_index near q)
  pub earlier : (q : ℕ) → q < n → 2 ≤ slice_index order q → slice_index order (slice_index near q) < slice_index order q

-- how many columns stand off the tree
abbrev pub columns_left : List ℕ → ℕ
columns_left order = count_by (λ o. nat_le o 1) order

-- a tree before its next turn: each column of it is tight with its near row, and no row of the tree lacks less to reach
-- a column off it than the near one
pub record IsTree (n : ℕ) (d : ℕ → ℕ → ℕ) (k turn : ℕ) (u w s order near : List ℕ) : Type 0 where
  pub matched : IsMatched n d k u w s
  pub shape : IsShape n k order near
  pub recent : (a : ℕ) → a < n → slice_index order a < turn
  pub left : turn + columns_left order ≤ n + 2
  pub linked : (q : ℕ) → q < n → 2 ≤ slice_index order q → IsTight d u w s (slice_index near q) q
  pub nearest : (a q : ℕ) → a < n → q < n → 1 ≤ slice_index order a → slice_index order q ≤ 1
      → slice_index u (slice_index near q) + d a (slice_index s q) ≤ slice_index u a + d (slice_index near q) (slice_index s q)

-- the place off the tree that lacks least to be tight with its near row, and what it lacks
pub record IsNearest (n : ℕ) (d : ℕ → ℕ → ℕ) (u w s order near : List ℕ) (place lack : ℕ) : Type 0 where
  pub within : place < n
  pub outside : slice_index order place ≤ 1
  pub lacks : lack + d (slice_index near place) (slice_index s place) ≡ slice_index u (slice_index near place) + slice_index w place
  pub least : (q : ℕ) → q < n → slice_index order q ≤ 1 → lack + d (slice_index near q) (slice_index s q) ≤ slice_index u (slice_index near q) + slice_index w q

-- the rows of the tree are lowered
pub record IsLowered (order : List ℕ) (by : ℕ) (u after : List ℕ) : Type 0 where
  pub size : length after ≡ length u
  pub inside : (i : ℕ) → i < length u → 1 ≤ slice_index order i → slice_index after i + by ≡ slice_index u i
  pub outside : (i : ℕ) → i < length u → slice_index order i ≡ 0 → slice_index after i ≡ slice_index u i

-- the columns of the tree are raised
pub record IsRaised (order : List ℕ) (by : ℕ) (w after : List ℕ) : Type 0 where
  pub size : length after ≡ length w
  pub inside : (q : ℕ) → q < length w → 2 ≤ slice_index order q → slice_index after q ≡ slice_index w q + by
  pub outside : (q : ℕ) → q < length w → slice_index order q ≤ 1 → slice_index after q ≡ slice_index w q

-- no row that is near to a column, of two
abbrev pub IsCloser : (ℕ → ℕ → ℕ) → List ℕ → ℕ → ℕ → ℕ → Type 0
IsCloser d u column a b = slice_index u a + d b column ≤ slice_index u b + d a column

-- a row has joined the tree, and is near where it is the closer one
pub record IsExtended (d : ℕ → ℕ → ℕ) (u s order : List ℕ) (row : ℕ) (near after : List ℕ) : Type 0 where
  pub size : length after ≡ length near
  pub inner : (q : ℕ) → q < length near → 2 ≤ slice_index order q → slice_index after q ≡ slice_index near q
  pub chosen : (q : ℕ) → q < length near → slice_index order q ≤ 1 → (slice_index after q ≡ slice_index near q) ⊎ (slice_index after q ≡ row)
  pub before : (q : ℕ) → q < length near → slice_index order q ≤ 1 → IsCloser d u (slice_index s q) (slice_index after q) (slice_index near q)
  pub joining : (q : ℕ) → q < length near → slice_index order q ≤ 1 → IsCloser d u (slice_index s q) (slice_index after q) row

-- a free column is tight with its near row
pub record IsGrown (n : ℕ) (d : ℕ → ℕ → ℕ) (k : ℕ) (u w s order near : List ℕ) (place : ℕ) : Type 0 where
  pub matched : IsMatched n d k u w s
  pub shape : IsShape n k order near
  pub linked : (q : ℕ) → q < n → 2 ≤ slice_index order q → IsTight d u w s (slice_index near q) q
  pub free : k ≤ place
  pub within : place < n
  pub tight : IsTight d u w s (slice_index near place) place

-- partners are handed on along the tree: the column at place k is tight with the row
pub record IsPath (n : ℕ) (d : ℕ → ℕ → ℕ) (k : ℕ) (u w s order near : List ℕ) (row : ℕ) : Type 0 where
  pub feasible : IsFeasible n d u w s
  pub shape : IsShape n k order near
  pub within : row < n
  pub joined : 1 ≤ slice_index order row
  pub tight : (i : ℕ) → i < k → i < n → IsTight d u w s i i
  pub free : (q : ℕ) → k < q → q < n → slice_index w q ≡ 0
  pub linked : (q : ℕ) → q < n → 2 ≤ slice_index order q → slice_index order q ≤ slice_index order row → IsTight d u w s (slice_index near q) q
  pub handed : IsTight d u w s row k
