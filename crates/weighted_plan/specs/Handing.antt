-- Units are handed on along a tree, from a column that has still to take some back to a first row.
use Rattle.std.specs.Prelude.{◌≡◌, ◌⊎◌, ℕ, ◌+◌, ◌*◌, ◌<◌, ◌≤◌, List, length, slice_index, sum}
use Rattle.helios_model.specs.Grid.{at}
use Rattle.weighted_plan.specs.Flows.{column_sum, row_sum}

-- the row is near to the column, which is of the tree or the last one
abbrev pub IsArc : List ℕ → List ℕ → ℕ → ℕ → ℕ → Type 0
IsArc turns near end i j = (i ≡ slice_index near j) × ((1 ≤ slice_index turns j) ⊎ (j ≡ end))

-- units flow where they flowed before, or along the tree
abbrev pub FlowsAlong : ℕ → List ℕ → List ℕ → List ℕ → ℕ → List ℕ → Type 0
FlowsAlong n turns near flow end after = (i j : ℕ) → i < n → j < n → 1 ≤ at n after i j → (1 ≤ at n flow i j) ⊎ IsArc turns near end i j

-- a row sends so many units more, and a column takes them
pub record IsMore (n : ℕ) (flow : List ℕ) (row end amount : ℕ) (after : List ℕ) : Type 0 where
  pub cells : length after ≡ n * n
  pub row_more : row_sum n after row ≡ row_sum n flow row + amount
  pub rows : (i : ℕ) → i < n → (i ≡ row → ⊥) → row_sum n after i ≡ row_sum n flow i
  pub column_more : column_sum n after end ≡ column_sum n flow end + amount
  pub columns : (j : ℕ) → j < n → (j ≡ end → ⊥) → column_sum n after j ≡ column_sum n flow j

-- on the way: what a row sends is to be handed on by the row that is near to the column by way of which it joined
pub record IsHanding (n : ℕ) (order turns near via room flow : List ℕ) (end amount : ℕ) (after : List ℕ) (row : ℕ) : Type 0 where
  pub more : IsMore n flow row end amount after
  pub along : FlowsAlong n turns near flow end after
  pub rooms : (i : ℕ) → i < n → 2 ≤ slice_index order i → slice_index order i ≤ slice_index order row → slice_index room i ≤ at n after i (slice_index via i)
  pub within : row < n
  pub joined : 1 ≤ slice_index order row
  pub fits : amount ≤ slice_index room row

-- a first row sends so many units more
pub record IsHanded (n : ℕ) (order turns near room flow : List ℕ) (end amount : ℕ) (after : List ℕ) (row : ℕ) : Type 0 where
  pub more : IsMore n flow row end amount after
  pub along : FlowsAlong n turns near flow end after
  pub within : row < n
  pub first : slice_index order row ≡ 1
  pub fits : amount ≤ slice_index room row

-- what a row sent and has still to send stays, and so with each column; less is left to send
pub record IsSent (n : ℕ) (turns near : List ℕ) (end : ℕ) (flow supply demand flow' supply' demand' : List ℕ) : Type 0 where
  pub cells : length flow' ≡ n * n
  pub supplies : length supply' ≡ n
  pub demands : length demand' ≡ n
  pub rows : (i : ℕ) → i < n → row_sum n flow' i + slice_index supply' i ≡ row_sum n flow i + slice_index supply i
  pub columns : (j : ℕ) → j < n → column_sum n flow' j + slice_index demand' j ≡ column_sum n flow j + slice_index demand j
  pub along : FlowsAlong n turns near flow end flow'
  pub wanting : (j : ℕ) → j < n → 1 ≤ slice_index demand' j → 1 ≤ slice_index demand j
  pub even : sum supply' + sum demand ≡ sum supply + sum demand'
  pub less : sum supply' < sum supply
