-- A tree that grows from a row by tight potentials, until it comes to a column that has still to take some.
use Rattle.std.specs.Prelude.{◌≡◌, ◌⊎◌, ℕ, ◌+◌, ◌*◌, ◌<◌, ◌≤◌, List, length, slice_index, nat_eq, count_by}
use Rattle.helios_model.specs.Grid.{at}
use Rattle.weighted_plan.specs.Transport.{IsFeasible, IsSlack, IsTight}

-- A row joined the tree if its order isn't 0, and a column if its turn isn't. The row that is near to a column stands in
-- the tree, and joined it before the column; a row whose order isn't 1 joined by way of a column. The room of a row is
-- what may be sent on to it.
pub record IsShape (n : ℕ) (order turns near via room : List ℕ) : Type 0 where
  pub orders : length order ≡ n
  pub columns : length turns ≡ n
  pub nears : length near ≡ n
  pub ways : length via ≡ n
  pub rooms : length room ≡ n
  pub near_row : (j : ℕ) → j < n → slice_index near j < n
  pub near_joined : (j : ℕ) → j < n → 1 ≤ slice_index order (slice_index near j)
  pub near_earlier : (j : ℕ) → j < n → 1 ≤ slice_index turns j → slice_index order (slice_index near j) < slice_index turns j
  pub way_column : (i : ℕ) → i < n → 2 ≤ slice_index order i → slice_index via i < n
  pub way_joined : (i : ℕ) → i < n → 2 ≤ slice_index order i → slice_index turns (slice_index via i) ≡ slice_index order i
  pub some_room : (i : ℕ) → i < n → 1 ≤ slice_index order i → 1 ≤ slice_index room i
  pub way_room : (i : ℕ) → i < n → 2 ≤ slice_index order i → slice_index room i ≤ slice_index room (slice_index near (slice_index via i))

-- a row of the tree but the first has room for no more than flows to the column by way of which it joined
abbrev pub HaveRoom : ℕ → List ℕ → List ℕ → List ℕ → List ℕ → Type 0
HaveRoom n flow order via room = (i : ℕ) → i < n → 2 ≤ slice_index order i → slice_index room i ≤ at n flow i (slice_index via i)

-- how many columns stand off the tree
abbrev pub columns_left : List ℕ → ℕ
columns_left turns = count_by (λ turn. nat_eq turn 0) turns

-- a tree before a turn, as far as the potentials of columns do not matter: no row of it lacks less to reach a column off
-- it than the near one
pub record IsGrowing (n : ℕ) (d : ℕ → ℕ → ℕ) (turn : ℕ) (u flow order turns near via room : List ℕ) : Type 0 where
  pub shape : IsShape n order turns near via room
  pub rooms : HaveRoom n flow order via room
  pub recent : (i : ℕ) → i < n → slice_index order i < turn
  pub left : turn + columns_left turns ≤ n + 2
  pub nearest : (i j : ℕ) → i < n → j < n → 1 ≤ slice_index order i → slice_index turns j ≡ 0
      → slice_index u (slice_index near j) + d i j ≤ slice_index u i + d (slice_index near j) j

-- a row that sends to a column of the tree stands in it
abbrev pub IsClosed : ℕ → List ℕ → List ℕ → List ℕ → Type 0
IsClosed n flow order turns = (i j : ℕ) → i < n → j < n → 1 ≤ slice_index turns j → 1 ≤ at n flow i j → 1 ≤ slice_index order i

-- a tree before a turn: each column of it is tight with its near row and has taken all, and no first row has room for
-- more than it has to send
pub record IsTree (n : ℕ) (d : ℕ → ℕ → ℕ) (most : ℕ → ℕ) (turn : ℕ) (u v flow demand order turns near via room : List ℕ) : Type 0 where
  pub feasible : IsFeasible n d u v
  pub slack : IsSlack n d u v flow demand
  pub cells : length flow ≡ n * n
  pub demands : length demand ≡ n
  pub growing : IsGrowing n d turn u flow order turns near via room
  pub first_room : (i : ℕ) → i < n → slice_index order i ≡ 1 → slice_index room i ≤ most i
  pub satisfied : (j : ℕ) → j < n → 1 ≤ slice_index turns j → slice_index demand j ≡ 0
  pub linked : (j : ℕ) → j < n → 1 ≤ slice_index turns j → IsTight d u v (slice_index near j) j
  pub closed : IsClosed n flow order turns

-- the column off the tree that lacks least to be tight with its near row, and what it lacks
pub record IsNearest (n : ℕ) (d : ℕ → ℕ → ℕ) (u v turns near : List ℕ) (place lack : ℕ) : Type 0 where
  pub within : place < n
  pub outside : slice_index turns place ≡ 0
  pub lacks : lack + d (slice_index near place) place ≡ slice_index u (slice_index near place) + slice_index v place
  pub least : (j : ℕ) → j < n → slice_index turns j ≡ 0 → lack + d (slice_index near j) j ≤ slice_index u (slice_index near j) + slice_index v j

-- the rows of the tree are lowered
pub record IsLowered (order : List ℕ) (by : ℕ) (u after : List ℕ) : Type 0 where
  pub size : length after ≡ length u
  pub inside : (i : ℕ) → i < length u → 1 ≤ slice_index order i → slice_index after i + by ≡ slice_index u i
  pub outside : (i : ℕ) → i < length u → slice_index order i ≡ 0 → slice_index after i ≡ slice_index u i

-- the columns of the tree are raised
pub record IsRaised (turns : List ℕ) (by : ℕ) (v after : List ℕ) : Type 0 where
  pub size : length after ≡ length v
  pub inside : (j : ℕ) → j < length v → 1 ≤ slice_index turns j → slice_index after j ≡ slice_index v j + by
  pub outside : (j : ℕ) → j < length v → slice_index turns j ≡ 0 → slice_index after j ≡ slice_index v j

-- no row that is near to a column, of two
abbrev pub IsCloser : (ℕ → ℕ → ℕ) → List ℕ → ℕ → ℕ → ℕ → Type 0
IsCloser d u column a b = slice_index u a + d b column ≤ slice_index u b + d a column

-- a row has joined the tree, and is near to the columns off it where it is the closer one
pub record IsExtended (d : ℕ → ℕ → ℕ) (u turns : List ℕ) (row : ℕ) (near after : List ℕ) : Type 0 where
  pub size : length after ≡ length near
  pub inner : (j : ℕ) → j < length near → 1 ≤ slice_index turns j → slice_index after j ≡ slice_index near j
  pub chosen : (j : ℕ) → j < length near → slice_index turns j ≡ 0 → (slice_index after j ≡ slice_index near j) ⊎ (slice_index after j ≡ row)
  pub before : (j : ℕ) → j < length near → slice_index turns j ≡ 0 → IsCloser d u j (slice_index after j) (slice_index near j)
  pub joining : (j : ℕ) → j < length near → slice_index turns j ≡ 0 → IsCloser d u j (slice_index after j) row

-- rows have joined the tree, none of them as a first one; what was there stays
pub record IsJoined (n : ℕ) (order turns near room order' turns' near' room' : List ℕ) : Type 0 where
  pub same : turns' ≡ turns
  pub orders : (i : ℕ) → i < n → 1 ≤ slice_index order i → slice_index order' i ≡ slice_index order i
  pub rooms : (i : ℕ) → i < n → 1 ≤ slice_index order i → slice_index room' i ≡ slice_index room i
  pub later : (i : ℕ) → i < n → slice_index order' i ≡ 1 → slice_index order i ≡ 1
  pub nears : (j : ℕ) → j < n → 1 ≤ slice_index turns j → slice_index near' j ≡ slice_index near j

-- a column that has still to take some is tight with its near row
pub record IsGrown (n : ℕ) (d : ℕ → ℕ → ℕ) (most : ℕ → ℕ) (u v flow demand order turns near via room : List ℕ) (place : ℕ) : Type 0 where
  pub feasible : IsFeasible n d u v
  pub slack : IsSlack n d u v flow demand
  pub shape : IsShape n order turns near via room
  pub rooms : HaveRoom n flow order via room
  pub first_room : (i : ℕ) → i < n → slice_index order i ≡ 1 → slice_index room i ≤ most i
  pub linked : (j : ℕ) → j < n → 1 ≤ slice_index turns j → IsTight d u v (slice_index near j) j
  pub within : place < n
  pub wanting : 1 ≤ slice_index demand place
  pub tight : IsTight d u v (slice_index near place) place
