-- A turn of the tree: its rows are lowered and its columns raised by what the nearest column lacks.
use Rattle.std.proofs.Common.{◌≡◌, inl, inr, ℕ, ◌+◌, ◌<◌, ◌≤◌, List, length, get_or, arith}
use Rattle.std.proofs.lemmas.Bool.{cases_lt}
use Rattle.helios_model.specs.Limits.{longest_trip}
use Rattle.helios_model.specs.Grid.{at}
use Rattle.weighted_plan.specs.Growing.{IsGrown, IsLowered, IsNearest, IsRaised, IsTree}
use Rattle.weighted_plan.specs.Transport.{IsTight}

module _ (n : ℕ) (d : ℕ → ℕ → ℕ) (most : ℕ → ℕ) (turn : ℕ) (u v flow demand order turns near via room : List ℕ) (free place by : ℕ) (within : free < n) (wanting : 1 ≤ get_or demand free 0) (tree : IsTree n d most turn u v flow demand order turns near via room) where
  -- a column that has still to take some stands off the tree
  pub free_off : get_or turns free 0 ≡ 0
  free_off = elim (cases_lt (get_or turns free 0) 1) [
    | inl off ↦ omega arith
    | inr joined ↦ (let none : get_or demand free 0 ≡ 0 = tree.satisfied free within joined in absurd (omega arith))
  ]

  -- a row of the tree has as much as is taken
  pub enough : (i : ℕ) → IsNearest n d u v turns near place by → i < n → 1 ≤ get_or order i 0 → by ≤ get_or u i 0
  enough i found row joined =
      let least : by + d (get_or near free 0) free ≤ get_or u (get_or near free 0) 0 + get_or v free 0 = found.least free within free_off in
      let none : get_or v free 0 ≡ 0 = tree.slack.free free within wanting in
      let nearest : get_or u (get_or near free 0) 0 + d i free ≤ get_or u i 0 + d (get_or near free 0) free = tree.growing.nearest i free row within joined free_off in
      omega arith

  -- a column of the tree stays within the limit
  pub limited : (j : ℕ) → IsNearest n d u v turns near place by → j < n → 1 ≤ get_or turns j 0 → get_or v j 0 + by ≤ longest_trip
  limited j found column joined =
      let less : by ≤ get_or u (get_or near j 0) 0 = enough (get_or near j 0) found (tree.growing.shape.near_row j column) (tree.growing.shape.near_joined j column) in
      let tight : get_or u (get_or near j 0) 0 + get_or v j 0 ≡ d (get_or near j 0) j = tree.linked j column joined in
      let short : d (get_or near j 0) j ≤ longest_trip = tree.feasible.short (get_or near j 0) j in
      omega arith

module _ (n : ℕ) (d : ℕ → ℕ → ℕ) (most : ℕ → ℕ) (turn : ℕ) (u v flow demand order turns near via room after_u after_v : List ℕ) (free place by : ℕ) (within : free < n) (wanting : 1 ≤ get_or demand free 0) (tree : IsTree n d most turn u v flow demand order turns near via room) (found : IsNearest n d u v turns near place by) (lowered : IsLowered order by u after_u) (raised : IsRaised turns by v after_v) where
  down : (i : ℕ) → i < n → 1 ≤ get_or order i 0 → get_or after_u i 0 + by ≡ get_or u i 0
  down i row joined = lowered.inside i (let size : length u ≡ n = tree.feasible.rows in omega arith) joined

  same_row : (i : ℕ) → i < n → get_or order i 0 ≡ 0 → get_or after_u i 0 ≡ get_or u i 0
  same_row i row out = lowered.outside i (let size : length u ≡ n = tree.feasible.rows in omega arith) out

  up : (j : ℕ) → j < n → 1 ≤ get_or turns j 0 → get_or after_v j 0 ≡ get_or v j 0 + by
  up j column joined = raised.inside j (let size : length v ≡ n = tree.feasible.columns in omega arith) joined

  same_column : (j : ℕ) → j < n → get_or turns j 0 ≡ 0 → get_or after_v j 0 ≡ get_or v j 0
  same_column j column off = raised.outside j (let size : length v ≡ n = tree.feasible.columns in omega arith) off

  -- what a row of the tree lacks to reach a column off it is at least what is taken
  lacking : (i j : ℕ) → i < n → j < n → 1 ≤ get_or order i 0 → get_or turns j 0 ≡ 0 → by + d i j ≤ get_or u i 0 + get_or v j 0
  lacking i j row column joined off =
      let least : by + d (get_or near j 0) j ≤ get_or u (get_or near j 0) 0 + get_or v j 0 = found.least j column off in
      let nearest : get_or u (get_or near j 0) 0 + d i j ≤ get_or u i 0 + d (get_or near j 0) j = tree.growing.nearest i j row column joined off in
      omega arith

  reached_after : (i j : ℕ) → i < n → j < n → d i j ≤ get_or after_u i 0 + get_or after_v j 0
  reached_after i j row column =
      let before : d i j ≤ get_or u i 0 + get_or v j 0 = tree.feasible.reached i j row column in
      elim (cases_lt (get_or turns j 0) 1) [
        | inl off ↦ (
            let still : get_or after_v j 0 ≡ get_or v j 0 = same_column j column (omega arith) in
            elim (cases_lt (get_or order i 0) 1) [
              | inl out ↦ (let same : get_or after_u i 0 ≡ get_or u i 0 = same_row i row (omega arith) in omega arith)
              | inr joined ↦ (
                  let less : get_or after_u i 0 + by ≡ get_or u i 0 = down i row joined in
                  let lacks : by + d i j ≤ get_or u i 0 + get_or v j 0 = lacking i j row column joined (omega arith) in
                  omega arith)
            ])
        | inr deep ↦ (
            let more : get_or after_v j 0 ≡ get_or v j 0 + by = up j column deep in
            elim (cases_lt (get_or order i 0) 1) [
              | inl out ↦ (let same : get_or after_u i 0 ≡ get_or u i 0 = same_row i row (omega arith) in omega arith)
              | inr joined ↦ (let less : get_or after_u i 0 + by ≡ get_or u i 0 = down i row joined in omega arith)
            ])
      ]

  small_row : (i : ℕ) → i < n → get_or after_u i 0 ≤ longest_trip
  small_row i row =
      let before : get_or u i 0 ≤ longest_trip = tree.feasible.small_rows i row in
      elim (cases_lt (get_or order i 0) 1) [
        | inl out ↦ (let same : get_or after_u i 0 ≡ get_or u i 0 = same_row i row (omega arith) in omega arith)
        | inr joined ↦ (let less : get_or after_u i 0 + by ≡ get_or u i 0 = down i row joined in omega arith)
      ]

  small_column : (j : ℕ) → j < n → get_or after_v j 0 ≤ longest_trip
  small_column j column =
      let before : get_or v j 0 ≤ longest_trip = tree.feasible.small_columns j column in
      elim (cases_lt (get_or turns j 0) 1) [
        | inl off ↦ (let same : get_or after_v j 0 ≡ get_or v j 0 = same_column j column (omega arith) in omega arith)
        | inr deep ↦ (
            let more : get_or after_v j 0 ≡ get_or v j 0 + by = up j column deep in
            let limit : get_or v j 0 + by ≤ longest_trip = limited n d most turn u v flow demand order turns near via room free place by within wanting tree j found column deep in
            omega arith)
      ]

  tight_after : (i j : ℕ) → i < n → j < n → 1 ≤ at n flow i j → IsTight d after_u after_v i j
  tight_after i j row column sends =
      let before : get_or u i 0 + get_or v j 0 ≡ d i j = tree.slack.tight i j row column sends in
      elim (cases_lt (get_or turns j 0) 1) [
        | inl off ↦ (
            let still : get_or after_v j 0 ≡ get_or v j 0 = same_column j column (omega arith) in
            elim (cases_lt (get_or order i 0) 1) [
              | inl out ↦ (let same : get_or after_u i 0 ≡ get_or u i 0 = same_row i row (omega arith) in omega arith)
              | inr joined ↦ (
                  let less : get_or after_u i 0 + by ≡ get_or u i 0 = down i row joined in
                  let lacks : by + d i j ≤ get_or u i 0 + get_or v j 0 = lacking i j row column joined (omega arith) in
                  omega arith)
            ])
        | inr deep ↦ (
            let more : get_or after_v j 0 ≡ get_or v j 0 + by = up j column deep in
            let less : get_or after_u i 0 + by ≡ get_or u i 0 = down i row (tree.closed i j row column deep sends) in
            omega arith)
      ]

  free_after : (j : ℕ) → j < n → 1 ≤ get_or demand j 0 → get_or after_v j 0 ≡ 0
  free_after j column wants =
      let before : get_or v j 0 ≡ 0 = tree.slack.free j column wants in
      elim (cases_lt (get_or turns j 0) 1) [
        | inl off ↦ (let same : get_or after_v j 0 ≡ get_or v j 0 = same_column j column (omega arith) in omega arith)
        | inr deep ↦ (let none : get_or demand j 0 ≡ 0 = tree.satisfied j column deep in absurd (omega arith))
      ]

  linked_after : (j : ℕ) → j < n → 1 ≤ get_or turns j 0 → IsTight d after_u after_v (get_or near j 0) j
  linked_after j column deep =
      let before : get_or u (get_or near j 0) 0 + get_or v j 0 ≡ d (get_or near j 0) j = tree.linked j column deep in
      let more : get_or after_v j 0 ≡ get_or v j 0 + by = up j column deep in
      let less : get_or after_u (get_or near j 0) 0 + by ≡ get_or u (get_or near j 0) 0 = down (get_or near j 0) (tree.growing.shape.near_row j column) (tree.growing.shape.near_joined j column) in
      omega arith

  nearest_after : (i j : ℕ) → i < n → j < n → 1 ≤ get_or order i 0 → get_or turns j 0 ≡ 0 → get_or after_u (get_or near j 0) 0 + d i j ≤ get_or after_u i 0 + d (get_or near j 0) j
  nearest_after i j row column joined off =
      let before : get_or u (get_or near j 0) 0 + d i j ≤ get_or u i 0 + d (get_or near j 0) j = tree.growing.nearest i j row column joined off in
      let less : get_or after_u (get_or near j 0) 0 + by ≡ get_or u (get_or near j 0) 0 = down (get_or near j 0) (tree.growing.shape.near_row j column) (tree.growing.shape.near_joined j column) in
      let less_i : get_or after_u i 0 + by ≡ get_or u i 0 = down i row joined in
      omega arith

  -- the tree stays one
  pub shifted_tree : IsTree n d most turn after_u after_v flow demand order turns near via room
  shifted_tree = record {
    feasible = record {
      short = tree.feasible.short;
      rows = (let size : length u ≡ n = tree.feasible.rows in let kept : length after_u ≡ length u = lowered.size in omega arith);
      columns = (let size : length v ≡ n = tree.feasible.columns in let kept : length after_v ≡ length v = raised.size in omega arith);
      reached = reached_after;
      small_rows = small_row;
      small_columns = small_column;
    };
    slack = record { tight = tight_after; free = free_after };
    cells = tree.cells;
    demands = tree.demands;
    growing = record {
      shape = tree.growing.shape;
      rooms = tree.growing.rooms;
      recent = tree.growing.recent;
      left = tree.growing.left;
      nearest = nearest_after;
    };
    first_room = tree.first_room;
    satisfied = tree.satisfied;
    linked = linked_after;
    closed = tree.closed;
  }

  -- the column is tight with its near row
  pub nearest_tight : IsTight d after_u after_v (get_or near place 0) place
  nearest_tight =
      let lacks : by + d (get_or near place 0) place ≡ get_or u (get_or near place 0) 0 + get_or v place 0 = found.lacks in
      let less : get_or after_u (get_or near place 0) 0 + by ≡ get_or u (get_or near place 0) 0 = down (get_or near place 0) (tree.growing.shape.near_row place found.within) (tree.growing.shape.near_joined place found.within) in
      let same : get_or after_v place 0 ≡ get_or v place 0 = same_column place found.within found.outside in
      omega arith

  -- the search has come to a column that has still to take some
  pub grown : 1 ≤ get_or demand place 0 → IsGrown n d most after_u after_v flow demand order turns near via room place
  grown wants = record {
    feasible = shifted_tree.feasible;
    slack = shifted_tree.slack;
    shape = tree.growing.shape;
    rooms = tree.growing.rooms;
    first_room = tree.first_room;
    linked = linked_after;
    within = found.within;
    wanting = wants;
    tight = nearest_tight;
  }
