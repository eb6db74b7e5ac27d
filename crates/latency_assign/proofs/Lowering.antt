-- A turn of the tree: its rows are lowered and its columns raised by what the nearest place lacks.
use Rattle.std.proofs.Common.{◌≡◌, inl, inr, ℕ, ◌+◌, ◌<◌, ◌≤◌, List, length, get_or, arith}
use Rattle.std.proofs.lemmas.Bool.{cases_lt}
use Rattle.helios_model.specs.Limits.{longest_trip}
use Rattle.latency_assign.specs.Search.{IsTight, IsTree, IsNearest, IsLowered, IsRaised, IsGrown}

-- a row of the tree has as much as is taken
pub enough : (n : ℕ) (d : ℕ → ℕ → ℕ) (k turn : ℕ) (u w s order near : List ℕ) (place by i : ℕ) → k < n → IsTree n d k turn u w s order near → IsNearest n d u w s order near place by → i < n → 1 ≤ get_or order i 0 → by ≤ get_or u i 0
enough n d k turn u w s order near place by i row tree found within joined =
    let root : get_or order k 0 ≡ 1 = tree.shape.root in
    let least : by + d (get_or near k 0) (get_or s k 0) ≤ get_or u (get_or near k 0) 0 + get_or w k 0 = found.least k row (omega arith) in
    let none : get_or w k 0 ≡ 0 = tree.matched.free k (omega arith) row in
    let nearest : get_or u (get_or near k 0) 0 + d i (get_or s k 0) ≤ get_or u i 0 + d (get_or near k 0) (get_or s k 0) = tree.nearest i k within row joined (omega arith) in
    omega arith

-- a column of the tree stays within the limit
pub room : (n : ℕ) (d : ℕ → ℕ → ℕ) (k turn : ℕ) (u w s order near : List ℕ) (place by q : ℕ) → k < n → IsTree n d k turn u w s order near → IsNearest n d u w s order near place by → q < n → 2 ≤ get_or order q 0 → get_or w q 0 + by ≤ longest_trip
room n d k turn u w s order near place by q row tree found within joined =
    let less : by ≤ get_or u q 0 = enough n d k turn u w s order near place by q row tree found within (omega arith) in
    let tight : get_or u q 0 + get_or w q 0 ≡ d q (get_or s q 0) = tree.matched.tight q (tree.shape.inner q within joined) within in
    let short : d q (get_or s q 0) ≤ longest_trip = tree.matched.feasible.short q (get_or s q 0) in
    omega arith

module _ (n : ℕ) (d : ℕ → ℕ → ℕ) (k turn : ℕ) (u w s order near after_u after_w : List ℕ) (place by : ℕ) (row : k < n) (tree : IsTree n d k turn u w s order near) (found : IsNearest n d u w s order near place by) (lowered : IsLowered order by u after_u) (raised : IsRaised order by w after_w) where
  down : (i : ℕ) → i < n → 1 ≤ get_or order i 0 → get_or after_u i 0 + by ≡ get_or u i 0
  down i within joined = lowered.inside i (let size : length u ≡ n = tree.matched.feasible.rows in omega arith) joined

  same_row : (i : ℕ) → i < n → get_or order i 0 ≡ 0 → get_or after_u i 0 ≡ get_or u i 0
  same_row i within out = lowered.outside i (let size : length u ≡ n = tree.matched.feasible.rows in omega arith) out

  up : (q : ℕ) → q < n → 2 ≤ get_or order q 0 → get_or after_w q 0 ≡ get_or w q 0 + by
  up q within joined = raised.inside q (let size : length w ≡ n = tree.matched.feasible.places in omega arith) joined

  same_place : (q : ℕ) → q < n → get_or order q 0 ≤ 1 → get_or after_w q 0 ≡ get_or w q 0
  same_place q within out = raised.outside q (let size : length w ≡ n = tree.matched.feasible.places in omega arith) out

  reached_off : (i q : ℕ) → i < n → q < n → 1 ≤ get_or order i 0 → get_or order q 0 ≤ 1 → d i (get_or s q 0) ≤ get_or after_u i 0 + get_or after_w q 0
  reached_off i q row_in place_in joined off =
      let least : by + d (get_or near q 0) (get_or s q 0) ≤ get_or u (get_or near q 0) 0 + get_or w q 0 = found.least q place_in off in
      let nearest : get_or u (get_or near q 0) 0 + d i (get_or s q 0) ≤ get_or u i 0 + d (get_or near q 0) (get_or s q 0) = tree.nearest i q row_in place_in joined off in
      let less : get_or after_u i 0 + by ≡ get_or u i 0 = down i row_in joined in
      let same : get_or after_w q 0 ≡ get_or w q 0 = same_place q place_in off in
      omega arith

  reached_after : (i q : ℕ) → i < n → q < n → d i (get_or s q 0) ≤ get_or after_u i 0 + get_or after_w q 0
  reached_after i q row_in place_in =
      let before : d i (get_or s q 0) ≤ get_or u i 0 + get_or w q 0 = tree.matched.feasible.reached i q row_in place_in in
      elim (cases_lt (get_or order q 0) 2) [
        | inl off ↦ elim (cases_lt (get_or order i 0) 1) [
          | inl out ↦ (
              let same : get_or after_u i 0 ≡ get_or u i 0 = same_row i row_in (omega arith) in
              let still : get_or after_w q 0 ≡ get_or w q 0 = same_place q place_in (omega arith) in
              omega arith)
          | inr joined ↦ reached_off i q row_in place_in joined (omega arith)
        ]
        | inr deep ↦ (
            let more : get_or after_w q 0 ≡ get_or w q 0 + by = up q place_in deep in
            elim (cases_lt (get_or order i 0) 1) [
              | inl out ↦ (let same : get_or after_u i 0 ≡ get_or u i 0 = same_row i row_in (omega arith) in omega arith)
              | inr joined ↦ (let less : get_or after_u i 0 + by ≡ get_or u i 0 = down i row_in joined in omega arith)
            ])
      ]

  small_row : (i : ℕ) → i < n → get_or after_u i 0 ≤ longest_trip
  small_row i within =
      let before : get_or u i 0 ≤ longest_trip = tree.matched.feasible.small_rows i within in
      elim (cases_lt (get_or order i 0) 1) [
        | inl out ↦ (let same : get_or after_u i 0 ≡ get_or u i 0 = same_row i within (omega arith) in omega arith)
        | inr joined ↦ (let less : get_or after_u i 0 + by ≡ get_or u i 0 = down i within joined in omega arith)
      ]

  small_place : (q : ℕ) → q < n → get_or after_w q 0 ≤ longest_trip
  small_place q within =
      let before : get_or w q 0 ≤ longest_trip = tree.matched.feasible.small_places q within in
      elim (cases_lt (get_or order q 0) 2) [
        | inl off ↦ (let same : get_or after_w q 0 ≡ get_or w q 0 = same_place q within (omega arith) in omega arith)
        | inr deep ↦ (
            let more : get_or after_w q 0 ≡ get_or w q 0 + by = up q within deep in
            let most : get_or w q 0 + by ≤ longest_trip = room n d k turn u w s order near place by q row tree found within deep in
            omega arith)
      ]

  tight_after : (i : ℕ) → i < k → i < n → IsTight d after_u after_w s i i
  tight_after i early within =
      let before : get_or u i 0 + get_or w i 0 ≡ d i (get_or s i 0) = tree.matched.tight i early within in
      elim (cases_lt (get_or order i 0) 2) [
        | inl off ↦ elim (cases_lt (get_or order i 0) 1) [
          | inl out ↦ (
              let same : get_or after_u i 0 ≡ get_or u i 0 = same_row i within (omega arith) in
              let still : get_or after_w i 0 ≡ get_or w i 0 = same_place i within (omega arith) in
              omega arith)
          | inr joined ↦ (let root : i ≡ k = tree.shape.only_root i within (omega arith) in absurd (omega arith))
        ]
        | inr deep ↦ (
            let more : get_or after_w i 0 ≡ get_or w i 0 + by = up i within deep in
            let less : get_or after_u i 0 + by ≡ get_or u i 0 = down i within (omega arith) in
            omega arith)
      ]

  free_after : (q : ℕ) → k ≤ q → q < n → get_or after_w q 0 ≡ 0
  free_after q late within =
      let before : get_or w q 0 ≡ 0 = tree.matched.free q late within in
      elim (cases_lt (get_or order q 0) 2) [
        | inl off ↦ (let same : get_or after_w q 0 ≡ get_or w q 0 = same_place q within (omega arith) in omega arith)
        | inr deep ↦ (let early : q < k = tree.shape.inner q within deep in absurd (omega arith))
      ]

  linked_after : (q : ℕ) → q < n → 2 ≤ get_or order q 0 → IsTight d after_u after_w s (get_or near q 0) q
  linked_after q within deep =
      let before : get_or u (get_or near q 0) 0 + get_or w q 0 ≡ d (get_or near q 0) (get_or s q 0) = tree.linked q within deep in
      let more : get_or after_w q 0 ≡ get_or w q 0 + by = up q within deep in
      let less : get_or after_u (get_or near q 0) 0 + by ≡ get_or u (get_or near q 0) 0 = down (get_or near q 0) (tree.shape.within q within) (tree.shape.joined q within) in
      omega arith

  nearest_after : (a q : ℕ) → a < n → q < n → 1 ≤ get_or order a 0 → get_or order q 0 ≤ 1 → get_or after_u (get_or near q 0) 0 + d a (get_or s q 0) ≤ get_or after_u a 0 + d (get_or near q 0) (get_or s q 0)
  nearest_after a q row_in place_in joined off =
      let before : get_or u (get_or near q 0) 0 + d a (get_or s q 0) ≤ get_or u a 0 + d (get_or near q 0) (get_or s q 0) = tree.nearest a q row_in place_in joined off in
      let less : get_or after_u (get_or near q 0) 0 + by ≡ get_or u (get_or near q 0) 0 = down (get_or near q 0) (tree.shape.within q place_in) (tree.shape.joined q place_in) in
      let less_a : get_or after_u a 0 + by ≡ get_or u a 0 = down a row_in joined in
      omega arith

  -- the tree stays one
  pub lowered_tree : IsTree n d k turn after_u after_w s order near
  lowered_tree = record {
    matched = record {
      feasible = record {
        short = tree.matched.feasible.short;
        rows = (let size : length u ≡ n = tree.matched.feasible.rows in let kept : length after_u ≡ length u = lowered.size in omega arith);
        places = (let size : length w ≡ n = tree.matched.feasible.places in let kept : length after_w ≡ length w = raised.size in omega arith);
        columns = tree.matched.feasible.columns;
        permutation = tree.matched.feasible.permutation;
        below = tree.matched.feasible.below;
        reached = reached_after;
        small_rows = small_row;
        small_places = small_place;
      };
      tight = tight_after;
      free = free_after;
    };
    shape = tree.shape;
    recent = tree.recent;
    left = tree.left;
    linked = linked_after;
    nearest = nearest_after;
  }

  -- the place is tight with its near row
  pub nearest_tight : IsTight d after_u after_w s (get_or near place 0) place
  nearest_tight =
      let lacks : by + d (get_or near place 0) (get_or s place 0) ≡ get_or u (get_or near place 0) 0 + get_or w place 0 = found.lacks in
      let less : get_or after_u (get_or near place 0) 0 + by ≡ get_or u (get_or near place 0) 0 = down (get_or near place 0) (tree.shape.within place found.within) (tree.shape.joined place found.within) in
      let same : get_or after_w place 0 ≡ get_or w place 0 = same_place place found.within found.outside in
      omega arith

  -- the search has come to a free column
  pub grown : k ≤ place → IsGrown n d k after_u after_w s order near place
  grown free = record {
    matched = lowered_tree.matched;
    shape = tree.shape;
    linked = linked_after;
    free = free;
    within = found.within;
    tight = nearest_tight;
  }
