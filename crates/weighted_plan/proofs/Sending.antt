-- Units are sent along a tree, and the search goes on.
use Rattle.std.proofs.Common.{◌≡◌, inl, inr, ℕ, ◌+◌, ◌-◌, ◌*◌, ◌<◌, ◌≤◌, List, length, get_or, set, replicate, sym, ◌∙◌, ap, subst, arith, get_or-set_same, get_or-set_other, length-set}
use Rattle.std.specs.Prelude.{count_by, nat_eq, min, sum}
use Rattle.std.proofs.lemmas.Bool.{cases_lt, cases_eq}
use Rattle.std.proofs.lemmas.List.{length-replicate, get_or-replicate}
use Rattle.std.proofs.lemmas.List.Sums.{sum_by-set, count_by-le-length}
use Rattle.weighted_plan.specs.Flows.{column_sum, row_sum}
use Rattle.weighted_plan.specs.Growing.{IsGrown, IsShape, IsTree}
use Rattle.weighted_plan.specs.Handing.{IsHanded, IsSent}
use Rattle.weighted_plan.specs.Transport.{IsFeasible, IsFlowing, IsSlack, IsTight, IsTransport}

-- what a tree has room for and its last column has still to take
pub some_amount : (n : ℕ) (order turns near via room demand : List ℕ) (end : ℕ) → end < n → IsShape n order turns near via room → 1 ≤ get_or demand end 0 → 1 ≤ min (get_or room (get_or near end 0) 0) (get_or demand end 0)
some_amount n order turns near via room demand end within shape wants =
    let some : 1 ≤ get_or room (get_or near end 0) 0 = shape.some_room (get_or near end 0) (shape.near_row end within) (shape.near_joined end within) in
    omega arith

module _ (n : ℕ) (order turns near room flow after supply demand : List ℕ) (end amount row : ℕ) (supplies : length supply ≡ n) (demands : length demand ≡ n) (within : end < n) (first_room : (i : ℕ) → i < n → get_or order i 0 ≡ 1 → get_or room i 0 ≤ get_or supply i 0) (handed : IsHanded n order turns near room flow end amount after row) where
  -- the first row has so much to send
  pub supplied : amount ≤ get_or supply row 0
  supplied =
      let fits : amount ≤ get_or room row 0 = handed.fits in
      let most : get_or room row 0 ≤ get_or supply row 0 = first_room row handed.within handed.first in
      omega arith

  left : ℕ → ℕ
  left i = get_or (set supply row (get_or supply row 0 - amount)) i 0

  wanted : ℕ → ℕ
  wanted j = get_or (set demand end (get_or demand end 0 - amount)) j 0

  left_row : left row ≡ get_or supply row 0 - amount
  unfolding left
  left_row = get_or-set_same supply row (get_or supply row 0 - amount) 0 (let row_in : row < n = handed.within in omega arith)

  left_other : (i : ℕ) → (i ≡ row → ⊥) → left i ≡ get_or supply i 0
  unfolding left
  left_other i other = get_or-set_other supply row i (get_or supply row 0 - amount) 0 other

  wanted_end : wanted end ≡ get_or demand end 0 - amount
  unfolding wanted
  wanted_end = get_or-set_same demand end (get_or demand end 0 - amount) 0 (omega arith)

  wanted_other : (j : ℕ) → (j ≡ end → ⊥) → wanted j ≡ get_or demand j 0
  unfolding wanted
  wanted_other j other = get_or-set_other demand end j (get_or demand end 0 - amount) 0 other

  rows : amount ≤ get_or demand end 0 → (i : ℕ) → i < n → row_sum n after i + left i ≡ row_sum n flow i + get_or supply i 0
  rows enough i i_in = elim (cases_eq i row) [
    | inl same ↦ (
        let is : row_sum n after i ≡ row_sum n after row = ap (row_sum n after) same in
        let was : row_sum n flow i ≡ row_sum n flow row = ap (row_sum n flow) same in
        let left_is : left i ≡ left row = ap left same in
        let had : get_or supply i 0 ≡ get_or supply row 0 = ap (λ a. get_or supply a 0) same in
        let more : row_sum n after row ≡ row_sum n flow row + amount = handed.more.row_more in
        omega (arith, left_row, supplied))
    | inr other ↦ (
        let is : row_sum n after i ≡ row_sum n flow i = handed.more.rows i i_in other in
        let left_is : left i ≡ get_or supply i 0 = left_other i other in
        omega arith)
  ]

  columns : amount ≤ get_or demand end 0 → (j : ℕ) → j < n → column_sum n after j + wanted j ≡ column_sum n flow j + get_or demand j 0
  columns enough j j_in = elim (cases_eq j end) [
    | inl same ↦ (
        let is : column_sum n after j ≡ column_sum n after end = ap (column_sum n after) same in
        let was : column_sum n flow j ≡ column_sum n flow end = ap (column_sum n flow) same in
        let wanted_is : wanted j ≡ wanted end = ap wanted same in
        let had : get_or demand j 0 ≡ get_or demand end 0 = ap (λ c. get_or demand c 0) same in
        let more : column_sum n after end ≡ column_sum n flow end + amount = handed.more.column_more in
        omega (arith, wanted_end))
    | inr other ↦ (
        let is : column_sum n after j ≡ column_sum n flow j = handed.more.columns j j_in other in
        let wanted_is : wanted j ≡ get_or demand j 0 = wanted_other j other in
        omega arith)
  ]

  wanting : (j : ℕ) → j < n → 1 ≤ wanted j → 1 ≤ get_or demand j 0
  wanting j j_in wants = elim (cases_eq j end) [
    | inl same ↦ (
        let wanted_is : wanted j ≡ wanted end = ap wanted same in
        let had : get_or demand j 0 ≡ get_or demand end 0 = ap (λ c. get_or demand c 0) same in
        omega (arith, wanted_end))
    | inr other ↦ (let wanted_is : wanted j ≡ get_or demand j 0 = wanted_other j other in omega arith)
  ]

  less_left : sum (set supply row (get_or supply row 0 - amount)) + amount ≡ sum supply
  less_left =
      let all : sum (set supply row (get_or supply row 0 - amount)) + get_or supply row 0 ≡ sum supply + (get_or supply row 0 - amount) =
      sum_by-set (λ x. x) supply row (get_or supply row 0 - amount) 0 (let row_in : row < n = handed.within in omega arith) in
      omega (arith, supplied)

  less_wanted : amount ≤ get_or demand end 0 → sum (set demand end (get_or demand end 0 - amount)) + amount ≡ sum demand
  less_wanted enough =
      let all : sum (set demand end (get_or demand end 0 - amount)) + get_or demand end 0 ≡ sum demand + (get_or demand end 0 - amount) =
      sum_by-set (λ x. x) demand end (get_or demand end 0 - amount) 0 (omega arith) in
      omega arith

  pub is_sent : amount ≤ get_or demand end 0 → 1 ≤ amount → IsSent n turns near end flow supply demand after (set supply row (get_or supply row 0 - amount)) (set demand end (get_or demand end 0 - amount))
  unfolding left wanted
  is_sent enough some = record {
    cells = handed.more.cells;
    supplies = length-set supply row (get_or supply row 0 - amount) ∙ supplies;
    demands = length-set demand end (get_or demand end 0 - amount) ∙ demands;
    rows = rows enough;
    columns = columns enough;
    along = handed.along;
    wanting = wanting;
    even = (let wants : sum (set demand end (get_or demand end 0 - amount)) + amount ≡ sum demand = less_wanted enough in omega (arith, less_left));
    less = omega (arith, less_left, some);
  }

-- the state before the first turn: each row has the longest round trip and each column 0, and nothing flows
module _ (n row most : ℕ) (order turns near via room : List ℕ) (within : row < n) (some : 1 ≤ most) (orders : order ≡ set (replicate n 0) row 1) (no_turns : turns ≡ replicate n 0) (nears : near ≡ replicate n row) (ways : via ≡ replicate n 0) (rooms : room ≡ set (replicate n 0) row most) where
  long : length {A = ℕ} (replicate n 0) ≡ n
  long = length-replicate n 0

  order_row : get_or order row 0 ≡ 1
  order_row = ap (λ xs. get_or xs row 0) orders ∙ get_or-set_same (replicate n 0) row 1 0 (omega (arith, long, within))

  order_other : (i : ℕ) → i < n → (i ≡ row → ⊥) → get_or order i 0 ≡ 0
  order_other i i_in other = ap (λ xs. get_or xs i 0) orders ∙ get_or-set_other (replicate n 0) row i 1 0 other ∙ get_or-replicate n i 0 0 i_in

  one_row : (i : ℕ) → i < n → 1 ≤ get_or order i 0 → i ≡ row
  one_row i i_in joined = elim (cases_eq i row) [
    | inl same ↦ same
    | inr other ↦ (let is : get_or order i 0 ≡ 0 = order_other i i_in other in absurd (omega arith))
  ]

  flat : (i : ℕ) → i < n → 2 ≤ get_or order i 0 → ⊥
  flat i i_in deep = (let is : get_or order i 0 ≡ get_or order row 0 = ap (λ a. get_or order a 0) (one_row i i_in (omega arith)) in omega (arith, order_row))

  none_joined : (j : ℕ) → j < n → 1 ≤ get_or turns j 0 → ⊥
  none_joined j j_in joined = (let is : get_or turns j 0 ≡ 0 = ap (λ xs. get_or xs j 0) no_turns ∙ get_or-replicate n j 0 0 j_in in omega arith)

  near_is : (j : ℕ) → j < n → get_or near j 0 ≡ row
  near_is j j_in = ap (λ xs. get_or xs j 0) nears ∙ get_or-replicate n j row 0 j_in

  room_row : get_or room row 0 ≡ most
  room_row = ap (λ xs. get_or xs row 0) rooms ∙ get_or-set_same (replicate n 0) row most 0 (omega (arith, long, within))

  room_other : (i : ℕ) → i < n → (i ≡ row → ⊥) → get_or room i 0 ≡ 0
  room_other i i_in other = ap (λ xs. get_or xs i 0) rooms ∙ get_or-set_other (replicate n 0) row i most 0 other ∙ get_or-replicate n i 0 0 i_in

  -- no row has room for more than the first has to send
  pub planted_room : (supply : List ℕ) → most ≡ get_or supply row 0 → (i : ℕ) → i < n → get_or room i 0 ≤ get_or supply i 0
  planted_room supply is i i_in = elim (cases_eq i row) [
    | inl same ↦ (
        let room_is : get_or room i 0 ≡ get_or room row 0 = ap (λ a. get_or room a 0) same in
        let supply_is : get_or supply i 0 ≡ get_or supply row 0 = ap (λ a. get_or supply a 0) same in
        omega (arith, room_row))
    | inr other ↦ (let none : get_or room i 0 ≡ 0 = room_other i i_in other in omega arith)
  ]

  pub planted : (d : ℕ → ℕ → ℕ) (u v flow demand : List ℕ) → IsFeasible n d u v → IsSlack n d u v flow demand → length flow ≡ n * n → length demand ≡ n → IsTree n d (λ i. get_or room i 0) 2 u v flow demand order turns near via room
  planted d u v flow demand feasible slack cells demands = record {
    feasible = feasible;
    slack = slack;
    cells = cells;
    demands = demands;
    growing = record {
      shape = record {
        orders = ap length orders ∙ length-set (replicate n 0) row 1 ∙ long;
        columns = ap length no_turns ∙ long;
        nears = ap length nears ∙ length-replicate n row;
        ways = ap length ways ∙ long;
        rooms = ap length rooms ∙ length-set (replicate n 0) row most ∙ long;
        near_row = λ j j_in. (let is : get_or near j 0 ≡ row = near_is j j_in in omega (arith, within));
        near_joined = λ j j_in. (let is : get_or order (get_or near j 0) 0 ≡ get_or order row 0 = ap (λ a. get_or order a 0) (near_is j j_in) in omega (arith, order_row));
        near_earlier = λ j j_in joined. absurd (none_joined j j_in joined);
        way_column = λ i i_in deep. absurd (flat i i_in deep);
        way_joined = λ i i_in deep. absurd (flat i i_in deep);
        some_room = λ i i_in joined. (let is : get_or room i 0 ≡ get_or room row 0 = ap (λ a. get_or room a 0) (one_row i i_in joined) in omega (arith, room_row, some));
        way_room = λ i i_in deep. absurd (flat i i_in deep);
      };
      rooms = λ i i_in deep. absurd (flat i i_in deep);
      recent = λ i i_in. elim (cases_lt (get_or order i 0) 2) [ inl less ↦ less | inr deep ↦ absurd (flat i i_in deep) ];
      left = (
          let most_left : count_by (λ t. nat_eq t 0) turns ≤ length turns = count_by-le-length (λ t. nat_eq t 0) turns in
          let size : length turns ≡ n = ap length no_turns ∙ long in
          omega arith);
      nearest = λ i j i_in j_in joined off. (
          let root_near : get_or near j 0 ≡ i = near_is j j_in ∙ sym (one_row i i_in joined) in
          let P : ℕ → Type 0 = λ b. get_or u b 0 + d i j ≤ get_or u i 0 + d b j in
          subst P (sym root_near) (omega arith));
    };
    first_room = λ i i_in first. omega arith;
    satisfied = λ j j_in joined. absurd (none_joined j j_in joined);
    linked = λ j j_in joined. absurd (none_joined j j_in joined);
    closed = λ i j i_in j_in joined sends. absurd (none_joined j j_in joined);
  }

-- what was sent along a tree that has grown leaves a state of the search
pub next_transport : (n : ℕ) (d : ℕ → ℕ → ℕ) (most : ℕ → ℕ) (w u v flow supply demand order turns near via room flow' supply' demand' : List ℕ) (end : ℕ) → IsFlowing n w flow supply demand → IsGrown n d most u v flow demand order turns near via room end → IsSent n turns near end flow supply demand flow' supply' demand' → IsTransport n d w u v flow' supply' demand'
next_transport n d most w u v flow supply demand order turns near via room flow' supply' demand' end flowing grown sent = record {
  feasible = grown.feasible;
  slack = record {
    tight = λ i j row column sends. elim (sent.along i j row column sends) [
      | inl before ↦ grown.slack.tight i j row column before
      | inr arc ↦ (
          let P : ℕ → Type 0 = λ a. IsTight d u v a j in
          subst P (sym arc.0) (elim arc.1 [
            | inl joined ↦ grown.linked j column joined
            | inr last ↦ (let Q : ℕ → Type 0 = λ c. IsTight d u v (get_or near c 0) c in subst Q (sym last) grown.tight)
          ]))
    ];
    free = λ j column wants. grown.slack.free j column (sent.wanting j column wants);
  };
  flowing = record {
    cells = sent.cells;
    supplies = sent.supplies;
    demands = sent.demands;
    sent = λ i row. sent.rows i row ∙ flowing.sent i row;
    taken = λ j column. sent.columns j column ∙ flowing.taken j column;
    even = (
        let both : sum supply' + sum demand ≡ sum supply + sum demand' = sent.even in
        let before : sum supply ≡ sum demand = flowing.even in
        omega arith);
  };
}
