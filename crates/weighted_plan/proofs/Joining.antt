-- A column joins the tree, and the rows that send to it.
use Rattle.std.proofs.Common.{◌≡◌, ◌⊎◌, inl, inr, ℕ, ◌+◌, ◌<◌, ◌≤◌, cond, List, ◌++◌, length, get_or, set, take, refl, sym, ◌∙◌, ap, subst, arith, get_or-set_same, get_or-set_other, length-set}
use Rattle.std.specs.Prelude.{nat_eq}
use Rattle.std.proofs.lemmas.Bool.{cases_lt, cases_eq, eq-eqb, ne_eqb}
use Rattle.std.proofs.lemmas.List.{take-append-le, take_all}
use Rattle.std.proofs.lemmas.List.Sums.{sum_by-set}
use Rattle.helios_model.specs.Grid.{at}
use Rattle.weighted_plan.specs.Growing.{columns_left, IsCloser, IsExtended, IsGrowing, IsJoined, IsTree}
use Rattle.weighted_plan.specs.Transport.{IsTight}

-- one column less is left
pub fewer_left : (turns : List ℕ) (place turn : ℕ) → place < length turns → get_or turns place 0 ≡ 0 → 1 ≤ turn → columns_left (set turns place turn) + 1 ≡ columns_left turns
fewer_left turns place turn within off late =
    let counts : ℕ → ℕ = λ t. cond (nat_eq t 0) 1 0 in
    let was : counts (get_or turns place 0) ≡ 1 = ap (λ b. cond b 1 0) (eq-eqb (get_or turns place 0) 0 off) in
    let is : counts turn ≡ 0 = ap (λ b. cond b 1 0) (ne_eqb turn 0 (λ same. (omega arith))) in
    let all : columns_left (set turns place turn) + counts (get_or turns place 0) ≡ columns_left turns + counts turn = sum_by-set counts turns place turn 0 within in
    omega arith

-- what is written into the front of a list
pub written_back : (len : ℕ) (ys zs : List ℕ) → length ys ≡ len → take len (ys ++ zs) ≡ ys
written_back len ys zs size = take-append-le len ys zs (omega arith) ∙ take_all len ys (omega arith)

-- a column joins
module _ (n : ℕ) (d : ℕ → ℕ → ℕ) (turn : ℕ) (u flow order turns near via room : List ℕ) (place : ℕ) (late : 2 ≤ turn) (within : place < n) (off : get_or turns place 0 ≡ 0) (growing : IsGrowing n d turn u flow order turns near via room) where
  now : ℕ → ℕ
  now j = get_or (set turns place turn) j 0

  joins : now place ≡ turn
  unfolding now
  joins = get_or-set_same turns place turn 0 (let size : length turns ≡ n = growing.shape.columns in omega arith)

  others : (j : ℕ) → (j ≡ place → ⊥) → now j ≡ get_or turns j 0
  unfolding now
  others j other = get_or-set_other turns place j turn 0 other

  was_off : (j : ℕ) → now j ≡ 0 → get_or turns j 0 ≡ 0
  was_off j none = elim (cases_eq j place) [
    | inl same ↦ ap (λ c. get_or turns c 0) same ∙ off
    | inr other ↦ sym (others j other) ∙ none
  ]

  near_earlier : (j : ℕ) → j < n → 1 ≤ now j → get_or order (get_or near j 0) 0 < now j
  near_earlier j column joined = elim (cases_eq j place) [
    | inl same ↦ (
        let is : now j ≡ now place = ap now same in
        let recent : get_or order (get_or near j 0) 0 < turn = growing.recent (get_or near j 0) (growing.shape.near_row j column) in
        omega (arith, joins))
    | inr other ↦ (
        let is : now j ≡ get_or turns j 0 = others j other in
        let before : get_or order (get_or near j 0) 0 < get_or turns j 0 = growing.shape.near_earlier j column (omega arith) in
        omega arith)
  ]

  way_joined : (i : ℕ) → i < n → 2 ≤ get_or order i 0 → now (get_or via i 0) ≡ get_or order i 0
  way_joined i row deep =
      let before : get_or turns (get_or via i 0) 0 ≡ get_or order i 0 = growing.shape.way_joined i row deep in
      others (get_or via i 0) (λ same. (let none : get_or turns (get_or via i 0) 0 ≡ 0 = ap (λ c. get_or turns c 0) same ∙ off in absurd (omega arith))) ∙ before

  -- the tree with the column grows on
  pub column_joined : IsGrowing n d (turn + 1) u flow order (set turns place turn) near via room
  unfolding now
  column_joined = record {
    shape = record {
      orders = growing.shape.orders;
      columns = length-set turns place turn ∙ growing.shape.columns;
      nears = growing.shape.nears;
      ways = growing.shape.ways;
      rooms = growing.shape.rooms;
      near_row = growing.shape.near_row;
      near_joined = growing.shape.near_joined;
      near_earlier = near_earlier;
      way_column = growing.shape.way_column;
      way_joined = way_joined;
      some_room = growing.shape.some_room;
      way_room = growing.shape.way_room;
    };
    rooms = growing.rooms;
    recent = λ i row. (let before : get_or order i 0 < turn = growing.recent i row in omega arith);
    left = (
        let fewer : columns_left (set turns place turn) + 1 ≡ columns_left turns = fewer_left turns place turn (let size : length turns ≡ n = growing.shape.columns in omega arith) off (omega arith) in
        let before : turn + columns_left turns ≤ n + 2 = growing.left in
        omega arith);
    nearest = λ i j row column joined none. growing.nearest i j row column joined (was_off j none);
  }

-- a row joins by way of a column that joined in this turn
module _ (n : ℕ) (d : ℕ → ℕ → ℕ) (turn : ℕ) (u flow order turns near via room after : List ℕ) (place row has : ℕ) (late : 2 ≤ turn) (row_in : row < n) (place_in : place < n) (joining : get_or turns place 0 ≡ turn) (out : get_or order row 0 ≡ 0) (some : 1 ≤ has) (near_has : has ≤ get_or room (get_or near place 0) 0) (flow_has : has ≤ at n flow row place) (growing : IsGrowing n d (turn + 1) u flow order turns near via room) (extended : IsExtended d u turns row near after) where
  stands : ℕ → ℕ
  stands i = get_or (set order row turn) i 0

  way : ℕ → ℕ
  way i = get_or (set via row place) i 0

  space : ℕ → ℕ
  space i = get_or (set room row has) i 0

  stands_row : stands row ≡ turn
  unfolding stands
  stands_row = get_or-set_same order row turn 0 (let size : length order ≡ n = growing.shape.orders in omega arith)

  stands_other : (i : ℕ) → (i ≡ row → ⊥) → stands i ≡ get_or order i 0
  unfolding stands
  stands_other i other = get_or-set_other order row i turn 0 other

  way_row : way row ≡ place
  unfolding way
  way_row = get_or-set_same via row place 0 (let size : length via ≡ n = growing.shape.ways in omega arith)

  way_other : (i : ℕ) → (i ≡ row → ⊥) → way i ≡ get_or via i 0
  unfolding way
  way_other i other = get_or-set_other via row i place 0 other

  space_row : space row ≡ has
  unfolding space
  space_row = get_or-set_same room row has 0 (let size : length room ≡ n = growing.shape.rooms in omega arith)

  space_other : (i : ℕ) → (i ≡ row → ⊥) → space i ≡ get_or room i 0
  unfolding space
  space_other i other = get_or-set_other room row i has 0 other

  -- a row that was in the tree is another one
  was_there : (i : ℕ) → 1 ≤ get_or order i 0 → i ≡ row → ⊥
  was_there i joined same = (let is : get_or order i 0 ≡ get_or order row 0 = ap (λ a. get_or order a 0) same in absurd (omega (arith, out)))

  at_near : (j : ℕ) → j < n → j < length near
  at_near j column = (let size : length near ≡ n = growing.shape.nears in omega arith)

  inner : (j : ℕ) → j < n → 1 ≤ get_or turns j 0 → get_or after j 0 ≡ get_or near j 0
  inner j column joined = extended.inner j (at_near j column) joined

  chosen : (j : ℕ) → j < n → (get_or after j 0 ≡ get_or near j 0) ⊎ (get_or after j 0 ≡ row)
  chosen j column = elim (cases_lt (get_or turns j 0) 1) [
    | inl off ↦ extended.chosen j (at_near j column) (omega arith)
    | inr joined ↦ inl (inner j column joined)
  ]

  near_row : (j : ℕ) → j < n → get_or after j 0 < n
  near_row j column = elim (chosen j column) [
    | inl same ↦ (let before : get_or near j 0 < n = growing.shape.near_row j column in omega arith)
    | inr same ↦ omega (arith, row_in)
  ]

  near_joined : (j : ℕ) → j < n → 1 ≤ stands (get_or after j 0)
  near_joined j column = elim (chosen j column) [
    | inl same ↦ (
        let before : 1 ≤ get_or order (get_or near j 0) 0 = growing.shape.near_joined j column in
        let is : stands (get_or after j 0) ≡ stands (get_or near j 0) = ap stands same in
        let still : stands (get_or near j 0) ≡ get_or order (get_or near j 0) 0 = stands_other (get_or near j 0) (was_there (get_or near j 0) before) in
        omega arith)
    | inr same ↦ (let is : stands (get_or after j 0) ≡ stands row = ap stands same in omega (arith, stands_row, late))
  ]

  nearer_earlier : (j : ℕ) → j < n → 1 ≤ get_or turns j 0 → stands (get_or after j 0) < get_or turns j 0
  nearer_earlier j column joined =
      let before : get_or order (get_or near j 0) 0 < get_or turns j 0 = growing.shape.near_earlier j column joined in
      let is : stands (get_or after j 0) ≡ stands (get_or near j 0) = ap stands (inner j column joined) in
      let still : stands (get_or near j 0) ≡ get_or order (get_or near j 0) 0 = stands_other (get_or near j 0) (was_there (get_or near j 0) (growing.shape.near_joined j column)) in
      omega arith

  way_column : (i : ℕ) → i < n → 2 ≤ stands i → way i < n
  way_column i in_rows deep = elim (cases_eq i row) [
    | inl same ↦ (let is : way i ≡ way row = ap way same in omega (arith, way_row, place_in))
    | inr other ↦ (
        let is : stands i ≡ get_or order i 0 = stands_other i other in
        let before : get_or via i 0 < n = growing.shape.way_column i in_rows (omega arith) in
        let way_is : way i ≡ get_or via i 0 = way_other i other in
        omega arith)
  ]

  way_turned : (i : ℕ) → i < n → 2 ≤ stands i → get_or turns (way i) 0 ≡ stands i
  way_turned i in_rows deep = elim (cases_eq i row) [
    | inl same ↦ ap (λ a. get_or turns (way a) 0) same ∙ ap (λ c. get_or turns c 0) way_row ∙ joining ∙ sym stands_row ∙ sym (ap stands same)
    | inr other ↦ (
        let is : stands i ≡ get_or order i 0 = stands_other i other in
        ap (λ c. get_or turns c 0) (way_other i other) ∙ growing.shape.way_joined i in_rows (omega arith) ∙ sym is)
  ]

  some_room : (i : ℕ) → i < n → 1 ≤ stands i → 1 ≤ space i
  some_room i in_rows joined = elim (cases_eq i row) [
    | inl same ↦ (
        let is : space i ≡ space row = ap space same in
        omega (arith, space_row, some))
    | inr other ↦ (
        let is : stands i ≡ get_or order i 0 = stands_other i other in
        let before : 1 ≤ get_or room i 0 = growing.shape.some_room i in_rows (omega arith) in
        let space_is : space i ≡ get_or room i 0 = space_other i other in
        omega arith)
  ]

  -- the room of the row that is near to a column of the tree
  near_space : (j : ℕ) → j < n → 1 ≤ get_or turns j 0 → space (get_or after j 0) ≡ get_or room (get_or near j 0) 0
  near_space j column joined = ap space (inner j column joined) ∙ space_other (get_or near j 0) (was_there (get_or near j 0) (growing.shape.near_joined j column))

  way_room : (i : ℕ) → i < n → 2 ≤ stands i → space i ≤ space (get_or after (way i) 0)
  way_room i in_rows deep = elim (cases_eq i row) [
    | inl same ↦ (
        let is : space i ≡ space row = ap space same in
        let way_is : space (get_or after (way i) 0) ≡ space (get_or after place 0) = ap (λ a. space (get_or after (way a) 0)) same ∙ ap (λ c. space (get_or after c 0)) way_row in
        let near_is : space (get_or after place 0) ≡ get_or room (get_or near place 0) 0 = near_space place place_in (omega (arith, joining, late)) in
        omega (arith, space_row, near_has))
    | inr other ↦ (
        let is : stands i ≡ get_or order i 0 = stands_other i other in
        let way_in : get_or via i 0 < n = growing.shape.way_column i in_rows (omega arith) in
        let turn_is : get_or turns (get_or via i 0) 0 ≡ get_or order i 0 = growing.shape.way_joined i in_rows (omega arith) in
        let before : get_or room i 0 ≤ get_or room (get_or near (get_or via i 0) 0) 0 = growing.shape.way_room i in_rows (omega arith) in
        let space_is : space i ≡ get_or room i 0 = space_other i other in
        let way_is : space (get_or after (way i) 0) ≡ space (get_or after (get_or via i 0) 0) = ap (λ c. space (get_or after c 0)) (way_other i other) in
        let near_is : space (get_or after (get_or via i 0) 0) ≡ get_or room (get_or near (get_or via i 0) 0) 0 = near_space (get_or via i 0) way_in (omega arith) in
        omega arith)
  ]

  have_room : (i : ℕ) → i < n → 2 ≤ stands i → space i ≤ at n flow i (way i)
  have_room i in_rows deep = elim (cases_eq i row) [
    | inl same ↦ (
        let is : space i ≡ space row = ap space same in
        let units_is : at n flow i (way i) ≡ at n flow row place = ap (λ a. at n flow a (way a)) same ∙ ap (at n flow row) way_row in
        omega (arith, space_row, flow_has))
    | inr other ↦ (
        let is : stands i ≡ get_or order i 0 = stands_other i other in
        let before : get_or room i 0 ≤ at n flow i (get_or via i 0) = growing.rooms i in_rows (omega arith) in
        let space_is : space i ≡ get_or room i 0 = space_other i other in
        let units_is : at n flow i (way i) ≡ at n flow i (get_or via i 0) = ap (at n flow i) (way_other i other) in
        omega arith)
  ]

  recent : (i : ℕ) → i < n → stands i < turn + 1
  recent i in_rows = elim (cases_eq i row) [
    | inl same ↦ (let is : stands i ≡ stands row = ap stands same in omega (arith, stands_row))
    | inr other ↦ (
        let is : stands i ≡ get_or order i 0 = stands_other i other in
        let before : get_or order i 0 < turn + 1 = growing.recent i in_rows in
        omega arith)
  ]

  nearest : (i j : ℕ) → i < n → j < n → 1 ≤ stands i → get_or turns j 0 ≡ 0 → get_or u (get_or after j 0) 0 + d i j ≤ get_or u i 0 + d (get_or after j 0) j
  nearest i j in_rows column joined off = elim (cases_eq i row) [
    | inl same ↦ (let P : ℕ → Type 0 = λ b. IsCloser d u j (get_or after j 0) b in subst P (sym same) (extended.joining j (at_near j column) off))
    | inr other ↦ (
        let is : stands i ≡ get_or order i 0 = stands_other i other in
        let before : get_or u (get_or near j 0) 0 + d i j ≤ get_or u i 0 + d (get_or near j 0) j = growing.nearest i j in_rows column (omega arith) off in
        let closer : get_or u (get_or after j 0) 0 + d (get_or near j 0) j ≤ get_or u (get_or near j 0) 0 + d (get_or after j 0) j = extended.before j (at_near j column) off in
        omega arith)
  ]

  -- the tree with the row grows on
  pub joined_row : IsGrowing n d (turn + 1) u flow (set order row turn) turns after (set via row place) (set room row has)
  unfolding stands way space
  joined_row = record {
    shape = record {
      orders = length-set order row turn ∙ growing.shape.orders;
      columns = growing.shape.columns;
      nears = extended.size ∙ growing.shape.nears;
      ways = length-set via row place ∙ growing.shape.ways;
      rooms = length-set room row has ∙ growing.shape.rooms;
      near_row = near_row;
      near_joined = near_joined;
      near_earlier = nearer_earlier;
      way_column = way_column;
      way_joined = way_turned;
      some_room = some_room;
      way_room = way_room;
    };
    rooms = have_room;
    recent = recent;
    left = growing.left;
    nearest = nearest;
  }

  -- what was there stays
  pub row_joined : IsJoined n order turns near room (set order row turn) turns after (set room row has)
  unfolding stands space
  row_joined = record {
    same = refl;
    orders = λ i in_rows joined. stands_other i (was_there i joined);
    rooms = λ i in_rows joined. space_other i (was_there i joined);
    later = λ i in_rows first. elim (cases_eq i row) [
      | inl same ↦ (let is : stands i ≡ stands row = ap stands same in absurd (omega (arith, stands_row, late)))
      | inr other ↦ sym (stands_other i other) ∙ first
    ];
    nears = inner;
  }

  pub row_there : 1 ≤ get_or (set order row turn) row 0
  unfolding stands
  row_there = omega (arith, stands_row, late)

pub joined_none : (n : ℕ) (order turns near room : List ℕ) → IsJoined n order turns near room order turns near room
joined_none n order turns near room = record {
  same = refl;
  orders = λ i row joined. refl;
  rooms = λ i row joined. refl;
  later = λ i row first. first;
  nears = λ j column joined. refl;
}

-- rows that join after others
pub joined_more : (n : ℕ) (order turns near room order' turns' near' room' order'' turns'' near'' room'' : List ℕ) → IsJoined n order turns near room order' turns' near' room' → IsJoined n order' turns' near' room' order'' turns'' near'' room'' → IsJoined n order turns near room order'' turns'' near'' room''
joined_more n order turns near room order' turns' near' room' order'' turns'' near'' room'' first second = record {
  same = second.same ∙ first.same;
  orders = λ i row joined. (
      let is : get_or order' i 0 ≡ get_or order i 0 = first.orders i row joined in
      second.orders i row (omega arith) ∙ is);
  rooms = λ i row joined. (
      let is : get_or order' i 0 ≡ get_or order i 0 = first.orders i row joined in
      second.rooms i row (omega arith) ∙ first.rooms i row joined);
  later = λ i row is. first.later i row (second.later i row is);
  nears = λ j column joined. (
      let is : get_or turns' j 0 ≡ get_or turns j 0 = ap (λ xs. get_or xs j 0) first.same in
      second.nears j column (omega arith) ∙ first.nears j column joined);
}

-- the tree with a column and the rows that send to it
pub joined_tree : (n : ℕ) (d : ℕ → ℕ → ℕ) (most : ℕ → ℕ) (turn : ℕ) (u v flow demand order turns near via room order' turns' near' via' room' : List ℕ) (place : ℕ) → 2 ≤ turn → place < n → get_or turns place 0 ≡ 0 → get_or demand place 0 < 1 → IsTight d u v (get_or near place 0) place
    → IsTree n d most turn u v flow demand order turns near via room
    → IsGrowing n d (turn + 1) u flow order' turns' near' via' room'
    → IsJoined n order (set turns place turn) near room order' turns' near' room'
    → ((i : ℕ) → i < n → 1 ≤ at n flow i place → 1 ≤ get_or order' i 0)
    → IsTree n d most (turn + 1) u v flow demand order' turns' near' via' room'
joined_tree n d most turn u v flow demand order turns near via room order' turns' near' via' room' place late within off none tight tree growing joined sent =
    let size : length turns ≡ n = tree.growing.shape.columns in
    let there : get_or (set turns place turn) place 0 ≡ turn = get_or-set_same turns place turn 0 (omega arith) in
    let elsewhere : (j : ℕ) → (j ≡ place → ⊥) → get_or (set turns place turn) j 0 ≡ get_or turns j 0 = λ j other. get_or-set_other turns place j turn 0 other in
    let same : (j : ℕ) → get_or turns' j 0 ≡ get_or (set turns place turn) j 0 = λ j. ap (λ xs. get_or xs j 0) joined.same in
    let near_is : (j : ℕ) → j < n → 1 ≤ get_or turns' j 0 → get_or near' j 0 ≡ get_or near j 0 = λ j column deep. joined.nears j column (let is : get_or turns' j 0 ≡ get_or (set turns place turn) j 0 = same j in omega arith) in
    let before : (j : ℕ) → (j ≡ place → ⊥) → 1 ≤ get_or turns' j 0 → 1 ≤ get_or turns j 0 = λ j other deep. (let is : get_or turns' j 0 ≡ get_or turns j 0 = same j ∙ elsewhere j other in omega arith) in
    record {
      feasible = tree.feasible;
      slack = tree.slack;
      cells = tree.cells;
      demands = tree.demands;
      growing = growing;
      first_room = λ i row first. (
          let was : get_or order i 0 ≡ 1 = joined.later i row first in
          let is : get_or room' i 0 ≡ get_or room i 0 = joined.rooms i row (omega arith) in
          let limit : get_or room i 0 ≤ most i = tree.first_room i row was in
          omega arith);
      satisfied = λ j column deep. elim (cases_eq j place) [
        | inl here ↦ (let is : get_or demand j 0 ≡ get_or demand place 0 = ap (λ c. get_or demand c 0) here in omega arith)
        | inr other ↦ tree.satisfied j column (before j other deep)
      ];
      linked = λ j column deep. (
          let P : ℕ → Type 0 = λ b. IsTight d u v b j in
          subst P (sym (near_is j column deep)) (elim (cases_eq j place) [
            | inl here ↦ (let Q : ℕ → Type 0 = λ c. IsTight d u v (get_or near c 0) c in subst Q (sym here) tight)
            | inr other ↦ tree.linked j column (before j other deep)
          ]));
      closed = λ i j row column deep sends. elim (cases_eq j place) [
        | inl here ↦ sent i row (let is : at n flow i j ≡ at n flow i place = ap (at n flow i) here in omega arith)
        | inr other ↦ (
            let was : 1 ≤ get_or order i 0 = tree.closed i j row column (before j other deep) sends in
            let is : get_or order' i 0 ≡ get_or order i 0 = joined.orders i row was in
            omega arith)
      ];
    }
