-- Units are handed on, from row to row.
use Rattle.std.proofs.Common.{◌≡◌, ◌⊎◌, inl, inr, ℕ, ◌+◌, ◌-◌, ◌*◌, ◌<◌, ◌≤◌, List, length, get_or, sym, ◌∙◌, ap, subst, arith}
use Rattle.std.proofs.lemmas.Bool.{cases_eq}
use Rattle.helios_model.specs.Grid.{at, put}
use Rattle.weighted_plan.specs.Flows.{column_sum, row_sum}
use Rattle.weighted_plan.specs.Growing.{HaveRoom, IsShape}
use Rattle.weighted_plan.specs.Handing.{FlowsAlong, IsArc, IsHanded, IsHanding}
use Rattle.weighted_plan.specs.Weighted.{greatest_weight}
use Rattle.weighted_plan.proofs.Puts.{at_column_bounded, put_column, put_elsewhere, put_here, put_long, put_other_column, put_other_row, put_row}

-- the column takes from its near row
module _ (n : ℕ) (order turns near via room flow : List ℕ) (end amount : ℕ) (cells : length flow ≡ n * n) (within : end < n) (shape : IsShape n order turns near via room) where
  first : ℕ
  first = get_or near end 0

  pub first_fits : ((j : ℕ) → j < n → column_sum n flow j ≤ greatest_weight) → at n flow (get_or near end 0) end ≤ greatest_weight
  first_fits light =
      let below : at n flow (get_or near end 0) end ≤ column_sum n flow end = at_column_bounded n flow (get_or near end 0) end (shape.near_row end within) in
      let limit : column_sum n flow end ≤ greatest_weight = light end within in
      omega arith

  pub begun : HaveRoom n flow order via room → amount ≤ get_or room (get_or near end 0) 0
      → IsHanding n order turns near via room flow end amount (put n flow (get_or near end 0) end (at n flow (get_or near end 0) end + amount)) (get_or near end 0)
  unfolding first
  begun rooms fits =
      let row_in : first < n = shape.near_row end within in
      let more : ℕ = at n flow first end + amount in
      let here : at n (put n flow first end more) first end ≡ more = put_here n flow first end more cells row_in within in
      let elsewhere : (i j : ℕ) → j < n → ((i ≡ first) → (j ≡ end) → ⊥) → at n (put n flow first end more) i j ≡ at n flow i j = put_elsewhere n flow first end more cells row_in within in
      record {
        more = record {
          cells = put_long n flow first end more cells row_in within;
          row_more = (let all : row_sum n (put n flow first end more) first + at n flow first end ≡ row_sum n flow first + more = put_row n flow first end more cells row_in within in omega arith);
          rows = λ i i_in other. put_other_row n flow first end more cells row_in within i other;
          column_more = (let all : column_sum n (put n flow first end more) end + at n flow first end ≡ column_sum n flow end + more = put_column n flow first end more cells row_in within in omega arith);
          columns = λ j j_in other. put_other_column n flow first end more cells row_in within j j_in other;
        };
        along = λ i j row column sends. elim (cases_eq i first) [
          | inl same_row ↦ elim (cases_eq j end) [
            | inl same_column ↦ inr (same_row ∙ ap (λ c. get_or near c 0) (sym same_column), inr same_column)
            | inr other ↦ inl (let is : at n (put n flow first end more) i j ≡ at n flow i j = elsewhere i j column (λ r c. other c) in omega arith)
          ]
          | inr other ↦ inl (let is : at n (put n flow first end more) i j ≡ at n flow i j = elsewhere i j column (λ r c. other r) in omega arith)
        ];
        rooms = λ i row deep low. (
            let before : get_or room i 0 ≤ at n flow i (get_or via i 0) = rooms i row deep in
            let column : get_or via i 0 < n = shape.way_column i row deep in
            elim (cases_eq i first) [
              | inl same_row ↦ elim (cases_eq (get_or via i 0) end) [
                | inl same_column ↦ (
                    let was : at n flow i (get_or via i 0) ≡ at n flow first end = ap (λ c. at n flow i c) same_column ∙ ap (λ r. at n flow r end) same_row in
                    let is : at n (put n flow first end more) i (get_or via i 0) ≡ at n (put n flow first end more) first end = ap (λ c. at n (put n flow first end more) i c) same_column ∙ ap (λ r. at n (put n flow first end more) r end) same_row in
                    omega (arith, here))
                | inr other ↦ (let is : at n (put n flow first end more) i (get_or via i 0) ≡ at n flow i (get_or via i 0) = elsewhere i (get_or via i 0) column (λ r c. other c) in omega arith)
              ]
              | inr other ↦ (let is : at n (put n flow first end more) i (get_or via i 0) ≡ at n flow i (get_or via i 0) = elsewhere i (get_or via i 0) column (λ r c. other r) in omega arith)
            ]);
        within = row_in;
        joined = shape.near_joined end within;
        fits = fits;
      }

-- a row hands on to the row that is near to the column by way of which it joined
module _ (n : ℕ) (order turns near via room flow after : List ℕ) (end amount row : ℕ) (within : end < n) (shape : IsShape n order turns near via room) (handing : IsHanding n order turns near via room flow end amount after row) (deep : 2 ≤ get_or order row 0) where
  way : ℕ
  way = get_or via row 0

  next : ℕ
  next = get_or near (get_or via row 0) 0

  taken : List ℕ
  taken = put n after row (get_or via row 0) (at n after row (get_or via row 0) - amount)

  given : List ℕ
  given = put n (put n after row (get_or via row 0) (at n after row (get_or via row 0) - amount)) (get_or near (get_or via row 0) 0) (get_or via row 0) (at n (put n after row (get_or via row 0) (at n after row (get_or via row 0) - amount)) (get_or near (get_or via row 0) 0) (get_or via row 0) + amount)

  pub way_in : get_or via row 0 < n
  way_in = shape.way_column row handing.within deep

  pub enough : amount ≤ at n after row (get_or via row 0)
  enough =
      let fits : amount ≤ get_or room row 0 = handing.fits in
      let rooms : get_or room row 0 ≤ at n after row (get_or via row 0) = handing.rooms row handing.within deep (omega arith) in
      omega arith

  way_joined : get_or turns (get_or via row 0) 0 ≡ get_or order row 0
  way_joined = shape.way_joined row handing.within deep

  next_in : next < n
  unfolding next
  next_in = shape.near_row (get_or via row 0) way_in

  pub earlier : get_or order (get_or near (get_or via row 0) 0) 0 < get_or order row 0
  earlier = (let before : get_or order (get_or near (get_or via row 0) 0) 0 < get_or turns (get_or via row 0) 0 = shape.near_earlier (get_or via row 0) way_in (omega (arith, way_joined, deep)) in omega (arith, way_joined))

  apart : next ≡ row → ⊥
  unfolding next
  apart same = (let is : get_or order (get_or near (get_or via row 0) 0) 0 ≡ get_or order row 0 = ap (λ a. get_or order a 0) same in absurd (omega (arith, earlier)))

  taken_long : length taken ≡ n * n
  unfolding taken
  taken_long = put_long n after row (get_or via row 0) (at n after row (get_or via row 0) - amount) handing.more.cells handing.within way_in

  taken_here : at n taken row way ≡ at n after row way - amount
  unfolding taken way
  taken_here = put_here n after row (get_or via row 0) (at n after row (get_or via row 0) - amount) handing.more.cells handing.within way_in

  taken_elsewhere : (i j : ℕ) → j < n → ((i ≡ row) → (j ≡ way) → ⊥) → at n taken i j ≡ at n after i j
  unfolding taken way
  taken_elsewhere = put_elsewhere n after row (get_or via row 0) (at n after row (get_or via row 0) - amount) handing.more.cells handing.within way_in

  taken_row : row_sum n taken row + at n after row way ≡ row_sum n after row + (at n after row way - amount)
  unfolding taken way
  taken_row = put_row n after row (get_or via row 0) (at n after row (get_or via row 0) - amount) handing.more.cells handing.within way_in

  taken_column : column_sum n taken way + at n after row way ≡ column_sum n after way + (at n after row way - amount)
  unfolding taken way
  taken_column = put_column n after row (get_or via row 0) (at n after row (get_or via row 0) - amount) handing.more.cells handing.within way_in

  taken_other_row : (i : ℕ) → (i ≡ row → ⊥) → row_sum n taken i ≡ row_sum n after i
  unfolding taken
  taken_other_row = put_other_row n after row (get_or via row 0) (at n after row (get_or via row 0) - amount) handing.more.cells handing.within way_in

  taken_other_column : (j : ℕ) → j < n → (j ≡ way → ⊥) → column_sum n taken j ≡ column_sum n after j
  unfolding taken way
  taken_other_column = put_other_column n after row (get_or via row 0) (at n after row (get_or via row 0) - amount) handing.more.cells handing.within way_in

  given_long : length given ≡ n * n
  unfolding given taken way next
  given_long = put_long n taken next way (at n taken next way + amount) taken_long next_in way_in

  given_here : at n given next way ≡ at n taken next way + amount
  unfolding given taken next way
  given_here = put_here n taken next way (at n taken next way + amount) taken_long next_in way_in

  given_elsewhere : (i j : ℕ) → j < n → ((i ≡ next) → (j ≡ way) → ⊥) → at n given i j ≡ at n taken i j
  unfolding given taken next way
  given_elsewhere = put_elsewhere n taken next way (at n taken next way + amount) taken_long next_in way_in

  given_row : row_sum n given next + at n taken next way ≡ row_sum n taken next + (at n taken next way + amount)
  unfolding given taken next way
  given_row = put_row n taken next way (at n taken next way + amount) taken_long next_in way_in

  given_column : column_sum n given way + at n taken next way ≡ column_sum n taken way + (at n taken next way + amount)
  unfolding given taken next way
  given_column = put_column n taken next way (at n taken next way + amount) taken_long next_in way_in

  given_other_row : (i : ℕ) → (i ≡ next → ⊥) → row_sum n given i ≡ row_sum n taken i
  unfolding given taken next way
  given_other_row = put_other_row n taken next way (at n taken next way + amount) taken_long next_in way_in

  given_other_column : (j : ℕ) → j < n → (j ≡ way → ⊥) → column_sum n given j ≡ column_sum n taken j
  unfolding given taken next way
  given_other_column = put_other_column n taken next way (at n taken next way + amount) taken_long next_in way_in

  enough_way : amount ≤ at n after row way
  unfolding way
  enough_way = enough

  -- the row that hands on sends as much as at first
  row_back : row_sum n given row ≡ row_sum n flow row
  row_back =
      let one : row_sum n given row ≡ row_sum n taken row = given_other_row row (λ same. apart (sym same)) in
      let more : row_sum n after row ≡ row_sum n flow row + amount = handing.more.row_more in
      omega (arith, taken_row, enough_way)

  next_more : row_sum n given next ≡ row_sum n flow next + amount
  next_more =
      let one : row_sum n taken next ≡ row_sum n after next = taken_other_row next apart in
      let two : row_sum n after next ≡ row_sum n flow next = handing.more.rows next next_in apart in
      omega (arith, given_row)

  other_rows : (i : ℕ) → i < n → (i ≡ next → ⊥) → row_sum n given i ≡ row_sum n flow i
  other_rows i i_in other = elim (cases_eq i row) [
    | inl same ↦ ap (row_sum n given) same ∙ row_back ∙ sym (ap (row_sum n flow) same)
    | inr apart ↦ given_other_row i other ∙ taken_other_row i apart ∙ handing.more.rows i i_in apart
  ]

  -- no column takes more or less
  same_columns : (j : ℕ) → j < n → column_sum n given j ≡ column_sum n after j
  same_columns j column = elim (cases_eq j way) [
    | inl same ↦ (
        let is : column_sum n given j ≡ column_sum n given way = ap (column_sum n given) same in
        let was : column_sum n after j ≡ column_sum n after way = ap (column_sum n after) same in
        omega (arith, given_column, taken_column, enough_way))
    | inr other ↦ given_other_column j column other ∙ taken_other_column j column other
  ]

  taken_along : (i j : ℕ) → i < n → j < n → 1 ≤ at n taken i j → (1 ≤ at n flow i j) ⊎ IsArc turns near end i j
  taken_along i j i_in j_in sends = handing.along i j i_in j_in (elim (cases_eq i row) [
    | inl same_row ↦ elim (cases_eq j way) [
      | inl same_column ↦ (
          let is : at n taken i j ≡ at n taken row way = ap (λ c. at n taken i c) same_column ∙ ap (λ r. at n taken r way) same_row in
          let was : at n after i j ≡ at n after row way = ap (λ c. at n after i c) same_column ∙ ap (λ r. at n after r way) same_row in
          omega (arith, taken_here))
      | inr other ↦ (let is : at n taken i j ≡ at n after i j = taken_elsewhere i j j_in (λ r c. other c) in omega arith)
    ]
    | inr other ↦ (let is : at n taken i j ≡ at n after i j = taken_elsewhere i j j_in (λ r c. other r) in omega arith)
  ])

  given_along : FlowsAlong n turns near flow end given
  unfolding next way
  given_along i j i_in j_in sends = elim (cases_eq i next) [
    | inl same_row ↦ elim (cases_eq j way) [
      | inl same_column ↦ inr (
        same_row ∙ ap (λ c. get_or near c 0) (sym same_column),
        inl (let is : get_or turns j 0 ≡ get_or turns (get_or via row 0) 0 = ap (λ c. get_or turns c 0) same_column in omega (arith, way_joined, deep)),
      )
      | inr other ↦ taken_along i j i_in j_in (let is : at n given i j ≡ at n taken i j = given_elsewhere i j j_in (λ r c. other c) in omega arith)
    ]
    | inr other ↦ taken_along i j i_in j_in (let is : at n given i j ≡ at n taken i j = given_elsewhere i j j_in (λ r c. other r) in omega arith)
  ]

  -- rows that joined before have the room that they had
  rooms_before : (i : ℕ) → i < n → 2 ≤ get_or order i 0 → get_or order i 0 ≤ get_or order next 0 → get_or room i 0 ≤ at n given i (get_or via i 0)
  unfolding next
  rooms_before i i_in joined low =
      let column : get_or via i 0 < n = shape.way_column i i_in joined in
      let other : i ≡ row → ⊥ = λ same. (let is : get_or order i 0 ≡ get_or order row 0 = ap (λ a. get_or order a 0) same in absurd (omega (arith, earlier))) in
      let before : get_or room i 0 ≤ at n after i (get_or via i 0) = handing.rooms i i_in joined (omega (arith, earlier)) in
      let still : at n taken i (get_or via i 0) ≡ at n after i (get_or via i 0) = taken_elsewhere i (get_or via i 0) column (λ r c. other r) in
      elim (cases_eq i next) [
        | inl same_row ↦ elim (cases_eq (get_or via i 0) way) [
          | inl same_column ↦ (
              let is : at n given i (get_or via i 0) ≡ at n given next way = ap (λ c. at n given i c) same_column ∙ ap (λ r. at n given r way) same_row in
              let was : at n taken i (get_or via i 0) ≡ at n taken next way = ap (λ c. at n taken i c) same_column ∙ ap (λ r. at n taken r way) same_row in
              omega (arith, given_here))
          | inr apart_column ↦ (let is : at n given i (get_or via i 0) ≡ at n taken i (get_or via i 0) = given_elsewhere i (get_or via i 0) column (λ r c. apart_column c) in omega arith)
        ]
        | inr apart_row ↦ (let is : at n given i (get_or via i 0) ≡ at n taken i (get_or via i 0) = given_elsewhere i (get_or via i 0) column (λ r c. apart_row r) in omega arith)
      ]

  next_fits : amount ≤ get_or room next 0
  unfolding next
  next_fits =
      let fits : amount ≤ get_or room row 0 = handing.fits in
      let before : get_or room row 0 ≤ get_or room (get_or near (get_or via row 0) 0) 0 = shape.way_room row handing.within deep in
      omega arith

  next_joined : 1 ≤ get_or order next 0
  unfolding next
  next_joined = shape.near_joined (get_or via row 0) way_in

  -- the number of the next row fits
  pub next_bounded : ((j : ℕ) → j < n → column_sum n flow j ≤ greatest_weight) → amount ≤ greatest_weight
      → at n (put n after row (get_or via row 0) (at n after row (get_or via row 0) - amount)) (get_or near (get_or via row 0) 0) (get_or via row 0) + amount ≤ 3 * greatest_weight
  unfolding taken way next
  next_bounded light few =
      let below : at n taken next way ≤ column_sum n taken way = at_column_bounded n taken next way next_in in
      let limit : column_sum n flow (get_or via row 0) ≤ greatest_weight = light (get_or via row 0) way_in in
      let less : column_sum n taken way ≤ column_sum n after way = omega (arith, taken_column) in
      let most : column_sum n after (get_or via row 0) ≤ column_sum n flow (get_or via row 0) + amount = elim (cases_eq (get_or via row 0) end) [
        | inl same ↦ (
            let more : column_sum n after end ≡ column_sum n flow end + amount = handing.more.column_more in
            let is : column_sum n after (get_or via row 0) ≡ column_sum n after end = ap (column_sum n after) same in
            let was : column_sum n flow (get_or via row 0) ≡ column_sum n flow end = ap (column_sum n flow) same in
            omega arith)
        | inr other ↦ (let is : column_sum n after (get_or via row 0) ≡ column_sum n flow (get_or via row 0) = handing.more.columns (get_or via row 0) way_in other in omega arith)
      ] in
      omega arith

  next_handing : IsHanding n order turns near via room flow end amount given next
  next_handing = record {
    more = record {
      cells = given_long;
      row_more = next_more;
      rows = other_rows;
      column_more = same_columns end within ∙ handing.more.column_more;
      columns = λ j column other. same_columns j column ∙ handing.more.columns j column other;
    };
    along = given_along;
    rooms = rooms_before;
    within = next_in;
    joined = next_joined;
    fits = next_fits;
  }

  pub handed_on : IsHanding n order turns near via room flow end amount
      (put n (put n after row (get_or via row 0) (at n after row (get_or via row 0) - amount)) (get_or near (get_or via row 0) 0) (get_or via row 0) (at n (put n after row (get_or via row 0) (at n after row (get_or via row 0) - amount)) (get_or near (get_or via row 0) 0) (get_or via row 0) + amount))
      (get_or near (get_or via row 0) 0)
  unfolding given next
  handed_on = next_handing

-- the first row hands nothing on
pub ended : (n : ℕ) (order turns near via room flow after : List ℕ) (end amount row : ℕ) → get_or order row 0 ≤ 1 → IsHanding n order turns near via room flow end amount after row → IsHanded n order turns near room flow end amount after row
ended n order turns near via room flow after end amount row low handing =
    let joined : 1 ≤ get_or order row 0 = handing.joined in
    record {
      more = handing.more;
      along = handing.along;
      within = handing.within;
      first = (let is : get_or order row 0 ≡ 1 = omega arith in is);
      fits = handing.fits;
    }

-- the same, of rows and squares that are those
pub begun_as : (n : ℕ) (order turns near via room flow after : List ℕ) (end amount row : ℕ) → length flow ≡ n * n → end < n → IsShape n order turns near via room → HaveRoom n flow order via room → row ≡ get_or near end 0 → amount ≤ get_or room row 0
    → after ≡ put n flow row end (at n flow row end + amount) → IsHanding n order turns near via room flow end amount after row
begun_as n order turns near via room flow after end amount row cells within shape rooms row_is fits after_is =
    let P : ℕ → Type 0 = λ x. amount ≤ get_or room x 0 → IsHanding n order turns near via room flow end amount (put n flow x end (at n flow x end + amount)) x in
    let Q : List ℕ → Type 0 = λ xs. IsHanding n order turns near via room flow end amount xs row in
    subst Q (sym after_is) (subst P (sym row_is) (λ has. begun n order turns near via room flow end amount cells within shape rooms has) fits)

pub first_fits_as : (n : ℕ) (order turns near via room flow : List ℕ) (end row : ℕ) → end < n → IsShape n order turns near via room → ((j : ℕ) → j < n → column_sum n flow j ≤ greatest_weight) → row ≡ get_or near end 0 → at n flow row end ≤ greatest_weight
first_fits_as n order turns near via room flow end row within shape light row_is =
    let below : at n flow row end ≤ column_sum n flow end = at_column_bounded n flow row end (let in_rows : get_or near end 0 < n = shape.near_row end within in omega arith) in
    let limit : column_sum n flow end ≤ greatest_weight = light end within in
    omega arith

module _ (n : ℕ) (order turns near via room flow after : List ℕ) (end amount row column next : ℕ) (within : end < n) (shape : IsShape n order turns near via room) (handing : IsHanding n order turns near via room flow end amount after row) (deep : 2 ≤ get_or order row 0) (column_is : column ≡ get_or via row 0) (next_is : next ≡ get_or near column 0) where
  pub column_in : column < n
  column_in = (let before : get_or via row 0 < n = way_in n order turns near via room flow after end amount row within shape handing deep in omega (arith, column_is))

  pub next_row_in : next < n
  next_row_in = (let before : get_or near column 0 < n = shape.near_row column column_in in omega (arith, next_is))

  pub enough_as : amount ≤ at n after row column
  enough_as =
      let P : ℕ → Type 0 = λ x. amount ≤ at n after row x in
      subst P (sym column_is) (enough n order turns near via room flow after end amount row within shape handing deep)

  pub earlier_as : get_or order next 0 < get_or order row 0
  earlier_as =
      let P : ℕ → Type 0 = λ x. get_or order (get_or near x 0) 0 < get_or order row 0 in
      let Q : ℕ → Type 0 = λ x. get_or order x 0 < get_or order row 0 in
      subst Q (sym next_is) (subst P (sym column_is) (earlier n order turns near via room flow after end amount row within shape handing deep))

  pub next_bounded_as : (less : List ℕ) → less ≡ put n after row column (at n after row column - amount) → ((j : ℕ) → j < n → column_sum n flow j ≤ greatest_weight) → amount ≤ greatest_weight → at n less next column + amount ≤ 3 * greatest_weight
  next_bounded_as less less_is light few =
      let P : ℕ → Type 0 = λ x. at n (put n after row x (at n after row x - amount)) (get_or near x 0) x + amount ≤ 3 * greatest_weight in
      let Q : ℕ → Type 0 = λ x. at n (put n after row column (at n after row column - amount)) x column + amount ≤ 3 * greatest_weight in
      let R : List ℕ → Type 0 = λ xs. at n xs next column + amount ≤ 3 * greatest_weight in
      subst R (sym less_is) (subst Q (sym next_is) (subst P (sym column_is) (next_bounded n order turns near via room flow after end amount row within shape handing deep light few)))

  pub handed_on_as : (less made : List ℕ) → less ≡ put n after row column (at n after row column - amount) → made ≡ put n less next column (at n less next column + amount) → IsHanding n order turns near via room flow end amount made next
  handed_on_as less made less_is made_is =
      let F : ℕ → ℕ → List ℕ = λ c x. put n (put n after row c (at n after row c - amount)) x c (at n (put n after row c (at n after row c - amount)) x c + amount) in
      let P : ℕ → Type 0 = λ c. IsHanding n order turns near via room flow end amount (F c (get_or near c 0)) (get_or near c 0) in
      let Q : ℕ → Type 0 = λ x. IsHanding n order turns near via room flow end amount (F column x) x in
      let R : List ℕ → Type 0 = λ xs. IsHanding n order turns near via room flow end amount xs next in
      let is : made ≡ F column next = made_is ∙ ap (λ xs. put n xs next column (at n xs next column + amount)) less_is in
      subst R (sym is) (subst Q (sym next_is) (subst P (sym column_is) (handed_on n order turns near via room flow after end amount row within shape handing deep)))
