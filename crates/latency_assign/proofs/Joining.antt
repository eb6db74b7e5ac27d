-- A column joins the tree, and its partner with it.
use Rattle.std.proofs.Common.{◌≡◌, ◌⊎◌, inl, inr, ℕ, ◌+◌, ◌<◌, ◌≤◌, cond, List, length, get_or, set, replicate, sym, ◌∙◌, ap, subst, arith, get_or-set_same, get_or-set_other, length-set}
use Rattle.std.specs.Prelude.{nat_le}
use Rattle.std.proofs.lemmas.Bool.{cases_lt, cases_eq, le-leb, lt-leb}
use Rattle.std.proofs.lemmas.List.{length-replicate, get_or-replicate}
use Rattle.std.proofs.lemmas.List.Sums.{sum_by-set, count_by-le-length}
use Rattle.latency_assign.specs.Search.{IsTight, IsCloser, IsMatched, IsTree, IsExtended, columns_left}

-- one column less is left
pub fewer_left : (order : List ℕ) (place turn : ℕ) → place < length order → get_or order place 0 ≤ 1 → 2 ≤ turn → columns_left (set order place turn) + 1 ≡ columns_left order
fewer_left order place turn within off late =
    let counts : ℕ → ℕ = λ o. cond (nat_le o 1) 1 0 in
    let was : counts (get_or order place 0) ≡ 1 = ap (λ b. cond b 1 0) (le-leb (get_or order place 0) 1 off) in
    let is : counts turn ≡ 0 = ap (λ b. cond b 1 0) (lt-leb turn 1 (omega arith)) in
    let all : columns_left (set order place turn) + counts (get_or order place 0) ≡ columns_left order + counts turn = sum_by-set counts order place turn 0 within in
    omega arith

module _ (n : ℕ) (d : ℕ → ℕ → ℕ) (k turn : ℕ) (u w s order near after : List ℕ) (place : ℕ) (row : k < n) (tree : IsTree n d k turn u w s order near) (within : place < n) (off : get_or order place 0 ≤ 1) (early : place < k) (tight : IsTight d u w s (get_or near place 0) place) (extended : IsExtended d u s (set order place turn) place near after) where
  now : ℕ → ℕ
  now a = get_or (set order place turn) a 0

  size : length order ≡ n
  size = tree.shape.orders

  joins : now place ≡ turn
  unfolding now
  joins = get_or-set_same order place turn 0 (omega (arith, size))

  others : (a : ℕ) → (a ≡ place → ⊥) → now a ≡ get_or order a 0
  unfolding now
  others a other = get_or-set_other order place a turn 0 other

  late : 2 ≤ turn
  late = (let root : get_or order k 0 ≡ 1 = tree.shape.root in let recent : get_or order k 0 < turn = tree.recent k row in omega arith)

  was_out : get_or order place 0 ≡ 0
  was_out = elim (cases_eq (get_or order place 0) 1) [
    | inl one ↦ (let root : place ≡ k = tree.shape.only_root place within one in absurd (omega arith))
    | inr other ↦ omega arith
  ]

  -- a row that was in the tree keeps its order
  kept : (a : ℕ) → 1 ≤ get_or order a 0 → now a ≡ get_or order a 0
  kept a joined = others a (λ same. (let is : get_or order a 0 ≡ get_or order place 0 = ap (λ b. get_or order b 0) same in absurd (omega (arith, was_out))))

  -- a column off the tree is another one, and was off it
  was_off : (q : ℕ) → now q ≤ 1 → (q ≡ place → ⊥) × (get_or order q 0 ≤ 1)
  was_off q low = elim (cases_eq q place) [
    | inl same ↦ (let is : now q ≡ now place = ap now same in absurd (omega (arith, joins, late)))
    | inr other ↦ (other, (let is : now q ≡ get_or order q 0 = others q other in omega arith))
  ]

  near_size : length near ≡ n
  near_size = tree.shape.nears

  at_near : (q : ℕ) → q < n → q < length near
  at_near q low = omega (arith, near_size)

  inner_near : (q : ℕ) → q < n → 2 ≤ now q → get_or after q 0 ≡ get_or near q 0
  unfolding now
  inner_near q low deep = extended.inner q (at_near q low) deep

  chosen : (q : ℕ) → q < n → (get_or after q 0 ≡ get_or near q 0) ⊎ (get_or after q 0 ≡ place)
  unfolding now
  chosen q low = elim (cases_lt (now q) 2) [
    | inl shallow ↦ extended.chosen q (at_near q low) (omega arith)
    | inr deep ↦ inl (inner_near q low deep)
  ]

  joined_after : (q : ℕ) → q < n → 1 ≤ now (get_or after q 0)
  joined_after q low = elim (chosen q low) [
    | inl same ↦ (
        let before : 1 ≤ get_or order (get_or near q 0) 0 = tree.shape.joined q low in
        let still : now (get_or near q 0) ≡ get_or order (get_or near q 0) 0 = kept (get_or near q 0) before in
        let is : now (get_or after q 0) ≡ now (get_or near q 0) = ap now same in
        omega arith)
    | inr same ↦ (let is : now (get_or after q 0) ≡ now place = ap now same in omega (arith, joins, late))
  ]

  within_after : (q : ℕ) → q < n → get_or after q 0 < n
  within_after q low = elim (chosen q low) [
    | inl same ↦ (let before : get_or near q 0 < n = tree.shape.within q low in omega arith)
    | inr same ↦ omega (arith, within)
  ]

  earlier_after : (q : ℕ) → q < n → 2 ≤ now q → now (get_or after q 0) < now q
  earlier_after q low deep =
      let same : now (get_or after q 0) ≡ now (get_or near q 0) = ap now (inner_near q low deep) in
      let before : 1 ≤ get_or order (get_or near q 0) 0 = tree.shape.joined q low in
      let still : now (get_or near q 0) ≡ get_or order (get_or near q 0) 0 = kept (get_or near q 0) before in
      elim (cases_eq q place) [
        | inl here ↦ (
            let is : now q ≡ now place = ap now here in
            let recent : get_or order (get_or near q 0) 0 < turn = tree.recent (get_or near q 0) (tree.shape.within q low) in
            omega (arith, joins))
        | inr other ↦ (
            let is : now q ≡ get_or order q 0 = others q other in
            let less : get_or order (get_or near q 0) 0 < get_or order q 0 = tree.shape.earlier q low (omega arith) in
            omega arith)
      ]

  only_root_after : (a : ℕ) → a < n → now a ≡ 1 → a ≡ k
  only_root_after a low one = tree.shape.only_root a low (sym (others a (was_off a (omega arith)).0) ∙ one)

  inner_after : (a : ℕ) → a < n → 2 ≤ now a → a < k
  inner_after a low deep = elim (cases_eq a place) [
    | inl here ↦ omega (arith, early)
    | inr other ↦ (let is : now a ≡ get_or order a 0 = others a other in tree.shape.inner a low (omega arith))
  ]

  recent_after : (a : ℕ) → a < n → now a < turn + 1
  recent_after a low = elim (cases_eq a place) [
    | inl here ↦ (let is : now a ≡ now place = ap now here in omega (arith, joins))
    | inr other ↦ (
        let is : now a ≡ get_or order a 0 = others a other in
        let recent : get_or order a 0 < turn = tree.recent a low in
        omega arith)
  ]

  linked_after : (q : ℕ) → q < n → 2 ≤ now q → IsTight d u w s (get_or after q 0) q
  linked_after q low deep =
      let P : ℕ → Type 0 = λ b. IsTight d u w s b q in
      subst P (sym (inner_near q low deep)) (elim (cases_eq q place) [
        | inl here ↦ (let Q : ℕ → Type 0 = λ b. IsTight d u w s (get_or near b 0) b in subst Q (sym here) tight)
        | inr other ↦ (let is : now q ≡ get_or order q 0 = others q other in tree.linked q low (omega arith))
      ])

  nearest_after : (a q : ℕ) → a < n → q < n → 1 ≤ now a → now q ≤ 1 → get_or u (get_or after q 0) 0 + d a (get_or s q 0) ≤ get_or u a 0 + d (get_or after q 0) (get_or s q 0)
  unfolding now
  nearest_after a q row_in place_in joined low = elim (cases_eq a place) [
    | inl here ↦ (let P : ℕ → Type 0 = λ b. IsCloser d u (get_or s q 0) (get_or after q 0) b in subst P (sym here) (extended.joining q (at_near q place_in) low))
    | inr other ↦ (
        let is : now a ≡ get_or order a 0 = others a other in
        let before : get_or u (get_or near q 0) 0 + d a (get_or s q 0) ≤ get_or u a 0 + d (get_or near q 0) (get_or s q 0) = tree.nearest a q row_in place_in (omega arith) (was_off q low).1 in
        let closer : get_or u (get_or after q 0) 0 + d (get_or near q 0) (get_or s q 0) ≤ get_or u (get_or near q 0) 0 + d (get_or after q 0) (get_or s q 0) = extended.before q (at_near q place_in) low in
        omega arith)
  ]

  root_after : now k ≡ 1
  root_after = others k (λ same. absurd (omega (arith, early))) ∙ tree.shape.root

  -- the tree with the column is one
  pub joined_tree : IsTree n d k (turn + 1) u w s (set order place turn) after
  unfolding now
  joined_tree = record {
    matched = tree.matched;
    shape = record {
      orders = length-set order place turn ∙ size;
      nears = extended.size ∙ near_size;
      root = root_after;
      only_root = only_root_after;
      inner = inner_after;
      within = within_after;
      joined = joined_after;
      earlier = earlier_after;
    };
    recent = recent_after;
    left = (
        let fewer : columns_left (set order place turn) + 1 ≡ columns_left order = fewer_left order place turn (omega (arith, size)) off late in
        let before : turn + columns_left order ≤ n + 2 = tree.left in
        omega arith);
    linked = linked_after;
    nearest = nearest_after;
  }

-- the row alone has joined
one_row : (n k : ℕ) (order : List ℕ) → ((a : ℕ) → a < n → (a ≡ k → ⊥) → get_or order a 0 ≡ 0) → (a : ℕ) → a < n → 1 ≤ get_or order a 0 → a ≡ k
one_row n k order others a low joined = elim (cases_eq a k) [
  | inl same ↦ same
  | inr other ↦ (let is : get_or order a 0 ≡ 0 = others a low other in absurd (omega arith))
]

flat : (n k : ℕ) (order : List ℕ) → get_or order k 0 ≡ 1 → ((a : ℕ) → a < n → (a ≡ k → ⊥) → get_or order a 0 ≡ 0) → (a : ℕ) → a < n → 2 ≤ get_or order a 0 → ⊥
flat n k order root others a low deep = (let is : get_or order a 0 ≡ get_or order k 0 = ap (λ b. get_or order b 0) (one_row n k order others a low (omega arith)) in omega arith)

tree_of_one_row : (n : ℕ) (d : ℕ → ℕ → ℕ) (k : ℕ) (u w s order near : List ℕ) → k < n → IsMatched n d k u w s → length order ≡ n → length near ≡ n → get_or order k 0 ≡ 1 → ((a : ℕ) → a < n → (a ≡ k → ⊥) → get_or order a 0 ≡ 0) → ((q : ℕ) → q < n → get_or near q 0 ≡ k) → IsTree n d k 2 u w s order near
tree_of_one_row n d k u w s order near row matched orders nears root others all_near = record {
  matched = matched;
  shape = record {
    orders = orders;
    nears = nears;
    root = root;
    only_root = λ a low one. one_row n k order others a low (omega arith);
    inner = λ a low deep. absurd (flat n k order root others a low deep);
    within = λ q low. (let is : get_or near q 0 ≡ k = all_near q low in omega arith);
    joined = λ q low. (let is : get_or order (get_or near q 0) 0 ≡ get_or order k 0 = ap (λ b. get_or order b 0) (all_near q low) in omega arith);
    earlier = λ q low deep. absurd (flat n k order root others q low deep);
  };
  recent = λ a low. elim (cases_lt (get_or order a 0) 2) [ inl less ↦ less | inr deep ↦ absurd (flat n k order root others a low deep) ];
  left = (let most : columns_left order ≤ length order = count_by-le-length (λ o. nat_le o 1) order in omega arith);
  linked = λ q low deep. absurd (flat n k order root others q low deep);
  nearest = λ a q row_in place_in joined off. (
      let root_near : get_or near q 0 ≡ a = all_near q place_in ∙ sym (one_row n k order others a row_in joined) in
      let P : ℕ → Type 0 = λ b. get_or u b 0 + d a (get_or s q 0) ≤ get_or u a 0 + d b (get_or s q 0) in
      subst P (sym root_near) (omega arith));
}

-- a tree of one row
pub first_tree : (n : ℕ) (d : ℕ → ℕ → ℕ) (k : ℕ) (u w s order near : List ℕ) → k < n → IsMatched n d k u w s → order ≡ replicate n 0 → near ≡ replicate n k → IsTree n d k 2 u w s (set order k 1) near
first_tree n d k u w s order near row matched order_is near_is =
    let long : length order ≡ n = ap length order_is ∙ length-replicate n 0 in
    let size : length (set order k 1) ≡ n = length-set order k 1 ∙ long in
    tree_of_one_row n d k u w s (set order k 1) near row matched size (ap length near_is ∙ length-replicate n k)
    (get_or-set_same order k 1 0 (omega arith))
    (λ a low other. get_or-set_other order k a 1 0 other ∙ ap (λ xs. get_or xs a 0) order_is ∙ get_or-replicate n a 0 0 low)
    (λ q low. ap (λ xs. get_or xs q 0) near_is ∙ get_or-replicate n q k 0 low)
