-- From the last state of the search to potentials of the sites.
use Rattle.std.proofs.Common.{◌≡◌, inl, inr, ℕ, zero, suc, ◌+◌, ◌*◌, ◌<◌, ◌≤◌, List, [], ◌∷◌, ◌++◌, length, map, get_or, replicate, refl, sym, ◌∙◌, ap, subst, arith, ℤ, pos}
use Rattle.std.specs.Prelude.{◌+ℤ◌, ◌≤ℤ◌, All}
use Rattle.std.specs.List.{range_with_len, Contains}
use Rattle.std.specs.List.Sorted.{IsPermutation}
use Rattle.std.proofs.lemmas.Bool.{cases_lt}
use Rattle.std.proofs.lemmas.Int.{ints}
use Rattle.std.proofs.lemmas.List.{length-replicate, length-map, get_or-replicate, get_or-map, get_or_past, get_or_default}
use Rattle.std.proofs.lemmas.List.Elements.{All-get_or, All-from_get_or}
use Rattle.std.proofs.lemmas.List.FromFn.{length-range_with_len, get_or-range_with_len, map-range_with_len_more}
use Rattle.std.proofs.lemmas.List.Sorted.{IsPermutation-refl, Contains-permutation}
use Rattle.helios_model.specs.Limits.{longest_trip}
use Rattle.helios_model.specs.Plans.{MatrixData, IsMatrix}
use Rattle.latency_assign.specs.Assignment.{count_of, distance, potential, IsInRange, IsAssignment}
use Rattle.latency_assign.specs.Search.{IsMatched}

as_map : (a n : ℕ) → map (λ x. x) (range_with_len a n) ≡ range_with_len a n
as_map a zero = refl
as_map a (suc n) = ap (λ xs. a ∷ xs) (as_map (a + 1) n)

-- the numbers below n, and n
pub one_number_more : (n : ℕ) → range_with_len 0 n ++ n ∷ [] ≡ range_with_len 0 (n + 1)
one_number_more n = ap (λ xs. xs ++ n ∷ []) (sym (as_map 0 n)) ∙ sym (map-range_with_len_more (λ x. x) 0 n n (omega arith)) ∙ as_map 0 (n + 1)

-- no round trip of a matrix is over the limit
pub distance_bounded : (m : MatrixData) → IsMatrix m.names m.trips → (i j : ℕ) → distance m i j ≤ longest_trip
distance_bounded m limits i j = elim (cases_lt (i * count_of m + j) (length m.trips)) [
  | inl within ↦ All-get_or (λ x. x ≤ longest_trip) m.trips (i * count_of m + j) 0 within limits.short
  | inr past ↦ (let none : get_or m.trips (i * count_of m + j) 0 ≡ 0 = get_or_past m.trips (i * count_of m + j) 0 past in omega arith)
]

-- the state before the first row: each row has the longest round trip, each column 0
pub first_matched : (n : ℕ) (d : ℕ → ℕ → ℕ) → ((i j : ℕ) → d i j ≤ longest_trip) → IsMatched n d 0 (replicate n longest_trip) (replicate n 0) (range_with_len 0 n)
first_matched n d short =
    let rows : (i : ℕ) → i < n → get_or (replicate n longest_trip) i 0 ≡ longest_trip = λ i low. get_or-replicate n i longest_trip 0 low in
    let places : (q : ℕ) → q < n → get_or (replicate n 0) q 0 ≡ 0 = λ q low. get_or-replicate n q 0 0 low in
    record {
      feasible = record {
        short = short;
        rows = length-replicate n longest_trip;
        places = length-replicate n 0;
        columns = length-range_with_len 0 n;
        permutation = IsPermutation-refl (range_with_len 0 n);
        below = λ q low. (let is : get_or (range_with_len 0 n) q 0 ≡ 0 + q = get_or-range_with_len 0 n q 0 low in omega arith);
        reached = λ i q row low. (
            let most : d i (get_or (range_with_len 0 n) q 0) ≤ longest_trip = short i (get_or (range_with_len 0 n) q 0) in
            let is : get_or (replicate n longest_trip) i 0 ≡ longest_trip = rows i row in
            omega arith);
        small_rows = λ i low. (let is : get_or (replicate n longest_trip) i 0 ≡ longest_trip = rows i low in omega arith);
        small_places = λ q low. (let is : get_or (replicate n 0) q 0 ≡ 0 = places q low in omega arith);
      };
      tight = λ i early low. absurd (omega arith);
      free = λ q late low. places q low;
    }

-- the same of lists that are those
pub first_state : (n : ℕ) (d : ℕ → ℕ → ℕ) (count : ℕ) (u w s : List ℕ) → ((i j : ℕ) → d i j ≤ longest_trip) → count ≡ n → u ≡ replicate count longest_trip → w ≡ replicate count 0 → s ≡ range_with_len 0 count → IsMatched n d 0 u w s
first_state n d count u w s short is u_is w_is s_is =
    let A : List ℕ → Type 0 = λ x. IsMatched n d 0 x w s in
    let B : List ℕ → Type 0 = λ x. IsMatched n d 0 (replicate count longest_trip) x s in
    let C : List ℕ → Type 0 = λ x. IsMatched n d 0 (replicate count longest_trip) (replicate count 0) x in
    let D : ℕ → Type 0 = λ x. IsMatched n d 0 (replicate x longest_trip) (replicate x 0) (range_with_len 0 x) in
    subst A (sym u_is) (subst B (sym w_is) (subst C (sym s_is) (subst D (sym is) (first_matched n d short))))

-- each row has its partner
pub all_matched : (n : ℕ) (d : ℕ → ℕ → ℕ) (k : ℕ) (u w s : List ℕ) → n ≤ k → IsMatched n d k u w s → IsMatched n d n u w s
all_matched n d k u w s all matched = record {
  feasible = matched.feasible;
  tight = λ i early within. matched.tight i (omega arith) within;
  free = λ q late within. absurd (omega arith);
}

-- the potentials of two places with one column are alike
pub same_potential : (n : ℕ) (d : ℕ → ℕ → ℕ) (u w s : List ℕ) → IsMatched n d n u w s → (p q : ℕ) → p < n → q < n → get_or s p 0 ≡ get_or s q 0 → get_or w p 0 ≡ get_or w q 0
same_potential n d u w s matched p q first second same =
    let tight_p : get_or u p 0 + get_or w p 0 ≡ d p (get_or s p 0) = matched.tight p first first in
    let tight_q : get_or u q 0 + get_or w q 0 ≡ d q (get_or s q 0) = matched.tight q second second in
    let p_to_q : d p (get_or s q 0) ≤ get_or u p 0 + get_or w q 0 = matched.feasible.reached p q first second in
    let q_to_p : d q (get_or s p 0) ≤ get_or u q 0 + get_or w p 0 = matched.feasible.reached q p second first in
    let at_p : d p (get_or s p 0) ≡ d p (get_or s q 0) = ap (d p) same in
    let at_q : d q (get_or s p 0) ≡ d q (get_or s q 0) = ap (d q) same in
    omega arith

-- each site stands at a place
placed_at : (n : ℕ) (s : List ℕ) → IsPermutation (range_with_len 0 n) s → length s ≡ n → (j : ℕ) → j < n → (q : ℕ) × ((q < n) × (get_or s q 0 ≡ j))
placed_at n s permutation size j low =
    let long : length (range_with_len 0 n) ≡ n = length-range_with_len 0 n in
    let first : get_or (range_with_len 0 n) j j ≡ 0 + j = get_or-range_with_len 0 n j j low in
    let there : Contains (range_with_len 0 n) j = (j, (omega arith), (let is : get_or (range_with_len 0 n) j j ≡ j = omega arith in is)) in
    let here : Contains s j = Contains-permutation (range_with_len 0 n) s j permutation there in
    (here.0, ((let within : here.0 < length s = here.1 in omega arith), get_or_default s here.0 0 j here.1 ∙ here.2))

-- whole numbers of a list, read at a place
whole_at : (xs : List ℕ) (i : ℕ) → i < length xs → potential (map pos xs) i ≡ pos (get_or xs i 0)
whole_at xs i within = get_or-map pos xs i 0 (pos 0) within

length-whole : (xs : List ℕ) → length (map pos xs) ≡ length xs
length-whole xs = length-map xs pos

all_small : (n : ℕ) (xs : List ℕ) → length xs ≡ n → ((i : ℕ) → i < n → get_or xs i 0 ≤ longest_trip) → All (λ x. x ≤ longest_trip) xs
all_small n xs size small = All-from_get_or (λ x. x ≤ longest_trip) xs 0 (λ i within. small i (omega arith))

pub rows_small : (n : ℕ) (d : ℕ → ℕ → ℕ) (u w s : List ℕ) → IsMatched n d n u w s → All (λ x. x ≤ longest_trip) u
rows_small n d u w s matched = all_small n u matched.feasible.rows matched.feasible.small_rows

-- a column's potential is that of its place
column_at : (n : ℕ) (d : ℕ → ℕ → ℕ) (u w s v : List ℕ) → IsMatched n d n u w s → ((q : ℕ) → q < length s → get_or v (get_or s q 0) 0 ≡ get_or w q 0) → (j : ℕ) → j < n → (q : ℕ) × ((q < n) × ((get_or s q 0 ≡ j) × (get_or v j 0 ≡ get_or w q 0)))
column_at n d u w s v matched placed j low =
    let size : length s ≡ n = matched.feasible.columns in
    let here : (q : ℕ) × ((q < n) × (get_or s q 0 ≡ j)) = placed_at n s matched.feasible.permutation size j low in
    (here.0, (here.1.0, (here.1.1, ap (λ x. get_or v x 0) (sym here.1.1) ∙ placed here.0 (omega arith))))

pub columns_small : (n : ℕ) (d : ℕ → ℕ → ℕ) (u w s v : List ℕ) → IsMatched n d n u w s → length v ≡ length s → ((q : ℕ) → q < length s → get_or v (get_or s q 0) 0 ≡ get_or w q 0) → All (λ x. x ≤ longest_trip) v
columns_small n d u w s v matched long placed =
    let size : length s ≡ n = matched.feasible.columns in
    all_small n v (long ∙ size) (λ j low. (
    let here : (q : ℕ) × ((q < n) × ((get_or s q 0 ≡ j) × (get_or v j 0 ≡ get_or w q 0))) = column_at n d u w s v matched placed j low in
    let small : get_or w here.0 0 ≤ longest_trip = matched.feasible.small_places here.0 here.1.0 in
    let is : get_or v j 0 ≡ get_or w here.0 0 = here.1.1.1 in
    omega arith))

in_range : (xs : List ℕ) → All (λ x. x ≤ longest_trip) xs → All IsInRange (map pos xs)
in_range xs small = All-from_get_or IsInRange (map pos xs) (pos 0) (λ i within.
    let long : length (map pos xs) ≡ length xs = length-whole xs in
    let low : i < length xs = omega arith in
    let most : get_or xs i 0 ≤ longest_trip = All-get_or (λ x. x ≤ longest_trip) xs i 0 low small in
    let is : potential (map pos xs) i ≡ pos (get_or xs i 0) = whole_at xs i low in
    let P : ℤ → Type 0 = IsInRange in
    subst P (sym is) ((let least : pos 0 ≤ℤ pos (get_or xs i 0) = omega (arith, ints) in least), (let greatest : pos (get_or xs i 0) ≤ℤ pos longest_trip = omega (arith, ints) in greatest)))

-- the potentials and the partners of the last state
pub assigned : (m : MatrixData) (u w s v : List ℕ) → IsMatched (count_of m) (distance m) (count_of m) u w s → length v ≡ length s → ((q : ℕ) → q < length s → get_or v (get_or s q 0) 0 ≡ get_or w q 0) → IsAssignment m (record { u = map pos u; v = map pos v; s = s })
assigned m u w s v matched long placed =
    let n : ℕ = count_of m in
    let rows : length u ≡ n = matched.feasible.rows in
    let size : length s ≡ n = matched.feasible.columns in
    let columns : length v ≡ n = long ∙ size in
    record {
      rows = length-whole u ∙ rows;
      columns = length-whole v ∙ columns;
      permutation = matched.feasible.permutation;
      reached = λ i j row low. (
          let here : (q : ℕ) × ((q < n) × ((get_or s q 0 ≡ j) × (get_or v j 0 ≡ get_or w q 0))) = column_at n (distance m) u w s v matched placed j low in
          let before : distance m i (get_or s here.0 0) ≤ get_or u i 0 + get_or w here.0 0 = matched.feasible.reached i here.0 row here.1.0 in
          let same : distance m i (get_or s here.0 0) ≡ distance m i j = ap (distance m i) here.1.1.0 in
          let is : get_or v j 0 ≡ get_or w here.0 0 = here.1.1.1 in
          let u_is : potential (map pos u) i ≡ pos (get_or u i 0) = whole_at u i (omega arith) in
          let v_is : potential (map pos v) j ≡ pos (get_or v j 0) = whole_at v j (omega arith) in
          reached_whole (distance m i j) (get_or u i 0) (get_or v j 0) (potential (map pos u) i) (potential (map pos v) j) u_is v_is (omega arith));
      tight = λ i row. (
          let before : get_or u i 0 + get_or w i 0 ≡ distance m i (get_or s i 0) = matched.tight i row row in
          let is : get_or v (get_or s i 0) 0 ≡ get_or w i 0 = placed i (omega arith) in
          let below : get_or s i 0 < n = matched.feasible.below i row in
          let u_is : potential (map pos u) i ≡ pos (get_or u i 0) = whole_at u i (omega arith) in
          let v_is : potential (map pos v) (get_or s i 0) ≡ pos (get_or v (get_or s i 0) 0) = whole_at v (get_or s i 0) (omega arith) in
          tight_whole (distance m i (get_or s i 0)) (get_or u i 0) (get_or v (get_or s i 0) 0) (potential (map pos u) i) (potential (map pos v) (get_or s i 0)) u_is v_is (omega arith));
      rows_in_range = in_range u (rows_small n (distance m) u w s matched);
      columns_in_range = in_range v (columns_small n (distance m) u w s v matched long placed);
    }
  where
    reached_whole : (t a b : ℕ) (x y : ℤ) → x ≡ pos a → y ≡ pos b → t ≤ a + b → pos t ≤ℤ (x +ℤ y)
    reached_whole t a b x y x_is y_is h = omega (arith, ints)

    tight_whole : (t a b : ℕ) (x y : ℤ) → x ≡ pos a → y ≡ pos b → a + b ≡ t → (x +ℤ y) ≡ pos t
    tight_whole t a b x y x_is y_is h = omega (arith, ints)

pub assigned_as : (m : MatrixData) (u w s v : List ℕ) (rows columns : List ℤ) (partners : List ℕ) → IsMatched (count_of m) (distance m) (count_of m) u w s → length v ≡ length s → ((q : ℕ) → q < length s → get_or v (get_or s q 0) 0 ≡ get_or w q 0) → rows ≡ map pos u → columns ≡ map pos v → partners ≡ s → IsAssignment m (record { u = rows; v = columns; s = partners })
assigned_as m u w s v rows columns partners matched long placed rows_are columns_are partners_are =
    let A : List ℤ → Type 0 = λ x. IsAssignment m (record { u = x; v = columns; s = partners }) in
    let B : List ℤ → Type 0 = λ x. IsAssignment m (record { u = map pos u; v = x; s = partners }) in
    let C : List ℕ → Type 0 = λ x. IsAssignment m (record { u = map pos u; v = map pos v; s = x }) in
    subst A (sym rows_are) (subst B (sym columns_are) (subst C (sym partners_are) (assigned m u w s v matched long placed)))
