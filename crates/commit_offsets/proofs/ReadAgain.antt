-- What is printed of a plan is read as the plan.
use Rattle.std.proofs.Common.{◌≡◌, inl, inr, ℕ, zero, suc, ◌+◌, ◌-◌, ◌*◌, ◌/◌, ◌%◌, ◌<◌, ◌≤◌, ◌^◌, Bool, true, false, cond, ℤ, pos, List, [], ◌∷◌, ◌++◌, Option, Some, None, Ok, length, map, get_or, refl, sym, ◌∙◌, ap, arith, add-one, append_assoc}
use Rattle.std.specs.Prelude.{negsuc, ◌-ℤ◌, ◌≤ℤ◌, nat_eq, nat_le, not, All, sum, is_none, option_map, option_and_then}
use Rattle.std.specs.Ordering.{int_eq}
use Rattle.std.specs.List.{flat_map, range_with_len}
use Rattle.std.proofs.lemmas.Cmp.{int_eq_equiv}
use Rattle.std.proofs.lemmas.Bool.{cases_lt, le-leb, lt-ltb, eq-eqb, and_from}
use Rattle.std.proofs.lemmas.Grind.{flat_map-append}
use Rattle.std.proofs.lemmas.Int.{ints}
use Rattle.std.proofs.lemmas.List.{length-map, append-nil, get_or_past}
use Rattle.std.proofs.lemmas.List.Elements.{All-get_or, All-weaker}
use Rattle.std.proofs.lemmas.List.FromFn.{map-range_with_len_more, length-range_with_len, fill_by_all, get_or-map-range_with_len}
use Rattle.std.proofs.lemmas.List.Sums.{list_all-from_AllPass}
use Rattle.std.proofs.lemmas.Nat.{div-mul-add, mod-mul-add, div-add-mod'}
use Rattle.helios_model.specs.Limits.{longest_trip, greatest_latency, most_sites}
use Rattle.helios_model.specs.Offset.{offset}
use Rattle.helios_model.specs.Grid.{at}
use Rattle.helios_model.specs.Plans.{PlanData, IsMatrix, IsPlan, count_of, rtt, latency}
use Rattle.helios_model.specs.Naming.{is_count}
use Rattle.helios_model.specs.Passing.{EachMatrixPasses, EachSearchFindsFirst}
use Rattle.helios_model.specs.Squares.{first_away, first_uneven}
use Rattle.json_text.specs.Lists.{each_of}
use Rattle.serde_json.specs.Events.{items_len}
use Rattle.json_text.specs.Arrays.{whole_number, integer, counted, array_of, row_of, square_of}
use Rattle.json_text.specs.Reading.{◌>>=◌, required, demand}
use Rattle.json_text.specs.Text.{json_of}
use Rattle.serde_json.specs.Data.{Data, string}
use Rattle.serde_json.specs.Find.{as_str}
use Rattle.serde_json.specs.View.{items_of}
use Rattle.commit_offsets.specs.Forms.{passing, are_good, is_even, names_in, names_of, trips_of, version_of}
use Rattle.commit_offsets.specs.Printing.{whole, signed, array_data, row_data, square_data, members_data, plan_data}
use Rattle.commit_offsets.specs.Reading.{differs_at, other_offset, limited, fields_at, accepted, plan_at, plan_of_text}
use Rattle.commit_offsets.specs.declared.data.PlanFields.{PlanFields}
use Rattle.commit_offsets.specs.declared.refusal.FieldName.{FieldName}
use Rattle.commit_offsets.specs.declared.refusal.FieldName.TheVariants as fields
use Rattle.commit_offsets.specs.declared.refusal.PlanRefusal.TheVariants as refusals

-- ---- arrays

each_of-map : {X T : Type 0} (f : Data → Option T) (g : X → Data) (h : X → T) → ((x : X) → f (g x) ≡ Some (h x)) → (xs : List X) → each_of f (items_of (map g xs)) ≡ Some (map h xs)
each_of-map f g h same [] = refl
each_of-map f g h same (x ∷ xs) =
    ap (option_and_then (λ y. option_map (λ ys. y ∷ ys) (each_of f (items_of (map g xs))))) (same x)
    ∙ ap (option_map (λ ys. h x ∷ ys)) (each_of-map f g h same xs)

row_read : {X T : Type 0} (n : ℕ) (f : Data → Option T) (g : X → Data) (h : X → T) → ((x : X) → f (g x) ≡ Some (h x)) → (xs : List X) → length xs ≡ n → row_of n f (array_data g xs) ≡ Some (map h xs)
unfolding row_of array_of
row_read n f g h same xs long =
    ap (option_and_then (counted n)) (each_of-map f g h same xs)
    ∙ ap (λ b. cond b (Some (map h xs)) None) (eq-eqb (length (map h xs)) n (length-map xs h ∙ long))

-- the rows of a square, one after another
abbrev flattened : {T : Type 0} → ℕ → ℕ → (ℕ → ℕ → T) → List T
flattened n m h = flat_map (λ row. row) (map (λ i. map (h i) (range_with_len 0 n)) (range_with_len 0 m))

square_read : {T : Type 0} (n : ℕ) (f : Data → Option T) (g : ℕ → ℕ → Data) (h : ℕ → ℕ → T) → ((i j : ℕ) → f (g i j) ≡ Some (h i j)) → square_of n f (square_data n g) ≡ Some (flattened n n h)
unfolding square_of
square_read n f g h same =
    ap (option_map (flat_map (λ row. row)))
    (row_read n (row_of n f) (λ i. row_data n (g i)) (λ i. map (h i) (range_with_len 0 n))
    (λ i. row_read n f (g i) (h i) (same i) (range_with_len 0 n) (length-range_with_len 0 n))
    (range_with_len 0 n) (length-range_with_len 0 n))

map_same : {X : Type 0} (xs : List X) → map (λ x. x) xs ≡ xs
map_same [] = refl
map_same (x ∷ xs) = ap (λ ys. x ∷ ys) (map_same xs)

-- ---- squares by places

abbrev by_place : {T : Type 0} → ℕ → (ℕ → ℕ → T) → ℕ → T
by_place n h p = h (p / n) (p % n)

places_more : {T : Type 0} (h : ℕ → ℕ → T) (n m k : ℕ) → k ≤ n → map (by_place n h) (range_with_len 0 (m * n)) ++ map (h m) (range_with_len 0 k) ≡ map (by_place n h) (range_with_len 0 (m * n + k))
places_more h n m zero low = append-nil (map (by_place n h) (range_with_len 0 (m * n))) ∙ ap (λ q. map (by_place n h) (range_with_len 0 q)) (let same : m * n ≡ m * n + 0 = omega arith in same)
places_more {T = T} h n m (suc k) low =
    let front : List T = map (by_place n h) (range_with_len 0 (m * n)) in
    let here : by_place n h (m * n + k) ≡ h m k = ap (λ i. h i ((m * n + k) % n)) (div-mul-add m n k (omega arith)) ∙ ap (h m) (mod-mul-add m n k (omega arith)) in
    let more : map (h m) (range_with_len 0 (suc k)) ≡ map (h m) (range_with_len 0 k) ++ h m k ∷ [] = ap (λ q. map (h m) (range_with_len 0 q)) (sym (add-one k)) ∙ map-range_with_len_more (h m) 0 k k (omega arith) in
    ap (λ row. front ++ row) more
    ∙ sym (append_assoc front (map (h m) (range_with_len 0 k)) (h m k ∷ []))
    ∙ ap (λ xs. xs ++ h m k ∷ []) (places_more h n m k (omega arith))
    ∙ ap (λ x. map (by_place n h) (range_with_len 0 (m * n + k)) ++ x ∷ []) (sym here)
    ∙ sym (map-range_with_len_more (by_place n h) 0 (m * n + k) (m * n + k) (omega arith))
    ∙ ap (λ q. map (by_place n h) (range_with_len 0 q)) (let same : (m * n + k) + 1 ≡ m * n + suc k = omega arith in same)

flat_square : {T : Type 0} (h : ℕ → ℕ → T) (n m : ℕ) → flattened n m h ≡ map (by_place n h) (range_with_len 0 (m * n))
flat_square h n zero = ap (λ q. map (by_place n h) (range_with_len 0 q)) (let none : 0 ≡ 0 * n = omega arith in none)
flat_square {T = T} h n (suc m) =
    let row : ℕ → List T = λ i. map (h i) (range_with_len 0 n) in
    let more : map row (range_with_len 0 (suc m)) ≡ map row (range_with_len 0 m) ++ row m ∷ [] = ap (λ q. map row (range_with_len 0 q)) (sym (add-one m)) ∙ map-range_with_len_more row 0 m m (omega arith) in
    ap (flat_map (λ r. r)) more
    ∙ flat_map-append (λ r. r) (map row (range_with_len 0 m)) (row m ∷ [])
    ∙ ap (λ xs. flattened n m h ++ xs) (append-nil (row m))
    ∙ ap (λ xs. xs ++ row m) (flat_square h n m)
    ∙ places_more h n m n (omega arith)
    ∙ ap (λ q. map (by_place n h) (range_with_len 0 q)) (let same : m * n + n ≡ suc m * n = omega arith in same)

trips_flat : (n : ℕ) (trips : List ℕ) → length trips ≡ n * n → flattened n n (at n trips) ≡ trips
trips_flat n trips long =
    flat_square (at n trips) n n
    ∙ sym (fill_by_all (by_place n (at n trips)) trips (n * n) 0 long (λ k low. ap (λ p. get_or trips p 0) (sym (div-add-mod' k n))))

-- ---- fields

-- as many items as the list has
items_of_len : {X : Type 0} (f : X → Data) (xs : List X) → items_len (items_of (map f xs)) ≡ length xs
items_of_len f [] = refl
items_of_len f (x ∷ xs) = (let rest : items_len (items_of (map f xs)) ≡ length xs = items_of_len f xs in omega arith)

names_read : EachMatrixPasses → (names : List (List ℕ)) (trips : List ℕ) → IsMatrix names trips → names_of (array_data string names) ≡ Some names
unfolding names_in
names_read passes names trips limits =
    let found : each_of as_str (items_of (map string names)) ≡ Some names = each_of-map as_str string (λ name. name) (λ name. refl) names ∙ ap Some (map_same names) in
    let count : is_count (length names) ≡ true = and_from (nat_le 1 (length names)) (nat_le (length names) most_sites) (le-leb 1 (length names) limits.some) (le-leb (length names) most_sites limits.few) in
    ap (λ n. cond (is_count n) (option_and_then (passing are_good) (each_of as_str (items_of (map string names)))) None) (items_of_len string names)
    ∙ ap (λ b. cond b (option_and_then (passing are_good) (each_of as_str (items_of (map string names)))) None) count
    ∙ ap (option_and_then (passing are_good)) found
    ∙ ap (λ o. cond (is_none o) (Some names) None) (passes names trips limits).named

even_true : EachMatrixPasses → (names : List (List ℕ)) (trips : List ℕ) → IsMatrix names trips → is_even (length names) trips ≡ true
even_true passes names trips limits = and_from (is_none (first_uneven (length names) trips)) (is_none (first_away (length names) trips)) (ap is_none (passes names trips limits).even) (ap is_none (passes names trips limits).home)

trips_read : EachMatrixPasses → (names : List (List ℕ)) (trips : List ℕ) → IsMatrix names trips → trips_of (length names) (square_data (length names) (λ i j. whole (at (length names) trips i j))) ≡ Some trips
unfolding trips_of
trips_read passes names trips limits =
    let n : ℕ = length names in
    ap (option_and_then (passing (is_even n))) (square_read n whole_number (λ i j. whole (at n trips i j)) (at n trips) (λ i j. refl) ∙ ap Some (trips_flat n trips limits.square))
    ∙ ap (λ b. cond b (Some trips) None) (even_true passes names trips limits)

numbers_read : (n : ℕ) (xs : List ℕ) → length xs ≡ n → row_of n whole_number (array_data whole xs) ≡ Some xs
numbers_read n xs long = row_read n whole_number whole (λ x. x) (λ x. refl) xs long ∙ ap Some (map_same xs)

integer_signed : (z : ℤ) → z ≤ℤ pos greatest_latency → integer (signed z) ≡ Some z
integer_signed (pos n) small = ap (λ b. cond b (Some (pos n)) None) (lt-ltb n (2 ^ 63) (below n small))
  where
    below : (k : ℕ) → pos k ≤ℤ pos greatest_latency → k < 2 ^ 63
    below k h = omega (arith, ints)
integer_signed (negsuc n) small = refl

-- no latency is over its limit, read at any place
latency_bounded : (plan : PlanData) → IsPlan plan.names plan.trips plan.latencies → (i : ℕ) → latency plan i ≤ greatest_latency
latency_bounded plan limits i = elim (cases_lt i (length plan.latencies)) [
  | inl within ↦ All-get_or (λ x. x ≤ greatest_latency) plan.latencies i 0 within limits.bounded
  | inr past ↦ (let none : get_or plan.latencies i 0 ≡ 0 = get_or_past plan.latencies i 0 past in omega arith)
]

offset_small : (plan : PlanData) → IsPlan plan.names plan.trips plan.latencies → (i j : ℕ) → offset plan i j ≤ℤ pos greatest_latency
offset_small plan limits i j = by_case (nat_eq i j) (latency plan i) (rtt plan i j) (latency_bounded plan limits i)
  where
    by_case : (b : Bool) (l r : ℕ) → l ≤ greatest_latency → cond b (pos 0) (pos l -ℤ pos r) ≤ℤ pos greatest_latency
    by_case true l r h = omega (arith, ints)
    by_case false l r h = omega (arith, ints)

abbrev offsets_list : PlanData → List ℤ
offsets_list plan = flattened (count_of plan) (count_of plan) (offset plan)

offsets_read : (plan : PlanData) → IsPlan plan.names plan.trips plan.latencies → square_of (count_of plan) integer (square_data (count_of plan) (λ i j. signed (offset plan i j))) ≡ Some (offsets_list plan)
offsets_read plan limits = square_read (count_of plan) integer (λ i j. signed (offset plan i j)) (offset plan) (λ i j. integer_signed (offset plan i j) (offset_small plan limits i j))

-- ---- the plan

abbrev fields_of : PlanData → List ℕ → PlanFields
fields_of plan pair = record { names = plan.names; trips = plan.trips; latencies = plan.latencies; offsets = offsets_list plan; pair = pair; total = sum plan.latencies }

fields_read : EachMatrixPasses → (plan : PlanData) (pair : List ℕ) → IsPlan plan.names plan.trips plan.latencies → length pair ≡ count_of plan → fields_at (plan_data plan pair) ≡ Ok (fields_of plan pair)
unfolding fields_at members_data version_of
fields_read passes plan pair limits long =
    let names : names_of (array_data string plan.names) ≡ Some plan.names = names_read passes plan.names plan.trips limits.matrix in
    let trips : trips_of (count_of plan) (square_data (count_of plan) (λ i j. whole (rtt plan i j))) ≡ Some plan.trips = trips_read passes plan.names plan.trips limits.matrix in
    let latencies : row_of (count_of plan) whole_number (array_data whole plan.latencies) ≡ Some plan.latencies = numbers_read (count_of plan) plan.latencies limits.planned in
    let offsets : square_of (count_of plan) integer (square_data (count_of plan) (λ i j. signed (offset plan i j))) ≡ Some (offsets_list plan) = offsets_read plan limits in
    let pairs : row_of (count_of plan) whole_number (array_data whole pair) ≡ Some pair = numbers_read (count_of plan) pair long in
    rw (names, trips, latencies, offsets, pairs) refl

int_same : (z : ℤ) → int_eq z z ≡ true
int_same z = (int_eq_equiv).refl z

no_other : EachSearchFindsFirst → (plan : PlanData) → other_offset plan (offsets_list plan) ≡ None
no_other finds plan =
    let n : ℕ = count_of plan in
    (finds (differs_at plan (offsets_list plan)) (n * n)).none (λ k low.
    let at : get_or (offsets_list plan) k (pos 0) ≡ offset plan (k / n) (k % n) =
    ap (λ xs. get_or xs k (pos 0)) (flat_square (offset plan) n n) ∙ get_or-map-range_with_len (by_place n (offset plan)) 0 (n * n) k k (pos 0) low (omega arith) in
    ap (λ z. not (int_eq z (offset plan (k / n) (k % n)))) at ∙ ap not (int_same (offset plan (k / n) (k % n))))

within_read : (name : FieldName) (limit : ℕ) (xs : List ℕ) → All (λ x. x ≤ limit) xs → limited name limit xs ≡ Ok tt
unfolding limited
within_read name limit xs low = ap (demand (refusals.Limit name)) (list_all-from_AllPass (λ x. nat_le x limit) xs (All-weaker (λ x. x ≤ limit) (λ x. nat_le x limit ≡ true) (λ x h. le-leb x limit h) xs low))

accepted_read : EachSearchFindsFirst → (plan : PlanData) (pair : List ℕ) → IsPlan plan.names plan.trips plan.latencies → All (λ partner. partner < most_sites) pair → accepted (fields_of plan pair) ≡ Ok (plan, record { pair = pair })
unfolding accepted
accepted_read finds plan pair limits sites =
    let trips : limited fields.Rtt longest_trip plan.trips ≡ Ok tt = within_read fields.Rtt longest_trip plan.trips limits.matrix.short in
    let latencies : limited fields.Latency greatest_latency plan.latencies ≡ Ok tt = within_read fields.Latency greatest_latency plan.latencies limits.bounded in
    let pairs : limited fields.Pair (most_sites - 1) pair ≡ Ok tt =
    within_read fields.Pair (most_sites - 1) pair (All-weaker (λ x. x < most_sites) (λ x. x ≤ most_sites - 1) (λ x h. omega (arith, h)) pair sites) in
    let offsets : other_offset plan (offsets_list plan) ≡ None = no_other finds plan in
    let total : nat_eq (sum plan.latencies) (sum plan.latencies) ≡ true = eq-eqb (sum plan.latencies) (sum plan.latencies) refl in
    rw (trips, latencies, pairs, offsets, total) refl

-- the value of a plan within its limits is read as the plan
pub read_again : EachMatrixPasses → EachSearchFindsFirst → (plan : PlanData) (pair : List ℕ) → IsPlan plan.names plan.trips plan.latencies → length pair ≡ count_of plan → All (λ partner. partner < most_sites) pair → plan_at (plan_data plan pair) ≡ Ok (plan, record { pair = pair })
unfolding plan_at
read_again passes finds plan pair limits long sites = ap (λ r. r >>= accepted) (fields_read passes plan pair limits long) ∙ accepted_read finds plan pair limits sites

-- a text of that value is read as the plan
pub text_read_again : EachMatrixPasses → EachSearchFindsFirst → (plan : PlanData) (pair text : List ℕ) → IsPlan plan.names plan.trips plan.latencies → length pair ≡ count_of plan → All (λ partner. partner < most_sites) pair → json_of text ≡ Some (plan_data plan pair) → plan_of_text text ≡ Ok (plan, record { pair = pair })
unfolding plan_of_text
text_read_again passes finds plan pair text limits long sites is = ap (λ o. required refusals.NotJson o >>= plan_at) is ∙ read_again passes finds plan pair limits long sites
