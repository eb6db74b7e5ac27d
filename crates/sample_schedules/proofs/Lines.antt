-- The plan of sites in a line is accepted.
use Rattle.std.proofs.Common.{◌≡◌, ℕ, zero, suc, ◌+◌, ◌-◌, ◌*◌, ◌/◌, ◌%◌, ◌<◌, ◌≤◌, ◌^◌, Bool, true, false, ◌&&◌, List, [], ◌∷◌, ◌++◌, length, map, get_or, refl, sym, ap, ◌∙◌, subst, arith}
use Rattle.std.specs.Prelude.{decimal, not, replicate}
use Rattle.std.specs.List.{All, list_any, range_with_len}
use Rattle.std.proofs.lemmas.Bool.{false_from_ne_true}
use Rattle.std.proofs.lemmas.Fmt.{decimal_injective}
use Rattle.std.proofs.lemmas.List.{get_or-replicate, length-replicate}
use Rattle.std.proofs.lemmas.List.Elements.{All-cons, All-nil, All-replicate}
use Rattle.std.proofs.lemmas.List.Folds.{list_any_none}
use Rattle.std.proofs.lemmas.List.FromFn.{get_or-map-range_with_len, length-map-range_with_len}
use Rattle.std.proofs.lemmas.Nat.{div-mul-add, mod-mul-add, mul-add-lt}
use Rattle.std.proofs.lemmas.Slice.Eq.{bytes_eq-Decides}
use Rattle.std.proofs.Math.Nat.{div-le_self, mod-lt, mul-le-mul_right}
use Rattle.helios_model.specs.Grid.{at}
use Rattle.helios_model.specs.Limits.{greatest_latency, longest_trip}
use Rattle.helios_model.specs.Plans.{IsAccepted, IsMatrix, IsPlan}
use Rattle.helios_model.specs.Texts.{IsName, all_differ, same_text}
use Rattle.sample_schedules.specs.Generator.{line_plan, site_name, trip, trip_in}
use Rattle.sample_schedules.proofs.Texts.{short_name}

-- what holds of each number of a range holds along what is made of them
all_made : {X : Type 0} (P : X → Type 0) (f : ℕ → X) (a n : ℕ) → ((i : ℕ) → a ≤ i → i < a + n → P (f i)) → All P (map f (range_with_len a n))
all_made P f a zero each = All-nil P
all_made P f a (suc n) each =
    All-cons P (f a) (map f (range_with_len (a + 1) n)) (each a (omega arith) (omega arith)) (all_made P f (a + 1) n (λ i low high. each i (omega arith) (omega arith)))

pub square_fits : (sites : ℕ) → sites ≤ 32 → sites * sites ≤ 1024
square_fits sites few = (let square : sites * sites ≤ 32 * sites = mul-le-mul_right sites few in omega arith)

-- ---- names

names_apart : (i j : ℕ) → i < j → j < 2 ^ 64 → same_text (site_name j) (site_name i) ≡ false
names_apart i j below small =
    false_from_ne_true (same_text (site_name j) (site_name i)) (λ is.
    let whole : site_name j ≡ site_name i = (bytes_eq-Decides (site_name j) (site_name i)).0 is in
    let digits : decimal j ≡ decimal i = cc in
    let same : j ≡ i = decimal_injective j i small (omega arith) digits in
    omega arith)

none_same : (i a n : ℕ) → i < a → a + n < 2 ^ 64 → list_any (λ other. same_text other (site_name i)) (map site_name (range_with_len a n)) ≡ false
none_same i a n below small =
    list_any_none (λ other. same_text other (site_name i)) (map site_name (range_with_len a n))
    (all_made (λ other. same_text other (site_name i) ≡ false) site_name a n (λ j low high. names_apart i j (omega arith) (omega arith)))

differ : (a n : ℕ) → a + n < 2 ^ 64 → all_differ (λ name. name) (map site_name (range_with_len a n)) ≡ true
differ a zero small = refl
differ a (suc n) small =
    ap (λ b. not b && all_differ (λ name. name) (map site_name (range_with_len (a + 1) n))) (none_same a (a + 1) n (omega arith) (omega arith))
    ∙ differ (a + 1) n (omega arith)

-- ---- round trips

abbrev trips : ℕ → List ℕ
trips sites = map (trip_in sites) (range_with_len 0 (sites * sites))

trip_here : (sites i j : ℕ) → i < sites → j < sites → at sites (trips sites) i j ≡ trip i j
trip_here sites i j in_row in_column =
    get_or-map-range_with_len (trip_in sites) 0 (sites * sites) (i * sites + j) (i * sites + j) 0 (mul-add-lt i sites j sites in_row in_column) (omega arith)
    ∙ ap (λ row. trip row ((i * sites + j) % sites)) (div-mul-add i sites j in_column)
    ∙ ap (λ column. trip i column) (mod-mul-add i sites j in_column)

trip_at : (sites n i j : ℕ) → n ≡ sites → i < n → j < n → at n (trips sites) i j ≡ trip i j
trip_at sites n i j is in_row in_column = subst (λ m. at m (trips sites) i j ≡ trip i j) (sym is) (trip_here sites i j (omega arith) (omega arith))

turned : (i j : ℕ) → trip i j ≡ trip j i
turned i j = omega arith

none_away : (i : ℕ) → trip i i ≡ 0
none_away i = omega arith

short : (sites place : ℕ) → 2 ≤ sites → sites ≤ 32 → place < sites * sites → trip_in sites place ≤ longest_trip
short sites place some few within =
    let square : sites * sites ≤ 1024 = square_fits sites few in
    let row : place / sites ≤ place = div-le_self place sites in
    let column : place % sites < sites = mod-lt place (omega arith) in
    omega arith

-- ---- the plan

matrix : (sites : ℕ) → 2 ≤ sites → sites ≤ 32 → IsMatrix (map site_name (range_with_len 0 sites)) (trips sites)
matrix sites some few =
    let count : length (map site_name (range_with_len 0 sites)) ≡ sites = length-map-range_with_len site_name 0 sites in
    record {
      some = omega arith;
      few = omega arith;
      named = all_made IsName site_name 0 sites (λ i low high. short_name i (omega arith));
      distinct = differ 0 sites (omega arith);
      square = length-map-range_with_len (trip_in sites) 0 (sites * sites) ∙ ap (λ m. m * m) (sym count);
      short = all_made (λ t. t ≤ longest_trip) (trip_in sites) 0 (sites * sites) (λ place low high. short sites place some few (omega arith));
      symmetric = λ i j row column.
          trip_at sites (length (map site_name (range_with_len 0 sites))) i j count row column ∙ turned i j
          ∙ sym (trip_at sites (length (map site_name (range_with_len 0 sites))) j i count column row);
      diagonal = λ i row. trip_at sites (length (map site_name (range_with_len 0 sites))) i i count row row ∙ none_away i;
    }

reached : (sites n i j : ℕ) → n ≡ sites → i < n → j < n → 2 * at n (trips sites) i j ≤ get_or (replicate sites (1000 * (sites - 1))) i 0 + get_or (replicate sites (1000 * (sites - 1))) j 0
reached sites n i j is row column =
    let away : at n (trips sites) i j ≡ trip i j = trip_at sites n i j is row column in
    let here : get_or (replicate sites (1000 * (sites - 1))) i 0 ≡ 1000 * (sites - 1) = get_or-replicate sites i (1000 * (sites - 1)) 0 (omega arith) in
    let there : get_or (replicate sites (1000 * (sites - 1))) j 0 ≡ 1000 * (sites - 1) = get_or-replicate sites j (1000 * (sites - 1)) 0 (omega arith) in
    omega arith

pub accepted : (sites : ℕ) → 2 ≤ sites → sites ≤ 32 → IsAccepted (line_plan sites)
unfolding line_plan
accepted sites some few =
    let count : length (map site_name (range_with_len 0 sites)) ≡ sites = length-map-range_with_len site_name 0 sites in
    record {
      limits = record {
        matrix = matrix sites some few;
        planned = length-replicate sites (1000 * (sites - 1)) ∙ sym count;
        bounded = All-replicate (λ half_micros. half_micros ≤ greatest_latency) sites (1000 * (sites - 1)) (omega arith);
      };
      reached = λ i j row column other. reached sites (length (map site_name (range_with_len 0 sites))) i j count row column;
    }
