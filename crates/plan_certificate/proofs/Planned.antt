-- Latencies that are the sums of potentials make an accepted plan, and the partners are its certificate.
use Rattle.std.proofs.Common.{◌≡◌, ℕ, zero, suc, ◌+◌, ◌<◌, ◌≤◌, List, length, map, get_or, refl, sym, ◌∙◌, ap, subst, arith, add-one, ℤ, pos}
use Rattle.std.specs.Prelude.{◌+ℤ◌, ◌≤ℤ◌, negsuc, All, sum}
use Rattle.std.proofs.lemmas.Int.{ints}
use Rattle.std.proofs.lemmas.List.{length-map, get_or-map}
use Rattle.std.proofs.lemmas.List.Elements.{All-get_or, All-from_get_or}
use Rattle.helios_model.specs.Optimal.{IsCertificate, IsOptimal}
use Rattle.helios_model.specs.Limits.{longest_trip, greatest_latency, most_sites}
use Rattle.helios_model.specs.Plans.{MatrixData, PlanData, IsMatrix, IsPlan, IsAccepted}
use Rattle.latency_assign.specs.Assignment.{count_of, distance, potential, IsInRange, IsAssignment}
use Rattle.latency_assign.specs.declared.potentials.Potentials.{Potentials}
use Rattle.plan_certificate.specs.Judgement.{verdict_of}
use Rattle.plan_certificate.specs.Planning.{AreSums, planned}
use Rattle.plan_certificate.specs.declared.verdict.Verdict.TheVariants as verdicts
use Rattle.plan_certificate.proofs.Judgements.{verdict_is}
use Rattle.helios_model.specs.Pairings.{sum_below, sum_below_more, sum_below-items, IsPairing, CertificatesShowOptimal, PairingsAreOrders, PartnersAddUp}
use Rattle.helios_model.specs.Passing.{EachSearchFindsFirst}
use Rattle.helios_model.specs.Short.{EachShortPairIsFound}

-- a sum of sums, term by term
sum_below-split : (f g h : ℕ → ℕ) (n : ℕ) → ((i : ℕ) → i < n → f i ≡ g i + h i) → sum_below f n ≡ sum_below g n + sum_below h n
sum_below-split f g h zero split = refl
sum_below-split f g h (suc n) split =
    let before : sum_below f n ≡ sum_below g n + sum_below h n = sum_below-split f g h n (λ i low. split i (omega arith)) in
    let last : f n ≡ g n + h n = split n (omega arith) in
    let more_f : sum_below f (suc n) ≡ sum_below f n + f n = ap (sum_below f) (sym (add-one n)) ∙ sum_below_more f n in
    let more_g : sum_below g (suc n) ≡ sum_below g n + g n = ap (sum_below g) (sym (add-one n)) ∙ sum_below_more g n in
    let more_h : sum_below h (suc n) ≡ sum_below h n + h n = ap (sum_below h) (sym (add-one n)) ∙ sum_below_more h n in
    omega arith

-- a whole number that isn't below 0
size_of : ℤ → ℕ
size_of (pos n) = n
size_of (negsuc n) = 0

size_is : (z : ℤ) → pos 0 ≤ℤ z → z ≡ pos (size_of z)
unfolding size_of
size_is (pos n) h = refl
size_is (negsuc n) h = absurd (omega (arith, ints))

-- sums of both potentials at each place are those of the sites
pub are_sums : (m : MatrixData) (p : Potentials) (u v : List ℤ) (latencies : List ℕ) → IsAssignment m p → u ≡ p.u → v ≡ p.v → length latencies ≡ length u → ((i : ℕ) → i < length u → pos (get_or latencies i 0) ≡ (potential u i +ℤ potential v i)) → AreSums m p latencies
are_sums m p u v latencies assigned rows columns size sums =
    let long : length u ≡ count_of m = ap length rows ∙ assigned.rows in
    record {
      size = size ∙ long;
      sums = λ i low. (sums i (omega arith) ∙ ap (λ xs. potential xs i +ℤ potential v i) rows ∙ ap (λ xs. potential p.u i +ℤ potential xs i) columns);
    }

module _ (orders : PairingsAreOrders) (add_up : PartnersAddUp) (m : MatrixData) (p : Potentials) (latencies : List ℕ) (limits : IsMatrix m.names m.trips) (assigned : IsAssignment m p) (added : AreSums m p latencies) where
  abbrev plan : PlanData
  plan = planned m latencies

  row : ℕ → ℕ
  row i = size_of (potential p.u i)

  column : ℕ → ℕ
  column j = size_of (potential p.v j)

  row_range : (i : ℕ) → i < count_of m → IsInRange (potential p.u i)
  row_range i low = All-get_or IsInRange p.u i (pos 0) (let size : length p.u ≡ count_of m = assigned.rows in omega arith) assigned.rows_in_range

  column_range : (j : ℕ) → j < count_of m → IsInRange (potential p.v j)
  column_range j low = All-get_or IsInRange p.v j (pos 0) (let size : length p.v ≡ count_of m = assigned.columns in omega arith) assigned.columns_in_range

  row_is : (i : ℕ) → i < count_of m → potential p.u i ≡ pos (row i)
  unfolding row
  row_is i low = size_is (potential p.u i) (row_range i low).0

  column_is : (j : ℕ) → j < count_of m → potential p.v j ≡ pos (column j)
  unfolding column
  column_is j low = size_is (potential p.v j) (column_range j low).0

  latency_is : (i : ℕ) → i < count_of m → get_or latencies i 0 ≡ row i + column i
  latency_is i low = whole_sum (get_or latencies i 0) (row i) (column i) (potential p.u i) (potential p.v i) (row_is i low) (column_is i low) (added.sums i low)
    where
      whole_sum : (l a b : ℕ) (x y : ℤ) → x ≡ pos a → y ≡ pos b → pos l ≡ (x +ℤ y) → l ≡ a + b
      whole_sum l a b x y x_is y_is h = omega (arith, ints)

  row_small : (i : ℕ) → i < count_of m → row i ≤ longest_trip
  row_small i low = small (row i) (potential p.u i) (row_is i low) (row_range i low).1
    where
      small : (a : ℕ) (x : ℤ) → x ≡ pos a → x ≤ℤ pos longest_trip → a ≤ longest_trip
      small a x is h = omega (arith, ints)

  column_small : (j : ℕ) → j < count_of m → column j ≤ longest_trip
  column_small j low = small (column j) (potential p.v j) (column_is j low) (column_range j low).1
    where
      small : (a : ℕ) (x : ℤ) → x ≡ pos a → x ≤ℤ pos longest_trip → a ≤ longest_trip
      small a x is h = omega (arith, ints)

  trip_reached : (i j : ℕ) → i < count_of m → j < count_of m → distance m i j ≤ row i + column j
  trip_reached i j first second = whole (distance m i j) (row i) (column j) (potential p.u i) (potential p.v j) (row_is i first) (column_is j second) (assigned.reached i j first second)
    where
      whole : (t a b : ℕ) (x y : ℤ) → x ≡ pos a → y ≡ pos b → pos t ≤ℤ (x +ℤ y) → t ≤ a + b
      whole t a b x y x_is y_is h = omega (arith, ints)

  pairing : IsPairing (count_of m) p.s
  pairing = (orders (count_of m) p.s).0 assigned.permutation

  partner : ℕ → ℕ
  partner i = get_or p.s i 0

  partner_low : (i : ℕ) → i < count_of m → partner i < count_of m
  unfolding partner
  partner_low i low = pairing.sites i low

  trip_tight : (i : ℕ) → i < count_of m → distance m i (partner i) ≡ row i + column (partner i)
  unfolding partner
  trip_tight i low = whole (distance m i (get_or p.s i 0)) (row i) (column (get_or p.s i 0)) (potential p.u i) (potential p.v (get_or p.s i 0)) (row_is i low) (column_is (get_or p.s i 0) (partner_low i low)) (assigned.tight i low)
    where
      whole : (t a b : ℕ) (x y : ℤ) → x ≡ pos a → y ≡ pos b → (x +ℤ y) ≡ pos t → t ≡ a + b
      whole t a b x y x_is y_is h = omega (arith, ints)

  -- no latency passes its limit
  pub is_plan : IsPlan m.names m.trips latencies
  is_plan = record {
    matrix = limits;
    planned = added.size;
    bounded = All-from_get_or (λ half_micros. half_micros ≤ greatest_latency) latencies 0 (λ i within. (
        let low : i < count_of m = (let size : length latencies ≡ count_of m = added.size in omega arith) in
        let is : get_or latencies i 0 ≡ row i + column i = latency_is i low in
        let first : row i ≤ longest_trip = row_small i low in
        let second : column i ≤ longest_trip = column_small i low in
        omega arith));
  }

  -- any two latencies reach the round trip there and back
  pub is_accepted : IsAccepted (planned m latencies)
  is_accepted = record {
    limits = is_plan;
    reached = λ i j first second apart. (
        let there : distance m i j ≤ row i + column j = trip_reached i j first second in
        let back : distance m j i ≤ row j + column i = trip_reached j i second first in
        let same : distance m i j ≡ distance m j i = limits.symmetric i j first second in
        let first_is : get_or latencies i 0 ≡ row i + column i = latency_is i first in
        let second_is : get_or latencies j 0 ≡ row j + column j = latency_is j second in
        omega arith);
  }

  columns : List ℕ
  columns = map size_of p.v

  columns_long : length columns ≡ count_of m
  unfolding columns
  columns_long = length-map p.v size_of ∙ assigned.columns

  column_at : (j : ℕ) → j < count_of m → get_or columns j 0 ≡ column j
  unfolding columns column
  column_at j low = get_or-map size_of p.v j (pos 0) 0 (let size : length p.v ≡ count_of m = assigned.columns in omega arith)

  -- the latencies add up to the round trips to the partners
  pub is_certified : IsCertificate (planned m latencies) p.s
  unfolding partner
  is_certified =
      let n : ℕ = count_of m in
      let own : sum latencies ≡ sum_below (λ i. get_or latencies i 0) n = sym (sum_below-items latencies) ∙ ap (sum_below (λ i. get_or latencies i 0)) added.size in
      let split : sum_below (λ i. get_or latencies i 0) n ≡ sum_below row n + sum_below (λ i. get_or columns i 0) n =
      sum_below-split (λ i. get_or latencies i 0) row (λ i. get_or columns i 0) n (λ i low. (
      let is : get_or latencies i 0 ≡ row i + column i = latency_is i low in
      let at : get_or columns i 0 ≡ column i = column_at i low in
      omega arith)) in
      let value : sum_below (λ i. distance m i (get_or p.s i 0)) n ≡ sum_below row n + sum_below (λ i. get_or columns (get_or p.s i 0) 0) n =
      sum_below-split (λ i. distance m i (get_or p.s i 0)) row (λ i. get_or columns (get_or p.s i 0) 0) n (λ i low. (
      let is : distance m i (get_or p.s i 0) ≡ row i + column (get_or p.s i 0) = trip_tight i low in
      let at : get_or columns (get_or p.s i 0) 0 ≡ column (get_or p.s i 0) = column_at (get_or p.s i 0) (partner_low i low) in
      omega arith)) in
      let all : sum_below (λ i. get_or columns i 0) n ≡ sum columns = ap (sum_below (λ i. get_or columns i 0)) (sym columns_long) ∙ sum_below-items columns in
      let partners : sum_below (λ i. get_or columns (get_or p.s i 0) 0) n ≡ sum columns = add_up n p.s columns pairing columns_long in
      record {
        pairing = assigned.permutation;
        value = (let same : sum latencies ≡ sum_below (λ i. distance m i (get_or p.s i 0)) n = omega arith in same);
      }

  pub is_optimal : CertificatesShowOptimal → (made : PlanData) → made ≡ planned m latencies → IsOptimal made
  is_optimal shows made is = subst IsOptimal (sym is) (shows plan p.s is_accepted is_certified)

  pub is_judged : EachSearchFindsFirst → EachShortPairIsFound → verdict_of (planned m latencies) p.s ≡ verdicts.Optimal (sum latencies)
  is_judged finds shorts = sym (verdict_is finds shorts orders plan p.s (verdicts.Optimal (sum latencies)) pairing.size (is_accepted, is_certified, refl))

  pub is_long : length p.s ≡ count_of m
  is_long = pairing.size

  -- each partner is a site
  pub are_sites : All (λ partner. partner < most_sites) p.s
  are_sites = All-from_get_or (λ partner. partner < most_sites) p.s 0 (λ i within. (
      let low : i < count_of m = (let size : length p.s ≡ count_of m = is_long in omega arith) in
      let below : get_or p.s i 0 < count_of m = pairing.sites i low in
      let few : count_of m ≤ most_sites = limits.few in
      omega arith))
