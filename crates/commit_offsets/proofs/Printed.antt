-- The value of a plan has no float and is shallow, so its text is known and is read again.
use Rattle.std.proofs.Common.{◌≡◌, ℕ, ◌+◌, ◌≤◌, Bool, true, false, ◌||◌, ℤ, pos, List, [], ◌∷◌, map, refl, arith}
use Rattle.std.specs.Prelude.{negsuc, sum}
use Rattle.std.specs.List.{range_with_len}
use Rattle.helios_model.specs.Offset.{offset}
use Rattle.helios_model.specs.Plans.{PlanData, count_of, rtt}
use Rattle.serde_json.specs.Data.{Data, string, depth, items_depth}
use Rattle.serde_json.specs.View.{items_of}
use Rattle.serde_json.specs.Written.{has_float, items_have_float}
use Rattle.commit_offsets.specs.Printing.{whole, signed, array_data, row_data, square_data, members_data, plan_data}

pub neither : (b c : Bool) → b ≡ false → c ≡ false → (b || c) ≡ false
neither true c first second = cc
neither false c first second = second

pub items_float : {X : Type 0} (f : X → Data) → ((x : X) → has_float (f x) ≡ false) → (xs : List X) → items_have_float (items_of (map f xs)) ≡ false
items_float f none [] = refl
items_float f none (x ∷ xs) = neither (has_float (f x)) (items_have_float (items_of (map f xs))) (none x) (items_float f none xs)

signed_float : (z : ℤ) → has_float (signed z) ≡ false
signed_float (pos n) = refl
signed_float (negsuc n) = refl

pub square_float : (n : ℕ) (f : ℕ → ℕ → Data) → ((i j : ℕ) → has_float (f i j) ≡ false) → has_float (square_data n f) ≡ false
square_float n f none = items_float (λ i. row_data n (f i)) (λ i. items_float (f i) (none i) (range_with_len 0 n)) (range_with_len 0 n)

members_float : (latency names offsets pair trips total : Data) → has_float latency ≡ false → has_float names ≡ false → has_float offsets ≡ false → has_float pair ≡ false → has_float trips ≡ false → has_float total ≡ false → has_float (members_data latency names offsets pair trips total) ≡ false
unfolding members_data
members_float latency names offsets pair trips total a b c d e f =
    neither (has_float latency) _ a (neither (has_float names) _ b (neither (has_float offsets) _ c (neither (has_float pair) _ d (neither (has_float trips) _ e (neither (has_float total) _ f refl)))))

pub no_float : (plan : PlanData) (pair : List ℕ) → has_float (plan_data plan pair) ≡ false
no_float plan pair = members_float (array_data whole plan.latencies) (array_data string plan.names)
    (square_data (count_of plan) (λ i j. signed (offset plan i j))) (array_data whole pair)
    (square_data (count_of plan) (λ i j. whole (rtt plan i j))) (whole (sum plan.latencies))
    (items_float whole (λ n. refl) plan.latencies) (items_float string (λ name. refl) plan.names)
    (square_float (count_of plan) (λ i j. signed (offset plan i j)) (λ i j. signed_float (offset plan i j)))
    (items_float whole (λ n. refl) pair)
    (square_float (count_of plan) (λ i j. whole (rtt plan i j)) (λ i j. refl)) refl

items_depth-le : {X : Type 0} (f : X → Data) (m : ℕ) → ((x : X) → depth (f x) ≤ m) → (xs : List X) → items_depth (items_of (map f xs)) ≤ m
items_depth-le f m low [] = omega arith
items_depth-le f m low (x ∷ xs) =
    let first : depth (f x) ≤ m = low x in
    let rest : items_depth (items_of (map f xs)) ≤ m = items_depth-le f m low xs in
    omega arith

signed_depth : (z : ℤ) → depth (signed z) ≤ 0
signed_depth z = omega arith

array_depth : {X : Type 0} (f : X → Data) (m : ℕ) → ((x : X) → depth (f x) ≤ m) → (xs : List X) → depth (array_data f xs) ≤ m + 1
array_depth f m low xs = (let items : items_depth (items_of (map f xs)) ≤ m = items_depth-le f m low xs in omega arith)

square_depth : (n : ℕ) (f : ℕ → ℕ → Data) → ((i j : ℕ) → depth (f i j) ≤ 0) → depth (square_data n f) ≤ 2
square_depth n f flat = array_depth (λ i. row_data n (f i)) 1 (λ i. array_depth (f i) 0 (flat i) (range_with_len 0 n)) (range_with_len 0 n)

members_depth-le : (latency names offsets pair trips total : Data) → depth latency ≤ 2 → depth names ≤ 2 → depth offsets ≤ 2 → depth pair ≤ 2 → depth trips ≤ 2 → depth total ≤ 2 → depth (members_data latency names offsets pair trips total) ≤ 127
unfolding members_data
members_depth-le latency names offsets pair trips total a b c d e f = omega arith

pub shallow : (plan : PlanData) (pair : List ℕ) → depth (plan_data plan pair) ≤ 127
shallow plan pair = members_depth-le (array_data whole plan.latencies) (array_data string plan.names)
    (square_data (count_of plan) (λ i j. signed (offset plan i j))) (array_data whole pair)
    (square_data (count_of plan) (λ i j. whole (rtt plan i j))) (whole (sum plan.latencies))
    (let low : depth (array_data whole plan.latencies) ≤ 1 = array_depth whole 0 (λ n. omega arith) plan.latencies in omega arith)
    (let low : depth (array_data string plan.names) ≤ 1 = array_depth string 0 (λ name. omega arith) plan.names in omega arith)
    (square_depth (count_of plan) (λ i j. signed (offset plan i j)) (λ i j. signed_depth (offset plan i j)))
    (let low : depth (array_data whole pair) ≤ 1 = array_depth whole 0 (λ n. omega arith) pair in omega arith)
    (square_depth (count_of plan) (λ i j. whole (rtt plan i j)) (λ i j. omega arith))
    (omega arith)
