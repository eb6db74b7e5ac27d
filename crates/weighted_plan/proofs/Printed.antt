-- The value of a plan with weights and a flow has no float and is shallow, so its text is known.
use Rattle.std.proofs.Common.{◌≡◌, ℕ, ◌+◌, ◌≤◌, Bool, true, false, ◌||◌, List, [], ◌∷◌, map, refl, arith}
use Rattle.std.specs.List.{range_with_len}
use Rattle.helios_model.specs.Plans.{PlanData, count_of}
use Rattle.serde_json.specs.Data.{Data, string, depth, items_depth}
use Rattle.serde_json.specs.View.{items_of}
use Rattle.serde_json.specs.Written.{has_float, items_have_float}
use Rattle.helios_model.specs.Grid.{at}
use Rattle.weighted_plan.specs.Printing.{array_data, members_data, row_data, square_data, weighted_data, whole}
use Rattle.weighted_plan.specs.Weighted.{weighted_sum}

neither : (b c : Bool) → b ≡ false → c ≡ false → (b || c) ≡ false
neither true c first second = cc
neither false c first second = second

items_float : {X : Type 0} (f : X → Data) → ((x : X) → has_float (f x) ≡ false) → (xs : List X) → items_have_float (items_of (map f xs)) ≡ false
items_float f none [] = refl
items_float f none (x ∷ xs) = neither (has_float (f x)) (items_have_float (items_of (map f xs))) (none x) (items_float f none xs)

square_float : (n : ℕ) (square : List ℕ) → has_float (square_data n square) ≡ false
square_float n square = items_float (row_data n square) (λ i. items_float (λ j. whole (at n square i j)) (λ j. refl) (range_with_len 0 n)) (range_with_len 0 n)

members_float : (flow latency names trips total weights : Data) → has_float flow ≡ false → has_float latency ≡ false → has_float names ≡ false → has_float trips ≡ false → has_float total ≡ false → has_float weights ≡ false → has_float (members_data flow latency names trips total weights) ≡ false
unfolding members_data
members_float flow latency names trips total weights a b c d e f =
    neither (has_float flow) _ a (neither (has_float latency) _ b (neither (has_float names) _ c (neither (has_float trips) _ d (neither (has_float total) _ e (neither (has_float weights) _ f refl)))))

pub no_float : (plan : PlanData) (weights flow : List ℕ) → has_float (weighted_data plan weights flow) ≡ false
no_float plan weights flow = members_float (square_data (count_of plan) flow) (array_data whole plan.latencies) (array_data string plan.names)
    (square_data (count_of plan) plan.trips) (whole (weighted_sum weights plan.latencies)) (array_data whole weights)
    (square_float (count_of plan) flow) (items_float whole (λ n. refl) plan.latencies) (items_float string (λ name. refl) plan.names)
    (square_float (count_of plan) plan.trips) refl (items_float whole (λ n. refl) weights)

items_depth-le : {X : Type 0} (f : X → Data) (m : ℕ) → ((x : X) → depth (f x) ≤ m) → (xs : List X) → items_depth (items_of (map f xs)) ≤ m
items_depth-le f m low [] = omega arith
items_depth-le f m low (x ∷ xs) =
    let first : depth (f x) ≤ m = low x in
    let rest : items_depth (items_of (map f xs)) ≤ m = items_depth-le f m low xs in
    omega arith

array_depth : {X : Type 0} (f : X → Data) (m : ℕ) → ((x : X) → depth (f x) ≤ m) → (xs : List X) → depth (array_data f xs) ≤ m + 1
array_depth f m low xs = (let items : items_depth (items_of (map f xs)) ≤ m = items_depth-le f m low xs in omega arith)

square_depth : (n : ℕ) (square : List ℕ) → depth (square_data n square) ≤ 2
square_depth n square = array_depth (row_data n square) 1 (λ i. array_depth (λ j. whole (at n square i j)) 0 (λ j. omega arith) (range_with_len 0 n)) (range_with_len 0 n)

numbers_depth : (numbers : List ℕ) → depth (array_data whole numbers) ≤ 2
numbers_depth numbers = (let low : depth (array_data whole numbers) ≤ 1 = array_depth whole 0 (λ n. omega arith) numbers in omega arith)

members_depth-le : (flow latency names trips total weights : Data) → depth flow ≤ 2 → depth latency ≤ 2 → depth names ≤ 2 → depth trips ≤ 2 → depth total ≤ 2 → depth weights ≤ 2 → depth (members_data flow latency names trips total weights) ≤ 127
unfolding members_data
members_depth-le flow latency names trips total weights a b c d e f = omega arith

pub shallow : (plan : PlanData) (weights flow : List ℕ) → depth (weighted_data plan weights flow) ≤ 127
shallow plan weights flow = members_depth-le (square_data (count_of plan) flow) (array_data whole plan.latencies) (array_data string plan.names)
    (square_data (count_of plan) plan.trips) (whole (weighted_sum weights plan.latencies)) (array_data whole weights)
    (square_depth (count_of plan) flow) (numbers_depth plan.latencies)
    (let low : depth (array_data string plan.names) ≤ 1 = array_depth string 0 (λ name. omega arith) plan.names in omega arith)
    (square_depth (count_of plan) plan.trips) (omega arith) (numbers_depth weights)
