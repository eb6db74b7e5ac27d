-- How many good rows come first.
use Rattle.std.proofs.Common.{◌≡◌, ℕ, ◌+◌, ◌≤◌, Bool, true, false, List, Some, None, length, cond, refl, sym, ◌∙◌, arith}
use Rattle.std.specs.Prelude.{is_some, not, nat_lt, unwrap_or, position}
use Rattle.std.specs.List.{position_or_len}
use Rattle.std.proofs.lemmas.Bool.{ltb-false}
use Rattle.std.proofs.lemmas.List.Recursion.{is_position_or_len}
use Rattle.std.proofs.lemmas.List.Sums.{prefix_len-le-length}
use Rattle.json_text.specs.Arrays.{whole_number, row_of}
use Rattle.serde_json.specs.View.{view, items_view}
use Rattle.serde_json.specs.declared.value.Value.{Value}
use Rattle.rtt_matrix.specs.Reading.{good_rows}

-- whether a value is no row of n whole numbers
abbrev pub is_other : ℕ → Value → Bool
is_other n v = not (is_some (row_of n whole_number (view v)))

turned : (b : Bool) (m : ℕ) → cond b (1 + m) 0 ≡ cond (not b) 0 (1 + m)
turned true m = refl
turned false m = refl

found_or_all : (b : Bool) (k n : ℕ) → (b ≡ false → k ≡ n) → unwrap_or (cond b (Some k) None) n ≡ k
found_or_all true k n all = refl
found_or_all false k n all = sym (all refl)

-- the place of the first that is none, or how many there are
pub first_rows : (n : ℕ) (rows : List Value) → unwrap_or (position (is_other n) rows) (length rows) ≡ good_rows n (items_view rows)
first_rows n rows =
    let k : ℕ = position_or_len (is_other n) rows in
    found_or_all (nat_lt k (length rows)) k (length rows) (λ past. (
    let least : length rows ≤ k = ltb-false k (length rows) past in
    let most : k ≤ length rows = prefix_len-le-length (λ v. not (is_other n v)) rows in
    omega arith))
    ∙ sym (is_position_or_len (λ vs. good_rows n (items_view vs)) (is_other n) refl (λ v vs. turned (is_some (row_of n whole_number (view v))) (good_rows n (items_view vs))) rows)
