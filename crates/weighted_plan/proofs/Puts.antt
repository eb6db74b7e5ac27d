-- A square of which one number changes.
use Rattle.std.proofs.Common.{◌≡◌, ℕ, ◌+◌, ◌*◌, ◌<◌, ◌≤◌, ◌%◌, ◌/◌, List, length, sym, ◌∙◌, ap, arith, get_or-set_same, get_or-set_other, length-set}
use Rattle.std.proofs.lemmas.Nat.{div-mul-add, mod-mul-add}
use Rattle.helios_model.specs.Grid.{at, put}
use Rattle.weighted_plan.specs.Flows.{column_sum, row_sum}
use Rattle.weighted_plan.proofs.Additions.{changed_sum, same_sum, term_bounded}
use Rattle.weighted_plan.proofs.Places.{cell_within}

-- no number is over the sum of its row or its column
pub at_row_bounded : (n : ℕ) (flow : List ℕ) (i j : ℕ) → j < n → at n flow i j ≤ row_sum n flow i
at_row_bounded n flow i j column = term_bounded (λ k. at n flow i k) n j column

pub at_column_bounded : (n : ℕ) (flow : List ℕ) (i j : ℕ) → i < n → at n flow i j ≤ column_sum n flow j
at_column_bounded n flow i j row = term_bounded (λ k. at n flow k j) n i row

module _ (n : ℕ) (flow : List ℕ) (r c x : ℕ) (cells : length flow ≡ n * n) (row : r < n) (column : c < n) where
  pub put_long : length (put n flow r c x) ≡ n * n
  put_long = length-set flow (r * n + c) x ∙ cells

  pub put_here : at n (put n flow r c x) r c ≡ x
  put_here = get_or-set_same flow (r * n + c) x 0 (let within : r * n + c < n * n = cell_within n r c row column in omega arith)

  pub put_elsewhere : (i j : ℕ) → j < n → ((i ≡ r) → (j ≡ c) → ⊥) → at n (put n flow r c x) i j ≡ at n flow i j
  put_elsewhere i j j_in apart = get_or-set_other flow (r * n + c) (i * n + j) x 0 (λ same.
      apart
      (sym (div-mul-add i n j j_in) ∙ ap (λ p. p / n) same ∙ div-mul-add r n c column)
      (sym (mod-mul-add i n j j_in) ∙ ap (λ p. p % n) same ∙ mod-mul-add r n c column))

  pub put_row : row_sum n (put n flow r c x) r + at n flow r c ≡ row_sum n flow r + x
  put_row =
      let all : row_sum n (put n flow r c x) r + at n flow r c ≡ row_sum n flow r + at n (put n flow r c x) r c =
      changed_sum (λ j. at n flow r j) (λ j. at n (put n flow r c x) r j) c n column (λ j j_in other. put_elsewhere r j j_in (λ same_row same_column. other same_column)) in
      all ∙ ap (λ m. row_sum n flow r + m) put_here

  pub put_column : column_sum n (put n flow r c x) c + at n flow r c ≡ column_sum n flow c + x
  put_column =
      let all : column_sum n (put n flow r c x) c + at n flow r c ≡ column_sum n flow c + at n (put n flow r c x) r c =
      changed_sum (λ i. at n flow i c) (λ i. at n (put n flow r c x) i c) r n row (λ i i_in other. put_elsewhere i c column (λ same_row same_column. other same_row)) in
      all ∙ ap (λ m. column_sum n flow c + m) put_here

  pub put_other_row : (i : ℕ) → (i ≡ r → ⊥) → row_sum n (put n flow r c x) i ≡ row_sum n flow i
  put_other_row i other = same_sum (λ j. at n (put n flow r c x) i j) (λ j. at n flow i j) n (λ j j_in. put_elsewhere i j j_in (λ same_row same_column. other same_row))

  pub put_other_column : (j : ℕ) → j < n → (j ≡ c → ⊥) → column_sum n (put n flow r c x) j ≡ column_sum n flow j
  put_other_column j j_in other = same_sum (λ i. at n (put n flow r c x) i j) (λ i. at n flow i j) n (λ i i_in. put_elsewhere i j j_in (λ same_row same_column. other same_column))
