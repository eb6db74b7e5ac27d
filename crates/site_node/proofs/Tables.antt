-- Tables of times in which none is lower than before.
use Rattle.std.proofs.Common.{◌≡◌, ap, sym, subst, ℕ, ◌+◌, ◌*◌, ◌/◌, ◌%◌, ◌<◌, ◌≤◌, ◌⊎◌, inl, inr, max, List, length, arith}
use Rattle.std.specs.Prelude.{slice_index, slice_set}
use Rattle.std.proofs.Math.Nat.{le-max_left}
use Rattle.std.proofs.lemmas.Nat.{div-add-mod'}
use Rattle.std.proofs.lemmas.Bool.{cases_Bool, cases_eq, cases_lt}
use Rattle.std.proofs.lemmas.List.{get_or_past, get_or-set_other, get_or-set_same, set_past}
use Rattle.std.proofs.lemmas.List.FromFn.{get_or-map-range_with_len}
use Rattle.std.specs.Prelude.{true, false, nat_eq}
use Rattle.helios_model.specs.Exchange.{merged, merged_at}
use Rattle.log_exchange.specs.Laws.{IsNoLower}

-- one time is raised
pub raised_no_lower : (table : List ℕ) (at time : ℕ) → IsNoLower table (slice_set table at (max (slice_index table at) time))
raised_no_lower table at time place = by_place (cases_eq place at) (cases_lt at (length table))
  where
    by_place : (place ≡ at) ⊎ (place ≡ at → ⊥) → (at < length table) ⊎ (length table ≤ at)
        → slice_index table place ≤ slice_index (slice_set table at (max (slice_index table at) time)) place
    by_place (inl same) (inl inside) =
        subst (λ p. slice_index table p ≤ slice_index (slice_set table at (max (slice_index table at) time)) p) (sym same)
        (subst (λ t. slice_index table at ≤ t) (sym (get_or-set_same table at (max (slice_index table at) time) 0 inside)) (le-max_left (slice_index table at) time))
    by_place (inl same) (inr past) = subst (λ ts. slice_index table place ≤ slice_index ts place) (sym (set_past table at (max (slice_index table at) time) past)) (omega arith)
    by_place (inr other) inside = subst (λ t. slice_index table place ≤ t) (sym (get_or-set_other table at place (max (slice_index table at) time) 0 other)) (omega arith)

-- each time takes the greater of itself and a message's
pub merged_no_lower : (count own : ℕ) (table theirs cover : List ℕ) → length table ≡ count * count → IsNoLower table (merged count own table theirs cover)
merged_no_lower count own table theirs cover sized place = by_place (cases_lt place (count * count))
  where
    row : ℕ
    row = place / count

    column : ℕ
    column = place % count

    known : slice_index table (row * count + column) ≡ slice_index table place
    known = ap (slice_index table) (div-add-mod' place count)

    greater : slice_index table (row * count + column) ≤ merged_at count own table theirs cover row column
    greater = by_row (cases_Bool (nat_eq row own)) (cases_Bool (nat_eq column own))
      where
        by_row : (nat_eq row own ≡ true) ⊎ (nat_eq row own ≡ false) → (nat_eq column own ≡ true) ⊎ (nat_eq column own ≡ false)
            → slice_index table (row * count + column) ≤ merged_at count own table theirs cover row column
        by_row (inl here) (inl itself) = rw (here, itself) (omega arith)
        by_row (inl here) (inr other) = rw (here, other) (le-max_left (slice_index table (row * count + column)) (slice_index cover column))
        by_row (inr there) c = rw there (le-max_left (slice_index table (row * count + column)) (slice_index theirs (row * count + column)))

    by_place : (place < count * count) ⊎ (count * count ≤ place) → slice_index table place ≤ slice_index (merged count own table theirs cover) place
    by_place (inl inside) =
        subst (λ t. slice_index table place ≤ t)
        (sym (get_or-map-range_with_len (λ p. merged_at count own table theirs cover (p / count) (p % count)) 0 (count * count) place place 0 inside (omega arith)))
        (subst (λ t. t ≤ merged_at count own table theirs cover row column) known greater)
    by_place (inr past) =
        let long : length table ≤ place = omega arith in
        let none : slice_index table place ≡ 0 = get_or_past table place 0 long in
        omega arith
