use Rattle.std.proofs.Common.{◌≡◌, ◌∙◌, ap, sym, subst, refl, arith, add-zero, eq-eqb, ℕ, ◌+◌, ◌*◌, ◌/◌, ◌%◌, ◌<◌, ◌≤◌, List, [], ◌∷◌, ◌++◌, length, get_or, map, take, drop}
use Rattle.std.specs.List.{range_with_len}
use Rattle.std.specs.Prelude.{slice_set}
use Rattle.std.proofs.Math.Nat.{div-add-mod'}
use Rattle.std.proofs.lemmas.List.{length-set, get_or-drop, take_all, take_more_set, drop-set-lt}
use Rattle.std.proofs.lemmas.List.FromFn.{get_or-map-range_with_len, map-range_with_len_more}
use Rattle.std.proofs.lemmas.Nat.{div-mul-add, mod-mul-add, mul-add-lt}
use Rattle.std.proofs.lemmas.Grind.{drop_more_same}
use Rattle.helios_model.specs.Grid.{at}
use Rattle.helios_model.specs.Exchange.{merged_at}
use Rattle.time_table.specs.Table.{TableData, merged_with, time_at}

-- the time that a merge puts at a place
abbrev pub merged_place : TableData → ℕ → List ℕ → List ℕ → ℕ → ℕ
merged_place t own theirs cover place = merged_at t.count own t.times theirs cover (place / t.count) (place % t.count)

-- the places below one are merged, and the others are as they were
pub record IsMergedUpTo (before after : TableData) (own : ℕ) (theirs cover : List ℕ) (place : ℕ) : Type 0 where
  pub count : after.count ≡ before.count
  pub sized : length after.times ≡ length before.times
  pub front : take place after.times ≡ map (merged_place before own theirs cover) (range_with_len 0 place)
  pub rest : drop place after.times ≡ drop place before.times

pub merged_none : (t : TableData) (own : ℕ) (theirs cover : List ℕ) → IsMergedUpTo t t own theirs cover 0
merged_none t own theirs cover = record { count = refl; sized = refl; front = refl; rest = refl }

-- a place that is not merged yet has the time that it had
still_there : (before after : TableData) (own : ℕ) (theirs cover : List ℕ) (place : ℕ) → IsMergedUpTo before after own theirs cover place
    → get_or after.times place 0 ≡ get_or before.times place 0
still_there before after own theirs cover place h =
    first_left after.times ∙ ap (λ xs. get_or xs 0 0) h.rest ∙ sym (first_left before.times)
  where
    first_left : (times : List ℕ) → get_or times place 0 ≡ get_or (drop place times) 0 0
    first_left times = sym (get_or-drop place times 0 0 ∙ ap (λ i. get_or times i 0) (add-zero place))

-- the same at its row and column
same_known : (before after : TableData) (own : ℕ) (theirs cover : List ℕ) (place : ℕ) → IsMergedUpTo before after own theirs cover place
    → at before.count after.times (place / before.count) (place % before.count) ≡ at before.count before.times (place / before.count) (place % before.count)
same_known before after own theirs cover place h =
    ap (λ i. get_or after.times i 0) (div-add-mod' place before.count)
    ∙ still_there before after own theirs cover place h
    ∙ sym (ap (λ i. get_or before.times i 0) (div-add-mod' place before.count))

pub merged_more : (before after : TableData) (own : ℕ) (theirs cover : List ℕ) (place time : ℕ) → IsMergedUpTo before after own theirs cover place
    → place < length after.times → time ≡ merged_place after own theirs cover place
    → IsMergedUpTo before (record { count = after.count; times = slice_set after.times place time }) own theirs cover (place + 1)
merged_more before after own theirs cover place time h low is = record {
  count = h.count;
  sized = length-set after.times place time ∙ h.sized;
  front =
      take_more_set after.times place time low
      ∙ ap (λ xs. xs ++ time ∷ []) h.front
      ∙ ap (λ t. map (merged_place before own theirs cover) (range_with_len 0 place) ++ t ∷ []) same
      ∙ sym (map-range_with_len_more (merged_place before own theirs cover) 0 place place (omega arith));
  rest = drop-set-lt (place + 1) after.times place time (omega arith) ∙ drop_more_same after.times before.times place h.rest;
}
  where
    same : time ≡ merged_place before own theirs cover place
    same =
        is
        ∙ ap (λ count. merged_at count own after.times theirs cover (place / count) (place % count)) h.count
        ∙ rw (same_known before after own theirs cover place h) refl

pub merged_all : (before after : TableData) (own : ℕ) (theirs cover : List ℕ) (place : ℕ) → IsMergedUpTo before after own theirs cover place
    → place ≡ before.count * before.count → length before.times ≡ before.count * before.count → after ≡ merged_with before own theirs cover
merged_all before after own theirs cover place h end square =
    ap (λ count. record { count = count; times = after.times }) h.count
    ∙ ap (λ times. record { count = before.count; times = times }) whole
  where
    whole : after.times ≡ map (merged_place before own theirs cover) (range_with_len 0 (before.count * before.count))
    whole =
        let all : length after.times ≤ place = subst (λ n. n ≤ place) (sym (h.sized ∙ square)) (subst (λ n. before.count * before.count ≤ n) (sym end) (omega arith)) in
        sym (take_all place after.times all) ∙ h.front ∙ ap (λ n. map (merged_place before own theirs cover) (range_with_len 0 n)) end

-- a merge leaves the own time of the site as it is
pub home_merged : (t : TableData) (own : ℕ) (theirs cover : List ℕ) → own < t.count → time_at (merged_with t own theirs cover) own own ≡ time_at t own own
home_merged t own theirs cover low =
    let place : ℕ = own * t.count + own in
    let inside : place < t.count * t.count = mul-add-lt own t.count own t.count low low in
    get_or-map-range_with_len (merged_place t own theirs cover) 0 (t.count * t.count) place place 0 inside (omega arith)
    ∙ ap (λ row. merged_at t.count own t.times theirs cover row (place % t.count)) (div-mul-add own t.count own low)
    ∙ ap (λ column. merged_at t.count own t.times theirs cover own column) (mod-mul-add own t.count own low)
    ∙ rw (eq-eqb own own refl) refl
