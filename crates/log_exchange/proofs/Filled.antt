-- A message, round by round, until it is full or nothing is left that is due.
use Rattle.std.proofs.Common.{◌≡◌, ◌∙◌, inl, inr, ℕ, zero, suc, ◌+◌, ◌<◌, ◌≤◌, List, [], ◌∷◌, ◌++◌, Bool, true, false, cond, Option, Some, None, filter, find, map, take, drop, length, nat_eq, nat_lt, refl, sym, ap, subst, arith, add-one}
use Rattle.std.specs.List.{AllByRecursion, cons_option, range_with_len}
use Rattle.std.specs.Option.{option_map}
use Rattle.std.specs.Map.{values_of}
use Rattle.std.specs.Prelude.{slice_index}
use Rattle.std.proofs.lemmas.Bool.{cases_eq}
use Rattle.std.proofs.lemmas.Bool.Decides.{nat_tests}
use Rattle.std.proofs.lemmas.List.FromFn.{map-range_with_len_more}
use Rattle.helios_model.specs.declared.records.Record.{Record}
use Rattle.helios_model.specs.Limits.{most_records}
use Rattle.helios_model.specs.Log.{origin, own_time}
use Rattle.helios_model.specs.Exchange.{cover_at, covered, due, is_due}
use Rattle.log_exchange.specs.declared.run.Stamp.{Stamp}
use Rattle.log_exchange.specs.declared.selection.Head.{Head}
use Rattle.log_exchange.specs.Kept.{cover_of}
use Rattle.log_exchange.specs.Heads.{HasGoneOn, IsAhead, IsFilled, IsLeast, IsLine, IsNextHead, IsStarted, IsTaken, covered_to, head_of}
use Rattle.log_exchange.specs.Runs.{Backlogged, IsOfSite, due_stamps, first_stamp, record_under, run_of, stamp_of}
use Rattle.log_exchange.proofs.Ahead.{ahead_first, least_is, none_left, other_head, own_head}
use Rattle.log_exchange.proofs.Fronts.{first_is}
use Rattle.log_exchange.proofs.Passing.{rest_of}

pub within_run : (place : ℕ) (run : List Stamp) (a : ℕ) → option_map (λ s. s.arrival) (first_stamp (drop place run)) ≡ Some a → place < length run
within_run zero [] a is = absurd (cc)
within_run (suc n) [] a is = absurd (cc)
within_run zero (s ∷ run) a is = omega arith
within_run (suc n) (s ∷ run) a is = let inside = within_run n run a is in omega arith

-- the head of the next record's origin has gone on
gone_on : (b : Backlogged) (row : ℕ → ℕ) (heads after : List ℕ) (e : ℕ × Record) (es : List (ℕ × Record)) → IsAhead b row heads (e ∷ es)
    → HasGoneOn b (row (origin e.1)) heads after (origin e.1) → IsAhead b row after es
gone_on b row heads after e es ahead gone = record {
  sized = gone.sized ∙ ahead.sized;
  left = left;
  head = λ k low. elim (cases_eq (origin e.1) k) [
    | inl same ↦
        subst (λ j. head_of b after j ≡ first_stamp (run_of j es)) same (gone.next.head ∙ ap first_stamp own_left)
    | inr other ↦
        ap (λ place. first_stamp (drop place (run_of k b.entries))) (gone.others k (λ is. other (sym is))) ∙ ahead.head k low ∙ ap first_stamp (other_head k e es other)
  ];
  line = ahead.line.1;
  sites = ahead.sites.1;
  due = ahead.due.1;
  found = ahead.found.1;
}
  where
    place : ℕ
    place = slice_index heads (origin e.1)

    low_origin : origin e.1 < b.count
    low_origin = ahead.sites.0.0

    behind : due_stamps (row (origin e.1)) (drop 1 (drop (slice_index heads (origin e.1)) (run_of (origin e.1) b.entries))) ≡ run_of (origin e.1) es
    behind =
        let rest : List Stamp = drop (slice_index heads (origin e.1)) (run_of (origin e.1) b.entries) in
        let all : due_stamps (row (origin e.1)) rest ≡ stamp_of e ∷ run_of (origin e.1) es = ahead.left (origin e.1) ahead.sites.0.0 ∙ own_head e es in
        let first : first_stamp rest ≡ Some (stamp_of e) = ahead.head (origin e.1) ahead.sites.0.0 ∙ ap first_stamp (own_head e es) in
        let cut : rest ≡ stamp_of e ∷ drop 1 rest = first_is rest (stamp_of e) first in
        let here : nat_lt (row (origin e.1)) (own_time e.1) ≡ true = ahead.due.0 in
        let shown : stamp_of e ∷ due_stamps (row (origin e.1)) (drop 1 rest) ≡ due_stamps (row (origin e.1)) (stamp_of e ∷ drop 1 rest) =
        sym (ap (λ x. cond x (stamp_of e ∷ due_stamps (row (origin e.1)) (drop 1 rest)) (due_stamps (row (origin e.1)) (drop 1 rest))) here) in
        let whole : stamp_of e ∷ due_stamps (row (origin e.1)) (drop 1 rest) ≡ stamp_of e ∷ run_of (origin e.1) es =
        shown ∙ ap (due_stamps (row (origin e.1))) (sym cut) ∙ all in
        ap (drop 1) whole

    own_left : due_stamps (row (origin e.1)) (drop (slice_index after (origin e.1)) (run_of (origin e.1) b.entries)) ≡ run_of (origin e.1) es
    own_left = gone.next.left ∙ ap (due_stamps (row (origin e.1))) (rest_of (slice_index heads (origin e.1)) (run_of (origin e.1) b.entries)) ∙ behind

    left : (k : ℕ) → k < b.count → due_stamps (row k) (drop (slice_index after k) (run_of k b.entries)) ≡ run_of k es
    left k low = elim (cases_eq (origin e.1) k) [
      | inl same ↦ subst (λ j. due_stamps (row j) (drop (slice_index after j) (run_of j b.entries)) ≡ run_of j es) same own_left
      | inr other ↦
          ap (λ p. due_stamps (row k) (drop p (run_of k b.entries))) (gone.others k (λ is. other (sym is))) ∙ ahead.left k low ∙ other_head k e es other
    ]

values_drop : (n : ℕ) (es : List (ℕ × Record)) → values_of (drop n es) ≡ drop n (values_of es)
values_drop zero es = refl
values_drop (suc n) [] = refl
values_drop (suc n) (e ∷ es) = values_drop n es

values_due : (row : ℕ → ℕ) (es : List (ℕ × Record)) → values_of (filter (λ e. is_due row e.1) es) ≡ due row (values_of es)
values_due row [] = refl
values_due row (e ∷ es) = by_case e es _ refl (values_due row es)
  where
    by_case : (e : ℕ × Record) (es : List (ℕ × Record)) (d : Bool) → is_due row e.1 ≡ d → values_of (filter (λ e. is_due row e.1) es) ≡ due row (values_of es)
        → values_of (filter (λ e. is_due row e.1) (e ∷ es)) ≡ due row (values_of (e ∷ es))
    by_case e es true is rest = rw is (ap (λ rs. e.1 ∷ rs) rest)
    by_case e es false is rest = rw is rest

take_next : {X : Type 0} (n : ℕ) (xs ys : List X) (x : X) → drop n xs ≡ x ∷ ys → take (suc n) xs ≡ take n xs ++ x ∷ []
take_next zero [] ys x is = absurd (cc)
take_next (suc n) [] ys x is = absurd (cc)
take_next zero (y ∷ xs) ys x is = let same : y ≡ x = cc in ap (λ z. z ∷ []) same
take_next (suc n) (y ∷ xs) ys x is = ap (λ zs. y ∷ zs) (take_next n xs ys x is)

drop_nil : {X : Type 0} (n : ℕ) → drop n (let none : List X = [] in none) ≡ []
drop_nil zero = refl
drop_nil (suc n) = refl

take_nil : {X : Type 0} (n : ℕ) → take n (let none : List X = [] in none) ≡ []
take_nil zero = refl
take_nil (suc n) = refl

drop_later : {X : Type 0} (n m : ℕ) (xs : List X) → n ≤ m → drop n xs ≡ [] → drop m xs ≡ []
drop_later zero m xs low none = ap (drop m) none ∙ drop_nil m
drop_later (suc n) zero xs low none = absurd (omega arith)
drop_later (suc n) (suc m) [] low none = refl
drop_later (suc n) (suc m) (x ∷ xs) low none = drop_later n m xs (omega arith) none

take_later : {X : Type 0} (n m : ℕ) (xs : List X) → n ≤ m → drop n xs ≡ [] → take n xs ≡ take m xs
take_later zero m xs low none = sym (ap (take m) none ∙ take_nil m)
take_later (suc n) zero xs low none = absurd (omega arith)
take_later (suc n) (suc m) [] low none = refl
take_later (suc n) (suc m) (x ∷ xs) low none = ap (λ ys. x ∷ ys) (take_later n m xs (omega arith) none)

pub taken_none : (b : Backlogged) (row : ℕ → ℕ) (records : List Record) (heads : List ℕ) → records ≡ [] → IsLine b → IsStarted b row heads b.count → IsTaken b row records heads
taken_none b row records heads empty kept started =
    let stands : IsTaken b row [] heads = record { few = omega arith; first = refl; ahead = ahead_first b row heads kept started } in
    subst (λ rs. IsTaken b row rs heads) (sym empty) stands

length_end : (rs : List Record) (r : Record) → length (rs ++ r ∷ []) ≡ length rs + 1
length_end [] r = refl
length_end (x ∷ rs) r = let rest = length_end rs r in omega arith

-- one round more
pub taken_more : (b : Backlogged) (row : ℕ → ℕ) (records new : List Record) (heads after : List ℕ) (h : Head) (known : ℕ) → IsTaken b row records heads
    → length records < most_records → IsLeast b heads b.count (Some h) → known ≡ row h.site → new ≡ records ++ cons_option (record_under b.entries h.arrival) []
    → HasGoneOn b known heads after h.site → IsTaken b row new after × (length new ≡ length records + 1)
taken_more b row records new heads after h known taken low least is pushed gone =
    let d : List (ℕ × Record) = filter (λ e. is_due row e.1) b.entries in
    let n : ℕ = length records in
    let rest : List (ℕ × Record) = drop n d in
    let next = least_is b row heads rest h taken.ahead least in
    let e : ℕ × Record = next.0 in
    let cut : rest ≡ e ∷ drop 1 rest = next.1.0 in
    let site : h.site ≡ origin e.1 = next.1.1 in
    let arrival : h.arrival ≡ e.0 = next.1.2 in
    let here : IsAhead b row heads (e ∷ drop 1 rest) = subst (IsAhead b row heads) cut taken.ahead in
    let found : record_under b.entries h.arrival ≡ Some e.1 = ap (record_under b.entries) arrival ∙ here.found.0 in
    let added : new ≡ records ++ e.1 ∷ [] = pushed ∙ ap (λ o. records ++ cons_option o []) found in
    let one : length new ≡ n + 1 = ap length added ∙ length_end records e.1 in
    let timed : known ≡ row (origin e.1) = is ∙ ap row site in
    let moved : HasGoneOn b (row (origin e.1)) heads after (origin e.1) =
    subst (λ t. HasGoneOn b t heads after (origin e.1)) timed (subst (HasGoneOn b known heads after) site gone) in
    let behind : IsAhead b row after (drop 1 rest) = gone_on b row heads after e (drop 1 rest) here moved in
    let there : drop n (due row (values_of b.entries)) ≡ e.1 ∷ values_of (drop 1 rest) =
    ap (drop n) (sym (values_due row b.entries)) ∙ sym (values_drop n d) ∙ ap values_of cut in
    let fronts : take (length new) (due row (values_of b.entries)) ≡ records ++ e.1 ∷ [] =
    ap (λ m. take m (due row (values_of b.entries))) (one ∙ add-one n) ∙ take_next n (due row (values_of b.entries)) (values_of (drop 1 rest)) e.1 there
    ∙ ap (λ rs. rs ++ e.1 ∷ []) (sym taken.first) in (
      record {
        few = omega arith;
        first = added ∙ sym fronts;
        ahead = subst (IsAhead b row after) (sym (ap (λ m. drop m d) one ∙ rest_of n d)) behind;
      },
      one,
    )

-- no round is left
pub filled : (b : Backlogged) (row : ℕ → ℕ) (records : List Record) (heads : List ℕ) → IsTaken b row records heads → IsNextHead b heads (length records) None → IsFilled b row records heads
filled b row records heads taken next = by_room _ refl
  where
    by_room : (room : Bool) → nat_lt (length records) most_records ≡ room → IsFilled b row records heads
    by_room true is =
        let low : length records < most_records = grind (arith, nat_tests) in
        let d : List (ℕ × Record) = filter (λ e. is_due row e.1) b.entries in
        let none : drop (length records) d ≡ [] = none_left b row heads (drop (length records) d) taken.ahead (next.none refl low) in
        let empty : drop (length records) (due row (values_of b.entries)) ≡ [] =
        ap (drop (length records)) (sym (values_due row b.entries)) ∙ sym (values_drop (length records) d) ∙ ap values_of none in
        record {
          sized = taken.ahead.sized;
          sent = taken.first ∙ take_later (length records) most_records (due row (values_of b.entries)) taken.few empty;
          left = λ k below. taken.ahead.head k below ∙ ap (λ es. first_stamp (run_of k es)) (none ∙ sym (drop_later (length records) most_records d taken.few none));
        }
    by_room false is =
        let high : most_records ≤ length records = grind (arith, nat_tests) in
        let few = taken.few in
        let full : length records ≡ most_records = omega arith in
        record {
          sized = taken.ahead.sized;
          sent = taken.first ∙ ap (λ n. take n (due row (values_of b.entries))) full;
          left = λ k below. taken.ahead.head k below ∙ ap (λ n. first_stamp (run_of k (drop n (filter (λ e. is_due row e.1) b.entries)))) full;
        }

pub told_more : (f : ℕ → ℕ) (k time : ℕ) (told new : List ℕ) → told ≡ map f (range_with_len 0 k) → new ≡ told ++ time ∷ [] → time ≡ f k → new ≡ map f (range_with_len 0 (k + 1))
told_more f k time told new so_far pushed is =
    pushed ∙ ap (λ ts. ts ++ time ∷ []) so_far ∙ ap (λ t. map f (range_with_len 0 k) ++ t ∷ []) is ∙ sym (map-range_with_len_more f 0 k k (omega arith))

map_agree : (f g : ℕ → ℕ) (n : ℕ) → ((k : ℕ) → k < n → f k ≡ g k) → map f (range_with_len 0 n) ≡ map g (range_with_len 0 n)
map_agree f g zero agree = refl
map_agree f g (suc n) agree =
    ap (λ m. map f (range_with_len 0 m)) (sym (add-one n))
    ∙ told_more g n (f n) (map f (range_with_len 0 n)) (map f (range_with_len 0 (n + 1))) (map_agree f g n (λ k low. agree k (omega arith)))
    (map-range_with_len_more f 0 n n (omega arith)) (agree n (omega arith))
    ∙ ap (λ m. map g (range_with_len 0 m)) (add-one n)

covered_is : (known k : ℕ) (es : List (ℕ × Record)) → covered_to known (first_stamp (run_of k es)) ≡ covered known (find (λ r. nat_eq (origin r) k) (values_of es))
covered_is known k [] = refl
covered_is known k (e ∷ es) = by_case e es _ refl (covered_is known k es)
  where
    by_case : (e : ℕ × Record) (es : List (ℕ × Record)) (d : Bool) → nat_eq (origin e.1) k ≡ d
        → covered_to known (first_stamp (run_of k es)) ≡ covered known (find (λ r. nat_eq (origin r) k) (values_of es))
        → covered_to known (first_stamp (run_of k (e ∷ es))) ≡ covered known (find (λ r. nat_eq (origin r) k) (values_of (e ∷ es)))
    by_case e es true is rest = rw is refl
    by_case e es false is rest = rw is rest

-- the cover by the heads that are left
pub filled_cover : (b : Backlogged) (row own : ℕ → ℕ) (records : List Record) (heads : List ℕ) → IsFilled b row records heads
    → map (λ k. covered_to (own k) (head_of b heads k)) (range_with_len 0 b.count) ≡ cover_of b.count own row (values_of b.entries)
filled_cover b row own records heads filled =
    let rest : List (ℕ × Record) = drop most_records (filter (λ e. is_due row e.1) b.entries) in
    map_agree (λ k. covered_to (own k) (head_of b heads k)) (cover_at own (values_of rest)) b.count
    (λ k low. ap (covered_to (own k)) (filled.left k low) ∙ covered_is (own k) k rest)
    ∙ ap (λ rs. map (cover_at own rs) (range_with_len 0 b.count)) (values_drop most_records (filter (λ e. is_due row e.1) b.entries) ∙ ap (drop most_records) (values_due row b.entries))

pub sites_of : (count : ℕ) (es : List (ℕ × Record)) → AllByRecursion (IsOfSite count) es → AllByRecursion (λ r. origin r < count) (values_of es)
sites_of count [] sites = tt
sites_of count (e ∷ es) sites = (sites.0.0, sites_of count es sites.1)

pub next_least : (b : Backlogged) (given heads : List ℕ) (len taken : ℕ) (h : Head) → IsNextHead b given len (Some h) → given ≡ heads → len ≡ taken
    → (taken < most_records) × IsLeast b heads b.count (Some h)
next_least b given heads len taken h next lent counted =
    let parts = next.some h refl in
    (subst (λ n. n < most_records) counted parts.0, subst (λ hs. IsLeast b hs b.count (Some h)) lent parts.1)

pub next_none : (b : Backlogged) (given heads : List ℕ) (len taken : ℕ) (best : Option Head) → IsNextHead b given len best → best ≡ None → given ≡ heads → len ≡ taken
    → IsNextHead b heads taken None
next_none b given heads len taken best next none lent counted =
    subst (λ hs. IsNextHead b hs taken None) lent (subst (λ n. IsNextHead b given n None) counted (subst (IsNextHead b given len) none next))
