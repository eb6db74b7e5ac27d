-- Rows of numbers that a loop has read, and those that it has still to read; rows and squares of a value.
use Rattle.std.proofs.Common.{◌≡◌, ℕ, ◌+◌, ◌<◌, ◌≤◌, List, [], ◌∷◌, ◌++◌, Option, Some, None, ◌≢◌, suc, Bool, true, false, length, drop, get_or, refl, sym, ◌∙◌, ap, append_assoc, cond, ◌==◌, arith}
use Rattle.std.specs.List.{flat_map, list_all}
use Rattle.serde_json.specs.Find.{as_array}
use Rattle.serde_json.proofs.Views.{items_len-items_view}
use Rattle.std.specs.Prelude.{is_some, option_map, option_and_then, nat_le, if◌then◌else◌, Result, Ok, Err, IfOk}
use Rattle.std.proofs.lemmas.List.{at_drop_more, at_drop_all, append-nil}
use Rattle.std.proofs.lemmas.Bool.{eq-eqb, ne_eqb, eqb-true, le-leb}
use Rattle.serde_json.specs.Data.{Data, Items, array}
use Rattle.serde_json.specs.View.{view, items_view}
use Rattle.serde_json.specs.declared.value.Value.{Value}
use Rattle.json_text.specs.Arrays.{counted, array_of, row_of, square_of}
use Rattle.json_text.specs.Lists.{each_of, parts_of}
use Rattle.json_text.specs.Unread.{Fails, ReadsAs}
use Rattle.json_text.specs.declared.refusals.Unread.{Unread}
use Rattle.json_text.specs.declared.refusals.Unread.TheVariants.{NoMemory, OtherForm}
use Rattle.json_text.proofs.FewItems.{all_read}

-- rows in front of what is still to be read
abbrev pub stacked : {T : Type 0} → List T → Option (List (List T)) → Option (List T)
stacked front rest = option_map (λ rows. front ++ flat_map (λ row. row) rows) rest

stacked-joined : {T : Type 0} (front : List T) (row : List T) (rest : Option (List (List T))) → stacked front (option_map (λ rows. row ∷ rows) rest) ≡ stacked (front ++ row) rest
stacked-joined front row None = refl
stacked-joined front row (Some rows) = ap Some (sym (append_assoc front row (flat_map (λ r. r) rows)))

pub rows_more : {T : Type 0} (f : Data → Option (List T)) (front : List T) (values : List Value) (i : ℕ) (value : Value) (row : List T) → i < length values → value ≡ get_or values i value → f (view value) ≡ Some row → stacked front (each_of f (items_view (drop i values))) ≡ stacked (front ++ row) (each_of f (items_view (drop (i + 1) values)))
rows_more f front values i value row within at is =
    at_drop_more (λ vs. stacked front (each_of f (items_view vs))) values i value within
    ∙ ap (λ v. stacked front (option_and_then (λ y. option_map (λ xs. y ∷ xs) (each_of f (items_view (drop (i + 1) values)))) (f (view v)))) (sym at)
    ∙ ap (λ o. stacked front (option_and_then (λ y. option_map (λ xs. y ∷ xs) (each_of f (items_view (drop (i + 1) values)))) o)) is
    ∙ stacked-joined front row (each_of f (items_view (drop (i + 1) values)))

rows_bad : {T : Type 0} (f : Data → Option (List T)) (front : List T) (values : List Value) (i : ℕ) (value : Value) → i < length values → value ≡ get_or values i value → f (view value) ≡ None → stacked front (each_of f (items_view (drop i values))) ≡ None
rows_bad f front values i value within at is =
    at_drop_more (λ vs. stacked front (each_of f (items_view vs))) values i value within
    ∙ ap (λ v. stacked front (option_and_then (λ y. option_map (λ xs. y ∷ xs) (each_of f (items_view (drop (i + 1) values)))) (f (view v)))) (sym at)
    ∙ ap (λ o. stacked front (option_and_then (λ y. option_map (λ xs. y ∷ xs) (each_of f (items_view (drop (i + 1) values)))) o)) is

pub rows_fail : {T : Type 0} (f : Data → Option (List T)) (front : List T) (whole : Option (List T)) (values : List Value) (i : ℕ) (value : Value) (unread : Unread) → i < length values → value ≡ get_or values i value → stacked front (each_of f (items_view (drop i values))) ≡ whole → Fails unread (f (view value)) → Fails unread whole
rows_fail f front whole values i value OtherForm within at so_far none = sym so_far ∙ rows_bad f front values i value within at none
rows_fail f front whole values i value NoMemory within at so_far none = tt

pub rows_end : {T : Type 0} (f : Data → Option (List T)) (front : List T) (values : List Value) (i : ℕ) → length values ≤ i → stacked front (each_of f (items_view (drop i values))) ≡ Some front
rows_end f front values i done =
    at_drop_all (λ vs. stacked front (each_of f (items_view vs))) values i done ∙ ap Some (append-nil front)

-- a list of values has as many items as what they give
each_of-counted : {T : Type 0} (f : Data → Option T) (values : List Value) → option_map length (each_of f (items_view values)) ≡ option_map (λ xs. length values) (each_of f (items_view values))
each_of-counted f [] = refl
each_of-counted f (v ∷ vs) = headed (f (view v)) (each_of f (items_view vs)) (each_of-counted f vs)
  where
    headed : {T : Type 0} (first : Option T) (rest : Option (List T)) → option_map length rest ≡ option_map (λ xs. length vs) rest → option_map length (option_and_then (λ x. option_map (λ xs. x ∷ xs) rest) first) ≡ option_map (λ xs. suc (length vs)) (option_and_then (λ x. option_map (λ xs. x ∷ xs) rest) first)
    headed None rest is = refl
    headed (Some x) None is = refl
    headed (Some x) (Some xs) is = ap (option_map suc) is

counted_right : {T : Type 0} (n m : ℕ) (o : Option (List T)) → option_map length o ≡ option_map (λ xs. m) o → m ≡ n → option_and_then (counted n) o ≡ o
counted_right n m None is same = refl
counted_right n m (Some xs) is same =
    let long : length xs ≡ m = cc in
    ap (λ b. cond b (Some xs) None) (eq-eqb (length xs) n (long ∙ same))

counted_wrong : {T : Type 0} (n m : ℕ) (o : Option (List T)) → option_map length o ≡ option_map (λ xs. m) o → m ≢ n → option_and_then (counted n) o ≡ None
counted_wrong n m None is other = refl
counted_wrong n m (Some xs) is other =
    let long : length xs ≡ m = cc in
    ap (λ b. cond b (Some xs) None) (ne_eqb (length xs) n (λ same. other (sym long ∙ same)))

pub square_found : {T : Type 0} (f : Data → Option T) (n : ℕ) (d : Data) (values : List Value) → as_array d ≡ Some (items_view values) → length values ≡ n → option_map (flat_map (λ row. row)) (each_of (row_of n f) (items_view values)) ≡ square_of n f d
unfolding square_of row_of array_of
square_found {T = T} f n d values is long =
    let whole : Option (List (List T)) → Option (List T) = option_map (flat_map (λ row. row)) in
    sym (ap (λ o. whole (option_and_then (counted n) (option_and_then (each_of (row_of n f)) o))) is
    ∙ ap whole (counted_right n (length values) (each_of (row_of n f) (items_view values)) (each_of-counted (row_of n f) values) long))

pub square_of_other_height : {T : Type 0} (f : Data → Option T) (n : ℕ) (d : Data) (values : List Value) → as_array d ≡ Some (items_view values) → length values ≢ n → square_of n f d ≡ None
unfolding square_of row_of array_of
square_of_other_height {T = T} f n d values is other =
    let whole : Option (List (List T)) → Option (List T) = option_map (flat_map (λ row. row)) in
    ap (λ o. whole (option_and_then (counted n) (option_and_then (each_of (row_of n f)) o))) is
    ∙ ap whole (counted_wrong n (length values) (each_of (row_of n f) (items_view values)) (each_of-counted (row_of n f) values) other)

-- a square is that of the array's items
pub square_of_array : {T : Type 0} (f : Data → Option T) (n : ℕ) (d : Data) (rows : Items) → as_array d ≡ Some rows → square_of n f (array rows) ≡ square_of n f d
unfolding square_of row_of array_of
square_of_array f n d rows is =
    sym (ap (λ o. option_map (flat_map (λ row. row)) (option_and_then (counted n) (option_and_then (each_of (row_of n f)) o))) is)

pub square_of_no_array : {T : Type 0} (f : Data → Option T) (n : ℕ) (d : Data) → as_array d ≡ None → square_of n f d ≡ None
unfolding square_of row_of array_of
square_of_no_array f n d none =
    ap (λ o. option_map (flat_map (λ row. row)) (option_and_then (counted n) (option_and_then (each_of (row_of n f)) o))) none

-- ---- one row

row_counted : {T : Type 0} (f : Data → Option T) (n : ℕ) (d : Data) (values : List Value) → as_array d ≡ Some (items_view values) → row_of n f d ≡ option_and_then (counted n) (each_of f (items_view values))
unfolding row_of array_of
row_counted f n d values is = ap (λ o. option_and_then (counted n) (option_and_then (each_of f) o)) is

pub row_found : {T : Type 0} (f : Data → Option T) (n : ℕ) (d : Data) (values : List Value) → as_array d ≡ Some (items_view values) → length values ≡ n → parts_of n f (items_view values) ≡ row_of n f d
unfolding parts_of
row_found f n d values is long =
    ap (λ b. if b then each_of f (items_view values) else None) (ap (λ k. nat_le k n) (items_len-items_view values) ∙ le-leb (length values) n (omega arith))
    ∙ sym (row_counted f n d values is ∙ counted_right n (length values) (each_of f (items_view values)) (each_of-counted f values) long)

pub row_of_other_length : {T : Type 0} (f : Data → Option T) (n : ℕ) (d : Data) (values : List Value) → as_array d ≡ Some (items_view values) → length values ≢ n → row_of n f d ≡ None
row_of_other_length f n d values is other = row_counted f n d values is ∙ counted_wrong n (length values) (each_of f (items_view values)) (each_of-counted f values) other

pub row_of_no_array : {T : Type 0} (f : Data → Option T) (n : ℕ) (d : Data) → as_array d ≡ None → row_of n f d ≡ None
unfolding row_of array_of
row_of_no_array f n d none = ap (λ o. option_and_then (counted n) (option_and_then (each_of f) o)) none

-- whether there is a row
pub row_told : {T : Type 0} (f : Data → Option T) (n : ℕ) (d : Data) (values : List Value) (told : Bool) → as_array d ≡ Some (items_view values) → length values ≡ n → told ≡ list_all (λ v. is_some (f (view v))) values → told ≡ is_some (row_of n f d)
row_told f n d values told is long each =
    each ∙ all_read f values
    ∙ ap is_some (sym (row_counted f n d values is ∙ counted_right n (length values) (each_of f (items_view values)) (each_of-counted f values) long))

counted_size : {T : Type 0} (n : ℕ) (xs ys : List T) (b : Bool) → (length xs == n) ≡ b → (if b then Some xs else None) ≡ Some ys → length ys ≡ n
counted_size n xs ys true is same = let e : xs ≡ ys = cc in sym (ap length e) ∙ eqb-true (length xs) n is
counted_size n xs ys false is same = cc

row_sized : {T : Type 0} (n : ℕ) (o : Option (List T)) (ys : List T) → option_and_then (counted n) o ≡ Some ys → length ys ≡ n
row_sized n None ys is = cc
row_sized n (Some xs) ys is = counted_size n xs ys (length xs == n) refl is

pub row_size : {T : Type 0} (f : Data → Option T) (n : ℕ) (d : Data) (ys : List T) → row_of n f d ≡ Some ys → length ys ≡ n
unfolding row_of
row_size f n d ys is = row_sized n (array_of f d) ys is

-- the numbers of so many values are as many
pub parts_size : {X T : Type 0} (seen : X → List T) (result : Result X Unread) (f : Data → Option T) (n : ℕ) (values : List Value) → length values ≡ n → ReadsAs seen result (parts_of n f (items_view values)) → IfOk result (λ v. length (seen v) ≡ n)
parts_size seen (Ok v) f n values long is = row_size f n (array (items_view values)) (seen v) (sym (row_found f n (array (items_view values)) values refl long) ∙ is)
parts_size seen (Err unread) f n values long is = tt
