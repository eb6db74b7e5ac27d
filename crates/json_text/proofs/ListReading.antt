-- The items of an array that a loop has read, and those that it has still to read.
use Rattle.std.proofs.Common.{◌≡◌, ℕ, Bool, true, false, subst, ◌+◌, ◌<◌, ◌≤◌, ◌⊎◌, inl, inr, List, [], ◌∷◌, ◌++◌, Result, Ok, Err, length, drop, get_or, refl, sym, ◌∙◌, ap, append_assoc, append-nil}
use Rattle.std.proofs.lemmas.List.{at_drop_more, at_drop_all}
use Rattle.serde_json.specs.Data.{Data, Items, no_items, item}
use Rattle.serde_json.specs.View.{view, items_view}
use Rattle.serde_json.specs.declared.value.Value.{Value}
use Rattle.serde_json.specs.Events.{items_len}
use Rattle.serde_json.proofs.Views.{items_len-items_view}
use Rattle.std.specs.Prelude.{nat_le, Option, Some, None, option_map, option_and_then, if◌then◌else◌}
use Rattle.std.proofs.lemmas.Bool.{le-leb, lt-leb}
use Rattle.json_text.specs.Lists.{each_of, items_from, list_of, parts_of, put_first}
use Rattle.json_text.specs.Reading.{◌>>=◌, GivesAs, demand, required}
use Rattle.json_text.specs.Unread.{ReadsAs}
use Rattle.json_text.specs.declared.refusals.Unread.{Unread}
use Rattle.json_text.specs.declared.refusals.Unread.TheVariants.{NoMemory, OtherForm}

-- a list in front of what is still to be read
abbrev pub after : {T E : Type 0} → List T → Result (List T) E → Result (List T) E
after front (Ok xs) = Ok (front ++ xs)
after front (Err e) = Err e

after-put_first : {T E : Type 0} (front : List T) (x : T) (rest : Result (List T) E) → after front (put_first (Ok x) rest) ≡ after (front ++ x ∷ []) rest
after-put_first front x (Ok xs) = ap Ok (sym (append_assoc front (x ∷ []) xs))
after-put_first front x (Err e) = refl

module _ {T E : Type 0} (f : ℕ → Data → Result T E) (front : List T) (values : List Value) (i : ℕ) where
  left : ℕ → Result (List T) E
  left k = items_from f k (items_view (drop k values))

  opened : (value : Value) (found : Result T E) → i < length values → value ≡ get_or values i value → f i (view value) ≡ found
      → after front (items_from f i (items_view (drop i values))) ≡ after front (put_first found (items_from f (i + 1) (items_view (drop (i + 1) values))))
  opened value found within at is =
      at_drop_more (λ vs. after front (items_from f i (items_view vs))) values i value within
      ∙ ap (λ v. after front (put_first (f i (view v)) (items_from f (i + 1) (items_view (drop (i + 1) values))))) (sym at)
      ∙ ap (λ found. after front (put_first found (items_from f (i + 1) (items_view (drop (i + 1) values))))) is

  pub item_read : (value : Value) (x : T) → i < length values → value ≡ get_or values i value → f i (view value) ≡ Ok x
      → after front (items_from f i (items_view (drop i values))) ≡ after (front ++ x ∷ []) (items_from f (i + 1) (items_view (drop (i + 1) values)))
  item_read value x within at is = opened value (Ok x) within at is ∙ after-put_first front x (items_from f (i + 1) (items_view (drop (i + 1) values)))

  pub item_refused : (whole : Result (List T) E) (memory e : E) (value : Value) → i < length values → value ≡ get_or values i value
      → after front (items_from f i (items_view (drop i values))) ≡ whole → (e ≡ memory) ⊎ (f i (view value) ≡ Err e) → (e ≡ memory) ⊎ (whole ≡ Err e)
  item_refused whole memory e value within at so_far why = elim why [
    | inl none ↦ inl none
    | inr is ↦ inr (sym so_far ∙ opened value (Err e) within at is)
  ]

  pub items_end : length values ≤ i → after front (items_from f i (items_view (drop i values))) ≡ Ok front
  items_end done = at_drop_all (λ vs. after front (items_from f i (items_view vs))) values i done ∙ ap Ok (append-nil front)

-- ---- how many items there are

module _ {T E : Type 0} (most : ℕ) (too_many : E) (f : ℕ → Data → Result T E) (values : List Value) where
  tested : (b : Bool) → nat_le (items_len (items_view values)) most ≡ b
      → list_of most too_many f (items_view values) ≡ (demand too_many b >>= λ few. items_from f 0 (items_view values))
  unfolding list_of
  tested b is = ap (λ b. demand too_many b >>= λ few. items_from f 0 (items_view values)) is

  pub few_items : length values ≤ most → list_of most too_many f (items_view values) ≡ items_from f 0 (items_view values)
  few_items few = tested true (ap (λ n. nat_le n most) (items_len-items_view values) ∙ le-leb (length values) most few)

  pub many_items : most < length values → list_of most too_many f (items_view values) ≡ Err too_many
  many_items many = tested false (ap (λ n. nat_le n most) (items_len-items_view values) ∙ lt-leb (length values) most many)

-- ---- parts

first_required : {T E : Type 0} (e : E) (first : Option T) (rest : Option (List T))
    → put_first (required e first) (required e rest) ≡ required e (option_and_then (λ x. option_map (λ xs. x ∷ xs) rest) first)
first_required e None rest = refl
first_required e (Some x) None = refl
first_required e (Some x) (Some xs) = refl

each_required : {T E : Type 0} (e : E) (g : Data → Option T) (k : ℕ) (items : Items) → items_from (λ i d. required e (g d)) k items ≡ required e (each_of g items)
each_required e g k no_items = refl
each_required e g k (item d ds) = ap (put_first (required e (g d))) (each_required e g (k + 1) ds) ∙ first_required e (g d) (each_of g ds)

chosen_required : {T E : Type 0} (e : E) (few : Bool) (found : Option T) → (demand e few >>= λ fits. required e found) ≡ required e (if few then found else None)
chosen_required e true found = refl
chosen_required e false found = refl

list_required : {T : Type 0} (most : ℕ) (g : Data → Option T) (items : Items) → list_of most OtherForm (λ i d. required OtherForm (g d)) items ≡ required OtherForm (parts_of most g items)
unfolding list_of parts_of
list_required most g items =
    ap (λ found. demand OtherForm (nat_le (items_len items) most) >>= λ few. found) (each_required OtherForm g 0 items)
    ∙ chosen_required OtherForm (nat_le (items_len items) most) (each_of g items)

read_some : {T : Type 0} (found : Option T) (x : T) → required OtherForm found ≡ Ok x → found ≡ Some x
read_some None x is = cc
read_some (Some y) x is = cc

read_none : {T : Type 0} (found : Option T) (e : Unread) → required OtherForm found ≡ Err e → found ≡ None
read_none None e is = refl
read_none (Some y) e is = cc

given_read : {X T : Type 0} (seen : X → T) (result : Result X Unread) (found : Option T) → GivesAs seen NoMemory result (required OtherForm found) → ReadsAs seen result found
given_read seen (Ok x) found is = read_some found (seen x) is
given_read seen (Err OtherForm) found (inl none) = cc
given_read seen (Err OtherForm) found (inr is) = read_none found OtherForm is
given_read seen (Err NoMemory) found why = tt

pub parts_read : {X T : Type 0} (seen : X → List T) (result : Result X Unread) (most : ℕ) (g : Data → Option T) (items : Items)
    → GivesAs seen NoMemory result (list_of most OtherForm (λ i d. required OtherForm (g d)) items) → ReadsAs seen result (parts_of most g items)
parts_read seen result most g items gives = given_read seen result (parts_of most g items) (subst (GivesAs seen NoMemory result) (list_required most g items) gives)
