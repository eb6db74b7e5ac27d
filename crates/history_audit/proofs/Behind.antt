-- The transactions of a history that a loop has read, and the values that it has still to read.
use Rattle.std.proofs.Common.{◌≡◌, ℕ, ◌+◌, ◌<◌, ◌≤◌, Bool, true, false, cond, ◌||◌, ◌⊎◌, inl, inr, List, [], ◌∷◌, ◌++◌, Option, Some, None, Result, Ok, Err, length, drop, get_or, refl, sym, ◌∙◌, ap, ap₂}
use Rattle.std.proofs.lemmas.List.{at_drop_more, at_drop_all}
use Rattle.std.proofs.lemmas.List.Folds.{list_any-append}
use Rattle.serde_json.specs.Data.{Data}
use Rattle.serde_json.specs.View.{view, items_view}
use Rattle.serde_json.specs.declared.value.Value.{Value}
use Rattle.helios_model.specs.Ids.{same_id}
use Rattle.helios_model.specs.declared.ids.TxnId.{TxnId}
use Rattle.json_text.specs.Reading.{◌>>=◌, required}
use Rattle.history_audit.specs.Items.{fresh_item, is_among, is_given, item_at, next_item}
use Rattle.history_audit.specs.Reading.{items_behind}
use Rattle.history_audit.specs.declared.history.Item.{Item}
use Rattle.history_audit.specs.declared.refusal.HistoryRefusal.{HistoryRefusal}
use Rattle.history_audit.specs.declared.refusal.HistoryRefusal.TheVariants.{BadTransaction}

fresh_same : (f g : TxnId → Bool) → ((id : TxnId) → f id ≡ g id) → (d : Data) → fresh_item f d ≡ fresh_item g d
unfolding fresh_item
fresh_same f g same d = by_item (item_at d)
  where
    by_item : (o : Option Item) → Rattle.std.specs.Prelude.option_and_then (λ x. cond (f x.id) None (Some x)) o ≡ Rattle.std.specs.Prelude.option_and_then (λ x. cond (g x.id) None (Some x)) o
    by_item None = refl
    by_item (Some x) = ap (λ b. cond b None (Some x)) (same x.id)

module _ (earlier : List Item) (given : List TxnId) (values : List Value) (i : ℕ) (value : Value) where
  abbrev rest : Item → Result (List Item) HistoryRefusal
  rest x = items_behind (earlier ++ x ∷ []) (items_view (drop (i + 1) values))

  opened : i < length values → value ≡ get_or values i value → length earlier ≡ i → ((id : TxnId) → is_among given id ≡ is_given id earlier)
      → items_behind earlier (items_view (drop i values)) ≡ (required (BadTransaction i) (fresh_item (is_among given) (view value)) >>= rest)
  opened within at counted same =
      at_drop_more (λ vs. items_behind earlier (items_view vs)) values i value within
      ∙ ap (λ v. required (BadTransaction (length earlier)) (next_item earlier (view v)) >>= rest) (sym at)
      ∙ ap₂ (λ n o. required (BadTransaction n) o >>= rest) counted (sym (fresh_same (is_among given) (λ id. is_given id earlier) same (view value)))

  pub next_read : (x : Item) → i < length values → value ≡ get_or values i value → length earlier ≡ i → ((id : TxnId) → is_among given id ≡ is_given id earlier)
      → required (BadTransaction i) (fresh_item (is_among given) (view value)) ≡ Ok x
      → items_behind earlier (items_view (drop i values)) ≡ items_behind (earlier ++ x ∷ []) (items_view (drop (i + 1) values))
  next_read x within at counted same is = opened within at counted same ∙ ap (λ r. r >>= rest) is

  pub next_refused : (whole : Result (List Item) HistoryRefusal) (none e : HistoryRefusal) → i < length values → value ≡ get_or values i value → length earlier ≡ i
      → ((id : TxnId) → is_among given id ≡ is_given id earlier) → items_behind earlier (items_view (drop i values)) ≡ whole
      → (e ≡ none) ⊎ (required (BadTransaction i) (fresh_item (is_among given) (view value)) ≡ Err e) → (e ≡ none) ⊎ (whole ≡ Err e)
  next_refused whole none e within at counted same so_far why = elim why [
    | inl is ↦ inl is
    | inr is ↦ inr (sym so_far ∙ opened within at counted same ∙ ap (λ r. r >>= rest) is)
  ]

pub behind_end : (earlier : List Item) (values : List Value) (i : ℕ) → length values ≤ i → items_behind earlier (items_view (drop i values)) ≡ Ok earlier
behind_end earlier values i done = at_drop_all (λ vs. items_behind earlier (items_view vs)) values i done

last_swapped : (a b : Bool) → (a || (b || false)) ≡ (b || a)
last_swapped true true = refl
last_swapped true false = refl
last_swapped false true = refl
last_swapped false false = refl

pub given_more : (earlier : List Item) (given new : List TxnId) (x : Item) → ((id : TxnId) → is_among given id ≡ is_given id earlier)
    → ((id : TxnId) → is_among new id ≡ (same_id x.id id || is_among given id)) → (id : TxnId) → is_among new id ≡ is_given id (earlier ++ x ∷ [])
given_more earlier given new x same more id =
    more id ∙ ap (λ b. same_id x.id id || b) (same id)
    ∙ sym (list_any-append (λ item. same_id item.id id) earlier (x ∷ []) ∙ last_swapped (is_given id earlier) (same_id x.id id))
