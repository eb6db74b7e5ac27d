-- What the lists of an index say of each key, after that of one key has changed.
use Rattle.std.proofs.Common.{◌≡◌, ℕ, List, [], ◌∷◌, ◌++◌, Bool, true, false, cond, Option, Some, None, is_some, unwrap_or, length, if◌then◌else◌, refl, sym, ap, ◌∙◌, subst, arith}
use Rattle.std.specs.declared.cmp.Ordering.{Ordering}
use Rattle.std.specs.declared.cmp.Ordering.TheVariants.{Less, Equal, Greater}
use Rattle.std.specs.Ordering.{is_eq, nat_cmp}
use Rattle.std.specs.Cmp.Lexicographic.{slice_cmp, texts_ties}
use Rattle.std.specs.Map.{lookup}
use Rattle.std.specs.BTreeMap.{is_at}
use Rattle.std.proofs.lemmas.Map.Lookups.{exact_bytes}
use Rattle.helios_model.specs.Texts.{same_text}
use Rattle.prepare_pools.specs.declared.touch.Touch.{Touch}
use Rattle.prepare_pools.specs.Touches.{touched}

equal_is : (o : Ordering) → is_eq o ≡ true → o ≡ Equal
equal_is Less e = absurd (cc)
equal_is Equal e = refl
equal_is Greater e = absurd (cc)

pub same_text_is : (a b : List ℕ) → same_text a b ≡ true → a ≡ b
same_text_is a b same = exact_bytes a b (equal_is (slice_cmp nat_cmp a b) (sym (texts_ties a b) ∙ same))

changed_case : (key : List ℕ) (f : List Touch → List Touch) (old new : List (List ℕ × List Touch)) (w : Option (List Touch)) (q : List ℕ) (b : Bool)
    → same_text key q ≡ b → lookup (is_at (slice_cmp nat_cmp q)) new ≡ cond b w (lookup (is_at (slice_cmp nat_cmp q)) old)
    → unwrap_or w [] ≡ f (touched old key) → touched new q ≡ (if same_text key q then f (touched old q) else touched old q)
changed_case key f old new w q true same put is =
    rw same (ap (λ o. unwrap_or o []) put ∙ (is ∙ ap (λ k. f (touched old k)) (same_text_is key q same)))
changed_case key f old new w q false same put is = rw same (ap (λ o. unwrap_or o []) put)

-- the list of one key is written
pub list_changed : (key : List ℕ) (f : List Touch → List Touch) (lists view new : List (List ℕ × List Touch)) (w : Option (List Touch)) → lists ≡ view
    → ((q : List ℕ) → lookup (is_at (slice_cmp nat_cmp q)) new ≡ cond (is_at (slice_cmp nat_cmp key) q) w (lookup (is_at (slice_cmp nat_cmp q)) lists))
    → unwrap_or w [] ≡ f (touched lists key)
    → (q : List ℕ) → touched new q ≡ (if same_text key q then f (touched view q) else touched view q)
list_changed key f lists view new w shown put is q =
    subst (λ es. touched new q ≡ (if same_text key q then f (touched es q) else touched es q)) shown
    (changed_case key f lists new w q _ refl
    (subst (λ b. lookup (is_at (slice_cmp nat_cmp q)) new ≡ cond b w (lookup (is_at (slice_cmp nat_cmp q)) lists)) (sym (texts_ties key q)) (put q)) is)

either_same : {X : Type 0} (b : Bool) (x : X) → (if b then x else x) ≡ x
either_same true x = refl
either_same false x = refl

-- the list of one key is written as it was
pub list_kept : (key : List ℕ) (lists view new : List (List ℕ × List Touch)) (w : Option (List Touch)) → lists ≡ view
    → ((q : List ℕ) → lookup (is_at (slice_cmp nat_cmp q)) new ≡ cond (is_at (slice_cmp nat_cmp key) q) w (lookup (is_at (slice_cmp nat_cmp q)) lists))
    → unwrap_or w [] ≡ touched lists key → (q : List ℕ) → touched new q ≡ touched view q
list_kept key lists view new w shown put is q =
    list_changed key (λ ts. ts) lists view new w shown put is q ∙ either_same (same_text key q) (touched view q)

pub none_there : {X : Type 0} (o : Option X) → is_some o ≡ false → o ≡ None
none_there None e = refl
none_there (Some x) e = absurd (cc)

pub empty_is : {X : Type 0} (xs : List X) → length xs ≡ 0 → xs ≡ []
empty_is [] e = refl
empty_is (x ∷ xs) e = absurd (omega arith)

-- a key that was not there gets a list
pub list_made : (key copied : List ℕ) (touch : Touch) (lists view new : List (List ℕ × List Touch)) (none list : List Touch) → copied ≡ key → lists ≡ view
    → is_some (lookup (is_at (slice_cmp nat_cmp key)) lists) ≡ false
    → ((q : List ℕ) → lookup (is_at (slice_cmp nat_cmp q)) new ≡ cond (is_at (slice_cmp nat_cmp copied) q) (Some list) (lookup (is_at (slice_cmp nat_cmp q)) lists))
    → none ≡ [] → list ≡ none ++ touch ∷ []
    → (q : List ℕ) → touched new q ≡ (if same_text key q then touched view q ++ touch ∷ [] else touched view q)
list_made key copied touch lists view new none list same shown absent put empty is q =
    let at_key : (q : List ℕ) → lookup (is_at (slice_cmp nat_cmp q)) new ≡ cond (is_at (slice_cmp nat_cmp key) q) (Some list) (lookup (is_at (slice_cmp nat_cmp q)) lists) =
    subst (λ k. (q : List ℕ) → lookup (is_at (slice_cmp nat_cmp q)) new ≡ cond (is_at (slice_cmp nat_cmp k) q) (Some list) (lookup (is_at (slice_cmp nat_cmp q)) lists)) same put in
    let missing : touched lists key ≡ [] = ap (λ o. unwrap_or o []) (none_there (lookup (is_at (slice_cmp nat_cmp key)) lists) absent) in
    list_changed key (λ ts. ts ++ touch ∷ []) lists view new (Some list) shown at_key
    (is ∙ (ap (λ ts. ts ++ touch ∷ []) empty ∙ ap (λ ts. ts ++ touch ∷ []) (sym missing))) q
