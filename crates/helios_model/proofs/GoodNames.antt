-- Texts of which none may not stand in a list of names.
use Rattle.std.proofs.Common.{◌≡◌, ℕ, suc, ◌<◌, Bool, true, false, ◌&&◌, ◌||◌, List, [], ◌∷◌, Option, None, Some, length, get_or, take, refl, sym, ◌∙◌, ap, arith}
use Rattle.std.specs.Prelude.{not, IfNone}
use Rattle.std.specs.List.{list_any}
use Rattle.std.proofs.lemmas.List.Elements.{All-from_get_or}
use Rattle.std.proofs.lemmas.List.Folds.{list_any_none}
use Rattle.helios_model.specs.Naming.{is_bad_name, first_bad_name, AreNames}
use Rattle.helios_model.specs.Spellings.{is_name}
use Rattle.helios_model.specs.Texts.{IsName, all_differ, same_text}
use Rattle.helios_model.proofs.SpellingSteps.{name_says}
use Rattle.helios_model.proofs.FirstBelow.{fails_below}

neither : (b c : Bool) → (b || c) ≡ false → (b ≡ false) × (c ≡ false)
neither true c h = cc
neither false c h = (refl, h)

not_false : (b : Bool) → not b ≡ false → b ≡ true
not_false true h = refl
not_false false h = cc

-- names of which none stands before differ
all_apart : (names : List (List ℕ)) → ((i : ℕ) → i < length names → list_any (same_text (get_or names i [])) (take i names) ≡ false) → all_differ (λ name. name) names ≡ true
all_apart [] apart = refl
all_apart (x ∷ xs) apart =
    let first : (j : ℕ) → j < length xs → (same_text (get_or xs j []) x ≡ false) × (list_any (same_text (get_or xs j [])) (take j xs) ≡ false) =
    λ j low. neither (same_text (get_or xs j []) x) (list_any (same_text (get_or xs j [])) (take j xs)) (apart (suc j) (omega arith)) in
    let none : list_any (λ other. same_text other x) xs ≡ false =
    list_any_none (λ other. same_text other x) xs (All-from_get_or (λ other. same_text other x ≡ false) xs [] (λ j low. (first j low).0)) in
    let rest : all_differ (λ name. name) xs ≡ true = all_apart xs (λ j low. (first j low).1) in
    ap (λ b. not b && all_differ (λ name. name) xs) none ∙ rest

all_good : (names : List (List ℕ)) → first_bad_name names ≡ None → AreNames names
all_good names none =
    let parts : (k : ℕ) → k < length names → (not (is_name (get_or names k [])) ≡ false) × (list_any (same_text (get_or names k [])) (take k names) ≡ false) =
    λ k low. neither (not (is_name (get_or names k []))) (list_any (same_text (get_or names k [])) (take k names)) (fails_below (is_bad_name names) (length names) none k low) in
    record {
      named = All-from_get_or IsName names [] (λ k low. name_says (get_or names k []) (not_false (is_name (get_or names k [])) (parts k low).0));
      distinct = all_apart names (λ k low. (parts k low).1);
    }

-- where none is bad, all are names and differ
pub none_bad : (names : List (List ℕ)) (found : Option ℕ) → found ≡ first_bad_name names → IfNone found (AreNames names)
none_bad names None is = all_good names (sym is)
none_bad names (Some place) is = tt
