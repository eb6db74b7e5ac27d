-- Two transactions conflict where the one touches what the other writes, or writes what it reads.
use Rattle.std.proofs.Common.{◌≡◌, ℕ, List, [], ◌∷◌, Bool, true, false, ◌||◌, refl, sym, ap, ◌∙◌}
use Rattle.std.specs.List.{list_any}
use Rattle.std.specs.Cmp.Lexicographic.{nat_list_eq_equiv}
use Rattle.helios_model.specs.Texts.{contains_text, same_text}
use Rattle.helios_model.specs.Transactions.{Transaction, conflict, touched_by}
use Rattle.prepare_pools.specs.Conflicts.{hits}

swap_middle : (a b c d : Bool) → ((a || b) || (c || d)) ≡ ((a || c) || (b || d))
swap_middle true b c d = refl
swap_middle false true true d = refl
swap_middle false true false d = refl
swap_middle false false true d = refl
swap_middle false false false d = refl

or_back : (a b : Bool) → (a || b) ≡ (b || a)
or_back true true = refl
or_back true false = refl
or_back false true = refl
or_back false false = refl

any_or : {X : Type 0} (f g : X → Bool) (xs : List X) → list_any (λ x. f x || g x) xs ≡ (list_any f xs || list_any g xs)
any_or f g [] = refl
any_or f g (x ∷ xs) = ap (λ b. (f x || g x) || b) (any_or f g xs) ∙ swap_middle (f x) (g x) (list_any f xs) (list_any g xs)

any_same : {X : Type 0} (f g : X → Bool) → ((x : X) → f x ≡ g x) → (xs : List X) → list_any f xs ≡ list_any g xs
any_same f g same [] = refl
any_same f g same (x ∷ xs) = ap (λ b. b || list_any f xs) (same x) ∙ ap (λ b. g x || b) (any_same f g same xs)

any_never : {X : Type 0} (xs : List X) → list_any (λ x. false) xs ≡ false
any_never [] = refl
any_never (x ∷ xs) = any_never xs

-- of two lists, one has a text of the other
exchange : (xs ys : List (List ℕ)) → list_any (contains_text xs) ys ≡ list_any (contains_text ys) xs
exchange xs [] = sym (any_never xs)
exchange xs (y ∷ ys) =
    ap (λ c. contains_text xs y || c) (exchange xs ys) ∙
    (ap (λ c. c || list_any (contains_text ys) xs) (any_same (λ x. same_text x y) (λ x. same_text y x) (λ x. nat_list_eq_equiv.symm x y) xs) ∙
    sym (any_or (λ x. same_text y x) (contains_text ys) xs))

shuffle : (r y x : Bool) → ((r || y) || (x || y)) ≡ ((y || r) || x)
shuffle true true x = refl
shuffle true false x = refl
shuffle false true x = refl
shuffle false false true = refl
shuffle false false false = refl

pub clash_is : (p q : Transaction) → (list_any (λ key. hits true key q) (touched_by p).written || list_any (λ key. hits false key q) (touched_by p).read) ≡ conflict p q
clash_is p q =
    let pr = (touched_by p).read in
    let pw = (touched_by p).written in
    let qr = (touched_by q).read in
    let qw = (touched_by q).written in
    ap (λ b. b || list_any (contains_text qw) pr) (any_or (contains_text qw) (contains_text qr) pw) ∙
    (sym (shuffle (list_any (contains_text qr) pw) (list_any (contains_text qw) pw) (list_any (contains_text qw) pr)) ∙
    (ap (λ b. b || (list_any (contains_text qw) pr || list_any (contains_text qw) pw)) (sym (any_or (contains_text qr) (contains_text qw) pw)) ∙
    ap (λ b. list_any (λ key. contains_text qr key || contains_text qw key) pw || b)
    (ap (λ b. b || list_any (contains_text qw) pw) (exchange qw pr) ∙ (ap (λ b. list_any (contains_text pr) qw || b) (exchange qw pw) ∙
    sym (any_or (contains_text pr) (contains_text pw) qw)))))
