-- A list with one item more.
use Rattle.std.proofs.Common.{◌≡◌, ◌∙◌, ap, refl, sym, ℕ, ◌+◌, ◌<◌, List, [], ◌∷◌, ◌++◌, length, get_or, map, take, All, IfSome, Option, Some, None}
use Rattle.std.specs.List.{filter_map}
use Rattle.std.specs.Option.{option_to_list}
use Rattle.std.proofs.lemmas.List.{map-append, take_more}
use Rattle.std.proofs.lemmas.List.Elements.{All-nil, All-cons, filter_map-append}

-- what a function gives of the first items, with one item more
pub mapped_more : {X Y : Type 0} (f : X → Y) (xs : List X) (i : ℕ) (x : X) (ys ys' : List Y) (y : Y)
    → i < length xs → x ≡ get_or xs i x → ys' ≡ ys ++ y ∷ [] → y ≡ f x → ys ≡ map f (take i xs) → ys' ≡ map f (take (i + 1) xs)
mapped_more f xs i x ys ys' y low at pushed is so_far =
    pushed ∙ ap (λ zs. zs ++ y ∷ []) so_far ∙ ap (λ z. map f (take i xs) ++ z ∷ []) (is ∙ ap f at)
    ∙ sym (map-append f (take i xs) (get_or xs i x ∷ [])) ∙ ap (map f) (sym (take_more xs i x low))

pub filtered_one : {X Y : Type 0} (h : X → Option Y) (x : X) (o : Option Y) → h x ≡ o → filter_map h (x ∷ []) ≡ option_to_list o
filtered_one h x None is = rw is
filtered_one h x (Some y) is = rw is

-- the same where the function gives nothing of some items
pub filtered_more : {X Y : Type 0} (h : X → Option Y) (xs : List X) (i : ℕ) (x : X) (ys ys' : List Y) (o : Option Y)
    → i < length xs → x ≡ get_or xs i x → ys' ≡ ys ++ option_to_list o → o ≡ h x → ys ≡ filter_map h (take i xs) → ys' ≡ filter_map h (take (i + 1) xs)
filtered_more h xs i x ys ys' o low at pushed is so_far =
    pushed ∙ ap (λ zs. zs ++ option_to_list o) so_far ∙ ap (λ zs. filter_map h (take i xs) ++ zs) (sym (filtered_one h x o (sym is)))
    ∙ ap (λ z. filter_map h (take i xs) ++ filter_map h (z ∷ [])) at
    ∙ sym (filter_map-append h (take i xs) (get_or xs i x ∷ [])) ∙ ap (filter_map h) (sym (take_more xs i x low))

-- what holds of what was found holds of each item of it as a list
pub all_found : {X : Type 0} (P : X → Type 0) (o : Option X) → IfSome o P → All P (option_to_list o)
all_found P None h = All-nil P
all_found P (Some x) h = All-cons P x [] h (All-nil P)

pub map_itself : {X : Type 0} (xs : List X) → map (λ x. x) xs ≡ xs
map_itself [] = refl
map_itself (x ∷ xs) = ap (λ ys. x ∷ ys) (map_itself xs)
