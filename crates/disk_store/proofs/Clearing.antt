-- A list of which the first items were mapped.
use Rattle.std.proofs.Common.{◌≡◌, ℕ, ◌+◌, ◌<◌, List, [], ◌∷◌, ◌++◌, length, take, drop, set, map, get_or, sym, ◌∙◌, ap, arith, append_assoc}
use Rattle.std.proofs.lemmas.List.{drop_more, take_more, get_or_at, set_at, map-append, length-map, length-take-le}

-- one item more was mapped
pub mapped_more : {X : Type 0} (f : X → X) (old now : List X) (i : ℕ) (x : X) → i < length old → now ≡ map f (take i old) ++ drop i old → x ≡ get_or now i x
    → set now i (f x) ≡ map f (take (i + 1) old) ++ drop (i + 1) old
mapped_more {X} f old now i x lt is read =
    let y : X = get_or old i x in
    let size : length (map f (take i old)) ≡ i = length-map (take i old) f ∙ length-take-le i old (omega arith) in
    let split : now ≡ map f (take i old) ++ y ∷ drop (i + 1) old = is ∙ ap (λ l. map f (take i old) ++ l) (drop_more old i x lt) in
    let same : x ≡ y = read ∙ ap (λ l. get_or l i x) split ∙ get_or_at (map f (take i old)) y (drop (i + 1) old) x i size in
    ap (λ l. set l i (f x)) split ∙ set_at (map f (take i old)) y (drop (i + 1) old) (f x) i size
    ∙ ap (λ (z : X). map f (take i old) ++ f z ∷ drop (i + 1) old) same
    ∙ sym (append_assoc (map f (take i old)) (f y ∷ []) (drop (i + 1) old))
    ∙ ap (λ l. l ++ drop (i + 1) old) (sym (ap (λ l. map f l) (take_more old i x lt) ∙ map-append f (take i old) (y ∷ [])))
