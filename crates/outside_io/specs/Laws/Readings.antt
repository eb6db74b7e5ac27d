-- How the readings of a clock go on.
use Rattle.std.proofs.Common.{◌≡◌, ℕ, List, [], ◌∷◌, ◌++◌, Option, Some, None, refl, sym, ◌∙◌, ap, subst}
use Rattle.outside_io.specs.Clock.{Gave, GaveTold, later_readings}

-- a clock that was not asked gave no reading
pub gave_none : (readings : Option (List ℕ)) → GaveTold readings readings []
gave_none None = refl
gave_none (Some readings) = refl

gave_both : (first between last xs ys : List ℕ) → Gave first between xs → Gave between last ys → Gave first last (xs ++ ys)
gave_both first between last [] ys one two = subst (λ (old : List ℕ). Gave old last ys) one two
gave_both first between last (x ∷ xs) ys one two = (one.0, gave_both (later_readings first) between last xs ys one.1 two)

-- some readings, and then others
pub gave_join : (first between last : Option (List ℕ)) (xs ys : List ℕ) → GaveTold first between xs → GaveTold between last ys → GaveTold first last (xs ++ ys)
gave_join None between last xs ys one two = subst (λ (old : Option (List ℕ)). GaveTold old last ys) one two
gave_join (Some first) None last xs ys one two = absurd one
gave_join (Some first) (Some between) None xs ys one two = absurd two
gave_join (Some first) (Some between) (Some last) xs ys one two = gave_both first between last xs ys one two
