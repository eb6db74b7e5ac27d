-- How the readings of a list go on by its places.
use Rattle.std.proofs.Common.{◌≡◌, ℕ, ◌+◌, ◌<◌, ◌≤◌, List, [], ◌∷◌, length, drop, get_or, refl, sym, ◌∙◌, ap, arith, drop_of_length-le}
use Rattle.std.proofs.lemmas.List.{drop_more}
use Rattle.outside_io.specs.Clock.{next_reading, later_readings}

-- another reading stands behind this one
pub reading_goes_on : (readings : List ℕ) (at reading : ℕ) → at + 1 < length readings → reading ≡ get_or readings at reading
    → (reading ≡ next_reading (drop at readings)) × (drop (at + 1) readings ≡ later_readings (drop at readings))
reading_goes_on readings at reading more is =
    let here : drop at readings ≡ get_or readings at reading ∷ drop (at + 1) readings = drop_more readings at reading (omega (arith, more)) in
    let next : drop (at + 1) readings ≡ get_or readings (at + 1) reading ∷ drop (at + 1 + 1) readings = drop_more readings (at + 1) reading more in
    (is ∙ sym (ap next_reading here), next ∙ sym (ap later_readings (here ∙ ap (λ xs. get_or readings at reading ∷ xs) next)))

-- it is the last one
pub reading_stays : (readings : List ℕ) (at reading : ℕ) → at < length readings → length readings ≤ at + 1 → reading ≡ get_or readings at reading
    → (reading ≡ next_reading (drop at readings)) × (drop at readings ≡ later_readings (drop at readings))
reading_stays readings at reading here last is =
    let none : drop (at + 1) readings ≡ [] = drop_of_length-le readings last in
    let one : drop at readings ≡ get_or readings at reading ∷ [] = drop_more readings at reading here ∙ ap (λ xs. get_or readings at reading ∷ xs) none in
    (is ∙ sym (ap next_reading one), one ∙ sym (ap later_readings one))

-- there is none
pub no_reading : (readings : List ℕ) (at : ℕ) → length readings ≤ at → (0 ≡ next_reading (drop at readings)) × (drop at readings ≡ later_readings (drop at readings))
no_reading readings at none =
    let empty : drop at readings ≡ [] = drop_of_length-le readings none in
    (sym (ap next_reading empty), empty ∙ sym (ap later_readings empty))
