-- The first text of a list that may not stand there as the name of a site.
use Rattle.std.specs.Prelude.{ℕ, ◌&&◌, ◌||◌, Bool, IsTrue, not, nat_le, List, [], length, take, All, Option, slice_index_or}
use Rattle.std.specs.List.{list_any}
use Rattle.helios_model.specs.Limits.{most_sites}
use Rattle.helios_model.specs.Spellings.{is_name}
use Rattle.helios_model.specs.Squares.{first_below}
use Rattle.helios_model.specs.Texts.{IsName, all_differ, same_text}

-- whether so many sites make a cluster
abbrev pub is_count : ℕ → Bool
is_count n = nat_le 1 n && nat_le n most_sites

-- whether the text at a place is no name, or stands before
abbrev pub is_bad_name : List (List ℕ) → ℕ → Bool
is_bad_name names i = not (is_name (slice_index_or names i [])) || list_any (same_text (slice_index_or names i [])) (take i names)

-- the first such place
abbrev pub first_bad_name : List (List ℕ) → Option ℕ
first_bad_name names = first_below (is_bad_name names) (length names)

-- each is a name, and no two are the same
pub record AreNames (names : List (List ℕ)) : Type 0 where
  pub named : All IsName names
  pub distinct : IsTrue (all_differ (λ name. name) names)
