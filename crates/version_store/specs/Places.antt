-- How a key gets a place among the entries of a store, and how that is taken back.
use Rattle.std.specs.Prelude.{◌≡◌, ℕ, List, Bool, false, IsSome, if◌then◌else◌}
use Rattle.std.specs.Ordering.{nat_cmp}
use Rattle.std.specs.Cmp.Lexicographic.{slice_cmp}
use Rattle.std.specs.Map.{remove_entry}
use Rattle.std.specs.BTreeMap.{is_at}
use Rattle.version_store.specs.declared.held.Held.{Held}
use Rattle.version_store.specs.Store.{held_at}

-- the entries without the place of a key, where one was made
abbrev pub without : List ℕ → Bool → List (List ℕ × Held) → List (List ℕ × Held)
without key made entries = if made then remove_entry (is_at (slice_cmp nat_cmp key)) entries else entries

-- the key has a place, the other keys hold what they held, and taking the place back gives the entries that were
pub record GetsPlace (key : List ℕ) (made : Bool) (old new : List (List ℕ × Held)) : Type 0 where
  pub there : IsSome (held_at new key)
  pub others : (q : List ℕ) → is_at (slice_cmp nat_cmp key) q ≡ false → held_at new q ≡ held_at old q
  pub back : without key made new ≡ old
