-- Transactions in a line, and the times of each site's.
use Rattle.std.specs.Prelude.{◌≡◌, ℕ, ◌<◌, List, length, filter, map, slice_index_or}
use Rattle.helios_model.specs.Limits.{most_sites}
use Rattle.helios_model.specs.Transactions.{Transaction}
use Rattle.helios_model.specs.Log.{is_own}
use Rattle.prepare_pools.specs.Line.{AllBelow, IsLine}

-- the times of a site's transactions, with their numbers
abbrev pub of_site : ℕ → List (ℕ × Transaction) → List (ℕ × ℕ)
of_site site entries = map (λ e. (e.0, e.1.id.time)) (filter (λ e. is_own site e.1) entries)

pub record IsWaiting (held : List (ℕ × Transaction)) (sites : List (List (ℕ × ℕ))) (next : ℕ) : Type 0 where
  pub line : IsLine (λ p. p.id) held
  pub below : AllBelow next held
  pub sized : length sites ≡ most_sites
  pub by_site : (k : ℕ) (d : List (ℕ × ℕ)) → k < most_sites → slice_index_or sites k d ≡ of_site k held
