-- Where a journal is read or written next.
use Rattle.std.specs.Prelude.{ℕ}

-- the place of a gate, and the greatest length that the journal may have
pub record Position : Type 0 where
  pub gate : ℕ
  pub limit : ℕ
