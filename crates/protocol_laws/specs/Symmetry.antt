-- Conflict is the same from both sides.
use Rattle.std.specs.Prelude.{◌≡◌}
use Rattle.helios_model.specs.Transactions.{Touched, keys_conflict}

abbrev pub ConflictIsSymmetric : Type 0
ConflictIsSymmetric = (a b : Touched) → keys_conflict a b ≡ keys_conflict b a
