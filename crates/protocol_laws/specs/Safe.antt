-- What may be relied on in a world of an accepted plan.
use Rattle.std.specs.Prelude.{All}
use Rattle.helios_model.specs.Plans.{PlanData, IsAccepted}
use Rattle.helios_model.specs.World.{World}
use Rattle.helios_model.specs.Serial.{IsSerial}
use Rattle.helios_model.specs.NamedAbort.{AbortsAreCaused, ToldIsNamed}
use Rattle.helios_model.specs.Knowledge.{IsHonest}
use Rattle.helios_model.specs.ConflictOrder.{IsOrdered}
use Rattle.protocol_laws.specs.Reached.{InEachWorld}
use Rattle.protocol_laws.specs.Told.{ToldIsTrue, ToldStands}

-- the commits are a serial history that gives every version read; each refusal and each Abort names what stood in the way; each
-- told reply is true, and what it says of commits stands; and tables and messages are honest, and conflicts are in order
pub record IsSafe (plan : PlanData) (w : World) : Type 0 where
  pub serial : IsSerial w.history
  pub named : All (ToldIsNamed plan w) w.told
  pub told : All (ToldIsTrue plan w) w.told
  pub stands : All (ToldStands plan w) w.told
  pub honest : IsHonest plan w
  pub ordered : IsOrdered plan w
  pub caused : AbortsAreCaused plan w

abbrev pub EachWorldIsSafe : Type 0
EachWorldIsSafe = InEachWorld (λ plan w. IsAccepted plan → IsSafe plan w)
