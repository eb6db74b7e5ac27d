-- `helios replay`: the input is a schedule, and what is printed is the report of the world that its steps reach. Each site runs over its disk of the
-- bench, and the bench is left before anything is written.
use Rattle.std.specs.Prelude.{◌≡◌}
use Rattle.helios_top.specs.declared.replay.Told.TheVariants as told
use Rattle.helios_top.specs.declared.words.Command.TheVariants.{Replay}
use Rattle.helios_top.specs.declared.ending.Ending.{Ending}
use Rattle.helios_top.specs.Inputs.{ReadsInput}
use Rattle.helios_top.specs.Outside.{Outside}
use Rattle.helios_top.specs.Replays.{IsScheduleAnswer, ReplayLeaves}

-- What a run of `replay` does, whatever end it comes to. Where a write failed (3), or there was no memory for the text (4), the bench is as for
-- the true end.
pub record ReplayRun (before after : Outside) (ending : Ending) : Type 0 where
  pub reads : ReadsInput Replay before.input after.input ending (IsScheduleAnswer told.Report ending)
  pub bench : ReplayLeaves told.Report before.input after.input before.bench after.bench ending
  pub disk : after.disk ≡ before.disk
