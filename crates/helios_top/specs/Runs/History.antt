-- `helios replay --history`: the input is a schedule, and what is printed is the history of the world that its steps reach: its commits in the order
-- of their events, which `helios audit` reads and finds serial. The bench is left as `replay` leaves it.
use Rattle.std.specs.Prelude.{◌≡◌}
use Rattle.helios_top.specs.declared.replay.Told.TheVariants as told
use Rattle.helios_top.specs.declared.words.Command.TheVariants.{History}
use Rattle.helios_top.specs.declared.ending.Ending.{Ending}
use Rattle.helios_top.specs.Inputs.{ReadsInput}
use Rattle.helios_top.specs.Outside.{Outside}
use Rattle.helios_top.specs.Replays.{IsScheduleAnswer, ReplayLeaves}

-- what a run of `replay --history` does, whatever end it comes to
pub record HistoryRun (before after : Outside) (ending : Ending) : Type 0 where
  pub reads : ReadsInput History before.input after.input ending (IsScheduleAnswer told.History ending)
  pub bench : ReplayLeaves told.History before.input after.input before.bench after.bench ending
  pub disk : after.disk ≡ before.disk
