use Rattle.std.proofs.Common.{◌≡◌, ◌-◌, drop, length}
use Rattle.log_exchange.specs.Runs.{due_stamps}
use Rattle.log_exchange.proofs.run.Run.next_due.Given as goal

abbrev pub invariant-loop-place : goal.invariant-loop-place
invariant-loop-place l = due_stamps l.known (drop l.place l.self) ≡ due_stamps l.known (drop l.from l.self)

abbrev pub decreases-loop-place : goal.decreases-loop-place
decreases-loop-place l = length l.self - l.place
