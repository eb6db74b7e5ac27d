use Rattle.std.proofs.Common.{◌≡◌, ◌-◌, [], ◌++◌}
use Rattle.sample_schedules.specs.Generator.{steps_from}
use Rattle.sample_schedules.proofs.making.make_schedule.Given as goal

-- the steps so far, and those to come from what the generator has drawn, are all steps
abbrev pub invariant-loop-i : goal.invariant-loop-i
invariant-loop-i l =
    (l.generator.sites ≡ l.sites)
    × (l.made.items ++ steps_from l.sites (l.steps - l.i) l.i l.generator.targets.items l.generator.draws.state ≡ steps_from l.sites l.steps 0 [] l.number)
