-- Schedules in which each Push takes in a message that a Pull before it asked for, at the site that the Pull was to.
use Rattle.std.specs.Prelude.{◌≡◌, ℕ, ◌<◌, List, [], ◌∷◌, ◌++◌, length, slice_index, All}
use Rattle.schedule_text.specs.declared.planned.Planned.{Planned}
use Rattle.schedule_text.specs.declared.planned.Planned.TheVariants.{Get, Status, Request, Pull, Push}
use Rattle.schedule_text.specs.declared.steps.Step.{Step}
use Rattle.schedule_text.specs.declared.steps.Step.TheVariants.{Batch, Restart}
use Rattle.sample_schedules.specs.Generator.{pulled}

-- a Push at a site names one of these Pulls, which was to this site
abbrev pub IsPulled : List ℕ → ℕ → Planned → Type 0
IsPulled pulls site (Get key) = Unit {0}
IsPulled pulls site (Status id) = Unit {0}
IsPulled pulls site (Request at reads puts) = Unit {0}
IsPulled pulls site (Pull at to) = Unit {0}
IsPulled pulls site (Push at message) = (message < length pulls) × (slice_index pulls message ≡ site)

abbrev pub PushesPulled : List ℕ → Step → Type 0
PushesPulled pulls (Batch site inputs stop) = All (IsPulled pulls site) inputs
PushesPulled pulls (Restart site stop) = Unit {0}

-- each step behind these Pulls pushes what was pulled before it
abbrev pub PushWhatWasPulled : List ℕ → List Step → Type 0
PushWhatWasPulled pulls [] = Unit {0}
PushWhatWasPulled pulls (s ∷ steps) = PushesPulled pulls s × PushWhatWasPulled (pulls ++ pulled s) steps
