-- How far a replay has come: what its steps reach, told step by step.
use Rattle.std.specs.Prelude.{Bool, true, false, ℕ, ◌+◌, ◌*◌, ◌^◌, List, [], ◌++◌, length, fold, replicate, slice_set}
use Rattle.std.specs.List.{count_by, sum_by}
use Rattle.helios_model.specs.declared.messages.Message.{Message}
use Rattle.helios_model.specs.Plans.{PlanData, count_of}
use Rattle.helios_model.specs.World.{World, first_world, happens, journaled}
use Rattle.log_records.specs.Messages.{message_bytes}
use Rattle.node_host.specs.Journals.{frame_size}
use Rattle.schedule_text.specs.declared.steps.Step.{Step}
use Rattle.schedule_text.specs.declared.steps.Step.TheVariants.{Batch, Restart}
use Rattle.schedule_replay.specs.Entries.{entries_at, event_for}
use Rattle.schedule_replay.specs.Report.{closing_lines, step_lines}

pub record Progress : Type 0 where
  pub world : World
  -- for each site, whether a step named it
  pub opened : List Bool
  -- how many bytes the frames of the batches have that were run, stopped or not
  pub frames : ℕ
  -- the lines of the report so far
  pub lines : List ℕ
  -- how many steps were taken
  pub number : ℕ

abbrev pub first_progress : PlanData → Progress
first_progress plan = record { world = first_world plan; opened = replicate (count_of plan) false; frames = 0; lines = []; number = 0 }

-- the site that a step names
abbrev pub site_of : Step → ℕ
site_of (Batch site inputs stop) = site
site_of (Restart site stop) = site

-- how many bytes the frame of a step's batch has
abbrev pub step_frame : PlanData → World → Step → ℕ
step_frame plan w (Batch site inputs stop) = frame_size (journaled (entries_at plan w site inputs))
step_frame plan w (Restart site stop) = 0

-- one step more
abbrev pub pass : PlanData → Progress → Step → Progress
pass plan p s = record {
  world = happens plan p.world (event_for plan p.world s);
  opened = slice_set p.opened (site_of s) true;
  frames = p.frames + step_frame plan p.world s;
  lines = p.lines ++ step_lines plan p.world p.number s;
  number = p.number + 1;
}

-- how far these steps come
unfoldable pub progress : PlanData → List Step → Progress
progress plan steps = fold (pass plan) (first_progress plan) steps

-- the world that the steps of a schedule reach
abbrev pub reached : PlanData → List Step → World
reached plan steps = (progress plan steps).world

-- how many bytes the spelling of a message has
abbrev pub message_size : Message → ℕ
message_size m = length (message_bytes m)

-- what a replay has written, in bytes: a head for each site that was opened, the frames of the batches, the messages that were
-- released, and the lines
abbrev pub volume : Progress → ℕ
volume p = 39 * count_by (λ is_open. is_open) p.opened + p.frames + sum_by message_size p.world.sent + length p.lines

-- a step is refused where more was written before it
abbrev pub most_volume : ℕ
most_volume = 2 ^ 28

-- the report of a schedule
abbrev pub report_of : PlanData → List Step → List ℕ
report_of plan steps = (progress plan steps).lines ++ closing_lines plan (reached plan steps)
