-- The schedule of a trial, and the line of what its replay comes to.
use Rattle.std.specs.Prelude.{ℕ, List, [], ◌∷◌, ◌++◌, length, codes, decimal}
use Rattle.hex.specs.Hex.{encode_lower}
use Rattle.sha2.specs.Sha256.{sha256}
use Rattle.sample_schedules.specs.Generator.{sample_schedule}
use Rattle.schedule_text.specs.declared.steps.Schedule.{Schedule}
use Rattle.schedule_replay.specs.Progress.{reached, report_of}
use Rattle.schedule_replay.specs.Report.{refusals_in}

-- the schedule that a number gives: 4,000 steps at four sites
abbrev pub trial_schedule : ℕ → Schedule
trial_schedule number = sample_schedule number 4 4000

-- trial NUMBER steps 4000 commits C refusals F digest HEX, where the digest is the SHA-256 of the report
abbrev pub trial_line : ℕ → ℕ → ℕ → List ℕ → List ℕ
trial_line number commits refusals report =
    (codes "trial " ++ decimal number ++ codes " steps 4000 commits " ++ decimal commits ++ codes " refusals " ++ decimal refusals ++ codes " digest ")
    ++ encode_lower (sha256 report) ++ 10 ∷ []

-- what the replay of a schedule comes to: its commits, the refusals that were told, and its report
abbrev pub summary_text : ℕ → Schedule → List ℕ
summary_text number schedule =
    trial_line number (length (reached schedule.plan schedule.steps).history) (refusals_in (reached schedule.plan schedule.steps).told)
    (report_of schedule.plan schedule.steps)
