-- Why a command refuses what it goes by, in the order of the ends of a run: the length of the input first, then its form.
use Rattle.std.specs.Prelude.{Bool, true, false, not, ◌&&◌, ℕ, List, length, nat_lt, Option, Some, None, option_map, Result, Ok, Err, if◌then◌else◌}
use Rattle.commit_offsets.specs.declared.refusal.PlanRefusal.{PlanRefusal}
use Rattle.commit_offsets.specs.Reading.{plan_of_text}
use Rattle.helios_model.specs.Plans.{MatrixData, PlanData, count_of}
use Rattle.helios_model.specs.declared.plans.Certificate.{Certificate}
use Rattle.helios_model.specs.Short.{first_short_of}
use Rattle.history_audit.specs.Reading.{history_of_text}
use Rattle.rtt_matrix.specs.declared.refusal.MatrixRefusal.{MatrixRefusal}
use Rattle.rtt_matrix.specs.Reading.{matrix_of_text}
use Rattle.schedule_text.specs.declared.refusal.ScheduleRefusal.{ScheduleRefusal}
use Rattle.schedule_text.specs.declared.steps.Schedule.{Schedule}
use Rattle.schedule_text.specs.Reading.{schedule_of_text}
use Rattle.schedule_replay.specs.Refusals.{first_refusal}
use Rattle.weighted_plan.specs.Reading.{weights_of_text}
use Rattle.helios_top.specs.declared.words.Command.{Command}
use Rattle.helios_top.specs.declared.words.Command.TheVariants.{Audit, Check, Dump, History, Plan, Replay, Trial, Weigh}
use Rattle.helios_top.specs.declared.ending.Refusal.{Refusal}
use Rattle.helios_top.specs.declared.ending.Refusal.TheVariants.{NoSuchSite, OfHistory, OfMatrix, OfPlan, OfReplay, OfSchedule, OfWeights, ShortPair, TooLarge}
use Rattle.helios_top.specs.Outside.{most_input_bytes}
use Rattle.helios_top.specs.Trials.{trial_schedule}

-- the refusal that a reader gave
abbrev pub refusal_in : {T E : Type 0} → (E → Refusal) → Result T E → Option Refusal
refusal_in refusal (Ok x) = None
refusal_in refusal (Err e) = Some (refusal e)

-- why a schedule is refused: its first step before which too much was written, or that takes in a message which it can not take in
abbrev pub replay_refusal : Schedule → Option Refusal
replay_refusal schedule = option_map OfReplay (first_refusal schedule.plan schedule.steps)

-- a text that is no schedule is refused by its reader, and a schedule by the replay
abbrev pub replay_refusal_in : Result Schedule ScheduleRefusal → Option Refusal
replay_refusal_in (Ok schedule) = replay_refusal schedule
replay_refusal_in (Err e) = Some (OfSchedule e)

-- why the weights of a text are refused, once its matrix was read: there is one for each of its sites
abbrev pub weights_refusal : List ℕ → MatrixData → Option Refusal
weights_refusal bytes matrix = refusal_in OfWeights (weights_of_text (length matrix.names) bytes)

-- a text that is no matrix is refused as one, and a matrix for its weights
abbrev pub weights_refusal_in : List ℕ → Result MatrixData MatrixRefusal → Option Refusal
weights_refusal_in bytes (Ok matrix) = weights_refusal bytes matrix
weights_refusal_in bytes (Err e) = Some (OfMatrix e)

-- why a site of a plan is refused: the first two sites of the plan that do not reach their round trip, or that it has no such site
abbrev pub pair_refusal : Option (ℕ × ℕ) → PlanData → ℕ → Option Refusal
pair_refusal (Some pair) plan site = Some (ShortPair pair.0 pair.1)
pair_refusal None plan site = if nat_lt site (count_of plan) then None else Some (NoSuchSite site)

abbrev pub site_refusal : PlanData → ℕ → Option Refusal
site_refusal plan site = pair_refusal (first_short_of plan) plan site

-- a text that is no plan is refused by its reader, and a plan by the site
abbrev pub site_refusal_in : ℕ → Result (PlanData × Certificate) PlanRefusal → Option Refusal
site_refusal_in site (Ok read) = site_refusal read.0 site
site_refusal_in site (Err e) = Some (OfPlan e)

-- whether the command reads the input
abbrev pub reads_input : Command → Bool
reads_input Replay = true
reads_input History = true
reads_input (Trial number) = false
reads_input Check = true
reads_input Plan = true
reads_input Audit = true
reads_input Weigh = true
reads_input (Dump site) = true

-- whether a run of these words leaves the input as it is
abbrev pub leaves_input : Option Command → Bool
leaves_input None = true
leaves_input (Some command) = not (reads_input command)

-- the first rule of the form that the command reads which the bytes break; a trial reads none, and its own schedule may be refused
abbrev pub form_refusal_of : Command → List ℕ → Option Refusal
form_refusal_of Replay bytes = replay_refusal_in (schedule_of_text bytes)
form_refusal_of History bytes = replay_refusal_in (schedule_of_text bytes)
form_refusal_of (Trial number) bytes = replay_refusal (trial_schedule number)
form_refusal_of Check bytes = refusal_in OfPlan (plan_of_text bytes)
form_refusal_of Plan bytes = refusal_in OfMatrix (matrix_of_text bytes)
form_refusal_of Audit bytes = refusal_in OfHistory (history_of_text bytes)
form_refusal_of Weigh bytes = weights_refusal_in bytes (matrix_of_text bytes)
form_refusal_of (Dump site) bytes = site_refusal_in site (plan_of_text bytes)

-- why the command refuses the bytes; none where it accepts them
abbrev pub refusal_of : Command → List ℕ → Option Refusal
refusal_of command bytes = if reads_input command && nat_lt most_input_bytes (length bytes) then Some TooLarge else form_refusal_of command bytes
