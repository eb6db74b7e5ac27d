-- How refusals of a plan's text are printed.
use Rattle.std.specs.Prelude.{ℕ, List, ◌++◌, codes, decimal}
use Rattle.commit_offsets.specs.declared.refusal.FieldName.{FieldName}
use Rattle.commit_offsets.specs.declared.refusal.FieldName.TheVariants as fields
use Rattle.commit_offsets.specs.declared.refusal.PlanRefusal.{PlanRefusal}
use Rattle.commit_offsets.specs.declared.refusal.PlanRefusal.TheVariants as refusals

abbrev pub field_text : FieldName → List ℕ
field_text fields.Plan = codes "plan"
field_text fields.Version = codes "version"
field_text fields.Names = codes "names"
field_text fields.Rtt = codes "rtt"
field_text fields.Latency = codes "latency"
field_text fields.Offset = codes "offset"
field_text fields.Pair = codes "pair"
field_text fields.Total = codes "total"

abbrev pub refusal_text : PlanRefusal → List ℕ
refusal_text refusals.NotJson = codes "not-json"
refusal_text (refusals.BadField name) = codes "bad-field " ++ field_text name
refusal_text (refusals.Limit name) = codes "limit " ++ field_text name
refusal_text (refusals.OffsetDiffers i j) = codes "offset-differs " ++ decimal i ++ codes " " ++ decimal j
refusal_text (refusals.TotalDiffers given sum) = codes "total-differs " ++ decimal given ++ codes " " ++ decimal sum
refusal_text refusals.NoMemory = codes "no-memory"
