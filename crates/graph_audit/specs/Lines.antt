-- How refusals of dumps are printed.
use Rattle.std.specs.Prelude.{ℕ, List, ◌++◌, codes, decimal}
use Rattle.helios_model.specs.Ids.{id_text}
use Rattle.graph_audit.specs.declared.refusal.DumpsRefusal.{DumpsRefusal}
use Rattle.graph_audit.specs.declared.refusal.DumpsRefusal.TheVariants as refusals

abbrev pub refusal_text : DumpsRefusal → List ℕ
refusal_text refusals.NotJson = codes "not-json"
refusal_text refusals.BadShape = codes "bad-shape"
refusal_text (refusals.BadDump place) = codes "bad-dump " ++ decimal place
refusal_text (refusals.PrepareDiffers id) = codes "prepare-differs " ++ id_text id
refusal_text (refusals.NoPrepare id) = codes "no-prepare " ++ id_text id
refusal_text refusals.NoMemory = codes "no-memory"
