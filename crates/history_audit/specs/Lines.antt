-- How refusals of a history are printed.
use Rattle.std.specs.Prelude.{ℕ, List, ◌++◌, codes, decimal}
use Rattle.history_audit.specs.declared.refusal.HistoryRefusal.{HistoryRefusal}
use Rattle.history_audit.specs.declared.refusal.HistoryRefusal.TheVariants as refusals

abbrev pub refusal_text : HistoryRefusal → List ℕ
refusal_text refusals.NotJson = codes "not-json"
refusal_text refusals.BadShape = codes "bad-shape"
refusal_text (refusals.BadTransaction place) = codes "bad-transaction " ++ decimal place
refusal_text refusals.NoMemory = codes "no-memory"
