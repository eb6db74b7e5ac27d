use Rattle.std.proofs.Common.{Option, None, ℕ, sym, ap}
use Rattle.std.proofs.lemmas.List.{get_or-replicate}
use Rattle.log_records.specs.Messages.{is_past}
use Rattle.log_records.proofs.latest.Latest.new.Goals as goal

pub returns : goal.returns
returns c site time low = ap (λ (last : Option ℕ). is_past last time) (sym (get_or-replicate 32 site None None low))
