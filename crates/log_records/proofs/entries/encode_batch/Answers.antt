use Rattle.std.proofs.Common.{◌≡◌, List, IfOk, subst}
use Rattle.helios_model.specs.declared.entries.Entry.{Entry}
use Rattle.log_records.specs.Entries.{batch_bytes}
use Rattle.log_records.proofs.Kept.{all_kept}
use Rattle.log_records.proofs.entries.encode_batch.Goals as goal

pub returns-clause-value : goal.returns-clause-value
returns-clause-value c =
    subst (λ (es : List Entry). IfOk c.encode_journaled.result (λ bytes. bytes ≡ batch_bytes es)) (all_kept c.args.es.now c.requires.writable) c.encode_journaled.ensures.value
