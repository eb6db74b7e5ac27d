use Rattle.std.proofs.Common.{length, ◌∙◌, ap}
use Rattle.std.specs.Prelude.{unwrap_or}
use Rattle.rtt_matrix.proofs.FirstRows.{first_rows}
use Rattle.rtt_matrix.proofs.rows.good_rows.Goals as goal

pub returns : goal.returns
returns c =
    c.unwrap_or.ensures ∙ ap (λ found. unwrap_or found (length c.args.rows.now)) c.first_other.ensures ∙ first_rows c.args.count c.args.rows.now
