use Rattle.std.proofs.Common.{arith}
use Rattle.json_text.proofs.RowSteps.{parts_size}
use Rattle.json_text.proofs.rows.read_row.Goals as goal

pub returns-in-Some-clause-size : goal.returns-in-Some-clause-size
returns-in-Some-clause-size g c = parts_size (λ v. v.items) c.read_parts.result g.N.JsonNumber.of c.args.count c.as_slice.result.now (omega arith) c.read_parts.ensures
