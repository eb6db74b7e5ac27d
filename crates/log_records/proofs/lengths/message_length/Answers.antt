use Rattle.std.proofs.Common.{ap, arith, length}
use Rattle.log_records.proofs.SpellingLengths.{message_long}
use Rattle.log_records.proofs.lengths.message_length.Goals as goal

pub returns-clause-value : goal.returns-clause-value
returns-clause-value c =
    let records = rw c.items-3.ensures at c.records_length.ensures.value in
    rw (message_long c.args.m.now) (omega (arith, ap length c.items.ensures, ap length c.items-2.ensures, records))
