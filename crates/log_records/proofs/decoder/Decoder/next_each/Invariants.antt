use Rattle.std.proofs.Common.{◌≡◌, ◌-◌, []}
use Rattle.log_records.specs.Fields.{each_after}
use Rattle.log_records.specs.Messages.{AreLatest, next_at}
use Rattle.log_records.proofs.decoder.Decoder.next_each.Given as goal

-- what is left to read, behind the records so far, gives what all of them give; the last records of each origin are noted
abbrev pub invariant-loop : goal.invariant-loop
invariant-loop l = record {
  read : each_after (next_at l.count l.cover l.fn.self.whole) (l.many - l.counter) l.records.items l.self.rest.now ≡ each_after (next_at l.count l.cover l.fn.self.whole) l.many [] l.fn.self.rest.now;
  whole : l.self.whole ≡ l.fn.self.whole;
  noted : AreLatest l.records.items l.latest.times;
}
