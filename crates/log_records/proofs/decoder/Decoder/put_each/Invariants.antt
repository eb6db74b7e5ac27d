use Rattle.std.proofs.Common.{◌≡◌, ◌-◌, []}
use Rattle.log_records.specs.Fields.{each_after}
use Rattle.log_records.specs.Items.{put_at}
use Rattle.log_records.proofs.decoder.Decoder.put_each.Given as goal

-- what is left to read, behind the items so far, gives what the whole list gives
abbrev pub invariant-loop : goal.invariant-loop
invariant-loop l = (each_after (put_at l.fn.self.whole) (l.count - l.counter) l.items.items l.self.rest.now ≡ each_after (put_at l.fn.self.whole) l.count [] l.fn.self.rest.now) × (l.self.whole ≡ l.fn.self.whole)
