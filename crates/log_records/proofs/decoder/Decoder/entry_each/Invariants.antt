use Rattle.std.proofs.Common.{◌≡◌, ◌-◌, []}
use Rattle.log_records.specs.Fields.{each_after}
use Rattle.log_records.specs.Entries.{entry_at}
use Rattle.log_records.proofs.decoder.Decoder.entry_each.Given as goal

-- what is left to read, behind the entries so far, gives what the whole list gives
abbrev pub invariant-loop : goal.invariant-loop
invariant-loop l = (each_after (λ before. entry_at l.count l.fn.self.whole) (l.many - l.counter) l.entries.items l.self.rest.now ≡ each_after (λ before. entry_at l.count l.fn.self.whole) l.many [] l.fn.self.rest.now) × (l.self.whole ≡ l.fn.self.whole)
