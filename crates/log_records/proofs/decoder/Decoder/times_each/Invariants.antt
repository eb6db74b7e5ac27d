use Rattle.std.proofs.Common.{◌≡◌, ◌-◌, []}
use Rattle.std.specs.Int.{w64}
use Rattle.helios_model.specs.Limits.{last_time}
use Rattle.log_records.specs.Fields.{each_after, is_within, number_at}
use Rattle.log_records.proofs.decoder.Decoder.times_each.Given as goal

-- what is left to read, behind the times so far, gives what all of them give
abbrev pub invariant-loop : goal.invariant-loop
invariant-loop l = (each_after (λ before. number_at w64 (is_within 0 last_time) l.fn.self.whole) (l.count - l.counter) l.times.items l.self.rest.now ≡ each_after (λ before. number_at w64 (is_within 0 last_time) l.fn.self.whole) l.count [] l.fn.self.rest.now) × (l.self.whole ≡ l.fn.self.whole)
