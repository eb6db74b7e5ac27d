-- Which of the later calls of a disk are to fail, and how much room it has.
use Rattle.std.specs.Prelude.{ℕ, ◌-◌, Bool, true, false, nat_lt, nat_le, if◌then◌else◌}

-- the first later call that is to fail: none, the one with this number from 1, or a call that is past
pub data Failing : Type 0 where
  never : Failing
  at_call : ℕ → Failing
  already : Failing

-- what a disk tells of the calls to come; the bytes synced and the places written are told with its state
pub record Outlook : Type 0 where
  -- the greatest length that the disk can have
  pub room : ℕ
  pub failing : Failing

-- the next call answers Ok
abbrev pub succeeds : Failing → Bool
succeeds never = true
succeeds (at_call number) = nat_lt 1 number
succeeds already = false

-- the next call is done, whatever it answers
abbrev pub is_done : Failing → Bool
is_done never = true
is_done (at_call number) = true
is_done already = false

-- what is to fail once one call has been made
abbrev pub failing_next : Failing → Failing
failing_next never = never
failing_next (at_call number) = if nat_le number 1 then already else at_call (number - 1)
failing_next already = already

abbrev pub outlook_next : Outlook → Outlook
outlook_next outlook = record { room = outlook.room; failing = failing_next outlook.failing }
