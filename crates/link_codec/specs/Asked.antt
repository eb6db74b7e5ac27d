-- What is asked for, as the entry of a journal has it.
use Rattle.std.specs.Prelude.{ℕ, List, [], ◌∷◌, ◌++◌, Option, Some, None}
use Rattle.std.specs.Int.{w64, to_be_bytes}
use Rattle.helios_model.specs.declared.entries.Input.{Input}
use Rattle.helios_model.specs.declared.entries.Input.TheVariants.{Get, Status, Request, Pull, Push}
use Rattle.helios_model.specs.Transactions.{Asking}

-- what an input asks for
abbrev pub asked : Input → Option Asking
asked (Get key) = None
asked (Status id) = None
asked (Request ask) = Some ask
asked (Pull to) = None
asked (Push m) = None

-- what an entry has in front of what is asked for: a reading, here 0, and the byte of its kind
abbrev pub ask_front : List ℕ
ask_front = to_be_bytes w64 0 ++ 1 ∷ []
