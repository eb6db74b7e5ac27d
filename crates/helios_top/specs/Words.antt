-- Which command the words of a command line name.
use Rattle.std.specs.Prelude.{ℕ, List, [], ◌∷◌, Option, Some, None, if◌then◌else◌, map, nat_lt, option_and_then, option_map, codes, String, string_bytes}
use Rattle.std.specs.Str.{bytes_eq}
use Rattle.std.specs.declared.alloc.Global.{Global}
use Rattle.helios_model.specs.Limits.{most_sites}
use Rattle.helios_model.specs.Spellings.{number_of}
use Rattle.helios_top.specs.declared.words.Command.{Command}
use Rattle.helios_top.specs.declared.words.Command.TheVariants.{Audit, Check, Dump, History, Plan, Replay, Trial, Weigh}

-- the bytes of each word
abbrev pub texts : List (String Global) → List (List ℕ)
texts words = map string_bytes words

-- the command that one word names alone
abbrev pub command_alone : List ℕ → Option Command
command_alone word =
    if bytes_eq word (codes "replay") then Some Replay
    else (if bytes_eq word (codes "check") then Some Check
    else (if bytes_eq word (codes "plan") then Some Plan
    else (if bytes_eq word (codes "audit") then Some Audit
    else (if bytes_eq word (codes "weigh") then Some Weigh else None))))

-- `replay` with a word behind it
abbrev pub history_asked : List ℕ → Option Command
history_asked argument = if bytes_eq argument (codes "--history") then Some History else None

-- `trial` with a word behind it: a number below 2^64 in decimal, with no 0 in front of other digits
abbrev pub trial_of : List ℕ → Option Command
trial_of argument = option_map Trial (number_of argument)

-- `dump` with a word behind it: a site below 32 in decimal, with no 0 in front of other digits
abbrev pub dump_at : ℕ → Option Command
dump_at number = if nat_lt number most_sites then Some (Dump number) else None

abbrev pub dump_of : List ℕ → Option Command
dump_of argument = option_and_then dump_at (number_of argument)

-- the command that a word names with one word behind it
abbrev pub command_with : List ℕ → List ℕ → Option Command
command_with word argument =
    if bytes_eq word (codes "replay") then history_asked argument
    else (if bytes_eq word (codes "trial") then trial_of argument
    else (if bytes_eq word (codes "dump") then dump_of argument else None))

-- the command that the words name: one of `replay`, `check`, `plan`, `audit`, `weigh`, `replay --history` and `trial NUMBER`, and no other words
-- the command that the words name: one of `replay`, `check`, `plan`, `audit`, `replay --history`, `trial NUMBER` and `dump SITE`, and no other words
abbrev pub command_of : List (List ℕ) → Option Command
command_of [] = None
command_of (word ∷ []) = command_alone word
command_of (word ∷ argument ∷ []) = command_with word argument
command_of (word ∷ argument ∷ third ∷ others) = None
