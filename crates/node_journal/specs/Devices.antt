-- What a disk tells of its calls, before and after some of them.
use Rattle.std.specs.Prelude.{◌≡◌, Option, Some, option_map, IfSome}
use Rattle.disk_store.specs.Outlook.{Outlook, never}

-- the room is as before, where it is told
abbrev pub SameRoom : Option Outlook → Option Outlook → Type 0
SameRoom old new = option_map (λ o. o.room) new ≡ option_map (λ o. o.room) old

-- while no call is to fail, what is told stays as it is
abbrev pub StaysQuiet : Option Outlook → Option Outlook → Type 0
StaysQuiet old new = IfSome old (λ o. o.failing ≡ never → new ≡ Some o)
