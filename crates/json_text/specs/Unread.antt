-- What a reader of a part gives: what the part says, or why it was not read.
use Rattle.std.specs.Prelude.{◌≡◌, Option, Some, None, option_and_then, Result, Ok, Err}
use Rattle.json_text.specs.declared.refusals.Unread.{Unread}
use Rattle.json_text.specs.declared.refusals.Unread.TheVariants.{NoMemory, OtherForm}

infixl 10 ◌>>=◌
-- what comes of a part that is there
abbrev pub ◌>>=◌ : {A B : Type 0} → Option A → (A → Option B) → Option B
found >>= next = option_and_then next found

-- a part that was not read says nothing, unless memory ran out
abbrev pub Fails : {A : Type 0} → Unread → Option A → Type 0
Fails OtherForm said = said ≡ None
Fails NoMemory said = Unit {0}

-- a call returned what the part says, unless memory ran out
abbrev pub Reads : {A : Type 0} → Result A Unread → Option A → Type 0
Reads (Ok x) said = said ≡ Some x
Reads (Err unread) said = Fails unread said

-- the same of what a call returned as seen by a function
abbrev pub ReadsAs : {X A : Type 0} → (X → A) → Result X Unread → Option A → Type 0
ReadsAs seen (Ok x) said = said ≡ Some (seen x)
ReadsAs seen (Err unread) said = Fails unread said

-- the refusal of the whole, where a part has another form
abbrev pub because : {E : Type 0} → E → E → Unread → E
because memory refusal OtherForm = refusal
because memory refusal NoMemory = memory
