-- One step of a node: an input is answered by its rule.
use Rattle.std.specs.Prelude.{◌≡◌, ◌≢◌, ℕ, ◌<◌, Bool, true, false, List, ◌&&◌, fold}
use Rattle.helios_model.specs.declared.entries.Entry.{Entry}
use Rattle.helios_model.specs.declared.entries.Input.{Input}
use Rattle.helios_model.specs.declared.entries.Input.TheVariants.{Get, Status, Request, Pull, Push}
use Rattle.helios_model.specs.declared.entries.Reply.TheVariants.{Value, State, ClockSpent}
use Rattle.helios_model.specs.declared.messages.Message.{Message}
use Rattle.helios_model.specs.declared.ids.TxnId.{TxnId}
use Rattle.helios_model.specs.Plans.{PlanData, count_of}
use Rattle.helios_model.specs.Spellable.{IsSpellableAsk, IsMessageOf}
use Rattle.helios_model.specs.Log.{current, current_value}
use Rattle.helios_model.specs.Node.{Node, Stepped, is_spent, status}
use Rattle.helios_model.specs.Request.{request}
use Rattle.helios_model.specs.Messages.{pull, push}

-- another site of the plan
pub record IsOther (plan : PlanData) (site to : ℕ) : Type 0 where
  pub below : to < count_of plan
  pub other : to ≢ site

-- a message of the plan's count that is for this site
pub record IsFor (plan : PlanData) (site : ℕ) (m : Message) : Type 0 where
  pub message : IsMessageOf (count_of plan) m
  pub here : m.to ≡ site

-- what a site may be asked
abbrev pub MayBeAsked : PlanData → ℕ → Input → Type 0
MayBeAsked plan site (Get key) = Unit {0}
MayBeAsked plan site (Status id) = Unit {0}
MayBeAsked plan site (Request ask) = IsSpellableAsk ask
MayBeAsked plan site (Pull to) = IsOther plan site to
MayBeAsked plan site (Push m) = IsFor plan site m

-- the inputs that a journal keeps
abbrev pub is_journaled : Input → Bool
is_journaled (Get key) = false
is_journaled (Status id) = false
is_journaled (Request ask) = true
is_journaled (Pull to) = true
is_journaled (Push m) = true

-- the current version and value of a key
abbrev pub get : Node → List ℕ → Stepped
get n key = record { reply = Value (current n.log key) (current_value n.log key); node = n }

abbrev pub ask_status : Node → TxnId → Stepped
ask_status n id = record { reply = State (status n id); node = n }

-- the answer to an input by its own rule
abbrev pub answer : PlanData → Node → ℕ → Input → Stepped
answer plan n reading (Get key) = get n key
answer plan n reading (Status id) = ask_status n id
answer plan n reading (Request ask) = request plan n reading ask
answer plan n reading (Pull to) = pull plan n reading to
answer plan n reading (Push m) = push plan n reading m

abbrev pub by_clock : PlanData → Node → ℕ → Input → Bool → Stepped
by_clock plan n reading input true = record { reply = ClockSpent; node = n }
by_clock plan n reading input false = answer plan n reading input

-- one step of a node: where its clock is spent, a journaled input changes nothing
abbrev pub step : PlanData → Node → Entry → Stepped
step plan n e = by_clock plan n e.reading e.input (is_journaled e.input && is_spent plan n)

abbrev pub after_entry : PlanData → Node → Entry → Node
after_entry plan n e = (step plan n e).node

-- the node after these entries in their order
abbrev pub after_entries : PlanData → Node → List Entry → Node
after_entries plan n entries = fold (after_entry plan) n entries
