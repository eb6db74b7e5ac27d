-- A step leaves a node at its site.
use Rattle.std.proofs.Common.{◌≡◌, refl, ℕ, Bool, true, false, Option, Some, None, List, [], ◌∷◌, fold}
use Rattle.helios_model.specs.declared.ids.TxnId.{TxnId}
use Rattle.helios_model.specs.declared.entries.Entry.{Entry}
use Rattle.helios_model.specs.declared.entries.Input.{Input}
use Rattle.helios_model.specs.declared.entries.Input.TheVariants.{Get, Status, Request, Pull, Push}
use Rattle.helios_model.specs.declared.entries.Reply.{Reply}
use Rattle.helios_model.specs.Transactions.{Transaction}
use Rattle.helios_model.specs.Plans.{PlanData}
use Rattle.helios_model.specs.Node.{Node, is_spent}
use Rattle.helios_model.specs.Settle.{commit_one, ready}
use Rattle.helios_model.specs.Request.{asked, entered, next_id, refusal, unless_refused}
use Rattle.helios_model.specs.Messages.{advanced, arrived}
use Rattle.helios_model.specs.Step.{by_clock, is_journaled, step}
use Rattle.std.specs.Prelude.{◌&&◌}

commits_site : (plan : PlanData) (n : Node) (ids : List TxnId) → (fold (commit_one plan) n ids).site ≡ n.site
commits_site plan n [] = refl
commits_site plan n (id ∷ ids) = commits_site plan (commit_one plan n id) ids

unless_site : (plan : PlanData) (n : Node) (p : Transaction) (o : Option Reply) → (unless_refused plan n p o).node.site ≡ n.site
unless_site plan n p (Some reply) = refl
unless_site plan n p None = commits_site plan (entered plan n p) (ready plan (entered plan n p))

clock_site : (plan : PlanData) (n : Node) (reading : ℕ) (input : Input) (spent : Bool) → (by_clock plan n reading input spent).node.site ≡ n.site
clock_site plan n reading input true = refl
clock_site plan n reading (Get key) false = refl
clock_site plan n reading (Status id) false = refl
clock_site plan n reading (Request ask) false = unless_site plan n (asked n.log (next_id plan n reading) ask) (refusal n ask)
clock_site plan n reading (Pull to) false = refl
clock_site plan n reading (Push m) false = commits_site plan (arrived plan (advanced plan n reading) m) (ready plan (arrived plan (advanced plan n reading) m))

pub step_site : (plan : PlanData) (n : Node) (e : Entry) → (step plan n e).node.site ≡ n.site
step_site plan n e = clock_site plan n e.reading e.input (is_journaled e.input && is_spent plan n)
