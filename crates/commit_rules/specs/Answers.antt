-- What an answer makes of a site's node, and what the rules of a request read of a ledger.
use Rattle.std.specs.Prelude.{◌≡◌, ℕ, List, Option, Bool, not, find}
use Rattle.std.specs.Option.{option_map}
use Rattle.helios_model.specs.declared.entries.Reply.{Reply}
use Rattle.helios_model.specs.declared.entries.Reply.TheVariants.{Overwritten}
use Rattle.helios_model.specs.declared.transactions.PutItem.{PutItem}
use Rattle.helios_model.specs.declared.transactions.ReadItem.{ReadItem}
use Rattle.helios_model.specs.declared.transactions.WriteItem.{WriteItem}
use Rattle.helios_model.specs.Ids.{same_version}
use Rattle.helios_model.specs.Node.{Node, Stepped}
use Rattle.node_limits.specs.Limits.{IsSoundNode}
use Rattle.version_store.specs.declared.held.Held.{Held}
use Rattle.version_store.specs.Store.{version_in}
use Rattle.site_ledger.specs.Ledger.{Base}
use Rattle.site_node.specs.Node.{IsNodeOf, SiteData, node_in}

-- the reply is the one that this rule gives the node before, and the parts after stand for the node that it then is
pub record AnswersAt (b : Base) (before after : SiteData) (reply : Reply) (rule : Node → Stepped) : Type 0 where
  pub stands : IsNodeOf b after
  pub answer : rule (node_in b before) ≡ record { reply = reply; node = node_in b after }

-- whatever sound node the parts stood for, they answer as this rule does
abbrev pub Answers : SiteData → SiteData → Reply → (Node → Stepped) → Type 0
Answers before after reply rule = (b : Base) → IsNodeOf b before → IsSoundNode before.plan (node_in b before) → AnswersAt b before after reply rule

-- the parts after stand for the node that this rule makes of the sound one before, whatever it replies
abbrev pub Moves : SiteData → SiteData → (Node → Stepped) → Type 0
Moves before after rule = (b : Base) → IsNodeOf b before → IsSoundNode before.plan (node_in b before) → AnswersAt b before after (rule (node_in b before)).reply rule

-- a read whose version is not the one that a store has
abbrev pub is_stale_in : List (List ℕ × Held) → ReadItem → Bool
is_stale_in store read = not (same_version read.version (version_in store read.key))

-- a write with the version in a store that it overwrites
abbrev pub write_in : List (List ℕ × Held) → PutItem → WriteItem
write_in store put = record { key = put.key; value = put.value; over = version_in store put.key }

-- the refusal that names the version in a store of the first stale read
abbrev pub stale_reply_in : List (List ℕ × Held) → List ReadItem → Option Reply
stale_reply_in store reads = option_map (λ r. Overwritten r.key (version_in store r.key)) (find (is_stale_in store) reads)
