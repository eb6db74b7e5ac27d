-- The commits of a batch, as its site's node makes them and as they are recovered with its journal.
use Rattle.std.proofs.Common.{◌≡◌, ◌∙◌, ap, refl, ℕ, ◌≤◌, List, [], ◌∷◌, ◌++◌, length, arith}
use Rattle.node_host.specs.Laws.{JournaledSuffice, RecoveredGoesOn, RecoveredIsNode}
use Rattle.node_host.specs.Recovery.{recovered}
use Rattle.helios_model.specs.declared.entries.Entry.{Entry}
use Rattle.helios_model.specs.Node.{Node}
use Rattle.helios_model.specs.Plans.{PlanData}
use Rattle.helios_model.specs.Step.{after_entries}
use Rattle.helios_model.specs.World.{World, grown, journal_of, journaled, node_of, own_commits}
use Rattle.protocol_laws.specs.Moves.{BatchMovesOneNode}
use Rattle.schedule_replay.proofs.Journals.{commits_of}

-- the commits that a site's node makes of these entries are the site's
pub commits_here : BatchMovesOneNode → (plan : PlanData) (w : World) (site : ℕ) (entries : List Entry)
    → own_commits (node_of plan w site).site (after_entries plan (node_of plan w site) entries).log (length (node_of plan w site).log) ≡ commits_of plan w site entries
commits_here moves plan w site entries = ap (λ k. own_commits k (after_entries plan (node_of plan w site) entries).log (length (node_of plan w site).log)) (moves.site_stays plan w site)

pub grown_some : (batches : List (List Entry)) (es : List Entry) → 1 ≤ length es → grown batches es ≡ batches ++ es ∷ []
grown_some batches [] some = absurd (omega arith)
grown_some batches (e ∷ es) some = refl

-- the last batch of a journal that grew by these entries makes their commits
pub last_added : BatchMovesOneNode → RecoveredGoesOn → RecoveredIsNode → JournaledSuffice → (plan : PlanData) (w : World) (site : ℕ) (entries : List Entry) → 1 ≤ length (journaled entries)
    → (recovered plan site (grown (journal_of w site) (journaled entries))).last ≡ commits_of plan w site entries
last_added moves goes_on is_node suffice plan w site entries some =
    ap (λ batches. (recovered plan site batches).last) (grown_some (journal_of w site) (journaled entries) some)
    ∙ ap (λ r. r.last) (goes_on plan site (journal_of w site) (journaled entries))
    ∙ ap (λ (n : Node). own_commits n.site (after_entries plan n (journaled entries)).log (length n.log)) (is_node plan w site)
    ∙ ap (λ (n : Node). own_commits (node_of plan w site).site n.log (length (node_of plan w site).log)) (suffice plan (node_of plan w site) entries)
    ∙ commits_here moves plan w site entries
