-- What the batches of a world make of a node.
use Rattle.std.proofs.Common.{◌≡◌, ◌∙◌, refl, sym, ℕ, List, [], ◌∷◌, fold}
use Rattle.std.specs.List.{flat_map}
use Rattle.std.proofs.lemmas.Grind.{fold-append}
use Rattle.helios_model.specs.declared.entries.Entry.{Entry}
use Rattle.helios_model.specs.Plans.{PlanData}
use Rattle.helios_model.specs.Step.{after_entries, after_entry}
use Rattle.helios_model.specs.World.{World, journal_of, node_of}
use Rattle.node_host.specs.Recovery.{Recovered, first_recovered, recovered, take_batch}

-- batch by batch is entry by entry
batch_by_batch : (plan : PlanData) (r : Recovered) (batches : List (List Entry)) → (fold (take_batch plan) r batches).node ≡ after_entries plan r.node (flat_map (λ batch. batch) batches)
batch_by_batch plan r [] = refl
batch_by_batch plan r (b ∷ batches) = batch_by_batch plan (take_batch plan r b) batches ∙ sym (fold-append (after_entry plan) r.node b (flat_map (λ batch. batch) batches))

pub recovered_is_node : (plan : PlanData) (w : World) (site : ℕ) → (recovered plan site (journal_of w site)).node ≡ node_of plan w site
unfolding recovered
recovered_is_node plan w site = batch_by_batch plan (first_recovered plan site) (journal_of w site)
