use Rattle.std.proofs.Common.{Bool, ◌||◌, ◌&&◌, take}
use Rattle.std.specs.List.{list_any}
use Rattle.helios_model.specs.Ids.{same_id}
use Rattle.helios_model.specs.Transactions.{Transaction}
use Rattle.prepare_pools.specs.Conflicts.{IsFound, chosen}
use Rattle.prepare_pools.proofs.gathering.gather.Given as goal

abbrev pub invariant-loop-touch : goal.invariant-loop-touch
invariant-loop-touch l = (test : Transaction → Bool) → IsFound test l.line l.initial.found.entries
    → IsFound (λ q. test q || list_any (λ t. chosen l.site l.any t && same_id q.id t.id) (take l.touch-index l.touches)) l.line l.found.entries
