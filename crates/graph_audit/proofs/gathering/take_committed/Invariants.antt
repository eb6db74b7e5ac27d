use Rattle.std.proofs.Common.{◌≡◌, ◌++◌}
use Rattle.std.specs.BTreeMap.{get}
use Rattle.std.specs.List.{filter_map}
use Rattle.std.specs.List.Sorted.{IsStrictlySortedBy}
use Rattle.graph_audit.specs.Ordering.{id_cmp}
use Rattle.graph_audit.proofs.gathering.take_committed.Given as goal

-- the Prepares so far, and those of the ids that are left, which the map still has
abbrev pub invariant-loop-id : goal.invariant-loop-id
invariant-loop-id l = record {
  ordered : IsStrictlySortedBy id_cmp l.id-iterator;
  taken : l.found.items ++ filter_map (get id_cmp l.prepares) l.id-iterator ≡ filter_map (get id_cmp l.initial.prepares) l.fn.ids.keys;
}
