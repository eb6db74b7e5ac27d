use Rattle.std.proofs.Common.{◌≡◌, ◌≤◌, length, get_or, arith}
use Rattle.weighted_plan.specs.Growing.{IsLowered, IsNearest, IsRaised}
use Rattle.weighted_plan.specs.Trips.{count_of, distance}
use Rattle.weighted_plan.proofs.Joining.{column_joined, joined_tree}
use Rattle.weighted_plan.proofs.Shifted.{enough, grown, limited, nearest_tight, shifted_tree}
use Rattle.weighted_plan.proofs.growing.grow.Goals as goal

pub lower-requires-clause-enough : goal.lower-requires-clause-enough
lower-requires-clause-enough c =
    let n = count_of c.args.m.now in
    let d = distance c.args.m.now in
    let t = c.loop-free.tree in
    let tree = c.loop-free.invariant.tree in
    let place = c.nearest-column.result.0 in
    let by = c.nearest-column.result.1 in
    let found : IsNearest n d c.loop-free.u c.loop-free.v t.turns.items t.near.items place by = rw (c.deref.ensures.value, c.deref-in-loop-free.ensures.value) at c.nearest-column.ensures in
    λ i within joined. enough n d (λ i. get_or c.args.tree.now.room.items i 0) c.loop-free.turn c.loop-free.u c.loop-free.v c.args.flow.now c.args.demand.now t.order.items t.turns.items t.near.items t.via.items t.room.items c.args.free place by c.requires.free c.requires.wanting tree i found (let size : length c.loop-free.u ≡ n = tree.feasible.rows in omega arith) (rw c.deref-in-loop-free-2.ensures.value at joined)

pub raise-requires-clause-room : goal.raise-requires-clause-room
raise-requires-clause-room c =
    let n = count_of c.args.m.now in
    let d = distance c.args.m.now in
    let t = c.loop-free.tree in
    let tree = c.loop-free.invariant.tree in
    let place = c.nearest-column.result.0 in
    let by = c.nearest-column.result.1 in
    let found : IsNearest n d c.loop-free.u c.loop-free.v t.turns.items t.near.items place by = rw (c.deref.ensures.value, c.deref-in-loop-free.ensures.value) at c.nearest-column.ensures in
    λ j within joined. limited n d (λ i. get_or c.args.tree.now.room.items i 0) c.loop-free.turn c.loop-free.u c.loop-free.v c.args.flow.now c.args.demand.now t.order.items t.turns.items t.near.items t.via.items t.room.items c.args.free place by c.requires.free c.requires.wanting tree j found (let size : length c.loop-free.v ≡ n = tree.feasible.columns in omega arith) (rw c.deref-in-loop-free-3.ensures.value at joined)

pub returns-then-demand-column-ge1 : goal.returns-then-demand-column-ge1
returns-then-demand-column-ge1 c =
    let n = count_of c.args.m.now in
    let d = distance c.args.m.now in
    let t = c.loop-free.tree in
    let tree = c.loop-free.invariant.tree in
    let place = c.nearest-column.result.0 in
    let by = c.nearest-column.result.1 in
    let found : IsNearest n d c.loop-free.u c.loop-free.v t.turns.items t.near.items place by = rw (c.deref.ensures.value, c.deref-in-loop-free.ensures.value) at c.nearest-column.ensures in
    let lowered : IsLowered t.order.items by c.loop-free.u c.lower.new.u = rw c.deref-in-loop-free-2.ensures.value at c.lower.ensures in
    let raised : IsRaised t.turns.items by c.loop-free.v c.raise.new.v = rw c.deref-in-loop-free-3.ensures.value at c.raise.ensures in
    grown n d (λ i. get_or c.args.tree.now.room.items i 0) c.loop-free.turn c.loop-free.u c.loop-free.v c.args.flow.now c.args.demand.now t.order.items t.turns.items t.near.items t.via.items t.room.items c.lower.new.u c.raise.new.v c.args.free place by c.requires.free c.requires.wanting tree found lowered raised c.if-demand-column-ge1.true

pub join_rows-requires-clause-small : goal.join_rows-requires-clause-small
join_rows-requires-clause-small c =
    let n = count_of c.args.m.now in
    let d = distance c.args.m.now in
    let t = c.loop-free.tree in
    let tree = c.loop-free.invariant.tree in
    let place = c.nearest-column.result.0 in
    let by = c.nearest-column.result.1 in
    let found : IsNearest n d c.loop-free.u c.loop-free.v t.turns.items t.near.items place by = rw (c.deref.ensures.value, c.deref-in-loop-free.ensures.value) at c.nearest-column.ensures in
    let lowered : IsLowered t.order.items by c.loop-free.u c.lower.new.u = rw c.deref-in-loop-free-2.ensures.value at c.lower.ensures in
    let raised : IsRaised t.turns.items by c.loop-free.v c.raise.new.v = rw c.deref-in-loop-free-3.ensures.value at c.raise.ensures in
    (shifted_tree n d (λ i. get_or c.args.tree.now.room.items i 0) c.loop-free.turn c.loop-free.u c.loop-free.v c.args.flow.now c.args.demand.now t.order.items t.turns.items t.near.items t.via.items t.room.items c.lower.new.u c.raise.new.v c.args.free place by c.requires.free c.requires.wanting tree found lowered raised).feasible.small_rows

pub join_rows-requires-clause-grows : goal.join_rows-requires-clause-grows
join_rows-requires-clause-grows c =
    let n = count_of c.args.m.now in
    let d = distance c.args.m.now in
    let t = c.loop-free.tree in
    let tree = c.loop-free.invariant.tree in
    let place = c.nearest-column.result.0 in
    let by = c.nearest-column.result.1 in
    let found : IsNearest n d c.loop-free.u c.loop-free.v t.turns.items t.near.items place by = rw (c.deref.ensures.value, c.deref-in-loop-free.ensures.value) at c.nearest-column.ensures in
    let lowered : IsLowered t.order.items by c.loop-free.u c.lower.new.u = rw c.deref-in-loop-free-2.ensures.value at c.lower.ensures in
    let raised : IsRaised t.turns.items by c.loop-free.v c.raise.new.v = rw c.deref-in-loop-free-3.ensures.value at c.raise.ensures in
    column_joined n d c.loop-free.turn c.lower.new.u c.args.flow.now t.order.items t.turns.items t.near.items t.via.items t.room.items place c.loop-free.invariant.late found.within found.outside (shifted_tree n d (λ i. get_or c.args.tree.now.room.items i 0) c.loop-free.turn c.loop-free.u c.loop-free.v c.args.flow.now c.args.demand.now t.order.items t.turns.items t.near.items t.via.items t.room.items c.lower.new.u c.raise.new.v c.args.free place by c.requires.free c.requires.wanting tree found lowered raised).growing

pub loop-free-preserved : goal.loop-free-preserved
loop-free-preserved c =
    let n = count_of c.args.m.now in
    let d = distance c.args.m.now in
    let t = c.loop-free.tree in
    let tree = c.loop-free.invariant.tree in
    let place = c.nearest-column.result.0 in
    let by = c.nearest-column.result.1 in
    let found : IsNearest n d c.loop-free.u c.loop-free.v t.turns.items t.near.items place by = rw (c.deref.ensures.value, c.deref-in-loop-free.ensures.value) at c.nearest-column.ensures in
    let lowered : IsLowered t.order.items by c.loop-free.u c.lower.new.u = rw c.deref-in-loop-free-2.ensures.value at c.lower.ensures in
    let raised : IsRaised t.turns.items by c.loop-free.v c.raise.new.v = rw c.deref-in-loop-free-3.ensures.value at c.raise.ensures in
    let after = c.join_rows.new.tree in
    record {
      tree = joined_tree n d (λ i. get_or c.args.tree.now.room.items i 0) c.loop-free.turn c.lower.new.u c.raise.new.v c.args.flow.now c.args.demand.now t.order.items t.turns.items t.near.items t.via.items t.room.items after.order.items after.turns.items after.near.items after.via.items after.room.items
          place c.loop-free.invariant.late found.within found.outside c.if-demand-column-ge1.false (nearest_tight n d (λ i. get_or c.args.tree.now.room.items i 0) c.loop-free.turn c.loop-free.u c.loop-free.v c.args.flow.now c.args.demand.now t.order.items t.turns.items t.near.items t.via.items t.room.items c.lower.new.u c.raise.new.v c.args.free place by c.requires.free c.requires.wanting tree found lowered raised) (shifted_tree n d (λ i. get_or c.args.tree.now.room.items i 0) c.loop-free.turn c.loop-free.u c.loop-free.v c.args.flow.now c.args.demand.now t.order.items t.turns.items t.near.items t.via.items t.room.items c.lower.new.u c.raise.new.v c.args.free place by c.requires.free c.requires.wanting tree found lowered raised) c.join_rows.ensures.grows c.join_rows.ensures.joined c.join_rows.ensures.closed;
      late = (let before : 2 ≤ c.loop-free.turn = c.loop-free.invariant.late in omega arith);
    }
