use Rattle.std.proofs.Common.{◌≡◌, ◌*◌, ◌<◌, ◌≤◌, ◌++◌, length, get_or, set, replicate, drop, take, rules, arith}
use Rattle.helios_model.specs.Limits.{longest_trip}
use Rattle.weighted_plan.specs.Growing.{IsGrown}
use Rattle.weighted_plan.specs.Handing.{IsSent}
use Rattle.weighted_plan.specs.Trips.{count_of, distance}
use Rattle.weighted_plan.proofs.Begun.{distance_bounded, first_state, light_columns}
use Rattle.weighted_plan.proofs.Joining.{written_back}
use Rattle.weighted_plan.proofs.Places.{read_in}
use Rattle.weighted_plan.proofs.Sending.{next_transport, planted, planted_room}
use Rattle.weighted_plan.proofs.weighing.transported.Goals as goal

pub loop-row-init : goal.loop-row-init
loop-row-init c =
    first_state (count_of c.args.m.now) c.count-count.result (distance c.args.m.now) c.args.weights.now c.in_ok-u.u.items c.in_ok-v.v.items c.in_ok-flow.flow.items c.in_ok-supply.supply.items c.in_ok-demand.demand.items
    (distance_bounded c.args.m.now c.count-count.ensures.limits) c.requires.sites c.count-count.ensures.value
    (let rows : c.in_ok-u.u.items ≡ replicate c.count-count.result longest_trip = search rules in rows)
    (let columns : c.in_ok-v.v.items ≡ replicate c.count-count.result 0 = search rules in columns)
    (let cells : c.in_ok-flow.flow.items ≡ replicate (c.count-count.result * c.count-count.result) 0 = search rules in cells)
    (let supply : c.in_ok-supply.supply.items ≡ c.args.weights.now = search rules in supply)
    (let demand : c.in_ok-demand.demand.items ≡ c.args.weights.now = search rules in demand)

pub grow-end-requires-clause-tree : goal.grow-end-requires-clause-tree
grow-end-requires-clause-tree c =
    let n = count_of c.args.m.now in
    let d = distance c.args.m.now in
    let invariant = c.loop-row.invariant in
    let t = c.in_ok-tree.tree in
    let orders : t.order.items ≡ set (replicate n 0) c.in-Some.row 1 = rw c.count-count.ensures.value at c.in_ok-tree.ensures.orders in
    let turns : t.turns.items ≡ replicate n 0 = rw c.count-count.ensures.value at c.in_ok-tree.ensures.turns in
    let nears : t.near.items ≡ replicate n c.in-Some.row = rw c.count-count.ensures.value at c.in_ok-tree.ensures.nears in
    let ways : t.via.items ≡ replicate n 0 = rw c.count-count.ensures.value at c.in_ok-tree.ensures.ways in
    let rooms : t.room.items ≡ set (replicate n 0) c.in-Some.row c.index.result.now = rw c.count-count.ensures.value at c.in_ok-tree.ensures.rooms in
    let within : c.in-Some.row < n = (let low : c.in-Some.row < length c.loop-row.supply.items = rw c.deref.ensures.value at c.in-Some.ensures.row in omega (arith, invariant.flowing.supplies)) in
    let sends : 1 ≤ get_or c.loop-row.supply.items c.in-Some.row 0 = rw c.deref.ensures.value at c.in-Some.ensures.sends in
    let most : c.index.result.now ≡ get_or c.loop-row.supply.items c.in-Some.row 0 = read_in n c.loop-row.supply.items c.in-Some.row c.index.result.now invariant.flowing.supplies within c.index.ensures in
    rw (c.deref_mut.ensures.value, c.deref_mut-in-Some.ensures.value, c.deref-in-Some.ensures.value, c.deref-in-Some-2.ensures.value)
    (planted n c.in-Some.row c.index.result.now t.order.items t.turns.items t.near.items t.via.items t.room.items within (omega (arith, most, sends)) orders turns nears ways rooms d c.loop-row.u.items c.loop-row.v.items c.loop-row.flow.items c.loop-row.demand.items invariant.feasible invariant.slack invariant.flowing.cells invariant.flowing.demands)

pub push-requires-clause-light : goal.push-requires-clause-light
push-requires-clause-light c =
    let n = count_of c.args.m.now in
    let d = distance c.args.m.now in
    let invariant = c.loop-row.invariant in
    rw (c.count-count.ensures.value, c.deref_mut-in-Some-2.ensures.value, c.deref_mut-in-Some-4.ensures.value)
    (light_columns n c.args.weights.now c.loop-row.flow.items c.loop-row.supply.items c.loop-row.demand.items c.requires.sites c.requires.weights invariant.flowing)

pub push-requires-clause-rooms : goal.push-requires-clause-rooms
push-requires-clause-rooms c =
    rw (c.count-count.ensures.value, c.deref_mut-in-Some-2.ensures.value) (rw c.deref-in-Some.ensures.value at c.grow-end.ensures.rooms)

pub push-requires-clause-first_room : goal.push-requires-clause-first_room
push-requires-clause-first_room c =
    let n = count_of c.args.m.now in
    let d = distance c.args.m.now in
    let invariant = c.loop-row.invariant in
    let t = c.in_ok-tree.tree in
    let orders : t.order.items ≡ set (replicate n 0) c.in-Some.row 1 = rw c.count-count.ensures.value at c.in_ok-tree.ensures.orders in
    let turns : t.turns.items ≡ replicate n 0 = rw c.count-count.ensures.value at c.in_ok-tree.ensures.turns in
    let nears : t.near.items ≡ replicate n c.in-Some.row = rw c.count-count.ensures.value at c.in_ok-tree.ensures.nears in
    let ways : t.via.items ≡ replicate n 0 = rw c.count-count.ensures.value at c.in_ok-tree.ensures.ways in
    let rooms : t.room.items ≡ set (replicate n 0) c.in-Some.row c.index.result.now = rw c.count-count.ensures.value at c.in_ok-tree.ensures.rooms in
    let within : c.in-Some.row < n = (let low : c.in-Some.row < length c.loop-row.supply.items = rw c.deref.ensures.value at c.in-Some.ensures.row in omega (arith, invariant.flowing.supplies)) in
    let sends : 1 ≤ get_or c.loop-row.supply.items c.in-Some.row 0 = rw c.deref.ensures.value at c.in-Some.ensures.sends in
    let most : c.index.result.now ≡ get_or c.loop-row.supply.items c.in-Some.row 0 = read_in n c.loop-row.supply.items c.in-Some.row c.index.result.now invariant.flowing.supplies within c.index.ensures in
    rw (c.count-count.ensures.value, c.deref_mut-in-Some-3.ensures.value) (λ i row first.
    let kept : get_or c.grow-end.new.tree.room.items i 0 ≤ get_or t.room.items i 0 = c.grow-end.ensures.first_room i row first in
    let limit : get_or t.room.items i 0 ≤ get_or c.loop-row.supply.items i 0 = planted_room n c.in-Some.row c.index.result.now t.order.items t.turns.items t.near.items t.via.items t.room.items within (omega (arith, most, sends)) orders turns nears ways rooms c.loop-row.supply.items most i row in
    omega arith)

pub loop-row-preserved : goal.loop-row-preserved
loop-row-preserved c =
    let n = count_of c.args.m.now in
    let d = distance c.args.m.now in
    let invariant = c.loop-row.invariant in
    let t = c.grow-end.new.tree in
    let grown : IsGrown n d (λ i. get_or c.in_ok-tree.tree.room.items i 0) c.grow-end.new.u c.grow-end.new.v c.loop-row.flow.items c.loop-row.demand.items t.order.items t.turns.items t.near.items t.via.items t.room.items c.grow-end.result =
    rw (c.deref-in-Some.ensures.value, c.deref-in-Some-2.ensures.value) at c.grow-end.ensures in
    let sent : IsSent n t.turns.items t.near.items c.grow-end.result c.loop-row.flow.items c.loop-row.supply.items c.loop-row.demand.items c.push.new.flow c.push.new.supply c.push.new.demand =
    rw (c.count-count.ensures.value, c.deref_mut-in-Some-2.ensures.value, c.deref_mut-in-Some-3.ensures.value, c.deref_mut-in-Some-4.ensures.value) at c.push.ensures in
    let u : take c.loop-row.u.len (c.grow-end.new.u ++ drop (length c.grow-end.new.u) c.loop-row.u.items) ≡ c.grow-end.new.u =
    written_back c.loop-row.u.len c.grow-end.new.u (drop (length c.grow-end.new.u) c.loop-row.u.items) (omega (arith, grown.feasible.rows, invariant.feasible.rows, c.loop-row.u.ok.0)) in
    let v : take c.loop-row.v.len (c.grow-end.new.v ++ drop (length c.grow-end.new.v) c.loop-row.v.items) ≡ c.grow-end.new.v =
    written_back c.loop-row.v.len c.grow-end.new.v (drop (length c.grow-end.new.v) c.loop-row.v.items) (omega (arith, grown.feasible.columns, invariant.feasible.columns, c.loop-row.v.ok.0)) in
    let flow : take c.loop-row.flow.len (c.push.new.flow ++ drop (length c.push.new.flow) c.loop-row.flow.items) ≡ c.push.new.flow =
    written_back c.loop-row.flow.len c.push.new.flow (drop (length c.push.new.flow) c.loop-row.flow.items) (omega (arith, sent.cells, invariant.flowing.cells, c.loop-row.flow.ok.0)) in
    let supply : take c.loop-row.supply.len (c.push.new.supply ++ drop (length c.push.new.supply) c.loop-row.supply.items) ≡ c.push.new.supply =
    written_back c.loop-row.supply.len c.push.new.supply (drop (length c.push.new.supply) c.loop-row.supply.items) (omega (arith, sent.supplies, invariant.flowing.supplies, c.loop-row.supply.ok.0)) in
    let demand : take c.loop-row.demand.len (c.push.new.demand ++ drop (length c.push.new.demand) c.loop-row.demand.items) ≡ c.push.new.demand =
    written_back c.loop-row.demand.len c.push.new.demand (drop (length c.push.new.demand) c.loop-row.demand.items) (omega (arith, sent.demands, invariant.flowing.demands, c.loop-row.demand.ok.0)) in
    rw (u, v, flow, supply, demand)
    (next_transport n d (λ i. get_or c.in_ok-tree.tree.room.items i 0) c.args.weights.now c.grow-end.new.u c.grow-end.new.v c.loop-row.flow.items c.loop-row.supply.items c.loop-row.demand.items t.order.items t.turns.items t.near.items t.via.items t.room.items c.push.new.flow c.push.new.supply c.push.new.demand c.grow-end.result
    invariant.flowing grown sent)
