use Rattle.std.proofs.Common.{◌≡◌, ◌<◌, ◌≤◌, get_or, arith}
use Rattle.std.specs.Prelude.{min}
use Rattle.weighted_plan.proofs.Places.{read_in}
use Rattle.weighted_plan.proofs.Sending.{is_sent}
use Rattle.weighted_plan.proofs.pushing.push.Goals as goal

pub returns : goal.returns
returns c =
    let n = c.args.count in
    let t = c.args.tree.now in
    let shape = c.requires.shape in
    let near_is : c.index.result.now ≡ get_or t.near.items c.args.end 0 = read_in n t.near.items c.args.end c.index.result.now shape.nears c.requires.end c.index.ensures in
    let near_row : get_or t.near.items c.args.end 0 < n = shape.near_row c.args.end c.requires.end in
    let room_is : c.index-2.result.now ≡ get_or t.room.items (get_or t.near.items c.args.end 0) 0 = (
    let is : c.index-2.result.now ≡ get_or t.room.items c.index.result.now 0 = read_in n t.room.items c.index.result.now c.index-2.result.now shape.rooms (omega (arith, near_is, near_row)) c.index-2.ensures in
    rw near_is at is) in
    let some : 1 ≤ get_or t.room.items (get_or t.near.items c.args.end 0) 0 = shape.some_room (get_or t.near.items c.args.end 0) near_row (shape.near_joined c.args.end c.requires.end) in
    let least : c.min-amount.result ≡ min c.index-2.result.now (get_or c.args.demand.now c.args.end 0) = c.min-amount.ensures in
    is_sent n t.order.items t.turns.items t.near.items t.room.items c.args.flow.now c.hand_on-row.new.flow c.args.supply.now c.args.demand.now c.args.end c.min-amount.result c.hand_on-row.result c.requires.supplies c.requires.demands c.requires.end c.requires.first_room c.hand_on-row.ensures
    (omega (arith, least)) (omega (arith, least, room_is, some, c.requires.wanting))
