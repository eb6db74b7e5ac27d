use Rattle.std.proofs.Common.{◌≡◌, ◌<◌, ◌≤◌, ◌++◌, length, get_or, drop, take, arith}
use Rattle.std.specs.Prelude.{min}
use Rattle.helios_model.specs.Grid.{at}
use Rattle.weighted_plan.specs.Growing.{IsExtended}
use Rattle.weighted_plan.specs.Trips.{count_of, distance}
use Rattle.weighted_plan.proofs.Joining.{joined_row, row_joined, written_back}
use Rattle.weighted_plan.proofs.Places.{read_in}
use Rattle.weighted_plan.proofs.growing.join_row.Goals as goal

pub returns-clause-grows : goal.returns-clause-grows
returns-clause-grows c =
    let n = count_of c.args.m.now in
    let t = c.args.tree.now in
    let shape = c.requires.grows.shape in
    let extended : IsExtended (distance c.args.m.now) c.args.u.now t.turns.items c.args.row t.near.items c.extend.new.near = rw (c.deref.ensures.value, c.deref_mut.ensures.value) at c.extend.ensures in
    let size : length c.extend.new.near ≡ t.near.len = (let same : length c.extend.new.near ≡ length t.near.items = extended.size in omega (arith, t.near.ok.0)) in
    let back : take t.near.len (c.extend.new.near ++ drop (length c.extend.new.near) t.near.items) ≡ c.extend.new.near = written_back t.near.len c.extend.new.near (drop (length c.extend.new.near) t.near.items) size in
    let out : c.index.result.now ≡ get_or t.order.items c.args.row 0 = read_in n t.order.items c.args.row c.index.result.now shape.orders c.requires.row c.index.ensures in
    let units : c.number-units.result ≡ at n c.args.flow.now c.args.row c.args.column = (let is : c.number-units.result ≡ at c.count.result c.args.flow.now c.args.row c.args.column = c.number-units.ensures in rw c.count.ensures.value at is) in
    let near_is : c.index-2.result.now ≡ get_or t.near.items c.args.column 0 = read_in n t.near.items c.args.column c.index-2.result.now shape.nears c.requires.column c.index-2.ensures in
    let near_row : get_or t.near.items c.args.column 0 < n = shape.near_row c.args.column c.requires.column in
    let room_is : c.index-3.result.now ≡ get_or t.room.items (get_or t.near.items c.args.column 0) 0 = (
    let is : c.index-3.result.now ≡ get_or t.room.items c.index-2.result.now 0 = read_in n t.room.items c.index-2.result.now c.index-3.result.now shape.rooms (omega (arith, near_is, near_row)) c.index-3.ensures in
    rw near_is at is) in
    let some_room : 1 ≤ get_or t.room.items (get_or t.near.items c.args.column 0) 0 = shape.some_room (get_or t.near.items c.args.column 0) near_row (shape.near_joined c.args.column c.requires.column) in
    let least : c.min.result ≡ min c.index-3.result.now c.number-units.result = c.min.ensures in
    rw back (joined_row n (distance c.args.m.now) c.args.turn c.args.u.now c.args.flow.now t.order.items t.turns.items t.near.items t.via.items t.room.items c.extend.new.near c.args.column c.args.row c.min.result c.requires.late c.requires.row c.requires.column c.requires.turn
    (omega (arith, c.if-index-ge1.false, out)) (omega (arith, least, c.if-units-eq0.false)) (omega (arith, least)) (omega (arith, least)) c.requires.grows extended)

pub returns-clause-joined : goal.returns-clause-joined
returns-clause-joined c =
    let n = count_of c.args.m.now in
    let t = c.args.tree.now in
    let shape = c.requires.grows.shape in
    let extended : IsExtended (distance c.args.m.now) c.args.u.now t.turns.items c.args.row t.near.items c.extend.new.near = rw (c.deref.ensures.value, c.deref_mut.ensures.value) at c.extend.ensures in
    let size : length c.extend.new.near ≡ t.near.len = (let same : length c.extend.new.near ≡ length t.near.items = extended.size in omega (arith, t.near.ok.0)) in
    let back : take t.near.len (c.extend.new.near ++ drop (length c.extend.new.near) t.near.items) ≡ c.extend.new.near = written_back t.near.len c.extend.new.near (drop (length c.extend.new.near) t.near.items) size in
    let out : c.index.result.now ≡ get_or t.order.items c.args.row 0 = read_in n t.order.items c.args.row c.index.result.now shape.orders c.requires.row c.index.ensures in
    let units : c.number-units.result ≡ at n c.args.flow.now c.args.row c.args.column = (let is : c.number-units.result ≡ at c.count.result c.args.flow.now c.args.row c.args.column = c.number-units.ensures in rw c.count.ensures.value at is) in
    let near_is : c.index-2.result.now ≡ get_or t.near.items c.args.column 0 = read_in n t.near.items c.args.column c.index-2.result.now shape.nears c.requires.column c.index-2.ensures in
    let near_row : get_or t.near.items c.args.column 0 < n = shape.near_row c.args.column c.requires.column in
    let room_is : c.index-3.result.now ≡ get_or t.room.items (get_or t.near.items c.args.column 0) 0 = (
    let is : c.index-3.result.now ≡ get_or t.room.items c.index-2.result.now 0 = read_in n t.room.items c.index-2.result.now c.index-3.result.now shape.rooms (omega (arith, near_is, near_row)) c.index-3.ensures in
    rw near_is at is) in
    let some_room : 1 ≤ get_or t.room.items (get_or t.near.items c.args.column 0) 0 = shape.some_room (get_or t.near.items c.args.column 0) near_row (shape.near_joined c.args.column c.requires.column) in
    let least : c.min.result ≡ min c.index-3.result.now c.number-units.result = c.min.ensures in
    rw back (row_joined n (distance c.args.m.now) c.args.turn c.args.u.now c.args.flow.now t.order.items t.turns.items t.near.items t.via.items t.room.items c.extend.new.near c.args.column c.args.row c.min.result c.requires.late c.requires.row c.requires.column c.requires.turn
    (omega (arith, c.if-index-ge1.false, out)) (omega (arith, least, c.if-units-eq0.false)) (omega (arith, least)) (omega (arith, least)) c.requires.grows extended)
