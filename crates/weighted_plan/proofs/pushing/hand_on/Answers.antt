use Rattle.std.proofs.Common.{◌≡◌, ◌+◌, ◌*◌, ◌<◌, ◌≤◌, get_or, refl, arith}
use Rattle.helios_model.specs.Grid.{at}
use Rattle.weighted_plan.specs.Weighted.{greatest_weight}
use Rattle.weighted_plan.proofs.Handed.{begun_as, column_in, earlier_as, enough_as, first_fits_as, handed_on_as, next_bounded_as, next_row_in}
use Rattle.weighted_plan.proofs.Places.{read_in}
use Rattle.weighted_plan.proofs.pushing.hand_on.Goals as goal

pub add-requires-clause-fits : goal.add-requires-clause-fits
add-requires-clause-fits c =
    let t = c.args.tree.now in
    let shape = c.requires.shape in
    let n = c.args.count in
    let row_is : c.index-row.result.now ≡ get_or t.near.items c.args.end 0 = read_in n t.near.items c.args.end c.index-row.result.now shape.nears c.requires.end c.index-row.ensures in
    let below : at n c.args.flow.now c.index-row.result.now c.args.end ≤ greatest_weight =
    first_fits_as n t.order.items t.turns.items t.near.items t.via.items t.room.items c.args.flow.now c.args.end c.index-row.result.now c.requires.end shape c.requires.light row_is in
    omega (arith, c.requires.few_units)

pub loop-column-init : goal.loop-column-init
loop-column-init c =
    let t = c.args.tree.now in
    let shape = c.requires.shape in
    let n = c.args.count in
    let row_is : c.index-row.result.now ≡ get_or t.near.items c.args.end 0 = read_in n t.near.items c.args.end c.index-row.result.now shape.nears c.requires.end c.index-row.ensures in
    let fits : c.args.amount ≤ get_or t.room.items c.index-row.result.now 0 = rw row_is c.requires.fits in
    begun_as n t.order.items t.turns.items t.near.items t.via.items t.room.items c.args.flow.now c.add.new.flow c.args.end c.args.amount c.index-row.result.now c.requires.cells c.requires.end shape c.requires.rooms row_is fits c.add.ensures

pub take-requires-clause-column : goal.take-requires-clause-column
take-requires-clause-column c =
    let t = c.args.tree.now in
    let shape = c.requires.shape in
    let n = c.args.count in
    let handing = c.loop-column.invariant in
    let order_is : c.index.result.now ≡ get_or t.order.items c.loop-column.row 0 = read_in n t.order.items c.loop-column.row c.index.result.now shape.orders handing.within c.index.ensures in
    let deep : 2 ≤ get_or t.order.items c.loop-column.row 0 = omega (arith, c.loop-column-test.true) in
    let column_is : c.index-column.result.now ≡ get_or t.via.items c.loop-column.row 0 = read_in n t.via.items c.loop-column.row c.index-column.result.now shape.ways handing.within c.index-column.ensures in
    column_in n t.order.items t.turns.items t.near.items t.via.items t.room.items c.args.flow.now c.loop-column.flow c.args.end c.args.amount c.loop-column.row c.index-column.result.now (get_or t.near.items c.index-column.result.now 0) c.requires.end shape handing deep column_is refl

pub take-requires-clause-enough : goal.take-requires-clause-enough
take-requires-clause-enough c =
    let t = c.args.tree.now in
    let shape = c.requires.shape in
    let n = c.args.count in
    let handing = c.loop-column.invariant in
    let order_is : c.index.result.now ≡ get_or t.order.items c.loop-column.row 0 = read_in n t.order.items c.loop-column.row c.index.result.now shape.orders handing.within c.index.ensures in
    let deep : 2 ≤ get_or t.order.items c.loop-column.row 0 = omega (arith, c.loop-column-test.true) in
    let column_is : c.index-column.result.now ≡ get_or t.via.items c.loop-column.row 0 = read_in n t.via.items c.loop-column.row c.index-column.result.now shape.ways handing.within c.index-column.ensures in
    enough_as n t.order.items t.turns.items t.near.items t.via.items t.room.items c.args.flow.now c.loop-column.flow c.args.end c.args.amount c.loop-column.row c.index-column.result.now (get_or t.near.items c.index-column.result.now 0) c.requires.end shape handing deep column_is refl

pub index-row-requires-in-loop-column : goal.index-row-requires-in-loop-column
index-row-requires-in-loop-column c =
    let t = c.args.tree.now in
    let shape = c.requires.shape in
    let n = c.args.count in
    let handing = c.loop-column.invariant in
    let order_is : c.index.result.now ≡ get_or t.order.items c.loop-column.row 0 = read_in n t.order.items c.loop-column.row c.index.result.now shape.orders handing.within c.index.ensures in
    let deep : 2 ≤ get_or t.order.items c.loop-column.row 0 = omega (arith, c.loop-column-test.true) in
    let column_is : c.index-column.result.now ≡ get_or t.via.items c.loop-column.row 0 = read_in n t.via.items c.loop-column.row c.index-column.result.now shape.ways handing.within c.index-column.ensures in
    let column : c.index-column.result.now < n = column_in n t.order.items t.turns.items t.near.items t.via.items t.room.items c.args.flow.now c.loop-column.flow c.args.end c.args.amount c.loop-column.row c.index-column.result.now (get_or t.near.items c.index-column.result.now 0) c.requires.end shape handing deep column_is refl in
    omega (arith, column, t.near.ok.0, shape.nears)

pub add-requires-in-loop-column-clause-row : goal.add-requires-in-loop-column-clause-row
add-requires-in-loop-column-clause-row c =
    let t = c.args.tree.now in
    let shape = c.requires.shape in
    let n = c.args.count in
    let handing = c.loop-column.invariant in
    let order_is : c.index.result.now ≡ get_or t.order.items c.loop-column.row 0 = read_in n t.order.items c.loop-column.row c.index.result.now shape.orders handing.within c.index.ensures in
    let deep : 2 ≤ get_or t.order.items c.loop-column.row 0 = omega (arith, c.loop-column-test.true) in
    let column_is : c.index-column.result.now ≡ get_or t.via.items c.loop-column.row 0 = read_in n t.via.items c.loop-column.row c.index-column.result.now shape.ways handing.within c.index-column.ensures in
    let column : c.index-column.result.now < n = column_in n t.order.items t.turns.items t.near.items t.via.items t.room.items c.args.flow.now c.loop-column.flow c.args.end c.args.amount c.loop-column.row c.index-column.result.now (get_or t.near.items c.index-column.result.now 0) c.requires.end shape handing deep column_is refl in
    let next_is : c.index-row-in-loop-column.result.now ≡ get_or t.near.items c.index-column.result.now 0 = read_in n t.near.items c.index-column.result.now c.index-row-in-loop-column.result.now shape.nears column c.index-row-in-loop-column.ensures in
    next_row_in n t.order.items t.turns.items t.near.items t.via.items t.room.items c.args.flow.now c.loop-column.flow c.args.end c.args.amount c.loop-column.row c.index-column.result.now c.index-row-in-loop-column.result.now c.requires.end shape handing deep column_is next_is

pub add-requires-in-loop-column-clause-column : goal.add-requires-in-loop-column-clause-column
add-requires-in-loop-column-clause-column c =
    let t = c.args.tree.now in
    let shape = c.requires.shape in
    let n = c.args.count in
    let handing = c.loop-column.invariant in
    let order_is : c.index.result.now ≡ get_or t.order.items c.loop-column.row 0 = read_in n t.order.items c.loop-column.row c.index.result.now shape.orders handing.within c.index.ensures in
    let deep : 2 ≤ get_or t.order.items c.loop-column.row 0 = omega (arith, c.loop-column-test.true) in
    let column_is : c.index-column.result.now ≡ get_or t.via.items c.loop-column.row 0 = read_in n t.via.items c.loop-column.row c.index-column.result.now shape.ways handing.within c.index-column.ensures in
    column_in n t.order.items t.turns.items t.near.items t.via.items t.room.items c.args.flow.now c.loop-column.flow c.args.end c.args.amount c.loop-column.row c.index-column.result.now (get_or t.near.items c.index-column.result.now 0) c.requires.end shape handing deep column_is refl

pub add-requires-in-loop-column-clause-fits : goal.add-requires-in-loop-column-clause-fits
add-requires-in-loop-column-clause-fits c =
    let t = c.args.tree.now in
    let shape = c.requires.shape in
    let n = c.args.count in
    let handing = c.loop-column.invariant in
    let order_is : c.index.result.now ≡ get_or t.order.items c.loop-column.row 0 = read_in n t.order.items c.loop-column.row c.index.result.now shape.orders handing.within c.index.ensures in
    let deep : 2 ≤ get_or t.order.items c.loop-column.row 0 = omega (arith, c.loop-column-test.true) in
    let column_is : c.index-column.result.now ≡ get_or t.via.items c.loop-column.row 0 = read_in n t.via.items c.loop-column.row c.index-column.result.now shape.ways handing.within c.index-column.ensures in
    let column : c.index-column.result.now < n = column_in n t.order.items t.turns.items t.near.items t.via.items t.room.items c.args.flow.now c.loop-column.flow c.args.end c.args.amount c.loop-column.row c.index-column.result.now (get_or t.near.items c.index-column.result.now 0) c.requires.end shape handing deep column_is refl in
    let next_is : c.index-row-in-loop-column.result.now ≡ get_or t.near.items c.index-column.result.now 0 = read_in n t.near.items c.index-column.result.now c.index-row-in-loop-column.result.now shape.nears column c.index-row-in-loop-column.ensures in
    let below : at n c.take.new.flow c.index-row-in-loop-column.result.now c.index-column.result.now + c.args.amount ≤ 3 * greatest_weight =
    next_bounded_as n t.order.items t.turns.items t.near.items t.via.items t.room.items c.args.flow.now c.loop-column.flow c.args.end c.args.amount c.loop-column.row c.index-column.result.now c.index-row-in-loop-column.result.now c.requires.end shape handing deep column_is next_is c.take.new.flow c.take.ensures c.requires.light c.requires.few_units in
    omega arith

pub loop-column-smaller : goal.loop-column-smaller
loop-column-smaller c =
    let t = c.args.tree.now in
    let shape = c.requires.shape in
    let n = c.args.count in
    let handing = c.loop-column.invariant in
    let order_is : c.index.result.now ≡ get_or t.order.items c.loop-column.row 0 = read_in n t.order.items c.loop-column.row c.index.result.now shape.orders handing.within c.index.ensures in
    let deep : 2 ≤ get_or t.order.items c.loop-column.row 0 = omega (arith, c.loop-column-test.true) in
    let column_is : c.index-column.result.now ≡ get_or t.via.items c.loop-column.row 0 = read_in n t.via.items c.loop-column.row c.index-column.result.now shape.ways handing.within c.index-column.ensures in
    let column : c.index-column.result.now < n = column_in n t.order.items t.turns.items t.near.items t.via.items t.room.items c.args.flow.now c.loop-column.flow c.args.end c.args.amount c.loop-column.row c.index-column.result.now (get_or t.near.items c.index-column.result.now 0) c.requires.end shape handing deep column_is refl in
    let next_is : c.index-row-in-loop-column.result.now ≡ get_or t.near.items c.index-column.result.now 0 = read_in n t.near.items c.index-column.result.now c.index-row-in-loop-column.result.now shape.nears column c.index-row-in-loop-column.ensures in
    earlier_as n t.order.items t.turns.items t.near.items t.via.items t.room.items c.args.flow.now c.loop-column.flow c.args.end c.args.amount c.loop-column.row c.index-column.result.now c.index-row-in-loop-column.result.now c.requires.end shape handing deep column_is next_is

pub loop-column-preserved : goal.loop-column-preserved
loop-column-preserved c =
    let t = c.args.tree.now in
    let shape = c.requires.shape in
    let n = c.args.count in
    let handing = c.loop-column.invariant in
    let order_is : c.index.result.now ≡ get_or t.order.items c.loop-column.row 0 = read_in n t.order.items c.loop-column.row c.index.result.now shape.orders handing.within c.index.ensures in
    let deep : 2 ≤ get_or t.order.items c.loop-column.row 0 = omega (arith, c.loop-column-test.true) in
    let column_is : c.index-column.result.now ≡ get_or t.via.items c.loop-column.row 0 = read_in n t.via.items c.loop-column.row c.index-column.result.now shape.ways handing.within c.index-column.ensures in
    let column : c.index-column.result.now < n = column_in n t.order.items t.turns.items t.near.items t.via.items t.room.items c.args.flow.now c.loop-column.flow c.args.end c.args.amount c.loop-column.row c.index-column.result.now (get_or t.near.items c.index-column.result.now 0) c.requires.end shape handing deep column_is refl in
    let next_is : c.index-row-in-loop-column.result.now ≡ get_or t.near.items c.index-column.result.now 0 = read_in n t.near.items c.index-column.result.now c.index-row-in-loop-column.result.now shape.nears column c.index-row-in-loop-column.ensures in
    handed_on_as n t.order.items t.turns.items t.near.items t.via.items t.room.items c.args.flow.now c.loop-column.flow c.args.end c.args.amount c.loop-column.row c.index-column.result.now c.index-row-in-loop-column.result.now c.requires.end shape handing deep column_is next_is c.take.new.flow c.add-in-loop-column.new.flow c.take.ensures c.add-in-loop-column.ensures
