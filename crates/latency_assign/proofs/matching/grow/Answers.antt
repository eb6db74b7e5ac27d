use Rattle.std.proofs.Common.{◌≡◌, length, arith}
use Rattle.latency_assign.specs.Assignment.{count_of, distance}
use Rattle.latency_assign.specs.Search.{IsTree}
use Rattle.latency_assign.proofs.Lowering.{enough, room, lowered_tree, nearest_tight, grown}
use Rattle.latency_assign.proofs.Joining.{joined_tree}
use Rattle.latency_assign.proofs.matching.grow.Goals as goal

pub lower-requires-clause-enough : goal.lower-requires-clause-enough
lower-requires-clause-enough c = λ i within joined.
    enough (count_of c.args.m.now) (distance c.args.m.now) c.args.k c.loop-k.turn c.loop-k.u c.loop-k.w c.args.s.now c.loop-k.order c.loop-k.near c.nearest-place.result.0 c.nearest-place.result.1 i c.requires.row c.loop-k.invariant c.nearest-place.ensures
    (let size : length c.loop-k.u ≡ count_of c.args.m.now = c.loop-k.invariant.matched.feasible.rows in omega arith) joined

pub raise-requires-clause-room : goal.raise-requires-clause-room
raise-requires-clause-room c = λ q within joined.
    room (count_of c.args.m.now) (distance c.args.m.now) c.args.k c.loop-k.turn c.loop-k.u c.loop-k.w c.args.s.now c.loop-k.order c.loop-k.near c.nearest-place.result.0 c.nearest-place.result.1 q c.requires.row c.loop-k.invariant c.nearest-place.ensures
    (let size : length c.loop-k.w ≡ count_of c.args.m.now = c.loop-k.invariant.matched.feasible.places in omega arith) joined

pub returns-then-place-k : goal.returns-then-place-k
returns-then-place-k c =
    grown (count_of c.args.m.now) (distance c.args.m.now) c.args.k c.loop-k.turn c.loop-k.u c.loop-k.w c.args.s.now c.loop-k.order c.loop-k.near c.lower.new.u c.raise.new.w c.nearest-place.result.0 c.nearest-place.result.1 c.requires.row c.loop-k.invariant c.nearest-place.ensures c.lower.ensures c.raise.ensures c.if-place-k.true

pub extend-requires-clause-small : goal.extend-requires-clause-small
extend-requires-clause-small c =
    (lowered_tree (count_of c.args.m.now) (distance c.args.m.now) c.args.k c.loop-k.turn c.loop-k.u c.loop-k.w c.args.s.now c.loop-k.order c.loop-k.near c.lower.new.u c.raise.new.w c.nearest-place.result.0 c.nearest-place.result.1 c.requires.row c.loop-k.invariant c.nearest-place.ensures c.lower.ensures c.raise.ensures).matched.feasible.small_rows

pub loop-k-preserved : goal.loop-k-preserved
loop-k-preserved c =
    let tree : IsTree (count_of c.args.m.now) (distance c.args.m.now) c.args.k c.loop-k.turn c.lower.new.u c.raise.new.w c.args.s.now c.loop-k.order c.loop-k.near =
    lowered_tree (count_of c.args.m.now) (distance c.args.m.now) c.args.k c.loop-k.turn c.loop-k.u c.loop-k.w c.args.s.now c.loop-k.order c.loop-k.near c.lower.new.u c.raise.new.w c.nearest-place.result.0 c.nearest-place.result.1 c.requires.row c.loop-k.invariant c.nearest-place.ensures c.lower.ensures c.raise.ensures in
    joined_tree (count_of c.args.m.now) (distance c.args.m.now) c.args.k c.loop-k.turn c.lower.new.u c.raise.new.w c.args.s.now c.loop-k.order c.loop-k.near c.extend.new.near c.nearest-place.result.0 c.requires.row tree c.nearest-place.ensures.within c.nearest-place.ensures.outside c.if-place-k.false
    (nearest_tight (count_of c.args.m.now) (distance c.args.m.now) c.args.k c.loop-k.turn c.loop-k.u c.loop-k.w c.args.s.now c.loop-k.order c.loop-k.near c.lower.new.u c.raise.new.w c.nearest-place.result.0 c.nearest-place.result.1 c.requires.row c.loop-k.invariant c.nearest-place.ensures c.lower.ensures c.raise.ensures)
    c.extend.ensures
