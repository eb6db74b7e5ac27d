use Rattle.std.proofs.Common.{◌≤◌, get_or, arith}
use Rattle.latency_assign.specs.Assignment.{count_of, distance}
use Rattle.latency_assign.proofs.Joining.{first_tree}
use Rattle.latency_assign.proofs.Handing.{begun_path, next_path}
use Rattle.latency_assign.proofs.matching.match_by_tree.Goals as goal

pub grow-end-requires-clause-tree : goal.grow-end-requires-clause-tree
grow-end-requires-clause-tree c =
    first_tree (count_of c.args.m.now) (distance c.args.m.now) c.args.k c.args.u.now c.args.w.now c.args.s.now c.args.order.now c.args.near.now c.requires.row c.requires.matched c.requires.order c.requires.near

pub loop-row-init : goal.loop-row-init
loop-row-init c = rw (c.exchange.ensures.potentials, c.exchange.ensures.columns)
    (begun_path (count_of c.args.m.now) (distance c.args.m.now) c.args.k c.grow-end.new.u c.grow-end.new.w c.args.s.now c.grow-end.new.order c.grow-end.new.near c.grow-end.result c.requires.row c.grow-end.ensures)

pub loop-row-preserved : goal.loop-row-preserved
loop-row-preserved c = rw (c.exchange-in-loop-row.ensures.potentials, c.exchange-in-loop-row.ensures.columns)
    (next_path (count_of c.args.m.now) (distance c.args.m.now) c.args.k c.grow-end.new.u c.loop-row.w c.loop-row.s c.grow-end.new.order c.grow-end.new.near c.loop-row.row c.requires.row (let deep : 2 ≤ get_or c.grow-end.new.order c.loop-row.row 0 = omega (arith, c.loop-row-test.true) in deep) c.loop-row.invariant)
