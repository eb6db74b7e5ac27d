use Rattle.std.proofs.Common.{◌≡◌, replicate, rules}
use Rattle.helios_model.specs.Limits.{longest_trip}
use Rattle.latency_assign.specs.Assignment.{count_of, distance}
use Rattle.latency_assign.proofs.Results.{distance_bounded, first_state}
use Rattle.latency_assign.proofs.assignment.matched.Goals as goal

pub loop-k-init : goal.loop-k-init
loop-k-init c =
    first_state (count_of c.args.m.now) (distance c.args.m.now) c.count-count.result c.in_ok-u.u.items c.in_ok-w.w.items c.in_ok-s.s.items (distance_bounded c.args.m.now c.count-count.ensures.limits) c.count-count.ensures.value (let rows : c.in_ok-u.u.items ≡ replicate c.count-count.result longest_trip = search rules in rows) (let places : c.in_ok-w.w.items ≡ replicate c.count-count.result 0 = search rules in places) c.in_ok-s.ensures
