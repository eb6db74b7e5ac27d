use Rattle.std.proofs.Common.{◌≡◌, ◌+◌, ◌<◌, ℕ, length, get_or}
use Rattle.weighted_plan.specs.Transport.{IsTransported}
use Rattle.weighted_plan.specs.Trips.{count_of, distance}
use Rattle.weighted_plan.proofs.Outcomes.{are_units, is_certified, is_judged, is_optimal, planned}
use Rattle.weighted_plan.proofs.weighing.weighed.Goals as goal

pub of-requires : goal.of-requires
of-requires c =
    let m = c.args.m.now in
    let done : IsTransported (count_of m) (distance m) c.args.w.now c.in_ok-u.u.items c.in_ok-u.v.items c.in_ok-u.flow.items = rw c.items.ensures.value at c.in_ok-u.ensures in
    let long : length c.in_ok-latencies.latencies ≡ length c.in_ok-u.u.items = rw c.deref.ensures.value at c.in_ok-latencies.ensures.size in
    let sums : (i : ℕ) → i < length c.in_ok-u.u.items → get_or c.in_ok-latencies.latencies i 0 ≡ get_or c.in_ok-u.u.items i 0 + get_or c.in_ok-u.v.items i 0 = rw (c.deref.ensures.value, c.deref-2.ensures.value) at c.in_ok-latencies.ensures.sums in
    are_units m c.args.w.now c.in_ok-u.u.items c.in_ok-u.v.items c.in_ok-u.flow.items c.in_ok-latencies.latencies c.names-names.ensures.limits c.requires done long sums c.items.ensures.limits

pub returns-clause-certified : goal.returns-clause-certified
returns-clause-certified c =
    let m = c.args.m.now in
    let done : IsTransported (count_of m) (distance m) c.args.w.now c.in_ok-u.u.items c.in_ok-u.v.items c.in_ok-u.flow.items = rw c.items.ensures.value at c.in_ok-u.ensures in
    let long : length c.in_ok-latencies.latencies ≡ length c.in_ok-u.u.items = rw c.deref.ensures.value at c.in_ok-latencies.ensures.size in
    let sums : (i : ℕ) → i < length c.in_ok-u.u.items → get_or c.in_ok-latencies.latencies i 0 ≡ get_or c.in_ok-u.u.items i 0 + get_or c.in_ok-u.v.items i 0 = rw (c.deref.ensures.value, c.deref-2.ensures.value) at c.in_ok-latencies.ensures.sums in
    let made : c.in_ok-plan.plan ≡ planned m c.in_ok-latencies.latencies = rw (c.names-names.ensures.value, c.trips.ensures) at c.in_ok-plan.ensures in
    rw (made, c.of.ensures) (is_certified m c.args.w.now c.in_ok-u.u.items c.in_ok-u.v.items c.in_ok-u.flow.items c.in_ok-latencies.latencies c.names-names.ensures.limits c.requires done long sums)

pub returns-clause-judged : goal.returns-clause-judged
returns-clause-judged c =
    let m = c.args.m.now in
    let done : IsTransported (count_of m) (distance m) c.args.w.now c.in_ok-u.u.items c.in_ok-u.v.items c.in_ok-u.flow.items = rw c.items.ensures.value at c.in_ok-u.ensures in
    let long : length c.in_ok-latencies.latencies ≡ length c.in_ok-u.u.items = rw c.deref.ensures.value at c.in_ok-latencies.ensures.size in
    let sums : (i : ℕ) → i < length c.in_ok-u.u.items → get_or c.in_ok-latencies.latencies i 0 ≡ get_or c.in_ok-u.u.items i 0 + get_or c.in_ok-u.v.items i 0 = rw (c.deref.ensures.value, c.deref-2.ensures.value) at c.in_ok-latencies.ensures.sums in
    let made : c.in_ok-plan.plan ≡ planned m c.in_ok-latencies.latencies = rw (c.names-names.ensures.value, c.trips.ensures) at c.in_ok-plan.ensures in
    rw (made, c.of.ensures) (is_judged m c.args.w.now c.in_ok-u.u.items c.in_ok-u.v.items c.in_ok-u.flow.items c.in_ok-latencies.latencies c.names-names.ensures.limits c.requires done long sums c.each_search_finds_first.ensures c.each_short_pair_is_found.ensures)

pub returns-clause-optimal : goal.returns-clause-optimal
returns-clause-optimal c =
    let m = c.args.m.now in
    let done : IsTransported (count_of m) (distance m) c.args.w.now c.in_ok-u.u.items c.in_ok-u.v.items c.in_ok-u.flow.items = rw c.items.ensures.value at c.in_ok-u.ensures in
    let long : length c.in_ok-latencies.latencies ≡ length c.in_ok-u.u.items = rw c.deref.ensures.value at c.in_ok-latencies.ensures.size in
    let sums : (i : ℕ) → i < length c.in_ok-u.u.items → get_or c.in_ok-latencies.latencies i 0 ≡ get_or c.in_ok-u.u.items i 0 + get_or c.in_ok-u.v.items i 0 = rw (c.deref.ensures.value, c.deref-2.ensures.value) at c.in_ok-latencies.ensures.sums in
    let made : c.in_ok-plan.plan ≡ planned m c.in_ok-latencies.latencies = rw (c.names-names.ensures.value, c.trips.ensures) at c.in_ok-plan.ensures in
    is_optimal m c.args.w.now c.in_ok-u.u.items c.in_ok-u.v.items c.in_ok-u.flow.items c.in_ok-latencies.latencies c.names-names.ensures.limits c.requires done long sums c.flows_show_optimal.ensures c.in_ok-plan.plan made
