use Rattle.std.proofs.Common.{◌≡◌, ◌∙◌, ◌<◌, ◌*◌, ◌/◌, ◌%◌, ◌+◌, ap, sym, subst, arith}
use Rattle.helios_model.specs.Exchange.{merged_at}
use Rattle.time_table.specs.Table.{time_at}
use Rattle.time_table.proofs.Merging.{home_merged, IsMergedUpTo, merged_more, merged_all}
use Rattle.time_table.proofs.TimeTable.merge.Goals as goal

pub loop-place-preserved : goal.loop-place-preserved
loop-place-preserved c =
    let count = c.loop-place.self.count in
    let times = c.loop-place.self.times in
    let place = c.loop-place.place in
    let sized = c.loop-place.invariant.sized ∙ c.count-count.ensures.square ∙ sym (ap (λ n. n * n) c.count-count.ensures.value) in
    let low = subst (λ n. place < n) (sym sized) c.loop-place-test.true in
    subst (λ after. IsMergedUpTo c.args.self.now after c.args.own c.args.table.now c.args.cover.now (place + 1)) (sym c.set.ensures)
    (merged_more c.args.self.now c.loop-place.self c.args.own c.args.table.now c.args.cover.now place c.merged_time-time.result c.loop-place.invariant low
    (c.merged_time-time.ensures
    ∙ ap (λ theirs. merged_at count c.args.own times theirs c.items-in-loop-place.result.now (place / count) (place % count)) c.items.ensures
    ∙ ap (λ cover. merged_at count c.args.own times c.args.table.now cover (place / count) (place % count)) c.items-in-loop-place.ensures))

pub returns-clause-value : goal.returns-clause-value
returns-clause-value c =
    let end : c.loop-place.place ≡ c.count-count.result * c.count-count.result = omega arith in
    merged_all c.args.self.now c.loop-place.self c.args.own c.args.table.now c.args.cover.now c.loop-place.place c.loop-place.invariant
    (end ∙ ap (λ n. n * n) c.count-count.ensures.value) c.count-count.ensures.square

pub returns-clause-home : goal.returns-clause-home
returns-clause-home c = ap (λ t. time_at t c.args.own c.args.own) (returns-clause-value c) ∙ home_merged c.args.self.now c.args.own c.args.table.now c.args.cover.now c.requires.own
