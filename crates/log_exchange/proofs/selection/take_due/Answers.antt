use Rattle.std.proofs.Common.{◌≡◌, ◌∙◌, ◌<◌, ◌+◌, length, subst, sym, arith, refl}
use Rattle.helios_model.specs.Limits.{most_records}
use Rattle.time_table.specs.Table.{time_at}
use Rattle.log_exchange.proofs.Filled.{filled, next_least, next_none, taken_more, taken_none, within_run}
use Rattle.log_exchange.proofs.selection.take_due.Goals as goal

pub loop-head-init : goal.loop-head-init
loop-head-init c =
    taken_none c.args.backlog.now (time_at c.args.t.now c.args.to) c.new-records.result.items c.in_ok-heads.heads.items c.new-records.ensures.items c.is_line.ensures c.in_ok-heads.ensures

pub known-requires-clause-column : goal.known-requires-clause-column
known-requires-clause-column c =
    subst (λ n. c.in-Some.head.site < n) (sym c.requires.count)
    (((next_least c.args.backlog.now c.deref.result.now c.loop-head.heads.items c.len.result (length c.loop-head.records.items) c.in-Some.head c.in-Some.ensures c.deref.ensures.value (c.len.ensures ∙ c.loop-head.records.ok.0)).1.some c.in-Some.head refl).0)

pub go_on-requires-clause-origin : goal.go_on-requires-clause-origin
go_on-requires-clause-origin c =
    ((next_least c.args.backlog.now c.deref.result.now c.loop-head.heads.items c.len.result (length c.loop-head.records.items) c.in-Some.head c.in-Some.ensures c.deref.ensures.value (c.len.ensures ∙ c.loop-head.records.ok.0)).1.some c.in-Some.head refl).0

pub go_on-requires-clause-there : goal.go_on-requires-clause-there
go_on-requires-clause-there c =
    within_run _ _ c.in-Some.head.arrival
    ((next_least c.args.backlog.now c.deref.result.now c.loop-head.heads.items c.len.result (length c.loop-head.records.items) c.in-Some.head c.in-Some.ensures c.deref.ensures.value (c.len.ensures ∙ c.loop-head.records.ok.0)).1.some c.in-Some.head refl).1

pub loop-head-preserved : goal.loop-head-preserved
loop-head-preserved c =
    (taken_more c.args.backlog.now (time_at c.args.t.now c.args.to) c.loop-head.records.items c.take_record.new.records.items c.loop-head.heads.items c.go_on.new.heads.items c.in-Some.head c.known.result
    c.loop-head.invariant
    (next_least c.args.backlog.now c.deref.result.now c.loop-head.heads.items c.len.result (length c.loop-head.records.items) c.in-Some.head c.in-Some.ensures c.deref.ensures.value (c.len.ensures ∙ c.loop-head.records.ok.0)).0
    (next_least c.args.backlog.now c.deref.result.now c.loop-head.heads.items c.len.result (length c.loop-head.records.items) c.in-Some.head c.in-Some.ensures c.deref.ensures.value (c.len.ensures ∙ c.loop-head.records.ok.0)).1
    c.known.ensures c.in_ok-take_record.ensures c.go_on.ensures).0

pub loop-head-smaller : goal.loop-head-smaller
loop-head-smaller c =
    let one : length c.take_record.new.records.items ≡ length c.loop-head.records.items + 1 =
    (taken_more c.args.backlog.now (time_at c.args.t.now c.args.to) c.loop-head.records.items c.take_record.new.records.items c.loop-head.heads.items c.go_on.new.heads.items c.in-Some.head c.known.result
    c.loop-head.invariant
    (next_least c.args.backlog.now c.deref.result.now c.loop-head.heads.items c.len.result (length c.loop-head.records.items) c.in-Some.head c.in-Some.ensures c.deref.ensures.value (c.len.ensures ∙ c.loop-head.records.ok.0)).0
    (next_least c.args.backlog.now c.deref.result.now c.loop-head.heads.items c.len.result (length c.loop-head.records.items) c.in-Some.head c.in-Some.ensures c.deref.ensures.value (c.len.ensures ∙ c.loop-head.records.ok.0)).1
    c.known.ensures c.in_ok-take_record.ensures c.go_on.ensures).1 in
    let room : length c.loop-head.records.items < most_records =
    (next_least c.args.backlog.now c.deref.result.now c.loop-head.heads.items c.len.result (length c.loop-head.records.items) c.in-Some.head c.in-Some.ensures c.deref.ensures.value (c.len.ensures ∙ c.loop-head.records.ok.0)).0 in
    omega arith

pub returns : goal.returns
returns c =
    filled c.args.backlog.now (time_at c.args.t.now c.args.to) c.loop-head.records.items c.loop-head.heads.items c.loop-head.invariant
    (next_none c.args.backlog.now c.deref.result.now c.loop-head.heads.items c.len.result (length c.loop-head.records.items) c.next_head.result c.next_head.ensures c.in_default.is c.deref.ensures.value
    (c.len.ensures ∙ c.loop-head.records.ok.0))
