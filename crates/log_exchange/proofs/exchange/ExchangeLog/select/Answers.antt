use Rattle.std.proofs.Common.{◌∙◌, ap, map}
use Rattle.std.specs.List.{range_with_len}
use Rattle.helios_model.specs.Exchange.{sent_records}
use Rattle.time_table.specs.Table.{time_at}
use Rattle.log_exchange.specs.Heads.{covered_to, head_of}
use Rattle.log_exchange.specs.Kept.{cover_of}
use Rattle.log_exchange.proofs.Filled.{filled_cover}
use Rattle.log_exchange.proofs.exchange.ExchangeLog.select.Goals as goal

pub returns-clause-records : goal.returns-clause-records
returns-clause-records c =
    c.new.ensures ∙ c.in_ok-taken.ensures.sent ∙ ap (λ l. sent_records (time_at c.args.t.now c.args.to) l.records) c.self.view_is

pub returns-clause-cover : goal.returns-clause-cover
returns-clause-cover c =
    c.new-2.ensures ∙ c.in_ok-cover.ensures
    ∙ ap (λ hs. map (λ k. covered_to (time_at c.args.t.now c.self.inside.site k) (head_of c.self.inside.backlog hs k)) (range_with_len 0 c.self.inside.backlog.count)) c.deref.ensures.value
    ∙ filled_cover c.self.inside.backlog (time_at c.args.t.now c.args.to) (time_at c.args.t.now c.self.inside.site) c.in_ok-taken.taken.records.items c.in_ok-taken.taken.heads.items c.in_ok-taken.ensures
    ∙ ap (λ l. cover_of l.count (time_at c.args.t.now l.site) (time_at c.args.t.now c.args.to) l.records) c.self.view_is
