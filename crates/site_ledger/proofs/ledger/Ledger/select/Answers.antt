use Rattle.std.proofs.Common.{◌∙◌, ap, sym, subst, ◌<◌}
use Rattle.helios_model.specs.Exchange.{sent_records}
use Rattle.time_table.specs.Table.{time_at}
use Rattle.log_exchange.specs.Kept.{cover_of}
use Rattle.log_exchange.specs.Laws.{NeedSame}
use Rattle.site_ledger.specs.Ledger.{log_in}
use Rattle.site_ledger.proofs.Growth.{need_same}
use Rattle.site_ledger.proofs.ledger.Ledger.select.Goals as goal

pub select-requires : goal.select-requires
select-requires c = record {
  count = c.requires.count ∙ ap (λ l. l.count) (sym c.self.view_is);
  to = subst (λ l. c.args.to < l.count) (sym c.self.view_is) c.requires.to;
}

pub returns : goal.returns
returns c = record {
  records = λ b h same.
      c.in_ok-message.ensures.records
      ∙ ap (λ l. sent_records (time_at c.args.t.now c.args.to) l.kept) c.self.view_is
      ∙ c.needed_records_tell_all.ensures.records c.args.t.now.count c.args.t.now.times c.args.to c.args.self.now.kept (log_in b c.args.self.now)
      (subst (λ n. c.args.to < n) (sym c.requires.count) c.requires.to)
      (need_same c.needed_appends.ensures c.args.t.now.count c.args.t.now.times b c.args.self.now h
      (subst (λ n. NeedSame n c.args.t.now.times b.kept b.log) (sym c.requires.count) same));
  cover = λ b h same.
      c.in_ok-message.ensures.cover
      ∙ ap (λ l. cover_of l.count (time_at c.args.t.now l.site) (time_at c.args.t.now c.args.to) l.kept) c.self.view_is
      ∙ ap (λ n. cover_of n (time_at c.args.t.now c.args.self.now.site) (time_at c.args.t.now c.args.to) c.args.self.now.kept) (sym c.requires.count)
      ∙ c.needed_records_tell_all.ensures.cover c.args.t.now.count c.args.t.now.times c.args.to (time_at c.args.t.now c.args.self.now.site) c.args.self.now.kept (log_in b c.args.self.now)
      (subst (λ n. c.args.to < n) (sym c.requires.count) c.requires.to)
      (need_same c.needed_appends.ensures c.args.t.now.count c.args.t.now.times b c.args.self.now h
      (subst (λ n. NeedSame n c.args.t.now.times b.kept b.log) (sym c.requires.count) same))
      ∙ ap (λ n. cover_of n (time_at c.args.t.now c.args.self.now.site) (time_at c.args.t.now c.args.to) (log_in b c.args.self.now)) c.requires.count;
}
