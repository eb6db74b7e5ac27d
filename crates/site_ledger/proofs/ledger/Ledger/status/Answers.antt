use Rattle.std.proofs.Common.{◌≡◌, ◌∙◌, ap, sym, true, nat_eq}
use Rattle.std.proofs.lemmas.Bool.{not-false}
use Rattle.site_ledger.specs.Ledger.{end_in, holds_id}
use Rattle.site_ledger.proofs.Ends.{held_waits, status_ended, status_none, status_open}
use Rattle.site_ledger.proofs.ledger.Ledger.status.Goals as goal

pub returns-then-holds : goal.returns-then-holds
returns-then-holds c = λ b table h.
    let own : nat_eq c.args.id.now.site c.args.self.now.site ≡ true =
    ap (nat_eq c.args.id.now.site) (sym (c.site.ensures.value ∙ ap (λ l. l.site) c.self.view_is)) ∙ not-false (nat_eq c.args.id.now.site c.site.result) (sym c.ne.ensures ∙ c.if-ne.false) in
    status_open b c.args.self.now table c.args.id.now own
    (sym (held_waits b c.args.self.now c.args.id.now h) ∙ ap (λ l. holds_id l.pools c.args.id.now) (sym c.self.view_is) ∙ sym c.holds.ensures ∙ c.if-holds.true)

pub returns-in-Some : goal.returns-in-Some
returns-in-Some c = λ b table h.
    let own : nat_eq c.args.id.now.site c.args.self.now.site ≡ true =
    ap (nat_eq c.args.id.now.site) (sym (c.site.ensures.value ∙ ap (λ l. l.site) c.self.view_is)) ∙ not-false (nat_eq c.args.id.now.site c.site.result) (sym c.ne.ensures ∙ c.if-ne.false) in
    status_ended b c.args.self.now table c.args.id.now c.in-Some.end.now h own
    (c.in-Some.ensures.value ∙ ap (end_in c.self.inside.ended.entries) c.half_micros.ensures ∙ ap (λ l. end_in l.ended c.args.id.now.time) c.self.view_is)

pub returns-in-None : goal.returns-in-None
returns-in-None c = λ b table h.
    let own : nat_eq c.args.id.now.site c.args.self.now.site ≡ true =
    ap (nat_eq c.args.id.now.site) (sym (c.site.ensures.value ∙ ap (λ l. l.site) c.self.view_is)) ∙ not-false (nat_eq c.args.id.now.site c.site.result) (sym c.ne.ensures ∙ c.if-ne.false) in
    status_none b c.args.self.now table c.args.id.now h own
    (sym (held_waits b c.args.self.now c.args.id.now h) ∙ ap (λ l. holds_id l.pools c.args.id.now) (sym c.self.view_is) ∙ sym c.holds.ensures ∙ c.if-holds.false)
    (c.in-None.ensures.value ∙ ap (end_in c.self.inside.ended.entries) c.half_micros.ensures ∙ ap (λ l. end_in l.ended c.args.id.now.time) c.self.view_is)
