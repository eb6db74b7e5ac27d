use Rattle.std.proofs.Common.{◌∙◌, ap, sym, nat_eq}
use Rattle.std.proofs.lemmas.Bool.{not-false, not-true}
use Rattle.site_ledger.proofs.Growth.{event_other, event_own}
use Rattle.site_ledger.proofs.endings.keep_commit.Goals as goal

pub returns-then-ne : goal.returns-then-ne
returns-then-ne c =
    event_other c.args.commits.now.items c.args.site c.args.prepare c.args.time
    (ap (λ id. nat_eq id.site c.args.site) (sym c.id.ensures) ∙ not-true (nat_eq c.id.result.site c.args.site) (sym c.ne.ensures ∙ c.if-ne.true))

pub returns : goal.returns
returns c =
    c.in_ok-push.ensures.items
    ∙ event_own c.args.commits.now.items c.args.site c.args.prepare c.args.time
    (ap (λ id. nat_eq id.site c.args.site) (sym c.id.ensures) ∙ not-false (nat_eq c.id.result.site c.args.site) (sym c.ne.ensures ∙ c.if-ne.false))
