use Rattle.std.proofs.Common.{◌≡◌, ◌∙◌, ap, subst, sym, true, false}
use Rattle.helios_model.specs.Settle.{commit_one}
use Rattle.site_ledger.specs.Ledger.{Base, holds_id}
use Rattle.site_node.specs.Node.{BecomesAt, IsNodeOf}
use Rattle.site_node.specs.Settling.{is_reached_in}
use Rattle.site_node.proofs.Accepting.{IsEntered, new_commits, new_held, new_waits}
use Rattle.site_node.proofs.node.SiteNode.accept.Goals as goal

pub commit-requires-clause-held : goal.commit-requires-clause-held
commit-requires-clause-held c =
    let s = c.args.self in
    let p = c.args.p in
    let e = c.in_ok-entered.entered in
    let h : IsEntered s e p =
    record { within = c.requires.within; own = c.requires.own; later = c.requires.later; node = c.in_ok-entered.ensures.node; place = c.in_ok-entered.ensures.place } in
    let look : is_reached_in s p.id.time ≡ true =
    ap (λ id. is_reached_in s id.time) (sym c.id-id.ensures) ∙ ap (is_reached_in s) (sym c.half_micros.ensures) ∙ sym c.is_reached-commits.ensures ∙ c.if-commits.true in
    subst (λ id. holds_id e.ledger.pools id ≡ true) (sym c.id-id.ensures)
    (new_held c.a_new_one_alone_may_commit.ensures c.own_records_come_after.ensures s e p h look)

pub returns-then-commits-clause-node : goal.returns-then-commits-clause-node
returns-then-commits-clause-node c =
    let s = c.args.self in
    let p = c.args.p in
    let e = c.in_ok-entered.entered in
    let f = c.in_ok-settled.settled in
    let h : IsEntered s e p =
    record { within = c.requires.within; own = c.requires.own; later = c.requires.later; node = c.in_ok-entered.ensures.node; place = c.in_ok-entered.ensures.place } in
    let look : is_reached_in s p.id.time ≡ true =
    ap (λ id. is_reached_in s id.time) (sym c.id-id.ensures) ∙ ap (is_reached_in s) (sym c.half_micros.ensures) ∙ sym c.is_reached-commits.ensures ∙ c.if-commits.true in
    new_commits c.a_new_one_alone_may_commit.ensures c.own_records_come_after.ensures s e p h f look
    (subst (λ id. (b : Base) → IsNodeOf b e → BecomesAt b e f (λ n. commit_one e.plan n id)) c.id-id.ensures c.in_ok-settled.ensures.node)

pub returns-clause-node : goal.returns-clause-node
returns-clause-node c =
    let s = c.args.self in
    let p = c.args.p in
    let e = c.in_ok-entered.entered in
    let h : IsEntered s e p =
    record { within = c.requires.within; own = c.requires.own; later = c.requires.later; node = c.in_ok-entered.ensures.node; place = c.in_ok-entered.ensures.place } in
    let look : is_reached_in s p.id.time ≡ false =
    ap (λ id. is_reached_in s id.time) (sym c.id-id.ensures) ∙ ap (is_reached_in s) (sym c.half_micros.ensures) ∙ sym c.is_reached-commits.ensures ∙ c.if-commits.false in
    new_waits c.a_new_one_alone_may_commit.ensures c.own_records_come_after.ensures s e p h look
