use Rattle.std.proofs.Common.{◌≡◌, ◌∙◌, ap, sym, subst, is_some, nat_eq, cond, Some, ℕ}
use Rattle.std.specs.Ordering.{nat_cmp}
use Rattle.std.specs.BTreeMap.{is_at}
use Rattle.std.proofs.lemmas.Bool.{not-false, not-true}
use Rattle.site_ledger.specs.Ledger.{end_in}
use Rattle.site_ledger.proofs.Ends.{kept_new, kept_other, kept_there}
use Rattle.site_ledger.proofs.endings.keep_end.Goals as goal

pub returns-then-ne : goal.returns-then-ne
returns-then-ne c = record {
  ordered = λ h. h;
  kept = kept_other c.args.ended.now.entries c.args.site c.args.id.now c.args.end (not-true (nat_eq c.args.id.now.site c.args.site) (sym c.ne.ensures ∙ c.if-ne.true));
}

pub returns-then-contains_key : goal.returns-then-contains_key
returns-then-contains_key c = record {
  ordered = λ h. h;
  kept = kept_there c.args.ended.now.entries c.args.site c.args.id.now c.args.end
      (ap (λ t. is_some (end_in c.args.ended.now.entries t)) (sym c.half_micros-time.ensures) ∙ sym c.contains_key.ensures ∙ c.if-contains_key.true);
}

pub returns : goal.returns
returns c = record {
  ordered = λ h. c.in_ok-insert.ensures.ordered;
  kept = kept_new c.args.ended.now.entries c.args.site c.args.id.now c.args.end c.insert.new.self.entries
      (not-false (nat_eq c.args.id.now.site c.args.site) (sym c.ne.ensures ∙ c.if-ne.false))
      (ap (λ t. is_some (end_in c.args.ended.now.entries t)) (sym c.half_micros-time.ensures) ∙ sym c.contains_key.ensures ∙ c.if-contains_key.false)
      (subst (λ t. (q : ℕ) → end_in c.insert.new.self.entries q ≡ cond (is_at (nat_cmp t) q) (Some c.args.end) (end_in c.args.ended.now.entries q)) c.half_micros-time.ensures
      c.in_ok-insert.ensures.updates.0);
}
