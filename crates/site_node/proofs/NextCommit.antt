-- Settling, by the parts of a node: which transaction commits next, and what is left to commit.
use Rattle.std.proofs.Common.{◌≡◌, ◌∙◌, ap, sym, subst, ℕ, ◌+◌, ◌≤◌, true, false, Option, Some, None, [], length, find, arith}
use Rattle.helios_model.specs.declared.ids.TxnId.{TxnId}
use Rattle.helios_model.specs.Transactions.{Transaction}
use Rattle.helios_model.specs.Log.{is_own, prepares, unfinished}
use Rattle.helios_model.specs.Node.{own_open}
use Rattle.helios_model.specs.Settle.{commit_one, is_reached, ready, settle}
use Rattle.node_limits.specs.Laws.{ClockLeavesOtherTimes, EndLeavesTheOtherOwn}
use Rattle.site_ledger.specs.Ledger.{Base, IsLedgerOf, LedgerData, TimesRise, log_in}
use Rattle.site_node.specs.Node.{BecomesAt, IsNodeOf, SiteData, node_in}
use Rattle.site_node.specs.Settling.{CommitsFirst, Goes}
use Rattle.site_node.proofs.Front.{first_goes, first_waits, found_own, none_open, none_ready, settle_goes, settle_rests}

-- what a ledger says of its first own transaction, whatever log it stands for
pub record IsFirstOwn (l : LedgerData) (o : Option Transaction) : Type 0 where
  pub held : o ≡ find (is_own l.site) l.pools
  pub stands : (b : Base) → IsLedgerOf b l → o ≡ find (is_own l.site) (unfinished (log_in b l))
  pub rise : (b : Base) → IsLedgerOf b l → TimesRise (prepares (log_in b l))

module _ (s : SiteData) (l : LedgerData) (is : l ≡ s.ledger) where
  pub commits_first : EndLeavesTheOtherOwn → ClockLeavesOtherTimes → (p : Transaction) (id : TxnId) → IsFirstOwn l (Some p) → id ≡ p.id
      → ((b : Base) → is_reached s.plan (node_in b s) id.time ≡ true) → CommitsFirst s id
  commits_first leaves stay p id first named past =
      let own = found_own s.ledger.site s.ledger.pools p (sym here.held) in
      subst (CommitsFirst s) (sym named)
      (record {
        own = own.0;
        held = own.1;
        first = λ b h. first_goes leaves stay s.plan (node_in b s) p (sym (here.stands b h.ledger)) (here.rise b h.ledger)
            (ap (λ x. is_reached s.plan (node_in b s) x.time) (sym named) ∙ past b);
      })
    where
      here : IsFirstOwn s.ledger (Some p)
      here = subst (λ x. IsFirstOwn x (Some p)) is first

  pub none_commits : (p : Transaction) (id : TxnId) → IsFirstOwn l (Some p) → id ≡ p.id → ((b : Base) → is_reached s.plan (node_in b s) id.time ≡ false)
      → (b : Base) → IsNodeOf b s → ready s.plan (node_in b s) ≡ []
  none_commits p id first named waits b h =
      first_waits s.plan (node_in b s) p (sym (here.stands b h.ledger)) (here.rise b h.ledger) (ap (λ x. is_reached s.plan (node_in b s) x.time) (sym named) ∙ waits b)
    where
      here : IsFirstOwn s.ledger (Some p)
      here = subst (λ x. IsFirstOwn x (Some p)) is first

  pub none_is_open : IsFirstOwn l None → (b : Base) → IsNodeOf b s → ready s.plan (node_in b s) ≡ []
  none_is_open first b h = none_ready s.plan (node_in b s) (sym (here.stands b h.ledger))
    where
      here : IsFirstOwn s.ledger None
      here = subst (λ x. IsFirstOwn x None) is first

-- what was settled so far: the parts stand for a node that settles to the same, with few enough left to commit
pub record Settles (b : Base) (before after : SiteData) (left : ℕ) : Type 0 where
  pub stands : IsNodeOf b after
  pub same : settle after.plan (node_in b after) ≡ settle before.plan (node_in b before)
  pub few : length (own_open (node_in b after)) ≤ left

-- one more commits
pub settles_on : (b : Base) (s t u : SiteData) (id : TxnId) (left : ℕ) → u.plan ≡ t.plan → CommitsFirst t id → BecomesAt b t u (λ n. commit_one t.plan n id) → Settles b s t (left + 1)
    → Settles b s u left
settles_on b s t u id left plan first change h = record {
  stands = change.stands;
  same = ap (λ p. settle p (node_in b u)) plan ∙ ap (settle t.plan) change.node ∙ sym (settle_goes t.plan (node_in b t) id (goes.first)) ∙ h.same;
  few =
      let one : length (own_open (commit_one t.plan (node_in b t) id)) + 1 ≡ length (own_open (node_in b t)) = goes.fewer in
      let before : length (own_open (node_in b t)) ≤ left + 1 = h.few in
      subst (λ n. length (own_open n) ≤ left) (sym change.node) (omega arith);
}
  where
    goes : Goes t.plan (node_in b t) id
    goes = first.first b h.stands

-- none is left
pub settled_none : (b : Base) (s t : SiteData) (left : ℕ) → t.plan ≡ s.plan → left ≡ 0 → Settles b s t left → BecomesAt b s t (settle s.plan)
settled_none b s t left plan none h =
    let few : length (own_open (node_in b t)) ≤ left = h.few in
    record { stands = h.stands; node = sym (none_open t.plan (node_in b t) (omega arith)) ∙ h.same }

pub settled_rest : (b : Base) (s t : SiteData) (left : ℕ) → ((c : Base) → IsNodeOf c t → ready t.plan (node_in c t) ≡ []) → Settles b s t left → BecomesAt b s t (settle s.plan)
settled_rest b s t left rests h = record { stands = h.stands; node = sym (settle_rests t.plan (node_in b t) (rests b h.stands)) ∙ h.same }
