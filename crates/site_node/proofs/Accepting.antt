-- A node within the limits that takes a new own transaction settles by that one alone.
use Rattle.std.proofs.Common.{◌≡◌, ◌∙◌, ◌<◌, ap, sym, Bool, true, false, ◌⊎◌, inl, inr, cond, List, [], ◌∷◌, filter, fold, map}
use Rattle.std.proofs.lemmas.Bool.{cases_Bool, or_left, or_right}
use Rattle.helios_model.specs.declared.ids.TxnId.{TxnId}
use Rattle.helios_model.specs.declared.records.Record.TheVariants.{Prepare}
use Rattle.helios_model.specs.Ids.{same_id}
use Rattle.helios_model.specs.Transactions.{Transaction}
use Rattle.helios_model.specs.Log.{is_own}
use Rattle.helios_model.specs.Request.{entered}
use Rattle.helios_model.specs.Settle.{commit_one, ready, settle}
use Rattle.node_limits.specs.Laws.{NewOneAloneMayCommit, OwnRecordComesAfter}
use Rattle.node_limits.specs.Limits.{IsAfter}
use Rattle.site_ledger.specs.Ledger.{Base, HasEarlier, holds_id, log_in}
use Rattle.site_node.specs.Node.{BecomesAt, HasNodeWithin, IsNodeOf, IsSamePlace, SiteData, clock_in, node_in}
use Rattle.site_node.specs.Settling.{is_reached_in}
use Rattle.site_node.proofs.Front.{same_itself}

-- which transactions are ready the parts say, whatever log they stand for
same_ready : (s : SiteData) (b c : Base) → IsNodeOf b s → IsNodeOf c s → ready s.plan (node_in b s) ≡ ready s.plan (node_in c s)
same_ready s b c h k =
    ap (λ ps. map (λ p. p.id) (filter (λ p. is_reached_in s p.id.time) (filter (is_own s.ledger.site) ps))) (sym h.ledger.lookups.waiting ∙ k.ledger.lookups.waiting)

-- one that is kept is held
kept_held : (t u : Transaction → Bool) (id : TxnId) (ps : List Transaction) → map (λ p. p.id) (filter t (filter u ps)) ≡ id ∷ [] → holds_id ps id ≡ true
kept_held t u id [] e = absurd (cc)
kept_held t u id (p ∷ ps) e = by_test (cases_Bool (u p)) (cases_Bool (t p)) (kept_held t u id ps)
  where
    by_test : (u p ≡ true) ⊎ (u p ≡ false) → (t p ≡ true) ⊎ (t p ≡ false) → (map (λ q. q.id) (filter t (filter u ps)) ≡ id ∷ [] → holds_id ps id ≡ true)
        → holds_id (p ∷ ps) id ≡ true
    by_test (inl a) (inl b) later =
        let first : p.id ∷ map (λ q. q.id) (filter t (filter u ps)) ≡ id ∷ [] = rw (a, b) at e in
        let same : p.id ≡ id = cc in
        or_left (same_id p.id id) (holds_id ps id) (ap (λ x. same_id x id) same ∙ same_itself id)
    by_test (inl a) (inr b) later =
        let rest : map (λ q. q.id) (filter t (filter u ps)) ≡ id ∷ [] = rw (a, b) at e in
        or_right (same_id p.id id) (holds_id ps id) (later rest)
    by_test (inr a) b later =
        let rest : map (λ q. q.id) (filter t (filter u ps)) ≡ id ∷ [] = rw a at e in
        or_right (same_id p.id id) (holds_id ps id) (later rest)

-- a new own transaction comes after all that the log has of the site
pub comes_after : OwnRecordComesAfter → (s : SiteData) (p : Transaction) (h : HasNodeWithin s) → p.id.site ≡ s.ledger.site → clock_in s < p.id.time → IsAfter (log_in h.base s.ledger) (Prepare p)
comes_after after s p h own later = after s.plan (node_in h.base s) (Prepare p) h.within.node own later

pub has_earlier : OwnRecordComesAfter → (s : SiteData) (p : Transaction) → HasNodeWithin s → p.id.site ≡ s.ledger.site → clock_in s < p.id.time → HasEarlier s.ledger (Prepare p)
has_earlier after s p h own later = record { base = h.base; is = h.is.ledger; after = comes_after after s p h own later }

-- the parts before a new own transaction was entered, and after
pub record IsEntered (s e : SiteData) (p : Transaction) : Type 0 where
  pub within : HasNodeWithin s
  pub own : p.id.site ≡ s.ledger.site
  pub later : clock_in s < p.id.time
  pub node : (b : Base) → IsNodeOf b s → IsAfter (log_in b s.ledger) (Prepare p) → BecomesAt b s e (λ n. entered s.plan n p)
  pub place : IsSamePlace s e

module _ (alone : NewOneAloneMayCommit) (after : OwnRecordComesAfter) (s e : SiteData) (p : Transaction) (h : IsEntered s e p) where
  -- the node that is within the limits, with the new one
  at_base : BecomesAt h.within.base s e (λ n. entered s.plan n p)
  at_base = h.node h.within.base h.within.is (comes_after after s p h.within h.own h.later)

  ready_new : (b : Base) → IsNodeOf b e → ready e.plan (node_in b e) ≡ cond (is_reached_in s p.id.time) (p.id ∷ []) []
  ready_new b is =
      same_ready e b h.within.base is at_base.stands
      ∙ ap (λ plan. ready plan (node_in h.within.base e)) h.place.plan
      ∙ ap (ready s.plan) at_base.node
      ∙ alone s.plan (node_in h.within.base s) p h.within.within h.own (comes_after after s p h.within h.own h.later)

  ready_as : (b : Base) → IsNodeOf b e → (commits : Bool) → is_reached_in s p.id.time ≡ commits → ready e.plan (node_in b e) ≡ cond commits (p.id ∷ []) []
  ready_as b is commits look = ready_new b is ∙ ap (λ x. cond x (p.id ∷ []) []) look

  pub new_held : is_reached_in s p.id.time ≡ true → holds_id e.ledger.pools p.id ≡ true
  new_held look =
      kept_held (λ q. is_reached_in e q.id.time) (is_own e.ledger.site) p.id e.ledger.pools
      (ap (λ ps. map (λ q. q.id) (filter (λ q. is_reached_in e q.id.time) (filter (is_own e.ledger.site) ps))) at_base.stands.ledger.lookups.waiting
      ∙ ready_as h.within.base at_base.stands true look)

  -- what the node with the new one settles to
  settles_to : (b : Base) → IsNodeOf b e → (commits : Bool) → is_reached_in s p.id.time ≡ commits
      → settle e.plan (node_in b e) ≡ fold (commit_one e.plan) (node_in b e) (cond commits (p.id ∷ []) [])
  settles_to b is commits look = ap (fold (commit_one e.plan) (node_in b e)) (ready_as b is commits look)

  settled_entered : (b : Base) → BecomesAt b s e (λ n. entered s.plan n p) → settle e.plan (node_in b e) ≡ settle s.plan (entered s.plan (node_in b s) p)
  settled_entered b first = ap (λ plan. settle plan (node_in b e)) h.place.plan ∙ ap (settle s.plan) first.node

  pub new_commits : (f : SiteData) → is_reached_in s p.id.time ≡ true → ((b : Base) → IsNodeOf b e → BecomesAt b e f (λ n. commit_one e.plan n p.id))
      → (b : Base) → IsNodeOf b s → IsAfter (log_in b s.ledger) (Prepare p) → BecomesAt b s f (λ n. settle s.plan (entered s.plan n p))
  new_commits f look commit b is earlier =
      let first : BecomesAt b s e (λ n. entered s.plan n p) = h.node b is earlier in
      let last : BecomesAt b e f (λ n. commit_one e.plan n p.id) = commit b first.stands in
      record { stands = last.stands; node = last.node ∙ sym (settles_to b first.stands true look) ∙ settled_entered b first }

  pub new_waits : is_reached_in s p.id.time ≡ false
      → (b : Base) → IsNodeOf b s → IsAfter (log_in b s.ledger) (Prepare p) → BecomesAt b s e (λ n. settle s.plan (entered s.plan n p))
  new_waits look b is earlier =
      let first : BecomesAt b s e (λ n. entered s.plan n p) = h.node b is earlier in
      record { stands = first.stands; node = sym (settles_to b first.stands false look) ∙ settled_entered b first }
