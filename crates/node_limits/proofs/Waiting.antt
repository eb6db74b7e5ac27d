-- Between two steps no own open transaction is ready: what is settled leaves none, and a new one is the only one that may be.
use Rattle.std.proofs.Common.{◌≡◌, ◌∙◌, ap, refl, sym, ℕ, ◌+◌, ◌<◌, Bool, true, false, not, ◌&&◌, ◌||◌, ◌⊎◌, inl, inr, cond, nat_eq, eq-eqb, eqb-true, List, [], ◌∷◌, ◌++◌, filter, fold, map, max, All, arith}
use Rattle.std.specs.List.{list_all, range_with_len}
use Rattle.std.proofs.lemmas.Bool.{and_parts, cases_Bool, eqb-false}
use Rattle.std.proofs.lemmas.List.Elements.{All-head, All-tail, All-weaker, filter-append, filter_agree}
use Rattle.helios_model.specs.declared.ids.TxnId.{TxnId}
use Rattle.helios_model.specs.declared.records.Record.{Record}
use Rattle.helios_model.specs.declared.records.Record.TheVariants.{Prepare, Commit, Abort}
use Rattle.helios_model.specs.Ids.{same_id}
use Rattle.helios_model.specs.Transactions.{Transaction}
use Rattle.helios_model.specs.Log.{ends, finished, is_own, origin, own_time, unfinished}
use Rattle.helios_model.specs.Spellable.{IsSpellableRecord}
use Rattle.helios_model.specs.Offset.{is_past}
use Rattle.helios_model.specs.Plans.{PlanData, count_of}
use Rattle.helios_model.specs.Node.{Node, clamp, clock, known, own_open, with_clock}
use Rattle.helios_model.specs.Settle.{commit_one, is_reached, ready, settle}
use Rattle.helios_model.specs.Request.{entered}
use Rattle.helios_model.specs.Messages.{advanced}
use Rattle.node_limits.specs.Limits.{IsAfter, IsWithinLimits}
use Rattle.node_limits.proofs.Lists.{filter_twice}
use Rattle.node_limits.proofs.OpenOnes.{IsAmong, among, filters_turned, is_none_of, none_ended, one_ended, own_end, own_in, unfinished_prepare}
use Rattle.node_limits.proofs.Sound.{known_put}

none_kept : {X : Type 0} (t : X → Bool) (xs : List X) → All (λ x. t x ≡ false) xs → filter t xs ≡ []
none_kept t [] h = refl
none_kept t (x ∷ xs) h = let here : t x ≡ false = All-head (λ y. t y ≡ false) x xs h in rw here (none_kept t xs (All-tail (λ y. t y ≡ false) x xs h))

none_mapped : {X Y : Type 0} (f : X → Y) (xs : List X) → map f xs ≡ [] → xs ≡ []
none_mapped f [] e = refl
none_mapped f (x ∷ xs) e = absurd (cc)

-- the own open ones of a log that a node has heard past
abbrev ready_in : PlanData → Node → List Record → List TxnId
ready_in plan n log = map (λ p. p.id) (filter (λ p. is_reached plan n p.id.time) (own_in n.site log))

module _ (plan : PlanData) (n : Node) (log : List Record) (time : ℕ) where
  -- the node with another log and another time of its own
  abbrev m : Node
  m = with_clock plan (record { site = n.site; log = log; table = n.table }) time

  -- what it has heard of others is the same
  pub reached_put : (at : ℕ) → is_reached plan m at ≡ is_reached plan n at
  reached_put at = goes (range_with_len 0 (count_of plan))
    where
      each : (j : ℕ) → (nat_eq j n.site || is_past plan n.site j at (known plan m n.site j)) ≡ (nat_eq j n.site || is_past plan n.site j at (known plan n n.site j))
      each j = by_test (cases_Bool (nat_eq j n.site))
        where
          by_test : (nat_eq j n.site ≡ true) ⊎ (nat_eq j n.site ≡ false)
              → (nat_eq j n.site || is_past plan n.site j at (known plan m n.site j)) ≡ (nat_eq j n.site || is_past plan n.site j at (known plan n n.site j))
          by_test (inl own) = rw own refl
          by_test (inr other) = ap (λ t. nat_eq j n.site || is_past plan n.site j at t) (known_put plan (record { site = n.site; log = log; table = n.table }) time j (eqb-false j n.site other))

      goes : (js : List ℕ) → list_all (λ j. nat_eq j n.site || is_past plan n.site j at (known plan m n.site j)) js
          ≡ list_all (λ j. nat_eq j n.site || is_past plan n.site j at (known plan n n.site j)) js
      goes [] = refl
      goes (j ∷ js) = λ i. each j i && goes js i

  pub ready_put : ready plan m ≡ ready_in plan n log
  ready_put = ap (map (λ p. p.id)) (filter_agree (λ p. is_reached plan m p.id.time) (λ p. is_reached plan n p.id.time) (λ p. reached_put p.id.time) (own_in n.site log))

-- a clock that goes on makes none ready
pub advanced_ready : (plan : PlanData) (n : Node) (reading : ℕ) → ready plan (advanced plan n reading) ≡ ready plan n
advanced_ready plan n reading = ready_put plan n n.log (max (clock plan n) (clamp reading))

committed_reached : (plan : PlanData) (n : Node) (ids : List TxnId) (at : ℕ) → is_reached plan (fold (commit_one plan) n ids) at ≡ is_reached plan n at
committed_reached plan n [] at = refl
committed_reached plan n (id ∷ ids) at =
    committed_reached plan (commit_one plan n id) ids at ∙ reached_put plan n (n.log ++ Commit id (clock plan n + 1) ∷ []) (clock plan n + 1) at

committed_open : (plan : PlanData) (n : Node) (ids : List TxnId) → own_open (fold (commit_one plan) n ids) ≡ filter (is_none_of ids) (own_open n)
committed_open plan n [] = sym (none_ended (own_open n))
committed_open plan n (id ∷ ids) =
    committed_open plan (commit_one plan n id) ids
    ∙ ap (filter (is_none_of ids)) (own_end n.site n.log (Commit id (clock plan n + 1)) refl)
    ∙ one_ended id ids (own_open n)

-- behind the ends of all that pass a test none is left that does
none_left : (t : Transaction → Bool) (ps : List Transaction) → filter t (filter (is_none_of (map (λ p. p.id) (filter t ps))) ps) ≡ []
none_left t ps =
    filters_turned t (is_none_of ids) ps
    ∙ filter_twice (is_none_of ids) t ps
    ∙ none_kept (λ p. t p && is_none_of ids p) ps (All-weaker (IsAmong t ids) (λ p. (t p && is_none_of ids p) ≡ false) each ps (among t ps))
  where
    ids : List TxnId
    ids = map (λ p. p.id) (filter t ps)

    each : (p : Transaction) → IsAmong t ids p → (t p && is_none_of ids p) ≡ false
    each p there = by_test (cases_Bool (t p))
      where
        by_test : (t p ≡ true) ⊎ (t p ≡ false) → (t p && is_none_of ids p) ≡ false
        by_test (inl passes) = rw (passes, there passes) refl
        by_test (inr fails) = rw fails refl

-- what is settled leaves none ready
pub settled_waits : (plan : PlanData) (n : Node) → ready plan (settle plan n) ≡ []
settled_waits plan n =
    ap (λ ps. map (λ p. p.id) (filter (λ p. is_reached plan (settle plan n) p.id.time) ps)) (committed_open plan n (ready plan n))
    ∙ ap (map (λ p. p.id))
    (filter_agree (λ p. is_reached plan (settle plan n) p.id.time) (λ p. is_reached plan n p.id.time) (λ p. committed_reached plan n (ready plan n) p.id.time)
    (filter (is_none_of (ready plan n)) (own_open n))
    ∙ none_left (λ p. is_reached plan n p.id.time) (own_open n))

-- a log whose records of an origin were all made before a transaction has not ended it
unended : (count : ℕ) (log : List Record) (p : Transaction) → All (IsSpellableRecord count) log → IsAfter log (Prepare p) → finished log p.id ≡ false
unended count [] p spelled after = refl
unended count (r ∷ rs) p spelled after =
    let here : ends p.id r ≡ false = each r (All-head (IsSpellableRecord count) r rs spelled) (All-head (λ x. origin x ≡ p.id.site → own_time x < p.id.time) r rs after) in
    rw here (unended count rs p (All-tail (IsSpellableRecord count) r rs spelled) (All-tail (λ x. origin x ≡ p.id.site → own_time x < p.id.time) r rs after))
  where
    -- an end is made later than what it ends
    apart : (id : TxnId) (time : ℕ) → id.time < time → (id.site ≡ p.id.site → time < p.id.time) → same_id id p.id ≡ false
    apart id time later before = by_test (cases_Bool (same_id id p.id))
      where
        by_test : (same_id id p.id ≡ true) ⊎ (same_id id p.id ≡ false) → same_id id p.id ≡ false
        by_test (inl same) =
            let parts = and_parts (nat_eq id.site p.id.site) (nat_eq id.time p.id.time) same in
            let times : id.time ≡ p.id.time = eqb-true id.time p.id.time parts.1 in
            let low : time < p.id.time = before (eqb-true id.site p.id.site parts.0) in
            absurd (omega arith)
        by_test (inr other) = other

    each : (x : Record) → IsSpellableRecord count x → (origin x ≡ p.id.site → own_time x < p.id.time) → ends p.id x ≡ false
    each (Prepare q) its before = refl
    each (Commit id time) its before = apart id time its.later before
    each (Abort id time cause) its before = apart id time its.0.later before

-- a new own transaction comes last of the own open ones
own_last : (site : ℕ) (log : List Record) (p : Transaction) → p.id.site ≡ site → finished log p.id ≡ false → own_in site (log ++ Prepare p ∷ []) ≡ own_in site log ++ p ∷ []
own_last site log p own new =
    let mine : is_own site p ≡ true = eq-eqb p.id.site site own in
    ap (filter (is_own site)) (unfinished_prepare log p)
    ∙ filter-append (is_own site) (unfinished log) (filter (λ q. not (finished log q.id)) (p ∷ []))
    ∙ ap (λ ps. own_in site log ++ ps) (rw (new, mine) refl)

pub new_alone : (plan : PlanData) (n : Node) (p : Transaction) → IsWithinLimits plan n → p.id.site ≡ n.site → IsAfter n.log (Prepare p)
    → ready plan (entered plan n p) ≡ cond (is_reached plan n p.id.time) (p.id ∷ []) []
new_alone plan n p h own after =
    ready_put plan n (n.log ++ Prepare p ∷ []) p.id.time
    ∙ ap (λ ps. map (λ q. q.id) (filter reached ps)) (own_last n.site n.log p own (unended (count_of plan) n.log p h.node.sound.records after))
    ∙ ap (map (λ q. q.id))
    (filter-append reached (own_open n) (p ∷ []) ∙ ap (λ ps. ps ++ filter reached (p ∷ [])) (none_mapped (λ q. q.id) (filter reached (own_open n)) h.waits))
    ∙ by_test (cases_Bool (is_reached plan n p.id.time))
  where
    reached : Transaction → Bool
    reached q = is_reached plan n q.id.time

    by_test : (is_reached plan n p.id.time ≡ true) ⊎ (is_reached plan n p.id.time ≡ false)
        → map (λ q. q.id) (filter reached (p ∷ [])) ≡ cond (is_reached plan n p.id.time) (p.id ∷ []) []
    by_test (inl past) = rw past refl
    by_test (inr waits) = rw waits refl
