-- Sound logs: one more record, and the ends of own transactions one after the other.
use Rattle.std.proofs.Common.{◌≡◌, ◌≢◌, ◌∙◌, refl, sym, subst, ℕ, ◌+◌, ◌*◌, ◌<◌, ◌≤◌, List, [], ◌∷◌, ◌++◌, length, get_or, fold, filter, All, arith, le_trans}
use Rattle.std.proofs.lemmas.Nat.{mul-add-lt}
use Rattle.std.proofs.lemmas.List.{get_or-set_other, get_or-set_same, length-map, length-set}
use Rattle.std.proofs.lemmas.List.Elements.{All-filter, All-head, All-map, All-push, All-set, All-tail, All-weaker, filter_passes}
use Rattle.std.proofs.lemmas.List.Quantifiers.{all_pairs_push}
use Rattle.std.proofs.lemmas.Bool.{eqb-true}
use Rattle.helios_model.specs.declared.ids.TxnId.{TxnId}
use Rattle.helios_model.specs.declared.records.Record.{Record}
use Rattle.helios_model.specs.declared.records.Record.TheVariants.{Commit}
use Rattle.helios_model.specs.Limits.{last_time}
use Rattle.helios_model.specs.Log.{finished, is_own, origin, own_time, prepares, unfinished}
use Rattle.helios_model.specs.Spellable.{IsSpellableId, IsSpellablePrepare, IsSpellableRecord}
use Rattle.helios_model.specs.Plans.{PlanData, count_of}
use Rattle.helios_model.specs.Node.{Node, clock, known, own_open, with_clock}
use Rattle.helios_model.specs.Settle.{commit_one, is_reached, ready, settle}
use Rattle.node_limits.specs.Limits.{IsSound, IsSoundNode}
use Rattle.node_limits.proofs.Lists.{fewer, prepares_hold}
use Rattle.node_limits.proofs.OpenOnes.{own_end_fewer, own_in}
use Rattle.std.specs.Prelude.{not}

-- a new own record above the clock
pub sound_own : (count site clock time : ℕ) (bound : ℕ → ℕ) (log : List Record) (r : Record) → IsSound count site clock bound log
    → origin r ≡ site → own_time r ≡ time → clock < time → IsSpellableRecord count r → IsSound count site time bound (log ++ r ∷ [])
sound_own count site clock time bound log r h own timed above spelled = record {
  records = All-push (IsSpellableRecord count) log r h.records spelled;
  rise = all_pairs_push (λ a b. origin a ≡ origin b → own_time a < own_time b) log r h.rise
      (λ k d low same. let old : own_time (get_or log k d) ≤ clock = h.own k d low (same ∙ own) in omega arith);
  own = All-push (λ x. origin x ≡ site → own_time x ≤ time) log r
      (All-weaker (λ x. origin x ≡ site → own_time x ≤ clock) (λ x. origin x ≡ site → own_time x ≤ time)
      (λ x low its. let old : own_time x ≤ clock = low its in omega arith) log h.own) (λ its. omega arith);
  others = All-push (λ x. origin x ≢ site → own_time x ≤ bound (origin x)) log r h.others (λ other. absurd (other own));
}

-- a later clock, and a bound that is no lower away from the site
pub sound_later : (count site clock later : ℕ) (bound bound' : ℕ → ℕ) (log : List Record) → IsSound count site clock bound log → clock ≤ later
    → All (λ r. origin r ≢ site → bound (origin r) ≤ bound' (origin r)) log → IsSound count site later bound' log
sound_later count site clock later bound bound' log h risen higher = record {
  records = h.records;
  rise = h.rise;
  own = All-weaker (λ x. origin x ≡ site → own_time x ≤ clock) (λ x. origin x ≡ site → own_time x ≤ later) (λ x low its. le_trans (low its) risen) log h.own;
  others = λ k d low other. le_trans (h.others k d low other) (higher k d low other);
}

pub own_place : (plan : PlanData) (n : Node) → n.site < count_of plan → length n.table ≡ count_of plan * count_of plan
    → n.site * count_of plan + n.site < length n.table
own_place plan n here sized = rw sized (mul-add-lt n.site (count_of plan) n.site (count_of plan) here here)

pub clock_put : (plan : PlanData) (n : Node) (time : ℕ) → IsSoundNode plan n → clock plan (with_clock plan n time) ≡ time
clock_put plan n time h = get_or-set_same n.table (n.site * count_of plan + n.site) time 0 (own_place plan n h.here h.sized)

pub known_put : (plan : PlanData) (n : Node) (time k : ℕ) → k ≢ n.site → known plan (with_clock plan n time) n.site k ≡ known plan n n.site k
known_put plan n time k apart =
    get_or-set_other n.table (n.site * count_of plan + n.site) (n.site * count_of plan + k) time 0 (λ same. apart (omega arith))

-- the node with a later clock and a log that is sound by it
pub node_put : (plan : PlanData) (n : Node) (log : List Record) (time : ℕ) → IsSoundNode plan n → time ≤ last_time
    → IsSound (count_of plan) n.site time (known plan n n.site) log → IsSoundNode plan (with_clock plan (record { site = n.site; log = log; table = n.table }) time)
node_put plan n log time h low sound =
    let m : Node = record { site = n.site; log = log; table = n.table } in
    let timed : clock plan (with_clock plan m time) ≡ time = get_or-set_same n.table (n.site * count_of plan + n.site) time 0 (own_place plan n h.here h.sized) in
    record {
      here = h.here;
      sized = length-set n.table (n.site * count_of plan + n.site) time ∙ h.sized;
      small = All-set (λ t. t ≤ last_time) n.table (n.site * count_of plan + n.site) time low h.small;
      sound = subst (λ t. IsSound (count_of plan) n.site t (known plan (with_clock plan m time) n.site) log) (sym timed)
          (sound_later (count_of plan) n.site time time (known plan n n.site) (known plan (with_clock plan m time) n.site) log sound (omega arith)
          (λ k d inside other. subst (λ t. known plan n n.site (origin (get_or log k d)) ≤ t) (sym (known_put plan m time (origin (get_or log k d)) other)) (omega arith)));
    }

-- an id that an own record may end, once the clock has come so far
pub record IsEndable (count site clock : ℕ) (id : TxnId) : Type 0 where
  pub named : IsSpellableId count id
  pub own : id.site ≡ site
  pub old : id.time ≤ clock

pub endable_later : (count site clock later : ℕ) (id : TxnId) → clock ≤ later → IsEndable count site clock id → IsEndable count site later id
endable_later count site clock later id risen h = record { named = h.named; own = h.own; old = le_trans h.old risen }

pub prepares_spelled : (count site clock : ℕ) (bound : ℕ → ℕ) (log : List Record) → IsSound count site clock bound log → All (IsSpellablePrepare count) (prepares log)
prepares_spelled count site clock bound log h = prepares_hold (IsSpellableRecord count) (IsSpellablePrepare count) (λ p spelled. spelled) log h.records

-- the own open ones may end
pub open_endable : (count site clock : ℕ) (bound : ℕ → ℕ) (log : List Record) → IsSound count site clock bound log → All (λ p. IsEndable count site clock p.id) (own_in site log)
open_endable count site clock bound log h = λ k d low. record {
  named = (spelled k d low).named;
  own = eqb-true (get_or (own_in site log) k d).id.site site (filter_passes (is_own site) (unfinished log) k d low);
  old = old k d low (eqb-true (get_or (own_in site log) k d).id.site site (filter_passes (is_own site) (unfinished log) k d low));
}
  where
    spelled : All (IsSpellablePrepare count) (own_in site log)
    spelled =
        All-filter (is_own site) (IsSpellablePrepare count) (unfinished log)
        (All-filter (λ p. not (finished log p.id)) (IsSpellablePrepare count) (prepares log) (prepares_spelled count site clock bound log h))

    old : All (λ p. p.id.site ≡ site → p.id.time ≤ clock) (own_in site log)
    old =
        All-filter (is_own site) (λ p. p.id.site ≡ site → p.id.time ≤ clock) (unfinished log)
        (All-filter (λ p. not (finished log p.id)) (λ p. p.id.site ≡ site → p.id.time ≤ clock) (prepares log)
        (prepares_hold (λ r. origin r ≡ site → own_time r ≤ clock) (λ p. p.id.site ≡ site → p.id.time ≤ clock) (λ p low. low) log h.own))

-- a node that went on to another one by ends of own transactions
pub record IsEnded (plan : PlanData) (n m : Node) (ends : ℕ) : Type 0 where
  pub node : IsSoundNode plan m
  pub site : m.site ≡ n.site
  pub timed : clock plan m ≡ clock plan n + ends
  pub fewer_open : length (own_open m) ≤ length (own_open n)

committed_once : (plan : PlanData) (n : Node) (id : TxnId) → IsSoundNode plan n → IsEndable (count_of plan) n.site (clock plan n) id → clock plan n + 1 ≤ last_time
    → IsEnded plan n (commit_one plan n id) 1
committed_once plan n id h may low =
    let r : Record = Commit id (clock plan n + 1) in
    record {
      node = node_put plan n (n.log ++ r ∷ []) (clock plan n + 1) h low
          (sound_own (count_of plan) n.site (clock plan n) (clock plan n + 1) (known plan n n.site) n.log r h.sound may.own refl (omega arith)
          (record { named = may.named; later = let old : id.time ≤ clock plan n = may.old in omega arith; last = low }));
      site = refl;
      timed = get_or-set_same n.table (n.site * count_of plan + n.site) (clock plan n + 1) 0 (own_place plan n h.here h.sized);
      fewer_open = own_end_fewer n.site n.log r refl;
    }

pub committed_all : (plan : PlanData) (n : Node) (ids : List TxnId) → IsSoundNode plan n → All (IsEndable (count_of plan) n.site (clock plan n)) ids
    → clock plan n + length ids ≤ last_time → IsEnded plan n (fold (commit_one plan) n ids) (length ids)
committed_all plan n [] h may low = record { node = h; site = refl; timed = omega arith; fewer_open = omega arith }
committed_all plan n (id ∷ ids) h may low =
    let m : Node = commit_one plan n id in
    let first : IsEnded plan n m 1 =
    committed_once plan n id h (All-head (IsEndable (count_of plan) n.site (clock plan n)) id ids may) (omega arith) in
    let timed : clock plan m ≡ clock plan n + 1 = first.timed in
    let rest : IsEnded plan m (fold (commit_one plan) m ids) (length ids) =
    committed_all plan m ids first.node
    (All-weaker (IsEndable (count_of plan) n.site (clock plan n)) (IsEndable (count_of plan) n.site (clock plan m))
    (λ x. endable_later (count_of plan) n.site (clock plan n) (clock plan m) x (omega arith)) ids (All-tail (IsEndable (count_of plan) n.site (clock plan n)) id ids may)) (omega arith) in
    let last : clock plan (fold (commit_one plan) m ids) ≡ clock plan m + length ids = rest.timed in
    record {
      node = rest.node;
      site = rest.site ∙ first.site;
      timed = omega arith;
      fewer_open = le_trans rest.fewer_open first.fewer_open;
    }

pub ready_few : (plan : PlanData) (n : Node) → length (ready plan n) ≤ length (own_open n)
ready_few plan n =
    let some : length (filter (λ p. is_reached plan n p.id.time) (own_open n)) ≤ length (own_open n) = fewer (λ p. is_reached plan n p.id.time) (own_open n) in
    let same : length (ready plan n) ≡ length (filter (λ p. is_reached plan n p.id.time) (own_open n)) =
    length-map (filter (λ p. is_reached plan n p.id.time) (own_open n)) (λ p. p.id) in
    omega arith

pub settled : (plan : PlanData) (n : Node) → IsSoundNode plan n → clock plan n + length (own_open n) ≤ last_time → IsEnded plan n (settle plan n) (length (ready plan n))
settled plan n h low =
    let few : length (ready plan n) ≤ length (own_open n) = ready_few plan n in
    committed_all plan n (ready plan n) h
    (All-map (IsEndable (count_of plan) n.site (clock plan n)) (λ p. p.id) (filter (λ p. is_reached plan n p.id.time) (own_open n))
    (All-filter (λ p. is_reached plan n p.id.time) (λ p. IsEndable (count_of plan) n.site (clock plan n) p.id) (own_open n)
    (open_endable (count_of plan) n.site (clock plan n) (known plan n n.site) n.log h.sound)))
    (omega arith)
