-- Each own Commit of a node's log waited, whatever the node is asked.
use Rattle.std.proofs.Common.{◌≡◌, ◌≢◌, ◌∙◌, ap, sym, subst, ℕ, ◌+◌, ◌<◌, ◌≤◌, ◌⊎◌, inl, inr, cond, nat_eq, nat_le, List, [], ◌∷◌, ◌++◌, length, fold, map, All, Contains, arith}
use Rattle.std.proofs.lemmas.Bool.{cond_both, eqb-false, leb-true, or_parts}
use Rattle.std.proofs.lemmas.Grind.{fold-append}
use Rattle.std.proofs.lemmas.List.Elements.{All-nil, All-append, All-push, All-drop, All-weaker, All-contains}
use Rattle.helios_model.specs.declared.ids.TxnId.{TxnId}
use Rattle.helios_model.specs.declared.entries.Entry.{Entry}
use Rattle.helios_model.specs.declared.messages.Message.{Message}
use Rattle.helios_model.specs.declared.records.Record.{Record}
use Rattle.helios_model.specs.declared.records.Record.TheVariants.{Prepare, Commit, Abort}
use Rattle.helios_model.specs.Transactions.{Transaction}
use Rattle.helios_model.specs.Plans.{PlanData, count_of, latency, rtt}
use Rattle.helios_model.specs.Log.{id_of, origin, own_time}
use Rattle.helios_model.specs.Exchange.{Intake, abort_one, clashing, is_passed, is_unfinished, take_all, take_new, take_one, with_taken}
use Rattle.helios_model.specs.Node.{Node, clock, empty_node, known, own_open}
use Rattle.helios_model.specs.Settle.{is_reached, ready, settle}
use Rattle.helios_model.specs.Request.{asked, entered, next_id}
use Rattle.helios_model.specs.Messages.{advanced, arrived, intake_of}
use Rattle.helios_model.specs.Step.{after_entries, after_entry}
use Rattle.helios_model.specs.World.{entries_of, first_world, run}
use Rattle.protocol_laws.specs.Nodes.{IsWaited}
use Rattle.protocol_laws.specs.Logs.{EachCommitWaited}
use Rattle.protocol_laws.proofs.Lists.{all_from, contains_cases, contains_here, contains_later, contains_from_filter, contains_nothing}
use Rattle.protocol_laws.proofs.Grids.{IsInside}
use Rattle.protocol_laws.proofs.EndRuns.{IsRun, commits_end, runs}
use Rattle.protocol_laws.proofs.NodeRules.{IsKeptByRules, commit, entries_keep, inside_advanced, inside_arrived, inside_empty, inside_entered, inside_settled, settled_intake}
use Rattle.protocol_laws.proofs.WorldGrowth.{GoesOn, advanced_goes, arrived_goes, record_goes, settle_goes}
use Rattle.protocol_laws.proofs.Inputs.{ready_ones, reached_waited}

-- where a node's times do not fall, what has waited goes on having waited
goes_waiting : (plan : PlanData) (n m : Node) (r : Record) → n.site < count_of plan → GoesOn plan n m → IsWaited plan n r → IsWaited plan m r
goes_waiting plan n m (Prepare p) here g h = tt
goes_waiting plan n m (Commit id time) here g h = λ own j low apart.
    subst (λ s. id.time + latency plan s ≤ known plan m s j + rtt plan s j) (sym g.same_site)
    (let before : id.time + latency plan n.site ≤ known plan n n.site j + rtt plan n.site j = h (own ∙ g.same_site) j low (λ same. apart (same ∙ sym g.same_site)) in
    let risen : known plan n n.site j ≤ known plan m n.site j = g.times n.site j here low in
    omega arith)
goes_waiting plan n m (Abort id time cause) here g h = tt

all_waiting : (plan : PlanData) (n m : Node) (rs : List Record) → n.site < count_of plan → GoesOn plan n m → All (IsWaited plan n) rs → All (IsWaited plan m) rs
all_waiting plan n m rs here g h = All-weaker (IsWaited plan n) (IsWaited plan m) (λ r. goes_waiting plan n m r here g) rs h

-- what holds of each record of another site, and of each Abort, goes on holding of a log that takes records in
module _ (site : ℕ) (row : ℕ → ℕ) (P : Record → Type 0) (foreign : (r : Record) → origin r ≢ site → P r)
    (aborts : (id : TxnId) (time : ℕ) (cause : TxnId) → P (Abort id time cause)) where
  aborts_taken : (cause : TxnId) (a : Intake) (ids : List TxnId) → All P a.log → All P (fold (abort_one cause) a ids).log
  aborts_taken cause a [] h = h
  aborts_taken cause a (id ∷ ids) h =
      aborts_taken cause (abort_one cause a id) ids (All-push P a.log (Abort id (a.clock + 1) cause) h (aborts id (a.clock + 1) cause))

  end_taken : (a : Intake) (id : TxnId) (r : Record) → All P a.log → P r → All P (cond (is_unfinished a.log id) (with_taken a r) a).log
  end_taken a id r h new =
      cond_both (is_unfinished a.log id) (with_taken a r) a (λ b. All P b.log) (λ kept. All-push P a.log r h new) (λ passed. h)

  new_taken : (a : Intake) (r : Record) → All P a.log → P r → All P (take_new site a r).log
  new_taken a (Prepare p) h new = aborts_taken p.id (with_taken a (Prepare p)) (clashing site a.log p) (All-push P a.log (Prepare p) h new)
  new_taken a (Commit id time) h new = end_taken a id (Commit id time) h new
  new_taken a (Abort id time cause) h new = end_taken a id (Abort id time cause) h new

  one_taken : (a : Intake) (r : Record) → All P a.log → All P (take_one site row a r).log
  one_taken a r h = cond_both (is_passed site row r) a (take_new site a r) (λ b. All P b.log) (λ passed. h)
      (λ taken. new_taken a r h (foreign r (eqb-false (origin r) site (or_parts (nat_eq (origin r) site) (nat_le (own_time r) (row (origin r))) taken).0)))

  all_taken : (a : Intake) (rs : List Record) → All P a.log → All P (take_all site row a rs).log
  all_taken a [] h = h
  all_taken a (r ∷ rs) h = all_taken (take_one site row a r) rs (one_taken a r h)

record IsPatient (plan : PlanData) (n : Node) : Type 0 where
  inside : IsInside plan n
  waited : All (IsWaited plan n) n.log

foreign_waited : (plan : PlanData) (m : Node) (r : Record) → origin r ≢ m.site → IsWaited plan m r
foreign_waited plan m (Prepare p) apart = tt
foreign_waited plan m (Commit id time) apart = λ own. absurd (apart own)
foreign_waited plan m (Abort id time cause) apart = tt

patient_entered : (plan : PlanData) (n : Node) (p : Transaction) → IsPatient plan n → clock plan n ≤ p.id.time → IsPatient plan (entered plan n p)
patient_entered plan n p h later = record {
  inside = inside_entered plan n p h.inside;
  waited = All-push (IsWaited plan (entered plan n p)) n.log (Prepare p)
      (all_waiting plan n (entered plan n p) n.log h.inside.here (record_goes plan n (Prepare p) p.id.time h.inside later) h.waited) tt;
}

patient_advanced : (plan : PlanData) (n : Node) (reading : ℕ) → IsPatient plan n → IsPatient plan (advanced plan n reading)
patient_advanced plan n reading h = record {
  inside = inside_advanced plan n reading h.inside;
  waited = all_waiting plan n (advanced plan n reading) n.log h.inside.here (advanced_goes plan n reading h.inside) h.waited;
}

patient_arrived : (plan : PlanData) (n : Node) (m : Message) → IsPatient plan n → IsPatient plan (arrived plan n m)
patient_arrived plan n m h = record {
  inside = inside_arrived plan n m h.inside;
  waited = all_taken n.site (known plan n n.site) (IsWaited plan (arrived plan n m)) (foreign_waited plan (arrived plan n m)) (λ id time cause. tt)
      (intake_of plan n) m.records (all_waiting plan n (arrived plan n m) n.log h.inside.here (arrived_goes plan n m h.inside) h.waited);
}

ready_listed : (ps : List Transaction) (id : TxnId) → Contains (map (λ p. p.id) ps) id → (p : Transaction) × Contains ps p × (p.id ≡ id)
ready_listed [] id there = absurd (contains_nothing id there)
ready_listed (p ∷ ps) id there = by_case (contains_cases p.id (map (λ q. q.id) ps) id there) (ready_listed ps id)
  where
    by_case : (p.id ≡ id) ⊎ Contains (map (λ q. q.id) ps) id → (Contains (map (λ q. q.id) ps) id → (q : Transaction) × Contains ps q × (q.id ≡ id))
        → (q : Transaction) × Contains (p ∷ ps) q × (q.id ≡ id)
    by_case (inl same) later = (p, contains_here p ps, same)
    by_case (inr more) later = let found = later more in (found.0, contains_later p ps found.0 found.1, found.2)

patient_settled : (plan : PlanData) (n : Node) → IsPatient plan n → IsPatient plan (settle plan n)
patient_settled plan n h = record {
  inside = inside_settled plan n h.inside;
  waited = subst (All (IsWaited plan (settle plan n))) (sym grown)
      (All-append (IsWaited plan (settle plan n)) n.log its.more (all_waiting plan n (settle plan n) n.log h.inside.here (settle_goes plan n h.inside) h.waited)
      (all_from (IsWaited plan (settle plan n)) its.more (λ r there. new_waited r (All-contains (λ x. Contains (ready plan n) (id_of x)) its.more r its.named there))));
}
  where
    its : IsRun commit (ready plan n) (intake_of plan n) (fold (λ a id. record { log = a.log ++ commit id (a.clock + 1) ∷ []; clock = a.clock + 1 }) (intake_of plan n) (ready plan n))
    its = runs commit (ready plan n) (intake_of plan n) commits_end

    grown : (settle plan n).log ≡ n.log ++ its.more
    grown = ap (λ a. a.log) (settled_intake plan n h.inside) ∙ its.grown

    new_waited : (r : Record) → Contains (ready plan n) (id_of r) → IsWaited plan (settle plan n) r
    new_waited (Prepare p) listed = tt
    new_waited (Commit id time) listed =
        goes_waiting plan n (settle plan n) (Commit id time) h.inside.here (settle_goes plan n h.inside) (λ own j low apart.
        let found = ready_listed (ready_ones plan n) id listed in
        let reached = contains_from_filter (λ p. is_reached plan n p.id.time) (own_open n) found.0 found.1 in
        subst (λ x. x.time + latency plan n.site ≤ known plan n n.site j + rtt plan n.site j) found.2
        (leb-true (found.0.id.time + latency plan n.site) (known plan n n.site j + rtt plan n.site j) (reached_waited plan n found.0.id.time reached.1 j low apart)))
    new_waited (Abort id time cause) listed = tt

patient_rules : (plan : PlanData) → IsKeptByRules plan (λ input. Unit {0}) (IsPatient plan) (IsPatient plan)
patient_rules plan = record {
  enters = λ n reading ask h may below free. patient_entered plan n (asked n.log (next_id plan n reading) ask) h (omega arith);
  advances = λ n reading to h may below. patient_advanced plan n reading h;
  arrives = λ n reading m h may below. patient_arrived plan (advanced plan n reading) m (patient_advanced plan n reading h);
  settles = λ n h. patient_settled plan n h;
}

patient_entries : (plan : PlanData) (k : ℕ) (es : List Entry) → k < count_of plan → IsPatient plan (after_entries plan (empty_node plan k) es)
patient_entries plan k es low =
    entries_keep plan (λ input. Unit {0}) (IsPatient plan) (IsPatient plan) (patient_rules plan) (empty_node plan k) es
    (record { inside = inside_empty plan k low; waited = All-nil (IsWaited plan (empty_node plan k)) }) (λ i d less. tt)

pub each_commit_waited : EachCommitWaited
each_commit_waited plan events may k low = record {
  at_commit = λ before e after cut.
      All-drop (IsWaited plan (after_entry plan (after_entries plan (empty_node plan k) before) e)) (length (after_entries plan (empty_node plan k) before).log)
      (after_entry plan (after_entries plan (empty_node plan k) before) e).log
      (subst (λ n. All (IsWaited plan n) n.log) (fold-append (after_entry plan) (empty_node plan k) before (e ∷ []))
      (patient_entries plan k (before ++ e ∷ []) low).waited);
  still = (patient_entries plan k (entries_of (run plan (first_world plan) events) k) low).waited;
}
