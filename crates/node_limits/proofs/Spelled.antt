-- What a sound node tells has a spelling.
use Rattle.std.proofs.Common.{◌≡◌, ◌≢◌, sym, subst, zero, suc, ℕ, ◌+◌, ◌*◌, ◌<◌, ◌≤◌, ◌⊎◌, inl, inr, true, false, Option, Some, None, is_some, List, [], ◌∷◌, length, get_or, fold, map, filter_map, find, take, drop, ◌&&◌, nat_eq, All, AllPairs, arith}
use Rattle.std.specs.List.{cons_option, range_with_len}
use Rattle.std.specs.Prelude.{slice_index}
use Rattle.std.specs.Option.{option_map}
use Rattle.std.proofs.lemmas.List.{length-take}
use Rattle.std.proofs.lemmas.List.FromFn.{get_or-map-range_with_len, length-map-range_with_len}
use Rattle.std.proofs.lemmas.List.Elements.{All-drop, All-filter, All-head, All-map, All-tail, All-take, All-weaker}
use Rattle.std.proofs.lemmas.List.Kept.{AllPairs-filter}
use Rattle.std.proofs.lemmas.Bool.{cases_Bool, cases_eq, cases_lt, cond_both, eqb-true}
use Rattle.helios_model.specs.declared.ids.TxnId.{TxnId}
use Rattle.helios_model.specs.declared.ids.Version.TheVariants.{Initial, Of}
use Rattle.helios_model.specs.declared.transactions.WriteItem.{WriteItem}
use Rattle.helios_model.specs.declared.records.Record.{Record}
use Rattle.helios_model.specs.declared.records.Record.TheVariants.{Prepare, Commit, Abort}
use Rattle.helios_model.specs.declared.records.CommitEvent.{CommitEvent}
use Rattle.helios_model.specs.declared.entries.State.TheVariants.{Unknown}
use Rattle.helios_model.specs.Limits.{last_time, most_records, most_sites}
use Rattle.helios_model.specs.Texts.{IsValue, same_text}
use Rattle.helios_model.specs.Transactions.{Transaction, writes_key}
use Rattle.helios_model.specs.Ids.{same_id}
use Rattle.helios_model.specs.Log.{commit_in, current, current_value, ends, event_at, origin, own_time, prepare_of, prepares, value_after, version_after, write_over, written}
use Rattle.helios_model.specs.Spellable.{IsSpellableId, IsSpellableVersion, IsSpellablePrepare, IsSpellableRecord, IsSpellableMessage, IsSpellableState}
use Rattle.helios_model.specs.Exchange.{cover_at, due, is_due}
use Rattle.helios_model.specs.Plans.{PlanData, count_of}
use Rattle.helios_model.specs.Node.{Node, clock, ending_of, known, status}
use Rattle.helios_model.specs.Messages.{message_to}
use Rattle.helios_model.specs.Step.{IsOther}
use Rattle.node_limits.specs.Limits.{IsSoundNode}
use Rattle.node_limits.proofs.Lists.{OnFound, found_holds, pairs_split, pairs_take}

pub widened : (count : ℕ) (id : TxnId) → count ≤ most_sites → IsSpellableId count id → IsSpellableId most_sites id
widened count id few h = let here : id.site < count = h.here in record { here = omega arith; some = h.some; last = h.last }

-- what each commit keeps holds of the fold over all commits of a log
keep_one : {S : Type 0} (F : S → CommitEvent → S) (Good : S → Type 0) (P : Transaction → Type 0) → ((s : S) (e : CommitEvent) → Good s → P e.prepare → Good (F s e))
    → (time : ℕ) (o : Option Transaction) → OnFound P o → (more : List CommitEvent) (s : S) → Good s → ((t : S) → Good t → Good (fold F t more))
    → Good (fold F s (cons_option (option_map (event_at time) o) more))
keep_one F Good P keep time None found more s good on = on s good
keep_one F Good P keep time (Some p) found more s good on = on (F s (event_at time p)) (keep s (event_at time p) good found)

keep_fold : {S : Type 0} (F : S → CommitEvent → S) (Good : S → Type 0) (P : Transaction → Type 0) → ((s : S) (e : CommitEvent) → Good s → P e.prepare → Good (F s e))
    → (log rest : List Record) → All P (prepares log) → (s : S) → Good s → Good (fold F s (filter_map (commit_in log) rest))
keep_fold F Good P keep log [] all s good = good
keep_fold F Good P keep log (Prepare p ∷ rs) all s good = keep_fold F Good P keep log rs all s good
keep_fold F Good P keep log (Abort id time cause ∷ rs) all s good = keep_fold F Good P keep log rs all s good
keep_fold F Good P keep log (Commit id time ∷ rs) all s good =
    keep_one F Good P keep time (prepare_of log id) (found_holds P (λ p. same_id p.id id) (prepares log) all) (filter_map (commit_in log) rs) s good
    (λ t fine. keep_fold F Good P keep log rs all t fine)

pub version_spelled : (count : ℕ) (log : List Record) (key : List ℕ) → count ≤ most_sites → All (IsSpellablePrepare count) (prepares log) → IsSpellableVersion (current log key)
version_spelled count log key few all =
    keep_fold (version_after key) IsSpellableVersion (IsSpellablePrepare count)
    (λ version e good spelled. cond_both (writes_key e.prepare key) (Of e.prepare.id) version IsSpellableVersion
    (λ _. widened count e.prepare.id few spelled.named) (λ _. good)) log log all Initial tt

pub value_spelled : (count : ℕ) (log : List Record) (key : List ℕ) → All (IsSpellablePrepare count) (prepares log) → IsValue (current_value log key)
value_spelled count log key all =
    keep_fold (value_after key) IsValue (IsSpellablePrepare count)
    (λ value e good spelled. over value (written e.prepare key) good
    (found_holds (λ w. IsValue w.value) (λ w. same_text w.key key) e.prepare.writes spelled.writes.values)) log log all [] (omega arith)
  where
    over : (value : List ℕ) (o : Option WriteItem) → IsValue value → OnFound (λ w. IsValue w.value) o → IsValue (write_over value o)
    over value None good found = good
    over value (Some w) good found = found

state_spelled : (count : ℕ) (o : Option Record) → count ≤ most_sites → OnFound (IsSpellableRecord count) o → IsSpellableState (ending_of o)
state_spelled count None few found = tt
state_spelled count (Some (Prepare p)) few found = tt
state_spelled count (Some (Commit id time)) few found = tt
state_spelled count (Some (Abort id time cause)) few found = widened count cause few found.1

pub status_spelled : (count : ℕ) (n : Node) (id : TxnId) → count ≤ most_sites → All (IsSpellableRecord count) n.log → IsSpellableState (status n id)
status_spelled count n id few all =
    cond_both (nat_eq id.site n.site && is_some (prepare_of n.log id)) (ending_of (find (ends id) n.log)) Unknown IsSpellableState
    (λ _. state_spelled count (find (ends id) n.log) few (found_holds (IsSpellableRecord count) (ends id) n.log all)) (λ _. tt)

pub origin_below : (count : ℕ) (r : Record) → IsSpellableRecord count r → origin r < count
origin_below count (Prepare p) h = h.named.here
origin_below count (Commit id time) h = h.named.here
origin_below count (Abort id time cause) h = h.0.named.here

time_small : (count : ℕ) (r : Record) → IsSpellableRecord count r → own_time r ≤ last_time
time_small count (Prepare p) h = h.named.last
time_small count (Commit id time) h = h.last
time_small count (Abort id time cause) h = h.0.last

pub small_at : (times : List ℕ) (i : ℕ) → All (λ t. t ≤ last_time) times → get_or times i 0 ≤ last_time
small_at [] zero h = omega arith
small_at [] (suc i) h = omega arith
small_at (t ∷ ts) zero h = All-head (λ x. x ≤ last_time) t ts h
small_at (t ∷ ts) (suc i) h = small_at ts i (All-tail (λ x. x ≤ last_time) t ts h)

-- up to when a message tells of a site
covered_small : (own : ℕ → ℕ) (left : List Record) (k : ℕ) → own k ≤ last_time → All (λ r. own_time r ≤ last_time) left → cover_at own left k ≤ last_time
covered_small own [] k h all = h
covered_small own (r ∷ rs) k h all = by_test (cases_Bool (nat_eq (origin r) k)) (covered_small own rs k h (All-tail (λ x. own_time x ≤ last_time) r rs all)) (All-head (λ x. own_time x ≤ last_time) r rs all)
  where
    by_test : (nat_eq (origin r) k ≡ true) ⊎ (nat_eq (origin r) k ≡ false) → cover_at own rs k ≤ last_time → own_time r ≤ last_time → cover_at own (r ∷ rs) k ≤ last_time
    by_test (inl here) later low = rw here (omega arith)
    by_test (inr other) later low = rw other later

covers_one : (own : ℕ → ℕ) (left : List Record) (r : Record) → own_time r ≤ own (origin r) → All (λ x. origin r ≡ origin x → own_time r < own_time x) left
    → own_time r ≤ cover_at own left (origin r)
covers_one own [] r h all = h
covers_one own (x ∷ xs) r h all =
    by_test (cases_Bool (nat_eq (origin x) (origin r))) (covers_one own xs r h (All-tail (λ y. origin r ≡ origin y → own_time r < own_time y) x xs all))
    (All-head (λ y. origin r ≡ origin y → own_time r < own_time y) x xs all)
  where
    by_test : (nat_eq (origin x) (origin r) ≡ true) ⊎ (nat_eq (origin x) (origin r) ≡ false) → own_time r ≤ cover_at own xs (origin r)
        → (origin r ≡ origin x → own_time r < own_time x) → own_time r ≤ cover_at own (x ∷ xs) (origin r)
    by_test (inl here) later first = let below : own_time r < own_time x = first (sym (eqb-true (origin x) (origin r) here)) in rw here (omega arith)
    by_test (inr other) later first = rw other later

taken_covered : (count most : ℕ) (own : ℕ → ℕ) (records : List Record) → All (λ r. origin r < count) records → All (λ r. own_time r ≤ own (origin r)) records
    → AllPairs (λ a b. origin a ≡ origin b → own_time a < own_time b) records
    → All (λ r. own_time r ≤ slice_index (map (cover_at own (drop most records)) (range_with_len 0 count)) (origin r)) (take most records)
taken_covered count most own records here within rise = λ i d low.
    let r : Record = get_or (take most records) i d in
    let told : get_or (map (cover_at own (drop most records)) (range_with_len 0 count)) (origin r) 0 ≡ cover_at own (drop most records) (origin r) =
    get_or-map-range_with_len (cover_at own (drop most records)) 0 count (origin r) (origin r) 0 (All-take (λ x. origin x < count) most records here i d low) (omega arith) in
    subst (λ t. own_time r ≤ t) (sym told)
    (covers_one own (drop most records) r (All-take (λ x. own_time x ≤ own (origin x)) most records within i d low)
    (pairs_split (λ a b. origin a ≡ origin b → own_time a < own_time b) most records rise i d low))

few_taken : {X : Type 0} (most : ℕ) (xs : List X) → length (take most xs) ≤ most
few_taken most xs = let long = length-take most xs in omega arith

-- each record of a sound node's log is within the node's row
pub within_row : (plan : PlanData) (n : Node) → IsSoundNode plan n → All (λ r. own_time r ≤ known plan n n.site (origin r)) n.log
within_row plan n h = λ k d low. by_origin (get_or n.log k d) (h.sound.own k d low) (h.sound.others k d low) (cases_eq (origin (get_or n.log k d)) n.site)
  where
    by_origin : (r : Record) → (origin r ≡ n.site → own_time r ≤ clock plan n) → (origin r ≢ n.site → own_time r ≤ known plan n n.site (origin r))
        → (origin r ≡ n.site) ⊎ (origin r ≡ n.site → ⊥) → own_time r ≤ known plan n n.site (origin r)
    by_origin r own others (inl its) = subst (λ k. own_time r ≤ known plan n n.site k) (sym its) (own its)
    by_origin r own others (inr other) = others other

pub message_spelled : (plan : PlanData) (n : Node) (to : ℕ) → count_of plan ≤ most_sites → IsSoundNode plan n → IsOther plan n.site to → IsSpellableMessage (message_to plan n to)
message_spelled plan n to few h other =
    let sent : List Record = due (known plan n to) n.log in
    let spelled : All (IsSpellableRecord (count_of plan)) sent = All-filter (is_due (known plan n to)) (IsSpellableRecord (count_of plan)) n.log h.sound.records in
    let within : All (λ r. own_time r ≤ known plan n n.site (origin r)) sent =
    All-filter (is_due (known plan n to)) (λ r. own_time r ≤ known plan n n.site (origin r)) n.log (within_row plan n h) in
    let rise : AllPairs (λ a b. origin a ≡ origin b → own_time a < own_time b) sent =
    AllPairs-filter (λ a b. origin a ≡ origin b → own_time a < own_time b) (is_due (known plan n to)) n.log h.sound.rise in
    record {
      some = two_sites;
      few = few;
      from = h.here;
      to = other.below;
      other = other.other;
      square = h.sized;
      table = h.small;
      one_row = length-map-range_with_len (cover_at (known plan n n.site) (drop most_records sent)) 0 (count_of plan);
      cover = All-map (λ t. t ≤ last_time) (cover_at (known plan n n.site) (drop most_records sent)) (range_with_len 0 (count_of plan))
          (λ k d low. covered_small (known plan n n.site) (drop most_records sent) (get_or (range_with_len 0 (count_of plan)) k d)
          (small_at n.table (n.site * count_of plan + get_or (range_with_len 0 (count_of plan)) k d) h.small)
          (All-drop (λ r. own_time r ≤ last_time) most_records sent (All-weaker (IsSpellableRecord (count_of plan)) (λ r. own_time r ≤ last_time) (time_small (count_of plan)) sent spelled)));
      few_records = few_taken most_records sent;
      records = All-take (IsSpellableRecord (count_of plan)) most_records sent spelled;
      rise = pairs_take (λ a b. origin a ≡ origin b → own_time a < own_time b) most_records sent rise;
      covered = taken_covered (count_of plan) most_records (known plan n n.site) sent
          (All-weaker (IsSpellableRecord (count_of plan)) (λ r. origin r < count_of plan) (origin_below (count_of plan)) sent spelled) within rise;
    }
  where
    two_sites : 2 ≤ count_of plan
    two_sites = by_count (cases_lt (count_of plan) 2)
      where
        by_count : (count_of plan < 2) ⊎ (2 ≤ count_of plan) → 2 ≤ count_of plan
        by_count (inl low) = let here : n.site < count_of plan = h.here in let below : to < count_of plan = other.below in absurd (other.other (omega arith))
        by_count (inr high) = high
