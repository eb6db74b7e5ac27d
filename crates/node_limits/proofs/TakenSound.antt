-- A log that takes a message's records in stays sound, and its clock leaves room for what stays open.
use Rattle.std.proofs.Common.{◌≡◌, ◌≢◌, ◌∙◌, refl, sym, ℕ, ◌+◌, ◌<◌, ◌≤◌, ◌⊎◌, inl, inr, true, false, List, [], ◌∷◌, ◌++◌, length, get_or, fold, filter, max, nat_eq, nat_le, All, AllPairs, arith, eq-eqb, le_trans}
use Rattle.std.proofs.lemmas.List.Elements.{All-filter, All-head, All-map, All-push, All-tail, All-weaker}
use Rattle.std.proofs.lemmas.List.Quantifiers.{all_pairs_push}
use Rattle.std.proofs.lemmas.Bool.{both_ways, cases_Bool, eqb-true, leb-false, or_parts}
use Rattle.helios_model.specs.declared.ids.TxnId.{TxnId}
use Rattle.helios_model.specs.declared.records.Record.{Record}
use Rattle.helios_model.specs.declared.records.Record.TheVariants.{Prepare, Commit, Abort}
use Rattle.helios_model.specs.Limits.{last_time, most_open}
use Rattle.helios_model.specs.Transactions.{Transaction, conflict}
use Rattle.helios_model.specs.Log.{is_own, origin, own_time}
use Rattle.helios_model.specs.Spellable.{IsSpellableId, IsSpellableRecord}
use Rattle.helios_model.specs.Exchange.{Intake, abort_one, clashing, is_passed, is_unfinished, take_all, take_end, take_new, take_one, take_prepare, with_taken}
use Rattle.node_limits.specs.Limits.{IsSound}
use Rattle.node_limits.proofs.Lists.{pairs_head, pairs_tail}
use Rattle.node_limits.proofs.OpenOnes.{aborted_sum, foreign_prepare, own_end_fewer, own_in}
use Rattle.node_limits.proofs.Sound.{IsEndable, endable_later, open_endable, sound_own}

abbrev told_bound : (ℕ → ℕ) → (ℕ → ℕ) → ℕ → ℕ
told_bound row cover k = max (row k) (cover k)

-- where two records of another site's are to be taken, the one comes after what the log has
abbrev IsAhead : ℕ → (ℕ → ℕ) → Record → Record → Type 0
IsAhead site row r m = origin m ≢ site → origin r ≡ origin m → row (origin m) < own_time m → own_time r < own_time m

-- a log and a clock while the rest of a message is to be taken; the sum of the clock and of what is open stays within a bound
pub record IsTaking (count site : ℕ) (row cover : ℕ → ℕ) (top : ℕ) (a : Intake) (rest : List Record) : Type 0 where
  pub sound : IsSound count site a.clock (told_bound row cover) a.log
  pub ahead : All (λ r. All (IsAhead site row r) rest) a.log
  pub sum : a.clock + length (own_in site a.log) ≤ top
  pub few : length (own_in site a.log) ≤ most_open

module _ (count site : ℕ) (row cover : ℕ → ℕ) (top : ℕ) (low : top ≤ last_time) where
  -- an own record is ahead of every other site's
  own_ahead : (r : Record) (rest : List Record) → origin r ≡ site → All (IsAhead site row r) rest
  own_ahead r rest own = λ k d inside other same above. absurd (other (sym same ∙ own))

  -- aborts keep the log sound, and count the clock on
  record AreAborted (a b : Intake) (rest : List Record) (ends : ℕ) : Type 0 where
    sound : IsSound count site b.clock (told_bound row cover) b.log
    ahead : All (λ r. All (IsAhead site row r) rest) b.log
    timed : b.clock ≡ a.clock + ends

  aborted_all : (cause : TxnId) (a : Intake) (rest : List Record) (ids : List TxnId) → IsSpellableId count cause
      → IsSound count site a.clock (told_bound row cover) a.log → All (λ r. All (IsAhead site row r) rest) a.log
      → All (IsEndable count site a.clock) ids → a.clock + length ids ≤ last_time → AreAborted a (fold (abort_one cause) a ids) rest (length ids)
  aborted_all cause a rest [] spelled sound ahead may few = record { sound = sound; ahead = ahead; timed = omega arith }
  aborted_all cause a rest (id ∷ ids) spelled sound ahead may few =
      let b : Intake = abort_one cause a id in
      let r : Record = Abort id (a.clock + 1) cause in
      let here : IsEndable count site a.clock id = All-head (IsEndable count site a.clock) id ids may in
      let old : id.time ≤ a.clock = here.old in
      let more : AreAborted b (fold (abort_one cause) b ids) rest (length ids) =
      aborted_all cause b rest ids spelled
      (sound_own count site a.clock (a.clock + 1) (told_bound row cover) a.log r sound here.own refl (omega arith)
      (record { named = here.named; later = omega arith; last = omega arith }, spelled))
      (All-push (λ x. All (IsAhead site row x) rest) a.log r ahead (own_ahead r rest here.own))
      (All-weaker (IsEndable count site a.clock) (IsEndable count site (a.clock + 1)) (λ x. endable_later count site a.clock (a.clock + 1) x (omega arith)) ids
      (All-tail (IsEndable count site a.clock) id ids may)) (omega arith) in
      let timed : (fold (abort_one cause) b ids).clock ≡ a.clock + 1 + length ids = more.timed in
      record { sound = more.sound; ahead = more.ahead; timed = omega arith }

  -- an arriving record that is not passed over
  record IsNew (r : Record) (rest : List Record) : Type 0 where
    other : origin r ≢ site
    above : row (origin r) < own_time r
    spelled : IsSpellableRecord count r
    covered : own_time r ≤ cover (origin r)
    first : All (λ m. origin r ≡ origin m → own_time r < own_time m) rest

  taken_sound : (a : Intake) (r : Record) (rest : List Record) → IsSound count site a.clock (told_bound row cover) a.log → All (λ x. All (IsAhead site row x) (r ∷ rest)) a.log
      → IsNew r rest → IsSound count site a.clock (told_bound row cover) (a.log ++ r ∷ [])
  taken_sound a r rest h ahead new = record {
    records = All-push (IsSpellableRecord count) a.log r h.records new.spelled;
    rise = all_pairs_push (λ x y. origin x ≡ origin y → own_time x < own_time y) a.log r h.rise
        (λ k d inside same. All-head (IsAhead site row (get_or a.log k d)) r rest (ahead k d inside) new.other same new.above);
    own = All-push (λ x. origin x ≡ site → own_time x ≤ a.clock) a.log r h.own (λ its. absurd (new.other its));
    others = All-push (λ x. origin x ≢ site → own_time x ≤ told_bound row cover (origin x)) a.log r h.others
        (λ other. let within : own_time r ≤ cover (origin r) = new.covered in omega arith);
  }

  taken_ahead : (a : Intake) (r : Record) (rest : List Record) → All (λ x. All (IsAhead site row x) (r ∷ rest)) a.log → IsNew r rest
      → All (λ x. All (IsAhead site row x) rest) (a.log ++ r ∷ [])
  taken_ahead a r rest ahead new =
      All-push (λ x. All (IsAhead site row x) rest) a.log r
      (λ k d inside. All-tail (IsAhead site row (get_or a.log k d)) r rest (ahead k d inside))
      (All-weaker (λ m. origin r ≡ origin m → own_time r < own_time m) (IsAhead site row r) (λ m first other same above. first same) rest new.first)

  took_prepare : (a : Intake) (p : Transaction) (rest : List Record) → IsTaking count site row cover top a (Prepare p ∷ rest) → IsNew (Prepare p) rest
      → IsTaking count site row cover top (take_prepare site a p) rest
  took_prepare a p rest h new =
      let b : Intake = with_taken a (Prepare p) in
      let ids : List TxnId = clashing site a.log p in
      let same : own_in site b.log ≡ own_in site a.log = foreign_prepare site a.log p (not_own (cases_Bool (is_own site p))) in
      let sum : length (own_in site (fold (abort_one p.id) b ids).log) + length ids ≤ length (own_in site a.log) = aborted_sum site p.id a b p same in
      let before : a.clock + length (own_in site a.log) ≤ top = h.sum in
      let done : AreAborted b (fold (abort_one p.id) b ids) rest (length ids) =
      aborted_all p.id b rest ids new.spelled.named (taken_sound a (Prepare p) rest h.sound h.ahead new) (taken_ahead a (Prepare p) rest h.ahead new)
      (All-map (IsEndable count site a.clock) (λ q. q.id) (filter (conflict p) (own_in site a.log))
      (All-filter (conflict p) (λ q. IsEndable count site a.clock q.id) (own_in site a.log) (open_endable count site a.clock (told_bound row cover) a.log h.sound))) (omega arith) in
      let timed : (fold (abort_one p.id) b ids).clock ≡ a.clock + length ids = done.timed in
      let few : length (own_in site a.log) ≤ most_open = h.few in
      record { sound = done.sound; ahead = done.ahead; sum = omega arith; few = omega arith }
    where
      not_own : (is_own site p ≡ true) ⊎ (is_own site p ≡ false) → is_own site p ≡ false
      not_own (inl own) = absurd (new.other (eqb-true p.id.site site own))
      not_own (inr other) = other

  -- a record that is passed over
  passed : (a : Intake) (r : Record) (rest : List Record) → IsTaking count site row cover top a (r ∷ rest) → IsTaking count site row cover top a rest
  passed a r rest h = record {
    sound = h.sound;
    ahead = λ k d inside. All-tail (IsAhead site row (get_or a.log k d)) r rest (h.ahead k d inside);
    sum = h.sum;
    few = h.few;
  }

  took : (a : Intake) (r : Record) (rest : List Record) → length (own_in site (a.log ++ r ∷ [])) ≤ length (own_in site a.log)
      → IsTaking count site row cover top a (r ∷ rest) → IsNew r rest → IsTaking count site row cover top (with_taken a r) rest
  took a r rest less h new =
      let before : a.clock + length (own_in site a.log) ≤ top = h.sum in
      record { sound = taken_sound a r rest h.sound h.ahead new; ahead = taken_ahead a r rest h.ahead new; sum = omega arith; few = le_trans less h.few }

  took_end : (a : Intake) (id : TxnId) (r : Record) (rest : List Record) → length (own_in site (a.log ++ r ∷ [])) ≤ length (own_in site a.log)
      → IsTaking count site row cover top a (r ∷ rest) → IsNew r rest → IsTaking count site row cover top (take_end a id r) rest
  took_end a id r rest less h new = by_test (cases_Bool (is_unfinished a.log id))
    where
      by_test : (is_unfinished a.log id ≡ true) ⊎ (is_unfinished a.log id ≡ false) → IsTaking count site row cover top (take_end a id r) rest
      by_test (inl open_one) = rw open_one (took a r rest less h new)
      by_test (inr ended) = rw ended (passed a r rest h)

  took_new : (a : Intake) (r : Record) (rest : List Record) → IsTaking count site row cover top a (r ∷ rest) → IsNew r rest → IsTaking count site row cover top (take_new site a r) rest
  took_new a (Prepare p) rest h new = took_prepare a p rest h new
  took_new a (Commit id time) rest h new = took_end a id (Commit id time) rest (own_end_fewer site a.log (Commit id time) refl) h new
  took_new a (Abort id time cause) rest h new = took_end a id (Abort id time cause) rest (own_end_fewer site a.log (Abort id time cause) refl) h new

  took_one : (a : Intake) (r : Record) (rest : List Record) → IsTaking count site row cover top a (r ∷ rest) → IsSpellableRecord count r → own_time r ≤ cover (origin r)
      → All (λ m. origin r ≡ origin m → own_time r < own_time m) rest → IsTaking count site row cover top (take_one site row a r) rest
  took_one a r rest h spelled covered first = by_test (cases_Bool (is_passed site row r))
    where
      by_test : (is_passed site row r ≡ true) ⊎ (is_passed site row r ≡ false) → IsTaking count site row cover top (take_one site row a r) rest
      by_test (inl over) = rw over (passed a r rest h)
      by_test (inr new) =
          let parts = or_parts (nat_eq (origin r) site) (nat_le (own_time r) (row (origin r))) new in
          rw new (took_new a r rest h (record {
            other = λ same. both_ways (nat_eq (origin r) site) parts.0 (eq-eqb (origin r) site same);
            above = leb-false (own_time r) (row (origin r)) parts.1;
            spelled = spelled;
            covered = covered;
            first = first;
          }))

  pub took_all : (a : Intake) (records : List Record) → IsTaking count site row cover top a records → All (IsSpellableRecord count) records
      → All (λ r. own_time r ≤ cover (origin r)) records → AllPairs (λ x y. origin x ≡ origin y → own_time x < own_time y) records
      → IsTaking count site row cover top (take_all site row a records) []
  took_all a [] h spelled covered rise = h
  took_all a (r ∷ rs) h spelled covered rise =
      took_all (take_one site row a r) rs
      (took_one a r rs h (All-head (IsSpellableRecord count) r rs spelled) (All-head (λ x. own_time x ≤ cover (origin x)) r rs covered)
      (pairs_head (λ x y. origin x ≡ origin y → own_time x < own_time y) r rs rise))
      (All-tail (IsSpellableRecord count) r rs spelled) (All-tail (λ x. own_time x ≤ cover (origin x)) r rs covered)
      (pairs_tail (λ x y. origin x ≡ origin y → own_time x < own_time y) r rs rise)
