-- Records are taken one after the other.
use Rattle.std.proofs.Common.{◌≡◌, ◌∙◌, ap, sym, subst, refl, arith, eq-eqb, ℕ, ◌+◌, ◌^◌, ◌<◌, ◌≤◌, ◌⊎◌, inl, inr, Bool, true, false, nat_eq, nat_le, is_some, drop, List, [], ◌∷◌, ◌++◌, length, get_or, filter, fold, le_trans, All}
use Rattle.std.specs.Prelude.{if◌then◌else◌}
use Rattle.std.proofs.Math.ListN.{drop_of_length-le}
use Rattle.std.proofs.lemmas.Bool.{both_ways, cases_Bool, eqb-true, le-leb, or_left, or_parts, or_right, lt-leb}
use Rattle.std.proofs.lemmas.List.{drop_more, get_or_default, length_push}
use Rattle.std.proofs.lemmas.List.Elements.{All-cons, All-filter, All-head, All-map, All-nil, All-push, All-tail, All-weaker, filter_passes}
use Rattle.std.proofs.lemmas.List.Sums.{fold-append}
use Rattle.helios_model.specs.declared.records.Record.{Record}
use Rattle.helios_model.specs.declared.ids.TxnId.{TxnId}
use Rattle.helios_model.specs.declared.records.Record.TheVariants.{Prepare, Commit, Abort}
use Rattle.helios_model.specs.Transactions.{Transaction, conflict}
use Rattle.helios_model.specs.Log.{is_own, origin, own_time, prepare_of, unfinished}
use Rattle.helios_model.specs.Spellable.{OwnTimesRiseByOrigin}
use Rattle.helios_model.specs.Exchange.{Intake, abort_one, clashing, is_passed, is_unfinished, take_all, take_end, take_new, take_one, take_prepare, with_taken}
use Rattle.time_table.specs.Table.{TableData, time_at}
use Rattle.node_limits.specs.Limits.{IsAfter, MayTake}
use Rattle.site_ledger.specs.Ledger.{AreKnown, Base, BecomesIntake, GoesOn, HasEarlier, HasTakeableOne, IsLedgerOf, IsSameSite, LedgerData, holds_id, intake_in, log_in}
use Rattle.site_ledger.proofs.Ends.{held_waits}
use Rattle.site_ledger.proofs.Growth.{grown_log}
use Rattle.site_ledger.proofs.Kept.{clashing_known, known_grows}

own_site : (site : ℕ) (ps : List Transaction) → All (λ p. p.id.site ≡ site) (filter (is_own site) ps)
own_site site ps =
    All-weaker (λ p. is_own site p ≡ true) (λ p. p.id.site ≡ site) (λ p own. eqb-true p.id.site site own) (filter (is_own site) ps) (filter_passes (is_own site) ps)

clashing_own : (site : ℕ) (log : List Record) (p : Transaction) → All (λ id. id.site ≡ site) (clashing site log p)
clashing_own site log p =
    All-map (λ id. id.site ≡ site) (λ q. q.id) (filter (conflict p) (filter (is_own site) (unfinished log)))
    (All-filter (conflict p) (λ q. q.id.site ≡ site) (filter (is_own site) (unfinished log)) (own_site site (unfinished log)))

pub clashing_below : (site count : ℕ) (log : List Record) (p : Transaction) (ids : List TxnId) → ids ≡ clashing site log p → site < count → All (λ id. id.site < count) ids
clashing_below site count log p ids are here =
    subst (All (λ id. id.site < count)) (sym are)
    (All-weaker (λ id. id.site ≡ site) (λ id. id.site < count) (λ id same. subst (λ s. s < count) (sym same) here) (clashing site log p) (clashing_own site log p))

-- a ledger that went on goes on
pub goes_on : {a b c : LedgerData} {x y z : ℕ} → GoesOn a x b y → GoesOn b y c z → GoesOn a x c z
goes_on first second = record {
  count = second.count ∙ first.count;
  site = second.site ∙ first.site;
  later = le_trans first.later second.later;
  bounded = second.bounded;
}

pub goes_itself : (l : LedgerData) (clock : ℕ) → clock ≤ 2 ^ 62 + length l.added → GoesOn l clock l clock
goes_itself l clock low = record { count = refl; site = refl; later = omega arith; bounded = low }

pub goes_more : (l l' : LedgerData) (clock clock' : ℕ) (r : Record) → IsSameSite l l' → l'.added ≡ l.added ++ r ∷ [] → clock ≤ clock' → clock' ≤ clock + 1 → clock ≤ 2 ^ 62 + length l.added
    → GoesOn l clock l' clock'
goes_more l l' clock clock' r same more later near low =
    let long : length l'.added ≡ length l.added + 1 = ap (λ rs. length rs) more ∙ length_push l.added r in
    record { count = same.count; site = same.site; later = later; bounded = omega arith }

one_more : (b : Base) (l l' : LedgerData) (clock : ℕ) (r : Record) → l'.added ≡ l.added ++ r ∷ [] → intake_in b l' clock ≡ record { log = log_in b l ++ r ∷ []; clock = clock }
one_more b l l' clock r more = let log : log_in b l' ≡ log_in b l ++ r ∷ [] = grown_log b l.added l'.added r more in λ i. record { log = log i; clock = clock }

-- one own transaction is aborted
pub abort_becomes : (b : Base) (l l' : LedgerData) (clock clock' time : ℕ) (cause id : TxnId) → IsLedgerOf b l' → l'.added ≡ l.added ++ Abort id time cause ∷ [] → time ≡ clock' → clock' ≡ clock + 1
    → BecomesIntake b l clock l' clock' (λ a. abort_one cause a id)
abort_becomes b l l' clock clock' time cause id stands more at next = record {
  stands = stands;
  intake = one_more b l l' clock' (Abort id time cause) more ∙ (λ i. record { log = log_in b l ++ Abort id ((at ∙ next) i) cause ∷ []; clock = next i });
}

pub one_known : (log : List Record) (id : TxnId) → is_some (prepare_of log id) ≡ true → AreKnown log (id ∷ [])
one_known log id some = All-cons (λ i. is_some (prepare_of log i) ≡ true) id [] some (All-nil (λ i. is_some (prepare_of log i) ≡ true))

-- ids that a log knows are known to the log that went on from it
known_on : (b : Base) (l l' : LedgerData) (r : Record) (ids : List TxnId) → l'.added ≡ l.added ++ r ∷ [] → AreKnown (log_in b l) ids → AreKnown (log_in b l') ids
known_on b l l' r ids more h = subst (λ log. AreKnown log ids) (sym (grown_log b l.added l'.added r more)) (known_grows (log_in b l) (r ∷ []) ids h)

-- those that conflict with an arriving transaction are known behind it
pub clashing_on : (b : Base) (l l' : LedgerData) (p : Transaction) (ids : List TxnId) → ids ≡ clashing l.site (log_in b l) p → l'.added ≡ l.added ++ Prepare p ∷ [] → AreKnown (log_in b l') ids
clashing_on b l l' p ids are more = known_on b l l' (Prepare p) ids more (subst (AreKnown (log_in b l)) (sym are) (clashing_known l.site (log_in b l) p))

-- the first ones of these ids are aborted
pub record AbortedFirst (b : Base) (cause : TxnId) (ids : List TxnId) (number : ℕ) (before : LedgerData) (clock : ℕ) (after : LedgerData) (clock' : ℕ) : Type 0 where
  pub stands : IsLedgerOf b after
  pub known : AreKnown (log_in b after) ids
  pub intake : fold (abort_one cause) (intake_in b after clock') (drop number ids) ≡ fold (abort_one cause) (intake_in b before clock) ids

pub none_aborted : (b : Base) (cause : TxnId) (ids : List TxnId) (l : LedgerData) (clock : ℕ) → IsLedgerOf b l → AreKnown (log_in b l) ids → AbortedFirst b cause ids 0 l clock l clock
none_aborted b cause ids l clock h known = record { stands = h; known = known; intake = refl }

-- ids that a log knows are known once one was aborted
pub known_after : (b : Base) (cause id : TxnId) (ids : List TxnId) (l l' : LedgerData) (clock clock' : ℕ) → BecomesIntake b l clock l' clock' (λ a. abort_one cause a id)
    → AreKnown (log_in b l) ids → AreKnown (log_in b l') ids
known_after b cause id ids l l' clock clock' step known =
    subst (λ log. AreKnown log ids) (sym (ap (λ a. a.log) step.intake)) (known_grows (log_in b l) (Abort id (clock + 1) cause ∷ []) ids known)

pub id_known : (log : List Record) (ids : List TxnId) (i : ℕ) (id d : TxnId) → id ≡ get_or ids i d → i < length ids → AreKnown log ids → AreKnown log (id ∷ [])
id_known log ids i id d is low known = one_known log id (subst (λ x. is_some (prepare_of log x) ≡ true) (sym is) (known i d low))

pub next_aborted : (b : Base) (cause id d : TxnId) (ids : List TxnId) (i : ℕ) (l m l' : LedgerData) (clock clockm clock' : ℕ) → i < length ids → id ≡ get_or ids i d
    → AbortedFirst b cause ids i l clock m clockm → (AreKnown (log_in b m) (id ∷ []) → BecomesIntake b m clockm l' clock' (λ a. abort_one cause a id))
    → AbortedFirst b cause ids (i + 1) l clock l' clock'
next_aborted b cause id d ids i l m l' clock clockm clock' low is so_far next =
    let step : BecomesIntake b m clockm l' clock' (λ a. abort_one cause a id) = next (id_known (log_in b m) ids i id d is low so_far.known) in
    record {
      stands = step.stands;
      known = known_after b cause id ids m l' clockm clock' step so_far.known;
      intake =
          ap (λ x. fold (abort_one cause) x (drop (i + 1) ids)) step.intake
          ∙ ap (λ y. fold (abort_one cause) (abort_one cause (intake_in b m clockm) y) (drop (i + 1) ids)) is
          ∙ sym (ap (fold (abort_one cause) (intake_in b m clockm)) (drop_more ids i d low))
          ∙ so_far.intake;
    }

pub prepare_becomes : (b : Base) (l m l' : LedgerData) (clock clock' : ℕ) (p : Transaction) (cause : TxnId) (ids : List TxnId) (i : ℕ) → cause ≡ p.id → ids ≡ clashing l.site (log_in b l) p
    → m.added ≡ l.added ++ Prepare p ∷ [] → length ids ≤ i → AbortedFirst b cause ids i m clock l' clock' → BecomesIntake b l clock l' clock' (λ a. take_prepare l.site a p)
prepare_becomes b l m l' clock clock' p cause ids i named are more all done = record {
  stands = done.stands;
  intake =
      sym (ap (fold (abort_one cause) (intake_in b l' clock')) (drop_of_length-le ids all))
      ∙ done.intake
      ∙ (λ t. fold (abort_one (named t)) (one_more b l m clock (Prepare p) more t) (are t));
}

-- an arriving Commit or Abort of an unfinished transaction is taken, another one is not
pub end_becomes : (b : Base) (l l' : LedgerData) (clock : ℕ) (id : TxnId) (r : Record) (held : Bool) → IsLedgerOf b l → IsLedgerOf b l' → holds_id l.pools id ≡ held
    → l'.added ≡ (if held then l.added ++ r ∷ [] else l.added) → BecomesIntake b l clock l' clock (λ a. take_end a id r)
end_becomes b l l' clock id r true h stands is more =
    let waits : is_unfinished (log_in b l) id ≡ true = sym (held_waits b l id h) ∙ is in
    record { stands = stands; intake = rw waits (one_more b l l' clock r more) }
end_becomes b l l' clock id r false h stands is more =
    let ended : is_unfinished (log_in b l) id ≡ false = sym (held_waits b l id h) ∙ is in
    record { stands = stands; intake = rw ended (λ i. record { log = b.log ++ more i; clock = clock }) }

pub end_goes : (l l' : LedgerData) (clock : ℕ) (r : Record) (held : Bool) → IsSameSite l l' → l'.added ≡ (if held then l.added ++ r ∷ [] else l.added) → clock ≤ 2 ^ 62 + length l.added → GoesOn l clock l' clock
end_goes l l' clock r true same more low = goes_more l l' clock clock r same more (omega arith) (omega arith) low
end_goes l l' clock r false same more low =
    let long : length l'.added ≡ length l.added = ap (λ rs. length rs) more in
    record { count = same.count; site = same.site; later = omega arith; bounded = omega arith }

-- a record that is passed over leaves the ledger
pub passed_becomes : (b : Base) (l : LedgerData) (clock site : ℕ) (row : ℕ → ℕ) (r : Record) → IsLedgerOf b l → is_passed site row r ≡ true → BecomesIntake b l clock l clock (λ a. take_one site row a r)
passed_becomes b l clock site row r h passed = record { stands = h; intake = rw passed refl }

pub passed_own : (site : ℕ) (row : ℕ → ℕ) (r : Record) → nat_eq (origin r) site ≡ true → is_passed site row r ≡ true
passed_own site row r own = or_left (nat_eq (origin r) site) (nat_le (own_time r) (row (origin r))) own

pub passed_known : (site : ℕ) (row : ℕ → ℕ) (r : Record) → own_time r ≤ row (origin r) → is_passed site row r ≡ true
passed_known site row r low = or_right (nat_eq (origin r) site) (nat_le (own_time r) (row (origin r))) (le-leb (own_time r) (row (origin r)) low)

pub not_passed : (site : ℕ) (row : ℕ → ℕ) (r : Record) → nat_eq (origin r) site ≡ false → row (origin r) < own_time r → is_passed site row r ≡ false
not_passed site row r other above = rw (other, lt-leb (own_time r) (row (origin r)) above) refl

pub new_becomes : (b : Base) (l l' : LedgerData) (clock clock' site : ℕ) (row : ℕ → ℕ) (r : Record) → is_passed site row r ≡ false
    → BecomesIntake b l clock l' clock' (λ a. take_new site a r) → BecomesIntake b l clock l' clock' (λ a. take_one site row a r)
new_becomes b l l' clock clock' site row r new step = record { stands = step.stands; intake = rw new step.intake }

-- what a log took, and what it made itself, comes before a later record of another site
aborts_after : (site : ℕ) (cause : TxnId) (a : Intake) (ids : List TxnId) (m : Record) → All (λ id. id.site ≡ site) ids → (origin m ≡ site → ⊥) → IsAfter a.log m
    → IsAfter (fold (abort_one cause) a ids).log m
aborts_after site cause a [] m own other h = h
aborts_after site cause a (id ∷ ids) m own other h =
    aborts_after site cause (abort_one cause a id) ids m (All-tail (λ x. x.site ≡ site) id ids own) other
    (All-push (λ x. origin x ≡ origin m → own_time x < own_time m) a.log (Abort id (a.clock + 1) cause) h
    (λ same. absurd (other (sym same ∙ All-head (λ x. x.site ≡ site) id ids own))))

module _ (site : ℕ) (row : ℕ → ℕ) (a : Intake) (m : Record) (new : is_passed site row m ≡ false) (h : IsAfter a.log m) where
  other_site : origin m ≡ site → ⊥
  other_site same = both_ways (nat_eq (origin m) site) (or_parts (nat_eq (origin m) site) (nat_le (own_time m) (row (origin m))) new).0 (eq-eqb (origin m) site same)

  one_after : (r : Record) → (origin r ≡ origin m → own_time r < own_time m) → IsAfter (a.log ++ r ∷ []) m
  one_after r first = All-push (λ x. origin x ≡ origin m → own_time x < own_time m) a.log r h first

  end_after : (id : TxnId) (r : Record) → (origin r ≡ origin m → own_time r < own_time m) → IsAfter (take_end a id r).log m
  end_after id r first = by_test (cases_Bool (is_unfinished a.log id))
    where
      by_test : (is_unfinished a.log id ≡ true) ⊎ (is_unfinished a.log id ≡ false) → IsAfter (take_end a id r).log m
      by_test (inl open_one) = rw open_one (one_after r first)
      by_test (inr ended) = rw ended h

  new_after : (r : Record) → (origin r ≡ origin m → own_time r < own_time m) → IsAfter (take_new site a r).log m
  new_after (Prepare p) first =
      aborts_after site p.id (with_taken a (Prepare p)) (clashing site a.log p) m (clashing_own site a.log p) other_site (one_after (Prepare p) first)
  new_after (Commit id time) first = end_after id (Commit id time) first
  new_after (Abort id time cause) first = end_after id (Abort id time cause) first

  after_taken : (r : Record) → (origin r ≡ origin m → own_time r < own_time m) → IsAfter (take_one site row a r).log m
  after_taken r first = by_test (cases_Bool (is_passed site row r))
    where
      by_test : (is_passed site row r ≡ true) ⊎ (is_passed site row r ≡ false) → IsAfter (take_one site row a r).log m
      by_test (inl over) = rw over h
      by_test (inr here) = rw here (new_after r first)

-- the rest of a message may be taken once its next record is
may_take_more : (site : ℕ) (row : ℕ → ℕ) (a b : Intake) (r : Record) (records : List Record) (i : ℕ) → b ≡ take_one site row a r → r ≡ get_or records i r → i < length records
    → OwnTimesRiseByOrigin records
    → ((k : ℕ) (d : Record) → i ≤ k → k < length records → MayTake site row a.log (get_or records k d))
    → (k : ℕ) (d : Record) → i + 1 ≤ k → k < length records → MayTake site row b.log (get_or records k d)
may_take_more site row a b r records i took is inside rise may k d above below new =
    let m : Record = get_or records k d in
    let first : origin r ≡ origin m → own_time r < own_time m =
    λ same. subst (λ x. own_time x < own_time m) (get_or_default records i d r inside ∙ sym is)
    (rise i k d (omega arith) below (ap origin (get_or_default records i d r inside ∙ sym is) ∙ same)) in
    subst (λ x. IsAfter x.log m) (sym took) (after_taken site row a m new (may k d (omega arith) below new) r first)

-- a ledger took the first records of a message, and may take the rest
pub record TookFirst (site : ℕ) (row : ℕ → ℕ) (b : Base) (before : LedgerData) (clock : ℕ) (after : LedgerData) (clock' : ℕ) (whole first : List Record) : Type 0 where
  pub becomes : BecomesIntake b before clock after clock' (λ a. take_all site row a first)
  pub rest : (k : ℕ) (d : Record) → length first ≤ k → k < length whole → MayTake site row (log_in b after) (get_or whole k d)

pub took_none : (site : ℕ) (row : ℕ → ℕ) (b : Base) (l : LedgerData) (clock : ℕ) (whole : List Record) → IsLedgerOf b l → All (MayTake site row (log_in b l)) whole
    → TookFirst site row b l clock l clock whole []
took_none site row b l clock whole h may = record { becomes = record { stands = h; intake = refl }; rest = λ k d above below. may k d below }

pub took_next : (t : TableData) (site : ℕ) (b : Base) (l m l' : LedgerData) (clock clockm clock' : ℕ) (whole first : List Record) (r : Record) → m.site ≡ site
    → TookFirst site (time_at t site) b l clock m clockm whole first → r ≡ get_or whole (length first) r → length first < length whole → OwnTimesRiseByOrigin whole
    → (IsLedgerOf b m → MayTake m.site (time_at t m.site) (log_in b m) r → BecomesIntake b m clockm l' clock' (λ a. take_one m.site (time_at t m.site) a r))
    → TookFirst site (time_at t site) b l clock l' clock' whole (first ++ r ∷ [])
took_next t site b l m l' clock clockm clock' whole first r same so_far is inside rise next =
    let may : MayTake site (time_at t site) (log_in b m) r =
    subst (MayTake site (time_at t site) (log_in b m)) (sym is) (so_far.rest (length first) r (omega arith) inside) in
    let step : BecomesIntake b m clockm l' clock' (λ a. take_one site (time_at t site) a r) =
    subst (λ s. MayTake s (time_at t s) (log_in b m) r → BecomesIntake b m clockm l' clock' (λ a. take_one s (time_at t s) a r)) same (next so_far.becomes.stands) may in
    record {
      becomes = record {
        stands = step.stands;
        intake = step.intake ∙ ap (λ x. take_one site (time_at t site) x r) so_far.becomes.intake ∙ sym (fold-append (take_one site (time_at t site)) (intake_in b l clock) first (r ∷ []));
      };
      rest = λ k d above below.
          may_take_more site (time_at t site) (intake_in b m clockm) (intake_in b l' clock') r whole (length first) step.intake is inside rise so_far.rest k d
          (subst (λ n. n ≤ k) (length_push first r) above) below;
    }

pub takeable_next : (t : TableData) (site : ℕ) (b : Base) (l m : LedgerData) (clock clockm : ℕ) (whole first : List Record) (r : Record) → m.site ≡ site
    → TookFirst site (time_at t site) b l clock m clockm whole first → r ≡ get_or whole (length first) r → length first < length whole → HasTakeableOne m.site (time_at t m.site) m r
takeable_next t site b l m clock clockm whole first r same so_far is inside = record {
  base = b;
  is = so_far.becomes.stands;
  may = subst (λ s. MayTake s (time_at t s) (log_in b m) r) (sym same)
      (subst (MayTake site (time_at t site) (log_in b m)) (sym is) (so_far.rest (length first) r (omega arith) inside));
}

pub earlier_of : (site : ℕ) (row : ℕ → ℕ) (l : LedgerData) (r : Record) → is_passed site row r ≡ false → HasTakeableOne site row l r → HasEarlier l r
earlier_of site row l r new h = record { base = h.base; is = h.is; after = h.may new }
