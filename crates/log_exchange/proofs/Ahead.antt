-- The rounds of a message: the least head is the next record that is due.
use Rattle.std.proofs.Common.{◌≡◌, ◌∙◌, ◌⊎◌, inl, inr, ℕ, zero, suc, ◌+◌, ◌<◌, ◌≤◌, List, [], ◌∷◌, ◌++◌, Bool, true, false, cond, Option, Some, None, filter, drop, length, nat_le, nat_lt, refl, sym, ap, subst, arith, get_or}
use Rattle.std.specs.List.{AllByRecursion}
use Rattle.std.specs.Option.{option_map}
use Rattle.std.specs.Ordering.{nat_cmp}
use Rattle.std.specs.Map.{lookup}
use Rattle.std.specs.BTreeMap.{is_at}
use Rattle.std.proofs.lemmas.Bool.{cases_eq, eq-eqb, eqb-true, ne_eqb}
use Rattle.std.proofs.lemmas.Bool.Decides.{nat_tests}
use Rattle.helios_model.specs.declared.records.Record.{Record}
use Rattle.helios_model.specs.Limits.{most_records}
use Rattle.helios_model.specs.Log.{origin, own_time}
use Rattle.helios_model.specs.Exchange.{is_due}
use Rattle.log_exchange.specs.declared.run.Stamp.{Stamp}
use Rattle.log_exchange.specs.declared.selection.Head.{Head}
use Rattle.log_exchange.specs.Heads.{IsAhead, IsLeast, IsLine, IsNextHead, IsStarted, arrival_at, earlier_of, head_of}
use Rattle.log_exchange.specs.Runs.{ArrivalsRise, Backlogged, IsNextDue, IsOfSite, due_stamps, first_stamp, is_from, record_under, run_of, stamp_of}
use Rattle.log_exchange.proofs.Backlogs.{above_run}
use Rattle.log_exchange.proofs.Lines.{all_filter, all_pass, pairs_filter}

pub least_none : (b : Backlogged) (heads : List ℕ) → IsLeast b heads 0 None
least_none b heads = record {
  none = λ is k low. absurd (omega arith);
  some = λ h is. absurd (cc);
  least = λ h is k a low. absurd (omega arith);
}

-- one origin more
pub least_more : (b : Backlogged) (heads : List ℕ) (k : ℕ) (best after : Option Head) (next : Option Stamp) → IsLeast b heads k best → next ≡ head_of b heads k
    → after ≡ earlier_of best k next → IsLeast b heads (k + 1) after
least_more b heads k best after next least is made = subst (IsLeast b heads (k + 1)) (sym made) (by_case best next least (ap (option_map (λ s. s.arrival)) is))
  where
    split : (j : ℕ) → j < k + 1 → (j ≡ k) ⊎ (j < k)
    split j low = elim (cases_eq j k) [ inl same ↦ inl same | inr other ↦ inr (omega arith) ]

    by_case : (best : Option Head) (next : Option Stamp) → IsLeast b heads k best → option_map (λ s. s.arrival) next ≡ arrival_at b heads k → IsLeast b heads (k + 1) (earlier_of best k next)
    by_case best None least is = record {
      none = λ none j low. elim (split j low) [
        | inl same ↦ ap (arrival_at b heads) same ∙ sym is
        | inr lower ↦ least.none none j lower
      ];
      some = λ h best_is. (let parts = least.some h best_is in (let low = parts.0 in omega arith, parts.1));
      least = λ h best_is j a low there. elim (split j low) [
        | inl same ↦ absurd (let e = is ∙ ap (arrival_at b heads) (sym same) ∙ there in cc)
        | inr lower ↦ least.least h best_is j a lower there
      ];
    }
    by_case None (Some s) least is = record {
      none = λ none. absurd (cc);
      some = λ h best_is. (let here : record { site = k; arrival = s.arrival } ≡ h = cc in
          subst (λ x. (x.site < k + 1) × (arrival_at b heads x.site ≡ Some x.arrival)) here (omega arith, sym is));
      least = λ h best_is j a low there. (let here : record { site = k; arrival = s.arrival } ≡ h = cc in
          subst (λ x. x.arrival ≤ a) here (elim (split j low) [
            | inl same ↦ (let e : Some s.arrival ≡ Some a = is ∙ ap (arrival_at b heads) (sym same) ∙ there in let f : s.arrival ≡ a = cc in omega arith)
            | inr lower ↦ absurd (let e = sym (least.none refl j lower) ∙ there in cc)
          ]));
    }
    by_case (Some h) (Some s) least is = by_order h s least is _ refl
      where
        by_order : (h : Head) (s : Stamp) → IsLeast b heads k (Some h) → Some s.arrival ≡ arrival_at b heads k → (o : Bool) → nat_le h.arrival s.arrival ≡ o
            → IsLeast b heads (k + 1) (cond (nat_le h.arrival s.arrival) (Some h) (Some (record { site = k; arrival = s.arrival })))
        by_order h s least is true order = rw order (record {
          none = λ none. absurd (cc);
          some = λ x best_is. (let parts = least.some x best_is in (let low = parts.0 in omega arith, parts.1));
          least = λ x best_is j a low there. elim (split j low) [
            | inl same ↦ (let e : Some s.arrival ≡ Some a = is ∙ ap (arrival_at b heads) (sym same) ∙ there in let f : s.arrival ≡ a = cc in
                let g : h ≡ x = cc in let lower : h.arrival ≤ s.arrival = grind (arith, nat_tests) in
                subst (λ y. y.arrival ≤ a) g (omega arith))
            | inr lower ↦ least.least x best_is j a lower there
          ];
        })
        by_order h s least is false order = rw order (record {
          none = λ none. absurd (cc);
          some = λ x best_is. (let here : record { site = k; arrival = s.arrival } ≡ x = cc in
              subst (λ y. (y.site < k + 1) × (arrival_at b heads y.site ≡ Some y.arrival)) here (omega arith, sym is));
          least = λ x best_is j a low there. (let here : record { site = k; arrival = s.arrival } ≡ x = cc in
              let above : s.arrival < h.arrival = grind (arith, nat_tests) in
              subst (λ y. y.arrival ≤ a) here (elim (split j low) [
                | inl same ↦ (let e : Some s.arrival ≡ Some a = is ∙ ap (arrival_at b heads) (sym same) ∙ there in let f : s.arrival ≡ a = cc in omega arith)
                | inr lower ↦ (let l = least.least h refl j a lower there in omega arith)
              ]));
        })

pub next_room : (b : Backlogged) (heads : List ℕ) (taken : ℕ) (best : Option Head) → taken < most_records → IsLeast b heads b.count best → IsNextHead b heads taken best
next_room b heads taken best low least = record {
  none = λ is _. subst (IsLeast b heads b.count) is least;
  some = λ h is. (low, subst (IsLeast b heads b.count) is least);
}

pub next_full : (b : Backlogged) (heads : List ℕ) (taken : ℕ) → most_records ≤ taken → IsNextHead b heads taken None
next_full b heads taken full = record { none = λ is low. absurd (omega arith); some = λ h is. absurd (cc) }

-- the heads at which a message begins
pub started_none : (b : Backlogged) (row : ℕ → ℕ) → IsStarted b row [] 0
started_none b row = record { sized = refl; next = λ k low. absurd (omega arith) }

get_front : (xs : List ℕ) (x k : ℕ) → k < length xs → get_or (xs ++ x ∷ []) k 0 ≡ get_or xs k 0
get_front [] x k low = absurd (omega arith)
get_front (y ∷ xs) x zero low = refl
get_front (y ∷ xs) x (suc k) low = get_front xs x k (omega arith)

get_last : (xs : List ℕ) (x : ℕ) → get_or (xs ++ x ∷ []) (length xs) 0 ≡ x
get_last [] x = refl
get_last (y ∷ xs) x = get_last xs x

length_more : (xs : List ℕ) (x : ℕ) → length (xs ++ x ∷ []) ≡ length xs + 1
length_more [] x = refl
length_more (y ∷ xs) x = let rest = length_more xs x in omega arith

pub started_more : (b : Backlogged) (row : ℕ → ℕ) (heads new : List ℕ) (k place known : ℕ) → IsStarted b row heads k → known ≡ row k → IsNextDue known (run_of k b.entries) 0 place
    → new ≡ heads ++ place ∷ [] → IsStarted b row new (k + 1)
started_more b row heads new k place known started is next pushed =
    subst (λ xs. IsStarted b row xs (k + 1)) (sym pushed) (record {
      sized = length_more heads place ∙ ap (λ n. n + 1) started.sized;
      next = λ j low. elim (cases_eq j k) [
        | inl same ↦
            (let here : get_or (heads ++ place ∷ []) j 0 ≡ place = ap (λ i. get_or (heads ++ place ∷ []) i 0) (same ∙ sym started.sized) ∙ get_last heads place in
            subst (λ p. IsNextDue (row j) (run_of j b.entries) 0 p) (sym here)
            (subst (λ i. IsNextDue (row i) (run_of i b.entries) 0 place) (sym same) (subst (λ t. IsNextDue t (run_of k b.entries) 0 place) is next)))
        | inr other ↦
            (let lower : j < k = omega arith in
            let inside : j < length heads = (let sized = started.sized in omega arith) in
            subst (λ p. IsNextDue (row j) (run_of j b.entries) 0 p) (sym (get_front heads place j inside)) (started.next j lower))
      ];
    })

-- the due stamps of a run are the run of what is due
due_run : (row : ℕ → ℕ) (k : ℕ) (es : List (ℕ × Record)) → due_stamps (row k) (run_of k es) ≡ run_of k (filter (λ e. is_due row e.1) es)
due_run row k [] = refl
due_run row k (e ∷ es) = by_case e es _ _ refl refl (due_run row k es)
  where
    by_case : (e : ℕ × Record) (es : List (ℕ × Record)) (a d : Bool) → is_from k e ≡ a → is_due row e.1 ≡ d
        → due_stamps (row k) (run_of k es) ≡ run_of k (filter (λ e. is_due row e.1) es)
        → due_stamps (row k) (run_of k (e ∷ es)) ≡ run_of k (filter (λ e. is_due row e.1) (e ∷ es))
    by_case e es true true from is rest =
        let here : nat_lt (row k) (own_time e.1) ≡ true = subst (λ j. nat_lt (row j) (own_time e.1) ≡ true) (eqb-true (origin e.1) k from) is in
        rw from (rw (here, is) (rw from (ap (λ xs. stamp_of e ∷ xs) rest)))
    by_case e es true false from is rest =
        let here : nat_lt (row k) (own_time e.1) ≡ false = subst (λ j. nat_lt (row j) (own_time e.1) ≡ false) (eqb-true (origin e.1) k from) is in
        rw from (rw (here, is) rest)
    by_case e es false true from is rest = rw (from, is) (rw from rest)
    by_case e es false false from is rest = rw (from, is) rest

at_itself : (a : ℕ) → is_at (nat_cmp a) a ≡ true
at_itself a = grind (arith, nat_tests)

at_lower : (a k : ℕ) → k < a → is_at (nat_cmp a) k ≡ false
at_lower a k lower = grind (arith, nat_tests)

-- each record is found under its number
all_found : (es : List (ℕ × Record)) → ArrivalsRise es → AllByRecursion (λ e. record_under es e.0 ≡ Some e.1) es
all_found [] line = tt
all_found (e ∷ es) line =
    (ap (λ x. cond x (Some e.1) (lookup (is_at (nat_cmp e.0)) es)) (at_itself e.0), later es line.0 (all_found es line.1))
  where
    later : (fs : List (ℕ × Record)) → AllByRecursion (λ f. e.0 < f.0) fs → AllByRecursion (λ f. record_under es f.0 ≡ Some f.1) fs
        → AllByRecursion (λ f. record_under (e ∷ es) f.0 ≡ Some f.1) fs
    later [] above found = tt
    later (f ∷ fs) above found =
        (ap (λ x. cond x (Some e.1) (lookup (is_at (nat_cmp f.0)) es)) (at_lower f.0 e.0 above.0) ∙ found.0, later fs above.1 found.1)

pub ahead_first : (b : Backlogged) (row : ℕ → ℕ) (heads : List ℕ) → IsLine b → IsStarted b row heads b.count → IsAhead b row heads (filter (λ e. is_due row e.1) b.entries)
ahead_first b row heads kept started = record {
  sized = started.sized;
  left = λ k low. (started.next k low).left ∙ due_run row k b.entries;
  head = λ k low. (started.next k low).head ∙ ap first_stamp ((started.next k low).left ∙ due_run row k b.entries);
  line = pairs_filter (λ e f. e.0 < f.0) (λ e. is_due row e.1) b.entries kept.line;
  sites = all_filter (IsOfSite b.count) (λ e. is_due row e.1) b.entries kept.sites;
  due = all_pass (λ e. is_due row e.1) b.entries;
  found = all_filter (λ e. record_under b.entries e.0 ≡ Some e.1) (λ e. is_due row e.1) b.entries (all_found b.entries kept.line);
}

-- the run of its own origin begins with a record
pub own_head : (e : ℕ × Record) (es : List (ℕ × Record)) → run_of (origin e.1) (e ∷ es) ≡ stamp_of e ∷ run_of (origin e.1) es
own_head e es = let own : is_from (origin e.1) e ≡ true = eq-eqb (origin e.1) (origin e.1) refl in rw own refl

pub other_head : (k : ℕ) (e : ℕ × Record) (es : List (ℕ × Record)) → (origin e.1 ≡ k → ⊥) → run_of k (e ∷ es) ≡ run_of k es
other_head k e es other = let foreign : is_from k e ≡ false = ne_eqb (origin e.1) k other in rw foreign refl

first_above : (n : ℕ) (ss : List Stamp) (a : ℕ) → AllByRecursion (λ s. n < s.arrival) ss → option_map (λ s. s.arrival) (first_stamp ss) ≡ Some a → n < a
first_above n [] a all is = absurd (cc)
first_above n (s ∷ ss) a all is = let same : s.arrival ≡ a = cc in let above = all.0 in omega arith

-- where no origin has a head nothing is left
pub none_left : (b : Backlogged) (row : ℕ → ℕ) (heads : List ℕ) (rest : List (ℕ × Record)) → IsAhead b row heads rest → IsLeast b heads b.count None → rest ≡ []
none_left b row heads [] ahead least = refl
none_left b row heads (e ∷ rest) ahead least =
    let low : origin e.1 < b.count = ahead.sites.0.0 in
    let there : arrival_at b heads (origin e.1) ≡ Some e.0 =
    ap (option_map (λ s. s.arrival)) (ahead.head (origin e.1) low) ∙ ap (λ ss. option_map (λ s. s.arrival) (first_stamp ss)) (own_head e rest) in
    absurd (let no = sym (least.none refl (origin e.1) low) ∙ there in cc)

-- the least head is that of the next record
pub least_is : (b : Backlogged) (row : ℕ → ℕ) (heads : List ℕ) (rest : List (ℕ × Record)) (h : Head) → IsAhead b row heads rest → IsLeast b heads b.count (Some h)
    → (e : ℕ × Record) × ((rest ≡ e ∷ drop 1 rest) × (h.site ≡ origin e.1) × (h.arrival ≡ e.0))
least_is b row heads [] h ahead least =
    let parts = least.some h refl in
    absurd (let no = sym parts.1 ∙ ap (option_map (λ s. s.arrival)) (ahead.head h.site parts.0) in cc)
least_is b row heads (e ∷ rest) h ahead least =
    let parts = least.some h refl in
    let low : origin e.1 < b.count = ahead.sites.0.0 in
    let there : arrival_at b heads (origin e.1) ≡ Some e.0 =
    ap (option_map (λ s. s.arrival)) (ahead.head (origin e.1) low) ∙ ap (λ ss. option_map (λ s. s.arrival) (first_stamp ss)) (own_head e rest) in
    let up_to : h.arrival ≤ e.0 = least.least h refl (origin e.1) e.0 low there in (
      e,
      let both : (h.site ≡ origin e.1) × (h.arrival ≡ e.0) = elim (cases_eq (origin e.1) h.site) [
        | inl same ↦
            (let again : Some e.0 ≡ Some h.arrival = sym there ∙ ap (arrival_at b heads) same ∙ parts.1 in
            (sym same, let is : e.0 ≡ h.arrival = cc in sym is))
        | inr other ↦
            (let head : option_map (λ s. s.arrival) (first_stamp (run_of h.site rest)) ≡ Some h.arrival =
            ap (λ ss. option_map (λ s. s.arrival) (first_stamp ss)) (sym (other_head h.site e rest other)) ∙
            ap (option_map (λ s. s.arrival)) (sym (ahead.head h.site parts.0)) ∙ parts.1 in
            absurd (let above = first_above e.0 (run_of h.site rest) h.arrival (above_run e.0 h.site rest ahead.line.0) head in omega arith))
      ] in (refl, both.0, both.1),
    )
