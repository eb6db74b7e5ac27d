-- What is taken out from the front of a run, until all that is left of an origin is needed.
use Rattle.std.proofs.Common.{◌≡◌, ◌∙◌, inl, inr, ℕ, ◌+◌, ◌<◌, ◌≤◌, List, [], ◌∷◌, Bool, true, false, not, ◌&&◌, Some, None, filter, length, drop, nat_le, refl, sym, ap, subst, arith, get_or, min}
use Rattle.std.specs.List.{AllByRecursion, list_all, range_with_len}
use Rattle.std.specs.Ordering.{nat_cmp}
use Rattle.std.specs.Map.{remove_entry, values_of}
use Rattle.std.specs.BTreeMap.{is_at}
use Rattle.std.proofs.lemmas.Bool.{cases_eq, eq-eqb, eqb-true}
use Rattle.std.proofs.lemmas.Bool.Decides.{nat_tests}
use Rattle.helios_model.specs.declared.records.Record.{Record}
use Rattle.helios_model.specs.Grid.{at}
use Rattle.helios_model.specs.Limits.{most_sites}
use Rattle.helios_model.specs.Log.{origin, own_time}
use Rattle.log_exchange.specs.declared.run.Stamp.{Stamp}
use Rattle.log_exchange.specs.Kept.{is_needed, needed}
use Rattle.log_exchange.specs.Runs.{Backlogged, IsBacklog, IsOfSite, TimesRise, first_stamp, is_first_known, is_from, is_known, is_left, run_of, stamp_of, with_all_left, with_left, without_first}
use Rattle.log_exchange.proofs.Needed.{not_all_know}
use Rattle.log_exchange.proofs.Lines.{all_filter, all_pass, all_weaker, filter_all, filter_within, pairs_rest}
use Rattle.log_exchange.proofs.Backlogs.{first_removed, none_without, run_read, run_without_own}

pub first_is : (ss : List Stamp) (s : Stamp) → first_stamp ss ≡ Some s → ss ≡ s ∷ drop 1 ss
first_is [] s first = absurd (cc)
first_is (x ∷ ss) s first = let same : x ≡ s = cc in ap (λ y. y ∷ ss) same

none_is : (ss : List Stamp) → first_stamp ss ≡ None → ss ≡ []
none_is [] first = refl
none_is (x ∷ ss) first = absurd (cc)

pub first_gone : (count : ℕ) (es new : List (ℕ × Record)) (runs : List (List Stamp)) (next at k : ℕ) (run : List Stamp) (s : Stamp) → IsBacklog count es runs next
    → at ≡ k → k < count → run ≡ get_or runs at run → first_stamp run ≡ Some s → new ≡ remove_entry (is_at (nat_cmp s.arrival)) es → new ≡ without_first k es
first_gone count es new runs next at k run s state is low read first removed =
    removed ∙ first_removed k s (drop 1 run) es state.line (sym (run_read count es es runs next at k run refl state is low read) ∙ first_is run s first)

pub none_gone : (count : ℕ) (es view : List (ℕ × Record)) (runs : List (List Stamp)) (next at k : ℕ) (run : List Stamp) → es ≡ view → IsBacklog count es runs next
    → at ≡ k → k < count → run ≡ get_or runs at run → first_stamp run ≡ None → es ≡ without_first k view
none_gone count es view runs next at k run shown state is low read first =
    shown ∙ sym (none_without k view (sym (run_read count es view runs next at k run shown state is low read) ∙ none_is run first))

-- a first that is known is let go
pub left_without : (count : ℕ) (table : List ℕ) (k : ℕ) (es : List (ℕ × Record)) → is_first_known count table k (run_of k es) ≡ true
    → filter (is_left count table k) (without_first k es) ≡ filter (is_left count table k) es
left_without count table k [] known = refl
left_without count table k (e ∷ es) known = by_case count table k e es _ refl known (left_without count table k es)
  where
    by_case : (count : ℕ) (table : List ℕ) (k : ℕ) (e : ℕ × Record) (es : List (ℕ × Record)) (b : Bool) → is_from k e ≡ b
        → is_first_known count table k (run_of k (e ∷ es)) ≡ true
        → (is_first_known count table k (run_of k es) ≡ true → filter (is_left count table k) (without_first k es) ≡ filter (is_left count table k) es)
        → filter (is_left count table k) (without_first k (e ∷ es)) ≡ filter (is_left count table k) (e ∷ es)
    by_case count table k e es true own known rest =
        let here : is_known count table k (own_time e.1) ≡ true = rw own at known in
        rw own (rw here refl)
    by_case count table k e es false own known rest =
        let later : is_first_known count table k (run_of k es) ≡ true = rw own at known in
        rw own (rw own (ap (λ xs. e ∷ xs) (rest later)))

pub fewer_left : (count : ℕ) (table : List ℕ) (k : ℕ) (es : List (ℕ × Record)) → is_first_known count table k (run_of k es) ≡ true → length (drop 1 (run_of k es)) < length (run_of k es)
fewer_left count table k es known = shorter (run_of k es) known
  where
    shorter : (ss : List Stamp) → is_first_known count table k ss ≡ true → length (drop 1 ss) < length ss
    shorter [] known = absurd (cc)
    shorter (s ∷ ss) known = omega arith

known_earlier : (count : ℕ) (table : List ℕ) (k t u : ℕ) (js : List ℕ) → t ≤ u → list_all (λ j. nat_le u (at count table j k)) js ≡ true
    → list_all (λ j. nat_le t (at count table j k)) js ≡ true
known_earlier count table k t u [] lower known = refl
known_earlier count table k t u (j ∷ js) lower known = by_case (at count table j k) _ _ refl known (known_earlier count table k t u js lower)
  where
    by_case : (time : ℕ) (a rest : Bool) → nat_le u time ≡ a → (nat_le u time && list_all (λ j. nat_le u (at count table j k)) js) ≡ true
        → (list_all (λ j. nat_le u (at count table j k)) js ≡ true → rest ≡ true) → (nat_le t time && rest) ≡ true
    by_case time true rest is both others =
        let here : nat_le t time ≡ true = grind (arith, nat_tests) in
        let more : list_all (λ j. nat_le u (at count table j k)) js ≡ true = rw is at both in
        rw here (others more)
    by_case time false rest is both others = absurd (let no : false ≡ true = rw is at both in cc)

not_yet : (a b : Bool) → (b ≡ true → a ≡ true) → a ≡ false → b ≡ false
not_yet a true before is = absurd (let e = before refl in cc)
not_yet a false before is = refl

unknown_all : (count : ℕ) (table : List ℕ) (k : ℕ) (ss : List Stamp) → TimesRise ss → is_first_known count table k ss ≡ false → AllByRecursion (λ s. is_known count table k s.time ≡ false) ss
unknown_all count table k [] rises first = tt
unknown_all count table k (s ∷ ss) rises first = (
  first,
  all_weaker (λ a. s.time ≤ a.time) (λ a. is_known count table k a.time ≡ false)
      (λ a later. not_yet (is_known count table k s.time) (is_known count table k a.time) (known_earlier count table k s.time a.time (range_with_len 0 count) later) first) ss rises.0,
)

all_left : (count : ℕ) (table : List ℕ) (k : ℕ) (es : List (ℕ × Record)) → AllByRecursion (λ s. is_known count table k s.time ≡ false) (run_of k es)
    → AllByRecursion (λ e. is_left count table k e ≡ true) es
all_left count table k [] all = tt
all_left count table k (e ∷ es) all = by_case count table k e es _ refl all (all_left count table k es)
  where
    by_case : (count : ℕ) (table : List ℕ) (k : ℕ) (e : ℕ × Record) (es : List (ℕ × Record)) (b : Bool) → is_from k e ≡ b
        → AllByRecursion (λ s. is_known count table k s.time ≡ false) (run_of k (e ∷ es))
        → (AllByRecursion (λ s. is_known count table k s.time ≡ false) (run_of k es) → AllByRecursion (λ e. is_left count table k e ≡ true) es)
        → AllByRecursion (λ e. is_left count table k e ≡ true) (e ∷ es)
    by_case count table k e es true own all rest =
        let parts : AllByRecursion (λ s. is_known count table k s.time ≡ false) (stamp_of e ∷ run_of k es) = rw own at all in
        (let unknown : is_known count table k (own_time e.1) ≡ false = parts.0 in rw own (rw unknown refl), rest parts.1)
    by_case count table k e es false own all rest =
        let parts : AllByRecursion (λ s. is_known count table k s.time ≡ false) (run_of k es) = rw own at all in
        (rw own refl, rest parts)

-- where the first is not known, all are left
pub front_is_left : (count : ℕ) (table : List ℕ) (k : ℕ) (es : List (ℕ × Record)) → TimesRise (run_of k es) → is_first_known count table k (run_of k es) ≡ false
    → filter (is_left count table k) es ≡ es
front_is_left count table k es rises first = filter_all (is_left count table k) es (all_left count table k es (unknown_all count table k (run_of k es) rises first))

needed_is : (count : ℕ) (table : List ℕ) (r : Record) → is_needed count table r ≡ not (is_known count table (origin r) (own_time r))
needed_is count table r = sym (not_all_know count table r (range_with_len 0 count))

-- what is needed is left of every origin
pub needed_left : (count : ℕ) (table : List ℕ) (k : ℕ) (e : ℕ × Record) → is_needed count table e.1 ≡ true → is_left count table k e ≡ true
needed_left count table k e needs = by_case count table k e _ _ refl refl (sym (needed_is count table e.1) ∙ needs)
  where
    by_case : (count : ℕ) (table : List ℕ) (k : ℕ) (e : ℕ × Record) (a b : Bool) → is_from k e ≡ a → is_known count table k (own_time e.1) ≡ b
        → not (is_known count table (origin e.1) (own_time e.1)) ≡ true → is_left count table k e ≡ true
    by_case count table k e true true own known needs =
        absurd (let here : not (is_known count table k (own_time e.1)) ≡ true = subst (λ j. not (is_known count table j (own_time e.1)) ≡ true) (eqb-true (origin e.1) k own) needs in
        let no : false ≡ true = rw known at here in cc)
    by_case count table k e true false own known needs = rw own (rw known refl)
    by_case count table k e false b own known needs = rw own refl

-- what is left of its origin is needed
left_needed : (count : ℕ) (table : List ℕ) (k : ℕ) (e : ℕ × Record) → origin e.1 ≡ k → is_left count table k e ≡ true → is_needed count table e.1 ≡ true
left_needed count table k e is left =
    let own : is_from k e ≡ true = eq-eqb (origin e.1) k is in
    let unknown : not (is_known count table k (own_time e.1)) ≡ true = rw own at left in
    needed_is count table e.1 ∙ subst (λ j. not (is_known count table j (own_time e.1)) ≡ true) (sym is) unknown

-- of one more origin what is left is needed
pub done_more : (count : ℕ) (table : List ℕ) (k : ℕ) (es : List (ℕ × Record)) → AllByRecursion (λ e. origin e.1 < k → is_needed count table e.1 ≡ true) es
    → AllByRecursion (λ e. origin e.1 < k + 1 → is_needed count table e.1 ≡ true) (filter (is_left count table k) es)
done_more count table k es done =
    both (filter (is_left count table k) es) (all_filter (λ e. origin e.1 < k → is_needed count table e.1 ≡ true) (is_left count table k) es done) (all_pass (is_left count table k) es)
  where
    both : (es : List (ℕ × Record)) → AllByRecursion (λ e. origin e.1 < k → is_needed count table e.1 ≡ true) es → AllByRecursion (λ e. is_left count table k e ≡ true) es
        → AllByRecursion (λ e. origin e.1 < k + 1 → is_needed count table e.1 ≡ true) es
    both [] done left = tt
    both (e ∷ es) done left = (
      (λ low. elim (cases_eq (origin e.1) k) [
        | inl same ↦ left_needed count table k e same left.0
        | inr other ↦ done.0 (omega arith)
      ]),
      both es done.1 left.1,
    )

pub needed_of_left : (count : ℕ) (table : List ℕ) (k : ℕ) (es : List (ℕ × Record))
    → filter (λ e. is_needed count table e.1) (filter (is_left count table k) es) ≡ filter (λ e. is_needed count table e.1) es
needed_of_left count table k es = filter_within (λ e. is_needed count table e.1) (is_left count table k) (λ e needs. needed_left count table k e needs) es

pub done_none : (count : ℕ) (table : List ℕ) (es : List (ℕ × Record)) → AllByRecursion (λ e. origin e.1 < 0 → is_needed count table e.1 ≡ true) es
done_none count table [] = tt
done_none count table (e ∷ es) = ((λ low. absurd (omega arith)), done_none count table es)

-- at the end just what is needed is left
pub done_all : (count : ℕ) (table : List ℕ) (end : ℕ) (es before : List (ℕ × Record)) → end ≡ min count most_sites → AllByRecursion (IsOfSite count) es
    → AllByRecursion (λ e. origin e.1 < end → is_needed count table e.1 ≡ true) es → filter (λ e. is_needed count table e.1) es ≡ filter (λ e. is_needed count table e.1) before
    → es ≡ filter (λ e. is_needed count table e.1) before
done_all count table end es before is sites done same = sym (filter_all (λ e. is_needed count table e.1) es (all es sites done)) ∙ same
  where
    all : (es : List (ℕ × Record)) → AllByRecursion (IsOfSite count) es → AllByRecursion (λ e. origin e.1 < end → is_needed count table e.1 ≡ true) es
        → AllByRecursion (λ e. is_needed count table e.1 ≡ true) es
    all [] sites done = tt
    all (e ∷ es) sites done = (done.0 (let low = sites.0.0 in let small = sites.0.1 in omega arith), all es sites.1 done.1)

pub values_needed : (count : ℕ) (table : List ℕ) (es : List (ℕ × Record)) → values_of (filter (λ e. is_needed count table e.1) es) ≡ needed count table (values_of es)
values_needed count table [] = refl
values_needed count table (e ∷ es) = by_case count table e es _ refl (values_needed count table es)
  where
    by_case : (count : ℕ) (table : List ℕ) (e : ℕ × Record) (es : List (ℕ × Record)) (b : Bool) → is_needed count table e.1 ≡ b
        → values_of (filter (λ e. is_needed count table e.1) es) ≡ needed count table (values_of es)
        → values_of (filter (λ e. is_needed count table e.1) (e ∷ es)) ≡ needed count table (values_of (e ∷ es))
    by_case count table e es true needs rest = rw needs (ap (λ rs. e.1 ∷ rs) rest)
    by_case count table e es false needs rest = rw needs rest

-- a run whose front is let go, as far as it has come
pub record IsFront (before now : Backlogged) (table : List ℕ) (k : ℕ) : Type 0 where
  pub count : now.count ≡ before.count
  pub same : filter (is_left before.count table k) now.entries ≡ filter (is_left before.count table k) before.entries
  pub rises : TimesRise (run_of k now.entries)

pub front_step : (before now new : Backlogged) (table : List ℕ) (k : ℕ) → IsFront before now table k → is_first_known now.count table k (run_of k now.entries) ≡ true
    → new ≡ record { count = now.count; entries = without_first k now.entries } → IsFront before new table k
front_step before now new table k front known is =
    let here : is_first_known before.count table k (run_of k now.entries) ≡ true = subst (λ n. is_first_known n table k (run_of k now.entries) ≡ true) front.count known in
    let stands : IsFront before (record { count = now.count; entries = without_first k now.entries }) table k = record {
      count = front.count;
      same = left_without before.count table k now.entries here ∙ front.same;
      rises = subst TimesRise (sym (run_without_own k now.entries)) (pairs_rest (λ a b. a.time ≤ b.time) (run_of k now.entries) front.rises);
    } in
    subst (λ b. IsFront before b table k) (sym is) stands

pub front_smaller : (now new : Backlogged) (table : List ℕ) (k : ℕ) → is_first_known now.count table k (run_of k now.entries) ≡ true
    → new ≡ record { count = now.count; entries = without_first k now.entries } → length (run_of k new.entries) < length (run_of k now.entries)
front_smaller now new table k known is =
    let fewer = fewer_left now.count table k now.entries known in
    let rest : length (run_of k new.entries) ≡ length (drop 1 (run_of k now.entries)) = ap (λ b. length (run_of k b.entries)) is ∙ ap length (run_without_own k now.entries) in
    omega arith

pub front_end : (before now : Backlogged) (table : List ℕ) (k : ℕ) → IsFront before now table k → is_first_known now.count table k (run_of k now.entries) ≡ false
    → now ≡ with_left before table k
front_end before now table k front unknown =
    let here : is_first_known before.count table k (run_of k now.entries) ≡ false = subst (λ n. is_first_known n table k (run_of k now.entries) ≡ false) front.count unknown in
    ap (λ n. record { count = n; entries = now.entries }) front.count
    ∙ ap (λ es. record { count = before.count; entries = es }) (sym (front_is_left before.count table k now.entries front.rises here) ∙ front.same)

-- of the origins below one all that is left is needed
pub record IsCleared (before now : Backlogged) (table : List ℕ) (k : ℕ) : Type 0 where
  pub count : now.count ≡ before.count
  pub sites : AllByRecursion (IsOfSite before.count) now.entries
  pub same : filter (λ e. is_needed before.count table e.1) now.entries ≡ filter (λ e. is_needed before.count table e.1) before.entries
  pub done : AllByRecursion (λ e. origin e.1 < k → is_needed before.count table e.1 ≡ true) now.entries

pub cleared_none : (before : Backlogged) (table : List ℕ) → AllByRecursion (IsOfSite before.count) before.entries → IsCleared before before table 0
cleared_none before table sites = record { count = refl; sites = sites; same = refl; done = done_none before.count table before.entries }

pub cleared_more : (before now new : Backlogged) (table : List ℕ) (k : ℕ) → IsCleared before now table k → new ≡ with_left now table k → IsCleared before new table (k + 1)
cleared_more before now new table k cleared is =
    let there : new ≡ record { count = before.count; entries = filter (is_left before.count table k) now.entries } =
    is ∙ ap (λ n. record { count = n; entries = filter (is_left n table k) now.entries }) cleared.count in
    let stands : IsCleared before (record { count = before.count; entries = filter (is_left before.count table k) now.entries }) table (k + 1) = record {
      count = refl;
      sites = all_filter (IsOfSite before.count) (is_left before.count table k) now.entries cleared.sites;
      same = needed_of_left before.count table k now.entries ∙ cleared.same;
      done = done_more before.count table k now.entries cleared.done;
    } in
    subst (λ b. IsCleared before b table (k + 1)) (sym there) stands

pub cleared_all : (before now : Backlogged) (table : List ℕ) (k : ℕ) → IsCleared before now table k → k ≡ min before.count most_sites → now ≡ with_all_left before table
cleared_all before now table k cleared end =
    ap (λ n. record { count = n; entries = now.entries }) cleared.count
    ∙ ap (λ es. record { count = before.count; entries = es }) (done_all before.count table k now.entries before.entries end cleared.sites cleared.done cleared.same)
