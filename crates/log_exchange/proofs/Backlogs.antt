-- What is kept and the runs of the origins, as one record enters, the first of an origin leaves, or all leave that pass a test.
use Rattle.std.proofs.Common.{◌≡◌, ◌∙◌, inl, inr, ℕ, ◌+◌, ◌-◌, ◌<◌, List, [], ◌∷◌, ◌++◌, Bool, true, false, not, cond, filter, map, length, take, drop, nat_eq, refl, sym, ap, subst, arith, get_or, set, get_or-set_other, get_or-set_same, length-append}
use Rattle.std.specs.List.{AllByRecursion}
use Rattle.std.specs.declared.cmp.Ordering.TheVariants.{Greater}
use Rattle.std.specs.Ordering.{nat_cmp}
use Rattle.std.specs.Map.{remove_entry, values_of}
use Rattle.std.specs.BTreeMap.{insert_entry, is_at}
use Rattle.std.proofs.Math.ListN.{length-set}
use Rattle.std.proofs.lemmas.Bool.{cases_eq, eq-eqb, eqb-true, ne_eqb}
use Rattle.std.proofs.lemmas.Bool.Decides.{nat_tests}
use Rattle.helios_model.specs.declared.records.Record.{Record}
use Rattle.helios_model.specs.Limits.{most_sites}
use Rattle.helios_model.specs.Grid.{at}
use Rattle.helios_model.specs.Log.{origin, own_time}
use Rattle.log_exchange.specs.declared.run.Stamp.{Stamp}
use Rattle.log_exchange.specs.Runs.{AllPairs, ArrivalsRise, IsBacklog, IsOfSite, is_from, is_known, is_left, run_of, stamp_of, without_first}
use Rattle.log_exchange.proofs.Lines.{all_filter, all_push, all_weaker, pairs_filter, pairs_push}

at_itself : (a : ℕ) → is_at (nat_cmp a) a ≡ true
at_itself a = grind (arith, nat_tests)

at_lower : (a k : ℕ) → k < a → is_at (nat_cmp a) k ≡ false
at_lower a k lower = grind (arith, nat_tests)

-- a number above all others goes to the end
insert_last : {X : Type 0} (es : List (ℕ × X)) (n : ℕ) (y : X) → AllByRecursion (λ e. e.0 < n) es → insert_entry nat_cmp es n y ≡ es ++ (n, y) ∷ []
insert_last [] n y below = refl
insert_last (e ∷ es) n y below =
    let above : nat_cmp n e.0 ≡ Greater = (let lower : e.0 < n = below.0 in grind (arith, nat_tests)) in
    rw above (ap (λ xs. e ∷ xs) (insert_last es n y below.1))

pub values_append : {X : Type 0} (es more : List (ℕ × X)) → values_of (es ++ more) ≡ values_of es ++ values_of more
values_append [] more = refl
values_append (e ∷ es) more = ap (λ xs. e.1 ∷ xs) (values_append es more)

append_none : {X : Type 0} (xs : List X) → xs ++ [] ≡ xs
append_none [] = refl
append_none (x ∷ xs) = ap (λ ys. x ∷ ys) (append_none xs)

-- the runs, after that of one origin is written
runs_written : (count : ℕ) (runs : List (List Stamp)) (es : List (ℕ × Record)) (at : ℕ) (new : List Stamp) → at < length runs
    → new ≡ run_of at es → ((k : ℕ) (d : List Stamp) → k < count → (at ≡ k → ⊥) → get_or runs k d ≡ run_of k es)
    → (k : ℕ) (d : List Stamp) → k < count → get_or (set runs at new) k d ≡ run_of k es
runs_written count runs es at new within is others k d below =
    elim (cases_eq at k) [
      | inl same ↦ subst (λ j. get_or (set runs at new) j d ≡ run_of j es) same (rw get_or-set_same is)
      | inr other ↦
          (let ne : k ≡ at → ⊥ = λ e. other (sym e) in
          rw get_or-set_other (others k d below other))
    ]

own_case : (k : ℕ) (e : ℕ × Record) (es more : List (ℕ × Record)) (b : Bool) → is_from k e ≡ b
    → run_of k (es ++ more) ≡ run_of k es ++ run_of k more → run_of k ((e ∷ es) ++ more) ≡ run_of k (e ∷ es) ++ run_of k more
own_case k e es more true own rest = rw own (ap (λ xs. stamp_of e ∷ xs) rest)
own_case k e es more false own rest = rw own rest

run_append : (k : ℕ) (es more : List (ℕ × Record)) → run_of k (es ++ more) ≡ run_of k es ++ run_of k more
run_append k [] more = refl
run_append k (e ∷ es) more = own_case k e es more _ refl (run_append k es more)

run_push_own : (es : List (ℕ × Record)) (n : ℕ) (r : Record)
    → run_of (origin r) (es ++ (n, r) ∷ []) ≡ run_of (origin r) es ++ record { arrival = n; time = own_time r } ∷ []
run_push_own es n r =
    let own : nat_eq (origin r) (origin r) ≡ true = eq-eqb (origin r) (origin r) refl in
    run_append (origin r) es ((n, r) ∷ []) ∙ rw own refl

run_push_other : (k : ℕ) (es : List (ℕ × Record)) (n : ℕ) (r : Record) → (origin r ≡ k → ⊥) → run_of k (es ++ (n, r) ∷ []) ≡ run_of k es
run_push_other k es n r other =
    let foreign : nat_eq (origin r) k ≡ false = ne_eqb (origin r) k other in
    run_append k es ((n, r) ∷ []) ∙ rw foreign (append_none (run_of k es))

-- what stands at an origin's place
pub run_read : (count : ℕ) (es view : List (ℕ × Record)) (runs : List (List Stamp)) (next at k : ℕ) (run : List Stamp) → es ≡ view → IsBacklog count es runs next
    → at ≡ k → k < count → run ≡ get_or runs at run → run ≡ run_of k view
run_read count es view runs next at k run shown state is low read =
    read ∙ (ap (λ j. get_or runs j run) is ∙ (state.by_origin k run low ∙ ap (run_of k) shown))

-- one more behind the others
pub has_entered : (count : ℕ) (es view new : List (ℕ × Record)) (runs : List (List Stamp)) (next after at time : ℕ) (run put : List Stamp) (r : Record) → es ≡ view
    → IsBacklog count es runs next → at ≡ origin r → at < most_sites → origin r < count → time ≡ own_time r → run ≡ get_or runs at run
    → put ≡ run ++ record { arrival = next; time = time } ∷ [] → after ≡ next + 1 → new ≡ insert_entry nat_cmp es next r
    → IsBacklog count new (set runs at put) after × (values_of new ≡ values_of view ++ r ∷ [])
has_entered count es view new runs next after at time run put r shown state is small low timed read pushed counted inserted =
    let last : new ≡ es ++ (next, r) ∷ [] = inserted ∙ insert_last es next r state.below in
    let within : at < length runs = let sized = state.sized in omega arith in
    let own : put ≡ run_of at (es ++ (next, r) ∷ []) =
    pushed ∙ (ap (λ s. s ++ record { arrival = next; time = time } ∷ []) (run_read count es es runs next at (origin r) run refl state is low read) ∙
    (ap (λ t. run_of (origin r) es ++ record { arrival = next; time = t } ∷ []) timed ∙ (sym (run_push_own es next r) ∙ ap (λ k. run_of k (es ++ (next, r) ∷ [])) (sym is)))) in
    let stands : IsBacklog count (es ++ (next, r) ∷ []) (set runs at put) after = record {
      line = pairs_push (λ e f. e.0 < f.0) es (next, r) state.line state.below;
      below = all_push (λ e. e.0 < after) es (next, r) (all_weaker (λ e. e.0 < next) (λ e. e.0 < after) (λ e lower. omega arith) es state.below) (omega arith);
      sites = all_push (IsOfSite count) es (next, r) state.sites (low, subst (λ k. k < most_sites) is small);
      sized = simp length-set state.sized;
      by_origin = runs_written count runs (es ++ (next, r) ∷ []) at put within own
          (λ k d below other. state.by_origin k d below ∙ sym (run_push_other k es next r (λ e. other (is ∙ e))));
    } in (
      subst (λ xs. IsBacklog count xs (set runs at put) after) (sym last) stands,
      ap values_of last ∙ (values_append es ((next, r) ∷ []) ∙ ap (λ v. values_of v ++ r ∷ []) shown),
    )

take_front : {X : Type 0} (xs : List X) (x : X) → take (length (xs ++ x ∷ []) - 1) (xs ++ x ∷ []) ≡ xs
take_front xs x = ap (λ n. take n (xs ++ x ∷ [])) (omega (arith, length-append xs (x ∷ []))) ∙ take_same xs (x ∷ [])
  where
    take_same : {X : Type 0} (xs more : List X) → take (length xs) (xs ++ more) ≡ xs
    take_same [] more = refl
    take_same (x ∷ xs) more = ap (λ ys. x ∷ ys) (take_same xs more)

-- one that could not enter
pub as_it_was : (count : ℕ) (es new : List (ℕ × Record)) (runs : List (List Stamp)) (next at : ℕ) (run put kept back : List Stamp) (s : Stamp) (r : Record)
    → IsBacklog count es runs next → at ≡ origin r → origin r < count → run ≡ get_or runs at run → put ≡ run ++ s ∷ [] → kept ≡ get_or (set runs at put) at kept
    → back ≡ take (length kept - 1) kept → new ≡ es → IsBacklog count new (set (set runs at put) at back) next
as_it_was count es new runs next at run put kept back s r state is low read pushed kept_is back_is same =
    let within : at < length runs = let sized = state.sized in omega arith in
    let again : at < length (set runs at put) = simp length-set within in
    let put_is : kept ≡ run ++ s ∷ [] = kept_is ∙ (get_or-set_same runs at put kept within ∙ pushed) in
    let own : back ≡ run_of at es =
    back_is ∙ (ap (λ xs. take (length xs - 1) xs) put_is ∙ (take_front run s ∙
    (run_read count es es runs next at (origin r) run refl state is low read ∙ ap (λ k. run_of k es) (sym is)))) in
    let stands : IsBacklog count es (set (set runs at put) at back) next = record {
      line = state.line;
      below = state.below;
      sites = state.sites;
      sized = simp length-set state.sized;
      by_origin = runs_written count (set runs at put) es at back again own
          (λ k d below other. get_or-set_other runs at k put d (λ e. other (sym e)) ∙ state.by_origin k d below);
    } in
    subst (λ xs. IsBacklog count xs (set (set runs at put) at back) next) (sym same) stands

-- the first of an origin is taken out
pub run_without_own : (k : ℕ) (es : List (ℕ × Record)) → run_of k (without_first k es) ≡ drop 1 (run_of k es)
run_without_own k [] = refl
run_without_own k (e ∷ es) = by_case k e es _ refl (run_without_own k es)
  where
    by_case : (k : ℕ) (e : ℕ × Record) (es : List (ℕ × Record)) (b : Bool) → is_from k e ≡ b → run_of k (without_first k es) ≡ drop 1 (run_of k es)
        → run_of k (without_first k (e ∷ es)) ≡ drop 1 (run_of k (e ∷ es))
    by_case k e es true own rest = rw own refl
    by_case k e es false own rest = rw own (rw own rest)

run_without_other : (j k : ℕ) → (k ≡ j → ⊥) → (es : List (ℕ × Record)) → run_of j (without_first k es) ≡ run_of j es
run_without_other j k other [] = refl
run_without_other j k other (e ∷ es) = by_case j k e es _ _ other refl refl (run_without_other j k other es)
  where
    by_case : (j k : ℕ) (e : ℕ × Record) (es : List (ℕ × Record)) (a b : Bool) → (k ≡ j → ⊥) → is_from k e ≡ a → is_from j e ≡ b
        → run_of j (without_first k es) ≡ run_of j es → run_of j (without_first k (e ∷ es)) ≡ run_of j (e ∷ es)
    by_case j k e es true true other a b rest = absurd (other (sym (eqb-true (origin e.1) k a) ∙ eqb-true (origin e.1) j b))
    by_case j k e es true false other a b rest = rw (a, b) refl
    by_case j k e es false true other a b rest = rw a (rw b (ap (λ xs. stamp_of e ∷ xs) rest))
    by_case j k e es false false other a b rest = rw a (rw b rest)

all_without : (P : ℕ × Record → Type 0) (k : ℕ) (es : List (ℕ × Record)) → AllByRecursion P es → AllByRecursion P (without_first k es)
all_without P k [] all = tt
all_without P k (e ∷ es) all = by_case P k e es (is_from k e) all (all_without P k es all.1)
  where
    by_case : (P : ℕ × Record → Type 0) (k : ℕ) (e : ℕ × Record) (es : List (ℕ × Record)) (b : Bool) → AllByRecursion P (e ∷ es)
        → AllByRecursion P (without_first k es) → AllByRecursion P (cond b es (e ∷ without_first k es))
    by_case P k e es true all rest = all.1
    by_case P k e es false all rest = (all.0, rest)

pairs_without : (R : ℕ × Record → ℕ × Record → Type 0) (k : ℕ) (es : List (ℕ × Record)) → AllPairs R es → AllPairs R (without_first k es)
pairs_without R k [] pairs = tt
pairs_without R k (e ∷ es) pairs = by_case R k e es (is_from k e) pairs (pairs_without R k es pairs.1)
  where
    by_case : (R : ℕ × Record → ℕ × Record → Type 0) (k : ℕ) (e : ℕ × Record) (es : List (ℕ × Record)) (b : Bool) → AllPairs R (e ∷ es)
        → AllPairs R (without_first k es) → AllPairs R (cond b es (e ∷ without_first k es))
    by_case R k e es true pairs rest = pairs.1
    by_case R k e es false pairs rest = (all_without (R e) k es pairs.0, rest)

pub above_run : (n k : ℕ) (es : List (ℕ × Record)) → AllByRecursion (λ e. n < e.0) es → AllByRecursion (λ s. n < s.arrival) (run_of k es)
above_run n k [] all = tt
above_run n k (e ∷ es) all = by_case n k e es (is_from k e) all (above_run n k es all.1)
  where
    by_case : (n k : ℕ) (e : ℕ × Record) (es : List (ℕ × Record)) (b : Bool) → AllByRecursion (λ e. n < e.0) (e ∷ es)
        → AllByRecursion (λ s. n < s.arrival) (run_of k es) → AllByRecursion (λ s. n < s.arrival) (map stamp_of (cond b (e ∷ filter (is_from k) es) (filter (is_from k) es)))
    by_case n k e es true all rest = (all.0, rest)
    by_case n k e es false all rest = rest

-- by the number of the first of an origin, just that is taken out
pub first_removed : (k : ℕ) (s : Stamp) (ss : List Stamp) (es : List (ℕ × Record)) → ArrivalsRise es → run_of k es ≡ s ∷ ss
    → remove_entry (is_at (nat_cmp s.arrival)) es ≡ without_first k es
first_removed k s ss [] line run = refl
first_removed k s ss (e ∷ es) line run = by_case k s ss e es _ refl line.0 run (first_removed k s ss es line.1)
  where
    by_case : (k : ℕ) (s : Stamp) (ss : List Stamp) (e : ℕ × Record) (es : List (ℕ × Record)) (b : Bool) → is_from k e ≡ b → AllByRecursion (λ f. e.0 < f.0) es
        → run_of k (e ∷ es) ≡ s ∷ ss → (run_of k es ≡ s ∷ ss → remove_entry (is_at (nat_cmp s.arrival)) es ≡ without_first k es)
        → remove_entry (is_at (nat_cmp s.arrival)) (e ∷ es) ≡ without_first k (e ∷ es)
    by_case k s ss e es true own above run rest =
        let head : stamp_of e ∷ run_of k es ≡ s ∷ ss = rw own at run in
        let first : stamp_of e ≡ s = cc in
        let here : is_at (nat_cmp s.arrival) e.0 ≡ true = subst (λ a. is_at (nat_cmp a) e.0 ≡ true) (ap (λ x. x.arrival) first) (at_itself e.0) in
        rw (here, own) refl
    by_case k s ss e es false own above run rest =
        let later : run_of k es ≡ s ∷ ss = rw own at run in
        let all : AllByRecursion (λ x. e.0 < x.arrival) (s ∷ ss) = subst (AllByRecursion (λ x. e.0 < x.arrival)) later (above_run e.0 k es above) in
        let lower : e.0 < s.arrival = all.0 in
        let there : is_at (nat_cmp s.arrival) e.0 ≡ false = at_lower s.arrival e.0 lower in
        rw (there, own) (ap (λ xs. e ∷ xs) (rest later))

pub none_without : (k : ℕ) (es : List (ℕ × Record)) → run_of k es ≡ [] → without_first k es ≡ es
none_without k [] run = refl
none_without k (e ∷ es) run = by_case k e es _ refl run (none_without k es)
  where
    by_case : (k : ℕ) (e : ℕ × Record) (es : List (ℕ × Record)) (b : Bool) → is_from k e ≡ b → run_of k (e ∷ es) ≡ []
        → (run_of k es ≡ [] → without_first k es ≡ es) → without_first k (e ∷ es) ≡ e ∷ es
    by_case k e es true own run rest = absurd (let some : stamp_of e ∷ run_of k es ≡ [] = rw own at run in cc)
    by_case k e es false own run rest = let none : run_of k es ≡ [] = rw own at run in rw own (ap (λ xs. e ∷ xs) (rest none))

pub first_taken : (count : ℕ) (es new : List (ℕ × Record)) (runs : List (List Stamp)) (next at k : ℕ) (run rest : List Stamp)
    → IsBacklog count es runs next → at ≡ k → k < count → run ≡ get_or runs at run → rest ≡ drop 1 run → new ≡ without_first k es
    → IsBacklog count new (set runs at rest) next
first_taken count es new runs next at k run rest state is low read popped gone =
    let within : at < length runs = let sized = state.sized in omega arith in
    let own : rest ≡ run_of at (without_first k es) =
    popped ∙ (ap (drop 1) (run_read count es es runs next at k run refl state is low read) ∙ (sym (run_without_own k es) ∙ ap (λ j. run_of j (without_first k es)) (sym is))) in
    let stands : IsBacklog count (without_first k es) (set runs at rest) next = record {
      line = pairs_without (λ e f. e.0 < f.0) k es state.line;
      below = all_without (λ e. e.0 < next) k es state.below;
      sites = all_without (IsOfSite count) k es state.sites;
      sized = simp length-set state.sized;
      by_origin = runs_written count runs (without_first k es) at rest within own
          (λ j d below other. state.by_origin j d below ∙ sym (run_without_other j k (λ e. other (is ∙ e)) es));
    } in
    subst (λ xs. IsBacklog count xs (set runs at rest) next) (sym gone) stands

-- all that is known of an origin is taken out
run_left_own : (count : ℕ) (table : List ℕ) (k : ℕ) (es : List (ℕ × Record))
    → run_of k (filter (is_left count table k) es) ≡ filter (λ s. not (is_known count table k s.time)) (run_of k es)
run_left_own count table k [] = refl
run_left_own count table k (e ∷ es) = by_case count table k e es _ _ refl refl (run_left_own count table k es)
  where
    by_case : (count : ℕ) (table : List ℕ) (k : ℕ) (e : ℕ × Record) (es : List (ℕ × Record)) (a b : Bool) → is_from k e ≡ a → is_known count table k (own_time e.1) ≡ b
        → run_of k (filter (is_left count table k) es) ≡ filter (λ s. not (is_known count table k s.time)) (run_of k es)
        → run_of k (filter (is_left count table k) (e ∷ es)) ≡ filter (λ s. not (is_known count table k s.time)) (run_of k (e ∷ es))
    by_case count table k e es true true own known rest = rw own (rw known rest)
    by_case count table k e es true false own known rest = rw own (rw known (rw own (ap (λ xs. stamp_of e ∷ xs) rest)))
    by_case count table k e es false b own known rest = rw own (rw own rest)

run_left_other : (count : ℕ) (table : List ℕ) (j k : ℕ) → (k ≡ j → ⊥) → (es : List (ℕ × Record)) → run_of j (filter (is_left count table k) es) ≡ run_of j es
run_left_other count table j k other [] = refl
run_left_other count table j k other (e ∷ es) = by_case count table j k e es _ _ _ other refl refl refl (run_left_other count table j k other es)
  where
    by_case : (count : ℕ) (table : List ℕ) (j k : ℕ) (e : ℕ × Record) (es : List (ℕ × Record)) (a b c : Bool) → (k ≡ j → ⊥) → is_from k e ≡ a → is_from j e ≡ b
        → is_known count table k (own_time e.1) ≡ c → run_of j (filter (is_left count table k) es) ≡ run_of j es
        → run_of j (filter (is_left count table k) (e ∷ es)) ≡ run_of j (e ∷ es)
    by_case count table j k e es true true c other a b known rest = absurd (other (sym (eqb-true (origin e.1) k a) ∙ eqb-true (origin e.1) j b))
    by_case count table j k e es true false true other a b known rest = rw a (rw known (rw b rest))
    by_case count table j k e es true false false other a b known rest = rw a (rw known (rw b rest))
    by_case count table j k e es false true c other a b known rest = rw a (rw b (ap (λ xs. stamp_of e ∷ xs) rest))
    by_case count table j k e es false false c other a b known rest = rw a (rw b rest)

pub known_taken : (count n : ℕ) (table : List ℕ) (es new : List (ℕ × Record)) (runs : List (List Stamp)) (next at k : ℕ) (run rest : List Stamp)
    → IsBacklog count es runs next → n ≡ count → at ≡ k → k < count → run ≡ get_or runs at run → rest ≡ filter (λ s. not (is_known n table k s.time)) run
    → new ≡ filter (is_left count table k) es → IsBacklog count new (set runs at rest) next
known_taken count n table es new runs next at k run rest state same is low read left gone =
    let within : at < length runs = let sized = state.sized in omega arith in
    let own : rest ≡ run_of at (filter (is_left count table k) es) =
    left ∙ (ap (λ m. filter (λ s. not (is_known m table k s.time)) run) same ∙
    (ap (filter (λ s. not (is_known count table k s.time))) (run_read count es es runs next at k run refl state is low read) ∙
    (sym (run_left_own count table k es) ∙ ap (λ j. run_of j (filter (is_left count table k) es)) (sym is)))) in
    let stands : IsBacklog count (filter (is_left count table k) es) (set runs at rest) next = record {
      line = pairs_filter (λ e f. e.0 < f.0) (is_left count table k) es state.line;
      below = all_filter (λ e. e.0 < next) (is_left count table k) es state.below;
      sites = all_filter (IsOfSite count) (is_left count table k) es state.sites;
      sized = simp length-set state.sized;
      by_origin = runs_written count runs (filter (is_left count table k) es) at rest within own
          (λ j d below other. state.by_origin j d below ∙ sym (run_left_other count table j k (λ e. other (is ∙ e)) es));
    } in
    subst (λ xs. IsBacklog count xs (set runs at rest) next) (sym gone) stands
