-- Times in a line, with the number of each: one enters at the end, one leaves.
use Rattle.std.proofs.Common.{◌≡◌, inl, inr, ℕ, List, [], ◌∷◌, ◌++◌, true, false, not, cond, Option, Some, None, find, filter, nat_eq, refl, sym, ap, ◌∙◌, subst, arith}
use Rattle.std.specs.Option.{option_map, option_or}
use Rattle.std.specs.Ordering.{nat_cmp}
use Rattle.std.specs.Map.{lookup, remove_entry}
use Rattle.std.specs.BTreeMap.{insert_entry, is_at}
use Rattle.std.proofs.lemmas.Bool.{cases_eq, eq-eqb, eqb-true, ne_eqb}
use Rattle.std.proofs.lemmas.Bool.Decides.{nat_tests}
use Rattle.std.proofs.lemmas.List.Folds.{find-append}
use Rattle.prepare_pools.specs.Line.{AllBelow, IsArrived, arrival_of}
use Rattle.prepare_pools.proofs.Lines.{all_missed, filter_same, find_dropped, find_kept, insert_last, line_push, line_removed, none_mapped, pairs_filter}

or_none : {X : Type 0} (o : Option X) → option_or o None ≡ o
or_none None = refl
or_none (Some x) = refl

at_same : (t q : ℕ) → t ≡ q → is_at (nat_cmp t) q ≡ true
at_same t q same = grind (arith, nat_tests)

at_other : (t q : ℕ) → (t ≡ q → ⊥) → is_at (nat_cmp t) q ≡ false
at_other t q other = grind (arith, nat_tests)

-- one more at the end, found by its own time alone
arrival_push : (times : List (ℕ × ℕ)) (n t q : ℕ) → find (λ e. nat_eq e.1 t) times ≡ None
    → arrival_of (λ u. nat_eq u q) (times ++ (n, t) ∷ []) ≡ cond (is_at (nat_cmp t) q) (Some n) (arrival_of (λ u. nat_eq u q) times)
arrival_push times n t q none =
    ap (option_map (λ e. e.0)) (find-append (λ e. nat_eq e.1 q) times ((n, t) ∷ [])) ∙
    elim (cases_eq t q) [
      | inl same ↦
          (let here = at_same t q same in
          let hit : nat_eq t q ≡ true = eq-eqb t q same in
          let missed : find (λ e. nat_eq e.1 q) times ≡ None = subst (λ u. find (λ e. nat_eq e.1 u) times ≡ None) same none in
          rw (here, missed, hit) refl)
      | inr other ↦
          (let there = at_other t q other in
          let miss : nat_eq t q ≡ false = ne_eqb t q other in
          rw (there, miss) (ap (option_map (λ e. e.0)) (or_none (find (λ e. nat_eq e.1 q) times))))
    ]

pub entered : (times arrivals : List (ℕ × ℕ)) (n t : ℕ) (view new more : List (ℕ × ℕ)) → times ≡ view → IsArrived times arrivals → AllBelow n view
    → arrival_of (λ u. nat_eq u t) view ≡ None → new ≡ insert_entry nat_cmp times n t
    → ((q : ℕ) → lookup (is_at (nat_cmp q)) more ≡ cond (is_at (nat_cmp t) q) (Some n) (lookup (is_at (nat_cmp q)) arrivals))
    → (new ≡ view ++ (n, t) ∷ []) × IsArrived new more
entered times arrivals n t view new more is state below absent inserted put =
    let under : AllBelow n times = subst (λ es. AllBelow n es) (sym is) below in
    let none : find (λ e. nat_eq e.1 t) times ≡ None = none_mapped _ _ (subst (λ es. arrival_of (λ u. nat_eq u t) es ≡ None) (sym is) absent) in
    let last : new ≡ times ++ (n, t) ∷ [] = inserted ∙ insert_last times n t under in
    let stands : IsArrived (times ++ (n, t) ∷ []) more = record {
      line = line_push (λ u. u) (λ u. nat_eq u t) n t (λ u same. eq-eqb u t same) times under none state.line;
      back = λ q. put q ∙ (ap (cond (is_at (nat_cmp t) q) (Some n)) (state.back q) ∙ sym (arrival_push times n t q none));
    } in
    (last ∙ ap (λ es. es ++ (n, t) ∷ []) is, subst (λ es. IsArrived es more) (sym last) stands)

arrival_filter : (times : List (ℕ × ℕ)) (t q : ℕ)
    → arrival_of (λ u. nat_eq u q) (filter (λ e. not (nat_eq e.1 t)) times) ≡ cond (is_at (nat_cmp t) q) None (arrival_of (λ u. nat_eq u q) times)
arrival_filter times t q =
    elim (cases_eq t q) [
      | inl same ↦
          (let here = at_same t q same in
          rw here (ap (option_map (λ e. e.0)) (find_dropped (λ e. nat_eq e.1 q) (λ e. not (nat_eq e.1 t))
          (λ e hit. ap not (eq-eqb e.1 t (eqb-true e.1 q hit ∙ sym same))) times)))
      | inr other ↦
          (let there = at_other t q other in
          rw there (ap (option_map (λ e. e.0)) (find_kept (λ e. nat_eq e.1 q) (λ e. not (nat_eq e.1 t))
          (λ e hit. ap not (ne_eqb e.1 t (λ same. other (sym same ∙ eqb-true e.1 q hit)))) times)))
    ]

-- where a time is found, its number takes just it out
pub left : (times arrivals : List (ℕ × ℕ)) (a t : ℕ) (view new fewer : List (ℕ × ℕ)) → times ≡ view → IsArrived times arrivals
    → lookup (is_at (nat_cmp t)) arrivals ≡ Some a → new ≡ remove_entry (is_at (nat_cmp a)) times
    → ((q : ℕ) → lookup (is_at (nat_cmp q)) fewer ≡ cond (is_at (nat_cmp t) q) None (lookup (is_at (nat_cmp q)) arrivals))
    → (new ≡ filter (λ e. not (nat_eq e.1 t)) view) × IsArrived new fewer
left times arrivals a t view new fewer is state found removed taken =
    let by_time = found_entry (find (λ e. nat_eq e.1 t) times) a (sym (state.back t) ∙ found) in
    let gone : new ≡ filter (λ e. not (nat_eq e.1 t)) times =
    removed ∙ line_removed (λ u. u) (λ u. nat_eq u t) (λ u v one other. eqb-true u t one ∙ sym (eqb-true v t other)) times a by_time.0 state.line by_time.1 in
    let stands : IsArrived (filter (λ e. not (nat_eq e.1 t)) times) fewer = record {
      line = pairs_filter _ _ times state.line;
      back = λ q. taken q ∙ (ap (cond (is_at (nat_cmp t) q) None) (state.back q) ∙ sym (arrival_filter times t q));
    } in
    (gone ∙ ap (filter (λ e. not (nat_eq e.1 t))) is, subst (λ es. IsArrived es fewer) (sym gone) stands)
  where
    found_entry : (o : Option (ℕ × ℕ)) (a : ℕ) → option_map (λ e. e.0) o ≡ Some a → (x : ℕ) × (o ≡ Some (a, x))
    found_entry None a e = absurd (cc)
    found_entry (Some p) a e = (p.1, let same : p.0 ≡ a = cc in ap (λ k. Some (k, p.1)) same)

-- where a time is not found, none has it
pub left_nothing : (times arrivals : List (ℕ × ℕ)) (t : ℕ) (view : List (ℕ × ℕ)) → times ≡ view → IsArrived times arrivals
    → lookup (is_at (nat_cmp t)) arrivals ≡ None → times ≡ filter (λ e. not (nat_eq e.1 t)) view
left_nothing times arrivals t view is state missed =
    sym (filter_same (λ e. nat_eq e.1 t) times (all_missed (λ e. nat_eq e.1 t) times (none_mapped _ _ (sym (state.back t) ∙ missed)))) ∙
    ap (filter (λ e. not (nat_eq e.1 t))) is
