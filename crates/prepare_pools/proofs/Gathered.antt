-- Those of a line that pass a test, gathered one touch at a time.
use Rattle.std.proofs.Common.{◌≡◌, inl, inr, ℕ, ◌+◌, ◌<◌, List, [], ◌∷◌, ◌++◌, Bool, true, false, cond, ◌&&◌, ◌||◌, Option, Some, None, Bor, find, filter, map, length, take, get_or, refl, sym, ap, ◌∙◌, subst, arith}
use Rattle.std.specs.List.{AllByRecursion, list_any}
use Rattle.std.specs.List.Sorted.{IsStrictlySortedBy}
use Rattle.std.specs.Option.{option_to_list}
use Rattle.std.specs.Ordering.{nat_cmp}
use Rattle.std.specs.Map.{keys_of, lookup, values_of}
use Rattle.std.specs.BTreeMap.{is_at}
use Rattle.std.proofs.lemmas.Grind.{common_steps}
use Rattle.std.proofs.lemmas.Bool.Decides.{nat_tests}
use Rattle.std.proofs.lemmas.List.Folds.{list_any-append}
use Rattle.helios_model.specs.declared.ids.TxnId.{TxnId}
use Rattle.helios_model.specs.Ids.{same_id}
use Rattle.helios_model.specs.Log.{is_own}
use Rattle.helios_model.specs.Texts.{contains_text}
use Rattle.helios_model.specs.Transactions.{Transaction, conflict, touched_by, writes_key}
use Rattle.prepare_pools.specs.declared.touch.Touch.{Touch}
use Rattle.prepare_pools.specs.Line.{IsLine, Precedes, arrival_of}
use Rattle.prepare_pools.specs.Touches.{IsIndexed, touch_of, touched, touches_in}
use Rattle.prepare_pools.specs.Conflicts.{IsFound, chosen, hits, ids_of}
use Rattle.prepare_pools.proofs.Lines.{all_found, all_missed, all_weaker, none_mapped, pairs_filter, some_parts}
use Rattle.prepare_pools.proofs.Sites.{same_id_is, same_id_itself}
use Rattle.prepare_pools.proofs.Waits.{some_mapped}
use Rattle.prepare_pools.proofs.Pooled.{touches_cons}
use Rattle.prepare_pools.proofs.Clashes.{clash_is}
use Rattle.prepare_pools.proofs.Orders.{Rises, rises_from, same_entries}

ids_case : (t u : Transaction → Bool) (e : ℕ × Transaction) (es : List (ℕ × Transaction)) (b : Bool) → t e.1 ≡ b → u e.1 ≡ b → ids_of t es ≡ ids_of u es
    → ids_of t (e ∷ es) ≡ ids_of u (e ∷ es)
ids_case t u e es true is also rest = rw (is, also) (ap (λ xs. (e.0, e.1.id) ∷ xs) rest)
ids_case t u e es false is also rest = rw (is, also) rest

ids_agree : (t u : Transaction → Bool) (es : List (ℕ × Transaction)) → AllByRecursion (λ e. t e.1 ≡ u e.1) es → ids_of t es ≡ ids_of u es
ids_agree t u [] all = refl
ids_agree t u (e ∷ es) all = ids_case t u e es _ all.0 refl (ids_agree t u es all.1)

found_agree : (t u : Transaction → Bool) (line : List (ℕ × Transaction)) (found : List (ℕ × TxnId)) → AllByRecursion (λ e. t e.1 ≡ u e.1) line → IsFound t line found → IsFound u line found
found_agree t u line found all is = record { at = λ n. is.at n ∙ ap (lookup (is_at (nat_cmp n))) (ids_agree t u line all) }

all_always : {X : Type 0} (P : X → Type 0) → ((x : X) → P x) → (xs : List X) → AllByRecursion P xs
all_always P every [] = tt
all_always P every (x ∷ xs) = (every x, all_always P every xs)

pub found_same : (t u : Transaction → Bool) (line : List (ℕ × Transaction)) (found : List (ℕ × TxnId)) → ((q : Transaction) → t q ≡ u q) → IsFound t line found → IsFound u line found
found_same t u line found same = found_agree t u line found (all_always _ (λ e. same e.1) line)

or_none : (b : Bool) → b ≡ (b || false)
or_none true = refl
or_none false = refl

or_later : (a b c : Bool) → ((a || b) || c) ≡ (a || (b || c))
or_later true b c = refl
or_later false b c = refl

-- a touch that does not count
pub touch_skipped : (line : List (ℕ × Transaction)) (found : List (ℕ × TxnId)) (id : TxnId) (b : Bool) → b ≡ false → (test : Transaction → Bool) → IsFound test line found
    → IsFound (λ q. test q || (b && same_id q.id id)) line found
touch_skipped line found id b skipped test =
    found_same test (λ q. test q || (b && same_id q.id id)) line found (λ q. or_none (test q) ∙ ap (λ c. test q || (c && same_id q.id id)) (sym skipped))

-- a touch of none in the line
pub touch_missing : (line : List (ℕ × Transaction)) (found : List (ℕ × TxnId)) (id : TxnId) (b : Bool) → arrival_of (λ p. same_id p.id id) line ≡ None
    → (test : Transaction → Bool) → IsFound test line found → IsFound (λ q. test q || (b && same_id q.id id)) line found
touch_missing line found id b none test =
    found_agree test (λ q. test q || (b && same_id q.id id)) line found
    (all_weaker _ _ (λ e miss. or_none (test e.1) ∙ ap (λ c. test e.1 || c) (and_none b ∙ ap (λ s. b && s) (sym miss))) line (all_missed (λ e. same_id e.1.id id) line (none_mapped _ _ none)))
  where
    and_none : (b : Bool) → false ≡ (b && false)
    and_none true = refl
    and_none false = refl

ids_cons : (t : Transaction → Bool) (e : ℕ × Transaction) (es : List (ℕ × Transaction)) (n : ℕ) (b : Bool) → t e.1 ≡ b
    → lookup (is_at (nat_cmp n)) (ids_of t (e ∷ es)) ≡ cond b (cond (is_at (nat_cmp n) e.0) (Some e.1.id) (lookup (is_at (nat_cmp n)) (ids_of t es))) (lookup (is_at (nat_cmp n)) (ids_of t es))
ids_cons t e es n true is = rw is refl
ids_cons t e es n false is = rw is refl

at_back : (a b : ℕ) → is_at (nat_cmp a) b ≡ is_at (nat_cmp b) a
at_back a b = grind (arith, nat_tests)

at_higher : (a n k : ℕ) → k < a → is_at (nat_cmp a) n ≡ true → is_at (nat_cmp n) k ≡ false
at_higher a n k lower here = grind (arith, nat_tests)

hit_case : (t k : Bool) (id : TxnId) (m : Option TxnId) → cond (t || true) (cond k (Some id) m) m ≡ cond k (Some id) (cond t (cond k (Some id) m) m)
hit_case true true id m = refl
hit_case true false id m = refl
hit_case false true id m = refl
hit_case false false id m = refl

miss_case : (t a k : Bool) (id other : TxnId) (m : Option TxnId) → (a ≡ true → k ≡ false)
    → cond (t || false) (cond k (Some other) (cond a (Some id) m)) (cond a (Some id) m) ≡ cond a (Some id) (cond t (cond k (Some other) m) m)
miss_case true true true id other m apart = absurd (let e = apart refl in cc)
miss_case true true false id other m apart = refl
miss_case true false k id other m apart = refl
miss_case false true k id other m apart = refl
miss_case false false k id other m apart = refl

ids_added : (test : Transaction → Bool) (id : TxnId) (a : ℕ) (x : Transaction) (n : ℕ) (line : List (ℕ × Transaction)) → IsLine (λ p. p.id) line
    → find (λ e. same_id e.1.id id) line ≡ Some (a, x)
    → lookup (is_at (nat_cmp n)) (ids_of (λ q. test q || same_id q.id id) line) ≡ cond (is_at (nat_cmp a) n) (Some id) (lookup (is_at (nat_cmp n)) (ids_of test line))
ids_added test id a x n [] line found = absurd (cc)
ids_added test id a x n (e ∷ es) line found =
    elim (some_parts (same_id e.1.id id) e (a, x) (find (λ f. same_id f.1.id id) es) found) [
      | inl h ↦
          (let rest = ids_agree (λ q. test q || same_id q.id id) test es (all_weaker _ _ (λ f before. or_miss (test f.1) _ (unlike f h.0 before.1)) es line.0) in
          let m = lookup (is_at (nat_cmp n)) (ids_of test es) in
          let here : is_at (nat_cmp n) e.0 ≡ is_at (nat_cmp a) n = ap (λ f. is_at (nat_cmp n) f.0) h.1 ∙ at_back n a in
          ids_cons (λ q. test q || same_id q.id id) e es n (test e.1 || true) (ap (λ s. test e.1 || s) h.0) ∙
          (ap (λ o. cond (test e.1 || true) (cond (is_at (nat_cmp n) e.0) (Some e.1.id) o) o) (ap (lookup (is_at (nat_cmp n))) rest) ∙
          (ap (λ k. cond (test e.1 || true) (cond k (Some e.1.id) m) m) here ∙
          (ap (λ i. cond (test e.1 || true) (cond (is_at (nat_cmp a) n) (Some i) m) m) (same_id_is e.1.id id h.0) ∙
          (hit_case (test e.1) (is_at (nat_cmp a) n) id m ∙
          (ap (λ i. cond (is_at (nat_cmp a) n) (Some id) (cond (test e.1) (cond (is_at (nat_cmp a) n) (Some i) m) m)) (sym (same_id_is e.1.id id h.0)) ∙
          (ap (λ k. cond (is_at (nat_cmp a) n) (Some id) (cond (test e.1) (cond k (Some e.1.id) m) m)) (sym here) ∙
          ap (cond (is_at (nat_cmp a) n) (Some id)) (sym (ids_cons test e es n _ refl)))))))))
      | inr h ↦
          (let lower : e.0 < a = all_found (λ f. e.0 < f.0) (λ f. same_id f.1.id id) es (a, x) (all_weaker (Precedes (λ p. p.id) e) _ (λ f before. before.0) es line.0) h.1 in
          let m = lookup (is_at (nat_cmp n)) (ids_of test es) in
          ids_cons (λ q. test q || same_id q.id id) e es n (test e.1 || false) (ap (λ s. test e.1 || s) h.0) ∙
          (ap (λ o. cond (test e.1 || false) (cond (is_at (nat_cmp n) e.0) (Some e.1.id) o) o) (ids_added test id a x n es line.1 h.1) ∙
          (miss_case (test e.1) (is_at (nat_cmp a) n) (is_at (nat_cmp n) e.0) id e.1.id m (at_higher a n e.0 lower) ∙
          ap (cond (is_at (nat_cmp a) n) (Some id)) (sym (ids_cons test e es n _ refl)))))
    ]
  where
    or_miss : (b c : Bool) → c ≡ false → (b || c) ≡ b
    or_miss b c is = ap (λ s. b || s) is ∙ sym (or_none b)

    missed : (b : Bool) → (b ≡ true → ⊥) → b ≡ false
    missed true never = absurd (never refl)
    missed false never = refl

    unlike : (f : ℕ × Transaction) → same_id e.1.id id ≡ true → (e.1.id ≡ f.1.id → ⊥) → same_id f.1.id id ≡ false
    unlike f hit apart = missed _ (λ same. apart (same_id_is e.1.id id hit ∙ sym (same_id_is f.1.id id same)))

-- a touch that counts
pub touch_added : (line : List (ℕ × Transaction)) (old new : List (ℕ × TxnId)) (id : TxnId) (b : Bool) (a : ℕ) → IsLine (λ p. p.id) line → b ≡ true
    → arrival_of (λ p. same_id p.id id) line ≡ Some a
    → ((n : ℕ) → lookup (is_at (nat_cmp n)) new ≡ cond (is_at (nat_cmp a) n) (Some id) (lookup (is_at (nat_cmp n)) old))
    → (test : Transaction → Bool) → IsFound test line old → IsFound (λ q. test q || (b && same_id q.id id)) line new
touch_added line old new id b a in_line counts has put test is =
    let found = some_mapped (find (λ e. same_id e.1.id id) line) a has in
    subst (λ c. IsFound (λ q. test q || (c && same_id q.id id)) line new) (sym counts) (record {
      at = λ n. put n ∙ (ap (cond (is_at (nat_cmp a) n) (Some id)) (is.at n) ∙ sym (ids_added test id a found.0 n line in_line found.1));
    })

-- touches up to a place, and the one there
pub touches_more : (line : List (ℕ × Transaction)) (old new : List (ℕ × TxnId)) (site : ℕ) (any : Bool) (ts : List Touch) (i : ℕ) (t : Touch) → i < length ts → t ≡ get_or ts i t
    → (test : Transaction → Bool)
    → IsFound (λ q. (test q || list_any (λ u. chosen site any u && same_id q.id u.id) (take i ts)) || (chosen site any t && same_id q.id t.id)) line new
    → IsFound (λ q. test q || list_any (λ u. chosen site any u && same_id q.id u.id) (take (i + 1) ts)) line new
touches_more line old new site any ts i t within here test =
    found_same _ _ line new (λ q.
    let f : Touch → Bool = λ u. chosen site any u && same_id q.id u.id in
    or_later (test q) (list_any f (take i ts)) (f t) ∙
    ap (λ b. test q || b) (ap (λ b. list_any f (take i ts) || b) (or_none (f t)) ∙ (sym (list_any-append f (take i ts) (t ∷ [])) ∙ ap (list_any f) (sym (take_here ts i t within here)))))
  where
    take_here : {X : Type 0} (xs : List X) (i : ℕ) (x : X) → i < length xs → x ≡ get_or xs i x → take (i + 1) xs ≡ take i xs ++ x ∷ []
    take_here xs i x within here = grind (arith, common_steps)

pub none_yet : (line : List (ℕ × Transaction)) (found : List (ℕ × TxnId)) (test : Transaction → Bool) → IsFound test line found → IsFound (λ q. test q || false) line found
none_yet line found test = found_same test (λ q. test q || false) line found (λ q. or_none (test q))

chosen_case : (site : ℕ) (any : Bool) (key : List ℕ) (q p : Transaction) (w r : Bool) → writes_key p key ≡ w → contains_text (touched_by p).read key ≡ r
    → list_any (λ t. chosen site any t && same_id q.id t.id) (option_to_list (touch_of key p)) ≡ ((is_own site p && hits any key p) && same_id q.id p.id)
chosen_case site true key q p true r w is = rw w (sym (or_none _))
chosen_case site false key q p true r w is = rw w (sym (or_none _))
chosen_case site true key q p false true w is = rw (w, is) (sym (or_none _))
chosen_case site false key q p false true w is = rw (w, is) (sym (or_none _))
chosen_case site true key q p false false w is = rw (w, is) (none (is_own site p) (same_id q.id p.id))
  where
    none : (a b : Bool) → false ≡ ((a && false) && b)
    none true b = refl
    none false b = refl
chosen_case site false key q p false false w is = rw (w, is) (none (is_own site p) (same_id q.id p.id))
  where
    none : (a b : Bool) → false ≡ ((a && false) && b)
    none true b = refl
    none false b = refl

chosen_touches : (site : ℕ) (any : Bool) (key : List ℕ) (q : Transaction) (ps : List Transaction)
    → list_any (λ t. chosen site any t && same_id q.id t.id) (touches_in ps key) ≡ list_any (λ p. (is_own site p && hits any key p) && same_id q.id p.id) ps
chosen_touches site any key q [] = refl
chosen_touches site any key q (p ∷ ps) =
    ap (list_any (λ t. chosen site any t && same_id q.id t.id)) (touches_cons key p ps) ∙
    (list_any-append (λ t. chosen site any t && same_id q.id t.id) (option_to_list (touch_of key p)) (touches_in ps key) ∙
    (ap (λ b. b || list_any (λ t. chosen site any t && same_id q.id t.id) (touches_in ps key)) (chosen_case site any key q p _ _ refl refl) ∙
    ap (λ b. ((is_own site p && hits any key p) && same_id q.id p.id) || b) (chosen_touches site any key q ps)))

all_both : {X : Type 0} (P Q R : X → Type 0) → ((x : X) → P x → Q x → R x) → (xs : List X) → AllByRecursion P xs → AllByRecursion Q xs → AllByRecursion R xs
all_both P Q R join [] ps qs = tt
all_both P Q R join (x ∷ xs) ps qs = (join x ps.0 qs.0, all_both P Q R join xs ps.1 qs.1)

-- of a line, one passes where it has the id of one that passes
by_ids : (h : Transaction → Bool) (line : List (ℕ × Transaction)) → IsLine (λ p. p.id) line
    → AllByRecursion (λ e. list_any (λ p. h p && same_id e.1.id p.id) (values_of line) ≡ h e.1) line
by_ids h [] line = tt
by_ids h (x ∷ xs) line = (
  ap (λ s. (h x.1 && s) || list_any (λ p. h p && same_id x.1.id p.id) (values_of xs)) (same_id_itself x.1.id) ∙ (ap (λ b. (h x.1 && true) || b) (alone xs line.0) ∙ and_true (h x.1)),
  all_both _ _ _ (λ e before rest. ap (λ s. (h x.1 && s) || list_any (λ p. h p && same_id e.1.id p.id) (values_of xs)) (unlike e before.1) ∙ (and_false (h x.1) _ ∙ rest)) xs line.0 (by_ids h xs line.1),
)
  where
    missed : (b : Bool) → (b ≡ true → ⊥) → b ≡ false
    missed true never = absurd (never refl)
    missed false never = refl

    and_true : (b : Bool) → ((b && true) || false) ≡ b
    and_true true = refl
    and_true false = refl

    and_false : (b c : Bool) → ((b && false) || c) ≡ c
    and_false true c = refl
    and_false false c = refl

    unlike : (e : ℕ × Transaction) → (x.1.id ≡ e.1.id → ⊥) → same_id e.1.id x.1.id ≡ false
    unlike e apart = missed _ (λ same. apart (sym (same_id_is e.1.id x.1.id same)))

    alone : (es : List (ℕ × Transaction)) → AllByRecursion (Precedes (λ p. p.id) x) es → list_any (λ p. h p && same_id x.1.id p.id) (values_of es) ≡ false
    alone [] all = refl
    alone (e ∷ es) all =
        ap (λ s. (h e.1 && s) || list_any (λ p. h p && same_id x.1.id p.id) (values_of es)) (missed _ (λ same. all.0.1 (same_id_is x.1.id e.1.id same))) ∙
        (and_false (h e.1) _ ∙ alone es all.1)

key_step : (t o h r : Bool) → ((t || (o && h)) || (o && r)) ≡ (t || (o && (h || r)))
key_step true o h r = refl
key_step false true h r = refl
key_step false false h r = refl

-- the touches of one key, and those of the keys behind it
pub keys_more : (line : List (ℕ × Transaction)) (index : List (List ℕ × List Touch)) (site : ℕ) (any : Bool) (key : List ℕ) (keys all : List (List ℕ)) (ts : List Touch) (old mid new : List (ℕ × TxnId))
    → IsLine (λ p. p.id) line → IsIndexed (values_of line) index → all ≡ key ∷ keys → ts ≡ touched index key
    → ((test : Transaction → Bool) → IsFound test line old → IsFound (λ q. test q || list_any (λ t. chosen site any t && same_id q.id t.id) ts) line mid)
    → ((test : Transaction → Bool) → IsFound test line mid → IsFound (λ q. test q || (is_own site q && list_any (λ k. hits any k q) keys)) line new)
    → (test : Transaction → Bool) → IsFound test line old → IsFound (λ q. test q || (is_own site q && list_any (λ k. hits any k q) all)) line new
keys_more line index site any key keys all ts old mid new in_line state is touched_is first rest test found =
    let h : Transaction → Bool = λ q. is_own site q && hits any key q in
    let one : IsFound (λ q. test q || h q) line mid = found_agree _ _ line mid
    (all_weaker _ _ (λ e same. ap (λ b. test e.1 || b)
    (ap (list_any (λ t. chosen site any t && same_id e.1.id t.id)) (touched_is ∙ state.says key) ∙ (chosen_touches site any key e.1 (values_of line) ∙ same))) line (by_ids h line in_line))
    (first test found) in
    subst (λ ks. IsFound (λ q. test q || (is_own site q && list_any (λ k. hits any k q) ks)) line new) (sym is)
    (found_same _ _ line new (λ q. key_step (test q) (is_own site q) (hits any key q) (list_any (λ k. hits any k q) keys)) (rest (λ q. test q || h q) one))

both_filters : (p : Transaction) (site : ℕ) (es : List (ℕ × Transaction))
    → values_of (ids_of (λ q. is_own site q && conflict p q) es) ≡ map (λ q. q.id) (filter (conflict p) (filter (is_own site) (values_of es)))
both_filters p site [] = refl
both_filters p site (e ∷ es) = both _ _ refl refl (both_filters p site es)
  where
    both : (a b : Bool) → is_own site e.1 ≡ a → conflict p e.1 ≡ b
        → values_of (ids_of (λ q. is_own site q && conflict p q) es) ≡ map (λ q. q.id) (filter (conflict p) (filter (is_own site) (values_of es)))
        → values_of (ids_of (λ q. is_own site q && conflict p q) (e ∷ es)) ≡ map (λ q. q.id) (filter (conflict p) (filter (is_own site) (values_of (e ∷ es))))
    both true true own clash rest = rw (own, clash) (ap (λ is. e.1.id ∷ is) rest)
    both true false own clash rest = rw (own, clash) rest
    both false b own clash rest = rw own rest

ids_rise : (test : Transaction → Bool) (es : List (ℕ × Transaction)) → IsLine (λ p. p.id) es → Rises (ids_of test es)
ids_rise test es line = mapped (filter (λ e. test e.1) es) (pairs_filter _ _ es line)
  where
    above : (n : ℕ) (x : ℕ × Transaction) (es : List (ℕ × Transaction)) → AllByRecursion (Precedes (λ p. p.id) x) es → AllByRecursion (λ e. x.0 < e.0) (map {B = ℕ × TxnId} (λ e. (e.0, e.1.id)) es)
    above n x [] all = tt
    above n x (e ∷ es) all = (all.0.0, above n x es all.1)

    mapped : (es : List (ℕ × Transaction)) → IsLine (λ p. p.id) es → Rises (map {B = ℕ × TxnId} (λ e. (e.0, e.1.id)) es)
    mapped [] line = tt
    mapped (x ∷ xs) line = (above 0 x xs line.0, mapped xs line.1)

nothing_found : (line : List (ℕ × Transaction)) → ids_of (λ q. false) line ≡ []
nothing_found [] = refl
nothing_found (e ∷ es) = nothing_found es

last_step : (o w r : Bool) → ((false || (o && w)) || (o && r)) ≡ (o && (w || r))
last_step true w r = refl
last_step false w r = refl

-- the ids gathered by all keys
pub all_gathered : (p : Transaction) (site : ℕ) (written read : List (List ℕ)) (line : List (ℕ × Transaction)) (none wrote found : List (ℕ × TxnId)) (values : List TxnId) (yielded : List (Bor TxnId)) (ids : List TxnId)
    → IsLine (λ q. q.id) line → written ≡ (touched_by p).written → read ≡ (touched_by p).read → none ≡ []
    → ((test : Transaction → Bool) → IsFound test line none → IsFound (λ q. test q || (is_own site q && list_any (λ k. hits true k q) written)) line wrote)
    → ((test : Transaction → Bool) → IsFound test line wrote → IsFound (λ q. test q || (is_own site q && list_any (λ k. hits false k q) read)) line found)
    → IsStrictlySortedBy nat_cmp (keys_of found) → ids ≡ map (λ i. i.now) yielded → map (λ i. i.now) yielded ≡ values → values ≡ values_of found
    → ids ≡ map (λ q. q.id) (filter (conflict p) (filter (is_own site) (values_of line)))
all_gathered p site written read line none wrote found values yielded ids in_line is_written is_read empty first second sorted made all is =
    let start : IsFound (λ q. false) line none = record { at = λ n. ap (lookup (is_at (nat_cmp n))) (empty ∙ sym (nothing_found line)) } in
    let gathered : IsFound (λ q. is_own site q && conflict p q) line found =
    found_same _ _ line found (λ q.
    last_step (is_own site q) (list_any (λ k. hits true k q) written) (list_any (λ k. hits false k q) read) ∙
    ap (λ b. is_own site q && b) (ap (λ ks. list_any (λ k. hits true k q) ks || list_any (λ k. hits false k q) read) is_written ∙
    (ap (λ ks. list_any (λ k. hits true k q) (touched_by p).written || list_any (λ k. hits false k q) ks) is_read ∙ clash_is p q)))
    (second (λ q. false || (is_own site q && list_any (λ k. hits true k q) written)) (first (λ q. false) start)) in
    let same : found ≡ ids_of (λ q. is_own site q && conflict p q) line = same_entries found _ (rises_from found sorted) (ids_rise _ line in_line) gathered.at in
    made ∙ (all ∙ (is ∙ (ap values_of same ∙ both_filters p site line)))
