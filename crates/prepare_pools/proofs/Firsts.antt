-- The first of a line that passes one of several tests, by the first of each.
use Rattle.std.proofs.Common.{◌≡◌, inl, inr, ℕ, ◌+◌, ◌<◌, List, [], ◌∷◌, Bool, true, false, cond, ◌||◌, Option, Some, None, find, length, drop, get_or, refl, sym, ap, ◌∙◌, subst, arith}
use Rattle.std.specs.List.{AllByRecursion, list_any}
use Rattle.std.specs.Option.{option_map}
use Rattle.std.specs.Map.{values_of}
use Rattle.std.proofs.lemmas.Grind.{common_steps}
use Rattle.helios_model.specs.declared.ids.TxnId.{TxnId}
use Rattle.helios_model.specs.Ids.{same_id}
use Rattle.helios_model.specs.Texts.{contains_text}
use Rattle.helios_model.specs.Transactions.{Transaction, conflict, touched_by, writes_key}
use Rattle.prepare_pools.specs.declared.touch.Touch.{Touch}
use Rattle.prepare_pools.specs.Line.{IsLine, Precedes, arrival_of}
use Rattle.prepare_pools.specs.Touches.{IsIndexed, touched, touches_in}
use Rattle.prepare_pools.specs.Conflicts.{earlier, hits}
use Rattle.prepare_pools.proofs.Clashes.{clash_is}
use Rattle.prepare_pools.proofs.Lines.{all_found, all_weaker, some_parts}
use Rattle.prepare_pools.proofs.Sites.{same_id_is, same_id_itself}
use Rattle.prepare_pools.proofs.Waits.{found_value}

pub drop_here : {X : Type 0} (xs : List X) (i : ℕ) (x : X) → i < length xs → x ≡ get_or xs i x → drop i xs ≡ x ∷ drop (i + 1) xs
drop_here xs i x within here = grind (arith, common_steps)

-- a search that comes to what it looks for, and one that goes on
pub find_here : {X : Type 0} (test : X → Bool) (xs : List X) (i : ℕ) (x : X) → i < length xs → x ≡ get_or xs i x → find test (drop i xs) ≡ find test xs → test x ≡ true
    → Some x ≡ find test xs
find_here test xs i x within here so_far hit = sym (ap (find test) (drop_here xs i x within here) ∙ ap (λ b. cond b (Some x) (find test (drop (i + 1) xs))) hit) ∙ so_far

pub find_on : {X : Type 0} (test : X → Bool) (xs : List X) (i : ℕ) (x : X) → i < length xs → x ≡ get_or xs i x → find test (drop i xs) ≡ find test xs → test x ≡ false
    → find test (drop (i + 1) xs) ≡ find test xs
find_on test xs i x within here so_far miss = sym (ap (find test) (drop_here xs i x within here) ∙ ap (λ b. cond b (Some x) (find test (drop (i + 1) xs))) miss) ∙ so_far

touch_case : (any : Bool) (key : List ℕ) (p : Transaction) (ps : List Transaction) (w r : Bool) → writes_key p key ≡ w → contains_text (touched_by p).read key ≡ r
    → option_map {U = TxnId} (λ t. t.id) (find (λ t. any || t.write) (touches_in ps key)) ≡ option_map (λ q. q.id) (find (hits any key) ps)
    → option_map {U = TxnId} (λ t. t.id) (find (λ t. any || t.write) (touches_in (p ∷ ps) key)) ≡ option_map (λ q. q.id) (find (hits any key) (p ∷ ps))
touch_case true key p ps true r w is rest = rw w refl
touch_case false key p ps true r w is rest = rw w refl
touch_case true key p ps false true w is rest = rw (w, is) refl
touch_case false key p ps false true w is rest = rw (w, is) rest
touch_case true key p ps false false w is rest = rw (w, is) rest
touch_case false key p ps false false w is rest = rw (w, is) rest

-- the first touch of a key is of the first that touches it
pub first_touch_is : (any : Bool) (key : List ℕ) (ps : List Transaction)
    → option_map {U = TxnId} (λ t. t.id) (find (λ t. any || t.write) (touches_in ps key)) ≡ option_map (λ q. q.id) (find (hits any key) ps)
first_touch_is any key [] = refl
first_touch_is any key (p ∷ ps) = touch_case any key p ps _ _ refl refl (first_touch_is any key ps)

-- of a line, the first that passes is the first with its id
by_id : (test : Transaction → Bool) (es : List (ℕ × Transaction)) (e : ℕ × Transaction) → IsLine (λ p. p.id) es → find (λ f. test f.1) es ≡ Some e
    → find (λ f. same_id f.1.id e.1.id) es ≡ Some e
by_id test [] e line found = absurd (cc)
by_id test (x ∷ xs) e line found =
    elim (some_parts (test x.1) x e (find (λ f. test f.1) xs) found) [
      | inl h ↦ subst (λ y. find (λ f. same_id f.1.id y.1.id) (x ∷ xs) ≡ Some y) h.1
          (let own : same_id x.1.id x.1.id ≡ true = same_id_itself x.1.id in rw own refl)
      | inr h ↦
          (let apart = all_found (Precedes (λ p. p.id) x) (λ f. test f.1) xs e line.0 h.1 in
          let other : same_id x.1.id e.1.id ≡ false = unlike x.1.id e.1.id _ refl (λ same. apart.1 (same_id_is x.1.id e.1.id same)) in
          rw other (by_id test xs e line.1 h.1))
    ]
  where
    unlike : (a b : TxnId) (s : Bool) → same_id a b ≡ s → (same_id a b ≡ true → ⊥) → same_id a b ≡ false
    unlike a b true is never = absurd (never is)
    unlike a b false is never = is

id_found : (o : Option (ℕ × Transaction)) (id : TxnId) → option_map (λ p. p.id) (option_map (λ f. f.1) o) ≡ Some id
    → (e : ℕ × Transaction) × (o ≡ Some e) × (e.1.id ≡ id)
id_found None id e = absurd (cc)
id_found (Some e) id is = (e, refl, let same : e.1.id ≡ id = cc in same)

pub arrival_by_id : (any : Bool) (key : List ℕ) (line : List (ℕ × Transaction)) (index : List (List ℕ × List Touch)) (given : List Touch) (id : TxnId) → IsLine (λ p. p.id) line
    → IsIndexed (values_of line) index → given ≡ touched index key → option_map (λ t. t.id) (find (λ t. any || t.write) given) ≡ Some id
    → arrival_of (λ p. same_id p.id id) line ≡ arrival_of (hits any key) line
arrival_by_id any key line index given id in_line state is found =
    let first = sym (ap (option_map (λ q. q.id)) (found_value (hits any key) line)) ∙
    (sym (first_touch_is any key (values_of line)) ∙ (ap (λ ts. option_map (λ t. t.id) (find (λ t. any || t.write) ts)) (sym (is ∙ state.says key)) ∙ found)) in
    let e = id_found (find (λ f. hits any key f.1) line) id first in
    ap (λ i. arrival_of (λ p. same_id p.id i) line) (sym e.2) ∙ ap (option_map (λ f. f.0)) (by_id (hits any key) line e.0 in_line e.1 ∙ sym e.1)

none_map : {X Y : Type 0} (f : X → Y) (o : Option X) → option_map f o ≡ None → o ≡ None
none_map f None e = refl
none_map f (Some x) e = absurd (cc)

pub none_by_id : (any : Bool) (key : List ℕ) (line : List (ℕ × Transaction)) (index : List (List ℕ × List Touch)) (given : List Touch) → IsIndexed (values_of line) index
    → given ≡ touched index key → option_map {U = TxnId} (λ t. t.id) (find (λ t. any || t.write) given) ≡ None → None ≡ arrival_of (hits any key) line
none_by_id any key line index given state is found =
    let first = sym (ap (option_map (λ q. q.id)) (found_value (hits any key) line)) ∙
    (sym (first_touch_is any key (values_of line)) ∙ (ap (λ ts. option_map (λ t. t.id) (find (λ t. any || t.write) ts)) (sym (is ∙ state.says key)) ∙ found)) in
    sym (ap (option_map (λ f. f.0)) (none_map (λ f. f.1) _ (none_map (λ q. q.id) _ first)))

pub never_first : (es : List (ℕ × Transaction)) → arrival_of (λ q. false) es ≡ None
never_first [] = refl
never_first (e ∷ es) = never_first es

pub same_first : (t u : Transaction → Bool) → ((q : Transaction) → t q ≡ u q) → (es : List (ℕ × Transaction)) → find (λ e. t e.1) es ≡ find (λ e. u e.1) es
same_first t u same [] = refl
same_first t u same (e ∷ es) = ap (λ b. cond b (Some e) (find (λ f. t f.1) es)) (same e.1) ∙ ap (λ o. cond (u e.1) (Some e) o) (same_first t u same es)

later : (n : ℕ) (test : Transaction → Bool) (es : List (ℕ × Transaction)) → AllByRecursion (λ f. n < f.0) es → earlier (Some n) (arrival_of test es) ≡ Some n
later n test es above = later_case _ refl
  where
    later_case : (o : Option (ℕ × Transaction)) → find (λ f. test f.1) es ≡ o → earlier (Some n) (option_map (λ f. f.0) o) ≡ Some n
    later_case None is = refl
    later_case (Some e) is = let higher : n < e.0 = all_found (λ f. n < f.0) (λ f. test f.1) es e above is in ap Some (omega arith)

earlier_back : (a b : Option ℕ) → earlier a b ≡ earlier b a
earlier_back None None = refl
earlier_back None (Some b) = refl
earlier_back (Some a) None = refl
earlier_back (Some a) (Some b) = ap Some (omega arith)

-- the first that passes one of two tests is the earlier of the first of each
pub first_of_both : (t u : Transaction → Bool) (es : List (ℕ × Transaction)) → IsLine (λ p. p.id) es → earlier (arrival_of t es) (arrival_of u es) ≡ arrival_of (λ q. t q || u q) es
first_of_both t u [] line = refl
first_of_both t u (e ∷ es) line = both _ _ refl refl (first_of_both t u es line.1)
  where
    above : AllByRecursion (λ f. e.0 < f.0) es
    above = all_weaker (Precedes (λ p. p.id) e) _ (λ f before. before.0) es line.0

    both : (a b : Bool) → t e.1 ≡ a → u e.1 ≡ b → earlier (arrival_of t es) (arrival_of u es) ≡ arrival_of (λ q. t q || u q) es
        → earlier (arrival_of t (e ∷ es)) (arrival_of u (e ∷ es)) ≡ arrival_of (λ q. t q || u q) (e ∷ es)
    both true true ta ub rest = rw (ta, ub) (ap Some (omega arith))
    both true false ta ub rest = rw (ta, ub) (later e.0 u es above)
    both false true ta ub rest = rw (ta, ub) (earlier_back (arrival_of t es) (Some e.0) ∙ later e.0 t es above)
    both false false ta ub rest = rw (ta, ub) rest

-- the first that conflicts, by its number
pub conflict_at : (p : Transaction) (written read : List (List ℕ)) (line : List (ℕ × Transaction)) (w r : Option ℕ) (both : Option ℕ) → IsLine (λ q. q.id) line
    → written ≡ (touched_by p).written → read ≡ (touched_by p).read
    → w ≡ arrival_of (λ q. list_any (λ key. hits true key q) written) line → r ≡ arrival_of (λ q. list_any (λ key. hits false key q) read) line
    → both ≡ earlier w r → both ≡ arrival_of (conflict p) line
conflict_at p written read line w r both in_line is_written is_read w_is r_is is =
    is ∙ (ap (λ a. earlier a r) (w_is ∙ ap (λ ks. arrival_of (λ q. list_any (λ key. hits true key q) ks) line) is_written) ∙
    (ap (earlier (arrival_of (λ q. list_any (λ key. hits true key q) (touched_by p).written) line)) (r_is ∙ ap (λ ks. arrival_of (λ q. list_any (λ key. hits false key q) ks) line) is_read) ∙
    (first_of_both (λ q. list_any (λ key. hits true key q) (touched_by p).written) (λ q. list_any (λ key. hits false key q) (touched_by p).read) line in_line ∙
    ap (option_map (λ f. f.0)) (same_first (λ q. list_any (λ key. hits true key q) (touched_by p).written || list_any (λ key. hits false key q) (touched_by p).read) (conflict p) (clash_is p) line))))
