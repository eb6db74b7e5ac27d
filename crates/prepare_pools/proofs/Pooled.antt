-- The pools and their index: one more, one less, and whether one is held.
use Rattle.std.proofs.Common.{◌≡◌, inl, inr, ℕ, List, [], ◌∷◌, ◌++◌, Bool, true, false, not, cond, Option, Some, None, IsSome, is_some, Bor, find, filter, if◌then◌else◌, refl, sym, ap, ◌∙◌, subst, arith}
use Rattle.std.specs.List.{cons_option, list_any}
use Rattle.std.specs.Option.{option_copied, option_to_list}
use Rattle.std.specs.Map.{values_of}
use Rattle.std.proofs.lemmas.Bool.{or_parts}
use Rattle.std.proofs.lemmas.Bool.Decides.{nat_tests}
use Rattle.std.proofs.lemmas.List.Elements.{filter-append, filter_map-append}
use Rattle.helios_model.specs.declared.ids.TxnId.{TxnId}
use Rattle.helios_model.specs.Ids.{same_id}
use Rattle.helios_model.specs.Texts.{contains_text}
use Rattle.helios_model.specs.Transactions.{Transaction, touched_by, writes_key}
use Rattle.prepare_pools.specs.declared.touch.Touch.{Touch}
use Rattle.prepare_pools.specs.Line.{IsLine}
use Rattle.prepare_pools.specs.Touches.{IsIndexed, touch_of, touched, touches, touches_in, without_id}
use Rattle.prepare_pools.proofs.Lines.{all_missed, filter_same, no_other, some_parts}
use Rattle.prepare_pools.proofs.Sites.{append_none, same_id_is, same_id_itself}

any_found : {X : Type 0} (test : X → Bool) (xs : List X) → is_some (find test xs) ≡ list_any test xs
any_found test [] = refl
any_found test (x ∷ xs) = any_case test x xs _ refl (any_found test xs)
  where
    any_case : {X : Type 0} (test : X → Bool) (x : X) (xs : List X) (b : Bool) → test x ≡ b → is_some (find test xs) ≡ list_any test xs
        → is_some (find test (x ∷ xs)) ≡ list_any test (x ∷ xs)
    any_case test x xs true hit rest = rw hit refl
    any_case test x xs false hit rest = rw hit rest

copied_is_some : {X : Type 0} (o : Option (Bor X)) → is_some (option_copied o) ≡ is_some o
copied_is_some None = refl
copied_is_some (Some r) = refl

pub held_is : (test : Transaction → Bool) (list view : List Transaction) (o : Option (Bor Transaction)) (b : Bool) → list ≡ view → b ≡ is_some o
    → option_copied o ≡ find test list → b ≡ list_any test view
held_is test list view o b shown is found =
    is ∙ (sym (copied_is_some o) ∙ (ap is_some found ∙ (any_found test list ∙ ap (list_any test) shown)))

-- the last is found where no other has its id
pub found_last : (list : List Transaction) (p : Transaction) → list_any (λ q. same_id q.id p.id) list ≡ false → find (λ q. same_id q.id p.id) (list ++ p ∷ []) ≡ Some p
found_last [] p none = let own : same_id p.id p.id ≡ true = same_id_itself p.id in rw own refl
found_last (x ∷ xs) p none =
    let parts = or_parts (same_id x.id p.id) (list_any (λ q. same_id q.id p.id) xs) none in
    let other : same_id x.id p.id ≡ false = parts.0 in
    rw other (found_last xs p parts.1)

-- what is found is there, and is the transaction
pub found_some : (o : Option (Bor Transaction)) (p : Transaction) → option_copied o ≡ Some p → IsSome o
found_some None p e = absurd (cc)
found_some (Some r) p e = refl

pub added_found : (line list view : List Transaction) (p : Transaction) (id : TxnId) (o : Option (Bor Transaction)) → list ≡ view → list_any (λ q. same_id q.id p.id) view ≡ false
    → id ≡ p.id → line ≡ list ++ p ∷ [] → option_copied o ≡ find (λ q. same_id q.id id) line → option_copied o ≡ Some p
added_found line list view p id o shown none is added found =
    found ∙ (ap (λ i. find (λ q. same_id q.id i) line) is ∙ (ap (find (λ q. same_id q.id p.id)) added ∙
    found_last list p (subst (λ v. list_any (λ q. same_id q.id p.id) v ≡ false) (sym shown) none)))

pub added_is : (o : Option (Bor Transaction)) (r : Bor Transaction) (p : Transaction) → option_copied o ≡ Some p → o ≡ Some r → r.now ≡ p
added_is o r p found is = let both : Some r.now ≡ Some p = sym (ap option_copied is) ∙ found in cc

none_with : (id : TxnId) (list : List Transaction) → list_any (λ q. same_id q.id id) list ≡ false → find (λ q. same_id q.id id) list ≡ None
none_with id [] none = refl
none_with id (x ∷ xs) none =
    let parts = or_parts (same_id x.id id) (list_any (λ q. same_id q.id id) xs) none in
    let other : same_id x.id id ≡ false = parts.0 in
    rw other (none_with id xs parts.1)

either_none : (ts : List Touch) (b : Bool) → (if b then ts else ts) ≡ ts
either_none ts true = refl
either_none ts false = refl

touch_has_id : (key : List ℕ) (p : Transaction) (id : TxnId) (b w r : Bool) → same_id p.id id ≡ b → writes_key p key ≡ w → contains_text (touched_by p).read key ≡ r
    → (ts : List Touch) → without_id id (option_to_list (touch_of key p)) ≡ (if b then [] else option_to_list (touch_of key p))
touch_has_id key p id true true r same w is ts = rw w (rw same refl)
touch_has_id key p id false true r same w is ts = rw w (rw same refl)
touch_has_id key p id true false true same w is ts = rw (w, is) (rw same refl)
touch_has_id key p id false false true same w is ts = rw (w, is) (rw same refl)
touch_has_id key p id b false false same w is ts = rw (w, is) (sym (either_none [] b))

pub touches_cons : (key : List ℕ) (p : Transaction) (ps : List Transaction) → touches_in (p ∷ ps) key ≡ option_to_list (touch_of key p) ++ touches_in ps key
touches_cons key p ps = cons_is (touch_of key p) (touches_in ps key)
  where
    cons_is : (o : Option Touch) (ts : List Touch) → cons_option o ts ≡ option_to_list o ++ ts
    cons_is None ts = refl
    cons_is (Some t) ts = refl

-- what is left of the touches, where what has an id goes
pub touches_left : (id : TxnId) (list : List Transaction) (key : List ℕ) → touches_in (filter (λ q. not (same_id q.id id)) list) key ≡ without_id id (touches_in list key)
touches_left id [] key = refl
touches_left id (p ∷ ps) key = left_case _ refl (touches_left id ps key)
  where
    kept : (b : Bool) → same_id p.id id ≡ b → without_id id (touches_in (p ∷ ps) key) ≡ (if b then [] else option_to_list (touch_of key p)) ++ without_id id (touches_in ps key)
        → touches_in (filter (λ q. not (same_id q.id id)) ps) key ≡ without_id id (touches_in ps key)
        → touches_in (filter (λ q. not (same_id q.id id)) (p ∷ ps)) key ≡ without_id id (touches_in (p ∷ ps) key)
    kept true same split rest = rw same (rest ∙ sym split)
    kept false same split rest =
        rw same (touches_cons key p (filter (λ q. not (same_id q.id id)) ps) ∙ (ap (λ ts. option_to_list (touch_of key p) ++ ts) rest ∙ sym split))

    left_case : (b : Bool) → same_id p.id id ≡ b → touches_in (filter (λ q. not (same_id q.id id)) ps) key ≡ without_id id (touches_in ps key)
        → touches_in (filter (λ q. not (same_id q.id id)) (p ∷ ps)) key ≡ without_id id (touches_in (p ∷ ps) key)
    left_case b same rest =
        let split : without_id id (touches_in (p ∷ ps) key) ≡ (if b then [] else option_to_list (touch_of key p)) ++ without_id id (touches_in ps key) =
        ap (without_id id) (touches_cons key p ps) ∙ (filter-append _ (option_to_list (touch_of key p)) (touches_in ps key) ∙
        ap (λ ts. ts ++ without_id id (touches_in ps key)) (touch_has_id key p id b _ _ same refl refl [])) in
        kept b same split rest

-- an id that none has, no touch has
pub fresh : (id other : TxnId) (list view : List Transaction) (index : List (List ℕ × List Touch)) → list ≡ view → IsIndexed list index → other ≡ id
    → list_any (λ q. same_id q.id id) view ≡ false → (key : List ℕ) → without_id other (touched index key) ≡ touched index key
fresh id other list view index shown state is none key =
    let missing = all_missed (λ q. same_id q.id id) list (none_with id list (subst (λ v. list_any (λ q. same_id q.id id) v ≡ false) (sym shown) none)) in
    ap (λ i. without_id i (touched index key)) is ∙ (ap (without_id id) (state.says key) ∙ (sym (touches_left id list key) ∙
    (ap (λ ps. touches_in ps key) (filter_same (λ q. same_id q.id id) list missing) ∙ sym (state.says key))))

-- one more, and its touches behind the others
pub indexed_more : (list line : List Transaction) (p added : Transaction) (index more : List (List ℕ × List Touch)) → IsIndexed list index → added ≡ p → line ≡ list ++ p ∷ []
    → ((key : List ℕ) → touched more key ≡ touched index key ++ option_to_list (touch_of key added)) → IsIndexed line more
indexed_more list line p added index more state is last pushed = record {
  says = λ key.
      pushed key ∙ (ap (λ ts. ts ++ option_to_list (touch_of key added)) (state.says key) ∙ (ap (λ q. touches_in list key ++ option_to_list (touch_of key q)) is ∙
      (ap (λ ts. touches_in list key ++ ts) (sym (touches_cons key p [] ∙ append_none (option_to_list (touch_of key p)))) ∙
      (sym (filter_map-append (touch_of key) list (p ∷ [])) ∙ ap (λ ps. touches_in ps key) (sym last)))));
}

pub filter_values : (test : Transaction → Bool) (es : List (ℕ × Transaction)) → values_of (filter (λ e. test e.1) es) ≡ filter test (values_of es)
filter_values test [] = refl
filter_values test (e ∷ es) = value_case test e es _ refl (filter_values test es)
  where
    value_case : (test : Transaction → Bool) (e : ℕ × Transaction) (es : List (ℕ × Transaction)) (b : Bool) → test e.1 ≡ b
        → values_of (filter (λ e. test e.1) es) ≡ filter test (values_of es) → values_of (filter (λ e. test e.1) (e ∷ es)) ≡ filter test (values_of (e ∷ es))
    value_case test e es true hit rest = rw hit (ap (λ ps. e.1 ∷ ps) rest)
    value_case test e es false hit rest = rw hit rest

-- what was added and refused is gone
pub back_again : (list view : List Transaction) (p : Transaction) (id : TxnId) (line back : List (ℕ × Transaction)) → list ≡ view → list_any (λ q. same_id q.id p.id) view ≡ false → id ≡ p.id
    → values_of line ≡ list ++ p ∷ [] → back ≡ filter (λ e. not (same_id e.1.id id)) line → values_of back ≡ list
back_again list view p id line back shown none is added removed =
    let missing = all_missed (λ q. same_id q.id p.id) list (none_with p.id list (subst (λ v. list_any (λ q. same_id q.id p.id) v ≡ false) (sym shown) none)) in
    let own : same_id p.id p.id ≡ true = same_id_itself p.id in
    let tail : filter (λ q. not (same_id q.id p.id)) (p ∷ []) ≡ [] = rw own refl in
    ap values_of removed ∙ (filter_values (λ q. not (same_id q.id id)) line ∙ (ap (λ i. filter (λ q. not (same_id q.id i)) (values_of line)) is ∙
    (ap (filter (λ q. not (same_id q.id p.id))) added ∙ (filter-append (λ q. not (same_id q.id p.id)) list (p ∷ []) ∙
    (ap (λ ps. filter (λ q. not (same_id q.id p.id)) list ++ ps) tail ∙ (append_none (filter (λ q. not (same_id q.id p.id)) list) ∙
    filter_same (λ q. same_id q.id p.id) list missing))))))

pub indexed_same : (list line : List Transaction) (index new : List (List ℕ × List Touch)) → IsIndexed list index → line ≡ list
    → ((key : List ℕ) → touched new key ≡ touched index key) → IsIndexed line new
indexed_same list line index new state is same = record { says = λ key. same key ∙ (state.says key ∙ ap (λ ps. touches_in ps key) (sym is)) }

same_back : (a b : TxnId) → same_id a b ≡ same_id b a
same_back a b = grind (arith, nat_tests)

filter_flip : (id : TxnId) (ps : List Transaction) → filter (λ q. not (same_id q.id id)) ps ≡ filter (λ q. not (same_id id q.id)) ps
filter_flip id [] = refl
filter_flip id (p ∷ ps) =
    ap (λ b. cond (not b) (p ∷ filter (λ q. not (same_id q.id id)) ps) (filter (λ q. not (same_id q.id id)) ps)) (same_back p.id id) ∙
    ap (λ qs. cond (not (same_id id p.id)) (p ∷ qs) qs) (filter_flip id ps)

-- the transactions after one is taken out
pub removed_values : (id : TxnId) (line new : List (ℕ × Transaction)) (view : List Transaction) → values_of line ≡ view → new ≡ filter (λ e. not (same_id e.1.id id)) line
    → values_of new ≡ filter (λ p. not (same_id id p.id)) view
removed_values id line new view shown removed =
    ap values_of removed ∙ (filter_values (λ q. not (same_id q.id id)) line ∙ (filter_flip id (values_of line) ∙ ap (filter (λ p. not (same_id id p.id))) shown))

untouching : (key : List ℕ) (p : Transaction) → touches p key ≡ false → touch_of key p ≡ None
untouching key p none =
    let parts = or_parts (writes_key p key) (contains_text (touched_by p).read key) none in
    let write : writes_key p key ≡ false = parts.0 in
    let read : contains_text (touched_by p).read key ≡ false = parts.1 in
    rw (write, read) refl

-- one that does not touch a key is not missed there
silent : (id : TxnId) (p : Transaction) (key : List ℕ) (es : List (ℕ × Transaction)) → IsLine (λ q. q.id) es → find (λ q. same_id q.id id) (values_of es) ≡ Some p
    → touch_of key p ≡ None → touches_in (values_of (filter (λ e. not (same_id e.1.id id)) es)) key ≡ touches_in (values_of es) key
silent id p key [] line found none = refl
silent id p key (e ∷ es) line found none =
    elim (some_parts (same_id e.1.id id) e.1 p (find (λ q. same_id q.id id) (values_of es)) found) [
      | inl h ↦
          (let hit : same_id e.1.id id ≡ true = h.0 in
          let quiet : touch_of key e.1 ≡ None = ap (touch_of key) h.1 ∙ none in
          let others = no_other (λ q. q.id) (λ q. same_id q.id id) (λ a b one other. same_id_is a.id id one ∙ sym (same_id_is b.id id other)) e es h.0 line.0 in
          rw hit (ap (λ xs. touches_in (values_of xs) key) (filter_same (λ f. same_id f.1.id id) es others) ∙
          sym (touches_cons key e.1 (values_of es) ∙ ap (λ o. option_to_list o ++ touches_in (values_of es) key) quiet)))
      | inr h ↦
          (let miss : same_id e.1.id id ≡ false = h.0 in
          rw miss (touches_cons key e.1 (values_of (filter (λ f. not (same_id f.1.id id)) es)) ∙
          (ap (λ ts. option_to_list (touch_of key e.1) ++ ts) (silent id p key es line.1 h.1 none) ∙ sym (touches_cons key e.1 (values_of es)))))
    ]

found_has : (id : TxnId) (list : List Transaction) (p : Transaction) → find (λ q. same_id q.id id) list ≡ Some p → same_id p.id id ≡ true
found_has id [] p found = absurd (cc)
found_has id (x ∷ xs) p found =
    elim (some_parts (same_id x.id id) x p (find (λ q. same_id q.id id) xs) found) [
      | inl h ↦ subst (λ q. same_id q.id id ≡ true) h.1 h.0
      | inr h ↦ found_has id xs p h.1
    ]

-- one taken out, and its touches with it
pub indexed_less : (id : TxnId) (p : Transaction) (line new : List (ℕ × Transaction)) (index less : List (List ℕ × List Touch)) → IsIndexed (values_of line) index
    → IsLine (λ q. q.id) line → find (λ q. same_id q.id id) (values_of line) ≡ Some p → new ≡ filter (λ e. not (same_id e.1.id id)) line
    → ((key : List ℕ) → touched less key ≡ (if touches p key then without_id p.id (touched index key) else touched index key)) → IsIndexed (values_of new) less
indexed_less id p line new index less state in_line found removed out = record {
  says = λ key. less_case key (touches p key) refl (out key);
}
  where
    less_case : (key : List ℕ) (b : Bool) → touches p key ≡ b → touched less key ≡ (if b then without_id p.id (touched index key) else touched index key)
        → touched less key ≡ touches_in (values_of new) key
    less_case key true is out =
        out ∙ (ap (λ i. without_id i (touched index key)) (same_id_is p.id id (found_has id (values_of line) p found)) ∙ (ap (without_id id) (state.says key) ∙
        (sym (touches_left id (values_of line) key) ∙ ap (λ ps. touches_in ps key) (sym (ap values_of removed ∙ filter_values (λ q. not (same_id q.id id)) line)))))
    less_case key false is out =
        out ∙ (state.says key ∙ (sym (silent id p key line in_line found (untouching key p is)) ∙ ap (λ xs. touches_in (values_of xs) key) (sym removed)))

-- none had the id, so none is missed
pub none_out : (id : TxnId) (line new : List (ℕ × Transaction)) → find (λ q. same_id q.id id) (values_of line) ≡ None → new ≡ filter (λ e. not (same_id e.1.id id)) line
    → values_of new ≡ values_of line
none_out id line new none removed =
    ap values_of removed ∙ (filter_values (λ q. not (same_id q.id id)) line ∙
    filter_same (λ q. same_id q.id id) (values_of line) (all_missed (λ q. same_id q.id id) (values_of line) none))
