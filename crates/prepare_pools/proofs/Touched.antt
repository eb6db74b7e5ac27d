-- The touches of a transaction, as its keys are touched one by one and taken out again.
use Rattle.std.proofs.Common.{◌≡◌, ℕ, List, [], ◌∷◌, ◌++◌, Bool, true, false, not, ◌||◌, IsTrue, filter, map, if◌then◌else◌, refl, sym, ap, ◌∙◌, subst, append_assoc}
use Rattle.std.specs.List.{list_any}
use Rattle.std.specs.Option.{option_to_list}
use Rattle.std.proofs.lemmas.Bool.{and_parts, not-true, or_parts}
use Rattle.std.proofs.lemmas.List.Elements.{filter-append}
use Rattle.helios_model.specs.declared.ids.TxnId.{TxnId}
use Rattle.helios_model.specs.Ids.{same_id}
use Rattle.helios_model.specs.Texts.{all_differ, contains_text, same_text}
use Rattle.helios_model.specs.Transactions.{Transaction, touched_by, writes_key}
use Rattle.prepare_pools.specs.declared.touch.Touch.{Touch}
use Rattle.prepare_pools.specs.Touches.{KeepsRest, one_touch, touch_of, touched, touches, touches_by, without_id}
use Rattle.prepare_pools.proofs.Sites.{append_none, same_id_itself}
use Rattle.prepare_pools.proofs.Lists.{same_text_is}

none_left : (p : Transaction) (write b : Bool) → without_id p.id (if b then record { id = p.id; write = write } ∷ [] else []) ≡ []
none_left p write true = let own : same_id p.id p.id ≡ true = same_id_itself p.id in rw own refl
none_left p write false = refl

one_left : (p : Transaction) (write : Bool) (key : List ℕ) (b : Bool) → without_id p.id (if b then one_touch p write key else []) ≡ []
one_left p write key true = none_left p write (write || not (writes_key p key))
one_left p write key false = refl

-- a transaction's own touches go with it
without_own : (p : Transaction) (write : Bool) (keys : List (List ℕ)) (q : List ℕ) → without_id p.id (touches_by p write keys q) ≡ []
without_own p write [] q = refl
without_own p write (key ∷ keys) q =
    filter-append _ (if same_text key q then one_touch p write key else []) (touches_by p write keys q) ∙
    (ap (λ ts. ts ++ without_id p.id (touches_by p write keys q)) (one_left p write key (same_text key q)) ∙ without_own p write keys q)

-- a key that is not among them is not touched
untouched : (p : Transaction) (write : Bool) (keys : List (List ℕ)) (q : List ℕ) → contains_text keys q ≡ false → touches_by p write keys q ≡ []
untouched p write [] q none = refl
untouched p write (key ∷ keys) q none =
    let parts = or_parts (same_text key q) (contains_text keys q) none in
    let first : same_text key q ≡ false = parts.0 in
    rw first (untouched p write keys q parts.1)

-- one key is touched, and of the others some
pub keeps_step : (p : Transaction) (write : Bool) (key : List ℕ) (keys all : List (List ℕ)) (old mid new : List (List ℕ × List Touch)) → all ≡ key ∷ keys
    → ((q : List ℕ) → touched mid q ≡ touched old q ++ (if same_text key q then one_touch p write key else []))
    → KeepsRest p.id keys mid new → KeepsRest p.id all old new
keeps_step p write key keys all old mid new is first keeps =
    subst (λ ks. KeepsRest p.id ks old new) (sym is) (record {
      others = λ q none. (
          let parts = or_parts (same_text key q) (contains_text keys q) none in
          keeps.others q parts.1 ∙ (first q ∙ (ap (λ b. touched old q ++ (if b then one_touch p write key else [])) parts.0 ∙ append_none (touched old q))));
      rest = λ q.
          keeps.rest q ∙ (ap (without_id p.id) (first q) ∙ (filter-append _ (touched old q) (if same_text key q then one_touch p write key else []) ∙
          (ap (λ ts. without_id p.id (touched old q) ++ ts) (one_left p write key (same_text key q)) ∙ append_none (without_id p.id (touched old q)))));
    })

pub filter_twice : {X : Type 0} (test : X → Bool) (xs : List X) → filter test (filter test xs) ≡ filter test xs
filter_twice test [] = refl
filter_twice test (x ∷ xs) = twice test x xs _ refl (filter_twice test xs)
  where
    twice : {X : Type 0} (test : X → Bool) (x : X) (xs : List X) (b : Bool) → test x ≡ b → filter test (filter test xs) ≡ filter test xs
        → filter test (filter test (x ∷ xs)) ≡ filter test (x ∷ xs)
    twice test x xs true kept rest = rw kept (rw kept (ap (λ ys. x ∷ ys) rest))
    twice test x xs false kept rest = rw kept rest

-- taken out of some keys, and then of others
pub out_of_both : (id : TxnId) (b c : Bool) (old mid new : List Touch) → mid ≡ (if b then without_id id old else old) → new ≡ (if c then without_id id mid else mid)
    → new ≡ (if b || c then without_id id old else old)
out_of_both id true true old mid new first then_new = then_new ∙ (ap (without_id id) first ∙ filter_twice _ old)
out_of_both id true false old mid new first then_new = then_new ∙ first
out_of_both id false true old mid new first then_new = then_new ∙ ap (without_id id) first
out_of_both id false false old mid new first then_new = then_new ∙ first

-- all that a transaction writes is touched, and some of what it reads; then it is taken out of both
pub out_again : (p : Transaction) (given reads : List (List ℕ)) (old mid new back : List (List ℕ × List Touch)) → given ≡ (touched_by p).written → reads ≡ (touched_by p).read
    → ((q : List ℕ) → without_id p.id (touched old q) ≡ touched old q) → ((q : List ℕ) → touched mid q ≡ touched old q ++ touches_by p true given q)
    → KeepsRest p.id reads mid new
    → ((q : List ℕ) → touched back q ≡ (if touches p q then without_id p.id (touched new q) else touched new q)) → (q : List ℕ) → touched back q ≡ touched old q
out_again p given reads old mid new back written read fresh pushed keeps out q = out_case (touches p q) refl (out q)
  where
    out_case : (b : Bool) → touches p q ≡ b → touched back q ≡ (if b then without_id p.id (touched new q) else touched new q) → touched back q ≡ touched old q
    out_case true is out =
        out ∙ (keeps.rest q ∙ (ap (without_id p.id) (pushed q) ∙ (filter-append _ (touched old q) (touches_by p true given q) ∙
        (ap (λ ts. without_id p.id (touched old q) ++ ts) (without_own p true given q) ∙ (append_none (without_id p.id (touched old q)) ∙ fresh q)))))
    out_case false is out =
        let parts = or_parts (writes_key p q) (contains_text (touched_by p).read q) is in
        out ∙ (keeps.others q (ap (λ ks. contains_text ks q) read ∙ parts.1) ∙ (pushed q ∙
        (ap (λ ts. touched old q ++ ts) (untouched p true given q (ap (λ ks. contains_text ks q) written ∙ parts.0)) ∙ append_none (touched old q))))

texts_of : {X : Type 0} (key : X → List ℕ) (xs : List X) (q : List ℕ) → contains_text (map key xs) q ≡ list_any (λ x. same_text (key x) q) xs
texts_of key [] q = refl
texts_of key (x ∷ xs) q = ap (λ b. same_text (key x) q || b) (texts_of key xs q)

by_case : {X : Type 0} (p : Transaction) (write : Bool) (key : X → List ℕ) (x : X) (xs : List X) (q : List ℕ) (b : Bool) → same_text (key x) q ≡ b
    → all_differ key (x ∷ xs) ≡ true
    → touches_by p write (map key xs) q ≡ (if contains_text (map key xs) q then one_touch p write q else [])
    → touches_by p write (map key (x ∷ xs)) q ≡ (if contains_text (map key (x ∷ xs)) q then one_touch p write q else [])
by_case p write key x xs q true same differ rest =
    let here : key x ≡ q = same_text_is (key x) q same in
    let others : list_any (λ other. same_text (key other) (key x)) xs ≡ false = not-true _ (and_parts _ _ differ).0 in
    let none : contains_text (map key xs) q ≡ false = texts_of key xs q ∙ subst (λ k. list_any (λ other. same_text (key other) k) xs ≡ false) here others in
    rw same (ap (λ ts. one_touch p write (key x) ++ ts) (untouched p write (map key xs) q none) ∙ (append_none (one_touch p write (key x)) ∙ ap (one_touch p write) here))
by_case p write key x xs q false same differ rest = rw same rest

-- of keys that differ, one touch at most
by_keys : {X : Type 0} (p : Transaction) (write : Bool) (key : X → List ℕ) (xs : List X) (q : List ℕ) → all_differ key xs ≡ true
    → touches_by p write (map key xs) q ≡ (if contains_text (map key xs) q then one_touch p write q else [])
by_keys p write key [] q differ = refl
by_keys p write key (x ∷ xs) q differ = by_case p write key x xs q _ refl differ (by_keys p write key xs q (and_parts _ _ differ).1)

both_case : (p : Transaction) (q : List ℕ) (w r : Bool) → writes_key p q ≡ w → contains_text (touched_by p).read q ≡ r
    → (if writes_key p q then one_touch p true q else []) ++ (if contains_text (touched_by p).read q then one_touch p false q else []) ≡ option_to_list (touch_of q p)
both_case p q true true w r = rw (w, r) refl
both_case p q true false w r = rw (w, r) refl
both_case p q false true w r = rw (w, r) refl
both_case p q false false w r = rw (w, r) refl

-- what a transaction writes, and then what it reads, is what it touches
pub all_touched : (p : Transaction) (written read : List (List ℕ)) (old mid new : List (List ℕ × List Touch)) → written ≡ (touched_by p).written → read ≡ (touched_by p).read
    → IsTrue (all_differ (λ w. w.key) p.writes) → IsTrue (all_differ (λ r. r.key) p.reads)
    → ((q : List ℕ) → touched mid q ≡ touched old q ++ touches_by p true written q) → ((q : List ℕ) → touched new q ≡ touched mid q ++ touches_by p false read q)
    → (q : List ℕ) → touched new q ≡ touched old q ++ option_to_list (touch_of q p)
all_touched p written read old mid new is_written is_read writes_differ reads_differ first second q =
    let wrote : touches_by p true written q ≡ (if writes_key p q then one_touch p true q else []) =
    ap (λ ks. touches_by p true ks q) is_written ∙ by_keys p true (λ w. w.key) p.writes q writes_differ in
    let has_read : touches_by p false read q ≡ (if contains_text (touched_by p).read q then one_touch p false q else []) =
    ap (λ ks. touches_by p false ks q) is_read ∙ by_keys p false (λ r. r.key) p.reads q reads_differ in
    second q ∙ (ap (λ ts. ts ++ touches_by p false read q) (first q) ∙
    (append_assoc (touched old q) (touches_by p true written q) (touches_by p false read q) ∙
    ap (λ ts. touched old q ++ ts) (ap (λ ts. ts ++ touches_by p false read q) wrote ∙
    (ap (λ ts. (if writes_key p q then one_touch p true q else []) ++ ts) has_read ∙ both_case p q _ _ refl refl))))

-- taken out of what a transaction writes, and then of what it reads
pub out_of_parts : (p : Transaction) (one two : TxnId) (written read : List (List ℕ)) (old mid new : List (List ℕ × List Touch)) → one ≡ p.id → two ≡ p.id
    → written ≡ (touched_by p).written → read ≡ (touched_by p).read
    → ((q : List ℕ) → touched mid q ≡ (if contains_text written q then without_id one (touched old q) else touched old q))
    → ((q : List ℕ) → touched new q ≡ (if contains_text read q then without_id two (touched mid q) else touched mid q))
    → (q : List ℕ) → touched new q ≡ (if touches p q then without_id p.id (touched old q) else touched old q)
out_of_parts p one two written read old mid new first_id second_id is_written is_read first second q =
    out_of_both p.id (writes_key p q) (contains_text (touched_by p).read q) (touched old q) (touched mid q) (touched new q)
    (first q ∙ (ap (λ id. if contains_text written q then without_id id (touched old q) else touched old q) first_id ∙
    ap (λ ks. if contains_text ks q then without_id p.id (touched old q) else touched old q) is_written))
    (second q ∙ (ap (λ id. if contains_text read q then without_id id (touched mid q) else touched mid q) second_id ∙
    ap (λ ks. if contains_text ks q then without_id p.id (touched mid q) else touched mid q) is_read))
