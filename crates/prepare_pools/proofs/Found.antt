-- What a line gives of its transactions: one by its number, the first of a site's, and the ids of a site's.
use Rattle.std.proofs.Common.{◌≡◌, ℕ, zero, suc, Bor, ◌<◌, List, [], ◌∷◌, Bool, true, false, Some, None, find, filter, map, length, refl, sym, ap, ◌∙◌, arith}
use Rattle.std.specs.List.{slice_get}
use Rattle.std.specs.Option.{option_map}
use Rattle.std.specs.Ordering.{nat_cmp}
use Rattle.std.specs.Map.{lookup, values_of}
use Rattle.std.specs.BTreeMap.{is_at}
use Rattle.std.proofs.lemmas.Bool.{eqb-true}
use Rattle.helios_model.specs.declared.ids.TxnId.{TxnId}
use Rattle.helios_model.specs.Transactions.{Transaction}
use Rattle.helios_model.specs.Log.{is_own}
use Rattle.prepare_pools.specs.Line.{IsLine, arrival_of}
use Rattle.prepare_pools.specs.Waiting.{of_site}
use Rattle.prepare_pools.proofs.Lines.{line_found, none_mapped}
use Rattle.prepare_pools.proofs.Waits.{found_value, some_mapped}

-- the number of the first that passes leads to it
pub value_at : (test : Transaction → Bool) (es view : List (ℕ × Transaction)) (a : ℕ) → es ≡ view → IsLine (λ p. p.id) es → arrival_of test view ≡ Some a
    → lookup (is_at (nat_cmp a)) es ≡ find test (values_of view)
value_at test es view a shown line has =
    let found = some_mapped (find (λ e. test e.1) es) a (ap (arrival_of test) shown ∙ has) in
    line_found (λ p. p.id) test es a found.0 line found.1 ∙
    (sym (found_value test es ∙ ap (option_map (λ f. f.1)) found.1) ∙ ap (λ v. find test (values_of v)) shown)

pub none_at : (test : Transaction → Bool) (view : List (ℕ × Transaction)) → arrival_of test view ≡ None → None ≡ find test (values_of view)
none_at test view has = sym (found_value test view ∙ ap (option_map (λ f. f.1)) (none_mapped _ _ has))

some_first : (x y : ℕ × ℕ) → Some x ≡ Some y → x.0 ≡ y.0
some_first x y e = let same : x ≡ y = cc in ap (λ p. p.0) same

first_case : (k : ℕ) (e : ℕ × Transaction) (es : List (ℕ × Transaction)) (a t : ℕ) (b : Bool) → is_own k e.1 ≡ b
    → (slice_get (of_site k es) 0 ≡ Some (a, t) → arrival_of (is_own k) es ≡ Some a) → slice_get (of_site k (e ∷ es)) 0 ≡ Some (a, t)
    → arrival_of (is_own k) (e ∷ es) ≡ Some a
first_case k e es a t true own rest first =
    let head : Some (e.0, e.1.id.time) ≡ Some (a, t) = rw own at first in
    let here : e.0 ≡ a = some_first (e.0, e.1.id.time) (a, t) head in
    rw own (ap Some here)
first_case k e es a t false own rest first = rw own (rest (rw own at first))

pub first_is : (k : ℕ) (es : List (ℕ × Transaction)) (a t : ℕ) → slice_get (of_site k es) 0 ≡ Some (a, t) → arrival_of (is_own k) es ≡ Some a
first_is k [] a t first = absurd (cc)
first_is k (e ∷ es) a t first = first_case k e es a t _ refl (first_is k es a t) first

missing_case : (k : ℕ) (e : ℕ × Transaction) (es : List (ℕ × Transaction)) (b : Bool) → is_own k e.1 ≡ b
    → (length (of_site k es) ≡ 0 → arrival_of (is_own k) es ≡ None) → length (of_site k (e ∷ es)) ≡ 0 → arrival_of (is_own k) (e ∷ es) ≡ None
missing_case k e es true own rest none = absurd (let some : suc (length (of_site k es)) ≡ 0 = rw own at none in omega arith)
missing_case k e es false own rest none = rw own (rest (rw own at none))

pub first_missing : (k : ℕ) (es : List (ℕ × Transaction)) → length (of_site k es) ≡ 0 → arrival_of (is_own k) es ≡ None
first_missing k [] none = refl
first_missing k (e ∷ es) none = missing_case k e es _ refl (first_missing k es) none

pub zero_from : (n : ℕ) → (0 < n → ⊥) → n ≡ 0
zero_from zero never = refl
zero_from (suc n) never = absurd (never (omega arith))

id_case : (k : ℕ) (e : ℕ × Transaction) (es : List (ℕ × Transaction)) (b : Bool) → is_own k e.1 ≡ b
    → map {B = TxnId} (λ n. record { site = k; time = n }) (values_of (of_site k es)) ≡ map (λ p. p.id) (filter (is_own k) (values_of es))
    → map {B = TxnId} (λ n. record { site = k; time = n }) (values_of (of_site k (e ∷ es))) ≡ map (λ p. p.id) (filter (is_own k) (values_of (e ∷ es)))
id_case k e es true own rest =
    let site : e.1.id.site ≡ k = eqb-true e.1.id.site k own in
    let id : TxnId = e.1.id in
    let same : record { site = k; time = id.time } ≡ id = ap (λ n. record { site = n; time = id.time }) (sym site) in
    rw own (ap (λ i. i ∷ map (λ n. record { site = k; time = n }) (values_of (of_site k es))) same ∙ ap (λ is. id ∷ is) rest)
id_case k e es false own rest = rw own rest

-- a site's times are the times of its ids
pub site_ids : (k : ℕ) (es : List (ℕ × Transaction))
    → map {B = TxnId} (λ n. record { site = k; time = n }) (values_of (of_site k es)) ≡ map (λ p. p.id) (filter (is_own k) (values_of es))
site_ids k [] = refl
site_ids k (e ∷ es) = id_case k e es _ refl (site_ids k es)

shown_map : {Y : Type 0} (f : ℕ → Y) (ts : List (Bor ℕ)) → map (λ t. f t.now) ts ≡ map f (map (λ t. t.now) ts)
shown_map f [] = refl
shown_map f (t ∷ ts) = ap (λ ys. f t.now ∷ ys) (shown_map f ts)

-- ids made of all the times of a site
pub ids_are : (k : ℕ) (view : List (ℕ × Transaction)) (times : List (ℕ × ℕ)) (yielded : List (Bor ℕ)) (ids : List TxnId)
    → ids ≡ map {B = TxnId} (λ t. record { site = k; time = t.now }) yielded → map (λ t. t.now) yielded ≡ values_of times → times ≡ of_site k view
    → ids ≡ map (λ p. p.id) (filter (is_own k) (values_of view))
ids_are k view times yielded ids made all read =
    made ∙ (shown_map {Y = TxnId} (λ n. record { site = k; time = n }) yielded ∙ (ap (map {B = TxnId} (λ n. record { site = k; time = n })) (all ∙ ap values_of read) ∙ site_ids k view))
