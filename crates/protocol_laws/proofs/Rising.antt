use Rattle.std.proofs.Common.{◌≡◌, ◌∙◌, ap, refl, sym, subst, ℕ, Bool, ◌-◌, ◌<◌, ◌≤◌, max, ◌⊎◌, inl, inr, List, [], ◌∷◌, ◌++◌, nat_eq, nat_le, nat_lt, filter, eq-eqb, eqb-true, arith}
use Rattle.std.proofs.lemmas.List.{append-nil}
use Rattle.std.proofs.lemmas.List.Elements.{filter-append}
use Rattle.std.proofs.lemmas.Bool.{cases_lt, cond_both, ltb-true, leb-true, lt-ltb, le-ltb, le-leb, lt-leb, ne_eqb}
use Rattle.helios_model.specs.declared.records.Record.{Record}
use Rattle.helios_model.specs.Log.{origin, own_time}
use Rattle.helios_model.specs.Sequences.{Mem, Before, Rising, last_own, of, upto, over}
use Rattle.protocol_laws.proofs.Sequences.{mem_filter, mem_of_filter, filter_yes, filter_no, filter_none, filter_all, filter_within, filter_swap}

pub mem_of : (k : ℕ) (r : Record) (rs : List Record) → Mem r rs → origin r ≡ k → Mem r (of k rs)
mem_of k r rs h its = mem_filter (λ x. nat_eq (origin x) k) r rs h (eq-eqb (origin r) k its)

pub of_mem : (k : ℕ) (r : Record) (rs : List Record) → Mem r (of k rs) → Mem r rs × (origin r ≡ k)
of_mem k r rs h =
    let parts = mem_of_filter (λ x. nat_eq (origin x) k) r rs h in
    (parts.0, eqb-true (origin r) k parts.1)

pub mem_upto : (time : ℕ) (r : Record) (rs : List Record) → Mem r rs → own_time r ≤ time → Mem r (upto time rs)
mem_upto time r rs h low = mem_filter (λ x. nat_le (own_time x) time) r rs h (le-leb (own_time r) time low)

pub upto_mem : (time : ℕ) (r : Record) (rs : List Record) → Mem r (upto time rs) → Mem r rs × (own_time r ≤ time)
upto_mem time r rs h =
    let parts = mem_of_filter (λ x. nat_le (own_time x) time) r rs h in
    (parts.0, leb-true (own_time r) time parts.1)

pub over_mem : (time : ℕ) (r : Record) (rs : List Record) → Mem r (over time rs) → Mem r rs × (time < own_time r)
over_mem time r rs h =
    let parts = mem_of_filter (λ x. nat_lt time (own_time x)) r rs h in
    (parts.0, ltb-true time (own_time r) parts.1)

pub of_append : (k : ℕ) (rs ss : List Record) → of k (rs ++ ss) ≡ of k rs ++ of k ss
of_append k rs ss = filter-append (λ x. nat_eq (origin x) k) rs ss

pub upto_append : (time : ℕ) (rs ss : List Record) → upto time (rs ++ ss) ≡ upto time rs ++ upto time ss
upto_append time rs ss = filter-append (λ x. nat_le (own_time x) time) rs ss

pub over_append : (time : ℕ) (rs ss : List Record) → over time (rs ++ ss) ≡ over time rs ++ over time ss
over_append time rs ss = filter-append (λ x. nat_lt time (own_time x)) rs ss

pub rising_lower : (low high : ℕ) (rs : List Record) → low ≤ high → Rising high rs → Rising low rs
rising_lower low high [] below h = tt
rising_lower low high (r ∷ rs) below h =
    let first : high < own_time r = h.0 in
    (omega arith, h.1)

pub rising_above : (low : ℕ) (r : Record) (rs : List Record) → Rising low rs → Mem r rs → low < own_time r
rising_above low r [] h there = absurd there
rising_above low r (x ∷ xs) h (inl same) = subst (λ y. low < own_time y) same h.0
rising_above low r (x ∷ xs) h (inr later) =
    let first : low < own_time x = h.0 in
    let more : own_time x < own_time r = rising_above (own_time x) r xs h.1 later in
    omega arith

pub last_least : (low : ℕ) (rs : List Record) → Rising low rs → low ≤ last_own low rs
last_least low [] h = omega arith
last_least low (r ∷ rs) h =
    let first : low < own_time r = h.0 in
    let more : own_time r ≤ last_own (own_time r) rs = last_least (own_time r) rs h.1 in
    omega arith

pub rising_below : (low : ℕ) (r : Record) (rs : List Record) → Rising low rs → Mem r rs → own_time r ≤ last_own low rs
rising_below low r [] h there = absurd there
rising_below low r (x ∷ xs) h (inl same) = subst (λ y. own_time y ≤ last_own (own_time x) xs) same (last_least (own_time x) xs h.1)
rising_below low r (x ∷ xs) h (inr later) = rising_below (own_time x) r xs h.1 later

-- a greater start, with the same records
pub last_higher : (low high : ℕ) (rs : List Record) → low ≤ high → last_own low rs ≤ last_own high rs
last_higher low high [] below = below
last_higher low high (r ∷ rs) below = omega arith

-- no record is above a time
pub last_rises : (low time : ℕ) (rs : List Record) → low ≤ time → ((r : Record) → Mem r rs → own_time r ≤ time) → last_own low rs ≤ time
last_rises low time [] below each = below
last_rises low time (r ∷ rs) below each = last_rises (own_time r) time rs (each r (inl refl)) (λ x there. each x (inr there))

pub last_own-append : (low : ℕ) (rs ss : List Record) → last_own low (rs ++ ss) ≡ last_own (last_own low rs) ss
last_own-append low [] ss = refl
last_own-append low (r ∷ rs) ss = last_own-append (own_time r) rs ss

pub rising_filter : (p : Record → Bool) (low : ℕ) (rs : List Record) → Rising low rs → Rising low (filter p rs)
rising_filter p low [] h = tt
rising_filter p low (r ∷ rs) h =
    let first : low < own_time r = h.0 in
    let rest : Rising (own_time r) (filter p rs) = rising_filter p (own_time r) rs h.1 in
    cond_both (p r) (r ∷ filter p rs) (filter p rs) (λ l. Rising low l) (λ kept. (first, rest)) (λ left. rising_lower low (own_time r) (filter p rs) (omega arith) rest)

pub rising_unique : (low : ℕ) (a b : Record) (rs : List Record) → Rising low rs → Mem a rs → Mem b rs → own_time a ≡ own_time b → a ≡ b
rising_unique low a b [] h first second same = absurd first
rising_unique low a b (r ∷ rs) h (inl here) (inl there) same = sym here ∙ there
rising_unique low a b (r ∷ rs) h (inl here) (inr later) same =
    let above : own_time r < own_time b = rising_above (own_time r) b rs h.1 later in
    let its : own_time r ≡ own_time a = ap (λ x. own_time x) here in
    absurd (omega arith)
rising_unique low a b (r ∷ rs) h (inr later) (inl there) same =
    let above : own_time r < own_time a = rising_above (own_time r) a rs h.1 later in
    let its : own_time r ≡ own_time b = ap (λ x. own_time x) there in
    absurd (omega arith)
rising_unique low a b (r ∷ rs) h (inr first) (inr second) same = rising_unique (own_time r) a b rs h.1 first second same

pub rising_join : (low : ℕ) (rs ss : List Record) → Rising low rs → Rising (last_own low rs) ss → Rising low (rs ++ ss)
rising_join low [] ss h more = more
rising_join low (r ∷ rs) ss h more = (h.0, rising_join (own_time r) rs ss h.1 more)

pub rising_front : (low : ℕ) (rs ss : List Record) → Rising low (rs ++ ss) → Rising low rs
rising_front low [] ss h = tt
rising_front low (r ∷ rs) ss h = (h.0, rising_front (own_time r) rs ss h.1)

pub rising_rest : (low : ℕ) (rs ss : List Record) → Rising low (rs ++ ss) → Rising (last_own low rs) ss
rising_rest low [] ss h = h
rising_rest low (r ∷ rs) ss h = rising_rest (own_time r) rs ss h.1

-- what stands in the first part is earlier
pub rising_order : (low : ℕ) (a b : Record) (rs ss : List Record) → Rising low (rs ++ ss) → Mem a rs → Mem b ss → own_time a < own_time b
rising_order low a b rs ss h first second =
    let below : own_time a ≤ last_own low rs = rising_below low a rs (rising_front low rs ss h) first in
    let above : last_own low rs < own_time b = rising_above (last_own low rs) b ss (rising_rest low rs ss h) second in
    omega arith

pub rising_before : (low : ℕ) (a b : Record) (rs : List Record) → Rising low rs → Before a b rs → own_time a < own_time b
rising_before low a b [] h both = absurd both
rising_before low a b (r ∷ rs) h (inl here) = subst (λ x. own_time x < own_time b) here.0 (rising_above (own_time r) b rs h.1 here.1)
rising_before low a b (r ∷ rs) h (inr later) = rising_before (own_time r) a b rs h.1 later

pub upto_none : (low time : ℕ) (rs : List Record) → Rising low rs → time ≤ low → upto time rs ≡ []
upto_none low time rs h below = filter_none (λ x. nat_le (own_time x) time) rs (λ x there.
    let above : low < own_time x = rising_above low x rs h there in
    lt-leb (own_time x) time (omega arith))

pub over_all : (low time : ℕ) (rs : List Record) → Rising low rs → time ≤ low → over time rs ≡ rs
over_all low time rs h below = filter_all (λ x. nat_lt time (own_time x)) rs (λ x there.
    let above : low < own_time x = rising_above low x rs h there in
    lt-ltb time (own_time x) (omega arith))

pub upto_all : (low time : ℕ) (rs : List Record) → Rising low rs → last_own low rs ≤ time → upto time rs ≡ rs
upto_all low time rs h above = filter_all (λ x. nat_le (own_time x) time) rs (λ x there.
    let below : own_time x ≤ last_own low rs = rising_below low x rs h there in
    le-leb (own_time x) time (omega arith))

-- later records add nothing up to a time below them
pub upto_grown : (low time : ℕ) (rs ss : List Record) → Rising low ss → time ≤ low → upto time (rs ++ ss) ≡ upto time rs
upto_grown low time rs ss h below = upto_append time rs ss ∙ ap (λ l. upto time rs ++ l) (upto_none low time ss h below) ∙ append-nil (upto time rs)

pub over-over : (low high : ℕ) (rs : List Record) → low ≤ high → over high (over low rs) ≡ over high rs
over-over low high rs below = filter_within (λ x. nat_lt high (own_time x)) (λ x. nat_lt low (own_time x)) rs (λ x passes.
    let above : high < own_time x = ltb-true high (own_time x) passes in
    lt-ltb low (own_time x) (omega arith))

pub upto-upto : (low high : ℕ) (rs : List Record) → low ≤ high → upto low (upto high rs) ≡ upto low rs
upto-upto low high rs below = filter_within (λ x. nat_le (own_time x) low) (λ x. nat_le (own_time x) high) rs (λ x passes.
    let within : own_time x ≤ low = leb-true (own_time x) low passes in
    le-leb (own_time x) high (omega arith))

pub upto-over : (time low : ℕ) (rs : List Record) → upto time (over low rs) ≡ over low (upto time rs)
upto-over time low rs = filter_swap (λ x. nat_le (own_time x) time) (λ x. nat_lt low (own_time x)) (λ x. nat_lt low (own_time x)) rs (λ x passes. refl)

pub of-over : (k time : ℕ) (rs : List Record) → of k (over time rs) ≡ over time (of k rs)
of-over k time rs = filter_swap (λ x. nat_eq (origin x) k) (λ x. nat_lt time (own_time x)) (λ x. nat_lt time (own_time x)) rs (λ x passes. refl)

-- up to a time and from there up to another is up to the greater
pub rising_split : (low a b : ℕ) (rs : List Record) → Rising low rs → upto a rs ++ over a (upto b rs) ≡ upto (max a b) rs
rising_split low a b [] h = refl
rising_split low a b (r ∷ rs) h = by_order (cases_lt a (own_time r)) (cases_lt b (own_time r)) (rising_split (own_time r) a b rs h.1)
  where
    upto_yes : (t : ℕ) → own_time r ≤ t → upto t (r ∷ rs) ≡ r ∷ upto t rs
    upto_yes t below = filter_yes (λ x. nat_le (own_time x) t) r rs (le-leb (own_time r) t below)

    upto_no : (t : ℕ) → t < own_time r → upto t (r ∷ rs) ≡ upto t rs
    upto_no t above = filter_no (λ x. nat_le (own_time x) t) r rs (lt-leb (own_time r) t above)

    upto_over : (t : ℕ) → t < own_time r → upto t rs ≡ []
    upto_over t above = upto_none (own_time r) t rs h.1 (omega arith)

    by_order : (a < own_time r) ⊎ (own_time r ≤ a) → (b < own_time r) ⊎ (own_time r ≤ b) → upto a rs ++ over a (upto b rs) ≡ upto (max a b) rs
        → upto a (r ∷ rs) ++ over a (upto b (r ∷ rs)) ≡ upto (max a b) (r ∷ rs)
    by_order (inl first) (inl second) rest =
        rw (upto_no a first, upto_no b second, upto_no (max a b) (omega arith)) rest
    by_order (inl first) (inr second) rest =
        let kept : over a (r ∷ upto b rs) ≡ r ∷ over a (upto b rs) = filter_yes (λ x. nat_lt a (own_time x)) r (upto b rs) (lt-ltb a (own_time r) first) in
        let start : upto a rs ≡ [] = upto_over a first in
        let short : over a (upto b rs) ≡ upto (max a b) rs = subst (λ l. l ++ over a (upto b rs) ≡ upto (max a b) rs) start rest in
        rw (upto_no a first, upto_yes b second, upto_yes (max a b) (omega arith), start, kept) (ap (λ l. r ∷ l) short)
    by_order (inr first) (inl second) rest =
        rw (upto_yes a first, upto_no b second, upto_yes (max a b) (omega arith)) (ap (λ l. r ∷ l) rest)
    by_order (inr first) (inr second) rest =
        let left : over a (r ∷ upto b rs) ≡ over a (upto b rs) = filter_no (λ x. nat_lt a (own_time x)) r (upto b rs) (le-ltb a (own_time r) first) in
        rw (upto_yes a first, upto_yes b second, upto_yes (max a b) (omega arith), left) (ap (λ l. r ∷ l) rest)

-- what stands before a record is what is up to the time just before it
pub rising_cut : (low : ℕ) (r : Record) (before after : List Record) → Rising low (before ++ r ∷ after) → before ≡ upto (own_time r - 1) (before ++ r ∷ after)
rising_cut low r before after h =
    let rest : Rising (last_own low before) (r ∷ after) = rising_rest low before (r ∷ after) h in
    let first : last_own low before < own_time r = rest.0 in
    let more : Rising (own_time r - 1) (r ∷ after) = (omega arith, rest.1) in
    sym (upto_grown (own_time r - 1) (own_time r - 1) before (r ∷ after) more (omega arith)
    ∙ upto_all low (own_time r - 1) before (rising_front low before (r ∷ after) h) (omega arith))

-- of two records of one origin the one in the first part is earlier
pub records_order : (a b : Record) (rs ss : List Record) → ((k : ℕ) → Rising 0 (of k (rs ++ ss))) → Mem a rs → Mem b ss → origin a ≡ origin b → own_time a < own_time b
records_order a b rs ss h first second same =
    let joined : Rising 0 (of (origin b) rs ++ of (origin b) ss) = subst (λ l. Rising 0 l) (of_append (origin b) rs ss) (h (origin b)) in
    rising_order 0 a b (of (origin b) rs) (of (origin b) ss) joined (mem_of (origin b) a rs first same) (mem_of (origin b) b ss second refl)

-- nothing is of another origin
pub of_none : (k : ℕ) (rs : List Record) → ((r : Record) → Mem r rs → origin r ≡ k → ⊥) → of k rs ≡ []
of_none k rs h = filter_none (λ x. nat_eq (origin x) k) rs (λ x there. ne_eqb (origin x) k (h x there))

pub of_all : (k : ℕ) (rs : List Record) → ((r : Record) → Mem r rs → origin r ≡ k) → of k rs ≡ rs
of_all k rs h = filter_all (λ x. nat_eq (origin x) k) rs (λ x there. eq-eqb (origin x) k (h x there))

-- one more record of the origin, and one of another
pub of_more : (k : ℕ) (rs : List Record) (r : Record) → origin r ≡ k → of k (rs ++ r ∷ []) ≡ of k rs ++ r ∷ []
of_more k rs r its = of_append k rs (r ∷ []) ∙ ap (λ l. of k rs ++ l) (filter_yes (λ x. nat_eq (origin x) k) r [] (eq-eqb (origin r) k its))

pub of_more_other : (k : ℕ) (rs : List Record) (r : Record) → (origin r ≡ k → ⊥) → of k (rs ++ r ∷ []) ≡ of k rs
of_more_other k rs r other =
    of_append k rs (r ∷ []) ∙ ap (λ l. of k rs ++ l) (filter_no (λ x. nat_eq (origin x) k) r [] (ne_eqb (origin r) k other)) ∙ append-nil (of k rs)
