-- How what is said on a connection goes on.
use Rattle.std.proofs.Common.{◌≡◌, ℕ, zero, suc, ◌+◌, ◌≤◌, Bool, true, false, ◌||◌, List, [], ◌∷◌, ◌++◌, length, take, drop, Option, Some, None, option_map, IfSome, refl, sym, ◌∙◌, ap, subst, arith, append_assoc, append-nil, length-append, drop-drop, take-add}
use Rattle.outside_io.specs.Seen.{Talk, NetTold, NetSeen}
use Rattle.outside_io.specs.Net.{IsFresh, Talks, more, on_last, taken, talked, took}

-- a function on the last item, and then another
pub on_last_twice : {X : Type 0} (f g h : X → X) → ((x : X) → g (f x) ≡ h x) → (xs : List X) → on_last g (on_last f xs) ≡ on_last h xs
on_last_twice f g h both [] = refl
on_last_twice f g h both (x ∷ []) = ap (λ y. y ∷ []) (both x)
on_last_twice f g h both (x ∷ y ∷ []) = ap (λ z. x ∷ z ∷ []) (both y)
on_last_twice f g h both (x ∷ y ∷ z ∷ zs) = ap (λ ys. x ∷ ys) (on_last_twice f g h both (y ∷ z ∷ zs))

-- a function that changes nothing
pub on_last_same : {X : Type 0} (f : X → X) → ((x : X) → f x ≡ x) → (xs : List X) → on_last f xs ≡ xs
on_last_same f same [] = refl
on_last_same f same (x ∷ []) = ap (λ y. y ∷ []) (same x)
on_last_same f same (x ∷ y ∷ ys) = ap (λ zs. x ∷ zs) (on_last_same f same (y ∷ ys))

-- the last item alone
pub on_last_append : {X : Type 0} (f : X → X) (xs : List X) (x : X) → on_last f (xs ++ x ∷ []) ≡ xs ++ f x ∷ []
on_last_append f [] x = refl
on_last_append f (y ∷ []) x = refl
on_last_append f (y ∷ z ∷ zs) x = ap (λ ys. y ∷ ys) (on_last_append f (z ∷ zs) x)

or_join : (a b c : Bool) → (b || (a || c)) ≡ ((a || b) || c)
or_join true true c = refl
or_join true false c = refl
or_join false true c = refl
or_join false false c = refl

or_cases : (P : Type 0) (a b : Bool) → (a || b) ≡ true → (a ≡ true → P) → (b ≡ true → P) → P
or_cases P true b either one two = one refl
or_cases P false b either one two = two either

abbrev pub talk_with : List ℕ → List ℕ → List ℕ → Bool → Talk
talk_with dialled sent got at_end = record { dialled = dialled; sent = sent; got = got; at_end = at_end }

pub same_talk : (dialled sent sent' got got' : List ℕ) (at_end at_end' : Bool) → sent ≡ sent' → got ≡ got' → at_end ≡ at_end'
    → talk_with dialled sent got at_end ≡ talk_with dialled sent' got' at_end'
same_talk dialled sent sent' got got' at_end at_end' s g e =
    ap (λ xs. talk_with dialled xs got at_end) s ∙ ap (λ xs. talk_with dialled sent' xs at_end) g ∙ ap (talk_with dialled sent' got') e

-- nothing more was said
pub more_none : (talk : Talk) → more [] [] false talk ≡ talk
more_none talk = same_talk talk.dialled (talk.sent ++ []) talk.sent (talk.got ++ []) talk.got talk.at_end talk.at_end (append-nil talk.sent) (append-nil talk.got) refl

more_join : (sent got sent' got' : List ℕ) (at_end at_end' : Bool) (talk : Talk)
    → more sent' got' at_end' (more sent got at_end talk) ≡ more (sent ++ sent') (got ++ got') (at_end || at_end') talk
more_join sent got sent' got' at_end at_end' talk =
    same_talk talk.dialled ((talk.sent ++ sent) ++ sent') (talk.sent ++ (sent ++ sent')) ((talk.got ++ got) ++ got') (talk.got ++ (got ++ got'))
    (at_end' || (at_end || talk.at_end)) ((at_end || at_end') || talk.at_end)
    (append_assoc talk.sent sent sent') (append_assoc talk.got got got') (or_join at_end at_end' talk.at_end)

abbrev with_line : NetTold → List ℕ → List Talk → NetTold
with_line told left talks = record { place = told.place; listened = told.listened; waiting = told.waiting; left = left; talks = talks }

pub talked_none : (told : NetTold) → talked [] [] false told ≡ told
talked_none told = ap (with_line told told.left) (on_last_same (more [] [] false) more_none told.talks)

talked_join : (sent got sent' got' : List ℕ) (at_end at_end' : Bool) (told : NetTold)
    → talked sent' got' at_end' (talked sent got at_end told) ≡ talked (sent ++ sent') (got ++ got') (at_end || at_end') told
talked_join sent got sent' got' at_end at_end' told =
    let left : drop (length got') (drop (length got) told.left) ≡ drop (length (got ++ got')) told.left =
    drop-drop (length got') (length got) told.left ∙ ap (λ n. drop n told.left) (sym (length-append got got')) in
    let talks : on_last (more sent' got' at_end') (on_last (more sent got at_end) told.talks) ≡ on_last (more (sent ++ sent') (got ++ got') (at_end || at_end')) told.talks =
    on_last_twice (more sent got at_end) (more sent' got' at_end') (more (sent ++ sent') (got ++ got') (at_end || at_end')) (more_join sent got sent' got' at_end at_end') told.talks in
    ap (λ l. with_line told l (on_last (more sent' got' at_end') (on_last (more sent got at_end) told.talks))) left
    ∙ ap (with_line told (drop (length (got ++ got')) told.left)) talks

same_told : (told : Option NetTold) → option_map (talked [] [] false) told ≡ told
same_told None = refl
same_told (Some told) = ap Some (talked_none told)

takes_none : (told : Option NetTold) → IfSome told (λ net. take 0 net.left ≡ [])
takes_none None = tt
takes_none (Some told) = refl

-- Nothing was written or read, and nothing that the net tells changed but that reads and writes may have failed.
pub talks_still : (old new : NetSeen) → new.told ≡ old.told → new.listens ≡ old.listens → new.stands ≡ old.stands → new.call_faults ≡ old.call_faults
    → old.line_faults ≤ new.line_faults → Talks old new [] [] false
talks_still old new told listens stands calls later = record {
  told = told ∙ sym (same_told old.told);
  comes = takes_none old.told;
  ended = λ never. absurd (cc never);
  listens = listens;
  stands = stands;
  calls = calls;
  later = later;
}

-- a net that was not asked
pub talks_none : (net : NetSeen) → Talks net net [] [] false
talks_none net = talks_still net net refl refl refl refl (omega arith)

told_join : (first between last : Option NetTold) (sent got sent' got' : List ℕ) (at_end at_end' : Bool)
    → between ≡ option_map (talked sent got at_end) first → last ≡ option_map (talked sent' got' at_end') between
    → last ≡ option_map (talked (sent ++ sent') (got ++ got') (at_end || at_end')) first
told_join None between last sent got sent' got' at_end at_end' one two = two ∙ ap (option_map (talked sent' got' at_end')) one
told_join (Some told) between last sent got sent' got' at_end at_end' one two =
    two ∙ ap (option_map (talked sent' got' at_end')) one ∙ ap Some (talked_join sent got sent' got' at_end at_end' told)

comes_join : (first between : Option NetTold) (sent got got' : List ℕ) (at_end : Bool)
    → between ≡ option_map (talked sent got at_end) first → IfSome first (λ net. take (length got) net.left ≡ got) → IfSome between (λ net. take (length got') net.left ≡ got')
    → IfSome first (λ net. take (length (got ++ got')) net.left ≡ got ++ got')
comes_join None between sent got got' at_end one came came' = tt
comes_join (Some told) between sent got got' at_end one came came' =
    let next : take (length got') (drop (length got) told.left) ≡ got' = subst (λ (now : Option NetTold). IfSome now (λ net. take (length got') net.left ≡ got')) one came' in
    ap (λ n. take n told.left) (length-append got got') ∙ take-add (length got) (length got') told.left ∙ ap (λ xs. xs ++ take (length got') (drop (length got) told.left)) came ∙ ap (λ xs. got ++ xs) next

drop_none : (n : ℕ) (xs : List ℕ) → xs ≡ [] → drop n xs ≡ []
drop_none zero xs none = none
drop_none (suc n) [] none = refl
drop_none (suc n) (x ∷ xs) none = absurd (cc none)

none_left : (between last : Option NetTold) (sent got : List ℕ) (at_end : Bool) → last ≡ option_map (talked sent got at_end) between
    → IfSome between (λ net. net.left ≡ []) → IfSome last (λ net. net.left ≡ [])
none_left None last sent got at_end is none = subst (λ (now : Option NetTold). IfSome now (λ net. net.left ≡ [])) (sym is) tt
none_left (Some told) last sent got at_end is none =
    subst (λ (now : Option NetTold). IfSome now (λ net. net.left ≡ [])) (sym is) (drop_none (length got) told.left none)

-- a stretch of a connection, and then another
pub talks_join : (first between last : NetSeen) (sent got sent' got' : List ℕ) (at_end at_end' : Bool)
    → Talks first between sent got at_end → Talks between last sent' got' at_end' → Talks first last (sent ++ sent') (got ++ got') (at_end || at_end')
talks_join first between last sent got sent' got' at_end at_end' one two = record {
  told = told_join first.told between.told last.told sent got sent' got' at_end at_end' one.told two.told;
  comes = comes_join first.told between.told sent got got' at_end one.told one.comes two.comes;
  ended = λ either. or_cases (IfSome last.told (λ net. net.left ≡ [])) at_end at_end' either
      (λ met. none_left between.told last.told sent' got' at_end' two.told (one.ended met)) two.ended;
  listens = two.listens ∙ one.listens;
  stands = two.stands ∙ one.stands;
  calls = two.calls ∙ one.calls;
  later = omega (arith, one.later, two.later);
}

fresh_told : (address : List ℕ) (told : Option NetTold) → IfSome (option_map (took address) told) IsFresh
fresh_told address None = tt
fresh_told address (Some told) = (told.talks, address, refl)

-- on a connection that was just taken nothing was said yet
pub taken_fresh : (address : List ℕ) (net : NetSeen) → IfSome (taken address net).told IsFresh
taken_fresh address net = fresh_told address net.told
