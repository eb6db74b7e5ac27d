-- What begins with a spelling: no other one, and it is neither cut nor bad.
use Rattle.std.proofs.Common.{◌≡◌, ◌⊎◌, ℕ, ◌+◌, ◌^◌, ◌<◌, ◌≤◌, List, [], ◌∷◌, ◌++◌, length, take, drop, Result, Ok, Err, refl, sym, ap, ◌∙◌, append_assoc, arith, inl, inr, length-append}
use Rattle.std.specs.Int.{w32, from_be_bytes, to_be_bytes}
use Rattle.std.proofs.lemmas.List.{drop_at, take_at}
use Rattle.std.proofs.lemmas.Nat.{from_be_bytes-to_be_bytes_4}
use Rattle.log_records.specs.declared.faults.DecodeFault.{DecodeFault}
use Rattle.link_codec.specs.declared.faults.LinkFault.{LinkFault}
use Rattle.link_codec.specs.declared.faults.LinkFault.TheVariants.{Cut, Bad, NoMemory}
use Rattle.link_codec.specs.Framing.{Decodes, IsBad, IsCut, IsKind, IsSpelledBody, Table, framed, told_body, told_length}
use Rattle.link_codec.proofs.Steps.{ok_is}
use Rattle.link_codec.proofs.WholeBodies.{BodiesAgain, whole_read}

-- what stands behind the kind of a spelling, up to the end of the input
abbrev behind_kind : List ℕ → List ℕ → List ℕ
behind_kind body more = (to_be_bytes w32 (length body) ++ body) ++ more

-- its length, its body, and what follows
record Stands (body more : List ℕ) : Type 0 where
  told : told_length (behind_kind body more) ≡ length body
  is : told_body (behind_kind body more) ≡ body
  long : length (behind_kind body more) ≡ 4 + length body + length more
  left : drop (length body) (drop 4 (behind_kind body more)) ≡ more

stands : (body more : List ℕ) → length body < 2 ^ 32 → Stands body more
stands body more small =
    let front = to_be_bytes w32 (length body) in
    let whole = behind_kind body more in
    let four : length front ≡ 4 = refl in
    let regrouped : whole ≡ front ++ (body ++ more) = append_assoc front body more in
    let taken : take 4 whole ≡ front = ap (take 4) regrouped ∙ take_at front (body ++ more) 4 four in
    let dropped : drop 4 whole ≡ body ++ more = ap (drop 4) regrouped ∙ drop_at front (body ++ more) 4 four in
    let told : told_length whole ≡ length body = ap (from_be_bytes w32) taken ∙ from_be_bytes-to_be_bytes_4 (length body) small in
    record {
      told = told;
      is = ap (λ (n : ℕ). take n (drop 4 whole)) told ∙ ap (take (length body)) dropped ∙ take_at body more (length body) refl;
      long = omega (arith, length-append (front ++ body) more, length-append front body, four);
      left = ap (drop (length body)) dropped ∙ drop_at body more (length body) refl;
    }

heads : (a b : ℕ) (xs ys : List ℕ) → a ∷ xs ≡ b ∷ ys → (a ≡ b) × (xs ≡ ys)
heads a b xs ys e = (cc, cc)

module _ {X : Type 0} (kind_of : X → ℕ) (body_of : X → List ℕ) (HasSpelling : X → Type 0) (table : Table) (kinds : (x : X) → HasSpelling x → IsKind table (kind_of x)) (few : (x : X) → HasSpelling x → length (body_of x) ≤ table.most) (fits : table.most < 2 ^ 32) where
  abbrev spelled : X → List ℕ
  spelled x = framed (kind_of x) (body_of x)

  here : (x : X) (more : List ℕ) → HasSpelling x → Stands (body_of x) more
  here x more h = let low = few x h in stands (body_of x) more (omega (arith, low, fits))

  pub not_cut : (x : X) (more : List ℕ) → HasSpelling x → IsCut table (spelled x ++ more) → ⊥
  not_cut x more h cut =
      let s = here x more h in
      let told = s.told in
      let long = s.long in
      elim cut.1 [ inl short ↦ omega (arith, long, short) | inr p ↦ omega (arith, told, long, p.1) ]

  pub not_bad : (x : X) (more : List ℕ) → HasSpelling x → IsBad table (IsSpelledBody kind_of body_of HasSpelling) (spelled x ++ more) → ⊥
  not_bad x more h bad =
      let s = here x more h in
      let told = s.told in
      let low = few x h in
      elim bad [
        | inl none ↦ none (kinds x h)
        | inr p ↦ elim p [ inl long ↦ omega (arith, told, low, long.1) | inr q ↦ q.1 (x, h, refl, sym s.is) ]
      ]

  module _ (read : ℕ → List ℕ → Result (X × List ℕ) DecodeFault) (again : BodiesAgain kind_of body_of HasSpelling read) where
    pub alone : (x y : X) (more others : List ℕ) → HasSpelling x → HasSpelling y → spelled x ++ more ≡ spelled y ++ others → (x ≡ y) × (more ≡ others)
    alone x y more others h g e =
        let split = heads (kind_of x) (kind_of y) (behind_kind (body_of x) more) (behind_kind (body_of y) others) e in
        let s = here x more h in
        let t = here y others g in
        let long : length (body_of x) ≡ length (body_of y) = sym s.told ∙ ap told_length split.1 ∙ t.told in
        let body : body_of x ≡ body_of y = sym s.is ∙ ap told_body split.1 ∙ t.is in
        let left : more ≡ others = sym s.left ∙ ap (λ (xs : List ℕ). drop (length (body_of x)) (drop 4 xs)) split.1 ∙ ap (λ (n : ℕ). drop n (drop 4 (behind_kind (body_of y) others))) long ∙ t.left in
        let one : X × List ℕ = (x, []) in
        let other : X × List ℕ = (y, []) in
        let same = ok_is one other (sym (whole_read kind_of body_of HasSpelling read again (kind_of x) (body_of x) x h refl refl) ∙ whole_read kind_of body_of HasSpelling read again (kind_of x) (body_of x) y g (sym split.0) (sym body)) in
        (ap (λ (p : X × List ℕ). p.0) same, left)

    pub read_back : (x : X) (more : List ℕ) (answer : Result (X × ℕ) LinkFault) → HasSpelling x → Decodes kind_of body_of HasSpelling table (spelled x ++ more) answer → (answer ≡ Ok (x, length (spelled x))) ⊎ (answer ≡ Err NoMemory)
    read_back x more (Ok p) h d =
        let a = alone x p.0 more (drop p.1 (spelled x ++ more)) h d.0 d.2 in
        inl (ap (λ (q : X). Ok (q, p.1)) (sym a.0) ∙ ap (λ (n : ℕ). Ok (x, n)) (d.1 ∙ ap (λ (q : X). length (spelled q)) (sym a.0)))
    read_back x more (Err Cut) h d = absurd (not_cut x more h d)
    read_back x more (Err Bad) h d = absurd (not_bad x more h d)
    read_back x more (Err NoMemory) h d = inr refl
