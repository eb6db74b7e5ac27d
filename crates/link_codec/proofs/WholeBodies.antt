-- A whole body of a kind, and what reading it says of the values that have it.
use Rattle.std.proofs.Common.{◌≡◌, ℕ, suc, ◌+◌, ◌<◌, ◌≤◌, ◌==◌, true, false, List, [], ◌∷◌, ◌++◌, length, take, drop, All, Result, Ok, Err, refl, sym, ap, subst, ◌∙◌, append_assoc, arith, inl, inr, length-append}
use Rattle.std.specs.Int.{w32, to_be_bytes}
use Rattle.std.proofs.lemmas.Bool.{eqb-true}
use Rattle.std.proofs.lemmas.List.{append-nil, drop_at, length-take-le, take-append-drop}
use Rattle.std.proofs.lemmas.Nat.{be_bytes_4}
use Rattle.log_records.specs.declared.faults.DecodeFault.{DecodeFault}
use Rattle.link_codec.specs.declared.faults.LinkFault.{LinkFault}
use Rattle.link_codec.specs.declared.faults.LinkFault.TheVariants.{Cut, Bad, NoMemory}
use Rattle.link_codec.specs.Decoding.{FrontFault, GivesBody, HasBody, IsBadFront, Refuses}
use Rattle.link_codec.specs.Framing.{Decodes, IsBad, IsSpelledBody, Table, framed, told_body, told_length}
use Rattle.link_codec.proofs.Moves.{not_both}
use Rattle.link_codec.proofs.Steps.{ok_is}
use Rattle.link_codec.proofs.Taken.{AreBytes, AreBytes-take, all_small}

-- the body of a value that has a spelling is read again as it was, whatever follows it
abbrev pub BodiesAgain : {X : Type 0} → (X → ℕ) → (X → List ℕ) → (X → Type 0) → (ℕ → List ℕ → Result (X × List ℕ) DecodeFault) → Type 0
BodiesAgain {X} kind_of body_of HasSpelling read = (x : X) (rest : List ℕ) → HasSpelling x → read (kind_of x) (body_of x ++ rest) ≡ Ok (x, rest)

-- what is read from bytes as a kind has a spelling and is of this kind, and they begin with its body
abbrev pub BodiesSpelled : {X : Type 0} → (X → ℕ) → (X → List ℕ) → (X → Type 0) → ℕ → (ℕ → List ℕ → Result (X × List ℕ) DecodeFault) → Type 0
BodiesSpelled {X} kind_of body_of HasSpelling kinds read = (kind : ℕ) (bytes : List ℕ) (x : X) (rest : List ℕ) → All (λ b. b < 256) bytes → 1 ≤ kind → kind ≤ kinds → read kind bytes ≡ Ok (x, rest)
    → HasSpelling x × (kind_of x ≡ kind) × (bytes ≡ body_of x ++ rest)

pub empty_is : (xs : List ℕ) → length xs ≡ 0 → xs ≡ []
empty_is [] e = refl
empty_is (x ∷ xs) e = absurd (omega (arith, e))

module _ {X : Type 0} (kind_of : X → ℕ) (body_of : X → List ℕ) (HasSpelling : X → Type 0) (read : ℕ → List ℕ → Result (X × List ℕ) DecodeFault) where
  pub whole_read : BodiesAgain kind_of body_of HasSpelling read → (kind : ℕ) (body : List ℕ) (x : X) → HasSpelling x → kind_of x ≡ kind → body_of x ≡ body → read kind body ≡ Ok (x, [])
  whole_read again kind body x h same_kind same_body =
      ap (λ (k : ℕ). read k body) (sym same_kind) ∙ ap (read (kind_of x)) (sym same_body ∙ sym (append-nil (body_of x))) ∙ again x [] h

  pub body_refused : BodiesAgain kind_of body_of HasSpelling read → (fault : LinkFault) (kind : ℕ) (body : List ℕ) → Refuses fault (read kind body) → GivesBody kind_of body_of HasSpelling kind body (Err fault)
  body_refused again Cut kind body e = e
  body_refused again Bad kind body e = λ s. not_both (read kind body) (s.0, []) e (whole_read again kind body s.0 s.1 s.2 s.3)
  body_refused again NoMemory kind body e = tt

  pub body_left : BodiesAgain kind_of body_of HasSpelling read → (kind : ℕ) (body : List ℕ) (x : X) (rest : List ℕ) → read kind body ≡ Ok (x, rest) → (length rest == 0) ≡ false → IsSpelledBody kind_of body_of HasSpelling kind body → ⊥
  body_left again kind body x rest e more s =
      let one : X × List ℕ = (x, rest) in
      let other : X × List ℕ = (s.0, []) in
      let same = ok_is one other (sym e ∙ whole_read again kind body s.0 s.1 s.2 s.3) in
      let none : rest ≡ [] = ap (λ (p : X × List ℕ). p.1) same in
      let is : (length rest == 0) ≡ true = rw none refl in
      absurd cc

  pub body_whole : (kinds : ℕ) → BodiesSpelled kind_of body_of HasSpelling kinds read → (kind : ℕ) (body : List ℕ) (x : X) (rest : List ℕ) → AreBytes body → 1 ≤ kind → kind ≤ kinds → read kind body ≡ Ok (x, rest) → (length rest == 0) ≡ true
      → GivesBody kind_of body_of HasSpelling kind body (Ok x)
  body_whole kinds spelled kind body x rest small low high e last =
      let t = spelled kind body x rest (all_small body small) low high e in
      let none = empty_is rest (eqb-true (length rest) 0 last) in
      (t.0, t.1, sym (t.2 ∙ ap (λ (r : List ℕ). body_of x ++ r) none ∙ append-nil (body_of x)))

bad_front : (table : Table) (IsBody : ℕ → List ℕ → Type 0) (input : List ℕ) → IsBadFront table input → IsBad table IsBody input
bad_front table IsBody [] e = e
bad_front table IsBody (kind ∷ rest) e = elim e [ inl none ↦ inl none | inr long ↦ inr (inl long) ]

-- ---- where the body stands

-- what follows the body in the input
abbrev behind : List ℕ → List ℕ
behind rest = drop (told_length rest) (drop 4 rest)

input_is : (table : Table) (kind : ℕ) (rest body : List ℕ) → AreBytes rest → HasBody table rest body → kind ∷ rest ≡ framed kind body ++ behind rest
input_is table kind rest body small has =
    let whole = has.whole in
    let width : length (take 4 rest) ≡ 4 = length-take-le 4 rest (omega (arith, whole)) in
    let four : to_be_bytes w32 (told_length rest) ≡ take 4 rest = be_bytes_4 (take 4 rest) (told_length rest) width (AreBytes-take 4 rest small) refl in
    let front : to_be_bytes w32 (length body) ≡ take 4 rest = ap (to_be_bytes w32) has.long ∙ four in
    let parts : rest ≡ take 4 rest ++ (told_body rest ++ behind rest) = sym (take-append-drop 4 rest) ∙ ap (λ (t : List ℕ). take 4 rest ++ t) (sym (take-append-drop (told_length rest) (drop 4 rest))) in
    let named : rest ≡ to_be_bytes w32 (length body) ++ (body ++ behind rest) =
    parts ∙ ap (λ (t : List ℕ). take 4 rest ++ (t ++ behind rest)) (sym has.is) ∙ ap (λ (t : List ℕ). t ++ (body ++ behind rest)) (sym front) in
    ap (λ (t : List ℕ). kind ∷ t) (named ∙ sym (append_assoc (to_be_bytes w32 (length body)) body (behind rest)))

pub framed_long : (kind : ℕ) (body : List ℕ) → length (framed kind body) ≡ 5 + length body
framed_long kind body =
    let four : length (to_be_bytes w32 (length body)) ≡ 4 = refl in
    omega (arith, four, length-append (to_be_bytes w32 (length body)) body)

-- ---- what a reader answers

module _ {X : Type 0} (kind_of : X → ℕ) (body_of : X → List ℕ) (HasSpelling : X → Type 0) (table : Table) (input : List ℕ) where
  pub no_front : (fault : LinkFault) → FrontFault table input fault → Decodes kind_of body_of HasSpelling table input (Err fault)
  no_front Cut e = e
  no_front Bad e = bad_front table (IsSpelledBody kind_of body_of HasSpelling) input e
  no_front NoMemory e = tt

  pub no_value : (kind : ℕ) (rest body : List ℕ) → input ≡ kind ∷ rest → HasBody table rest body → (fault : LinkFault) → GivesBody kind_of body_of HasSpelling kind body (Err fault) → Decodes kind_of body_of HasSpelling table input (Err fault)
  no_value kind rest body is has Cut e = absurd e
  no_value kind rest body is has Bad e =
      let none = subst (λ (b : List ℕ). IsSpelledBody kind_of body_of HasSpelling kind b → ⊥) has.is e in
      subst (λ (i : List ℕ). IsBad table (IsSpelledBody kind_of body_of HasSpelling) i) (sym is) (inr (inr (has.whole, none)))
  no_value kind rest body is has NoMemory e = tt

  pub value_found : (kind : ℕ) (rest body : List ℕ) → input ≡ kind ∷ rest → HasBody table rest body → AreBytes input → (x : X) → GivesBody kind_of body_of HasSpelling kind body (Ok x) → Decodes kind_of body_of HasSpelling table input (Ok (x, 5 + length body))
  value_found kind rest body is has small x given =
      let front = subst AreBytes is small in
      let n = 5 + length body in
      let own = framed (kind_of x) (body_of x) in
      let same : own ≡ framed kind body = ap (λ (k : ℕ). framed k (body_of x)) given.1 ∙ ap (framed kind) given.2 in
      let parts : input ≡ own ++ behind rest = is ∙ input_is table kind rest body (λ i. front (suc i)) has ∙ ap (λ (t : List ℕ). t ++ behind rest) (sym same) in
      let long : length own ≡ n = ap length same ∙ framed_long kind body in
      let dropped : drop n input ≡ behind rest = ap (drop n) parts ∙ drop_at own (behind rest) n long in
      (given.0, sym long, parts ∙ ap (λ (t : List ℕ). own ++ t) (sym dropped))
