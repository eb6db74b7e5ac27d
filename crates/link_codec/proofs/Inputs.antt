-- Inputs that are cut or bad, whatever their kinds spell.
use Rattle.std.proofs.Common.{◌≡◌, ℕ, ◌+◌, ◌<◌, ◌≤◌, List, [], ◌∷◌, ◌++◌, length, take, drop, sym, ap, subst, ◌∙◌, arith, inl, inr, length-append}
use Rattle.std.specs.Int.{w32, from_be_bytes}
use Rattle.std.proofs.lemmas.List.{drop-append-le, length-drop, take-append-le}
use Rattle.link_codec.specs.Framing.{IsBad, IsCut, Table, told_body, told_length}

told_more : (rest more : List ℕ) → 4 ≤ length rest → told_length (rest ++ more) ≡ told_length rest
told_more rest more le = ap (from_be_bytes w32) (take-append-le 4 rest more le)

body_more : (rest more : List ℕ) → 4 + told_length rest ≤ length rest → told_body (rest ++ more) ≡ told_body rest
body_more rest more whole =
    let n = told_length rest in
    ap (λ (k : ℕ). take k (drop 4 (rest ++ more))) (told_more rest more (omega (arith, whole)))
    ∙ ap (take n) (drop-append-le 4 rest more (omega (arith, whole)))
    ∙ take-append-le n (drop 4 rest) more (omega (arith, whole, length-drop 4 rest))

pub stays_bad : (table : Table) (IsBody : ℕ → List ℕ → Type 0) (input more : List ℕ) → IsBad table IsBody input → IsBad table IsBody (input ++ more)
stays_bad table IsBody [] more bad = absurd bad
stays_bad table IsBody (kind ∷ rest) more bad =
    let grown = length-append rest more in
    elim bad [
      | inl none ↦ inl none
      | inr p ↦ elim p [
        | inl long ↦ inr (inl (omega (arith, grown, long.0), subst (λ (n : ℕ). table.most < n) (sym (told_more rest more long.0)) long.1))
        | inr q ↦ inr (inr (omega (arith, grown, q.0, told_more rest more (omega (arith, q.0))), subst (λ (b : List ℕ). IsBody kind b → ⊥) (sym (body_more rest more q.0)) q.1))
      ]
    ]

pub cut_short : (table : Table) (input : List ℕ) → IsCut table input → length input < 5 + table.most
cut_short table [] cut = omega arith
cut_short table (kind ∷ rest) cut = elim cut.1 [ inl short ↦ omega (arith, short) | inr p ↦ omega (arith, p.0, p.1) ]

pub cut_or_bad : (table : Table) (IsBody : ℕ → List ℕ → Type 0) (input : List ℕ) → IsCut table input → IsBad table IsBody input → ⊥
cut_or_bad table IsBody [] cut bad = bad
cut_or_bad table IsBody (kind ∷ rest) cut bad =
    elim bad [
      | inl none ↦ none cut.0
      | inr p ↦ elim p [
        | inl long ↦ elim cut.1 [ inl short ↦ omega (arith, short, long.0) | inr q ↦ omega (arith, q.0, long.1) ]
        | inr whole ↦ elim cut.1 [ inl short ↦ omega (arith, short, whole.0) | inr q ↦ omega (arith, q.1, whole.0) ]
      ]
    ]
