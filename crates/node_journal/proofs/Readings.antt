-- Two readings of one image.
use Rattle.std.proofs.Common.{◌≡◌, ◌⊎◌, inl, inr, ℕ, ◌+◌, ◌<◌, List, [], ◌∷◌, ◌++◌, length, drop, refl, sym, ◌∙◌, ap, arith, append_assoc, length-append, length-drop}
use Rattle.std.specs.List.{All}
use Rattle.std.proofs.lemmas.List.{drop_at, drop-drop}
use Rattle.std.proofs.lemmas.List.Elements.{All-head, All-tail}
use Rattle.node_journal.specs.Frames.{length_bytes, IsSmall, frames, HoldsFrame, IsReadTo}
use Rattle.node_journal.specs.Laws.{GoesOn}
use Rattle.node_journal.proofs.Bytes.{length-length_bytes}
use Rattle.node_journal.proofs.Images.{size_read}
use Rattle.node_journal.proofs.Lists.{behind, regroup, same_first, split_at, tail_of}

-- the second frames go on behind the first ones
record RunsOn (ps qs : List (List ℕ)) (r s : List ℕ) : Type 0 where
  payload : List ℕ
  rest : List (List ℕ)
  small : IsSmall payload
  goes_on : qs ≡ ps ++ payload ∷ rest
  behind_is : r ≡ 1 ∷ behind payload (frames rest ++ s)

-- with one frame more before both
runs_push : (p q : List ℕ) (ps qs : List (List ℕ)) (r s : List ℕ) → p ≡ q → RunsOn ps qs r s → RunsOn (p ∷ ps) (q ∷ qs) r s
runs_push p q ps qs r s same on = record {
  payload = on.payload;
  rest = on.rest;
  small = on.small;
  goes_on = ap (λ (l : List ℕ). l ∷ qs) (sym same) ∙ ap (λ (l : List (List ℕ)). p ∷ l) on.goes_on;
  behind_is = on.behind_is;
}

-- two lists of frames that begin the same bytes
two_runs : (ps qs : List (List ℕ)) (r s : List ℕ) → All IsSmall ps → All IsSmall qs → frames ps ++ r ≡ frames qs ++ s → (ps ≡ qs) ⊎ RunsOn ps qs r s ⊎ RunsOn qs ps s r
two_runs [] [] r s small_p small_q is = inl refl
two_runs [] (q ∷ qs) r s small_p small_q is =
    inr (inl (record { payload = q; rest = qs; small = All-head IsSmall q qs small_q; goes_on = refl; behind_is = is ∙ regroup q qs s }))
two_runs (p ∷ ps) [] r s small_p small_q is =
    inr (inr (record { payload = p; rest = ps; small = All-head IsSmall p ps small_p; goes_on = refl; behind_is = sym is ∙ regroup p ps r }))
two_runs (p ∷ ps) (q ∷ qs) r s small_p small_q is =
    let whole : 1 ∷ behind p (frames ps ++ r) ≡ 1 ∷ behind q (frames qs ++ s) = sym (regroup p ps r) ∙ is ∙ regroup q qs s in
    let same = same_first p q (frames ps ++ r) (frames qs ++ s) (All-head IsSmall p ps small_p) (All-head IsSmall q qs small_q)
    (tail_of 1 1 (behind p (frames ps ++ r)) (behind q (frames qs ++ s)) whole) in
    elim (two_runs ps qs r s (All-tail IsSmall p ps small_p) (All-tail IsSmall q qs small_q) same.1) [
      | inl rest ↦ inl (ap (λ (l : List ℕ). l ∷ ps) same.0 ∙ ap (λ (l : List (List ℕ)). q ∷ l) rest)
      | inr more ↦ elim more [ inl on ↦ inr (inl (runs_push p q ps qs r s same.0 on)) | inr on ↦ inr (inr (runs_push q p qs ps s r (sym same.0) on)) ]
    ]

-- an open gate with a payload behind it, and something behind that
holds_of : (image : List ℕ) (gate : ℕ) (payload rest : List ℕ) → IsSmall payload → 0 < length rest → drop gate image ≡ 1 ∷ behind payload rest → HoldsFrame image gate payload
holds_of image gate payload rest small some is =
    let front : List ℕ = (1 ∷ length_bytes (length payload)) ++ payload in
    let whole : drop gate image ≡ front ++ rest = is ∙ sym (append_assoc (1 ∷ length_bytes (length payload)) payload rest) in
    let size : length front ≡ length payload + 5 = omega (arith, length-append (1 ∷ length_bytes (length payload)) payload, length-length_bytes (length payload)) in
    let place : gate + (length payload + 5) ≡ gate + 5 + length payload = omega arith in
    let behind_it : rest ≡ drop (gate + 5 + length payload) image =
    sym (drop_at front rest (length payload + 5) size) ∙ ap (drop (length payload + 5)) (sym whole) ∙ drop-drop (length payload + 5) gate image ∙ ap (λ (n : ℕ). drop n image) place in
    record {
      frame = whole ∙ ap (λ (l : List ℕ). front ++ l) behind_it;
      next = omega (arith, ap length whole, length-append front rest, size, length-drop gate image, some);
      small = small;
    }

goes_on : (image : List ℕ) (gate other : ℕ) (payloads others : List (List ℕ)) → IsReadTo image other others → RunsOn payloads others (drop gate image) (drop other image)
    → GoesOn image gate payloads others
goes_on image gate other payloads others read on = record {
  payload = on.payload;
  rest = on.rest;
  frame = holds_of image gate on.payload (frames on.rest ++ drop other image) on.small
      (omega (arith, length-append (frames on.rest) (drop other image), length-drop other image, read.within)) on.behind_is;
  goes_on = on.goes_on;
}

-- two readings of an image are the same, or the one goes on where the other stands
pub one_reading : (image : List ℕ) (gate other : ℕ) (payloads others : List (List ℕ)) → IsReadTo image gate payloads → IsReadTo image other others
    → ((gate ≡ other) × (payloads ≡ others)) ⊎ GoesOn image gate payloads others ⊎ GoesOn image other others payloads
one_reading image gate other payloads others read read' =
    elim (two_runs payloads others (drop gate image) (drop other image) read.small read'.small (sym (split_at image gate payloads read) ∙ split_at image other others read')) [
      | inl same ↦ inl (sym (size_read image gate payloads read) ∙ ap (λ (l : List (List ℕ)). length (frames l)) same ∙ size_read image other others read', same)
      | inr more ↦ elim more [ inl on ↦ inr (inl (goes_on image gate other payloads others read' on)) | inr on ↦ inr (inr (goes_on image other gate others payloads read on)) ]
    ]
