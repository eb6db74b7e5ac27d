-- Which lists an image stands for.
use Rattle.std.proofs.Common.{◌≡◌, ◌≢◌, inl, inr, ℕ, ◌+◌, ◌-◌, ◌<◌, ◌≤◌, List, [], ◌∷◌, ◌++◌, length, take, drop, get_or, refl, sym, ◌∙◌, ap, arith, append_assoc, length-append, length-drop, take-append-drop}
use Rattle.std.specs.List.{All}
use Rattle.std.proofs.lemmas.Nat.{from_be_bytes-to_be_bytes_4}
use Rattle.std.proofs.lemmas.List.{take_at, drop_at, get_or-drop, drop-drop}
use Rattle.std.proofs.lemmas.List.Elements.{All-head, All-tail}
use Rattle.node_journal.specs.Frames.{length_bytes, length_from, length_at, most_payload, IsSmall, frames, HoldsFrame, IsReadTo, LeadsNowhere, StandsFor}
use Rattle.node_journal.proofs.Bytes.{length-length_bytes}
use Rattle.node_journal.proofs.Opens.{short_none}

-- the length that was spelled is read again
read_again : (size : ℕ) → size ≤ most_payload → length_from (length_bytes size) ≡ size
unfolding length_bytes length_from
read_again size small = from_be_bytes-to_be_bytes_4 size (omega arith)

-- a length and a payload, and what stands behind them
abbrev pub behind : List ℕ → List ℕ → List ℕ
behind payload rest = length_bytes (length payload) ++ (payload ++ rest)

pub regroup : (payload : List ℕ) (payloads : List (List ℕ)) (rest : List ℕ) → frames (payload ∷ payloads) ++ rest ≡ 1 ∷ behind payload (frames payloads ++ rest)
regroup payload payloads rest =
    append_assoc (1 ∷ length_bytes (length payload) ++ payload) (frames payloads) rest
    ∙ append_assoc (1 ∷ length_bytes (length payload)) payload (frames payloads ++ rest)

front_of : (payload rest : List ℕ) → take 4 (behind payload rest) ≡ length_bytes (length payload)
front_of payload rest = take_at (length_bytes (length payload)) (payload ++ rest) 4 (length-length_bytes (length payload))

rest_of : (payload rest : List ℕ) → drop 4 (behind payload rest) ≡ payload ++ rest
rest_of payload rest = drop_at (length_bytes (length payload)) (payload ++ rest) 4 (length-length_bytes (length payload))

pub same_first : (p q xs ys : List ℕ) → IsSmall p → IsSmall q → behind p xs ≡ behind q ys → (p ≡ q) × (xs ≡ ys)
same_first p q xs ys small_p small_q is =
    let fronts : length_bytes (length p) ≡ length_bytes (length q) = sym (front_of p xs) ∙ ap (take 4) is ∙ front_of q ys in
    let sizes : length p ≡ length q = sym (read_again (length p) small_p) ∙ ap length_from fronts ∙ read_again (length q) small_q in
    let rests : p ++ xs ≡ q ++ ys = sym (rest_of p xs) ∙ ap (drop 4) is ∙ rest_of q ys in (
      sym (take_at p xs (length q) sizes) ∙ ap (take (length q)) rests ∙ take_at q ys (length q) refl,
      sym (drop_at p xs (length q) sizes) ∙ ap (drop (length q)) rests ∙ drop_at q ys (length q) refl,
    )

pub tail_of : (x y : ℕ) (xs ys : List ℕ) → x ∷ xs ≡ y ∷ ys → xs ≡ ys
tail_of x y xs ys is = cc

-- two lists of frames, each with a gate behind it that is not open
same_lists : (ps qs : List (List ℕ)) (r s : List ℕ) → All IsSmall ps → All IsSmall qs → frames ps ++ r ≡ frames qs ++ s → get_or r 0 0 ≢ 1 → get_or s 0 0 ≢ 1 → ps ≡ qs
same_lists [] [] r s small_p small_q is closed_r closed_s = refl
same_lists [] (q ∷ qs) r s small_p small_q is closed_r closed_s = absurd (closed_r (ap (λ (l : List ℕ). get_or l 0 0) (is ∙ regroup q qs s)))
same_lists (p ∷ ps) [] r s small_p small_q is closed_r closed_s = absurd (closed_s (ap (λ (l : List ℕ). get_or l 0 0) (sym is ∙ regroup p ps r)))
same_lists (p ∷ ps) (q ∷ qs) r s small_p small_q is closed_r closed_s =
    let whole : 1 ∷ behind p (frames ps ++ r) ≡ 1 ∷ behind q (frames qs ++ s) = sym (regroup p ps r) ∙ is ∙ regroup q qs s in
    let same = same_first p q (frames ps ++ r) (frames qs ++ s) (All-head IsSmall p ps small_p) (All-head IsSmall q qs small_q)
    (tail_of 1 1 (behind p (frames ps ++ r)) (behind q (frames qs ++ s)) whole) in
    let rest : ps ≡ qs = same_lists ps qs r s (All-tail IsSmall p ps small_p) (All-tail IsSmall q qs small_q) same.1 closed_r closed_s in
    ap (λ (l : List ℕ). l ∷ ps) same.0 ∙ ap (λ (l : List (List ℕ)). q ∷ l) rest

pub split_at : (image : List ℕ) (gate : ℕ) (payloads : List (List ℕ)) → IsReadTo image gate payloads → image ≡ frames payloads ++ drop gate image
split_at image gate payloads read = sym (take-append-drop gate image) ∙ ap (λ (l : List ℕ). l ++ drop gate image) read.passed

gate_of : (image : List ℕ) (gate : ℕ) → get_or (drop gate image) 0 0 ≡ get_or image gate 0
gate_of image gate = let same : gate + 0 ≡ gate = omega arith in get_or-drop gate image 0 0 ∙ ap (λ (n : ℕ). get_or image n 0) same

-- an image stands for at most one list
pub at_most_one : (image : List ℕ) (payloads others : List (List ℕ)) → StandsFor image payloads → StandsFor image others → payloads ≡ others
at_most_one image payloads others (inl none) stands = none.1 ∙ sym (short_none image others none.0 stands)
at_most_one image payloads others (inr ends) (inl none) = short_none image payloads none.0 (inr ends) ∙ sym none.1
at_most_one image payloads others (inr ends) (inr ends') =
    same_lists payloads others (drop ends.0 image) (drop ends'.0 image) ends.1.read.small ends'.1.read.small
    (sym (split_at image ends.0 payloads ends.1.read) ∙ split_at image ends'.0 others ends'.1.read)
    (λ is_open. ends.1.closed (sym (gate_of image ends.0) ∙ is_open)) (λ is_open. ends'.1.closed (sym (gate_of image ends'.0) ∙ is_open))

-- an open gate that leads nowhere, and frames to a gate that is not open, are not the same bytes
no_both : (ps qs : List (List ℕ)) (d r : List ℕ) → All IsSmall ps → All IsSmall qs → frames ps ++ d ≡ frames qs ++ r → get_or r 0 0 ≢ 1 → 0 < length r
    → LeadsNowhere d 0 → ⊥
no_both [] [] d r small_p small_q is closed some nowhere = closed (ap (λ (l : List ℕ). get_or l 0 0) (sym is) ∙ nowhere.is_open)
no_both (p ∷ ps) [] d r small_p small_q is closed some nowhere = closed (ap (λ (l : List ℕ). get_or l 0 0) (sym is ∙ regroup p ps d))
no_both [] (q ∷ qs) d r small_p small_q is closed some nowhere =
    let whole : d ≡ 1 ∷ behind q (frames qs ++ r) = is ∙ regroup q qs r in
    let size : length_at d 0 ≡ length q =
    ap (λ (l : List ℕ). length_from (take 4 (drop 1 l))) whole ∙ ap length_from (front_of q (frames qs ++ r)) ∙ read_again (length q) (All-head IsSmall q qs small_q) in
    let long : length d ≡ 1 + (4 + (length q + length (frames qs ++ r))) =
    omega (arith, ap length whole, length-append (length_bytes (length q)) (q ++ (frames qs ++ r)), length-length_bytes (length q), length-append q (frames qs ++ r)) in
    let more : length (frames qs ++ r) ≡ length (frames qs) + length r = length-append (frames qs) r in
    let small : length q ≤ most_payload = All-head IsSmall q qs small_q in
    elim nowhere.nowhere [
      | inl short ↦ omega (arith, short, long)
      | inr rest ↦ elim rest [ inl great ↦ omega (arith, great, size, small) | inr past ↦ omega (arith, past, size, long, more) ]
    ]
no_both (p ∷ ps) (q ∷ qs) d r small_p small_q is closed some nowhere =
    let whole : 1 ∷ behind p (frames ps ++ d) ≡ 1 ∷ behind q (frames qs ++ r) = sym (regroup p ps d) ∙ is ∙ regroup q qs r in
    let same = same_first p q (frames ps ++ d) (frames qs ++ r) (All-head IsSmall p ps small_p) (All-head IsSmall q qs small_q)
    (tail_of 1 1 (behind p (frames ps ++ d)) (behind q (frames qs ++ r)) whole) in
    no_both ps qs d r (All-tail IsSmall p ps small_p) (All-tail IsSmall q qs small_q) same.1 closed some nowhere

-- what is said of the gate at a place is said of the bytes from there on
nowhere_from : (image : List ℕ) (gate : ℕ) → gate < length image → LeadsNowhere image gate → LeadsNowhere (drop gate image) 0
nowhere_from image gate within nowhere =
    let size : length (drop gate image) ≡ length image - gate = length-drop gate image in
    let there : length_at (drop gate image) 0 ≡ length_at image gate = ap (λ (l : List ℕ). length_from (take 4 l)) (drop-drop 1 gate image) in
    record {
      is_open = gate_of image gate ∙ nowhere.is_open;
      nowhere = elim nowhere.nowhere [
        | inl short ↦ inl (omega (arith, short, size))
        | inr rest ↦ elim rest [ inl great ↦ inr (inl (omega (arith, great, there))) | inr past ↦ inr (inr (omega (arith, past, there, size))) ]
      ];
    }

-- an image whose open gate leads nowhere stands for no list
pub none_at_all : (image : List ℕ) (gate : ℕ) (payloads others : List (List ℕ)) → 1 < length image → IsReadTo image gate payloads → LeadsNowhere image gate → StandsFor image others → ⊥
none_at_all image gate payloads others long read nowhere (inl none) = absurd (omega (arith, none.0))
none_at_all image gate payloads others long read nowhere (inr ends) =
    no_both payloads others (drop gate image) (drop ends.0 image) read.small ends.1.read.small
    (sym (split_at image gate payloads read) ∙ split_at image ends.0 others ends.1.read)
    (λ is_open. ends.1.closed (sym (gate_of image ends.0) ∙ is_open))
    (omega (arith, length-drop ends.0 image, ends.1.read.within)) (nowhere_from image gate read.within nowhere)

-- what stands behind a gate with a frame
frame_behind : (image : List ℕ) (gate : ℕ) (payload : List ℕ) → HoldsFrame image gate payload → drop gate image ≡ 1 ∷ behind payload (drop (gate + 5 + length payload) image)
frame_behind image gate payload holds = holds.frame ∙ append_assoc (1 ∷ length_bytes (length payload)) payload (drop (gate + 5 + length payload) image)

-- behind frames that were read stands one more, so it is the next of all
next_in : (ps qs : List (List ℕ)) (p d r : List ℕ) → All IsSmall ps → IsSmall p → All IsSmall qs → frames ps ++ (1 ∷ behind p d) ≡ frames qs ++ r → get_or r 0 0 ≢ 1
    → (rest : List (List ℕ)) × (qs ≡ ps ++ p ∷ rest)
next_in [] [] p d r small_ps small_p small_qs is closed = absurd (closed (ap (λ (l : List ℕ). get_or l 0 0) (sym is)))
next_in [] (q ∷ qs) p d r small_ps small_p small_qs is closed =
    let whole : 1 ∷ behind p d ≡ 1 ∷ behind q (frames qs ++ r) = is ∙ regroup q qs r in
    let same = same_first p q d (frames qs ++ r) small_p (All-head IsSmall q qs small_qs) (tail_of 1 1 (behind p d) (behind q (frames qs ++ r)) whole) in
    (qs, ap (λ (l : List ℕ). l ∷ qs) (sym same.0))
next_in (s ∷ ps) [] p d r small_ps small_p small_qs is closed = absurd (closed (ap (λ (l : List ℕ). get_or l 0 0) (sym is ∙ regroup s ps (1 ∷ behind p d))))
next_in (s ∷ ps) (q ∷ qs) p d r small_ps small_p small_qs is closed =
    let whole : 1 ∷ behind s (frames ps ++ (1 ∷ behind p d)) ≡ 1 ∷ behind q (frames qs ++ r) = sym (regroup s ps (1 ∷ behind p d)) ∙ is ∙ regroup q qs r in
    let same = same_first s q (frames ps ++ (1 ∷ behind p d)) (frames qs ++ r) (All-head IsSmall s ps small_ps) (All-head IsSmall q qs small_qs)
    (tail_of 1 1 (behind s (frames ps ++ (1 ∷ behind p d))) (behind q (frames qs ++ r)) whole) in
    let more = next_in ps qs p d r (All-tail IsSmall s ps small_ps) small_p (All-tail IsSmall q qs small_qs) same.1 closed in
    (more.0, ap (λ (l : List ℕ). l ∷ qs) (sym same.0) ∙ ap (λ (l : List (List ℕ)). s ∷ l) more.1)

-- the payload of a frame behind payloads that were read comes next in the list
pub next_of_list : (image : List ℕ) (gate : ℕ) (payloads others : List (List ℕ)) (payload : List ℕ) → IsReadTo image gate payloads → HoldsFrame image gate payload → StandsFor image others
    → (rest : List (List ℕ)) × (others ≡ payloads ++ payload ∷ rest)
next_of_list image gate payloads others payload read holds (inl none) = absurd (omega (arith, holds.next, none.0))
next_of_list image gate payloads others payload read holds (inr ends) =
    next_in payloads others payload (drop (gate + 5 + length payload) image) (drop ends.0 image) read.small holds.small ends.1.read.small
    (sym (split_at image gate payloads read ∙ ap (λ (l : List ℕ). frames payloads ++ l) (frame_behind image gate payload holds)) ∙ split_at image ends.0 others ends.1.read)
    (λ is_open. ends.1.closed (sym (gate_of image ends.0) ∙ is_open))

-- a gate has at most one frame behind it
pub one_frame : (image : List ℕ) (gate : ℕ) (payload other : List ℕ) → HoldsFrame image gate payload → HoldsFrame image gate other → payload ≡ other
one_frame image gate payload other holds holds' =
    (same_first payload other (drop (gate + 5 + length payload) image) (drop (gate + 5 + length other) image) holds.small holds'.small
    (tail_of 1 1 (behind payload (drop (gate + 5 + length payload) image)) (behind other (drop (gate + 5 + length other) image))
    (sym (frame_behind image gate payload holds) ∙ frame_behind image gate other holds'))).0

-- a gate that leads nowhere has no frame behind it
pub no_frame : (image : List ℕ) (gate : ℕ) (payload : List ℕ) → LeadsNowhere image gate → HoldsFrame image gate payload → ⊥
no_frame image gate payload nowhere holds =
    let rest : List ℕ = drop (gate + 5 + length payload) image in
    let whole : drop gate image ≡ 1 ∷ behind payload rest = frame_behind image gate payload holds in
    let size : length_at (drop gate image) 0 ≡ length payload =
    ap (λ (l : List ℕ). length_from (take 4 (drop 1 l))) whole ∙ ap length_from (front_of payload rest) ∙ read_again (length payload) holds.small in
    let there : length_at (drop gate image) 0 ≡ length_at image gate = ap (λ (l : List ℕ). length_from (take 4 l)) (drop-drop 1 gate image) in
    elim nowhere.nowhere [
      | inl short ↦ omega (arith, short, holds.next)
      | inr more ↦ elim more [ inl great ↦ omega (arith, great, size, there, holds.small) | inr past ↦ omega (arith, past, size, there, holds.next) ]
    ]
