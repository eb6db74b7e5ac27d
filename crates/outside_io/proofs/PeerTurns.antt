-- What a read and a write do to the peers of a net in memory.
use Rattle.std.proofs.Common.{◌≡◌, ℕ, suc, ◌-◌, ◌<◌, ◌≤◌, List, [], ◌∷◌, ◌++◌, Bool, false, length, map, take, drop, set, get_or, refl, sym, ◌∙◌, ap, subst, arith}
use Rattle.outside_io.specs.Seen.{Talk}
use Rattle.outside_io.specs.Net.{is_end, more, on_last}
use Rattle.outside_io.specs.MemoryNet.{AreLaid, MemoryLine, MemoryPeers, left_of, read_line, talk_of, wrote_line}
use Rattle.outside_io.proofs.Lines.{laid_read, laid_wrote, left_last, left_set, talks_read, talks_wrote}

abbrev pub peers_with : List (List ℕ) → List ℕ → List Talk → ℕ → MemoryPeers
peers_with waiting left talks room = record { waiting = waiting; left = left; talks = talks; room = room }

pub same_peers : (waiting waiting' : List (List ℕ)) (left left' : List ℕ) (talks talks' : List Talk) (room room' : ℕ) → waiting ≡ waiting' → left ≡ left' → talks ≡ talks' → room ≡ room'
    → peers_with waiting left talks room ≡ peers_with waiting' left' talks' room'
same_peers waiting waiting' left left' talks talks' room room' w l t r =
    ap (λ x. peers_with x left talks room) w ∙ ap (λ x. peers_with waiting' x talks room) l ∙ ap (λ x. peers_with waiting' left' x room) t ∙ ap (peers_with waiting' left' talks') r

-- what is still to come is what the last connection has
pub peers_left : (old : MemoryPeers) (waiting : List (List ℕ)) (written : List ℕ) (lines : List MemoryLine) (room n : ℕ) (line : MemoryLine)
    → peers_with waiting (left_of lines) (map (talk_of written) lines) room ≡ old → suc n ≡ length lines → line ≡ get_or lines n line → line.left ≡ old.left
peers_left old waiting written lines room n line shown last is = sym (left_last lines n line last is) ∙ ap (λ (p : MemoryPeers). p.left) shown

pub peers_read : (old : MemoryPeers) (waiting : List (List ℕ)) (written : List ℕ) (lines : List MemoryLine) (room n count : ℕ) (line line' : MemoryLine) (into : List ℕ)
    → peers_with waiting (left_of lines) (map (talk_of written) lines) room ≡ old → suc n ≡ length lines → line ≡ get_or lines n line
    → line' ≡ read_line (take count line.left) (drop count line.left) (is_end count into) line
    → peers_with waiting (left_of (set lines n line')) (map (talk_of written) (set lines n line')) room
    ≡ peers_with old.waiting (drop count old.left) (on_last (more [] (take count old.left) (is_end count into)) old.talks) old.room
peers_read old waiting written lines room n count line line' into shown last is was =
    let lefts : line.left ≡ old.left = peers_left old waiting written lines room n line shown last is in
    let left : left_of (set lines n line') ≡ drop count old.left = left_set lines n line' last ∙ ap (λ (l : MemoryLine). l.left) was ∙ ap (λ xs. drop count xs) lefts in
    let talks : map (talk_of written) (set lines n line') ≡ on_last (more [] (take count old.left) (is_end count into)) old.talks =
    ap (λ (l : MemoryLine). map (talk_of written) (set lines n l)) was
    ∙ talks_read written lines n line (take count line.left) (drop count line.left) (is_end count into) last is
    ∙ ap (λ xs. on_last (more [] (take count xs) (is_end count into)) (map (talk_of written) lines)) lefts
    ∙ ap (λ (p : MemoryPeers). on_last (more [] (take count old.left) (is_end count into)) p.talks) shown in
    same_peers waiting old.waiting _ _ _ _ room old.room (ap (λ (p : MemoryPeers). p.waiting) shown) left talks (ap (λ (p : MemoryPeers). p.room) shown)

pub peers_kept : (written : List ℕ) (lines : List MemoryLine) (n : ℕ) (line line' : MemoryLine) (got left : List ℕ) (at_end : Bool) → AreLaid 0 lines (length written) → line ≡ get_or lines n line
    → line' ≡ read_line got left at_end line → AreLaid 0 (set lines n line') (length written)
peers_kept written lines n line line' got left at_end laid is was =
    subst (λ (l : MemoryLine). AreLaid 0 (set lines n l) (length written)) (sym was) (laid_read 0 lines (length written) n line got left at_end laid is)

pub peers_laid : (written grown piece : List ℕ) (lines : List MemoryLine) (n end : ℕ) (line line' : MemoryLine) → AreLaid 0 lines (length written) → suc n ≡ length lines → line ≡ get_or lines n line
    → grown ≡ written ++ piece → end ≡ length grown → length written ≤ end → line' ≡ wrote_line end line → AreLaid 0 (set lines n line') (length grown)
peers_laid written grown piece lines n end line line' laid last is more_ ends behind was =
    let there : AreLaid 0 (set lines n (wrote_line end line)) end = laid_wrote 0 lines (length written) n line end laid last is behind in
    subst (λ (l : MemoryLine). AreLaid 0 (set lines n l) (length grown)) (sym was) (subst (λ (m : ℕ). AreLaid 0 (set lines n (wrote_line end line)) m) ends there)

pub peers_wrote : (old : MemoryPeers) (waiting : List (List ℕ)) (written grown piece : List ℕ) (lines : List MemoryLine) (room n end : ℕ) (line line' : MemoryLine)
    → peers_with waiting (left_of lines) (map (talk_of written) lines) room ≡ old → AreLaid 0 lines (length written) → suc n ≡ length lines → line ≡ get_or lines n line
    → grown ≡ written ++ piece → end ≡ length grown → line' ≡ wrote_line end line
    → peers_with waiting (left_of (set lines n line')) (map (talk_of grown) (set lines n line')) (room - length piece)
    ≡ peers_with old.waiting old.left (on_last (more piece [] false) old.talks) (old.room - length piece)
peers_wrote old waiting written grown piece lines room n end line line' shown laid last is more_ ends was =
    let at : end ≡ length (written ++ piece) = ends ∙ ap length more_ in
    let left : left_of (set lines n line') ≡ old.left =
    left_set lines n line' last ∙ ap (λ (l : MemoryLine). l.left) was ∙ peers_left old waiting written lines room n line shown last is in
    let talks : map (talk_of grown) (set lines n line') ≡ on_last (more piece [] false) old.talks =
    ap (λ (l : MemoryLine). map (talk_of grown) (set lines n l)) was
    ∙ ap (λ xs. map (talk_of xs) (set lines n (wrote_line end line))) more_
    ∙ ap (λ m. map (talk_of (written ++ piece)) (set lines n (wrote_line m line))) at
    ∙ talks_wrote written piece 0 lines n line laid last is
    ∙ ap (λ (p : MemoryPeers). on_last (more piece [] false) p.talks) shown in
    same_peers waiting old.waiting _ _ _ _ (room - length piece) (old.room - length piece) (ap (λ (p : MemoryPeers). p.waiting) shown) left talks
    (ap (λ (p : MemoryPeers). p.room - length piece) shown)

length_on_last : (f : Talk → Talk) (talks : List Talk) → length (on_last f talks) ≡ length talks
length_on_last f [] = refl
length_on_last f (x ∷ []) = refl
length_on_last f (x ∷ y ∷ ys) = ap suc (length_on_last f (y ∷ ys))

-- a connection that was taken stays
pub still_some : (f : Talk → Talk) (old new : List Talk) → new ≡ on_last f old → 0 < length old → 0 < length new
still_some f old new is some = omega (arith, ap length is, length_on_last f old, some)
