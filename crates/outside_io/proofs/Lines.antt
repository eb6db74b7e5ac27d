-- The connections of a net in memory, of which the last one is read and written.
use Rattle.std.proofs.Common.{◌≡◌, ℕ, zero, suc, ◌+◌, ◌-◌, ◌<◌, ◌≤◌, Bool, false, ◌||◌, List, [], ◌∷◌, ◌++◌, length, map, take, drop, set, get_or, refl, sym, ◌∙◌, ap, subst, arith, append-nil, length-append, length-drop, take_all, take-add, drop-drop}
use Rattle.std.proofs.lemmas.List.{drop-append-le, length-map, take-append-le, map-append}
use Rattle.outside_io.specs.Seen.{Talk}
use Rattle.outside_io.specs.Net.{fresh_talk, more, on_last}
use Rattle.outside_io.specs.MemoryNet.{AreLaid, MemoryLine, left_of, new_line, read_line, talk_of, wrote_line}
use Rattle.outside_io.specs.Laws.Talks.{on_last_append, same_talk}

-- the bytes begin no later than they end
pub laid_within : (start : ℕ) (lines : List MemoryLine) (end : ℕ) → AreLaid start lines end → start ≤ end
laid_within start [] end laid = omega (arith, laid)
laid_within start (line ∷ lines) end laid = omega (arith, laid.0, laid.1, laid_within line.ends lines end laid.2)

-- so it is for each connection
pub laid_at : (start : ℕ) (lines : List MemoryLine) (end n : ℕ) (line : MemoryLine) → AreLaid start lines end → n < length lines → line ≡ get_or lines n line
    → (line.starts ≤ line.ends) × (line.ends ≤ end)
laid_at start [] end n line laid below is = absurd (omega (arith, below))
laid_at start (x ∷ xs) end zero line laid below is =
    (omega (arith, ap (λ l. l.starts) is, ap (λ l. l.ends) is, laid.1), omega (arith, ap (λ l. l.ends) is, laid_within x.ends xs end laid.2))
laid_at start (x ∷ xs) end (suc n) line laid below is = laid_at x.ends xs end n line laid.2 (omega (arith, below)) is

-- a fresh one at the end
pub laid_new : (start : ℕ) (lines : List MemoryLine) (end : ℕ) (dialled bytes : List ℕ) → AreLaid start lines end → AreLaid start (lines ++ new_line dialled bytes end ∷ []) end
laid_new start [] end dialled bytes laid = (sym laid, omega arith, refl)
laid_new start (line ∷ lines) end dialled bytes laid = (laid.0, laid.1, laid_new line.ends lines end dialled bytes laid.2)

-- the last one was read
pub laid_read : (start : ℕ) (lines : List MemoryLine) (end n : ℕ) (line : MemoryLine) (got left : List ℕ) (at_end : Bool) → AreLaid start lines end → line ≡ get_or lines n line
    → AreLaid start (set lines n (read_line got left at_end line)) end
laid_read start [] end n line got left at_end laid is = laid
laid_read start (x ∷ xs) end zero line got left at_end laid is =
    subst (λ (l : MemoryLine). AreLaid start (read_line got left at_end l ∷ xs) end) (sym is) (laid.0, laid.1, laid.2)
laid_read start (x ∷ xs) end (suc n) line got left at_end laid is = (laid.0, laid.1, laid_read x.ends xs end n line got left at_end laid.2 is)

-- the last one was written
pub laid_wrote : (start : ℕ) (lines : List MemoryLine) (end n : ℕ) (line : MemoryLine) (later : ℕ) → AreLaid start lines end → suc n ≡ length lines → line ≡ get_or lines n line → end ≤ later
    → AreLaid start (set lines n (wrote_line later line)) later
laid_wrote start [] end n line later laid last is behind = absurd (omega (arith, last))
laid_wrote start (x ∷ []) end zero line later laid last is behind =
    subst (λ (l : MemoryLine). AreLaid start (wrote_line later l ∷ []) later) (sym is) (laid.0, omega (arith, laid.1, laid.2, behind), refl)
laid_wrote start (x ∷ []) end (suc n) line later laid last is behind = absurd (omega (arith, last))
laid_wrote start (x ∷ y ∷ ys) end zero line later laid last is behind = absurd (omega (arith, last))
laid_wrote start (x ∷ y ∷ ys) end (suc n) line later laid last is behind =
    (laid.0, laid.1, laid_wrote x.ends (y ∷ ys) end n line later laid.2 (omega (arith, last)) is behind)

-- what is still to come on the last one
pub left_last : (lines : List MemoryLine) (n : ℕ) (line : MemoryLine) → suc n ≡ length lines → line ≡ get_or lines n line → left_of lines ≡ line.left
left_last [] n line last is = absurd (omega (arith, last))
left_last (x ∷ []) zero line last is = ap (λ l. l.left) (sym is)
left_last (x ∷ []) (suc n) line last is = absurd (omega (arith, last))
left_last (x ∷ y ∷ ys) zero line last is = absurd (omega (arith, last))
left_last (x ∷ y ∷ ys) (suc n) line last is = left_last (y ∷ ys) n line (omega (arith, last)) is

pub left_set : (lines : List MemoryLine) (n : ℕ) (line : MemoryLine) → suc n ≡ length lines → left_of (set lines n line) ≡ line.left
left_set [] n line last = absurd (omega (arith, last))
left_set (x ∷ []) zero line last = refl
left_set (x ∷ []) (suc n) line last = absurd (omega (arith, last))
left_set (x ∷ y ∷ ys) zero line last = absurd (omega (arith, last))
left_set (x ∷ y ∷ []) (suc zero) line last = refl
left_set (x ∷ y ∷ []) (suc (suc n)) line last = absurd (omega (arith, last))
left_set (x ∷ y ∷ z ∷ zs) (suc zero) line last = absurd (omega (arith, last))
left_set (x ∷ y ∷ z ∷ zs) (suc (suc n)) line last = left_set (y ∷ z ∷ zs) (suc n) line (omega (arith, last))

pub left_new : (lines : List MemoryLine) (line : MemoryLine) → left_of (lines ++ line ∷ []) ≡ line.left
left_new [] line = refl
left_new (x ∷ []) line = refl
left_new (x ∷ y ∷ ys) line = left_new (y ∷ ys) line

-- the last one was changed, and so was its talk
talks_set : (f : MemoryLine → Talk) (h : Talk → Talk) (lines : List MemoryLine) (n : ℕ) (line line' : MemoryLine) → suc n ≡ length lines → line ≡ get_or lines n line
    → f line' ≡ h (f line) → map f (set lines n line') ≡ on_last h (map f lines)
talks_set f h [] n line line' last is step = absurd (omega (arith, last))
talks_set f h (x ∷ []) zero line line' last is step = ap (λ t. t ∷ []) (step ∙ ap (λ l. h (f l)) is)
talks_set f h (x ∷ []) (suc n) line line' last is step = absurd (omega (arith, last))
talks_set f h (x ∷ y ∷ ys) zero line line' last is step = absurd (omega (arith, last))
talks_set f h (x ∷ y ∷ ys) (suc n) line line' last is step = ap (λ ts. f x ∷ ts) (talks_set f h (y ∷ ys) n line line' (omega (arith, last)) is step)

pub talks_read : (written : List ℕ) (lines : List MemoryLine) (n : ℕ) (line : MemoryLine) (got left : List ℕ) (at_end : Bool) → suc n ≡ length lines → line ≡ get_or lines n line
    → map (talk_of written) (set lines n (read_line got left at_end line)) ≡ on_last (more [] got at_end) (map (talk_of written) lines)
talks_read written lines n line got left at_end last is =
    let sent : List ℕ = take (line.ends - line.starts) (drop line.starts written) in
    talks_set (talk_of written) (more [] got at_end) lines n line (read_line got left at_end line) last is
    (same_talk line.dialled sent (sent ++ []) (line.got ++ got) (line.got ++ got) (at_end || line.at_end) (at_end || line.at_end) (sym (append-nil sent)) refl refl)

-- what was written later changes nothing of what ended before
kept_sent : (written piece : List ℕ) (starts ends : ℕ) → starts ≤ ends → ends ≤ length written
    → take (ends - starts) (drop starts (written ++ piece)) ≡ take (ends - starts) (drop starts written)
kept_sent written piece starts ends within below =
    ap (take (ends - starts)) (drop-append-le starts written piece (omega (arith, within, below)))
    ∙ take-append-le (ends - starts) (drop starts written) piece (omega (arith, length-drop starts written, within, below))

grown_sent : (written piece : List ℕ) (starts ends : ℕ) → starts ≤ ends → ends ≡ length written
    → take (length (written ++ piece) - starts) (drop starts (written ++ piece)) ≡ take (ends - starts) (drop starts written) ++ piece
grown_sent written piece starts ends within here =
    take_all (length (written ++ piece) - starts) (drop starts (written ++ piece)) (omega (arith, length-drop starts (written ++ piece)))
    ∙ drop-append-le starts written piece (omega (arith, within, here))
    ∙ ap (λ xs. xs ++ piece) (sym (take_all (ends - starts) (drop starts written) (omega (arith, length-drop starts written, here))))

pub talks_wrote : (written piece : List ℕ) (start : ℕ) (lines : List MemoryLine) (n : ℕ) (line : MemoryLine) → AreLaid start lines (length written) → suc n ≡ length lines → line ≡ get_or lines n line
    → map (talk_of (written ++ piece)) (set lines n (wrote_line (length (written ++ piece)) line)) ≡ on_last (more piece [] false) (map (talk_of written) lines)
talks_wrote written piece start [] n line laid last is = absurd (omega (arith, last))
talks_wrote written piece start (x ∷ []) zero line laid last is =
    let talk : talk_of (written ++ piece) (wrote_line (length (written ++ piece)) x) ≡ more piece [] false (talk_of written x) =
    same_talk x.dialled _ _ x.got (x.got ++ []) x.at_end x.at_end (grown_sent written piece x.starts x.ends laid.1 laid.2) (sym (append-nil x.got)) refl in
    ap (λ l. talk_of (written ++ piece) (wrote_line (length (written ++ piece)) l) ∷ []) is ∙ ap (λ t. t ∷ []) talk
talks_wrote written piece start (x ∷ []) (suc n) line laid last is = absurd (omega (arith, last))
talks_wrote written piece start (x ∷ y ∷ ys) zero line laid last is = absurd (omega (arith, last))
talks_wrote written piece start (x ∷ y ∷ ys) (suc n) line laid last is =
    let kept : talk_of (written ++ piece) x ≡ talk_of written x =
    same_talk x.dialled _ _ x.got x.got x.at_end x.at_end (kept_sent written piece x.starts x.ends laid.1 (laid_within x.ends (y ∷ ys) (length written) laid.2)) refl refl in
    ap (λ t. t ∷ map (talk_of (written ++ piece)) (set (y ∷ ys) n (wrote_line (length (written ++ piece)) line))) kept
    ∙ ap (λ ts. talk_of written x ∷ ts) (talks_wrote written piece x.ends (y ∷ ys) n line laid.2 (omega (arith, last)) is)

pub talks_new : (written : List ℕ) (lines : List MemoryLine) (dialled bytes : List ℕ)
    → map (talk_of written) (lines ++ new_line dialled bytes (length written) ∷ []) ≡ map (talk_of written) lines ++ fresh_talk dialled ∷ []
talks_new written lines dialled bytes =
    map-append (talk_of written) lines (new_line dialled bytes (length written) ∷ [])
    ∙ ap (λ sent. map (talk_of written) lines ++ record { dialled = dialled; sent = sent; got = []; at_end = false } ∷ []) none
  where
    none : take (length written - length written) (drop (length written) written) ≡ []
    none = let zero_left : length written - length written ≡ 0 = omega arith in ap (λ n. take n (drop (length written) written)) zero_left

abbrev line_with : MemoryLine → List ℕ → List ℕ → Bool → MemoryLine
line_with line got left at_end = record { dialled = line.dialled; got = got; left = left; at_end = at_end; starts = line.starts; ends = line.ends }

-- a read moved bytes from those still to come behind those read
pub line_read : (line : MemoryLine) (dialled bytes : List ℕ) (at count : ℕ) (met at_end end : Bool) (starts ends : ℕ)
    → record { dialled = dialled; got = take at bytes; left = drop at bytes; at_end = at_end; starts = starts; ends = ends } ≡ line → met ≡ (end || at_end)
    → record { dialled = dialled; got = take (at + count) bytes; left = drop (at + count) bytes; at_end = met; starts = starts; ends = ends }
    ≡ read_line (take count line.left) (drop count line.left) end line
line_read line dialled bytes at count met at_end end starts ends is told =
    let old : MemoryLine = record { dialled = dialled; got = take at bytes; left = drop at bytes; at_end = at_end; starts = starts; ends = ends } in
    ap (λ xs. line_with old xs (drop (at + count) bytes) met) (take-add at count bytes)
    ∙ ap (λ xs. line_with old (take at bytes ++ take count (drop at bytes)) xs met) (sym (drop-drop count at bytes))
    ∙ ap (line_with old (take at bytes ++ take count (drop at bytes)) (drop count (drop at bytes))) told
    ∙ ap (λ l. read_line (take count l.left) (drop count l.left) end l) is

-- the talk of a connection by its number
pub talk_at : (written : List ℕ) (lines : List MemoryLine) (n : ℕ) (line : MemoryLine) (d : Talk) → n < length lines → line ≡ get_or lines n line
    → get_or (map (talk_of written) lines) n d ≡ talk_of written line
talk_at written [] n line d below is = absurd (omega (arith, below))
talk_at written (x ∷ xs) zero line d below is = ap (talk_of written) (sym is)
talk_at written (x ∷ xs) (suc n) line d below is = talk_at written xs n line d (omega (arith, below)) is

-- the bytes written on a connection lie within those that were written
pub laid_part : (written : List ℕ) (lines : List MemoryLine) (n : ℕ) (line : MemoryLine) (starts ends : ℕ) → AreLaid 0 lines (length written) → n < length (map (talk_of written) lines)
    → line ≡ get_or lines n line → starts ≡ line.starts → ends ≡ line.ends → (starts ≤ ends) × (ends ≤ length written)
laid_part written lines n line starts ends laid below is first last =
    let within : (line.starts ≤ line.ends) × (line.ends ≤ length written) =
    laid_at 0 lines (length written) n line laid (omega (arith, below, length-map lines (talk_of written))) is in
    (omega (arith, within.0, first, last), omega (arith, within.1, last))
