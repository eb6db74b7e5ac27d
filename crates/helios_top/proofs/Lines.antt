-- The parts of a line, as they are put together, are the line.
use Rattle.std.proofs.Common.{◌≡◌, ℕ, List, ◌++◌, append_assoc}

pub stale_parts : (name place blank key read current feed : List ℕ)
    → (name ++ (place ++ blank)) ++ (key ++ (blank ++ (read ++ (blank ++ (current ++ feed))))) ≡ name ++ (place ++ blank) ++ key ++ (blank ++ read ++ blank ++ current ++ feed)
stale_parts name place blank key read current feed = simp append_assoc

pub summary_parts : (trial number steps commits refusals count digest hex feed : List ℕ)
    → (trial ++ (number ++ (steps ++ (commits ++ (refusals ++ (count ++ digest)))))) ++ (hex ++ feed) ≡ (trial ++ number ++ steps ++ commits ++ refusals ++ count ++ digest) ++ hex ++ feed
summary_parts trial number steps commits refusals count digest hex feed = simp append_assoc

pub both_parts : (name first blank second feed : List ℕ) → name ++ (first ++ (blank ++ (second ++ feed))) ≡ name ++ first ++ blank ++ second ++ feed
both_parts name first blank second feed = simp append_assoc
