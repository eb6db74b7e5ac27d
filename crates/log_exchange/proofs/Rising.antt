-- A run whose times never fall, and one more time behind it.
use Rattle.std.proofs.Common.{◌≡◌, ℕ, ◌≤◌, List, [], ◌∷◌, ◌++◌, Bool, false, take, drop, filter, max, sym, subst, arith}
use Rattle.log_exchange.specs.declared.run.Stamp.{Stamp}
use Rattle.log_exchange.specs.Runs.{IsRun, IsUpTo, TimesRise}
use Rattle.log_exchange.proofs.Lines.{all_filter, all_push, all_rest, all_take, all_weaker, pairs_filter, pairs_push, pairs_rest, pairs_take}

pub rising_pushed : (stamps new : List Stamp) (s : Stamp) (rising : Bool) (latest : ℕ) → IsUpTo s.time stamps → TimesRise stamps → new ≡ stamps ++ s ∷ [] → latest ≡ s.time
    → IsRun new rising latest
rising_pushed stamps new s rising latest up rises is late =
    let stands : IsRun (stamps ++ s ∷ []) rising s.time = record {
      below = all_push (λ a. a.time ≤ s.time) stamps s up (omega arith);
      rise = λ marked. pairs_push (λ a b. a.time ≤ b.time) stamps s rises up;
    } in
    subst (λ xs. IsRun xs rising latest) (sym is) (subst (λ time. IsRun (stamps ++ s ∷ []) rising time) (sym late) stands)

pub falling_pushed : (stamps new : List Stamp) (s : Stamp) (was rising : Bool) (before latest : ℕ) → IsRun stamps was before → new ≡ stamps ++ s ∷ [] → rising ≡ false
    → latest ≡ max before s.time → IsRun new rising latest
falling_pushed stamps new s was rising before latest run is falls late =
    let up : before ≤ latest = omega arith in
    let last : s.time ≤ latest = omega arith in
    let stands : IsRun (stamps ++ s ∷ []) rising latest = record {
      below = all_push (λ a. a.time ≤ latest) stamps s (all_weaker (λ a. a.time ≤ before) (λ a. a.time ≤ latest) (λ a low. omega arith) stamps run.below) last;
      rise = λ marked. absurd (cc);
    } in
    subst (λ xs. IsRun xs rising latest) (sym is) stands

pub run_front : (n : ℕ) (stamps new : List Stamp) (rising : Bool) (latest : ℕ) → new ≡ take n stamps → IsRun stamps rising latest → IsRun new rising latest
run_front n stamps new rising latest is run =
    let stands : IsRun (take n stamps) rising latest = record {
      below = all_take (λ a. a.time ≤ latest) n stamps run.below;
      rise = λ marked. pairs_take (λ a b. a.time ≤ b.time) n stamps (run.rise marked);
    } in
    subst (λ xs. IsRun xs rising latest) (sym is) stands

pub run_rest : (stamps new : List Stamp) (rising : Bool) (latest : ℕ) → new ≡ drop 1 stamps → IsRun stamps rising latest → IsRun new rising latest
run_rest stamps new rising latest is run =
    let stands : IsRun (drop 1 stamps) rising latest = record {
      below = all_rest (λ a. a.time ≤ latest) stamps run.below;
      rise = λ marked. pairs_rest (λ a b. a.time ≤ b.time) stamps (run.rise marked);
    } in
    subst (λ xs. IsRun xs rising latest) (sym is) stands

pub run_filter : (test : Stamp → Bool) (stamps new : List Stamp) (rising : Bool) (latest : ℕ) → new ≡ filter test stamps → IsRun stamps rising latest → IsRun new rising latest
run_filter test stamps new rising latest is run =
    let stands : IsRun (filter test stamps) rising latest = record {
      below = all_filter (λ a. a.time ≤ latest) test stamps run.below;
      rise = λ marked. pairs_filter (λ a b. a.time ≤ b.time) test stamps (run.rise marked);
    } in
    subst (λ xs. IsRun xs rising latest) (sym is) stands
