-- The steps to come, one step further.
use Rattle.std.proofs.Common.{◌≡◌, ℕ, zero, suc, ◌+◌, ◌-◌, ◌<◌, ◌≤◌, List, [], ◌∷◌, ◌++◌, length, refl, sym, ap, ◌∙◌, append_assoc, arith}
use Rattle.std.proofs.lemmas.List.{append-nil}
use Rattle.schedule_text.specs.declared.steps.Step.{Step}
use Rattle.sample_schedules.specs.Generator.{pulled, step, steps_from}

pub one_more : (made : List Step) (sites steps i : ℕ) (pulls : List ℕ) (x : ℕ) → i < steps
    → made ++ steps_from sites (steps - i) i pulls x ≡ (made ++ (step sites pulls i x).0 ∷ []) ++ steps_from sites (steps - (i + 1)) (i + 1) (pulls ++ pulled (step sites pulls i x).0) (step sites pulls i x).1
unfolding steps_from
one_more made sites steps i pulls x more =
    let left : steps - i ≡ suc (steps - (i + 1)) = omega arith in
    ap (λ n. made ++ steps_from sites n i pulls x) left
    ∙ sym (append_assoc made ((step sites pulls i x).0 ∷ []) (steps_from sites (steps - (i + 1)) (i + 1) (pulls ++ pulled (step sites pulls i x).0) (step sites pulls i x).1))

pub none_more : (made : List Step) (sites steps i : ℕ) (pulls : List ℕ) (x : ℕ) → steps ≤ i → made ++ steps_from sites (steps - i) i pulls x ≡ made
unfolding steps_from
none_more made sites steps i pulls x all =
    let left : steps - i ≡ 0 = omega arith in
    ap (λ n. made ++ steps_from sites n i pulls x) left ∙ append-nil made
