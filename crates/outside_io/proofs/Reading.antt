-- What a loop of reads has taken so far.
use Rattle.std.proofs.Common.{◌≡◌, inl, inr, ℕ, ◌+◌, ◌<◌, ◌≤◌, List, [], ◌++◌, Option, Some, None, length, arith, ap, sym, ◌∙◌, subst, length-append}
use Rattle.std.specs.Prelude.{◌⊎◌, Result, Ok, Err, IsErrOf}
use Rattle.std.specs.Io.KnownBytes.{Consumes}
use Rattle.outside_io.specs.declared.whole.InputError.{InputError}
use Rattle.outside_io.specs.declared.whole.InputError.TheVariants.{Failed}
use Rattle.std.proofs.KnownBytes.{Consumes-trans, Consumes-nil}
use Rattle.outside_io.specs.Whole.{IsOverLimit, TakesAtMost, HasGrown}

-- more bytes were taken than the limit, so there were more
pub over_limit : (old new : Option (List ℕ)) (bytes : List ℕ) (limit : ℕ) → Consumes old new bytes → limit < length bytes → IsOverLimit limit old
over_limit None new bytes limit taken more = tt
over_limit (Some xs) None bytes limit taken more = absurd taken
over_limit (Some xs) (Some ys) bytes limit taken more = omega (arith, ap length taken, length-append bytes ys, more)

-- a read takes its piece behind what was taken before
pub takes_more : (old mid new : Option (List ℕ)) (bytes : List ℕ) (piece most : ℕ) → Consumes old mid bytes → TakesAtMost piece mid new → length bytes + piece ≤ most → TakesAtMost most old new
takes_more old mid new bytes piece most taken (front, next, short) fits =
    (bytes ++ front, Consumes-trans old mid new bytes front taken next, omega (arith, length-append bytes front, short, fits))

-- what a read moved stands behind what was taken before
pub taken_grown : (old mid new : Option (List ℕ)) (before after : List ℕ) (n : ℕ) → Consumes old mid before → HasGrown mid new before after n → Consumes old new after
taken_grown old mid new before after n taken moved =
    let P : List ℕ → Type 0 = Consumes old new in
    subst P (sym moved.grown) (Consumes-trans old mid new before moved.front taken moved.taken)

-- a list without bytes takes nothing
pub taken_nil : (left : Option (List ℕ)) (bytes : List ℕ) → bytes ≡ [] → Consumes left left bytes
taken_nil left bytes none =
    let P : List ℕ → Type 0 = Consumes left left in
    subst P (sym none) (Consumes-nil left)

-- an error that is handed on is the same error
pub same_fault : {T U : Type 0} (given handed fault : InputError) → IsErrOf {T = T} {E = InputError} (Err given) fault → given ≡ handed
    → IsErrOf {T = U} {E = InputError} (Err handed) fault
same_fault {T} {U} given handed fault was same =
    let same_value : given ≡ fault = cc in
    let fails : InputError → Result U InputError = λ x. Err x in
    ap fails (sym same ∙ same_value)

-- a call that answers Ok leaves the count of faults as it was before the loop
pub stays_past : {T : Type 0} (first before now : ℕ) (value : T) → IsErrOf {T = T} {E = InputError} (Ok value) Failed ⊎ (now ≡ before) → before ≡ first → now ≡ first
stays_past first before now value answered so_far = elim answered [ inl failed ↦ absurd (cc failed) | inr stands ↦ stands ∙ so_far ]
