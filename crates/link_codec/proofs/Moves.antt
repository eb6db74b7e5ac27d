-- What is read of bytes does not depend on how many there were before, where it is read again as it was.
use Rattle.std.proofs.Common.{◌≡◌, ℕ, ◌+◌, ◌<◌, ◌≤◌, List, ◌++◌, length, drop, All, Result, Ok, Err, refl, sym, ap, ◌∙◌, arith, length-append, IsErr}
use Rattle.std.proofs.lemmas.List.{drop_at}
use Rattle.log_records.specs.declared.faults.DecodeFault.{DecodeFault}
use Rattle.log_records.specs.declared.faults.DecodeFault.TheVariants.{Cut, Bad, BadDigest, NoMemory}
use Rattle.log_records.specs.Decoding.{Fails}
use Rattle.link_codec.specs.Decoding.{Refuses}
use Rattle.link_codec.specs.Faults.{passed}
use Rattle.link_codec.proofs.Taken.{AreBytes, all_small}

-- a value that has a spelling is read again as it was, whatever follows it and stood before it
abbrev pub IsReadAgain : {X : Type 0} → (X → List ℕ) → (X → Type 0) → (ℕ → List ℕ → Result (X × List ℕ) DecodeFault) → Type 0
IsReadAgain {X} spelled HasSpelling read = (whole : ℕ) (x : X) (rest : List ℕ) → HasSpelling x → read whole (spelled x ++ rest) ≡ Ok (x, rest)

-- what is read from bytes has a spelling, and they begin with it
abbrev pub IsSpelled : {X : Type 0} → (X → List ℕ) → (X → Type 0) → (ℕ → List ℕ → Result (X × List ℕ) DecodeFault) → Type 0
IsSpelled {X} spelled HasSpelling read = (whole : ℕ) (bytes : List ℕ) (x : X) (rest : List ℕ) → All (λ b. b < 256) bytes → read whole bytes ≡ Ok (x, rest) → HasSpelling x × (bytes ≡ spelled x ++ rest)

is_refused : {X : Type 0} (r : Result X DecodeFault) → ((y : X) → r ≡ Ok y → ⊥) → IsErr r
is_refused (Ok y) none = absurd (none y refl)
is_refused (Err fault) none = refl

pub not_both : {X : Type 0} (r : Result X DecodeFault) (y : X) → IsErr r → r ≡ Ok y → ⊥
not_both r y refused read = let failed = rw read at refused in absurd cc

module _ {X : Type 0} (spelled : X → List ℕ) (HasSpelling : X → Type 0) (read : ℕ → List ℕ → Result (X × List ℕ) DecodeFault) (again : IsReadAgain spelled HasSpelling read) (taken : IsSpelled spelled HasSpelling read) (bytes : List ℕ) (small : AreBytes bytes) where
  pub moved : (v w : ℕ) (x : X) (rest : List ℕ) → read v bytes ≡ Ok (x, rest) → read w bytes ≡ Ok (x, rest)
  moved v w x rest e = let t = taken v bytes x rest (all_small bytes small) e in ap (read w) t.1 ∙ again w x rest t.0

  -- what is left stands behind as many bytes as were taken
  pub moved_on : (v w : ℕ) (x : X) (rest : List ℕ) (n : ℕ) → read v bytes ≡ Ok (x, rest) → n + length rest ≡ length bytes → (n ≤ length bytes) × (read w bytes ≡ Ok (x, drop n bytes))
  moved_on v w x rest n e counted =
      let t = taken v bytes x rest (all_small bytes small) e in
      let long : length (spelled x) ≡ n = omega (arith, counted, ap length t.1, length-append (spelled x) rest) in
      let left : drop n bytes ≡ rest = ap (drop n) t.1 ∙ drop_at (spelled x) rest n long in
      (omega (arith, counted), moved v w x rest e ∙ ap (λ (r : List ℕ). Ok (x, r)) (sym left))

  pub moved_refused : (v w : ℕ) → IsErr (read v bytes) → IsErr (read w bytes)
  moved_refused v w e = is_refused (read w bytes) (λ y found. not_both (read v bytes) y e (moved w v y.0 y.1 found))

  -- a fault of records is a refusal
  pub moved_fault : (v w : ℕ) (fault : DecodeFault) → Fails fault (read v bytes) → Refuses (passed fault) (read w bytes)
  moved_fault v w Cut e = moved_refused v w (rw e refl)
  moved_fault v w (Bad at) e = moved_refused v w (rw e refl)
  moved_fault v w BadDigest e = moved_refused v w (rw e refl)
  moved_fault v w NoMemory e = tt
