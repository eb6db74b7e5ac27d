-- One field after another: what a step that was taken, or refused, says of what comes of it.
use Rattle.std.proofs.Common.{◌≡◌, ℕ, ◌≤◌, ◌&&◌, Bool, true, false, cond, leb, Result, Ok, Err, refl, IsErr}
use Rattle.std.proofs.lemmas.Bool.{leb-true}
use Rattle.log_records.specs.declared.faults.DecodeFault.{DecodeFault}
use Rattle.log_records.specs.Fields.{◌>>=◌, is_within}
use Rattle.link_codec.specs.declared.faults.LinkFault.{LinkFault}
use Rattle.link_codec.specs.declared.faults.LinkFault.TheVariants.{Cut, Bad, NoMemory}
use Rattle.link_codec.specs.Decoding.{Refuses}

-- what is refused at a field is refused with what would have come of it
pub refused_then : {A B : Type 0} (r : Result A DecodeFault) (next : A → Result B DecodeFault) → IsErr r → IsErr (r >>= next)
refused_then (Ok x) next e = absurd cc
refused_then (Err fault) next e = refl

pub bind_ok : {A B : Type 0} (r : Result A DecodeFault) (next : A → Result B DecodeFault) (y : B) → (r >>= next) ≡ Ok y → (x : A) × (r ≡ Ok x) × (next x ≡ Ok y)
bind_ok (Ok x) next y e = (x, refl, e)
bind_ok (Err fault) next y e = absurd cc

abbrev done : {A : Type 0} → A → Result A DecodeFault
done x = Ok x

pub ok_is : {A : Type 0} (x y : A) → done x ≡ done y → x ≡ y
ok_is x y e = cc

pub and_true : (a b : Bool) → (a && b) ≡ true → (a ≡ true) × (b ≡ true)
and_true true true e = (refl, refl)
and_true true false e = absurd cc
and_true false b e = absurd cc

pub within : (least most n : ℕ) → is_within least most n ≡ true → (least ≤ n) × (n ≤ most)
within least most n e = let p = and_true (leb least n) (leb n most) e in (leb-true least n p.0, leb-true n most p.1)

-- a field that was neither cut nor refused
pub ruled_ok : {X : Type 0} (short accepted : Bool) (x y : X) (fault other : DecodeFault) → cond {A = Result X DecodeFault} short (Err other) (cond {A = Result X DecodeFault} accepted (Ok x) (Err fault)) ≡ Ok y → (short ≡ false) × (accepted ≡ true) × (x ≡ y)
ruled_ok true accepted x y fault other e = absurd cc
ruled_ok false true x y fault other e = (refl, refl, cc)
ruled_ok false false x y fault other e = absurd cc

-- a fault stays where what is refused stays refused
pub refused_as : {A B : Type 0} (fault : LinkFault) (r : Result A DecodeFault) (s : Result B DecodeFault) → (IsErr r → IsErr s) → Refuses fault r → Refuses fault s
refused_as Cut r s goes e = e
refused_as Bad r s goes e = goes e
refused_as NoMemory r s goes e = tt
