use Rattle.std.proofs.Common.{◌≡◌, ℕ, ◌+◌, ◌≤◌, false, arith}
use Rattle.std.specs.Prelude.{◌↔◌, pos, ◌+ℤ◌, ◌-ℤ◌, ◌≤ℤ◌, IsTrue, nat_eq, nat_le}
use Rattle.std.proofs.lemmas.Int.{ints}
use Rattle.std.proofs.lemmas.Bool.{ne_eqb, le-leb, leb-true}
use Rattle.helios_model.specs.Plans.{rtt, latency}
use Rattle.helios_model.specs.Offset.{OffsetsAreTested}

reached : (l r q time : ℕ) → (pos q +ℤ (pos l -ℤ pos r)) ≤ℤ pos time → q + l ≤ time + r
reached l r q time h = omega (arith, ints)

lands : (l r q time : ℕ) → q + l ≤ time + r → (pos q +ℤ (pos l -ℤ pos r)) ≤ℤ pos time
lands l r q time h = omega (arith, ints)

past : (l r q time : ℕ) → (pos q +ℤ (pos l -ℤ pos r)) ≤ℤ pos time ↔ IsTrue (nat_le (q + l) (time + r))
past l r q time = ((λ h. le-leb (q + l) (time + r) (reached l r q time h)), (λ h. lands l r q time (leb-true (q + l) (time + r) h)))

within : (l r q time : ℕ) → pos time ≤ℤ (pos q +ℤ (pos l -ℤ pos r)) ↔ (time + r ≤ q + l)
within l r q time = ((λ h. omega (arith, ints)), (λ h. omega (arith, ints)))

pub offset_is_tested : OffsetsAreTested
offset_is_tested plan i j q time apart =
    let other : nat_eq i j ≡ false = ne_eqb i j apart in
    record {
      past = rw other (past (latency plan i) (rtt plan i j) q time);
      within = rw other (within (latency plan i) (rtt plan i j) q time);
    }
