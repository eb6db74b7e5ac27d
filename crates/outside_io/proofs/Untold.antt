-- What is said over a net that does not tell its contents.
use Rattle.std.proofs.Common.{◌≡◌, ℕ, ◌≤◌, Bool, false, List, [], ap, arith, refl}
use Rattle.outside_io.specs.Causes.{IsCount, one_more}
use Rattle.outside_io.specs.Net.{Talks}
use Rattle.outside_io.specs.System.{SocketNet, socket_seen}

-- nothing that it tells has changed
pub untold_same : (old new : SocketNet) (sent got : List ℕ) (at_end : Bool) → new ≡ old → Talks (socket_seen old) (socket_seen new) sent got at_end
untold_same old new sent got at_end same = record {
  told = refl;
  comes = tt;
  ended = λ _. tt;
  listens = ap (λ (n : SocketNet). n.listens) same;
  stands = ap (λ (n : SocketNet). n.stands) same;
  calls = ap (λ (n : SocketNet). n.call_faults) same;
  later = omega (arith, ap (λ (n : SocketNet). n.line_faults) same);
}

-- a read or a write has failed
pub untold_failed : (old new : SocketNet) → new ≡ record { listens = old.listens; stands = old.stands; call_faults = old.call_faults; line_faults = one_more old.line_faults } → IsCount old.line_faults
    → Talks (socket_seen old) (socket_seen new) [] [] false
untold_failed old new is count = record {
  told = refl;
  comes = tt;
  ended = λ _. tt;
  listens = ap (λ (n : SocketNet). n.listens) is;
  stands = ap (λ (n : SocketNet). n.stands) is;
  calls = ap (λ (n : SocketNet). n.call_faults) is;
  later = omega (arith, ap (λ (n : SocketNet). n.line_faults) is, count);
}
