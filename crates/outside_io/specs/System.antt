-- What a net over the system's sockets holds.
use Rattle.std.specs.Prelude.{ℕ, Bool, None}
use Rattle.outside_io.specs.Seen.{NetSeen}

-- a net over sockets: whether it listens and whether a connection stands, and how many faults of each kind were counted
pub record SocketNet : Type 0 where
  pub listens : Bool
  pub stands : Bool
  pub call_faults : ℕ
  pub line_faults : ℕ

-- such a net does not tell its contents
abbrev pub socket_seen : SocketNet → NetSeen
socket_seen net = record { listens = net.listens; stands = net.stands; call_faults = net.call_faults; line_faults = net.line_faults; told = None }
