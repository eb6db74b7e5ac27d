-- What a net in memory holds.
use Rattle.std.specs.Prelude.{◌≡◌, ℕ, ◌-◌, ◌≤◌, Bool, false, ◌||◌, List, [], ◌∷◌, ◌++◌, take, drop, Some}
use Rattle.outside_io.specs.Seen.{Talk, NetTold, NetSeen}
use Rattle.outside_io.specs.declared.connection.Connection.{Connection}

-- a net in memory: whether it listens and whether a connection stands, what it tells, how many more bytes there is room for,
-- the most that one read gives and one write takes, the numbers of the calls that fail, how many calls have come, and how many
-- faults of each kind were counted
pub record MemoryNet : Type 0 where
  pub listens : Bool
  pub stands : Bool
  pub told : NetTold
  pub room : ℕ
  pub piece : ℕ
  pub fails : List ℕ
  pub calls : ℕ
  pub call_faults : ℕ
  pub line_faults : ℕ

-- what such a net tells
abbrev pub memory_seen : MemoryNet → NetSeen
memory_seen net = record { listens = net.listens; stands = net.stands; call_faults = net.call_faults; line_faults = net.line_faults; told = Some net.told }

-- the peers of a net in memory: what those to come will send, what the last one taken has still to send, what was said on each
-- connection, and how many more bytes may be written over all of them
pub record MemoryPeers : Type 0 where
  pub waiting : List (List ℕ)
  pub left : List ℕ
  pub talks : List Talk
  pub room : ℕ

-- one connection of a net in memory: the address that was dialled, the bytes read and those still to come, whether the end was
-- met, and where its own begin and end among the bytes written over all connections
pub record MemoryLine : Type 0 where
  pub dialled : List ℕ
  pub got : List ℕ
  pub left : List ℕ
  pub at_end : Bool
  pub starts : ℕ
  pub ends : ℕ

-- a connection on which nothing was said, whose bytes begin here
abbrev pub new_line : List ℕ → List ℕ → ℕ → MemoryLine
new_line dialled bytes place = record { dialled = dialled; got = []; left = bytes; at_end = false; starts = place; ends = place }

-- the same one behind a read that gave these bytes and left those
abbrev pub read_line : List ℕ → List ℕ → Bool → MemoryLine → MemoryLine
read_line got left at_end line = record { dialled = line.dialled; got = line.got ++ got; left = left; at_end = at_end || line.at_end; starts = line.starts; ends = line.ends }

-- the same one, whose bytes now end here
abbrev pub wrote_line : ℕ → MemoryLine → MemoryLine
wrote_line end line = record { dialled = line.dialled; got = line.got; left = line.left; at_end = line.at_end; starts = line.starts; ends = end }

-- what was said on it, where these bytes were written over all connections
abbrev pub talk_of : List ℕ → MemoryLine → Talk
talk_of written line = record { dialled = line.dialled; sent = take (line.ends - line.starts) (drop line.starts written); got = line.got; at_end = line.at_end }

-- the bytes still to come on the last one
abbrev pub left_of : List MemoryLine → List ℕ
left_of [] = []
left_of (line ∷ []) = line.left
left_of (line ∷ next ∷ lines) = left_of (next ∷ lines)

-- the bytes written on one connection begin where those of the connection before it end, and the last ones end here
abbrev pub AreLaid : ℕ → List MemoryLine → ℕ → Type 0
AreLaid start [] end = start ≡ end
AreLaid start (line ∷ lines) end = (line.starts ≡ start) × (line.starts ≤ line.ends) × AreLaid line.ends lines end

-- what a net in memory lends of a connection
abbrev pub lent_talk : Connection → Talk
lent_talk connection = record { dialled = connection.dialled.now; sent = connection.sent.now; got = connection.got.now; at_end = connection.at_end }
