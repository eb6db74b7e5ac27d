-- What the calls of a net do to what it tells.
use Rattle.std.specs.Prelude.{◌≡◌, ℕ, ◌≤◌, Bool, true, false, ◌&&◌, ◌||◌, ◌==◌, nat_lt, List, [], ◌∷◌, ◌++◌, length, take, drop, Option, option_map, IfSome}
use Rattle.outside_io.specs.Causes.{IsCount, one_more}
use Rattle.outside_io.specs.Seen.{Talk, NetTold, NetSeen}

-- the most bytes of an address
abbrev pub most_address_bytes : ℕ
most_address_bytes = 255

-- an address has 1 to 255 bytes
abbrev pub IsAddress : List ℕ → Type 0
IsAddress address = (1 ≤ length address) × (length address ≤ most_address_bytes)

-- both counts of faults are no more than a `u64` can be
pub record AreCounts (net : NetSeen) : Type 0 where
  pub calls : IsCount net.call_faults
  pub lines : IsCount net.line_faults

-- a listen at this address answered Ok
abbrev pub listened_at : List ℕ → NetTold → NetTold
listened_at address told = record { place = address; listened = one_more told.listened; waiting = told.waiting; left = told.left; talks = told.talks }

-- a net that now listens at this address
abbrev pub listening : List ℕ → NetSeen → NetSeen
listening address net = record { listens = true; stands = net.stands; call_faults = net.call_faults; line_faults = net.line_faults; told = option_map (listened_at address) net.told }

-- a connection on which nothing was said yet
abbrev pub fresh_talk : List ℕ → Talk
fresh_talk address = record { dialled = address; sent = []; got = []; at_end = false }

-- the first list, or none
abbrev pub first_list : List (List ℕ) → List ℕ
first_list [] = []
first_list (bytes ∷ lists) = bytes

-- a connection was taken; the address is the one that was dialled, and empty after an accept
abbrev pub took : List ℕ → NetTold → NetTold
took address told = record { place = told.place; listened = told.listened; waiting = drop 1 told.waiting; left = first_list told.waiting; talks = told.talks ++ fresh_talk address ∷ [] }

-- a net on which a connection that was just taken stands
abbrev pub taken : List ℕ → NetSeen → NetSeen
taken address net = record { listens = net.listens; stands = true; call_faults = net.call_faults; line_faults = net.line_faults; told = option_map (took address) net.told }

-- the net on which no connection stands any more
abbrev pub hung_up : NetSeen → NetSeen
hung_up net = record { listens = net.listens; stands = false; call_faults = net.call_faults; line_faults = net.line_faults; told = net.told }

-- the same net with this count of calls that failed
abbrev pub with_call_faults : ℕ → NetSeen → NetSeen
with_call_faults faults net = record { listens = net.listens; stands = net.stands; call_faults = faults; line_faults = net.line_faults; told = net.told }

-- the last talk of the net, where it tells any, is one on which nothing was said yet
abbrev pub IsFresh : NetTold → Type 0
IsFresh told = (talks : List Talk) × (address : List ℕ) × (told.talks ≡ talks ++ fresh_talk address ∷ [])

-- the same connection behind a stretch in which these bytes were written and these read, and the end was met or not
abbrev pub more : List ℕ → List ℕ → Bool → Talk → Talk
more sent got at_end talk = record { dialled = talk.dialled; sent = talk.sent ++ sent; got = talk.got ++ got; at_end = at_end || talk.at_end }

-- the list with its last item changed
abbrev pub on_last : {X : Type 0} → (X → X) → List X → List X
on_last f [] = []
on_last f (x ∷ []) = f x ∷ []
on_last f (x ∷ y ∷ ys) = x ∷ on_last f (y ∷ ys)

-- what a net tells behind such a stretch on the connection that stands
abbrev pub talked : List ℕ → List ℕ → Bool → NetTold → NetTold
talked sent got at_end told = record { place = told.place; listened = told.listened; waiting = told.waiting; left = drop (length got) told.left; talks = on_last (more sent got at_end) told.talks }

-- On the connection that stands these bytes were written and these read, and a read has given the end or none has; nothing
-- else changed but that reads and writes may have failed.
pub record Talks (old new : NetSeen) (sent got : List ℕ) (at_end : Bool) : Type 0 where
  pub told : new.told ≡ option_map (talked sent got at_end) old.told
  pub comes : IfSome old.told (λ net. take (length got) net.left ≡ got)
  pub ended : at_end ≡ true → IfSome new.told (λ net. net.left ≡ [])
  pub listens : new.listens ≡ old.listens
  pub stands : new.stands ≡ old.stands
  pub calls : new.call_faults ≡ old.call_faults
  pub later : old.line_faults ≤ new.line_faults

-- a read that gave so many bytes into this buffer has given the end of the input
abbrev pub is_end : ℕ → List ℕ → Bool
is_end count into = count == 0 && nat_lt 0 (length into)
