-- The limits of the protocol, each once and with its unit.
use Rattle.std.specs.Prelude.{ℕ, ◌-◌, ◌^◌}

-- the most sites that a cluster has
abbrev pub most_sites : ℕ
most_sites = 32

-- the most bytes of a site's name
abbrev pub most_name_bytes : ℕ
most_name_bytes = 32

-- the most bytes of a key
abbrev pub most_key_bytes : ℕ
most_key_bytes = 64

-- the most bytes of a stored value
abbrev pub most_value_bytes : ℕ
most_value_bytes = 1024

-- the longest round trip, in microseconds
abbrev pub longest_trip : ℕ
longest_trip = 1000000000

-- the greatest latency, in half microseconds
abbrev pub greatest_latency : ℕ
greatest_latency = 2000000000

-- the most keys that a transaction reads, and the most that it writes
abbrev pub most_items : ℕ
most_items = 16

-- the most records of one message
abbrev pub most_records : ℕ
most_records = 64

-- the most inputs of one batch
abbrev pub most_inputs : ℕ
most_inputs = 16

-- the most own transactions that may be unfinished at a site
abbrev pub most_open : ℕ
most_open = 65536

-- the greatest time in an id, a table or a message, in half microseconds
abbrev pub last_time : ℕ
last_time = 2 ^ 62

-- the greatest reading of a clock that counts, in half microseconds
abbrev pub last_reading : ℕ
last_reading = 2 ^ 62 - 2 ^ 18

-- the time of a site from which on it answers that its clock is spent
abbrev pub spent_time : ℕ
spent_time = 2 ^ 62 - 2 ^ 17
