-- What a decoder gives: what stands in its input by the grammar, or why it was not read.
use Rattle.std.specs.Prelude.{◌≡◌, ℕ, ◌+◌, List, length, Result, Ok, Err}
use Rattle.log_records.specs.declared.decoder.Decoder.{Decoder}
use Rattle.log_records.specs.declared.faults.DecodeFault.{DecodeFault}
use Rattle.log_records.specs.declared.faults.DecodeFault.TheVariants.{Cut, Bad, BadDigest, NoMemory}

-- a fault is that of the grammar, unless memory ran out
abbrev pub Fails : {Y : Type 0} → DecodeFault → Result Y DecodeFault → Type 0
Fails Cut read = read ≡ Err Cut
Fails (Bad at) read = read ≡ Err (Bad at)
Fails BadDigest read = read ≡ Err BadDigest
Fails NoMemory read = Unit {0}

-- a call took what the grammar reads, as seen by a function, and the decoder stands behind it
abbrev pub TakesAs : {X Y : Type 0} → (X → Y) → Result X DecodeFault → Result (Y × List ℕ) DecodeFault → Decoder → Decoder → Type 0
TakesAs seen (Ok x) read old new = (read ≡ Ok (seen x, new.rest.now)) × (new.whole ≡ old.whole)
TakesAs seen (Err fault) read old new = Fails fault read

abbrev pub Takes : {X : Type 0} → Result X DecodeFault → Result (X × List ℕ) DecodeFault → Decoder → Decoder → Type 0
Takes (Ok x) read old new = (read ≡ Ok (x, new.rest.now)) × (new.whole ≡ old.whole)
Takes (Err fault) read old new = Fails fault read

-- a call gave the value that begins the input and the length of its spelling, or the fault of the grammar
abbrev pub Decodes : {X : Type 0} → List ℕ → Result (X × ℕ) DecodeFault → Result (X × List ℕ) DecodeFault → Type 0
Decodes input (Ok x) read = (rest : List ℕ) × (read ≡ Ok (x.0, rest)) × (x.1 + length rest ≡ length input)
Decodes input (Err fault) read = Fails fault read

-- the same where the whole input is one value
abbrev pub Gives : {X : Type 0} → Result X DecodeFault → Result X DecodeFault → Type 0
Gives (Ok x) read = read ≡ Ok x
Gives (Err fault) read = Fails fault read
