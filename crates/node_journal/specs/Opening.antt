-- What `open` does to a disk.
use Rattle.std.specs.Prelude.{◌≡◌, ◌⊎◌, ℕ, nat_le, if◌then◌else◌, List, [], ◌∷◌, length}
use Rattle.disk_store.specs.Disk.{DiskState, EachImage, at_rest}
use Rattle.node_journal.specs.Frames.{StandsFor}

-- the bytes of a journal that was opened: a closed gate where there were at most one byte
abbrev pub opened : List ℕ → List ℕ
opened bytes = if nat_le (length bytes) 1 then 0 ∷ [] else bytes

-- every image of the later disk stands for the payloads that the earlier one reads as
abbrev pub KeepsPayloads : DiskState → DiskState → Type 0
KeepsPayloads old new = (payloads : List (List ℕ)) → StandsFor old.bytes payloads → EachImage new (λ image. StandsFor image payloads)

-- nothing was written: the later disk is the earlier one, or that one with all that it reads as made durable
abbrev pub IsUnwritten : DiskState → DiskState → Type 0
IsUnwritten old new = (new ≡ old) ⊎ (new ≡ at_rest old.bytes)
