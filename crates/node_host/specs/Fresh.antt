-- A host before it has read its journal.
use Rattle.std.specs.Prelude.{◌≡◌, ℕ, ◌<◌, ◌≤◌, List, [], ◌∷◌, length, slice_index}
use Rattle.commit_offsets.specs.Fingerprint.{fingerprint_of}
use Rattle.commit_rules.specs.Core.{CoreState, IsCoreOf}
use Rattle.disk_store.specs.Disk.{DiskState, IsAtRest}
use Rattle.helios_model.specs.Limits.{most_sites}
use Rattle.helios_model.specs.Node.{empty_node}
use Rattle.helios_model.specs.Plans.{count_of}
use Rattle.node_journal.specs.Frames.{HoldsFrame, IsReadTo}

-- a core that has taken nothing, with the fingerprint, the site and the number of sites of its plan
pub record IsFresh (core : CoreState) (fingerprint : List ℕ) (site count : ℕ) : Type 0 where
  pub fingerprint_is : fingerprint ≡ fingerprint_of core.plan
  pub site_is : site ≡ core.site
  pub count_is : count ≡ count_of core.plan
  pub few : count ≤ most_sites
  pub empty : IsCoreOf core core.plan (empty_node core.plan core.site)

-- nothing is pending, and the first gate stands on the disk; where it is open, something stands behind it
pub record IsBegun (disk : DiskState) : Type 0 where
  pub at_rest : IsAtRest disk
  pub some : 0 < length disk.bytes
  pub long : slice_index disk.bytes 0 ≡ 1 → 1 < length disk.bytes

-- nothing is pending, and this payload was read first, up to this gate
pub record HasFirst (payload : List ℕ) (gate : ℕ) (disk : DiskState) : Type 0 where
  pub at_rest : IsAtRest disk
  pub frame : HoldsFrame disk.bytes 0 payload
  pub read : IsReadTo disk.bytes gate (payload ∷ [])
