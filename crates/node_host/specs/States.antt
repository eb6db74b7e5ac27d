-- What contracts see of a host.
use Rattle.std.specs.Prelude.{ℕ, List}
use Rattle.commit_rules.specs.Core.{CoreState}

-- a host as contracts see it: its core, the gate that its journal ends at, the greatest length of that journal, and the plan's fingerprint
pub record HostState : Type 0 where
  pub core : CoreState
  pub gate : ℕ
  pub limit : ℕ
  pub fingerprint : List ℕ
