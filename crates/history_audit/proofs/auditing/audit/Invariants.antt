use Rattle.std.proofs.Common.{◌≡◌, drop}
use Rattle.history_audit.specs.Auditing.{audit_from, audit_of}
use Rattle.history_audit.specs.Versions.{version_in}
use Rattle.history_audit.proofs.auditing.audit.Given as goal

-- the verdict on the transactions that are left, behind the map, is that on all
abbrev pub invariant-loop-place : goal.invariant-loop-place
invariant-loop-place l = audit_from (version_in l.versions.entries) l.place (drop l.place l.items) ≡ audit_of l.items
