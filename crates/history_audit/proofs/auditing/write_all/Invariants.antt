use Rattle.std.proofs.Common.{◌≡◌, ℕ, List, drop, if◌then◌else◌}
use Rattle.helios_model.specs.Texts.{contains_text}
use Rattle.helios_model.specs.declared.ids.Version.TheVariants.{Of}
use Rattle.history_audit.specs.Versions.{version_in}
use Rattle.history_audit.proofs.auditing.write_all.Given as goal

-- the map with the keys that are left is the one with all keys
abbrev pub invariant-loop-key : goal.invariant-loop-key
invariant-loop-key l = (q : List ℕ) → (if contains_text (drop l.key-index l.keys) q then Of l.id else version_in l.versions.entries q)
    ≡ (if contains_text l.keys q then Of l.id else version_in l.initial.versions.entries q)
