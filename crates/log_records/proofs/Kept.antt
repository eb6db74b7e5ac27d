-- What a journal keeps of some entries: no more than there are, and all of those that can be written.
use Rattle.std.proofs.Common.{◌≡◌, ◌≤◌, suc, true, List, [], ◌∷◌, All, length, refl, ap, arith}
use Rattle.std.proofs.lemmas.List.Sums.{length-filter, count_by-le-length}
use Rattle.helios_model.specs.declared.entries.Entry.{Entry}
use Rattle.helios_model.specs.declared.entries.Input.{Input}
use Rattle.helios_model.specs.declared.entries.Input.TheVariants.{Get, Status, Request, Pull, Push}
use Rattle.helios_model.specs.Step.{is_journaled}
use Rattle.helios_model.specs.World.{journaled}
use Rattle.log_records.specs.Entries.{IsWritable, IsWritableInput}

pub kept_few : (entries : List Entry) → length (journaled entries) ≤ length entries
kept_few entries = omega (arith, length-filter (λ e. is_journaled e.input) entries, count_by-le-length (λ e. is_journaled e.input) entries)

kept_input : (input : Input) → IsWritableInput input → is_journaled input ≡ true
kept_input (Get key) writable = elim writable [ ]
kept_input (Status id) writable = elim writable [ ]
kept_input (Request ask) writable = refl
kept_input (Pull to) writable = refl
kept_input (Push m) writable = refl

one_kept : (e : Entry) → IsWritable e → is_journaled e.input ≡ true
one_kept e writable = kept_input e.input writable

pub all_kept : (entries : List Entry) → All IsWritable entries → journaled entries ≡ entries
all_kept [] each = refl
all_kept (e ∷ es) each = rw (one_kept e (each 0 e (omega arith))) (ap (λ l. e ∷ l) (all_kept es (λ k d within. each (suc k) d (omega (arith, within)))))
