use Rattle.std.proofs.Common.{◌≡◌, ◌+◌, ◌≤◌, List, ℕ, Bool, length, true, replicate, arith, sym, ◌∙◌, ap, subst, vec_capacity}
use Rattle.disk_store.specs.Disk.{DiskState, over, after_write}
use Rattle.disk_store.specs.Places.{Stored, HasRoom, widened}
use Rattle.disk_store.specs.declared.window.Window.{Window}
use Rattle.disk_store.proofs.Windows.{written_room}
use Rattle.disk_store.proofs.places.Places.write.Goals as goal

-- the disk as it reads after the write
disk_is : (disk : DiskState) (at : ℕ) (from bytes : List ℕ) (marks : List Bool) → bytes ≡ over at from disk.bytes → marks ≡ over at (replicate (length from) true) disk.written
    → after_write at from disk ≡ record { bytes = bytes; synced = disk.synced; written = marks }
disk_is disk at from bytes marks put marked =
    let of : List ℕ → DiskState = λ l. record { bytes = l; synced = disk.synced; written = over at (replicate (length from) true) disk.written } in
    let of_marks : List Bool → DiskState = λ l. record { bytes = bytes; synced = disk.synced; written = l } in
    ap of (sym put) ∙ ap of_marks (sym marked)

pub invariant_of-self : goal.invariant_of-self
invariant_of-self c =
    let place : c.args.at ≤ length c.self.inside.bytes.items = omega (arith, c.requires.place, ap (λ (s : Stored). length s.disk.bytes) c.self.view_is) in
    let fits : c.args.at + length c.args.from.now ≤ c.self.inside.room = omega (arith, c.requires.room, ap (λ (s : Stored). s.room) c.self.view_is) in
    let old : DiskState = record { bytes = c.self.inside.bytes.items; synced = c.self.inside.synced.items; written = c.self.inside.written.items } in
    let room = written_room old c.self.inside.window _ _ _ _ _ _ c.args.at c.args.from.now c.self.invariant place fits c.put_bytes.ensures.room c.mark.ensures.room in
    subst (λ (window : Window). HasRoom (record { bytes = c.put_bytes.new.cells.items; synced = c.self.inside.synced.items; written = c.mark.new.marks.items }) window c.self.inside.room
    (vec_capacity c.put_bytes.new.cells) (vec_capacity c.self.inside.synced) (vec_capacity c.mark.new.marks)) (sym c.widened-self-inside.ensures)
    (subst (λ (disk : DiskState). HasRoom disk (widened c.args.at (c.args.at + length c.args.from.now) c.self.inside.window) c.self.inside.room
    (vec_capacity c.put_bytes.new.cells) (vec_capacity c.self.inside.synced) (vec_capacity c.mark.new.marks)) (disk_is old c.args.at c.args.from.now _ _ c.put_bytes.ensures.items c.mark.ensures.items) room)

pub returns-clause-image : goal.returns-clause-image
returns-clause-image c =
    let room = invariant_of-self c in
    room.image
