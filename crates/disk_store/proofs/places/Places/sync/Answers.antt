use Rattle.std.proofs.Common.{arith, sym, ◌∙◌, ap, subst, refl, vec_capacity}
use Rattle.disk_store.specs.Disk.{DiskState, IsImage, at_rest}
use Rattle.disk_store.specs.Places.{Stored, HasRoom}
use Rattle.disk_store.specs.declared.window.Window.{Window}
use Rattle.disk_store.proofs.Windows.{rested, rest_room}
use Rattle.disk_store.proofs.places.Places.sync.Goals as goal

pub invariant_of-self : goal.invariant_of-self
invariant_of-self c =
    let room = c.self.invariant in
    let is = rested _ _ room.image room.marked room.changed _ _ _ c.deref.ensures.value c.put_bytes.ensures.items c.mark.ensures.items in
    let none : Window = record { low = 0; high = 0 } in
    subst (λ (disk : DiskState). HasRoom disk none c.self.inside.room (vec_capacity c.self.inside.bytes) (vec_capacity c.put_bytes.new.cells) (vec_capacity c.mark.new.marks)) (sym is)
    (rest_room c.self.inside.bytes.items none c.self.inside.room _ _ _ refl refl room.fits room.bytes_fit (omega (arith, room.synced_fit, c.put_bytes.ensures.room)) (omega (arith, room.written_fit, c.mark.ensures.room)))

pub returns-clause-synced : goal.returns-clause-synced
returns-clause-synced c =
    let room = c.self.invariant in
    let is = rested _ _ room.image room.marked room.changed _ _ _ c.deref.ensures.value c.put_bytes.ensures.items c.mark.ensures.items in
    let of : DiskState → Stored = λ disk. record { disk = disk; room = c.self.inside.room } in
    let settled : Stored → Stored = λ stored. record { disk = at_rest stored.disk.bytes; room = stored.room } in
    ap of is ∙ ap settled c.self.view_is

pub returns-clause-image : goal.returns-clause-image
returns-clause-image c =
    let room = c.self.invariant in
    let is = rested _ _ room.image room.marked room.changed _ _ _ c.deref.ensures.value c.put_bytes.ensures.items c.mark.ensures.items in
    let none : Window = record { low = 0; high = 0 } in
    let rest = rest_room c.self.inside.bytes.items none c.self.inside.room _ _ _ refl refl room.fits room.bytes_fit room.bytes_fit room.bytes_fit in
    subst (λ (disk : DiskState). IsImage disk c.self.inside.bytes.items) (sym is) rest.image
