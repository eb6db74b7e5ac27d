use Rattle.std.proofs.Common.{◌≡◌, ◌∷◌, [], ◌++◌, ◌+◌, ◌≤◌, max, length, rules, sym, ◌∙◌, ap, subst, arith, length-append}
use Rattle.disk_store.specs.Disk.{DiskState, at_rest, after_write}
use Rattle.disk_store.specs.Records.{Recorded, disk_after, bytes_written, ReadsAs}
use Rattle.disk_store.specs.declared.history.Step.TheVariants.{Write}
use Rattle.disk_store.proofs.Records.{after_one_write, written_more, reads_write, reads_image}
use Rattle.disk_store.specs.Laws.Over.{length-over}
use Rattle.disk_store.proofs.history.History.write.Goals as goal

module _ (c : goal.After-self-2-1) where
  steps_are : c.push.new.self.items ≡ c.self.inside.steps.items ++ Write c.args.at (length c.args.from.now) ∷ []
  steps_are = search rules

  pool_is : c.extend_from_slice.new.self.items ≡ c.self.inside.pool.items ++ c.args.from.now
  pool_is = search rules

  place : c.args.at ≤ length c.self.inside.bytes.items
  place = omega (arith, c.requires.place, ap (λ (r : Recorded). length r.disk.bytes) c.self.view_is, ap length c.self.invariant.now.reads)

  -- the disk after the write that was added reads as the bytes kept
  now_is : ReadsAs (disk_after (at_rest c.self.inside.first.items) c.push.new.self.items c.extend_from_slice.new.self.items) c.put_bytes.new.cells.items
  now_is =
      let first : DiskState = at_rest c.self.inside.first.items in
      let old : DiskState = disk_after first c.self.inside.steps.items c.self.inside.pool.items in
      let disk_is : disk_after first c.push.new.self.items c.extend_from_slice.new.self.items ≡ after_write c.args.at c.args.from.now old =
      ap (λ steps. disk_after first steps c.extend_from_slice.new.self.items) steps_are
      ∙ ap (λ pool. disk_after first (c.self.inside.steps.items ++ Write c.args.at (length c.args.from.now) ∷ []) pool) pool_is
      ∙ after_one_write first c.self.inside.steps.items c.self.inside.pool.items c.args.at c.args.from.now c.self.invariant.whole in
      subst (λ (disk : DiskState). ReadsAs disk c.put_bytes.new.cells.items) (sym disk_is)
      (subst (λ bytes. ReadsAs (after_write c.args.at c.args.from.now old) bytes) (sym c.put_bytes.ensures.items)
      (reads_write old c.self.inside.bytes.items c.self.invariant.now c.args.at c.args.from.now place))

pub invariant_of-self : goal.invariant_of-self
invariant_of-self c =
    let written : length c.put_bytes.new.cells.items ≡ max (length c.self.inside.bytes.items) (c.args.at + length c.args.from.now) =
    ap length c.put_bytes.ensures.items ∙ length-over c.args.at c.args.from.now c.self.inside.bytes.items (place c) in
    let calls = ap (λ (r : Recorded). r.calls) c.self.view_is in
    let more = ap (λ (r : Recorded). r.more) c.self.view_is in
    record {
      whole = omega (arith, ap length (pool_is c), length-append c.self.inside.pool.items c.args.from.now, c.self.invariant.whole, ap bytes_written (steps_are c), written_more c.self.inside.steps.items c.args.at (length c.args.from.now));
      now = now_is c;
      steps_fit = omega (arith, calls, c.requires.calls, c.self.invariant.steps_fit, ap length (steps_are c), length-append c.self.inside.steps.items (Write c.args.at (length c.args.from.now) ∷ []), c.push.ensures.capacity);
      pool_fit = omega (arith, more, c.requires.more, c.self.invariant.pool_fit, ap length (pool_is c), length-append c.self.inside.pool.items c.args.from.now, c.extend_from_slice.ensures.capacity);
      bytes_fit = omega (arith, more, c.requires.more, c.self.invariant.bytes_fit, written, place c, c.put_bytes.ensures.room);
    }

pub returns-clause-image : goal.returns-clause-image
returns-clause-image c = reads_image _ _ (now_is c)
