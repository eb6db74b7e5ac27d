use Rattle.std.proofs.Common.{◌≡◌, ◌∷◌, [], ◌++◌, length, rules, sym, ◌∙◌, ap, subst, arith, length-append}
use Rattle.disk_store.specs.Disk.{DiskState, at_rest, after_sync}
use Rattle.disk_store.specs.Records.{disk_after, bytes_written, ReadsAs}
use Rattle.disk_store.specs.declared.history.Step.TheVariants.{Sync}
use Rattle.disk_store.proofs.Records.{after_one_sync, written_same, reads_sync, reads_image}
use Rattle.disk_store.proofs.history.History.sync.Goals as goal

-- the disk after the sync that was added, and that it reads as before
now_is : (c : goal.After-self-1) → ReadsAs (disk_after (at_rest c.self.inside.first.items) c.push.new.self.items c.self.inside.pool.items) c.self.inside.bytes.items
now_is c =
    let old : DiskState = disk_after (at_rest c.self.inside.first.items) c.self.inside.steps.items c.self.inside.pool.items in
    let steps_are : c.push.new.self.items ≡ c.self.inside.steps.items ++ Sync ∷ [] = search rules in
    let disk_is : disk_after (at_rest c.self.inside.first.items) c.push.new.self.items c.self.inside.pool.items ≡ after_sync old =
    ap (λ steps. disk_after (at_rest c.self.inside.first.items) steps c.self.inside.pool.items) steps_are
    ∙ after_one_sync (at_rest c.self.inside.first.items) c.self.inside.steps.items c.self.inside.pool.items in
    subst (λ (disk : DiskState). ReadsAs disk c.self.inside.bytes.items) (sym disk_is) (reads_sync old c.self.inside.bytes.items c.self.invariant.now)

pub invariant_of-self : goal.invariant_of-self
invariant_of-self c =
    let steps_are : c.push.new.self.items ≡ c.self.inside.steps.items ++ Sync ∷ [] = search rules in
    record {
      whole = c.self.invariant.whole ∙ sym (ap bytes_written steps_are ∙ written_same c.self.inside.steps.items);
      now = now_is c;
      steps_fit = omega (arith, c.self.invariant.steps_fit, ap length steps_are, length-append c.self.inside.steps.items (Sync ∷ []), c.push.ensures.capacity);
      pool_fit = c.self.invariant.pool_fit;
      bytes_fit = c.self.invariant.bytes_fit;
    }

pub returns-clause-image : goal.returns-clause-image
returns-clause-image c = reads_image _ _ (now_is c)
