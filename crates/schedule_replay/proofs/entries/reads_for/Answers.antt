use Rattle.std.proofs.Common.{◌≡◌, ◌∙◌, ap, ◌<◌, ◌++◌, [], ◌∷◌, length, map, subst, sym, All, arith}
use Rattle.std.proofs.lemmas.List.{map-append}
use Rattle.std.proofs.lemmas.List.Elements.{All-push}
use Rattle.helios_model.specs.Spellable.{IsSpellableVersion}
use Rattle.helios_model.specs.declared.transactions.ReadItem.{ReadItem}
use Rattle.schedule_text.specs.declared.planned.PlannedRead.{PlannedRead}
use Rattle.schedule_replay.specs.Entries.{read_for}
use Rattle.schedule_replay.proofs.Pushed.{mapped_more}
use Rattle.schedule_replay.proofs.entries.reads_for.Goals as goal

pub loop-read-preserved : goal.loop-read-preserved
loop-read-preserved c =
    let low : c.loop-read.read-index < length c.args.reads.now = omega arith in
    let pushed : c.push.new.self.items ≡ c.loop-read.items.items ++ c.in_ok-read_for.field-0 ∷ [] = c.in_ok-push.ensures.items in
    record {
      value = λ plan n h.
          mapped_more (read_for n.log) c.args.reads.now c.loop-read.read-index c.read-item.result c.loop-read.items.items c.push.new.self.items c.in_ok-read_for.field-0
          low c.read-item.is pushed (c.in_ok-read_for.ensures.value plan n h) (c.loop-read.invariant.value plan n h);
      keys =
          mapped_more (λ (r : PlannedRead). r.key) c.args.reads.now c.loop-read.read-index c.read-item.result (map (λ r. r.key) c.loop-read.items.items)
          (map (λ r. r.key) c.push.new.self.items) c.in_ok-read_for.field-0.key low c.read-item.is
          (ap (map (λ (r : ReadItem). r.key)) pushed ∙ map-append (λ (r : ReadItem). r.key) c.loop-read.items.items (c.in_ok-read_for.field-0 ∷ []))
          c.in_ok-read_for.ensures.key c.loop-read.invariant.keys;
      spelled =
          subst (All (λ r. IsSpellableVersion r.version)) (sym pushed)
          (All-push (λ r. IsSpellableVersion r.version) c.loop-read.items.items c.in_ok-read_for.field-0 c.loop-read.invariant.spelled c.in_ok-read_for.ensures.spelled);
    }
