use Rattle.std.proofs.Common.{◌≡◌, ◌<◌, ◌+◌, [], ◌∷◌, ◌++◌, ◌⊎◌, Err, drop, length, rules, sym, ◌∙◌, ap, arith, length-append}
use Rattle.serde_json.specs.View.{items_view}
use Rattle.history_audit.specs.Items.{is_given}
use Rattle.history_audit.specs.Reading.{items_behind}
use Rattle.history_audit.specs.declared.refusal.HistoryRefusal.TheVariants.{NoMemory}
use Rattle.history_audit.proofs.Behind.{given_more, next_read, next_refused}
use Rattle.history_audit.proofs.reading.read_items.Goals as goal

pub returns-in_err-item : goal.returns-in_err-item
returns-in_err-item c =
    let l = c.loop-place in
    let within : l.place < length c.args.items.now = omega arith in
    let refused : (c.in_err-item.field-0.0 ≡ NoMemory) ⊎ (items_behind [] (items_view c.args.items.now) ≡ Err c.in_err-item.field-0.0) =
    next_refused l.found.items l.given.keys c.args.items.now l.place c.index-items-place.result _ NoMemory c.in_err-item.field-0.0
    within c.index-items-place.is l.invariant.counted l.invariant.given l.invariant.read c.in_err-item.ensures.said in
    search rules

pub loop-place-preserved : goal.loop-place-preserved
loop-place-preserved c =
    let l = c.loop-place in
    let within : l.place < length c.args.items.now = omega arith in
    let pushed : c.push.new.self.items ≡ l.found.items ++ c.in_ok-item.item ∷ [] = c.in_ok-push.ensures.items in
    let longer : length c.push.new.self.items ≡ length l.found.items + 1 = ap length pushed ∙ length-append l.found.items (c.in_ok-item.item ∷ []) in
    record {
      counted = omega (arith, longer, l.invariant.counted);
      read =
          ap (λ xs. items_behind xs (items_view (drop (l.place + 1) c.args.items.now))) pushed
          ∙ sym (next_read l.found.items l.given.keys c.args.items.now l.place c.index-items-place.result c.in_ok-item.item within c.index-items-place.is
          l.invariant.counted l.invariant.given c.in_ok-item.ensures.said)
          ∙ l.invariant.read;
      given = λ id.
          given_more l.found.items l.given.keys c.read_next.new.given.keys c.in_ok-item.item l.invariant.given c.in_ok-item.ensures.given id
          ∙ ap (λ xs. is_given id xs) (sym pushed);
    }
