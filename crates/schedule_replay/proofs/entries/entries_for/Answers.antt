use Rattle.std.proofs.Common.{ap, ◌<◌, ◌≤◌, ◌∙◌, length, arith, sym, subst, All}
use Rattle.std.proofs.lemmas.List.{take_all}
use Rattle.std.proofs.lemmas.List.Elements.{All-append}
use Rattle.helios_model.specs.Step.{MayBeAsked}
use Rattle.schedule_replay.specs.Entries.{entries_for, entry_for}
use Rattle.schedule_replay.proofs.Pushed.{all_found, filtered_more}
use Rattle.schedule_replay.proofs.entries.entries_for.Goals as goal

pub loop-input-preserved : goal.loop-input-preserved
loop-input-preserved c =
    let low : c.loop-input.input-index < length c.args.inputs.now = omega arith in
    record {
      value = λ plan n h.
          filtered_more (entry_for n.log c.args.sent.now) c.args.inputs.now c.loop-input.input-index c.input-item.result c.loop-input.entries.items
          c.push_found.new.entries.items c.in_ok-entry_for.field-0 low c.input-item.is c.in_ok-push_found.ensures (c.in_ok-entry_for.ensures.value plan n h)
          (c.loop-input.invariant.value plan n h);
      asked =
          subst (All (λ e. MayBeAsked c.args.host.now.core.plan c.args.host.now.core.site e.input)) (sym c.in_ok-push_found.ensures)
          (All-append (λ e. MayBeAsked c.args.host.now.core.plan c.args.host.now.core.site e.input) c.loop-input.entries.items _ c.loop-input.invariant.asked
          (all_found (λ e. MayBeAsked c.args.host.now.core.plan c.args.host.now.core.site e.input) c.in_ok-entry_for.field-0 c.in_ok-entry_for.ensures.asked));
    }

pub returns-clause-value : goal.returns-clause-value
returns-clause-value c = λ plan n h.
    let all : length c.args.inputs.now ≤ c.loop-input.input-index = omega arith in
    c.loop-input.invariant.value plan n h ∙ ap (entries_for n.log c.args.sent.now) (take_all c.loop-input.input-index c.args.inputs.now all)
