-- What is read as a list of steps is one that the plan can have.
use Rattle.std.proofs.Common.{◌∙◌, sym, ap, Ok}
use Rattle.serde_json.specs.View.{items_view}
use Rattle.schedule_text.proofs.SaidSteps.{steps_counted, few_steps, each_step}
use Rattle.schedule_text.proofs.reading.steps.Goals as goal

pub returns-clause-few : goal.returns-clause-few
returns-clause-few c =
    few_steps c.args.plan.now (items_view c.args.items.now) c.new.result
    (steps_counted c.args.plan.now c.args.items.now ∙ c.in_ok-steps.ensures ∙ ap Ok (sym c.new.ensures))

pub returns-clause-each : goal.returns-clause-each
returns-clause-each c =
    each_step c.args.plan.now (items_view c.args.items.now) c.new.result
    (steps_counted c.args.plan.now c.args.items.now ∙ c.in_ok-steps.ensures ∙ ap Ok (sym c.new.ensures))
