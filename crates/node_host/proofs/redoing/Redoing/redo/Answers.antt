use Rattle.std.proofs.Common.{◌∙◌, ap, refl, ◌++◌}
use Rattle.helios_model.specs.Step.{after_entries, step}
use Rattle.node_host.specs.Answering.{answers}
use Rattle.node_host.proofs.Answers.{answered_as, answered_next, log_on, redone}
use Rattle.node_host.proofs.redoing.Redoing.redo.Goals as goal

pub returns-clause-redone : goal.returns-clause-redone
returns-clause-redone c = λ plan n before h.
    let m = after_entries plan n before in
    let out = c.in_ok-redone.ensures.redone plan m h.answered.stands in
    redone plan n _ _ _ _ _
    (answered_as plan n _ _ _ _ _ _
    (answered_next plan n before c.args.entry c.args.self.core c.in_ok-redone.redone.core (answers plan n before) (step plan m c.args.entry).reply
    c.args.self.commits.items c.in_ok-redone.redone.commits h.answered out.core refl out.commits)
    refl
    (c.in_ok-append.ensures.items ∙ ap (λ cs. c.args.self.commits.items ++ cs) c.into_items.ensures))
    (log_on plan n before c.args.entry c.in_ok-redone.log (c.in_ok-redone.ensures.logged plan m h.answered.stands h.logged))
