use Rattle.std.proofs.Common.{◌∙◌, ap, sym, subst, List, ◌++◌, All}
use Rattle.std.proofs.lemmas.List.Elements.{All-push}
use Rattle.helios_model.specs.declared.entries.Reply.{Reply}
use Rattle.helios_model.specs.Spellable.{IsSpellableReply}
use Rattle.helios_model.specs.Step.{after_entries}
use Rattle.node_host.proofs.Answers.{answered_as, answered_next}
use Rattle.node_host.proofs.answering.Answered.answer.Goals as goal

pub returns-clause-answered : goal.returns-clause-answered
returns-clause-answered c = λ plan n before h.
    let out = c.in_ok-core.ensures.outcome plan (after_entries plan n before) h.stands in
    answered_as plan n _ _ _ _ _ _
    (answered_next plan n before c.args.entry c.args.self.core c.in_ok-core.field-0.core c.args.self.replies.items c.in_ok-core.field-0.reply c.args.self.commits.items c.in_ok-core.field-0.commits
    h out.core out.reply out.commits)
    c.in_ok-push.ensures.items
    (c.in_ok-append.ensures.items ∙ ap (λ cs. c.args.self.commits.items ++ cs) c.into_items.ensures)

pub returns-clause-spelled : goal.returns-clause-spelled
returns-clause-spelled c = λ h.
    subst (λ (rs : List Reply). All IsSpellableReply rs) (sym c.in_ok-push.ensures.items)
    (All-push IsSpellableReply c.args.self.replies.items c.in_ok-core.field-0.reply h c.in_ok-core.ensures.spelled)
