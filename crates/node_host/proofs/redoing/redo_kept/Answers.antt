use Rattle.std.proofs.Common.{◌≡◌, ◌∙◌, ◌++◌, ap}
use Rattle.node_host.proofs.Answers.{log_grown}
use Rattle.node_host.proofs.redoing.redo_kept.Goals as goal

pub returns-clause-redone : goal.returns-clause-redone
returns-clause-redone c = λ plan n from.
    let out = c.in_ok-core.ensures.outcome plan n from in
    record { core = out.core; commits = out.commits }

pub returns-clause-logged : goal.returns-clause-logged
returns-clause-logged c = λ plan n from kept.
    let out = c.in_ok-core.ensures.outcome plan n from in
    let is : c.in-Some.log ≡ n.log = rw c.in-Some.is at kept in
    c.new.ensures ∙ c.in_ok-append.ensures.items ∙ ap (λ rs. rs ++ c.into_items.result.items) c.into_items-records.ensures
    ∙ ap (λ rs. c.in-Some.log ++ rs) c.into_items.ensures ∙ log_grown plan n c.args.entry c.in-Some.log _ is out.added
