use Rattle.std.proofs.Common.{◌∙◌, length, refl}
use Rattle.std.proofs.lemmas.Iterator.Consumers.{YieldsList-end, YieldsList-turn}
use Rattle.std.proofs.lemmas.Iterator.Adapters.{YieldsList-from_vec}
use Rattle.node_host.proofs.Answers.{answered_all, answered_on, answered_start, next_asked}
use Rattle.node_host.proofs.answering.Answered.answer_all.Goals as goal

pub loop-entry-init : goal.loop-entry-init
loop-entry-init c = record { answered = λ plan n before h. answered_start plan n before _ _ _ h; spelled = λ h. h; plan = refl; site = refl }

pub answer-requires : goal.answer-requires
answer-requires c =
    let gives = c.into_iter-entry-iterator.ensures.into_iter_gives in
    let t = YieldsList-turn (YieldsList-from_vec {s = c.into_iter-entry-iterator.result} c.args.entries.items gives.0 (gives.1 ∙ c.args.entries.ok.0))
    c.loop-entry.yielded c.loop-entry.entry-iterator c.loop-entry.yielded_by c.next.result c.next.new.self c.in-Some.entry c.in-Some.is c.next.ensures.steps in
    record {
      may = next_asked c.args.self.core c.loop-entry.answered.core c.args.entries.items (length c.loop-entry.yielded) c.in-Some.entry
          c.loop-entry.invariant.plan c.loop-entry.invariant.site c.requires.may t.0 t.1;
    }

pub loop-entry-preserved : goal.loop-entry-preserved
loop-entry-preserved c = record {
  answered = λ plan n before h. answered_on plan n before c.loop-entry.yielded c.in-Some.entry _ _ _
      (c.in_ok-answered.ensures.answered plan n _ (c.loop-entry.invariant.answered plan n before h));
  spelled = λ h. c.in_ok-answered.ensures.spelled (c.loop-entry.invariant.spelled h);
  plan = c.in_ok-answered.ensures.plan ∙ c.loop-entry.invariant.plan;
  site = c.in_ok-answered.ensures.site ∙ c.loop-entry.invariant.site;
}

pub returns-clause-answered : goal.returns-clause-answered
returns-clause-answered c = λ plan n before h.
    let gives = c.into_iter-entry-iterator.ensures.into_iter_gives in
    let all = YieldsList-end (YieldsList-from_vec {s = c.into_iter-entry-iterator.result} c.args.entries.items gives.0 (gives.1 ∙ c.args.entries.ok.0))
    c.loop-entry.yielded c.loop-entry.entry-iterator c.loop-entry.yielded_by c.next.result c.next.new.self c.in-None.is c.next.ensures.steps in
    answered_all plan n before c.loop-entry.yielded c.args.entries.items _ _ _ all.0 (c.loop-entry.invariant.answered plan n before h)
