use Rattle.std.proofs.Common.{◌∙◌, length, refl}
use Rattle.std.proofs.lemmas.Iterator.Consumers.{YieldsList-end, YieldsList-turn}
use Rattle.std.proofs.lemmas.Iterator.Adapters.{YieldsList-from_vec}
use Rattle.node_host.proofs.Answers.{next_asked, redone_all, redone_on, redone_start}
use Rattle.node_host.proofs.redoing.Redoing.redo_all.Goals as goal

pub loop-entry-init : goal.loop-entry-init
loop-entry-init c = record { redone = λ plan n before h. redone_start plan n before _ _ _ h; kept = refl; plan = refl; site = refl }

pub redo-requires : goal.redo-requires
redo-requires c =
    let gives = c.into_iter-entry-iterator.ensures.into_iter_gives in
    let t = YieldsList-turn (YieldsList-from_vec {s = c.into_iter-entry-iterator.result} c.args.entries.items gives.0 (gives.1 ∙ c.args.entries.ok.0))
    c.loop-entry.yielded c.loop-entry.entry-iterator c.loop-entry.yielded_by c.next.result c.next.new.self c.in-Some.entry c.in-Some.is c.next.ensures.steps in
    record {
      may = next_asked c.args.self.core c.loop-entry.redoing.core c.args.entries.items (length c.loop-entry.yielded) c.in-Some.entry
          c.loop-entry.invariant.plan c.loop-entry.invariant.site c.requires.may t.0 t.1;
    }

pub loop-entry-preserved : goal.loop-entry-preserved
loop-entry-preserved c = record {
  redone = λ plan n before h. redone_on plan n before c.loop-entry.yielded c.in-Some.entry _ _ _
      (c.in_ok-redoing.ensures.redone plan n _ (c.loop-entry.invariant.redone plan n before h));
  kept = c.in_ok-redoing.ensures.kept ∙ c.loop-entry.invariant.kept;
  plan = c.in_ok-redoing.ensures.plan ∙ c.loop-entry.invariant.plan;
  site = c.in_ok-redoing.ensures.site ∙ c.loop-entry.invariant.site;
}

pub returns-clause-redone : goal.returns-clause-redone
returns-clause-redone c = λ plan n before h.
    let gives = c.into_iter-entry-iterator.ensures.into_iter_gives in
    let all = YieldsList-end (YieldsList-from_vec {s = c.into_iter-entry-iterator.result} c.args.entries.items gives.0 (gives.1 ∙ c.args.entries.ok.0))
    c.loop-entry.yielded c.loop-entry.entry-iterator c.loop-entry.yielded_by c.next.result c.next.new.self c.in-None.is c.next.ensures.steps in
    redone_all plan n before c.loop-entry.yielded c.args.entries.items _ _ _ all.0 (c.loop-entry.invariant.redone plan n before h)
