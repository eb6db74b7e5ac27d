use Rattle.std.proofs.Common.{◌++◌, ◌∷◌, ◌∙◌, [], sym, subst, append_assoc, append-nil}
use Rattle.std.proofs.lemmas.Iterator.Adapters.{YieldsList-from_vec}
use Rattle.std.proofs.lemmas.Iterator.Consumers.{YieldsList-end}
use Rattle.graph_audit.proofs.More.{map_itself}
use Rattle.graph_audit.specs.Gathered.{IsGathered}
use Rattle.graph_audit.proofs.gathering.Gathered.take_all.Goals as goal

pub loop-next-init : goal.loop-next-init
loop-next-init c = λ before is. subst (IsGathered c.args.self.now) (sym (append-nil before)) is

pub loop-next-preserved : goal.loop-next-preserved
loop-next-preserved c = λ before is.
    subst (IsGathered _) (append_assoc before c.loop-next.yielded (c.in-Some.next ∷ []))
    (c.in_ok-take.ensures (before ++ c.loop-next.yielded) (c.loop-next.invariant before is))

pub returns : goal.returns
returns c = λ before is.
    let gives = c.into_iter-next-iterator.ensures.into_iter_gives in
    let all = YieldsList-end (YieldsList-from_vec {s = c.into_iter-next-iterator.result} c.args.records.items gives.0 (gives.1 ∙ c.args.records.ok.0))
    c.loop-next.yielded c.loop-next.next-iterator c.loop-next.yielded_by c.next.result c.next.new.self c.in-None.is c.next.ensures.steps in
    subst (λ xs. IsGathered c.loop-next.self (before ++ xs)) (sym (map_itself c.loop-next.yielded) ∙ all.0) (c.loop-next.invariant before is)
