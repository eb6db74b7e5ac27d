use Rattle.std.proofs.Common.{◌++◌, ◌∷◌, ◌∙◌, [], sym, ap, subst, append-nil}
use Rattle.std.specs.List.{flat_map}
use Rattle.std.proofs.lemmas.Iterator.Adapters.{YieldsList-from_vec}
use Rattle.std.proofs.lemmas.Iterator.Consumers.{YieldsList-end}
use Rattle.std.proofs.lemmas.List.Concat.{flat_map-append}
use Rattle.graph_audit.proofs.More.{map_itself}
use Rattle.graph_audit.specs.Gathered.{IsGathered}
use Rattle.graph_audit.proofs.gathering.gather_all.Goals as goal

pub loop-log-preserved : goal.loop-log-preserved
loop-log-preserved c =
    subst (IsGathered _)
    (ap (λ xs. flat_map (λ log. log) c.loop-log.yielded ++ xs) (c.into_items.ensures ∙ sym (append-nil c.in-Some.log))
    ∙ sym (flat_map-append (λ log. log) c.loop-log.yielded (c.in-Some.log ∷ [])))
    (c.in_ok-take_all.ensures (flat_map (λ log. log) c.loop-log.yielded) c.loop-log.invariant)

pub returns : goal.returns
returns c =
    let gives = c.into_iter-log-iterator.ensures.into_iter_gives in
    let all = YieldsList-end (YieldsList-from_vec {s = c.into_iter-log-iterator.result} c.args.logs.items gives.0 (gives.1 ∙ c.args.logs.ok.0))
    c.loop-log.yielded c.loop-log.log-iterator c.loop-log.yielded_by c.next.result c.next.new.self c.in-None.is c.next.ensures.steps in
    subst (λ xs. IsGathered c.loop-log.found (flat_map (λ log. log) xs)) (sym (map_itself c.loop-log.yielded) ∙ all.0) c.loop-log.invariant
