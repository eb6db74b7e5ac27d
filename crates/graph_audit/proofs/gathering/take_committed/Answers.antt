use Rattle.std.proofs.Common.{◌≡◌, ◌++◌, ◌∷◌, sym, ◌∙◌, ap, subst}
use Rattle.std.specs.BTreeMap.{get}
use Rattle.std.specs.List.{filter_map}
use Rattle.std.specs.List.Sorted.{IsStrictlySortedBy}
use Rattle.std.proofs.lemmas.Map.Iter.{rest_more}
use Rattle.std.proofs.lemmas.Map.Keys.{sorted_tail}
use Rattle.graph_audit.specs.Ordering.{id_cmp}
use Rattle.graph_audit.proofs.Taken.{none_taken, one_taken}
use Rattle.graph_audit.proofs.gathering.take_committed.Goals as goal

pub loop-id-preserved-in-Continue-branch-2 : goal.loop-id-preserved-in-Continue-branch-2
loop-id-preserved-in-Continue-branch-2 c =
    let left : c.loop-id.id-iterator ≡ c.in-Some.id ∷ c.next.new.self = rest_more (λ x. x) _ _ _ _ c.in-Some.is c.next.ensures.steps in
    let ordered : IsStrictlySortedBy id_cmp (c.in-Some.id ∷ c.next.new.self) = subst (IsStrictlySortedBy id_cmp) left c.loop-id.invariant.ordered in
    record {
      ordered = sorted_tail id_cmp c.in-Some.id c.next.new.self ordered;
      taken =
          one_taken c.in-Some.id c.next.new.self c.loop-id.prepares c.remove.new.self c.loop-id.found.items ordered c.remove.ensures.updates.2
          c.in-Some-remove.prepare c.push.new.self.items (sym c.remove.ensures.value ∙ c.in-Some-remove.is) c.in_ok-push.ensures.items
          ∙ ap (λ ids. c.loop-id.found.items ++ filter_map (get id_cmp c.loop-id.prepares) ids) (sym left)
          ∙ c.loop-id.invariant.taken;
    }

pub loop-id-preserved : goal.loop-id-preserved
loop-id-preserved c =
    let left : c.loop-id.id-iterator ≡ c.in-Some.id ∷ c.next.new.self = rest_more (λ x. x) _ _ _ _ c.in-Some.is c.next.ensures.steps in
    let ordered : IsStrictlySortedBy id_cmp (c.in-Some.id ∷ c.next.new.self) = subst (IsStrictlySortedBy id_cmp) left c.loop-id.invariant.ordered in
    record {
      ordered = sorted_tail id_cmp c.in-Some.id c.next.new.self ordered;
      taken =
          none_taken c.in-Some.id c.next.new.self c.loop-id.prepares c.remove.new.self c.loop-id.found.items ordered c.remove.ensures.updates.2
          (sym c.remove.ensures.value ∙ c.in_default.is)
          ∙ ap (λ ids. c.loop-id.found.items ++ filter_map (get id_cmp c.loop-id.prepares) ids) (sym left)
          ∙ c.loop-id.invariant.taken;
    }
