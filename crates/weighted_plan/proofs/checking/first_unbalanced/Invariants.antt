use Rattle.weighted_plan.specs.Says.{AreBalanced}
use Rattle.weighted_plan.proofs.checking.first_unbalanced.Given as goal

abbrev pub invariant-loop-site : goal.invariant-loop-site
invariant-loop-site l = AreBalanced l.count l.weights l.flow l.site
