-- How refusals of weights are printed.
use Rattle.std.specs.Prelude.{ℕ, List, codes}
use Rattle.weighted_plan.specs.declared.refusal.WeightsRefusal.{WeightsRefusal}
use Rattle.weighted_plan.specs.declared.refusal.WeightsRefusal.TheVariants as refusals

abbrev pub refusal_text : WeightsRefusal → List ℕ
refusal_text refusals.NotJson = codes "not-json"
refusal_text refusals.BadWeights = codes "bad-weights"
refusal_text refusals.NoMemory = codes "no-memory"
