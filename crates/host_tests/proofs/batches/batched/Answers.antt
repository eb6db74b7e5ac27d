use Rattle.std.proofs.Common.{◌∙◌}
use Rattle.host_tests.proofs.Alone.{alone_is_asked}
use Rattle.host_tests.proofs.batches.batched.Goals as goal

pub batch-requires-clause-each : goal.batch-requires-clause-each
batch-requires-clause-each c =
    alone_is_asked _ _ _ _ _ (c.new-entries.ensures ∙ c.in_ok-vec.ensures.items) c.in_ok-opened.ensures.plan (c.in_ok-opened.ensures.site ∙ c.of.ensures) (c.requires.asked _ c.in_ok-plan.ensures.count)
