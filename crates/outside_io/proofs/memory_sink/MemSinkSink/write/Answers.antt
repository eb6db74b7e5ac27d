use Rattle.std.proofs.Common.{inl, refl, subst, Contains}
use Rattle.outside_io.specs.Memory.{MemoryOutput}
use Rattle.outside_io.proofs.memory_sink.MemSinkSink.write.Goals as goal

pub returns-then-is_failing-clause-fails : goal.returns-then-is_failing-clause-fails
returns-then-is_failing-clause-fails c =
    let named : Contains c.args.self.now.fails c.args.self.now.calls =
    subst (λ (sink : MemoryOutput). Contains sink.fails sink.calls) c.self.view_is (c.is_failing.ensures.listed.0 c.if-is_failing.true) in
    (λ _. inl named, λ _. refl)
