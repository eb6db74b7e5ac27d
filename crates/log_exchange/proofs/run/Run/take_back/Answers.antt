use Rattle.log_exchange.proofs.Rising.{run_front}
use Rattle.log_exchange.proofs.run.Run.take_back.Goals as goal

pub invariant_of-self : goal.invariant_of-self
invariant_of-self c = run_front _ c.self.inside.stamps.items _ c.self.inside.rising c.self.inside.latest c.pop_back.ensures.rest c.self.invariant
