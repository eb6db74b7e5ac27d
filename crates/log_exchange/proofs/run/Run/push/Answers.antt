use Rattle.std.proofs.Common.{sym, subst, ◌∙◌}
use Rattle.log_exchange.specs.Runs.{IsUpTo, TimesRise}
use Rattle.log_exchange.proofs.Rising.{falling_pushed, rising_pushed}
use Rattle.log_exchange.proofs.run.Run.push.Goals as goal
use Rattle.log_exchange.proofs.run.Run.push.Goals.{then-rising, else-rising}

pub invariant_of-self-2 : goal.invariant_of-self-2
invariant_of-self-2 c =
    elim c.if-rising.branch [
      | then-rising w ↦
          rising_pushed c.self.inside.stamps.items c.push_back.new.self.items (record { arrival = c.args.arrival; time = c.args.time }) c.goes_on_rising-rising.result c.if-rising.self
          (subst (IsUpTo c.args.time) (sym c.self.view_is) (c.goes_on_rising-rising.ensures.up_to w.if-rising.true))
          (subst TimesRise (sym c.self.view_is) (c.goes_on_rising-rising.ensures.rises w.if-rising.true))
          c.in_ok-push_back.ensures.items w.self-is
      | else-rising w ↦
          falling_pushed c.self.inside.stamps.items c.push_back.new.self.items (record { arrival = c.args.arrival; time = c.args.time }) c.self.inside.rising c.goes_on_rising-rising.result
          c.self.inside.latest c.if-rising.self c.self.invariant c.in_ok-push_back.ensures.items w.if-rising.false (w.self-is ∙ w.max-self-inside.ensures)
    ]
