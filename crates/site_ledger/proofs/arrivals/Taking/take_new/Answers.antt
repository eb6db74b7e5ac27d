use Rattle.std.proofs.Common.{sym, subst}
use Rattle.node_limits.specs.Limits.{IsAfter}
use Rattle.helios_model.specs.Exchange.{take_new}
use Rattle.site_ledger.specs.Ledger.{BecomesIntake, log_in}
use Rattle.site_ledger.proofs.arrivals.Taking.take_new.Goals as goal

pub returns-in_ok-taking-in-Prepare : goal.returns-in_ok-taking-in-Prepare
returns-in_ok-taking-in-Prepare c = record {
  taken = λ b h after.
      subst (λ r. BecomesIntake b c.args.self.ledger c.args.self.clock c.in_ok-taking-in-Prepare.taking.ledger c.in_ok-taking-in-Prepare.taking.clock (λ a. take_new c.args.self.ledger.site a r)) (sym c.in-Prepare.is)
      (c.in_ok-taking-in-Prepare.ensures.taken b h (subst (IsAfter (log_in b c.args.self.ledger)) c.in-Prepare.is after));
  goes = c.in_ok-taking-in-Prepare.ensures.goes;
}

pub returns-in_ok-taking-in-Commit : goal.returns-in_ok-taking-in-Commit
returns-in_ok-taking-in-Commit c = record {
  taken = λ b h after.
      subst (λ r. BecomesIntake b c.args.self.ledger c.args.self.clock c.in_ok-taking-in-Commit.taking.ledger c.in_ok-taking-in-Commit.taking.clock (λ a. take_new c.args.self.ledger.site a r)) (sym c.in-Commit.is)
      (c.in_ok-taking-in-Commit.ensures.taken b h);
  goes = c.in_ok-taking-in-Commit.ensures.goes;
}

pub returns-in_ok-taking-in-Abort : goal.returns-in_ok-taking-in-Abort
returns-in_ok-taking-in-Abort c = record {
  taken = λ b h after.
      subst (λ r. BecomesIntake b c.args.self.ledger c.args.self.clock c.in_ok-taking-in-Abort.taking.ledger c.in_ok-taking-in-Abort.taking.clock (λ a. take_new c.args.self.ledger.site a r)) (sym c.in-Abort.is)
      (c.in_ok-taking-in-Abort.ensures.taken b h);
  goes = c.in_ok-taking-in-Abort.ensures.goes;
}
