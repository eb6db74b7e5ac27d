use Rattle.std.proofs.Common.{◌∙◌, sym, refl}
use Rattle.log_exchange.proofs.Fronts.{front_end, front_smaller, front_step}
use Rattle.log_exchange.proofs.backlog.Backlog.drop_front.Goals as goal

pub loop-k-init : goal.loop-k-init
loop-k-init c = record { count = refl; same = refl; rises = c.requires.rises }

pub loop-k-smaller : goal.loop-k-smaller
loop-k-smaller c = front_smaller c.loop-k.self c.drop_first.new.self c.args.t.now.times c.args.k (sym c.is_first_known.ensures ∙ c.loop-k-test.true) c.drop_first.ensures

pub loop-k-preserved : goal.loop-k-preserved
loop-k-preserved c =
    front_step c.args.self.now c.loop-k.self c.drop_first.new.self c.args.t.now.times c.args.k c.loop-k.invariant (sym c.is_first_known.ensures ∙ c.loop-k-test.true) c.drop_first.ensures

pub returns : goal.returns
returns c = front_end c.args.self.now c.loop-k.self c.args.t.now.times c.args.k c.loop-k.invariant (sym c.is_first_known.ensures ∙ c.loop-k-test.false)
