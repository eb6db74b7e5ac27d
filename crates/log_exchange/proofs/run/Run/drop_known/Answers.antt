use Rattle.std.proofs.Common.{◌≡◌, ◌∙◌, ap, not, filter, rules}
use Rattle.std.proofs.lemmas.Fn.{filter_same}
use Rattle.log_exchange.specs.Runs.{is_known}
use Rattle.log_exchange.proofs.Rising.{run_filter}
use Rattle.log_exchange.proofs.run.Run.drop_known.Goals as goal

left : (c : goal.After-retain) → c.retain.new.self.items ≡ filter (λ s. not (is_known c.args.t.now.count c.args.t.now.times c.args.origin s.time)) c.self.inside.stamps.items
left c = filter_same _ (λ s. not (is_known c.args.t.now.count c.args.t.now.times c.args.origin s.time)) _ (λ s b f' called. search rules) _ _ c.retain.ensures.filtered

pub invariant_of-self : goal.invariant_of-self
invariant_of-self c = run_filter (λ s. not (is_known c.args.t.now.count c.args.t.now.times c.args.origin s.time)) c.self.inside.stamps.items _ _ _ (left c) c.self.invariant

pub returns : goal.returns
returns c = left c ∙ ap (filter (λ s. not (is_known c.args.t.now.count c.args.t.now.times c.args.origin s.time))) c.self.view_is
