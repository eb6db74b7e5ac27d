use Rattle.std.proofs.Common.{◌≡◌, ◌∙◌, ap, sym, subst, ◌<◌, filter, rules}
use Rattle.std.proofs.lemmas.Map.Made.{filter_same_pairs}
use Rattle.log_exchange.specs.Runs.{is_left, with_left}
use Rattle.log_exchange.proofs.Backlogs.{known_taken}
use Rattle.log_exchange.proofs.backlog.Backlog.drop_scattered.Goals as goal

left : (c : goal.After-self-1) → c.retain.new.self.entries ≡ filter (is_left c.args.t.now.count c.args.t.now.times c.args.k) c.self.inside.kept.entries
left c = filter_same_pairs _ (is_left c.args.t.now.count c.args.t.now.times c.args.k) _ (λ n r b w f' called. search rules) _ _ c.retain.ensures.filtered

pub invariant_of-self : goal.invariant_of-self
invariant_of-self c =
    known_taken c.self.inside.count c.args.t.now.count c.args.t.now.times _ _ _ _ _ c.args.k _ _ c.self.invariant (c.requires.count ∙ sym (ap (λ b. b.count) c.self.view_is)) c.number.ensures.value
    (subst (λ b. c.args.k < b.count) (sym c.self.view_is) c.requires.origin) c.index_mut-run.ensures.value c.drop_known.ensures
    (left c ∙ ap (λ n. filter (is_left n c.args.t.now.times c.args.k) c.self.inside.kept.entries) (c.requires.count ∙ sym (ap (λ b. b.count) c.self.view_is)))

pub returns : goal.returns
returns c =
    ap (λ es. record { count = c.self.inside.count; entries = es }) (left c)
    ∙ ap (λ n. record { count = c.self.inside.count; entries = filter (is_left n c.args.t.now.times c.args.k) c.self.inside.kept.entries }) (c.requires.count ∙ sym (ap (λ b. b.count) c.self.view_is))
    ∙ ap (λ b. with_left b c.args.t.now.times c.args.k) c.self.view_is
