use Rattle.std.proofs.Common.{◌≡◌, ◌∙◌, ap, sym, subst, ◌<◌}
use Rattle.log_exchange.specs.Runs.{without_first}
use Rattle.log_exchange.proofs.Fronts.{first_gone, none_gone}
use Rattle.log_exchange.proofs.Backlogs.{first_taken}
use Rattle.log_exchange.proofs.backlog.Backlog.take_first.Goals as goal

gone : (c : goal.After-remove) → c.remove.new.self.entries ≡ without_first c.args.k c.self.inside.kept.entries
gone c =
    first_gone c.self.inside.count _ _ _ _ _ c.args.k _ c.in-Some.stamp c.self.invariant c.number.ensures.value (subst (λ b. c.args.k < b.count) (sym c.self.view_is) c.requires)
    c.index_mut-run.ensures.value (sym c.in-Some.ensures.first) c.remove.ensures.entries

pub invariant_of-self : goal.invariant_of-self
invariant_of-self c =
    first_taken c.self.inside.count _ _ _ _ _ c.args.k _ _ c.self.invariant c.number.ensures.value (subst (λ b. c.args.k < b.count) (sym c.self.view_is) c.requires)
    c.index_mut-run.ensures.value c.pop.ensures.rest (gone c)

pub returns-in-Some : goal.returns-in-Some
returns-in-Some c =
    ap (λ es. record { count = c.self.inside.count; entries = es }) (gone c)
    ∙ ap (λ b. record { count = b.count; entries = without_first c.args.k b.entries }) c.self.view_is

pub returns-in-None : goal.returns-in-None
returns-in-None c =
    ap (λ n. record { count = n; entries = c.self.inside.kept.entries }) (ap (λ b. b.count) c.self.view_is)
    ∙ ap (λ es. record { count = c.args.self.now.count; entries = es })
    (none_gone c.self.inside.count _ c.args.self.now.entries _ _ _ c.args.k _ (ap (λ b. b.entries) c.self.view_is) c.self.invariant c.number.ensures.value
    (subst (λ b. c.args.k < b.count) (sym c.self.view_is) c.requires) c.index_mut-run.ensures.value (sym c.in-None.ensures.first))
