-- A batch of one entry is one that a site may be asked.
use Rattle.std.proofs.Common.{◌≡◌, ℕ, List, [], ◌∷◌}
use Rattle.std.proofs.lemmas.List.Elements.{All-cons, All-nil}
use Rattle.helios_model.specs.Plans.{PlanData}
use Rattle.helios_model.specs.Step.{MayBeAsked}
use Rattle.helios_model.specs.declared.entries.Entry.{Entry}
use Rattle.node_host.specs.Journals.{AreAsked}

pub alone_is_asked : (e : Entry) (entries : List Entry) (plan opened : PlanData) (site : ℕ) → entries ≡ e ∷ [] → opened ≡ plan → site ≡ 0
    → MayBeAsked plan 0 e.input → AreAsked opened site entries
alone_is_asked e entries plan opened site one same first asked =
    rw (one, same, first) (All-cons (λ x. MayBeAsked plan 0 x.input) e [] asked (All-nil (λ x. MayBeAsked plan 0 x.input)))
