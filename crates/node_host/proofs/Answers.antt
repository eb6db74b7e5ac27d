-- Entries that are answered one after the other.
use Rattle.std.proofs.Common.{◌≡◌, ◌∙◌, ap, refl, sym, subst, ℕ, ◌<◌, get_or, List, [], ◌∷◌, ◌++◌, append_assoc, drop, length, map, Option, IfSome}
use Rattle.std.proofs.lemmas.Grind.{fold-append}
use Rattle.std.proofs.lemmas.List.{append-nil}
use Rattle.commit_rules.specs.Core.{CoreState, IsCoreOf}
use Rattle.helios_model.specs.declared.entries.Entry.{Entry}
use Rattle.helios_model.specs.declared.entries.Reply.{Reply}
use Rattle.helios_model.specs.declared.records.CommitEvent.{CommitEvent}
use Rattle.helios_model.specs.declared.records.Record.{Record}
use Rattle.helios_model.specs.Plans.{PlanData}
use Rattle.helios_model.specs.Node.{Node}
use Rattle.helios_model.specs.Step.{MayBeAsked, after_entries, after_entry, step}
use Rattle.helios_model.specs.World.{own_commits}
use Rattle.node_host.specs.Answering.{HasAnswered, HasRedone, answers}
use Rattle.node_host.specs.Journals.{AreAsked}
use Rattle.node_host.proofs.Grows.{commits_both, drop_grown, entries_go}

pub answers_both : (plan : PlanData) (n : Node) (es fs : List Entry) → answers plan n (es ++ fs) ≡ answers plan n es ++ answers plan (after_entries plan n es) fs
answers_both plan n [] fs = refl
answers_both plan n (e ∷ es) fs = ap (λ rs. (step plan n e).reply ∷ rs) (answers_both plan (after_entry plan n e) es fs)

-- the own Commits of two runs of entries, joined, are those of the whole
pub commits_join : (plan : PlanData) (n : Node) (es fs : List Entry)
    → own_commits n.site (after_entries plan n es).log (length n.log) ++ own_commits (after_entries plan n es).site (after_entries plan (after_entries plan n es) fs).log (length (after_entries plan n es).log)
    ≡ own_commits n.site (after_entries plan n (es ++ fs)).log (length n.log)
commits_join plan n es fs =
    let n' : Node = after_entries plan n es in
    let whole : after_entries plan n (es ++ fs) ≡ after_entries plan n' fs = fold-append (after_entry plan) n es fs in
    ap (λ s. own_commits n.site n'.log (length n.log) ++ own_commits s (after_entries plan n' fs).log (length n'.log)) (entries_go plan n es).site
    ∙ sym (commits_both n.site n.log n'.log (after_entries plan n' fs).log (entries_go plan n es).log (entries_go plan n' fs).log)
    ∙ ap (λ m. own_commits n.site m.log (length n.log)) (sym whole)

-- the next entry is answered
pub answered_next : (plan : PlanData) (n : Node) (es : List Entry) (e : Entry) (core core' : CoreState) (given : List Reply) (reply : Reply) (commits fresh : List CommitEvent)
    → HasAnswered plan n es core given commits
    → IsCoreOf core' plan (step plan (after_entries plan n es) e).node
    → reply ≡ (step plan (after_entries plan n es) e).reply
    → fresh ≡ own_commits (after_entries plan n es).site (step plan (after_entries plan n es) e).node.log (length (after_entries plan n es).log)
    → HasAnswered plan n (es ++ e ∷ []) core' (given ++ reply ∷ []) (commits ++ fresh)
answered_next plan n es e core core' given reply commits fresh before stands is made = record {
  stands = subst (IsCoreOf core' plan) (sym (fold-append (after_entry plan) n es (e ∷ []))) stands;
  replied = ap (λ rs. rs ++ reply ∷ []) before.replied ∙ ap (λ r. answers plan n es ++ r ∷ []) is ∙ sym (answers_both plan n es (e ∷ []));
  committed = ap (λ cs. cs ++ fresh) before.committed
      ∙ ap (λ cs. own_commits n.site (after_entries plan n es).log (length n.log) ++ cs) made
      ∙ commits_join plan n es (e ∷ []);
}

pub map_itself : {X : Type 0} (xs : List X) → map (λ x. x) xs ≡ xs
map_itself [] = refl
map_itself (x ∷ xs) = ap (λ ys. x ∷ ys) (map_itself xs)

-- a core of the same site of the same plan may be asked the next of the entries
pub next_asked : (core core' : CoreState) (entries : List Entry) (k : ℕ) (e : Entry) → core'.plan ≡ core.plan → core'.site ≡ core.site
    → AreAsked core.plan core.site entries → k < length entries → e ≡ get_or entries k e → MayBeAsked core'.plan core'.site e.input
next_asked core core' entries k e plan site asked low is =
    subst (λ (p : PlanData). MayBeAsked p core'.site e.input) (sym plan)
    (subst (λ (s : ℕ). MayBeAsked core.plan s e.input) (sym site)
    (subst (λ (x : Entry). MayBeAsked core.plan core.site x.input) (sym is) (asked k e low)))

-- the entries before, and then those that were yielded
pub answered_on : (plan : PlanData) (n : Node) (before yielded : List Entry) (e : Entry) (core : CoreState) (given : List Reply) (commits : List CommitEvent)
    → HasAnswered plan n ((before ++ yielded) ++ e ∷ []) core given commits → HasAnswered plan n (before ++ (yielded ++ e ∷ [])) core given commits
answered_on plan n before yielded e core given commits h =
    subst (λ (es : List Entry). HasAnswered plan n es core given commits) (append_assoc before yielded (e ∷ [])) h

pub answered_start : (plan : PlanData) (n : Node) (before : List Entry) (core : CoreState) (given : List Reply) (commits : List CommitEvent)
    → HasAnswered plan n before core given commits → HasAnswered plan n (before ++ []) core given commits
answered_start plan n before core given commits h = subst (λ (es : List Entry). HasAnswered plan n es core given commits) (sym (append-nil before)) h

pub answered_all : (plan : PlanData) (n : Node) (before yielded entries : List Entry) (core : CoreState) (given : List Reply) (commits : List CommitEvent)
    → map (λ x. x) yielded ≡ entries → HasAnswered plan n (before ++ yielded) core given commits → HasAnswered plan n (before ++ entries) core given commits
answered_all plan n before yielded entries core given commits all h =
    subst (λ (es : List Entry). HasAnswered plan n (before ++ es) core given commits) (sym (map_itself yielded) ∙ all) h

pub answered_as : (plan : PlanData) (n : Node) (es : List Entry) (core : CoreState) (given given' : List Reply) (commits commits' : List CommitEvent)
    → HasAnswered plan n es core given commits → given' ≡ given → commits' ≡ commits → HasAnswered plan n es core given' commits'
answered_as plan n es core given given' commits commits' h same same' = record { stands = h.stands; replied = same ∙ h.replied; committed = same' ∙ h.committed }

-- ---- the same without the replies

abbrev KeepsLog : Option (List Record) → Node → Type 0
KeepsLog log n = IfSome log (λ records. records ≡ n.log)

pub redone : (plan : PlanData) (n : Node) (es : List Entry) (core : CoreState) (given : List Reply) (commits : List CommitEvent) (log : Option (List Record))
    → HasAnswered plan n es core given commits → IfSome log (λ records. records ≡ (after_entries plan n es).log) → HasRedone plan n es core commits log
redone plan n es core given commits log h kept = record { answered = record { stands = h.stands; replied = refl; committed = h.committed }; logged = kept }

-- what is kept of the log goes on with what the next entry adds
pub log_on : (plan : PlanData) (n : Node) (es : List Entry) (e : Entry) (log : Option (List Record)) → IfSome log (λ records. records ≡ (step plan (after_entries plan n es) e).node.log)
    → IfSome log (λ records. records ≡ (after_entries plan n (es ++ e ∷ [])).log)
log_on plan n es e log kept = subst (KeepsLog log) (sym (fold-append (after_entry plan) n es (e ∷ []))) kept

pub log_grown : (plan : PlanData) (n : Node) (e : Entry) (records added : List Record) → records ≡ n.log → added ≡ drop (length n.log) (step plan n e).node.log
    → records ++ added ≡ (step plan n e).node.log
log_grown plan n e records added is more =
    let goes = (entries_go plan n (e ∷ [])).log in
    ap (λ rs. rs ++ added) is ∙ ap (λ rs. n.log ++ rs) (more ∙ drop_grown n.log (step plan n e).node.log goes) ∙ sym goes.grown

pub redone_on : (plan : PlanData) (n : Node) (before yielded : List Entry) (e : Entry) (core : CoreState) (commits : List CommitEvent) (log : Option (List Record))
    → HasRedone plan n ((before ++ yielded) ++ e ∷ []) core commits log → HasRedone plan n (before ++ (yielded ++ e ∷ [])) core commits log
redone_on plan n before yielded e core commits log h = subst (λ (es : List Entry). HasRedone plan n es core commits log) (append_assoc before yielded (e ∷ [])) h

pub redone_start : (plan : PlanData) (n : Node) (before : List Entry) (core : CoreState) (commits : List CommitEvent) (log : Option (List Record))
    → HasRedone plan n before core commits log → HasRedone plan n (before ++ []) core commits log
redone_start plan n before core commits log h = subst (λ (es : List Entry). HasRedone plan n es core commits log) (sym (append-nil before)) h

pub redone_all : (plan : PlanData) (n : Node) (before yielded entries : List Entry) (core : CoreState) (commits : List CommitEvent) (log : Option (List Record))
    → map (λ x. x) yielded ≡ entries → HasRedone plan n (before ++ yielded) core commits log → HasRedone plan n (before ++ entries) core commits log
redone_all plan n before yielded entries core commits log all h =
    subst (λ (es : List Entry). HasRedone plan n (before ++ es) core commits log) (sym (map_itself yielded) ∙ all) h
