-- A core stands for a node where its parts do, and a step of the parts is one of the core.
use Rattle.std.proofs.Common.{◌≡◌, ◌∙◌, ap, refl, sym, subst, arith, ℕ, ◌+◌, ◌-◌, ◌^◌, Bool, true, false, ◌⊎◌, inl, inr, List, [], ◌∷◌, ◌++◌, length, min, drop, filter}
use Rattle.std.proofs.Math.Seq.{drop-append_seam, drop-length}
use Rattle.std.proofs.lemmas.Bool.{cases_Bool}
use Rattle.std.proofs.lemmas.List.{append-nil, length-append}
use Rattle.std.proofs.lemmas.List.Elements.{filter-append}
use Rattle.helios_model.specs.declared.entries.Entry.{Entry}
use Rattle.helios_model.specs.declared.entries.Reply.{Reply}
use Rattle.helios_model.specs.declared.records.Record.{Record}
use Rattle.helios_model.specs.declared.records.CommitEvent.{CommitEvent}
use Rattle.helios_model.specs.Plans.{PlanData, count_of}
use Rattle.helios_model.specs.Node.{Node, Stepped, empty_node}
use Rattle.helios_model.specs.Step.{MayBeAsked, step}
use Rattle.helios_model.specs.Spellable.{IsSpellableReply}
use Rattle.helios_model.specs.World.{own_commits}
use Rattle.log_exchange.specs.Kept.{is_needed, needed}
use Rattle.node_limits.specs.Laws.{ReplyIsSpellable, StepKeepsLimits}
use Rattle.node_limits.specs.Limits.{IsWithinLimits}
use Rattle.site_ledger.specs.Ledger.{AreEnds, Base, IsKept, empty_base, log_in}
use Rattle.site_node.specs.Node.{IsNodeOf, IsSamePlace, SiteData, node_in}
use Rattle.commit_rules.specs.Answers.{Answers, AnswersAt, Moves}
use Rattle.commit_rules.specs.Core.{CoreState, HasNode, IsCoreOf, core_of}

-- a test that was applied once changes nothing when it is applied again
filter_again : {X : Type 0} (p : X → Bool) (xs : List X) → filter p (filter p xs) ≡ filter p xs
filter_again p [] = refl
filter_again {X = X} p (x ∷ xs) = by_test (cases_Bool (p x)) (filter_again p xs)
  where
    by_test : (p x ≡ true) ⊎ (p x ≡ false) → filter p (filter p xs) ≡ filter p xs → filter p (filter p (x ∷ xs)) ≡ filter p (x ∷ xs)
    by_test (inl passes) rest = simp passes (ap (λ ys. x ∷ ys) rest)
    by_test (inr fails) rest = simp fails rest

-- a node's log between two steps, and what is kept of it
abbrev pub base_of : Node → SiteData → Base
base_of n s = record { log = n.log; kept = s.ledger.kept }

-- the parts are of this node, between two steps
pub record IsAt (plan : PlanData) (n : Node) (s : SiteData) : Type 0 where
  pub of_plan : s.plan ≡ plan
  pub stands : IsNodeOf (base_of n s) s
  pub node : node_in (base_of n s) s ≡ n
  pub within : IsWithinLimits s.plan (node_in (base_of n s) s)

module _ (s : SiteData) (log_length : ℕ) (plan : PlanData) (n : Node) (h : IsCoreOf (core_of s log_length) plan n) (none : s.ledger.added ≡ []) (nothing : s.ledger.commits ≡ []) where
  whole : log_in (base_of n s) s.ledger ≡ n.log
  whole = ap (λ more. n.log ++ more) none ∙ append-nil n.log

  no_commits : own_commits s.ledger.site n.log (length n.log) ≡ []
  no_commits = rw drop-length refl

  of_node : node_in (base_of n s) s ≡ n
  of_node =
      ap (λ site. record { site = site; log = log_in (base_of n s) s.ledger; table = s.table }) h.at_site
      ∙ ap (λ log. record { site = n.site; log = log; table = s.table }) whole
      ∙ ap (λ table. record { site = n.site; log = n.log; table = table }) h.of_table

  same_needs : needed (count_of s.plan) s.table s.ledger.kept ≡ needed (count_of s.plan) s.table n.log
  same_needs =
      let kept : s.ledger.kept ≡ needed (count_of s.plan) s.table n.log =
      h.keeps ∙ ap (λ p. needed (count_of p) n.table n.log) (sym h.of_plan) ∙ ap (λ table. needed (count_of s.plan) table n.log) (sym h.of_table) in
      ap (needed (count_of s.plan) s.table) kept ∙ filter_again (is_needed (count_of s.plan) s.table) n.log

  pub parts_at : IsAt plan n s
  parts_at = record {
    of_plan = h.of_plan;
    stands = record {
      ledger = record {
        lookups = subst (λ log. IsKept log s.ledger.pools s.ledger.store) (sym whole) h.lookups;
        ends = subst (λ log. AreEnds s.ledger.site log s.ledger.ended) (sym whole) (subst (λ site. AreEnds site n.log s.ledger.ended) (sym h.at_site) h.ends);
        kept = sym (ap (λ more. s.ledger.kept ++ more) none ∙ append-nil s.ledger.kept);
        commits = nothing ∙ sym (ap (λ log. own_commits s.ledger.site log (length n.log)) whole ∙ no_commits);
      };
      needs = same_needs;
    };
    node = of_node;
    within = subst (λ p. IsWithinLimits p (node_in (base_of n s) s)) (sym h.of_plan) (subst (IsWithinLimits plan) (sym of_node) h.within);
  }

-- what the end of a step leaves of the parts, and what it gives
pub record IsEnd (s after : SiteData) (added : List Record) (commits : List CommitEvent) : Type 0 where
  pub added_is : added ≡ s.ledger.added
  pub commits_are : commits ≡ s.ledger.commits
  pub none : after.ledger.added ≡ []
  pub kept : after.ledger.kept ≡ needed (count_of s.plan) s.table s.ledger.kept
  pub stands : (b : Base) → IsNodeOf b s → IsNodeOf (record { log = log_in b s.ledger; kept = after.ledger.kept }) after
  pub table : after.table ≡ s.table
  pub place : IsSamePlace s after

-- the parts at the end of a step stand for the node that the step came to
module _ (b : Base) (s after : SiteData) (added : List Record) (commits : List CommitEvent) (end : IsEnd s after added commits) (is : IsNodeOf b s) where
  kept_all : after.ledger.kept ≡ needed (count_of s.plan) s.table (log_in b s.ledger)
  kept_all =
      end.kept
      ∙ ap (needed (count_of s.plan) s.table) is.ledger.kept
      ∙ filter-append (is_needed (count_of s.plan) s.table) b.kept s.ledger.added
      ∙ ap (λ front. front ++ needed (count_of s.plan) s.table s.ledger.added) is.needs
      ∙ sym (filter-append (is_needed (count_of s.plan) s.table) b.log s.ledger.added)

  pub core_after : (log_length : ℕ) (plan : PlanData) (m : Node) → log_length ≡ min (length (log_in b s.ledger)) (2 ^ 64 - 1) → s.plan ≡ plan → node_in b s ≡ m
      → IsWithinLimits plan m → IsCoreOf (core_of after log_length) plan m
  core_after log_length plan m long same reached within =
      let ended : IsNodeOf (record { log = log_in b s.ledger; kept = after.ledger.kept }) after = end.stands b is in
      let whole : log_in b s.ledger ++ after.ledger.added ≡ log_in b s.ledger = ap (λ more. log_in b s.ledger ++ more) end.none ∙ append-nil (log_in b s.ledger) in
      let at_end : IsCoreOf (core_of after log_length) s.plan (node_in b s) = record {
        of_plan = end.place.plan;
        at_site = end.place.site;
        of_table = end.table;
        of_length = long;
        lookups = subst (λ log. IsKept log after.ledger.pools after.ledger.store) whole ended.ledger.lookups;
        ends = subst (λ log. AreEnds s.ledger.site log after.ledger.ended) whole
            (subst (λ site. AreEnds site (log_in b s.ledger ++ after.ledger.added) after.ledger.ended) end.place.site ended.ledger.ends);
        keeps = kept_all;
        within = subst (λ p. IsWithinLimits p (node_in b s)) (sym same) (subst (IsWithinLimits plan) (sym reached) within);
      } in
      subst (IsCoreOf (core_of after log_length) plan) reached (subst (λ p. IsCoreOf (core_of after log_length) p (node_in b s)) same at_end)

-- what a step of a core gives, by its parts
pub record IsStepped (plan : PlanData) (n : Node) (entry : Entry) (after : CoreState) (more : List Record) (events : List CommitEvent) : Type 0 where
  pub core : IsCoreOf after plan (step plan n entry).node
  pub added : more ≡ drop (length n.log) (step plan n entry).node.log
  pub commits : events ≡ own_commits n.site (step plan n entry).node.log (length n.log)

-- one step of the parts is a step of the core that stands for the node
pub record IsStep (s answered after : SiteData) (entry : Entry) (added : List Record) (commits : List CommitEvent) : Type 0 where
  pub moves : Moves s answered (λ m. step s.plan m entry)
  pub place : IsSamePlace s answered
  pub end : IsEnd answered after added commits

pub stepped : (s answered after : SiteData) (log_length later : ℕ) (entry : Entry) (added : List Record) (commits : List CommitEvent) → s.ledger.added ≡ [] → s.ledger.commits ≡ []
    → IsStep s answered after entry added commits → later ≡ min (log_length + length added) (2 ^ 64 - 1) → StepKeepsLimits → MayBeAsked s.plan s.ledger.site entry.input
    → (plan : PlanData) (n : Node) → IsCoreOf (core_of s log_length) plan n → IsStepped plan n entry (core_of after later) added commits
stepped s answered after log_length later entry added commits none nothing h long keeps may plan n is =
    let at : IsAt plan n s = parts_at s log_length plan n is none nothing in
    let b : Base = base_of n s in
    let answer : AnswersAt b s answered (step s.plan (node_in b s) entry).reply (λ m. step s.plan m entry) = h.moves b at.stands at.within.node in
    let same : answered.plan ≡ plan = h.place.plan ∙ at.of_plan in
    let reached : node_in b answered ≡ (step plan n entry).node =
    sym (ap (λ m. (step plan m entry).node) (sym at.node) ∙ ap (λ p. (step p (node_in b s) entry).node) (sym at.of_plan) ∙ ap (λ t. t.node) answer.answer) in
    let asked : MayBeAsked plan n.site entry.input = subst (λ site. MayBeAsked plan site entry.input) is.at_site (subst (λ p. MayBeAsked p s.ledger.site entry.input) at.of_plan may) in
    let grown : (step plan n entry).node.log ≡ n.log ++ added = ap (λ m. m.log) (sym reached) ∙ ap (λ more. n.log ++ more) (sym h.end.added_is) in
    let lengths : length (n.log ++ added) ≡ length n.log + length added = length-append n.log added in
    let whole : length (log_in b answered.ledger) ≡ length n.log + length added = ap (λ more. length (n.log ++ more)) (sym h.end.added_is) ∙ lengths in
    let before : log_length ≡ min (length n.log) (2 ^ 64 - 1) = is.of_length in
    record {
      core = core_after b answered after added commits h.end answer.stands later plan (step plan n entry).node (omega arith) same reached (keeps plan n entry is.within asked);
      added = sym (ap (drop (length n.log)) grown ∙ drop-append_seam n.log added);
      commits =
          h.end.commits_are
          ∙ answer.stands.ledger.commits
          ∙ ap (λ m. own_commits m.site m.log (length n.log)) reached
          ∙ ap (λ site. own_commits site (step plan n entry).node.log (length n.log)) (sym (ap (λ m. m.site) reached) ∙ h.place.site ∙ is.at_site);
    }

-- the parts of a site that has heard and done nothing
pub core_first : (s : SiteData) (plan : PlanData) (site : ℕ) → s.plan ≡ plan → s.ledger.site ≡ site → s.ledger.kept ≡ [] → node_in empty_base s ≡ empty_node plan site → IsNodeOf empty_base s
    → IsWithinLimits plan (empty_node plan site) → IsCoreOf (core_of s 0) plan (empty_node plan site)
core_first s plan site of_plan at_site none is stands within =
    let empty : log_in empty_base s.ledger ≡ [] = ap (λ m. m.log) is in
    record {
      of_plan = of_plan;
      at_site = at_site;
      of_table = ap (λ m. m.table) is;
      of_length = refl;
      lookups = subst (λ log. IsKept log s.ledger.pools s.ledger.store) empty stands.ledger.lookups;
      ends = subst (λ log. AreEnds site log s.ledger.ended) empty (subst (λ at. AreEnds at (log_in empty_base s.ledger) s.ledger.ended) at_site stands.ledger.ends);
      keeps = none;
      within = within;
    }

-- some node is there after a step, and the reply has a spelling
pub core_still : (s answered after : SiteData) (log_length later : ℕ) (entry : Entry) (added : List Record) (commits : List CommitEvent) → s.ledger.added ≡ [] → s.ledger.commits ≡ []
    → IsStep s answered after entry added commits → later ≡ min (log_length + length added) (2 ^ 64 - 1) → StepKeepsLimits → MayBeAsked s.plan s.ledger.site entry.input
    → HasNode (core_of s log_length) → HasNode (core_of after later)
core_still s answered after log_length later entry added commits none nothing h long keeps may has = record {
  node = (step s.plan has.node entry).node;
  is = subst (λ p. IsCoreOf (core_of after later) p (step s.plan has.node entry).node) (sym (h.end.place.plan ∙ h.place.plan))
      (stepped s answered after log_length later entry added commits none nothing h long keeps may s.plan has.node has.is).core;
}

-- the reply to an entry is that of the rules to the node that the core stands for
pub replied : (s answered : SiteData) (log_length : ℕ) (entry : Entry) (reply : Reply) → s.ledger.added ≡ [] → s.ledger.commits ≡ []
    → Answers s answered reply (λ m. step s.plan m entry) → (plan : PlanData) (n : Node) → IsCoreOf (core_of s log_length) plan n → reply ≡ (step plan n entry).reply
replied s answered log_length entry reply none nothing h plan n is =
    let at : IsAt plan n s = parts_at s log_length plan n is none nothing in
    let b : Base = base_of n s in
    let answer : AnswersAt b s answered reply (λ m. step s.plan m entry) = h b at.stands at.within.node in
    sym (ap (λ m. (step plan m entry).reply) (sym at.node) ∙ ap (λ p. (step p (node_in b s) entry).reply) (sym at.of_plan) ∙ ap (λ t. t.reply) answer.answer)

pub reply_still : (s answered : SiteData) (log_length : ℕ) (entry : Entry) (reply : Reply) → s.ledger.added ≡ [] → s.ledger.commits ≡ []
    → Answers s answered reply (λ m. step s.plan m entry) → ReplyIsSpellable → MayBeAsked s.plan s.ledger.site entry.input → HasNode (core_of s log_length) → IsSpellableReply reply
reply_still s answered log_length entry reply none nothing h spelled may has =
    subst IsSpellableReply (sym (replied s answered log_length entry reply none nothing h s.plan has.node has.is))
    (spelled s.plan has.node entry has.is.within (subst (λ site. MayBeAsked s.plan site entry.input) has.is.at_site may))

-- an answer moves the parts as its rule does
pub moved : (s answered : SiteData) (reply : Reply) (rule : Node → Stepped) → Answers s answered reply rule → Moves s answered rule
moved s answered reply rule h b is sound =
    let at : AnswersAt b s answered reply rule = h b is sound in
    subst (λ r. AnswersAt b s answered r rule) (sym (ap (λ t. t.reply) at.answer)) at
