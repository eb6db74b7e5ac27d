use Rattle.std.proofs.Common.{◌≡◌, ◌∙◌, ℕ, List, ap, sym, subst, cond, true, false, Some, None, [], ◌∷◌, ◌++◌, map, find, filter}
use Rattle.std.specs.Prelude.{if◌then◌else◌}
use Rattle.std.specs.Option.{option_or}
use Rattle.helios_model.specs.declared.entries.State.TheVariants.{Committed}
use Rattle.helios_model.specs.declared.ids.Version.TheVariants.{Of}
use Rattle.helios_model.specs.declared.records.Record.TheVariants.{Commit}
use Rattle.helios_model.specs.Ids.{same_id}
use Rattle.helios_model.specs.Texts.{contains_text, same_text}
use Rattle.helios_model.specs.Log.{event_at, write_over}
use Rattle.helios_model.specs.World.{is_own_commit}
use Rattle.version_store.specs.Store.{value_in, version_in}
use Rattle.site_ledger.specs.Ledger.{IsLedgerOf, end_in, holds_id, ledger_data}
use Rattle.site_ledger.proofs.Kept.{none_out}
use Rattle.site_ledger.proofs.Growth.{commit_stands, holds_found}
use Rattle.site_ledger.proofs.ledger.Ledger.append_commit.Goals as goal

pub invariant_of-self : goal.invariant_of-self
invariant_of-self c = (
  c.in_ok-keep_end-in-Some.ensures.ordered c.self.invariant.0,
  record {
    base = c.self.invariant.1.base;
    is = commit_stands c.an_end_leaves_the_rest.ensures c.self.invariant.1.base c.self.inside.exchange c.append.new.self c.self.inside.pools c.remove.new.self c.self.inside.store c.apply.new.self
        c.self.inside.ended.entries c.keep_end.new.ended.entries c.self.inside.added.items c.push.new.self.items c.self.inside.commits.items c.keep_commit.new.commits.items
        c.args.id.now c.args.time c.in-Some.p
        c.self.invariant.1.is
        c.in_ok-append-in-Some.ensures.ok c.in_ok-push-in-Some.ensures.items c.in-Some.ensures.found c.in-Some.ensures.removed
        (subst (λ ws. (key : List ℕ) → version_in c.apply.new.self key ≡ (if contains_text (map (λ w. w.key) ws) key then Of c.args.id.now else version_in c.self.inside.store key)) c.writes.ensures.value c.in_ok-apply-in-Some.ensures.versions)
        (subst (λ ws. (key : List ℕ) → value_in c.apply.new.self key ≡ write_over (value_in c.self.inside.store key) (find (λ w. same_text w.key key) ws)) c.writes.ensures.value c.in_ok-apply-in-Some.ensures.values)
        (λ at. c.in_ok-keep_end-in-Some.ensures.kept at
        ∙ ap (λ s. option_or (end_in c.self.inside.ended.entries at) (cond (same_id c.args.id.now (record { site = s; time = at })) (Some Committed) None)) c.site-own.ensures.value)
        (c.in_ok-keep_commit-in-Some.ensures ∙ ap (λ s. c.self.inside.commits.items ++ filter (is_own_commit s) (event_at c.args.time c.in-Some.p ∷ [])) c.site-own.ensures.value);
  },
)

pub invariant_of-self-in-None : goal.invariant_of-self-in-None
invariant_of-self-in-None c = (
  c.self.invariant.0,
  record {
    base = c.self.invariant.1.base;
    is = subst (λ ps. IsLedgerOf c.self.invariant.1.base (ledger_data c.self.inside.exchange ps c.self.inside.store c.self.inside.ended.entries c.self.inside.added.items c.self.inside.commits.items))
        (sym (c.in-None.ensures.removed ∙ none_out c.args.id.now c.self.inside.pools (sym c.in-None.ensures.found))) c.self.invariant.1.is;
  },
)

pub returns-in_ok-keep_commit-in-Some : goal.returns-in_ok-keep_commit-in-Some
returns-in_ok-keep_commit-in-Some c =
    let held : holds_id c.args.self.pools c.args.id.now ≡ true =
    ap (λ l. holds_id l.pools c.args.id.now) (sym c.self.view_is) ∙ holds_found c.self.inside.pools c.args.id.now (Some c.in-Some.p) c.in-Some.ensures.found in
    record {
      added = c.in_ok-push-in-Some.ensures.items ∙ ap (λ l. l.added ++ Commit c.args.id.now c.args.time ∷ []) c.self.view_is
          ∙ sym (ap (λ t. if t then c.args.self.added ++ Commit c.args.id.now c.args.time ∷ [] else c.args.self.added) held);
      stands = λ b h. commit_stands c.an_end_leaves_the_rest.ensures b c.self.inside.exchange c.append.new.self c.self.inside.pools c.remove.new.self c.self.inside.store c.apply.new.self
          c.self.inside.ended.entries c.keep_end.new.ended.entries c.self.inside.added.items c.push.new.self.items c.self.inside.commits.items c.keep_commit.new.commits.items
          c.args.id.now c.args.time c.in-Some.p
          (subst (IsLedgerOf b) (sym c.self.view_is) h)
          c.in_ok-append-in-Some.ensures.ok c.in_ok-push-in-Some.ensures.items c.in-Some.ensures.found c.in-Some.ensures.removed
          (subst (λ ws. (key : List ℕ) → version_in c.apply.new.self key ≡ (if contains_text (map (λ w. w.key) ws) key then Of c.args.id.now else version_in c.self.inside.store key)) c.writes.ensures.value c.in_ok-apply-in-Some.ensures.versions)
          (subst (λ ws. (key : List ℕ) → value_in c.apply.new.self key ≡ write_over (value_in c.self.inside.store key) (find (λ w. same_text w.key key) ws)) c.writes.ensures.value c.in_ok-apply-in-Some.ensures.values)
          (λ at. c.in_ok-keep_end-in-Some.ensures.kept at
          ∙ ap (λ s. option_or (end_in c.self.inside.ended.entries at) (cond (same_id c.args.id.now (record { site = s; time = at })) (Some Committed) None)) c.site-own.ensures.value)
          (c.in_ok-keep_commit-in-Some.ensures ∙ ap (λ s. c.self.inside.commits.items ++ filter (is_own_commit s) (event_at c.args.time c.in-Some.p ∷ [])) c.site-own.ensures.value);
      site = record {
        count = ap (λ x. x.count) c.in_ok-append-in-Some.ensures.ok ∙ ap (λ l. l.count) c.self.view_is;
        site = ap (λ x. x.site) c.in_ok-append-in-Some.ensures.ok ∙ ap (λ l. l.site) c.self.view_is;
      };
    }

pub returns-in-None : goal.returns-in-None
returns-in-None c =
    let free : holds_id c.args.self.pools c.args.id.now ≡ false =
    ap (λ l. holds_id l.pools c.args.id.now) (sym c.self.view_is) ∙ holds_found c.self.inside.pools c.args.id.now None c.in-None.ensures.found in
    record {
      added = ap (λ l. l.added) c.self.view_is ∙ sym (ap (λ t. if t then c.args.self.added ++ Commit c.args.id.now c.args.time ∷ [] else c.args.self.added) free);
      stands = λ b h.
          subst (λ ps. IsLedgerOf b (ledger_data c.self.inside.exchange ps c.self.inside.store c.self.inside.ended.entries c.self.inside.added.items c.self.inside.commits.items))
          (sym (c.in-None.ensures.removed ∙ none_out c.args.id.now c.self.inside.pools (sym c.in-None.ensures.found))) (subst (IsLedgerOf b) (sym c.self.view_is) h);
      site = record { count = ap (λ l. l.count) c.self.view_is; site = ap (λ l. l.site) c.self.view_is };
    }
