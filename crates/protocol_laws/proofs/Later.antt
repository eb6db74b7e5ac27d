-- What a later cluster has more: logs grow at their ends, and what a site makes itself is above the clock that it had.
use Rattle.std.proofs.Common.{◌≡◌, ◌∙◌, ap, refl, sym, subst, ℕ, ◌+◌, ◌<◌, ◌≤◌, ◌⊎◌, inl, inr, cond, nat_eq, List, [], ◌∷◌, ◌++◌, append_assoc, All, arith, eq-eqb, eqb-true, ne_eqb}
use Rattle.std.proofs.lemmas.List.{append-nil}
use Rattle.std.proofs.lemmas.List.Elements.{All-nil, All-append, All-weaker}
use Rattle.std.proofs.lemmas.Bool.{cases_eq, cond_both, cond-true, cond-false}
use Rattle.helios_model.specs.declared.records.Record.{Record}
use Rattle.helios_model.specs.declared.records.Record.TheVariants.{Prepare, Commit}
use Rattle.helios_model.specs.declared.records.CommitEvent.{CommitEvent}
use Rattle.helios_model.specs.Plans.{PlanData}
use Rattle.helios_model.specs.Log.{event_at, origin, own_time}
use Rattle.protocol_laws.specs.Clusters.{Cluster}
use Rattle.protocol_laws.specs.SmallSteps.{SmallStep}
use Rattle.protocol_laws.specs.SmallSteps.SmallStep.{Tick, Begin, Finish, Take, Send}
use Rattle.protocol_laws.specs.ReachedClusters.{IsKept}
use Rattle.protocol_laws.proofs.Growth.{Goes, tick_goes, send_goes, begin_goes, finish_goes, took, take_goes}

pub record IsLater (w v : Cluster) : Type 0 where
  pub more : ℕ → List Record
  pub grown : (i : ℕ) → v.log i ≡ w.log i ++ more i
  pub above : (i : ℕ) → All (λ r. origin r ≡ i → w.tab i i i < own_time r) (more i)
  pub clock : (i : ℕ) → w.tab i i i ≤ v.tab i i i

pub later_itself : (w : Cluster) → IsLater w w
later_itself w = record {
  more = λ i. [];
  grown = λ i. sym (append-nil (w.log i));
  above = λ i. All-nil (λ r. origin r ≡ i → w.tab i i i < own_time r);
  clock = λ i. omega arith;
}

pub later_on : (u w v : Cluster) → IsLater u w → IsLater w v → IsLater u v
later_on u w v first second = record {
  more = λ i. first.more i ++ second.more i;
  grown = λ i. second.grown i ∙ ap (λ l. l ++ second.more i) (first.grown i) ∙ append_assoc (u.log i) (first.more i) (second.more i);
  above = λ i. All-append (λ r. origin r ≡ i → u.tab i i i < own_time r) (first.more i) (second.more i) (first.above i)
      (All-weaker (λ r. origin r ≡ i → w.tab i i i < own_time r) (λ r. origin r ≡ i → u.tab i i i < own_time r)
      (λ r above own. let risen : u.tab i i i ≤ w.tab i i i = first.clock i in let high : w.tab i i i < own_time r = above own in omega arith)
      (second.more i) (second.above i));
  clock = λ i. let before : u.tab i i i ≤ w.tab i i i = first.clock i in let after : w.tab i i i ≤ v.tab i i i = second.clock i in omega arith;
}

-- what stays as it is, is later too
pub later_same : (u w v : Cluster) → IsLater u w → ((i : ℕ) → v.log i ≡ w.log i) → ((i : ℕ) → v.tab i i i ≡ w.tab i i i) → IsLater u v
later_same u w v h logs tabs = record {
  more = h.more;
  grown = λ i. logs i ∙ h.grown i;
  above = h.above;
  clock = λ i. let before : u.tab i i i ≤ w.tab i i i = h.clock i in let same : v.tab i i i ≡ w.tab i i i = tabs i in omega arith;
}

goes_later : (plan : PlanData) (w v : Cluster) (s : ℕ) (more : List Record) (events : List CommitEvent) → Goes plan w v s more events → IsLater w v
goes_later plan w v s more events g = record {
  more = λ i. cond (nat_eq i s) more [];
  grown = λ i. by_site i (cases_eq i s);
  above = λ i. cond_both (nat_eq i s) more [] (All (λ r. origin r ≡ i → w.tab i i i < own_time r))
      (λ same. subst (λ k. All (λ r. origin r ≡ k → w.tab k k k < own_time r) more) (sym (eqb-true i s same)) g.fresh)
      (λ apart. All-nil (λ r. origin r ≡ i → w.tab i i i < own_time r));
  clock = λ i. g.row i i;
}
  where
    by_site : (i : ℕ) → (i ≡ s) ⊎ (i ≡ s → ⊥) → v.log i ≡ w.log i ++ cond (nat_eq i s) more []
    by_site i (inl same) =
        subst (λ k. v.log k ≡ w.log k ++ cond (nat_eq k s) more []) (sym same)
        (g.log ∙ ap (λ l. w.log s ++ l) (sym (cond-true (nat_eq s s) more [] (eq-eqb s s refl))))
    by_site i (inr apart) =
        g.other_log i apart ∙ sym (append-nil (w.log i)) ∙ ap (λ l. w.log i ++ l) (sym (cond-false (nat_eq i s) more [] (ne_eqb i s apart)))

pub step_later : (plan : PlanData) (w v : Cluster) → IsKept plan w → SmallStep plan w v → IsLater w v
step_later plan w v kept (Tick s low o) = goes_later plan w v s [] [] (tick_goes plan w v s (kept.laws s) o)
step_later plan w v kept (Begin s low p b) = goes_later plan w v s (Prepare p ∷ []) [] (begin_goes plan w v s p kept.honest (kept.laws s) b)
step_later plan w v kept (Finish s low p c) =
    goes_later plan w v s (Commit p.id (w.tab s s s + 1) ∷ []) (event_at (w.tab s s s + 1) p ∷ []) (finish_goes plan w v s p low kept.honest (kept.laws s) c)
step_later plan w v kept (Take s low m t) =
    goes_later plan w v s (took plan w v s m kept.honest kept.laws t).more [] (take_goes plan w v s m kept.honest kept.laws t)
step_later plan w v kept (Send m low o) = goes_later plan w v m.sender [] [] (send_goes plan w v m (kept.laws m.sender) o)
