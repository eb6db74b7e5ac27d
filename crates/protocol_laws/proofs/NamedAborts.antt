-- Each Abort names a transaction of another site that conflicts.
use Rattle.std.proofs.Common.{◌≡◌, ap, refl, subst, ℕ, List, ◌∷◌, ◌++◌}
use Rattle.helios_model.specs.declared.records.Record.{Record}
use Rattle.helios_model.specs.declared.records.Record.TheVariants.{Prepare, Abort}
use Rattle.helios_model.specs.Sequences.{Mem, Before}
use Rattle.protocol_laws.specs.Clusters.{Cluster, Honest}
use Rattle.protocol_laws.specs.LogLaws.{IsCaused, LogLaws}
use Rattle.protocol_laws.specs.ClusterAborts.{IsNamedAbort, AbortsAreNamed}
use Rattle.protocol_laws.proofs.Sequences.{mem_from_contains, mem_cut, before_of_cut, before_first}
use Rattle.protocol_laws.proofs.KnownRecords.{home}
use Rattle.protocol_laws.proofs.OneMore.{prepare_stands}

pub aborts_named : (w : Cluster) → Honest w → ((k : ℕ) → LogLaws k (w.log k)) → AbortsAreNamed w
aborts_named w h laws i id time cause there = at_cut (mem_cut (Abort id time cause) (w.log id.site) at_home)
  where
    at_home : Mem (Abort id time cause) (w.log id.site)
    at_home = (home w h i (Abort id time cause) there).there

    by_cause : (before after : List Record) → w.log id.site ≡ before ++ Abort id time cause ∷ after → IsCaused id.site before id cause
        → IsNamedAbort w i id time cause
    by_cause before after cut c =
        let first : Before (Prepare c.aborted) (Abort id time cause) (w.log id.site) =
        before_of_cut (Prepare c.aborted) (Abort id time cause) (w.log id.site) before after cut
        (mem_from_contains before (Prepare c.aborted) (prepare_stands before c.aborted c.aborted_stands)) in
        let second : Before (Prepare c.other) (Abort id time cause) (w.log id.site) =
        before_of_cut (Prepare c.other) (Abort id time cause) (w.log id.site) before after cut
        (mem_from_contains before (Prepare c.other) (prepare_stands before c.other c.other_stands)) in
        record {
          elsewhere = c.elsewhere;
          aborted = c.aborted;
          aborted_id = c.aborted_id;
          other = c.other;
          other_id = c.other_id;
          conflicts = c.conflicts;
          aborted_first = first;
          other_first = second;
          aborted_here = h.causal i (Prepare c.aborted) (Abort id time cause) there first;
          other_here = h.causal i (Prepare c.other) (Abort id time cause) there second;
          other_home = subst (λ k. Mem (Prepare c.other) (w.log k)) (ap (λ x. x.site) c.other_id)
              (home w h id.site (Prepare c.other) (before_first (Prepare c.other) (Abort id time cause) (w.log id.site) second)).there;
        }

    at_cut : (before : List Record) × (after : List Record) × (w.log id.site ≡ before ++ Abort id time cause ∷ after) → IsNamedAbort w i id time cause
    at_cut cut = by_cause cut.0 cut.1 cut.2 ((laws id.site).caused cut.0 (Abort id time cause) cut.1 cut.2 refl)
