-- A walk that begins, over a bench that was made empty.
use Rattle.std.proofs.Common.{◌≡◌, ◌∙◌, ap, refl, sym, subst, false, true, inl, zero, suc, ℕ, ◌<◌, ◌≤◌, Bool, List, [], None, length, map, replicate, slice_index_or, arith}
use Rattle.std.specs.List.{count_by}
use Rattle.std.proofs.lemmas.List.{get_or-map, get_or-replicate, length-map, length-replicate}
use Rattle.disk_store.specs.Memory.{MemState, cleared, empty_disk}
use Rattle.helios_model.specs.declared.entries.Entry.{Entry}
use Rattle.helios_model.specs.Limits.{most_sites}
use Rattle.helios_model.specs.Plans.{PlanData, IsAccepted, count_of}
use Rattle.helios_model.specs.World.{StepsReach, first_world, journal_of}
use Rattle.schedule_replay.specs.Progress.{Progress, first_progress}
use Rattle.schedule_replay.specs.Seats.{BenchStands, IsHolding}
use Rattle.schedule_replay.specs.Walks.{IsSeat, IsWalkAt, IsWalkOf}
use Rattle.schedule_replay.specs.WalkStates.{WalkState}
use Rattle.schedule_replay.proofs.Passes.{progress_nil}
use Rattle.schedule_replay.proofs.Reach.{reach_first}

empty_holds : (plan : PlanData) (site : ℕ) (m : MemState) → IsHolding plan site [] (cleared m)
empty_holds plan site m = record {
  holds = record { payloads = []; stands = inl (omega arith, refl); journal = refl };
  at_rest = refl;
  quiet = record { unscripted = refl; unlisted = refl };
}

no_opened : (n : ℕ) → count_by (λ (b : Bool). b) (replicate n false) ≡ 0
no_opened zero = refl
no_opened (suc n) = no_opened n

-- a bench that was made empty stands for the first world
pub bench_first : (plan : PlanData) (old bench : List MemState) → IsAccepted plan → length old ≡ most_sites → bench ≡ map cleared old → BenchStands plan (first_world plan) bench
bench_first plan old bench accepted many benches = λ site m low.
    subst (λ b. IsHolding plan site (journal_of (first_world plan) site) (slice_index_or b site m)) (sym benches)
    (subst (λ bs. IsHolding plan site bs (slice_index_or (map cleared old) site m)) (sym (get_or-replicate {A = List (List Entry)} (count_of plan) site [] [] low))
    (subst (IsHolding plan site []) (sym (get_or-map cleared old site empty_disk m (omega (arith, many, accepted.limits.matrix.few)))) (empty_holds plan site (slice_index_or old site empty_disk))))

pub walk_starts : (plan : PlanData) (walk : WalkState) (old bench : List MemState) → IsAccepted plan → length old ≡ most_sites → bench ≡ map cleared old
    → walk.plan ≡ plan → walk.hosts ≡ replicate (count_of plan) None → walk.sent ≡ [] → walk.commits ≡ [] → walk.text ≡ [] → walk.refusals ≡ 0 → walk.number ≡ 0 → walk.volume ≡ 0
    → IsWalkAt plan [] walk bench
walk_starts plan walk old bench accepted many benches same_plan hosts sent commits text refusals number written = record {
  stands = subst (λ p. IsWalkOf plan p walk bench) (sym (progress_nil plan)) (record {
    of_plan = same_plan;
    sites = ap length hosts ∙ length-replicate (count_of plan) None;
    seats = λ site h m low.
        subst (λ hs. IsSeat plan (first_progress plan) site (slice_index_or hs site h) (slice_index_or bench site m)) (sym hosts)
        (subst (λ hh. IsSeat plan (first_progress plan) site hh (slice_index_or bench site m)) (sym (get_or-replicate (count_of plan) site None h low))
        (subst (λ b. IsSeat plan (first_progress plan) site None (slice_index_or b site m)) (sym benches)
        (seat_first site m low)));
    released = sent;
    committed = commits;
    told = refusals;
    lines = text;
    counted = number;
    written = omega (arith, written, no_opened (count_of plan));
  });
  reaches = subst (λ p. StepsReach plan p.world) (sym (progress_nil plan)) (reach_first plan);
  numbered = subst (λ (p : Progress). p.number ≤ length p.lines) (sym (progress_nil plan)) (omega arith);
}
  where
    seat_first : (site : ℕ) (m : MemState) → site < count_of plan → IsSeat plan (first_progress plan) site None (slice_index_or (map cleared old) site m)
    seat_first site m low = (
      get_or-replicate (count_of plan) site false true low,
      get_or-replicate {A = List (List Entry)} (count_of plan) site [] [] low,
      subst (IsHolding plan site []) (sym (get_or-map cleared old site empty_disk m (omega (arith, many, accepted.limits.matrix.few)))) (empty_holds plan site (slice_index_or old site empty_disk)),
    )

-- a bench that was cleared had as many disks before
pub each_site : (old new : List MemState) → new ≡ map cleared old → length new ≡ most_sites → length old ≡ most_sites
each_site old new is many = sym (length-map old cleared) ∙ ap length (sym is) ∙ many
