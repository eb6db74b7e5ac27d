-- A step that begins: the head of its site's journal is counted. A restart is told.
use Rattle.std.proofs.Common.{ℕ, false, ◌≡◌, ◌∙◌, ap, refl, sym, subst, true, ◌+◌, ◌-◌, ◌^◌, ◌≤◌, min, IfSome, is_some, Option, Some, None, Result, IfOk, OnErr, List, ◌++◌, length, slice_index_or, if◌then◌else◌, codes, arith}
use Rattle.std.proofs.lemmas.List.{append-nil}
use Rattle.disk_store.specs.Memory.{MemState}
use Rattle.disk_store.specs.declared.fate.Stop.{Stop}
use Rattle.node_host.specs.States.{HostState}
use Rattle.helios_model.specs.declared.entries.Entry.{Entry}
use Rattle.helios_model.specs.Plans.{PlanData}
use Rattle.helios_model.specs.World.{journal_of}
use Rattle.schedule_text.specs.Steps as text
use Rattle.schedule_text.specs.declared.steps.Step.{Step}
use Rattle.schedule_text.specs.declared.steps.Step.TheVariants.{Restart}
use Rattle.schedule_replay.specs.declared.output.Output.{Output}
use Rattle.schedule_replay.specs.declared.taken.Taken.{Taken}
use Rattle.helios_model.specs.declared.records.CommitEvent.{CommitEvent}
use Rattle.schedule_replay.specs.Progress.{Progress, progress, site_of, volume}
use Rattle.schedule_replay.specs.Report.{step_line, step_lines}
use Rattle.schedule_replay.specs.Seats.{IsHolding, IsSeated}
use Rattle.schedule_replay.specs.Standing.{IsBegun, IsBetween, IsPart, IsPlaced, head_size}
use Rattle.schedule_replay.specs.Walks.{IsSeat}
use Rattle.std.proofs.lemmas.Result.{IfOk-weaker, on_err_weaker}
use Rattle.schedule_replay.specs.Taking.{HasAdded}
use Rattle.schedule_replay.proofs.Tally as tally
use Rattle.schedule_replay.proofs.Seated.{held_holds, seat_held}
use Rattle.schedule_replay.proofs.AnsweredBatch.{head_same}

-- the size of the head, by whether there is a host
pub part_begun : (plan : PlanData) (steps : List Step) (number head : ℕ) (s : Step) (held : Option HostState) (m : MemState) (output output' : Output) → IsPart plan steps number s held m output
    → head ≡ (if is_some held then 0 else 39)
    → output'.text.items ≡ output.text.items → output'.sent.items ≡ output.sent.items → output'.commits.items ≡ output.commits.items → output'.refusals ≡ output.refusals
    → output'.volume ≡ min (output.volume + head) (2 ^ 64 - 1)
    → IsBegun plan steps number s held m output'
part_begun plan steps number head s held m output output' h is text sent commits refusals volume_is = record {
  next = h.next;
  seat = h.seat;
  tells = record {
    lines = text ∙ h.tells.lines;
    sent = sent ∙ h.tells.sent;
    commits = commits ∙ h.tells.commits;
    refusals = refusals ∙ h.tells.refusals;
    volume = head_sums _ head _ output.volume output'.volume h.tells.volume volume_is (is ∙ by_seat (progress plan steps) (site_of s) held h.seat);
  };
}
  where
    by_seat : (p : Progress) (site : ℕ) (held : Option HostState) → IsSeat plan p site held m → (if is_some held then 0 else 39) ≡ head_size p site
    by_seat p site None seat = rw seat.0 refl
    by_seat p site (Some host) seat = rw seat.0 refl

    head_sums : (a x y u v : ℕ) → u ≡ min a (2 ^ 64 - 1) → v ≡ min (u + x) (2 ^ 64 - 1) → x ≡ y → v ≡ min (a + y) (2 ^ 64 - 1)
    head_sums a x y u v f g e = omega arith

-- what the arms of a step make, of the step as a whole
pub part_placed : {E : Type 0} (plan : PlanData) (number : ℕ) (s s' : Step) (held : Option HostState) (m m' : MemState) (output between output' : Output) (r : Result Taken E) → s ≡ s'
    → ((steps : List Step) → IsPart plan steps number s held m output → IsBegun plan steps number s held m between)
    → IfOk r (λ after. (steps : List Step) → IsBegun plan steps number s' held m between → IsPlaced plan (progress plan steps) s' after m' output')
    → IfOk r (λ after. (steps : List Step) → IsPart plan steps number s held m output → IsPlaced plan (progress plan steps) s after m' output')
part_placed plan number s s' held m m' output between output' r same begins h =
    IfOk-weaker r
    (λ (after : Taken). (steps : List Step) → IsBegun plan steps number s' held m between → IsPlaced plan (progress plan steps) s' after m' output')
    (λ (after : Taken). (steps : List Step) → IsPart plan steps number s held m output → IsPlaced plan (progress plan steps) s after m' output')
    (λ after f steps b.
    subst (λ t. IsPlaced plan (progress plan steps) t after m' output') (sym same)
    (f steps (subst (λ t. IsBegun plan steps number t held m between) same (begins steps b)))) h

pub part_between : {T E : Type 0} (plan : PlanData) (number : ℕ) (s s' : Step) (held : Option HostState) (m m' : MemState) (output between : Output) (r : Result T E) → s ≡ s'
    → ((steps : List Step) → IsPart plan steps number s held m output → IsBegun plan steps number s held m between)
    → OnErr r ((steps : List Step) → IsBegun plan steps number s' held m between → IsBetween plan (progress plan steps) s' m')
    → OnErr r ((steps : List Step) → IsPart plan steps number s held m output → IsBetween plan (progress plan steps) s m')
part_between plan number s s' held m m' output between r same begins h =
    on_err_weaker r
    (λ f steps b.
    subst (λ t. IsBetween plan (progress plan steps) t m') (sym same) (f steps (subst (λ t. IsBegun plan steps number t held m between) same (begins steps b)))) h

pub restart_first : (plan : PlanData) (site : ℕ) (stop : Option Stop) → text.IsRestart plan site stop → IfSome stop (λ s. 1 ≤ s.call)
restart_first plan site None h = tt
restart_first plan site (Some s) h = h.stops.0

pub restart_placed : (plan : PlanData) (steps : List Step) (number site : ℕ) (stop : Option Stop) (held : Option HostState) (after : HostState) (last : List CommitEvent) (m m' : MemState) (output output' : Output)
    → IsBegun plan steps number (Restart site stop) held m output
    → ((batches : List (List Entry)) → IsHolding plan site batches m → IsSeated plan site batches after m')
    → HasAdded output (step_line number site (codes "restarted")) output'
    → IsPlaced plan (progress plan steps) (Restart site stop) (record { host = after; commits = last; are_new = false }) m' output'
restart_placed plan steps number site stop held after last m m' output output' h seated told =
    let p : Progress = progress plan steps in
    let line : step_line number site (codes "restarted") ≡ step_lines plan p.world p.number (Restart site stop) = ap (λ k. step_line k site (codes "restarted")) h.next.counted in
    record {
      seated = seated (journal_of p.world site) (held_holds plan site (journal_of p.world site) held m (seat_held plan p site held m h.seat));
      lines = told.text ∙ ap (λ t. t ++ step_line number site (codes "restarted")) h.tells.lines ∙ ap (λ ls. p.lines ++ ls) line;
      sent = told.sent ∙ h.tells.sent;
      commits = told.commits ∙ h.tells.commits;
      added = sym (append-nil p.world.history);
      refusals = told.refusals ∙ h.tells.refusals;
      volume = restart_sums _ _ _ output.volume output'.volume h.tells.volume told.volume
          (tally.volume_pass plan p (Restart site stop)
          ∙ ap (λ k. volume p + k + 0 + 0 + length (step_lines plan p.world p.number (Restart site stop))) (head_same (slice_index_or p.opened site true))
          ∙ ap (λ ls. volume p + head_size p site + 0 + 0 + length ls) (sym line));
    }
  where
    restart_sums : (a x z u v : ℕ) → u ≡ min a (2 ^ 64 - 1) → v ≡ min (u + x) (2 ^ 64 - 1) → z ≡ a + 0 + 0 + x → v ≡ min z (2 ^ 64 - 1)
    restart_sums a x z u v f g h = omega arith
