-- What a seat holds, and what a step leaves of the seats of the sites.
use Rattle.std.proofs.Common.{ℕ, ◌≡◌, ◌≢◌, ◌∙◌, refl, sym, subst, true, inr, ◌<◌, Option, Some, None, Result, Ok, Err, OnOk, OnErr, List, length, slice_index_or}
use Rattle.disk_store.specs.Memory.{MemState}
use Rattle.commit_rules.specs.Core.{IsCoreOf}
use Rattle.node_host.specs.Journals.{IsJournal}
use Rattle.node_host.specs.Laws.{RecoveredIsNode}
use Rattle.node_host.specs.Recovery.{recovered}
use Rattle.node_host.specs.States.{HostState}
use Rattle.helios_model.specs.declared.entries.Entry.{Entry}
use Rattle.helios_model.specs.Plans.{PlanData}
use Rattle.helios_model.specs.World.{World, happens, journal_of, node_of}
use Rattle.schedule_text.specs.declared.steps.Step.{Step}
use Rattle.schedule_text.specs.declared.steps.Step.TheVariants.{Batch, Restart}
use Rattle.schedule_replay.specs.Progress.{Progress, pass, site_of}
use Rattle.schedule_replay.specs.Seats.{IsHolding, IsSeated}
use Rattle.schedule_replay.specs.Standing.{IsHeld}
use Rattle.schedule_replay.specs.Walks.{IsSeat}
use Rattle.std.proofs.lemmas.List.{get_or-set_other, get_or-set_same}
use Rattle.schedule_replay.specs.Entries.{event_for}
use Rattle.schedule_replay.proofs.Journals.{journal_elsewhere}

pub on_ok : {A B : Type 0} (P : Type 0) (r : Result A B) → P → OnOk r P
on_ok P (Ok x) h = h
on_ok P (Err e) h = tt

pub on_err : {A B : Type 0} (P : Type 0) (r : Result A B) → P → OnErr r P
on_err P (Ok x) h = tt
on_err P (Err e) h = h

-- what is said of a host's plan and site is said of these
pub placed_as : (F : PlanData → ℕ → Type 0) (a b : PlanData) (x y : ℕ) → a ≡ b → x ≡ y → F a x → F b y
placed_as F a b x y p q h = subst (λ k. F b k) q (subst (λ pl. F pl x) p h)

pub seated_holds : (plan : PlanData) (site : ℕ) (batches : List (List Entry)) (host : HostState) (m : MemState) → IsSeated plan site batches host m → IsHolding plan site batches m
seated_holds plan site batches host m h = record {
  holds = record {
    payloads = h.on.payloads;
    stands = inr (host.gate, h.on.ends);
    journal = placed_as (λ pl st. IsJournal pl st h.on.payloads batches) host.core.plan plan host.core.site site h.of_plan h.at_site h.on.journal;
  };
  at_rest = h.on.at_rest;
  quiet = h.quiet;
}

pub held_holds : (plan : PlanData) (site : ℕ) (batches : List (List Entry)) (held : Option HostState) (m : MemState) → IsHeld plan site batches held m → IsHolding plan site batches m
held_holds plan site batches None m h = subst (λ bs. IsHolding plan site bs m) (sym h.0) h.1
held_holds plan site batches (Some host) m h = seated_holds plan site batches host m h

pub seat_held : (plan : PlanData) (p : Progress) (site : ℕ) (held : Option HostState) (m : MemState) → IsSeat plan p site held m → IsHeld plan site (journal_of p.world site) held m
seat_held plan p site None m h = (h.1, h.2)
seat_held plan p site (Some host) m h = h.1

-- the core of a seat stands for its site's node
pub core_of_seat : RecoveredIsNode → (plan : PlanData) (w : World) (site : ℕ) (host : HostState) (m : MemState) → IsSeated plan site (journal_of w site) host m
    → IsCoreOf host.core plan (node_of plan w site)
core_of_seat is_node plan w site host m h =
    subst (IsCoreOf host.core plan) (is_node plan w site)
    (placed_as (λ pl st. IsCoreOf host.core pl (recovered pl st (journal_of w site)).node) host.core.plan plan host.core.site site h.of_plan h.at_site h.on.node)

-- ---- what a step leaves of the seats

-- the journals of the other sites stay
pub journal_passed : (plan : PlanData) (w : World) (s : Step) (other : ℕ) → other ≢ site_of s → journal_of (happens plan w (event_for plan w s)) other ≡ journal_of w other
journal_passed plan w (Batch site inputs stop) other apart = journal_elsewhere plan w site other inputs stop apart
journal_passed plan w (Restart site stop) other apart = refl

pub opened_elsewhere : (plan : PlanData) (p : Progress) (s : Step) (other : ℕ) → other ≢ site_of s → slice_index_or (pass plan p s).opened other true ≡ slice_index_or p.opened other true
opened_elsewhere plan p s other apart = get_or-set_other p.opened (site_of s) other true true apart

pub opened_here : (plan : PlanData) (p : Progress) (s : Step) → site_of s < length p.opened → slice_index_or (pass plan p s).opened (site_of s) true ≡ true
opened_here plan p s low = get_or-set_same p.opened (site_of s) true true low

-- and so do their seats
pub seat_elsewhere : (plan : PlanData) (p : Progress) (s : Step) (other : ℕ) (h : Option HostState) (m : MemState) → other ≢ site_of s → IsSeat plan p other h m → IsSeat plan (pass plan p s) other h m
seat_elsewhere plan p s other None m apart is = (opened_elsewhere plan p s other apart ∙ is.0, journal_passed plan p.world s other apart ∙ is.1, is.2)
seat_elsewhere plan p s other (Some host) m apart is =
    (opened_elsewhere plan p s other apart ∙ is.0, subst (λ batches. IsSeated plan other batches host m) (sym (journal_passed plan p.world s other apart)) is.1)

-- the step's own site has a host for its journal
pub seat_here : (plan : PlanData) (p : Progress) (s : Step) (host : HostState) (m : MemState) → site_of s < length p.opened
    → IsSeated plan (site_of s) (journal_of (pass plan p s).world (site_of s)) host m → IsSeat plan (pass plan p s) (site_of s) (Some host) m
seat_here plan p s host m low seated = (opened_here plan p s low, seated)
