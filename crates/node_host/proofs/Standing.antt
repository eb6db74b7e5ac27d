-- Hosts that stand for the batches that were taken.
use Rattle.std.proofs.Common.{◌≡◌, ◌∙◌, ap, refl, sym, subst, inr, ℕ, ◌<◌, ◌≤◌, List, [], ◌∷◌, length, Result, Ok, Err, IfErr, Option, Some, None, IfSome, arith}
use Rattle.std.specs.Option.{ForSome}
use Rattle.std.proofs.lemmas.List.Elements.{All-nil}
use Rattle.helios_model.specs.declared.entries.Entry.{Entry}
use Rattle.helios_model.specs.Node.{empty_node}
use Rattle.helios_model.specs.Plans.{PlanData}
use Rattle.commit_offsets.specs.Fingerprint.{fingerprint_of}
use Rattle.commit_rules.specs.Core.{CoreState, IsCoreOf}
use Rattle.disk_store.specs.Disk.{DiskState, IsAtRest, IsImage}
use Rattle.disk_store.specs.Laws.Writes.{rest_image, rest_images}
use Rattle.node_journal.specs.Frames.{EndsAt, HoldsFrame, IsReadTo, StandsFor}
use Rattle.node_journal.specs.Laws.{OneList}
use Rattle.node_journal.specs.Opening.{KeepsPayloads}
use Rattle.node_host.specs.declared.fault.HostFault.{HostFault}
use Rattle.node_host.specs.declared.fault.HostFault.TheVariants.{DiskFailed, Damaged, JournalFull, WrongPlan, WrongSite, NoMemory}
use Rattle.node_host.specs.declared.host.Opened.{Opened}
use Rattle.node_host.specs.declared.recovery.Recovery.{Recovery}
use Rattle.node_host.specs.Fresh.{HasFirst, IsFresh}
use Rattle.node_host.specs.Hosts.{IsHostOn, IsOpened, StandsForSome}
use Rattle.node_host.specs.Journals.{AreAsked, HoldsBatches, IsHeadOf, IsJournal}
use Rattle.node_host.specs.Opening.{HasRead, Interrupts, IsReadThrough, IsRecovered, Recovers, RefusesHead}
use Rattle.node_host.specs.Openings.{Opens, Stops}
use Rattle.node_host.specs.Recovery.{first_recovered, recovered}
use Rattle.node_host.specs.States.{HostState}
use Rattle.node_host.proofs.Holdings.{same_journal}
use Rattle.log_records.specs.Heads.{head_of}

-- nothing was read yet
pub read_none : (bytes : List ℕ) → 0 < length bytes → IsReadTo bytes 0 []
read_none bytes some = record { passed = refl; within = some; small = λ k d low. absurd (omega arith) }

-- a disk at rest keeps what it reads as
pub rest_payloads : (disk : DiskState) → IsAtRest disk → KeepsPayloads disk disk
rest_payloads disk rest payloads stands image is =
    let same : image ≡ disk.bytes = rest_images disk.bytes image (subst (λ (s : DiskState). IsImage s image) rest is) in
    subst (λ (bytes : List ℕ). StandsFor bytes payloads) (sym same) stands

pub rest_self : (disk : DiskState) → IsAtRest disk → IsImage disk disk.bytes
rest_self disk rest = subst (λ (s : DiskState). IsImage s disk.bytes) (sym rest) (rest_image disk.bytes)

pub first_is : (plan : PlanData) (site : ℕ) → recovered plan site [] ≡ first_recovered plan site
unfolding recovered
first_is plan site = refl

-- a host of this site of this plan
pub host_on : (plan : PlanData) (site : ℕ) (host : HostState) (batches : List (List Entry)) (disk : DiskState) (payloads : List (List ℕ))
    → host.core.plan ≡ plan → host.core.site ≡ site → EndsAt disk.bytes host.gate payloads → 1 ≤ length payloads
    → IsJournal plan site payloads batches → IsAtRest disk → IsCoreOf host.core plan (recovered plan site batches).node → IsHostOn host batches disk
host_on plan site host batches disk payloads of_plan at_site ends headed journal rest node = record {
  payloads = payloads;
  ends = ends;
  headed = headed;
  journal = subst (λ (p : PlanData). IsJournal p host.core.site payloads batches) (sym of_plan)
      (subst (λ (s : ℕ). IsJournal plan s payloads batches) (sym at_site) journal);
  at_rest = rest;
  node = subst (λ (p : PlanData). IsCoreOf host.core p (recovered p host.core.site batches).node) (sym of_plan)
      (subst (λ (s : ℕ). IsCoreOf host.core plan (recovered plan s batches).node) (sym at_site) node);
}

-- a head of this plan and site, as its three fields say
pub head_is_for : (plan : PlanData) (site : ℕ) (fingerprint : List ℕ) (at : ℕ) (payload : List ℕ) → fingerprint ≡ fingerprint_of plan → at ≡ site
    → head_of payload ≡ Ok (record { version = 1; fingerprint = fingerprint; site = at }) → IsHeadOf plan site payload
head_is_for plan site fingerprint at payload same here read =
    read ∙ ap (λ (f : List ℕ). Ok (record { version = 1; fingerprint = f; site = at })) same
    ∙ ap (λ (s : ℕ). Ok (record { version = 1; fingerprint = fingerprint_of plan; site = s })) here

-- the batches behind a head that was read
pub read_first : (plan : PlanData) (site : ℕ) (payload : List ℕ) (gate : ℕ) (disk : DiskState) (first : Recovery) → HasFirst payload gate disk → IsHeadOf plan site payload
    → Recovers plan site [] first → HasRead plan site disk.bytes gate first
read_first plan site payload gate disk first begins is_head recovers = record {
  head = payload;
  payloads = [];
  batches = [];
  read = begins.read;
  journal = (is_head, tt);
  recovers = recovers;
}

-- no batch was taken yet
pub none_recovered : (plan : PlanData) (site : ℕ) (first : Recovery) → IsCoreOf first.core plan (empty_node plan site) → first.batches ≡ 0 → first.last ≡ []
    → IfSome first.log (λ records. records ≡ []) → Recovers plan site [] first
none_recovered plan site first empty none last begun = record {
  core = subst (λ r. IsCoreOf first.core plan r.node) (sym (first_is plan site)) empty;
  number = none;
  last = last ∙ sym (ap (λ r. r.last) (first_is plan site));
  log = subst (λ r. IfSome first.log (λ records. records ≡ r.node.log)) (sym (first_is plan site)) begun;
}

-- where the head is refused
head_stops : (plan : PlanData) (site : ℕ) (payload : List ℕ) (gate : ℕ) (disk : DiskState) (fault : HostFault) → HasFirst payload gate disk
    → RefusesHead (fingerprint_of plan) site payload fault → Stops plan site disk.bytes fault
head_stops plan site payload gate disk DiskFailed begins why = tt
head_stops plan site payload gate disk (Damaged at) begins why = (
  omega (arith, begins.frame.next),
  record {
    payloads = [];
    batches = [];
    read = subst (λ (n : ℕ). IsReadTo disk.bytes n []) (sym why.0) (read_none disk.bytes (omega (arith, begins.frame.next)));
    journal = refl;
    damage = inr (payload, subst (λ (n : ℕ). HoldsFrame disk.bytes n payload) (sym why.0) begins.frame, why.1);
  },
)
head_stops plan site payload gate disk JournalFull begins why = why
head_stops plan site payload gate disk (WrongPlan kept given) begins why =
    (why.0, record { long = omega (arith, begins.frame.next); payload = payload; frame = begins.frame; is = why.1 }, why.2, why.3, why.4)
head_stops plan site payload gate disk (WrongSite kept given) begins why =
    (why.0, record { long = omega (arith, begins.frame.next); payload = payload; frame = begins.frame; is = why.1 }, why.2, why.3, why.4, why.5)
head_stops plan site payload gate disk NoMemory begins why = tt

-- where the batches are interrupted
interrupted_stops : (plan : PlanData) (site : ℕ) (payload : List ℕ) (gate : ℕ) (disk : DiskState) (fault : HostFault) → HasFirst payload gate disk
    → Interrupts plan site disk.bytes fault → Stops plan site disk.bytes fault
interrupted_stops plan site payload gate disk DiskFailed begins why = tt
interrupted_stops plan site payload gate disk (Damaged at) begins why = (omega (arith, begins.frame.next), why)
interrupted_stops plan site payload gate disk JournalFull begins why = why
interrupted_stops plan site payload gate disk (WrongPlan kept given) begins why = absurd why
interrupted_stops plan site payload gate disk (WrongSite kept given) begins why = absurd why
interrupted_stops plan site payload gate disk NoMemory begins why = tt

-- what stands in the way of a journal stands in the way of an opening
pub stops_opening : (plan : PlanData) (site limit : ℕ) (bytes : List ℕ) (fault : HostFault) → Stops plan site bytes fault → Opens plan site limit bytes (Err fault)
stops_opening plan site limit bytes DiskFailed why = why
stops_opening plan site limit bytes (Damaged at) why = why
stops_opening plan site limit bytes JournalFull why = absurd why
stops_opening plan site limit bytes (WrongPlan kept given) why = why
stops_opening plan site limit bytes (WrongSite kept given) why = why
stops_opening plan site limit bytes NoMemory why = why

pub ends_stopped : (plan : PlanData) (site limit : ℕ) (fault : HostFault) (state : Option DiskState) → IfSome state (λ d. Stops plan site d.bytes fault)
    → IfSome state (λ d. Opens plan site limit d.bytes (Err fault))
ends_stopped plan site limit fault None why = tt
ends_stopped plan site limit fault (Some d) why = stops_opening plan site limit d.bytes fault why

-- what `Opens` says of an opening that ends well
abbrev pub OpensWell : PlanData → ℕ → ℕ → List ℕ → Type 0
OpensWell plan site limit bytes = (batches : List (List Entry)) × HoldsBatches plan site batches bytes × (StandsFor bytes [] → 40 ≤ limit)

-- where all was read
pub through_ends : OneList → (plan : PlanData) (site limit : ℕ) (disk : DiskState) (gate : ℕ) (recovery : Recovery)
    → IsReadThrough plan site disk.bytes gate recovery → OpensWell plan site limit disk.bytes
through_ends one plan site limit disk gate recovery through = (
  through.has.batches,
  record { payloads = through.has.head ∷ through.has.payloads; stands = stands; journal = through.has.journal },
  λ none. let clash : through.has.head ∷ through.has.payloads ≡ [] = one disk.bytes (through.has.head ∷ through.has.payloads) [] stands none in cc,
)
  where
    stands : StandsFor disk.bytes (through.has.head ∷ through.has.payloads)
    stands = inr (gate, record { read = through.has.read; closed = through.closed })

pub through_stands : OneList → (plan : PlanData) (site : ℕ) (disk : DiskState) (recovery : Recovery) (opened : Opened) → IsAtRest disk
    → opened.host.core ≡ recovery.core → opened.batches ≡ recovery.batches → opened.last ≡ recovery.last
    → recovery.core.plan ≡ plan → recovery.core.site ≡ site → IsReadThrough plan site disk.bytes opened.host.gate recovery
    → (batches : List (List Entry)) → HoldsBatches plan site batches disk.bytes → IsOpened plan site batches opened × IsHostOn opened.host batches disk
through_stands one plan site disk recovery opened rest core number last of_plan at_site through batches holds = (
  record { number = number ∙ is.number; last = last ∙ is.last },
  host_on plan site opened.host batches disk (through.has.head ∷ through.has.payloads)
      (ap (λ (k : CoreState). k.plan) core ∙ of_plan) (ap (λ (k : CoreState). k.site) core ∙ at_site)
      ends (omega arith) (subst (λ bs. IsJournal plan site (through.has.head ∷ through.has.payloads) bs) same through.has.journal) rest
      (subst (λ (k : CoreState). IsCoreOf k plan (recovered plan site batches).node) (sym core) is.core),
)
  where
    ends : EndsAt disk.bytes opened.host.gate (through.has.head ∷ through.has.payloads)
    ends = record { read = through.has.read; closed = through.closed }

    list : holds.payloads ≡ through.has.head ∷ through.has.payloads
    list = one disk.bytes holds.payloads (through.has.head ∷ through.has.payloads) holds.stands (inr (opened.host.gate, ends))

    same : through.has.batches ≡ batches
    same = same_journal plan site (through.has.head ∷ through.has.payloads) through.has.batches batches through.has.journal
        (subst (λ ps. IsJournal plan site ps batches) list holds.journal)

    is : Recovers plan site batches recovery
    is = subst (λ bs. Recovers plan site bs recovery) same through.has.recovers

-- a journal that was read through, of a disk that may tell its contents
module _ (plan : PlanData) (site : ℕ) (state : Option DiskState) (gate : ℕ) (recovery : Recovery) (read : IfSome state (λ d. IsReadThrough plan site d.bytes gate recovery)) where
  pub ends_through : OneList → (limit : ℕ) → IfSome state (λ d. OpensWell plan site limit d.bytes)
  ends_through one limit = by_state state read
    where
      by_state : (s : Option DiskState) → IfSome s (λ d. IsReadThrough plan site d.bytes gate recovery) → IfSome s (λ d. OpensWell plan site limit d.bytes)
      by_state None so = tt
      by_state (Some d) so = through_ends one plan site limit d gate recovery so

  pub stands_through : OneList → (opened : Opened) (new : Option DiskState) → new ≡ state → ForSome state IsAtRest → opened.host.gate ≡ gate
      → opened.host.core ≡ recovery.core → opened.batches ≡ recovery.batches → opened.last ≡ recovery.last
      → recovery.core.plan ≡ plan → recovery.core.site ≡ site
      → IfSome state (λ d. (batches : List (List Entry)) → HoldsBatches plan site batches d.bytes → IsOpened plan site batches opened × ForSome new (IsHostOn opened.host batches))
  stands_through one opened new stays rest gate_is core_is number last of_plan at_site = by_state state stays rest read
    where
      by_state : (s : Option DiskState) → new ≡ s → ForSome s IsAtRest → IfSome s (λ d. IsReadThrough plan site d.bytes gate recovery)
          → IfSome s (λ d. (batches : List (List Entry)) → HoldsBatches plan site batches d.bytes → IsOpened plan site batches opened × ForSome new (IsHostOn opened.host batches))
      by_state None here rest so = tt
      by_state (Some d) here rest so = λ batches holds.
          let both : IsOpened plan site batches opened × IsHostOn opened.host batches d =
          through_stands one plan site d recovery opened (rest d refl) core_is number last of_plan at_site
          (subst (λ (n : ℕ). IsReadThrough plan site d.bytes n recovery) (sym gate_is) so) batches holds in
          (both.0, λ t told. let is : d ≡ t = let some : Some d ≡ Some t = sym here ∙ told in cc in subst (λ (x : DiskState). IsHostOn opened.host batches x) is both.1)

-- a host stands for what was recovered, whatever the disk tells
pub stands_for_some : (plan : PlanData) (site : ℕ) (recovery : Recovery) (opened : Opened) → opened.host.core ≡ recovery.core → opened.batches ≡ recovery.batches
    → opened.last ≡ recovery.last → IsRecovered plan site recovery → StandsForSome plan site opened
stands_for_some plan site recovery opened core number last is = record {
  batches = is.batches;
  asked = is.asked;
  number_and_last = record { number = number ∙ is.recovers.number; last = last ∙ is.recovers.last };
  node = subst (λ (k : CoreState). IsCoreOf k plan (recovered plan site is.batches).node) (sym core) is.recovers.core;
}

pub rest_first : (payload : List ℕ) (gate : ℕ) (state : Option DiskState) → ForSome state (HasFirst payload gate) → ForSome state IsAtRest
rest_first payload gate state begins d told = (begins d told).at_rest

-- what an opening that goes on from a head knows: of the disk, and of the core that it was given
module _ (self core : CoreState) (fingerprint : List ℕ) (at count : ℕ) (same : core ≡ self) (fresh : IsFresh core fingerprint at count)
    (payload : List ℕ) (gate : ℕ) (state : Option DiskState) (begins : ForSome state (HasFirst payload gate)) where
  site_same : at ≡ self.site
  site_same = fresh.site_is ∙ ap (λ (k : CoreState). k.site) same

  print_same : fingerprint ≡ fingerprint_of self.plan
  print_same = fresh.fingerprint_is ∙ ap (λ (k : CoreState). fingerprint_of k.plan) same

  pub stops_head : (fault : HostFault) → RefusesHead fingerprint at payload fault → IfSome state (λ d. Stops self.plan self.site d.bytes fault)
  stops_head fault why = by_state state begins
    where
      why' : RefusesHead (fingerprint_of self.plan) self.site payload fault
      why' = subst (λ (f : List ℕ). RefusesHead f self.site payload fault) print_same (subst (λ (s : ℕ). RefusesHead fingerprint s payload fault) site_same why)

      by_state : (s : Option DiskState) → ForSome s (HasFirst payload gate) → IfSome s (λ d. Stops self.plan self.site d.bytes fault)
      by_state None first = tt
      by_state (Some d) first = head_stops self.plan self.site payload gate d fault (first d refl) why'

  module _ (first : Recovery) (of_core : first.core ≡ core) (none : first.batches ≡ 0) (nothing : first.last ≡ []) (begun : IfSome first.log (λ records. records ≡ [])) where
    core_same : first.core ≡ self
    core_same = of_core ∙ same

    empty : IsCoreOf first.core self.plan (empty_node self.plan self.site)
    empty = subst (λ (k : CoreState). IsCoreOf k self.plan (empty_node self.plan self.site)) (sym of_core)
        (subst (λ (k : CoreState). IsCoreOf core k.plan (empty_node k.plan k.site)) same fresh.empty)

    recovers_none : Recovers self.plan self.site [] first
    recovers_none = none_recovered self.plan self.site first empty none nothing begun

    -- what some batches make of nothing
    pub recovered_from : (recovery : Recovery) → (IsRecovered first.core.plan at first → IsRecovered first.core.plan at recovery) → IsRecovered self.plan self.site recovery
    recovered_from recovery on = on' (record { batches = []; asked = All-nil (AreAsked self.plan self.site); recovers = recovers_none })
      where
        on' : IsRecovered self.plan self.site first → IsRecovered self.plan self.site recovery
        on' = subst (λ (s : ℕ). IsRecovered self.plan s first → IsRecovered self.plan s recovery) site_same
            (subst (λ (k : CoreState). IsRecovered k.plan at first → IsRecovered k.plan at recovery) core_same on)

    module _ (read : head_of payload ≡ Ok (record { version = 1; fingerprint = fingerprint; site = at })) where
      has_read : (d : DiskState) → HasFirst payload gate d → HasRead self.plan self.site d.bytes gate first
      has_read d begins = read_first self.plan self.site payload gate d first begins (head_is_for self.plan self.site fingerprint at payload print_same site_same read) recovers_none

      pub stops_behind : (fault : HostFault) → IfSome state (λ d. HasRead first.core.plan at d.bytes gate first → Interrupts first.core.plan at d.bytes fault)
          → IfSome state (λ d. Stops self.plan self.site d.bytes fault)
      stops_behind fault why = by_state state begins
          (subst (λ (s : ℕ). IfSome state (λ d. HasRead self.plan s d.bytes gate first → Interrupts self.plan s d.bytes fault)) site_same
          (subst (λ (k : CoreState). IfSome state (λ d. HasRead k.plan at d.bytes gate first → Interrupts k.plan at d.bytes fault)) core_same why))
        where
          by_state : (s : Option DiskState) → ForSome s (HasFirst payload gate) → IfSome s (λ d. HasRead self.plan self.site d.bytes gate first → Interrupts self.plan self.site d.bytes fault)
              → IfSome s (λ d. Stops self.plan self.site d.bytes fault)
          by_state None starts so = tt
          by_state (Some d) starts so = interrupted_stops self.plan self.site payload gate d fault (starts d refl) (so (has_read d (starts d refl)))

      pub reads_through : (recovery : Recovery) (through : ℕ) → IfSome state (λ d. HasRead first.core.plan at d.bytes gate first → IsReadThrough first.core.plan at d.bytes through recovery)
          → IfSome state (λ d. IsReadThrough self.plan self.site d.bytes through recovery)
      reads_through recovery through why = by_state state begins
          (subst (λ (s : ℕ). IfSome state (λ d. HasRead self.plan s d.bytes gate first → IsReadThrough self.plan s d.bytes through recovery)) site_same
          (subst (λ (k : CoreState). IfSome state (λ d. HasRead k.plan at d.bytes gate first → IsReadThrough k.plan at d.bytes through recovery)) core_same why))
        where
          by_state : (s : Option DiskState) → ForSome s (HasFirst payload gate)
              → IfSome s (λ d. HasRead self.plan self.site d.bytes gate first → IsReadThrough self.plan self.site d.bytes through recovery)
              → IfSome s (λ d. IsReadThrough self.plan self.site d.bytes through recovery)
          by_state None starts so = tt
          by_state (Some d) starts so = so (has_read d (starts d refl))

pub weaker_err : {T E : Type 0} (P Q : E → Type 0) (result : Result T E) → ((e : E) → P e → Q e) → IfErr result P → IfErr result Q
weaker_err P Q (Ok x) from holds = tt
weaker_err P Q (Err e) from holds = from e holds
