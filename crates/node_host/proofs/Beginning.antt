-- Journals that are opened first, or begun with a head.
use Rattle.std.proofs.Common.{◌≡◌, ◌≢◌, ◌⊎◌, ◌∙◌, ap, refl, sym, subst, inl, inr, ℕ, ◌<◌, ◌≤◌, List, [], ◌∷◌, length, slice_index, Ok, Option, Some, None, is_some, IfSome, true, false, arith}
use Rattle.std.specs.Option.{ForSome}
use Rattle.std.proofs.lemmas.List.Elements.{All-nil}
use Rattle.helios_model.specs.declared.entries.Entry.{Entry}
use Rattle.helios_model.specs.Node.{empty_node}
use Rattle.commit_offsets.specs.Fingerprint.{fingerprint_of}
use Rattle.commit_rules.specs.Core.{CoreState, IsCoreOf}
use Rattle.disk_store.specs.Disk.{DiskState, EachImage}
use Rattle.disk_store.specs.Moments.{AtEachMoment}
use Rattle.disk_store.specs.Laws.Moments.{Past, moments_weaker}
use Rattle.node_journal.specs.Appending.{IsBeforeOrAfter, IsReady}
use Rattle.node_journal.specs.Frames.{IsReadTo, StandsFor}
use Rattle.node_journal.specs.Laws.{OneList}
use Rattle.log_records.specs.declared.heads.Head.{Head}
use Rattle.log_records.specs.Heads.{head_bytes, head_of, IsSpellableHead}
use Rattle.helios_model.specs.Limits.{most_sites}
use Rattle.node_host.specs.declared.host.Opened.{Opened}
use Rattle.node_host.specs.Fresh.{IsFresh}
use Rattle.node_host.specs.Hosts.{IsHostOn, IsOpened, StandsForSome}
use Rattle.node_host.specs.Journals.{AreAsked, HoldsBatches, IsHeadOf, IsJournal, KeepsBatches}
use Rattle.node_host.specs.Opening.{LeavesHead}
use Rattle.node_host.specs.Recovery.{recovered}
use Rattle.node_host.proofs.FirstHeads.{head_is}
use Rattle.node_host.proofs.Holdings.{head_keeps, payloads_keep}
use Rattle.node_host.proofs.Standing.{OpensWell, first_is, head_is_for, host_on, read_none, rest_payloads, rest_self}

abbrev pub HeadsAgain : Type 0
HeadsAgain = (head : Head) → IsSpellableHead head → head_of (head_bytes head) ≡ Ok head

-- the head that is written for a plan's fingerprint and a site
abbrev pub head_written : List ℕ → ℕ → List ℕ
head_written fingerprint site = head_bytes (record { version = 1; fingerprint = fingerprint; site = site })

-- the journal holds nothing
pub none_held : (bytes : List ℕ) (gate : ℕ) → gate ≡ 0 → gate < length bytes → slice_index bytes gate ≢ 1 → StandsFor bytes []
none_held bytes gate zero within closed = inr (
  gate,
  record {
    read = subst (λ (n : ℕ). IsReadTo bytes n []) (sym zero) (read_none bytes (omega arith));
    closed = closed;
  },
)

module _ (self core : CoreState) (fingerprint : List ℕ) (at count : ℕ) (same : core ≡ self) (fresh : IsFresh core fingerprint at count) (limit gate : ℕ)
    (one : OneList) (again : HeadsAgain) (whole : length fingerprint ≡ 32) (low : at < most_sites) (zero : gate ≡ 0)
    (state : Option DiskState) (ready : ForSome state (λ d. IsReady d gate)) where
  is_head : IsHeadOf self.plan self.site (head_written fingerprint at)
  is_head = head_is_for self.plan self.site fingerprint at (head_written fingerprint at)
      (fresh.fingerprint_is ∙ ap (λ (k : CoreState). fingerprint_of k.plan) same) (fresh.site_is ∙ ap (λ (k : CoreState). k.site) same)
      (head_is again fingerprint at whole low)

  read_at : (d : DiskState) → IsReady d gate → IsReadTo d.bytes gate []
  read_at d is = subst (λ (n : ℕ). IsReadTo d.bytes n []) (sym zero) (read_none d.bytes (omega (arith, is.within)))

  none : (d : DiskState) → IsReady d gate → StandsFor d.bytes []
  none d is = none_held d.bytes gate zero is.within is.closed

  pub begun_moments : (past past' : Past) (new : Option DiskState) → is_some new ≡ is_some state
      → IfSome state (λ d. IsReadTo d.bytes gate [] → AtEachMoment past past' new (λ t. (t ≡ d) ⊎ EachImage t (IsBeforeOrAfter [] (head_written fingerprint at))))
      → IfSome state (λ d. AtEachMoment past past' new (λ t. KeepsBatches self.plan self.site d t))
  begun_moments past past' new told moments = by_state state new told ready moments
    where
      keeps : (d : DiskState) → IsReady d gate → (t : DiskState) → (t ≡ d) ⊎ EachImage t (IsBeforeOrAfter [] (head_written fingerprint at)) → KeepsBatches self.plan self.site d t
      keeps d is t (inl stays) = subst (λ (x : DiskState). KeepsBatches self.plan self.site d x) (sym stays) (payloads_keep self.plan self.site d d (rest_payloads d is.at_rest))
      keeps d is t (inr each) = head_keeps one self.plan self.site (head_written fingerprint at) d d t is_head (rest_payloads d is.at_rest) (none d is) (rest_self d is.at_rest) each

      by_state : (old new : Option DiskState) → is_some new ≡ is_some old → ForSome old (λ d. IsReady d gate)
          → IfSome old (λ d. IsReadTo d.bytes gate [] → AtEachMoment past past' new (λ t. (t ≡ d) ⊎ EachImage t (IsBeforeOrAfter [] (head_written fingerprint at))))
          → IfSome old (λ d. AtEachMoment past past' new (λ t. KeepsBatches self.plan self.site d t))
      by_state None new told ready so = tt
      by_state (Some d) None told ready so = absurd (let clash : false ≡ true = told in cc)
      by_state (Some d) (Some t) told ready so =
          moments_weaker (λ s. (s ≡ d) ⊎ EachImage s (IsBeforeOrAfter [] (head_written fingerprint at))) (λ s. KeepsBatches self.plan self.site d s)
          (keeps d (ready d refl)) past past' t (so (read_at d (ready d refl)))

  pub begun_ends : 40 ≤ limit → IfSome state (λ d. OpensWell self.plan self.site limit d.bytes)
  begun_ends roomy = by_state state ready
    where
      by_state : (s : Option DiskState) → ForSome s (λ d. IsReady d gate) → IfSome s (λ d. OpensWell self.plan self.site limit d.bytes)
      by_state None ready = tt
      by_state (Some d) ready = ([], record { payloads = []; stands = none d (ready d refl); journal = refl }, λ so. roomy)

  -- the host is the empty node, whatever the disk tells
  pub begun_for_some : (opened : Opened) → opened.host.core ≡ core → opened.batches ≡ 0 → opened.last ≡ [] → StandsForSome self.plan self.site opened
  begun_for_some opened core_is number last = record {
    batches = [];
    asked = All-nil (AreAsked self.plan self.site);
    number_and_last = record { number = number; last = last ∙ sym (ap (λ r. r.last) (first_is self.plan self.site)) };
    node = subst (λ r. IsCoreOf opened.host.core self.plan r.node) (sym (first_is self.plan self.site))
        (subst (λ (k : CoreState). IsCoreOf k self.plan (empty_node self.plan self.site)) (sym core_is)
        (subst (λ (k : CoreState). IsCoreOf core k.plan (empty_node k.plan k.site)) same fresh.empty));
  }

  pub begun_stands : (opened : Opened) (new : Option DiskState)
      → IfSome state (λ d. IsReadTo d.bytes gate [] → ForSome new (LeavesHead (head_written fingerprint at) opened.host.gate))
      → opened.host.core ≡ core → opened.batches ≡ 0 → opened.last ≡ []
      → IfSome state (λ d. (batches : List (List Entry)) → HoldsBatches self.plan self.site batches d.bytes → IsOpened self.plan self.site batches opened × ForSome new (IsHostOn opened.host batches))
  begun_stands opened new made core_is number last = by_state state ready made
    where
      host_same : opened.host.core ≡ self
      host_same = core_is ∙ same

      node : IsCoreOf opened.host.core self.plan (recovered self.plan self.site []).node
      node = subst (λ r. IsCoreOf opened.host.core self.plan r.node) (sym (first_is self.plan self.site))
          (subst (λ (k : CoreState). IsCoreOf k self.plan (empty_node self.plan self.site)) (sym core_is)
          (subst (λ (k : CoreState). IsCoreOf core k.plan (empty_node k.plan k.site)) same fresh.empty))

      empty : (d : DiskState) → IsReady d gate → (batches : List (List Entry)) → HoldsBatches self.plan self.site batches d.bytes → batches ≡ []
      empty d is batches holds = subst (λ ps. IsJournal self.plan self.site ps batches) (one d.bytes holds.payloads [] holds.stands (none d is)) holds.journal

      first_opened : IsOpened self.plan self.site [] opened
      first_opened = record { number = number; last = last ∙ sym (ap (λ r. r.last) (first_is self.plan self.site)) }

      left_on : (t : DiskState) → LeavesHead (head_written fingerprint at) opened.host.gate t → IsHostOn opened.host [] t
      left_on t left = host_on self.plan self.site opened.host [] t (head_written fingerprint at ∷ []) (ap (λ (k : CoreState). k.plan) host_same)
          (ap (λ (k : CoreState). k.site) host_same) left.ends (omega arith) (is_head, tt) left.at_rest node

      by_state : (s : Option DiskState) → ForSome s (λ d. IsReady d gate)
          → IfSome s (λ d. IsReadTo d.bytes gate [] → ForSome new (LeavesHead (head_written fingerprint at) opened.host.gate))
          → IfSome s (λ d. (batches : List (List Entry)) → HoldsBatches self.plan self.site batches d.bytes → IsOpened self.plan self.site batches opened × ForSome new (IsHostOn opened.host batches))
      by_state None ready so = tt
      by_state (Some d) ready so = λ batches holds.
          let is : IsReady d gate = ready d refl in (
            subst (λ bs. IsOpened self.plan self.site bs opened) (sym (empty d is batches holds)) first_opened,
            λ t told. subst (λ bs. IsHostOn opened.host bs t) (sym (empty d is batches holds)) (left_on t (so (read_at d is) t told)),
          )
