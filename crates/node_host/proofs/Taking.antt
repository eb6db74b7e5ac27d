-- What a payload spells, and what a recovery makes of it.
use Rattle.std.proofs.Common.{◌≡◌, ◌∙◌, ap, refl, sym, subst, ℕ, ◌+◌, ◌<◌, List, [], ◌∷◌, ◌++◌, Ok, Option, IfSome, length, All, arith, length-append, get_or}
use Rattle.std.proofs.lemmas.Grind.{fold-append}
use Rattle.std.proofs.Math.Seq.{drop-length}
use Rattle.helios_model.specs.declared.entries.Entry.{Entry}
use Rattle.helios_model.specs.declared.entries.Input.{Input}
use Rattle.helios_model.specs.declared.entries.Input.TheVariants.{Get, Status, Request, Pull, Push}
use Rattle.helios_model.specs.declared.records.CommitEvent.{CommitEvent}
use Rattle.helios_model.specs.declared.records.Record.{Record}
use Rattle.helios_model.specs.Plans.{PlanData, count_of}
use Rattle.helios_model.specs.Node.{Node}
use Rattle.helios_model.specs.Spellable.{IsSpellableInput}
use Rattle.helios_model.specs.Step.{MayBeAsked}
use Rattle.helios_model.specs.World.{own_commits}
use Rattle.commit_rules.specs.Core.{CoreState, IsCoreOf}
use Rattle.node_host.specs.Answering.{HasAnswered, HasRedone}
use Rattle.node_host.specs.declared.recovery.Recovery.{Recovery}
use Rattle.log_records.specs.Entries.{batch_of, batch_bytes, IsSpellableBatch}
use Rattle.node_host.specs.Recovery.{first_recovered, recovered, take_batch}
use Rattle.node_host.specs.Journals.{IsBatchPayload}
use Rattle.node_host.specs.Opening.{IsForSite, IsNoBatch, Recovers}

-- an input that has a spelling and is for this site may be asked, and no other
asked_input : (plan : PlanData) (site count : ℕ) (input : Input) → count_of plan ≡ count → IsSpellableInput count input → IsForSite site input → MayBeAsked plan site input
asked_input plan site count (Get key) same spelled here = tt
asked_input plan site count (Status id) same spelled here = tt
asked_input plan site count (Request ask) same spelled here = spelled
asked_input plan site count (Pull to) same spelled here = record { below = subst (λ n. to < n) (sym same) spelled; other = here }
asked_input plan site count (Push m) same spelled here = record { message = subst (λ n. IsSpellableInput n (Push m)) (sym same) spelled; here = here }

for_site : (plan : PlanData) (site : ℕ) (input : Input) → MayBeAsked plan site input → IsForSite site input
for_site plan site (Get key) may = tt
for_site plan site (Status id) may = tt
for_site plan site (Request ask) may = tt
for_site plan site (Pull to) may = may.other
for_site plan site (Push m) may = may.here

abbrev pub ReadIsBatch : Type 0
ReadIsBatch = (count : ℕ) (bytes : List ℕ) (entries : List Entry) → All (λ b. b < 256) bytes → batch_of count bytes ≡ Ok entries → IsSpellableBatch count entries × (bytes ≡ batch_bytes entries)

-- what was decoded and is for this site is a batch of it
pub batch_read : ReadIsBatch → (plan : PlanData) (site count : ℕ) (payload : List ℕ) (entries : List Entry) → All (λ b. b < 256) payload
    → batch_of count payload ≡ Ok entries → All (λ e. IsForSite site e.input) entries → count_of plan ≡ count → IsBatchPayload plan site payload entries
batch_read law plan site count payload entries bytes read here same = record {
  read = ap (λ n. batch_of n payload) same ∙ read;
  spelled = (law count payload entries bytes read).1;
  each = λ k d low. asked_input plan site count (get_or entries k d).input same ((law count payload entries bytes read).0.each k d low).input (here k d low);
}

-- what was decoded and is not for this site is no batch of it
pub none_read : (plan : PlanData) (site count : ℕ) (payload : List ℕ) (entries : List Entry)
    → batch_of count payload ≡ Ok entries → (All (λ e. IsForSite site e.input) entries → ⊥) → count_of plan ≡ count → IsNoBatch plan site payload
none_read plan site count payload entries read away same batch is =
    let there : batch_of count payload ≡ Ok batch = ap (λ n. batch_of n payload) (sym same) ∙ is.read in
    let one : batch ≡ entries = let both : Ok batch ≡ Ok entries = sym there ∙ read in cc in
    away (subst (λ es. All (λ e. IsForSite site e.input) es) one (λ k d low. for_site plan site (get_or batch k d).input (is.each k d low)))

-- the grammar refuses it, so it is no batch
pub none_refused : (plan : PlanData) (site count : ℕ) (payload : List ℕ) → ((entries : List Entry) → batch_of count payload ≡ Ok entries → ⊥)
    → count_of plan ≡ count → IsNoBatch plan site payload
none_refused plan site count payload none same batch is = none batch (ap (λ n. batch_of n payload) (sym same) ∙ is.read)

pub recovered_push : (plan : PlanData) (site : ℕ) (batches : List (List Entry)) (batch : List Entry)
    → recovered plan site (batches ++ batch ∷ []) ≡ take_batch plan (recovered plan site batches) batch
unfolding recovered
recovered_push plan site batches batch = fold-append (take_batch plan) (first_recovered plan site) batches (batch ∷ [])

-- what was recovered goes on with the batch that was taken again
pub recovers_more : (plan : PlanData) (site : ℕ) (batches : List (List Entry)) (batch : List Entry) (before after : Recovery)
    → Recovers plan site batches before
    → HasRedone plan (recovered plan site batches).node batch after.core after.last after.log
    → after.batches ≡ before.batches + 1 → Recovers plan site (batches ++ batch ∷ []) after
recovers_more plan site batches batch before after from redone one = record {
  core = subst (λ r. IsCoreOf after.core plan r.node) (sym (recovered_push plan site batches batch)) redone.answered.stands;
  number = omega (arith, one, from.number, length-append batches (batch ∷ []));
  last = redone.answered.committed ∙ ap (λ r. r.last) (sym (recovered_push plan site batches batch));
  log = subst (λ r. IfSome after.log (λ records. records ≡ r.node.log)) (sym (recovered_push plan site batches batch)) redone.logged;
}

-- a core that takes nothing has taken nothing
pub answered_none : (plan : PlanData) (n : Node) (core : CoreState) → IsCoreOf core plan n → HasAnswered plan n [] core [] []
answered_none plan n core stands = record { stands = stands; replied = refl; committed = sym (none_new n) }
  where
    none_new : (n : Node) → own_commits n.site n.log (length n.log) ≡ []
    none_new n = rw drop-length refl

pub redone_none : (plan : PlanData) (n : Node) (core : CoreState) (commits : List CommitEvent) (log : Option (List Record)) → IsCoreOf core plan n → commits ≡ []
    → IfSome log (λ records. records ≡ n.log) → HasRedone plan n [] core commits log
redone_none plan n core commits log stands none kept =
    let first : HasAnswered plan n [] core [] [] = answered_none plan n core stands in
    record { answered = record { stands = stands; replied = refl; committed = none ∙ first.committed }; logged = kept }
