-- What a batch that is not refused can take, and write.
use Rattle.std.proofs.Common.{◌≡◌, refl, subst, suc, ℕ, Bool, true, false, All, Option, Some, None, IfSome, List, [], ◌∷◌, nat_eq, if◌then◌else◌, arith}
use Rattle.std.specs.Prelude.{slice_get}
use Rattle.std.proofs.lemmas.Bool.{eqb-true}
use Rattle.std.proofs.lemmas.List.Elements.{All-cons, All-nil}
use Rattle.std.proofs.lemmas.Option.{get_or_from_slice_get, slice_get_within}
use Rattle.log_records.specs.Entries.{MayBeWritten, MayBeWrittenInput}
use Rattle.node_host.specs.Journals.{AreAsked}
use Rattle.helios_model.specs.declared.entries.Entry.{Entry}
use Rattle.helios_model.specs.declared.entries.Input.{Input}
use Rattle.helios_model.specs.declared.entries.Input.TheVariants as inputs
use Rattle.helios_model.specs.declared.messages.Message.{Message}
use Rattle.helios_model.specs.Plans.{PlanData, count_of}
use Rattle.helios_model.specs.Spellable.{IsMessageOf}
use Rattle.helios_model.specs.Step.{IsFor, MayBeAsked}
use Rattle.schedule_text.specs.declared.planned.Planned.{Planned}
use Rattle.schedule_text.specs.declared.planned.Planned.TheVariants.{Get, Status, Request, Pull, Push}
use Rattle.schedule_text.specs.Steps.{IsInput}
use Rattle.schedule_replay.specs.declared.refusal.ReplayRefusal.TheVariants.{NotForSite}
use Rattle.schedule_replay.specs.Refusals.{input_refusal, inputs_refusal, push_refusal}
use Rattle.schedule_replay.specs.Taking.{CanTake}
use Rattle.schedule_replay.proofs.Asked.{or_none}

all_at : {X : Type 0} (P : X → Type 0) (xs : List X) (k : ℕ) (x : X) → All P xs → slice_get xs k ≡ Some x → P x
all_at P xs k x all is = subst P (get_or_from_slice_get xs k x x is) (all k x (slice_get_within xs k x is))

-- what is pushed and not refused is for the site
push_for : (plan : PlanData) (sent : List Message) (step site message : ℕ) (o : Option Message) → slice_get sent message ≡ o
    → All (IsMessageOf (count_of plan)) sent → push_refusal step site o ≡ None → IfSome o (IsFor plan site)
push_for plan sent step site message None is formed unrefused = tt
push_for plan sent step site message (Some m) is formed unrefused = record {
  message = all_at (IsMessageOf (count_of plan)) sent message m formed is;
  here = for_site (nat_eq m.to site) refl unrefused;
}
  where
    for_site : (b : Bool) → nat_eq m.to site ≡ b → (if b then None else Some (NotForSite step)) ≡ None → m.to ≡ site
    for_site true same h = eqb-true m.to site same
    for_site false same h = absurd (cc)

input_taken : (plan : PlanData) (sent : List Message) (step site : ℕ) (i : Planned) → All (IsMessageOf (count_of plan)) sent → IsInput plan site i
    → input_refusal sent step site i ≡ None → CanTake plan site sent i
input_taken plan sent step site (Get key) formed is unrefused = is
input_taken plan sent step site (Status id) formed is unrefused = is
input_taken plan sent step site (Request at reads puts) formed is unrefused = is
input_taken plan sent step site (Pull at to) formed is unrefused = is
input_taken plan sent step site (Push at message) formed is unrefused = push_for plan sent step site message (slice_get sent message) refl formed unrefused

pub inputs_taken : (plan : PlanData) (sent : List Message) (step site : ℕ) (inputs : List Planned) → All (IsMessageOf (count_of plan)) sent → All (IsInput plan site) inputs
    → inputs_refusal sent step site inputs ≡ None → All (CanTake plan site sent) inputs
inputs_taken plan sent step site [] formed are unrefused = All-nil (CanTake plan site sent)
inputs_taken plan sent step site (i ∷ is) formed are unrefused =
    let both = or_none (input_refusal sent step site i) (inputs_refusal sent step site is) unrefused in
    All-cons (CanTake plan site sent) i is (input_taken plan sent step site i formed (are 0 i (omega arith)) both.0)
    (inputs_taken plan sent step site is formed (λ k d low. are (suc k) d (omega arith)) both.1)

-- what may be asked may be written
input_written : (plan : PlanData) (site : ℕ) (i : Input) → MayBeAsked plan site i → MayBeWrittenInput i
input_written plan site (inputs.Get key) h = tt
input_written plan site (inputs.Status id) h = tt
input_written plan site (inputs.Request ask) h = tt
input_written plan site (inputs.Pull to) h = tt
input_written plan site (inputs.Push m) h = h.message.spellable

pub asked_written : (plan : PlanData) (site : ℕ) (entries : List Entry) → AreAsked plan site entries → All MayBeWritten entries
asked_written plan site [] asked = All-nil MayBeWritten
asked_written plan site (e ∷ es) asked =
    All-cons MayBeWritten e es (input_written plan site e.input (asked 0 e (omega arith))) (asked_written plan site es (λ k d low. asked (suc k) d (omega arith)))
