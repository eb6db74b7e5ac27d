-- Each message that was sent is for one of the plan's sites.
use Rattle.std.proofs.Common.{sym, subst, ℕ, ◌<◌, Bool, true, false, ◌&&◌, Option, Some, None, List, [], ◌∷◌, All}
use Rattle.std.specs.List.{cons_option}
use Rattle.std.proofs.lemmas.List.Elements.{All-nil, All-cons, All-head, All-tail, All-append}
use Rattle.helios_model.specs.declared.entries.Entry.{Entry}
use Rattle.helios_model.specs.declared.entries.Input.{Input}
use Rattle.helios_model.specs.declared.entries.Input.TheVariants.{Get, Status, Request, Pull, Push}
use Rattle.helios_model.specs.declared.messages.Message.{Message}
use Rattle.helios_model.specs.Plans.{PlanData, count_of}
use Rattle.helios_model.specs.Node.{Node, is_spent}
use Rattle.helios_model.specs.Request.{asked, next_id, refusal}
use Rattle.helios_model.specs.Messages.{advanced, message_to}
use Rattle.helios_model.specs.Step.{MayBeAsked, after_entry, by_clock, is_journaled, step}
use Rattle.helios_model.specs.World.{World, Event, MayHappen, happens, message_in, messages_in, node_of, replies}
use Rattle.helios_model.specs.World.Event.{Batch, Restart}
use Rattle.helios_model.specs.World.Ending.{Done, Kept, Lost}
use Rattle.protocol_laws.specs.Reached.{InEachWorld}
use Rattle.protocol_laws.proofs.JournalLaws.{in_each}
use Rattle.protocol_laws.proofs.Inputs.{refusal_silent, request_silent}

abbrev pub AreForSites : PlanData → List Message → Type 0
AreForSites plan messages = All (λ m. m.to < count_of plan) messages

reply_sites : (plan : PlanData) (site : ℕ) (n : Node) (reading : ℕ) (input : Input) (spent : Bool) → MayBeAsked plan site input
    → AreForSites plan (cons_option (message_in (by_clock plan n reading input spent).reply) [])
reply_sites plan site n reading input true may = All-nil (λ m. m.to < count_of plan)
reply_sites plan site n reading (Get key) false may = All-nil (λ m. m.to < count_of plan)
reply_sites plan site n reading (Status id) false may = All-nil (λ m. m.to < count_of plan)
reply_sites plan site n reading (Request ask) false may =
    subst (λ o. AreForSites plan (cons_option o []))
    (sym (request_silent plan n (asked n.log (next_id plan n reading) ask) (refusal n ask) (refusal_silent n ask)))
    (All-nil (λ m. m.to < count_of plan))
reply_sites plan site n reading (Pull to) false may =
    All-cons (λ m. m.to < count_of plan) (message_to plan (advanced plan n reading) to) [] may.below (All-nil (λ m. m.to < count_of plan))
reply_sites plan site n reading (Push m) false may = All-nil (λ m. m.to < count_of plan)

one_more : (plan : PlanData) (o : Option Message) (messages : List Message) → AreForSites plan (cons_option o []) → AreForSites plan messages
    → AreForSites plan (cons_option o messages)
one_more plan None messages first rest = rest
one_more plan (Some m) messages first rest = All-cons (λ x. x.to < count_of plan) m messages (All-head (λ x. x.to < count_of plan) m [] first) rest

replies_sites : (plan : PlanData) (site : ℕ) (n : Node) (es : List Entry) → All (λ e. MayBeAsked plan site e.input) es
    → AreForSites plan (messages_in (replies plan n es))
replies_sites plan site n [] may = All-nil (λ m. m.to < count_of plan)
replies_sites plan site n (e ∷ es) may =
    one_more plan (message_in (step plan n e).reply) (messages_in (replies plan (after_entry plan n e) es))
    (reply_sites plan site n e.reading e.input (is_journaled e.input && is_spent plan n) (All-head (λ x. MayBeAsked plan site x.input) e es may))
    (replies_sites plan site (after_entry plan n e) es (All-tail (λ x. MayBeAsked plan site x.input) e es may))

sent_happens : (plan : PlanData) (w : World) (e : Event) → AreForSites plan w.sent → MayHappen plan w e → AreForSites plan (happens plan w e).sent
sent_happens plan w (Batch site entries Done) h may =
    All-append (λ m. m.to < count_of plan) w.sent (messages_in (replies plan (node_of plan w site) entries)) h
    (replies_sites plan site (node_of plan w site) entries may.each)
sent_happens plan w (Batch site entries Kept) h may = h
sent_happens plan w (Batch site entries Lost) h may = h
sent_happens plan w (Restart site) h may = h

pub sent_to_sites : InEachWorld (λ plan w. AreForSites plan w.sent)
sent_to_sites plan events may =
    in_each plan (λ w. AreForSites plan w.sent) (All-nil (λ m. m.to < count_of plan)) (λ w e journals happens_so h. sent_happens plan w e h happens_so) events may
