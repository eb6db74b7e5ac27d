-- Each rule's answer, from what its calls make of the parts.
use Rattle.std.proofs.Common.{◌≡◌, ◌∙◌, ap, sym, ℕ, Bool, false, cond, ◌&&◌, Option, Some, None, find}
use Rattle.std.specs.Prelude.{IfOk, Result, Ok, Err}
use Rattle.std.specs.Option.{option_map, option_or}
use Rattle.helios_model.specs.declared.entries.Entry.{Entry}
use Rattle.helios_model.specs.declared.entries.Input.{Input}
use Rattle.helios_model.specs.declared.entries.Input.TheVariants.{Pull, Push}
use Rattle.helios_model.specs.declared.entries.Reply.{Reply}
use Rattle.helios_model.specs.declared.entries.Reply.TheVariants.{Committed, Conflict, Prepared, Sent, Taken}
use Rattle.helios_model.specs.declared.ids.TxnId.{TxnId}
use Rattle.helios_model.specs.declared.messages.Message.{Message}
use Rattle.helios_model.specs.Exchange.{is_unfinished}
use Rattle.helios_model.specs.Log.{unfinished}
use Rattle.helios_model.specs.Messages.{advanced, message_to, push}
use Rattle.helios_model.specs.Node.{is_spent}
use Rattle.helios_model.specs.Request.{accept, asked, clash_refusal, entered, next_id, request, room_refusal, stale_refusal, unless_refused}
use Rattle.helios_model.specs.Settle.{settle}
use Rattle.helios_model.specs.Step.{by_clock, is_journaled, step}
use Rattle.helios_model.specs.Transactions.{Asking, Transaction, conflict}
use Rattle.site_ledger.specs.Ledger.{Base, log_in}
use Rattle.site_node.specs.Node.{BecomesAt, IsNodeOf, SiteData, node_in}
use Rattle.commit_rules.specs.Answers.{AnswersAt}
use Rattle.commit_rules.proofs.Asked.{asked_clash, refusal_parts}
use Rattle.commit_rules.proofs.Taken.{accepted}

-- what follows from the value of an Ok
pub of_ok : {T E : Type 0} (r : Result T E) (P Q : T → Type 0) → ((x : T) → P x → Q x) → IfOk r P → IfOk r Q
of_ok (Ok x) P Q so h = so x h
of_ok (Err e) P Q so h = tt

module _ (b : Base) (s after : SiteData) where
  -- a message that the site made
  pub pulled_at : (reading to : ℕ) (message : Message) → is_spent s.plan (node_in b s) ≡ false → BecomesAt b s after (λ n. advanced s.plan n reading)
      → message ≡ message_to s.plan (advanced s.plan (node_in b s) reading) to → AnswersAt b s after (Sent message) (λ n. by_clock s.plan n reading (Pull to) (is_spent s.plan n))
  pulled_at reading to message time h told = record {
    stands = h.stands;
    answer =
        ap (by_clock s.plan (node_in b s) reading (Pull to)) time
        ∙ ap (λ m. record { reply = Sent m; node = advanced s.plan (node_in b s) reading }) (sym told)
        ∙ ap (λ n. record { reply = Sent message; node = n }) (sym h.node);
  }

  -- a message that the site took
  pub pushed_at : (reading : ℕ) (m : Message) → is_spent s.plan (node_in b s) ≡ false → BecomesAt b s after (λ n. (push s.plan n reading m).node)
      → AnswersAt b s after Taken (λ n. by_clock s.plan n reading (Push m) (is_spent s.plan n))
  pushed_at reading m time h = record {
    stands = h.stands;
    answer = ap (by_clock s.plan (node_in b s) reading (Push m)) time ∙ ap (λ n. record { reply = Taken; node = n }) (sym h.node);
  }

  -- the answer to an entry is that to its input
  pub entry_at : (reply : Reply) (entry : Entry) (input : Input) → entry.input ≡ input
      → AnswersAt b s after reply (λ n. by_clock s.plan n entry.reading input (is_journaled input && is_spent s.plan n)) → AnswersAt b s after reply (λ n. step s.plan n entry)
  entry_at reply entry input is h = record {
    stands = h.stands;
    answer = ap (λ i. by_clock s.plan (node_in b s) entry.reading i (is_journaled i && is_spent s.plan (node_in b s))) is ∙ h.answer;
  }

  -- a request that was taken
  pub taken_at : (p : Transaction) (id : TxnId) (open_one : Bool) → BecomesAt b s after (λ n. settle s.plan (entered s.plan n p)) → id ≡ p.id
      → is_unfinished (log_in b after.ledger) id ≡ open_one → AnswersAt b s after (cond open_one (Prepared id) (Committed id)) (λ n. accept s.plan n p)
  taken_at p id open_one h named look = record { stands = h.stands; answer = accepted s.plan (node_in b s) (node_in b after) p id open_one h.node named look }

  -- a request that no early rule refuses and no unfinished transaction stands against
  pub unopposed_at : (reading : ℕ) (ask : Asking) (p : Transaction) (reply : Reply) → p ≡ asked (log_in b s.ledger) (next_id s.plan (node_in b s) reading) ask
      → None ≡ option_map (λ q. q.id) (find (conflict p) (unfinished (log_in b s.ledger))) → AnswersAt b s after reply (λ n. accept s.plan n p)
      → AnswersAt b s after reply (λ n. unless_refused s.plan n (asked n.log (next_id s.plan n reading) ask) (clash_refusal n.log ask))
  unopposed_at reading ask p reply made none h =
      let id : TxnId = next_id s.plan (node_in b s) reading in
      record {
        stands = h.stands;
        answer =
            ap (unless_refused s.plan (node_in b s) (asked (log_in b s.ledger) id ask)) (asked_clash (log_in b s.ledger) id ask p None made none)
            ∙ ap (accept s.plan (node_in b s)) (sym made)
            ∙ h.answer;
      }

  -- a request that no early rule refuses
  pub unrefused_at : (reading : ℕ) (ask : Asking) (reply : Reply) (early : Option Reply) → early ≡ None
      → early ≡ option_or (room_refusal (node_in b s)) (stale_refusal (log_in b s.ledger) ask)
      → AnswersAt b s after reply (λ n. unless_refused s.plan n (asked n.log (next_id s.plan n reading) ask) (clash_refusal n.log ask))
      → AnswersAt b s after reply (λ n. request s.plan n reading ask)
  unrefused_at reading ask reply early none is h = record {
    stands = h.stands;
    answer =
        ap (unless_refused s.plan (node_in b s) (asked (log_in b s.ledger) (next_id s.plan (node_in b s) reading) ask))
        (refusal_parts (node_in b s) ask ∙ ap (λ o. option_or o (clash_refusal (log_in b s.ledger) ask)) (sym is ∙ none))
        ∙ h.answer;
  }

-- a request that an unfinished transaction stands against
pub opposed_at : (b : Base) (s : SiteData) (reading : ℕ) (ask : Asking) (p : Transaction) (id : TxnId) → IsNodeOf b s
    → p ≡ asked (log_in b s.ledger) (next_id s.plan (node_in b s) reading) ask
    → Some id ≡ option_map (λ q. q.id) (find (conflict p) (unfinished (log_in b s.ledger)))
    → AnswersAt b s s (Conflict id) (λ n. unless_refused s.plan n (asked n.log (next_id s.plan n reading) ask) (clash_refusal n.log ask))
opposed_at b s reading ask p id is made found = record {
  stands = is;
  answer =
      ap (unless_refused s.plan (node_in b s) (asked (log_in b s.ledger) (next_id s.plan (node_in b s) reading) ask))
      (asked_clash (log_in b s.ledger) (next_id s.plan (node_in b s) reading) ask p (Some id) made found);
}
