-- The bodies of answers: what was written is read again, and what was read has a spelling.
use Rattle.std.proofs.Common.{◌≡◌, ℕ, zero, suc, ◌≤◌, false, nat_lt, List, [], ◌∷◌, ◌++◌, Result, Ok, refl, sym, ap, subst, ◌∙◌, append_assoc, arith}
use Rattle.std.proofs.lemmas.Bool.{lt-ltb, ltb-true}
use Rattle.helios_model.specs.declared.entries.Reply.{Reply}
use Rattle.helios_model.specs.declared.entries.Reply.TheVariants.{Prepared, Committed, Overwritten, Conflict, Value, State as StateReply, Sent, Taken, ClockSpent, PoolFull}
use Rattle.helios_model.specs.declared.entries.State.{State}
use Rattle.helios_model.specs.declared.entries.State.TheVariants.{Pending, Committed as StateCommitted, Aborted, Unknown}
use Rattle.helios_model.specs.declared.ids.TxnId.{TxnId}
use Rattle.helios_model.specs.declared.ids.Version.{Version}
use Rattle.helios_model.specs.Limits.{most_sites}
use Rattle.helios_model.specs.Spellable.{IsSpellableId, IsSpellableMessage, IsSpellableReply, IsSpellableState, IsSpellableVersion}
use Rattle.helios_model.specs.Texts.{IsKey, IsValue}
use Rattle.log_records.specs.declared.faults.DecodeFault.{DecodeFault}
use Rattle.log_records.specs.Fields.{◌>>=◌, byte_at, is_within}
use Rattle.log_records.specs.Ids.{id_at, id_bytes, version_at, version_bytes}
use Rattle.log_records.specs.Keys.{key_at, key_bytes, value_at, value_bytes}
use Rattle.log_records.specs.Messages.{message_at, message_bytes}
use Rattle.link_codec.specs.declared.answers.Answer.{Answer}
use Rattle.link_codec.specs.declared.answers.Answer.TheVariants.{Welcome, Reply as ReplyAnswer, Refuse}
use Rattle.link_codec.specs.AnswerReading.{aborted_at, answer_at, committed_at, conflict_at, known_at, overwritten_at, prepared_at, refuse_at, reply_at, reply_behind, sent_at, state_at, state_behind, stored_at, told_at, welcome_at}
use Rattle.link_codec.specs.Answers.{IsSpellableAnswer, answer_body, answer_kind, reply_bytes, state_bytes}
use Rattle.link_codec.proofs.Again.{byte_again, id_again, key_again, value_again, version_again, within_true}
use Rattle.link_codec.proofs.FrameBodies.{made_of}
use Rattle.link_codec.proofs.Moves.{IsReadAgain, IsSpelled}
use Rattle.link_codec.proofs.Steps.{bind_ok, ok_is, within}
use Rattle.link_codec.proofs.Taken.{AreBytes, Begins-then, all_small, are_small, byte_taken, id_taken, key_taken, value_taken, version_taken}
use Rattle.link_codec.proofs.WholeBodies.{BodiesAgain, BodiesSpelled}

-- ---- what was written

state_again : (state : State) (rest : List ℕ) → IsSpellableState state → state_at (state_bytes state ++ rest) ≡ Ok (state, rest)
unfolding state_at state_behind aborted_at
state_again Pending rest h = rw (byte_again (is_within 0 3) 0 rest 0 refl) refl
state_again StateCommitted rest h = rw (byte_again (is_within 0 3) 1 rest 0 refl) refl
state_again (Aborted cause) rest h = rw (byte_again (is_within 0 3) 2 (id_bytes cause ++ rest) 0 refl, id_again cause rest h) refl
state_again Unknown rest h = rw (byte_again (is_within 0 3) 3 rest 0 refl) refl

overwritten_again : (key : List ℕ) (current : Version) (rest : List ℕ) → IsKey key → IsSpellableVersion current → overwritten_at ((key_bytes key ++ version_bytes current) ++ rest) ≡ Ok (Overwritten key current, rest)
unfolding overwritten_at
overwritten_again key current rest h g =
    ap overwritten_at (append_assoc (key_bytes key) (version_bytes current) rest) ∙ rw (key_again key (version_bytes current ++ rest) h, version_again current rest g) refl

stored_again : (version : Version) (value rest : List ℕ) → IsSpellableVersion version → IsValue value → stored_at ((version_bytes version ++ value_bytes value) ++ rest) ≡ Ok (Value version value, rest)
unfolding stored_at
stored_again version value rest h g =
    ap stored_at (append_assoc (version_bytes version) (value_bytes value) rest) ∙ rw (version_again version (value_bytes value ++ rest) h, value_again value rest g) refl

module _ (messages : IsReadAgain message_bytes IsSpellableMessage message_at) where
  reply_again : (reply : Reply) (rest : List ℕ) → IsSpellableReply reply → reply_at (reply_bytes reply ++ rest) ≡ Ok (reply, rest)
  unfolding reply_at reply_behind prepared_at committed_at conflict_at known_at sent_at
  reply_again (Prepared id) rest h = rw (byte_again (is_within 1 10) 1 (id_bytes id ++ rest) 0 refl, id_again id rest h) refl
  reply_again (Committed id) rest h = rw (byte_again (is_within 1 10) 2 (id_bytes id ++ rest) 0 refl, id_again id rest h) refl
  reply_again (Overwritten key current) rest h = rw (byte_again (is_within 1 10) 3 ((key_bytes key ++ version_bytes current) ++ rest) 0 refl) (overwritten_again key current rest h.0 h.1)
  reply_again (Conflict id) rest h = rw (byte_again (is_within 1 10) 4 (id_bytes id ++ rest) 0 refl, id_again id rest h) refl
  reply_again (Value version value) rest h = rw (byte_again (is_within 1 10) 5 ((version_bytes version ++ value_bytes value) ++ rest) 0 refl) (stored_again version value rest h.0 h.1)
  reply_again (StateReply state) rest h = rw (byte_again (is_within 1 10) 6 (state_bytes state ++ rest) 0 refl, state_again state rest h) refl
  reply_again (Sent m) rest h = rw (byte_again (is_within 1 10) 7 (message_bytes m ++ rest) 0 refl, messages 0 m rest h) refl
  reply_again Taken rest h = rw (byte_again (is_within 1 10) 8 rest 0 refl) refl
  reply_again ClockSpent rest h = rw (byte_again (is_within 1 10) 9 rest 0 refl) refl
  reply_again PoolFull rest h = rw (byte_again (is_within 1 10) 10 rest 0 refl) refl

  pub answers_again : BodiesAgain answer_kind answer_body IsSpellableAnswer answer_at
  unfolding answer_at welcome_at told_at refuse_at
  answers_again (Welcome site) rest h = rw (byte_again (λ b. nat_lt b most_sites) site rest 0 (lt-ltb site most_sites h)) refl
  answers_again (ReplyAnswer reply) rest h = rw (reply_again reply rest h) refl
  answers_again (Refuse code) rest h = rw (byte_again (is_within 1 7) code rest 0 (within_true 1 7 code h.0 h.1)) refl

-- ---- what was read

-- what stands behind a kind is what a state of this kind names
abbrev IsState : ℕ → List ℕ → State × List ℕ → Type 0
IsState kind bytes y = (kind ∷ bytes ≡ state_bytes y.0 ++ y.1) × IsSpellableState y.0

state_behind_taken : (kind : ℕ) (bytes : List ℕ) (y : State × List ℕ) → AreBytes bytes → kind ≤ 3 → state_behind kind bytes ≡ Ok y → IsState kind bytes y
unfolding state_behind aborted_at
state_behind_taken zero bytes y small most e = let made : State × List ℕ = (Pending, bytes) in subst (IsState 0 bytes) (ok_is made y e) (refl, tt)
state_behind_taken (suc zero) bytes y small most e = let made : State × List ℕ = (StateCommitted, bytes) in subst (IsState 1 bytes) (ok_is made y e) (refl, tt)
state_behind_taken (suc (suc zero)) bytes y small most e =
    made_of (IsState 2 bytes) (id_at most_sites 0 bytes) (λ id. Aborted id) y e (λ a read. let t = id_taken bytes a small read in (ap (λ (xs : List ℕ). 2 ∷ xs) t.0.parts, t.1))
state_behind_taken (suc (suc (suc zero))) bytes y small most e = let made : State × List ℕ = (Unknown, bytes) in subst (IsState 3 bytes) (ok_is made y e) (refl, tt)
state_behind_taken (suc (suc (suc (suc kind)))) bytes y small most e = absurd (omega (arith, most))

state_taken : (bytes : List ℕ) (y : State × List ℕ) → AreBytes bytes → state_at bytes ≡ Ok y → (bytes ≡ state_bytes y.0 ++ y.1) × IsSpellableState y.0
unfolding state_at
state_taken bytes y small e =
    let a = bind_ok (byte_at (is_within 0 3) 0 bytes) (λ kind. state_behind kind.0 kind.1) y e in
    let k = byte_taken (is_within 0 3) bytes a.0 small a.1 in
    let t = state_behind_taken a.0.0 a.0.1 y k.0.left (within 0 3 a.0.0 k.1).1 a.2 in
    (k.0.parts ∙ t.0, t.1)

-- the same of a reply
abbrev IsReply : ℕ → List ℕ → Reply × List ℕ → Type 0
IsReply kind bytes y = (kind ∷ bytes ≡ reply_bytes y.0 ++ y.1) × IsSpellableReply y.0

-- a reply that names a transaction
named : (kind : ℕ) (make : TxnId → Reply) (bytes : List ℕ) (y : Reply × List ℕ) → ((id : TxnId) → (reply_bytes (make id) ≡ kind ∷ id_bytes id) × (IsSpellableId most_sites id → IsSpellableReply (make id))) → AreBytes bytes
    → (id_at most_sites 0 bytes >>= (λ id. Ok (make id.0, id.1))) ≡ Ok y → IsReply kind bytes y
named kind make bytes y is small e =
    made_of (IsReply kind bytes) (id_at most_sites 0 bytes) make y e (λ a read.
    let t = id_taken bytes a small read in (ap (λ (xs : List ℕ). kind ∷ xs) t.0.parts ∙ ap (λ (xs : List ℕ). xs ++ a.1) (sym (is a.0).0), (is a.0).1 t.1))

prepared_taken : (bytes : List ℕ) (y : Reply × List ℕ) → AreBytes bytes → prepared_at bytes ≡ Ok y → IsReply 1 bytes y
unfolding prepared_at
prepared_taken bytes y small e = named 1 (λ id. Prepared id) bytes y (λ id. (refl, λ h. h)) small e

committed_taken : (bytes : List ℕ) (y : Reply × List ℕ) → AreBytes bytes → committed_at bytes ≡ Ok y → IsReply 2 bytes y
unfolding committed_at
committed_taken bytes y small e = named 2 (λ id. Committed id) bytes y (λ id. (refl, λ h. h)) small e

conflict_taken : (bytes : List ℕ) (y : Reply × List ℕ) → AreBytes bytes → conflict_at bytes ≡ Ok y → IsReply 4 bytes y
unfolding conflict_at
conflict_taken bytes y small e = named 4 (λ id. Conflict id) bytes y (λ id. (refl, λ h. h)) small e

overwritten_taken : (bytes : List ℕ) (y : Reply × List ℕ) → AreBytes bytes → overwritten_at bytes ≡ Ok y → IsReply 3 bytes y
unfolding overwritten_at
overwritten_taken bytes y small e =
    let a = bind_ok (key_at (λ key. false) 0 bytes) (λ key. version_at 0 key.1 >>= λ current. Ok (Overwritten key.0 current.0, current.1)) y e in
    let k = key_taken bytes a.0 small a.1 in
    made_of (IsReply 3 bytes) (version_at 0 a.0.1) (λ current. Overwritten a.0.0 current) y a.2 (λ b read.
    let v = version_taken a.0.1 b k.0.left read in
    (ap (λ (xs : List ℕ). 3 ∷ xs) (Begins-then bytes (key_bytes a.0.0) a.0.1 (version_bytes b.0) b.1 k.0 v.0).parts, (k.1, v.1)))

stored_taken : (bytes : List ℕ) (y : Reply × List ℕ) → AreBytes bytes → stored_at bytes ≡ Ok y → IsReply 5 bytes y
unfolding stored_at
stored_taken bytes y small e =
    let a = bind_ok (version_at 0 bytes) (λ version. value_at 0 version.1 >>= λ value. Ok (Value version.0 value.0, value.1)) y e in
    let v = version_taken bytes a.0 small a.1 in
    made_of (IsReply 5 bytes) (value_at 0 a.0.1) (λ value. Value a.0.0 value) y a.2 (λ b read.
    let w = value_taken a.0.1 b v.0.left read in
    (ap (λ (xs : List ℕ). 5 ∷ xs) (Begins-then bytes (version_bytes a.0.0) a.0.1 (value_bytes b.0) b.1 v.0 w.0).parts, (v.1, w.1)))

known_taken : (bytes : List ℕ) (y : Reply × List ℕ) → AreBytes bytes → known_at bytes ≡ Ok y → IsReply 6 bytes y
unfolding known_at
known_taken bytes y small e = made_of (IsReply 6 bytes) (state_at bytes) (λ state. StateReply state) y e (λ a read. let t = state_taken bytes a small read in (ap (λ (xs : List ℕ). 6 ∷ xs) t.0, t.1))

abbrev just : Reply → List ℕ → Result (Reply × List ℕ) DecodeFault
just reply bytes = Ok (reply, bytes)

-- a reply that names nothing
bare : (kind : ℕ) (reply : Reply) (bytes : List ℕ) (y : Reply × List ℕ) → reply_bytes reply ≡ kind ∷ [] → IsSpellableReply reply → just reply bytes ≡ Ok y → IsReply kind bytes y
bare kind reply bytes y is h e =
    let made : Reply × List ℕ = (reply, bytes) in
    subst (IsReply kind bytes) (ok_is made y e) (ap (λ (xs : List ℕ). xs ++ bytes) (sym is), h)

-- an answer of this kind whose body begins the bytes
abbrev IsTaken : ℕ → List ℕ → Answer × List ℕ → Type 0
IsTaken kind bytes y = IsSpellableAnswer y.0 × (answer_kind y.0 ≡ kind) × (bytes ≡ answer_body y.0 ++ y.1)

welcome_taken : (bytes : List ℕ) (y : Answer × List ℕ) → AreBytes bytes → welcome_at bytes ≡ Ok y → IsTaken 1 bytes y
unfolding welcome_at
welcome_taken bytes y small e =
    made_of (IsTaken 1 bytes) (byte_at (λ b. nat_lt b most_sites) 0 bytes) (λ site. Welcome site) y e (λ a read. let t = byte_taken (λ b. nat_lt b most_sites) bytes a small read in (ltb-true a.0 most_sites t.1, refl, t.0.parts))

refuse_taken : (bytes : List ℕ) (y : Answer × List ℕ) → AreBytes bytes → refuse_at bytes ≡ Ok y → IsTaken 3 bytes y
unfolding refuse_at
refuse_taken bytes y small e =
    made_of (IsTaken 3 bytes) (byte_at (is_within 1 7) 0 bytes) (λ code. Refuse code) y e (λ a read. let t = byte_taken (is_within 1 7) bytes a small read in (within 1 7 a.0 t.1, refl, t.0.parts))

module _ (messages : IsSpelled message_bytes IsSpellableMessage message_at) where
  sent_taken : (bytes : List ℕ) (y : Reply × List ℕ) → AreBytes bytes → sent_at bytes ≡ Ok y → IsReply 7 bytes y
  unfolding sent_at
  sent_taken bytes y small e =
      made_of (IsReply 7 bytes) (message_at 0 bytes) (λ m. Sent m) y e (λ a read. let t = messages 0 bytes a.0 a.1 (all_small bytes small) read in (ap (λ (xs : List ℕ). 7 ∷ xs) t.1, t.0))

  reply_behind_taken : (kind : ℕ) (bytes : List ℕ) (y : Reply × List ℕ) → AreBytes bytes → 1 ≤ kind → kind ≤ 10 → reply_behind kind bytes ≡ Ok y → IsReply kind bytes y
  unfolding reply_behind
  reply_behind_taken zero bytes y small low high e = absurd (omega (arith, low))
  reply_behind_taken (suc zero) bytes y small low high e = prepared_taken bytes y small e
  reply_behind_taken (suc (suc zero)) bytes y small low high e = committed_taken bytes y small e
  reply_behind_taken (suc (suc (suc zero))) bytes y small low high e = overwritten_taken bytes y small e
  reply_behind_taken (suc (suc (suc (suc zero)))) bytes y small low high e = conflict_taken bytes y small e
  reply_behind_taken (suc (suc (suc (suc (suc zero))))) bytes y small low high e = stored_taken bytes y small e
  reply_behind_taken (suc (suc (suc (suc (suc (suc zero)))))) bytes y small low high e = known_taken bytes y small e
  reply_behind_taken (suc (suc (suc (suc (suc (suc (suc zero))))))) bytes y small low high e = sent_taken bytes y small e
  reply_behind_taken (suc (suc (suc (suc (suc (suc (suc (suc zero)))))))) bytes y small low high e = bare 8 Taken bytes y refl tt e
  reply_behind_taken (suc (suc (suc (suc (suc (suc (suc (suc (suc zero))))))))) bytes y small low high e = bare 9 ClockSpent bytes y refl tt e
  reply_behind_taken (suc (suc (suc (suc (suc (suc (suc (suc (suc (suc zero)))))))))) bytes y small low high e = bare 10 PoolFull bytes y refl tt e
  reply_behind_taken (suc (suc (suc (suc (suc (suc (suc (suc (suc (suc (suc kind))))))))))) bytes y small low high e = absurd (omega (arith, high))

  told_taken : (bytes : List ℕ) (y : Answer × List ℕ) → AreBytes bytes → told_at bytes ≡ Ok y → IsTaken 2 bytes y
  unfolding told_at reply_at
  told_taken bytes y small e =
      made_of (IsTaken 2 bytes) (reply_at bytes) (λ reply. ReplyAnswer reply) y e (λ r read.
      let a = bind_ok (byte_at (is_within 1 10) 0 bytes) (λ kind. reply_behind kind.0 kind.1) r read in
      let k = byte_taken (is_within 1 10) bytes a.0 small a.1 in
      let lim = within 1 10 a.0.0 k.1 in
      let t = reply_behind_taken a.0.0 a.0.1 r k.0.left lim.0 lim.1 a.2 in
      (t.1, refl, k.0.parts ∙ t.0))

  answer_taken : (kind : ℕ) (bytes : List ℕ) (y : Answer × List ℕ) → AreBytes bytes → 1 ≤ kind → kind ≤ 3 → answer_at kind bytes ≡ Ok y → IsTaken kind bytes y
  unfolding answer_at
  answer_taken zero bytes y small low high e = absurd (omega (arith, low))
  answer_taken (suc zero) bytes y small low high e = welcome_taken bytes y small e
  answer_taken (suc (suc zero)) bytes y small low high e = told_taken bytes y small e
  answer_taken (suc (suc (suc zero))) bytes y small low high e = refuse_taken bytes y small e
  answer_taken (suc (suc (suc (suc kind)))) bytes y small low high e = absurd (omega (arith, high))

  pub answers_spelled : BodiesSpelled answer_kind answer_body IsSpellableAnswer 3 answer_at
  answers_spelled kind bytes a rest small low high e = answer_taken kind bytes (a, rest) (are_small bytes small) low high e
