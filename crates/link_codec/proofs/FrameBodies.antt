-- The bodies of frames: what was written is read again, and what was read has a spelling.
use Rattle.std.proofs.Common.{◌≡◌, ℕ, zero, suc, ◌≤◌, true, false, nat_lt, List, ◌++◌, Result, Ok, refl, subst, arith}
use Rattle.std.proofs.lemmas.Bool.{lt-ltb, ltb-true}
use Rattle.helios_model.specs.Limits.{most_sites}
use Rattle.helios_model.specs.Spellable.{IsSpellableAsk, IsSpellableMessage}
use Rattle.log_records.specs.declared.faults.DecodeFault.{DecodeFault}
use Rattle.log_records.specs.Entries.{ask_at, ask_bytes}
use Rattle.log_records.specs.Fields.{◌>>=◌, byte_at, text_at}
use Rattle.log_records.specs.Ids.{id_at}
use Rattle.log_records.specs.Keys.{key_at}
use Rattle.log_records.specs.Messages.{message_at, message_bytes}
use Rattle.link_codec.specs.declared.frames.Frame.{Frame}
use Rattle.link_codec.specs.declared.frames.Frame.TheVariants.{Hello, Get, Status, Request, Pull, Push, Flush}
use Rattle.link_codec.specs.FrameReading.{frame_at, get_at, hello_at, pull_at, push_at, request_at, status_at}
use Rattle.link_codec.specs.Frames.{IsSpellableFrame, frame_body, frame_kind}
use Rattle.link_codec.proofs.Again.{byte_again, id_again, key_again, text_of}
use Rattle.link_codec.proofs.WholeBodies.{BodiesAgain, BodiesSpelled}
use Rattle.link_codec.proofs.Moves.{IsReadAgain, IsSpelled}
use Rattle.link_codec.proofs.Steps.{bind_ok, ok_is}
use Rattle.link_codec.proofs.Taken.{AreBytes, all_small, are_small, byte_taken, id_taken, key_taken, text_taken}

pub frames_again : IsReadAgain ask_bytes IsSpellableAsk ask_at → IsReadAgain message_bytes IsSpellableMessage message_at → BodiesAgain frame_kind frame_body IsSpellableFrame frame_at
unfolding frame_at hello_at get_at status_at request_at pull_at push_at
frames_again asks messages (Hello fingerprint) rest h = rw (text_of 32 fingerprint rest h) refl
frames_again asks messages (Get key) rest h = rw (key_again key rest h) refl
frames_again asks messages (Status id) rest h = rw (id_again id rest h) refl
frames_again asks messages (Request ask) rest h = rw (asks 0 ask rest h) refl
frames_again asks messages (Pull to) rest h = rw (byte_again (λ b. nat_lt b most_sites) to rest 0 (lt-ltb to most_sites h)) refl
frames_again asks messages (Push m) rest h = rw (messages 0 m rest h) refl
frames_again asks messages Flush rest h = refl

-- a value made of one field that was taken
pub made_of : {A X : Type 0} (P : X × List ℕ → Type 0) (r : Result (A × List ℕ) DecodeFault) (make : A → X) (y : X × List ℕ) → (r >>= (λ a. Ok (make a.0, a.1))) ≡ Ok y → ((a : A × List ℕ) → r ≡ Ok a → P (make a.0, a.1)) → P y
made_of {A} {X} P r make y e shows =
    let a = bind_ok r (λ a. Ok (make a.0, a.1)) y e in
    let made : X × List ℕ = (make a.0.0, a.0.1) in
    subst P (ok_is made y a.2) (shows a.0 a.1)

-- a frame of this kind whose body begins the bytes
abbrev IsTaken : ℕ → List ℕ → Frame × List ℕ → Type 0
IsTaken kind bytes y = IsSpellableFrame y.0 × (frame_kind y.0 ≡ kind) × (bytes ≡ frame_body y.0 ++ y.1)

hello_taken : (bytes : List ℕ) (y : Frame × List ℕ) → AreBytes bytes → hello_at bytes ≡ Ok y → IsTaken 1 bytes y
unfolding hello_at
hello_taken bytes y small e =
    made_of (IsTaken 1 bytes) (text_at (λ text. true) 32 0 bytes) (λ text. Hello text) y e (λ a read. let t = text_taken (λ text. true) 32 bytes a small read in (t.long, refl, t.begins.parts))

get_taken : (bytes : List ℕ) (y : Frame × List ℕ) → AreBytes bytes → get_at bytes ≡ Ok y → IsTaken 2 bytes y
unfolding get_at
get_taken bytes y small e = made_of (IsTaken 2 bytes) (key_at (λ key. false) 0 bytes) (λ key. Get key) y e (λ a read. let t = key_taken bytes a small read in (t.1, refl, t.0.parts))

status_taken : (bytes : List ℕ) (y : Frame × List ℕ) → AreBytes bytes → status_at bytes ≡ Ok y → IsTaken 3 bytes y
unfolding status_at
status_taken bytes y small e = made_of (IsTaken 3 bytes) (id_at most_sites 0 bytes) (λ id. Status id) y e (λ a read. let t = id_taken bytes a small read in (t.1, refl, t.0.parts))

request_taken : IsSpelled ask_bytes IsSpellableAsk ask_at → (bytes : List ℕ) (y : Frame × List ℕ) → AreBytes bytes → request_at bytes ≡ Ok y → IsTaken 4 bytes y
unfolding request_at
request_taken asks bytes y small e = made_of (IsTaken 4 bytes) (ask_at 0 bytes) (λ ask. Request ask) y e (λ a read. let t = asks 0 bytes a.0 a.1 (all_small bytes small) read in (t.0, refl, t.1))

pull_taken : (bytes : List ℕ) (y : Frame × List ℕ) → AreBytes bytes → pull_at bytes ≡ Ok y → IsTaken 5 bytes y
unfolding pull_at
pull_taken bytes y small e =
    made_of (IsTaken 5 bytes) (byte_at (λ b. nat_lt b most_sites) 0 bytes) (λ to. Pull to) y e (λ a read. let t = byte_taken (λ b. nat_lt b most_sites) bytes a small read in (ltb-true a.0 most_sites t.1, refl, t.0.parts))

push_taken : IsSpelled message_bytes IsSpellableMessage message_at → (bytes : List ℕ) (y : Frame × List ℕ) → AreBytes bytes → push_at bytes ≡ Ok y → IsTaken 6 bytes y
unfolding push_at
push_taken messages bytes y small e = made_of (IsTaken 6 bytes) (message_at 0 bytes) (λ m. Push m) y e (λ a read. let t = messages 0 bytes a.0 a.1 (all_small bytes small) read in (t.0, refl, t.1))

module _ (asks : IsSpelled ask_bytes IsSpellableAsk ask_at) (messages : IsSpelled message_bytes IsSpellableMessage message_at) where
  frame_taken : (kind : ℕ) (bytes : List ℕ) (y : Frame × List ℕ) → AreBytes bytes → 1 ≤ kind → kind ≤ 7 → frame_at kind bytes ≡ Ok y → IsTaken kind bytes y
  unfolding frame_at
  frame_taken zero bytes y small low high e = absurd (omega (arith, low))
  frame_taken (suc zero) bytes y small low high e = hello_taken bytes y small e
  frame_taken (suc (suc zero)) bytes y small low high e = get_taken bytes y small e
  frame_taken (suc (suc (suc zero))) bytes y small low high e = status_taken bytes y small e
  frame_taken (suc (suc (suc (suc zero)))) bytes y small low high e = request_taken asks bytes y small e
  frame_taken (suc (suc (suc (suc (suc zero))))) bytes y small low high e = pull_taken bytes y small e
  frame_taken (suc (suc (suc (suc (suc (suc zero)))))) bytes y small low high e = push_taken messages bytes y small e
  frame_taken (suc (suc (suc (suc (suc (suc (suc zero))))))) bytes y small low high e =
      let made : Frame × List ℕ = (Flush, bytes) in
      subst (IsTaken 7 bytes) (ok_is made y e) (tt, refl, refl)
  frame_taken (suc (suc (suc (suc (suc (suc (suc (suc kind)))))))) bytes y small low high e = absurd (omega (arith, high))

  pub frames_spelled : BodiesSpelled frame_kind frame_body IsSpellableFrame 7 frame_at
  frames_spelled kind bytes f rest small low high e = frame_taken kind bytes (f, rest) (are_small bytes small) low high e
