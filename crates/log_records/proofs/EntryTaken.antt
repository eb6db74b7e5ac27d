-- What was read is an entry or a batch that has a spelling, which begins the input.
use Rattle.std.proofs.Common.{◌≡◌, ℕ, zero, suc, ◌-◌, ◌^◌, ◌<◌, ◌≤◌, ◌==◌, Bool, true, false, cond, nat_lt, List, [], ◌∷◌, ◌++◌, length, All, Result, Ok, Err, refl, sym, ap, subst, ◌∙◌, arith}
use Rattle.std.specs.List.{flat_map}
use Rattle.std.specs.Int.{w64, to_be_bytes}
use Rattle.std.proofs.lemmas.Bool.{eqb-true, ltb-true}
use Rattle.std.proofs.lemmas.List.{append-nil}
use Rattle.helios_model.specs.declared.entries.Entry.{Entry}
use Rattle.helios_model.specs.declared.entries.Input.{Input}
use Rattle.helios_model.specs.declared.entries.Input.TheVariants.{Request, Pull, Push}
use Rattle.helios_model.specs.declared.messages.Message.{Message}
use Rattle.helios_model.specs.declared.transactions.PutItem.{PutItem}
use Rattle.helios_model.specs.Limits.{most_inputs}
use Rattle.helios_model.specs.Spellable.{AreSpellablePuts, IsSpellableAsk, IsSpellableEntry, IsSpellableInput, IsSpellableMessage}
use Rattle.helios_model.specs.Transactions.{Asking}
use Rattle.log_records.specs.declared.faults.DecodeFault.{DecodeFault}
use Rattle.log_records.specs.declared.faults.DecodeFault.TheVariants.{Bad}
use Rattle.log_records.specs.Entries.{IsSpellableBatch, ask_at, ask_bytes, batch_bytes, batch_of, entries_at, entry_at, entry_bytes, input_at, input_bytes, pull_at, push_at, request_at}
use Rattle.log_records.specs.Fields.{◌>>=◌, is_within, byte_at, number_at, each_after}
use Rattle.log_records.specs.Heads.{whole_input}
use Rattle.log_records.specs.Items.{is_given, put_at, put_bytes, puts_at, puts_bytes, reads_at, reads_bytes}
use Rattle.log_records.specs.Keys.{key_at, key_bytes, value_at, value_bytes}
use Rattle.log_records.specs.Messages.{message_at, message_bytes}
use Rattle.log_records.proofs.Differ.{bind_ok, byte_ruled, list_keeps, ok_is, within}
use Rattle.log_records.proofs.Asked.{put_fresh}
use Rattle.log_records.proofs.EntryAgain.{PutFits}
use Rattle.log_records.proofs.Taken.{AreBytes, Begins, Begins-then, IsTaken, are_bytes, byte_taken, each_taken, key_taken, list_taken, number_taken, reads_taken, tagged, value_taken, wide64}

-- ---- what a client asks for

put_taken : (whole : ℕ) → IsTaken put_bytes PutFits (put_at whole)
unfolding put_at
put_taken whole before bytes y h e =
    let given = is_given (λ (p : PutItem). p.key) before in
    let a = bind_ok (key_at given whole bytes) (λ key. value_at whole key.1 >>= λ value. Ok (record { key = key.0; value = value.0 }, value.1)) y e in
    let b = bind_ok (value_at whole a.0.1) (λ value. Ok (record { key = a.0.0; value = value.0 }, value.1)) y a.2 in
    let k = key_taken given whole bytes a.0 h a.1 in
    let v = value_taken whole a.0.1 b.0 k.0.left b.1 in
    let made : PutItem × List ℕ = (record { key = a.0.0; value = b.0.0 }, b.0.1) in
    subst (λ (p : PutItem × List ℕ). Begins bytes (put_bytes p.0) p.1 × PutFits p.0) (ok_is made y b.2) (Begins-then bytes (key_bytes a.0.0) a.0.1 (value_bytes b.0.0) b.0.1 k.0 v.0, (k.1, v.1))

puts_taken : (whole : ℕ) (bytes : List ℕ) (y : List PutItem × List ℕ) → AreBytes bytes → puts_at whole bytes ≡ Ok y → Begins bytes (puts_bytes y.0) y.1 × AreSpellablePuts y.0
unfolding puts_at
puts_taken whole bytes y h e =
    let t = list_taken put_bytes PutFits (put_at whole) (put_taken whole) whole bytes y h e in
    let f = list_keeps (λ (p : PutItem). p.key) (put_at whole) (put_fresh whole) whole bytes y e in
    (t.0, record { few = f.few; differ = f.differ; keys = λ k d lt. (t.1 k d lt).0; values = λ k d lt. (t.1 k d lt).1 })

ask_taken : (whole : ℕ) (bytes : List ℕ) (y : Asking × List ℕ) → AreBytes bytes → ask_at whole bytes ≡ Ok y → Begins bytes (ask_bytes y.0) y.1 × IsSpellableAsk y.0
unfolding ask_at
ask_taken whole bytes y h e =
    let a = bind_ok (reads_at whole bytes) (λ reads. puts_at whole reads.1 >>= λ puts. Ok (record { reads = reads.0; puts = puts.0 }, puts.1)) y e in
    let b = bind_ok (puts_at whole a.0.1) (λ puts. Ok (record { reads = a.0.0; puts = puts.0 }, puts.1)) y a.2 in
    let r = reads_taken whole bytes a.0 h a.1 in
    let p = puts_taken whole a.0.1 b.0 r.0.left b.1 in
    let made : Asking × List ℕ = (record { reads = a.0.0; puts = b.0.0 }, b.0.1) in
    subst (λ (q : Asking × List ℕ). Begins bytes (ask_bytes q.0) q.1 × IsSpellableAsk q.0) (ok_is made y b.2)
    (Begins-then bytes (reads_bytes a.0.0) a.0.1 (puts_bytes b.0.0) b.0.1 r.0 p.0, record { reads = r.1; puts = p.1 })

-- ---- entries

abbrev pub MessagesTaken : Type 0
MessagesTaken = (whole : ℕ) (bytes : List ℕ) (y : Message × List ℕ) → AreBytes bytes → message_at whole bytes ≡ Ok y → Begins bytes (message_bytes y.0) y.1 × IsSpellableMessage y.0

-- the front byte is the tag of what was read behind it
abbrev IsBehind : ℕ → ℕ → List ℕ → Input × List ℕ → Type 0
IsBehind count tag bytes y = Begins (tag ∷ bytes) (input_bytes y.0) y.1 × IsSpellableInput count y.0

request_taken : (count whole : ℕ) (bytes : List ℕ) (y : Input × List ℕ) → AreBytes bytes → request_at whole bytes ≡ Ok y → IsBehind count 1 bytes y
unfolding request_at
request_taken count whole bytes y h e =
    let a = bind_ok (ask_at whole bytes) (λ ask. Ok (Request ask.0, ask.1)) y e in
    let t = ask_taken whole bytes a.0 h a.1 in
    let made : Input × List ℕ = (Request a.0.0, a.0.1) in
    subst (λ (q : Input × List ℕ). IsBehind count 1 bytes q) (ok_is made y a.2) (tagged 1 bytes (ask_bytes a.0.0) a.0.1 t.0, t.1)

pull_taken : (count whole : ℕ) (bytes : List ℕ) (y : Input × List ℕ) → AreBytes bytes → pull_at count whole bytes ≡ Ok y → IsBehind count 2 bytes y
unfolding pull_at
pull_taken count whole bytes y h e =
    let a = bind_ok (byte_at (λ b. nat_lt b count) whole bytes) (λ to. Ok (Pull to.0, to.1)) y e in
    let t = byte_taken (λ b. nat_lt b count) whole bytes a.0 h a.1 in
    let made : Input × List ℕ = (Pull a.0.0, a.0.1) in
    subst (λ (q : Input × List ℕ). IsBehind count 2 bytes q) (ok_is made y a.2) (tagged 2 bytes (a.0.0 ∷ []) a.0.1 t.0, ltb-true a.0.0 count t.1)

front_is : (a b : ℕ) (xs ys : List ℕ) → a ∷ xs ≡ b ∷ ys → a ≡ b
front_is a b xs ys e = cc

-- of this count is a message whose first byte is
counted : (count whole : ℕ) (bytes : List ℕ) (y : ℕ × List ℕ) (m : Message) (rest : List ℕ) → byte_at (is_within count count) whole bytes ≡ Ok y → bytes ≡ message_bytes m ++ rest → m.count ≡ count
counted count whole bytes y m rest e parts =
    let r = byte_ruled (is_within count count) whole bytes y e in
    let lim = within count count y.0 r.0 in
    let low = lim.0 in
    let high = lim.1 in
    let same : y.0 ≡ m.count = front_is y.0 m.count y.1 _ (sym r.1 ∙ parts) in
    omega (arith, low, high, same)

push_taken : MessagesTaken → (count whole : ℕ) (bytes : List ℕ) (y : Input × List ℕ) → AreBytes bytes → push_at count whole bytes ≡ Ok y → IsBehind count 3 bytes y
unfolding push_at
push_taken taken count whole bytes y h e =
    let a = bind_ok (byte_at (is_within count count) whole bytes) (λ same. message_at whole bytes >>= λ m. Ok (Push m.0, m.1)) y e in
    let b = bind_ok (message_at whole bytes) (λ m. Ok (Push m.0, m.1)) y a.2 in
    let t = taken whole bytes b.0 h b.1 in
    let made : Input × List ℕ = (Push b.0.0, b.0.1) in
    subst (λ (q : Input × List ℕ). IsBehind count 3 bytes q) (ok_is made y b.2)
    (tagged 3 bytes (message_bytes b.0.0) b.0.1 t.0, record { spellable = t.1; counted = counted count whole bytes a.0 b.0.0 b.0.1 a.1 t.0.parts })

input_by_tag : MessagesTaken → (count whole : ℕ) (tag : ℕ) (after : List ℕ) (y : Input × List ℕ) → AreBytes after → 1 ≤ tag → tag ≤ 3
    → cond (tag == 1) (request_at whole after) (cond (tag == 2) (pull_at count whole after) (push_at count whole after)) ≡ Ok y
    → IsBehind count tag after y
input_by_tag taken count whole zero after y h least most e = absurd (omega (arith, least))
input_by_tag taken count whole (suc zero) after y h least most e = request_taken count whole after y h e
input_by_tag taken count whole (suc (suc zero)) after y h least most e = pull_taken count whole after y h e
input_by_tag taken count whole (suc (suc (suc zero))) after y h least most e = push_taken taken count whole after y h e
input_by_tag taken count whole (suc (suc (suc (suc tag)))) after y h least most e = absurd (omega (arith, most))

input_taken : MessagesTaken → (count whole : ℕ) (bytes : List ℕ) (y : Input × List ℕ) → AreBytes bytes → input_at count whole bytes ≡ Ok y → Begins bytes (input_bytes y.0) y.1 × IsSpellableInput count y.0
unfolding input_at
input_taken taken count whole bytes y h e =
    let a = bind_ok (byte_at (is_within 1 3) whole bytes) (λ tag. cond (tag.0 == 1) (request_at whole tag.1) (cond (tag.0 == 2) (pull_at count whole tag.1) (push_at count whole tag.1))) y e in
    let s = byte_taken (is_within 1 3) whole bytes a.0 h a.1 in
    let lim = within 1 3 a.0.0 s.1 in
    let r = input_by_tag taken count whole a.0.0 a.0.1 y s.0.left lim.0 lim.1 a.2 in
    (record { parts = s.0.parts ∙ r.0.parts; left = r.0.left }, r.1)

entry_taken : MessagesTaken → (count whole : ℕ) (bytes : List ℕ) (y : Entry × List ℕ) → AreBytes bytes → entry_at count whole bytes ≡ Ok y → Begins bytes (entry_bytes y.0) y.1 × IsSpellableEntry count y.0
unfolding entry_at
entry_taken taken count whole bytes y h e =
    let a = bind_ok (number_at w64 (is_within 0 (2 ^ 64 - 1)) whole bytes) (λ reading. input_at count whole reading.1 >>= λ input. Ok (record { reading = reading.0; input = input.0 }, input.1)) y e in
    let b = bind_ok (input_at count whole a.0.1) (λ input. Ok (record { reading = a.0.0; input = input.0 }, input.1)) y a.2 in
    let n = number_taken w64 (2 ^ 64) wide64 (is_within 0 (2 ^ 64 - 1)) whole bytes a.0 h a.1 in
    let i = input_taken taken count whole a.0.1 b.0 n.0.left b.1 in
    let high = (within 0 (2 ^ 64 - 1) a.0.0 n.1).1 in
    let made : Entry × List ℕ = (record { reading = a.0.0; input = b.0.0 }, b.0.1) in
    subst (λ (q : Entry × List ℕ). Begins bytes (entry_bytes q.0) q.1 × IsSpellableEntry count q.0) (ok_is made y b.2)
    (Begins-then bytes (to_be_bytes w64 a.0.0) a.0.1 (input_bytes b.0.0) b.0.1 n.0 i.0, record { reading = omega (arith, high); input = i.1 })

pub entry_spellable : MessagesTaken → (count whole : ℕ) (bytes : List ℕ) (e : Entry) (rest : List ℕ) → AreBytes bytes → entry_at count whole bytes ≡ Ok (e, rest) → IsSpellableEntry count e
entry_spellable taken count whole bytes e rest h read = (entry_taken taken count whole bytes (e, rest) h read).1

pub entry_read : MessagesTaken → (count whole : ℕ) (bytes : List ℕ) (e : Entry) (rest : List ℕ) → All (λ b. b < 256) bytes → entry_at count whole bytes ≡ Ok (e, rest) → IsSpellableEntry count e × (bytes ≡ entry_bytes e ++ rest)
entry_read taken count whole bytes e rest h read =
    let t = entry_taken taken count whole bytes (e, rest) (are_bytes bytes h) read in
    (t.1, t.0.parts)

-- ---- batches

entries_taken : MessagesTaken → (count whole : ℕ) (bytes : List ℕ) (y : List Entry × List ℕ) → AreBytes bytes → entries_at count whole bytes ≡ Ok y → Begins bytes (batch_bytes y.0) y.1 × IsSpellableBatch count y.0
unfolding entries_at
entries_taken taken count whole bytes y h e =
    let a = bind_ok (byte_at (is_within 1 most_inputs) whole bytes) (λ n. each_after (λ before. entry_at count whole) n.0 [] n.1) y e in
    let s = byte_taken (is_within 1 most_inputs) whole bytes a.0 h a.1 in
    let lim = within 1 most_inputs a.0.0 s.1 in
    let low = lim.0 in
    let high = lim.1 in
    let r = each_taken entry_bytes (IsSpellableEntry count) (λ (before : List Entry). entry_at count whole) (λ before front z bs read. entry_taken taken count whole front z bs read) a.0.0 [] a.0.1 y s.0.left a.2 in
    let many = r.many in
    let both = Begins-then bytes (a.0.0 ∷ []) a.0.1 (flat_map entry_bytes r.items) y.1 s.0 r.begins in
    let told : Begins bytes (batch_bytes r.items) y.1 = subst (λ (n : ℕ). Begins bytes (n ∷ flat_map entry_bytes r.items) y.1) (sym r.many) both in
    subst (λ (xs : List Entry). Begins bytes (batch_bytes xs) y.1 × IsSpellableBatch count xs) (sym r.are)
    (told, record { some = omega (arith, low, many); few = omega (arith, high, many); each = r.fit })

-- nothing is left behind what is the whole input
pub empty_is : (xs : List ℕ) → length xs ≡ 0 → xs ≡ []
empty_is [] e = refl
empty_is (x ∷ xs) e = absurd (omega (arith, e))

accepted_is : {X : Type 0} (b : Bool) (x y : X) (fault : DecodeFault) → cond {A = Result X DecodeFault} b (Ok x) (Err fault) ≡ Ok y → (b ≡ true) × (x ≡ y)
accepted_is true x y fault e = (refl, ok_is x y e)
accepted_is false x y fault e = absurd cc

pub none_left : {X : Type 0} (whole : ℕ) (x : X × List ℕ) (y : X) → whole_input whole x ≡ Ok y → (x.0 ≡ y) × (x.1 ≡ [])
none_left whole x y e =
    let t = accepted_is (length x.1 == 0) x.0 y (Bad (whole - length x.1)) e in
    (t.1, empty_is x.1 (eqb-true (length x.1) 0 t.0))

pub batch_read : MessagesTaken → (count : ℕ) (bytes : List ℕ) (entries : List Entry) → All (λ b. b < 256) bytes → batch_of count bytes ≡ Ok entries → IsSpellableBatch count entries × (bytes ≡ batch_bytes entries)
unfolding batch_of
batch_read taken count bytes entries h e =
    let a = bind_ok (entries_at count (length bytes) bytes) (whole_input (length bytes)) entries e in
    let t = entries_taken taken count (length bytes) bytes a.0 (are_bytes bytes h) a.1 in
    let n = none_left (length bytes) a.0 entries a.2 in
    let parts : bytes ≡ batch_bytes a.0.0 = t.0.parts ∙ ap (λ (rest : List ℕ). batch_bytes a.0.0 ++ rest) n.1 ∙ append-nil (batch_bytes a.0.0) in
    (subst (IsSpellableBatch count) n.0 t.1, parts ∙ ap batch_bytes n.0)

pub entries_spellable : MessagesTaken → (count whole : ℕ) (bytes : List ℕ) (entries : List Entry) (rest : List ℕ) → AreBytes bytes → entries_at count whole bytes ≡ Ok (entries, rest) → IsSpellableBatch count entries
entries_spellable taken count whole bytes entries rest h read = (entries_taken taken count whole bytes (entries, rest) h read).1
