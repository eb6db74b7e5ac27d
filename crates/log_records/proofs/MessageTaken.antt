-- A message that was read has a spelling, and that spelling begins the input.
use Rattle.std.proofs.Common.{◌≡◌, ◌≢◌, ℕ, zero, suc, ◌-◌, ◌*◌, ◌<◌, ◌≤◌, ◌==◌, ◌&&◌, ◌||◌, Bool, true, false, cond, not, nat_lt, nat_le, List, [], ◌∷◌, ◌++◌, length, get_or, slice_index, take, All, Result, Ok, Err, refl, sym, ap, subst, ◌∙◌, arith, length-append}
use Rattle.std.specs.List.{AllPairs, flat_map}
use Rattle.std.specs.Int.{w64, to_be_bytes}
use Rattle.std.proofs.Math.Seq.{take-append_seam}
use Rattle.std.proofs.lemmas.Bool.{eq-eqb, leb-true, ltb-true}
use Rattle.std.proofs.lemmas.List.Quantifiers.{all_pairs_push}
use Rattle.std.proofs.lemmas.List.Sums.{AllPass-from_list_all}
use Rattle.std.proofs.lemmas.Slice.Eq.{bytes_eq-Decides}
use Rattle.helios_model.specs.declared.messages.Message.{Message}
use Rattle.helios_model.specs.declared.records.Record.{Record}
use Rattle.helios_model.specs.Limits.{last_time, most_records, most_sites}
use Rattle.helios_model.specs.Log.{origin, own_time}
use Rattle.helios_model.specs.Spellable.{IsSpellableMessage, IsSpellableRecord}
use Rattle.helios_model.specs.Texts.{same_text}
use Rattle.sha2.specs.Sha256.{sha256}
use Rattle.log_records.specs.declared.faults.DecodeFault.{DecodeFault}
use Rattle.log_records.specs.declared.faults.DecodeFault.TheVariants.{Cut, Bad, BadDigest}
use Rattle.log_records.specs.declared.route.Route.{Route}
use Rattle.log_records.specs.Fields.{◌>>=◌, is_within, ruled, byte_at, number_at, text_at, each_after}
use Rattle.log_records.specs.Items.{list_bytes}
use Rattle.log_records.specs.Messages.{times_bytes, body_bytes, message_bytes, other_at, route_at, times_at, is_later, may_follow, next_at, records_at, body_at, digest_at, in_front, message_at}
use Rattle.log_records.specs.Records.{record_bytes, record_at}
use Rattle.log_records.proofs.Fields.{ruled_ok}
use Rattle.log_records.proofs.Differ.{and_true, bind_ok, not_true, ok_is, within}
use Rattle.log_records.proofs.Taken.{AreBytes, Begins, Begins-then, IsTaken, are_bytes, byte_taken, each_taken, number_taken, record_begins, text_taken, wide64}

-- ---- sites

-- the sites of a message between two of so many
record IsRoute (r : Route) : Type 0 where
  some : 2 ≤ r.count
  few : r.count ≤ most_sites
  from : r.from < r.count
  to : r.to < r.count
  other : r.to ≢ r.from

other_taken : (count one whole : ℕ) (bytes : List ℕ) (y : ℕ × List ℕ) → AreBytes bytes → other_at count one whole bytes ≡ Ok y → Begins bytes (y.0 ∷ []) y.1 × (y.0 < count) × (y.0 ≢ one)
unfolding other_at
other_taken count one whole bytes y h e =
    let t = byte_taken (λ b. nat_lt b count && not (b == one)) whole bytes y h e in
    let p = and_true (nat_lt y.0 count) (not (y.0 == one)) t.1 in
    let away : (y.0 == one) ≡ false = not_true (y.0 == one) p.1 in
    (t.0, ltb-true y.0 count p.0, λ same. let hit : (y.0 == one) ≡ true = eq-eqb y.0 one same in cc)

route_taken : (whole : ℕ) (bytes : List ℕ) (y : Route × List ℕ) → AreBytes bytes → route_at whole bytes ≡ Ok y → Begins bytes (y.0.count ∷ y.0.from ∷ y.0.to ∷ []) y.1 × IsRoute y.0
unfolding route_at
route_taken whole bytes y h e =
    let a = bind_ok (byte_at (is_within 2 most_sites) whole bytes) (λ count. byte_at (λ b. nat_lt b count.0) whole count.1 >>= λ from. other_at count.0 from.0 whole from.1 >>= λ to. Ok (record { count = count.0; from = from.0; to = to.0 }, to.1)) y e in
    let b = bind_ok (byte_at (λ b. nat_lt b a.0.0) whole a.0.1) (λ from. other_at a.0.0 from.0 whole from.1 >>= λ to. Ok (record { count = a.0.0; from = from.0; to = to.0 }, to.1)) y a.2 in
    let d = bind_ok (other_at a.0.0 b.0.0 whole b.0.1) (λ to. Ok (record { count = a.0.0; from = b.0.0; to = to.0 }, to.1)) y b.2 in
    let s = byte_taken (is_within 2 most_sites) whole bytes a.0 h a.1 in
    let f = byte_taken (λ b. nat_lt b a.0.0) whole a.0.1 b.0 s.0.left b.1 in
    let t = other_taken a.0.0 b.0.0 whole b.0.1 d.0 f.0.left d.1 in
    let lim = within 2 most_sites a.0.0 s.1 in
    let made : Route × List ℕ = (record { count = a.0.0; from = b.0.0; to = d.0.0 }, d.0.1) in
    let two = Begins-then bytes (a.0.0 ∷ []) a.0.1 (b.0.0 ∷ []) b.0.1 s.0 f.0 in
    let three = Begins-then bytes (a.0.0 ∷ b.0.0 ∷ []) b.0.1 (d.0.0 ∷ []) d.0.1 two t.0 in
    subst (λ (p : Route × List ℕ). Begins bytes (p.0.count ∷ p.0.from ∷ p.0.to ∷ []) p.1 × IsRoute p.0) (ok_is made y d.2)
    (three, record { some = lim.0; few = lim.1; from = ltb-true b.0.0 a.0.0 f.1; to = t.1; other = t.2 })

-- ---- times

-- so many times stand at the front
record AreTimes (n : ℕ) (bytes : List ℕ) (y : List ℕ × List ℕ) : Type 0 where
  begins : Begins bytes (times_bytes y.0) y.1
  many : length y.0 ≡ n
  small : All (λ time. time ≤ last_time) y.0

time_taken : (whole : ℕ) → IsTaken (to_be_bytes w64) (λ time. time ≤ last_time) (λ before. number_at w64 (is_within 0 last_time) whole)
time_taken whole before bytes y h e =
    let t = number_taken w64 _ wide64 (is_within 0 last_time) whole bytes y h e in
    (t.0, (within 0 last_time y.0 t.1).1)

times_taken : (n whole : ℕ) (bytes : List ℕ) (y : List ℕ × List ℕ) → AreBytes bytes → times_at n whole bytes ≡ Ok y → AreTimes n bytes y
unfolding times_at
times_taken n whole bytes y h e =
    let r = each_taken (to_be_bytes w64) (λ time. time ≤ last_time) (λ before. number_at w64 (is_within 0 last_time) whole) (time_taken whole) n [] bytes y h e in
    record {
      begins = subst (λ (ts : List ℕ). Begins bytes (times_bytes ts) y.1) (sym r.are) r.begins;
      many = ap length r.are ∙ r.many;
      small = subst (λ (ts : List ℕ). All (λ time. time ≤ last_time) ts) (sym r.are) r.fit;
    }

-- ---- records

-- a record of the origin comes before
abbrev pub Rises : Record → Record → Type 0
Rises a b = origin a ≡ origin b → own_time a < own_time b

-- a record of a log of so many sites, not above the cover
abbrev pub RecordFits : ℕ → List ℕ → Record → Type 0
RecordFits count cover r = IsSpellableRecord count r × (own_time r ≤ slice_index cover (origin r))

-- what `next_at` accepts
record IsNext (count : ℕ) (cover : List ℕ) (whole : ℕ) (before : List Record) (bytes : List ℕ) (y : Record × List ℕ) : Type 0 where
  read : record_at count whole bytes ≡ Ok y
  later : is_later before (origin y.0) (own_time y.0) ≡ true
  covered : own_time y.0 ≤ slice_index cover (origin y.0)

next_is : (count : ℕ) (cover : List ℕ) (whole : ℕ) (before : List Record) (bytes : List ℕ) (y : Record × List ℕ) → next_at count cover whole before bytes ≡ Ok y → IsNext count cover whole before bytes y
unfolding next_at
next_is count cover whole before bytes y e =
    let a = bind_ok (record_at count whole bytes) (λ r. ruled (may_follow cover before r.0) whole bytes r.0 r.1) y e in
    let made : Record × List ℕ = (a.0.0, a.0.1) in
    let t = ruled_ok false (may_follow cover before a.0.0) made y (Bad (whole - length bytes)) Cut a.2 in
    let p = and_true (is_later before (origin a.0.0) (own_time a.0.0)) (nat_le (own_time a.0.0) (slice_index cover (origin a.0.0))) t.1 in
    subst (λ (p : Record × List ℕ). IsNext count cover whole before bytes p) t.2 (record { read = a.1; later = p.0; covered = leb-true (own_time a.0.0) (slice_index cover (origin a.0.0)) p.1 })

next_taken : (count : ℕ) (cover : List ℕ) (whole : ℕ) → IsTaken record_bytes (RecordFits count cover) (next_at count cover whole)
next_taken count cover whole before bytes y h e =
    let n = next_is count cover whole before bytes y e in
    let t = record_begins count whole bytes y h n.read in
    (t.0, (t.1, n.covered))

or_right : (a b : Bool) → (not a || b) ≡ true → a ≡ true → b ≡ true
or_right true b e h = e
or_right false b e h = absurd cc

later_rises : (before : List Record) (r : Record) → is_later before (origin r) (own_time r) ≡ true → (k : ℕ) (d : Record) → k < length before → Rises (get_or before k d) r
later_rises before r e k d lt same =
    let one = get_or before k d in
    let passes = AllPass-from_list_all (λ (x : Record). not (origin x == origin r) || nat_lt (own_time x) (own_time r)) before e k d lt in
    ltb-true (own_time one) (own_time r) (or_right (origin one == origin r) (nat_lt (own_time one) (own_time r)) passes (eq-eqb (origin one) (origin r) same))

each_rises : (count : ℕ) (cover : List ℕ) (whole n : ℕ) (before : List Record) (bytes : List ℕ) (y : List Record × List ℕ) → AllPairs Rises before → each_after (next_at count cover whole) n before bytes ≡ Ok y → AllPairs Rises y.0
unfolding each_after
each_rises count cover whole zero before bytes y rise e =
    let made : List Record × List ℕ = (before, bytes) in
    subst (λ (p : List Record × List ℕ). AllPairs Rises p.0) (ok_is made y e) rise
each_rises count cover whole (suc n) before bytes y rise e =
    let a = bind_ok (next_at count cover whole before bytes) (λ x. each_after (next_at count cover whole) n (before ++ x.0 ∷ []) x.1) y e in
    let here = next_is count cover whole before bytes a.0 a.1 in
    each_rises count cover whole n (before ++ a.0.0 ∷ []) a.0.1 y (all_pairs_push Rises before a.0.0 rise (later_rises before a.0.0 here.later)) a.2

no_pairs : AllPairs Rises []
no_pairs i j d lt below = absurd (omega (arith, below))

-- records that a message with this cover can have stand at the front
record AreRecords (count : ℕ) (cover : List ℕ) (bytes : List ℕ) (y : List Record × List ℕ) : Type 0 where
  begins : Begins bytes (list_bytes record_bytes y.0) y.1
  few : length y.0 ≤ most_records
  fit : All (RecordFits count cover) y.0
  rise : AllPairs Rises y.0

records_taken : (count : ℕ) (cover : List ℕ) (whole : ℕ) (bytes : List ℕ) (y : List Record × List ℕ) → AreBytes bytes → records_at count cover whole bytes ≡ Ok y → AreRecords count cover bytes y
unfolding records_at
records_taken count cover whole bytes y h e =
    let a = bind_ok (byte_at (is_within 0 most_records) whole bytes) (λ n. each_after (next_at count cover whole) n.0 [] n.1) y e in
    let s = byte_taken (is_within 0 most_records) whole bytes a.0 h a.1 in
    let r = each_taken record_bytes (RecordFits count cover) (next_at count cover whole) (next_taken count cover whole) a.0.0 [] a.0.1 y s.0.left a.2 in
    let rise = each_rises count cover whole a.0.0 [] a.0.1 y no_pairs a.2 in
    let both = Begins-then bytes (a.0.0 ∷ []) a.0.1 (flat_map record_bytes r.items) y.1 s.0 r.begins in
    let counted : Begins bytes (list_bytes record_bytes r.items) y.1 = subst (λ (n : ℕ). Begins bytes (n ∷ flat_map record_bytes r.items) y.1) (sym r.many) both in
    let most = (within 0 most_records a.0.0 s.1).1 in
    record {
      begins = subst (λ (xs : List Record). Begins bytes (list_bytes record_bytes xs) y.1) (sym r.are) counted;
      few = omega (arith, ap length r.are, r.many, most);
      fit = subst (λ (xs : List Record). All (RecordFits count cover) xs) (sym r.are) r.fit;
      rise = rise;
    }

-- ---- messages

body_taken : (whole : ℕ) (bytes : List ℕ) (y : Message × List ℕ) → AreBytes bytes → body_at whole bytes ≡ Ok y → Begins bytes (body_bytes y.0) y.1 × IsSpellableMessage y.0
unfolding body_at
body_taken whole bytes y h e =
    let a = bind_ok (route_at whole bytes) (λ route. times_at (route.0.count * route.0.count) whole route.1 >>= λ table. times_at route.0.count whole table.1 >>= λ cover. records_at route.0.count cover.0 whole cover.1 >>= λ records. Ok (record { from = route.0.from; to = route.0.to; count = route.0.count; table = table.0; cover = cover.0; records = records.0 }, records.1)) y e in
    let count = a.0.0.count in
    let b = bind_ok (times_at (count * count) whole a.0.1) (λ table. times_at count whole table.1 >>= λ cover. records_at count cover.0 whole cover.1 >>= λ records. Ok (record { from = a.0.0.from; to = a.0.0.to; count = count; table = table.0; cover = cover.0; records = records.0 }, records.1)) y a.2 in
    let c = bind_ok (times_at count whole b.0.1) (λ cover. records_at count cover.0 whole cover.1 >>= λ records. Ok (record { from = a.0.0.from; to = a.0.0.to; count = count; table = b.0.0; cover = cover.0; records = records.0 }, records.1)) y b.2 in
    let d = bind_ok (records_at count c.0.0 whole c.0.1) (λ records. Ok (record { from = a.0.0.from; to = a.0.0.to; count = count; table = b.0.0; cover = c.0.0; records = records.0 }, records.1)) y c.2 in
    let route = route_taken whole bytes a.0 h a.1 in
    let table = times_taken (count * count) whole a.0.1 b.0 route.0.left b.1 in
    let cover = times_taken count whole b.0.1 c.0 table.begins.left c.1 in
    let records = records_taken count c.0.0 whole c.0.1 d.0 cover.begins.left d.1 in
    let sites = count ∷ a.0.0.from ∷ a.0.0.to ∷ [] in
    let two = Begins-then bytes sites a.0.1 (times_bytes b.0.0) b.0.1 route.0 table.begins in
    let three = Begins-then bytes (sites ++ times_bytes b.0.0) b.0.1 (times_bytes c.0.0) c.0.1 two cover.begins in
    let four = Begins-then bytes (sites ++ times_bytes b.0.0 ++ times_bytes c.0.0) c.0.1 (list_bytes record_bytes d.0.0) d.0.1 three records.begins in
    let made : Message × List ℕ = (record { from = a.0.0.from; to = a.0.0.to; count = count; table = b.0.0; cover = c.0.0; records = d.0.0 }, d.0.1) in
    subst (λ (p : Message × List ℕ). Begins bytes (body_bytes p.0) p.1 × IsSpellableMessage p.0) (ok_is made y d.2) (
      four,
      record {
        some = route.1.some;
        few = route.1.few;
        from = route.1.from;
        to = route.1.to;
        other = route.1.other;
        square = table.many;
        table = table.small;
        one_row = cover.many;
        cover = cover.small;
        few_records = records.few;
        records = λ k d lt. (records.fit k d lt).0;
        rise = records.rise;
        covered = λ k d lt. (records.fit k d lt).1;
      },
    )

-- what is left is no longer than what was there
pub body_shortens : (whole : ℕ) (bytes : List ℕ) (m : Message) (rest : List ℕ) → AreBytes bytes → body_at whole bytes ≡ Ok (m, rest) → length rest ≤ length bytes
body_shortens whole bytes m rest h e =
    let t = body_taken whole bytes (m, rest) h e in
    omega (arith, ap length t.0.parts, length-append (body_bytes m) rest)

pub front_is : (bytes text rest : List ℕ) → bytes ≡ text ++ rest → in_front bytes rest ≡ text
front_is bytes text rest e =
    let long : length bytes - length rest ≡ length text = omega (arith, ap length e, length-append text rest) in
    ap (λ (n : ℕ). take n bytes) long ∙ ap (take (length text)) e ∙ take-append_seam text rest

accepted : {X : Type 0} (b : Bool) (x y : X) (fault : DecodeFault) → cond {A = Result X DecodeFault} b (Ok x) (Err fault) ≡ Ok y → (b ≡ true) × (x ≡ y)
accepted true x y fault e = (refl, cc)
accepted false x y fault e = absurd cc

digest_taken : (body : List ℕ) (whole : ℕ) (bytes : List ℕ) (y : List ℕ × List ℕ) → AreBytes bytes → digest_at body whole bytes ≡ Ok y → Begins bytes (sha256 body) y.1
unfolding digest_at
digest_taken body whole bytes y h e =
    let a = bind_ok (text_at (λ text. true) 32 whole bytes) (λ digest. cond (same_text digest.0 (sha256 body)) (Ok digest) (Err BadDigest)) y e in
    let t = text_taken (λ text. true) 32 whole bytes a.0 h a.1 in
    let p = accepted (same_text a.0.0 (sha256 body)) a.0 y BadDigest a.2 in
    let same : a.0.0 ≡ sha256 body = (bytes_eq-Decides a.0.0 (sha256 body)).0 p.0 in
    subst (λ (q : List ℕ × List ℕ). Begins bytes (sha256 body) q.1) p.1 (subst (λ (text : List ℕ). Begins bytes text a.0.1) same t.begins)

pub message_begins : (whole : ℕ) (bytes : List ℕ) (y : Message × List ℕ) → AreBytes bytes → message_at whole bytes ≡ Ok y → Begins bytes (message_bytes y.0) y.1 × IsSpellableMessage y.0
unfolding message_at
message_begins whole bytes y h e =
    let a = bind_ok (body_at whole bytes) (λ body. digest_at (in_front bytes body.1) whole body.1 >>= λ digest. Ok (body.0, digest.1)) y e in
    let b = bind_ok (digest_at (in_front bytes a.0.1) whole a.0.1) (λ digest. Ok (a.0.0, digest.1)) y a.2 in
    let body = body_taken whole bytes a.0 h a.1 in
    let front = front_is bytes (body_bytes a.0.0) a.0.1 body.0.parts in
    let digest = digest_taken (in_front bytes a.0.1) whole a.0.1 b.0 body.0.left b.1 in
    let named = subst (λ (text : List ℕ). Begins a.0.1 (sha256 text) b.0.1) front digest in
    let made : Message × List ℕ = (a.0.0, b.0.1) in
    subst (λ (p : Message × List ℕ). Begins bytes (message_bytes p.0) p.1 × IsSpellableMessage p.0) (ok_is made y b.2)
    (Begins-then bytes (body_bytes a.0.0) a.0.1 (sha256 (body_bytes a.0.0)) b.0.1 body.0 named, body.1)

pub read_spellable : (whole : ℕ) (bytes : List ℕ) (m : Message) (rest : List ℕ) → AreBytes bytes → message_at whole bytes ≡ Ok (m, rest) → IsSpellableMessage m
read_spellable whole bytes m rest h e = (message_begins whole bytes (m, rest) h e).1

pub message_taken : (whole : ℕ) (bytes : List ℕ) (m : Message) (rest : List ℕ) → All (λ b. b < 256) bytes → message_at whole bytes ≡ Ok (m, rest) → IsSpellableMessage m × (bytes ≡ message_bytes m ++ rest)
message_taken whole bytes m rest h e =
    let t = message_begins whole bytes (m, rest) (are_bytes bytes h) e in
    (t.1, t.0.parts)
