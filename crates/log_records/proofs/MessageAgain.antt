-- What was written of a message is read again, whatever follows it; so no spelling begins another one.
use Rattle.std.proofs.Common.{◌≡◌, ◌≢◌, ℕ, suc, ◌*◌, ◌^◌, ◌<◌, ◌≤◌, ◌==◌, ◌&&◌, ◌||◌, Bool, true, false, not, nat_lt, List, [], ◌∷◌, ◌++◌, length, get_or, slice_index, All, Result, Ok, refl, sym, ap, subst, ◌∙◌, append_assoc, arith, length-append}
use Rattle.std.specs.List.{AllPairs, flat_map}
use Rattle.std.specs.Int.{w64, to_be_bytes}
use Rattle.std.proofs.Math.ListN.{get_or-append}
use Rattle.std.proofs.Math.Seq.{get_or-append_seam}
use Rattle.std.proofs.lemmas.Bool.{and_from, eqb-true, le-leb, lt-ltb, ne_eqb, not_from_false}
use Rattle.std.proofs.lemmas.List.{append-nil}
use Rattle.std.proofs.lemmas.List.Concat.{flat_map-cons}
use Rattle.std.proofs.lemmas.List.Elements.{All-head, All-tail}
use Rattle.std.proofs.lemmas.List.Sums.{list_all-from_AllPass}
use Rattle.std.proofs.lemmas.Slice.Eq.{bytes_eq-Decides}
use Rattle.helios_model.specs.declared.messages.Message.{Message}
use Rattle.helios_model.specs.declared.records.Record.{Record}
use Rattle.helios_model.specs.Limits.{last_time, most_records, most_sites}
use Rattle.helios_model.specs.Log.{origin, own_time}
use Rattle.helios_model.specs.Spellable.{IsSpellableMessage, IsSpellableRecord}
use Rattle.sha2.specs.Sha256.{sha256}
use Rattle.log_records.specs.declared.faults.DecodeFault.{DecodeFault}
use Rattle.log_records.specs.declared.route.Route.{Route}
use Rattle.log_records.specs.Fields.{is_within, number_at, text_at, each_after}
use Rattle.log_records.specs.Items.{list_bytes}
use Rattle.log_records.specs.Messages.{times_bytes, route_bytes, body_bytes, message_bytes, other_at, route_at, times_at, is_later, may_follow, next_at, records_at, body_at, digest_at, in_front, message_at}
use Rattle.log_records.specs.Records.{record_bytes, record_at}
use Rattle.log_records.proofs.Again.{byte_again, number_again, record_again, text_again, wide64, within_true}
use Rattle.log_records.proofs.Differ.{ok_is}
use Rattle.log_records.proofs.MessageFields.{route_is}
use Rattle.log_records.proofs.MessageTaken.{RecordFits, Rises, front_is}
use Rattle.log_records.proofs.SpellingLengths.{digest_length}

-- ---- sites

other_again : (count one whole to : ℕ) (rest : List ℕ) → to < count → to ≢ one → other_at count one whole (to ∷ rest) ≡ Ok (to, rest)
unfolding other_at
other_again count one whole to rest lt away = byte_again (λ b. nat_lt b count && not (b == one)) whole to rest (and_from _ _ (lt-ltb to count lt) (not_from_false _ (ne_eqb to one away)))

route_again : (whole : ℕ) (m : Message) (rest : List ℕ) → IsSpellableMessage m → route_at whole (route_bytes m ++ rest) ≡ Ok (record { count = m.count; from = m.from; to = m.to }, rest)
route_again whole m rest h =
    route_is whole (route_bytes m ++ rest) m.count (m.from ∷ m.to ∷ rest) m.from (m.to ∷ rest) m.to rest
    (byte_again (is_within 2 most_sites) whole m.count (m.from ∷ m.to ∷ rest) (within_true 2 most_sites m.count h.some h.few))
    (byte_again (λ b. nat_lt b m.count) whole m.from (m.to ∷ rest) (lt-ltb m.from m.count h.from))
    (other_again m.count m.from whole m.to rest h.to h.other)

-- ---- items one after another

-- each item fits behind those before it
abbrev EachFits : {X : Type 0} → (List X → X → Type 0) → List X → List X → Type 0
EachFits Fits before [] = Unit {0}
EachFits Fits before (x ∷ xs) = Fits before x × EachFits Fits (before ++ x ∷ []) xs

-- an item that fits is read again
abbrev ReadsBehind : {X : Type 0} → (X → List ℕ) → (List X → X → Type 0) → (List X → List ℕ → Result (X × List ℕ) DecodeFault) → Type 0
ReadsBehind {X} spelled Fits item = (before : List X) (x : X) (rest : List ℕ) → Fits before x → item before (spelled x ++ rest) ≡ Ok (x, rest)

each_again : {X : Type 0} (spelled : X → List ℕ) (Fits : List X → X → Type 0) (item : List X → List ℕ → Result (X × List ℕ) DecodeFault) → ReadsBehind spelled Fits item → (xs before : List X) (rest : List ℕ) → EachFits Fits before xs
    → each_after item (length xs) before (flat_map spelled xs ++ rest) ≡ Ok (before ++ xs, rest)
unfolding each_after
each_again {X} spelled Fits item again [] before rest fits = ap (λ (p : List X). Ok (p, rest)) (sym (append-nil before))
each_again {X} spelled Fits item again (x ∷ xs) before rest fits =
    let regrouped : flat_map spelled (x ∷ xs) ++ rest ≡ spelled x ++ (flat_map spelled xs ++ rest) = ap (λ (t : List ℕ). t ++ rest) (flat_map-cons spelled x xs) ∙ append_assoc (spelled x) (flat_map spelled xs) rest in
    let moved : (before ++ x ∷ []) ++ xs ≡ before ++ x ∷ xs = append_assoc before (x ∷ []) xs in
    let first = again before x (flat_map spelled xs ++ rest) fits.0 in
    let others = each_again spelled Fits item again xs (before ++ x ∷ []) rest fits.1 in
    ap (each_after item (suc (length xs)) before) regrouped ∙ rw (first, others) (ap (λ (p : List X). Ok (p, rest)) moved)

-- ---- times

abbrev TimeFits : List ℕ → ℕ → Type 0
TimeFits before time = time ≤ last_time

time_again : (whole : ℕ) → ReadsBehind (to_be_bytes w64) TimeFits (λ before. number_at w64 (is_within 0 last_time) whole)
time_again whole before time rest small = number_again w64 (2 ^ 64) wide64 (is_within 0 last_time) whole time rest (omega (arith, small)) (within_true 0 last_time time (omega arith) small)

each_time : (before times : List ℕ) → All (λ time. time ≤ last_time) times → EachFits TimeFits before times
each_time before [] h = tt
each_time before (t ∷ ts) h = (All-head (λ time. time ≤ last_time) t ts h, each_time (before ++ t ∷ []) ts (All-tail (λ time. time ≤ last_time) t ts h))

times_again : (n whole : ℕ) (times rest : List ℕ) → length times ≡ n → All (λ time. time ≤ last_time) times → times_at n whole (times_bytes times ++ rest) ≡ Ok (times, rest)
unfolding times_at
times_again n whole times rest long small =
    ap (λ (k : ℕ). each_after (λ before. number_at w64 (is_within 0 last_time) whole) k [] (times_bytes times ++ rest)) (sym long)
    ∙ each_again (to_be_bytes w64) TimeFits (λ before. number_at w64 (is_within 0 last_time) whole) (time_again whole) times [] rest (each_time [] times small)

-- ---- records

or_from : (a b : Bool) → (a ≡ true → b ≡ true) → (not a || b) ≡ true
or_from true b h = h refl
or_from false b h = refl

rises_later : (before : List Record) (r : Record) (rs : List Record) → AllPairs Rises (before ++ r ∷ rs) → is_later before (origin r) (own_time r) ≡ true
rises_later before r rs rise =
    list_all-from_AllPass (λ (x : Record). not (origin x == origin r) || nat_lt (own_time x) (own_time r)) before
    (λ k d lt.
    let one = get_or before k d in
    let below : length before < length (before ++ r ∷ rs) = omega (arith, length-append before (r ∷ rs)) in
    let pair = rise k (length before) d lt below in
    let left = subst (λ (x : Record). Rises x (get_or (before ++ r ∷ rs) (length before) d)) (get_or-append before (r ∷ rs) d k lt) pair in
    let both = subst (λ (x : Record). Rises one x) (get_or-append_seam before r rs d) left in
    or_from (origin one == origin r) (nat_lt (own_time one) (own_time r)) (λ same. lt-ltb (own_time one) (own_time r) (both (eqb-true (origin one) (origin r) same))))

-- a record fits behind those before it
abbrev NextFits : ℕ → List ℕ → List Record → Record → Type 0
NextFits count cover before r = RecordFits count cover r × (is_later before (origin r) (own_time r) ≡ true)

next_again : (count : ℕ) (cover : List ℕ) (whole : ℕ) → ReadsBehind record_bytes (NextFits count cover) (next_at count cover whole)
unfolding next_at
next_again count cover whole before r rest fits =
    let follows : may_follow cover before r ≡ true = and_from _ _ fits.1 (le-leb (own_time r) (slice_index cover (origin r)) fits.0.1) in
    rw (record_again count whole r rest fits.0.0, follows) refl

each_record : (count : ℕ) (cover : List ℕ) (before rs : List Record) → All (RecordFits count cover) rs → AllPairs Rises (before ++ rs) → EachFits (NextFits count cover) before rs
each_record count cover before [] h rise = tt
each_record count cover before (r ∷ rs) h rise = (
  (All-head (RecordFits count cover) r rs h, rises_later before r rs rise),
  each_record count cover (before ++ r ∷ []) rs (All-tail (RecordFits count cover) r rs h) (subst (λ (xs : List Record). AllPairs Rises xs) (sym (append_assoc before (r ∷ []) rs)) rise),
)

records_again : (whole : ℕ) (m : Message) (rest : List ℕ) → IsSpellableMessage m → records_at m.count m.cover whole (list_bytes record_bytes m.records ++ rest) ≡ Ok (m.records, rest)
unfolding records_at
records_again whole m rest h =
    let fits : All (RecordFits m.count m.cover) m.records = λ k d lt. (h.records k d lt, h.covered k d lt) in
    rw (
      byte_again (is_within 0 most_records) whole (length m.records) (flat_map record_bytes m.records ++ rest) (within_true 0 most_records (length m.records) (omega arith) h.few_records),
      each_again record_bytes (NextFits m.count m.cover) (next_at m.count m.cover whole) (next_again m.count m.cover whole) m.records [] rest (each_record m.count m.cover [] m.records fits h.rise),
    ) refl

-- ---- messages

body_is : (whole : ℕ) (bytes : List ℕ) (route : Route) (second table third cover fourth : List ℕ) (records : List Record) (rest : List ℕ)
    → route_at whole bytes ≡ Ok (route, second) → times_at (route.count * route.count) whole second ≡ Ok (table, third) → times_at route.count whole third ≡ Ok (cover, fourth) → records_at route.count cover whole fourth ≡ Ok (records, rest)
    → body_at whole bytes ≡ Ok (record { from = route.from; to = route.to; count = route.count; table = table; cover = cover; records = records }, rest)
unfolding body_at
body_is whole bytes route second table third cover fourth records rest e f g i = rw (e, f, g, i) refl

body_again : (whole : ℕ) (m : Message) (rest : List ℕ) → IsSpellableMessage m → body_at whole (body_bytes m ++ rest) ≡ Ok (m, rest)
body_again whole m rest h =
    let fourth = list_bytes record_bytes m.records ++ rest in
    let third = times_bytes m.cover ++ fourth in
    let second = times_bytes m.table ++ third in
    let regrouped : body_bytes m ++ rest ≡ route_bytes m ++ second =
    append_assoc (route_bytes m ++ times_bytes m.table ++ times_bytes m.cover) (list_bytes record_bytes m.records) rest
    ∙ append_assoc (route_bytes m ++ times_bytes m.table) (times_bytes m.cover) fourth
    ∙ append_assoc (route_bytes m) (times_bytes m.table) third in
    ap (body_at whole) regrouped
    ∙ body_is whole (route_bytes m ++ second) (record { count = m.count; from = m.from; to = m.to }) second m.table third m.cover fourth m.records rest
    (route_again whole m second h)
    (times_again (m.count * m.count) whole m.table third h.square h.table)
    (times_again m.count whole m.cover fourth h.one_row h.cover)
    (records_again whole m rest h)

digest_again : (body : List ℕ) (whole : ℕ) (rest : List ℕ) → digest_at body whole (sha256 body ++ rest) ≡ Ok (sha256 body, rest)
unfolding digest_at
digest_again body whole rest =
    let text : text_at (λ t. true) 32 whole (sha256 body ++ rest) ≡ Ok (sha256 body, rest) =
    ap (λ (n : ℕ). text_at (λ t. true) n whole (sha256 body ++ rest)) (sym (digest_length body)) ∙ text_again (λ t. true) whole (sha256 body) rest refl in
    rw (text, (bytes_eq-Decides (sha256 body) (sha256 body)).1 refl) refl

message_is : (whole : ℕ) (bytes : List ℕ) (m : Message) (body left digest rest : List ℕ) → body_at whole bytes ≡ Ok (m, left) → in_front bytes left ≡ body → digest_at body whole left ≡ Ok (digest, rest) → message_at whole bytes ≡ Ok (m, rest)
unfolding message_at
message_is whole bytes m body left digest rest e f g = rw (e, f, g) refl

pub message_again : (whole : ℕ) (m : Message) (rest : List ℕ) → IsSpellableMessage m → message_at whole (message_bytes m ++ rest) ≡ Ok (m, rest)
message_again whole m rest h =
    let body = body_bytes m in
    let left = sha256 body ++ rest in
    ap (message_at whole) (append_assoc body (sha256 body) rest)
    ∙ message_is whole (body ++ left) m body left (sha256 body) rest (body_again whole m left h) (front_is (body ++ left) body left refl) (digest_again body whole rest)

-- ---- spellings in front of one another

-- where two values are read from the same bytes, they are the same, and nothing else is left
pub alone : {X : Type 0} (x y : X) (a b : List ℕ) (read : Result (X × List ℕ) DecodeFault) → read ≡ Ok (x, a) → read ≡ Ok (y, b) → (x ≡ y) × (a ≡ b)
alone {X} x y a b read e f =
    let left : X × List ℕ = (x, a) in
    let right : X × List ℕ = (y, b) in
    let same = ok_is left right (sym e ∙ f) in
    (ap (λ (p : X × List ℕ). p.0) same, ap (λ (p : X × List ℕ). p.1) same)

pub records_alone : (count : ℕ) (r other : Record) (rest : List ℕ) → IsSpellableRecord count r → IsSpellableRecord count other → record_bytes other ≡ record_bytes r ++ rest → (r ≡ other) × (rest ≡ [])
records_alone count r other rest h g e =
    let whole = sym (append-nil (record_bytes other)) in
    alone r other rest [] (record_at count 0 (record_bytes r ++ rest)) (record_again count 0 r rest h) (ap (record_at count 0) (sym e ∙ whole) ∙ record_again count 0 other [] g)

pub messages_alone : (m other : Message) (rest : List ℕ) → IsSpellableMessage m → IsSpellableMessage other → message_bytes other ≡ message_bytes m ++ rest → (m ≡ other) × (rest ≡ [])
messages_alone m other rest h g e =
    let whole = sym (append-nil (message_bytes other)) in
    alone m other rest [] (message_at 0 (message_bytes m ++ rest)) (message_again 0 m rest h) (ap (message_at 0) (sym e ∙ whole) ∙ message_again 0 other [] g)
