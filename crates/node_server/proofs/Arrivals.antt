-- How the bytes that reads bring stand behind those that were unread.
use Rattle.std.proofs.Common.{◌≡◌, ℕ, ◌+◌, ◌<◌, ◌≤◌, Bool, true, false, List, [], ◌∷◌, ◌++◌, length, take, drop, refl, sym, ◌∙◌, ap, subst, arith, append_assoc, append-nil, length-append, length-drop, take-add}
use Rattle.std.proofs.lemmas.List.{drop-append-le, length-take-le}
use Rattle.std.proofs.lemmas.Bool.{ne_eqb}
use Rattle.std.specs.Prelude.{Ok, ◌==◌}
use Rattle.outside_io.specs.Causes.{Rose}
use Rattle.outside_io.specs.Net.{Talks}
use Rattle.outside_io.specs.Seen.{NetSeen}
use Rattle.outside_io.specs.Laws.Talks.{talks_join, talks_none}
use Rattle.link_codec.specs.declared.frames.Frame.{Frame}
use Rattle.link_codec.specs.Frames.{DecodesFrame, IsBadFrame, IsCutFrame}
use Rattle.node_server.specs.Arriving.{ComesTo, end_next}
use Rattle.node_server.specs.Rooms.{Brings, Fills, Reads}
use Rattle.node_server.specs.declared.arrival.Arrival.{Arrival}
use Rattle.node_server.specs.declared.arrival.Arrival.TheVariants.{Bytes, End, Failed, NoMemory}
use Rattle.node_server.specs.declared.next.Next.{Next}
use Rattle.node_server.specs.declared.next.Next.TheVariants as nexts

drop_front : (front back : List ℕ) → drop (length front) (front ++ back) ≡ back
drop_front [] back = refl
drop_front (x ∷ front) back = drop_front front back

-- what a read brought stands behind what was unread
pub came : (from place count : ℕ) (old new unread : List ℕ) → from ≤ place → place ≤ length new → take place new ≡ take place old → drop from (take place old) ≡ unread
    → drop from (take (place + count) new) ≡ unread ++ take count (drop place new)
came from place count old new unread order within front was =
    let long : from ≤ length (take place new) = omega (arith, length-take-le place new within, order) in
    ap (λ xs. drop from xs) (take-add place count new) ∙ drop-append-le from (take place new) (take count (drop place new)) long
    ∙ ap (λ xs. drop from xs ++ take count (drop place new)) front ∙ ap (λ xs. xs ++ take count (drop place new)) was

pub fills : (unread rest got : List ℕ) (old new : NetSeen) (arrival : Arrival) → rest ≡ unread ++ got → Brings old new got arrival → Fills unread rest old new arrival
fills unread rest got old new arrival is brings =
    let back : drop (length unread) rest ≡ got = ap (λ xs. drop (length unread) xs) is ∙ drop_front unread got in
    record {
      kept = is ∙ ap (λ xs. unread ++ xs) (sym back);
      brings = subst (λ (xs : List ℕ). Brings old new xs arrival) (sym back) brings;
    }

pub reads_none : (unread : List ℕ) (net : NetSeen) → Reads unread unread net net
reads_none unread net = record { got = []; talks = talks_none net; behind = sym (append-nil unread); steady = refl }

pub reads_more : (first now rest : List ℕ) (old mid new : NetSeen) → Reads first now old mid → Fills now rest mid new Bytes → Reads first rest old new
reads_more first now rest old mid new reads fill = record {
  got = reads.got ++ drop (length now) rest;
  talks = talks_join old mid new [] reads.got [] (drop (length now) rest) false false reads.talks fill.brings.0;
  behind = fill.kept ∙ ap (λ xs. xs ++ drop (length now) rest) reads.behind ∙ append_assoc first reads.got (drop (length now) rest);
  steady = fill.brings.2 ∙ reads.steady;
}

pub longer : (now rest : List ℕ) (old new : NetSeen) → Fills now rest old new Bytes → length now < length rest
longer now rest old new fill = omega (arith, ap length fill.kept, length-append now (drop (length now) rest), fill.brings.1)

pub frame_comes : (first now : List ℕ) (old new : NetSeen) (frame : Frame) (size : ℕ) → Reads first now old new → DecodesFrame now (Ok (frame, size)) → ComesTo first (drop size now) old new (nexts.Frame frame)
frame_comes first now old new frame size reads decodes = record {
  got = reads.got;
  at_end = false;
  talks = reads.talks;
  found = (sym reads.behind ∙ decodes.2, decodes.0, refl);
  cause = reads.steady;
}

pub bad_comes : (first now : List ℕ) (old new : NetSeen) → Reads first now old new → IsBadFrame now → ComesTo first now old new nexts.Bad
bad_comes first now old new reads bad = record {
  got = reads.got;
  at_end = false;
  talks = reads.talks;
  found = (sym reads.behind, bad, refl);
  cause = reads.steady;
}

pub no_memory_comes : (first now : List ℕ) (old new : NetSeen) → Reads first now old new → ComesTo first now old new nexts.NoMemory
no_memory_comes first now old new reads = record {
  got = reads.got;
  at_end = false;
  talks = reads.talks;
  found = (sym reads.behind, refl);
  cause = reads.steady;
}

nothing_came : (now rest : List ℕ) (old new : NetSeen) (arrival : Arrival) → Fills now rest old new arrival → drop (length now) rest ≡ [] → rest ≡ now
nothing_came now rest old new arrival fill none = fill.kept ∙ ap (λ xs. now ++ xs) none ∙ append-nil now

pub no_room_comes : (first now rest : List ℕ) (old mid new : NetSeen) → Reads first now old mid → Fills now rest mid new NoMemory → ComesTo first rest old new nexts.NoMemory
no_room_comes first now rest old mid new reads fill =
    let same : rest ≡ now = nothing_came now rest mid new NoMemory fill fill.brings.1 in
    subst (λ (xs : List ℕ). ComesTo first xs old new nexts.NoMemory) (sym same)
    (subst (λ (net : NetSeen). ComesTo first now old net nexts.NoMemory) (sym fill.brings.0) (no_memory_comes first now old mid reads))

pub failed_comes : (first now rest : List ℕ) (old mid new : NetSeen) → Reads first now old mid → IsCutFrame now → Fills now rest mid new Failed → ComesTo first rest old new nexts.Failed
failed_comes first now rest old mid new reads cut fill =
    let none : drop (length now) rest ≡ [] = fill.brings.1 in
    let same : rest ≡ now = nothing_came now rest mid new Failed fill none in
    record {
      got = reads.got ++ drop (length now) rest;
      at_end = false;
      talks = talks_join old mid new [] reads.got [] (drop (length now) rest) false false reads.talks fill.brings.0;
      found = (ap (λ xs. first ++ (reads.got ++ xs)) none ∙ ap (λ xs. first ++ xs) (append-nil reads.got) ∙ sym reads.behind ∙ sym same, subst (λ (xs : List ℕ). IsCutFrame xs) (sym same) cut, refl);
      cause = subst (λ (n : ℕ). Rose n new.line_faults) reads.steady fill.brings.2;
    }

ends : (first got rest : List ℕ) (old new : NetSeen) → Talks old new [] got true → first ++ got ≡ rest → IsCutFrame rest → new.line_faults ≡ old.line_faults → ComesTo first rest old new (end_next rest)
ends first got [] old new talks is cut steady = record { got = got; at_end = true; talks = talks; found = (is, refl, refl); cause = steady }
ends first got (x ∷ rest) old new talks is cut steady = record { got = got; at_end = true; talks = talks; found = (is, cut, (λ none. absurd (cc none)), refl); cause = steady }

pub end_comes : (first now rest : List ℕ) (old mid new : NetSeen) → Reads first now old mid → IsCutFrame now → Fills now rest mid new End → ComesTo first rest old new (end_next rest)
end_comes first now rest old mid new reads cut fill =
    let none : drop (length now) rest ≡ [] = fill.brings.1 in
    let same : rest ≡ now = nothing_came now rest mid new End fill none in
    ends first (reads.got ++ drop (length now) rest) rest old new
    (talks_join old mid new [] reads.got [] (drop (length now) rest) false true reads.talks fill.brings.0)
    (ap (λ xs. first ++ (reads.got ++ xs)) none ∙ ap (λ xs. first ++ xs) (append-nil reads.got) ∙ sym reads.behind ∙ sym same)
    (subst (λ (xs : List ℕ). IsCutFrame xs) (sym same) cut)
    (fill.brings.2 ∙ reads.steady)

pub end_answered : (first now rest bytes last : List ℕ) (old mid new : NetSeen) (next : Next) → Reads first now old mid → bytes ≡ now → IsCutFrame bytes → Fills now rest mid new End
    → last ≡ rest → next ≡ end_next last → ComesTo first rest old new next
end_answered first now rest bytes last old mid new next reads same cut fill whole is =
    let at_end : next ≡ end_next rest = is ∙ ap end_next whole in
    subst (λ (n : Next). ComesTo first rest old new n) (sym at_end)
    (end_comes first now rest old mid new reads (subst (λ (xs : List ℕ). IsCutFrame xs) same cut) fill)

pub failed_answered : (first now rest bytes : List ℕ) (old mid new : NetSeen) → Reads first now old mid → bytes ≡ now → IsCutFrame bytes → Fills now rest mid new Failed
    → ComesTo first rest old new nexts.Failed
failed_answered first now rest bytes old mid new reads same cut fill =
    failed_comes first now rest old mid new reads (subst (λ (xs : List ℕ). IsCutFrame xs) same cut) fill

not_at_end : (count : ℕ) → (count ≡ 0 → ⊥) → (count == 0) ≡ false
not_at_end count more = ne_eqb count 0 more

-- a read that gave something
pub filled : (from place count : ℕ) (first old new unread : List ℕ) (before after : NetSeen) → unread ≡ first → first ≡ drop from (take place old) → from ≤ place → place + count ≤ length new
    → take place new ≡ take place old → (count ≡ 0 → ⊥) → Talks before after [] (take count (drop place new)) (count == 0) → after.line_faults ≡ before.line_faults
    → Fills unread (drop from (take (place + count) new)) before after Bytes
filled from place count first old new unread before after is was order within front more talks steady =
    let there : place ≤ length new = omega (arith, within) in
    let long : 0 < length (take count (drop place new)) = omega (arith, length-take-le count (drop place new) (omega (arith, length-drop place new, within)), more) in
    fills unread (drop from (take (place + count) new)) (take count (drop place new)) before after Bytes
    (came from place count old new unread order there front (sym was ∙ sym is))
    (subst (λ (e : Bool). Talks before after [] (take count (drop place new)) e) (not_at_end count more) talks, long, steady)
