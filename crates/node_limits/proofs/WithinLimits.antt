-- Each step keeps a node within the limits, and its answer has a spelling.
use Rattle.std.proofs.Common.{◌≡◌, ◌∙◌, refl, subst, ℕ, ◌+◌, ◌*◌, ◌<◌, ◌≤◌, Bool, true, false, ◌&&◌, Option, Some, None, List, [], ◌∷◌, ◌++◌, length, get_or, map, max, nat_le, cond, not, All, arith, le_trans}
use Rattle.std.specs.Option.{option_map, option_or}
use Rattle.std.proofs.lemmas.Nat.{mul-add-lt}
use Rattle.std.proofs.lemmas.List.{get_or-replicate, get_or-set_same, length-replicate}
use Rattle.std.proofs.lemmas.List.Elements.{All-filter, All-map, All-replicate}
use Rattle.std.proofs.lemmas.Bool.{cond_both, leb-false}
use Rattle.helios_model.specs.declared.ids.TxnId.{TxnId}
use Rattle.helios_model.specs.declared.transactions.PutItem.{PutItem}
use Rattle.helios_model.specs.declared.records.Record.TheVariants.{Prepare}
use Rattle.helios_model.specs.declared.messages.Message.{Message}
use Rattle.helios_model.specs.declared.entries.Entry.{Entry}
use Rattle.helios_model.specs.declared.entries.Input.{Input}
use Rattle.helios_model.specs.declared.entries.Input.TheVariants.{Get, Status, Request, Pull, Push}
use Rattle.helios_model.specs.declared.entries.Reply.{Reply}
use Rattle.helios_model.specs.declared.entries.Reply.TheVariants.{Prepared, Committed, Overwritten, Conflict, PoolFull}
use Rattle.helios_model.specs.Limits.{last_time, most_open, most_sites, spent_time}
use Rattle.helios_model.specs.Ids.{same_version}
use Rattle.helios_model.specs.Texts.{IsKey, IsValue}
use Rattle.helios_model.specs.Transactions.{Transaction, Asking, keys_conflict, touched_by, touched_by_ask}
use Rattle.helios_model.specs.Log.{current, current_value, finished, prepares, unfinished}
use Rattle.helios_model.specs.Spellable.{AreSpellablePuts, AreSpellableWrites, IsMessageOf, IsSpellableAsk, IsSpellableId, IsSpellablePrepare, IsSpellableReply, IsSpellableVersion}
use Rattle.helios_model.specs.Plans.{PlanData, count_of}
use Rattle.helios_model.specs.Node.{Node, Stepped, clamp, clock, empty_node, is_spent, known, next_time, own_open}
use Rattle.helios_model.specs.Settle.{ready, settle}
use Rattle.helios_model.specs.Request.{accept, asked, clash, clash_refusal, entered, next_id, refusal, room_refusal, stale_read, stale_refusal, unless_refused, write_at}
use Rattle.helios_model.specs.Messages.{advanced, arrived, pull, push}
use Rattle.helios_model.specs.Step.{IsOther, MayBeAsked, by_clock, is_journaled, step}
use Rattle.node_limits.specs.Limits.{IsSoundNode, IsWithinLimits}
use Rattle.node_limits.proofs.Asked.{written_differ, written_few}
use Rattle.node_limits.proofs.Lists.{OnFound, found_holds}
use Rattle.node_limits.proofs.OpenOnes.{own_prepare}
use Rattle.node_limits.proofs.Sound.{IsEnded, clock_put, node_put, own_place, prepares_spelled, ready_few, settled, sound_later, sound_own}
use Rattle.node_limits.proofs.ArrivedSound.{IsArrived, arrived_sound}
use Rattle.node_limits.proofs.Waiting.{advanced_ready, settled_waits}
use Rattle.node_limits.proofs.Spelled.{message_spelled, status_spelled, value_spelled, version_spelled, widened}

-- a node within the limits, and an answer that has a spelling
pub record IsFine (plan : PlanData) (s : Stepped) : Type 0 where
  pub node : IsWithinLimits plan s.node
  pub reply : IsSpellableReply s.reply

module _ (plan : PlanData) (n : Node) (h : IsWithinLimits plan n) where
  spelled : All (IsSpellablePrepare (count_of plan)) (prepares n.log)
  spelled = prepares_spelled (count_of plan) n.site (clock plan n) (known plan n n.site) n.log h.node.sound

  open_spelled : All (IsSpellablePrepare (count_of plan)) (unfinished n.log)
  open_spelled = All-filter (λ p. not (finished n.log p.id)) (IsSpellablePrepare (count_of plan)) (prepares n.log) spelled

  -- a refusal

  mapped_found : {X Y : Type 0} (P : X → Type 0) (Q : Y → Type 0) (f : X → Y) → ((x : X) → P x → Q (f x)) → (o : Option X) → OnFound P o → OnFound Q (option_map f o)
  mapped_found P Q f to None found = tt
  mapped_found P Q f to (Some x) found = to x found

  either_found : (a b : Option Reply) → OnFound IsSpellableReply a → OnFound IsSpellableReply b → OnFound IsSpellableReply (option_or a b)
  either_found None b first second = second
  either_found (Some x) b first second = first

  refusal_spelled : (ask : Asking) → IsSpellableAsk ask → OnFound IsSpellableReply (refusal n ask)
  refusal_spelled ask may =
      either_found (room_refusal n) (option_or (stale_refusal n.log ask) (clash_refusal n.log ask))
      (cond_both (nat_le most_open (length (own_open n))) (Some PoolFull) None (OnFound IsSpellableReply) (λ _. tt) (λ _. tt))
      (either_found (stale_refusal n.log ask) (clash_refusal n.log ask)
      (mapped_found (λ r. IsKey r.key) IsSpellableReply (λ r. Overwritten r.key (current n.log r.key))
      (λ r key. (key, version_spelled (count_of plan) n.log r.key h.few spelled)) (stale_read n.log ask.reads)
      (found_holds (λ r. IsKey r.key) (λ r. not (same_version r.version (current n.log r.key))) ask.reads may.reads.keys))
      (mapped_found (IsSpellablePrepare (count_of plan)) IsSpellableReply (λ q. Conflict q.id) (λ q its. widened (count_of plan) q.id h.few its.named) (clash n.log ask)
      (found_holds (IsSpellablePrepare (count_of plan)) (λ q. keys_conflict (touched_by_ask ask) (touched_by q)) (unfinished n.log) open_spelled)))

  none_first : (a b : Option Reply) → option_or a b ≡ None → a ≡ None
  none_first None b e = refl
  none_first (Some x) b e = absurd (cc)

  room_left : (full : Bool) → cond full (Some PoolFull) None ≡ None → full ≡ false
  room_left true e = absurd (cc)
  room_left false e = refl

  -- a request that is taken

  writes_spelled : (puts : List PutItem) → AreSpellablePuts puts → AreSpellableWrites (map (write_at n.log) puts)
  writes_spelled puts p = record {
    few = written_few n.log puts p.few;
    differ = written_differ n.log puts p.differ;
    keys = All-map (λ w. IsKey w.key) (write_at n.log) puts p.keys;
    values = All-map (λ w. IsValue w.value) (write_at n.log) puts p.values;
    versions = All-map (λ w. IsSpellableVersion w.over) (write_at n.log) puts (λ k d low. version_spelled (count_of plan) n.log (get_or puts k d).key h.few spelled);
  }

  accepted_fine : (reading : ℕ) (ask : Asking) → IsSpellableAsk ask → clock plan n < spent_time → length (own_open n) < most_open
      → IsFine plan (accept plan n (asked n.log (next_id plan n reading) ask))
  accepted_fine reading ask may below room =
      let id : TxnId = next_id plan n reading in
      let p : Transaction = asked n.log id ask in
      let m : Node = entered plan n p in
      let above : clock plan n < id.time = next_above in
      let low : id.time ≤ spent_time = next_low in
      let named : IsSpellableId (count_of plan) id = record { here = h.node.here; some = omega arith; last = omega arith } in
      let entered_node : IsSoundNode plan m =
      node_put plan n (n.log ++ Prepare p ∷ []) id.time h.node (omega arith)
      (sound_own (count_of plan) n.site (clock plan n) id.time (known plan n n.site) n.log (Prepare p) h.node.sound refl refl above
      (record { named = named; reads = may.reads; writes = writes_spelled ask.puts may.puts })) in
      let timed : clock plan m ≡ id.time = get_or-set_same n.table (n.site * count_of plan + n.site) id.time 0 (own_place plan n h.node.here h.node.sized) in
      let one_more : length (own_open m) ≤ length (own_open n) + 1 = own_prepare n.site n.log p in
      let ended : IsEnded plan m (settle plan m) (length (ready plan m)) = settled plan m entered_node (omega arith) in
      let few : length (ready plan m) ≤ length (own_open m) = ready_few plan m in
      let last : clock plan (settle plan m) ≡ clock plan m + length (ready plan m) = ended.timed in
      let left : length (own_open (settle plan m)) ≤ length (own_open m) = ended.fewer_open in
      record {
        node = record { few = h.few; node = ended.node; few_open = omega arith; low_clock = omega arith; waits = settled_waits plan m };
        reply = cond_both (finished (settle plan m).log id) (Committed id) (Prepared id) IsSpellableReply
            (λ _. widened (count_of plan) id h.few named) (λ _. widened (count_of plan) id h.few named);
      }
    where
      next_above : clock plan n < next_time plan n reading
      next_above = omega arith

      next_low : next_time plan n reading ≤ spent_time
      next_low = omega arith

  unless_refused_fine : (reading : ℕ) (ask : Asking) (o : Option Reply) → IsSpellableAsk ask → clock plan n < spent_time → refusal n ask ≡ o
      → IsFine plan (unless_refused plan n (asked n.log (next_id plan n reading) ask) o)
  unless_refused_fine reading ask (Some reply) may below look = record { node = h; reply = subst (OnFound IsSpellableReply) look (refusal_spelled ask may) }
  unless_refused_fine reading ask None may below look =
      accepted_fine reading ask may below
      (leb-false most_open (length (own_open n)) (room_left (nat_le most_open (length (own_open n)))
      (none_first (room_refusal n) (option_or (stale_refusal n.log ask) (clash_refusal n.log ask)) look)))

  -- a clock that comes to a reading

  record IsAdvanced (m : Node) : Type 0 where
    node : IsSoundNode plan m
    low : clock plan m < spent_time

  advanced_sound : (reading : ℕ) → clock plan n < spent_time → IsAdvanced (advanced plan n reading)
  advanced_sound reading below =
      let time : ℕ = max (clock plan n) (clamp reading) in
      let low : time < spent_time = omega arith in
      let timed : clock plan (advanced plan n reading) ≡ time = clock_put plan n time h.node in
      record {
        node = node_put plan n n.log time h.node (omega arith)
            (sound_later (count_of plan) n.site (clock plan n) time (known plan n n.site) (known plan n n.site) n.log h.node.sound (omega arith) (λ k d inside other. omega arith));
        low = omega arith;
      }

  pulled_fine : (reading to : ℕ) → IsOther plan n.site to → clock plan n < spent_time → IsFine plan (pull plan n reading to)
  pulled_fine reading to other below =
      let m : Node = advanced plan n reading in
      let a : IsAdvanced m = advanced_sound reading below in
      let low : clock plan m < spent_time = a.low in
      record {
        node = record { few = h.few; node = a.node; few_open = h.few_open; low_clock = omega arith; waits = advanced_ready plan n reading ∙ h.waits };
        reply = message_spelled plan m to h.few a.node other;
      }

  pushed_fine : (reading : ℕ) (m : Message) → IsMessageOf (count_of plan) m → clock plan n < spent_time → IsFine plan (push plan n reading m)
  pushed_fine reading m message below =
      let a : Node = advanced plan n reading in
      let came : IsAdvanced a = advanced_sound reading below in
      let low : clock plan a < spent_time = came.low in
      let few : length (own_open n) ≤ most_open = h.few_open in
      let r : Node = arrived plan a m in
      let arrival : IsArrived plan a r = arrived_sound plan a m came.node message few (omega arith) in
      let sum : clock plan r + length (own_open r) ≤ clock plan a + length (own_open a) = arrival.sum in
      let few_left : length (own_open r) ≤ most_open = arrival.few in
      let ended : IsEnded plan r (settle plan r) (length (ready plan r)) = settled plan r arrival.node (omega arith) in
      let some : length (ready plan r) ≤ length (own_open r) = ready_few plan r in
      let timed : clock plan (settle plan r) ≡ clock plan r + length (ready plan r) = ended.timed in
      record {
        node = record { few = h.few; node = ended.node; few_open = le_trans ended.fewer_open few_left; low_clock = omega arith; waits = settled_waits plan r };
        reply = tt;
      }

  clock_fine : (reading : ℕ) (input : Input) (spent : Bool) → MayBeAsked plan n.site input → (is_journaled input && is_spent plan n) ≡ spent
      → IsFine plan (by_clock plan n reading input spent)
  clock_fine reading input true may look = record { node = h; reply = tt }
  clock_fine reading (Get key) false may look =
      record { node = h; reply = (version_spelled (count_of plan) n.log key h.few spelled, value_spelled (count_of plan) n.log key spelled) }
  clock_fine reading (Status id) false may look = record { node = h; reply = status_spelled (count_of plan) n id h.few h.node.sound.records }
  clock_fine reading (Request ask) false may look = unless_refused_fine reading ask (refusal n ask) may (leb-false spent_time (clock plan n) look) refl
  clock_fine reading (Pull to) false may look = pulled_fine reading to may (leb-false spent_time (clock plan n) look)
  clock_fine reading (Push m) false may look = pushed_fine reading m may.message (leb-false spent_time (clock plan n) look)

  pub step_fine : (e : Entry) → MayBeAsked plan n.site e.input → IsFine plan (step plan n e)
  step_fine e may = clock_fine e.reading e.input (is_journaled e.input && is_spent plan n) may refl

pub step_within : (plan : PlanData) (n : Node) (e : Entry) → IsWithinLimits plan n → MayBeAsked plan n.site e.input → IsWithinLimits plan (step plan n e).node
step_within plan n e h may = (step_fine plan n h e may).node

pub reply_spelled : (plan : PlanData) (n : Node) (e : Entry) → IsWithinLimits plan n → MayBeAsked plan n.site e.input → IsSpellableReply (step plan n e).reply
reply_spelled plan n e h may = (step_fine plan n h e may).reply

pub current_fine : (plan : PlanData) (n : Node) (key : List ℕ) → IsWithinLimits plan n → IsSpellableVersion (current n.log key)
current_fine plan n key h = version_spelled (count_of plan) n.log key h.few (spelled plan n h)

pub value_fine : (plan : PlanData) (n : Node) (key : List ℕ) → IsSoundNode plan n → IsValue (current_value n.log key)
value_fine plan n key h = value_spelled (count_of plan) n.log key (prepares_spelled (count_of plan) n.site (clock plan n) (known plan n n.site) n.log h.sound)

pub empty_within : (plan : PlanData) (site : ℕ) → count_of plan ≤ most_sites → site < count_of plan → IsWithinLimits plan (empty_node plan site)
empty_within plan site few here =
    let square : ℕ = count_of plan * count_of plan in
    let still : clock plan (empty_node plan site) ≡ 0 = get_or-replicate square (site * count_of plan + site) 0 0 (mul-add-lt site (count_of plan) site (count_of plan) here here) in
    record {
      few = few;
      node = record {
        here = here;
        sized = length-replicate square 0;
        small = All-replicate (λ time. time ≤ last_time) square 0 (omega arith);
        sound = record {
          records = λ k d low. absurd (omega arith);
          rise = λ i j d first second. absurd (omega arith);
          own = λ k d low. absurd (omega arith);
          others = λ k d low. absurd (omega arith);
        };
      };
      few_open = omega arith;
      low_clock = omega arith;
      waits = refl;
    }
