-- A sound node that takes a message in is sound.
use Rattle.std.proofs.Common.{◌≡◌, ◌≢◌, ◌∙◌, ap, refl, sym, subst, ℕ, ◌+◌, ◌*◌, ◌/◌, ◌%◌, ◌<◌, ◌≤◌, eq-eqb, List, [], length, get_or, max, nat_eq, All, arith}
use Rattle.std.specs.List.{range_with_len}
use Rattle.std.specs.Prelude.{slice_index}
use Rattle.std.proofs.lemmas.Nat.{div-mul-add, mod-mul-add, mul-add-lt}
use Rattle.std.proofs.lemmas.List.{get_or-set_same}
use Rattle.std.proofs.lemmas.List.FromFn.{get_or-map-range_with_len, length-map-range_with_len}
use Rattle.std.proofs.lemmas.List.Elements.{All-map, All-set}
use Rattle.std.proofs.lemmas.Bool.{cond_both, eqb-true, false_from_ne_true}
use Rattle.helios_model.specs.declared.messages.Message.{Message}
use Rattle.helios_model.specs.Limits.{last_time, most_open}
use Rattle.helios_model.specs.Grid.{at, put}
use Rattle.helios_model.specs.Log.{origin, own_time}
use Rattle.helios_model.specs.Spellable.{IsMessageOf, IsSpellableRecord}
use Rattle.helios_model.specs.Exchange.{Intake, merged, merged_at, own_merged, take_all}
use Rattle.helios_model.specs.Plans.{PlanData, count_of}
use Rattle.helios_model.specs.Node.{Node, clock, known, own_open}
use Rattle.helios_model.specs.Messages.{arrived, intake_of}
use Rattle.node_limits.specs.Limits.{IsSound, IsSoundNode}
use Rattle.node_limits.proofs.OpenOnes.{own_in}
use Rattle.node_limits.proofs.Sound.{known_put, own_place, sound_later}
use Rattle.node_limits.proofs.TakenSound.{IsTaking, took_all}
use Rattle.node_limits.proofs.Spelled.{origin_below, small_at}

-- what the own row has once a message is merged
merged_row : (count own : ℕ) (table theirs cover : List ℕ) (k : ℕ) → own < count → k < count
    → at count (merged count own table theirs cover) own k ≡ own_merged own k (at count table own k) (slice_index cover k)
merged_row count own table theirs cover k here low =
    let place : ℕ = own * count + k in
    get_or-map-range_with_len (λ x. merged_at count own table theirs cover (x / count) (x % count)) 0 (count * count) place place 0
    (mul-add-lt own count k count here low) (omega arith)
    ∙ ap (λ row. merged_at count own table theirs cover row (place % count)) (div-mul-add own count k low)
    ∙ ap (λ column. merged_at count own table theirs cover own column) (mod-mul-add own count k low)
    ∙ rw (eq-eqb own own refl) refl

merged_small : (count own : ℕ) (table theirs cover : List ℕ) → All (λ t. t ≤ last_time) table → All (λ t. t ≤ last_time) theirs → All (λ t. t ≤ last_time) cover
    → All (λ t. t ≤ last_time) (merged count own table theirs cover)
merged_small count own table theirs cover a b c =
    All-map (λ t. t ≤ last_time) (λ x. merged_at count own table theirs cover (x / count) (x % count)) (range_with_len 0 (count * count))
    (λ k d low. each (get_or (range_with_len 0 (count * count)) k d / count) (get_or (range_with_len 0 (count * count)) k d % count))
  where
    each : (row column : ℕ) → merged_at count own table theirs cover row column ≤ last_time
    each row column =
        let mine : at count table row column ≤ last_time = small_at table (row * count + column) a in
        let its : at count theirs row column ≤ last_time = small_at theirs (row * count + column) b in
        let told : slice_index cover column ≤ last_time = small_at cover column c in
        cond_both (nat_eq row own) (own_merged own column (at count table row column) (slice_index cover column)) (max (at count table row column) (at count theirs row column)) (λ t. t ≤ last_time)
        (λ _. cond_both (nat_eq column own) (at count table row column) (max (at count table row column) (slice_index cover column)) (λ t. t ≤ last_time) (λ _. mine) (λ _. omega arith))
        (λ _. omega arith)

-- the node that a message brings a node to
pub record IsArrived (plan : PlanData) (n m : Node) : Type 0 where
  pub node : IsSoundNode plan m
  pub sum : clock plan m + length (own_open m) ≤ clock plan n + length (own_open n)
  pub few : length (own_open m) ≤ most_open

module _ (plan : PlanData) (n : Node) (m : Message) (h : IsSoundNode plan n) (message : IsMessageOf (count_of plan) m) where
  taking : length (own_open n) ≤ most_open → IsTaking (count_of plan) n.site (known plan n n.site) (slice_index m.cover) (clock plan n + length (own_open n)) (intake_of plan n) m.records
  taking few = record {
    sound = sound_later (count_of plan) n.site (clock plan n) (clock plan n) (known plan n n.site) (λ k. max (known plan n n.site k) (slice_index m.cover k)) n.log h.sound (omega arith)
        (λ k d low other. omega arith);
    ahead = λ k d inside. λ j e low other same above.
        let old : own_time (get_or n.log k d) ≤ known plan n n.site (origin (get_or n.log k d)) = h.sound.others k d inside (λ own. other (sym same ∙ own)) in
        let row : known plan n n.site (origin (get_or n.log k d)) ≡ known plan n n.site (origin (get_or m.records j e)) = ap (known plan n n.site) same in
        omega arith;
    sum = omega arith;
    few = few;
  }

  pub arrived_sound : length (own_open n) ≤ most_open → clock plan n + length (own_open n) ≤ last_time → IsArrived plan n (arrived plan n m)
  arrived_sound few low =
      let a : Intake = take_all n.site (known plan n n.site) (intake_of plan n) m.records in
      let t : IsTaking (count_of plan) n.site (known plan n n.site) (slice_index m.cover) (clock plan n + length (own_open n)) a [] =
      took_all (count_of plan) n.site (known plan n n.site) (slice_index m.cover) (clock plan n + length (own_open n)) low (intake_of plan n) m.records (taking few)
      (subst (λ c. All (IsSpellableRecord c) m.records) message.counted message.spellable.records) message.spellable.covered message.spellable.rise in
      let sum : a.clock + length (own_in n.site a.log) ≤ clock plan n + length (own_open n) = t.sum in
      let table : List ℕ = put (count_of plan) n.table n.site n.site a.clock in
      let inside : n.site * count_of plan + n.site < length n.table = own_place plan n h.here h.sized in
      let timed : at (count_of plan) table n.site n.site ≡ a.clock = get_or-set_same n.table (n.site * count_of plan + n.site) a.clock 0 inside in
      let home : clock plan (arrived plan n m) ≡ a.clock =
      merged_row (count_of plan) n.site table m.table m.cover n.site h.here h.here ∙ rw (eq-eqb n.site n.site refl) timed in
      record {
        node = record {
          here = h.here;
          sized = length-map-range_with_len (λ x. merged_at (count_of plan) n.site table m.table m.cover (x / count_of plan) (x % count_of plan)) 0 (count_of plan * count_of plan);
          small = merged_small (count_of plan) n.site table m.table m.cover
              (All-set (λ x. x ≤ last_time) n.table (n.site * count_of plan + n.site) a.clock (omega arith) h.small) message.spellable.table message.spellable.cover;
          sound = subst (λ c. IsSound (count_of plan) n.site c (known plan (arrived plan n m) n.site) a.log) (sym home)
              (sound_later (count_of plan) n.site a.clock a.clock (λ k. max (known plan n n.site k) (slice_index m.cover k)) (known plan (arrived plan n m) n.site) a.log t.sound (omega arith)
              (λ k d low other. subst (λ x. max (known plan n n.site (origin (get_or a.log k d))) (slice_index m.cover (origin (get_or a.log k d))) ≤ x)
              (sym (row_after (origin (get_or a.log k d)) a.clock other (origin_below (count_of plan) (get_or a.log k d) (t.sound.records k d low)))) (omega arith)));
        };
        sum = subst (λ c. c + length (own_in n.site a.log) ≤ clock plan n + length (own_open n)) (sym home) sum;
        few = t.few;
      }
    where
      row_after : (k time : ℕ) → k ≢ n.site → k < count_of plan
          → at (count_of plan) (merged (count_of plan) n.site (put (count_of plan) n.table n.site n.site time) m.table m.cover) n.site k ≡ max (known plan n n.site k) (slice_index m.cover k)
      row_after k time other low =
          merged_row (count_of plan) n.site (put (count_of plan) n.table n.site n.site time) m.table m.cover k h.here low
          ∙ rw (false_from_ne_true (nat_eq k n.site) (λ same. other (eqb-true k n.site same))) (ap (λ x. max x (slice_index m.cover k)) (known_put plan n time k other))
