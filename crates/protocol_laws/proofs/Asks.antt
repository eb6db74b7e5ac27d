use Rattle.std.proofs.Common.{◌≡◌, ◌∙◌, ap, refl, ℕ, ◌<◌, ◌≤◌, Bool, true, false, not, IsTrue, Option, Some, None, option_map, nat_le, if◌then◌else◌, List, [], ◌∷◌, length, map}
use Rattle.std.specs.List.{list_any}
use Rattle.std.specs.Option.{option_or}
use Rattle.std.proofs.lemmas.List.{length-map}
use Rattle.std.proofs.lemmas.List.Elements.{All-map, All-weaker}
use Rattle.std.proofs.lemmas.Bool.{not-false, leb-false}
use Rattle.helios_model.specs.declared.ids.TxnId.{TxnId}
use Rattle.helios_model.specs.declared.transactions.PutItem.{PutItem}
use Rattle.helios_model.specs.declared.records.Record.{Record}
use Rattle.helios_model.specs.declared.entries.Reply.TheVariants.{Overwritten, Conflict, PoolFull}
use Rattle.helios_model.specs.Limits.{most_items, most_open}
use Rattle.helios_model.specs.Ids.{same_version}
use Rattle.helios_model.specs.Texts.{all_differ, same_text}
use Rattle.helios_model.specs.Transactions.{Asking, conflict, keys_conflict, touched_by, touched_by_ask}
use Rattle.helios_model.specs.Log.{current, unfinished}
use Rattle.helios_model.specs.Node.{Node, own_open}
use Rattle.helios_model.specs.Request.{asked, clash, clash_refusal, refusal, room_refusal, stale_read, stale_refusal, write_at}
use Rattle.helios_model.specs.Serial.{Follows}
use Rattle.protocol_laws.specs.Order.{IsAsked}
use Rattle.protocol_laws.specs.Times.{AskedIsTransaction}
use Rattle.protocol_laws.proofs.Lists.{find_none}
use Rattle.protocol_laws.proofs.Ids.{same_version_is}
use Rattle.protocol_laws.proofs.Fits.{asked_touches}

-- a request becomes a transaction

any_kept : {X Y : Type 0} (f : X → Y) (key : X → List ℕ) (key' : Y → List ℕ) → ((x : X) → key' (f x) ≡ key x) → (t : List ℕ) (xs : List X)
    → list_any (λ y. same_text (key' y) t) (map f xs) ≡ list_any (λ x. same_text (key x) t) xs
any_kept f key key' same t [] = refl
any_kept f key key' same t (x ∷ xs) = rw (same x, any_kept f key key' same t xs) refl

-- a map that keeps each item's key keeps whether the keys differ
differ_kept : {X Y : Type 0} (f : X → Y) (key : X → List ℕ) (key' : Y → List ℕ) → ((x : X) → key' (f x) ≡ key x) → (xs : List X)
    → all_differ key' (map f xs) ≡ all_differ key xs
differ_kept f key key' same [] = refl
differ_kept f key key' same (x ∷ xs) = rw (same x, any_kept f key key' same (key x) xs, differ_kept f key key' same xs) refl

pub written_few : (log : List Record) (puts : List PutItem) → length puts ≤ most_items → length (map (write_at log) puts) ≤ most_items
written_few log puts few = rw length-map few

pub written_differ : (log : List Record) (puts : List PutItem) → IsTrue (all_differ (λ p. p.key) puts) → IsTrue (all_differ (λ w. w.key) (map (write_at log) puts))
written_differ log puts differ =
    let same : all_differ (λ w. w.key) (map (write_at log) puts) ≡ all_differ (λ p. p.key) puts = differ_kept (write_at log) (λ p. p.key) (λ w. w.key) (λ x. refl) puts in
    rw same differ

pub asked_is_transaction : AskedIsTransaction
asked_is_transaction log id ask h = record {
  few_reads = h.few_reads;
  few_writes = written_few log ask.puts h.few_puts;
  reads_differ = h.reads_differ;
  writes_differ = written_differ log ask.puts h.puts_differ;
}

pub follows_asked : (log : List Record) (id : TxnId) (ask : Asking) → stale_read log ask.reads ≡ None → Follows (current log) (asked log id ask)
follows_asked log id ask none = record {
  reads = All-weaker (λ r. not (same_version r.version (current log r.key)) ≡ false) (λ r. r.version ≡ current log r.key)
      (λ r fresh. same_version_is r.version (current log r.key) (not-false (same_version r.version (current log r.key)) fresh))
      ask.reads (find_none (λ r. not (same_version r.version (current log r.key))) ask.reads none);
  writes = All-map (λ w. w.over ≡ current log w.key) (write_at log) ask.puts (λ k d low. refl);
}

-- where a request is not refused, there is room, each read is of the current version, and no unfinished transaction conflicts
pub record IsFree (n : Node) (ask : Asking) : Type 0 where
  pub room : length (own_open n) < most_open
  pub fresh : stale_read n.log ask.reads ≡ None
  pub alone : clash n.log ask ≡ None

none_mapped : {X Y : Type 0} (f : X → Y) (o : Option X) → option_map f o ≡ None → o ≡ None
none_mapped f None e = refl
none_mapped f (Some x) e = absurd (cc)

none_first : {X : Type 0} (o other : Option X) → option_or o other ≡ None → (o ≡ None) × (other ≡ None)
none_first None other e = (refl, e)
none_first (Some x) other e = absurd (cc)

pub unrefused_free : (n : Node) (ask : Asking) → refusal n ask ≡ None → IsFree n ask
unrefused_free n ask none =
    let parts = none_first (room_refusal n) (option_or (stale_refusal n.log ask) (clash_refusal n.log ask)) none in
    let later = none_first (stale_refusal n.log ask) (clash_refusal n.log ask) parts.1 in
    record {
      room = by_test (nat_le most_open (length (own_open n))) refl parts.0;
      fresh = none_mapped (λ r. Overwritten r.key (current n.log r.key)) (stale_read n.log ask.reads) later.0;
      alone = none_mapped (λ q. Conflict q.id) (clash n.log ask) later.1;
    }
  where
    by_test : (full : Bool) → nat_le most_open (length (own_open n)) ≡ full → (if full then Some PoolFull else None) ≡ None → length (own_open n) < most_open
    by_test true look e = absurd (cc)
    by_test false look e = leb-false most_open (length (own_open n)) look

-- such a request follows the current versions, and no unfinished transaction conflicts with what it becomes
pub free_asked : (n : Node) (id : TxnId) (ask : Asking) → IsFree n ask → IsAsked n.log (asked n.log id ask)
free_asked n id ask h = record {
  follows = follows_asked n.log id ask h.fresh;
  alone = All-weaker (λ q. keys_conflict (touched_by_ask ask) (touched_by q) ≡ false) (λ q. conflict (asked n.log id ask) q ≡ false)
      (λ q apart. ap (λ keys. keys_conflict keys (touched_by q)) (asked_touches n.log id ask) ∙ apart)
      (unfinished n.log) (find_none (λ q. keys_conflict (touched_by_ask ask) (touched_by q)) (unfinished n.log) h.alone);
}
