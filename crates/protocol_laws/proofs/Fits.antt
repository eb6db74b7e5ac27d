use Rattle.std.proofs.Common.{◌≡◌, ◌∙◌, ap, refl, sym, map, ℕ, Bool, true, false, ◌||◌, List, get_or, Contains}
use Rattle.std.proofs.lemmas.List.Elements.{Contains-get_or}
use Rattle.std.proofs.lemmas.Bool.{or_left, or_right, both_ways, false_from_ne_true, true_from_ne_false}
use Rattle.std.proofs.lemmas.Cmp.{nat_list_eq_equiv}
use Rattle.helios_model.specs.declared.ids.Version.{Version}
use Rattle.helios_model.specs.declared.transactions.ReadItem.{ReadItem}
use Rattle.helios_model.specs.declared.transactions.WriteItem.{WriteItem}
use Rattle.helios_model.specs.declared.ids.TxnId.{TxnId}
use Rattle.helios_model.specs.declared.records.Record.{Record}
use Rattle.helios_model.specs.Transactions.{Transaction, Asking, Touched, touched_by, touched_by_ask, writes_key, keys_overwrite, keys_conflict, conflict}
use Rattle.helios_model.specs.Texts.{same_text, contains_text}
use Rattle.helios_model.specs.Request.{asked, write_at}
use Rattle.protocol_laws.specs.Symmetry.{ConflictIsSymmetric}
use Rattle.helios_model.specs.Log.{event_at, version_after}
use Rattle.helios_model.specs.Serial.{Follows}
use Rattle.protocol_laws.proofs.Lists.{any_from, some_of, contains_map, map_twice}
use Rattle.protocol_laws.proofs.Ids.{same_key_back}

or_turned : (a b : Bool) → (a || b) ≡ (b || a)
or_turned true true = refl
or_turned true false = refl
or_turned false true = refl
or_turned false false = refl

pub keys_conflict_back : ConflictIsSymmetric
keys_conflict_back a b = or_turned (keys_overwrite a b) (keys_overwrite b a)

pub conflict_back : (p q : Transaction) → conflict p q ≡ conflict q p
conflict_back p q = keys_conflict_back (touched_by p) (touched_by q)

-- what a request asks for touches the same keys as the transaction that it becomes
pub asked_touches : (log : List Record) (id : TxnId) (ask : Asking) → touched_by (asked log id ask) ≡ touched_by_ask ask
asked_touches log id ask = ap (λ keys. record { read = map (λ r. r.key) ask.reads; written = keys }) (map_twice (λ (w : WriteItem). w.key) (write_at log) ask.puts)

-- one that writes a key which the other reads or writes conflicts with it
pub overwrites_touched : (a b : Touched) (key : List ℕ)
    → ((other : List ℕ) → same_text key other ≡ true → (contains_text a.read other || contains_text a.written other) ≡ true)
    → contains_text b.written key ≡ true → keys_conflict a b ≡ true
overwrites_touched a b key touched writes =
    let found = some_of (λ (other : List ℕ). same_text other key) b.written writes in
    let same : same_text key found.0 ≡ true = same_key_back key found.0 ∙ found.2 in
    or_right (keys_overwrite a b) (keys_overwrite b a)
    (any_from (λ other. contains_text a.read other || contains_text a.written other) b.written found.0 found.1 (touched found.0 same))

pub read_unwritten : (p q : Transaction) (r : ReadItem) → conflict p q ≡ false → Contains p.reads r → writes_key q r.key ≡ false
read_unwritten p q r apart there =
    false_from_ne_true (writes_key q r.key) (λ writes. both_ways (conflict p q) apart
    (overwrites_touched (touched_by p) (touched_by q) r.key
    (λ other same. or_left (contains_text (touched_by p).read other) (contains_text (touched_by p).written other)
    (any_from (λ key. same_text key other) (touched_by p).read r.key (contains_map (λ (x : ReadItem). x.key) p.reads r there) same)) writes))

pub write_unwritten : (p q : Transaction) (w : WriteItem) → conflict p q ≡ false → Contains p.writes w → writes_key q w.key ≡ false
write_unwritten p q w apart there =
    false_from_ne_true (writes_key q w.key) (λ writes. both_ways (conflict p q) apart
    (overwrites_touched (touched_by p) (touched_by q) w.key
    (λ other same. or_right (contains_text (touched_by p).read other) (contains_text (touched_by p).written other)
    (any_from (λ key. same_text key other) (touched_by p).written w.key (contains_map (λ (x : WriteItem). x.key) p.writes w there) same)) writes))

unwritten_stays : (key : List ℕ) (version : Version) (q : Transaction) (time : ℕ) → writes_key q key ≡ false
    → version ≡ version_after key version (event_at time q)
unwritten_stays key version q time unwritten = rw unwritten refl

-- versions that a transaction names stay the map's where one commits that does not conflict with it
pub follows_after : (versions : List ℕ → Version) (p q : Transaction) (time : ℕ) → conflict p q ≡ false → Follows versions p
    → Follows (λ key. version_after key (versions key) (event_at time q)) p
follows_after versions p q time apart h = record {
  reads = λ k d low. h.reads k d low
      ∙ unwritten_stays (get_or p.reads k d).key (versions (get_or p.reads k d).key) q time (read_unwritten p q (get_or p.reads k d) apart (Contains-get_or p.reads k d low));
  writes = λ k d low. h.writes k d low
      ∙ unwritten_stays (get_or p.writes k d).key (versions (get_or p.writes k d).key) q time (write_unwritten p q (get_or p.writes k d) apart (Contains-get_or p.writes k d low));
}

-- a map with the same versions is followed as well
pub follows_same : (versions others : List ℕ → Version) (p : Transaction) → ((key : List ℕ) → others key ≡ versions key) → Follows versions p → Follows others p
follows_same versions others p same h = record {
  reads = λ k d low. h.reads k d low ∙ sym (same (get_or p.reads k d).key);
  writes = λ k d low. h.writes k d low ∙ sym (same (get_or p.writes k d).key);
}

-- a transaction that writes a key conflicts with each one that reads or writes the key
pub conflict_of_read : (p q : Transaction) (r : ReadItem) → Contains p.reads r → writes_key q r.key ≡ true → conflict q p ≡ true
conflict_of_read p q r there writes =
    conflict_back q p ∙ true_from_ne_false (conflict p q) (λ apart. both_ways (writes_key q r.key) (read_unwritten p q r apart there) writes)

pub conflict_of_write : (p q : Transaction) (w : WriteItem) → Contains p.writes w → writes_key q w.key ≡ true → conflict q p ≡ true
conflict_of_write p q w there writes =
    conflict_back q p ∙ true_from_ne_false (conflict p q) (λ apart. both_ways (writes_key q w.key) (write_unwritten p q w apart there) writes)

pub conflict_of_writers : (p q : Transaction) (key : List ℕ) → writes_key p key ≡ true → writes_key q key ≡ true → conflict p q ≡ true
conflict_of_writers p q key first second =
    let found = some_of (λ (other : List ℕ). same_text other key) (touched_by p).written first in
    overwrites_touched (touched_by p) (touched_by q) key
    (λ other same. or_right (contains_text (touched_by p).read other) (contains_text (touched_by p).written other)
    (any_from (λ (k : List ℕ). same_text k other) (touched_by p).written found.0 found.1
    (sym (nat_list_eq_equiv.congr key found.0 other (same_key_back key found.0 ∙ found.2)) ∙ same))) second
