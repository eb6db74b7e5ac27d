-- Transactions and requests: what they hold, their limits, and which of them conflict.
use Rattle.std.specs.Prelude.{◌≤◌, ◌||◌, ℕ, Bool, IsTrue, List, length, map}
use Rattle.std.specs.List.{list_any}
use Rattle.helios_model.specs.declared.ids.TxnId.{TxnId}
use Rattle.helios_model.specs.declared.transactions.ReadItem.{ReadItem}
use Rattle.helios_model.specs.declared.transactions.WriteItem.{WriteItem}
use Rattle.helios_model.specs.declared.transactions.PutItem.{PutItem}
use Rattle.helios_model.specs.Limits.{most_items}
use Rattle.helios_model.specs.Texts.{all_differ, contains_text}

-- a transaction that a site took: its name, what it read, and what it writes over which versions
pub record Transaction : Type 0 where
  pub id : TxnId
  pub reads : List ReadItem
  pub writes : List WriteItem

-- what a client asks for: the versions that it read, and the values that it wants to write
pub record Asking : Type 0 where
  pub reads : List ReadItem
  pub puts : List PutItem

-- at most sixteen reads and sixteen writes, with distinct keys in each of the two lists
pub record IsTransaction (reads : List ReadItem) (writes : List WriteItem) : Type 0 where
  pub few_reads : length reads ≤ most_items
  pub few_writes : length writes ≤ most_items
  pub reads_differ : IsTrue (all_differ (λ r. r.key) reads)
  pub writes_differ : IsTrue (all_differ (λ w. w.key) writes)

-- the same of what a client asks for
pub record IsAsk (reads : List ReadItem) (puts : List PutItem) : Type 0 where
  pub few_reads : length reads ≤ most_items
  pub few_puts : length puts ≤ most_items
  pub reads_differ : IsTrue (all_differ (λ r. r.key) reads)
  pub puts_differ : IsTrue (all_differ (λ p. p.key) puts)

-- the keys that are read, and the keys that are written
pub record Touched : Type 0 where
  pub read : List (List ℕ)
  pub written : List (List ℕ)

abbrev pub touched_by : Transaction → Touched
touched_by p = record { read = map (λ r. r.key) p.reads; written = map (λ w. w.key) p.writes }

abbrev pub touched_by_ask : Asking → Touched
touched_by_ask ask = record { read = map (λ r. r.key) ask.reads; written = map (λ p. p.key) ask.puts }

-- the one writes a key that the other reads or writes
abbrev pub keys_overwrite : Touched → Touched → Bool
keys_overwrite a b = list_any (λ key. contains_text b.read key || contains_text b.written key) a.written

-- some key that one of the two writes is read or written by the other
abbrev pub keys_conflict : Touched → Touched → Bool
keys_conflict a b = keys_overwrite a b || keys_overwrite b a

-- the same of two transactions, whatever their ids
abbrev pub conflict : Transaction → Transaction → Bool
conflict p q = keys_conflict (touched_by p) (touched_by q)

abbrev pub writes_key : Transaction → List ℕ → Bool
writes_key p key = contains_text (touched_by p).written key
