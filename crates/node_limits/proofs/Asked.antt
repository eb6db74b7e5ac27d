-- What a request within the limits becomes is a transaction within the limits.
use Rattle.std.proofs.Common.{◌≡◌, ◌≤◌, refl, List, [], ◌∷◌, length, map, IsTrue, ℕ}
use Rattle.std.specs.List.{list_any}
use Rattle.std.proofs.lemmas.List.{length-map}
use Rattle.helios_model.specs.declared.ids.TxnId.{TxnId}
use Rattle.helios_model.specs.declared.records.Record.{Record}
use Rattle.helios_model.specs.declared.transactions.PutItem.{PutItem}
use Rattle.helios_model.specs.Limits.{most_items}
use Rattle.helios_model.specs.Texts.{all_differ, same_text}
use Rattle.helios_model.specs.Transactions.{Asking, IsAsk, IsTransaction}
use Rattle.helios_model.specs.Request.{asked, write_at}

any_kept : {X Y : Type 0} (f : X → Y) (key : X → List ℕ) (key' : Y → List ℕ) → ((x : X) → key' (f x) ≡ key x) → (t : List ℕ) (xs : List X)
    → list_any (λ y. same_text (key' y) t) (map f xs) ≡ list_any (λ x. same_text (key x) t) xs
any_kept f key key' same t [] = refl
any_kept f key key' same t (x ∷ xs) = rw (same x, any_kept f key key' same t xs) refl

-- a map that keeps each item's key keeps whether the keys differ
differ_kept : {X Y : Type 0} (f : X → Y) (key : X → List ℕ) (key' : Y → List ℕ) → ((x : X) → key' (f x) ≡ key x) → (xs : List X)
    → all_differ key' (map f xs) ≡ all_differ key xs
differ_kept f key key' same [] = refl
differ_kept f key key' same (x ∷ xs) = rw (same x, any_kept f key key' same (key x) xs, differ_kept f key key' same xs) refl

pub written_few : (log : List Record) (puts : List PutItem) → length puts ≤ most_items → length (map (write_at log) puts) ≤ most_items
written_few log puts few = rw length-map few

pub written_differ : (log : List Record) (puts : List PutItem) → IsTrue (all_differ (λ p. p.key) puts) → IsTrue (all_differ (λ w. w.key) (map (write_at log) puts))
written_differ log puts differ =
    let same : all_differ (λ w. w.key) (map (write_at log) puts) ≡ all_differ (λ p. p.key) puts = differ_kept (write_at log) (λ p. p.key) (λ w. w.key) (λ x. refl) puts in
    rw same differ

pub asked_limits : (log : List Record) (id : TxnId) (ask : Asking) → IsAsk ask.reads ask.puts → IsTransaction (asked log id ask).reads (asked log id ask).writes
asked_limits log id ask h = record {
  few_reads = h.few_reads;
  few_writes = written_few log ask.puts h.few_puts;
  reads_differ = h.reads_differ;
  writes_differ = written_differ log ask.puts h.puts_differ;
}
