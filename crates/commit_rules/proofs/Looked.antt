-- What the rules of a request read of a ledger is what the log says.
use Rattle.std.proofs.Common.{◌≡◌, ap, refl, Bool, true, false, not, ◌⊎◌, inl, inr, List, [], ◌∷◌, map, find, ℕ}
use Rattle.std.proofs.lemmas.Bool.{cases_Bool}
use Rattle.helios_model.specs.declared.transactions.PutItem.{PutItem}
use Rattle.helios_model.specs.declared.transactions.ReadItem.{ReadItem}
use Rattle.helios_model.specs.declared.records.Record.{Record}
use Rattle.helios_model.specs.Ids.{same_version}
use Rattle.helios_model.specs.Log.{current}
use Rattle.helios_model.specs.Request.{stale_read, write_at}
use Rattle.version_store.specs.declared.held.Held.{Held}
use Rattle.version_store.specs.Store.{version_in}
use Rattle.commit_rules.specs.Answers.{is_stale_in, write_in}

find_agree : {X : Type 0} (p q : X → Bool) → ((x : X) → p x ≡ q x) → (xs : List X) → find p xs ≡ find q xs
find_agree p q same [] = refl
find_agree {X = X} p q same (x ∷ xs) = by_test (cases_Bool (q x)) (find_agree p q same xs)
  where
    by_test : (q x ≡ true) ⊎ (q x ≡ false) → find p xs ≡ find q xs → find p (x ∷ xs) ≡ find q (x ∷ xs)
    by_test (inl here) rest = rw (same x, here) refl
    by_test (inr other) rest = rw (same x, other) rest

map_agree : {X Y : Type 0} (f g : X → Y) → ((x : X) → f x ≡ g x) → (xs : List X) → map f xs ≡ map g xs
map_agree f g same [] = refl
map_agree f g same (x ∷ xs) = rw (same x, map_agree f g same xs) refl

module _ (log : List Record) (store : List (List ℕ × Held)) (versions : (key : List ℕ) → version_in store key ≡ current log key) where
  pub stale_looked : (reads : List ReadItem) → find (is_stale_in store) reads ≡ stale_read log reads
  stale_looked reads =
      find_agree (is_stale_in store) (λ r. not (same_version r.version (current log r.key))) (λ r. ap (λ v. not (same_version r.version v)) (versions r.key)) reads

  pub writes_looked : (puts : List PutItem) → map (write_in store) puts ≡ map (write_at log) puts
  writes_looked puts = map_agree (write_in store) (write_at log) (λ p. ap (λ v. record { key = p.key; value = p.value; over = v }) (versions p.key)) puts
