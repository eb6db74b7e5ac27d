-- What a batch asks of its site may be asked.
use Rattle.std.proofs.Common.{All, length, ◌≡◌, ◌∙◌, ap, sym, subst, ℕ, List, [], ◌∷◌, map, refl}
use Rattle.std.specs.List.{list_any}
use Rattle.std.proofs.lemmas.List.{length-map}
use Rattle.std.proofs.lemmas.List.Elements.{All-head, All-tail, All-cons, All-nil}
use Rattle.helios_model.specs.declared.transactions.ReadItem.{ReadItem}
use Rattle.helios_model.specs.declared.transactions.PutItem.{PutItem}
use Rattle.helios_model.specs.Texts.{IsKey, all_differ, same_text}
use Rattle.helios_model.specs.Transactions.{IsAsk}
use Rattle.helios_model.specs.Spellable.{IsSpellableVersion, AreSpellablePuts, IsSpellableAsk}
use Rattle.schedule_text.specs.declared.planned.PlannedRead.{PlannedRead}
use Rattle.schedule_text.specs.Steps.{ArePlannedReads}

-- whether texts differ, of the texts alone
any_by_text : {X : Type 0} (key : X → List ℕ) (t : List ℕ) (xs : List X) → list_any (λ x. same_text (key x) t) xs ≡ list_any (λ k. same_text k t) (map key xs)
any_by_text key t [] = refl
any_by_text key t (x ∷ xs) = rw (any_by_text key t xs) refl

differ_by_text : {X : Type 0} (key : X → List ℕ) (xs : List X) → all_differ key xs ≡ all_differ (λ k. k) (map key xs)
differ_by_text key [] = refl
differ_by_text key (x ∷ xs) = rw (any_by_text key (key x) xs, differ_by_text key xs) refl

-- two lists with the same texts differ alike
differ_alike : {X Y : Type 0} (key : X → List ℕ) (key' : Y → List ℕ) (xs : List X) (ys : List Y) → map key xs ≡ map key' ys → all_differ key xs ≡ all_differ key' ys
differ_alike key key' xs ys same = differ_by_text key xs ∙ ap (all_differ (λ k. k)) same ∙ sym (differ_by_text key' ys)

length_by_text : {X Y : Type 0} (key : X → List ℕ) (key' : Y → List ℕ) (xs : List X) (ys : List Y) → map key xs ≡ map key' ys → length xs ≡ length ys
length_by_text key key' xs ys same = simp length-map at (ap length same)

keys_by_text : (reads : List PlannedRead) (items : List ReadItem) → map (λ r. r.key) items ≡ map (λ r. r.key) reads
    → All (λ r. IsKey r.key) reads → All (λ r. IsKey r.key) items
keys_by_text [] [] same keys = All-nil (λ r. IsKey r.key)
keys_by_text [] (i ∷ is) same keys = absurd (cc)
keys_by_text (r ∷ rs) [] same keys = absurd (cc)
keys_by_text (r ∷ rs) (i ∷ is) same keys =
    let here : i.key ≡ r.key = cc in
    let rest : map (λ x. x.key) is ≡ map (λ x. x.key) rs = cc in
    All-cons (λ x. IsKey x.key) i is (subst IsKey (sym here) (All-head (λ x. IsKey x.key) r rs keys)) (keys_by_text rs is rest (All-tail (λ x. IsKey x.key) r rs keys))

-- what is planned within the limits is a request within the limits
pub is_ask : (reads : List PlannedRead) (puts : List PutItem) (items : List ReadItem) → ArePlannedReads reads → AreSpellablePuts puts
    → map (λ r. r.key) items ≡ map (λ r. r.key) reads → IsAsk items puts
is_ask reads puts items planned within same =
    let long : length items ≡ length reads = length_by_text (λ (r : ReadItem). r.key) (λ (r : PlannedRead). r.key) items reads same in
    record {
      few_reads = rw long planned.few;
      few_puts = within.few;
      reads_differ = rw (differ_alike (λ (r : ReadItem). r.key) (λ (r : PlannedRead). r.key) items reads same) planned.differ;
      puts_differ = within.differ;
    }

-- and one that a site may be asked
pub is_asked : (reads : List PlannedRead) (puts : List PutItem) (items : List ReadItem) → ArePlannedReads reads → AreSpellablePuts puts
    → map (λ r. r.key) items ≡ map (λ r. r.key) reads → All (λ r. IsSpellableVersion r.version) items → IsSpellableAsk (record { reads = items; puts = puts })
is_asked reads puts items planned within same versions =
    let ask : IsAsk items puts = is_ask reads puts items planned within same in
    record {
      reads = record { few = ask.few_reads; differ = ask.reads_differ; keys = keys_by_text reads items same planned.keys; versions = versions };
      puts = within;
    }
