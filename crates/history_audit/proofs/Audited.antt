-- The verdict on the transactions that are left, and what a map says after a transaction.
use Rattle.std.proofs.Common.{◌≡◌, ℕ, ◌+◌, ◌<◌, ◌≤◌, Bool, true, false, cond, ◌||◌, List, [], ◌∷◌, Option, Some, None, length, drop, get_or, if◌then◌else◌, refl, sym, ◌∙◌, ap, ap₂}
use Rattle.std.specs.Prelude.{not}
use Rattle.std.proofs.lemmas.List.{at_drop_more, at_drop_all}
use Rattle.std.specs.BTreeMap.{BTreeMap, Updates, is_at}
use Rattle.std.specs.Cmp.Lexicographic.{slice_cmp, texts_ties}
use Rattle.std.specs.Map.{lookup}
use Rattle.std.specs.Ordering.{nat_cmp}
use Rattle.history_audit.specs.Versions.{version_in, version_of}
use Rattle.helios_model.specs.Ids.{same_version}
use Rattle.helios_model.specs.Texts.{contains_text, same_text}
use Rattle.helios_model.specs.declared.ids.TxnId.{TxnId}
use Rattle.helios_model.specs.declared.ids.Version.{Version}
use Rattle.helios_model.specs.declared.ids.Version.TheVariants.{Of}
use Rattle.helios_model.specs.declared.transactions.ReadItem.{ReadItem}
use Rattle.history_audit.specs.Auditing.{audit_from, first_stale, unless_stale, written}
use Rattle.history_audit.specs.declared.history.Item.{Item}
use Rattle.history_audit.specs.declared.verdict.AuditVerdict.{AuditVerdict}
use Rattle.history_audit.specs.declared.verdict.AuditVerdict.TheVariants.{Serial, NotSerial}

-- ---- maps that say the same of each key

stale_same : (f g : List ℕ → Version) → ((key : List ℕ) → f key ≡ g key) → (reads : List ReadItem) → first_stale f reads ≡ first_stale g reads
stale_same f g same [] = refl
stale_same f g same (r ∷ rs) = ap₂ (λ v rest. cond (not (same_version r.version v)) (Some r) rest) (same r.key) (stale_same f g same rs)

unless_same : (f g : List ℕ → Version) → ((key : List ℕ) → f key ≡ g key) → (place : ℕ) (stale : Option ReadItem) (a b : AuditVerdict) → a ≡ b → unless_stale f place stale a ≡ unless_stale g place stale b
unless_same f g same place None a b rest = rest
unless_same f g same place (Some r) a b rest = ap (λ v. NotSerial place r.key r.version v) (same r.key)

pub verdict_same : (f g : List ℕ → Version) → ((key : List ℕ) → f key ≡ g key) → (place : ℕ) (xs : List Item) → audit_from f place xs ≡ audit_from g place xs
verdict_same f g same place [] = refl
verdict_same f g same place (x ∷ xs) =
    ap (λ o. unless_stale f place o (audit_from (written x f) (place + 1) xs)) (stale_same f g same x.reads)
    ∙ unless_same f g same place (first_stale g x.reads) (audit_from (written x f) (place + 1) xs) (audit_from (written x g) (place + 1) xs)
    (verdict_same (written x f) (written x g) (λ key. ap (λ v. if contains_text x.writes key then Of x.id else v) (same key)) (place + 1) xs)

-- ---- one transaction

module _ (f : List ℕ → Version) (history : List Item) (place : ℕ) where
  opened : (x : Item) → place < length history → x ≡ get_or history place x
      → audit_from f place (drop place history) ≡ unless_stale f place (first_stale f x.reads) (audit_from (written x f) (place + 1) (drop (place + 1) history))
  opened x within at =
      at_drop_more (λ xs. audit_from f place xs) history place x within
      ∙ ap (λ y. unless_stale f place (first_stale f y.reads) (audit_from (written y f) (place + 1) (drop (place + 1) history))) (sym at)

  pub audit_more : (new : List ℕ → Version) (x : Item) → place < length history → x ≡ get_or history place x → first_stale f x.reads ≡ None
      → ((key : List ℕ) → new key ≡ (if contains_text x.writes key then Of x.id else f key))
      → audit_from f place (drop place history) ≡ audit_from new (place + 1) (drop (place + 1) history)
  audit_more new x within at none wrote =
      opened x within at
      ∙ ap (λ o. unless_stale f place o (audit_from (written x f) (place + 1) (drop (place + 1) history))) none
      ∙ sym (verdict_same new (written x f) wrote (place + 1) (drop (place + 1) history))

  pub audit_stale : (x : Item) (r : ReadItem) → place < length history → x ≡ get_or history place x → first_stale f x.reads ≡ Some r
      → audit_from f place (drop place history) ≡ NotSerial place r.key r.version (f r.key)
  audit_stale x r within at stale =
      opened x within at ∙ ap (λ o. unless_stale f place o (audit_from (written x f) (place + 1) (drop (place + 1) history))) stale

  pub audit_end : length history ≤ place → audit_from f place (drop place history) ≡ Serial place
  audit_end done = at_drop_all (λ xs. audit_from f place xs) history place done

-- ---- the keys of a transaction

one_key : (id : TxnId) (here rest : Bool) (old new : Version) → new ≡ cond here (Of id) old → cond (here || rest) (Of id) old ≡ cond rest (Of id) new
one_key id true true old new is = refl
one_key id true false old new is = sym is
one_key id false true old new is = refl
one_key id false false old new is = sym is

key_more : (id : TxnId) (keys : List (List ℕ)) (i : ℕ) (key q : List ℕ) (old new : Version) → i < length keys → key ≡ get_or keys i key
    → new ≡ (if same_text key q then Of id else old)
    → (if contains_text (drop i keys) q then Of id else old) ≡ (if contains_text (drop (i + 1) keys) q then Of id else new)
key_more id keys i key q old new within at is =
    at_drop_more (λ ks. if contains_text ks q then Of id else old) keys i key within
    ∙ ap (λ k. if same_text k q || contains_text (drop (i + 1) keys) q then Of id else old) (sym at)
    ∙ one_key id (same_text key q) (contains_text (drop (i + 1) keys) q) old new is

-- what the map says of each key after the id was put under one
put_said : (old new : BTreeMap (List ℕ) TxnId) (key : List ℕ) (id : TxnId) → Updates (slice_cmp nat_cmp) old new key (Some id) → (q : List ℕ)
    → version_in new.entries q ≡ (if same_text key q then Of id else version_in old.entries q)
put_said old new key id updates q =
    ap version_of (updates.0 q) ∙ by_test (is_at (slice_cmp nat_cmp key) q) (same_text key q) (texts_ties key q)
  where
    by_test : (a b : Bool) → b ≡ a → version_of (cond a (Some id) (lookup (is_at (slice_cmp nat_cmp q)) old.entries)) ≡ cond b (Of id) (version_in old.entries q)
    by_test true true same = refl
    by_test false false same = refl
    by_test true false same = cc
    by_test false true same = cc

pub key_put : (id : TxnId) (keys : List (List ℕ)) (i : ℕ) (key q : List ℕ) (old new : BTreeMap (List ℕ) TxnId) → i < length keys → key ≡ get_or keys i key
    → Updates (slice_cmp nat_cmp) old new key (Some id)
    → (if contains_text (drop i keys) q then Of id else version_in old.entries q) ≡ (if contains_text (drop (i + 1) keys) q then Of id else version_in new.entries q)
key_put id keys i key q old new within at updates =
    key_more id keys i key q (version_in old.entries q) (version_in new.entries q) within at (put_said old new key id updates q)

pub keys_end : (id : TxnId) (keys : List (List ℕ)) (i : ℕ) (q : List ℕ) (v : Version) → length keys ≤ i → (if contains_text (drop i keys) q then Of id else v) ≡ v
keys_end id keys i q v done = at_drop_all (λ ks. if contains_text ks q then Of id else v) keys i done
