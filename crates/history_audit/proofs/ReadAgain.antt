-- What is printed of a serial history is read as its transactions.
use Rattle.std.proofs.Common.{◌≡◌, ℕ, suc, ◌≤◌, Bool, true, false, cond, ◌&&◌, ◌||◌, List, [], ◌∷◌, ◌++◌, Option, Some, None, Ok, length, map, refl, sym, ◌∙◌, ap, ap₂, subst, arith, append_assoc, append-nil}
use Rattle.std.specs.Prelude.{◌==◌, not, nat_le, All, AllPairs, IsTrue, option_and_then, option_map}
use Rattle.std.specs.List.{list_all, list_any}
use Rattle.std.proofs.lemmas.Bool.{le-leb, ne_eqb, not_from_false}
use Rattle.std.proofs.lemmas.List.{length-map}
use Rattle.std.proofs.lemmas.List.Elements.{All-nil, All-cons, All-head, All-tail, All-map, All-weaker}
use Rattle.std.proofs.lemmas.List.Folds.{list_any-append}
use Rattle.std.proofs.lemmas.List.Sums.{list_all-from_AllPass}
use Rattle.helios_model.specs.Ids.{id_text, same_id, version_text}
use Rattle.helios_model.specs.Limits.{most_items, most_key_bytes, most_sites}
use Rattle.helios_model.specs.Log.{version_after}
use Rattle.helios_model.specs.Serial.{IsSerial, SerialFrom}
use Rattle.helios_model.specs.Spellable.{IsSpellableId, IsSpellableVersion}
use Rattle.helios_model.specs.Spellings.{id_of, is_key_byte, key_of, version_of}
use Rattle.helios_model.specs.Texts.{IsKey, IsKeyByte, all_differ, same_text}
use Rattle.helios_model.specs.declared.ids.TxnId.{TxnId}
use Rattle.helios_model.specs.declared.ids.Version.{Version}
use Rattle.helios_model.specs.declared.ids.Version.TheVariants.{Initial, Of}
use Rattle.helios_model.specs.declared.records.CommitEvent.{CommitEvent}
use Rattle.helios_model.specs.declared.transactions.ReadItem.{ReadItem}
use Rattle.json_text.specs.Lists.{each_of, parts_of}
use Rattle.json_text.specs.Reading.{◌>>=◌, required}
use Rattle.json_text.specs.Spelled.{id_at, key_at, version_at}
use Rattle.json_text.specs.Text.{json_of}
use Rattle.json_text.specs.Transactions.{differing, keyed_of, read_at}
use Rattle.serde_json.specs.Data.{Data, string}
use Rattle.serde_json.specs.Events.{items_len}
use Rattle.serde_json.specs.View.{items_of}
use Rattle.history_audit.specs.Items.{fresh_item, is_given, item_at, next_item}
use Rattle.history_audit.specs.Kept.{IsKept}
use Rattle.history_audit.specs.Printing.{IsDated, history_data, item_data, item_members, item_of, read_data}
use Rattle.history_audit.specs.Reading.{history_at, history_of_text, items_behind}
use Rattle.history_audit.specs.declared.history.Item.{Item}
use Rattle.history_audit.specs.declared.refusal.HistoryRefusal.TheVariants.{BadTransaction, NotJson}

abbrev IdsReadAgain : Type 0
IdsReadAgain = (id : TxnId) → IsSpellableId most_sites id → id_of (id_text id) ≡ Some id

abbrev VersionsReadAgain : Type 0
VersionsReadAgain = (version : Version) → IsSpellableVersion version → version_of (version_text version) ≡ Some version

-- ---- keys and reads

all_three : (a b c : Bool) → a ≡ true → b ≡ true → c ≡ true → (a && b && c) ≡ true
all_three a b c p q r = rw (p, q, r) refl

key_byte : (b : ℕ) → IsKeyByte b → is_key_byte b ≡ true
key_byte b is = all_three (nat_le 33 b) (nat_le b 126) (not (b == 61)) (le-leb 33 b is.0) (le-leb b 126 is.1) (not_from_false (b == 61) (ne_eqb b 61 is.2))

key_read : (key : List ℕ) → IsKey key → key_at (string key) ≡ Some key
unfolding key_at key_of
key_read key is =
    ap (λ b. cond b (Some key) None)
    (all_three (nat_le 1 (length key)) (nat_le (length key) most_key_bytes) (list_all is_key_byte key) (le-leb 1 (length key) is.some) (le-leb (length key) most_key_bytes is.most)
    (list_all-from_AllPass is_key_byte key (All-weaker IsKeyByte (λ b. is_key_byte b ≡ true) key_byte key is.printable)))

abbrev IsReadable : ReadItem → Type 0
IsReadable r = IsKey r.key × IsSpellableVersion r.version

read_read : VersionsReadAgain → (r : ReadItem) → IsReadable r → read_at (read_data r) ≡ Some r
unfolding read_at version_at
read_read versions r is =
    let key : key_at (string r.key) ≡ Some r.key = key_read r.key is.0 in
    let version : version_of (version_text r.version) ≡ Some r.version = versions r.version is.1 in
    rw (key, version) refl

-- ---- lists

module _ {T : Type 0} (f : Data → Option T) (g : T → Data) (P : T → Type 0) (each : (x : T) → P x → f (g x) ≡ Some x) where
  each_read : (xs : List T) → All P xs → each_of f (items_of (map g xs)) ≡ Some xs
  each_read [] good = refl
  each_read (x ∷ xs) good =
      ap (option_and_then (λ y. option_map (λ ys. y ∷ ys) (each_of f (items_of (map g xs))))) (each x (All-head P x xs good))
      ∙ ap (option_map (λ ys. x ∷ ys)) (each_read xs (All-tail P x xs good))

  counted : (xs : List T) → items_len (items_of (map g xs)) ≡ length xs
  counted [] = refl
  counted (x ∷ xs) = (let rest : items_len (items_of (map g xs)) ≡ length xs = counted xs in omega arith)

  keyed_read : (key : T → List ℕ) (xs : List T) → All P xs → length xs ≤ most_items → all_differ key xs ≡ true → keyed_of key f (items_of (map g xs)) ≡ Some xs
  unfolding keyed_of parts_of
  keyed_read key xs good few differ =
      ap (λ b. option_and_then (differing key) (cond b (each_of f (items_of (map g xs))) None)) (ap (λ n. nat_le n most_items) (counted xs) ∙ le-leb (length xs) most_items few)
      ∙ ap (option_and_then (differing key)) (each_read xs good)
      ∙ ap (λ b. cond b (Some xs) None) differ

any_of_map : {X : Type 0} (f : X → List ℕ) (p : List ℕ → Bool) (xs : List X) → list_any p (map f xs) ≡ list_any (λ x. p (f x)) xs
any_of_map f p [] = refl
any_of_map f p (x ∷ xs) = ap (λ b. p (f x) || b) (any_of_map f p xs)

differ_of_map : {X : Type 0} (f : X → List ℕ) (xs : List X) → all_differ (λ key. key) (map f xs) ≡ all_differ f xs
differ_of_map f [] = refl
differ_of_map f (x ∷ xs) = ap₂ (λ a b. not a && b) (any_of_map f (λ other. same_text other (f x)) xs) (differ_of_map f xs)

-- ---- transactions

abbrev AreReadable : CommitEvent → Type 0
AreReadable e = All (λ r. IsSpellableVersion r.version) e.prepare.reads

module _ (ids : IdsReadAgain) (versions : VersionsReadAgain) where
  item_read : (e : CommitEvent) → IsKept e → IsDated e → AreReadable e → item_at (item_data (item_of e)) ≡ Some (item_of e)
  unfolding item_at item_members id_at
  item_read e kept dated spelled =
      let keys : List (List ℕ) = map (λ w. w.key) e.prepare.writes in
      let id : id_of (id_text e.prepare.id) ≡ Some e.prepare.id = ids e.prepare.id (record { here = kept.site; some = dated.0; last = dated.1 }) in
      let reads : keyed_of (λ r. r.key) read_at (items_of (map read_data e.prepare.reads)) ≡ Some e.prepare.reads =
      keyed_read read_at read_data IsReadable (read_read versions) (λ r. r.key) e.prepare.reads (λ k d within. (kept.reads k d within, spelled k d within)) kept.limits.few_reads kept.limits.reads_differ in
      let few : length keys ≤ most_items = (let same : length keys ≡ length e.prepare.writes = length-map e.prepare.writes (λ w. w.key) in let most : length e.prepare.writes ≤ most_items = kept.limits.few_writes in omega arith) in
      let writes : keyed_of (λ key. key) key_at (items_of (map string keys)) ≡ Some keys =
      keyed_read key_at string IsKey key_read (λ key. key) keys (All-map IsKey (λ w. w.key) e.prepare.writes kept.writes) few (differ_of_map (λ w. w.key) e.prepare.writes ∙ kept.limits.writes_differ) in
      rw (id, reads, writes) refl

  abbrev DiffersFrom : List Item → CommitEvent → Type 0
  DiffersFrom earlier e = is_given e.prepare.id earlier ≡ false

  next_is : (earlier : List Item) (e : CommitEvent) → item_at (item_data (item_of e)) ≡ Some (item_of e) → DiffersFrom earlier e → next_item earlier (item_data (item_of e)) ≡ Some (item_of e)
  unfolding fresh_item
  next_is earlier e is new =
      ap (option_and_then (λ x. cond (is_given x.id earlier) None (Some x))) is ∙ ap (λ b. cond b None (Some (item_of e))) new

  still_new : (earlier : List Item) (e other : CommitEvent) → DiffersFrom earlier other → same_id e.prepare.id other.prepare.id ≡ false → DiffersFrom (earlier ++ item_of e ∷ []) other
  still_new earlier e other new apart =
      list_any-append (λ x. same_id x.id other.prepare.id) earlier (item_of e ∷ [])
      ∙ ap₂ (λ a b. a || (b || false)) new apart

  abbrev AreApart : CommitEvent → CommitEvent → Type 0
  AreApart a b = same_id a.prepare.id b.prepare.id ≡ false

  all_behind : (earlier : List Item) (es : List CommitEvent) → All (λ e. item_at (item_data (item_of e)) ≡ Some (item_of e)) es → All (DiffersFrom earlier) es → AllPairs AreApart es
      → items_behind earlier (items_of (map (λ e. item_data (item_of e)) es)) ≡ Ok (earlier ++ map item_of es)
  all_behind earlier [] said new apart = ap Ok (sym (append-nil earlier))
  all_behind earlier (e ∷ es) said new apart =
      ap (λ o. required (BadTransaction (length earlier)) o >>= λ x. items_behind (earlier ++ x ∷ []) (items_of (map (λ e. item_data (item_of e)) es)))
      (next_is earlier e (All-head (λ e. item_at (item_data (item_of e)) ≡ Some (item_of e)) e es said) (All-head (DiffersFrom earlier) e es new))
      ∙ all_behind (earlier ++ item_of e ∷ []) es (All-tail (λ e. item_at (item_data (item_of e)) ≡ Some (item_of e)) e es said)
      (λ k d within. still_new earlier e (Rattle.std.specs.Prelude.slice_index_or es k d) (new (suc k) d (omega arith)) (apart 0 (suc k) d (omega arith) (omega arith)))
      (λ i j d before within. apart (suc i) (suc j) d (omega arith) (omega arith))
      ∙ ap Ok (append_assoc earlier (item_of e ∷ []) (map item_of es))

-- ---- the versions that a serial history reads

after_spelled : (id : TxnId) (version : Version) (b : Bool) → IsSpellableId most_sites id → IsSpellableVersion version → IsSpellableVersion (cond b (Of id) version)
after_spelled id version true named good = named
after_spelled id version false named good = good

reads_spelled : (versions : List ℕ → Version) → ((key : List ℕ) → IsSpellableVersion (versions key)) → (es : List CommitEvent) → All (λ e. IsSpellableId most_sites e.prepare.id) es
    → SerialFrom versions es → All AreReadable es
reads_spelled versions good [] named serial = All-nil AreReadable
reads_spelled versions good (e ∷ es) named serial =
    let here : IsSpellableId most_sites e.prepare.id = All-head (λ e. IsSpellableId most_sites e.prepare.id) e es named in
    All-cons AreReadable e es
    (All-weaker (λ r. r.version ≡ versions r.key) (λ r. IsSpellableVersion r.version) (λ r is. subst IsSpellableVersion (sym is) (good r.key)) e.prepare.reads serial.0.reads)
    (reads_spelled (λ key. version_after key (versions key) e) (λ key. after_spelled e.prepare.id (versions key) _ here (good key)) es
    (All-tail (λ e. IsSpellableId most_sites e.prepare.id) e es named) serial.1)

-- ---- histories

pub history_read_again : ((id : TxnId) → IsSpellableId most_sites id → id_of (id_text id) ≡ Some id)
    → ((version : Version) → IsSpellableVersion version → version_of (version_text version) ≡ Some version)
    → (events : List CommitEvent) (text : List ℕ) → IsSerial events → All IsKept events → All IsDated events
    → json_of text ≡ Some (history_data events) → history_of_text text ≡ Ok (map item_of events)
unfolding history_of_text history_at
history_read_again ids versions events text serial kept dated is =
    let named : All (λ e. IsSpellableId most_sites e.prepare.id) events = λ k d within. record { here = (kept k d within).site; some = (dated k d within).0; last = (dated k d within).1 } in
    let spelled : All AreReadable events = reads_spelled (λ key. Initial) (λ key. tt) events named serial.serial in
    ap (λ o. required NotJson o >>= history_at) is
    ∙ all_behind ids versions [] events (λ k d within. item_read ids versions _ (kept k d within) (dated k d within) (spelled k d within)) (λ k d within. refl) serial.distinct
