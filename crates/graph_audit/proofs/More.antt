-- What is kept of some records, with one more.
use Rattle.std.proofs.Common.{◌≡◌, ℕ, Bool, true, false, cond, ◌&&◌, List, [], ◌∷◌, ◌++◌, Option, Some, None, map, nat_eq, refl, sym, ◌∙◌, ap, ap₂, subst, append_assoc, append-nil}
use Rattle.std.specs.Prelude.{not, filter, find, fold}
use Rattle.std.specs.BTreeMap.{get, is_at}
use Rattle.std.specs.BTreeSet.{insert_key}
use Rattle.std.specs.Cmp.{both_tied, unsigned_ties}
use Rattle.std.specs.Cmp.Lexicographic.{pointwise}
use Rattle.std.specs.List.{filter_map}
use Rattle.std.specs.Option.{option_or}
use Rattle.std.specs.Ordering.{is_eq, nat_cmp}
use Rattle.std.proofs.lemmas.Bool.{and_from, eq-eqb}
use Rattle.std.proofs.lemmas.List.{map-append}
use Rattle.std.proofs.lemmas.List.Elements.{filter-append, filter_map-append}
use Rattle.std.proofs.lemmas.List.Folds.{find-append}
use Rattle.std.proofs.lemmas.List.Sums.{fold-append}
use Rattle.std.proofs.lemmas.Slice.Eq.{bytes_eq-Decides}
use Rattle.helios_model.specs.Ids.{same_id, same_version}
use Rattle.helios_model.specs.Log.{prepare_in, prepares}
use Rattle.helios_model.specs.Texts.{same_text}
use Rattle.helios_model.specs.Transactions.{Transaction}
use Rattle.helios_model.specs.declared.ids.TxnId.{TxnId}
use Rattle.helios_model.specs.declared.ids.Version.{Version}
use Rattle.helios_model.specs.declared.ids.Version.TheVariants.{Initial, Of}
use Rattle.helios_model.specs.declared.records.Record.{Record}
use Rattle.helios_model.specs.declared.records.Record.TheVariants.{Prepare, Commit, Abort}
use Rattle.helios_model.specs.declared.transactions.ReadItem.{ReadItem}
use Rattle.helios_model.specs.declared.transactions.WriteItem.{WriteItem}
use Rattle.graph_audit.specs.Committed.{commit_id, committed_ids, is_another, same_prepare, same_read, same_write}
use Rattle.graph_audit.specs.Gathered.{IsGathered}
use Rattle.graph_audit.specs.Ordering.{id_cmp, rising}
use Rattle.graph_audit.specs.declared.gathering.Gathered.{Gathered}

pub map_itself : {X : Type 0} (xs : List X) → map (λ x. x) xs ≡ xs
map_itself [] = refl
map_itself (x ∷ xs) = ap (λ ys. x ∷ ys) (map_itself xs)

-- ---- a Prepare is itself

pub id_itself : (a : TxnId) → same_id a a ≡ true
id_itself a = and_from (nat_eq a.site a.site) (nat_eq a.time a.time) (eq-eqb a.site a.site refl) (eq-eqb a.time a.time refl)

version_itself : (v : Version) → same_version v v ≡ true
version_itself Initial = refl
version_itself (Of id) = id_itself id

text_itself : (text : List ℕ) → same_text text text ≡ true
text_itself text = (bytes_eq-Decides text text).1 refl

all_themselves : {X : Type 0} (same : X → X → Bool) → ((x : X) → same x x ≡ true) → (xs : List X) → pointwise same xs xs ≡ true
all_themselves same itself [] = refl
all_themselves same itself (x ∷ xs) = and_from (same x x) (pointwise same xs xs) (itself x) (all_themselves same itself xs)

read_itself : (r : ReadItem) → same_read r r ≡ true
read_itself r = and_from (same_text r.key r.key) (same_version r.version r.version) (text_itself r.key) (version_itself r.version)

write_itself : (w : WriteItem) → same_write w w ≡ true
write_itself w =
    and_from (same_text w.key w.key && same_text w.value w.value) (same_version w.over w.over)
    (and_from (same_text w.key w.key) (same_text w.value w.value) (text_itself w.key) (text_itself w.value)) (version_itself w.over)

prepare_itself : (p : Transaction) → same_prepare p p ≡ true
prepare_itself p =
    and_from (same_id p.id p.id && pointwise same_read p.reads p.reads) (pointwise same_write p.writes p.writes)
    (and_from (same_id p.id p.id) (pointwise same_read p.reads p.reads) (id_itself p.id) (all_themselves same_read read_itself p.reads))
    (all_themselves same_write write_itself p.writes)

-- ---- the first Prepare of an id

pub tied : (a b : TxnId) → same_id a b ≡ is_eq (id_cmp a b)
tied a b = both_tied _ _ (nat_cmp a.site b.site) (nat_cmp a.time b.time) (unsigned_ties a.site b.site) (unsigned_ties a.time b.time)

abbrev found : List Transaction → TxnId → Option Transaction
found ps id = find (λ q. same_id q.id id) ps

found_more : (ps : List Transaction) (p : Transaction) (id : TxnId) → found (ps ++ p ∷ []) id ≡ option_or (found ps id) (cond (same_id p.id id) (Some p) None)
found_more ps p id = find-append (λ q. same_id q.id id) ps (p ∷ [])

one_or : {X : Type 0} (o : Option X) (x : X) (rest : Option X) → option_or (option_or o (Some x)) rest ≡ option_or o (Some x)
one_or None x rest = refl
one_or (Some y) x rest = refl

found_among : (before after : List Transaction) (x p : Transaction) → found ((before ++ x ∷ after) ++ p ∷ []) x.id ≡ found (before ++ x ∷ after) x.id
found_among before after x p =
    found_more (before ++ x ∷ after) p x.id
    ∙ ap (λ o. option_or o (cond (same_id p.id x.id) (Some p) None)) here
    ∙ one_or (found before x.id) x (cond (same_id p.id x.id) (Some p) None)
    ∙ sym here
  where
    here : found (before ++ x ∷ after) x.id ≡ option_or (found before x.id) (Some x)
    here = find-append (λ q. same_id q.id x.id) before (x ∷ after) ∙ ap (λ b. option_or (found before x.id) (cond b (Some x) (found after x.id))) (id_itself x.id)

-- ---- the Prepares that differ from the first

abbrev others_in : List Transaction → List Transaction → List Transaction
others_in ps xs = filter (λ q. is_another q (found ps q.id)) xs

others_stay : (p : Transaction) (before xs : List Transaction) → others_in ((before ++ xs) ++ p ∷ []) xs ≡ others_in (before ++ xs) xs
others_stay p before [] = refl
others_stay p before (x ∷ xs) =
    ap₂ (λ o rest. cond (is_another x o) (x ∷ rest) rest) (found_among before xs x p)
    (subst (λ ps. others_in (ps ++ p ∷ []) xs ≡ others_in ps xs) (append_assoc before (x ∷ []) xs) (others_stay p (before ++ x ∷ []) xs))

no_other : (p : Transaction) (o : Option Transaction) → is_another p (option_or o (Some p)) ≡ is_another p o
no_other p None = ap not (prepare_itself p)
no_other p (Some q) = refl

last_other : (ps : List Transaction) (p : Transaction) → is_another p (found (ps ++ p ∷ []) p.id) ≡ is_another p (found ps p.id)
last_other ps p =
    ap (is_another p) (found_more ps p p.id ∙ ap (λ b. option_or (found ps p.id) (cond b (Some p) None)) (id_itself p.id))
    ∙ no_other p (found ps p.id)

abbrev differ : List Transaction → List TxnId
differ ps = rising (map (λ p. p.id) (others_in ps ps))

one_id : (ids : List TxnId) (p : Transaction) (b : Bool) → fold (insert_key id_cmp) ids (map (λ q. q.id) (cond b (p ∷ []) [])) ≡ cond b (insert_key id_cmp ids p.id) ids
one_id ids p true = refl
one_id ids p false = refl

differ_more : (ps : List Transaction) (p : Transaction) → differ (ps ++ p ∷ []) ≡ cond (is_another p (found ps p.id)) (insert_key id_cmp (differ ps) p.id) (differ ps)
differ_more ps p =
    ap (λ xs. rising (map (λ q. q.id) xs))
    (filter-append (λ q. is_another q (found (ps ++ p ∷ []) q.id)) ps (p ∷ [])
    ∙ ap₂ (λ xs b. xs ++ cond b (p ∷ []) []) (others_stay p [] ps) (last_other ps p))
    ∙ ap rising (map-append (λ q. q.id) (others_in ps ps) (cond (is_another p (found ps p.id)) (p ∷ []) []))
    ∙ fold-append (insert_key id_cmp) [] (map (λ q. q.id) (others_in ps ps)) (map (λ q. q.id) (cond (is_another p (found ps p.id)) (p ∷ []) []))
    ∙ one_id (differ ps) p (is_another p (found ps p.id))

-- ---- one more record

prepares_more : (records : List Record) (r : Record) → prepares (records ++ r ∷ []) ≡ prepares records ++ prepares (r ∷ [])
prepares_more records r = filter_map-append prepare_in records (r ∷ [])

commits_more : (records : List Record) (r : Record) → committed_ids (records ++ r ∷ []) ≡ fold (insert_key id_cmp) (committed_ids records) (filter_map commit_id (r ∷ []))
commits_more records r =
    ap rising (filter_map-append commit_id records (r ∷ []))
    ∙ fold-append (insert_key id_cmp) [] (filter_map commit_id records) (filter_map commit_id (r ∷ []))

pub with_prepare : (g h : Gathered) (p : Transaction) (records : List Record) → IsGathered g records
    → ((id : TxnId) → get id_cmp h.prepares id ≡ option_or (get id_cmp g.prepares id) (cond (is_at (id_cmp p.id) id) (Some p) None))
    → h.differing.keys ≡ cond (is_another p (get id_cmp g.prepares p.id)) (insert_key id_cmp g.differing.keys p.id) g.differing.keys
    → h.committed.keys ≡ g.committed.keys → IsGathered h (records ++ Prepare p ∷ [])
with_prepare g h p records is prepared differs same = record {
  prepares = λ id.
      prepared id
      ∙ ap₂ (λ o b. option_or o (cond b (Some p) None)) (is.prepares id) (sym (tied p.id id))
      ∙ sym (ap (λ ps. found ps id) (prepares_more records (Prepare p)) ∙ found_more (prepares records) p id);
  differing =
      differs
      ∙ ap₂ (λ o ids. cond (is_another p o) (insert_key id_cmp ids p.id) ids) (is.prepares p.id) is.differing
      ∙ sym (ap differ (prepares_more records (Prepare p)) ∙ differ_more (prepares records) p);
  committed = same ∙ is.committed ∙ sym (commits_more records (Prepare p));
}

module _ (g h : Gathered) (r : Record) (records : List Record) (is : IsGathered g records) (none : prepares (r ∷ []) ≡ [])
    (prepared : (id : TxnId) → get id_cmp h.prepares id ≡ get id_cmp g.prepares id) (differs : h.differing.keys ≡ g.differing.keys)
    (commits : h.committed.keys ≡ fold (insert_key id_cmp) g.committed.keys (filter_map commit_id (r ∷ []))) where
  same_prepares : prepares (records ++ r ∷ []) ≡ prepares records
  same_prepares = prepares_more records r ∙ ap (λ ps. prepares records ++ ps) none ∙ append-nil (prepares records)

  with_end : IsGathered h (records ++ r ∷ [])
  with_end = record {
    prepares = λ id. prepared id ∙ is.prepares id ∙ sym (ap (λ ps. found ps id) same_prepares);
    differing = differs ∙ is.differing ∙ sym (ap differ same_prepares);
    committed = commits ∙ ap (λ ids. fold (insert_key id_cmp) ids (filter_map commit_id (r ∷ []))) is.committed ∙ sym (commits_more records r);
  }

pub with_commit : (g h : Gathered) (id : TxnId) (time : ℕ) (records : List Record) → IsGathered g records
    → ((other : TxnId) → get id_cmp h.prepares other ≡ get id_cmp g.prepares other) → h.differing.keys ≡ g.differing.keys
    → h.committed.keys ≡ insert_key id_cmp g.committed.keys id → IsGathered h (records ++ Commit id time ∷ [])
with_commit g h id time records is prepared differs commits = with_end g h (Commit id time) records is refl prepared differs commits

pub with_abort : (g h : Gathered) (id cause : TxnId) (time : ℕ) (records : List Record) → IsGathered g records
    → ((other : TxnId) → get id_cmp h.prepares other ≡ get id_cmp g.prepares other) → h.differing.keys ≡ g.differing.keys
    → h.committed.keys ≡ g.committed.keys → IsGathered h (records ++ Abort id time cause ∷ [])
with_abort g h id cause time records is prepared differs commits = with_end g h (Abort id time cause) records is refl prepared differs commits
