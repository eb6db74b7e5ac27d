-- What some records say of the committed ids, by what was kept of the records.
use Rattle.std.proofs.Common.{◌≡◌, ◌<◌, Bool, true, false, List, [], ◌∷◌, Option, Some, None, Ok, Err, cond, length, refl, sym, ◌∙◌, ap, ap₂, arith}
use Rattle.std.specs.Prelude.{◌↔◌, IsSome, not, is_some, find}
use Rattle.std.specs.BTreeMap.{get}
use Rattle.std.specs.List.{cons_option, filter_map, slice_get}
use Rattle.helios_model.specs.Log.{prepare_of}
use Rattle.helios_model.specs.Transactions.{Transaction}
use Rattle.helios_model.specs.declared.ids.TxnId.{TxnId}
use Rattle.helios_model.specs.declared.records.Record.{Record}
use Rattle.json_text.specs.Reading.{◌>>=◌}
use Rattle.graph_audit.specs.Committed.{committed_ids, committed_of, is_unprepared, no_id}
use Rattle.graph_audit.specs.Gathered.{IsGathered}
use Rattle.graph_audit.specs.Ordering.{id_cmp}
use Rattle.graph_audit.specs.declared.gathering.Gathered.{Gathered}
use Rattle.graph_audit.specs.declared.refusal.DumpsRefusal.TheVariants.{PrepareDiffers, NoPrepare}

find_same : {X : Type 0} (f g : X → Bool) → ((x : X) → f x ≡ g x) → (xs : List X) → find f xs ≡ find g xs
find_same f g same [] = refl
find_same f g same (x ∷ xs) = ap₂ (λ b o. cond b (Some x) o) (same x) (find_same f g same xs)

kept_same : {X Y : Type 0} (f g : X → Option Y) → ((x : X) → f x ≡ g x) → (xs : List X) → filter_map f xs ≡ filter_map g xs
kept_same f g same [] = refl
kept_same f g same (x ∷ xs) = ap₂ cons_option (same x) (kept_same f g same xs)

pub none_first : {X Y : Type 0} (o : Option X) (ys : List Y) → IsSome o ↔ (0 < length ys) → o ≡ None → slice_get ys 0 ≡ None
none_first o [] some is = refl
none_first None (y ∷ ys) some is = (let found : false ≡ true = some.1 (omega arith) in cc)
none_first (Some x) (y ∷ ys) some is = cc

module _ (g : Gathered) (records : List Record) (is : IsGathered g records) where
  pub said_differs : (id : TxnId) → slice_get g.differing.keys 0 ≡ Some id → committed_of records ≡ Err (PrepareDiffers id)
  unfolding committed_of
  said_differs id first =
      ap (λ o. no_id PrepareDiffers o >>= λ agreed. no_id NoPrepare (find (is_unprepared records) (committed_ids records)) >>= λ prepared. Ok (filter_map (prepare_of records) (committed_ids records)))
      (ap (λ ids. slice_get ids 0) (sym is.differing) ∙ first)

  searched : find (is_unprepared records) (committed_ids records) ≡ find (λ id. not (is_some (get id_cmp g.prepares id))) g.committed.keys
  searched =
      find_same (is_unprepared records) (λ id. not (is_some (get id_cmp g.prepares id))) (λ id. ap (λ o. not (is_some o)) (sym (is.prepares id))) (committed_ids records)
      ∙ ap (λ ids. find (λ id. not (is_some (get id_cmp g.prepares id))) ids) (sym is.committed)

  opened : (o : Option TxnId) → slice_get g.differing.keys 0 ≡ None → find (λ id. not (is_some (get id_cmp g.prepares id))) g.committed.keys ≡ o
      → committed_of records ≡ (no_id NoPrepare o >>= λ prepared. Ok (filter_map (prepare_of records) (committed_ids records)))
  unfolding committed_of
  opened o first found =
      ap₂ (λ first unprepared. no_id PrepareDiffers first >>= λ agreed. no_id NoPrepare unprepared >>= λ prepared. Ok (filter_map (prepare_of records) (committed_ids records)))
      (ap (λ ids. slice_get ids 0) (sym is.differing) ∙ first) (searched ∙ found)

  pub said_unprepared : (id : TxnId) → slice_get g.differing.keys 0 ≡ None → find (λ id. not (is_some (get id_cmp g.prepares id))) g.committed.keys ≡ Some id
      → committed_of records ≡ Err (NoPrepare id)
  said_unprepared id first found = opened (Some id) first found

  pub said_all : (ps : List Transaction) → slice_get g.differing.keys 0 ≡ None → find (λ id. not (is_some (get id_cmp g.prepares id))) g.committed.keys ≡ None
      → ps ≡ filter_map (get id_cmp g.prepares) g.committed.keys → committed_of records ≡ Ok ps
  said_all ps first found is_all =
      opened None first found
      ∙ ap Ok (sym (is_all ∙ kept_same (get id_cmp g.prepares) (prepare_of records) is.prepares g.committed.keys ∙ ap (filter_map (prepare_of records)) is.committed))
