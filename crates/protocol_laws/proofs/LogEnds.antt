-- Commits and Aborts: the Prepare of each stands before it in a lawful log, each id has at most one, and all sites have the same one.
use Rattle.std.proofs.Common.{◌≡◌, ◌∙◌, ap, refl, sym, subst, ℕ, true, ◌⊎◌, inl, inr, Option, Some, None, is_some, List, ◌∷◌, ◌++◌, append_assoc}
use Rattle.std.proofs.lemmas.Bool.{both_ways}
use Rattle.helios_model.specs.declared.ids.TxnId.{TxnId}
use Rattle.helios_model.specs.declared.records.Record.{Record}
use Rattle.helios_model.specs.declared.records.Record.TheVariants.{Prepare, Commit, Abort}
use Rattle.helios_model.specs.Ids.{same_id}
use Rattle.helios_model.specs.Transactions.{Transaction}
use Rattle.helios_model.specs.Log.{id_of, origin, ends, finished, prepares, prepare_of}
use Rattle.helios_model.specs.Sequences.{Mem, Before}
use Rattle.protocol_laws.specs.Clusters.{Cluster, Honest}
use Rattle.protocol_laws.specs.Shapes.{EachBehind}
use Rattle.protocol_laws.specs.Order.{IsPending, IsLawful}
use Rattle.protocol_laws.proofs.Lists.{any_from, find_passes}
use Rattle.protocol_laws.proofs.Ids.{same_id_is}
use Rattle.protocol_laws.proofs.OneMore.{prepare_stands}
use Rattle.protocol_laws.proofs.Sequences.{mem_right, mem_cases, mem_cut, mem_from_contains, contains_from_mem, before_of_cut}
use Rattle.protocol_laws.proofs.KnownRecords.{home}

-- a record that ends an id is of it
pub ended_id : (id : TxnId) (r : Record) → ends id r ≡ true → id_of r ≡ id
ended_id id (Prepare p) e = absurd (cc)
ended_id id (Commit other time) e = same_id_is other id e
ended_id id (Abort other time cause) e = same_id_is other id e

pub ended_origin : (id : TxnId) (r : Record) → ends id r ≡ true → origin r ≡ id.site
ended_origin id r e = ap (λ x. x.site) (ended_id id r e)

pub pending_before : (site : ℕ) (before : List Record) (id : TxnId) (r : Record) → ends id r ≡ true → IsLawful site before r → IsPending before id
pending_before site before id (Prepare p) e h = absurd (cc)
pending_before site before id (Commit other time) e h = subst (λ x. IsPending before x) (same_id_is other id e) h.0
pending_before site before id (Abort other time cause) e h = subst (λ x. IsPending before x) (same_id_is other id e) h

-- the Prepare of a Commit or an Abort stands before it
pub record IsPreparedBefore (log : List Record) (id : TxnId) (r : Record) : Type 0 where
  pub prepare : Transaction
  pub named : prepare.id ≡ id
  pub stands : Before (Prepare prepare) r log

pub prepared_before : (site : ℕ) (log : List Record) → EachBehind (IsLawful site) log → (id : TxnId) (r : Record) → Mem r log → ends id r ≡ true
    → IsPreparedBefore log id r
prepared_before site log h id r here e = at_cut (mem_cut r log here)
  where
    by_find : (before after : List Record) → log ≡ before ++ r ∷ after → (o : Option Transaction) → prepare_of before id ≡ o → is_some o ≡ true
        → IsPreparedBefore log id r
    by_find before after cut None look some = absurd (cc)
    by_find before after cut (Some p) look some =
        let passes = find_passes (λ q. same_id q.id id) (prepares before) p look in
        record {
          prepare = p;
          named = same_id_is p.id id passes.1;
          stands = before_of_cut (Prepare p) r log before after cut (mem_from_contains before (Prepare p) (prepare_stands before p passes.0));
        }

    at_cut : (before : List Record) × (after : List Record) × (log ≡ before ++ r ∷ after) → IsPreparedBefore log id r
    at_cut cut = by_find cut.0 cut.1 cut.2 (prepare_of cut.0 id) refl (pending_before site cut.0 id r e (h cut.0 r cut.1 cut.2)).prepared

-- no other record that ends the id stands before one that does
pub alone_before : (site : ℕ) (log : List Record) → EachBehind (IsLawful site) log → (id : TxnId) (f g : Record) → ends id f ≡ true → ends id g ≡ true
    → (before after : List Record) → log ≡ before ++ g ∷ after → Mem f before → ⊥
alone_before site log h id f g first second before after cut there =
    both_ways (finished before id) (pending_before site before id g second (h before g after cut)).unended
    (any_from (ends id) before f (contains_from_mem before f there) first)

pub one_end : (site : ℕ) (log : List Record) → EachBehind (IsLawful site) log → (id : TxnId) (f g : Record) → Mem f log → Mem g log
    → ends id f ≡ true → ends id g ≡ true → f ≡ g
one_end site log h id f g here there first second = at_cut (mem_cut g log there)
  where
    later : (before after : List Record) → log ≡ before ++ g ∷ after → (front : List Record) × (back : List Record) × (after ≡ front ++ f ∷ back) → f ≡ g
    later before after cut again =
        let whole : log ≡ (before ++ g ∷ again.0) ++ f ∷ again.1 =
        cut ∙ ap (λ l. before ++ g ∷ l) again.2 ∙ sym (append_assoc before (g ∷ again.0) (f ∷ again.1)) in
        absurd (alone_before site log h id g f second first (before ++ g ∷ again.0) again.1 whole (mem_right g before (g ∷ again.0) (inl refl)))

    by_part : (before after : List Record) → log ≡ before ++ g ∷ after → Mem f before ⊎ ((g ≡ f) ⊎ Mem f after) → f ≡ g
    by_part before after cut (inl front) = absurd (alone_before site log h id f g first second before after cut front)
    by_part before after cut (inr (inl same)) = sym same
    by_part before after cut (inr (inr back)) = later before after cut (mem_cut f after back)

    at_cut : (before : List Record) × (after : List Record) × (log ≡ before ++ g ∷ after) → f ≡ g
    at_cut cut = by_part cut.0 cut.1 cut.2 (mem_cases f cut.0 (g ∷ cut.1) (subst (λ l. Mem f l) cut.2 here))

-- two records of any two logs that end one id are the same: no id is committed in one and aborted in another
pub same_end : (w : Cluster) → Honest w → ((k : ℕ) → EachBehind (IsLawful k) (w.log k)) → (id : TxnId) (i j : ℕ) (f g : Record)
    → Mem f (w.log i) → Mem g (w.log j) → ends id f ≡ true → ends id g ≡ true → f ≡ g
same_end w h laws id i j f g here there first second =
    one_end id.site (w.log id.site) (laws id.site) id f g
    (subst (λ k. Mem f (w.log k)) (ended_origin id f first) (home w h i f here).there)
    (subst (λ k. Mem g (w.log k)) (ended_origin id g second) (home w h j g there).there)
    first second
