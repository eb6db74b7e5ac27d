use Rattle.std.proofs.Common.{◌≡◌, ◌∙◌, ap, refl, sym, subst, subst₂, ℕ, false, ◌⊎◌, inl, inr, None, List, [], ◌∷◌, ◌++◌, All, Contains}
use Rattle.std.proofs.lemmas.List.Elements.{All-nil, All-push, All-same, All-contains, Contains-append_right}
use Rattle.helios_model.specs.declared.ids.TxnId.{TxnId}
use Rattle.helios_model.specs.declared.records.Record.{Record}
use Rattle.helios_model.specs.declared.records.Record.TheVariants.{Prepare, Commit}
use Rattle.helios_model.specs.Transactions.{Transaction, conflict}
use Rattle.helios_model.specs.Log.{finished, prepare_in, prepares, unfinished}
use Rattle.protocol_laws.specs.Shapes.{EachBehind}
use Rattle.protocol_laws.specs.Order.{IsNew, IsAsked, IsPending, IsClearBehind, IsLawful, OrderLaws}
use Rattle.protocol_laws.proofs.Lists.{split_last, contains_here}
use Rattle.protocol_laws.proofs.OneMore.{prepares_append, prepares_end, prepares_prepare, unfinished_before, unfinished_has}

pub each_one_more : (F : List Record → Record → Type 0) (log : List Record) (c : Record) → EachBehind F log → F log c → EachBehind F (log ++ c ∷ [])
each_one_more F log c h new before r after e = by_cut (split_last log c before r after e)
  where
    by_cut : ((log ≡ before) × (c ≡ r) × (after ≡ [])) ⊎ ((rest : List Record) × (after ≡ rest ++ c ∷ []) × (log ≡ before ++ r ∷ rest)) → F before r
    by_cut (inl (here, same, nothing)) = subst₂ F here same new
    by_cut (inr (rest, longer, cut)) = h before r rest cut

-- a Prepare at which a log is cut is one of its Prepares
pub cut_prepared : (log before : List Record) (p : Transaction) (after : List Record) → log ≡ before ++ Prepare p ∷ after → Contains (prepares log) p
cut_prepared log before p after cut =
    subst (λ ps. Contains ps p) (sym (ap prepares cut ∙ prepares_append before (Prepare p ∷ after)))
    (Contains-append_right (prepares before) (p ∷ prepares after) p (contains_here p (prepares after)))

pub clear_end : (log : List Record) (r : Record) (p : Transaction) → prepare_in r ≡ None → IsClearBehind log p → IsClearBehind (log ++ r ∷ []) p
clear_end log r p none h before after e = by_cut (split_last log r before (Prepare p) after e)
  where
    by_cut : ((log ≡ before) × (r ≡ Prepare p) × (after ≡ [])) ⊎ ((rest : List Record) × (after ≡ rest ++ r ∷ []) × (log ≡ before ++ Prepare p ∷ rest))
        → All (λ q. conflict p q ≡ false) (prepares after)
    by_cut (inl (here, same, nothing)) = All-same (λ q. conflict p q ≡ false) (prepares after) [] (ap prepares nothing) (All-nil (λ q. conflict p q ≡ false))
    by_cut (inr (rest, longer, cut)) =
        All-same (λ q. conflict p q ≡ false) (prepares after) (prepares rest) (ap prepares longer ∙ prepares_end rest r none) (h before rest cut)

pub clear_prepare : (log : List Record) (q p : Transaction) → (Contains (prepares log) p → conflict p q ≡ false) → IsClearBehind log p
    → IsClearBehind (log ++ Prepare q ∷ []) p
clear_prepare log q p free h before after e = by_cut (split_last log (Prepare q) before (Prepare p) after e)
  where
    by_cut : ((log ≡ before) × (Prepare q ≡ Prepare p) × (after ≡ [])) ⊎ ((rest : List Record) × (after ≡ rest ++ Prepare q ∷ []) × (log ≡ before ++ Prepare p ∷ rest))
        → All (λ x. conflict p x ≡ false) (prepares after)
    by_cut (inl (here, same, nothing)) = All-same (λ x. conflict p x ≡ false) (prepares after) [] (ap prepares nothing) (All-nil (λ x. conflict p x ≡ false))
    by_cut (inr (rest, longer, cut)) =
        All-same (λ x. conflict p x ≡ false) (prepares after) (prepares rest ++ q ∷ []) (ap prepares longer ∙ prepares_prepare rest q)
        (All-push (λ x. conflict p x ≡ false) (prepares rest) q (h before rest cut) (free (cut_prepared log before p rest cut)))

pub order_commit : (site : ℕ) (log : List Record) (id : TxnId) (time : ℕ) → OrderLaws site log → IsPending log id
    → OrderLaws site (log ++ Commit id time ∷ [])
order_commit site log id time h pending = record {
  each = each_one_more (IsLawful site) log (Commit id time) h.each
      (pending, λ own p named. h.clear p (ap (λ x. x.site) named ∙ own) (ap (finished log) named ∙ pending.unended));
  clear = λ p own unended. clear_end log (Commit id time) p refl (h.clear p own (unfinished_before log (Commit id time ∷ []) p.id unended));
}

pub order_prepare : (site : ℕ) (log : List Record) (q : Transaction) → OrderLaws site log → IsNew log q.id → (q.id.site ≡ site → IsAsked log q)
    → All (λ p. p.id.site ≡ site → conflict p q ≡ false) (unfinished log) → OrderLaws site (log ++ Prepare q ∷ [])
order_prepare site log q h new asked clear = record {
  each = each_one_more (IsLawful site) log (Prepare q) h.each (new, asked);
  clear = λ p own unended.
      let before : finished log p.id ≡ false = unfinished_before log (Prepare q ∷ []) p.id unended in
      clear_prepare log q p
      (λ there. All-contains (λ x. x.id.site ≡ site → conflict x q ≡ false) (unfinished log) p clear (unfinished_has log p there before) own)
      (h.clear p own before);
}
