-- How the moments of a run of calls go on.
use Rattle.std.proofs.Common.{◌≡◌, inl, inr, ◌+◌, List, [], ◌∷◌, ◌++◌, length, drop, Option, Some, None, refl, sym, ◌∙◌, ap, subst, arith, append_assoc, length-append}
use Rattle.std.specs.List.{All}
use Rattle.std.proofs.lemmas.List.{drop_at, drop_all, append-nil, get_or_append_left, get_or-append-add}
use Rattle.std.proofs.lemmas.List.Elements.{All-nil, All-cons, All-append, All-weaker}
use Rattle.disk_store.specs.Disk.{DiskState}
use Rattle.disk_store.specs.Moments.{Elapses, pushed, states_since, AtEachMoment}

abbrev pub Past : Type 0
Past = Option (List DiskState)

module _ (P : DiskState → Type 0) where
  all_front : (xs ys : List DiskState) → All P (xs ++ ys) → All P xs
  all_front xs ys all k d lt = subst P (get_or_append_left xs ys d k lt) (all k d (omega (arith, length-append xs ys)))

  all_back : (xs ys : List DiskState) → All P (xs ++ ys) → All P ys
  all_back xs ys all k d lt = subst P (get_or-append-add xs ys k d) (all (length xs + k) d (omega (arith, length-append xs ys)))

  only_one : (disk : DiskState) → P disk → All P (disk ∷ [])
  only_one disk here = All-cons P disk [] here (All-nil P)

  -- before the first call
  pub moments_start : (past : Past) (disk : DiskState) → P disk → AtEachMoment past past (Some disk) P
  moments_start None disk here = record { goes_on = refl; each = only_one disk here }
  moments_start (Some past) disk here = record {
    goes_on = ([], ap Some (sym (append-nil past)));
    each = let none : drop (length past) past ≡ [] = drop_all (length past) past (omega arith) in
        subst (λ (disks : List DiskState). All P (disks ++ disk ∷ [])) (sym none) (only_one disk here);
  }

  pushed_call : (past past' : Past) (before after : DiskState) → past' ≡ pushed past (Some before) → P before → P after → AtEachMoment past past' (Some after) P
  pushed_call None past' before after is here there =
      subst (λ (p : Past). AtEachMoment None p (Some after) P) (sym is) (moments_start None after there)
  pushed_call (Some past) past' before after is here there =
      let one : drop (length past) (past ++ before ∷ []) ≡ before ∷ [] = drop_at past (before ∷ []) (length past) refl in
      let both : AtEachMoment (Some past) (Some (past ++ before ∷ [])) (Some after) P = record {
        goes_on = (before ∷ [], refl);
        each = subst (λ (disks : List DiskState). All P (disks ++ after ∷ [])) (sym one) (All-cons P before (after ∷ []) here (only_one after there));
      } in
      subst (λ (p : Past). AtEachMoment (Some past) p (Some after) P) (sym is) both

  -- one call, before and after which the disk has P
  pub moments_call : (past past' : Past) (before after : DiskState) → Elapses past past' (Some before) (Some after) → P before → P after → AtEachMoment past past' (Some after) P
  moments_call past past' before after (inl is) here there = pushed_call past past' before after is here there
  moments_call past past' before after (inr same) here there =
      subst (λ (p : Past). AtEachMoment past p (Some after) P) (sym same.0) (moments_start past after there)

  join_told : (first past later : List DiskState) (past' : Past) (before after : DiskState) → past' ≡ Some ((first ++ past) ++ later)
      → All P (drop (length first) (first ++ past) ++ before ∷ []) → All P (drop (length (first ++ past)) ((first ++ past) ++ later) ++ after ∷ [])
      → AtEachMoment (Some first) past' (Some after) P
  join_told first past later past' before after is all all' =
      let old : drop (length first) (first ++ past) ≡ past = drop_at first past (length first) refl in
      let new : drop (length (first ++ past)) ((first ++ past) ++ later) ≡ later = drop_at (first ++ past) later (length (first ++ past)) refl in
      let whole : drop (length first) (first ++ (past ++ later)) ≡ past ++ later = drop_at first (past ++ later) (length first) refl in
      let front : All P past = all_front past (before ∷ []) (subst (λ (disks : List DiskState). All P (disks ++ before ∷ [])) old all) in
      let back : All P (later ++ after ∷ []) = subst (λ (disks : List DiskState). All P (disks ++ after ∷ [])) new all' in
      let both : All P ((past ++ later) ++ after ∷ []) = subst (All P) (sym (append_assoc past later (after ∷ []))) (All-append P past (later ++ after ∷ []) front back) in
      let told : AtEachMoment (Some first) (Some (first ++ (past ++ later))) (Some after) P = record {
        goes_on = (past ++ later, refl);
        each = subst (λ (disks : List DiskState). All P (disks ++ after ∷ [])) (sym whole) both;
      } in
      subst (λ (p : Past). AtEachMoment (Some first) p (Some after) P) (sym (is ∙ ap Some (append_assoc first past later))) told

  -- a run of calls, and then another
  pub moments_join : (first past past' : Past) (before after : DiskState) → AtEachMoment first past (Some before) P → AtEachMoment past past' (Some after) P → AtEachMoment first past' (Some after) P
  moments_join None past past' before after one two =
      subst (λ (p : Past). AtEachMoment p past' (Some after) P) one.goes_on two
  moments_join (Some first) None past' before after one two = absurd (let clash = one.goes_on.1 in cc)
  moments_join (Some first) (Some past) past' before after one two =
      let later : List DiskState = one.goes_on.0 in
      let is : past ≡ first ++ later = let told = one.goes_on.1 in cc in
      let all : All P (drop (length first) (first ++ later) ++ before ∷ []) = subst (λ (p : List DiskState). All P (drop (length first) p ++ before ∷ [])) is one.each in
      joined later two.goes_on.0 is two.goes_on.1 all two.each
    where
      joined : (later more : List DiskState) → past ≡ first ++ later → past' ≡ Some (past ++ more) → All P (drop (length first) (first ++ later) ++ before ∷ [])
          → All P (states_since (Some past) past' after) → AtEachMoment (Some first) past' (Some after) P
      joined later more is told all each =
          let each' : All P (states_since (Some past) (Some (past ++ more)) after) = subst (λ (p : Past). All P (states_since (Some past) p after)) told each in
          let each'' : All P (drop (length (first ++ later)) ((first ++ later) ++ more) ++ after ∷ []) =
          subst (λ (p : List DiskState). All P (drop (length p) (p ++ more) ++ after ∷ [])) is each' in
          join_told first later more past' before after (told ∙ ap (λ (p : List DiskState). Some (p ++ more)) is) all each''

-- what holds at each moment is all that was asked
pub moments_weaker : (P Q : DiskState → Type 0) → ((disk : DiskState) → P disk → Q disk) → (past past' : Past) (disk : DiskState) → AtEachMoment past past' (Some disk) P → AtEachMoment past past' (Some disk) Q
moments_weaker P Q from past past' disk moments = record { goes_on = moments.goes_on; each = All-weaker P Q from (states_since past past' disk) moments.each }
