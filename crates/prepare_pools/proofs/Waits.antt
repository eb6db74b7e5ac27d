-- Transactions in a line: one enters behind the others, one leaves.
use Rattle.std.proofs.Common.{◌≡◌, inl, inr, ℕ, ◌<◌, ◌+◌, List, [], ◌∷◌, ◌++◌, Bool, true, false, not, ◌||◌, Option, Some, None, find, filter, map, length, nat_eq, refl, sym, ap, ◌∙◌, subst, arith, get_or, set}
use Rattle.std.specs.List.{list_any}
use Rattle.std.specs.Option.{option_map}
use Rattle.std.specs.Ordering.{nat_cmp}
use Rattle.std.specs.Map.{lookup, remove_entry, values_of}
use Rattle.std.specs.BTreeMap.{insert_entry, is_at}
use Rattle.std.proofs.lemmas.Bool.{cases_eq}
use Rattle.std.proofs.Common.{get_or-set_other, get_or-set_same}
use Rattle.std.proofs.Math.ListN.{length-set}
use Rattle.std.proofs.lemmas.Bool.{eq-eqb}
use Rattle.std.proofs.lemmas.List.Elements.{filter-append}
use Rattle.helios_model.specs.declared.ids.TxnId.{TxnId}
use Rattle.helios_model.specs.Ids.{same_id}
use Rattle.helios_model.specs.Limits.{most_sites}
use Rattle.helios_model.specs.Transactions.{Transaction}
use Rattle.prepare_pools.specs.Line.{AllBelow, arrival_of}
use Rattle.prepare_pools.specs.Waiting.{IsWaiting, of_site}
use Rattle.prepare_pools.proofs.Lines.{all_filter, all_missed, all_push, all_weaker, filter_same, insert_last, line_found, line_push, line_removed, none_mapped, pairs_filter}
use Rattle.prepare_pools.proofs.Sites.{append_none, same_id_is, same_id_of, site_arrival, site_leave_other, site_leave_own, site_push_other, site_push_own}

any_parts : (a b : Bool) → (a || b) ≡ false → (a ≡ false) × (b ≡ false)
any_parts true b e = absurd (cc)
any_parts false b e = (refl, e)

-- none has the id, so none is found by it
pub none_held : (id : TxnId) (es : List (ℕ × Transaction)) → list_any (λ p. same_id p.id id) (values_of es) ≡ false → find (λ e. same_id e.1.id id) es ≡ None
none_held id [] none = refl
none_held id (e ∷ es) none =
    let parts = any_parts (same_id e.1.id id) _ none in
    let first : same_id e.1.id id ≡ false = parts.0 in
    rw first (none_held id es parts.1)

found_case : (test : Transaction → Bool) (e : ℕ × Transaction) (es : List (ℕ × Transaction)) (b : Bool) → test e.1 ≡ b
    → find test (values_of es) ≡ option_map (λ f. f.1) (find (λ f. test f.1) es)
    → find test (values_of (e ∷ es)) ≡ option_map (λ f. f.1) (find (λ f. test f.1) (e ∷ es))
found_case test e es true hit rest = rw hit refl
found_case test e es false hit rest = rw hit rest

pub found_value : (test : Transaction → Bool) (es : List (ℕ × Transaction)) → find test (values_of es) ≡ option_map (λ f. f.1) (find (λ f. test f.1) es)
found_value test [] = refl
found_value test (e ∷ es) = found_case test e es _ refl (found_value test es)

pub values_append : {X : Type 0} (es more : List (ℕ × X)) → values_of (es ++ more) ≡ values_of es ++ values_of more
values_append [] more = refl
values_append (e ∷ es) more = ap (λ xs. e.1 ∷ xs) (values_append es more)

-- every site's times, after those of one site are written
sites_written : (sites : List (List (ℕ × ℕ))) (es : List (ℕ × Transaction)) (at : ℕ) (new : List (ℕ × ℕ)) → length sites ≡ most_sites → at < most_sites
    → new ≡ of_site at es → ((k : ℕ) (d : List (ℕ × ℕ)) → k < most_sites → (at ≡ k → ⊥) → get_or sites k d ≡ of_site k es)
    → (k : ℕ) (d : List (ℕ × ℕ)) → k < most_sites → get_or (set sites at new) k d ≡ of_site k es
sites_written sites es at new sized small is others k d below =
    elim (cases_eq at k) [
      | inl same ↦
          (let within : at < length sites = omega arith in
          subst (λ j. get_or (set sites at new) j d ≡ of_site j es) same (rw get_or-set_same is))
      | inr other ↦
          (let ne : k ≡ at → ⊥ = λ e. other (sym e) in
          rw get_or-set_other (others k d below other))
    ]

-- the times of a site before one enters: each lower, and none that of the id
pub enters : (es : List (ℕ × Transaction)) (sites : List (List (ℕ × ℕ))) (next at time : ℕ) (site : List (ℕ × ℕ)) (id : TxnId) (view : List (ℕ × Transaction)) → es ≡ view
    → IsWaiting es sites next → list_any (λ q. same_id q.id id) (values_of view) ≡ false → at ≡ id.site → at < most_sites → time ≡ id.time
    → site ≡ get_or sites at site → AllBelow next site × (arrival_of (λ t. nat_eq t time) site ≡ None)
enters es sites next at time site id view shown state none is small timed read =
    let none_in : list_any (λ q. same_id q.id id) (values_of es) ≡ false = subst (λ v. list_any (λ q. same_id q.id id) (values_of v) ≡ false) (sym shown) none in
    let here : site ≡ of_site id.site es = read ∙ (state.by_site at site small ∙ ap (λ k. of_site k es) is) in (
      subst (λ s. AllBelow next s) (sym here) (below_site id.site next es state.below),
      ap (λ u. arrival_of (λ t. nat_eq t u) site) timed ∙
          (ap (arrival_of (λ t. nat_eq t id.time)) here ∙ (site_arrival es id ∙ ap (option_map (λ e. e.0)) (none_held id es none_in))),
    )
  where
    below_own : (k n : ℕ) (es : List (ℕ × Transaction)) → AllBelow n es → AllBelow n (map (λ e. (e.0, e.1.id.time)) es)
    below_own k n [] below = tt
    below_own k n (e ∷ es) below = (below.0, below_own k n es below.1)

    below_site : (k n : ℕ) (es : List (ℕ × Transaction)) → AllBelow n es → AllBelow n (of_site k es)
    below_site k n es below = below_own k n (filter (λ e. nat_eq e.1.id.site k) es) (all_filter _ _ es below)

-- a transaction behind the others
pub has_entered : (es : List (ℕ × Transaction)) (sites : List (List (ℕ × ℕ))) (next after at time : ℕ) (site put : List (ℕ × ℕ)) (p : Transaction) (view new : List (ℕ × Transaction))
    → es ≡ view → IsWaiting es sites next → list_any (λ q. same_id q.id p.id) (values_of view) ≡ false → at ≡ p.id.site → at < most_sites → time ≡ p.id.time
    → site ≡ get_or sites at site → put ≡ site ++ (next, time) ∷ [] → after ≡ next + 1 → new ≡ insert_entry nat_cmp es next p
    → IsWaiting new (set sites at put) after × (values_of new ≡ values_of view ++ p ∷ [])
has_entered es sites next after at time site put p view new shown state none is small timed read entered_ counted inserted =
    let missing : find (λ e. same_id e.1.id p.id) es ≡ None = none_held p.id es (subst (λ v. list_any (λ q. same_id q.id p.id) (values_of v) ≡ false) (sym shown) none) in
    let last : new ≡ es ++ (next, p) ∷ [] = inserted ∙ insert_last es next p state.below in
    let own : put ≡ of_site at (es ++ (next, p) ∷ []) =
    entered_ ∙ (ap (λ s. s ++ (next, time) ∷ []) (read ∙ (state.by_site at site small ∙ ap (λ k. of_site k es) is)) ∙
    (ap (λ t. of_site p.id.site es ++ (next, t) ∷ []) timed ∙ (sym (site_push_own es next p) ∙ ap (λ k. of_site k (es ++ (next, p) ∷ [])) (sym is)))) in
    let stands : IsWaiting (es ++ (next, p) ∷ []) (set sites at put) after = record {
      line = line_push (λ q. q.id) (λ q. same_id q.id p.id) next p (λ q same. same_id_of q.id p.id same) es state.below missing state.line;
      below = all_push _ es (next, p) (all_weaker _ _ (λ e lower. omega (arith, lower)) es state.below) (omega arith);
      sized = simp length-set state.sized;
      by_site = sites_written sites (es ++ (next, p) ∷ []) at put state.sized small own
          (λ k d below other. state.by_site k d below ∙ sym (site_push_other k es next p (λ e. other (is ∙ e))));
    } in (
      subst (λ xs. IsWaiting xs (set sites at put) after) (sym last) stands,
      ap values_of last ∙ (values_append es ((next, p) ∷ []) ∙ ap (λ v. values_of v ++ p ∷ []) shown),
    )

-- one that could not enter has left its site again
pub as_it_was : (es : List (ℕ × Transaction)) (sites : List (List (ℕ × ℕ))) (next at time : ℕ) (site put kept back : List (ℕ × ℕ)) (id : TxnId) (view new : List (ℕ × Transaction))
    → es ≡ view → IsWaiting es sites next → list_any (λ q. same_id q.id id) (values_of view) ≡ false → at ≡ id.site → at < most_sites → time ≡ id.time
    → site ≡ get_or sites at site → put ≡ site ++ (next, time) ∷ [] → kept ≡ get_or (set sites at put) at kept
    → back ≡ filter (λ e. not (nat_eq e.1 time)) kept → new ≡ es → IsWaiting new (set (set sites at put) at back) next
as_it_was es sites next at time site put kept back id view new shown state none is small timed read entered_ kept_is left_ same =
    let missing : find (λ e. nat_eq e.1 time) site ≡ None = none_mapped _ _ (enters es sites next at time site id view shown state none is small timed read).1 in
    let within : at < length sites = let sized = state.sized in omega arith in
    let put_is : kept ≡ site ++ (next, time) ∷ [] = kept_is ∙ (get_or-set_same sites at put kept within ∙ entered_) in
    let hit : nat_eq time time ≡ true = eq-eqb time time refl in
    let tail : filter (λ e. not (nat_eq e.1 time)) ((next, time) ∷ []) ≡ [] = rw hit refl in
    let own : back ≡ of_site at es =
    left_ ∙ (ap (filter (λ e. not (nat_eq e.1 time))) put_is ∙ (filter-append (λ e. not (nat_eq e.1 time)) site ((next, time) ∷ []) ∙
    (ap (λ xs. filter (λ e. not (nat_eq e.1 time)) site ++ xs) tail ∙ (append_none (filter (λ e. not (nat_eq e.1 time)) site) ∙
    (filter_same (λ e. nat_eq e.1 time) site (all_missed (λ e. nat_eq e.1 time) site missing) ∙ (read ∙ state.by_site at site small)))))) in
    let stands : IsWaiting es (set (set sites at put) at back) next = record {
      line = state.line;
      below = state.below;
      sized = simp length-set state.sized;
      by_site = sites_written (set sites at put) es at back (simp length-set state.sized) small own
          (λ k d below other. get_or-set_other sites at k put d (λ e. other (sym e)) ∙ state.by_site k d below);
    } in
    subst (λ xs. IsWaiting xs (set (set sites at put) at back) next) (sym same) stands

-- a transaction is taken out
pub has_left : (es : List (ℕ × Transaction)) (sites : List (List (ℕ × ℕ))) (next at time : ℕ) (site back : List (ℕ × ℕ)) (id : TxnId) (es' : List (ℕ × Transaction))
    → IsWaiting es sites next → at ≡ id.site → at < most_sites → time ≡ id.time → site ≡ get_or sites at site
    → back ≡ filter (λ e. not (nat_eq e.1 time)) site → es' ≡ filter (λ e. not (same_id e.1.id id)) es → IsWaiting es' (set sites at back) next
has_left es sites next at time site back id es' state is small timed read left_ gone =
    let own : back ≡ of_site at (filter (λ e. not (same_id e.1.id id)) es) =
    left_ ∙ (ap (filter (λ e. not (nat_eq e.1 time))) (read ∙ (state.by_site at site small ∙ ap (λ k. of_site k es) is)) ∙
    (ap (λ t. filter (λ e. not (nat_eq e.1 t)) (of_site id.site es)) timed ∙
    (sym (site_leave_own es id) ∙ ap (λ k. of_site k (filter (λ e. not (same_id e.1.id id)) es)) (sym is)))) in
    let stands : IsWaiting (filter (λ e. not (same_id e.1.id id)) es) (set sites at back) next = record {
      line = pairs_filter _ _ es state.line;
      below = all_filter _ _ es state.below;
      sized = simp length-set state.sized;
      by_site = sites_written sites (filter (λ e. not (same_id e.1.id id)) es) at back state.sized small own
          (λ k d below other. state.by_site k d below ∙ sym (site_leave_other k es id (λ e. other (is ∙ e))));
    } in
    subst (λ xs. IsWaiting xs (set sites at back) next) (sym gone) stands

-- what stands at a site's place
pub site_read : (es : List (ℕ × Transaction)) (sites : List (List (ℕ × ℕ))) (next at k : ℕ) (site : List (ℕ × ℕ)) (view : List (ℕ × Transaction)) → es ≡ view
    → IsWaiting es sites next → at ≡ k → at < most_sites → site ≡ get_or sites at site → site ≡ of_site k view
site_read es sites next at k site view shown state is small read =
    read ∙ (state.by_site at site small ∙ (ap (λ j. of_site j es) is ∙ ap (of_site k) shown))

pub some_mapped : {X : Type 0} (o : Option (ℕ × X)) (a : ℕ) → option_map (λ e. e.0) o ≡ Some a → (x : X) × (o ≡ Some (a, x))
some_mapped None a e = absurd (cc)
some_mapped (Some p) a e = (p.1, let same : p.0 ≡ a = cc in ap (λ k. Some (k, p.1)) same)

-- the number that an id's time has at its site takes just that transaction out, and is that of the one that the id finds
pub taken : (es : List (ℕ × Transaction)) (sites : List (List (ℕ × ℕ))) (next at time a : ℕ) (site : List (ℕ × ℕ)) (id : TxnId) (view new : List (ℕ × Transaction))
    → es ≡ view → IsWaiting es sites next → at ≡ id.site → at < most_sites → time ≡ id.time → site ≡ get_or sites at site
    → arrival_of (λ t. nat_eq t time) site ≡ Some a → new ≡ remove_entry (is_at (nat_cmp a)) es
    → (new ≡ filter (λ e. not (same_id e.1.id id)) es) × (lookup (is_at (nat_cmp a)) es ≡ find (λ p. same_id p.id id) (values_of view))
taken es sites next at time a site id view new shown state is small timed read has removed =
    let numbered : arrival_of (λ p. same_id p.id id) es ≡ Some a =
    sym (site_arrival es id) ∙ (ap (arrival_of (λ t. nat_eq t id.time)) (sym (site_read es sites next at id.site site es refl state is small read)) ∙
    (ap (λ u. arrival_of (λ t. nat_eq t u) site) (sym timed) ∙ has)) in
    let found = some_mapped (find (λ e. same_id e.1.id id) es) a numbered in (
      removed ∙ line_removed (λ p. p.id) (λ p. same_id p.id id) (λ p q one other. same_id_is p.id id one ∙ sym (same_id_is q.id id other)) es a found.0 state.line found.1,
      line_found (λ p. p.id) (λ p. same_id p.id id) es a found.0 state.line found.1 ∙
          (sym (found_value (λ p. same_id p.id id) es ∙ ap (option_map (λ f. f.1)) found.1) ∙ ap (λ v. find (λ p. same_id p.id id) (values_of v)) shown),
    )

-- where an id's time has no number at its site, none has the id
pub none_taken : (es : List (ℕ × Transaction)) (sites : List (List (ℕ × ℕ))) (next at time : ℕ) (site : List (ℕ × ℕ)) (id : TxnId) (view : List (ℕ × Transaction))
    → es ≡ view → IsWaiting es sites next → at ≡ id.site → at < most_sites → time ≡ id.time → site ≡ get_or sites at site
    → arrival_of (λ t. nat_eq t time) site ≡ None
    → (es ≡ filter (λ e. not (same_id e.1.id id)) es) × (None ≡ find (λ p. same_id p.id id) (values_of view))
none_taken es sites next at time site id view shown state is small timed read has =
    let numbered : arrival_of (λ p. same_id p.id id) es ≡ None =
    sym (site_arrival es id) ∙ (ap (arrival_of (λ t. nat_eq t id.time)) (sym (site_read es sites next at id.site site es refl state is small read)) ∙
    (ap (λ u. arrival_of (λ t. nat_eq t u) site) (sym timed) ∙ has)) in
    let missing : find (λ e. same_id e.1.id id) es ≡ None = none_mapped _ _ numbered in (
      sym (filter_same (λ e. same_id e.1.id id) es (all_missed (λ e. same_id e.1.id id) es missing)),
      sym (found_value (λ p. same_id p.id id) es ∙ ap (option_map (λ f. f.1)) missing) ∙ ap (λ v. find (λ p. same_id p.id id) (values_of v)) shown,
    )
