use Rattle.std.proofs.Common.{◌∙◌, ap, sym, Some, unwrap_or, [], ◌∷◌, ◌++◌}
use Rattle.std.specs.Option.{option_copied_mut}
use Rattle.std.proofs.lemmas.Result.{on_err_weaker, on_ok_weaker}
use Rattle.prepare_pools.proofs.Lists.{list_changed, list_kept, list_made}
use Rattle.prepare_pools.proofs.index.Index.touch.Goals as goal

pub returns-then-contains_key-clause-pushed : goal.returns-then-contains_key-clause-pushed
returns-then-contains_key-clause-pushed c =
    on_ok_weaker c.push.result
    (λ pushed. list_changed c.args.key.now (λ ts. ts ++ c.args.touch ∷ []) _ _ _ (Some c.push.new.self) c.self.view_is
    ((c.get_mut.follows.holds c.push.new.self).3 (sym c.contains_key.ensures ∙ c.if-contains_key.true)).0
    (pushed ∙ ap (λ o. unwrap_or o [] ++ c.args.touch ∷ []) (sym (ap option_copied_mut c.unwrap.ensures) ∙ c.get_mut.ensures.value)))
    c.push.ensures.pushed

pub returns-then-contains_key-clause-as_before : goal.returns-then-contains_key-clause-as_before
returns-then-contains_key-clause-as_before c =
    on_err_weaker c.push.result
    (λ kept. list_kept c.args.key.now _ _ _ (Some c.push.new.self) c.self.view_is
    ((c.get_mut.follows.holds c.push.new.self).3 (sym c.contains_key.ensures ∙ c.if-contains_key.true)).0
    (kept ∙ ap (λ o. unwrap_or o []) (sym (ap option_copied_mut c.unwrap.ensures) ∙ c.get_mut.ensures.value)))
    c.push.ensures.as_before

pub returns-clause-pushed : goal.returns-clause-pushed
returns-clause-pushed c =
    list_made c.args.key.now c.in_ok-copy.field-0 c.args.touch _ _ _ _ _ c.in_ok-copy.ensures c.self.view_is
    (sym c.contains_key.ensures ∙ c.if-contains_key.false) c.in_ok-insert.ensures.updates.0 c.new-touches.ensures c.in_ok-push.ensures.pushed
