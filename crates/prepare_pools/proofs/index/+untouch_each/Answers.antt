use Rattle.std.proofs.Common.{◌≡◌, ◌∙◌, ◌-◌, ◌∷◌, ap, sym, subst, length, take, drop, map, arith, if◌then◌else◌}
use Rattle.std.proofs.lemmas.Grind.{common_steps}
use Rattle.helios_model.specs.Texts.{contains_text, same_text}
use Rattle.prepare_pools.specs.Touches.{touched, without_id}
use Rattle.prepare_pools.proofs.Touched.{out_of_both}
use Rattle.prepare_pools.proofs.index.+untouch_each.Goals as goal

pub returns-in-len1-up : goal.returns-in-len1-up
returns-in-len1-up g t c = λ q.
    let items = c.args.items.now in
    let rest = take (length items - 1) (drop 1 items) in
    let all : items ≡ c.first-item.result ∷ rest = grind (arith, common_steps) in
    let keys = map g.T.Keyed.key_of rest in
    let is = ap (map g.T.Keyed.key_of) all ∙ ap (λ k. k ∷ keys) (sym c.key.ensures) in
    subst (λ ks. touched c.untouch_each.new.index q ≡ (if contains_text ks q then without_id c.args.id.now (touched c.args.index.now q) else touched c.args.index.now q)) (sym is)
    (out_of_both c.args.id.now (same_text c.key.result.now q) (contains_text keys q) _ _ _ (c.untouch.ensures q) (c.untouch_each.ensures q))
