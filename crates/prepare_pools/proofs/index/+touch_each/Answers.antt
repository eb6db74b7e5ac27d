use Rattle.std.proofs.Common.{◌≡◌, ◌∙◌, ◌-◌, ◌∷◌, ap, sym, length, take, drop, map, arith}
use Rattle.std.proofs.lemmas.Grind.{common_steps}
use Rattle.std.proofs.lemmas.Result.{on_err_weaker}
use Rattle.prepare_pools.proofs.Touched.{keeps_step}
use Rattle.prepare_pools.proofs.index.+touch_each.Goals as goal

pub returns-in_ok-touch_one-in-len1-up-clause-keeps : goal.returns-in_ok-touch_one-in-len1-up-clause-keeps
returns-in_ok-touch_one-in-len1-up-clause-keeps g t c =
    let items = c.args.items.now in
    let rest = take (length items - 1) (drop 1 items) in
    let all : items ≡ c.first-item.result ∷ rest = grind (arith, common_steps) in
    let keys = map g.T.Keyed.key_of rest in
    on_err_weaker c.touch_each.result
    (keeps_step c.args.p.now c.args.write c.key.result.now keys _ _ _ _ (ap (map g.T.Keyed.key_of) all ∙ ap (λ k. k ∷ keys) (sym c.key.ensures)) c.in_ok-touch_one-in-len1-up.ensures.pushed)
    c.touch_each.ensures.keeps
