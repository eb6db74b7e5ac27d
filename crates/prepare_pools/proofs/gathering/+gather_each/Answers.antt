use Rattle.std.proofs.Common.{◌≡◌, ◌∙◌, ◌-◌, ◌∷◌, ap, sym, length, take, drop, map, arith}
use Rattle.std.proofs.lemmas.Grind.{common_steps}
use Rattle.std.proofs.lemmas.Result.{on_ok_weaker}
use Rattle.prepare_pools.proofs.Gathered.{keys_more}
use Rattle.prepare_pools.proofs.gathering.+gather_each.Goals as goal

pub returns-in_ok-gather-in-len1-up : goal.returns-in_ok-gather-in-len1-up
returns-in_ok-gather-in-len1-up g t c =
    let items = c.args.items.now in
    let rest = take (length items - 1) (drop 1 items) in
    let all : items ≡ c.first-item.result ∷ rest = grind (arith, common_steps) in
    let keys = map g.T.Keyed.key_of rest in
    let is = ap (map g.T.Keyed.key_of) all ∙ ap (λ k. k ∷ keys) (sym c.key.ensures) in
    on_ok_weaker c.gather_each.result
    (keys_more c.args.line.now c.args.index.now c.args.site c.args.any c.key.result.now keys _ c.touching.result.now _ _ _ c.requires.line c.requires.indexed is c.touching.ensures
    c.in_ok-gather-in-len1-up.ensures)
    c.gather_each.ensures
