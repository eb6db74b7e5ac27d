use Rattle.std.proofs.Common.{◌≡◌, ◌∙◌, ◌-◌, [], ◌∷◌, ap, sym, length, take, drop, map, arith}
use Rattle.std.specs.List.{list_any}
use Rattle.std.proofs.lemmas.Grind.{common_steps}
use Rattle.prepare_pools.specs.Line.{arrival_of}
use Rattle.prepare_pools.specs.Conflicts.{earlier, hits}
use Rattle.prepare_pools.proofs.Lists.{empty_is}
use Rattle.prepare_pools.proofs.Firsts.{first_of_both, never_first}
use Rattle.prepare_pools.proofs.conflicts.+first_among.Goals as goal

pub returns-in-empty : goal.returns-in-empty
returns-in-empty g t c =
    let none : c.args.items.now ≡ [] = empty_is c.args.items.now (omega arith) in
    sym (ap (λ xs. arrival_of (λ q. list_any (λ key. hits c.args.any key q) (map g.T.Keyed.key_of xs)) c.args.line.now) none ∙ never_first c.args.line.now)

pub returns-in-len1-up : goal.returns-in-len1-up
returns-in-len1-up g t c =
    let items = c.args.items.now in
    let rest = take (length items - 1) (drop 1 items) in
    let all : items ≡ c.first-item.result ∷ rest = grind (arith, common_steps) in
    let keys = map g.T.Keyed.key_of rest in
    let is = ap (map g.T.Keyed.key_of) all ∙ ap (λ k. k ∷ keys) (sym c.key.ensures) in
    c.earlier_of.ensures ∙ (ap (λ a. earlier a c.first_among.result) c.first_touch.ensures ∙ (ap (earlier (arrival_of (hits c.args.any c.key.result.now) c.args.line.now)) c.first_among.ensures ∙
    (first_of_both (hits c.args.any c.key.result.now) (λ q. list_any (λ key. hits c.args.any key q) keys) c.args.line.now c.requires.line ∙
    ap (λ ks. arrival_of (λ q. list_any (λ key. hits c.args.any key q) ks) c.args.line.now) (sym is))))
