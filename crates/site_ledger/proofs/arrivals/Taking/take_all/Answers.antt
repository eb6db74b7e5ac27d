use Rattle.std.proofs.Common.{◌≡◌, ◌∙◌, ap, sym, subst, refl, length, List, [], ◌∷◌, map, ◌<◌}
use Rattle.std.proofs.lemmas.Iterator.Consumers.{YieldsList-end, YieldsList-turn}
use Rattle.std.proofs.lemmas.Iterator.Adapters.{YieldsList-from_vec}
use Rattle.helios_model.specs.Log.{origin}
use Rattle.helios_model.specs.Exchange.{take_all}
use Rattle.time_table.specs.Table.{time_at}
use Rattle.site_ledger.specs.Ledger.{BecomesIntake}
use Rattle.site_ledger.proofs.Arriving.{goes_itself, goes_on, took_next, took_none, takeable_next}
use Rattle.site_ledger.proofs.arrivals.Taking.take_all.Goals as goal

map_itself : {X : Type 0} (xs : List X) → map (λ x. x) xs ≡ xs
map_itself [] = refl
map_itself (x ∷ xs) = ap (λ ys. x ∷ ys) (map_itself xs)

pub loop-r-init : goal.loop-r-init
loop-r-init c = record {
  goes = goes_itself c.args.self.ledger c.args.self.clock c.requires.bounded;
  each = λ b h may. took_none c.args.self.ledger.site (time_at c.args.t.now c.args.self.ledger.site) b c.args.self.ledger c.args.self.clock c.args.records h may;
}

pub take_one-requires : goal.take_one-requires
take_one-requires c =
    let gives = c.into_iter-r-iterator.ensures.into_iter_gives in
    let t = YieldsList-turn (YieldsList-from_vec {s = c.into_iter-r-iterator.result} c.args.records (gives.0 ∙ c.into_items-items.ensures) (gives.1 ∙ c.into_items-items.result.ok.0 ∙ ap length c.into_items-items.ensures))
    c.loop-r.yielded c.loop-r.r-iterator c.loop-r.yielded_by c.next.result c.next.new.self c.in-Some.r c.in-Some.is c.next.ensures.steps in
    record {
      count = c.loop-r.invariant.goes.count ∙ c.requires.count;
      origin = subst (λ x. origin x < c.args.t.now.count) (sym t.1) (c.requires.origins (length c.loop-r.yielded) c.in-Some.r t.0);
      after = takeable_next c.args.t.now c.args.self.ledger.site c.requires.after.base c.args.self.ledger c.loop-r.taking.ledger c.args.self.clock c.loop-r.taking.clock c.args.records c.loop-r.yielded c.in-Some.r
          c.loop-r.invariant.goes.site (c.loop-r.invariant.each c.requires.after.base c.requires.after.is c.requires.after.may) t.1 t.0;
      bounded = c.loop-r.invariant.goes.bounded;
    }

pub loop-r-preserved : goal.loop-r-preserved
loop-r-preserved c =
    let gives = c.into_iter-r-iterator.ensures.into_iter_gives in
    let t = YieldsList-turn (YieldsList-from_vec {s = c.into_iter-r-iterator.result} c.args.records (gives.0 ∙ c.into_items-items.ensures) (gives.1 ∙ c.into_items-items.result.ok.0 ∙ ap length c.into_items-items.ensures))
    c.loop-r.yielded c.loop-r.r-iterator c.loop-r.yielded_by c.next.result c.next.new.self c.in-Some.r c.in-Some.is c.next.ensures.steps in
    record {
      goes = goes_on c.loop-r.invariant.goes c.in_ok-taking.ensures.goes;
      each = λ b h may.
          took_next c.args.t.now c.args.self.ledger.site b c.args.self.ledger c.loop-r.taking.ledger c.in_ok-taking.taking.ledger c.args.self.clock c.loop-r.taking.clock c.in_ok-taking.taking.clock
          c.args.records c.loop-r.yielded c.in-Some.r c.loop-r.invariant.goes.site (c.loop-r.invariant.each b h may) t.1 t.0 c.requires.rise (c.in_ok-taking.ensures.taken b);
    }

pub returns : goal.returns
returns c =
    let gives = c.into_iter-r-iterator.ensures.into_iter_gives in
    let all = YieldsList-end (YieldsList-from_vec {s = c.into_iter-r-iterator.result} c.args.records (gives.0 ∙ c.into_items-items.ensures) (gives.1 ∙ c.into_items-items.result.ok.0 ∙ ap length c.into_items-items.ensures))
    c.loop-r.yielded c.loop-r.r-iterator c.loop-r.yielded_by c.next.result c.next.new.self c.in-None.is c.next.ensures.steps in
    record {
      taken = λ b h may.
          subst (λ rs. BecomesIntake b c.args.self.ledger c.args.self.clock c.loop-r.taking.ledger c.loop-r.taking.clock (λ a. take_all c.args.self.ledger.site (time_at c.args.t.now c.args.self.ledger.site) a rs))
          (sym (map_itself c.loop-r.yielded) ∙ all.0) (c.loop-r.invariant.each b h may).becomes;
      goes = c.loop-r.invariant.goes;
    }
