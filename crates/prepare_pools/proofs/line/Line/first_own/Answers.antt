use Rattle.std.proofs.Common.{◌≡◌, ◌∙◌, ap, sym, subst, Some, length}
use Rattle.std.specs.List.{slice_get}
use Rattle.helios_model.specs.Log.{is_own}
use Rattle.prepare_pools.proofs.Found.{first_is, first_missing, none_at, value_at, zero_from}
use Rattle.prepare_pools.proofs.Waits.{site_read}
use Rattle.prepare_pools.proofs.line.Line.first_own.Goals as goal

pub returns-in-Some : goal.returns-in-Some
returns-in-Some c =
    let read = c.times.ensures ∙ site_read _ _ _ _ c.args.site _ _ c.self.view_is c.self.invariant c.number.ensures.value c.number.ensures.small c.index.ensures in
    let first = subst (λ es. slice_get es 0 ≡ Some (c.in-Some.arrival.now, c.in-Some.field-0-1.now)) read c.in-Some.ensures.first in
    c.get.ensures.value ∙ value_at (is_own c.args.site) _ _ c.in-Some.arrival.now c.self.view_is c.self.invariant.line (first_is c.args.site c.args.self.now _ _ first)

pub returns-in-None : goal.returns-in-None
returns-in-None c =
    let read = c.times.ensures ∙ site_read _ _ _ _ c.args.site _ _ c.self.view_is c.self.invariant c.number.ensures.value c.number.ensures.small c.index.ensures in
    none_at (is_own c.args.site) _ (first_missing c.args.site c.args.self.now
    (ap length (sym read) ∙ zero_from _ (λ some. absurd (let e = c.in-None.ensures.variant.1 some in cc))))
