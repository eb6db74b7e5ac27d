use Rattle.std.proofs.Common.{◌-◌, Ok, sym, ap, ◌∙◌, drop, arith}
use Rattle.std.proofs.lemmas.Result.{err_from_is_err_and}
use Rattle.helios_model.specs.Transactions.{Asking}
use Rattle.link_codec.proofs.Asks.{ask_read, ask_refused, same_some}
use Rattle.link_codec.proofs.fronts.front_ask.Goals as goal

pub returns-in_err-entry : goal.returns-in_err-entry
returns-in_err-entry c =
    let p = err_from_is_err_and c.from_residual-in_err-entry.result c.from_residual-in_err-entry.ensures.1 in
    let is = c.as_slice.ensures.value ∙ c.in_ok-bytes.ensures in
    rw (p.1, p.2) (ask_refused c.entries_are_read_again.ensures c.what_is_read_is_an_entry.ensures c.args.body.now (λ i. omega (arith, c.type_inv.body i)) c.as_slice.result.now is c.in_err-entry.field-0.0 c.in_err-entry.ensures.read)

pub returns-in-None : goal.returns-in-None
returns-in-None c =
    let is = c.as_slice.ensures.value ∙ c.in_ok-bytes.ensures in
    let read = c.in_ok-entry.ensures.read in
    let r = ask_read c.entries_are_read_again.ensures c.what_is_read_is_an_entry.ensures c.args.body.now (λ i. omega (arith, c.type_inv.body i)) c.as_slice.result.now is c.in_ok-entry.entry c.in_ok-entry.length read.0 read.1 read.2 in
    let bad = c.in-None.ensures ∙ r.is in
    absurd cc

pub overflow_sub-result : goal.overflow_sub-result
overflow_sub-result c =
    let is = c.as_slice.ensures.value ∙ c.in_ok-bytes.ensures in
    let read = c.in_ok-entry.ensures.read in
    (ask_read c.entries_are_read_again.ensures c.what_is_read_is_an_entry.ensures c.args.body.now (λ i. omega (arith, c.type_inv.body i)) c.as_slice.result.now is c.in_ok-entry.entry c.in_ok-entry.length read.0 read.1 read.2).nine

pub returns : goal.returns
returns c =
    let is = c.as_slice.ensures.value ∙ c.in_ok-bytes.ensures in
    let read = c.in_ok-entry.ensures.read in
    let r = ask_read c.entries_are_read_again.ensures c.what_is_read_is_an_entry.ensures c.args.body.now (λ i. omega (arith, c.type_inv.body i)) c.as_slice.result.now is c.in_ok-entry.entry c.in_ok-entry.length read.0 read.1 read.2 in
    let same = same_some c.in-Some.ask r.ask (c.in-Some.ensures ∙ r.is) in
    (r.read.0, r.read.1 ∙ ap (λ (a : Asking). Ok (a, drop (c.in_ok-entry.length - 9) c.args.body.now)) (sym same))
