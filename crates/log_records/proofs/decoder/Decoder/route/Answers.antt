use Rattle.std.proofs.Common.{◌∙◌}
use Rattle.std.proofs.lemmas.Result.{err_from_is_err_and}
use Rattle.log_records.proofs.MessageFields.{route_fails, route_is, sites_few}
use Rattle.log_records.proofs.decoder.Decoder.route.Goals as goal

pub site-requires : goal.site-requires
site-requires c = sites_few c.args.self.now.whole c.args.self.now.rest.now c.in_ok-count.count c.byte.new.self.rest.now c.in_ok-count.ensures.takes.0

pub other_site-requires : goal.other_site-requires
other_site-requires c = sites_few c.args.self.now.whole c.args.self.now.rest.now c.in_ok-count.count c.byte.new.self.rest.now c.in_ok-count.ensures.takes.0

pub returns-in_err-to : goal.returns-in_err-to
returns-in_err-to c =
    let p = err_from_is_err_and c.from_residual-in_err-to.result c.from_residual-in_err-to.ensures.1 in
    let from = rw c.in_ok-count.ensures.takes.1 at c.in_ok-from.ensures.takes.0 in
    let told = rw (c.in_ok-from.ensures.takes.1 ∙ c.in_ok-count.ensures.takes.1) at c.in_err-to.ensures in
    rw (p.1, p.2) (route_fails c.in_err-to.field-0.0 c.args.self.now.whole c.args.self.now.rest.now c.in_ok-count.count c.byte.new.self.rest.now c.in_ok-from.from c.site.new.self.rest.now c.in_ok-count.ensures.takes.0 from told)

pub returns : goal.returns
returns c =
    let same = c.in_ok-from.ensures.takes.1 ∙ c.in_ok-count.ensures.takes.1 in
    let from = rw c.in_ok-count.ensures.takes.1 at c.in_ok-from.ensures.takes.0 in
    let to = rw same at c.in_ok-to.ensures.0 in
    (route_is c.args.self.now.whole c.args.self.now.rest.now c.in_ok-count.count c.byte.new.self.rest.now c.in_ok-from.from c.site.new.self.rest.now c.in_ok-to.to c.other_site.new.self.rest.now c.in_ok-count.ensures.takes.0 from to, c.in_ok-to.ensures.1 ∙ same)
