use Rattle.std.proofs.Common.{◌∙◌, ap, length}
use Rattle.log_records.proofs.MessageFields.{route_few, times_long}
use Rattle.log_records.proofs.decoder.Decoder.body.Goals as goal

pub records-requires-clause-few : goal.records-requires-clause-few
records-requires-clause-few c = route_few c.args.self.now.whole c.args.self.now.rest.now c.in_ok-route.route c.route.new.self.rest.now c.in_ok-route.ensures.0

pub records-requires-clause-covered : goal.records-requires-clause-covered
records-requires-clause-covered c = ap length c.items.ensures ∙ times_long c.in_ok-route.route.count c.times.new.self.whole c.times.new.self.rest.now c.in_ok-cover.cover c.times-2.new.self.rest.now c.in_ok-cover.ensures.0
