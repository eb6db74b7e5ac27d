use Rattle.std.specs.Ordering.{nat_cmp}
use Rattle.std.specs.Cmp.{both_tied, unsigned_ties}
use Rattle.history_audit.proofs.Given.{added_among}
use Rattle.history_audit.proofs.reading.add.Goals as goal

pub returns-clause-more : goal.returns-clause-more
returns-clause-more c =
    added_among _ (λ a b. both_tied _ _ (nat_cmp a.site b.site) (nat_cmp a.time b.time) (unsigned_ties a.site b.site) (unsigned_ties a.time b.time))
    c.args.given.now.keys c.insert.new.self.keys c.args.id c.in_ok-insert.ensures.keys
