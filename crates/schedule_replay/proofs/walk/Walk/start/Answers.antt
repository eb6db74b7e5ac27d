use Rattle.std.proofs.Common.{◌≡◌, subst, refl, None, replicate}
use Rattle.schedule_replay.specs.WalkStates.{WalkState}
use Rattle.schedule_replay.proofs.Starting.{bench_first, each_site, walk_starts}
use Rattle.schedule_replay.proofs.walk.Walk.start.Goals as goal

pub returns-clause-starts : goal.returns-clause-starts
returns-clause-starts c =
    let walk : WalkState = record {
      plan = c.in_ok-copy.field-0;
      hosts = c.in_ok-hosts.hosts.items;
      sent = c.new.result.sent.items;
      commits = c.new.result.commits.items;
      text = c.new.result.text.items;
      refusals = c.new.result.refusals;
      number = 0;
      volume = c.new.result.volume;
    } in
    walk_starts c.args.plan.now walk c.args.bench.now c.clear.new.self c.requires.accepted (each_site c.args.bench.now c.clear.new.self c.clear.ensures.cleared c.clear.ensures.sites) c.clear.ensures.cleared c.in_ok-copy.ensures
    (subst (λ k. c.in_ok-hosts.hosts.items ≡ replicate k None) c.count.ensures.value c.in_ok-hosts.ensures)
    c.new.ensures.sent c.new.ensures.commits c.new.ensures.text c.new.ensures.refusals refl c.new.ensures.volume

pub returns-in_err-hosts-clause-empty : goal.returns-in_err-hosts-clause-empty
returns-in_err-hosts-clause-empty c = bench_first c.args.plan.now c.args.bench.now c.clear.new.self c.requires.accepted (each_site c.args.bench.now c.clear.new.self c.clear.ensures.cleared c.clear.ensures.sites) c.clear.ensures.cleared

pub returns-in_err-copy-clause-empty : goal.returns-in_err-copy-clause-empty
returns-in_err-copy-clause-empty c = bench_first c.args.plan.now c.args.bench.now c.clear.new.self c.requires.accepted (each_site c.args.bench.now c.clear.new.self c.clear.ensures.cleared c.clear.ensures.sites) c.clear.ensures.cleared

pub returns-clause-empty : goal.returns-clause-empty
returns-clause-empty c = bench_first c.args.plan.now c.args.bench.now c.clear.new.self c.requires.accepted (each_site c.args.bench.now c.clear.new.self c.clear.ensures.cleared c.clear.ensures.sites) c.clear.ensures.cleared
