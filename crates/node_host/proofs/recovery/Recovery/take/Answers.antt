use Rattle.std.proofs.Common.{◌∙◌, List, [], refl, subst}
use Rattle.helios_model.specs.declared.entries.Entry.{Entry}
use Rattle.node_host.specs.Answering.{HasRedone}
use Rattle.node_host.specs.Recovery.{recovered}
use Rattle.node_host.proofs.Taking.{recovers_more, redone_none}
use Rattle.node_host.proofs.recovery.Recovery.take.Goals as goal

pub returns-clause-takes : goal.returns-clause-takes
returns-clause-takes c = record {
  batch = c.in_ok-entries.entries;
  is_batch = c.in_ok-entries.ensures.batch c.args.self.core.plan c.requires.count;
  goes_on = λ batches from.
      let plan = c.args.self.core.plan in
      let n = (recovered plan c.args.site batches).node in
      let done = c.in_ok-core.ensures.redone plan n [] (redone_none plan n c.args.self.core _ c.args.self.log from.core c.new.ensures.items from.log) in
      let whole = subst (λ (es : List Entry). HasRedone plan n es c.in_ok-core.field-0.core c.in_ok-core.field-0.commits.items c.in_ok-core.field-0.log) c.into_items.ensures done in
      recovers_more plan c.args.site batches c.in_ok-entries.entries c.args.self _ from
      (record { answered = record { stands = whole.answered.stands; replied = refl; committed = c.new-2.ensures ∙ whole.answered.committed }; logged = whole.logged }) refl;
}
