use Rattle.std.proofs.Common.{refl, arith}
use Rattle.node_host.specs.declared.fault.HostFault.TheVariants.{DiskFailed}
use Rattle.helios_model.specs.World.{journaled}
use Rattle.node_host.proofs.Answers.{answered_as}
use Rattle.node_host.proofs.Sealing.{idle_moments, never_fails, passed_readings, made_answer, made_answers, made_moments, made_payloads, made_stands}
use Rattle.node_host.proofs.host.Host.batch.Goals as goal

pub returns-in_err-journal-clause-any_moment : goal.returns-in_err-journal-clause-any_moment
returns-in_err-journal-clause-any_moment g c =
    made_moments c.args.self _ c.self.view_is c.batches_are_read_again.ensures c.args.entries c.requires.few c.requires.each
    (g.D.Disk.past c.args.disk.now) (g.D.Disk.past c.seal.new.disk) (g.D.Disk.state c.args.disk.now) (g.D.Disk.state c.seal.new.disk)
    c.seal.ensures.told c.seal.ensures.any_moment

pub returns-in_err-core-clause-any_moment : goal.returns-in_err-core-clause-any_moment
returns-in_err-core-clause-any_moment g c =
    made_moments c.args.self _ c.self.view_is c.batches_are_read_again.ensures c.args.entries c.requires.few c.requires.each
    (g.D.Disk.past c.args.disk.now) (g.D.Disk.past c.seal.new.disk) (g.D.Disk.state c.args.disk.now) (g.D.Disk.state c.seal.new.disk)
    c.seal.ensures.told c.seal.ensures.any_moment

pub returns-clause-any_moment : goal.returns-clause-any_moment
returns-clause-any_moment g c =
    made_moments c.args.self _ c.self.view_is c.batches_are_read_again.ensures c.args.entries c.requires.few c.requires.each
    (g.D.Disk.past c.args.disk.now) (g.D.Disk.past c.seal.new.disk) (g.D.Disk.state c.args.disk.now) (g.D.Disk.state c.seal.new.disk)
    c.seal.ensures.told c.seal.ensures.any_moment

pub returns-clause-answers : goal.returns-clause-answers
returns-clause-answers g c = λ n from.
    answered_as c.args.self.core.plan n c.args.entries _ _ _ _ _
    (made_answers c.args.self _ c.self.view_is c.args.entries _ _ _ _ _ _ c.in_ok-replies.ensures.items c.new.ensures.items c.into_items.ensures c.in_ok-core.ensures.answered n from)
    c.new-2.ensures c.new-3.ensures

pub returns-clause-stands : goal.returns-clause-stands
returns-clause-stands g c =
    made_stands c.args.self _ c.self.view_is c.batches_are_read_again.ensures c.args.entries c.requires.few c.requires.each
    c.seal.result c.in_ok-journal.journal c.in_ok-journal.was c.seal.ensures.readings
    _ c.in_ok-core.ensures.plan c.in_ok-core.ensures.site refl
    (λ n from. (made_answers c.args.self _ c.self.view_is c.args.entries _ _ _ _ _ _ c.in_ok-replies.ensures.items c.new.ensures.items c.into_items.ensures c.in_ok-core.ensures.answered n from).stands)
    (g.D.Disk.state c.args.disk.now) (g.D.Disk.state c.seal.new.disk) c.in_ok-journal.ensures.added

pub returns-clause-answer : goal.returns-clause-answer
returns-clause-answer g c =
    made_answer c.args.self _ c.self.view_is c.args.entries c.seal.result c.in_ok-journal.journal _ _ c.in_ok-journal.was refl
    (g.D.Disk.outlook c.args.disk.now) c.seal.ensures.answer

pub returns-in_err-replies-clause-any_moment : goal.returns-in_err-replies-clause-any_moment
returns-in_err-replies-clause-any_moment g c =
    made_moments c.args.self _ refl c.batches_are_read_again.ensures c.args.entries c.requires.few c.requires.each
    (g.D.Disk.past c.args.disk.now) (g.D.Disk.past c.args.disk.now) (g.D.Disk.state c.args.disk.now) (g.D.Disk.state c.args.disk.now)
    refl (idle_moments c.args.self.gate (journaled c.args.entries) (g.D.Disk.past c.args.disk.now) (g.D.Disk.state c.args.disk.now) c.requires.ready)

pub returns-in_err-journal-clause-readings : goal.returns-in_err-journal-clause-readings
returns-in_err-journal-clause-readings g c =
    passed_readings (journaled c.args.entries) c.seal.result c.from_residual-in_err-journal.result
    (λ none. let is = c.in_err-journal.was in let gives = c.from_residual-in_err-journal.ensures in grind arith)
    c.seal.ensures.readings

pub returns-clause-readings : goal.returns-clause-readings
returns-clause-readings g c =
    passed_readings (journaled c.args.entries) c.seal.result _
    (λ none. let is = c.in_ok-journal.was in absurd (cc))
    c.seal.ensures.readings

pub returns-clause-failed : goal.returns-clause-failed
returns-clause-failed g c = never_fails (g.D.Disk.outlook c.args.disk.now) _ DiskFailed _

pub returns-clause-spent : goal.returns-clause-spent
returns-clause-spent g c = never_fails (g.D.Disk.outlook c.args.disk.now) _ DiskFailed _

pub returns-in_err-replies-clause-any_payloads : goal.returns-in_err-replies-clause-any_payloads
returns-in_err-replies-clause-any_payloads g c =
    idle_moments c.args.self.gate (journaled c.args.entries) (g.D.Disk.past c.args.disk.now) (g.D.Disk.state c.args.disk.now) c.requires.ready

pub returns-in_err-journal-clause-any_payloads : goal.returns-in_err-journal-clause-any_payloads
returns-in_err-journal-clause-any_payloads g c =
    made_payloads c.args.self _ c.self.view_is c.args.entries (g.D.Disk.past c.args.disk.now) (g.D.Disk.past c.seal.new.disk) (g.D.Disk.state c.args.disk.now) (g.D.Disk.state c.seal.new.disk) c.seal.ensures.any_moment

pub returns-in_err-core-clause-any_payloads : goal.returns-in_err-core-clause-any_payloads
returns-in_err-core-clause-any_payloads g c =
    made_payloads c.args.self _ c.self.view_is c.args.entries (g.D.Disk.past c.args.disk.now) (g.D.Disk.past c.seal.new.disk) (g.D.Disk.state c.args.disk.now) (g.D.Disk.state c.seal.new.disk) c.seal.ensures.any_moment

pub returns-clause-any_payloads : goal.returns-clause-any_payloads
returns-clause-any_payloads g c =
    made_payloads c.args.self _ c.self.view_is c.args.entries (g.D.Disk.past c.args.disk.now) (g.D.Disk.past c.seal.new.disk) (g.D.Disk.state c.args.disk.now) (g.D.Disk.state c.seal.new.disk) c.seal.ensures.any_moment
