use Rattle.std.proofs.Common.{◌≡◌, Err, IsErrOf, rules, sym, ◌∙◌, ap, subst, arith, if◌then◌else◌, ◌++◌, ◌∷◌, []}
use Rattle.disk_store.specs.Memory.{MemState}
use Rattle.node_journal.specs.Frames.{IsReadTo, StandsFor}
use Rattle.node_journal.specs.Appending.{IsReady, is_kept}
use Rattle.node_journal.specs.declared.fault.JournalFault.TheVariants.{DiskFailed}
use Rattle.storage_tests.proofs.journals.add_and_crash.Goals as goal

pub returns-clause-stands : goal.returns-clause-stands
returns-clause-stands c = λ payloads read.
    let failed : c.append-answer.result ≡ Err DiskFailed = search rules in
    let fault : IsErrOf c.append-answer.result DiskFailed = rw failed in
    let before = sym c.script.ensures in
    let stands = c.stopped_disk.ensures c.script.new.self c.append-answer.new.disk (record { left = c.args.stop.call; keep = c.args.stop.keep })
    c.args.journal.gate c.args.frame.now payloads c.append-answer.result
    (ap (λ (m : MemState). m.fate.fails) c.script.ensures ∙ c.requires.fails) (ap (λ (m : MemState). m.fate.script) c.script.ensures)
    c.requires.some c.requires.few (omega (arith, ap (λ (m : MemState). m.room) c.script.ensures, c.requires.room))
    (subst (λ (m : MemState). IsReady m.disk c.args.journal.gate) before c.requires.ready)
    (subst (λ (m : MemState). IsReadTo m.disk.bytes c.args.journal.gate payloads) before read)
    c.append-answer.ensures.small fault c.append-answer.ensures.failed c.append-answer.ensures.keeps in
    subst (λ (m : MemState). StandsFor m.disk.bytes (if is_kept c.args.stop.call c.args.stop.keep then payloads ++ c.args.frame.now ∷ [] else payloads)) (sym c.crash.ensures.left) stands
