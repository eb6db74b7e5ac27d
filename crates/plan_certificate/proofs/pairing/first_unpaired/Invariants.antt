use Rattle.plan_certificate.specs.Verdict.{ArePaired}
use Rattle.plan_certificate.proofs.pairing.first_unpaired.Given as goal

abbrev pub invariant-loop-place : goal.invariant-loop-place
invariant-loop-place l = ArePaired l.count l.pair l.place
