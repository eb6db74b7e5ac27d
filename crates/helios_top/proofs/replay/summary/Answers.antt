-- The three parts are the line.
use Rattle.std.proofs.Common.{◌≡◌, ◌++◌, ◌∷◌, [], length, codes, decimal, string_bytes}
use Rattle.hex.specs.Hex.{encode_lower}
use Rattle.sha2.specs.Sha256.{sha256}
use Rattle.helios_top.proofs.Lines.{summary_parts}
use Rattle.helios_top.proofs.replay.summary.Goals as goal

pub returns : goal.returns
returns c =
    let counts : string_bytes c.in_ok-counts.counts ≡ codes "trial " ++ (decimal c.args.number ++ (codes " steps 4000 commits " ++ (decimal (length c.items.result.now)
    ++ (codes " refusals " ++ (decimal c.args.report.now.refusals ++ codes " digest "))))) = c.in_ok-counts.ensures.ok in
    let digest : string_bytes c.in_ok-digest.digest ≡ encode_lower c.digest.result = c.in_ok-digest.ensures in
    rw (c.in_ok-line.ensures, c.as_bytes.ensures.value, c.as_bytes-2.ensures.value, counts, digest, c.items.ensures, c.digest.ensures, c.items-2.ensures)
    (summary_parts (codes "trial ") (decimal c.args.number) (codes " steps 4000 commits ") (decimal (length c.args.report.now.commits)) (codes " refusals ")
    (decimal c.args.report.now.refusals) (codes " digest ") (encode_lower (sha256 c.args.report.now.text)) (10 ∷ []))
