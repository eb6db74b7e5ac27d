-- The parts, as the line is put together, are the line.
use Rattle.std.proofs.Common.{◌≡◌, ◌++◌, ◌∷◌, [], codes, string_bytes}
use Rattle.hex.specs.Hex.{encode_lower}
use Rattle.helios_top.proofs.Lines.{both_parts}
use Rattle.helios_top.proofs.journal.wrong_plan_line.Goals as goal

pub returns : goal.returns
returns c =
    let kept : string_bytes c.in_ok-kept.kept ≡ encode_lower c.args.kept.now = c.in_ok-kept.ensures in
    let given : string_bytes c.in_ok-given.given ≡ encode_lower c.args.given.now = c.in_ok-given.ensures in
    let line : string_bytes c.in_ok-format.field-0 ≡ codes "journal wrong-plan " ++ (string_bytes c.in_ok-kept.kept ++ (codes " " ++ (string_bytes c.in_ok-given.given ++ 10 ∷ []))) =
    c.in_ok-format.ensures.ok in
    rw (c.text_from.ensures, line, kept, given) (both_parts (codes "journal wrong-plan ") (encode_lower c.args.kept.now) (codes " ") (encode_lower c.args.given.now) (10 ∷ []))
