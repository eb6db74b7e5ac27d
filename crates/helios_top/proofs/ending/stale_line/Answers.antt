-- The three parts are the line.
use Rattle.std.proofs.Common.{◌≡◌, ◌++◌, ◌∷◌, [], codes, decimal, string_bytes}
use Rattle.helios_model.specs.Ids.{version_text}
use Rattle.helios_top.proofs.Lines.{stale_parts}
use Rattle.helios_top.proofs.ending.stale_line.Goals as goal

pub returns : goal.returns
returns c =
    let head : string_bytes c.in_ok-head.head ≡ codes "not-serial " ++ (decimal c.args.place ++ codes " ") = c.in_ok-head.ensures.ok in
    let versions : string_bytes c.in_ok-versions.versions ≡ codes " " ++ (version_text c.args.read.now ++ (codes " " ++ (version_text c.args.current.now ++ 10 ∷ []))) =
    c.in_ok-versions.ensures.ok in
    rw (c.in_ok-text.ensures, c.as_bytes.ensures.value, c.items.ensures.value, c.as_bytes-2.ensures.value, head, versions)
    (stale_parts (codes "not-serial ") (decimal c.args.place) (codes " ") c.args.key.now (version_text c.args.read.now) (version_text c.args.current.now) (10 ∷ []))
