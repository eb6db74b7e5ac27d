use Rattle.std.proofs.Common.{◌≡◌, List, [], ◌∷◌, ◌++◌, ℕ, rules, sym, subst}
use Rattle.std.specs.Prelude.{Some, string_bytes}
use Rattle.std.proofs.lemmas.Str.{IsUtf8-string_bytes}
use Rattle.json_text.specs.Text.{json_of}
use Rattle.json_text.proofs.LineFeed.{json_of_fed}
use Rattle.serde_json.specs.View.{view}
use Rattle.json_text.proofs.text.line_of.Goals as goal

pub returns-clause-reads_back : goal.returns-clause-reads_back
returns-clause-reads_back c = λ shallow.
    let is : c.new.result ≡ string_bytes c.in_ok-text.text ++ 10 ∷ [] = search rules in
    let P : List ℕ → Type 0 = λ text. json_of text ≡ Some (view c.args.value.now) in
    subst P (sym is) (json_of_fed (string_bytes c.in_ok-text.text) (view c.args.value.now) (IsUtf8-string_bytes c.in_ok-text.text) (c.in_ok-text.ensures.reads_back shallow))
