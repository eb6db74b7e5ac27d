-- Entries that are not journaled leave a node as it is.
use Rattle.std.proofs.Common.{◌≡◌, ◌∙◌, ap, refl, sym, ℕ, Bool, true, false, List, [], ◌∷◌, ◌&&◌}
use Rattle.helios_model.specs.declared.entries.Entry.{Entry}
use Rattle.helios_model.specs.declared.entries.Input.{Input}
use Rattle.helios_model.specs.declared.entries.Input.TheVariants.{Get, Status, Request, Pull, Push}
use Rattle.helios_model.specs.Node.{Node, is_spent}
use Rattle.helios_model.specs.Plans.{PlanData}
use Rattle.helios_model.specs.Step.{after_entries, after_entry, by_clock, is_journaled}
use Rattle.helios_model.specs.World.{journaled}

left_as_is : (plan : PlanData) (n : Node) (reading : ℕ) (input : Input) → is_journaled input ≡ false → (by_clock plan n reading input (is_journaled input && is_spent plan n)).node ≡ n
left_as_is plan n reading (Get key) is = refl
left_as_is plan n reading (Status id) is = refl
left_as_is plan n reading (Request ask) is = absurd (let clash : true ≡ false = is in cc)
left_as_is plan n reading (Pull to) is = absurd (let clash : true ≡ false = is in cc)
left_as_is plan n reading (Push m) is = absurd (let clash : true ≡ false = is in cc)

pub journaled_suffice : (plan : PlanData) (n : Node) (entries : List Entry) → after_entries plan n (journaled entries) ≡ after_entries plan n entries
journaled_suffice plan n [] = refl
journaled_suffice plan n (e ∷ es) = by_kind (is_journaled e.input) refl (journaled_suffice plan (after_entry plan n e) es) (journaled_suffice plan n es)
  where
    by_kind : (kept : Bool) → is_journaled e.input ≡ kept
        → after_entries plan (after_entry plan n e) (journaled es) ≡ after_entries plan (after_entry plan n e) es
        → after_entries plan n (journaled es) ≡ after_entries plan n es
        → after_entries plan n (journaled (e ∷ es)) ≡ after_entries plan (after_entry plan n e) es
    by_kind true is after before = rw is after
    by_kind false is after before = rw is (before ∙ ap (λ m. after_entries plan m es) (sym (left_as_is plan n e.reading e.input is)))
