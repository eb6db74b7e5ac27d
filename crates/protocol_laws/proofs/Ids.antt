use Rattle.std.proofs.Common.{◌≡◌, ◌∙◌, ap, refl, sym, ℕ, true, nat_eq, List, eq-eqb, eqb-true}
use Rattle.std.proofs.lemmas.Cmp.{nat_list_eq_equiv}
use Rattle.std.proofs.lemmas.Bool.{and_parts, and_from}
use Rattle.helios_model.specs.declared.ids.TxnId.{TxnId}
use Rattle.helios_model.specs.declared.ids.Version.{Version}
use Rattle.helios_model.specs.declared.ids.Version.TheVariants.{Initial, Of}
use Rattle.helios_model.specs.Ids.{same_id, same_version}
use Rattle.helios_model.specs.Texts.{same_text}

pub same_id_itself : (a : TxnId) → same_id a a ≡ true
same_id_itself a = and_from (nat_eq a.site a.site) (nat_eq a.time a.time) (eq-eqb a.site a.site refl) (eq-eqb a.time a.time refl)

pub same_id_is : (a b : TxnId) → same_id a b ≡ true → a ≡ b
same_id_is a b same =
    let parts = and_parts (nat_eq a.site b.site) (nat_eq a.time b.time) same in
    let sites : a.site ≡ b.site = eqb-true a.site b.site parts.0 in
    let times : a.time ≡ b.time = eqb-true a.time b.time parts.1 in
    λ i. record { site = sites i; time = times i }

pub same_id_of : (a b : TxnId) → a ≡ b → same_id a b ≡ true
same_id_of a b same = ap (λ c. same_id a c) (sym same) ∙ same_id_itself a

pub same_key_back : (a b : List ℕ) → same_text a b ≡ same_text b a
same_key_back a b = nat_list_eq_equiv.symm a b

pub same_version_is : (a b : Version) → same_version a b ≡ true → a ≡ b
same_version_is Initial Initial same = refl
same_version_is Initial (Of b) same = absurd (cc)
same_version_is (Of a) Initial same = absurd (cc)
same_version_is (Of a) (Of b) same = ap Of (same_id_is a b same)

same_version_itself : (a : Version) → same_version a a ≡ true
same_version_itself Initial = refl
same_version_itself (Of a) = same_id_itself a

pub same_version_of : (a b : Version) → a ≡ b → same_version a b ≡ true
same_version_of a b same = ap (λ c. same_version a c) (sym same) ∙ same_version_itself a
