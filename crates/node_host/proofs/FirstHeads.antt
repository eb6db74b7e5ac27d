-- What making a head leaves of a disk.
use Rattle.std.proofs.Common.{◌≡◌, ◌∙◌, refl, sym, subst, ◌⊎◌, inr, ℕ, ◌+◌, ◌<◌, true, false, List, [], ◌∷◌, ◌++◌, length, Option, Some, None, option_map, is_some, IfSome, Ok}
use Rattle.std.specs.Option.{ForSome}
use Rattle.helios_model.specs.Limits.{most_sites}
use Rattle.disk_store.specs.Disk.{DiskState, EachImage, at_rest}
use Rattle.disk_store.specs.Moments.{AtEachMoment}
use Rattle.disk_store.specs.Laws.Moments.{Past, moments_weaker}
use Rattle.node_journal.specs.Frames.{EndsAt, IsReadTo}
use Rattle.node_journal.specs.Appending.{IsBeforeOrAfter, sealed}
use Rattle.log_records.specs.declared.heads.Head.{Head}
use Rattle.log_records.specs.Heads.{head_bytes, head_of, IsSpellableHead}
use Rattle.node_host.specs.Opening.{LeavesHead}

module _ (gate : ℕ) (frame head : List ℕ) (same : frame ≡ head) where
  pub head_moments : (past past' : Past) (old new : Option DiskState) → is_some new ≡ is_some old
      → IfSome old (λ d. (payloads : List (List ℕ)) → IsReadTo d.bytes gate payloads → AtEachMoment past past' new (λ t. EachImage t (IsBeforeOrAfter payloads frame)))
      → IfSome old (λ d. IsReadTo d.bytes gate [] → AtEachMoment past past' new (λ t. (t ≡ d) ⊎ EachImage t (IsBeforeOrAfter [] head)))
  head_moments past past' None new told moments = tt
  head_moments past past' (Some d) None told moments = absurd (let clash : false ≡ true = told in cc)
  head_moments past past' (Some d) (Some t) told moments = λ read.
      moments_weaker (λ s. EachImage s (IsBeforeOrAfter [] frame)) (λ s. (s ≡ d) ⊎ EachImage s (IsBeforeOrAfter [] head))
      (λ s each. inr (subst (λ (l : List ℕ). EachImage s (IsBeforeOrAfter [] l)) same each)) past past' t (moments [] read)

  pub head_made : (old new : Option DiskState) (next : ℕ) → new ≡ option_map (λ d. at_rest (sealed gate frame d.bytes)) old
      → IfSome old (λ d. (payloads : List (List ℕ)) → IsReadTo d.bytes gate payloads → EndsAt (sealed gate frame d.bytes) (gate + 5 + length frame) (payloads ++ frame ∷ []))
      → next ≡ gate + 5 + length frame
      → IfSome old (λ d. IsReadTo d.bytes gate [] → ForSome new (LeavesHead head next))
  head_made None new next is added at = tt
  head_made (Some d) new next is added at = λ read t told.
      let left : t ≡ at_rest (sealed gate frame d.bytes) = let both : Some t ≡ Some (at_rest (sealed gate frame d.bytes)) = sym told ∙ is in cc in
      subst (λ (s : DiskState). LeavesHead head next s) (sym left)
      (record {
        ends = subst (λ (l : List ℕ). EndsAt (sealed gate frame d.bytes) next (l ∷ [])) same
            (subst (λ (n : ℕ). EndsAt (sealed gate frame d.bytes) n (frame ∷ [])) (sym at) (added [] read));
        at_rest = refl;
      })

-- a head of this form is read again
pub head_is : ((head : Head) → IsSpellableHead head → head_of (head_bytes head) ≡ Ok head) → (fingerprint : List ℕ) (site : ℕ) → length fingerprint ≡ 32 → site < most_sites
    → head_of (head_bytes (record { version = 1; fingerprint = fingerprint; site = site })) ≡ Ok (record { version = 1; fingerprint = fingerprint; site = site })
head_is law fingerprint site whole here = law (record { version = 1; fingerprint = fingerprint; site = site }) (record { form = refl; whole = whole; here = here })
