-- What each exit of an `open` leaves.
use Rattle.std.proofs.Common.{◌≡◌, ◌⊎◌, inl, inr, ℕ, ◌<◌, ◌≤◌, true, false, nat_le, List, [], ◌∷◌, length, take, Option, Some, None, option_map, is_some, IfSome, refl, sym, ◌∙◌, ap, subst, arith}
use Rattle.std.specs.Option.{ForSome}
use Rattle.std.proofs.lemmas.List.{drop_all}
use Rattle.std.proofs.lemmas.List.Elements.{All-nil}
use Rattle.std.proofs.lemmas.Bool.{cases_lt}
use Rattle.std.proofs.lemmas.Bool.Decides.{nat_tests}
use Rattle.disk_store.specs.Disk.{DiskState, IsImage, IsAtRest, at_rest, over, after_sync}
use Rattle.disk_store.specs.Moments.{Elapses, AtEachMoment}
use Rattle.disk_store.specs.Laws.Moments.{Past, moments_call, moments_join, moments_weaker}
use Rattle.node_journal.specs.Frames.{IsSmall, frames, IsReadTo, StandsFor}
use Rattle.node_journal.specs.Appending.{WhileWriting}
use Rattle.node_journal.specs.Opening.{IsUnwritten, KeepsPayloads, opened}
use Rattle.disk_store.specs.Laws.Writes.{torn_images, rest_images}

no_frames : (payloads : List (List ℕ)) → frames payloads ≡ [] → payloads ≡ []
no_frames [] none = refl
no_frames (payload ∷ payloads) none = cc

-- at most one byte stands for no payloads
pub short_none : (image : List ℕ) (payloads : List (List ℕ)) → length image ≤ 1 → StandsFor image payloads → payloads ≡ []
short_none image payloads short (inl none) = none.1
short_none image payloads short (inr ends) =
    let first : ends.0 ≡ 0 = omega (arith, ends.1.read.within) in
    no_frames payloads (sym ends.1.read.passed ∙ ap (λ (n : ℕ). take n image) first)

opened_short : (bytes : List ℕ) → length bytes ≤ 1 → opened bytes ≡ 0 ∷ []
opened_short bytes short = let test : nat_le (length bytes) 1 ≡ true = grind (arith, nat_tests) in rw test

opened_long : (bytes : List ℕ) → 1 < length bytes → opened bytes ≡ bytes
opened_long bytes long = let test : nat_le (length bytes) 1 ≡ false = grind (arith, nat_tests) in rw test

-- the first gate over at most one byte
gate_made : (bytes : List ℕ) → length bytes ≤ 1 → over 0 (0 ∷ []) bytes ≡ opened bytes
gate_made bytes short = ap (λ (l : List ℕ). 0 ∷ l) (drop_all 1 bytes short) ∙ sym (opened_short bytes short)

-- what was opened can be read from its first gate on
opened_begins : (bytes : List ℕ) → IsReadTo (opened bytes) 0 []
opened_begins bytes = record {
  passed = refl;
  within = elim (cases_lt 1 (length bytes)) [
    | inl long ↦ omega (arith, ap length (opened_long bytes long))
    | inr short ↦ omega (arith, ap length (opened_short bytes short))
  ];
  small = All-nil IsSmall;
}

pub opened_begun : (old : Option DiskState) → IfSome old (λ disk. IsReadTo (opened disk.bytes) 0 [])
opened_begun None = tt
opened_begun (Some disk) = opened_begins disk.bytes

-- a disk at rest with these bytes stands for what they stand for
rest_keeps : (disk : DiskState) → KeepsPayloads disk (at_rest disk.bytes)
rest_keeps disk payloads stands image is = subst (λ (l : List ℕ). StandsFor l payloads) (sym (rest_images disk.bytes image is)) stands

-- at most one byte, in place of at most one
short_keeps : (bytes image : List ℕ) (payloads : List (List ℕ)) → length bytes ≤ 1 → length image ≤ 1 → StandsFor bytes payloads → StandsFor image payloads
short_keeps bytes image payloads short short' stands = inl (short', short_none bytes payloads short stands)

opened_keeps : (disk : DiskState) → KeepsPayloads disk (at_rest (opened disk.bytes))
opened_keeps disk payloads stands image is =
    let whole : image ≡ opened disk.bytes = rest_images (opened disk.bytes) image is in
    elim (cases_lt 1 (length disk.bytes)) [
      | inl long ↦ subst (λ (l : List ℕ). StandsFor l payloads) (sym (whole ∙ opened_long disk.bytes long)) stands
      | inr short ↦ short_keeps disk.bytes image payloads (omega arith) (omega (arith, ap length (whole ∙ opened_short disk.bytes (omega arith)))) stands
    ]

pub opened_kept : (old : Option DiskState) → IfSome old (λ disk. KeepsPayloads disk (at_rest (opened disk.bytes)))
opened_kept None = tt
opened_kept (Some disk) = opened_keeps disk

-- a disk while its first gate is made
made_keeps : (disk : DiskState) → length disk.bytes ≤ 1 → (t : DiskState) → WhileWriting 0 (0 ∷ []) (at_rest disk.bytes) t → KeepsPayloads disk t
made_keeps disk short t (inl same) = λ payloads stands image is. rest_keeps disk payloads stands image (subst (λ (d : DiskState). IsImage d image) same is)
made_keeps disk short t (inr (inl torn)) = λ payloads stands image is.
    short_keeps disk.bytes image payloads short (omega (arith, (torn_images 0 1 disk.bytes (omega arith) t image torn is).no_longer)) stands
made_keeps disk short t (inr (inr done)) = λ payloads stands image is.
    let whole : image ≡ over 0 (0 ∷ []) disk.bytes = rest_images (over 0 (0 ∷ []) disk.bytes) image (subst (λ (d : DiskState). IsImage d image) done is) in
    short_keeps disk.bytes image payloads short (omega (arith, ap length (whole ∙ gate_made disk.bytes short ∙ opened_short disk.bytes short))) stands

-- as it was, or with images that stand for what it stood for
abbrev Kept : DiskState → DiskState → Type 0
Kept disk t = (t ≡ disk) ⊎ KeepsPayloads disk t

abbrev Moments : Past → Past → Option DiskState → Option DiskState → Type 0
Moments past past' old new = IfSome old (λ disk. AtEachMoment past past' new (λ t. (t ≡ disk) ⊎ KeepsPayloads disk t))

-- the first sync, which is done or not
pub moments_sync : (past past' : Past) (old new : Option DiskState) → (new ≡ option_map after_sync old) ⊎ (new ≡ old) → Elapses past past' old new → Moments past past' old new
moments_sync past past' None new synced time = tt
moments_sync past past' (Some disk) new (inl done) time =
    subst (λ (s : Option DiskState). AtEachMoment past past' s (Kept disk)) (sym done)
    (moments_call (Kept disk) past past' disk (at_rest disk.bytes) (subst (λ (s : Option DiskState). Elapses past past' (Some disk) s) done time) (inl refl) (inr (rest_keeps disk)))
moments_sync past past' (Some disk) new (inr same) time =
    subst (λ (s : Option DiskState). AtEachMoment past past' s (Kept disk)) (sym same)
    (moments_call (Kept disk) past past' disk disk (subst (λ (s : Option DiskState). Elapses past past' (Some disk) s) same time) (inl refl) (inl refl))

-- and then the first gate is made
pub moments_made : (past past1 past2 : Past) (old mid new : Option DiskState) → mid ≡ option_map after_sync old → Elapses past past1 old mid
    → IfSome mid (λ disk. length disk.bytes ≤ 1) → IfSome mid (λ disk. AtEachMoment past1 past2 new (WhileWriting 0 (0 ∷ []) disk)) → is_some new ≡ is_some mid → Moments past past2 old new
moments_made past past1 past2 None mid new is time short two told = tt
moments_made past past1 past2 (Some disk) mid None is time short two told =
    absurd (let some : is_some mid ≡ true = ap (λ (s : Option DiskState). is_some s) is in let clash : false ≡ true = told ∙ some in cc)
moments_made past past1 past2 (Some disk) mid (Some t) is time short two told =
    let synced = at_rest disk.bytes in
    let time' : Elapses past past1 (Some disk) (Some synced) = subst (λ (s : Option DiskState). Elapses past past1 (Some disk) s) is time in
    let short' : length disk.bytes ≤ 1 = subst (λ (s : Option DiskState). IfSome s (λ d. length d.bytes ≤ 1)) is short in
    let two' : AtEachMoment past1 past2 (Some t) (WhileWriting 0 (0 ∷ []) synced) = subst (λ (s : Option DiskState). IfSome s (λ d. AtEachMoment past1 past2 (Some t) (WhileWriting 0 (0 ∷ []) d))) is two in
    moments_join (Kept disk) past past1 past2 synced t
    (moments_call (Kept disk) past past1 disk synced time' (inl refl) (inr (rest_keeps disk)))
    (moments_weaker (WhileWriting 0 (0 ∷ []) synced) (Kept disk) (λ d while. inr (made_keeps disk short' d while)) past1 past2 t two')

-- the first sync writes nothing
pub unwritten_sync : (past past' : Past) (old new : Option DiskState) → (new ≡ option_map after_sync old) ⊎ (new ≡ old) → Elapses past past' old new
    → IfSome old (λ disk. 1 < length disk.bytes → AtEachMoment past past' new (IsUnwritten disk))
unwritten_sync past past' None new synced time = tt
unwritten_sync past past' (Some disk) new (inl done) time = λ long.
    subst (λ (s : Option DiskState). AtEachMoment past past' s (IsUnwritten disk)) (sym done)
    (moments_call (IsUnwritten disk) past past' disk (at_rest disk.bytes) (subst (λ (s : Option DiskState). Elapses past past' (Some disk) s) done time) (inl refl) (inr refl))
unwritten_sync past past' (Some disk) new (inr same) time = λ long.
    subst (λ (s : Option DiskState). AtEachMoment past past' s (IsUnwritten disk)) (sym same)
    (moments_call (IsUnwritten disk) past past' disk disk (subst (λ (s : Option DiskState). Elapses past past' (Some disk) s) same time) (inl refl) (inl refl))

-- the first gate is made over at most one byte
pub unwritten_made : (past past' : Past) (old mid new : Option DiskState) → mid ≡ option_map after_sync old → IfSome mid (λ disk. length disk.bytes ≤ 1)
    → IfSome old (λ disk. 1 < length disk.bytes → AtEachMoment past past' new (IsUnwritten disk))
unwritten_made past past' None mid new is short = tt
unwritten_made past past' (Some disk) mid new is short = λ long.
    let short' : length disk.bytes ≤ 1 = subst (λ (s : Option DiskState). IfSome s (λ d. length d.bytes ≤ 1)) is short in
    absurd (omega arith)

-- where nothing was pending, as it was is no exception
pub moments_at_rest : (past past' : Past) (old new : Option DiskState) → Moments past past' old new → IfSome old (λ disk. IsAtRest disk → AtEachMoment past past' new (λ t. KeepsPayloads disk t))
moments_at_rest past past' None new moments = tt
moments_at_rest past past' (Some disk) None moments = λ rest. record { goes_on = moments.goes_on; each = tt }
moments_at_rest past past' (Some disk) (Some t) moments = λ rest.
    moments_weaker (Kept disk) (KeepsPayloads disk) (λ d kept. at_rest_kept d rest kept) past past' t moments
  where
    at_rest_kept : (d : DiskState) → IsAtRest disk → Kept disk d → KeepsPayloads disk d
    at_rest_kept d rest (inl same) = subst (λ (s : DiskState). KeepsPayloads disk s) (sym (same ∙ rest)) (rest_keeps disk)
    at_rest_kept d rest (inr keeps) = keeps

-- the length that the disk gave is at most one
pub short_if : (state : Option DiskState) (size : ℕ) → size ≤ 1 → IfSome state (λ disk. size ≡ length disk.bytes) → IfSome state (λ disk. length disk.bytes ≤ 1)
short_if None size short is = tt
short_if (Some disk) size short is = omega (arith, is)

-- the first gate stands on a disk that was opened
pub opened_ready : (old new : Option DiskState) → new ≡ option_map (λ disk. at_rest (opened disk.bytes)) old → ForSome new (λ disk. IsAtRest disk × (0 < length disk.bytes))
opened_ready None new is disk told = absurd (let clash : Some disk ≡ None = sym told ∙ is in cc)
opened_ready (Some old) new is disk told =
    let same : disk ≡ at_rest (opened old.bytes) = let both : Some disk ≡ Some (at_rest (opened old.bytes)) = sym told ∙ is in cc in
    subst (λ (d : DiskState). IsAtRest d × (0 < length d.bytes)) (sym same) (refl, (opened_begins old.bytes).within)
