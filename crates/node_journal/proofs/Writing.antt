-- The moments of a write and of the sync behind it.
use Rattle.std.proofs.Common.{◌≡◌, ◌⊎◌, inl, inr, ℕ, ◌≤◌, List, length, Option, Some, None, option_map, Result, Ok, Err, OnOk, OnErr, IfSome, refl, sym, ◌∙◌, ap, subst}
use Rattle.std.specs.Option.{ForSome}
use Rattle.disk_store.specs.Disk.{DiskState, MayHaveWritten, after_write, after_sync}
use Rattle.disk_store.specs.Moments.{Elapses, AtEachMoment}
use Rattle.disk_store.specs.Laws.Moments.{Past, moments_call, moments_join}
use Rattle.disk_store.specs.Laws.Writes.{write_is_torn}
use Rattle.node_journal.specs.Appending.{WhileWriting}

-- what a call did, by what it answered
pub by_answer : {T E : Type 0} (result : Result T E) (A B : Type 0) → OnOk result A → OnErr result B → A ⊎ B
by_answer (Ok value) A B ok err = inl ok
by_answer (Err fault) A B ok err = inr err

module _ (at : ℕ) (bytes : List ℕ) where
  -- a write that failed
  pub write_failed : (past past' : Past) (old new : Option DiskState) → MayHaveWritten at (length bytes) old new → Elapses past past' old new
      → IfSome old (λ disk. AtEachMoment past past' new (WhileWriting at bytes disk))
  write_failed past past' None new torn time = tt
  write_failed past past' (Some old) new torn time =
      let time' : Elapses past past' (Some old) (Some torn.0) = subst (λ (s : Option DiskState). Elapses past past' (Some old) s) torn.1 time in
      subst (λ (s : Option DiskState). AtEachMoment past past' s (WhileWriting at bytes old)) (sym torn.1)
      (moments_call (WhileWriting at bytes old) past past' old torn.0 time' (inl refl) (inr (inl torn.2)))

  two_calls : (past past1 past2 : Past) (old : DiskState) (new : DiskState) → at ≤ length old.bytes
      → Elapses past past1 (Some old) (Some (after_write at bytes old)) → Elapses past1 past2 (Some (after_write at bytes old)) (Some new)
      → WhileWriting at bytes old new → AtEachMoment past past2 (Some new) (WhileWriting at bytes old)
  two_calls past past1 past2 old new le time time' here =
      let mid = after_write at bytes old in
      let torn : WhileWriting at bytes old mid = inr (inl (write_is_torn at bytes old le)) in
      moments_join (WhileWriting at bytes old) past past1 past2 mid new
      (moments_call (WhileWriting at bytes old) past past1 old mid time (inl refl) torn)
      (moments_call (WhileWriting at bytes old) past1 past2 mid new time' torn here)

  -- a write that was done, and a sync that was done or not
  pub write_synced : (past past1 past2 : Past) (old mid new : Option DiskState) → ForSome old (λ disk. at ≤ length disk.bytes)
      → mid ≡ option_map (after_write at bytes) old → Elapses past past1 old mid → (new ≡ option_map after_sync mid) ⊎ (new ≡ mid) → Elapses past1 past2 mid new
      → IfSome old (λ disk. AtEachMoment past past2 new (WhileWriting at bytes disk))
  write_synced past past1 past2 None mid new le is time synced time' = tt
  write_synced past past1 past2 (Some old) mid new le is time synced time' =
      let written : Elapses past past1 (Some old) (Some (after_write at bytes old)) = subst (λ (s : Option DiskState). Elapses past past1 (Some old) s) is time in
      let then : Elapses past1 past2 (Some (after_write at bytes old)) new = subst (λ (s : Option DiskState). Elapses past1 past2 s new) is time' in
      elim synced [
        | inl done ↦
            let new_is : new ≡ Some (after_sync (after_write at bytes old)) = done ∙ ap (option_map after_sync) is in
            subst (λ (s : Option DiskState). AtEachMoment past past2 s (WhileWriting at bytes old)) (sym new_is)
            (two_calls past past1 past2 old (after_sync (after_write at bytes old)) (le old refl) written
            (subst (λ (s : Option DiskState). Elapses past1 past2 (Some (after_write at bytes old)) s) new_is then) (inr (inr refl)))
        | inr same ↦
            let new_is : new ≡ Some (after_write at bytes old) = same ∙ is in
            subst (λ (s : Option DiskState). AtEachMoment past past2 s (WhileWriting at bytes old)) (sym new_is)
            (two_calls past past1 past2 old (after_write at bytes old) (le old refl) written
            (subst (λ (s : Option DiskState). Elapses past1 past2 (Some (after_write at bytes old)) s) new_is then) (inr (inl (write_is_torn at bytes old (le old refl)))))
      ]
