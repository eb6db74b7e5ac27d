-- The head of a journal: the byte 1 for its form, 32 bytes of the plan's fingerprint, and a byte for the site. Nothing follows it.
use Rattle.std.specs.Prelude.{◌≡◌, ℕ, ◌-◌, ◌<◌, ◌==◌, true, List, [], ◌∷◌, ◌++◌, length, Result, Ok, Err, nat_lt, if◌then◌else◌}
use Rattle.helios_model.specs.Limits.{most_sites}
use Rattle.log_records.specs.declared.faults.DecodeFault.{DecodeFault}
use Rattle.log_records.specs.declared.faults.DecodeFault.TheVariants.{Bad}
use Rattle.log_records.specs.declared.heads.Head.{Head}
use Rattle.log_records.specs.Fields.{◌>>=◌, is_within, byte_at, text_at}

abbrev pub head_bytes : Head → List ℕ
head_bytes head = head.version ∷ head.fingerprint ++ head.site ∷ []

-- a head of the one form that there is
pub record IsSpellableHead (head : Head) : Type 0 where
  pub form : head.version ≡ 1
  pub whole : length head.fingerprint ≡ 32
  pub here : head.site < most_sites

-- a value where no byte is left over, else the place of the first
abbrev pub whole_input : {X : Type 0} → ℕ → X × List ℕ → Result X DecodeFault
whole_input whole x = if length x.1 == 0 then Ok x.0 else Err (Bad (whole - length x.1))

unfoldable pub head_at : ℕ → List ℕ → Result (Head × List ℕ) DecodeFault
head_at whole bytes = do
  version ← byte_at (is_within 1 1) whole bytes
  fingerprint ← text_at (λ text. true) 32 whole version.1
  site ← byte_at (λ b. nat_lt b most_sites) whole fingerprint.1
  Ok (record { version = version.0; fingerprint = fingerprint.0; site = site.0 }, site.1)

-- the head that the whole input is
unfoldable pub head_of : List ℕ → Result Head DecodeFault
head_of input = head_at (length input) input >>= whole_input (length input)
