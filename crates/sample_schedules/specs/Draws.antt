-- The numbers that a generator draws, one after the other.
use Rattle.std.specs.Prelude.{ℕ, ◌+◌, ◌*◌, ◌/◌, ◌%◌, ◌^◌}

-- the state behind a state x
unfoldable pub next : ℕ → ℕ
next x = (x * 6364136223846793005 + 1442695040888963407) % 2 ^ 64

-- something that is drawn: from a state, the thing and the state behind it
abbrev pub Drawn : Type 0 → Type 0
Drawn A = ℕ → A × ℕ

-- a number below n: the state goes on, and its high bits are taken modulo n
unfoldable pub draw : ℕ → Drawn ℕ
draw n x = (next x / 2 ^ 33 % n, next x)

-- nothing more is drawn
abbrev pub gives : {A : Type 0} → A → Drawn A
gives a x = (a, x)

infixl 10 ◌>>=◌
-- the one is drawn first, and then the other from the state behind it
abbrev pub ◌>>=◌ : {A B : Type 0} → Drawn A → (A → Drawn B) → Drawn B
◌>>=◌ first then x = then (first x).0 (first x).1
