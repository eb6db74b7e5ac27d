-- The definitions of a tree, of the tree that the code holds.
use Rattle.std.specs.Prelude.{◌≡◌, ℕ, List, replicate, slice_set}
use Rattle.weighted_plan.specs.Growing.{HaveRoom, IsGrowing, IsGrown, IsJoined, IsShape, IsTree}
use Rattle.weighted_plan.specs.declared.tree.Tree.{Tree}

abbrev pub HasShape : ℕ → Tree → Type 0
HasShape n t = IsShape n t.order.items t.turns.items t.near.items t.via.items t.room.items

abbrev pub HasRoom : ℕ → List ℕ → Tree → Type 0
HasRoom n flow t = HaveRoom n flow t.order.items t.via.items t.room.items

abbrev pub GrowsOn : ℕ → (ℕ → ℕ → ℕ) → ℕ → List ℕ → List ℕ → Tree → Type 0
GrowsOn n d turn u flow t = IsGrowing n d turn u flow t.order.items t.turns.items t.near.items t.via.items t.room.items

abbrev pub StandsOn : ℕ → (ℕ → ℕ → ℕ) → (ℕ → ℕ) → ℕ → List ℕ → List ℕ → List ℕ → List ℕ → Tree → Type 0
StandsOn n d most turn u v flow demand t = IsTree n d most turn u v flow demand t.order.items t.turns.items t.near.items t.via.items t.room.items

abbrev pub HasJoined : ℕ → Tree → Tree → Type 0
HasJoined n t after = IsJoined n t.order.items t.turns.items t.near.items t.room.items after.order.items after.turns.items after.near.items after.room.items

abbrev pub HasGrown : ℕ → (ℕ → ℕ → ℕ) → (ℕ → ℕ) → List ℕ → List ℕ → List ℕ → List ℕ → Tree → ℕ → Type 0
HasGrown n d most u v flow demand t place = IsGrown n d most u v flow demand t.order.items t.turns.items t.near.items t.via.items t.room.items place

-- a tree of one row, which has so much to send
pub record IsPlanted (n row most : ℕ) (t : Tree) : Type 0 where
  pub orders : t.order.items ≡ slice_set (replicate n 0) row 1
  pub turns : t.turns.items ≡ replicate n 0
  pub nears : t.near.items ≡ replicate n row
  pub ways : t.via.items ≡ replicate n 0
  pub rooms : t.room.items ≡ slice_set (replicate n 0) row most
