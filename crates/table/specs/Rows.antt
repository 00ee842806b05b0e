-- Rows of answers. Assumes nothing.
use Rattle.std.specs.Prelude.{◌≡◌, ℕ, length, Some, Option, slice_get}
use Rattle.std.specs.Option.{option_and_then}
use Rattle.table.specs.declared.row.Row.{Row}

-- what stands at a place, if it is there
abbrev pub at : {X : Type 0} {size : ℕ} → ℕ → Row X size → Option X
at k row = slice_get row.cells k

-- what stands in column d of row n, if they are there
abbrev pub cell : {X : Type 0} {width height : ℕ} → Row (Row X width) height → ℕ → ℕ → Option X
cell rows n d = option_and_then (at d) (at n rows)

-- A row has all its places, and what stands at each is as P says.
pub record Filled {X : Type 0} {size : ℕ} (row : Row X size) (P : ℕ → X → Type 0) : Type 0 where
  pub long : length row.cells ≡ size
  pub each : (k : ℕ) (x : X) → at k row ≡ Some x → P k x
