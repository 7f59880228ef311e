-- What contracts see of `Bytes`.
use Rattle.std.specs.Prelude.{ℕ, List}

-- a list of bytes, and how many more can be pushed without memory
pub record Buffer : Type 0 where
  pub items : List ℕ
  pub spare : ℕ
