-- A range of an Accept value: a type and a subtype, each `*` for any, and its quality in thousandths.
use Rattle.std.specs.Prelude.{ℕ, List}

pub record MediaRange : Type 0 where
  pub main_type : List ℕ
  pub subtype : List ℕ
  pub quality : ℕ
