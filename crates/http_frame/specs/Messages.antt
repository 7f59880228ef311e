-- What contracts see of requests and responses: their bodies without room.
use Rattle.std.specs.Prelude.{ℕ, List}
use Rattle.http_frame.specs.declared.message.Head.{Head}

pub record SeenRequest : Type 0 where
  pub head : Head
  pub body : List ℕ

pub record SeenResponse : Type 0 where
  pub status : ℕ
  pub fields : List (List ℕ × List ℕ)
  pub body : List ℕ
