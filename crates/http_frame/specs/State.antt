-- What contracts see of a reader of frames.
use Rattle.std.specs.Prelude.{ℕ, List, Option}
use Rattle.http_frame.specs.declared.fault.FrameFault.{FrameFault}

pub record FramesState : Type 0 where
  -- the bytes that were read and are not yet used
  pub held : List ℕ
  -- the fault that was answered
  pub fault : Option FrameFault
