-- What contracts see of the sources and sinks in memory.
use Rattle.std.specs.Prelude.{◌≡◌, ℕ, ◌==◌, Bool, ◌&&◌, List, [], ◌∷◌, length, Option, Some, None, true, false, min, max, slice_get}
use Rattle.std.specs.Option.{option_map_or}
use Rattle.rdf_io.specs.Doors.{Link}

-- a source in memory
pub record SourceState : Type 0 where
  -- the bytes that are left
  pub rest : List ℕ
  -- the most bytes that each call gives
  pub cuts : List ℕ
  -- the numbers of the calls that fail
  pub fails : List ℕ
  -- how many calls there were
  pub calls : ℕ
  -- how many of them failed
  pub count : ℕ

-- how many bytes the call of this number gives where so many fit: a cut of 0 counts as 1
abbrev pub most_given : List ℕ → ℕ → ℕ → ℕ
most_given cuts number fit = option_map_or (λ most. min (max most 1) fit) (slice_get cuts number) fit

-- a sink in memory
pub record SinkState : Type 0 where
  -- the bytes that were taken
  pub got : List ℕ
  -- the numbers of the calls that fail
  pub fails : List ℕ
  -- how many calls there were
  pub calls : ℕ
  -- how many of them failed
  pub count : ℕ

-- nothing was called yet on the two ends of a link
pub record IsUnused (link : SourceState × SinkState) : Type 0 where
  pub source_calls : link.0.calls ≡ 0
  pub source_count : link.0.count ≡ 0
  pub sink_calls : link.1.calls ≡ 0
  pub sink_count : link.1.count ≡ 0
  pub nothing : link.1.got ≡ []

-- what is told of a link before it is given: it is sound where no call of its ends is one that fails
abbrev pub told_of : SourceState × SinkState → Link
told_of link = record { bytes = link.0.rest; sound = (length link.0.fails == 0) && (length link.1.fails == 0) }

-- what the sink of a link took
abbrev pub got_of : SourceState × SinkState → List ℕ
got_of link = link.1.got

-- a door in memory
pub record DoorState : Type 0 where
  -- the links that it has yet to give
  pub rest : List (SourceState × SinkState)
  -- the links that were handed back
  pub back : List (SourceState × SinkState)
  -- a link is out
  pub out : Bool
  -- the numbers of the accepts that fail
  pub fails : List ℕ
  -- how many accepts there were
  pub calls : ℕ
  -- how many of them gave a link
  pub given : ℕ
  -- how many of them found none
  pub ends : ℕ
  -- how many of them failed
  pub faults : ℕ
  -- how many links were handed back whose source had failed
  pub broken_sources : ℕ
  -- how many links were handed back whose sink had failed
  pub broken_sinks : ℕ

-- a dial in memory
pub record DialState : Type 0 where
  -- the link, where it was not given yet
  pub rest : Option (SourceState × SinkState)
  -- the link, where it was handed back
  pub back : Option (SourceState × SinkState)
  -- the numbers of the dials that fail
  pub fails : List ℕ
  -- how many dials there were
  pub calls : ℕ
  -- how many of them failed
  pub faults : ℕ
  -- how many links were handed back whose source had failed
  pub broken_sources : ℕ
  -- how many links were handed back whose sink had failed
  pub broken_sinks : ℕ

-- what there may be one of, as a list
abbrev pub at_most_one : {X : Type 0} → Option X → List X
at_most_one None = []
at_most_one (Some x) = x ∷ []

-- the link is out where it was given and not handed back
abbrev pub is_out : {X : Type 0} → Option X → Option X → Bool
is_out None None = true
is_out None (Some _) = false
is_out (Some _) _ = false

-- how many links were given where this one was not
abbrev pub count_given : {X : Type 0} → Option X → ℕ
count_given None = 1
count_given (Some _) = 0
