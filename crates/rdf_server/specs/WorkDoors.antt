-- The doors of `workload`, one for each worker.
use Rattle.std.specs.Prelude.{◌≡◌, ℕ, suc, true, List, [], ◌∷◌, map, Some}
use Rattle.rdf_io.specs.Memory.{DoorState, got_of, told_of}
use Rattle.worker_pool.specs.Served.{DoorView}
use Rattle.worker_pool.specs.declared.house_end.HouseEnd.{HouseEnd}
use Rattle.workload.specs.Sessions.{session_bytes}
use Rattle.rdf_server.specs.Serving.{IsServeRun}

-- the door has one connection to give, whose bytes are the session of this number, and none was handed back
pub record HasSession (session rounds : ℕ) (door : DoorState) : Type 0 where
  pub link : map told_of door.rest ≡ record { bytes = session_bytes session rounds; sound = true } ∷ []
  pub nothing : map got_of door.back ≡ []

-- these doors have the sessions from this number on
abbrev pub HaveSessions : (session rounds : ℕ) → List DoorState → Type 0
HaveSessions session rounds [] = Unit {0}
HaveSessions session rounds (door ∷ doors) = HasSession session rounds door × HaveSessions (suc session) rounds doors

-- what a door in memory tells
abbrev pub mem_view : DoorState → DoorView
mem_view d = record {
  links = Some (map told_of d.rest);
  backs = Some (map got_of d.back);
  given = d.given;
  ends = d.ends;
  faults = d.faults;
  broken_sources = d.broken_sources;
  broken_sinks = d.broken_sinks;
}

-- workers served these doors in memory
abbrev pub ServesDoors : List (List ℕ) → (doors doors' : List DoorState) → HouseEnd → Type 0
ServesDoors names doors doors' end = IsServeRun (λ (d : DoorState). d.out) mem_view names doors doors' end
