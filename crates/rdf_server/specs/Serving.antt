-- What the program `serve` does.
use Rattle.std.specs.Prelude.{◌≡◌, ℕ, Bool, true, false, if◌then◌else◌, List, length}
use Rattle.std.specs.List.{list_any}
use Rattle.shared_session.specs.Houses.{AllOf, AreFirst, House, lists}
use Rattle.shared_session.specs.declared.passes.Passes.{Passes}
use Rattle.worker_pool.specs.Served.{AllServed, AreWhole, DoorView, seats_at}
use Rattle.worker_pool.specs.declared.door_end.DoorEnd.{DoorEnd}
use Rattle.worker_pool.specs.declared.door_end.DoorStop.{DoorStop}
use Rattle.worker_pool.specs.declared.door_end.DoorStop.TheVariants as stop
use Rattle.worker_pool.specs.declared.house_end.HouseEnd.{HouseEnd}
use Rattle.rdf_server.specs.Programs.{standard_limits}
use Rattle.rdf_server.specs.declared.serve_end.ServeEnd.{ServeEnd}
use Rattle.rdf_server.specs.declared.serve_end.ServeEnd.TheVariants.{Words, Memory, Served}

-- the door failed
abbrev pub is_fault : DoorEnd → Bool
is_fault end = faulty end.stop
  where
    faulty : DoorStop → Bool
    faulty stop.Closed = false
    faulty stop.DoorFault = true
    faulty stop.Memory = false

-- no memory was found for a report
abbrev pub is_want : DoorEnd → Bool
is_want end = wanting end.stop
  where
    wanting : DoorStop → Bool
    wanting stop.Closed = false
    wanting stop.DoorFault = false
    wanting stop.Memory = true

-- the status of each end: a fault of a door goes before want of memory
abbrev pub serve_status : ServeEnd → ℕ
serve_status Words = 5
serve_status Memory = 6
serve_status (Served it) = if list_any is_fault it.doors.items then 2 else (if list_any is_want it.doors.items then 6 else 0)

module _ {D : Type 0} (out : D → Bool) (tells : D → DoorView) where
  -- A run of the program `serve`: workers served the doors, one each and in order, on a house of these IDs with the program's limits. Worker i has the seat
  -- number i in each repository, of whose journal it had seen nothing. What is said of the doors holds by the closing journals, each of which is whole.
  pub record IsServeRun (ids : List (List ℕ)) (doors doors' : List D) (end : HouseEnd) : Type 0 where
    pub house : House
    pub passes : List Passes
    pub names : house.names ≡ ids
    pub limits : house.limits ≡ standard_limits
    pub repos : length house.repos ≡ length ids
    pub own : AllOf house passes
    pub first : AreFirst 0 passes
    pub count : length passes ≡ length doors
    pub served : AllServed out tells house (lists end.closing.items) passes doors doors' end.doors.items
    pub whole : AreWhole standard_limits (seats_at passes) end.closing.items end.counts.items
    pub each : (length end.closing.items ≡ length ids) × (length end.counts.items ≡ length ids)
