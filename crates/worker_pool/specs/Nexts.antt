-- What one connection does at a door. No contract of a public call cites it.
use Rattle.std.specs.Prelude.{◌≡◌, ℕ, ◌≤◌, List, [], ◌∷◌, ◌++◌, Option, Some}
use Rattle.rdf_io.specs.Causes.{Rose, one_more}
use Rattle.rdf_io.specs.Doors.{Link}
use Rattle.session.specs.Marks.{Journals, Moves}
use Rattle.session.specs.Turns.{Ground}
use Rattle.session.specs.declared.report.SessionReport.{SessionReport}
use Rattle.worker_pool.specs.Doors.{IsServed}
use Rattle.worker_pool.specs.declared.door_end.Next.{Next}
use Rattle.worker_pool.specs.declared.door_end.Next.TheVariants.{Served, Shut, Broken}

-- where the door tells its connections, the first was given and has a right report, and what was written is told of its sink
abbrev pub Linked : Ground → Option (List Link) → Option (List Link) → Option (List (List ℕ)) → Option (List (List ℕ)) → SessionReport → Type 0
Linked g links links' backs backs' r = (told : List Link) → links ≡ Some told → (first : Link) × (rest : List Link) × (told ≡ first ∷ rest) × (links' ≡ Some rest)
    × (text : List ℕ) × IsServed g first r text × ((before : List (List ℕ)) → backs ≡ Some before → backs' ≡ Some (before ++ text ∷ []))

-- what comes next at a door
abbrev pub Nexts : Ground → Journals → Option (List Link) → Option (List Link) → Option (List (List ℕ)) → Option (List (List ℕ)) → Next → Type 0
Nexts g old links links' backs backs' (Served r) = Moves g.seats old g.journals r.marks.items × Linked g links links' backs backs' r
Nexts g old links links' backs backs' Shut = (links' ≡ links) × (backs' ≡ backs) × (g.journals ≡ old)
Nexts g old links links' backs backs' Broken = (links' ≡ links) × (backs' ≡ backs) × (g.journals ≡ old)

-- the report that comes of it
abbrev pub reports_of : Next → List SessionReport
reports_of (Served r) = r ∷ []
reports_of Shut = []
reports_of Broken = []

-- the door's count of its answers that there is none, and that of its faults
abbrev pub CountsNext : ℕ → ℕ → ℕ → ℕ → Next → Type 0
CountsNext ends ends' faults faults' (Served r) = (ends' ≡ ends) × (faults' ≡ faults)
CountsNext ends ends' faults faults' Shut = (ends' ≡ one_more ends) × (faults' ≡ faults)
CountsNext ends ends' faults faults' Broken = (ends' ≡ ends) × (faults ≤ faults') × Rose faults faults'
