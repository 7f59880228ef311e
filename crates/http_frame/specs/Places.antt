-- The steps of the reader of a chunked body. No contract of a public call cites them.
use Rattle.std.specs.Prelude.{◌≡◌, ℕ, ◌+◌, ◌-◌, ◌*◌, ◌^◌, ◌≤◌, ◌<◌, ◌==◌, List, [], ◌∷◌, ◌++◌, Option, Some, None, if◌then◌else◌, nat_lt, nat_le}
use Rattle.std.specs.Char.{digit_value}
use Rattle.http_frame.specs.Chunks.{is_hex}
use Rattle.http_frame.specs.Limits.{most_digits, most_extension, most_trailers}
use Rattle.http_frame.specs.declared.chunk.Place.{Place}
use Rattle.http_frame.specs.declared.chunk.Place.TheVariants.{Size, Extension, LineEnd, Data, DataReturn, DataEnd, Trailers, Trailer, TrailerEnd, LastEnd}
use Rattle.http_frame.specs.declared.chunk.Step.{Step}
use Rattle.http_frame.specs.declared.chunk.Step.TheVariants.{Next, Broken, Long, Done}

-- the value of a hexadecimal digit
abbrev pub hex_digit : ℕ → Option ℕ
hex_digit b = if is_hex b then Some (digit_value b) else None

-- the byte that is wanted, and the place behind it
abbrev pub wanted : ℕ → ℕ → Place → ℕ → Step
wanted byte b place room = if b == byte then Next place room else Broken

-- behind the size of a chunk
abbrev pub line_step : ℕ → ℕ → ℕ → Step
line_step size room b = if b == 59 then Next (Extension 0 size) room else wanted 13 b (LineEnd size) room

abbrev pub size_step : ℕ → ℕ → ℕ → ℕ → Option ℕ → Step
size_step digits size room b (Some value) = if nat_lt digits most_digits then Next (Size (digits + 1) (size * 16 + value)) room else Broken
size_step digits size room b None = if nat_lt 0 digits then line_step size room b else Broken

abbrev pub extension_step : ℕ → ℕ → ℕ → ℕ → Step
extension_step count size room b =
    if b == 13 then Next (LineEnd size) room
    else if b == 10 then Broken
    else if nat_lt count most_extension then Next (Extension (count + 1) size) room
    else Broken

-- behind the line of a chunk
abbrev pub sized : ℕ → ℕ → Step
sized size room =
    if size == 0 then Next (Trailers 0) room
    else if nat_le size room then Next (Data size) (room - size)
    else Long

abbrev pub data_step : ℕ → ℕ → Step
data_step left room =
    if left == 0 then Broken
    else if left == 1 then Next DataReturn room
    else Next (Data (left - 1)) room

-- a byte of a trailer line, behind which its CRLF has to fit
abbrev pub text_step : ℕ → ℕ → ℕ → Step
text_step taken room b =
    if b == 10 then Broken
    else if nat_le (taken + 3) most_trailers then Next (Trailer (taken + 1)) room
    else Broken

-- where one more byte leads
abbrev pub step : Place → ℕ → ℕ → Step
step (Size digits size) room b = size_step digits size room b (hex_digit b)
step (Extension count size) room b = extension_step count size room b
step (LineEnd size) room b = if b == 10 then sized size room else Broken
step (Data left) room b = data_step left room
step DataReturn room b = wanted 13 b DataEnd room
step DataEnd room b = wanted 10 b (Size 0 0) room
step (Trailers taken) room b = if b == 13 then Next LastEnd room else text_step taken room b
step (Trailer taken) room b = if b == 13 then Next (TrailerEnd (taken + 1)) room else text_step taken room b
step (TrailerEnd taken) room b = wanted 10 b (Trailers (taken + 1)) room
step LastEnd room b = if b == 10 then Done else Broken

-- the byte is one of the body
abbrev pub data_at : Place → ℕ → List ℕ
data_at (Data left) b = b ∷ []
data_at (Size digits size) b = []
data_at (Extension count size) b = []
data_at (LineEnd size) b = []
data_at DataReturn b = []
data_at DataEnd b = []
data_at (Trailers taken) b = []
data_at (Trailer taken) b = []
data_at (TrailerEnd taken) b = []
data_at LastEnd b = []

-- what reading comes to
pub data Trace : Type 0 where
  -- the body is whole, or a chunk too long; and what follows
  ended : Option (List ℕ) → List ℕ → Trace
  broke : Trace
  -- the bytes are used up: the body so far, the place and the room
  open_at : List ℕ → Place → ℕ → Trace

-- the same, behind these bytes of the body
abbrev pub carry : List ℕ → Trace → Trace
carry front (ended (Some body) rest) = ended (Some (front ++ body)) rest
carry front (ended None rest) = ended None rest
carry front broke = broke
carry front (open_at body place room) = open_at (front ++ body) place room

abbrev pub after_step : Step → List ℕ → List ℕ → (Place → ℕ → Trace) → Trace
after_step (Next place room) front rest go = carry front (go place room)
after_step Broken front rest go = broke
after_step Long front rest go = ended None rest
after_step Done front rest go = ended (Some []) rest

-- reading these bytes from a place on
abbrev pub trace : Place → ℕ → List ℕ → Trace
trace place room [] = open_at [] place room
trace place room (b ∷ bytes) = after_step (step place room b) (data_at place b) bytes (λ place' room'. trace place' room' bytes)

-- behind so many bytes of a chunk
abbrev pub behind_data : ℕ → ℕ → Place
behind_data left part = if nat_lt part left then Data (left - part) else DataReturn

-- what every place keeps
abbrev pub IsPlace : Place → Type 0
IsPlace (Size digits size) = (digits ≤ most_digits) × (size < 2 ^ (4 * digits))
IsPlace (Extension count size) = count ≤ most_extension
IsPlace (LineEnd size) = Unit {0}
IsPlace (Data left) = 0 < left
IsPlace DataReturn = Unit {0}
IsPlace DataEnd = Unit {0}
IsPlace (Trailers taken) = taken ≤ most_trailers
IsPlace (Trailer taken) = taken + 2 ≤ most_trailers
IsPlace (TrailerEnd taken) = taken + 1 ≤ most_trailers
IsPlace LastEnd = Unit {0}

-- more than the bytes that can follow: each chunk has a byte of the room, and the lines have limits
abbrev pub bytes_left : Place → ℕ → ℕ
bytes_left (Size digits size) room = 70000 + 1100 * room - digits
bytes_left (Extension count size) room = 70000 + 1100 * room - (count + 20)
bytes_left (LineEnd size) room = 70000 + 1100 * room - 1050
bytes_left (Data left) room = 70000 + 1100 * room + 3 + left
bytes_left DataReturn room = 70000 + 1100 * room + 2
bytes_left DataEnd room = 70000 + 1100 * room + 1
bytes_left (Trailers taken) room = 65540 - taken
bytes_left (Trailer taken) room = 65540 - taken
bytes_left (TrailerEnd taken) room = 65540 - taken
bytes_left LastEnd room = 1

-- a step leads to a place, with fewer bytes to follow
abbrev pub IsStep : Place → ℕ → Step → Type 0
IsStep place room (Next place' room') = IsPlace place' × (bytes_left place' room' < bytes_left place room)
IsStep place room Broken = Unit {0}
IsStep place room Long = Unit {0}
IsStep place room Done = Unit {0}

-- what a turn of the reader comes to that began where these bytes of the body were read
abbrev pub IsReached : Place → ℕ → List ℕ → List ℕ → List ℕ → Step → Type 0
IsReached place room body taken body' (Next place' room') =
    (more : List ℕ) × (trace place room taken ≡ open_at more place' room') × (body' ≡ body ++ more)
    × IsPlace place' × (bytes_left place' room' < bytes_left place room)
IsReached place room body taken body' Broken = trace place room taken ≡ broke
IsReached place room body taken body' Long = trace place room taken ≡ ended None []
IsReached place room body taken body' Done = (trace place room taken ≡ ended (Some []) []) × (body' ≡ body)

-- a turn takes the first of the bytes that are held
abbrev pub IsTurn : Place → ℕ → List ℕ → List ℕ → List ℕ → List ℕ → Step → Type 0
IsTurn place room held held' body body' reached = (taken : List ℕ) × (held ≡ taken ++ held') × IsReached place room body taken body' reached
