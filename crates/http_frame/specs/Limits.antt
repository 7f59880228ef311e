-- The limits of frames.
use Rattle.std.specs.Prelude.{ℕ}

-- the most bytes of a head
abbrev pub most_head : ℕ
most_head = 65536

-- the most fields of a head
abbrev pub most_fields : ℕ
most_fields = 128

-- the most bytes of the body of a request
abbrev pub most_body : ℕ
most_body = 16777216

-- the most bytes of the body of a response
abbrev pub most_response : ℕ
most_response = 536870912

-- the most informational responses that are passed over before another one
abbrev pub most_informational : ℕ
most_informational = 16

-- the most digits of a chunk's size
abbrev pub most_digits : ℕ
most_digits = 16

-- the most bytes of a chunk extension behind its semicolon
abbrev pub most_extension : ℕ
most_extension = 1024

-- the most bytes of a trailer section, line ends counted
abbrev pub most_trailers : ℕ
most_trailers = 65536
