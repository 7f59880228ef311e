-- The grammar of a chunked body (RFC 9112, section 7.1), with this product's bounds on what it skips.
use Rattle.std.specs.Prelude.{◌≡◌, ℕ, ◌+◌, ◌*◌, ◌≤◌, ◌<◌, ◌==◌, Bool, true, ◌&&◌, not, List, [], ◌∷◌, ◌++◌, length, fold}
use Rattle.std.specs.List.{list_all}
use Rattle.std.specs.Char.{digit_value, is_digit}
use Rattle.httparse.specs.Ascii.{crlf_bytes}
use Rattle.http_frame.specs.Limits.{most_digits, most_extension, most_trailers}
use Rattle.http_frame.specs.declared.fault.FrameFault.{FrameFault}
use Rattle.http_frame.specs.declared.fault.FrameFault.TheVariants.{BadBody, BodyTooLong, Truncated}

-- a hexadecimal digit, in either case
abbrev pub is_hex : ℕ → Bool
is_hex b = is_digit b 16

-- the number that hexadecimal digits write behind those that wrote n
abbrev pub hex_number : ℕ → List ℕ → ℕ
hex_number n ds = fold (λ m d. m * 16 + digit_value d) n ds

-- a byte of a line that is skipped: any but CR and LF
abbrev pub is_line_byte : ℕ → Bool
is_line_byte b = not (b == 13) && not (b == 10)

-- chunk-ext: none, or a semicolon and at most 1,024 bytes
abbrev pub IsExtension : List ℕ → Type 0
IsExtension [] = Unit {0}
IsExtension (b ∷ text) = (b ≡ 59) × (list_all is_line_byte text ≡ true) × (length text ≤ most_extension)

-- chunk-size [ chunk-ext ] CRLF, where the size has 1 to 16 digits
pub record IsChunkLine (line : List ℕ) (size : ℕ) : Type 0 where
  pub digits : List ℕ
  pub extension : List ℕ
  pub some : 0 < length digits
  pub few : length digits ≤ most_digits
  pub are_digits : list_all is_hex digits ≡ true
  pub size_is : size ≡ hex_number 0 digits
  pub is_extension : IsExtension extension
  pub line_is : line ≡ digits ++ (extension ++ crlf_bytes)

-- chunks one after another, and the bytes of the body that they carry
pub data AreChunks : List ℕ → List ℕ → Type 0 where
  none : {bytes body : List ℕ} → bytes ≡ [] → body ≡ [] → AreChunks bytes body
  -- a chunk line of a size above 0, so many bytes, CRLF, and more chunks
  chunk : {bytes body : List ℕ} (line piece more later : List ℕ) → IsChunkLine line (length piece) → 0 < length piece → AreChunks more later
      → bytes ≡ line ++ (piece ++ (crlf_bytes ++ more)) → body ≡ piece ++ later → AreChunks bytes body

-- trailer lines one after another, each of one or more bytes and CRLF
pub data AreTrailers : List ℕ → Type 0 where
  no_trailers : {bytes : List ℕ} → bytes ≡ [] → AreTrailers bytes
  trailer_line : {bytes : List ℕ} (text more : List ℕ) → 0 < length text → list_all is_line_byte text ≡ true → AreTrailers more
      → bytes ≡ text ++ (crlf_bytes ++ more) → AreTrailers bytes

-- *chunk last-chunk trailer-section CRLF, and the body that the chunks carry
pub record IsChunkedBody (bytes body : List ℕ) : Type 0 where
  pub chunks : List ℕ
  pub last : List ℕ
  pub trailers : List ℕ
  pub are_chunks : AreChunks chunks body
  pub is_last : IsChunkLine last 0
  pub are_trailers : AreTrailers trailers
  pub few : length trailers ≤ most_trailers
  pub bytes_are : bytes ≡ chunks ++ (last ++ (trailers ++ crlf_bytes))

-- b begins a chunked body
abbrev pub BeginsChunked : List ℕ → Type 0
BeginsChunked b = (more : List ℕ) × (body : List ℕ) × IsChunkedBody (b ++ more) body

-- b begins a chunked body, and is none yet
abbrev pub IsUnfinished : List ℕ → Type 0
IsUnfinished b = (next : ℕ) × (more : List ℕ) × (body : List ℕ) × IsChunkedBody (b ++ next ∷ more) body

-- b has the line of a chunk whose size with the chunks before it is over the most that a body may have
pub record HasLongChunk (most : ℕ) (b : List ℕ) : Type 0 where
  pub chunks : List ℕ
  pub body : List ℕ
  pub line : List ℕ
  pub size : ℕ
  pub rest : List ℕ
  pub are_chunks : AreChunks chunks body
  pub is_line : IsChunkLine line size
  pub long : most < length body + size
  pub b_is : b ≡ chunks ++ (line ++ rest)

-- b has a first byte with which the bytes so far begin no chunked body, and no chunk that is too long before it
pub record BreaksChunks (most : ℕ) (b : List ℕ) : Type 0 where
  pub good : List ℕ
  pub bad : ℕ
  pub rest : List ℕ
  pub b_is : b ≡ good ++ bad ∷ rest
  pub unfinished : IsUnfinished good
  pub broken : ¬ (BeginsChunked (good ++ bad ∷ []))
  pub not_long : ¬ (HasLongChunk most good)

-- the chunked body at the front of b is this one, of no more than the most bytes, and rest follows
pub record IsChunkedAt (most : ℕ) (b body rest : List ℕ) : Type 0 where
  pub bytes : List ℕ
  pub is_body : IsChunkedBody bytes body
  pub short : length body ≤ most
  pub b_is : b ≡ bytes ++ rest

-- b begins with no chunked body; the fault that stands first in it decides
pub data IsChunkedRefused (most : ℕ) (b : List ℕ) (fault : FrameFault) : Type 0 where
  -- a chunk is too long, at the end of its line
  long : fault ≡ BodyTooLong → HasLongChunk most b → IsChunkedRefused most b fault
  -- the grammar is broken, at the first byte that breaks it
  broken : fault ≡ BadBody → BreaksChunks most b → IsChunkedRefused most b fault
  -- b ends inside the body
  cut_off : fault ≡ Truncated → IsUnfinished b → ¬ (HasLongChunk most b) → IsChunkedRefused most b fault
