-- The grammar of a chunked body, and what reading one byte by byte comes to.
use Rattle.std.proofs.Common.{◌≡◌, ◌∙◌, ℕ, suc, ◌+◌, ◌-◌, ◌*◌, ◌≤◌, ◌<◌, ◌==◌, Bool, true, false, ◌&&◌, not, cond, nat_lt, nat_le, List, [], ◌∷◌, ◌++◌, length, Some, None, sym, ap, ap₂, refl, arith, append_assoc, append-nil, length-append, inl, inr}
use Rattle.std.specs.List.{list_all}
use Rattle.std.specs.Char.{digit_value}
use Rattle.std.proofs.lemmas.Bool.{cases_lt}
use Rattle.std.proofs.lemmas.Bool.Decides.{nat_tests}
use Rattle.httparse.specs.Ascii.{crlf_bytes}
use Rattle.http_frame.specs.Chunks.{is_hex, hex_number, is_line_byte, IsExtension, IsChunkLine, AreChunks, none, chunk, AreTrailers, no_trailers, trailer_line, IsChunkedBody, HasLongChunk}
use Rattle.http_frame.specs.Places.{hex_digit, line_step, size_step, sized, data_step, text_step, step, data_at, behind_data, Trace, ended, broke, open_at, carry, after_step, trace}
use Rattle.http_frame.specs.declared.chunk.Place.{Place}
use Rattle.http_frame.specs.declared.chunk.Place.TheVariants.{Size, Extension, LineEnd, Data, DataReturn, DataEnd, Trailers, Trailer, TrailerEnd, LastEnd}
use Rattle.http_frame.specs.declared.chunk.Step.TheVariants.{Next, Broken, Long, Done}

-- traces

pub carry-nil : (t : Trace) → carry [] t ≡ t
carry-nil (ended (Some body) rest) = refl
carry-nil (ended None rest) = refl
carry-nil broke = refl
carry-nil (open_at body place room) = refl

pub carry-append : (a b : List ℕ) (t : Trace) → carry a (carry b t) ≡ carry (a ++ b) t
carry-append a b (ended (Some body) rest) = ap (λ (z : List ℕ). ended (Some z) rest) (sym (append_assoc a b body))
carry-append a b (ended None rest) = refl
carry-append a b broke = refl
carry-append a b (open_at body place room) = ap (λ (z : List ℕ). open_at z place room) (sym (append_assoc a b body))

-- what reading comes to where more bytes follow
abbrev pub resume : Trace → List ℕ → Trace
resume (ended end rest) more = ended end (rest ++ more)
resume broke more = broke
resume (open_at body place room) more = carry body (trace place room more)

resume-carry : (front : List ℕ) (t : Trace) (more : List ℕ) → resume (carry front t) more ≡ carry front (resume t more)
resume-carry front (ended (Some body) rest) more = refl
resume-carry front (ended None rest) more = refl
resume-carry front broke more = refl
resume-carry front (open_at body place room) more = sym (carry-append front body (trace place room more))

pub trace-append : (place : Place) (room : ℕ) (xs ys : List ℕ) → trace place room (xs ++ ys) ≡ resume (trace place room xs) ys
trace-append place room [] ys = sym (carry-nil (trace place room ys))
trace-append place room (x ∷ xs) ys =
    elim (step place room x) as (λ s. after_step s (data_at place x) (xs ++ ys) (λ p r. trace p r (xs ++ ys))
    ≡ resume (after_step s (data_at place x) xs (λ p r. trace p r xs)) ys) [
      | Next p r ↦ ap (carry (data_at place x)) (trace-append p r xs ys) ∙ sym (resume-carry (data_at place x) (trace p r xs) ys)
      | Broken ↦ refl
      | Long ↦ refl
      | Done ↦ refl
    ]

-- a step that leads to a place
pub stepped : (place : Place) (room : ℕ) (x : ℕ) (xs : List ℕ) (p : Place) (r : ℕ) → step place room x ≡ Next p r
    → trace place room (x ∷ xs) ≡ carry (data_at place x) (trace p r xs)
stepped place room x xs p r e = ap (λ s. after_step s (data_at place x) xs (λ p r. trace p r xs)) e

-- the same, where the byte is none of the body
quietly : (place : Place) (room : ℕ) (x : ℕ) (xs : List ℕ) (p : Place) (r : ℕ) → step place room x ≡ Next p r → data_at place x ≡ []
    → trace place room (x ∷ xs) ≡ trace p r xs
quietly place room x xs p r e d = stepped place room x xs p r e ∙ ap (λ (z : List ℕ). carry z (trace p r xs)) d ∙ carry-nil (trace p r xs)

-- what the grammar gives is read

and_left : (a b : Bool) → (a && b) ≡ true → a ≡ true
and_left true b e = refl
and_left false b e = cc

and_right : (a b : Bool) → (a && b) ≡ true → b ≡ true
and_right true b e = e
and_right false b e = cc

not_true : (a : Bool) → not a ≡ true → a ≡ false
not_true true e = cc
not_true false e = refl

lt_true : (m n : ℕ) → m < n → nat_lt m n ≡ true
lt_true m n h = grind (arith, nat_tests)

le_true : (m n : ℕ) → m ≤ n → nat_le m n ≡ true
le_true m n h = grind (arith, nat_tests)

le_false : (m n : ℕ) → n < m → nat_le m n ≡ false
le_false m n h = grind (arith, nat_tests)

lt_false : (m n : ℕ) → n ≤ m → nat_lt m n ≡ false
lt_false m n h = grind (arith, nat_tests)

eq_false : (m n : ℕ) → m < n → (n == m) ≡ false
eq_false m n h = grind (arith, nat_tests)

read_digits : (ds : List ℕ) (digits size room : ℕ) (q : List ℕ) → list_all is_hex ds ≡ true → digits + length ds ≤ 16
    → trace (Size digits size) room (ds ++ q) ≡ trace (Size (digits + length ds) (hex_number size ds)) room q
read_digits [] digits size room q all few = ap (λ n. trace (Size n size) room q) (omega arith)
read_digits (d ∷ ds) digits size room q all few =
    let hex = and_left (is_hex d) (list_all is_hex ds) all in
    let rest = and_right (is_hex d) (list_all is_hex ds) all in
    let value : hex_digit d ≡ Some (digit_value d) = ap (λ t. cond t (Some (digit_value d)) None) hex in
    let next : step (Size digits size) room d ≡ Next (Size (digits + 1) (size * 16 + digit_value d)) room =
    ap (size_step digits size room d) value ∙ ap (λ t. cond t (Next (Size (digits + 1) (size * 16 + digit_value d)) room) Broken) (lt_true digits 16 (omega arith)) in
    quietly (Size digits size) room d (ds ++ q) (Size (digits + 1) (size * 16 + digit_value d)) room next refl
    ∙ read_digits ds (digits + 1) (size * 16 + digit_value d) room q rest (omega arith)
    ∙ ap (λ n. trace (Size n (hex_number (size * 16 + digit_value d) ds)) room q) (omega arith)

-- a semicolon or a carriage return is no digit
end_step : (digits size room b : ℕ) → hex_digit b ≡ None → 0 < digits → step (Size digits size) room b ≡ line_step size room b
end_step digits size room b e some =
    ap (size_step digits size room b) e ∙ ap (λ t. cond t (line_step size room b) Broken) (lt_true 0 digits some)

read_text : (text : List ℕ) (count size room : ℕ) (q : List ℕ) → list_all is_line_byte text ≡ true → count + length text ≤ 1024
    → trace (Extension count size) room (text ++ q) ≡ trace (Extension (count + length text) size) room q
read_text [] count size room q all few = ap (λ n. trace (Extension n size) room q) (omega arith)
read_text (b ∷ text) count size room q all few =
    let byte = and_left (is_line_byte b) (list_all is_line_byte text) all in
    let rest = and_right (is_line_byte b) (list_all is_line_byte text) all in
    let cr = not_true (b == 13) (and_left (not (b == 13)) (not (b == 10)) byte) in
    let lf = not_true (b == 10) (and_right (not (b == 13)) (not (b == 10)) byte) in
    let more = lt_true count 1024 (omega arith) in
    let go = Next (Extension (count + 1) size) room in
    let next : step (Extension count size) room b ≡ Next (Extension (count + 1) size) room =
    ap (λ t. cond t (Next (LineEnd size) room) (cond (b == 10) Broken (cond (nat_lt count 1024) go Broken))) cr
    ∙ ap₂ (λ t u. cond t Broken (cond u go Broken)) lf more in
    quietly (Extension count size) room b (text ++ q) (Extension (count + 1) size) room next refl
    ∙ read_text text (count + 1) size room q rest (omega arith)
    ∙ ap (λ n. trace (Extension n size) room q) (omega arith)

text_next : (taken room b : ℕ) → is_line_byte b ≡ true → taken + 3 ≤ 65536 → text_step taken room b ≡ Next (Trailer (taken + 1)) room
text_next taken room b byte few =
    let lf = not_true (b == 10) (and_right (not (b == 13)) (not (b == 10)) byte) in
    ap₂ (λ t u. cond t Broken (cond u (Next (Trailer (taken + 1)) room) Broken)) lf (le_true (taken + 3) 65536 few)

-- behind the line of a chunk of this size
abbrev pub behind_line : ℕ → ℕ → List ℕ → Trace
behind_line size room q = after_step (sized size room) [] q (λ p r. trace p r q)

read_extension : (extension : List ℕ) (digits size room : ℕ) (q : List ℕ) → IsExtension extension → 0 < digits
    → trace (Size digits size) room (extension ++ (13 ∷ 10 ∷ q)) ≡ behind_line size room q
read_extension [] digits size room q h some =
    quietly (Size digits size) room 13 (10 ∷ q) (LineEnd size) room (end_step digits size room 13 refl some) refl
read_extension (b ∷ text) digits size room q h some =
    let next : step (Size digits size) room 59 ≡ Next (Extension 0 size) room = end_step digits size room 59 refl some in
    ap (λ c. trace (Size digits size) room (c ∷ (text ++ (13 ∷ 10 ∷ q)))) h.0
    ∙ quietly (Size digits size) room 59 (text ++ (13 ∷ 10 ∷ q)) (Extension 0 size) room next refl
    ∙ read_text text 0 size room (13 ∷ 10 ∷ q) h.1 (omega (arith, h.2))
    ∙ quietly (Extension (0 + length text) size) room 13 (10 ∷ q) (LineEnd size) room refl refl

pub read_line : (line : List ℕ) (size room : ℕ) (q : List ℕ) → IsChunkLine line size → trace (Size 0 0) room (line ++ q) ≡ behind_line size room q
read_line line size room q h =
    let some = h.some in
    let few = h.few in
    let bytes : line ++ q ≡ h.digits ++ (h.extension ++ (13 ∷ 10 ∷ q)) =
    ap (λ (z : List ℕ). z ++ q) h.line_is ∙ append_assoc h.digits (h.extension ++ crlf_bytes) q
    ∙ ap (λ (z : List ℕ). h.digits ++ z) (append_assoc h.extension crlf_bytes q) in
    ap (trace (Size 0 0) room) bytes
    ∙ read_digits h.digits 0 0 room (h.extension ++ (13 ∷ 10 ∷ q)) h.are_digits (omega arith)
    ∙ read_extension h.extension (0 + length h.digits) (hex_number 0 h.digits) room q h.is_extension (omega arith)
    ∙ ap (λ n. behind_line n room q) (sym h.size_is)

same_behind : (left n : ℕ) → 0 < left → behind_data (left - 1) n ≡ behind_data left (suc n)
same_behind left n some =
    elim (cases_lt (suc n) left) [
      | inl more ↦ (let here = lt_true n (left - 1) (omega arith) in
          let there = lt_true (suc n) left more in
          let size : (left - 1) - n ≡ left - suc n = omega arith in
          ap₂ (λ t m. cond t (Data m) DataReturn) here size ∙ sym (ap (λ t. cond t (Data (left - suc n)) DataReturn) there))
      | inr last ↦ (let here = lt_false n (left - 1) (omega arith) in
          let there = lt_false (suc n) left last in
          ap (λ t. cond t (Data ((left - 1) - n)) DataReturn) here ∙ sym (ap (λ t. cond t (Data (left - suc n)) DataReturn) there))
    ]

-- the bytes of a chunk, as many as come
pub read_data : (piece : List ℕ) (left room : ℕ) → 0 < length piece → length piece ≤ left
    → trace (Data left) room piece ≡ open_at piece (behind_data left (length piece)) room
read_data [] left room some fit = absurd (omega arith)
read_data (x ∷ []) left room some fit =
    elim (cases_lt 1 left) [
      | inl more ↦ (let here : data_step left room ≡ Next (Data (left - 1)) room =
          ap₂ (λ t u. cond t Broken (cond u (Next DataReturn room) (Next (Data (left - 1)) room))) (eq_false 0 left (omega arith)) (eq_false 1 left more) in
          let place : behind_data left 1 ≡ Data (left - 1) = ap (λ t. cond t (Data (left - 1)) DataReturn) (lt_true 1 left more) in
          stepped (Data left) room x [] (Data (left - 1)) room here ∙ ap (λ p. open_at (x ∷ []) p room) (sym place))
      | inr last ↦ (let one : left ≡ 1 = omega arith in
          ap (λ n. trace (Data n) room (x ∷ [])) one ∙ ap (λ n. open_at (x ∷ []) (behind_data n 1) room) (sym one))
    ]
read_data (x ∷ y ∷ piece) left room some fit =
    let here : data_step left room ≡ Next (Data (left - 1)) room =
    ap₂ (λ t u. cond t Broken (cond u (Next DataReturn room) (Next (Data (left - 1)) room))) (eq_false 0 left (omega arith)) (eq_false 1 left (omega arith)) in
    let rest = read_data (y ∷ piece) (left - 1) room (omega arith) (omega arith) in
    let place : behind_data (left - 1) (length (y ∷ piece)) ≡ behind_data left (length (x ∷ y ∷ piece)) = same_behind left (length (y ∷ piece)) (omega arith) in
    stepped (Data left) room x (y ∷ piece) (Data (left - 1)) room here ∙ ap (carry (x ∷ [])) rest ∙ ap (λ p. open_at (x ∷ y ∷ piece) p room) place

read_piece : (piece : List ℕ) (room : ℕ) (q : List ℕ) → 0 < length piece
    → trace (Data (length piece)) room (piece ++ (13 ∷ 10 ∷ q)) ≡ carry piece (trace (Size 0 0) room q)
read_piece piece room q some =
    let all : behind_data (length piece) (length piece) ≡ DataReturn =
    ap (λ t. cond t (Data (length piece - length piece)) DataReturn) (lt_false (length piece) (length piece) (omega arith)) in
    trace-append (Data (length piece)) room piece (13 ∷ 10 ∷ q)
    ∙ ap (λ t. resume t (13 ∷ 10 ∷ q)) (read_data piece (length piece) room some (omega arith) ∙ ap (λ p. open_at piece p room) all)
    ∙ ap (carry piece) (quietly DataReturn room 13 (10 ∷ q) DataEnd room refl refl ∙ quietly DataEnd room 10 q (Size 0 0) room refl refl)

read_trailer : (text : List ℕ) (taken room : ℕ) (q : List ℕ) → list_all is_line_byte text ≡ true → taken + length text + 2 ≤ 65536
    → trace (Trailer taken) room (text ++ (13 ∷ 10 ∷ q)) ≡ trace (Trailers (taken + length text + 2)) room q
read_trailer [] taken room q all few =
    quietly (Trailer taken) room 13 (10 ∷ q) (TrailerEnd (taken + 1)) room refl refl
    ∙ quietly (TrailerEnd (taken + 1)) room 10 q (Trailers (taken + 1 + 1)) room refl refl
    ∙ ap (λ n. trace (Trailers n) room q) (omega arith)
read_trailer (b ∷ text) taken room q all few =
    let byte = and_left (is_line_byte b) (list_all is_line_byte text) all in
    let rest = and_right (is_line_byte b) (list_all is_line_byte text) all in
    let cr = not_true (b == 13) (and_left (not (b == 13)) (not (b == 10)) byte) in
    let next : step (Trailer taken) room b ≡ Next (Trailer (taken + 1)) room =
    ap (λ t. cond t (Next (TrailerEnd (taken + 1)) room) (text_step taken room b)) cr ∙ text_next taken room b byte (omega arith) in
    quietly (Trailer taken) room b (text ++ (13 ∷ 10 ∷ q)) (Trailer (taken + 1)) room next refl
    ∙ read_trailer text (taken + 1) room q rest (omega arith)
    ∙ ap (λ n. trace (Trailers n) room q) (omega arith)

pub read_trailers : {ts : List ℕ} (taken room : ℕ) (q : List ℕ) → AreTrailers ts → taken + length ts ≤ 65536
    → trace (Trailers taken) room (ts ++ (13 ∷ 10 ∷ q)) ≡ ended (Some []) q
read_trailers {ts} taken room q (no_trailers e) few =
    ap (λ (z : List ℕ). trace (Trailers taken) room (z ++ (13 ∷ 10 ∷ q))) e ∙ quietly (Trailers taken) room 13 (10 ∷ q) LastEnd room refl refl
read_trailers {ts} taken room q (trailer_line [] more some all rest e) few = absurd (omega arith)
read_trailers {ts} taken room q (trailer_line (b ∷ text) more some all rest e) few =
    let byte = and_left (is_line_byte b) (list_all is_line_byte text) all in
    let bytes = and_right (is_line_byte b) (list_all is_line_byte text) all in
    let cr = not_true (b == 13) (and_left (not (b == 13)) (not (b == 10)) byte) in
    let whole : ts ++ (13 ∷ 10 ∷ q) ≡ b ∷ (text ++ (13 ∷ 10 ∷ (more ++ (13 ∷ 10 ∷ q)))) =
    ap (λ (z : List ℕ). z ++ (13 ∷ 10 ∷ q)) e ∙ ap (λ (z : List ℕ). b ∷ z) (append_assoc text (crlf_bytes ++ more) (13 ∷ 10 ∷ q)) in
    let size = simp length-append at (ap length e) in
    let next : step (Trailers taken) room b ≡ Next (Trailer (taken + 1)) room =
    ap (λ t. cond t (Next LastEnd room) (text_step taken room b)) cr ∙ text_next taken room b byte (omega arith) in
    ap (trace (Trailers taken) room) whole
    ∙ quietly (Trailers taken) room b (text ++ (13 ∷ 10 ∷ (more ++ (13 ∷ 10 ∷ q)))) (Trailer (taken + 1)) room next refl
    ∙ read_trailer text (taken + 1) room (more ++ (13 ∷ 10 ∷ q)) bytes (omega arith)
    ∙ read_trailers (taken + 1 + length text + 2) room q rest (omega arith)

sized_fits : (size room : ℕ) → 0 < size → size ≤ room → sized size room ≡ Next (Data size) (room - size)
sized_fits size room some fits =
    ap₂ (λ t u. cond t (Next (Trailers 0) room) (cond u (Next (Data size) (room - size)) Long)) (eq_false 0 size some) (le_true size room fits)

sized_long : (size room : ℕ) → room < size → sized size room ≡ Long
sized_long size room over =
    ap₂ (λ t u. cond t (Next (Trailers 0) room) (cond u (Next (Data size) (room - size)) Long)) (eq_false 0 size (omega arith)) (le_false size room over)

-- a chunk for which there is room
pub chunk_fits : (line piece q : List ℕ) (room : ℕ) → IsChunkLine line (length piece) → 0 < length piece → length piece ≤ room
    → trace (Size 0 0) room (line ++ (piece ++ (13 ∷ 10 ∷ q))) ≡ carry piece (trace (Size 0 0) (room - length piece) q)
chunk_fits line piece q room h some fits =
    let z = piece ++ (13 ∷ 10 ∷ q) in
    read_line line (length piece) room z h
    ∙ ap (λ s. after_step s [] z (λ p r. trace p r z)) (sized_fits (length piece) room some fits)
    ∙ carry-nil (trace (Data (length piece)) (room - length piece) z)
    ∙ read_piece piece (room - length piece) q some

-- a chunk for which there is none
pub chunk_long : (line q : List ℕ) (size room : ℕ) → IsChunkLine line size → room < size → trace (Size 0 0) room (line ++ q) ≡ ended None q
chunk_long line q size room h over =
    read_line line size room q h ∙ ap (λ s. after_step s [] q (λ p r. trace p r q)) (sized_long size room over)

-- the last chunk, the trailers and the last line end
pub last_chunk : (line ts q : List ℕ) (room : ℕ) → IsChunkLine line 0 → AreTrailers ts → length ts ≤ 65536
    → trace (Size 0 0) room (line ++ (ts ++ (13 ∷ 10 ∷ q))) ≡ ended (Some []) q
last_chunk line ts q room h trailers few =
    let z = ts ++ (13 ∷ 10 ∷ q) in
    read_line line 0 room z h ∙ carry-nil (trace (Trailers 0) room z) ∙ read_trailers 0 room q trailers (omega arith)

-- chunks one after another, with room for them or without
pub read_chunks : {cs body : List ℕ} (room : ℕ) (q : List ℕ) → AreChunks cs body
    → (length body ≤ room → trace (Size 0 0) room (cs ++ q) ≡ carry body (trace (Size 0 0) (room - length body) q))
    × (room < length body → (rest : List ℕ) × (trace (Size 0 0) room (cs ++ q) ≡ ended None rest))
read_chunks {cs} {body} room q (none e f) = (
  λ fits. ap (λ (z : List ℕ). trace (Size 0 0) room (z ++ q)) e ∙ sym (carry-nil (trace (Size 0 0) room q))
      ∙ ap (λ n. carry [] (trace (Size 0 0) n q)) (omega arith) ∙ ap (λ (z : List ℕ). carry z (trace (Size 0 0) (room - length z) q)) (sym f),
  λ over. let size = ap length f in absurd (omega arith),
)
read_chunks {cs} {body} room q (chunk line piece more later is_line some rest e f) =
    let bytes : cs ++ q ≡ line ++ (piece ++ (13 ∷ 10 ∷ (more ++ q))) =
    ap (λ (z : List ℕ). z ++ q) e ∙ append_assoc line (piece ++ (crlf_bytes ++ more)) q
    ∙ ap (λ (z : List ℕ). line ++ z) (append_assoc piece (crlf_bytes ++ more) q) in
    let size = simp length-append at (ap length f) in
    elim (cases_lt room (length piece)) [
      | inl over ↦ (
        λ fits. absurd (omega arith),
        λ long. (
          piece ++ (13 ∷ 10 ∷ (more ++ q)),
          ap (trace (Size 0 0) room) bytes ∙ chunk_long line (piece ++ (13 ∷ 10 ∷ (more ++ q))) (length piece) room is_line over,
        ),
      )
      | inr fits_one ↦ (let begin = ap (trace (Size 0 0) room) bytes ∙ chunk_fits line piece (more ++ q) room is_line some fits_one in
          let go_on = read_chunks (room - length piece) q rest in (
            λ fits. begin ∙ ap (carry piece) (go_on.0 (omega arith))
                ∙ carry-append piece later (trace (Size 0 0) ((room - length piece) - length later) q)
                ∙ ap₂ (λ (z : List ℕ) n. carry z (trace (Size 0 0) n q)) (sym f) (omega arith),
            λ long. (let past = go_on.1 (omega arith) in (past.0, begin ∙ ap (carry piece) past.1)),
          ))
    ]

tail_bytes : (chunks last trailers q : List ℕ)
    → (chunks ++ (last ++ (trailers ++ crlf_bytes))) ++ q ≡ chunks ++ (last ++ (trailers ++ (13 ∷ 10 ∷ q)))
tail_bytes chunks last trailers q =
    append_assoc chunks (last ++ (trailers ++ crlf_bytes)) q
    ∙ ap (λ (z : List ℕ). chunks ++ z) (append_assoc last (trailers ++ crlf_bytes) q)
    ∙ ap (λ (z : List ℕ). chunks ++ (last ++ z)) (append_assoc trailers crlf_bytes q)

-- a body for which there is room
pub body_fits : (bytes body q : List ℕ) (room : ℕ) → IsChunkedBody bytes body → length body ≤ room
    → trace (Size 0 0) room (bytes ++ q) ≡ ended (Some body) q
body_fits bytes body q room h fits =
    let few = h.few in
    let tail = h.last ++ (h.trailers ++ (13 ∷ 10 ∷ q)) in
    ap (λ (z : List ℕ). trace (Size 0 0) room (z ++ q)) h.bytes_are ∙ ap (trace (Size 0 0) room) (tail_bytes h.chunks h.last h.trailers q)
    ∙ (read_chunks room tail h.are_chunks).0 fits
    ∙ ap (carry body) (last_chunk h.last h.trailers q (room - length body) h.is_last h.are_trailers (omega arith))
    ∙ ap (λ (z : List ℕ). ended (Some z) q) (append-nil body)

-- a body for which there is none
pub body_over : (bytes body q : List ℕ) (room : ℕ) → IsChunkedBody bytes body → room < length body
    → (rest : List ℕ) × (trace (Size 0 0) room (bytes ++ q) ≡ ended None rest)
body_over bytes body q room h over =
    let tail = h.last ++ (h.trailers ++ (13 ∷ 10 ∷ q)) in
    let past = (read_chunks room tail h.are_chunks).1 over in
    (past.0, ap (λ (z : List ℕ). trace (Size 0 0) room (z ++ q)) h.bytes_are ∙ ap (trace (Size 0 0) room) (tail_bytes h.chunks h.last h.trailers q) ∙ past.1)

-- a chunk that is too long
pub long_read : (most : ℕ) (b : List ℕ) → HasLongChunk most b → (rest : List ℕ) × (trace (Size 0 0) most b ≡ ended None rest)
long_read most b h =
    let over = h.long in
    let tail = h.line ++ h.rest in
    let read = read_chunks most tail h.are_chunks in
    elim (cases_lt most (length h.body)) [
      | inl before ↦ (let past = read.1 before in (past.0, ap (trace (Size 0 0) most) h.b_is ∙ past.1))
      | inr fits ↦ (
        h.rest,
        ap (trace (Size 0 0) most) h.b_is ∙ read.0 fits
            ∙ ap (carry h.body) (chunk_long h.line h.rest h.size (most - length h.body) h.is_line (omega arith)),
      )
    ]
