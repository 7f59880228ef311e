-- What is read of a chunked body is in its grammar.
use Rattle.std.proofs.Common.{◌≡◌, ◌∙◌, ℕ, zero, suc, ◌+◌, ◌-◌, ◌*◌, ◌^◌, ◌≤◌, ◌<◌, ◌==◌, true, false, ◌&&◌, not, cond, nat_lt, nat_le, List, [], ◌∷◌, ◌++◌, length, replicate, Option, Some, None, option_map, sym, ap, ap₂, subst, refl, arith, append_assoc, append-nil, length-append, inl, inr}
use Rattle.std.proofs.lemmas.Nat.{pow-add}
use Rattle.std.specs.List.{list_all}
use Rattle.std.specs.Char.{digit_value}
use Rattle.std.proofs.lemmas.Bool.{cases_lt}
use Rattle.std.proofs.lemmas.Bool.Decides.{nat_tests}
use Rattle.std.proofs.lemmas.List.{length-replicate}
use Rattle.httparse.specs.Ascii.{crlf_bytes}
use Rattle.http_frame.specs.Chunks.{is_hex, hex_number, is_line_byte, IsExtension, IsChunkLine, AreChunks, none, chunk, AreTrailers, no_trailers, trailer_line, IsChunkedBody}
use Rattle.http_frame.specs.Places.{wanted, line_step, size_step, extension_step, sized, data_step, text_step, step, data_at, Trace, ended, broke, open_at, carry, after_step, trace, IsPlace}
use Rattle.http_frame.proofs.ChunkLemmas.{stepped}
use Rattle.http_frame.specs.declared.chunk.Place.{Place}
use Rattle.http_frame.specs.declared.chunk.Place.TheVariants.{Size, Extension, LineEnd, Data, DataReturn, DataEnd, Trailers, Trailer, TrailerEnd, LastEnd}
use Rattle.http_frame.specs.declared.chunk.Step.{Step}
use Rattle.http_frame.specs.declared.chunk.Step.TheVariants.{Next, Broken, Long, Done}

-- what comes behind these bytes of the body
abbrev pub behind : List ℕ → Option (List ℕ) → Option (List ℕ)
behind front end = option_map (λ (z : List ℕ). front ++ z) end

behind-nil : (end : Option (List ℕ)) → behind [] end ≡ end
behind-nil None = refl
behind-nil (Some body) = refl

behind-append : (a b : List ℕ) (end : Option (List ℕ)) → behind a (behind b end) ≡ behind (a ++ b) end
behind-append a b None = refl
behind-append a b (Some body) = ap Some (sym (append_assoc a b body))

-- the bytes from a chunk line on, and the body in them: all that is left, or all up to the line of a chunk that is too long
pub data Rest : ℕ → List ℕ → Option (List ℕ) → Type 0 where
  last : {room : ℕ} {w : List ℕ} {end : Option (List ℕ)} (line ts : List ℕ) → IsChunkLine line 0 → AreTrailers ts → length ts ≤ 65536
      → w ≡ line ++ (ts ++ crlf_bytes) → end ≡ Some [] → Rest room w end
  over : {room : ℕ} {w : List ℕ} {end : Option (List ℕ)} (size : ℕ) → IsChunkLine w size → room < size → end ≡ None → Rest room w end
  more : {room : ℕ} {w : List ℕ} {end : Option (List ℕ)} (line piece tail : List ℕ) (later : Option (List ℕ)) → IsChunkLine line (length piece) → 0 < length piece
      → Rest (room - length piece) tail later → w ≡ line ++ (piece ++ (crlf_bytes ++ tail)) → end ≡ behind piece later → Rest room w end

-- the same behind a chunk line
pub data Behind (room size : ℕ) (w : List ℕ) (end : Option (List ℕ)) : Type 0 where
  to_trailers : size ≡ 0 → (ts : List ℕ) → AreTrailers ts → length ts ≤ 65536 → w ≡ ts ++ crlf_bytes → end ≡ Some [] → Behind room size w end
  to_long : room < size → w ≡ [] → end ≡ None → Behind room size w end
  to_piece : (piece tail : List ℕ) (later : Option (List ℕ)) → length piece ≡ size → 0 < size → Rest (room - size) tail later
      → w ≡ piece ++ (crlf_bytes ++ tail) → end ≡ behind piece later → Behind room size w end

line_then : (line w : List ℕ) (size room : ℕ) (end : Option (List ℕ)) → IsChunkLine line size → Behind room size w end → Rest room (line ++ w) end
line_then line w size room end h (to_trailers empty ts trailers few e f) =
    last line ts (subst (IsChunkLine line) empty h) trailers few (ap (λ (z : List ℕ). line ++ z) e) f
line_then line w size room end h (to_long above e f) =
    over size (subst (λ (z : List ℕ). IsChunkLine z size) (sym (ap (λ (z : List ℕ). line ++ z) e ∙ append-nil line)) h) above f
line_then line w size room end h (to_piece piece tail later is some rest e f) =
    more line piece tail later (subst (IsChunkLine line) (sym is) h) (omega arith) (subst (λ n. Rest (room - n) tail later) (sym is) rest)
    (ap (λ (z : List ℕ). line ++ z) e) f

-- the bytes that are left at each place, and the body in them
abbrev pub Left : Place → ℕ → List ℕ → Option (List ℕ) → Type 0
Left (Size digits size) room w end = (ds ext tail : List ℕ) × (list_all is_hex ds ≡ true) × (0 < digits + length ds) × (digits + length ds ≤ 16) × IsExtension ext
    × (w ≡ ds ++ (ext ++ (13 ∷ 10 ∷ tail))) × Behind room (hex_number size ds) tail end
Left (Extension count size) room w end = (text tail : List ℕ) × (list_all is_line_byte text ≡ true) × (count + length text ≤ 1024)
    × (w ≡ text ++ (13 ∷ 10 ∷ tail)) × Behind room size tail end
Left (LineEnd size) room w end = (tail : List ℕ) × (w ≡ 10 ∷ tail) × Behind room size tail end
Left (Data left) room w end = (piece tail : List ℕ) × (later : Option (List ℕ)) × (length piece ≡ left) × Rest room tail later
    × (w ≡ piece ++ (13 ∷ 10 ∷ tail)) × (end ≡ behind piece later)
Left DataReturn room w end = (tail : List ℕ) × (w ≡ 13 ∷ 10 ∷ tail) × Rest room tail end
Left DataEnd room w end = (tail : List ℕ) × (w ≡ 10 ∷ tail) × Rest room tail end
Left (Trailers taken) room w end = (ts : List ℕ) × AreTrailers ts × (taken + length ts ≤ 65536) × (w ≡ ts ++ (13 ∷ 10 ∷ [])) × (end ≡ Some [])
Left (Trailer taken) room w end = (text ts : List ℕ) × (list_all is_line_byte text ≡ true) × AreTrailers ts × (taken + length text + 2 + length ts ≤ 65536)
    × (w ≡ text ++ (13 ∷ 10 ∷ (ts ++ (13 ∷ 10 ∷ [])))) × (end ≡ Some [])
Left (TrailerEnd taken) room w end = (ts : List ℕ) × AreTrailers ts × (taken + 1 + length ts ≤ 65536) × (w ≡ 10 ∷ (ts ++ (13 ∷ 10 ∷ []))) × (end ≡ Some [])
Left LastEnd room w end = (w ≡ 10 ∷ []) × (end ≡ Some [])

-- what a step means for the bytes that are left
abbrev Leads : Place → ℕ → ℕ → Step → Type 0
Leads place room b (Next p r) = IsPlace p × ((w : List ℕ) (end : Option (List ℕ)) → Left p r w end → Left place room (b ∷ w) (behind (data_at place b) end))
Leads place room b Broken = Unit {0}
Leads place room b Long = Left place room (b ∷ []) None
Leads place room b Done = Left place room (b ∷ []) (Some [])

-- a step at a byte that is none of the body
quiet : (place : Place) (room b : ℕ) (p : Place) (r : ℕ) → data_at place b ≡ [] → IsPlace p
    → ((w : List ℕ) (end : Option (List ℕ)) → Left p r w end → Left place room (b ∷ w) end) → Leads place room b (Next p r)
quiet place room b p r empty is go =
    (is, λ w end h. subst (Left place room (b ∷ w)) (sym (ap (λ (z : List ℕ). behind z end) empty ∙ behind-nil end)) (go w end h))

eq_true : (m n : ℕ) → (m == n) ≡ true → m ≡ n
eq_true m n e = grind (arith, nat_tests)

lt_of : (m n : ℕ) → nat_lt m n ≡ true → m < n
lt_of m n e = grind (arith, nat_tests)

le_of : (m n : ℕ) → nat_le m n ≡ true → m ≤ n
le_of m n e = grind (arith, nat_tests)

positive : (n : ℕ) → (n == 0) ≡ false → 0 < n
positive n e = grind (arith, nat_tests)

line_byte : (b : ℕ) → (b == 13) ≡ false → (b == 10) ≡ false → is_line_byte b ≡ true
line_byte b e f = ap₂ (λ t u. not t && not u) e f

-- more digits keep the number small
pub digit_more : (digits size value : ℕ) → size < 2 ^ (4 * digits) → value < 16 → size * 16 + value < 2 ^ (4 * (digits + 1))
digit_more digits size value h k =
    let whole : 2 ^ (4 * (digits + 1)) ≡ 2 ^ (4 * digits) * 16 = ap (λ n. 2 ^ n) (omega arith) ∙ pow-add 2 (4 * digits) 4 in
    omega (arith, whole)

wanted_leads : (place : Place) (room byte b : ℕ) (p : Place) → data_at place b ≡ [] → IsPlace p
    → ((w : List ℕ) (end : Option (List ℕ)) → Left p room w end → Left place room (byte ∷ w) end) → Leads place room b (wanted byte b p room)
wanted_leads place room byte b p empty is go =
    elim (b == byte) as (λ t. (b == byte) ≡ t → Leads place room b (cond t (Next p room) Broken)) [
      | true ↦ λ e. quiet place room b p room empty is
          (λ w end h. subst (λ c. Left place room (c ∷ w) end) (sym (eq_true b byte e)) (go w end h))
      | false ↦ λ e. tt
    ] refl

line_leads : (digits size room b : ℕ) → 0 < digits → digits ≤ 16 → Leads (Size digits size) room b (line_step size room b)
line_leads digits size room b some few =
    elim (b == 59) as (λ t. (b == 59) ≡ t → Leads (Size digits size) room b (cond t (Next (Extension 0 size) room) (wanted 13 b (LineEnd size) room))) [
      | true ↦ λ e. quiet (Size digits size) room b (Extension 0 size) room refl (omega arith)
          (λ w end h. ([], b ∷ h.0, h.1, refl, omega arith, omega arith, (eq_true b 59 e, h.2, omega (arith, h.3)), ap (λ (z : List ℕ). b ∷ z) h.4, h.5))
      | false ↦ λ e. wanted_leads (Size digits size) room 13 b (LineEnd size) refl tt
          (λ w end h. ([], [], h.0, refl, omega arith, omega arith, tt, ap (λ (z : List ℕ). 13 ∷ z) h.1, h.2))
    ] refl

size_leads : (digits size room b : ℕ) → digits ≤ 16 → size < 2 ^ (4 * digits) → Leads (Size digits size) room b (step (Size digits size) room b)
size_leads digits size room b few small =
    let value = digit_value b in
    elim (is_hex b) as (λ t. is_hex b ≡ t → Leads (Size digits size) room b (size_step digits size room b (cond t (Some value) None))) [
      | true ↦ λ hex. elim (nat_lt digits 16) as (λ t. nat_lt digits 16 ≡ t
          → Leads (Size digits size) room b (cond t (Next (Size (digits + 1) (size * 16 + value)) room) Broken)) [
            | true ↦ λ e. quiet (Size digits size) room b (Size (digits + 1) (size * 16 + value)) room refl
                (omega (arith, lt_of digits 16 e), digit_more digits size value small (lt_of value 16 hex))
                (λ w end h. (b ∷ h.0, h.1, h.2, ap₂ (λ t u. t && u) hex h.3, omega arith, omega (arith, h.5), h.6, ap (λ (z : List ℕ). b ∷ z) h.7, h.8))
            | false ↦ λ e. tt
          ] refl
      | false ↦ λ hex. elim (nat_lt 0 digits) as (λ t. nat_lt 0 digits ≡ t → Leads (Size digits size) room b (cond t (line_step size room b) Broken)) [
        | true ↦ λ e. line_leads digits size room b (lt_of 0 digits e) few
        | false ↦ λ e. tt
      ] refl
    ] refl

extension_leads : (count size room b : ℕ) → count ≤ 1024 → Leads (Extension count size) room b (extension_step count size room b)
extension_leads count size room b few =
    elim (b == 13) as (λ t. (b == 13) ≡ t → Leads (Extension count size) room b
    (cond t (Next (LineEnd size) room) (cond (b == 10) Broken (cond (nat_lt count 1024) (Next (Extension (count + 1) size) room) Broken)))) [
      | true ↦ λ e. quiet (Extension count size) room b (LineEnd size) room refl tt
          (λ w end h. ([], h.0, refl, omega arith, ap₂ (λ c (z : List ℕ). c ∷ z) (eq_true b 13 e) h.1, h.2))
      | false ↦ λ e. elim (b == 10) as (λ t. (b == 10) ≡ t → Leads (Extension count size) room b
          (cond t Broken (cond (nat_lt count 1024) (Next (Extension (count + 1) size) room) Broken))) [
            | true ↦ λ f. tt
            | false ↦ λ f. elim (nat_lt count 1024) as (λ t. nat_lt count 1024 ≡ t → Leads (Extension count size) room b (cond t (Next (Extension (count + 1) size) room) Broken)) [
              | true ↦ λ g. quiet (Extension count size) room b (Extension (count + 1) size) room refl (omega (arith, lt_of count 1024 g))
                  (λ w end h. (b ∷ h.0, h.1, ap₂ (λ t u. t && u) (line_byte b e f) h.2, omega (arith, h.3), ap (λ (z : List ℕ). b ∷ z) h.4, h.5))
              | false ↦ λ g. tt
            ] refl
          ] refl
    ] refl

sized_leads : (size room b : ℕ) → b ≡ 10 → Leads (LineEnd size) room b (sized size room)
sized_leads size room b lf =
    elim (size == 0) as (λ t. (size == 0) ≡ t → Leads (LineEnd size) room b (cond t (Next (Trailers 0) room) (cond (nat_le size room) (Next (Data size) (room - size)) Long))) [
      | true ↦ λ e. quiet (LineEnd size) room b (Trailers 0) room refl (omega arith)
          (λ w end h. (w, ap (λ c. c ∷ w) lf, to_trailers (eq_true size 0 e) h.0 h.1 (omega (arith, h.2)) h.3 h.4))
      | false ↦ λ e. elim (nat_le size room) as (λ t. nat_le size room ≡ t → Leads (LineEnd size) room b (cond t (Next (Data size) (room - size)) Long)) [
        | true ↦ λ f. quiet (LineEnd size) room b (Data size) (room - size) refl (positive size e)
            (λ w end h. (w, ap (λ c. c ∷ w) lf, to_piece h.0 h.1 h.2 h.3 (positive size e) h.4 h.5 h.6))
        | false ↦ λ f. ([], ap (λ c. c ∷ []) lf, to_long (above size room f) refl refl)
      ] refl
    ] refl
  where
    above : (m n : ℕ) → nat_le m n ≡ false → n < m
    above m n e = grind (arith, nat_tests)

data_leads : (left room b : ℕ) → 0 < left → Leads (Data left) room b (data_step left room)
data_leads left room b some =
    elim (left == 0) as (λ t. (left == 0) ≡ t → Leads (Data left) room b (cond t Broken (cond (left == 1) (Next DataReturn room) (Next (Data (left - 1)) room)))) [
      | true ↦ λ e. tt
      | false ↦ λ e. elim (left == 1) as (λ t. (left == 1) ≡ t → Leads (Data left) room b (cond t (Next DataReturn room) (Next (Data (left - 1)) room))) [
        | true ↦ λ f. (tt, λ w end h. (b ∷ [], h.0, end, sym (eq_true left 1 f), h.2, ap (λ (z : List ℕ). b ∷ z) h.1, refl))
        | false ↦ λ f. (
          past left some f,
          λ w end h. (
            b ∷ h.0,
            h.1,
            h.2,
            ap suc h.3 ∙ one_more left some,
            h.4,
            ap (λ (z : List ℕ). b ∷ z) h.5,
            ap (behind (b ∷ [])) h.6 ∙ behind-append (b ∷ []) h.0 h.2,
          ),
        )
      ] refl
    ] refl
  where
    past : (n : ℕ) → 0 < n → (n == 1) ≡ false → 0 < n - 1
    past n some e = grind (arith, nat_tests)

    one_more : (n : ℕ) → 0 < n → suc (n - 1) ≡ n
    one_more n some = omega arith

text_leads : (place : Place) (taken room b : ℕ) → data_at place b ≡ [] → (b == 13) ≡ false
    → ((w : List ℕ) (end : Option (List ℕ)) → Left (Trailer (taken + 1)) room w end → is_line_byte b ≡ true → Left place room (b ∷ w) end)
    → Leads place room b (text_step taken room b)
text_leads place taken room b empty cr go =
    elim (b == 10) as (λ t. (b == 10) ≡ t → Leads place room b (cond t Broken (cond (nat_le (taken + 3) 65536) (Next (Trailer (taken + 1)) room) Broken))) [
      | true ↦ λ e. tt
      | false ↦ λ e. elim (nat_le (taken + 3) 65536) as (λ t. nat_le (taken + 3) 65536 ≡ t → Leads place room b (cond t (Next (Trailer (taken + 1)) room) Broken)) [
        | true ↦ λ f. quiet place room b (Trailer (taken + 1)) room empty (omega (arith, le_of (taken + 3) 65536 f))
            (λ w end h. go w end h (line_byte b cr e))
        | false ↦ λ f. tt
      ] refl
    ] refl

trailers_lead : (taken room b : ℕ) → taken ≤ 65536 → Leads (Trailers taken) room b (step (Trailers taken) room b)
trailers_lead taken room b few =
    elim (b == 13) as (λ t. (b == 13) ≡ t → Leads (Trailers taken) room b (cond t (Next LastEnd room) (text_step taken room b))) [
      | true ↦ λ e. quiet (Trailers taken) room b LastEnd room refl tt
          (λ w end h. ([], no_trailers refl, omega arith, ap₂ (λ c (z : List ℕ). c ∷ z) (eq_true b 13 e) h.0, h.1))
      | false ↦ λ e. text_leads (Trailers taken) taken room b refl e
          (λ w end h byte. (
            b ∷ (h.0 ++ (13 ∷ 10 ∷ h.1)),
            trailer_line (b ∷ h.0) h.1 (omega arith) (ap₂ (λ t u. t && u) byte h.2) h.3 refl,
            omega (arith, h.4, length-append h.0 (13 ∷ 10 ∷ h.1)),
            ap (λ (z : List ℕ). b ∷ z) (h.5 ∙ sym (append_assoc h.0 (13 ∷ 10 ∷ h.1) (13 ∷ 10 ∷ []))),
            h.6,
          ))
    ] refl

trailer_leads : (taken room b : ℕ) → taken + 2 ≤ 65536 → Leads (Trailer taken) room b (step (Trailer taken) room b)
trailer_leads taken room b few =
    elim (b == 13) as (λ t. (b == 13) ≡ t → Leads (Trailer taken) room b (cond t (Next (TrailerEnd (taken + 1)) room) (text_step taken room b))) [
      | true ↦ λ e. quiet (Trailer taken) room b (TrailerEnd (taken + 1)) room refl (omega arith)
          (λ w end h. ([], h.0, refl, h.1, omega (arith, h.2), ap₂ (λ c (z : List ℕ). c ∷ z) (eq_true b 13 e) h.3, h.4))
      | false ↦ λ e. text_leads (Trailer taken) taken room b refl e
          (λ w end h byte. (b ∷ h.0, h.1, ap₂ (λ t u. t && u) byte h.2, h.3, omega (arith, h.4), ap (λ (z : List ℕ). b ∷ z) h.5, h.6))
    ] refl

-- at the begin of a chunk line
pub start : (w : List ℕ) (room : ℕ) (end : Option (List ℕ)) → Left (Size 0 0) room w end → Rest room w end
start w room end h =
    let line = h.0 ++ (h.1 ++ crlf_bytes) in
    let is : IsChunkLine line (hex_number 0 h.0) = record {
      digits = h.0;
      extension = h.1;
      some = omega (arith, h.4);
      few = omega (arith, h.5);
      are_digits = h.3;
      size_is = refl;
      is_extension = h.6;
      line_is = refl;
    } in
    let bytes : w ≡ line ++ h.2 =
    h.7 ∙ ap (λ (z : List ℕ). h.0 ++ z) (sym (append_assoc h.1 crlf_bytes h.2)) ∙ sym (append_assoc h.0 (h.1 ++ crlf_bytes) h.2) in
    subst (λ (z : List ℕ). Rest room z end) (sym bytes) (line_then line h.2 (hex_number 0 h.0) room end is h.8)

-- each step keeps what is left
leads : (place : Place) (room b : ℕ) → IsPlace place → Leads place room b (step place room b)
leads (Size digits size) room b is = size_leads digits size room b is.0 is.1
leads (Extension count size) room b is = extension_leads count size room b is
leads (LineEnd size) room b is =
    elim (b == 10) as (λ t. (b == 10) ≡ t → Leads (LineEnd size) room b (cond t (sized size room) Broken)) [
      | true ↦ λ e. sized_leads size room b (eq_true b 10 e)
      | false ↦ λ e. tt
    ] refl
leads (Data left) room b is = data_leads left room b is
leads DataReturn room b is = wanted_leads DataReturn room 13 b DataEnd refl tt (λ w end h. (h.0, ap (λ (z : List ℕ). 13 ∷ z) h.1, h.2))
leads DataEnd room b is = wanted_leads DataEnd room 10 b (Size 0 0) refl (omega arith, omega arith) (λ w end h. (w, refl, start w room end h))
leads (Trailers taken) room b is = trailers_lead taken room b is
leads (Trailer taken) room b is = trailer_leads taken room b is
leads (TrailerEnd taken) room b is = wanted_leads (TrailerEnd taken) room 10 b (Trailers (taken + 1)) refl is
    (λ w end h. (h.0, h.1, h.2, ap (λ (z : List ℕ). 10 ∷ z) h.3, h.4))
leads LastEnd room b is =
    elim (b == 10) as (λ t. (b == 10) ≡ t → Leads LastEnd room b (cond t Done Broken)) [
      | true ↦ λ e. (ap (λ c. c ∷ []) (eq_true b 10 e), refl)
      | false ↦ λ e. tt
    ] refl

-- what a trace means for the bytes that were read
abbrev pub Traced : Place → ℕ → List ℕ → Trace → Type 0
Traced place room q (ended end rest) = (w : List ℕ) × Left place room w end × (q ≡ w ++ rest)
Traced place room q (open_at body p r) = IsPlace p × ((w : List ℕ) (end : Option (List ℕ)) → Left p r w end → Left place room (q ++ w) (behind body end))
Traced place room q broke = (good : List ℕ) × (bad : ℕ) × (rest : List ℕ) × (q ≡ good ++ bad ∷ rest)
    × (body : List ℕ) × (p : Place) × (r : ℕ) × (trace place room good ≡ open_at body p r) × (trace place room (good ++ bad ∷ []) ≡ broke)

-- one byte before what was traced
traced_more : (place : Place) (room b : ℕ) (q : List ℕ) (p : Place) (r : ℕ) (t : Trace) → step place room b ≡ Next p r
    → ((w : List ℕ) (end : Option (List ℕ)) → Left p r w end → Left place room (b ∷ w) (behind (data_at place b) end))
    → Traced p r q t → Traced place room (b ∷ q) (carry (data_at place b) t)
traced_more place room b q p r (ended (Some body) rest) e go h = (b ∷ h.0, go h.0 (Some body) h.1, ap (λ (z : List ℕ). b ∷ z) h.2)
traced_more place room b q p r (ended None rest) e go h = (b ∷ h.0, go h.0 None h.1, ap (λ (z : List ℕ). b ∷ z) h.2)
traced_more place room b q p r (open_at body p' r') e go h =
    (h.0, λ w end left. subst (Left place room (b ∷ (q ++ w))) (behind-append (data_at place b) body end) (go (q ++ w) (behind body end) (h.1 w end left)))
traced_more place room b q p r broke e go h = (
  b ∷ h.0,
  h.1,
  h.2,
  ap (λ (z : List ℕ). b ∷ z) h.3,
  data_at place b ++ h.4,
  h.5,
  h.6,
  stepped place room b h.0 p r e ∙ ap (carry (data_at place b)) h.7,
  stepped place room b (h.0 ++ h.1 ∷ []) p r e ∙ ap (carry (data_at place b)) h.8,
)

pub traced : (q : List ℕ) (place : Place) (room : ℕ) → IsPlace place → Traced place room q (trace place room q)
traced [] place room is = (is, λ w end h. subst (Left place room w) (sym (behind-nil end)) h)
traced (b ∷ q) place room is =
    elim (step place room b) as (λ s. step place room b ≡ s → Leads place room b s → Traced place room (b ∷ q) (after_step s (data_at place b) q (λ p r. trace p r q))) [
      | Next p r ↦ λ e h. traced_more place room b q p r (trace p r q) e h.1 (traced q p r h.0)
      | Broken ↦ λ e h. ([], b, q, refl, [], place, room, refl, ap (λ s. after_step s (data_at place b) [] (λ p r. trace p r [])) e)
      | Long ↦ λ e h. (b ∷ [], h, refl)
      | Done ↦ λ e h. (b ∷ [], h, refl)
    ] refl (leads place room b is)

-- something may follow at each place

last_line : IsChunkLine (48 ∷ 13 ∷ 10 ∷ []) 0
last_line = record {
  digits = 48 ∷ [];
  extension = [];
  some = omega arith;
  few = omega arith;
  are_digits = refl;
  size_is = refl;
  is_extension = tt;
  line_is = refl;
}

some_rest : (room : ℕ) → Rest room (48 ∷ 13 ∷ 10 ∷ 13 ∷ 10 ∷ []) (Some [])
some_rest room = last (48 ∷ 13 ∷ 10 ∷ []) [] last_line (no_trailers refl) (omega arith) refl refl

-- bytes of a chunk of this size, and the end of a body behind it
filler : ℕ → List ℕ
filler size = replicate size 0 ++ (crlf_bytes ++ (48 ∷ 13 ∷ 10 ∷ 13 ∷ 10 ∷ []))

some_piece : (size room : ℕ) → 0 < size → Behind room size (filler size) (Some (replicate size 0 ++ []))
unfolding filler
some_piece size room some =
    to_piece (replicate size 0) (48 ∷ 13 ∷ 10 ∷ 13 ∷ 10 ∷ []) (Some []) (length-replicate size 0) some (some_rest (room - size)) refl refl

some_behind : (size room : ℕ) → (w body : List ℕ) × Behind room size w (Some body)
some_behind size room =
    elim (cases_lt 0 size) [
      | inl some ↦ (filler size, replicate size 0 ++ [], some_piece size room some)
      | inr empty ↦ (13 ∷ 10 ∷ [], [], to_trailers (omega arith) [] (no_trailers refl) (omega arith) refl refl)
    ]

-- bytes that may be left at a place
abbrev pub Some_left : Place → ℕ → Type 0
Some_left place room = (b : ℕ) × (w body : List ℕ) × Left place room (b ∷ w) (Some body)

pub some_left : (place : Place) (room : ℕ) → IsPlace place → Some_left place room
some_left (Size zero size) room is =
    let rest = some_behind (hex_number size (48 ∷ [])) room in
    (48, 13 ∷ 10 ∷ rest.0, rest.1, (48 ∷ [], [], rest.0, refl, omega arith, omega arith, tt, refl, rest.2))
some_left (Size (suc digits) size) room is =
    let rest = some_behind size room in
    let few = is.0 in
    (13, 10 ∷ rest.0, rest.1, ([], [], rest.0, refl, omega arith, omega arith, tt, refl, rest.2))
some_left (Extension count size) room is =
    let rest = some_behind size room in (13, 10 ∷ rest.0, rest.1, ([], rest.0, refl, omega arith, refl, rest.2))
some_left (LineEnd size) room is = let rest = some_behind size room in (10, rest.0, rest.1, (rest.0, refl, rest.2))
some_left (Data zero) room is = absurd (omega arith)
some_left (Data (suc left)) room is = (
  0,
  replicate left 0 ++ (13 ∷ 10 ∷ 48 ∷ 13 ∷ 10 ∷ 13 ∷ 10 ∷ []),
  (0 ∷ replicate left 0) ++ [],
  (0 ∷ replicate left 0, 48 ∷ 13 ∷ 10 ∷ 13 ∷ 10 ∷ [], Some [], ap suc (length-replicate left 0), some_rest room, refl, refl),
)
some_left DataReturn room is = (13, 10 ∷ 48 ∷ 13 ∷ 10 ∷ 13 ∷ 10 ∷ [], [], (48 ∷ 13 ∷ 10 ∷ 13 ∷ 10 ∷ [], refl, some_rest room))
some_left DataEnd room is = (10, 48 ∷ 13 ∷ 10 ∷ 13 ∷ 10 ∷ [], [], (48 ∷ 13 ∷ 10 ∷ 13 ∷ 10 ∷ [], refl, some_rest room))
some_left (Trailers taken) room is = (13, 10 ∷ [], [], ([], no_trailers refl, omega arith, refl, refl))
some_left (Trailer taken) room is = (13, 10 ∷ 13 ∷ 10 ∷ [], [], ([], [], refl, no_trailers refl, omega arith, refl, refl))
some_left (TrailerEnd taken) room is = (10, 13 ∷ 10 ∷ [], [], ([], no_trailers refl, omega arith, refl, refl))
some_left LastEnd room is = (10, [], [], (refl, refl))

-- from what is left to the grammar

option_behind : (front body : List ℕ) (later : Option (List ℕ)) → Some body ≡ behind front later → (z : List ℕ) × (later ≡ Some z) × (body ≡ front ++ z)
option_behind front body None e = cc
option_behind front body (Some z) e = (z, refl, cc)

none_behind : (front : List ℕ) (later : Option (List ℕ)) → None ≡ behind front later → later ≡ None
none_behind front None e = refl
none_behind front (Some z) e = cc

pub rest_body : {room : ℕ} {w : List ℕ} {end : Option (List ℕ)} (body : List ℕ) → Rest room w end → end ≡ Some body → IsChunkedBody w body
rest_body {w = w} body (last line ts h trailers few e f) g = record {
  chunks = [];
  last = line;
  trailers = ts;
  are_chunks = none refl cc;
  is_last = h;
  are_trailers = trailers;
  few = few;
  bytes_are = e;
}
rest_body body (over size h above f) g = cc
rest_body {w = w} body (more line piece tail later h some rest e f) g =
    let split = option_behind piece body later (sym g ∙ f) in
    let go = rest_body split.0 rest split.1 in
    let back = go.last ++ (go.trailers ++ crlf_bytes) in
    let bytes : w ≡ (line ++ (piece ++ (crlf_bytes ++ go.chunks))) ++ back =
    e ∙ ap (λ (z : List ℕ). line ++ (piece ++ (crlf_bytes ++ z))) go.bytes_are
    ∙ ap (λ (z : List ℕ). line ++ (piece ++ z)) (sym (append_assoc crlf_bytes go.chunks back))
    ∙ ap (λ (z : List ℕ). line ++ z) (sym (append_assoc piece (crlf_bytes ++ go.chunks) back))
    ∙ sym (append_assoc line (piece ++ (crlf_bytes ++ go.chunks)) back) in
    record {
      chunks = line ++ (piece ++ (crlf_bytes ++ go.chunks));
      last = go.last;
      trailers = go.trailers;
      are_chunks = chunk line piece go.chunks split.0 h some go.are_chunks refl split.2;
      is_last = go.is_last;
      are_trailers = go.are_trailers;
      few = go.few;
      bytes_are = bytes;
    }

-- chunks, and then the line of one for which there is no room
abbrev pub LongAt : ℕ → List ℕ → Type 0
LongAt room w = (chunks body line : List ℕ) × (size : ℕ) × AreChunks chunks body × IsChunkLine line size × (room < length body + size) × (w ≡ chunks ++ line)

pub rest_long : {room : ℕ} {w : List ℕ} {end : Option (List ℕ)} → Rest room w end → end ≡ None → LongAt room w
rest_long (last line ts h trailers few e f) g = cc
rest_long {w = w} (over size h above f) g = ([], [], w, size, none refl refl, h, omega arith, refl)
rest_long {room} {w} (more line piece tail later h some rest e f) g =
    let go = rest_long rest (none_behind piece later (sym g ∙ f)) in
    let long = go.6 in (
      line ++ (piece ++ (crlf_bytes ++ go.0)),
      piece ++ go.1,
      go.2,
      go.3,
      chunk line piece go.0 go.1 h some go.4 refl refl,
      go.5,
      omega (arith, length-append piece go.1),
      e ∙ ap (λ (z : List ℕ). line ++ (piece ++ (crlf_bytes ++ z))) go.7
          ∙ ap (λ (z : List ℕ). line ++ (piece ++ z)) (sym (append_assoc crlf_bytes go.0 go.2))
          ∙ ap (λ (z : List ℕ). line ++ z) (sym (append_assoc piece (crlf_bytes ++ go.0) go.2))
          ∙ sym (append_assoc line (piece ++ (crlf_bytes ++ go.0)) go.2),
    )

-- the line of a chunk that is too long begins a body all the same
pub rest_begins : {room : ℕ} {w : List ℕ} {end : Option (List ℕ)} → Rest room w end → end ≡ None → (tail body : List ℕ) × Rest room (w ++ tail) (Some body)
rest_begins (last line ts h trailers few e f) g = cc
rest_begins {room} {w} (over size h above f) g =
    (filler size, replicate size 0 ++ [], line_then w (filler size) size room (Some (replicate size 0 ++ [])) h (some_piece size room (omega arith)))
rest_begins {room} {w} (more line piece tail later h some rest e f) g =
    let go = rest_begins rest (none_behind piece later (sym g ∙ f)) in (
      go.0,
      piece ++ go.1,
      more line piece (tail ++ go.0) (Some go.1) h some go.2
          (ap (λ (z : List ℕ). z ++ go.0) e ∙ append_assoc line (piece ++ (crlf_bytes ++ tail)) go.0
          ∙ ap (λ (z : List ℕ). line ++ z) (append_assoc piece (crlf_bytes ++ tail) go.0)) refl,
    )
