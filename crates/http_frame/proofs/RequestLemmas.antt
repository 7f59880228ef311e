-- What is written of a request is read as that request.
use Rattle.std.proofs.Common.{◌≡◌, ℕ, zero, suc, ◌+◌, ◌≤◌, ◌<◌, List, [], ◌∷◌, ◌++◌, Bool, true, false, cond, nat_le, length, map, reverse, codes, decimal, encode_utf8_all, Ok, Err, sym, ap, ap₂, ◌∙◌, subst, refl, arith, append_assoc, append-nil, IsTrue}
use Rattle.std.specs.Fmt.{digits}
use Rattle.std.specs.List.{flat_map, All}
use Rattle.std.proofs.lemmas.Bool.Decides.{nat_tests}
use Rattle.std.proofs.lemmas.List.{length-map, reverse-append, reverse-reverse}
use Rattle.std.proofs.lemmas.List.Elements.{All-cons, All-nil, All-head, All-tail}
use Rattle.httparse.specs.Ascii.{crlf_bytes}
use Rattle.httparse.specs.Grammar.{crlf, print_end, print_version, print_section, Field, field_value, print_field, IsField, RequestHead, IsRequestHead, print_request, is_ows, skip_ows, trim_ows, is_value_byte}
use Rattle.httparse.specs.Spans.{name_and_value}
use Rattle.httparse.proofs.GrammarLemmas.{cons-append}
use Rattle.httparse.proofs.TrimLemmas.{AllPass-trim_ows, trim_ows_space}
use Rattle.http_frame.specs.Bodies.{IsBody}
use Rattle.http_frame.specs.Fields.{closes, values_of}
use Rattle.http_frame.specs.Frames.{IsRequest, request, IsFrame}
use Rattle.http_frame.specs.Framing.{lacks_host, decimal_value, is_numeral, length_value, length_of, framed_by, framing_of, framing, expects}
use Rattle.http_frame.specs.Heads.{Shows}
use Rattle.http_frame.specs.Messages.{SeenRequest}
use Rattle.http_frame.specs.RequestWire.{request_line, head_bytes, request_wire, IsLengthSaid, IsSpelled, KeepsLimits}
use Rattle.http_frame.specs.Wire.{field_line, field_lines}
use Rattle.http_frame.specs.declared.fault.FrameFault.{FrameFault}
use Rattle.http_frame.specs.declared.fault.FrameFault.TheVariants.{BadHost, BadBody, BodyTooLong}
use Rattle.http_frame.specs.declared.framing.Framing.{Framing}
use Rattle.http_frame.specs.declared.framing.Framing.TheVariants.{Length, Chunked}
use Rattle.http_frame.specs.declared.message.Head.{Head}

-- a trimmed value has no white space at its ends

skip_twice : (xs : List ℕ) → skip_ows (skip_ows xs) ≡ skip_ows xs
skip_twice [] = refl
skip_twice (x ∷ xs) =
    elim (is_ows x) as (λ t. is_ows x ≡ t → skip_ows (cond t (skip_ows xs) (x ∷ xs)) ≡ cond t (skip_ows xs) (x ∷ xs)) [
      | true ↦ λ e. skip_twice xs
      | false ↦ λ e. ap (λ t. cond t (skip_ows xs) (x ∷ xs)) e
    ] refl

-- a last byte that is no white space stays
skip_keeps : (xs : List ℕ) (c : ℕ) → is_ows c ≡ false → (zs : List ℕ) × (skip_ows (xs ++ c ∷ []) ≡ zs ++ c ∷ [])
skip_keeps [] c e = ([], ap (λ t. cond t [] (c ∷ [])) e)
skip_keeps (x ∷ xs) c e =
    elim (is_ows x) as (λ t. (zs : List ℕ) × (cond t (skip_ows (xs ++ c ∷ [])) (x ∷ (xs ++ c ∷ [])) ≡ zs ++ c ∷ [])) [
      | true ↦ skip_keeps xs c e
      | false ↦ (x ∷ xs, refl)
    ]

-- bytes that begin with none keep that, where those at the end are dropped
front_stays : (ys : List ℕ) → skip_ows ys ≡ ys → skip_ows (reverse (skip_ows (reverse ys))) ≡ reverse (skip_ows (reverse ys))
front_stays [] e = refl
front_stays (y ∷ ys) e =
    elim (is_ows y) as (λ t. is_ows y ≡ t → skip_ows (reverse (skip_ows (reverse (y ∷ ys)))) ≡ reverse (skip_ows (reverse (y ∷ ys)))) [
      | true ↦ λ h. absurd (no_blank ys y (sym e ∙ ap (λ t. cond t (skip_ows ys) (y ∷ ys)) h))
      | false ↦ λ h. (let kept = skip_keeps (reverse ys) y h in
          let back : reverse (skip_ows (reverse (y ∷ ys))) ≡ y ∷ reverse kept.0 =
          ap (λ (z : List ℕ). reverse (skip_ows z)) (reverse-append (y ∷ []) ys) ∙ ap reverse kept.1 ∙ reverse-append kept.0 (y ∷ []) in
          ap skip_ows back ∙ ap (λ t. cond t (skip_ows (reverse kept.0)) (y ∷ reverse kept.0)) h ∙ sym back)
    ] refl
  where
    shorter : (xs : List ℕ) → length (skip_ows xs) ≤ length xs
    shorter [] = omega arith
    shorter (x ∷ xs) =
        elim (is_ows x) as (λ t. length (cond t (skip_ows xs) (x ∷ xs)) ≤ length (x ∷ xs)) [
          | true ↦ (let less = shorter xs in omega arith)
          | false ↦ omega arith
        ]

    no_blank : (xs : List ℕ) (x : ℕ) → x ∷ xs ≡ skip_ows xs → ⊥
    no_blank xs x e = let size = ap length e in let less = shorter xs in omega arith

-- a trimmed value is the value of a field that is written with one space
value_again : (raw : List ℕ) → trim_ows (32 ∷ trim_ows raw) ≡ trim_ows raw
unfolding trim_ows
value_again raw =
    let inner = skip_ows (reverse (skip_ows raw)) in
    let front = front_stays (skip_ows raw) (skip_twice raw) in
    let back : skip_ows (reverse (reverse inner)) ≡ reverse (reverse inner) =
    ap skip_ows (reverse-reverse inner) ∙ skip_twice (reverse (skip_ows raw)) ∙ sym (reverse-reverse inner) in
    trim_ows_space (reverse inner) front back

-- the head as it is written

plain : Field → Field
plain f = record { name = f.name; raw = 32 ∷ field_value f; end = crlf }

written : RequestHead → RequestHead
written h = record { blank = []; method = h.method; target = h.target; minor = h.minor; line_end = crlf; fields = map plain h.fields; last = crlf }

plain_values : (fs : List Field) → map name_and_value (map plain fs) ≡ map name_and_value fs
unfolding plain
plain_values [] = refl
plain_values (f ∷ fs) = ap₂ (λ (v : List ℕ) (rest : List (List ℕ × List ℕ)). (f.name, v) ∷ rest) (value_again f.raw) (plain_values fs)

plain_lines : (fs : List Field) → flat_map print_field (map plain fs) ≡ field_lines (map name_and_value fs)
unfolding plain
plain_lines [] = refl
plain_lines (f ∷ fs) =
    ap₂ (λ (a b : List ℕ). a ++ b) (ap (λ (z : List ℕ). z ++ crlf_bytes) (sym (append_assoc f.name (58 ∷ 32 ∷ []) (field_value f)))) (plain_lines fs)

plain_fields : (fs : List Field) → All IsField fs → All IsField (map plain fs)
unfolding plain
plain_fields [] p = All-nil IsField
plain_fields (f ∷ fs) p =
    let is = All-head IsField f fs p in
    let raw = All-cons (λ b. IsTrue (is_value_byte b)) 32 (field_value f) refl (AllPass-trim_ows is_value_byte f.raw is.raw) in
    All-cons IsField (plain f) (map plain fs) (record { name = is.name; raw = raw }) (plain_fields fs (All-tail IsField f fs p))

digit_of : (n : ℕ) → n ≤ 1 → decimal n ≡ (48 + n) ∷ []
unfolding digits
digit_of zero h = refl
digit_of (suc zero) h = refl
digit_of (suc (suc n)) h = absurd (omega arith)

is_written : (h : RequestHead) → IsRequestHead h → IsRequestHead (written h)
unfolding written
is_written h p = record { method = p.method; target = p.target; target_text = p.target_text; minor = p.minor; fields = plain_fields h.fields p.fields }

regroup : (m t d v fs : List ℕ) → ((((m ++ 32 ∷ []) ++ t) ++ 32 ∷ v) ++ d ++ crlf_bytes) ++ fs ++ crlf_bytes
    ≡ (((([] ++ m) ++ 32 ∷ t) ++ 32 ∷ (v ++ d)) ++ crlf_bytes) ++ (fs ++ crlf_bytes)
regroup m t d v fs = simp (append_assoc, cons-append)

written_bytes : (h : RequestHead) (head : Head) → IsRequestHead h → Shows h head → head_bytes head ≡ print_request (written h)
unfolding written print_request
written_bytes h head p s =
    let line : request_line head ≡ (((h.method ++ 32 ∷ []) ++ h.target) ++ 32 ∷ codes "HTTP/1.") ++ ((48 + h.minor) ∷ []) ++ crlf_bytes =
    ap₂ (λ (m t : List ℕ). m ++ codes " " ++ t ++ codes " HTTP/1." ++ decimal head.minor ++ crlf_bytes) s.method s.target
    ∙ ap (λ (d : List ℕ). (((h.method ++ 32 ∷ []) ++ h.target) ++ 32 ∷ codes "HTTP/1.") ++ d ++ crlf_bytes) (ap decimal s.minor ∙ digit_of h.minor p.minor) in
    let lines : field_lines head.fields ≡ flat_map print_field (map plain h.fields) = ap field_lines s.fields ∙ sym (plain_lines h.fields) in
    ap₂ (λ (a b : List ℕ). a ++ b ++ crlf_bytes) line lines
    ∙ regroup h.method h.target ((48 + h.minor) ∷ []) (codes "HTTP/1.") (flat_map print_field (map plain h.fields))

shows_written : (h : RequestHead) (head : Head) → Shows h head → Shows (written h) head
unfolding written
shows_written h head s =
    let same = sym (plain_values h.fields) in
    record {
      method = s.method;
      target = s.target;
      minor = s.minor;
      fields = s.fields ∙ same;
      expects = s.expects ∙ ap (expects h.minor) same;
      closes = s.closes ∙ ap (closes h.minor) same;
    }

written_count : (h : RequestHead) (head : Head) → Shows h head → length (written h).fields ≡ length head.fields
unfolding written
written_count h head s = length-map h.fields plain ∙ sym (length-map h.fields name_and_value) ∙ sym (ap length s.fields)

-- the length that it says

within : (n : ℕ) → n ≤ 16777216 → nat_le n 16777216 ≡ true
within n h = grind (arith, nat_tests)

said : (values : List (List ℕ)) (n : ℕ) → IsLengthSaid values n → n ≤ 16777216 → length_of 16777216 values ≡ Ok (Length n)
said [] n e h = ap (λ m. Ok (Length m)) (sym e)
said (v ∷ []) n e h =
    let small = ap (λ m. nat_le m 16777216) e.1 ∙ within n h in
    ap₂ (λ t u. cond t (cond u (Ok (Length (decimal_value v))) (Err BodyTooLong)) (Err BadBody)) e.0 small ∙ ap (λ m. Ok (Length m)) e.1
said (v ∷ w ∷ vs) n e h = absurd e

spelled_framing : (r : SeenRequest) → IsSpelled r → length r.body ≤ 16777216 → framing r.head ≡ Ok (Length (length r.body))
spelled_framing r x few =
    let lengths = values_of (codes "content-length") r.head.fields in
    ap (λ t. cond t (Err BadHost) (framed_by 16777216 r.head.minor (values_of (codes "transfer-encoding") r.head.fields) lengths)) x.host
    ∙ ap (λ (cs : List (List ℕ)). framed_by 16777216 r.head.minor cs lengths) x.no_coding
    ∙ said lengths (length r.body) x.length_is few

pub written_is_frame : (r : SeenRequest) → IsSpelled r → KeepsLimits r → IsFrame (request_wire r) (request r [])
unfolding request_wire
written_is_frame r x k =
    let h = written x.head in
    let bytes = written_bytes x.head r.head x.is_head x.shows in
    let size = ap length bytes in
    let count = written_count x.head r.head x.shows in
    let short = k.short in
    let few = k.few in
    record {
      after = r.body;
      begins = record {
        head = h;
        reads = record {
          reads = (is_written x.head x.is_head, ap (λ (z : List ℕ). z ++ r.body) bytes);
          short = omega arith;
          few = omega arith;
        };
        shows = shows_written x.head r.head x.shows;
      };
      framed_as = Length (length r.body);
      framed = spelled_framing r x k.body;
      body = (refl, sym (append-nil r.body));
    }

-- a request that was read is spelled

said_back : (values : List (List ℕ)) (f : Framing) (b body rest : List ℕ) → length_of 16777216 values ≡ Ok f → IsBody f b body rest → IsLengthSaid values (length body)
said_back [] (Length n) b body rest e x = let size = x.0 in cc
said_back [] Chunked b body rest e x = cc
said_back (v ∷ []) f b body rest e x = by_tests (is_numeral v) refl (nat_le (decimal_value v) 16777216) f e x
  where
    by_tests : (t : Bool) → is_numeral v ≡ t → (u : Bool) (f : Framing) → cond t (cond u (Ok (Length (decimal_value v))) (Err BodyTooLong)) (Err BadBody) ≡ Ok f
        → IsBody f b body rest → (is_numeral v ≡ true) × (decimal_value v ≡ length body)
    by_tests true h true (Length n) e x = let size = x.0 in (h, cc)
    by_tests true h true Chunked e x = cc
    by_tests true h false f e x = cc
    by_tests false h u f e x = cc
said_back (v ∷ w ∷ vs) f b body rest e x = cc

host_and_length : (t : Bool) (minor : ℕ) (codings lengths : List (List ℕ)) (f : Framing) → codings ≡ []
    → cond t (Err BadHost) (framed_by 16777216 minor codings lengths) ≡ Ok f → (t ≡ false) × (length_of 16777216 lengths ≡ Ok f)
host_and_length true minor codings lengths f none e = cc
host_and_length false minor codings lengths f none e =
    (refl, sym (ap (λ (cs : List (List ℕ)). framed_by 16777216 minor cs lengths) none) ∙ e)

pub read_is_spelled : (b : List ℕ) (r : SeenRequest) (rest : List ℕ) → IsRequest b r rest → values_of (codes "transfer-encoding") r.head.fields ≡ []
    → IsSpelled r
read_is_spelled b r rest x none =
    let lengths = values_of (codes "content-length") r.head.fields in
    let parts = host_and_length (lacks_host r.head.minor r.head.fields) r.head.minor (values_of (codes "transfer-encoding") r.head.fields) lengths x.framed_as none x.framed in
    record {
      head = x.begins.head;
      is_head = x.begins.reads.reads.0;
      shows = x.begins.shows;
      host = parts.0;
      no_coding = none;
      length_is = said_back lengths x.framed_as x.after r.body rest parts.1 x.body;
    }
