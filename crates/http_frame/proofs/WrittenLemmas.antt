-- What is written of a response is read as that response.
use Rattle.std.proofs.Common.{◌≡◌, ◌≢◌, ◌∙◌, ℕ, ◌+◌, ◌^◌, ◌≤◌, ◌<◌, ◌==◌, List, [], ◌∷◌, ◌++◌, Bool, true, false, ◌&&◌, not, cond, nat_lt, nat_le, length, map, Some, Ok, Err, codes, decimal, sym, ap, ap₂, refl, arith, append_assoc, append-nil, IsTrue}
use Rattle.std.specs.List.{flat_map, filter, list_all, All}
use Rattle.std.proofs.lemmas.Bool.Decides.{nat_tests}
use Rattle.std.proofs.lemmas.Fmt.{length-decimal-le}
use Rattle.std.proofs.lemmas.Grind.{flat_map-append}
use Rattle.std.proofs.lemmas.List.{length-map, map-append}
use Rattle.std.proofs.lemmas.List.Elements.{All-cons, All-nil, All-head, All-tail, All-append, filter-append}
use Rattle.std.proofs.lemmas.List.Sums.{AllPass-from_list_all}
use Rattle.httparse.specs.Ascii.{crlf_bytes}
use Rattle.httparse.specs.Grammar.{crlf, Field, print_field, IsField, ResponseHead, IsResponseHead, print_response, AllPass, is_token_byte, IsToken, is_value_byte, trim_ows}
use Rattle.httparse.specs.Spans.{name_and_value}
use Rattle.httparse.proofs.GrammarLemmas.{cons-append}
use Rattle.http_frame.specs.Fields.{is_named, values_of}
use Rattle.http_frame.specs.Framing.{decimal_value, is_numeral, framed_by}
use Rattle.http_frame.specs.Messages.{SeenResponse}
use Rattle.http_frame.specs.Responses.{is_informational, has_no_body, framed_response, response_framing, sized, passes_none, response, IsResponseFrame}
use Rattle.http_frame.specs.StatusHeads.{ShowsStatus}
use Rattle.http_frame.specs.Wire.{reason, status_line, field_line, field_lines, length_line, closing, framed, wire}
use Rattle.http_frame.specs.WrittenResponses.{IsPlainField, length_field, close_field, written_fields, read_back, IsReadable}
use Rattle.http_frame.specs.declared.fault.FrameFault.TheVariants.{BadBody, BodyTooLong}
use Rattle.http_frame.specs.declared.framing.Framing.TheVariants.{Length}
use Rattle.http_frame.specs.declared.message.StatusHead.{StatusHead}
use Rattle.http_frame.specs.declared.response_framing.ResponseFraming.TheVariants.{Sized, ToEnd}
use Rattle.http_frame.proofs.DecimalLemmas.{writes, code_value, digits_trimmed, digits_pass, are_digits}

-- a field as it is written, in the grammar

as_field : List ℕ × List ℕ → Field
as_field field = record { name = field.0; raw = 32 ∷ field.1; end = crlf }

lines_are : (fs : List (List ℕ × List ℕ)) → flat_map print_field (map as_field fs) ≡ field_lines fs
unfolding as_field
lines_are [] = refl
lines_are (f ∷ fs) = ap₂ (λ (a b : List ℕ). a ++ b) (ap (λ (z : List ℕ). z ++ crlf_bytes) (sym (append_assoc f.0 (58 ∷ 32 ∷ []) f.1))) (lines_are fs)

spaced : (v : List ℕ) → trim_ows (32 ∷ v) ≡ trim_ows v
unfolding trim_ows
spaced v = refl

values_are : (fs : List (List ℕ × List ℕ)) → All IsPlainField fs → map name_and_value (map as_field fs) ≡ fs
unfolding as_field
values_are [] p = refl
values_are (f ∷ fs) p =
    let plain = All-head IsPlainField f fs p in
    ap₂ (λ (v : List ℕ) (rest : List (List ℕ × List ℕ)). (f.0, v) ∷ rest) (spaced f.1 ∙ plain.trimmed) (values_are fs (All-tail IsPlainField f fs p))

fields_are : (fs : List (List ℕ × List ℕ)) → All IsPlainField fs → All IsField (map as_field fs)
unfolding as_field
fields_are [] p = All-nil IsField
fields_are (f ∷ fs) p =
    let plain = All-head IsPlainField f fs p in
    All-cons IsField (as_field f) (map as_field fs) (record { name = plain.name; raw = All-cons (λ b. IsTrue (is_value_byte b)) 32 f.1 refl plain.value })
    (fields_are fs (All-tail IsPlainField f fs p))

-- the head as it is written

either : (t : Bool) (a b : List ℕ) → list_all is_value_byte a ≡ true → list_all is_value_byte b ≡ true → list_all is_value_byte (cond t a b) ≡ true
either true a b p q = p
either false a b p q = q

reason_passes : (n : ℕ) → list_all is_value_byte (reason n) ≡ true
reason_passes n =
    either (n == 200) (codes "OK") _ refl (either (n == 201) (codes "Created") _ refl (either (n == 204) (codes "No Content") _ refl
    (either (n == 400) (codes "Bad Request") _ refl (either (n == 404) (codes "Not Found") _ refl (either (n == 405) (codes "Method Not Allowed") _ refl
    (either (n == 406) (codes "Not Acceptable") _ refl (either (n == 409) (codes "Conflict") _ refl (either (n == 413) (codes "Content Too Large") _ refl
    (either (n == 415) (codes "Unsupported Media Type") _ refl (either (n == 429) (codes "Too Many Requests") _ refl
    (either (n == 501) (codes "Not Implemented") _ refl (either (n == 503) (codes "Service Unavailable") _ refl
    (either (n == 507) (codes "Insufficient Storage") [] refl refl)))))))))))))

head_for : ℕ → List (List ℕ × List ℕ) → ResponseHead
head_for status fs =
    record { blank = []; minor = 1; digits = decimal status; reason = Some (reason status); line_end = crlf; fields = map as_field fs; last = crlf }

regroup : (v d q f : List ℕ) → ((((v ++ 32 ∷ d) ++ 32 ∷ q) ++ crlf_bytes) ++ (f ++ crlf_bytes))
    ≡ ((((((v ++ 32 ∷ []) ++ d) ++ 32 ∷ []) ++ q) ++ crlf_bytes) ++ f) ++ crlf_bytes
regroup v d q f = simp (append_assoc, cons-append)

head_bytes : (status : ℕ) (fs : List (List ℕ × List ℕ)) → print_response (head_for status fs) ≡ status_line status ++ field_lines fs ++ crlf_bytes
unfolding head_for print_response
head_bytes status fs =
    regroup (codes "HTTP/1.1") (decimal status) (reason status) (flat_map print_field (map as_field fs))
    ∙ ap (λ (z : List ℕ). status_line status ++ z ++ crlf_bytes) (lines_are fs)

is_head : (status : ℕ) (fs : List (List ℕ × List ℕ)) → 100 ≤ status → status < 1000 → All IsPlainField fs → IsResponseHead (head_for status fs)
unfolding head_for
is_head status fs least most p =
    let small : status < 2 ^ 64 = omega arith in
    let three = (writes status small).three least in
    let few = length-decimal-le 3 status (omega arith) (omega arith) small in
    record {
      minor = omega arith;
      digits = (omega arith, are_digits status small);
      reason = AllPass-from_list_all is_value_byte (reason status) (reason_passes status);
      fields = fields_are fs p;
    }

-- the bytes of a response are those of its head and its body

with_all : (a f l c e b : List ℕ) → (a ++ f) ++ ((l ++ (c ++ e)) ++ b) ≡ ((a ++ ((f ++ (l ++ [])) ++ c)) ++ e) ++ b
with_all a f l c e b = simp (append_assoc, append-nil)

with_length : (a f l e b : List ℕ) → (a ++ f) ++ ((l ++ e) ++ b) ≡ ((a ++ ((f ++ (l ++ [])) ++ [])) ++ e) ++ b
with_length a f l e b = simp (append_assoc, append-nil)

with_close : (a f c e : List ℕ) → (a ++ f) ++ (c ++ e) ≡ ((a ++ ((f ++ []) ++ c)) ++ e) ++ []
with_close a f c e = simp (append_assoc, append-nil)

with_none : (a f e : List ℕ) → (a ++ f) ++ e ≡ ((a ++ ((f ++ []) ++ [])) ++ e) ++ []
with_none a f e = simp (append_assoc, append-nil)

abbrev fields_for : Bool → Bool → List (List ℕ × List ℕ) → List ℕ → List (List ℕ × List ℕ)
fields_for empty closes fs body = fs ++ cond empty [] (length_field body ∷ []) ++ cond closes (close_field ∷ []) []

lines_apart : (fs x y : List (List ℕ × List ℕ)) → field_lines (fs ++ x ++ y) ≡ (field_lines fs ++ field_lines x) ++ field_lines y
lines_apart fs x y = flat_map-append field_line (fs ++ x) y ∙ ap (λ (z : List ℕ). z ++ field_lines y) (flat_map-append field_line fs x)

all_bytes : (empty closes : Bool) (line body : List ℕ) (fs : List (List ℕ × List ℕ))
    → line ++ field_lines fs ++ framed body (not empty && not false) closes ≡ (line ++ field_lines (fields_for empty closes fs body) ++ crlf_bytes) ++ cond empty [] body
all_bytes true true line body fs =
    with_close line (field_lines fs) (codes "Connection: close" ++ crlf_bytes) crlf_bytes
    ∙ ap (λ (z : List ℕ). ((line ++ z) ++ crlf_bytes) ++ []) (sym (lines_apart fs [] (close_field ∷ [])))
all_bytes true false line body fs =
    with_none line (field_lines fs) crlf_bytes ∙ ap (λ (z : List ℕ). ((line ++ z) ++ crlf_bytes) ++ []) (sym (lines_apart fs [] []))
all_bytes false true line body fs =
    with_all line (field_lines fs) (length_line (length body)) (codes "Connection: close" ++ crlf_bytes) crlf_bytes body
    ∙ ap (λ (z : List ℕ). ((line ++ z) ++ crlf_bytes) ++ body) (sym (lines_apart fs (length_field body ∷ []) (close_field ∷ [])))
all_bytes false false line body fs =
    with_length line (field_lines fs) (length_line (length body)) crlf_bytes body
    ∙ ap (λ (z : List ℕ). ((line ++ z) ++ crlf_bytes) ++ body) (sym (lines_apart fs (length_field body ∷ []) []))

-- the fields of the framing are plain

length_plain : (body : List ℕ) → length body ≤ 536870912 → IsPlainField (length_field body)
unfolding is_token_byte
length_plain body few =
    let small : length body < 2 ^ 64 = omega arith in
    let digits = are_digits (length body) small in
    record {
      name = (omega arith, AllPass-from_list_all is_token_byte (codes "Content-Length") refl);
      value = digits_pass (decimal (length body)) digits;
      trimmed = digits_trimmed (decimal (length body)) digits;
    }

close_plain : IsPlainField close_field
unfolding is_token_byte trim_ows
close_plain = record {
  name = (omega arith, AllPass-from_list_all is_token_byte (codes "Connection") refl);
  value = AllPass-from_list_all is_value_byte (codes "close") refl;
  trimmed = refl;
}

all_plain : (empty closes : Bool) (body : List ℕ) (fs : List (List ℕ × List ℕ)) → length body ≤ 536870912 → All IsPlainField fs
    → All IsPlainField (fields_for empty closes fs body)
all_plain empty closes body fs few p =
    All-append IsPlainField (fs ++ cond empty [] (length_field body ∷ [])) (cond closes (close_field ∷ []) [])
    (All-append IsPlainField fs (cond empty [] (length_field body ∷ [])) p (lengths empty)) (closed closes)
  where
    lengths : (t : Bool) → All IsPlainField (cond t [] (length_field body ∷ []))
    lengths true = All-nil IsPlainField
    lengths false = All-cons IsPlainField (length_field body) [] (length_plain body few) (All-nil IsPlainField)

    closed : (t : Bool) → All IsPlainField (cond t (close_field ∷ []) [])
    closed true = All-cons IsPlainField close_field [] close_plain (All-nil IsPlainField)
    closed false = All-nil IsPlainField

-- what they say

abbrev second : List ℕ × List ℕ → List ℕ
second field = field.1

values_apart : (name : List ℕ) (x y : List (List ℕ × List ℕ)) → values_of name (x ++ y) ≡ values_of name x ++ values_of name y
values_apart name x y = ap (map second) (filter-append (is_named name) x y) ∙ map-append second (filter (is_named name) x) (filter (is_named name) y)

no_codings : (empty closes : Bool) (body : List ℕ) (fs : List (List ℕ × List ℕ)) → values_of (codes "transfer-encoding") fs ≡ []
    → values_of (codes "transfer-encoding") (fields_for empty closes fs body) ≡ []
no_codings empty closes body fs none =
    let name = codes "transfer-encoding" in
    values_apart name (fs ++ cond empty [] (length_field body ∷ [])) (cond closes (close_field ∷ []) [])
    ∙ ap₂ (λ (x y : List (List ℕ)). x ++ y)
    (values_apart name fs (cond empty [] (length_field body ∷ [])) ∙ ap₂ (λ (x y : List (List ℕ)). x ++ y) none (no_length empty)) (no_close closes)
  where
    no_length : (t : Bool) → values_of (codes "transfer-encoding") (cond t [] (length_field body ∷ [])) ≡ []
    no_length true = refl
    no_length false = refl

    no_close : (t : Bool) → values_of (codes "transfer-encoding") (cond t (close_field ∷ []) []) ≡ []
    no_close true = refl
    no_close false = refl

one_length : (closes : Bool) (body : List ℕ) (fs : List (List ℕ × List ℕ)) → values_of (codes "content-length") fs ≡ []
    → values_of (codes "content-length") (fields_for false closes fs body) ≡ decimal (length body) ∷ []
one_length closes body fs none =
    let name = codes "content-length" in
    values_apart name (fs ++ length_field body ∷ []) (cond closes (close_field ∷ []) [])
    ∙ ap₂ (λ (x y : List (List ℕ)). x ++ y) (values_apart name fs (length_field body ∷ []) ∙ ap (λ (x : List (List ℕ)). x ++ decimal (length body) ∷ []) none) (no_close closes)
  where
    no_close : (t : Bool) → values_of (codes "content-length") (cond t (close_field ∷ []) []) ≡ []
    no_close true = refl
    no_close false = refl

within : (n : ℕ) → n ≤ 536870912 → nat_le n 536870912 ≡ true
within n h = grind (arith, nat_tests)

above : (n : ℕ) → 0 < n → nat_lt 0 n ≡ true
above n h = grind (arith, nat_tests)

said : (n : ℕ) → n ≤ 536870912 → framed_response 1 [] (decimal n ∷ []) ≡ Ok (Sized (Length n))
said n few =
    let w = writes n (omega arith) in
    let numeral = ap₂ (λ t u. t && u) (above (length (decimal n)) w.some) w.all in
    let small = ap (λ m. nat_le m 536870912) w.value ∙ within n few in
    ap₂ (λ t u. sized (cond t (cond u (Ok (Length (decimal_value (decimal n)))) (Err BodyTooLong)) (Err BadBody))) numeral small
    ∙ ap (λ m. Ok (Sized (Length m))) w.value

not_in_class : (n : ℕ) → 200 ≤ n → is_informational n ≡ false
not_in_class n h = grind (arith, nat_tests)

has_body : (n : ℕ) → 200 ≤ n → n ≢ 304 → (n == 204) ≡ false → has_no_body n ≡ false
has_body n h other content = grind (arith, nat_tests)

abbrev head_of : ℕ → List (List ℕ × List ℕ) → StatusHead
head_of status fs = record { status = status; minor = 1; fields = fs }

framed_back : (status : ℕ) (closes empty : Bool) (body : List ℕ) (fs : List (List ℕ × List ℕ)) → 200 ≤ status → status ≢ 304 → (status == 204) ≡ empty
    → values_of (codes "content-length") fs ≡ [] → values_of (codes "transfer-encoding") fs ≡ [] → length body ≤ 536870912
    → response_framing (head_of status (fields_for empty closes fs body)) ≡ Ok (Sized (Length (length (cond empty [] body))))
framed_back status closes true body fs least other content no_length no_coding few =
    let none : has_no_body status ≡ true = no_content status least content in rw none refl
  where
    no_content : (n : ℕ) → 200 ≤ n → (n == 204) ≡ true → has_no_body n ≡ true
    no_content n h e = grind (arith, nat_tests)
framed_back status closes false body fs least other content no_length no_coding few =
    rw (has_body status least other content) (ap₂ (λ (cs ls : List (List ℕ)). framed_response 1 cs ls) (no_codings false closes body fs no_coding) (one_length closes body fs no_length)
    ∙ said (length body) few)

count_few : (status : ℕ) (fs : List (List ℕ × List ℕ)) → length fs ≤ 128 → length (head_for status fs).fields ≤ 128
unfolding head_for
count_few status fs few = let count = length-map fs as_field in omega arith

shows_back : (status : ℕ) (fs : List (List ℕ × List ℕ)) → status < 1000 → All IsPlainField fs → ShowsStatus (head_for status fs) (head_of status fs)
unfolding head_for
shows_back status fs most plain = record { status = sym (code_value status (omega arith)); minor = refl; fields = sym (values_are fs plain) }

pub written_response_is_frame : (r : SeenResponse) (minor : ℕ) (closes : Bool) (more : List ℕ) → IsReadable r closes
    → IsResponseFrame (wire r minor closes false ++ more) (response (read_back r closes) more)
unfolding wire
written_response_is_frame r minor closes more x =
    let fs = written_fields r closes in
    let body = cond (r.status == 204) [] r.body in
    let least = x.final in
    let most = x.three_digits in
    let plain = all_plain (r.status == 204) closes r.body r.fields x.body x.fields in
    let head = head_bytes r.status fs in
    let bytes = all_bytes (r.status == 204) closes (status_line r.status) r.body r.fields in
    let size = ap length head in
    let short = x.short in
    let few = x.few in
    record {
      passed = 0;
      mid = wire r minor closes false ++ more;
      few = omega arith;
      passes = passes_none refl refl;
      last = (
        record {
          head = head_of r.status fs;
          after = body ++ more;
          begins = record {
            head = head_for r.status fs;
            reads = record {
              reads = (
                is_head r.status fs (omega arith) most plain,
                ap (λ (z : List ℕ). z ++ more) (bytes ∙ ap (λ (z : List ℕ). z ++ body) (sym head)) ∙ append_assoc (print_response (head_for r.status fs)) body more,
              );
              short = omega arith;
              few = count_few r.status fs few;
            };
            shows = shows_back r.status fs most plain;
          };
          framed_as = Sized (Length (length body));
          framed = framed_back r.status closes (r.status == 204) r.body r.fields least x.modified refl x.no_length x.no_coding x.body;
          body = (refl, refl);
          status_is = refl;
          fields_are = refl;
        },
        not_in_class r.status least,
      );
    }
