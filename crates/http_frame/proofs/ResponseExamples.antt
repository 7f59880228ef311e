-- Worked cases of responses and of requests that are written, by computation on the definitions.
use Rattle.std.proofs.Common.{◌≡◌, ℕ, List, [], ◌∷◌, ◌++◌, length, Some, Ok, Err, true, false, refl, arith, codes}
use Rattle.std.specs.Char.{is_ascii_digit}
use Rattle.std.specs.Fmt.{digits}
use Rattle.std.specs.List.{list_all}
use Rattle.std.proofs.lemmas.List.Elements.{All-nil}
use Rattle.std.proofs.lemmas.List.Sums.{AllPass-from_list_all}
use Rattle.httparse.specs.Ascii.{crlf_bytes}
use Rattle.httparse.specs.Grammar.{crlf, IsField, ResponseHead, IsResponseHead, print_response, is_value_byte}
use Rattle.http_frame.specs.RequestWire.{request_wire}
use Rattle.http_frame.specs.Responses.{is_informational, response_framing, passes_none, passes_one, response, IsResponseFrame}
use Rattle.http_frame.specs.declared.fault.FrameFault.TheVariants.{BadBody, BodyTooLong, Coding}
use Rattle.http_frame.specs.declared.framing.Framing.TheVariants.{Length, Chunked}
use Rattle.http_frame.specs.declared.message.StatusHead.{StatusHead}
use Rattle.http_frame.specs.declared.response_framing.ResponseFraming.TheVariants.{Sized, ToEnd}

abbrev field : List ℕ → List ℕ → List ℕ × List ℕ
field name value = (name, value)

abbrev length_field : List ℕ → List ℕ × List ℕ
length_field value = field (codes "content-LENGTH") value

abbrev coding_field : List ℕ → List ℕ × List ℕ
coding_field value = field (codes "Transfer-Encoding") value

abbrev head : ℕ → ℕ → List (List ℕ × List ℕ) → StatusHead
head status minor fields = record { status = status; minor = minor; fields = fields }

-- what a head says of the body behind it, and the first fault that it shows

no_host_is_wanted : response_framing (head 200 1 (length_field (codes "003") ∷ [])) ≡ Ok (Sized (Length 3))
no_host_is_wanted = refl

up_to_the_end : response_framing (head 200 0 (field (codes "Host") (codes "h") ∷ [])) ≡ Ok ToEnd
up_to_the_end = refl

in_chunks : response_framing (head 404 1 (coding_field (codes "Chunked") ∷ [])) ≡ Ok (Sized Chunked)
in_chunks = refl

no_content : response_framing (head 204 1 (length_field (codes "3") ∷ [])) ≡ Ok (Sized (Length 0))
no_content = refl

not_modified : response_framing (head 304 1 (length_field (codes "3") ∷ coding_field (codes "chunked") ∷ [])) ≡ Ok (Sized (Length 0))
not_modified = refl

continues : response_framing (head 100 0 (coding_field (codes "gzip") ∷ [])) ≡ Ok (Sized (Length 0))
continues = refl

other_than_204 : response_framing (head 205 1 (length_field (codes "3") ∷ [])) ≡ Ok (Sized (Length 3))
other_than_204 = refl

length_and_coding : response_framing (head 200 1 (length_field (codes "3") ∷ coding_field (codes "chunked") ∷ [])) ≡ Err BadBody
length_and_coding = refl

chunked_in_version_1_0 : response_framing (head 200 0 (coding_field (codes "chunked") ∷ [])) ≡ Err BadBody
chunked_in_version_1_0 = refl

other_coding : response_framing (head 200 1 (coding_field (codes "gzip") ∷ [])) ≡ Err Coding
other_coding = refl

at_the_limit : response_framing (head 200 1 (length_field (codes "536870912") ∷ [])) ≡ Ok (Sized (Length 536870912))
at_the_limit = refl

past_the_limit : response_framing (head 200 1 (length_field (codes "536870913") ∷ [])) ≡ Err BodyTooLong
past_the_limit = refl

before_the_class : is_informational 99 ≡ false
before_the_class = refl

first_of_the_class : is_informational 100 ≡ true
first_of_the_class = refl

last_of_the_class : is_informational 199 ≡ true
last_of_the_class = refl

behind_the_class : is_informational 200 ≡ false
behind_the_class = refl

-- a response behind an informational one; a byte follows

abbrev plain_head : List ℕ → List ℕ → ResponseHead
plain_head digits reason = record { blank = []; minor = 1; digits = digits; reason = Some reason; line_end = crlf; fields = []; last = crlf }

is_plain_head : (digits reason : List ℕ) → length digits ≡ 3 → list_all is_ascii_digit digits ≡ true → list_all is_value_byte reason ≡ true
    → IsResponseHead (plain_head digits reason)
is_plain_head digits reason three all text = record {
  minor = omega arith;
  digits = (three, AllPass-from_list_all is_ascii_digit digits all);
  reason = AllPass-from_list_all is_value_byte reason text;
  fields = All-nil IsField;
}

behind_a_continue : IsResponseFrame (codes "HTTP/1.1 100 Continue" ++ crlf_bytes ++ crlf_bytes ++ codes "HTTP/1.1 204 No Content" ++ crlf_bytes ++ crlf_bytes ++ codes "x")
    (response (record { status = 204; fields = []; body = [] }) (codes "x"))
unfolding print_response
behind_a_continue = record {
  passed = 1;
  mid = codes "HTTP/1.1 204 No Content" ++ crlf_bytes ++ crlf_bytes ++ codes "x";
  few = omega arith;
  passes = passes_one 0 (record { status = 100; fields = []; body = [] }) (codes "HTTP/1.1 204 No Content" ++ crlf_bytes ++ crlf_bytes ++ codes "x") refl
      (record {
        head = head 100 1 [];
        after = codes "HTTP/1.1 204 No Content" ++ crlf_bytes ++ crlf_bytes ++ codes "x";
        begins = record {
          head = plain_head (codes "100") (codes "Continue");
          reads = record { reads = (is_plain_head (codes "100") (codes "Continue") refl refl refl, refl); short = omega arith; few = omega arith };
          shows = record { status = refl; minor = refl; fields = refl };
        };
        framed_as = Sized (Length 0);
        framed = refl;
        body = (refl, refl);
        status_is = refl;
        fields_are = refl;
      }) refl (passes_none refl refl);
  last = (
    record {
      head = head 204 1 [];
      after = codes "x";
      begins = record {
        head = plain_head (codes "204") (codes "No Content");
        reads = record { reads = (is_plain_head (codes "204") (codes "No Content") refl refl refl, refl); short = omega arith; few = omega arith };
        shows = record { status = refl; minor = refl; fields = refl };
      };
      framed_as = Sized (Length 0);
      framed = refl;
      body = (refl, refl);
      status_is = refl;
      fields_are = refl;
    },
    refl,
  );
}

-- the bytes of a request

posted : request_wire (record {
  head = record {
    method = codes "POST";
    target = codes "/a";
    minor = 1;
    fields = field (codes "Host") (codes "h") ∷ field (codes "Content-Length") (codes "2") ∷ [];
    expects = false;
    closes = false;
  };
  body = codes "no";
})
    ≡ codes "POST /a HTTP/1.1" ++ crlf_bytes ++ codes "Host: h" ++ crlf_bytes ++ codes "Content-Length: 2" ++ crlf_bytes ++ crlf_bytes ++ codes "no"
unfolding request_wire digits lib.Utf8.encode
posted = refl
