-- Worked cases, by computation on the definitions.
use Rattle.std.proofs.Common.{◌≡◌, ℕ, List, [], ◌∷◌, ◌++◌, Ok, Err, true, false, refl, arith, codes}
use Rattle.std.specs.Fmt.{digits}
use Rattle.httparse.specs.Ascii.{crlf_bytes}
use Rattle.httparse.specs.Grammar.{trim_ows}
use Rattle.http_frame.specs.Chunks.{IsChunkLine, none, chunk, no_trailers, trailer_line, IsChunkedBody}
use Rattle.http_frame.specs.Framing.{framing_of, expects}
use Rattle.http_frame.specs.Wire.{wire}
use Rattle.http_frame.specs.declared.fault.FrameFault.TheVariants.{BadHost, BadBody, BodyTooLong, Coding}
use Rattle.http_frame.specs.declared.framing.Framing.TheVariants.{Length, Chunked}

abbrev field : List ℕ → List ℕ → List ℕ × List ℕ
field name value = (name, value)

abbrev host : List ℕ × List ℕ
host = field (codes "Host") (codes "h")

-- what a head says, and the first fault that it shows

one_length : framing_of 1 (host ∷ field (codes "content-LENGTH") (codes "003") ∷ []) ≡ Ok (Length 3)
one_length = refl

chunked_alone : framing_of 1 (host ∷ field (codes "Transfer-Encoding") (codes "CHUNKED") ∷ []) ≡ Ok Chunked
chunked_alone = refl

host_before_length : framing_of 1 (field (codes "Content-Length") (codes "x") ∷ []) ≡ Err BadHost
host_before_length = refl

length_and_coding : framing_of 1 (host ∷ field (codes "Content-Length") (codes "3") ∷ field (codes "Transfer-Encoding") (codes "gzip") ∷ []) ≡ Err BadBody
length_and_coding = refl

chunked_in_version_1_0 : framing_of 0 (field (codes "Transfer-Encoding") (codes "chunked") ∷ []) ≡ Err BadBody
chunked_in_version_1_0 = refl

other_coding : framing_of 1 (host ∷ field (codes "Transfer-Encoding") (codes "gzip, chunked") ∷ []) ≡ Err Coding
other_coding = refl

past_the_limit : framing_of 0 (field (codes "Content-Length") (codes "16777217") ∷ []) ≡ Err BodyTooLong
past_the_limit = refl

asks_for_three : expects 1 (host ∷ field (codes "Content-Length") (codes "3") ∷ field (codes "Expect") (codes "x , 100-Continue") ∷ []) ≡ true
unfolding trim_ows
asks_for_three = refl

asks_for_none : expects 1 (host ∷ field (codes "Content-Length") (codes "0") ∷ field (codes "Expect") (codes "100-continue") ∷ []) ≡ false
unfolding trim_ows
asks_for_none = refl

-- the bytes of responses

refused : wire (record { status = 404; fields = field (codes "X") (codes "y") ∷ []; body = codes "no" }) 1 true false
    ≡ codes "HTTP/1.1 404 Not Found" ++ crlf_bytes ++ codes "X: y" ++ crlf_bytes ++ codes "Content-Length: 2" ++ crlf_bytes ++ codes "Connection: close" ++ crlf_bytes
    ++ crlf_bytes ++ codes "no"
unfolding wire digits
refused = refl

no_content : wire (record { status = 204; fields = []; body = codes "no" }) 1 false false ≡ codes "HTTP/1.1 204 No Content" ++ crlf_bytes ++ crlf_bytes
unfolding wire digits
no_content = refl

-- a chunked body with an extension and a trailer

three : IsChunkLine (codes "3;x" ++ crlf_bytes) 3
three = record {
  digits = codes "3";
  extension = codes ";x";
  some = omega arith;
  few = omega arith;
  are_digits = refl;
  size_is = refl;
  is_extension = (refl, refl, omega arith);
  line_is = refl;
}

zero_line : IsChunkLine (codes "0" ++ crlf_bytes) 0
zero_line = record {
  digits = codes "0";
  extension = [];
  some = omega arith;
  few = omega arith;
  are_digits = refl;
  size_is = refl;
  is_extension = tt;
  line_is = refl;
}

three_bytes : IsChunkedBody (codes "3;x" ++ crlf_bytes ++ codes "abc" ++ crlf_bytes ++ codes "0" ++ crlf_bytes ++ codes "A: b" ++ crlf_bytes ++ crlf_bytes) (codes "abc")
three_bytes = record {
  chunks = codes "3;x" ++ crlf_bytes ++ codes "abc" ++ crlf_bytes;
  last = codes "0" ++ crlf_bytes;
  trailers = codes "A: b" ++ crlf_bytes;
  are_chunks = chunk (codes "3;x" ++ crlf_bytes) (codes "abc") [] [] three (omega arith) (none refl refl) refl refl;
  is_last = zero_line;
  are_trailers = trailer_line (codes "A: b") [] (omega arith) refl (no_trailers refl) refl;
  few = omega arith;
  bytes_are = refl;
}
