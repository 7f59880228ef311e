-- Worked cases of the definitions, by computation.
use Rattle.std.proofs.Common.{◌≡◌, [], ◌∷◌, refl, length, codes}
use Rattle.std.specs.Fmt.{digits}
use Rattle.workload.specs.Numbers.{next_number, value_in}
use Rattle.workload.specs.Requests.{line_of, request_bytes}
use Rattle.workload.specs.Sessions.{requests_in, round_bytes, session_bytes}
use Rattle.workload.specs.declared.requests.RequestKind.TheVariants.{Begin, Add, Commit, Copy, Delete}

numbers : (next_number 1 ≡ 1103527590) × (next_number 1103527590 ≡ 377401575)
numbers = (refl, refl)

values : (value_in 0 0 ≡ 838) × (value_in 0 1 ≡ 758) × (value_in 0 3 ≡ 515) × (value_in 1 0 ≡ 908) × (value_in 2 1 ≡ 107)
values = (refl, refl, refl, refl, refl)

line : line_of 0 3 ≡ codes "<http://w/s0/3> <http://w/p> \"515\" .\n"
unfolding line_of digits
line = refl

begin : request_bytes 1 2 Begin ≡ codes "POST /rdf4j-server/repositories/w1/transactions?isolation-level=SERIALIZABLE HTTP/1.1\r\nHost: w\r\n\r\n"
unfolding line_of request_bytes digits
begin = refl

add : request_bytes 1 4 Add ≡ codes "PUT /rdf4j-server/repositories/w1/transactions/12-5?action=ADD HTTP/1.1\r\nHost: w\r\nContent-Type: application/n-quads\r\nContent-Length: 37\r\n\r\n<http://w/s1/4> <http://w/p> \"837\" .\n"
unfolding line_of request_bytes digits
add = refl

commit : request_bytes 1 4 Commit ≡ codes "PUT /rdf4j-server/repositories/w1/transactions/12-5?action=COMMIT HTTP/1.1\r\nHost: w\r\n\r\n"
unfolding line_of request_bytes digits
commit = refl

copy : request_bytes 1 5 Copy ≡ codes "POST /rdf4j-server/repositories/all/statements HTTP/1.1\r\nHost: w\r\nContent-Type: application/n-quads\r\nContent-Length: 36\r\n\r\n<http://w/s1/5> <http://w/p> \"95\" .\n"
unfolding line_of request_bytes digits
copy = refl

delete : request_bytes 14 9999 Delete ≡ codes "DELETE /rdf4j-server/repositories/all/statements?subj=%3Chttp%3A%2F%2Fw%2Fs14%2F9999%3E HTTP/1.1\r\nHost: w\r\n\r\n"
unfolding request_bytes digits
delete = refl

-- every fourth round deletes
deletions : (requests_in 0 ≡ Begin ∷ Add ∷ Commit ∷ Copy ∷ []) × (requests_in 3 ≡ Begin ∷ Add ∷ Commit ∷ Copy ∷ Delete ∷ []) × (requests_in 4 ≡ Begin ∷ Add ∷ Commit ∷ Copy ∷ [])
deletions = (refl, refl, refl)

nothing : session_bytes 7 0 ≡ []
nothing = refl

-- the lengths of sessions of one round and of four
lengths : (length (session_bytes 0 1) ≡ 519) × (length (session_bytes 1 4) ≡ 2181)
unfolding line_of request_bytes round_bytes digits
lengths = (refl, refl)
