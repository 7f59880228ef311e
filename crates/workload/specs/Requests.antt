-- The requests of a round, and their bytes (RFC 9112, sections 3 to 6).
use Rattle.std.specs.Prelude.{ℕ, ◌*◌, Bool, true, false, List, ◌++◌, length, codes, decimal}
use Rattle.workload.specs.Numbers.{value_in}
use Rattle.workload.specs.declared.requests.RequestKind.{RequestKind}
use Rattle.workload.specs.declared.requests.RequestKind.TheVariants.{Begin, Add, Commit, Copy, Delete}

-- the line of a round, which N-Quads reads as one quad: the session and the round in its subject, the round's value as its object
unfoldable pub line_of : ℕ → ℕ → List ℕ
line_of session round = codes "<http://w/s" ++ decimal session ++ codes "/" ++ decimal round ++ codes "> <http://w/p> \"" ++ decimal (value_in session round) ++ codes "\" .\n"

abbrev pub method_of : RequestKind → List ℕ
method_of Begin = codes "POST"
method_of Add = codes "PUT"
method_of Commit = codes "PUT"
method_of Copy = codes "POST"
method_of Delete = codes "DELETE"

-- the transactions of the session's own repository
abbrev pub transactions : ℕ → List ℕ
transactions session = codes "/rdf4j-server/repositories/w" ++ decimal session ++ codes "/transactions"

-- the transaction of a round: each round makes three entries, and a transaction is named by the place of its Begin and its level
abbrev pub transaction : ℕ → ℕ → List ℕ
transaction session round = transactions session ++ codes "/" ++ decimal (3 * round) ++ codes "-5"

-- the quads of the repository that all sessions share
abbrev pub shared_statements : List ℕ
shared_statements = codes "/rdf4j-server/repositories/all/statements"

-- those of them whose subject is that of a round's line, which is percent-encoded (RFC 3986, section 2.1)
abbrev pub subject_statements : ℕ → ℕ → List ℕ
subject_statements session round = shared_statements ++ codes "?subj=%3Chttp%3A%2F%2Fw%2Fs" ++ decimal session ++ codes "%2F" ++ decimal round ++ codes "%3E"

abbrev pub target_of : ℕ → ℕ → RequestKind → List ℕ
target_of session round Begin = transactions session ++ codes "?isolation-level=SERIALIZABLE"
target_of session round Add = transaction session round ++ codes "?action=ADD"
target_of session round Commit = transaction session round ++ codes "?action=COMMIT"
target_of session round Copy = shared_statements
target_of session round Delete = subject_statements session round

-- the request has the round's line as its body
abbrev pub has_body : RequestKind → Bool
has_body Begin = false
has_body Add = true
has_body Commit = false
has_body Copy = true
has_body Delete = false

-- a request line and the one field of each request
abbrev pub start_of : List ℕ → List ℕ → List ℕ
start_of method target = method ++ codes " " ++ target ++ codes " HTTP/1.1\r\nHost: w\r\n"

-- the type and the length of a body, the end of the head and the body
abbrev pub with_body : List ℕ → List ℕ
with_body body = codes "Content-Type: application/n-quads\r\nContent-Length: " ++ decimal (length body) ++ codes "\r\n\r\n" ++ body

-- the same, or the end of a head alone
abbrev pub rest_of : Bool → List ℕ → List ℕ
rest_of true body = with_body body
rest_of false body = codes "\r\n"

-- the bytes of a request
unfoldable pub request_bytes : ℕ → ℕ → RequestKind → List ℕ
request_bytes session round kind = start_of (method_of kind) (target_of session round kind) ++ rest_of (has_body kind) (line_of session round)
