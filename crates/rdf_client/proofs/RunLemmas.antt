-- What was sent and printed so far, and a run of what is left, make a run of the whole.
use Rattle.std.proofs.Common.{◌≡◌, ◌+◌, ℕ, List, [], ◌++◌, Option, sym, ap, ◌∙◌, subst, inl, inr, append_assoc}
use Rattle.journal.specs.declared.txn.Txn.{Txn}
use Rattle.rdf_client.specs.Runs.{Place, Ends, Runs, stops, skips, answers}
use Rattle.rdf_client.specs.Turning.{IsMove}
use Rattle.rdf_client.specs.declared.end.ClientEnd.{ClientEnd}

-- the place behind a line
abbrev pub place_behind : Place → List ℕ → List ℕ → Option Txn → Place
place_behind at rest later txn = record { number = at.number + 1; txn = txn; script = rest; responses = later }

-- a line that is done, and a run from the place behind it, are a run
pub moved : (repo host : List ℕ) (at : Place) (rest later : List ℕ) (txn : Option Txn) (sent text : List ℕ) → IsMove repo host at rest later txn sent text
    → (end : ClientEnd) (sent' text' : List ℕ) → Runs repo host (place_behind at rest later txn) end sent' text' → Runs repo host at end (sent ++ sent') (text ++ text')
moved repo host at rest later txn sent text (inl (asks, kept, same, none, blank)) end sent' text' run =
    let here : place_behind at rest later txn ≡ record at { number = at.number + 1; script = rest } =
    ap (λ (b : List ℕ). place_behind at rest b txn) kept ∙ ap (λ (t : Option Txn). place_behind at rest at.responses t) same in
    let run' = subst (λ (p : Place). Runs repo host p end sent' text') here run in
    subst (λ (s : List ℕ). Runs repo host at end (s ++ sent') (text ++ text')) (sym none)
    (subst (λ (s : List ℕ). Runs repo host at end ([] ++ sent') (s ++ text')) (sym blank) (skips rest asks run'))
moved repo host at rest later txn sent text (inr (call, reply, asks, answer, same, bytes, printed)) end sent' text' run =
    let run' = subst (λ (t : Option Txn). Runs repo host (place_behind at rest later t) end sent' text') same run in
    answers call reply rest later sent' text' asks answer run' (ap (λ (s : List ℕ). s ++ sent') bytes) (ap (λ (s : List ℕ). s ++ text') printed)

-- what was sent and printed so far is the front of what the run sends and prints
abbrev pub GoesOn : (repo host : List ℕ) → Place → Place → (sent text : List ℕ) → Type 0
GoesOn repo host from at sent text =
    (end : ClientEnd) (sent' text' : List ℕ) → Runs repo host at end sent' text' → Runs repo host from end (sent ++ sent') (text ++ text')

-- and so it is behind one line more
pub moved_on : (repo host : List ℕ) (from at : Place) (sent text : List ℕ) (rest later : List ℕ) (txn : Option Txn) (more more' : List ℕ)
    → GoesOn repo host from at sent text → IsMove repo host at rest later txn more more'
    → GoesOn repo host from (place_behind at rest later txn) (sent ++ more) (text ++ more')
moved_on repo host from at sent text rest later txn more more' goes move end sent' text' run =
    let whole = goes end (more ++ sent') (more' ++ text') (moved repo host at rest later txn more more' move end sent' text' run) in
    subst (λ (x : List ℕ). Runs repo host from end x ((text ++ more') ++ text')) (sym (append_assoc sent more sent'))
    (subst (λ (x : List ℕ). Runs repo host from end (sent ++ (more ++ sent')) x) (sym (append_assoc text more' text')) whole)

-- a run begins with nothing
pub begun : (repo host : List ℕ) (from : Place) → GoesOn repo host from from [] []
begun repo host from end sent text run = run

-- the next line ends it
pub ended : (repo host : List ℕ) (from at : Place) (sent text : List ℕ) (end : ClientEnd) (sent' text' : List ℕ)
    → GoesOn repo host from at sent text → Ends repo host at end sent' text' → Runs repo host from end (sent ++ sent') (text ++ text')
ended repo host from at sent text end sent' text' goes ends = goes end sent' text' (stops ends)
