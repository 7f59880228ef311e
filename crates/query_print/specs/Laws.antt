-- What holds of printed queries: they are read again, and each query that is read can be printed so.
use Rattle.std.specs.Prelude.{◌↔◌, ℕ, List, encode_utf8_all}
use Rattle.std.specs.Str.{IsUtf8}
use Rattle.query_model.specs.declared.query.Query.{Query}
use Rattle.query_grammar.specs.QueryText.{IsQueryText}
use Rattle.query_print.specs.Printed.{printed}
use Rattle.query_model.specs.WellFormed.{IsWellFormed}

-- the text of a well-formed query is read as that query
abbrev pub PrintedAreReadAgain : Type 0
PrintedAreReadAgain = (q : Query) → IsWellFormed q → IsQueryText (encode_utf8_all (printed q)) q

-- a query that a text in UTF-8 gives is well formed
abbrev pub ParsedAreWellFormed : Type 0
ParsedAreWellFormed = (text : List ℕ) (q : Query) → IsUtf8 text → IsQueryText text q → IsWellFormed q

-- a query is well formed exactly where some text in UTF-8 gives it
abbrev pub WellFormedWhereRead : Type 0
WellFormedWhereRead = (q : Query) → IsWellFormed q ↔ ((text : List ℕ) × IsUtf8 text × IsQueryText text q)

-- if a text in UTF-8 gives the query, then so does this one
abbrev pub IsReadAgain : List ℕ → Query → Type 0
IsReadAgain text q = (source : List ℕ) → IsUtf8 source → IsQueryText source q → IsQueryText text q
