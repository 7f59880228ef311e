-- What a client prints for the answer to a call, in bytes. Each printed line ends with LF.
use Rattle.std.specs.Prelude.{ℕ, ◌-◌, Bool, true, false, List, [], ◌∷◌, ◌++◌, Option, Some, None, codes, decimal, length, take, encode_utf8_all}
use Rattle.std.specs.List.{flat_map, suffix_len}
use Rattle.rdf_term.specs.declared.term.Term.{Term}
use Rattle.rdf_term.specs.Statement.{Statement}
use Rattle.rdf_term.specs.Canonical.{term_text}
use Rattle.nquads.specs.Written.{document_text}
use Rattle.nquads_line.specs.declared.kind.Kind.TheVariants.{Quads as AsQuads}
use Rattle.query_model.specs.declared.table.Table.{Table}
use Rattle.journal.specs.declared.txn.Txn.{Txn}
use Rattle.journal.specs.declared.op.Op.{Op}
use Rattle.journal.specs.declared.op.Op.TheVariants as ops
use Rattle.journal.specs.declared.reply.Reply.{Reply}
use Rattle.journal.specs.declared.reply.Reply.TheVariants as replies
use Rattle.api_paths.specs.TransactionNames.{name_of}
use Rattle.client_script.specs.Inputs.{is_lf}

-- a line of this text
abbrev pub line : List ℕ → List ℕ
line text = text ++ codes "\n"

-- the last line of a list: its name and how many there are
abbrev pub count_line : List ℕ → ℕ → List ℕ
count_line name count = line (name ++ decimal count)

-- the texts of items, with a tab between each two
abbrev pub with_tabs : {X : Type 0} → (X → List ℕ) → List X → List ℕ
with_tabs text [] = []
with_tabs text (x ∷ xs) = text x ++ flat_map (λ y. codes "\t" ++ text y) xs

-- the text of a term
abbrev pub term_bytes : Term → List ℕ
term_bytes t = encode_utf8_all (term_text t)

-- the text of a place of a row, which is empty where the place is unbound
abbrev pub place_text : Option Term → List ℕ
place_text None = []
place_text (Some t) = term_bytes t

abbrev pub variable_text : List ℕ → List ℕ
variable_text name = codes "?" ++ encode_utf8_all name

abbrev pub variable_line : List (List ℕ) → List ℕ
variable_line names = line (with_tabs variable_text names)

abbrev pub row_line : List (Option Term) → List ℕ
row_line row = line (with_tabs place_text row)

-- a table: a line of its variables, a line for each row, and the number of rows
abbrev pub table_lines : Table → List ℕ
table_lines table =
    variable_line table.vars ++ (flat_map row_line table.rows ++ count_line (codes "rows ") (length table.rows))

-- quads: their canonical lines, and their number
abbrev pub quad_lines : List Statement → List ℕ
quad_lines quads = encode_utf8_all (document_text AsQuads quads) ++ count_line (codes "quads ") (length quads)

-- names of graphs: a line for each, and their number
abbrev pub context_lines : List Term → List ℕ
context_lines terms = flat_map (λ t. line (term_bytes t)) terms ++ count_line (codes "contexts ") (length terms)

-- a prefix, a space and its IRI
abbrev pub namespace_line : List ℕ × List ℕ → List ℕ
namespace_line pair = line (encode_utf8_all pair.0 ++ (codes " " ++ encode_utf8_all pair.1))

-- namespaces: a line for each, and their number
abbrev pub namespace_lines : List (List ℕ × List ℕ) → List ℕ
namespace_lines pairs = flat_map namespace_line pairs ++ count_line (codes "namespaces ") (length pairs)

abbrev pub truth_text : Bool → List ℕ
truth_text true = codes "true"
truth_text false = codes "false"

-- what is said of an op that is done
abbrev pub done_text : Op → List ℕ
done_text (ops.Commit t) = codes "committed"
done_text (ops.Rollback t) = codes "rolled back"
done_text op = codes "done"

abbrev pub begun_line : Txn → List ℕ
begun_line t = line (codes "begun " ++ name_of t)

-- What is printed for the reply to an op. No call of a script gets the replies that print nothing.
abbrev pub printed : Op → Reply → List ℕ
printed op (replies.Begun t) = begun_line t
printed op replies.Done = line (done_text op)
printed op (replies.Table table) = table_lines table
printed op (replies.Truth truth) = line (truth_text truth)
printed op (replies.Quads quads) = quad_lines quads
printed op (replies.Count count) = count_line (codes "size ") count
printed op (replies.Contexts terms) = context_lines terms
printed op (replies.Prefixes pairs) = namespace_lines pairs
printed op (replies.Prefix name) = []
printed op replies.NoPrefix = []
printed op replies.NoTransaction = []
printed op replies.TooManyOpen = []
printed op (replies.Conflict pattern quad) = []
printed op replies.TooLarge = []
printed op replies.TooManyRows = []

-- a text without the line feeds at its end
abbrev pub without_ends : List ℕ → List ℕ
without_ends text = take (length text - suffix_len is_lf text) text

-- What is printed for a request that was refused with this status and text: one line feed ends it.
abbrev pub refused_line : ℕ → List ℕ → List ℕ
refused_line status text = line (codes "refused " ++ (decimal status ++ (codes " " ++ without_ends text)))

-- what is printed for a line of this number, from 1, that is none of a script
abbrev pub bad_line : ℕ → List ℕ
bad_line number = count_line (codes "bad script line ") number
