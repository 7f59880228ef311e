-- The kinds of lines, and what stands behind their words.
use Rattle.std.proofs.Common.{◌≡◌, ℕ, List, [], ◌∷◌, ◌++◌, Bool, true, false, length, drop, Option, Some, None, IfOk, Result, Ok, Err, refl, sym, ap, ◌∙◌, subst, inl, inr, codes}
use Rattle.std.specs.Prelude.{if◌then◌else◌, nat_eq}
use Rattle.std.specs.List.{starts_with}
use Rattle.std.specs.Str.{bytes_eq}
use Rattle.std.proofs.lemmas.Bool.{eqb-true}
use Rattle.std.proofs.lemmas.Bool.Decides.{Decides-eqb}
use Rattle.std.proofs.lemmas.Option.{same_Some}
use Rattle.std.proofs.lemmas.Slice.Eq.{bytes_eq-Decides, starts_is}
use Rattle.rdf_term.specs.Statement.{Statement}
use Rattle.nquads_line.specs.declared.kind.Kind.TheVariants.{Quads as AsQuads}
use Rattle.nquads_line.specs.Grammar.{IsLine, IsShortQuad}
use Rattle.nquads_line.specs.Laws.{OneLineReading}
use Rattle.query_grammar.specs.QueryText.{OneQuery}
use Rattle.client_script.specs.declared.command.Command.{Command}
use Rattle.client_script.specs.declared.command.Command.TheVariants as command
use Rattle.client_script.specs.declared.verb.Verb.{Verb}
use Rattle.client_script.specs.declared.verb.Verb.TheVariants.{Nothing, Begin, Add, Remove, Query, List as ListVerb, Size, Contexts, Namespaces, Prefix, Ping, Commit, Rollback, Quit}
use Rattle.client_script.specs.Lines.{IsInTable, IsCommandOf, IsStatementText}
use Rattle.client_script.specs.Rests.{rest_at, OfRest, IsOfRest}
use Rattle.client_script.specs.Verbs.{is_nothing, plain_verb, verb_of}

-- From a line to its kind

-- the line has this kind, by which it stands for the command
abbrev Found : List ℕ → Command → Type 0
Found line c = (verb : Verb) × (verb_of line ≡ Some verb) × OfRest verb (drop (rest_at verb) line) c

found_at : (line text : List ℕ) (c : Command) (verb : Verb) → line ≡ text → verb_of text ≡ Some verb → OfRest verb (drop (rest_at verb) text) c → Found line c
found_at line text c verb e v p = subst (λ (l : List ℕ). Found l c) (sym e) (verb, v, p)

to_rest : (line : List ℕ) (c : Command) → IsInTable line c → Found line c
to_rest line command.Nothing (inl e) = found_at line [] command.Nothing Nothing e refl (([], (refl, refl)), refl)
to_rest line command.Nothing (inr (text, e, u)) = found_at line (codes "#" ++ text) command.Nothing Nothing e refl (u, refl)
to_rest line (command.Begin level) (rest, e, p) = found_at line (codes "begin" ++ (codes " " ++ rest)) (command.Begin level) Begin e refl (level, p, refl)
to_rest line (command.Add q) (rest, e, p) = found_at line (codes "add" ++ (codes " " ++ rest)) (command.Add q) Add e refl (q, p, refl)
to_rest line (command.Remove q) (rest, e, p) = found_at line (codes "remove" ++ (codes " " ++ rest)) (command.Remove q) Remove e refl (q, p, refl)
to_rest line (command.Query query) (rest, e, p) = found_at line (codes "query" ++ (codes " " ++ rest)) (command.Query query) Query e refl (query, p, refl)
to_rest line command.List e = found_at line (codes "list") command.List ListVerb e refl refl
to_rest line command.Size e = found_at line (codes "size") command.Size Size e refl refl
to_rest line command.Contexts e = found_at line (codes "contexts") command.Contexts Contexts e refl refl
to_rest line command.Namespaces e = found_at line (codes "namespaces") command.Namespaces Namespaces e refl refl
to_rest line (command.Prefix p iri) (rest, e, n) = found_at line (codes "prefix" ++ (codes " " ++ rest)) (command.Prefix p iri) Prefix e refl (p, iri, n, refl)
to_rest line command.Ping e = found_at line (codes "ping") command.Ping Ping e refl refl
to_rest line command.Commit e = found_at line (codes "commit") command.Commit Commit e refl refl
to_rest line command.Rollback e = found_at line (codes "rollback") command.Rollback Rollback e refl refl
to_rest line command.Quit e = found_at line (codes "quit") command.Quit Quit e refl refl

-- From the kind of a line to the line

-- a test in front of others
step : (b : Bool) (v w : Verb) (later : Option Verb) (P : Verb → Type 0) → (b ≡ true → P v) → (later ≡ Some w → P w) → (if b then Some v else later) ≡ Some w → P w
step true v w later P here there e = subst P (same_Some v w e) (here refl)
step false v w later P here there e = there e

-- the line begins with these bytes
begins : (line word : List ℕ) → starts_with nat_eq line word ≡ true → line ≡ word ++ drop (length word) line
begins line word e = (starts_is Decides-eqb line word (starts_with nat_eq line word) refl).0 e

-- a word alone
alone : (line word : List ℕ) (c d : Command) → (line ≡ word → IsInTable line d) → bytes_eq line word ≡ true → c ≡ d → IsInTable line c
alone line word c d told e is = subst (λ (x : Command). IsInTable line x) (sym is) (told ((bytes_eq-Decides line word).0 e))

-- the rest of a line of this kind says which command the line stands for
abbrev Tells : List ℕ → Verb → Type 0
Tells line verb = (c : Command) → OfRest verb (drop (rest_at verb) line) c → IsInTable line c

at_nothing : (line : List ℕ) → is_nothing line ≡ true → Tells line Nothing
at_nothing [] e c p = subst (λ (x : Command). IsInTable [] x) (sym p.1) (inl refl)
at_nothing (b ∷ bs) e c p = subst (λ (x : Command). IsInTable (b ∷ bs) x) (sym p.1) (inr (bs, ap (λ (x : ℕ). x ∷ bs) (eqb-true b 35 e), p.0))

at_begin : (line : List ℕ) → starts_with nat_eq line (codes "begin ") ≡ true → Tells line Begin
at_begin line e c p = subst (λ (x : Command). IsInTable line x) (sym p.2) (drop 6 line, begins line (codes "begin ") e, p.1)

at_add : (line : List ℕ) → starts_with nat_eq line (codes "add ") ≡ true → Tells line Add
at_add line e c p = subst (λ (x : Command). IsInTable line x) (sym p.2) (drop 4 line, begins line (codes "add ") e, p.1)

at_remove : (line : List ℕ) → starts_with nat_eq line (codes "remove ") ≡ true → Tells line Remove
at_remove line e c p = subst (λ (x : Command). IsInTable line x) (sym p.2) (drop 7 line, begins line (codes "remove ") e, p.1)

at_query : (line : List ℕ) → starts_with nat_eq line (codes "query ") ≡ true → Tells line Query
at_query line e c p = subst (λ (x : Command). IsInTable line x) (sym p.2) (drop 6 line, begins line (codes "query ") e, p.1)

at_prefix : (line : List ℕ) → starts_with nat_eq line (codes "prefix ") ≡ true → Tells line Prefix
at_prefix line e c p = subst (λ (x : Command). IsInTable line x) (sym p.3) (drop 7 line, begins line (codes "prefix ") e, p.2)

at_plain : (line : List ℕ) (verb : Verb) → plain_verb line ≡ Some verb → Tells line verb
at_plain line verb =
    let P : Verb → Type 0 = λ v. (c : Command) → OfRest v (drop (rest_at v) line) c → IsInTable line c in
    step (bytes_eq line (codes "list")) ListVerb verb _ P (λ e c is. alone line (codes "list") c command.List (λ t. t) e is)
    (step (bytes_eq line (codes "size")) Size verb _ P (λ e c is. alone line (codes "size") c command.Size (λ t. t) e is)
    (step (bytes_eq line (codes "contexts")) Contexts verb _ P (λ e c is. alone line (codes "contexts") c command.Contexts (λ t. t) e is)
    (step (bytes_eq line (codes "namespaces")) Namespaces verb _ P (λ e c is. alone line (codes "namespaces") c command.Namespaces (λ t. t) e is)
    (step (bytes_eq line (codes "ping")) Ping verb _ P (λ e c is. alone line (codes "ping") c command.Ping (λ t. t) e is)
    (step (bytes_eq line (codes "commit")) Commit verb _ P (λ e c is. alone line (codes "commit") c command.Commit (λ t. t) e is)
    (step (bytes_eq line (codes "rollback")) Rollback verb _ P (λ e c is. alone line (codes "rollback") c command.Rollback (λ t. t) e is)
    (step (bytes_eq line (codes "quit")) Quit verb None P (λ e c is. alone line (codes "quit") c command.Quit (λ t. t) e is)
    (λ e. cc))))))))

from_verb : (line : List ℕ) (verb : Verb) → verb_of line ≡ Some verb → Tells line verb
from_verb line verb =
    step (is_nothing line) Nothing verb _ (Tells line) (at_nothing line)
    (step (starts_with nat_eq line (codes "begin ")) Begin verb _ (Tells line) (at_begin line)
    (step (starts_with nat_eq line (codes "add ")) Add verb _ (Tells line) (at_add line)
    (step (starts_with nat_eq line (codes "remove ")) Remove verb _ (Tells line) (at_remove line)
    (step (starts_with nat_eq line (codes "query ")) Query verb _ (Tells line) (at_query line)
    (step (starts_with nat_eq line (codes "prefix ")) Prefix verb (plain_verb line) (Tells line) (at_prefix line)
    (at_plain line verb))))))

-- Both ways

-- what the rest of a line is, is the command of the line, or that it has none
pub command_of : (line : List ℕ) (verb : Verb) (it : Option Command) → verb_of line ≡ Some verb → IsOfRest verb (drop (rest_at verb) line) it → IsCommandOf line it
command_of line verb (Some c) e p = from_verb line verb e c p
command_of line verb None e none =
    λ c t. let f = to_rest line c t in
    none c (subst (λ (v : Verb). OfRest v (drop (rest_at v) line) c) (same_Some f.0 verb (sym f.1 ∙ e)) f.2)

pub commands_of : {E : Type 0} (r : Result (Option Command) E) (line rest : List ℕ) (verb : Verb) → verb_of line ≡ Some verb → rest ≡ drop (rest_at verb) line
    → IfOk r (λ it. IsOfRest verb rest it) → IfOk r (λ it. IsCommandOf line it)
commands_of (Ok it) line rest verb e same p = command_of line verb it e (subst (λ (x : List ℕ). IsOfRest verb x it) same p)
commands_of (Err m) line rest verb e same p = tt

-- a line of no kind is none
pub no_command : (line : List ℕ) → verb_of line ≡ None → (c : Command) → IsInTable line c → ⊥
no_command line e c t = let f = to_rest line c t in let told : Some f.0 ≡ None = sym f.1 ∙ e in cc

-- Statements and queries

pub no_statement : OneLineReading → (text : List ℕ) → IsLine AsQuads text None → (q : Statement) → IsStatementText text q → ⊥
no_statement one text none q s = let same : None ≡ Some q = one AsQuads text None (Some q) none s.line in cc

pub long_statement : OneLineReading → (text : List ℕ) (x : Option Statement) → IsLine AsQuads text x → (IsShortQuad x → ⊥) → (q : Statement) → IsStatementText text q → ⊥
long_statement one text x line long q s = long (subst IsShortQuad (one AsQuads text (Some q) x s.line line) s.short)

-- One command for a line

one_of_rest : OneLineReading → OneQuery → (verb : Verb) (rest : List ℕ) (c d : Command) → OfRest verb rest c → OfRest verb rest d → c ≡ d
one_of_rest line query Nothing rest c d p q = p.1 ∙ sym q.1
one_of_rest line query Begin rest c d p q = p.2 ∙ ap command.Begin (same_Some p.0 q.0 (sym p.1 ∙ q.1)) ∙ sym q.2
one_of_rest line query Add rest c d p q = p.2 ∙ ap command.Add (same_Some p.0 q.0 (line AsQuads rest (Some p.0) (Some q.0) p.1.line q.1.line)) ∙ sym q.2
one_of_rest line query Remove rest c d p q = p.2 ∙ ap command.Remove (same_Some p.0 q.0 (line AsQuads rest (Some p.0) (Some q.0) p.1.line q.1.line)) ∙ sym q.2
one_of_rest line query Query rest c d p q = p.2 ∙ ap command.Query (query rest p.0 q.0 p.1.grammar q.1.grammar) ∙ sym q.2
one_of_rest line query ListVerb rest c d p q = p ∙ sym q
one_of_rest line query Size rest c d p q = p ∙ sym q
one_of_rest line query Contexts rest c d p q = p ∙ sym q
one_of_rest line query Namespaces rest c d p q = p ∙ sym q
one_of_rest line query Prefix rest c d p q =
    let same : (p.0, p.1) ≡ (q.0, q.1) = same_Some (p.0, p.1) (q.0, q.1) (sym p.2 ∙ q.2) in
    p.3 ∙ ap (λ (x : List ℕ × List ℕ). command.Prefix x.0 x.1) same ∙ sym q.3
one_of_rest line query Ping rest c d p q = p ∙ sym q
one_of_rest line query Commit rest c d p q = p ∙ sym q
one_of_rest line query Rollback rest c d p q = p ∙ sym q
one_of_rest line query Quit rest c d p q = p ∙ sym q

pub one_command : OneLineReading → OneQuery → (line : List ℕ) (c d : Command) → IsInTable line c → IsInTable line d → c ≡ d
one_command reading query line c d s t =
    let f = to_rest line c s in
    let g = to_rest line d t in
    one_of_rest reading query g.0 (drop (rest_at g.0) line) c d
    (subst (λ (v : Verb). OfRest v (drop (rest_at v) line) c) (same_Some f.0 g.0 (sym f.1 ∙ g.1)) f.2) g.2
