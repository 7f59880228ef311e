-- The grammar of queries, rule by rule (SPARQL 1.1, section 19.8, without what this profile leaves out). A query's tree has a part for each
-- choice that a rule leaves, and its tokens follow from it. A rule says its tokens, each with what it is there, in front of those that follow.
use Rattle.std.specs.Prelude.{ℕ, Bool, true, false, IsTrue, List, [], ◌∷◌, Option, Some, None}
use Rattle.query_tokens.specs.declared.token.Token.{Token}
use Rattle.query_tokens.specs.declared.token.Token.TheVariants as token
use Rattle.query_tokens.specs.declared.token.Number.TheVariants as number
use Rattle.query_grammar.specs.declared.mode.Role.{Role}
use Rattle.query_grammar.specs.declared.mode.Role.TheVariants as role
use Rattle.query_grammar.specs.Classes.{is_iri, is_verb, is_graph_name, is_word}
use Rattle.query_grammar.specs.Said.{Said}

-- a token with what it is, and a mark or a word that only holds others apart
abbrev pub say : Role → Token → List Said → List Said
say r t rest = record { role = r; token = t } ∷ rest

abbrev pub mark : Token → List Said → List Said
mark t rest = say role.Plain t rest

abbrev pub optional : Bool → Token → List Said → List Said
optional false t rest = rest
optional true t rest = mark t rest

-- a token of a class
pub record In (class : Token → Bool) : Type 0 where
  pub token : Token
  pub fits : IsTrue (class token)

-- RDFLiteral ::= String ( LANGTAG | '^^' iri )?
pub data Suffix : Type 0 where
  Bare : Suffix
  Tagged : List ℕ → Suffix
  Typed : In is_iri → Suffix

-- a slot: Var | iri | BLANK_NODE_LABEL | RDFLiteral | NumericLiteral | BooleanLiteral. The tree has three quotes in the place of a string too, since
-- they are refused by a name of their own.
pub data SlotTree : Type 0 where
  Word : In is_word → SlotTree
  Literal : List ℕ → Suffix → SlotTree

abbrev pub suffix_as : Role → Role → Suffix → List Said → List Said
suffix_as tag type Bare rest = rest
suffix_as tag type (Tagged t) rest = say tag (token.Tag t) rest
suffix_as tag type (Typed iri) rest = mark token.Carets (say type iri.token rest)

abbrev pub subject : SlotTree → List Said → List Said
subject (Word w) rest = say role.Subject w.token rest
subject (Literal t s) rest = say role.Subject (token.Str t) (suffix_as role.SubjectTag role.SubjectType s rest)

abbrev pub object : SlotTree → List Said → List Said
object (Word w) rest = say role.Object w.token rest
object (Literal t s) rest = say role.Object (token.Str t) (suffix_as role.ObjectTag role.ObjectType s rest)

-- ObjectList ::= Object ( ',' Object )*
abbrev pub more_objects : List SlotTree → List Said → List Said
more_objects [] rest = rest
more_objects (o ∷ os) rest = mark token.Comma (object o (more_objects os rest))

-- Verb ObjectList
pub record Part : Type 0 where
  pub verb : In is_verb
  pub first : SlotTree
  pub more : List SlotTree

abbrev pub part : Part → List Said → List Said
part v rest = say role.Verb v.verb.token (object v.first (more_objects v.more rest))

-- TriplesSameSubject ::= VarOrTerm Verb ObjectList ( ';' ( Verb ObjectList )? )*
pub record Same : Type 0 where
  pub subject : SlotTree
  pub first : Part
  pub more : List (Option Part)

abbrev pub more_parts : List (Option Part) → List Said → List Said
more_parts [] rest = rest
more_parts (None ∷ ps) rest = mark token.Semicolon (more_parts ps rest)
more_parts (Some v ∷ ps) rest = mark token.Semicolon (part v (more_parts ps rest))

abbrev pub same : Same → List Said → List Said
same s rest = subject s.subject (part s.first (more_parts s.more rest))

-- TriplesBlock ::= TriplesSameSubject ( '.' TriplesSameSubject )* '.'?
pub record Block : Type 0 where
  pub first : Same
  pub more : List Same
  pub dot : Bool

abbrev pub more_same : List Same → List Said → List Said
more_same [] rest = rest
more_same (s ∷ ss) rest = mark token.Dot (same s (more_same ss rest))

abbrev pub block : Block → List Said → List Said
block b rest = same b.first (more_same b.more (optional b.dot token.Dot rest))

abbrev pub optional_block : Option Block → List Said → List Said
optional_block None rest = rest
optional_block (Some b) rest = block b rest

-- GraphGraphPattern ::= 'GRAPH' VarOrIri '{' TriplesBlock '}'. The tree has one without a block too: its '}' is told apart, since it is refused
-- by a name of its own.
-- GroupGraphPattern ::= '{' TriplesBlock? ( GraphGraphPattern '.'? TriplesBlock? )* '}'
pub record GraphTree : Type 0 where
  pub name : In is_graph_name
  pub inside : Option Block
  pub dot : Bool
  pub after : Option Block

pub record Group : Type 0 where
  pub block : Option Block
  pub graphs : List GraphTree

abbrev pub inside : Option Block → List Said → List Said
inside None rest = say role.EmptyGraphEnd token.Close rest
inside (Some b) rest = block b (say role.GraphEnd token.Close rest)

abbrev pub graph : GraphTree → List Said → List Said
graph g rest = mark token.Graph (say role.GraphName g.name.token (mark token.Open
    (inside g.inside (optional g.dot token.Dot (optional_block g.after rest)))))

abbrev pub graphs : List GraphTree → List Said → List Said
graphs [] rest = mark token.Close rest
graphs (g ∷ gs) rest = graph g (graphs gs rest)

abbrev pub group : Group → List Said → List Said
group g rest = mark token.Open (optional_block g.block (graphs g.graphs rest))

-- LimitOffsetClauses ::= ( 'LIMIT' INTEGER )? ( 'OFFSET' INTEGER )? | 'OFFSET' INTEGER 'LIMIT' INTEGER
pub data Cut : Type 0 where
  Cuts : Option (List ℕ) → Option (List ℕ) → Cut
  Turned : List ℕ → List ℕ → Cut

abbrev pub limit : Option (List ℕ) → List Said → List Said
limit None rest = rest
limit (Some n) rest = mark token.Limit (say role.Limit (token.Number number.Digits n) rest)

abbrev pub offset : Option (List ℕ) → List Said → List Said
offset None rest = rest
offset (Some n) rest = mark token.Offset (say role.Offset (token.Number number.Digits n) rest)

abbrev pub cut : Cut → List Said
cut (Cuts l o) = limit l (offset o [])
cut (Turned o l) = offset (Some o) (limit (Some l) [])

-- SelectClause ::= 'SELECT' ( 'DISTINCT' | 'REDUCED' )? ( Var+ | '*' )
pub data Modifier : Type 0 where
  Distinct : Modifier
  Reduced : Modifier

pub data Projection : Type 0 where
  All : Projection
  Vars : List ℕ → List (List ℕ) → Projection

abbrev pub modifier : Option Modifier → List Said → List Said
modifier None rest = rest
modifier (Some Distinct) rest = say role.Distinct token.Distinct rest
modifier (Some Reduced) rest = mark token.Reduced rest

abbrev pub vars : List (List ℕ) → List Said → List Said
vars [] rest = rest
vars (v ∷ vs) rest = say role.Projected (token.Var v) (vars vs rest)

abbrev pub projection : Projection → List Said → List Said
projection All rest = say role.All token.Star rest
projection (Vars v vs) rest = say role.Projected (token.Var v) (vars vs rest)

-- SelectQuery ::= SelectClause 'WHERE'? GroupGraphPattern LimitOffsetClauses
-- ConstructQuery ::= 'CONSTRUCT' '{' TriplesBlock? '}' 'WHERE'? GroupGraphPattern LimitOffsetClauses
--     | 'CONSTRUCT' 'WHERE' '{' TriplesBlock? '}' LimitOffsetClauses
-- AskQuery ::= 'ASK' 'WHERE'? GroupGraphPattern
pub data Kind : Type 0 where
  Select : Option Modifier → Projection → Bool → Group → Cut → Kind
  Construct : Option Block → Bool → Group → Cut → Kind
  Short : Option Block → Cut → Kind
  Ask : Bool → Group → Kind

abbrev pub kind : Kind → List Said
kind (Select m p w g c) = mark token.Select (modifier m (projection p (optional w token.Where (group g (cut c)))))
kind (Construct b w g c) = say role.IsConstruct token.Construct (mark token.Open (optional_block b
    (say role.TemplateEnd token.Close (optional w token.Where (group g (cut c))))))
kind (Short b c) = say role.IsConstruct token.Construct (say role.IsShort token.Where (mark token.Open (optional_block b (mark token.Close (cut c)))))
kind (Ask w g) = say role.IsAsk token.Ask (optional w token.Where (group g []))

-- Query ::= PrefixDecl* ( SelectQuery | ConstructQuery | AskQuery ), PrefixDecl ::= 'PREFIX' PNAME_NS IRIREF
pub record Tree : Type 0 where
  pub prefixes : List (List ℕ × List ℕ)
  pub kind : Kind

abbrev pub prefixes : List (List ℕ × List ℕ) → List Said → List Said
prefixes [] rest = rest
prefixes (p ∷ ps) rest = mark token.Prefix (say role.Declared (token.Namespace p.0) (say role.DeclaredIri (token.Iri p.1) (prefixes ps rest)))

-- the tokens of a query, each with what it is there
abbrev pub said : Tree → List Said
said t = prefixes t.prefixes (kind t.kind)
