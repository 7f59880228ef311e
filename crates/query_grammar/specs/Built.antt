-- What the tokens of a query add one by one, each by what it is there, and which of them are refused although the grammar takes them.
use Rattle.std.specs.Prelude.{ℕ, Bool, true, false, ◌==◌, ◌&&◌, if◌then◌else◌, List, [], ◌∷◌, ◌++◌, Option, Some, None, length}
use Rattle.std.specs.Option.{is_some, unwrap_or}
use Rattle.rdf_term.specs.declared.term.Term.TheVariants as term
use Rattle.query_tokens.specs.declared.token.Token.{Token}
use Rattle.query_model.specs.declared.query.Slot.{Slot}
use Rattle.query_model.specs.declared.query.Slot.TheVariants as slot
use Rattle.query_model.specs.declared.query.Scope.TheVariants as scope
use Rattle.query_model.specs.declared.query.TriplePattern.{TriplePattern}
use Rattle.query_model.specs.declared.query.Cut.{Cut}
use Rattle.query_model.specs.declared.query.Query.{Query}
use Rattle.query_model.specs.declared.query.Query.TheVariants as query
use Rattle.query_grammar.specs.declared.mode.Role.{Role}
use Rattle.query_grammar.specs.declared.mode.Role.TheVariants as role
use Rattle.query_grammar.specs.declared.fault.Kind.{Kind}
use Rattle.query_grammar.specs.declared.fault.Kind.TheVariants as fault
use Rattle.query_grammar.specs.declared.built.Form.{Form}
use Rattle.query_grammar.specs.declared.built.Form.TheVariants as form
use Rattle.query_grammar.specs.declared.built.Built.{Built}
use Rattle.query_grammar.specs.Classes.{is_label}
use Rattle.query_grammar.specs.Values.{declare, slot_of, part_refusal, unless, text_of, count_in, with_tag, with_type}
use Rattle.query_grammar.specs.Names.{with_name, standing}

-- whether a template is read; the block of CONSTRUCT WHERE is template and group
abbrev pub is_template : Form → Bool
is_template form.Template = true
is_template form.Short = true
is_template form.Select = false
is_template form.Ask = false
is_template form.Construct = false

-- whether a token is a slot there, or the datatype of one
abbrev pub is_slot_role : Role → Bool
is_slot_role role.Subject = true
is_slot_role role.SubjectType = true
is_slot_role role.Verb = true
is_slot_role role.Object = true
is_slot_role role.ObjectType = true
is_slot_role role.GraphName = true
is_slot_role _ = false

-- a subject or an object: a template holds no label
unfoldable pub slot_refusal : Built → Token → Option Kind
slot_refusal b t = if is_template b.form && is_label t then Some fault.Unsupported else part_refusal b.prefixes t

-- Why a token that the grammar takes is refused: the '}' of an empty GRAPH, more than 18 digits, the object of the 257th pattern, a label in a
-- template, and what is refused wherever it is taken. The prefix that PREFIX declares needn't be declared.
unfoldable pub refusal : Built → Role → Token → Option Kind
refusal b role.Declared t = None
refusal b role.EmptyGraphEnd t = Some fault.Unsupported
refusal b role.Limit t = unless (is_some (count_in t)) fault.Unsupported
refusal b role.Offset t = unless (is_some (count_in t)) fault.Unsupported
refusal b role.Object t = if length b.patterns == 256 then Some fault.Unsupported else slot_refusal b t
refusal b role.Subject t = slot_refusal b t
refusal b _ t = part_refusal b.prefixes t

-- the list with another last item
unfoldable pub change_last : (TriplePattern → TriplePattern) → List TriplePattern → List TriplePattern
change_last f [] = []
change_last f (x ∷ []) = f x ∷ []
change_last f (x ∷ y ∷ ys) = x ∷ change_last f (y ∷ ys)

abbrev pub object_tagged : List ℕ → TriplePattern → TriplePattern
object_tagged tag x = record x { o = with_tag x.o tag }

abbrev pub object_typed : Slot → TriplePattern → TriplePattern
object_typed datatype x = record x { o = with_type x.o datatype }

-- what a token adds, by what it is there
unfoldable pub add : Built → Role → Token → Built
add b role.Plain t = b
add b role.Declared t = record b { pending = text_of t }
add b role.DeclaredIri t = record b { prefixes = declare b.prefixes b.pending (text_of t) }
add b role.Distinct t = record b { distinct = true }
add b role.All t = record b { all = true }
add b role.Projected t = record b { vars = with_name b.vars (text_of t) }
add b role.IsAsk t = record b { form = form.Ask }
add b role.IsConstruct t = record b { form = form.Template }
add b role.IsShort t = record b { form = form.Short }
add b role.TemplateEnd t = record b { form = form.Construct; template = b.patterns; patterns = [] }
add b role.GraphName t = record b { scope = scope.Graph (slot_of b.prefixes t) }
add b role.GraphEnd t = record b { scope = scope.Any }
add b role.EmptyGraphEnd t = record b { scope = scope.Any }
add b role.Subject t = record b { subject = slot_of b.prefixes t }
add b role.SubjectTag t = record b { subject = with_tag b.subject (text_of t) }
add b role.SubjectType t = record b { subject = with_type b.subject (slot_of b.prefixes t) }
add b role.Verb t = record b { verb = slot_of b.prefixes t }
add b role.Object t = record b { patterns = b.patterns ++ record { s = b.subject; p = b.verb; o = slot_of b.prefixes t; g = b.scope } ∷ [] }
add b role.ObjectTag t = record b { patterns = change_last (object_tagged (text_of t)) b.patterns }
add b role.ObjectType t = record b { patterns = change_last (object_typed (slot_of b.prefixes t)) b.patterns }
add b role.Limit t = record b { limit = count_in t }
add b role.Offset t = record b { offset = unwrap_or (count_in t) 0 }

abbrev pub cut_of : Built → Cut
cut_of b = record { limit = b.limit; offset = b.offset }

abbrev pub projected : Built → List (List ℕ)
projected b = if b.all then standing b.patterns else b.vars

abbrev pub query_as : Form → Built → Query
query_as form.Select b = query.Select b.distinct (projected b) b.patterns (cut_of b)
query_as form.Ask b = query.Ask b.patterns
query_as form.Template b = query.Construct b.template b.patterns (cut_of b)
query_as form.Construct b = query.Construct b.template b.patterns (cut_of b)
query_as form.Short b = query.Construct b.patterns b.patterns (cut_of b)

unfoldable pub query_of : Built → Query
query_of b = query_as b.form b

-- before the first token
abbrev pub empty : Built
empty = record {
  prefixes = [];
  pending = [];
  form = form.Select;
  distinct = false;
  all = false;
  vars = [];
  template = [];
  patterns = [];
  subject = slot.Fixed (term.Plain []);
  verb = slot.Fixed (term.Plain []);
  scope = scope.Any;
  limit = None;
  offset = 0;
}
