-- What is left of a query's tree, by where its tokens so far stop.
use Rattle.std.proofs.Common.{ℕ, Bool, true, false, List, [], Option, Some, None, ◌⊎◌, inl, inr}
use Rattle.query_tokens.specs.declared.token.Token.TheVariants as token
use Rattle.query_tokens.specs.declared.token.Number.TheVariants as number
use Rattle.query_grammar.specs.declared.mode.Role.{Role}
use Rattle.query_grammar.specs.declared.mode.Role.TheVariants as role
use Rattle.query_grammar.specs.declared.mode.Ending.{Ending}
use Rattle.query_grammar.specs.declared.mode.Ending.TheVariants as ending
use Rattle.query_grammar.specs.declared.mode.Place.{Place}
use Rattle.query_grammar.specs.declared.mode.Place.TheVariants as place
use Rattle.query_grammar.specs.declared.mode.Mode.{Mode}
use Rattle.query_grammar.specs.declared.mode.Mode.TheVariants as mode
use Rattle.query_grammar.specs.Classes.{is_iri, is_graph_name}
use Rattle.query_grammar.specs.Said.{Said}
use Rattle.query_grammar.specs.Grammar.{In, Suffix, SlotTree, Part, Same, Block, GraphTree, Group, Cut, Modifier, Projection, Tree, say, mark, optional, suffix_as, object, more_objects, part, more_parts, more_same, optional_block, inside, graphs, group, limit, offset, cut, modifier, vars, projection, said}

abbrev pub ToEnd : Ending → Type 0
ToEnd ending.Cut = Cut
ToEnd ending.Nothing = Unit {0}

abbrev pub end_said : (e : Ending) → ToEnd e → List Said
end_said ending.Cut c = cut c
end_said ending.Nothing u = []

-- behind a block
abbrev pub Exit : Ending → Place → Type 0
Exit e place.InGroup = List GraphTree × ToEnd e
Exit e place.InGraph = Bool × Option Block × List GraphTree × ToEnd e
Exit e place.InTemplate = Bool × Group × ToEnd e
Exit e place.InShort = ToEnd e

abbrev pub exit_said : (e : Ending) (p : Place) → Exit e p → List Said
exit_said e place.InGroup x = graphs x.0 (end_said e x.1)
exit_said e place.InGraph x = say role.GraphEnd token.Close (optional x.0 token.Dot (optional_block x.1 (graphs x.2 (end_said e x.3))))
exit_said e place.InTemplate x = say role.TemplateEnd token.Close (optional x.0 token.Where (group x.1 (end_said e x.2)))
exit_said e place.InShort x = mark token.Close (end_said e x)

-- behind the objects of a verb
pub record Rest (e : Ending) (p : Place) : Type 0 where
  pub parts : List (Option Part)
  pub sames : List Same
  pub dot : Bool
  pub exit : Exit e p

abbrev pub rest_said : (e : Ending) (p : Place) → Rest e p → List Said
rest_said e p r = more_parts r.parts (more_same r.sames (optional r.dot token.Dot (exit_said e p r.exit)))

abbrev pub SuffixIf : Bool → Type 0
SuffixIf true = Suffix
SuffixIf false = Unit {0}

abbrev pub suffix_if : Role → Role → (b : Bool) → SuffixIf b → List Said → List Said
suffix_if tag type true s rest = suffix_as tag type s rest
suffix_if tag type false s rest = rest

-- behind the '{' of a GRAPH
pub record InGraph (e : Ending) : Type 0 where
  pub inside : Option Block
  pub dot : Bool
  pub after : Option Block
  pub graphs : List GraphTree
  pub end : ToEnd e

abbrev pub in_graph_said : (e : Ending) → InGraph e → List Said
in_graph_said e g = inside g.inside (optional g.dot token.Dot (optional_block g.after (graphs g.graphs (end_said e g.end))))

abbrev pub Tail : Mode → Type 0
Tail mode.Head = Tree
Tail mode.NamespaceDue = List ℕ × List ℕ × Tree
Tail mode.IriDue = List ℕ × Tree
Tail mode.SelectDue = Option Modifier × Projection × Bool × Group × Cut
Tail mode.FirstVar = Projection × Bool × Group × Cut
Tail mode.MoreVars = List (List ℕ) × Bool × Group × Cut
Tail mode.TemplateDue = (Option Block × Bool × Group × Cut) ⊎ (Option Block × Cut)
Tail mode.ShortDue = Option Block × Cut
Tail (mode.GroupDue e) = Bool × Group × ToEnd e
Tail (mode.OpenDue e) = Group × ToEnd e
Tail (mode.BlockDue e p) = Option Block × Exit e p
Tail (mode.GraphDue e) = In is_graph_name × InGraph e
Tail (mode.GraphOpenDue e) = InGraph e
Tail (mode.GraphStart e) = InGraph e
Tail (mode.AfterGraph e) = Exit e place.InGraph
Tail (mode.AfterSubject b e p) = SuffixIf b × Part × Rest e p
Tail (mode.SubjectTypeDue e p) = In is_iri × Part × Rest e p
Tail (mode.AfterVerb e p) = SlotTree × List SlotTree × Rest e p
Tail (mode.AfterObject b e p) = SuffixIf b × List SlotTree × Rest e p
Tail (mode.ObjectTypeDue e p) = In is_iri × List SlotTree × Rest e p
Tail (mode.AfterComma e p) = SlotTree × List SlotTree × Rest e p
Tail (mode.AfterSemicolon e p) = Option Part × Rest e p
Tail mode.CutDue = Cut
Tail mode.LimitDue = List ℕ × Option (List ℕ)
Tail mode.AfterLimit = Option (List ℕ)
Tail mode.LastOffsetDue = List ℕ
Tail mode.OffsetDue = List ℕ × Option (List ℕ)
Tail mode.AfterOffset = Option (List ℕ)
Tail mode.LastLimitDue = List ℕ
Tail mode.Ended = Unit {0}

abbrev pub optional_part : Option Part → List Said → List Said
optional_part None rest = rest
optional_part (Some v) rest = part v rest

abbrev pub count : Role → List ℕ → List Said → List Said
count r n rest = say r (token.Number number.Digits n) rest

-- behind CONSTRUCT WHERE
abbrev pub short_said : Option Block × Cut → List Said
short_said x = mark token.Open (optional_block x.0 (mark token.Close (cut x.1)))

-- behind CONSTRUCT
abbrev pub template_said : (Option Block × Bool × Group × Cut) ⊎ (Option Block × Cut) → List Said
template_said (inl x) = mark token.Open (optional_block x.0 (say role.TemplateEnd token.Close (optional x.1 token.Where (group x.2 (cut x.3)))))
template_said (inr x) = say role.IsShort token.Where (short_said x)

abbrev pub tail_said : (m : Mode) → Tail m → List Said
tail_said mode.Head x = said x
tail_said mode.NamespaceDue x = say role.Declared (token.Namespace x.0) (say role.DeclaredIri (token.Iri x.1) (said x.2))
tail_said mode.IriDue x = say role.DeclaredIri (token.Iri x.0) (said x.1)
tail_said mode.SelectDue x = modifier x.0 (projection x.1 (optional x.2 token.Where (group x.3 (cut x.4))))
tail_said mode.FirstVar x = projection x.0 (optional x.1 token.Where (group x.2 (cut x.3)))
tail_said mode.MoreVars x = vars x.0 (optional x.1 token.Where (group x.2 (cut x.3)))
tail_said mode.TemplateDue x = template_said x
tail_said mode.ShortDue x = short_said x
tail_said (mode.GroupDue e) x = optional x.0 token.Where (group x.1 (end_said e x.2))
tail_said (mode.OpenDue e) x = group x.0 (end_said e x.1)
tail_said (mode.BlockDue e p) x = optional_block x.0 (exit_said e p x.1)
tail_said (mode.GraphDue e) x = say role.GraphName x.0.token (mark token.Open (in_graph_said e x.1))
tail_said (mode.GraphOpenDue e) x = mark token.Open (in_graph_said e x)
tail_said (mode.GraphStart e) x = in_graph_said e x
tail_said (mode.AfterGraph e) x = optional x.0 token.Dot (optional_block x.1 (graphs x.2 (end_said e x.3)))
tail_said (mode.AfterSubject b e p) x = suffix_if role.SubjectTag role.SubjectType b x.0 (part x.1 (rest_said e p x.2))
tail_said (mode.SubjectTypeDue e p) x = say role.SubjectType x.0.token (part x.1 (rest_said e p x.2))
tail_said (mode.AfterVerb e p) x = object x.0 (more_objects x.1 (rest_said e p x.2))
tail_said (mode.AfterObject b e p) x = suffix_if role.ObjectTag role.ObjectType b x.0 (more_objects x.1 (rest_said e p x.2))
tail_said (mode.ObjectTypeDue e p) x = say role.ObjectType x.0.token (more_objects x.1 (rest_said e p x.2))
tail_said (mode.AfterComma e p) x = object x.0 (more_objects x.1 (rest_said e p x.2))
tail_said (mode.AfterSemicolon e p) x = optional_part x.0 (rest_said e p x.1)
tail_said mode.CutDue x = cut x
tail_said mode.LimitDue x = count role.Limit x.0 (offset x.1 [])
tail_said mode.AfterLimit x = offset x []
tail_said mode.LastOffsetDue x = count role.Offset x []
tail_said mode.OffsetDue x = count role.Offset x.0 (limit x.1 [])
tail_said mode.AfterOffset x = limit x []
tail_said mode.LastLimitDue x = count role.Limit x []
tail_said mode.Ended x = []
