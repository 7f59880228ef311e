-- One step a token: what a token is after such tokens, and where it leads. That these steps are those of the grammar is proved.
use Rattle.std.specs.Prelude.{Bool, true, false, Option, Some, None, if◌then◌else◌}
use Rattle.query_tokens.specs.declared.token.Token.{Token}
use Rattle.query_tokens.specs.declared.token.Token.TheVariants as token
use Rattle.query_tokens.specs.declared.token.Number.TheVariants as number
use Rattle.query_grammar.specs.declared.mode.Role.{Role}
use Rattle.query_grammar.specs.declared.mode.Role.TheVariants as role
use Rattle.query_grammar.specs.declared.mode.Ending.{Ending}
use Rattle.query_grammar.specs.declared.mode.Ending.TheVariants as ending
use Rattle.query_grammar.specs.declared.mode.Place.{Place}
use Rattle.query_grammar.specs.declared.mode.Place.TheVariants as place
use Rattle.query_grammar.specs.declared.mode.Mode.{Mode}
use Rattle.query_grammar.specs.declared.mode.Mode.TheVariants as mode
use Rattle.query_grammar.specs.Classes.{is_iri, is_verb, is_graph_name, is_word}

-- a token that is this, and leads there
abbrev pub go : Role → Mode → Option (Role × Mode)
go r m = Some (r, m)

abbrev pub when : Bool → Role → Mode → Option (Role × Mode)
when b r m = if b then Some (r, m) else None

-- a slot: a string, which a tag or a datatype may follow, or a word
abbrev pub slot_then : Token → Role → Mode → Mode → Option (Role × Mode)
slot_then (token.Str s) r after_string after = go r after_string
slot_then t r after_string after = when (is_word t) r after

abbrev pub opened : Token → Mode → Option (Role × Mode)
opened token.Open m = go role.Plain m
opened _ m = None

abbrev pub counted : Token → Role → Mode → Option (Role × Mode)
counted (token.Number number.Digits n) r m = go r m
counted _ r m = None

-- behind the last brace
abbrev pub end_of : Ending → Mode
end_of ending.Cut = mode.CutDue
end_of ending.Nothing = mode.Ended

-- what may end a block
abbrev pub block_ends : Token → Ending → Place → Option (Role × Mode)
block_ends token.Dot e p = go role.Plain (mode.BlockDue e p)
block_ends token.Close e place.InGroup = go role.Plain (end_of e)
block_ends token.Close e place.InGraph = go role.GraphEnd (mode.AfterGraph e)
block_ends token.Close e place.InTemplate = go role.TemplateEnd (mode.GroupDue e)
block_ends token.Close e place.InShort = go role.Plain (end_of e)
block_ends token.Graph e place.InGroup = go role.Plain (mode.GraphDue e)
block_ends t e p = None

abbrev pub next : Mode → Token → Option (Role × Mode)
next mode.Head token.Prefix = go role.Plain mode.NamespaceDue
next mode.Head token.Select = go role.Plain mode.SelectDue
next mode.Head token.Construct = go role.IsConstruct mode.TemplateDue
next mode.Head token.Ask = go role.IsAsk (mode.GroupDue ending.Nothing)
next mode.NamespaceDue (token.Namespace p) = go role.Declared mode.IriDue
next mode.IriDue (token.Iri i) = go role.DeclaredIri mode.Head
next mode.SelectDue token.Distinct = go role.Distinct mode.FirstVar
next mode.SelectDue token.Reduced = go role.Plain mode.FirstVar
next mode.SelectDue token.Star = go role.All (mode.GroupDue ending.Cut)
next mode.SelectDue (token.Var v) = go role.Projected mode.MoreVars
next mode.FirstVar token.Star = go role.All (mode.GroupDue ending.Cut)
next mode.FirstVar (token.Var v) = go role.Projected mode.MoreVars
next mode.MoreVars (token.Var v) = go role.Projected mode.MoreVars
next mode.MoreVars token.Where = go role.Plain (mode.OpenDue ending.Cut)
next mode.MoreVars token.Open = go role.Plain (mode.BlockDue ending.Cut place.InGroup)
next mode.TemplateDue token.Open = go role.Plain (mode.BlockDue ending.Cut place.InTemplate)
next mode.TemplateDue token.Where = go role.IsShort mode.ShortDue
next mode.ShortDue t = opened t (mode.BlockDue ending.Cut place.InShort)
next (mode.GroupDue e) token.Where = go role.Plain (mode.OpenDue e)
next (mode.GroupDue e) token.Open = go role.Plain (mode.BlockDue e place.InGroup)
next (mode.OpenDue e) t = opened t (mode.BlockDue e place.InGroup)
next (mode.BlockDue e p) token.Close = block_ends token.Close e p
next (mode.BlockDue e p) token.Graph = block_ends token.Graph e p
next (mode.BlockDue e p) t = slot_then t role.Subject (mode.AfterSubject true e p) (mode.AfterSubject false e p)
next (mode.GraphDue e) t = when (is_graph_name t) role.GraphName (mode.GraphOpenDue e)
next (mode.GraphOpenDue e) t = opened t (mode.GraphStart e)
next (mode.GraphStart e) token.Close = go role.EmptyGraphEnd (mode.AfterGraph e)
next (mode.GraphStart e) t = slot_then t role.Subject (mode.AfterSubject true e place.InGraph) (mode.AfterSubject false e place.InGraph)
next (mode.AfterGraph e) token.Dot = block_ends token.Dot e place.InGroup
next (mode.AfterGraph e) token.Close = block_ends token.Close e place.InGroup
next (mode.AfterGraph e) token.Graph = block_ends token.Graph e place.InGroup
next (mode.AfterGraph e) t = slot_then t role.Subject (mode.AfterSubject true e place.InGroup) (mode.AfterSubject false e place.InGroup)
next (mode.AfterSubject true e p) (token.Tag g) = go role.SubjectTag (mode.AfterSubject false e p)
next (mode.AfterSubject true e p) token.Carets = go role.Plain (mode.SubjectTypeDue e p)
next (mode.AfterSubject b e p) t = when (is_verb t) role.Verb (mode.AfterVerb e p)
next (mode.SubjectTypeDue e p) t = when (is_iri t) role.SubjectType (mode.AfterSubject false e p)
next (mode.AfterVerb e p) t = slot_then t role.Object (mode.AfterObject true e p) (mode.AfterObject false e p)
next (mode.AfterObject true e p) (token.Tag g) = go role.ObjectTag (mode.AfterObject false e p)
next (mode.AfterObject true e p) token.Carets = go role.Plain (mode.ObjectTypeDue e p)
next (mode.AfterObject b e p) token.Comma = go role.Plain (mode.AfterComma e p)
next (mode.AfterObject b e p) token.Semicolon = go role.Plain (mode.AfterSemicolon e p)
next (mode.AfterObject b e p) t = block_ends t e p
next (mode.ObjectTypeDue e p) t = when (is_iri t) role.ObjectType (mode.AfterObject false e p)
next (mode.AfterComma e p) t = slot_then t role.Object (mode.AfterObject true e p) (mode.AfterObject false e p)
next (mode.AfterSemicolon e p) token.Semicolon = go role.Plain (mode.AfterSemicolon e p)
next (mode.AfterSemicolon e p) token.Dot = block_ends token.Dot e p
next (mode.AfterSemicolon e p) token.Close = block_ends token.Close e p
next (mode.AfterSemicolon e p) token.Graph = block_ends token.Graph e p
next (mode.AfterSemicolon e p) t = when (is_verb t) role.Verb (mode.AfterVerb e p)
next mode.CutDue token.Limit = go role.Plain mode.LimitDue
next mode.CutDue token.Offset = go role.Plain mode.OffsetDue
next mode.LimitDue t = counted t role.Limit mode.AfterLimit
next mode.AfterLimit token.Offset = go role.Plain mode.LastOffsetDue
next mode.LastOffsetDue t = counted t role.Offset mode.Ended
next mode.OffsetDue t = counted t role.Offset mode.AfterOffset
next mode.AfterOffset token.Limit = go role.Plain mode.LastLimitDue
next mode.LastLimitDue t = counted t role.Limit mode.Ended
next _ _ = None

-- where a query may end
abbrev pub can_end : Mode → Bool
can_end mode.CutDue = true
can_end mode.AfterLimit = true
can_end mode.AfterOffset = true
can_end mode.Ended = true
can_end _ = false
