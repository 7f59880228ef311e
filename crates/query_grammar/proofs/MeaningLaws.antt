-- What the tokens of a tree add one by one is what its rules say.
use Rattle.std.proofs.Common.{◌≡◌, refl, ◌∙◌, sym, ap, ℕ, Bool, true, false, List, [], ◌∷◌, ◌++◌, append_assoc, append-nil, Option, Some, None, map, fold}
use Rattle.std.specs.List.{flat_map}
use Rattle.rdf_term.specs.declared.term.Term.TheVariants as term
use Rattle.query_tokens.specs.declared.token.Token.TheVariants as token
use Rattle.query_model.specs.declared.query.Slot.{Slot}
use Rattle.query_model.specs.declared.query.Slot.TheVariants as slot
use Rattle.query_model.specs.declared.query.Scope.TheVariants as scope
use Rattle.query_model.specs.declared.query.TriplePattern.{TriplePattern}
use Rattle.query_grammar.specs.declared.mode.Role.TheVariants as role
use Rattle.query_grammar.specs.declared.built.Built.{Built}
use Rattle.query_grammar.specs.declared.built.Form.{Form}
use Rattle.query_grammar.specs.declared.built.Form.TheVariants as form
use Rattle.query_grammar.specs.Said.{Said}
use Rattle.query_grammar.specs.Values.{slot_of, text_of, count_in, declare}
use Rattle.query_grammar.specs.Names.{with_name, firsts}
use Rattle.query_grammar.specs.Built.{add, change_last, object_tagged, object_typed, query_of, empty}
use Rattle.query_grammar.specs.Queries.{built}
use Rattle.query_grammar.proofs.Lasts.{change_last_snoc}
use Rattle.query_grammar.specs.Grammar.{SlotTree, Word, Literal, Bare, Tagged, Typed, Part, Same, Block, GraphTree, Group, Cut, Cuts, Turned, Modifier, Distinct, Reduced, All, Vars, Kind, Select, Construct, Short, Ask, Tree, say, mark, optional, subject, object, more_objects, part, more_parts, same, more_same, block, optional_block, inside, graph, graphs, group, cut, modifier, vars, projection, kind, prefixes, said}
use Rattle.query_grammar.specs.Meaning.{slot_in, pattern_in, part_in, optional_part_in, same_in, block_in, optional_block_in, graph_in, group_in, cut_in, is_distinct, kind_in, declared_in, query_in}

-- b with another subject and verb, and these patterns more
abbrev with_more : Built → List TriplePattern → Slot → Slot → Built
with_more b xs s v = record b { patterns = b.patterns ++ xs; subject = s; verb = v }

-- reading ss adds these patterns, and then reads the rest; subject and verb are left as they may
record Adds (b : Built) (ss rest : List Said) (xs : List TriplePattern) : Type 0 where
  subject : Slot
  verb : Slot
  reads : built b ss ≡ built (with_more b xs subject verb) rest

-- the same, and the subject stays
record Keeps (b : Built) (ss rest : List Said) (xs : List TriplePattern) : Type 0 where
  verb : Slot
  reads : built b ss ≡ built (with_more b xs b.subject verb) rest

-- b with these patterns, and then with more
more_more : (b : Built) (xs ys : List TriplePattern) (s v : Slot) (rest : List Said)
    → built (record b { patterns = (b.patterns ++ xs) ++ ys; subject = s; verb = v }) rest ≡ built (with_more b (xs ++ ys) s v) rest
more_more b xs ys s v rest = ap (λ (l : List TriplePattern). built (record b { patterns = l; subject = s; verb = v }) rest) (append_assoc b.patterns xs ys)

no_more : (b : Built) (rest : List Said) → built b rest ≡ built (with_more b [] b.subject b.verb) rest
no_more b rest = ap (λ (l : List TriplePattern). built (record b { patterns = l }) rest) (sym (append-nil b.patterns))

abbrev with_object : Built → Slot → Built
with_object b o = record b { patterns = b.patterns ++ record { s = b.subject; p = b.verb; o = o; g = b.scope } ∷ [] }

abbrev the_pattern : Built → Slot → TriplePattern
the_pattern b o = record { s = b.subject; p = b.verb; o = o; g = b.scope }

changed : (b : Built) (f : TriplePattern → TriplePattern) (o : Slot) (rest : List Said)
    → built (record b { patterns = change_last f (b.patterns ++ the_pattern b o ∷ []) }) rest ≡ built (record b { patterns = b.patterns ++ f (the_pattern b o) ∷ [] }) rest
changed b f o rest = ap (λ (l : List TriplePattern). built (record b { patterns = l }) rest) (change_last_snoc f b.patterns (the_pattern b o))

object_reads : (b : Built) (o : SlotTree) (rest : List Said) → built b (object o rest) ≡ built (with_object b (slot_in b.prefixes o)) rest
unfolding slot_of text_of add
object_reads b (Word w) rest = refl
object_reads b (Literal t Bare) rest = refl
object_reads b (Literal t (Tagged u)) rest = changed b (object_tagged u) (slot.Fixed (term.Plain t)) rest
object_reads b (Literal t (Typed i)) rest = changed b (object_typed (slot_of b.prefixes i.token)) (slot.Fixed (term.Plain t)) rest

subject_reads : (b : Built) (s : SlotTree) (rest : List Said) → built b (subject s rest) ≡ built (record b { subject = slot_in b.prefixes s }) rest
unfolding slot_of text_of add
subject_reads b (Word w) rest = refl
subject_reads b (Literal t Bare) rest = refl
subject_reads b (Literal t (Tagged u)) rest = refl
subject_reads b (Literal t (Typed i)) rest = refl

abbrev objects_in : Built → List SlotTree → List TriplePattern
objects_in b os = map (pattern_in b.prefixes b.scope b.subject b.verb) os

objects_read : (os : List SlotTree) (b : Built) (rest : List Said) → built b (more_objects os rest) ≡ built (with_more b (objects_in b os) b.subject b.verb) rest
unfolding add
objects_read [] b rest = no_more b rest
objects_read (o ∷ os) b rest =
    object_reads b o (more_objects os rest)
    ∙ objects_read os (with_object b (slot_in b.prefixes o)) rest
    ∙ more_more b (the_pattern b (slot_in b.prefixes o) ∷ []) (objects_in b os) b.subject b.verb rest

part_reads : (v : Part) (b : Built) (rest : List Said)
    → built b (part v rest) ≡ built (with_more b (part_in b.prefixes b.scope b.subject v) b.subject (slot_of b.prefixes v.verb.token)) rest
unfolding add
part_reads v b rest =
    let c : Built = record b { verb = slot_of b.prefixes v.verb.token } in
    object_reads c v.first (more_objects v.more rest)
    ∙ objects_read v.more (with_object c (slot_in b.prefixes v.first)) rest
    ∙ more_more c (the_pattern c (slot_in b.prefixes v.first) ∷ []) (objects_in c v.more) c.subject c.verb rest

parts_keep : (vs : List (Option Part)) (b : Built) (rest : List Said) → Keeps b (more_parts vs rest) rest (flat_map (optional_part_in b.prefixes b.scope b.subject) vs)
unfolding add
parts_keep [] b rest = record { verb = b.verb; reads = no_more b rest }
parts_keep (None ∷ vs) b rest = let w = parts_keep vs b rest in record { verb = w.verb; reads = w.reads }
parts_keep (Some v ∷ vs) b rest =
    let xs = part_in b.prefixes b.scope b.subject v in
    let c : Built = with_more b xs b.subject (slot_of b.prefixes v.verb.token) in
    let w = parts_keep vs c rest in
    record {
      verb = w.verb;
      reads = part_reads v b (more_parts vs rest) ∙ w.reads
          ∙ more_more b xs (flat_map (optional_part_in b.prefixes b.scope b.subject) vs) b.subject w.verb rest;
    }

same_adds : (x : Same) (b : Built) (rest : List Said) → Adds b (same x rest) rest (same_in b.prefixes b.scope x)
same_adds x b rest =
    let s = slot_in b.prefixes x.subject in
    let c : Built = record b { subject = s } in
    let xs = part_in b.prefixes b.scope s x.first in
    let d : Built = with_more c xs s (slot_of b.prefixes x.first.verb.token) in
    let w = parts_keep x.more d rest in
    record {
      subject = s;
      verb = w.verb;
      reads = subject_reads b x.subject (part x.first (more_parts x.more rest)) ∙ part_reads x.first c (more_parts x.more rest) ∙ w.reads
          ∙ more_more b xs (flat_map (optional_part_in b.prefixes b.scope s) x.more) s w.verb rest;
    }

more_add : (xs : List Same) (b : Built) (rest : List Said) → Adds b (more_same xs rest) rest (flat_map (same_in b.prefixes b.scope) xs)
unfolding add
more_add [] b rest = record { subject = b.subject; verb = b.verb; reads = no_more b rest }
more_add (x ∷ xs) b rest =
    let w = same_adds x b (more_same xs rest) in
    let ys = same_in b.prefixes b.scope x in
    let v = more_add xs (with_more b ys w.subject w.verb) rest in
    record {
      subject = v.subject;
      verb = v.verb;
      reads = w.reads ∙ v.reads ∙ more_more b ys (flat_map (same_in b.prefixes b.scope) xs) v.subject v.verb rest;
    }

dot_reads : (b : Built) (d : Bool) (rest : List Said) → built b (optional d token.Dot rest) ≡ built b rest
unfolding add
dot_reads b true rest = refl
dot_reads b false rest = refl

where_reads : (b : Built) (d : Bool) (rest : List Said) → built b (optional d token.Where rest) ≡ built b rest
unfolding add
where_reads b true rest = refl
where_reads b false rest = refl

block_adds : (x : Block) (b : Built) (rest : List Said) → Adds b (block x rest) rest (block_in b.prefixes b.scope x)
block_adds x b rest =
    let after = optional x.dot token.Dot rest in
    let w = same_adds x.first b (more_same x.more after) in
    let ys = same_in b.prefixes b.scope x.first in
    let v = more_add x.more (with_more b ys w.subject w.verb) after in
    let zs = ys ++ flat_map (same_in b.prefixes b.scope) x.more in
    record {
      subject = v.subject;
      verb = v.verb;
      reads = w.reads ∙ v.reads ∙ more_more b ys (flat_map (same_in b.prefixes b.scope) x.more) v.subject v.verb after
          ∙ dot_reads (with_more b zs v.subject v.verb) x.dot rest;
    }

optional_adds : (x : Option Block) (b : Built) (rest : List Said) → Adds b (optional_block x rest) rest (optional_block_in b.prefixes b.scope x)
optional_adds None b rest = record { subject = b.subject; verb = b.verb; reads = no_more b rest }
optional_adds (Some x) b rest = let w = block_adds x b rest in record { subject = w.subject; verb = w.verb; reads = w.reads }

-- outside GRAPH
abbrev outside : Built → Built
outside b = record b { scope = scope.Any }

inside_adds : (x : Option Block) (b : Built) (rest : List Said) → (s : Slot) × (v : Slot)
    × (built b (inside x rest) ≡ built (outside (with_more b (optional_block_in b.prefixes b.scope x) s v)) rest)
unfolding add
inside_adds None b rest = (b.subject, b.verb, no_more (outside b) rest)
inside_adds (Some x) b rest = let w = block_adds x b (say role.GraphEnd token.Close rest) in (w.subject, w.verb, w.reads)

graph_adds : (t : GraphTree) (b : Built) (rest : List Said) → Adds (outside b) (graph t rest) rest (graph_in b.prefixes t)
unfolding add
graph_adds t b rest =
    let g = scope.Graph (slot_of b.prefixes t.name.token) in
    let c : Built = record b { scope = g } in
    let after = optional_block t.after rest in
    let xs = optional_block_in b.prefixes g t.inside in
    let w = inside_adds t.inside c (optional t.dot token.Dot after) in
    let d : Built = outside (with_more b xs w.0 w.1) in
    let v = optional_adds t.after d rest in
    record {
      subject = v.subject;
      verb = v.verb;
      reads = w.2 ∙ dot_reads d t.dot after ∙ v.reads ∙ more_more (outside b) xs (optional_block_in b.prefixes scope.Any t.after) v.subject v.verb rest;
    }

graphs_add : (ts : List GraphTree) (b : Built) (rest : List Said) → Adds (outside b) (graphs ts rest) (mark token.Close rest) (flat_map (graph_in b.prefixes) ts)
graphs_add [] b rest = record { subject = b.subject; verb = b.verb; reads = no_more (outside b) (mark token.Close rest) }
graphs_add (t ∷ ts) b rest =
    let w = graph_adds t b (graphs ts rest) in
    let xs = graph_in b.prefixes t in
    let v = graphs_add ts (with_more b xs w.subject w.verb) rest in
    record {
      subject = v.subject;
      verb = v.verb;
      reads = w.reads ∙ v.reads ∙ more_more (outside b) xs (flat_map (graph_in b.prefixes) ts) v.subject v.verb (mark token.Close rest);
    }

-- a group adds its patterns, outside GRAPH
group_adds : (g : Group) (b : Built) (rest : List Said) → Adds (outside b) (group g rest) rest (group_in b.prefixes g)
unfolding add
group_adds g b rest =
    let xs = optional_block_in b.prefixes scope.Any g.block in
    let w = optional_adds g.block (outside b) (graphs g.graphs rest) in
    let v = graphs_add g.graphs (with_more b xs w.subject w.verb) rest in
    record {
      subject = v.subject;
      verb = v.verb;
      reads = w.reads ∙ v.reads ∙ more_more (outside b) xs (flat_map (graph_in b.prefixes) g.graphs) v.subject v.verb rest;
    }

-- LIMIT and OFFSET
cut_reads : (c : Cut) (b : Built) → built (record b { limit = None; offset = 0 }) (cut c) ≡ record b { limit = (cut_in c).limit; offset = (cut_in c).offset }
unfolding count_in text_of add
cut_reads (Cuts None None) b = refl
cut_reads (Cuts None (Some o)) b = refl
cut_reads (Cuts (Some l) None) b = refl
cut_reads (Cuts (Some l) (Some o)) b = refl
cut_reads (Turned o l) b = refl

vars_read : (vs : List (List ℕ)) (b : Built) (rest : List Said) → built b (vars vs rest) ≡ built (record b { vars = fold with_name b.vars vs }) rest
unfolding text_of add query_of
vars_read [] b rest = refl
vars_read (v ∷ vs) b rest = vars_read vs (record b { vars = with_name b.vars v }) rest

-- behind the first words
abbrev begun : Built → Form → Built
begun b f = record b { form = f }

abbrev started : List (List ℕ × List ℕ) → List ℕ → Built
started ns p = record empty { prefixes = ns; pending = p }

group_cut : (g : Group) (c : Cut) (b : Built) → (s : Slot) × (v : Slot)
    × (built (record b { scope = scope.Any; limit = None; offset = 0 }) (group g (cut c))
    ≡ record b { scope = scope.Any; patterns = b.patterns ++ group_in b.prefixes g; subject = s; verb = v; limit = (cut_in c).limit; offset = (cut_in c).offset })
group_cut g c b =
    let w = group_adds g (record b { limit = None; offset = 0 }) (cut c) in
    (w.subject, w.verb, w.reads ∙ cut_reads c (record b { scope = scope.Any; patterns = b.patterns ++ group_in b.prefixes g; subject = w.subject; verb = w.verb }))

modifier_reads : (m : Option Modifier) (b : Built) (rest : List Said) → b.distinct ≡ false → built b (modifier m rest) ≡ built (record b { distinct = is_distinct m }) rest
unfolding add
modifier_reads None b rest e = ap (λ (d : Bool). built (record b { distinct = d }) rest) e
modifier_reads (Some Distinct) b rest e = refl
modifier_reads (Some Reduced) b rest e = ap (λ (d : Bool). built (record b { distinct = d }) rest) e

kind_reads : (k : Kind) (ns : List (List ℕ × List ℕ)) (p : List ℕ) → query_of (built (started ns p) (kind k)) ≡ kind_in ns k
unfolding text_of add query_of
kind_reads (Select m All w g c) ns p =
    let rest = optional w token.Where (group g (cut c)) in
    let b : Built = record (started ns p) { distinct = is_distinct m; all = true } in
    let v = group_cut g c b in
    ap query_of (modifier_reads m (started ns p) (projection All rest) refl ∙ where_reads b w (group g (cut c)) ∙ v.2)
kind_reads (Select m (Vars x xs) w g c) ns p =
    let rest = optional w token.Where (group g (cut c)) in
    let b : Built = record (started ns p) { distinct = is_distinct m; vars = firsts (x ∷ xs) } in
    let v = group_cut g c b in
    ap query_of (modifier_reads m (started ns p) (projection (Vars x xs) rest) refl
    ∙ vars_read xs (record (started ns p) { distinct = is_distinct m; vars = with_name [] x }) rest
    ∙ where_reads b w (group g (cut c)) ∙ v.2)
kind_reads (Construct t w g c) ns p =
    let rest = optional w token.Where (group g (cut c)) in
    let b : Built = record (started ns p) { form = form.Template } in
    let u = optional_adds t b (say role.TemplateEnd token.Close rest) in
    let d : Built = record (started ns p) { form = form.Construct; template = optional_block_in ns scope.Any t; subject = u.subject; verb = u.verb } in
    let v = group_cut g c d in
    ap query_of (u.reads ∙ where_reads d w (group g (cut c)) ∙ v.2)
kind_reads (Short t c) ns p =
    let b : Built = record (started ns p) { form = form.Short } in
    let u = optional_adds t b (mark token.Close (cut c)) in
    ap query_of (u.reads ∙ cut_reads c (record b { patterns = optional_block_in ns scope.Any t; subject = u.subject; verb = u.verb }))
kind_reads (Ask w g) ns p =
    let b : Built = record (started ns p) { form = form.Ask } in
    let v = group_adds g b [] in
    ap query_of (where_reads b w (group g []) ∙ v.reads)

prefixes_read : (ps ns : List (List ℕ × List ℕ)) (p : List ℕ) (k : Kind) → query_of (built (started ns p) (prefixes ps (kind k))) ≡ kind_in (declared_in ns ps) k
unfolding text_of add query_of
prefixes_read [] ns p k = kind_reads k ns p
prefixes_read (x ∷ ps) ns p k = prefixes_read ps (declare ns x.0 x.1) x.0 k

-- What is read of a tree is the query that it is by its rules.
pub tree_reads : (t : Tree) → query_of (built empty (said t)) ≡ query_in t
tree_reads t = prefixes_read t.prefixes [] [] t.kind
