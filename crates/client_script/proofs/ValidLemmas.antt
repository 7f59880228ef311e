-- What the command of a line holds.
use Rattle.std.proofs.Common.{◌≡◌, ℕ, List, Bool, true, false, ◌&&◌, Option, Some, None, refl, ap, subst, take, drop, ◌+◌}
use Rattle.std.specs.Prelude.{if◌then◌else◌, position}
use Rattle.std.specs.Str.{all_scalars, chars, is_utf8}
use Rattle.std.proofs.lemmas.Option.{same_Some}
use Rattle.std.proofs.lemmas.Str.{IsUtf8-from_is_utf8, scalars-chars}
use Rattle.rdf_term.specs.declared.term.Term.TheVariants.{Iri}
use Rattle.rdf_term.specs.Validity.{is_iri_text, is_short, IsValidTerm}
use Rattle.nquads_line.specs.declared.kind.Kind.TheVariants.{Quads as AsQuads}
use Rattle.nquads_line.specs.Laws.{LinesAreValid}
use Rattle.query_text.specs.Laws.{ParsedAreWellFormed}
use Rattle.api_paths.specs.Prefixes.{is_prefix}
use Rattle.api_paths.specs.Targets.{text_of}
use Rattle.client_script.specs.declared.command.Command.{Command}
use Rattle.client_script.specs.declared.command.Command.TheVariants as command
use Rattle.client_script.specs.Lines.{IsInTable, IsValidCommand, both, if_text, iri_text, is_space, naming_at, prefix_text}

picked : (b : Bool) (t text : List ℕ) → (if b then Some t else None) ≡ Some text → (b ≡ true) × (t ≡ text)
picked true t text e = (refl, same_Some t text e)
picked false t text e = cc

split : (a b : Bool) → (a && b) ≡ true → (a ≡ true) × (b ≡ true)
split true b e = (refl, e)
split false b e = cc

join : (a b : Bool) → a ≡ true → b ≡ true → (a && b) ≡ true
join true b e h = h
join false b e h = cc

-- a text of which a test holds
held_text : (holds : List ℕ → Bool) (o : Option (List ℕ)) (text : List ℕ) → if_text holds o ≡ Some text → (o ≡ Some text) × (holds text ≡ true)
held_text holds None text e = cc
held_text holds (Some t) text e =
    let found = picked (holds t) t text e in
    (ap Some found.1, subst (λ (x : List ℕ). holds x ≡ true) found.1 found.0)

-- a text is of Unicode scalar values
text_scalars : (bytes text : List ℕ) → text_of bytes ≡ Some text → all_scalars text ≡ true
text_scalars bytes text e =
    let found = picked (is_utf8 bytes) (chars bytes) text e in
    subst (λ (x : List ℕ). all_scalars x ≡ true) found.1 (scalars-chars bytes (IsUtf8-from_is_utf8 bytes found.0))

both_are : (a b : Option (List ℕ)) (p iri : List ℕ) → both a b ≡ Some (p, iri) → (a ≡ Some p) × (b ≡ Some iri)
both_are None b p iri e = cc
both_are (Some x) None p iri e = cc
both_are (Some x) (Some y) p iri e =
    let same : (x, y) ≡ (p, iri) = same_Some (x, y) (p, iri) e in
    (ap (λ (z : List ℕ × List ℕ). Some z.0) same, ap (λ (z : List ℕ × List ℕ). Some z.1) same)

prefix_is : (bytes p : List ℕ) → prefix_text bytes ≡ Some p → (all_scalars p ≡ true) × (is_prefix p ≡ true)
prefix_is bytes p e =
    let held = held_text is_prefix (text_of bytes) p e in
    (text_scalars bytes p held.0, held.1)

iri_is : (bytes iri : List ℕ) → iri_text bytes ≡ Some iri → IsValidTerm (Iri iri)
iri_is bytes iri e =
    let held = held_text (λ x. is_iri_text x && is_short x) (text_of bytes) iri e in
    let parts = split (is_iri_text iri) (is_short iri) held.1 in
    join (all_scalars iri && is_short iri) (is_iri_text iri) (join (all_scalars iri) (is_short iri) (text_scalars bytes iri held.0) parts.1) parts.0

named_at : (rest : List ℕ) (place : Option ℕ) (p iri : List ℕ) → naming_at rest place ≡ Some (p, iri) → IsValidCommand (command.Prefix p iri)
named_at rest None p iri e = cc
named_at rest (Some n) p iri e =
    let parts = both_are (prefix_text (take n rest)) (iri_text (drop (n + 1) rest)) p iri e in
    let prefix = prefix_is (take n rest) p parts.0 in
    (prefix.0, prefix.1, iri_is (drop (n + 1) rest) iri parts.1)

pub valid_of : LinesAreValid → ParsedAreWellFormed → (line : List ℕ) (c : Command) → IsInTable line c → IsValidCommand c
valid_of lines queries line command.Nothing t = tt
valid_of lines queries line (command.Begin level) t = tt
valid_of lines queries line (command.Add q) t = (t.2.line.3.kinds, lines AsQuads t.0 (Some q) t.2.line t.2.short)
valid_of lines queries line (command.Remove q) t = (t.2.line.3.kinds, lines AsQuads t.0 (Some q) t.2.line t.2.short)
valid_of lines queries line (command.Query query) t = queries t.0 query t.2.utf8 t.2.grammar
valid_of lines queries line command.List t = tt
valid_of lines queries line command.Size t = tt
valid_of lines queries line command.Contexts t = tt
valid_of lines queries line command.Namespaces t = tt
valid_of lines queries line (command.Prefix p iri) t = named_at t.0 (position is_space t.0) p iri t.2
valid_of lines queries line command.Ping t = tt
valid_of lines queries line command.Commit t = tt
valid_of lines queries line command.Rollback t = tt
valid_of lines queries line command.Quit t = tt
