-- What a token of a text of Unicode characters holds.
use Rattle.std.proofs.Common.{◌≡◌, ℕ, Bool, true, false, ◌==◌, ◌&&◌, if◌then◌else◌, List, [], ◌∷◌, ◌++◌, refl, ◌∙◌, sym, subst, codes, inl, inr, Option, Some, None, encode_utf8_all}
use Rattle.std.specs.List.{list_all, AllByRecursion}
use Rattle.std.specs.Str.{all_scalars, bytes_eq}
use lib.Utf8.{scalar}
use Rattle.rdf_term.specs.Classes.{is_letter, is_one_of}
use Rattle.rdf_term.specs.TagLaws.{is_tag-automaton}
use Rattle.rdf_term.specs.Validity.{is_tag, is_tag_from}
use Rattle.query_print.proofs.Truths.{both, split, or_left, or_right}
use Rattle.query_tokens.specs.declared.token.Placed.{Placed}
use Rattle.query_tokens.specs.declared.token.Token.{Token}
use Rattle.query_tokens.specs.declared.token.Token.TheVariants as token
use Rattle.query_tokens.specs.declared.kind.Quoted.{Quoted}
use Rattle.query_tokens.specs.declared.kind.Quoted.TheVariants as form
use Rattle.query_tokens.specs.Classes.{is_alphanumeric}
use Rattle.query_tokens.specs.Lexemes
use Rattle.query_tokens.specs.Lexemes.{In, chars, optional, Ends, ends, Prefix, prefix, LocalPiece, local_piece, local_value, local_pieces, local_values, LocalEnds, Local, local, local_ends, local_ends_value, Hex, Piece, piece, pieces, meaning, meanings, TagPart, tag_parts, numeral, Lexeme, Word, Name, Between, DoubleQuotes, SingleQuotes, Var, Label, Tag, Number, Mark, Carets, spelling, value, mark_of, name_value, quoted_value}
use Rattle.query_tokens.specs.Tokens.{AreTokens, behind_space, is_blank, is_line_end}
use Rattle.query_tokens.specs.Words.{is_word, is_left_out, word_of}
use Rattle.query_grammar.specs.Answers.{tokens_of}
use Rattle.query_model.specs.WellFormed.{is_var_char, is_name_char, is_dotted, is_label_start, IsVarName, is_var_name, is_label, is_label_rest}

-- a token's text is one of Unicode characters, and a name, a label and a tag are of their grammar
abbrev pub IsGood : Token → Type 0
IsGood (token.Iri i) = all_scalars i ≡ true
IsGood (token.Name p l) = all_scalars l ≡ true
IsGood (token.Var v) = IsVarName v
IsGood (token.Label l) = (all_scalars l && is_label l) ≡ true
IsGood (token.Str s) = all_scalars s ≡ true
IsGood (token.Tag t) = (all_scalars t && is_tag t) ≡ true
IsGood (token.Number k n) = all_scalars n ≡ true
IsGood _ = Unit {0}

-- parts of a text

pub split_append : (a b : List ℕ) → all_scalars (a ++ b) ≡ true → (all_scalars a ≡ true) × (all_scalars b ≡ true)
split_append [] b h = (refl, h)
split_append (c ∷ a) b h =
    let parts = split (scalar c) (all_scalars (a ++ b)) h in
    let more = split_append a b parts.1 in
    (both (scalar c) (all_scalars a) parts.0 more.0, more.1)

tail : (c : ℕ) (cs : List ℕ) → all_scalars (c ∷ cs) ≡ true → all_scalars cs ≡ true
tail c cs h = (split (scalar c) (all_scalars cs) h).1

head : (c : ℕ) (cs : List ℕ) → all_scalars (c ∷ cs) ≡ true → scalar c ≡ true
head c cs h = (split (scalar c) (all_scalars cs) h).0

behind_chars : {class : ℕ → Bool} (xs : List (In class)) (rest : List ℕ) → all_scalars (chars xs rest) ≡ true → all_scalars rest ≡ true
behind_chars [] rest h = h
behind_chars (x ∷ xs) rest h = behind_chars xs rest (tail x.char (chars xs rest) h)

behind_ends : (e : Option Ends) (rest : List ℕ) → all_scalars (ends e rest) ≡ true → all_scalars rest ≡ true
behind_ends None rest h = h
behind_ends (Some e) rest h = tail e.last.char rest (behind_chars e.inner (e.last.char ∷ rest) h)

behind_prefix : (p : Option Prefix) (rest : List ℕ) → all_scalars (prefix p rest) ≡ true → all_scalars rest ≡ true
behind_prefix None rest h = h
behind_prefix (Some p) rest h = behind_ends p.more rest (tail p.first.char (ends p.more rest) h)

-- local parts

local_step : {class : ℕ → Bool} (p : LocalPiece class) (rest more : List ℕ) → all_scalars (local_piece p rest) ≡ true → (all_scalars rest ≡ true → all_scalars more ≡ true)
    → all_scalars (local_value p more) ≡ true
local_step (Lexemes.Plain c) rest more h k = let w = split (scalar c.char) (all_scalars rest) h in both (scalar c.char) (all_scalars more) w.0 (k w.1)
local_step (Lexemes.Percent a b) rest more h k =
    let v = split (scalar a.char) (all_scalars (b.char ∷ rest)) h in
    let w = split (scalar b.char) (all_scalars rest) v.1 in
    both (scalar a.char) (all_scalars (b.char ∷ more)) v.0 (both (scalar b.char) (all_scalars more) w.0 (k w.1))
local_step (Lexemes.Escaped c) rest more h k = let w = split (scalar c.char) (all_scalars rest) h in both (scalar c.char) (all_scalars more) w.0 (k w.1)

locals_step : {class : ℕ → Bool} (ps : List (LocalPiece class)) (rest more : List ℕ) → all_scalars (local_pieces ps rest) ≡ true
    → (all_scalars rest ≡ true → all_scalars more ≡ true) → all_scalars (local_values ps more) ≡ true
locals_step [] rest more h k = k h
locals_step (p ∷ ps) rest more h k = local_step p (local_pieces ps rest) (local_values ps more) h (λ t. locals_step ps rest more t k)

local_scalars : (l : Local) → all_scalars (local (Some l)) ≡ true → all_scalars (local_value l.first (local_ends_value l.more)) ≡ true
local_scalars l h = local_step l.first (local_ends l.more) (local_ends_value l.more) h (at l.more)
  where
    at : (e : Option LocalEnds) → all_scalars (local_ends e) ≡ true → all_scalars (local_ends_value e) ≡ true
    at None t = refl
    at (Some e) t = locals_step e.inner (local_piece e.last []) (local_value e.last []) t (λ u. local_step e.last [] [] u (λ v. refl))

-- IRIs and strings

behind_piece : {f : Quoted} (p : Piece f) (rest : List ℕ) → all_scalars (piece p rest) ≡ true → all_scalars rest ≡ true
behind_piece (Lexemes.Raw c) rest h = tail c.char rest h
behind_piece (Lexemes.Short e) rest h = tail e.char rest (tail 92 (e.char ∷ rest) h)
behind_piece (Lexemes.Four x) rest h = behind_chars x.digits rest (tail 117 (chars x.digits rest) (tail 92 (117 ∷ chars x.digits rest) h))
behind_piece (Lexemes.Eight x) rest h = behind_chars x.digits rest (tail 85 (chars x.digits rest) (tail 92 (85 ∷ chars x.digits rest) h))

short_at : (a b c d e : Bool) (m : ℕ) → scalar m ≡ true → scalar (if a then 9 else if b then 8 else if c then 10 else if d then 12 else if e then 13 else m) ≡ true
short_at true b c d e m h = refl
short_at false true c d e m h = refl
short_at false false true d e m h = refl
short_at false false false true e m h = refl
short_at false false false false true m h = refl
short_at false false false false false m h = h

meant : {f : Quoted} (p : Piece f) (rest : List ℕ) → all_scalars (piece p rest) ≡ true → scalar (meaning p) ≡ true
meant (Lexemes.Raw c) rest h = head c.char rest h
meant (Lexemes.Short e) rest h =
    short_at (e.char == 116) (e.char == 98) (e.char == 110) (e.char == 102) (e.char == 114) e.char (head e.char rest (tail 92 (e.char ∷ rest) h))
meant (Lexemes.Four x) rest h = x.names
meant (Lexemes.Eight x) rest h = x.names

all_meant : {f : Quoted} (ps : List (Piece f)) (rest : List ℕ) → all_scalars (pieces ps rest) ≡ true → all_scalars (meanings ps) ≡ true
all_meant [] rest h = refl
all_meant (p ∷ ps) rest h =
    both (scalar (meaning p)) (all_scalars (meanings ps)) (meant p (pieces ps rest) h) (all_meant ps rest (behind_piece p (pieces ps rest) h))

-- names, labels and tags

in_class : {class : ℕ → Bool} (xs : List (In class)) → list_all class (chars xs []) ≡ true
in_class [] = refl
in_class {class} (x ∷ xs) = both (class x.char) (list_all class (chars xs [])) x.fits (in_class xs)

dotted : (xs : List (In is_dotted)) (last : In is_name_char) → is_label_rest (chars xs (last.char ∷ [])) ≡ true
dotted [] last = last.fits
dotted (x ∷ []) last = both (is_dotted x.char) (is_name_char last.char) x.fits last.fits
dotted (x ∷ y ∷ ys) last = both (is_dotted x.char) (is_label_rest (chars (y ∷ ys) (last.char ∷ []))) x.fits (dotted (y ∷ ys) last)

label_rest : (e : Option Ends) → is_label_rest (ends e []) ≡ true
label_rest None = refl
label_rest (Some e) = dotted e.inner e.last

tag_front : (part : ℕ → Bool) (xs : List (In part)) (rest : List ℕ) → is_tag_from true part rest ≡ true → is_tag_from true part (chars xs rest) ≡ true
tag_front part [] rest h = h
tag_front part (x ∷ xs) rest h =
    or_left (part x.char && is_tag_from true part (chars xs rest)) _
    (both (part x.char) (is_tag_from true part (chars xs rest)) x.fits (tag_front part xs rest h))

tag_back : (part : ℕ → Bool) (ps : List TagPart) → is_tag_from true part (tag_parts ps) ≡ true
tag_back part [] = refl
tag_back part (p ∷ ps) =
    let rest = chars p.more (tag_parts ps) in
    let begun : is_tag_from false is_alphanumeric (p.first.char ∷ rest) ≡ true
    = or_left (is_alphanumeric p.first.char && is_tag_from true is_alphanumeric rest) _
    (both (is_alphanumeric p.first.char) (is_tag_from true is_alphanumeric rest) p.first.fits
    (tag_front is_alphanumeric p.more (tag_parts ps) (tag_back is_alphanumeric ps))) in
    or_right (part 45 && is_tag_from true part (p.first.char ∷ rest)) (is_tag_from false is_alphanumeric (p.first.char ∷ rest)) begun

-- words and marks hold no text

word_at : (a b c d e f g h i j k l m n : Bool) → IsGood (if a then token.A else if b then token.True else if c then token.False else if d then token.Prefix else if e then token.Select else if f then token.Distinct else if g then token.Reduced else
    if h then token.Construct else if i then token.Ask else if j then token.Where else if k then token.Graph else if l then token.Limit else if m then token.Offset else if n then token.Unsupported else token.Other)
word_at true b c d e f g h i j k l m n = tt
word_at false true c d e f g h i j k l m n = tt
word_at false false true d e f g h i j k l m n = tt
word_at false false false true e f g h i j k l m n = tt
word_at false false false false true f g h i j k l m n = tt
word_at false false false false false true g h i j k l m n = tt
word_at false false false false false false true h i j k l m n = tt
word_at false false false false false false false true i j k l m n = tt
word_at false false false false false false false false true j k l m n = tt
word_at false false false false false false false false false true k l m n = tt
word_at false false false false false false false false false false true l m n = tt
word_at false false false false false false false false false false false true m n = tt
word_at false false false false false false false false false false false false true n = tt
word_at false false false false false false false false false false false false false true = tt
word_at false false false false false false false false false false false false false false = tt

word_good : (t : List ℕ) → IsGood (word_of t)
word_good t =
    word_at (bytes_eq t (codes "a")) (bytes_eq t (codes "true")) (bytes_eq t (codes "false")) (is_word (codes "prefix") t) (is_word (codes "select") t)
    (is_word (codes "distinct") t) (is_word (codes "reduced") t) (is_word (codes "construct") t) (is_word (codes "ask") t) (is_word (codes "where") t)
    (is_word (codes "graph") t) (is_word (codes "limit") t) (is_word (codes "offset") t) (is_left_out t)

mark_at : (a b c d e f g : Bool) → IsGood (if a then token.Open else if b then token.Close else if c then token.Dot else if d then token.Semicolon else if e then token.Comma else if f then token.Star else if g then token.Unsupported else token.Other)
mark_at true b c d e f g = tt
mark_at false true c d e f g = tt
mark_at false false true d e f g = tt
mark_at false false false true e f g = tt
mark_at false false false false true f g = tt
mark_at false false false false false true g = tt
mark_at false false false false false false true = tt
mark_at false false false false false false false = tt

mark_good : (c : ℕ) → IsGood (mark_of c)
mark_good c = mark_at (c == 123) (c == 125) (c == 46) (c == 59) (c == 44) (c == 42) (is_one_of (codes "[(/|^+!") c)

lexeme_good : (l : Lexeme) → all_scalars (spelling l) ≡ true → IsGood (value l)
lexeme_good (Word c cs) h = word_good (encode_utf8_all (c.char ∷ chars cs []))
lexeme_good (Name p None) h = tt
lexeme_good (Name p (Some l)) h = local_scalars l (tail 58 (local (Some l)) (behind_prefix p (58 ∷ local (Some l)) h))
lexeme_good (Between form.Iri ps) h = all_meant ps (62 ∷ []) (tail 60 (pieces ps (62 ∷ [])) h)
lexeme_good (Between form.Double ps) h = all_meant ps (34 ∷ []) (tail 34 (pieces ps (34 ∷ [])) h)
lexeme_good (Between form.Single ps) h = all_meant ps (39 ∷ []) (tail 39 (pieces ps (39 ∷ [])) h)
lexeme_good DoubleQuotes h = tt
lexeme_good SingleQuotes h = tt
lexeme_good (Var s c cs) h =
    let name = c.char ∷ chars cs [] in
    both (all_scalars name) (is_var_name name) (tail s.char name h) (both (is_label_start c.char) (list_all is_var_char (chars cs [])) c.fits (in_class cs))
lexeme_good (Label c e) h =
    let label = c.char ∷ ends e [] in
    both (all_scalars label) (is_label label) (tail 58 label (tail 95 (58 ∷ label) h)) (both (is_label_start c.char) (is_label_rest (ends e [])) c.fits (label_rest e))
lexeme_good (Tag c cs ps) h =
    let rest = chars cs (tag_parts ps) in
    both (all_scalars (c.char ∷ rest)) (is_tag (c.char ∷ rest)) (tail 64 (c.char ∷ rest) h)
    (is_tag-automaton (c.char ∷ rest) ∙ or_left (is_letter c.char && is_tag_from true is_letter rest) _
    (both (is_letter c.char) (is_tag_from true is_letter rest) c.fits (tag_front is_letter cs (tag_parts ps) (tag_back is_letter ps))))
lexeme_good (Number s n) h = h
lexeme_good (Mark m) h = mark_good m.char
lexeme_good Carets h = tt

-- the tokens of a text

in_each : (b d : Bool) (x y z : List ℕ) → all_scalars x ≡ true → all_scalars y ≡ true → all_scalars z ≡ true
    → all_scalars (if b then x else if d then y else z) ≡ true
in_each true d x y z h k l = h
in_each false true x y z h k l = k
in_each false false x y z h k l = l

in_both : (b : Bool) (x y : List ℕ) → all_scalars x ≡ true → all_scalars y ≡ true → all_scalars (if b then x else y) ≡ true
in_both true x y h k = h
in_both false x y h k = k

spaced_at : (in_comment : Bool) (cs : List ℕ) → all_scalars cs ≡ true → all_scalars (behind_space in_comment cs) ≡ true
spaced_at in_comment [] h = refl
spaced_at false (c ∷ cs) h =
    let t = tail c cs h in in_each (is_blank c) (c == 35) (behind_space false cs) (behind_space true cs) (c ∷ cs) (spaced_at false cs t) (spaced_at true cs t) h
spaced_at true (c ∷ cs) h =
    let t = tail c cs h in in_both (is_line_end c) (behind_space false cs) (behind_space true cs) (spaced_at false cs t) (spaced_at true cs t)

bad_good : (t : Token) → t ≡ token.Bad → IsGood t
bad_good t e = subst IsGood (sym e) tt

pub tokens_good : (size : ℕ) (text : List ℕ) (ps : List Placed) → all_scalars text ≡ true → AreTokens size text ps → AllByRecursion IsGood (tokens_of ps)
tokens_good size text [] h are = tt
tokens_good size text (p ∷ ps) h are =
    elim are.1 [
      | inl bad ↦ (bad_good p.token bad.bad, subst (λ (xs : List Placed). AllByRecursion IsGood (tokens_of xs)) (sym bad.last) tt)
      | inr w ↦ (let here = split_append (spelling w.0) w.1 (subst (λ t. all_scalars t ≡ true) w.2.split (spaced_at false text h)) in
          (subst IsGood (sym w.3) (lexeme_good w.0 here.0), tokens_good size w.1 ps here.1 w.4))
    ]
