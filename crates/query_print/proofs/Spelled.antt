-- The tokens of names, numbers and terms, by the trees of their characters.
use Rattle.std.proofs.Common.{◌≡◌, ◌≢◌, ℕ, Bool, true, false, ◌==◌, ◌&&◌, ◌||◌, not, if◌then◌else◌, List, [], ◌∷◌, ◌++◌, refl, ◌∙◌, sym, ap, subst, append_assoc, append-nil, inl, inr, codes, encode_utf8_all, arith, Option, Some, None}
use Rattle.std.proofs.lemmas.Bool.Decides.{nat_tests}
use Rattle.std.specs.List.{list_all, flat_map}
use Rattle.rdf_term.specs.Classes.{is_letter, is_digit, is_iri_char, is_string_char, is_one_of}
use Rattle.rdf_term.specs.Canonical.{escaped, quoted}
use Rattle.rdf_term.specs.TagLaws.{is_tag-automaton}
use Rattle.rdf_term.specs.Validity.{is_tag, is_tag_from}
use Rattle.query_print.proofs.Truths.{split, either, equal, itself}
use Rattle.query_tokens.specs.declared.token.Token.{Token}
use Rattle.query_tokens.specs.declared.token.Token.TheVariants as token
use Rattle.query_tokens.specs.declared.token.Number.TheVariants as number
use Rattle.query_tokens.specs.declared.kind.Quoted.{Quoted}
use Rattle.query_tokens.specs.declared.kind.Quoted.TheVariants as form
use Rattle.query_tokens.specs.Classes.{is_alphanumeric, is_raw, is_mark, closing}
use Rattle.query_tokens.specs.Laws.{PartedTokens, is_parted}
use Rattle.query_tokens.specs.Lexemes.{In, chars, Ends, ends, Piece, Raw, Short, pieces, meanings, TagPart, tag_parts, Whole, Lexeme, Word, Between, Var, Label, Tag, Number, Mark, Carets, mark_of}
use Rattle.query_tokens.specs.Tokens.{from_token, behind_space, is_blank}
use Rattle.query_tokens.specs.Words.{word_of}
use Rattle.query_model.specs.WellFormed.{is_var_char, is_name_char, is_dotted, is_label_start, is_var_name, is_label, is_label_rest}
use Rattle.query_print.proofs.Lexed.{Lexes, is_end, lexeme_lexes}

-- characters of a class

pub ins : {class : ℕ → Bool} (cs : List ℕ) → list_all class cs ≡ true → (xs : List (In class)) × ((rest : List ℕ) → chars xs rest ≡ cs ++ rest)
ins [] h = ([], λ rest. refl)
ins {class} (c ∷ cs) h =
    let parts = split (class c) (list_all class cs) h in
    let more = ins {class = class} cs parts.1 in
    let here : In class = record { char = c; fits = parts.0 } in
    (here ∷ more.0, λ rest. ap (λ l. c ∷ l) (more.1 rest))

-- what ends a token parts it from the next one

ended : (l : Lexeme) (rest : List ℕ) → ((c : ℕ) (cs : List ℕ) → (c == 32) ≡ true → is_parted l (c ∷ cs) ≡ true) → is_end rest ≡ true → is_parted l rest ≡ true
ended l [] h e = refl
ended l (c ∷ cs) h e = h c cs e

not_closing : (f : Quoted) (c : ℕ) → (c == 32) ≡ true → not (c == closing f) ≡ true
not_closing form.Iri c h = subst (λ d. not (d == 62) ≡ true) (sym (equal c 32 h)) refl
not_closing form.Double c h = subst (λ d. not (d == 34) ≡ true) (sym (equal c 32 h)) refl
not_closing form.Single c h = subst (λ d. not (d == 39) ≡ true) (sym (equal c 32 h)) refl

-- variables

pub var_lexes : PartedTokens → (name rest : List ℕ) (ts : List Token) → is_var_name name ≡ true → is_end rest ≡ true → Lexes rest ts
    → Lexes ((codes "?" ++ name) ++ rest) (token.Var name ∷ ts)
var_lexes parted [] rest ts h e k = cc
var_lexes parted (c ∷ cs) rest ts h e k =
    let parts = split (is_label_start c) (list_all is_var_char cs) h in
    let more = ins {class = is_var_char} cs parts.1 in
    let sign : In (is_one_of (codes "?$")) = record { char = 63; fits = refl } in
    let first : In is_label_start = record { char = c; fits = parts.0 } in
    let l : Lexeme = Var sign first more.0 in
    let same : chars more.0 [] ≡ cs = more.1 [] ∙ append-nil cs in
    subst (λ n. Lexes (63 ∷ c ∷ (cs ++ rest)) (token.Var n ∷ ts)) (ap (λ x. c ∷ x) same)
    (lexeme_lexes parted l (63 ∷ c ∷ (cs ++ rest)) rest ts (ap (λ x. 63 ∷ c ∷ (x ++ rest)) same) refl (ended l rest (λ d ds q. q) e) k)

-- blank nodes

label_ends : (d : ℕ) (cs : List ℕ) → is_label_rest (d ∷ cs) ≡ true → (x : Ends) × (ends (Some x) [] ≡ d ∷ cs)
label_ends d [] h = let last : In is_name_char = record { char = d; fits = h } in (record { inner = []; last = last }, refl)
label_ends d (c ∷ cs) h =
    let parts = split (is_dotted d) (is_label_rest (c ∷ cs)) h in
    let more = label_ends c cs parts.1 in
    let here : In is_dotted = record { char = d; fits = parts.0 } in
    (record { inner = here ∷ more.0.inner; last = more.0.last }, ap (λ x. d ∷ x) more.1)

label_more : (cs : List ℕ) → is_label_rest cs ≡ true → (x : Option Ends) × (ends x [] ≡ cs)
label_more [] h = (None, refl)
label_more (c ∷ cs) h = let w = label_ends c cs h in (Some w.0, w.1)

pub label_lexes : PartedTokens → (label rest : List ℕ) (ts : List Token) → is_label label ≡ true → is_end rest ≡ true → Lexes rest ts
    → Lexes ((codes "_:" ++ label) ++ rest) (token.Label label ∷ ts)
label_lexes parted [] rest ts h e k = cc
label_lexes parted (c ∷ cs) rest ts h e k =
    let parts = split (is_label_start c) (is_label_rest cs) h in
    let more = label_more cs parts.1 in
    let first : In is_label_start = record { char = c; fits = parts.0 } in
    let l : Lexeme = Label first more.0 in
    subst (λ n. Lexes (95 ∷ 58 ∷ c ∷ (cs ++ rest)) (token.Label n ∷ ts)) (ap (λ x. c ∷ x) more.1)
    (lexeme_lexes parted l (95 ∷ 58 ∷ c ∷ (cs ++ rest)) rest ts (ap (λ x. 95 ∷ 58 ∷ c ∷ (x ++ rest)) more.1) refl (ended l rest (λ d ds q. q) e) k)

-- tags

tag_tail : (part : ℕ → Bool) (cs : List ℕ) → is_tag_from true part cs ≡ true → (xs : List (In part)) × (ps : List TagPart) × (chars xs (tag_parts ps) ≡ cs)
tag_tail part [] h = ([], [], refl)
tag_tail part (c ∷ []) h =
    elim (either (part c && true) (c == 45 && true && false) h) [
      | inl k ↦ (let here : In part = record { char = c; fits = (split (part c) true k).0 } in (here ∷ [], [], refl))
      | inr k ↦ (let z : false ≡ true = (split (c == 45 && true) false k).1 in cc)
    ]
tag_tail part (c ∷ d ∷ ds) h =
    elim (either (part c && is_tag_from true part (d ∷ ds)) (c == 45 && true && is_tag_from false is_alphanumeric (d ∷ ds)) h) [
      | inl k ↦ (let parts = split (part c) (is_tag_from true part (d ∷ ds)) k in
          let more = tag_tail part (d ∷ ds) parts.1 in
          let here : In part = record { char = c; fits = parts.0 } in
          (here ∷ more.0, more.1, ap (λ x. c ∷ x) more.2))
      | inr k ↦ (let parts = split (c == 45 && true) (is_tag_from false is_alphanumeric (d ∷ ds)) k in
          let dash : c ≡ 45 = equal c 45 (split (c == 45) true parts.0).0 in
          let begun = begins d ds parts.1 in
          let more = tag_tail is_alphanumeric ds begun.1 in
          let first : In is_alphanumeric = record { char = d; fits = begun.0 } in
          let here : TagPart = record { first = first; more = more.0 } in
          ([], here ∷ more.1, ap (λ x. 45 ∷ d ∷ x) more.2 ∙ ap (λ x. x ∷ d ∷ ds) (sym dash)))
    ]
  where
    begins : (d : ℕ) (ds : List ℕ) → is_tag_from false is_alphanumeric (d ∷ ds) ≡ true
        → (is_alphanumeric d ≡ true) × (is_tag_from true is_alphanumeric ds ≡ true)
    begins d ds h =
        elim (either (is_alphanumeric d && is_tag_from true is_alphanumeric ds) (d == 45 && false && is_tag_from false is_alphanumeric ds) h) [
          | inl k ↦ split (is_alphanumeric d) (is_tag_from true is_alphanumeric ds) k
          | inr k ↦ (let z : false ≡ true = (split (d == 45) false (split (d == 45 && false) (is_tag_from false is_alphanumeric ds) k).0).1 in cc)
        ]

run_lexes : PartedTokens → (tag rest : List ℕ) (ts : List Token) → is_tag_from false is_letter tag ≡ true → is_end rest ≡ true → Lexes rest ts
    → Lexes ((codes "@" ++ tag) ++ rest) (token.Tag tag ∷ ts)
run_lexes parted [] rest ts h e k = cc
run_lexes parted (c ∷ cs) rest ts h e k =
    elim (either (is_letter c && is_tag_from true is_letter cs) (c == 45 && false && is_tag_from false is_alphanumeric cs) h) [
      | inl p ↦ (let parts = split (is_letter c) (is_tag_from true is_letter cs) p in
          let more = tag_tail is_letter cs parts.1 in
          let first : In is_letter = record { char = c; fits = parts.0 } in
          let l : Lexeme = Tag first more.0 more.1 in
          subst (λ n. Lexes (64 ∷ c ∷ (cs ++ rest)) (token.Tag n ∷ ts)) (ap (λ x. c ∷ x) more.2)
          (lexeme_lexes parted l (64 ∷ c ∷ (cs ++ rest)) rest ts (ap (λ x. 64 ∷ c ∷ (x ++ rest)) more.2) refl (ended l rest (λ d ds q. q) e) k))
      | inr p ↦ (let z : false ≡ true = (split (c == 45) false (split (c == 45 && false) (is_tag_from false is_alphanumeric cs) p).0).1 in cc)
    ]

pub tag_lexes : PartedTokens → (tag rest : List ℕ) (ts : List Token) → is_tag tag ≡ true → is_end rest ≡ true → Lexes rest ts
    → Lexes ((codes "@" ++ tag) ++ rest) (token.Tag tag ∷ ts)
tag_lexes parted tag rest ts h e k = run_lexes parted tag rest ts (sym (is_tag-automaton tag) ∙ h) e k

-- IRIs

iri_pieces : (cs : List ℕ) → list_all is_iri_char cs ≡ true → (ps : List (Piece form.Iri)) × ((rest : List ℕ) → pieces ps rest ≡ cs ++ rest) × (meanings ps ≡ cs)
iri_pieces [] h = ([], λ rest. refl, refl)
iri_pieces (c ∷ cs) h =
    let parts = split (is_iri_char c) (list_all is_iri_char cs) h in
    let more = iri_pieces cs parts.1 in
    let here : In (is_raw form.Iri) = record { char = c; fits = parts.0 } in
    (Raw here ∷ more.0, λ rest. ap (λ x. c ∷ x) (more.1 rest), ap (λ x. c ∷ x) more.2)

pub iri_lexes : PartedTokens → (iri rest : List ℕ) (ts : List Token) → list_all is_iri_char iri ≡ true → is_end rest ≡ true → Lexes rest ts
    → Lexes (60 ∷ (iri ++ 62 ∷ rest)) (token.Iri iri ∷ ts)
iri_lexes parted iri rest ts h e k =
    let w = iri_pieces iri h in
    let l : Lexeme = Between form.Iri w.0 in
    subst (λ n. Lexes (60 ∷ (iri ++ 62 ∷ rest)) (token.Iri n ∷ ts)) w.2
    (lexeme_lexes parted l (60 ∷ (iri ++ 62 ∷ rest)) rest ts (ap (λ x. 60 ∷ (x ++ rest)) (w.1 (62 ∷ [])) ∙ ap (λ x. 60 ∷ x) (append_assoc iri (62 ∷ []) rest)) refl
    (ended l rest (λ d ds q. not_closing form.Iri d q) e) k)

-- strings

chosen_piece : (a b d e : Bool) (c : ℕ) → (a ≡ false → b ≡ false → d ≡ false → e ≡ false → is_string_char c ≡ true) → Piece form.Double
chosen_piece true b d e c h = Short (record { char = 34; fits = refl })
chosen_piece false true d e c h = Short (record { char = 92; fits = refl })
chosen_piece false false true e c h = Short (record { char = 110; fits = refl })
chosen_piece false false false true c h = Short (record { char = 114; fits = refl })
chosen_piece false false false false c h = Raw (record { char = c; fits = h refl refl refl refl })

flip : (c d : ℕ) → (c == d) ≡ false → (d == c) ≡ false
flip c d h = at (d == c) refl
  where
    at : (b : Bool) → (d == c) ≡ b → b ≡ false
    at true e = let z : true ≡ false = sym (subst (λ x. (c == x) ≡ true) (sym (equal d c e)) (itself c)) ∙ h in cc
    at false e = refl

none_of : (a b d e : Bool) → a ≡ false → b ≡ false → d ≡ false → e ≡ false → not (a || (b || (d || (e || false)))) ≡ true
none_of true b d e h i j k = cc
none_of false true d e h i j k = cc
none_of false false true e h i j k = cc
none_of false false false true h i j k = cc
none_of false false false false h i j k = refl

raw_char : (c : ℕ) → (c == 34) ≡ false → (c == 92) ≡ false → (c == 10) ≡ false → (c == 13) ≡ false → is_string_char c ≡ true
raw_char c h i j k = none_of (34 == c) (92 == c) (10 == c) (13 == c) (flip c 34 h) (flip c 92 i) (flip c 10 j) (flip c 13 k)

spells_at : (a b d e : Bool) (c : ℕ) (h : a ≡ false → b ≡ false → d ≡ false → e ≡ false → is_string_char c ≡ true) (ps : List (Piece form.Double)) (rest : List ℕ)
    → pieces (chosen_piece a b d e c h ∷ ps) rest
    ≡ (if a then codes "\\\"" else if b then codes "\\\\" else if d then codes "\\n" else if e then codes "\\r" else c ∷ []) ++ pieces ps rest
unfolding chosen_piece
spells_at true b d e c h ps rest = refl
spells_at false true d e c h ps rest = refl
spells_at false false true e c h ps rest = refl
spells_at false false false true c h ps rest = refl
spells_at false false false false c h ps rest = refl

means_at : (a b d e : Bool) (c : ℕ) (h : a ≡ false → b ≡ false → d ≡ false → e ≡ false → is_string_char c ≡ true) (ps : List (Piece form.Double))
    → (c == 34) ≡ a → (c == 92) ≡ b → (c == 10) ≡ d → (c == 13) ≡ e → meanings (chosen_piece a b d e c h ∷ ps) ≡ c ∷ meanings ps
unfolding chosen_piece
means_at true b d e c h ps i j k l = ap (λ x. x ∷ meanings ps) (sym (equal c 34 i))
means_at false true d e c h ps i j k l = ap (λ x. x ∷ meanings ps) (sym (equal c 92 j))
means_at false false true e c h ps i j k l = ap (λ x. x ∷ meanings ps) (sym (equal c 10 k))
means_at false false false true c h ps i j k l = ap (λ x. x ∷ meanings ps) (sym (equal c 13 l))
means_at false false false false c h ps i j k l = refl

string_pieces : (cs : List ℕ) → (ps : List (Piece form.Double)) × ((rest : List ℕ) → pieces ps rest ≡ flat_map escaped cs ++ rest) × (meanings ps ≡ cs)
string_pieces [] = ([], λ rest. refl, refl)
string_pieces (c ∷ cs) =
    let more = string_pieces cs in
    let raw = raw_char c in
    let here = chosen_piece (c == 34) (c == 92) (c == 10) (c == 13) c raw in (
      here ∷ more.0,
      λ rest. spells_at (c == 34) (c == 92) (c == 10) (c == 13) c raw more.0 rest ∙ ap (λ x. escaped c ++ x) (more.1 rest)
          ∙ sym (append_assoc (escaped c) (flat_map escaped cs) rest),
      means_at (c == 34) (c == 92) (c == 10) (c == 13) c raw more.0 refl refl refl refl ∙ ap (λ x. c ∷ x) more.2,
    )

pub string_lexes : PartedTokens → (text rest : List ℕ) (ts : List Token) → is_parted (Between form.Double []) rest ≡ true → Lexes rest ts
    → Lexes (quoted text ++ rest) (token.Str text ∷ ts)
string_lexes parted text rest ts e k =
    let w = string_pieces text in
    let l : Lexeme = Between form.Double w.0 in
    subst (λ n. Lexes (quoted text ++ rest) (token.Str n ∷ ts)) w.2
    (lexeme_lexes parted l (quoted text ++ rest) rest ts (ap (λ x. 34 ∷ (x ++ rest)) (w.1 (34 ∷ []))) refl (same w.0 rest e) k)
  where
    same : (ps : List (Piece form.Double)) (rest : List ℕ) → is_parted (Between form.Double []) rest ≡ true → is_parted (Between form.Double ps) rest ≡ true
    same ps [] h = refl
    same ps (c ∷ cs) h = h

pub end_of_string : (rest : List ℕ) → is_end rest ≡ true → is_parted (Between form.Double []) rest ≡ true
end_of_string rest e = ended (Between form.Double []) rest (λ d ds q. not_closing form.Double d q) e

pub carets_lex : PartedTokens → (rest : List ℕ) (ts : List Token) → is_parted Carets rest ≡ true → Lexes rest ts → Lexes (codes "^^" ++ rest) (token.Carets ∷ ts)
carets_lex parted rest ts e k = lexeme_lexes parted Carets (94 ∷ 94 ∷ rest) rest ts refl refl e k

-- words, marks and numbers

abbrev pub value_of : ℕ → List ℕ → Token
value_of c cs = word_of (encode_utf8_all (c ∷ cs))

no_space : (c : ℕ) → is_digit c ≡ true → (is_blank c ≡ false) × ((c == 35) ≡ false)
no_space c h = (grind (arith, nat_tests), grind (arith, nat_tests))

stands : (c : ℕ) (cs : List ℕ) (b d : Bool) → b ≡ false → d ≡ false
    → (if b then behind_space false cs else if d then behind_space true cs else c ∷ cs) ≡ c ∷ cs
stands c cs true d h e = cc
stands c cs false true h e = cc
stands c cs false false h e = refl

digit_stands : (c : ℕ) (cs : List ℕ) → is_digit c ≡ true → from_token (c ∷ cs) ≡ c ∷ cs
digit_stands c cs h = let w = no_space c h in stands c cs (is_blank c) (c == 35) w.0 w.1

pub word_lexes : PartedTokens → (c : ℕ) (cs rest : List ℕ) (t : Token) (ts : List Token) → list_all is_letter (c ∷ cs) ≡ true
    → from_token (c ∷ (cs ++ rest)) ≡ c ∷ (cs ++ rest) → value_of c cs ≡ t → is_end rest ≡ true → Lexes rest ts → Lexes (c ∷ (cs ++ rest)) (t ∷ ts)
word_lexes parted c cs rest t ts h f v e k =
    let parts = split (is_letter c) (list_all is_letter cs) h in
    let more = ins {class = is_letter} cs parts.1 in
    let first : In is_letter = record { char = c; fits = parts.0 } in
    let l : Lexeme = Word first more.0 in
    let same : chars more.0 [] ≡ cs = more.1 [] ∙ append-nil cs in
    subst (λ n. Lexes (c ∷ (cs ++ rest)) (n ∷ ts)) (ap (value_of c) same ∙ v)
    (lexeme_lexes parted l (c ∷ (cs ++ rest)) rest ts (ap (λ x. c ∷ (x ++ rest)) same) f (ended l rest (λ d ds q. q) e) k)

pub mark_lexes : PartedTokens → (c : ℕ) (rest : List ℕ) (t : Token) (ts : List Token) → is_mark c ≡ true → from_token (c ∷ rest) ≡ c ∷ rest → mark_of c ≡ t
    → is_end rest ≡ true → Lexes rest ts → Lexes (c ∷ rest) (t ∷ ts)
mark_lexes parted c rest t ts h f v e k =
    let here : In is_mark = record { char = c; fits = h } in
    let l : Lexeme = Mark here in
    subst (λ n. Lexes (c ∷ rest) (n ∷ ts)) v (lexeme_lexes parted l (c ∷ rest) rest ts refl f (ended l rest (λ d ds q. q) e) k)

pub digits_lex : PartedTokens → (digits rest : List ℕ) (ts : List Token) → list_all is_digit digits ≡ true → digits ≢ [] → is_end rest ≡ true
    → Lexes rest ts → Lexes (digits ++ rest) (token.Number number.Digits digits ∷ ts)
digits_lex parted [] rest ts h n e k = absurd (n refl)
digits_lex parted (c ∷ cs) rest ts h n e k =
    let parts = split (is_digit c) (list_all is_digit cs) h in
    let more = ins {class = is_digit} cs parts.1 in
    let first : In is_digit = record { char = c; fits = parts.0 } in
    let l : Lexeme = Number None (Whole first more.0) in
    let same : chars more.0 [] ≡ cs = more.1 [] ∙ append-nil cs in
    subst (λ d. Lexes (c ∷ (cs ++ rest)) (token.Number number.Digits (c ∷ d) ∷ ts)) same
    (lexeme_lexes parted l (c ∷ (cs ++ rest)) rest ts (ap (λ x. c ∷ (x ++ rest)) same) (digit_stands c (cs ++ rest) parts.0) (ended l rest (λ d ds q. q) e) k)
