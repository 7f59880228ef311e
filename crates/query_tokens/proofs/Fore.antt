-- What is left of a token is nothing, where the state accepts it, or it begins with a character that leads to what is left then.
use Rattle.std.proofs.Common.{◌≡◌, ◌≤◌, ◌<◌, refl, ◌∙◌, sym, ap, ℕ, suc, ◌+◌, ◌*◌, ◌-◌, Bool, true, false, IsTrue, ◌==◌, ◌&&◌, nat_le, if◌then◌else◌, List, [], ◌∷◌, length, Option, Some, None, arith, ◌⊎◌, inl, inr}
use Rattle.std.specs.Char.{digit_value}
use Rattle.std.proofs.lemmas.Bool.Decides.{nat_tests}
use Rattle.std.proofs.Math.Utf8.{scalar_cases}
use lib.Utf8.{scalar}
use Rattle.rdf_term.specs.Classes.{is_digit, is_letter, is_one_of, is_hex_digit}
use Rattle.query_tokens.specs.declared.token.Number.{Number as NumberKind}
use Rattle.query_tokens.specs.declared.token.Number.TheVariants as number
use Rattle.query_tokens.specs.declared.kind.Kind.{Kind}
use Rattle.query_tokens.specs.declared.kind.Kind.TheVariants as kinds
use Rattle.query_tokens.specs.declared.kind.Quoted.{Quoted}
use Rattle.query_tokens.specs.declared.kind.Quoted.TheVariants as quoted
use Rattle.query_tokens.specs.declared.state.State.{State}
use Rattle.query_tokens.specs.declared.state.State.TheVariants as state
use Rattle.query_tokens.specs.declared.emit.Part.TheVariants as part
use Rattle.query_model.specs.WellFormed.{is_name_char, is_dotted, is_label_start, is_var_char}
use Rattle.query_tokens.specs.Classes.{is_base, is_local_start, is_local_char, is_local_dotted, is_local_escape, is_alphanumeric, is_exponent_mark, is_sign, is_mark, marks, closing, is_raw, is_short_escape}
use Rattle.query_tokens.specs.Lexemes.{In, chars, Ends, ends, Prefix, LocalPiece, Plain, Percent, Escaped, local_piece, local_pieces, local_value, local_values, LocalEnds, Local, local_ends, local_ends_value, local, hex_number, Piece, Raw, Short, Four, Eight, meanings, TagPart, tag_parts, Exponent, exponent, Pointed, Fraction, Bare, Numeral, numeral, numeral_kind, Whole, Decimal, Double, Lexeme, Word, Name, Between, DoubleQuotes, SingleQuotes, Var, Label, Tag, Number, Mark, Carets, spelling}
use Rattle.query_tokens.specs.Scanner.{in_prefix, in_local, in_label, in_quotes, quoted_kind, adds_digit, next, when, either, accepts, Texts, no_texts, entered, emit, add, emitted}
use Rattle.query_tokens.proofs.Cases.{other_or, both, by_case, then_is, else_is, apart, AllOf, member, name_dotted, digit_no_base, digit_no_letter}
use Rattle.query_tokens.proofs.Tails.{AfterLetters, AWord, AName, AfterOpened, AText, AQuotes, AfterEscape, AShort, AFour, AEight, AfterDigits, AWhole, ADecimal, APointed, ABare, AfterPoint, PDecimal, PDouble, Fractional, AVar, ATag, Tail, tail_chars, tail_kind, tail_texts, one, local_text, texts, quoted_chars, after_letters, after_letters_kind, after_letters_texts, after_question, after_less, after_less_texts, after_opened, after_opened_kind, after_opened_texts, after_emptied, after_escape, after_escape_texts, after_at, after_sign, after_sign_kind, after_digits, after_digits_kind, after_point, after_point_kind, after_dot, after_dot_kind, after_caret, chosen_kind, either_kind, fraction_kind, exponent_or_end, kind, mark_kind, name_kind}

abbrev pub Forward : State → Kind → Texts → List ℕ → Type 0
Forward s k t [] = (accepts s ≡ Some k) × (t ≡ no_texts)
Forward s k t (c ∷ rest) =
    (s' : State) × (tail : Tail s') × (next s c ≡ Some s') × (tail_chars s' tail ≡ rest) × (tail_kind s' tail ≡ k)
    × (t ≡ add (emit s s' c) (tail_texts s' tail))

-- the ways through a test
first_way : (a b : Bool) (to other : State) → a ≡ true → either a to b other ≡ Some to
first_way a b to other h = then_is a (Some to) (when b other) h

second_way : (a b : Bool) (to other : State) → a ≡ false → b ≡ true → either a to b other ≡ Some other
second_way a b to other g h = else_is a (Some to) (when b other) g ∙ then_is b (Some other) None h

-- prefixes

abbrev prefix_texts : Option Ends → Option Local → Texts
prefix_texts e l = record { first = ends e []; second = local_text l }

-- a character that may end, and a dot, in a state that leads on as within a prefix
prefix_char : (c : ℕ) → is_name_char c ≡ true → in_prefix c ≡ Some state.Prefix
prefix_char c h = then_is (is_name_char c) _ _ h

prefix_point : (c : ℕ) → is_dotted c ≡ true → is_name_char c ≡ false → in_prefix c ≡ Some state.PrefixDot
prefix_point c h n = let d = other_or (is_name_char c) (is_one_of (46 ∷ []) c) h n in member (λ x. in_prefix x ≡ Some state.PrefixDot) (46 ∷ []) c (refl, tt) d

prefix_ends : (s : State) → ((c : ℕ) → is_dotted c ≡ true → next s c ≡ in_prefix c) → ((to : State) (c : ℕ) → emit s to c ≡ entered to c)
    → (l : Option Local) (i : List (In is_dotted)) (c : In is_name_char)
    → Forward s (name_kind l) (prefix_texts (Some (record { inner = i; last = c })) l) (chars i (c.char ∷ 58 ∷ local l))
prefix_ends s go em l [] c =
    (state.Prefix, (None, l), go c.char (name_dotted c.char c.fits) ∙ prefix_char c.char c.fits, refl, refl, ap (λ p. add p (prefix_texts None l)) (sym (em state.Prefix c.char)))
prefix_ends s go em l (d ∷ ds) c =
    let e : Ends = record { inner = ds; last = c } in
    by_case (Forward s (name_kind l) (prefix_texts (Some (record { inner = d ∷ ds; last = c })) l) (chars (d ∷ ds) (c.char ∷ 58 ∷ local l))) (is_name_char d.char)
    (λ a. (state.Prefix, (Some e, l), go d.char d.fits ∙ prefix_char d.char a, refl, refl, ap (λ p. add p (prefix_texts (Some e) l)) (sym (em state.Prefix d.char))))
    (λ a. (state.PrefixDot, (e, l), go d.char d.fits ∙ prefix_point d.char d.fits a, refl, refl, ap (λ p. add p (prefix_texts (Some e) l)) (sym (em state.PrefixDot d.char))))

fore_prefix : (x : Option Ends) (l : Option Local) → Forward state.Prefix (name_kind l) (prefix_texts x l) (ends x (58 ∷ local l))
fore_prefix None l = (state.Colon, l, refl, refl, refl, refl)
fore_prefix (Some e) l = prefix_ends state.Prefix (λ c h. else_is (c == 58) _ _ (apart is_dotted c 58 h refl)) (λ to c. refl) l e.inner e.last

fore_prefix_dot : (e : Ends) (l : Option Local) → Forward state.PrefixDot (name_kind l) (prefix_texts (Some e) l) (ends (Some e) (58 ∷ local l))
fore_prefix_dot e l = prefix_ends state.PrefixDot (λ c h. refl) (λ to c. refl) l e.inner e.last

letters_end : (l : Option Local) (i : List (In is_dotted)) (c : In is_name_char)
    → Forward state.Letters (name_kind l) (prefix_texts (Some (record { inner = i; last = c })) l) (chars i (c.char ∷ 58 ∷ local l))
letters_end l [] c =
    by_case (Forward state.Letters (name_kind l) (prefix_texts (Some (record { inner = []; last = c })) l) (c.char ∷ 58 ∷ local l)) (is_letter c.char)
    (λ a. (state.Letters, AName None l, then_is (is_letter c.char) _ _ a, refl, refl, refl))
    (λ a. (state.Prefix, (None, l), else_is (is_letter c.char) _ _ a ∙ else_is (c.char == 58) _ _ (apart is_name_char c.char 58 c.fits refl) ∙ prefix_char c.char c.fits, refl, refl, refl))
letters_end l (d ∷ ds) c =
    let e : Ends = record { inner = ds; last = c } in
    let P : Type 0 = Forward state.Letters (name_kind l) (prefix_texts (Some (record { inner = d ∷ ds; last = c })) l) (d.char ∷ ends (Some e) (58 ∷ local l)) in
    by_case P (is_letter d.char)
    (λ a. (state.Letters, AName (Some e) l, then_is (is_letter d.char) _ _ a, refl, refl, refl))
    (λ n. let past : next state.Letters d.char ≡ in_prefix d.char = else_is (is_letter d.char) _ _ n ∙ else_is (d.char == 58) _ _ (apart is_dotted d.char 58 d.fits refl) in
    by_case P (is_name_char d.char)
    (λ a. (state.Prefix, (Some e, l), past ∙ prefix_char d.char a, refl, refl, refl))
    (λ a. (state.PrefixDot, (e, l), past ∙ prefix_point d.char d.fits a, refl, refl, refl)))

fore_letters : (x : AfterLetters) → Forward state.Letters (after_letters_kind x) (after_letters_texts x) (after_letters x)
fore_letters (AWord []) = (refl, refl)
fore_letters (AWord (c ∷ cs)) = (state.Letters, AWord cs, then_is (is_letter c.char) _ _ c.fits, refl, refl, refl)
fore_letters (AName None l) = (state.Colon, l, refl, refl, refl, refl)
fore_letters (AName (Some e) l) = letters_end l e.inner e.last

-- local parts

abbrev second : List ℕ → Texts
second cs = record { first = []; second = cs }

local_char : (c : ℕ) → is_local_char c ≡ true → in_local c ≡ Some state.Local
local_char c h = then_is (is_local_char c) _ _ h

local_point : (c : ℕ) → is_local_dotted c ≡ true → is_local_char c ≡ false → in_local c ≡ Some state.LocalDot
local_point c h n = let d = other_or (is_local_char c) (is_one_of (46 ∷ []) c) h n in member (λ x. in_local x ≡ Some state.LocalDot) (46 ∷ []) c (refl, tt) d

abbrev LocalForward : State → List (LocalPiece is_local_dotted) → LocalPiece is_local_char → Type 0
LocalForward s ps q = Forward s kinds.Name (second (local_values ps (local_value q []))) (local_pieces ps (local_piece q []))

fore_local_ends : (s : State) → ((c : ℕ) → next s c ≡ in_local c) → ((to : State) (c : ℕ) → emit s to c ≡ entered to c)
    → (ps : List (LocalPiece is_local_dotted)) (q : LocalPiece is_local_char) → LocalForward s ps q
fore_local_ends s go em [] (Plain c) =
    (state.Local, None, go c.char ∙ local_char c.char c.fits, refl, refl, ap (λ p. add p (second [])) (sym (em state.Local c.char)))
fore_local_ends s go em [] (Percent h i) =
    (state.Percent, (h, i, None), go 37, refl, refl, ap (λ p. add p (second (h.char ∷ i.char ∷ []))) (sym (em state.Percent 37)))
fore_local_ends s go em [] (Escaped c) =
    (state.LocalEscape, (c, None), go 92, refl, refl, ap (λ p. add p (second (c.char ∷ []))) (sym (em state.LocalEscape 92)))
fore_local_ends s go em (Plain c ∷ ps) q =
    let e : LocalEnds = record { inner = ps; last = q } in
    by_case (LocalForward s (Plain c ∷ ps) q) (is_local_char c.char)
    (λ a. (state.Local, Some e, go c.char ∙ local_char c.char a, refl, refl, ap (λ p. add p (second (local_ends_value (Some e)))) (sym (em state.Local c.char))))
    (λ a. (state.LocalDot, e, go c.char ∙ local_point c.char c.fits a, refl, refl, ap (λ p. add p (second (local_ends_value (Some e)))) (sym (em state.LocalDot c.char))))
fore_local_ends s go em (Percent h i ∷ ps) q =
    let e : LocalEnds = record { inner = ps; last = q } in
    (state.Percent, (h, i, Some e), go 37, refl, refl, ap (λ p. add p (second (h.char ∷ i.char ∷ local_ends_value (Some e)))) (sym (em state.Percent 37)))
fore_local_ends s go em (Escaped c ∷ ps) q =
    let e : LocalEnds = record { inner = ps; last = q } in
    (state.LocalEscape, (c, Some e), go 92, refl, refl, ap (λ p. add p (second (c.char ∷ local_ends_value (Some e)))) (sym (em state.LocalEscape 92)))

fore_local : (x : Option LocalEnds) → Forward state.Local kinds.Name (second (local_ends_value x)) (local_ends x)
fore_local None = (refl, refl)
fore_local (Some e) = fore_local_ends state.Local (λ c. refl) (λ to c. refl) e.inner e.last

fore_local_dot : (e : LocalEnds) → Forward state.LocalDot kinds.Name (second (local_ends_value (Some e))) (local_ends (Some e))
fore_local_dot e = fore_local_ends state.LocalDot (λ c. refl) (λ to c. refl) e.inner e.last

fore_colon : (x : Option Local) → Forward state.Colon (name_kind x) (second (local_text x)) (local x)
fore_colon None = (refl, refl)
fore_colon (Some l) = by_first l.first where
  by_first : (p : LocalPiece is_local_start) → Forward state.Colon kinds.Name (second (local_value p (local_ends_value l.more))) (local_piece p (local_ends l.more))
  by_first (Plain c) = (state.Local, l.more, then_is (is_local_start c.char) _ _ c.fits, refl, refl, refl)
  by_first (Percent h i) = (state.Percent, (h, i, l.more), refl, refl, refl, refl)
  by_first (Escaped c) = (state.LocalEscape, (c, l.more), refl, refl, refl, refl)

-- labels

label_char : (c : ℕ) → is_name_char c ≡ true → in_label c ≡ Some state.LabelChars
label_char c h = then_is (is_name_char c) _ _ h

label_point : (c : ℕ) → is_dotted c ≡ true → is_name_char c ≡ false → in_label c ≡ Some state.LabelDot
label_point c h n = let d = other_or (is_name_char c) (is_one_of (46 ∷ []) c) h n in member (λ x. in_label x ≡ Some state.LabelDot) (46 ∷ []) c (refl, tt) d

label_ends : (s : State) → ((c : ℕ) → next s c ≡ in_label c) → ((to : State) (c : ℕ) → emit s to c ≡ entered to c)
    → (i : List (In is_dotted)) (c : In is_name_char) → Forward s kinds.Label (one (chars i (c.char ∷ []))) (chars i (c.char ∷ []))
label_ends s go em [] c = (state.LabelChars, None, go c.char ∙ label_char c.char c.fits, refl, refl, ap (λ p. add p (one [])) (sym (em state.LabelChars c.char)))
label_ends s go em (d ∷ ds) c =
    let e : Ends = record { inner = ds; last = c } in
    by_case (Forward s kinds.Label (one (chars (d ∷ ds) (c.char ∷ []))) (chars (d ∷ ds) (c.char ∷ []))) (is_name_char d.char)
    (λ a. (state.LabelChars, Some e, go d.char ∙ label_char d.char a, refl, refl, ap (λ p. add p (one (ends (Some e) []))) (sym (em state.LabelChars d.char))))
    (λ a. (state.LabelDot, e, go d.char ∙ label_point d.char d.fits a, refl, refl, ap (λ p. add p (one (ends (Some e) []))) (sym (em state.LabelDot d.char))))

fore_label : (x : Option Ends) → Forward state.LabelChars kinds.Label (one (ends x [])) (ends x [])
fore_label None = (refl, refl)
fore_label (Some e) = label_ends state.LabelChars (λ c. refl) (λ to c. refl) e.inner e.last

-- variables

fore_variable : (x : List (In is_var_char)) → Forward state.Variable kinds.Var (one (chars x [])) (chars x [])
fore_variable [] = (refl, refl)
fore_variable (c ∷ cs) = (state.Variable, cs, then_is (is_var_char c.char) _ _ c.fits, refl, refl, refl)

fore_question : (x : Option AVar) → Forward state.Question (either_kind kinds.Other kinds.Var x) (one (after_question x)) (after_question x)
fore_question None = (refl, refl)
fore_question (Some v) = (state.Variable, v.1, then_is (is_label_start v.0.char) _ _ v.0.fits, refl, refl, refl)

-- between two marks

raw_not_closing : (form : Quoted) → is_raw form (closing form) ≡ false
raw_not_closing quoted.Iri = refl
raw_not_closing quoted.Double = refl
raw_not_closing quoted.Single = refl

raw_not_slash : (form : Quoted) → is_raw form 92 ≡ false
raw_not_slash quoted.Iri = refl
raw_not_slash quoted.Double = refl
raw_not_slash quoted.Single = refl

slash_not_closing : (form : Quoted) → (92 == closing form) ≡ false
slash_not_closing quoted.Iri = refl
slash_not_closing quoted.Double = refl
slash_not_closing quoted.Single = refl

short_not_u : (form : Quoted) → is_short_escape form 117 ≡ false
short_not_u quoted.Iri = refl
short_not_u quoted.Double = refl
short_not_u quoted.Single = refl

short_not_U : (form : Quoted) → is_short_escape form 85 ≡ false
short_not_U quoted.Iri = refl
short_not_U quoted.Double = refl
short_not_U quoted.Single = refl

itself : (form : Quoted) → (closing form == closing form) ≡ true
itself quoted.Iri = refl
itself quoted.Double = refl
itself quoted.Single = refl

raw_way : (form : Quoted) (to : Option State) (c : In (is_raw form)) → (if c.char == closing form then to else in_quotes form c.char) ≡ Some (state.Inside form)
raw_way form to c =
    else_is (c.char == closing form) _ _ (apart (is_raw form) c.char (closing form) c.fits (raw_not_closing form))
    ∙ else_is (c.char == 92) _ _ (apart (is_raw form) c.char 92 c.fits (raw_not_slash form)) ∙ then_is (is_raw form c.char) _ _ c.fits

slash_way : (form : Quoted) (to : Option State) → (if 92 == closing form then to else in_quotes form 92) ≡ Some (state.Escape form)
slash_way form to = else_is (92 == closing form) _ _ (slash_not_closing form)

close_way : (form : Quoted) (to other : Option State) → (if closing form == closing form then to else other) ≡ to
close_way form to other = then_is (closing form == closing form) _ _ (itself form)

fore_inside : (form : Quoted) (x : List (Piece form)) → Forward (state.Inside form) (quoted_kind form) (one (meanings x)) (quoted_chars form x)
fore_inside form [] = (state.Done (quoted_kind form), tt, close_way form _ _, refl, refl, refl)
fore_inside form (Raw c ∷ ps) = (state.Inside form, ps, raw_way form _ c, refl, refl, refl)
fore_inside form (Short e ∷ ps) = (state.Escape form, AShort e ps, slash_way form _, refl, refl, refl)
fore_inside form (Four h ∷ ps) = (state.Escape form, AFour h ps, slash_way form _, refl, refl, refl)
fore_inside form (Eight h ∷ ps) = (state.Escape form, AEight h ps, slash_way form _, refl, refl, refl)

fore_opened : (form : Quoted) (x : AfterOpened form) → Forward (state.Opened form) (after_opened_kind form x) (after_opened_texts form x) (after_opened form x)
fore_opened form AQuotes = (state.Emptied form, true, close_way form _ _, refl, refl, refl)
fore_opened form (AText []) = (state.Emptied form, false, close_way form _ _, refl, refl, refl)
fore_opened form (AText (Raw c ∷ ps)) = (state.Inside form, ps, raw_way form _ c, refl, refl, refl)
fore_opened form (AText (Short e ∷ ps)) = (state.Escape form, AShort e ps, slash_way form _, refl, refl, refl)
fore_opened form (AText (Four h ∷ ps)) = (state.Escape form, AFour h ps, slash_way form _, refl, refl, refl)
fore_opened form (AText (Eight h ∷ ps)) = (state.Escape form, AEight h ps, slash_way form _, refl, refl, refl)

fore_emptied : (form : Quoted) (x : Bool) → Forward (state.Emptied form) (chosen_kind (quoted_kind form) kinds.Quotes x) no_texts (after_emptied form x)
fore_emptied form false = (refl, refl)
fore_emptied form true = (state.Done kinds.Quotes, tt, close_way form _ _, refl, refl, refl)

fore_less : (x : Option (List (Piece quoted.Iri))) → Forward state.Less (either_kind kinds.Other kinds.Iri x) (after_less_texts x) (after_less x)
fore_less None = (refl, refl)
fore_less (Some []) = (state.Done kinds.Iri, tt, refl, refl, refl, refl)
fore_less (Some (Raw c ∷ ps)) = (state.Inside quoted.Iri, ps, raw_way quoted.Iri _ c, refl, refl, refl)
fore_less (Some (Short e ∷ ps)) = (state.Escape quoted.Iri, AShort e ps, refl, refl, refl, refl)
fore_less (Some (Four h ∷ ps)) = (state.Escape quoted.Iri, AFour h ps, refl, refl, refl, refl)
fore_less (Some (Eight h ∷ ps)) = (state.Escape quoted.Iri, AEight h ps, refl, refl, refl, refl)

fore_escape : (form : Quoted) (x : AfterEscape form) → Forward (state.Escape form) (quoted_kind form) (after_escape_texts form x) (after_escape form x)
fore_escape form (AShort e ps) = (
  state.Inside form,
  ps,
  else_is (e.char == 117) _ _ (apart (is_short_escape form) e.char 117 e.fits (short_not_u form))
      ∙ else_is (e.char == 85) _ _ (apart (is_short_escape form) e.char 85 e.fits (short_not_U form)) ∙ then_is (is_short_escape form e.char) _ _ e.fits,
  refl,
  refl,
  refl,
)
fore_escape form (AFour h ps) = (state.Hex form 3 0, record { digits = h.digits; counted = h.counted; names = h.names; more = ps }, refl, refl, refl, refl)
fore_escape form (AEight h ps) = (state.Hex form 7 0, record { digits = h.digits; counted = h.counted; names = h.names; more = ps }, refl, refl, refl, refl)

-- the number of more digits is no smaller
grows : (ds : List (In is_hex_digit)) (n : ℕ) → n ≤ hex_number n ds
grows [] n = omega arith
grows (d ∷ ds) n = let i = grows ds (n * 16 + digit_value d.char) in omega arith

scalar_small : (n : ℕ) → scalar n ≡ true → n < 1114112
scalar_small n h = by_range (scalar_cases n h) where
  by_range : (n < 55296) ⊎ ((57344 ≤ n) × (n < 1114112)) → n < 1114112
  by_range (inl a) = omega arith
  by_range (inr a) = a.1

digit_adds : (n : ℕ) (d : In is_hex_digit) (ds : List (In is_hex_digit)) → scalar (hex_number n (d ∷ ds)) ≡ true → adds_digit n d.char ≡ true
digit_adds n d ds h =
    let g : n * 16 + digit_value d.char ≤ hex_number (n * 16 + digit_value d.char) ds = grows ds (n * 16 + digit_value d.char) in
    let s : hex_number (n * 16 + digit_value d.char) ds < 1114112 = scalar_small _ h in
    let small : n ≤ 0x1_0FFF = omega arith in
    both (is_hex_digit d.char) (nat_le n 0x1_0FFF) d.fits (le_true n 0x1_0FFF small) where
      le_true : (a b : ℕ) → a ≤ b → nat_le a b ≡ true
      le_true a b h = grind (arith, nat_tests)

last_digit : (left : ℕ) → 1 ≡ suc left → (left == 0) ≡ true
last_digit left e = grind (arith, nat_tests)

no_last : (left k : ℕ) → suc (suc k) ≡ suc left → (left == 0) ≡ false
no_last left k e = grind (arith, nat_tests)

more_digits : (left k : ℕ) → suc (suc k) ≡ suc left → suc k ≡ suc (left - 1)
more_digits left k e = omega arith

fore_hex : (form : Quoted) (left n : ℕ) (ds : List (In is_hex_digit)) → length ds ≡ suc left → IsTrue (scalar (hex_number n ds)) → (ps : List (Piece form))
    → Forward (state.Hex form left n) (quoted_kind form) (one (hex_number n ds ∷ meanings ps)) (chars ds (quoted_chars form ps))
fore_hex form left n [] e h ps = cc
fore_hex form left n (d ∷ []) e h ps =
    let m : ℕ = n * 16 + digit_value d.char in
    let adds : adds_digit n d.char ≡ true = digit_adds n d [] h in (
      state.Inside form,
      ps,
      then_is (adds_digit n d.char) _ _ adds ∙ then_is (left == 0) _ _ (last_digit left e) ∙ then_is (scalar (n * 16 + digit_value d.char)) _ _ h,
      refl,
      refl,
      ap (λ p. add p (one (meanings ps))) (sym (then_is (adds_digit n d.char && scalar (n * 16 + digit_value d.char)) (part.First (n * 16 + digit_value d.char)) part.Nothing (both (adds_digit n d.char) _ adds h))),
    )
fore_hex form left n (d ∷ f ∷ fs) e h ps = (
  state.Hex form (left - 1) (n * 16 + digit_value d.char),
  record { digits = f ∷ fs; counted = more_digits left (length fs) e; names = h; more = ps },
  then_is (adds_digit n d.char) _ _ (digit_adds n d (f ∷ fs) h) ∙ else_is (left == 0) _ _ (no_last left (length fs) e),
  refl,
  refl,
  refl,
)

-- tags

fore_parts : (s : State) → (next s 45 ≡ Some state.TagDash) → (emit s state.TagDash 45 ≡ part.First 45) → accepts s ≡ Some kinds.Tag
    → (ps : List TagPart) → Forward s kinds.Tag (one (tag_parts ps)) (tag_parts ps)
fore_parts s go em ac [] = (ac, refl)
fore_parts s go em ac (p ∷ ps) =
    (state.TagDash, (p, ps), go, refl, refl, ap (λ q. add q (one (p.first.char ∷ chars p.more (tag_parts ps)))) (sym em))

fore_tag_letters : (cs : List (In is_letter)) (ps : List TagPart) → Forward state.TagLetters kinds.Tag (one (chars cs (tag_parts ps))) (chars cs (tag_parts ps))
fore_tag_letters [] ps = fore_parts state.TagLetters refl refl refl ps
fore_tag_letters (c ∷ cs) ps = (state.TagLetters, (cs, ps), first_way (is_letter c.char) _ _ _ c.fits, refl, refl, refl)

fore_tag_part : (cs : List (In is_alphanumeric)) (ps : List TagPart) → Forward state.TagPart kinds.Tag (one (chars cs (tag_parts ps))) (chars cs (tag_parts ps))
fore_tag_part [] ps = fore_parts state.TagPart refl refl refl ps
fore_tag_part (c ∷ cs) ps = (state.TagPart, (cs, ps), first_way (is_alphanumeric c.char) _ _ _ c.fits, refl, refl, refl)

fore_at : (x : Option ATag) → Forward state.At (either_kind kinds.Other kinds.Tag x) (one (after_at x)) (after_at x)
fore_at None = (refl, refl)
fore_at (Some t) = (state.TagLetters, (t.1, t.2), then_is (is_letter t.0.char) _ _ t.0.fits, refl, refl, refl)

-- numbers

abbrev after_mark : Exponent → Option (In is_sign) × In is_digit × List (In is_digit)
after_mark e = (e.sign, e.first, e.more)

-- the mark of an exponent, where the state leads on with it
fore_mark : (s : State) (k : Kind) → (AllOf (λ c. next s c ≡ Some state.Exponent) (101 ∷ 69 ∷ [])) → ((c : ℕ) → emit s state.Exponent c ≡ part.First c)
    → k ≡ kinds.Number number.Double → (e : Exponent) → Forward s k (one (exponent e)) (exponent e)
fore_mark s k go em same e = (
  state.Exponent,
  after_mark e,
  member (λ c. next s c ≡ Some state.Exponent) (101 ∷ 69 ∷ []) e.mark.char go e.mark.fits,
  refl,
  sym same,
  ap (λ p. add p (tail_texts state.Exponent (after_mark e))) (sym (em e.mark.char)),
)

number_digit : (to : State) (c : In is_digit) → either (is_digit c.char) to (is_exponent_mark c.char) state.Exponent ≡ Some to
number_digit to c = first_way (is_digit c.char) _ _ _ c.fits

fore_fraction : (ds : List (In is_digit)) (e : Option Exponent)
    → Forward state.Fraction (kinds.Number (fraction_kind e)) (one (chars ds (exponent_or_end e))) (chars ds (exponent_or_end e))
fore_fraction (d ∷ ds) e = (state.Fraction, (ds, e), number_digit state.Fraction d, refl, refl, refl)
fore_fraction [] None = (refl, refl)
fore_fraction [] (Some e) = fore_mark state.Fraction (kinds.Number number.Double) (refl, (refl, tt)) (λ c. refl) refl e

fore_point : (x : AfterPoint) → Forward state.DigitsDot (kinds.Number (after_point_kind x)) (one (after_point x)) (after_point x)
fore_point (PDecimal d ds) = (state.Fraction, (ds, None), number_digit state.Fraction d, refl, refl, refl)
fore_point (PDouble (d ∷ ds) e) = (state.Fraction, (ds, Some e), number_digit state.Fraction d, refl, refl, refl)
fore_point (PDouble [] e) = fore_mark state.DigitsDot (kinds.Number number.Double) (refl, (refl, tt)) (λ c. refl) refl e

digits_way : (k : NumberKind) (c : In is_digit) → next (state.Digits k) c.char ≡ Some (state.Digits k)
digits_way k c = else_is (c.char == 46) _ _ (apart is_digit c.char 46 c.fits refl) ∙ number_digit (state.Digits k) c

fore_digits : (k : NumberKind) (x : AfterDigits) → Forward (state.Digits k) (kinds.Number (after_digits_kind k x)) (one (after_digits x)) (after_digits x)
fore_digits k (AWhole []) = (refl, refl)
fore_digits k (AWhole (d ∷ ds)) = (state.Digits k, AWhole ds, digits_way k d, refl, refl, refl)
fore_digits k (ADecimal [] f fs) = (state.DigitsDot, PDecimal f fs, refl, refl, refl, refl)
fore_digits k (ADecimal (d ∷ ds) f fs) = (state.Digits k, ADecimal ds f fs, digits_way k d, refl, refl, refl)
fore_digits k (APointed [] fs e) = (state.DigitsDot, PDouble fs e, refl, refl, refl, refl)
fore_digits k (APointed (d ∷ ds) fs e) = (state.Digits k, APointed ds fs e, digits_way k d, refl, refl, refl)
fore_digits k (ABare [] e) = fore_mark (state.Digits k) (kinds.Number number.Double) (refl, (refl, tt)) (λ c. refl) refl e
fore_digits k (ABare (d ∷ ds) e) = (state.Digits k, ABare ds e, digits_way k d, refl, refl, refl)

fore_dot : (x : Option Fractional) → Forward state.Dot (after_dot_kind x) (one (after_dot x)) (after_dot x)
fore_dot None = (refl, refl)
fore_dot (Some x) = (state.Fraction, (x.1, x.2), then_is (is_digit x.0.char) _ _ x.0.fits, refl, refl, refl)

sign_digit : (k : Kind) (c : In is_digit) → next (state.Sign k) c.char ≡ Some (state.Digits number.Integer)
sign_digit k c = first_way (is_digit c.char) _ _ _ c.fits

fore_sign : (k : Kind) (x : Option Numeral) → Forward (state.Sign k) (after_sign_kind k x) (one (after_sign x)) (after_sign x)
fore_sign k None = (refl, refl)
fore_sign k (Some (Whole d ds)) = (state.Digits number.Integer, AWhole ds, sign_digit k d, refl, refl, refl)
fore_sign k (Some (Decimal [] f fs)) = (state.SignDot, (f, fs, None), refl, refl, refl, refl)
fore_sign k (Some (Decimal (d ∷ ds) f fs)) = (state.Digits number.Integer, ADecimal ds f fs, sign_digit k d, refl, refl, refl)
fore_sign k (Some (Double (Pointed d ds fs) e)) = (state.Digits number.Integer, APointed ds fs e, sign_digit k d, refl, refl, refl)
fore_sign k (Some (Double (Fraction f fs) e)) = (state.SignDot, (f, fs, Some e), refl, refl, refl, refl)
fore_sign k (Some (Double (Bare d ds) e)) = (state.Digits number.Integer, ABare ds e, sign_digit k d, refl, refl, refl)

fore_exponent : (s : Option (In is_sign)) (d : In is_digit) (ds : List (In is_digit))
    → Forward state.Exponent (kinds.Number number.Double) (one (tail_chars state.Exponent (s, d, ds))) (tail_chars state.Exponent (s, d, ds))
fore_exponent None d ds = (state.ExponentDigits, ds, first_way (is_digit d.char) _ _ _ d.fits, refl, refl, refl)
fore_exponent (Some s) d ds =
    (state.ExponentSign, (d, ds), member (λ c. next state.Exponent c ≡ Some state.ExponentSign) (43 ∷ 45 ∷ []) s.char (refl, (refl, tt)) s.fits, refl, refl, refl)

fore_exponent_digits : (ds : List (In is_digit)) → Forward state.ExponentDigits (kinds.Number number.Double) (one (chars ds [])) (chars ds [])
fore_exponent_digits [] = (refl, refl)
fore_exponent_digits (d ∷ ds) = (state.ExponentDigits, ds, then_is (is_digit d.char) _ _ d.fits, refl, refl, refl)

fore_caret : (x : Bool) → Forward state.Caret (chosen_kind kinds.Unsupported kinds.Carets x) no_texts (after_caret x)
fore_caret false = (refl, refl)
fore_caret true = (state.Done kinds.Carets, tt, refl, refl, refl, refl)

-- the start

abbrev Begins : Lexeme → Type 0
Begins l = Forward state.Start (kind l) (texts l) (spelling l)

begins_digit : (c : In is_digit) → next state.Start c.char ≡ Some (state.Digits number.Digits)
begins_digit c =
    else_is (is_letter c.char) _ _ (digit_no_letter c.char c.fits) ∙ else_is (is_base c.char) _ _ (digit_no_base c.char c.fits) ∙ then_is (is_digit c.char) _ _ c.fits

begins_number : (n : Numeral) → Begins (Number None n)
begins_number (Whole d ds) = (state.Digits number.Digits, AWhole ds, begins_digit d, refl, refl, refl)
begins_number (Decimal [] f fs) = (state.Dot, Some (f, fs, None), refl, refl, refl, refl)
begins_number (Decimal (d ∷ ds) f fs) = (state.Digits number.Digits, ADecimal ds f fs, begins_digit d, refl, refl, refl)
begins_number (Double (Pointed d ds fs) e) = (state.Digits number.Digits, APointed ds fs e, begins_digit d, refl, refl, refl)
begins_number (Double (Fraction f fs) e) = (state.Dot, Some (f, fs, Some e), refl, refl, refl, refl)
begins_number (Double (Bare d ds) e) = (state.Digits number.Digits, ABare ds e, begins_digit d, refl, refl, refl)

abbrev SignBegins : Numeral → ℕ → Type 0
SignBegins n c = Forward state.Start (kinds.Number (numeral_kind number.Integer n)) (one (c ∷ numeral n)) (c ∷ numeral n)

begins_signed : (s : In is_sign) (n : Numeral) → Begins (Number (Some s) n)
begins_signed s n = member (SignBegins n) (43 ∷ 45 ∷ []) s.char
    ((state.Sign kinds.Unsupported, Some n, refl, refl, refl, refl), ((state.Sign kinds.Other, Some n, refl, refl, refl, refl), tt)) s.fits

abbrev VarBegins : AVar → ℕ → Type 0
VarBegins v c = Forward state.Start kinds.Var (one (v.0.char ∷ chars v.1 [])) (c ∷ v.0.char ∷ chars v.1 [])

begins_var : (s : In (is_one_of (63 ∷ 36 ∷ []))) (v : AVar) → VarBegins v s.char
begins_var s v = member (VarBegins v) (63 ∷ 36 ∷ []) s.char
    ((state.Question, Some v, refl, refl, refl, refl), ((state.Dollar, v, refl, refl, refl, refl), tt)) s.fits

begins_between : (form : Quoted) (ps : List (Piece form)) → Begins (Between form ps)
begins_between quoted.Iri ps = (state.Less, Some ps, refl, refl, refl, refl)
begins_between quoted.Double ps = (state.Opened quoted.Double, AText ps, refl, refl, refl, refl)
begins_between quoted.Single ps = (state.Opened quoted.Single, AText ps, refl, refl, refl, refl)

begins_prefix : (p : Prefix) (l : Option Local) → Begins (Name (Some p) l)
begins_prefix p l = by_case (Begins (Name (Some p) l)) (is_letter p.first.char)
    (λ a. (state.Letters, AName p.more l, then_is (is_letter p.first.char) _ _ a, refl, refl, refl))
    (λ a. (state.Prefix, (p.more, l), else_is (is_letter p.first.char) _ _ a ∙ then_is (is_base p.first.char) _ _ p.first.fits, refl, refl, refl))

abbrev MarkBegins : ℕ → Type 0
MarkBegins c = Forward state.Start (mark_kind c) (emitted state.Start (c ∷ [])) (c ∷ [])

begins_mark : (c : ℕ) → is_mark c ≡ true → MarkBegins c
begins_mark c h = member MarkBegins marks c (
  (state.Done kinds.Open, tt, refl, refl, refl, refl),
  (
    (state.Done kinds.Close, tt, refl, refl, refl, refl),
    (
      (state.Dot, None, refl, refl, refl, refl),
      (
        (state.Done kinds.Semicolon, tt, refl, refl, refl, refl),
        (
          (state.Done kinds.Comma, tt, refl, refl, refl, refl),
          (
            (state.Done kinds.Star, tt, refl, refl, refl, refl),
            (
              (state.Done kinds.Unsupported, tt, refl, refl, refl, refl),
              (
                (state.Done kinds.Other, tt, refl, refl, refl, refl),
                (
                  (state.Done kinds.Unsupported, tt, refl, refl, refl, refl),
                  (
                    (state.Done kinds.Other, tt, refl, refl, refl, refl),
                    (
                      (state.Done kinds.Unsupported, tt, refl, refl, refl, refl),
                      (
                        (state.Done kinds.Unsupported, tt, refl, refl, refl, refl),
                        (
                          (state.Caret, false, refl, refl, refl, refl),
                          (
                            (state.Sign kinds.Unsupported, None, refl, refl, refl, refl),
                            (
                              (state.Sign kinds.Other, None, refl, refl, refl, refl),
                              (
                                (state.Question, None, refl, refl, refl, refl),
                                (
                                  (state.Done kinds.Unsupported, tt, refl, refl, refl, refl),
                                  (
                                    (state.Done kinds.Other, tt, refl, refl, refl, refl),
                                    (
                                      (state.Less, None, refl, refl, refl, refl),
                                      (
                                        (state.Done kinds.Other, tt, refl, refl, refl, refl),
                                        (
                                          (state.Done kinds.Other, tt, refl, refl, refl, refl),
                                          (
                                            (state.At, None, refl, refl, refl, refl),
                                            tt,
                                          ),
                                        ),
                                      ),
                                    ),
                                  ),
                                ),
                              ),
                            ),
                          ),
                        ),
                      ),
                    ),
                  ),
                ),
              ),
            ),
          ),
        ),
      ),
    ),
  ),
) h

begins : (l : Lexeme) → Begins l
begins (Word c cs) = (state.Letters, AWord cs, then_is (is_letter c.char) _ _ c.fits, refl, refl, refl)
begins (Name None l) = (state.Colon, l, refl, refl, refl, refl)
begins (Name (Some p) l) = begins_prefix p l
begins (Between form ps) = begins_between form ps
begins DoubleQuotes = (state.Opened quoted.Double, AQuotes, refl, refl, refl, refl)
begins SingleQuotes = (state.Opened quoted.Single, AQuotes, refl, refl, refl, refl)
begins (Var s c cs) = begins_var s (c, cs)
begins (Label c e) = (state.Underscore, (c, e), refl, refl, refl, refl)
begins (Tag c cs ps) = (state.At, Some (c, cs, ps), refl, refl, refl, refl)
begins (Number None n) = begins_number n
begins (Number (Some s) n) = begins_signed s n
begins (Mark m) = begins_mark m.char m.fits
begins Carets = (state.Caret, true, refl, refl, refl, refl)

pub fore : (s : State) (x : Tail s) → Forward s (tail_kind s x) (tail_texts s x) (tail_chars s x)
fore state.Start x = begins x
fore state.Letters x = fore_letters x
fore state.Prefix x = fore_prefix x.0 x.1
fore state.PrefixDot x = fore_prefix_dot x.0 x.1
fore state.Colon x = fore_colon x
fore state.Local x = fore_local x
fore state.LocalDot x = fore_local_dot x
fore state.Percent x = (state.PercentDigit, (x.1, x.2), then_is (is_hex_digit x.0.char) _ _ x.0.fits, refl, refl, refl)
fore state.PercentDigit x = (state.Local, x.1, then_is (is_hex_digit x.0.char) _ _ x.0.fits, refl, refl, refl)
fore state.LocalEscape x = (state.Local, x.1, then_is (is_local_escape x.0.char) _ _ x.0.fits, refl, refl, refl)
fore state.Question x = fore_question x
fore state.Dollar x = (state.Variable, x.1, then_is (is_label_start x.0.char) _ _ x.0.fits, refl, refl, refl)
fore state.Variable x = fore_variable x
fore state.Underscore x = (state.LabelColon, x, refl, refl, refl, refl)
fore state.LabelColon x = (state.LabelChars, x.1, then_is (is_label_start x.0.char) _ _ x.0.fits, refl, refl, refl)
fore state.LabelChars x = fore_label x
fore state.LabelDot x = label_ends state.LabelDot (λ c. refl) (λ to c. refl) x.inner x.last
fore state.Less x = fore_less x
fore (state.Opened form) x = fore_opened form x
fore (state.Emptied form) x = fore_emptied form x
fore (state.Inside form) x = fore_inside form x
fore (state.Escape form) x = fore_escape form x
fore (state.Hex form left n) x = fore_hex form left n x.digits x.counted x.names x.more
fore state.At x = fore_at x
fore state.TagLetters x = fore_tag_letters x.0 x.1
fore state.TagDash x = (state.TagPart, (x.0.more, x.1), then_is (is_alphanumeric x.0.first.char) _ _ x.0.first.fits, refl, refl, refl)
fore state.TagPart x = fore_tag_part x.0 x.1
fore (state.Sign k) x = fore_sign k x
fore (state.Digits k) x = fore_digits k x
fore state.DigitsDot x = fore_point x
fore state.SignDot x = (state.Fraction, (x.1, x.2), then_is (is_digit x.0.char) _ _ x.0.fits, refl, refl, refl)
fore state.Dot x = fore_dot x
fore state.Fraction x = fore_fraction x.0 x.1
fore state.Exponent x = fore_exponent x.0 x.1 x.2
fore state.ExponentSign x = (state.ExponentDigits, x.1, then_is (is_digit x.0.char) _ _ x.0.fits, refl, refl, refl)
fore state.ExponentDigits x = fore_exponent_digits x
fore state.Caret x = fore_caret x
fore (state.Done k) x = (refl, refl)
