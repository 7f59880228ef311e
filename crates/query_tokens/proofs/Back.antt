-- From where a character leads, what is left of a token comes from what is left before the character.
use Rattle.std.proofs.Common.{◌≡◌, refl, ◌∙◌, sym, ap, subst, ℕ, suc, ◌+◌, ◌*◌, ◌-◌, Bool, true, false, ◌==◌, nat_le, if◌then◌else◌, List, [], ◌∷◌, Option, Some, None, arith}
use Rattle.std.specs.Char.{digit_value}
use Rattle.std.proofs.lemmas.Bool.Decides.{nat_tests}
use lib.Utf8.{scalar}
use Rattle.rdf_term.specs.Classes.{is_digit, is_letter, is_one_of, is_hex_digit}
use Rattle.query_tokens.specs.declared.token.Number.TheVariants as number
use Rattle.query_tokens.specs.declared.token.Number.{Number as NumberKind}
use Rattle.query_tokens.specs.declared.kind.Kind.{Kind}
use Rattle.query_tokens.specs.declared.kind.Kind.TheVariants as kinds
use Rattle.query_tokens.specs.declared.kind.Quoted.{Quoted}
use Rattle.query_tokens.specs.declared.kind.Quoted.TheVariants as quoted
use Rattle.query_tokens.specs.declared.state.State.{State}
use Rattle.query_tokens.specs.declared.state.State.TheVariants as state
use Rattle.query_model.specs.WellFormed.{is_name_char, is_dotted, is_label_start, is_var_char}
use Rattle.query_tokens.specs.Classes.{is_base, is_local_start, is_local_char, is_local_dotted, is_local_escape, is_alphanumeric, is_exponent_mark, is_sign, is_mark, closing, is_raw, is_short_escape}
use Rattle.query_tokens.specs.Lexemes.{In, chars, Ends, ends, LocalPiece, Plain, Percent, Escaped, local_piece, LocalEnds, local_ends, Piece, Raw, Short, Four, Eight, Exponent, Pointed, Fraction, Bare, Numeral, numeral, numeral_kind, Whole, Decimal, Double, Lexeme, Word, Name, Between, DoubleQuotes, SingleQuotes, Var, Label, Tag, Number, Mark, Carets}
use Rattle.query_tokens.specs.Scanner.{lookup, marks_begin, quoted_kind, adds_digit, in_hex, next, when, either}
use Rattle.query_tokens.proofs.Cases.{at, same_char, left_or, split, of_char, letter_base, letter_name, name_dotted}
use Rattle.query_tokens.proofs.Tails.{AWord, AName, AText, AQuotes, AfterEscape, AShort, AFour, AEight, AfterDigits, AWhole, ADecimal, APointed, ABare, AfterPoint, PDecimal, PDouble, Fractional, Tail, tail_chars, tail_kind, quoted_chars, after_digits, after_digits_kind, fraction_kind, fraction_chars, exponent_or_end}

abbrev pub Backward : State → ℕ → Option State → Type 0
Backward s c None = Unit {0}
Backward s c (Some s') = (tail : Tail s') → (front : Tail s) × (tail_chars s front ≡ c ∷ tail_chars s' tail) × (tail_kind s front ≡ tail_kind s' tail)

test : (P : Option State → Type 0) (b : Bool) (x y : Option State) → (b ≡ true → P x) → (b ≡ false → P y) → P (if b then x else y)
test P true x y f g = f refl
test P false x y f g = g refl

-- a test with nothing behind it
only : (s : State) (c : ℕ) (b : Bool) (to : State) → (b ≡ true → Backward s c (Some to)) → Backward s c (when b to)
only s c b to f = test (Backward s c) b (Some to) None f (λ n. tt)

-- two tests
two : (s : State) (c : ℕ) (a b : Bool) (to other : State) → (a ≡ true → Backward s c (Some to)) → (b ≡ true → Backward s c (Some other))
    → Backward s c (either a to b other)
two s c a b to other f g = test (Backward s c) a (Some to) (when b other) f (λ n. only s c b other g)

-- from an equation on the character
put : (s : State) (c d : ℕ) (text : List ℕ) (front : Tail s) → (c == d) ≡ true → tail_chars s front ≡ d ∷ text → tail_chars s front ≡ c ∷ text
put s c d text front h e = e ∙ ap (λ x. x ∷ text) (sym (same_char c d h))

-- a character that may end, in front of what is left
joined : (c : ℕ) → is_name_char c ≡ true → (e : Option Ends) → (f : Ends) × ((rest : List ℕ) → ends (Some f) rest ≡ c ∷ ends e rest)
joined c h None = (record { inner = []; last = at c h }, λ rest. refl)
joined c h (Some e) = (record { inner = at c (name_dotted c h) ∷ e.inner; last = e.last }, λ rest. refl)

dot_fits : (c : ℕ) → (c == 46) ≡ true → is_dotted c ≡ true
dot_fits c h = of_char is_dotted c 46 h refl

dotted : (c : ℕ) → (c == 46) ≡ true → (e : Ends) → (f : Ends) × ((rest : List ℕ) → ends (Some f) rest ≡ c ∷ ends (Some e) rest)
dotted c h e = (record { inner = at c (dot_fits c h) ∷ e.inner; last = e.last }, λ rest. refl)

-- the same of a local part, whose piece may end
joined_local : (p : LocalPiece is_local_dotted) (q : LocalPiece is_local_char) → ((rest : List ℕ) → local_piece p rest ≡ local_piece q rest)
    → (e : Option LocalEnds) → (f : LocalEnds) × (local_ends (Some f) ≡ local_piece q (local_ends e))
joined_local p q same None = (record { inner = []; last = q }, refl)
joined_local p q same (Some e) = (record { inner = p ∷ e.inner; last = e.last }, same _)

local_fits : (c : ℕ) → is_local_char c ≡ true → is_local_dotted c ≡ true
local_fits c h = left_or (is_local_char c) (is_one_of (46 ∷ []) c) h

joined_char : (c : ℕ) → is_local_char c ≡ true → (e : Option LocalEnds) → (f : LocalEnds) × (local_ends (Some f) ≡ c ∷ local_ends e)
joined_char c h e = joined_local (Plain (at c (local_fits c h))) (Plain (at c h)) (λ rest. refl) e

joined_percent : (h i : In is_hex_digit) (e : Option LocalEnds) → (f : LocalEnds) × (local_ends (Some f) ≡ 37 ∷ h.char ∷ i.char ∷ local_ends e)
joined_percent h i e = joined_local (Percent h i) (Percent h i) (λ rest. refl) e

joined_escape : (c : In is_local_escape) (e : Option LocalEnds) → (f : LocalEnds) × (local_ends (Some f) ≡ 92 ∷ c.char ∷ local_ends e)
joined_escape c e = joined_local (Escaped c) (Escaped c) (λ rest. refl) e

dotted_local : (c : ℕ) → (c == 46) ≡ true → (e : LocalEnds) → (f : LocalEnds) × (local_ends (Some f) ≡ c ∷ local_ends (Some e))
dotted_local c h e = (record { inner = Plain (at c (of_char is_local_dotted c 46 h refl)) ∷ e.inner; last = e.last }, refl)

-- a number's digit, and its point
digit_in_front : (d : In is_digit) (whole : NumberKind) (x : AfterDigits)
    → (n : Numeral) × (numeral n ≡ d.char ∷ after_digits x) × (numeral_kind whole n ≡ after_digits_kind whole x)
digit_in_front d whole (AWhole ds) = (Whole d ds, refl, refl)
digit_in_front d whole (ADecimal ds f fs) = (Decimal (d ∷ ds) f fs, refl, refl)
digit_in_front d whole (APointed ds fs e) = (Double (Pointed d ds fs) e, refl, refl)
digit_in_front d whole (ABare ds e) = (Double (Bare d ds) e, refl, refl)

point_in_front : (whole : NumberKind) (x : Fractional)
    → (n : Numeral) × (numeral n ≡ 46 ∷ fraction_chars x) × (numeral_kind whole n ≡ fraction_kind x.2)
point_in_front whole x = by_end x.2 where
  by_end : (e : Option Exponent) → (n : Numeral) × (numeral n ≡ 46 ∷ x.0.char ∷ chars x.1 (exponent_or_end e)) × (numeral_kind whole n ≡ fraction_kind e)
  by_end None = (Decimal [] x.0 x.1, refl, refl)
  by_end (Some e) = (Double (Fraction x.0 x.1) e, refl, refl)

-- from the start

from_letter : (c : ℕ) → is_letter c ≡ true → Backward state.Start c (Some state.Letters)
from_letter c h (AWord cs) = (Word (at c h) cs, refl, refl)
from_letter c h (AName e l) = (Name (Some (record { first = at c (letter_base c h); more = e })) l, refl, refl)

from_question : Backward state.Start 63 (Some state.Question)
from_question None = (Mark (at 63 refl), refl, refl)
from_question (Some v) = (Var (at 63 refl) v.0 v.1, refl, refl)

from_less : Backward state.Start 60 (Some state.Less)
from_less None = (Mark (at 60 refl), refl, refl)
from_less (Some ps) = (Between quoted.Iri ps, refl, refl)

from_double : Backward state.Start 34 (Some (state.Opened quoted.Double))
from_double (AText ps) = (Between quoted.Double ps, refl, refl)
from_double AQuotes = (DoubleQuotes, refl, refl)

from_single : Backward state.Start 39 (Some (state.Opened quoted.Single))
from_single (AText ps) = (Between quoted.Single ps, refl, refl)
from_single AQuotes = (SingleQuotes, refl, refl)

from_at : Backward state.Start 64 (Some state.At)
from_at None = (Mark (at 64 refl), refl, refl)
from_at (Some t) = (Tag t.0 t.1 t.2, refl, refl)

from_plus : Backward state.Start 43 (Some (state.Sign kinds.Unsupported))
from_plus None = (Mark (at 43 refl), refl, refl)
from_plus (Some n) = (Number (Some (at 43 refl)) n, refl, refl)

from_minus : Backward state.Start 45 (Some (state.Sign kinds.Other))
from_minus None = (Mark (at 45 refl), refl, refl)
from_minus (Some n) = (Number (Some (at 45 refl)) n, refl, refl)

from_dot : Backward state.Start 46 (Some state.Dot)
from_dot None = (Mark (at 46 refl), refl, refl)
from_dot (Some x) = let n = point_in_front number.Digits x in (Number None n.0, n.1, ap kinds.Number n.2)

from_caret : Backward state.Start 94 (Some state.Caret)
from_caret false = (Mark (at 94 refl), refl, refl)
from_caret true = (Carets, refl, refl)

-- the rows of the table
abbrev AllBack : List (ℕ × State) → Type 0
AllBack [] = Unit {0}
AllBack (e ∷ es) = Backward state.Start e.0 (Some e.1) × AllBack es

by_table : (es : List (ℕ × State)) → AllBack es → (c : ℕ) → Backward state.Start c (lookup es c)
by_table [] a c = tt
by_table (e ∷ es) a c =
    test (Backward state.Start c) (c == e.0) (Some e.1) (lookup es c)
    (λ h. subst (λ d. Backward state.Start d (Some e.1)) (sym (same_char c e.0 h)) a.0) (λ n. by_table es a.1 c)

abbrev whole_mark : (c : ℕ) → is_mark c ≡ true → Lexeme
whole_mark c h = Mark (at c h)

by_mark : (c : ℕ) → Backward state.Start c (lookup marks_begin c)
by_mark c = by_table marks_begin (
  (λ x. (Name None x, refl, refl)),
  (
    from_question,
    (
      (λ x. (Var (at 36 refl) x.0 x.1, refl, refl)),
      (
        (λ x. (Label x.0 x.1, refl, refl)),
        (
          from_less,
          (
            from_double,
            (
              from_single,
              (
                from_at,
                (
                  from_plus,
                  (
                    from_minus,
                    (
                      from_dot,
                      (
                        from_caret,
                        (
                          (λ x. (Mark (at 123 refl), refl, refl)),
                          (
                            (λ x. (Mark (at 125 refl), refl, refl)),
                            (
                              (λ x. (Mark (at 59 refl), refl, refl)),
                              (
                                (λ x. (Mark (at 44 refl), refl, refl)),
                                (
                                  (λ x. (Mark (at 42 refl), refl, refl)),
                                  (
                                    (λ x. (Mark (at 91 refl), refl, refl)),
                                    (
                                      (λ x. (Mark (at 40 refl), refl, refl)),
                                      (
                                        (λ x. (Mark (at 47 refl), refl, refl)),
                                        (
                                          (λ x. (Mark (at 124 refl), refl, refl)),
                                          (
                                            (λ x. (Mark (at 33 refl), refl, refl)),
                                            (
                                              (λ x. (Mark (at 93 refl), refl, refl)),
                                              (
                                                (λ x. (Mark (at 41 refl), refl, refl)),
                                                (
                                                  (λ x. (Mark (at 61 refl), refl, refl)),
                                                  (
                                                    (λ x. (Mark (at 62 refl), refl, refl)),
                                                    (
                                                      (λ x. (Mark (at 38 refl), refl, refl)),
                                                      tt,
                                                    ),
                                                  ),
                                                ),
                                              ),
                                            ),
                                          ),
                                        ),
                                      ),
                                    ),
                                  ),
                                ),
                              ),
                            ),
                          ),
                        ),
                      ),
                    ),
                  ),
                ),
              ),
            ),
          ),
        ),
      ),
    ),
  ),
)
    c

from_start : (c : ℕ) → Backward state.Start c (next state.Start c)
from_start c =
    test (Backward state.Start c) (is_letter c) (Some state.Letters) _ (λ h. from_letter c h)
    (λ n1. test (Backward state.Start c) (is_base c) (Some state.Prefix) _ (λ h x. (Name (Some (record { first = at c h; more = x.0 })) x.1, refl, refl))
    (λ n2. test (Backward state.Start c) (is_digit c) (Some (state.Digits number.Digits)) _
    (λ h x. let n = digit_in_front (at c h) number.Digits x in (Number None n.0, n.1, ap kinds.Number n.2))
    (λ n3. by_mark c)))

-- prefixes

letter_in_word : (c : ℕ) → is_letter c ≡ true → Backward state.Letters c (Some state.Letters)
letter_in_word c h (AWord cs) = (AWord (at c h ∷ cs), refl, refl)
letter_in_word c h (AName e l) = let j = joined c (letter_name c h) e in (AName (Some j.0) l, j.1 _, refl)

back_letters : (c : ℕ) → Backward state.Letters c (next state.Letters c)
back_letters c =
    test (Backward state.Letters c) (is_letter c) (Some state.Letters) _ (λ h. letter_in_word c h)
    (λ n1. test (Backward state.Letters c) (c == 58) (Some state.Colon) _ (λ h x. (AName None x, put state.Letters c 58 _ (AName None x) h refl, refl))
    (λ n2. test (Backward state.Letters c) (is_name_char c) (Some state.Prefix) _ (λ h x. let j = joined c h x.0 in (AName (Some j.0) x.1, j.1 _, refl))
    (λ n3. test (Backward state.Letters c) (c == 46) (Some state.PrefixDot) None (λ h x. let d = dotted c h x.0 in (AName (Some d.0) x.1, d.1 _, refl)) (λ n4. tt))))

back_prefix : (c : ℕ) → Backward state.Prefix c (next state.Prefix c)
back_prefix c =
    test (Backward state.Prefix c) (c == 58) (Some state.Colon) _ (λ h x. ((None, x), put state.Prefix c 58 _ (None, x) h refl, refl))
    (λ n1. test (Backward state.Prefix c) (is_name_char c) (Some state.Prefix) _ (λ h x. let j = joined c h x.0 in ((Some j.0, x.1), j.1 _, refl))
    (λ n2. test (Backward state.Prefix c) (c == 46) (Some state.PrefixDot) None (λ h x. let d = dotted c h x.0 in ((Some d.0, x.1), d.1 _, refl)) (λ n3. tt)))

back_prefix_dot : (c : ℕ) → Backward state.PrefixDot c (next state.PrefixDot c)
back_prefix_dot c =
    test (Backward state.PrefixDot c) (is_name_char c) (Some state.Prefix) _ (λ h x. let j = joined c h x.0 in ((j.0, x.1), j.1 _, refl))
    (λ n2. test (Backward state.PrefixDot c) (c == 46) (Some state.PrefixDot) None (λ h x. let d = dotted c h x.0 in ((d.0, x.1), d.1 _, refl)) (λ n3. tt))

-- local parts

back_colon : (c : ℕ) → Backward state.Colon c (next state.Colon c)
back_colon c =
    test (Backward state.Colon c) (is_local_start c) (Some state.Local) _ (λ h x. (Some (record { first = Plain (at c h); more = x }), refl, refl))
    (λ n1. test (Backward state.Colon c) (c == 37) (Some state.Percent) _
    (λ h x. let l : Tail state.Colon = Some (record { first = Percent x.0 x.1; more = x.2 }) in (l, put state.Colon c 37 _ l h refl, refl))
    (λ n2. test (Backward state.Colon c) (c == 92) (Some state.LocalEscape) None
    (λ h x. let l : Tail state.Colon = Some (record { first = Escaped x.0; more = x.1 }) in (l, put state.Colon c 92 _ l h refl, refl)) (λ n3. tt)))

back_local : (c : ℕ) → Backward state.Local c (next state.Local c)
back_local c =
    test (Backward state.Local c) (is_local_char c) (Some state.Local) _ (λ h x. let j = joined_char c h x in (Some j.0, j.1, refl))
    (λ n1. test (Backward state.Local c) (c == 46) (Some state.LocalDot) _ (λ h x. let d = dotted_local c h x in (Some d.0, d.1, refl))
    (λ n2. test (Backward state.Local c) (c == 37) (Some state.Percent) _
    (λ h x. let j = joined_percent x.0 x.1 x.2 in (Some j.0, put state.Local c 37 _ (Some j.0) h j.1, refl))
    (λ n3. test (Backward state.Local c) (c == 92) (Some state.LocalEscape) None
    (λ h x. let j = joined_escape x.0 x.1 in (Some j.0, put state.Local c 92 _ (Some j.0) h j.1, refl)) (λ n4. tt))))

back_local_dot : (c : ℕ) → Backward state.LocalDot c (next state.LocalDot c)
back_local_dot c =
    test (Backward state.LocalDot c) (is_local_char c) (Some state.Local) _ (λ h x. let j = joined_char c h x in (j.0, j.1, refl))
    (λ n1. test (Backward state.LocalDot c) (c == 46) (Some state.LocalDot) _ (λ h x. let d = dotted_local c h x in (d.0, d.1, refl))
    (λ n2. test (Backward state.LocalDot c) (c == 37) (Some state.Percent) _
    (λ h x. let j = joined_percent x.0 x.1 x.2 in (j.0, put state.LocalDot c 37 _ j.0 h j.1, refl))
    (λ n3. test (Backward state.LocalDot c) (c == 92) (Some state.LocalEscape) None
    (λ h x. let j = joined_escape x.0 x.1 in (j.0, put state.LocalDot c 92 _ j.0 h j.1, refl)) (λ n4. tt))))

-- labels

back_label : (c : ℕ) → Backward state.LabelChars c (next state.LabelChars c)
back_label c =
    test (Backward state.LabelChars c) (is_name_char c) (Some state.LabelChars) _ (λ h x. let j = joined c h x in (Some j.0, j.1 _, refl))
    (λ n1. test (Backward state.LabelChars c) (c == 46) (Some state.LabelDot) None (λ h x. let d = dotted c h x in (Some d.0, d.1 _, refl)) (λ n2. tt))

back_label_dot : (c : ℕ) → Backward state.LabelDot c (next state.LabelDot c)
back_label_dot c =
    test (Backward state.LabelDot c) (is_name_char c) (Some state.LabelChars) _ (λ h x. let j = joined c h x in (j.0, j.1 _, refl))
    (λ n1. test (Backward state.LabelDot c) (c == 46) (Some state.LabelDot) None (λ h x. let d = dotted c h x in (d.0, d.1 _, refl)) (λ n2. tt))

-- between two marks

-- an escape in front of the pieces that are left
escape_in_front : (form : Quoted) (x : AfterEscape form)
    → (ps : List (Piece form)) × (quoted_chars form ps ≡ 92 ∷ tail_chars (state.Escape form) x)
escape_in_front form (AShort e ps) = (Short e ∷ ps, refl)
escape_in_front form (AFour h ps) = (Four h ∷ ps, refl)
escape_in_front form (AEight h ps) = (Eight h ∷ ps, refl)

back_inside : (form : Quoted) (c : ℕ) → Backward (state.Inside form) c (next (state.Inside form) c)
back_inside form c =
    test (Backward (state.Inside form) c) (c == closing form) (Some (state.Done (quoted_kind form))) _
    (λ h x. ([], put (state.Inside form) c (closing form) [] [] h refl, refl))
    (λ n1. test (Backward (state.Inside form) c) (c == 92) (Some (state.Escape form)) _
    (λ h x. let e = escape_in_front form x in (e.0, put (state.Inside form) c 92 _ e.0 h e.1, refl))
    (λ n2. test (Backward (state.Inside form) c) (is_raw form c) (Some (state.Inside form)) None (λ h x. (Raw (at c h) ∷ x, refl, refl)) (λ n3. tt)))

back_opened : (form : Quoted) (c : ℕ) → Backward (state.Opened form) c (next (state.Opened form) c)
back_opened form c =
    test (Backward (state.Opened form) c) (c == closing form) (Some (state.Emptied form)) _ (λ h. emptied h)
    (λ n1. test (Backward (state.Opened form) c) (c == 92) (Some (state.Escape form)) _
    (λ h x. let e = escape_in_front form x in (AText e.0, put (state.Opened form) c 92 _ (AText e.0) h e.1, refl))
    (λ n2. test (Backward (state.Opened form) c) (is_raw form c) (Some (state.Inside form)) None (λ h x. (AText (Raw (at c h) ∷ x), refl, refl)) (λ n3. tt))) where
      emptied : (c == closing form) ≡ true → Backward (state.Opened form) c (Some (state.Emptied form))
      emptied h false = (AText [], put (state.Opened form) c (closing form) [] (AText []) h refl, refl)
      emptied h true = (AQuotes, put (state.Opened form) c (closing form) _ AQuotes h refl, refl)

back_less : (c : ℕ) → Backward state.Less c (next state.Less c)
back_less c =
    test (Backward state.Less c) (c == 62) (Some (state.Done kinds.Iri)) _ (λ h x. (Some [], put state.Less c 62 [] (Some []) h refl, refl))
    (λ n1. test (Backward state.Less c) (c == 92) (Some (state.Escape quoted.Iri)) _
    (λ h x. let e = escape_in_front quoted.Iri x in (Some e.0, put state.Less c 92 _ (Some e.0) h e.1, refl))
    (λ n2. test (Backward state.Less c) (is_raw quoted.Iri c) (Some (state.Inside quoted.Iri)) None (λ h x. (Some (Raw (at c h) ∷ x), refl, refl)) (λ n3. tt)))

back_escape : (form : Quoted) (c : ℕ) → Backward (state.Escape form) c (next (state.Escape form) c)
back_escape form c =
    test (Backward (state.Escape form) c) (c == 117) (Some (state.Hex form 3 0)) _
    (λ h x. let e : AfterEscape form = AFour (record { digits = x.digits; counted = x.counted; names = x.names }) x.more in (e, put (state.Escape form) c 117 _ e h refl, refl))
    (λ n1. test (Backward (state.Escape form) c) (c == 85) (Some (state.Hex form 7 0)) _
    (λ h x. let e : AfterEscape form = AEight (record { digits = x.digits; counted = x.counted; names = x.names }) x.more in (e, put (state.Escape form) c 85 _ e h refl, refl))
    (λ n2. test (Backward (state.Escape form) c) (is_short_escape form c) (Some (state.Inside form)) None (λ h x. (AShort (at c h) x, refl, refl)) (λ n3. tt)))

not_none : (left : ℕ) → (left == 0) ≡ false → suc (left - 1) ≡ left
not_none left z = grind (arith, nat_tests)

back_hex : (form : Quoted) (left n c : ℕ) → Backward (state.Hex form left n) c (next (state.Hex form left n) c)
back_hex form left n c =
    test (Backward (state.Hex form left n) c) (adds_digit n c) _ None (λ h. digit (split (is_hex_digit c) (nat_le n 0x1_0FFF) h).0) (λ n1. tt) where
      digit : is_hex_digit c ≡ true → Backward (state.Hex form left n) c (in_hex form left (n * 16 + digit_value c))
      digit h = test (Backward (state.Hex form left n) c) (left == 0) _ _
          (λ z. test (Backward (state.Hex form left n) c) (scalar (n * 16 + digit_value c)) _ None
          (λ k x. (record { digits = at c h ∷ []; counted = ap suc (sym (same_char left 0 z)); names = k; more = x }, refl, refl)) (λ n2. tt))
          (λ z x. (record { digits = at c h ∷ x.digits; counted = ap suc (x.counted ∙ not_none left z); names = x.names; more = x.more }, refl, refl))

-- tags and numbers

back_fraction : (c : ℕ) → Backward state.Fraction c (next state.Fraction c)
back_fraction c =
    two state.Fraction c (is_digit c) (is_exponent_mark c) state.Fraction state.Exponent (λ h x. ((at c h ∷ x.0, x.1), refl, refl))
    (λ h x. (([], Some (record { mark = at c h; sign = x.0; first = x.1; more = x.2 })), refl, refl))

back_digits_dot : (c : ℕ) → Backward state.DigitsDot c (next state.DigitsDot c)
back_digits_dot c =
    two state.DigitsDot c (is_digit c) (is_exponent_mark c) state.Fraction state.Exponent (λ h x. by_end (at c h) x.0 x.1)
    (λ h x. (PDouble [] (record { mark = at c h; sign = x.0; first = x.1; more = x.2 }), refl, refl)) where
      by_end : (d : In is_digit) (ds : List (In is_digit)) (e : Option Exponent)
          → (p : AfterPoint) × (tail_chars state.DigitsDot p ≡ d.char ∷ chars ds (exponent_or_end e)) × (tail_kind state.DigitsDot p ≡ kinds.Number (fraction_kind e))
      by_end d ds None = (PDecimal d ds, refl, refl)
      by_end d ds (Some e) = (PDouble (d ∷ ds) e, refl, refl)

digit_more : (k : NumberKind) (c : ℕ) → is_digit c ≡ true → Backward (state.Digits k) c (Some (state.Digits k))
digit_more k c h (AWhole ds) = (AWhole (at c h ∷ ds), refl, refl)
digit_more k c h (ADecimal ds f fs) = (ADecimal (at c h ∷ ds) f fs, refl, refl)
digit_more k c h (APointed ds fs e) = (APointed (at c h ∷ ds) fs e, refl, refl)
digit_more k c h (ABare ds e) = (ABare (at c h ∷ ds) e, refl, refl)

digits_point : (k : NumberKind) (c : ℕ) → (c == 46) ≡ true → Backward (state.Digits k) c (Some state.DigitsDot)
digits_point k c h (PDecimal f fs) = (ADecimal [] f fs, put (state.Digits k) c 46 _ (ADecimal [] f fs) h refl, refl)
digits_point k c h (PDouble fs e) = (APointed [] fs e, put (state.Digits k) c 46 _ (APointed [] fs e) h refl, refl)

back_digits : (k : NumberKind) (c : ℕ) → Backward (state.Digits k) c (next (state.Digits k) c)
back_digits k c =
    test (Backward (state.Digits k) c) (c == 46) (Some state.DigitsDot) _ (λ h. digits_point k c h)
    (λ n1. two (state.Digits k) c (is_digit c) (is_exponent_mark c) (state.Digits k) state.Exponent (λ h. digit_more k c h)
    (λ h x. (ABare [] (record { mark = at c h; sign = x.0; first = x.1; more = x.2 }), refl, refl)))

back_sign : (k : Kind) (c : ℕ) → Backward (state.Sign k) c (next (state.Sign k) c)
back_sign k c =
    two (state.Sign k) c (is_digit c) (c == 46) (state.Digits number.Integer) state.SignDot
    (λ h x. let n = digit_in_front (at c h) number.Integer x in (Some n.0, n.1, ap kinds.Number n.2))
    (λ h x. let n = point_in_front number.Integer x in (Some n.0, put (state.Sign k) c 46 _ (Some n.0) h n.1, ap kinds.Number n.2))

pub back : (s : State) (c : ℕ) → Backward s c (next s c)
back state.Start c = from_start c
back state.Letters c = back_letters c
back state.Prefix c = back_prefix c
back state.PrefixDot c = back_prefix_dot c
back state.Colon c = back_colon c
back state.Local c = back_local c
back state.LocalDot c = back_local_dot c
back state.Percent c = only state.Percent c (is_hex_digit c) state.PercentDigit (λ h x. ((at c h, x.0, x.1), refl, refl))
back state.PercentDigit c = only state.PercentDigit c (is_hex_digit c) state.Local (λ h x. ((at c h, x), refl, refl))
back state.LocalEscape c = only state.LocalEscape c (is_local_escape c) state.Local (λ h x. ((at c h, x), refl, refl))
back state.Question c = only state.Question c (is_label_start c) state.Variable (λ h x. (Some (at c h, x), refl, refl))
back state.Dollar c = only state.Dollar c (is_label_start c) state.Variable (λ h x. ((at c h, x), refl, refl))
back state.Variable c = only state.Variable c (is_var_char c) state.Variable (λ h x. (at c h ∷ x, refl, refl))
back state.Underscore c = only state.Underscore c (c == 58) state.LabelColon (λ h x. (x, put state.Underscore c 58 _ x h refl, refl))
back state.LabelColon c = only state.LabelColon c (is_label_start c) state.LabelChars (λ h x. ((at c h, x), refl, refl))
back state.LabelChars c = back_label c
back state.LabelDot c = back_label_dot c
back state.Less c = back_less c
back (state.Opened form) c = back_opened form c
back (state.Emptied form) c = only (state.Emptied form) c (c == closing form) (state.Done kinds.Quotes) (λ h x. (true, put (state.Emptied form) c (closing form) [] true h refl, refl))
back (state.Inside form) c = back_inside form c
back (state.Escape form) c = back_escape form c
back (state.Hex form left n) c = back_hex form left n c
back state.At c = only state.At c (is_letter c) state.TagLetters (λ h x. (Some (at c h, x.0, x.1), refl, refl))
back state.TagLetters c = two state.TagLetters c (is_letter c) (c == 45) state.TagLetters state.TagDash (λ h x. ((at c h ∷ x.0, x.1), refl, refl))
    (λ h x. (([], x.0 ∷ x.1), put state.TagLetters c 45 _ ([], x.0 ∷ x.1) h refl, refl))
back state.TagDash c = only state.TagDash c (is_alphanumeric c) state.TagPart (λ h x. ((record { first = at c h; more = x.0 }, x.1), refl, refl))
back state.TagPart c = two state.TagPart c (is_alphanumeric c) (c == 45) state.TagPart state.TagDash (λ h x. ((at c h ∷ x.0, x.1), refl, refl))
    (λ h x. (([], x.0 ∷ x.1), put state.TagPart c 45 _ ([], x.0 ∷ x.1) h refl, refl))
back (state.Sign k) c = back_sign k c
back (state.Digits k) c = back_digits k c
back state.DigitsDot c = back_digits_dot c
back state.SignDot c = only state.SignDot c (is_digit c) state.Fraction (λ h x. ((at c h, x.0, x.1), refl, refl))
back state.Dot c = only state.Dot c (is_digit c) state.Fraction (λ h x. (Some (at c h, x.0, x.1), refl, refl))
back state.Fraction c = back_fraction c
back state.Exponent c = two state.Exponent c (is_digit c) (is_sign c) state.ExponentDigits state.ExponentSign (λ h x. ((None, at c h, x), refl, refl))
    (λ h x. ((Some (at c h), x.0, x.1), refl, refl))
back state.ExponentSign c = only state.ExponentSign c (is_digit c) state.ExponentDigits (λ h x. ((at c h, x), refl, refl))
back state.ExponentDigits c = only state.ExponentDigits c (is_digit c) state.ExponentDigits (λ h x. (at c h ∷ x, refl, refl))
back state.Caret c = only state.Caret c (c == 94) (state.Done kinds.Carets) (λ h x. (true, put state.Caret c 94 [] true h refl, refl))
back (state.Done k) c = tt
