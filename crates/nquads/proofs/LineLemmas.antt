-- The cutting of a text into lines, as bytes come after others.
use Rattle.std.proofs.Common.{◌≡◌, ℕ, List, [], ◌∷◌, ◌++◌, Bool, true, false, ◌==◌, ◌&&◌, ◌||◌, refl, ap, ◌∙◌, sym, if◌then◌else◌, arith, not, length, append_assoc, append-nil}
use Rattle.std.proofs.lemmas.Grind.{common_steps}
use Rattle.nquads.specs.Lines.{Cut, cut, in_front, begins_with, ends_in_cr, is_end, no_end}

-- one more byte: nothing where it is skipped, or the end of the line, or one more byte of it
abbrev pub more : Bool → Bool → ℕ → Cut → Cut
more true ends c k = k
more false true c k = record { ended = k.ended ++ k.rest ∷ []; rest = [] }
more false false c k = record { ended = k.ended; rest = k.rest ++ c ∷ [] }

-- puts a line in front
abbrev pub after_end : Cut → Cut
after_end k = record { ended = [] ∷ k.ended; rest = k.rest }

abbrev pub front : ℕ → Cut → Cut
front b k = in_front b k.ended k.rest

after_end-more : (skip ends : Bool) (c : ℕ) (k : Cut) → after_end (more skip ends c k) ≡ more skip ends c (after_end k)
after_end-more true ends c k = refl
after_end-more false true c k = refl
after_end-more false false c k = refl

front-more : (b : ℕ) (skip ends : Bool) (c : ℕ) (ls : List (List ℕ)) (r : List ℕ)
    → front b (more skip ends c (record { ended = ls; rest = r })) ≡ more skip ends c (front b (record { ended = ls; rest = r }))
front-more b true ends c ls r = refl
front-more b false true c [] r = refl
front-more b false true c (l ∷ ls) r = refl
front-more b false false c [] r = refl
front-more b false false c (l ∷ ls) r = refl

-- one byte in front
abbrev pub one : Bool → Bool → ℕ → Cut → Cut
one true ends b k = k
one false true b k = after_end k
one false false b k = front b k

one-more : (skip ends : Bool) (b : ℕ) (skip' ends' : Bool) (c : ℕ) (k : Cut)
    → one skip ends b (more skip' ends' c k) ≡ more skip' ends' c (one skip ends b k)
one-more true ends b skip' ends' c k = refl
one-more false true b skip' ends' c k = after_end-more skip' ends' c k
one-more false false b skip' ends' c k = front-more b skip' ends' c k.ended k.rest

as_one : (skip ends : Bool) (b : ℕ) (k : Cut) → (if skip then k else (if ends then after_end k else front b k)) ≡ one skip ends b k
as_one true ends b k = refl
as_one false true b k = refl
as_one false false b k = refl

pub cut-one : (b : ℕ) (bs : List ℕ) → cut (b ∷ bs) ≡ one (b == 13 && begins_with 10 bs) (b == 13 || b == 10) b (cut bs)
cut-one b bs = as_one (b == 13 && begins_with 10 bs) (b == 13 || b == 10) b (cut bs)

alone : (cr ends : Bool) (c : ℕ) → one (cr && false) ends c (cut []) ≡ more false ends c (cut [])
alone true true c = refl
alone true false c = refl
alone false true c = refl
alone false false c = refl

pair : (b13 b10 c13 c10 : Bool) (b c : ℕ) → one (b13 && c10) (b13 || b10) b (more false (c13 || c10) c (cut []))
    ≡ more (b13 && c10) (c13 || c10) c (more false (b13 || b10) b (cut []))
pair true true true true b c = refl
pair true true true false b c = refl
pair true true false true b c = refl
pair true true false false b c = refl
pair true false true true b c = refl
pair true false true false b c = refl
pair true false false true b c = refl
pair true false false false b c = refl
pair false true true true b c = refl
pair false true true false b c = refl
pair false true false true b c = refl
pair false true false false b c = refl
pair false false true true b c = refl
pair false false true false b c = refl
pair false false false true b c = refl
pair false false false false b c = refl

cut-alone : (c : ℕ) → cut (c ∷ []) ≡ more false (c == 13 || c == 10) c (cut [])
cut-alone c = cut-one c [] ∙ alone (c == 13) (c == 13 || c == 10) c

pub cut-snoc : (bs : List ℕ) (c : ℕ) → cut (bs ++ c ∷ []) ≡ more (ends_in_cr bs && c == 10) (c == 13 || c == 10) c (cut bs)
cut-snoc [] c = cut-alone c
cut-snoc (b ∷ []) c =
    cut-one b (c ∷ [])
    ∙ ap (one (b == 13 && c == 10) (b == 13 || b == 10) b) (cut-alone c)
    ∙ pair (b == 13) (b == 10) (c == 13) (c == 10) b c
    ∙ ap (more (b == 13 && c == 10) (c == 13 || c == 10) c) (sym (cut-alone b))
cut-snoc (b ∷ d ∷ bs) c =
    cut-one b (d ∷ bs ++ c ∷ [])
    ∙ ap (one (b == 13 && begins_with 10 (d ∷ bs)) (b == 13 || b == 10) b) (cut-snoc (d ∷ bs) c)
    ∙ one-more (b == 13 && begins_with 10 (d ∷ bs)) (b == 13 || b == 10) b (ends_in_cr (d ∷ bs) && c == 10) (c == 13 || c == 10) c (cut (d ∷ bs))
    ∙ ap (more (ends_in_cr (d ∷ bs) && c == 10) (c == 13 || c == 10) c) (sym (cut-one b (d ∷ bs)))

pub ends_in_cr-snoc : (bs : List ℕ) (c : ℕ) → ends_in_cr (bs ++ c ∷ []) ≡ (c == 13)
ends_in_cr-snoc [] c = refl
ends_in_cr-snoc (b ∷ []) c = refl
ends_in_cr-snoc (b ∷ d ∷ bs) c = ends_in_cr-snoc (d ∷ bs) c

-- bytes that hold no end

pub split : (a b : Bool) → (a && b) ≡ true → (a ≡ true) × (b ≡ true)
split true b e = (refl, e)
split false b e = cc

pub neither : (a b : Bool) → not (a || b) ≡ true → (a ≡ false) × (b ≡ false)
neither true b e = cc
neither false true e = cc
neither false false e = (refl, refl)

and_false : (a b : Bool) → b ≡ false → (a && b) ≡ false
and_false true b e = e
and_false false b e = refl

and_true : (a : Bool) → a ≡ (a && true)
and_true true = refl
and_true false = refl

pub and_left : (a b : Bool) → a ≡ false → (a && b) ≡ false
and_left true b e = cc
and_left false b e = refl

pub or_both : (a b : Bool) → a ≡ false → b ≡ false → (a || b) ≡ false
or_both true b e f = cc
or_both false b e f = f

-- they stand at the end of the line
pub cut-line : (bs line : List ℕ) → no_end line ≡ true
    → cut (bs ++ line) ≡ record { ended = (cut bs).ended; rest = (cut bs).rest ++ line }
cut-line bs [] h = ap cut (append-nil bs) ∙ ap (λ r. record { ended = (cut bs).ended; rest = r }) (sym (append-nil (cut bs).rest))
cut-line bs (c ∷ cs) h =
    let parts = split (not (is_end c)) (no_end cs) h in
    let inner = neither (c == 13) (c == 10) parts.0 in
    let one : cut (bs ++ c ∷ []) ≡ record { ended = (cut bs).ended; rest = (cut bs).rest ++ c ∷ [] } =
    cut-snoc bs c ∙ ap (λ b. more b (c == 13 || c == 10) c (cut bs)) (and_false (ends_in_cr bs) (c == 10) inner.1)
    ∙ ap (λ b. more false b c (cut bs)) (or_both (c == 13) (c == 10) inner.0 inner.1) in
    ap cut (sym (append_assoc bs (c ∷ []) cs)) ∙ cut-line (bs ++ c ∷ []) cs parts.1
    ∙ ap (λ k. record { ended = k.ended; rest = k.rest ++ cs }) one
    ∙ ap (λ r. record { ended = (cut bs).ended; rest = r }) (append_assoc (cut bs).rest (c ∷ []) cs)

no_cr : (bs : List ℕ) (c : ℕ) (cs : List ℕ) → not (is_end c) ≡ true → no_end cs ≡ true → ends_in_cr (bs ++ c ∷ cs) ≡ false
no_cr bs c [] h k = ends_in_cr-snoc bs c ∙ (neither (c == 13) (c == 10) h).0
no_cr bs c (d ∷ cs) h k =
    let parts = split (not (is_end d)) (no_end cs) k in
    ap ends_in_cr (sym (append_assoc bs (c ∷ []) (d ∷ cs))) ∙ no_cr (bs ++ c ∷ []) d cs parts.0 parts.1

some_length : (c : ℕ) (cs : List ℕ) → (length (c ∷ cs) == 0) ≡ false
some_length c cs = grind (arith, common_steps)

-- after them no CR comes last
pub ends_in_cr-line : (bs line : List ℕ) → no_end line ≡ true → ends_in_cr (bs ++ line) ≡ (ends_in_cr bs && (length line == 0))
ends_in_cr-line bs [] h = ap ends_in_cr (append-nil bs) ∙ and_true (ends_in_cr bs)
ends_in_cr-line bs (c ∷ cs) h =
    let parts = split (not (is_end c)) (no_end cs) h in
    no_cr bs c cs parts.0 parts.1 ∙ sym (and_false (ends_in_cr bs) (length (c ∷ cs) == 0) (some_length c cs))

-- bytes without an end and then an end
pub cut-end : (bs line : List ℕ) (c : ℕ) → no_end line ≡ true
    → cut (bs ++ (line ++ c ∷ []))
    ≡ more ((ends_in_cr bs && (length line == 0)) && c == 10) (is_end c) c (record { ended = (cut bs).ended; rest = (cut bs).rest ++ line })
cut-end bs line c h =
    ap cut (sym (append_assoc bs line (c ∷ []))) ∙ cut-snoc (bs ++ line) c
    ∙ ap (λ b. more (b && c == 10) (is_end c) c (cut (bs ++ line))) (ends_in_cr-line bs line h)
    ∙ ap (more ((ends_in_cr bs && (length line == 0)) && c == 10) (is_end c) c) (cut-line bs line h)

pub ends_in_cr-end : (bs line : List ℕ) (c : ℕ) → ends_in_cr (bs ++ (line ++ c ∷ [])) ≡ (c == 13)
ends_in_cr-end bs line c = ap ends_in_cr (sym (append_assoc bs line (c ∷ []))) ∙ ends_in_cr-snoc (bs ++ line) c
