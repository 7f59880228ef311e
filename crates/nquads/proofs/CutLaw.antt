-- The cutting of a text into lines leaves what stands between its ends.
use Rattle.std.proofs.Common.{◌≡◌, ℕ, List, [], ◌∷◌, ◌++◌, Bool, true, false, not, ◌==◌, ◌&&◌, refl, ap, ◌∙◌, sym, subst, inl, inr, codes, append-nil}
use Rattle.std.proofs.lemmas.Bool.Decides.{Decides-eqb}
use Rattle.nquads.specs.Lines.{Cut, cut, lines_of, in_front, begins_with, is_end, no_end, IsLineEnd, AreTextLines}
use Rattle.nquads.proofs.LineLemmas.{split, one, cut-one, cut-line, neither, or_both, and_left}

abbrev lines : Cut → List (List ℕ)
lines k = k.ended ++ k.rest ∷ []

-- puts a byte in front of the first line
abbrev in_first : ℕ → List (List ℕ) → List (List ℕ)
in_first b [] = []
in_first b (l ∷ ls) = (b ∷ l) ∷ ls

front-lines : (b : ℕ) (ended : List (List ℕ)) (rest : List ℕ) → lines (in_front b ended rest) ≡ in_first b (ended ++ rest ∷ [])
front-lines b [] rest = refl
front-lines b (l ∷ ls) rest = refl

-- a byte that is no end
lines-inner : (b : ℕ) (bs : List ℕ) → (b == 13) ≡ false → (b == 10) ≡ false → lines_of (b ∷ bs) ≡ in_first b (lines_of bs)
lines-inner b bs h k =
    ap lines (cut-one b bs
    ∙ ap (λ v. one v (is_end b) b (cut bs)) (and_left (b == 13) (begins_with 10 bs) h)
    ∙ ap (λ v. one false v b (cut bs)) (or_both (b == 13) (b == 10) h k))
    ∙ front-lines b (cut bs).ended (cut bs).rest

lines-cr : (bs : List ℕ) → begins_with 10 bs ≡ false → lines_of (13 ∷ bs) ≡ [] ∷ lines_of bs
lines-cr bs h = ap lines (cut-one 13 bs ∙ ap (λ v. one v true 13 (cut bs)) h)

-- after an end comes a further line
lines-end : (end rest : List ℕ) → IsLineEnd end rest → lines_of (end ++ rest) ≡ [] ∷ lines_of rest
lines-end end rest (inl e) = ap (λ v. lines_of (v ++ rest)) e
lines-end end rest (inr (inl e)) = ap (λ v. lines_of (v ++ rest)) e
lines-end end rest (inr (inr e)) = ap (λ v. lines_of (v ++ rest)) e.0 ∙ lines-cr rest e.1

lines-front : (line text : List ℕ) (l : List ℕ) (ls : List (List ℕ)) → no_end line ≡ true → lines_of text ≡ l ∷ ls
    → lines_of (line ++ text) ≡ (line ++ l) ∷ ls
lines-front [] text l ls h e = e
lines-front (c ∷ cs) text l ls h e =
    let parts = split (not (is_end c)) (no_end cs) h in
    let inner = neither (c == 13) (c == 10) parts.0 in
    lines-inner c (cs ++ text) inner.0 inner.1 ∙ ap (in_first c) (lines-front cs text l ls parts.1 e)

-- the lines of a text, told by its ends, are those that the cutting finds
pub lines_are : (text : List ℕ) (ls : List (List ℕ)) → AreTextLines ls text → ls ≡ lines_of text
lines_are text [] h = absurd h
lines_are text (line ∷ ls) h =
    elim h.1 [
      | inl e ↦ ap (λ v. line ∷ v) e.1 ∙ sym (ap lines_of e.0 ∙ ap lines (cut-line [] line h.0))
      | inr e ↦ ap (λ v. line ∷ v) (lines_are e.1 ls e.4) ∙ ap (λ v. v ∷ lines_of e.1) (sym (append-nil line))
          ∙ sym (ap lines_of e.3 ∙ lines-front line (e.0 ++ e.1) [] (lines_of e.1) h.0 (lines-end e.0 e.1 e.2))
    ]

-- one more byte in front

with_inner : (b : ℕ) (ls : List (List ℕ)) (bs : List ℕ) → not (is_end b) ≡ true → AreTextLines ls bs → AreTextLines (in_first b ls) (b ∷ bs)
with_inner b [] bs n h = absurd h
with_inner b (l ∷ ls) bs n h = (
  ap (λ v. v && no_end l) n ∙ h.0,
  elim h.1 [
    | inl e ↦ inl (ap (λ v. b ∷ v) e.0, e.1)
    | inr e ↦ inr (e.0, e.1, e.2, ap (λ v. b ∷ v) e.3, e.4)
  ],
)

with_crlf : (bs : List ℕ) → AreTextLines (lines_of bs) bs → AreTextLines (lines_of (13 ∷ 10 ∷ bs)) (13 ∷ 10 ∷ bs)
with_crlf bs h = (refl, inr (codes "\r\n", bs, inl refl, refl, h))

with_lf : (bs : List ℕ) → AreTextLines (lines_of bs) bs → AreTextLines (lines_of (10 ∷ bs)) (10 ∷ bs)
with_lf bs h = (refl, inr (codes "\n", bs, inr (inl refl), refl, h))

with_cr : (bs : List ℕ) → begins_with 10 bs ≡ false → AreTextLines (lines_of bs) bs → AreTextLines (lines_of (13 ∷ bs)) (13 ∷ bs)
with_cr bs n h =
    subst (λ v. AreTextLines v (13 ∷ bs)) (sym (lines-cr bs n)) (refl, inr (codes "\r", bs, inr (inr (refl, n)), refl, h))

with_byte : (b : ℕ) (bs : List ℕ) (cr lf : Bool) → (b == 13) ≡ cr → (b == 10) ≡ lf → begins_with 10 bs ≡ false → AreTextLines (lines_of bs) bs
    → AreTextLines (lines_of (b ∷ bs)) (b ∷ bs)
with_byte b bs true lf e f n h =
    subst (λ v. AreTextLines (lines_of (v ∷ bs)) (v ∷ bs)) (sym ((Decides-eqb b 13).0 e)) (with_cr bs n h)
with_byte b bs false true e f n h =
    subst (λ v. AreTextLines (lines_of (v ∷ bs)) (v ∷ bs)) (sym ((Decides-eqb b 10).0 f)) (with_lf bs h)
with_byte b bs false false e f n h =
    subst (λ v. AreTextLines v (b ∷ bs)) (sym (lines-inner b bs e f))
    (with_inner b (lines_of bs) bs (ap not (or_both (b == 13) (b == 10) e f)) h)

-- a byte before an LF
with_lf_next : (b : ℕ) (bs : List ℕ) (cr lf : Bool) → (b == 13) ≡ cr → (b == 10) ≡ lf → AreTextLines (lines_of bs) bs
    → AreTextLines (lines_of (10 ∷ bs)) (10 ∷ bs) → AreTextLines (lines_of (b ∷ 10 ∷ bs)) (b ∷ 10 ∷ bs)
with_lf_next b bs true lf e f h k =
    subst (λ v. AreTextLines (lines_of (v ∷ 10 ∷ bs)) (v ∷ 10 ∷ bs)) (sym ((Decides-eqb b 13).0 e)) (with_crlf bs h)
with_lf_next b bs false true e f h k =
    subst (λ v. AreTextLines (lines_of (v ∷ 10 ∷ bs)) (v ∷ 10 ∷ bs)) (sym ((Decides-eqb b 10).0 f)) (with_lf (10 ∷ bs) k)
with_lf_next b bs false false e f h k =
    subst (λ v. AreTextLines v (b ∷ 10 ∷ bs)) (sym (lines-inner b (10 ∷ bs) e f))
    (with_inner b (lines_of (10 ∷ bs)) (10 ∷ bs) (ap not (or_both (b == 13) (b == 10) e f)) k)

with_next : (b c : ℕ) (bs : List ℕ) (lf : Bool) → (c == 10) ≡ lf → AreTextLines (lines_of bs) bs → AreTextLines (lines_of (c ∷ bs)) (c ∷ bs)
    → AreTextLines (lines_of (b ∷ c ∷ bs)) (b ∷ c ∷ bs)
with_next b c bs true e h k =
    let same : 10 ≡ c = sym ((Decides-eqb c 10).0 e) in
    subst (λ v. AreTextLines (lines_of (b ∷ v ∷ bs)) (b ∷ v ∷ bs)) same
    (with_lf_next b bs (b == 13) (b == 10) refl refl h (subst (λ v. AreTextLines (lines_of (v ∷ bs)) (v ∷ bs)) (sym same) k))
with_next b c bs false e h k = with_byte b (c ∷ bs) (b == 13) (b == 10) refl refl e k

-- what the cutting finds are the lines of the text, told by its ends
pub are_lines : (text : List ℕ) → AreTextLines (lines_of text) text
are_lines [] = (refl, inl (refl, refl))
are_lines (b ∷ []) = with_byte b [] (b == 13) (b == 10) refl refl refl (refl, inl (refl, refl))
are_lines (b ∷ c ∷ bs) = with_next b c bs (c == 10) refl (are_lines bs) (are_lines (c ∷ bs))
