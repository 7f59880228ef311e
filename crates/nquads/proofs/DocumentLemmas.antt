-- Whole documents: what feeding and finishing make of them, and that each text has one answer.
use Rattle.std.proofs.Common.{◌≡◌, ℕ, ◌+◌, ◌⊎◌, inl, inr, true, false, ◌&&◌, List, [], ◌∷◌, ◌++◌, refl, ap, ◌∙◌, sym, subst, arith, zero-add, Option, Some, None, length, append_assoc, append-nil}
use Rattle.std.specs.List.{All, concat}
use Rattle.std.specs.Option.{option_to_list}
use Rattle.std.proofs.lemmas.List.{append_cancel_left}
use Rattle.std.proofs.lemmas.List.Elements.{All-nil, All-cons, All-append, All-same}
use Rattle.rdf_term.specs.Statement.{Statement}
use Rattle.rdf_term.specs.Validity.{IsValidQuad}
use Rattle.nquads_line.specs.declared.kind.Kind.{Kind}
use Rattle.nquads_line.specs.Grammar.{IsLine, IsShortQuad, IsValidLine, is_short_term, is_short_graph}
use Rattle.nquads_line.specs.Laws.{LinesAreDecided, LinesAreValid}
use Rattle.nquads_line.proofs.LineLemmas.{line_once}
use Rattle.nquads_line.proofs.Steps.{true_or_false}
use Rattle.nquads.specs.declared.fault.DataFault.{DataFault}
use Rattle.nquads.specs.declared.fault.DataFault.TheVariants.{BadLine, TooLong, Memory}
use Rattle.nquads.specs.Lines.{cut, lines_of}
use Rattle.nquads.specs.Documents.{AreLines, IsDocument, IsRefused, FirstBad, IsAnswer, line_number}
use Rattle.nquads.specs.State.{Reader, new_reader, Stands, Feeds, FailsAt, Finishes}
use Rattle.nquads.specs.Courses.{RefusesPiece, Ends, Course}
use Rattle.nquads.proofs.FeedLemmas.{AreLines-append, stands_new, feeds_none, feeds_more, fails_more}

-- after the last piece

pub document_read : (kind : Kind) (text : List ℕ) (r : Reader) (before out out' : List Statement) (f : Feeds kind [] text r before out)
    (g : Finishes kind text out out') → IsDocument kind text (f.quads ++ option_to_list g.quad)
document_read kind text r before out out' f g =
    let joined = AreLines-append kind f.lines ((cut text).rest ∷ []) f.quads (option_to_list g.quad) f.read
    (g.quad, [], g.read, g.short, sym (append-nil _), refl) in
    let lines : f.lines ++ (cut text).rest ∷ [] ≡ lines_of text = ap (λ v. v ++ (cut text).rest ∷ []) (sym f.ended) in
    subst (λ v. AreLines kind v (f.quads ++ option_to_list g.quad)) lines joined

all_quads : (kind : Kind) (text : List ℕ) (r : Reader) (before out out' : List Statement) (f : Feeds kind [] text r before out)
    (g : Finishes kind text out out') → out' ≡ before ++ (f.quads ++ option_to_list g.quad)
all_quads kind text r before out out' f g =
    g.appended ∙ ap (λ v. v ++ option_to_list g.quad) f.appended ∙ append_assoc before f.quads (option_to_list g.quad)

pub document_ok : (kind : Kind) (text : List ℕ) (r : Reader) (out out' : List Statement) → Feeds kind [] text r [] out
    → Finishes kind text out out' → IsDocument kind text out'
document_ok kind text r out out' f g =
    subst (λ v. IsDocument kind text v) (sym (all_quads kind text r [] out out' f g)) (document_read kind text r [] out out' f g)

abbrev pub rest_bad : (kind : Kind) (text : List ℕ) (fault : DataFault) (r : Reader) (before out : List Statement) → Feeds kind [] text r before out
    → IsRefused kind (cut text).rest (line_number (length (cut text).ended)) fault → FirstBad kind text fault
rest_bad kind text fault r before out f g =
    record {
      good = f.lines;
      bad = (cut text).rest;
      later = [];
      quads = f.quads;
      lines = ap (λ v. v ++ (cut text).rest ∷ []) f.ended;
      read = f.read;
      refused = subst (λ v. IsRefused kind (cut text).rest (line_number (length v)) fault) f.ended g;
    }

abbrev pub piece_bad : (kind : Kind) (text : List ℕ) (fault : DataFault) (before after : List Statement) → FailsAt kind [] text fault before after
    → FirstBad kind text fault
piece_bad kind text fault before after f =
    record {
      good = f.good;
      bad = f.bad;
      later = f.later ++ (cut text).rest ∷ [];
      quads = f.quads;
      lines = ap (λ v. v ++ (cut text).rest ∷ []) f.ended ∙ append_assoc f.good (f.bad ∷ f.later) _;
      read = f.read;
      refused = subst (λ v. IsRefused kind f.bad (line_number v) fault) (zero-add (length f.good)) f.refused;
    }

-- pieces of a text, of which some were taken

end_answer : (kind : Kind) (taken : List ℕ) (r : Reader) (answer : Option DataFault) (before out after : List Statement)
    → Feeds kind [] taken r before out → Ends r answer out after
    → (quads : List Statement) × (after ≡ before ++ quads) × IsAnswer kind taken answer quads
end_answer kind taken r None before out after f h =
    let g = h kind taken f.stands in
    (f.quads ++ option_to_list g.quad, all_quads kind taken r before out after f g, document_read kind taken r before out after f g)
end_answer kind taken r (Some fault) before out after f h =
    (f.quads, h.1 ∙ f.appended, (rest_bad kind taken fault r before out f (h.0 kind taken f.stands), refl))

piece_answer : (kind : Kind) (taken piece rest : List ℕ) (r : Reader) (answer : Option DataFault) (before out after : List Statement)
    → Feeds kind [] taken r before out → RefusesPiece r piece answer out after
    → (quads : List Statement) × (after ≡ before ++ quads) × IsAnswer kind (taken ++ (piece ++ rest)) answer quads
piece_answer kind taken piece rest r None before out after f h = absurd h
piece_answer kind taken piece rest r (Some fault) before out after f h =
    let g = fails_more kind [] taken piece rest fault r before out after f (h kind taken f.stands) in
    (g.quads, g.appended, (piece_bad kind (taken ++ (piece ++ rest)) fault before after g, refl))

pub course_answer : (kind : Kind) (taken : List ℕ) (r : Reader) (pieces : List (List ℕ)) (answer : Option DataFault) (before out after : List Statement)
    → Feeds kind [] taken r before out → Course r pieces answer out after
    → (quads : List Statement) × (after ≡ before ++ quads) × IsAnswer kind (taken ++ concat pieces) answer quads
course_answer kind taken r [] answer before out after f h =
    let e = end_answer kind taken r answer before out after f h in
    (e.0, e.1, subst (λ v. IsAnswer kind v answer e.0) (sym (append-nil taken)) e.2)
course_answer kind taken r (piece ∷ pieces) answer before out after f h =
    elim h [
      | inl refused ↦ piece_answer kind taken piece (concat pieces) r answer before out after f refused
      | inr t ↦ (let g = feeds_more kind [] taken piece r t.0 before out t.1 f (t.2 kind taken f.stands) in
          let e = course_answer kind (taken ++ piece) t.0 pieces answer before t.1 after g t.3 in
          (e.0, e.1, subst (λ v. IsAnswer kind v answer e.0) (append_assoc taken piece (concat pieces)) e.2))
    ]

pub any_course : (kind : Kind) (bytes : List ℕ) (pieces : List (List ℕ)) (answer : Option DataFault) (before after : List Statement)
    → concat pieces ≡ bytes → Course (new_reader kind) pieces answer before after
    → (quads : List Statement) × (after ≡ before ++ quads) × IsAnswer kind bytes answer quads
any_course kind bytes pieces answer before after e h =
    let begun = feeds_none kind [] (new_reader kind) before (stands_new kind (new_reader kind) refl) in
    let a = course_answer kind [] (new_reader kind) pieces answer before before after begun h in
    (a.0, a.1, subst (λ v. IsAnswer kind v answer a.0) e a.2)

-- one answer for each text

pub lines_once : (kind : Kind) (lines : List (List ℕ)) (qs rs : List Statement) → AreLines kind lines qs → AreLines kind lines rs → qs ≡ rs
lines_once kind [] qs rs h k = h ∙ sym k
lines_once kind (l ∷ ls) qs rs h k =
    let same = line_once kind l h.0 k.0 h.2 k.2 in
    h.4 ∙ ap (λ q. option_to_list q ++ h.1) same ∙ ap (λ v. option_to_list k.0 ++ v) (lines_once kind ls h.1 k.1 h.5 k.5) ∙ sym k.4

-- a line of the grammar with short parts isn't refused
not_refused : (kind : Kind) (line : List ℕ) (n : ℕ) (fault : DataFault) (q : Option Statement) → IsLine kind line q → IsShortQuad q
    → IsRefused kind line n fault → ⊥
not_refused kind line n (BadLine m) q h s r = r.1 q h
not_refused kind line n (TooLong m) q h s r = r.1.2 (subst IsShortQuad (line_once kind line q r.1.0 h r.1.1) s)
not_refused kind line n Memory q h s r = r

pub document_good : (kind : Kind) (good : List (List ℕ)) (bad : List ℕ) (later : List (List ℕ)) (n : ℕ) (fault : DataFault) (qs : List Statement)
    → AreLines kind (good ++ bad ∷ later) qs → IsRefused kind bad n fault → ⊥
document_good kind [] bad later n fault qs h r = not_refused kind bad n fault h.0 h.2 h.3 r
document_good kind (l ∷ ls) bad later n fault qs h r = document_good kind ls bad later n fault h.1 h.5 r

-- a line is refused in one way
one_refusal : (kind : Kind) (line : List ℕ) (n : ℕ) (e f : DataFault) → IsRefused kind line n e → IsRefused kind line n f → e ≡ f
one_refusal kind line n (BadLine m) (BadLine k) h r = ap BadLine (h.0 ∙ sym r.0)
one_refusal kind line n (BadLine m) (TooLong k) h r = absurd (h.1 r.1.0 r.1.1)
one_refusal kind line n (BadLine m) Memory h r = absurd r
one_refusal kind line n (TooLong m) (BadLine k) h r = absurd (r.1 h.1.0 h.1.1)
one_refusal kind line n (TooLong m) (TooLong k) h r = ap TooLong (h.0 ∙ sym r.0)
one_refusal kind line n (TooLong m) Memory h r = absurd r
one_refusal kind line n Memory f h r = absurd h

-- lines have one first line that is refused
first_place : (kind : Kind) (good : List (List ℕ)) (bad : List ℕ) (later : List (List ℕ)) (qs : List Statement)
    (good' : List (List ℕ)) (bad' : List ℕ) (later' : List (List ℕ)) (rs : List Statement) (n m : ℕ) (e f : DataFault)
    → good ++ bad ∷ later ≡ good' ++ bad' ∷ later' → AreLines kind good qs → AreLines kind good' rs
    → IsRefused kind bad n e → IsRefused kind bad' m f → (good ≡ good') × (bad ≡ bad')
first_place kind [] bad later qs [] bad' later' rs n m e f same h k r s =
    let first : bad ≡ bad' = cc in
    (refl, first)
first_place kind [] bad later qs (l ∷ ls) bad' later' rs n m e f same h k r s =
    let first : bad ≡ l = cc in
    absurd (not_refused kind l n e k.0 k.2 k.3 (subst (λ l. IsRefused kind l n e) first r))
first_place kind (l ∷ ls) bad later qs [] bad' later' rs n m e f same h k r s =
    let first : l ≡ bad' = cc in
    absurd (not_refused kind l m f h.0 h.2 h.3 (subst (λ l. IsRefused kind l m f) (sym first) s))
first_place kind (l ∷ ls) bad later qs (m ∷ ms) bad' later' rs n n' e f same h k r s =
    let first : l ≡ m = cc in
    let rest : ls ++ bad ∷ later ≡ ms ++ bad' ∷ later' = cc in
    let place = first_place kind ls bad later h.1 ms bad' later' k.1 n n' e f rest h.5 k.5 r s in
    (λ i. first i ∷ place.0 i, place.1)

-- which has one fault, where count lines stand before them
first_once : (kind : Kind) (count : ℕ) (good : List (List ℕ)) (bad : List ℕ) (later : List (List ℕ)) (qs : List Statement)
    (good' : List (List ℕ)) (bad' : List ℕ) (later' : List (List ℕ)) (rs : List Statement) (e f : DataFault)
    → good ++ bad ∷ later ≡ good' ++ bad' ∷ later' → AreLines kind good qs → AreLines kind good' rs
    → IsRefused kind bad (line_number (count + length good)) e → IsRefused kind bad' (line_number (count + length good')) f → e ≡ f
first_once kind count good bad later qs good' bad' later' rs e f same h k r s =
    let place = first_place kind good bad later qs good' bad' later' rs _ _ e f same h k r s in
    one_refusal kind bad (line_number (count + length good)) e f r
    (subst (λ l. IsRefused kind l (line_number (count + length good)) f) (sym place.1)
    (subst (λ g. IsRefused kind bad' (line_number (count + length g)) f) (sym place.0) s))

-- and one list of quads before it
first_quads : (kind : Kind) (good : List (List ℕ)) (bad : List ℕ) (later : List (List ℕ)) (qs : List Statement)
    (good' : List (List ℕ)) (bad' : List ℕ) (later' : List (List ℕ)) (rs : List Statement) (n m : ℕ) (e f : DataFault)
    → good ++ bad ∷ later ≡ good' ++ bad' ∷ later' → AreLines kind good qs → AreLines kind good' rs
    → IsRefused kind bad n e → IsRefused kind bad' m f → qs ≡ rs
first_quads kind good bad later qs good' bad' later' rs n m e f same h k r s =
    let place = first_place kind good bad later qs good' bad' later' rs n m e f same h k r s in
    lines_once kind good qs rs h (subst (λ g. AreLines kind g rs) (sym place.0) k)

pub first_bad_once : (kind : Kind) (bytes : List ℕ) (e f : DataFault) → FirstBad kind bytes e → FirstBad kind bytes f → e ≡ f
first_bad_once kind bytes e f h k =
    first_once kind 0 h.good h.bad h.later h.quads k.good k.bad k.later k.quads e f (sym h.lines ∙ k.lines) h.read k.read
    (subst (λ v. IsRefused kind h.bad (line_number v) e) (sym (zero-add (length h.good))) h.refused)
    (subst (λ v. IsRefused kind k.bad (line_number v) f) (sym (zero-add (length k.good))) k.refused)

pub document_refused : (kind : Kind) (bytes : List ℕ) (qs : List Statement) (fault : DataFault) → IsDocument kind bytes qs → FirstBad kind bytes fault → ⊥
document_refused kind bytes qs fault h k =
    document_good kind k.good k.bad k.later _ fault qs (subst (λ v. AreLines kind v qs) k.lines h) k.refused

pub answer_once : (kind : Kind) (bytes : List ℕ) (answer other : Option DataFault) (qs rs : List Statement)
    → IsAnswer kind bytes answer qs → IsAnswer kind bytes other rs → (answer ≡ other) × (qs ≡ rs)
answer_once kind bytes None None qs rs h k = (refl, lines_once kind (lines_of bytes) qs rs h k)
answer_once kind bytes None (Some f) qs rs h k = absurd (document_refused kind bytes qs f h k.0)
answer_once kind bytes (Some e) None qs rs h k = absurd (document_refused kind bytes rs e k h.0)
answer_once kind bytes (Some e) (Some f) qs rs h k =
    let a = h.0 in
    let b = k.0 in (
      ap Some (first_bad_once kind bytes e f a b),
      sym h.1 ∙ first_quads kind a.good a.bad a.later a.quads b.good b.bad b.later b.quads _ _ e f (sym a.lines ∙ b.lines) a.read b.read a.refused b.refused ∙ k.1,
    )

-- each text has an answer

-- a line is one of the grammar with short parts, or it is refused
line_answer : LinesAreDecided → (kind : Kind) (line : List ℕ) (n : ℕ)
    → ((q : Option Statement) × IsLine kind line q × IsShortQuad q) ⊎ ((fault : DataFault) × IsRefused kind line n fault)
line_answer decided kind line n =
    elim (decided kind line) [
      | inl h ↦ at h.0 h.1
      | inr h ↦ inr (BadLine n, (refl, h))
    ]
  where
    at : (q : Option Statement) → IsLine kind line q
        → ((q : Option Statement) × IsLine kind line q × IsShortQuad q) ⊎ ((fault : DataFault) × IsRefused kind line n fault)
    at None h = inl (None, h, tt)
    at (Some q) h =
        elim (true_or_false (is_short_term q.s && is_short_term q.p && is_short_term q.o && is_short_graph q.c)) [
          | inl short ↦ inl (Some q, h, short)
          | inr long ↦ inr (TooLong n, (refl, (Some q, h, λ short. (let z : true ≡ false = sym short ∙ long in cc))))
        ]

-- the first of these lines that is refused, where count lines stand before them
record FirstRefused (kind : Kind) (count : ℕ) (lines : List (List ℕ)) (fault : DataFault) : Type 0 where
  pub good : List (List ℕ)
  pub bad : List ℕ
  pub later : List (List ℕ)
  pub quads : List Statement
  pub parts : lines ≡ good ++ bad ∷ later
  pub read : AreLines kind good quads
  pub refused : IsRefused kind bad (line_number (count + length good)) fault

one_line_more : (count : ℕ) (l : List ℕ) (good : List (List ℕ)) → (count + 1) + length good ≡ count + length (l ∷ good)
one_line_more count l good = omega arith

lines_answer : LinesAreDecided → (kind : Kind) (count : ℕ) (lines : List (List ℕ))
    → ((quads : List Statement) × AreLines kind lines quads) ⊎ ((fault : DataFault) × FirstRefused kind count lines fault)
lines_answer decided kind count [] = inl ([], refl)
lines_answer decided kind count (l ∷ ls) =
    elim (line_answer decided kind l (line_number (count + 0))) [
      | inl h ↦ elim (lines_answer decided kind (count + 1) ls) [
        | inl k ↦ inl (option_to_list h.0 ++ k.0, (h.0, k.0, h.1, h.2, refl, k.1))
        | inr k ↦ (let f = k.1 in inr (
          k.0,
          record {
            good = l ∷ f.good;
            bad = f.bad;
            later = f.later;
            quads = option_to_list h.0 ++ f.quads;
            parts = ap (λ v. l ∷ v) f.parts;
            read = (h.0, f.quads, h.1, h.2, refl, f.read);
            refused = subst (λ v. IsRefused kind f.bad (line_number v) k.0) (one_line_more count l f.good) f.refused;
          },
        ))
      ]
      | inr h ↦ inr (h.0, record { good = []; bad = l; later = ls; quads = []; parts = refl; read = refl; refused = h.1 })
    ]

pub refused_or_read : LinesAreDecided → (kind : Kind) (bytes : List ℕ)
    → ((quads : List Statement) × IsDocument kind bytes quads) ⊎ ((fault : DataFault) × FirstBad kind bytes fault)
refused_or_read decided kind bytes =
    elim (lines_answer decided kind 0 (lines_of bytes)) [
      | inl h ↦ inl h
      | inr h ↦ (let f = h.1 in inr (
        h.0,
        record {
          good = f.good;
          bad = f.bad;
          later = f.later;
          quads = f.quads;
          lines = f.parts;
          read = f.read;
          refused = subst (λ v. IsRefused kind f.bad (line_number v) h.0) (zero-add (length f.good)) f.refused;
        },
      ))
    ]

-- the quads of a document are of valid terms
pub lines_valid : LinesAreValid → (kind : Kind) (lines : List (List ℕ)) (quads : List Statement) → AreLines kind lines quads → All IsValidQuad quads
lines_valid valid kind [] quads h = All-same IsValidQuad quads [] h (All-nil IsValidQuad)
lines_valid valid kind (l ∷ ls) quads h =
    All-same IsValidQuad quads (option_to_list h.0 ++ h.1) h.4
    (All-append IsValidQuad (option_to_list h.0) h.1 (one h.0 (valid kind l h.0 h.2 h.3)) (lines_valid valid kind ls h.1 h.5))
  where
    one : (q : Option Statement) → IsValidLine q → All IsValidQuad (option_to_list q)
    one None k = All-nil IsValidQuad
    one (Some q) k = All-cons IsValidQuad q [] k (All-nil IsValidQuad)

-- one answer for each piece

pub piece_once : (kind : Kind) (taken piece : List ℕ) (e f : DataFault) (before after before' after' : List Statement)
    → FailsAt kind taken piece e before after → FailsAt kind taken piece f before' after' → e ≡ f
piece_once kind taken piece e f before after before' after' h k =
    first_once kind (length (cut taken).ended) h.good h.bad h.later h.quads k.good k.bad k.later k.quads e f
    (append_cancel_left (cut taken).ended _ _ (sym h.ended ∙ k.ended)) h.read k.read h.refused k.refused

pub piece_good : (kind : Kind) (taken piece : List ℕ) (fault : DataFault) (r : Reader) (before after before' after' : List Statement)
    → Feeds kind taken piece r before after → FailsAt kind taken piece fault before' after' → ⊥
piece_good kind taken piece fault r before after before' after' h k =
    document_good kind k.good k.bad k.later _ fault h.quads
    (subst (λ v. AreLines kind v h.quads) (append_cancel_left (cut taken).ended _ _ (sym h.ended ∙ k.ended)) h.read) k.refused

pub piece_quads : (kind : Kind) (taken piece : List ℕ) (e f : DataFault) (before after after' : List Statement)
    → FailsAt kind taken piece e before after → FailsAt kind taken piece f before after' → after ≡ after'
piece_quads kind taken piece e f before after after' h k =
    h.appended ∙ ap (λ v. before ++ v)
    (first_quads kind h.good h.bad h.later h.quads k.good k.bad k.later k.quads _ _ e f
    (append_cancel_left (cut taken).ended _ _ (sym h.ended ∙ k.ended)) h.read k.read h.refused k.refused)
    ∙ sym k.appended

stands_once : (r r' : Reader) (kind : Kind) (taken : List ℕ) → Stands r kind taken → Stands r' kind taken → r ≡ r'
stands_once r r' kind taken h k =
    let kinds = h.kind_is ∙ sym k.kind_is in
    let lines = h.line ∙ sym k.line in
    let crs = h.after_cr ∙ sym k.after_cr in
    let counts = h.ended ∙ sym k.ended in
    let faults = h.no_fault ∙ sym k.no_fault in
    (λ i. record { kind = kinds i; line = lines i; after_cr = crs i; ended = counts i; fault = faults i })

pub taking_once : (kind : Kind) (taken piece : List ℕ) (r r' : Reader) (before after after' : List Statement)
    → Feeds kind taken piece r before after → Feeds kind taken piece r' before after' → (r ≡ r') × (after ≡ after')
taking_once kind taken piece r r' before after after' h k =
    let lines : h.lines ≡ k.lines = append_cancel_left (cut taken).ended _ _ (sym h.ended ∙ k.ended) in (
      stands_once r r' kind (taken ++ piece) h.stands k.stands,
      h.appended ∙ ap (λ v. before ++ v) (lines_once kind h.lines h.quads k.quads h.read (subst (λ v. AreLines kind v k.quads) (sym lines) k.read))
          ∙ sym k.appended,
    )

-- one answer for the end

pub end_once : (kind : Kind) (taken : List ℕ) (before after after' : List Statement)
    → Finishes kind taken before after → Finishes kind taken before after' → after ≡ after'
end_once kind taken before after after' h k =
    h.appended ∙ ap (λ q. before ++ option_to_list q) (line_once kind (cut taken).rest h.quad k.quad h.read k.read) ∙ sym k.appended

pub end_fault : (kind : Kind) (taken : List ℕ) (e f : DataFault) → IsRefused kind (cut taken).rest (line_number (length (cut taken).ended)) e
    → IsRefused kind (cut taken).rest (line_number (length (cut taken).ended)) f → e ≡ f
end_fault kind taken e f h k = one_refusal kind (cut taken).rest (line_number (length (cut taken).ended)) e f h k

pub end_good : (kind : Kind) (taken : List ℕ) (fault : DataFault) (before after : List Statement) → Finishes kind taken before after
    → IsRefused kind (cut taken).rest (line_number (length (cut taken).ended)) fault → ⊥
end_good kind taken fault before after h r = not_refused kind (cut taken).rest _ fault h.quad h.read h.short r
