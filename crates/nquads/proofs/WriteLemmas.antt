-- What is appended to a buffer, in bytes.
use Rattle.std.proofs.Common.{◌≡◌, ℕ, suc, zero, ◌+◌, ◌<◌, ◌≤◌, List, [], ◌∷◌, ◌++◌, Bool, true, false, refl, ap, ◌∙◌, sym, subst, get_or, take, drop, map, cond, length, append_assoc, append-nil, encode_utf8_all, codes, arith, length-append}
use Rattle.std.specs.List.{flat_map, dedup, dedup_from}
use Rattle.std.specs.Str.{IsAscii, bytes_eq}
use Rattle.std.proofs.lemmas.List.Concat.{flat_map-append}
use Rattle.std.proofs.lemmas.List.{take_more}
use Rattle.std.specs.Prelude.{OnOk, OnErr}
use Rattle.std.specs.declared.result.Result.{Result}
use Rattle.nquads_line.specs.declared.kind.Kind.TheVariants.{Triples}
use Rattle.rdf_term.proofs.WritingLemmas.{then_appends, appends_of}
use Rattle.rdf_term.specs.Writing.{Extends, Appends}
use Rattle.nquads.specs.Written.{document_text}
use Rattle.nquads_line.specs.Parts.{triple_parts, graph_part}
use Rattle.nquads.specs.Steps.{NextTriple, IsNextTriple}
use Rattle.std.proofs.lemmas.Slice.Eq.{bytes_eq-Decides}
use Rattle.std.proofs.Math.Seq.{drop-append_seam}
use Rattle.rdf_term.specs.declared.graph.Graph.{Graph}
use Rattle.rdf_term.specs.declared.graph.Graph.TheVariants.{Absent, Named}
use Rattle.rdf_term.specs.Statement.{Statement}
use Rattle.std.proofs.lemmas.Str.{encodes_same, encodes-append, encodes-IsAscii}
use Rattle.rdf_term.specs.Canonical.{term_text, graph_texts, canonical_line, canonical_triple}

pub one_ascii : (d : ℕ) → d < 128 → IsAscii (d ∷ [])
one_ascii d h zero = h
one_ascii d h (suc n) = omega arith

-- ASCII characters around a text
around : (a b t : List ℕ) → IsAscii a → IsAscii b → encode_utf8_all (a ++ t ++ b) ≡ a ++ encode_utf8_all t ++ b
around a b t ha hb =
    encodes-append (a ++ t) b ∙ ap (λ v. encode_utf8_all (a ++ t) ++ v) (encodes-IsAscii b hb)
    ∙ ap (λ v. v ++ b) (encodes-append a t ∙ ap (λ v. v ++ encode_utf8_all t) (encodes-IsAscii a ha))

nil_ascii : IsAscii []
nil_ascii n = omega arith

two_ascii : (c d : ℕ) → c < 128 → d < 128 → IsAscii (c ∷ d ∷ [])
two_ascii c d h k zero = h
two_ascii c d h k (suc zero) = k
two_ascii c d h k (suc (suc n)) = omega arith

three_ascii : (c d e : ℕ) → c < 128 → d < 128 → e < 128 → IsAscii (c ∷ d ∷ e ∷ [])
three_ascii c d e h k l zero = h
three_ascii c d e h k l (suc zero) = k
three_ascii c d e h k l (suc (suc zero)) = l
three_ascii c d e h k l (suc (suc (suc n))) = omega arith

-- parts of lines

pub part_bytes : (t : List ℕ) → encode_utf8_all t ++ codes " " ≡ encode_utf8_all (t ++ codes " ")
part_bytes t = sym (encodes-append t (codes " ") ∙ ap (λ v. encode_utf8_all t ++ v) (encodes-IsAscii (codes " ") (one_ascii 32 (omega arith))))

-- three texts were appended, one after the other
pub three_appended : {E : Type 0} (r : Result (Unit {0}) E) (old mid mid' new a b c : List ℕ) → mid ≡ old ++ encode_utf8_all a
    → mid' ≡ mid ++ encode_utf8_all b → Appends r mid' new (encode_utf8_all c) → Appends r old new (encode_utf8_all (a ++ b ++ c))
three_appended r old mid mid' new a b c e f h =
    then_appends r old mid' new (encode_utf8_all a ++ encode_utf8_all b) (encode_utf8_all c) (encode_utf8_all (a ++ b ++ c))
    (f ∙ ap (λ v. v ++ encode_utf8_all b) e ∙ append_assoc old (encode_utf8_all a) (encode_utf8_all b))
    (ap (λ v. v ++ encode_utf8_all c) (sym (encodes-append a b)) ∙ sym (encodes-append (a ++ b) c)) h

-- the dot and LF were appended
pub dot_appended : {E : Type 0} (r : Result (Unit {0}) E) (old mid new a line : List ℕ) → mid ≡ old ++ encode_utf8_all a
    → line ≡ a ++ codes ".\n" → OnOk r (new ≡ mid ++ codes ".\n") → OnErr r (new ≡ mid) → Appends r old new (encode_utf8_all line)
dot_appended r old mid new a line e w ok err =
    then_appends r old mid new (encode_utf8_all a) (codes ".\n") (encode_utf8_all line) e
    (sym (ap encode_utf8_all w ∙ encodes-append a (codes ".\n")
    ∙ ap (λ v. encode_utf8_all a ++ v) (encodes-IsAscii (codes ".\n") (two_ascii 46 10 (omega arith) (omega arith)))))
    (appends_of r mid new (codes ".\n") ok err)

pub triple_line : (q : Statement) → canonical_triple q ≡ triple_parts q ++ codes ".\n"
triple_line q = of (term_text q.s ++ codes " ") (term_text q.p ++ codes " ") (term_text q.o ++ codes " ")
  where
    of : (a b c : List ℕ) → (a ++ (b ++ (c ++ []))) ++ codes ".\n" ≡ (a ++ b ++ c) ++ codes ".\n"
    of a b c = simp (append_assoc, append-nil)

pub quad_line : (q : Statement) → canonical_line q ≡ (triple_parts q ++ graph_part q.c) ++ codes ".\n"
quad_line q = of (term_text q.s ++ codes " ") (term_text q.p ++ codes " ") (term_text q.o ++ codes " ") q.c
  where
    of : (a b c : List ℕ) (g : Graph)
        → (a ++ (b ++ (c ++ flat_map (λ part. part ++ codes " ") (graph_texts g)))) ++ codes ".\n" ≡ ((a ++ b ++ c) ++ graph_part g) ++ codes ".\n"
    of a b c Absent = simp (append_assoc, append-nil)
    of a b c (Named name) = simp (append_assoc, append-nil)

-- one more line
pub lines_more : (qs : List Statement) (i : ℕ) (q : Statement) → i < length qs → q ≡ get_or qs i q
    → encode_utf8_all (flat_map canonical_line (take i qs)) ++ encode_utf8_all (canonical_line q)
    ≡ encode_utf8_all (flat_map canonical_line (take (i + 1) qs))
lines_more qs i q l e =
    sym (encodes-append (flat_map canonical_line (take i qs)) (canonical_line q))
    ∙ ap encode_utf8_all (ap (λ v. flat_map canonical_line (take i qs) ++ v) (ap canonical_line e ∙ sym (append-nil _))
    ∙ sym (flat_map-append canonical_line (take i qs) (get_or qs i q ∷ []))
    ∙ ap (flat_map canonical_line) (sym (take_more qs i q l)))

-- triples, of which equal neighbours are written once

-- the lines after the last one that was written
abbrev pub later : List ℕ → List (List ℕ) → List (List ℕ)
later last [] = []
later last (x ∷ xs) = cond (bytes_eq x last) (later last xs) (x ∷ later x xs)

dedup_from-later : (k : List ℕ) (xs : List (List ℕ)) → dedup_from bytes_eq k xs ≡ k ∷ later k xs
dedup_from-later k [] = refl
dedup_from-later k (x ∷ xs) = at (dedup_from-later k xs) (dedup_from-later x xs) (bytes_eq x k)
  where
    at : dedup_from bytes_eq k xs ≡ k ∷ later k xs → dedup_from bytes_eq x xs ≡ x ∷ later x xs
        → (b : Bool) → cond b (dedup_from bytes_eq k xs) (k ∷ dedup_from bytes_eq x xs) ≡ k ∷ cond b (later k xs) (x ∷ later x xs)
    at same other true = same
    at same other false = ap (λ v. k ∷ v) other

not_empty : (xs : List ℕ) (c : ℕ) (cs : List ℕ) → bytes_eq (xs ++ c ∷ cs) [] ≡ false
not_empty [] c cs = refl
not_empty (x ∷ xs) c cs = refl

dedup-later : (qs : List Statement) → dedup bytes_eq (map canonical_triple qs) ≡ later [] (map canonical_triple qs)
dedup-later [] = refl
dedup-later (q ∷ qs) =
    dedup_from-later (canonical_triple q) (map canonical_triple qs)
    ∙ sym (ap (λ b. cond b (later [] (map canonical_triple qs)) (canonical_triple q ∷ later (canonical_triple q) (map canonical_triple qs)))
    (ap (λ v. bytes_eq v []) (triple_line q) ∙ not_empty (triple_parts q) 46 (codes "\n")))

pub same_test : (a b : Bool) → (a ≡ true → b ≡ true) → (b ≡ true → a ≡ true) → a ≡ b
same_test true b f g = sym (f refl)
same_test false true f g = g refl
same_test false false f g = refl

-- lines are equal where their bytes are
bytes_same : (x y : List ℕ) → bytes_eq (encode_utf8_all x) (encode_utf8_all y) ≡ bytes_eq x y
bytes_same x y =
    let bytes = bytes_eq-Decides (encode_utf8_all x) (encode_utf8_all y) in
    let chars = bytes_eq-Decides x y in
    same_test _ _ (λ h. chars.1 (encodes_same x y (bytes.0 h))) (λ h. bytes.1 (ap encode_utf8_all (chars.0 h)))

-- what is written so far, of which the last line begins at last, is the whole but for these lines
pub record IsWriting (before whole : List ℕ) (lines : List (List ℕ)) (last : ℕ) (out : List ℕ) : Type 0 where
  pub line : List ℕ
  pub is_last : drop last out ≡ encode_utf8_all line
  pub bound : last ≤ length out
  pub grown : Extends before out
  pub rest : out ++ encode_utf8_all (flat_map (λ l. l) (later line lines)) ≡ whole

pub writing_none : (before : List ℕ) (last : ℕ) (qs : List Statement) → last ≡ length before
    → IsWriting before (before ++ encode_utf8_all (document_text Triples qs)) (map canonical_triple qs) last before
writing_none before last qs e =
    record {
      line = [];
      is_last = ap (λ n. drop n before) e ∙ ap (drop (length before)) (sym (append-nil before)) ∙ drop-append_seam before [];
      bound = omega arith;
      grown = ([], sym (append-nil before));
      rest = ap (λ v. before ++ encode_utf8_all (flat_map (λ l. l) v)) (sym (dedup-later qs));
    }

pub writing_next : (before whole x : List ℕ) (lines : List (List ℕ)) (last : ℕ) (out : List ℕ) (start : ℕ) (new : List ℕ)
    → IsWriting before whole (x ∷ lines) last out → IsNextTriple (encode_utf8_all x) last out start new
    → IsWriting before whole lines start new
writing_next before whole x lines last out start new w h =
    let test : bytes_eq (encode_utf8_all x) (drop last out) ≡ bytes_eq x w.line =
    ap (bytes_eq (encode_utf8_all x)) w.is_last ∙ bytes_same x w.line in
    at (bytes_eq x w.line) w.rest (subst (λ b. NextTriple b (encode_utf8_all x) last out start new) test h)
  where
    at : (b : Bool) → out ++ encode_utf8_all (flat_map (λ l. l) (cond b (later w.line lines) (x ∷ later x lines))) ≡ whole
        → NextTriple b (encode_utf8_all x) last out start new → IsWriting before whole lines start new
    at true rest n = record {
      line = w.line;
      is_last = ap (drop start) n.1 ∙ ap (λ v. drop v out) n.0 ∙ w.is_last;
      bound = (let b = w.bound in let e = n.0 in let f = ap length n.1 in omega arith);
      grown = subst (Extends before) (sym n.1) w.grown;
      rest = ap (λ v. v ++ encode_utf8_all (flat_map (λ l. l) (later w.line lines))) n.1 ∙ rest;
    }
    at false rest n = record {
      line = x;
      is_last = ap (drop start) n.1 ∙ ap (λ v. drop v (out ++ encode_utf8_all x)) n.0 ∙ drop-append_seam out (encode_utf8_all x);
      bound = (let e = n.0 in let f = ap length n.1 in let g = length-append out (encode_utf8_all x) in omega arith);
      grown = (w.grown.0 ++ encode_utf8_all x, n.1 ∙ ap (λ v. v ++ encode_utf8_all x) w.grown.1 ∙ append_assoc before w.grown.0 (encode_utf8_all x));
      rest = ap (λ v. v ++ encode_utf8_all (flat_map (λ l. l) (later x lines))) n.1
          ∙ append_assoc out (encode_utf8_all x) (encode_utf8_all (flat_map (λ l. l) (later x lines)))
          ∙ ap (λ v. out ++ v) (sym (encodes-append x (flat_map (λ l. l) (later x lines)))) ∙ rest;
    }

pub writing_all : (before whole : List ℕ) (last : ℕ) (out : List ℕ) → IsWriting before whole [] last out → out ≡ whole
writing_all before whole last out w = sym (append-nil out) ∙ w.rest
