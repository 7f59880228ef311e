-- What is read between two marks is what is written there.
use Rattle.std.proofs.Common.{◌≡◌, ℕ, suc, zero, ◌+◌, List, [], ◌∷◌, ◌++◌, true, false, ◌==◌, ◌&&◌, refl, ap, ◌∙◌, sym, subst, drop, take, length, map, append_assoc, Option, Some, None, if◌then◌else◌, inl, inr, arith}
use Rattle.std.specs.List.{flat_map, list_all, prefix_len}
use Rattle.std.proofs.lemmas.List.{take-append-drop}
use Rattle.std.proofs.Math.Seq.{take-append_seam, drop-append_seam}
use Rattle.rdf_term.specs.Classes.{is_hex_digit}
use Rattle.rdf_term.specs.Escapes.{echar_meaning}
use Rattle.nquads_line.specs.declared.quoted.Quoted.{Quoted}
use Rattle.nquads_line.specs.declared.quoted.Quoted.TheVariants.{Iri, Literal}
use Rattle.nquads_line.specs.Written.{Piece, Raw, Short, Four, Eight, IsWritten, spelling, meaning, hex_value, is_hex, is_raw, is_short_escape, is_meant, is_piece, closing}
use lib.Utf8.{scalar}
use Rattle.nquads_line.specs.Reading.{with_front, hex_at, escape_at, if_meant, piece_at, after_piece, body_at}
use Rattle.nquads_line.proofs.ReadLemmas.{body_skip, front_front}
use Rattle.nquads_line.proofs.Steps.{chosen, take_then, take_else, both, split, equal, itself, unequal, true_or_false, after_ok, with_front_ok}

hex_ok : (count : ℕ) (cs : List ℕ) (x : ℕ × ℕ) → hex_at count cs ≡ Some x
    → (is_hex count (take count cs) ≡ true) × (x ≡ (hex_value (take count cs), count + 1))
hex_ok count cs x e =
    elim (chosen (is_hex count (take count cs)) _ _ _ e) [
      | inl h ↦ (let same : x ≡ (hex_value (take count cs), count + 1) = cc in (h.0, same))
      | inr h ↦ cc
    ]

-- a piece that is read from the first character c on
abbrev IsRead : Quoted → ℕ → List ℕ → ℕ × ℕ → Type 0
IsRead form c cs x = (p : Piece) × (is_piece form p ≡ true) × (spelling p ≡ c ∷ take x.1 cs) × (meaning p ≡ x.0)

escape_ok : (form : Quoted) (cs : List ℕ) (x : ℕ × ℕ) → escape_at form cs ≡ Some x → is_meant form x.0 ≡ true → IsRead form 92 cs x
escape_ok form [] x h m = cc
escape_ok form (e ∷ cs) x h m =
    elim (chosen (e == 117) _ _ _ h) [
      | inl k ↦ (let g = hex_ok 4 cs x k.1 in (
        Four (take 4 cs),
        both (is_hex 4 (take 4 cs)) (is_meant form (hex_value (take 4 cs))) g.0 (subst (λ y. is_meant form y.0 ≡ true) g.1 m),
        ap (λ d. 92 ∷ d ∷ take 4 cs) (sym (equal e 117 k.0)) ∙ ap (λ y. 92 ∷ take y.1 (e ∷ cs)) (sym g.1),
        sym (ap (λ y. y.0) g.1),
      ))
      | inr k ↦ elim (chosen (e == 85) _ _ _ k.1) [
        | inl l ↦ (let g = hex_ok 8 cs x l.1 in (
          Eight (take 8 cs),
          both (is_hex 8 (take 8 cs)) (is_meant form (hex_value (take 8 cs))) g.0 (subst (λ y. is_meant form y.0 ≡ true) g.1 m),
          ap (λ d. 92 ∷ d ∷ take 8 cs) (sym (equal e 85 l.0)) ∙ ap (λ y. 92 ∷ take y.1 (e ∷ cs)) (sym g.1),
          sym (ap (λ y. y.0) g.1),
        ))
        | inr l ↦ elim (chosen (is_short_escape form e) _ _ _ l.1) [
          | inl s ↦ (let same : x ≡ (echar_meaning e, 1) = cc in
              (Short e, s.0, ap (λ y. 92 ∷ take y.1 (e ∷ cs)) (sym same), sym (ap (λ y. y.0) same)))
          | inr s ↦ cc
        ]
      ]
    ]

meant_ok : (form : Quoted) (r : Option (ℕ × ℕ)) (x : ℕ × ℕ) → if_meant form r ≡ Some x → (r ≡ Some x) × (is_meant form x.0 ≡ true)
meant_ok form None x e = cc
meant_ok form (Some y) x e =
    elim (chosen (is_meant form y.0) _ _ _ e) [
      | inl h ↦ (let same : y ≡ x = cc in (h.1, subst (λ z. is_meant form z.0 ≡ true) same h.0))
      | inr h ↦ cc
    ]

piece_ok : (form : Quoted) (c : ℕ) (cs : List ℕ) (x : ℕ × ℕ) → piece_at form c cs ≡ Some x → IsRead form c cs x
piece_ok form c cs x h =
    elim (chosen (c == 92) _ _ _ h) [
      | inl k ↦ (let m = meant_ok form (escape_at form cs) x k.1 in
          let g = escape_ok form cs x m.0 m.1 in
          (g.0, g.1, g.2 ∙ ap (λ d. d ∷ take x.1 cs) (sym (equal c 92 k.0)), g.3))
      | inr k ↦ elim (chosen (is_raw form c) _ _ _ k.1) [
        | inl r ↦ (let same : x ≡ (c, 0) = cc in
            (Raw c, r.0, ap (λ y. c ∷ take y.1 cs) (sym same), ap (λ y. y.0) (sym same)))
        | inr r ↦ cc
      ]
    ]

-- pieces up to the mark that closes the text, and what stands after it
abbrev pub IsBody : Quoted → List ℕ → List ℕ × List ℕ → Type 0
IsBody form cs x =
    (pieces : List Piece) × (list_all (is_piece form) pieces ≡ true)
    × (cs ≡ flat_map spelling pieces ++ closing form ∷ x.1) × (x.0 ≡ map meaning pieces)

pub body_ok : (form : Quoted) (cs : List ℕ) (n : ℕ) (x : List ℕ × List ℕ) → body_at form cs n ≡ Some x → IsBody form (drop n cs) x
body_ok form [] n x e = cc
body_ok form (c ∷ cs) (suc n) x e = body_ok form cs n x e
body_ok form (c ∷ cs) zero x e =
    elim (chosen (c == closing form) _ _ _ e) [
      | inl h ↦ (let same : x ≡ ([], cs) = cc in
          ([], refl, ap (λ d. d ∷ cs) (equal c (closing form) h.0) ∙ ap (λ y. closing form ∷ y.1) (sym same), ap (λ y. y.0) same))
      | inr h ↦ (let p = after_ok (piece_at form c cs) (λ n. body_at form cs n) x h.1 in
          let w = with_front_ok (p.0.0 ∷ []) (body_at form cs p.0.1) x p.2 in
          let i = body_ok form cs p.0.1 w.0 w.1 in
          let q = piece_ok form c cs p.0 p.1 in (
            q.0 ∷ i.0,
            both (is_piece form q.0) (list_all (is_piece form) i.0) q.1 i.1,
            ap (λ l. c ∷ l) (sym (take-append-drop p.0.1 cs)) ∙ ap (λ l. c ∷ (take p.0.1 cs ++ l)) i.2
                ∙ ap (λ l. l ++ (flat_map spelling i.0 ++ closing form ∷ w.0.1)) (sym q.2)
                ∙ sym (append_assoc (spelling q.0) (flat_map spelling i.0) (closing form ∷ w.0.1))
                ∙ ap (λ y. (spelling q.0 ++ flat_map spelling i.0) ++ closing form ∷ y.1) (sym w.2),
            ap (λ y. y.0) w.2 ∙ ap (λ l. p.0.0 ∷ l) i.3 ∙ ap (λ m. m ∷ map meaning i.0) (sym q.3),
          ))
    ]

raw_closing : (form : Quoted) → is_raw form (closing form) ≡ false
raw_closing Iri = refl
raw_closing Literal = refl

raw_slash : (form : Quoted) → is_raw form 92 ≡ false
raw_slash Iri = refl
raw_slash Literal = refl

slash_open : (form : Quoted) → (92 == closing form) ≡ false
slash_open Iri = refl
slash_open Literal = refl

no_u : (form : Quoted) → is_short_escape form 117 ≡ false
no_u Iri = refl
no_u Literal = refl

no_U : (form : Quoted) → is_short_escape form 85 ≡ false
no_U Iri = refl
no_U Literal = refl

short_meant : (form : Quoted) (e : ℕ) → is_short_escape form e ≡ true → is_meant form (echar_meaning e) ≡ true
short_meant Iri e h = cc
short_meant Literal e h = refl

hex_length : (count : ℕ) (hex : List ℕ) → is_hex count hex ≡ true → length hex ≡ count
hex_length count hex h =
    equal (length hex) count (split (length hex == count) (list_all is_hex_digit hex) (split (length hex == count && list_all is_hex_digit hex) (scalar (hex_value hex)) h).0).0

-- the character that these digits name
abbrev hexed : ℕ → List ℕ → Option (ℕ × ℕ)
hexed count l = if is_hex count l then Some (hex_value l, count + 1) else None

hex_again : (count : ℕ) (hex more : List ℕ) → is_hex count hex ≡ true → hex_at count (hex ++ more) ≡ Some (hex_value hex, count + 1)
hex_again count hex more h =
    let same : take count (hex ++ more) ≡ hex = subst (λ n. take n (hex ++ more) ≡ hex) (hex_length count hex h) (take-append_seam hex more) in
    ap (hexed count) same ∙ take_then (is_hex count hex) (Some (hex_value hex, count + 1)) None h

hex_dropped : (count : ℕ) (hex more : List ℕ) → is_hex count hex ≡ true → drop count (hex ++ more) ≡ more
hex_dropped count hex more h = subst (λ n. drop n (hex ++ more) ≡ more) (hex_length count hex h) (drop-append_seam hex more)

-- one step after a backslash
slashed : (form : Quoted) (cs : List ℕ) (v n : ℕ) → escape_at form cs ≡ Some (v, n) → is_meant form v ≡ true
    → body_at form (92 ∷ cs) 0 ≡ with_front (v ∷ []) (body_at form (drop n cs) 0)
slashed form cs v n e m =
    take_else (92 == closing form) _ _ (slash_open form)
    ∙ ap (λ r. after_piece (if_meant form r) (λ k. body_at form cs k)) e
    ∙ ap (λ r. after_piece r (λ k. body_at form cs k)) (take_then (is_meant form v) (Some (v, n)) None m)
    ∙ ap (with_front (v ∷ [])) (body_skip form cs n)

piece_again : (form : Quoted) (p : Piece) (more : List ℕ) → is_piece form p ≡ true
    → body_at form (spelling p ++ more) 0 ≡ with_front (meaning p ∷ []) (body_at form more 0)
piece_again form (Raw c) more h =
    take_else (c == closing form) _ _ (unequal (is_raw form) (closing form) c (raw_closing form) h)
    ∙ ap (λ r. after_piece r (λ k. body_at form more k))
    (take_else (c == 92) _ _ (unequal (is_raw form) 92 c (raw_slash form) h) ∙ take_then (is_raw form c) (Some (c, 0)) None h)
piece_again form (Short e) more h =
    slashed form (e ∷ more) (echar_meaning e) 1
    (take_else (e == 117) _ _ (unequal (is_short_escape form) 117 e (no_u form) h)
    ∙ take_else (e == 85) _ _ (unequal (is_short_escape form) 85 e (no_U form) h)
    ∙ take_then (is_short_escape form e) (Some (echar_meaning e, 1)) None h)
    (short_meant form e h)
piece_again form (Four hex) more h =
    let parts = split (is_hex 4 hex) (is_meant form (hex_value hex)) h in
    slashed form (117 ∷ (hex ++ more)) (hex_value hex) 5 (hex_again 4 hex more parts.0) parts.1
    ∙ ap (λ l. with_front (hex_value hex ∷ []) (body_at form l 0)) (hex_dropped 4 hex more parts.0)
piece_again form (Eight hex) more h =
    let parts = split (is_hex 8 hex) (is_meant form (hex_value hex)) h in
    slashed form (85 ∷ (hex ++ more)) (hex_value hex) 9 (hex_again 8 hex more parts.0) parts.1
    ∙ ap (λ l. with_front (hex_value hex ∷ []) (body_at form l 0)) (hex_dropped 8 hex more parts.0)

-- characters that stand as they are in front

pub front_none : (r : Option (List ℕ × List ℕ)) → with_front [] r ≡ r
front_none None = refl
front_none (Some x) = refl

raw_some : (form : Quoted) (cs : List ℕ) (n : ℕ) → n ≡ prefix_len (is_raw form) cs
    → with_front (take n cs) (body_at form (drop n cs) 0) ≡ body_at form cs 0
raw_some form [] zero e = refl
raw_some form [] (suc n) e = refl
raw_some form (c ∷ cs) zero e = front_none (body_at form (c ∷ cs) 0)
raw_some form (c ∷ cs) (suc n) e =
    elim (true_or_false (is_raw form c)) [
      | inl h ↦ (let k : suc n ≡ 1 + prefix_len (is_raw form) cs = e ∙ take_then (is_raw form c) (1 + prefix_len (is_raw form) cs) 0 h in
          let m : n ≡ prefix_len (is_raw form) cs = omega arith in
          sym (front_front (c ∷ []) (take n cs) (body_at form (drop n cs) 0))
          ∙ ap (with_front (c ∷ [])) (raw_some form cs n m) ∙ sym (piece_again form (Raw c) cs h))
      | inr h ↦ (let k : suc n ≡ 0 = e ∙ take_else (is_raw form c) (1 + prefix_len (is_raw form) cs) 0 h in cc)
    ]

pub raw_front : (form : Quoted) (cs text rest : List ℕ) (n : ℕ) → n ≡ prefix_len (is_raw form) cs → text ≡ take n cs → rest ≡ drop n cs
    → with_front text (body_at form rest 0) ≡ body_at form cs 0
raw_front form cs text rest n e t r =
    ap (λ v. with_front v (body_at form rest 0)) t ∙ ap (λ v. with_front (take n cs) (body_at form v 0)) r ∙ raw_some form cs n e

pub body_again : (form : Quoted) (pieces : List Piece) (rest : List ℕ) → list_all (is_piece form) pieces ≡ true
    → body_at form (flat_map spelling pieces ++ closing form ∷ rest) 0 ≡ Some (map meaning pieces, rest)
body_again form [] rest h = take_then (closing form == closing form) (Some ([], rest)) _ (itself (closing form))
body_again form (p ∷ ps) rest h =
    let parts = split (is_piece form p) (list_all (is_piece form) ps) h in
    ap (λ l. body_at form l 0) (append_assoc (spelling p) (flat_map spelling ps) (closing form ∷ rest))
    ∙ piece_again form p (flat_map spelling ps ++ closing form ∷ rest) parts.0
    ∙ ap (with_front (meaning p ∷ [])) (body_again form ps rest parts.1)

-- what is written is read
pub written_again : (form : Quoted) (text cs rest : List ℕ) → IsWritten form text cs → body_at form (text ++ rest) 0 ≡ Some (cs, rest)
written_again form text cs rest h =
    ap (λ l. body_at form (l ++ rest) 0) h.written
    ∙ ap (λ l. body_at form l 0) (append_assoc (flat_map spelling h.pieces) (closing form ∷ []) rest)
    ∙ body_again form h.pieces rest h.each ∙ ap (λ l. Some (l, rest)) (sym h.meant)

-- what is read is written
pub written_ok : (form : Quoted) (cs : List ℕ) (x : List ℕ × List ℕ) → body_at form cs 0 ≡ Some x
    → (text : List ℕ) × (cs ≡ text ++ x.1) × IsWritten form text x.0
written_ok form cs x e =
    let b = body_ok form cs 0 x e in (
      flat_map spelling b.0 ++ closing form ∷ [],
      b.2 ∙ sym (append_assoc (flat_map spelling b.0) (closing form ∷ []) x.1),
      record { pieces = b.0; each = b.1; written = refl; meant = b.3 },
    )
