-- A stream has one chunked body, or one refusal of it; and reading comes to just that.
use Rattle.std.proofs.Common.{◌≡◌, ◌∙◌, ℕ, List, [], ◌∷◌, ◌++◌, length, Option, Some, None, sym, ap, subst, refl, arith, append_assoc, append-nil, inl, inr}
use Rattle.std.proofs.lemmas.Bool.{cases_lt}
use Rattle.http_frame.specs.Chunks.{IsChunkedBody, BeginsChunked, IsUnfinished, HasLongChunk, BreaksChunks, IsChunkedAt, IsChunkedRefused, long, broken, cut_off}
use Rattle.http_frame.specs.Places.{step, data_at, Trace, ended, broke, open_at, carry, after_step, trace}
use Rattle.http_frame.specs.declared.fault.FrameFault.{FrameFault}
use Rattle.http_frame.specs.declared.chunk.Place.{Place}
use Rattle.http_frame.specs.declared.chunk.Place.TheVariants.{Size}
use Rattle.http_frame.specs.declared.chunk.Step.TheVariants.{Next, Broken, Long, Done}
use Rattle.http_frame.proofs.ChunkLemmas.{resume, trace-append, body_fits, body_over, long_read}
use Rattle.http_frame.proofs.PlaceLemmas.{Traced, traced, some_left, start, rest_body, rest_long, rest_begins}

-- reading from the begin of a chunked body
abbrev pub read : ℕ → List ℕ → Trace
read most b = trace (Size 0 0) most b

begun : (most : ℕ) (b : List ℕ) → Traced (Size 0 0) most b (read most b)
begun most b = traced b (Size 0 0) most (omega arith, omega arith)

at : (most : ℕ) (b : List ℕ) (t : Trace) → read most b ≡ t → Traced (Size 0 0) most b t
at most b t e = subst (Traced (Size 0 0) most b) e (begun most b)

-- what follows a break or an end changes nothing
pub after : (most : ℕ) (b more : List ℕ) (t : Trace) → read most b ≡ t → read most (b ++ more) ≡ resume t more
after most b more t e = trace-append (Size 0 0) most b more ∙ ap (λ z. resume z more) e

-- the bytes of a body are read to an end
ends : (most : ℕ) (bytes body more : List ℕ) → IsChunkedBody bytes body → (end : Option (List ℕ)) × (rest : List ℕ) × (read most (bytes ++ more) ≡ ended end rest)
ends most bytes body more h =
    elim (cases_lt most (length body)) [
      | inl over ↦ (let past = body_over bytes body more most h over in (None, past.0, past.1))
      | inr fits ↦ (Some body, more, body_fits bytes body more most h fits)
    ]

-- a whole body was read
pub read_whole : (most : ℕ) (b body rest : List ℕ) → read most b ≡ ended (Some body) rest → IsChunkedAt most b body rest
read_whole most b body rest e =
    let t = at most b (ended (Some body) rest) e in
    let is = rest_body body (start t.0 most (Some body) t.1) refl in
    elim (cases_lt most (length body)) [
      | inl over ↦ (let past = body_over t.0 body rest most is over in
          let same = ap (read most) t.2 in
          cc)
      | inr fits ↦ record { bytes = t.0; is_body = is; short = fits; b_is = t.2 }
    ]

pub read_long : (most : ℕ) (b rest : List ℕ) → read most b ≡ ended None rest → HasLongChunk most b
read_long most b rest e =
    let t = at most b (ended None rest) e in
    let l = rest_long (start t.0 most None t.1) refl in
    record {
      chunks = l.0;
      body = l.1;
      line = l.2;
      size = l.3;
      rest = rest;
      are_chunks = l.4;
      is_line = l.5;
      long = l.6;
      b_is = t.2 ∙ ap (λ (z : List ℕ). z ++ rest) l.7 ∙ append_assoc l.0 l.2 rest;
    }

no_long : (most : ℕ) (b body : List ℕ) (p : Place) (r : ℕ) → read most b ≡ open_at body p r → HasLongChunk most b → ⊥
no_long most b body p r e h = let past = long_read most b h in let other = past.1 in cc

pub read_open : (most : ℕ) (b body : List ℕ) (p : Place) (r : ℕ) → read most b ≡ open_at body p r → IsUnfinished b × (HasLongChunk most b → ⊥)
read_open most b body p r e =
    let t = at most b (open_at body p r) e in
    let some = some_left p r t.0 in
    let left = t.1 (some.0 ∷ some.1) (Some some.2) some.3 in
    ((some.0, some.1, body ++ some.2, rest_body (body ++ some.2) (start (b ++ some.0 ∷ some.1) most (Some (body ++ some.2)) left) refl), no_long most b body p r e)

-- bytes that were read to a break begin no body
no_begin : (most : ℕ) (b : List ℕ) → read most b ≡ broke → BeginsChunked b → ⊥
no_begin most b e h =
    let end = ends most (b ++ h.0) h.1 [] h.2 in
    let same : read most ((b ++ h.0) ++ []) ≡ broke = ap (read most) (append-nil (b ++ h.0)) ∙ after most b h.0 broke e in
    let other = end.2 in
    cc

pub read_broken : (most : ℕ) (b : List ℕ) → read most b ≡ broke → BreaksChunks most b
read_broken most b e =
    let t = at most b broke e in
    let good = read_open most t.0 t.4 t.5 t.6 t.7 in
    record { good = t.0; bad = t.1; rest = t.2; b_is = t.3; unfinished = good.0; broken = no_begin most (t.0 ++ t.1 ∷ []) t.8; not_long = good.1 }

-- and the other way

pub whole_read : (most : ℕ) (b body rest : List ℕ) → IsChunkedAt most b body rest → read most b ≡ ended (Some body) rest
whole_read most b body rest h = ap (read most) h.b_is ∙ body_fits h.bytes body rest most h.is_body h.short

nothing_behind : (xs ys : List ℕ) (y : ℕ) → xs ++ y ∷ ys ≡ [] → ⊥
nothing_behind [] ys y e = cc
nothing_behind (x ∷ xs) ys y e = cc

pub open_read : (most : ℕ) (b : List ℕ) → IsUnfinished b → (HasLongChunk most b → ⊥) → (body : List ℕ) × (p : Place) × (r : ℕ) × (read most b ≡ open_at body p r)
open_read most b h none =
    let whole = b ++ h.0 ∷ h.1 in
    let end = ends most whole h.2 [] h.3 in
    let same : read most (whole ++ []) ≡ read most whole = ap (read most) (append-nil whole) in
    elim (read most b) as (λ t. read most b ≡ t → (body : List ℕ) × (p : Place) × (r : ℕ) × (t ≡ open_at body p r)) [
      | open_at body p r ↦ λ e. (body, p, r, refl)
      | broke ↦ λ e. (let past = after most b (h.0 ∷ h.1) broke e in let other = end.2 in cc)
      | ended end' rest ↦ λ e. absurd (ended_early most b h end' rest e none)
    ] refl
  where
    ended_early : (most : ℕ) (b : List ℕ) → (h : IsUnfinished b) → (end : Option (List ℕ)) (rest : List ℕ) → read most b ≡ ended end rest → (HasLongChunk most b → ⊥) → ⊥
    ended_early most b h None rest e none = none (read_long most b rest e)
    ended_early most b h (Some body) rest e none =
        let whole = b ++ h.0 ∷ h.1 in
        let past : read most whole ≡ ended (Some body) (rest ++ h.0 ∷ h.1) = after most b (h.0 ∷ h.1) (ended (Some body) rest) e in
        let same : read most (whole ++ []) ≡ read most whole = ap (read most) (append-nil whole) in
        elim (cases_lt most (length h.2)) [
          | inl over ↦ (let long = body_over whole h.2 [] most h.3 over in let other = long.1 in cc)
          | inr fits ↦ (let all = body_fits whole h.2 [] most h.3 fits in nothing_behind rest h.1 h.0 cc)
        ]

-- one byte more is read to an end, and nothing is left
one_byte : (p : Place) (r b : ℕ) (end : Option (List ℕ)) (rest : List ℕ) → trace p r (b ∷ []) ≡ ended end rest → rest ≡ []
one_byte p r b end rest =
    elim (step p r b) as (λ s. after_step s (data_at p b) [] (λ p' r'. trace p' r' []) ≡ ended end rest → rest ≡ []) [
      | Next p' r' ↦ λ e. cc
      | Broken ↦ λ e. cc
      | Long ↦ λ e. cc
      | Done ↦ λ e. cc
    ]

carry_rest : (front : List ℕ) (t : Trace) (end : Option (List ℕ)) (rest : List ℕ) → carry front t ≡ ended end rest → (end' : Option (List ℕ)) × (t ≡ ended end' rest)
carry_rest front (ended (Some body) rest') end rest e = (Some body, ap (ended (Some body)) cc)
carry_rest front (ended None rest') end rest e = (None, ap (ended None) cc)
carry_rest front broke end rest e = cc
carry_rest front (open_at body p r) end rest e = cc

begins_at : (most : ℕ) (b : List ℕ) (end : Option (List ℕ)) → read most b ≡ ended end [] → BeginsChunked b
begins_at most b (Some body) e =
    let t = at most b (ended (Some body) []) e in
    let is = rest_body body (start t.0 most (Some body) t.1) refl in
    ([], body, subst (λ (z : List ℕ). IsChunkedBody z body) (sym (ap (λ (z : List ℕ). z ++ []) t.2 ∙ append-nil (t.0 ++ []) ∙ append-nil t.0)) is)
begins_at most b None e =
    let t = at most b (ended None []) e in
    let go = rest_begins (start t.0 most None t.1) refl in
    (go.0, go.1, subst (λ (z : List ℕ). IsChunkedBody (z ++ go.0) go.1) (sym (t.2 ∙ append-nil t.0)) (rest_body go.1 go.2 refl))

pub broken_read : (most : ℕ) (b : List ℕ) → BreaksChunks most b → read most b ≡ broke
broken_read most b h =
    let good = open_read most h.good h.unfinished h.not_long in
    let next = after most h.good (h.bad ∷ []) (open_at good.0 good.1 good.2) good.3 in
    let whole = h.good ++ h.bad ∷ [] in
    let first : read most whole ≡ broke = breaks most whole h.good h.bad good.0 good.1 good.2 next h.broken in
    ap (read most) (h.b_is ∙ sym (append_assoc h.good (h.bad ∷ []) h.rest)) ∙ after most whole h.rest broke first
  where
    breaks : (most : ℕ) (whole good : List ℕ) (bad : ℕ) (body : List ℕ) (p : Place) (r : ℕ) → read most whole ≡ carry body (trace p r (bad ∷ []))
        → (BeginsChunked whole → ⊥) → read most whole ≡ broke
    breaks most whole good bad body p r next none =
        elim (read most whole) as (λ t. read most whole ≡ t → t ≡ broke) [
          | broke ↦ λ e. refl
          | open_at body' p' r' ↦ λ e. absurd (let t = read_open most whole body' p' r' e in none (t.0.0 ∷ t.0.1, t.0.2, t.0.3))
          | ended end rest ↦ λ e. absurd (let split = carry_rest body (trace p r (bad ∷ [])) end rest (sym next ∙ e) in
              let nil = one_byte p r bad split.0 rest split.1 in
              none (begins_at most whole end (e ∙ ap (ended end) nil)))
        ] refl

-- the refusals of a chunked body are one

pub one_chunked : (most : ℕ) (b body body' rest rest' : List ℕ) → IsChunkedAt most b body rest → IsChunkedAt most b body' rest' → (body ≡ body') × (rest ≡ rest')
one_chunked most b body body' rest rest' x y =
    let e = whole_read most b body rest x in
    let f = whole_read most b body' rest' y in
    (cc, cc)

pub chunked_or_refused : (most : ℕ) (b body rest : List ℕ) (fault : FrameFault) → IsChunkedAt most b body rest → IsChunkedRefused most b fault → ⊥
chunked_or_refused most b body rest fault x (long f h) = let e = whole_read most b body rest x in let past = long_read most b h in let other = past.1 in cc
chunked_or_refused most b body rest fault x (broken f h) = let e = whole_read most b body rest x in let other = broken_read most b h in cc
chunked_or_refused most b body rest fault x (cut_off f h none) = let e = whole_read most b body rest x in let past = open_read most b h none in let other = past.3 in cc

pub one_chunk_fault : (most : ℕ) (b : List ℕ) (fault fault' : FrameFault) → IsChunkedRefused most b fault → IsChunkedRefused most b fault' → fault ≡ fault'
one_chunk_fault most b fault fault' (long e h) (long f k) = e ∙ sym f
one_chunk_fault most b fault fault' (broken e h) (broken f k) = e ∙ sym f
one_chunk_fault most b fault fault' (cut_off e h n) (cut_off f k m) = e ∙ sym f
one_chunk_fault most b fault fault' (long e h) (broken f k) = let past = long_read most b h in let one = past.1 in let other = broken_read most b k in cc
one_chunk_fault most b fault fault' (broken e h) (long f k) = let past = long_read most b k in let one = past.1 in let other = broken_read most b h in cc
one_chunk_fault most b fault fault' (long e h) (cut_off f k m) = absurd (m h)
one_chunk_fault most b fault fault' (cut_off e h n) (long f k) = absurd (n k)
one_chunk_fault most b fault fault' (broken e h) (cut_off f k m) = let one = broken_read most b h in let past = open_read most b k m in let other = past.3 in cc
one_chunk_fault most b fault fault' (cut_off e h n) (broken f k) = let one = broken_read most b k in let past = open_read most b h n in let other = past.3 in cc
