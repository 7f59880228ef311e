-- The turns of the reader of a chunked body.
use Rattle.std.proofs.Common.{◌≡◌, ◌∙◌, ℕ, ◌-◌, ◌≤◌, ◌<◌, true, false, cond, nat_lt, List, [], ◌∷◌, ◌++◌, length, take, drop, Option, Some, None, Ok, Err, sym, ap, subst, refl, arith, append_assoc, append-nil, length-take-le, take-append-drop}
use Rattle.std.proofs.lemmas.Bool.Decides.{nat_tests}
use Rattle.http_frame.specs.Answers.{TakesWithin}
use Rattle.http_frame.specs.Chunks.{IsChunkedRefused, long, broken, cut_off}
use Rattle.http_frame.specs.Places.{step, data_at, behind_data, Trace, ended, broke, open_at, carry, after_step, trace, IsPlace, bytes_left, IsStep, IsReached, IsTurn}
use Rattle.http_frame.specs.Streams.{IsStream}
use Rattle.http_frame.specs.declared.fault.FrameFault.TheVariants.{BadBody, BodyTooLong, Truncated, ReadFault}
use Rattle.http_frame.specs.declared.framing.Framing.TheVariants.{Chunked}
use Rattle.http_frame.specs.declared.chunk.Place.{Place}
use Rattle.http_frame.specs.declared.chunk.Place.TheVariants.{Size, Extension, LineEnd, Data, DataReturn, DataEnd, Trailers, Trailer, TrailerEnd, LastEnd}
use Rattle.http_frame.specs.declared.chunk.Step.{Step}
use Rattle.http_frame.specs.declared.chunk.Step.TheVariants.{Next, Broken, Long, Done}
use Rattle.http_frame.proofs.ChunkLemmas.{resume, read_data}
use Rattle.http_frame.proofs.ChunkedLemmas.{read, after, read_whole, read_long, read_open, read_broken}

lt_of : (m n : ℕ) → nat_lt m n ≡ true → m < n
lt_of m n e = grind (arith, nat_tests)

-- where the bytes of a chunk lead that are taken at once
data_reached : (left part room : ℕ) → 0 < part → IsPlace (behind_data left part) × (bytes_left (behind_data left part) room < bytes_left (Data left) room)
data_reached left part room some =
    elim (nat_lt part left) as (λ t. nat_lt part left ≡ t
    → IsPlace (cond t (Data (left - part)) DataReturn) × (bytes_left (cond t (Data (left - part)) DataReturn) room < bytes_left (Data left) room)) [
      | true ↦ λ e. let less = lt_of part left e in (omega arith, omega arith)
      | false ↦ λ e. (tt, omega arith)
    ] refl

pub data_turn : (held body body' : List ℕ) (left room part : ℕ) → 0 < part → part ≤ left → part ≤ length held → body' ≡ body ++ take part held
    → IsTurn (Data left) room held (drop part held) body body' (Next (behind_data left part) room)
data_turn held body body' left room part some few fit e =
    let piece = take part held in
    let size = length-take-le part held fit in
    let reached = data_reached left part room some in
    let read : trace (Data left) room piece ≡ open_at piece (behind_data left part) room =
    read_data piece left room (omega arith) (omega arith) ∙ ap (λ n. open_at piece (behind_data left n) room) size in
    (piece, sym (take-append-drop part held), (piece, read, e, reached.0, reached.1))

-- a step at a byte that is none of the body
byte_reached : (place : Place) (room b : ℕ) (body : List ℕ) → data_at place b ≡ [] → (s : Step) → step place room b ≡ s → IsStep place room s
    → IsReached place room body (b ∷ []) body s
byte_reached place room b body empty (Next p r) e is =
    let read : trace place room (b ∷ []) ≡ open_at [] p r =
    ap (λ s. after_step s (data_at place b) [] (λ p' r'. trace p' r' [])) e ∙ ap (λ (z : List ℕ). open_at (z ++ []) p r) empty in
    ([], read, sym (append-nil body), is.0, is.1)
byte_reached place room b body empty Broken e is = ap (λ s. after_step s (data_at place b) [] (λ p' r'. trace p' r' [])) e
byte_reached place room b body empty Long e is = ap (λ s. after_step s (data_at place b) [] (λ p' r'. trace p' r' [])) e
byte_reached place room b body empty Done e is = (ap (λ s. after_step s (data_at place b) [] (λ p' r'. trace p' r' [])) e, refl)

no_data : (place : Place) (b : ℕ) → ((left : ℕ) → place ≡ Data left → ⊥) → data_at place b ≡ []
no_data (Size digits size) b h = refl
no_data (Extension count size) b h = refl
no_data (LineEnd size) b h = refl
no_data (Data left) b h = absurd (h left refl)
no_data DataReturn b h = refl
no_data DataEnd b h = refl
no_data (Trailers taken) b h = refl
no_data (Trailer taken) b h = refl
no_data (TrailerEnd taken) b h = refl
no_data LastEnd b h = refl

pub byte_turn : (place : Place) (room b : ℕ) (held held' body : List ℕ) (s : Step) → ((left : ℕ) → place ≡ Data left → ⊥)
    → held ≡ b ∷ held' → s ≡ step place room b → IsStep place room s → IsTurn place room held held' body body s
byte_turn place room b held held' body s h e f is = (b ∷ [], e, byte_reached place room b body (no_data place b h) s (sym f) is)

-- the bytes of the stream b that were taken lead to this place, with this body
abbrev pub Reads : ℕ → List ℕ → List ℕ → Option (List ℕ) → List ℕ → Place → ℕ → Type 0
Reads most b held left body place room = (taken rest : List ℕ) × IsStream held left rest × (b ≡ taken ++ rest) × (read most taken ≡ open_at body place room)

pub begins : (most : ℕ) (b held : List ℕ) (left : Option (List ℕ)) → IsStream held left b → Reads most b held left [] (Size 0 0) most
begins most b held left s = ([], b, s, refl, refl)

pub holds : (most : ℕ) (b held held' : List ℕ) (left left' : Option (List ℕ)) (body : List ℕ) (p : Place) (r : ℕ) → ((c : List ℕ) → IsStream held left c → IsStream held' left' c)
    → Reads most b held left body p r → Reads most b held' left' body p r
holds most b held held' left left' body p r keeps h = (h.0, h.1, keeps h.1 h.2, h.3, h.4)

-- what was taken in a turn, behind what was taken before
behind_turn : (taken rest held held' more b rest' : List ℕ) → b ≡ taken ++ rest → rest ≡ held ++ rest' → held ≡ more ++ held'
    → b ≡ (taken ++ more) ++ (held' ++ rest')
behind_turn taken rest held held' more b rest' e f h =
    e ∙ ap (λ (z : List ℕ). taken ++ z) (f ∙ ap (λ (z : List ℕ). z ++ rest') h ∙ append_assoc more held' rest') ∙ sym (append_assoc taken more (held' ++ rest'))

pub next_turn : (most : ℕ) (b held held' body body' : List ℕ) (left : Option (List ℕ)) (p p' : Place) (r r' : ℕ) → Reads most b held left body p r
    → IsTurn p r held held' body body' (Next p' r') → Reads most b held' left body' p' r'
next_turn most b held held' body body' left p p' r r' h t =
    let reached = t.2 in
    let read_more : read most (h.0 ++ t.0) ≡ open_at body' p' r' =
    after most h.0 t.0 (open_at body p r) h.4 ∙ ap (carry body) reached.1 ∙ ap (λ (z : List ℕ). open_at z p' r') (sym reached.2) in
    (h.0 ++ t.0, held' ++ h.2.0, (h.2.0, h.2.1, refl), behind_turn h.0 h.1 held held' t.0 b h.2.0 h.3 h.2.2 t.1, read_more)

-- the same where the turn ends the reading
read_to : (most : ℕ) (b held held' body : List ℕ) (left : Option (List ℕ)) (p : Place) (r : ℕ) (t : Trace) (h : Reads most b held left body p r) (more : List ℕ) → held ≡ more ++ held'
    → trace p r more ≡ t → read most b ≡ resume (carry body t) (held' ++ h.2.0)
read_to most b held held' body left p r t h more e f =
    ap (read most) (behind_turn h.0 h.1 held held' more b h.2.0 h.3 h.2.2 e)
    ∙ after most (h.0 ++ more) (held' ++ h.2.0) (carry body t) (after most h.0 more (open_at body p r) h.4 ∙ ap (carry body) f)

pub done_turn : (most : ℕ) (b held held' body body' : List ℕ) (left : Option (List ℕ)) (p : Place) (r : ℕ) → Reads most b held left body p r
    → IsTurn p r held held' body body' Done → TakesWithin most Chunked b held' left (Ok body')
done_turn most b held held' body body' left p r h t =
    let whole : read most b ≡ ended (Some body') (held' ++ h.2.0) =
    read_to most b held held' body left p r (ended (Some []) []) h t.0 t.1 t.2.0
    ∙ ap (λ (z : List ℕ). ended (Some z) (held' ++ h.2.0)) (append-nil body ∙ sym t.2.1) in
    (held' ++ h.2.0, read_whole most b body' (held' ++ h.2.0) whole, (h.2.0, h.2.1, refl))

pub broken_turn : (most : ℕ) (b held held' body body' : List ℕ) (left : Option (List ℕ)) (p : Place) (r : ℕ) → Reads most b held left body p r
    → IsTurn p r held held' body body' Broken → IsChunkedRefused most b BadBody
broken_turn most b held held' body body' left p r h t = broken refl (read_broken most b (read_to most b held held' body left p r broke h t.0 t.1 t.2))

pub long_turn : (most : ℕ) (b held held' body body' : List ℕ) (left : Option (List ℕ)) (p : Place) (r : ℕ) → Reads most b held left body p r
    → IsTurn p r held held' body body' Long → IsChunkedRefused most b BodyTooLong
long_turn most b held held' body body' left p r h t =
    long refl (read_long most b (held' ++ h.2.0) (read_to most b held held' body left p r (ended None []) h t.0 t.1 t.2))

cut : (most : ℕ) (taken body : List ℕ) (p : Place) (r : ℕ) → read most taken ≡ open_at body p r → IsChunkedRefused most taken Truncated
cut most taken body p r e = let unfinished = read_open most taken body p r e in cut_off refl unfinished.0 unfinished.1

-- the stream ended
pub ends_here : (most : ℕ) (b held body : List ℕ) (left : Option (List ℕ)) (p : Place) (r : ℕ) → Reads most b held left body p r → held ≡ []
    → ((rest : List ℕ) → left ≡ Some rest → rest ≡ []) → IsChunkedRefused most b Truncated
ends_here most b held body left p r h none end =
    let rest : h.1 ≡ [] = h.2.2 ∙ ap (λ (z : List ℕ). z ++ h.2.0) none ∙ end h.2.0 h.2.1 in
    subst (λ (z : List ℕ). IsChunkedRefused most z Truncated) (sym (h.3 ∙ ap (λ (z : List ℕ). h.0 ++ z) rest ∙ append-nil h.0)) (cut most h.0 body p r h.4)

-- the source failed
pub fails_here : (most : ℕ) (b held body : List ℕ) (left : Option (List ℕ)) (p : Place) (r : ℕ) → Reads most b held left body p r → held ≡ []
    → TakesWithin most Chunked b held left (Err ReadFault)
fails_here most b held body left p r h none =
    let rest : h.1 ≡ h.2.0 = h.2.2 ∙ ap (λ (z : List ℕ). z ++ h.2.0) none in
    (h.0, (h.2.0, h.2.1, h.3 ∙ ap (λ (z : List ℕ). h.0 ++ z) rest), cut most h.0 body p r h.4)
