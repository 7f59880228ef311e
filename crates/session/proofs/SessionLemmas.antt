-- A session, step by step.
use Rattle.std.proofs.Common.{◌≡◌, ℕ, ◌+◌, ◌≤◌, ◌<◌, Bool, true, false, List, [], ◌∷◌, ◌++◌, length, Option, refl, sym, ◌∙◌, ap, subst, inl, inr, append-nil, length-append, arith}
use Rattle.journal.specs.declared.entry.Mark.{Mark}
use Rattle.journal.specs.declared.limits.Limits.{Limits}
use Rattle.journal.specs.Laws.{ReplyReadsNoLaterEntry}
use Rattle.http_frame.specs.Streams.{IsStream}
use Rattle.session.specs.Ends.{Ends, IsSession}
use Rattle.session.specs.Marks.{Journals, AllBegin, Below, Moves}
use Rattle.rdf_io.specs.Sending.{Puts, IsPartOf}
use Rattle.session.specs.Steps.{IsStop, IsStep, Marked}
use Rattle.session.specs.Turns.{ground, IsTurn, Turns, turn_marks, turn_text}
use Rattle.session.specs.declared.report.SessionEnd.{SessionEnd}
use Rattle.session.specs.declared.report.SessionEnd.TheVariants.{Done, Refused, ReadFault, WriteFault, Limit, Memory}
use Rattle.session.specs.declared.report.Turn.{Turn}
use Rattle.session.specs.declared.requests.Step.{Step}
use Rattle.session.specs.declared.requests.Step.TheVariants.{Answered, Closed, Lost, Stopped}
use Rattle.session.proofs.MarkLemmas.{moves_more, all_begin}
use Rattle.rdf_io.proofs.SendLemmas.{puts_none, puts_more}
use Rattle.session.proofs.StopLemmas.{part_behind}
use Rattle.session.proofs.TurnLemmas.{turns_later, turns_more}

pub moves_step : (most : ℕ) (seats : ℕ → ℕ) (a b c : Journals) (xs xs' : List Mark) → Moves seats a b xs → Marked most seats b c xs xs' → Moves seats a c xs'
moves_step most seats a b c xs xs' m s = subst (λ (z : List Mark). Moves seats a c z) (sym s.1) (moves_more seats a b c xs s.0 m s.2)

pub begins_step : (most : ℕ) (seats : ℕ → ℕ) (b c : Journals) (xs xs' : List Mark) → Marked most seats b c xs xs' → AllBegin b c
begins_step most seats b c xs xs' s = all_begin seats b c s.0 s.2

same_behind : (xs ys zs : List Mark) → xs ++ ys ≡ xs ++ zs → ys ≡ zs
same_behind [] ys zs e = e
same_behind (x ∷ xs) ys zs e = same_behind xs ys zs (rest e) where
  rest : x ∷ (xs ++ ys) ≡ x ∷ (xs ++ zs) → xs ++ ys ≡ xs ++ zs
  rest p = cc

-- the new marks are these
marked_as : (most : ℕ) (seats : ℕ → ℕ) (b c : Journals) (xs xs' mine : List Mark) → Marked most seats b c xs xs' → xs' ≡ xs ++ mine
    → Moves seats b c mine × Below most mine
marked_as most seats b c xs xs' mine s e =
    let same : s.0 ≡ mine = same_behind xs s.0 mine (sym s.1 ∙ e) in
    (subst (λ (z : List Mark). Moves seats b c z) same s.2, subst (λ (z : List Mark). Below most z) same s.3)

-- n requests were answered, and these are their turns
pub record SoFar (names : List (List ℕ)) (limits : Limits) (seats : ℕ → ℕ) (b : List ℕ) (now : Journals) (turns : List Turn) (marks : List Mark) (n : ℕ)
    (taken taken' : Option (List ℕ)) (held : List ℕ) (left : Option (List ℕ)) : Type 0 where
  pub text : List ℕ
  pub rest : List ℕ
  pub stream : IsStream held left rest
  pub put : Puts taken taken' text
  pub all : Turns (ground names limits now seats) false b turns marks text false rest
  pub count : length turns ≡ n

pub so_far_none : (names : List (List ℕ)) (limits : Limits) (seats : ℕ → ℕ) (b : List ℕ) (now : Journals) (turns : List Turn) (marks : List Mark)
    (taken : Option (List ℕ)) (held : List ℕ) (left : Option (List ℕ)) → IsStream held left b → turns ≡ [] → marks ≡ []
    → SoFar names limits seats b now turns marks 0 taken taken held left
so_far_none names limits seats b now turns marks taken held left s e f = record {
  text = [];
  rest = b;
  stream = s;
  put = puts_none taken;
  all = subst (λ (z : List Turn). Turns (ground names limits now seats) false b z marks [] false b) (sym e) (f, refl, refl, refl);
  count = ap length e;
}

-- what one step does
abbrev pub Stepping : List (List ℕ) → Limits → Journals → List Turn → List Turn → List Mark → List Mark → Option (List ℕ) → Option (List ℕ) → List ℕ → Option (List ℕ)
    → List ℕ → Option (List ℕ) → Step → (ℕ → ℕ) → Type 0
Stepping names limits new turns turns' marks marks' taken taken' held left held' left' step seats =
    (b : List ℕ) → IsStream held left b → (text : List ℕ) × Puts taken taken' text
    × IsStep (ground names limits new seats) b turns turns' marks marks' text held' left' step

-- one more turn
turns_with : ReplyReadsNoLaterEntry → (names : List (List ℕ)) (limits : Limits) (seats : ℕ → ℕ) (b : List ℕ) (now new : Journals) (turns : List Turn)
    (marks marks' : List Mark) (n : ℕ) (taken taken' : Option (List ℕ)) (held : List ℕ) (left : Option (List ℕ)) (t : Turn)
    → (s : SoFar names limits seats b now turns marks n taken taken' held left) → Marked limits.places seats now new marks marks'
    → (one : IsTurn (ground names limits new seats) s.rest t) → marks' ≡ marks ++ turn_marks one
    → Turns (ground names limits new seats) false b (turns ++ t ∷ []) (marks ++ turn_marks one) (s.text ++ turn_text one) one.request.head.closes one.rest
turns_with law names limits seats b now new turns marks marks' n taken taken' held left t s m one e =
    let mine = marked_as limits.places seats now new marks marks' (turn_marks one) m e in
    turns_more law (ground names limits now seats) new false b turns marks s.text s.rest t s.all one mine.0 mine.1
    (begins_step limits.places seats now new marks marks' m)

pub so_far_more : ReplyReadsNoLaterEntry → (names : List (List ℕ)) (limits : Limits) (seats : ℕ → ℕ) (b : List ℕ) (now new : Journals) (turns turns' : List Turn)
    (marks marks' : List Mark) (n : ℕ) (taken taken' taken'' : Option (List ℕ)) (held held' : List ℕ) (left left' : Option (List ℕ))
    → SoFar names limits seats b now turns marks n taken taken' held left → Marked limits.places seats now new marks marks'
    → Stepping names limits new turns turns' marks marks' taken' taken'' held left held' left' Answered seats
    → SoFar names limits seats b new turns' marks' (n + 1) taken taken'' held' left'
so_far_more law names limits seats b now new turns turns' marks marks' n taken taken' taken'' held held' left left' s m step =
    let done = step s.rest s.stream in
    let x = done.2 in
    let one = x.1 in
    let g = ground names limits new seats in
    let more = turns_with law names limits seats b now new turns marks marks' n taken taken' held left x.0 s m one x.3 in
    let open_yet : Turns g false b (turns ++ x.0 ∷ []) (marks ++ turn_marks one) (s.text ++ turn_text one) false one.rest =
    subst (λ (z : Bool). Turns g false b (turns ++ x.0 ∷ []) (marks ++ turn_marks one) (s.text ++ turn_text one) z one.rest) x.5 more in
    record {
      text = s.text ++ done.0;
      rest = one.rest;
      stream = x.6;
      put = puts_more taken taken' taken'' s.text done.0 s.put done.1;
      all = rw (x.2, x.3, x.4) open_yet;
      count = omega (arith, ap length x.2, length-append turns (x.0 ∷ []), s.count);
    }

abbrev pub RanTo : List (List ℕ) → Limits → (ℕ → ℕ) → List ℕ → Option (List ℕ) → Journals → List Turn → List Mark → Option (List ℕ) → Option (List ℕ) → SessionEnd → Type 0
RanTo names limits seats b left new turns marks taken taken' end =
    (text : List ℕ) × Puts taken taken' text × IsSession (ground names limits new seats) b left end turns marks text

ends_of : (end : SessionEnd) (turns : List Turn) (body rest part : List ℕ) (left : Option (List ℕ)) → length turns < 100000 → IsStop rest left end part
    → Ends turns body false rest left end (body ++ part)
ends_of Done turns body rest part left few x = (ap (λ (z : List ℕ). body ++ z) x.1 ∙ append-nil body, few, x.0)
ends_of Refused turns body rest part left few x = (refl, few, part, x, refl)
ends_of ReadFault turns body rest part left few x = (refl, few, part, x, refl)
ends_of WriteFault turns body rest part left few x = inr (refl, few, x.0, x.1, part_behind body part x.0 x.2)
ends_of Memory turns body rest part left few x = (refl, few, inr (part, x, refl))
ends_of Limit turns body rest part left few x = absurd x

pub session_stopped : ReplyReadsNoLaterEntry → (names : List (List ℕ)) (limits : Limits) (seats : ℕ → ℕ) (b : List ℕ) (now new : Journals) (turns turns' : List Turn)
    (marks marks' : List Mark) (n : ℕ) (taken taken' taken'' : Option (List ℕ)) (held held' : List ℕ) (left left' : Option (List ℕ)) (end : SessionEnd)
    → n < 100000 → SoFar names limits seats b now turns marks n taken taken' held left → Marked limits.places seats now new marks marks'
    → Stepping names limits new turns turns' marks marks' taken' taken'' held left held' left' (Stopped end) seats
    → RanTo names limits seats b left' new turns' marks' taken taken'' end
session_stopped law names limits seats b now new turns turns' marks marks' n taken taken' taken'' held held' left left' end few s m step =
    let done = step s.rest s.stream in
    let x = done.2 in
    let all = turns_later law (ground names limits now seats) new false b turns marks s.text false s.rest (begins_step limits.places seats now new marks marks' m) s.all in
    let few' : length turns' < 100000 = omega (arith, few, s.count, ap length x.0) in (
      s.text ++ done.0,
      puts_more taken taken' taken'' s.text done.0 s.put done.1,
      record { body = s.text; closed = false; rest = s.rest; all = rw (x.0, x.1) all; ends = ends_of end turns' s.text s.rest done.0 left' few' x.2 },
    )

pub session_closed : ReplyReadsNoLaterEntry → (names : List (List ℕ)) (limits : Limits) (seats : ℕ → ℕ) (b : List ℕ) (now new : Journals) (turns turns' : List Turn)
    (marks marks' : List Mark) (n : ℕ) (taken taken' taken'' : Option (List ℕ)) (held held' : List ℕ) (left left' : Option (List ℕ))
    → n < 100000 → SoFar names limits seats b now turns marks n taken taken' held left → Marked limits.places seats now new marks marks'
    → Stepping names limits new turns turns' marks marks' taken' taken'' held left held' left' Closed seats
    → RanTo names limits seats b left' new turns' marks' taken taken'' Done
session_closed law names limits seats b now new turns turns' marks marks' n taken taken' taken'' held held' left left' few s m step =
    let done = step s.rest s.stream in
    let x = done.2 in
    let one = x.1 in
    let g = ground names limits new seats in
    let more = turns_with law names limits seats b now new turns marks marks' n taken taken' held left x.0 s m one x.3 in
    let ended : Turns g false b (turns ++ x.0 ∷ []) (marks ++ turn_marks one) (s.text ++ turn_text one) true one.rest =
    subst (λ (z : Bool). Turns g false b (turns ++ x.0 ∷ []) (marks ++ turn_marks one) (s.text ++ turn_text one) z one.rest) x.5 more in (
      s.text ++ done.0,
      puts_more taken taken' taken'' s.text done.0 s.put done.1,
      record {
        body = s.text ++ done.0;
        closed = true;
        rest = one.rest;
        all = rw (x.2, x.3, x.4) ended;
        ends = (refl, omega (arith, few, s.count, ap length x.2, length-append turns (x.0 ∷ [])));
      },
    )

pub session_lost : ReplyReadsNoLaterEntry → (names : List (List ℕ)) (limits : Limits) (seats : ℕ → ℕ) (b : List ℕ) (now new : Journals) (turns turns' : List Turn)
    (marks marks' : List Mark) (n : ℕ) (taken taken' taken'' : Option (List ℕ)) (held held' : List ℕ) (left left' : Option (List ℕ))
    → n < 100000 → SoFar names limits seats b now turns marks n taken taken' held left → Marked limits.places seats now new marks marks'
    → Stepping names limits new turns turns' marks marks' taken' taken'' held left held' left' Lost seats
    → RanTo names limits seats b left' new turns' marks' taken taken'' WriteFault
session_lost law names limits seats b now new turns turns' marks marks' n taken taken' taken'' held held' left left' few s m step =
    let done = step s.rest s.stream in
    let x = done.2 in
    let one = x.1 in
    let more = turns_with law names limits seats b now new turns marks marks' n taken taken' held left x.0 s m one x.3 in
    let count : length turns' ≤ 100000 = omega (arith, few, s.count, ap length x.2, length-append turns (x.0 ∷ [])) in (
      s.text ++ done.0,
      puts_more taken taken' taken'' s.text done.0 s.put done.1,
      record {
        body = s.text ++ turn_text one;
        closed = one.request.head.closes;
        rest = one.rest;
        all = rw (x.2, x.3) more;
        ends = lost turns' (s.text ++ turn_text one) one.rest (s.text ++ done.0) one.request.head.closes count (part_behind s.text done.0 (turn_text one) x.4);
      },
    ) where
      lost : (ts : List Turn) (body rest text : List ℕ) (closed : Bool) → length ts ≤ 100000 → IsPartOf text body → Ends ts body closed rest left' WriteFault text
      lost ts body rest text closed c p = inl (c, p)

pub session_limit : (names : List (List ℕ)) (limits : Limits) (seats : ℕ → ℕ) (b : List ℕ) (now : Journals) (turns : List Turn) (marks : List Mark) (n : ℕ)
    (taken taken' : Option (List ℕ)) (held : List ℕ) (left : Option (List ℕ)) → n ≡ 100000 → SoFar names limits seats b now turns marks n taken taken' held left
    → RanTo names limits seats b left now turns marks taken taken' Limit
session_limit names limits seats b now turns marks n taken taken' held left all s =
    (s.text, s.put, record { body = s.text; closed = false; rest = s.rest; all = s.all; ends = (refl, refl, s.count ∙ all) })

-- nothing was served
pub session_none : (names : List (List ℕ)) (limits : Limits) (seats : ℕ → ℕ) (b : List ℕ) (left : Option (List ℕ)) (now : Journals) (turns : List Turn) (marks : List Mark)
    (taken : Option (List ℕ)) → turns ≡ [] → marks ≡ [] → RanTo names limits seats b left now turns marks taken taken Memory
session_none names limits seats b left now turns marks taken e f = (
  [],
  puts_none taken,
  record {
    body = [];
    closed = false;
    rest = b;
    all = subst (λ (z : List Turn). Turns (ground names limits now seats) false b z marks [] false b) (sym e) (f, refl, refl, refl);
    ends = (refl, omega (arith, ap length e), inl (e, refl));
  },
)
