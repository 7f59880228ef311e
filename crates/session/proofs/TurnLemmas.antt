-- Turns stay right where the journals go on, and one more turn.
use Rattle.std.proofs.Common.{◌≡◌, ℕ, ◌≤◌, ◌<◌, Bool, false, List, [], ◌∷◌, ◌++◌, length, take, Option, Some, None, slice_get, refl, sym, ◌∙◌, ap, subst, inl, inr, append_assoc, append-nil, arith}
use Rattle.journal.specs.declared.entry.Entry.{Entry}
use Rattle.journal.specs.declared.entry.Mark.{Mark}
use Rattle.journal.specs.declared.reply.Reply.{Reply}
use Rattle.journal.specs.declared.limits.Limits.{Limits}
use Rattle.std.specs.Option.{option_map}
use Rattle.std.proofs.lemmas.Option.{slice_get_within}
use Rattle.journal.specs.declared.reply.Reply.TheVariants.{Conflict}
use Rattle.journal.specs.Journal.{reply_at, reply_next}
use Rattle.journal.specs.Laws.{ReplyReadsNoLaterEntry}
use Rattle.http_frame.specs.Messages.{SeenRequest, SeenResponse}
use Rattle.api_calls.specs.Calls.{entries_of}
use Rattle.api_calls.specs.declared.call.Call.{Call}
use Rattle.api_calls.specs.declared.call.Call.TheVariants.{Protocol, Repositories, On}
use Rattle.session.specs.Marks.{Journals, Begins, AllBegin, Below, Moves, places_in}
use Rattle.session.specs.Turns.{Ground, StandAt, IsPart, IsReply, IsUnchanging, AreUnchanging, IsAnswer, IsRight, IsTurn, StaysFull, Turns, turn_marks, turn_text}
use Rattle.session.specs.declared.report.Turn.{Turn}
use Rattle.session.specs.declared.report.Outcome.{Outcome}
use Rattle.session.specs.declared.report.Outcome.TheVariants.{Answered, FormRefused, JournalFull, NoMemory}
use Rattle.session.proofs.MarkLemmas.{begins_longer, full_stays, get_later, places_in_more}

-- the same ground, with journals that go on
abbrev pub later : Ground → Journals → Ground
later g js = record { names = g.names; limits = g.limits; journals = js; seats = g.seats }

pub stand_later : (a b : List Entry) (places : List ℕ) (es : List Entry) → Begins a b → StandAt a places es → StandAt b places es
stand_later a b [] [] h s = s
stand_later a b [] (e ∷ es) h s = s
stand_later a b (k ∷ ks) [] h s = s
stand_later a b (k ∷ ks) (e ∷ es) h s = (get_later a b k e h s.0, stand_later a b ks es h s.1)

pub stand_more : (a : List Entry) (places : List ℕ) (es : List Entry) (k : ℕ) (e : Entry) → StandAt a places es → StandAt a (k ∷ []) (e ∷ [])
    → StandAt a (places ++ k ∷ []) (es ++ e ∷ [])
stand_more a [] [] k e s t = t
stand_more a [] (x ∷ es) k e s t = absurd s
stand_more a (p ∷ places) [] k e s t = absurd s
stand_more a (p ∷ places) (x ∷ es) k e s t = (s.0, stand_more a places es k e s.1 t)

-- a reply that stands in a journal stays where the journal goes on
pub reply_later : ReplyReadsNoLaterEntry → (limits : Limits) (a b : List Entry) (k : ℕ) (x : Reply) → Begins a b → reply_at limits a k ≡ Some x
    → reply_at limits b k ≡ Some x
unfolding reply_at
reply_later law limits a b k x h r =
    ap (λ (z : List Entry). reply_at limits z k) h.1 ∙ law limits a h.0 k (within (slice_get a k) refl r) ∙ r where
      within : (o : Option Entry) → slice_get a k ≡ o → option_map (reply_next limits (take k a)) o ≡ Some x → k < length a
      within None s p = cc
      within (Some e) s p = slice_get_within a k e s

is_reply_later : ReplyReadsNoLaterEntry → (g : Ground) (js : Journals) (repo : ℕ) (places : List ℕ) (x : Reply) → AllBegin g.journals js
    → IsReply g repo places x → IsReply (later g js) repo places x
is_reply_later law g js repo places x h r = record {
  before = r.before;
  last = r.last;
  places_are = r.places_are;
  replied = reply_later law g.limits (g.journals repo) (js repo) r.last x (h repo) r.replied;
}

answer_later : ReplyReadsNoLaterEntry → (g : Ground) (js : Journals) (repo : ℕ) (c : Call) (places : List ℕ) (it : SeenResponse) → AllBegin g.journals js
    → IsAnswer g repo c places it → IsAnswer (later g js) repo c places it
answer_later law g js repo Protocol places it h a = a
answer_later law g js repo (Repositories form) places it h a = a
answer_later law g js repo (On id op form) places it h a = (a.0, is_reply_later law g js repo places a.0 h a.1, a.2)

pub part_later : (g : Ground) (js : Journals) (repo : ℕ) (c : Call) (places : List ℕ) (left : List Entry) → AllBegin g.journals js
    → IsPart g repo c places left → IsPart (later g js) repo c places left
part_later g js repo c places left h p =
    record { made = p.made; stand = stand_later (g.journals repo) (js repo) places p.made (h repo) p.stand; parts = p.parts }

pub unchanging_later : ReplyReadsNoLaterEntry → (g : Ground) (js : Journals) (repo : ℕ) (places : List ℕ) (es : List Entry) → AllBegin g.journals js
    → AreUnchanging g repo places es → AreUnchanging (later g js) repo places es
unchanging_later law g js repo [] [] h u = u
unchanging_later law g js repo [] (e ∷ es) h u = absurd u
unchanging_later law g js repo (k ∷ ks) [] h u = absurd u
unchanging_later law g js repo (k ∷ ks) (e ∷ es) h u = (one u.0, unchanging_later law g js repo ks es h u.1) where
  one : IsUnchanging g repo k e → IsUnchanging (later g js) repo k e
  one x = elim x [
    | inl asks ↦ inl asks
    | inr c ↦ inr (c.0, c.1, reply_later law g.limits (g.journals repo) (js repo) k (Conflict c.0 c.1) (h repo) c.2)
  ]

pub right_later : ReplyReadsNoLaterEntry → (g : Ground) (js : Journals) (r : SeenRequest) (repo : ℕ) (outcome : Outcome) (places : List ℕ) (it : SeenResponse)
    → AllBegin g.journals js → IsRight g r repo outcome places it → IsRight (later g js) r repo outcome places it
unfolding part_later
right_later law g js r repo FormRefused places it h x = x
right_later law g js r repo Answered places it h x =
    let c = x.0 in
    (c, x.1, x.2, stand_later (g.journals repo) (js repo) places (entries_of c (g.seats repo)) (h repo) x.3, answer_later law g js repo c places it h x.4)
right_later law g js r repo JournalFull places it h x =
    let c = x.0 in
    (c, x.1, x.2, x.3, part_later g js repo c places x.3 h x.4, x.5, omega (arith, x.6, begins_longer (g.journals repo) (js repo) (h repo)), x.7)
right_later law g js r repo NoMemory places it h x = (
  x.0,
  elim x.1 [
    | inl f ↦ inl f
    | inr y ↦ inr (y.0, y.1, y.2, y.3, part_later g js repo y.0 places y.3 h y.4, unchanging_later law g js repo places y.4.made h y.5)
  ],
)

pub turn_later : ReplyReadsNoLaterEntry → (g : Ground) (js : Journals) (b : List ℕ) (t : Turn) → AllBegin g.journals js → IsTurn g b t → IsTurn (later g js) b t
turn_later law g js b t h one = record {
  request = one.request;
  rest = one.rest;
  repo = one.repo;
  places = one.places;
  answer = one.answer;
  is_request = one.is_request;
  count = one.count;
  right = right_later law g js one.request one.repo t.outcome one.places one.answer h one.right;
}

-- the turns stay right where the journals go on
pub turns_later : ReplyReadsNoLaterEntry → (g : Ground) (js : Journals) (was : Bool) (b : List ℕ) (ts : List Turn) (marks : List Mark) (text : List ℕ)
    (closed : Bool) (rest : List ℕ) → AllBegin g.journals js → Turns g was b ts marks text closed rest → Turns (later g js) was b ts marks text closed rest
unfolding turn_later
turns_later law g js was b [] marks text closed rest h x = x
turns_later law g js was b (t ∷ ts) marks text closed rest h x =
    let one = x.1 in
    (x.0, turn_later law g js b t h one, x.2, x.3, x.4, x.5, x.6, turns_later law g js one.request.head.closes one.rest ts x.2 x.3 closed rest h x.7)

-- behind a turn that met a full journal no mark is made there
stays_more : (outcome : Outcome) (repo : ℕ) (marks mine : List Mark) → StaysFull outcome repo marks → (outcome ≡ JournalFull → places_in repo mine ≡ [])
    → StaysFull outcome repo (marks ++ mine)
stays_more Answered repo marks mine s n = tt
stays_more FormRefused repo marks mine s n = tt
stays_more JournalFull repo marks mine s n =
    places_in_more repo marks mine ∙ ap (λ (z : List ℕ). z ++ places_in repo mine) s ∙ n refl
stays_more NoMemory repo marks mine s n = tt

-- where a turn met a full journal, that one was full
full_of : (g : Ground) (r : SeenRequest) (repo : ℕ) (outcome : Outcome) (places : List ℕ) (it : SeenResponse) → IsRight g r repo outcome places it
    → outcome ≡ JournalFull → g.limits.places ≤ length (g.journals repo)
full_of g r repo Answered places it x e = cc
full_of g r repo FormRefused places it x e = cc
full_of g r repo JournalFull places it x e = x.6
full_of g r repo NoMemory places it x e = cc

-- One more turn, whose marks are behind these journals and below the limit.
pub turns_more : ReplyReadsNoLaterEntry → (g : Ground) (js : Journals) (was : Bool) (b : List ℕ) (ts : List Turn) (marks : List Mark) (text rest : List ℕ)
    (t : Turn) → Turns g was b ts marks text false rest → (one : IsTurn (later g js) rest t) → Moves g.seats g.journals js (turn_marks one)
    → Below g.limits.places (turn_marks one) → AllBegin g.journals js
    → Turns (later g js) was b (ts ++ t ∷ []) (marks ++ turn_marks one) (text ++ turn_text one) one.request.head.closes one.rest
unfolding turn_later
turns_more law g js was b [] marks text rest t x one moves below h =
    let last : Turns (later g js) was rest (t ∷ []) (marks ++ turn_marks one) (text ++ turn_text one) one.request.head.closes one.rest = (
      sym x.2,
      one,
      [],
      [],
      ap (λ (z : List Mark). z ++ turn_marks one) x.0 ∙ sym (append-nil (turn_marks one)),
      ap (λ (z : List ℕ). z ++ turn_text one) x.1 ∙ sym (append-nil (turn_text one)),
      stays t.outcome,
      (refl, refl, refl, refl),
    ) in
    subst (λ (z : List ℕ). Turns (later g js) was z (t ∷ []) (marks ++ turn_marks one) (text ++ turn_text one) one.request.head.closes one.rest) x.3 last where
      stays : (o : Outcome) → StaysFull o one.repo []
      stays Answered = tt
      stays FormRefused = tt
      stays JournalFull = refl
      stays NoMemory = tt
turns_more law g js was b (u ∷ ts) marks text rest t x one moves below h =
    let first = x.1 in (
      x.0,
      turn_later law g js b u h first,
      x.2 ++ turn_marks one,
      x.3 ++ turn_text one,
      ap (λ (z : List Mark). z ++ turn_marks one) x.4 ∙ append_assoc (turn_marks first) x.2 (turn_marks one),
      ap (λ (z : List ℕ). z ++ turn_text one) x.5 ∙ append_assoc (turn_text first) x.3 (turn_text one),
      stays_more u.outcome first.repo x.2 (turn_marks one) x.6 (λ e.
          full_stays g.limits.places (g.seats first.repo) first.repo (g.journals first.repo) (js first.repo) (turn_marks one)
          (full_of g first.request first.repo u.outcome first.places first.answer first.right e) (moves first.repo) below),
      turns_more law g js first.request.head.closes first.rest ts x.2 x.3 rest t x.7 one moves below h,
    )
