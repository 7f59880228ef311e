-- Reports, one after another.
use Rattle.std.proofs.Common.{◌≡◌, ℕ, ◌+◌, Bool, true, false, List, [], ◌∷◌, ◌++◌, length, Option, Some, refl, sym, ◌∙◌, ap, subst, append_assoc, append-nil, arith}
use Rattle.std.specs.List.{flat_map}
use Rattle.std.proofs.lemmas.Grind.{flat_map-append}
use Rattle.journal.specs.declared.entry.Mark.{Mark}
use Rattle.journal.specs.declared.limits.Limits.{Limits}
use Rattle.journal.specs.Laws.{ReplyReadsNoLaterEntry}
use Rattle.rdf_io.specs.Doors.{Link, GivesFirst, StartsEmpty, HandsBack}
use Rattle.session.specs.Causes.{source_broke}
use Rattle.session.specs.Ends.{IsSession}
use Rattle.session.specs.Marks.{Journals, AllBegin, Moves}
use Rattle.rdf_io.specs.Sending.{Puts}
use Rattle.session.specs.Turns.{Ground, ground}
use Rattle.session.specs.declared.report.SessionEnd.{SessionEnd}
use Rattle.session.specs.declared.report.SessionReport.{SessionReport}
use Rattle.session.specs.declared.report.Turn.{Turn}
use Rattle.session.proofs.MarkLemmas.{moves_more}
use Rattle.session.proofs.TurnLemmas.{later, turns_later}
use Rattle.worker_pool.specs.Doors.{IsServed, AreServed, Doored, all_marks}
use Rattle.worker_pool.specs.Nexts.{Linked}

-- a report stays right where the journals go on
served_later : ReplyReadsNoLaterEntry → (g : Ground) (js : Journals) (l : Link) (r : SessionReport) (w : List ℕ) → AllBegin g.journals js
    → IsServed g l r w → IsServed (later g js) l r w
served_later law g js l r w h s = record {
  left = s.left;
  session = record {
    body = s.session.body;
    closed = s.session.closed;
    rest = s.session.rest;
    all = turns_later law g js false l.bytes r.turns.items r.marks.items s.session.body s.session.closed s.session.rest h s.session.all;
    ends = s.session.ends;
  };
  sound = s.sound;
}

all_later : ReplyReadsNoLaterEntry → (g : Ground) (js : Journals) (ls : List Link) (rs : List SessionReport) (ws : List (List ℕ)) → AllBegin g.journals js
    → AreServed g ls rs ws → AreServed (later g js) ls rs ws
all_later law g js [] [] [] h s = tt
all_later law g js (l ∷ ls) (r ∷ rs) (w ∷ ws) h s = (served_later law g js l r w h s.0, all_later law g js ls rs ws h s.1)
all_later law g js [] [] (w ∷ ws) h s = absurd s
all_later law g js [] (r ∷ rs) ws h s = absurd s
all_later law g js (l ∷ ls) [] ws h s = absurd s
all_later law g js (l ∷ ls) (r ∷ rs) [] h s = absurd s

all_more : (g : Ground) (ls : List Link) (rs : List SessionReport) (ws : List (List ℕ)) (l : Link) (r : SessionReport) (w : List ℕ)
    → AreServed g ls rs ws → IsServed g l r w → AreServed g (ls ++ l ∷ []) (rs ++ r ∷ []) (ws ++ w ∷ [])
all_more g [] [] [] l r w s x = (x, tt)
all_more g (k ∷ ls) (q ∷ rs) (v ∷ ws) l r w s x = (s.0, all_more g ls rs ws l r w s.1 x)
all_more g [] [] (v ∷ ws) l r w s x = absurd s
all_more g [] (q ∷ rs) ws l r w s x = absurd s
all_more g (k ∷ ls) [] ws l r w s x = absurd s
all_more g (k ∷ ls) (q ∷ rs) [] l r w s x = absurd s

pub moves_report : (seats : ℕ → ℕ) (a b c : Journals) (rs rs' : List SessionReport) (r : SessionReport) → Moves seats a b (all_marks rs) → Moves seats b c r.marks.items
    → rs' ≡ rs ++ r ∷ [] → Moves seats a c (all_marks rs')
moves_report seats a b c rs rs' r m n e =
    let marks_are : all_marks rs' ≡ all_marks rs ++ r.marks.items =
    ap all_marks e ∙ flat_map-append (λ (x : SessionReport). x.marks.items) rs (r ∷ []) ∙ ap (λ (z : List Mark). all_marks rs ++ z) (append-nil r.marks.items) in
    subst (λ (z : List Mark). Moves seats a c z) (sym marks_are) (moves_more seats a b c (all_marks rs) r.marks.items m n)

pub moves_same : (seats : ℕ → ℕ) (a b b' : Journals) (rs rs' : List SessionReport) → b' ≡ b → rs' ≡ rs → Moves seats a b (all_marks rs) → Moves seats a b' (all_marks rs')
moves_same seats a b b' rs rs' e f m =
    subst (λ (js : Journals). Moves seats a js (all_marks rs')) (sym e) (subst (λ (z : List SessionReport). Moves seats a b (all_marks z)) (sym f) m)

pub doored_none : (g : Ground) (told : List Link) (links : Option (List Link)) (backs : Option (List (List ℕ))) (rs : List SessionReport) → links ≡ Some told → rs ≡ []
    → Doored g told links backs backs rs
doored_none g told links backs rs e f = subst (λ (z : List SessionReport). Doored g told links backs backs z) (sym f) (record {
  given = [];
  rest = told;
  texts = [];
  told_are = refl;
  still = e;
  served = tt;
  taken = λ before h. h ∙ ap Some (sym (append-nil before));
})

pub doored_later : ReplyReadsNoLaterEntry → (g : Ground) (js : Journals) (told : List Link) (links : Option (List Link)) (backs backs' : Option (List (List ℕ)))
    (rs : List SessionReport) → AllBegin g.journals js → Doored g told links backs backs' rs → Doored (later g js) told links backs backs' rs
doored_later law g js told links backs backs' rs h d = record {
  given = d.given;
  rest = d.rest;
  texts = d.texts;
  told_are = d.told_are;
  still = d.still;
  served = all_later law g js d.given rs d.texts h d.served;
  taken = d.taken;
}

pub doored_more : ReplyReadsNoLaterEntry → (names : List (List ℕ)) (limits : Limits) (seats : ℕ → ℕ) (now new : Journals) (told : List Link) (links links' : Option (List Link))
    (backs backs' backs'' : Option (List (List ℕ))) (rs rs' : List SessionReport) (r : SessionReport) → Doored (ground names limits now seats) told links backs backs' rs
    → AllBegin now new → Linked (ground names limits new seats) links links' backs' backs'' r → rs' ≡ rs ++ r ∷ []
    → Doored (ground names limits new seats) told links' backs backs'' rs'
doored_more law names limits seats now new told links links' backs backs' backs'' rs rs' r d h x e =
    let one = x d.rest d.still in
    let g = ground names limits new seats in
    record {
      given = d.given ++ one.0 ∷ [];
      rest = one.1;
      texts = d.texts ++ one.4 ∷ [];
      told_are = d.told_are ∙ ap (λ (z : List Link). d.given ++ z) one.2 ∙ sym (append_assoc d.given (one.0 ∷ []) one.1);
      still = one.3;
      served = subst (λ (z : List SessionReport). AreServed g (d.given ++ one.0 ∷ []) z (d.texts ++ one.4 ∷ [])) (sym e)
          (all_more g d.given rs d.texts one.0 r one.4 (all_later law (ground names limits now seats) new d.given rs d.texts h d.served) one.5);
      taken = λ before k. one.6 (before ++ d.texts) (d.taken before k) ∙ ap Some (append_assoc before d.texts (one.4 ∷ []));
    }

pub doored_same : (names : List (List ℕ)) (limits : Limits) (seats : ℕ → ℕ) (js js' : Journals) (told : List Link) (links links' : Option (List Link))
    (first backs backs' : Option (List (List ℕ))) (rs rs' : List SessionReport) → js' ≡ js → links' ≡ links → backs' ≡ backs → rs' ≡ rs
    → Doored (ground names limits js seats) told links first backs rs → Doored (ground names limits js' seats) told links' first backs' rs'
doored_same names limits seats js js' told links links' first backs backs' rs rs' e f h k d =
    subst (λ (z : Journals). Doored (ground names limits z seats) told links' first backs' rs') (sym e)
    (subst (λ (z : Option (List Link)). Doored (ground names limits js seats) told z first backs' rs') (sym f)
    (subst (λ (z : Option (List (List ℕ))). Doored (ground names limits js seats) told links first z rs') (sym h)
    (subst (λ (z : List SessionReport). Doored (ground names limits js seats) told links first backs z) (sym k) d)))

-- a session over a link that was given, whose sink had taken nothing, and which was handed back
pub linked_one : (g : Ground) (links links' links'' : Option (List Link)) (backs backs' backs'' : Option (List (List ℕ))) (left left' taken taken' : Option (List ℕ))
    (sound sound' : Type 0) (r : SessionReport) → GivesFirst links links' left sound → StartsEmpty backs taken → backs' ≡ backs
    → ((b : List ℕ) → left ≡ Some b → (text : List ℕ) × Puts taken taken' text × IsSession g b left' r.end r.turns.items r.marks.items text)
    → (sound → (source_broke r.end ≡ false) × sound') → links'' ≡ links' → HandsBack backs' backs'' taken' → Linked g links links'' backs backs'' r
linked_one g links links' links'' backs backs' backs'' left left' taken taken' sound sound' r gives empty e session never f hands = λ told is.
    let x = gives told is in
    let s = session x.first.bytes x.bytes in (
      x.first,
      x.rest,
      x.links,
      f ∙ x.still,
      s.0,
      record { left = left'; session = s.2; sound = λ k. (never (x.never k)).0 },
      λ before k. hands before s.0 (e ∙ k) (s.1 [] (empty before k)),
    )
