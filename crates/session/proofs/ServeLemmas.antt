-- One request, served.
use Rattle.std.proofs.Common.{◌≡◌, ℕ, ◌-◌, List, [], ◌∷◌, ◌++◌, length, map, Option, Some, slice_get, get_or, refl, sym, ◌∙◌, ap, subst, length-append, arith}
use Rattle.std.proofs.lemmas.List.{length-map}
use Rattle.std.proofs.lemmas.Option.{slice_get-get_or}
use Rattle.journal.specs.declared.entry.Mark.{Mark}
use Rattle.http_frame.specs.Messages.{SeenRequest, SeenResponse}
use Rattle.http_frame.specs.declared.message.Head.{Head}
use Rattle.session.specs.Answering.{Answers, AnswersBy, IsWritten}
use Rattle.session.specs.Marks.{Journals, mark_at}
use Rattle.rdf_io.specs.Sending.{IsPartOf, Puts}
use Rattle.session.specs.Steps.{MakesTurn, Marked}
use Rattle.session.specs.Turns.{Ground, sent}
use Rattle.session.specs.declared.answer.Answered.{Answered as AnsweredRequest}
use Rattle.session.specs.declared.report.Turn.{Turn}

-- the turn of a request that was answered
pub made_turn : (g : Ground) (old : Journals) (r : SeenRequest) (it : AnsweredRequest) (turns mid turns' : List Turn) (marks middle marks' : List Mark)
    (response : SeenResponse) (count : ℕ) → mid ≡ turns → middle ≡ marks → Answers g old r it.repo middle marks' it.outcome response
    → turns' ≡ mid ++ record { marks = count; outcome = it.outcome } ∷ [] → count ≡ length marks' - length middle
    → (made : MakesTurn g r turns turns' marks marks') × (response ≡ made.answer)
made_turn g old r it turns mid turns' marks middle marks' response count e f a h k = (
  record {
    turn = record { marks = count; outcome = it.outcome };
    repo = it.repo;
    places = a.places;
    answer = response;
    turns_are = h ∙ ap (λ (z : List Turn). z ++ record { marks = count; outcome = it.outcome } ∷ []) e;
    marks_are = a.marks_are ∙ ap (λ (z : List Mark). z ++ map (mark_at it.repo) a.places) f;
    count = omega (arith, k, ap length a.marks_are, length-append middle (map (mark_at it.repo) a.places), length-map a.places (mark_at it.repo));
    right = a.right;
  },
  refl,
)

-- its marks
pub marked_by : (g : Ground) (old : Journals) (r : SeenRequest) (it : AnsweredRequest) (marks middle marks' : List Mark) (response : SeenResponse) → middle ≡ marks
    → Answers g old r it.repo middle marks' it.outcome response → Marked g.limits.places g.seats old g.journals marks marks'
marked_by g old r it marks middle marks' response f a =
    (map (mark_at it.repo) a.places, a.marks_are ∙ ap (λ (z : List Mark). z ++ map (mark_at it.repo) a.places) f, a.moves, a.room)

-- what is written is the response, to the repository whose ID stands at its number
pub written_there : (g : Ground) (old : Journals) (r : SeenRequest) (head : Head) (marks marks' : List Mark) (it : AnsweredRequest) (names : List (List ℕ))
    (id : List ℕ) → (a : AnswersBy g old r marks marks' it) → names ≡ g.names → id ≡ get_or names it.repo id → head ≡ r.head → IsWritten id head it.text a.0
written_there g old r head marks marks' it names id a same is here =
    let there : slice_get g.names it.repo ≡ Some id =
    slice_get-get_or g.names it.repo id a.2 ∙ ap Some (ap (λ (z : List (List ℕ)). get_or z it.repo id) (sym same) ∙ sym is) in
    subst (λ (h : Head). IsWritten id h it.text a.0) (sym here) (a.3 id there)

-- a request was served, and its response was written
pub served_whole : (g : Ground) (old : Journals) (r : SeenRequest) (head : Head) (turns mid turns' : List Turn) (marks middle marks' : List Mark)
    (it : AnsweredRequest) (count : ℕ) (taken taken' : Option (List ℕ)) → mid ≡ turns → middle ≡ marks → (a : AnswersBy g old r middle marks' it)
    → turns' ≡ mid ++ record { marks = count; outcome = it.outcome } ∷ [] → count ≡ length marks' - length middle → head ≡ r.head
    → Puts taken taken' (sent head a.0)
    → (made : MakesTurn g r turns turns' marks marks') × Puts taken taken' (sent r.head made.answer)
served_whole g old r head turns mid turns' marks middle marks' it count taken taken' e f a h k here put =
    let made = made_turn g old r it turns mid turns' marks middle marks' a.0 count e f a.1 h k in
    (made.0, subst (λ (z : Head). Puts taken taken' (sent z made.0.answer)) here (subst (λ (z : SeenResponse). Puts taken taken' (sent head z)) made.1 put))

-- its turn was made, and its response was not written whole
pub served_part : (g : Ground) (old : Journals) (r : SeenRequest) (head : Head) (turns mid turns' : List Turn) (marks middle marks' : List Mark)
    (it : AnsweredRequest) (count : ℕ) (part : List ℕ) → mid ≡ turns → middle ≡ marks → (a : AnswersBy g old r middle marks' it)
    → turns' ≡ mid ++ record { marks = count; outcome = it.outcome } ∷ [] → count ≡ length marks' - length middle → head ≡ r.head
    → IsPartOf part (sent head a.0) → (made : MakesTurn g r turns turns' marks marks') × IsPartOf part (sent r.head made.answer)
served_part g old r head turns mid turns' marks middle marks' it count part e f a h k here p =
    let made = made_turn g old r it turns mid turns' marks middle marks' a.0 count e f a.1 h k in
    (made.0, subst (λ (z : Head). IsPartOf part (sent z made.0.answer)) here (subst (λ (z : SeenResponse). IsPartOf part (sent head z)) made.1 p))
