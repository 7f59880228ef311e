-- How a session ends at a frame, and the step that a request is.
use Rattle.std.proofs.Common.{◌≡◌, ◌∙◌, ℕ, List, [], ◌++◌, Option, Some, Ok, Err, append_assoc, append-nil, sym, ap, subst, refl, inl, inr}
use Rattle.httparse.specs.Grammar.{print_request}
use Rattle.journal.specs.declared.entry.Mark.{Mark}
use Rattle.http_frame.specs.Answers.{NextHead, NextBody, NextFrame}
use Rattle.http_frame.specs.Frames.{BeginsWithHead, IsRequest, IsRefused, by_head}
use Rattle.http_frame.specs.Messages.{SeenRequest}
use Rattle.http_frame.specs.Streams.{IsStream}
use Rattle.http_frame.specs.Wire.{continue_of}
use Rattle.http_frame.specs.declared.fault.FrameFault.{FrameFault}
use Rattle.http_frame.specs.declared.fault.FrameFault.TheVariants.{BadHead, BadHost, BadBody, Coding, BodyTooLong, Truncated, ReadFault as ReadFrame, Memory as FrameMemory}
use Rattle.http_frame.specs.declared.message.Head.{Head}
use Rattle.session.specs.Refusals.{Asks, asked, unasked, MayAsk, IsCutOff, in_head, in_body, gone_text, refusal_text}
use Rattle.rdf_io.specs.Sending.{IsPartOf}
use Rattle.session.specs.Steps.{IsGoing, IsRefusing, IsServed, IsStep, IsStop, IsStopping, MakesTurn}
use Rattle.session.specs.Turns.{Ground, IsTurn, sent}
use Rattle.session.specs.declared.report.SessionEnd.{SessionEnd}
use Rattle.session.specs.declared.report.SessionEnd.TheVariants.{Done, Refused, ReadFault, WriteFault, Limit, Memory}
use Rattle.session.specs.declared.report.Turn.{Turn}
use Rattle.session.specs.declared.requests.Step.{Step}
use Rattle.session.specs.declared.requests.Step.TheVariants.{Answered, Closed, Lost, Stopped}

pub part_behind : (before part whole : List ℕ) → IsPartOf part whole → IsPartOf (before ++ part) (before ++ whole)
part_behind before part whole p = (p.0, ap (λ (z : List ℕ). before ++ z) p.1 ∙ sym (append_assoc before part p.0))

-- memory was wanted behind what was written before the body
stop_gone : (end : SessionEnd) (b before text : List ℕ) (left : Option (List ℕ)) → MayAsk b before → IsGoing text end → IsStop b left end (before ++ text)
stop_gone Memory b before text left k a = (before, k, ap (λ (z : List ℕ). before ++ z) a)
stop_gone WriteFault b before text left k a = (before ++ gone_text, inr (before, k, refl), part_behind before text gone_text a)
stop_gone Done b before text left k a = absurd a
stop_gone Refused b before text left k a = absurd a
stop_gone ReadFault b before text left k a = absurd a
stop_gone Limit b before text left k a = absurd a

-- a frame is refused behind it
stop_refused : (end : SessionEnd) (fault : FrameFault) (b before text : List ℕ) (left : Option (List ℕ)) → IsRefused b fault → Asks b before
    → IsRefusing fault text end → IsStop b left end (before ++ text)
stop_refused Refused fault b before text left x k a = (fault, x, before, k, ap (λ (z : List ℕ). before ++ z) a)
stop_refused Memory fault b before text left x k a = (before, inr k, ap (λ (z : List ℕ). before ++ z) a)
stop_refused WriteFault fault b before text left x k a = elim a [
  | inl p ↦ (before ++ refusal_text fault, inl (fault, x, before, k, refl), part_behind before text (refusal_text fault) p)
  | inr p ↦ (before ++ gone_text, inr (before, inr k, refl), part_behind before text gone_text p)
]
stop_refused Done fault b before text left x k a = absurd a
stop_refused ReadFault fault b before text left x k a = absurd a
stop_refused Limit fault b before text left x k a = absurd a

-- the source failed behind a head
read_failed : (b held held' before text : List ℕ) (left left' : Option (List ℕ)) (head : Head) → (h : NextHead b held left (Ok (Some head)))
    → ((mid : List ℕ) → IsStream held left mid → NextBody head mid held' left' (Err ReadFrame)) → before ≡ continue_of head → text ≡ []
    → IsCutOff b left' (before ++ text)
read_failed b held held' before text left left' head h body k empty =
    let begins = h.1 in
    let front = print_request begins.head in
    let written = ap (λ (z : List ℕ). before ++ z) empty ∙ append-nil before ∙ k in
    elim (body h.0 h.4) [
      | inl shown ↦ cc (h.3, shown)
      | inr n ↦
          let t = n.2 in
          let part : b ≡ (front ++ t.0) ++ t.1.0 = begins.reads.reads.1 ∙ ap (λ (z : List ℕ). front ++ z) t.1.2 ∙ sym (append_assoc front t.0 t.1.0) in
          let cut : BeginsWithHead (front ++ t.0) head t.0 = record {
            head = begins.head;
            reads = record { reads = (begins.reads.reads.0, refl); short = begins.reads.short; few = begins.reads.few };
            shows = begins.shows;
          } in
          in_body (front ++ t.0) head t.0 n.0 (t.1.0, t.1.1, part) cut n.1 t.2 written
    ]

asks_head : (b held before : List ℕ) (left : Option (List ℕ)) (head : Head) → NextHead b held left (Ok (Some head)) → before ≡ continue_of head → Asks b before
asks_head b held before left head h k = asked head h.0 h.2 h.1 h.3 k

-- a fault behind a head
pub stop_at_body : (fault : FrameFault) (end : SessionEnd) (b held before text held' : List ℕ) (left left' : Option (List ℕ)) (head : Head)
    → NextHead b held left (Ok (Some head)) → ((mid : List ℕ) → IsStream held left mid → NextBody head mid held' left' (Err fault))
    → NextFrame b held' left' (Err fault) → before ≡ continue_of head → IsStopping fault text end → IsStop b left' end (before ++ text)
stop_at_body ReadFrame end b held before text held' left left' head h body n k s =
    subst (λ e. IsStop b left' e (before ++ text)) (sym s.0) (read_failed b held held' before text left left' head h body k s.1)
stop_at_body FrameMemory end b held before text held' left left' head h body n k s = stop_gone end b before text left' (inr (asks_head b held before left head h k)) s
stop_at_body BadHead end b held before text held' left left' head h body n k s = stop_refused end BadHead b before text left' n (asks_head b held before left head h k) s
stop_at_body BadHost end b held before text held' left left' head h body n k s = stop_refused end BadHost b before text left' n (asks_head b held before left head h k) s
stop_at_body BadBody end b held before text held' left left' head h body n k s = stop_refused end BadBody b before text left' n (asks_head b held before left head h k) s
stop_at_body Coding end b held before text held' left left' head h body n k s = stop_refused end Coding b before text left' n (asks_head b held before left head h k) s
stop_at_body BodyTooLong end b held before text held' left left' head h body n k s = stop_refused end BodyTooLong b before text left' n (asks_head b held before left head h k) s
stop_at_body Truncated end b held before text held' left left' head h body n k s = stop_refused end Truncated b before text left' n (asks_head b held before left head h k) s

-- a fault where a head is looked for
pub stop_at_head : (fault : FrameFault) (end : SessionEnd) (b text held : List ℕ) (left : Option (List ℕ)) → NextHead b held left (Err fault)
    → IsStopping fault text end → IsStop b left end text
stop_at_head ReadFrame end b text held left n s = subst (λ e. IsStop b left e text) (sym s.0) (in_head held n.0 n.1 s.1)
stop_at_head FrameMemory end b text held left n s = stop_gone end b [] text left (inl refl) s
stop_at_head BadHead end b text held left n s = stop_refused end BadHead b [] text left (by_head n) (unasked BadHead n refl) s
stop_at_head BadHost end b text held left n s = stop_refused end BadHost b [] text left (by_head n) (unasked BadHost n refl) s
stop_at_head BadBody end b text held left n s = stop_refused end BadBody b [] text left (by_head n) (unasked BadBody n refl) s
stop_at_head Coding end b text held left n s = stop_refused end Coding b [] text left (by_head n) (unasked Coding n refl) s
stop_at_head BodyTooLong end b text held left n s = stop_refused end BodyTooLong b [] text left (by_head n) (unasked BodyTooLong n refl) s
stop_at_head Truncated end b text held left n s = stop_refused end Truncated b [] text left (by_head n) (unasked Truncated n refl) s

-- `100 Continue` itself was not written whole
pub stop_asked : (b part held : List ℕ) (left left' : Option (List ℕ)) (head : Head) → NextHead b held left (Ok (Some head)) → IsPartOf part (continue_of head)
    → IsStop b left' WriteFault part
stop_asked b part held left left' head h p = (
  continue_of head ++ gone_text,
  inr (continue_of head, inr (asks_head b held (continue_of head) left head h refl), refl),
  (p.0 ++ gone_text, ap (λ (z : List ℕ). z ++ gone_text) p.1 ∙ append_assoc part p.0 gone_text),
)

-- the turn that was made of the request at the front of b
abbrev one_turn : (g : Ground) (b rest : List ℕ) (r : SeenRequest) (turns turns' : List Turn) (marks marks' : List Mark) → IsRequest b r rest
    → (made : MakesTurn g r turns turns' marks marks') → IsTurn g b made.turn
one_turn g b rest r turns turns' marks marks' x made = record {
  request = r;
  rest = rest;
  repo = made.repo;
  places = made.places;
  answer = made.answer;
  is_request = x;
  count = made.count;
  right = made.right;
}

-- a served request is one step
pub step_served : (step : Step) (g : Ground) (b rest : List ℕ) (r : SeenRequest) (turns turns' : List Turn) (marks marks' : List Mark) (before text held : List ℕ)
    (left : Option (List ℕ)) → IsRequest b r rest → IsStream held left rest → before ≡ continue_of r.head → Asks b before
    → IsServed g r turns turns' marks marks' text step → IsStep g b turns turns' marks marks' (before ++ text) held left step
step_served Answered g b rest r turns turns' marks marks' before text held left x s k a v =
    (v.0.turn, one_turn g b rest r turns turns' marks marks' x v.0, v.0.turns_are, v.0.marks_are, joined, v.1, s) where
      joined : before ++ text ≡ continue_of r.head ++ sent r.head v.0.answer
      joined = ap (λ (z : List ℕ). before ++ z) v.2 ∙ ap (λ (z : List ℕ). z ++ sent r.head v.0.answer) k
step_served Closed g b rest r turns turns' marks marks' before text held left x s k a v =
    (v.0.turn, one_turn g b rest r turns turns' marks marks' x v.0, v.0.turns_are, v.0.marks_are, joined, v.1) where
      joined : before ++ text ≡ continue_of r.head ++ sent r.head v.0.answer
      joined = ap (λ (z : List ℕ). before ++ z) v.2 ∙ ap (λ (z : List ℕ). z ++ sent r.head v.0.answer) k
step_served Lost g b rest r turns turns' marks marks' before text held left x s k a v =
    (v.0.turn, one_turn g b rest r turns turns' marks marks' x v.0, v.0.turns_are, v.0.marks_are, part) where
      part : IsPartOf (before ++ text) (continue_of r.head ++ sent r.head v.0.answer)
      part = subst (λ (z : List ℕ). IsPartOf (before ++ text) (z ++ sent r.head v.0.answer)) k (part_behind before text (sent r.head v.0.answer) v.1)
step_served (Stopped end) g b rest r turns turns' marks marks' before text held left x s k a v = (v.0, v.1, stop_gone end b before text left (inr a) v.2)
