-- A script over the responses has one run that no fault and no want of memory ends.
use Rattle.std.proofs.Common.{◌≡◌, ◌+◌, ◌<◌, ◌≤◌, ℕ, List, [], ◌∷◌, ◌++◌, true, Some, ◌⊎◌, refl, sym, ap, ◌∙◌, subst, inl, inr, arith}
use Rattle.std.specs.declared.result.Result.TheVariants.{Ok, Err}
use Rattle.rdf_term.specs.Buffer.{Buffer}
use Rattle.http_frame.specs.Laws.{OneResponseFrame}
use Rattle.http_frame.specs.Messages.{SeenResponse}
use Rattle.http_frame.specs.Responses.{no_response, response, response_refusal}
use Rattle.journal.specs.declared.reply.Reply.{Reply}
use Rattle.api_calls.specs.declared.call.Call.{Call}
use Rattle.api_calls.specs.declared.call.Call.TheVariants as calls
use Rattle.reply_reading.specs.Laws.{answer_of, bad, HasAnswer, OneReading, refused, replied}
use Rattle.reply_reading.specs.Readings.{IsGot}
use Rattle.reply_reading.specs.declared.got.Got.{Got}
use Rattle.reply_reading.specs.declared.got.Got.TheVariants as gots
use Rattle.reply_reading.specs.declared.got.ReplyFault.TheVariants as reply_faults
use Rattle.client_script.specs.declared.action.Action.{Action}
use Rattle.client_script.specs.declared.action.Action.TheVariants as actions
use Rattle.client_script.specs.declared.command.Command.{Command}
use Rattle.client_script.specs.Actions.{next_call}
use Rattle.client_script.specs.Inputs.{first_line}
use Rattle.client_script.specs.Laws.{OneCommand}
use Rattle.client_script.specs.Lines.{IsScriptLine}
use Rattle.client_script.specs.Printed.{bad_line, refused_line}
use Rattle.client_script.specs.Scripts.{IsBad, IsNext}
use Rattle.rdf_client.specs.Exchanges.{HasNoReply, IsAnswer, bad_frame, bad_reply, ended, request_bytes}
use Rattle.rdf_client.specs.Laws.{is_own_end}
use Rattle.rdf_client.specs.Runs.{Asks, Ends, Place, Runs, answers, shown, skips, stops, txn_behind}
use Rattle.rdf_client.specs.declared.end.ClientEnd.{ClientEnd}
use Rattle.rdf_client.specs.declared.end.ClientEnd.TheVariants.{Done, Refused, ReadFault, WriteFault, BadReply, Memory, Script}

-- what the crates below promise: a line stands for one command, a stream has one frame, and a response is read as one thing
pub record Known : Type 0 where
  pub commands : OneCommand
  pub frames : OneResponseFrame
  pub readings : OneReading

-- Answers

some_same : {X : Type 0} (x y : X) → Some x ≡ Some y → x ≡ y
some_same x y e = cc

got_found : (got : Got) → HasAnswer (Ok got)
got_found got e = cc

fault_found : (n : ℕ) → HasAnswer (Err (reply_faults.BadReply n))
fault_found n e = cc

got_not_bad : (got : Got) (n : ℕ) → answer_of (Ok got) ≡ bad n → ⊥
got_not_bad (gots.Reply reply) n e = cc
got_not_bad (gots.Refused status body) n e = cc

pub answered_or_not : OneResponseFrame → OneReading → (call : Call) (b : List ℕ) (got : Got) (rest : List ℕ) → IsAnswer call b got rest → HasNoReply call b → ⊥
answered_or_not frames readings call b got rest a (ended f) =
    let e : response a.seen rest ≡ no_response = frames b (response a.seen rest) no_response a.frame f in cc
answered_or_not frames readings call b got rest a (bad_frame fault f) =
    let e : response a.seen rest ≡ response_refusal fault = frames b (response a.seen rest) (response_refusal fault) a.frame f in cc
answered_or_not frames readings call b got rest a (bad_reply seen later n f none) =
    let e : response a.seen rest ≡ response seen later = frames b (response a.seen rest) (response seen later) a.frame f in
    let same : a.seen ≡ seen = cc in
    got_not_bad got n
    (readings call seen (Ok got) (Err (reply_faults.BadReply n)) (subst (λ (r : SeenResponse). IsGot call r got) same a.got_is) none (got_found got) (fault_found n))

one_answer : OneResponseFrame → OneReading → (call : Call) (b : List ℕ) (got other : Got) (rest later : List ℕ)
    → IsAnswer call b got rest → IsAnswer call b other later → (answer_of (Ok got) ≡ answer_of (Ok other)) × (rest ≡ later)
one_answer frames readings call b got other rest later a a' =
    let e : response a.seen rest ≡ response a'.seen later = frames b (response a.seen rest) (response a'.seen later) a.frame a'.frame in
    let same : a.seen ≡ a'.seen = cc in
    let behind : rest ≡ later = cc in (
      readings call a'.seen (Ok got) (Ok other) (subst (λ (r : SeenResponse). IsGot call r got) same a.got_is) a'.got_is (got_found got) (got_found other),
      behind,
    )

-- Lines

-- what stands at a place: no line, one that is none of a script, or one that asks for an action
pub data Line : Type 0 where
  no_line : Line
  none_of_script : Line
  asking : Action → List ℕ → Line

abbrev pub IsLine : List ℕ → Place → Line → Type 0
IsLine repo at no_line = at.script ≡ []
IsLine repo at none_of_script = IsBad at.number at.script
IsLine repo at (asking action rest) = Asks repo at action rest

has_line : (b line rest : List ℕ) → first_line b ≡ Some (line, rest) → b ≡ [] → ⊥
has_line [] line rest e h = cc
has_line (x ∷ xs) line rest e h = cc

same_first : (b line rest line' rest' : List ℕ) → first_line b ≡ Some (line, rest) → first_line b ≡ Some (line', rest') → (line ≡ line') × (rest ≡ rest')
same_first b line rest line' rest' e f =
    let same : (let p : List ℕ × List ℕ = (line, rest) in let q : List ℕ × List ℕ = (line', rest') in p ≡ q) = some_same (line, rest) (line', rest') (sym e ∙ f) in
    (ap (λ (p : List ℕ × List ℕ). p.0) same, ap (λ (p : List ℕ × List ℕ). p.1) same)

one_next : OneCommand → (n : ℕ) (b : List ℕ) (c d : Command) (rest later : List ℕ) → IsNext n b c rest → IsNext n b d later → (c ≡ d) × (rest ≡ later)
one_next commands n b c d rest later x y =
    let same = same_first b x.line rest y.line later x.first y.first in
    (commands y.line c d (subst (λ (l : List ℕ). IsScriptLine l c) same.0 x.script).table y.script.table, same.1)

next_or_bad : (n : ℕ) (b : List ℕ) (c : Command) (rest line later : List ℕ) → IsNext n b c rest → first_line b ≡ Some (line, later)
    → (1000000 ≤ n) ⊎ ((command : Command) → IsScriptLine line command → ⊥) → ⊥
next_or_bad n b c rest line later x e (inl many) = let few : n < 1000000 = x.few in absurd (omega arith)
next_or_bad n b c rest line later x e (inr none) =
    let same = same_first b x.line rest line later x.first e in none c (subst (λ (l : List ℕ). IsScriptLine l c) same.0 x.script)

not_asked : (repo : List ℕ) (at : Place) (action : Action) (rest : List ℕ) → Asks repo at action rest → IsBad at.number at.script → ⊥
not_asked repo at action rest asks none = next_or_bad at.number at.script asks.command rest none.line none.rest asks.line none.first none.bad

one_line : OneCommand → (repo : List ℕ) (at : Place) (x y : Line) → IsLine repo at x → IsLine repo at y → x ≡ y
one_line commands repo at no_line no_line h k = refl
one_line commands repo at no_line none_of_script h k = absurd (has_line at.script k.line k.rest k.first h)
one_line commands repo at no_line (asking action rest) h k = absurd (has_line at.script k.line.line rest k.line.first h)
one_line commands repo at none_of_script no_line h k = absurd (has_line at.script h.line h.rest h.first k)
one_line commands repo at none_of_script none_of_script h k = refl
one_line commands repo at none_of_script (asking action rest) h k = absurd (not_asked repo at action rest k h)
one_line commands repo at (asking action rest) no_line h k = absurd (has_line at.script h.line.line rest h.line.first k)
one_line commands repo at (asking action rest) none_of_script h k = absurd (not_asked repo at action rest h k)
one_line commands repo at (asking action rest) (asking other later) h k =
    let same = one_next commands at.number at.script h.command k.command rest later h.line k.line in
    let asked : action ≡ other = sym h.action_is ∙ ap (λ (c : Command). next_call repo at.txn c) same.0 ∙ k.action_is in
    ap (λ (a : Action). asking a rest) asked ∙ ap (λ (l : List ℕ). asking other l) same.1

-- Moves

-- what is done at a line: the end of the run, or the place behind it, with what is sent and printed
pub data Move : Type 0 where
  stop : ClientEnd → List ℕ → List ℕ → Move
  go : Place → List ℕ → List ℕ → Move

-- a call was sent
pub data Sent (host : List ℕ) (at : Place) (call : Call) (rest : List ℕ) (m : Move) : Type 0 where
  was_answered : (reply : Reply) (later : List ℕ) → IsAnswer call at.responses (gots.Reply reply) later
      → m ≡ go (record { number = at.number + 1; txn = txn_behind at.txn call reply; script = rest; responses = later }) (request_bytes call host)
      (shown call (gots.Reply reply)) → Sent host at call rest m
  was_refused : (status : ℕ) (body : Buffer) (later : List ℕ) → IsAnswer call at.responses (gots.Refused status body) later
      → m ≡ stop Refused (request_bytes call host) (shown call (gots.Refused status body)) → Sent host at call rest m
  had_none : HasNoReply call at.responses → m ≡ stop BadReply (request_bytes call host) [] → Sent host at call rest m

abbrev pub DoesAction : (host : List ℕ) → Place → Action → List ℕ → Move → Type 0
DoesAction host at actions.Skip rest m = m ≡ go (record at { number = at.number + 1; script = rest }) [] []
DoesAction host at actions.End rest m = m ≡ stop Done [] []
DoesAction host at actions.Refuse rest m = m ≡ stop (Script (at.number + 1)) [] (bad_line (at.number + 1))
DoesAction host at (actions.Send call) rest m = Sent host at call rest m

abbrev pub Does : (host : List ℕ) → Place → Line → Move → Type 0
Does host at no_line m = m ≡ stop Done [] []
Does host at none_of_script m = m ≡ stop (Script (at.number + 1)) [] (bad_line (at.number + 1))
Does host at (asking action rest) m = DoesAction host at action rest m

same_reply : (reply other : Reply) → answer_of (Ok (gots.Reply reply)) ≡ answer_of (Ok (gots.Reply other)) → reply ≡ other
same_reply reply other e = cc

refused_shown : (call : Call) (status status' : ℕ) (body body' : Buffer) → status ≡ status' → body.items ≡ body'.items
    → shown call (gots.Refused status body) ≡ shown call (gots.Refused status' body')
refused_shown calls.Protocol status status' body body' e f = refl
refused_shown (calls.Repositories form) status status' body body' e f = refl
refused_shown (calls.On repo op form) status status' body body' e f =
    ap (λ (n : ℕ). refused_line n body.items) e ∙ ap (λ (b : List ℕ). refused_line status' b) f

same_shown : (call : Call) (status status' : ℕ) (body body' : Buffer)
    → answer_of (Ok (gots.Refused status body)) ≡ answer_of (Ok (gots.Refused status' body'))
    → shown call (gots.Refused status body) ≡ shown call (gots.Refused status' body')
same_shown call status status' body body' e =
    let told : refused status body.items ≡ refused status' body'.items = e in
    let one : status ≡ status' = cc in
    let two : body.items ≡ body'.items = cc in
    refused_shown call status status' body body' one two

one_sent : Known → (host : List ℕ) (at : Place) (call : Call) (rest : List ℕ) (m m' : Move) → Sent host at call rest m → Sent host at call rest m' → m ≡ m'
one_sent known host at call rest m m' (was_answered reply later a e) (was_answered reply' later' a' e') =
    let same = one_answer known.frames known.readings call at.responses (gots.Reply reply) (gots.Reply reply') later later' a a' in
    let one = same_reply reply reply' same.0 in
    e ∙ ap (λ (r : Reply). go (record { number = at.number + 1; txn = txn_behind at.txn call r; script = rest; responses = later }) (request_bytes call host)
    (shown call (gots.Reply r))) one ∙ ap (λ (b : List ℕ). go (record { number = at.number + 1; txn = txn_behind at.txn call reply'; script = rest; responses = b }) (request_bytes call host)
    (shown call (gots.Reply reply'))) same.1 ∙ sym e'
one_sent known host at call rest m m' (was_answered reply later a e) (was_refused status body later' a' e') =
    let same = one_answer known.frames known.readings call at.responses (gots.Reply reply) (gots.Refused status body) later later' a a' in
    let apart : replied reply ≡ refused status body.items = same.0 in cc
one_sent known host at call rest m m' (was_answered reply later a e) (had_none none e') =
    absurd (answered_or_not known.frames known.readings call at.responses (gots.Reply reply) later a none)
one_sent known host at call rest m m' (was_refused status body later a e) (was_answered reply later' a' e') =
    let same = one_answer known.frames known.readings call at.responses (gots.Refused status body) (gots.Reply reply) later later' a a' in
    let apart : refused status body.items ≡ replied reply = same.0 in cc
one_sent known host at call rest m m' (was_refused status body later a e) (was_refused status' body' later' a' e') =
    let same = one_answer known.frames known.readings call at.responses (gots.Refused status body) (gots.Refused status' body') later later' a a' in
    e ∙ ap (λ (t : List ℕ). stop Refused (request_bytes call host) t) (same_shown call status status' body body' same.0) ∙ sym e'
one_sent known host at call rest m m' (was_refused status body later a e) (had_none none e') =
    absurd (answered_or_not known.frames known.readings call at.responses (gots.Refused status body) later a none)
one_sent known host at call rest m m' (had_none none e) (was_answered reply later a e') =
    absurd (answered_or_not known.frames known.readings call at.responses (gots.Reply reply) later a none)
one_sent known host at call rest m m' (had_none none e) (was_refused status body later a e') =
    absurd (answered_or_not known.frames known.readings call at.responses (gots.Refused status body) later a none)
one_sent known host at call rest m m' (had_none none e) (had_none none' e') = e ∙ sym e'

one_action : Known → (host : List ℕ) (at : Place) (action : Action) (rest : List ℕ) (m m' : Move)
    → DoesAction host at action rest m → DoesAction host at action rest m' → m ≡ m'
one_action known host at actions.Skip rest m m' d d' = d ∙ sym d'
one_action known host at actions.End rest m m' d d' = d ∙ sym d'
one_action known host at actions.Refuse rest m m' d d' = d ∙ sym d'
one_action known host at (actions.Send call) rest m m' d d' = one_sent known host at call rest m m' d d'

one_move : Known → (host : List ℕ) (at : Place) (line : Line) (m m' : Move) → Does host at line m → Does host at line m' → m ≡ m'
one_move known host at no_line m m' d d' = d ∙ sym d'
one_move known host at none_of_script m m' d d' = d ∙ sym d'
one_move known host at (asking action rest) m m' d d' = one_action known host at action rest m m' d d'

-- Runs

-- the run goes on as the move says
abbrev pub Follows : (repo host : List ℕ) → Move → ClientEnd → (sent text : List ℕ) → Type 0
Follows repo host (stop end' sent' text') end sent text = (end ≡ end') × (sent ≡ sent') × (text ≡ text')
Follows repo host (go at s t) end sent text =
    (sent' : List ℕ) × (text' : List ℕ) × Runs repo host at end sent' text' × (sent ≡ s ++ sent') × (text ≡ t ++ text')

-- the line at a place, and what is done at it
pub record Way (repo host : List ℕ) (at : Place) (m : Move) : Type 0 where
  pub line : Line
  pub is_line : IsLine repo at line
  pub does : Does host at line m

three : (end : ClientEnd) (s s' t t' : List ℕ) → s ≡ s' → t ≡ t' → stop end s t ≡ stop end s' t'
three end s s' t t' e f = ap (λ (x : List ℕ). stop end x t) e ∙ ap (λ (x : List ℕ). stop end s' x) f

bad_stop : (n m : ℕ) (s t : List ℕ) → s ≡ [] → n ≡ m → t ≡ bad_line n → stop (Script n) s t ≡ stop (Script m) [] (bad_line m)
bad_stop n m s t e f h = three (Script n) s [] t (bad_line n) e h ∙ ap (λ (k : ℕ). stop (Script k) [] (bad_line k)) f

stop_way : (repo host : List ℕ) (at : Place) (end : ClientEnd) (sent text : List ℕ) → Ends repo host at end sent text → is_own_end end ≡ true
    → Way repo host at (stop end sent text)
stop_way repo host at Done sent text (s, t, inl none) own = record { line = no_line; is_line = none; does = three Done sent [] text [] s t }
stop_way repo host at Done sent text (s, t, inr (rest, asks)) own = record { line = asking actions.End rest; is_line = asks; does = three Done sent [] text [] s t }
stop_way repo host at (Script n) sent text (s, e, t, inl none) own =
    record { line = none_of_script; is_line = none; does = bad_stop n (at.number + 1) sent text s e t }
stop_way repo host at (Script n) sent text (s, e, t, inr (rest, asks)) own =
    record { line = asking actions.Refuse rest; is_line = asks; does = bad_stop n (at.number + 1) sent text s e t }
stop_way repo host at Refused sent text (call, status, body, later, (rest, asks), s, a, t) own =
    record {
      line = asking (actions.Send call) rest;
      is_line = asks;
      does = was_refused status body later a (three Refused sent (request_bytes call host) text (shown call (gots.Refused status body)) s t);
    }
stop_way repo host at BadReply sent text (call, (rest, asks), s, t, none) own =
    record { line = asking (actions.Send call) rest; is_line = asks; does = had_none none (three BadReply sent (request_bytes call host) text [] s t) }
stop_way repo host at ReadFault sent text ends own = cc
stop_way repo host at WriteFault sent text ends own = cc
stop_way repo host at Memory sent text ends own = cc

-- all ways at a place are one
meet : Known → (repo host : List ℕ) (at : Place) (m n : Move) → Way repo host at m → Way repo host at n → (end : ClientEnd) (sent text : List ℕ)
    → Follows repo host n end sent text → Follows repo host m end sent text
meet known repo host at m n way other end sent text run =
    let lines : other.line ≡ way.line = one_line known.commands repo at other.line way.line other.is_line way.is_line in
    let moves : n ≡ m = one_move known host at way.line n m (subst (λ (l : Line). Does host at l n) lines other.does) way.does in
    subst (λ (x : Move). Follows repo host x end sent text) moves run

-- a run that no fault ends follows the one move at its first line
follows : Known → (repo host : List ℕ) (at : Place) (m : Move) → Way repo host at m → (end : ClientEnd) (sent text : List ℕ)
    → is_own_end end ≡ true → Runs repo host at end sent text → Follows repo host m end sent text
follows known repo host at m way end sent text own run =
    let first = first_way repo host at end sent text own run in
    meet known repo host at m first.0 way first.1 end sent text first.2
  where
    first_way : (repo host : List ℕ) (at : Place) (end : ClientEnd) (sent text : List ℕ) → is_own_end end ≡ true → Runs repo host at end sent text
        → (m : Move) × Way repo host at m × Follows repo host m end sent text
    first_way repo host at end sent text own (stops ends) = (stop end sent text, stop_way repo host at end sent text ends own, (refl, refl, refl))
    first_way repo host at end sent text own (skips rest asks run) =
        (go (record at { number = at.number + 1; script = rest }) [] [], record { line = asking actions.Skip rest; is_line = asks; does = refl }, (sent, text, run, refl, refl))
    first_way repo host at end sent text own (answers call reply rest later sent' text' asks a run s t) = (
      go (record { number = at.number + 1; txn = txn_behind at.txn call reply; script = rest; responses = later }) (request_bytes call host) (shown call (gots.Reply reply)),
      record { line = asking (actions.Send call) rest; is_line = asks; does = was_answered reply later a refl },
      (sent', text', run, s, t),
    )

pub one_run : Known → (repo host : List ℕ) (at : Place) (end other : ClientEnd) (sent text sent' text' : List ℕ)
    → Runs repo host at end sent text → Runs repo host at other sent' text'
    → is_own_end end ≡ true → is_own_end other ≡ true → (end ≡ other) × (sent ≡ sent') × (text ≡ text')
one_run known repo host at end other sent text sent' text' (stops ends) run own own' =
    let next = follows known repo host at (stop end sent text) (stop_way repo host at end sent text ends own) other sent' text' own' run in
    (sym next.0, sym next.1, sym next.2)
one_run known repo host at end other sent text sent' text' (skips rest asks first) run own own' =
    let next = follows known repo host at (go (record at { number = at.number + 1; script = rest }) [] [])
    (record { line = asking actions.Skip rest; is_line = asks; does = refl }) other sent' text' own' run in
    let same = one_run known repo host (record at { number = at.number + 1; script = rest }) end other sent text next.0 next.1 first next.2 own own' in
    (same.0, same.1 ∙ sym next.3, same.2 ∙ sym next.4)
one_run known repo host at end other sent text sent' text' (answers call reply rest later sent1 text1 asks a first s t) run own own' =
    let behind : Place = record { number = at.number + 1; txn = txn_behind at.txn call reply; script = rest; responses = later } in
    let next = follows known repo host at (go behind (request_bytes call host) (shown call (gots.Reply reply)))
    (record { line = asking (actions.Send call) rest; is_line = asks; does = was_answered reply later a refl }) other sent' text' own' run in
    let same = one_run known repo host behind end other sent1 text1 next.0 next.1 first next.2 own own' in (
      same.0,
      s ∙ ap (λ (x : List ℕ). request_bytes call host ++ x) same.1 ∙ sym next.3,
      t ∙ ap (λ (x : List ℕ). shown call (gots.Reply reply) ++ x) same.2 ∙ sym next.4,
    )
