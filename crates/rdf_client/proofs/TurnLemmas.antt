-- What was sent and printed at one line of a script.
use Rattle.std.proofs.Common.{◌≡◌, ◌+◌, ℕ, List, [], ◌++◌, Option, Some, None, Result, Ok, Err, refl, sym, ap, ◌∙◌, subst, inl, inr, append_assoc, append-nil}
use Rattle.http_frame.specs.Streams.{IsStream as IsFrameStream}
use Rattle.journal.specs.declared.txn.Txn.{Txn}
use Rattle.api_calls.specs.declared.call.Call.{Call}
use Rattle.reply_reading.specs.declared.got.Got.{Got}
use Rattle.reply_reading.specs.declared.got.Got.TheVariants as gots
use Rattle.client_script.specs.declared.action.Action.{Action}
use Rattle.client_script.specs.declared.action.Action.TheVariants as actions
use Rattle.client_script.specs.declared.command.Command.{Command}
use Rattle.client_script.specs.Actions.{next_call}
use Rattle.client_script.specs.Inputs.{IsStream}
use Rattle.client_script.specs.Printed.{bad_line}
use Rattle.client_script.specs.Scripts.{IsBad, IsNext, NextCommand, Reader}
use Rattle.client_script.specs.declared.script.ScriptFault.{ScriptFault}
use Rattle.client_script.specs.declared.script.ScriptFault.TheVariants as faults
use Rattle.rdf_io.specs.Sending.{IsPartOf, Puts}
use Rattle.rdf_client.specs.Exchanges.{Exchanged, IsSent, request_bytes}
use Rattle.rdf_client.specs.Runs.{Asks as AsksFor, Ends, IsBadLine, Place, shown, txn_behind}
use Rattle.rdf_client.specs.Turning.{Acts, Answers, Prints, PrintsBadLine, Turns, txn_or_end}
use Rattle.rdf_client.specs.declared.end.ClientEnd.{ClientEnd}
use Rattle.rdf_client.specs.declared.end.ClientEnd.TheVariants.{Done, Refused, ReadFault, WriteFault, BadReply, Memory, Script}

-- nothing was written
pub puts_none : (o : Option (List ℕ)) → Puts o o []
puts_none o t e = e ∙ ap (λ (x : List ℕ). Some x) (sym (append-nil t))

-- one text was written behind another
pub puts_more : (a b c : Option (List ℕ)) (x y : List ℕ) → Puts a b x → Puts b c y → Puts a c (x ++ y)
puts_more a b c x y p q t e = q (t ++ x) (p t e) ∙ ap (λ (z : List ℕ). Some z) (append_assoc t x y)

answered : (host : List ℕ) (call : Call) (txn : Option Txn) (b held : List ℕ) (left : Option (List ℕ)) (got : Got) (sent text : List ℕ)
    → sent ≡ request_bytes call host → text ≡ shown call got → Exchanged call b held left (Ok got)
    → Answers host call txn b held left (txn_or_end txn call got) sent text
answered host call txn b held left (gots.Reply reply) sent text s t (rest, answer, stream) = (reply, rest, answer, refl, s, t, stream)
answered host call txn b held left (gots.Refused status body) sent text s t (rest, answer, stream) = (status, body, rest, s, answer, t)

-- an answer was got and printed
pub shown_whole : (host : List ℕ) (call : Call) (txn : Option Txn) (b held : List ℕ) (left : Option (List ℕ)) (got : Got) (result : Result (Option Txn) ClientEnd)
    (sent text : List ℕ) → result ≡ txn_or_end txn call got → sent ≡ request_bytes call host → text ≡ shown call got → Exchanged call b held left (Ok got)
    → Answers host call txn b held left result sent text
shown_whole host call txn b held left got result sent text e s t x =
    subst (λ (r : Result (Option Txn) ClientEnd). Answers host call txn b held left r sent text) (sym e) (answered host call txn b held left got sent text s t x)

-- an answer was got, and not printed whole
pub shown_in_part : (host : List ℕ) (call : Call) (txn : Option Txn) (b held : List ℕ) (left : Option (List ℕ)) (got : Got) (end : ClientEnd) (sent text : List ℕ)
    → sent ≡ request_bytes call host → Prints (shown call got) (Err end) text → Exchanged call b held left (Ok got)
    → Answers host call txn b held left (Err end) sent text
shown_in_part host call txn b held left got WriteFault sent text s p (rest, answer, stream) = inr (got, rest, s, answer, p)
shown_in_part host call txn b held left got Memory sent text s p x = (p, inr s)
shown_in_part host call txn b held left got ReadFault sent text s p x = absurd p
shown_in_part host call txn b held left got BadReply sent text s p x = absurd p
shown_in_part host call txn b held left got Done sent text s p x = absurd p
shown_in_part host call txn b held left got Refused sent text s p x = absurd p
shown_in_part host call txn b held left got (Script n) sent text s p x = absurd p

-- no answer was got
pub not_answered : (host : List ℕ) (call : Call) (txn : Option Txn) (b held : List ℕ) (left : Option (List ℕ)) (end : ClientEnd) (sent : List ℕ)
    → IsSent (request_bytes call host) (Err end) sent → Exchanged call b held left (Err end) → Answers host call txn b held left (Err end) sent []
not_answered host call txn b held left BadReply sent s x = (s, refl, x)
not_answered host call txn b held left ReadFault sent s x = (refl, s)
not_answered host call txn b held left WriteFault sent s x = inl (s, refl)
not_answered host call txn b held left Memory sent s x = (refl, s)
not_answered host call txn b held left Done sent s x = absurd s
not_answered host call txn b held left Refused sent s x = absurd s
not_answered host call txn b held left (Script n) sent s x = absurd s

-- what the next line asks for
pub asks_for : (repo : List ℕ) (at : Place) (command : Command) (rest : List ℕ) (txn : Option Txn) (asked : Action) (action : Action)
    → IsNext at.number at.script command rest → at.txn ≡ txn → asked ≡ next_call repo txn command → asked ≡ action → AsksFor repo at action rest
asks_for repo at command rest txn asked action next same e f =
    record { command = command; line = next; action_is = ap (λ (t : Option Txn). next_call repo t command) same ∙ sym e ∙ f }

-- a line that is none of a script was told
pub bad_line_ends : (repo host : List ℕ) (at : Place) (number : ℕ) (end : ClientEnd) (text : List ℕ)
    → number ≡ at.number + 1 → IsBadLine repo at → PrintsBadLine number end text → Ends repo host at end [] text
bad_line_ends repo host at number (Script n) text e bad (same, printed) =
    (refl, same ∙ e, printed ∙ ap bad_line (sym same), bad)
bad_line_ends repo host at number WriteFault text e bad p =
    inr (inr (refl, bad, subst (λ (n : ℕ). IsPartOf text (bad_line n)) e p))
bad_line_ends repo host at number Memory text e bad p = (p, inl refl)
bad_line_ends repo host at number ReadFault text e bad p = absurd p
bad_line_ends repo host at number BadReply text e bad p = absurd p
bad_line_ends repo host at number Done text e bad p = absurd p
bad_line_ends repo host at number Refused text e bad p = absurd p

-- a line that does nothing was passed over
pub skip_acts : (repo host : List ℕ) (at : Place) (rest held : List ℕ) (left : Option (List ℕ)) (txn : Option Txn)
    → AsksFor repo at actions.Skip rest → at.txn ≡ txn → IsFrameStream held left at.responses → Acts repo host at rest held left (Ok txn) [] []
skip_acts repo host at rest held left txn asks same stream = (at.responses, inl (asks, refl, sym same, refl, refl), stream)

-- a line sent its call
pub call_acts : (repo host : List ℕ) (at : Place) (rest held : List ℕ) (left : Option (List ℕ)) (call : Call) (txn : Option Txn) (result : Result (Option Txn) ClientEnd)
    (sent text : List ℕ) → AsksFor repo at (actions.Send call) rest → at.txn ≡ txn → Answers host call txn at.responses held left result sent text
    → Acts repo host at rest held left result sent text
call_acts repo host at rest held left call txn (Ok next) sent text asks same (reply, later, answer, e, s, t, stream) =
    (later, inr (call, reply, asks, answer, e ∙ ap (λ (x : Option Txn). txn_behind x call reply) (sym same), s, t), stream)
call_acts repo host at rest held left call txn (Err Refused) sent text asks same (status, body, later, s, answer, t) =
    (call, status, body, later, (rest, asks), s, answer, t)
call_acts repo host at rest held left call txn (Err BadReply) sent text asks same (s, t, none) = (call, (rest, asks), s, t, none)
call_acts repo host at rest held left call txn (Err ReadFault) sent text asks same (t, s) = (t, inr (call, (rest, asks), s))
call_acts repo host at rest held left call txn (Err WriteFault) sent text asks same (inl (s, t)) = inl (call, (rest, asks), s, t)
call_acts repo host at rest held left call txn (Err WriteFault) sent text asks same (inr (got, later, s, answer, t)) =
    inr (inl (call, got, later, (rest, asks), s, answer, t))
call_acts repo host at rest held left call txn (Err Memory) sent text asks same (t, inl s) = (t, inl s)
call_acts repo host at rest held left call txn (Err Memory) sent text asks same (t, inr s) = (t, inr (call, (rest, asks), s))
call_acts repo host at rest held left call txn (Err Done) sent text asks same x = absurd x
call_acts repo host at rest held left call txn (Err (Script n)) sent text asks same x = absurd x

-- a line was read and done
pub line_turns : (repo host : List ℕ) (at : Place) (rest : List ℕ) (reader : Reader) (input : Option (List ℕ)) (held : List ℕ) (left : Option (List ℕ))
    (result : Result (Option Txn) ClientEnd) (sent text : List ℕ) → reader.number ≡ at.number + 1 → IsStream reader.held input rest
    → Acts repo host at rest held left result sent text → Turns repo host at reader input held left result sent text
line_turns repo host at rest reader input held left (Ok txn) sent text n stream (later, move, frames) = (rest, later, move, n, stream, frames)
line_turns repo host at rest reader input held left (Err end) sent text n stream ends = ends

-- the reader told a bad line
pub bad_command : (number count : ℕ) (b : List ℕ) (reader : Reader) (left : Option (List ℕ)) (fault : ScriptFault) (n : ℕ)
    → fault ≡ faults.BadLine n → number ≡ count → NextCommand number b reader left (Err fault) → (n ≡ count + 1) × IsBad count b
bad_command number count b reader left fault n e same next =
    subst (λ (m : ℕ). NextCommand m b reader left (Err (faults.BadLine n))) same (subst (λ (f : ScriptFault). NextCommand number b reader left (Err f)) e next)

-- the reader told the end
pub no_command : (number : ℕ) (b : List ℕ) (reader : Reader) (left : Option (List ℕ)) (told : Option Command)
    → told ≡ None → NextCommand number b reader left (Ok told) → b ≡ []
no_command number b reader left None e next = next.0
no_command number b reader left (Some c) e next = cc

-- the reader told a command
pub a_command : (number count : ℕ) (b : List ℕ) (reader : Reader) (left : Option (List ℕ)) (told : Option Command) (command : Command)
    → told ≡ Some command → number ≡ count → NextCommand number b reader left (Ok told)
    → (rest : List ℕ) × IsNext count b command rest × (reader.number ≡ count + 1) × IsStream reader.held left rest
a_command number count b reader left told command e same next =
    subst (λ (n : ℕ). NextCommand n b reader left (Ok (Some command))) same (subst (λ (o : Option Command). NextCommand number b reader left (Ok o)) e next)
