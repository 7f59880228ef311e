-- What a session writes for the answers to a script is printed answer by answer.
use Rattle.std.proofs.Common.{◌≡◌, ◌+◌, ℕ, List, [], ◌∷◌, ◌++◌, Bool, true, false, Option, if◌then◌else◌, refl, sym, ap, ◌∙◌, subst, append-nil, inl, inr}
use Rattle.std.specs.List.{flat_map}
use Rattle.std.proofs.lemmas.List.{append_assoc}
use Rattle.http_frame.specs.Laws.{WrittenResponseIsFrame}
use Rattle.http_frame.specs.Messages.{SeenResponse}
use Rattle.http_frame.specs.WrittenResponses.{read_back}
use Rattle.rdf_term.specs.Buffer.{Buffer}
use Rattle.journal.specs.declared.txn.Txn.{Txn}
use Rattle.api_replies.specs.Responses.{response}
use Rattle.reply_reading.specs.Readings.{is_success}
use Rattle.reply_reading.specs.declared.got.Got.TheVariants as gots
use Rattle.client_script.specs.declared.action.Action.{Action}
use Rattle.client_script.specs.declared.action.Action.TheVariants.{End, Skip, Send}
use Rattle.client_script.specs.Printed.{printed, refused_line}
use Rattle.rdf_client.specs.Exchanges.{IsAnswer, request_bytes}
use Rattle.rdf_client.specs.Runs.{Asks, HasEnded, Place, Runs, stops, skips, txn_behind}
use Rattle.rdf_client.specs.Served.{Answer, IsAnswered, RefusalIsGot, ReplyIsPrinted, answer_bytes, answer_text, call_of, stands}
use Rattle.rdf_client.specs.Served.{ends as all_ends, skips as all_skips, grants, refuses}
use Rattle.rdf_client.specs.declared.end.ClientEnd.{ClientEnd}
use Rattle.rdf_client.specs.declared.end.ClientEnd.TheVariants.{Done, Refused}
use Rattle.rdf_client.proofs.ServedLemmas.{body_kept}

pub refusal_is_got : WrittenResponseIsFrame → RefusalIsGot
refusal_is_got frames call repos reply minor closes more it =
    let r : SeenResponse = response call repos reply in
    record {
      seen = read_back r closes;
      frame = frames r minor closes more it.readable;
      got_is = (it.refused, refl, sym (body_kept call repos reply));
    }

-- where a script stands, before these responses
abbrev pub before : ℕ → Option Txn → List ℕ → List ℕ → Place
before number txn script responses = record { number = number; txn = txn; script = script; responses = responses }

asked : (repo : List ℕ) (number : ℕ) (txn : Option Txn) (script : List ℕ) (action : Action) (rest responses : List ℕ)
    → Asks repo (stands number txn script) action rest → Asks repo (before number txn script responses) action rest
asked repo number txn script action rest responses a = record { command = a.command; line = a.line; action_is = a.action_is }

ended : (repo : List ℕ) (number : ℕ) (txn : Option Txn) (script responses : List ℕ) → HasEnded repo (stands number txn script) → HasEnded repo (before number txn script responses)
ended repo number txn script responses (inl empty) = inl empty
ended repo number txn script responses (inr quit) = inr (quit.0, asked repo number txn script End quit.0 responses quit.1)

-- what a client sends and prints for these answers
abbrev pub sent_for : List ℕ → List Answer → List ℕ
sent_for host answers = flat_map (λ (a : Answer). request_bytes (call_of a) host) answers

chosen : (b : Bool) (x y rest : List ℕ) → b ≡ true → x ++ rest ≡ (if b then x else y) ++ rest
chosen b x y rest is = sym (ap (λ (t : Bool). (if t then x else y) ++ rest) is)

other : (b : Bool) (x y : List ℕ) → b ≡ false → (if b then x else y) ++ [] ≡ y
other b x y is = ap (λ (t : Bool). (if t then x else y) ++ []) is ∙ append-nil y

pub answered : ReplyIsPrinted → RefusalIsGot → (repo host : List ℕ) (number : ℕ) (txn : Option Txn) (script : List ℕ) (end : ClientEnd) (answers : List Answer)
    (more : List ℕ) → IsAnswered repo number txn script end answers
    → Runs repo host (before number txn script (flat_map answer_bytes answers ++ more)) end (sent_for host answers) (flat_map answer_text answers)
answered printed_reply refused_reply repo host number txn script Done [] more (all_ends h) = stops (refl, refl, ended repo number txn script more h)
answered printed_reply refused_reply repo host number txn script end answers more (all_skips rest asks h) =
    skips rest (asked repo number txn script Skip rest (flat_map answer_bytes answers ++ more) asks)
    (answered printed_reply refused_reply repo host (number + 1) txn rest end answers more h)
answered printed_reply refused_reply repo host number txn script end (_ ∷ _) more (grants a answers rest asks served h) =
    let later : List ℕ = flat_map answer_bytes answers ++ more in
    let all : List ℕ = flat_map answer_bytes (a ∷ answers) ++ more in
    let text : List ℕ = flat_map answer_text answers in
    let r : SeenResponse = response (call_of a) a.repos a.reply in
    let run = printed_reply repo host (before number txn script all) rest a.id a.op a.form a.repos a.reply a.minor a.closes later
    (asked repo number txn script (Send (call_of a)) rest all asks) served (append_assoc (answer_bytes a) (flat_map answer_bytes answers) more) end (sent_for host answers) text
    (answered printed_reply refused_reply repo host (number + 1) (txn_behind txn (call_of a) a.reply) rest end answers more h) in
    subst (λ (t : List ℕ). Runs repo host (before number txn script all) end (sent_for host (a ∷ answers)) t)
    (chosen (is_success r.status) (printed a.op a.reply) (refused_line r.status r.body) text served.granted) run
answered printed_reply refused_reply repo host number txn script Refused (_ ∷ []) more (refuses a rest asks refused) =
    let all : List ℕ = flat_map answer_bytes (a ∷ []) ++ more in
    let r : SeenResponse = response (call_of a) a.repos a.reply in
    let body : Buffer = record { items = r.body; spare = 0 } in
    let got = refused_reply (call_of a) a.repos a.reply a.minor a.closes more refused in
    stops (
      call_of a,
      r.status,
      body,
      more,
      (rest, asked repo number txn script (Send (call_of a)) rest all asks),
      append-nil (request_bytes (call_of a) host),
      subst (λ (b : List ℕ). IsAnswer (call_of a) (b ++ more) (gots.Refused r.status body) more) (sym (append-nil (answer_bytes a))) got,
      other (is_success r.status) (printed a.op a.reply) (refused_line r.status r.body) refused.refused,
    )
