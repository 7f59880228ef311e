-- The answer to a call by what came of its entries.
use Rattle.std.proofs.Common.{◌≡◌, ℕ, ◌≤◌, ◌<◌, Bool, true, false, IsTrue, zero, suc, if◌then◌else◌, List, [], ◌∷◌, ◌++◌, length, map, Some, None, Result, Ok, Err, IfOk, slice_get, get_or, position, arith, ◌^◌, refl, sym, ◌∙◌, ap, subst, inl, inr, append-nil}
use Rattle.std.specs.Ordering.{eq_by_cmp}
use Rattle.std.proofs.lemmas.List.Quantifiers.{position-Some}
use Rattle.std.proofs.lemmas.List.Sums.{position_or_len_is}
use Rattle.rdf_term.specs.Buffer.{Buffer}
use Rattle.rdf_term.specs.SameLaws.{text_same}
use Rattle.rdf_term.specs.TextOrder.{text_cmp}
use Rattle.rdf_term.specs.declared.pattern.Pattern.{Pattern}
use Rattle.rdf_term.specs.Statement.{Statement}
use Rattle.query_model.specs.declared.query.Query.{Query}
use Rattle.query_model.specs.Solutions.{lookups_of}
use Rattle.journal.specs.declared.ask.Ask.{Ask}
use Rattle.journal.specs.declared.ask.Ask.TheVariants as asks
use Rattle.journal.specs.declared.level.Level.TheVariants.{ReadCommitted}
use Rattle.journal.specs.declared.txn.Txn.{Txn}
use Rattle.journal.specs.Levels.{is_level}
use Rattle.journal.specs.declared.entry.Entry.{Entry}
use Rattle.journal.specs.declared.entry.Mark.{Mark}
use Rattle.journal.specs.declared.op.NamesOp.TheVariants as names_op
use Rattle.journal.specs.declared.op.Op.{Op}
use Rattle.journal.specs.declared.op.Op.TheVariants.{Begin, Read, Step, Write, Commit, Rollback, Ping, Names}
use Rattle.journal.specs.declared.reply.Reply.{Reply}
use Rattle.journal.specs.declared.reply.Reply.TheVariants as replies
use Rattle.journal.specs.Journal.{entry_of}
use Rattle.media.specs.declared.form.Form.{Form}
use Rattle.http_frame.specs.Messages.{SeenRequest, SeenResponse}
use Rattle.http_frame.specs.declared.message.Head.{Head}
use Rattle.iso_txn.specs.Repository.{PinnedRead}
use Rattle.repo_api.specs.Calls.{IsCallOf}
use Rattle.api_calls.specs.Calls.{entries_of, ops_of, steps_from}
use Rattle.api_calls.specs.declared.call.Call.{Call}
use Rattle.api_calls.specs.declared.call.Call.TheVariants.{On}
use Rattle.api_replies.specs.Fits.{Fits, FitsOp}
use Rattle.api_replies.specs.Laws.{LastReplyFits, ShortIsResponse}
use Rattle.api_replies.specs.Parts.{no_memory}
use Rattle.api_replies.specs.Responses.{response}
use Rattle.api_replies.specs.Shorts.{TakesMemory, short_of, short_response}
use Rattle.api_replies.specs.declared.short.Short.{Short as ShortCase}
use Rattle.api_replies.specs.declared.short.Short.TheVariants.{JournalFull as ShortFull, OutOfMemory}
use Rattle.repo_store.specs.Stores.{answered}
use Rattle.session.specs.Answering.{AnswersBy, FitsEntered, Finishes, IsAnswered, IsLack, IsOn, IsWhole, IsWritten, ask_of, id_of}
use Rattle.session.specs.Entering.{Asks, Enters, IsAskOf, IsEntered}
use Rattle.session.specs.Marks.{Journals}
use Rattle.session.proofs.MarkLemmas.{moves_none}
use Rattle.session.specs.Stores.{Replies}
use Rattle.session.specs.Turns.{Ground, number_of, repo_of, StandAt, IsWhole as IsWholeCall, IsPart, IsReply, AreUnchanging, IsRight, is_reading, journal_full, sent}
use Rattle.session.specs.declared.answer.Answered.{Answered as AnsweredRequest}
use Rattle.session.specs.declared.answer.Written.{Written}
use Rattle.session.specs.declared.answer.Written.TheVariants.{Short}
use Rattle.session.specs.declared.enter.Entered.{Entered}
use Rattle.session.specs.declared.enter.Entered.TheVariants.{Replied, Pinned, Full, NoMemory}
use Rattle.session.specs.declared.report.Outcome.{Outcome}
use Rattle.session.specs.declared.report.Outcome.TheVariants.{Answered, JournalFull, NoMemory as OutcomeNoMemory}

-- the reply is answered without memory
pub replied_short : ShortIsResponse → (head : Head) (names : List (List ℕ)) (id : List ℕ) (op : Op) (form : Form) (x : Reply) (s : ShortCase)
    → short_of op x ≡ Some s → Finishes head names (On id op form) (Replied x) Answered (Short s)
replied_short law head names id op form x s short g r repo places is at same here e = (
  response (On id op form) g.names x,
  (On id op form, is, at, e.0, (x, e.1, refl)),
  sym (law id op form g.names x s short),
)

-- the entries of an op that asks all ask
AllRead : List Entry → Type 0
AllRead [] = Unit {0}
AllRead (e ∷ es) = IsTrue (is_reading e.op) × AllRead es

read_steps : (seat : ℕ) (t : Txn) (q : Query) (s n : ℕ) → AllRead (map (entry_of seat) (steps_from t q s n))
unfolding AllRead
read_steps seat t q s zero = tt
read_steps seat t q s (suc n) = (refl, read_steps seat t q (suc s) n)

read_ops : (seat : ℕ) (op : Op) → IsTrue (is_reading op) → AllRead (map (entry_of seat) (ops_of op))
unfolding AllRead
read_ops seat (Begin level) h = cc
read_ops seat (Read None ask) h = (refl, tt)
read_ops seat (Read (Some t) (asks.Query q)) h = go (is_level t.level ReadCommitted) where
  go : (b : Bool) → AllRead (map (entry_of seat) (if b then steps_from t q 0 (lookups_of q) else Read (Some t) (asks.Query q) ∷ []))
  go true = read_steps seat t q 0 (lookups_of q)
  go false = (refl, tt)
read_ops seat (Read (Some t) (asks.List s p o contexts)) h = (refl, tt)
read_ops seat (Read (Some t) (asks.Size contexts)) h = (refl, tt)
read_ops seat (Read (Some t) asks.Contexts) h = (refl, tt)
read_ops seat (Step t q n) h = (refl, tt)
read_ops seat (Write txn changes) h = cc
read_ops seat (Commit t) h = cc
read_ops seat (Rollback t) h = cc
read_ops seat (Ping t) h = cc
read_ops seat (Names names) h = (h, tt)

read_entries : (g : Ground) (repo : ℕ) (places : List ℕ) (es : List Entry) → StandAt (g.journals repo) places es → AllRead es → AreUnchanging g repo places es
unfolding AllRead
read_entries g repo [] [] s a = tt
read_entries g repo [] (e ∷ es) s a = absurd s
read_entries g repo (k ∷ ks) [] s a = absurd s
read_entries g repo (k ∷ ks) (e ∷ es) s a = (inl a.0, read_entries g repo ks es s.1 a.1)

-- where a Commit is refused by a conflict, it changes nothing
conflict_entry : (g : Ground) (repo seat : ℕ) (t : Txn) (p : Pattern) (q : Statement) (places : List ℕ)
    → StandAt (g.journals repo) places (entry_of seat (Commit t) ∷ []) → IsReply g repo places (replies.Conflict p q)
    → AreUnchanging g repo places (entry_of seat (Commit t) ∷ [])
conflict_entry g repo seat t p q [] s r = absurd s
conflict_entry g repo seat t p q (k ∷ j ∷ ks) s r = absurd s.1
conflict_entry g repo seat t p q (k ∷ []) s r = (inr (p, q, subst (λ (z : ℕ). Replies g.limits g.journals repo z (replies.Conflict p q)) (only r.before r.places_are) r.replied), tt) where
  only : (before : List ℕ) → k ∷ [] ≡ before ++ r.last ∷ [] → r.last ≡ k
  only [] e = cc
  only (x ∷ []) e = cc
  only (x ∷ y ∷ xs) e = cc

-- an op whose reply takes memory changes nothing
unchanging_op : (g : Ground) (repo seat : ℕ) (op : Op) (x : Reply) (places : List ℕ) → TakesMemory op x
    → StandAt (g.journals repo) places (map (entry_of seat) (ops_of op)) → IsReply g repo places x
    → AreUnchanging g repo places (map (entry_of seat) (ops_of op))
unfolding AllRead
unchanging_op g repo seat (Read txn ask) x places t s r = read_entries g repo places (map (entry_of seat) (ops_of (Read txn ask))) s (read_ops seat (Read txn ask) refl)
unchanging_op g repo seat (Step u q n) x places t s r = read_entries g repo places (map (entry_of seat) (ops_of (Step u q n))) s (read_ops seat (Step u q n) refl)
unchanging_op g repo seat (Names names_op.List) x places t s r = read_entries g repo places (map (entry_of seat) (ops_of (Names names_op.List))) s (refl, tt)
unchanging_op g repo seat (Names (names_op.Get a)) x places t s r = read_entries g repo places (map (entry_of seat) (ops_of (Names (names_op.Get a)))) s (refl, tt)
unchanging_op g repo seat (Commit u) (replies.Conflict p q) places t s r = conflict_entry g repo seat u p q places s r
unchanging_op g repo seat (Begin level) x places t s r = absurd t
unchanging_op g repo seat (Write txn changes) x places t s r = absurd t
unchanging_op g repo seat (Rollback u) x places t s r = absurd t
unchanging_op g repo seat (Ping u) x places t s r = absurd t
unchanging_op g repo seat (Names (names_op.Put a b)) x places t s r = absurd t
unchanging_op g repo seat (Names (names_op.Remove a)) x places t s r = absurd t
unchanging_op g repo seat (Names names_op.Clear) x places t s r = absurd t
unchanging_op g repo seat (Commit u) replies.Done places t s r = absurd t
unchanging_op g repo seat (Commit u) _ places t s r = absurd t

whole_part : (g : Ground) (repo : ℕ) (c : Call) (places : List ℕ) → IsWholeCall g repo c places → IsPart g repo c places []
whole_part g repo c places w = record { made = entries_of c (g.seats repo); stand = w; parts = sym (append-nil (entries_of c (g.seats repo))) }

-- the reply is answered with memory, if that is found
pub replied_whole : {E : Type 0} (head : Head) (names : List (List ℕ)) (id : List ℕ) (op : Op) (form : Form) (x : Reply) (text : Result Buffer E) (outcome : Outcome) (w : Written)
    → TakesMemory op x → IfOk text (λ it. it.items ≡ sent head (response (On id op form) names x)) → IsWhole text outcome w
    → Finishes head names (On id op form) (Replied x) outcome w
unfolding whole_part short_response
replied_whole head names id op form x (Ok text) outcome w t items is g r repo places call at same here e =
    let wanted = On id op form in
    subst (λ (o : Outcome). (it : SeenResponse) × IsRight g r repo o places it × IsWritten id head w it) (sym is.0)
    (subst (λ (z : Written). (it : SeenResponse) × IsRight g r repo Answered places it × IsWritten id head z it) (sym is.1) (
      response wanted names x,
      (wanted, call, at, e.0, (x, e.1, ap (λ (z : List (List ℕ)). response wanted z x) (sym same))),
      items,
    ))
replied_whole head names id op form x (Err lack) outcome w t items is g r repo places call at same here e =
    let wanted = On id op form in
    subst (λ (o : Outcome). (it : SeenResponse) × IsRight g r repo o places it × IsWritten id head w it) (sym is.0)
    (subst (λ (z : Written). (it : SeenResponse) × IsRight g r repo OutcomeNoMemory places it × IsWritten id head z it) (sym is.1) (
      no_memory,
      (refl, inr (wanted, call, at, [], whole_part g repo wanted places e.0, unchanging_op g repo (g.seats repo) op x places t e.0 e.1)),
      refl,
    ))

-- an op asks one thing
one_ask : (op : Op) (ask other : Ask) → IsAskOf op ask → IsAskOf op other → ask ≡ other
one_ask (Read txn asked) ask other a b = sym a ∙ b
one_ask (Begin level) ask other a b = absurd a
one_ask (Step t q n) ask other a b = absurd a
one_ask (Write txn changes) ask other a b = absurd a
one_ask (Commit t) ask other a b = absurd a
one_ask (Rollback t) ask other a b = absurd a
one_ask (Ping t) ask other a b = absurd a
one_ask (Names names) ask other a b = absurd a

-- what is found in what is pinned is answered, if memory is found
pub pinned_whole : {E : Type 0} (head : Head) (names : List (List ℕ)) (id : List ℕ) (op : Op) (form : Form) (p : PinnedRead) (ask : Ask) (text : Result Buffer E)
    (outcome : Outcome) (w : Written) → Asks (On id op form) ask → IfOk text (λ it. it.items ≡ sent head (response (On id op form) names (answered p ask)))
    → IsWhole text outcome w → Finishes head names (On id op form) (Pinned p) outcome w
unfolding short_response
pinned_whole head names id op form p ask (Ok text) outcome w asked items is g r repo places call at same here e =
    let wanted = On id op form in
    let reply : IsReply g repo places (answered p ask) = subst (λ (z : Ask). IsReply g repo places (answered p z)) (one_ask op e.3.0 ask e.3.1 asked) e.3.2 in
    subst (λ (o : Outcome). (it : SeenResponse) × IsRight g r repo o places it × IsWritten id head w it) (sym is.0)
    (subst (λ (z : Written). (it : SeenResponse) × IsRight g r repo Answered places it × IsWritten id head z it) (sym is.1) (
      response wanted names (answered p ask),
      (wanted, call, at, e.0, (answered p ask, reply, ap (λ (z : List (List ℕ)). response wanted z (answered p ask)) (sym same))),
      items,
    ))
pinned_whole head names id op form p ask (Err lack) outcome w asked items is g r repo places call at same here e =
    let wanted = On id op form in
    subst (λ (o : Outcome). (it : SeenResponse) × IsRight g r repo o places it × IsWritten id head w it) (sym is.0)
    (subst (λ (z : Written). (it : SeenResponse) × IsRight g r repo OutcomeNoMemory places it × IsWritten id head z it) (sym is.1)
    (no_memory, (refl, inr (wanted, call, at, [], e.1, e.2)), refl))

-- the journal was full
pub full_finishes : (head : Head) (names : List (List ℕ)) (id : List ℕ) (op : Op) (form : Form) → Finishes head names (On id op form) Full JournalFull (Short ShortFull)
unfolding short_response
full_finishes head names id op form g r repo places call at same here e = (journal_full, (On id op form, call, at, e.0, e.1, e.2, e.3, refl), refl)

-- memory was wanted for the entries
pub none_finishes : (head : Head) (names : List (List ℕ)) (id : List ℕ) (op : Op) (form : Form) → Finishes head names (On id op form) NoMemory OutcomeNoMemory (Short OutOfMemory)
unfolding short_response
none_finishes head names id op form g r repo places call at same here e = (no_memory, (refl, inr (On id op form, call, at, e.0, e.1, e.2)), refl)

-- the same of a call that is this op on a repository
pub finishes_on : (head : Head) (names : List (List ℕ)) (c : Call) (op : Op) (entered : Entered) (outcome : Outcome) (w : Written) (on : IsOn c op)
    → Finishes head names (On on.0 op on.1) entered outcome w → Finishes head names c entered outcome w
finishes_on head names c op entered outcome w on f = subst (λ (z : Call). Finishes head names z entered outcome w) (sym on.2) f

-- what fits the call fits the op
pub fits_on : (c : Call) (op : Op) (x : Reply) → IsOn c op → Fits c x → FitsOp op x
fits_on c op x on f = subst (λ (z : Call). Fits z x) on.2 f

-- the same of what is entered so
pub finishes_of : (head : Head) (names : List (List ℕ)) (c : Call) (entered is : Entered) (outcome : Outcome) (w : Written) → entered ≡ is
    → Finishes head names c is outcome w → Finishes head names c entered outcome w
finishes_of head names c entered is outcome w e f = subst (λ (z : Entered). Finishes head names c z outcome w) (sym e) f

-- an op with an ask asks it
pub asked_by : (op : Op) (ask : Ask) → ask_of op ≡ Some ask → IsAskOf op ask
asked_by (Read txn asked) ask e = cc
asked_by (Begin level) ask e = cc
asked_by (Step t q n) ask e = cc
asked_by (Write txn changes) ask e = cc
asked_by (Commit t) ask e = cc
asked_by (Rollback t) ask e = cc
asked_by (Ping t) ask e = cc
asked_by (Names names) ask e = cc

get_there : (xs : List (List ℕ)) (n : ℕ) (y : List ℕ) → slice_get xs n ≡ Some y → get_or xs n [] ≡ y
get_there [] n y e = cc
get_there (x ∷ xs) zero y e = cc
get_there (x ∷ xs) (suc n) y e = get_there xs n y e

-- the number of the repository of this ID is the first place at which it stands
pub number_is : (names : List (List ℕ)) (id : List ℕ) (n : ℕ) → position (λ name. eq_by_cmp text_cmp name id) names ≡ Some n
    → (n ≡ number_of names id) × (n < length names) × ((other : List ℕ) → slice_get names n ≡ Some other → other ≡ id)
number_is names id n e =
    let found = position-Some (λ name. eq_by_cmp text_cmp name id) names n [] e in (
      sym (position_or_len_is (λ name. eq_by_cmp text_cmp name id) names n [] (omega (arith, found.0)) found.2 (λ within. found.1)),
      found.0,
      λ other there.
          let same : get_or names n [] ≡ id = (text_same (get_or names n []) id).0 found.1 in
          sym (get_there names n other there) ∙ same,
    )

-- the entry that stands at the last of these places
stand_last : (journal : List Entry) (before : List ℕ) (last : ℕ) (es : List Entry) → StandAt journal (before ++ last ∷ []) es
    → (first : List Entry) × (e : Entry) × (es ≡ first ++ e ∷ []) × (slice_get journal last ≡ Some e)
stand_last journal [] last [] s = absurd s
stand_last journal [] last (e ∷ []) s = ([], e, refl, s.0)
stand_last journal [] last (e ∷ f ∷ es) s = absurd s.1
stand_last journal (k ∷ before) last [] s = absurd s
stand_last journal (k ∷ before) last (e ∷ es) s =
    let rest = stand_last journal before last es s.1 in
    (e ∷ rest.0, rest.1, ap (λ (z : List Entry). e ∷ z) rest.2, rest.3)

-- the reply of the last entry of a call fits the call
fits_reply : LastReplyFits → (g : Ground) (repo : ℕ) (c : Call) (places : List ℕ) (x : Reply) → IsWholeCall g repo c places → IsReply g repo places x
    → length (g.journals repo) ≤ 2 ^ 62 → Fits c x
fits_reply law g repo c places x w r few =
    let s : StandAt (g.journals repo) (r.before ++ r.last ∷ []) (entries_of c (g.seats repo)) =
    subst (λ (z : List ℕ). StandAt (g.journals repo) z (entries_of c (g.seats repo))) r.places_are w in
    let there = stand_last (g.journals repo) r.before r.last (entries_of c (g.seats repo)) s in
    law.at g.limits (g.journals repo) r.last c (g.seats repo) there.0 there.1 x there.2 there.3 few r.replied

pub fits_entered : LastReplyFits → (g : Ground) (repo : ℕ) (c : Call) (places : List ℕ) (e : Entered) → g.limits.places ≤ 2 ^ 62 → IsEntered g repo c places e
    → FitsEntered c e
fits_entered law g repo c places (Replied x) few h = fits_reply law g repo c places x h.0 h.1 (omega (arith, few, h.2))
fits_entered law g repo c places (Pinned p) few h =
    (h.3.0, h.3.1, fits_reply law g repo c places (answered p h.3.0) h.0 h.3.2 (omega (arith, few, h.4)))
fits_entered law g repo c places Full few h = tt
fits_entered law g repo c places NoMemory few h = tt

-- a request was answered by its entries
pub answers_on : (g : Ground) (old : Journals) (r : SeenRequest) (head : Head) (repo : ℕ) (id : List ℕ) (op : Op) (form : Form) (c : Call) (marks marks' : List Mark)
    (e : Entered) (outcome : Outcome) (w : Written) → c ≡ On id op form
    → (repo ≡ number_of g.names id) × (repo < length g.names) × ((other : List ℕ) → slice_get g.names repo ≡ Some other → other ≡ id)
    → r.head ≡ head → IsCallOf r g.names (Ok c) → Enters g old repo (On id op form) marks marks' e → Finishes head g.names c e outcome w
    → AnswersBy g old r marks marks' (record { repo = repo; outcome = outcome; text = w })
answers_on g old r head repo id op form c marks marks' e outcome w is number here call x f =
    let entered : IsEntered g repo c x.places e = subst (λ (z : Call). IsEntered g repo z x.places e) (sym is) x.entered in
    let at : repo ≡ repo_of g.names c = number.0 ∙ ap (λ (z : Call). repo_of g.names z) (sym is) in
    let done = f g r repo x.places call at refl here entered in
    let written : IsWritten id head w done.0 = subst (λ (z : Call). IsWritten (id_of z) head w done.0) is done.2 in (
      done.0,
      record { places = x.places; marks_are = x.marks_are; moves = x.moves; room = x.room; right = done.1 },
      number.1,
      λ other there.
          subst (λ (z : List ℕ). IsWritten z r.head w done.0) (sym (number.2 other there))
          (subst (λ (z : Head). IsWritten id z w done.0) (sym here) written),
    )

-- a request without entries was answered
answers_none : (g : Ground) (r : SeenRequest) (marks : List Mark) (it : AnsweredRequest) (outcome : Outcome) (response : SeenResponse) → it.repo ≡ 0
    → 0 < length g.names → it.outcome ≡ outcome → IsRight g r 0 outcome [] response → ((id : List ℕ) → IsWritten id r.head it.text response)
    → AnswersBy g g.journals r marks marks it
answers_none g r marks it outcome response zero_is some same right written = (
  response,
  record {
    places = [];
    marks_are = sym (append-nil marks);
    moves = moves_none g.seats g.journals;
    room = tt;
    right = subst (λ (n : ℕ). IsRight g r n it.outcome [] response) (sym zero_is) (subst (λ (o : Outcome). IsRight g r 0 o [] response) (sym same) right);
  },
  omega (arith, zero_is, some),
  λ id there. written id,
)

-- memory was wanted before any entry was made
pub answers_lack : (g : Ground) (r : SeenRequest) (marks : List Mark) (it : AnsweredRequest) → 0 < length g.names → IsLack it → AnswersBy g g.journals r marks marks it
unfolding short_response
answers_lack g r marks it some lack =
    answers_none g r marks it OutcomeNoMemory no_memory lack.0 some lack.1 (refl, inl refl)
    (λ id. subst (λ (w : Written). IsWritten id r.head w no_memory) (sym lack.2) refl)

-- a request is answered without entries
pub answers_plain : (g : Ground) (r : SeenRequest) (marks : List Mark) (it : AnsweredRequest) (outcome : Outcome) (response : SeenResponse) → 0 < length g.names
    → IsRight g r 0 outcome [] response → IsAnswered r.head response outcome it → AnswersBy g g.journals r marks marks it
answers_plain g r marks it outcome response some right a = elim a [
  | inl x ↦ answers_none g r marks it outcome response x.0 some x.1 right (λ id. subst (λ (w : Written). IsWritten id r.head w response) (sym x.3) x.4)
  | inr lack ↦ answers_lack g r marks it some lack
]
