-- The replies to entries fit the calls that make them.
use Rattle.std.proofs.Common.{◌≡◌, ℕ, zero, suc, ◌+◌, ◌<◌, ◌≤◌, ◌^◌, Bool, true, false, inl, inr, List, [], ◌∷◌, ◌++◌, Option, Some, None, map, length, take, refl, ap, subst, ◌∙◌, sym, arith, nat_eq, nat_le, if◌then◌else◌, eq-eqb}
use Rattle.std.specs.Prelude.{find, IsSome, slice_get}
use Rattle.std.specs.List.{list_all, list_any}
use Rattle.std.specs.Option.{option_map}
use Rattle.std.proofs.lemmas.Option.{slice_get_within}
use Rattle.std.proofs.lemmas.List.{length-take-le}
use Rattle.rdf_term.specs.declared.pattern.Pattern.{Pattern}
use Rattle.rdf_term.specs.Statement.{Statement}
use Rattle.rdf_term.specs.Matching.{matches}
use Rattle.change_set.specs.declared.change.Change.{Change}
use Rattle.query_model.specs.declared.query.Query.{Query}
use Rattle.query_model.specs.declared.query.Query.TheVariants.{Select, Ask as AskQuery, Construct}
use Rattle.query_model.specs.declared.found.Found.TheVariants as answer
use Rattle.query_model.specs.Solutions.{lookups_of}
use Rattle.query_model.specs.Found as query
use Rattle.journal.specs.declared.level.Level.{Level}
use Rattle.journal.specs.declared.level.Level.TheVariants.{NoIsolation, ReadUncommitted, ReadCommitted, SnapshotRead, Snapshot, Serializable}
use Rattle.journal.specs.declared.txn.Txn.{Txn}
use Rattle.journal.specs.declared.ask.Ask.{Ask}
use Rattle.journal.specs.declared.ask.Ask.TheVariants as ask
use Rattle.journal.specs.declared.op.NamesOp.{NamesOp}
use Rattle.journal.specs.declared.op.NamesOp.TheVariants as name
use Rattle.journal.specs.declared.op.Op.{Op}
use Rattle.journal.specs.declared.op.Op.TheVariants.{Begin, Read, Step, Write, Commit, Rollback, Ping, Names}
use Rattle.journal.specs.declared.entry.Entry.{Entry}
use Rattle.journal.specs.declared.limits.Limits.{Limits}
use Rattle.journal.specs.declared.reply.Reply.{Reply}
use Rattle.journal.specs.declared.reply.Reply.TheVariants as reply
use Rattle.journal.specs.Levels.{commits_at_once, is_level}
use Rattle.journal.specs.Past.{Judged, is_open, open_txns, own_changes}
use Rattle.journal.specs.Committed.{committed_changes, is_prefix, prefixes_of}
use Rattle.journal.specs.Views.{view_at}
use Rattle.journal.specs.Found.{answer_of, found}
use Rattle.journal.specs.Conflicts.{clash_at, clash_by_level, observed, with_pattern}
use Rattle.journal.specs.Replies.{commit_reply, fits, name_reply, names_reply, named_txn, reply_to, step_pasts, steps_reply, write_reply}
use Rattle.journal.specs.Journal.{judged, reply_at, reply_next}
use Rattle.api_calls.specs.declared.call.Call.{Call}
use Rattle.api_calls.specs.declared.call.Call.TheVariants.{Protocol, Repositories, On}
use Rattle.api_calls.specs.Calls.{entries_of, ops_of, steps_from}
use Rattle.api_replies.specs.Fits.{Fits, FitsAsk, FitsCommit, FitsLive, FitsNames, FitsOp, FitsQuery, FitsStep, FitsWrite}
use Rattle.api_replies.specs.Laws.{LastReplyFits}
use Rattle.api_replies.proofs.RowLemmas.{rows_long}

-- What is found fits

found_query : (q : Query) (views : List (List Statement)) (most : ℕ) → FitsQuery q (answer_of (query.found q views most))
found_query (Select distinct vars group cut) views most = at (query.are_more most group views)
  where
    at : (many : Bool) → FitsQuery (Select distinct vars group cut) (answer_of (if many then None else Some (answer.Table (record { vars = vars; rows = query.cut_rows cut (query.selected distinct vars group views) }))))
    at true = tt
    at false = (refl, rows_long cut distinct vars group views)
found_query (AskQuery group) views most = tt
found_query (Construct template group cut) views most = at (query.are_more most group views)
  where
    at : (many : Bool) → FitsQuery (Construct template group cut) (answer_of (if many then None else Some (answer.Quads (query.constructed template group cut views))))
    at true = tt
    at false = tt

found_fits : (a : Ask) (views : List (List Statement)) (most : ℕ) → FitsAsk a (found a views most)
unfolding found
found_fits (ask.Query q) views most = found_query q views most
found_fits (ask.List s p o contexts) views most = tt
found_fits (ask.Size contexts) views most = tt
found_fits ask.Contexts views most = tt

step_fits : (q : Query) (r : Reply) → FitsQuery q r → FitsStep q r
step_fits q (reply.Begun t) h = h
step_fits q reply.Done h = tt
step_fits q (reply.Table table) h = h
step_fits q (reply.Truth truth) h = h
step_fits q (reply.Quads quads) h = h
step_fits q (reply.Count count) h = h
step_fits q (reply.Contexts names) h = h
step_fits q (reply.Prefixes pairs) h = h
step_fits q (reply.Prefix b) h = h
step_fits q reply.NoPrefix h = h
step_fits q reply.NoTransaction h = h
step_fits q reply.TooManyOpen h = h
step_fits q (reply.Conflict pattern quad) h = h
step_fits q reply.TooLarge h = h
step_fits q reply.TooManyRows h = h

-- The replies to ops fit

find_passes : {X : Type 0} (test : X → Bool) (xs : List X) (x : X) → find test xs ≡ Some x → test x ≡ true
find_passes test [] x e = cc
find_passes test (y ∷ ys) x e = at (test y) refl e (find_passes test ys x)
  where
    at : (b : Bool) → test y ≡ b → (if b then Some y else find test ys) ≡ Some x → (find test ys ≡ Some x → test x ≡ true) → test x ≡ true
    at true h k later = let same : y ≡ x = cc in ap test (sym same) ∙ h
    at false h k later = later k

write_fits : (limits : Limits) (past : List Judged) (txn : Option Txn) (changes : List Change) → FitsWrite txn (write_reply limits past txn changes)
write_fits limits past txn changes = at (commits_at_once txn) refl (fits limits (committed_changes limits past ++ changes))
  where
    at : (b : Bool) → commits_at_once txn ≡ b → (room : Bool) → FitsWrite txn (if b then if room then reply.Done else reply.TooLarge else reply.Done)
    at true e true = tt
    at true e false = e
    at false e room = tt

no_clash_fits : (limits : Limits) (past : List Judged) (t : Txn) → FitsCommit t (commit_reply limits past t None)
no_clash_fits limits past t = at (fits limits (committed_changes limits past ++ own_changes limits past t))
  where
    at : (room : Bool) → FitsCommit t (if room then reply.Done else reply.TooLarge)
    at true = tt
    at false = tt

pattern_fits : (limits : Limits) (past : List Judged) (t : Txn) → t.level ≡ Serializable → (patterns : List Pattern) (least : Option Statement)
    → FitsCommit t (commit_reply limits past t (with_pattern patterns least))
pattern_fits limits past t e patterns None = no_clash_fits limits past t
pattern_fits limits past t e patterns (Some q) = at (find (λ p. matches p q) patterns) refl
  where
    at : (o : Option Pattern) → find (λ p. matches p q) patterns ≡ o → FitsCommit t (commit_reply limits past t (option_map (λ p. (p, q)) o))
    at None h = no_clash_fits limits past t
    at (Some p) h = (e, find_passes (λ p. matches p q) patterns p h)

commit_fits : (limits : Limits) (past : List Judged) (t : Txn) (level : Level) → t.level ≡ level
    → FitsCommit t (commit_reply limits past t (clash_by_level level limits past t))
commit_fits limits past t NoIsolation e = no_clash_fits limits past t
commit_fits limits past t ReadUncommitted e = no_clash_fits limits past t
commit_fits limits past t ReadCommitted e = no_clash_fits limits past t
commit_fits limits past t SnapshotRead e = no_clash_fits limits past t
commit_fits limits past t Snapshot e = no_clash_fits limits past t
commit_fits limits past t Serializable e = pattern_fits limits past t e (observed limits past t) _

clash_fits : (limits : Limits) (past : List Judged) (t : Txn) → FitsCommit t (commit_reply limits past t (clash_at limits past t))
unfolding clash_at
clash_fits limits past t = commit_fits limits past t t.level refl

names_fit : (limits : Limits) (pairs : List (List ℕ × List ℕ)) (names : NamesOp) → FitsNames names (names_reply limits pairs names)
names_fit limits pairs name.List = tt
names_fit limits pairs (name.Get a) = at (find (is_prefix a) pairs)
  where
    at : (o : Option (List ℕ × List ℕ)) → FitsNames (name.Get a) (name_reply o)
    at None = tt
    at (Some pair) = tt
names_fit limits pairs (name.Put a b) = at (list_any (is_prefix a) pairs) (nat_le limits.names (length pairs))
  where
    at : (there full : Bool) → FitsNames (name.Put a b) (if there then reply.Done else if full then reply.TooLarge else reply.Done)
    at true full = tt
    at false true = tt
    at false false = tt
names_fit limits pairs (name.Remove a) = tt
names_fit limits pairs name.Clear = tt

-- a reply that fits where the transaction is open, and none where it isn't
live : (op : Op) (alive : Bool) (r : Reply) → IsSome (named_txn op) → FitsLive op r → FitsOp op (if alive then r else reply.NoTransaction)
live op true r some h = inl h
live op false r some h = inr (refl, some)

steps_fit : (limits : Limits) (t : Txn) (q : Query) (op : Op) (pasts : List (List Judged)) → IsSome (named_txn op)
    → ((r : Reply) → FitsQuery q r → FitsLive op r) → FitsOp op (steps_reply limits t q pasts)
steps_fit limits t q op pasts some h =
    live op (list_all (λ past. is_open limits past t) pasts) _ some (h _ (found_fits (ask.Query q) _ limits.rows))

either : (op : Op) (b : Bool) (x y : Reply) → FitsOp op x → FitsOp op y → FitsOp op (if b then x else y)
either op true x y h k = h
either op false x y h k = k

abbrev entry : ℕ → Op → Entry
entry seat op = record { seat = seat; op = op }

op_fits : (limits : Limits) (past : List Judged) (seat : ℕ) (op : Op) → length past < 2 ^ 62 → FitsOp op (reply_to limits past (entry seat op))
unfolding reply_to
op_fits limits past seat (Begin level) h = at (nat_le limits.txns (length (open_txns limits past)))
  where
    at : (b : Bool) → FitsOp (Begin level) (if b then reply.TooManyOpen else reply.Begun (record { place = length past; level = level }))
    at true = inl tt
    at false = inl (refl, h)
op_fits limits past seat (Read None a) h = inl (found_fits a (view_at limits past None ∷ []) limits.rows)
op_fits limits past seat (Read (Some t) a) h =
    live (Read (Some t) a) (is_open limits past t) _ refl (found_fits a (view_at limits past (Some t) ∷ []) limits.rows)
op_fits limits past seat (Step t q number) h =
    let op : Op = Step t q number in
    either op (is_open limits past t) _ reply.NoTransaction
    (either op (nat_eq (number + 1) (lookups_of q)) _ reply.Done
    (steps_fit limits t q op (step_pasts number seat past) refl (λ r k. step_fits q r k)) (inl tt))
    (inr (refl, refl))
op_fits limits past seat (Write None changes) h = inl (write_fits limits past None changes)
op_fits limits past seat (Write (Some t) changes) h =
    live (Write (Some t) changes) (is_open limits past t) _ refl (write_fits limits past (Some t) changes)
op_fits limits past seat (Commit t) h =
    live (Commit t) (is_open limits past t) _ refl (clash_fits limits past t)
op_fits limits past seat (Rollback t) h = live (Rollback t) (is_open limits past t) reply.Done refl tt
op_fits limits past seat (Ping t) h = live (Ping t) (is_open limits past t) reply.Done refl tt
op_fits limits past seat (Names names) h = inl (names_fit limits (prefixes_of limits past) names)

-- the last Step of a query fits the query
last_step_fits : (limits : Limits) (past : List Judged) (seat : ℕ) (t : Txn) (q : Query) (number : ℕ) → number + 1 ≡ lookups_of q
    → FitsOp (Read (Some t) (ask.Query q)) (reply_to limits past (entry seat (Step t q number)))
unfolding reply_to
last_step_fits limits past seat t q number e =
    let op : Op = Read (Some t) (ask.Query q) in
    either op (is_open limits past t) _ reply.NoTransaction
    (subst (λ (b : Bool). FitsOp op (if b then steps_reply limits t q (step_pasts number seat past) else reply.Done)) (sym (eq-eqb (number + 1) (lookups_of q) e))
    (steps_fit limits t q op (step_pasts number seat past) refl (λ r k. k)))
    (inr (refl, refl))

-- The last of a call's entries

nothing_last : {A : Type 0} {P : Type 0} (before : List A) (last : A) → [] ≡ before ++ last ∷ [] → P
nothing_last [] last e = cc
nothing_last (b ∷ bs) last e = cc

one_last : {A : Type 0} (x : A) (before : List A) (last : A) → x ∷ [] ≡ before ++ last ∷ [] → last ≡ x
one_last x [] last e = cc
one_last x (b ∷ bs) last e = nothing_last bs last (let tail : [] ≡ bs ++ last ∷ [] = cc in tail)

abbrev entries : ℕ → List Op → List Entry
entries seat ops = map (λ op. record { seat = seat; op = op }) ops

last_step : (seat : ℕ) (t : Txn) (q : Query) (from n : ℕ) (before : List Entry) (last : Entry)
    → entries seat (steps_from t q from n) ≡ before ++ last ∷ [] → (number : ℕ) × (last ≡ entry seat (Step t q number)) × (number + 1 ≡ from + n)
last_step seat t q from zero before last e = nothing_last before last e
last_step seat t q from (suc zero) before last e = (from, one_last _ before last e, omega arith)
last_step seat t q from (suc (suc n)) [] last e = absurd (let none : entries seat (steps_from t q (suc from) (suc n)) ≡ [] = cc in cc)
last_step seat t q from (suc (suc n)) (b ∷ bs) last e =
    let tail : entries seat (steps_from t q (suc from) (suc n)) ≡ bs ++ last ∷ [] = cc in
    let found = last_step seat t q (suc from) (suc n) bs last tail in
    (found.0, found.1, (let e = found.2 in omega arith))

ops_last : (limits : Limits) (past : List Judged) (seat : ℕ) (op : Op) (before : List Entry) (last : Entry)
    → entries seat (op ∷ []) ≡ before ++ last ∷ [] → length past < 2 ^ 62 → FitsOp op (reply_to limits past last)
ops_last limits past seat op before last e h =
    subst (λ (x : Entry). FitsOp op (reply_to limits past x)) (sym (one_last (entry seat op) before last e)) (op_fits limits past seat op h)

query_last : (limits : Limits) (past : List Judged) (seat : ℕ) (t : Txn) (q : Query) (steps : Bool) (before : List Entry) (last : Entry)
    → entries seat (if steps then steps_from t q 0 (lookups_of q) else Read (Some t) (ask.Query q) ∷ []) ≡ before ++ last ∷ []
    → length past < 2 ^ 62 → FitsOp (Read (Some t) (ask.Query q)) (reply_to limits past last)
query_last limits past seat t q true before last e h =
    let step = last_step seat t q 0 (lookups_of q) before last e in
    let number : step.0 + 1 ≡ lookups_of q = (let k = step.2 in omega arith) in
    subst (λ (x : Entry). FitsOp (Read (Some t) (ask.Query q)) (reply_to limits past x)) (sym step.1)
    (last_step_fits limits past seat t q step.0 number)
query_last limits past seat t q false before last e h = ops_last limits past seat (Read (Some t) (ask.Query q)) before last e h

call_last : (limits : Limits) (past : List Judged) (seat : ℕ) (op : Op) (before : List Entry) (last : Entry)
    → entries seat (ops_of op) ≡ before ++ last ∷ [] → length past < 2 ^ 62 → FitsOp op (reply_to limits past last)
call_last limits past seat (Read (Some t) (ask.Query q)) before last e h = query_last limits past seat t q (is_level t.level ReadCommitted) before last e h
call_last limits past seat (Read (Some t) (ask.List s p o contexts)) before last e h = ops_last limits past seat _ before last e h
call_last limits past seat (Read (Some t) (ask.Size contexts)) before last e h = ops_last limits past seat _ before last e h
call_last limits past seat (Read (Some t) ask.Contexts) before last e h = ops_last limits past seat _ before last e h
call_last limits past seat (Read None a) before last e h = ops_last limits past seat _ before last e h
call_last limits past seat (Begin level) before last e h = ops_last limits past seat _ before last e h
call_last limits past seat (Step t q number) before last e h = ops_last limits past seat _ before last e h
call_last limits past seat (Write txn changes) before last e h = ops_last limits past seat _ before last e h
call_last limits past seat (Commit t) before last e h = ops_last limits past seat _ before last e h
call_last limits past seat (Rollback t) before last e h = ops_last limits past seat _ before last e h
call_last limits past seat (Ping t) before last e h = ops_last limits past seat _ before last e h
call_last limits past seat (Names names) before last e h = ops_last limits past seat _ before last e h

-- there are as many judged entries as entries
abbrev pub SameCount : Type 0
SameCount = (limits : Limits) (journal : List Entry) → length (judged limits journal) ≡ length journal

next_fits : SameCount → (limits : Limits) (journal : List Entry) (call : Call) (seat : ℕ) (before : List Entry) (last : Entry)
    → entries_of call seat ≡ before ++ last ∷ [] → length journal < 2 ^ 62 → Fits call (reply_next limits journal last)
unfolding reply_next
next_fits count limits journal Protocol seat before last e h = nothing_last before last e
next_fits count limits journal (Repositories form) seat before last e h = nothing_last before last e
next_fits count limits journal (On repo op form) seat before last e h =
    call_last limits (judged limits journal) seat op before last e (let same = count limits journal in omega arith)

at_fits : SameCount → (limits : Limits) (journal : List Entry) (place : ℕ) (call : Call) (seat : ℕ) (before : List Entry) (last : Entry) (r : Reply)
    → entries_of call seat ≡ before ++ last ∷ [] → slice_get journal place ≡ Some last → length journal ≤ 2 ^ 62
    → reply_at limits journal place ≡ Some r → Fits call r
unfolding reply_at
at_fits count limits journal place call seat before last r e there h replied =
    let within : place < length journal = slice_get_within journal place last there in
    let short : length (take place journal) ≡ place = length-take-le place journal (omega arith) in
    let is : Some (reply_next limits (take place journal) last) ≡ Some r =
    sym (ap (option_map (reply_next limits (take place journal))) there) ∙ replied in
    let same : reply_next limits (take place journal) last ≡ r = cc in
    subst (Fits call) same (next_fits count limits (take place journal) call seat before last e (omega arith))

pub last_fits : SameCount → LastReplyFits
last_fits count = record { next = next_fits count; at = at_fits count }
