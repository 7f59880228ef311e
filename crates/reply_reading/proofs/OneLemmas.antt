-- A response to a call is read as one thing.
use Rattle.std.proofs.Common.{◌≡◌, ℕ, inl, inr, List, Bool, true, false, Some, None, refl, sym, ap, ◌∙◌, arith, codes}
use Rattle.std.specs.declared.result.Result.{Result}
use Rattle.std.specs.declared.result.Result.TheVariants.{Ok, Err}
use Rattle.rdf_term.specs.Statement.{Statement}
use Rattle.rdf_term.specs.declared.term.Term.{Term}
use Rattle.nquads_line.specs.declared.kind.Kind.{Kind}
use Rattle.nquads.specs.Documents.{IsDocument}
use Rattle.nquads.specs.Laws.{NotBoth, OneFirstBadLine, OneReading as OneDocument}
use Rattle.query_model.specs.declared.table.Table.{Table as SomeTable}
use Rattle.results_json.specs.declared.fault.ResultFault.{ResultFault}
use Rattle.results_json.specs.declared.fault.ResultFault.TheVariants as row
use Rattle.results_json.specs.Reading.{IsTable, IsTruth}
use Rattle.results_json.specs.Laws.{OneTableReading, OneTruthReading}
use Rattle.journal.specs.declared.txn.Txn.{Txn}
use Rattle.journal.specs.declared.reply.Reply.{Reply}
use Rattle.journal.specs.declared.reply.Reply.TheVariants as reply
use Rattle.http_frame.specs.Messages.{SeenResponse}
use Rattle.api_paths.specs.Targets.{text_of}
use Rattle.api_paths.specs.TransactionNames.{OneTransaction}
use Rattle.api_replies.specs.Parts.{truth_word}
use Rattle.api_replies.specs.Tables.{contexts_table, namespaces_table}
use Rattle.reply_reading.specs.declared.got.Got.TheVariants as got
use Rattle.reply_reading.specs.declared.got.ReplyFault.TheVariants.{BadReply, Memory}
use Rattle.reply_reading.specs.declared.manner.Manner.{Manner}
use Rattle.reply_reading.specs.declared.manner.Manner.TheVariants.{Begun, Table, Truth, Word, Quads, Count, Contexts, Prefixes, Prefix, Nothing}
use Rattle.reply_reading.specs.Counts.{count_of}
use Rattle.reply_reading.specs.Faults.{row_fault, line_fault}
use Rattle.reply_reading.specs.Laws.{replied, refused, bad as bad_at, OneReading}
use Rattle.reply_reading.specs.Locations.{Locates}
use Rattle.reply_reading.specs.Manners.{manner_of}
use Rattle.reply_reading.specs.Readings.{IsBadBy, IsBadDocument, IsBadList, IsBadTable, IsReplyBy, is_success}
use Rattle.reply_reading.proofs.ListLemmas.{same_contexts, same_pairs}
use Rattle.reply_reading.proofs.LocationLemmas.{one_located}

-- what the readers of bodies promise
pub record Readers : Type 0 where
  pub names : OneTransaction
  pub documents : OneDocument
  pub lines : OneFirstBadLine
  pub not_both : NotBoth
  pub tables : OneTableReading
  pub truths : OneTruthReading

-- Tables

ok_found : {T : Type 0} (t : T) → (let r : Result T ResultFault = Ok t in r ≡ Err row.Memory) → ⊥
ok_found t e = cc

fault_found : (fault : ResultFault) (n : ℕ) → row_fault fault ≡ BadReply n → (let r : Result SomeTable ResultFault = Err fault in r ≡ Err row.Memory) → ⊥
fault_found fault n is e =
    let same : fault ≡ row.Memory = cc in
    let none : row_fault fault ≡ Memory = ap row_fault same in
    cc

one_table : Readers → (body : List ℕ) (t u : SomeTable) → IsTable body t → IsTable body u → t ≡ u
one_table readers body t u h k =
    let same = readers.tables body (Ok t) (Ok u) h k (ok_found t) (ok_found u) in cc

table_or_bad : Readers → (body : List ℕ) (t : SomeTable) (n : ℕ) → IsTable body t → IsBadTable body n → ⊥
table_or_bad readers body t n h bad =
    let same = readers.tables body (Ok t) (Err bad.0) h bad.1 (ok_found t) (fault_found bad.0 n bad.2) in cc

one_bad_table : Readers → (body : List ℕ) (n m : ℕ) → IsBadTable body n → IsBadTable body m → n ≡ m
one_bad_table readers body n m bad other =
    let same = readers.tables body (Err bad.0) (Err other.0) bad.1 other.1 (fault_found bad.0 n bad.2) (fault_found other.0 m other.2) in
    let fault : bad.0 ≡ other.0 = cc in
    let place : BadReply n ≡ BadReply m = sym bad.2 ∙ ap row_fault fault ∙ other.2 in
    cc

list_or_bad : Readers → {T : Type 0} (table_of : T → SomeTable) (body : List ℕ) (list : T) (n : ℕ) → IsTable body (table_of list)
    → IsBadList table_of body n → ⊥
list_or_bad readers table_of body list n h (inl bad) = table_or_bad readers body (table_of list) n h bad
list_or_bad readers table_of body list n h (inr bad) = bad.1.2 list (one_table readers body bad.1.0 (table_of list) bad.1.1 h)

one_bad_list : Readers → {T : Type 0} (table_of : T → SomeTable) (body : List ℕ) (n m : ℕ) → IsBadList table_of body n → IsBadList table_of body m
    → n ≡ m
one_bad_list readers table_of body n m (inl bad) (inl other) = one_bad_table readers body n m bad other
one_bad_list readers table_of body n m (inl bad) (inr other) = absurd (table_or_bad readers body other.1.0 n other.1.1 bad)
one_bad_list readers table_of body n m (inr bad) (inl other) = absurd (table_or_bad readers body bad.1.0 m bad.1.1 other)
one_bad_list readers table_of body n m (inr bad) (inr other) = bad.0 ∙ sym other.0

-- Truth values

one_truth : Readers → (body : List ℕ) (a b : Bool) → IsTruth body a → IsTruth body b → a ≡ b
one_truth readers body a b h k = let same = readers.truths body (Ok a) (Ok b) h k (ok_found a) (ok_found b) in cc

words_differ : codes "true" ≡ codes "false" → ⊥
words_differ e = let first : ◌≡◌ {A = ℕ} 116 102 = cc in absurd (omega arith)

one_word : (body : List ℕ) (a b : Bool) → body ≡ truth_word a → body ≡ truth_word b → a ≡ b
one_word body true true h k = refl
one_word body false false h k = refl
one_word body true false h k = absurd (words_differ (sym h ∙ k))
one_word body false true h k = absurd (words_differ (sym k ∙ h))

-- Documents

document_or_bad : Readers → (kind : Kind) (body : List ℕ) (quads : List Statement) (n : ℕ) → IsDocument kind body quads → IsBadDocument kind body n → ⊥
document_or_bad readers kind body quads n h bad = readers.not_both kind body quads bad.0 h bad.1

one_bad_document : Readers → (kind : Kind) (body : List ℕ) (n m : ℕ) → IsBadDocument kind body n → IsBadDocument kind body m → n ≡ m
one_bad_document readers kind body n m bad other =
    let fault : bad.0 ≡ other.0 = readers.lines kind body bad.0 other.0 bad.1 other.1 in
    let place : BadReply n ≡ BadReply m = sym bad.2 ∙ ap line_fault fault ∙ other.2 in
    cc

-- Each manner has replies of one kind

of_begun : (r : SeenResponse) (x : Reply) → IsReplyBy Begun r x → (t : Txn) × (x ≡ reply.Begun t) × Locates r.fields t
of_begun r (reply.Begun t) h = (t, refl, h)
of_begun r _ h = absurd h

of_table : (r : SeenResponse) (x : Reply) → IsReplyBy Table r x → (t : SomeTable) × (x ≡ reply.Table t) × IsTable r.body t
of_table r (reply.Table t) h = (t, refl, h)
of_table r _ h = absurd h

of_truth : (r : SeenResponse) (x : Reply) → IsReplyBy Truth r x → (b : Bool) × (x ≡ reply.Truth b) × IsTruth r.body b
of_truth r (reply.Truth b) h = (b, refl, h)
of_truth r _ h = absurd h

of_word : (r : SeenResponse) (x : Reply) → IsReplyBy Word r x → (b : Bool) × (x ≡ reply.Truth b) × (r.body ≡ truth_word b)
of_word r (reply.Truth b) h = (b, refl, h)
of_word r _ h = absurd h

of_quads : (kind : Kind) (r : SeenResponse) (x : Reply) → IsReplyBy (Quads kind) r x → (q : List Statement) × (x ≡ reply.Quads q) × IsDocument kind r.body q
of_quads kind r (reply.Quads q) h = (q, refl, h)
of_quads kind r _ h = absurd h

of_count : (r : SeenResponse) (x : Reply) → IsReplyBy Count r x → (n : ℕ) × (x ≡ reply.Count n) × (count_of r.body ≡ Some n)
of_count r (reply.Count n) h = (n, refl, h)
of_count r _ h = absurd h

of_contexts : (r : SeenResponse) (x : Reply) → IsReplyBy Contexts r x → (names : List Term) × (x ≡ reply.Contexts names) × IsTable r.body (contexts_table names)
of_contexts r (reply.Contexts names) h = (names, refl, h)
of_contexts r _ h = absurd h

of_prefixes : (r : SeenResponse) (x : Reply) → IsReplyBy Prefixes r x
    → (pairs : List (List ℕ × List ℕ)) × (x ≡ reply.Prefixes pairs) × IsTable r.body (namespaces_table pairs)
of_prefixes r (reply.Prefixes pairs) h = (pairs, refl, h)
of_prefixes r _ h = absurd h

of_prefix : (r : SeenResponse) (x : Reply) → IsReplyBy Prefix r x → (name : List ℕ) × (x ≡ reply.Prefix name) × (text_of r.body ≡ Some name)
of_prefix r (reply.Prefix name) h = (name, refl, h)
of_prefix r _ h = absurd h

of_nothing : (r : SeenResponse) (x : Reply) → IsReplyBy Nothing r x → x ≡ reply.Done
of_nothing r reply.Done h = refl
of_nothing r _ h = absurd h

-- a response has one reply
one_reply : Readers → (m : Manner) (r : SeenResponse) (x y : Reply) → IsReplyBy m r x → IsReplyBy m r y → x ≡ y
one_reply readers Begun r x y h k =
    let a = of_begun r x h in
    let b = of_begun r y k in
    a.1 ∙ ap reply.Begun (one_located readers.names r.fields a.0 b.0 a.2 b.2) ∙ sym b.1
one_reply readers Table r x y h k =
    let a = of_table r x h in
    let b = of_table r y k in
    a.1 ∙ ap reply.Table (one_table readers r.body a.0 b.0 a.2 b.2) ∙ sym b.1
one_reply readers Truth r x y h k =
    let a = of_truth r x h in
    let b = of_truth r y k in
    a.1 ∙ ap reply.Truth (one_truth readers r.body a.0 b.0 a.2 b.2) ∙ sym b.1
one_reply readers Word r x y h k =
    let a = of_word r x h in
    let b = of_word r y k in
    a.1 ∙ ap reply.Truth (one_word r.body a.0 b.0 a.2 b.2) ∙ sym b.1
one_reply readers (Quads kind) r x y h k =
    let a = of_quads kind r x h in
    let b = of_quads kind r y k in
    a.1 ∙ ap reply.Quads (readers.documents kind r.body a.0 b.0 a.2 b.2) ∙ sym b.1
one_reply readers Count r x y h k =
    let a = of_count r x h in
    let b = of_count r y k in
    let same : Some a.0 ≡ Some b.0 = sym a.2 ∙ b.2 in
    let count : a.0 ≡ b.0 = cc in
    a.1 ∙ ap reply.Count count ∙ sym b.1
one_reply readers Contexts r x y h k =
    let a = of_contexts r x h in
    let b = of_contexts r y k in
    a.1 ∙ ap reply.Contexts (same_contexts a.0 b.0 (one_table readers r.body (contexts_table a.0) (contexts_table b.0) a.2 b.2)) ∙ sym b.1
one_reply readers Prefixes r x y h k =
    let a = of_prefixes r x h in
    let b = of_prefixes r y k in
    a.1 ∙ ap reply.Prefixes (same_pairs a.0 b.0 (one_table readers r.body (namespaces_table a.0) (namespaces_table b.0) a.2 b.2)) ∙ sym b.1
one_reply readers Prefix r x y h k =
    let a = of_prefix r x h in
    let b = of_prefix r y k in
    let same : Some a.0 ≡ Some b.0 = sym a.2 ∙ b.2 in
    let name : a.0 ≡ b.0 = cc in
    a.1 ∙ ap reply.Prefix name ∙ sym b.1
one_reply readers Nothing r x y h k = of_nothing r x h ∙ sym (of_nothing r y k)

-- no response has one and is refused
reply_or_bad : Readers → (m : Manner) (r : SeenResponse) (x : Reply) (n : ℕ) → IsReplyBy m r x → IsBadBy m r n → ⊥
reply_or_bad readers Begun r x n h bad = let a = of_begun r x h in bad.1 a.0 a.2
reply_or_bad readers Table r x n h bad = let a = of_table r x h in table_or_bad readers r.body a.0 n a.2 bad
reply_or_bad readers Truth r x n h bad = let a = of_truth r x h in bad.1 a.0 a.2
reply_or_bad readers Word r x n h bad = let a = of_word r x h in bad.1 a.0 a.2
reply_or_bad readers (Quads kind) r x n h bad = let a = of_quads kind r x h in document_or_bad readers kind r.body a.0 n a.2 bad
reply_or_bad readers Count r x n h bad =
    let a = of_count r x h in
    let none : Some a.0 ≡ None = sym a.2 ∙ bad.1 in
    cc
reply_or_bad readers Contexts r x n h bad = let a = of_contexts r x h in list_or_bad readers contexts_table r.body a.0 n a.2 bad
reply_or_bad readers Prefixes r x n h bad = let a = of_prefixes r x h in list_or_bad readers namespaces_table r.body a.0 n a.2 bad
reply_or_bad readers Prefix r x n h bad =
    let a = of_prefix r x h in
    let none : Some a.0 ≡ None = sym a.2 ∙ bad.1 in
    cc
reply_or_bad readers Nothing r x n h bad = bad

-- and it is refused at one place
one_place : Readers → (m : Manner) (r : SeenResponse) (n k : ℕ) → IsBadBy m r n → IsBadBy m r k → n ≡ k
one_place readers Begun r n k bad other = bad.0 ∙ sym other.0
one_place readers Table r n k bad other = one_bad_table readers r.body n k bad other
one_place readers Truth r n k bad other = bad.0 ∙ sym other.0
one_place readers Word r n k bad other = bad.0 ∙ sym other.0
one_place readers (Quads kind) r n k bad other = one_bad_document readers kind r.body n k bad other
one_place readers Count r n k bad other = bad.0 ∙ sym other.0
one_place readers Contexts r n k bad other = one_bad_list readers contexts_table r.body n k bad other
one_place readers Prefixes r n k bad other = one_bad_list readers namespaces_table r.body n k bad other
one_place readers Prefix r n k bad other = bad.0 ∙ sym other.0
one_place readers Nothing r n k bad other = absurd bad

-- The whole

granted_or_not : (b : Bool) → b ≡ true → b ≡ false → ⊥
granted_or_not b e h = cc

same_refusal : (s t : ℕ) (b c : List ℕ) → s ≡ t → b ≡ c → refused s b ≡ refused t c
same_refusal s t b c e h = cc

pub one_reading : Readers → OneReading
one_reading readers call r (Ok (got.Reply x)) (Ok (got.Reply y)) h k f g = ap replied (one_reply readers (manner_of call) r x y h.1 k.1)
one_reading readers call r (Ok (got.Reply x)) (Ok (got.Refused t c)) h k f g = absurd (granted_or_not (is_success r.status) h.0 k.0)
one_reading readers call r (Ok (got.Reply x)) (Err (BadReply n)) h k f g = absurd (reply_or_bad readers (manner_of call) r x n h.1 k.1)
one_reading readers call r (Ok (got.Refused s b)) (Ok (got.Reply y)) h k f g = absurd (granted_or_not (is_success r.status) k.0 h.0)
one_reading readers call r (Ok (got.Refused s b)) (Ok (got.Refused t c)) h k f g = same_refusal s t b.items c.items (h.1 ∙ sym k.1) (h.2 ∙ sym k.2)
one_reading readers call r (Ok (got.Refused s b)) (Err (BadReply n)) h k f g = absurd (granted_or_not (is_success r.status) k.0 h.0)
one_reading readers call r (Err (BadReply n)) (Ok (got.Reply y)) h k f g = absurd (reply_or_bad readers (manner_of call) r y n k.1 h.1)
one_reading readers call r (Err (BadReply n)) (Ok (got.Refused t c)) h k f g = absurd (granted_or_not (is_success r.status) h.0 k.0)
one_reading readers call r (Err (BadReply n)) (Err (BadReply m)) h k f g = ap bad_at (one_place readers (manner_of call) r n m h.1 k.1)
one_reading readers call r (Err Memory) b h k f g = absurd (f refl)
one_reading readers call r a (Err Memory) h k f g = absurd (g refl)
