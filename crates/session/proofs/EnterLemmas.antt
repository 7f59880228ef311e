-- The entries of a call: one, some or none.
use Rattle.std.proofs.Common.{◌≡◌, ℕ, ◌≤◌, ◌<◌, List, [], ◌∷◌, ◌++◌, length, map, Option, Some, slice_get, Result, Ok, Err, IfOk, IfErr, refl, sym, ◌∙◌, ap, subst, inl, append-nil, arith}
use Rattle.std.proofs.lemmas.Option.{slice_get_within}
use Rattle.journal.specs.declared.ask.Ask.{Ask}
use Rattle.journal.specs.declared.entry.Entry.{Entry}
use Rattle.journal.specs.declared.entry.Mark.{Mark}
use Rattle.journal.specs.declared.fault.StoreFault.{StoreFault}
use Rattle.journal.specs.declared.fault.StoreFault.TheVariants as store
use Rattle.journal.specs.declared.limits.Limits.{Limits}
use Rattle.journal.specs.declared.op.Op.{Op}
use Rattle.journal.specs.declared.op.Op.TheVariants.{Read}
use Rattle.journal.specs.declared.reply.Reply.{Reply}
use Rattle.journal.specs.declared.txn.Txn.{Txn}
use Rattle.journal.specs.Journal.{entry_of}
use Rattle.journal.specs.Laws.{ReplyReadsNoLaterEntry}
use Rattle.media.specs.declared.form.Form.{Form}
use Rattle.iso_txn.specs.Repository.{PinnedRead}
use Rattle.api_calls.specs.Calls.{entries_of, ops_of}
use Rattle.api_calls.specs.declared.call.Call.{Call}
use Rattle.api_calls.specs.declared.call.Call.TheVariants.{On}
use Rattle.repo_store.specs.Stores.{answered}
use Rattle.session.specs.Marks.{Journals, Below, Moves, mark_at}
use Rattle.session.specs.Stores.{Adds, Fails, Replies}
use Rattle.session.specs.Turns.{Ground, ground, StandAt, IsWhole, AreUnchanging}
use Rattle.session.specs.Entering.{Enters, IsNoted}
use Rattle.session.specs.declared.enter.Entered.{Entered}
use Rattle.session.specs.declared.enter.Entered.TheVariants.{Replied, Pinned, Full, NoMemory}
use Rattle.session.proofs.MarkLemmas.{moves_none, moves_more, all_begin}
use Rattle.session.proofs.TurnLemmas.{stand_later, unchanging_later}

-- the entries of an op are these, where it makes one
entries_one : (id : List ℕ) (op : Op) (form : Form) (seat : ℕ) → ops_of op ≡ op ∷ [] → entries_of (On id op form) seat ≡ entry_of seat op ∷ []
entries_one id op form seat e = ap (λ (ops : List Op). map (entry_of seat) ops) e

whole_one : (g : Ground) (repo : ℕ) (id : List ℕ) (op : Op) (form : Form) (place : ℕ) → ops_of op ≡ op ∷ []
    → StandAt (g.journals repo) (place ∷ []) (entry_of (g.seats repo) op ∷ []) → IsWhole g repo (On id op form) (place ∷ [])
whole_one g repo id op form place e s =
    subst (λ (es : List Entry). StandAt (g.journals repo) (place ∷ []) es) (sym (entries_one id op form (g.seats repo) e)) s

-- an entry of a journal that has no more entries than it may have stands below that number
pub placed : (limits : Limits) (journal : List Entry) (place : ℕ) (e : Entry) → slice_get journal place ≡ Some e → length journal ≤ limits.places → place < limits.places
placed limits journal place e stands within = let k = slice_get_within journal place e stands in omega (arith, k, within)

-- one entry was made, and this is its reply
entered_reply : (names : List (List ℕ)) (limits : Limits) (seats : ℕ → ℕ) (old new : Journals) (repo : ℕ) (id : List ℕ) (op : Op) (form : Form)
    (marks marks' : List Mark) (place : ℕ) (x : Reply) → ops_of op ≡ op ∷ [] → Adds limits seats old new repo op place → Replies limits new repo place x
    → marks' ≡ marks ++ mark_at repo place ∷ [] → Enters (ground names limits new seats) old repo (On id op form) marks marks' (Replied x)
entered_reply names limits seats old new repo id op form marks marks' place x one a r e = record {
  places = place ∷ [];
  marks_are = e;
  moves = a.moves;
  room = (placed limits (new repo) place (entry_of (seats repo) op) a.stands a.within, tt);
  entered = (whole_one (ground names limits new seats) repo id op form place one (a.stands, tt), record { before = []; last = place; places_are = refl; replied = r }, a.within);
}

-- some entries of a call were made, and then the journal was full
pub entered_full : (names : List (List ℕ)) (limits : Limits) (seats : ℕ → ℕ) (old mid new : Journals) (repo : ℕ) (c : Call) (marks marks' : List Mark)
    (places : List ℕ) (made left : List Entry) → marks' ≡ marks ++ map (mark_at repo) places → Moves seats old mid (map (mark_at repo) places)
    → Below limits.places (map (mark_at repo) places) → StandAt (mid repo) places made → entries_of c (seats repo) ≡ made ++ left → 0 < length left
    → Fails limits seats mid new repo store.JournalFull → Enters (ground names limits new seats) old repo c marks marks' Full
entered_full names limits seats old mid new repo c marks marks' places made left e m room s parts some f = record {
  places = places;
  marks_are = e;
  moves = subst (λ (z : List Mark). Moves seats old new z) (append-nil (map (mark_at repo) places)) (moves_more seats old mid new (map (mark_at repo) places) [] m f.moves);
  room = room;
  entered = (
    left,
    record { made = made; stand = stand_later (mid repo) (new repo) places made (all_begin seats mid new [] f.moves repo) s; parts = parts },
    some,
    f.full refl,
  );
}

-- some entries of a call were made, which change nothing, and then memory was wanted
pub entered_none : ReplyReadsNoLaterEntry → (names : List (List ℕ)) (limits : Limits) (seats : ℕ → ℕ) (old mid new : Journals) (repo : ℕ) (c : Call)
    (marks marks' : List Mark) (places : List ℕ) (made left : List Entry) → marks' ≡ marks ++ map (mark_at repo) places
    → Moves seats old mid (map (mark_at repo) places) → Below limits.places (map (mark_at repo) places) → StandAt (mid repo) places made
    → entries_of c (seats repo) ≡ made ++ left → AreUnchanging (ground names limits mid seats) repo places made → Moves seats mid new []
    → Enters (ground names limits new seats) old repo c marks marks' NoMemory
entered_none law names limits seats old mid new repo c marks marks' places made left e m room s parts asks f = record {
  places = places;
  marks_are = e;
  moves = subst (λ (z : List Mark). Moves seats old new z) (append-nil (map (mark_at repo) places)) (moves_more seats old mid new (map (mark_at repo) places) [] m f);
  room = room;
  entered = (
    left,
    record { made = made; stand = stand_later (mid repo) (new repo) places made (all_begin seats mid new [] f repo) s; parts = parts },
    unchanging_later law (ground names limits mid seats) new repo places made (all_begin seats mid new [] f) asks,
  );
}

-- no entry was made, and the journal is full
none_full : (names : List (List ℕ)) (limits : Limits) (seats : ℕ → ℕ) (old new : Journals) (repo : ℕ) (id : List ℕ) (op : Op) (form : Form)
    (marks marks' : List Mark) → ops_of op ≡ op ∷ [] → marks' ≡ marks → Fails limits seats old new repo store.JournalFull
    → Enters (ground names limits new seats) old repo (On id op form) marks marks' Full
none_full names limits seats old new repo id op form marks marks' one e f =
    entered_full names limits seats old old new repo (On id op form) marks marks' [] [] (entry_of (seats repo) op ∷ []) (e ∙ sym (append-nil marks))
    (moves_none seats old) tt tt (entries_one id op form (seats repo) one) (omega arith) f

-- no entry was made, and memory was wanted
none_gone : (names : List (List ℕ)) (limits : Limits) (seats : ℕ → ℕ) (old new : Journals) (repo : ℕ) (c : Call) (marks marks' : List Mark)
    → marks' ≡ marks → Moves seats old new [] → Enters (ground names limits new seats) old repo c marks marks' NoMemory
none_gone names limits seats old new repo c marks marks' e f = record {
  places = [];
  marks_are = e ∙ sym (append-nil marks);
  moves = f;
  room = tt;
  entered = (entries_of c (seats repo), record { made = []; stand = tt; parts = refl }, tt);
}

-- what a call of the store with a reply gave is the entry of its op
pub entered_noted : (names : List (List ℕ)) (limits : Limits) (seats : ℕ → ℕ) (old new : Journals) (repo : ℕ) (id : List ℕ) (op : Op) (form : Form)
    (marks marks' : List Mark) (made : Result (ℕ × Reply) StoreFault) (e : Entered) → ops_of op ≡ op ∷ []
    → IfOk made (λ it. Adds limits seats old new repo op it.0 × Replies limits new repo it.0 it.1) → IfErr made (λ f. Fails limits seats old new repo f)
    → IsNoted repo marks marks' made e → Enters (ground names limits new seats) old repo (On id op form) marks marks' e
entered_noted names limits seats old new repo id op form marks marks' (Ok it) e one a f n =
    subst (λ (z : Entered). Enters (ground names limits new seats) old repo (On id op form) marks marks' z) (sym n.1)
    (entered_reply names limits seats old new repo id op form marks marks' it.0 it.1 one a.0 a.1 n.0)
entered_noted names limits seats old new repo id op form marks marks' (Err store.JournalFull) e one a f n =
    subst (λ (z : Entered). Enters (ground names limits new seats) old repo (On id op form) marks marks' z) (sym n.1)
    (none_full names limits seats old new repo id op form marks marks' one n.0 f)
entered_noted names limits seats old new repo id op form marks marks' (Err store.Memory) e one a f n =
    subst (λ (z : Entered). Enters (ground names limits new seats) old repo (On id op form) marks marks' z) (sym n.1)
    (none_gone names limits seats old new repo (On id op form) marks marks' n.0 f.moves)

-- the same, where the op is this one
pub noted_as : (names : List (List ℕ)) (limits : Limits) (seats : ℕ → ℕ) (old new : Journals) (repo : ℕ) (id : List ℕ) (given op : Op) (form : Form)
    (marks marks' : List Mark) (made : Result (ℕ × Reply) StoreFault) (e : Entered) → given ≡ op → ops_of op ≡ op ∷ []
    → IfOk made (λ it. Adds limits seats old new repo op it.0 × Replies limits new repo it.0 it.1) → IfErr made (λ f. Fails limits seats old new repo f)
    → IsNoted repo marks marks' made e → Enters (ground names limits new seats) old repo (On id given form) marks marks' e
noted_as names limits seats old new repo id given op form marks marks' made e is one a f n =
    subst (λ (o : Op). Enters (ground names limits new seats) old repo (On id o form) marks marks' e) (sym is)
    (entered_noted names limits seats old new repo id op form marks marks' made e one a f n)

-- a read was made by one entry, and this is pinned
pub entered_pin : (names : List (List ℕ)) (limits : Limits) (seats : ℕ → ℕ) (old new : Journals) (repo : ℕ) (id : List ℕ) (txn : Option Txn) (ask : Ask)
    (form : Form) (marks marks' : List Mark) (place : ℕ) (p : PinnedRead) → ops_of (Read txn ask) ≡ Read txn ask ∷ []
    → Adds limits seats old new repo (Read txn ask) place → Replies limits new repo place (answered p ask) → marks' ≡ marks ++ mark_at repo place ∷ []
    → Enters (ground names limits new seats) old repo (On id (Read txn ask) form) marks marks' (Pinned p)
entered_pin names limits seats old new repo id txn ask form marks marks' place p one a r e = record {
  places = place ∷ [];
  marks_are = e;
  moves = a.moves;
  room = (placed limits (new repo) place (entry_of (seats repo) (Read txn ask)) a.stands a.within, tt);
  entered = (
    whole_one (ground names limits new seats) repo id (Read txn ask) form place one (a.stands, tt),
    record { made = entry_of (seats repo) (Read txn ask) ∷ []; stand = (a.stands, tt); parts = entries_one id (Read txn ask) form (seats repo) one ∙ sym (append-nil (entry_of (seats repo) (Read txn ask) ∷ [])) },
    (inl refl, tt),
    (ask, refl, record { before = []; last = place; places_are = refl; replied = r }),
    a.within,
  );
}

pub pin_full : (names : List (List ℕ)) (limits : Limits) (seats : ℕ → ℕ) (old new : Journals) (repo : ℕ) (id : List ℕ) (op : Op) (form : Form)
    (marks : List Mark) → ops_of op ≡ op ∷ [] → Fails limits seats old new repo store.JournalFull
    → Enters (ground names limits new seats) old repo (On id op form) marks marks Full
pin_full names limits seats old new repo id op form marks one f = none_full names limits seats old new repo id op form marks marks one refl f

pub pin_gone : (names : List (List ℕ)) (limits : Limits) (seats : ℕ → ℕ) (old new : Journals) (repo : ℕ) (c : Call) (marks : List Mark)
    → Moves seats old new [] → Enters (ground names limits new seats) old repo c marks marks NoMemory
pin_gone names limits seats old new repo c marks f = none_gone names limits seats old new repo c marks marks refl f
