-- What comes of the entries of a call. No contract of a public call cites it.
use Rattle.std.specs.Prelude.{◌≡◌, ℕ, ◌≤◌, ◌<◌, List, [], ◌∷◌, ◌++◌, length, map, Result, Ok, Err}
use Rattle.journal.specs.declared.ask.Ask.{Ask}
use Rattle.journal.specs.declared.entry.Entry.{Entry}
use Rattle.journal.specs.declared.entry.Mark.{Mark}
use Rattle.journal.specs.declared.fault.StoreFault.{StoreFault}
use Rattle.journal.specs.declared.fault.StoreFault.TheVariants as store
use Rattle.journal.specs.declared.op.Op.{Op}
use Rattle.journal.specs.declared.op.Op.TheVariants.{Begin, Read, Step, Write, Commit, Rollback, Ping, Names}
use Rattle.journal.specs.declared.reply.Reply.{Reply}
use Rattle.api_calls.specs.declared.call.Call.{Call}
use Rattle.api_calls.specs.declared.call.Call.TheVariants.{Protocol, Repositories, On}
use Rattle.repo_store.specs.Stores.{answered}
use Rattle.session.specs.Marks.{Journals, Below, Moves, mark_at}
use Rattle.session.specs.Turns.{Ground, IsWhole, IsPart, IsReply, AreUnchanging}
use Rattle.session.specs.declared.enter.Entered.{Entered}
use Rattle.session.specs.declared.enter.Entered.TheVariants.{Replied, Pinned, Full, NoMemory}

-- the op asks this
abbrev pub IsAskOf : Op → Ask → Type 0
IsAskOf (Read txn asked) ask = asked ≡ ask
IsAskOf (Begin level) ask = ⊥
IsAskOf (Step t query number) ask = ⊥
IsAskOf (Write txn changes) ask = ⊥
IsAskOf (Commit t) ask = ⊥
IsAskOf (Rollback t) ask = ⊥
IsAskOf (Ping t) ask = ⊥
IsAskOf (Names names) ask = ⊥

-- the call asks this
abbrev pub Asks : Call → Ask → Type 0
Asks Protocol ask = ⊥
Asks (Repositories form) ask = ⊥
Asks (On id op form) ask = IsAskOf op ask

-- what came of the entries of a call, of which those stand at these places
abbrev pub IsEntered : Ground → ℕ → Call → List ℕ → Entered → Type 0
IsEntered g repo c places (Replied x) = IsWhole g repo c places × IsReply g repo places x × (length (g.journals repo) ≤ g.limits.places)
IsEntered g repo c places (Pinned p) = IsWhole g repo c places × (part : IsPart g repo c places []) × AreUnchanging g repo places part.made
    × ((ask : Ask) × Asks c ask × IsReply g repo places (answered p ask)) × (length (g.journals repo) ≤ g.limits.places)
IsEntered g repo c places Full = (left : List Entry) × IsPart g repo c places left × (0 < length left) × (g.limits.places ≤ length (g.journals repo))
IsEntered g repo c places NoMemory = (left : List Entry) × (part : IsPart g repo c places left) × AreUnchanging g repo places part.made

-- the entries of a call: their marks, how the journals went on, and what came of them
pub record Enters (g : Ground) (old : Journals) (repo : ℕ) (c : Call) (marks marks' : List Mark) (e : Entered) : Type 0 where
  pub places : List ℕ
  pub marks_are : marks' ≡ marks ++ map (mark_at repo) places
  pub moves : Moves g.seats old g.journals (map (mark_at repo) places)
  pub room : Below g.limits.places (map (mark_at repo) places)
  pub entered : IsEntered g repo c places e

-- what a call of a store with a reply is noted as
abbrev pub IsNoted : ℕ → List Mark → List Mark → Result (ℕ × Reply) StoreFault → Entered → Type 0
IsNoted repo marks marks' (Ok it) e = (marks' ≡ marks ++ mark_at repo it.0 ∷ []) × (e ≡ Replied it.1)
IsNoted repo marks marks' (Err store.JournalFull) e = (marks' ≡ marks) × (e ≡ Full)
IsNoted repo marks marks' (Err store.Memory) e = (marks' ≡ marks) × (e ≡ NoMemory)
