-- The Steps of a query, one after another.
use Rattle.std.proofs.Common.{◌≡◌, ℕ, zero, suc, ◌+◌, ◌-◌, ◌≤◌, ◌<◌, Bool, true, false, if◌then◌else◌, List, [], ◌∷◌, ◌++◌, length, map, Some, max, refl, sym, ◌∙◌, ap, subst, inl, append_assoc, append-nil, arith, add-one}
use Rattle.query_model.specs.declared.query.Query.{Query}
use Rattle.query_model.specs.Solutions.{group_of, lookups_of}
use Rattle.journal.specs.declared.ask.Ask.TheVariants.{Query as AskQuery}
use Rattle.journal.specs.declared.entry.Entry.{Entry}
use Rattle.journal.specs.declared.entry.Mark.{Mark}
use Rattle.journal.specs.declared.fault.StoreFault.TheVariants.{JournalFull}
use Rattle.journal.specs.declared.level.Level.TheVariants.{ReadCommitted}
use Rattle.journal.specs.declared.limits.Limits.{Limits}
use Rattle.journal.specs.declared.op.Op.{Op}
use Rattle.journal.specs.declared.op.Op.TheVariants.{Read, Step}
use Rattle.journal.specs.declared.txn.Txn.{Txn}
use Rattle.journal.specs.Journal.{entry_of}
use Rattle.journal.specs.Laws.{ReplyReadsNoLaterEntry}
use Rattle.journal.specs.Levels.{is_level}
use Rattle.media.specs.declared.form.Form.{Form}
use Rattle.iso_txn.specs.Repository.{PinnedRead}
use Rattle.api_calls.specs.Calls.{entries_of, ops_of, steps_from}
use Rattle.api_calls.specs.declared.call.Call.TheVariants.{On}
use Rattle.repo_store.specs.Stores.{answered}
use Rattle.session.specs.Marks.{Journals, Below, Moves, mark_at}
use Rattle.session.specs.Stores.{Adds, Fails, Replies}
use Rattle.session.specs.Turns.{Ground, ground, StandAt, AreUnchanging}
use Rattle.session.specs.Entering.{Enters}
use Rattle.session.specs.declared.enter.Entered.TheVariants.{Pinned, Full, NoMemory}
use Rattle.session.proofs.MarkLemmas.{below_more, moves_none, moves_more, all_begin}
use Rattle.session.proofs.TurnLemmas.{stand_later, stand_more}
use Rattle.session.proofs.EnterLemmas.{entered_full, entered_none, placed}

-- the entries of the Steps from this number on, so many
abbrev pub step_entries : ℕ → Txn → Query → ℕ → ℕ → List Entry
step_entries seat t q s n = map (entry_of seat) (steps_from t q s n)

steps_more : (seat : ℕ) (t : Txn) (q : Query) (s n m : ℕ) → m ≡ s + n → step_entries seat t q s (suc n) ≡ step_entries seat t q s n ++ entry_of seat (Step t q m) ∷ []
steps_more seat t q s zero m e = let same : s ≡ m = omega (arith, e) in ap (λ (k : ℕ). entry_of seat (Step t q k) ∷ []) same
steps_more seat t q s (suc n) m e = ap (λ (z : List Entry). entry_of seat (Step t q s) ∷ z) (steps_more seat t q (suc s) n m (omega (arith, e)))

steps_split : (seat : ℕ) (t : Txn) (q : Query) (s n left total m : ℕ) → total ≡ n + left → m ≡ s + n
    → step_entries seat t q s total ≡ step_entries seat t q s n ++ step_entries seat t q m left
steps_split seat t q s zero left total m e f =
    let a : total ≡ left = omega (arith, e) in
    let b : s ≡ m = omega (arith, f) in
    ap (λ (k : ℕ). step_entries seat t q s k) a ∙ ap (λ (k : ℕ). step_entries seat t q k left) b
steps_split seat t q s (suc n) left zero m e f = absurd (omega (arith, e))
steps_split seat t q s (suc n) left (suc total) m e f =
    ap (λ (z : List Entry). entry_of seat (Step t q s) ∷ z) (steps_split seat t q (suc s) n left total m (omega (arith, e)) (omega (arith, f)))

length_entries : (seat : ℕ) (t : Txn) (q : Query) (s n : ℕ) → length (step_entries seat t q s n) ≡ n
length_entries seat t q s zero = refl
length_entries seat t q s (suc n) = ap suc (length_entries seat t q (suc s) n)

length_steps : (t : Txn) (q : Query) (s n : ℕ) → length (steps_from t q s n) ≡ n
length_steps t q s zero = refl
length_steps t q s (suc n) = ap suc (length_steps t q (suc s) n)

-- Steps change nothing
unchanging_steps : (g : Ground) (repo seat : ℕ) (t : Txn) (q : Query) (s n : ℕ) (places : List ℕ) → StandAt (g.journals repo) places (step_entries seat t q s n)
    → AreUnchanging g repo places (step_entries seat t q s n)
unchanging_steps g repo seat t q s zero [] h = tt
unchanging_steps g repo seat t q s zero (k ∷ ks) h = absurd h
unchanging_steps g repo seat t q s (suc n) [] h = absurd h
unchanging_steps g repo seat t q s (suc n) (k ∷ ks) h = (inl refl, unchanging_steps g repo seat t q (suc s) n ks h.1)

map_more : (repo k : ℕ) (places : List ℕ) → map (mark_at repo) (places ++ k ∷ []) ≡ map (mark_at repo) places ++ mark_at repo k ∷ []
map_more repo k [] = refl
map_more repo k (p ∷ places) = ap (λ (z : List Mark). mark_at repo p ∷ z) (map_more repo k places)

-- the ops of a query in a READ_COMMITTED transaction are its Steps
ops_stepped : (t : Txn) (q : Query) → t.level ≡ ReadCommitted → ops_of (Read (Some t) (AskQuery q)) ≡ steps_from t q 0 (lookups_of q)
ops_stepped t q e =
    let same : is_level t.level ReadCommitted ≡ true = ap (λ l. is_level l ReadCommitted) e in
    ap (λ (b : Bool). if b then steps_from t q 0 (lookups_of q) else Read (Some t) (AskQuery q) ∷ []) same

-- and another read is one entry
pub ops_of_level : (t : Txn) (q : Query) → is_level t.level ReadCommitted ≡ false → ops_of (Read (Some t) (AskQuery q)) ≡ Read (Some t) (AskQuery q) ∷ []
ops_of_level t q e = ap (λ (b : Bool). if b then steps_from t q 0 (lookups_of q) else Read (Some t) (AskQuery q) ∷ []) e

pub few_lookups : (t : Txn) (q : Query) → t.level ≡ ReadCommitted → length (ops_of (Read (Some t) (AskQuery q))) ≤ 256 → lookups_of q ≤ 256
few_lookups t q e h = let n = ap length (ops_stepped t q e) ∙ length_steps t q 0 (lookups_of q) in omega (arith, n, h)

pub some_lookup : (q : Query) → 0 < lookups_of q
some_lookup q = go (length (group_of q)) where
  go : (n : ℕ) → 0 < max 1 n
  go zero = omega arith
  go (suc n) = omega arith

entries_stepped : (id : List ℕ) (t : Txn) (q : Query) (form : Form) (seat : ℕ) → t.level ≡ ReadCommitted
    → entries_of (On id (Read (Some t) (AskQuery q)) form) seat ≡ step_entries seat t q 0 (lookups_of q)
entries_stepped id t q form seat e = ap (λ (ops : List Op). map (entry_of seat) ops) (ops_stepped t q e)

-- the first Steps, so many, were made
pub record Stepped (limits : Limits) (seats : ℕ → ℕ) (old now : Journals) (repo : ℕ) (t : Txn) (q : Query) (number : ℕ) (marks marks' : List Mark)
    (p : PinnedRead) : Type 0 where
  pub places : List ℕ
  pub marks_are : marks' ≡ marks ++ map (mark_at repo) places
  pub moves : Moves seats old now (map (mark_at repo) places)
  pub room : Below limits.places (map (mark_at repo) places)
  pub stand : StandAt (now repo) places (step_entries (seats repo) t q 0 number)
  pub within : 0 < number → length (now repo) ≤ limits.places
  pub last : 0 < number → number ≡ lookups_of q → (before : List ℕ) × (k : ℕ) × (places ≡ before ++ k ∷ []) × Replies limits now repo k (answered p (AskQuery q))

pub stepped_none : (limits : Limits) (seats : ℕ → ℕ) (old : Journals) (repo : ℕ) (t : Txn) (q : Query) (marks : List Mark) (p : PinnedRead)
    → Stepped limits seats old old repo t q 0 marks marks p
stepped_none limits seats old repo t q marks p = record {
  places = [];
  marks_are = sym (append-nil marks);
  moves = moves_none seats old;
  room = tt;
  stand = tt;
  within = λ some. absurd (omega (arith, some));
  last = λ some all. absurd (omega (arith, some));
}

pub stepped_more : (limits : Limits) (seats : ℕ → ℕ) (old mid new : Journals) (repo : ℕ) (t : Txn) (q : Query) (number k : ℕ)
    (marks marks' marks'' : List Mark) (p p' : PinnedRead) → Stepped limits seats old mid repo t q number marks marks' p
    → Adds limits seats mid new repo (Step t q number) k → (number + 1 ≡ lookups_of q → Replies limits new repo k (answered p' (AskQuery q)))
    → marks'' ≡ marks' ++ mark_at repo k ∷ [] → Stepped limits seats old new repo t q (number + 1) marks marks'' p'
stepped_more limits seats old mid new repo t q number k marks marks' marks'' p p' s a r e =
    let es : List Entry = step_entries (seats repo) t q 0 number in
    let stands = stand_more (new repo) s.places es k (entry_of (seats repo) (Step t q number))
    (stand_later (mid repo) (new repo) s.places es (all_begin seats mid new (mark_at repo k ∷ []) a.moves repo) s.stand) (a.stands, tt) in
    let steps_are : step_entries (seats repo) t q 0 (number + 1) ≡ es ++ entry_of (seats repo) (Step t q number) ∷ [] =
    ap (λ (n : ℕ). step_entries (seats repo) t q 0 n) (add-one number) ∙ steps_more (seats repo) t q 0 number number (omega arith) in
    record {
      places = s.places ++ k ∷ [];
      marks_are = e ∙ ap (λ (z : List Mark). z ++ mark_at repo k ∷ []) s.marks_are ∙ append_assoc marks (map (mark_at repo) s.places) (mark_at repo k ∷ [])
          ∙ ap (λ (z : List Mark). marks ++ z) (sym (map_more repo k s.places));
      moves = subst (λ (z : List Mark). Moves seats old new z) (sym (map_more repo k s.places)) (moves_more seats old mid new (map (mark_at repo) s.places) (mark_at repo k ∷ []) s.moves a.moves);
      room = subst (λ (z : List Mark). Below limits.places z) (sym (map_more repo k s.places)) (below_more limits.places (map (mark_at repo) s.places) (mark_at repo k ∷ []) s.room (placed limits (new repo) k (entry_of (seats repo) (Step t q number)) a.stands a.within, tt));
      stand = subst (λ (z : List Entry). StandAt (new repo) (s.places ++ k ∷ []) z) (sym steps_are) stands;
      within = λ some. a.within;
      last = λ some all. (s.places, k, refl, r all);
    }

pub stepped_all : (names : List (List ℕ)) (limits : Limits) (seats : ℕ → ℕ) (old new : Journals) (repo : ℕ) (id : List ℕ) (t : Txn) (q : Query)
    (form : Form) (number : ℕ) (marks marks' : List Mark) (p : PinnedRead) → Stepped limits seats old new repo t q number marks marks' p
    → t.level ≡ ReadCommitted → number ≡ lookups_of q
    → Enters (ground names limits new seats) old repo (On id (Read (Some t) (AskQuery q)) form) marks marks' (Pinned p)
stepped_all names limits seats old new repo id t q form number marks marks' p s level all =
    let g = ground names limits new seats in
    let entries_are = entries_stepped id t q form (seats repo) level in
    let stand : StandAt (new repo) s.places (step_entries (seats repo) t q 0 (lookups_of q)) =
    subst (λ (n : ℕ). StandAt (new repo) s.places (step_entries (seats repo) t q 0 n)) all s.stand in
    let some = some_lookup q in
    let last = s.last (omega (arith, some, all)) all in
    record {
      places = s.places;
      marks_are = s.marks_are;
      moves = s.moves;
      room = s.room;
      entered = (
        subst (λ (es : List Entry). StandAt (new repo) s.places es) (sym entries_are) stand,
        record { made = step_entries (seats repo) t q 0 (lookups_of q); stand = stand; parts = entries_are ∙ sym (append-nil (step_entries (seats repo) t q 0 (lookups_of q))) },
        unchanging_steps g repo (seats repo) t q 0 (lookups_of q) s.places stand,
        (AskQuery q, refl, record { before = last.0; last = last.1; places_are = last.2; replied = last.3 }),
        s.within (omega (arith, some, all)),
      );
    }

parts_of : (id : List ℕ) (t : Txn) (q : Query) (form : Form) (seat number : ℕ) → t.level ≡ ReadCommitted → number ≤ lookups_of q
    → entries_of (On id (Read (Some t) (AskQuery q)) form) seat ≡ step_entries seat t q 0 number ++ step_entries seat t q number (lookups_of q - number)
parts_of id t q form seat number level most =
    entries_stepped id t q form seat level ∙ steps_split seat t q 0 number (lookups_of q - number) (lookups_of q) number (omega (arith, most)) (omega arith)

pub stepped_full : (names : List (List ℕ)) (limits : Limits) (seats : ℕ → ℕ) (old mid new : Journals) (repo : ℕ) (id : List ℕ) (t : Txn) (q : Query)
    (form : Form) (number : ℕ) (marks marks' : List Mark) (p : PinnedRead) → Stepped limits seats old mid repo t q number marks marks' p
    → t.level ≡ ReadCommitted → number < lookups_of q → Fails limits seats mid new repo JournalFull
    → Enters (ground names limits new seats) old repo (On id (Read (Some t) (AskQuery q)) form) marks marks' Full
stepped_full names limits seats old mid new repo id t q form number marks marks' p s level less f =
    entered_full names limits seats old mid new repo (On id (Read (Some t) (AskQuery q)) form) marks marks' s.places (step_entries (seats repo) t q 0 number)
    (step_entries (seats repo) t q number (lookups_of q - number)) s.marks_are s.moves s.room s.stand (parts_of id t q form (seats repo) number level (omega (arith, less)))
    (omega (arith, less, length_entries (seats repo) t q number (lookups_of q - number))) f

pub stepped_gone : ReplyReadsNoLaterEntry → (names : List (List ℕ)) (limits : Limits) (seats : ℕ → ℕ) (old mid new : Journals) (repo : ℕ) (id : List ℕ)
    (t : Txn) (q : Query) (form : Form) (number : ℕ) (marks marks' : List Mark) (p : PinnedRead) → Stepped limits seats old mid repo t q number marks marks' p
    → t.level ≡ ReadCommitted → number < lookups_of q → Moves seats mid new []
    → Enters (ground names limits new seats) old repo (On id (Read (Some t) (AskQuery q)) form) marks marks' NoMemory
stepped_gone law names limits seats old mid new repo id t q form number marks marks' p s level less f =
    entered_none law names limits seats old mid new repo (On id (Read (Some t) (AskQuery q)) form) marks marks' s.places (step_entries (seats repo) t q 0 number)
    (step_entries (seats repo) t q number (lookups_of q - number)) s.marks_are s.moves s.room s.stand (parts_of id t q form (seats repo) number level (omega (arith, less)))
    (unchanging_steps (ground names limits mid seats) repo (seats repo) t q 0 number s.places s.stand) f
