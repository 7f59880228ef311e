-- A run of the program by the session that it serves.
use Rattle.std.proofs.Common.{◌≡◌, ℕ, ◌≤◌, ◌<◌, ◌⊎◌, false, true≢false, List, [], ◌∷◌, Option, Some, length, codes, ap, sym, subst, ◌∙◌, refl, inl, inr, append-nil, arith}
use Rattle.journal.specs.declared.entry.Entry.{Entry}
use Rattle.journal.specs.declared.entry.Mark.{Mark}
use Rattle.journal.specs.declared.limits.Limits.{Limits}
use Rattle.quad_index.specs.declared.letter.Letter.{Letter}
use Rattle.rdf_io.specs.Causes.{Rose}
use Rattle.session.specs.Causes.{Caused, sink_broke, source_broke}
use Rattle.session.specs.Ends.{IsSession}
use Rattle.session.specs.Houses.{AreNames}
use Rattle.session.specs.Laws.{AreRequests, WholeStreamsEndDone}
use Rattle.session.specs.Marks.{Goes, Journals, Moves, places_in}
use Rattle.rdf_io.specs.Sending.{Puts}
use Rattle.session.specs.Turns.{ground}
use Rattle.session.specs.declared.report.SessionEnd.{SessionEnd}
use Rattle.session.specs.declared.report.SessionEnd.TheVariants.{Done, Refused, ReadFault, WriteFault, Limit, Memory}
use Rattle.session.specs.declared.report.Turn.{Turn}
use Rattle.rdf_server.specs.Programs.{IsRun, no_entries, one_seat, standard_limits, status_of}
use Rattle.rdf_server.specs.Words.{AreOptions, IsStdio}
use Rattle.rdf_server.proofs.WordLemmas.{same_parts, tail_same}

-- a session on a house of new repositories is a run
pub ran : (ids names : List (List ℕ)) (limits : Limits) (old new : Journals) (left left' taken taken' : Option (List ℕ)) (end : SessionEnd) (turns : List Turn) (marks : List Mark)
    → names ≡ ids → limits ≡ standard_limits → ((repo : ℕ) → old repo ≡ []) → Moves one_seat old new marks
    → ((b : List ℕ) → left ≡ Some b → (text : List ℕ) × Puts taken taken' text × IsSession (ground names limits new one_seat) b left' end turns marks text)
    → IsRun ids left left' taken taken' end
ran ids names limits old new left left' taken taken' end turns marks same standard empty moves session = record {
  journals = new;
  turns = turns;
  marks = marks;
  moves = λ repo. subst (λ (j : List Entry). Goes 0 j (new repo) (places_in repo marks)) (empty repo) (moves repo);
  session = λ b told.
      let r = session b told in (
        r.0,
        r.1,
        subst (λ (x : Limits). IsSession (ground ids x new one_seat) b left' end turns marks r.0) standard
            (subst (λ (x : List (List ℕ)). IsSession (ground x limits new one_seat) b left' end turns marks r.0) same r.2),
      );
}

-- where no memory is found for the house, nothing is read or written
pub none_ran : (ids : List (List ℕ)) (left taken : Option (List ℕ)) → IsRun ids left left taken taken Memory
none_ran ids left taken = record {
  journals = no_entries;
  turns = [];
  marks = [];
  moves = λ repo. record { more = []; begins = refl; own = refl };
  session = λ b told. (
    [],
    λ t e. e ∙ ap Some (sym (append-nil t)),
    record { body = []; closed = false; rest = b; all = (refl, refl, refl, refl); ends = (refl, omega arith, inl (refl, refl)) },
  );
}

-- the same by another word for the IDs
pub ran_for : (ids ids' : List (List ℕ)) (left left' taken taken' : Option (List ℕ)) (end : SessionEnd) → ids ≡ ids' → IsRun ids left left' taken taken' end → IsRun ids' left left' taken taken' end
ran_for ids ids' left left' taken taken' end same run = subst (λ (x : List (List ℕ)). IsRun x left left' taken taken' end) same run

-- The words of a run

-- the words that were found, and what their IDs are
pub found_words : (words options ids : List (List ℕ)) (orders : List (List Letter)) → AreNames ids → AreOptions options orders ids → length orders ≤ 6 → words ≡ codes "stdio" ∷ options
    → IsStdio words orders ids
found_words words options ids orders names are few e = record { behind = options; words_are = e; options = are; few = few; names = names }

-- words have the IDs that were found in them
pub same_ids : (words options ids : List (List ℕ)) (orders : List (List Letter)) → AreNames ids → AreOptions options orders ids → words ≡ codes "stdio" ∷ options
    → (orders' : List (List Letter)) (ids' : List (List ℕ)) → IsStdio words orders' ids' → ids ≡ ids'
same_ids words options ids orders names are e orders' ids' it =
    let behind : it.behind ≡ options = tail_same _ _ _ _ (sym it.words_are ∙ e) in
    (same_parts options orders orders' ids ids' are names (subst (λ (x : List (List ℕ)). AreOptions x orders' ids') behind it.options) it.names).1

-- Statuses

pub not_two : (end : SessionEnd) → source_broke end ≡ false → status_of end ≡ 2 → ⊥
not_two Done broke two = absurd (omega (arith, two))
not_two Refused broke two = absurd (omega (arith, two))
not_two ReadFault broke two = true≢false broke
not_two WriteFault broke two = absurd (omega (arith, two))
not_two Limit broke two = absurd (omega (arith, two))
not_two Memory broke two = absurd (omega (arith, two))

-- without a fault that was counted, requests alone are all served, or memory is wanted
pub whole_run : WholeStreamsEndDone → (ids : List (List ℕ)) (left left' taken taken' : Option (List ℕ)) (end : SessionEnd) (reads reads' writes writes' : ℕ)
    → IsRun ids left left' taken taken' end → Caused (source_broke end) reads reads' → Caused (sink_broke end) writes writes' → (b : List ℕ) (n : ℕ) → left ≡ Some b
    → AreRequests n b → n < 100000 → (Rose reads reads' → ⊥) → (Rose writes writes' → ⊥) → (status_of end ≡ 0) ⊎ ((status_of end ≡ 5) ⊎ (status_of end ≡ 6))
whole_run law ids left left' taken taken' Done reads reads' writes writes' run source sink b n told all few sound whole = inl refl
whole_run law ids left left' taken taken' Refused reads reads' writes writes' run source sink b n told all few sound whole =
    let it = law _ n b left' Refused run.turns run.marks _ all few refl (run.session b told).2 in
    absurd (omega (arith, ap status_of it.0))
whole_run law ids left left' taken taken' ReadFault reads reads' writes writes' run source sink b n told all few sound whole = absurd (sound source.1)
whole_run law ids left left' taken taken' WriteFault reads reads' writes writes' run source sink b n told all few sound whole = absurd (whole sink.1)
whole_run law ids left left' taken taken' Limit reads reads' writes writes' run source sink b n told all few sound whole =
    let it = law _ n b left' Limit run.turns run.marks _ all few refl (run.session b told).2 in
    absurd (omega (arith, ap status_of it.0))
whole_run law ids left left' taken taken' Memory reads reads' writes writes' run source sink b n told all few sound whole = inr (inr refl)

-- the same of a number that is the status
pub whole_status : (end : SessionEnd) (r : ℕ) → r ≡ status_of end → (status_of end ≡ 0) ⊎ ((status_of end ≡ 5) ⊎ (status_of end ≡ 6)) → (r ≡ 0) ⊎ ((r ≡ 5) ⊎ (r ≡ 6))
whole_status end r e h = subst (λ (x : ℕ). (x ≡ 0) ⊎ ((x ≡ 5) ⊎ (x ≡ 6))) (sym e) h
