-- The passes of a shared repository.
use Rattle.std.proofs.Common.{◌<◌, length, ◌≡◌, ℕ, ◌+◌, List, [], ◌∷◌, ◌∙◌, refl, subst}
use Rattle.journal_lock.specs.Passes.{AreIdle, AreNew, EachHasAll, seen}
use Rattle.journal.specs.declared.entry.Entry.{Entry}
use Rattle.journal.specs.Laws.{LegalInTurn}
use Rattle.iso_txn.specs.Repository.{AreAllowed, Repository}
use Rattle.shared_repo.specs.declared.repo.Repo.{Repo}
use Rattle.shared_repo.specs.Passes.{AreFirst, ArePasses, EachEnds, RepoPass, as_seen, limits_of, with_journal}
use Rattle.shared_repo.proofs.ListLemmas.{goes_others}
use Rattle.shared_repo.proofs.SoundLemmas.{sound_empty}

pub first_passes : (h : LegalInTurn) (repo : Repo) (k : ℕ) (ps : List RepoPass) → AreAllowed (limits_of repo) → AreIdle repo.lock ps → AreNew k ps
    → AreFirst repo k ps
first_passes h repo k [] allowed idle new = tt
first_passes h repo k (p ∷ ps) allowed idle new =
    (((idle.0.0, idle.0.1, sound_empty h (as_seen repo p) allowed new.0.1), new.0.0, new.0.1), first_passes h repo (k + 1) ps allowed idle.1 new.1)

pub idle_passes : (repo : Repo) (ps : List RepoPass) → ArePasses repo ps → AreIdle repo.lock ps
idle_passes repo [] passes = tt
idle_passes repo (p ∷ ps) passes = ((passes.0.0, passes.0.1), idle_passes repo ps passes.1)

pub each_ends : (ps : List RepoPass) (journal : List Entry) → EachHasAll (λ (e : Entry). e.seat) ps journal → EachEnds ps journal
each_ends [] journal has = tt
each_ends (p ∷ ps) journal has = (goes_others p.number (seen p) journal has.0.0 has.0.1 has.0.2, each_ends ps journal has.1)

-- the value that is lent is the repository with the journal that the pass has seen by now
pub lent_is : (repo : Repo) (value lent : Repository) (mid journal : List Entry) → value ≡ lent → lent.journal ≡ mid → lent.limits ≡ limits_of repo
    → mid ≡ journal → value ≡ with_journal repo journal
lent_is repo value lent mid journal is stands fixed goes = is ∙ (λ k. record { limits = fixed k; journal = (stands ∙ goes) k })

-- so there was room in that journal where the value had room
pub room_in : (repo : Repo) (value lent : Repository) (mid : List Entry) → value ≡ lent → lent.journal ≡ mid → lent.limits ≡ limits_of repo
    → length value.journal < value.limits.places → length mid < (limits_of repo).places
room_in repo value lent mid is stands fixed room =
    subst (λ (it : Repository). length it.journal < it.limits.places) (lent_is repo value lent mid mid is stands fixed refl) room
