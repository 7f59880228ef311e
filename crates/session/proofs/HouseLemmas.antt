-- One repository of a house went on.
use Rattle.std.proofs.Common.{◌≡◌, ◌≢◌, ◌⊎◌, ℕ, zero, suc, ◌+◌, ◌≤◌, ◌<◌, ◌==◌, Bool, true, false, ◌&&◌, nat_eq, if◌then◌else◌, List, [], ◌∷◌, ◌++◌, length, map, slice_set, None, Some, Result, Ok, Err, IfOk, IfErr, OnOk, OnErr, slice_get, slice_index_or, refl, sym, ◌∙◌, ap, subst, inl, inr, append-nil, length-append, arith}
use Rattle.std.proofs.lemmas.Option.{same_Some, slice_get_read}
use Rattle.std.proofs.lemmas.Bool.{cases_lt}
use Rattle.std.proofs.lemmas.List.Folds.{list_all-append}
use Rattle.std.proofs.lemmas.Bool.Decides.{nat_tests}
use Rattle.journal.specs.declared.entry.Entry.{Entry}
use Rattle.journal.specs.declared.fault.StoreFault.{StoreFault}
use Rattle.journal.specs.declared.fault.StoreFault.TheVariants.{JournalFull}
use Rattle.journal.specs.declared.limits.Limits.{Limits}
use Rattle.query_model.specs.declared.query.Query.{Query}
use Rattle.query_model.specs.Solutions.{lookups_of}
use Rattle.journal.specs.declared.ask.Ask.{Ask}
use Rattle.journal.specs.declared.ask.Ask.TheVariants as asks
use Rattle.journal.specs.declared.op.Op.TheVariants.{Step}
use Rattle.journal.specs.declared.op.Op.{Op}
use Rattle.journal.specs.declared.txn.Txn.{Txn}
use Rattle.journal.specs.declared.reply.Reply.{Reply}
use Rattle.journal.specs.Journal.{entry_of, reply_at}
use Rattle.iso_txn.specs.Repository.{IsFull, PinnedRead, Repository, with_entry}
use Rattle.journal.specs.declared.level.Level.TheVariants.{ReadCommitted}
use Rattle.repo_store.specs.Stores.{FirstStepIsNext, IsEntered, IsNextStep, answered}
use Rattle.session.specs.Houses.{AreOf, IsOwn, MayStep, journal_at, journals_of, new_repo}
use Rattle.session.specs.Marks.{Goes}
use Rattle.session.specs.Stores.{Adds, Fails, Replies, nothing_pinned}

-- a new house

own_none : (limits : Limits) → IsOwn limits []
own_none limits = let none : 0 ≤ limits.places = omega arith in record { seats = refl; room = none }

pub are_new : (limits : Limits) (names : List (List ℕ)) → AreOf limits names (map (new_repo limits) names)
are_new limits [] = tt
are_new limits (name ∷ names) = (refl, own_none limits, are_new limits names)

pub none_entered : (limits : Limits) (names : List (List ℕ)) (repo : ℕ) → journals_of (map (new_repo limits) names) repo ≡ []
none_entered limits [] repo = refl
none_entered limits (name ∷ names) zero = refl
none_entered limits (name ∷ names) (suc repo) = none_entered limits names repo

-- one of the repositories

pub same_count : (limits : Limits) (names : List (List ℕ)) (repos : List Repository) → AreOf limits names repos → length names ≡ length repos
same_count limits [] [] h = refl
same_count limits [] (r ∷ rs) h = absurd h
same_count limits (n ∷ ns) [] h = absurd h
same_count limits (n ∷ ns) (r ∷ rs) h = ap suc (same_count limits ns rs h.2)

pub limits_of : (limits : Limits) (names : List (List ℕ)) (repos : List Repository) (i : ℕ) (r : Repository) → AreOf limits names repos → slice_get repos i ≡ Some r
    → r.limits ≡ limits
limits_of limits [] [] i r h e = cc
limits_of limits [] (x ∷ rs) i r h e = absurd h
limits_of limits (n ∷ ns) [] i r h e = absurd h
limits_of limits (n ∷ ns) (x ∷ rs) zero r h e = ap (λ (z : Repository). z.limits) (sym (same_Some x r e)) ∙ h.0
limits_of limits (n ∷ ns) (x ∷ rs) (suc i) r h e = limits_of limits ns rs i r h.2 e

none_there : (r : Repository) → None ≡ Some r → ⊥
none_there r e = cc

own_of : (limits : Limits) (names : List (List ℕ)) (repos : List Repository) (i : ℕ) (r : Repository) → AreOf limits names repos → slice_get repos i ≡ Some r
    → IsOwn limits r.journal
own_of limits [] [] i r h e = absurd (none_there r e)
own_of limits [] (x ∷ rs) i r h e = absurd h
own_of limits (n ∷ ns) [] i r h e = absurd h
own_of limits (n ∷ ns) (x ∷ rs) zero r h e = subst (λ (z : Repository). IsOwn limits z.journal) (same_Some x r e) h.1
own_of limits (n ∷ ns) (x ∷ rs) (suc i) r h e = own_of limits ns rs i r h.2 e

-- a journal with one entry more of the caller
own_more : (limits : Limits) (journal : List Entry) (op : Op) → IsOwn limits journal → length journal < limits.places → IsOwn limits (journal ++ entry_of 0 op ∷ [])
own_more limits journal op own room = record {
  seats = list_all-append (λ (e : Entry). nat_eq e.seat 0) journal (entry_of 0 op ∷ []) ∙ ap (λ (b : Bool). b && true) own.seats;
  room = omega (arith, room, length-append journal (entry_of 0 op ∷ []));
}

own_entry : (limits : Limits) (r q : Repository) (op : Op) → IsOwn limits r.journal → q ≡ with_entry r (entry_of 0 op) → length r.journal < limits.places
    → IsOwn limits q.journal
own_entry limits r q op own e room = subst (λ (z : Repository). IsOwn limits z.journal) (sym e) (own_more limits r.journal op own room)

own_still : (limits : Limits) (r q : Repository) → IsOwn limits r.journal → q ≡ r → IsOwn limits q.journal
own_still limits r q own e = subst (λ (z : Repository). IsOwn limits z.journal) (sym e) own

-- the journals of a house have no entry but the caller's own
pub all_own : (limits : Limits) (names : List (List ℕ)) (repos : List Repository) → AreOf limits names repos → (repo : ℕ) → IsOwn limits (journals_of repos repo)
all_own limits [] [] h repo = own_none limits
all_own limits [] (r ∷ rs) h repo = absurd h
all_own limits (n ∷ ns) [] h repo = absurd h
all_own limits (n ∷ ns) (r ∷ rs) h zero = h.1
all_own limits (n ∷ ns) (r ∷ rs) h (suc repo) = all_own limits ns rs h.2 repo

pub set_of : (limits : Limits) (names : List (List ℕ)) (repos : List Repository) (i : ℕ) (q : Repository) → AreOf limits names repos → q.limits ≡ limits
    → IsOwn limits q.journal → AreOf limits names (slice_set repos i q)
set_of limits [] [] i q h e own = tt
set_of limits [] (x ∷ rs) i q h e own = absurd h
set_of limits (n ∷ ns) [] i q h e own = absurd h
set_of limits (n ∷ ns) (x ∷ rs) zero q h e own = (e, own, h.2)
set_of limits (n ∷ ns) (x ∷ rs) (suc i) q h e own = (h.0, h.1, set_of limits ns rs i q h.2 e own)

get_here : (rs : List Repository) (i : ℕ) (r q : Repository) → slice_get rs i ≡ Some r → slice_get (slice_set rs i q) i ≡ Some q
get_here [] i r q a = cc
get_here (x ∷ rs) zero r q a = refl
get_here (x ∷ rs) (suc i) r q a = get_here rs i r q a

get_other : (rs : List Repository) (i j : ℕ) (q : Repository) → i ≢ j → slice_get (slice_set rs i q) j ≡ slice_get rs j
get_other [] i j q h = refl
get_other (x ∷ rs) zero zero q h = absurd (h refl)
get_other (x ∷ rs) zero (suc j) q h = refl
get_other (x ∷ rs) (suc i) zero q h = refl
get_other (x ∷ rs) (suc i) (suc j) q h = get_other rs i j q (λ e. h (ap suc e))

goes_by : (a a' b b' : List Entry) (ks : List ℕ) → a ≡ a' → b ≡ b' → Goes 0 a' b' ks → Goes 0 a b ks
goes_by a a' b b' ks f h g = subst (λ (z : List Entry). Goes 0 z b ks) (sym f) (subst (λ (z : List Entry). Goes 0 a' z ks) (sym h) g)

goes_other : (rs : List Repository) (i j : ℕ) (q : Repository) → i ≢ j → Goes 0 (journals_of rs j) (journals_of (slice_set rs i q) j) []
goes_other rs i j q h = record { more = []; begins = ap journal_at (get_other rs i j q h) ∙ sym (append-nil (journals_of rs j)); own = refl }

goes_entry : (r q : Repository) (op : Op) → q ≡ with_entry r (entry_of 0 op) → Goes 0 r.journal q.journal (length r.journal ∷ [])
goes_entry r q op e = record { more = entry_of 0 op ∷ []; begins = ap (λ (z : Repository). z.journal) e; own = refl }

entry_stands : (j : List Entry) (e : Entry) → slice_get (j ++ e ∷ []) (length j) ≡ Some e
entry_stands [] e = refl
entry_stands (x ∷ j) e = entry_stands j e

-- one entry was made in one of the repositories
pub adds_in : (limits : Limits) (rs : List Repository) (i place : ℕ) (r q : Repository) (op : Op) → slice_get rs i ≡ Some r → r.limits ≡ limits
    → q ≡ with_entry r (entry_of 0 op) → place ≡ length r.journal → length r.journal < limits.places
    → Adds limits (λ (repo : ℕ). 0) (journals_of rs) (journals_of (slice_set rs i q)) i op place
adds_in limits rs i place r q op at same e here room = record {
  moves = λ j. go j (i == j) refl;
  stands = ap (λ (z : List Entry). slice_get z place) (ap journal_at (get_here rs i r q at))
      ∙ ap (λ (z : Repository). slice_get z.journal place) e ∙ ap (λ (n : ℕ). slice_get (r.journal ++ entry_of 0 op ∷ []) n) here ∙ entry_stands r.journal (entry_of 0 op);
  within =
      let long : length (journals_of (slice_set rs i q) i) ≡ length (r.journal ++ entry_of 0 op ∷ []) =
      ap (λ (z : List Entry). length z) (ap journal_at (get_here rs i r q at)) ∙ ap (λ (z : Repository). length z.journal) e in
      omega (arith, long, room, length-append r.journal (entry_of 0 op ∷ []));
} where
  go : (j : ℕ) (b : Bool) → (i == j) ≡ b → Goes 0 (journals_of rs j) (journals_of (slice_set rs i q) j) (if b then place ∷ [] else [])
  go j true f =
      let eq : i ≡ j = grind (arith, nat_tests, f) in
      subst (λ (k : ℕ). Goes 0 (journals_of rs k) (journals_of (slice_set rs i q) k) (place ∷ [])) eq
      (goes_by (journals_of rs i) r.journal (journals_of (slice_set rs i q) i) q.journal (place ∷ []) (ap journal_at at) (ap journal_at (get_here rs i r q at))
      (subst (λ (n : ℕ). Goes 0 r.journal q.journal (n ∷ [])) (sym here) (goes_entry r q op e)))
  go j false f = let apart : i ≢ j = λ h. grind (arith, nat_tests, f, h) in goes_other rs i j q apart

-- and none was made
pub fails_in : (limits : Limits) (rs : List Repository) (i : ℕ) (r q : Repository) (fault : StoreFault) → slice_get rs i ≡ Some r → r.limits ≡ limits → q ≡ r
    → (fault ≡ JournalFull → IsFull r) → Fails limits (λ (repo : ℕ). 0) (journals_of rs) (journals_of (slice_set rs i q)) i fault
fails_in limits rs i r q fault at same e full = record {
  moves = λ j. go j (i == j) refl;
  full = λ f.
      let few = full f in
      let long : length (journals_of (slice_set rs i q) i) ≡ length r.journal =
      ap (λ (z : List Entry). length z) (ap journal_at (get_here rs i r q at)) ∙ ap (λ (z : Repository). length z.journal) e in
      let most : limits.places ≡ r.limits.places = ap (λ (z : Limits). z.places) (sym same) in
      omega (arith, few, long, most);
} where
  go : (j : ℕ) (b : Bool) → (i == j) ≡ b → Goes 0 (journals_of rs j) (journals_of (slice_set rs i q) j) []
  go j true f =
      let eq : i ≡ j = grind (arith, nat_tests, f) in
      subst (λ (k : ℕ). Goes 0 (journals_of rs k) (journals_of (slice_set rs i q) k) []) eq
      (goes_by (journals_of rs i) r.journal (journals_of (slice_set rs i q) i) r.journal [] (ap journal_at at)
      (ap journal_at (get_here rs i r q at) ∙ ap (λ (z : Repository). z.journal) e) (record { more = []; begins = sym (append-nil r.journal); own = refl }))
  go j false f = let apart : i ≢ j = λ h. grind (arith, nat_tests, f, h) in goes_other rs i j q apart

-- a call that was answered found a journal that isn't full
pub not_full : {A : Type 0} (r : Repository) (result : Result A StoreFault) → (IsFull r → result ≡ Err JournalFull) → (a : A) → result ≡ Ok a
    → length r.journal < r.limits.places
not_full r result full a e = go (cases_lt (length r.journal) r.limits.places) where
  go : (length r.journal < r.limits.places) ⊎ (r.limits.places ≤ length r.journal) → length r.journal < r.limits.places
  go (inl less) = less
  go (inr more) = cc (full more, e)

-- the reply at the place, in the journal of the house
pub replies_in : (limits : Limits) (rs : List Repository) (i place : ℕ) (r q : Repository) (x : Reply) → slice_get rs i ≡ Some r → q.limits ≡ limits
    → reply_at q.limits q.journal place ≡ Some x → Replies limits (journals_of (slice_set rs i q)) i place x
replies_in limits rs i place r q x at same e =
    ap (λ (z : List Entry). reply_at limits z place) (ap journal_at (get_here rs i r q at)) ∙ ap (λ (z : Limits). reply_at z q.journal place) (sym same) ∙ e

-- a call with a reply made its entry
pub entered_in : (limits : Limits) (rs : List Repository) (i place : ℕ) (r q : Repository) (op : Op) (x : Reply) → slice_get rs i ≡ Some r → r.limits ≡ limits
    → IsEntered r q (entry_of 0 op) place x → length r.journal < r.limits.places
    → Adds limits (λ (repo : ℕ). 0) (journals_of rs) (journals_of (slice_set rs i q)) i op place × Replies limits (journals_of (slice_set rs i q)) i place x
entered_in limits rs i place r q op x at same e room =
    let kept : q.limits ≡ limits = ap (λ (z : Repository). z.limits) e.added ∙ same in
    let most : limits.places ≡ r.limits.places = ap (λ (z : Limits). z.places) (sym same) in
    (adds_in limits rs i place r q op at same e.added e.place_is (omega (arith, room, most)), replies_in limits rs i place r q x at kept e.reply_is)

-- what a call of one of the repositories with a reply does to the house
pub record Called (limits : Limits) (names : List (List ℕ)) (rs : List Repository) (i : ℕ) (q : Repository) (op : Op) (result : Result (ℕ × Reply) StoreFault) : Type 0 where
  pub are : AreOf limits names (slice_set rs i q)
  pub made : IfOk result (λ it. Adds limits (λ (repo : ℕ). 0) (journals_of rs) (journals_of (slice_set rs i q)) i op it.0 × Replies limits (journals_of (slice_set rs i q)) i it.0 it.1)
  pub fault : IfErr result (λ f. Fails limits (λ (repo : ℕ). 0) (journals_of rs) (journals_of (slice_set rs i q)) i f)

pub called_in : (limits : Limits) (names : List (List ℕ)) (rs : List Repository) (i : ℕ) (r q : Repository) (op : Op) (result : Result (ℕ × Reply) StoreFault)
    → AreOf limits names rs → slice_get rs i ≡ Some r → IfOk result (λ it. IsEntered r q (entry_of 0 op) it.0 it.1) → OnErr result (q ≡ r)
    → (IsFull r → result ≡ Err JournalFull) → (result ≡ Err JournalFull → IsFull r) → Called limits names rs i q op result
called_in limits names rs i r q op (Ok it) h at e same full room =
    let kept = limits_of limits names rs i r h at in
    let less = not_full r (Ok it) full it refl in
    let most : limits.places ≡ r.limits.places = ap (λ (z : Limits). z.places) (sym kept) in
    let own = own_entry limits r q op (own_of limits names rs i r h at) e.added (omega (arith, less, most)) in
    record {
      are = set_of limits names rs i q h (ap (λ (z : Repository). z.limits) e.added ∙ kept) own;
      made = entered_in limits rs i it.0 r q op it.1 at kept e less;
      fault = tt;
    }
called_in limits names rs i r q op (Err f) h at e same full room =
    let kept = limits_of limits names rs i r h at in
    record {
      are = set_of limits names rs i q h (ap (λ (z : Repository). z.limits) same ∙ kept) (own_still limits r q (own_of limits names rs i r h at) same);
      made = tt;
      fault = fails_in limits rs i r q f at kept same (λ is. room (ap Err is));
    }

-- a call that makes this entry, and what it answers besides
made_in : (limits : Limits) (names : List (List ℕ)) (rs : List Repository) (i place : ℕ) (r q : Repository) (op : Op) → AreOf limits names rs
    → slice_get rs i ≡ Some r → place ≡ length r.journal → q ≡ with_entry r (entry_of 0 op) → length r.journal < r.limits.places
    → AreOf limits names (slice_set rs i q) × Adds limits (λ (repo : ℕ). 0) (journals_of rs) (journals_of (slice_set rs i q)) i op place
made_in limits names rs i place r q op h at here e room =
    let kept = limits_of limits names rs i r h at in
    let most : limits.places ≡ r.limits.places = ap (λ (z : Limits). z.places) (sym kept) in
    let less : length r.journal < limits.places = omega (arith, room, most) in (
      set_of limits names rs i q h (ap (λ (z : Repository). z.limits) e ∙ kept) (own_entry limits r q op (own_of limits names rs i r h at) e less),
      adds_in limits rs i place r q op at kept e here less,
    )

unmade_in : (limits : Limits) (names : List (List ℕ)) (rs : List Repository) (i : ℕ) (r q : Repository) (f : StoreFault) → AreOf limits names rs
    → slice_get rs i ≡ Some r → q ≡ r → (f ≡ JournalFull → IsFull r)
    → AreOf limits names (slice_set rs i q) × Fails limits (λ (repo : ℕ). 0) (journals_of rs) (journals_of (slice_set rs i q)) i f
unmade_in limits names rs i r q f h at same full =
    let kept = limits_of limits names rs i r h at in
    (set_of limits names rs i q h (ap (λ (z : Repository). z.limits) same ∙ kept) (own_still limits r q (own_of limits names rs i r h at) same), fails_in limits rs i r q f at kept same full)

reply_in : (limits : Limits) (names : List (List ℕ)) (rs : List Repository) (i place : ℕ) (r q : Repository) (op : Op) (x : Reply) → AreOf limits names rs
    → slice_get rs i ≡ Some r → q ≡ with_entry r (entry_of 0 op) → reply_at q.limits q.journal place ≡ Some x → Replies limits (journals_of (slice_set rs i q)) i place x
reply_in limits names rs i place r q op x h at e replied =
    replies_in limits rs i place r q x at (ap (λ (z : Repository). z.limits) e ∙ limits_of limits names rs i r h at) replied

-- what a read of one of the repositories does to the house
pub record Reads (limits : Limits) (names : List (List ℕ)) (rs : List Repository) (i : ℕ) (q : Repository) (op : Op) (ask : Ask) (result : Result (ℕ × PinnedRead) StoreFault) : Type 0 where
  pub are : AreOf limits names (slice_set rs i q)
  pub made : IfOk result (λ it. Adds limits (λ (repo : ℕ). 0) (journals_of rs) (journals_of (slice_set rs i q)) i op it.0 × Replies limits (journals_of (slice_set rs i q)) i it.0 (answered it.1 ask))
  pub fault : IfErr result (λ f. Fails limits (λ (repo : ℕ). 0) (journals_of rs) (journals_of (slice_set rs i q)) i f)

pub reads_in : (limits : Limits) (names : List (List ℕ)) (rs : List Repository) (i : ℕ) (r q : Repository) (op : Op) (ask : Ask) (result : Result (ℕ × PinnedRead) StoreFault)
    → AreOf limits names rs → slice_get rs i ≡ Some r → IfOk result (λ it. it.0 ≡ length r.journal) → OnOk result (q ≡ with_entry r (entry_of 0 op))
    → IfOk result (λ it. reply_at q.limits q.journal it.0 ≡ Some (answered it.1 ask)) → OnErr result (q ≡ r)
    → (IsFull r → result ≡ Err JournalFull) → (result ≡ Err JournalFull → IsFull r) → Reads limits names rs i q op ask result
reads_in limits names rs i r q op ask (Ok it) h at place e replied same full room =
    let made = made_in limits names rs i it.0 r q op h at place e (not_full r (Ok it) full it refl) in
    record { are = made.0; made = (made.1, reply_in limits names rs i it.0 r q op (answered it.1 ask) h at e replied); fault = tt }
reads_in limits names rs i r q op ask (Err f) h at place e replied same full room =
    let unmade = unmade_in limits names rs i r q f h at same (λ is. room (ap Err is)) in
    record { are = unmade.0; made = tt; fault = unmade.1 }

-- the next Step in the house, where it is one in the repository
may_step_in : (rs : List Repository) (i : ℕ) (r q : Repository) (t : Txn) (query : Query) (number : ℕ) (pinned : PinnedRead) → slice_get rs i ≡ Some r
    → IsNextStep q 0 t query number pinned → MayStep (slice_set rs i q) i t query number pinned
may_step_in rs i r q t query number pinned at next other there =
    subst (λ (z : Repository). IsNextStep z 0 t query number pinned) (same_Some q other (sym (get_here rs i r q at) ∙ there)) next

-- what a Step in one of the repositories does to the house
pub record Steps (limits : Limits) (names : List (List ℕ)) (rs : List Repository) (i : ℕ) (q : Repository) (t : Txn) (query : Query) (number : ℕ) (pinned : PinnedRead)
    (result : Result ℕ StoreFault) : Type 0 where
  pub are : AreOf limits names (slice_set rs i q)
  pub made : IfOk result (λ place. Adds limits (λ (repo : ℕ). 0) (journals_of rs) (journals_of (slice_set rs i q)) i (Step t query number) place)
  pub next : IfOk result (λ place. number + 1 < lookups_of query → MayStep (slice_set rs i q) i t query (number + 1) pinned)
  pub last : IfOk result (λ place. number + 1 ≡ lookups_of query → Replies limits (journals_of (slice_set rs i q)) i place (answered pinned (asks.Query query)))
  pub fault : IfErr result (λ f. Fails limits (λ (repo : ℕ). 0) (journals_of rs) (journals_of (slice_set rs i q)) i f)

pub steps_in : (limits : Limits) (names : List (List ℕ)) (rs : List Repository) (i : ℕ) (r q : Repository) (t : Txn) (query : Query) (number : ℕ) (pinned : PinnedRead)
    (result : Result ℕ StoreFault) → AreOf limits names rs → slice_get rs i ≡ Some r → IfOk result (λ place. place ≡ length r.journal)
    → OnOk result (q ≡ with_entry r (entry_of 0 (Step t query number)))
    → IfOk result (λ place. number + 1 ≡ lookups_of query → reply_at q.limits q.journal place ≡ Some (answered pinned (asks.Query query)))
    → OnOk result (number + 1 < lookups_of query → IsNextStep q 0 t query (number + 1) pinned) → OnErr result (q ≡ r)
    → (IsFull r → result ≡ Err JournalFull) → (result ≡ Err JournalFull → IsFull r) → Steps limits names rs i q t query number pinned result
steps_in limits names rs i r q t query number pinned (Ok place) h at here e replied next same full room =
    let made = made_in limits names rs i place r q (Step t query number) h at here e (not_full r (Ok place) full place refl) in
    record {
      are = made.0;
      made = made.1;
      next = λ less. may_step_in rs i r q t query (number + 1) pinned at (next less);
      last = λ all. reply_in limits names rs i place r q (Step t query number) (answered pinned (asks.Query query)) h at e (replied all);
      fault = tt;
    }
steps_in limits names rs i r q t query number pinned (Err f) h at here e replied next same full room =
    let unmade = unmade_in limits names rs i r q f h at same (λ is. room (ap Err is)) in
    record { are = unmade.0; made = tt; next = tt; last = tt; fault = unmade.1 }

pub at_index : (rs : List Repository) (i : ℕ) (r : Repository) → i < length rs → r ≡ slice_index_or rs i r → slice_get rs i ≡ Some r
at_index rs i r less e = slice_get_read rs (length rs) i r refl less e

-- a Step may be made where the trait of stores asks for it
pub step_next : FirstStepIsNext → (rs : List Repository) (i : ℕ) (r : Repository) (t : Txn) (query : Query) (number : ℕ) (pinned : PinnedRead) → slice_get rs i ≡ Some r
    → t.level ≡ ReadCommitted → (number ≡ 0 → pinned ≡ nothing_pinned) → (0 < number → MayStep rs i t query number pinned) → IsNextStep r 0 t query number pinned
step_next law rs i r t query zero pinned at level first later =
    subst (λ (z : PinnedRead). IsNextStep r 0 t query 0 z) (sym (first refl)) (law r 0 t query level)
step_next law rs i r t query (suc n) pinned at level first later = later (omega arith) r at
