-- One pass of a worker went on.
use Rattle.std.proofs.Common.{◌≡◌, ◌≢◌, ◌↔◌, ℕ, zero, suc, ◌+◌, ◌≤◌, ◌<◌, ◌==◌, Bool, true, false, if◌then◌else◌, List, [], ◌∷◌, ◌++◌, length, slice_set, Option, Some, None, Result, Ok, Err, IfOk, IfErr, OnOk, OnErr, slice_get, slice_index_or, refl, sym, ◌∙◌, ap, subst, append-nil, arith}
use Rattle.std.proofs.lemmas.Option.{same_Some, slice_get_read}
use Rattle.std.proofs.lemmas.Bool.Decides.{nat_tests}
use mathlib.Core.Path.{fun_ext}
use Rattle.journal_lock.specs.Passes.{IsSamePass, seat_of, seen}
use Rattle.query_model.specs.declared.query.Query.{Query}
use Rattle.query_model.specs.Solutions.{lookups_of}
use Rattle.journal.specs.declared.ask.Ask.{Ask}
use Rattle.journal.specs.declared.ask.Ask.TheVariants as asks
use Rattle.journal.specs.declared.entry.Entry.{Entry}
use Rattle.journal.specs.declared.fault.StoreFault.{StoreFault}
use Rattle.journal.specs.declared.fault.StoreFault.TheVariants.{JournalFull}
use Rattle.journal.specs.declared.level.Level.TheVariants.{ReadCommitted}
use Rattle.journal.specs.declared.limits.Limits.{Limits}
use Rattle.journal.specs.declared.op.Op.{Op}
use Rattle.journal.specs.declared.op.Op.TheVariants.{Step}
use Rattle.journal.specs.declared.reply.Reply.{Reply}
use Rattle.journal.specs.declared.txn.Txn.{Txn}
use Rattle.journal.specs.Journal.{entry_of, reply_at}
use Rattle.journal.specs.Laws.{LegalInTurn}
use Rattle.iso_txn.specs.Repository.{IsFull, PinnedRead, Repository}
use Rattle.repo_store.specs.Stores.{FirstStepIsNext, IsNextStep, answered}
use Rattle.shared_repo.specs.Lists.{Adds as AddsOne, Goes as GoesOne, places_of as places_one}
use Rattle.shared_repo.specs.Passes.{IsPass, RepoPass, as_seen, limits_of}
use Rattle.shared_repo.specs.declared.repo.Repo.{Repo}
use Rattle.session.specs.Marks.{Goes, places_of}
use Rattle.session.specs.Stores.{Adds, Fails, Replies, nothing_pinned}
use Rattle.shared_session.specs.Houses.{AreLegal, AreOf, HaveLimits, House, IsHouse, MayStep, list_at, lists, seat_at, seats}

-- one of the repositories, and its pass

pub same_count : (rs : List Repo) (ps : List RepoPass) → AreOf rs ps → length rs ≡ length ps
same_count [] [] h = refl
same_count [] (p ∷ ps) h = absurd h
same_count (r ∷ rs) [] h = absurd h
same_count (r ∷ rs) (p ∷ ps) h = ap suc (same_count rs ps h.1)

pub one_of : (rs : List Repo) (ps : List RepoPass) (i : ℕ) (r : Repo) (p : RepoPass) → AreOf rs ps → slice_get rs i ≡ Some r → slice_get ps i ≡ Some p → IsPass r p
one_of [] [] i r p h a b = cc
one_of [] (y ∷ ps) i r p h a b = absurd h
one_of (x ∷ rs) [] i r p h a b = absurd h
one_of (x ∷ rs) (y ∷ ps) zero r p h a b =
    subst (λ (z : Repo). IsPass z p) (same_Some x r a) (subst (λ (z : RepoPass). IsPass x z) (same_Some y p b) h.0)
one_of (x ∷ rs) (y ∷ ps) (suc i) r p h a b = one_of rs ps i r p h.1 a b

set_of : (rs : List Repo) (ps : List RepoPass) (i : ℕ) (r : Repo) (q : RepoPass) → AreOf rs ps → slice_get rs i ≡ Some r → IsPass r q → AreOf rs (slice_set ps i q)
set_of [] [] i r q h a s = tt
set_of [] (y ∷ ps) i r q h a s = absurd h
set_of (x ∷ rs) [] i r q h a s = absurd h
set_of (x ∷ rs) (y ∷ ps) zero r q h a s = (subst (λ (z : Repo). IsPass z q) (sym (same_Some x r a)) s, h.1)
set_of (x ∷ rs) (y ∷ ps) (suc i) r q h a s = (h.0, set_of rs ps i r q h.1 a s)

get_here : (ps : List RepoPass) (i : ℕ) (p q : RepoPass) → slice_get ps i ≡ Some p → slice_get (slice_set ps i q) i ≡ Some q
get_here [] i p q a = cc
get_here (y ∷ ps) zero p q a = refl
get_here (y ∷ ps) (suc i) p q a = get_here ps i p q a

get_other : (ps : List RepoPass) (i j : ℕ) (q : RepoPass) → i ≢ j → slice_get (slice_set ps i q) j ≡ slice_get ps j
get_other [] i j q h = refl
get_other (y ∷ ps) zero zero q h = absurd (h refl)
get_other (y ∷ ps) zero (suc j) q h = refl
get_other (y ∷ ps) (suc i) zero q h = refl
get_other (y ∷ ps) (suc i) (suc j) q h = get_other ps i j q (λ e. h (ap suc e))

limits_at : (limits : Limits) (rs : List Repo) (i : ℕ) (r : Repo) → HaveLimits limits rs → slice_get rs i ≡ Some r → limits_of r ≡ limits
limits_at limits [] i r h at = cc
limits_at limits (x ∷ rs) zero r h at = ap limits_of (sym (same_Some x r at)) ∙ h.0
limits_at limits (x ∷ rs) (suc i) r h at = limits_at limits rs i r h.1 at

-- each repository of a house has the limits of the house
pub limits_in : (inside house : House) (i : ℕ) (r : Repo) → IsHouse inside → inside ≡ house → i < length house.names → r ≡ slice_index_or inside.repos i r
    → limits_of r ≡ house.limits
limits_in inside house i r is same less e =
    limits_at inside.limits inside.repos i r is.limits
    (slice_get_read inside.repos (length inside.repos) i r refl (omega (arith, less, is.count, ap (λ (h : House). length h.names) same)) e)
    ∙ ap (λ (h : House). h.limits) same

-- the pass of a repository of the house
pub pass_at : (names : List (List ℕ)) (rs : List Repo) (ps : List RepoPass) (i : ℕ) (p : RepoPass) → AreOf rs ps → length rs ≡ length names → i < length names
    → p ≡ slice_index_or ps i p → slice_get ps i ≡ Some p
pass_at names rs ps i p h count less e = slice_get_read ps (length ps) i p refl (omega (arith, count, less, same_count rs ps h)) e

-- how its list goes on

same_places : (seat at : ℕ) (es : List Entry) → places_of seat at es ≡ places_one seat at es
same_places seat at [] = refl
same_places seat at (e ∷ es) = ap (λ (ks : List ℕ). if e.seat == seat then at ∷ ks else ks) (same_places seat (suc at) es)

goes_one : (seat : ℕ) (old new : List Entry) (places : List ℕ) → GoesOne seat old new places → Goes seat old new places
goes_one seat old new places g = record { more = g.more; begins = g.begins; own = same_places seat (length old) g.more ∙ g.own }

goes_by : (s s' : ℕ) (a a' b b' : List Entry) (ks : List ℕ) → s ≡ s' → a ≡ a' → b ≡ b' → Goes s' a' b' ks → Goes s a b ks
goes_by s s' a a' b b' ks e f h g =
    subst (λ (z : ℕ). Goes z a b ks) (sym e) (subst (λ (z : List Entry). Goes s' z b ks) (sym f) (subst (λ (z : List Entry). Goes s' a' z ks) (sym h) g))

goes_here : (ps : List RepoPass) (i : ℕ) (p q : RepoPass) (ks : List ℕ) → slice_get ps i ≡ Some p → GoesOne (seat_of p) (seen p) (seen q) ks
    → Goes (seats ps i) (lists ps i) (lists (slice_set ps i q) i) ks
goes_here ps i p q ks a g =
    goes_by (seats ps i) (seat_of p) (lists ps i) (seen p) (lists (slice_set ps i q) i) (seen q) ks (ap seat_at a) (ap list_at a)
    (ap list_at (get_here ps i p q a)) (goes_one (seat_of p) (seen p) (seen q) ks g)

goes_other : (ps : List RepoPass) (i j : ℕ) (q : RepoPass) → i ≢ j → Goes (seats ps j) (lists ps j) (lists (slice_set ps i q) j) []
goes_other ps i j q h = record { more = []; begins = ap list_at (get_other ps i j q h) ∙ sym (append-nil (lists ps j)); own = refl }

-- one entry was made in one of the repositories
adds_in : (limits : Limits) (ps : List RepoPass) (i place : ℕ) (p q : RepoPass) (op : Op) → slice_get ps i ≡ Some p
    → AddsOne limits (seat_of p) (seen p) (seen q) op place → Adds limits (seats ps) (lists ps) (lists (slice_set ps i q)) i op place
adds_in limits ps i place p q op at m = record {
  moves = λ j. go j (i == j) refl;
  stands = ap (λ (z : List Entry). slice_get z place) (ap list_at (get_here ps i p q at)) ∙ m.stands
      ∙ ap (λ (n : ℕ). Some (entry_of n op)) (sym (ap seat_at at));
  within =
      let long : length (lists (slice_set ps i q) i) ≡ length (seen q) = ap (λ (o : Option RepoPass). length (list_at o)) (get_here ps i p q at) in
      omega (arith, long, m.last, m.room);
} where
  go : (j : ℕ) (b : Bool) → (i == j) ≡ b → Goes (seats ps j) (lists ps j) (lists (slice_set ps i q) j) (if b then place ∷ [] else [])
  go j true e =
      let eq : i ≡ j = grind (arith, nat_tests, e) in
      subst (λ (k : ℕ). Goes (seats ps k) (lists ps k) (lists (slice_set ps i q) k) (place ∷ [])) eq (goes_here ps i p q (place ∷ []) at m.goes)
  go j false e = let apart : i ≢ j = λ h. grind (arith, nat_tests, e, h) in goes_other ps i j q apart

-- and none was made
fails_in : (limits : Limits) (ps : List RepoPass) (i : ℕ) (p q : RepoPass) (fault : StoreFault) → slice_get ps i ≡ Some p
    → GoesOne (seat_of p) (seen p) (seen q) [] → (fault ≡ JournalFull → limits.places ≤ length (seen q))
    → Fails limits (seats ps) (lists ps) (lists (slice_set ps i q)) i fault
fails_in limits ps i p q fault at m full = record {
  moves = λ j. go j (i == j) refl;
  full = λ e.
      let many = full e in
      let long : length (lists (slice_set ps i q) i) ≡ length (seen q) = ap (λ (o : Option RepoPass). length (list_at o)) (get_here ps i p q at) in
      omega (arith, long, many);
} where
  go : (j : ℕ) (b : Bool) → (i == j) ≡ b → Goes (seats ps j) (lists ps j) (lists (slice_set ps i q) j) []
  go j true e =
      let eq : i ≡ j = grind (arith, nat_tests, e) in
      subst (λ (k : ℕ). Goes (seats ps k) (lists ps k) (lists (slice_set ps i q) k) []) eq (goes_here ps i p q [] at m)
  go j false e = let apart : i ≢ j = λ h. grind (arith, nat_tests, e, h) in goes_other ps i j q apart

-- the numbers stay where a pass keeps its number
seats_in : (ps : List RepoPass) (i : ℕ) (p q : RepoPass) → slice_get ps i ≡ Some p → IsSamePass p q → seats (slice_set ps i q) ≡ seats ps
seats_in ps i p q at same = fun_ext (λ j. go j (i == j) refl) where
  go : (j : ℕ) (b : Bool) → (i == j) ≡ b → seats (slice_set ps i q) j ≡ seats ps j
  go j true e =
      let eq : i ≡ j = grind (arith, nat_tests, e) in
      subst (λ (k : ℕ). seats (slice_set ps i q) k ≡ seats ps k) eq (ap seat_at (get_here ps i p q at) ∙ same ∙ sym (ap seat_at at))
  go j false e = let apart : i ≢ j = λ h. grind (arith, nat_tests, e, h) in ap seat_at (get_other ps i j q apart)

-- the reply at the place, in the journal of the house
replies_in : (limits : Limits) (ps : List RepoPass) (i place : ℕ) (p q : RepoPass) (x : Reply) → slice_get ps i ≡ Some p
    → reply_at limits (seen q) place ≡ Some x → Replies limits (lists (slice_set ps i q)) i place x
replies_in limits ps i place p q x at e = ap (λ (z : List Entry). reply_at limits z place) (ap list_at (get_here ps i p q at)) ∙ e

-- What a call on one of the repositories does to the worker's passes, whose limits are those of the house

pub record Kept (rs : List Repo) (ps : List RepoPass) (i : ℕ) (q : RepoPass) : Type 0 where
  pub are : AreOf rs (slice_set ps i q)
  pub same : seats (slice_set ps i q) ≡ seats ps

kept_in : (rs : List Repo) (ps : List RepoPass) (i : ℕ) (r : Repo) (p q : RepoPass) → AreOf rs ps → slice_get rs i ≡ Some r → slice_get ps i ≡ Some p → IsPass r q
    → IsSamePass p q → Kept rs ps i q
kept_in rs ps i r p q h there at is same = record { are = set_of rs ps i r q h there is; same = seats_in ps i p q at same }

made_in : (limits : Limits) (ps : List RepoPass) (i place : ℕ) (r : Repo) (p q : RepoPass) (op : Op) → slice_get ps i ≡ Some p → limits_of r ≡ limits
    → AddsOne (limits_of r) (seat_of p) (seen p) (seen q) op place → Adds limits (seats ps) (lists ps) (lists (slice_set ps i q)) i op place
made_in limits ps i place r p q op at same adds =
    adds_in limits ps i place p q op at (subst (λ (z : Limits). AddsOne z (seat_of p) (seen p) (seen q) op place) same adds)

replied_in : (limits : Limits) (ps : List RepoPass) (i place : ℕ) (r : Repo) (p q : RepoPass) (x : Reply) → slice_get ps i ≡ Some p → limits_of r ≡ limits
    → reply_at (limits_of r) (seen q) place ≡ Some x → Replies limits (lists (slice_set ps i q)) i place x
replied_in limits ps i place r p q x at same e =
    replies_in limits ps i place p q x at (subst (λ (z : Limits). reply_at z (seen q) place ≡ Some x) same e)

failed_in : (limits : Limits) (ps : List RepoPass) (i : ℕ) (r : Repo) (p q : RepoPass) (fault : StoreFault) → slice_get ps i ≡ Some p → limits_of r ≡ limits
    → GoesOne (seat_of p) (seen p) (seen q) [] → (fault ≡ JournalFull → IsFull (as_seen r q))
    → Fails limits (seats ps) (lists ps) (lists (slice_set ps i q)) i fault
failed_in limits ps i r p q fault at same goes full =
    fails_in limits ps i p q fault at goes (λ e. subst (λ (z : Limits). z.places ≤ length (seen q)) same (full e))

-- a call with a reply
pub record Called (limits : Limits) (rs : List Repo) (ps : List RepoPass) (i : ℕ) (q : RepoPass) (op : Op) (result : Result (ℕ × Reply) StoreFault) : Type 0 where
  pub kept : Kept rs ps i q
  pub made : IfOk result (λ it. Adds limits (seats ps) (lists ps) (lists (slice_set ps i q)) i op it.0 × Replies limits (lists (slice_set ps i q)) i it.0 it.1)
  pub fault : IfErr result (λ f. Fails limits (seats ps) (lists ps) (lists (slice_set ps i q)) i f)

pub called_in : (limits : Limits) (rs : List Repo) (ps : List RepoPass) (i : ℕ) (r : Repo) (p q : RepoPass) (op : Op) (result : Result (ℕ × Reply) StoreFault)
    → AreOf rs ps → slice_get rs i ≡ Some r → slice_get ps i ≡ Some p → limits_of r ≡ limits → IsPass r q → IsSamePass p q
    → IfOk result (λ it. AddsOne (limits_of r) (seat_of p) (seen p) (seen q) op it.0)
    → IfOk result (λ it. reply_at (limits_of r) (seen q) it.0 ≡ Some it.1) → OnErr result (GoesOne (seat_of p) (seen p) (seen q) [])
    → IfErr result (λ f. (f ≡ JournalFull) ↔ IsFull (as_seen r q)) → Called limits rs ps i q op result
called_in limits rs ps i r p q op (Ok it) h there at same is keeps adds replied goes full = record {
  kept = kept_in rs ps i r p q h there at is keeps;
  made = (made_in limits ps i it.0 r p q op at same adds, replied_in limits ps i it.0 r p q it.1 at same replied);
  fault = tt;
}
called_in limits rs ps i r p q op (Err f) h there at same is keeps adds replied goes full =
    record { kept = kept_in rs ps i r p q h there at is keeps; made = tt; fault = failed_in limits ps i r p q f at same goes full.0 }

-- a read
pub record Reads (limits : Limits) (rs : List Repo) (ps : List RepoPass) (i : ℕ) (q : RepoPass) (op : Op) (ask : Ask) (result : Result (ℕ × PinnedRead) StoreFault) : Type 0 where
  pub kept : Kept rs ps i q
  pub made : IfOk result (λ it. Adds limits (seats ps) (lists ps) (lists (slice_set ps i q)) i op it.0 × Replies limits (lists (slice_set ps i q)) i it.0 (answered it.1 ask))
  pub fault : IfErr result (λ f. Fails limits (seats ps) (lists ps) (lists (slice_set ps i q)) i f)

pub reads_in : (limits : Limits) (rs : List Repo) (ps : List RepoPass) (i : ℕ) (r : Repo) (p q : RepoPass) (op : Op) (ask : Ask) (result : Result (ℕ × PinnedRead) StoreFault)
    → AreOf rs ps → slice_get rs i ≡ Some r → slice_get ps i ≡ Some p → limits_of r ≡ limits → IsPass r q → IsSamePass p q
    → IfOk result (λ it. AddsOne (limits_of r) (seat_of p) (seen p) (seen q) op it.0)
    → IfOk result (λ it. reply_at (limits_of r) (seen q) it.0 ≡ Some (answered it.1 ask)) → OnErr result (GoesOne (seat_of p) (seen p) (seen q) [])
    → IfErr result (λ f. (f ≡ JournalFull) ↔ IsFull (as_seen r q)) → Reads limits rs ps i q op ask result
reads_in limits rs ps i r p q op ask (Ok it) h there at same is keeps adds replied goes full = record {
  kept = kept_in rs ps i r p q h there at is keeps;
  made = (made_in limits ps i it.0 r p q op at same adds, replied_in limits ps i it.0 r p q (answered it.1 ask) at same replied);
  fault = tt;
}
reads_in limits rs ps i r p q op ask (Err f) h there at same is keeps adds replied goes full =
    record { kept = kept_in rs ps i r p q h there at is keeps; made = tt; fault = failed_in limits ps i r p q f at same goes full.0 }

-- Steps

-- a pass knows the limits of its repository
same_limits : (r s : Repo) (p : RepoPass) → IsPass r p → IsPass s p → limits_of s ≡ limits_of r
same_limits r s p is was = cc (is.0.5, was.0.5)

-- the next Step of the worker, where it is one in the repository
may_step_in : (ps : List RepoPass) (i : ℕ) (r : Repo) (p q : RepoPass) (t : Txn) (query : Query) (number : ℕ) (pinned : PinnedRead) → slice_get ps i ≡ Some p → IsPass r q
    → IsSamePass p q → IsNextStep (as_seen r q) (seat_of p) t query number pinned → MayStep (slice_set ps i q) i t query number pinned
may_step_in ps i r p q t query number pinned at is keeps next s w there was =
    let same : q ≡ w = same_Some q w (sym (get_here ps i p q at) ∙ there) in
    subst (λ (z : RepoPass). IsNextStep (as_seen s z) (seat_of z) t query number pinned) same
    (subst (λ (n : ℕ). IsNextStep (as_seen s q) n t query number pinned) (sym keeps)
    (subst (λ (z : Limits). IsNextStep (record { limits = z; journal = seen q }) (seat_of p) t query number pinned)
    (sym (same_limits r s q is (subst (λ (z : RepoPass). IsPass s z) (sym same) was))) next))

pub record Steps (limits : Limits) (rs : List Repo) (ps : List RepoPass) (i : ℕ) (q : RepoPass) (t : Txn) (query : Query) (number : ℕ) (pinned : PinnedRead)
    (result : Result ℕ StoreFault) : Type 0 where
  pub kept : Kept rs ps i q
  pub made : IfOk result (λ place. Adds limits (seats ps) (lists ps) (lists (slice_set ps i q)) i (Step t query number) place)
  pub next : IfOk result (λ place. number + 1 < lookups_of query → MayStep (slice_set ps i q) i t query (number + 1) pinned)
  pub last : IfOk result (λ place. number + 1 ≡ lookups_of query → Replies limits (lists (slice_set ps i q)) i place (answered pinned (asks.Query query)))
  pub fault : IfErr result (λ f. Fails limits (seats ps) (lists ps) (lists (slice_set ps i q)) i f)

pub steps_in : (limits : Limits) (rs : List Repo) (ps : List RepoPass) (i : ℕ) (r : Repo) (p q : RepoPass) (t : Txn) (query : Query) (number : ℕ) (pinned : PinnedRead)
    (result : Result ℕ StoreFault) → AreOf rs ps → slice_get rs i ≡ Some r → slice_get ps i ≡ Some p → limits_of r ≡ limits → IsPass r q → IsSamePass p q
    → IfOk result (λ place. AddsOne (limits_of r) (seat_of p) (seen p) (seen q) (Step t query number) place)
    → IfOk result (λ place. number + 1 ≡ lookups_of query → reply_at (limits_of r) (seen q) place ≡ Some (answered pinned (asks.Query query)))
    → OnOk result (number + 1 < lookups_of query → IsNextStep (as_seen r q) (seat_of p) t query (number + 1) pinned)
    → OnErr result (GoesOne (seat_of p) (seen p) (seen q) []) → IfErr result (λ f. (f ≡ JournalFull) ↔ IsFull (as_seen r q))
    → Steps limits rs ps i q t query number pinned result
steps_in limits rs ps i r p q t query number pinned (Ok place) h there at same is keeps adds replied next goes full = record {
  kept = kept_in rs ps i r p q h there at is keeps;
  made = made_in limits ps i place r p q (Step t query number) at same adds;
  next = λ less. may_step_in ps i r p q t query (number + 1) pinned at is keeps (next less);
  last = λ all. replied_in limits ps i place r p q (answered pinned (asks.Query query)) at same (replied all);
  fault = tt;
}
steps_in limits rs ps i r p q t query number pinned (Err f) h there at same is keeps adds replied next goes full = record {
  kept = kept_in rs ps i r p q h there at is keeps;
  made = tt;
  next = tt;
  last = tt;
  fault = failed_in limits ps i r p q f at same goes full.0;
}

-- a Step may be made where the trait of stores asks for it
pub step_next : FirstStepIsNext → (ps : List RepoPass) (i : ℕ) (r : Repo) (p : RepoPass) (t : Txn) (query : Query) (number : ℕ) (pinned : PinnedRead) → slice_get ps i ≡ Some p
    → IsPass r p → t.level ≡ ReadCommitted → (number ≡ 0 → pinned ≡ nothing_pinned) → (0 < number → MayStep ps i t query number pinned)
    → IsNextStep (as_seen r p) (seat_of p) t query number pinned
step_next law ps i r p t query zero pinned at is level first later =
    subst (λ (z : PinnedRead). IsNextStep (as_seen r p) (seat_of p) t query 0 z) (sym (first refl)) (law (as_seen r p) (seat_of p) t query level)
step_next law ps i r p t query (suc n) pinned at is level first later = later (omega arith) r p at is

-- each journal that a worker has seen is legal
pub legal_of : LegalInTurn → (rs : List Repo) (ps : List RepoPass) → AreOf rs ps → AreLegal (lists ps)
legal_of law [] [] h repo = (law.empty, refl)
legal_of law [] (p ∷ ps) h repo = absurd h
legal_of law (r ∷ rs) [] h repo = absurd h
legal_of law (r ∷ rs) (p ∷ ps) h zero = (h.0.2.legal, h.0.2.steps)
legal_of law (r ∷ rs) (p ∷ ps) h (suc repo) = legal_of law rs ps h.1 repo
