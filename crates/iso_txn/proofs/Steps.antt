-- How what is kept grows by one entry.
use Rattle.std.proofs.Common.{◌≡◌, ℕ, ◌+◌, ◌<◌, ◌≤◌, Bool, true, false, not, ◌&&◌, ◌||◌, List, [], ◌∷◌, ◌++◌, length, take, map, Some, None, refl, sym, ◌∙◌, ap, subst, arith, append-nil, length-append, cond, nat_lt, ltb-true, true≢false, take_all}
use Rattle.std.specs.Prelude.{Option, if◌then◌else◌, filter}
use Rattle.std.specs.List.{flat_map, list_any}
use Rattle.std.proofs.lemmas.List.{take-append-le, map-append}
use Rattle.std.proofs.lemmas.List.Concat.{flat_map-append}
use Rattle.std.proofs.lemmas.List.Elements.{filter-append}
use Rattle.std.proofs.lemmas.Bool.Decides.{nat_tests}
use Rattle.change_set.specs.declared.change.Change.{Change}
use Rattle.change_set.specs.Content.{content, applied}
use Rattle.change_set.proofs.Contents.{applied-append, applied-empty}
use Rattle.journal.specs.declared.txn.Txn.{Txn}
use Rattle.journal.specs.declared.entry.Entry.{Entry}
use Rattle.journal.specs.declared.op.Op.{Op}
use Rattle.journal.specs.declared.op.Op.TheVariants.{Begin, Read, Step, Write, Commit, Rollback, Ping, Names}
use Rattle.journal.specs.declared.limits.Limits.{Limits}
use Rattle.journal.specs.declared.reply.Reply.TheVariants as reply
use Rattle.journal.specs.Levels.{commits_at_once, is_txn}
use Rattle.journal.specs.Past.{Judged, is_open, is_live, ends, open_txns}
use Rattle.journal.specs.Committed.{applied_changes, committed, committed_changes, prefixes_behind, prefixes_of}
use Rattle.journal.specs.Replies.{is_accepted, is_refusal, live_reply, named_txn, reply_to}
use Rattle.journal.specs.Journal.{commits_in, is_commit, judged, judged_entry}
use Rattle.journal.proofs.Growth.{committed_in_turn, judged-push, length-judged}
use Rattle.journal.proofs.Open.{AllBelow, begun_below, begun_now, by_push, is_open-push_old, is_open_late, open_txns-push}
use Rattle.journal.proofs.Among.{is_open-among}
use Rattle.journal.proofs.Turns.{commits_in_turn, prefixes_in_turn}
use Rattle.iso_txn.specs.Kept.{Kept, Opened, Pending, Standing, base_at, is_among, lives, nothing_kept, opened, opened_in, pending, pending_of, pending_op}
use Rattle.iso_txn.specs.Watch.{Watch}

-- Contents

pub content-append : (a b : List Change) → content (a ++ b) ≡ applied (content a) b
content-append a b = sym (applied-empty (a ++ b)) ∙ (sym (applied-append [] a b) ∙ ap (λ c. applied c b) (applied-empty a))

-- no changes leave a committed content as it is
pub committed-nothing : (l : Limits) (p : List Judged) → applied (committed l p) [] ≡ committed l p
unfolding committed
committed-nothing l p = sym (content-append (committed_changes l p) []) ∙ ap content (append-nil (committed_changes l p))

-- Open transactions with their bases

keep-map : (keep : Txn → Bool) (f : Txn → Opened) → ((t : Txn) → (f t).txn ≡ t) → (ts : List Txn) → map f (filter keep ts) ≡ filter (λ (o : Opened). keep o.txn) (map f ts)
keep-map keep f same [] = refl
keep-map keep f same (t ∷ ts) =
    go (keep t) (keep-map keep f same ts)
    ∙ ap (λ b. cond b (f t ∷ filter (λ (o : Opened). keep o.txn) (map f ts)) (filter (λ (o : Opened). keep o.txn) (map f ts))) (ap keep (sym (same t)))
  where
    go : (b : Bool) → map f (filter keep ts) ≡ filter (λ (o : Opened). keep o.txn) (map f ts)
        → map f (cond b (t ∷ filter keep ts) (filter keep ts)) ≡ cond b (f t ∷ filter (λ (o : Opened). keep o.txn) (map f ts)) (filter (λ (o : Opened). keep o.txn) (map f ts))
    go true ih = ap (λ r. f t ∷ r) ih
    go false ih = ih

below-filter : (n : ℕ) (test : Txn → Bool) (ts : List Txn) → AllBelow n ts → AllBelow n (filter test ts)
below-filter n test [] h = tt
below-filter n test (t ∷ ts) h = go (below-filter n test ts h.1) (test t)
  where
    go : AllBelow n (filter test ts) → (b : Bool) → AllBelow n (cond b (t ∷ filter test ts) (filter test ts))
    go rest true = (h.0, rest)
    go rest false = rest

open_below : (l : Limits) (p : List Judged) → AllBelow (length p) (open_txns l p)
unfolding open_txns
open_below l p = below-filter (length p) (is_open l p) _ (begun_below p)

-- a base doesn't move
opened-more : (l : Limits) (p : List Judged) (e : Judged) (ts : List Txn) → AllBelow (length p) ts → map (opened l (p ++ e ∷ [])) ts ≡ map (opened l p) ts
opened-more l p e [] h = refl
opened-more l p e (t ∷ ts) h =
    let same : take t.place (p ++ e ∷ []) ≡ take t.place p = take-append-le t.place p (e ∷ []) (omega (arith, h.0)) in
    (λ i. base_at t (committed l (same i)) ∷ opened-more l p e ts h.1 i)

begun_over : (l : Limits) (p : List Judged) (seat : ℕ) (op : Op) (accepted : Bool) →
    let e : Judged = record { entry = record { seat = seat; op = op }; accepted = accepted } in
    map (opened l (p ++ e ∷ [])) (begun_now (length p) e) ≡ map (λ t. base_at t (committed l p)) (begun_now (length p) e)
begun_over l p seat op false = refl
begun_over l p seat (Begin level) true =
    let e : Judged = record { entry = record { seat = seat; op = Begin level }; accepted = true } in
    let t : Txn = record { place = length p; level = level } in
    let same : take (length p) (p ++ e ∷ []) ≡ p = take-append-le (length p) p (e ∷ []) (omega arith) ∙ take_all (length p) p (omega arith) in
    λ i. base_at t (committed l (same i)) ∷ []
begun_over l p seat (Read txn ask) true = refl
begun_over l p seat (Step t query number) true = refl
begun_over l p seat (Write txn changes) true = refl
begun_over l p seat (Commit t) true = refl
begun_over l p seat (Rollback t) true = refl
begun_over l p seat (Ping t) true = refl
begun_over l p seat (Names names) true = refl

opened_in-push : (l : Limits) (p : List Judged) (e : Judged)
    → opened_in l (p ++ e ∷ []) ≡ filter (λ (o : Opened). not (ends o.txn e)) (opened_in l p) ++ map (λ t. base_at t (committed l p)) (begun_now (length p) e)
unfolding opened_in
opened_in-push l p e =
    let left : List Txn = filter (λ t. not (ends t e)) (open_txns l p) in
    ap (map (opened l (p ++ e ∷ []))) (open_txns-push l p e)
    ∙ (map-append (opened l (p ++ e ∷ [])) left (begun_now (length p) e)
    ∙ ((λ i. opened-more l p e left (below-filter (length p) (λ t. not (ends t e)) (open_txns l p) (open_below l p)) i ++ begun_over l p e.entry.seat e.entry.op e.accepted i)
    ∙ ap (λ r. r ++ map (λ t. base_at t (committed l p)) (begun_now (length p) e)) (keep-map (λ t. not (ends t e)) (opened l p) (λ t. refl) (open_txns l p))))

among-map : (l : Limits) (p : List Judged) (t : Txn) (ts : List Txn) → is_among t (map (opened l p) ts) ≡ list_any (is_txn t) ts
among-map l p t [] = refl
among-map l p t (u ∷ ts) = ap (λ b. is_txn t u || b) (among-map l p t ts)

-- a transaction is open where it is among the open ones
pub is_open-opened : (l : Limits) (p : List Judged) (t : Txn) → is_open l p t ≡ is_among t (opened_in l p)
unfolding opened_in
is_open-opened l p t = is_open-among l p t ∙ sym (among-map l p t (open_txns l p))

pub live-opened : (l : Limits) (p : List Judged) (txn : Option Txn) → is_live l p txn ≡ lives txn (opened_in l p)
live-opened l p None = refl
live-opened l p (Some t) = is_open-opened l p t

length-map : {A B : Type 0} (f : A → B) (xs : List A) → length (map f xs) ≡ length xs
length-map f [] = refl
length-map f (x ∷ xs) = omega (arith, length-map f xs)

pub length-opened : (l : Limits) (p : List Judged) → length (opened_in l p) ≡ length (open_txns l p)
unfolding opened_in
length-opened l p = length-map (opened l p) (open_txns l p)

-- Pending writes

abbrev BelowOp : ℕ → Op → Type 0
BelowOp n (Write (Some t) changes) = t.place < n
BelowOp n _ = Unit {0}

-- an accepted write names a transaction that began before
abbrev WritesBelow : ℕ → List Judged → Type 0
WritesBelow n [] = Unit {0}
WritesBelow n (e ∷ es) = (e.accepted ≡ true → BelowOp n e.entry.op) × WritesBelow n es

more_op : (m n : ℕ) → m ≤ n → (op : Op) → BelowOp m op → BelowOp n op
more_op m n le (Begin level) h = tt
more_op m n le (Read txn ask) h = tt
more_op m n le (Step t query number) h = tt
more_op m n le (Write None changes) h = tt
more_op m n le (Write (Some t) changes) h = omega arith
more_op m n le (Commit t) h = tt
more_op m n le (Rollback t) h = tt
more_op m n le (Ping t) h = tt
more_op m n le (Names names) h = tt

more_writes : (m n : ℕ) → m ≤ n → (es : List Judged) → WritesBelow m es → WritesBelow n es
more_writes m n le [] h = tt
more_writes m n le (e ∷ es) h = (λ a. more_op m n le e.entry.op (h.0 a), more_writes m n le es h.1)

writes-append : (n : ℕ) (xs ys : List Judged) → WritesBelow n xs → WritesBelow n ys → WritesBelow n (xs ++ ys)
writes-append n [] ys h k = k
writes-append n (x ∷ xs) ys h k = (h.0, writes-append n xs ys h.1 k)

pub is_open-below : (l : Limits) (p : List Judged) (t : Txn) → is_open l p t ≡ true → t.place < length p
is_open-below l p t h = go (nat_lt t.place (length p)) refl
  where
    go : (b : Bool) → nat_lt t.place (length p) ≡ b → t.place < length p
    go true lt = ltb-true t.place (length p) lt
    go false lt =
        let le : length p ≤ t.place = grind (arith, nat_tests) in
        absurd (true≢false (sym h ∙ is_open_late l p t le))

not_refused : (l : Limits) (p : List Judged) (e : Entry) → not (is_refusal (reply_to l p e)) ≡ true → is_live l p (named_txn e.op) ≡ true
unfolding reply_to
not_refused l p e h = go (is_live l p (named_txn e.op)) h
  where
    go : (b : Bool) → not (is_refusal (cond b (live_reply l p e.seat e.op) reply.NoTransaction)) ≡ true → b ≡ true
    go true h = refl
    go false h = h

-- an accepted write's transaction began before
accepted_below : (l : Limits) (p : List Judged) (seat : ℕ) (op : Op) → is_accepted l p (record { seat = seat; op = op }) ≡ true → BelowOp (length p) op
unfolding is_accepted
accepted_below l p seat (Begin level) h = tt
accepted_below l p seat (Read txn ask) h = tt
accepted_below l p seat (Step t query number) h = tt
accepted_below l p seat (Write None changes) h = tt
accepted_below l p seat (Write (Some t) changes) h = is_open-below l p t (not_refused l p (record { seat = seat; op = Write (Some t) changes }) h)
accepted_below l p seat (Commit t) h = tt
accepted_below l p seat (Rollback t) h = tt
accepted_below l p seat (Ping t) h = tt
accepted_below l p seat (Names names) h = tt

judged_none : (l : Limits) → judged l [] ≡ []
unfolding judged
judged_none l = refl

judged_below : (l : Limits) (J : List Entry) → WritesBelow (length (judged l J)) (judged l J)
judged_below l = by_push (λ J. WritesBelow (length (judged l J)) (judged l J)) none more
  where
    none : WritesBelow (length (judged l [])) (judged l [])
    none = subst (λ (p : List Judged). WritesBelow (length p) p) (sym (judged_none l)) tt

    more : (J : List Entry) (e : Entry) → WritesBelow (length (judged l J)) (judged l J) → WritesBelow (length (judged l (J ++ e ∷ []))) (judged l (J ++ e ∷ []))
    more J e h =
        let p : List Judged = judged l J in
        let j : Judged = judged_entry l p e in
        let longer : length (p ++ j ∷ []) ≡ length p + 1 = length-append p (j ∷ []) in
        let here : WritesBelow (length p) (j ∷ []) = (λ a. accepted_below l p e.seat e.op a, tt) in
        subst (λ (p : List Judged). WritesBelow (length p) p) (sym (judged-push l J e))
        (more_writes (length p) (length (p ++ j ∷ [])) (omega arith) (p ++ j ∷ []) (writes-append (length p) p (j ∷ []) h here))

-- of the writes that were pending those stay whose transaction the entry doesn't end
still : (e : Judged) (t : Txn) (changes : List Change) (a o k : Bool) → not (ends t e) ≡ k
    → (let w : Pending = record { txn = t; changes = changes } in cond (a && (o && k)) (w ∷ []) [])
    ≡ filter (λ (w : Pending). not (ends w.txn e)) (cond (a && o) (record { txn = t; changes = changes } ∷ []) [])
still e t changes true true true h = ap (λ b. let w : Pending = record { txn = t; changes = changes } in cond b (w ∷ []) []) (sym h)
still e t changes true true false h = ap (λ b. let w : Pending = record { txn = t; changes = changes } in cond b (w ∷ []) []) (sym h)
still e t changes true false k h = refl
still e t changes false o k h = refl

kept_op : (l : Limits) (p : List Judged) (e : Judged) (op : Op) → BelowOp (length p) op → pending_op l (p ++ e ∷ []) op ≡ filter (λ (w : Pending). not (ends w.txn e)) (pending_op l p op)
kept_op l p e (Begin level) h = refl
kept_op l p e (Read txn ask) h = refl
kept_op l p e (Step t query number) h = refl
kept_op l p e (Write None changes) h = refl
kept_op l p e (Write (Some t) changes) h =
    ap (λ b. let w : Pending = record { txn = t; changes = changes } in cond (not (commits_at_once (Some t)) && b) (w ∷ []) []) (is_open-push_old l p e t h)
    ∙ still e t changes (not (commits_at_once (Some t))) (is_open l p t) (not (ends t e)) refl
kept_op l p e (Commit t) h = refl
kept_op l p e (Rollback t) h = refl
kept_op l p e (Ping t) h = refl
kept_op l p e (Names names) h = refl

kept_of : (l : Limits) (p : List Judged) (e x : Judged) → (x.accepted ≡ true → BelowOp (length p) x.entry.op) → pending_of l (p ++ e ∷ []) x ≡ filter (λ (w : Pending). not (ends w.txn e)) (pending_of l p x)
kept_of l p e x h = go x.accepted refl
  where
    go : (b : Bool) → x.accepted ≡ b → cond b (pending_op l (p ++ e ∷ []) x.entry.op) [] ≡ filter (λ (w : Pending). not (ends w.txn e)) (cond b (pending_op l p x.entry.op) [])
    go true a = kept_op l p e x.entry.op (h a)
    go false a = refl

kept_all : (l : Limits) (p : List Judged) (e : Judged) (es : List Judged) → WritesBelow (length p) es
    → flat_map (pending_of l (p ++ e ∷ [])) es ≡ filter (λ (w : Pending). not (ends w.txn e)) (flat_map (pending_of l p) es)
kept_all l p e [] h = refl
kept_all l p e (x ∷ es) h =
    (λ i. kept_of l p e x h.0 i ++ kept_all l p e es h.1 i)
    ∙ sym (filter-append (λ (w : Pending). not (ends w.txn e)) (pending_of l p x) (flat_map (pending_of l p) es))

pending-push : (l : Limits) (p : List Judged) (e : Judged) → WritesBelow (length p) p
    → pending l (p ++ e ∷ []) ≡ filter (λ (w : Pending). not (ends w.txn e)) (pending l p) ++ pending_of l (p ++ e ∷ []) e
unfolding pending
pending-push l p e h =
    flat_map-append (pending_of l (p ++ e ∷ [])) p (e ∷ [])
    ∙ (λ i. kept_all l p e p h i ++ append-nil (pending_of l (p ++ e ∷ []) e) i)

-- What is kept

pub stands_none : (l : Limits) → Standing l [] nothing_kept
unfolding judged committed committed_changes opened_in open_txns pending prefixes_of commits_in
stands_none l = record { content_is = refl; opened_is = refl; writes_are = refl; prefixes_are = refl; commits_are = refl }

-- what is kept behind one more entry of which it is known whether it is accepted
abbrev pub kept_next : Limits → List Entry → Kept → Judged → Kept
kept_next l J k j = record {
  content = applied k.content (applied_changes l (judged l J) j);
  open_txns = filter (λ (o : Opened). not (ends o.txn j)) k.open_txns ++ map (λ t. base_at t k.content) (begun_now (length J) j);
  writes = filter (λ (w : Pending). not (ends w.txn j)) k.writes ++ pending_of l (judged l J ++ j ∷ []) j;
  prefixes = if j.accepted then prefixes_behind k.prefixes j.entry.op else k.prefixes;
  commits = k.commits + (if j.accepted && is_commit j.entry.op then 1 else 0);
  watch = k.watch;
}

pub stands_next : (l : Limits) (J : List Entry) (k : Kept) → Standing l J k → (e : Entry) (b : Bool) → is_accepted l (judged l J) e ≡ b
    → Standing l (J ++ e ∷ []) (kept_next l J k (record { entry = e; accepted = b }))
stands_next l J k h e b is =
    let p : List Judged = judged l J in
    let j : Judged = record { entry = e; accepted = b } in
    let pushed : judged l (J ++ e ∷ []) ≡ p ++ j ∷ [] = judged-push l J e ∙ ap (λ (a : Bool). let x : Judged = record { entry = e; accepted = a } in p ++ x ∷ []) is in
    record {
      content_is = ap (λ c. applied c (applied_changes l p j)) h.content_is ∙ sym (ap (committed l) pushed ∙ committed_in_turn l p j);
      opened_is = (λ i. filter (λ (o : Opened). not (ends o.txn j)) (h.opened_is i) ++ map (λ t. base_at t (h.content_is i)) (begun_now (sym (length-judged l J) i) j))
          ∙ sym (ap (opened_in l) pushed ∙ opened_in-push l p j);
      writes_are = ap (λ ws. filter (λ (w : Pending). not (ends w.txn j)) ws ++ pending_of l (p ++ j ∷ []) j) h.writes_are
          ∙ sym (ap (pending l) pushed ∙ pending-push l p j (judged_below l J));
      prefixes_are = ap (λ ps. cond b (prefixes_behind ps e.op) ps) h.prefixes_are ∙ sym (ap (prefixes_of l) pushed ∙ prefixes_in_turn l p j);
      commits_are = ap (λ n. n + cond (b && is_commit e.op) 1 0) h.commits_are ∙ sym (commits_in_turn l J e ∙ ap (λ a. commits_in l J + cond (a && is_commit e.op) 1 0) is);
    }

-- what is kept for SERIALIZABLE transactions is no matter of that
pub stands_watching : (l : Limits) (J : List Entry) (k : Kept) (w : Watch) → Standing l J k → Standing l J (record k { watch = w })
stands_watching l J k w h = record { content_is = h.content_is; opened_is = h.opened_is; writes_are = h.writes_are; prefixes_are = h.prefixes_are; commits_are = h.commits_are }

pub content-still : (l : Limits) (J : List Entry) (k : Kept) → Standing l J k → applied k.content [] ≡ k.content
content-still l J k h = ap (λ c. applied c []) h.content_is ∙ (committed-nothing l (judged l J) ∙ sym h.content_is)
