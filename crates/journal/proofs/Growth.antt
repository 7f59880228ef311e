-- How the words on journals grow by one entry.
use Rattle.std.proofs.Common.{◌≡◌, ℕ, zero, suc, ◌+◌, ◌<◌, List, [], ◌∷◌, ◌++◌, length, take, Some, refl, sym, ◌∙◌, ap, arith, append_assoc, append-nil, length-append, take_all}
use Rattle.std.specs.Prelude.{slice_get}
use Rattle.std.specs.Option.{option_map}
use Rattle.std.proofs.lemmas.List.{take-append-le}
use Rattle.change_set.specs.Content.{content, applied as applied_to}
use Rattle.change_set.proofs.Contents.{applied-empty, applied-append}
use Rattle.journal.specs.declared.entry.Entry.{Entry}
use Rattle.journal.specs.declared.limits.Limits.{Limits}
use Rattle.journal.specs.Past.{Judged, joined_from, joined}
use Rattle.journal.specs.Committed.{committed_changes, committed, applied_changes}
use Rattle.journal.specs.Journal.{judged_behind, judged, judged_entry, reply_next, reply_at}
use Rattle.journal.specs.Laws.{EachEntryIsJudgedOnce, ReplyReadsNoLaterEntry, ReplyAtTheEnd, CommittedInTurn}

-- What f makes of each entry, joined

pub joined_from-append : {A : Type 0} (before : List Judged) (f : List Judged → Judged → List A) (xs ys : List Judged) → joined_from before f (xs ++ ys) ≡ joined_from before f xs ++ joined_from (before ++ xs) f ys
joined_from-append before f [] ys = ap (λ b. joined_from b f ys) (sym (append-nil before))
joined_from-append before f (x ∷ xs) ys =
    ap (λ r. f before x ++ r) (joined_from-append (before ++ x ∷ []) f xs ys)
    ∙ (sym (append_assoc (f before x) (joined_from (before ++ x ∷ []) f xs) (joined_from ((before ++ x ∷ []) ++ xs) f ys))
    ∙ ap (λ b. (f before x ++ joined_from (before ++ x ∷ []) f xs) ++ joined_from b f ys) (append_assoc before (x ∷ []) xs))

-- one more entry
pub joined-push : {A : Type 0} (f : List Judged → Judged → List A) (p : List Judged) (e : Judged) → joined f (p ++ e ∷ []) ≡ joined f p ++ f p e
joined-push f p e = joined_from-append [] f p (e ∷ []) ∙ ap (λ r. joined f p ++ r) (append-nil (f p e))

-- The committed content

-- what one more entry commits stands behind
pub committed_changes-push : (l : Limits) (p : List Judged) (e : Judged) → committed_changes l (p ++ e ∷ []) ≡ committed_changes l p ++ applied_changes l p e
unfolding committed_changes
committed_changes-push l p e = joined-push (applied_changes l) p e

pub committed-push : (l : Limits) (p : List Judged) (e : Judged) → committed l (p ++ e ∷ []) ≡ content (committed_changes l p ++ applied_changes l p e)
unfolding committed
committed-push l p e = ap content (committed_changes-push l p e)

-- an entry that applies nothing leaves the committed content
pub committed-same : (l : Limits) (p : List Judged) (e : Judged) → applied_changes l p e ≡ [] → committed l (p ++ e ∷ []) ≡ committed l p
unfolding committed
committed-same l p e none = committed-push l p e ∙ ap content (ap (λ c. committed_changes l p ++ c) none ∙ append-nil (committed_changes l p))

pub committed_in_turn : CommittedInTurn
unfolding committed
committed_in_turn l p e =
    committed-push l p e
    ∙ (sym (applied-empty (committed_changes l p ++ applied_changes l p e))
    ∙ (sym (applied-append [] (committed_changes l p) (applied_changes l p e))
    ∙ ap (λ c. applied_to c (applied_changes l p e)) (applied-empty (committed_changes l p))))

-- Judged journals

pub judged_behind-append : (l : Limits) (p : List Judged) (xs ys : List Entry) → judged_behind l p (xs ++ ys) ≡ judged_behind l (judged_behind l p xs) ys
judged_behind-append l p [] ys = refl
judged_behind-append l p (x ∷ xs) ys = judged_behind-append l (p ++ judged_entry l p x ∷ []) xs ys

-- one more entry is judged by those before it, and they stay as they are
pub judged-push : (l : Limits) (J : List Entry) (e : Entry) → judged l (J ++ e ∷ []) ≡ judged l J ++ judged_entry l (judged l J) e ∷ []
unfolding judged
judged-push l J e = judged_behind-append l [] J (e ∷ [])

length-judged_behind : (l : Limits) (p : List Judged) (J : List Entry) → length (judged_behind l p J) ≡ length p + length J
length-judged_behind l p [] = omega arith
length-judged_behind l p (e ∷ es) =
    let step = length-judged_behind l (p ++ judged_entry l p e ∷ []) es in
    let more = length-append p (judged_entry l p e ∷ []) in
    omega arith

pub length-judged : (l : Limits) (J : List Entry) → length (judged l J) ≡ length J
unfolding judged
length-judged l J = length-judged_behind l [] J ∙ omega arith

-- what was judged stays in front
pub begins_with : (l : Limits) (p : List Judged) (J : List Entry) → (rest : List Judged) × (judged_behind l p J ≡ p ++ rest)
begins_with l p [] = ([], sym (append-nil p))
begins_with l p (e ∷ es) =
    let more = begins_with l (p ++ judged_entry l p e ∷ []) es in
    (judged_entry l p e ∷ more.0, more.1 ∙ append_assoc p (judged_entry l p e ∷ []) more.0)

starts_with : (l : Limits) (p : List Judged) (J : List Entry) → take (length p) (judged_behind l p J) ≡ p
starts_with l p J =
    let more = begins_with l p J in
    ap (λ q. take (length p) q) more.1 ∙ (take-append-le (length p) p more.0 (omega arith) ∙ take_all (length p) p (omega arith))

pub judged-take : (l : Limits) (J K : List Entry) → take (length J) (judged l (J ++ K)) ≡ judged l J
unfolding judged
judged-take l J K =
    ap (λ p. take (length J) p) (judged_behind-append l [] J K)
    ∙ (ap (λ n. take n (judged_behind l (judged_behind l [] J) K)) (sym (length-judged_behind l [] J ∙ omega arith))
    ∙ starts_with l (judged_behind l [] J) K)

pub each_entry_is_judged_once : EachEntryIsJudgedOnce
each_entry_is_judged_once = record { next = judged-push; prefix = judged-take; count = length-judged }

-- Replies

pub slice_get-append_left : {A : Type 0} (xs ys : List A) (k : ℕ) → k < length xs → slice_get (xs ++ ys) k ≡ slice_get xs k
slice_get-append_left [] ys k lt = absurd (omega arith)
slice_get-append_left (x ∷ xs) ys zero lt = refl
slice_get-append_left (x ∷ xs) ys (suc k) lt = slice_get-append_left xs ys k (omega arith)

pub slice_get-append_at : {A : Type 0} (xs : List A) (y : A) (ys : List A) → slice_get (xs ++ y ∷ ys) (length xs) ≡ Some y
slice_get-append_at [] y ys = refl
slice_get-append_at (x ∷ xs) y ys = slice_get-append_at xs y ys

pub reply_reads_no_later_entry : ReplyReadsNoLaterEntry
unfolding reply_at
reply_reads_no_later_entry l J K k lt =
    ap (λ p. option_map (reply_next l p) (slice_get (J ++ K) k)) (take-append-le k J K (omega arith))
    ∙ ap (λ o. option_map (reply_next l (take k J)) o) (slice_get-append_left J K k lt)

pub reply_at_the_end : ReplyAtTheEnd
unfolding reply_at
reply_at_the_end l J e K =
    ap (λ p. option_map (reply_next l p) (slice_get (J ++ e ∷ K) (length J))) (take-append-le (length J) J (e ∷ K) (omega arith) ∙ take_all (length J) J (omega arith))
    ∙ ap (λ o. option_map (reply_next l J) o) (slice_get-append_at J e K)
