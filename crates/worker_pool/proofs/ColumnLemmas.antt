-- The passes of all workers by repository.
use Rattle.std.proofs.Common.{◌≡◌, ℕ, zero, suc, ◌+◌, ◌≤◌, ◌<◌, ◌==◌, Bool, if◌then◌else◌, List, [], ◌∷◌, ◌++◌, length, vec_len, vec_capacity, refl, sym, ◌∙◌, ap, subst, arith, append_assoc, length-append}
use Rattle.std.specs.Prelude.{map}
use Rattle.journal_lock.specs.Passes.{seats_in, seat_of, seen}
use Rattle.journal.specs.declared.entry.Entry.{Entry}
use Rattle.journal.specs.declared.limits.Limits.{Limits}
use Rattle.session.specs.Marks as marks
use Rattle.session.specs.Marks.{Moves}
use Rattle.shared_repo.specs.Lists as lists_of
use Rattle.shared_repo.specs.Passes.{ArePasses, EachEnds, IsPass, RepoPass, limits_of, passes_of}
use Rattle.shared_repo.specs.declared.repo.Repo.{Repo}
use Rattle.shared_session.specs.Houses.{AreOf, HaveLimits, HaveRoom, HaveSeats, House, Spread, lists, seats}
use Rattle.shared_session.specs.declared.passes.Passes.{Passes}
use Rattle.worker_pool.specs.Columns.{AreClosed, AreColumns, IsClosed, MayClose, head_of, heads, tail_of, tails}
use Rattle.worker_pool.specs.Jobs.{HaveEnded, rows_of}
use Rattle.worker_pool.specs.Served.{AreWhole, IsWhole}
use Rattle.worker_pool.specs.declared.house_end.RepoCount.{RepoCount}
use Rattle.worker_pool.specs.declared.jobs.Job.{Job}

heads_more : (rows : List (List RepoPass)) (p : RepoPass) (ps : List RepoPass) → heads (rows ++ (p ∷ ps) ∷ []) ≡ heads rows ++ p ∷ []
heads_more [] p ps = refl
heads_more (row ∷ rows) p ps = ap (λ (z : List RepoPass). head_of row ++ z) (heads_more rows p ps) ∙ sym (append_assoc (head_of row) (heads rows) (p ∷ []))

tails_more : (rows : List (List RepoPass)) (row : List RepoPass) → tails (rows ++ row ∷ []) ≡ tails rows ++ tail_of row ∷ []
tails_more [] row = refl
tails_more (x ∷ rows) row = ap (λ (z : List (List RepoPass)). tail_of x ∷ z) (tails_more rows row)

heads_few : (rows : List (List RepoPass)) → length (heads rows) ≤ length rows
heads_few [] = omega arith
heads_few ([] ∷ rows) = omega (arith, heads_few rows)
heads_few ((p ∷ ps) ∷ rows) = omega (arith, heads_few rows)

tails_count : (rows : List (List RepoPass)) → length (tails rows) ≡ length rows
tails_count [] = refl
tails_count (row ∷ rows) = ap suc (tails_count rows)

pub columns_less : (room more : ℕ) (rows : List (List RepoPass)) (cs : List Passes) → room ≤ more → AreColumns more rows cs → AreColumns room rows cs
columns_less room more rows [] le h = tt
columns_less room more rows (c ∷ cs) le h = ((h.0.0, omega (arith, le, h.0.1)), columns_less room more (tails rows) cs le h.1)

pub columns_room : (room : ℕ) (rows : List (List RepoPass)) (cs : List Passes) → length rows < room → AreColumns room rows cs → HaveRoom cs
columns_room room rows [] l h = tt
columns_room room rows (c ∷ cs) l h =
    (omega (arith, l, c.list.ok.0, ap length h.0.0, heads_few rows, h.0.1), columns_room room (tails rows) cs (omega (arith, l, tails_count rows)) h.1)

pub columns_spread : (room : ℕ) (rows : List (List RepoPass)) (cs ds : List Passes) (ps : List RepoPass) → AreColumns room rows cs → Spread cs ps ds
    → AreColumns room (rows ++ ps ∷ []) ds
columns_spread room rows [] [] [] h s = tt
columns_spread room rows [] (d ∷ ds) [] h s = absurd s
columns_spread room rows [] ds (p ∷ ps) h s = absurd s
columns_spread room rows (c ∷ cs) ds [] h s = absurd s
columns_spread room rows (c ∷ cs) [] (p ∷ ps) h s = absurd s
columns_spread room rows (c ∷ cs) (d ∷ ds) (p ∷ ps) h s = (
  (s.0.0 ∙ ap (λ (z : List RepoPass). z ++ p ∷ []) h.0.0 ∙ sym (heads_more rows p ps), omega (arith, h.0.1, s.0.1)),
  subst (λ (z : List (List RepoPass)). AreColumns room z ds) (sym (tails_more rows (p ∷ ps))) (columns_spread room (tails rows) cs ds ps h.1 s.1),
)

pub columns_none : (room : ℕ) (cs : List Passes) (c : Passes) → AreColumns room [] cs → c.list.items ≡ [] → room ≤ vec_capacity c.list → AreColumns room [] (cs ++ c ∷ [])
columns_none room [] c h e f = ((e, f), tt)
columns_none room (x ∷ cs) c h e f = (h.0, columns_none room cs c h.1 e f)

pub of_count : (rs : List Repo) (ps : List RepoPass) → AreOf rs ps → length rs ≡ length ps
of_count [] [] h = refl
of_count [] (p ∷ ps) h = absurd h
of_count (r ∷ rs) [] h = absurd h
of_count (r ∷ rs) (p ∷ ps) h = ap suc (of_count rs ps h.1)

-- each worker has a pass of each repository
abbrev pub EachOf : List Repo → List (List RepoPass) → Type 0
EachOf rs [] = Unit {0}
EachOf rs (row ∷ rows) = AreOf rs row × EachOf rs rows

pub ended_rows : {D : Type 0} (house : House) (js : List (Job D)) → HaveEnded house js → EachOf house.repos (rows_of js)
ended_rows house [] h = tt
ended_rows house (j ∷ js) h = (h.0.0, ended_rows house js h.1)

each_tails : (r : Repo) (rs : List Repo) (rows : List (List RepoPass)) → EachOf (r ∷ rs) rows → EachOf rs (tails rows)
each_tails r rs [] e = tt
each_tails r rs ([] ∷ rows) e = absurd e.0
each_tails r rs ((p ∷ ps) ∷ rows) e = (e.0.1, each_tails r rs rows e.1)

heads_passes : (r : Repo) (rs : List Repo) (rows : List (List RepoPass)) → EachOf (r ∷ rs) rows → ArePasses r (heads rows)
heads_passes r rs [] e = tt
heads_passes r rs ([] ∷ rows) e = absurd e.0
heads_passes r rs ((p ∷ ps) ∷ rows) e = (e.0.0, heads_passes r rs rows e.1)

heads_count : (r : Repo) (rs : List Repo) (rows : List (List RepoPass)) → EachOf (r ∷ rs) rows → length (heads rows) ≡ length rows
heads_count r rs [] e = refl
heads_count r rs ([] ∷ rows) e = absurd e.0
heads_count r rs ((p ∷ ps) ∷ rows) e = ap suc (heads_count r rs rows e.1)

pub may_close : (limits : Limits) (rs : List Repo) (room : ℕ) (rows : List (List RepoPass)) (cs : List Passes) → HaveLimits limits rs → HaveSeats (length rows) rs
    → EachOf rs rows → length cs ≡ length rs → AreColumns room rows cs → MayClose limits rs cs
may_close limits [] room rows [] l s e n h = tt
may_close limits [] room rows (c ∷ cs) l s e n h = absurd (omega (arith, n))
may_close limits (r ∷ rs) room rows [] l s e n h = absurd (omega (arith, n))
may_close limits (r ∷ rs) room rows (c ∷ cs) l s e n h = (
  (subst (λ (z : List RepoPass). ArePasses r z) (sym h.0.0) (heads_passes r rs rows e), omega (arith, c.list.ok.0, ap length h.0.0, heads_count r rs rows e, s.0), l.0),
  may_close limits rs room (tails rows) cs l.1 (subst (λ (k : ℕ). HaveSeats k rs) (sym (tails_count rows)) s.1) (each_tails r rs rows e) (omega (arith, n)) h.1,
)

no_more : (limits : Limits) (cs : List Passes) (c : Passes) → MayClose limits [] (cs ++ c ∷ []) → ⊥
no_more limits [] c h = h
no_more limits (x ∷ cs) c h = h

more_repos : (limits : Limits) (rs : List Repo) (r : Repo) → MayClose limits (rs ++ r ∷ []) [] → ⊥
more_repos limits [] r h = h
more_repos limits (x ∷ rs) r h = h

close_parts : (limits : Limits) (rs : List Repo) (r : Repo) (cs : List Passes) (c : Passes) → MayClose limits (rs ++ r ∷ []) (cs ++ c ∷ [])
    → MayClose limits rs cs × (ArePasses r c.list.items × (vec_len c.list ≡ passes_of r) × (limits_of r ≡ limits))
close_parts limits [] r [] c h = (tt, h.0)
close_parts limits [] r (x ∷ cs) c h = absurd (no_more limits cs c h.1)
close_parts limits (y ∷ rs) r [] c h = absurd (more_repos limits rs r h.1)
close_parts limits (y ∷ rs) r (x ∷ cs) c h = let p = close_parts limits rs r cs c h.1 in ((h.0, p.0), p.1)

-- the same of lists that end so
pub close_last : (limits : Limits) (rs rs' : List Repo) (r : Repo) (cs cs' : List Passes) (c : Passes) → rs ≡ rs' ++ r ∷ [] → cs ≡ cs' ++ c ∷ [] → MayClose limits rs cs
    → MayClose limits rs' cs' × (ArePasses r c.list.items × (vec_len c.list ≡ passes_of r) × (limits_of r ≡ limits))
close_last limits rs rs' r cs cs' c e f h =
    close_parts limits rs' r cs' c (subst (λ (z : List Repo). MayClose limits z (cs' ++ c ∷ [])) e (subst (λ (z : List Passes). MayClose limits rs z) f h))

pub closed_more : (limits : Limits) (cs : List Passes) (qs : List RepoPass) (ns : List RepoCount) (c : Passes) (q : RepoPass) (n : RepoCount) → AreClosed limits cs qs ns
    → IsClosed limits c.list.items q n → AreClosed limits (cs ++ c ∷ []) (qs ++ q ∷ []) (ns ++ n ∷ [])
closed_more limits [] [] [] c q n s i = (i, tt)
closed_more limits [] [] (m ∷ ns) c q n s i = absurd s
closed_more limits [] (p ∷ qs) ns c q n s i = absurd s
closed_more limits (x ∷ cs) [] ns c q n s i = absurd s
closed_more limits (x ∷ cs) (p ∷ qs) [] c q n s i = absurd s
closed_more limits (x ∷ cs) (p ∷ qs) (m ∷ ns) c q n s i = (s.0, closed_more limits cs qs ns c q n s.1 i)

-- What a pass has seen, and the whole journal

places_same : (seat at : ℕ) (es : List Entry) → lists_of.places_of seat at es ≡ marks.places_of seat at es
places_same seat at [] = refl
places_same seat at (e ∷ es) = step (e.seat == seat) at (places_same seat (suc at) es) where
  step : (b : Bool) (k : ℕ) {xs ys : List ℕ} → xs ≡ ys → (if b then k ∷ xs else xs) ≡ (if b then k ∷ ys else ys)
  step b k h = ap (λ (z : List ℕ). if b then k ∷ z else z) h

goes_same : (seat : ℕ) (old new : List Entry) (places : List ℕ) → lists_of.Goes seat old new places → marks.Goes seat old new places
goes_same seat old new places g =
    record { more = g.more; begins = g.begins; own = sym (places_same seat (length old) g.more) ∙ g.own }

-- from what each worker has seen to the whole journals there is no entry of its own
abbrev pub EachMoves : List RepoPass → List (List RepoPass) → Type 0
EachMoves qs [] = Unit {0}
EachMoves qs (row ∷ rows) = Moves (seats row) (lists row) (lists qs) [] × EachMoves qs rows

moves_empty : (rows : List (List RepoPass)) → EachOf [] rows → EachMoves [] rows
moves_empty [] e = tt
moves_empty ([] ∷ rows) e = ((λ repo. record { more = []; begins = refl; own = refl }), moves_empty rows e.1)
moves_empty ((p ∷ ps) ∷ rows) e = absurd e.0

moves_with : (r : Repo) (rs : List Repo) (q : RepoPass) (qs : List RepoPass) (rows : List (List RepoPass)) → EachOf (r ∷ rs) rows → EachEnds (heads rows) (seen q)
    → EachMoves qs (tails rows) → EachMoves (q ∷ qs) rows
moves_with r rs q qs [] e a b = tt
moves_with r rs q qs ([] ∷ rows) e a b = absurd e.0
moves_with r rs q qs ((p ∷ ps) ∷ rows) e a b = (at b.0, moves_with r rs q qs rows e.1 a.1 b.1) where
  at : Moves (seats ps) (lists ps) (lists qs) [] → (repo : ℕ) → marks.Goes (seats (p ∷ ps) repo) (lists (p ∷ ps) repo) (lists (q ∷ qs) repo) []
  at rest zero = goes_same (seat_of p) (seen p) (seen q) [] a.0
  at rest (suc repo) = rest repo

pub each_moves : (limits : Limits) (rs : List Repo) (room : ℕ) (rows : List (List RepoPass)) (cs : List Passes) (qs : List RepoPass) (ns : List RepoCount)
    → EachOf rs rows → length cs ≡ length rs → AreColumns room rows cs → AreClosed limits cs qs ns → EachMoves qs rows
each_moves limits [] room rows [] [] [] e k h x = moves_empty rows e
each_moves limits [] room rows [] [] (n ∷ ns) e k h x = absurd x
each_moves limits [] room rows [] (q ∷ qs) ns e k h x = absurd x
each_moves limits [] room rows (c ∷ cs) qs ns e k h x = absurd (omega (arith, k))
each_moves limits (r ∷ rs) room rows [] qs ns e k h x = absurd (omega (arith, k))
each_moves limits (r ∷ rs) room rows (c ∷ cs) [] ns e k h x = absurd x
each_moves limits (r ∷ rs) room rows (c ∷ cs) (q ∷ qs) [] e k h x = absurd x
each_moves limits (r ∷ rs) room rows (c ∷ cs) (q ∷ qs) (n ∷ ns) e k h x =
    moves_with r rs q qs rows e (subst (λ (z : List RepoPass). EachEnds z (seen q)) h.0.0 x.0.ends)
    (each_moves limits rs room (tails rows) cs qs ns (each_tails r rs rows e) (omega (arith, k)) h.1 x.1)

-- The seat numbers

heads_seats : (r : Repo) (rs : List Repo) (rows : List (List RepoPass)) → EachOf (r ∷ rs) rows → seats_in (heads rows) ≡ map (λ (row : List RepoPass). seats row 0) rows
heads_seats r rs [] e = refl
heads_seats r rs ([] ∷ rows) e = absurd e.0
heads_seats r rs ((p ∷ ps) ∷ rows) e = ap (λ (z : List ℕ). seat_of p ∷ z) (heads_seats r rs rows e.1)

tails_seats : (r : Repo) (rs : List Repo) (rows : List (List RepoPass)) → EachOf (r ∷ rs) rows → (i : ℕ)
    → map (λ (row : List RepoPass). seats row (suc i)) rows ≡ map (λ (row : List RepoPass). seats row i) (tails rows)
tails_seats r rs [] e i = refl
tails_seats r rs ([] ∷ rows) e i = absurd e.0
tails_seats r rs ((p ∷ ps) ∷ rows) e i = ap (λ (z : List ℕ). seats ps i ∷ z) (tails_seats r rs rows e.1 i)

pub whole_of : (limits : Limits) (rs : List Repo) (room : ℕ) (rows : List (List RepoPass)) (cs : List Passes) (qs : List RepoPass) (ns : List RepoCount) (f : ℕ → List ℕ)
    → ((i : ℕ) → f i ≡ map (λ (row : List RepoPass). seats row i) rows) → EachOf rs rows → length cs ≡ length rs → AreColumns room rows cs → AreClosed limits cs qs ns
    → AreWhole limits f qs ns
whole_of limits [] room rows [] [] [] f s e k h x = tt
whole_of limits [] room rows [] [] (n ∷ ns) f s e k h x = absurd x
whole_of limits [] room rows [] (q ∷ qs) ns f s e k h x = absurd x
whole_of limits [] room rows (c ∷ cs) qs ns f s e k h x = absurd (omega (arith, k))
whole_of limits (r ∷ rs) room rows [] qs ns f s e k h x = absurd (omega (arith, k))
whole_of limits (r ∷ rs) room rows (c ∷ cs) [] ns f s e k h x = absurd x
whole_of limits (r ∷ rs) room rows (c ∷ cs) (q ∷ qs) [] f s e k h x = absurd x
whole_of limits (r ∷ rs) room rows (c ∷ cs) (q ∷ qs) (n ∷ ns) f s e k h x = (
  subst (λ (z : List ℕ). IsWhole limits z (seen q) n) (ap seats_in h.0.0 ∙ heads_seats r rs rows e ∙ sym (s 0)) x.0.whole,
  whole_of limits rs room (tails rows) cs qs ns (λ i. f (suc i)) (λ i. s (suc i) ∙ tails_seats r rs rows e i) (each_tails r rs rows e) (omega (arith, k)) h.1 x.1,
)
