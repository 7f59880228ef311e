-- Lists of passes that grow at their ends, one after another.
use Rattle.std.proofs.Common.{◌≡◌, ℕ, suc, ◌+◌, ◌≤◌, ◌<◌, List, [], ◌∷◌, ◌++◌, length, take, drop, vec_len, vec_capacity, refl, sym, ◌∙◌, ap, subst, arith, append-nil, take_all}
use Rattle.std.proofs.Math.ListN.{drop_of_length-le}
use Rattle.journal_lock.specs.Passes.{seat_of, seen}
use Rattle.journal.specs.declared.limits.Limits.{Limits}
use Rattle.shared_repo.specs.Passes.{AreFirst as AreFirstOf, IsPass, RepoPass, limits_of, passes_of}
use Rattle.shared_repo.specs.declared.repo.Repo.{Repo}
use Rattle.shared_session.specs.Houses.{AllOf, AreFirst, AreNew, AreOf, HaveLimits, HaveRoom, HaveSeats, House, Spread}
use Rattle.shared_session.specs.Rows.{AreRows}
use Rattle.shared_session.specs.declared.passes.Passes.{Passes}
use Rattle.shared_session.proofs.HouseLemmas.{same_count}

pub spread_more : (vs ws : List Passes) (ps : List RepoPass) (v w : Passes) (p : RepoPass) → Spread vs ps ws → w.list.items ≡ v.list.items ++ p ∷ []
    → vec_capacity w.list ≡ vec_capacity v.list → Spread (vs ++ v ∷ []) (ps ++ p ∷ []) (ws ++ w ∷ [])
spread_more [] [] [] v w p s e f = ((e, f), tt)
spread_more [] (b ∷ ws) [] v w p s e f = absurd s
spread_more [] ws (q ∷ ps) v w p s e f = absurd s
spread_more (a ∷ vs) ws [] v w p s e f = absurd s
spread_more (a ∷ vs) [] (q ∷ ps) v w p s e f = absurd s
spread_more (a ∷ vs) (b ∷ ws) (q ∷ ps) v w p s e f = (s.0, spread_more vs ws ps v w p s.1 e f)

pub room_parts : (ws : List Passes) (w : Passes) → HaveRoom (ws ++ w ∷ []) → HaveRoom ws × (vec_len w.list < vec_capacity w.list)
room_parts [] w h = (tt, h.0)
room_parts (a ∷ ws) w h = let r = room_parts ws w h.1 in ((h.0, r.0), r.1)

-- a row more

pub rows_none : (k room : ℕ) (ws : List Passes) (w : Passes) → AreRows [] k room ws → w.list.items ≡ [] → room ≤ vec_capacity w.list → AreRows [] k room (ws ++ w ∷ [])
rows_none k room [] w h e f = ((subst (λ (z : List RepoPass). AreOf [] z) (sym e) tt, subst (λ (z : List RepoPass). AreNew k z) (sym e) tt, f), tt)
rows_none k room (v ∷ ws) w h e f = (h.0, rows_none (k + 1) room ws w h.1 e f)

-- a repository more

of_more : (rs : List Repo) (ps : List RepoPass) (r : Repo) (p : RepoPass) → AreOf rs ps → IsPass r p → AreOf (rs ++ r ∷ []) (ps ++ p ∷ [])
of_more [] [] r p h i = (i, tt)
of_more [] (q ∷ ps) r p h i = absurd h
of_more (x ∷ rs) [] r p h i = absurd h
of_more (x ∷ rs) (q ∷ ps) r p h i = (h.0, of_more rs ps r p h.1 i)

new_more : (k : ℕ) (ps : List RepoPass) (p : RepoPass) → AreNew k ps → seat_of p ≡ k → seen p ≡ [] → AreNew k (ps ++ p ∷ [])
new_more k [] p h e f = ((e, f), tt)
new_more k (q ∷ ps) p h e f = (h.0, new_more k ps p h.1 e f)

-- each worker takes its pass of one repository more
pub rows_more : (rs : List Repo) (k room : ℕ) (r : Repo) (vs ws : List Passes) (ps : List RepoPass) → AreRows rs k room vs → AreFirstOf r k ps → Spread vs ps ws
    → AreRows (rs ++ r ∷ []) k room ws
rows_more rs k room r [] [] [] h f s = tt
rows_more rs k room r [] (w ∷ ws) [] h f s = absurd s
rows_more rs k room r [] ws (p ∷ ps) h f s = absurd s
rows_more rs k room r (v ∷ vs) ws [] h f s = absurd s
rows_more rs k room r (v ∷ vs) [] (p ∷ ps) h f s = absurd s
rows_more rs k room r (v ∷ vs) (w ∷ ws) (p ∷ ps) h f s = (
  (
    subst (λ (z : List RepoPass). AreOf (rs ++ r ∷ []) z) (sym s.0.0) (of_more rs v.list.items r p h.0.0 f.0.0),
    subst (λ (z : List RepoPass). AreNew k z) (sym s.0.0) (new_more k v.list.items p h.0.1 f.0.1 f.0.2),
    omega (arith, s.0.1, h.0.2),
  ),
  rows_more rs (k + 1) room r vs ws ps h.1 f.1 s.1,
)

-- each list has room for one pass more
pub rows_room : (rs : List Repo) (k room : ℕ) (ws : List Passes) → length rs < room → AreRows rs k room ws → HaveRoom ws
rows_room rs k room [] l h = tt
rows_room rs k room (w ∷ ws) l h = (omega (arith, l, w.list.ok.0, same_count rs w.list.items h.0.0, h.0.2), rows_room rs (k + 1) room ws l h.1)

pub rows_of : (house : House) (k room : ℕ) (ws : List Passes) → AreRows house.repos k room ws → AllOf house ws
rows_of house k room [] h = tt
rows_of house k room (w ∷ ws) h = (h.0.0, rows_of house (k + 1) room ws h.1)

pub rows_first : (rs : List Repo) (k room : ℕ) (ws : List Passes) → AreRows rs k room ws → AreFirst k ws
rows_first rs k room [] h = tt
rows_first rs k room (w ∷ ws) h = (h.0.1, rows_first rs (k + 1) room ws h.1)

pub limits_more : (limits : Limits) (rs : List Repo) (r : Repo) → HaveLimits limits rs → limits_of r ≡ limits → HaveLimits limits (rs ++ r ∷ [])
limits_more limits [] r h e = (e, tt)
limits_more limits (x ∷ rs) r h e = (h.0, limits_more limits rs r h.1 e)

pub seats_more : (n : ℕ) (rs : List Repo) (r : Repo) → HaveSeats n rs → passes_of r ≡ n → HaveSeats n (rs ++ r ∷ [])
seats_more n [] r h e = (e, tt)
seats_more n (x ∷ rs) r h e = (h.0, seats_more n rs r h.1 e)

-- a Vec whose slice was lent whole has the items that the slice has
pub slice_back : {A : Type 0} (n : ℕ) (new old : List A) → length new ≡ length old → n ≡ length old → take n (new ++ drop (length new) old) ≡ new
slice_back n new old e f =
    ap (λ z. take n (new ++ z)) (drop_of_length-le old (omega (arith, e))) ∙ ap (take n) (append-nil new) ∙ take_all n new (omega (arith, e, f))
