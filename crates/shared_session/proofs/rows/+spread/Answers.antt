use Rattle.std.proofs.Common.{◌≡◌, ◌++◌, ◌∷◌, [], ℕ, List, length, vec_len, sym, subst, arith, rules}
use Rattle.shared_repo.specs.Passes.{RepoPass}
use Rattle.shared_session.specs.Houses.{HaveRoom, Spread}
use Rattle.shared_session.specs.declared.passes.Passes.{Passes}
use Rattle.shared_session.proofs.RowLemmas.{room_parts, spread_more}
use Rattle.shared_session.proofs.rows.+spread.Goals as goal

pub push_reserved-requires : goal.push_reserved-requires
push_reserved-requires t c =
    (room_parts c.in-Some.rest.now c.in-Some.last.now (subst (λ (z : List Passes). HaveRoom z) c.in-Some.ensures.cases.0 c.requires.room)).1

pub spread-requires : goal.spread-requires
spread-requires t c =
    let room = (room_parts c.in-Some.rest.now c.in-Some.last.now (subst (λ (z : List Passes). HaveRoom z) c.in-Some.ensures.cases.0 c.requires.room)).0 in
    (search rules, (omega (arith, c.requires.count, c.in-Some.ensures.cases.1, c.in-Some-pop.ensures.cases), room))

pub returns : goal.returns
returns t c =
    let w : Passes = record { list = c.push_reserved.new.self } in
    let out = c.spread.new.into ++ w ∷ [] in
    subst (λ (z : List Passes). Spread z c.args.from.now.items out) (sym c.in-Some.ensures.cases.0)
    (subst (λ (z : List RepoPass). Spread (c.in-Some.rest.now ++ c.in-Some.last.now ∷ []) z out) (sym c.in-Some-pop.ensures.items)
    (spread_more c.in-Some.rest.now c.spread.new.into c.pop.new.self.items c.in-Some.last.now w c.in-Some-pop.pass c.spread.ensures c.push_reserved.ensures.items
    c.push_reserved.ensures.capacity))
