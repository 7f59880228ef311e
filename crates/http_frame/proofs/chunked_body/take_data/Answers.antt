use Rattle.std.proofs.Common.{◌≡◌, ◌++◌, ℕ, List, length, take, sym, ap, subst, arith}
use Rattle.std.proofs.lemmas.Grind.{common_steps}
use Rattle.http_frame.specs.Places.{IsTurn, behind_data}
use Rattle.http_frame.specs.declared.chunk.Place.{Place}
use Rattle.http_frame.specs.declared.chunk.Place.TheVariants.{Data}
use Rattle.http_frame.specs.declared.chunk.Step.TheVariants.{Next}
use Rattle.http_frame.proofs.TurnLemmas.{data_turn}
use Rattle.http_frame.proofs.chunked_body.take_data.Goals as goal

pub returns : goal.returns
returns c =
    let held = c.args.buffer.now in
    let part = c.min-part.result in
    let size = ap length c.as_slice-held.ensures.value in
    let some = c.requires.held in
    let grown : c.extend_from_slice.new.self.items ≡ c.args.body.now.items ++ take part held = grind (arith, common_steps) in
    let turned = data_turn held c.args.body.now.items c.extend_from_slice.new.self.items c.args.left c.args.room part (omega (arith, c.min-part.ensures, c.requires.place)) (omega (arith, c.min-part.ensures)) (omega (arith, c.min-part.ensures)) grown in
    subst (λ (p : Place). IsTurn (Data c.args.left) c.args.room held c.consume.new.self c.args.body.now.items c.extend_from_slice.new.self.items (Next p c.args.room)) (sym c.behind_data.ensures)
    (subst (λ (z : List ℕ). IsTurn (Data c.args.left) c.args.room held z c.args.body.now.items c.extend_from_slice.new.self.items (Next (behind_data c.args.left part) c.args.room)) (sym c.consume.ensures) turned)
