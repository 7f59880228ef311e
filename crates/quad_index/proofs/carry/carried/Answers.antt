use Rattle.std.proofs.Common.{◌∙◌, ◌<◌, ℕ, List, length, get_or, map, sym, subst, ap, arith}
use Rattle.std.specs.List.{AllByRecursion}
use Rattle.std.proofs.lemmas.List.{take_all}
use Rattle.rdf_term.specs.declared.term.Term.{Term}
use Rattle.quad_index.specs.declared.code.Code.{Code}
use Rattle.quad_index.specs.Codes.{decode, IsCode}
use Rattle.quad_index.specs.Carry.{AreRanks, carry, ranks_of}
use Rattle.quad_index.proofs.ListLemmas.{all_at}
use Rattle.quad_index.proofs.CarryLemmas.{carry_within, carried_codes, carried_quads}
use Rattle.quad_index.proofs.carry.carried.Goals as goal

pub carried_code-requires : goal.carried_code-requires
carried_code-requires c =
    let none : Code = record { first = 0; second = 0; third = 0; fourth = 0 } in
    let ranks = subst (λ (terms : List Term). AreRanks c.args.terms.now terms c.in_ok-ranks.ranks.items) c.terms-2.ensures.terms c.in_ok-ranks.ensures in
    subst (λ (ranks : List ℕ). AllByRecursion (λ rank. rank < length ranks) (ranks_of (get_or c.args.codes.now c.loop-code.code-index none))) (sym c.as_slice.ensures.value)
    (carry_within c.args.terms.now c.args.from.now c.in_ok-ranks.ranks.items (get_or c.args.codes.now c.loop-code.code-index none) ranks (all_at (IsCode c.args.from.now) c.args.codes.now c.loop-code.code-index none c.requires.codes c.loop-code-test.true))

pub returns-clause-codes : goal.returns-clause-codes
returns-clause-codes c =
    let ranks = subst (λ (terms : List Term). AreRanks c.args.terms.now terms c.in_ok-ranks.ranks.items) c.terms-2.ensures.terms c.in_ok-ranks.ensures in
    subst (AllByRecursion (IsCode c.args.terms.now)) (sym (c.loop-code.invariant ∙ ap (map (carry c.in_ok-ranks.ranks.items)) (take_all c.loop-code.code-index c.args.codes.now (omega arith))))
    (carried_codes c.args.terms.now c.args.from.now c.in_ok-ranks.ranks.items c.args.codes.now c.terms.ensures.few ranks c.requires.codes c.requires.known)

pub returns-clause-quads : goal.returns-clause-quads
returns-clause-quads c =
    let ranks = subst (λ (terms : List Term). AreRanks c.args.terms.now terms c.in_ok-ranks.ranks.items) c.terms-2.ensures.terms c.in_ok-ranks.ensures in
    ap (map (decode c.args.terms.now)) (c.loop-code.invariant ∙ ap (map (carry c.in_ok-ranks.ranks.items)) (take_all c.loop-code.code-index c.args.codes.now (omega arith)))
    ∙ carried_quads c.args.terms.now c.args.from.now c.in_ok-ranks.ranks.items c.args.codes.now c.terms.ensures.few ranks c.requires.codes c.requires.known
