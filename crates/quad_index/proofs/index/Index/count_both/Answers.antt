use Rattle.std.proofs.Common.{◌&&◌, ◌∙◌, List, map, length, ap, sym, subst}
use Rattle.std.specs.List.{filter}
use Rattle.rdf_term.specs.Matching.{matches}
use Rattle.rdf_term.specs.Statement.{Statement}
use Rattle.quad_index.specs.declared.code.Code.{Code}
use Rattle.quad_index.specs.Codes.{arrange_back, decode, is_within, passes_at, HasSameWithin}
use Rattle.quad_index.specs.Contents.{Contents}
use Rattle.quad_index.proofs.IndexLemmas.{counted_near, none_match, found_both, first_of, second_of, never_first, never_second}
use Rattle.quad_index.proofs.index.Index.count_both.Goals as goal

pub returns-in_default : goal.returns-in_default
returns-in_default g c =
    let test = λ (q : Statement). matches c.args.pattern.now q && (matches c.args.other.now q && g.T.Test.passes c.args.test.now q) in
    sym (ap (λ (view : Contents). length (filter test view.quads)) (sym c.self.view_is)
    ∙ ap length (none_match c.self.inside.terms test c.self.inside.codes.items c.self.invariant.quads
    (λ k i. never_first (matches c.args.pattern.now (decode c.self.inside.terms k)) _ (c.in_default.ensures.none k i))))

pub returns-in_default-bounds : goal.returns-in_default-bounds
returns-in_default-bounds g c =
    let test = λ (q : Statement). matches c.args.pattern.now q && (matches c.args.other.now q && g.T.Test.passes c.args.test.now q) in
    sym (ap (λ (view : Contents). length (filter test view.quads)) (sym c.self.view_is)
    ∙ ap length (none_match c.self.inside.terms test c.self.inside.codes.items c.self.invariant.quads
    (λ k i. never_second _ (matches c.args.other.now (decode c.self.inside.terms k)) _ (c.in_default-bounds.ensures.none k i))))

pub returns-then-keys-other_keys : goal.returns-then-keys-other_keys
returns-then-keys-other_keys g c =
    let terms = c.self.inside.terms in
    let passes = g.T.Test.passes c.args.test.now in
    let test = λ (q : Statement). matches c.args.pattern.now q && (matches c.args.other.now q && passes q) in
    let bounds = c.in-Some.bounds in
    let others = c.in-Some-bounds.others in
    let found = λ (k : Code). is_within bounds.0 bounds.1 k && (is_within others.0 others.1 k && passes_at passes terms k) in
    c.count_found.ensures
    ∙ counted_near terms bounds.0 bounds.1 found test c.near-order.result.0 c.self.inside.codes.items c.near-order.result.1.now c.self.invariant.quads
    (found_both terms (is_within bounds.0 bounds.1) (is_within others.0 others.1) (matches c.args.pattern.now) (matches c.args.other.now) passes c.in-Some.ensures.some c.in-Some-bounds.ensures.some)
    (λ k t. first_of (is_within bounds.0 bounds.1 k) _ t)
    (subst (λ (codes : List Code). HasSameWithin bounds.0 bounds.1 codes (map (arrange_back c.near-order.result.0) c.near-order.result.1.now)) c.as_slice-codes.ensures.value c.near-order.ensures)
    ∙ ap (λ (view : Contents). length (filter test view.quads)) c.self.view_is

pub returns-else-keys-other_keys : goal.returns-else-keys-other_keys
returns-else-keys-other_keys g c =
    let terms = c.self.inside.terms in
    let passes = g.T.Test.passes c.args.test.now in
    let test = λ (q : Statement). matches c.args.pattern.now q && (matches c.args.other.now q && passes q) in
    let bounds = c.in-Some.bounds in
    let others = c.in-Some-bounds.others in
    let found = λ (k : Code). is_within bounds.0 bounds.1 k && (is_within others.0 others.1 k && passes_at passes terms k) in
    c.count_found-else-keys-other_keys.ensures
    ∙ counted_near terms others.0 others.1 found test c.near-other_order.result.0 c.self.inside.codes.items c.near-other_order.result.1.now c.self.invariant.quads
    (found_both terms (is_within bounds.0 bounds.1) (is_within others.0 others.1) (matches c.args.pattern.now) (matches c.args.other.now) passes c.in-Some.ensures.some c.in-Some-bounds.ensures.some)
    (λ k t. second_of (is_within bounds.0 bounds.1 k) (is_within others.0 others.1 k) _ t)
    (subst (λ (codes : List Code). HasSameWithin others.0 others.1 codes (map (arrange_back c.near-other_order.result.0) c.near-other_order.result.1.now)) c.as_slice-codes.ensures.value c.near-other_order.ensures)
    ∙ ap (λ (view : Contents). length (filter test view.quads)) c.self.view_is
