use Rattle.std.proofs.Common.{◌≡◌, ◌∙◌, List, [], ◌∷◌, ◌++◌, map, ap, sym, subst}
use Rattle.std.specs.List.{All, AllByRecursion}
use Rattle.std.specs.List.Sorted.{IsStrictlySortedBy}
use Rattle.std.specs.BTreeSet.{insert_key}
use Rattle.rdf_term.specs.Order.{quad_cmp}
use Rattle.rdf_term.specs.Sets.{sorted_set}
use Rattle.rdf_term.proofs.SetLemmas.{sorted_set-sorted}
use Rattle.quad_index.specs.declared.code.Code.{Code}
use Rattle.quad_index.specs.Codes.{code_cmp, code_total, decode, IsCode}
use Rattle.quad_index.specs.Contents.{Arranged, Contents, IsKept}
use Rattle.quad_index.proofs.CodeLemmas.{code_exact}
use Rattle.quad_index.proofs.IndexLemmas.{insert_key-there, code_added, codes_added, still_some}
use Rattle.quad_index.proofs.index.Index.insert.Goals as goal

pub returns-then-holds-clause-quads : goal.returns-then-holds-clause-quads
returns-then-holds-clause-quads c = sym (insert_key-there c.args.self.now.quads c.args.quad.now c.holds.ensures.ascending (sym c.holds.ensures.found ∙ c.if-holds.true))

pub invariant_of-self : goal.invariant_of-self
invariant_of-self c =
    let codes : c.in_ok-codes.codes.items ≡ sorted_set code_cmp (c.self.inside.codes.items ++ c.in-Some.code ∷ []) =
    c.in_ok-codes.ensures ∙ ap (λ (codes : List Code). sorted_set code_cmp (codes ++ c.in-Some.code ∷ [])) c.as_slice.ensures.value in
    record {
      some = still_some c.self.inside.runs.items c.as_slice-2.result.now c.in_ok-runs.runs.items c.in_ok-runs.ensures.orders c.as_slice-2.ensures.value c.self.invariant.some;
      dictionary = c.self.invariant.dictionary;
      ascending = subst (IsStrictlySortedBy code_cmp) (sym codes) (sorted_set-sorted code_total code_exact (c.self.inside.codes.items ++ c.in-Some.code ∷ []));
      quads = subst (AllByRecursion (IsCode c.self.inside.terms)) (sym codes) (codes_added c.self.inside.terms c.self.inside.codes.items c.in-Some.code c.self.invariant.quads c.in-Some.ensures.some.0);
      same = subst (λ (codes : List Code). All (λ (run : Arranged). IsKept codes run) c.in_ok-runs.runs.items) c.as_slice-3.ensures.value c.in_ok-runs.ensures.codes;
    }

pub returns-clause-quads : goal.returns-clause-quads
returns-clause-quads c =
    ap (map (decode c.self.inside.terms)) (c.in_ok-codes.ensures ∙ ap (λ (codes : List Code). sorted_set code_cmp (codes ++ c.in-Some.code ∷ [])) c.as_slice.ensures.value)
    ∙ code_added c.self.inside.terms c.self.inside.codes.items c.in-Some.code c.args.quad.now c.self.invariant.dictionary c.self.invariant.quads c.self.invariant.ascending
    c.in-Some.ensures.some.0 c.in-Some.ensures.some.1
    ∙ ap (λ (view : Contents). insert_key quad_cmp view.quads c.args.quad.now) c.self.view_is
