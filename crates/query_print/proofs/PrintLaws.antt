-- What is printed of a well-formed query is read again.
use Rattle.std.proofs.Common.{◌≡◌, ℕ, Bool, true, false, List, [], ◌∷◌, refl, ◌∙◌, sym, ap, subst, length, arith, encode_utf8_all}
use Rattle.std.specs.Str.{chars}
use Rattle.std.proofs.lemmas.Str.{chars-encodes}
use Rattle.query_tokens.specs.Laws.{PartedTokens}
use Rattle.query_model.specs.declared.query.TriplePattern.{TriplePattern}
use Rattle.query_model.specs.declared.query.Query.{Query}
use Rattle.query_model.specs.declared.query.Query.TheVariants as query
use Rattle.query_grammar.specs.Grammar.{said}
use Rattle.query_grammar.specs.Meaning.{query_in, is_distinct, projected_in, group_in, cut_in}
use Rattle.query_grammar.specs.Queries.{IsQuery, tokens}
use Rattle.query_grammar.specs.QueryText.{AreTokensOf}
use Rattle.query_print.specs.Printed.{printed}
use Rattle.query_model.specs.WellFormed.{AreProjected, IsWellFormed}
use Rattle.query_print.specs.Laws.{ParsedAreWellFormed, PrintedAreReadAgain, WellFormedWhereRead}
use Rattle.query_print.proofs.Trees.{group_tree, cut_tree, modifier_tree, projection_tree, query_tree, group_means, template_means, cut_means}
use Rattle.query_print.proofs.Fine.{query_fine}
use Rattle.query_print.proofs.Joined.{query_says}
use Rattle.query_print.proofs.NameLemmas.{firsts-once, none_stands}
use Rattle.query_print.proofs.Scalars.{printed_scalars}

distinct_means : (d : Bool) → is_distinct (modifier_tree d) ≡ d
distinct_means true = refl
distinct_means false = refl

projection_means : (vs : List (List ℕ)) (g : List TriplePattern) → AreProjected vs g → projected_in (projection_tree vs) g ≡ vs
projection_means [] g h = none_stands g (h.none refl)
projection_means (v ∷ vs) g h = firsts-once (v ∷ vs) h.once

-- the tree of a well-formed query is that query
query_means : (q : Query) → IsWellFormed q → query_in (query_tree q) ≡ q
query_means (query.Select d vs g c) h =
    let tree = group_tree g in
    ap (λ e. query.Select e (projected_in (projection_tree vs) (group_in [] tree)) (group_in [] tree) (cut_in (cut_tree c))) (distinct_means d)
    ∙ ap (λ x. query.Select d (projected_in (projection_tree vs) x) x (cut_in (cut_tree c))) (group_means g h.1.each)
    ∙ ap (λ x. query.Select d x g (cut_in (cut_tree c))) (projection_means vs g h.0)
    ∙ ap (query.Select d vs g) (cut_means c h.2)
query_means (query.Ask g) h = ap query.Ask (group_means g h.each)
query_means (query.Construct t g c) h =
    ap (λ x. query.Construct x (group_in [] (group_tree g)) (cut_in (cut_tree c))) (template_means t h.0.each)
    ∙ ap (λ x. query.Construct t x (cut_in (cut_tree c))) (group_means g h.1.each)
    ∙ ap (query.Construct t g) (cut_means c h.2)

pub printed_again : PartedTokens → PrintedAreReadAgain
printed_again parted = λ q h.
    let text = encode_utf8_all (printed q) in
    let w = query_says parted q h (length text) (omega arith) in
    let same : chars text ≡ printed q = chars-encodes (printed q) (printed_scalars q h) in
    let are : AreTokensOf text w.0 = rw same w.1 in
    let is_query : IsQuery (tokens (said (query_tree q))) q = record { tree = query_tree q; is = refl; fine = query_fine q h; query = sym (query_means q h) } in
    record { tokens = w.0; are = are; query = subst (λ ts. IsQuery ts q) (sym w.2) is_query }

pub where_read : PartedTokens → ParsedAreWellFormed → WellFormedWhereRead
where_read parted known = λ q. (
  λ h. (encode_utf8_all (printed q), (printed q, (printed_scalars q h, refl)), printed_again parted q h),
  λ w. known w.0 q w.1 w.2,
)
