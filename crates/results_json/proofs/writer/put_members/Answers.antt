use Rattle.std.proofs.Common.{[], ◌∷◌, ◌++◌, ap, sym, ◌∙◌, append_assoc, codes}
use Rattle.std.proofs.lemmas.Result.{on_ok_weaker}
use Rattle.json.specs.Token.{key, string}
use Rattle.results_json.specs.Tables.{term_members, typed_members}
use Rattle.serde_json.specs.Data.{no_members}
use Rattle.results_json.specs.Columns.{open_tokens}
use Rattle.results_json.proofs.writer.put_members.Goals as goal

pub returns-in_ok-put_type-in-Tagged-clause-tokens : goal.returns-in_ok-put_type-in-Tagged-clause-tokens
returns-in_ok-put_type-in-Tagged-clause-tokens c =
    let out = c.args.out.now.tokens in
    let front = open_tokens (typed_members (codes "literal") c.in-Tagged.text no_members) in
    on_ok_weaker c.put_text.result (λ e.
    e ∙ ap (λ ts. ts ++ key (codes "xml:lang") ∷ string c.as_str.result.now ∷ []) c.in_ok-put_type-in-Tagged.ensures.tokens
    ∙ append_assoc out front (key (codes "xml:lang") ∷ string c.as_str.result.now ∷ [])
    ∙ ap (λ s. out ++ (front ++ key (codes "xml:lang") ∷ string s ∷ [])) c.as_str.ensures
    ∙ ap (λ t. out ++ open_tokens (term_members t)) (sym c.in-Tagged.is)) c.put_text.ensures.tokens
