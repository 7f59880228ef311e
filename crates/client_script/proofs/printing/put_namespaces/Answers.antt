use Rattle.std.proofs.Common.{ℕ, List, ◌++◌, codes, length, refl, ap, ◌∙◌, subst}
use Rattle.std.specs.List.{flat_map}
use Rattle.rdf_term.specs.Writing.{Appends}
use Rattle.rdf_term.proofs.WritingLemmas.{then_appends}
use Rattle.client_script.specs.Printed.{count_line, namespace_line}
use Rattle.client_script.proofs.printing.put_namespaces.Goals as goal

pub returns : goal.returns
returns c =
    let mid = c.put_each_namespace.new.out.items in
    let new = c.put_count.new.out.items in
    then_appends c.put_count.result c.args.out.now.items mid new (flat_map namespace_line c.args.pairs.now)
    (count_line (codes "namespaces ") (length c.args.pairs.now)) _
    (c.in_ok-put_each_namespace.ensures ∙ ap (λ (ps : List (List ℕ × List ℕ)). c.args.out.now.items ++ flat_map namespace_line ps) c.as_slice.ensures)
    refl
    (subst (λ (n : ℕ). Appends c.put_count.result mid new (count_line (codes "namespaces ") n)) c.len.ensures c.put_count.ensures)
