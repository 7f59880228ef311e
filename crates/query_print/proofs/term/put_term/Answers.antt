use Rattle.std.proofs.Common.{◌≡◌, ℕ, List, ◌++◌, ap, ◌∙◌, append_assoc, codes}
use Rattle.std.specs.Str.{chars}
use Rattle.rdf_term.specs.Canonical.{quoted}
use Rattle.query_print.proofs.PutLemmas.{both_put, put_last}
use Rattle.query_print.proofs.WordLemmas.{label_mark, carets}
use Rattle.query_print.proofs.term.put_term.Goals as goal

pub returns-in_ok-append-in-Blank : goal.returns-in_ok-append-in-Blank
returns-in_ok-append-in-Blank c =
    rw c.in-Blank.is (put_last c.put_text.result c.args.out.now c.put_text.new.out (chars (codes "_:")) c.in-Blank.label c.in_ok-append-in-Blank.ensures.ok
    (ap (λ v. v ++ c.in-Blank.label) label_mark) c.put_text.ensures)

regroup : (q d : List ℕ) → (q ++ codes "^^") ++ (codes "<" ++ d ++ codes ">") ≡ q ++ codes "^^<" ++ d ++ codes ">"
regroup q d = simp append_assoc

pub returns-in_ok-append-in-Typed : goal.returns-in_ok-append-in-Typed
returns-in_ok-append-in-Typed c =
    let old = c.args.out.now in
    let q = quoted c.in-Typed.text in
    let d = c.in-Typed.datatype in
    let iri = codes "<" ++ d ++ codes ">" in
    rw c.in-Typed.is (put_last c.put_iri-in-Typed.result old c.put_iri-in-Typed.new.out (q ++ chars (codes "^^")) iri
    (both_put old q (chars (codes "^^")) c.in_ok-put_quoted-in-Typed.ensures c.in_ok-append-in-Typed.ensures.ok)
    (ap (λ v. (q ++ v) ++ iri) carets ∙ regroup q d) c.put_iri-in-Typed.ensures)
