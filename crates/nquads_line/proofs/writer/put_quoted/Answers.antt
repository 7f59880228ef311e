use Rattle.std.proofs.Common.{◌≡◌, ◌++◌, sym, ◌∙◌, ap, codes, encode_utf8_all, append_assoc}
use Rattle.std.specs.List.{flat_map}
use Rattle.rdf_term.specs.Canonical.{escaped}
use Rattle.rdf_term.proofs.WritingLemmas.{then_appends, appends_of}
use Rattle.nquads_line.proofs.WriteLemmas.{quoted_bytes}
use Rattle.nquads_line.proofs.writer.put_quoted.Goals as goal

pub returns : goal.returns
returns c =
    let text = encode_utf8_all c.args.text.now in
    let read : c.as_bytes.result.now ≡ text = c.as_bytes.ensures.value ∙ c.as_str.ensures in
    let mid : c.put_escaped.new.out.items ≡ c.args.out.now.items ++ (codes "\"" ++ flat_map escaped text) =
    c.in_ok-put_escaped.ensures ∙ ap (λ v. c.append.new.self.items ++ flat_map escaped v) read
    ∙ ap (λ v. v ++ flat_map escaped text) c.in_ok-append.ensures.ok ∙ append_assoc c.args.out.now.items (codes "\"") (flat_map escaped text) in
    then_appends c.append-2.result c.args.out.now.items c.put_escaped.new.out.items c.append-2.new.self.items _ (codes "\"") _
    mid (sym (quoted_bytes c.args.text.now))
    (appends_of c.append-2.result c.put_escaped.new.out.items c.append-2.new.self.items (codes "\"") c.append-2.ensures.ok c.append-2.ensures.memory)
