use Rattle.std.proofs.Common.{◌≡◌, ℕ, List, ◌++◌, [], Option, Result, Ok, Err, IfErr, ap, sym, subst, arith, refl}
use Rattle.std.specs.Option.{option_to_list}
use Rattle.std.specs.Result.{IsErrAnd}
use Rattle.std.proofs.lemmas.Grind.{common_steps}
use Rattle.rdf_term.specs.Statement.{Statement}
use Rattle.nquads_line.specs.Grammar.{IsLine, IsShortQuad}
use Rattle.nquads_line.specs.declared.kind.Kind.{Kind}
use Rattle.nquads.specs.declared.fault.DataFault.{DataFault}
use Rattle.nquads.specs.Documents.{IsRefused, UnlessMemory, line_number}
use Rattle.nquads.specs.State.{Reader}
use Rattle.nquads.proofs.FeedLemmas.{end_whole}
use Rattle.nquads.proofs.reader.LineReader.end_line.Goals as goal

pub returns-then-is_empty-clause-ok : goal.returns-then-is_empty-clause-ok
returns-then-is_empty-clause-ok c =
    let s = c.self.inside in
    let r : Reader = record { kind = s.kind; line = s.line.items; after_cr = s.after_cr; ended = s.ended; fault = s.fault } in
    let r' : Reader = record r { ended = c.saturating_add-number.result } in
    let p = c.in_ok-append_line.ensures.ok in
    let nil : r.line ≡ [] = grind (arith, common_steps) in
    let number : c.saturating_add-number.result ≡ line_number r.ended = grind (arith, common_steps) in
    let line = c.args.line.now in
    let out = c.args.out.now in
    let out' = c.append_line.new.out in
    subst (λ (v : Reader). (x : Option Statement) × IsLine v.kind (v.line ++ line) x × IsShortQuad x × (out' ≡ out ++ option_to_list x)
    × (r' ≡ record v { line = []; ended = line_number v.ended })) c.self.view_is
    (end_whole r r' line c.saturating_add-number.result p.0 out out' nil p.1 p.2 p.3 number refl)

-- the answer of `?` says what the fault said
passed_on : (r : Result (Unit {0}) DataFault) (means : DataFault → Type 0) (fault : DataFault) → IsErrAnd r (λ x. x ≡ fault) → means fault → IfErr r means
passed_on (Ok it) means fault h m = tt
passed_on (Err it) means fault h m = subst means (sym h) m

-- a line is refused under its number
refused_at : (kind : Kind) (x y : List ℕ) (n m : ℕ) (fault : DataFault) → x ≡ y → n ≡ m
    → UnlessMemory fault (IsRefused kind x n fault) → UnlessMemory fault (IsRefused kind y m fault)
refused_at kind x y n m fault e d h =
    subst (λ (k : ℕ). UnlessMemory fault (IsRefused kind y k fault)) d (subst (λ (v : List ℕ). UnlessMemory fault (IsRefused kind v n fault)) e h)

pub returns-in_err-append_line-clause-refused : goal.returns-in_err-append_line-clause-refused
returns-in_err-append_line-clause-refused c =
    let s = c.self.inside in
    let r : Reader = record { kind = s.kind; line = s.line.items; after_cr = s.after_cr; ended = s.ended; fault = s.fault } in
    let nil : r.line ≡ [] = grind (arith, common_steps) in
    let number : c.saturating_add-number.result ≡ line_number r.ended = grind (arith, common_steps) in
    let line = c.args.line.now in
    let whole : line ≡ r.line ++ line = sym (ap (λ (x : List ℕ). x ++ line) nil) in
    let refused = refused_at r.kind line (r.line ++ line) c.saturating_add-number.result (line_number r.ended) c.in_err-append_line.field-0.0 whole number
    c.in_err-append_line.ensures.refused in
    passed_on c.from_residual.result (λ (fault : DataFault). UnlessMemory fault (IsRefused c.args.self.now.kind (c.args.self.now.line ++ line) (line_number c.args.self.now.ended) fault))
    c.in_err-append_line.field-0.0 c.from_residual.ensures.1
    (subst (λ (v : Reader). UnlessMemory c.in_err-append_line.field-0.0 (IsRefused v.kind (v.line ++ line) (line_number v.ended) c.in_err-append_line.field-0.0)) c.self.view_is refused)

pub returns-in_err-append_line-2-clause-refused : goal.returns-in_err-append_line-2-clause-refused
returns-in_err-append_line-2-clause-refused c =
    let s = c.self.inside in
    let r : Reader = record { kind = s.kind; line = s.line.items; after_cr = s.after_cr; ended = s.ended; fault = s.fault } in
    let number : c.saturating_add-number.result ≡ line_number r.ended = grind (arith, common_steps) in
    let line = c.args.line.now in
    let whole : c.as_slice-whole.result.now ≡ r.line ++ line = grind (arith, common_steps) in
    let refused = refused_at r.kind c.as_slice-whole.result.now (r.line ++ line) c.saturating_add-number.result (line_number r.ended) c.in_err-append_line-2.field-0.0 whole number
    c.in_err-append_line-2.ensures.refused in
    passed_on c.from_residual-in_err-append_line-2.result (λ (fault : DataFault). UnlessMemory fault (IsRefused c.args.self.now.kind (c.args.self.now.line ++ line) (line_number c.args.self.now.ended) fault))
    c.in_err-append_line-2.field-0.0 c.from_residual-in_err-append_line-2.ensures.1
    (subst (λ (v : Reader). UnlessMemory c.in_err-append_line-2.field-0.0 (IsRefused v.kind (v.line ++ line) (line_number v.ended) c.in_err-append_line-2.field-0.0)) c.self.view_is refused)

pub returns-clause-ok : goal.returns-clause-ok
returns-clause-ok c =
    let s = c.self.inside in
    let r : Reader = record { kind = s.kind; line = s.line.items; after_cr = s.after_cr; ended = s.ended; fault = s.fault } in
    let r' : Reader = record r { line = c.clear.new.self.items; ended = c.saturating_add-number.result } in
    let p = c.in_ok-append_line-2.ensures.ok in
    let line = c.args.line.now in
    let out = c.args.out.now in
    let out' = c.append_line-2.new.out in
    let whole : c.as_slice-whole.result.now ≡ r.line ++ line = grind (arith, common_steps) in
    let number : c.saturating_add-number.result ≡ line_number r.ended = grind (arith, common_steps) in
    let nil : c.clear.new.self.items ≡ [] = c.clear.ensures.items in
    subst (λ (v : Reader). (x : Option Statement) × IsLine v.kind (v.line ++ line) x × IsShortQuad x × (out' ≡ out ++ option_to_list x)
    × (r' ≡ record v { line = []; ended = line_number v.ended })) c.self.view_is
    (p.0, subst (λ (v : List ℕ). IsLine r.kind v p.0) whole p.1, p.2, p.3, λ i. record r { line = nil i; ended = number i })
