use Rattle.std.proofs.Common.{◌≡◌, ◌++◌, [], ◌∷◌, refl, ap, ◌∙◌, sym, subst, ◌==◌, ◌&&◌, true, false, length}
use Rattle.std.proofs.lemmas.Result.{on_ok_weaker}
use Rattle.nquads.specs.State.{Reader, Stands, Feeds, FailsAt}
use Rattle.nquads.proofs.FeedLemmas.{feeds_skip, feeds_end, fails_end, both_err, unless, valid_none}
use Rattle.nquads.proofs.reader.LineReader.take_line.Goals as goal

pub returns-then-skips-clause-ok : goal.returns-then-skips-clause-ok
returns-then-skips-clause-ok c =
    let s = c.self.inside in
    let r : Reader = record { kind = s.kind; line = s.line.items; after_cr = s.after_cr; ended = s.ended; fault = s.fault } in
    let r' : Reader = record r { after_cr = c.args.end == 13 } in
    let skips : ((r.after_cr && (length c.args.line.now == 0)) && c.args.end == 10) ≡ true =
    ap (λ b. (r.after_cr && b) && c.args.end == 10) (sym c.is_empty.ensures) ∙ c.if-skips.true in
    λ kind taken. subst (λ v. Stands v kind taken → Feeds kind taken (c.args.line.now ++ c.args.end ∷ []) r' c.args.out.now c.args.out.now) c.self.view_is
    (λ s. feeds_skip kind taken c.args.line.now c.args.end r r' c.args.out.now s c.requires.line skips refl)

pub returns-clause-ok : goal.returns-clause-ok
returns-clause-ok c =
    let s = c.self.inside in
    let r : Reader = record { kind = s.kind; line = s.line.items; after_cr = s.after_cr; ended = s.ended; fault = s.fault } in
    let skips : ((r.after_cr && (length c.args.line.now == 0)) && c.args.end == 10) ≡ false =
    ap (λ b. (r.after_cr && b) && c.args.end == 10) (sym c.is_empty.ensures) ∙ c.if-skips.false in
    on_ok_weaker c.end_line.result
    (λ p. λ kind taken. subst (λ v. Stands v kind taken → Feeds kind taken (c.args.line.now ++ c.args.end ∷ []) c.end_line.new.self c.args.out.now c.end_line.new.out) c.self.view_is
    (λ s. feeds_end kind taken c.args.line.now c.args.end r c.end_line.new.self p.0 c.args.out.now c.end_line.new.out s c.requires.line c.requires.end skips p.1 p.2 p.4 p.3))
    c.end_line.ensures.ok

pub returns-clause-refused : goal.returns-clause-refused
returns-clause-refused c =
    let s = c.self.inside in
    let r : Reader = record { kind = s.kind; line = s.line.items; after_cr = s.after_cr; ended = s.ended; fault = s.fault } in
    let skips : ((r.after_cr && (length c.args.line.now == 0)) && c.args.end == 10) ≡ false =
    ap (λ b. (r.after_cr && b) && c.args.end == 10) (sym c.is_empty.ensures) ∙ c.if-skips.false in
    both_err c.end_line.result
    (λ fault h same. unless fault _ _
    (λ l. λ kind taken. subst (λ v. Stands v kind taken → FailsAt kind taken (c.args.line.now ++ c.args.end ∷ []) fault c.args.out.now c.end_line.new.out) c.self.view_is
    (λ s. fails_end kind taken c.args.line.now c.args.end fault r c.args.out.now c.end_line.new.out s c.requires.line c.requires.end skips l same)) h)
    c.end_line.ensures.refused c.end_line.ensures.unchanged

pub returns-then-skips-clause-valid : goal.returns-then-skips-clause-valid
returns-then-skips-clause-valid c = valid_none c.args.out.now c.args.out.now refl
