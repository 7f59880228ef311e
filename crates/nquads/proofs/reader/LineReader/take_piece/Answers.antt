use Rattle.std.proofs.Common.{◌≡◌, ◌++◌, [], ◌∷◌, refl, ap, ◌∙◌, sym, subst, append_assoc}
use Rattle.std.proofs.lemmas.Result.{on_ok_weaker}
use Rattle.nquads.specs.State.{Feeds, FailsAt, Stops}
use Rattle.nquads.proofs.FeedLemmas.{feeds_none, feeds_keep, feeds_more, fails_more, stops_more, always_err, unless, valid_none, valid_more}
use Rattle.nquads.proofs.reader.LineReader.take_piece.Goals as goal

pub returns-in-Err-clause-refused : goal.returns-in-Err-clause-refused
returns-in-Err-clause-refused c =
    let i = c.loop-line.invariant in
    let part = c.in-Some.line.now ++ c.in-Some.end ∷ [] in
    let after = c.in-Some.after.now in
    let fault = c.in-Err.fault in
    let same : i.0 ++ (part ++ after) ≡ c.args.piece.now =
    ap (λ v. i.0 ++ v) (append_assoc c.in-Some.line.now (c.in-Some.end ∷ []) after ∙ sym c.in-Some.ensures.found.0) ∙ i.1 in
    unless fault _ _ (λ l. λ kind taken s. let f = i.2 kind taken s in
    subst (λ v. FailsAt kind taken v fault c.args.out.now c.take_line.new.out) same
    (fails_more kind taken i.0 part after fault c.loop-line.self c.args.out.now c.loop-line.out c.take_line.new.out f (l kind (taken ++ i.0) f.stands)))
    c.in-Err.ensures.refused

pub returns-in-Err-clause-prefix : goal.returns-in-Err-clause-prefix
returns-in-Err-clause-prefix c =
    let i = c.loop-line.invariant in
    λ kind taken s.
    subst (λ v. Stops kind taken v c.args.out.now c.take_line.new.out) i.1
    (stops_more kind taken i.0 c.loop-line.rest.now c.loop-line.self c.args.out.now c.loop-line.out c.take_line.new.out (i.2 kind taken s) c.in-Err.ensures.unchanged)

pub loop-line-preserved : goal.loop-line-preserved
loop-line-preserved c =
    let i = c.loop-line.invariant in
    let part = c.in-Some.line.now ++ c.in-Some.end ∷ [] in
    let after = c.in-Some.after.now in
    let same : (i.0 ++ part) ++ after ≡ c.args.piece.now =
    append_assoc i.0 part after
    ∙ ap (λ v. i.0 ++ v) (append_assoc c.in-Some.line.now (c.in-Some.end ∷ []) after ∙ sym c.in-Some.ensures.found.0) ∙ i.1 in (
      i.0 ++ part,
      same,
      λ kind taken s. let f = i.2 kind taken s in
          feeds_more kind taken i.0 part c.loop-line.self c.take_line.new.self c.args.out.now c.loop-line.out c.take_line.new.out f
          (c.in_default-take_line.ensures.ok kind (taken ++ i.0) f.stands),
      valid_more c.args.out.now c.loop-line.out c.take_line.new.out i.3 c.take_line.ensures.valid,
    )

pub returns-clause-ok : goal.returns-clause-ok
returns-clause-ok c =
    let i = c.loop-line.invariant in
    on_ok_weaker c.keep.result (λ e. λ kind taken s. let f = i.2 kind taken s in
    subst (λ v. Feeds kind taken v c.keep.new.self c.args.out.now c.loop-line.out) i.1
    (feeds_more kind taken i.0 c.loop-line.rest.now c.loop-line.self c.keep.new.self c.args.out.now c.loop-line.out c.loop-line.out f
    (feeds_keep kind (taken ++ i.0) c.loop-line.rest.now c.loop-line.self c.keep.new.self c.loop-line.out f.stands (c.in_default.ensures.none refl) e)))
    c.keep.ensures.ok

pub returns-clause-prefix : goal.returns-clause-prefix
returns-clause-prefix c =
    let i = c.loop-line.invariant in
    always_err c.keep.result (λ kind taken s.
    subst (λ v. Stops kind taken v c.args.out.now c.loop-line.out) i.1
    (stops_more kind taken i.0 c.loop-line.rest.now c.loop-line.self c.args.out.now c.loop-line.out c.loop-line.out (i.2 kind taken s) refl))

pub returns-in-Err-clause-valid : goal.returns-in-Err-clause-valid
returns-in-Err-clause-valid c =
    valid_more c.args.out.now c.loop-line.out c.take_line.new.out c.loop-line.invariant.3 c.take_line.ensures.valid

pub returns-clause-valid : goal.returns-clause-valid
returns-clause-valid c = c.loop-line.invariant.3

pub loop-line-init : goal.loop-line-init
loop-line-init c =
    ([], refl, λ kind taken s. feeds_none kind taken c.args.self.now c.args.out.now s, valid_none c.args.out.now c.args.out.now refl)
