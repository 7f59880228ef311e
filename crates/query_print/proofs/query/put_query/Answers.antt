use Rattle.std.proofs.Common.{◌∷◌, ◌++◌, refl, codes}
use Rattle.query_print.specs.Printed.{distinct_words, projection_words, group_words, cut_words, spaced}
use Rattle.query_print.proofs.PutLemmas.{put_as, put_last, put_more, last_more}
use Rattle.query_print.proofs.WordLemmas.{select_word, ask_word, construct_word}
use Rattle.query_print.proofs.query.put_query.Goals as goal

pub returns-in_ok-put_where-in-Select : goal.returns-in_ok-put_where-in-Select
returns-in_ok-put_where-in-Select c =
    let old = c.args.out.now in
    let out = c.append.new.self in
    let d = distinct_words c.in-Select.distinct in
    let v = projection_words c.in-Select.vars in
    let w = codes "WHERE" ∷ group_words c.in-Select.group in
    let named = put_more out d v c.in_ok-put_distinct-in-Select.ensures (rw c.as_slice.ensures.value at c.in_ok-put_projection-in-Select.ensures) in
    let grouped = put_more out (d ++ v) w named (rw c.as_slice-in-Select.ensures at c.in_ok-put_where-in-Select.ensures) in
    rw c.in-Select.is (put_last c.put_cut.result old c.put_cut.new.out (codes "SELECT") (spaced (d ++ v ++ w ++ cut_words c.in-Select.cut))
    (put_as old (codes "SELECT") select_word c.in_ok-append-in-Select.ensures.ok) refl
    (last_more c.put_cut.result out c.put_cut.new.out (d ++ v ++ w) (cut_words c.in-Select.cut) grouped c.put_cut.ensures))

pub returns-in_ok-append-in-Ask : goal.returns-in_ok-append-in-Ask
returns-in_ok-append-in-Ask c =
    let old = c.args.out.now in
    let w = codes "WHERE" ∷ group_words c.in-Ask.group in
    rw c.in-Ask.is (put_last c.put_where-in-Ask.result old c.put_where-in-Ask.new.out (codes "ASK") (spaced w)
    (put_as old (codes "ASK") ask_word c.in_ok-append-in-Ask.ensures.ok) refl (rw c.as_slice-in-Ask.ensures at c.put_where-in-Ask.ensures))

pub returns-in_ok-put_where-in-Construct : goal.returns-in_ok-put_where-in-Construct
returns-in_ok-put_where-in-Construct c =
    let old = c.args.out.now in
    let out = c.append-in-Construct.new.self in
    let t = group_words c.in-Construct.template in
    let w = codes "WHERE" ∷ group_words c.in-Construct.group in
    let cut = cut_words c.in-Construct.cut in
    let grouped = put_more out t w (rw c.as_slice-in-Construct.ensures at c.in_ok-put_group-in-Construct.ensures)
    (rw c.as_slice-in-Construct-2.ensures at c.in_ok-put_where-in-Construct.ensures) in
    rw c.in-Construct.is (put_last c.put_cut-in-Construct.result old c.put_cut-in-Construct.new.out (codes "CONSTRUCT") (spaced (t ++ w ++ cut))
    (put_as old (codes "CONSTRUCT") construct_word c.in_ok-append-in-Construct.ensures.ok) refl
    (last_more c.put_cut-in-Construct.result out c.put_cut-in-Construct.new.out (t ++ w) cut grouped c.put_cut-in-Construct.ensures))
