use Rattle.std.proofs.Common.{◌∷◌, true≢false, ap, sym, subst, ◌∙◌, List}
use Rattle.session.specs.Houses.{AreNames}
use Rattle.rdf_server.specs.declared.serve_option.ServeOption.{ServeOption}
use Rattle.rdf_server.specs.Readings.{AreOnce}
use Rattle.rdf_server.specs.ServeWords.{kind_of, kind_word, value_word}
use Rattle.rdf_server.proofs.ServeLemmas.{once_behind, read_none, read_some, same_read}
use Rattle.rdf_server.proofs.serve_words.+read_options.Goals as goal

pub returns-else-are_names-clause-none : goal.returns-else-are_names-clause-none
returns-else-are_names-clause-none t c = λ options ids read once.
    let it = read_none c.args.words.now options ids read c.in_default.ensures.none in
    true≢false (sym (c.are_names.ensures.1 (subst AreNames (sym it.1) read.names)) ∙ c.if-are_names.false)

pub returns-in_default-read_options-clause-none : goal.returns-in_default-read_options-clause-none
returns-in_default-read_options-clause-none t c = λ options ids read once.
    let s = c.in-Some.ensures.some in
    let e = s.1.1 ∙ ap (λ x. kind_word (kind_of c.in-Some.option) ∷ (value_word c.in-Some.option ∷ x)) (sym (c.past_option-behind.ensures.value _ _ s.1.0 s.1.1)) in
    let b = read_some c.args.words.now options ids c.in-Some.option c.past_option-behind.result.now read s.0 e in
    c.in_default-read_options.ensures.none b.later ids b.read (once_behind c.in-Some.option b.later (subst AreOnce b.options_are once))

pub returns-in-None-clause-none : goal.returns-in-None-clause-none
returns-in-None-clause-none t c = λ options ids read once.
    let s = c.in-Some.ensures.some in
    let e = s.1.1 ∙ ap (λ x. kind_word (kind_of c.in-Some.option) ∷ (value_word c.in-Some.option ∷ x)) (sym (c.past_option-behind.ensures.value _ _ s.1.0 s.1.1)) in
    let b = read_some c.args.words.now options ids c.in-Some.option c.past_option-behind.result.now read s.0 e in
    let r = c.in-Some-read_options.ensures.some in
    let same = same_read c.past_option-behind.result.now b.later r.0 ids c.in-Some-read_options.ids.now b.read r.1 in
    let whole = b.options_are ∙ ap (λ (x : List ServeOption). c.in-Some.option ∷ x) same.0 in
    c.in-None.ensures.none r.0 c.in-Some-read_options.ids.now r.1 r.3 (subst AreOnce whole once)
