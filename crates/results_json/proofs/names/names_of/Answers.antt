use Rattle.std.proofs.Common.{◌≡◌, ℕ, ◌≤◌, List, Bool, true, false, Option, Some, None, option_map, Bor, length, refl, sym, ap, ◌∙◌, arith, map, true≢false}
use Rattle.std.specs.Prelude.{not}
use Rattle.std.proofs.lemmas.List.{take_all}
use Rattle.serde_json.specs.View.{view}
use Rattle.results_json.specs.Tables.{text_value, is_name}
use Rattle.results_json.specs.Columns.{has_text}
use Rattle.results_json.proofs.NameLemmas.{no_text_at, repeated, not_contained, names_more, same_set, length_map}
use Rattle.results_json.proofs.names.names_of.Goals as goal

no_text : (o : Option (Bor (List ℕ))) → ((x : Bor (List ℕ)) → o ≡ Some x → ⊥) → option_map (λ s. s.now) o ≡ None
no_text None h = refl
no_text (Some x) h = absurd (h x refl)

was_there : (b : Bool) → false ≡ not b → b ≡ true
was_there true e = refl
was_there false e = absurd (true≢false (sym e))

was_new : (b : Bool) → true ≡ not b → b ≡ false
was_new true e = absurd (true≢false e)
was_new false e = refl

pub returns-in_default : goal.returns-in_default
returns-in_default c = λ names all once.
    no_text_at c.args.vars.now c.loop-var.var-index c.var-item.result names (omega arith) c.var-item.is
    (sym c.as_str.ensures ∙ no_text c.as_str.result c.in_default.not-Some) all

pub returns-then-not-branch : goal.returns-then-not-branch
returns-then-not-branch c = λ names all once.
    repeated c.args.vars.now c.loop-var.var-index c.var-item.result c.in-Some.name.now c.loop-var.names names (omega arith) c.var-item.is
    (sym c.as_str.ensures ∙ ap (option_map (λ s. s.now)) c.in-Some.is) c.loop-var.invariant.0
    (sym (c.loop-var.invariant.1 c.in-Some.name.now) ∙ was_there (has_text c.loop-var.set c.in-Some.name.now) (sym c.if-not-branch.true ∙ c.in_ok-insert.ensures.added)) all once

pub push-requires : goal.push-requires
push-requires c = not_contained c.loop-var.names c.in_ok-from_chars.field-0
    (ap (is_name c.loop-var.names) c.in_ok-from_chars.ensures ∙ sym (c.loop-var.invariant.1 c.in-Some.name.now)
    ∙ was_new (has_text c.loop-var.set c.in-Some.name.now) (sym c.if-not-branch.false ∙ c.in_ok-insert.ensures.added))

pub loop-var-preserved : goal.loop-var-preserved
loop-var-preserved c =
    let n = c.in_ok-from_chars.field-0 in
    let grown = c.in_ok-push.ensures.ok in (
      names_more c.args.vars.now c.loop-var.var-index c.var-item.result c.loop-var.names n c.in-Some.name.now (omega arith) c.var-item.is
          (sym c.as_str.ensures ∙ ap (option_map (λ s. s.now)) c.in-Some.is) c.in_ok-from_chars.ensures c.loop-var.invariant.0 ∙ ap (map text_value) (sym grown),
      λ q. same_set c.loop-var.set.keys c.insert.new.self.keys c.in-Some.name c.loop-var.names n q c.in_ok-insert.ensures.keys c.in_ok-from_chars.ensures (c.loop-var.invariant.1 q)
          ∙ ap (λ names. is_name names q) (sym grown),
    )

pub returns : goal.returns
returns c =
    let all : length (map view c.args.vars.now) ≤ c.loop-var.var-index = omega (arith, length_map c.args.vars.now) in
    (sym (take_all c.loop-var.var-index (map view c.args.vars.now) all) ∙ c.loop-var.invariant.0, c.loop-var.invariant.1)
