-- Two tokens with one slot say the same where a token stands for a slot.
use Rattle.std.proofs.Common.{◌≡◌, refl, ◌∙◌, ap, true, false, ◌&&◌, ◌∷◌, [], ◌++◌, if◌then◌else◌, ◌==◌, Bool, Option, Some, length}
use Rattle.query_tokens.specs.declared.token.Token.{Token}
use Rattle.query_model.specs.declared.query.Slot.{Slot}
use Rattle.query_model.specs.declared.query.Scope.TheVariants as scope
use Rattle.query_grammar.specs.declared.fault.Kind.{Kind}
use Rattle.query_grammar.specs.declared.fault.Kind.TheVariants as fault
use Rattle.query_grammar.specs.declared.mode.Role.{Role}
use Rattle.query_grammar.specs.declared.mode.Role.TheVariants as role
use Rattle.query_grammar.specs.declared.built.Built.{Built}
use Rattle.query_grammar.specs.Classes.{is_label}
use Rattle.query_grammar.specs.Values.{part_refusal, slot_of, with_type}
use Rattle.query_grammar.specs.Built.{add, change_last, is_slot_role, is_template, object_typed, refusal, slot_refusal}

same_slot_refusal : (b : Built) (t u : Token) → part_refusal b.prefixes t ≡ part_refusal b.prefixes u → is_label t ≡ is_label u → slot_refusal b t ≡ slot_refusal b u
unfolding slot_refusal
same_slot_refusal b t u p l =
    ap (λ (x : Bool). if is_template b.form && x then Some fault.Unsupported else part_refusal b.prefixes t) l
    ∙ ap (λ (o : Option Kind). if is_template b.form && is_label u then Some fault.Unsupported else o) p

pub same_refusal : (b : Built) (r : Role) (t u : Token) → is_slot_role r ≡ true → part_refusal b.prefixes t ≡ part_refusal b.prefixes u → is_label t ≡ is_label u
    → refusal b r t ≡ refusal b r u
unfolding refusal
same_refusal b role.Subject t u h p l = same_slot_refusal b t u p l
same_refusal b role.Object t u h p l = ap (λ (o : Option Kind). if length b.patterns == 256 then Some fault.Unsupported else o) (same_slot_refusal b t u p l)
same_refusal b role.SubjectType t u h p l = p
same_refusal b role.Verb t u h p l = p
same_refusal b role.ObjectType t u h p l = p
same_refusal b role.GraphName t u h p l = p
same_refusal b r t u h p l = cc

pub same_add : (b : Built) (r : Role) (t u : Token) → is_slot_role r ≡ true → slot_of b.prefixes t ≡ slot_of b.prefixes u → add b r t ≡ add b r u
unfolding add
same_add b role.Subject t u h e = ap (λ (s : Slot). record b { subject = s }) e
same_add b role.SubjectType t u h e = ap (λ (s : Slot). record b { subject = with_type b.subject s }) e
same_add b role.Verb t u h e = ap (λ (s : Slot). record b { verb = s }) e
same_add b role.Object t u h e = ap (λ (s : Slot). record b { patterns = b.patterns ++ record { s = b.subject; p = b.verb; o = s; g = b.scope } ∷ [] }) e
same_add b role.ObjectType t u h e = ap (λ (s : Slot). record b { patterns = change_last (object_typed s) b.patterns }) e
same_add b role.GraphName t u h e = ap (λ (s : Slot). record b { scope = scope.Graph s }) e
same_add b r t u h e = cc
