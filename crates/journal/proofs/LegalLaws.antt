-- Legal journals grow by legal entries.
use Rattle.std.proofs.Common.{◌≡◌, ℕ, zero, suc, ◌+◌, ◌<◌, ◌≤◌, Bool, true, false, List, [], ◌∷◌, ◌++◌, length, take, Some, refl, sym, ◌∙◌, ap, subst, arith, length-append, take_all, ltb-true, nat_lt}
use Rattle.std.specs.Prelude.{slice_get}
use Rattle.std.proofs.lemmas.List.{take-append-le}
use Rattle.std.proofs.lemmas.Bool.Decides.{nat_tests}
use Rattle.journal.specs.declared.entry.Entry.{Entry}
use Rattle.journal.specs.Legal.{IsLegal, IsLegalNext}
use Rattle.journal.specs.Laws.{LegalInTurn}
use Rattle.journal.proofs.Growth.{slice_get-append_left, slice_get-append_at}

-- where an entry stands at a place, the place is below the length
got_below : {A : Type 0} (xs : List A) (k : ℕ) (x : A) → slice_get xs k ≡ Some x → k < length xs
got_below [] k x e = cc
got_below (y ∷ ys) zero x e = omega arith
got_below (y ∷ ys) (suc k) x e = let h = got_below ys k x e in omega arith

none_legal : IsLegal []
none_legal place e got = cc

some_same : {A : Type 0} (x y : A) → Some x ≡ Some y → x ≡ y
some_same x y e = cc

legal_next : (J : List Entry) (e : Entry) → IsLegal J → IsLegalNext J e → IsLegal (J ++ e ∷ [])
legal_next J e legal next place x got = go (nat_lt place (length J)) refl
  where
    go : (b : Bool) → nat_lt place (length J) ≡ b → IsLegalNext (take place (J ++ e ∷ [])) x
    go true is =
        let lt : place < length J = ltb-true place (length J) is in
        subst (λ before. IsLegalNext before x) (sym (take-append-le place J (e ∷ []) (omega arith)))
        (legal place x (sym (slice_get-append_left J (e ∷ []) place lt) ∙ got))
    go false is =
        let below : place < length (J ++ e ∷ []) = got_below (J ++ e ∷ []) place x got in
        let longer : length (J ++ e ∷ []) ≡ length J + 1 = length-append J (e ∷ []) in
        let above : length J ≤ place = grind (arith, nat_tests) in
        let at : place ≡ length J = omega arith in
        let whole : take place (J ++ e ∷ []) ≡ J =
        ap (λ n. take n (J ++ e ∷ [])) at ∙ (take-append-le (length J) J (e ∷ []) (omega arith) ∙ take_all (length J) J (omega arith)) in
        let same : e ≡ x = some_same e x (sym (ap (λ n. slice_get (J ++ e ∷ []) n) at ∙ slice_get-append_at J e []) ∙ got) in
        subst (λ y. IsLegalNext (take place (J ++ e ∷ [])) y) same (subst (λ before. IsLegalNext before e) (sym whole) next)

legal_prefix : (J K : List Entry) → IsLegal (J ++ K) → IsLegal J
legal_prefix J K legal place e got =
    let lt : place < length J = got_below J place e got in
    subst (λ before. IsLegalNext before e) (take-append-le place J K (omega arith))
    (legal place e (slice_get-append_left J K place lt ∙ got))

pub legal_in_turn : LegalInTurn
legal_in_turn = record { empty = none_legal; next = legal_next; prefix = legal_prefix }
