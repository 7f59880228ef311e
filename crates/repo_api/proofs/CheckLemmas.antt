-- Checks, one after the other.
use Rattle.std.proofs.Common.{◌≡◌, ◌≢◌, IsErrAnd, Bool, Result, Ok, Err, refl, sym, ap, ◌∙◌, subst}
use Rattle.api_calls.specs.declared.fault.ApiFault.{ApiFault}
use Rattle.api_calls.specs.declared.fault.ApiFault.TheVariants as faults
use Rattle.repo_api.specs.Checks.{Then, passed, refused, Is, Passes, Gives}

-- a call that answers as what is next answers as both
pub passes : {A B : Type 0} (check : Result A ApiFault → Type 0) (next : A → Result B ApiFault → Type 0) (result : Result B ApiFault) (a : A)
    → check (Ok a) → Gives (next a) result → Gives (Then check next) result
passes check next (Ok b) a is then = passed a is then
passes check next (Err fault) a is then = λ never. passed a is (then never)

-- and so does a refusal of the first
pub refuses : {A B : Type 0} (check : Result A ApiFault → Type 0) (next : A → Result B ApiFault → Type 0) (fault : ApiFault)
    → (fault ≢ faults.Memory → check (Err fault)) → fault ≢ faults.Memory → Then check next (Err fault)
refuses check next fault is never = refused fault (is never) refl

-- what a check may answer is fixed
abbrev pub Once : {A : Type 0} → (Result A ApiFault → Type 0) → Type 0
Once {A} check = (x y : Result A ApiFault) → check x → check y → x ≡ y

same_ok : {A : Type 0} (a b : A) → ◌≡◌ {A = Result A ApiFault} (Ok a) (Ok b) → a ≡ b
same_ok a b e = cc

same_err : {A : Type 0} (f g : ApiFault) → ◌≡◌ {A = Result A ApiFault} (Err f) (Err g) → f ≡ g
same_err f g e = cc

not_both : {A : Type 0} (a : A) (f : ApiFault) → ◌≡◌ {A = Result A ApiFault} (Ok a) (Err f) → ⊥
not_both a f e = cc

pub once_then : {A B : Type 0} (check : Result A ApiFault → Type 0) (next : A → Result B ApiFault → Type 0)
    → Once check → ((a : A) → Once (next a)) → Once (Then check next)
once_then check next first more x y (passed a p q) (passed b r s) =
    more b x y (subst (λ a'. next a' x) (same_ok a b (first (Ok a) (Ok b) p r)) q) s
once_then check next first more x y (passed a p q) (refused f r e) = absurd (not_both a f (first (Ok a) (Err f) p r))
once_then check next first more x y (refused f p e) (passed b r s) = absurd (not_both b f (first (Ok b) (Err f) r p))
once_then check next first more x y (refused f p e) (refused g r d) = e ∙ ap Err (same_err f g (first (Err f) (Err g) p r)) ∙ sym d

pub once_is : {A : Type 0} (wanted : Result A ApiFault) → Once (Is wanted)
once_is wanted x y p q = p ∙ sym q

pub once_passes : (fault : ApiFault) (test : Bool) → Once (Passes fault test)
once_passes fault test x y p q = p ∙ sym q

-- a refusal of the first check that is handed on
pub exit : {A B : Type 0} (check : Result A ApiFault → Type 0) (next : A → Result B ApiFault → Type 0) (result : Result B ApiFault) (fault : ApiFault)
    → IsErrAnd result (λ other. other ≡ fault) → (fault ≢ faults.Memory → check (Err fault)) → Gives (Then check next) result
exit check next (Ok b) fault told is = absurd told
exit check next (Err other) fault told is = λ never. refused other (subst (λ f. check (Err f)) (sym told) (is (λ e. never (told ∙ e)))) refl
