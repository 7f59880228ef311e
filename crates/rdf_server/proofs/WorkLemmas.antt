-- The doors, the names and the counts of `workload`.
use Rattle.std.proofs.Common.{◌≡◌, ℕ, suc, ◌+◌, List, [], ◌∷◌, ◌++◌, length, codes, decimal, sym, ap, ◌∙◌, subst, arith}
use Rattle.std.proofs.lemmas.Fmt.{decimal_injective}
use Rattle.rdf_io.specs.Memory.{DoorState}
use Rattle.rdf_server.specs.WorkDoors.{HasSession, HaveSessions}
use Rattle.rdf_server.specs.WorkWords.{AreNumbers, IsWorkload}
use Rattle.rdf_server.proofs.WordLemmas.{head_same, tail_same}

-- one more door
pub more_sessions : (k n rounds : ℕ) (ds : List DoorState) (d : DoorState) → n ≡ k + length ds → HaveSessions k rounds ds → HasSession n rounds d
    → HaveSessions k rounds (ds ++ d ∷ [])
more_sessions k n rounds [] d e h s =
    let same : n ≡ k = omega (arith, e) in
    (subst (λ (m : ℕ). HasSession m rounds d) same s, tt)
more_sessions k n rounds (x ∷ xs) d e h s =
    let same : n ≡ suc k + length xs = omega (arith, e) in
    (h.0, more_sessions (suc k) n rounds xs d same h.1 s)

-- Words

-- the words are none of the program where they are no words, where the first is another, or where the others are no such numbers
pub no_work : (words : List (List ℕ)) → length words ≡ 0 → (workers rounds : ℕ) → IsWorkload words workers rounds → ⊥
no_work words none workers rounds it =
    let n : length words ≡ suc (length it.behind) = ap length it.words_are in
    absurd (omega (arith, n, none))

pub other_work : (words behind : List (List ℕ)) (command : List ℕ) → words ≡ command ∷ behind → (command ≡ codes "workload" → ⊥) → (workers rounds : ℕ)
    → IsWorkload words workers rounds → ⊥
other_work words behind command e differs workers rounds it = differs (head_same _ _ _ _ (sym e ∙ it.words_are))

pub no_work_numbers : (words behind : List (List ℕ)) (command : List ℕ) → words ≡ command ∷ behind → ((workers rounds : ℕ) → AreNumbers behind workers rounds → ⊥)
    → (workers rounds : ℕ) → IsWorkload words workers rounds → ⊥
no_work_numbers words behind command e none workers rounds it =
    none workers rounds (subst (λ (x : List (List ℕ)). AreNumbers x workers rounds) (tail_same _ _ _ _ (sym it.words_are ∙ e)) it.numbers)

-- where there are two words, the first is the number of workers, and the second that of rounds
pub first_number : (words behind : List (List ℕ)) (first : List ℕ) → words ≡ first ∷ behind → (workers rounds : ℕ) → AreNumbers words workers rounds → first ≡ decimal workers
first_number words behind first e workers rounds it = head_same _ _ _ _ (sym e ∙ it.words_are)

pub second_number : (words behind rest : List (List ℕ)) (first second : List ℕ) → words ≡ first ∷ behind → behind ≡ second ∷ rest → (workers rounds : ℕ)
    → AreNumbers words workers rounds → second ≡ decimal rounds
second_number words behind rest first second e f workers rounds it = head_same _ _ _ _ (sym f ∙ tail_same _ _ _ _ (sym e ∙ it.words_are))

pub two_words : (words : List (List ℕ)) (workers rounds : ℕ) → AreNumbers words workers rounds → length words ≡ 2
two_words words workers rounds it = ap length it.words_are

-- words name one number of workers and one of rounds
pub one_work : (words : List (List ℕ)) (workers rounds workers' rounds' : ℕ) → IsWorkload words workers rounds → IsWorkload words workers' rounds'
    → (workers ≡ workers') × (rounds ≡ rounds')
one_work words workers rounds workers' rounds' one other =
    let behind : one.behind ≡ other.behind = tail_same (codes "workload") (codes "workload") one.behind other.behind (sym one.words_are ∙ other.words_are) in
    let both : decimal workers ∷ (decimal rounds ∷ []) ≡ decimal workers' ∷ (decimal rounds' ∷ []) =
    sym one.numbers.words_are ∙ behind ∙ other.numbers.words_are in
    let first = head_same (decimal workers) (decimal workers') (decimal rounds ∷ []) (decimal rounds' ∷ []) both in
    let rest = tail_same (decimal workers) (decimal workers') (decimal rounds ∷ []) (decimal rounds' ∷ []) both in
    let second = head_same (decimal rounds) (decimal rounds') [] [] rest in (
      decimal_injective workers workers' (omega (arith, one.numbers.few_workers)) (omega (arith, other.numbers.few_workers)) first,
      decimal_injective rounds rounds' (omega (arith, one.numbers.few_rounds)) (omega (arith, other.numbers.few_rounds)) second,
    )

-- what is said of the numbers that were read is said of each pair that the words name
pub for_words : (P : ℕ → ℕ → Type 0) (words : List (List ℕ)) (workers rounds workers' rounds' : ℕ) → IsWorkload words workers rounds
    → IsWorkload words workers' rounds' → P workers rounds → P workers' rounds'
for_words P words workers rounds workers' rounds' one other it =
    let same = one_work words workers rounds workers' rounds' one other in
    subst (λ (r : ℕ). P workers' r) same.1 (subst (λ (w : ℕ). P w rounds) same.0 it)
