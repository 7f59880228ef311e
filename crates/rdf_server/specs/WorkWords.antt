-- The words of `workload`, each as the list of its characters.
use Rattle.std.specs.Prelude.{◌≡◌, ℕ, ◌≤◌, List, [], ◌∷◌, codes, decimal}

-- The words are a number of workers from 1 to 15 and a number of rounds from 1 to 10,000, in decimal without leading zeros.
pub record AreNumbers (words : List (List ℕ)) (workers rounds : ℕ) : Type 0 where
  pub words_are : words ≡ decimal workers ∷ (decimal rounds ∷ [])
  pub some_workers : 1 ≤ workers
  pub few_workers : workers ≤ 15
  pub some_rounds : 1 ≤ rounds
  pub few_rounds : rounds ≤ 10000

-- the words are `workload` and two such numbers
pub record IsWorkload (words : List (List ℕ)) (workers rounds : ℕ) : Type 0 where
  pub behind : List (List ℕ)
  pub words_are : words ≡ codes "workload" ∷ behind
  pub numbers : AreNumbers behind workers rounds
