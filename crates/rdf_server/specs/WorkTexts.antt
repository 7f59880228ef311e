-- The repositories of `workload`, and what it prints of them.
use Rattle.std.specs.Prelude.{ℕ, zero, suc, List, [], ◌∷◌, ◌++◌, codes, decimal, encode_utf8_all}
use Rattle.worker_pool.specs.declared.house_end.RepoCount.{RepoCount}

-- Repositories

-- one for each worker, by its number from 0 on
abbrev pub own_names : ℕ → List (List ℕ)
own_names zero = []
own_names (suc n) = own_names n ++ (codes "w" ++ decimal n) ∷ []

-- and one for all
abbrev pub work_names : ℕ → List (List ℕ)
work_names workers = own_names workers ++ codes "all" ∷ []

-- Text

-- the line of a repository, with its name in UTF-8
abbrev pub count_line : List ℕ → RepoCount → List ℕ
count_line name count = encode_utf8_all name ++ codes " quads " ++ decimal count.quads ++ codes " commits " ++ decimal count.commits ++ codes " entries " ++ decimal count.entries ++ codes "\n"

-- the lines of repositories, in order
abbrev pub count_lines : List (List ℕ) → List RepoCount → List ℕ
count_lines [] counts = []
count_lines (name ∷ names) [] = []
count_lines (name ∷ names) (count ∷ counts) = count_line name count ++ count_lines names counts

-- what the program prints: the lines of the workers' repositories and of the one for all, which hold so much
abbrev pub summary : ℕ → List RepoCount → List ℕ
summary workers counts = count_lines (work_names workers) counts
