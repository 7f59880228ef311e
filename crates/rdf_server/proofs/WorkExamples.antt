-- Worked cases of `workload`, by computation.
use Rattle.std.proofs.Common.{◌≡◌, [], ◌∷◌, refl, codes}
use Rattle.std.specs.Fmt.{digits}
use Rattle.rdf_server.specs.WorkTexts.{summary, work_names}

names : work_names 2 ≡ codes "w0" ∷ (codes "w1" ∷ (codes "all" ∷ []))
unfolding digits
names = refl

two_workers : summary 2 (record { quads = 100; commits = 100; entries = 300 } ∷ (record { quads = 99; commits = 98; entries = 297 }
    ∷ (record { quads = 150; commits = 0; entries = 250 } ∷ []))) ≡ codes "w0 quads 100 commits 100 entries 300\nw1 quads 99 commits 98 entries 297\nall quads 150 commits 0 entries 250\n"
unfolding lib.Utf8.encode digits
two_workers = refl
