-- The lines of a text (RDF 1.1 N-Triples, section 7, EOL): each ends at CR LF, at CR alone, at LF alone, or where the text ends.
use Rattle.std.specs.Prelude.{◌≡◌, ℕ, ◌⊎◌, IsTrue, codes, List, [], ◌∷◌, ◌++◌, Bool, false, ◌==◌, ◌&&◌, ◌||◌, not, if◌then◌else◌}
use Rattle.std.specs.List.{list_all}

-- CR or LF
abbrev pub is_end : ℕ → Bool
is_end b = b == 13 || b == 10

-- no byte is CR or LF
abbrev pub no_end : List ℕ → Bool
no_end bytes = list_all (λ b. not (is_end b)) bytes

-- the first byte is this one
abbrev pub begins_with : ℕ → List ℕ → Bool
begins_with c [] = false
begins_with c (b ∷ bs) = b == c

-- the lines of a text that have ended, and what stands after the last end
pub record Cut : Type 0 where
  pub ended : List (List ℕ)
  pub rest : List ℕ

-- puts a byte in front of the first line
abbrev pub in_front : ℕ → List (List ℕ) → List ℕ → Cut
in_front b [] rest = record { ended = []; rest = b ∷ rest }
in_front b (l ∷ ls) rest = record { ended = (b ∷ l) ∷ ls; rest = rest }

-- a CR before an LF ends no line, since the LF does; any other CR and each LF ends one
abbrev pub cut : List ℕ → Cut
cut [] = record { ended = []; rest = [] }
cut (b ∷ bs) =
    if b == 13 && begins_with 10 bs then cut bs
    else if is_end b then record { ended = [] ∷ (cut bs).ended; rest = (cut bs).rest }
    else in_front b (cut bs).ended (cut bs).rest

-- all lines of a text; the last one has no end, and may be empty
abbrev pub lines_of : List ℕ → List (List ℕ)
lines_of bytes = (cut bytes).ended ++ (cut bytes).rest ∷ []

-- an end of a line before this rest of a text: CR LF, LF, or a CR that no LF follows
abbrev pub IsLineEnd : List ℕ → List ℕ → Type 0
IsLineEnd end rest =
    (end ≡ codes "\r\n") ⊎ ((end ≡ codes "\n") ⊎ ((end ≡ codes "\r") × (begins_with 10 rest ≡ false)))

-- the text is these lines, which hold no end, and each but the last has an end after it
abbrev pub AreTextLines : List (List ℕ) → List ℕ → Type 0
AreTextLines [] text = ⊥
AreTextLines (line ∷ lines) text =
    IsTrue (no_end line) × (((text ≡ line) × (lines ≡ []))
    ⊎ ((end rest : List ℕ) × IsLineEnd end rest × (text ≡ line ++ (end ++ rest)) × AreTextLines lines rest))

-- the last byte is a CR, so that an LF after it ends no further line
abbrev pub ends_in_cr : List ℕ → Bool
ends_in_cr [] = false
ends_in_cr (b ∷ []) = b == 13
ends_in_cr (b ∷ c ∷ bs) = ends_in_cr (c ∷ bs)
