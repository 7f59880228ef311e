-- What holds of parameters: they select one thing, or one of them is the first bad one.
use Rattle.std.specs.Prelude.{◌≡◌, ℕ, List}
use Rattle.rdf_term.specs.declared.graph.Graph.{Graph}
use Rattle.api_parts.specs.declared.selection.Selection.{Selection}
use Rattle.api_parts.specs.declared.selection.Parameter.{Parameter}
use Rattle.api_parts.specs.declared.selection.Parameter.TheVariants.{Context}
use Rattle.api_parts.specs.Selections.{IsContexts, IsSelection, IsFirstBad, IsBad}

-- what is selected is fixed
abbrev pub OneSelection : Type 0
OneSelection = (pairs : List (List ℕ × List ℕ)) (it other : Selection) → IsSelection pairs it → IsSelection pairs other → it ≡ other

-- so are the contexts
abbrev pub OneContexts : Type 0
OneContexts = (pairs : List (List ℕ × List ℕ)) (it other : List Graph) → IsContexts pairs it → IsContexts pairs other → it ≡ other

-- so is the first bad parameter
abbrev pub OneFirstBad : Type 0
OneFirstBad = (pairs : List (List ℕ × List ℕ)) (it other : Parameter) → IsFirstBad pairs it → IsFirstBad pairs other → it ≡ other

-- and it stands only where nothing is selected
abbrev pub BadOrSelection : Type 0
BadOrSelection = (pairs : List (List ℕ × List ℕ)) →
    ((it : Selection) (parameter : Parameter) → IsSelection pairs it → IsFirstBad pairs parameter → ⊥)
    × ((contexts : List Graph) → IsContexts pairs contexts → IsBad pairs Context → ⊥)
