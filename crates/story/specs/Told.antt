-- The list that a link of a story stands for: that of the story before it, with its entry at the end.
use Rattle.std.specs.Prelude.{List, [], ◌∷◌, ◌++◌}
use Rattle.story.specs.declared.Link.{Link}
use Rattle.story.specs.declared.Link.TheVariants.{Nothing, After}

abbrev pub told : {E : Type 0} → Link E → List E
told Nothing = []
told (After old e) = old.value ++ e.value ∷ []
