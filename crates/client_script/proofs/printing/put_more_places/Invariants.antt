use Rattle.std.proofs.Common.{◌≡◌, ◌++◌, take, codes}
use Rattle.std.specs.List.{flat_map}
use Rattle.client_script.specs.Printed.{place_text}
use Rattle.client_script.proofs.printing.put_more_places.Given as goal

abbrev pub invariant-loop-place : goal.invariant-loop-place
invariant-loop-place l = l.out.items ≡ l.fn.out.items ++ flat_map (λ place. codes "\t" ++ place_text place) (take l.place-index l.places)
