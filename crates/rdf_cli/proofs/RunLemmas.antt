-- A run on a link of a dial.
use Rattle.std.proofs.Common.{◌≡◌, ◌∙◌, ℕ, List, [], Option, Some}
use Rattle.rdf_io.specs.Doors.{GivesFirst, HandsBack, Link, StartsEmpty}
use Rattle.rdf_io.specs.Sending.{Puts}
use Rattle.rdf_client.specs.Runs.{IsRun}
use Rattle.rdf_client.specs.declared.end.ClientEnd.{ClientEnd}
use Rattle.rdf_cli.specs.Programs.{IsClientRun, status_of}

-- what is told of a script's run on a source and a sink
abbrev pub RunsOn : (repo server : List ℕ) → ClientEnd → Option (List ℕ) → Option (List ℕ) → (k k' o o' : Option (List ℕ)) → Type 0
RunsOn repo server end input left k k' o o' =
    (script responses : List ℕ) → input ≡ Some script → left ≡ Some responses
    → (sent : List ℕ) × (text : List ℕ) × Puts k k' sent × Puts o o' text × IsRun repo server script responses end sent text

-- the link that was given, and what its sink took, are told by the dial
pub ran : (server repo : List ℕ) (end : ClientEnd) (status : ℕ) (input left : Option (List ℕ)) (sound : Type 0) (links links' : Option (List Link))
    (backs backs' backs'' : Option (List (List ℕ))) (k k' o o' : Option (List ℕ)) → GivesFirst links links' left sound → StartsEmpty backs k → backs' ≡ backs
    → HandsBack backs' backs'' k' → RunsOn repo server end input left k k' o o' → status ≡ status_of end
    → (script : List ℕ) (told : List Link) (tooks : List (List ℕ)) → input ≡ Some script → links ≡ Some told → backs ≡ Some tooks
    → IsClientRun server repo script told tooks backs'' o o' status
ran server repo end status input left sound links links' backs backs' backs'' k k' o o' gives empty same hands runs is script told tooks of_input of_links of_backs =
    let f = gives told of_links in
    let r = runs script f.first.bytes of_input f.bytes in
    record {
      link = f.first;
      others = f.rest;
      gave = f.links;
      end = end;
      sent = r.0;
      text = r.1;
      run = r.4;
      status_is = is;
      back = hands tooks r.0 (same ∙ of_backs) (r.2 [] (empty tooks of_backs));
      printed = r.3;
    }
