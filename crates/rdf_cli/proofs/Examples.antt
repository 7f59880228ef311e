-- Worked cases of the definitions, by computation.
use Rattle.std.proofs.Common.{◌≡◌, [], ◌∷◌, Some, None, true, codes, refl}
use Rattle.clap.proofs.OnLiterals.{clap_on_literals}
use Rattle.rdf_client.specs.declared.end.ClientEnd.TheVariants.{Done, Script}
use Rattle.rdf_cli.specs.Programs.{status_of}
use Rattle.rdf_cli.specs.Words.{client_words, if_right, is_refused}

both_options : client_words (codes "--server" ∷ codes "h:1" ∷ codes "--repository" ∷ codes "r" ∷ []) ≡ Some (codes "h:1", codes "r")
unfolding clap_on_literals
both_options = refl

no_words : client_words [] ≡ None
unfolding clap_on_literals
no_words = refl

-- in the other order, with the values in the same words
joined_values : client_words (codes "--repository=r" ∷ codes "--server=h:1" ∷ []) ≡ Some (codes "h:1", codes "r")
unfolding clap_on_literals
joined_values = refl

no_repository : is_refused (codes "--server" ∷ codes "h:1" ∷ []) ≡ true
unfolding clap_on_literals
no_repository = refl

a_further_word : client_words (codes "--server" ∷ codes "h:1" ∷ codes "--repository" ∷ codes "r" ∷ codes "x" ∷ []) ≡ None
unfolding clap_on_literals
a_further_word = refl

-- an option that stands twice
twice : client_words (codes "--server=h:1" ∷ codes "--repository=r" ∷ codes "--server=h:2" ∷ []) ≡ None
unfolding clap_on_literals
twice = refl

help : client_words (codes "--help" ∷ []) ≡ None
unfolding clap_on_literals
help = refl

-- a space in the server, and an ID that is none
space_in_server : if_right (Some (codes "h 1")) (Some (codes "r")) ≡ None
space_in_server = refl

dash_first : if_right (Some (codes "h:1")) (Some (codes "-r")) ≡ None
dash_first = refl

done_is_0 : status_of Done ≡ 0
done_is_0 = refl

bad_line_is_7 : status_of (Script 3) ≡ 7
bad_line_is_7 = refl
