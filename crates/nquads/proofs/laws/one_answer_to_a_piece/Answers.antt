use Rattle.nquads.proofs.DocumentLemmas.{piece_once, piece_quads, taking_once, piece_good}
use Rattle.nquads.proofs.laws.one_answer_to_a_piece.Goals as goal

pub returns : goal.returns
returns c = record { fault = piece_once; quads = piece_quads; taken = taking_once; refused_or_taken = piece_good }
