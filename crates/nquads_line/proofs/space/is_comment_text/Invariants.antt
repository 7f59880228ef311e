use Rattle.std.proofs.Common.{◌≡◌, drop}
use Rattle.std.specs.List.{list_all}
use Rattle.nquads_line.specs.Terms.{is_comment_char}
use Rattle.nquads_line.proofs.space.is_comment_text.Given as goal

abbrev pub invariant-loop-character : goal.invariant-loop-character
invariant-loop-character l = list_all is_comment_char (drop l.character-index l.chars) ≡ list_all is_comment_char l.chars
