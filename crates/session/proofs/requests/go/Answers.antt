use Rattle.std.proofs.Common.{refl}
use Rattle.api_replies.specs.Shorts.{short_response}
use Rattle.session.specs.Refusals.{gone_text}
use Rattle.session.proofs.requests.go.Goals as goal

pub returns-in-Ok-clause-text : goal.returns-in-Ok-clause-text
unfolding gone_text short_response
returns-in-Ok-clause-text g c = (gone_text, c.in-Ok.ensures.text 1, refl)

pub returns-in-Err-clause-text : goal.returns-in-Err-clause-text
unfolding gone_text short_response
returns-in-Err-clause-text g c = let part = c.in-Err.ensures.text 1 in (part.0, part.2, part.1)
