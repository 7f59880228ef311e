use Rattle.std.proofs.Common.{Ok}
use Rattle.http_frame.specs.Messages.{SeenRequest}
use Rattle.repo_api.specs.Calls.{IsCallOf}
use Rattle.api_requests.proofs.LawLemmas.{of_written, spelled_of}
use Rattle.api_requests.proofs.call.write_call.Goals as goal

pub returns-clause-read : goal.returns-clause-read
returns-clause-read c =
    λ repos among.
    of_written (λ (r : SeenRequest). IsCallOf r repos (Ok c.args.call.now)) c.args.call.now c.args.host.now c.in_ok-sending.sending c.in_ok-request.request c.in_ok-sending.ensures c.in_ok-request.ensures
    (c.written_is_read_back.ensures c.args.call.now c.args.host.now repos c.requires.spellable among)

pub returns-clause-spelled : goal.returns-clause-spelled
returns-clause-spelled c =
    spelled_of c.requests_are_spelled.ensures c.args.call.now c.args.host.now c.requires.host c.in_ok-sending.sending c.in_ok-request.request c.in_ok-sending.ensures c.in_ok-request.ensures c.body_fits.ensures
