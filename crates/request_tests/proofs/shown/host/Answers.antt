use Rattle.request_tests.proofs.HostLemmas.{host_is}
use Rattle.request_tests.proofs.shown.host.Goals as goal

pub returns : goal.returns
returns c = host_is c.from_chars.result c.from_chars.ensures
