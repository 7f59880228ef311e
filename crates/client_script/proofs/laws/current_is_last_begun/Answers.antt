use Rattle.client_script.proofs.TxnLemmas.{current_is, is_current}
use Rattle.client_script.proofs.laws.current_is_last_begun.Goals as goal

pub returns : goal.returns
returns c = λ answered t. (current_is answered t, is_current answered t)
