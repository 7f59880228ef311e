use Rattle.quad_index.proofs.RunLemmas.{spoc_run}
use Rattle.quad_index.proofs.runs.serving.Goals as goal

pub returns-then-is_term_order-clause-run : goal.returns-then-is_term_order-clause-run
returns-then-is_term_order-clause-run c = spoc_run c.spoc.result c.args.codes.now c.spoc.ensures c.requires.ascending

pub returns-then-run-eq0-clause-run : goal.returns-then-run-eq0-clause-run
returns-then-run-eq0-clause-run c = spoc_run c.spoc-then-run-eq0.result c.args.codes.now c.spoc-then-run-eq0.ensures c.requires.ascending
