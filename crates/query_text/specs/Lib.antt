pub use Rattle.query_grammar.specs.Answers
pub use Rattle.query_grammar.specs.QueryText
pub use Rattle.query_print.specs.Laws
pub use Rattle.query_print.specs.Printed
pub use Rattle.query_model.specs.WellFormed
