-- The options of `serve` as they are read. No contract of a public call cites it.
use Rattle.std.specs.Prelude.{◌≡◌, ℕ, ◌≤◌, List, [], ◌∷◌, ◌++◌, All, length}
use Rattle.rdf_term.specs.EachOnce.{EachOnce}
use Rattle.session.specs.Houses.{AreNames}
use Rattle.rdf_server.specs.declared.plan.Named.{Named}
use Rattle.rdf_server.specs.declared.plan.Plan.{Plan}
use Rattle.rdf_server.specs.declared.serve_option.ServeOption.{ServeOption}
use Rattle.rdf_server.specs.ServeWords.{IsOption, connections_in, listed, option_words, orders_in, ports_in, workers_in}

-- the words are those of right options, and then these IDs
pub record AreRead (words : List (List ℕ)) (options : List ServeOption) (ids : List (List ℕ)) : Type 0 where
  pub words_are : words ≡ option_words options ++ ids
  pub right : All IsOption options
  pub names : AreNames ids

-- they name distinct orders, up to six, and nothing else twice
pub record AreOnce (options : List ServeOption) : Type 0 where
  pub differ : EachOnce (orders_in options)
  pub few : length (orders_in options) ≤ 6
  pub port : length (ports_in options) ≤ 1
  pub workers : length (workers_in options) ≤ 1
  pub connections : length (connections_in options) ≤ 1

-- this is what they name
pub record AreNamed (options : List ServeOption) (named : Named) : Type 0 where
  pub orders : length (orders_in options) ≡ named.orders
  pub port : ports_in options ≡ listed named.port
  pub workers : workers_in options ≡ listed named.workers
  pub connections : connections_in options ≡ listed named.connections

-- and that is the plan
pub record IsPlan (options : List ServeOption) (plan : Plan) : Type 0 where
  pub port : ports_in options ≡ plan.port ∷ []
  pub workers : workers_in options ≡ plan.workers ∷ []
  pub connections : connections_in options ≡ listed plan.connections
