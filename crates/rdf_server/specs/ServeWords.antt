-- The words of `serve`, each as the list of its characters.
use Rattle.std.specs.Prelude.{◌≡◌, ℕ, ◌≤◌, List, [], ◌∷◌, ◌++◌, All, map, length, codes, decimal, Option, Some, None}
use Rattle.rdf_term.specs.EachOnce.{EachOnce}
use Rattle.quad_index.specs.declared.letter.Letter.{Letter}
use Rattle.quad_index.specs.Letters.{IsArrangement, letter_byte}
use Rattle.session.specs.Houses.{AreNames}
use Rattle.rdf_server.specs.declared.plan.Plan.{Plan}
use Rattle.rdf_server.specs.declared.serve_option.OptionKind.{OptionKind}
use Rattle.rdf_server.specs.declared.serve_option.OptionKind.TheVariants as kind
use Rattle.rdf_server.specs.declared.serve_option.ServeOption.{ServeOption}
use Rattle.rdf_server.specs.declared.serve_option.ServeOption.TheVariants.{Order, Port, Workers, Connections}

-- the first word of an option of this kind
abbrev pub kind_word : OptionKind → List ℕ
kind_word kind.Order = codes "--order"
kind_word kind.Port = codes "--port"
kind_word kind.Workers = codes "--workers"
kind_word kind.Connections = codes "--connections"

abbrev pub kind_of : ServeOption → OptionKind
kind_of (Order order) = kind.Order
kind_of (Port n) = kind.Port
kind_of (Workers n) = kind.Workers
kind_of (Connections n) = kind.Connections

-- the second word of an option: the four letters of an order, or a number in decimal without leading zeros
abbrev pub value_word : ServeOption → List ℕ
value_word (Order order) = map letter_byte order
value_word (Port n) = decimal n
value_word (Workers n) = decimal n
value_word (Connections n) = decimal n

-- what an option names is in its range
abbrev pub IsOption : ServeOption → Type 0
IsOption (Order order) = IsArrangement order
IsOption (Port n) = (1 ≤ n) × (n ≤ 65535)
IsOption (Workers n) = (1 ≤ n) × (n ≤ 32)
IsOption (Connections n) = (1 ≤ n) × (n ≤ 1000000)

-- the words of options, two for each
abbrev pub option_words : List ServeOption → List (List ℕ)
option_words [] = []
option_words (it ∷ options) = kind_word (kind_of it) ∷ (value_word it ∷ option_words options)

-- the orders that options name
abbrev pub orders_in : List ServeOption → List (List Letter)
orders_in [] = []
orders_in (Order order ∷ options) = order ∷ orders_in options
orders_in (Port n ∷ options) = orders_in options
orders_in (Workers n ∷ options) = orders_in options
orders_in (Connections n ∷ options) = orders_in options

-- the ports that they name
abbrev pub ports_in : List ServeOption → List ℕ
ports_in [] = []
ports_in (Order order ∷ options) = ports_in options
ports_in (Port n ∷ options) = n ∷ ports_in options
ports_in (Workers n ∷ options) = ports_in options
ports_in (Connections n ∷ options) = ports_in options

-- the numbers of workers
abbrev pub workers_in : List ServeOption → List ℕ
workers_in [] = []
workers_in (Order order ∷ options) = workers_in options
workers_in (Port n ∷ options) = workers_in options
workers_in (Workers n ∷ options) = n ∷ workers_in options
workers_in (Connections n ∷ options) = workers_in options

-- the numbers of connections
abbrev pub connections_in : List ServeOption → List ℕ
connections_in [] = []
connections_in (Order order ∷ options) = connections_in options
connections_in (Port n ∷ options) = connections_in options
connections_in (Workers n ∷ options) = connections_in options
connections_in (Connections n ∷ options) = n ∷ connections_in options

-- the list of what there is
abbrev pub listed : Option ℕ → List ℕ
listed None = []
listed (Some n) = n ∷ []

-- The words are `serve`, options, and these IDs: 1 to 16, distinct, each a letter or a digit and then up to 63 letters, digits, `_` or `-`. The options
-- name these orders, up to six distinct ones, one port, one number of workers, and one number of connections where the plan has one. They stand in any order.
pub record IsServe (words : List (List ℕ)) (plan : Plan) (orders : List (List Letter)) (ids : List (List ℕ)) : Type 0 where
  pub options : List ServeOption
  pub words_are : words ≡ codes "serve" ∷ (option_words options ++ ids)
  pub right : All IsOption options
  pub orders_are : orders_in options ≡ orders
  pub differ : EachOnce orders
  pub few : length orders ≤ 6
  pub port : ports_in options ≡ plan.port ∷ []
  pub workers : workers_in options ≡ plan.workers ∷ []
  pub connections : connections_in options ≡ listed plan.connections
  pub names : AreNames ids
