-- The plan, the orders and the IDs of the words of `serve`.
use Rattle.std.proofs.Common.{◌≡◌, ℕ, suc, ◌≤◌, Bool, true, if◌then◌else◌, All, List, [], ◌∷◌, ◌++◌, IsTrue, length, codes, Option, Some, None, IfSome, Contains, sym, ap, subst, ◌∙◌, refl, arith, inl, inr, append_assoc, append-nil}
use Rattle.rdf_term.specs.EachOnce.{EachOnce}
use Rattle.quad_index.specs.declared.letter.Letter.{Letter}
use Rattle.rdf_server.specs.declared.plan.Named.{Named}
use Rattle.rdf_server.specs.declared.plan.Plan.{Plan}
use Rattle.rdf_server.specs.declared.serve_option.ServeOption.{ServeOption}
use Rattle.rdf_server.specs.declared.serve_option.ServeOption.TheVariants.{Order, Port, Workers, Connections}
use Rattle.rdf_server.specs.Readings.{AreNamed, AreOnce, AreRead, IsPlan}
use Rattle.rdf_server.specs.ServeWords.{IsOption, IsServe, connections_in, kind_of, kind_word, listed, option_words, orders_in, ports_in, value_word, workers_in}
use Rattle.rdf_server.proofs.WordLemmas.{contains_cases, contains_later, contains_none, head_same, once_less, tail_same}
use Rattle.rdf_server.proofs.ServeLemmas.{read_none, read_some, same_read}

-- Plans

pub plan_found : (options : List ServeOption) (named : Named) (plan : Plan) → AreNamed options named → named.port ≡ Some plan.port → named.workers ≡ Some plan.workers
    → named.connections ≡ plan.connections → IsPlan options plan
plan_found options named plan a port workers connections = record {
  port = a.port ∙ ap listed port;
  workers = a.workers ∙ ap listed workers;
  connections = a.connections ∙ ap listed connections;
}

pub no_port : (options : List ServeOption) (named : Named) (plan : Plan) → named.port ≡ None → AreNamed options named → IsPlan options plan → ⊥
no_port options named plan none a is = absurd (omega (arith, ap length (sym is.port ∙ a.port ∙ ap listed none)))

pub no_workers : (options : List ServeOption) (named : Named) (plan : Plan) → named.workers ≡ None → AreNamed options named → IsPlan options plan → ⊥
no_workers options named plan none a is = absurd (omega (arith, ap length (sym is.workers ∙ a.workers ∙ ap listed none)))

same_listed : (a b : Option ℕ) → listed a ≡ listed b → a ≡ b
same_listed None None e = refl
same_listed None (Some n) e = cc
same_listed (Some m) None e = cc
same_listed (Some m) (Some n) e = ap Some (head_same _ _ _ _ e)

pub same_plan : (options : List ServeOption) (a b : Plan) → IsPlan options a → IsPlan options b → a ≡ b
same_plan options a b p q =
    let port = head_same _ _ _ _ (sym p.port ∙ q.port) in
    let workers = head_same _ _ _ _ (sym p.workers ∙ q.workers) in
    let connections = same_listed a.connections b.connections (sym p.connections ∙ q.connections) in
    λ i. record { port = port i; workers = workers i; connections = connections i }

-- What the words of `serve` are made of

pub no_words : (words : List (List ℕ)) → length words ≡ 0 → (plan : Plan) (orders : List (List Letter)) (ids : List (List ℕ)) → IsServe words plan orders ids → ⊥
no_words words none plan orders ids it =
    let n : length words ≡ suc (length (option_words it.options ++ ids)) = ap length it.words_are in
    absurd (omega (arith, n, none))

pub other_command : (words behind : List (List ℕ)) (command : List ℕ) → words ≡ command ∷ behind → (command ≡ codes "serve" → ⊥)
    → (plan : Plan) (orders : List (List Letter)) (ids : List (List ℕ)) → IsServe words plan orders ids → ⊥
other_command words behind command e differs plan orders ids it = differs (head_same _ _ _ _ (sym e ∙ it.words_are))

-- the options of words of `serve`
pub record Parts (behind : List (List ℕ)) (options : List ServeOption) (plan : Plan) (orders : List (List Letter)) (ids : List (List ℕ)) : Type 0 where
  pub read : AreRead behind options ids
  pub once : AreOnce options
  pub planned : IsPlan options plan
  pub ordered : orders_in options ≡ orders

one_at_most : (a : Option ℕ) → length (listed a) ≤ 1
one_at_most None = omega arith
one_at_most (Some n) = omega arith

pub parts : (words behind : List (List ℕ)) (command : List ℕ) → words ≡ command ∷ behind → (plan : Plan) (orders : List (List Letter)) (ids : List (List ℕ))
    → (it : IsServe words plan orders ids) → Parts behind it.options plan orders ids
parts words behind command e plan orders ids it = record {
  read = record { words_are = tail_same _ _ _ _ (sym e ∙ it.words_are); right = it.right; names = it.names };
  once = record {
    differ = subst (λ (x : List (List Letter)). EachOnce x) (sym it.orders_are) it.differ;
    few = omega (arith, ap length it.orders_are, it.few);
    port = omega (arith, ap length it.port);
    workers = omega (arith, ap length it.workers);
    connections = omega (arith, ap length it.connections, one_at_most plan.connections);
  };
  planned = record { port = it.port; workers = it.workers; connections = it.connections };
  ordered = it.orders_are;
}

pub no_options : (words behind : List (List ℕ)) (command : List ℕ) → words ≡ command ∷ behind
    → ((options : List ServeOption) (ids : List (List ℕ)) → AreRead behind options ids → AreOnce options → ⊥)
    → (plan : Plan) (orders : List (List Letter)) (ids : List (List ℕ)) → IsServe words plan orders ids → ⊥
no_options words behind command e none plan orders ids it =
    let p = parts words behind command e plan orders ids it in
    none it.options ids p.read p.once

pub no_plan : (words behind : List (List ℕ)) (command : List ℕ) (options : List ServeOption) (ids' : List (List ℕ)) (named : Named) → words ≡ command ∷ behind → AreRead behind options ids'
    → AreNamed options named → ((options : List ServeOption) (plan : Plan) → AreNamed options named → IsPlan options plan → ⊥)
    → (plan : Plan) (orders : List (List Letter)) (ids : List (List ℕ)) → IsServe words plan orders ids → ⊥
no_plan words behind command options ids' named e read a none plan orders ids it =
    let p = parts words behind command e plan orders ids it in
    let same = same_read behind it.options options ids ids' p.read read in
    none options plan a (subst (λ (x : List ServeOption). IsPlan x plan) same.0 p.planned)

-- these are words of `serve`
pub found_words : (words behind : List (List ℕ)) (options : List ServeOption) (ids : List (List ℕ)) (plan : Plan) → words ≡ codes "serve" ∷ behind → AreRead behind options ids → AreOnce options
    → IsPlan options plan → IsServe words plan (orders_in options) ids
found_words words behind options ids plan e read once is = record {
  options = options;
  words_are = e ∙ ap (λ (x : List (List ℕ)). codes "serve" ∷ x) read.words_are;
  right = read.right;
  orders_are = refl;
  differ = once.differ;
  few = once.few;
  port = is.port;
  workers = is.workers;
  connections = is.connections;
  names = read.names;
}

-- and of no other plan
pub one_plan : (words behind : List (List ℕ)) (options : List ServeOption) (ids' : List (List ℕ)) (plan' : Plan) → words ≡ codes "serve" ∷ behind → AreRead behind options ids'
    → IsPlan options plan' → (plan : Plan) (orders : List (List Letter)) (ids : List (List ℕ)) → IsServe words plan orders ids → Some plan' ≡ Some plan
one_plan words behind options ids' plan' e read is plan orders ids it =
    let p = parts words behind (codes "serve") e plan orders ids it in
    let same = same_read behind it.options options ids ids' p.read read in
    ap Some (same_plan options plan' plan is (subst (λ (x : List ServeOption). IsPlan x plan) same.0 p.planned))

-- nor with other IDs
pub one_reading : (words behind : List (List ℕ)) (options : List ServeOption) (ids' : List (List ℕ)) → words ≡ codes "serve" ∷ behind → AreRead behind options ids'
    → (plan : Plan) (orders : List (List Letter)) (ids : List (List ℕ)) → IsServe words plan orders ids → ids' ≡ ids
one_reading words behind options ids' e read plan orders ids it =
    let p = parts words behind (codes "serve") e plan orders ids it in
    sym (same_read behind it.options options ids ids' p.read read).1

-- Ranges

port_in : (options : List ServeOption) (n : ℕ) (ns : List ℕ) → All IsOption options → ports_in options ≡ n ∷ ns → (1 ≤ n) × (n ≤ 65535)
port_in [] n ns h e = cc
port_in (Order order ∷ options) n ns h e = port_in options n ns (λ k d less. h (suc k) d (omega (arith, less))) e
port_in (Port m ∷ options) n ns h e = subst (λ (x : ℕ). (1 ≤ x) × (x ≤ 65535)) (head_same _ _ _ _ e) (h 0 (Port m) (omega arith))
port_in (Workers m ∷ options) n ns h e = port_in options n ns (λ k d less. h (suc k) d (omega (arith, less))) e
port_in (Connections m ∷ options) n ns h e = port_in options n ns (λ k d less. h (suc k) d (omega (arith, less))) e

workers_at : (options : List ServeOption) (n : ℕ) (ns : List ℕ) → All IsOption options → workers_in options ≡ n ∷ ns → (1 ≤ n) × (n ≤ 32)
workers_at [] n ns h e = cc
workers_at (Order order ∷ options) n ns h e = workers_at options n ns (λ k d less. h (suc k) d (omega (arith, less))) e
workers_at (Port m ∷ options) n ns h e = workers_at options n ns (λ k d less. h (suc k) d (omega (arith, less))) e
workers_at (Workers m ∷ options) n ns h e = subst (λ (x : ℕ). (1 ≤ x) × (x ≤ 32)) (head_same _ _ _ _ e) (h 0 (Workers m) (omega arith))
workers_at (Connections m ∷ options) n ns h e = workers_at options n ns (λ k d less. h (suc k) d (omega (arith, less))) e

connections_at : (options : List ServeOption) (n : ℕ) (ns : List ℕ) → All IsOption options → connections_in options ≡ n ∷ ns → (1 ≤ n) × (n ≤ 1000000)
connections_at [] n ns h e = cc
connections_at (Order order ∷ options) n ns h e = connections_at options n ns (λ k d less. h (suc k) d (omega (arith, less))) e
connections_at (Port m ∷ options) n ns h e = connections_at options n ns (λ k d less. h (suc k) d (omega (arith, less))) e
connections_at (Workers m ∷ options) n ns h e = connections_at options n ns (λ k d less. h (suc k) d (omega (arith, less))) e
connections_at (Connections m ∷ options) n ns h e = subst (λ (x : ℕ). (1 ≤ x) × (x ≤ 1000000)) (head_same _ _ _ _ e) (h 0 (Connections m) (omega arith))

pub port_range : (options : List ServeOption) (plan : Plan) → All IsOption options → IsPlan options plan → (1 ≤ plan.port) × (plan.port ≤ 65535)
port_range options plan right is = port_in options plan.port [] right is.port

pub workers_range : (options : List ServeOption) (plan : Plan) → All IsOption options → IsPlan options plan → (1 ≤ plan.workers) × (plan.workers ≤ 32)
workers_range options plan right is = workers_at options plan.workers [] right is.workers

most_in : (options : List ServeOption) (most : Option ℕ) → All IsOption options → connections_in options ≡ listed most → IfSome most (λ n. (1 ≤ n) × (n ≤ 1000000))
most_in options None right e = tt
most_in options (Some n) right e = connections_at options n [] right e

pub connections_range : (options : List ServeOption) (plan : Plan) → All IsOption options → IsPlan options plan → IfSome plan.connections (λ n. (1 ≤ n) × (n ≤ 1000000))
connections_range options plan right is = most_in options plan.connections right is.connections

-- Orders

-- the orders behind those that were found
abbrev pub Left : List (List ℕ) → List (List ℕ) → List (List Letter) → Type 0
Left words left out = (options : List ServeOption) (ids : List (List ℕ)) → AreRead words options ids → AreOnce options
    → (later : List ServeOption) × AreRead left later ids × (orders_in options ≡ out ++ orders_in later)

apart : (xs : List (List Letter)) (y : List Letter) (ys : List (List Letter)) → EachOnce (xs ++ y ∷ ys) → Contains xs y → ⊥
apart [] y ys once h = contains_none y h
apart (x ∷ xs) y ys once h = elim (contains_cases x y xs h) [
  | inl same ↦ (once_less x (xs ++ y ∷ ys) once).0 (subst (λ (z : List Letter). Contains (xs ++ y ∷ ys) z) (sym same) (among xs))
  | inr behind ↦ apart xs y ys (once_less x (xs ++ y ∷ ys) once).1 behind
]
  where
    among : (zs : List (List Letter)) → Contains (zs ++ y ∷ ys) y
    among [] = (0, omega arith, refl)
    among (z ∷ zs) = contains_later z y (zs ++ y ∷ ys) (among zs)

pub left_first : (words : List (List ℕ)) → Left words words []
left_first words options ids read once = (options, read, refl)

-- an order more
pub left_order : (words left behind : List (List ℕ)) (out out' : List (List Letter)) (it : ServeOption) (order : List Letter) (added : Bool) → it ≡ Order order
    → (IsTrue added → Contains out order → ⊥) × ((Contains out order → ⊥) → IsTrue added) → out' ≡ (if added then out ++ order ∷ [] else out) → IsOption it
    → left ≡ kind_word (kind_of it) ∷ (value_word it ∷ behind) → Left words left out → Left words behind out'
left_order words left behind out out' it order added same new grown is e inv options ids read once =
    let was = inv options ids read once in
    let b = read_some left was.0 ids it behind was.1 is e in
    let front : was.0 ≡ Order order ∷ b.later = b.options_are ∙ ap (λ (x : ServeOption). x ∷ b.later) same in
    let whole : orders_in options ≡ out ++ order ∷ orders_in b.later = was.2 ∙ ap (λ (x : List ServeOption). out ++ orders_in x) front in
    let holds : added ≡ true = new.1 (apart out order (orders_in b.later) (subst (λ (x : List (List Letter)). EachOnce x) whole once.differ)) in
    let longer : out' ≡ out ++ order ∷ [] = grown ∙ ap (λ (b : Bool). if b then out ++ order ∷ [] else out) holds in
    (b.later, b.read, whole ∙ sym (append_assoc out (order ∷ []) (orders_in b.later)) ∙ ap (λ (x : List (List Letter)). x ++ orders_in b.later) (sym longer))

-- an option that names none
pub left_other : (words left behind : List (List ℕ)) (out : List (List Letter)) (it : ServeOption) → ((order : List Letter) → it ≡ Order order → ⊥) → IsOption it
    → left ≡ kind_word (kind_of it) ∷ (value_word it ∷ behind) → Left words left out → Left words behind out
left_other words left behind out it none is e inv options ids read once =
    let was = inv options ids read once in
    let b = read_some left was.0 ids it behind was.1 is e in
    (b.later, b.read, was.2 ∙ ap (λ (x : List ServeOption). out ++ orders_in x) b.options_are ∙ ap (λ (x : List (List Letter)). out ++ x) (no_order it b.later none))
  where
    no_order : (it : ServeOption) (options : List ServeOption) → ((order : List Letter) → it ≡ Order order → ⊥) → orders_in (it ∷ options) ≡ orders_in options
    no_order (Order order) options none = absurd (none order refl)
    no_order (Port n) options none = refl
    no_order (Workers n) options none = refl
    no_order (Connections n) options none = refl

pub left_last : (words left : List (List ℕ)) (out : List (List Letter))
    → ((it : ServeOption) (rest : List (List ℕ)) → IsOption it → left ≡ kind_word (kind_of it) ∷ (value_word it ∷ rest) → ⊥)
    → Left words left out → (options : List ServeOption) (ids : List (List ℕ)) → AreRead words options ids → AreOnce options → out ≡ orders_in options
left_last words left out none inv options ids read once =
    let it = inv options ids read once in
    sym (it.2 ∙ ap (λ (x : List ServeOption). out ++ orders_in x) (read_none left it.0 ids it.1 none).0 ∙ append-nil out)
