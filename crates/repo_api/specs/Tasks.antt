-- What each method asks of each resource, and what each action asks in a transaction.
use Rattle.std.specs.Prelude.{ℕ, List, [], ◌∷◌, Option, Some, None, Result, Ok, Err, if◌then◌else◌, codes}
use Rattle.std.specs.Str.{bytes_eq}
use Rattle.journal.specs.declared.txn.Txn.{Txn}
use Rattle.api_calls.specs.declared.fault.ApiFault.{ApiFault}
use Rattle.api_calls.specs.declared.fault.ApiFault.TheVariants as faults
use Rattle.api_calls.specs.declared.fault.Allow.TheVariants as allow
use Rattle.repo_api.specs.declared.resource.Part.{Part}
use Rattle.repo_api.specs.declared.resource.Part.TheVariants.{Queries, Statements, Contexts, Size, Namespaces, Namespace, Transactions}
use Rattle.repo_api.specs.declared.method.Method.{Method}
use Rattle.repo_api.specs.declared.method.Method.TheVariants.{Get, Post, Put, Delete}
use Rattle.repo_api.specs.declared.task.Task.{Task}
use Rattle.repo_api.specs.declared.task.Task.TheVariants as tasks
use Rattle.repo_api.specs.declared.task.Writing.TheVariants.{Adds, Replaces, Removes}

-- what a method asks of a part of a repository; a part has no other methods
abbrev pub task_at : Part → Option Method → Result Task ApiFault
task_at Queries (Some Get) = Ok (tasks.Query None)
task_at Queries (Some Post) = Ok (tasks.Query None)
task_at Queries method = Err (faults.Method allow.GetPost)
task_at Statements (Some Get) = Ok (tasks.List None)
task_at Statements (Some Post) = Ok (tasks.Write None Adds)
task_at Statements (Some Put) = Ok (tasks.Write None Replaces)
task_at Statements (Some Delete) = Ok tasks.Remove
task_at Statements None = Err (faults.Method allow.GetPostPutDelete)
task_at Contexts (Some Get) = Ok tasks.Contexts
task_at Contexts method = Err (faults.Method allow.Get)
task_at Size (Some Get) = Ok (tasks.Size None)
task_at Size method = Err (faults.Method allow.Get)
task_at Namespaces (Some Get) = Ok tasks.ListNames
task_at Namespaces (Some Delete) = Ok tasks.ClearNames
task_at Namespaces method = Err (faults.Method allow.GetDelete)
task_at (Namespace prefix) (Some Get) = Ok (tasks.GetName prefix)
task_at (Namespace prefix) (Some Put) = Ok (tasks.PutName prefix)
task_at (Namespace prefix) (Some Delete) = Ok (tasks.RemoveName prefix)
task_at (Namespace prefix) method = Err (faults.Method allow.GetPutDelete)
task_at Transactions (Some Post) = Ok tasks.Begin
task_at Transactions method = Err (faults.Method allow.Post)

-- the fault that names a bad parameter
abbrev pub bad : List ℕ → ApiFault
bad name = faults.Parameter name

-- what an action, a word in capitals, asks in a transaction
abbrev pub task_of_action : Txn → List ℕ → Result Task ApiFault
task_of_action txn word =
    if bytes_eq word (codes "ADD") then Ok (tasks.Write (Some txn) Adds)
    else if bytes_eq word (codes "DELETE") then Ok (tasks.Write (Some txn) Removes)
    else if bytes_eq word (codes "GET") then Ok (tasks.List (Some txn))
    else if bytes_eq word (codes "SIZE") then Ok (tasks.Size (Some txn))
    else if bytes_eq word (codes "QUERY") then Ok (tasks.Query (Some txn))
    else if bytes_eq word (codes "COMMIT") then Ok (tasks.Commit txn)
    else if bytes_eq word (codes "PING") then Ok (tasks.Ping txn)
    else if bytes_eq word (codes "ROLLBACK") then Ok (tasks.Rollback txn)
    else Err (bad (codes "action"))

-- the action stands exactly once
abbrev pub task_of_actions : Txn → List (List ℕ) → Result Task ApiFault
task_of_actions txn [] = Err (bad (codes "action"))
task_of_actions txn (word ∷ []) = task_of_action txn word
task_of_actions txn (word ∷ other ∷ words) = Err (bad (codes "action"))
