-- What a repository keeps may go to another thread, and may be shared by several: one lemma a type, each by those of its parts,
-- so that no search goes down through all of them.
use denote.Param.Send.{IsSend, IsSync, sendable, view_send, view_sync}
use denote.Param.SendFields.{declared_send, declared_sync}
use Rattle.std.proofs.Crossing.{crosses}
use Rattle.std.proofs.MapsCrossing as maps
use Rattle.rdf_term.specs.contracts.text.Text as Text
use Rattle.rdf_term.specs.contracts.term.Term as Term
use Rattle.rdf_term.specs.contracts.graph.Graph as Graph
use Rattle.rdf_term.specs.contracts.quad.Quad as Quad
use Rattle.rdf_term.specs.contracts.pattern.GraphPick as GraphPick
use Rattle.rdf_term.specs.contracts.pattern.Pattern as Pattern
use Rattle.change_set.specs.contracts.marked.Marked as Marked
use Rattle.change_set.specs.contracts.kept.Kept as Kept
use Rattle.change_set.specs.contracts.set.ChangeSet as ChangeSet
use Rattle.quad_index.specs.contracts.index.Index as Index
use Rattle.branch.specs.contracts.stack.Stack as Stack
use Rattle.branch.specs.contracts.branch.Branch as Branch
use Rattle.iso_txn.specs.contracts.content.Content as Content
use Rattle.iso_txn.specs.contracts.opened.OpenTxn as OpenTxn
use Rattle.iso_txn.specs.contracts.pending.PendingWrite as PendingWrite
use Rattle.iso_txn.specs.contracts.seen.Seen as Seen
use Rattle.iso_txn.specs.contracts.writes.Writes as Writes
use Rattle.conflict.specs.contracts.observed.Observed as Observed
use Rattle.conflict.specs.contracts.logged.Logged as Logged
use Rattle.conflict.specs.contracts.log.CommitLog as CommitLog
use Rattle.iso_txn.specs.contracts.watch.Watch as Watch
use Rattle.iso_txn.specs.contracts.prefixes.Prefixes as Prefixes
use Rattle.iso_txn.specs.contracts.state.State as State
use Rattle.journal.specs.contracts.noted.Noted as Noted
use Rattle.story.specs.contracts.Story as Story
use Rattle.iso_txn.specs.contracts.repository.RepoState as RepoState
use Rattle.iso_txn.specs.contracts.repository.RepoState.TheInside as RepoInside
use Rattle.shared_repo.specs.contracts.state.SharedState as SharedState
use Rattle.shared_repo.specs.contracts.state.SharedState.TheInside as SharedInside

text_send : IsSend Text.the_row
text_send = search (sendable, crosses) depth 30

text_sync : IsSync Text.the_row
text_sync = search (sendable, crosses) depth 30

term_field_send : IsSend Term.the_field.row
term_field_send = search (text_send, sendable, crosses) depth 30

term_field_sync : IsSync Term.the_field.row
term_field_sync = search (text_sync, sendable, crosses) depth 30

graph_field_send : IsSend Graph.the_field.row
graph_field_send = search (term_field_send, sendable, crosses) depth 30

graph_field_sync : IsSync Graph.the_field.row
graph_field_sync = search (term_field_sync, sendable, crosses) depth 30

quad_send : IsSend Quad.the_row
quad_send = search (term_field_send, graph_field_send, sendable, crosses) depth 30

quad_sync : IsSync Quad.the_row
quad_sync = search (term_field_sync, graph_field_sync, sendable, crosses) depth 30

pick_field_send : IsSend GraphPick.the_field.row
pick_field_send = search (graph_field_send, sendable, crosses) depth 30

pick_field_sync : IsSync GraphPick.the_field.row
pick_field_sync = search (graph_field_sync, sendable, crosses) depth 30

pattern_field_send : IsSend Pattern.the_field.row
pattern_field_send = search (term_field_send, pick_field_send, sendable, crosses) depth 30

pattern_field_sync : IsSync Pattern.the_field.row
pattern_field_sync = search (term_field_sync, pick_field_sync, sendable, crosses) depth 30

marked_send : IsSend Marked.the_row
marked_send = search (quad_send, quad_sync, sendable, crosses) depth 30

marked_sync : IsSync Marked.the_row
marked_sync = search (quad_send, quad_sync, sendable, crosses) depth 30

kept_send : IsSend Kept.the_row
kept_send = search (pattern_field_send, marked_send, sendable, crosses) depth 30

kept_sync : IsSync Kept.the_row
kept_sync = search (pattern_field_sync, marked_sync, sendable, crosses) depth 30

set_send : IsSend ChangeSet.the_row
set_send = search (kept_send, kept_sync, sendable, crosses) depth 30

set_sync : IsSync ChangeSet.the_row
set_sync = search (kept_send, kept_sync, sendable, crosses) depth 30

index_send : IsSend Index.the_row
index_send = search (term_field_send, sendable, crosses) depth 30

index_sync : IsSync Index.the_row
index_sync = search (term_field_sync, sendable, crosses) depth 30

stack_send : IsSend Stack.the_row
stack_send = search (set_send, set_sync, sendable, crosses) depth 30

stack_sync : IsSync Stack.the_row
stack_sync = search (set_send, set_sync, sendable, crosses) depth 30

branch_send : IsSend Branch.the_row
branch_send = search (stack_send, index_send, index_sync, sendable, crosses) depth 30

branch_sync : IsSync Branch.the_row
branch_sync = search (stack_sync, index_send, index_sync, sendable, crosses) depth 30

content_send : IsSend Content.the_row
content_send = search (branch_send, sendable, crosses) depth 30

content_sync : IsSync Content.the_row
content_sync = search (branch_sync, sendable, crosses) depth 30

opened_send : IsSend OpenTxn.the_row
opened_send = search (branch_send, sendable, crosses) depth 30

opened_sync : IsSync OpenTxn.the_row
opened_sync = search (branch_sync, sendable, crosses) depth 30

pending_send : IsSend PendingWrite.the_row
pending_send = search (set_send, set_sync, sendable, crosses) depth 30

pending_sync : IsSync PendingWrite.the_row
pending_sync = search (set_send, set_sync, sendable, crosses) depth 30

seen_send : IsSend Seen.the_row
seen_send = search (stack_send, sendable, crosses) depth 30

seen_sync : IsSync Seen.the_row
seen_sync = search (stack_sync, sendable, crosses) depth 30

writes_send : IsSend Writes.the_row
writes_send = search (pending_send, seen_send, sendable, crosses) depth 30

writes_sync : IsSync Writes.the_row
writes_sync = search (pending_sync, seen_sync, sendable, crosses) depth 30

observed_send : IsSend Observed.the_row
observed_send = search (pattern_field_send, sendable, crosses) depth 30

observed_sync : IsSync Observed.the_row
observed_sync = search (pattern_field_sync, sendable, crosses) depth 30

logged_send : IsSend Logged.the_row
logged_send = search (set_send, set_sync, sendable, crosses) depth 30

logged_sync : IsSync Logged.the_row
logged_sync = search (set_send, set_sync, sendable, crosses) depth 30

log_send : IsSend CommitLog.the_row
log_send = search (logged_send, sendable, crosses) depth 30

log_sync : IsSync CommitLog.the_row
log_sync = search (logged_sync, sendable, crosses) depth 30

watch_send : IsSend Watch.the_row
watch_send = search (observed_send, log_send, maps.crosses, sendable, crosses) depth 30

watch_sync : IsSync Watch.the_row
watch_sync = search (observed_sync, log_sync, maps.crosses, sendable, crosses) depth 30

prefixes_send : IsSend Prefixes.the_row
prefixes_send = search (text_send, maps.crosses, sendable, crosses) depth 30

prefixes_sync : IsSync Prefixes.the_row
prefixes_sync = search (text_sync, maps.crosses, sendable, crosses) depth 30

state_send : IsSend State.the_row
state_send = search (content_send, opened_send, writes_send, prefixes_send, watch_send, sendable, crosses) depth 30

state_sync : IsSync State.the_row
state_sync = search (content_sync, opened_sync, writes_sync, prefixes_sync, watch_sync, sendable, crosses) depth 30

-- A story leads back to itself, and no search goes through it, so its facts are handed in.
repo_send : IsSend (Story.the_row Noted.the_row) → IsSend RepoState.the_row
repo_send story =
    view_send _ _ _ _ _ (declared_send RepoInside.the_type (search (sendable, crosses) depth 20, (search (sendable, crosses) depth 20, (search (sendable, crosses) depth 20, (state_send, (story, tt))))))

repo_sync : IsSync (Story.the_row Noted.the_row) → IsSync RepoState.the_row
repo_sync story =
    view_sync _ _ _ _ _ (declared_sync RepoInside.the_type (search (sendable, crosses) depth 20, (search (sendable, crosses) depth 20, (search (sendable, crosses) depth 20, (state_sync, (story, tt))))))

pub shared_send : IsSend (Story.the_row Noted.the_row) → IsSend SharedState.the_row
shared_send story = view_send _ _ _ _ _ (declared_send SharedInside.the_type (repo_send story, tt))

pub shared_sync : IsSync (Story.the_row Noted.the_row) → IsSync SharedState.the_row
shared_sync story = view_sync _ _ _ _ _ (declared_sync SharedInside.the_type (repo_sync story, tt))
