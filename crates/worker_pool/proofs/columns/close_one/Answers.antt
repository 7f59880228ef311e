use Rattle.std.proofs.Common.{◌≡◌, List, length, IsTrue, ◌∙◌, ap, subst}
use Rattle.journal_lock.specs.Passes.{seen}
use Rattle.journal.specs.declared.entry.Entry.{Entry}
use Rattle.journal.specs.declared.limits.Limits.{Limits}
use Rattle.journal.specs.Journal.{committed_after, commits_in}
use Rattle.journal.specs.Legal.{IsLegal}
use Rattle.journal.specs.SerialLaws.{is_stepped_read_committed}
use Rattle.shared_repo.specs.Passes.{limits_of}
use Rattle.worker_pool.proofs.columns.close_one.Goals as goal

pub returns : goal.returns
returns c =
    let limits : Limits = limits_of c.args.repo in
    let journal : List Entry = seen c.close-state.result.1 in
    let is : c.close-state.result.0.journal ≡ journal = c.close-state.ensures.journal in
    let same : c.close-state.result.0.limits ≡ limits = c.close-state.ensures.limits in
    record {
      ends = c.close-state.ensures.ends;
      whole = record {
        legal = subst (λ (z : List Entry). IsLegal z) is c.close-state.ensures.sound.legal;
        steps = subst (λ (z : List Entry). IsTrue (is_stepped_read_committed z)) is c.close-state.ensures.sound.steps;
        differ = c.close-state.ensures.differ;
        among = c.close-state.ensures.among;
        serial = c.close-state.ensures.serial;
        alone = λ t commit level at. c.committed_reads_as_if_alone.ensures limits journal t commit level at;
        quads = c.quads.ensures ∙ ap (λ (l : Limits). length (committed_after l c.close-state.result.0.journal)) same ∙ ap (λ (z : List Entry). length (committed_after limits z)) is;
        commits = c.commits.ensures ∙ ap (λ (l : Limits). commits_in l c.close-state.result.0.journal) same ∙ ap (λ (z : List Entry). commits_in limits z) is;
        entries = c.length.ensures.length ∙ ap length is;
      };
    }
