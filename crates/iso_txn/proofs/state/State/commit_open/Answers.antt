use Rattle.std.proofs.Common.{◌≡◌, ◌+◌, true, false, rules, ap, sym, ◌∙◌, subst}
use Rattle.change_set.specs.Content.{SameChanges}
use Rattle.journal.specs.Levels.{is_txn}
use Rattle.iso_txn.specs.Kept.{Kept, changes_where, ended}
use Rattle.iso_txn.proofs.StateLemmas.{commit_answer_is, commit_left, commit_over}
use Rattle.iso_txn.proofs.state.State.commit_open.Goals as goal

pub returns-then-not-branch-clause-reply : goal.returns-then-not-branch-clause-reply
returns-then-not-branch-clause-reply c =
    let same : SameChanges c.in_ok-own.own (changes_where (is_txn c.args.txn) c.args.self.now.writes) =
    subst (λ (k : Kept). SameChanges c.in_ok-own.own (changes_where (is_txn c.args.txn) k.writes)) c.self.view_is c.in_ok-own.ensures in
    let over : c.in_ok-apply.field-0 ≡ false = search rules in
    commit_answer_is c.args.limits.now c.args.place c.args.self.now c.args.txn c.requires.live c.requires.free c.in_ok-own.own same false (sym over ∙ c.in_ok-apply.ensures.fits)

pub returns-then-not-branch-clause-state : goal.returns-then-not-branch-clause-state
returns-then-not-branch-clause-state c =
    let same : SameChanges c.in_ok-own.own (changes_where (is_txn c.args.txn) c.args.self.now.writes) =
    subst (λ (k : Kept). SameChanges c.in_ok-own.own (changes_where (is_txn c.args.txn) k.writes)) c.self.view_is c.in_ok-own.ensures in
    let over : c.in_ok-apply.field-0 ≡ false = search rules in
    c.in_ok-apply.ensures.state ∙ commit_over c.args.limits.now c.args.place c.args.self.now c.args.txn c.requires.live c.requires.free c.in_ok-own.own same (sym over ∙ c.in_ok-apply.ensures.fits)

pub returns-clause-reply : goal.returns-clause-reply
returns-clause-reply c =
    let same : SameChanges c.in_ok-own.own (changes_where (is_txn c.args.txn) c.args.self.now.writes) =
    subst (λ (k : Kept). SameChanges c.in_ok-own.own (changes_where (is_txn c.args.txn) k.writes)) c.self.view_is c.in_ok-own.ensures in
    let fits : c.in_ok-apply.field-0 ≡ true = search rules in
    commit_answer_is c.args.limits.now c.args.place c.args.self.now c.args.txn c.requires.live c.requires.free c.in_ok-own.own same true (sym fits ∙ c.in_ok-apply.ensures.fits)

pub returns-clause-state : goal.returns-clause-state
returns-clause-state c =
    let same : SameChanges c.in_ok-own.own (changes_where (is_txn c.args.txn) c.args.self.now.writes) =
    subst (λ (k : Kept). SameChanges c.in_ok-own.own (changes_where (is_txn c.args.txn) k.writes)) c.self.view_is c.in_ok-own.ensures in
    let fits : c.in_ok-apply.field-0 ≡ true = search rules in
    ap (λ (k : Kept). record k { commits = k.commits + 1 }) (c.self-2.view_is ∙ (c.end.ensures ∙ ap (λ (k : Kept). ended c.args.place k c.args.txn) c.in_ok-apply.ensures.state))
    ∙ commit_left c.args.limits.now c.args.place c.args.self.now c.args.txn c.requires.live c.requires.free c.in_ok-own.own same (sym fits ∙ c.in_ok-apply.ensures.fits)
