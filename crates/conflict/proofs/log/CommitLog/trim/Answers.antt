use Rattle.std.proofs.Common.{rules, ap, ◌∙◌, filter}
use Rattle.std.specs.Prelude.{nat_le}
use Rattle.std.proofs.lemmas.Fn.{filter_same}
use Rattle.conflict.specs.Logs.{LoggedDelta}
use Rattle.conflict.proofs.log.CommitLog.trim.Goals as goal

pub returns-clause-kept : goal.returns-clause-kept
returns-clause-kept c =
    let stays = λ (it : LoggedDelta). nat_le c.args.before it.place in
    filter_same _ stays _ (λ it b f r. search rules) c.self.inside.kept.items c.retain.new.self.items c.retain.ensures.filtered
    ∙ ap (λ v. filter stays v.kept) c.self.view_is
