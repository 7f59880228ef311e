use Rattle.std.proofs.Common.{◌∙◌, ◌++◌, ap}
use Rattle.api_replies.proofs.PutLemmas.{location_put}
use Rattle.api_replies.proofs.short_writer.put_location.Goals as goal

pub returns-clause-items : goal.returns-clause-items
returns-clause-items c =
    location_put c.args.out.now.items c.put.new.out.items c.put-2.new.out.items c.put-3.new.out.items c.put-4.new.out.items
    c.put_name.new.out.items c.put-5.new.out.items c.args.repo.now c.args.txn c.put.ensures.items c.put-2.ensures.items
    (c.put-3.ensures.items ∙ ap (λ v. c.put-2.new.out.items ++ v) (c.as_bytes.ensures.value ∙ c.as_str.ensures))
    c.put-4.ensures.items c.put_name.ensures.items c.put-5.ensures.items
