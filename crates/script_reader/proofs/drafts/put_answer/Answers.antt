use Rattle.std.proofs.Common.{refl}
use Rattle.script_reader.proofs.LastStrands.{answer_put}
use Rattle.script_reader.proofs.drafts.put_answer.Goals as goal

pub returns-in-Some : goal.returns-in-Some
returns-in-Some c = answer_put c.args.draft.now c.in-Some.strand.now (c.in-Some.ensures.variant.0 refl) c.in-Some.ensures.value c.put.new.items c.args.answer c.in_ok-put.ensures
