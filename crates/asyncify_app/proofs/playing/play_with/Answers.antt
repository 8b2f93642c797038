-- The devices are those of the list that is lent.
use Rattle.std.proofs.Common.{rules}
use Rattle.asyncify_app.proofs.Boxes.{counted_same, ends_lent, kept_lent}
use Rattle.asyncify_app.proofs.playing.play_with.Goals as goal

pub returns-clause-one_end : goal.returns-clause-one_end
returns-clause-one_end g c =
    ends_lent c.args.way c.args.script.now _ _ _ _ _ _ _ _ _ _ _ c.play_script.result
    (counted_same _ _ _ _ c.new-lent.ensures.devices c.new-lent.ensures.counts) (search rules) c.play_script.ensures.one_end

pub returns-clause-devices : goal.returns-clause-devices
returns-clause-devices g c = λ zero nine twelve.
    kept_lent c.args.way c.args.script.now _ _ _ _ _ _ _ _ _ _ _ c.play_script.result
    (counted_same _ _ _ _ c.new-lent.ensures.devices c.new-lent.ensures.counts) (search rules) c.play_script.ensures.one_end zero nine twelve
