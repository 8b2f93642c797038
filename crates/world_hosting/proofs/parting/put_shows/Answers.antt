use Rattle.std.proofs.Common.{append-nil, ap, map, sym, ◌++◌, ◌∙◌}
use Rattle.std.proofs.lemmas.List.{take_all}
use Rattle.world_hosting.specs.Parted.{show_at}
use Rattle.world_hosting.proofs.SetUp.{shown_more}
use Rattle.world_hosting.proofs.parting.put_shows.Goals as goal

pub loop-text-init : goal.loop-text-init
loop-text-init c = sym (append-nil c.args.shows.now.items)

pub loop-text-preserved : goal.loop-text-preserved
loop-text-preserved c =
    shown_more (show_at c.args.program) c.args.shows.now.items c.loop-text.shows.items c.push.new.self.items c.args.texts.now c.loop-text.text-index (record { line = 0; at = 0; len = 0 })
    c.in_ok-push.ensures.items c.loop-text-test.true c.loop-text.invariant

pub returns : goal.returns
returns c = c.loop-text.invariant ∙ ap (λ texts. c.args.shows.now.items ++ map (show_at c.args.program) texts) (take_all c.loop-text.text-index c.args.texts.now c.loop-text-test.false)
