use Rattle.std.proofs.Common.{◌∙◌, ap, map, refl}
use Rattle.strand_host.proofs.StrandBegun.{stands_first}
use Rattle.strand_host.proofs.turn_taking.StrandTurns.new.Goals as goal

pub returns-clause-stands : goal.returns-clause-stands
returns-clause-stands g c = λ gs ds s.
    stands_first g.T.Weaver.follows g.T.Weaver.due_at g.T.Weaver.memory gs ds (record {
      programs = c.args.programs.items;
      dues = c.in_ok-dues.dues.items;
      detaches = c.args.detaches.items;
      shows = c.args.shows.items;
      begun = 0;
    }) refl (c.in_ok-dues.ensures ∙ ap (map g.T.Weaver.due_at) c.deref.ensures.value) s
