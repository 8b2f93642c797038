use Rattle.std.proofs.Common.{arith, refl}
use Rattle.many_host.specs.Standing.{latest, most_due}
use Rattle.many_host.proofs.DueTicks.{dues_later}
use Rattle.many_host.proofs.Starting.{stands_first}
use Rattle.many_host.proofs.turn_taking.Turns.new.Goals as goal

pub returns-clause-stands : goal.returns-clause-stands
returns-clause-stands g c = λ ws ds s.
    stands_first c.args.begun g.T.Teller.follows g.T.Teller.has_ended g.T.Teller.memory ws ds (record {
      programs = c.args.programs.items;
      dues = c.args.dues.items;
      detaches = c.args.detaches.items;
      shows = c.args.shows.items;
      begun = c.args.begun;
      earlier = c.args.begun;
    }) refl refl s

pub returns-clause-range : goal.returns-clause-range
returns-clause-range g c = record {
  few = c.requires.few;
  wide = c.requires.wide;
  place = tt;
  few_earlier = c.requires.early;
  in_order = omega arith;
  dues = dues_later most_due (latest c.args.begun c.args.begun) c.args.dues.items (omega arith) c.requires.dues;
  turn = tt;
}
