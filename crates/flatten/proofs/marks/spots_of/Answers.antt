use Rattle.std.proofs.Common.{ap, ◌+◌, ◌∙◌, ◌++◌, length, drop, get_or, false}
use Rattle.flatten.specs.Numbers.{pairs_in, pick, spots_in}
use Rattle.flatten.specs.declared.marks.Seen.{Seen}
use Rattle.flatten.proofs.MarkLemmas.{room_step, spots_on, next_is, get_either}
use Rattle.flatten.proofs.marks.spots_of.Goals as goal

pub loop-here-preserved : goal.loop-here-preserved
loop-here-preserved c =
    let j = c.loop-here.here-index in
    let s : Seen = get_or c.args.seen.now j (record { narrow = false; wide = false }) in
    let is = get_either c.args.seen.now j (record { narrow = false; wide = false }) s c.loop-here-test.true in
    let next = next_is c.loop-here.next c.next_local-narrow.new.next c.next_local-wide.new.next s c.next_local-narrow.ensures.next c.next_local-wide.ensures.next in
    record {
      room = ap (λ k. k + length (pairs_in (j + 1) (drop (j + 1) c.args.seen.now))) next
          ∙ room_step c.args.seen.now c.args.end c.loop-here.next j s c.loop-here-test.true is c.loop-here.invariant.room;
      same = ap (λ k. c.push.new.self.items ++ spots_in c.args.end k (drop (j + 1) c.args.seen.now)) next
          ∙ spots_on c.args.seen.now c.args.end c.loop-here.next j c.next_local-narrow.result c.next_local-wide.result s c.loop-here.spots.items
          c.push.new.self.items _ c.loop-here-test.true is c.next_local-narrow.ensures.local
          (c.next_local-wide.ensures.local ∙ ap (λ k. pick s.wide k c.args.end) c.next_local-narrow.ensures.next) c.in_ok-push.ensures.items c.loop-here.invariant.same;
    }
