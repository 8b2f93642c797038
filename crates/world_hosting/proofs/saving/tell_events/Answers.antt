-- The host goes on with its world while the lines of so many events are printed.
use Rattle.std.proofs.Common.{arith, [], map, refl, ◌∙◌}
use Rattle.wa_model.specs.View.{line_of}
use Rattle.many_host.specs.Calls.{devices_of}
use Rattle.many_host.specs.Standing.{held_of}
use Rattle.many_host.proofs.FewLines.{few_told}
use Rattle.transcript.specs.Printing.{names_of}
use Rattle.world_hosting.specs.Counts.{counted}
use Rattle.world_hosting.proofs.Printed.{cut_less, cut_so_far, has_failed, host_seen, line_begins, line_counted, line_told, none_met, none_told, told_on, within_names}
use Rattle.world_hosting.proofs.UpToEvents.{few_on, none_left_so, printed_as}
use Rattle.transcript.proofs.LineTexts.{nothing_yet}
use Rattle.world_hosting.proofs.saving.tell_events.Goals as goal

pub telling-init : goal.telling-init
telling-init g c = record {
  told = λ earlier programs parts detaches b.
      let ds = devices_of (counted (λ z. (goal.Device-dyn g z).seen z.1) (λ z. (goal.Device-dyn g z).faults z.1) c.args.devices.now) in (
        record {
          told = record { lines = []; host = b.told ds; met = []; took = (b.begun, refl); meets = none_met earlier programs detaches ds c.args.host.now ds (b.told ds) b.begun };
          printed = nothing_yet _;
        },
        refl,
      );
  range = c.requires.range;
  few = let below = c.requires.below in omega (arith, below);
  below = λ out. c.requires.below;
  same_list = refl;
  steady = refl;
}

pub telling-preserved : goal.telling-preserved
telling-preserved g c = record {
  told = λ earlier programs parts detaches b.
      let so_far = c.telling.invariant.told earlier programs parts detaches b in
      let t = so_far.0 in
      let ds = devices_of (counted (λ z. (goal.Device-dyn g z).seen z.1) (λ z. (goal.Device-dyn g z).faults z.1) c.args.devices.now) in
      let next =
      line_told earlier programs detaches ds t.told.lines t.told.host.tellers _ _ _ c.next_without_mail.new.self _ c.in-Ok.next c.in-Some.line c.in-Some.is
      (c.in-Ok.ensures.told_from earlier programs detaches ds t.told.lines
      (host_seen (λ z. (goal.Device-dyn g z).seen z.1) (λ z. (goal.Device-dyn g z).faults z.1) earlier programs detaches ds t.told.lines c.telling.devices c.telling.host t.told.host)) in
      let counts = line_counted (λ z. (goal.Device-dyn g z).seen z.1) (λ z. (goal.Device-dyn g z).faults z.1) earlier programs detaches ds t.told.lines t.told.host.tellers _ _ (line_of c.in-Some.line) c.next_without_mail.new.devices c.next_without_mail.new.self next in
      let begins = line_begins _ _ _ c.in-Ok.next c.in-Some.line c.in-Some.is c.in-Ok.ensures.begun in
      let more =
      told_on earlier programs parts detaches _ c.telling.host _ _ _ t c.next_without_mail.new.self _ (map names_of c.args.names.now) b.names_are (line_of c.in-Some.line) counts begins _
      c.in_default-put_line.ensures.printed in
      (more.0, omega (arith, more.1, so_far.1));
  range = c.in-Ok.ensures.range;
  few = few_on _ _ _ _ _ _ (line_begins _ _ _ c.in-Ok.next c.in-Some.line c.in-Some.is c.in-Ok.ensures.begun) c.in-Ok.ensures.goes_on c.telling.invariant.below c.telling.invariant.few;
  below = c.if-has_reached.ensures.fewer;
  same_list = c.next_without_mail.ensures.same_list ∙ c.telling.invariant.same_list;
  steady = c.in_default-put_line.ensures.stays (λ e. cc) ∙ c.telling.invariant.steady;
}

pub returns-in_default-clause-part : goal.returns-in_default-clause-part
returns-in_default-clause-part g c = λ earlier programs parts detaches b.
    let t = (c.telling.invariant.told earlier programs parts detaches b).0 in
    let ds = devices_of (counted (λ z. (goal.Device-dyn g z).seen z.1) (λ z. (goal.Device-dyn g z).faults z.1) c.args.devices.now) in
    cut_so_far earlier programs parts detaches _ c.telling.host _ _ _ t _
    (c.next_without_mail.ensures.left_from earlier programs detaches ds t.told.lines
    (host_seen (λ z. (goal.Device-dyn g z).seen z.1) (λ z. (goal.Device-dyn g z).faults z.1) earlier programs detaches ds t.told.lines c.telling.devices c.telling.host t.told.host) (has_failed c.next_without_mail.result c.in_default.not-Ok))
    c.args.most c.telling.invariant.few

pub returns-in-Err-clause-part : goal.returns-in-Err-clause-part
returns-in-Err-clause-part g c = λ earlier programs parts detaches b.
    let t = (c.telling.invariant.told earlier programs parts detaches b).0 in
    let ds = devices_of (counted (λ z. (goal.Device-dyn g z).seen z.1) (λ z. (goal.Device-dyn g z).faults z.1) c.args.devices.now) in
    let next =
    line_told earlier programs detaches ds t.told.lines t.told.host.tellers _ _ _ c.next_without_mail.new.self _ c.in-Ok.next c.in-Some.line c.in-Some.is
    (c.in-Ok.ensures.told_from earlier programs detaches ds t.told.lines
    (host_seen (λ z. (goal.Device-dyn g z).seen z.1) (λ z. (goal.Device-dyn g z).faults z.1) earlier programs detaches ds t.told.lines c.telling.devices c.telling.host t.told.host)) in
    let counts = line_counted (λ z. (goal.Device-dyn g z).seen z.1) (λ z. (goal.Device-dyn g z).faults z.1) earlier programs detaches ds t.told.lines t.told.host.tellers _ _ (line_of c.in-Some.line) c.next_without_mail.new.devices c.next_without_mail.new.self next in
    let begins = line_begins _ _ _ c.in-Ok.next c.in-Some.line c.in-Some.is c.in-Ok.ensures.begun in
    cut_less earlier programs parts detaches _ c.telling.host _ _ _ t c.next_without_mail.new.self _ (map names_of c.args.names.now) b.names_are (line_of c.in-Some.line) counts begins c.in-Err.fault _
    c.in-Err.ensures.less c.args.most (few_on _ _ _ _ _ _ begins c.in-Ok.ensures.goes_on c.telling.invariant.below c.telling.invariant.few)

pub next_without_mail-requires-clause-tells : goal.next_without_mail-requires-clause-tells
next_without_mail-requires-clause-tells g c =
    let b = c.requires.begins in
    let so_far = (c.telling.invariant.told b.earlier b.programs b.parts b.detaches b.begins).0 in
    let t = so_far.told in
    let ds = devices_of (counted (λ z. (goal.Device-dyn g z).seen z.1) (λ z. (goal.Device-dyn g z).faults z.1) c.args.devices.now) in
    record {
      begun = b.earlier;
      programs = b.programs;
      detaches = b.detaches;
      devices = ds;
      lines = t.lines;
      stands = host_seen (λ z. (goal.Device-dyn g z).seen z.1) (λ z. (goal.Device-dyn g z).faults z.1) b.earlier b.programs b.detaches ds t.lines c.telling.devices c.telling.host t.host;
    }

pub put_line-requires : goal.put_line-requires
put_line-requires g c =
    let b = c.requires.begins in
    let begins = b.begins in
    let t = (c.telling.invariant.told b.earlier b.programs b.parts b.detaches begins).0 in
    let ds = devices_of (counted (λ z. (goal.Device-dyn g z).seen z.1) (λ z. (goal.Device-dyn g z).faults z.1) c.args.devices.now) in
    let next =
    line_told b.earlier b.programs b.detaches ds t.told.lines t.told.host.tellers _ _ _ c.next_without_mail.new.self _ c.in-Ok.next c.in-Some.line c.in-Some.is
    (c.in-Ok.ensures.told_from b.earlier b.programs b.detaches ds t.told.lines
    (host_seen (λ z. (goal.Device-dyn g z).seen z.1) (λ z. (goal.Device-dyn g z).faults z.1) b.earlier b.programs b.detaches ds t.told.lines c.telling.devices c.telling.host t.told.host)) in
    within_names b.programs b.parts c.args.names.now (line_of c.in-Some.line) next.takes.w begins.wide begins.names_are next.takes.program

pub unreachable-requires : goal.unreachable-requires
unreachable-requires g c =
    let b = c.requires.begins in
    let so_far = c.telling.invariant.told b.earlier b.programs b.parts b.detaches b.begins in
    let shows = c.telling.host.turns.shows in
    let few = few_told b.earlier b.programs b.detaches _ so_far.0.told.lines (held_of c.telling.host.turns) _ c.telling.host.turns.stage so_far.0.told.host c.telling.invariant.range.few in
    omega (arith, few, so_far.1, shows.ok.0, shows.ok.1, shows.small)

pub returns-in_default-next-clause-told : goal.returns-in_default-next-clause-told
returns-in_default-next-clause-told g c = λ earlier programs parts detaches b.
    let t = (c.telling.invariant.told earlier programs parts detaches b).0 in
    let ds = devices_of (counted (λ z. (goal.Device-dyn g z).seen z.1) (λ z. (goal.Device-dyn g z).faults z.1) c.args.devices.now) in
    let world =
    none_told earlier programs detaches ds t.told.lines t.told.host.tellers _ _ _ c.next_without_mail.new.self _ c.in-Ok.next c.in_default-next.is
    (c.in-Ok.ensures.told_from earlier programs detaches ds t.told.lines
    (host_seen (λ z. (goal.Device-dyn g z).seen z.1) (λ z. (goal.Device-dyn g z).faults z.1) earlier programs detaches ds t.told.lines c.telling.devices c.telling.host t.told.host)) in
    printed_as earlier programs parts detaches _ c.telling.host c.next_without_mail.new.self _ _ _ _ (none_left_so _ c.in-Ok.next c.in_default-next.is c.in-Ok.ensures.same) world.2 t

pub returns-then-has_reached-clause-told : goal.returns-then-has_reached-clause-told
returns-then-has_reached-clause-told g c = λ earlier programs parts detaches b.
    let t = (c.telling.invariant.told earlier programs parts detaches b).0 in
    let ds = devices_of (counted (λ z. (goal.Device-dyn g z).seen z.1) (λ z. (goal.Device-dyn g z).faults z.1) c.args.devices.now) in
    let next =
    line_told earlier programs detaches ds t.told.lines t.told.host.tellers _ _ _ c.next_without_mail.new.self _ c.in-Ok.next c.in-Some.line c.in-Some.is
    (c.in-Ok.ensures.told_from earlier programs detaches ds t.told.lines
    (host_seen (λ z. (goal.Device-dyn g z).seen z.1) (λ z. (goal.Device-dyn g z).faults z.1) earlier programs detaches ds t.told.lines c.telling.devices c.telling.host t.told.host)) in
    let counts = line_counted (λ z. (goal.Device-dyn g z).seen z.1) (λ z. (goal.Device-dyn g z).faults z.1) earlier programs detaches ds t.told.lines t.told.host.tellers _ _ (line_of c.in-Some.line) c.next_without_mail.new.devices c.next_without_mail.new.self next in
    let begins = line_begins _ _ _ c.in-Ok.next c.in-Some.line c.in-Some.is c.in-Ok.ensures.begun in
    (told_on earlier programs parts detaches _ c.telling.host _ _ _ t c.next_without_mail.new.self _ (map names_of c.args.names.now) b.names_are (line_of c.in-Some.line) counts begins _
    c.in_default-put_line.ensures.printed).0
