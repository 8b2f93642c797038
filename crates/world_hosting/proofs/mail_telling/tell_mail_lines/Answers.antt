-- The host goes on with its world while its lines are printed.
use Rattle.std.proofs.Common.{arith, ℕ, List, length, map, refl, ◌∙◌, subst}
use Rattle.std.proofs.lemmas.List.{length-map}
use Rattle.std.specs.Prelude.{OnErr, OnOk}
use Rattle.vault_port.specs.Taken.{Appends, AppendsLess}
use Rattle.vault_port.specs.Told.{Becomes}
use Rattle.script_model.specs.Transcript.{last_line}
use Rattle.wa_model.specs.View.{line_of}
use Rattle.many_host.specs.Calls.{devices_of}
use Rattle.many_host.proofs.MailFew.{few_mail_lines}
use Rattle.transcript.specs.Printing.{names_of}
use Rattle.world_hosting.specs.Counts.{counted}
use Rattle.world_hosting.specs.Worlds.{world_program, world_programs}
use Rattle.world_hosting.proofs.MailHosted.{mail_host_seen, mail_line_counted, mail_line_told, mail_world_counted, no_mail_told}
use Rattle.world_hosting.proofs.MailPrinted.{mail_first, mail_less_last, mail_so_far, mail_told_less, mail_told_on, mail_told_whole}
use Rattle.world_hosting.proofs.Printed.{has_failed, if_err, line_begins, none_left, on_ok, within_names}
use Rattle.world_hosting.proofs.mail_telling.tell_mail_lines.Goals as goal

pub telling-init : goal.telling-init
telling-init g c = record {
  told = λ parts detaches boxes b empty.
      mail_first parts detaches boxes (counted (λ z. (goal.Device-dyn g z).seen z.1) (λ z. (goal.Device-dyn g z).faults z.1) c.args.devices.now) c.args.host.now c.args.mail.now _ (b.told _) b.begun empty;
  range = c.requires.range;
  same_list = refl;
  steady = refl;
}

pub telling-preserved : goal.telling-preserved
telling-preserved g c = record {
  told = λ parts detaches boxes b empty.
      let so_far = c.telling.invariant.told parts detaches boxes b empty in
      let t = so_far.0 in
      let ds = devices_of (counted (λ z. (goal.Device-dyn g z).seen z.1) (λ z. (goal.Device-dyn g z).faults z.1) c.args.devices.now) in
      let next =
      mail_line_told (world_programs parts) detaches boxes ds t.told.lines t.told.host.tellers _ _ _ _ c.next.new.self _ c.next.new.mail c.in-Ok.next c.in-Some.line c.in-Some.is
      (c.in-Ok.ensures.told 0 (world_programs parts) detaches boxes ds t.told.lines
      (mail_host_seen (λ z. (goal.Device-dyn g z).seen z.1) (λ z. (goal.Device-dyn g z).faults z.1) (world_programs parts) detaches boxes ds t.told.lines c.telling.devices c.telling.host c.telling.mail t.told.host)) in
      let counts = mail_line_counted (λ z. (goal.Device-dyn g z).seen z.1) (λ z. (goal.Device-dyn g z).faults z.1) (world_programs parts) detaches boxes ds t.told.lines t.told.host.tellers _ _ _ (line_of c.in-Some.line) c.next.new.devices c.next.new.self c.next.new.mail next in
      let begins = line_begins _ _ _ c.in-Ok.next c.in-Some.line c.in-Some.is c.in-Ok.ensures.begun in
      let more =
      mail_told_on parts detaches boxes _ c.telling.host _ c.telling.mail _ _ t c.next.new.self _ c.next.new.mail (map names_of c.args.names.now) b.names_are
      (line_of c.in-Some.line) counts begins _ c.in_default-put_line.ensures.printed in
      (more.0, omega (arith, more.1, so_far.1));
  range = c.in-Ok.ensures.range;
  same_list = c.next.ensures.same_list ∙ c.telling.invariant.same_list;
  steady = c.in_default-put_line.ensures.stays (λ e. cc) ∙ c.telling.invariant.steady;
}

pub returns-in_default-clause-part : goal.returns-in_default-clause-part
returns-in_default-clause-part g c = λ parts detaches boxes b empty.
    let t = (c.telling.invariant.told parts detaches boxes b empty).0 in
    let ds = devices_of (counted (λ z. (goal.Device-dyn g z).seen z.1) (λ z. (goal.Device-dyn g z).faults z.1) c.args.devices.now) in
    mail_so_far parts detaches boxes _ c.telling.host _ c.telling.mail _ _ t _
    (c.next.ensures.left 0 (world_programs parts) detaches boxes ds t.told.lines
    (mail_host_seen (λ z. (goal.Device-dyn g z).seen z.1) (λ z. (goal.Device-dyn g z).faults z.1) (world_programs parts) detaches boxes ds t.told.lines c.telling.devices c.telling.host c.telling.mail t.told.host)
    (has_failed c.next.result c.in_default.not-Ok))

pub returns-in_default-next-clause-told : goal.returns-in_default-next-clause-told
returns-in_default-next-clause-told g c = λ parts detaches boxes b empty.
    let t = (c.telling.invariant.told parts detaches boxes b empty).0 in
    let ds = devices_of (counted (λ z. (goal.Device-dyn g z).seen z.1) (λ z. (goal.Device-dyn g z).faults z.1) c.args.devices.now) in
    let world =
    no_mail_told (world_programs parts) detaches boxes ds t.told.lines t.told.host.tellers _ _ _ _ c.next.new.self _ c.next.new.mail c.in-Ok.next c.in_default-next.is
    (c.in-Ok.ensures.told 0 (world_programs parts) detaches boxes ds t.told.lines
    (mail_host_seen (λ z. (goal.Device-dyn g z).seen z.1) (λ z. (goal.Device-dyn g z).faults z.1) (world_programs parts) detaches boxes ds t.told.lines c.telling.devices c.telling.host c.telling.mail t.told.host)) in
    let both = mail_world_counted (λ z. (goal.Device-dyn g z).seen z.1) (λ z. (goal.Device-dyn g z).faults z.1) (world_programs parts) detaches boxes ds t.told.lines c.next.new.devices t.told.host.tellers (world.0, world.1) in
    on_ok c.put_last.result
    (mail_told_whole parts detaches boxes _ c.telling.host _ c.telling.mail _ _ t _ c.args.names.now b.names_are both.0 both.1 world.2
    (none_left _ _ c.in-Ok.next c.in_default-next.is c.in-Ok.ensures.none).1 _)
    (subst (λ (s : List ℕ). OnOk c.put_last.result (Becomes (g.S.Sink.taken c.telling.out) (g.S.Sink.taken c.put_last.new.out) (Appends s)))
    (λ k. last_line (length c.args.names.now) (c.events-events.ensures k)) c.put_last.ensures.printed)

pub returns-in_default-next-clause-part : goal.returns-in_default-next-clause-part
returns-in_default-next-clause-part g c = λ parts detaches boxes b empty.
    let t = (c.telling.invariant.told parts detaches boxes b empty).0 in
    let ds = devices_of (counted (λ z. (goal.Device-dyn g z).seen z.1) (λ z. (goal.Device-dyn g z).faults z.1) c.args.devices.now) in
    let world =
    no_mail_told (world_programs parts) detaches boxes ds t.told.lines t.told.host.tellers _ _ _ _ c.next.new.self _ c.next.new.mail c.in-Ok.next c.in_default-next.is
    (c.in-Ok.ensures.told 0 (world_programs parts) detaches boxes ds t.told.lines
    (mail_host_seen (λ z. (goal.Device-dyn g z).seen z.1) (λ z. (goal.Device-dyn g z).faults z.1) (world_programs parts) detaches boxes ds t.told.lines c.telling.devices c.telling.host c.telling.mail t.told.host)) in
    let both = mail_world_counted (λ z. (goal.Device-dyn g z).seen z.1) (λ z. (goal.Device-dyn g z).faults z.1) (world_programs parts) detaches boxes ds t.told.lines c.next.new.devices t.told.host.tellers (world.0, world.1) in
    if_err _ c.put_last.result
    (λ fault. mail_less_last parts detaches boxes _ c.telling.host _ c.telling.mail _ _ t _ c.args.names.now b.names_are both.0 both.1 world.2
    (none_left _ _ c.in-Ok.next c.in_default-next.is c.in-Ok.ensures.none).1 fault _)
    (subst (λ (s : List ℕ). OnErr c.put_last.result (Becomes (g.S.Sink.taken c.telling.out) (g.S.Sink.taken c.put_last.new.out) (AppendsLess s)))
    (λ k. last_line (length c.args.names.now) (c.events-events.ensures k)) c.put_last.ensures.less)

pub returns-in-Err-clause-part : goal.returns-in-Err-clause-part
returns-in-Err-clause-part g c = λ parts detaches boxes b empty.
    let t = (c.telling.invariant.told parts detaches boxes b empty).0 in
    let ds = devices_of (counted (λ z. (goal.Device-dyn g z).seen z.1) (λ z. (goal.Device-dyn g z).faults z.1) c.args.devices.now) in
    let next =
    mail_line_told (world_programs parts) detaches boxes ds t.told.lines t.told.host.tellers _ _ _ _ c.next.new.self _ c.next.new.mail c.in-Ok.next c.in-Some.line c.in-Some.is
    (c.in-Ok.ensures.told 0 (world_programs parts) detaches boxes ds t.told.lines
    (mail_host_seen (λ z. (goal.Device-dyn g z).seen z.1) (λ z. (goal.Device-dyn g z).faults z.1) (world_programs parts) detaches boxes ds t.told.lines c.telling.devices c.telling.host c.telling.mail t.told.host)) in
    let counts = mail_line_counted (λ z. (goal.Device-dyn g z).seen z.1) (λ z. (goal.Device-dyn g z).faults z.1) (world_programs parts) detaches boxes ds t.told.lines t.told.host.tellers _ _ _ (line_of c.in-Some.line) c.next.new.devices c.next.new.self c.next.new.mail next in
    let begins = line_begins _ _ _ c.in-Ok.next c.in-Some.line c.in-Some.is c.in-Ok.ensures.begun in
    mail_told_less parts detaches boxes _ c.telling.host _ c.telling.mail _ _ t c.next.new.self _ c.next.new.mail (map names_of c.args.names.now) b.names_are
    (line_of c.in-Some.line) counts begins c.in-Err.fault _ c.in-Err.ensures.less

pub next-requires-clause-tells : goal.next-requires-clause-tells
next-requires-clause-tells g c =
    let b = c.requires.begins in
    let t = (c.telling.invariant.told b.parts b.detaches b.boxes b.begins b.empty).0.told in
    let ds = devices_of (counted (λ z. (goal.Device-dyn g z).seen z.1) (λ z. (goal.Device-dyn g z).faults z.1) c.args.devices.now) in
    record {
      begun = 0;
      programs = world_programs b.parts;
      detaches = b.detaches;
      boxes = b.boxes;
      devices = ds;
      lines = t.lines;
      stands = mail_host_seen (λ z. (goal.Device-dyn g z).seen z.1) (λ z. (goal.Device-dyn g z).faults z.1) (world_programs b.parts) b.detaches b.boxes ds t.lines c.telling.devices c.telling.host c.telling.mail t.host;
    }

pub put_line-requires : goal.put_line-requires
put_line-requires g c =
    let b = c.requires.begins in
    let t = (c.telling.invariant.told b.parts b.detaches b.boxes b.begins b.empty).0 in
    let ds = devices_of (counted (λ z. (goal.Device-dyn g z).seen z.1) (λ z. (goal.Device-dyn g z).faults z.1) c.args.devices.now) in
    let next =
    mail_line_told (world_programs b.parts) b.detaches b.boxes ds t.told.lines t.told.host.tellers _ _ _ _ c.next.new.self _ c.next.new.mail c.in-Ok.next c.in-Some.line c.in-Some.is
    (c.in-Ok.ensures.told 0 (world_programs b.parts) b.detaches b.boxes ds t.told.lines
    (mail_host_seen (λ z. (goal.Device-dyn g z).seen z.1) (λ z. (goal.Device-dyn g z).faults z.1) (world_programs b.parts) b.detaches b.boxes ds t.told.lines c.telling.devices c.telling.host c.telling.mail t.told.host)) in
    within_names (world_programs b.parts) b.parts c.args.names.now (line_of c.in-Some.line) next.takes.w (length-map b.parts world_program) b.begins.names_are next.takes.program

pub unreachable-requires : goal.unreachable-requires
unreachable-requires g c =
    let b = c.requires.begins in
    let so_far = c.telling.invariant.told b.parts b.detaches b.boxes b.begins b.empty in
    let shows = c.telling.host.turns.shows in
    let few = few_mail_lines 0 (world_programs b.parts) b.detaches b.boxes _ so_far.0.told.lines c.telling.host _ c.telling.mail so_far.0.told.host c.telling.invariant.range.few in
    omega (arith, few, so_far.1, shows.ok.0, shows.ok.1, shows.small)
