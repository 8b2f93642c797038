-- The host goes on with its world while its lines are printed.
use Rattle.std.proofs.Common.{arith, ℕ, List, length, map, refl, ◌∙◌, subst}
use Rattle.std.specs.Prelude.{OnErr, OnOk}
use Rattle.vault_port.specs.Taken.{Appends, AppendsLess}
use Rattle.vault_port.specs.Told.{Becomes}
use Rattle.script_model.specs.Transcript.{last_line}
use Rattle.many_host.specs.Calls.{devices_of}
use Rattle.strand_host.specs.StrandCalls.{strand_line_of}
use Rattle.world_hosting.specs.Counts.{counted}
use Rattle.script_command.specs.StrandParts.{names_in}
use Rattle.script_command.specs.StrandWorldsTold.{strand_worlds}
use Rattle.script_command.proofs.FewStrandLines.{few_strand_lines}
use Rattle.script_command.proofs.LinesOfStrands.{last_of_strand, line_named}
use Rattle.script_command.proofs.StrandsPrinted.{has_failed, if_err, no_strand_told, none_left, on_ok, strand_host_seen, strand_line_begins, strand_line_counted, strand_line_told, strands_first, strands_less, strands_less_last, strands_on, strands_so_far, strands_whole}
use Rattle.script_command.proofs.strand_telling.tell_strand_lines.Goals as goal

pub telling-init : goal.telling-init
telling-init g c = record {
  told = λ programs detaches b.
      strands_first programs detaches (counted (λ z. (goal.Device-dyn g z).seen z.1) (λ z. (goal.Device-dyn g z).faults z.1) c.args.devices.now) c.args.host.now _ (b.told _) b.begun;
  range = c.requires.range;
  same_list = refl;
  steady = refl;
}

pub telling-preserved : goal.telling-preserved
telling-preserved g c = record {
  told = λ programs detaches b.
      let so_far = c.telling.invariant.told programs detaches b in
      let t = so_far.0 in
      let gs = strand_worlds programs in
      let ds = devices_of (counted (λ z. (goal.Device-dyn g z).seen z.1) (λ z. (goal.Device-dyn g z).faults z.1) c.args.devices.now) in
      let next =
      strand_line_told gs detaches ds t.told.lines t.told.host.tellers _ _ _ c.next.new.self _ c.in-Ok.next c.in-Some.line c.in-Some.is
      (c.in-Ok.ensures.told gs detaches ds t.told.lines
      (strand_host_seen (λ z. (goal.Device-dyn g z).seen z.1) (λ z. (goal.Device-dyn g z).faults z.1) gs detaches ds t.told.lines c.telling.devices c.telling.host t.told.host)) in
      let counts =
      strand_line_counted (λ z. (goal.Device-dyn g z).seen z.1) (λ z. (goal.Device-dyn g z).faults z.1) gs detaches ds t.told.lines c.next.new.devices t.told.host.tellers _ _ (strand_line_of c.in-Some.line)
      c.next.new.self next in
      let begins = strand_line_begins _ _ _ c.in-Ok.next c.in-Some.line c.in-Some.is c.in-Ok.ensures.begun in
      let more =
      strands_on programs detaches _ c.telling.host _ _ _ t c.next.new.self _ (map names_in c.args.names.now) b.names_are (strand_line_of c.in-Some.line) counts begins _
      c.in_default-put_strand_line.ensures.printed in
      (more.0, omega (arith, more.1, so_far.1));
  range = c.in-Ok.ensures.range;
  same_list = c.next.ensures.same_list ∙ c.telling.invariant.same_list;
  steady = c.in_default-put_strand_line.ensures.stays (λ e. cc) ∙ c.telling.invariant.steady;
}

pub returns-in_default-clause-part : goal.returns-in_default-clause-part
returns-in_default-clause-part g c = λ programs detaches b.
    let t = (c.telling.invariant.told programs detaches b).0 in
    let gs = strand_worlds programs in
    let ds = devices_of (counted (λ z. (goal.Device-dyn g z).seen z.1) (λ z. (goal.Device-dyn g z).faults z.1) c.args.devices.now) in
    strands_so_far programs detaches _ c.telling.host _ _ _ t _
    (c.next.ensures.left gs detaches ds t.told.lines
    (strand_host_seen (λ z. (goal.Device-dyn g z).seen z.1) (λ z. (goal.Device-dyn g z).faults z.1) gs detaches ds t.told.lines c.telling.devices c.telling.host t.told.host)
    (has_failed c.next.result c.in_default.not-Ok))

pub returns-in_default-next-clause-told : goal.returns-in_default-next-clause-told
returns-in_default-next-clause-told g c = λ programs detaches b.
    let t = (c.telling.invariant.told programs detaches b).0 in
    let gs = strand_worlds programs in
    let ds = devices_of (counted (λ z. (goal.Device-dyn g z).seen z.1) (λ z. (goal.Device-dyn g z).faults z.1) c.args.devices.now) in
    let kept =
    no_strand_told gs detaches ds t.told.lines t.told.host.tellers _ _ _ c.next.new.self _ c.in-Ok.next c.in_default-next.is
    (c.in-Ok.ensures.told gs detaches ds t.told.lines
    (strand_host_seen (λ z. (goal.Device-dyn g z).seen z.1) (λ z. (goal.Device-dyn g z).faults z.1) gs detaches ds t.told.lines c.telling.devices c.telling.host t.told.host)) in
    on_ok c.put_last.result
    (strands_whole programs detaches _ c.telling.host _ _ _ t _ c.args.names.now b.names_are kept (none_left _ _ c.in-Ok.next c.in_default-next.is c.in-Ok.ensures.none) _)
    (subst (λ (s : List ℕ). OnOk c.put_last.result (Becomes (g.S.Sink.taken c.telling.out) (g.S.Sink.taken c.put_last.new.out) (Appends s)))
    (λ k. last_line (length c.args.names.now) (c.events-events.ensures k)) c.put_last.ensures.printed)

pub returns-in_default-next-clause-part : goal.returns-in_default-next-clause-part
returns-in_default-next-clause-part g c = λ programs detaches b.
    let t = (c.telling.invariant.told programs detaches b).0 in
    let gs = strand_worlds programs in
    let ds = devices_of (counted (λ z. (goal.Device-dyn g z).seen z.1) (λ z. (goal.Device-dyn g z).faults z.1) c.args.devices.now) in
    let kept =
    no_strand_told gs detaches ds t.told.lines t.told.host.tellers _ _ _ c.next.new.self _ c.in-Ok.next c.in_default-next.is
    (c.in-Ok.ensures.told gs detaches ds t.told.lines
    (strand_host_seen (λ z. (goal.Device-dyn g z).seen z.1) (λ z. (goal.Device-dyn g z).faults z.1) gs detaches ds t.told.lines c.telling.devices c.telling.host t.told.host)) in
    if_err _ c.put_last.result
    (λ fault. strands_less_last programs detaches _ c.telling.host _ _ _ t _ c.args.names.now b.names_are kept
    (none_left _ _ c.in-Ok.next c.in_default-next.is c.in-Ok.ensures.none) fault _)
    (subst (λ (s : List ℕ). OnErr c.put_last.result (Becomes (g.S.Sink.taken c.telling.out) (g.S.Sink.taken c.put_last.new.out) (AppendsLess s)))
    (λ k. last_line (length c.args.names.now) (c.events-events.ensures k)) c.put_last.ensures.less)

pub returns-in-Err-clause-part : goal.returns-in-Err-clause-part
returns-in-Err-clause-part g c = λ programs detaches b.
    let t = (c.telling.invariant.told programs detaches b).0 in
    let gs = strand_worlds programs in
    let ds = devices_of (counted (λ z. (goal.Device-dyn g z).seen z.1) (λ z. (goal.Device-dyn g z).faults z.1) c.args.devices.now) in
    let next =
    strand_line_told gs detaches ds t.told.lines t.told.host.tellers _ _ _ c.next.new.self _ c.in-Ok.next c.in-Some.line c.in-Some.is
    (c.in-Ok.ensures.told gs detaches ds t.told.lines
    (strand_host_seen (λ z. (goal.Device-dyn g z).seen z.1) (λ z. (goal.Device-dyn g z).faults z.1) gs detaches ds t.told.lines c.telling.devices c.telling.host t.told.host)) in
    let counts =
    strand_line_counted (λ z. (goal.Device-dyn g z).seen z.1) (λ z. (goal.Device-dyn g z).faults z.1) gs detaches ds t.told.lines c.next.new.devices t.told.host.tellers _ _ (strand_line_of c.in-Some.line)
    c.next.new.self next in
    let begins = strand_line_begins _ _ _ c.in-Ok.next c.in-Some.line c.in-Some.is c.in-Ok.ensures.begun in
    strands_less programs detaches _ c.telling.host _ _ _ t c.next.new.self _ (map names_in c.args.names.now) b.names_are (strand_line_of c.in-Some.line) counts begins c.in-Err.fault _ c.in-Err.ensures.less

pub next-requires-clause-tells : goal.next-requires-clause-tells
next-requires-clause-tells g c =
    let b = c.requires.begins in
    let t = (c.telling.invariant.told b.programs b.detaches b.begins).0.told in
    let gs = strand_worlds b.programs in
    let ds = devices_of (counted (λ z. (goal.Device-dyn g z).seen z.1) (λ z. (goal.Device-dyn g z).faults z.1) c.args.devices.now) in
    record {
      programs = gs;
      detaches = b.detaches;
      devices = ds;
      lines = t.lines;
      stands = strand_host_seen (λ z. (goal.Device-dyn g z).seen z.1) (λ z. (goal.Device-dyn g z).faults z.1) gs b.detaches ds t.lines c.telling.devices c.telling.host t.host;
    }

pub put_strand_line-requires : goal.put_strand_line-requires
put_strand_line-requires g c =
    let b = c.requires.begins in
    let t = (c.telling.invariant.told b.programs b.detaches b.begins).0 in
    let gs = strand_worlds b.programs in
    let ds = devices_of (counted (λ z. (goal.Device-dyn g z).seen z.1) (λ z. (goal.Device-dyn g z).faults z.1) c.args.devices.now) in
    let next =
    strand_line_told gs b.detaches ds t.told.lines t.told.host.tellers _ _ _ c.next.new.self _ c.in-Ok.next c.in-Some.line c.in-Some.is
    (c.in-Ok.ensures.told gs b.detaches ds t.told.lines
    (strand_host_seen (λ z. (goal.Device-dyn g z).seen z.1) (λ z. (goal.Device-dyn g z).faults z.1) gs b.detaches ds t.told.lines c.telling.devices c.telling.host t.told.host)) in
    line_named b.programs b.detaches c.args.host.now c.args.names.now b.begins (strand_line_of c.in-Some.line)
    (last_of_strand gs b.detaches ds t.told.lines (strand_line_of c.in-Some.line) c.next.new.self _ next.stands)

pub unreachable-requires : goal.unreachable-requires
unreachable-requires g c =
    let b = c.requires.begins in
    let so_far = c.telling.invariant.told b.programs b.detaches b.begins in
    let shows = c.telling.host.turns.shows in
    let few = few_strand_lines (strand_worlds b.programs) b.detaches _ so_far.0.told.lines c.telling.host _ so_far.0.told.host c.telling.invariant.range.few (omega (arith, shows.ok.0, shows.ok.1, shows.small)) in
    omega (arith, few, so_far.1)
