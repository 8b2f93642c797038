use Rattle.std.proofs.Common.{Some, ◌++◌, ap, sym, ◌∙◌, subst, append_assoc, take, ◌-◌}
use Rattle.wasm_reader.specs.Progress.{Awaits}
use Rattle.wasm_reader.proofs.GoingOn.{goes_behind, same_bytes, awaits_more, hopeless_deep, at_file, in_file, all_of, behind_passed, used_reached}
use Rattle.wasm_reader.proofs.progress.go_on.Goals as goal

pub read_on-requires : goal.read_on-requires
read_on-requires c =
    let p = c.args.progress.now in
    let more = c.requires.more in (
      p.before.bytes ++ more.0,
      more.1,
      in_file c.args.bounds.now c.new-file.result p.before.bytes c.deref.result.now (p.before.bytes ++ more.0) p.base c.take-machine.result p.machine c.new-file.ensures
          c.take-machine.ensures.value more.3.going,
      all_of c.new-file.result p.before.bytes c.deref.result.now (more.0 ++ more.1) p.base c.new-file.ensures (c.deref.ensures.value ∙ more.2) ∙ sym (append_assoc p.before.bytes more.0 more.1),
    )

pub returns-clause-bytes : goal.returns-clause-bytes
returns-clause-bytes c =
    same_bytes c.args.progress.now.before.bytes c.args.progress.now.window.items c.in_ok-builder.used c.drop_front.new.progress c.drop_front.ensures.before c.drop_front.ensures.window

pub returns-clause-going : goal.returns-clause-going
returns-clause-going c =
    let p = c.args.progress.now in
    let b = c.args.bounds.now in
    let m = c.in_ok-machine.machine in
    let more = c.requires.more in
    let held = more.3.held in
    let going = at_file b c.new-file.result p.before.bytes c.deref.result.now p.window.items p.base (Some m) c.new-file.ensures c.deref.ensures.value c.in_ok-machine.ensures.going in
    let bytes = ap (take (c.reached.result - p.base)) c.deref-2.ensures.value in
    let far = used_reached p.before.bytes p.window.items _ m.at (c.reached.result - p.base) p.base c.in_ok-builder.used bytes (ap (λ z. z - p.base) c.reached.ensures)
    going.1 going.0.stands.within held c.in_ok-builder.ensures.within in
    let awaits = subst (Awaits b p.before.bytes p.window.items) (sym c.take-builder.ensures.value)
    (awaits_more b p.before.bytes more.0 more.1 p.window.items p.builder more.2 more.3.awaits) in
    let behind = behind_passed b p.before.bytes p.window.items _ (c.reached.result - p.base) p.base c.in_ok-builder.used c.take-builder.result c.in_ok-builder.builder c.is_deep-deep.result
    bytes c.in_ok-builder.ensures.built held (hopeless_deep b (p.before.bytes ++ p.window.items) m c.is_deep-deep.result going.0 c.is_deep-deep.ensures) awaits in
    goes_behind b p.before.bytes p.window.items p.base c.in_ok-builder.used m c.in_ok-builder.builder c.drop_front.new.progress held going behind far.0 far.1
    c.drop_front.ensures.before c.drop_front.ensures.window c.drop_front.ensures.base c.drop_front.ensures.machine c.drop_front.ensures.builder
