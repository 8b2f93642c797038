use Rattle.std.proofs.Common.{sym, ◌∙◌, refl}
use Rattle.snapshot_store.specs.Views.{parts_of}
use Rattle.pause_host.specs.declared.program.Program.{Program}
use Rattle.pause_host.proofs.Thawings.{short_at, takes}
use Rattle.pause_host.proofs.program.Program.take_pause.Goals as goal

pub returns-in-Some-pop_front-clause-takes : goal.returns-in-Some-pop_front-clause-takes
returns-in-Some-pop_front-clause-takes c = λ w is short.
    let parts = parts_of c.args.parts.now in
    let new : Program = record c.args.self.now {
      left = record { number = c.args.parts.now.entry; entries = c.pop_front.new.self; answers = c.pop_front-in-Some.new.self };
    } in
    let lines = sym c.drop_front-2.ensures ∙ c.in-Some-pop_front.ensures.items in
    takes w c.args.self.now parts c.args.size new c.suspended.result c.in-Some.entry c.in-Some-pop_front.line refl (sym c.drop_front.ensures ∙ c.in-Some.ensures.items) lines
    (c.suspended.ensures w is (short_at w c.args.self.now parts c.args.size new c.in-Some-pop_front.line _ lines short))
