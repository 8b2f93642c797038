use Rattle.std.proofs.Common.{refl, sym, ap, ◌∙◌, subst}
use Rattle.wa_types.specs.View.{module_of}
use Rattle.wa_model.specs.Instantiation.{opens}
use Rattle.wa_model.specs.Protocol.{held_begun}
use Rattle.interp.specs.Host.{store_in}
use Rattle.pause_host.specs.Views.{left_of}
use Rattle.pause_host.specs.Programs.{FollowsAt, before}
use Rattle.pause_host.proofs.program.Program.opened.Goals as goal

pub returns-in-None-clause-next : goal.returns-in-None-clause-next
returns-in-None-clause-next g c = λ w notes os code is_open f.
    let x = c.args.self.now in
    let l = left_of x.left in
    let p = module_of x.valid.now in
    let place = ap (λ o. before (held_begun x.valid.now.start l o)) is_open
    ∙ ap (λ st. before (held_begun st l (opens (store_in c.args.instance)))) (ap (λ m. m.start) (sym c.module.ensures.same) ∙ c.in-None.is) in
    c.go_on.ensures.next w notes os (subst (FollowsAt w notes os x) place f) (code ∙ sym f.source) refl

pub returns-in-Some-clause-next : goal.returns-in-Some-clause-next
returns-in-Some-clause-next g c = λ w notes os code is_open f.
    let x = c.args.self.now in
    let l = left_of x.left in
    let p = module_of x.valid.now in
    let place = ap (λ o. before (held_begun x.valid.now.start l o)) is_open
    ∙ ap (λ st. before (held_begun st l (opens (store_in c.args.instance)))) (ap (λ m. m.start) (sym c.module.ensures.same) ∙ c.in-Some.is) in
    c.begin.ensures.next w notes os (code ∙ sym f.source) (subst (FollowsAt w notes os x) place f)

pub go_on-requires : goal.go_on-requires
go_on-requires g c =
    let x = c.args.self.now in
    let l = left_of x.left in
    let h = c.requires.goes in
    let place = ap (λ o. before (held_begun x.valid.now.start l o)) c.requires.store
    ∙ ap (λ st. before (held_begun st l (opens (store_in c.args.instance)))) (ap (λ m. m.start) (sym c.module.ensures.same) ∙ c.in-None.is) in
    record {
      program = h.program;
      notes = h.notes;
      outcomes = h.outcomes;
      at = subst (FollowsAt h.program h.notes h.outcomes x) place h.at;
      code = c.requires.code ∙ sym h.at.source;
    }

pub begin-requires : goal.begin-requires
begin-requires g c =
    let x = c.args.self.now in
    let l = left_of x.left in
    let h = c.requires.goes in
    let place = ap (λ o. before (held_begun x.valid.now.start l o)) c.requires.store
    ∙ ap (λ st. before (held_begun st l (opens (store_in c.args.instance)))) (ap (λ m. m.start) (sym c.module.ensures.same) ∙ c.in-Some.is) in
    record {
      program = h.program;
      notes = h.notes;
      outcomes = h.outcomes;
      at = subst (FollowsAt h.program h.notes h.outcomes x) place h.at;
      code = c.requires.code ∙ sym h.at.source;
    }
