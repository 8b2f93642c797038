use Rattle.std.proofs.Common.{◌≡◌, ◌+◌, [], ◌∷◌, ◌++◌, reverse, refl, ap, sym, ◌∙◌, arith}
use Rattle.wa_types.specs.Memory.{number_at}
use Rattle.wa_types.specs.Syntax.{load}
use Rattle.interp_state.specs.Effects.{effect, worked}
use Rattle.interp_state.specs.View.{store_of}
use Rattle.interp_state.proofs.LoadLemmas.{load_shows}
use Rattle.interp_state.proofs.OperandLemmas.{top_first}
use Rattle.interp_state.proofs.memory.load_at.Goals as goal

pub returns-in_ok-push-in-Some-load-clause-shows : goal.returns-in_ok-push-in-Some-load-clause-shows
returns-in_ok-push-in-Some-load-clause-shows c =
    let s = store_of c.args.store.now in
    let below = c.pop.new.self.items in
    let addr = c.in-Some-I32.addr in
    let width = c.width_of-width.result in
    let number = c.in-Some-load.number in
    let popped = c.in-Some-I32.ensures.items ∙ ap (λ v. below ++ v ∷ []) c.in-Some-I32.field-0-is in
    let pushed = c.in_ok-push-in-Some-load.ensures.items ∙ ap (λ v. below ++ v ∷ []) c.load_value.ensures in
    let at : c.from.result + c.from-2.result ≡ addr + c.args.offset = omega arith in
    let read = ap (λ a. number_at s.memory a width) (sym at) ∙ sym c.in-Some-load.ensures.value in
    λ most align. (
      refl,
      ap (effect most (load c.args.op align c.args.offset) s) (top_first _ _ _ popped)
          ∙ load_shows most s (reverse below) addr c.args.op align c.args.offset width c.in-Some.access number c.in-Some.ensures read c.width_of-width.ensures.width
          ∙ ap (worked s) (sym (top_first _ _ _ pushed)),
    )
