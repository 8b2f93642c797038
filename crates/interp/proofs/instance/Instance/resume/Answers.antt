use Rattle.std.proofs.Common.{◌-◌, ◌∙◌, sym, subst}
use Rattle.std.specs.Option.{option_to_list}
use Rattle.run_theory.specs.Fitting.{types_of}
use Rattle.interp.specs.Host.{code_in, store_in}
use Rattle.interp.specs.Instance.{Awaits, ResumeLacks, Resumes, waits_of}
use Rattle.interp.specs.WaitRooms.{WaitRoom}
use Rattle.interp_state.specs.View.{store_of}
use Rattle.interp.proofs.FittingTurns.{turns_fit, answered_fits, answered_turns}
use Rattle.interp.proofs.AnswerRoom.{answer_lacked, answered_lacks}
use Rattle.interp.proofs.RoomKept.{err_any, operands_hold}
use Rattle.interp.proofs.instance.Instance.resume.Goals as goal

pub returns-in_ok-turn-in-Inside-clause-resumes : goal.returns-in_ok-turn-in-Inside-clause-resumes
returns-in_ok-turn-in-Inside-clause-resumes c = λ outs ok a.
    let m = code_in c.args.self.now in
    let s = store_in c.args.self.now in
    let k = c.in-Inside.stack in
    let value = c.args.value in
    let turn = c.in_ok-turn-in-Inside.turn in
    let s' = store_of c.go_on.new.store in
    let w' = waits_of c.in_ok-turn-in-Inside.wait in
    let used = c.go_on.new.steps.used - c.args.steps.now.used in
    let is = sym c.replace.ensures.value ∙ c.in-Inside.is in
    let fits = answered_fits m outs s k c.in-Inside.taken value _ ok (subst (λ w. Awaits m outs (types_of (option_to_list value)) (waits_of w)) is a) c.in_ok-answer-in-Inside.ensures.puts in
    subst (λ w. Resumes m s (waits_of w) value c.args.steps.now.left used turn s' w') (sym is)
    (answered_turns m s k c.in-Inside.taken value _ c.args.steps.now.left used turn s' w' c.in_ok-answer-in-Inside.ensures.puts
    (c.in_ok-turn-in-Inside.ensures.turns c.valid_code.ensures (outs, fits)))

pub returns-in_ok-turn-in-Inside-clause-again : goal.returns-in_ok-turn-in-Inside-clause-again
returns-in_ok-turn-in-Inside-clause-again c = λ outs ok a.
    let m = code_in c.args.self.now in
    let types = types_of (option_to_list c.args.value) in
    let is = sym c.replace.ensures.value ∙ c.in-Inside.is in
    let fits = answered_fits m outs (store_in c.args.self.now) c.in-Inside.stack c.in-Inside.taken c.args.value _ ok
    (subst (λ w. Awaits m outs types (waits_of w)) is a) c.in_ok-answer-in-Inside.ensures.puts in
    turns_fit m c.valid_code.ensures outs _ _ _ c.in_ok-turn-in-Inside.turn _ _ fits (c.in_ok-turn-in-Inside.ensures.turns c.valid_code.ensures (outs, fits))

pub returns-in_err-answer-in-Inside-clause-lacks : goal.returns-in_err-answer-in-Inside-clause-lacks
returns-in_err-answer-in-Inside-clause-lacks c =
    let m = code_in c.args.self.now in
    let types = types_of (option_to_list c.args.value) in
    let is = sym c.replace.ensures.value ∙ c.in-Inside.is in
    err_any c.from_residual.result _
    (λ e outs ok a.
    absurd
    (answer_lacked m outs (store_in c.args.self.now) c.in-Inside.stack c.in-Inside.taken c.args.value c.in_err-answer-in-Inside.ensures.lacks ok
    (subst (λ w. Awaits m outs types (waits_of w)) is a) (subst (WaitRoom m) is c.args.self.now.room_is)))

pub returns-in_err-turn-in-Inside-clause-lacks : goal.returns-in_err-turn-in-Inside-clause-lacks
returns-in_err-turn-in-Inside-clause-lacks c =
    let m = code_in c.args.self.now in
    let s = store_in c.args.self.now in
    let k = c.in-Inside.stack in
    let types = types_of (option_to_list c.args.value) in
    let used = c.go_on.new.steps.used - c.args.steps.now.used in
    let s' = store_of c.go_on.new.store in
    let is = sym c.replace.ensures.value ∙ c.in-Inside.is in
    let room = operands_hold m k c.answer.new.operands c.answer.ensures.holds (subst (WaitRoom m) is c.args.self.now.room_is) in
    err_any c.from_residual-in_err-turn-in-Inside.result _
    (λ e outs ok a.
    let fits = answered_fits m outs s k c.in-Inside.taken c.args.value _ ok (subst (λ w. Awaits m outs types (waits_of w)) is a) c.in_ok-answer-in-Inside.ensures.puts in
    subst (λ w. ResumeLacks m s (waits_of w) c.args.value used s') (sym is)
    (answered_lacks m s k c.in-Inside.taken c.args.value _ used s' c.in_ok-answer-in-Inside.ensures.puts (c.in_err-turn-in-Inside.ensures.lacks c.valid_code.ensures (outs, fits) room)))
