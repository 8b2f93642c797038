use Rattle.std.proofs.Common.{◌≡◌, None, Some, sym, ◌∙◌, subst}
use Rattle.pause_host.specs.Programs.{FollowsAt, place_of}
use Rattle.pause_host.specs.declared.program.State.TheVariants.{Live}
use Rattle.pause_host.proofs.Advancing.{runs_on}
use Rattle.std.proofs.lemmas.Result.{IfOk-weaker}
use Rattle.pause_host.proofs.program.Program.live.Goals as goal

pub go_on-requires : goal.go_on-requires
go_on-requires g c = c.requires (runs_on c.args.stage c.in_default.not-Ended c.in_default.not-Ending)

pub returns-in-Ending-clause-next : goal.returns-in-Ending-clause-next
returns-in-Ending-clause-next g c = λ w notes os f code none.
    let x = c.args.self.now in
    c.tell_end-in-Ending.ensures.next w notes os _ _ _ (subst (λ st. FollowsAt w notes os x (place_of x (Live c.args.instance st))) c.in-Ending.is f) code

pub returns-in_default-clause-ending : goal.returns-in_default-clause-ending
returns-in_default-clause-ending g c = λ how told.
    let z : None ≡ Some how = sym (runs_on c.args.stage c.in_default.not-Ended c.in_default.not-Ending) ∙ told in absurd cc

pub returns-in-Ended-clause-receives : goal.returns-in-Ended-clause-receives
returns-in-Ended-clause-receives g c = λ none. IfOk-weaker c.tell_end.result _ _ (λ event h. h.0) c.tell_end.ensures.stops

pub returns-in-Ending-clause-receives : goal.returns-in-Ending-clause-receives
returns-in-Ending-clause-receives g c = λ none. IfOk-weaker c.tell_end-in-Ending.result _ _ (λ event h. h.0) c.tell_end-in-Ending.ensures.stops
