use Rattle.std.proofs.Common.{◌≡◌, Some, map, reverse, slice_get, ap, sym, ◌∙◌, subst}
use Rattle.std.proofs.lemmas.Result.{IfErr-weaker, IfOk-weaker}
use Rattle.wa_types.specs.View.{code, module_of}
use Rattle.interp.specs.StackRooms.{paid_for}
use Rattle.interp.specs.Told.{Tells}
use Rattle.interp_state.specs.View.{label_of, waiting_of, running_of}
use Rattle.interp.proofs.NumberLemmas.{indirect_invokes}
use Rattle.interp.proofs.calls.call_indirect.Goals as goal

pub returns : goal.returns
returns c =
    let m = module_of c.args.program.now in
    let k = c.args.stack.now in
    let under = map waiting_of (reverse k.under.items) in
    let ops = reverse k.here.operands.items in
    let place = c.in-Some.place in
    let func = c.in-Some-element.func in
    let found : slice_get c.args.table.now.items place ≡ Some (Some func) = sym c.element_at.ensures ∙ c.in-Some-element_at.is ∙ ap Some c.in-Some-element.is in
    record {
      tells =
          IfOk-weaker c.invoke.result _ _
          (λ f told s same.
          let path = indirect_invokes m s k.here.func under k.here.locals.items ops (map label_of (reverse k.here.labels.items))
          (code k.here.code.now) c.args.sort place func c.sort_params-params.result c.in-Some.ensures (ap (λ t. slice_get t place) same ∙ found) (sym c.has_type.ensures
          ∙ c.if-not-has_type.false) c.sort_params-params.ensures.count in
          subst (λ x. Tells s x c.args.left f (running_of s c.invoke.new.stack)) path (told s))
          c.invoke.ensures.tells;
      holds = c.invoke.ensures.holds;
      lacks =
          IfErr-weaker c.invoke.result _ _
          (λ e paid s same.
          let path = indirect_invokes m s k.here.func under k.here.locals.items ops (map label_of (reverse k.here.labels.items))
          (code k.here.code.now) c.args.sort place func c.sort_params-params.result c.in-Some.ensures (ap (λ t. slice_get t place) same ∙ found) (sym c.has_type.ensures
          ∙ c.if-not-has_type.false) c.sort_params-params.ensures.count in
          subst (λ x. paid_for x ≡ 0) path (paid s))
          c.invoke.ensures.lacks;
    }
