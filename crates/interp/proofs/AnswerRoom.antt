-- What waits has room for its answer, and where it lacks memory behind that.
use Rattle.std.proofs.Common.{arith, ◌≡◌, ℕ, ◌<◌, List, ◌++◌, length, map, reverse, drop, Option, vec_capacity, refl, subst}
use Rattle.std.specs.Option.{option_to_list}
use Rattle.wa_types.specs.declared.values.ValType.{ValType}
use Rattle.wa_types.specs.declared.values.Value.{Value}
use Rattle.wa_types.specs.Syntax.{Module}
use Rattle.wa_types.specs.View.{code}
use Rattle.wa_model.specs.Store.{Store}
use Rattle.wa_model.specs.Configuration.{running}
use Rattle.wa_model.specs.Step.{steps}
use Rattle.run_theory.specs.Fitting.{types_of, StoreFits}
use Rattle.interp_state.specs.declared.activation.Stack.{Stack}
use Rattle.interp.specs.declared.turns.Wait.TheVariants as WV
use Rattle.interp.specs.Instance.{Awaits, ResumeLacks, waits_of}
use Rattle.interp.specs.StackRooms.{StackRoom}
use Rattle.interp.specs.Runs.{LacksAt}
use Rattle.interp_state.specs.View.{label_of, waiting_of}
use Rattle.interp.proofs.FittingTurns.{answered_fits}
use Rattle.interp_state.proofs.OperandLemmas.{answered_with, answered_without}
use Rattle.interp.proofs.RoomKept.{operands_within}

pub answer_lacked : (m : Module) (outs : List ValType) (s : Store) (k : Stack) (taken : ℕ) (value : Option Value)
    → vec_capacity k.here.operands < length (option_to_list value ++ drop taken (reverse k.here.operands.items))
    → StoreFits m s → Awaits m outs (types_of (option_to_list value)) (waits_of (WV.Inside k taken)) → StackRoom m k → ⊥
answer_lacked m outs s k taken value lack ok a h =
    let ops = option_to_list value ++ drop taken (reverse k.here.operands.items) in
    let d = running s k.here.func (map waiting_of (reverse k.under.items)) k.here.locals.items ops (code k.here.code.now) (map label_of (reverse k.here.labels.items)) in
    let w = operands_within m outs (steps 0 d) 0 d (vec_capacity k.here.operands) refl (answered_fits m outs s k taken value ops ok a refl) h.here.operands in
    omega arith

-- where it goes on from its answer and lacks memory, the answer did
pub answered_lacks : (m : Module) (s : Store) (k : Stack) (taken : ℕ) (value : Option Value) (ops : List Value) (used : ℕ) (s' : Store)
    → ops ≡ option_to_list value ++ drop taken (reverse k.here.operands.items)
    → LacksAt m (running s k.here.func (map waiting_of (reverse k.under.items)) k.here.locals.items ops (code k.here.code.now) (map label_of (reverse k.here.labels.items))) used s'
    → ResumeLacks m s (waits_of (WV.Inside k taken)) value used s'
answered_lacks m s k taken value ops used s' e l =
    subst (λ o. LacksAt m (running s k.here.func (map waiting_of (reverse k.under.items)) k.here.locals.items o (code k.here.code.now) (map label_of (reverse k.here.labels.items))) used s') e l

-- an answer in place of what the call took
pub ruleset answering = (answered_with, answered_without)
