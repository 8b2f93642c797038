-- What an interpreter's call needs of the place where a run stands.
use Rattle.std.proofs.Common.{List, subst}
use Rattle.std.proofs.lemmas.List.{map-append}
use Rattle.wa_types.specs.declared.values.ValType.{ValType}
use Rattle.wa_types.specs.declared.values.Value.{Value}
use Rattle.wa_types.specs.Syntax.{Module}
use Rattle.wa_types.specs.Typing.{type_of}
use Rattle.wa_model.specs.Store.{Store}
use Rattle.wa_model.specs.Configuration.{Activation}
use Rattle.wa_model.specs.Blocking.{resumed}
use Rattle.run_theory.specs.Fitting.{types_of, ActFits, Fits}
use Rattle.interp.specs.Instance.{inside, Awaits}

-- what waits may be given values, where it fits with them
pub awaits_from : (p : Module) (outs : List ValType) (s s0 : Store) (here : Activation) (under : List Activation) (vs : List Value)
    → Fits p outs (resumed (record { store = s0; here = here; under = under }) s vs) → Awaits p outs (types_of vs) (inside here under)
awaits_from p outs s s0 here under vs f =
    (subst (ActFits p here.func here.locals here.code here.labels) (map-append type_of vs here.operands) f.here, f.under)
