use Rattle.std.proofs.Common.{◌≡◌, Some, refl, subst}
use Rattle.wa_types.specs.declared.syntax.Module.{Module as ModuleValue}
use Rattle.wa_types.specs.Modules.{defined_at}
use Rattle.wa_types.specs.Syntax.{Func}
use Rattle.wa_types.specs.View.{module_of}
use Rattle.interp_state.specs.Rooms.{room_of}
use Rattle.interp_state.proofs.RoomLemmas.{room_found}
use Rattle.interp_state.proofs.program.Program.room.Goals as goal

pub returns : goal.returns
returns c =
    let p = c.self.inside in
    subst (λ (m : ModuleValue). (f : Func) → defined_at (module_of m) c.args.func ≡ Some f → c.index.result.now ≡ room_of (module_of m) f) c.self.view_is
    (λ f here. room_found (module_of p.source.now) p.source.now.funcs.items p.rooms.items p.imports c.args.func c.index.result.now f refl c.self.invariant.2 c.self.invariant.1 here c.index.ensures)
