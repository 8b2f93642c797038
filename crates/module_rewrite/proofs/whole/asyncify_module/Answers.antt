use Rattle.std.proofs.Common.{ap, sym, subst, length, Err, drop, ◌<◌, ◌^◌, ◌∙◌}
use Rattle.std.proofs.lemmas.Result.{err_from_is_err_and}
use Rattle.wa_types.specs.declared.syntax.Module.{Module as ModuleValue}
use Rattle.wa_types.specs.Modules.{func_imports}
use Rattle.wa_types.specs.Runtime.{func_space, global_space}
use Rattle.wa_types.specs.View.{module_of}
use Rattle.call_graph.specs.Settings.{settings_of}
use Rattle.flatten.specs.Whole.{NonePasses}
use Rattle.module_rewrite.specs.Layouts.{LaidOut}
use Rattle.module_rewrite.specs.Whole.{Asyncifies}
use Rattle.module_rewrite.proofs.WholeLemmas.{globals_small, space_small, which_long}
use Rattle.module_rewrite.proofs.whole.asyncify_module.Goals as goal

pub returns-in_err-made : goal.returns-in_err-made
returns-in_err-made c =
    let p = err_from_is_err_and c.from_residual.result c.from_residual.ensures.1 in
    subst (Asyncifies (module_of c.args.valid.now) (settings_of c.args.settings.now)) (sym p.1)
    (subst (λ z. Asyncifies (module_of c.args.valid.now) (settings_of c.args.settings.now) (Err z)) (sym p.2) c.in_err-made.ensures)

pub ids_behind-ids-requires-clause-funcs : goal.ids_behind-ids-requires-clause-funcs
ids_behind-ids-requires-clause-funcs c =
    subst (λ (z : ModuleValue). func_space (module_of z) < 2 ^ 31) (sym c.module.ensures.same) (space_small (module_of c.args.valid.now) c.requires.sizes)

pub ids_behind-ids-requires-clause-globals : goal.ids_behind-ids-requires-clause-globals
ids_behind-ids-requires-clause-globals c =
    subst (λ (z : ModuleValue). global_space (module_of z) < 2 ^ 31) (sym c.module.ensures.same) (globals_small (module_of c.args.valid.now) c.requires.sizes)

pub func_layouts-requires-clause-which : goal.func_layouts-requires-clause-which
func_layouts-requires-clause-which c =
    ap length c.deref.ensures.value ∙ which_long (module_of c.args.valid.now) (settings_of c.args.settings.now) c.in_ok-made.made.instrumented.items c.in_ok-made.ensures.tells

pub func_layouts-requires-clause-listed : goal.func_layouts-requires-clause-listed
func_layouts-requires-clause-listed c = c.deref-2.ensures.value ∙ c.in_ok-made.ensures.listed

pub func_layouts-requires-clause-few : goal.func_layouts-requires-clause-few
func_layouts-requires-clause-few c =
    let m = module_of c.args.valid.now in
    subst (λ w. NonePasses m (drop (func_imports m) w) m.funcs) (sym c.deref.ensures.value) c.in_ok-made.ensures.few

pub returns : goal.returns
returns c =
    let m = module_of c.args.valid.now in
    let made = c.in_ok-made.ensures in
    record {
      free = made.free;
      tells = made.tells;
      few = made.few;
      emitted = made.emitted;
      rewrites = made.rewrites;
      reads = made.reads;
      layouts = subst (λ w. LaidOut m (settings_of c.args.settings.now) w (func_imports m) (drop (func_imports m) w) m.funcs c.in_ok-layouts.layouts.items)
          c.deref.ensures.value c.in_ok-layouts.ensures;
    }
