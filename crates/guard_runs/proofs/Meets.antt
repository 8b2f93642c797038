-- What the laws ask of the small module.
use Rattle.std.proofs.Common.{◌≡◌, ℕ, zero, suc, ◌+◌, ◌<◌, List, [], ◌∷◌, ◌++◌, length, replicate, Option, Some, None, false, refl, lit<, subst, arith}
use Rattle.std.specs.Prelude.{slice_get}
use Rattle.wa_types.specs.declared.values.Value.{Value}
use Rattle.wa_types.specs.declared.values.Value.TheVariants as V
use Rattle.wa_types.specs.Pruned.{pruned}
use Rattle.wa_types.specs.Runtime.{with_runtime}
use Rattle.wa_types.specs.Modules.{defined_at, func_imports, func_type_at}
use Rattle.wa_types.specs.Syntax.{Code, Func}
use Rattle.wa_model.specs.Configuration.{Activation, waiting}
use Rattle.run_theory.specs.Flat.{code_of, followed_by, set_to}
use Rattle.wa_model.specs.Protocol.{exports_of}
use Rattle.wa_model.specs.Step.{entered, param_count}
use Rattle.guard_form.specs.Functions.{RoleCalls, indices_of}
use Rattle.guard_form.specs.Pieces.{flat_units, no_unit, first_piece}
use Rattle.guard_form.specs.Places.{at_start, in_block, call_labels, flat_labels, noted_code}
use Rattle.guard_runs.specs.Alike.{Alike, Paired, sides_of}
use Rattle.guard_runs.specs.Beside.{Near, directly}
use Rattle.guard_runs.specs.Modules.{SameFunction, DifferInFunctions}
use Rattle.guard_runs.specs.Stopped.{Stopped, host, above}
use Rattle.frame_laws.specs.Stack.{AllFit, CallsTo, directly as to_import}
use Rattle.guard_runs.specs.Joined.{one_frame}
use Rattle.guard_runs.specs.Levels.{MayStand}
use Rattle.guard_form.specs.Guarded.{guarded_body}
use Rattle.frame_laws.specs.Layout.{restore_code}
use Rattle.wa_types.specs.declared.values.ValType.TheVariants.{I32}
use Rattle.frame_laws.proofs.OneFunction.{layout_codes}
use Rattle.guard_runs.specs.Pause.{AreaReady, EntersEntry, PausesAt, RuntimeAt}
use Rattle.guard_runs.specs.SmallModule.{ComesBack, after_call, answer, around_call, entry, flat_function, guarded, is_sleep, layout, left, level, numbered_places, plan, role, setting, store, written_function}
use Rattle.guard_runs.proofs.WaitingLevels.{stopped_are_levels}
use Rattle.guard_runs.proofs.EachStretch.{calls_begin}
use Rattle.guard_runs.proofs.PairedModules.{paired_law}
use Rattle.guard_runs.proofs.Stores.{together}
use Rattle.guard_runs.proofs.Pausing.{answers_law, pauses_law}

same_function : SameFunction setting 1 flat_function written_function
unfolding code_of followed_by with_runtime
same_function = record { flat = refl; written = refl; locals = refl; size = refl }

at_func : (j : ℕ) (g g' : Func) → 1 + j < 2 → slice_get setting.flat.funcs j ≡ Some g → slice_get setting.written.funcs j ≡ Some g' → SameFunction setting (1 + j) g g'
unfolding with_runtime
at_func zero g g' lt e e' = let z : flat_function ≡ g = cc in let z' : written_function ≡ g' = cc in subst (λ y. SameFunction setting 1 y g') z
    (subst (λ y. SameFunction setting 1 flat_function y) z' same_function)
at_func (suc j) g g' lt e e' = absurd (omega (arith, lt))

calls_of_role : (x : ℕ) → RoleCalls (λ c. is_sleep c ≡ false) (role x)
unfolding followed_by pruned
calls_of_role zero = tt
calls_of_role (suc zero) = (tt, (((tt, tt), ((tt, tt), tt)), (((tt, tt), ((tt, tt), ((tt, tt), ((tt, tt), tt)))), tt), ((tt, tt), tt), tt))
calls_of_role (suc (suc x)) = tt

differ : DifferInFunctions setting
unfolding code_of followed_by with_runtime
differ = record {
  types = refl;
  imports = refl;
  memories = refl;
  sorts = refl;
  few = omega arith;
  each = λ j g g' lt e e'. at_func j g g' lt e e';
  calls = λ x lt. calls_of_role x;
  in_table = λ n x e. cc;
}

pub paired : Paired setting
paired = paired_law setting differ

alike : Alike setting store store
alike = record {
  own = [];
  more = V.I32 0 ∷ V.I32 0 ∷ [];
  quiet = refl;
  address = V.I32 0;
  low = replicate 16 7;
  held = replicate 40 7;
  held' = replicate 40 7;
  high = replicate 24 7;
  own_size = refl;
  globals = refl;
  globals' = refl;
  low_size = refl;
  held_size = refl;
  held_size' = refl;
  memory = refl;
  memory' = refl;
  table = refl;
  table' = refl;
}

pub begins : Near (sides_of setting) 9 (entered store [] [] 1 flat_function) (entered store [] [] 1 written_function)
unfolding code_of followed_by with_runtime
begins = calls_begin (sides_of setting) store store [] flat_function written_function (together setting paired) (omega arith) refl refl refl alike

-- ---- at the call

abbrev no_values : List Value
no_values = []

no_params : length no_values ≡ param_count (func_type_at setting.flat 0)
unfolding with_runtime
no_params = refl

abbrev behind : Code
behind = first_piece numbered_places 1 after_call

abbrev extra : List Value
extra = V.I32 0 ∷ V.I32 0 ∷ V.I64 0 ∷ []

abbrev own : List Value
own = V.I32 5 ∷ V.I32 0 ∷ []

abbrev flat_stack : List Activation
flat_stack = waiting 1 own [] [] (set_to (Some 1) (followed_by behind (flat_units no_unit))) (flat_labels guarded around_call) ∷ []

abbrev written_stack : List Activation
written_stack = waiting 1 (own ++ extra) [] [] (noted_code 0 guarded around_call 0 (Some 1) behind no_unit) (call_labels 0 guarded 0 around_call 0 no_unit) ∷ []

abbrev stopped : Stopped setting 0 flat_stack written_stack
stopped = above 1 (omega arith) refl own extra [] [] (record { size = refl; more = refl }) 0 (record { place = in_block 0 at_start; first_held = λ e c. refl }) (directly no_params) (omega arith) (host refl)

stands : MayStand setting (λ a. one_frame layout (Some I32)) stopped
unfolding with_runtime followed_by
stands = (
  (written_function, refl),
  record { index = refl; codes = layout_codes layout (guarded_body (indices_of 0 guarded) (restore_code layout) guarded.first guarded.body) (Some I32) 0 (λ e. cc) },
  refl,
  refl,
  (refl, tt),
  (refl, tt, tt),
  (omega arith, refl, lit< tt, tt),
  lit< tt,
  tt,
  refl,
  tt,
)

pub fits : AllFit 0 plan.area setting.written 0 1 (level ∷ [])
fits = (stopped_are_levels 0 plan.area setting (λ a. one_frame layout (Some I32)) 0 flat_stack written_stack stopped paired stands).fit

-- ---- the pause

pub runtime : RuntimeAt setting.written (exports_of setting.written) 0 1
unfolding with_runtime
runtime = record { sort = 1; start_unwind = refl; start_rewind = refl; stop_sort = 2; stop_unwind = refl; stop_rewind = refl; state_sort = 3; get_state = refl; tells = refl }

pub ready : AreaReady 0 0 1 plan.area store
ready =
    let z : length store.memory ≡ 80 = refl in
    record {
      state_above = omega arith;
      address_above = omega arith;
      apart = λ e. cc;
      state_there = omega arith;
      address_there = omega arith;
      least = omega arith;
      inside = omega arith;
      small = omega arith;
    }

pub pauses : PausesAt 0 0 1 setting.written (exports_of setting.written) plan entry 0 answer left store level []
pauses = pauses_law 0 0 1 setting.written (exports_of setting.written) plan entry 0 answer left store level [] runtime ready fits (omega arith)

-- ---- and back

enters : EntersEntry setting.written 0 entry level
unfolding with_runtime
enters = record { is = refl; func = written_function; defined = refl; body = refl; size = refl }

calls_sleep : (table : List (Option ℕ)) → CallsTo setting.written table level 0 0
unfolding with_runtime
calls_sleep table = to_import 0 refl refl

no_function : defined_at setting.written 0 ≡ None
unfolding with_runtime
no_function = refl

one_import : 0 < func_imports setting.written
unfolding with_runtime
one_import = omega arith

ready_again : (p : PausesAt 0 0 1 setting.written (exports_of setting.written) plan entry 0 answer left store level []) → AreaReady 0 0 1 plan.area p.store
ready_again p =
    let r = ready in
    let n = p.around.count in
    let z = p.around.size in
    let a = r.inside in
    let b = r.small in
    let c = r.state_there in
    let d = r.address_there in
    record {
      state_above = r.state_above;
      address_above = r.address_above;
      apart = r.apart;
      state_there = omega arith;
      address_there = omega arith;
      least = r.least;
      inside = omega arith;
      small = omega arith;
    }

pub answers : ComesBack
answers p =
    answers_law 0 0 1 setting.written (exports_of setting.written) plan entry 0 0 answer left p.store level [] runtime (ready_again p) fits tt (lit< tt) p.suspended (omega arith) enters
    (calls_sleep p.store.table) no_function one_import
