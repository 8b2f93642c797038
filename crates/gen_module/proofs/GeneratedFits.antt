-- The numbers of generated modules lie in the ranges of their types, and the plan fits them.
use Rattle.std.proofs.Common.{arith, ◌≤◌, ◌<◌, ◌^◌, ◌%◌, ℕ, zero, suc, [], ◌∷◌, All, refl, ap}
use Rattle.std.specs.Prelude.{Contains, codes}
use Rattle.std.proofs.lemmas.List.Elements.{All-nil, All-cons, All-append}
use Rattle.wa_types.specs.declared.syntax.Run.{Run}
use Rattle.wa_types.specs.declared.values.Value.TheVariants as V
use Rattle.wa_types.specs.Base.{Base}
use Rattle.wa_types.specs.Modules.{func_type_at}
use Rattle.wa_types.specs.Runtime.{runtime_names}
use Rattle.wa_types.specs.Sizes.{CodeFits, CustomFits, ElemFits, ExportFits, FuncFits, ImportFits, LimitsFit, SegmentFits, WellFormed, value_fits}
use Rattle.wa_types.specs.Syntax.{FuncType, GlobalDef}
use Rattle.wa_ops.specs.Operate.{are_of}
use Rattle.wa_model.specs.Plan.{AreLawful, EntryFits, Fits, OutcomeFits, PokeFits, given}
use Rattle.gen_module.specs.Generated.{func_by, generated, generated_func, generated_funcs, one_local, run_export, sleep}
use Rattle.gen_module.specs.GeneratedRuns.{run_plan, wakes}
use Rattle.gen_module.proofs.GeneratedFrames.{defined_there, typed_there}

-- ---- ranges

abbrev Small : Run → Type 0
Small r = r.count < 2 ^ 32

by_fits : (i r : ℕ) → i ≤ 4000 → FuncFits (func_by i r)
by_fits i zero le = record {
  sort = omega arith;
  locals = All-cons Small one_local [] (omega arith) (All-nil Small);
  body = ((omega arith, (omega arith, (omega arith, (omega arith, (omega arith, tt))))), (omega arith, tt));
}
by_fits i (suc zero) le = record { sort = omega arith; locals = All-nil Small; body = (omega arith, (omega arith, (omega arith, (tt, tt)))) }
by_fits i (suc (suc k)) le = record {
  sort = omega arith;
  locals = All-nil Small;
  body = (omega arith, ((omega arith, (omega arith, tt)), (omega arith, tt), (omega arith, (tt, tt))));
}

func_fits : (i : ℕ) → i ≤ 4000 → FuncFits (generated_func i)
func_fits zero le = record { sort = omega arith; locals = All-nil Small; body = (omega arith, (omega arith, (omega arith, (tt, tt)))) }
func_fits (suc i) le = by_fits (suc i) (suc i % 3) le

funcs_fit : (n : ℕ) → n ≤ 4000 → All FuncFits (generated_funcs n)
funcs_fit zero le = All-nil FuncFits
funcs_fit (suc n) le =
    All-append FuncFits (generated_funcs n) (generated_func n ∷ []) (funcs_fit n (omega arith)) (All-cons FuncFits (generated_func n) [] (func_fits n (omega arith)) (All-nil FuncFits))

pub well_formed : (n : ℕ) → n ≤ 4000 → WellFormed (generated n)
unfolding generated lib.Utf8.encode
well_formed n le = record {
  imports = All-cons ImportFits sleep [] (record { module_name = (codes "env", (refl, refl)); base = (codes "sleep", (refl, refl)); kind = omega arith }) (All-nil ImportFits);
  funcs = funcs_fit n le;
  tables = All-nil LimitsFit;
  memories = All-nil LimitsFit;
  globals = All-nil (λ (g : GlobalDef). CodeFits g.init);
  exports = All-cons ExportFits (run_export n) [] (record { name = (codes "run", (refl, refl)); index = omega arith }) (All-nil ExportFits);
  start = tt;
  elems = All-nil ElemFits;
  segments = All-nil SegmentFits;
  customs = All-nil CustomFits;
}

-- ---- the plan

no_run : Contains runtime_names (codes "run") → ⊥
no_run (zero, lt, e) = cc
no_run (suc zero, lt, e) = cc
no_run (suc (suc zero), lt, e) = cc
no_run (suc (suc (suc zero)), lt, e) = cc
no_run (suc (suc (suc (suc zero))), lt, e) = cc
no_run (suc (suc (suc (suc (suc k)))), lt, e) = absurd (omega arith)

args_fit : (n : ℕ) → AreLawful (func_type_at (generated n) n).params (V.I32 7 ∷ [])
args_fit n = record {
  typed = ap (λ (t : FuncType). are_of t.params (V.I32 7 ∷ [])) (typed_there n n (omega arith));
  ranges = All-cons value_fits (V.I32 7) [] (omega arith) (All-nil value_fits);
}

pub plan_fits : (k : ℕ) → Fits (generated (suc k)) (run_plan (suc k))
unfolding Base generated
plan_fits k = record {
  globals = record { typed = refl; ranges = All-nil value_fits };
  entries = All-cons (EntryFits (generated (suc k))) _ [] (record {
    defined = (generated_func k, defined_there (suc k) k (omega arith));
    exported = (run_export (suc k), (0, omega arith, refl), record { space = refl; index = refl; name = no_run });
    args = args_fit (suc k);
  }) (All-nil (EntryFits (generated (suc k))));
  area = record { aligned = refl; least = omega arith; inside = omega arith };
}

pub outcome_fits : OutcomeFits (given wakes)
outcome_fits = record { said = omega arith; pokes = All-nil PokeFits; ticks = omega arith }
