-- Facts on the levels of a suspended stack: who calls whom, the outermost function, and what both ways cost.
use Rattle.frame_laws.specs.Function.{function_code}
use Rattle.frame_laws.specs.Stack.{AllFit, CallsTo, Level, outer_of, rewinding_all, unwinding_all}
use Rattle.guard_form.specs.Bounds.{passing}
use Rattle.guard_runs.proofs.WaitingLevels.{calls_to, entered_by}
use Rattle.guard_runs.specs.Joined.{CallFrame, site_of, written_of}
use Rattle.guard_runs.specs.Levels.{MayStand, flat_waiting, levels_of}
use Rattle.guard_runs.specs.Alike.{Paired, Setting}
use Rattle.guard_runs.specs.Beside.{Callers, Sides}
use Rattle.guard_runs.specs.Stopped.{Stopped, above, host}
use Rattle.headline.specs.FlatLaw.{AllWeigh}
use Rattle.std.proofs.Common.{List, Some, [], ap, arith, length, refl, subst, suc, ℕ, ◌*◌, ◌++◌, ◌+◌, ◌<◌, ◌∷◌, ◌≡◌, ◌≤◌}
use Rattle.std.proofs.lemmas.List.Sums.{sum_by-cons}
use Rattle.std.specs.List.{sum_by}
use Rattle.wa_model.specs.Configuration.{Activation}
use Rattle.wa_model.specs.Step.{param_count}
use Rattle.wa_model.specs.declared.answers.Area.{Area}
use Rattle.wa_types.specs.Bounds.{activation_bound}
use Rattle.wa_types.specs.Frames.{Suspended}
use Rattle.wa_types.specs.Modules.{declared_locals, defined_at, func_type_at}
use Rattle.wa_types.specs.Syntax.{Func, Module}
use Rattle.guard_runs.specs.Beside as B

pub under_count : (w : Sides) (g : ℕ) (us us' : List Activation) → Callers w g us us' → length us' ≡ length us
under_count w g _ _ (B.host e) = refl
under_count w g _ _ (B.above {a = a} {under = u} {under' = u'} wt deep us) = ap suc (under_count w a.func u u' us)

pub under_deep : (w : Sides) (g : ℕ) (us us' : List Activation) → Callers w g us us' → 0 < length us → length us' < 4097
under_deep w g _ _ (B.host e) lt = absurd (omega arith)
under_deep w g _ _ (B.above {a = a} {under = u} {under' = u'} wt deep us) lt = let c = under_count w a.func u u' us in omega arith

module _ (v : Setting) (pair : Paired v) (lay : Activation → CallFrame) where
  -- a level's function
  pub record LevelOk (x : Level) (fn : ℕ) : Type 0 where
    pub is : x.func ≡ fn
    pub func : Func
    pub defined : defined_at v.written fn ≡ Some func
    pub body : func.body ≡ function_code x.fn
    pub size : param_count (func_type_at v.flat fn) + length (declared_locals func.locals) ≡ length x.locals

  outer_at : (x : Level) (fn : ℕ) (us us' : List Activation) (d : Stopped v fn us us') → MayStand v lay d → LevelOk x fn → LevelOk (outer_of x (levels_of v lay d)) v.top
  outer_at x fn _ _ (host e) may ok = subst (LevelOk x) e ok
  outer_at x fn _ _ (above {f = f} {k = k} {slots = slots} {x = c} {to = to} {behind = behind} {rest = rest} {xs = xs} {under = us} {under' = us'} fn2 here is ls extra ops taken both h pl
      gt deep under) may ok =
      let x2 : Level = record {
        func = fn2;
        fn = written_of v.globals f (lay (flat_waiting fn2 f to behind rest xs ls ops taken));
        site =
            site_of v.globals f k h slots c to behind rest xs;
        locals = ls ++ extra;
        ops = ops;
        taken = taken;
        out = 4;
        seek = passing f.first f.body + 3;
      } in
      let en = entered_by v pair (lay (flat_waiting fn2 f to behind rest xs ls ops taken)) fn2 f may.0.0 ls extra here is may.0.1 both in
      outer_at x2 fn2 us us' under may.10 (record { is = refl; func = may.0.0; defined = may.0.1; body = en.0; size = en.1 })

  pub outer_all : (callee : ℕ) (us us' : List Activation) (d : Stopped v callee us us') → MayStand v lay d → (x0 : Level) (ws : List Level) → levels_of v lay d ≡ x0 ∷ ws
      → LevelOk (outer_of x0 ws) v.top
  outer_all callee _ _ (host e) may x0 ws q = cc
  outer_all callee _ _ (above {f = f} {k = k} {slots = slots} {x = c} {to = to} {behind = behind} {rest = rest} {xs = xs} {under = us} {under' = us'} fn2 here is ls extra ops taken both h
      pl gt deep under) may x0 ws q =
      let x2 : Level = record {
        func = fn2;
        fn = written_of v.globals f (lay (flat_waiting fn2 f to behind rest xs ls ops taken));
        site =
            site_of v.globals f k h slots c to behind rest xs;
        locals = ls ++ extra;
        ops = ops;
        taken = taken;
        out = 4;
        seek = passing f.first f.body + 3;
      } in
      let en = entered_by v pair (lay (flat_waiting fn2 f to behind rest xs ls ops taken)) fn2 f may.0.0 ls extra here is may.0.1 both in
      let e1 : x2 ≡ x0 = cc in
      let e2 : levels_of v lay under ≡ ws = cc in
      let r = outer_at x2 fn2 us us' under may.10 (record { is = refl; func = may.0.0; defined = may.0.1; body = en.0; size = en.1 }) in
      subst (λ z. LevelOk (outer_of z ws) v.top) e1 (subst (λ z. LevelOk (outer_of x2 z) v.top) e2 r)

  pub record InnerCalls (x0 : Level) (callee : ℕ) : Type 0 where
    pub params : ℕ
    pub goes_to : CallsTo v.written v.table x0 params callee

  pub inner_calls : (g : ℕ) (area : Area) (callee : ℕ) (us us' : List Activation) (d : Stopped v callee us us') → callee < v.funcs
      → AllFit g area v.written v.globals (suc v.globals) (levels_of v lay d) → (x0 : Level) (ws : List Level) → levels_of v lay d ≡ x0 ∷ ws → InnerCalls x0 callee
  inner_calls g area callee _ _ (host e) lt fit x0 ws q = cc
  inner_calls g area callee _ _ (above {f = f} {k = k} {slots = slots} {x = c} {to = to} {behind = behind} {rest = rest} {xs = xs} {under = us} {under' = us'} fn2 here is ls extra ops taken
      both h pl gt deep under) lt fit x0 ws q =
      let x2 : Level = record {
        func = fn2;
        fn = written_of v.globals f (lay (flat_waiting fn2 f to behind rest xs ls ops taken));
        site =
            site_of v.globals f k h slots c to behind rest xs;
        locals = ls ++ extra;
        ops = ops;
        taken = taken;
        out = 4;
        seek = passing f.first f.body + 3;
      } in
      let e1 : x2 ≡ x0 = cc in
      let lf = fit.0 in
      let ct = calls_to v pair x2 c callee lt refl lf.took gt in
      subst (λ z. InnerCalls z callee) e1 (record { params = ct.0; goes_to = ct.1 })

-- both ways through the stack cost no more than the activations' bounds
pub weigh_all : (m : Module) (n : ℕ) (x : Level) (ws : List Level) (stack : List Suspended) → AllWeigh m n (x ∷ ws) stack
    → unwinding_all x ws + n + 2 * length x.site.slots + rewinding_all x ws ≤ sum_by (activation_bound m) stack
weigh_all m n x [] [] h = absurd h
weigh_all m n x (y ∷ ws) [] h = absurd h
weigh_all m n x [] (a ∷ []) h = let z = sum_by-cons (activation_bound m) a [] in omega arith
weigh_all m n x [] (a ∷ b ∷ rest) h = absurd h
weigh_all m n x (y ∷ ws) (a ∷ rest) h =
    let ih = weigh_all m n y ws rest h.1 in
    let z = sum_by-cons (activation_bound m) a rest in
    let first = h.0 in
    omega arith
