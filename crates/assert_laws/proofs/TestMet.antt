-- Where a written stack stops inside, the activation there begins with the test.
use Rattle.std.proofs.Common.{◌≡◌, ◌∙◌, ℕ, List, ◌∷◌, ◌++◌, length, false, refl, sym, ap, subst, arith}
use Rattle.std.specs.Prelude.{not}
use Rattle.wa_types.specs.Modules.{func_type_at}
use Rattle.wa_types.specs.Pausing.{Callee}
use Rattle.wa_types.specs.Runtime.{global_space}
use Rattle.wa_types.specs.Syntax.{Code, Module}
use Rattle.wa_types.specs.declared.values.Value.{Value}
use Rattle.wa_model.specs.Configuration.{Activation}
use Rattle.wa_model.specs.Step.{param_count}
use Rattle.guard_runs.specs.Alike.{Setting, sides_of}
use Rattle.guard_runs.specs.Beside as G
use Rattle.guard_form.specs.Functions.{Role}
use Rattle.guard_runs.specs.Joined.{CallFrame}
use Rattle.guard_runs.specs.Stopped as P
use Rattle.guard_runs.specs.Stopped.{Stopped, StopsInside}
use Rattle.headline.specs.World.{World, setting}
use Rattle.guard_form.specs.Asserts.{assert_code}
use Rattle.assert_laws.specs.Beside.{above, by_table, CallsIt, directly, Sides, Together, Unders, Waits, waits}
use Rattle.assert_laws.proofs.Running.{waiting_stands}
use Rattle.assert_laws.specs.Links.{assert_sides, IndirectsAlike, TestIsMet, with_asserts}

module _ (w : World) (q written : Module) (role : ℕ → Role) (lay : Activation → CallFrame) (ok : Together (assert_sides w q)) (alike : IndirectsAlike w.numbered) where
  abbrev sd : Sides
  sd = assert_sides w q

  -- what both sides say was called has a number on both or on none
  same_number : (v : Setting) → v.flat ≡ q → (g : ℕ) (taken : List Value) (x y : Callee) → CallsIt w.flat g taken x → G.GoesTo (sides_of v) g taken y → w.numbered x ≡ w.numbered y
  same_number v is g taken _ _ (directly e) (G.directly e2) = refl
  same_number v is g taken _ _ (by_table s n rest e1 e2 e3) (G.by_table t k more f1 f2 f3 f4 f5) = alike s t
  same_number v is g taken _ _ (directly e) (G.by_table t k more f1 f2 f3 f4 f5) =
      let z : param_count (func_type_at v.flat g) ≡ param_count (func_type_at w.flat g) = ap (λ m. param_count (func_type_at m g)) is ∙ ap param_count (ok.func_type g) in
      let a = ap length f1 in absurd (omega arith)
  same_number v is g taken _ _ (by_table s n rest e1 e2 e3) (G.directly f) =
      let z : param_count (func_type_at v.flat g) ≡ param_count (func_type_at w.flat g) = ap (λ m. param_count (func_type_at m g)) is ∙ ap param_count (ok.func_type g) in
      let a = ap length e1 in absurd (omega arith)

  func_same : (g : ℕ) (a b : Activation) → Waits sd g a b → b.func ≡ a.func
  func_same g _ _ (waits fn ls ops taken x c t la) = refl

  -- below those that stop
  below : (v : Setting) (g : ℕ) (inner inner' us : List Activation) (a : Activation) (rest : List Activation) → Stopped v g inner inner' → Unders sd g us (inner ++ a ∷ rest)
      → (b : Activation) × Waits sd v.top b a
  below v g _ _ _ a rest (P.host e) (above {a = b} wt un) = (b, subst (λ h. Waits sd h b a) e wt)
  below v g _ _ _ a rest (P.above {under = inner} {under' = inner'} fn here is ls extra ops taken both h pl gt deep st) (above {a = a0} {a' = a1} {under = us} wt un) =
      below v fn inner inner' us a rest st (subst (λ i. Unders sd i us (inner ++ a ∷ rest)) (sym (func_same g a0 a1 wt)) un)

  met : (v : Setting) → v.flat ≡ q → v.numbered ≡ w.numbered → v.globals ≡ global_space w.original → (g : ℕ) (us fs fs' : List Activation) → Unders sd g us fs → (s : StopsInside v g fs fs')
      → (code : Code) × (s.at'.code ≡ assert_code (global_space w.original) code)
  met v is en eg g us fs fs' un s =
      let un2 = subst (λ z. Unders sd g us z) s.are un in
      let b = below (record v { top = s.called }) g s.inner s.inner' us s.at s.rest s.stopped un2 in
      let ws = waiting_stands sd s.called b.0 s.at b.1 in
      let same : taken_of b.0 ≡ taken_of s.at = taken_same s.called b.0 s.at b.1 in
      let ci : CallsIt w.flat s.called (taken_of s.at) ws.0 = subst (λ z. CallsIt w.flat s.called z ws.0) same ws.1 in
      let n : w.numbered ws.0 ≡ false = same_number v is s.called (taken_of s.at) ws.0 s.callee ci s.goes_to ∙ sym (ap (λ f. f s.callee) en) ∙ s.free in
      let test = ws.2 (ap not n) in
      let r = s.test test.rest (test.test ∙ ap (λ i. assert_code i test.rest) (sym eg)) in
      (r.0, r.1 ∙ ap (λ i. assert_code i r.0) eg)
    where
      taken_of : Activation → List Value
      taken_of a = a.taken

      taken_same : (h : ℕ) (b a : Activation) → Waits sd h b a → b.taken ≡ a.taken
      taken_same h _ _ (waits fn ls ops taken x c t la) = refl

pub met_law : TestIsMet
met_law w q written role lay top g us fs fs' ok alike un s = met w q written role lay ok alike (setting (with_asserts w q written role lay) top) refl refl refl g us fs fs' un s
