-- How often what is emitted with asserts reads the state.
use Rattle.std.proofs.Common.{◌≡◌, ◌∙◌, ℕ, ◌+◌, List, [], ◌∷◌, ◌++◌, length, Option, Some, None, Bool, true, false, refl, sym, ap, subst, arith, cond, eq-eqb, length-append}
use Rattle.std.specs.Prelude.{count_by, not, slice_get, if◌then◌else◌}
use Rattle.std.proofs.lemmas.List.Sums.{sum_by-append, sum_by-cons}
use Rattle.wa_types.specs.Modules.{func_imports}
use Rattle.wa_types.specs.Pausing.{Callee, MayPause, Settings, callee, callee_onto, calls_in, calls_of, has_number, is_told}
use Rattle.wa_types.specs.Pruned.{is_last, pruned}
use Rattle.wa_types.specs.Runtime.{global_space}
use Rattle.wa_types.specs.Syntax.{Code, basic, branch, done, global_get, nest, plain, Func, Module}
use Rattle.guard_form.specs.Asserts.{any_callee, assert_code, asserted, asserted_reached, tested_behind}
use Rattle.guard_form.specs.Bounds.{plain_reads, reads}
use Rattle.guard_form.proofs.AssertedCode.{last_calls_none}
use Rattle.emitted_form.specs.CodesHold.{AllCodesHold, AllCodesSmall}
use Rattle.emitted_form.specs.EmittedBy.{FrameCode, asyncified_by, written_by}
use Rattle.emitted_form.proofs.EmittedBy.{defined_of, emitted_at, told}
use Rattle.emitted_form.proofs.EmittedSizes.{calls_same}
use Rattle.emitted_form.proofs.StateReads.{own_unread}
use Rattle.emitted_form.specs.PolicyLaws.{CanBeEmitted, EachReadsFew}
use Rattle.emitted_form.proofs.PolicyReads.{emitted_reads}
use Rattle.assert_laws.specs.AssertedModules.{AssertedReadsFew, EachReadsFewWithAsserts, ReadsFewWithAsserts}
use Rattle.assert_laws.specs.EmittedWithAsserts.{module_with_asserts}
use Rattle.assert_laws.proofs.WrittenWithAsserts.{codes_of, found, is_true, told_with, untold_with}

-- ---- code

state_read : (st : ℕ) → plain_reads st (basic (global_get st)) ≡ 1
state_read st = ap {B = ℕ} (λ (b : Bool). if b then 1 else 0) (eq-eqb st st refl)

module _ (tests : Callee → Bool) (st : ℕ) where
  behind_reads : (o : Option Callee) (c : Code) (cs : List Callee) → reads st (tested_behind tests st o c) + count_by tests cs ≡ reads st c + count_by tests (callee_onto o cs)
  behind_reads None c cs = refl
  behind_reads (Some x) c cs = by (tests x) refl
    where
      by : (b : Bool) → tests x ≡ b → reads st (if b then assert_code st c else c) + count_by tests cs ≡ reads st c + count_by tests (x ∷ cs)
      by true e = let r = state_read st in let k = sum_by-cons (λ y. cond (tests y) 1 0) x cs in let z = ap {B = ℕ} (λ (b : Bool). cond b 1 0) e in omega (arith, r, k, z)
      by false e = let k = sum_by-cons (λ y. cond (tests y) 1 0) x cs in let z = ap {B = ℕ} (λ (b : Bool). cond b 1 0) e in omega (arith, k, z)

  asserted_reads : (c : Code) → reads st (asserted tests st c) ≡ reads st c + count_by tests (calls_of c)
  unfolding asserted calls_of
  asserted_reads done = refl
  asserted_reads (plain p rest) = let ih = asserted_reads rest in let t = behind_reads (callee p) (asserted tests st rest) (calls_of rest) in omega (arith, ih, t)
  asserted_reads (nest s r body rest) =
      let a = asserted_reads body in let b = asserted_reads rest in let n = sum_by-append (λ y. cond (tests y) 1 0) (calls_of body) (calls_of rest) in omega (arith, a, b, n)
  asserted_reads (branch r a b rest) =
      let x = asserted_reads a in let y = asserted_reads b in let z = asserted_reads rest in
      let n = sum_by-append (λ y. cond (tests y) 1 0) (calls_of a ++ calls_of b) (calls_of rest) in
      let k = sum_by-append (λ y. cond (tests y) 1 0) (calls_of a) (calls_of b) in omega (arith, x, y, z, n, k)

module _ (st : ℕ) where
  any_reads : (o : Option Callee) (c : Code) (cs : List Callee) → reads st (tested_behind any_callee st o c) + length cs ≡ reads st c + length (callee_onto o cs)
  any_reads None c cs = refl
  any_reads (Some x) c cs = let r = state_read st in omega (arith, r)

  reached_reads : (c : Code) → reads st (asserted_reached st c) ≡ reads st c + length (calls_of (pruned c))
  unfolding asserted_reached calls_of pruned
  reached_reads done = refl
  reached_reads (plain p rest) = by (is_last p) refl (reached_reads rest)
    where
      by : (b : Bool) → is_last p ≡ b → reads st (asserted_reached st rest) ≡ reads st rest + length (calls_of (pruned rest))
          → plain_reads st p + reads st (if b then rest else tested_behind any_callee st (callee p) (asserted_reached st rest))
          ≡ plain_reads st p + reads st rest + length (callee_onto (callee p) (calls_of (if b then done else pruned rest)))
      by true e ih = let n = ap (λ o. length (callee_onto o [])) (last_calls_none p e) in omega (arith, n)
      by false e ih = let t = any_reads (callee p) (asserted_reached st rest) (calls_of (pruned rest)) in omega (arith, ih, t)
  reached_reads (nest s r body rest) =
      let a = reached_reads body in let b = reached_reads rest in let n = length-append (calls_of (pruned body)) (calls_of (pruned rest)) in omega (arith, a, b, n)
  reached_reads (branch r a b rest) =
      let x = reached_reads a in let y = reached_reads b in let z = reached_reads rest in
      let n = length-append (calls_of (pruned a) ++ calls_of (pruned b)) (calls_of (pruned rest)) in let k = length-append (calls_of (pruned a)) (calls_of (pruned b)) in omega (arith, x, y, z, n, k)

-- ---- the module, by its codes

module _ (m : Module) (s : Settings) (which : List Bool) (codes : (index : ℕ) → Func → FrameCode) (c : CanBeEmitted m s which) (hold : AllCodesHold m s which codes)
    (small : AllCodesSmall m which codes) (plainly : EachReadsFew m s which (asyncified_by m s which codes)) where
  abbrev q : Module
  q = module_with_asserts m s which (asyncified_by m s which codes)

  written_reads : (i : ℕ) (f g : Func) → slice_get m.funcs i ≡ Some f → slice_get q.funcs i ≡ Some g → MayPause m s (func_imports m + i) → ReadsFewWithAsserts m s which (func_imports m + i) f g
  written_reads i f g e k may =
      let b : is_told (slice_get which (func_imports m + i)) ≡ true = ap is_told ((c.tells.each (func_imports m + i)).1 may) in
      let is = defined_of m i f e in
      let few = plainly.written i f (written_by m s which codes (func_imports m + i) f) e (emitted_at m s which codes i f e ∙ ap Some (told m s which codes (func_imports m + i) f b)) may in
      let grows = asserted_reads (λ y. not (has_number m s which y)) (global_space m) (written_by m s which codes (func_imports m + i) f).body in
      let calls = ap (count_by (λ y. not (has_number m s which y)))
      (calls_same m s which codes c.valid c.sizes hold small (func_imports m + i) f is b (c.few (func_imports m + i) f is b)) in
      subst (ReadsFewWithAsserts m s which (func_imports m + i) f) (sym (told_with m s which codes c hold small (func_imports m + i) f b) ∙ found m s which codes c hold small i f g e k)
      (omega (arith, few, grows, calls))

  other_reads : (i : ℕ) (f g : Func) → slice_get m.funcs i ≡ Some f → slice_get q.funcs i ≡ Some g → ¬ MayPause m s (func_imports m + i) → reads (global_space m) g.body ≡ length (calls_in f)
  other_reads i f g e k never = by (is_told (slice_get which (func_imports m + i))) refl
    where
      by : (b : Bool) → is_told (slice_get which (func_imports m + i)) ≡ b → reads (global_space m) g.body ≡ length (calls_in f)
      by true b = absurd (never ((c.tells.each (func_imports m + i)).0 (is_true m s which codes c hold small (slice_get which (func_imports m + i)) b)))
      by false b =
          let none = own_unread m c.valid i f e in
          let grows = reached_reads (global_space m) f.body in
          subst (λ (z : Func). reads (global_space m) z.body ≡ length (calls_in f))
          (sym (untold_with m s which codes c hold small (func_imports m + i) f b) ∙ found m s which codes c hold small i f g e k) (omega (arith, none, grows))

  reads_with : EachReadsFewWithAsserts m s which (module_with_asserts m s which (asyncified_by m s which codes))
  reads_with = record { written = written_reads; others = other_reads }

pub reads_law : AssertedReadsFew
reads_law m s which q c h =
    let f = codes_of m s which h.without c h.emitted in
    subst (EachReadsFewWithAsserts m s which) (sym (h.is ∙ ap (module_with_asserts m s which) f.is))
    (reads_with m s which f.codes c f.hold f.small (subst (EachReadsFew m s which) f.is (emitted_reads m s which h.without c h.emitted)))
