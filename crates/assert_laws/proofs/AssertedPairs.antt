-- The flat and the written module with asserts are paired, function by function.
use Rattle.std.proofs.Common.{◌≡◌, ◌∙◌, ℕ, suc, ◌+◌, ◌++◌, [], length, Option, Some, None, Bool, true, false, refl, sym, ap, subst}
use Rattle.std.specs.Prelude.{◌&&◌, ◌||◌, nat_lt, not, if◌then◌else◌}
use Rattle.wa_types.specs.Modules.{declared_locals, defined_at, func_imports, func_type_at, type_at}
use Rattle.wa_types.specs.Pausing.{Callee, callee, calls_of}
use Rattle.wa_types.specs.Pruned.{pruned}
use Rattle.wa_types.specs.Runtime.{global_space}
use Rattle.wa_types.specs.Syntax.{a_block, a_loop, Code, done, plain, nest, branch, Func, Module}
use Rattle.run_theory.specs.Flat.{followed_by}
use Rattle.wa_model.specs.Step.{memory_max, param_count}
use Rattle.guard_form.specs.Asserts.{any_callee, assert_code, asserted, asserted_reached, tested_behind}
use Rattle.guard_form.proofs.AssertedCode.{reached_law}
use Rattle.assert_laws.specs.AssertedUnits.{asserted_units, UnitsUntested}
use Rattle.assert_laws.proofs.GuardedAsserts as G
use Rattle.guard_form.specs.Functions.{Calls, CallsIn, PiecesIn, Room, deeper, Role, RoleCalls, as_is, extra_types, flat_code, size_of, with_guards, written_code}
use Rattle.guard_form.specs.Guarded.{first_alone, guard_indices, leaves_first, written_body}
use Rattle.guard_form.specs.Pieces.{Units, no_unit, call_unit, nest_unit, if_unit, numbers_in}
use Rattle.guard_runs.specs.Alike.{Paired, sides_of}
use Rattle.guard_runs.specs.Beside.{Twin, both_defined, both_import}
use Rattle.guard_runs.specs.Stopped.{UnitsNumbered}
use Rattle.headline.specs.World.{World, setting}
use Rattle.assert_laws.specs.Links.{with_asserts}
use Rattle.assert_laws.specs.AssertedRoles.{asserted_role}
use Rattle.assert_laws.specs.EmittedWithAsserts.{asserted_body}
use Rattle.assert_laws.proofs.AssertedPlaces.{numbers_same}

-- one function in both modules
pub data FuncToo (t : Callee → Bool) (st : ℕ) (told : ℕ → Bool) (a b : Module) (x : ℕ) : Type 0 where
  too_none : defined_at a x ≡ None → defined_at b x ≡ None → FuncToo t st told a b x
  too_some : (g h : Func) → defined_at a x ≡ Some g → defined_at b x ≡ Some h → declared_locals h.locals ≡ declared_locals g.locals → h.body ≡ asserted_body t st (told x) g.body
      → FuncToo t st told a b x

-- the types and the memory are the same
pub record SameTypes (a b : Module) : Type 0 where
  pub imports : func_imports b ≡ func_imports a
  pub func_type : (x : ℕ) → func_type_at b x ≡ func_type_at a x
  pub sort : (t : ℕ) → type_at b t ≡ type_at a t
  pub most : memory_max b ≡ memory_max a

-- a guarded function's codes of frames make no call, and each unit's own call has a number
abbrev pub GuardsFit : (numbered : Callee → Bool) → Role → Type 0
GuardsFit n (as_is k body) = Unit {0}
GuardsFit n (with_guards f) = (calls_of f.restoring ≡ []) × (calls_of f.saving ≡ []) × UnitsNumbered n f.body

-- a function that isn't told stays
abbrev pub StaysUntold : Bool → Role → Type 0
StaysUntold true (as_is n body) = body ≡ done
StaysUntold true (with_guards f) = Unit {0}
StaysUntold false (as_is n body) = Unit {0}
StaysUntold false (with_guards f) = ⊥

module _ (n : Callee → Bool) (st : ℕ) where
  abbrev t : Callee → Bool
  t = λ x. not (n x)

  untested : (us : Units) → UnitsNumbered n us → UnitsUntested (λ x. not (n x)) us
  untested no_unit h = tt
  untested (call_unit slots x to behind rest) h = (ap not h.0, untested rest h.1)
  untested (nest_unit s first body behind rest) h = (untested body h.0, untested rest h.1)
  untested (if_unit c fa a fb b behind rest) h = (untested a h.0, untested b h.1, untested rest h.2)

  done_stays : asserted (λ x. not (n x)) st done ≡ asserted_reached st done
  unfolding asserted asserted_reached
  done_stays = refl

  -- the flat code of a role with asserts
  pub flat_too : (told : Bool) (r : Role) → StaysUntold told r → GuardsFit n r → asserted_body (λ x. not (n x)) st told (flat_code r) ≡ flat_code (asserted_role (λ x. not (n x)) st r)
  flat_too true (as_is k body) e h = ap (asserted t st) e ∙ done_stays ∙ ap (asserted_reached st) (sym e)
  flat_too false (as_is k body) e h = refl
  flat_too false (with_guards f) e h = absurd e
  flat_too true (with_guards f) e h = sym (G.flat_law t st f.first f.body (untested f.body h.2))

  -- tests change nothing of which call stands in which loop
  alone_same : (k : ℕ) (us : Units) → first_alone k (asserted_units (λ x. not (n x)) st us) ≡ first_alone k us
  alone_same k no_unit = refl
  alone_same k (call_unit slots x to behind rest) = alone_same (suc k) rest
  alone_same k (nest_unit a_block first body behind rest) =
      (λ i. alone_same k body i && first_alone (k + numbers_same t st body i) (asserted_units (λ x. not (n x)) st rest))
      ∙ ap (λ b. first_alone k body && b) (alone_same (k + numbers_in body) rest)
  alone_same k (nest_unit a_loop first body behind rest) =
      (λ i. (nat_lt 0 k || nat_lt (numbers_same t st body i) 2) && (alone_same k body i && first_alone (k + numbers_same t st body i) (asserted_units (λ x. not (n x)) st rest)))
      ∙ ap (λ b. (nat_lt 0 k || nat_lt (numbers_in body) 2) && (first_alone k body && b)) (alone_same (k + numbers_in body) rest)
  alone_same k (if_unit c fa a fb b behind rest) =
      (λ i. alone_same k a i && (first_alone (k + numbers_same t st a i) (asserted_units (λ x. not (n x)) st b)
      && first_alone (k + numbers_same t st a i + numbers_same t st b i) (asserted_units (λ x. not (n x)) st rest)))
      ∙ (λ i. first_alone k a && (alone_same (k + numbers_in a) b i && alone_same (k + numbers_in a + numbers_in b) rest i))

  one_same : (exits : Bool) (us : Units) → leaves_first exits (asserted_units (λ x. not (n x)) st us) ≡ leaves_first exits us
  one_same true us = alone_same 0 us
  one_same false us = refl

  -- the written code
  pub written_too : (told : Bool) (r : Role) → StaysUntold told r → GuardsFit n r → asserted_body (λ x. not (n x)) st told (written_code st r) ≡ written_code st (asserted_role (λ x. not (n x)) st r)
  written_too true (as_is k body) e h = ap (asserted t st) e ∙ done_stays ∙ ap (asserted_reached st) (sym e)
  written_too false (as_is k body) e h = refl
  written_too false (with_guards f) e h = absurd e
  written_too true (with_guards f) e h =
      sym (G.written_law t st (guard_indices st f.size f.exits f.body) f.restoring f.saving f.first f.body (untested f.body h.2) h.0 h.1)
      ∙ ap (λ o. written_body (record { state = st; index = f.size; first_unnoted = o }) (followed_by f.restoring) f.saving (asserted t st f.first) (asserted_units t st f.body))
      (sym (one_same f.exits f.body))

  extra_same : (r : Role) → extra_types (asserted_role (λ x. not (n x)) st r) ≡ extra_types r
  extra_same (as_is k body) = refl
  extra_same (with_guards f) = refl

  size_same : (r : Role) → size_of (asserted_role (λ x. not (n x)) st r) ≡ size_of r
  size_same (as_is k body) = refl
  size_same (with_guards f) = refl

  -- ---- calls

  module _ (P : Callee → Type 0) where
    behind_calls : (tests : Callee → Bool) (o : Option Callee) (c : Code) → Calls P c → Calls P (tested_behind tests st o c)
    behind_calls tests None c h = h
    behind_calls tests (Some x) c h = by (tests x)
      where
        by : (b : Bool) → Calls P (if b then assert_code st c else c)
        by true = (tt, (tt, (tt, ((tt, tt), tt, h))))
        by false = h

    calls_too : (tests : Callee → Bool) (c : Code) → Calls P c → Calls P (asserted tests st c)
    unfolding asserted
    calls_too tests done h = tt
    calls_too tests (plain p rest) h = (h.0, behind_calls tests (callee p) (asserted tests st rest) (calls_too tests rest h.1))
    calls_too tests (nest s r body rest) h = (calls_too tests body h.0, calls_too tests rest h.1)
    calls_too tests (branch r a b rest) h = (calls_too tests a h.0, calls_too tests b h.1, calls_too tests rest h.2)

    -- the same where branches stay inside
    behind_in : (r : Room) (tests : Callee → Bool) (o : Option Callee) (c : Code) → CallsIn P r c → CallsIn P r (tested_behind tests st o c)
    behind_in r tests None c h = h
    behind_in r tests (Some x) c h = by (tests x)
      where
        by : (b : Bool) → CallsIn P r (if b then assert_code st c else c)
        by true = ((tt, tt), ((tt, tt), ((tt, tt), (((tt, tt), tt), tt, h))))
        by false = h

    ins_too : (r : Room) (tests : Callee → Bool) (c : Code) → CallsIn P r c → CallsIn P r (asserted tests st c)
    unfolding asserted
    ins_too r tests done h = tt
    ins_too r tests (plain p rest) h = (h.0, behind_in r tests (callee p) (asserted tests st rest) (ins_too r tests rest h.1))
    ins_too r tests (nest s o body rest) h = (ins_too (deeper r) tests body h.0, ins_too r tests rest h.1)
    ins_too r tests (branch o a b rest) h = (ins_too (deeper r) tests a h.0, ins_too (deeper r) tests b h.1, ins_too r tests rest h.2)

    pieces_too : (r : Room) (us : Units) → PiecesIn P r us → PiecesIn P r (asserted_units (λ x. not (n x)) st us)
    pieces_too r no_unit h = tt
    pieces_too r (call_unit slots x to behind rest) h = (ins_too r t behind h.0, pieces_too r rest h.1)
    pieces_too r (nest_unit s first body behind rest) h = (ins_too (deeper r) t first h.0, pieces_too (deeper r) body h.1, ins_too r t behind h.2, pieces_too r rest h.3)
    pieces_too r (if_unit c fa a fb b behind rest) h =
        (ins_too (deeper r) t fa h.0, pieces_too (deeper r) a h.1, ins_too (deeper r) t fb h.2, pieces_too (deeper r) b h.3, ins_too r t behind h.4, pieces_too r rest h.5)

    role_calls : (r : Role) → RoleCalls P r → RoleCalls P (asserted_role (λ x. not (n x)) st r)
    role_calls (as_is k body) h = subst (Calls P) (sym (reached_law st body)) (calls_too any_callee (pruned body) h)
    role_calls (with_guards f) h = (ins_too (Some 0) t f.first h.0, pieces_too (Some 0) f.body h.1)

some_func : (x y : Func) → Some x ≡ Some y → x ≡ y
some_func x y e = cc

-- BOTH ARE PAIRED where those without asserts are, and each function is the one with asserts
pub asserted_paired : (w : World) (q p : Module) (lay : Rattle.wa_model.specs.Configuration.Activation → Rattle.guard_runs.specs.Joined.CallFrame) (told : ℕ → Bool) (top : ℕ)
    → Paired (setting w top) → SameTypes w.flat q → SameTypes w.written p
    → ((x : ℕ) → FuncToo (λ c. not (w.numbered c)) (global_space w.original) told w.flat q x) → ((x : ℕ) → FuncToo (λ c. not (w.numbered c)) (global_space w.original) told w.written p x)
    → ((x : ℕ) → StaysUntold (told x) (w.role x)) → ((x : ℕ) → GuardsFit w.numbered (w.role x))
    → Paired (setting (with_asserts w q p (λ x. asserted_role (λ c. not (w.numbered c)) (global_space w.original) (w.role x)) lay) top)
asserted_paired w q p lay told top pr tq tp fq fp stays fit = record {
  imports = tp.imports ∙ pr.imports ∙ sym tq.imports;
  func_type = λ x lt. tp.func_type x ∙ pr.func_type x lt ∙ sym (tq.func_type x);
  sort = λ i lt. tp.sort i ∙ pr.sort i lt ∙ sym (tq.sort i);
  most = tp.most ∙ pr.most ∙ sym tq.most;
  twin = λ x lt. by x (pr.twin x lt) (fq x) (fp x);
  calls = λ x lt. role_calls w.numbered (global_space w.original) (λ c. w.numbered c ≡ false) (w.role x) (pr.calls x lt);
  in_table = pr.in_table;
}
  where
    by : (x : ℕ) → Twin (sides_of (setting w top)) x → FuncToo (λ c. not (w.numbered c)) (global_space w.original) told w.flat q x
        → FuncToo (λ c. not (w.numbered c)) (global_space w.original) told w.written p x
        → Twin (sides_of (setting (with_asserts w q p (λ x. asserted_role (λ c. not (w.numbered c)) (global_space w.original) (w.role x)) lay) top)) x
    by x (both_import n1 n2) (too_none m1 m2) (too_none o1 o2) = both_import m2 o2
    by x (both_import n1 n2) (too_some g h e1 e2 l b) f = let z : None ≡ Some g = sym n1 ∙ e1 in cc
    by x (both_import n1 n2) (too_none m1 m2) (too_some g h e1 e2 l b) = let z : None ≡ Some g = sym n2 ∙ e1 in cc
    by x (both_defined g g' i1 i2 b1 b2 ls size) (too_none m1 m2) f = let z : None ≡ Some g = sym m1 ∙ i1 in cc
    by x (both_defined g g' i1 i2 b1 b2 ls size) (too_some h h2 e1 e2 l b) (too_none o1 o2) = let z : None ≡ Some g' = sym o1 ∙ i2 in cc
    by x (both_defined g g' i1 i2 b1 b2 ls size) (too_some h h2 e1 e2 l b) (too_some h' h2' e1' e2' l' b') =
        let s1 : h ≡ g = some_func h g (sym e1 ∙ i1) in
        let s2 : h' ≡ g' = some_func h' g' (sym e1' ∙ i2) in
        let st = global_space w.original in
        let lq : declared_locals h2.locals ≡ declared_locals g.locals = l ∙ ap (λ (z : Func). declared_locals z.locals) s1 in
        both_defined h2 h2' e2 e2'
        (b ∙ ap (λ (z : Func). asserted_body (λ c. not (w.numbered c)) st (told x) z.body) s1 ∙ ap (asserted_body (λ c. not (w.numbered c)) st (told x)) b1
        ∙ flat_too w.numbered st (told x) (w.role x) (stays x) (fit x))
        (b' ∙ ap (λ (z : Func). asserted_body (λ c. not (w.numbered c)) st (told x) z.body) s2 ∙ ap (asserted_body (λ c. not (w.numbered c)) st (told x)) b2
        ∙ written_too w.numbered st (told x) (w.role x) (stays x) (fit x))
        (l' ∙ ap (λ (z : Func). declared_locals z.locals) s2 ∙ ls ∙ ap (λ z. z ++ extra_types (w.role x)) (sym lq)
        ∙ ap (λ z. declared_locals h2.locals ++ z) (sym (extra_same w.numbered st (w.role x))))
        (ap (λ z. param_count z + length (declared_locals h2.locals)) (tq.func_type x) ∙ ap (λ z. param_count (func_type_at w.flat x) + length z) lq ∙ size
        ∙ sym (size_same w.numbered st (w.role x)))
