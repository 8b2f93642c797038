-- Activations that wait at numbered calls of guarded functions are levels of a stack with frames.
use Rattle.std.proofs.Common.{inl, ◌≡◌, ◌≢◌, ℕ, zero, suc, ◌+◌, ◌<◌, ◌≤◌, List, [], ◌∷◌, ◌++◌, length, Some, None, true, refl, sym, ap, ◌∙◌, subst, arith, length-append, ⊎_elim}
use Rattle.std.proofs.lemmas.Bool.{and_parts}
use Rattle.wa_types.specs.declared.values.ValType.{ValType}
use Rattle.wa_types.specs.declared.values.Value.{Value}
use Rattle.wa_types.specs.declared.values.Value.TheVariants as V
use Rattle.wa_types.specs.Encoding.{same_type}
use Rattle.wa_types.specs.Syntax.{FuncType, Func}
use Rattle.wa_types.specs.Modules.{func_type_at, type_at, declared_locals, defined_at}
use Rattle.wa_types.specs.Pausing.{Callee, direct, indirect}
use Rattle.wa_types.specs.Typing.{type_of}
use Rattle.wa_model.specs.declared.answers.Area.{Area}
use Rattle.wa_model.specs.Store.{value_at}
use Rattle.wa_model.specs.Configuration.{Activation}
use Rattle.wa_model.specs.Step.{param_count, same_types, same_func_type}
use Rattle.frame_laws.specs.FrameMemory.{FieldsFit, IsKept}
use Rattle.frame_laws.specs.Function.{function_code}
use Rattle.frame_laws.specs.Layout.{FrameField, kept, gap}
use Rattle.frame_laws.specs.Stack.{Level, activation_of, slot_values, AllKept, LevelFits, AllFit, CallsTo, Enters, Chain}
use Rattle.guard_form.specs.Bounds.{passing}
use Rattle.guard_form.specs.Functions.{GuardedFunc, with_guards, size_of, extra_types, written_code}
use Rattle.guard_form.specs.Pieces.{call_to}
use Rattle.guard_runs.specs.Joined.{CallFrame, written_of, site_of}
use Rattle.guard_runs.specs.Levels.{flat_waiting, levels_of, FlatFieldsFit, MayStand, ChainOf, AreLevels, StoppedAreLevels}
use Rattle.guard_runs.specs.Alike.{Setting, sides_of, Paired}
use Rattle.guard_runs.specs.Beside.{Twin, both_import, both_defined, GoesTo, directly, by_table, Locals}
use Rattle.guard_runs.specs.Stopped.{Stopped, host, above}
use Rattle.frame_laws.specs.Stack as S
use Rattle.wa_types.specs.Sizes.{value_fits}
use Rattle.frame_laws.proofs.RewoundStacks.{length-args, args_same}
use Rattle.guard_runs.proofs.GuardedBodies.{same_code, body_keeps}

pub got_left : (ls extra : List Value) (x : ℕ) → x < length ls → value_at (ls ++ extra) x ≡ value_at ls x
got_left [] extra x lt = absurd (omega arith)
got_left (v ∷ ls) extra zero lt = refl
got_left (v ∷ ls) extra (suc x) lt = got_left ls extra x (omega arith)

-- the first behind them
pub got_behind : (ls extra : List Value) (n : ℕ) → length ls ≡ n → value_at (ls ++ extra) n ≡ value_at extra 0
got_behind [] extra n e = ap (value_at extra) (sym e)
got_behind (v ∷ ls) extra zero e = let never : ⊥ = omega (arith, e) in absurd never
got_behind (v ∷ ls) extra (suc n) e = got_behind ls extra n (omega (arith, e))

-- flat locals stand before the index and the scratch local
spots_fit : (y : ℕ) (ls extra : List Value) (ps : List FrameField) → length ls ≤ y → FlatFieldsFit ls ps → FieldsFit y (ls ++ extra) ps
spots_fit y ls extra [] le h = tt
spots_fit y ls extra (kept x t ∷ ps) le h =
    let same = got_left ls extra x h.0 in
    let n = length-append ls extra in
    let lt = h.0 in
    let ne : x ≢ y = omega arith in
    ((omega arith, ap type_of same ∙ h.1, ne, subst value_fits (sym same) h.2), spots_fit y ls extra ps le h.3)
spots_fit y ls extra (gap t ∷ ps) le h = (tt, spots_fit y ls extra ps le h)

pub kept_left : (ls extra : List Value) (x : ℕ) (ps : List FrameField) → FlatFieldsFit ls ps → IsKept x ps → value_at (ls ++ extra) x ≡ value_at ls x
kept_left ls extra x [] h k = absurd k
kept_left ls extra x (kept y t ∷ ps) h k = ⊎_elim (λ e. got_left ls extra x (subst (λ z. z < length ls) (sym e) h.0)) (λ q. kept_left ls extra x ps h.3 q) k
kept_left ls extra x (gap t ∷ ps) h k = kept_left ls extra x ps h k

types_long : (ts us : List ValType) → same_types ts us ≡ true → length ts ≡ length us
types_long [] [] e = refl
types_long [] (u ∷ us) e = cc
types_long (t ∷ ts) [] e = cc
types_long (t ∷ ts) (u ∷ us) e = ap suc (types_long ts us (and_parts (same_type t u) (same_types ts us) e).1)

params_alike : (t u : FuncType) → same_func_type t u ≡ true → param_count u ≡ param_count t
params_alike t u e = sym (types_long t.params u.params (and_parts (same_types t.params u.params) (same_types t.results u.results) e).0)

-- the last of a list
pub record Last (xs : List ℕ) : Type 0 where
  pub before : List ℕ
  pub last : ℕ
  pub is : xs ≡ before ++ last ∷ []

last_of : (x : ℕ) (xs : List ℕ) → Last (x ∷ xs)
last_of x [] = record { before = []; last = x; is = refl }
last_of x (y ∷ ys) = let r = last_of y ys in record { before = x ∷ r.before; last = r.last; is = ap (λ zs. x ∷ zs) r.is }

snoc_args : (ls : List Value) (xs : List ℕ) (y : ℕ) (onto : List Value) → slot_values ls (xs ++ y ∷ []) onto ≡ value_at ls y ∷ slot_values ls xs onto
snoc_args ls [] y onto = refl
snoc_args ls (x ∷ xs) y onto = snoc_args ls xs y (value_at ls x ∷ onto)

module _ (v : Setting) (pair : Paired v) where
  -- where a numbered call goes
  pub calls_to : (w : Level) (x : Callee) (callee : ℕ) → callee < v.funcs → w.site.instr ≡ call_to x → w.taken ≡ slot_values w.locals w.site.slots []
      → GoesTo (sides_of v) callee w.taken x
      → (n : ℕ) × CallsTo v.written v.table w n callee × (n ≡ param_count (func_type_at v.flat callee))
  calls_to w (direct y) callee lt is took (directly count) =
      let m = length-args w.locals w.site.slots [] in
      let n : length w.taken ≡ length w.site.slots = ap length took ∙ omega arith in
      (length w.site.slots, S.directly callee is (ap param_count (pair.func_type callee lt) ∙ sym count ∙ n), sym n ∙ count)
  calls_to w (indirect t) callee lt is took (by_table t2 n rest parts count small found same) = by_slots w.site.slots refl
    where
      by_slots : (xs : List ℕ) → w.site.slots ≡ xs → (k : ℕ) × CallsTo v.written v.table w k callee × (k ≡ param_count (func_type_at v.flat callee))
      by_slots [] e =
          let q : V.I32 n ∷ rest ≡ [] = sym parts ∙ took ∙ ap (λ xs. slot_values w.locals xs []) e in
          cc
      by_slots (x ∷ xs) e =
          let r = last_of x xs in
          let split : w.site.slots ≡ r.before ++ r.last ∷ [] = e ∙ r.is in
          let q : V.I32 n ∷ rest ≡ value_at w.locals r.last ∷ slot_values w.locals r.before [] = sym parts ∙ took ∙ ap (λ ys. slot_values w.locals ys []) split
          ∙ snoc_args w.locals r.before r.last [] in
          let value : value_at w.locals r.last ≡ V.I32 n = cc in
          let others : slot_values w.locals r.before [] ≡ rest = cc in
          let m = length-args w.locals r.before [] in
          let long : length r.before ≡ length rest = omega arith ∙ ap length others in
          let sort = pair.sort t small in
          let ft = pair.func_type callee lt in
          let same2 : same_func_type (func_type_at v.written callee) (type_at v.written t)
          ≡ true = ap (λ a. same_func_type a (type_at v.written t)) ft ∙ ap (same_func_type (func_type_at v.flat callee)) sort ∙ same in
          let params : param_count (type_at v.written t)
          ≡ length r.before = ap param_count sort ∙ params_alike (func_type_at v.flat callee) (type_at v.flat t) same ∙ sym count ∙ sym long in
          (length r.before, S.through_table callee t n r.last r.before is split value found same2 params, long ∙ count)

  -- the function of a level
  pub entered_by : (l : CallFrame) (fn : ℕ) (f : GuardedFunc) (func : Func) (ls extra : List Value) → fn < v.funcs → v.role fn ≡ with_guards f
      → defined_at v.written fn ≡ Some func → Locals (with_guards f) ls extra
      → (func.body ≡ function_code (written_of v.globals f l))
      × (param_count (func_type_at v.flat fn) + length (declared_locals func.locals) ≡ length (ls ++ extra))
  entered_by l fn f func ls extra lt is def both = by_twin (pair.twin fn lt)
    where
      by_twin : Twin (sides_of v) fn → (func.body ≡ function_code (written_of v.globals f l)) ×
          (param_count (func_type_at v.flat fn) + length (declared_locals func.locals) ≡ length (ls ++ extra))
      by_twin (both_import none none2) =
          let q : Some func ≡ None = sym def ∙ none2 in
          cc
      by_twin (both_defined h h' a b c d e n) =
          let q0 : Some h' ≡ Some func = sym b ∙ def in
          let q : h' ≡ func = cc in
          let size = both.size in
          let more = both.more in
          let l0 = length-append ls extra in
          let l1 = length-append (declared_locals h.locals) (extra_types (v.role fn)) in
          let l2 : length (declared_locals func.locals)
          ≡ length (declared_locals h.locals ++ extra_types (v.role fn)) = ap (λ z. length (declared_locals z.locals)) (sym q) ∙ ap length e in
          let l3 : length (extra_types (v.role fn)) ≡ length (extra_types (with_guards f)) = ap (λ r. length (extra_types r)) is in
          let l4 : size_of (v.role fn) ≡ size_of (with_guards f) = ap size_of is in
          (ap (λ z. z.body) (sym q) ∙ d ∙ ap (written_code v.globals) is ∙ sym (same_code v.globals f l), omega arith)

  -- the level below calls its function
  link : (lay : Activation → CallFrame) (l : CallFrame) (fn : ℕ) (w : Level) (f : GuardedFunc) (func : Func) (ls extra : List Value) (us us' : List Activation) → fn < v.funcs
      → v.role fn ≡ with_guards f → defined_at v.written fn ≡ Some func → Locals (with_guards f) ls extra
      → w.func ≡ fn → w.fn ≡ written_of v.globals f l → w.locals ≡ ls ++ extra → (d : Stopped v fn us us') → MayStand v lay d → ChainOf v (levels_of v lay d)
      → Chain v.written v.globals v.table w (levels_of v lay d)
  link lay l fn w f func ls extra _ _ lt is def both e1 e2 e3 (host top) may chain = tt
  link lay l fn w f func ls extra _ _ lt is def both e1 e2 e3 (above {f = f2} {k = k2} {slots = slots2} {x = x2} {to = to2} {behind = behind2} {rest = rest2} {xs = xs2} fn2 here2 is2
      ls2 extra2 ops2 taken2 both2 h2 pl2 gt2 deep2 under2) may chain =
      let w2 : Level = record {
        func = fn2;
        fn = written_of v.globals f2 (lay (flat_waiting fn2 f2 to2 behind2 rest2 xs2 ls2 ops2 taken2));
        site = site_of v.globals f2 k2 h2 slots2 x2 to2 behind2 rest2 xs2;
        locals = ls2 ++ extra2;
        ops = ops2;
        taken = taken2;
        out = 4;
        seek = passing f2.first f2.body + 3;
      } in
      let took : taken2 ≡ slot_values (ls2 ++ extra2) slots2 [] = may.9
      ∙ sym (args_same ls2 (ls2 ++ extra2) slots2 (lay (flat_waiting fn2 f2 to2 behind2 rest2 xs2 ls2 ops2 taken2)).layout.fields [] may.8
      (λ y q. kept_left ls2 extra2 y (lay (flat_waiting fn2 f2 to2 behind2 rest2 xs2 ls2 ops2 taken2)).layout.fields may.6 q)) in
      let ct = calls_to w2 x2 fn lt refl took gt2 in
      let en = entered_by l fn f func ls extra lt is def both in
      let size : ct.0 + length (declared_locals func.locals) ≡ length w.locals = ap (λ n. n + length (declared_locals func.locals)) ct.2 ∙ en.1 ∙ ap length (sym e3) in (
        record {
          params = ct.0;
          goes_to = subst (λ y. CallsTo v.written v.table w2 ct.0 y) (sym e1) ct.1;
          func = func;
          defined = ap (defined_at v.written) e1 ∙ def;
          body = en.0
              ∙ ap function_code (sym e2);
          size = size;
        },
        chain,
      )

  module _ (g : ℕ) (area : Area) (lay : Activation → CallFrame) where
    are_levels : (callee : ℕ) (us us' : List Activation) (d : Stopped v callee us us') → MayStand v lay d → AreLevels g area v us' (levels_of v lay d)
    are_levels callee _ _ (host top) may = record { acts = refl; fit = tt; chain = tt }
    are_levels callee _ _ (above {f = f} {k = k} {slots = slots} {x = x} {to = to} {behind = behind} {rest = rest} {xs = xs} {under = us} {under' = us'} fn here is ls extra ops taken
        both h pl gt deep under) may =
        let w : Level = record {
          func = fn;
          fn = written_of v.globals f (lay (flat_waiting fn f to behind rest xs ls ops taken));
          site = site_of v.globals f k h slots x to behind rest xs;
          locals = ls ++ extra;
          ops = ops;
          taken = taken;
          out = 4;
          seek = passing f.first f.body + 3;
        } in
        let cl = lay (flat_waiting fn f to behind rest xs ls ops taken) in
        let l = cl.layout in
        let u = may.1 in
        let ix = u.index in
        let sc = may.3 in
        let size = both.size in
        let more = both.more in
        let long = length-append ls extra in
        let ih = are_levels fn us us' under may.10 in
        let took : taken ≡ slot_values (ls ++ extra) slots [] = may.9 ∙ sym (args_same ls (ls ++ extra) slots l.fields [] may.8 (λ y q. kept_left ls extra y l.fields may.6 q)) in
        record {
          acts = ap (λ more. activation_of w ∷ more) ih.acts;
          fit = (
            record {
              law = body_keeps g area v.written v.globals k h f cl slots x to behind rest xs (ls ++ extra) u may.5 pl.place may.4
                  (λ e z. got_behind ls extra f.size both.size ∙ pl.first_held e (inl z));
              codes = u.codes;
              address_is = may.2;
              living = record {
                fields = spots_fit l.scratch ls extra l.fields (omega arith) may.6;
                past_index = spots_fit l.index ls extra l.fields (omega arith) may.6;
                apart = λ q. let z : f.size ≡ suc f.size = sym ix ∙ q ∙ sc in omega arith;
                index = omega arith;
                scratch = omega arith;
              };
              small = may.7;
              slots = may.8;
              took = took;
            },
            ih.fit,
          );
          chain = link lay cl fn w f may.0.0 ls extra us us' here is may.0.1 both refl refl refl under may.10 ih.chain;
        }

pub stopped_are_levels : StoppedAreLevels
stopped_are_levels g area v lay callee us us' d pair may = are_levels v pair g area lay callee us us' d may
