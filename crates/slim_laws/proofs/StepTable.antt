-- Each reduction of the flat side is matched by the slim one.
use Rattle.std.proofs.Common.{◌≡◌, ℕ, zero, suc, ◌+◌, ◌≤◌, List, [], ◌∷◌, ◌++◌, length, map, take, drop, reverse, Option, Some, None, Bool, true, false, refl, sym, ap, ◌∙◌, subst, arith, length-append, length-set}
use Rattle.std.specs.Prelude.{if◌then◌else◌, slice_get, slice_set, unwrap_or, nat_lt, ◌&&◌}
use Rattle.std.proofs.lemmas.List.{length-map, length-reverse, length-take-le}
use Rattle.wa_types.specs.declared.values.ValType.{ValType}
use Rattle.wa_types.specs.declared.values.Value.{Value}
use Rattle.wa_types.specs.declared.values.Value.TheVariants as V
use Rattle.wa_types.specs.declared.values.Trap.{Trap}
use Rattle.wa_types.specs.declared.values.Trap.TheVariants.{StackExhausted, TypeMismatch, UndefinedElement, UninitializedElement}
use Rattle.wa_types.specs.Encoding.{same_type}
use Rattle.wa_types.specs.Syntax.{Basic, Plain, basic, local_get, local_set, local_tee, br, br_if, br_table, return, unreachable, call, call_indirect, a_block, a_loop, Code, done, plain, nest, branch, FuncType, Module}
use Rattle.wa_types.specs.Modules.{func_imports, func_type_at, type_at, declared_locals, defined_at}
use Rattle.wa_types.specs.Pausing.{calls_of}
use Rattle.wa_model.specs.Store.{choose, Store, value_at, Did, works, fails, lacks, takes, gives, extra_cost, act, reached}
use Rattle.wa_model.specs.Configuration.{Label, block_label, Activation, Configuration, running, waiting}
use Rattle.wa_model.specs.Step.{Next, steps, asks, returns, traps, stuck, result_count, leave, jump, finish, did, with_number, arity_of, zero_of, entered, invoke, param_count, same_types, same_func_type, through, memory_max, step_at, step}
use Rattle.wa_model.specs.Untouched.{ranges_in}
use Rattle.slim_laws.specs.Slim.{Held, Free, Covers, StackShape, more, Takes, takes_none, takes_same, takes_one, kept, Reaches, Terms, Slims, ends, does, gets, sets, tees, keeps, uses, saves, copies, narrows, forgets, leaps, leaps_if, leaps_by, returns_here, halts, calls, calls_by, blocks, loops, decides}
use Rattle.slim_laws.specs.Beside.{Sides, Twin, both_import, both_defined, Together, Agree, Woven, woven, woven_both, woven_kept, Around, in_body, in_block, in_loop, Waits, waits, Unders, bottom, above, Beside, beside, copying, Asked, ProperCode, lean_plain, lean_code, head_of, sets_local, SameNext, way_ends, way_same, way_sets, saves_none, saves_one, ComesToo, it_steps, it_asks, it_returns, it_traps, it_is_stuck}
use Rattle.slim_laws.proofs.ResultCounts.{GivesSo, gives_so}
use Rattle.slim_laws.proofs.KeptSizes.{same_calls}
use Rattle.slim_laws.proofs.Shapes.{plainly_none, taken_kept, more_kept, risen_kept}
use Rattle.slim_laws.proofs.Locals.{at_same, agree_set, agree_wider, agree_kept, agree_saved, woven_set, plainly_same, taken_same, more_woven, risen}

-- what both sides share while a function runs
pub record Ctx (w : Sides) : Type 0 where
  pub s : Store
  pub fn : ℕ
  pub under : List Activation
  pub under' : List Activation
  pub us : Unders w under under'
  pub free : Free
  pub ls : List Value
  pub ls' : List Value
  pub size : length ls ≡ (w.terms fn).size
  pub agree : Agree free ls ls'

-- the same comes next on both sides
pub data Same (w : Sides) (spare : ℕ) : Next → Next → Type 0 where
  same_step : {k left : ℕ} {d d' : Configuration} → left ≤ spare → Beside w left d d' → Same w spare (steps k d) (steps k d')
  same_ask : {k x : ℕ} {args : List Value} {d d' : Configuration} → Asked w d d' → Same w spare (asks k x args d) (asks k x args d')
  same_return : {k : ℕ} {vs : List Value} {s : Store} → Same w spare (returns k vs s) (returns k vs s)
  same_trap : {k : ℕ} {u : Trap} {s : Store} → Same w spare (traps k u s) (traps k u s)
  flat_stuck : {o : Next} → Same w spare stuck o

-- the topmost operand of both
pub data Topped (ls : List Value) (sh : StackShape) : List Value → List Value → Type 0 where
  no_top : Topped ls sh [] []
  a_top : (v : Value) → {below below' : List Value} → Woven ls sh below below' → Topped ls sh (v ∷ below) (v ∷ below')

topped_same : (ls ops : List Value) → Topped ls [] ops ops
topped_same ls [] = no_top
topped_same ls (v ∷ ops) = a_top v woven

topped_on : (ls : List Value) (n : ℕ) (sh sh2 : StackShape) (ops ops' : List Value) → n ≡ 1 → Takes n sh sh2 → Woven ls sh ops ops' → Topped ls sh2 ops ops'
topped_on ls _ sh _ ops ops' e takes_none wo = absurd (omega arith)
topped_on ls n _ _ _ _ e takes_same (woven {ops = ops}) = topped_same ls ops
topped_on ls _ _ _ _ _ e (takes_one {n = n} {sh = sh} {sh2 = sh2} ta) (woven_both {ops = ops} {ops' = ops'} v wo) = a_top v (rest ta)
  where
    rest : Takes n sh sh2 → Woven ls sh2 ops ops'
    rest ta = subst (λ j. Woven ls sh2 (drop j ops) (drop j ops')) (let z : n ≡ 0 = omega arith in z) (taken_same ls n sh sh2 ops ops' ta wo).1

topped : (ls : List Value) (sh sh2 : StackShape) (ops ops' : List Value) → Takes 1 sh sh2 → Woven ls sh ops ops' → Topped ls sh2 ops ops'
topped ls sh sh2 ops ops' ta wo = topped_on ls 1 sh sh2 ops ops' refl ta wo

pub lean_below : (w : Sides) (fn : ℕ) (c : Code) (k : ℕ) → lean_code (w.terms fn) c k ≤ k
lean_below w fn done k = omega arith
lean_below w fn (nest s r body rest) k = omega arith
lean_below w fn (branch r a b rest) k = omega arith
lean_below w fn (plain p rest) k = by p
  where
    none_or : (b : Bool) → (if b then 0 else k) ≤ k
    none_or true = omega arith
    none_or false = omega arith

    by : (p : Plain) → lean_plain (w.terms fn) p k ≤ k
    by (local_get x) = none_or ((w.terms fn).slot x)
    by (local_set x) = none_or ((w.terms fn).slot x)
    by (basic b) = omega arith
    by (local_tee x) = omega arith
    by (br l) = omega arith
    by (br_if l) = omega arith
    by (br_table ls l) = omega arith
    by return = omega arith
    by unreachable = omega arith
    by (call x) = omega arith
    by (call_indirect x) = omega arith

unders_long : (w : Sides) (under under' : List Activation) → Unders w under under' → length under' ≡ length under
unders_long w _ _ bottom = refl
unders_long w _ _ (above {under = u} {under' = u'} wt us) = ap suc (unders_long w u u' us)

-- there are no calls in no code
no_calls : (n : ℕ) → n ≡ length (calls_of done) + n
unfolding calls_of
no_calls n = omega arith

same_long : (ts us : List ValType) → same_types ts us ≡ true → length ts ≡ length us
same_long [] [] e = refl
same_long [] (u ∷ us) e = cc
same_long (t ∷ ts) [] e = cc
same_long (t ∷ ts) (u ∷ us) e = by (same_type t u) (same_long ts us) e
  where
    by : (b : Bool) → (same_types ts us ≡ true → length ts ≡ length us) → (b && same_types ts us) ≡ true → suc (length ts) ≡ suc (length us)
    by true ih e = ap suc (ih e)
    by false ih e = cc

same_params : (t u : FuncType) → same_func_type t u ≡ true → param_count t ≡ param_count u
same_params t u e = same_long t.params u.params (by (same_types t.params u.params) refl e)
  where
    by : (b : Bool) → same_types t.params u.params ≡ b → (b && same_types t.results u.results) ≡ true → same_types t.params u.params ≡ true
    by true q e = q
    by false q e = cc

module _ (w : Sides) where
  abbrev q : Module
  q = w.flat

  abbrev p : Module
  p = w.slim

  -- ---- what comes next on the slim side

  -- in lockstep
  together : (c c' : Configuration) (spare : ℕ) (least : ℕ → ℕ) (o o' : Next) → SameNext c c' → ((k : ℕ) → least k ≤ k) → step p c' ≡ o' → Same w spare o o' → ComesToo w c c' spare least o
  together c c' spare least _ _ sn be e (same_step {k = k} {left = left} {d' = d'} le bs) = let b = be (suc k) in it_steps (suc k) left d' (way_same sn e) b (omega arith) bs
  together c c' spare least _ _ sn be e (same_ask {d' = d'} a) = it_asks 0 c' d' saves_none (omega arith) sn e a
  together c c' spare least _ _ sn be e same_return = it_returns 0 c' saves_none (omega arith) sn e
  together c c' spare least _ _ sn be e same_trap = it_traps 0 c' saves_none (omega arith) sn e
  together c c' spare least _ _ sn be e flat_stuck = it_is_stuck

  -- one local set before
  later : (c c' c2 : Configuration) (spare : ℕ) (least : ℕ → ℕ) (o : Next) → sets_local c'.here.code ≡ true → step p c' ≡ steps 0 c2 → ComesToo w c c2 spare least o
      → ComesToo w c c' (suc spare) least o
  later c c' c2 spare least _ is e (it_steps {k = k} cost left to go le mo bs) = it_steps (1 + cost) left to (way_sets is e go refl) (omega arith) (omega arith) bs
  later c c' c2 spare least _ is e (it_asks cost at to go mo sn st a) = it_asks (1 + cost) at to (saves_one is e go refl) (omega arith) sn st a
  later c c' c2 spare least _ is e (it_returns cost at go mo sn st) = it_returns (1 + cost) at (saves_one is e go refl) (omega arith) sn st
  later c c' c2 spare least _ is e (it_traps cost at go mo sn st) = it_traps (1 + cost) at (saves_one is e go refl) (omega arith) sn st
  later c c' c2 spare least _ is e it_is_stuck = it_is_stuck

  lean_get : (fn y : ℕ) (rest : Code) → (w.terms fn).slot y ≡ true → lean_code (w.terms fn) (plain (local_get y) rest) 1 ≡ 0
  lean_get fn y rest e = ap (λ b. if b then 0 else 1) e

  lean_set : (fn y : ℕ) (rest : Code) → (w.terms fn).slot y ≡ true → lean_code (w.terms fn) (plain (local_set y) rest) 1 ≡ 0
  lean_set fn y rest e = ap (λ b. if b then 0 else 1) e

  -- ---- contexts

  abbrev t : Ctx w → Terms
  t x = w.terms x.fn

  abbrev cq : Ctx w → List Value → Code → List Label → Configuration
  cq x ops code labels = running x.s x.fn x.under x.ls ops code labels

  abbrev cp : Ctx w → List Value → Code → List Label → Configuration
  cp x ops code labels = running x.s x.fn x.under' x.ls' ops code labels

  abbrev with_store : Ctx w → Store → Ctx w
  with_store x s = record { s = s; fn = x.fn; under = x.under; under' = x.under'; us = x.us; free = x.free; ls = x.ls; ls' = x.ls'; size = x.size; agree = x.agree }

  module _ (ok : Together w) where
    -- a place where both sides stand
    at : (x : Ctx w) (g : Free) → Covers x.free g → (n : ℕ) (ts : List Free) (out : Free) (sh : StackShape) (ops ops' : List Value) (code code' : Code) (labels labels' : List Label)
        → Woven x.ls sh ops ops' → Slims (t x) n ts out g sh code code' → Around (t x) n ts out labels labels'
        → Beside w (kept sh) (cq x ops code labels) (cp x ops' code' labels')
    at x g co n ts out sh ops ops' code code' labels labels' wo sl ar = beside x.s x.fn g refl x.size (agree_wider x.free g x.ls x.ls' co x.agree) wo sl ar x.us

    leaves : (x : Ctx w) (k spare : ℕ) (ops : List Value) → Same w spare (leave k x.s ops (result_count q x.fn) x.under) (leave k x.s ops (result_count p x.fn) x.under')
    leaves x k spare ops = subst (λ (u : FuncType). Same w spare (leave k x.s ops (result_count q x.fn) x.under) (leave k x.s ops (length u.results) x.under'))
        (sym (ok.func_type x.fn)) (by_us x.under x.under' x.us)
      where
        by_us : (under under' : List Activation) → Unders w under under' → Same w spare (leave k x.s ops (result_count q x.fn) under) (leave k x.s ops (result_count q x.fn) under')
        by_us _ _ bottom = same_return
        by_us _ _ (above (waits fn f ac ls ls' ops2 taken size ag sl ar) us) = same_step (omega arith) (beside x.s fn f refl size ag woven sl ar us)

    jumps : (x : Ctx w) (k spare : ℕ) (n : ℕ) (ts : List Free) (out : Free) (ops : List Value) (labels labels' : List Label) (l : ℕ) → Reaches x.free ts l → Around (t x) n ts out labels labels'
        → Same w spare (jump k q x.s x.fn x.under x.ls ops labels l) (jump k p x.s x.fn x.under' x.ls' ops labels' l)
    jumps x k spare _ _ _ ops _ _ l re in_body = leaves x k spare ops
    jumps x k spare _ _ _ ops _ _ zero re (in_block {n = n} {ts = ts} {out = out} {g = g} h arity sk sk' em es sl ar) = same_step (omega arith) (at x g re n ts out [] _ _ _ _ _ _ woven sl ar)
    jumps x k spare _ _ _ ops _ _ (suc l) re (in_block {n = n} {ts = ts} {out = out} {labels = lb} {labels' = lb'} h arity sk sk' em es sl ar) = jumps x k spare n ts out ops lb lb' l re ar
    jumps x k spare _ _ _ ops _ _ zero re (in_loop {n = n} {m = m} {ts = ts} {out = out} {head = head} {g = g} h em sl sl2 ar) =
        same_step (omega arith) (at x head re m (head ∷ ts) g [] _ _ _ _ _ _ woven sl (in_loop h em sl sl2 ar))
    jumps x k spare _ _ _ ops _ _ (suc l) re (in_loop {n = n} {ts = ts} {out = out} {labels = lb} {labels' = lb'} h em sl sl2 ar) = jumps x k spare n ts out ops lb lb' l re ar

    finishes : (x : Ctx w) (spare : ℕ) (n : ℕ) (ts : List Free) (out : Free) (ops : List Value) (labels labels' : List Label) → Covers x.free out → Around (t x) n ts out labels labels'
        → Same w spare (finish q x.s x.fn x.under x.ls ops labels) (finish p x.s x.fn x.under' x.ls' ops labels')
    finishes x spare _ _ _ ops _ _ co in_body = leaves x 0 spare ops
    finishes x spare _ _ _ ops _ _ co (in_block {n = n} {ts = ts} {out = out} {g = g} h arity sk sk' em es sl ar) = same_step (omega arith) (at x g co n ts out [] _ _ _ _ _ _ woven sl ar)
    finishes x spare _ _ _ ops _ _ co (in_loop {n = n} {ts = ts} {out = out} {head = head} {g = g} h em sl sl2 ar) = same_step (omega arith) (at x g co n ts out [] _ _ _ _ _ _ woven sl2 ar)

    -- ---- calls

    invokes : (x : Ctx w) (spare : ℕ) (own ops : List Value) (rest rest' : Code) (labels labels' : List Label) (params y : ℕ) → params ≤ length ops → params ≡ param_count (func_type_at q y)
        → Waits w (waiting x.fn x.ls (drop params ops) (own ++ take params ops) rest labels) (waiting x.fn x.ls' (drop params ops) (own ++ take params ops) rest' labels')
        → Same w spare (invoke q x.s x.fn x.under x.ls own ops rest labels params y (defined_at q y)) (invoke p x.s x.fn x.under' x.ls' own ops rest' labels' params y (defined_at p y))
    invokes x spare own ops rest rest' labels labels' params y enough pe wt = by_twin (ok.twin y)
      where
        a : Activation
        a = waiting x.fn x.ls (drop params ops) (own ++ take params ops) rest labels

        a' : Activation
        a' = waiting x.fn x.ls' (drop params ops) (own ++ take params ops) rest' labels'

        args : List Value
        args = reverse (take params ops)

        by_twin : Twin w y → Same w spare (invoke q x.s x.fn x.under x.ls own ops rest labels params y (defined_at q y))
            (invoke p x.s x.fn x.under' x.ls' own ops rest' labels' params y (defined_at p y))
        by_twin (both_import e e') =
            subst (λ o. Same w spare (invoke q x.s x.fn x.under x.ls own ops rest labels params y o) (invoke p x.s x.fn x.under' x.ls' own ops rest' labels' params y (defined_at p y))) (sym e)
            (subst (λ o. Same w spare (if nat_lt y (func_imports q) then asks params y args (record { store = x.s; here = a; under = x.under }) else stuck)
            (invoke p x.s x.fn x.under' x.ls' own ops rest' labels' params y o)) (sym e')
            (subst (λ n. Same w spare (if nat_lt y (func_imports q) then asks params y args (record { store = x.s; here = a; under = x.under }) else stuck)
            (if nat_lt y n then asks params y args (record { store = x.s; here = a'; under = x.under' }) else stuck)) (sym ok.imports)
            (by_import (nat_lt y (func_imports q)))))
          where
            by_import : (b : Bool) → Same w spare (if b then asks params y args (record { store = x.s; here = a; under = x.under }) else stuck)
                (if b then asks params y args (record { store = x.s; here = a'; under = x.under' }) else stuck)
            by_import true = same_ask (record { store = refl; stack = above wt x.us })
            by_import false = flat_stuck
        by_twin (both_defined g g' e e' zeros size out f sl) =
            subst (λ o. Same w spare (invoke q x.s x.fn x.under x.ls own ops rest labels params y o) (invoke p x.s x.fn x.under' x.ls' own ops rest' labels' params y (defined_at p y))) (sym e)
            (subst (λ o. Same w spare (if nat_lt (length x.under + 1) 4096 then steps params (entered x.s (a ∷ x.under) args y g) else traps params StackExhausted x.s)
            (invoke p x.s x.fn x.under' x.ls' own ops rest' labels' params y o)) (sym e')
            (subst (λ n. Same w spare (if nat_lt (length x.under + 1) 4096 then steps params (entered x.s (a ∷ x.under) args y g) else traps params StackExhausted x.s)
            (if nat_lt (n + 1) 4096 then steps params (entered x.s (a' ∷ x.under') args y g') else traps params StackExhausted x.s)) (sym (unders_long w x.under x.under' x.us))
            (by_room (nat_lt (length x.under + 1) 4096))))
          where
            zs : List Value
            zs = map zero_of (declared_locals g.locals)

            zs' : List Value
            zs' = map zero_of (declared_locals g'.locals)

            same_zeros : args ++ zs' ≡ args ++ zs
            same_zeros = ap (λ ts. args ++ map zero_of ts) zeros

            long : length (args ++ zs) ≡ (w.terms y).size
            long =
                let l1 = length-append args zs in
                let l2 = length-map (declared_locals g.locals) zero_of in
                let l3 = length-reverse (take params ops) in
                let l4 = length-take-le params ops enough in
                omega arith

            by_room : (b : Bool) → Same w spare (if b then steps params (entered x.s (a ∷ x.under) args y g) else traps params StackExhausted x.s)
                (if b then steps params (entered x.s (a' ∷ x.under') args y g') else traps params StackExhausted x.s)
            by_room false = same_trap
            by_room true =
                same_step (omega arith)
                (beside x.s y f refl long (record { long = ap length same_zeros; same = λ z fr. ap (λ us. value_at us z) same_zeros }) woven sl in_body (above wt x.us))

    throughs : (x : Ctx w) (spare : ℕ) (own ops : List Value) (rest rest' : Code) (labels labels' : List Label) (sort : ℕ) → param_count (type_at q sort) ≤ length ops
        → ((params : ℕ) → Waits w (waiting x.fn x.ls (drop params ops) (own ++ take params ops) rest labels) (waiting x.fn x.ls' (drop params ops) (own ++ take params ops) rest' labels'))
        → (o : Option (Option ℕ)) → Same w spare (through q x.s x.fn x.under x.ls own ops rest labels sort o) (through p x.s x.fn x.under' x.ls' own ops rest' labels' sort o)
    throughs x spare own ops rest rest' labels labels' sort enough wt None =
        subst (λ u. Same w spare (traps (param_count (type_at q sort)) UndefinedElement x.s) (traps (param_count u) UndefinedElement x.s)) (sym (ok.sort sort)) same_trap
    throughs x spare own ops rest rest' labels labels' sort enough wt (Some None) =
        subst (λ u. Same w spare (traps (param_count (type_at q sort)) UninitializedElement x.s) (traps (param_count u) UninitializedElement x.s)) (sym (ok.sort sort)) same_trap
    throughs x spare own ops rest rest' labels labels' sort enough wt (Some (Some y)) =
        subst (λ u. Same w spare (test (func_type_at q y) (type_at q sort)) (test2 (func_type_at p y) u)) (sym (ok.sort sort))
        (subst (λ u. Same w spare (test (func_type_at q y) (type_at q sort)) (test2 u (type_at q sort))) (sym (ok.func_type y))
        (by_type (same_func_type (func_type_at q y) (type_at q sort)) refl))
      where
        test : FuncType → FuncType → Next
        test u v = if same_func_type u v then invoke w.flat x.s x.fn x.under x.ls own ops rest labels (param_count v) y (defined_at w.flat y) else traps (param_count v) TypeMismatch x.s

        test2 : FuncType → FuncType → Next
        test2 u v = if same_func_type u v then invoke w.slim x.s x.fn x.under' x.ls' own ops rest' labels' (param_count v) y (defined_at w.slim y) else traps (param_count v) TypeMismatch x.s

        n : ℕ
        n = param_count (type_at w.flat sort)

        by_type : (b : Bool) → same_func_type (func_type_at w.flat y) (type_at w.flat sort) ≡ b
            → Same w spare (if b then invoke w.flat x.s x.fn x.under x.ls own ops rest labels n y (defined_at w.flat y) else traps n TypeMismatch x.s)
            (if b then invoke w.slim x.s x.fn x.under' x.ls' own ops rest' labels' n y (defined_at w.slim y) else traps n TypeMismatch x.s)
        by_type false e = same_trap
        by_type true e = invokes x spare own ops rest rest' labels labels' n y enough (sym (same_params (func_type_at w.flat y) (type_at w.flat sort) e)) (wt n)

    -- ---- an instruction that touches no local

    dids : (k : ℕ) (x : Ctx w) (b : Basic) (spare : ℕ) (n : ℕ) (ts : List Free) (out : Free) (sh : StackShape) (ops ops' : List Value) (rest rest' : Code) (labels labels' : List Label)
        → kept sh ≤ spare → Woven x.ls sh ops ops'
        → Slims (t x) n ts out x.free (more (gives b) sh) rest rest' → Around (t x) n ts out labels labels' → (a : Did) → GivesSo (gives b) a
        → Same w spare (did k x.fn x.under x.ls labels rest x.s ops a) (did k x.fn x.under' x.ls' labels' rest' x.s ops' a)
    dids k x b spare n ts out sh ops ops' rest rest' labels labels' le wo sl ar (works s2 vs) g =
        let e = more_kept (gives b) sh in
        same_step (omega arith) (at (with_store x s2) x.free (λ y fr. fr) n ts out (more (gives b) sh) (vs ++ ops) (vs ++ ops') rest rest' labels labels'
        (subst (λ n. Woven x.ls (more n sh) (vs ++ ops) (vs ++ ops')) g (more_woven x.ls sh vs ops ops' wo)) sl ar)
    dids k x b spare n ts out sh ops ops' rest rest' labels labels' le wo sl ar (fails u) g = same_trap
    dids k x b spare n ts out sh ops ops' rest rest' labels labels' le wo sl ar lacks g = flat_stuck

    -- ---- the whole table

    abbrev ctx : (s : Store) (fn : ℕ) (under under' : List Activation) → Unders w under under' → (ls : List Value) → length ls ≡ (w.terms fn).size → (f : Free) (ls' : List Value)
        → Agree f ls ls' → Ctx w
    ctx s fn under under' us ls size f ls' ag = record { s = s; fn = fn; under = under; under' = under'; us = us; free = f; ls = ls; ls' = ls'; size = size; agree = ag }

    number_too : (spare : ℕ) (ops : List Value) (go go' : ℕ → List Value → Next) → ((v : ℕ) (below : List Value) → ops ≡ V.I32 v ∷ below → Same w spare (go v below) (go' v below))
        → Same w spare (with_number ops go) (with_number ops go')
    number_too spare [] go go' h = flat_stuck
    number_too spare (V.I32 v ∷ ops) go go' h = h v ops refl
    number_too spare (V.I64 v ∷ ops) go go' h = flat_stuck

    chooses_too : (spare v : ℕ) (a b a' b' : Next) → Same w spare a a' → Same w spare b b' → Same w spare (choose v a b) (choose v a' b')
    chooses_too spare zero a b a' b' g h = h
    chooses_too spare (suc v) a b a' b' g h = g

    module _ (s : Store) (fn : ℕ) (under under' : List Activation) (us : Unders w under under') where
      -- with operands that are the same on both sides
      module _ (ls : List Value) (size : length ls ≡ (w.terms fn).size) (f : Free) (ls' : List Value) (ag : Agree f ls ls') where
        abbrev x : Ctx w
        x = ctx s fn under under' us ls size f ls' ag

        Lockstep : (spare : ℕ) (ops : List Value) (code code' : Code) (labels labels' : List Label) → Type 0
        Lockstep spare ops code code' labels labels' = Same w spare (step_at q s fn under ls ops labels code) (step_at p s fn under' ls' ops labels' code')

        leap_if : (spare l : ℕ) (n : ℕ) (ts : List Free) (out : Free) (ops : List Value) (rest rest' : Code) (labels labels' : List Label) → Reaches f ts l
            → Slims (w.terms fn) n ts out f [] rest rest' → Around (w.terms fn) n ts out labels labels'
            → Same w spare (step_at q s fn under ls ops labels (plain (br_if l) rest)) (step_at p s fn under' ls' ops labels' (plain (br_if l) rest'))
        leap_if spare l n ts out ops rest rest' labels labels' re sl ar =
            number_too spare ops _ _ (λ v below e. chooses_too spare v _ _ _ _ (jumps x 0 spare n ts out below labels labels' l re ar)
            (same_step (omega arith) (at x f (λ y fr. fr) n ts out [] below below rest rest' labels labels' woven sl ar)))

        leap_by : (spare : ℕ) (es : List ℕ) (l : ℕ) (n : ℕ) (ts : List Free) (out : Free) (ops : List Value) (rest rest' : Code) (labels labels' : List Label)
            → ((n : ℕ) → Reaches f ts n) → Around (w.terms fn) n ts out labels labels'
            → Same w spare (step_at q s fn under ls ops labels (plain (br_table es l) rest)) (step_at p s fn under' ls' ops labels' (plain (br_table es l) rest'))
        leap_by spare es l n ts out ops rest rest' labels labels' re ar =
            number_too spare ops _ _ (λ v below e. jumps x (length es + 1) spare n ts out below labels labels' (unwrap_or (slice_get es v) l) (re (unwrap_or (slice_get es v) l)) ar)

        calls_too : (spare y : ℕ) (n : ℕ) (ts : List Free) (out : Free) (ops : List Value) (rest rest' : Code) (labels labels' : List Label)
            → param_count (func_type_at q y) ≤ length ops → Held f ((w.terms fn).fixed (length (calls_of rest) + n)) → Slims (w.terms fn) n ts out f [] rest rest'
            → Around (w.terms fn) n ts out labels labels'
            → Same w spare (step_at q s fn under ls ops labels (plain (call y) rest)) (step_at p s fn under' ls' ops labels' (plain (call y) rest'))
        calls_too spare y n ts out ops rest rest' labels labels' enough ac sl ar =
            subst (λ (u : FuncType). Same w spare (step_at q s fn under ls ops labels (plain (call y) rest))
            (invoke p s fn under' ls' [] ops rest' labels' (param_count u) y (defined_at p y))) (sym (ok.func_type y))
            (invokes x spare [] ops rest rest' labels labels' (param_count (func_type_at q y)) y enough refl (waits fn f ac ls ls' _ _ size ag sl ar))

        calls_by_too : (spare sort : ℕ) (n : ℕ) (ts : List Free) (out : Free) (ops : List Value) (rest rest' : Code) (labels labels' : List Label)
            → suc (param_count (type_at q sort)) ≤ length ops → Held f ((w.terms fn).fixed (length (calls_of rest) + n)) → Slims (w.terms fn) n ts out f [] rest rest'
            → Around (w.terms fn) n ts out labels labels'
            → Same w spare (step_at q s fn under ls ops labels (plain (call_indirect sort) rest)) (step_at p s fn under' ls' ops labels' (plain (call_indirect sort) rest'))
        calls_by_too spare sort n ts out ops rest rest' labels labels' enough ac sl ar =
            number_too spare ops _ _ (λ v below e. throughs x spare (V.I32 v ∷ []) below rest rest' labels labels' sort (let l : length ops ≡ suc (length below) = ap length e in
            omega arith) (λ params. waits fn f ac ls ls' _ _ size ag sl ar) (slice_get s.table v))

        arms_too : (spare : ℕ) (r : Option ValType) (g : Free) (n : ℕ) (ts : List Free) (out : Free) (ops : List Value) (a a' b b' rest rest' : Code) (labels labels' : List Label)
            → Slims (w.terms fn) (length (calls_of b) + (length (calls_of rest) + n)) (g ∷ ts) g f [] a a' → Slims (w.terms fn) (length (calls_of rest) + n) (g ∷ ts) g f [] b b'
            → Slims (w.terms fn) n ts out g [] rest rest' → Around (w.terms fn) n ts out labels labels'
            → Same w spare (step_at q s fn under ls ops labels (branch r a b rest)) (step_at p s fn under' ls' ops labels' (branch r a' b' rest'))
        arms_too spare r g n ts out ops a a' b b' rest rest' labels labels' sa sb sl ar = number_too spare ops _ _ (λ v below e. by v below)
          where
            arm : (m : ℕ) (below : List Value) (c c' sk sk' : Code) → m ≡ length (calls_of sk) + (length (calls_of rest) + n) → length (calls_of sk') ≡ length (calls_of sk)
                → Slims (w.terms fn) m (g ∷ ts) g f [] c c'
                → Same w spare (steps 0 (running s fn under ls below c (block_label (length below) (arity_of r) rest sk ∷ labels)))
                (steps 0 (running s fn under' ls' below c' (block_label (length below) (arity_of r) rest' sk' ∷ labels')))
            arm m below c c' sk sk' em es sc = same_step (omega arith) (at x f (λ y fr. fr) m (g ∷ ts) g [] below below c c' _ _ woven sc (in_block (length below) (arity_of r) sk sk' em es sl ar))

            by : (v : ℕ) (below : List Value)
                → Same w spare (steps 0 (choose v (running s fn under ls below a (block_label (length below) (arity_of r) rest b ∷ labels))
                (running s fn under ls below b (block_label (length below) (arity_of r) rest done ∷ labels))))
                (steps 0 (choose v (running s fn under' ls' below a' (block_label (length below) (arity_of r) rest' b' ∷ labels'))
                (running s fn under' ls' below b' (block_label (length below) (arity_of r) rest' done ∷ labels'))))
            by zero below = arm _ below b b' done done (no_calls (length (calls_of rest) + n)) refl sb
            by (suc v) below = arm _ below a a' b b' refl (ap length (same_calls (w.terms fn) (length (calls_of rest) + n) (g ∷ ts) g f [] b b' sb)) sa

      -- in lockstep, with the same operands
      plain_case : (ls ls' : List Value) (sh : StackShape) (ops ops' : List Value) (code code' : Code) (labels labels' : List Label) → head_of code' ≡ head_of code
          → ranges_in ops code' ≡ ranges_in ops code → Same w (kept sh) (step_at q s fn under ls ops labels code) (step_at p s fn under' ls' ops labels' code') → ops' ≡ ops
          → ComesToo w (running s fn under ls ops code labels) (running s fn under' ls' ops' code' labels') (kept sh) (lean_code (w.terms fn) code) (step_at q s fn under ls ops labels code)
      plain_case ls ls' sh ops ops' code code' labels labels' hd ac sm e =
          subst (λ us. ComesToo w (running s fn under ls ops code labels) (running s fn under' ls' us code' labels') (kept sh) (lean_code (w.terms fn) code)
          (step_at q s fn under ls ops labels code)) (sym e)
          (together _ _ (kept sh) (lean_code (w.terms fn) code) _ _ (record { store = refl; head = hd; reach = ac }) (lean_below w fn code) refl sm)

      -- The whole table. Slots that are set on the slim side alone come first.
      pub table : (ls : List Value) (size : length ls ≡ (w.terms fn).size) (f : Free) (ls' : List Value) (ag : Agree f ls ls') (n : ℕ) (ts : List Free) (out : Free) (sh : StackShape)
          (ops ops' : List Value) (code code' : Code) (labels labels' : List Label)
          → Woven ls sh ops ops' → Slims (w.terms fn) n ts out f sh code code' → Around (w.terms fn) n ts out labels labels' → ProperCode q ops code
          → ComesToo w (running s fn under ls ops code labels) (running s fn under' ls' ops' code' labels') (kept sh) (lean_code (w.terms fn) code) (step_at q s fn under ls ops labels code)
      table ls size f ls' ag n ts out sh ops ops' _ _ labels labels' wo (ends co pl) ar pr =
          plain_case ls ls' sh ops ops' done done labels labels' refl refl (finishes (ctx s fn under under' us ls size f ls' ag) (kept sh) n ts out ops labels labels' co ar)
          (plainly_same ls sh ops ops' pl wo)
      table ls size f ls' ag n ts out sh ops ops' _ _ labels labels' wo (does {sh2 = sh2} {rest = rest} {rest' = rest'} b ta sl) ar pr =
          let h = taken_same ls (takes b) sh sh2 ops ops' ta wo in
          let e = taken_kept (takes b) sh sh2 ta in
          together (running s fn under ls ops (plain (basic b) rest) labels) (running s fn under' ls' ops' (plain (basic b) rest') labels') (kept sh) (λ k. k) _ _ (record {
            store =
                refl;
            head = refl;
            reach = ap (reached b) h.0;
          }) (λ k. omega arith) refl
          (subst (λ m. Same w (kept sh) (step_at q s fn under ls ops labels (plain (basic b) rest))
          (did (extra_cost b (take (takes b) ops')) fn under' ls' labels' rest' s (drop (takes b) ops') (act m b s (take (takes b) ops')))) (sym ok.most)
          (subst (λ vs. Same w (kept sh) (step_at q s fn under ls ops labels (plain (basic b) rest))
          (did (extra_cost b vs) fn under' ls' labels' rest' s (drop (takes b) ops') (act (memory_max q) b s vs))) (sym h.0)
          (dids (extra_cost b (take (takes b) ops)) (ctx s fn under under' us ls size f ls' ag) b (kept sh) n ts out sh2 (drop (takes b) ops) (drop (takes b) ops') rest rest' labels labels' (omega arith) h.1 sl ar
          (act (memory_max q) b s (take (takes b) ops)) (gives_so (memory_max q) b s (take (takes b) ops)))))
      table ls size f ls' ag n ts out sh ops ops' _ _ labels labels' wo (gets {rest = rest} {rest' = rest'} y fr sl) ar pr =
          together (running s fn under ls ops (plain (local_get y) rest) labels) (running s fn under' ls' ops' (plain (local_get y) rest') labels') (kept sh)
          (lean_code (w.terms fn) (plain (local_get y) rest)) _ _ (record { store = refl; head = refl; reach = refl }) (lean_below w fn (plain (local_get y) rest)) refl
          (subst (λ v. Same w (kept sh) (steps 0 (running s fn under ls (value_at ls y ∷ ops) rest labels)) (steps 0 (running s fn under' ls' (v ∷ ops') rest' labels'))) (sym (ag.same y fr))
          (same_step (omega arith) (at (ctx s fn under under' us ls size f ls' ag) f (λ z fz. fz) n ts out (None ∷ sh) (value_at ls y ∷ ops)
          (value_at ls y ∷ ops') rest rest' labels labels' (woven_both (value_at ls y) wo) sl ar)))
      table ls size f ls' ag n ts out sh ops ops' _ _ labels labels' wo (sets {sh2 = sh2} {rest = rest} {rest' = rest'} y g co ta la sl) ar pr = by_top ops ops' (topped ls sh sh2 ops ops' ta wo)
        where
          by_top : (ops ops' : List Value) → Topped ls sh2 ops ops' → ComesToo w (running s fn under ls ops (plain (local_set y) rest) labels)
              (running s fn under' ls' ops' (plain (local_set y) rest') labels') (kept sh) (lean_code (w.terms fn) (plain (local_set y) rest))
              (step_at q s fn under ls ops labels (plain (local_set y) rest))
          by_top _ _ no_top = it_is_stuck
          by_top _ _ (a_top v {below = below} {below' = below'} wb) =
              let e = taken_kept 1 sh sh2 ta in
              together (running s fn under ls (v ∷ below) (plain (local_set y) rest) labels) (running s fn under' ls' (v ∷ below') (plain (local_set y) rest') labels') (kept sh)
              (lean_code (w.terms fn) (plain (local_set y) rest)) _ _ (record { store = refl; head = refl; reach = refl }) (lean_below w fn (plain (local_set y) rest)) refl
              (same_step (omega arith) (beside s fn g refl (length-set ls y v ∙ size) (agree_set f g ls ls' y v co ag) (woven_set ls y v sh2 below below' la wb) sl ar us))
      table ls size f ls' ag n ts out sh ops ops' _ _ labels labels' wo (tees {sh2 = sh2} {rest = rest} {rest' = rest'} y g co ta la sl) ar pr = by_top ops ops' (topped ls sh sh2 ops ops' ta wo)
        where
          by_top : (ops ops' : List Value) → Topped ls sh2 ops ops' → ComesToo w (running s fn under ls ops (plain (local_tee y) rest) labels)
              (running s fn under' ls' ops' (plain (local_tee y) rest') labels') (kept sh) (lean_code (w.terms fn) (plain (local_tee y) rest))
              (step_at q s fn under ls ops labels (plain (local_tee y) rest))
          by_top _ _ no_top = it_is_stuck
          by_top _ _ (a_top v {below = below} {below' = below'} wb) =
              let e = taken_kept 1 sh sh2 ta in
              together (running s fn under ls (v ∷ below) (plain (local_tee y) rest) labels) (running s fn under' ls' (v ∷ below') (plain (local_tee y) rest') labels') (kept sh)
              (λ k. k) _ _ (record { store = refl; head = refl; reach = refl }) (λ k. omega arith) refl
              (same_step (omega arith) (beside s fn g refl (length-set ls y v ∙ size) (agree_set f g ls ls' y v co ag) (woven_both v (woven_set ls y v sh2 below below' la wb)) sl ar us))
      table ls size f ls' ag n ts out sh ops ops' _ code' labels labels' wo (keeps {sh2 = sh2} {rest = rest} y g is lt co gy ta la sl) ar pr = by_top ops ops' (topped ls sh sh2 ops ops' ta wo)
        where
          by_top : (ops ops' : List Value) → Topped ls sh2 ops ops' → ComesToo w (running s fn under ls ops (plain (local_set y) rest) labels)
              (running s fn under' ls' ops' code' labels') (kept sh) (lean_code (w.terms fn) (plain (local_set y) rest)) (step_at q s fn under ls ops labels (plain (local_set y) rest))
          by_top _ _ no_top = it_is_stuck
          by_top _ _ (a_top v {below = below} {below' = below'} wb) =
              let e = taken_kept 1 sh sh2 ta in
              let z = lean_set fn y rest is in
              let at_y : v ≡ value_at (slice_set ls y v) y = sym (at_same ls y v (omega arith)) in
              it_steps 0 (suc (kept sh2)) (running s fn under' ls' (v ∷ below') code' labels') way_ends (omega arith) (omega arith)
              (beside s fn g refl (length-set ls y v ∙ size) (agree_kept f g ls ls' y v co gy ag) (woven_kept y v at_y (woven_set ls y v sh2 below below' la wb)) sl ar us)
      table ls size f ls' ag n ts out sh ops ops' _ code' labels labels' wo (uses {sh2 = sh2} {rest = rest} y is ri sl) ar pr =
          let e = risen_kept y sh sh2 ri in
          let z = lean_get fn y rest is in
          it_steps 0 (kept sh2) (running s fn under' ls' ops' code' labels') way_ends (omega arith) (omega arith)
          (at (ctx s fn under under' us ls size f ls' ag) f (λ z fz. fz) n ts out sh2 (value_at ls y ∷ ops) ops' rest code' labels labels' (risen ls y sh sh2 ops ops' ri wo) sl ar)
      table ls size f ls' ag n ts out _ ops ops' _ _ labels labels' wo (copies {sh = sh} {rest = rest} {rest' = rest'} y z g is co la sl) ar pr =
          let e = lean_get fn y (plain (local_set z) rest) is in
          it_steps 0 (suc (kept sh)) (running s fn under' ls' ops' (plain (local_tee z) rest') labels') way_ends (omega arith) (omega arith)
          (copying s fn f g y z refl size ag wo co la sl ar us)
      table ls size f ls' ag n ts out _ _ _ code _ labels labels' (woven_kept {ops = ops} {ops' = ops'} y v ev wo) (saves {sh = sh} {code' = code'} z g lt co sl) ar pr =
          later _ _ (running s fn under' (slice_set ls' z v) ops' code' labels') (kept sh) (lean_code (w.terms fn) code) _ refl refl
          (table ls size g (slice_set ls' z v) (agree_saved f g ls ls' z v co (omega arith) ev ag) n ts out sh ops ops' code code' labels labels' wo sl ar pr)
      table ls size f ls' ag n ts out sh ops ops' code code' labels labels' wo (narrows g co sl) ar pr =
          table ls size g ls' (agree_wider f g ls ls' co ag) n ts out sh ops ops' code code' labels labels' wo sl ar pr
      table ls size f ls' ag n ts out sh ops ops' code code' labels labels' wo (forgets pl sl) ar pr =
          subst (λ us. ComesToo w (running s fn under ls ops code labels) (running s fn under' ls' us code' labels') (kept sh) (lean_code (w.terms fn) code)
          (step_at q s fn under ls ops labels code)) (sym (plainly_same ls sh ops ops' pl wo))
          (subst (λ n. ComesToo w (running s fn under ls ops code labels) (running s fn under' ls' ops code' labels') n (lean_code (w.terms fn) code)
          (step_at q s fn under ls ops labels code)) (sym (plainly_none sh pl))
          (table ls size f ls' ag n ts out [] ops ops code code' labels labels' woven sl ar pr))
      table ls size f ls' ag n ts out sh ops ops' _ _ labels labels' wo (leaps {rest = rest} l pl re) ar pr =
          plain_case ls ls' sh ops ops' (plain (br l) rest) (plain (br l) rest) labels labels' refl refl
          (jumps (ctx s fn under under' us ls size f ls' ag) 0 (kept sh) n ts out ops labels labels' l re ar) (plainly_same ls sh ops ops' pl wo)
      table ls size f ls' ag n ts out sh ops ops' _ _ labels labels' wo (leaps_if {rest = rest} {rest' = rest'} l pl re sl) ar pr =
          plain_case ls ls' sh ops ops' (plain (br_if l) rest) (plain (br_if l) rest') labels labels' refl refl
          (leap_if ls size f ls' ag (kept sh) l n ts out ops rest rest' labels labels' re sl ar) (plainly_same ls sh ops ops' pl wo)
      table ls size f ls' ag n ts out sh ops ops' _ _ labels labels' wo (leaps_by {rest = rest} es l pl re) ar pr =
          plain_case ls ls' sh ops ops' (plain (br_table es l) rest) (plain (br_table es l) rest) labels labels' refl refl
          (leap_by ls size f ls' ag (kept sh) es l n ts out ops rest rest labels labels' re ar) (plainly_same ls sh ops ops' pl wo)
      table ls size f ls' ag n ts out sh ops ops' _ _ labels labels' wo (returns_here {rest = rest} pl) ar pr =
          plain_case ls ls' sh ops ops' (plain return rest) (plain return rest) labels labels' refl refl (leaves (ctx s fn under under' us ls size f ls' ag) 0 (kept sh) ops)
          (plainly_same ls sh ops ops' pl wo)
      table ls size f ls' ag n ts out sh ops ops' _ _ labels labels' wo (halts {rest = rest}) ar pr =
          together (running s fn under ls ops (plain unreachable rest) labels) (running s fn under' ls' ops' (plain unreachable rest) labels') (kept sh) (λ k. k) _ _
          (record { store = refl; head = refl; reach = refl }) (λ k. omega arith) refl same_trap
      table ls size f ls' ag n ts out sh ops ops' _ _ labels labels' wo (calls {rest = rest} {rest' = rest'} y pl ac sl) ar pr =
          plain_case ls ls' sh ops ops' (plain (call y) rest) (plain (call y) rest') labels labels' refl refl
          (calls_too ls size f ls' ag (kept sh) y n ts out ops rest rest' labels labels' pr ac sl ar) (plainly_same ls sh ops ops' pl wo)
      table ls size f ls' ag n ts out sh ops ops' _ _ labels labels' wo (calls_by {rest = rest} {rest' = rest'} sort pl ac sl) ar pr =
          plain_case ls ls' sh ops ops' (plain (call_indirect sort) rest) (plain (call_indirect sort) rest') labels labels' refl refl
          (calls_by_too ls size f ls' ag (kept sh) sort n ts out ops rest rest' labels labels' pr ac sl ar) (plainly_same ls sh ops ops' pl wo)
      table ls size f ls' ag n ts out sh ops ops' _ _ labels labels' wo (blocks {body = body} {body' = body'} {rest = rest} {rest' = rest'} r g pl sb sl) ar pr =
          plain_case ls ls' sh ops ops' (nest a_block r body rest) (nest a_block r body' rest') labels labels' refl refl
          (same_step (omega arith) (at (ctx s fn under under' us ls size f ls' ag) f (λ z fz. fz) _ (g ∷ ts) g [] ops ops body body' _ _ woven sb
          (in_block (length ops) (arity_of r) done done (no_calls (length (calls_of rest) + n)) refl sl ar))) (plainly_same ls sh ops ops' pl wo)
      table ls size f ls' ag n ts out sh ops ops' _ _ labels labels' wo (loops {body = body} {body' = body'} {rest = rest} {rest' = rest'} r head g pl co sb sl) ar pr =
          plain_case ls ls' sh ops ops' (nest a_loop r body rest) (nest a_loop r body' rest') labels labels' refl refl
          (same_step (omega arith) (at (ctx s fn under under' us ls size f ls' ag) head co _ (head ∷ ts) g [] ops ops body body' _ _ woven sb
          (in_loop (length ops) refl sb sl ar))) (plainly_same ls sh ops ops' pl wo)
      table ls size f ls' ag n ts out sh ops ops' _ _ labels labels' wo (decides {a = a} {a' = a'} {b = b} {b' = b'} {rest = rest} {rest' = rest'} r g pl sa sb sl) ar pr =
          plain_case ls ls' sh ops ops' (branch r a b rest) (branch r a' b' rest') labels labels' refl refl
          (arms_too ls size f ls' ag (kept sh) r g n ts out ops a a' b b' rest rest' labels labels' sa sb sl ar) (plainly_same ls sh ops ops' pl wo)
