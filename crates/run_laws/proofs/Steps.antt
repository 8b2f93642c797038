-- From a configuration in range one reduction of a module whose constants are in range leads to another.
use Rattle.std.proofs.Common.{◌≡◌, ℕ, zero, suc, ◌+◌, ◌-◌, Bool, true, false, cond, ltb, List, [], ◌∷◌, ◌++◌, length, map, take, drop, reverse, Option, Some, None, All, refl, sym, subst, arith}
use Rattle.std.specs.Prelude.{unwrap_or, slice_get, slice_set}
use mathlib.Core.List.{reverse-cons}
use Rattle.std.proofs.lemmas.List.Elements.{All-nil, All-cons, All-head, All-tail, All-append, All-take, All-drop}
use Rattle.wa_types.specs.declared.values.ValType.{ValType}
use Rattle.wa_types.specs.declared.values.ValType.TheVariants.{I32, I64}
use Rattle.wa_types.specs.declared.values.Value.{Value}
use Rattle.wa_types.specs.declared.values.Value.TheVariants as V
use Rattle.wa_types.specs.declared.values.Trap.TheVariants.{StackExhausted, TypeMismatch}
use Rattle.wa_types.specs.Sizes.{value_fits, CodeFits, PlainFits}
use Rattle.wa_types.specs.Syntax.{Plain, basic, local_get, local_set, local_tee, br, br_if, br_table, return, unreachable, call, call_indirect, a_block, a_loop, Code, done, plain, nest, branch, Func, Module}
use Rattle.wa_types.specs.Modules.{func_imports, type_at, func_type_at, declared_locals, defined_at}
use Rattle.wa_model.specs.Store.{choose, Store, value_at, Did, works, fails, lacks, takes, extra_cost, act}
use Rattle.wa_model.specs.Configuration.{Label, block_label, loop_label, Activation, Configuration, running, waiting}
use Rattle.wa_model.specs.Step.{Next, steps, asks, traps, stuck, keep, result_count, leave, jump, finish, did, zero_of, entered, invoke, param_count, same_func_type, through, memory_max, step_plain, step_at, step, arity_of}
use Rattle.run_laws.specs.Ranges.{CodesIn, ValuesIn, StoreIn, LabelIn, ActivationIn, ConfigurationIn, NextIn}
use Rattle.run_laws.proofs.Acts.{none_in, more_in, first_in, rest_in, value_at_in, set_in, DidIn, act_in}

-- ---- lists

pub got_in : {X : Type 0} (P : X → Type 0) (xs : List X) (i : ℕ) (x : X) → All P xs → slice_get xs i ≡ Some x → P x
got_in P [] i x h e = cc
got_in P (y ∷ ys) zero x h e = let z : y ≡ x = cc in subst P z (All-head P y ys h)
got_in P (y ∷ ys) (suc i) x h e = got_in P ys i x (All-tail P y ys h) e

pub reversed_in : (vs : List Value) → ValuesIn vs → ValuesIn (reverse vs)
reversed_in [] h = none_in
reversed_in (v ∷ vs) h =
    subst ValuesIn (sym (reverse-cons v vs))
    (All-append value_fits (reverse vs) (v ∷ []) (reversed_in vs (rest_in v vs h)) (more_in v [] (first_in v vs h) none_in))

zero_in : (t : ValType) → value_fits (zero_of t)
zero_in I32 = omega arith
zero_in I64 = omega arith

pub zeros_in : (ts : List ValType) → ValuesIn (map zero_of ts)
zeros_in [] = none_in
zeros_in (t ∷ ts) = more_in (zero_of t) (map zero_of ts) (zero_in t) (zeros_in ts)

pub joined_in : (us vs : List Value) → ValuesIn us → ValuesIn vs → ValuesIn (us ++ vs)
joined_in us vs h k = All-append value_fits us vs h k

pub taken_in : (n : ℕ) (vs : List Value) → ValuesIn vs → ValuesIn (take n vs)
taken_in n vs h = All-take value_fits n vs h

pub dropped_in : (n : ℕ) (vs : List Value) → ValuesIn vs → ValuesIn (drop n vs)
dropped_in n vs h = All-drop value_fits n vs h

-- ---- reductions

pub func_in : (m : Module) → CodesIn m → (x : ℕ) (f : Func) → defined_at m x ≡ Some f → CodeFits f.body
func_in m w x f e = by_import (ltb x (func_imports m)) e
  where
    by_import : (b : Bool) → cond b None (slice_get m.funcs (x - func_imports m)) ≡ Some f → CodeFits f.body
    by_import true e = cc
    by_import false e = got_in (λ (f : Func). CodeFits f.body) m.funcs (x - func_imports m) f w.funcs e

module _ (low : ℕ) where
  pub running_in : (s : Store) (fn : ℕ) (under : List Activation) (ls ops : List Value) (code : Code) (labels : List Label) → StoreIn low s
      → All ActivationIn under → ValuesIn ls → ValuesIn ops → CodeFits code → All LabelIn labels
      → ConfigurationIn low (running s fn under ls ops code labels)
  running_in s fn under ls ops code labels st us vl vo c lb = record { store = st; here = record { locals = vl; operands = vo; taken = none_in; code = c; labels = lb }; under = us }

  pub entered_in : (s : Store) (under : List Activation) (args : List Value) (x : ℕ) (f : Func) → StoreIn low s → All ActivationIn under
      → ValuesIn args → CodeFits f.body → ConfigurationIn low (entered s under args x f)
  entered_in s under args x f st us va ff =
      running_in s x under _ [] f.body [] st us (joined_in args (map zero_of (declared_locals f.locals)) va (zeros_in (declared_locals f.locals))) none_in ff (All-nil LabelIn)

  leave_in : (k : ℕ) (s : Store) (ops : List Value) (arity : ℕ) (under : List Activation) → StoreIn low s → ValuesIn ops → All ActivationIn under → NextIn low (leave k s ops arity under)
  leave_in k s ops arity [] st vo us = (taken_in arity ops vo, st)
  leave_in k s ops arity (a ∷ under) st vo us =
      let h = All-head ActivationIn a under us in
      running_in s a.func under a.locals (take arity ops ++ a.operands) a.code a.labels st (All-tail ActivationIn a under us) h.locals
      (joined_in (take arity ops) a.operands (taken_in arity ops vo) h.operands) h.code h.labels

  did_in : (k fn : ℕ) (under : List Activation) (ls : List Value) (labels : List Label) (rest : Code) (s : Store) (ops : List Value) (d : Did) → StoreIn low s
      → All ActivationIn under → ValuesIn ls → ValuesIn ops → CodeFits rest → All LabelIn labels → DidIn low d
      → NextIn low (did k fn under ls labels rest s ops d)
  did_in k fn under ls labels rest s ops (works s' results) st us vl vo c lb h = running_in s' fn under ls (results ++ ops) rest labels h.0 us vl (joined_in results ops h.1 vo) c lb
  did_in k fn under ls labels rest s ops (fails trap) st us vl vo c lb h = st
  did_in k fn under ls labels rest s ops lacks st us vl vo c lb h = tt

  chosen_next : (n : ℕ) (first second : Next) → NextIn low first → NextIn low second → NextIn low (choose n first second)
  chosen_next zero first second h k = k
  chosen_next (suc n) first second h k = h

  module _ (m : Module) (w : CodesIn m) where
    jump_in : (k : ℕ) (s : Store) (fn : ℕ) (under : List Activation) (ls ops : List Value) (labels : List Label) (l : ℕ)
        → StoreIn low s → All ActivationIn under → ValuesIn ls → ValuesIn ops → All LabelIn labels
        → NextIn low (jump k m s fn under ls ops labels l)
    jump_in k s fn under ls ops [] l st us vl vo lb = leave_in k s ops (result_count m fn) under st vo us
    jump_in k s fn under ls ops (block_label h arity rest skipped ∷ labels) zero st us vl vo lb =
        running_in s fn under ls (take arity ops ++ keep h ops) rest labels st us vl (joined_in (take arity ops) (keep h ops) (taken_in arity ops vo) (dropped_in (length ops - h) ops vo))
        (All-head LabelIn (block_label h arity rest skipped) labels lb) (All-tail LabelIn (block_label h arity rest skipped) labels lb)
    jump_in k s fn under ls ops (loop_label h body rest ∷ labels) zero st us vl vo lb =
        running_in s fn under ls (keep h ops) body (loop_label h body rest ∷ labels) st us vl (dropped_in (length ops - h) ops vo) (All-head LabelIn (loop_label h body rest) labels lb).0 lb
    jump_in k s fn under ls ops (block_label h arity rest skipped ∷ labels) (suc l) st us vl vo lb =
        jump_in k s fn under ls ops labels l st us vl vo (All-tail LabelIn (block_label h arity rest skipped) labels lb)
    jump_in k s fn under ls ops (loop_label h body rest ∷ labels) (suc l) st us vl vo lb = jump_in k s fn under ls ops labels l st us vl vo (All-tail LabelIn (loop_label h body rest) labels lb)

    finish_in : (s : Store) (fn : ℕ) (under : List Activation) (ls ops : List Value) (labels : List Label) → StoreIn low s → All ActivationIn under
        → ValuesIn ls → ValuesIn ops → All LabelIn labels → NextIn low (finish m s fn under ls ops labels)
    finish_in s fn under ls ops [] st us vl vo lb = leave_in 0 s ops (result_count m fn) under st vo us
    finish_in s fn under ls ops (block_label h arity rest skipped ∷ labels) st us vl vo lb =
        running_in s fn under ls ops rest labels st us vl vo (All-head LabelIn (block_label h arity rest skipped) labels lb) (All-tail LabelIn (block_label h arity rest skipped) labels lb)
    finish_in s fn under ls ops (loop_label h body rest ∷ labels) st us vl vo lb =
        running_in s fn under ls ops rest labels st us vl vo (All-head LabelIn (loop_label h body rest) labels lb).1 (All-tail LabelIn (loop_label h body rest) labels lb)

    invoke_in : (s : Store) (fn : ℕ) (under : List Activation) (ls own ops : List Value) (rest : Code) (labels : List Label) (params x : ℕ) (o : Option Func) → StoreIn low s
        → All ActivationIn under → ValuesIn ls → ValuesIn own → ValuesIn ops → CodeFits rest → All LabelIn labels
        → ((f : Func) → o ≡ Some f → CodeFits f.body) → NextIn low (invoke m s fn under ls own ops rest labels params x o)
    invoke_in s fn under ls own ops rest labels params x (Some f) st us vl vn vo c lb ff = by_depth (ltb (length under + 1) 4096)
      where
        by_depth : (b : Bool) → NextIn low
            (cond b (steps params (entered s (waiting fn ls (drop params ops) (own ++ take params ops) rest labels ∷ under) (reverse (take params ops)) x f)) (traps params StackExhausted s))
        by_depth true =
            let waits : ActivationIn (waiting fn ls (drop params ops) (own ++ take params ops) rest labels) =
            record { locals = vl; operands = dropped_in params ops vo; taken = joined_in own (take params ops) vn (taken_in params ops vo); code = c; labels = lb } in
            entered_in s (waiting fn ls (drop params ops) (own ++ take params ops) rest labels ∷ under) (reverse (take params ops)) x f st (All-cons ActivationIn _ under waits us)
            (reversed_in (take params ops) (taken_in params ops vo)) (ff f refl)
        by_depth false = st
    invoke_in s fn under ls own ops rest labels params x None st us vl vn vo c lb ff = by_import (ltb x (func_imports m))
      where
        by_import : (b : Bool) → NextIn low
            (cond b (asks params x (reverse (take params ops)) (record { store = s; here = waiting fn ls (drop params ops) (own ++ take params ops) rest labels; under = under })) stuck)
        by_import true = (
          reversed_in (take params ops) (taken_in params ops vo),
          record {
            store = st;
            here = record { locals = vl; operands = dropped_in params ops vo; taken = joined_in own (take params ops) vn (taken_in params ops vo); code = c; labels = lb };
            under = us;
          },
        )
        by_import false = tt

    through_in : (s : Store) (fn : ℕ) (under : List Activation) (ls own ops : List Value) (rest : Code) (labels : List Label) (sort : ℕ) (o : Option (Option ℕ)) → StoreIn low s
        → All ActivationIn under → ValuesIn ls → ValuesIn own → ValuesIn ops → CodeFits rest → All LabelIn labels
        → NextIn low (through m s fn under ls own ops rest labels sort o)
    through_in s fn under ls own ops rest labels sort None st us vl vn vo c lb = st
    through_in s fn under ls own ops rest labels sort (Some None) st us vl vn vo c lb = st
    through_in s fn under ls own ops rest labels sort (Some (Some x)) st us vl vn vo c lb = by_type (same_func_type (func_type_at m x) (type_at m sort))
      where
        by_type : (b : Bool) → NextIn low (cond b (invoke m s fn under ls own ops rest labels (param_count (type_at m sort)) x (defined_at m x)) (traps (param_count (type_at m sort)) TypeMismatch s))
        by_type true = invoke_in s fn under ls own ops rest labels (param_count (type_at m sort)) x (defined_at m x) st us vl vn vo c lb (func_in m w x)
        by_type false = st

    plain_in : (s : Store) (fn : ℕ) (under : List Activation) (ls ops : List Value) (labels : List Label) (rest : Code) (p : Plain) → StoreIn low s
        → All ActivationIn under → ValuesIn ls → ValuesIn ops → CodeFits rest → All LabelIn labels → PlainFits p
        → NextIn low (step_plain m s fn under ls ops labels rest p)
    plain_in s fn under ls ops labels rest (basic b) st us vl vo c lb f =
        did_in (extra_cost b (take (takes b) ops)) fn under ls labels rest s (drop (takes b) ops) (act (memory_max m) b s (take (takes b) ops)) st us vl (dropped_in (takes b) ops vo) c lb
        (act_in low (memory_max m) b s (take (takes b) ops) f st (taken_in (takes b) ops vo))
    plain_in s fn under ls ops labels rest (local_get x) st us vl vo c lb f =
        running_in s fn under ls (value_at ls x ∷ ops) rest labels st us vl (more_in (value_at ls x) ops (value_at_in ls x vl) vo) c lb
    plain_in s fn under ls [] labels rest (local_set x) st us vl vo c lb f = tt
    plain_in s fn under ls (v ∷ ops) labels rest (local_set x) st us vl vo c lb f =
        running_in s fn under (slice_set ls x v) ops rest labels st us (set_in ls x v (first_in v ops vo) vl) (rest_in v ops vo) c lb
    plain_in s fn under ls [] labels rest (local_tee x) st us vl vo c lb f = tt
    plain_in s fn under ls (v ∷ ops) labels rest (local_tee x) st us vl vo c lb f = running_in s fn under (slice_set ls x v) (v ∷ ops) rest labels st us (set_in ls x v (first_in v ops vo) vl) vo c lb
    plain_in s fn under ls ops labels rest (br l) st us vl vo c lb f = jump_in 0 s fn under ls ops labels l st us vl vo lb
    plain_in s fn under ls [] labels rest (br_if l) st us vl vo c lb f = tt
    plain_in s fn under ls (V.I64 n ∷ ops) labels rest (br_if l) st us vl vo c lb f = tt
    plain_in s fn under ls (V.I32 n ∷ ops) labels rest (br_if l) st us vl vo c lb f =
        let below = rest_in (V.I32 n) ops vo in
        chosen_next n (jump 0 m s fn under ls ops labels l) (steps 0 (running s fn under ls ops rest labels)) (jump_in 0 s fn under ls ops labels l st us vl below lb)
        (running_in s fn under ls ops rest labels st us vl below c lb)
    plain_in s fn under ls [] labels rest (br_table targets last) st us vl vo c lb f = tt
    plain_in s fn under ls (V.I64 n ∷ ops) labels rest (br_table targets last) st us vl vo c lb f = tt
    plain_in s fn under ls (V.I32 n ∷ ops) labels rest (br_table targets last) st us vl vo c lb f =
        jump_in (length targets + 1) s fn under ls ops labels (unwrap_or (slice_get targets n) last) st us vl (rest_in (V.I32 n) ops vo) lb
    plain_in s fn under ls ops labels rest return st us vl vo c lb f = leave_in 0 s ops (result_count m fn) under st vo us
    plain_in s fn under ls ops labels rest unreachable st us vl vo c lb f = st
    plain_in s fn under ls ops labels rest (call x) st us vl vo c lb f =
        invoke_in s fn under ls [] ops rest labels (param_count (func_type_at m x)) x (defined_at m x) st us vl none_in vo c lb (func_in m w x)
    plain_in s fn under ls [] labels rest (call_indirect sort) st us vl vo c lb f = tt
    plain_in s fn under ls (V.I64 n ∷ ops) labels rest (call_indirect sort) st us vl vo c lb f = tt
    plain_in s fn under ls (V.I32 n ∷ ops) labels rest (call_indirect sort) st us vl vo c lb f =
        through_in s fn under ls (V.I32 n ∷ []) ops rest labels sort (slice_get s.table n) st us vl (more_in (V.I32 n) [] (first_in (V.I32 n) ops vo) none_in) (rest_in (V.I32 n) ops vo) c lb

    at_in : (s : Store) (fn : ℕ) (under : List Activation) (ls ops : List Value) (labels : List Label) (code : Code) → StoreIn low s
        → All ActivationIn under → ValuesIn ls → ValuesIn ops → All LabelIn labels → CodeFits code
        → NextIn low (step_at m s fn under ls ops labels code)
    at_in s fn under ls ops labels done st us vl vo lb c = finish_in s fn under ls ops labels st us vl vo lb
    at_in s fn under ls ops labels (plain p rest) st us vl vo lb c = plain_in s fn under ls ops labels rest p st us vl vo c.1 lb c.0
    at_in s fn under ls ops labels (nest a_block r body rest) st us vl vo lb c =
        running_in s fn under ls ops body (block_label (length ops) (arity_of r) rest done ∷ labels) st us vl vo c.0 (All-cons LabelIn (block_label (length ops) (arity_of r) rest done) labels c.1 lb)
    at_in s fn under ls ops labels (nest a_loop r body rest) st us vl vo lb c =
        running_in s fn under ls ops body (loop_label (length ops) body rest ∷ labels) st us vl vo c.0 (All-cons LabelIn (loop_label (length ops) body rest) labels c lb)
    at_in s fn under ls [] labels (branch r a b rest) st us vl vo lb c = tt
    at_in s fn under ls (V.I64 n ∷ ops) labels (branch r a b rest) st us vl vo lb c = tt
    at_in s fn under ls (V.I32 n ∷ ops) labels (branch r a b rest) st us vl vo lb c = by_number n
      where
        below : ValuesIn ops
        below = rest_in (V.I32 n) ops vo

        by_number : (k : ℕ) → ConfigurationIn low
            (choose k (running s fn under ls ops a (block_label (length ops) (arity_of r) rest b ∷ labels)) (running s fn under ls ops b (block_label (length ops) (arity_of r) rest done ∷ labels)))
        by_number zero =
            running_in s fn under ls ops b (block_label (length ops) (arity_of r) rest done ∷ labels) st us vl below c.1
            (All-cons LabelIn (block_label (length ops) (arity_of r) rest done) labels c.2 lb)
        by_number (suc k) =
            running_in s fn under ls ops a (block_label (length ops) (arity_of r) rest b ∷ labels) st us vl below c.0 (All-cons LabelIn (block_label (length ops) (arity_of r) rest b) labels c.2 lb)

    -- one reduction
    pub step_in : (c : Configuration) → ConfigurationIn low c → NextIn low (step m c)
    step_in c h = at_in c.store c.here.func c.under c.here.locals c.here.operands c.here.labels c.here.code h.store h.under h.here.locals h.here.operands h.here.labels h.here.code
