-- One reduction of configurations that differ in locals that aren't read before they are written.
use Rattle.std.proofs.Common.{◌≡◌, ◌≢◌, ℕ, zero, suc, ◌+◌, ◌≤◌, inl, inr, List, [], ◌∷◌, ◌++◌, length, map, take, drop, reverse, Option, Some, None, Bool, true, false, eq-eqb, refl, sym, ap, ◌∙◌, subst, arith, eqb-true, get_or-set_other, length-set}
use Rattle.std.specs.Prelude.{nat_eq, nat_lt, slice_get, slice_set, unwrap_or, if◌then◌else◌}
use Rattle.wa_types.specs.Liveness.{Position, ReadsFirst, SomeTarget, ends_here, goes_on, goes_again, goes_behind, position, target, Leads, writes}
use Rattle.wa_types.specs.Liveness as L
use Rattle.wa_types.specs.Modules.{defined_at, func_imports, func_type_at, type_at}
use Rattle.wa_types.specs.Pruned.{pruned}
use Rattle.wa_types.specs.Syntax.{Code, Func, Module, Plain, a_block, a_loop, basic, br, br_if, br_table, branch, call, call_indirect, done, local_get, local_set, local_tee, nest, plain, return, unreachable}
use Rattle.wa_types.specs.declared.values.Value.{Value}
use Rattle.wa_types.specs.declared.values.Value.TheVariants as V
use Rattle.wa_types.specs.declared.values.Trap.TheVariants.{StackExhausted, TypeMismatch}
use Rattle.wa_model.specs.Configuration.{Activation, Label, block_label, loop_label, running, waiting}
use Rattle.wa_model.specs.Step.{arity_of, asks, did, entered, finish, invoke, jump, leave, memory_max, param_count, result_count, same_func_type, step_at, step_plain, steps, stuck, through, traps}
use Rattle.wa_model.specs.Store.{Did, Store, act, fails, lacks, extra_cost, takes, value_at, works}
use Rattle.headline.specs.LiveLaw.{LiveNext, live_asks, live_returns, live_steps, live_stuck, live_traps}
use Rattle.emitted_form.specs.SameLive.{AgreeAt, LiveLocalsSuffice, SameLive, SameLocals, SameUnder, alike, also, leads_to, none, place}

module _ (m : Module) where
  leave_same : (k : ℕ) (s : Store) (ops : List Value) (arity : ℕ) (under under' : List Activation) → SameUnder under under' → LiveNext SameLive (leave k s ops arity under) (leave k s ops arity under')
  leave_same k s ops arity _ _ none = live_returns
  leave_same k s ops arity _ _ (also h us) = live_steps (alike h us)

  jump_same : (k : ℕ) (s : Store) (fn : ℕ) (under under' : List Activation) (ls ls' ops : List Value) (labels : List Label) (l : ℕ) → length ls' ≡ length ls
      → ((there : Position) → target (map leads_to labels) l ≡ Some there → AgreeAt there ls ls') → SameUnder under under'
      → LiveNext SameLive (jump k m s fn under ls ops labels l) (jump k m s fn under' ls' ops labels l)
  jump_same k s fn under under' ls ls' ops [] l e h us = leave_same k s ops (result_count m fn) under under' us
  jump_same k s fn under under' ls ls' ops (block_label ht arity rest skipped ∷ labels) zero e h us = live_steps (alike (e, h (place rest labels) refl) us)
  jump_same k s fn under under' ls ls' ops (loop_label ht body rest ∷ labels) zero e h us = live_steps (alike (e, h (place body (loop_label ht body rest ∷ labels)) refl) us)
  jump_same k s fn under under' ls ls' ops (block_label ht arity rest skipped ∷ labels) (suc l) e h us = jump_same k s fn under under' ls ls' ops labels l e h us
  jump_same k s fn under under' ls ls' ops (loop_label ht body rest ∷ labels) (suc l) e h us = jump_same k s fn under under' ls ls' ops labels l e h us

  -- a move that writes no local
  moved : (at there : Position) (ls ls' : List Value) → ((x : ℕ) → writes x at.here ≡ false) → Leads at.here at.labels there → AgreeAt at ls ls' → AgreeAt there ls ls'
  moved at there ls ls' w l h x r = h x (goes_on at there (w x) l r)

  finish_same : (s : Store) (fn : ℕ) (under under' : List Activation) (ls ls' ops : List Value) (labels : List Label) → SameLocals done labels ls ls' → SameUnder under under'
      → LiveNext SameLive (finish m s fn under ls ops labels) (finish m s fn under' ls' ops labels)
  unfolding pruned
  finish_same s fn under under' ls ls' ops [] h us = leave_same 0 s ops (result_count m fn) under under' us
  finish_same s fn under under' ls ls' ops (block_label ht arity rest skipped ∷ labels) h us =
      live_steps (alike (h.0, moved (place done (block_label ht arity rest skipped ∷ labels)) (place rest labels) ls ls' (λ x. refl) refl h.1) us)
  finish_same s fn under under' ls ls' ops (loop_label ht body rest ∷ labels) h us =
      live_steps (alike (h.0, moved (place done (loop_label ht body rest ∷ labels)) (place rest labels) ls ls' (λ x. refl) refl h.1) us)

  did_same : (k fn : ℕ) (under under' : List Activation) (ls ls' : List Value) (labels : List Label) (rest : Code) (s : Store) (ops : List Value) (d : Did) → SameLocals rest labels ls ls'
      → SameUnder under under'
      → LiveNext SameLive (did k fn under ls labels rest s ops d) (did k fn under' ls' labels rest s ops d)
  did_same k fn under under' ls ls' labels rest s ops (works s' results) h us = live_steps (alike h us)
  did_same k fn under under' ls ls' labels rest s ops (fails trap) h us = live_traps
  did_same k fn under under' ls ls' labels rest s ops lacks h us = live_stuck

  under_length : (under under' : List Activation) → SameUnder under under' → length under' ≡ length under
  under_length _ _ none = refl
  under_length _ _ (also {under = under} {under' = under'} h us) = ap suc (under_length under under' us)

  invoke_same : (s : Store) (fn : ℕ) (under under' : List Activation) (ls ls' own ops : List Value) (rest : Code) (labels : List Label) (params x : ℕ) (o : Option Func)
      → SameLocals rest labels ls ls' → SameUnder under under'
      → LiveNext SameLive (invoke m s fn under ls own ops rest labels params x o) (invoke m s fn under' ls' own ops rest labels params x o)
  invoke_same s fn under under' ls ls' own ops rest labels params x (Some f) h us =
      subst (λ n. LiveNext SameLive (invoke m s fn under ls own ops rest labels params x (Some f))
      (if nat_lt (n + 1) 4096 then steps params (entered s (waiting fn ls' (drop params ops) (own ++ take params ops) rest labels ∷ under') (reverse (take params ops)) x f) else traps
      params StackExhausted s))
      (sym (under_length under under' us)) (by (nat_lt (length under + 1) 4096))
    where
      by : (b : Bool) → LiveNext SameLive
          (if b then steps params (entered s (waiting fn ls (drop params ops) (own ++ take params ops) rest labels ∷ under) (reverse (take params ops)) x f) else traps params StackExhausted s)
          (if b then steps params (entered s (waiting fn ls' (drop params ops) (own ++ take params ops) rest labels ∷ under') (reverse (take params ops)) x f) else traps params StackExhausted s)
      by true = live_steps (alike (refl, λ y r. refl) (also h us))
      by false = live_traps
  invoke_same s fn under under' ls ls' own ops rest labels params x None h us = by (nat_lt x (func_imports m))
    where
      by : (b : Bool) → LiveNext SameLive
          (if b then asks params x (reverse (take params ops)) (record { store = s; here = waiting fn ls (drop params ops) (own ++ take params ops) rest labels; under = under }) else stuck)
          (if b then asks params x (reverse (take params ops)) (record { store = s; here = waiting fn ls' (drop params ops) (own ++ take params ops) rest labels; under = under' }) else stuck)
      by true = live_asks (alike h us)
      by false = live_stuck

  through_same : (s : Store) (fn : ℕ) (under under' : List Activation) (ls ls' own ops : List Value) (rest : Code) (labels : List Label) (sort : ℕ) (o : Option (Option ℕ))
      → SameLocals rest labels ls ls' → SameUnder under under'
      → LiveNext SameLive (through m s fn under ls own ops rest labels sort o) (through m s fn under' ls' own ops rest labels sort o)
  through_same s fn under under' ls ls' own ops rest labels sort None h us = live_traps
  through_same s fn under under' ls ls' own ops rest labels sort (Some None) h us = live_traps
  through_same s fn under under' ls ls' own ops rest labels sort (Some (Some x)) h us = by (same_func_type (func_type_at m x) (type_at m sort))
    where
      by : (b : Bool) → LiveNext SameLive
          (if b then invoke m s fn under ls own ops rest labels (param_count (type_at m sort)) x (defined_at m x) else traps (param_count (type_at m sort)) TypeMismatch s)
          (if b then invoke m s fn under' ls' own ops rest labels (param_count (type_at m sort)) x (defined_at m x) else traps (param_count (type_at m sort)) TypeMismatch s)
      by true = invoke_same s fn under under' ls ls' own ops rest labels (param_count (type_at m sort)) x (defined_at m x) h us
      by false = live_traps

  -- ---- locals that are written

  past_end : (ls : List Value) (x : ℕ) → length ls ≤ x → value_at ls x ≡ V.I32 0
  past_end [] x le = refl
  past_end (v ∷ ls) zero le = absurd (omega arith)
  past_end (v ∷ ls) (suc x) le = past_end ls x (omega arith)

  put_same : (ls ls' : List Value) (y : ℕ) (v : Value) → length ls' ≡ length ls → value_at (slice_set ls' y v) y ≡ value_at (slice_set ls y v) y
  put_same [] [] y v e = refl
  put_same [] (w ∷ ls') y v e = absurd (omega arith)
  put_same (w ∷ ls) [] y v e = absurd (omega arith)
  put_same (w ∷ ls) (w' ∷ ls') zero v e = refl
  put_same (w ∷ ls) (w' ∷ ls') (suc y) v e = put_same ls ls' y v (omega arith)

  clash : false ≡ true → ⊥
  clash e = cc

  agree_put : (at there : Position) (ls ls' : List Value) (y : ℕ) (v : Value) → length ls' ≡ length ls → ((x : ℕ) → writes x at.here ≡ nat_eq x y) → Leads at.here at.labels there → AgreeAt at ls ls'
      → AgreeAt there (slice_set ls y v) (slice_set ls' y v)
  agree_put at there ls ls' y v e w l h x r = by (nat_eq x y) refl
    where
      by : (b : Bool) → nat_eq x y ≡ b → value_at (slice_set ls' y v) x ≡ value_at (slice_set ls y v) x
      by true q = let z : x ≡ y = eqb-true x y q in subst (λ i. value_at (slice_set ls' y v) i ≡ value_at (slice_set ls y v) i) (sym z) (put_same ls ls' y v e)
      by false q =
          let ne : x ≢ y = λ z. let t : nat_eq x y ≡ true = eq-eqb x y z in let bad : false ≡ true = sym q ∙ t in clash bad in
          get_or-set_other ls' y x v (V.I32 0) ne ∙ h x (goes_on at there (w x ∙ q) l r) ∙ sym (get_or-set_other ls y x v (V.I32 0) ne)

  put_length : (ls ls' : List Value) (y : ℕ) (v : Value) → length ls' ≡ length ls → length (slice_set ls' y v) ≡ length (slice_set ls y v)
  put_length ls ls' y v e = length-set ls' y v ∙ e ∙ sym (length-set ls y v)

  -- the label that a branch table chooses is one of its labels
  some_label : (ls : List L.Label) (targets : List ℕ) (n l : ℕ) (there : Position) → slice_get targets n ≡ Some l → target ls l ≡ Some there → SomeTarget ls targets there
  some_label ls [] n l there g e = cc
  some_label ls (t ∷ targets) zero l there g e = let z : t ≡ l = cc in inl (ap (target ls) z ∙ e)
  some_label ls (t ∷ targets) (suc n) l there g e = inr (some_label ls targets n l there g e)

  some_target : (ls : List L.Label) (targets : List ℕ) (last n : ℕ) (there : Position) → target ls (unwrap_or (slice_get targets n) last) ≡ Some there → SomeTarget ls (last ∷ targets) there
  some_target ls targets last n there e = by (slice_get targets n) refl e
    where
      by : (o : Option ℕ) → slice_get targets n ≡ o → target ls (unwrap_or o last) ≡ Some there → SomeTarget ls (last ∷ targets) there
      by None g h = inl h
      by (Some l) g h = inr (some_label ls targets n l there g h)

  plain_same : (s : Store) (fn : ℕ) (under under' : List Activation) (ls ls' ops : List Value) (labels : List Label) (rest : Code) (p : Plain) → SameLocals (plain p rest) labels ls ls'
      → SameUnder under under'
      → LiveNext SameLive (step_plain m s fn under ls ops labels rest p) (step_plain m s fn under' ls' ops labels rest p)
  unfolding pruned
  plain_same s fn under under' ls ls' ops labels rest (basic b) h us =
      did_same (extra_cost b (take (takes b) ops)) fn under under' ls ls' labels rest s (drop (takes b) ops) (act (memory_max m) b s (take (takes b) ops))
      (h.0, moved (place (plain (basic b) rest) labels) (place rest labels) ls ls' (λ x. refl) refl h.1) us
  plain_same s fn under under' ls ls' ops labels rest (local_get y) h us =
      let at = place (plain (local_get y) rest) labels in
      let same : value_at ls' y ≡ value_at ls y = h.1 y (ends_here at refl) in
      subst (λ v. LiveNext SameLive (steps 0 (running s fn under ls (value_at ls y ∷ ops) rest labels)) (steps 0 (running s fn under' ls' (v ∷ ops) rest labels))) (sym same)
      (live_steps (alike (h.0, moved at (place rest labels) ls ls' (λ x. refl) refl h.1) us))
  plain_same s fn under under' ls ls' [] labels rest (local_set y) h us = live_stuck
  plain_same s fn under under' ls ls' (v ∷ ops) labels rest (local_set y) h us =
      live_steps (alike (put_length ls ls' y v h.0, agree_put (place (plain (local_set y) rest) labels) (place rest labels) ls ls' y v h.0 (λ x. refl) refl h.1) us)
  plain_same s fn under under' ls ls' [] labels rest (local_tee y) h us = live_stuck
  plain_same s fn under under' ls ls' (v ∷ ops) labels rest (local_tee y) h us =
      live_steps (alike (put_length ls ls' y v h.0, agree_put (place (plain (local_tee y) rest) labels) (place rest labels) ls ls' y v h.0 (λ x. refl) refl h.1) us)
  plain_same s fn under under' ls ls' ops labels rest (br l) h us =
      jump_same 0 s fn under under' ls ls' ops labels l h.0 (λ there e. moved (place (plain (br l) rest) labels) there ls ls' (λ x. refl) e h.1) us
  plain_same s fn under under' ls ls' [] labels rest (br_if l) h us = live_stuck
  plain_same s fn under under' ls ls' (V.I64 n ∷ ops) labels rest (br_if l) h us = live_stuck
  plain_same s fn under under' ls ls' (V.I32 zero ∷ ops) labels rest (br_if l) h us =
      live_steps (alike (h.0, moved (place (plain (br_if l) rest) labels) (place rest labels) ls ls' (λ x. refl) (inr refl) h.1) us)
  plain_same s fn under under' ls ls' (V.I32 (suc n) ∷ ops) labels rest (br_if l) h us =
      jump_same 0 s fn under under' ls ls' ops labels l h.0 (λ there e. moved (place (plain (br_if l) rest) labels) there ls ls' (λ x. refl) (inl e) h.1) us
  plain_same s fn under under' ls ls' [] labels rest (br_table targets last) h us = live_stuck
  plain_same s fn under under' ls ls' (V.I64 n ∷ ops) labels rest (br_table targets last) h us = live_stuck
  plain_same s fn under under' ls ls' (V.I32 n ∷ ops) labels rest (br_table targets last) h us =
      jump_same (length targets + 1) s fn under under' ls ls' ops labels (unwrap_or (slice_get targets n) last) h.0
      (λ there e. moved (place (plain (br_table targets last) rest) labels) there ls ls' (λ x. refl) (some_target (map leads_to labels) targets last n there e) h.1) us
  plain_same s fn under under' ls ls' ops labels rest return h us = leave_same 0 s ops (result_count m fn) under under' us
  plain_same s fn under under' ls ls' ops labels rest unreachable h us = live_traps
  plain_same s fn under under' ls ls' ops labels rest (call x) h us =
      invoke_same s fn under under' ls ls' [] ops rest labels (param_count (func_type_at m x)) x (defined_at m x)
      (h.0, moved (place (plain (call x) rest) labels) (place rest labels) ls ls' (λ x. refl) refl h.1) us
  plain_same s fn under under' ls ls' [] labels rest (call_indirect sort) h us = live_stuck
  plain_same s fn under under' ls ls' (V.I64 n ∷ ops) labels rest (call_indirect sort) h us = live_stuck
  plain_same s fn under under' ls ls' (V.I32 n ∷ ops) labels rest (call_indirect sort) h us =
      through_same s fn under under' ls ls' (V.I32 n ∷ []) ops rest labels sort (slice_get s.table n)
      (h.0, moved (place (plain (call_indirect sort) rest) labels) (place rest labels) ls ls' (λ x. refl) refl h.1) us

  at_same : (s : Store) (fn : ℕ) (under under' : List Activation) (ls ls' ops : List Value) (labels : List Label) (code : Code) → SameLocals code labels ls ls' → SameUnder under under'
      → LiveNext SameLive (step_at m s fn under ls ops labels code) (step_at m s fn under' ls' ops labels code)
  unfolding pruned
  at_same s fn under under' ls ls' ops labels done h us = finish_same s fn under under' ls ls' ops labels h us
  at_same s fn under under' ls ls' ops labels (plain p rest) h us = plain_same s fn under under' ls ls' ops labels rest p h us
  at_same s fn under under' ls ls' ops labels (nest a_block r body rest) h us =
      live_steps (alike (h.0, moved (place (nest a_block r body rest) labels) (place body (block_label (length ops) (arity_of r) rest done ∷ labels)) ls ls' (λ x. refl) refl h.1) us)
  at_same s fn under under' ls ls' ops labels (nest a_loop r body rest) h us =
      live_steps (alike (h.0, moved (place (nest a_loop r body rest) labels) (place body (loop_label (length ops) body rest ∷ labels)) ls ls' (λ x. refl) refl h.1) us)
  at_same s fn under under' ls ls' [] labels (branch r a b rest) h us = live_stuck
  at_same s fn under under' ls ls' (V.I64 n ∷ ops) labels (branch r a b rest) h us = live_stuck
  at_same s fn under under' ls ls' (V.I32 zero ∷ ops) labels (branch r a b rest) h us =
      live_steps (alike (h.0, moved (place (branch r a b rest) labels) (place b (block_label (length ops) (arity_of r) rest done ∷ labels)) ls ls' (λ x. refl) (inr refl) h.1) us)
  at_same s fn under under' ls ls' (V.I32 (suc n) ∷ ops) labels (branch r a b rest) h us =
      live_steps (alike (h.0, moved (place (branch r a b rest) labels) (place a (block_label (length ops) (arity_of r) rest b ∷ labels)) ls ls' (λ x. refl) (inl refl) h.1) us)

pub live_suffices : LiveLocalsSuffice
live_suffices m _ _ (alike {s = s} {fn = fn} {ls = ls} {ls' = ls'} {ops = ops} {code = code} {labels = labels} {under = under} {under' = under'} h us) = at_same m s fn under under' ls
    ls' ops labels code h us
