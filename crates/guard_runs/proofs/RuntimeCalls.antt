-- The five exports, as the host calls them.
use Rattle.std.proofs.Common.{◌≡◌, ℕ, suc, ◌+◌, ◌≤◌, List, [], ◌∷◌, length, take, Some, None, true, false, refl, ap, ◌∙◌, subst, arith}
use Rattle.std.specs.Prelude.{nat_lt, slice_set}
use Rattle.wa_types.specs.declared.values.ValType.TheVariants.{I32}
use Rattle.wa_types.specs.declared.values.Value.{Value}
use Rattle.wa_types.specs.declared.values.Value.TheVariants as V
use Rattle.wa_types.specs.declared.operators.NumOp.TheVariants.{I32GtU}
use Rattle.wa_types.specs.Syntax.{num, global_get, global_set, basic, local_get, unreachable, Code, done, plain, branch, Func, Module}
use Rattle.wa_types.specs.Modules.{defined_at}
use Rattle.wa_types.specs.Runtime.{test_code, start_code, stop_code, state_code, runtime_func}
use Rattle.wa_types.specs.Frames.{word, HoldsBytes}
use Rattle.wa_ops.specs.Integers.{of_bool}
use Rattle.wa_model.specs.declared.answers.Area.{Area}
use Rattle.wa_model.specs.Machine.{goes}
use Rattle.wa_model.specs.Store.{choose, Store, value_at}
use Rattle.wa_model.specs.Configuration.{block_label, Configuration, running}
use Rattle.wa_model.specs.Step.{returns, step, result_count, entered}
use Rattle.wa_model.specs.Plan.{Plan}
use Rattle.wa_model.specs.Blocking.{Left}
use Rattle.wa_model.specs.Protocol.{Exports, Phase, Then, Held, calling, aside, aside_called, aside_step}
use Rattle.run_theory.proofs.Alone.{Comes, one, on}
use Rattle.frame_laws.specs.FrameMemory.{AreaAt}
use Rattle.local_spill.specs.Spilling.{loaded_value}
use Rattle.frame_laws.specs.Stretches.{GoesKeeping}
use Rattle.run_theory.specs.Keeping.{keeps}
use Rattle.frame_laws.proofs.FieldBytes.{le_true}
use Rattle.frame_laws.proofs.FrameCode.{load_value}
use Rattle.frame_laws.proofs.Walks.{walks}
use Rattle.guard_runs.proofs.UnseenMoves.{Through, th_one, th_on, in_aside}

-- the state set, and the address too
abbrev pub stopped : (st : ℕ) → Store → Store
stopped st s = record { globals = slice_set s.globals st (V.I32 0); memory = s.memory; table = s.table }

abbrev pub started : (st adr n at : ℕ) → Store → Store
started st adr n at s = record { globals = slice_set (slice_set s.globals st (V.I32 n)) adr (V.I32 at); memory = s.memory; table = s.table }

lt_false : (a b : ℕ) → b ≤ a → nat_lt a b ≡ false
lt_false a b h = grind arith

-- An export that is called and returns.
pub record Runs (g : ℕ) (area : Area) (p : Module) (s : Store) (f : ℕ) (args : List Value) (func : Func) (bound : ℕ) (values : List Value) (t : Store) : Type 0 where
  pub cost : ℕ
  pub within : cost ≤ bound
  pub end : Configuration
  pub goes : GoesKeeping g area p (entered s [] args f func) cost end
  pub may : keeps g area end ≡ true
  pub returns_there : step p end ≡ returns 0 values t

module _ (g : ℕ) (area : Area) (p : Module) (fn : ℕ) where
  abbrev C : Configuration → ℕ → Configuration → Type 0
  C c n d = Comes (keeps g area) p c n d

  set_global : (s : Store) (ls ops : List Value) (x : ℕ) (v : Value) (next : Code) → g ≤ x
      → C (running s fn [] ls (v ∷ ops) (plain (basic (global_set x)) next) []) 1 (running (record { globals = slice_set s.globals x v; memory = s.memory; table = s.table }) fn [] ls ops next [])
  set_global s ls ops x v next le = one (keeps g area) p 0 _ _ (le_true g x le) refl

  get_global : (s : Store) (ls ops : List Value) (x : ℕ) (v : Value) (next : Code) → value_at s.globals x ≡ v
      → C (running s fn [] ls ops (plain (basic (global_get x)) next) []) 1 (running s fn [] ls (v ∷ ops) next [])
  get_global s ls ops x v next e = subst (λ w. C (running s fn [] ls ops (plain (basic (global_get x)) next) []) 1 (running s fn [] ls (w ∷ ops) next [])) e (walks (keeps g area) p 1 _ _ refl)

  -- the test is passed
  tests : (adr loc : ℕ) (s : Store) (ls : List Value) → AreaAt adr area s loc → C (running s fn [] ls [] (test_code adr) []) 7 (running s fn [] ls [] done [])
  tests adr loc s ls ar =
      let low = ar.low in let high = ar.high in let inside = ar.inside in let sm = ar.small in
      let end = area.at + area.len in
      let c4 : Code = plain (basic (num I32GtU)) (branch None (plain unreachable done) done done) in
      let c3 : Code = loaded_value I32 4 c4 in
      let c2 : Code = plain (basic (global_get adr)) c3 in
      let c1 : Code = loaded_value I32 0 c2 in
      let z : area.at ≡ area.at + 0 = omega arith in
      let a1 = get_global s ls [] adr (V.I32 area.at) c1 ar.address in
      let a2 = load_value g area p fn [] s ls [] [] area.at 0 (V.I32 loc) I32 c2 refl (omega arith) (subst (λ a. HoldsBytes s.memory a (word loc)) z ar.location) (omega arith) in
      let a3 = get_global s ls (V.I32 loc ∷ []) adr (V.I32 area.at) c3 ar.address in
      let a4 = load_value g area p fn [] s ls (V.I32 loc ∷ []) [] area.at 4 (V.I32 end) I32 c4 refl (omega arith) ar.limit (omega arith) in
      let q : nat_lt end loc ≡ false = lt_false end loc high in
      let a5 : C (running s fn [] ls (V.I32 end ∷ V.I32 loc ∷ []) c4 []) 2 (running s fn [] ls [] done (block_label 0 0 done done ∷ [])) =
      subst (λ b. C (running s fn [] ls (V.I32 end ∷ V.I32 loc ∷ []) c4 []) 2
      (choose (of_bool b) (running s fn [] ls [] (plain unreachable done) (block_label 0 0 done done ∷ [])) (running s fn [] ls [] done (block_label 0 0 done done ∷ [])))) q
      (walks (keeps g area) p 2 _ _ refl) in
      let a6 : C (running s fn [] ls [] done (block_label 0 0 done done ∷ [])) 1 (running s fn [] ls [] done []) = walks (keeps g area) p 1 _ _ refl in
      on (keeps g area) p 1 6 _ _ _ a1 (on (keeps g area) p 1 5 _ _ _ a2 (on (keeps g area) p 1 4 _ _ _ a3 (on (keeps g area) p 1 3 _ _ _ a4 (on (keeps g area) p 2 1 _ _ _ a5 a6))))

  pub starts : (st adr n loc sort : ℕ) (s : Store) → g ≤ st → g ≤ adr → AreaAt adr area (started st adr n area.at s) loc
      → Runs g area p s fn (V.I32 area.at ∷ []) (runtime_func sort (start_code n st adr)) 11 (take (result_count p fn) []) (started st adr n area.at s)
  starts st adr n loc sort s le le2 ar =
      let ls : List Value = V.I32 area.at ∷ [] in
      let s1 : Store = record { globals = slice_set s.globals st (V.I32 n); memory = s.memory; table = s.table } in
      let s2 = started st adr n area.at s in
      let c2 : Code = plain (local_get 0) (plain (basic (global_set adr)) (test_code adr)) in
      let b1 : C (running s fn [] ls [] (start_code n st adr) []) 1 (running s fn [] ls (V.I32 n ∷ []) (plain (basic (global_set st)) c2) []) = walks (keeps g area) p 1 _ _ refl in
      let b2 : C (running s fn [] ls (V.I32 n ∷ []) (plain (basic (global_set st)) c2) []) 1 (running s1 fn [] ls [] c2 []) = set_global s ls [] st (V.I32 n) c2 le in
      let b3 : C (running s1 fn [] ls [] c2 []) 1 (running s1 fn [] ls (V.I32 area.at ∷ []) (plain (basic (global_set adr)) (test_code adr)) []) = walks (keeps g area) p 1 _ _ refl in
      let b4 : C (running s1 fn [] ls (V.I32 area.at ∷ []) (plain (basic (global_set adr)) (test_code adr)) []) 1 (running s2 fn [] ls [] (test_code adr) []) = set_global s1 ls [] adr
      (V.I32 area.at) (test_code adr) le2 in
      let b5 = tests adr loc s2 ls ar in
      record {
        cost = 11;
        within = omega arith;
        end = running s2 fn [] ls [] done [];
        goes = (on (keeps g area) p 1 10 _ _ _ b1 (on (keeps g area) p 1 9 _ _ _ b2 (on (keeps g area) p 1 8 _ _ _ b3 (on (keeps g area) p 1 7 _ _ _ b4 b5)))).by;
        may = refl;
        returns_there = refl;
      }

  pub stops : (st adr loc sort : ℕ) (s : Store) → g ≤ st → AreaAt adr area (stopped st s) loc
      → Runs g area p s fn [] (runtime_func sort (stop_code st adr)) 9 (take (result_count p fn) []) (stopped st s)
  stops st adr loc sort s le ar =
      let c2 : Code = test_code adr in
      let b1 : C (running s fn [] [] [] (stop_code st adr) []) 1 (running s fn [] [] (V.I32 0 ∷ []) (plain (basic (global_set st)) c2) []) = walks (keeps g area) p 1 _ _ refl in
      let b2 : C (running s fn [] [] (V.I32 0 ∷ []) (plain (basic (global_set st)) c2) []) 1 (running (stopped st s) fn [] [] [] c2 []) = set_global s [] [] st (V.I32 0) c2 le in
      let b5 = tests adr loc (stopped st s) [] ar in
      record {
        cost = 9;
        within = omega arith;
        end = running (stopped st s) fn [] [] [] done [];
        goes = (on (keeps g area) p 1 8 _ _ _ b1 (on (keeps g area) p 1 7 _ _ _ b2 b5)).by;
        may = refl;
        returns_there = refl;
      }

  pub tells : (st n sort : ℕ) (s : Store) → value_at s.globals st ≡ V.I32 n → result_count p fn ≡ 1 → Runs g area p s fn [] (runtime_func sort (state_code st)) 1 (V.I32 n ∷ []) s
  tells st n sort s e one_result =
      record {
        cost = 1;
        within = omega arith;
        end = running s fn [] [] (V.I32 n ∷ []) done [];
        goes = (get_global s [] [] st (V.I32 n) done e).by;
        may = refl;
        returns_there = ap (λ k. returns 0 (take k (V.I32 n ∷ [])) s) one_result;
      }

-- under the protocol: up to its return
module _ (g : ℕ) (area : Area) (p : Module) (x : Exports) (plan : Plan) where
  pub to_return : (ph : Phase) (th : Then) (l : Left) (s t : Store) (f bound : ℕ) (args values : List Value) (func : Func) → defined_at p f ≡ Some func
      → (r : Runs g area p s f args func bound values t)
      → Through g area p x plan (calling ph s f args th l) (suc (length args) + r.cost) (aside ph r.end th l)
  to_return ph th l s t f bound args values func def r =
      let first = th_one g area p x plan (length args) (calling ph s f args th l) (aside ph (entered s [] args f func) th l) refl (ap (aside_called ph s f args th l) def) in
      th_on g area p x plan (suc (length args)) r.cost _ _ _ first (in_aside g area p x plan ph th l (entered s [] args f func) r.end r.cost r.goes)

  pub past_return : (ph : Phase) (th : Then) (l : Left) (s t : Store) (f bound : ℕ) (args values : List Value) (func : Func) (b : Held) → defined_at p f ≡ Some func
      → (r : Runs g area p s f args func bound values t)
      → aside_step p x plan ph th l (returns 0 values t) ≡ goes 0 [] b → Through g area p x plan (calling ph s f args th l) (suc (length args) + r.cost + 1) b
  past_return ph th l s t f bound args values func b def r next =
      th_on g area p x plan (suc (length args) + r.cost) 1 _ _ _ (to_return ph th l s t f bound args values func def r)
      (th_one g area p x plan 0 (aside ph r.end th l) b r.may (ap (aside_step p x plan ph th l) r.returns_there ∙ next))
