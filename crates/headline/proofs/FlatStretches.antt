-- The relation of both machines, and how the written side runs along flat stretches.
use Rattle.headline.specs.StoreLaws.{StoreLaws}
use Rattle.headline.specs.World.{World, WorldFits, setting}
use Rattle.guard_runs.proofs.EachMove.{exact_step}
use Rattle.guard_runs.proofs.Stores.{together}
use Rattle.guard_runs.specs.Alike.{Alike, Setting, sides_of}
use Rattle.guard_runs.specs.Beside.{Aligned, Asked, Matched, Near, Proper, Sides, aligned, both_ask, both_return, both_step, both_trap, flat_stuck}
use Rattle.headline.proofs.ToldMoves.{Silent, silent_none, silent_on, silent_one}
use Rattle.headline.specs.FlatLaw.{FlatLaw, Still, moves, stays}
use Rattle.run_laws.proofs.Keeping.{NextKeeps, same_on, same_refl, step_keeps}
use Rattle.std.proofs.Common.{Bool, List, [], ap, arith, false, refl, subst, suc, sym, true, ℕ, ◌*◌, ◌+◌, ◌∙◌, ◌≡◌, ◌≤◌}
use Rattle.run_theory.specs.Alone.{alone, alone_next}
use Rattle.wa_model.specs.Blocking.{Left, Note, Task, the_start}
use Rattle.wa_model.specs.Configuration.{Configuration}
use Rattle.wa_model.specs.Expected.{SameEnd}
use Rattle.run_theory.specs.Keeping.{keeps, keeps_basic, keeps_code, silent, silent_basic, silent_code}
use Rattle.wa_model.specs.Machine.{Leads, Turn, goes}
use Rattle.wa_model.specs.Protocol.{Exports, Held, busy, busy_step, exports_of, is_running, protocol}
use Rattle.wa_model.specs.Step.{Next, asks, returns, step, steps, stuck, traps}
use Rattle.wa_model.specs.Store.{Store}
use Rattle.wa_model.specs.declared.answers.Area.{Area}
use Rattle.wa_types.specs.Runtime.{global_space}
use Rattle.wa_types.specs.Syntax.{Basic, Code, Module, Plain, basic, branch, call, call_indirect, done, nest, plain}
use Rattle.wa_types.specs.declared.values.Trap.{Trap}
use Rattle.wa_types.specs.declared.values.Value.{Value}
use Rattle.headline.specs.FlatLaw as F

pub same_back : (g : ℕ) (area : Area) (s t : Store) → SameEnd g area s t → SameEnd g area t s
same_back g area s t h = record { globals_same = λ x lt. sym (h.globals_same x lt); size = sym h.size; below = λ x lt. sym (h.below x lt); above = λ x le. sym (h.above x le) }

pub other_top : (w : World) (a b : ℕ) (s s' : Store) → Alike (setting w a) s s' → Alike (setting w b) s s'
other_top w a b s s' h = record {
  own = h.own;
  more = h.more;
  quiet = h.quiet;
  address = h.address;
  low = h.low;
  held = h.held;
  held' = h.held';
  high = h.high;
  own_size = h.own_size;
  globals = h.globals;
  globals' = h.globals';
  low_size = h.low_size;
  held_size = h.held_size;
  held_size' = h.held_size';
  memory = h.memory;
  memory' = h.memory';
  table = h.table;
  table' = h.table';
}

-- ---- inversions

module _ (v : Setting) where
  pub then_steps : (o o' : Next) (k : ℕ) (e : Configuration) → Matched (sides_of v) o o' → o ≡ steps k e → (d : Configuration) × (o' ≡ steps k d) × Near (sides_of v) 9 e d
  then_steps _ _ k e (both_step {k = j} {d = d} {d' = d'} near) q = let a : j ≡ k = cc in let b : d ≡ e = cc in (d', ap (λ i. steps i d') a, subst (λ z. Near (sides_of v) 9 z d') b near)
  then_steps _ _ k e (both_ask a) q = cc
  then_steps _ _ k e (both_return a) q = cc
  then_steps _ _ k e (both_trap a) q = cc
  then_steps _ _ k e flat_stuck q = cc

  pub then_asks : (o o' : Next) (k i : ℕ) (args : List Value) (e : Configuration) → Matched (sides_of v) o o' → o ≡ asks k i args e
      → (d : Configuration) × (o' ≡ asks k i args d) × Asked (sides_of v) i e d
  then_asks _ _ k i args e (both_step a) q = cc
  then_asks _ _ k i args e (both_ask {k = j} {g = g} {args = bs} {d = d} {d' = d'} a) q =
      let x1 : j ≡ k = cc in let x2 : g ≡ i = cc in let x3 : bs ≡ args = cc in let x4 : d ≡ e = cc in
      (d', ap (λ z. asks z g bs d') x1 ∙ ap (λ z. asks k z bs d') x2 ∙ ap (λ z. asks k i z d') x3, subst (λ z. Asked (sides_of v) i z d') x4 (subst (λ z. Asked (sides_of v) z d d') x2 a))
  then_asks _ _ k i args e (both_return a) q = cc
  then_asks _ _ k i args e (both_trap a) q = cc
  then_asks _ _ k i args e flat_stuck q = cc

  pub then_returns : (o o' : Next) (k : ℕ) (vs : List Value) (s : Store) → Matched (sides_of v) o o' → o ≡ returns k vs s → (t : Store) × (o' ≡ returns k vs t) × Alike v s t
  then_returns _ _ k vs s (both_step a) q = cc
  then_returns _ _ k vs s (both_ask a) q = cc
  then_returns _ _ k vs s (both_return {k = j} {vs = us} {s = r} {s' = r'} a) q =
      let x1 : j ≡ k = cc in let x2 : us ≡ vs = cc in let x3 : r ≡ s = cc in
      (r', ap (λ z. returns z us r') x1 ∙ ap (λ z. returns k z r') x2, subst (λ z. Alike v z r') x3 a)
  then_returns _ _ k vs s (both_trap a) q = cc
  then_returns _ _ k vs s flat_stuck q = cc

  pub then_traps : (o o' : Next) (k : ℕ) (t : Trap) (s : Store) → Matched (sides_of v) o o' → o ≡ traps k t s → (r : Store) × (o' ≡ traps k t r) × Alike v s r
  then_traps _ _ k t s (both_step a) q = cc
  then_traps _ _ k t s (both_ask a) q = cc
  then_traps _ _ k t s (both_return a) q = cc
  then_traps _ _ k t s (both_trap {k = j} {t = u} {s = r} {s' = r'} a) q =
      let x1 : j ≡ k = cc in let x2 : u ≡ t = cc in let x3 : r ≡ s = cc in
      (r', ap (λ z. traps z u r') x1 ∙ ap (λ z. traps k z r') x2, subst (λ z. Alike v z r') x3 a)
  then_traps _ _ k t s flat_stuck q = cc

module _ (g : ℕ) (area : Area) where
  basic_keeps : (b : Basic) (ops : List Value) → silent_basic b ≡ true → keeps_basic g area b ops ≡ true
  basic_keeps (Rattle.wa_types.specs.Syntax.load op align offset) ops h = refl
  basic_keeps (Rattle.wa_types.specs.Syntax.store op align offset) ops h = cc
  basic_keeps (Rattle.wa_types.specs.Syntax.global_set x) ops h = cc
  basic_keeps Rattle.wa_types.specs.Syntax.memory_grow ops h = cc
  basic_keeps Rattle.wa_types.specs.Syntax.memory_copy ops h = cc
  basic_keeps Rattle.wa_types.specs.Syntax.memory_fill ops h = cc
  basic_keeps _ ops h = refl

  code_keeps : (c : Code) (ops : List Value) → silent_code c ≡ true → keeps_code g area ops c ≡ true
  code_keeps (plain (basic b) rest) ops h = basic_keeps b _ h
  code_keeps _ ops h = refl

  quiet_moved : (b : Bool) (o : Next) (k : ℕ) (es : List Note) (d : Configuration) → alone_next b o ≡ goes k es d → (b ≡ true) × (o ≡ steps k d)
  quiet_moved true (steps j c) k es d e = let k' : j ≡ k = cc in let d' : c ≡ d = cc in (refl, ap (λ i. steps i c) k' ∙ ap (λ z. steps k z) d')
  quiet_moved true (asks j i args c) k es d e = cc
  quiet_moved true (returns j vs s) k es d e = cc
  quiet_moved true (traps j t s) k es d e = cc
  quiet_moved true stuck k es d e = cc
  quiet_moved false o k es d e = cc

module _ (w : World) where
  abbrev pub gl : ℕ
  gl = global_space w.original

  abbrev pub xp : Exports
  xp = exports_of w.written

  abbrev pub Sm : Store → Store → Type 0
  Sm = SameEnd gl w.plan.area

  abbrev pub pr : Held → Turn Held Note
  pr = protocol w.written xp w.plan

  abbrev pub sides : ℕ → Sides
  sides top = sides_of (setting w top)

  abbrev pub Sil : (seen : Store) (b : Held) (n : ℕ) (to : Held) → Type 0
  Sil = Silent w.original w.settings w.which w.written xp w.plan

  -- a lag changes no store
  pub lag : (task : Task) (l : Left) (seen : Store) (c d : Configuration) (n : ℕ) (es : List Note) → Leads (alone silent w.written) c n es d → Sm seen c.store
      → Sil seen (busy (is_running task) c l) n (busy (is_running task) d l) × Sm seen d.store
  lag task l seen c d _ _ Leads.stays h = (silent_none w.original w.settings w.which w.written xp w.plan seen (busy (is_running task) c l) h, h)
  lag task l seen c d n _ (Leads.moves {t = t} {k = k} {n = n1} {es = es1} {fs = fs} e rest em eg) h =
      let q = quiet_moved gl w.plan.area (silent c) (step w.written c) k es1 t e in
      let kp : keeps gl w.plan.area c ≡ true = code_keeps gl w.plan.area c.here.code c.here.operands q.0 in
      let nk : NextKeeps gl w.plan.area c.store (step w.written c) = step_keeps gl w.plan.area w.written c.store c.here.func c.under c.here.locals c.here.operands c.here.labels c.here.code kp in
      let same : Sm c.store t.store = subst (NextKeeps gl w.plan.area c.store) q.1 nk in
      let h2 = same_on gl w.plan.area seen c.store t.store h same in
      let first = silent_one w.original w.settings w.which w.written xp w.plan seen (busy (is_running task) c l) (busy (is_running task) t l) k
      (ap (busy_step w.written xp w.plan (is_running task) l) q.1) h h2 in
      let ih = lag task l seen t d n1 fs rest h2 in
      (subst (λ i. Sil seen (busy (is_running task) c l) i (busy (is_running task) d l)) (sym em) (silent_on w.original w.settings w.which w.written xp w.plan seen _ _ _ (suc k) n1 first ih.0), ih.1)

  exact_same : (sl : StoreLaws w) (top : ℕ) (c d : Configuration) → Aligned (sides top) c d → Sm c.store d.store
  exact_same sl top _ _ (aligned {s = s} {s' = s'} like fn here is us deep ls extra ops both site) = sl.same_end top s s' like

  -- both stores are seen alike
  pub near_same : (sl : StoreLaws w) (top : ℕ) (c d : Configuration) → Near (sides top) 9 c d → Sm c.store d.store
  near_same sl top c d nr =
      let empty : Left = record { number = 0; entries = []; outcomes = [] } in
      let m = exact_same sl top c nr.mid nr.is_aligned in
      let q = lag the_start empty d.store d nr.mid nr.lag [] nr.goes (same_refl gl w.plan.area d.store) in
      same_on gl w.plan.area c.store nr.mid.store d.store m (same_back gl w.plan.area d.store nr.mid.store q.1)

  module _ (fit : WorldFits w) (sl : StoreLaws w) (top : ℕ) (task : Task) (l : Left) where
    abbrev bz : Configuration → Held
    bz c = busy (is_running task) c l

    -- up to where the same stands next on both sides
    pub record NoneAbove (seen : Store) (f b : Configuration) : Type 0 where
      pub cost : ℕ
      pub short : cost ≤ 9
      pub mid : Configuration
      pub silent : Sil seen (busy (is_running task) b l) cost (busy (is_running task) mid l)
      pub same : Matched (sides top) (step w.flat f) (step w.written mid)
      pub store : Sm seen mid.store

    pub up_to : (seen : Store) (f b : Configuration) → Near (sides top) 9 f b → Proper (sides top) f → Sm seen f.store → NoneAbove seen f b
    up_to seen f b nr proper h =
        let hb = same_on gl w.plan.area seen f.store b.store h (near_same sl top f b nr) in
        let q = lag task l seen b nr.mid nr.lag [] nr.goes hb in
        record { cost = nr.lag; short = nr.short; mid = nr.mid; silent = q.0; same = exact_step (sides top) (together (setting w top) (fit.paired top)) f nr.mid nr.is_aligned proper; store = q.1 }

    -- along a flat stretch that leaves the store
    pub record Along (seen : Store) (n : ℕ) (e b : Configuration) : Type 0 where
      pub cost : ℕ
      pub to : Configuration
      pub silent : Sil seen (busy (is_running task) b l) cost (busy (is_running task) to l)
      pub least : n ≤ cost
      pub most : cost ≤ 10 * n
      pub near : Near (sides top) 9 e to
      pub flat_store : Sm seen e.store

    pub along : (seen : Store) (f e b : Configuration) (n : ℕ) → Still (setting w top) f n e → Near (sides top) 9 f b → Sm seen f.store → Along seen n e b
    along seen f e b _ F.stays nr h =
        record {
          cost = 0;
          to = b;
          silent = silent_none w.original w.settings w.which w.written xp w.plan seen (busy (is_running task) b l)
              (same_on gl w.plan.area seen f.store b.store h (near_same sl top f b nr));
          least = omega arith;
          most = omega arith;
          near = nr;
          flat_store = h;
        }
    along seen f e b m (F.moves {d = d} {k = k} {n = n} proper is keep level rest em) nr h =
        let u = up_to seen f b nr proper h in
        let t = then_steps (setting w top) (step w.flat f) (step w.written u.mid) k d u.same is in
        let hd : Sm seen d.store = subst (λ z. Sm seen z) (sym keep) h in
        let ht = same_on gl w.plan.area seen d.store (t.0).store hd (near_same sl top d t.0 t.2) in
        let one = silent_one w.original w.settings w.which w.written xp w.plan seen (busy (is_running task) u.mid l) (busy (is_running task) t.0 l) k
        (ap (busy_step w.written xp w.plan (is_running task) l) t.1) u.store ht in
        let ih = along seen d e t.0 n rest t.2 hd in
        let a1 = u.short in let a2 = ih.least in let a3 = ih.most in
        record {
          cost = u.cost + suc k + ih.cost;
          to = ih.to;
          silent = silent_on w.original w.settings w.which w.written xp w.plan seen _ _ _ (u.cost + suc k) ih.cost
              (silent_on w.original w.settings w.which w.written xp w.plan seen _ _ _ u.cost (suc k) u.silent one) ih.silent;
          least = omega arith;
          most = omega arith;
          near = ih.near;
          flat_store = ih.flat_store;
        }
