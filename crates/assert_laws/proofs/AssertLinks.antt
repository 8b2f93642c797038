-- From the flat module to the one with asserts.
use Rattle.std.proofs.Common.{◌≡◌, ◌∙◌, ℕ, suc, ◌+◌, ◌≤◌, ◌<◌, List, [], length, Option, Some, None, Bool, refl, sym, ap, subst, arith}
use Rattle.std.specs.Option.{option_to_list}
use Rattle.wa_types.specs.declared.values.Trap.{Trap}
use Rattle.wa_types.specs.declared.values.Value.{Value}
use Rattle.wa_types.specs.declared.values.Value.TheVariants as V
use Rattle.wa_types.specs.Modules.{defined_at, func_type_at}
use Rattle.wa_types.specs.Runtime.{global_space}
use Rattle.wa_types.specs.Syntax.{Basic, nop, drop, select, const, num, global_get, global_set, load, store, memory_size, memory_grow, memory_copy, memory_fill, Plain, basic, local_get, local_set, local_tee, br, br_if, br_table, return, unreachable, call, call_indirect, Code, done, plain, nest, branch, Func, Module}
use Rattle.wa_model.specs.declared.answers.Said.TheVariants as S
use Rattle.wa_model.specs.Blocking.{fault_of, poked, resumed}
use Rattle.wa_model.specs.Configuration.{Activation, Configuration}
use Rattle.wa_model.specs.Outside.{Answer}
use Rattle.wa_model.specs.Plan.{AnswerFits, AreLawful}
use Rattle.wa_model.specs.Step.{Next, asks, entered, param_count, returns, step, steps, stuck, traps}
use Rattle.wa_model.specs.Store.{Store, value_at}
use Rattle.wa_model.proofs.StayingOff.{nothing_off}
use Rattle.guard_runs.specs.Alike.{MayName, Setting, sides_of}
use Rattle.guard_runs.specs.Beside as G
use Rattle.headline.specs.FlatLaw as F
use Rattle.headline.specs.FlatLaw.{FlatAsks, FlatEnters, FlatLaw, FlatNext, FlatOn, FlatReturns, FlatSteps, FlatTraps, Still}
use Rattle.guard_form.specs.Functions.{Role}
use Rattle.guard_runs.specs.Joined.{CallFrame}
use Rattle.headline.specs.World.{World, base, setting}
use Rattle.guard_form.specs.Passing.{OfTest, Quietly, stays, moves}
use Rattle.assert_laws.specs.Beside.{Asked, Beside, beside, both_ask, both_return, both_step, both_trap, both_defined, both_import, Comes, Leaves, Matched, plain_stuck, Sides, Together, Tested, at_branch, at_done, at_last, at_nest, at_plain, Twin}
use Rattle.assert_laws.specs.Beside as A
use Rattle.assert_laws.proofs.Running as R
use Rattle.assert_laws.proofs.StepTable.{unders_long}
use Rattle.assert_laws.specs.Links.{assert_sides, AssertsAreBeside, LinkedBeside, StillToo, StretchesAreFollowed, WaitsBeside, with_asserts}

-- a test of no reduction
none_moves : (p : Module) (st : ℕ) (c d : Configuration) (n : ℕ) → Quietly p st c n d → n ≡ 0 → c ≡ d
none_moves p st c _ _ stays e = refl
none_moves p st c d _ (moves is of none keep same rest) e = cc

still_on : (v : Setting) (c d e : Configuration) (n k : ℕ) → Still v c n d → Still v d k e → Still v c (n + k) e
still_on v c d e _ k F.stays y = let z : k ≡ 0 + k = omega arith in subst (λ i. Still v c i e) z y
still_on v c d e _ k (F.moves {d = d1} {n = n} proper is keep level rest em) y = F.moves proper is keep level (still_on v d1 d e n k rest y) (omega arith)

-- ---- what comes next on both sides

module _ (w : Sides) where
  inv_steps : (n : ℕ) (o o' : Next) (k : ℕ) (d : Configuration) → Matched w n o o' → o ≡ steps k d
      → (d1 : Configuration) × (o' ≡ steps k d1) × ((x : Comes w d d1) × (length d.under ≡ n → x.n ≡ 0))
  inv_steps n _ _ k d (both_step {k = k2} {d = d2} {d1 = d1} x none) q =
      let a : k2 ≡ k = cc in let b : d2 ≡ d = cc in
      (d1, ap (λ i. steps i d1) a, subst (λ z. (y : Comes w z d1) × (length z.under ≡ n → y.n ≡ 0)) b (x, none))
  inv_steps n _ _ k d (both_ask a) q = cc
  inv_steps n _ _ k d both_return q = cc
  inv_steps n _ _ k d both_trap q = cc
  inv_steps n _ _ k d plain_stuck q = cc

  inv_asks : (n : ℕ) (o o' : Next) (k i : ℕ) (args : List Value) (d : Configuration) → Matched w n o o' → o ≡ asks k i args d → (d1 : Configuration) × (o' ≡ asks k i args d1) × Asked w i d d1
  inv_asks n _ _ k i args d (both_step x none) q = cc
  inv_asks n _ _ k i args d (both_ask {k = k2} {g = g} {args = as2} {d = d2} {d' = d1} a) q =
      let x1 : k2 ≡ k = cc in let x2 : g ≡ i = cc in let x3 : as2 ≡ args = cc in let x4 : d2 ≡ d = cc in
      (d1, ap (λ z. asks z g as2 d1) x1 ∙ ap (λ z. asks k z as2 d1) x2 ∙ ap (λ z. asks k i z d1) x3, subst (λ z. Asked w i z d1) x4 (subst (λ z. Asked w z d2 d1) x2 a))
  inv_asks n _ _ k i args d both_return q = cc
  inv_asks n _ _ k i args d both_trap q = cc
  inv_asks n _ _ k i args d plain_stuck q = cc

  inv_returns : (n : ℕ) (o o' : Next) (k : ℕ) (vs : List Value) (s : Store) → Matched w n o o' → o ≡ returns k vs s → o' ≡ returns k vs s
  inv_returns n _ _ k vs s (both_step x none) q = cc
  inv_returns n _ _ k vs s (both_ask a) q = cc
  inv_returns n _ _ k vs s both_return q = q
  inv_returns n _ _ k vs s both_trap q = cc
  inv_returns n _ _ k vs s plain_stuck q = cc

  inv_traps : (n : ℕ) (o o' : Next) (k : ℕ) (t : Trap) (s : Store) → Matched w n o o' → o ≡ traps k t s → o' ≡ traps k t s
  inv_traps n _ _ k t s (both_step x none) q = cc
  inv_traps n _ _ k t s (both_ask a) q = cc
  inv_traps n _ _ k t s both_return q = cc
  inv_traps n _ _ k t s both_trap q = q
  inv_traps n _ _ k t s plain_stuck q = cc

  beside_store : (c c' : Configuration) → Beside w c c' → c'.store ≡ c.store
  beside_store _ _ (beside s e fn ls ops t la un) = refl

  beside_level : (c c' : Configuration) → Beside w c c' → length c'.under ≡ length c.under
  beside_level _ _ (beside {under = us} {under' = us'} s e fn ls ops t la un) = unders_long w fn us us' un

-- what names a common global leaves the state
leaves_state : (g : ℕ) (b : Basic) → MayName g b → Leaves g b
leaves_state g nop h = tt
leaves_state g drop h = tt
leaves_state g select h = tt
leaves_state g (const v) h = tt
leaves_state g (num op) h = tt
leaves_state g (global_get x) h = tt
leaves_state g (global_set x) h = λ e. absurd (omega arith)
leaves_state g (load op align offset) h = tt
leaves_state g (store op align offset) h = tt
leaves_state g memory_size h = tt
leaves_state g memory_grow h = tt
leaves_state g memory_copy h = tt
leaves_state g memory_fill h = tt

module _ (w : World) (q written : Module) (role : ℕ → Role) (lay : Activation → CallFrame) (ok : Together (assert_sides w q)) where
  abbrev w2 : World
  w2 = with_asserts w q written role lay

  abbrev sd : Sides
  sd = assert_sides w q

  -- ---- proper on both sides

  module _ (top : ℕ) where
    abbrev v1 : Setting
    v1 = setting w top

    abbrev v2 : Setting
    v2 = setting w2 top

    plain_proper : (s : Store) (ls ops : List Value) (i : Plain) → G.ProperPlain (sides_of v1) s ls ops i → G.ProperPlain (sides_of v2) s ls ops i
    plain_proper s ls ops (basic b) h = h
    plain_proper s ls ops (local_get x) h = h
    plain_proper s ls ops (local_set x) h = h
    plain_proper s ls ops (local_tee x) h = h
    plain_proper s ls ops (br l) h = tt
    plain_proper s ls ops (br_if l) h = tt
    plain_proper s ls ops (br_table targets l) h = tt
    plain_proper s ls ops return h = tt
    plain_proper s ls ops unreachable h = tt
    plain_proper s ls ops (call x) h = (h.0, subst (λ t. param_count t ≤ length ops) (sym (ok.func_type x)) h.1)
    plain_proper s ls ops (call_indirect t) h = (h.0, subst (λ z. suc (param_count z) ≤ length ops) (sym (ok.sort t)) h.1)

    code_proper : (s : Store) (ls ops : List Value) (code code' : Code) → Tested sd.tests sd.state code code' → G.ProperCode (sides_of v1) s ls ops code → G.ProperCode (sides_of v2) s ls ops code'
    code_proper s ls ops _ _ at_done h = tt
    code_proper s ls ops _ _ (at_plain i t) h = plain_proper s ls ops i h
    code_proper s ls ops _ _ (at_last i rest rest' z cs) h = plain_proper s ls ops i h
    code_proper s ls ops _ _ (at_nest y r tb t) h = tt
    code_proper s ls ops _ _ (at_branch r ta tb t) h = tt

    proper_too : (c c' : Configuration) → Beside sd c c' → G.Proper (sides_of v1) c → G.Proper (sides_of v2) c'
    proper_too _ _ (beside {code = code} {code' = code'} s e fn ls ops t la un) h = code_proper s ls ops code code' t h

    own_plain : (s : Store) (ls ops : List Value) (i : Plain) → G.ProperPlain (sides_of v1) s ls ops i → A.ProperPlain sd ops i
    own_plain s ls ops (basic b) h = leaves_state (global_space w.original) b h.0
    own_plain s ls ops (local_get x) h = tt
    own_plain s ls ops (local_set x) h = tt
    own_plain s ls ops (local_tee x) h = tt
    own_plain s ls ops (br l) h = tt
    own_plain s ls ops (br_if l) h = tt
    own_plain s ls ops (br_table targets l) h = tt
    own_plain s ls ops return h = tt
    own_plain s ls ops unreachable h = tt
    own_plain s ls ops (call x) h = h.1
    own_plain s ls ops (call_indirect t) h = h.1

    own_code : (s : Store) (ls ops : List Value) (code : Code) → G.ProperCode (sides_of v1) s ls ops code → A.ProperCode sd ops code
    own_code s ls ops done h = tt
    own_code s ls ops (plain i rest) h = own_plain s ls ops i h
    own_code s ls ops (nest y r body rest) h = tt
    own_code s ls ops (branch r a b rest) h = tt

    own_proper : (c : Configuration) → G.Proper (sides_of v1) c → A.Proper sd c
    own_proper c h = own_code c.store c.here.locals c.here.operands c.here.code h

    -- the test is proper
    test_proper : (s : Store) (ls ops : List Value) (code : Code) → OfTest (global_space w.original) code → G.ProperCode (sides_of v2) s ls ops code
    test_proper s ls ops done h = tt
    test_proper s ls ops (nest y r body rest) h = absurd h
    test_proper s ls ops (branch r a b rest) h = tt
    test_proper s ls ops (plain (basic (global_get x)) rest) h = (omega arith, nothing_off v2.area (length s.memory))
    test_proper s ls ops (plain (basic (const v)) rest) h = (tt, nothing_off v2.area (length s.memory))
    test_proper s ls ops (plain (basic (num op)) rest) h = (tt, nothing_off v2.area (length s.memory))
    test_proper s ls ops (plain (basic nop) rest) h = absurd h
    test_proper s ls ops (plain (basic drop) rest) h = absurd h
    test_proper s ls ops (plain (basic select) rest) h = absurd h
    test_proper s ls ops (plain (basic (global_set x)) rest) h = absurd h
    test_proper s ls ops (plain (basic (load op align offset)) rest) h = absurd h
    test_proper s ls ops (plain (basic (store op align offset)) rest) h = absurd h
    test_proper s ls ops (plain (basic memory_size) rest) h = absurd h
    test_proper s ls ops (plain (basic memory_grow) rest) h = absurd h
    test_proper s ls ops (plain (basic memory_copy) rest) h = absurd h
    test_proper s ls ops (plain (basic memory_fill) rest) h = absurd h
    test_proper s ls ops (plain (local_get x) rest) h = absurd h
    test_proper s ls ops (plain (local_set x) rest) h = absurd h
    test_proper s ls ops (plain (local_tee x) rest) h = absurd h
    test_proper s ls ops (plain (br l) rest) h = absurd h
    test_proper s ls ops (plain (br_if l) rest) h = absurd h
    test_proper s ls ops (plain (br_table targets l) rest) h = absurd h
    test_proper s ls ops (plain return rest) h = absurd h
    test_proper s ls ops (plain unreachable rest) h = absurd h
    test_proper s ls ops (plain (call x) rest) h = absurd h
    test_proper s ls ops (plain (call_indirect t) rest) h = absurd h

    quiet_still : (c d : Configuration) (n : ℕ) → Quietly q (global_space w.original) c n d → Still v2 c n d
    quiet_still c _ _ stays = F.stays
    quiet_still c d _ (moves {d = c2} {n = n} is of none keep same rest) =
        F.moves (test_proper c.store c.here.locals c.here.operands c.here.code of) is keep (ap length same) (quiet_still c2 d n rest) (omega arith)

    -- ---- stretches

    matched : (f f' : Configuration) → Beside sd f f' → G.Proper (sides_of v1) f → Matched sd (length f.under) (step w.flat f) (step q f')
    matched f f' bs proper = R.each_step sd f f' ok bs (own_proper f proper)

    pub still_too : (f e : Configuration) (n : ℕ) → Still v1 f n e → (f' : Configuration) → Beside sd f f' → StillToo w q written role lay top f' n e
    still_too f _ _ F.stays f' bs = record { to = f'; goes = F.stays; both = bs }
    still_too f e m (F.moves {d = d} {k = k} {n = n} proper is keep level rest em) f' bs =
        let i = inv_steps sd (length f.under) (step w.flat f) (step q f') k d (matched f f' bs proper) is in
        let x = (i.2).0 in
        let same : i.0 ≡ x.to = none_moves q (global_space w.original) i.0 x.to x.n x.goes ((i.2).1 level) in
        let near : Beside sd d i.0 = subst (λ z. Beside sd d z) (sym same) x.both in
        let r = still_too d e n rest i.0 near in
        record {
          to = r.to;
          goes = F.moves (proper_too f f' bs proper) i.1 (beside_store sd d i.0 near ∙ keep ∙ sym (beside_store sd f f' bs)) (beside_level sd d i.0 near ∙ level ∙ sym (beside_level sd f f' bs)) r.goes em;
          both = r.both;
        }

  -- ---- the law

  module _ (Live : Configuration → Configuration → Type 0) (L : (top spare : ℕ) → Configuration → Configuration → Type 0) (W : (top import : ℕ) → Configuration → Configuration → Type 0) (G0 : Store
      → Type 0) (law : FlatLaw w Live L W G0) (none : w.tests ≡ 0) (zero : (s : Store) → G0 s → value_at s.globals (global_space w.original) ≡ V.I32 0) where
    abbrev L2 : (top spare : ℕ) → Configuration → Configuration → Type 0
    L2 = LinkedBeside w q L W

    abbrev W2 : (top import : ℕ) → Configuration → Configuration → Type 0
    W2 = WaitsBeside w q L W

    next_too : (top spare : ℕ) (o : Next) (f f' : Configuration) → Beside sd f f' → FlatNext w Live L W G0 top spare o f → FlatNext w2 Live L2 W2 G0 top spare o f'
    next_too top spare (steps k d) f f' bs fs =
        let a = still_too top f fs.mid fs.n1 fs.before f' bs in
        let i = inv_steps sd (length (fs.mid).under) (step w.flat fs.mid) (step q a.to) fs.j fs.after (matched top fs.mid a.to a.both fs.proper) fs.acts in
        let x = (i.2).0 in
        let tests = quiet_still top i.0 x.to x.n x.goes in
        let c = still_too top fs.after fs.to fs.n2 fs.behind x.to x.both in
        let few = x.few in let most = fs.most in
        record {
          n1 = fs.n1;
          mid = a.to;
          before = a.goes;
          proper = proper_too top fs.mid a.to a.both fs.proper;
          j = fs.j;
          after = i.0;
          acts = i.1;
          store = kept top i.0 x.to x.n x.goes ∙ beside_store sd fs.after x.to x.both ∙ fs.store;
          n2 = x.n + fs.n2;
          to = c.to;
          behind = still_on (setting w2 top) i.0 x.to c.to x.n fs.n2 tests c.goes;
          least = fs.least;
          left = fs.left;
          most = omega arith;
          link = record { between = fs.to; link = fs.link; beside = c.both };
        }
      where
        kept : (top : ℕ) (c e : Configuration) (n : ℕ) → Quietly q (global_space w.original) c n e → c.store ≡ e.store
        kept top c _ _ stays = refl
        kept top c e _ (moves {d = c2} {n = n} is of none keep same rest) = sym keep ∙ kept top c2 e n rest
    next_too top spare (asks k i args d) f f' bs fs =
        let a = still_too top f fs.at fs.n fs.before f' bs in
        let m = inv_asks sd (length (fs.at).under) (step w.flat fs.at) (step q a.to) fs.j i args fs.to (matched top fs.at a.to a.both fs.proper) fs.asks_there in
        record {
          n = fs.n;
          at = a.to;
          before = a.goes;
          j = fs.j;
          least = fs.least;
          most = fs.most;
          proper = proper_too top fs.at a.to a.both fs.proper;
          to = m.0;
          asks_there = m.1;
          waits = record { between = fs.to; waits = fs.waits; asked = m.2 };
        }
    next_too top spare (returns k vs s) f f' bs fs =
        let a = still_too top f fs.at fs.n fs.before f' bs in
        record {
          n = fs.n;
          at = a.to;
          before = a.goes;
          j = fs.j;
          least = fs.least;
          most = fs.most;
          proper = proper_too top fs.at a.to a.both fs.proper;
          returns_there = inv_returns sd (length (fs.at).under) (step w.flat fs.at) (step q a.to) fs.j vs s (matched top fs.at a.to a.both fs.proper) fs.returns_there;
          good = fs.good;
        }
    next_too top spare (traps k t s) f f' bs fs =
        let a = still_too top f fs.at fs.n fs.before f' bs in
        record {
          n = fs.n;
          at = a.to;
          before = a.goes;
          j = fs.j;
          least = fs.least;
          most = fs.most;
          proper = proper_too top fs.at a.to a.both fs.proper;
          traps_there = inv_traps sd (length (fs.at).under) (step w.flat fs.at) (step q a.to) fs.j t s (matched top fs.at a.to a.both fs.proper) fs.traps_there;
        }
    next_too top spare stuck f f' bs fs = fs

    -- on to where both are linked
    on_too : (top most : ℕ) (c f f1 : Configuration) → Comes sd f f1 → FlatOn w Live L W G0 top most c f → FlatOn w2 Live L2 W2 G0 top (5 + most) c f1
    on_too top most c f f1 x fo =
        let a = still_too top f fo.to fo.n fo.goes x.to x.both in
        let few = x.few in let few2 = fo.few in
        record {
          n = x.n + fo.n;
          left = fo.left;
          few = omega arith;
          to = a.to;
          goes = still_on (setting w2 top) f1 x.to a.to x.n fo.n (quiet_still top f1 x.to x.n x.goes) a.goes;
          link = record { between = fo.to; link = fo.link; beside = a.both };
        }

    answered : (top i : ℕ) (d f : Configuration) (start : Bool) (a : Answer) (v : Option Value) → W2 top i d f → AnswerFits a → a.said ≡ S.Value v
        → fault_of (func_type_at (base w) i).results (length d.store.memory) w.plan start i a ≡ None
        → FlatOn w2 Live L2 W2 G0 top 9 (resumed d (poked d.store a.pokes) (option_to_list v)) (resumed f (poked d.store a.pokes) (option_to_list v))
    answered top i d f start a v h fits told none2 =
        let s2 = poked d.store a.pokes in
        let good = law.poked_good i d.store start a (law.waits_good top i d h.between h.waits) fits none2 in
        let fo = subst (λ n. FlatOn w Live L W G0 top (4 + n) (resumed d s2 (option_to_list v)) (resumed h.between s2 (option_to_list v))) none
        (law.answered top i d h.between start a v h.waits fits told none2) in
        on_too top 4 (resumed d s2 (option_to_list v)) (resumed h.between s2 (option_to_list v)) (resumed f s2 (option_to_list v))
        (R.answers_go_on sd s2 i h.between f (option_to_list v) h.asked (zero s2 good)) fo

    enters : ((x : ℕ) (g : Func) → x < w.funcs → defined_at q x ≡ Some g → (g' : Func) × (defined_at written x ≡ Some g'))
        → (x : ℕ) (args : List Value) (f : Func) (s : Store) → AreLawful (func_type_at (base w) x).params args → G0 s → defined_at (base w) x ≡ Some f → FlatEnters w2 Live L2 W2 G0 x args f s
    enters there x args f s lawful good is = by (ok.twin x)
      where
        e : FlatEnters w Live L W G0 x args f s
        e = law.enters x args f s lawful good is

        by : Twin sd x → FlatEnters w2 Live L2 W2 G0 x args f s
        by (both_import e1 e2) = let z : None ≡ Some e.func = sym e1 ∙ e.defined in cc
        by (both_defined g g' e1 e2 loc tb) =
            let wr = there x g' e.known e2 in
            let bs = R.calls_begin sd s args x e.func g' ok (zero s good) e.defined e2 in
            let on = e.on in
            let few = on.few in
            let a = still_too x (entered s [] args x e.func) on.to on.n on.goes (entered s [] args x g') bs in
            record {
              func = g';
              defined = e2;
              func' = wr.0;
              defined' = wr.1;
              known = e.known;
              count = e.count ∙ ap param_count (sym (ok.func_type x));
              on = record { n = on.n; left = on.left; few = on.few; to = a.to; goes = a.goes; link = record { between = on.to; link = on.link; beside = a.both } };
            }

pub asserts_law : AssertsAreBeside
asserts_law w q written role lay Live L W G0 law none ok zero there st = record {
  store = λ top spare c f h. beside_store (assert_sides w q) h.between f h.beside ∙ law.store top spare c h.between h.link;
  good = λ top spare c f h. law.good top spare c h.between h.link;
  waits_store = λ top i d f h. let a = h.asked in a.store ∙ law.waits_store top i d h.between h.waits;
  waits_good = λ top i d f h. law.waits_good top i d h.between h.waits;
  waits_known = λ top i d f h. law.waits_known top i d h.between h.waits;
  small = law.small;
  reduces = λ top spare c f h off. next_too w q written role lay ok Live L W G0 law none zero top spare (step (base w) c) h.between f h.beside (law.reduces top spare c h.between h.link off);
  answered = λ top i d f start a v h fits told none2. answered w q written role lay ok Live L W G0 law none zero top i d f start a v h fits told none2;
  enters = λ x args f s lawful good is. enters w q written role lay ok Live L W G0 law none zero there x args f s lawful good is;
  poked_good = law.poked_good;
  numbers = st.numbers;
  stands = st.stands;
  again = st.again;
}

pub stretches_law : StretchesAreFollowed
stretches_law w q written role lay top f f' e n ok goes bs = still_too w q written role lay ok top f e n goes f' bs
