-- Where a strand ends alone: the written module's last move, and the stores there.
use Rattle.run_theory.proofs.TestedPokes.{passes_area}
use Rattle.headline.specs.FlatLaw.{FlatAsks, FlatLaw, FlatNext, FlatReturns, FlatTraps}
use Rattle.headline.specs.Halts.{room_in, used_in}
use Rattle.headline.specs.StoreLaws.{StoreLaws}
use Rattle.headline.specs.World.{World, WorldFits, base, setting}
use Rattle.headline.proofs.Asks.{Called, answer_fits, by_said, first_fits, no_pause_in_start, tested_now, to_call}
use Rattle.headline.proofs.FlatStretches.{along, other_top, pr, then_returns, then_traps, up_to, xp}
use Rattle.headline.proofs.Reductions.{Allowed, LeftFits, Link, R, TopOf, nn, r_begins, r_between, r_halts, r_runs, seen0, sh}
use Rattle.headline.proofs.ToldMoves.{silent_on}
use Rattle.headline.proofs.TrapStores.{trap_keeps}
use Rattle.guard_runs.specs.Alike.{Alike}
use Rattle.std.proofs.Common.{All, Bool, List, None, Option, Some, [], ap, false, inl, inr, length, refl, subst, suc, sym, true, zero, ℕ, ◌⊎◌, ◌*◌, ◌+◌, ◌++◌, ◌<◌, ◌∙◌, ◌∷◌, ◌≡◌, ◌≤◌}
use Rattle.std.specs.Prelude.{if◌then◌else◌, nat_lt}
use Rattle.std.proofs.lemmas.Bool.{ltb-true}
use Rattle.wa_model.specs.Blocking.{Left, Note, State, Task, an_entry, answers, asked, bad_pause, bad_poke, bad_value, by_step, call_note, done_notes, enter_next, enters, fault_of, go_on, import_traps, inside, is_unlisted, on_to, or_else, poke_fits}
use Rattle.wa_model.specs.Blocking.{start_called, task_back, tested, halts, is_start, next_entry, note, outermost, pause_of, poked, runs, store_of, the_start, value_of_results, with_outcomes}
use Rattle.wa_model.specs.Configuration.{Configuration, stack_of}
use Rattle.wa_model.specs.Machine.{Leads, Turn, goes, stays, stops}
use Rattle.wa_model.specs.Outside.{Answer, Poke, answered, ended, returned}
use Rattle.wa_model.specs.Plan.{AnswerFits, Entry, IsRefusal, Outcome, OutcomeFits, given, refused}
use Rattle.wa_model.specs.Protocol.{Held, busy, busy_step, held_asked, held_back, held_given, held_on, held_start, held_tested, is_running, over, starting, store_held}
use Rattle.wa_model.specs.Step.{Next, asks, returns, step, steps, stuck, traps}
use Rattle.wa_model.specs.Store.{Store}
use Rattle.wa_model.specs.Expected.{pause_note, trap_note}
use Rattle.wa_model.specs.declared.answers.Area.{Area}
use Rattle.wa_model.specs.declared.answers.Said.{Said}
use Rattle.wa_model.specs.declared.answers.Said.TheVariants as S
use Rattle.wa_model.specs.declared.events.End.{End}
use Rattle.wa_model.specs.declared.events.End.TheVariants.{BadAnswer, BadPoke, DeviceFault, Done, NoAnswer, NoDevice, OtherImport, Trapped}
use Rattle.wa_types.specs.Syntax.{Func}
use Rattle.wa_types.specs.declared.values.ValType.{ValType}
use Rattle.wa_types.specs.Modules.{defined_at, func_imports, func_type_at}
use Rattle.wa_types.specs.declared.values.Trap.{Trap}
use Rattle.wa_types.specs.declared.values.Trap.TheVariants.{Import}
use Rattle.wa_types.specs.declared.values.Value.{Value}
use Rattle.strand_laws.proofs.MoveKinds.{FirstPlain}
use Rattle.strand_laws.proofs.Weaving.{GoesOn}
use Rattle.strand_laws.proofs.WovenRuns.{NoEnds, no_ends_last, no_ends_left, no_ends_right}
use Rattle.strand_laws.specs.Strands.{held_starts, on, strung_starts}
use Rattle.strand_laws.specs.Woven.{ends_strand, last_event}

module _ (w : World) (ft : WorldFits w) (sl : StoreLaws w) (L : (top spare : ℕ) → Configuration → Configuration → Type 0) (W : ℕ → ℕ → Configuration → Configuration → Type 0)
    (G : Store → Type 0) (law : FlatLaw w (λ c d. c ≡ d) L W G) where
  -- the last move to this end, from here, where the original ends at this store
  pub record EndsThere (b : Held) (how : End) (start : Bool) (s : Store) : Type 0 where
    pub c1 : ℕ
    pub k1 : ℕ
    pub gs1 : List Note
    pub gs2 : List Note
    pub b1 : Held
    pub to : Held
    pub before : Leads (pr w) b c1 gs1 b1
    pub quiet : NoEnds gs1
    pub last : pr w b1 ≡ goes k1 gs2 to
    pub tells : last_event gs2 ≡ Some (ended how)
    pub starts : held_starts b1 ≡ start
    pub alike : Alike (setting w 0) s (store_held to)
    pub good : G s

  done_by : (tk : Task) (s' : Store) (j c1 : ℕ) (b1 b0 : Held) (vs : List Value) (l : Left) → l.entries ≡ [] → Leads (pr w) b0 c1 [] b1 → pr w b1 ≡ held_back j tk vs s' l → (st : Bool)
      → held_starts b1 ≡ st → (s : Store) → Alike (setting w 0) s s' → G s → EndsThere b0 Done st s
  done_by the_start s' j c1 b1 b0 vs l ee lds mv st is s like good = record {
    c1 = c1;
    k1 = j;
    gs1 = [];
    gs2 = note (ended Done) s' ∷ [];
    b1 = b1;
    to = over s';
    before = lds;
    quiet = tt;
    last = mv ∙ ap (λ z. goes j (done_notes s' z) (held_on s' l z)) ee;
    tells = refl;
    starts = is;
    alike = like;
    good = good;
  }
  done_by (an_entry e) s' j c1 b1 b0 vs l ee lds mv st is s like good = record {
    c1 = c1;
    k1 = j;
    gs1 = [];
    gs2 = note (returned l.number (value_of_results vs)) s' ∷ note (ended Done) s' ∷ [];
    b1 = b1;
    to = over s';
    before = lds;
    quiet = tt;
    last = mv ∙ ap (λ z. goes j (note (returned l.number (value_of_results vs)) s' ∷ done_notes s' z) (held_on s' (next_entry l) z)) ee;
    tells = refl;
    starts = is;
    alike = like;
    good = good;
  }

  module _ (n spare top x : ℕ) (within : 10 * x ≤ spare) (task : Task) (c b : Configuration) (l : Left) (is_top : TopOf w task top) (lk : Link w ft sl L W G law top x c b) (lf : LeftFits w l)
      (al : Allowed w n (runs task c l)) where
    pub trap_there : (k : ℕ) (t : Trap) (s : Store) → step (base w) c ≡ traps k t s → FlatTraps w (λ c d. c ≡ d) L W G top x k t s lk.flat_at
        → EndsThere (busy (is_running task) b l) (Trapped t) (is_start task) s
    trap_there k t s is fs =
        let u1 = along w ft sl top task l c.store lk.flat_at fs.at b fs.n fs.before lk.near (seen0 w ft sl L W G law n spare top x within task c b l is_top lk lf al) in
        let u2 = up_to w ft sl top task l c.store fs.at u1.to u1.near fs.proper u1.flat_store in
        let r = then_traps (setting w top) (step w.flat fs.at) (step w.written u2.mid) fs.j t s u2.same fs.traps_there in
        let q1 =
        silent_on w.original w.settings w.which w.written (xp w) w.plan c.store (busy (is_running task) b l) (busy (is_running task) u1.to l)
        (busy (is_running task) u2.mid l) u1.cost u2.cost u1.silent u2.silent in
        record {
          c1 = u1.cost + u2.cost;
          k1 = fs.j;
          gs1 = [];
          gs2 = note (ended (Trapped t)) r.0 ∷ [];
          b1 = busy (is_running task) u2.mid l;
          to = over r.0;
          before = q1.leads;
          quiet = tt;
          last = ap (busy_step w.written (xp w) w.plan (is_running task) l) r.1;
          tells = refl;
          starts = refl;
          alike = other_top w top 0 s r.0 r.2;
          good = subst G (sym (trap_keeps (base w) c k t s is)) (law.good top x c lk.flat_at lk.link);
        }

    pub done_there : (k : ℕ) (vs : List Value) (s : Store) → FlatReturns w (λ c d. c ≡ d) L W G top x k vs s lk.flat_at → l.entries ≡ []
        → EndsThere (busy (is_running task) b l) Done (is_start task) s
    done_there k vs s fs ee =
        let u1 = along w ft sl top task l c.store lk.flat_at fs.at b fs.n fs.before lk.near (seen0 w ft sl L W G law n spare top x within task c b l is_top lk lf al) in
        let u2 = up_to w ft sl top task l c.store fs.at u1.to u1.near fs.proper u1.flat_store in
        let r = then_returns (setting w top) (step w.flat fs.at) (step w.written u2.mid) fs.j vs s u2.same fs.returns_there in
        let q1 =
        silent_on w.original w.settings w.which w.written (xp w) w.plan c.store (busy (is_running task) b l) (busy (is_running task) u1.to l)
        (busy (is_running task) u2.mid l) u1.cost u2.cost u1.silent u2.silent in
        done_by task r.0 fs.j (u1.cost + u2.cost) (busy (is_running task) u2.mid l) (busy (is_running task) b l) vs l ee q1.leads (ap (busy_step w.written (xp w) w.plan (is_running task) l) r.1)
        (is_start task) refl s
        (other_top w top 0 s r.0 r.2) fs.good

    -- an import traps at once
    trap_asked : (k i : ℕ) (args : List Value) (d : Configuration) → step (base w) c ≡ asks k i args d → FlatAsks w (λ c d. c ≡ d) L W G top x k i args d lk.flat_at
        → (a : Answer) (os : List Outcome)
        → l.outcomes ≡ given a ∷ os → fault_of (func_type_at (base w) i).results (length d.store.memory) w.plan (is_start task) i a ≡ None → pause_of a.ticks ≡ None → a.said ≡ S.Trap
        → EndsThere (busy (is_running task) b l) (Trapped Import) (is_start task) (poked d.store a.pokes)
    trap_asked k i args d is fs a os eo ef et told =
        let cd : Called w ft sl L W G law top spare task l c.store b k i args d = to_call w ft sl L W G law n spare top x within task c b l is_top lk lf al k i args d fs in
        let lo = with_outcomes l os in
        let s1 = (cd.at).store in
        let y1 = call_note i args s1 (stack_of w.written cd.at) None in
        let mv : pr w (busy (is_running task) cd.mid l) ≡ goes cd.j (y1 ∷ import_traps (poked s1 a.pokes)) (over (poked s1 a.pokes)) =
        tested_now w ft sl L W G law n spare top x within task c b l is_top lk lf al k i args d is cd a os None eo ef
        ∙ ap (held_tested w.written (xp w) w.plan cd.j i args (inside task cd.at) lo a None) et
        ∙ ap (λ z. held_given cd.j y1 z (poked s1 a.pokes) lo (inside task cd.at)) told in
        let no_bad = passes_area (func_type_at (base w) i).results (length d.store.memory) w.plan (is_start task) i a ef in
        record {
          c1 = cd.cost;
          k1 = cd.j;
          gs1 = [];
          gs2 = y1 ∷ import_traps (poked s1 a.pokes);
          b1 = busy (is_running task) cd.mid l;
          to = over (poked s1 a.pokes);
          before = (cd.silent).leads;
          quiet = tt;
          last = mv;
          tells = refl;
          starts = refl;
          alike = other_top w top 0 (poked d.store a.pokes) (poked s1 a.pokes) (sl.poked_too top d.store s1 a cd.alike no_bad);
          good = law.poked_good i d.store (is_start task) a (law.waits_good top i d cd.flat_at cd.waits)
              (answer_fits w ft sl L W G law n spare top x within task c b l is_top lk lf al k i args d is cd a os eo) ef;
        }

  -- an import as the start function is answered
  start_told : (x : ℕ) (s s' : Store) (l : Left) (a : Answer) (os : List Outcome) → Alike (setting w 0) s s' → x < w.funcs → defined_at (base w) x ≡ None → nat_lt x (func_imports (base w)) ≡ true
      → x < func_imports (base w) → l.outcomes ≡ given a ∷ os → fault_of (func_type_at (base w) x).results (length s.memory) w.plan true x a ≡ None → pause_of a.ticks ≡ None
      → pr w (starting x s' l) ≡ held_given 0 (call_note x [] s' [] None) a.said (poked s' a.pokes) (with_outcomes l os) (outermost s')
  start_told x s s' l a os like known e imported less eo ef no_pause =
      let lo = with_outcomes l os in
      let sz = (sl.same_end 0 s s' like).size in
      let same_fault : fault_of (func_type_at w.written x).results (length s'.memory) w.plan true x a ≡ None =
      ap (λ z. fault_of z.results (length s'.memory) w.plan true x a) (ft.import_type x less) ∙ ap (λ z. fault_of (func_type_at (base w) x).results z w.plan true x a) (sym sz) ∙ ef in
      ap (held_start w.written (xp w) w.plan x s' l) (ft.undefined x known e)
      ∙ ap (λ z. if nat_lt x z then held_asked w.written (xp w) w.plan 0 x [] (outermost s') l l.outcomes else stops) ft.imports
      ∙ ap (λ z. if z then held_asked w.written (xp w) w.plan 0 x [] (outermost s') l l.outcomes else stops) imported
      ∙ ap (held_asked w.written (xp w) w.plan 0 x [] (outermost s') l) eo
      ∙ ap (λ z. held_tested w.written (xp w) w.plan 0 x [] (outermost s') lo a z (pause_of a.ticks)) same_fault
      ∙ ap (held_tested w.written (xp w) w.plan 0 x [] (outermost s') lo a None) no_pause

  -- with no entry behind it
  start_there : (x : ℕ) (s s' : Store) (l : Left) (a : Answer) (os : List Outcome) (v : Option Value) → G s → Alike (setting w 0) s s' → a.said ≡ S.Value v
      → pr w (starting x s' l) ≡ held_given 0 (call_note x [] s' [] None) a.said (poked s' a.pokes) (with_outcomes l os) (outermost s')
      → fault_of (func_type_at (base w) x).results (length s.memory) w.plan true x a ≡ None → AnswerFits a → l.entries ≡ []
      → EndsThere (starting x s' l) Done true (poked s a.pokes)
  start_there x s s' l a os v good like told mv0 ef fits ee =
      let lo = with_outcomes l os in
      let t' = poked s' a.pokes in
      let mv : pr w (starting x s' l) ≡ goes 0 (call_note x [] s' [] None ∷ note (answered (S.Value v)) t' ∷ note (ended Done) t' ∷ []) (over t') =
      mv0
      ∙ ap (λ z. held_given 0 (call_note x [] s' [] None) z t' lo (outermost s')) told
      ∙ ap (λ z. goes 0 (call_note x [] s' [] None ∷ note (answered (S.Value v)) t' ∷ done_notes t' z) (held_on t' lo z)) ee in
      record {
        c1 = 0;
        k1 = 0;
        gs1 = [];
        gs2 = call_note x [] s' [] None ∷ note (answered (S.Value v)) t' ∷ note (ended Done) t' ∷ [];
        b1 = starting x s' l;
        to = over t';
        before = stays;
        quiet = tt;
        last = mv;
        tells = refl;
        starts = refl;
        alike = sl.poked_too 0 s s' a like (passes_area (func_type_at (base w) x).results (length s.memory) w.plan true x a ef);
        good = law.poked_good x s true a good fits ef;
      }

  -- it traps
  start_traps : (x : ℕ) (s s' : Store) (l : Left) (a : Answer) (os : List Outcome) → G s → Alike (setting w 0) s s' → a.said ≡ S.Trap
      → pr w (starting x s' l) ≡ held_given 0 (call_note x [] s' [] None) a.said (poked s' a.pokes) (with_outcomes l os) (outermost s')
      → fault_of (func_type_at (base w) x).results (length s.memory) w.plan true x a ≡ None → AnswerFits a
      → EndsThere (starting x s' l) (Trapped Import) true (poked s a.pokes)
  start_traps x s s' l a os good like told mv0 ef fits =
      let t' = poked s' a.pokes in
      record {
        c1 = 0;
        k1 = 0;
        gs1 = [];
        gs2 = call_note x [] s' [] None ∷ import_traps t';
        b1 = starting x s' l;
        to = over t';
        before = stays;
        quiet = tt;
        last = mv0 ∙ ap (λ z. held_given 0 (call_note x [] s' [] None) z t' (with_outcomes l os) (outermost s')) told;
        tells = refl;
        starts = refl;
        alike = sl.poked_too 0 s s' a like (passes_area (func_type_at (base w) x).results (length s.memory) w.plan true x a ef);
        good = law.poked_good x s true a good fits ef;
      }

  -- ---- there is but one such move

  next_one : (k k2 : ℕ) (es es2 : List Note) (t t2 : Held) → ◌≡◌ {A = Turn Held Note} (goes k es t) (goes k2 es2 t2) → (es ≡ es2) × (t ≡ t2)
  next_one k k2 es es2 t t2 e = let e1 : es ≡ es2 = cc in let e2 : t ≡ t2 = cc in (e1, e2)

  no_end_first : (es rest : List Note) (how : End) → NoEnds (es ++ rest) → last_event es ≡ Some (ended how) → ⊥
  no_end_first es rest how q e =
      let g = subst GoesOn e (no_ends_last es (no_ends_left es rest q)) in
      let z : true ≡ false = g in
      cc

  pub one_end : (b b1 b2 to1 to2 : Held) (c1 c2 k1 k2 : ℕ) (gs1 gs2 es1 es2 : List Note) (how how2 : End) → Leads (pr w) b c1 gs1 b1 → NoEnds gs1 → pr w b1 ≡ goes k1 es1 to1
      → last_event es1 ≡ Some (ended how)
      → Leads (pr w) b c2 gs2 b2 → NoEnds gs2 → pr w b2 ≡ goes k2 es2 to2 → last_event es2 ≡ Some (ended how2) → (b1 ≡ b2) × (to1 ≡ to2)
  one_end b _ _ to1 to2 _ _ k1 k2 _ _ es1 es2 how how2 stays q1 e1 t1 stays q2 e2 t2 = (refl, (next_one k1 k2 es1 es2 to1 to2 (sym e1 ∙ e2)).1)
  one_end b _ b2 to1 to2 _ c2 k1 k2 _ gs2 es1 es2 how how2 stays q1 e1 t1 (Leads.moves {t = v} {k = k} {es = xs} {fs = ys} e rest c q) q2 e2 t2 =
      let z = next_one k1 k es1 xs to1 v (sym e1 ∙ e) in absurd (no_end_first xs ys how (subst NoEnds q q2) (subst (λ u. last_event u ≡ Some (ended how)) z.0 t1))
  one_end b b1 _ to1 to2 c1 _ k1 k2 gs1 _ es1 es2 how how2 (Leads.moves {t = v} {k = k} {es = xs} {fs = ys} e rest c q) q1 e1 t1 stays q2 e2 t2 =
      let z = next_one k2 k es2 xs to2 v (sym e2 ∙ e) in absurd (no_end_first xs ys how2 (subst NoEnds q q1) (subst (λ u. last_event u ≡ Some (ended how2)) z.0 t2))
  one_end b b1 b2 to1 to2 c1 c2 k1 k2 gs1 gs2 es1 es2 how how2 (Leads.moves {t = v} {k = k} {n = n} {es = xs} {fs = ys} e rest c q) q1 e1 t1
      (Leads.moves {t = v'} {k = k'} {n = n'} {es = xs'} {fs = ys'} e' rest' c' q') q2 e2 t2 =
      let z = next_one k k' xs xs' v v' (sym e ∙ e') in
      one_end v b1 b2 to1 to2 n n' k1 k2 ys ys' es1 es2 how how2 rest (no_ends_right xs ys (subst NoEnds q q1)) e1 t1 (subst (λ u. Leads (pr w) u n' ys' b2) (sym z.1) rest')
      (no_ends_right xs' ys' (subst NoEnds q' q2)) e2 t2

  -- ---- which ends there are

  -- an end of the whole program
  abbrev pub Stays : End → Type 0
  Stays how = (st : Bool) → ends_strand st how ≡ false

  -- of a move that tells no pausing call first
  abbrev pub CaseTurn : Held → (start : Bool) → Turn State Note → Type 0
  CaseTurn b start stops = Unit {0}
  CaseTurn b start (goes k es t) = FirstPlain es → (how : End) → last_event es ≡ Some (ended how) → Stays how ⊎ EndsThere b how start (store_of t)

  refusal_stays : (e : End) → IsRefusal e → Stays e
  refusal_stays (NoAnswer i) h = λ st. refl
  refusal_stays (OtherImport i n) h = λ st. refl
  refusal_stays (DeviceFault i) h = λ st. refl
  refusal_stays (NoDevice i) h = λ st. refl
  refusal_stays _ h = absurd h

  abbrev StaysIf : Option End → Type 0
  StaysIf None = Unit {0}
  StaysIf (Some e) = Stays e

  else_stays : (a b : Option End) → StaysIf a → StaysIf b → StaysIf (or_else a b)
  else_stays None b h g = g
  else_stays (Some e) b h g = h

  poke_stays : (n : ℕ) (areas : List Area) (qs : List Poke) → StaysIf (bad_poke n areas qs)
  poke_stays n areas [] = tt
  poke_stays n areas (q ∷ qs) = by (poke_fits n areas q) (poke_stays n areas qs)
    where
      by : (t : Bool) → StaysIf (bad_poke n areas qs) → StaysIf (if t then bad_poke n areas qs else Some (BadPoke q.at (length q.bytes)))
      by true ih = ih
      by false ih = λ st. refl

  pause_stays : (start unlisted : Bool) (i ticks : ℕ) → StaysIf (bad_pause start unlisted i ticks)
  pause_stays start unlisted i zero = tt
  pause_stays true unlisted i (suc t) = λ st. refl
  pause_stays false true i (suc t) = λ st. refl
  pause_stays false false i (suc t) = tt

  value_stays : (types : List ValType) (i : ℕ) (said : Said) → StaysIf (bad_value types i said)
  value_stays types i (S.Value v) = by (answers types v)
    where
      by : (t : Bool) → StaysIf (if t then None else Some (BadAnswer i v))
      by true = tt
      by false = λ st. refl
  value_stays types i S.Trap = tt

  fault_stays : (types : List ValType) (n : ℕ) (start : Bool) (i : ℕ) (a : Answer) → StaysIf (fault_of types n w.plan start i a)
  fault_stays types n start i a =
      else_stays (bad_value types i a.said) _ (value_stays types i a.said)
      (else_stays (bad_poke n (w.plan.area ∷ w.plan.others) a.pokes) _ (poke_stays n (w.plan.area ∷ w.plan.others) a.pokes) (pause_stays start (is_unlisted w.plan.listed i) i a.ticks))

  ended_one : (how how2 : End) → Some (ended how) ≡ Some (ended how2) → how ≡ how2
  ended_one how how2 e = cc

  there : (b : Held) (start : Bool) (s : Store) (how how2 : End) → EndsThere b how start s → Some (ended how) ≡ Some (ended how2) → Stays how2 ⊎ EndsThere b how2 start s
  there b start s how how2 h e = inr (subst (λ z. EndsThere b z start s) (ended_one how how2 e) h)

  gone : (b : Held) (start : Bool) (s : Store) (how how2 : End) → Stays how → Some (ended how) ≡ Some (ended how2) → Stays how2 ⊎ EndsThere b how2 start s
  gone b start s how how2 h e = inl (subst Stays (ended_one how how2 e) h)

  -- a call inside code
  module _ (n spare top x : ℕ) (within : 10 * x ≤ spare) (task : Task) (c b : Configuration) (l : Left) (is_top : TopOf w task top) (lk : Link w ft sl L W G law top x c b) (lf : LeftFits w l)
      (al : Allowed w n (runs task c l)) where
    abbrev from : Held
    from = busy (is_running task) b l

    asks_cases : (k i : ℕ) (args : List Value) (d : Configuration) → step (base w) c ≡ asks k i args d → FlatAsks w (λ c d. c ≡ d) L W G top x k i args d lk.flat_at → (os : List Outcome)
        → l.outcomes ≡ os
        → CaseTurn (busy (is_running task) b l) (is_start task) (sh w (asked (base w) w.plan k i args (inside task d) l os))
    asks_cases k i args d is fs [] eo = λ first how e. cc
    asks_cases k i args d is fs (refused q ∷ os) eo =
        λ first how e. gone from (is_start task) d.store q how (refusal_stays q (first_fits (refused q) os (subst (All OutcomeFits) eo lf.outcomes))) e
    asks_cases k i args d is fs (given a ∷ os) eo =
        by_fault (fault_of (func_type_at (base w) i).results (length d.store.memory) w.plan (is_start task) i a) refl
        (fault_stays (func_type_at (base w) i).results (length d.store.memory) (is_start task) i a)
      where
        by_room : (ticks : ℕ) (xs : List Note) (t : State) (q : Bool) → CaseTurn (busy (is_running task) b l) (is_start task)
            (if q then goes k (call_note i args d.store (stack_of (base w) d) (Some ticks) ∷ trap_note (used_in w (stack_of (base w) d)) w.plan.area.len d.store ∷ []) (halts d.store)
            else goes k (call_note i args d.store (stack_of (base w) d) (Some ticks) ∷ pause_note ticks (room_in w (stack_of (base w) d)) d.store (stack_of (base w) d) ∷ xs) t)
        by_room ticks xs t true = λ first how e. cc
        by_room ticks xs t false = λ first how e. cc

        by_told : (o : Option ℕ) → pause_of a.ticks ≡ o → fault_of (func_type_at (base w) i).results (length d.store.memory) w.plan (is_start task) i a ≡ None → (said : Said) → a.said ≡ said
            → CaseTurn (busy (is_running task) b l) (is_start task)
            (sh w (go_on k (call_note i args d.store (stack_of (base w) d) o) said (poked d.store a.pokes) (with_outcomes l os) (inside task d)))
        by_told None et ef (S.Value v) told = λ first how e. cc
        by_told None et ef S.Trap told = λ first how e. there from (is_start task) (poked d.store a.pokes) (Trapped Import) how
            (trap_asked n spare top x within task c b l is_top lk lf al k i args d is fs a os eo ef et told) e
        by_told (Some ticks) et ef (S.Value v) told = by_room ticks _ _ (nat_lt w.plan.area.len (room_in w (stack_of (base w) d)))
        by_told (Some ticks) et ef S.Trap told = by_room ticks _ _ (nat_lt w.plan.area.len (room_in w (stack_of (base w) d)))

        by_fault : (o : Option End) → fault_of (func_type_at (base w) i).results (length d.store.memory) w.plan (is_start task) i a ≡ o → StaysIf o
            → CaseTurn (busy (is_running task) b l) (is_start task) (sh w (tested (base w) k i args (inside task d) (with_outcomes l os) a o))
        by_fault (Some q) ef st = λ first how e. gone from (is_start task) d.store q how st e
        by_fault None ef st = by_told (pause_of a.ticks) refl ef a.said refl

  pub end_cases : (n spare : ℕ) (a : State) (b : Held) → 0 < n → R w ft sl L W G law n spare a b → CaseTurn b (strung_starts (on a)) (nn w a)
  end_cases n spare _ b pos (r_between {s = s} {s' = s'} {l = l} good like lf al) = by_entries l.entries
    where
      by_func : (e : Entry) (es : List Entry) (f : Option Func) → CaseTurn b false (sh w (enters e s (record { number = l.number; entries = es; outcomes = l.outcomes }) f))
      by_func e es None = tt
      by_func e es (Some f) = λ first how q. cc

      by_entries : (es : List Entry) → CaseTurn b false (sh w (enter_next (base w) s l es))
      by_entries [] = tt
      by_entries (e ∷ es) = by_func e es (defined_at (base w) e.func)
  end_cases n spare _ _ pos (r_halts h) = tt
  end_cases n spare _ _ pos (r_begins {s = s} {s' = s'} {l = l} {x = x} good like lf lw al) = by_func (defined_at (base w) x) refl
    where
      b : Held
      b = starting x s' l

      given_case : (a : Answer) (os : List Outcome) → l.outcomes ≡ given a ∷ os → defined_at (base w) x ≡ None → nat_lt x (func_imports (base w)) ≡ true → (o : Option End)
          → fault_of (func_type_at (base w) x).results (length s.memory) w.plan true x a ≡ o → StaysIf o
          → CaseTurn (starting x s' l) true (sh w (tested (base w) 0 x [] (outermost s) (with_outcomes l os) a o))
      given_case a os eo ed ei (Some q) ef st = λ first how e. gone (starting x s' l) true s q how st e
      given_case a os eo ed ei None ef st =
          subst (λ z. CaseTurn (starting x s' l) true (sh w (go_on 0 (call_note x [] s [] z) a.said (poked s a.pokes) (with_outcomes l os) (outermost s)))) (sym none)
          (by_said a.said
          (λ v told. subst (λ z. CaseTurn (starting x s' l) true (sh w (go_on 0 (call_note x [] s [] None) z (poked s a.pokes) (with_outcomes l os) (outermost s)))) (sym told)
          (by_entries v told l.entries refl))
          (λ told. subst (λ z. CaseTurn (starting x s' l) true (sh w (go_on 0 (call_note x [] s [] None) z (poked s a.pokes) (with_outcomes l os) (outermost s)))) (sym told)
          (λ first how e. there (starting x s' l) true (poked s a.pokes) (Trapped Import) how (start_traps x s s' l a os good like told mv0 ef fits) e)))
        where
          none : pause_of a.ticks ≡ None
          none = no_pause_in_start (func_type_at (base w) x).results (length s.memory) w.plan x a ef

          fits : AnswerFits a
          fits = first_fits (given a) os (subst (All OutcomeFits) eo lf.outcomes)

          mv0 : pr w (starting x s' l) ≡ held_given 0 (call_note x [] s' [] None) a.said (poked s' a.pokes) (with_outcomes l os) (outermost s')
          mv0 = start_told x s s' l a os like lw.1 ed ei (ltb-true x (func_imports (base w)) ei) eo ef none

          by_entries : (v : Option Value) → a.said ≡ S.Value v → (es : List Entry) → l.entries ≡ es → CaseTurn (starting x s' l) true
              (goes 0 (call_note x [] s [] None ∷ note (answered (S.Value v)) (poked s a.pokes) ∷ done_notes (poked s a.pokes) l.entries) (on_to (poked s a.pokes) (with_outcomes l os) l.entries))
          by_entries v told [] ee =
              subst (λ z. CaseTurn (starting x s' l) true
              (goes 0 (call_note x [] s [] None ∷ note (answered (S.Value v)) (poked s a.pokes) ∷ done_notes (poked s a.pokes) z) (on_to (poked s a.pokes) (with_outcomes l os) z))) (sym ee)
              (λ first how e. there (starting x s' l) true (poked s a.pokes) Done how (start_there x s s' l a os v good like told mv0 ef fits ee) e)
          by_entries v told (q ∷ es) ee =
              subst (λ z. CaseTurn (starting x s' l) true
              (goes 0 (call_note x [] s [] None ∷ note (answered (S.Value v)) (poked s a.pokes) ∷ done_notes (poked s a.pokes) z) (on_to (poked s a.pokes) (with_outcomes l os) z))) (sym ee)
              (λ first how e. cc)

      by_outcomes : defined_at (base w) x ≡ None → nat_lt x (func_imports (base w)) ≡ true → (os : List Outcome) → l.outcomes ≡ os
          → CaseTurn (starting x s' l) true (sh w (asked (base w) w.plan 0 x [] (outermost s) l os))
      by_outcomes ed ei [] eo = λ first how e. cc
      by_outcomes ed ei (refused q ∷ os) eo = λ first how e. gone (starting x s' l) true s q how (refusal_stays q (first_fits (refused q) os (subst (All OutcomeFits) eo lf.outcomes))) e
      by_outcomes ed ei (given a ∷ os) eo =
          given_case a os eo ed ei (fault_of (func_type_at (base w) x).results (length s.memory) w.plan true x a) refl (fault_stays (func_type_at (base w) x).results (length s.memory) true x a)

      by_import : defined_at (base w) x ≡ None → (q : Bool) → nat_lt x (func_imports (base w)) ≡ q
          → CaseTurn (starting x s' l) true (sh w (if q then asked (base w) w.plan 0 x [] (outermost s) l l.outcomes else stops))
      by_import ed true ei = by_outcomes ed ei l.outcomes refl
      by_import ed false ei = tt

      by_func : (f : Option Func) → defined_at (base w) x ≡ f → CaseTurn (starting x s' l) true (sh w (start_called (base w) w.plan x s l f))
      by_func (Some f) ed = λ first how e. cc
      by_func None ed = by_import ed (nat_lt x (func_imports (base w))) refl
  end_cases n spare _ _ pos (r_runs {c = c} {b = b} {l = l} {task = task} top x within is_top lk lf al) =
      by_next (step (base w) c) refl (law.reduces top x c lk.flat_at lk.link (al.calm 0 [] (runs task c l) stays pos))
    where
      back : (k : ℕ) (vs : List Value) (s : Store) (tk : Task) → task ≡ tk → FlatReturns w (λ c d. c ≡ d) L W G top x k vs s lk.flat_at → (es : List Entry) → l.entries ≡ es
          → CaseTurn (busy (is_running task) b l) (is_start task) (sh w (task_back k tk vs s (record { number = l.number; entries = es; outcomes = l.outcomes })))
      back k vs s the_start et fs [] ee = λ first how e. there (busy (is_running task) b l) (is_start task) s Done how (done_there n spare top x within task c b l is_top lk lf al k vs s fs ee) e
      back k vs s the_start et fs (q ∷ es) ee = λ first how e. cc
      back k vs s (an_entry en) et fs [] ee = λ first how e. there (busy (is_running task) b l) (is_start task) s Done how (done_there n spare top x within task c b l is_top lk lf al k vs s fs ee) e
      back k vs s (an_entry en) et fs (q ∷ es) ee = λ first how e. cc

      by_next : (o : Next) → step (base w) c ≡ o → FlatNext w (λ c d. c ≡ d) L W G top x o lk.flat_at
          → CaseTurn (busy (is_running task) b l) (is_start task) (sh w (by_step (base w) w.plan task l o))
      by_next (steps k d) is fs = λ first how e. cc
      by_next (asks k i args d) is fs = asks_cases n spare top x within task c b l is_top lk lf al k i args d is fs l.outcomes refl
      by_next (returns k vs s) is fs = back k vs s task refl fs l.entries refl
      by_next (traps k t s) is fs = λ first how e. there (busy (is_running task) b l) (is_start task) s (Trapped t) how (trap_there n spare top x within task c b l is_top lk lf al k t s is fs) e
      by_next stuck is fs = tt
