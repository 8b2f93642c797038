-- A strand's move that pauses, or whose frames don't fit; with it, all that strands owe, and the joint simulation.
use Rattle.run_theory.proofs.TestedPokes.{passes_area, pokes_pass}
use Rattle.headline.specs.FlatLaw.{FlatAsks, FlatLaw, FlatNext}
use Rattle.world_model.specs.World.{ends_turn}
use Rattle.wa_types.specs.declared.values.Trap.TheVariants.{Import, Unreachable}
use Rattle.wa_model.specs.declared.answers.Said.{Said}
use Rattle.std.proofs.lemmas.List.Elements.{All-cons, All-nil}
use Rattle.headline.specs.Told.{answer_notes, goes_on_told}
use Rattle.headline.specs.World.{World, WorldFits}
use Rattle.headline.specs.WrittenRuns.{WrittenLaw}
use Rattle.headline.proofs.Asks.{Called, to_call}
use Rattle.headline.proofs.Reductions.{Allowed, LeftFits, Link, TopOf, nb, nn, r_begins, r_between, r_halts, r_runs, sh}
use Rattle.headline.proofs.StoresTogether.{store_laws}
use Rattle.headline.proofs.ToldMoves.{Here, dear_of, nothing, so_far}
use Rattle.std.proofs.Common.{Bool, List, None, Some, [], ap, arith, false, length, refl, subst, suc, sym, true, ℕ, inr, ◌*◌, ◌+◌, ◌++◌, ◌<◌, ◌∙◌, ◌∷◌, ◌≡◌, ◌≤◌}
use Rattle.std.proofs.lemmas.Bool.{ltb-false}
use Rattle.std.specs.Prelude.{if◌then◌else◌, map, nat_lt}
use Rattle.run_theory.proofs.Follow.{Alike as AllAlike, Follows, not_yet, up_to}
use Rattle.wa_model.specs.Behaves.{PauseNumbered, PausesNumbered}
use Rattle.wa_model.specs.Blocking.{Left, Note, State, Task, an_entry, bad_poke, call_note, fault_of, pause_of, with_outcomes, halts, note, poked, runs, store_of}
use Rattle.wa_model.specs.Configuration.{Activation, Configuration, stack_of, suspended as suspended_as}
use Rattle.wa_model.specs.Expected.{pause_note, trap_note}
use Rattle.wa_model.specs.Machine.{Ran, Turn, goes, run, stops}
use Rattle.wa_model.specs.Outside.{Answer, Event, answered, ended}
use Rattle.wa_model.specs.Plan.{Entry, Outcome, Plan, given}
use Rattle.wa_model.specs.Protocol.{Held, busy, exports_of, is_running, store_held}
use Rattle.wa_model.specs.Step.{Next, asks, step, steps}
use Rattle.wa_model.specs.Store.{Store}
use Rattle.wa_model.specs.Untouched.{IsCalm}
use Rattle.wa_model.specs.declared.answers.Said.TheVariants as SV
use Rattle.wa_model.specs.declared.events.End.{End}
use Rattle.wa_model.specs.declared.events.End.TheVariants.{Trapped, UnwindTrap}
use Rattle.wa_types.specs.Base.{Base}
use Rattle.wa_types.specs.Frames.{Fit, Room, Suspended}
use Rattle.wa_types.specs.Modules.{func_type_at}
use Rattle.wa_types.specs.Pausing.{Settings}
use Rattle.wa_types.specs.Syntax.{Module}
use Rattle.wa_types.specs.declared.values.Value.{Value}
use Rattle.strand_laws.proofs.Apart.{ApartAt, Gap, NextApart, reduces_apart}
use Rattle.strand_laws.proofs.Between.{AreGaps, Chain, InsideAll, chain_size, memory_grows, middle_chain}
use Rattle.strand_laws.proofs.Clear.{CalmAll, all_off, calm_at, calm_over, chain_halts, clear_pokes, plan_guards}
use Rattle.strand_laws.proofs.InStep as I
use Rattle.strand_laws.proofs.Switch.{wake_all}
use Rattle.strand_laws.proofs.Middle.{AllOff, Middle, StateApart, all_apart, s_begins, s_between, s_halts, s_runs}
use Rattle.strand_laws.proofs.Paused.{PausesThere, pauses_there}
use Rattle.strand_laws.proofs.Resumed.{rewound_from}
use Rattle.strand_laws.specs.Strands.{StrandProgram, Strung, held_loom, on, plan_of, strand_at, strung_loom, waits, with_source}
use Rattle.strand_laws.specs.Woven.{Loom, Told as ToldBy, Woven, told_by, weave}
use Rattle.strand_laws.proofs.EachWorld.{Calm, Family, FamilyLaws, Go, Hang, Kept, Near, NoteUp, Ok, Q, Rel, Sm, alike_up, dear, going_on, hangs_on, inside_more, join_up, keeps_others, near_behind, see_up, split_up, suspended, world_at}
use Rattle.strand_laws.proofs.Waking.{poked_size, sees_rel, wakes_now}
use Rattle.strand_laws.proofs.Moving.{MoveNow, StaysEnd, allowed_once, an_end, dear_up, simple_move}
use Rattle.strand_laws.proofs.NextMoves.{NextOf, PlainS, block_next, n_pauses, n_simple, next_of, pause_next, plain_move, slow_now, stops_now, unlift}

module _ (family : Family) (laws : FamilyLaws family) where
  abbrev wd : ℕ → World
  wd = world_at family

  abbrev m : Module
  m = family.original

  abbrev st : Settings
  st = family.settings

  abbrev which : List Bool
  which = family.which

  abbrev written : Module
  written = family.written

  abbrev g : StrandProgram
  g = family.program

  abbrev count : ℕ
  count = length family.program.strands

  abbrev L : ℕ → (top spare : ℕ) → Configuration → Configuration → Type 0
  L = family.links

  abbrev W : ℕ → ℕ → ℕ → Configuration → Configuration → Type 0
  W = family.waiting

  abbrev G : Store → Type 0
  G = family.good

  abbrev Known : ℕ → Held → Type 0
  Known = family.known

  abbrev A : Loom Strung
  A = strung_loom family.settings (with_source family.program family.original)

  abbrev B : Loom Held
  B = held_loom (with_source family.program family.written)

  abbrev ft : (i : ℕ) → i < length family.program.strands → WorldFits (world_at family i)
  ft = laws.fits

  abbrev law : (i : ℕ) → i < length family.program.strands → FlatLaw (world_at family i) (λ c d. c ≡ d) (family.links i) (family.waiting i) family.good
  law = laws.flat

  abbrev wl : (i : ℕ) → i < length family.program.strands → WrittenLaw (world_at family i) (family.known i)
  wl = laws.runs

  -- ---- a pause

  told_size : (said : Said) (e : Entry) (d : Configuration) (s : Store) (l : Left) → length (store_of (goes_on_told said e d s l)).memory ≡ length s.memory
  told_size (SV.Value v) e d s l = refl
  told_size SV.Trap e d s l = refl

  abbrev NumberedNote : Note → Type 0
  NumberedNote x = PauseNumbered m st which x.stack x.pause

  told_numbered : (said : Said) (s : Store) → PausesNumbered m st which (answer_notes said s)
  told_numbered (SV.Value v) s = All-cons NumberedNote (note (answered (SV.Value v)) s) [] tt (All-nil NumberedNote)
  told_numbered SV.Trap s =
      All-cons NumberedNote (note (answered SV.Trap) s) (note (ended (Trapped Import)) s ∷ []) tt (All-cons NumberedNote (note (ended (Trapped Import)) s) [] tt (All-nil NumberedNote))

  -- the same call over the other store
  pub record AsksSame (ps : List Gap) (task : Task) (l : Left) (k imp : ℕ) (args : List Value) (d : Configuration) (a' : State) : Type 0 where
    pub c' : Configuration
    pub d' : Configuration
    pub is_runs : a' ≡ runs task c' l
    pub asks_too : step (Base m) c' ≡ asks k imp args d'
    pub here : d'.here ≡ d.here
    pub under : d'.under ≡ d.under
    pub chain : Chain ps d.store d'.store

  asks_apart : (p : Gap) (k imp : ℕ) (args : List Value) (d : Configuration) (n n' : Next) → NextApart p n n' → n ≡ asks k imp args d → (d1 : Configuration) × (n' ≡ asks k imp args d1)
      × ApartAt p d d1
  asks_apart p k imp args d (asks k0 i0 a0 d0) (asks k1 i1 a1 d1) h e =
      let e0 : k0 ≡ k = cc in
      let e1 : i0 ≡ imp = cc in
      let e2 : a0 ≡ args = cc in
      let e3 : d0 ≡ d = cc in
      (d1, ap (λ z. asks z i1 a1 d1) (h.0 ∙ e0) ∙ ap (λ z. asks k z a1 d1) (h.1 ∙ e1) ∙ ap (λ z. asks k imp z d1) (h.2 ∙ e2), subst (λ z. ApartAt p z d1) e3 h.3)
  asks_apart p k imp args d (asks k0 i0 a0 d0) (steps k1 d1) h e = absurd h
  asks_apart p k imp args d (asks k0 i0 a0 d0) (Rattle.wa_model.specs.Step.returns k1 vs s) h e = absurd h
  asks_apart p k imp args d (asks k0 i0 a0 d0) (Rattle.wa_model.specs.Step.traps k1 t s) h e = absurd h
  asks_apart p k imp args d (asks k0 i0 a0 d0) Rattle.wa_model.specs.Step.stuck h e = absurd h
  asks_apart p k imp args d (steps k0 d0) n' h e = cc
  asks_apart p k imp args d (Rattle.wa_model.specs.Step.returns k0 vs s) n' h e = cc
  asks_apart p k imp args d (Rattle.wa_model.specs.Step.traps k0 t s) n' h e = cc
  asks_apart p k imp args d Rattle.wa_model.specs.Step.stuck n' h e = cc

  runs_apart : (p : Gap) (task : Task) (c : Configuration) (l : Left) (a u : State) → StateApart p a u → a ≡ runs task c l → (c1 : Configuration) × (u ≡ runs task c1 l) × ApartAt p c c1
  runs_apart p task c l _ _ (s_runs {c = c0} {c' = c1} {l = l0} {task = t0} q) e =
      let e0 : t0 ≡ task = cc in
      let e1 : c0 ≡ c = cc in
      let e2 : l0 ≡ l = cc in
      (c1, ap (λ z. runs z c1 l0) e0 ∙ ap (λ z. runs task c1 z) e2, subst (λ z. ApartAt p z c1) e1 q)
  runs_apart p task c l _ _ (s_between q) e = cc
  runs_apart p task c l _ _ (s_begins q) e = cc
  runs_apart p task c l _ _ (s_halts q) e = cc

  asks_same : (plan : Plan) (ps : List Gap) (task : Task) (l : Left) (k imp : ℕ) (args : List Value) (c d : Configuration) (a' : State) → Middle ps (runs task c l) a' → AllOff plan ps (runs task c l)
      → step (Base m) c ≡ asks k imp args d
      → AsksSame ps task l k imp args d a'
  asks_same plan [] task l k imp args c d a' h off_ e = record { c' = c; d' = d; is_runs = sym h; asks_too = e; here = refl; under = refl; chain = refl }
  asks_same plan (p ∷ ps) task l k imp args c d a' h off_ e =
      let o = runs_apart p task c l (runs task c l) h.0 h.1 refl in
      let n = asks_apart p k imp args d (step (Base m) c) (step (Base m) o.0) (reduces_apart (Base m) p c o.0 o.2 off_.0.0) e in
      let r = asks_same plan ps task l k imp args o.0 n.0 a' (subst (λ z. Middle ps z a') o.1 h.2) (subst (AllOff plan ps) o.1 (all_apart plan p ps (runs task c l) h.0 h.1 off_.1)) n.1 in
      let f = n.2 in
      record { c' = r.c'; d' = r.d'; is_runs = r.is_runs; asks_too = r.asks_too; here = r.here ∙ f.here; under = r.under ∙ f.under; chain = (n.0.store, f.store, r.chain) }

  -- what is known of code that runs
  pub record RunsRel (i : ℕ) (li : i < count) (spare : ℕ) (task : Task) (c : Configuration) (l : Left) (b : Held) : Type 0 where
    pub bc : Configuration
    pub b_is : b ≡ busy (is_running task) bc l
    pub top : ℕ
    pub x : ℕ
    pub within : 10 * x ≤ spare
    pub is_top : TopOf (wd i) task top
    pub lk : Link (wd i) (ft i li) (store_laws (wd i)) (L i) (W i) G (law i li) top x c bc
    pub lf : LeftFits (wd i) l

  runs_rel : (i : ℕ) (li : i < count) (spare : ℕ) (task : Task) (c : Configuration) (l : Left) (a : State) (b : Held) → (Rel family laws) i li 0 spare a b → a ≡ runs task c l
      → RunsRel i li spare task c l b
  runs_rel i li spare task c l _ _ (r_runs {c = c0} {b = bc} {l = l0} {task = t0} top x within is_top lk lf al) e =
      let e0 : t0 ≡ task = cc in
      let e1 : c0 ≡ c = cc in
      let e2 : l0 ≡ l = cc in
      record {
        bc = bc;
        b_is = ap (λ z. busy (is_running z) bc l0) e0 ∙ ap (λ z. busy (is_running task) bc z) e2;
        top = top;
        x = x;
        within = within;
        is_top = subst (λ z. TopOf (wd i) z top) e0 is_top;
        lk = subst (λ z. Link (wd i) (ft i li) (store_laws (wd i)) (L i) (W i) G (law i li) top x z bc) e1 lk;
        lf = subst (LeftFits (wd i)) e2 lf;
      }
  runs_rel i li spare task c l _ _ (r_between good like lf al) e = cc
  runs_rel i li spare task c l _ _ (r_begins good like lf lw al) e = cc
  runs_rel i li spare task c l _ _ (r_halts h) e = cc

  module _ (i : ℕ) (li : i < count) (spare k imp : ℕ) (args : List Value) (e : Entry) (c d c' d' : Configuration) (l : Left) (a : Answer) (os : List Outcome) (ticks : ℕ) (ps : List Gap)
      (are : AreGaps g.strands ps)
      (is : step (Base m) c ≡ asks k imp args d) (is' : step (Base m) c' ≡ asks k imp args d') (eo : l.outcomes ≡ given a ∷ os)
      (ef : fault_of (func_type_at (Base m) imp).results (length d.store.memory) (plan_of g (strand_at g i)) false imp a ≡ None) (et : pause_of a.ticks ≡ Some ticks)
      (mid : Middle ps (runs (an_entry e) c l) (runs (an_entry e) c' l)) (eh : d'.here ≡ d.here) (eu : d'.under ≡ d.under) (ch_d : Chain ps d.store d'.store)
      (ins : InsideAll g.strands (length c.store.memory)) (calm' : IsCalm (strand_at g i).area (runs (an_entry e) c' l))
      (oks : PauseNumbered m st which (stack_of (Base m) d) (Some ticks)) where
    abbrev lo : Left
    lo = with_outcomes l os

    abbrev S : List Suspended
    S = stack_of (Base m) d

    abbrev S' : List Suspended
    S' = stack_of (Base m) d'

    same_stack : S' ≡ S
    same_stack = ap (λ (z : Activation). map (suspended_as (Base m)) (z ∷ d'.under)) eh ∙ ap (λ (z : List Activation). map (suspended_as (Base m)) (d.here ∷ z)) eu

    abbrev x1 : Note
    x1 = call_note imp args d.store S (Some ticks)

    abbrev x1' : Note
    x1' = call_note imp args d'.store S' (Some ticks)

    ef' : fault_of (func_type_at (Base m) imp).results (length d'.store.memory) (plan_of g (strand_at g i)) false imp a ≡ None
    ef' = subst (λ n. fault_of (func_type_at (Base m) imp).results n (plan_of g (strand_at g i)) false imp a ≡ None) (chain_size ps d.store d'.store ch_d) ef

    ch_c : Chain ps c.store c'.store
    ch_c = middle_chain ps (runs (an_entry e) c l) (runs (an_entry e) c' l) mid

    bad : bad_poke (length d.store.memory) ((strand_at g i).area ∷ []) a.pokes ≡ None
    bad = passes_area (func_type_at (Base m) imp).results (length d.store.memory) (plan_of g (strand_at g i)) false imp a ef

    grown : length c.store.memory ≤ length d.store.memory
    grown =
        let q = memory_grows (Base m) (plan_of g (strand_at g i)) (runs (an_entry e) c l) _ k _ ((block_next family laws) i k imp args e c d l a os ticks is eo ef et) in
        let z = (poked_size family laws) d.store ((strand_at g i).area ∷ []) a.pokes bad in
        let at : length (store_of (goes_on_told a.said e d (poked d.store a.pokes) lo)).memory ≡ length (poked d.store a.pokes).memory = told_size a.said e d (poked d.store a.pokes) lo in
        omega arith

    ins_d : InsideAll g.strands (length d.store.memory)
    ins_d = inside_more g.strands (length c.store.memory) (length d.store.memory) grown ins

    numbered' : PauseNumbered m st which S' (Some ticks)
    numbered' = subst (λ z. PauseNumbered m st which z (Some ticks)) (sym same_stack) oks

    nums : PausesNumbered m st which (x1' ∷ answer_notes a.said (poked d'.store a.pokes))
    nums = All-cons NumberedNote x1' (answer_notes a.said (poked d'.store a.pokes)) numbered' (told_numbered a.said (poked d'.store a.pokes))

    allowed : Allowed (wd i) (suc k) (runs (an_entry e) c' l)
    allowed = (allowed_once family laws) i (suc k) k (runs (an_entry e) c' l) _ _ ((block_next family laws) i k imp args e c' d' l a os ticks is' eo ef' et) calm' (omega arith) (λ more. nums)

    call_up : (NoteUp family laws) ps x1 x1'
    call_up = record { event = refl; stack = same_stack; pause = refl; chain = ch_d }

    -- the frames fit
    module _ (bc : Configuration) (top x : ℕ) (within : 10 * x ≤ spare) (is_top : TopOf (wd i) (an_entry e) top) (lk : Link (wd i) (ft i li) (store_laws (wd i)) (L i) (W i) G (law i li) top x c' bc)
        (lf : LeftFits (wd i) l) (rel : (Rel family laws) i li 0 spare (runs (an_entry e) c' l) (busy (is_running (an_entry e)) bc l)) (kn : Known i (busy (is_running (an_entry e)) bc l))
        (fits_len : Room m st.policy S ≤ (strand_at g i).area.len) where
      abbrev x2 : Note
      x2 = pause_note ticks (Room m st.policy S) d.store S

      abbrev x2' : Note
      x2' = pause_note ticks (Room m st.policy S') d'.store S'

      asks_flat : FlatAsks (wd i) (λ c d. c ≡ d) (L i) (W i) G top x k imp args d' lk.flat_at
      asks_flat = subst (λ o. FlatNext (wd i) (λ c d. c ≡ d) (L i) (W i) G top x o lk.flat_at) is' ((law i li).reduces top x c' lk.flat_at lk.link calm')

      cd : Called (wd i) (ft i li) (store_laws (wd i)) (L i) (W i) G (law i li) top spare (an_entry e) l c'.store bc k imp args d'
      cd = to_call (wd i) (ft i li) (store_laws (wd i)) (L i) (W i) G (law i li) (suc k) spare top x within (an_entry e) c' bc l is_top lk lf allowed k imp args d' asks_flat

      pt : PausesThere (wd i) (ft i li) (store_laws (wd i)) (L i) (W i) G (law i li) (Known i) (wl i li)
          (suc k) spare top x within e c' bc l is_top lk lf allowed kn k imp args d' is' cd a os ticks eo ef' et
      pt =
          pauses_there (wd i) (ft i li) (store_laws (wd i)) (L i) (W i) G (law i li) (Known i) (wl i li)
          (suc k) spare top x within e c' bc l is_top lk lf allowed kn k imp args d' is' cd a os ticks eo ef' et
          numbered' (subst (λ z. Room m st.policy z ≤ (strand_at g i).area.len) (sym same_stack) fits_len)

      up : AllAlike ((NoteUp family laws) ps) (x1 ∷ x2 ∷ []) (x1' ∷ x2' ∷ [])
      up = (call_up, (record { event = ap (λ z. Rattle.wa_model.specs.Outside.paused ticks (Room m st.policy z)) same_stack; stack = same_stack; pause = refl; chain = ch_d }, tt))

      way : (j : ℕ) (r : Ran Held Note) → Here m st which written (exports_of written) (plan_of g (strand_at g i)) None c'.store (x1' ∷ x2' ∷ []) k j r
          → I.WayS A B (Go family laws) (Hang family laws) (Near family laws) (Sm family laws) (Kept family laws) (Q family laws) (Calm family laws) (Ok family laws) (dear family laws) i k
          (x1 ∷ x2 ∷ []) (on (runs (an_entry e) c l)) (waits (an_entry e) d a lo) j r
      way j r (nothing h again) = not_yet h.0 ((see_up family laws) i li ps c.store c'.store (store_held r.last) are ch_c h.1)
      way j r (so_far e1 e2 y ge split al sm again) =
          let q = (split_up family laws) ps (x1 ∷ x2 ∷ []) e1 y e2 (subst (AllAlike ((NoteUp family laws) ps) (x1 ∷ x2 ∷ [])) split up) in
          let v = q.here in
          up_to q.es1 q.es2 q.x ge q.es_are ((alike_up family laws) i li ps (q.es1 ++ q.x ∷ []) (e1 ++ y ∷ []) r.events are ((join_up family laws) ps q.es1 e1 q.x y q.first q.here) al)
          ((see_up family laws) i li ps q.x.store y.store (store_held r.last) are v.chain sm)

      pause_at : (MoveNow family laws) i spare k (x1 ∷ x2 ∷ []) (on (runs (an_entry e) c l)) (waits (an_entry e) d a lo) (busy (is_running (an_entry e)) bc l)
      pause_at =
          let r = pt in
          let bd = r.bound in
          let to : Held = rewound_from (wd i) e imp a lo r.s3 in
          let dr : dear_of m (x1' ∷ x2' ∷ []) ≡ dear_of m (x1 ∷ x2 ∷ []) =
          ap (Rattle.std.specs.List.sum_by (λ stack. 256 + Rattle.std.specs.List.sum_by (Rattle.wa_types.specs.Bounds.activation_bound m) stack))
          ((dear_up family laws) ps (x1 ∷ x2 ∷ []) (x1' ∷ x2' ∷ []) up) in
          let end3 = (store_laws (wd i)).same_end top d'.store r.s3 r.like in
          let two = up.1.0 in
          record {
            cost = r.cost;
            left = r.credit;
            events = r.y1 ∷ r.y2 ∷ [];
            to = to;
            leads = r.leads;
            no_less = r.no_less;
            bound = omega arith;
            alike = (alike_up family laws) i li ps (x1 ∷ x2 ∷ []) (x1' ∷ x2' ∷ []) (r.y1 ∷ r.y2 ∷ []) are up r.alike;
            on_way = λ j lt. way j (run (B.next i) j (busy (is_running (an_entry e)) bc l)) (r.at_each j (omega arith));
            keeps = λ j ne. (keeps_others family laws) i li ps c.store c'.store d.store d'.store bc.store r.s3 are ch_c ch_d ((sees_rel family laws) i li 0 spare _ _ rel) end3 grown j ne;
            behind = I.pauses x2 ticks (Room m st.policy S) (record {
              es1 = x1 ∷ [];
              es_are = refl;
              at_end = refl;
              c1 = r.c1;
              k1 = 0;
              gs1 = r.y1 ∷ [];
              gs2 = r.y2 ∷ [];
              b1 = r.p2;
              before = r.before;
              quiet = (ap ends_turn r.same_call, tt);
              last = r.last;
              tells = ap (λ (z : Event). Some z) (r.same_event ∙ two.event);
              cost_is = r.cost_is;
              fs_are = refl;
              starts = λ how q. cc;
            }) refl
                ((near_behind family laws) i li top ps d.store d'.store r.s3 are ch_d r.like ((law i li).waits_good top imp d' (cd).flat_at (cd).waits)
                (laws.known_store i _ r.s3 _ _ _ _ r.known) ins_d)
                (suspended top imp e a lo d d' r.s3 r.s3 li r.suspends eh eu r.known (omega arith)
                (clear_pokes (plan_of g (strand_at g i)) g.strands (length d.store.memory) a (plan_guards g (strand_at g i))
                (pokes_pass (func_type_at (Base m) imp).results (length d.store.memory) (plan_of g (strand_at g i)) false imp a ef)));
          }

    -- they don't: the unwind's trap ends the program
    trap_stays : (used len : ℕ) (s : Store) (how : End) → Some (trap_note used len s).event ≡ Some (ended how) → (StaysEnd family laws) how
    trap_stays used len s how q = let z : UnwindTrap Unreachable used len ≡ how = cc in subst (StaysEnd family laws) z (λ start. refl)

    overrun_at : (b : Held) → (Rel family laws) i li 0 spare (runs (an_entry e) c' l) b → Known i b → nat_lt (strand_at g i).area.len (Room m st.policy S) ≡ true
        → (MoveNow family laws) i spare k (x1 ∷ trap_note (Fit m st.policy S (strand_at g i).area.len) (strand_at g i).area.len d.store ∷ []) (on (runs (an_entry e) c l)) (on (halts d.store)) b
    overrun_at b rel kn over_len =
        let len = (strand_at g i).area.len in
        let tr : Note = trap_note (Fit m st.policy S len) len d.store in
        let tr' : Note = trap_note (Fit m st.policy S' len) len d'.store in
        let over' : nat_lt len (Room m st.policy S') ≡ true = ap (λ z. nat_lt len (Room m st.policy z)) same_stack ∙ over_len in
        let shown : nn (wd i) (runs (an_entry e) c' l) ≡ goes k (x1' ∷ tr' ∷ []) (halts d'.store) =
        ap (sh (wd i)) ((block_next family laws) i k imp args e c' d' l a os ticks is' eo ef' et)
        ∙ ap (λ (q : Bool). if q then goes k (x1' ∷ tr' ∷ []) (halts d'.store)
        else goes k (x1' ∷ pause_note ticks (Room m st.policy S') d'.store S' ∷ answer_notes a.said (poked d'.store a.pokes))
        (goes_on_told a.said e d' (poked d'.store a.pokes) lo)) over' in
        let up : AllAlike ((NoteUp family laws) ps) (x1 ∷ tr ∷ []) (x1' ∷ tr' ∷ []) =
        (call_up, (record { event = ap (λ z. (trap_note (Fit m st.policy z len) len d.store).event) same_stack; stack = refl; pause = refl; chain = ch_d }, tt)) in
        (simple_move family laws) i li spare k (runs (an_entry e) c l) (runs (an_entry e) c' l) (halts d.store) (halts d'.store) b ps (x1 ∷ tr ∷ [])
        (x1' ∷ tr' ∷ []) are mid rel kn ins allowed shown up
        (chain_halts ps d.store d'.store ch_d) grown (inr (λ how q. trap_stays (Fit m st.policy S' len) len d'.store how q)) (an_end (x1 ∷ []) tr _ refl (refl, tt) refl refl)

  -- ---- every move

  abbrev MoveTurn : (i spare : ℕ) → Strung → Held → Turn Strung Note → Type 0
  MoveTurn i spare a b stops = Unit {0}
  MoveTurn i spare a b (goes k es t) = (MoveNow family laws) i spare k es a t b

  abbrev EveryTurn : ℕ → Turn Strung Note → Type 0
  EveryTurn i stops = Unit {0}
  EveryTurn i (goes k es t) =
      I.Every A B (Go family laws) (Hang family laws) (Near family laws) (Sm family laws) (Kept family laws) (Q family laws) (Calm family laws) (Ok family laws) (dear family laws) (told_by i es)

  moves_now : (i spare k : ℕ) (es : List Note) (a t : Strung) (b : Held) → (Go family laws) i spare a b → (Calm family laws) i a → A.next i a ≡ goes k es t
      → I.Every A B (Go family laws) (Hang family laws) (Near family laws) (Sm family laws) (Kept family laws) (Q family laws) (Calm family laws) (Ok family laws) (dear family laws) (told_by i es)
      → (MoveNow family laws) i spare k es a t b
  moves_now i spare k es _ t _ (going_on a a' b ps li are mid rel kn ins) calm e oks = by_next a ((next_of family laws) i a) mid calm ins e
    where
      by_next : (a : State) → (NextOf family laws) i a → Middle ps a a' → CalmAll g.strands a → InsideAll g.strands (length (store_of a).memory)
          → A.next i (on a) ≡ goes k es t → (MoveNow family laws) i spare k es (on a) t b
      by_next a (n_simple eq pl) mid calm ins e =
          let u = (unlift family laws) (nb (wd i) a) k es t (sym eq ∙ e) in
          let p2 = subst (PlainS family laws) u.1 pl in
          subst (λ z. (MoveNow family laws) i spare k es (on a) z b) (sym u.2) ((plain_move family laws) i spare k li a a' u.0 b ps es are mid rel kn ins calm u.1 p2.0 p2.1 oks)
      by_next _ (n_pauses {e = en} {c = c} {l = l} k2 imp args d x os ticks is eo ef et) mid calm ins e =
          by_room (nat_lt (strand_at g i).area.len (Room m st.policy (stack_of (Base m) d))) refl
        where
          S : List Suspended
          S = stack_of (Base m) d

          by_room : (q : Bool) → nat_lt (strand_at g i).area.len (Room m st.policy (stack_of (Base m) d)) ≡ q → (MoveNow family laws) i spare k es (on (runs (an_entry en) c l)) t b
          by_room q eq = subst (MoveTurn i spare (on (runs (an_entry en) c l)) b) z (by_fit q eq)
            where
              z : goes k2 (call_note imp args d.store (stack_of (Base m) d) (Some ticks) ∷
                  (if q then trap_note (Fit m st.policy (stack_of (Base m) d) (strand_at g i).area.len) (strand_at g i).area.len d.store ∷ []
                  else pause_note ticks (Room m st.policy (stack_of (Base m) d)) d.store (stack_of (Base m) d) ∷ []))
                  (if q then on (halts d.store) else waits (an_entry en) d x (with_outcomes l os)) ≡ goes k es t
              z = sym ((pause_next family laws) i k2 imp args en c d l x os ticks is eo ef et
                  ∙ ap (λ (w : Bool). goes k2 (call_note imp args d.store (stack_of (Base m) d)
                  (Some ticks) ∷ (if w then trap_note (Fit m st.policy (stack_of (Base m) d) (strand_at g i).area.len) (strand_at g i).area.len d.store ∷ []
                  else pause_note ticks (Room m st.policy (stack_of (Base m) d)) d.store (stack_of (Base m) d) ∷ []))
                  (if w then on (halts d.store) else waits (an_entry en) d x (with_outcomes l os))) eq) ∙ e

              ok1 : PauseNumbered m st which (stack_of (Base m) d) (Some ticks)
              ok1 = (subst (EveryTurn i) (sym z) oks).0

              off_ : AllOff (plan_of g (strand_at g i)) ps (runs (an_entry en) c l)
              off_ = all_off (plan_of g (strand_at g i)) g.strands ps (runs (an_entry en) c l) are calm (plan_guards g (strand_at g i))

              sm : AsksSame ps (an_entry en) l k2 imp args d a'
              sm = asks_same (plan_of g (strand_at g i)) ps (an_entry en) l k2 imp args c d a' mid off_ is

              mid2 : Middle ps (runs (an_entry en) c l) (runs (an_entry en) sm.c' l)
              mid2 = subst (λ w. Middle ps (runs (an_entry en) c l) w) sm.is_runs mid

              calm2 : IsCalm (strand_at g i).area (runs (an_entry en) sm.c' l)
              calm2 = calm_over (strand_at g i).area ps (runs (an_entry en) c l) (runs (an_entry en) sm.c' l) mid2 (calm_at g.strands i (runs (an_entry en) c l) li calm)

              rel2 : (Rel family laws) i li 0 spare (runs (an_entry en) sm.c' l) b
              rel2 = subst (λ w. (Rel family laws) i li 0 spare w b) sm.is_runs rel

              by_fit : (q2 : Bool) → nat_lt (strand_at g i).area.len (Room m st.policy (stack_of (Base m) d)) ≡ q2 → MoveTurn i spare (on (runs (an_entry en) c l)) b
                  (goes k2 (call_note imp args d.store (stack_of (Base m) d)
                  (Some ticks) ∷ (if q2 then trap_note (Fit m st.policy (stack_of (Base m) d) (strand_at g i).area.len) (strand_at g i).area.len d.store ∷ []
                  else pause_note ticks (Room m st.policy (stack_of (Base m) d)) d.store (stack_of (Base m) d) ∷ []))
                  (if q2 then on (halts d.store) else waits (an_entry en) d x (with_outcomes l os)))
              by_fit true eq2 =
                  overrun_at i li spare k2 imp args en c d sm.c' sm.d' l x os ticks ps are is sm.asks_too eo ef et mid2 sm.here sm.under sm.chain ins calm2 ok1 b rel2 kn eq2
              by_fit false eq2 =
                  let rr = runs_rel i li spare (an_entry en) sm.c' l (runs (an_entry en) sm.c' l) b rel2 refl in
                  subst (λ w. (MoveNow family laws) i spare k2
                  (call_note imp args d.store (stack_of (Base m) d) (Some ticks) ∷ pause_note ticks (Room m st.policy (stack_of (Base m) d)) d.store (stack_of (Base m) d) ∷ [])
                  (on (runs (an_entry en) c l)) (waits (an_entry en) d x (with_outcomes l os)) w) (sym rr.b_is)
                  (pause_at i li spare k2 imp args en c d sm.c' sm.d' l x os ticks ps are is sm.asks_too eo ef et mid2 sm.here sm.under sm.chain ins calm2 ok1 rr.bc rr.top rr.x rr.within
                  rr.is_top rr.lk rr.lf
                  (subst (λ w. (Rel family laws) i li 0 spare (runs (an_entry en) sm.c' l) w) rr.b_is rel2) (subst (Known i) rr.b_is kn)
                  (ltb-false (strand_at g i).area.len (Room m st.policy (stack_of (Base m) d)) eq2))

  sees_now : (i spare : ℕ) (a : Strung) (b : Held) → (Go family laws) i spare a b → (Sm family laws) (A.store a) (B.store b)
  sees_now i spare _ _ (going_on a a' b ps li are mid rel kn ins) =
      (see_up family laws) i li ps (store_of a) (store_of a') (store_held b) are (middle_chain ps a a' mid) ((sees_rel family laws) i li 0 spare a' b rel)

  -- ALL THAT STRANDS OWE
  pub strand_law : I.StrandLaw A B (Go family laws) (Hang family laws) (Near family laws) (Sm family laws) (Kept family laws) (Q family laws) (Calm family laws) (Ok family laws) (dear family laws)
  strand_law = record {
    same_event = λ i x y q. q.event;
    sees = sees_now;
    stop = λ i spare a b go calm e q. (stops_now family laws) i spare a b go calm e q;
    slow = λ i spare k es a t b go calm e q le. (slow_now family laws) i spare k es a t b go calm e q le;
    move = λ i spare k es a t b go calm e oks. moves_now i spare k es a t b go calm e oks;
    wake = λ i c a b s s' h n. (wakes_now family laws) i c a b s s' h n;
    hang_on = λ i c a b s s' h kp. (hangs_on family laws) i c a b s s' h kp;
    dear_on = Rattle.headline.proofs.FromSimulation.dear_on m;
  }

  -- THE JOINT SIMULATION
  pub strands_in_step : Follows (Woven Strung) (Woven Held) ToldBy ToldBy (weave A) (weave B)
      (I.Joint A B (Go family laws) (Hang family laws) (Near family laws) (Sm family laws) (Kept family laws) (Q family laws) (Calm family laws) (Ok family laws) (dear family laws))
      (I.QT A B (Go family laws) (Hang family laws) (Near family laws) (Sm family laws) (Kept family laws) (Q family laws) (Calm family laws) (Ok family laws) (dear family laws))
      (I.dear_told A B (Go family laws) (Hang family laws) (Near family laws) (Sm family laws) (Kept family laws) (Q family laws) (Calm family laws) (Ok family laws) (dear family laws))
      (I.SeesW A B (Go family laws) (Hang family laws) (Near family laws) (Sm family laws) (Kept family laws) (Q family laws) (Calm family laws) (Ok family laws) (dear family laws))
      (I.SeesAt A B (Go family laws) (Hang family laws) (Near family laws) (Sm family laws) (Kept family laws) (Q family laws) (Calm family laws) (Ok family laws) (dear family laws))
  strands_in_step =
      I.in_step A B (Go family laws) (Hang family laws) (Near family laws) (Sm family laws) (Kept family laws) (Q family laws) (Calm family laws) (Ok family laws) (dear family laws) strand_law
      (wake_all A B (Go family laws) (Hang family laws) (Near family laws) (Sm family laws) (Kept family laws) (Q family laws) (Calm family laws) (Ok family laws) (dear family laws) strand_law)
