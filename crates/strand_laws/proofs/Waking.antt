-- A strand's turn begins in both: it is answered behind a pause, or its first entry is called.
use Rattle.run_theory.proofs.TestedPokes.{first_fits, fits_inside, passes_area}
use Rattle.headline.specs.FlatLaw.{FlatLaw}
use Rattle.world_model.specs.World.{ends_turn}
use Rattle.wa_model.specs.declared.answers.Said.{Said}
use Rattle.image_laws.proofs.Restored.{over_store}
use Rattle.headline.specs.Told.{answer_notes}
use Rattle.headline.specs.World.{World, WorldFits}
use Rattle.headline.specs.WrittenRuns.{WrittenLaw}
use Rattle.headline.proofs.Asks.{by_said}
use Rattle.headline.proofs.FlatStretches.{Sm as SameIn, near_same}
use Rattle.headline.proofs.Reductions.{Allowed, LeftFits, r_begins, r_between, r_halts, r_runs}
use Rattle.headline.proofs.StoresTogether.{store_laws}
use Rattle.headline.proofs.ToldMoves.{Here, here, nothing, so_far, told_alike, told_leads}
use Rattle.std.proofs.Common.{Bool, List, None, Option, [], ap, arith, false, length, refl, subst, sym, ℕ, ◌*◌, ◌++◌, ◌<◌, ◌∙◌, ◌∷◌, ◌≡◌, ◌≤◌}
use Rattle.std.specs.Option.{option_to_list}
use Rattle.run_theory.proofs.Follow.{Alike as AllAlike}
use Rattle.wa_model.specs.Blocking.{Left, Note, State, Task, an_entry, bad_poke, between, done_notes, note, on_to, poked, resumed, runs, store_of}
use Rattle.wa_model.specs.Configuration.{Activation, Configuration}
use Rattle.wa_model.specs.Expected.{SameEnd}
use Rattle.wa_model.specs.Machine.{Ran, run, stays}
use Rattle.wa_model.specs.Outside.{Answer, answered, ended, Call}
use Rattle.wa_model.specs.Plan.{Entry}
use Rattle.wa_model.specs.Protocol.{Held, answer_note, busy, exports_of, free, held_on, is_running, over, store_held}
use Rattle.wa_model.specs.Store.{Store, with_memory}
use Rattle.wa_model.specs.declared.answers.Said.TheVariants as S
use Rattle.wa_model.specs.declared.events.End.TheVariants.{Done, Trapped}
use Rattle.wa_types.specs.declared.values.Trap.TheVariants.{Import}
use Rattle.wa_types.specs.declared.values.Value.{Value}
use Rattle.wa_types.specs.Base.{Base}
use Rattle.wa_types.specs.Modules.{func_type_at}
use Rattle.wa_types.specs.Pausing.{Settings}
use Rattle.wa_types.specs.Runtime.{global_space}
use Rattle.wa_types.specs.Syntax.{Module}
use Rattle.strand_laws.proofs.Apart.{Gap}
use Rattle.strand_laws.proofs.Between.{AreGaps, Chain, InsideAll, middle_chain}
use Rattle.strand_laws.proofs.Clear.{ClearPokes, chain_between, chain_resumed}
use Rattle.strand_laws.proofs.InStep as I
use Rattle.strand_laws.proofs.Middle.{Middle}
use Rattle.strand_laws.proofs.Resumed.{Suspends, Woken, WokenTraps, rewound_from, traps_again, wakes_again}
use Rattle.strand_laws.proofs.StartFirst.{answers_later}
use Rattle.strand_laws.specs.Strands.{StrandProgram, Strung, held_loom, held_starts, on, plan_of, strand_at, strung_loom, waits, with_source, told_on}
use Rattle.strand_laws.specs.Woven.{Loom, ends_strand}
use Rattle.strand_laws.proofs.EachWorld.{Calm, Family, FamilyLaws, Go, Hang, Kept, Near, NoteUp, Ok, Q, Rel, Sm, alike_up, both_stores, dear, fresh, going_on, inside_more, join_up, keeps_others, near_behind, see_up, split_up, state_zero, suspended, to_both, world_at}

module _ (family : Family) (laws : FamilyLaws family) where
  abbrev wd : ℕ → World
  wd = world_at family

  abbrev m : Module
  m = family.original

  abbrev st : Settings
  st = family.settings

  abbrev which : List Bool
  which = family.which

  abbrev written : Module
  written = family.written

  abbrev g : StrandProgram
  g = family.program

  abbrev count : ℕ
  count = length family.program.strands

  abbrev L : ℕ → (top spare : ℕ) → Configuration → Configuration → Type 0
  L = family.links

  abbrev W : ℕ → ℕ → ℕ → Configuration → Configuration → Type 0
  W = family.waiting

  abbrev G : Store → Type 0
  G = family.good

  abbrev Known : ℕ → Held → Type 0
  Known = family.known

  abbrev A : Loom Strung
  A = strung_loom family.settings (with_source family.program family.original)

  abbrev B : Loom Held
  B = held_loom (with_source family.program family.written)

  abbrev ft : (i : ℕ) → i < length family.program.strands → WorldFits (world_at family i)
  ft = laws.fits

  abbrev law : (i : ℕ) → i < length family.program.strands → FlatLaw (world_at family i) (λ c d. c ≡ d) (family.links i) (family.waiting i) family.good
  law = laws.flat

  abbrev wl : (i : ℕ) → i < length family.program.strands → WrittenLaw (world_at family i) (family.known i)
  wl = laws.runs

  abbrev restored : (i : ℕ) → i < length family.program.strands → (top imp : ℕ) (d f : Configuration) (t : Store) → family.waiting i top imp d f → family.good t → t.table ≡ d.store.table
      → family.waiting i top imp (over_store d t) (over_store f t)
  restored = laws.restored

  -- ---- a strand's turn begins

  abbrev pub WakesNow : ℕ → ℕ → Store → Store → Ran Strung Note → Ran Held Note → Type 0
  WakesNow = I.Wakes A B (Go family laws) (Hang family laws) (Near family laws) (Sm family laws) (Kept family laws) (Q family laws) (Calm family laws) (Ok family laws) (dear family laws)

  same_kept : (j : ℕ) (s : Store) → (Kept family laws) j s s
  same_kept j s = record { bytes = λ a n lo hi. refl; grown = omega arith }

  pub nothing_allowed : (i : ℕ) (a : State) → Allowed (wd i) 0 a
  nothing_allowed i a = record { calm = λ j es t l lt. let z : ⊥ = omega arith in absurd z; numbered = λ j k es fs t u l e le. let z : ⊥ = omega arith in absurd z }

  inside_too : (s s' : Store) → (Near family laws) s s' → InsideAll g.strands (length s.memory)
  inside_too s s' nr = let sm = nr.same in let e = sm.size in inside_more g.strands (length s'.memory) (length s.memory) (omega arith) nr.inside

  wakes_fresh : (i c : ℕ) (li : i < count) (s s' : Store) (l : Left) → LeftFits (wd i) l → (Near family laws) s s'
      → (es : List Entry) → l.entries ≡ es
      → WakesNow i c s s' (record { events = done_notes s es; last = on (on_to s l es) }) (record { events = done_notes s' es; last = held_on s' l es })
  wakes_fresh i c li s s' l lf nr [] ee =
      I.wakes_up (note (ended Done) s) (note (ended Done) s') Done refl refl refl
      (record { event = refl; ends = nr.same; image = tt; kept = λ at e. cc; state = (state_zero family laws) i li s s' nr }) refl nr (λ j ne. same_kept j s')
  wakes_fresh i c li s s' l lf nr (e ∷ es) ee =
      let ch = (to_both family laws) s s' nr in
      let t : Store = with_memory s s'.memory in
      I.wakes_on tt refl 0 0 [] (free s' l) stays tt tt (omega arith)
      (going_on (between s l) (between t l) (free s' l) ch.gaps li ch.are (chain_between ch.gaps s t l ch.chain)
      (r_between nr.good ((both_stores family laws) i li 0 s s' nr) lf (nothing_allowed i (between t l)))
      (laws.known_free i li s' l lf e es ee nr.known) (inside_too s s' nr))
      (λ q le. let z : q ≡ 0 = omega arith in subst
      (λ k. I.PartS A B (Go family laws) (Hang family laws) (Near family laws) (Sm family laws) (Kept family laws) (Q family laws) (Calm family laws) (Ok family laws) (dear family laws) i s []
      (run (B.next i) k (free s' l))) (sym z) (I.nothing_s refl nr.same))
      (λ j ne. same_kept j s')

  -- both see the same
  pub sees_rel : (i : ℕ) (li : i < count) (n spare : ℕ) (a : State) (b : Held) → (Rel family laws) i li n spare a b → SameEnd (global_space m) (strand_at g i).area (store_of a) (store_held b)
  sees_rel i li n spare _ _ (r_between {s = s} {s' = s'} good like lf al) = (store_laws (wd i)).same_end 0 s s' like
  sees_rel i li n spare _ _ (r_begins {s = s} {s' = s'} good like lf lw al) = (store_laws (wd i)).same_end 0 s s' like
  sees_rel i li n spare _ _ (r_runs {c = c} {b = b} top x within is_top lk lf al) =
      subst (λ s. SameIn (wd i) s b.store) ((law i li).store top x c lk.flat_at lk.link) (near_same (wd i) (store_laws (wd i)) top lk.flat_at b lk.near)
  sees_rel i li n spare _ _ (r_halts h) = h

  part_up : (i : ℕ) → i < count → (before : Option Call) (ps : List Gap) (s t : Store) (es es' : List Note) (k j : ℕ) (r : Ran Held Note) → AreGaps g.strands ps → Chain ps s t
      → AllAlike ((NoteUp family laws) ps) es es'
      → Here m st which written (exports_of written) (plan_of g (strand_at g i)) before t es' k j r
      → I.PartS A B (Go family laws) (Hang family laws) (Near family laws) (Sm family laws) (Kept family laws) (Q family laws) (Calm family laws) (Ok family laws) (dear family laws) i s es r
  part_up i li before ps s t es es' k j r are ch al (nothing h again) = I.nothing_s h.0 ((see_up family laws) i li ps s t (store_held r.last) are ch h.1)
  part_up i li before ps s t es es' k j r are ch al (so_far es1' es2' y ge split al2 sm again) =
      let r0 = (split_up family laws) ps es es1' y es2' (subst (AllAlike ((NoteUp family laws) ps) es) split al) in
      let u = r0.here in
      I.so_far_s r0.es1 r0.es2 r0.x r0.es_are ((alike_up family laws) i li ps (r0.es1 ++ r0.x ∷ []) (es1' ++ y ∷ []) r.events are ((join_up family laws) ps r0.es1 es1' r0.x y r0.first r0.here) al2)
      ((see_up family laws) i li ps r0.x.store y.store (store_held r.last) are u.chain sm)

  pub poked_size : (s : Store) (areas : List Rattle.wa_model.specs.declared.answers.Area.Area) (qs : List Rattle.wa_model.specs.Outside.Poke) → bad_poke (length s.memory) areas qs ≡ None
      → length (poked s qs).memory ≡ length s.memory
  poked_size s areas [] e = refl
  poked_size s areas (q ∷ qs) e =
      let h = first_fits (length s.memory) areas q qs e in
      let le = fits_inside (length s.memory) areas q h.0 in
      let n : length (Rattle.wa_types.specs.Memory.overwritten s.memory q.at q.bytes) ≡ length s.memory = Rattle.wa_types.proofs.MemoryLemmas.length-overwritten s.memory q.at q.bytes le in
      poked_size (with_memory s (Rattle.wa_types.specs.Memory.overwritten s.memory q.at q.bytes)) areas qs (subst (λ z. bad_poke z areas qs ≡ None) (sym n) h.1) ∙ n

  -- a call is answered so as its turn begins
  abbrev WakesBy : (i c : ℕ) (s s' : Store) (imp : ℕ) (e : Entry) (a : Answer) (lo : Left) (d : Configuration) (at : Store) → Said → Type 0
  WakesBy i c s s' imp e a lo d at q =
      WakesNow i c s s' (record { events = answer_notes q (poked s a.pokes); last = on (told_on q (an_entry e) d (poked s a.pokes) lo) }) (B.wakes s' (rewound_from (wd i) e imp a lo at))

  wakes_suspended : (i c : ℕ) (s s' : Store) (top imp : ℕ) (e : Entry) (a : Answer) (lo : Left) (d d' : Configuration) (at : Store) (li : i < count)
      → Suspends (wd i) (ft i li) (store_laws (wd i)) (L i) (W i) G (law i li) top imp e a lo d' c s' → d'.here ≡ d.here → d'.under ≡ d.under
      → Known i (rewound_from (wd i) e imp a lo at) → length at.memory ≤ length s'.memory → ClearPokes g.strands a.pokes
      → (Near family laws) s s' → WakesNow i c s s' (A.wakes s (waits (an_entry e) d a lo)) (B.wakes s' (rewound_from (wd i) e imp a lo at))
  wakes_suspended i c s s' top imp e a lo d d' at li sp eh eu kn longer cp nr =
      by_said a.said
      (λ v told. subst (WakesBy i c s s' imp e a lo d at) (sym told) (with_value v told))
      (λ told. subst (WakesBy i c s s' imp e a lo d at) (sym told) (with_trap told))
    where
      -- the import traps: the strand ends, in the written module behind a stretch
      with_trap : a.said ≡ S.Trap → WakesBy i c s s' imp e a lo d at S.Trap
      with_trap told =
          let ch = (to_both family laws) s s' nr in
          let t : Store = with_memory s s'.memory in
          let b4 : Held = rewound_from (wd i) e imp a lo s' in
          let k4 : Known i b4 = laws.known_wakes i li (rewound_from (wd i) e imp a lo at) s' kn nr.known longer in
          let wk : WokenTraps (wd i) (ft i li) (store_laws (wd i)) (L i) (W i) G (law i li) (Known i) (wl i li) (restored i li) top imp e a lo c t s' =
          traps_again (wd i) (ft i li) (store_laws (wd i)) (L i) (W i) G (law i li) (Known i) (wl i li) (restored i li) top imp e a lo d' c s' t sp
          ((both_stores family laws) i li top s s' nr) nr.good k4 told in
          let sm = nr.same in
          let bad : bad_poke (length s.memory) ((strand_at g i).area ∷ []) a.pokes ≡ None = subst (λ n. bad_poke n ((strand_at g i).area ∷ []) a.pokes ≡ None) (sym sm.size)
          (passes_area (func_type_at (Base m) imp).results (length s'.memory) (plan_of g (strand_at g i)) false imp a sp.passes) in
          let pc : Chain ch.gaps (poked s a.pokes) (poked t a.pokes) =
          middle_chain ch.gaps _ _ (chain_resumed g.strands ch.gaps s t (an_entry e) d (strand_at g i).area a None lo ch.are ch.chain bad cp) in
          let x : Note = note (ended (Trapped Import)) (poked s a.pokes) in
          let ys : List Note = note (answered S.Trap) (poked s a.pokes) ∷ [] in
          let yt : Note = note (ended (Trapped Import)) (poked t a.pokes) in
          let up : AllAlike ((NoteUp family laws) ch.gaps) (ys ++ x ∷ []) (note (answered S.Trap) (poked t a.pokes) ∷ yt ∷ []) =
          (record { event = refl; stack = refl; pause = refl; chain = pc }, (record { event = refl; stack = refl; pause = refl; chain = pc }, tt)) in
          let psize : length (poked s a.pokes).memory ≡ length s.memory = poked_size s ((strand_at g i).area ∷ []) a.pokes bad in
          let lk = wk.like in
          let end0 : SameEnd (global_space m) (strand_at g i).area t s' = (store_laws (wd i)).same_end top t s' ((both_stores family laws) i li top s s' nr) in
          let end2 : SameEnd (global_space m) (strand_at g i).area (poked t a.pokes) (poked wk.store a.pokes) = (store_laws (wd i)).same_end top (poked t a.pokes) (poked wk.store a.pokes) lk in
          let later : held_starts wk.at ≡ false = answers_later written (exports_of written) (plan_of g (strand_at g i)) wk.at (over (poked wk.store a.pokes)) 0
          (answer_note S.Trap (poked wk.store a.pokes) s') (note (ended (Trapped Import)) (poked wk.store a.pokes) ∷ []) S.Trap wk.traps refl in
          let sl = wk.silent in
          let told_there : List Note = answer_note S.Trap (poked wk.store a.pokes) s' ∷ note (ended (Trapped Import)) (poked wk.store a.pokes) ∷ [] in
          let to : Held = over (poked wk.store a.pokes) in
          I.wakes_end x (Trapped Import) ys refl refl refl refl wk.cost 0
          told_there wk.at to sl.leads wk.traps refl
          (ap (λ q. ends_strand q (Trapped Import)) later)
          ((alike_up family laws) i li ch.gaps (ys ++ x ∷ []) (note (answered S.Trap) (poked t a.pokes) ∷ yt ∷ []) told_there ch.are up wk.alike)
          wk.few
          (λ q le. let h = sl.each q (omega arith) in (h.0, (see_up family laws) i li ch.gaps s t (store_held (run (B.next i) q b4).last) ch.are ch.chain h.1))
          (λ leaves. (near_behind family laws) i li top ch.gaps (poked s a.pokes) (poked t a.pokes) (poked wk.store a.pokes) ch.are pc lk wk.good
          (laws.known_ends i li wk.at to 0 told_there (Trapped Import) wk.known wk.traps refl)
          (inside_more g.strands (length s.memory) (length (poked s a.pokes).memory) (omega arith) (inside_too s s' nr)))
          (λ j ne. (keeps_others family laws) i li ch.gaps s t (poked s a.pokes) (poked t a.pokes) s' (poked wk.store a.pokes) ch.are ch.chain pc end0 end2 (omega arith) j ne)

      -- a value was said: it goes on
      with_value : (v : Option Value) → a.said ≡ S.Value v → WakesBy i c s s' imp e a lo d at (S.Value v)
      with_value v told =
          let ch = (to_both family laws) s s' nr in
          let t : Store = with_memory s s'.memory in
          let b4 : Held = rewound_from (wd i) e imp a lo s' in
          let k4 : Known i b4 = laws.known_wakes i li (rewound_from (wd i) e imp a lo at) s' kn nr.known longer in
          let wk : Woken (wd i) (ft i li) (store_laws (wd i)) (L i) (W i) G (law i li) (Known i) (wl i li) (restored i li) top imp e a v lo d' c t s' =
          wakes_again (wd i) (ft i li) (store_laws (wd i)) (L i) (W i) G (law i li) (Known i) (wl i li) (restored i li) top imp e a lo d' c s' t sp
          ((both_stores family laws) i li top s s' nr) nr.good k4 v told in
          let x : Note = note (answered (S.Value v)) (poked s a.pokes) in
          let xt : Note = note (answered (S.Value v)) (poked t a.pokes) in
          let to : Held = busy (is_running (an_entry e)) wk.to lo in
          let task : Task = an_entry e in
          let sm = nr.same in
          let bad : bad_poke (length s.memory) ((strand_at g i).area ∷ []) a.pokes ≡ None = subst (λ n. bad_poke n ((strand_at g i).area ∷ []) a.pokes ≡ None) (sym sm.size)
          (passes_area (func_type_at (Base m) imp).results (length s'.memory) (plan_of g (strand_at g i)) false imp a sp.passes) in
          let same_d : resumed d' (poked t a.pokes) (option_to_list v) ≡ resumed d (poked t a.pokes) (option_to_list v) =
          ap (λ (z : Activation). resumed (record { store = d.store; here = z; under = d'.under }) (poked t a.pokes) (option_to_list v)) eh
          ∙ ap (λ (z : List Activation). resumed (record { store = d.store; here = d.here; under = z }) (poked t a.pokes) (option_to_list v)) eu in
          let mid : Middle ch.gaps (runs task (resumed d (poked s a.pokes) (option_to_list v)) lo) (runs task (resumed d (poked t a.pokes) (option_to_list v)) lo) =
          chain_resumed g.strands ch.gaps s t task d (strand_at g i).area a v lo ch.are ch.chain bad cp in
          let mid2 : Middle ch.gaps (runs task (resumed d (poked s a.pokes) (option_to_list v)) lo) (runs task (resumed d' (poked t a.pokes) (option_to_list v)) lo) =
          subst (λ z. Middle ch.gaps (runs task (resumed d (poked s a.pokes) (option_to_list v)) lo) (runs task z lo)) (sym same_d) mid in
          let pc : Chain ch.gaps (poked s a.pokes) (poked t a.pokes) = middle_chain ch.gaps _ _ mid in
          let up : AllAlike ((NoteUp family laws) ch.gaps) (x ∷ []) (xt ∷ []) = (record { event = refl; stack = refl; pause = refl; chain = pc }, tt) in
          let psize : length (poked s a.pokes).memory ≡ length s.memory = poked_size s ((strand_at g i).area ∷ []) a.pokes bad in
          let end0 : SameEnd (global_space m) (strand_at g i).area t s' = (store_laws (wd i)).same_end top t s' ((both_stores family laws) i li top s s' nr) in
          let end2 : SameEnd (global_space m) (strand_at g i).area (poked t a.pokes) (store_held to) = sees_rel i li 0 (10 * wk.left) _ _ wk.on in
          I.wakes_on (refl, tt) refl wk.cost (10 * wk.left) (wk.y ∷ []) to
          (told_leads m st which written (exports_of written) (plan_of g (strand_at g i)) t (xt ∷ []) (wk.y ∷ []) b4 to wk.cost wk.tells)
          (ap ends_turn wk.same_event, tt)
          ((alike_up family laws) i li ch.gaps (x ∷ []) (xt ∷ []) (wk.y ∷ []) ch.are up
          (told_alike m st which written (exports_of written) (plan_of g (strand_at g i)) t (xt ∷ []) (wk.y ∷ []) b4 to wk.cost wk.tells))
          wk.few
          (going_on (runs task (resumed d (poked s a.pokes) (option_to_list v)) lo) (runs task (resumed d' (poked t a.pokes) (option_to_list v)) lo) to ch.gaps li ch.are mid2 wk.on wk.known
          (inside_more g.strands (length s.memory) (length (poked s a.pokes).memory) (omega arith) (inside_too s s' nr)))
          (λ q le. part_up i li wk.told_call ch.gaps s t (x ∷ []) (xt ∷ []) 0 q (run (B.next i) q b4) ch.are ch.chain up
          (here m st which written (exports_of written) (plan_of g (strand_at g i)) wk.told_call t (xt ∷ []) (wk.y ∷ []) b4 to wk.cost wk.tells 0 wk.late wk.calls q le))
          (λ j ne. (keeps_others family laws) i li ch.gaps s t (poked s a.pokes) (poked t a.pokes) s' (store_held to) ch.are ch.chain pc end0 end2 (omega arith) j ne)

  -- THE SWITCH, for these strands
  pub wakes_now : (i c : ℕ) (a : Strung) (b : Held) (s s' : Store) → (Hang family laws) i c a b s' → (Near family laws) s s' → WakesNow i c s s' (A.wakes s a) (B.wakes s' b)
  wakes_now i c _ _ s s' (fresh old old' _ l li lf) nr = wakes_fresh i c li s s' l lf nr l.entries refl
  wakes_now i c _ _ s s' (suspended top imp e a lo d d' at _ li sp eh eu kn more cp) nr = wakes_suspended i c s s' top imp e a lo d d' at li sp eh eu kn more cp nr
