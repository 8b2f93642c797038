-- What comes next of a strand, and what is owed where it stops, or where its move can't be paid.
use Rattle.headline.specs.FlatLaw.{FlatLaw}
use Rattle.headline.proofs.Pauses.{told_moves}
use Rattle.headline.specs.Told.{answer_notes, goes_on_told}
use Rattle.headline.specs.World.{World, WorldFits}
use Rattle.headline.specs.WrittenRuns.{WrittenLaw}
use Rattle.headline.proofs.Reductions.{nb, sh}
use Rattle.headline.proofs.Simulation.{simulates}
use Rattle.headline.proofs.StoresTogether.{store_laws}
use Rattle.std.proofs.Common.{Bool, List, None, Option, Some, [], ap, arith, false, length, refl, subst, suc, sym, true, ℕ, ⊎_elim, inl, ◌<◌, ◌∙◌, ◌∷◌, ◌≡◌, ◌≤◌}
use Rattle.std.proofs.lemmas.Bool.{cases_lt}
use Rattle.std.specs.Prelude.{if◌then◌else◌, nat_lt}
use Rattle.run_theory.proofs.Follow.{Alike as AllAlike}
use Rattle.wa_model.specs.Blocking.{Left, Note, State, an_entry, asked, blocking, by_step, call_note, fault_of, go_on, inside, pause_of, tested, with_outcomes, halts, note, poked, runs, store_of}
use Rattle.wa_model.specs.Configuration.{Configuration, stack_of}
use Rattle.wa_model.specs.Expected.{pause_note}
use Rattle.wa_model.specs.Machine.{Turn, goes, run, stops}
use Rattle.wa_model.specs.Outside.{Answer, ended}
use Rattle.wa_model.specs.Plan.{Entry, Outcome, given}
use Rattle.wa_model.specs.Protocol.{Held, store_held}
use Rattle.wa_model.specs.Step.{asks, step}
use Rattle.wa_model.specs.Store.{Store}
use Rattle.wa_model.specs.declared.events.End.TheVariants.{Trapped}
use Rattle.wa_types.specs.Base.{Base}
use Rattle.wa_types.specs.Frames.{Fit, Room}
use Rattle.wa_types.specs.Modules.{func_type_at}
use Rattle.wa_types.specs.Pausing.{Settings}
use Rattle.wa_types.specs.Syntax.{Module}
use Rattle.wa_types.specs.declared.values.Value.{Value}
use Rattle.strand_laws.proofs.Apart.{Gap}
use Rattle.strand_laws.proofs.Between.{AreGaps, InsideAll, memory_grows, middle_chain}
use Rattle.strand_laws.proofs.Clear.{CalmAll, all_off, calm_at, calm_over, plan_guards}
use Rattle.strand_laws.proofs.InStep as I
use Rattle.strand_laws.proofs.Middle.{Middle, moves_same, stops_same}
use Rattle.strand_laws.proofs.MoveKinds.{Kind, PlainTurn, Shape, k_pauses, k_plain, k_traps, kind_of, FirstPlain}
use Rattle.strand_laws.specs.Strands.{StrandProgram, Strung, held_loom, lifted, on, plan_of, space_of, strand_at, strung_asked, strung_loom, strung_next, strung_pauses, strung_tested, with_source}
use Rattle.strand_laws.specs.Woven.{Loom}
use Rattle.strand_laws.proofs.EachWorld.{Calm, Family, FamilyLaws, Go, Hang, Kept, Near, NoteUp, Ok, Q, Rel, Sm, dear, going_on, halt_law, see_up, world_at}
use Rattle.strand_laws.proofs.Waking.{sees_rel}
use Rattle.strand_laws.proofs.Moving.{Ending, MoveNow, allowed_once, allowed_stop, an_end, no_end, notes_up, numbered_up, raise, simple_move}

module _ (family : Family) (laws : FamilyLaws family) where
  abbrev wd : ℕ → World
  wd = world_at family

  abbrev m : Module
  m = family.original

  abbrev st : Settings
  st = family.settings

  abbrev g : StrandProgram
  g = family.program

  abbrev count : ℕ
  count = length family.program.strands

  abbrev L : ℕ → (top spare : ℕ) → Configuration → Configuration → Type 0
  L = family.links

  abbrev W : ℕ → ℕ → ℕ → Configuration → Configuration → Type 0
  W = family.waiting

  abbrev G : Store → Type 0
  G = family.good

  abbrev Known : ℕ → Held → Type 0
  Known = family.known

  abbrev A : Loom Strung
  A = strung_loom family.settings (with_source family.program family.original)

  abbrev B : Loom Held
  B = held_loom (with_source family.program family.written)

  abbrev ft : (i : ℕ) → i < length family.program.strands → WorldFits (world_at family i)
  ft = laws.fits

  abbrev law : (i : ℕ) → i < length family.program.strands → FlatLaw (world_at family i) (λ c d. c ≡ d) (family.links i) (family.waiting i) family.good
  law = laws.flat

  abbrev wl : (i : ℕ) → i < length family.program.strands → WrittenLaw (world_at family i) (family.known i)
  wl = laws.runs

  -- ---- what comes next of a strand

  abbrev pub PlainS : Turn State Note → Type 0
  PlainS stops = Unit {0}
  PlainS (goes k es t) = FirstPlain es × (Ending family laws) es t

  plain_s : (o : Turn State Note) → PlainTurn o → PlainS o
  plain_s stops h = tt
  plain_s (goes k es t) h = (h.0, by_shape h.1)
    where
      by_shape : Shape es t → (Ending family laws) es t
      by_shape (Rattle.strand_laws.proofs.MoveKinds.quiet q) = no_end q
      by_shape (Rattle.strand_laws.proofs.MoveKinds.ends_with es1 x how ee q ex at) = an_end es1 x how ee q ex (ap store_of at)

  pub data NextOf (i : ℕ) : State → Type 0 where
    n_simple : {a : State} → A.next i (on a) ≡ lifted (nb (wd i) a) → PlainS (nb (wd i) a) → NextOf i a
    n_pauses : {e : Entry} {c : Configuration} {l : Left} → (k imp : ℕ) → (args : List Value) → (d : Configuration) → (a : Answer) → (os : List Outcome) → (ticks : ℕ)
        → step (Base m) c ≡ asks k imp args d
        → l.outcomes ≡ given a ∷ os → fault_of (func_type_at (Base m) imp).results (length d.store.memory) (plan_of g (strand_at g i)) false imp a ≡ None → pause_of a.ticks ≡ Some ticks
        → NextOf i (runs (an_entry e) c l)

  pub next_of : (i : ℕ) (a : State) → NextOf i a
  next_of i a = by_kind a (kind_of (Base m) (plan_of g (strand_at g i)) (space_of st m (strand_at g i)) a)
    where
      by_kind : (a : State) → Kind (Base m) (plan_of g (strand_at g i)) (space_of st m (strand_at g i)) a → NextOf i a
      by_kind _ (k_traps {task = task} {c = c} {l = l} k t s e) =
          n_simple (ap (strung_next (Base m) (plan_of g (strand_at g i)) (space_of st m (strand_at g i)) (blocking (Base m) (plan_of g (strand_at g i)) (runs task c l)) task l) e)
          (subst (λ o. PlainS (by_step (Base m) (plan_of g (strand_at g i)) task l o)) (sym e) (refl, an_end [] (note (ended (Trapped t)) s) (Trapped t) refl tt refl refl))
      by_kind _ (k_pauses k imp args d x os ticks e eo ef et) = n_pauses k imp args d x os ticks e eo ef et
      by_kind a (k_plain pl eq) = n_simple eq (plain_s (nb (wd i) a) pl)

  pub unlift : (o : Turn State Note) (k : ℕ) (es : List Note) (t : Strung) → lifted o ≡ goes k es t → (t1 : State) × (o ≡ goes k es t1) × (t ≡ on t1)
  unlift stops k es t e = cc
  unlift (goes k1 es1 t1) k es t e =
      let e1 : k1 ≡ k = cc in
      let e2 : es1 ≡ es = cc in
      let e3 : on t1 ≡ t = cc in
      (t1, ap (λ z. goes z es1 t1) e1 ∙ ap (λ z. goes k z t1) e2, sym e3)

  unlift_stops : (o : Turn State Note) → lifted o ≡ stops → o ≡ stops
  unlift_stops stops e = refl
  unlift_stops (goes k1 es1 t1) e = cc

  shown_plain : (i k : ℕ) (es : List Note) (t : State) → FirstPlain es → sh (wd i) (goes k es t) ≡ goes k es t
  shown_plain i k [] t h = refl
  shown_plain i k (x ∷ xs) t h =
      ap (Rattle.run_theory.proofs.ShownRuns.pause_shown (Room m st.policy) (λ stack. Fit m st.policy stack (strand_at g i).area.len) (strand_at g i).area.len k x xs t) h

  shown_any : (i k : ℕ) (es : List Note) (t : State) → (es2 : List Note) × (t2 : State) × (sh (wd i) (goes k es t) ≡ goes k es2 t2)
  shown_any i k [] t = ([], t, refl)
  shown_any i k (x ∷ xs) t = by_pause x.pause
    where
      by_room : (ticks : ℕ) (b : Bool) → (es2 : List Note) × (t2 : State)
          × ((if b then goes k (x ∷ Rattle.wa_model.specs.Expected.trap_note (Fit m st.policy x.stack (strand_at g i).area.len) (strand_at g i).area.len x.store ∷ []) (halts x.store)
          else goes k (x ∷ pause_note ticks (Room m st.policy x.stack) x.store x.stack ∷ xs) t) ≡ goes k es2 t2)
      by_room ticks true = (_, _, refl)
      by_room ticks false = (_, _, refl)

      by_pause : (o : Option ℕ) → (es2 : List Note) × (t2 : State)
          × (Rattle.run_theory.proofs.ShownRuns.pause_shown (Room m st.policy) (λ stack. Fit m st.policy stack (strand_at g i).area.len) (strand_at g i).area.len k x xs t o ≡ goes k es2 t2)
      by_pause None = (x ∷ xs, t, refl)
      by_pause (Some ticks) = by_room ticks (nat_lt (strand_at g i).area.len (Room m st.policy x.stack))

  first_up : (ps : List Gap) (es es' : List Note) → AllAlike ((NoteUp family laws) ps) es es' → FirstPlain es → FirstPlain es'
  first_up ps [] [] u h = tt
  first_up ps [] (x' ∷ es') u h = absurd u
  first_up ps (x ∷ es) [] u h = absurd u
  first_up ps (x ∷ es) (x' ∷ es') u h = let v = u.0 in v.pause ∙ h

  -- a pause of the original's strand, and the same of the machine that goes on at once
  pub pause_next : (i k imp : ℕ) (args : List Value) (e : Entry) (c d : Configuration) (l : Left) (a : Answer) (os : List Outcome) (ticks : ℕ) → step (Base m) c ≡ asks k imp args d
      → l.outcomes ≡ given a ∷ os
      → fault_of (func_type_at (Base m) imp).results (length d.store.memory) (plan_of g (strand_at g i)) false imp a ≡ None → pause_of a.ticks ≡ Some ticks
      → A.next i (on (runs (an_entry e) c l)) ≡ strung_pauses (space_of st m (strand_at g i)) k (call_note imp args d.store (stack_of (Base m) d) (Some ticks)) ticks (an_entry e) d a
      (with_outcomes l os)
  pause_next i k imp args e c d l a os ticks is eo ef et =
      let pl = plan_of g (strand_at g i) in
      let sp = space_of st m (strand_at g i) in
      let plain = blocking (Base m) pl (runs (an_entry e) c l) in
      ap (strung_next (Base m) pl sp plain (an_entry e) l) is
      ∙ ap (strung_asked (Base m) pl sp plain k imp args (an_entry e) d l) eo
      ∙ ap (λ z. strung_tested (Base m) sp plain k imp args (an_entry e) d (with_outcomes l os) a z (pause_of a.ticks)) ef
      ∙ ap (strung_tested (Base m) sp plain k imp args (an_entry e) d (with_outcomes l os) a None) et

  pub block_next : (i k imp : ℕ) (args : List Value) (e : Entry) (c d : Configuration) (l : Left) (a : Answer) (os : List Outcome) (ticks : ℕ) → step (Base m) c ≡ asks k imp args d
      → l.outcomes ≡ given a ∷ os
      → fault_of (func_type_at (Base m) imp).results (length d.store.memory) (plan_of g (strand_at g i)) false imp a ≡ None → pause_of a.ticks ≡ Some ticks
      → nb (wd i) (runs (an_entry e) c l) ≡ goes k (call_note imp args d.store (stack_of (Base m) d) (Some ticks) ∷ answer_notes a.said (poked d.store a.pokes))
      (goes_on_told a.said e d (poked d.store a.pokes) (with_outcomes l os))
  block_next i k imp args e c d l a os ticks is eo ef et =
      let pl = plan_of g (strand_at g i) in
      ap (by_step (Base m) pl (an_entry e) l) is
      ∙ ap (asked (Base m) pl k imp args (inside (an_entry e) d) l) eo
      ∙ ap (tested (Base m) k imp args (inside (an_entry e) d) (with_outcomes l os) a) ef
      ∙ ap (λ z. go_on k (call_note imp args d.store (stack_of (Base m) d) z) a.said (poked d.store a.pokes) (with_outcomes l os) (inside (an_entry e) d)) et
      ∙ told_moves k (call_note imp args d.store (stack_of (Base m) d) (Some ticks)) a.said (poked d.store a.pokes) (with_outcomes l os) e d

  -- ---- a strand that stops, or whose move can't be paid

  pub stops_now : (i spare : ℕ) (a : Strung) (b : Held) → (Go family laws) i spare a b → (Calm family laws) i a → A.next i a ≡ stops → (q : ℕ)
      → I.RestsS A B (Go family laws) (Hang family laws) (Near family laws) (Sm family laws) (Kept family laws) (Q family laws) (Calm family laws) (Ok family laws) (dear family laws) (A.store a)
      (run (B.next i) q b)
  stops_now i spare _ _ (going_on a a' b ps li are mid rel kn ins) calm e q = by_next a (next_of i a) mid calm e
    where
      by_next : (a : State) → NextOf i a → Middle ps a a' → CalmAll g.strands a → A.next i (on a) ≡ stops
          → I.RestsS A B (Go family laws) (Hang family laws) (Near family laws) (Sm family laws) (Kept family laws) (Q family laws) (Calm family laws) (Ok family laws) (dear family laws)
          (store_of a) (run (B.next i) q b)
      by_next a (n_simple eq pl) mid calm e =
          let e1 = unlift_stops (nb (wd i) a) (sym eq ∙ e) in
          let e2 = stops_same ps (Base m) (plan_of g (strand_at g i)) a a' mid (all_off (plan_of g (strand_at g i)) g.strands ps a are calm (plan_guards g (strand_at g i))) e1 in
          let w = (simulates (wd i) (ft i li) (store_laws (wd i)) (L i) (W i) G (law i li) (Known i) (wl i li) ((halt_law family laws) i li)).stop q spare a' b
          ((raise family laws) i li q spare a' b rel ((allowed_stop family laws) i q a' e2 (calm_over (strand_at g i).area ps a a' mid (calm_at g.strands i a li calm))), kn) (ap (sh (wd i)) e2) q
          (omega arith) in
          (w.0, (see_up family laws) i li ps (store_of a) (store_of a') (store_held (run (B.next i) q b).last) are (middle_chain ps a a' mid) w.1.0)
      by_next _ (n_pauses {e = en} {c = c} {l = l} k imp args d x os ticks is eo ef et) mid calm e =
          let z : goes k _ _ ≡ stops = sym (pause_next i k imp args en c d l x os ticks is eo ef et) ∙ e in
          cc

  slow_at : (i spare k : ℕ) (li : i < count) (a a' t : State) (b : Held) (ps : List Gap) (es : List Note) → AreGaps g.strands ps → Middle ps a a' → (Rel family laws) i li 0 spare a' b → Known i b
      → CalmAll g.strands a
      → nb (wd i) a ≡ goes k es t → (q : ℕ) → q ≤ k
      → I.RestsS A B (Go family laws) (Hang family laws) (Near family laws) (Sm family laws) (Kept family laws) (Q family laws) (Calm family laws) (Ok family laws) (dear family laws) (store_of a)
      (run (B.next i) q b)
  slow_at i spare k li a a' t b ps es are mid rel kn calm e q le =
      let ms = moves_same ps (Base m) (plan_of g (strand_at g i)) a a' t k es mid (all_off (plan_of g (strand_at g i)) g.strands ps a are calm (plan_guards g (strand_at g i))) e in
      let sa = shown_any i k ms.events ms.to in
      ⊎_elim
      (λ pos.
      let w = (simulates (wd i) (ft i li) (store_laws (wd i)) (L i) (W i) G (law i li) (Known i) (wl i li) ((halt_law family laws) i li)).slow k spare k sa.0 sa.1 a' b (
        (raise family laws) i li k spare a' b rel
            ((allowed_once family laws) i k k a' ms.to ms.events ms.goes_too (calm_over (strand_at g i).area ps a a' mid (calm_at g.strands i a li calm)) (omega arith)
            (λ more. let z : ⊥ = omega arith in absurd z)),
        kn,
      )
      (ap (sh (wd i)) ms.goes_too ∙ sa.2) (omega arith) q le in
      (w.0, (see_up family laws) i li ps (store_of a) (store_of a') (store_held (run (B.next i) q b).last) are (middle_chain ps a a' mid) w.1.0))
      (λ none.
      let z : q ≡ 0 = omega arith in
      subst (λ j. I.RestsS A B (Go family laws) (Hang family laws) (Near family laws) (Sm family laws) (Kept family laws) (Q family laws) (Calm family laws) (Ok family laws) (dear family laws)
      (store_of a) (run (B.next i) j b)) (sym z)
      (refl, (see_up family laws) i li ps (store_of a) (store_of a') (store_held b) are (middle_chain ps a a' mid) ((sees_rel family laws) i li 0 spare a' b rel)))
      (cases_lt 0 k)

  pub slow_now : (i spare k : ℕ) (es : List Note) (a t : Strung) (b : Held) → (Go family laws) i spare a b → (Calm family laws) i a → A.next i a ≡ goes k es t → (q : ℕ) → q ≤ k
      → I.RestsS A B (Go family laws) (Hang family laws) (Near family laws) (Sm family laws) (Kept family laws) (Q family laws) (Calm family laws) (Ok family laws) (dear family laws) (A.store a)
      (run (B.next i) q b)
  slow_now i spare k es _ t _ (going_on a a' b ps li are mid rel kn ins) calm e q le = by_next a (next_of i a) mid calm e
    where
      same_k : (k k2 : ℕ) (es es2 : List Note) (t t2 : Strung) → ◌≡◌ {A = Turn Strung Note} (goes k2 es2 t2) (goes k es t) → k2 ≡ k
      same_k k k2 es es2 t t2 q = cc

      by_next : (a : State) → NextOf i a → Middle ps a a' → CalmAll g.strands a → A.next i (on a) ≡ goes k es t
          → I.RestsS A B (Go family laws) (Hang family laws) (Near family laws) (Sm family laws) (Kept family laws) (Q family laws) (Calm family laws) (Ok family laws) (dear family laws)
          (store_of a) (run (B.next i) q b)
      by_next a (n_simple eq pl) mid calm e =
          let u = unlift (nb (wd i) a) k es t (sym eq ∙ e) in
          slow_at i spare k li a a' u.0 b ps es are mid rel kn calm u.1 q le
      by_next _ (n_pauses {e = en} {c = c} {l = l} k2 imp args d x os ticks is eo ef et) mid calm e =
          let z : k2 ≡ k = same_k k k2 es _ t _ (sym (pause_next i k2 imp args en c d l x os ticks is eo ef et) ∙ e) in
          slow_at i spare k2 li (runs (an_entry en) c l) a' _ b ps _ are mid rel kn calm (block_next i k2 imp args en c d l x os ticks is eo ef et) q (omega arith)

  -- a move that is as the blocking machine has it
  pub plain_move : (i spare k : ℕ) (li : i < count) (a a' t : State) (b : Held) (ps : List Gap) (es : List Note) → AreGaps g.strands ps → Middle ps a a' → (Rel family laws) i li 0 spare a' b
      → Known i b
      → InsideAll g.strands (length (store_of a).memory) → CalmAll g.strands a → nb (wd i) a ≡ goes k es t → FirstPlain es → (Ending family laws) es t
      → I.Every A B (Go family laws) (Hang family laws) (Near family laws) (Sm family laws) (Kept family laws) (Q family laws) (Calm family laws) (Ok family laws) (dear family laws)
      (Rattle.strand_laws.specs.Woven.told_by i es) → (MoveNow family laws) i spare k es (on a) (on t) b
  plain_move i spare k li a a' t b ps es are mid rel kn ins calm e first en oks =
      let ms = moves_same ps (Base m) (plan_of g (strand_at g i)) a a' t k es mid (all_off (plan_of g (strand_at g i)) g.strands ps a are calm (plan_guards g (strand_at g i))) e in
      let up = (notes_up family laws) ps es ms.events ms.notes in
      (simple_move family laws) i li spare k a a' t ms.to b ps es ms.events are mid rel kn ins
      ((allowed_once family laws) i (suc k) k a' ms.to ms.events ms.goes_too (calm_over (strand_at g i).area ps a a' mid (calm_at g.strands i a li calm)) (omega arith)
      (λ more. (numbered_up family laws) ps i es ms.events up oks))
      (ap (sh (wd i)) ms.goes_too ∙ shown_plain i k ms.events ms.to (first_up ps es ms.events up first)) up ms.on
      (memory_grows (Base m) (plan_of g (strand_at g i)) a t k es e) (inl (first_up ps es ms.events up first)) en
