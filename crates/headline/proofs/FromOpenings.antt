-- Modules that pause behave like their originals: the six fields, from what flattening owes.
use Rattle.headline.specs.WrittenRuns.{WrittenLaw}
use Rattle.headline.specs.World.{World, WorldFits, base, setting}
use Rattle.guard_runs.specs.Alike.{Alike}
use Rattle.headline.proofs.FlatStretches.{Sm, gl}
use Rattle.headline.specs.Given.{ComparedGiven}
use Rattle.headline.specs.StoreLaws.{StoreLaws}
use Rattle.headline.proofs.FromSimulation.{Begin, OpensHonestly, behaves_on}
use Rattle.headline.proofs.Reductions.{Allowed, LeftFits, Quiet, R, nb, quiet_there, r_begins, r_between, r_halts, same_note}
use Rattle.headline.proofs.Simulation.{Both, simulates}
use Rattle.headline.specs.FlatLaw.{FlatLaw}
use Rattle.headline.specs.Halts.{HaltLaw, PausesKnown, room_in, used_in}
use Rattle.run_laws.proofs.Keeping.{same_refl}
use Rattle.std.proofs.Common.{All, Bool, List, None, Option, Some, [], ap, arith, false, true, refl, subst, suc, sym, ℕ, ◌++◌, ◌+◌, ◌-◌, ◌<◌, ◌∙◌, ◌∷◌, ◌≡◌}
use Rattle.std.proofs.lemmas.List.Elements.{All-cons, All-head, All-tail}
use Rattle.run_theory.proofs.Follow.{Alike as AllAlike}
use Rattle.run_theory.proofs.QuietRuns.{FailsOutside, opening_fails}
use Rattle.run_theory.proofs.Runs.{leads_run, one_move}
use Rattle.wa_model.specs.Behaves.{BehavesOn, PauseNumbered, SameNote, unless_pause}
use Rattle.run_theory.specs.Shown.{shown_within as shown}
use Rattle.wa_model.specs.Blocking.{Blocking, Note, State, all_left, begins, begun, between, done_notes, halts, no_store, note, on_to, started}
use Rattle.wa_model.specs.Configuration.{Configuration}
use Rattle.wa_model.specs.Instantiation.{Opening, fails_as, opening, opens}
use Rattle.run_theory.specs.DeterminedRuns.{held_start_of, start_of}
use Rattle.wa_model.specs.Machine.{Ran, after, run}
use Rattle.wa_model.specs.Outside.{ended}
use Rattle.wa_model.specs.Plan.{AreLawful, Entry, Outcome}
use Rattle.wa_model.specs.Protocol.{Held, free, held_begun, held_on, held_started, over, starting}
use Rattle.wa_model.specs.Store.{Store}
use Rattle.wa_model.specs.Untouched.{IsCalm}
use Rattle.wa_model.specs.declared.events.End.TheVariants.{Done}
use Rattle.wa_types.specs.Modules.{func_type_at}

-- both openings fail with one end, or give stores that belong together
abbrev pub OpensTogether : (w : World) (G : Store → Type 0) → Opening → Opening → Type 0
OpensTogether w G (fails_as e) o' = (o' ≡ fails_as e) × (unless_pause (ended e) ≡ Some (ended e))
OpensTogether w G (opens s) o' = (s' : Store) × (o' ≡ opens s') × G s × Alike (setting w 0) s s'

-- What instantiation and the start function meet.
pub record StartFits (w : World) (G : Store → Type 0) : Type 0 where
  pub start : w.written.start ≡ (base w).start
  pub opened : OpensTogether w G (opening (base w) w.plan.globals) (opening w.written w.plan.globals)
  pub lawful : (x : ℕ) → (base w).start ≡ Some x → AreLawful (func_type_at (base w) x).params [] × (x < w.funcs)

pub part_of : {X : Type 0} (P : X → Type 0) (xs ys : List X) → All P (xs ++ ys) → All P xs × All P ys
part_of P [] ys h = (λ k d lt. absurd (omega arith), h)
part_of P (x ∷ xs) ys h =
    let r = part_of P xs ys (All-tail P x (xs ++ ys) h) in
    (All-cons P x xs (All-head P x (xs ++ ys) h) r.0, r.1)

module _ (w : World) (ft : WorldFits w) (sl : StoreLaws w) (L : (top spare : ℕ) → Configuration → Configuration → Type 0) (W : ℕ → ℕ → Configuration → Configuration → Type 0) (G : Store
    → Type 0) (law : FlatLaw w (λ c d. c ≡ d) L W G)
    (Known : Held → Type 0) (wl : WrittenLaw w Known) (hl : HaltLaw w W) (sf : StartFits w G) (os : List Outcome) (n : ℕ)
    (cmp : ComparedGiven w.original w.plan os n) (pauses : PausesKnown w.asserts w.original w.settings w.which (Blocking w.original w.plan os n).events) where
  abbrev Rel : (n spare : ℕ) → State → Held → Type 0
  Rel = R w ft sl L W G law

  known_part : (b : Bool) (xs ys : List Note) → PausesKnown b w.original w.settings w.which (xs ++ ys)
      → PausesKnown b w.original w.settings w.which xs × PausesKnown b w.original w.settings w.which ys
  known_part true xs ys h = (tt, tt)
  known_part false xs ys h = part_of (λ (x : Note). PauseNumbered w.original w.settings w.which x.stack x.pause) xs ys h

  abbrev a0 : State
  a0 = (start_of w.original w.plan os).last

  abbrev e0 : List Note
  e0 = (start_of w.original w.plan os).events

  allowed : Allowed w n a0
  allowed = record {
    calm = λ j es t l lt.
        let z : j ≡ j + 0 = omega arith in
        let r : run (nb w) j a0 ≡ after es (run (nb w) 0 t) = ap (λ i. run (nb w) i a0) z ∙ leads_run State Note (nb w) a0 t j 0 es l in
        subst (IsCalm w.plan.area) (ap (λ (q : Ran State Note). q.last) r) (cmp.untouched j lt);
    numbered = λ j k es fs t u l e le.
        let z : n ≡ j + suc (k + (n - j - suc k)) = omega arith in
        let r : run (nb w) n a0 ≡ after es (after fs (run (nb w) (n - j - suc k) u)) = ap (λ i. run (nb w) i a0) z ∙ leads_run State Note (nb w) a0 t j (suc (k + (n - j - suc k))) es l
        ∙ ap (after es) (one_move State Note (nb w) k (n - j - suc k) fs t u e) in
        let all : PausesKnown w.asserts w.original w.settings w.which (e0 ++ (es ++ (fs ++ (run (nb w) (n - j - suc k) u).events))) =
        subst (λ zs. PausesKnown w.asserts w.original w.settings w.which (e0 ++ zs)) (ap (λ (q : Ran State Note). q.events) r) pauses in
        (known_part w.asserts fs _ (known_part w.asserts es _ (known_part w.asserts e0 _ all).1).1).0;
  }

  left_fits : LeftFits w (all_left w.plan os)
  left_fits = let f = cmp.given in record { entries = f.entries; outcomes = cmp.outcomes }

  begin : Begin (room_in w) (used_in w) w.original w.settings w.which w.written w.plan Rel os n
  begin = by_opening (opening (base w) w.plan.globals) refl (opening w.written w.plan.globals) refl sf.opened
    where
      -- by the parts, whatever they are
      from : (r : Ran State Note) (r' : Ran Held Note) → start_of w.original w.plan os ≡ r → held_start_of w.written w.plan os ≡ r'
          → AllAlike (SameNote w.original w.settings w.which w.plan.area) r.events r'.events → Rel n 0 r.last r'.last → OpensHonestly (opening (base w) w.plan.globals)
          → Begin (room_in w) (used_in w) w.original w.settings w.which w.written w.plan Rel os n
      from r r' e e' al rel honest = record {
        alike = subst (λ q. AllAlike (SameNote w.original w.settings w.which w.plan.area) q.events (held_start_of w.written w.plan os).events) (sym e)
            (subst (λ q. AllAlike (SameNote w.original w.settings w.which w.plan.area) r.events q.events) (sym e') al);
        rel = subst (λ q. Rel n 0 q.last (held_start_of w.written w.plan os).last) (sym e) (subst (λ q. Rel n 0 r.last q.last) (sym e') rel);
        honest = honest;
      }

      by_opening : (o : Opening) → opening (base w) w.plan.globals ≡ o → (o' : Opening) → opening w.written w.plan.globals ≡ o' → OpensTogether w G o o'
          → Begin (room_in w) (used_in w) w.original w.settings w.which w.written w.plan Rel os n
      by_opening (fails_as e) q o' q' h =
          let same = same_refl (gl w) w.plan.area no_store in
          let outside = subst FailsOutside q (opening_fails (base w) w.plan.globals) (Quiet w no_store) in
          from (record { events = note (ended e) no_store ∷ []; last = halts no_store }) (record { events = note (ended e) no_store ∷ []; last = over no_store })
          (ap (begun (base w).start (all_left w.plan os)) q) (ap (held_begun w.written.start (all_left w.plan os)) (q' ∙ h.0))
          (same_note w (note (ended e) no_store) (note (ended e) no_store) refl same tt refl outside, tt) (r_halts same) (subst OpensHonestly (sym q) h.1)
      by_opening (opens s) q o' q' h = by_start (base w).start refl w.plan.entries refl
        where
          same : Sm w s h.0
          same = sl.same_end 0 s h.0 h.3

          honest : OpensHonestly (opening (base w) w.plan.globals)
          honest = subst OpensHonestly (sym q) tt

          was : start_of w.original w.plan os ≡ started s (all_left w.plan os) (base w).start
          was = ap (begun (base w).start (all_left w.plan os)) q

          now : held_start_of w.written w.plan os ≡ held_started h.0 (all_left w.plan os) (base w).start
          now = ap (held_begun w.written.start (all_left w.plan os)) (q' ∙ h.1) ∙ ap (λ z. held_started h.0 (all_left w.plan os) z) sf.start

          here : (t : State) → (start_of w.original w.plan os).last ≡ t → Allowed w n t
          here t e = subst (Allowed w n) e allowed

          by_start : (o : Option ℕ) → (base w).start ≡ o → (es : List Entry) → w.plan.entries ≡ es → Begin (room_in w) (used_in w) w.original w.settings w.which w.written w.plan Rel os n
          by_start (Some x) e es ee =
              let was2 = was ∙ ap (λ z. started s (all_left w.plan os) z) e in
              from (record { events = []; last = begins x s (all_left w.plan os) }) (record { events = []; last = starting x h.0 (all_left w.plan os) }) was2 (now
              ∙ ap (λ z. held_started h.0 (all_left w.plan os) z) e)
              tt (r_begins h.2 h.3 left_fits (sf.lawful x e) (here _ (ap (λ r. r.last) was2))) honest
          by_start None e [] ee =
              from (record { events = note (ended Done) s ∷ []; last = halts s }) (record { events = note (ended Done) h.0 ∷ []; last = over h.0 })
              (was ∙ ap (λ z. started s (all_left w.plan os) z) e ∙ ap (λ z. record { events = done_notes s z; last = on_to s (all_left w.plan os) z }) ee)
              (now ∙ ap (λ z. held_started h.0 (all_left w.plan os) z) e ∙ ap (λ z. record { events = done_notes h.0 z; last = held_on h.0 (all_left w.plan os) z }) ee)
              (same_note w (note (ended Done) s) (note (ended Done) h.0) refl same tt refl (quiet_there w 0 s h.0 h.3), tt) (r_halts same) honest
          by_start None e (e1 ∷ es) ee =
              let was2 = was ∙ ap (λ z. started s (all_left w.plan os) z) e ∙ ap (λ z. record { events = done_notes s z; last = on_to s (all_left w.plan os) z }) ee in
              from (record { events = []; last = between s (all_left w.plan os) }) (record { events = []; last = free h.0 (all_left w.plan os) }) was2
              (now ∙ ap (λ z. held_started h.0 (all_left w.plan os) z) e ∙ ap (λ z. record { events = done_notes h.0 z; last = held_on h.0 (all_left w.plan os) z }) ee)
              tt (r_between h.2 h.3 left_fits (here _ (ap (λ r. r.last) was2))) honest

  pub begin_both : Begin (room_in w) (used_in w) w.original w.settings w.which w.written w.plan (Both w ft sl L W G law Known wl hl) os n
  begin_both = let b = begin in record { alike = b.alike; rel = (b.rel, wl.begins os cmp.outcomes); honest = b.honest }

  -- THE HEADLINE for modules that pause, from the premises alone
  pub behaves : BehavesOn w.original w.settings w.written w.plan os n w.which (shown (room_in w) (used_in w) w.plan.area.len (Blocking w.original w.plan os n).events)
  behaves = behaves_on (room_in w) (used_in w) w.original w.settings w.which w.written w.plan (Both w ft sl L W G law Known wl hl) (simulates w ft sl L W G law Known wl hl) os n cmp.outcomes begin_both
