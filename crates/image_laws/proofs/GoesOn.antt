-- Along a run that is compared: the way to a pause of the original, and from a store that holds it the rest of the run.
use Rattle.std.proofs.Common.{List, Some, [], ap, arith, false, subst, suc, sym, ℕ, ◌*◌, ◌+◌, ◌++◌, ◌-◌, ◌≤◌, ◌∙◌, ◌∷◌, ◌≡◌, refl, length}
use Rattle.wa_types.specs.Frames.{Fit, Room, Suspended}
use Rattle.run_theory.proofs.FromMoves.{events_of_alike, events_on}
use Rattle.run_theory.proofs.Runs.{leads_on}
use Rattle.wa_model.specs.Behaves.{PausesNumbered, SameNote}
use Rattle.wa_model.specs.Blocking.{Blocking, Left, Note, State, Task, an_entry, call_note, events_of, runs}
use Rattle.wa_model.specs.Configuration.{Configuration}
use Rattle.wa_model.specs.Expected.{Expected, pause_note}
use Rattle.run_theory.specs.DeterminedRuns.{held_start_of, start_of}
use Rattle.wa_model.specs.Machine.{Leads, Turn}
use Rattle.wa_model.specs.Plan.{Outcome}
use Rattle.wa_model.specs.Protocol.{Held, busy, is_running}
use Rattle.wa_model.specs.Store.{Store}
use Rattle.headline.specs.FlatLaw.{FlatLaw}
use Rattle.headline.specs.Given.{ComparedGiven}
use Rattle.headline.specs.Halts.{HaltLaw, PausesKnown, room_in, used_in}
use Rattle.headline.specs.StoreLaws.{StoreLaws}
use Rattle.headline.specs.World.{World, WorldFits, base}
use Rattle.headline.specs.WrittenRuns.{WrittenLaw}
use Rattle.headline.proofs.FlatStretches.{gl, pr, xp}
use Rattle.headline.proofs.FromOpenings.{StartFits, begin_both}
use Rattle.headline.proofs.FromSimulation.{Begin, dear_on, dear_shown, na}
use Rattle.headline.proofs.Reductions.{Allowed, LeftFits, Link, R, TopOf, r_begins, r_between, r_halts, r_runs}
use Rattle.headline.proofs.Simulation.{Both}
use Rattle.headline.proofs.ToldMoves.{Sees, Sees_at, dear_of}
use Rattle.image_laws.specs.Image.{ComesThere, ComesToPause, GoesOnFrom, HoldsPause, Pause, held_there, left_there, rest_of_cost, stack_there}
use Rattle.image_laws.proofs.AnyStore.{plain_simulates}
use Rattle.image_laws.proofs.Apart.{ApartLaw}
use Rattle.image_laws.proofs.AtPause.{HoldsLaw, behaves_back}
use Rattle.image_laws.proofs.KnownAgain.{FitsLaw, KnownLaw}
use Rattle.image_laws.proofs.Reached.{Reached, ReachedBy, reached, reached_by, shown_leads, shown_same}
use Rattle.image_laws.proofs.ToPause.{Paused, paused_there}
use Rattle.image_laws.proofs.Unwinding.{Unwinding, unwinding}

module _ (w : World) (ft : WorldFits w) (sl : StoreLaws w) (L : (top spare : ℕ) → Configuration → Configuration → Type 0) (W : ℕ → ℕ → Configuration → Configuration → Type 0) (G : Store
    → Type 0) (law : FlatLaw w (λ c d. c ≡ d) L W G) (Known : Held → Type 0) (wl : WrittenLaw w Known) where
  -- what a related pair of running code holds
  record RunsPair (n spare : ℕ) (task : Task) (c : Configuration) (l : Left) (there : Held) : Type 0 where
    b : Configuration
    held_is : there ≡ busy (is_running task) b l
    top : ℕ
    x : ℕ
    within : 10 * x ≤ spare
    is_top : TopOf w task top
    lk : Link w ft sl L W G law top x c b
    lf : LeftFits w l
    al : Allowed w n (runs task c l)
    kn : Known (busy (is_running task) b l)

  runs_pair : (n spare : ℕ) (st : State) (b : Held) → R w ft sl L W G law n spare st b → Known b → (task : Task) (c : Configuration) (l : Left) → st ≡ runs task c l → RunsPair n spare task c l b
  runs_pair n spare _ _ (r_between good like lf al) kn task c l e = cc
  runs_pair n spare _ _ (r_begins good like lf lw al) kn task c l e = cc
  runs_pair n spare _ _ (r_runs {c = c1} {b = b} {l = l1} {task = task1} top x within is_top lk lf al) kn task c l e =
      let e1 : task1 ≡ task = cc in
      let e2 : c1 ≡ c = cc in
      let e3 : l1 ≡ l = cc in
      subst (λ z. RunsPair n spare task c z (busy (is_running task1) b l1)) e3 (subst (λ z. RunsPair n spare task z l1 (busy (is_running task1) b l1)) e2
      (subst (λ z. RunsPair n spare z c1 l1 (busy (is_running task1) b l1)) e1
      (record { b = b; held_is = refl; top = top; x = x; within = within; is_top = is_top; lk = lk; lf = lf; al = al; kn = kn })))
  runs_pair n spare _ _ (r_halts h) kn task c l e = cc

  module _ (hl : HaltLaw w W) (none : w.asserts ≡ false) (holds : HoldsLaw w W) (known_again : KnownLaw w Known) (fits_known : FitsLaw w Known) (apart : ApartLaw w W) (sf : StartFits w G)
      (os : List Outcome) (n : ℕ) (cmp : ComparedGiven w.original w.plan os n)
      (pauses : PausesNumbered w.original w.settings w.which (Blocking w.original w.plan os n).events) where
    abbrev room : List Suspended → ℕ
    room = Room w.original w.settings.policy

    abbrev fit : List Suspended → ℕ
    fit = λ stack. Fit w.original w.settings.policy stack w.plan.area.len

    -- the blocking machine that shows its pauses
    abbrev shows : State → Turn State Note
    shows = na room fit w.original w.settings w.which w.written w.plan

    abbrev Rel : (n spare : ℕ) → State → Held → Type 0
    Rel = Both w ft sl L W G law Known wl hl

    abbrev Same : Note → Note → Type 0
    Same = SameNote w.original w.settings w.which w.plan.area

    abbrev SeesThere : State → Held → Type 0
    SeesThere = Sees w.original w.settings w.which w.written (xp w) w.plan

    abbrev SeesNote : List Note → Note → Held → Type 0
    SeesNote = Sees_at w.original w.settings w.which w.written (xp w) w.plan

    abbrev a0 : State
    a0 = (start_of w.original w.plan os).last

    abbrev h0 : Held
    h0 = (held_start_of w.written w.plan os).last

    begun : Rel n 0 a0 h0
    begun =
        let bg : Begin (room_in w) (used_in w) w.original w.settings w.which w.written w.plan (Both w ft sl L W G law Known wl hl) os n =
        begin_both w ft sl L W G law Known wl hl sf os n cmp (subst (λ t. PausesKnown t w.original w.settings w.which (Blocking w.original w.plan os n).events) (sym none) pauses) in
        bg.rel

    -- where the original stands in front of the call
    abbrev stands : Pause → State
    stands x = runs (an_entry x.entry) x.calls x.left

    module _ (x : Pause) (at : ComesThere w.original w.settings w.plan os x) (le : x.cost + suc x.own_cost ≤ n) where
      way : (es : List Note) × Leads shows a0 x.cost es (stands x)
      way = shown_leads room fit w.plan.area.len (base w) w.plan a0 (stands x) x.cost x.notes at.leads at.roomy

      -- what a related pair there gives
      about : (spare : ℕ) (there : Held) → Rel (n - x.cost) spare (stands x) there → RunsPair (n - x.cost) spare (an_entry x.entry) x.calls x.left there
      about spare there rel = runs_pair (n - x.cost) spare (stands x) there rel.0 rel.1 (an_entry x.entry) x.calls x.left refl

      unwinds : (spare : ℕ) (there : Held) (q : RunsPair (n - x.cost) spare (an_entry x.entry) x.calls x.left there)
          → Unwinding w ft sl L W G law Known (n - x.cost) spare q.top x.entry x.calls q.b x.left x.own_cost x.import x.args x.waits x.answer x.outcomes x.ticks
      unwinds spare there q =
          unwinding w ft sl L W G law Known wl none (n - x.cost) spare q.top q.x q.within x.entry x.calls q.b x.left q.is_top q.lk q.lf q.al q.kn x.own_cost x.import x.args x.waits
          at.asks_there x.answer x.outcomes x.ticks at.outcome at.passes at.pauses (omega arith)

      pub goes_on : (t : Store) → HoldsPause w.original w.written w.settings w.which w.plan x.waits t → length t.globals ≡ gl w + 2
          → GoesOnFrom w.original w.settings w.written w.plan w.which (rest_of_cost n x) x t
      goes_on t hp count =
          let r : Reached State Held Note Note shows (pr w) Rel Same (dear_of w.original) SeesThere SeesNote (n - x.cost) (stands x) =
          reached State Held Note Note shows (pr w) Rel Same (dear_of w.original) SeesThere SeesNote
          (plain_simulates w ft sl L W G law Known wl hl none) n 0 a0 (stands x) h0 x.cost way.0 begun way.1 (omega arith) in
          let q = about r.spare r.there r.rel in
          behaves_back w ft sl L W G law Known wl hl none holds known_again apart (n - x.cost) r.spare q.top x.entry x.calls q.b x.left x.own_cost x.import x.args x.waits x.answer x.outcomes x.ticks
          (unwinds r.spare r.there q) at.room t hp count

      -- it gets to the pause
      made_so : (cost spare : ℕ) (made : List Note) (there : Held) → Leads (pr w) h0 cost made there → cost + spare ≤ 256 * x.cost + dear_of w.original way.0 + 0
          → events_of way.0 ≡ events_of made → (b : Configuration) → there ≡ busy (is_running (an_entry x.entry)) b x.left
          → Paused w spare x.entry x.waits x.own_cost x.import x.args x.answer x.ticks (left_there x) (busy (is_running (an_entry x.entry)) b x.left)
          → ComesToPause w.original w.settings w.written w.plan w.which os x
      made_so cost spare made there lds bound evs b is pz =
          let f = pz.few in
          let same : way.0 ≡ Expected w.original w.settings.policy w.plan.area x.notes =
          shown_same room fit w.plan.area.len (base w) w.plan a0 (stands x) x.cost x.notes way.0 at.leads way.1 in
          let all : dear_of w.original way.0 ≤ dear_of w.original x.notes =
          subst (λ zs. dear_of w.original zs ≤ dear_of w.original x.notes) (sym same) (dear_shown w.original room fit w.plan.area.len x.notes) in
          record {
            cost = cost + pz.cost;
            made = made ++ pz.made;
            store = pz.store;
            leads = leads_on Held Note (pr w) h0 there (held_there w.written w.plan x pz.store) cost pz.cost made pz.made lds
                (subst (λ h. Leads (pr w) h pz.cost pz.made (held_there w.written w.plan x pz.store)) (sym is) pz.leads);
            within = omega arith;
            events = events_on made pz.made ∙ ap (λ es. es ++ events_of pz.made) (sym evs ∙ ap events_of same)
                ∙ ap (λ es. events_of (Expected w.original w.settings.policy w.plan.area x.notes) ++ es) pz.told
                ∙ sym (events_on (Expected w.original w.settings.policy w.plan.area x.notes) (call_note x.import x.args x.waits.store (stack_there w.original x) (Some x.ticks)
                ∷ pause_note x.ticks (Room w.original w.settings.policy (stack_there w.original x)) x.waits.store (stack_there w.original x) ∷ []));
            holds = pz.holds;
          }

      pub comes_to : ComesToPause w.original w.settings w.written w.plan w.which os x
      comes_to =
          let r : ReachedBy State Held Note Note shows (pr w) Rel Same (dear_of w.original) SeesThere SeesNote n 0 x.cost way.0 (stands x) h0 =
          reached_by State Held Note Note shows (pr w) Rel Same (dear_of w.original) SeesThere SeesNote
          (plain_simulates w ft sl L W G law Known wl hl none) (dear_on w.original) refl n 0 a0 (stands x) h0 x.cost way.0 begun way.1 (omega arith) in
          let q = about r.left r.there r.rel in
          made_so r.cost r.left r.events r.there r.leads r.bound (events_of_alike Same (λ y z h. h.event) way.0 r.events r.alike) q.b q.held_is
          (paused_there w ft sl L W G law Known wl fits_known apart (n - x.cost) r.left q.top x.entry x.calls q.b x.left x.own_cost x.import x.args x.waits x.answer x.outcomes x.ticks
          (unwinds r.left r.there q) at.room)
