-- The headline for modules that pause, from what flattening owes, whatever step a policy puts in between.
use Rattle.headline.specs.Emitted.{FirstStore, Whole}
use Rattle.wa_model.specs.Protocol.{Held}
use Rattle.headline.specs.WrittenRuns.{WrittenLaw}
use Rattle.headline.specs.Given.{ComparedGiven}
use Rattle.headline.specs.World.{World, base}
use Rattle.headline.specs.LiveLaw.{L2, LiveLaw, W2}
use Rattle.headline.proofs.FromOpenings.{StartFits, behaves}
use Rattle.headline.proofs.LiveSteps.{both, equal_lives}
use Rattle.headline.proofs.OpenedTogether.{opens_together}
use Rattle.headline.proofs.StoresTogether.{store_laws}
use Rattle.headline.proofs.WorldParts.{world_fits}
use Rattle.headline.specs.FlatLaw.{FlatLaw}
use Rattle.headline.specs.Halts.{HaltLaw, PausesKnown, room_by, used_by}
use Rattle.headline.proofs.Halting.{plain_halts}
use Rattle.headline.proofs.Rooms.{shown_is}
use Rattle.guard_form.specs.AssertedRuns.{ExpectedWithAsserts}
use Rattle.run_theory.specs.Shown.{shown_within as shown}
use Rattle.std.proofs.Common.{Bool, List, false, refl, subst, sym, true, ℕ, ◌∙◌, ◌≡◌}
use Rattle.wa_model.specs.Blocking.{Blocking}
use Rattle.wa_model.specs.Behaves.{BehavesOn, PausesNumbered, expected_notes}
use Rattle.wa_model.specs.Configuration.{Configuration}
use Rattle.wa_model.specs.Instantiation.{opening}
use Rattle.wa_model.specs.Plan.{Outcome}
use Rattle.wa_model.specs.Store.{Store}
use Rattle.wa_types.specs.Base.{Base}
use Rattle.wa_types.specs.Syntax.{Module}

base_start : (m : Module) → (Base m).start ≡ m.start
unfolding Base
base_start m = refl

module _ (w : World) (whole : Whole w) (Known : Held → Type 0) (wl : WrittenLaw w Known) (G : Store → Type 0) (first : FirstStore w G (opening (base w) w.plan.globals))
    (L : (top spare : ℕ) → Configuration → Configuration → Type 0) (W : ℕ → ℕ → Configuration → Configuration → Type 0) where
  -- the runs that are compared, and what the headline says of them
  abbrev pub Says : (os : List Outcome) (n : ℕ) → Type 0
  Says os n =
      ComparedGiven w.original w.plan os n → PausesNumbered w.original w.settings w.which (Blocking w.original w.plan os n).events
      → BehavesOn w.original w.settings w.written w.plan os n w.which (expected_notes w.original w.settings w.plan os n)

  pub start_fits : (os : List Outcome) (n : ℕ) → ComparedGiven w.original w.plan os n → StartFits w G
  start_fits os n cmp =
      let f = cmp.given in
      let gs = f.globals in
      let pt = whole.parts in
      record {
        start = whole.start ∙ sym (base_start w.original);
        opened = opens_together w G pt.valid whole.instance gs.typed f.inside first;
        lawful = whole.lawful;
      }

  -- THE HEADLINE: all five fields, for one plan, outcomes and cost
  pub headline : w.asserts ≡ false → (Live : Configuration → Configuration → Type 0) → LiveLaw w Live W → FlatLaw w Live L W G → (os : List Outcome) (n : ℕ) → Says os n
  headline none Live lv law os n cmp pauses =
      let ft = world_fits w whole.parts in
      let law2 = both w Live L W G lv law in
      subst (λ b. BehavesOn w.original w.settings w.written w.plan os n w.which (shown (λ st. room_by b w.original w.settings w.which w.plan.area.len st)
      (λ st. used_by b w.original w.settings w.which w.plan.area.len st) w.plan.area.len (Blocking w.original w.plan os n).events)) none
      (behaves w ft (store_laws w) (L2 Live L W) (W2 Live L W) G law2 Known wl (plain_halts w ft (L2 Live L W) (W2 Live L W) G law2 none) (start_fits os n cmp) os n cmp
      (subst (λ b. PausesKnown b w.original w.settings w.which (Blocking w.original w.plan os n).events) (sym none) pauses))

  -- for the policy that saves all, with nothing in between
  pub headline_all : w.asserts ≡ false → FlatLaw w (λ c d. c ≡ d) L W G → (os : List Outcome) (n : ℕ) → Says os n
  headline_all none law os n cmp pauses = headline none (λ c d. c ≡ d) (equal_lives w W) law os n cmp pauses

  -- WITH ASSERTS, whichever calls its activations stand at, where unwinds end as is owed
  pub headline_with_asserts : w.asserts ≡ true → FlatLaw w (λ c d. c ≡ d) L W G → HaltLaw w W → (os : List Outcome) (n : ℕ) → ComparedGiven w.original w.plan os n
      → BehavesOn w.original w.settings w.written w.plan os n w.which (ExpectedWithAsserts w.original w.settings w.which w.plan.area (Blocking w.original w.plan os n).events)
  headline_with_asserts some law hl os n cmp =
      subst (BehavesOn w.original w.settings w.written w.plan os n w.which) (shown_is w.original w.settings w.which w.plan.area.len (Blocking w.original w.plan os n).events)
      (subst (λ b. BehavesOn w.original w.settings w.written w.plan os n w.which (shown (λ st. room_by b w.original w.settings w.which w.plan.area.len st)
      (λ st. used_by b w.original w.settings w.which w.plan.area.len st) w.plan.area.len (Blocking w.original w.plan os n).events)) some
      (behaves w (world_fits w whole.parts) (store_laws w) L W G law Known wl hl (start_fits os n cmp) os n cmp
      (subst (λ b. PausesKnown b w.original w.settings w.which (Blocking w.original w.plan os n).events) (sym some) tt)))
