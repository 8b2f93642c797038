-- A stack whose frames don't fit the area: its unwind ends there.
use Rattle.std.proofs.Common.{◌≡◌, ℕ, suc, ◌+◌, ◌<◌, ◌≤◌, List, ◌∷◌, Bool, false, All, sym, subst, arith, map}
use Rattle.wa_types.specs.Frames.{Fit, Room, Suspended}
use Rattle.wa_types.specs.Modules.{func_type_at}
use Rattle.wa_model.specs.Behaves.{StandsNumbered}
use Rattle.wa_model.specs.Blocking.{Left}
use Rattle.wa_model.specs.Configuration.{Configuration, stack_of}
use Rattle.wa_model.specs.Outside.{Answer}
use Rattle.wa_model.specs.Plan.{Entry}
use Rattle.wa_model.specs.Step.{param_count}
use Rattle.wa_model.specs.Store.{Store}
use Rattle.frame_laws.specs.Stack.{activation_of, total_size, unwinding_all}
use Rattle.guard_runs.proofs.StoppedStacks.{stops_law}
use Rattle.guard_runs.proofs.WaitingLevels.{stopped_are_levels}
use Rattle.guard_runs.specs.Alike.{sides_of}
use Rattle.guard_runs.specs.Beside.{Callers}
use Rattle.guard_runs.specs.Levels.{levels_of}
use Rattle.guard_runs.proofs.Pausing.{traps_law}
use Rattle.guard_runs.specs.Pause.{AreaReady, at_import, UnwindTraps}
use Rattle.headline.specs.FlatLaw.{AllLocalsFit, FlatLaw}
use Rattle.headline.specs.Halts.{HaltLaw, HaltsIn, room_by, StackKnown, used_by}
use Rattle.headline.specs.World.{World, WorldFits, base, setting}
use Rattle.headline.proofs.FlatStretches.{gl, xp}
use Rattle.headline.proofs.OuterLevels.{weigh_all}
use Rattle.headline.proofs.Pauses.{levels_are, same_config}

module _ (w : World) (ft : WorldFits w) (L : (top spare : ℕ) → Configuration → Configuration → Type 0) (W : ℕ → ℕ → Configuration → Configuration → Type 0) (G : Store → Type 0)
    (law : FlatLaw w (λ c d. c ≡ d) L W G) where
  pub overruns : (top i : ℕ) (d f at : Configuration) (e : Entry) (a : Answer) (l : Left) → W top i d f → Callers (sides_of (setting w top)) i (f.here ∷ f.under) (at.here ∷ at.under)
      → All (StandsNumbered w.original w.settings w.which) (stack_of (base w) d) → w.plan.area.len < Room w.original w.settings.policy (stack_of (base w) d)
      → AllLocalsFit w.written (at.here ∷ at.under) → AreaReady (gl w) (gl w) (suc (gl w)) w.plan.area at.store
      → HaltsIn w e i a l (stack_of (base w) d) at (Fit w.original w.settings.policy (stack_of (base w) d) w.plan.area.len)
  overruns top i d f at e a l wt cs nums over fit rdy =
      let stack : List Suspended = stack_of (base w) d in
      let st = stops_law (setting w top) i _ _ cs (law.numbers top i d f wt nums) in
      let fs = law.stands top i d f (at.here ∷ at.under) st wt nums fit in
      let lv = stopped_are_levels (gl w) w.plan.area (setting w top) w.lay i _ _ st (ft.paired top) fs.may in
      let r = levels_are w top (stack_of (base w) d) at.here at.under (levels_of (setting w top) w.lay st) lv.acts lv.fit lv.chain fs.stand fs.weigh in
      let hd = r.held in
      let long : w.plan.area.len < 8 + total_size (r.v ∷ r.vs) = subst (λ q. w.plan.area.len < q) hd.room over in
      let ov = traps_law (gl w) (gl w) (suc (gl w)) w.written (xp w) w.plan e i a l at.store r.v r.vs ft.runtime rdy r.fits long in
      let cfg : at_import at.store r.v r.vs ≡ at = same_config at (activation_of r.v) (map activation_of r.vs) r.here_is r.under_is in
      let few = weigh_all w.original (param_count (func_type_at w.flat top)) r.v r.vs (stack_of (base w) d) r.weigh in
      record {
        inner = r.v ∷ r.vs;
        bound = 14 + unwinding_all r.v r.vs;
        few = omega arith;
        traps = subst (λ q. UnwindTraps (gl w) w.written (xp w) w.plan e i a l at.store q (14 + unwinding_all r.v r.vs) (r.v ∷ r.vs)) cfg ov;
        bytes = hd.fit w.plan.area.len;
      }

  -- without asserts nothing else ends in the area
  pub plain_halts : w.asserts ≡ false → HaltLaw w W
  plain_halts none top i d f at e a l wt cs known over fit rdy =
      let nums : All (StandsNumbered w.original w.settings w.which) (stack_of (base w) d) = subst (λ b. StackKnown b w.original w.settings w.which (stack_of (base w) d)) none known in
      let over2 : w.plan.area.len < Room w.original w.settings.policy (stack_of (base w) d) =
      subst (λ b. w.plan.area.len < room_by b w.original w.settings w.which w.plan.area.len (stack_of (base w) d)) none over in
      subst (λ b. HaltsIn w e i a l (stack_of (base w) d) at (used_by b w.original w.settings w.which w.plan.area.len (stack_of (base w) d))) (sym none)
      (overruns top i d f at e a l wt cs nums over2 fit rdy)
