-- Where the rewritten module is about to unwind: from any store that holds the pause it comes back.
use Rattle.std.proofs.Common.{All, List, [], ap, arith, false, length, refl, subst, suc, sym, ℕ, ◌+◌, ◌-◌, ◌∙◌, ◌∷◌, ◌≡◌, ◌≤◌}
use Rattle.std.proofs.lemmas.List.{length-map}
use Rattle.std.specs.List.{sum_by}
use Rattle.wa_types.specs.Frames.{HoldsBytes, HoldsFrames, Room, frame_of, word}
use Rattle.wa_types.specs.Modules.{func_type_at}
use Rattle.wa_types.specs.declared.values.Value.{Value}
use Rattle.wa_types.specs.declared.values.Value.TheVariants as V
use Rattle.wa_model.specs.declared.answers.Said.{Said}
use Rattle.wa_model.specs.declared.answers.Said.TheVariants as S
use Rattle.wa_model.specs.Behaves.{StandsNumbered}
use Rattle.wa_model.specs.Blocking.{Left, poked, with_outcomes}
use Rattle.wa_model.specs.Configuration.{Activation, Configuration, stack_of}
use Rattle.wa_model.specs.Outside.{Answer}
use Rattle.wa_model.specs.Plan.{Entry, Outcome}
use Rattle.wa_model.specs.Protocol.{Held, with_words}
use Rattle.wa_model.specs.Step.{param_count}
use Rattle.wa_model.specs.Store.{Store}
use Rattle.run_laws.proofs.CallArgs.{Took}
use Rattle.run_laws.proofs.CallArgs.{took as call_took}
use Rattle.run_laws.specs.Ranges.{byte_in}
use Rattle.frame_laws.specs.Stack.{HoldsStack, activation_of, total_size}
use Rattle.guard_runs.proofs.WaitingLevels.{stopped_are_levels}
use Rattle.guard_runs.specs.Levels.{AreLevels, levels_of}
use Rattle.guard_runs.proofs.StoppedStacks.{waits_law}
use Rattle.guard_runs.specs.Alike.{Alike}
use Rattle.guard_runs.specs.Stopped.{Stopped}
use Rattle.headline.specs.FlatLaw.{AllLocalsFit, FlatLaw, FlatStands}
use Rattle.headline.specs.Halts.{HaltLaw}
use Rattle.headline.specs.StoreLaws.{StoreLaws}
use Rattle.headline.specs.Told.{answer_notes, goes_on_told}
use Rattle.headline.specs.World.{World, WorldFits, base, setting}
use Rattle.headline.specs.WrittenRuns.{WrittenLaw}
use Rattle.headline.proofs.FlatStretches.{gl, sides, xp}
use Rattle.headline.proofs.Reductions.{Allowed}
use Rattle.headline.proofs.Halves.{Hangs}
use Rattle.headline.proofs.OuterLevels.{under_deep}
use Rattle.headline.proofs.Pauses.{LevelsOf, levels_are}
use Rattle.guard_runs.specs.Pause.{SuspendedIn}
use Rattle.image_laws.specs.Image.{BehavesFrom, HoldsPause, held_at_pause}
use Rattle.image_laws.proofs.Apart.{ApartLaw, ApartSums}
use Rattle.image_laws.proofs.AnyStore.{hanging_goes_on, hanging_traps}
use Rattle.image_laws.proofs.KnownAgain.{KnownLaw}
use Rattle.image_laws.proofs.SameStores.{alike_held}
use Rattle.image_laws.proofs.TakenAgain.{stopped_taken}
use Rattle.image_laws.proofs.Unwinding.{Unwinding}

-- A stack beside the same original of which memory holds the frames, and whose call took the same operands.
pub record HeldThere (w : World) (W : ℕ → ℕ → Configuration → Configuration → Type 0) (top i : ℕ) (d : Configuration) (taken : List Value) (mem : List ℕ) (at : ℕ) : Type 0 where
  pub flat : Configuration
  pub waits : W top i d flat
  pub here : Activation
  pub under : List Activation
  pub st : Stopped (setting w top) i (flat.here ∷ flat.under) (here ∷ under)
  pub took : here.taken ≡ taken
  pub fit : AllLocalsFit w.written (here ∷ under)
  pub holds : HoldsStack mem at (levels_of (setting w top) w.lay st)

-- Where memory holds what the original's stack wants, there is such a stack.
abbrev pub HoldsLaw : (w : World) (W : ℕ → ℕ → Configuration → Configuration → Type 0) → Type 0
HoldsLaw w W =
    (top i : ℕ) (d f : Configuration) (us' : List Activation) → Stopped (setting w top) i (f.here ∷ f.under) us' → W top i d f
    → All (StandsNumbered w.original w.settings w.which) (stack_of (base w) d) → AllLocalsFit w.written us'
    → (mem : List ℕ) (at : ℕ) → All byte_in mem → at + sum_by (frame_of w.original w.settings.policy) (stack_of (base w) d) ≤ length mem
    → HoldsFrames w.original w.settings w.which mem at (stack_of (base w) d) → HeldThere w W top i d f.here.taken mem at

module _ (w : World) (ft : WorldFits w) (sl : StoreLaws w) (L : (top spare : ℕ) → Configuration → Configuration → Type 0) (W : ℕ → ℕ → Configuration → Configuration → Type 0) (G : Store
    → Type 0) (law : FlatLaw w (λ c d. c ≡ d) L W G) (Known : Held → Type 0) (wl : WrittenLaw w Known) (hl : HaltLaw w W) (none : w.asserts ≡ false) (holds : HoldsLaw w W)
    (known_again : KnownLaw w Known) (apart : ApartLaw w W) where
  module _ (n spare top : ℕ) (e : Entry) (c b : Configuration) (l : Left) (k i : ℕ) (args : List Value) (d : Configuration) (a : Answer) (os : List Outcome) (ticks : ℕ)
      (u : Unwinding w ft sl L W G law Known n spare top e c b l k i args d a os ticks) (fits_len : Room w.original w.settings.policy (stack_of (base w) d) ≤ w.plan.area.len) (t : Store)
      (hp : HoldsPause w.original w.written w.settings w.which w.plan d t) (count : length t.globals ≡ gl w + 2) where
    wide : 8 ≤ w.plan.area.len
    wide = ft.least u.lets

    -- ---- the store

    like : Alike (setting w top) d.store t
    like = let cd = u.called in alike_held (setting w top) d.store (cd.at).store t cd.alike hp.same hp.state count hp.table

    inside_t : w.plan.area.at + w.plan.area.len ≤ length t.memory
    inside_t = let r = sl.ready top d.store t like wide u.small in r.inside

    -- ---- the stack

    there : HeldThere w W top i d (u.called).flat_at.here.taken t.memory (w.plan.area.at + 8)
    there =
        let img = hp.image in let rg = hp.ranges in let mi = rg.memory in let z = inside_t in let cd = u.called in
        holds top i d cd.flat_at ((cd.at).here ∷ (cd.at).under) u.stopped cd.waits u.numbered u.locals t.memory (w.plan.area.at + 8) mi.each (omega arith) img.frames

    stand : FlatStands w (λ c d. c ≡ d) L W G top i d there.flat (there.here ∷ there.under) there.st
    stand = law.stands top i d there.flat (there.here ∷ there.under) there.st there.waits u.numbered there.fit

    lv : AreLevels (gl w) w.plan.area (setting w top) (there.here ∷ there.under) (levels_of (setting w top) w.lay there.st)
    lv = stopped_are_levels (gl w) w.plan.area (setting w top) w.lay i _ _ there.st (ft.paired top) stand.may

    some : LevelsOf w top (stack_of (base w) d) there.here there.under (levels_of (setting w top) w.lay there.st)
    some = levels_are w top (stack_of (base w) d) there.here there.under (levels_of (setting w top) w.lay there.st) lv.acts lv.fit lv.chain stand.stand stand.weigh

    halves_there : ApartSums w.original (param_count (func_type_at w.flat top)) (some.v ∷ some.vs) (stack_of (base w) d)
    halves_there =
        subst (λ ws. ApartSums w.original (param_count (func_type_at w.flat top)) ws (stack_of (base w) d)) some.are
        (apart top i d there.flat (there.here ∷ there.under) there.st there.waits u.numbered there.fit)

    -- the call takes what it took
    took_there : Took (param_count (func_type_at w.written i)) args (some.v).taken
    took_there =
        let cd = u.called in
        subst (Took (param_count (func_type_at w.written i)) args)
        (stopped_taken (setting w top) i _ _ u.stopped (cd.flat_at).here (cd.at).here (cd.flat_at).under (cd.at).under refl refl ∙ sym there.took ∙ ap (λ (b : Activation). b.taken) some.here_is)
        (call_took w.written cd.mid cd.at cd.j i args cd.asks_there cd.all_there)

    hangs : Hangs w ft sl L W G law top i e d
    hangs = record {
      flat = there.flat;
      waits = there.waits;
      here = there.here;
      under = there.under;
      st = there.st;
      may = stand.may;
      v = some.v;
      vs = some.vs;
      are = some.are;
      fits = some.fits;
      chain = some.chain;
      room = let h = some.held in subst (λ q. q ≤ w.plan.area.len) h.room fits_len;
      deep =
          let c = under_deep (sides w top) i _ _ (waits_law (setting w top) i _ _ there.st) (omega arith) in
          let l1 : length there.under ≡ length some.vs = ap length some.under_is ∙ length-map some.vs activation_of in
          omega arith;
      args = args;
      took = took_there;
      is_top = u.is_top;
    }

    sus : SuspendedIn w.plan.area t (some.v ∷ some.vs)
    sus =
        let img = hp.image in let h = some.held in
        let z : w.plan.area.at + Room w.original w.settings.policy (stack_of (base w) d) ≡ w.plan.area.at + 8 + total_size (some.v ∷ some.vs) = let r = h.room in omega arith in
        record {
          frames = subst (HoldsStack t.memory (w.plan.area.at + 8)) some.are there.holds;
          location = subst (λ q. HoldsBytes t.memory w.plan.area.at (word q)) z img.location;
          limit = img.limit;
        }

    -- ---- back

    known3 : Known (held_at_pause w.written w.plan e i a t (with_outcomes l os))
    known3 =
        let cd = u.called in
        let sm = hp.same in let sz = sm.size in
        let w1 = sl.same_end top d.store (cd.at).store cd.alike in
        let w2 = let q = sl.ready top d.store (cd.at).store cd.alike wide u.small in sl.words (cd.at).store wide q.inside in
        let z1 = w1.size in let z2 = w2.size in
        known_again e i a (with_words (cd.at).store w.plan.area) (xp w).start_unwind (V.I32 w.plan.area.at ∷ []) cd.at (with_outcomes l os) t u.known hp.fits hp.ranges (omega arith)

    abbrev Back : Said → Type 0
    Back said =
        BehavesFrom w.original w.settings w.written w.plan w.which (n - suc k) d.store (record { import = i; args = args }) (stack_of (base w) d) (answer_notes said (poked d.store a.pokes))
        (goes_on_told said e d (poked d.store a.pokes) (with_outcomes l os)) (held_at_pause w.written w.plan e i a t (with_outcomes l os))

    back_told : (said : Said) → a.said ≡ said → Back said
    unfolding hangs some
    back_told (S.Value v) is =
        hanging_goes_on w ft sl L W G law Known wl hl none (n - suc k) top i e a (with_outcomes l os) d hangs t like sus u.numbered u.answer u.passes u.lets u.rest known3 halves_there v is
        (subst (λ said. Allowed w (n - suc k) (goes_on_told said e d (poked d.store a.pokes) (with_outcomes l os))) is u.allowed)
    back_told S.Trap is =
        hanging_traps w ft sl L W G law Known wl hl none (n - suc k) top i e a (with_outcomes l os) d hangs t like sus u.numbered u.answer u.passes u.lets u.rest known3 halves_there is

    -- A STORE THAT HOLDS THE PAUSE comes back
    pub behaves_back : Back a.said
    behaves_back = back_told a.said refl
