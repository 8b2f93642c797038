-- What is known of the written module where its stack is about to unwind is known at the pause, over any store that fits.
use Rattle.std.proofs.Common.{[], arith, length, ◌*◌, ◌<◌, ◌^◌, ◌≡◌, List, ℕ}
use Rattle.std.proofs.lemmas.List.Elements.{All-cons, All-nil}
use Rattle.wa_types.specs.Memory.{page_size}
use Rattle.wa_types.specs.Sizes.{value_fits}
use Rattle.wa_types.specs.Validity.{Valid}
use Rattle.wa_types.specs.declared.values.Value.{Value}
use Rattle.wa_types.specs.declared.values.Value.TheVariants as V
use Rattle.wa_model.specs.Blocking.{Left}
use Rattle.wa_model.specs.Configuration.{Configuration}
use Rattle.run_theory.specs.Fitting.{StoreFits}
use Rattle.wa_model.specs.Outside.{Answer}
use Rattle.wa_model.specs.Plan as L
use Rattle.wa_model.specs.Plan.{AreaFits, Entry}
use Rattle.wa_model.specs.Protocol.{Held, calling, give_zero, unwinds}
use Rattle.wa_model.specs.Store.{Store}
use Rattle.run_laws.specs.Ranges.{CodesIn, StoreIn}
use Rattle.run_laws.specs.FittingStates.{ExportsTyped}
use Rattle.headline.specs.Given.{LetsPause}
use Rattle.headline.specs.World.{World}
use Rattle.headline.proofs.WrittenKnown.{Known, KnownIf}
use Rattle.image_laws.specs.Image.{held_at_pause}

-- ---- what is asked

-- What is known where the stack is about to unwind is known at the pause, over any store that fits.
abbrev pub KnownLaw : (w : World) (Known : Held → Type 0) → Type 0
KnownLaw w Known =
    (e : Entry) (i : ℕ) (a : Answer) (s : Store) (x : ℕ) (args : List Value) (c : Configuration) (l : Left) (t : Store) → Known (calling (unwinds e i a) s x args (give_zero c) l)
    → StoreFits w.written t → StoreIn 0 t → length t.memory ≡ length s.memory → Known (held_at_pause w.written w.plan e i a t l)

-- What is known says that the store fits, if the plan lets some import pause.
abbrev pub FitsLaw : (w : World) (Known : Held → Type 0) → Type 0
FitsLaw w Known =
    LetsPause w.plan → (e : Entry) (i : ℕ) (a : Answer) (t : Store) (l : Left) → Known (held_at_pause w.written w.plan e i a t l) → StoreFits w.written t × StoreIn 0 t

-- ---- so it is

module _ (w : World) (v : Valid w.written) (fits : LetsPause w.plan → L.Fits w.written w.plan) (area : LetsPause w.plan → AreaFits w.written w.plan.area) (ex : ExportsTyped w.written)
    (codes : CodesIn w.written) where
  pub known_again : KnownLaw w (KnownIf w v fits area ex codes)
  known_again e i a s x args c l t kn tf tr size lets =
      let known : Known w.written v w.plan (fits lets) (area lets) ex codes (calling (unwinds e i a) s x args (give_zero c) l) = kn lets in
      let h = known.fits in
      let r = known.ranges in
      let ar = area lets in
      let inside = ar.inside in
      let in_size = r.2 in
      let low = r.1 in
      let st = in_size.1 in
      let mem = st.memory in
      let least = mem.least in
      let pages = mem.pages in
      let most = pages.bounded in
      let tm = tr.memory in
      let z : 1024 * page_size < 2 ^ 32 = omega arith in
      let small : w.plan.area.at < 2 ^ 32 = omega arith in
      record {
        fits = (tf, ex.start_rewind, h.2, tt, h.4);
        ranges = (
          r.0,
          r.1,
          (
            (in_size.0, tr),
            record { globals = tr.globals; memory = record { each = tm.each; pages = tm.pages; least = omega arith } },
            All-cons value_fits (V.I32 w.plan.area.at) [] small (All-nil value_fits),
            tt,
            in_size.4,
          ),
        );
      }

  pub fits_known : FitsLaw w (KnownIf w v fits area ex codes)
  fits_known lets e i a t l kn =
      let known : Known w.written v w.plan (fits lets) (area lets) ex codes (held_at_pause w.written w.plan e i a t l) = kn lets in
      let h = known.fits in
      let r = known.ranges in
      let in_size = r.2 in
      let st = in_size.1 in
      let mem = st.memory in
      (h.0, record { globals = st.globals; memory = record { each = mem.each; pages = mem.pages; least = omega arith } })
