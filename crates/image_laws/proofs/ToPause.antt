-- Where the rewritten module is about to unwind: it comes to the pause, and its store holds it.
use Rattle.std.proofs.Common.{List, [], ap, arith, length, map, refl, subst, suc, sym, ℕ, ◌*◌, ◌+◌, ◌∙◌, ◌∷◌, ◌≡◌, ◌≤◌, ◌++◌, Some}
use Rattle.std.specs.List.{sum_by}
use Rattle.std.specs.Prelude.{slice_get}
use Rattle.wa_types.specs.Frames.{Room}
use Rattle.wa_types.specs.Modules.{func_type_at}
use Rattle.wa_types.specs.declared.values.Value.{Value}
use Rattle.wa_types.specs.declared.values.Value.TheVariants as V
use Rattle.run_theory.proofs.Runs.{leads_on}
use Rattle.wa_model.specs.Blocking.{Left, Note, an_entry, call_note, events_of, note, with_outcomes}
use Rattle.wa_model.specs.Configuration.{Configuration, stack_of}
use Rattle.wa_model.specs.Expected.{pause_note}
use Rattle.wa_model.specs.Machine.{Leads, moves, stays}
use Rattle.wa_model.specs.Outside.{Answer, paused}
use Rattle.wa_model.specs.Plan.{Entry, Outcome}
use Rattle.wa_model.specs.Protocol.{Held, busy, calling, give_zero, is_running, unwinds, with_words}
use Rattle.wa_model.specs.Step.{param_count}
use Rattle.wa_model.specs.Store.{Store}
use Rattle.frame_laws.specs.FrameMemory.{AreaAt}
use Rattle.frame_laws.specs.Stack.{activation_of, total_size}
use Rattle.guard_runs.proofs.WaitingLevels.{stopped_are_levels}
use Rattle.guard_runs.specs.Alike.{Alike}
use Rattle.guard_runs.specs.Levels.{AreLevels, levels_of}
use Rattle.headline.specs.FlatLaw.{FlatLaw, FlatStands}
use Rattle.headline.specs.StoreLaws.{StoreLaws}
use Rattle.headline.specs.World.{World, WorldFits, base, setting}
use Rattle.headline.specs.WrittenRuns.{WrittenLaw}
use Rattle.headline.proofs.FlatStretches.{Sil, Sm, gl, pr, xp}
use Rattle.headline.proofs.Pauses.{LevelsOf, levels_are, same_config, ticks_are}
use Rattle.headline.proofs.Simulation.{known_along}
use Rattle.headline.proofs.ToldMoves.{silent_quiet}
use Rattle.guard_runs.proofs.Pausing.{pauses_law}
use Rattle.guard_runs.specs.Pause.{AreaReady, PausesAt, at_import}
use Rattle.guard_runs.specs.UnseenMoves.{GoesUnseen}
use Rattle.run_laws.proofs.Keeping.{same_on}
use Rattle.image_laws.specs.Image.{HoldsPause, held_at_pause, unwind_bound}
use Rattle.image_laws.proofs.Apart.{ApartLaw, ApartSums, unwound_all}
use Rattle.image_laws.proofs.KnownAgain.{FitsLaw}
use Rattle.image_laws.proofs.SameStores.{got_back}
use Rattle.image_laws.proofs.Unwinding.{Unwinding, begins_unwind}

-- The rewritten module comes from here to a pause, with its store.
pub record Paused (w : World) (spare : ℕ) (e : Entry) (d : Configuration) (k i : ℕ) (args : List Value) (a : Answer) (ticks : ℕ) (lo : Left) (b : Held) : Type 0 where
  pub cost : ℕ
  pub made : List Note
  pub store : Store
  pub leads : Leads (pr w) b cost made (held_at_pause w.written w.plan e i a store lo)
  pub few : cost ≤ 256 * suc k + (128 + sum_by (unwind_bound w.original) (stack_of (base w) d)) + spare
  pub told : events_of made ≡ events_of (call_note i args d.store (stack_of (base w) d) (Some ticks)
      ∷ pause_note ticks (Room w.original w.settings.policy (stack_of (base w) d)) d.store (stack_of (base w) d) ∷ [])
  pub holds : HoldsPause w.original w.written w.settings w.which w.plan d store

module _ (w : World) (ft : WorldFits w) (sl : StoreLaws w) (L : (top spare : ℕ) → Configuration → Configuration → Type 0) (W : ℕ → ℕ → Configuration → Configuration → Type 0) (G : Store
    → Type 0) (law : FlatLaw w (λ c d. c ≡ d) L W G) (Known : Held → Type 0) (wl : WrittenLaw w Known) (fits_known : FitsLaw w Known) (apart : ApartLaw w W) where
  module _ (n spare top : ℕ) (e : Entry) (c b : Configuration) (l : Left) (k i : ℕ) (args : List Value) (d : Configuration) (a : Answer) (os : List Outcome) (ticks : ℕ)
      (u : Unwinding w ft sl L W G law Known n spare top e c b l k i args d a os ticks) (fits_len : Room w.original w.settings.policy (stack_of (base w) d) ≤ w.plan.area.len) where
    abbrev at : Configuration
    at = (u.called).at

    abbrev lo : Left
    lo = with_outcomes l os

    abbrev b0 : Held
    b0 = busy (is_running (an_entry e)) b l

    abbrev b1 : Held
    b1 = busy (is_running (an_entry e)) (u.called).mid l

    abbrev b2 : Held
    b2 = begins_unwind w ft sl L W G law Known e i a (u.called).at (with_outcomes l os)

    wide : 8 ≤ w.plan.area.len
    wide = ft.least u.lets

    rdy : AreaReady (gl w) (gl w) (suc (gl w)) w.plan.area at.store
    rdy = let cd = u.called in sl.ready top d.store (cd.at).store cd.alike wide u.small

    stand : FlatStands w (λ c d. c ≡ d) L W G top i d (u.called).flat_at (at.here ∷ at.under) u.stopped
    stand = let cd = u.called in law.stands top i d cd.flat_at ((cd.at).here ∷ (cd.at).under) u.stopped cd.waits u.numbered u.locals

    lv : AreLevels (gl w) w.plan.area (setting w top) (at.here ∷ at.under) (levels_of (setting w top) w.lay u.stopped)
    lv = stopped_are_levels (gl w) w.plan.area (setting w top) w.lay i _ _ u.stopped (ft.paired top) stand.may

    some : LevelsOf w top (stack_of (base w) d) at.here at.under (levels_of (setting w top) w.lay u.stopped)
    some = levels_are w top (stack_of (base w) d) at.here at.under (levels_of (setting w top) w.lay u.stopped) lv.acts lv.fit lv.chain stand.stand stand.weigh

    halves_there : ApartSums w.original (param_count (func_type_at w.flat top)) (some.v ∷ some.vs) (stack_of (base w) d)
    halves_there =
        let cd = u.called in
        subst (λ ws. ApartSums w.original (param_count (func_type_at w.flat top)) ws (stack_of (base w) d)) some.are
        (apart top i d cd.flat_at ((cd.at).here ∷ (cd.at).under) u.stopped cd.waits u.numbered u.locals)

    in_room : 8 + total_size (some.v ∷ some.vs) ≤ w.plan.area.len
    in_room = let h = some.held in subst (λ q. q ≤ w.plan.area.len) h.room fits_len

    pa : PausesAt (gl w) (gl w) (suc (gl w)) w.written (xp w) w.plan e i a (with_outcomes l os) at.store some.v some.vs
    pa = pauses_law (gl w) (gl w) (suc (gl w)) w.written (xp w) w.plan e i a lo at.store some.v some.vs ft.runtime rdy some.fits in_room

    q1 : Sil w d.store b2 pa.cost pa.at
    q1 =
        let cfg : at_import at.store some.v some.vs ≡ at = same_config at (activation_of some.v) (map activation_of some.vs) some.here_is some.under_is in
        let r = rdy in
        let cd = u.called in
        let same : Sm w d.store (cd.at).store = sl.same_end top d.store (cd.at).store cd.alike in
        silent_quiet w.original w.settings w.which w.written (xp w) w.plan d.store b2 pa.at pa.cost
        (subst (λ q. GoesUnseen (gl w) w.plan.area w.written (xp w) w.plan (calling (unwinds e i a) (with_words at.store w.plan.area) (xp w).start_unwind (V.I32 w.plan.area.at ∷ [])
        (give_zero q) lo) pa.cost pa.at) cfg pa.before)
        (same_on (gl w) w.plan.area d.store at.store (with_words at.store w.plan.area) same (sl.words at.store wide r.inside))

    abbrev b4 : Held
    b4 = held_at_pause w.written w.plan e i a pa.store (with_outcomes l os)

    abbrev x1 : Note
    x1 = call_note i args d.store (stack_of (base w) d) (Some ticks)

    abbrev y1 : Note
    y1 = call_note i args at.store (stack_of w.written at) (Some ticks)

    abbrev y2 : Note
    y2 = note (paused a.ticks (8 + total_size (some.v ∷ some.vs))) pa.store

    leads2 : Leads (pr w) b2 (pa.cost + (suc 0 + 0)) ([] ++ ((y2 ∷ []) ++ [])) b4
    leads2 = let q = q1 in leads_on Held Note (pr w) b2 pa.at b4 pa.cost (suc 0 + 0) [] ((y2 ∷ []) ++ []) q.leads (moves pa.tells stays refl refl)

    leads1 : Leads (pr w) b0 ((u.called).cost + (suc (u.called).j + 0)) ([] ++ ((y1 ∷ []) ++ [])) b2
    leads1 =
        let cd = u.called in let q = cd.silent in
        leads_on Held Note (pr w) b0 b1 b2 cd.cost (suc cd.j + 0) [] ((y1 ∷ []) ++ []) q.leads (moves u.tells stays refl refl)

    whole_way : Leads (pr w) b0 ((u.called).cost + (suc (u.called).j + 0) + (pa.cost + (suc 0 + 0))) (y1 ∷ y2 ∷ []) b4
    whole_way = let cd = u.called in leads_on Held Note (pr w) b0 b2 b4 (cd.cost + (suc cd.j + 0)) (pa.cost + (suc 0 + 0)) (y1 ∷ []) (y2 ∷ []) leads1 leads2

    few : (u.called).cost + (suc (u.called).j + 0) + (pa.cost + (suc 0 + 0)) ≤ 256 * suc k + (128 + sum_by (unwind_bound w.original) (stack_of (base w) d)) + spare
    few =
        let cd = u.called in let h = cd.few in let h2 = pa.within in
        let wa = halves_there in
        let w1 = wa.unwinds in
        let w2 = unwound_all some.v some.vs in
        omega arith

    told_so : events_of (y1 ∷ y2 ∷ []) ≡ events_of (x1 ∷ pause_note ticks (Room w.original w.settings.policy (stack_of (base w) d)) d.store (stack_of (base w) d) ∷ [])
    told_so =
        let h = some.held in
        ap (λ ev. x1.event ∷ ev ∷ []) (ap (λ q. paused q (8 + total_size (some.v ∷ some.vs))) (ticks_are a.ticks ticks u.pauses) ∙ ap (paused ticks) (sym h.room))

    like3 : Alike (setting w top) d.store pa.store
    like3 = let cd = u.called in sl.around top d.store (cd.at).store pa.store cd.alike pa.around

    holds_there : HoldsPause w.original w.written w.settings w.which w.plan d pa.store
    holds_there =
        let kn4 = known_along w Known wl b2 b4 (pa.cost + (suc 0 + 0)) _ u.known leads2 in
        let fk = fits_known u.lets e i a pa.store lo kn4 in
        let lk3 = like3 in
        let own_size = lk3.own_size in
        let z : length lk3.own + 0 ≡ gl w = omega arith in
        let g = lk3.globals' in
        let h = some.held in
        let sus = pa.suspended in
        let arnd = pa.around in
        let r3 = sl.ready top d.store pa.store lk3 wide u.small in
        let room_there = in_room in
        let area_at : AreaAt (suc (gl w)) w.plan.area pa.store (w.plan.area.at + 8 + total_size (some.v ∷ some.vs)) =
        record { address = arnd.address; location = sus.location; limit = sus.limit; low = omega arith; high = omega arith; inside = r3.inside; small = r3.small } in
        record {
          fits = fk.0;
          ranges = fk.1;
          state = ap (λ gs. slice_get gs (gl w)) g ∙ ap (slice_get (lk3.own ++ V.I32 0 ∷ lk3.address ∷ [])) (sym z) ∙ got_back lk3.own (V.I32 0 ∷ lk3.address ∷ []) 0;
          same = sl.same_end top d.store pa.store lk3;
          table = lk3.table' ∙ sym lk3.table;
          image = h.image (suc (gl w)) w.plan.area pa.store area_at sus.frames;
        }

    -- IT COMES TO THE PAUSE
    pub paused_there : Paused w spare e d k i args a ticks (with_outcomes l os) (busy (is_running (an_entry e)) b l)
    paused_there = record {
      cost = (u.called).cost + (suc (u.called).j + 0) + (pa.cost + (suc 0 + 0));
      made = y1 ∷ y2 ∷ [];
      store = pa.store;
      leads = whole_way;
      few = few;
      told = told_so;
      holds = holds_there;
    }
