use Rattle.std.proofs.Common.{◌≡◌, None, Some, refl, sym, ap, ◌∙◌, subst}
use Rattle.wa_model.specs.Outside.{ended}
use Rattle.interp.specs.Host.{store_in, waits_in}
use Rattle.pause_host.specs.Views.{exports_in, left_of}
use Rattle.pause_host.specs.Programs.{RunsCode, FollowsAt, place_of, behind_end, end_at, ends_at}
use Rattle.pause_host.specs.declared.program.State.TheVariants.{Fresh, Live, Lost}
use Rattle.pause_host.proofs.Advancing.{in_state, ended_stage, on_its_way}
use Rattle.std.proofs.lemmas.Result.{IfOk-weaker}
use Rattle.pause_host.specs.Programs.{stops_at}
use Rattle.pause_host.proofs.Stopping.{live_stops, none_left, stops_behind, stops_behind_none}
use Rattle.pause_host.proofs.program.Program.step.Goals as goal

pub returns-in-Live-clause-next : goal.returns-in-Live-clause-next
returns-in-Live-clause-next g c = λ w notes os f none.
    let x = c.args.self.now in
    let i = c.in-Live.instance in
    let st = c.in-Live.stage in
    let is = sym c.replace.ensures.value ∙ c.in-Live.is in
    let at = subst (λ z. FollowsAt w notes os x (place_of x z)) is f.at in
    let code = subst (RunsCode w.source) is f.code in
    let more = sym (ended_stage (exports_in x.setting.exports) x.setting.area (left_of x.left) (store_in i) (waits_in i) st) ∙ ap (λ z. end_at (place_of x z)) (sym is) ∙ none in
    c.live.ensures.next w notes os (in_state w notes os x c.replace.new.dest (place_of x (Live i st)) at) code more

pub returns-in-Live-clause-again : goal.returns-in-Live-clause-again
returns-in-Live-clause-again g c = λ how told.
    let x = c.args.self.now in
    let i = c.in-Live.instance in
    let st = c.in-Live.stage in
    let is = sym c.replace.ensures.value ∙ c.in-Live.is in
    let e = sym (ended_stage (exports_in x.setting.exports) x.setting.area (left_of x.left) (store_in i) (waits_in i) st) ∙ ap (λ z. end_at (place_of x z)) (sym is) ∙ told in
    IfOk-weaker c.live.result _ _ (λ event h. (h.0, h.1 ∙ ap (λ z. record x { state = z }) (sym is), h.2, h.3)) (c.live.ensures.again how e)

pub returns-in-Live-clause-ending : goal.returns-in-Live-clause-ending
returns-in-Live-clause-ending g c = λ how told.
    let x = c.args.self.now in
    let is = sym c.replace.ensures.value ∙ c.in-Live.is in
    IfOk-weaker c.live.result _ _ (λ event h. (h.0, h.1 ∙ ap (λ z. record x { state = behind_end how z }) (sym is), h.2, h.3)) (c.live.ensures.ending how (ap ends_at (sym is) ∙ told))

pub returns-in-Fresh-clause-ending : goal.returns-in-Fresh-clause-ending
returns-in-Fresh-clause-ending g c = λ how told.
    let z : None ≡ Some how = ap ends_at (sym c.in-Fresh.is ∙ c.replace.ensures.value) ∙ told in absurd cc

pub returns-in-Failed-clause-ending : goal.returns-in-Failed-clause-ending
returns-in-Failed-clause-ending g c = λ how told.
    let x = c.args.self.now in
    let is = sym c.replace.ensures.value ∙ c.in-Failed.is in
    let same : Some c.in-Failed.end ≡ Some how = ap ends_at (sym is) ∙ told in
    let end : c.in-Failed.end ≡ how = cc in
    IfOk-weaker c.fail.result _ _ (λ event h. (h.0 ∙ ap ended end, h.1 ∙ ap (λ z. record x { state = behind_end how z }) (sym is), refl, refl)) c.fail.ensures.again

pub open-requires : goal.open-requires
open-requires g c = on_its_way c.args.self.now c.replace.new.dest Fresh (sym c.replace.ensures.value ∙ c.in-Fresh.is) (c.requires.goes (ap ends_at (sym c.replace.ensures.value ∙ c.in-Fresh.is)))

pub live-requires : goal.live-requires
live-requires g c = λ none.
    let is = sym c.replace.ensures.value ∙ c.in-Live.is in
    on_its_way c.args.self.now c.replace.new.dest (Live c.in-Live.instance c.in-Live.stage) is (c.requires.goes (ap ends_at is ∙ none))

pub unreachable-requires : goal.unreachable-requires
unreachable-requires g c =
    let is = sym c.replace.ensures.value ∙ c.in-Lost.is in
    (on_its_way c.args.self.now c.replace.new.dest Lost is (c.requires.goes (ap ends_at is))).at.fits

pub returns-in-Live-clause-stops : goal.returns-in-Live-clause-stops
returns-in-Live-clause-stops g c = λ quiet awake.
    let is = sym c.replace.ensures.value ∙ c.in-Live.is in
    live_stops c.args.self.now c.live.result c.live.new.self c.in-Live.instance c.in-Live.stage is quiet awake c.live.ensures.receives c.live.ensures.stops

pub returns-in-Fresh-clause-stops : goal.returns-in-Fresh-clause-stops
returns-in-Fresh-clause-stops g c = λ quiet awake.
    let x = c.args.self.now in
    let none = none_left x quiet (ap stops_at (sym c.replace.ensures.value ∙ c.in-Fresh.is)) in
    stops_behind_none x c.open.result c.open.new.self none (c.open.ensures.receives none)

pub returns-in-Failed-clause-stops : goal.returns-in-Failed-clause-stops
returns-in-Failed-clause-stops g c = λ quiet awake. stops_behind c.args.self.now c.fail.result c.fail.new.self c.fail.ensures.stops
