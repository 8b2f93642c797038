-- Programs are put where a snapshot has them, and told.
use Rattle.std.proofs.Common.{List, map, refl, sym, subst}
use Rattle.std.specs.List.{AllZip}
use Rattle.std.proofs.lemmas.Result.{IfErr-weaker}
use Rattle.wa_types.specs.declared.syntax.Module.{Module}
use Rattle.snapshot_store.specs.Views.{record_of, snapshot_of}
use Rattle.script_command.specs.Views.{CanStage, parts_of}
use Rattle.script_command.specs.SnapshotViews.{IsPutStop, IsToldStop}
use Rattle.script_command.proofs.Steps.{few_resumed, held_fits, put_told, resumed_parts, suited_parts, thaw_counts, thaw_stops, thaw_told}
use Rattle.script_command.proofs.continuing.continue_from.Goals as goal

pub resume_all-requires-clause-can : goal.resume_all-requires-clause-can
resume_all-requires-clause-can g c = subst (λ (ms : List Module). AllZip CanStage ms c.args.opened.programs.planned.items) (sym c.deref.ensures.value) c.requires.plays.each

pub tell_rest-requires-clause-few : goal.tell_rest-requires-clause-few
tell_rest-requires-clause-few g c =
    few_resumed c.deref.result.now c.args.opened.programs.planned.items (snapshot_of c.args.snapshot) _
    (subst (λ (ms : List Module). AllZip CanStage ms c.args.opened.programs.planned.items) (sym c.deref.ensures.value) c.requires.plays.each) c.requires.plays.few c.in-Ok.ensures.resumed

pub tell_rest-requires-clause-events : goal.tell_rest-requires-clause-events
tell_rest-requires-clause-events g c = c.in-Ok.ensures.resumed.suits.events

pub tell_rest-requires-clause-resumed : goal.tell_rest-requires-clause-resumed
tell_rest-requires-clause-resumed g c =
    (parts_of c.deref.result.now c.args.opened.programs.planned.items, map record_of c.args.snapshot.programs.items, c.in-Ok.ensures.resumed.are)

pub returns-in-Ok-clause-does : goal.returns-in-Ok-clause-does
returns-in-Ok-clause-does g c = λ files name snap f f' s s' opens held.
    let stand = resumed_parts c.args.opened.programs.planned.items c.deref.result.now c.args.opened.programs.modules.items opens.play.run.parts (snapshot_of c.args.snapshot) _ opens.parts_are
    c.deref.ensures.value c.in-Ok.ensures.resumed in
    c.tell_rest.ensures.does files name snap f f' s s' opens.play (snapshot_of c.args.snapshot) (held_fits files snap opens.play.run.parts (snapshot_of c.args.snapshot) _ held stand) refl
    stand.are opens.detaches_are

pub returns-in-Ok-clause-told : goal.returns-in-Ok-clause-told
returns-in-Ok-clause-told g c = IfErr-weaker c.tell_rest.result IsPutStop IsToldStop put_told c.tell_rest.ensures.told

pub returns-in-Err-clause-does : goal.returns-in-Err-clause-does
returns-in-Err-clause-does g c = λ files name snap f f' s s' opens held.
    thaw_stops name snap files f f' s s' _ _ opens.play c.in-Err.fault c.thaw_stop.result c.thaw_stop.ensures _ (snapshot_of c.args.snapshot) held
    (λ e suits. c.in-Err.ensures.unfit e
    (suited_parts c.args.opened.programs.planned.items c.deref.result.now c.args.opened.programs.modules.items opens.play.run.parts (snapshot_of c.args.snapshot) opens.parts_are
    c.deref.ensures.value suits))

pub returns-in-Err-clause-told : goal.returns-in-Err-clause-told
returns-in-Err-clause-told g c = thaw_told c.in-Err.fault c.thaw_stop.result c.thaw_stop.ensures

pub returns-in-Err-clause-counts : goal.returns-in-Err-clause-counts
returns-in-Err-clause-counts g c = λ f f' s s' fetched saved. thaw_counts c.in-Err.fault c.thaw_stop.result c.thaw_stop.ensures f f' s s' _ fetched saved
