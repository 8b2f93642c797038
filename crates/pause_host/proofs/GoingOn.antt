-- A program that is put back at a pause goes on as the program of a world that begins there.
use Rattle.std.proofs.Common.{arith, ◌≡◌, ◌≤◌, ◌<◌, ◌+◌, ◌-◌, ◌*◌, ℕ, suc, List, [], ◌∷◌, map, drop, length, length-drop, Option, Some, All, true, false, refl, sym, ap, ◌∙◌, subst}
use Rattle.std.specs.Prelude.{slice_get}
use Rattle.std.proofs.lemmas.List.{length-map}
use Rattle.std.proofs.lemmas.List.Elements.{All-drop}
use Rattle.wa_types.specs.declared.values.ValType.{ValType}
use Rattle.wa_types.specs.declared.values.Value.TheVariants as V
use Rattle.wa_types.specs.Memory.{page_size}
use Rattle.wa_types.specs.Modules.{all_memories, func_imports, func_type_at, imported, imported_global}
use Rattle.wa_types.specs.Syntax.{Module}
use Rattle.wa_types.specs.Sizes.{SizeRule}
use Rattle.wa_types.specs.Validity.{Valid}
use Rattle.wa_model.specs.Blocking.{Left, bad_value}
use Rattle.wa_model.specs.Instantiation.{least_of}
use Rattle.wa_model.specs.Outside.{Answer}
use Rattle.wa_model.specs.Plan as P
use Rattle.wa_model.specs.Protocol.{Held, calling, rewinds, call_again, exports_of}
use Rattle.wa_model.specs.Store.{Store}
use Rattle.wa_model.specs.View.{answer_line_of}
use Rattle.world_model.specs.World as W
use Rattle.world_model.specs.World.{Halt, Look, halted_in}
use Rattle.run_theory.specs.Fitting.{StoreFits, types_of, global_types}
use Rattle.run_theory.proofs.FittingNames.{results_are}
use Rattle.run_laws.specs.FittingStates.{EntryTyped, HeldFits, SaidTyped}
use Rattle.run_laws.proofs.Host.{fault_pokes}
use Rattle.run_laws.proofs.SpotRuns.{or_else_first, said_typed}
use Rattle.host_laws.specs.Places.{stands}
use Rattle.host_laws.specs.Stories.{IsAt}
use Rattle.host_laws.proofs.Tellings.{nothing_told_yet}
use Rattle.host_setup.specs.Views as S
use Rattle.snapshot_store.specs.Snapshots.{PausedParts}
use Rattle.pause_host.specs.declared.plan.Plan.{Plan}
use Rattle.pause_host.specs.declared.program.Program.{Program}
use Rattle.pause_host.specs.declared.stages.HostImport.{HostImport}
use Rattle.pause_host.specs.declared.program.State.{State}
use Rattle.pause_host.specs.declared.program.State.TheVariants.{Fresh, Live, Failed, Lost}
use Rattle.pause_host.specs.declared.stages.Setting.{Setting}
use Rattle.pause_host.specs.declared.stages.Stage.TheVariants.{Free, Answering, Giving, Pausing, Paused, Ending, Ended}
use Rattle.pause_host.specs.Holding.{HeldHolds, PlaceHolds, PokesInside}
use Rattle.pause_host.specs.Moves.{HasShortPokes, IsSetting, PlaceFits}
use Rattle.pause_host.specs.Parting.{parts_at}
use Rattle.pause_host.specs.Programs.{BindsAs, FollowsAt, IsPlan, is_at_pause, named_entries, place_of, source_of, world_program}
use Rattle.pause_host.specs.Settings.{calls_of}
use Rattle.pause_host.specs.Thawing.{GoesOnFrom, PartsSuit, StandsThawed, halt_of, halted_program, lines_of, tested_plan}
use Rattle.pause_host.proofs.Beginning.{calls_few, lawful_area, setting_is}
use Rattle.pause_host.proofs.Making.{SetUpFine, set_up_fine}
use Rattle.pause_host.proofs.Thawings.{all_at, inside}

-- a program of which there are parts stands at a pause
parts_paused : (x : Program) (state : State) (parts : PausedParts) → parts_at x state ≡ Some parts → is_at_pause state ≡ true
parts_paused x (Live instance (Paused pause)) parts e = refl
parts_paused x (Live instance Free) parts e = cc
parts_paused x (Live instance (Answering task answer)) parts e = cc
parts_paused x (Live instance (Giving task value)) parts e = cc
parts_paused x (Live instance (Pausing pause)) parts e = cc
parts_paused x (Live instance (Ending end)) parts e = cc
parts_paused x (Live instance (Ended end)) parts e = cc
parts_paused x Fresh parts e = cc
parts_paused x (Failed how) parts e = cc
parts_paused x Lost parts e = cc

-- a setting doesn't say where the program begins
from_here : (w : W.Program) (o : W.Origin) (x : Setting) → IsSetting w x → IsSetting (record w { origin = o }) x
from_here w o x is = record {
  valid = is.valid;
  typed = is.typed;
  memory = is.memory;
  exports = is.exports;
  area = is.area;
  others = is.others;
  listed = is.listed;
  steps = is.steps;
  names = is.names;
  bases = is.bases;
  binds = is.binds;
  results = is.results;
  all = is.all;
}

module _ (x : Plan) (parts : PausedParts) (memory : List ℕ) (suits : PartsSuit x parts) (program : Program) (there : StandsThawed x parts memory suits program) (plan : IsPlan x)
    (v : Valid (source_of x)) (sizes : SizeRule (source_of x)) (whole : length memory ≡ parts.pages * page_size) where
  abbrev p : Module
  p = source_of x

  abbrev calls : List P.Entry
  calls = calls_of (named_entries x) there.funcs

  abbrev answer : Answer
  answer = suits.answer.line.answer

  abbrev results : List ValType
  results = (func_type_at p parts.import).results

  abbrev put_back : Store
  put_back = record { globals = parts.globals; memory = memory; table = suits.globals.opened.table }

  abbrev left : Left
  left = record { number = parts.entry; entries = drop (suc parts.entry) calls; outcomes = [] }

  abbrev held : Held
  held = calling (rewinds there.entry parts.import answer put_back) put_back (exports_of p).start_rewind (V.I32 x.area.at ∷ []) call_again left

  fine : SetUpFine p v x.area (named_entries x) there.funcs
  fine = set_up_fine p v x.area (named_entries x) there.funcs there.is_set_up

  -- ---- all code has its type

  said : SaidTyped p parts.import answer.said
  said = said_typed p parts.import results answer.said (results_are p v parts.import) (or_else_first (bad_value results parts.import answer.said) _ suits.answer.passes)

  import_there : (w : W.Program) → w.source ≡ p → IsSetting w program.setting → parts.import < func_imports p
  import_there w e is =
      let names = map (λ (i : HostImport). i.name) program.setting.imports.items in
      let at : slice_get names parts.import ≡ Some suits.answer.line.import =
      ap (λ ns. slice_get ns parts.import) (sym is.names ∙ ap W.import_names e) ∙ suits.answer.names in
      let lt : parts.import < length names = inside parts.import names suits.answer.line.import at in
      let many : length names ≡ length program.setting.imports.items = length-map program.setting.imports.items (λ (i : HostImport). i.name) in
      let all : length program.setting.imports.items ≡ func_imports p = is.all ∙ ap func_imports e in
      omega (arith, lt, many, all)

  entry_typed : EntryTyped p there.entry
  entry_typed = all_at (EntryTyped p) parts.entry calls there.entry fine.entries there.entry_is

  fits : (w : W.Program) → w.source ≡ p → IsSetting w program.setting → StoreFits p put_back → HeldFits p held
  fits w e is store =
      (store, fine.exports.start_rewind, (entry_typed, said, import_there w e is), tt, All-drop (EntryTyped p) (suc parts.entry) calls fine.entries)

  -- ---- what it holds

  holds : HeldHolds x.area held
  holds =
      let room = lawful_area (least_of (all_memories p)) x.area fine.area_fits in
      let least = suits.pages.least in
      let inside_it : x.area.at + x.area.len ≤ length memory = omega (arith, room.1, least, whole) in
      let few = calls_few (named_entries x) there.funcs in
      let many : length (named_entries x) ≡ length x.entries.items = length-map x.entries.items S.entry_of in
      let rest = length-drop (suc parts.entry) calls in
      let entry = suits.entry in
      let most = plan.entries in (
        record { wide = room.0; inside = inside_it },
        (
          omega (arith, few, many, rest, entry, most),
          subst (λ n. PokesInside n answer.pokes) (sym whole) (fault_pokes results (parts.pages * page_size) (tested_plan x) false parts.import answer suits.answer.passes),
        ),
      )

  -- ---- it goes on

  module _ (store : StoreFits p put_back) (due : ℕ) (looks : List Look) (binds : List (Option (List ℕ))) (bound : BindsAs x binds) where
    abbrev halt : Halt
    halt = halt_of x parts memory suits due

    abbrev w : W.Program
    w = halted_program x halt there.funcs looks binds

    setting : IsSetting w program.setting
    setting = from_here (world_program x there.funcs looks binds) (W.at_pause halt) program.setting (setting_is x there.funcs looks binds bound plan v there.is_set_up program.setting there.setting)

    told : IsAt w [] [] (x.steps - parts.steps_used) (stands [] held)
    told = subst (λ o. IsAt w [] [] (x.steps - parts.steps_used) (stands [] (halted_in p w.plan halt [] o))) there.entry_is (nothing_told_yet w)

    at : FollowsAt w [] [] program (place_of program program.state)
    at = record {
      source = sym there.source;
      sizes = sizes;
      setting = setting;
      globals = subst (λ g. types_of g.items ≡ global_types (imported imported_global p)) (sym there.globals) plan.globals;
      pokes = subst (All HasShortPokes) (sym there.lines) (All-drop HasShortPokes parts.answers (lines_of x) plan.pokes);
      given = there.given ∙ sym (length-map x.answers.items answer_line_of);
      fits = subst (PlaceFits w) (sym there.place) (fits w refl setting store);
      holds = subst (PlaceHolds w) (sym there.place) holds;
      few_steps = plan.few_steps;
      told = subst (IsAt w [] [] program.steps_left) (sym there.place) (subst (λ n. IsAt w [] [] n (stands [] held)) (sym there.steps) told);
    }

  pub goes_on : StoreFits p put_back → GoesOnFrom x parts memory suits there.funcs program
  goes_on store = λ due looks binds bound. record { at = at store due looks binds bound; code = there.code; paused = parts_paused program program.state parts there.parts_are }
