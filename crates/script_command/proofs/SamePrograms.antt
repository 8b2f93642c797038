-- Which snapshots suit a script's programs doesn't depend on how its originals were rewritten.
use Rattle.std.proofs.Common.{◌≡◌, ◌∙◌, ◌*◌, ℕ, List, [], ◌∷◌, map, Some, Bool, true, false, Ok, refl, sym, ap, subst}
use Rattle.std.specs.Prelude.{All, Result}
use Rattle.std.specs.List.{AllZip}
use Rattle.std.proofs.lemmas.List.Elements.{All-head, All-tail}
use Rattle.vault_port.specs.Files.{Files}
use Rattle.wa_types.specs.declared.values.Value.{Value}
use Rattle.wa_types.specs.Memory.{page_size}
use Rattle.wa_types.specs.Syntax.{FuncType, Module}
use Rattle.wa_model.specs.Blocking.{fault_of}
use Rattle.wa_model.specs.Instantiation.{all_values, least_of, opened_by, opening}
use Rattle.wa_types.specs.Modules.{all_memories, all_tables}
use Rattle.script_model.specs.Script.{ProgramText, Script, ScriptFault}
use Rattle.script_setup.specs.SetUpRules.{SetUp}
use Rattle.snapshot_store.specs.Snapshots.{PausedParts, ProgramRecord, Snapshot, fresh, over, paused}
use Rattle.script_command.specs.declared.way.Way.TheVariants.{Run}
use Rattle.script_command.specs.Playing.{IsModule, IsStage, boxes_in}
use Rattle.script_command.proofs.ProgramModules.{one_listing, one_module}
use Rattle.script_command.proofs.SameSetUp.{same_rules, type_same, without_code}
use Rattle.script_command.proofs.WholeScripts.{one_script}
use Rattle.world_hosting.specs.Suiting.{PauseSuits, RecordSuits, SnapshotSuits}
use Rattle.world_hosting.specs.Worlds.{Part, part, world_program, world_programs}
use Rattle.script_command.specs.PlainScripts.{Play}
use Rattle.script_command.specs.SnapshotTelling.{programs_of}

-- ---- without code

-- the program over its module's outline
abbrev outlined : Part → Part
outlined x = part (without_code x.source) x.listed x.text x.given

opened_same : (m : Module) (globals : List Value) (pages entries : ℕ) (a b : Bool) → opened_by m globals pages entries a b ≡ opened_by (without_code m) globals pages entries a b
opened_same m globals pages entries true b = refl
opened_same m globals pages entries false true = refl
opened_same m globals pages entries false false = refl

opening_same : (m : Module) (imports : List Value) → opening m imports ≡ opening (without_code m) imports
opening_same m imports = opened_same m (all_values imports m) (least_of (all_memories m)) (least_of (all_tables m)) _ _

module _ (x : Part) (parts : PausedParts) where
  to_outline : PauseSuits (world_program x) parts → PauseSuits (world_program (outlined x)) parts
  to_outline h = record {
    steps = h.steps;
    entry = h.entry;
    globals = record { typed = h.globals.typed; opened = h.globals.opened; is_opened = sym (opening_same x.source x.given.globals) ∙ h.globals.is_opened; constants = h.globals.constants };
    pages = record { least = h.pages.least; most = h.pages.most };
    last = record {
      some = h.last.some;
      line = h.last.line;
      there = h.last.there;
      pauses = h.last.pauses;
      names = h.last.names;
      passes = ap (λ (t : FuncType). fault_of t.results (parts.pages * page_size) (world_program x).plan false parts.import h.last.line.answer) (sym (type_same x.source parts.import)) ∙ h.last.passes;
    };
  }

  from_outline : PauseSuits (world_program (outlined x)) parts → PauseSuits (world_program x) parts
  from_outline h = record {
    steps = h.steps;
    entry = h.entry;
    globals = record { typed = h.globals.typed; opened = h.globals.opened; is_opened = opening_same x.source x.given.globals ∙ h.globals.is_opened; constants = h.globals.constants };
    pages = record { least = h.pages.least; most = h.pages.most };
    last = record {
      some = h.last.some;
      line = h.last.line;
      there = h.last.there;
      pauses = h.last.pauses;
      names = h.last.names;
      passes = ap (λ (t : FuncType). fault_of t.results (parts.pages * page_size) (world_program x).plan false parts.import h.last.line.answer) (type_same x.source parts.import) ∙ h.last.passes;
    };
  }

-- ---- programs that differ in the code of their modules alone

record IsAlike (x y : Part) : Type 0 where
  text : x.text ≡ y.text
  outline : without_code x.source ≡ without_code y.source
  listed : x.listed ≡ y.listed
  given : x.given ≡ y.given

pause_suits : (x y : Part) (parts : PausedParts) → IsAlike x y → PauseSuits (world_program x) parts → PauseSuits (world_program y) parts
pause_suits x y parts same h =
    from_outline y parts
    (subst (λ (z : Part). PauseSuits (world_program z) parts) (λ i. part (same.outline i) (same.listed i) (same.text i) (same.given i)) (to_outline x parts h))

record_suits : (x y : Part) (r : ProgramRecord) → IsAlike x y → RecordSuits (world_program x) r → RecordSuits (world_program y) r
record_suits x y fresh same h = tt
record_suits x y (paused due parts memory) same h = (h.0, pause_suits x y parts same h.1)
record_suits x y over same h = tt

records_suit : (xs ys : List Part) (rs : List ProgramRecord) → AllZip IsAlike xs ys → AllZip RecordSuits (world_programs xs) rs → AllZip RecordSuits (world_programs ys) rs
records_suit [] [] rs same h = h
records_suit [] (y ∷ ys) rs same h = absurd same
records_suit (x ∷ xs) [] rs same h = absurd same
records_suit (x ∷ xs) (y ∷ ys) [] same h = absurd h
records_suit (x ∷ xs) (y ∷ ys) (r ∷ rs) same h = (record_suits x y r same.0 h.0, records_suit xs ys rs same.1 h.1)

-- ---- the programs of one script

abbrev text_of : Part → ProgramText
text_of x = x.text

module _ (all : Files) where
  alike : (boxes : List (List ℕ)) (x y : Part) → x.text ≡ y.text → IsStage Run boxes (Some all) x → IsStage Run boxes (Some all) y → IsAlike x y
  alike boxes x y same a b =
      let here : IsModule Run (Some all) y.text x.source x.listed = subst (λ (t : ProgramText). IsModule Run (Some all) t x.source x.listed) same a.module_is in
      let outlines = one_module all y.text Run x.source y.source x.listed y.listed here b.module_is in
      let set_up = subst (λ (t : ProgramText). Rattle.script_setup.specs.SetUpRules.set_up_rules true boxes x.source t ≡ Ok x.given) same a.set_up in
      let both : ◌≡◌ {A = Result SetUp ScriptFault} (Ok x.given) (Ok y.given) = sym set_up ∙ same_rules true boxes x.source y.source y.text outlines ∙ b.set_up in
      record { text = same; outline = outlines; listed = one_listing all y.text x.source y.source x.listed y.listed here b.module_is; given = cc }

  all_alike : (boxes : List (List ℕ)) (xs ys : List Part) → map text_of xs ≡ map text_of ys → All (IsStage Run boxes (Some all)) xs → All (IsStage Run boxes (Some all)) ys → AllZip IsAlike xs ys
  all_alike boxes [] [] e a b = tt
  all_alike boxes [] (y ∷ ys) e a b = cc
  all_alike boxes (x ∷ xs) [] e a b = cc
  all_alike boxes (x ∷ xs) (y ∷ ys) e a b =
      let head : x.text ≡ y.text = cc in
      let tail : map text_of xs ≡ map text_of ys = cc in (
        alike boxes x y head (All-head (IsStage Run boxes (Some all)) x xs a) (All-head (IsStage Run boxes (Some all)) y ys b),
        all_alike boxes xs ys tail (All-tail (IsStage Run boxes (Some all)) x xs a) (All-tail (IsStage Run boxes (Some all)) y ys b),
      )

  pub same_suits : (name : List ℕ) (p q : Play (Some all) name) (s : Snapshot) → SnapshotSuits (programs_of p) s → SnapshotSuits (programs_of q) s
  same_suits name p q s h =
      let whole = one_script all name p.run.whole q.run.whole p.run.of_script q.run.of_script in
      let texts : map text_of p.run.parts ≡ map text_of q.run.parts =
      p.run.stages.texts_are ∙ ap (λ (w : Script). w.programs) whole ∙ sym q.run.stages.texts_are in
      record {
        events = h.events;
        records = records_suit p.run.parts q.run.parts s.programs (all_alike (boxes_in q.run.whole) p.run.parts q.run.parts texts
            (subst (λ (w : Script). All (IsStage Run (boxes_in w) (Some all)) p.run.parts) whole p.run.stages.each) q.run.stages.each) h.records;
      }
