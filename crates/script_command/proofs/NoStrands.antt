-- Scripts without `strand` lines, and their programs, which have no further strand.
use Rattle.std.proofs.Common.{◌≡◌, ◌++◌, ℕ, List, [], ◌∷◌, map, Option, Some, None, refl, sym, ap, ◌∙◌}
use Rattle.std.specs.Prelude.{All, slice_get}
use Rattle.std.specs.List.{AllZip, flat_map}
use Rattle.std.specs.Option.{option_map}
use Rattle.std.proofs.lemmas.List.Elements.{All-cons, All-head, All-nil, All-tail}
use Rattle.wa_types.specs.View.{module_of}
use Rattle.wa_types.specs.Syntax.{Module}
use Rattle.wa_types.specs.declared.syntax.Module.{Module as ModuleValue}
use Rattle.script_model.specs.Script.{EntryText, ProgramText, Script, StrandText, device_line, lesser_line, mailbox_line, strand_line, unsaved_line}
use Rattle.script_reader.specs.Views.{program_of}
use Rattle.script_setup.specs.declared.setting.SetUp.{SetUp as SetUpValue}
use Rattle.script_setup.specs.SetUpRules.{named_entry}
use Rattle.script_setup.proofs.WithoutStrands.{entries_alone, set_up_alone}
use Rattle.world_hosting.specs.Views.{Suits}
use Rattle.script_command.specs.declared.opening.Opened.{Opened}
use Rattle.script_command.specs.declared.programs.Planned.{Planned}
use Rattle.script_command.specs.Views.{CanOpen, CanPlay, CanStage, IsAlone, IsReady, SuitsStrands}
use Rattle.script_command.proofs.Openings.{text_in}

-- a program without a further strand
abbrev pub HasNoStrand : ProgramText → Type 0
HasNoStrand t = t.strands ≡ []

-- ---- the script

-- the further strands of these texts
abbrev strands_of_all : List ProgramText → List StrandText
strands_of_all ts = flat_map (λ (t : ProgramText). t.strands) ts

-- where the first stands
abbrev first_strand : List StrandText → Option ℕ
first_strand ss = option_map (λ (s : StrandText). s.line) (slice_get ss 0)

none_first : (ss us : List StrandText) → first_strand (ss ++ us) ≡ None → (ss ≡ []) × (first_strand us ≡ None)
none_first [] us e = (refl, e)
none_first (s ∷ ss) us e = cc

have_none : (ts : List ProgramText) → first_strand (strands_of_all ts) ≡ None → All HasNoStrand ts
have_none [] e = All-nil HasNoStrand
have_none (t ∷ ts) e =
    let first = none_first t.strands (strands_of_all ts) e in
    All-cons HasNoStrand t ts first.0 (have_none ts first.1)

-- Where a script has no `strand` line, none of its programs has a further strand.
pub no_strands : (whole : Script) → strand_line whole ≡ None → All HasNoStrand whole.programs
no_strands whole e = have_none whole.programs e

-- none of two lines is told
second_none : (a b : Option ℕ) → lesser_line a b ≡ None → b ≡ None
second_none None b e = e
second_none (Some a) None e = refl
second_none (Some a) (Some b) e = cc

-- a script that can be saved has no `strand` line
pub unsaved_strands : (whole : Script) → unsaved_line whole ≡ None → strand_line whole ≡ None
unsaved_strands whole e =
    second_none (mailbox_line whole) (strand_line whole) (second_none (device_line whole) (lesser_line (mailbox_line whole) (strand_line whole)) e)

-- ---- what is opened

-- the same as they are held
pub all_alone : (ps : List Planned) → All HasNoStrand (map text_in ps) → All IsAlone ps
all_alone [] h = All-nil IsAlone
all_alone (p ∷ ps) h = All-cons IsAlone p ps (All-head HasNoStrand (text_in p) (map text_in ps) h) (all_alone ps (All-tail HasNoStrand (text_in p) (map text_in ps) h))

suits_alone : (p : Module) (t : ProgramText) (x : SetUpValue) → HasNoStrand t → SuitsStrands p t x → Suits p t x
suits_alone p t x none s = record {
  entries = s.entries ∙ ap (λ (es : List EntryText). map named_entry es) (entries_alone t none);
  funcs = sym (set_up_alone t none p) ∙ s.funcs;
  globals = s.globals;
}

alone_can : (v : ModuleValue) (p : Planned) → IsAlone p → CanOpen v p → CanStage v p
alone_can v p none can = record { fits = can.fits; listing = can.listing; suits = suits_alone (module_of v) (program_of p.text) p.given none can.suits }

all_can : (vs : List ModuleValue) (ps : List Planned) → All IsAlone ps → AllZip CanOpen vs ps → AllZip CanStage vs ps
all_can [] [] none can = tt
all_can [] (p ∷ ps) none can = absurd can
all_can (v ∷ vs) [] none can = absurd can
all_can (v ∷ vs) (p ∷ ps) none can = (alone_can v p (All-head IsAlone p ps none) can.0, all_can vs ps (All-tail IsAlone p ps none) can.1)

-- What is ready can be played without strands, where there are none.
pub plainly_ready : (o : Opened) → IsReady o → o.strand ≡ None → CanPlay o
plainly_ready o ready none = record { few = ready.few; each = all_can o.programs.modules.items o.programs.planned.items (ready.alone none) ready.each }
