-- Programs without further strands: what the set-up rules ask of their lines, and what such a program is given.
use Rattle.std.proofs.Common.{◌≡◌, ℕ, List, [], map, None, Bool, true, position, Ok, ap, sym, ◌∙◌, refl}
use Rattle.wa_types.specs.Syntax.{Module}
use Rattle.host_setup.specs.SetUp.{least_pages, set_up}
use Rattle.script_model.specs.Script.{EntryText, ProgramText, StrandText}
use Rattle.script_model.specs.ScriptText.{AreaText}
use Rattle.script_setup.specs.SetUpRules.{SetUp, asked_area, asked_from, bad_show, entries_in, entries_then, named_entry, overlaps, overlaps_one, own_area, set_up_rules}
use Rattle.script_setup.proofs.GlobalTypes.{given_by_rules}
use Rattle.script_setup.proofs.Told.{position_same}

module _ (t : ProgramText) (alone : t.strands ≡ []) where
  -- its own area is asked
  pub asked_alone : (p : Module) → asked_area p t ≡ own_area t
  asked_alone p = ap (λ (ss : List StrandText). asked_from (least_pages p) (own_area t) ss) alone

  -- its own entries are all
  pub entries_alone : entries_in t ≡ t.entries
  entries_alone = ap (λ (ss : List StrandText). entries_then t.entries ss) alone

  -- it is set up by its own area and its own entries
  pub set_up_alone : (p : Module) → set_up p (asked_area p t).area (map named_entry (entries_in t)) ≡ set_up p t.area (map named_entry t.entries)
  set_up_alone p =
      ap (λ (a : AreaText). set_up p a.area (map named_entry (entries_in t))) (asked_alone p) ∙ ap (λ (es : List EntryText). set_up p t.area (map named_entry es)) entries_alone

  -- what it shows lies off its own area
  pub shows_alone : bad_show true t.area t.strands t.shows ≡ None → position (overlaps t.area) t.shows ≡ None
  shows_alone e =
      position_same (overlaps t.area) (overlaps_one t.area []) t.shows (λ s. refl) ∙ ap (λ (ss : List StrandText). position (overlaps_one t.area ss) t.shows) (sym alone) ∙ e

  -- the functions of its entries
  pub funcs_alone : (runs : Bool) (boxes : List (List ℕ)) (p : Module) (up : SetUp) → set_up_rules runs boxes p t ≡ Ok up → set_up p t.area (map named_entry t.entries) ≡ Ok up.funcs
  funcs_alone runs boxes p up e =
      let given = given_by_rules runs boxes p t up e in
      sym (set_up_alone p) ∙ given.funcs
