-- Programs without bound imports.
use Rattle.std.proofs.Common.{◌≡◌, ℕ, zero, suc, List, [], ◌∷◌, Option, Some, None, refl, ap, ◌∙◌}
use Rattle.std.specs.Prelude.{slice_get}
use Rattle.std.specs.List.{cons_option}
use Rattle.std.specs.Option.{option_map, unwrap_or}
use Rattle.std.proofs.lemmas.List.Elements.{All-nil, All-cons}
use Rattle.std.proofs.lemmas.Option.{slice_get-map}
use Rattle.wa_types.specs.declared.syntax.Import.{Import}
use Rattle.wa_types.specs.Modules.{imported_func}
use Rattle.wa_model.specs.Outside.{Line}
use Rattle.script_model.specs.Script.{BindText}
use Rattle.world_model.specs.World.{Device, ProtocolWorld}
use Rattle.world_laws.specs.AloneLines.{Unbound, own_lines}
use Rattle.world_laws.proofs.AloneLines.{own_lines_alone}
use Rattle.world_laws.proofs.Replays.{unbound_fix_lines}
use Rattle.many_host.specs.Calls.{devices_of}
use Rattle.script_setup.specs.Bindings.{bound_imports, where_func}
use Rattle.world_hosting.specs.Worlds.{world_program, world_programs}
use Rattle.world_hosting.specs.ToldAlone.{AloneText, UnboundWithoutLines, alone_text}

-- ---- no line binds any import

none_bound : (imports : List Import) (i : ℕ) → unwrap_or (slice_get (bound_imports imports []) i) None ≡ None
none_bound [] i = refl
none_bound (x ∷ xs) i = by (imported_func x.kind) i (none_bound xs) where
  by : (o : Option ℕ) (k : ℕ) → ((j : ℕ) → unwrap_or (slice_get (bound_imports xs []) j) None ≡ None)
      → unwrap_or (slice_get (cons_option (where_func o None) (bound_imports xs [])) k) None ≡ None
  by None k more = more k
  by (Some sort) zero more = refl
  by (Some sort) (suc k) more = more k

pub unbound_without_lines : UnboundWithoutLines
unbound_without_lines x none i = ap (λ (bs : List BindText). unwrap_or (slice_get (bound_imports x.source.imports bs) i) None) none ∙ none_bound x.source.imports i

-- ---- alone

pub alone_text_told : AloneText
alone_text_told parts detaches old new text told i x there unbound = (
  own,
  λ last alone h. h.text_is ∙ ap (alone_text x) (same (devices_of last) h.lines h.world),
)
  where
    at : slice_get (world_programs parts) i ≡ Some (world_program x)
    at = slice_get-map world_program parts i ∙ ap (option_map world_program) there

    own : ProtocolWorld (world_program x ∷ []) [] [] (own_lines i told.lines) []
    own = own_lines_alone 0 (world_programs parts) detaches (devices_of old) (devices_of new) told.lines i (world_program x) at unbound told.world

    same : (last : List Device) (lines : List Line) → ProtocolWorld (world_program x ∷ []) [] [] lines last → lines ≡ own_lines i told.lines
    same last lines world =
        (unbound_fix_lines 0 (world_program x ∷ []) [] [] last [] lines (own_lines i told.lines) (All-cons Unbound (world_program x) [] unbound (All-nil Unbound)) world own).0
