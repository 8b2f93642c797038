-- The numbers of the module that the policy `all` emits are in range.
use Rattle.std.proofs.Common.{ℕ, suc, ◌+◌, ◌*◌, ◌<◌, ◌≤◌, ◌^◌, List, [], ◌∷◌, length, map, Bool, true, false, arith}
use Rattle.std.specs.Prelude.{if◌then◌else◌}
use Rattle.wa_types.specs.declared.values.ValType.{ValType}
use Rattle.wa_types.specs.declared.values.ValType.TheVariants.{I32, I64}
use Rattle.wa_types.specs.Frames.{Place, Saved}
use Rattle.wa_types.specs.Pausing.{save_all, Settings}
use Rattle.wa_types.specs.Runtime.{global_space}
use Rattle.wa_types.specs.Sizes.{WellFormed, StrictSizeRule}
use Rattle.wa_types.specs.Syntax.{Module}
use Rattle.wa_types.specs.Validity.{Valid}
use Rattle.frame_laws.specs.Layout.{kept, gap, field_width, fields_size, Layout}
use Rattle.emitted_form.specs.CodesHold.{AllSlim}
use Rattle.slim_laws.specs.SlimModule.{Pieces}
use Rattle.emitted_form.specs.Emitted.{is_kept, field_where, frame_layout, layout_codes, asyncified}
use Rattle.emitted_form.specs.Sizes.{FewWritten}
use Rattle.emitted_form.proofs.WrittenSizes.{layouts_hold, saved_count}
use Rattle.emitted_form.proofs.BasicCode.{save_fits, restore_fits}
use Rattle.emitted_form.proofs.FitsBy.{AllCodesFit}
use Rattle.emitted_form.proofs.FitsBy as By
use Rattle.emitted_form.proofs.Spaces.{globals_counted}

fields_few : (keep : ℕ → Bool) (ps : List Place) → fields_size (map (field_where keep) ps) ≤ 8 * length ps
fields_few keep [] = omega arith
fields_few keep (p ∷ ps) = let ih = fields_few keep ps in let w = by (keep p.local) p.ty in omega (arith, ih, w)
  where
    by : (b : Bool) (t : ValType) → field_width (if b then kept p.local t else gap t) ≤ 8
    by true I32 = omega arith
    by true I64 = omega arith
    by false I32 = omega arith
    by false I64 = omega arith

module _ (m : Module) (s : Settings) (which : List Bool) (pieces : (index : ℕ) → Pieces) (v : Valid m) (slim : AllSlim m s which pieces) (w : WellFormed m) (strict : StrictSizeRule m)
    (few : FewWritten m which) where
  codes_fit : AllCodesFit m which (layout_codes m s which pieces)
  codes_fit x f is told =
      let l : Layout = frame_layout m s which x f in
      let a = fields_few (is_kept m s which x f) (Saved m save_all f 0) in
      let b = saved_count m f in
      let c = few x f is told in
      let frame : fields_size l.fields + 4 < 2 ^ 32 = omega (arith, a, b, c) in
      let address : suc (global_space m) < 2 ^ 32 = omega (arith, globals_counted m, strict.globals) in
      (restore_fits l address frame, save_fits l address frame)

  pub emitted_fits : WellFormed (asyncified m s which pieces)
  emitted_fits = By.emitted_fits m s which (layout_codes m s which pieces) v w strict (layouts_hold m s which pieces v slim) codes_fit few
