-- The module that the policy `all` emits takes few bytes, and its functions declare few locals.
use Rattle.std.proofs.Common.{◌≡◌, ℕ, ◌<◌, ◌≤◌, ◌^◌, List, [], ◌∷◌, length, Bool, refl, arith}
use Rattle.std.specs.Prelude.{Some, slice_get}
use Rattle.std.specs.List.{sum_by}
use Rattle.std.proofs.lemmas.List.Sums.{sum_by-cons}
use Rattle.wa_types.specs.Encoding.{Enc}
use Rattle.wa_types.specs.Frames.{Count}
use Rattle.wa_types.specs.Pausing.{Numbered, Settings}
use Rattle.wa_types.specs.Sizes.{FuncSizes, StrictSizeRule}
use Rattle.wa_types.specs.Syntax.{Func, Module}
use Rattle.wa_types.specs.Validity.{Valid}
use Rattle.wa_types.proofs.SizeBounds.{weight_fits}
use Rattle.wasm_encode.specs.Locals.{local_count}
use Rattle.wasm_encode.specs.Modules.{FewLocals}
use Rattle.emitted_form.specs.CodesHold.{AllSlim}
use Rattle.slim_laws.specs.SlimModule.{Pieces, SlimPieces}
use Rattle.emitted_form.specs.Emitted.{asyncified, layout_codes, written_func}
use Rattle.emitted_form.specs.Sizes.{FewWritten}
use Rattle.emitted_form.proofs.EmittedBy.{defined_where}
use Rattle.emitted_form.proofs.WrittenSizes.{layout_size}
use Rattle.emitted_form.proofs.FitsBy.{one_of_all}
use Rattle.emitted_form.proofs.LengthBy.{AllCodesShort, entry, most}
use Rattle.emitted_form.proofs.LengthBy as By

-- ---- a written function

module _ (m : Module) (s : Settings) (which : List Bool) (v : Valid m) (x i : ℕ) (f : Func) (e : slice_get m.funcs i ≡ Some f) (sizes : FuncSizes (2 ^ 31) (2 ^ 31) m f)
    (low : Count m f ≤ 50000) (p : Pieces) (slim : SlimPieces m (Numbered m s which f) x f p) where
  pub written_entry : length (entry (written_func m s which x f p)) ≤ most
  written_entry =
      let z = layout_size m s which (λ y. p) x f v i e in
      let w = weight_fits (2 ^ 31) (2 ^ 31) m f sizes in
      let a = By.written_entry m s which (layout_codes m s which (λ y. p)) x f sizes low 0 slim (omega (arith, z, w)) in omega (arith, a)

  pub written_locals_few : local_count (written_func m s which x f p).locals < 2 ^ 32
  written_locals_few = By.written_locals_few m s which (layout_codes m s which (λ y. p)) x f sizes low

-- ---- all functions

none_more : (fs : List Func) → sum_by (λ (f : Func). 0) fs ≡ 0
none_more [] = refl
none_more (f ∷ fs) = omega (arith, sum_by-cons (λ (f : Func). 0) f fs, none_more fs)

module _ (m : Module) (s : Settings) (which : List Bool) (pieces : (index : ℕ) → Pieces) (v : Valid m) (slim : AllSlim m s which pieces) (strict : StrictSizeRule m) (few : FewWritten m which) where
  codes_short : AllCodesShort m which (layout_codes m s which pieces) (λ (f : Func). 0)
  codes_short x f is told =
      let at = defined_where m x f is in
      let z = layout_size m s which pieces x f v at.0 at.1 in
      let w = weight_fits (2 ^ 31) (2 ^ 31) m f (one_of_all (FuncSizes (2 ^ 31) (2 ^ 31) m) m.funcs at.0 f strict.each_func at.1) in omega (arith, z, w)

  pub emitted_few : FewLocals (asyncified m s which pieces)
  emitted_few = By.emitted_few m s which (layout_codes m s which pieces) strict few

  -- fewer bytes than a u64 numbers
  pub emitted_short : length m.funcs ≤ 100000 → length (Enc m) ≤ 2 ^ 60 → length (Enc (asyncified m s which pieces)) < 2 ^ 64
  emitted_short n l = By.emitted_short m s which (layout_codes m s which pieces) strict few (λ (f : Func). 0) slim codes_short n l (omega (arith, none_more m.funcs))
