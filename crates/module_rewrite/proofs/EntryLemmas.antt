-- Entries of the code section as a sink of functions.
use Rattle.std.proofs.Common.{◌≡◌, ◌∙◌, ℕ, zero, suc, ◌<◌, ◌≤◌, ◌^◌, List, [], ◌∷◌, ◌++◌, length, Some, Bool, ap, arith, length-append}
use Rattle.std.specs.Prelude.{slice_get}
use Rattle.std.specs.List.{flat_map}
use Rattle.std.proofs.lemmas.List.{append-nil}
use Rattle.std.proofs.lemmas.List.Concat.{flat_map-append}
use Rattle.wa_types.specs.Encoding.{Enc}
use Rattle.wa_types.specs.Pausing.{Settings, TellsMayPause}
use Rattle.wa_types.specs.Sizes.{FuncSizes, StrictSizeRule}
use Rattle.wa_types.specs.Syntax.{Func, Module}
use Rattle.wa_types.specs.Validity.{Valid}
use Rattle.wasm_encode.specs.Locals.{local_count}
use Rattle.wasm_encode.proofs.AroundLemmas.{entries_within}
use Rattle.wasm_encode.specs.Around.{code_entry}
use Rattle.emitted_form.proofs.FitsBy.{one_of_all}
use Rattle.emitted_form.specs.PolicyBytes.{IsShortEntry}
use Rattle.emitted_form.proofs.BytesByPolicy.{written_short}
use Rattle.module_rewrite.specs.Taking.{CanTake}

-- ---- entries are no longer than all the bytes

one_short : (fs : List Func) (i : ℕ) (f : Func) → slice_get fs i ≡ Some f → length (code_entry f) ≤ length (flat_map code_entry fs)
one_short [] i f e = cc
one_short (g ∷ fs) zero f e =
    let z : g ≡ f = cc in
    omega (arith, length-append (code_entry g) (flat_map code_entry fs), ap (λ (h : Func). length (code_entry h)) z)
one_short (g ∷ fs) (suc i) f e = omega (arith, length-append (code_entry g) (flat_map code_entry fs), one_short fs i f e)

entry_short : (m : Module) (i : ℕ) (f : Func) → slice_get m.funcs i ≡ Some f → length (Enc m) ≤ 2 ^ 36 → length (code_entry f) < 2 ^ 64
entry_short m i f e l = omega (arith, one_short m.funcs i f e, entries_within m, l)

locals_small : (m : Module) (i : ℕ) (f : Func) → slice_get m.funcs i ≡ Some f → StrictSizeRule m → local_count f.locals < 2 ^ 32
locals_small m i f e strict =
    let t = (one_of_all (FuncSizes (2 ^ 31) (2 ^ 31) m) m.funcs i f strict.each_func e).total in omega (arith, t)

-- each function of a source has a short entry, as it stays and as it is written
pub entries_fit : (m : Module) (s : Settings) (which : List Bool) → Valid m → StrictSizeRule m → TellsMayPause m s which → length (Enc m) ≤ 2 ^ 36 → CanTake m s which IsShortEntry
entries_fit m s which v strict tells l = record {
  kept = λ i f e. record { locals = locals_small m i f e strict; bytes = entry_short m i f e l };
  written = λ x f g e told few is. written_short m s which x f g v strict tells l e told few is;
}

-- one entry more
pub entry_more : (fs : List Func) (f : Func) → flat_map code_entry (fs ++ f ∷ []) ≡ flat_map code_entry fs ++ code_entry f
entry_more fs f = flat_map-append code_entry fs (f ∷ []) ∙ ap (λ bs. flat_map code_entry fs ++ bs) (append-nil (code_entry f))
