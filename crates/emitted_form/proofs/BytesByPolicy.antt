-- What is written of what is emitted, policy by policy.
use Rattle.std.proofs.Common.{◌≡◌, ℕ, zero, suc, ◌*◌, ◌<◌, ◌≤◌, ◌^◌, List, [], ◌∷◌, length, Some, Bool, true, refl, sym, ap, subst, arith, length-append}
use Rattle.std.specs.Prelude.{slice_get}
use Rattle.std.specs.List.{flat_map}
use Rattle.wa_types.specs.Encoding.{Enc}
use Rattle.wa_types.specs.Frames.{Count}
use Rattle.wa_types.specs.ModuleBounds.{prepared_bounds}
use Rattle.wa_types.specs.Modules.{defined_at}
use Rattle.wa_types.specs.Norm.{Norm}
use Rattle.wa_types.specs.Pausing.{Policy, Settings, TellsMayPause, is_told, save_all, save_live}
use Rattle.wa_types.specs.Reading.{SpellsModule}
use Rattle.wa_types.specs.Sizes.{FuncSizes, StrictSizeRule}
use Rattle.wa_types.specs.Syntax.{Func, Module}
use Rattle.wa_types.specs.Validity.{Valid}
use Rattle.file_laws.proofs.FileWriting.{written_spells}
use Rattle.wasm_encode.specs.Modules.{FewLocals}
use Rattle.wasm_reader.specs.Answers.{IsAccepted}
use Rattle.emitted_form.specs.Emitted.{IsAllWritten, asyncified}
use Rattle.emitted_form.proofs.EmittedBy.{defined_where}
use Rattle.emitted_form.proofs.EmittedFits.{emitted_fits}
use Rattle.emitted_form.proofs.EmittedLength as All
use Rattle.emitted_form.proofs.FitsBy.{one_of_all}
use Rattle.emitted_form.proofs.LengthBy.{entry}
use Rattle.emitted_form.proofs.LengthBy as By
use Rattle.emitted_form.proofs.Prepared.{emitted_prepared}
use Rattle.emitted_form.specs.EmittedAs.{EmittedUnder, IsLiveWritten, IsWrittenUnder}
use Rattle.emitted_form.specs.LiveParts.{live_codes}
use Rattle.emitted_form.proofs.CallCounts.{told_calls}
use Rattle.emitted_form.proofs.LiveHold.{live_few}
use Rattle.emitted_form.proofs.PolicyCases.{live_rewriting}
use Rattle.emitted_form.specs.PolicyBytes.{EmittedAsHasFewLocals, EmittedAsIsPrepared, EmittedAsIsShort, EmittedAsIsSpelled, IsShortEntry, WrittenIsShort}
use Rattle.emitted_form.proofs.LiveLength.{entries_short, few_law, numbers_take, prepared_law, short_law, spelled_law}

-- ---- one function

one_short : (fs : List Func) (i : ℕ) (f : Func) → slice_get fs i ≡ Some f → length (entry f) ≤ length (flat_map entry fs)
one_short [] i f e = cc
one_short (g ∷ fs) zero f e =
    let z : g ≡ f = cc in
    omega (arith, length-append (entry g) (flat_map entry fs), ap (λ (h : Func). length (entry h)) z)
one_short (g ∷ fs) (suc i) f e = omega (arith, length-append (entry g) (flat_map entry fs), one_short fs i f e)

module _ (m : Module) (s : Settings) (which : List Bool) (x : ℕ) (f g : Func) (v : Valid m) (strict : StrictSizeRule m) (tells : TellsMayPause m s which) (l : length (Enc m) ≤ 2 ^ 36)
    (is : defined_at m x ≡ Some f) (told : is_told (slice_get which x) ≡ true) (few : Count m f ≤ 50000) where
  sizes : FuncSizes (2 ^ 31) (2 ^ 31) m f
  sizes = let at = defined_where m x f is in one_of_all (FuncSizes (2 ^ 31) (2 ^ 31) m) m.funcs at.0 f strict.each_func at.1

  entry_short : length (entry f) ≤ 2 ^ 36
  entry_short = let at = defined_where m x f is in omega (arith, one_short m.funcs at.0 f at.1, entries_short m, l)

  all_short : IsAllWritten m s which x f g → IsShortEntry g
  all_short h =
      let at = defined_where m x f is in
      let a = All.written_entry m s which v x at.0 f at.1 sizes few h.pieces h.slim in
      subst IsShortEntry (sym h.is) (record { locals = All.written_locals_few m s which v x at.0 f at.1 sizes few h.pieces h.slim; bytes = omega (arith, a) })

  live_short : IsLiveWritten m s which x f g → IsShortEntry g
  live_short h =
      let n = numbers_take m s which f in
      let k = live_few m s which v strict x f h.pieces h.parts is (told_calls m s which tells x f is told) few h.slim h.live in
      let a = By.written_entry m s which (live_codes (λ y. h.pieces) (λ y. h.parts)) x f sizes few (1500000 * length (entry f)) h.slim (omega (arith, n, k)) in
      subst IsShortEntry (sym h.is) (record {
        locals = By.written_locals_few m s which (live_codes (λ y. h.pieces) (λ y. h.parts)) x f sizes few;
        bytes = let z = entry_short in omega (arith, a, z);
      })

  short_under : (p : Policy) → IsWrittenUnder p m s which x f g → IsShortEntry g
  short_under save_all h = all_short h
  short_under save_live h = live_short h

pub written_short : WrittenIsShort
written_short m s which x f g v strict tells l is told few h = short_under m s which x f g v strict tells l is told few s.policy h

-- ---- the module

pub few_as : EmittedAsHasFewLocals
few_as m s which q c = by s.policy refl
  where
    by : (p : Policy) → s.policy ≡ p → EmittedUnder p m s which q → FewLocals q
    by save_all e h = subst FewLocals (sym h.is) (All.emitted_few m s which h.pieces c.valid h.slim c.sizes c.few)
    by save_live e h = subst FewLocals (sym h.is) (few_law m s which h.pieces h.parts (live_rewriting m s which q c e h))

pub short_as : EmittedAsIsShort
short_as m s which q c w n l = by s.policy refl w
  where
    by : (p : Policy) → s.policy ≡ p → EmittedUnder p m s which q → length (Enc q) < 2 ^ 64
    by save_all e h = subst (λ (p : Module). length (Enc p) < 2 ^ 64) (sym h.is) (All.emitted_short m s which h.pieces c.valid h.slim c.sizes c.few n (omega (arith, l)))
    by save_live e h = subst (λ (p : Module). length (Enc p) < 2 ^ 64) (sym h.is) (short_law m s which h.pieces h.parts (live_rewriting m s which q c e h) n l)

abbrev Spelled : Module → Type 0
Spelled q = length (Enc q) ≤ 67108864 → SpellsModule (Enc q) (Norm q)

pub spelled_as : EmittedAsIsSpelled
spelled_as m s which q c w wf = by s.policy refl w
  where
    by : (p : Policy) → s.policy ≡ p → EmittedUnder p m s which q → Spelled q
    by save_all e h =
        subst Spelled (sym h.is)
        (λ short. written_spells (asyncified m s which h.pieces) (emitted_fits m s which h.pieces c.valid h.slim wf c.sizes c.few)
        (All.emitted_few m s which h.pieces c.valid h.slim c.sizes c.few) (omega (arith, short)))
    by save_live e h = subst Spelled (sym h.is) (spelled_law m s which h.pieces h.parts (live_rewriting m s which q c e h) wf)

abbrev IsPreparedWhere : Module → Type 0
IsPreparedWhere q = length (Enc q) ≤ 67108864 → SpellsModule (Enc q) (Norm q) → IsAccepted prepared_bounds (Enc q) (Norm q)

pub prepared_as : EmittedAsIsPrepared
prepared_as m s which q bytes c w read = by s.policy refl w
  where
    by : (p : Policy) → s.policy ≡ p → EmittedUnder p m s which q → IsPreparedWhere q
    by save_all e h = subst IsPreparedWhere (sym h.is) (emitted_prepared m s which h.pieces bytes read c.valid h.slim c.few)
    by save_live e h = subst IsPreparedWhere (sym h.is) (prepared_law m s which h.pieces h.parts bytes (live_rewriting m s which q c e h) read)
