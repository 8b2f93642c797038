-- A told function has a unit in its own block.
use Rattle.std.proofs.Common.{◌≡◌, ◌∙◌, ℕ, suc, List, [], ◌∷◌, length, Some, Bool, true, false, refl, ap, arith}
use Rattle.std.specs.Prelude.{slice_get, if◌then◌else◌}
use Rattle.wa_types.specs.Base.{Base}
use Rattle.wa_types.specs.Modules.{defined_at}
use Rattle.wa_types.specs.Pausing.{Callee, Numbered, Settings, TellsMayPause, calls_in, calls_of, has_number, is_told, places_from}
use Rattle.wa_types.specs.Syntax.{Code, Func, Module}
use Rattle.run_theory.specs.Flat.{followed_by}
use Rattle.flat_laws.specs.Flatten.{flattened}
use Rattle.flat_laws.proofs.Calls.{calls_stay}
use Rattle.guard_form.specs.Pieces.{Units, any_unit, first_piece, flat_units, units}
use Rattle.guard_form.proofs.Counting.{told, told_both, told_units, units_law}
use Rattle.guard_form.proofs.Grouped.{free_law, joins_law}
use Rattle.guard_form.proofs.UnitLemmas.{any_is, counted}
use Rattle.slim_laws.specs.SlimModule.{Pieces, SlimPieces, flat_terms}
use Rattle.slim_laws.proofs.UnitsAlike.{units_alike}
use Rattle.headline.proofs.NumberedStmts.{flat_numbered}
use Rattle.emitted_form.proofs.CallCounts.{told_calls}

-- as many places as pass the test
places_told : (test : Callee → Bool) (n : ℕ) (cs : List Callee) → length (places_from test n cs) ≡ told test cs
places_told test n [] = refl
places_told test n (c ∷ cs) = by (test c) (places_told test (suc n) cs)
  where
    by : (b : Bool) → length (places_from test (suc n) cs) ≡ told test cs
        → length (if b then n ∷ places_from test (suc n) cs else places_from test (suc n) cs) ≡ (if b then suc (told test cs) else told test cs)
    by true ih = ap suc ih
    by false ih = ih

pub own_unit : (m : Module) (s : Settings) (which : List Bool) → TellsMayPause m s which → (x : ℕ) (f : Func) → defined_at m x ≡ Some f → is_told (slice_get which x) ≡ true → (p : Pieces)
    → SlimPieces (Base m) (Numbered m s which f) x f p → any_unit p.units ≡ true
own_unit m s which tells x f is td p sp =
    let test : Callee → Bool = has_number m s which in
    let ps = Numbered m s which f in
    let body = (flattened (Base m) x f).body in
    let first0 : Code = first_piece ps 0 body in
    let units0 : Units = units ps 0 body in
    let numbered = flat_numbered (Base m) x f test in
    let free = free_law test ps 0 body numbered in
    let some = told_calls m s which tells x f is td in
    let many = places_told test 0 (calls_in f) in
    let flat : told test (calls_of (followed_by first0 (flat_units units0))) ≡ told test (calls_in f) =
    ap (λ c. told test (calls_of c)) (joins_law ps 0 body) ∙ ap (told test) (calls_stay (Base m) x f) in
    let all = told_both test first0 units0 free.0 (told_units test units0 free.1 (units_law test ps 0 body numbered)) in
    let same = (units_alike (flat_terms (Base m) ps x f) 0 (sp.out ∷ []) sp.out sp.here [] first0 p.first units0 p.units sp.slim).numbers in
    any_is p.units (counted p.units 0 0 (omega arith) (omega arith))
