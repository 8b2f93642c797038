-- Declared locals, run by run.
use Rattle.std.proofs.Common.{◌≡◌, ℕ, suc, ◌+◌, ◌<◌, ◌≤◌, ◌++◌, List, length, drop, get_or, replicate, add-one, drop-cons, ap, sym, ◌∙◌, [], ◌∷◌, map, refl}
use Rattle.std.proofs.lemmas.List.{append-nil, append_assoc, drop_all}
use Rattle.wa_types.specs.declared.values.ValType.{ValType}
use Rattle.wa_types.specs.declared.syntax.Run.{Run}
use Rattle.wa_types.specs.Modules.{declared_locals}
use Rattle.wa_types.specs.Frames.{Pair}
use Rattle.wa_types.proofs.WeightLemmas.{locals_step, locals_none}
use Rattle.flatten.specs.declared.numbers.TypeAt.{TypeAt}
use Rattle.flatten.specs.Numbers.{pair_of}

pub runs_step : (xs : List Run) (j : ℕ) (x : Run) → j < length xs → x ≡ get_or xs j x → declared_locals (drop j xs) ≡ replicate x.count x.ty ++ declared_locals (drop (j + 1) xs)
runs_step xs j x lt e =
    ap declared_locals (drop-cons xs j x lt) ∙ ap (λ (z : Run). replicate z.count z.ty ++ declared_locals (drop (suc j) xs)) (sym e)
    ∙ ap (λ k. replicate x.count x.ty ++ declared_locals (drop k xs)) (sym (add-one j))

pub runs_on : (xs : List Run) (j : ℕ) (x : Run) (old new all : List ValType) → j < length xs → x ≡ get_or xs j x → new ≡ old ++ replicate x.count x.ty
    → old ++ declared_locals (drop j xs) ≡ all → new ++ declared_locals (drop (j + 1) xs) ≡ all
runs_on xs j x old new all lt e en before =
    ap (λ z. z ++ declared_locals (drop (j + 1) xs)) en ∙ append_assoc old (replicate x.count x.ty) (declared_locals (drop (j + 1) xs)) ∙ ap (λ z. old ++ z) (sym (runs_step xs j x lt e)) ∙ before

pub runs_done : (xs : List Run) (j : ℕ) (old all : List ValType) → length xs ≤ j → old ++ declared_locals (drop j xs) ≡ all → old ≡ all
runs_done xs j old all le before = sym (append-nil old) ∙ ap (λ z. old ++ declared_locals z) (sym (drop_all j xs le)) ∙ before

pub ruleset counting = (locals_step, locals_none)

pub ruleset putting = (runs_on, runs_done)

pub types_of : (ps : List TypeAt) → map (λ (p : TypeAt). p.ty) ps ≡ map (λ (p : Pair). p.ty) (map pair_of ps)
types_of [] = refl
types_of (p ∷ ps) = ap (λ ts. p.ty ∷ ts) (types_of ps)

pub ruleset types_are = (types_of, types_of)
