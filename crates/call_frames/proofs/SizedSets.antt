-- Sets of calls as the program has them, each of a length; and tests that both hold.
use Rattle.std.proofs.Common.{◌≡◌, List, [], ◌∷◌, length, Bool, true, false, ◌&&◌, All, refl}
use Rattle.std.specs.Prelude.{Vec}
use Rattle.std.specs.declared.alloc.Global.{Global}
use Rattle.std.proofs.lemmas.List.Elements.{All-nil, All-cons, All-head, All-tail}
use Rattle.wa_types.specs.declared.values.ValType.{ValType}
use Rattle.call_frames.specs.Views.{sets_of}

pub both_true : (a b : Bool) → (a && b) ≡ true → (a ≡ true) × (b ≡ true)
both_true true b e = (refl, e)
both_true false b e = cc

pub join_true : (a b : Bool) → a ≡ true → b ≡ true → (a && b) ≡ true
join_true true b e h = h
join_true false b e h = cc

-- ---- sets of the program

abbrev pub Sized : List ValType → List (List Bool) → Type 0
Sized types sets = All (λ (s : List Bool). length s ≡ length types) sets

pub sets_sized : (types : List ValType) (sets : List (Vec Bool Global)) → All (λ (set : Vec Bool Global). length set.items ≡ length types) sets → Sized types (sets_of sets)
sets_sized types [] h = All-nil (λ (s : List Bool). length s ≡ length types)
sets_sized types (s ∷ sets) h =
    All-cons (λ (z : List Bool). length z ≡ length types) s.items (sets_of sets) (All-head (λ (z : Vec Bool Global). length z.items ≡ length types) s sets h)
    (sets_sized types sets (All-tail (λ (z : Vec Bool Global). length z.items ≡ length types) s sets h))
