-- The pokes of an answer that passes its tests lie inside the memory, and off each of a plan's ranges.
use Rattle.std.proofs.Common.{◌≡◌, ◌+◌, ◌<◌, ◌≤◌, ℕ, zero, suc, List, [], ◌∷◌, length, Option, Some, None, Bool, true, false, All, Contains, refl, sym, ap, ◌∙◌, get_or, arith}
use Rattle.std.specs.Prelude.{◌&&◌, nat_le, not, if◌then◌else◌}
use Rattle.std.specs.List.{list_all}
use Rattle.std.proofs.lemmas.Bool.{and_parts, leb-true}
use Rattle.wa_types.specs.declared.values.ValType.{ValType}
use Rattle.wa_model.specs.declared.answers.Area.{Area}
use Rattle.wa_model.specs.declared.events.End.{End}
use Rattle.wa_model.specs.declared.events.End.TheVariants.{BadPoke}
use Rattle.wa_model.specs.Outside.{Poke, Answer}
use Rattle.wa_model.specs.Plan.{Plan}
use Rattle.wa_model.specs.Blocking.{bad_pause, bad_poke, bad_value, fault_of, is_off, is_unlisted, or_else, overlap, poke_fits}

not_true : (b : Bool) → not b ≡ true → b ≡ false
not_true true e = cc
not_true false e = refl

-- ---- one poke

pub fits_inside : (size : ℕ) (areas : List Area) (p : Poke) → poke_fits size areas p ≡ true → p.at + length p.bytes ≤ size
fits_inside size areas p h = leb-true _ _ (and_parts (nat_le (p.at + length p.bytes) size) (list_all (is_off p) areas) h).0

pub fits_off : (size : ℕ) (area : Area) (areas : List Area) (p : Poke) → poke_fits size (area ∷ areas) p ≡ true → overlap p.at (length p.bytes) area.at area.len ≡ false
fits_off size area areas p h =
    let off = (and_parts (nat_le (p.at + length p.bytes) size) (list_all (is_off p) (area ∷ areas)) h).1 in
    not_true (overlap p.at (length p.bytes) area.at area.len) (and_parts (is_off p area) (list_all (is_off p) areas) off).0

pub first_fits : (size : ℕ) (areas : List Area) (p : Poke) (ps : List Poke) → bad_poke size areas (p ∷ ps) ≡ None → (poke_fits size areas p ≡ true) × (bad_poke size areas ps ≡ None)
first_fits size areas p ps h = by (poke_fits size areas p) h
  where
    by : (b : Bool) → (if b then bad_poke size areas ps else Some (BadPoke p.at (length p.bytes))) ≡ None → (b ≡ true) × (bad_poke size areas ps ≡ None)
    by true e = (refl, e)
    by false e = cc

-- ---- ranges, one by one

passed : (test : Area → Bool) (areas : List Area) (k : ℕ) (d : Area) → k < length areas → list_all test areas ≡ true → test (get_or areas k d) ≡ true
passed test [] k d lt h = absurd (omega arith)
passed test (x ∷ xs) zero d lt h = (and_parts (test x) (list_all test xs) h).0
passed test (x ∷ xs) (suc k) d lt h = passed test xs k d (omega arith) (and_parts (test x) (list_all test xs) h).1

one_fits : (size : ℕ) (x : Area) (p : Poke) → nat_le (p.at + length p.bytes) size ≡ true → is_off p x ≡ true → poke_fits size (x ∷ []) p ≡ true
one_fits size x p i o = ap (λ (b : Bool). b && (is_off p x && true)) i ∙ ap (λ (b : Bool). b && true) o

-- pokes that pass ranges pass each of them
pub passes_each : (size : ℕ) (areas : List Area) (ps : List Poke) → bad_poke size areas ps ≡ None → All (λ (x : Area). bad_poke size (x ∷ []) ps ≡ None) areas
passes_each size areas [] h = λ k d lt. refl
passes_each size areas (p ∷ ps) h = λ k d lt.
    let f = first_fits size areas p ps h in
    let parts = and_parts (nat_le (p.at + length p.bytes) size) (list_all (is_off p) areas) f.0 in
    let x : Area = get_or areas k d in
    ap (λ (b : Bool). if b then bad_poke size (x ∷ []) ps else Some (BadPoke p.at (length p.bytes))) (one_fits size x p parts.0 (passed (is_off p) areas k d lt parts.1))
    ∙ passes_each size areas ps f.1 k d lt

-- ---- an answer that passes its tests

else_none : (a b : Option End) → or_else a b ≡ None → (a ≡ None) × (b ≡ None)
else_none None b h = (refl, h)
else_none (Some e) b h = cc

module _ (types : List ValType) (size : ℕ) (plan : Plan) (start : Bool) (i : ℕ) (a : Answer) (h : fault_of types size plan start i a ≡ None) where
  pub pokes_pass : bad_poke size (plan.area ∷ plan.others) a.pokes ≡ None
  pokes_pass =
      let pause = bad_pause start (is_unlisted plan.listed i) i a.ticks in
      let pokes = bad_poke size (plan.area ∷ plan.others) a.pokes in
      (else_none pokes pause (else_none (bad_value types i a.said) (or_else pokes pause) h).1).0

  -- off the plan's area
  pub passes_area : bad_poke size (plan.area ∷ []) a.pokes ≡ None
  passes_area = passes_each size (plan.area ∷ plan.others) a.pokes pokes_pass 0 plan.area (omega arith)

  -- off a further range
  pub passes_others : All (λ (x : Area). bad_poke size (x ∷ []) a.pokes ≡ None) plan.others
  passes_others = λ k d lt. passes_each size (plan.area ∷ plan.others) a.pokes pokes_pass (suc k) d (omega (arith, lt))
