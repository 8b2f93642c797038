-- The places of a flat function's numbered calls are those of the definitions, and its statements can be marked.
use Rattle.std.proofs.Common.{◌≡◌, ◌∙◌, ℕ, zero, suc, ◌<◌, ◌≤◌, List, [], ◌∷◌, ◌++◌, length, get_or, map, Option, Some, None, Bool, true, false, All, refl, sym, ap, arith}
use Rattle.std.specs.Prelude.{if◌then◌else◌}
use Rattle.std.proofs.lemmas.List.{map-append, length-map}
use Rattle.wa_types.specs.Syntax.{basic, local_get, local_set, local_tee, br_if, br_table, call, call_indirect, Code, done, plain, branch, Func, Module}
use Rattle.wa_types.specs.Pausing.{Callee, direct, indirect, calls_of, calls_in, Listed, Settings, has_number, places_from, Numbered}
use Rattle.wa_model.specs.declared.flat.Operand.{Operand}
use Rattle.wa_model.specs.declared.flat.Operand.TheVariants.{Local, Const}
use Rattle.run_theory.specs.Flat.{Stmts, no_more, computes, copies, calls, leaps, leaps_if, leaps_by, nests, decides, halts, followed_by, got, all_got, set_to, slots_got, last_of, code_of}
use Rattle.run_theory.specs.FlatFits.{ComputesFit, IsCallCode, StmtsFit}
use Rattle.run_theory.specs.Growth.{Each}
use Rattle.flat_laws.specs.FlatModule.{stacks_in}
use Rattle.guard_form.specs.Pieces.{sole_callee, call_total}
use Rattle.flow_rewrite.specs.Numbering.{callees, gets_number}
use Rattle.flow_rewrite.proofs.NumberingLemmas.{callees_count}
use Rattle.flow_rewrite.specs.Emitting.{Rises}
use Rattle.func_rewrite.specs.Marking.{StacksFit}

-- ---- calls of statements

calls_got : (o : Operand) (c : Code) → calls_of (got o c) ≡ calls_of c
unfolding calls_of
calls_got (Local x) c = refl
calls_got (Const v) c = refl

calls_all : (args : List Operand) (c : Code) → calls_of (all_got args c) ≡ calls_of c
calls_all [] c = refl
calls_all (a ∷ args) c = calls_got a (all_got args c) ∙ calls_all args c

calls_slots : (xs : List ℕ) (c : Code) → calls_of (slots_got xs c) ≡ calls_of c
unfolding calls_of
calls_slots [] c = refl
calls_slots (x ∷ xs) c = calls_slots xs c

calls_set : (to : Option ℕ) (c : Code) → calls_of (set_to to c) ≡ calls_of c
unfolding calls_of
calls_set None c = refl
calls_set (Some x) c = refl

calls_computed : (locals : ℕ) (op : Code) (to : Option ℕ) → ComputesFit locals op to → (c : Code) → calls_of (followed_by op c) ≡ calls_of c
unfolding calls_of followed_by
calls_computed locals (plain (basic b) done) to h c = refl
calls_computed locals (plain (local_get x) done) to h c = refl
calls_computed locals (plain (local_set x) done) to h c = refl
calls_computed locals (plain (local_tee x) done) to h c = refl
calls_computed locals _ to h c = absurd h

calls_called : (op : Code) → IsCallCode op → (c : Code) → (x : Callee) × (sole_callee op ≡ Some x) × (calls_of (followed_by op c) ≡ x ∷ calls_of c)
unfolding calls_of followed_by
calls_called (plain (call x) done) h c = (direct x, refl, refl)
calls_called (plain (call_indirect t) done) h c = (indirect t, refl, refl)
calls_called _ h c = absurd h

pub callees_are : (locals labels : ℕ) (s : Stmts) → StmtsFit locals labels s → callees s ≡ map Some (calls_of (code_of s))
unfolding calls_of code_of
callees_are locals labels no_more h = refl
callees_are locals labels (computes op args to rest) h =
    callees_are locals labels rest h.4
    ∙ ap (map Some) (sym (calls_all args (followed_by op (set_to to (code_of rest))) ∙ calls_computed locals op to h.0 (set_to to (code_of rest)) ∙ calls_set to (code_of rest)))
callees_are locals labels (copies to from rest) h = callees_are locals labels rest h.2 ∙ ap (map Some) (sym (calls_got from (plain (local_set to) (code_of rest))))
callees_are locals labels (calls op stack args to rest) h =
    let q = calls_called op h.0 (set_to to (code_of rest)) in
    ap (λ o. o ∷ callees rest) q.1 ∙ ap (λ cs. Some q.0 ∷ cs) (callees_are locals labels rest h.5)
    ∙ ap (map Some) (sym (calls_slots (last_of args stack) (followed_by op (set_to to (code_of rest))) ∙ q.2 ∙ ap (λ cs. q.0 ∷ cs) (calls_set to (code_of rest))))
callees_are locals labels (leaps l rest) h = callees_are locals labels rest h.1
callees_are locals labels (leaps_if o l rest) h = callees_are locals labels rest h.2 ∙ ap (map Some) (sym (calls_got o (plain (br_if l) (code_of rest))))
callees_are locals labels (leaps_by o ls l rest) h = callees_are locals labels rest h.3 ∙ ap (map Some) (sym (calls_got o (plain (br_table ls l) (code_of rest))))
callees_are locals labels (nests y body rest) h =
    ap (λ cs. cs ++ callees rest) (callees_are locals (suc labels) body h.0) ∙ ap (λ cs. map Some (calls_of (code_of body)) ++ cs) (callees_are locals labels rest h.1)
    ∙ sym (map-append Some (calls_of (code_of body)) (calls_of (code_of rest)))
callees_are locals labels (decides o a b rest) h =
    ap (λ cs. cs ++ callees b ++ callees rest) (callees_are locals (suc labels) a h.1)
    ∙ ap (λ cs. map Some (calls_of (code_of a)) ++ cs ++ callees rest) (callees_are locals (suc labels) b h.2)
    ∙ ap (λ cs. map Some (calls_of (code_of a)) ++ map Some (calls_of (code_of b)) ++ cs) (callees_are locals labels rest h.3)
    ∙ ap (λ cs. cs ++ map Some (calls_of (code_of rest))) (sym (map-append Some (calls_of (code_of a)) (calls_of (code_of b))))
    ∙ sym (map-append Some (calls_of (code_of a) ++ calls_of (code_of b)) (calls_of (code_of rest)))
    ∙ ap (map Some) (sym (calls_got o (branch None (code_of a) (code_of b) (code_of rest))))
callees_are locals labels (halts rest) h = callees_are locals labels rest h

pub total_is : (locals labels : ℕ) (s : Stmts) → StmtsFit locals labels s → call_total s ≡ length (calls_of (code_of s))
total_is locals labels s h = sym (callees_count s) ∙ ap length (callees_are locals labels s h) ∙ length-map (calls_of (code_of s)) Some

-- ---- numbers

same_test : (m : Module) (s : Settings) (which : List Bool) (c : Callee) → gets_number which (Listed m s) s.ignore_indirect (Some c) ≡ has_number m s which c
same_test m s which (direct x) = refl
same_test m s which (indirect t) = refl

places_some : (t : Option Callee → Bool) (u : Callee → Bool) → ((c : Callee) → t (Some c) ≡ u c) → (n : ℕ) (cs : List Callee) → places_from t n (map Some cs) ≡ places_from u n cs
places_some t u same n [] = refl
places_some t u same n (c ∷ cs) =
    ap (λ (b : Bool). if b then n ∷ places_from t (suc n) (map Some cs) else places_from t (suc n) (map Some cs)) (same c)
    ∙ ap (λ ps. if u c then n ∷ ps else ps) (places_some t u same (suc n) cs)

pub numbers_are : (m : Module) (s : Settings) (which : List Bool) (f : Func) (locals labels : ℕ) (body : Stmts) → StmtsFit locals labels body → calls_of (code_of body) ≡ calls_in f
    → places_from (gets_number which (Listed m s) s.ignore_indirect) 0 (callees body) ≡ Numbered m s which f
numbers_are m s which f locals labels body h e =
    ap (places_from (gets_number which (Listed m s) s.ignore_indirect) 0) (callees_are locals labels body h ∙ ap (map Some) e)
    ∙ places_some (gets_number which (Listed m s) s.ignore_indirect) (has_number m s which) (same_test m s which) 0 (calls_in f)

-- ---- places rise

module _ {X : Type 0} (t : X → Bool) where
  above : (n : ℕ) (xs : List X) (i : ℕ) → i < length (places_from t n xs) → n ≤ get_or (places_from t n xs) i 0
  above n [] i lt = absurd (omega arith)
  above n (x ∷ xs) i lt = by (t x) (λ j l. above (suc n) xs j l) i lt
    where
      by : (b : Bool) → ((j : ℕ) → j < length (places_from t (suc n) xs) → suc n ≤ get_or (places_from t (suc n) xs) j 0)
          → (i : ℕ) → i < length (if b then n ∷ places_from t (suc n) xs else places_from t (suc n) xs) → n ≤ get_or (if b then n ∷ places_from t (suc n) xs else places_from t (suc n) xs) i 0
      by true ih zero lt = omega arith
      by true ih (suc i) lt = let e = ih i (omega arith) in omega arith
      by false ih i lt = let e = ih i lt in omega arith

  pub places_rise : (n : ℕ) (xs : List X) → Rises (places_from t n xs)
  places_rise n [] i j lt few = absurd (omega arith)
  places_rise n (x ∷ xs) i j lt few = by (t x) (places_rise (suc n) xs) i j lt few
    where
      by : (b : Bool) → Rises (places_from t (suc n) xs) → Rises (if b then n ∷ places_from t (suc n) xs else places_from t (suc n) xs)
      by true ih zero zero lt few = absurd (omega arith)
      by true ih zero (suc j) lt few = let e = above (suc n) xs j (omega arith) in omega arith
      by true ih (suc i) zero lt few = absurd (omega arith)
      by true ih (suc i) (suc j) lt few = ih i j (omega arith) (omega arith)
      by false ih i j lt few = ih i j lt few

  pub places_few : (n : ℕ) (xs : List X) → length (places_from t n xs) ≤ length xs
  places_few n [] = omega arith
  places_few n (x ∷ xs) = by (t x) (places_few (suc n) xs)
    where
      by : (b : Bool) → length (places_from t (suc n) xs) ≤ length xs → length (if b then n ∷ places_from t (suc n) xs else places_from t (suc n) xs) ≤ suc (length xs)
      by true le = omega arith
      by false le = omega arith

-- ---- stacks

module _ {X : Type 0} (P : X → Type 0) where
  each_both : (xs ys : List X) → Each P xs → Each P ys → Each P (xs ++ ys)
  each_both [] ys h g = g
  each_both (x ∷ xs) ys h g = (h.0, each_both xs ys h.1 g)

pub stacks_fit : (locals labels : ℕ) (s : Stmts) → StmtsFit locals labels s → StacksFit locals s
unfolding stacks_in
stacks_fit locals labels no_more h = tt
stacks_fit locals labels (computes op args to rest) h = stacks_fit locals labels rest h.4
stacks_fit locals labels (copies to from rest) h = stacks_fit locals labels rest h.2
stacks_fit locals labels (calls op stack args to rest) h = (h.1, stacks_fit locals labels rest h.5)
stacks_fit locals labels (leaps l rest) h = stacks_fit locals labels rest h.1
stacks_fit locals labels (leaps_if o l rest) h = stacks_fit locals labels rest h.2
stacks_fit locals labels (leaps_by o ls l rest) h = stacks_fit locals labels rest h.3
stacks_fit locals labels (nests y body rest) h = each_both (λ stack. All (λ x. x < locals) stack) (stacks_in body) (stacks_in rest) (stacks_fit locals (suc labels) body h.0)
    (stacks_fit locals labels rest h.1)
stacks_fit locals labels (decides o a b rest) h =
    each_both (λ stack. All (λ x. x < locals) stack) (stacks_in a) (stacks_in b ++ stacks_in rest) (stacks_fit locals (suc labels) a h.1)
    (each_both (λ stack. All (λ x. x < locals) stack) (stacks_in b) (stacks_in rest) (stacks_fit locals (suc labels) b h.2) (stacks_fit locals labels rest h.3))
stacks_fit locals labels (halts rest) h = stacks_fit locals labels rest h
