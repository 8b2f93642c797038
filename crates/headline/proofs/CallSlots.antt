-- The slots of a numbered call of a guarded flat function, by its place among all calls.
use Rattle.std.proofs.Common.{◌≡◌, ℕ, zero, suc, ◌+◌, List, [], ◌∷◌, ◌++◌, length, Option, Some, None, Bool, true, false, refl, sym, ap, ◌∙◌, subst, arith, ne_eqb, length-append}
use Rattle.std.specs.Prelude.{slice_get, nat_eq, ◌||◌, if◌then◌else◌}
use Rattle.wa_types.specs.Syntax.{a_block, a_loop, Code, done, plain}
use Rattle.wa_types.specs.Pausing.{Callee, direct, indirect, places_from}
use Rattle.run_theory.specs.Flat.{Stmts, no_more, computes, copies, calls, leaps, leaps_if, leaps_by, nests, decides, halts, last_of}
use Rattle.flat_laws.specs.FlatModule.{stacks_in}
use Rattle.headline.proofs.NumberedStmts.{Kinds, place_told}
use Rattle.guard_form.specs.Functions.{GuardedFunc}
use Rattle.guard_form.specs.Grouping.{is_place}
use Rattle.guard_form.specs.Pieces.{Units, no_unit, call_unit, nest_unit, if_unit, numbers_in, call_to, call_total, sole_callee, numbered, holds_call, first_piece, unit_call, units}
use Rattle.slim_laws.specs.Slim.{Free, StackShape, Terms}
use Rattle.slim_laws.specs.SlimUnits.{SlimUnits, untouched, alone, before_call, before_block, before_loop, before_if, before_kept_if}
use Rattle.slim_laws.proofs.UnitsAlike.{units_alike}
use Rattle.guard_form.specs.Places.{Enclosing, BodyPlace, at_start, past_call, past_block, past_loop, past_if, in_block, in_loop, in_then, in_else}

-- ---- a fact of each numbered call among units, by its number

abbrev pub EachUnit : (ℕ → List ℕ → Type 0) → ℕ → Units → Type 0
EachUnit Q k no_unit = Unit {0}
EachUnit Q k (call_unit slots x to behind rest) = Q k slots × EachUnit Q (suc k) rest
EachUnit Q k (nest_unit s first body behind rest) = EachUnit Q k body × EachUnit Q (k + numbers_in body) rest
EachUnit Q k (if_unit c fa a fb b behind rest) = EachUnit Q k a × EachUnit Q (k + numbers_in a) b × EachUnit Q (k + numbers_in a + numbers_in b) rest

-- it holds at each place of a body
pub at_place : (Q : ℕ → List ℕ → Type 0) (st : ℕ) (f : GuardedFunc) (k : ℕ) (us : Units) (xs : List Enclosing) → EachUnit Q 0 f.body → BodyPlace st f k us xs → EachUnit Q k us
at_place Q st f _ _ _ h at_start = h
at_place Q st f _ _ _ h (past_call {k = k} {behind = behind} {rest = rest} {xs = xs} slots x to pl) = (at_place Q st f k (call_unit slots x to behind rest) xs h pl).1
at_place Q st f _ _ _ h (past_block {k = k} {behind = behind} {rest = rest} {xs = xs} first body pl) = (at_place Q st f k (nest_unit a_block first body behind rest) xs h pl).1
at_place Q st f _ _ _ h (past_loop {k = k} {behind = behind} {rest = rest} {xs = xs} first body pl) = (at_place Q st f k (nest_unit a_loop first body behind rest) xs h pl).1
at_place Q st f _ _ _ h (past_if {k = k} {behind = behind} {rest = rest} {xs = xs} c fa a fb b pl) = (at_place Q st f k (if_unit c fa a fb b behind rest) xs h pl).2
at_place Q st f _ _ _ h (in_block {k = k} {first = first} {body = body} {behind = behind} {rest = rest} {xs = xs} hh pl) = (at_place Q st f k (nest_unit a_block first body behind rest) xs h pl).0
at_place Q st f _ _ _ h (in_loop {k = k} {first = first} {body = body} {behind = behind} {rest = rest} {xs = xs} hh pl) = (at_place Q st f k (nest_unit a_loop first body behind rest) xs h pl).0
at_place Q st f _ _ _ h (in_then {k = k} {c = c} {fa = fa} {a = a} {fb = fb} {b = b} {behind = behind} {rest = rest} {xs = xs} hh pl) = (at_place Q st f k (if_unit c fa a fb b behind rest) xs h pl).0
at_place Q st f _ _ _ h (in_else {k = k} {c = c} {fa = fa} {a = a} {fb = fb} {b = b} {behind = behind} {rest = rest} {xs = xs} hh pl) = (at_place Q st f k (if_unit c fa a fb b behind rest) xs h pl).1

-- and of slim units
pub each_slim : (Q : ℕ → List ℕ → Type 0) (t : Terms) (n : ℕ) (ts : List Free) (out f : Free) (sh : StackShape) (first first' : Code) (us us' : Units) (k : ℕ)
    → SlimUnits t n ts out f sh first us first' us' → EachUnit Q k us → EachUnit Q k us'
each_slim Q t n ts out _ _ first _ us _ k untouched h = h
each_slim Q t n ts out f sh first first' _ _ k (alone sl) h = h
each_slim Q t n ts out f sh first first' _ _ k (before_call {sh2 = sh2} {behind = behind} {behind' = behind'} {rest = rest} {rest' = rest'} slots x g h2 go sl hs hf re sg on) h =
    (h.0, each_slim Q t n ts out h2 sh2 behind behind' rest rest' (suc k) on h.1)
each_slim Q t n ts out f sh first first' _ _ k (before_block {inner = inner} {inner' = inner'} {behind = behind} {behind' = behind'} {body = body} {body' = body'} {rest = rest} {rest' =
    rest'} g h2 go sl ib on) h =
    let e = (units_alike t _ (h2 ∷ ts) h2 g [] inner inner' body body' ib).numbers in (
      each_slim Q t _ (h2 ∷ ts) h2 g [] inner inner' body body' k ib h.0,
      subst (λ i. EachUnit Q (k + i) rest') (sym e)
          (each_slim Q t n ts out h2 [] behind behind' rest rest' (k + numbers_in body) on h.1),
    )
each_slim Q t n ts out f sh first first' _ _ k (before_loop {inner = inner} {inner' = inner'} {behind = behind} {behind' = behind'} {body = body} {body' = body'} {rest = rest} {rest' =
    rest'} g head h2 go sl co ib on) h =
    let e = (units_alike t _ (head ∷ ts) h2 head [] inner inner' body body' ib).numbers in (
      each_slim Q t _ (head ∷ ts) h2 head [] inner inner' body body' k ib h.0,
      subst (λ i. EachUnit Q (k + i) rest') (sym e)
          (each_slim Q t n ts out h2 [] behind behind' rest rest' (k + numbers_in body) on h.1),
    )
each_slim Q t n ts out f sh first first' _ _ k (before_if {fa = fa} {fa' = fa'} {fb = fb} {fb' = fb'} {behind = behind} {behind' = behind'} {a = a} {a' = a'} {b = b} {b' = b'} {rest =
    rest} {rest' = rest'} o g l h2 go sl hc co ia ib on) h =
    let e = (units_alike t _ (h2 ∷ ts) h2 l [] fa fa' a a' ia).numbers in
    let e2 = (units_alike t _ (h2 ∷ ts) h2 l [] fb fb' b b' ib).numbers in (
      each_slim Q t _ (h2 ∷ ts) h2 l [] fa fa' a a' k ia h.0,
      subst (λ i. EachUnit Q (k + i) b') (sym e) (each_slim Q t _ (h2 ∷ ts) h2 l [] fb fb' b b' (k + numbers_in a) ib h.1),
      subst (λ i. EachUnit Q (k + numbers_in a' + i) rest') (sym e2) (subst (λ i. EachUnit Q (k + i + numbers_in b) rest') (sym e)
          (each_slim Q t n ts out h2 [] behind behind' rest rest' (k + numbers_in a + numbers_in b) on h.2)),
    )
each_slim Q t n ts out f sh first first' _ _ k (before_kept_if {fa = fa} {fa' = fa'} {fb = fb} {fb' = fb'} {behind = behind} {behind' = behind'} {a = a} {a' = a'} {b = b} {b' = b'}
    {rest = rest} {rest' = rest'} o g h2 go sl ia ib on) h =
    let e = (units_alike t _ (h2 ∷ ts) h2 g [] fa fa' a a' ia).numbers in
    let e2 = (units_alike t _ (h2 ∷ ts) h2 g [] fb fb' b b' ib).numbers in (
      each_slim Q t _ (h2 ∷ ts) h2 g [] fa fa' a a' k ia h.0,
      subst (λ i. EachUnit Q (k + i) b') (sym e) (each_slim Q t _ (h2 ∷ ts) h2 g [] fb fb' b b' (k + numbers_in a) ib h.1),
      subst (λ i. EachUnit Q (k + numbers_in a' + i) rest') (sym e2)
          (subst (λ i. EachUnit Q (k + i + numbers_in b) rest') (sym e) (each_slim Q t n ts out h2 [] behind behind' rest rest' (k + numbers_in a + numbers_in b) on h.2)),
    )

-- ---- the same of each call of statements, by its place

abbrev pub EachCall : (ℕ → List ℕ → Type 0) → ℕ → Stmts → Type 0
EachCall P n no_more = Unit {0}
EachCall P n (computes op args to rest) = EachCall P n rest
EachCall P n (copies to from rest) = EachCall P n rest
EachCall P n (calls op stack args to rest) = P n (last_of args stack) × EachCall P (suc n) rest
EachCall P n (leaps l rest) = EachCall P n rest
EachCall P n (leaps_if c l rest) = EachCall P n rest
EachCall P n (leaps_by index labels last rest) = EachCall P n rest
EachCall P n (nests s body rest) = EachCall P n body × EachCall P (n + call_total body) rest
EachCall P n (decides c a b rest) = EachCall P n a × EachCall P (n + call_total a) b × EachCall P (n + call_total a + call_total b) rest
EachCall P n (halts rest) = EachCall P n rest

-- no number is given where no call is held
no_numbers : (ps : List ℕ) (n : ℕ) (s : Stmts) → holds_call ps n s ≡ false → numbers_in (units ps n s) ≡ 0
no_numbers ps n no_more h = refl
no_numbers ps n (computes op args to rest) h = no_numbers ps n rest h
no_numbers ps n (copies to from rest) h = no_numbers ps n rest h
no_numbers ps n (calls op stack args to rest) h = by (numbered ps n op) h (λ g. no_numbers ps (suc n) rest g)
  where
    by : (o : Option Callee) → (Rattle.std.specs.Option.is_some o || holds_call ps (suc n) rest) ≡ false → (holds_call ps (suc n) rest ≡ false → numbers_in (units ps (suc n) rest) ≡ 0)
        → numbers_in (unit_call o (last_of args stack) to (first_piece ps (suc n) rest) (units ps (suc n) rest)) ≡ 0
    by None h on = on h
    by (Some x) h on = cc
no_numbers ps n (leaps l rest) h = no_numbers ps n rest h
no_numbers ps n (leaps_if c l rest) h = no_numbers ps n rest h
no_numbers ps n (leaps_by index labels last rest) h = no_numbers ps n rest h
no_numbers ps n (nests s body rest) h = by (holds_call ps n body) h (λ g. no_numbers ps (n + call_total body) rest g)
  where
    by : (b : Bool) → (b || holds_call ps (n + call_total body) rest) ≡ false → (holds_call ps (n + call_total body) rest ≡ false → numbers_in (units ps (n + call_total body) rest) ≡ 0)
        → numbers_in (if b then nest_unit s (first_piece ps n body) (units ps n body) (first_piece ps (n + call_total body) rest) (units ps (n + call_total body) rest)
        else units ps (n + call_total body) rest) ≡ 0
    by true h on = cc
    by false h on = on h
no_numbers ps n (decides c a b rest) h = by (holds_call ps n a || holds_call ps (n + call_total a) b) h (λ g. no_numbers ps (n + call_total a + call_total b) rest g)
  where
    by : (z : Bool) → (z || holds_call ps (n + call_total a + call_total b) rest) ≡ false
        → (holds_call ps (n + call_total a + call_total b) rest ≡ false → numbers_in (units ps (n + call_total a + call_total b) rest) ≡ 0)
        → numbers_in (if z then if_unit (Some c) (first_piece ps n a) (units ps n a) (first_piece ps (n + call_total a) b) (units ps (n + call_total a) b)
        (first_piece ps (n + call_total a + call_total b) rest) (units ps (n + call_total a + call_total b) rest) else units ps (n + call_total a + call_total b) rest) ≡ 0
    by true h on = cc
    by false h on = on h
no_numbers ps n (halts rest) h = no_numbers ps n rest h

-- ---- from calls to units: the number of a place is how many numbered ones lie below

-- each call of the statements is one
abbrev pub IsOne : Stmts → Type 0
IsOne no_more = Unit {0}
IsOne (computes op args to rest) = IsOne rest
IsOne (copies to from rest) = IsOne rest
IsOne (calls op stack args to rest) = ((x : Callee) × (op ≡ plain (call_to x) done)) × IsOne rest
IsOne (leaps l rest) = IsOne rest
IsOne (leaps_if c l rest) = IsOne rest
IsOne (leaps_by index labels last rest) = IsOne rest
IsOne (nests s body rest) = IsOne body × IsOne rest
IsOne (decides c a b rest) = IsOne a × IsOne b × IsOne rest
IsOne (halts rest) = IsOne rest

pub kinds_one : (s : Stmts) → Kinds s → IsOne s
kinds_one no_more k = tt
kinds_one (computes op args to rest) k = kinds_one rest k.1
kinds_one (copies to from rest) k = kinds_one rest k
kinds_one (calls op stack args to rest) k = (k.0, kinds_one rest k.1)
kinds_one (leaps l rest) k = kinds_one rest k
kinds_one (leaps_if c l rest) k = kinds_one rest k
kinds_one (leaps_by index labels last rest) k = kinds_one rest k
kinds_one (nests s body rest) k = (kinds_one body k.0, kinds_one rest k.1)
kinds_one (decides c a b rest) k = (kinds_one a k.0, kinds_one b k.1, kinds_one rest k.2)
kinds_one (halts rest) k = kinds_one rest k

module _ (ps : List ℕ) (rank : ℕ → ℕ) (next : (n : ℕ) → rank (suc n) ≡ (if is_place ps n then suc (rank n) else rank n)) where
  sole : (c : Callee) → sole_callee (plain (call_to c) done) ≡ Some c
  sole (direct y) = refl
  sole (indirect y) = refl

  -- a call is numbered where its place is told
  told_true : (n : ℕ) (op : Code) → ((x : Callee) × (op ≡ plain (call_to x) done)) → is_place ps n ≡ true → (x : Callee) × (numbered ps n op ≡ Some x)
  told_true n op one e = (one.0, ap (λ b. if b then sole_callee op else None) e ∙ ap sole_callee one.1 ∙ sole one.0)

  told_false : (n : ℕ) (op : Code) → is_place ps n ≡ false → numbered ps n op ≡ None
  told_false n op e = ap (λ b. if b then sole_callee op else None) e

  three : (n a b : ℕ) → n + (a + b) ≡ n + a + b
  three n a b = omega arith

  plus : {i j k : ℕ} → i + j ≡ k → j ≡ 0 → i ≡ k
  plus h z = omega arith

  -- the numbers of statements take the rank from where they begin to where they end
  ranks : (n : ℕ) (s : Stmts) → IsOne s → rank n + numbers_in (units ps n s) ≡ rank (n + call_total s)
  ranks n no_more k = let z : n + 0 ≡ n = omega arith in let e = ap rank z in omega arith
  ranks n (computes op args to rest) k = ranks n rest k
  ranks n (copies to from rest) k = ranks n rest k
  ranks n (calls op stack args to rest) k = by (is_place ps n) refl (ranks (suc n) rest k.1)
    where
      by : (b : Bool) → is_place ps n ≡ b → rank (suc n) + numbers_in (units ps (suc n) rest) ≡ rank (suc n + call_total rest)
          → rank n + numbers_in (unit_call (numbered ps n op) (last_of args stack) to (first_piece ps (suc n) rest) (units ps (suc n) rest)) ≡ rank (n + suc (call_total rest))
      by true e ih =
          let t = told_true n op k.0 e in
          let r : rank (suc n) ≡ suc (rank n) = next n ∙ ap (λ b. if b then suc (rank n) else rank n) e in
          let z : n + suc (call_total rest) ≡ suc n + call_total rest = omega arith in
          let y = ap rank z in
          let u : numbers_in (unit_call (numbered ps n op) (last_of args stack) to (first_piece ps (suc n) rest) (units ps (suc n) rest)) ≡ suc (numbers_in (units ps (suc n) rest)) =
          ap (λ o. numbers_in (unit_call o (last_of args stack) to (first_piece ps (suc n) rest) (units ps (suc n) rest))) t.1 in
          omega arith
      by false e ih =
          let t = told_false n op e in
          let r : rank (suc n) ≡ rank n = next n ∙ ap (λ b. if b then suc (rank n) else rank n) e in
          let z : n + suc (call_total rest) ≡ suc n + call_total rest = omega arith in
          let y = ap rank z in
          let u : numbers_in (unit_call (numbered ps n op) (last_of args stack) to (first_piece ps (suc n) rest) (units ps (suc n) rest)) ≡ numbers_in (units ps (suc n) rest) =
          ap (λ o. numbers_in (unit_call o (last_of args stack) to (first_piece ps (suc n) rest) (units ps (suc n) rest))) t in
          omega arith
  ranks n (leaps l rest) k = ranks n rest k
  ranks n (leaps_if c l rest) k = ranks n rest k
  ranks n (leaps_by index labels last rest) k = ranks n rest k
  ranks n (nests s body rest) k = by (holds_call ps n body) refl (ranks n body k.0) (ranks (n + call_total body) rest k.1)
    where
      by : (b : Bool) → holds_call ps n body ≡ b → rank n + numbers_in (units ps n body) ≡ rank (n + call_total body)
          → rank (n + call_total body) + numbers_in (units ps (n + call_total body) rest) ≡ rank (n + call_total body + call_total rest)
          → rank n + numbers_in (if b then nest_unit s (first_piece ps n body) (units ps n body) (first_piece ps (n + call_total body) rest) (units ps (n + call_total body) rest)
          else units ps (n + call_total body) rest) ≡ rank (n + (call_total body + call_total rest))
      by true e ib ih = let z = ap rank (three n (call_total body) (call_total rest)) in omega arith
      by false e ib ih = let z = ap rank (three n (call_total body) (call_total rest)) in let y = no_numbers ps n body e in omega arith
  ranks n (decides c a b rest) k = by (holds_call ps n a) refl (holds_call ps (n + call_total a) b) refl (ranks n a k.0) (ranks (n + call_total a) b k.1)
      (ranks (n + call_total a + call_total b) rest k.2)
    where
      four : (n a b c : ℕ) → n + (a + b + c) ≡ n + a + b + c
      four n a b c = omega arith

      by : (x : Bool) → holds_call ps n a ≡ x → (y : Bool) → holds_call ps (n + call_total a) b ≡ y → rank n + numbers_in (units ps n a) ≡ rank (n + call_total a)
          → rank (n + call_total a) + numbers_in (units ps (n + call_total a) b) ≡ rank (n + call_total a + call_total b)
          → rank (n + call_total a + call_total b) + numbers_in (units ps (n + call_total a + call_total b) rest) ≡ rank (n + call_total a + call_total b + call_total rest)
          → rank n + numbers_in (if x || y then if_unit (Some c) (first_piece ps n a) (units ps n a) (first_piece ps (n + call_total a) b) (units ps (n + call_total a) b)
          (first_piece ps (n + call_total a + call_total b) rest) (units ps (n + call_total a + call_total b) rest) else units ps (n + call_total a + call_total b) rest)
          ≡ rank (n + (call_total a + call_total b + call_total rest))
      by true e y f ia ib ih = let z = ap rank (four n (call_total a) (call_total b) (call_total rest)) in omega arith
      by false e true f ia ib ih = let z = ap rank (four n (call_total a) (call_total b) (call_total rest)) in omega arith
      by false e false f ia ib ih = let z = ap rank (four n (call_total a) (call_total b) (call_total rest)) in let u = no_numbers ps n a e in let w = no_numbers ps (n + call_total a) b f
          in omega arith
  ranks n (halts rest) k = ranks n rest k

  module _ (P : ℕ → List ℕ → Type 0) (Q : ℕ → List ℕ → Type 0) (counts : (n : ℕ) (slots : List ℕ) → is_place ps n ≡ true → P n slots → Q (rank n) slots) where
    moved : {i j : ℕ} (us : Units) → i ≡ j → EachUnit Q j us → EachUnit Q i us
    moved us e h = subst (λ k. EachUnit Q k us) (sym e) h

    pub each_unit : (n : ℕ) (s : Stmts) → IsOne s → EachCall P n s → EachUnit Q (rank n) (units ps n s)
    each_unit n no_more k h = tt
    each_unit n (computes op args to rest) k h = each_unit n rest k h
    each_unit n (copies to from rest) k h = each_unit n rest k h
    each_unit n (calls op stack args to rest) k h = by (is_place ps n) refl (each_unit (suc n) rest k.1 h.1)
      where
        by : (b : Bool) → is_place ps n ≡ b → EachUnit Q (rank (suc n)) (units ps (suc n) rest)
            → EachUnit Q (rank n) (unit_call (numbered ps n op) (last_of args stack) to (first_piece ps (suc n) rest) (units ps (suc n) rest))
        by true e ih =
            let t = told_true n op k.0 e in
            let r : rank (suc n) ≡ suc (rank n) = next n ∙ ap (λ b. if b then suc (rank n) else rank n) e in
            subst (λ o. EachUnit Q (rank n) (unit_call o (last_of args stack) to (first_piece ps (suc n) rest) (units ps (suc n) rest))) (sym t.1)
            (counts n (last_of args stack) e h.0, subst (λ i. EachUnit Q i (units ps (suc n) rest)) r ih)
        by false e ih =
            let r : rank (suc n) ≡ rank n = next n ∙ ap (λ b. if b then suc (rank n) else rank n) e in
            subst (λ o. EachUnit Q (rank n) (unit_call o (last_of args stack) to (first_piece ps (suc n) rest) (units ps (suc n) rest))) (sym (told_false n op e))
            (subst (λ i. EachUnit Q i (units ps (suc n) rest)) r ih)
    each_unit n (leaps l rest) k h = each_unit n rest k h
    each_unit n (leaps_if c l rest) k h = each_unit n rest k h
    each_unit n (leaps_by index labels last rest) k h = each_unit n rest k h
    each_unit n (nests s body rest) k h = by (holds_call ps n body) refl (each_unit n body k.0 h.0) (each_unit (n + call_total body) rest k.1 h.1)
      where
        by : (b : Bool) → holds_call ps n body ≡ b → EachUnit Q (rank n) (units ps n body) → EachUnit Q (rank (n + call_total body)) (units ps (n + call_total body) rest)
            → EachUnit Q (rank n) (if b then nest_unit s (first_piece ps n body) (units ps n body) (first_piece ps (n + call_total body) rest) (units ps (n + call_total body) rest)
            else units ps (n + call_total body) rest)
        by true e ib ih = (ib, moved (units ps (n + call_total body) rest) (ranks n body k.0) ih)
        by false e ib ih =
            let r = ranks n body k.0 in let z = no_numbers ps n body e in
            moved (units ps (n + call_total body) rest) (let w : rank n ≡ rank (n + call_total body) = omega arith in w) ih
    each_unit n (decides c a b rest) k h =
        by (holds_call ps n a) refl (holds_call ps (n + call_total a) b) refl (each_unit n a k.0 h.0) (each_unit (n + call_total a) b k.1 h.1)
        (each_unit (n + call_total a + call_total b) rest k.2 h.2)
      where
        by : (x : Bool) → holds_call ps n a ≡ x → (y : Bool) → holds_call ps (n + call_total a) b ≡ y → EachUnit Q (rank n) (units ps n a)
            → EachUnit Q (rank (n + call_total a)) (units ps (n + call_total a) b)
            → EachUnit Q (rank (n + call_total a + call_total b)) (units ps (n + call_total a + call_total b) rest)
            → EachUnit Q (rank n) (if x || y then if_unit (Some c) (first_piece ps n a) (units ps n a) (first_piece ps (n + call_total a) b) (units ps (n + call_total a) b)
            (first_piece ps (n + call_total a + call_total b) rest) (units ps (n + call_total a + call_total b) rest) else units ps (n + call_total a + call_total b) rest)
        by true e y f ia ib ih =
            let ra = ranks n a k.0 in let rb = ranks (n + call_total a) b k.1 in (
              ia,
              moved (units ps (n + call_total a) b) ra ib,
              moved (units ps (n + call_total a + call_total b) rest)
                  (let w : rank n + numbers_in (units ps n a) + numbers_in (units ps (n + call_total a) b) ≡ rank (n + call_total a + call_total b) = omega arith in w) ih,
            )
        by false e true f ia ib ih =
            let ra = ranks n a k.0 in let rb = ranks (n + call_total a) b k.1 in (
              ia,
              moved (units ps (n + call_total a) b) ra ib,
              moved (units ps (n + call_total a + call_total b) rest)
                  (let w : rank n + numbers_in (units ps n a) + numbers_in (units ps (n + call_total a) b) ≡ rank (n + call_total a + call_total b) = omega arith in w) ih,
            )
        by false e false f ia ib ih =
            let ra = ranks n a k.0 in let rb = ranks (n + call_total a) b k.1 in let za = no_numbers ps n a e in let zb = no_numbers ps (n + call_total a) b f in
            moved (units ps (n + call_total a + call_total b) rest) (let w : rank n ≡ rank (n + call_total a + call_total b) = omega arith in w) ih
    each_unit n (halts rest) k h = each_unit n rest k h

-- ---- the places that a test tells, and how many lie below each

module _ (test : Callee → Bool) where
  abbrev pub told_before : List Callee → ℕ → ℕ
  told_before cs zero = 0
  told_before [] (suc n) = 0
  told_before (c ∷ cs) (suc n) = if test c then suc (told_before cs n) else told_before cs n

  abbrev places : ℕ → List Callee → List ℕ
  places k cs = places_from test k cs

  none_told : (n : ℕ) → told_before [] n ≡ 0
  none_told zero = refl
  none_told (suc n) = refl

  -- the first place says nothing of later ones
  later_place : (k : ℕ) (c : Callee) (cs : List Callee) (n : ℕ) → is_place (places k (c ∷ cs)) (k + suc n) ≡ is_place (places (suc k) cs) (suc k + n)
  later_place k c cs n = by (test c)
    where
      z : k + suc n ≡ suc k + n
      z = omega arith

      by : (b : Bool) → is_place (if b then k ∷ places (suc k) cs else places (suc k) cs) (k + suc n) ≡ is_place (places (suc k) cs) (suc k + n)
      by true = let ne : nat_eq k (k + suc n) ≡ false = ne_eqb k (k + suc n) (λ e. absurd (omega arith)) in ap (λ b. b || is_place (places (suc k) cs) (k + suc n)) ne
          ∙ ap (is_place (places (suc k) cs)) z
      by false = ap (is_place (places (suc k) cs)) z

  pub next_told : (k : ℕ) (cs : List Callee) (n : ℕ) → told_before cs (suc n) ≡ (if is_place (places k cs) (k + n) then suc (told_before cs n) else told_before cs n)
  next_told k [] n = sym (none_told n)
  next_told k (c ∷ cs) zero = sym (ap (λ b. if b then 1 else 0) (place_told test k (c ∷ cs) 0 c refl))
  next_told k (c ∷ cs) (suc n) =
      by (test c) (is_place (places (suc k) cs) (suc k + n)) (next_told (suc k) cs n)
      ∙ ap (λ b. if b then suc (told_before (c ∷ cs) (suc n)) else told_before (c ∷ cs) (suc n)) (sym (later_place k c cs n))
    where
      by : (b p : Bool) → told_before cs (suc n) ≡ (if p then suc (told_before cs n) else told_before cs n)
          → (if b then suc (told_before cs (suc n)) else told_before cs (suc n)) ≡ (if p then suc (if b then suc (told_before cs n) else told_before cs n)
          else (if b then suc (told_before cs n) else told_before cs n))
      by true true ih = ap suc ih
      by true false ih = ap suc ih
      by false true ih = ih
      by false false ih = ih

  pub told_at : (k : ℕ) (cs : List Callee) (n : ℕ) → is_place (places k cs) (k + n) ≡ true → slice_get (places k cs) (told_before cs n) ≡ Some (k + n)
  told_at k [] n e = cc
  told_at k (c ∷ cs) zero e =
      let t : test c ≡ true = sym (place_told test k (c ∷ cs) 0 c refl) ∙ e in
      let z : k ≡ k + 0 = omega arith in
      ap (λ b. slice_get (if b then k ∷ places (suc k) cs else places (suc k) cs) 0) t ∙ ap (λ i. Some i) z
  told_at k (c ∷ cs) (suc n) e = by (test c) (told_at (suc k) cs n (sym (later_place k c cs n) ∙ e))
    where
      z : suc k + n ≡ k + suc n
      z = omega arith

      by : (b : Bool) → slice_get (places (suc k) cs) (told_before cs n) ≡ Some (suc k + n)
          → slice_get (if b then k ∷ places (suc k) cs else places (suc k) cs) (if b then suc (told_before cs n) else told_before cs n) ≡ Some (k + suc n)
      by true ih = ih ∙ ap (λ i. Some i) z
      by false ih = ih ∙ ap (λ i. Some i) z

-- ---- the slots of all calls, in order

abbrev pub call_slots : Stmts → List (List ℕ)
call_slots no_more = []
call_slots (computes op args to rest) = call_slots rest
call_slots (copies to from rest) = call_slots rest
call_slots (calls op stack args to rest) = last_of args stack ∷ call_slots rest
call_slots (leaps l rest) = call_slots rest
call_slots (leaps_if c l rest) = call_slots rest
call_slots (leaps_by index labels last rest) = call_slots rest
call_slots (nests s body rest) = call_slots body ++ call_slots rest
call_slots (decides c a b rest) = call_slots a ++ (call_slots b ++ call_slots rest)
call_slots (halts rest) = call_slots rest

abbrev pub args_in : Stmts → List ℕ
args_in no_more = []
args_in (computes op args to rest) = args_in rest
args_in (copies to from rest) = args_in rest
args_in (calls op stack args to rest) = args ∷ args_in rest
args_in (leaps l rest) = args_in rest
args_in (leaps_if c l rest) = args_in rest
args_in (leaps_by index labels last rest) = args_in rest
args_in (nests s body rest) = args_in body ++ args_in rest
args_in (decides c a b rest) = args_in a ++ (args_in b ++ args_in rest)
args_in (halts rest) = args_in rest

abbrev pub zip_last : List ℕ → List (List ℕ) → List (List ℕ)
zip_last [] xs = []
zip_last (a ∷ as1) [] = []
zip_last (a ∷ as1) (x ∷ xs) = last_of a x ∷ zip_last as1 xs

zip_on : (as1 bs : List ℕ) (xs ys : List (List ℕ)) → length as1 ≡ length xs → zip_last (as1 ++ bs) (xs ++ ys) ≡ zip_last as1 xs ++ zip_last bs ys
zip_on [] bs [] ys e = refl
zip_on [] bs (x ∷ xs) ys e = absurd (omega arith)
zip_on (a ∷ as1) bs [] ys e = absurd (omega arith)
zip_on (a ∷ as1) bs (x ∷ xs) ys e = ap (λ z. last_of a x ∷ z) (zip_on as1 bs xs ys (omega arith))

same_count : (s : Stmts) → length (args_in s) ≡ length (stacks_in s)
unfolding stacks_in
same_count no_more = refl
same_count (computes op args to rest) = same_count rest
same_count (copies to from rest) = same_count rest
same_count (calls op stack args to rest) = ap suc (same_count rest)
same_count (leaps l rest) = same_count rest
same_count (leaps_if c l rest) = same_count rest
same_count (leaps_by index labels last rest) = same_count rest
same_count (nests s body rest) = length-append (args_in body) (args_in rest) ∙ ap (λ i. i + length (args_in rest)) (same_count body)
    ∙ ap (λ i. length (stacks_in body) + i) (same_count rest) ∙ sym (length-append (stacks_in body) (stacks_in rest))
same_count (decides c a b rest) =
    let x = same_count a in let y = same_count b in let z = same_count rest in
    let l1 = length-append (args_in a) (args_in b ++ args_in rest) in let l2 = length-append (args_in b) (args_in rest) in
    let l3 = length-append (stacks_in a) (stacks_in b ++ stacks_in rest) in let l4 = length-append (stacks_in b) (stacks_in rest) in
    omega arith
same_count (halts rest) = same_count rest

pub zipped : (s : Stmts) → call_slots s ≡ zip_last (args_in s) (stacks_in s)
unfolding stacks_in
zipped no_more = refl
zipped (computes op args to rest) = zipped rest
zipped (copies to from rest) = zipped rest
zipped (calls op stack args to rest) = ap (λ z. last_of args stack ∷ z) (zipped rest)
zipped (leaps l rest) = zipped rest
zipped (leaps_if c l rest) = zipped rest
zipped (leaps_by index labels last rest) = zipped rest
zipped (nests s body rest) = ap (λ z. z ++ call_slots rest) (zipped body) ∙ ap (λ z. zip_last (args_in body) (stacks_in body) ++ z) (zipped rest)
    ∙ sym (zip_on (args_in body) (args_in rest) (stacks_in body) (stacks_in rest) (same_count body))
zipped (decides c a b rest) =
    ap (λ z. z ++ (call_slots b ++ call_slots rest)) (zipped a) ∙ ap (λ z. zip_last (args_in a) (stacks_in a) ++ (z ++ call_slots rest)) (zipped b)
    ∙ ap (λ z. zip_last (args_in a) (stacks_in a) ++ (zip_last (args_in b) (stacks_in b) ++ z)) (zipped rest)
    ∙ ap (λ z. zip_last (args_in a) (stacks_in a) ++ z) (sym (zip_on (args_in b) (args_in rest) (stacks_in b) (stacks_in rest) (same_count b)))
    ∙ sym (zip_on (args_in a) (args_in b ++ args_in rest) (stacks_in a) (stacks_in b ++ stacks_in rest) (same_count a))
zipped (halts rest) = zipped rest

pub zip_got : (as1 : List ℕ) (xs : List (List ℕ)) (i a : ℕ) (x : List ℕ) → slice_get as1 i ≡ Some a → slice_get xs i ≡ Some x → slice_get (zip_last as1 xs) i ≡ Some (last_of a x)
zip_got [] xs i a x e f = cc
zip_got (a1 ∷ as1) [] i a x e f = cc
zip_got (a1 ∷ as1) (y ∷ xs) zero a x e f = let p : a1 ≡ a = cc in let q : y ≡ x = cc in ap (λ j. Some (last_of j y)) p ∙ ap (λ z. Some (last_of a z)) q
zip_got (a1 ∷ as1) (y ∷ xs) (suc i) a x e f = zip_got as1 xs i a x e f

-- ---- each call has the slots that stand at its place

first_got : (xs ys : List (List ℕ)) (i : ℕ) (x : List ℕ) → slice_get xs i ≡ Some x → slice_get (xs ++ ys) i ≡ Some x
first_got [] ys i x e = cc
first_got (z ∷ xs) ys zero x e = e
first_got (z ∷ xs) ys (suc i) x e = first_got xs ys i x e

second_got : (xs ys : List (List ℕ)) (i : ℕ) → slice_get (xs ++ ys) (length xs + i) ≡ slice_get ys i
second_got [] ys i = let z : length {A = List ℕ} [] + i ≡ i = omega arith in ap (slice_get ys) z
second_got (x ∷ xs) ys i = let z : length (x ∷ xs) + i ≡ suc (length xs + i) = omega arith in ap (slice_get (x ∷ (xs ++ ys))) z ∙ second_got xs ys i

slots_count : (s : Stmts) → length (call_slots s) ≡ call_total s
slots_count no_more = refl
slots_count (computes op args to rest) = slots_count rest
slots_count (copies to from rest) = slots_count rest
slots_count (calls op stack args to rest) = ap suc (slots_count rest)
slots_count (leaps l rest) = slots_count rest
slots_count (leaps_if c l rest) = slots_count rest
slots_count (leaps_by index labels last rest) = slots_count rest
slots_count (nests s body rest) = let x = slots_count body in let y = slots_count rest in let l = length-append (call_slots body) (call_slots rest) in omega arith
slots_count (decides c a b rest) =
    let x = slots_count a in let y = slots_count b in let z = slots_count rest in
    let l1 = length-append (call_slots a) (call_slots b ++ call_slots rest) in let l2 = length-append (call_slots b) (call_slots rest) in
    omega arith
slots_count (halts rest) = slots_count rest

module _ (whole : List (List ℕ)) where
  -- the slots of the statements stand in the whole list, from the place of the first call on
  abbrev StandsAt : (n : ℕ) (xs : List (List ℕ)) → Type 0
  StandsAt n xs = (i : ℕ) (x : List ℕ) → slice_get xs i ≡ Some x → slice_get whole (n + i) ≡ Some x

  left_stands : (n : ℕ) (xs ys : List (List ℕ)) → StandsAt n (xs ++ ys) → StandsAt n xs
  left_stands n xs ys h i x e = h i x (first_got xs ys i x e)

  right_stands : (n k : ℕ) (xs ys : List (List ℕ)) → length xs ≡ k → StandsAt n (xs ++ ys) → StandsAt (n + k) ys
  right_stands n k xs ys l h i x e = let z : n + k + i ≡ n + (length xs + i) = omega arith in ap (slice_get whole) z ∙ h (length xs + i) x (second_got xs ys i ∙ e)

  each_call : (n : ℕ) (s : Stmts) → StandsAt n (call_slots s) → EachCall (λ j x. slice_get whole j ≡ Some x) n s
  each_call n no_more h = tt
  each_call n (computes op args to rest) h = each_call n rest h
  each_call n (copies to from rest) h = each_call n rest h
  each_call n (calls op stack args to rest) h =
      let z : n ≡ n + 0 = omega arith in (
        ap (slice_get whole) z ∙ h 0 (last_of args stack) refl,
        each_call (suc n) rest (λ i x e. let y : suc n + i ≡ n + suc i = omega arith in ap (slice_get whole) y ∙ h (suc i) x e),
      )
  each_call n (leaps l rest) h = each_call n rest h
  each_call n (leaps_if c l rest) h = each_call n rest h
  each_call n (leaps_by index labels last rest) h = each_call n rest h
  each_call n (nests s body rest) h = (
    each_call n body (left_stands n (call_slots body) (call_slots rest) h),
    each_call (n + call_total body) rest
        (right_stands n (call_total body) (call_slots body) (call_slots rest) (slots_count body) h),
  )
  each_call n (decides c a b rest) h =
      let r = right_stands n (call_total a) (call_slots a) (call_slots b ++ call_slots rest) (slots_count a) h in (
        each_call n a (left_stands n (call_slots a) (call_slots b ++ call_slots rest) h),
        each_call (n + call_total a) b (left_stands (n + call_total a) (call_slots b) (call_slots rest) r),
        each_call (n + call_total a + call_total b) rest (right_stands (n + call_total a) (call_total b) (call_slots b) (call_slots rest) (slots_count b) r),
      )
  each_call n (halts rest) h = each_call n rest h

  pub all_calls : (s : Stmts) → call_slots s ≡ whole → EachCall (λ j x. slice_get whole j ≡ Some x) 0 s
  all_calls s e = each_call 0 s (λ i x g. let z : 0 + i ≡ i = omega arith in ap (slice_get whole) z ∙ ap (λ xs. slice_get xs i) (sym e) ∙ g)
