-- Places of numbered calls, statement by statement.
use Rattle.std.proofs.Common.{◌≡◌, ℕ, suc, ◌+◌, ◌<◌, ◌≤◌, ◌^◌, ◌∷◌, ◌++◌, List, [], length, get_or, drop, Option, Some, None, Bool, true, false, refl, sym, ap, ◌∙◌, arith, append_assoc, length-append}
use Rattle.std.specs.Prelude.{if◌then◌else◌}
use Rattle.std.proofs.lemmas.List.{append-nil}
use Rattle.std.specs.declared.vec.Vec.{Vec}
use Rattle.std.specs.declared.alloc.Global.{Global}
use Rattle.wa_types.specs.declared.instrs.Instr.{Instr}
use Rattle.wa_types.specs.declared.instrs.Instr.TheVariants.{Call, CallIndirect}
use Rattle.wa_types.specs.Syntax.{Shape, done}
use Rattle.wa_types.specs.View.{in_front}
use Rattle.wa_types.specs.Pausing.{direct, indirect, places_from}
use Rattle.wa_model.specs.declared.flat.Operand.{Operand}
use Rattle.wa_model.specs.declared.flat.Stmt.{Stmt, roll-Stmt, roll-out-Stmt}
use Rattle.wa_model.specs.declared.flat.Stmt.TheVariants.{Plain as PlainStmt, Move, Call as CallStmt, Br as BrStmt, BrIf as BrIfStmt, BrTable as BrTableStmt, Block, Loop, If, Unreachable as UnreachableStmt, Block', Loop', If', rolls-Block, rolls-Loop, rolls-If, outs-Block', outs-Loop', outs-If'}
use Rattle.run_theory.specs.Flat.{Stmts, no_more, computes, copies, calls, leaps, leaps_if, leaps_by, nests, decides, halts}
use Rattle.run_theory.specs.FlatView.{stmt_in_front, stmts}
use Rattle.guard_form.specs.Pieces.{call_total, sole_callee}
use Rattle.flow_rewrite.specs.Statements.{with_rest}
use Rattle.flow_rewrite.specs.Numbering.{callees}
use Rattle.flow_rewrite.proofs.StmtLemmas.{in_front_is, stmts_step, stmts_end, total_with, call_is}

module _ {X : Type 0} (t : X → Bool) where
  pub places_append : (n : ℕ) (xs ys : List X) → places_from t n (xs ++ ys) ≡ places_from t n xs ++ places_from t (n + length xs) ys
  places_append n [] ys = let z : n ≡ n + 0 = omega arith in ap (λ m. places_from t m ys) z
  places_append n (x ∷ xs) ys = by (t x) (let z : suc n + length xs ≡ n + suc (length xs) = omega arith in places_append (suc n) xs ys ∙ ap (λ m. places_from t (suc n) xs ++ places_from t m ys) z)
    where
      by : (b : Bool) → places_from t (suc n) (xs ++ ys) ≡ places_from t (suc n) xs ++ places_from t (n + suc (length xs)) ys
          → (if b then n ∷ places_from t (suc n) (xs ++ ys) else places_from t (suc n) (xs ++ ys)) ≡
          (if b then n ∷ places_from t (suc n) xs else places_from t (suc n) xs) ++ places_from t (n + suc (length xs)) ys
      by true ih = ap (λ z. n ∷ z) ih
      by false ih = ih

pub callees_count : (s : Stmts) → length (callees s) ≡ call_total s
callees_count no_more = refl
callees_count (computes op args to rest) = callees_count rest
callees_count (copies to from rest) = callees_count rest
callees_count (calls op stack args to rest) = ap suc (callees_count rest)
callees_count (leaps l rest) = callees_count rest
callees_count (leaps_if c l rest) = callees_count rest
callees_count (leaps_by o ls l rest) = callees_count rest
callees_count (nests y body rest) = let a = callees_count body in let b = callees_count rest in let e = length-append (callees body) (callees rest) in omega arith
callees_count (decides c x y rest) = let a = callees_count x in let b = callees_count y in let d = callees_count rest in let e = length-append (callees x ++ callees y)
    (callees rest) in let f = length-append (callees x) (callees y) in omega arith
callees_count (halts rest) = callees_count rest

callees_with : (u s : Stmts) → callees (with_rest u s) ≡ callees (with_rest u no_more) ++ callees s
callees_with no_more s = refl
callees_with (computes op args to rest) s = refl
callees_with (copies to from rest) s = refl
callees_with (calls op stack args to rest) s = refl
callees_with (leaps l rest) s = refl
callees_with (leaps_if c l rest) s = refl
callees_with (leaps_by o ls l rest) s = refl
callees_with (nests y body rest) s = ap (λ z. z ++ callees s) (sym (append-nil (callees body)))
callees_with (decides c a b rest) s = ap (λ z. z ++ callees s) (sym (append-nil (callees a ++ callees b)))
callees_with (halts rest) s = refl

pub callees_front : (x : Stmt) (s : Stmts) → callees (stmt_in_front x s) ≡ callees (stmt_in_front x no_more) ++ callees s
callees_front x s = ap callees (in_front_is x s) ∙ callees_with (stmt_in_front x no_more) s ∙ ap (λ z. callees z ++ callees s) (sym (in_front_is x no_more))

total_front : (n : ℕ) (x : Stmt) (s : Stmts) → n + call_total (stmt_in_front x s) ≡ n + call_total (stmt_in_front x no_more) + call_total s
total_front n x s =
    let a = ap call_total (in_front_is x s) in let b = ap call_total (in_front_is x no_more) in
    let e = total_with n (stmt_in_front x no_more) s in let f = total_with n (stmt_in_front x no_more) no_more in omega arith

pub room_at : (n m : ℕ) (xs : List Stmt) (j : ℕ) (x : Stmt) → j < length xs → x ≡ get_or xs j x → n + call_total (stmts (drop j xs)) ≡ m → m < 2 ^ 32
    → n + call_total (stmt_in_front x no_more) < 2 ^ 32
room_at n m xs j x lt at e room = let q = ap call_total (stmts_step xs j x lt at) in let f = total_front n x (stmts (drop (j + 1) xs)) in omega arith

pub numbers_next : (t : Option _ → Bool) (out new goal_ : List ℕ) (next next2 m : ℕ) (xs : List Stmt) (j : ℕ) (x : Stmt) → j < length xs → x ≡ get_or xs j x
    → out ++ places_from t next (callees (stmts (drop j xs))) ≡ goal_ → next + call_total (stmts (drop j xs)) ≡ m
    → next2 ≡ next + call_total (stmt_in_front x no_more) → new ≡ out ++ places_from t next (callees (stmt_in_front x no_more))
    → (new ++ places_from t next2 (callees (stmts (drop (j + 1) xs))) ≡ goal_) × (next2 + call_total (stmts (drop (j + 1) xs)) ≡ m)
numbers_next t out new goal_ next next2 m xs j x lt at e em en ew =
    let q = stmts_step xs j x lt at in
    let rest = stmts (drop (j + 1) xs) in
    let one = stmt_in_front x no_more in
    let z : next2 ≡ next + length (callees one) = en ∙ ap (λ k. next + k) (sym (callees_count one)) in
    let f = total_front next x rest in let q2 = ap call_total q in (
      (λ i. ew i ++ places_from t (z i) (callees rest)) ∙ append_assoc out (places_from t next (callees one)) (places_from t (next + length (callees one)) (callees rest))
          ∙ ap (λ k. out ++ k) (sym (places_append t next (callees one) (callees rest)) ∙ ap (places_from t next) (sym (callees_front x rest)) ∙ ap (λ s. places_from t next (callees s)) (sym q)) ∙ e,
      omega arith,
    )

pub numbers_end : (t : Option _ → Bool) (out goal_ : List ℕ) (next m : ℕ) (xs : List Stmt) (j : ℕ) → length xs ≤ j → out ++ places_from t next (callees (stmts (drop j xs))) ≡ goal_
    → next + call_total (stmts (drop j xs)) ≡ m → (next ≡ m) × (out ≡ goal_)
numbers_end t out goal_ next m xs j le e em =
    let q = stmts_end xs j le in
    let z : next + 0 ≡ m = ap (λ s. next + call_total s) (sym q) ∙ em in
    (omega arith, sym (append-nil out) ∙ ap (λ s. out ++ places_from t next (callees s)) (sym q) ∙ e)

pub call_callee : (x : Instr) (f : ℕ) → x ≡ Call f → sole_callee (in_front x done) ≡ Some (direct f)
unfolding in_front
call_callee x f e = ap (λ y. sole_callee (in_front y done)) e

pub indirect_callee : (x : Instr) (f : ℕ) → x ≡ CallIndirect f → sole_callee (in_front x done) ≡ Some (indirect f)
unfolding in_front
indirect_callee x f e = ap (λ y. sole_callee (in_front y done)) e

pub no_callee : (x : Instr) → ((f : ℕ) → x ≡ Call f → ⊥) → ((f : ℕ) → x ≡ CallIndirect f → ⊥) → sole_callee (in_front x done) ≡ None
unfolding in_front
no_callee (Call f) nc ni = absurd (nc f refl)
no_callee (CallIndirect f) nc ni = absurd (ni f refl)
no_callee _ nc ni = refl

-- ---- one statement

pub call_place : (n : ℕ) (x : Stmt) (op : Instr) (stack : Vec ℕ Global) (args : ℕ) (to : Option ℕ) → x ≡ CallStmt op stack args to → n + 1 ≡ n + call_total (stmt_in_front x no_more)
call_place n x op stack args to e = let q = ap call_total (call_is x op stack args to e no_more) in omega arith

pub call_items : (t : Option _ → Bool) (out new : List ℕ) (n : ℕ) (told : Bool) (x : Stmt) (op : Instr) (stack : Vec ℕ Global) (args : ℕ) (to : Option ℕ) → x ≡ CallStmt op stack args to
    → told ≡ t (sole_callee (in_front op done)) → new ≡ out ++ (if told then n ∷ [] else []) → new ≡ out ++ places_from t n (callees (stmt_in_front x no_more))
call_items t out new n told x op stack args to e q is = is ∙ ap (λ b. out ++ (if b then n ∷ [] else [])) q ∙ ap (λ s. out ++ places_from t n (callees s)) (sym (call_is x op stack args to e no_more))

pub nest_room : (n : ℕ) (x : Stmt) (y : Shape) (body : Stmts) → stmt_in_front x no_more ≡ nests y body no_more → n + call_total (stmt_in_front x no_more) < 2 ^ 32 → n + call_total body < 2 ^ 32
nest_room n x y body e h = let q = ap call_total e in omega arith

pub nest_done : (t : Option _ → Bool) (out new : List ℕ) (n m : ℕ) (x : Stmt) (y : Shape) (body : Stmts) → stmt_in_front x no_more ≡ nests y body no_more → m ≡ n + call_total body
    → new ≡ out ++ places_from t n (callees body)
    → (m ≡ n + call_total (stmt_in_front x no_more)) × (new ≡ out ++ places_from t n (callees (stmt_in_front x no_more)))
nest_done t out new n m x y body e em is =
    let q = ap call_total e in
    (omega arith, is ∙ ap (λ cs. out ++ places_from t n cs) (sym (append-nil (callees body)) ∙ ap callees (sym e)))

pub if_room : (n : ℕ) (x : Stmt) (o : Operand) (a b : Stmts) → stmt_in_front x no_more ≡ decides o a b no_more → n + call_total (stmt_in_front x no_more) < 2 ^ 32 → n + call_total a < 2 ^ 32
if_room n x o a b e h = let q = ap call_total e in omega arith

pub else_room : (n m : ℕ) (x : Stmt) (o : Operand) (a b : Stmts) → stmt_in_front x no_more ≡ decides o a b no_more → n + call_total (stmt_in_front x no_more) < 2 ^ 32
    → m ≡ n + call_total a → m + call_total b < 2 ^ 32
else_room n m x o a b e h em = let q = ap call_total e in omega arith

pub if_done : (t : Option _ → Bool) (out mid new : List ℕ) (n m l : ℕ) (x : Stmt) (o : Operand) (a b : Stmts) → stmt_in_front x no_more ≡ decides o a b no_more → m ≡ n + call_total a
    → l ≡ m + call_total b → mid ≡ out ++ places_from t n (callees a) → new ≡ mid ++ places_from t m (callees b)
    → (l ≡ n + call_total (stmt_in_front x no_more)) × (new ≡ out ++ places_from t n (callees (stmt_in_front x no_more)))
if_done t out mid new n m l x o a b e em el im is =
    let q = ap call_total e in
    let z : m ≡ n + length (callees a) = em ∙ ap (λ k. n + k) (sym (callees_count a)) in (
      omega arith,
      is ∙ (λ j. im j ++ places_from t (z j) (callees b)) ∙ append_assoc out (places_from t n (callees a)) (places_from t (n + length (callees a)) (callees b))
          ∙ ap (λ k. out ++ k) (sym (places_append t n (callees a) (callees b))) ∙ ap (λ cs. out ++ places_from t n cs) (sym (append-nil (callees a ++ callees b)) ∙ ap callees (sym e)),
    )

none_of : (x : Stmt) → ((op : Instr) (stack : Vec ℕ Global) (args : ℕ) (to : Option ℕ) → x ≡ CallStmt op stack args to → ⊥) → ((v : Vec Stmt Global) → x ≡ Block v → ⊥)
    → ((v : Vec Stmt Global) → x ≡ Loop v → ⊥) → ((o : Operand) (v w : Vec Stmt Global) → x ≡ If o v w → ⊥) → (call_total (stmt_in_front x no_more) ≡ 0) × (callees (stmt_in_front x no_more) ≡ [])
unfolding stmt_in_front
none_of (PlainStmt op args to) nc nb nl ni = (refl, refl)
none_of (Move to from) nc nb nl ni = (refl, refl)
none_of (CallStmt op stack args to) nc nb nl ni = absurd (nc op stack args to refl)
none_of (BrStmt l) nc nb nl ni = (refl, refl)
none_of (BrIfStmt o l) nc nb nl ni = (refl, refl)
none_of (BrTableStmt o v l) nc nb nl ni = (refl, refl)
none_of (Block' a z) nc nb nl ni = absurd (nb _ (sym (roll-out-Stmt (Block' a z)) ∙ ap roll-Stmt (outs-Block' a z) ∙ rolls-Block _))
none_of (Loop' a z) nc nb nl ni = absurd (nl _ (sym (roll-out-Stmt (Loop' a z)) ∙ ap roll-Stmt (outs-Loop' a z) ∙ rolls-Loop _))
none_of (If' c a z e f) nc nb nl ni = absurd (ni c _ _ (sym (roll-out-Stmt (If' c a z e f)) ∙ ap roll-Stmt (outs-If' c a z e f) ∙ rolls-If c _ _))
none_of UnreachableStmt nc nb nl ni = (refl, refl)

pub none_place : (n : ℕ) (x : Stmt) → ((op : Instr) (stack : Vec ℕ Global) (args : ℕ) (to : Option ℕ) → x ≡ CallStmt op stack args to → ⊥) → ((v : Vec Stmt Global) → x ≡ Block v → ⊥)
    → ((v : Vec Stmt Global) → x ≡ Loop v → ⊥) → ((o : Operand) (v w : Vec Stmt Global) → x ≡ If o v w → ⊥) → n ≡ n + call_total (stmt_in_front x no_more)
none_place n x nc nb nl ni = let q = (none_of x nc nb nl ni).0 in omega arith

pub none_items : (t : Option _ → Bool) (out : List ℕ) (n : ℕ) (x : Stmt) → ((op : Instr) (stack : Vec ℕ Global) (args : ℕ) (to : Option ℕ) → x ≡ CallStmt op stack args to → ⊥)
    → ((v : Vec Stmt Global) → x ≡ Block v → ⊥) → ((v : Vec Stmt Global) → x ≡ Loop v → ⊥) → ((o : Operand) (v w : Vec Stmt Global) → x ≡ If o v w → ⊥)
    → out ≡ out ++ places_from t n (callees (stmt_in_front x no_more))
none_items t out n x nc nb nl ni = sym (ap (λ cs. out ++ places_from t n cs) (none_of x nc nb nl ni).1 ∙ append-nil out)
