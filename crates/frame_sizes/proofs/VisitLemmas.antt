-- A visit of a body, instruction by instruction.
use Rattle.std.proofs.Common.{arith, ◌≡◌, ℕ, zero, suc, ◌+◌, ◌<◌, ◌≤◌, ◌++◌, List, [], ◌∷◌, length, drop, get_or, Option, None, Some, true, false, refl, ap, sym, ◌∙◌, subst, append_assoc, Result, Ok, Err, OnOk}
use Rattle.std.proofs.lemmas.List.{append-nil}
use Rattle.std.specs.declared.vec.Vec.{Vec}
use Rattle.std.specs.declared.alloc.Global.{Global}
use Rattle.wa_types.specs.declared.values.ValType.{ValType}
use Rattle.wa_types.specs.declared.instrs.Instr.{Instr}
use Rattle.wa_types.specs.declared.instrs.Instr.TheVariants.{Unreachable, Nop, Drop, Select, Return, MemorySize, MemoryGrow, MemoryCopy, MemoryFill, Const, Num, Br, BrIf, BrTable, Call, CallIndirect, LocalGet, LocalSet, LocalTee, GlobalGet, GlobalSet, Load, Store, Block, Loop, If, Block', Loop', If'}
use Rattle.wa_types.specs.Syntax.{Plain, Shape, a_block, a_loop, Code, done, plain, nest, branch}
use Rattle.wa_types.specs.View.{code, in_front, onto}
use Rattle.wa_types.specs.Pruned.{is_last, is_last_instr}
use Rattle.wa_types.specs.Pausing.{callee}
use Rattle.wa_types.specs.Sizes.{code_items}
use Rattle.wa_types.specs.Typing.{Types}
use Rattle.wa_types.specs.Points.{points, call_points, if_call}
use Rattle.wa_types.proofs.ViewLemmas.{is_block as K_is_block, is_loop as K_is_loop, is_if as K_is_if, is_plain as K_is_plain, instr_kind, in_block, in_loop, in_if, code_step, code_empty}
use Rattle.wasm_validate.specs.Walk.{Walk, Stays, Inside, TypedAt}
use Rattle.wasm_validate.proofs.WalkUses.{ahead, behind}
use Rattle.frame_sizes.specs.declared.points.Visits.{Visits}
use Rattle.frame_sizes.specs.Points.{lists_of, all_of, points_at, calls_at, points_inside, calls_inside, Visited, VisitedInside}
use Rattle.frame_sizes.proofs.PointLemmas.{plain_points, plain_calls, nest_points, nest_calls, branch_points, branch_calls, done_points, done_calls, last_points, last_calls}

-- What code begins with an instruction.
pub data Front (x : Instr) : Type 0 where
  is_plain : (p : Plain) → ((rest : Code) → in_front x rest ≡ plain p rest) → is_last p ≡ is_last_instr x → Front x
  is_nest : (s : Shape) (r : Option ValType) (body : Code) → ((rest : Code) → in_front x rest ≡ nest s r body rest) → is_last_instr x ≡ false → Front x
  is_branch : (r : Option ValType) (a b : Code) → ((rest : Code) → in_front x rest ≡ branch r a b rest) → is_last_instr x ≡ false → Front x

pub front : (x : Instr) → Front x
unfolding in_front is_last_instr
front Unreachable = is_plain _ (λ rest. refl) refl
front Nop = is_plain _ (λ rest. refl) refl
front Drop = is_plain _ (λ rest. refl) refl
front Select = is_plain _ (λ rest. refl) refl
front Return = is_plain _ (λ rest. refl) refl
front MemorySize = is_plain _ (λ rest. refl) refl
front MemoryGrow = is_plain _ (λ rest. refl) refl
front MemoryCopy = is_plain _ (λ rest. refl) refl
front MemoryFill = is_plain _ (λ rest. refl) refl
front (Const v) = is_plain _ (λ rest. refl) refl
front (Num op) = is_plain _ (λ rest. refl) refl
front (Br l) = is_plain _ (λ rest. refl) refl
front (BrIf l) = is_plain _ (λ rest. refl) refl
front (BrTable ls l) = is_plain _ (λ rest. refl) refl
front (Call x) = is_plain _ (λ rest. refl) refl
front (CallIndirect x) = is_plain _ (λ rest. refl) refl
front (LocalGet x) = is_plain _ (λ rest. refl) refl
front (LocalSet x) = is_plain _ (λ rest. refl) refl
front (LocalTee x) = is_plain _ (λ rest. refl) refl
front (GlobalGet x) = is_plain _ (λ rest. refl) refl
front (GlobalSet x) = is_plain _ (λ rest. refl) refl
front (Load op a o) = is_plain _ (λ rest. refl) refl
front (Store op a o) = is_plain _ (λ rest. refl) refl
front (Block' r s k) = is_nest a_block r _ (λ rest. refl) refl
front (Loop' r s k) = is_nest a_loop r _ (λ rest. refl) refl
front (If' r s k t l) = is_branch r _ _ (λ rest. refl) refl

-- ---- sizes, by which the visit ends

pub items_front : (x : Instr) (rest : Code) → code_items (in_front x rest) ≡ code_items (in_front x done) + code_items rest
unfolding code_items
items_front x rest = elim (front x) [
  | is_plain p e f ↦ ap code_items (e rest) ∙ omega (arith, ap code_items (e done))
  | is_nest s r k e n ↦ ap code_items (e rest) ∙ omega (arith, ap code_items (e done))
  | is_branch r a b e n ↦ ap code_items (e rest) ∙ omega (arith, ap code_items (e done))
]

pub fewer_left : (body : List Instr) (j : ℕ) → code_items (code (drop j body)) ≤ code_items (code body)
unfolding code onto
fewer_left body zero = omega arith
fewer_left [] (suc j) = omega arith
fewer_left (x ∷ body) (suc j) = omega (arith, fewer_left body j, items_front x (code body))

pub one_fewer : (body : List Instr) (j : ℕ) (x : Instr) → j < length body → x ≡ get_or body j x → code_items (in_front x done) ≤ code_items (code body)
one_fewer body j x lt at = omega (arith, fewer_left body j, ap code_items (code_step body j x lt at), items_front x (code (drop (j + 1) body)))

-- ---- steps

module _ (w u : Walk) (x : Instr) (rest : Code) (st : Stays w u) (t : Types w.around w.labels (in_front x done) u.own w.own) (on : is_last_instr x ≡ false) where
  front_points : points_at w (in_front x rest) ≡ all_of w ∷ (points_inside w (in_front x done) ++ points_at u rest)
  front_points = elim (front x) [
    | is_plain p e f ↦ ap (points_at w) (e rest) ∙ plain_points w u rest st p (f ∙ on) (subst (λ k. Types w.around w.labels k u.own w.own) (e done) t)
        ∙ ap (λ k. all_of w ∷ (points_inside w k ++ points_at u rest)) (sym (e done))
    | is_nest s r k e n ↦ ap (points_at w) (e rest) ∙ nest_points w u rest st s r k (subst (λ k. Types w.around w.labels k u.own w.own) (e done) t)
        ∙ ap (λ k. all_of w ∷ (points_inside w k ++ points_at u rest)) (sym (e done))
    | is_branch r a b e n ↦ ap (points_at w) (e rest) ∙ branch_points w u rest st r a b (subst (λ k. Types w.around w.labels k u.own w.own) (e done) t)
        ∙ ap (λ k. all_of w ∷ (points_inside w k ++ points_at u rest)) (sym (e done))
  ]

  front_calls : calls_at w (in_front x rest) ≡ calls_inside w (in_front x done) ++ calls_at u rest
  front_calls = elim (front x) [
    | is_plain p e f ↦ ap (calls_at w) (e rest) ∙ plain_calls w u rest st p (f ∙ on) (subst (λ k. Types w.around w.labels k u.own w.own) (e done) t)
        ∙ ap (λ k. calls_inside w k ++ calls_at u rest) (sym (e done))
    | is_nest s r k e n ↦ ap (calls_at w) (e rest) ∙ nest_calls w u rest st s r k (subst (λ k. Types w.around w.labels k u.own w.own) (e done) t)
        ∙ ap (λ k. calls_inside w k ++ calls_at u rest) (sym (e done))
    | is_branch r a b e n ↦ ap (calls_at w) (e rest) ∙ branch_calls w u rest st r a b (subst (λ k. Types w.around w.labels k u.own w.own) (e done) t)
        ∙ ap (λ k. calls_inside w k ++ calls_at u rest) (sym (e done))
  ]

-- Where a visit stands in a body, of which this is left.
pub record Went (v w : Walk) (all left : Code) (a b : Visits) : Type 0 where
  pub typed : TypedAt w left
  pub points : lists_of b.points.items ++ points_at w left ≡ lists_of a.points.items ++ points_at v all
  pub calls : lists_of b.calls.items ++ calls_at w left ≡ lists_of a.calls.items ++ calls_at v all

pub went_first : (v : Walk) (all : Code) (a : Visits) → TypedAt v all → Went v v all all a a
went_first v all a t = record { typed = t; points = refl; calls = refl }

module _ (v w : Walk) (body : List Instr) (j : ℕ) (a b p : Visits) (g : Went v w (code body) (code (drop j body)) a b)
    (put : lists_of p.points.items ≡ lists_of b.points.items ++ all_of w ∷ []) (kept : p.calls.items ≡ b.calls.items) where
  -- nothing stands behind
  ended : points_at w (code (drop j body)) ≡ all_of w ∷ [] → calls_at w (code (drop j body)) ≡ [] → Visited v (code body) a p
  ended e f = record {
    points = put ∙ ap (λ ps. lists_of b.points.items ++ ps) (sym e) ∙ g.points;
    calls = ap lists_of kept ∙ sym (append-nil (lists_of b.calls.items)) ∙ ap (λ ps. lists_of b.calls.items ++ ps) (sym f) ∙ g.calls;
  }

  pub went_end : length body ≤ j → Visited v (code body) a p
  went_end le = let e = code_empty body j le in ended (ap (points_at w) e ∙ done_points w) (ap (calls_at w) e ∙ done_calls w)

  module _ (x : Instr) (lt : j < length body) (at : x ≡ get_or body j x) where
    abbrev pub rest : Code
    rest = code (drop (j + 1) body)

    at_front : code (drop j body) ≡ in_front x rest
    at_front = code_step body j x lt at

    pub next_typed : TypedAt w (in_front x done)
    next_typed = ahead w x rest (subst (TypedAt w) at_front g.typed)

    pub went_last : is_last_instr x ≡ true → Visited v (code body) a p
    went_last last = elim (front x) [
      | is_plain q e f ↦
          let k : code (drop j body) ≡ plain q rest = at_front ∙ e rest in
          ended (ap (points_at w) k ∙ last_points w q rest (f ∙ last)) (ap (calls_at w) k ∙ last_calls w q rest (f ∙ last))
      | is_nest s r k e n ↦ absurd (both_ways n)
      | is_branch r c d e n ↦ absurd (both_ways n)
    ]
      where
        both_ways : is_last_instr x ≡ false → ⊥
        both_ways n = let z : true ≡ false = sym last ∙ n in cc

    pub went_next : (u : Walk) (d : Visits) → is_last_instr x ≡ false → VisitedInside w (in_front x done) p d → Stays w u → Types w.around w.labels (in_front x done) u.own w.own
        → Went v u (code body) rest a d
    went_next u d on inside st t = record {
      typed = behind w u x rest (subst (TypedAt w) at_front g.typed) st t on;
      points =
          ap (λ ps. ps ++ points_at u rest) (inside.points ∙ ap (λ ps. ps ++ points_inside w (in_front x done)) put)
          ∙ append_assoc (lists_of b.points.items ++ all_of w ∷ []) (points_inside w (in_front x done)) (points_at u rest)
          ∙ append_assoc (lists_of b.points.items) (all_of w ∷ []) (points_inside w (in_front x done) ++ points_at u rest)
          ∙ ap (λ ps. lists_of b.points.items ++ ps) (sym (front_points w u x rest st t on) ∙ ap (points_at w) (sym at_front)) ∙ g.points;
      calls =
          ap (λ ps. ps ++ calls_at u rest) (inside.calls ∙ ap (λ vs. lists_of vs ++ calls_inside w (in_front x done)) kept)
          ∙ append_assoc (lists_of b.calls.items) (calls_inside w (in_front x done)) (calls_at u rest)
          ∙ ap (λ ps. lists_of b.calls.items ++ ps) (sym (front_calls w u x rest st t on) ∙ ap (calls_at w) (sym at_front)) ∙ g.calls;
    }

-- ---- one instruction

module _ (w : Walk) (x : Instr) (a b : Visits) where
  pub call_inside : (p : Plain) → in_front x done ≡ plain p done → (y : _) → callee p ≡ Some y → b.points.items ≡ a.points.items
      → lists_of b.calls.items ≡ lists_of a.calls.items ++ all_of w ∷ [] → VisitedInside w (in_front x done) a b
  call_inside p is y c ep ec = record {
    points = ap lists_of ep ∙ sym (append-nil (lists_of a.points.items)) ∙ ap (λ k. lists_of a.points.items ++ points_inside w k) (sym is);
    calls = ec ∙ ap (λ o. lists_of a.calls.items ++ if_call o (all_of w)) (sym c) ∙ ap (λ k. lists_of a.calls.items ++ calls_inside w k) (sym is);
  }

  pub nothing_inside : (points_inside w (in_front x done) ≡ []) × (calls_inside w (in_front x done) ≡ []) → b.points.items ≡ a.points.items → b.calls.items ≡ a.calls.items
      → VisitedInside w (in_front x done) a b
  nothing_inside none ep ec = record {
    points = ap lists_of ep ∙ sym (append-nil (lists_of a.points.items)) ∙ ap (λ ps. lists_of a.points.items ++ ps) (sym none.0);
    calls = ap lists_of ec ∙ sym (append-nil (lists_of a.calls.items)) ∙ ap (λ ps. lists_of a.calls.items ++ ps) (sym none.1);
  }

  pub nest_inside : (s : Shape) (r : Option ValType) (body : Code) (e : Walk) → ((rest : Code) → in_front x rest ≡ nest s r body rest) → Inside w (in_front x done) e → Visited e body a b
      → VisitedInside w (in_front x done) a b
  nest_inside s r body e is i v =
      let at = subst (λ k. Inside w k e) (is done) i in
      subst (λ k. VisitedInside w k a b) (sym (is done)) (record {
        points = v.points ∙ ap (λ (z : Walk). lists_of a.points.items ++ points_at z body) at;
        calls = v.calls ∙ ap (λ (z : Walk). lists_of a.calls.items ++ calls_at z body) at;
      })

pub branch_inside : (w : Walk) (x : Instr) (a m b : Visits) (r : Option ValType) (one two : Code) (e f : Walk) → ((rest : Code) → in_front x rest ≡ branch r one two rest)
    → Inside w (in_front x done) e → Inside w (in_front x done) f → Visited e one a m → Visited f two m b → VisitedInside w (in_front x done) a b
branch_inside w x a m b r one two e f is i j v u =
    let at = subst (λ k. Inside w k e) (is done) i in
    let there = subst (λ k. Inside w k f) (is done) j in
    subst (λ k. VisitedInside w k a b) (sym (is done)) (record {
      points =
          u.points ∙ ap (λ (z : Walk). lists_of m.points.items ++ points_at z two) there
          ∙ ap (λ ps. ps ++ points w.around (r ∷ w.labels) two (drop 1 w.own ++ w.under) []) (v.points ∙ ap (λ (z : Walk). lists_of a.points.items ++ points_at z one) at)
          ∙ append_assoc (lists_of a.points.items) (points w.around (r ∷ w.labels) one (drop 1 w.own ++ w.under) []) (points w.around (r ∷ w.labels) two (drop 1 w.own ++ w.under) []);
      calls =
          u.calls ∙ ap (λ (z : Walk). lists_of m.calls.items ++ calls_at z two) there
          ∙ ap (λ ps. ps ++ call_points w.around (r ∷ w.labels) two (drop 1 w.own ++ w.under) []) (v.calls ∙ ap (λ (z : Walk). lists_of a.calls.items ++ calls_at z one) at)
          ∙ append_assoc (lists_of a.calls.items) (call_points w.around (r ∷ w.labels) one (drop 1 w.own ++ w.under) []) (call_points w.around (r ∷ w.labels) two (drop 1 w.own ++ w.under) []);
    })

-- an instruction other than these two is no call
same : (p q : Plain) → plain p done ≡ plain q done → callee p ≡ callee q
same p q e = let z : p ≡ q = cc in ap callee z

pub no_call : (x : Instr) (p : Plain) → ((rest : Code) → in_front x rest ≡ plain p rest) → ((y : ℕ) → x ≡ Call y → ⊥) → ((y : ℕ) → x ≡ CallIndirect y → ⊥) → callee p ≡ None
unfolding in_front
no_call Unreachable p e nc ni = same p _ (sym (e done))
no_call Nop p e nc ni = same p _ (sym (e done))
no_call Drop p e nc ni = same p _ (sym (e done))
no_call Select p e nc ni = same p _ (sym (e done))
no_call Return p e nc ni = same p _ (sym (e done))
no_call MemorySize p e nc ni = same p _ (sym (e done))
no_call MemoryGrow p e nc ni = same p _ (sym (e done))
no_call MemoryCopy p e nc ni = same p _ (sym (e done))
no_call MemoryFill p e nc ni = same p _ (sym (e done))
no_call (Const v) p e nc ni = same p _ (sym (e done))
no_call (Num op) p e nc ni = same p _ (sym (e done))
no_call (Br l) p e nc ni = same p _ (sym (e done))
no_call (BrIf l) p e nc ni = same p _ (sym (e done))
no_call (BrTable ls l) p e nc ni = same p _ (sym (e done))
no_call (Call y) p e nc ni = absurd (nc y refl)
no_call (CallIndirect y) p e nc ni = absurd (ni y refl)
no_call (LocalGet y) p e nc ni = same p _ (sym (e done))
no_call (LocalSet y) p e nc ni = same p _ (sym (e done))
no_call (LocalTee y) p e nc ni = same p _ (sym (e done))
no_call (GlobalGet y) p e nc ni = same p _ (sym (e done))
no_call (GlobalSet y) p e nc ni = same p _ (sym (e done))
no_call (Load op al o) p e nc ni = same p _ (sym (e done))
no_call (Store op al o) p e nc ni = same p _ (sym (e done))
no_call (Block' r s k) p e nc ni = let z = e done in cc
no_call (Loop' r s k) p e nc ni = let z = e done in cc
no_call (If' r s k t l) p e nc ni = let z = e done in cc

-- an instruction that holds no other and is no call
pub quiet : (x : Instr) → ((y : ℕ) → x ≡ Call y → ⊥) → ((y : ℕ) → x ≡ CallIndirect y → ⊥) → ((r : Option ValType) (v : Vec Instr Global) → x ≡ Block r v → ⊥)
    → ((r : Option ValType) (v : Vec Instr Global) → x ≡ Loop r v → ⊥) → ((r : Option ValType) (v u : Vec Instr Global) → x ≡ If r v u → ⊥)
    → (w : Walk) → (points_inside w (in_front x done) ≡ []) × (calls_inside w (in_front x done) ≡ [])
quiet x nc ni nb nl nf w = elim (instr_kind x) [
  | K_is_block r v e ↦ absurd (nb r v e)
  | K_is_loop r v e ↦ absurd (nl r v e)
  | K_is_if r v u e ↦ absurd (nf r v u e)
  | K_is_plain p e ↦ (ap (points_inside w) (e done), ap (calls_inside w) (e done) ∙ ap (λ o. if_call o (all_of w)) (no_call x p e nc ni))
]

-- ---- constructs, by what the instruction is

pub nest_items : (x : Instr) (s : Shape) (r : Option ValType) (body : Code) → ((rest : Code) → in_front x rest ≡ nest s r body rest) → code_items body < code_items (in_front x done)
unfolding code_items
nest_items x s r body is = omega (arith, ap code_items (is done))

pub branch_items : (x : Instr) (r : Option ValType) (a b : Code) → ((rest : Code) → in_front x rest ≡ branch r a b rest)
    → (code_items a < code_items (in_front x done)) × (code_items b < code_items (in_front x done))
unfolding code_items
branch_items x r a b is = let e = ap code_items (is done) in (omega (arith, e), omega (arith, e))

pub block_is : (x : Instr) (r : Option ValType) (v : Vec Instr Global) (xs : List Instr) → x ≡ Block r v → xs ≡ v.items → (rest : Code) → in_front x rest ≡ nest a_block r (code xs) rest
block_is x r v xs e f rest = ap (λ y. in_front y rest) e ∙ in_block r v rest ∙ ap (λ z. nest a_block r (code z) rest) (sym f)

pub loop_is : (x : Instr) (r : Option ValType) (v : Vec Instr Global) (xs : List Instr) → x ≡ Loop r v → xs ≡ v.items → (rest : Code) → in_front x rest ≡ nest a_loop r (code xs) rest
loop_is x r v xs e f rest = ap (λ y. in_front y rest) e ∙ in_loop r v rest ∙ ap (λ z. nest a_loop r (code z) rest) (sym f)

pub if_is : (x : Instr) (r : Option ValType) (v u : Vec Instr Global) (xs ys : List Instr) → x ≡ If r v u → xs ≡ v.items → ys ≡ u.items → (rest : Code)
    → in_front x rest ≡ branch r (code xs) (code ys) rest
if_is x r v u xs ys e f g rest =
    ap (λ y. in_front y rest) e ∙ in_if r v u rest ∙ ap (λ z. branch r (code z) (code u.items) rest) (sym f) ∙ ap (λ z. branch r (code xs) (code z) rest) (sym g)

pub ok_as : {A E : Type 0} (res : Result A E) (P Q : Type 0) → (P → Q) → OnOk res P → OnOk res Q
ok_as (Ok u) P Q f h = f h
ok_as (Err e) P Q f h = tt

pub always : {A E : Type 0} (res : Result A E) → OnOk res (Unit {0})
always (Ok u) = tt
always (Err e) = tt
