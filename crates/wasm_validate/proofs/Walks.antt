-- The types on a walk.
use Rattle.std.proofs.Common.{arith, ◌≡◌, ℕ, zero, suc, ◌+◌, ◌-◌, ◌≤◌, ◌++◌, length, take, drop, reverse, List, [], ◌∷◌, Option, Some, None, Bool, true, false, if◌then◌else◌, refl, ap, sym, ◌∙◌, subst, length-drop, length-append, slice_get, get_or, set, Result, Ok, Err}
use Rattle.std.proofs.lemmas.List.{length-take-le, length-reverse, reverse-append, take-append-drop, take-append-le, drop-append-le, drop-take, drop_all, take_all, take_more_set, take-take, reverse-reverse}
use Rattle.std.proofs.Math.Seq.{drop-append_seam, take-append_seam}
use Rattle.std.specs.Result.{OnErr}
use Rattle.std.specs.declared.vec.Vec.{Vec}
use Rattle.std.specs.declared.alloc.Global.{Global}
use Rattle.wa_types.specs.declared.values.ValType.{ValType}
use Rattle.wa_types.specs.declared.values.ValType.TheVariants.{I32}
use Rattle.wa_types.specs.declared.instrs.Instr.{Instr}
use Rattle.wa_types.specs.declared.instrs.Instr.TheVariants.{Unreachable, Nop, Drop, Select, Return, MemorySize, MemoryGrow, MemoryCopy, MemoryFill, Const, Num, Br, BrIf, BrTable, Call, CallIndirect, LocalGet, LocalSet, LocalTee, GlobalGet, GlobalSet, Load, Store, Block, Loop, If, Block', Loop', If'}
use Rattle.wa_types.specs.Syntax.{Plain, Shape, a_block, a_loop, Code, done, plain, nest, branch, Func}
use Rattle.wa_types.specs.View.{in_front, code, module_of}
use Rattle.wa_types.specs.Typing.{Around, Types, sig, listed, Sig, moves, leaves, drops, selects, Takes}
use Rattle.wa_types.proofs.ViewLemmas.{in_block, in_loop, in_if}
use Rattle.validate_bodies.specs.declared.table.Asks as D
use Rattle.validate_bodies.specs.Table.{sig_of, tested, plain_of, Says}
use Rattle.wasm_validate.specs.Walk.{left_at, Walk, outset, Stays, Inside, CanTake, own_at, under_at, around_or, standing}
use Rattle.wa_types.specs.Leaves.{is_leaf}
use Rattle.wa_types.specs.Modules.{around}
use Rattle.wa_types.specs.declared.syntax.Module.{Module as ModuleValue}
use Rattle.validate_bodies.proofs.LabelLemmas.{reverse_listed}
use Rattle.validate_bodies.proofs.InstrKinds.{is_block, is_loop, is_branch, is_plain, leaf_kind}

rest_of : (ys : List ValType) (n : ℕ) → n ≤ length ys → reverse (take (length ys - n) ys) ≡ drop n (reverse ys)
rest_of ys n le =
    let h = length ys - n in
    let e : reverse ys ≡ reverse (drop h ys) ++ reverse (take h ys) = ap reverse (sym (take-append-drop h ys)) ∙ reverse-append (take h ys) (drop h ys) in
    let m : n ≡ length (reverse (drop h ys)) = omega (arith, length-reverse (drop h ys), length-drop h ys) in
    sym (ap (drop n) e ∙ ap (λ k. drop k (reverse (drop h ys) ++ reverse (take h ys))) m ∙ drop-append_seam (reverse (drop h ys)) (reverse (take h ys)))

pub own_taken : (b n m : ℕ) (xs : List ValType) → b + n ≤ length xs → m ≡ length xs - n → own_at b (take m xs) ≡ drop n (own_at b xs)
unfolding own_at
own_taken b n m xs le e =
    let f : m ≡ b + (length (drop b xs) - n) = omega (arith, length-drop b xs) in
    ap (λ k. reverse (drop b (take k xs))) f ∙ ap reverse (drop-take b (length (drop b xs) - n) xs) ∙ rest_of (drop b xs) n (omega (arith, length-drop b xs))

pub own_given : (b : ℕ) (xs ys : List ValType) → b ≤ length xs → own_at b (xs ++ ys) ≡ reverse ys ++ own_at b xs
unfolding own_at
own_given b xs ys h = ap reverse (drop-append-le b xs ys h) ∙ reverse-append (drop b xs) ys

pub own_length : (b : ℕ) (xs : List ValType) → length (own_at b xs) ≡ length xs - b
unfolding own_at
own_length b xs = length-reverse (drop b xs) ∙ length-drop b xs

drop_front : (xs ys : List ValType) (n : ℕ) → n ≡ length xs → drop n (xs ++ ys) ≡ ys
drop_front xs ys n e = ap (λ k. drop k (xs ++ ys)) e ∙ drop-append_seam xs ys

pub takes_moves : (ps rs ins mid outs : List ValType) (n : ℕ) → CanTake (moves ps rs) ins → n ≡ length ps → mid ≡ drop n ins → outs ≡ rs ++ mid → Takes (moves ps rs) ins outs
takes_moves ps rs ins mid outs n h en em eo =
    let below = h.1.0 in
    (below, h.1.1, eo ∙ ap (λ z. rs ++ z) (em ∙ ap (drop n) h.1.1 ∙ drop_front ps below n en))

pub takes_leaves : (ps ins : List ValType) → CanTake (leaves ps) ins → Takes (leaves ps) ins ins
takes_leaves ps ins h = h.1

pub takes_drops : (ins mid : List ValType) → CanTake drops ins → mid ≡ drop 1 ins → Takes drops ins mid
takes_drops ins mid h e = (h.1.0, h.1.1 ∙ ap (λ z. h.1.0 ∷ z) (sym (e ∙ ap (drop 1) h.1.1)))

pub takes_selects : (ins mid : List ValType) → CanTake selects ins → mid ≡ drop 2 ins → Takes selects ins mid
takes_selects ins mid h e = (h.1.0, h.1.1, h.1.2, e ∙ ap (drop 2) h.1.2)

pub tested_length : (b : Bool) (ts : List ValType) → length (tested b (reverse ts)) ≡ length ts + (if b then 1 else 0)
tested_length true ts = omega (arith, length-reverse ts)
tested_length false ts = omega (arith, length-reverse ts)

pub room_moves : (b : ℕ) (xs ps rs : List ValType) → CanTake (moves ps rs) (own_at b xs) → b ≤ length xs → b + length ps ≤ length xs
room_moves b xs ps rs h le = omega (arith, own_length b xs, ap length h.1.1, length-append ps h.1.0)

pub room_drops : (b : ℕ) (xs : List ValType) → CanTake drops (own_at b xs) → b ≤ length xs → b + 1 ≤ length xs
room_drops b xs h le = omega (arith, own_length b xs, ap length h.1.1)

pub room_selects : (b : ℕ) (xs : List ValType) → CanTake selects (own_at b xs) → b ≤ length xs → b + 2 ≤ length xs
room_selects b xs h le = omega (arith, own_length b xs, ap length h.1.2)

pub own_put : (b : ℕ) (xs new : List ValType) (t : ValType) → b ≤ length xs → new ≡ xs ++ t ∷ [] → own_at b new ≡ t ∷ own_at b xs
own_put b xs new t h e = ap (own_at b) e ∙ own_given b xs (t ∷ []) h

pub kept_put : (b : ℕ) (xs new : List ValType) (t : ValType) → b ≤ length xs → new ≡ xs ++ t ∷ [] → take b new ≡ take b xs
kept_put b xs new t h e = ap (take b) e ∙ take-append-le b xs (t ∷ []) h

set_is : (n k : ℕ) (xs new : List ValType) (t : ValType) → n ≤ length xs → 1 ≤ n → k ≡ length xs - n → new ≡ take (k + 1) (set xs k t) → new ≡ take k xs ++ t ∷ []
set_is n k xs new t le some ek e = e ∙ take_more_set xs k t (omega arith)

pub own_set : (b n k : ℕ) (xs new : List ValType) (t : ValType) → b + n ≤ length xs → 1 ≤ n → k ≡ length xs - n → new ≡ take (k + 1) (set xs k t) → own_at b new ≡ t ∷ drop n (own_at b xs)
own_set b n k xs new t le some ek e =
    let long : length (take k xs) ≡ k = length-take-le k xs (omega arith) in
    own_put b (take k xs) new t (omega arith) (set_is n k xs new t (omega arith) some ek e) ∙ ap (λ ts. t ∷ ts) (own_taken b n k xs le ek)

pub kept_set : (b n k : ℕ) (xs new : List ValType) (t : ValType) → b + n ≤ length xs → 1 ≤ n → k ≡ length xs - n → new ≡ take (k + 1) (set xs k t) → take b new ≡ take b xs
kept_set b n k xs new t le some ek e =
    let long : length (take k xs) ≡ k = length-take-le k xs (omega arith) in
    kept_put b (take k xs) new t (omega arith) (set_is n k xs new t (omega arith) some ek e) ∙ take-take b k xs (omega arith)

-- one type alone
pub one_given : (ts ys : List ValType) (t : ValType) → length ts ≡ 1 → t ≡ get_or ts 0 t → reverse ts ++ ys ≡ t ∷ ys
one_given [] ys t h e = absurd (omega arith)
one_given (x ∷ []) ys t h e = ap (λ k. k ∷ ys) (sym e)
one_given (x ∷ y ∷ ts) ys t h e = absurd (omega arith)

pub ruleset changing = (own_put, kept_put, own_set, kept_set)

pub ruleset taking = (own_taken, own_given)

pub ruleset moving = (takes_moves, takes_leaves, takes_drops, takes_selects, tested_length, room_moves, room_drops, room_selects)

pub own_nothing : (b : ℕ) → own_at b [] ≡ []
unfolding own_at
own_nothing zero = refl
own_nothing (suc b) = refl

room_tested : (b : ℕ) (xs : List ValType) (below : List ValType) → own_at b xs ≡ I32 ∷ below → b + 1 ≤ length xs
room_tested b xs below e = omega (arith, own_length b xs, ap length e)

module _ (c : Around) (ls : List (Option ValType)) (outs ops : List ValType) where
  walk_nest : (s : Shape) (r : Option ValType) (k : Code) → Types c ls (nest s r k done) outs ops → Types c ls (nest s r k done) (listed r ++ ops) ops
  unfolding Types
  walk_nest s r k h = (h.0, refl)

  walk_branch : (r : Option ValType) (a b : Code) → Types c ls (branch r a b done) outs ops → (below : List ValType) × (ops ≡ I32 ∷ below) × Types c ls (branch r a b done) (listed r ++ below) ops
  unfolding Types
  walk_branch r a b h = (h.0, h.1, (h.0, h.1, h.2, h.3, refl))

  walk_plain : (p : Plain) → Types c ls (plain p done) outs ops → CanTake (sig c ls p) ops
  unfolding Types
  walk_plain p h = (h.0, h.1)

  plain_walked : (p : Plain) → Takes (sig c ls p) ops outs → Types c ls (plain p done) outs ops
  unfolding Types
  plain_walked p h = (outs, h, refl)

module _ (c : Around) (ls : List (Option ValType)) (x : Instr) (ops : List ValType) (h : (outs : List ValType) × Types c ls (in_front x done) outs ops) where
  pub walk_block : (r : Option ValType) (v : Vec Instr Global) (new : List ValType) → x ≡ Block r v → new ≡ reverse (listed r) ++ ops → Types c ls (in_front x done) new ops
  walk_block r v new e f =
      let g : in_front x done ≡ nest a_block r (code v.items) done = ap (λ y. in_front y done) e ∙ in_block r v done in
      subst (λ (k : Code). Types c ls k new ops) (sym g)
      (subst (λ (t : List ValType). Types c ls (nest a_block r (code v.items) done) t ops) (sym (f ∙ ap (λ z. z ++ ops) (reverse_listed r)))
      (walk_nest c ls h.0 ops a_block r (code v.items) (subst (λ (k : Code). Types c ls k h.0 ops) g h.1)))

  pub walk_loop : (r : Option ValType) (v : Vec Instr Global) (new : List ValType) → x ≡ Loop r v → new ≡ reverse (listed r) ++ ops → Types c ls (in_front x done) new ops
  walk_loop r v new e f =
      let g : in_front x done ≡ nest a_loop r (code v.items) done = ap (λ y. in_front y done) e ∙ in_loop r v done in
      subst (λ (k : Code). Types c ls k new ops) (sym g)
      (subst (λ (t : List ValType). Types c ls (nest a_loop r (code v.items) done) t ops) (sym (f ∙ ap (λ z. z ++ ops) (reverse_listed r)))
      (walk_nest c ls h.0 ops a_loop r (code v.items) (subst (λ (k : Code). Types c ls k h.0 ops) g h.1)))

  pub at_if : (r : Option ValType) (v w : Vec Instr Global) → x ≡ If r v w → (below : List ValType) × (ops ≡ I32 ∷ below)
      × Types c ls (branch r (code v.items) (code w.items) done) (listed r ++ below) ops
  at_if r v w e = walk_branch c ls h.0 ops r (code v.items) (code w.items) (subst (λ (k : Code). Types c ls k h.0 ops) (ap (λ y. in_front y done) e ∙ in_if r v w done) h.1)

  pub walk_if : (r : Option ValType) (v w : Vec Instr Global) (mid new : List ValType) → x ≡ If r v w → mid ≡ drop 1 ops → new ≡ reverse (listed r) ++ mid → Types c ls (in_front x done) new ops
  walk_if r v w mid new e m f =
      let g : in_front x done ≡ branch r (code v.items) (code w.items) done = ap (λ y. in_front y done) e ∙ in_if r v w done in
      let k = at_if r v w e in
      subst (λ (k : Code). Types c ls k new ops) (sym g)
      (subst (λ (t : List ValType). Types c ls (branch r (code v.items) (code w.items) done) t ops)
      (sym (f ∙ ap (λ z. z ++ mid) (reverse_listed r) ∙ ap (λ z. listed r ++ z) (m ∙ ap (drop 1) k.1))) k.2)

  pub room_if : (b : ℕ) (xs : List ValType) (r : Option ValType) (v w : Vec Instr Global) → ops ≡ own_at b xs → x ≡ If r v w → b + 1 ≤ length xs
  room_if b xs r v w o e = let k = at_if r v w e in room_tested b xs k.0 (sym o ∙ k.1)

  module _ (not_block : (r : Option ValType) (v : Vec Instr Global) → x ≡ Block r v → ⊥) (not_loop : (r : Option ValType) (v : Vec Instr Global) → x ≡ Loop r v → ⊥)
      (not_if : (r : Option ValType) (v w : Vec Instr Global) → x ≡ If r v w → ⊥) (s : D.Asks) (says : Says (plain_of x) (λ p. sig_of s ≡ sig c ls p)) where
    pub can_walk : CanTake (sig_of s) ops
    can_walk = elim (leaf_kind x) [
      | is_block r v e ↦ absurd (not_block r v e)
      | is_loop r v e ↦ absurd (not_loop r v e)
      | is_branch r v w e ↦ absurd (not_if r v w e)
      | is_plain p e f ↦
          (let g : sig_of s ≡ sig c ls p = subst (λ (o : Option Plain). Says o (λ p. sig_of s ≡ sig c ls p)) e says in
          subst (λ (t : Sig). CanTake t ops) (sym g) (walk_plain c ls h.0 ops p (subst (λ (k : Code). Types c ls k h.0 ops) (f done) h.1)))
    ]

    pub walked : (new : List ValType) → Takes (sig_of s) ops new → Types c ls (in_front x done) new ops
    walked new t = elim (leaf_kind x) [
      | is_block r v e ↦ absurd (not_block r v e)
      | is_loop r v e ↦ absurd (not_loop r v e)
      | is_branch r v w e ↦ absurd (not_if r v w e)
      | is_plain p e f ↦
          (let g : sig_of s ≡ sig c ls p = subst (λ (o : Option Plain). Says o (λ p. sig_of s ≡ sig c ls p)) e says in
          subst (λ (k : Code). Types c ls k new ops) (sym (f done)) (plain_walked c ls new ops p (subst (λ (z : Sig). Takes z ops new) g t)))
    ]

pub own_none : (b : ℕ) (xs : List ValType) → length xs ≤ b → own_at b xs ≡ []
unfolding own_at
own_none b xs h = ap reverse (drop_all b xs h)

pub under_all : (b : ℕ) (xs : List ValType) → length xs ≤ b → take b xs ≡ reverse (reverse xs)
under_all b xs h = take_all b xs h ∙ sym (reverse-reverse xs)

pub under_taken : (b : ℕ) (xs : List ValType) → length xs ≤ b → under_at b xs ≡ reverse xs
unfolding under_at
under_taken b xs h = ap reverse (take_all b xs h)

pub under_kept : (b : ℕ) (xs ys : List ValType) → take b ys ≡ take b xs → under_at b ys ≡ under_at b xs
unfolding under_at
under_kept b xs ys e = ap reverse e

pub all_types : (b : ℕ) (xs : List ValType) → reverse xs ≡ own_at b xs ++ under_at b xs
unfolding own_at under_at
all_types b xs = ap reverse (sym (take-append-drop b xs)) ∙ reverse-append (take b xs) (drop b xs)

pub ruleset whole = (all_types, all_types)

pub ruleset entering = (own_none, under_taken)

module _ (v w : Walk) (x : Instr) where
  pub inside_block : (r : Option ValType) (u : Vec Instr Global) → x ≡ Block r u → w ≡ record { around = v.around; labels = r ∷ v.labels; own = []; under = v.own ++ v.under }
      → Inside v (in_front x done) w
  inside_block r u e h = subst (λ (k : Code). Inside v k w) (sym (ap (λ y. in_front y done) e ∙ in_block r u done)) h

  pub inside_loop : (r : Option ValType) (u : Vec Instr Global) → x ≡ Loop r u → w ≡ record { around = v.around; labels = None ∷ v.labels; own = []; under = v.own ++ v.under }
      → Inside v (in_front x done) w
  inside_loop r u e h = subst (λ (k : Code). Inside v k w) (sym (ap (λ y. in_front y done) e ∙ in_loop r u done)) h

  pub inside_if : (r : Option ValType) (u t : Vec Instr Global) → x ≡ If r u t → w ≡ record { around = v.around; labels = r ∷ v.labels; own = []; under = drop 1 v.own ++ v.under }
      → Inside v (in_front x done) w
  inside_if r u t e h = subst (λ (k : Code). Inside v k w) (sym (ap (λ y. in_front y done) e ∙ in_if r u t done)) h

pub but_topmost : (xs : List ValType) (n : ℕ) → 1 ≤ length xs → n ≡ length xs - 1 → reverse (take n xs) ≡ drop 1 (reverse xs)
but_topmost xs n le e = ap (λ k. reverse (take k xs)) e ∙ rest_of xs 1 le

leaf_plain : (x : Instr) (p : Plain) → plain_of x ≡ Some p → is_leaf x ≡ true
unfolding plain_of is_leaf
leaf_plain Unreachable p e = refl
leaf_plain Nop p e = refl
leaf_plain Drop p e = refl
leaf_plain Select p e = refl
leaf_plain Return p e = refl
leaf_plain MemorySize p e = refl
leaf_plain MemoryGrow p e = refl
leaf_plain MemoryCopy p e = refl
leaf_plain MemoryFill p e = refl
leaf_plain (Const v) p e = refl
leaf_plain (Num op) p e = refl
leaf_plain (Br l) p e = refl
leaf_plain (BrIf l) p e = refl
leaf_plain (BrTable ls l) p e = refl
leaf_plain (Call x) p e = refl
leaf_plain (CallIndirect x) p e = refl
leaf_plain (LocalGet x) p e = refl
leaf_plain (LocalSet x) p e = refl
leaf_plain (LocalTee x) p e = refl
leaf_plain (GlobalGet x) p e = refl
leaf_plain (GlobalSet x) p e = refl
leaf_plain (Load op align offset) p e = refl
leaf_plain (Store op align offset) p e = refl
leaf_plain (Block' r s b) p e = absurd (cc)
leaf_plain (Loop' r s b) p e = absurd (cc)
leaf_plain (If' r s a t b) p e = absurd (cc)

pub no_other : (x : Instr) → ((r : Option ValType) (v : Vec Instr Global) → x ≡ Block r v → ⊥) → ((r : Option ValType) (v : Vec Instr Global) → x ≡ Loop r v → ⊥)
    → ((r : Option ValType) (v w : Vec Instr Global) → x ≡ If r v w → ⊥) → is_leaf x ≡ false → ⊥
no_other x not_block not_loop not_if h = elim (leaf_kind x) [
  | is_block r v e ↦ not_block r v e
  | is_loop r v e ↦ not_loop r v e
  | is_branch r v w e ↦ not_if r v w e
  | is_plain p e f ↦ (let z : true ≡ false = sym (leaf_plain x p e) ∙ h in cc)
]

module _ (m : ModuleValue) (func : ℕ) (ls : List (Option ValType)) (ts : List ValType) (base : ℕ) (v : Walk) (e : standing m func ls ts base ≡ v) where
  pub enter_is : (ls' : List (Option ValType)) (l : Option ValType) (xs below : List ValType) → ls' ≡ ls ++ l ∷ [] → xs ≡ below
      → standing m func ls' xs (length below) ≡ record { around = v.around; labels = l ∷ v.labels; own = []; under = reverse below }
  enter_is ls' l xs below f g =
      let lab : reverse ls' ≡ l ∷ v.labels = ap reverse f ∙ reverse-append ls (l ∷ []) ∙ ap (λ (w : Walk). l ∷ w.labels) e in
      let here : own_at (length below) xs ≡ [] = ap (own_at (length below)) g ∙ own_none (length below) below (omega arith) in
      let there : under_at (length below) xs ≡ reverse below = ap (under_at (length below)) g ∙ under_taken (length below) below (omega arith) in
      (λ j. record { around = (e j).around; labels = lab j; own = here j; under = there j })

  pub below_all : reverse ts ≡ v.own ++ v.under
  below_all = all_types base ts ∙ ap (λ (w : Walk). w.own ++ w.under) e

  pub below_rest : (n : ℕ) (below : List ValType) → v.own ≡ I32 ∷ below → n ≡ length ts - 1 → reverse (take n ts) ≡ drop 1 v.own ++ v.under
  below_rest n below o h =
      let long : 1 ≤ length ts = omega (arith, length-reverse ts, ap length (below_all ∙ ap (λ z. z ++ v.under) o)) in
      but_topmost ts n long h ∙ ap (drop 1) below_all ∙ ap (λ z. drop 1 (z ++ v.under)) o ∙ ap (λ z. drop 1 z ++ v.under) (sym o)

  pub some_types : (below : List ValType) → v.own ≡ I32 ∷ below → base + 1 ≤ length ts
  some_types below o = omega (arith, own_length base ts, ap length (ap (λ (w : Walk). w.own) e ∙ o))

  pub stays_is : (ts' : List ValType) → take base ts' ≡ take base ts → Stays v (standing m func ls ts' base)
  stays_is ts' k = record {
    around = ap (λ (w : Walk). w.around) e;
    labels = ap (λ (w : Walk). w.labels) e;
    under = under_kept base ts ts' k ∙ ap (λ (w : Walk). w.under) e;
  }

  pub same_place : (ts' : List ValType) → ts' ≡ ts → standing m func ls ts' base ≡ v
  same_place ts' k = ap (λ z. standing m func ls z base) k ∙ e

  -- what is typed where the walk stands, in its fields
  pub own_is : own_at base ts ≡ v.own
  own_is = ap (λ (w : Walk). w.own) e

-- the upper part of reversed types, and the lower one
upper : {X : Type 0} (b : ℕ) (us : List X) → b ≤ length us → take (length (reverse us) - b) (reverse us) ≡ reverse (drop b us)
upper b us le =
    let a = reverse (drop b us) in
    let c = reverse (take b us) in
    let e : reverse us ≡ a ++ c = ap reverse (sym (take-append-drop b us)) ∙ reverse-append (take b us) (drop b us) in
    let n : length (reverse us) - b ≡ length a = omega (arith, length-reverse us, length-reverse (drop b us), length-drop b us) in
    ap (λ k. take k (reverse us)) n ∙ ap (take (length a)) e ∙ take-append_seam a c

lower : {X : Type 0} (b : ℕ) (us : List X) → b ≤ length us → drop (length (reverse us) - b) (reverse us) ≡ reverse (take b us)
lower b us le =
    let a = reverse (drop b us) in
    let c = reverse (take b us) in
    let e : reverse us ≡ a ++ c = ap reverse (sym (take-append-drop b us)) ∙ reverse-append (take b us) (drop b us) in
    let n : length (reverse us) - b ≡ length a = omega (arith, length-reverse us, length-reverse (drop b us), length-drop b us) in
    ap (λ k. drop k (reverse us)) n ∙ ap (drop (length a)) e ∙ drop-append_seam a c

module _ (m : ModuleValue) (func : ℕ) (ls : List (Option ValType)) (ts : List ValType) (base : ℕ) (v : Walk) (e : standing m func ls ts base ≡ v) (deep : base ≤ length ts) where
  pub entered_is : (ls' : List (Option ValType)) (l : Option ValType) (xs below : List ValType) (b : ℕ) → ls' ≡ ls ++ l ∷ [] → xs ≡ below → b ≡ length below
      → standing m func ls' xs b ≡ record { around = v.around; labels = l ∷ v.labels; own = []; under = reverse below }
  entered_is ls' l xs below b f g h = ap (standing m func ls' xs) h ∙ enter_is m func ls ts base v e ls' l xs below f g

  pub restarted_is : (xs : List ValType) → xs ≡ take base ts → standing m func ls xs base ≡ record { around = v.around; labels = v.labels; own = []; under = v.under }
  restarted_is xs h =
      let len : length (take base ts) ≡ base = length-take-le base ts deep in
      let none : own_at base xs ≡ [] = ap (own_at base) h ∙ own_none base (take base ts) (omega (arith, len)) in
      let same : under_at base xs ≡ v.under = ap (under_at base) h ∙ under_kept base ts (take base ts) (take_all base (take base ts) (omega (arith, len))) ∙ ap (λ (w : Walk). w.under) e in
      (λ j. record { around = (e j).around; labels = (e j).labels; own = none j; under = same j })

  pub under_is : v.under ≡ reverse (take base ts)
  unfolding under_at
  under_is = sym (ap (λ (w : Walk). w.under) e)

  pub left_deep : (us xs rs : List ValType) (b : ℕ) → us ≡ take base ts → xs ≡ us ++ rs → b ≤ length v.under → b ≤ length xs
  left_deep us xs rs b hu hx le = omega (arith, ap length (under_is ∙ ap reverse (sym hu)), length-reverse us, ap length hx, length-append us rs)

  pub left_is : (ls' : List (Option ValType)) (r : Option ValType) (us xs rs : List ValType) (b : ℕ) → reverse ls' ≡ drop 1 (reverse ls) → us ≡ take base ts → rs ≡ listed r → xs ≡ us ++ rs
      → b ≤ length v.under → standing m func ls' xs b ≡ left_at r b v
  unfolding own_at under_at
  left_is ls' r us xs rs b f hu hr hx le =
      let u : v.under ≡ reverse us = under_is ∙ ap reverse (sym hu) in
      let lb : b ≤ length us = omega (arith, ap length u, length-reverse us) in
      let own : reverse (drop b xs) ≡ listed r ++ take (length v.under - b) v.under =
      ap (λ z. reverse (drop b z)) hx ∙ ap reverse (drop-append-le b us rs lb) ∙ reverse-append (drop b us) rs ∙ ap (λ z. reverse z ++ reverse (drop b us)) hr
      ∙ ap (λ z. z ++ reverse (drop b us)) (reverse_listed r)
      ∙ ap (λ z. listed r ++ z) (sym (upper b us lb) ∙ ap (λ z. take (length z - b) z) (sym u)) in
      let kept : take b xs ≡ take b us = ap (take b) hx ∙ take-append-le b us rs lb in
      let under : reverse (take b xs) ≡ drop (length v.under - b) v.under = ap reverse kept ∙ sym (lower b us lb) ∙ ap (λ z. drop (length z - b) z) (sym u) in
      let labels : reverse ls' ≡ drop 1 v.labels = f ∙ ap (λ (w : Walk). drop 1 w.labels) e in
      (λ j. record { around = (e j).around; labels = labels j; own = own j; under = under j })

-- one label less
pub popped : (n : ℕ) (old new : List (Option ValType)) → n ≡ length old → new ≡ take (n - 1) old → reverse new ≡ drop 1 (reverse old)
popped n [] new h e = ap reverse e ∙ ap reverse (take_all (n - 1) [] (omega arith))
popped n (l ∷ ls) new h e =
    let one : length (reverse (l ∷ ls)) - (n - 1) ≡ 1 = omega (arith, length-reverse (l ∷ ls)) in
    ap reverse e ∙ sym (lower (n - 1) (l ∷ ls) (omega arith)) ∙ ap (λ k. drop k (reverse (l ∷ ls))) one

pub start_is : (m : ModuleValue) (func : ℕ) (ls : List (Option ValType)) (r : Option ValType) (xs : List ValType) (f : Func) → slice_get (module_of m).funcs func ≡ Some f
    → ls ≡ [] ++ r ∷ [] → r ≡ (around (module_of m) f).result → xs ≡ [] → standing m func ls xs 0 ≡ outset (around (module_of m) f)
start_is m func ls r xs f g e s h =
    let a : around_or (module_of m) (slice_get (module_of m).funcs func) ≡ around (module_of m) f = ap (around_or (module_of m)) g in
    let lab : reverse ls ≡ (around (module_of m) f).result ∷ [] = ap reverse e ∙ ap (λ z. z ∷ []) s in
    let here : own_at 0 xs ≡ [] = ap (own_at 0) h ∙ own_nothing 0 in
    let there : under_at 0 xs ≡ [] = ap (under_at 0) h ∙ under_taken 0 [] (omega arith) in
    (λ j. record { around = a j; labels = lab j; own = here j; under = there j })

pub says_at : (a b : Around) (ls ks : List (Option ValType)) (x : Instr) (s : D.Asks) → a ≡ b → ls ≡ ks → Says (plain_of x) (λ p. sig_of s ≡ sig a ls p)
    → Says (plain_of x) (λ p. sig_of s ≡ sig b ks p)
says_at a b ls ks x s e f h =
    subst (λ (z : Around). Says (plain_of x) (λ p. sig_of s ≡ sig z ks p)) e (subst (λ (z : List (Option ValType)). Says (plain_of x) (λ p. sig_of s ≡ sig a z p)) f h)

-- a walk's count of the operands below
pub under_long : (b : ℕ) (xs : List ValType) → b ≤ length xs → b ≡ length (under_at b xs)
unfolding under_at
under_long b xs h = omega (arith, length-reverse (take b xs), length-take-le b xs h)

pub ruleset outer = (under_long, under_long)

pub ruleset insides = (inside_block, inside_loop)

pub ruleset walking = (reverse_listed, own_nothing, walk_block, walk_loop, walk_if, room_if, can_walk, walked)

pub on_err : {A E : Type 0} (res : Result A E) (P : Type 0) → P → OnErr res P
on_err (Ok u) P h = tt
on_err (Err f) P h = h
