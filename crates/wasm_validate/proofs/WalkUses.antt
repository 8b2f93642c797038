-- How a walk goes over a typed body: what a caller needs at each instruction.
use Rattle.std.proofs.Common.{◌≡◌, ℕ, ◌+◌, ◌<◌, ◌++◌, length, drop, get_or, List, [], ◌∷◌, Option, Some, None, false, if◌then◌else◌, refl, ap, sym, ◌∙◌, subst, slice_get, arith, nat_lt, ◌-◌}
use Rattle.std.specs.declared.vec.Vec.{Vec}
use Rattle.std.specs.declared.alloc.Global.{Global}
use Rattle.wa_types.specs.declared.values.ValType.{ValType}
use Rattle.wa_types.specs.declared.values.ValType.TheVariants.{I32}
use Rattle.wa_types.specs.declared.instrs.Instr.{Instr}
use Rattle.wa_types.specs.declared.instrs.Instr.TheVariants.{Unreachable, Nop, Drop, Select, Return, MemorySize, MemoryGrow, MemoryCopy, MemoryFill, Const, Num, Br, BrIf, BrTable, Call, CallIndirect, LocalGet, LocalSet, LocalTee, GlobalGet, GlobalSet, Load, Store, Block, Loop, If, Block', Loop', If'}
use Rattle.wa_types.specs.Syntax.{Plain, Shape, a_block, a_loop, Code, done, plain, nest, branch, Func, Module}
use Rattle.wa_types.specs.View.{in_front, code, module_of, func_of}
use Rattle.wa_types.specs.Pruned.{is_last, is_last_instr}
use Rattle.wa_types.specs.Typing.{Around, Sig, moves, leaves, drops, selects, lacks, late, listed, sig, Takes, label, Types}
use Rattle.wa_types.proofs.ViewLemmas.{in_block, in_loop, in_if, code_step}
use Rattle.validate_bodies.specs.Table.{plain_of}
use Rattle.std.specs.List.{filter_map}
use Rattle.wa_types.specs.declared.syntax.Import.{Import}
use Rattle.wa_types.specs.declared.syntax.Func.{Func as FuncValue}
use Rattle.wa_types.specs.declared.syntax.Module.{Module as ModuleValue}
use Rattle.wa_types.specs.Modules.{around, defined_at, func_imports, imported_func}
use Rattle.wasm_validate.proofs.FuncLemmas.{func_at}
use Rattle.wa_types.specs.Validity.{Valid}
use Rattle.wa_types.specs.Leaves.{is_leaf}
use Rattle.wa_types.proofs.PointLemmas.{Passes, passes}
use Rattle.wasm_validate.specs.Walk.{Walk, outset, Stays, Inside, TypedAt}
use Rattle.validate_bodies.proofs.InstrKinds.{is_block, is_loop, is_branch, is_plain, leaf_kind}

last_of : (p q : Plain) → Some p ≡ Some q → is_last p ≡ is_last q
last_of p q e = let f : p ≡ q = cc in ap is_last f

last_plain : (x : Instr) (p : Plain) → plain_of x ≡ Some p → is_last_instr x ≡ is_last p
unfolding plain_of is_last_instr
last_plain Unreachable p e = last_of _ p e
last_plain Nop p e = last_of _ p e
last_plain Drop p e = last_of _ p e
last_plain Select p e = last_of _ p e
last_plain Return p e = last_of _ p e
last_plain MemorySize p e = last_of _ p e
last_plain MemoryGrow p e = last_of _ p e
last_plain MemoryCopy p e = last_of _ p e
last_plain MemoryFill p e = last_of _ p e
last_plain (Const v) p e = last_of _ p e
last_plain (Num op) p e = last_of _ p e
last_plain (Br l) p e = last_of _ p e
last_plain (BrIf l) p e = last_of _ p e
last_plain (BrTable ls l) p e = last_of _ p e
last_plain (Call x) p e = last_of _ p e
last_plain (CallIndirect x) p e = last_of _ p e
last_plain (LocalGet x) p e = last_of _ p e
last_plain (LocalSet x) p e = last_of _ p e
last_plain (LocalTee x) p e = last_of _ p e
last_plain (GlobalGet x) p e = last_of _ p e
last_plain (GlobalSet x) p e = last_of _ p e
last_plain (Load op a o) p e = last_of _ p e
last_plain (Store op a o) p e = last_of _ p e
last_plain (Block' r s b) p e = absurd (cc)
last_plain (Loop' r s b) p e = absurd (cc)
last_plain (If' r s a t b) p e = absurd (cc)

-- the code is typed from these operands
abbrev pub TypedOn : Around → List (Option ValType) → Code → List ValType → Type 0
TypedOn c ls k ops = (outs : List ValType) × Types c ls k outs ops

-- What lies behind an instruction is typed from the operands that the walk gives there.
pub nest_once : (c : Around) (ls : List (Option ValType)) (s : Shape) (r : Option ValType) (k rest : Code) (outs ops new : List ValType) → Types c ls (nest s r k rest) outs ops
    → Types c ls (nest s r k done) new ops → Types c ls rest outs new
unfolding Types
nest_once c ls s r k rest outs ops new h w = subst (Types c ls rest outs) w.1 h.1

pub branch_once : (c : Around) (ls : List (Option ValType)) (r : Option ValType) (a b rest : Code) (outs ops new : List ValType) → Types c ls (branch r a b rest) outs ops
    → Types c ls (branch r a b done) new ops → Types c ls rest outs new
unfolding Types
branch_once c ls r a b rest outs ops new h w =
    let e : h.0 ≡ w.0 = (let f : I32 ∷ h.0 ≡ I32 ∷ w.0 = sym h.1 ∙ w.1 in cc) in
    subst (Types c ls rest outs) (ap (λ z. listed r ++ z) e ∙ w.4) h.4

same_front : (ps a b : List ValType) → ps ++ a ≡ ps ++ b → a ≡ b
same_front [] a b e = e
same_front (p ∷ ps) a b e = let f : ps ++ a ≡ ps ++ b = cc in same_front ps a b f

pub takes_once : (s : Sig) (ins a b : List ValType) → Passes s → Takes s ins a → Takes s ins b → a ≡ b
takes_once (moves ps rs) ins a b p h w = h.2 ∙ ap (λ z. rs ++ z) (same_front ps h.0 w.0 (sym h.1 ∙ w.1)) ∙ sym w.2
takes_once (leaves ps) ins a b p h w = absurd p
takes_once drops ins a b p h w = let f : h.0 ∷ a ≡ w.0 ∷ b = sym h.1 ∙ w.1 in cc
takes_once selects ins a b p h w = let f : I32 ∷ h.0 ∷ h.0 ∷ h.1 ≡ I32 ∷ w.0 ∷ w.0 ∷ w.1 = sym h.2 ∙ w.2 in let g : h.0 ∷ h.1 ≡ w.0 ∷ w.1 = cc in h.3 ∙ g ∙ sym w.3
takes_once (lacks r) ins a b p h w = absurd h
takes_once (late r ps rs) ins a b p h w = absurd h

pub plain_once : (c : Around) (ls : List (Option ValType)) (p : Plain) (rest : Code) (outs ops new : List ValType) → Passes (sig c ls p) → Types c ls (plain p rest) outs ops
    → Types c ls (plain p done) new ops → Types c ls rest outs new
unfolding Types
plain_once c ls p rest outs ops new a h w = subst (Types c ls rest outs) (takes_once (sig c ls p) ops h.0 new a h.1 (subst (Takes (sig c ls p) ops) w.2 w.1)) h.2

nest_alone : (c : Around) (ls : List (Option ValType)) (s : Shape) (r : Option ValType) (k rest : Code) (outs ops : List ValType) → Types c ls (nest s r k rest) outs ops
    → TypedOn c ls (nest s r k done) ops
unfolding Types
nest_alone c ls s r k rest outs ops h = (listed r ++ ops, (h.0, refl))

branch_alone : (c : Around) (ls : List (Option ValType)) (r : Option ValType) (a b rest : Code) (outs ops : List ValType) → Types c ls (branch r a b rest) outs ops
    → TypedOn c ls (branch r a b done) ops
unfolding Types
branch_alone c ls r a b rest outs ops h = (listed r ++ h.0, (h.0, h.1, h.2, h.3, refl))

plain_alone : (c : Around) (ls : List (Option ValType)) (p : Plain) (rest : Code) (outs ops : List ValType) → Types c ls (plain p rest) outs ops → TypedOn c ls (plain p done) ops
unfolding Types
plain_alone c ls p rest outs ops h = (h.0, (h.0, h.1, refl))

nest_body : (c : Around) (ls : List (Option ValType)) (s : Shape) (r : Option ValType) (k rest : Code) (outs ops : List ValType) → Types c ls (nest s r k rest) outs ops
    → TypedOn c (label s r ∷ ls) k []
unfolding Types
nest_body c ls s r k rest outs ops h = (listed r, h.0)

branch_arms : (c : Around) (ls : List (Option ValType)) (r : Option ValType) (a b rest : Code) (outs ops : List ValType) → Types c ls (branch r a b rest) outs ops
    → TypedOn c (r ∷ ls) a [] × TypedOn c (r ∷ ls) b []
unfolding Types
branch_arms c ls r a b rest outs ops h = ((listed r, h.2), (listed r, h.3))

module _ (c : Around) (ls : List (Option ValType)) (x : Instr) (rest : Code) (ops : List ValType) (h : TypedOn c ls (in_front x rest) ops) where
  pub typed_alone : TypedOn c ls (in_front x done) ops
  typed_alone = elim (leaf_kind x) [
    | is_block r v e ↦ (let g : (k : Code) → in_front x k ≡ nest a_block r (code v.items) k = λ k. ap (λ y. in_front y k) e ∙ in_block r v k in
        subst (λ (k : Code). TypedOn c ls k ops) (sym (g done)) (nest_alone c ls a_block r (code v.items) rest h.0 ops (subst (λ (k : Code). Types c ls k h.0 ops) (g rest) h.1)))
    | is_loop r v e ↦ (let g : (k : Code) → in_front x k ≡ nest a_loop r (code v.items) k = λ k. ap (λ y. in_front y k) e ∙ in_loop r v k in
        subst (λ (k : Code). TypedOn c ls k ops) (sym (g done)) (nest_alone c ls a_loop r (code v.items) rest h.0 ops (subst (λ (k : Code). Types c ls k h.0 ops) (g rest) h.1)))
    | is_branch r v w e ↦ (let g : (k : Code) → in_front x k ≡ branch r (code v.items) (code w.items) k = λ k. ap (λ y. in_front y k) e ∙ in_if r v w k in
        subst (λ (k : Code). TypedOn c ls k ops) (sym (g done)) (branch_alone c ls r (code v.items) (code w.items) rest h.0 ops (subst (λ (k : Code). Types c ls k h.0 ops) (g rest) h.1)))
    | is_plain p e f ↦ subst (λ (k : Code). TypedOn c ls k ops) (sym (f done)) (plain_alone c ls p rest h.0 ops (subst (λ (k : Code). Types c ls k h.0 ops) (f rest) h.1))
  ]

  pub onward : (new : List ValType) → Types c ls (in_front x done) new ops → is_last_instr x ≡ false → TypedOn c ls rest new
  onward new w l = elim (leaf_kind x) [
    | is_block r v e ↦ (let g : (k : Code) → in_front x k ≡ nest a_block r (code v.items) k = λ k. ap (λ y. in_front y k) e ∙ in_block r v k in
        (h.0, nest_once c ls a_block r (code v.items) rest h.0 ops new (subst (λ (k : Code). Types c ls k h.0 ops) (g rest) h.1) (subst (λ (k : Code). Types c ls k new ops) (g done) w)))
    | is_loop r v e ↦ (let g : (k : Code) → in_front x k ≡ nest a_loop r (code v.items) k = λ k. ap (λ y. in_front y k) e ∙ in_loop r v k in
        (h.0, nest_once c ls a_loop r (code v.items) rest h.0 ops new (subst (λ (k : Code). Types c ls k h.0 ops) (g rest) h.1) (subst (λ (k : Code). Types c ls k new ops) (g done) w)))
    | is_branch r v u e ↦ (let g : (k : Code) → in_front x k ≡ branch r (code v.items) (code u.items) k = λ k. ap (λ y. in_front y k) e ∙ in_if r v u k in
        (h.0, branch_once c ls r (code v.items) (code u.items) rest h.0 ops new (subst (λ (k : Code). Types c ls k h.0 ops) (g rest) h.1) (subst (λ (k : Code). Types c ls k new ops) (g done) w)))
    | is_plain p e f ↦
        (let q : is_last p ≡ false = sym (last_plain x p e) ∙ l in
        (h.0, plain_once c ls p rest h.0 ops new (passes c ls p q) (subst (λ (k : Code). Types c ls k h.0 ops) (f rest) h.1) (subst (λ (k : Code). Types c ls k new ops) (f done) w)))
  ]

  pub in_a_block : (r : Option ValType) (v : Vec Instr Global) (xs : List Instr) → x ≡ Block r v → xs ≡ v.items → TypedOn c (r ∷ ls) (code xs) []
  in_a_block r v xs e f = subst (λ (z : List Instr). TypedOn c (r ∷ ls) (code z) []) (sym f)
      (nest_body c ls a_block r (code v.items) rest h.0 ops (subst (λ (k : Code). Types c ls k h.0 ops) (ap (λ y. in_front y rest) e ∙ in_block r v rest) h.1))

  pub in_a_loop : (r : Option ValType) (v : Vec Instr Global) (xs : List Instr) → x ≡ Loop r v → xs ≡ v.items → TypedOn c (None ∷ ls) (code xs) []
  in_a_loop r v xs e f = subst (λ (z : List Instr). TypedOn c (None ∷ ls) (code z) []) (sym f)
      (nest_body c ls a_loop r (code v.items) rest h.0 ops (subst (λ (k : Code). Types c ls k h.0 ops) (ap (λ y. in_front y rest) e ∙ in_loop r v rest) h.1))

  pub in_an_if : (r : Option ValType) (v w : Vec Instr Global) (xs ys : List Instr) → x ≡ If r v w → xs ≡ v.items → ys ≡ w.items → TypedOn c (r ∷ ls) (code xs) [] × TypedOn c (r ∷ ls) (code ys) []
  in_an_if r v w xs ys e f g =
      let both = branch_arms c ls r (code v.items) (code w.items) rest h.0 ops (subst (λ (k : Code). Types c ls k h.0 ops) (ap (λ y. in_front y rest) e ∙ in_if r v w rest) h.1) in
      (subst (λ (z : List Instr). TypedOn c (r ∷ ls) (code z) []) (sym f) both.0, subst (λ (z : List Instr). TypedOn c (r ∷ ls) (code z) []) (sym g) both.1)

pub typed_step : (c : Around) (ls : List (Option ValType)) (xs : List Instr) (i : ℕ) (x : Instr) (ops : List ValType) → i < length xs → x ≡ get_or xs i x
    → TypedOn c ls (code (drop i xs)) ops → TypedOn c ls (in_front x (code (drop (i + 1) xs))) ops
typed_step c ls xs i x ops h e t = subst (λ (k : Code). TypedOn c ls k ops) (code_step xs i x h e) t

-- of walks: where one stands behind an instruction
pub stays_typed : (v w : Walk) (k : Code) (ops : List ValType) → Stays v w → TypedOn v.around v.labels k ops → TypedOn w.around w.labels k ops
stays_typed v w k ops s t =
    subst (λ (z : Around). TypedOn z w.labels k ops) (sym s.around) (subst (λ (z : List (Option ValType)). TypedOn v.around z k ops) (sym s.labels) t)

-- what `advance` asks, where the rest of the sequence is typed
pub ahead : (w : Walk) (x : Instr) (rest : Code) → TypedAt w (in_front x rest) → TypedAt w (in_front x done)
ahead w x rest h = typed_alone w.around w.labels x rest w.own h

-- the rest is typed where the walk stands then
pub behind : (v w : Walk) (x : Instr) (rest : Code) → TypedAt v (in_front x rest) → Stays v w → Types v.around v.labels (in_front x done) w.own v.own → is_last_instr x ≡ false → TypedAt w rest
behind v w x rest h s t l = stays_typed v w rest w.own s (onward v.around v.labels x rest v.own h w.own t l)

pub leaf_block : (r : Option ValType) (u : Vec Instr Global) → is_leaf (Block r u) ≡ false
unfolding is_leaf
leaf_block r u = refl

pub leaf_loop : (r : Option ValType) (u : Vec Instr Global) → is_leaf (Loop r u) ≡ false
unfolding is_leaf
leaf_loop r u = refl

pub leaf_if : (r : Option ValType) (u t : Vec Instr Global) → is_leaf (If r u t) ≡ false
unfolding is_leaf
leaf_if r u t = refl

-- The body of a construct, and each of its arms, is typed where the walk stands that `inside` gives.
module _ (v w : Walk) (x : Instr) (rest : Code) (h : TypedAt v (in_front x rest)) (i : Inside v (in_front x done) w) where
  pub block_typed : (r : Option ValType) (u : Vec Instr Global) (xs : List Instr) → x ≡ Block r u → xs ≡ u.items → TypedAt w (code xs)
  block_typed r u xs e f =
      let g = subst (λ (k : Code). Inside v k w) (ap (λ y. in_front y done) e ∙ in_block r u done) i in
      subst (λ (z : Walk). TypedAt z (code xs)) (sym g) (in_a_block v.around v.labels x rest v.own h r u xs e f)

  pub loop_typed : (r : Option ValType) (u : Vec Instr Global) (xs : List Instr) → x ≡ Loop r u → xs ≡ u.items → TypedAt w (code xs)
  loop_typed r u xs e f =
      let g = subst (λ (k : Code). Inside v k w) (ap (λ y. in_front y done) e ∙ in_loop r u done) i in
      subst (λ (z : Walk). TypedAt z (code xs)) (sym g) (in_a_loop v.around v.labels x rest v.own h r u xs e f)

  pub arms_typed : (r : Option ValType) (u t : Vec Instr Global) (xs ys : List Instr) → x ≡ If r u t → xs ≡ u.items → ys ≡ t.items → TypedAt w (code xs) × TypedAt w (code ys)
  arms_typed r u t xs ys e f k =
      let g = subst (λ (c : Code). Inside v c w) (ap (λ y. in_front y done) e ∙ in_if r u t done) i in
      let both = in_an_if v.around v.labels x rest v.own h r u t xs ys e f k in
      (subst (λ (z : Walk). TypedAt z (code xs)) (sym g) both.0, subst (λ (z : Walk). TypedAt z (code ys)) (sym g) both.1)

-- the rest of a list of instructions, from one of them on
pub step_typed : (w : Walk) (xs : List Instr) (i : ℕ) (x : Instr) → i < length xs → x ≡ get_or xs i x → TypedAt w (code (drop i xs)) → TypedAt w (in_front x (code (drop (i + 1) xs)))
step_typed w xs i x h e t = typed_step w.around w.labels xs i x w.own h e t

-- The body of a defined function of a valid module is typed where a walk begins.
pub outset_typed : (m : Module) (i : ℕ) (f : Func) → Valid m → slice_get m.funcs i ≡ Some f → TypedAt (outset (around m f)) f.body
outset_typed m i f h e = (listed (around m f).result, h.bodies i f e)

-- the first function of a module that imports nothing
pub zero_defined : (m : ModuleValue) (f : FuncValue) → length m.imports.items ≡ 0 → 0 < length m.funcs.items → f ≡ get_or m.funcs.items 0 f → defined_at (module_of m) 0 ≡ Some (func_of f)
zero_defined m f none some e =
    let n : func_imports (module_of m) ≡ 0 = no_imports m.imports.items none in
    let h : slice_get (module_of m).funcs 0 ≡ Some (func_of f) = func_at m.funcs.items 0 f some e in
    ap (λ k. if nat_lt 0 k then None else slice_get (module_of m).funcs (0 - k)) n ∙ h
  where
    no_imports : (is : List Import) → length is ≡ 0 → length (filter_map (λ (i : Import). imported_func i.kind) is) ≡ 0
    no_imports [] h = refl
    no_imports (i ∷ is) h = absurd (omega arith)
