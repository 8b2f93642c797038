-- The weight of the code of a list of instructions, and what functions it is made of, step by step.
use Rattle.std.proofs.Common.{◌≡◌, ℕ, zero, suc, ◌+◌, ◌-◌, ◌<◌, ◌≤◌, ◌++◌, List, ◌∷◌, map, replicate, refl, ap, sym, ◌∙◌, arith, Bool, true, false, if◌then◌else◌, Option, Some, None}
use Rattle.std.proofs.Common.{slice_get, length, get_or, drop, drop-cons, add-one, length-append}
use Rattle.std.specs.List.{filter_map, cons_option}
use Rattle.std.specs.Option.{option_map}
use Rattle.std.proofs.lemmas.Option.{slice_get-map, slice_get-get_or, slice_get_past}
use Rattle.std.proofs.lemmas.List.{drop_all, length-replicate}
use Rattle.std.specs.declared.vec.Vec.{Vec}
use Rattle.std.specs.declared.alloc.Global.{Global}
use Rattle.wa_types.specs.declared.values.ValType.{ValType}
use Rattle.wa_types.specs.declared.instrs.Instr.{Instr}
use Rattle.wa_types.specs.declared.instrs.Instr.TheVariants.{Unreachable, Nop, Drop, Select, Return, MemorySize, MemoryGrow, MemoryCopy, MemoryFill, Const, Num, Br, BrIf, BrTable, Call, CallIndirect, LocalGet}
use Rattle.wa_types.specs.declared.instrs.Instr.TheVariants.{LocalSet, LocalTee, GlobalGet, GlobalSet, Load, Store, Block, Loop, If, Block', Loop', If'}
use Rattle.wa_types.specs.declared.syntax.Run.{Run}
use Rattle.wa_types.specs.declared.syntax.Import.{Import}
use Rattle.wa_types.specs.declared.syntax.ImportKind.{ImportKind}
use Rattle.wa_types.specs.declared.syntax.ImportKind.TheVariants.{Func as a_func_import, Table as a_table_import, Memory as a_memory_import, Global as a_global_import}
use Rattle.wa_types.specs.declared.syntax.FuncType.{FuncType as FuncTypeValue}
use Rattle.wa_types.specs.declared.syntax.Func.{Func as FuncValue}
use Rattle.wa_types.specs.declared.syntax.Module.{Module as ModuleValue}
use Rattle.wa_types.specs.Syntax.{Plain, Code, done, plain, nest, branch, FuncType, Func, Module}
use Rattle.wa_types.specs.View.{code, in_front, func_type_of, func_of, module_of}
use Rattle.wa_types.specs.Pruned.{is_last_instr, pruned}
use Rattle.wa_types.specs.Modules.{declared_locals, imported_func, func_sorts, or_empty, type_at, func_type_at}
use Rattle.wa_types.specs.Bounds.{code_weight}
use Rattle.wa_types.proofs.ViewLemmas.{is_block, is_loop, is_if, is_plain, instr_kind, in_block, in_loop, in_if, code_step, code_empty}

is_construct : Code → Bool
is_construct (nest s r body rest) = true
is_construct (branch r a b rest) = true
is_construct _ = false

plain_not : (p : Plain) → is_construct (plain p done) ≡ true → ⊥
unfolding is_construct
plain_not p e = cc

-- what stands in front of code as a construct is one
no_construct : (x : Instr) → ((r : Option ValType) (v : Vec Instr Global) → x ≡ Block r v → ⊥) → ((r : Option ValType) (v : Vec Instr Global) → x ≡ Loop r v → ⊥)
    → ((r : Option ValType) (v w : Vec Instr Global) → x ≡ If r v w → ⊥) → is_construct (in_front x done) ≡ true → ⊥
no_construct x not_block not_loop not_if h = elim (instr_kind x) [
  | is_block r v e ↦ not_block r v e
  | is_loop r v e ↦ not_loop r v e
  | is_if r v w e ↦ not_if r v w e
  | is_plain p e ↦ plain_not p (sym (ap is_construct (e done)) ∙ h)
]

-- the weight of pruned code that begins with an instruction
weight_front : (m : Module) (x : Instr) (rest : Code) → code_weight m (pruned (in_front x rest)) ≡ code_weight m (pruned (in_front x done))
    + code_weight m (if is_last_instr x then done else pruned rest)
unfolding code_weight pruned in_front is_last_instr
weight_front m Unreachable rest = omega arith
weight_front m Nop rest = omega arith
weight_front m Drop rest = omega arith
weight_front m Select rest = omega arith
weight_front m Return rest = omega arith
weight_front m MemorySize rest = omega arith
weight_front m MemoryGrow rest = omega arith
weight_front m MemoryCopy rest = omega arith
weight_front m MemoryFill rest = omega arith
weight_front m (Const v) rest = omega arith
weight_front m (Num op) rest = omega arith
weight_front m (Br l) rest = omega arith
weight_front m (BrIf l) rest = omega arith
weight_front m (BrTable ls l) rest = omega arith
weight_front m (Call x) rest = omega arith
weight_front m (CallIndirect x) rest = omega arith
weight_front m (LocalGet x) rest = omega arith
weight_front m (LocalSet x) rest = omega arith
weight_front m (LocalTee x) rest = omega arith
weight_front m (GlobalGet x) rest = omega arith
weight_front m (GlobalSet x) rest = omega arith
weight_front m (Load op a o) rest = omega arith
weight_front m (Store op a o) rest = omega arith
weight_front m (Block' r s k) rest = omega arith
weight_front m (Loop' r s k) rest = omega arith
weight_front m (If' r s k t l) rest = omega arith

weight_at : (m : Module) (xs : List Instr) (i : ℕ) (x : Instr) (b : Bool) → i < length xs → x ≡ get_or xs i x → is_last_instr x ≡ b
    → code_weight m (pruned (code (drop i xs))) ≡ code_weight m (pruned (in_front x done)) + code_weight m (if b then done else pruned (code (drop (i + 1) xs)))
weight_at m xs i x b h e last =
    ap (λ k. code_weight m (pruned k)) (code_step xs i x h e)
    ∙ weight_front m x (code (drop (i + 1) xs))
    ∙ ap (λ c. code_weight m (pruned (in_front x done)) + code_weight m (if c then done else pruned (code (drop (i + 1) xs)))) last

pub weight_step : (m : Module) (xs : List Instr) (i : ℕ) (x : Instr) → i < length xs → x ≡ get_or xs i x → is_last_instr x ≡ false
    → code_weight m (pruned (code (drop i xs))) ≡ code_weight m (pruned (in_front x done)) + code_weight m (pruned (code (drop (i + 1) xs)))
weight_step m xs i x h e last = weight_at m xs i x false h e last

pub weight_last : (m : Module) (xs : List Instr) (i : ℕ) (x : Instr) → i < length xs → x ≡ get_or xs i x → is_last_instr x ≡ true
    → code_weight m (pruned (code (drop i xs))) ≡ code_weight m (pruned (in_front x done))
unfolding code_weight
weight_last m xs i x h e last = weight_at m xs i x true h e last ∙ omega arith

pub weight_most : (m : Module) (xs : List Instr) (i : ℕ) (x : Instr) → i < length xs → x ≡ get_or xs i x → code_weight m (pruned (in_front x done)) ≤ code_weight m (pruned (code (drop i xs)))
weight_most m xs i x h e = omega (arith, weight_at m xs i x (is_last_instr x) h e refl)

pub weight_empty : (m : Module) (xs : List Instr) (i : ℕ) → length xs ≤ i → code_weight m (pruned (code (drop i xs))) ≡ 0
unfolding code_weight pruned
weight_empty m xs i h = ap (λ k. code_weight m (pruned k)) (code_empty xs i h)

pub weight_block : (m : Module) (r : Option ValType) (v : Vec Instr Global) → code_weight m (pruned (in_front (Block r v) done)) ≡ 1 + code_weight m (pruned (code v.items))
unfolding code_weight pruned
weight_block m r v = ap (λ k. code_weight m (pruned k)) (in_block r v done) ∙ omega arith

pub weight_loop : (m : Module) (r : Option ValType) (v : Vec Instr Global) → code_weight m (pruned (in_front (Loop r v) done)) ≡ 1 + code_weight m (pruned (code v.items))
unfolding code_weight pruned
weight_loop m r v = ap (λ k. code_weight m (pruned k)) (in_loop r v done) ∙ omega arith

pub weight_if : (m : Module) (r : Option ValType) (v w : Vec Instr Global) → code_weight m (pruned (in_front (If r v w) done)) ≡ 1 + code_weight m (pruned (code v.items))
    + code_weight m (pruned (code w.items))
unfolding code_weight pruned
weight_if m r v w = ap (λ k. code_weight m (pruned k)) (in_if r v w done) ∙ omega arith

pub weight_table : (m : Module) (ls : Vec ℕ Global) (l : ℕ) → code_weight m (pruned (in_front (BrTable ls l) done)) ≡ 1 + length ls.items + 1
unfolding code_weight pruned in_front
weight_table m ls l = omega arith

pub weight_call : (m : Module) (x : ℕ) → code_weight m (pruned (in_front (Call x) done)) ≡ 1 + length (func_type_at m x).params
unfolding code_weight pruned in_front
weight_call m x = omega arith

pub weight_indirect : (m : Module) (x : ℕ) → code_weight m (pruned (in_front (CallIndirect x) done)) ≡ 1 + length (type_at m x).params
unfolding code_weight pruned in_front
weight_indirect m x = omega arith

pub ruleset weighing = (weight_step, weight_last, weight_most, weight_empty, weight_block, weight_loop, weight_if, weight_table, weight_call, weight_indirect)

-- one that is no call, no `br_table` and no construct
pub weight_other : (m : Module) (x : Instr) → ((ls : Vec ℕ Global) (l : ℕ) → x ≡ BrTable ls l → ⊥) → ((f : ℕ) → x ≡ Call f → ⊥) → ((t : ℕ) → x ≡ CallIndirect t → ⊥)
    → ((r : Option ValType) (v : Vec Instr Global) → x ≡ Block r v → ⊥) → ((r : Option ValType) (v : Vec Instr Global) → x ≡ Loop r v → ⊥)
    → ((r : Option ValType) (v w : Vec Instr Global) → x ≡ If r v w → ⊥) → 1 ≡ code_weight m (pruned (in_front x done))
unfolding code_weight pruned in_front is_construct
weight_other m (BrTable ls l) no_table no_call no_indirect not_block not_loop not_if = absurd (no_table ls l refl)
weight_other m (Call f) no_table no_call no_indirect not_block not_loop not_if = absurd (no_call f refl)
weight_other m (CallIndirect t) no_table no_call no_indirect not_block not_loop not_if = absurd (no_indirect t refl)
weight_other m (Block' r s k) no_table no_call no_indirect not_block not_loop not_if = absurd (no_construct (Block' r s k) not_block not_loop not_if refl)
weight_other m (Loop' r s k) no_table no_call no_indirect not_block not_loop not_if = absurd (no_construct (Loop' r s k) not_block not_loop not_if refl)
weight_other m (If' r s k t l) no_table no_call no_indirect not_block not_loop not_if = absurd (no_construct (If' r s k t l) not_block not_loop not_if refl)
weight_other m _ no_table no_call no_indirect not_block not_loop not_if = refl

-- the locals of the run at i, in front of those after it
pub locals_step : (xs : List Run) (i : ℕ) (x : Run) → i < length xs → x ≡ get_or xs i x → length (declared_locals (drop i xs)) ≡ x.count + length (declared_locals (drop (i + 1) xs))
locals_step xs i x h e =
    rw (add-one, drop-cons xs i x) (rw (sym e) (length-append (replicate x.count x.ty) (declared_locals (drop (suc i) xs))
    ∙ ap (λ n. n + length (declared_locals (drop (suc i) xs))) (length-replicate x.count x.ty)))

pub locals_none : (xs : List Run) (i : ℕ) → length xs ≤ i → length (declared_locals (drop i xs)) ≡ 0
locals_none xs i h = ap (λ rs. length (declared_locals rs)) (drop_all i xs h)

pub ruleset counting = (locals_step, locals_none)

-- the indices of the types of defined functions
abbrev pub defined_sorts : Module → List ℕ
defined_sorts m = map (λ (f : Func). f.sort) m.funcs

-- the indices of the types of the functions imported from place i on, and of those given
abbrev pub sorts_from : List Import → List ℕ → ℕ → List ℕ
sorts_from xs fs i = filter_map (λ (x : Import). imported_func x.kind) (drop i xs) ++ fs

sorts_at : (xs : List Import) (fs : List ℕ) (i : ℕ) (x : Import) → i < length xs → x ≡ get_or xs i x
    → sorts_from xs fs i ≡ filter_map (λ (y : Import). imported_func y.kind) (x ∷ drop (suc i) xs) ++ fs
sorts_at xs fs i x h e = rw (drop-cons xs i x) (ap (λ y. filter_map (λ (z : Import). imported_func z.kind) (y ∷ drop (suc i) xs) ++ fs) (sym e))

sorts_of : (xs : List Import) (fs : List ℕ) (i : ℕ) (x : Import) (k : ImportKind) → i < length xs → x ≡ get_or xs i x → x.kind ≡ k
    → sorts_from xs fs i ≡ cons_option (imported_func k) (filter_map (λ (y : Import). imported_func y.kind) (drop (i + 1) xs)) ++ fs
sorts_of xs fs i x k h e f =
    sorts_at xs fs i x h e ∙ rw add-one (ap (λ z. cons_option (imported_func z) (filter_map (λ (y : Import). imported_func y.kind) (drop (suc i) xs)) ++ fs) f)

-- the function imported at place i is the one looked for
pub sorts_first : (xs : List Import) (fs : List ℕ) (i : ℕ) (x : Import) (sort left : ℕ) → i < length xs → x ≡ get_or xs i x → x.kind ≡ a_func_import sort → left ≡ 0
    → slice_get (sorts_from xs fs i) left ≡ Some sort
sorts_first xs fs i x sort left h e f z = ap (λ l. slice_get (sorts_from xs fs i) l) z ∙ ap (λ ys. slice_get ys 0) (sorts_of xs fs i x (a_func_import sort) h e f)

later : (y : ℕ) (ys : List ℕ) (left : ℕ) → 0 < left → slice_get (y ∷ ys) left ≡ slice_get ys (left - 1)
later y ys zero h = absurd (omega (arith, h))
later y ys (suc l) h = let e : suc l - 1 ≡ l = omega arith in rw e refl

-- it is passed by
pub sorts_next : (xs : List Import) (fs : List ℕ) (i : ℕ) (x : Import) (sort left : ℕ) → i < length xs → x ≡ get_or xs i x → x.kind ≡ a_func_import sort → 0 < left
    → slice_get (sorts_from xs fs i) left ≡ slice_get (sorts_from xs fs (i + 1)) (left - 1)
sorts_next xs fs i x sort left h e f z =
    ap (λ ys. slice_get ys left) (sorts_of xs fs i x (a_func_import sort) h e f) ∙ later sort (sorts_from xs fs (i + 1)) left z

no_func : (k : ImportKind) → ((sort : ℕ) → k ≡ a_func_import sort → ⊥) → imported_func k ≡ None
no_func (a_func_import sort) h = absurd (h sort refl)
no_func (a_table_import l) h = refl
no_func (a_memory_import l) h = refl
no_func (a_global_import t mutable) h = refl

-- no function is imported at place i
pub sorts_other : (xs : List Import) (fs : List ℕ) (i : ℕ) (x : Import) (left : ℕ) → i < length xs → x ≡ get_or xs i x → ((sort : ℕ) → x.kind ≡ a_func_import sort → ⊥)
    → slice_get (sorts_from xs fs i) left ≡ slice_get (sorts_from xs fs (i + 1)) left
sorts_other xs fs i x left h e none =
    ap (λ ys. slice_get ys left) (sorts_of xs fs i x x.kind h e refl ∙ ap (λ o. cons_option o (filter_map (λ (y : Import). imported_func y.kind) (drop (i + 1) xs)) ++ fs) (no_func x.kind none))

pub sorts_none : (xs : List Import) (fs : List ℕ) (i left : ℕ) → length xs ≤ i → slice_get (sorts_from xs fs i) left ≡ slice_get fs left
sorts_none xs fs i left h = ap (λ ys. slice_get (filter_map (λ (y : Import). imported_func y.kind) ys ++ fs) left) (drop_all i xs h)

-- the type of a defined function
pub sort_found : (xs : List FuncValue) (k : ℕ) (o : Option FuncValue) → slice_get xs k ≡ o → slice_get (map (λ (f : Func). f.sort) (map func_of xs)) k ≡ option_map (λ (f : FuncValue). f.sort) o
sort_found xs k o e = slice_get-map (λ (f : Func). f.sort) (map func_of xs) k ∙ ap (option_map (λ (f : Func). f.sort)) (slice_get-map func_of xs k ∙ ap (option_map func_of) e) ∙ twice o
  where
    twice : (o : Option FuncValue) → option_map (λ (f : Func). f.sort) (option_map func_of o) ≡ option_map (λ (f : FuncValue). f.sort) o
    twice None = refl
    twice (Some f) = refl

-- the parameters of a type
pub params_found : (xs : List FuncTypeValue) (k : ℕ) (o : Option FuncTypeValue) → slice_get xs k ≡ o → or_empty (slice_get (map func_type_of xs) k) ≡ or_empty (option_map func_type_of o)
params_found xs k o e = ap or_empty (slice_get-map func_type_of xs k ∙ ap (option_map func_type_of) e)

-- the parameters of a function
pub func_params_found : (m : Module) (x : ℕ) (o : Option ℕ) → slice_get (func_sorts m) x ≡ o → func_type_at m x ≡ or_empty (option_map (type_at m) o)
func_params_found m x o e = ap or_empty (slice_get-map (type_at m) (func_sorts m) x ∙ ap (option_map (type_at m)) e)

found : {X : Type 0} (xs : List X) (k : ℕ) (x : X) → k < length xs → x ≡ get_or xs k x → slice_get xs k ≡ Some x
found xs k x h e = slice_get-get_or xs k x h ∙ ap Some (sym e)

pub sort_last : (xs : List Import) (m : ModuleValue) (i left : ℕ) (f : FuncValue) (o : Option ℕ) → length xs ≤ i → left < length m.funcs.items → f ≡ get_or m.funcs.items left f
    → slice_get (sorts_from xs (defined_sorts (module_of m)) i) left ≡ o → Some f.sort ≡ o
sort_last xs m i left f o h lt e g =
    sym (sort_found m.funcs.items left (Some f) (found m.funcs.items left f lt e)) ∙ sym (sorts_none xs (defined_sorts (module_of m)) i left h) ∙ g

pub sort_past : (xs : List Import) (m : ModuleValue) (i left : ℕ) (o : Option ℕ) → length xs ≤ i → length m.funcs.items ≤ left
    → slice_get (sorts_from xs (defined_sorts (module_of m)) i) left ≡ o → None ≡ o
sort_past xs m i left o h le g =
    sym (sort_found m.funcs.items left None (slice_get_past m.funcs.items left le)) ∙ sym (sorts_none xs (defined_sorts (module_of m)) i left h) ∙ g

pub params_last : (m : ModuleValue) (sort : ℕ) (t : FuncTypeValue) → sort < length m.types.items → t ≡ get_or m.types.items sort t → length t.params.items ≡ length (type_at (module_of m) sort).params
params_last m sort t lt e = ap (λ (u : FuncType). length u.params) (sym (params_found m.types.items sort (Some t) (found m.types.items sort t lt e)))

pub params_past : (m : ModuleValue) (sort : ℕ) → length m.types.items ≤ sort → 0 ≡ length (type_at (module_of m) sort).params
params_past m sort le = ap (λ (u : FuncType). length u.params) (sym (params_found m.types.items sort None (slice_get_past m.types.items sort le)))

pub func_params_some : (m : Module) (x sort n : ℕ) → Some sort ≡ slice_get (func_sorts m) x → n ≡ length (type_at m sort).params → n ≡ length (func_type_at m x).params
func_params_some m x sort n e f = f ∙ ap (λ (u : FuncType). length u.params) (sym (func_params_found m x (Some sort) (sym e)))

pub func_params_none : (m : Module) (x : ℕ) → None ≡ slice_get (func_sorts m) x → 0 ≡ length (func_type_at m x).params
func_params_none m x e = ap (λ (u : FuncType). length u.params) (sym (func_params_found m x None (sym e)))

pub ruleset finding = (sorts_first, sorts_next, sorts_other, sort_last, sort_past, params_last, params_past, func_params_some, func_params_none)
