-- What keeps the room of a stack's activations, and what refutes that room was lacking.
use Rattle.std.proofs.Common.{arith, ◌≡◌, ℕ, zero, suc, ◌+◌, ◌<◌, ◌≤◌, nat_lt, if◌then◌else◌, Bool, true, false, List, [], ◌∷◌, ◌++◌, length, map, reverse, take, drop, Option, Some, Result, Ok, Err, IfErr, OnOk, IsOk, Vec, Global, vec_capacity, vec_len, refl, sym, ap, ◌∙◌, subst}
use Rattle.std.proofs.lemmas.List.{length-map, length-reverse}
use Rattle.wa_types.specs.declared.values.ValType.{ValType}
use Rattle.wa_types.specs.declared.values.Value.{Value}
use Rattle.wa_types.specs.declared.values.Value.TheVariants as V
use Rattle.wa_types.specs.declared.instrs.Instr.{Instr}
use Rattle.wa_types.specs.Counts.{depth_of}
use Rattle.wa_types.specs.Modules.{defined_at}
use Rattle.wa_types.specs.declared.values.Trap.TheVariants.{StackExhausted}
use Rattle.wa_types.specs.Syntax.{basic, memory_grow, Code, done, plain, branch, Func, Module}
use Rattle.wa_types.specs.View.{code, in_front}
use Rattle.wa_types.specs.Typing.{type_of}
use Rattle.wa_model.specs.Store.{choose, Store, Did, works, fails, lacks, act}
use Rattle.wa_model.specs.Configuration.{Configuration, running, waiting, block_label}
use Rattle.wa_model.specs.Configuration as C
use Rattle.wa_model.specs.Step.{Next, steps, traps, leave, did, entered, invoke, arity_of, memory_max, step_at}
use Rattle.run_theory.specs.Heights.{most_operands}
use Rattle.run_theory.specs.Growth.{Each}
use Rattle.run_theory.specs.Fitting.{types_of, Fits, NextFits}
use Rattle.run_theory.proofs.FittingSteps.{heights_within}
use Rattle.interp_state.specs.declared.activation.Activation.{Activation}
use Rattle.interp_state.specs.declared.activation.Stack.{Stack}
use Rattle.interp_state.specs.declared.activation.Waiting.{Waiting}
use Rattle.interp_state.specs.Rooms.{room_of}
use Rattle.interp.specs.StackRooms.{HasRoom, Reserves, Roomier, StackRoom, TakesMemory, paid_for}
use Rattle.interp.specs.Stacks.{leave_of, code_of}
use Rattle.interp_state.specs.View.{label_of, waiting_of}
use Rattle.interp_state.proofs.OperandLemmas.{top_first}
use Rattle.interp.proofs.ReduceLemmas.{with_operands}

abbrev pub WaitsRoom : Module → Waiting → Type 0
WaitsRoom m w = HasRoom m w.activation

-- another activation of the same function with no less room
pub same_room : (m : Module) (a b : Activation) → b.func ≡ a.func → vec_capacity a.operands ≤ vec_capacity b.operands → vec_capacity a.labels ≤ vec_capacity b.labels → HasRoom m a → HasRoom m b
same_room m a b e eo el h =
    record {
      operands = λ f d. let w : most_operands m f.body 0 ≤ vec_capacity a.operands = h.operands f (ap (defined_at m) (sym e) ∙ d) in omega arith;
      labels = λ f d. let w : depth_of f.body ≤ vec_capacity a.labels = h.labels f (ap (defined_at m) (sym e) ∙ d) in omega arith;
    }

pub roomier : (m : Module) (k k' : Stack) → Roomier k k' → StackRoom m k → StackRoom m k'
roomier m k k' r h =
    record {
      here = same_room m k.here k'.here r.func r.operands r.labels h.here;
      under = subst (λ (u : Vec Waiting _). Each (WaitsRoom m) u.items) (sym r.under) h.under;
    }

pub each_more : {A : Type 0} (P : A → Type 0) (xs : List A) (x : A) → Each P xs → P x → Each P (xs ++ x ∷ [])
each_more P [] x h p = (p, tt)
each_more P (y ∷ xs) x h p = (h.0, each_more P xs x h.1 p)

pub each_last : {A : Type 0} (P : A → Type 0) (xs : List A) (x : A) → Each P (xs ++ x ∷ []) → Each P xs × P x
each_last P [] x h = (tt, h.0)
each_last P (y ∷ xs) x h = let t = each_last P xs x h.1 in ((h.0, t.0), t.1)

-- an activation that fits has no more operands and labels than its function reserves
pub operands_within : (m : Module) (outs : List ValType) (next : Next) (k : ℕ) (d : Configuration) (cap : ℕ) → next ≡ steps k d → NextFits m outs next
    → ((f : Func) → defined_at m d.here.func ≡ Some f → most_operands m f.body 0 ≤ cap) → length d.here.operands ≤ cap
operands_within m outs next k d cap e h room =
    let fits : Fits m outs d = subst (NextFits m outs) e h in
    let w = heights_within m d.here (types_of d.here.operands) fits.here in
    let top = room w.func w.func_is in
    let n = length-map d.here.operands type_of in
    let o = w.operands in
    omega arith

pub labels_within : (m : Module) (outs : List ValType) (next : Next) (k : ℕ) (d : Configuration) (cap : ℕ) → next ≡ steps k d → NextFits m outs next
    → ((f : Func) → defined_at m d.here.func ≡ Some f → depth_of f.body ≤ cap) → length d.here.labels ≤ cap
labels_within m outs next k d cap e h room =
    let fits : Fits m outs d = subst (NextFits m outs) e h in
    let w = heights_within m d.here (types_of d.here.operands) fits.here in
    let top = room w.func w.func_is in
    let l = w.labels in
    omega arith

-- ---- that room was lacking is refuted by what comes next, which fits

pub err_any : {T E : Type 0} (r : Result T E) (P : E → Type 0) → ((e : E) → P e) → IfErr r P
err_any (Ok x) P f = tt
err_any (Err e) P f = f e

pub ok_any : {T E : Type 0} (r : Result T E) (P : Type 0) → P → OnOk r P
ok_any (Ok x) P p = p
ok_any (Err e) P p = tt

pub never_err : {T E : Type 0} (r : Result T E) (P : E → Type 0) → IsOk r → IfErr r P
never_err (Ok x) P h = tt
never_err (Err e) P h = cc

-- more operands than there were
pub operands_lacked : (m : Module) (outs : List ValType) (k : Stack) (next : Next) (n : ℕ) (s : Store) (under : List C.Activation) (ls : List Value) (v : Value) (c : Code) (labels : List C.Label)
    → next ≡ steps n (running s k.here.func under ls (v ∷ reverse k.here.operands.items) c labels) → vec_capacity k.here.operands ≤ vec_len k.here.operands → StackRoom m k → NextFits m outs next → ⊥
operands_lacked m outs k next n s under ls v c labels e full h fits =
    let w = operands_within m outs next n (running s k.here.func under ls (v ∷ reverse k.here.operands.items) c labels) (vec_capacity k.here.operands) e fits h.here.operands in
    let size = k.here.operands.ok.0 in
    let len = length-reverse k.here.operands.items in
    omega arith

-- more labels
pub labels_lacked : (m : Module) (outs : List ValType) (k : Stack) (next : Next) (n : ℕ) (s : Store) (under : List C.Activation) (ls ops : List Value) (c : Code) (l : C.Label)
    → next ≡ steps n (running s k.here.func under ls ops c (l ∷ map label_of (reverse k.here.labels.items))) → vec_capacity k.here.labels ≤ vec_len k.here.labels → StackRoom m k
    → NextFits m outs next → ⊥
labels_lacked m outs k next n s under ls ops c l e full h fits =
    let w = labels_within m outs next n (running s k.here.func under ls ops c (l ∷ map label_of (reverse k.here.labels.items))) (vec_capacity k.here.labels) e fits h.here.labels in
    let size = k.here.labels.ok.0 in
    let len = length-reverse k.here.labels.items in
    let len' = length-map (reverse k.here.labels.items) label_of in
    omega arith

pub arm_lacked : (m : Module) (outs : List ValType) (k : Stack) (s : Store) (r : Option ValType) (a b : Code) → vec_capacity k.here.labels ≤ vec_len k.here.labels → StackRoom m k
    → NextFits m outs (code_of m s k (branch r a b (code k.here.code.now))) → ⊥
arm_lacked m outs k s r a b full h fits = by_top (reverse k.here.operands.items) fits
  where
    rest : Code
    rest = code k.here.code.now

    labels : List C.Label
    labels = map label_of (reverse k.here.labels.items)

    under : List C.Activation
    under = map waiting_of (reverse k.under.items)

    by_top : (ops : List Value) → NextFits m outs (step_at m s k.here.func under k.here.locals.items ops labels (branch r a b rest)) → ⊥
    by_top [] f = f
    by_top (V.I64 n ∷ ops) f = f
    by_top (V.I32 zero ∷ ops) f = labels_lacked m outs k _ 0 s under k.here.locals.items ops b (block_label (length ops) (arity_of r) rest done) refl full h f
    by_top (V.I32 (suc n) ∷ ops) f = labels_lacked m outs k _ 0 s under k.here.locals.items ops a (block_label (length ops) (arity_of r) rest b) refl full h f

-- the caller has no room for the results
pub leave_lacked : (m : Module) (outs : List ValType) (k : Stack) (s : Store) (more arity : ℕ) (caller : Waiting) (rest : List Waiting) (from to : Activation)
    → k.under.items ≡ rest ++ caller ∷ [] → from ≡ k.here → to ≡ caller.activation → vec_capacity to.operands < length
    (take arity (reverse from.operands.items) ++ drop caller.taken (reverse to.operands.items))
    → StackRoom m k → NextFits m outs (leave_of s more k arity) → ⊥
leave_lacked m outs k s more arity caller rest from to e ef et lack h fits =
    let t = each_last (WaitsRoom m) rest caller (subst (Each (WaitsRoom m)) e h.under) in
    let a = caller.activation in
    let ops = take arity (reverse k.here.operands.items) ++ drop caller.taken (reverse a.operands.items) in
    let path : leave_of s more k arity ≡ leave more s (reverse k.here.operands.items) arity (waiting_of caller ∷ map waiting_of (reverse rest)) =
    ap (λ u. leave more s (reverse k.here.operands.items) arity (map waiting_of u)) (top_first k.under.items rest caller e) in
    let w = operands_within m outs (leave_of s more k arity) more (running s a.func (map waiting_of (reverse rest)) a.locals.items ops (code a.code.now)
    (map label_of (reverse a.labels.items))) (vec_capacity a.operands) path fits t.1.operands in
    let lack' : vec_capacity a.operands < length ops =
    subst (λ (x : Activation). vec_capacity x.operands < length (take arity (reverse k.here.operands.items) ++ drop caller.taken (reverse x.operands.items))) et
    (subst (λ (x : Activation). vec_capacity to.operands < length (take arity (reverse x.operands.items) ++ drop caller.taken (reverse to.operands.items))) ef lack) in
    omega arith

-- the stack behind it
pub leave_holds : (m : Module) (k : Stack) (caller : Waiting) (rest : List Waiting) (k' : Stack) (to : Activation)
    → k.under.items ≡ rest ++ caller ∷ [] → to ≡ caller.activation → k'.under.items ≡ rest → k'.here.func ≡ to.func → vec_capacity to.operands ≤ vec_capacity k'.here.operands
    → vec_capacity to.labels ≤ vec_capacity k'.here.labels → StackRoom m k → StackRoom m k'
leave_holds m k caller rest k' to e et eu ef eo el h =
    let t = each_last (WaitsRoom m) rest caller (subst (Each (WaitsRoom m)) e h.under) in
    record { here = same_room m to k'.here ef eo el (subst (HasRoom m) (sym et) t.1); under = subst (Each (WaitsRoom m)) (sym eu) t.0 }

pub choose_first : {A : Type 0} (n : ℕ) (a b : A) → (n ≡ 0 → ⊥) → choose n a b ≡ a
choose_first zero a b h = absurd (h refl)
choose_first (suc n) a b h = refl

-- it takes memory before anything is paid for it
abbrev pub TakesUnpaid : Module → Store → Stack → Code → Type 0
TakesUnpaid m s k c = TakesMemory c × (paid_for (code_of m s k c) ≡ 0)

did_unpaid : (cost fn : ℕ) (under : List C.Activation) (ls : List Value) (labels : List C.Label) (rest : Code) (s : Store) (below : List Value) (d : Did)
    → paid_for (did cost fn under ls labels rest s below d) ≡ 0
did_unpaid cost fn under ls labels rest s below (works s' results) = refl
did_unpaid cost fn under ls labels rest s below (fails trap) = refl
did_unpaid cost fn under ls labels rest s below lacks = refl

pub grow_unpaid : (m : Module) (s : Store) (k : Stack) → TakesUnpaid m s k (plain (basic memory_grow) (code k.here.code.now))
grow_unpaid m s k =
    let ops = reverse k.here.operands.items in (
      tt,
      did_unpaid 0 k.here.func (map waiting_of (reverse k.under.items)) k.here.locals.items (map label_of (reverse k.here.labels.items)) (code k.here.code.now) s (drop 1 ops)
          (act (memory_max m) memory_grow s (take 1 ops)),
    )

-- a call of a defined function
pub call_unpaid : (m : Module) (s : Store) (fn : ℕ) (under : List C.Activation) (ls own ops : List Value) (rest : Code) (labels : List C.Label) (params x : ℕ) (f : Func)
    → defined_at m x ≡ Some f → paid_for (invoke m s fn under ls own ops rest labels params x (defined_at m x)) ≡ 0
call_unpaid m s fn under ls own ops rest labels params x f e =
    ap (λ o. paid_for (invoke m s fn under ls own ops rest labels params x o)) e ∙ by_room (nat_lt (length under + 1) 4096)
  where
    by_room : (b : Bool) → paid_for (if b then steps params (entered s (waiting fn ls (drop params ops) (own ++ take params ops) rest labels ∷ under) (reverse (take params ops)) x f)
        else traps params StackExhausted s) ≡ 0
    by_room true = refl
    by_room false = refl

-- an instruction whose code is known, and of which this is refuted
pub refuted_arm : (m : Module) (outs : List ValType) (s : Store) (k : Stack) (x x' : Instr) (d : Code) → x ≡ x' → in_front x' (code k.here.code.now) ≡ d → (NextFits m outs (code_of m s k d) → ⊥)
    → NextFits m outs (code_of m s k (in_front x (code k.here.code.now))) → TakesUnpaid m s k (in_front x (code k.here.code.now))
refuted_arm m outs s k x x' d ex ed f fits =
    absurd (f (subst (λ a. NextFits m outs (code_of m s k a)) (ap (λ i. in_front i (code k.here.code.now)) ex ∙ ed) fits))

-- one that takes memory
pub taking_arm : (m : Module) (s : Store) (k : Stack) (x x' : Instr) (d : Code) → x ≡ x' → in_front x' (code k.here.code.now) ≡ d → TakesUnpaid m s k d
    → TakesUnpaid m s k (in_front x (code k.here.code.now))
taking_arm m s k x x' d ex ed h = subst (TakesUnpaid m s k) (sym (ap (λ i. in_front i (code k.here.code.now)) ex ∙ ed)) h

-- other operands with no less room
pub operands_hold : (m : Module) (k : Stack) (v : Vec Value Global) → vec_capacity k.here.operands ≤ vec_capacity v → StackRoom m k → StackRoom m (with_operands k v)
operands_hold m k v e = roomier m k (with_operands k v) (record { func = refl; operands = e; labels = omega arith; under = refl })

-- an activation that has just been entered, and a stack of it alone
pub entered_room : (m : Module) (a : Activation) (x : ℕ) (f : Func) → a.func ≡ x → defined_at m x ≡ Some f → Reserves a (room_of m f) → HasRoom m a
entered_room m a x f ea ef r =
    record {
      operands = λ g d. let e : g ≡ f = is_it g d in subst (λ (h : Func). most_operands m h.body 0 ≤ vec_capacity a.operands) (sym e) (let o = r.operands in omega arith);
      labels = λ g d. let e : g ≡ f = is_it g d in subst (λ (h : Func). depth_of h.body ≤ vec_capacity a.labels) (sym e) (let l = r.labels in omega arith);
    }
  where
    is_it : (g : Func) → defined_at m a.func ≡ Some g → g ≡ f
    is_it g d = let w : Some g ≡ Some f = sym d ∙ ap (defined_at m) ea ∙ ef in cc

pub alone_room : (m : Module) (k : Stack) → HasRoom m k.here → k.under.items ≡ [] → StackRoom m k
alone_room m k h e = record { here = h; under = subst (Each (WaitsRoom m)) (sym e) tt }
