-- Code that is spelled holds no more than its bytes.
use Rattle.std.proofs.Common.{◌≡◌, ℕ, zero, suc, ◌+◌, ◌*◌, ◌<◌, ◌≤◌, List, [], ◌∷◌, ◌++◌, length, ap, sym, ◌∙◌, subst, arith, length-append, All, Bool, true, false}
use Rattle.std.proofs.lemmas.List.Elements.{All-head, All-tail}
use Rattle.wa_types.specs.Syntax.{Plain, basic, local_get, local_set, local_tee, br, br_if, br_table, return, unreachable, call, call_indirect, Code, done, plain, nest, branch, FuncType, Module}
use Rattle.wa_types.specs.Binary.{RawCode, ended, otherwise, instr, nested, branched}
use Rattle.wa_types.specs.Spells.{Number, Items, Vector, ImmediatesOf, CodeOf}
use Rattle.wa_types.specs.Reading.{IsCode}
use Rattle.wa_types.specs.Opcodes.{plain_immediates}
use Rattle.wa_types.specs.Sizes.{params_of_type, params_at_index, all_sorts, label_count, call_params, else_count, code_items, code_params, plain_lists, code_lists}

-- the length of what is split
pub length_split : (a b c : List ℕ) → a ≡ b ++ c → length a ≡ length b + length c
length_split a b c e = ap length e ∙ length-append b c

-- a number takes a byte at least
pub number_takes : (n at : ℕ) (a : List ℕ) → Number n at a → 1 ≤ length a
number_takes n at [] h = absurd h
number_takes n at (b ∷ a) h = omega arith

-- items that each take a byte
pub items_take : {X : Type 0} (f : X → ℕ → List ℕ → Type 0) → ((x : X) (at : ℕ) (a : List ℕ) → f x at a → 1 ≤ length a) → (xs : List X) (at : ℕ) (a : List ℕ) → Items f xs at a → length xs ≤ length a
items_take f t [] at a h = omega arith
items_take f t (x ∷ xs) at a h = omega (arith, length_split a h.0 h.1 h.2, t x at h.0 h.3, items_take f t xs (at + length h.0) h.1 h.4)

pub vector_takes : {X : Type 0} (f : X → ℕ → List ℕ → Type 0) → ((x : X) (at : ℕ) (a : List ℕ) → f x at a → 1 ≤ length a) → (xs : List X) (at : ℕ) (a : List ℕ) → Vector f xs at a
    → suc (length xs) ≤ length a
vector_takes f t xs at a h = omega (arith, length_split a h.0 h.1 h.2, number_takes (length xs) at h.0 h.3, items_take f t xs (at + length h.0) h.1 h.4)

-- the labels of an instruction take no more bytes than its operands
labels_take : (p : Plain) (at : ℕ) (a : List ℕ) → ImmediatesOf (plain_immediates p) at a → label_count p ≤ length a
labels_take (br_table targets last) at a h =
    omega (arith, length_split a h.0 h.1 h.2, vector_takes Number number_takes targets at h.0 h.3)
labels_take (basic b) at a h = omega arith
labels_take (local_get x) at a h = omega arith
labels_take (local_set x) at a h = omega arith
labels_take (local_tee x) at a h = omega arith
labels_take (br x) at a h = omega arith
labels_take (br_if x) at a h = omega arith
labels_take return at a h = omega arith
labels_take unreachable at a h = omega arith
labels_take (call x) at a h = omega arith
labels_take (call_indirect x) at a h = omega arith

lists_take : (p : Plain) (lists n : ℕ) → label_count p ≤ n → n < lists → plain_lists lists p
lists_take (br_table targets last) lists n h l = omega (arith, h, l)
lists_take (basic b) lists n h l = tt
lists_take (local_get x) lists n h l = tt
lists_take (local_set x) lists n h l = tt
lists_take (local_tee x) lists n h l = tt
lists_take (br x) lists n h l = tt
lists_take (br_if x) lists n h l = tt
lists_take return lists n h l = tt
lists_take unreachable lists n h l = tt
lists_take (call x) lists n h l = tt
lists_take (call_indirect x) lists n h l = tt

-- types of few parameters
abbrev pub HaveFewParams : List FuncType → Type 0
HaveFewParams ts = All (λ (t : FuncType). length t.params ≤ 1000) ts

abbrev FewParams : FuncType → Type 0
FewParams t = length t.params ≤ 1000

few_of_type : (ts : List FuncType) (sort : ℕ) → HaveFewParams ts → params_of_type ts sort ≤ 1000
few_of_type [] sort h = omega arith
few_of_type (t ∷ ts) zero h = All-head FewParams t ts h
few_of_type (t ∷ ts) (suc sort) h = few_of_type ts sort (All-tail FewParams t ts h)

few_at_index : (ts : List FuncType) (sorts : List ℕ) (x : ℕ) → HaveFewParams ts → params_at_index ts sorts x ≤ 1000
few_at_index ts [] x h = omega arith
few_at_index ts (sort ∷ sorts) zero h = few_of_type ts sort h
few_at_index ts (sort ∷ sorts) (suc x) h = few_at_index ts sorts x h

few_of_call : (m : Module) (p : Plain) → HaveFewParams m.types → call_params m p ≤ 1000
few_of_call m (call x) h = few_at_index m.types (all_sorts m) x h
few_of_call m (call_indirect x) h = few_of_type m.types x h
few_of_call m (basic b) h = omega arith
few_of_call m (local_get x) h = omega arith
few_of_call m (local_set x) h = omega arith
few_of_call m (local_tee x) h = omega arith
few_of_call m (br x) h = omega arith
few_of_call m (br_if x) h = omega arith
few_of_call m (br_table ls l) h = omega arith
few_of_call m return h = omega arith
few_of_call m unreachable h = omega arith

-- What code and the arm behind it hold, where they are spelled in so many bytes.
pub record Holds (m : Module) (lists : ℕ) (c e : Code) (n : ℕ) : Type 0 where
  pub items : code_items c + 1 + else_count e + code_items e ≤ n
  pub params : code_params m c + code_params m e ≤ 1000 * n
  pub labels : code_lists lists c
  pub arm_labels : code_lists lists e

else_few : (c : Code) → else_count c ≤ 1
else_few done = omega arith
else_few (plain p rest) = omega arith
else_few (nest s r b rest) = omega arith
else_few (branch r a b rest) = omega arith

code_holds : (m : Module) (lists : ℕ) → HaveFewParams m.types → (x : RawCode) (c e : Code) (first_arm : Bool) (at : ℕ) (a : List ℕ) → CodeOf first_arm x at a → IsCode x c e
    → length a < lists → Holds m lists c e (length a)
unfolding code_items code_params
code_holds m lists f (ended k) done e first_arm at a h i l =
    subst (λ z. Holds m lists done z (length a)) (sym i)
    (let n : length a ≡ 1 = ap length h.1 in record { items = omega (arith, n); params = omega arith; labels = tt; arm_labels = tt })
code_holds m lists f (ended k) (plain p r) e first_arm at a h i l = absurd i
code_holds m lists f (ended k) (nest s r y z) e first_arm at a h i l = absurd i
code_holds m lists f (ended k) (branch r y z w) e first_arm at a h i l = absurd i
code_holds m lists f (otherwise k x) done e first_arm at a h i l =
    let t = h.1 in
    let n = length_split a t.0 t.1 t.2 in
    let one : length t.0 ≡ 1 = ap length t.3.1 in
    let v = code_holds m lists f x e done false (at + length t.0) t.1 t.4 i (omega (arith, n, l)) in
    record { items = omega (arith, n, one, v.items, else_few e); params = omega (arith, n, v.params); labels = tt; arm_labels = v.labels }
code_holds m lists f (otherwise k x) (plain p r) e first_arm at a h i l = absurd i
code_holds m lists f (otherwise k x) (nest s r y z) e first_arm at a h i l = absurd i
code_holds m lists f (otherwise k x) (branch r y z w) e first_arm at a h i l = absurd i
code_holds m lists f (instr op o x) (plain p c) e first_arm at a h i l =
    let t = h.1 in
    let u = t.4 in
    let n = length_split a t.0 t.1 t.2 in
    let one : length t.0 ≡ 1 = ap length t.3.1 in
    let n2 = length_split t.1 u.0 u.1 u.2 in
    let labels = labels_take p (at + length t.0) u.0 (subst (λ z. ImmediatesOf z (at + length t.0) u.0) i.0.follows u.3) in
    let v = code_holds m lists f x c e first_arm (at + length t.0 + length u.0) u.1 u.4 i.1 (omega (arith, n, n2, l)) in
    record {
      items = omega (arith, n, one, n2, labels, v.items);
      params = omega (arith, n, one, n2, few_of_call m p f, v.params);
      labels = (lists_take p lists (length u.0) labels (omega (arith, n, n2, l)), v.labels);
      arm_labels = v.arm_labels;
    }
code_holds m lists f (instr op o x) done e first_arm at a h i l = absurd i
code_holds m lists f (instr op o x) (nest s r y z) e first_arm at a h i l = absurd i
code_holds m lists f (instr op o x) (branch r y z w) e first_arm at a h i l = absurd i
code_holds m lists f (nested op t x y) (nest s r c d) e first_arm at a h i l =
    let p = h.1 in
    let g = p.4 in
    let j = g.4 in
    let n1 = length_split a p.0 p.1 p.2 in
    let one1 : length p.0 ≡ 1 = ap length p.3.1 in
    let n2 = length_split p.1 g.0 g.1 g.2 in
    let one2 : length g.0 ≡ 1 = ap length g.3.1.1 in
    let n3 = length_split g.1 j.0 j.1 j.2 in
    let v = code_holds m lists f x c done false (at + length p.0 + length g.0) j.0 j.3 i.2 (omega (arith, n1, n2, n3, l)) in
    let w = code_holds m lists f y d e first_arm (at + length p.0 + length g.0 + length j.0) j.1 j.4 i.3 (omega (arith, n1, n2, n3, l)) in
    record {
      items = omega (arith, n1, one1, n2, one2, n3, v.items, w.items);
      params = omega (arith, n1, n2, n3, v.params, w.params);
      labels = (v.labels, w.labels);
      arm_labels = w.arm_labels;
    }
code_holds m lists f (nested op t x y) done e first_arm at a h i l = absurd i
code_holds m lists f (nested op t x y) (plain p r) e first_arm at a h i l = absurd i
code_holds m lists f (nested op t x y) (branch r c d z) e first_arm at a h i l = absurd i
code_holds m lists f (branched op t x y) (branch r c d z) e first_arm at a h i l =
    let p = h.1 in
    let g = p.4 in
    let j = g.4 in
    let n1 = length_split a p.0 p.1 p.2 in
    let one1 : length p.0 ≡ 1 = ap length p.3.1 in
    let n2 = length_split p.1 g.0 g.1 g.2 in
    let one2 : length g.0 ≡ 1 = ap length g.3.1.1 in
    let n3 = length_split g.1 j.0 j.1 j.2 in
    let v = code_holds m lists f x c d true (at + length p.0 + length g.0) j.0 j.3 i.1 (omega (arith, n1, n2, n3, l)) in
    let w = code_holds m lists f y z e first_arm (at + length p.0 + length g.0 + length j.0) j.1 j.4 i.2 (omega (arith, n1, n2, n3, l)) in
    record {
      items = omega (arith, n1, one1, n2, one2, n3, v.items, w.items);
      params = omega (arith, n1, n2, n3, v.params, w.params);
      labels = (v.labels, v.arm_labels, w.labels);
      arm_labels = w.arm_labels;
    }
code_holds m lists f (branched op t x y) done e first_arm at a h i l = absurd i
code_holds m lists f (branched op t x y) (plain p r) e first_arm at a h i l = absurd i
code_holds m lists f (branched op t x y) (nest s r c z) e first_arm at a h i l = absurd i

-- an expression that is spelled in so many bytes
pub expression_holds : (m : Module) (lists : ℕ) → HaveFewParams m.types → (x : RawCode) (c : Code) (at : ℕ) (a : List ℕ) → CodeOf false x at a → IsCode x c done → length a < lists
    → Holds m lists c done (length a)
expression_holds m lists f x c at a h i l = code_holds m lists f x c done false at a h i l
