-- A body that is being copied, step by step.
use Rattle.std.proofs.Common.{◌≡◌, ◌≤◌, ◌<◌, ℕ, ◌+◌, ◌*◌, List, [], ◌∷◌, ◌++◌, refl, ap, sym, ◌∙◌, subst, Option, Bor, length, arith}
use Rattle.std.specs.declared.vec.Vec.{Vec}
use Rattle.std.specs.declared.alloc.Global.{Global}
use Rattle.wa_types.specs.declared.values.ValType.{ValType}
use Rattle.wa_types.specs.declared.instrs.Instr.{Instr}
use Rattle.wa_types.specs.declared.instrs.Instr.TheVariants.{Block as BlockInstr, Loop as LoopInstr, If as IfInstr}
use Rattle.wa_types.specs.Counts.{count_of}
use Rattle.wa_types.specs.Syntax.{a_block, a_loop, Code, nest, branch}
use Rattle.wa_types.specs.View.{code, onto, in_front}
use Rattle.wa_types.proofs.DropLemmas.{count_front as front_counts, count_some}
use Rattle.wa_types.proofs.ViewLemmas.{in_block, in_loop, in_if, onto_append, onto_none, onto_done, code_none}
use Rattle.wa_types.specs.declared.levels.Opened.{Opened}
use Rattle.wa_types.specs.declared.levels.Opened.TheVariants.{Block, Loop, Then, Else}
use Rattle.wa_types.specs.declared.levels.Level.{Level}
use Rattle.wa_types.specs.declared.levels.Copying.{Copying}
use Rattle.wa_types.specs.Levels.{enclosed, closed, owed, to_close, IsEntered, GoesOn}

-- the innermost construct
pub enclosed_none : (c : Code) → enclosed [] c ≡ c
unfolding enclosed
enclosed_none c = refl

pub enclosed_last : (ls : List Level) (l : Level) (c : Code) → enclosed (ls ++ l ∷ []) c ≡ enclosed ls (onto l.before.items (closed l.opened l.ty c (code l.behind.now)))
unfolding enclosed
enclosed_last [] l c = refl
enclosed_last (k ∷ ks) l c = ap (λ b. onto k.before.items (closed k.opened k.ty b (code k.behind.now))) (enclosed_last ks l c)

owed_last : (ls : List Level) (l : Level) → owed (ls ++ l ∷ []) ≡ owed ls + (to_close l.opened + 3 * count_of (code l.behind.now))
unfolding owed
owed_last [] l = omega arith
owed_last (k ∷ ks) l = omega (arith, owed_last ks l)

-- each construct owes something
owes_some : (o : Opened) → 1 ≤ to_close o
owes_some Block = omega arith
owes_some Loop = omega arith
owes_some (Then arm) = omega arith
owes_some (Else arm) = omega arith

-- an instruction counts
count_front : (x : Instr) (rest : Code) → 1 + count_of rest ≤ count_of (in_front x rest)
count_front x rest = omega (arith, front_counts x rest, count_some x)

-- a construct is opened: it stands behind these, as this code, and its size pays for what is owed for it
pub entering : (ls : List Level) (l : Level) (body : List Instr) (c : Code) (n : ℕ) (new : Copying) → IsEntered ls l body new → closed l.opened l.ty (code body) (code l.behind.now) ≡ c
    → to_close l.opened + 3 * count_of (code l.behind.now) + 3 * count_of (code body) < n → GoesOn (enclosed ls (onto l.before.items c)) (owed ls + n) new
entering ls l body c n new e is less = record {
  same =
      ap (λ k. enclosed k (onto new.made.items (code new.left.now))) e.opens ∙ enclosed_last ls l (onto new.made.items (code new.left.now))
      ∙ ap (λ b. enclosed ls (onto l.before.items (closed l.opened l.ty b (code l.behind.now)))) (ap (λ s. onto s (code new.left.now)) e.none_made ∙ onto_none _ ∙ ap code e.comes)
      ∙ ap (λ b. enclosed ls (onto l.before.items b)) is;
  less =
      let owes : owed new.levels.items ≡ owed ls + (to_close l.opened + 3 * count_of (code l.behind.now)) = ap owed e.opens ∙ owed_last ls l in
      let comes : count_of (code new.left.now) ≡ count_of (code body) = ap (λ b. count_of (code b)) e.comes in
      omega (arith, owes, comes, less);
}

-- an instruction that holds no other is put
pub putting : (old new : Copying) (x : Instr) → new.levels ≡ old.levels → new.left ≡ old.left → ((rest : Code) → onto new.made.items rest ≡ onto old.made.items (in_front x rest))
    → GoesOn (enclosed old.levels.items (onto old.made.items (in_front x (code old.left.now)))) (owed old.levels.items + 3 * count_of (in_front x (code old.left.now))) new
putting old new x levels left made = record {
  same = (λ j. enclosed (levels j).items (onto new.made.items (code (left j).now))) ∙ ap (enclosed old.levels.items) (made _);
  less =
      let owes : owed new.levels.items ≡ owed old.levels.items = ap (λ v. owed v.items) levels in
      let stays : count_of (code new.left.now) ≡ count_of (code old.left.now) = ap (λ s. count_of (code s.now)) left in
      omega (arith, owes, stays, count_front x (code old.left.now));
}

-- a construct is put, whose body is made
pub closing : (ls : List Level) (l : Level) (y : Instr) (c : Code) (new : Copying) → new.levels.items ≡ ls → new.made.items ≡ l.before.items ++ y ∷ [] → new.left ≡ l.behind
    → in_front y (code l.behind.now) ≡ c → GoesOn (enclosed ls (onto l.before.items c)) (owed (ls ++ l ∷ [])) new
closing ls l y c new levels made left is = record {
  same =
      (λ j. enclosed (levels j) (onto (made j) (code (left j).now))) ∙ ap (enclosed ls) (onto_append l.before.items y (code l.behind.now)) ∙ ap (λ b. enclosed ls (onto l.before.items b)) is;
  less =
      let owes : owed new.levels.items ≡ owed ls = ap owed levels in
      let stays : count_of (code new.left.now) ≡ count_of (code l.behind.now) = ap (λ s. count_of (code s.now)) left in
      omega (arith, owes, stays, owed_last ls l, owes_some l.opened);
}

-- a block, a loop or an if is opened
pub opening_block : (old new : Copying) (x : Instr) (r : Option ValType) (v : Vec Instr Global) (body : List Instr) → x ≡ BlockInstr r v → body ≡ v.items
    → IsEntered old.levels.items (record { before = old.made; ty = r; opened = Block; behind = old.left }) body new
    → GoesOn (enclosed old.levels.items (onto old.made.items (in_front x (code old.left.now)))) (owed old.levels.items + 3 * count_of (in_front x (code old.left.now))) new
unfolding count_of
opening_block old new x r v body is b e =
    let same : in_front x (code old.left.now) ≡ nest a_block r (code body) (code old.left.now) =
    ap (λ y. in_front y (code old.left.now)) is ∙ in_block r v (code old.left.now) ∙ ap (λ s. nest a_block r (code s) (code old.left.now)) (sym b) in
    let counts : count_of (in_front x (code old.left.now)) ≡ 1 + count_of (code body) + count_of (code old.left.now) = ap count_of same in
    entering old.levels.items (record { before = old.made; ty = r; opened = Block; behind = old.left }) body (in_front x (code old.left.now)) _ new e (sym same) (omega (arith, counts))

pub opening_loop : (old new : Copying) (x : Instr) (r : Option ValType) (v : Vec Instr Global) (body : List Instr) → x ≡ LoopInstr r v → body ≡ v.items
    → IsEntered old.levels.items (record { before = old.made; ty = r; opened = Loop; behind = old.left }) body new
    → GoesOn (enclosed old.levels.items (onto old.made.items (in_front x (code old.left.now)))) (owed old.levels.items + 3 * count_of (in_front x (code old.left.now))) new
unfolding count_of
opening_loop old new x r v body is b e =
    let same : in_front x (code old.left.now) ≡ nest a_loop r (code body) (code old.left.now) =
    ap (λ y. in_front y (code old.left.now)) is ∙ in_loop r v (code old.left.now) ∙ ap (λ s. nest a_loop r (code s) (code old.left.now)) (sym b) in
    let counts : count_of (in_front x (code old.left.now)) ≡ 1 + count_of (code body) + count_of (code old.left.now) = ap count_of same in
    entering old.levels.items (record { before = old.made; ty = r; opened = Loop; behind = old.left }) body (in_front x (code old.left.now)) _ new e (sym same) (omega (arith, counts))

pub opening_if : (old new : Copying) (x : Instr) (r : Option ValType) (v w : Vec Instr Global) (body : List Instr) (other : Bor (List Instr)) → x ≡ IfInstr r v w → body ≡ v.items → other.now ≡ w.items
    → IsEntered old.levels.items (record { before = old.made; ty = r; opened = Then other; behind = old.left }) body new
    → GoesOn (enclosed old.levels.items (onto old.made.items (in_front x (code old.left.now)))) (owed old.levels.items + 3 * count_of (in_front x (code old.left.now))) new
unfolding count_of
opening_if old new x r v w body other is b o e =
    let same : in_front x (code old.left.now) ≡ branch r (code body) (code other.now) (code old.left.now) =
    ap (λ y. in_front y (code old.left.now)) is ∙ in_if r v w (code old.left.now) ∙ (λ j. branch r (code (sym b j)) (code (sym o j)) (code old.left.now)) in
    let counts : count_of (in_front x (code old.left.now)) ≡ 1 + count_of (code body) + count_of (code other.now) + count_of (code old.left.now) = ap count_of same in
    entering old.levels.items (record { before = old.made; ty = r; opened = Then other; behind = old.left }) body (in_front x (code old.left.now)) _ new e (sym same) (omega (arith, counts))

-- the first arm of an if is made, and its second one comes
pub turning : (ls : List Level) (level : Level) (before inner made : Vec Instr Global) (arm : Bor (List Instr)) (new : Copying) → before ≡ level.before → inner ≡ made → level.opened ≡ Then arm
    → IsEntered ls (record { before = before; ty = level.ty; opened = Else inner; behind = level.behind }) arm.now new
    → GoesOn (enclosed ls (onto level.before.items (closed level.opened level.ty (code made.items) (code level.behind.now)))) (owed (ls ++ level ∷ [])) new
turning ls level before inner made arm new b m is e =
    let rest : Code = code level.behind.now in
    let opens : branch level.ty (code inner.items) (code arm.now) rest ≡ closed level.opened level.ty (code made.items) rest =
    ap (λ (v : Vec Instr Global). branch level.ty (code v.items) (code arm.now) rest) m ∙ ap (λ o. closed o level.ty (code made.items) rest) (sym is) in
    let pays : to_close level.opened ≡ 3 * count_of (code arm.now) + 2 = ap to_close is in
    let goes : GoesOn (enclosed ls (onto before.items (closed level.opened level.ty (code made.items) rest))) (owed ls + (to_close level.opened + 3 * count_of rest)) new =
    entering ls (record { before = before; ty = level.ty; opened = Else inner; behind = level.behind }) arm.now
    (closed level.opened level.ty (code made.items) rest) (to_close level.opened + 3 * count_of rest) new e
    opens (omega (arith, pays)) in
    subst (λ n. GoesOn (enclosed ls (onto level.before.items (closed level.opened level.ty (code made.items) rest))) n new) (sym (owed_last ls level))
    (subst (λ (v : Vec Instr Global). GoesOn (enclosed ls (onto v.items (closed level.opened level.ty (code made.items) rest))) (owed ls + (to_close level.opened + 3 * count_of rest)) new) b goes)

-- what is made is what the innermost construct stands for
pub closed_last : (ls rest : List Level) (level : Level) (made : List Instr) (left : List Instr) → ls ≡ rest ++ level ∷ [] → left ≡ []
    → enclosed rest (onto level.before.items (closed level.opened level.ty (code made) (code level.behind.now))) ≡ enclosed ls (onto made (code left))
closed_last ls rest level made left e none =
    sym (enclosed_last rest level (code made)) ∙ ap (λ k. enclosed k (code made)) (sym e)
    ∙ ap (enclosed ls) (sym (onto_done made) ∙ ap (onto made) (sym code_none) ∙ ap (λ s. onto made (code s)) (sym none))

-- no construct is open
pub no_level : (levels : List Level) (n : ℕ) → n ≡ length levels → n ≡ 0 → levels ≡ []
no_level [] n e f = refl
no_level (l ∷ levels) n e f = absurd (omega (arith, e, f))

-- the first instruction of a body
pub code_first : (xs : List Instr) (x : Instr) (is : List Instr) → xs ≡ x ∷ is → code xs ≡ in_front x (code is)
unfolding code onto
code_first xs x is e = ap code e

-- at the beginning nothing is open and nothing is made, and at the end all is made
pub begins : (body made : List Instr) (levels : List Level) → levels ≡ [] → made ≡ [] → enclosed levels (onto made (code body)) ≡ code body
begins body made levels e f = (λ j. enclosed (e j) (onto (f j) (code body))) ∙ enclosed_none (onto [] (code body)) ∙ onto_none (code body)

pub ends : (made left : List Instr) (levels : List Level) → levels ≡ [] → left ≡ [] → code made ≡ enclosed levels (onto made (code left))
ends made left levels e f =
    sym ((λ j. enclosed (e j) (onto made (code (f j)))) ∙ enclosed_none (onto made (code [])) ∙ ap (onto made) code_none ∙ onto_done made)

-- nothing is left
pub none_left : (xs : List Instr) → length xs ≡ 0 → xs ≡ []
none_left [] e = refl
none_left (x ∷ xs) e = absurd (omega (arith, e))
