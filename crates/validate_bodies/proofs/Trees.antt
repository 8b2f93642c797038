-- What the validator computes of the code of a list of instructions.
use Rattle.std.proofs.Common.{arith, ◌≡◌, ℕ, suc, ◌+◌, ◌<◌, ◌≤◌, List, [], ◌∷◌, ◌++◌, length, drop, reverse, get_or, Option, Some, None, Bool, true, false, if◌then◌else◌, refl, ap, sym, ◌∙◌, subst, Result, Ok, Err, IsErrAnd}
use Rattle.std.proofs.lemmas.List.{reverse-append}
use Rattle.std.specs.declared.vec.Vec.{Vec}
use Rattle.std.specs.declared.alloc.Global.{Global}
use Rattle.wa_types.specs.declared.rules.Rule.{Rule}
use Rattle.wa_types.specs.declared.rules.Rule.TheVariants.{StackTypes}
use Rattle.wa_types.specs.Rules.{number}
use Rattle.wa_types.specs.declared.values.ValType.{ValType}
use Rattle.wa_types.specs.declared.values.ValType.TheVariants.{I32}
use Rattle.wa_types.specs.declared.instrs.Instr.{Instr}
use Rattle.wa_types.specs.declared.instrs.Instr.TheVariants.{Block, Loop, If}
use Rattle.wa_types.specs.Syntax.{Plain, Shape, a_block, a_loop, Code, done, plain, nest, branch}
use Rattle.wa_types.specs.View.{in_front, code}
use Rattle.wa_types.specs.Typing.{Around, sig, listed, label}
use Rattle.wa_types.specs.FirstFault.{size, mid}
use Rattle.wa_types.proofs.ViewLemmas.{in_block, in_loop, in_if, code_step, code_empty}
use Rattle.validate_bodies.specs.declared.bodies.Flaw.{Flaw}
use Rattle.validate_bodies.specs.declared.bodies.Flaw.TheVariants.{Memory, Breaks}
use Rattle.validate_bodies.specs.declared.table.Asks as D
use Rattle.validate_bodies.specs.Running.{StackAfter, goes, stops, next, Verdict, fine, fault, both, onward, ended, knows, pop1, checks, body_verdict}
use Rattle.validate_bodies.specs.Stack.{Applied, popped}
use Rattle.validate_bodies.specs.Table.{sig_of, plain_of, Says}
use Rattle.validate_bodies.proofs.InstrKinds.{is_block, is_loop, is_branch, is_plain, leaf_kind, size_plain, size_done, size_block, size_loop, size_if, size_step, size_empty}
use Rattle.validate_bodies.specs.Judging.{Judged, Blames}

-- what the validator computes
pub checks_done : (c : Around) (ls : List (Option ValType)) (outs : List ValType) (os : List (Option ValType)) (free : Bool) (k : ℕ)
    → checks c ls done outs os free k ≡ (if ended outs os free then fine else fault (number StackTypes) k)
unfolding checks
checks_done c ls outs os free k = refl

blames_on : (e : Flaw) (k : ℕ) (v w y : Verdict) → Blames e k v → y ≡ both v w → Blames e k y
blames_on Memory k v w y j h = tt
blames_on (Breaks q) k v w y j h = h ∙ ap (λ z. both z w) j

pub judged_err : {B : Type 0} (res : Result B Flaw) (e : Flaw) (k : ℕ) (v w x y : Verdict) → IsErrAnd res (λ f. f ≡ e) → Blames e k v → y ≡ both v w → Judged res k y x
judged_err (Ok u) e k v w x y i j h = absurd i
judged_err (Err f) e k v w x y i j h = blames_on f k v w y (subst (λ (g : Flaw). Blames g k v) (sym i) j) h

pub judged_memory : {B : Type 0} (res : Result B Flaw) (k : ℕ) (v w : Verdict) → IsErrAnd res (λ f. f ≡ Memory) → Judged res k v w
judged_memory (Ok u) k v w i = absurd i
judged_memory (Err f) k v w i = subst (λ (g : Flaw). Blames g k v) (sym i) tt

at_number : (c : Around) (ls : List (Option ValType)) (k : Code) (outs : List ValType) (os : List (Option ValType)) (free : Bool) (m n : ℕ) → m ≡ n
    → checks c ls k outs os free m ≡ checks c ls k outs os free n
at_number c ls k outs os free m n e = ap (checks c ls k outs os free) e

go_on : (n : StackAfter) (k : ℕ) (go : List (Option ValType) → Bool → Verdict) (os : List (Option ValType)) (free : Bool) → Applied n None os free → onward n k go ≡ go os free
go_on (goes os' free') k go os free h = ap (λ z. go z free') (sym h.0) ∙ ap (go os) (sym h.1)
go_on (stops r) k go os free h = absurd h

stop_at : (n : StackAfter) (k : ℕ) (q : Rule) (go : List (Option ValType) → Bool → Verdict) (os : List (Option ValType)) (free : Bool)
    → Applied n (Some q) os free → onward n k go ≡ fault (number q) k
stop_at (goes os' free') k q go os free h = absurd h
stop_at (stops r) k q go os free h = ap (λ z. fault (number z) k) (sym h)

module _ (c : Around) (ls : List (Option ValType)) (outs : List ValType) (os : List (Option ValType)) (free : Bool) (k : ℕ) (x : Instr) (rest : Code) where
  nested : (s : Shape) (l r : Option ValType) (xs : List Instr) → in_front x rest ≡ nest s r (code xs) rest → label s r ≡ l
      → checks c ls (in_front x rest) outs os free k ≡ both (checks c (l ∷ ls) (code xs) (listed r) [] false (k + 1))
      (checks c ls rest outs (knows (listed r) ++ os) free (k + 1 + size (code xs) + 1))
  unfolding checks
  nested s l r xs e el =
      ap (λ z. checks c ls z outs os free k) e
      ∙ ap (λ z. both (checks c (z ∷ ls) (code xs) (listed r) [] false (suc k)) (checks c ls rest outs (knows (listed r) ++ os) free (suc k + (size (code xs) + 1)))) el
      ∙ ap (λ z. both z (checks c ls rest outs (knows (listed r) ++ os) free (suc k + (size (code xs) + 1)))) (at_number c (l ∷ ls) (code xs) (listed r) [] false (suc k) (k + 1) (omega arith))
      ∙ ap (both (checks c (l ∷ ls) (code xs) (listed r) [] false (k + 1))) (at_number c ls rest outs (knows (listed r) ++ os) free (suc k + (size (code xs) + 1))
      (k + 1 + size (code xs) + 1) (omega arith))

  pub block_arm : (r : Option ValType) (v : Vec Instr Global) (xs : List Instr) → x ≡ Block r v → xs ≡ v.items
      → checks c ls (in_front x rest) outs os free k ≡ both (checks c (r ∷ ls) (code xs) (listed r) [] false (k + 1))
      (checks c ls rest outs (knows (listed r) ++ os) free (k + 1 + size (code xs) + 1))
  block_arm r v xs e f = nested a_block r r xs (ap (λ y. in_front y rest) e ∙ in_block r v rest ∙ ap (λ y. nest a_block r (code y) rest) (sym f)) refl

  pub loop_arm : (r : Option ValType) (v : Vec Instr Global) (xs : List Instr) → x ≡ Loop r v → xs ≡ v.items
      → checks c ls (in_front x rest) outs os free k ≡ both (checks c (None ∷ ls) (code xs) (listed r) [] false (k + 1))
      (checks c ls rest outs (knows (listed r) ++ os) free (k + 1 + size (code xs) + 1))
  loop_arm r v xs e f = nested a_loop None r xs (ap (λ y. in_front y rest) e ∙ in_loop r v rest ∙ ap (λ y. nest a_loop r (code y) rest) (sym f)) refl

  branched : (r : Option ValType) (v w : Vec Instr Global) (xs ys : List Instr) → x ≡ If r v w → xs ≡ v.items → ys ≡ w.items → in_front x rest ≡ branch r (code xs) (code ys) rest
  branched r v w xs ys e f g = ap (λ y. in_front y rest) e ∙ in_if r v w rest ∙ ap (λ y. branch r (code y) (code w.items) rest) (sym f) ∙ ap (λ y. branch r (code xs) (code y) rest) (sym g)

  pub if_fault : (r : Option ValType) (v w : Vec Instr Global) → x ≡ If r v w → pop1 I32 os free ≡ None → checks c ls (in_front x rest) outs os free k ≡ fault (number StackTypes) k
  unfolding checks
  if_fault r v w e p = ap (λ z. checks c ls z outs os free k) (branched r v w v.items w.items e refl refl) ∙ rw p refl

  pub if_arm : (r : Option ValType) (v w : Vec Instr Global) (xs ys : List Instr) (os' : List (Option ValType)) → x ≡ If r v w → xs ≡ v.items → ys ≡ w.items → pop1 I32 os free ≡ Some os'
      → checks c ls (in_front x rest) outs os free k ≡ both (checks c (r ∷ ls) (code xs) (listed r) [] false (k + 1))
      (both (checks c (r ∷ ls) (code ys) (listed r) [] false (k + 1 + size (code xs) + mid (code ys)))
      (checks c ls rest outs (knows (listed r) ++ os') free (k + 1 + size (code xs) + mid (code ys) + size (code ys) + 1)))
  unfolding checks
  if_arm r v w xs ys os' e f g p =
      let a : suc k ≡ k + 1 = omega arith in
      let b : suc k + (size (code xs) + mid (code ys)) ≡ k + 1 + size (code xs) + mid (code ys) = omega arith in
      let d : suc k + (size (code xs) + mid (code ys) + size (code ys) + 1) ≡ k + 1 + size (code xs) + mid (code ys) + size (code ys) + 1 = omega arith in
      ap (λ z. checks c ls z outs os free k) (branched r v w xs ys e f g) ∙ rw p
      (ap (λ n. both (checks c (r ∷ ls) (code xs) (listed r) [] false n) (both (checks c (r ∷ ls) (code ys) (listed r) [] false (suc k + (size (code xs) + mid (code ys))))
      (checks c ls rest outs (knows (listed r) ++ os') free (suc k + (size (code xs) + mid (code ys) + size (code ys) + 1))))) a
      ∙ ap (λ n. both (checks c (r ∷ ls) (code xs) (listed r) [] false (k + 1)) (both (checks c (r ∷ ls) (code ys) (listed r) [] false n)
      (checks c ls rest outs (knows (listed r) ++ os') free (suc k + (size (code xs) + mid (code ys) + size (code ys) + 1))))) b
      ∙ ap (λ n. both (checks c (r ∷ ls) (code xs) (listed r) [] false (k + 1)) (both (checks c (r ∷ ls) (code ys) (listed r) [] false (k + 1 + size (code xs) + mid (code ys)))
      (checks c ls rest outs (knows (listed r) ++ os') free n))) d)

  module _ (not_block : (r : Option ValType) (v : Vec Instr Global) → x ≡ Block r v → ⊥) (not_loop : (r : Option ValType) (v : Vec Instr Global) → x ≡ Loop r v → ⊥)
      (not_if : (r : Option ValType) (v w : Vec Instr Global) → x ≡ If r v w → ⊥) where
    plain_is : (p : Plain) → ((r : Code) → in_front x r ≡ plain p r) → checks c ls (in_front x rest) outs os free k
        ≡ onward (next (sig c ls p) os free) k (λ os' free'. checks c ls rest outs os' free' (suc k))
    unfolding checks
    plain_is p f = ap (λ z. checks c ls z outs os free k) (f rest)

    -- what becomes of the rest behind an instruction that holds no other
    pub plain_goes : (os' : List (Option ValType)) (free' : Bool) → Says (plain_of x) (λ p. Applied (next (sig c ls p) os free) None os' free')
        → checks c ls (in_front x rest) outs os free k ≡ checks c ls rest outs os' free' (suc k)
    plain_goes os' free' h = elim (leaf_kind x) [
      | is_block r v e ↦ absurd (not_block r v e)
      | is_loop r v e ↦ absurd (not_loop r v e)
      | is_branch r v w e ↦ absurd (not_if r v w e)
      | is_plain p e f ↦
          (let g : Applied (next (sig c ls p) os free) None os' free' = subst (λ (o : Option Plain). Says o (λ p. Applied (next (sig c ls p) os free) None os' free')) e h in
          plain_is p f ∙ go_on (next (sig c ls p) os free) k (λ os' free'. checks c ls rest outs os' free' (suc k)) os' free' g)
    ]

    -- the rule that it breaks
    pub plain_stops : (q : Rule) (os' : List (Option ValType)) (free' : Bool) → Says (plain_of x) (λ p. Applied (next (sig c ls p) os free) (Some q) os' free')
        → checks c ls (in_front x rest) outs os free k ≡ fault (number q) k
    plain_stops q os' free' h = elim (leaf_kind x) [
      | is_block r v e ↦ absurd (not_block r v e)
      | is_loop r v e ↦ absurd (not_loop r v e)
      | is_branch r v w e ↦ absurd (not_if r v w e)
      | is_plain p e f ↦
          (let g : Applied (next (sig c ls p) os free) (Some q) os' free' = subst (λ (o : Option Plain). Says o (λ p. Applied (next (sig c ls p) os free) (Some q) os' free')) e h in
          plain_is p f ∙ stop_at (next (sig c ls p) os free) k q (λ os' free'. checks c ls rest outs os' free' (suc k)) os' free' g)
    ]

-- what an instruction does to the operands, told by what it asks of them
pub says_applied : (o : Option Plain) (c : Around) (ls os now : List (Option ValType)) (free free' : Bool) (r : Option Rule) (s : D.Asks) → Says o (λ p. sig_of s ≡ sig c ls p)
    → Applied (next (sig_of s) os free) r now free' → Says o (λ p. Applied (next (sig c ls p) os free) r now free')
says_applied None c ls os now free free' r s h a = tt
says_applied (Some p) c ls os now free free' r s h a = subst (λ z. Applied (next z os free) r now free') h a

pub plain_size : (x : Instr) → ((r : Option ValType) (v : Vec Instr Global) → x ≡ Block r v → ⊥) → ((r : Option ValType) (v : Vec Instr Global) → x ≡ Loop r v → ⊥)
    → ((r : Option ValType) (v w : Vec Instr Global) → x ≡ If r v w → ⊥) → size (in_front x done) ≡ 1
plain_size x not_block not_loop not_if = elim (leaf_kind x) [
  | is_block r v e ↦ absurd (not_block r v e)
  | is_loop r v e ↦ absurd (not_loop r v e)
  | is_branch r v w e ↦ absurd (not_if r v w e)
  | is_plain p e f ↦ ap size (f done) ∙ size_plain p done ∙ ap (λ n. 1 + n) size_done
]

module _ (x : Instr) (r : Option ValType) (v : Vec Instr Global) (xs : List Instr) (f : xs ≡ v.items) where
  pub size_of_block : x ≡ Block r v → size (in_front x done) ≡ 2 + size (code xs)
  size_of_block e = ap (λ y. size (in_front y done)) e ∙ size_block r v done ∙ ap (λ n. 2 + size (code v.items) + n) size_done ∙ (let g = ap (λ y. size (code y)) f in omega arith)

  pub size_of_loop : x ≡ Loop r v → size (in_front x done) ≡ 2 + size (code xs)
  size_of_loop e = ap (λ y. size (in_front y done)) e ∙ size_loop r v done ∙ ap (λ n. 2 + size (code v.items) + n) size_done ∙ (let g = ap (λ y. size (code y)) f in omega arith)

  pub size_of_if : (w : Vec Instr Global) (ys : List Instr) → ys ≡ w.items → x ≡ If r v w → size (in_front x done) ≡ 2 + size (code xs) + mid (code ys) + size (code ys)
  size_of_if w ys h e =
      ap (λ y. size (in_front y done)) e ∙ size_if r v w done ∙ ap (λ n. 2 + size (code v.items) + mid (code w.items) + size (code w.items) + n) size_done
      ∙ (let g = ap (λ y. size (code y)) f in let i = ap (λ y. size (code y)) h in let j = ap (λ y. mid (code y)) h in omega arith)

pub none_is : {A : Type 0} (o : Option A) → ((q : A) → o ≡ Some q → ⊥) → o ≡ None
none_is None f = refl
none_is (Some q) f = absurd (f q refl)

pub judged_same : {B : Type 0} (res : Result B Flaw) (e : Flaw) (k : ℕ) (v x y : Verdict) → IsErrAnd res (λ f. f ≡ e) → Blames e k v → y ≡ v → Judged res k y x
judged_same (Ok u) e k v x y i j h = absurd i
judged_same (Err f) e k v x y i j h = subst (Blames f k) (sym h) (subst (λ (g : Flaw). Blames g k v) (sym i) j)

pub passed_by : (y v w : Verdict) → y ≡ both v w → v ≡ fine → y ≡ w
passed_by y v w h e = h ∙ ap (λ z. both z w) e

pub passed_then : (y v u u' w : Verdict) → y ≡ both v (both u w) → v ≡ fine → u ≡ u' → y ≡ both u' w
passed_then y v u u' w h e f = h ∙ ap (λ z. both z (both u w)) e ∙ ap (λ z. both z w) f

pub pushed_on : (r : Option ValType) (a b d : List (Option ValType)) → d ≡ knows (listed r) ++ b → b ≡ a → knows (listed r) ++ a ≡ d
pushed_on r a b d e f = ap (λ z. knows (listed r) ++ z) (sym f) ∙ sym e

pub same_checks : (c : Around) (ls : List (Option ValType)) (k : Code) (outs : List ValType) (os os' : List (Option ValType)) (free free' : Bool) (m n : ℕ) → os ≡ os' → free ≡ free' → m ≡ n
    → checks c ls k outs os free m ≡ checks c ls k outs os' free' n
same_checks c ls k outs os os' free free' m n e f g =
    ap (λ z. checks c ls k outs z free m) e ∙ ap (λ z. checks c ls k outs os' z m) f ∙ ap (checks c ls k outs os' free') g

pub moved_checks : (c : Around) (ls ls' : List (Option ValType)) (r : Option ValType) (k : Code) (outs : List ValType) (m n : ℕ) → ls ≡ ls' → m ≡ n
    → checks c (r ∷ ls) k outs [] false m ≡ checks c (r ∷ ls') k outs [] false n
moved_checks c ls ls' r k outs m n e f = ap (λ z. checks c (r ∷ z) k outs [] false m) e ∙ ap (checks c (r ∷ ls') k outs [] false) f

pub labels_are : (old new now : List (Option ValType)) (l : Option ValType) → new ≡ old ++ l ∷ [] → now ≡ new → reverse now ≡ l ∷ reverse old
labels_are old new now l e f = ap reverse (f ∙ e) ∙ reverse-append old (l ∷ [])

module _ (c : Around) (ls ls' : List (Option ValType)) (body : List Instr) (i : ℕ) (outs : List ValType) (os : List (Option ValType)) (free : Bool) (k k0 : ℕ) (el : ls' ≡ ls)
    (inv : checks c ls' (code (drop i body)) outs os free k ≡ checks c ls' (code body) outs [] false k0) where
  pub body_on : (x : Instr) → i < length body → x ≡ get_or body i x → checks c ls (code body) outs [] false k0 ≡ checks c ls' (in_front x (code (drop (i + 1) body))) outs os free k
  body_on x h e = ap (λ z. checks c z (code body) outs [] false k0) (sym el) ∙ sym inv ∙ ap (λ z. checks c ls' z outs os free k) (code_step body i x h e)

  pub body_end : length body ≤ i → checks c ls (code body) outs [] false k0 ≡ (if ended outs os free then fine else fault (number StackTypes) k)
  body_end h = ap (λ z. checks c z (code body) outs [] false k0) (sym el) ∙ sym inv ∙ ap (λ z. checks c ls' z outs os free k) (code_empty body i h) ∙ checks_done c ls' outs os free k

-- behind an instruction of a body, whose labels stay
pub turned : (c : Around) (ls ls' : List (Option ValType)) (body : List Instr) (i : ℕ) (outs : List ValType) (os os' : List (Option ValType)) (free free' : Bool) (k k' k0 : ℕ) (x : Instr) → ls' ≡ ls
    → i < length body → x ≡ get_or body i x → checks c ls (code (drop i body)) outs os free k ≡ checks c ls (code body) outs [] false k0
    → checks c ls (in_front x (code (drop (i + 1) body))) outs os free k ≡ checks c ls (code (drop (i + 1) body)) outs os' free' k'
    → checks c ls' (code (drop (i + 1) body)) outs os' free' k' ≡ checks c ls' (code body) outs [] false k0
turned c ls ls' body i outs os os' free free' k k' k0 x el h e inv j =
    ap (λ z. checks c z (code (drop (i + 1) body)) outs os' free' k') el
    ∙ sym j ∙ sym (ap (λ z. checks c ls z outs os free k) (code_step body i x h e))
    ∙ inv ∙ ap (λ z. checks c z (code body) outs [] false k0) (sym el)

pub popped_none : (b : Bool) (x : Option (List (Option ValType))) (os : List (Option ValType)) → x ≡ popped b os → b ≡ false → x ≡ None
popped_none b x os e f = e ∙ ap (λ z. popped z os) f

pub popped_some : (b : Bool) (x : Option (List (Option ValType))) (os : List (Option ValType)) → x ≡ popped b os → b ≡ true → x ≡ Some os
popped_some b x os e f = e ∙ ap (λ z. popped z os) f

-- the verdict on a body, checked under no other labels
pub whole : (c : Around) (body : Code) (ls : List (Option ValType)) (r : Option ValType) (v : Verdict) → ls ≡ [] → r ≡ c.result → checks c (r ∷ reverse ls) body (listed r) [] false 0 ≡ v
    → body_verdict c body ≡ v
whole c body ls r v e f h =
    subst (λ (z : Option ValType). checks c (z ∷ []) body (listed z) [] false 0 ≡ v) f
    (subst (λ (z : List (Option ValType)). checks c (r ∷ reverse z) body (listed r) [] false 0 ≡ v) e h)

pub ruleset bodies = (size_step, size_empty, code_step, code_empty, checks_done)

pub ruleset instrs = (size_block, size_loop, size_if, size_done)
