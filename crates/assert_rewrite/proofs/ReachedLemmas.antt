-- Code with asserts of a function that stays, of which some can't be reached, instruction by instruction.
use Rattle.std.proofs.Common.{◌≡◌, ◌∙◌, ℕ, ◌+◌, ◌<◌, ◌≤◌, ◌++◌, List, [], ◌∷◌, length, get_or, drop, Option, Bool, true, false, refl, sym, ap, subst}
use Rattle.std.specs.Prelude.{if◌then◌else◌}
use Rattle.std.specs.declared.vec.Vec.{Vec}
use Rattle.std.specs.declared.alloc.Global.{Global}
use Rattle.wa_types.specs.declared.values.ValType.{ValType}
use Rattle.wa_types.specs.declared.instrs.Instr.{Instr}
use Rattle.wa_types.specs.declared.instrs.Instr.TheVariants.{Block, Loop, If}
use Rattle.wa_types.specs.Leaves.{is_leaf}
use Rattle.wa_types.specs.Pausing.{callee}
use Rattle.wa_types.specs.Pruned.{is_last, is_last_instr, pruned}
use Rattle.wa_types.specs.Syntax.{Plain, unreachable, a_block, a_loop, Code, done, plain, nest, branch}
use Rattle.wa_types.specs.View.{code, in_front, onto}
use Rattle.wa_types.proofs.LeafLemmas.{block_unlike, if_unlike, loop_unlike}
use Rattle.wa_types.proofs.PruneLemmas.{prune_leaf}
use Rattle.wa_types.proofs.ViewLemmas.{code_empty, code_step, in_block, in_if, in_loop, instr_kind, is_block, is_if, is_loop, is_plain, onto_append, onto_done, onto_none}
use Rattle.flow_rewrite.specs.Putting.{Puts}
use Rattle.guard_form.specs.Asserts.{any_callee, assert_code, asserted_reached, tested_behind}
use Rattle.guard_form.specs.Pieces.{sole_callee}
use Rattle.assert_rewrite.specs.Testing.{StandsFor, is_tested, what_follows, where_reached}
use Rattle.assert_rewrite.proofs.TestLemmas.{behind_is}

-- ---- behind what control never goes on

same_last : (p : Plain) (a b : Bool) → plain p (if a then done else plain unreachable done) ≡ plain p (if b then done else plain unreachable done) → b ≡ a
same_last p true true e = refl
same_last p true false e = cc
same_last p false true e = cc
same_last p false false e = refl

last_is : (x : Instr) (p : Plain) → is_leaf x ≡ true → ((rest : Code) → in_front x rest ≡ plain p rest) → is_last_instr x ≡ is_last p
unfolding pruned
last_is x p h e =
    same_last p (is_last p) (is_last_instr x)
    (sym (ap pruned (e (plain unreachable done))) ∙ prune_leaf x x h (λ rest. refl) (plain unreachable done) ∙ e (if is_last_instr x then done else plain unreachable done))

-- ---- an equal instruction

pub same_block : (x : Instr) (r : Option ValType) (v w : Vec Instr Global) → x ≡ Block r v → code w.items ≡ code v.items → (rest : Code) → in_front (Block r w) rest ≡ in_front x rest
same_block x r v w is e rest = in_block r w rest ∙ ap (λ b. nest a_block r b rest) e ∙ sym (ap (λ z. in_front z rest) is ∙ in_block r v rest)

pub same_loop : (x : Instr) (r : Option ValType) (v w : Vec Instr Global) → x ≡ Loop r v → code w.items ≡ code v.items → (rest : Code) → in_front (Loop r w) rest ≡ in_front x rest
same_loop x r v w is e rest = in_loop r w rest ∙ ap (λ b. nest a_loop r b rest) e ∙ sym (ap (λ z. in_front z rest) is ∙ in_loop r v rest)

pub same_if : (x : Instr) (r : Option ValType) (v w v2 w2 : Vec Instr Global) → x ≡ If r v w → code v2.items ≡ code v.items → code w2.items ≡ code w.items → (rest : Code)
    → in_front (If r v2 w2) rest ≡ in_front x rest
same_if x r v w v2 w2 is e f rest =
    in_if r v2 w2 rest ∙ ap (λ b. branch r b (code w2.items) rest) e ∙ ap (λ b. branch r (code v.items) b rest) f ∙ sym (ap (λ z. in_front z rest) is ∙ in_if r v w rest)

-- ---- one instruction

module _ (st : ℕ) where
  pub reached_block : (r : Option ValType) (v w : Vec Instr Global) (rest : Code) → code w.items ≡ asserted_reached st (code v.items)
      → asserted_reached st (in_front (Block r v) rest)
      ≡ in_front (Block r w) (if is_last_instr (Block r v) then rest else tested_behind any_callee st (sole_callee (in_front (Block r v) done)) (asserted_reached st rest))
  unfolding asserted_reached is_last_instr
  reached_block r v w rest e =
      ap (asserted_reached st) (in_block r v rest) ∙ ap (λ b. nest a_block r b (asserted_reached st rest)) (sym e) ∙ sym (in_block r w (asserted_reached st rest))
      ∙ ap (λ o. in_front (Block r w) (tested_behind any_callee st o (asserted_reached st rest))) (sym (ap sole_callee (in_block r v done)))

  pub reached_loop : (r : Option ValType) (v w : Vec Instr Global) (rest : Code) → code w.items ≡ asserted_reached st (code v.items)
      → asserted_reached st (in_front (Loop r v) rest)
      ≡ in_front (Loop r w) (if is_last_instr (Loop r v) then rest else tested_behind any_callee st (sole_callee (in_front (Loop r v) done)) (asserted_reached st rest))
  unfolding asserted_reached is_last_instr
  reached_loop r v w rest e =
      ap (asserted_reached st) (in_loop r v rest) ∙ ap (λ b. nest a_loop r b (asserted_reached st rest)) (sym e) ∙ sym (in_loop r w (asserted_reached st rest))
      ∙ ap (λ o. in_front (Loop r w) (tested_behind any_callee st o (asserted_reached st rest))) (sym (ap sole_callee (in_loop r v done)))

  pub reached_if : (r : Option ValType) (v w x y : Vec Instr Global) (rest : Code) → code x.items ≡ asserted_reached st (code v.items) → code y.items ≡ asserted_reached st (code w.items)
      → asserted_reached st (in_front (If r v w) rest)
      ≡ in_front (If r x y) (if is_last_instr (If r v w) then rest else tested_behind any_callee st (sole_callee (in_front (If r v w) done)) (asserted_reached st rest))
  unfolding asserted_reached is_last_instr
  reached_if r v w x y rest e f =
      ap (asserted_reached st) (in_if r v w rest) ∙ ap (λ b. branch r b (asserted_reached st (code w.items)) (asserted_reached st rest)) (sym e)
      ∙ ap (λ b. branch r (code x.items) b (asserted_reached st rest)) (sym f) ∙ sym (in_if r x y (asserted_reached st rest))
      ∙ ap (λ o. in_front (If r x y) (tested_behind any_callee st o (asserted_reached st rest))) (sym (ap sole_callee (in_if r v w done)))

  -- one that holds no other
  pub reached_leaf : (x y : Instr) → is_leaf x ≡ true → ((rest : Code) → in_front y rest ≡ in_front x rest) → (rest : Code)
      → asserted_reached st (in_front x rest) ≡ in_front y (if is_last_instr x then rest else tested_behind any_callee st (sole_callee (in_front x done)) (asserted_reached st rest))
  unfolding asserted_reached
  reached_leaf x y h same rest = elim (instr_kind x) [
    | is_block r v e ↦ absurd (block_unlike x r v h e)
    | is_loop r v e ↦ absurd (loop_unlike x r v h e)
    | is_if r v w e ↦ absurd (if_unlike x r v w h e)
    | is_plain p e ↦
        ap (asserted_reached st) (e rest)
        ∙ ap (λ b. plain p (if b then rest else tested_behind any_callee st (callee p) (asserted_reached st rest))) (sym (last_is x p h e))
        ∙ ap (λ o. plain p (if is_last_instr x then rest else tested_behind any_callee st o (asserted_reached st rest))) (sym (ap sole_callee (e done)))
        ∙ sym (same (if is_last_instr x then rest else tested_behind any_callee st (sole_callee (in_front x done)) (asserted_reached st rest))
        ∙ e (if is_last_instr x then rest else tested_behind any_callee st (sole_callee (in_front x done)) (asserted_reached st rest)))
  ]

  -- ---- what stands for an instruction

  pub as_it_is : (x y : Instr) (reached : Bool) → reached ≡ false → ((rest : Code) → in_front y rest ≡ in_front x rest) → StandsFor st reached x y
  as_it_is x y reached e same = subst (λ b. StandsFor st b x y) (sym e) (λ rest. sym (same rest))

  pub with_tests : (x y : Instr) (reached : Bool) → reached ≡ true
      → ((rest : Code) → asserted_reached st (in_front x rest) ≡ in_front y (if is_last_instr x then rest else tested_behind any_callee st (sole_callee (in_front x done)) (asserted_reached st rest)))
      → StandsFor st reached x y
  with_tests x y reached e law = subst (λ b. StandsFor st b x y) (sym e) law

  pub stands_block : (x : Instr) (reached : Bool) (r : Option ValType) (v w : Vec Instr Global) → reached ≡ true → x ≡ Block r v → code w.items ≡ asserted_reached st (code v.items)
      → StandsFor st reached x (Block r w)
  stands_block x reached r v w e is h = subst (λ z. StandsFor st reached z (Block r w)) (sym is) (with_tests (Block r v) (Block r w) reached e (λ rest. reached_block r v w rest h))

  pub stands_loop : (x : Instr) (reached : Bool) (r : Option ValType) (v w : Vec Instr Global) → reached ≡ true → x ≡ Loop r v → code w.items ≡ asserted_reached st (code v.items)
      → StandsFor st reached x (Loop r w)
  stands_loop x reached r v w e is h = subst (λ z. StandsFor st reached z (Loop r w)) (sym is) (with_tests (Loop r v) (Loop r w) reached e (λ rest. reached_loop r v w rest h))

  pub stands_if : (x : Instr) (reached : Bool) (r : Option ValType) (v w v2 w2 : Vec Instr Global) → reached ≡ true → x ≡ If r v w → code v2.items ≡ asserted_reached st (code v.items)
      → code w2.items ≡ asserted_reached st (code w.items) → StandsFor st reached x (If r v2 w2)
  stands_if x reached r v w v2 w2 e is h k = subst (λ z. StandsFor st reached z (If r v2 w2)) (sym is) (with_tests (If r v w) (If r v2 w2) reached e (λ rest. reached_if r v w v2 w2 rest h k))

  pub stands_leaf : (x y : Instr) (reached : Bool) → reached ≡ true → is_leaf x ≡ true → ((rest : Code) → in_front y rest ≡ in_front x rest) → StandsFor st reached x y
  stands_leaf x y reached e h same = with_tests x y reached e (reached_leaf x y h same)

  -- ---- the next instruction of a body

  -- it can't be reached
  pub kept_next : (xs new : List Instr) (x y : Instr) (reached : Bool) → reached ≡ false → new ≡ xs ++ y ∷ [] → StandsFor st reached x y → (rest : Code)
      → onto new (where_reached st false rest) ≡ onto xs (where_reached st reached (in_front x rest))
  kept_next xs new x y reached e is law rest =
      ap (λ s. onto s rest) is ∙ onto_append xs y rest ∙ ap (λ b. onto xs (in_front y (what_follows st b x rest))) (sym e) ∙ ap (onto xs) (sym (law rest))

  -- control never goes on behind it
  pub last_next : (xs new : List Instr) (x y : Instr) (reached : Bool) → reached ≡ true → is_last_instr x ≡ true → new ≡ xs ++ y ∷ [] → StandsFor st reached x y → (rest : Code)
      → onto new (where_reached st false rest) ≡ onto xs (where_reached st reached (in_front x rest))
  last_next xs new x y reached e last is law rest =
      ap (λ s. onto s rest) is ∙ onto_append xs y rest
      ∙ ap (λ b. onto xs (in_front y (if b then rest else tested_behind any_callee st (sole_callee (in_front x done)) (asserted_reached st rest)))) (sym last)
      ∙ ap (λ b. onto xs (in_front y (what_follows st b x rest))) (sym e) ∙ ap (onto xs) (sym (law rest))

  -- control may go on behind it
  pub test_next : (xs mid new : List Instr) (x y : Instr) (reached told : Bool) → reached ≡ true → is_last_instr x ≡ false → mid ≡ xs ++ y ∷ [] → StandsFor st reached x y
      → Puts mid new (λ c. if told then assert_code st c else c) → told ≡ is_tested any_callee (sole_callee (in_front x done)) → (rest : Code)
      → onto new (where_reached st true rest) ≡ onto xs (where_reached st reached (in_front x rest))
  test_next xs mid new x y reached told e last is law puts tells rest =
      puts (asserted_reached st rest)
      ∙ ap (λ b. onto mid (if b then assert_code st (asserted_reached st rest) else asserted_reached st rest)) tells
      ∙ ap (onto mid) (behind_is any_callee st (sole_callee (in_front x done)) (asserted_reached st rest))
      ∙ ap (λ s. onto s (tested_behind any_callee st (sole_callee (in_front x done)) (asserted_reached st rest))) is
      ∙ onto_append xs y (tested_behind any_callee st (sole_callee (in_front x done)) (asserted_reached st rest))
      ∙ ap (λ b. onto xs (in_front y (if b then rest else tested_behind any_callee st (sole_callee (in_front x done)) (asserted_reached st rest)))) (sym last)
      ∙ ap (λ b. onto xs (in_front y (what_follows st b x rest))) (sym e) ∙ ap (onto xs) (sym (law rest))

  -- ---- a body

  pub body_start : (xs body : List Instr) → xs ≡ [] → onto xs (where_reached st true (code (drop 0 body))) ≡ asserted_reached st (code body)
  body_start xs body e = ap (λ s. onto s (asserted_reached st (code body))) e ∙ onto_none (asserted_reached st (code body))

  pub body_step : (xs new body : List Instr) (i : ℕ) (x : Instr) (a b : Bool) (k : Code) → i < length body → x ≡ get_or body i x
      → ((rest : Code) → onto new (where_reached st b rest) ≡ onto xs (where_reached st a (in_front x rest))) → onto xs (where_reached st a (code (drop i body))) ≡ k
      → onto new (where_reached st b (code (drop (i + 1) body))) ≡ k
  body_step xs new body i x a b k lt at puts before =
      puts (code (drop (i + 1) body)) ∙ ap (λ c. onto xs (where_reached st a c)) (sym (code_step body i x lt at)) ∙ before

  none_left : (b : Bool) → where_reached st b done ≡ done
  unfolding asserted_reached
  none_left true = refl
  none_left false = refl

  pub body_end : (xs body : List Instr) (i : ℕ) (b : Bool) (k : Code) → length body ≤ i → onto xs (where_reached st b (code (drop i body))) ≡ k → code xs ≡ k
  body_end xs body i b k le before = sym (onto_done xs) ∙ ap (onto xs) (sym (ap (where_reached st b) (code_empty body i le) ∙ none_left b)) ∙ before
