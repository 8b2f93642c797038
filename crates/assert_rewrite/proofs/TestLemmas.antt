-- Written code with asserts, instruction by instruction.
use Rattle.std.proofs.Common.{◌≡◌, ◌∙◌, ℕ, ◌+◌, ◌<◌, ◌≤◌, ◌++◌, List, [], ◌∷◌, length, get_or, drop, Option, Some, None, Bool, true, refl, sym, ap, subst}
use Rattle.std.specs.Prelude.{if◌then◌else◌}
use Rattle.std.specs.declared.vec.Vec.{Vec}
use Rattle.std.specs.declared.alloc.Global.{Global}
use Rattle.wa_types.specs.declared.values.ValType.{ValType}
use Rattle.wa_types.specs.declared.instrs.Instr.{Instr}
use Rattle.wa_types.specs.declared.instrs.Instr.TheVariants.{Unreachable, Block, Loop, If}
use Rattle.wa_types.specs.Leaves.{is_leaf}
use Rattle.wa_types.specs.Pausing.{Callee}
use Rattle.wa_types.specs.Syntax.{unreachable, a_block, a_loop, Code, done, plain, nest, branch}
use Rattle.wa_types.specs.View.{code, in_front, onto}
use Rattle.wa_types.proofs.LeafLemmas.{block_unlike, if_unlike, loop_unlike}
use Rattle.wa_types.proofs.ViewLemmas.{code_empty, code_none, code_step, in_block, in_if, in_loop, instr_kind, is_block, is_if, is_loop, is_plain, onto_append, onto_done, onto_none}
use Rattle.flow_rewrite.specs.Putting.{Puts}
use Rattle.guard_form.specs.Asserts.{assert_code, asserted, tested_behind}
use Rattle.guard_form.specs.Pieces.{sole_callee}
use Rattle.assert_rewrite.specs.Testing.{is_tested}

-- the test, where one is wanted
pub behind_is : (t : Callee → Bool) (st : ℕ) (o : Option Callee) (c : Code) → (if is_tested t o then assert_code st c else c) ≡ tested_behind t st o c
behind_is t st None c = refl
behind_is t st (Some x) c = refl

-- ---- the test

pub test_arm : (xs new : List Instr) → xs ≡ [] → new ≡ xs ++ Unreachable ∷ [] → code new ≡ plain unreachable done
unfolding in_front
test_arm xs new e is =
    ap code (is ∙ ap (λ s. s ++ Unreachable ∷ []) e) ∙ sym (onto_done ([] ++ Unreachable ∷ [])) ∙ onto_append [] Unreachable done ∙ onto_none (in_front Unreachable done)

pub test_if : (v w : Vec Instr Global) → code v.items ≡ plain unreachable done → w.items ≡ [] → (rest : Code) → in_front (If None v w) rest ≡ branch None (plain unreachable done) done rest
test_if v w e is rest =
    in_if None v w rest ∙ ap (λ b. branch None b (code w.items) rest) e ∙ ap (λ b. branch None (plain unreachable done) b rest) (ap code is ∙ code_none)

-- ---- one instruction

module _ (t : Callee → Bool) (st : ℕ) where
  pub free_block : (r : Option ValType) (v w : Vec Instr Global) (rest : Code) → code w.items ≡ asserted t st (code v.items)
      → asserted t st (in_front (Block r v) rest) ≡ in_front (Block r w) (tested_behind t st (sole_callee (in_front (Block r v) done)) (asserted t st rest))
  unfolding asserted
  free_block r v w rest e =
      ap (asserted t st) (in_block r v rest) ∙ ap (λ b. nest a_block r b (asserted t st rest)) (sym e) ∙ sym (in_block r w (asserted t st rest))
      ∙ ap (λ o. in_front (Block r w) (tested_behind t st o (asserted t st rest))) (sym (ap sole_callee (in_block r v done)))

  pub free_loop : (r : Option ValType) (v w : Vec Instr Global) (rest : Code) → code w.items ≡ asserted t st (code v.items)
      → asserted t st (in_front (Loop r v) rest) ≡ in_front (Loop r w) (tested_behind t st (sole_callee (in_front (Loop r v) done)) (asserted t st rest))
  unfolding asserted
  free_loop r v w rest e =
      ap (asserted t st) (in_loop r v rest) ∙ ap (λ b. nest a_loop r b (asserted t st rest)) (sym e) ∙ sym (in_loop r w (asserted t st rest))
      ∙ ap (λ o. in_front (Loop r w) (tested_behind t st o (asserted t st rest))) (sym (ap sole_callee (in_loop r v done)))

  pub free_if : (r : Option ValType) (v w x y : Vec Instr Global) (rest : Code) → code x.items ≡ asserted t st (code v.items) → code y.items ≡ asserted t st (code w.items)
      → asserted t st (in_front (If r v w) rest) ≡ in_front (If r x y) (tested_behind t st (sole_callee (in_front (If r v w) done)) (asserted t st rest))
  unfolding asserted
  free_if r v w x y rest e f =
      ap (asserted t st) (in_if r v w rest) ∙ ap (λ b. branch r b (asserted t st (code w.items)) (asserted t st rest)) (sym e)
      ∙ ap (λ b. branch r (code x.items) b (asserted t st rest)) (sym f) ∙ sym (in_if r x y (asserted t st rest))
      ∙ ap (λ o. in_front (If r x y) (tested_behind t st o (asserted t st rest))) (sym (ap sole_callee (in_if r v w done)))

  -- one that holds no other
  pub free_leaf : (x y : Instr) → is_leaf x ≡ true → ((rest : Code) → in_front y rest ≡ in_front x rest) → (rest : Code)
      → asserted t st (in_front x rest) ≡ in_front y (tested_behind t st (sole_callee (in_front x done)) (asserted t st rest))
  unfolding asserted
  free_leaf x y h same rest = elim (instr_kind x) [
    | is_block r v e ↦ absurd (block_unlike x r v h e)
    | is_loop r v e ↦ absurd (loop_unlike x r v h e)
    | is_if r v w e ↦ absurd (if_unlike x r v w h e)
    | is_plain p e ↦
        ap (asserted t st) (e rest) ∙ ap (λ o. plain p (tested_behind t st o (asserted t st rest))) (sym (ap sole_callee (e done)))
        ∙ sym (same (tested_behind t st (sole_callee (in_front x done)) (asserted t st rest)) ∙ e (tested_behind t st (sole_callee (in_front x done)) (asserted t st rest)))
  ]

  -- what stands for a construct
  pub frees_block : (x : Instr) (r : Option ValType) (v w : Vec Instr Global) → x ≡ Block r v → code w.items ≡ asserted t st (code v.items) → (rest : Code)
      → asserted t st (in_front x rest) ≡ in_front (Block r w) (tested_behind t st (sole_callee (in_front x done)) (asserted t st rest))
  frees_block x r v w is e rest =
      subst (λ z. asserted t st (in_front z rest) ≡ in_front (Block r w) (tested_behind t st (sole_callee (in_front z done)) (asserted t st rest))) (sym is) (free_block r v w rest e)

  pub frees_loop : (x : Instr) (r : Option ValType) (v w : Vec Instr Global) → x ≡ Loop r v → code w.items ≡ asserted t st (code v.items) → (rest : Code)
      → asserted t st (in_front x rest) ≡ in_front (Loop r w) (tested_behind t st (sole_callee (in_front x done)) (asserted t st rest))
  frees_loop x r v w is e rest =
      subst (λ z. asserted t st (in_front z rest) ≡ in_front (Loop r w) (tested_behind t st (sole_callee (in_front z done)) (asserted t st rest))) (sym is) (free_loop r v w rest e)

  pub frees_if : (x : Instr) (r : Option ValType) (v w v2 w2 : Vec Instr Global) → x ≡ If r v w → code v2.items ≡ asserted t st (code v.items)
      → code w2.items ≡ asserted t st (code w.items) → (rest : Code)
      → asserted t st (in_front x rest) ≡ in_front (If r v2 w2) (tested_behind t st (sole_callee (in_front x done)) (asserted t st rest))
  frees_if x r v w v2 w2 is e f rest =
      subst (λ z. asserted t st (in_front z rest) ≡ in_front (If r v2 w2) (tested_behind t st (sole_callee (in_front z done)) (asserted t st rest))) (sym is) (free_if r v w v2 w2 rest e f)

  -- ---- a body

  pub free_start : (xs body : List Instr) → xs ≡ [] → onto xs (asserted t st (code (drop 0 body))) ≡ asserted t st (code body)
  free_start xs body e = ap (λ s. onto s (asserted t st (code body))) e ∙ onto_none (asserted t st (code body))

  pub free_step : (xs mid new body : List Instr) (i : ℕ) (x y : Instr) (told : Bool) (k : Code) → mid ≡ xs ++ y ∷ []
      → ((rest : Code) → asserted t st (in_front x rest) ≡ in_front y (tested_behind t st (sole_callee (in_front x done)) (asserted t st rest)))
      → Puts mid new (λ c. if told then assert_code st c else c) → told ≡ is_tested t (sole_callee (in_front x done)) → i < length body → x ≡ get_or body i x
      → onto xs (asserted t st (code (drop i body))) ≡ k → onto new (asserted t st (code (drop (i + 1) body))) ≡ k
  free_step xs mid new body i x y told k e same puts tells lt at before =
      puts (asserted t st (code (drop (i + 1) body)))
      ∙ ap (λ b. onto mid (if b then assert_code st (asserted t st (code (drop (i + 1) body))) else asserted t st (code (drop (i + 1) body)))) tells
      ∙ ap (onto mid) (behind_is t st (sole_callee (in_front x done)) (asserted t st (code (drop (i + 1) body))))
      ∙ ap (λ s. onto s (tested_behind t st (sole_callee (in_front x done)) (asserted t st (code (drop (i + 1) body))))) e
      ∙ onto_append xs y (tested_behind t st (sole_callee (in_front x done)) (asserted t st (code (drop (i + 1) body))))
      ∙ ap (onto xs) (sym (same (code (drop (i + 1) body)))) ∙ ap (λ c. onto xs (asserted t st c)) (sym (code_step body i x lt at)) ∙ before

  asserted_done : asserted t st done ≡ done
  unfolding asserted
  asserted_done = refl

  pub free_end : (xs body : List Instr) (i : ℕ) (k : Code) → length body ≤ i → onto xs (asserted t st (code (drop i body))) ≡ k → code xs ≡ k
  free_end xs body i k le before = sym (onto_done xs) ∙ ap (onto xs) (sym (ap (asserted t st) (code_empty body i le) ∙ asserted_done)) ∙ before
