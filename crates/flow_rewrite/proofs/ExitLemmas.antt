-- What is put at the last unit of a sequence, by its exit.
use Rattle.std.proofs.Common.{◌≡◌, ℕ, suc, ◌+◌, ◌∷◌, ◌++◌, List, [], Option, Some, None, Bool, true, false, refl, sym, ap, ◌∙◌, arith}
use Rattle.wa_types.specs.declared.instrs.Instr.{Instr}
use Rattle.wa_types.specs.declared.instrs.Instr.TheVariants.{Return}
use Rattle.wa_types.specs.Pausing.{Callee}
use Rattle.wa_types.specs.Syntax.{a_block, return, Code, done, nest, plain}
use Rattle.wa_types.specs.View.{in_front, onto, code}
use Rattle.wa_types.proofs.ViewLemmas.{code_none, onto_done, onto_none}
use Rattle.run_theory.specs.Flat.{followed_by, set_to, slots_got}
use Rattle.guard_form.specs.Guarded.{GuardIndices, Exit, by_state, call_guarded, ending, guarded, last_piece, noted, own_block, raised}
use Rattle.guard_form.specs.Pieces.{call_to}
use Rattle.guard_form.proofs.CodeLemmas.{raised_none, then_done}
use Rattle.guard_form.proofs.UnitLemmas.{ending_is}
use Rattle.flow_rewrite.specs.Begun.{call_begun, guarded_begun, last_begun, sought_begun}
use Rattle.flow_rewrite.specs.Putting.{Puts}
use Rattle.flow_rewrite.specs.declared.exits.ExitTo.{ExitTo}
use Rattle.flow_rewrite.specs.declared.exits.ExitTo.TheVariants.{End, Label, Nowhere, FunctionEnd}
use Rattle.flow_rewrite.specs.Exits.{exit_of}
use Rattle.flow_rewrite.proofs.PutLemmas.{put_one}

-- ---- the last piece

pub last_guarded : (i : GuardIndices) (x : ExitTo) (piece : Code) (old new : List Instr) → x ≡ End → Puts old new (guarded i piece)
    → code new ≡ onto old (last_piece i (exit_of x) piece)
last_guarded i x piece old new is puts = sym (onto_done new) ∙ puts done ∙ ap (λ y. onto old (last_piece i (exit_of y) piece)) (sym is)

return_is : (rest : Code) → in_front Return rest ≡ plain return rest
unfolding in_front
return_is rest = refl

pub last_returns : (i : GuardIndices) (x : ExitTo) (piece : Code) (old mid new : List Instr) → x ≡ FunctionEnd → Puts old mid (followed_by (raised 0 0 piece)) → new ≡ mid ++ Return ∷ []
    → code new ≡ onto old (last_piece i (exit_of x) piece)
last_returns i x piece old mid new is puts pushed =
    sym (onto_done new) ∙ put_one mid new Return (plain return) pushed return_is done ∙ puts (plain return done)
    ∙ ap (λ c. onto old (followed_by c (plain return done))) (raised_none 0 piece) ∙ ap (λ y. onto old (last_piece i (exit_of y) piece)) (sym is)

last_as_is : (i : GuardIndices) (x : ExitTo) (piece : Code) → (x ≡ End → ⊥) → (x ≡ FunctionEnd → ⊥) → piece ≡ last_piece i (exit_of x) piece
last_as_is i End piece inner passed = absurd (inner refl)
last_as_is i (Label l) piece inner passed = refl
last_as_is i Nowhere piece inner passed = refl
last_as_is i FunctionEnd piece inner passed = absurd (passed refl)

pub last_plain : (i : GuardIndices) (x : ExitTo) (piece : Code) (old new : List Instr) → (x ≡ End → ⊥) → (x ≡ FunctionEnd → ⊥) → Puts old new (followed_by (raised 0 0 piece))
    → code new ≡ onto old (last_piece i (exit_of x) piece)
last_plain i x piece old new inner passed puts =
    sym (onto_done new) ∙ puts done ∙ ap (onto old) (then_done (raised 0 0 piece) ∙ raised_none 0 piece ∙ last_as_is i x piece inner passed)

pub end_unled : (i : GuardIndices) (lead : Option Code) (e : Exit) (piece : Code) (old new : List Instr) → lead ≡ None → code new ≡ onto old (last_piece i e piece)
    → code new ≡ onto old (last_begun i lead e piece)
end_unled i lead e piece old new is last = last ∙ ap (λ o. onto old (last_begun i o e piece)) (sym is)

pub end_led : (i : GuardIndices) (lead : Option Code) (h : Code) (e : Exit) (piece : Code) (old mid new : List Instr) → lead ≡ Some h
    → Puts old mid (guarded_begun i (Some h) (code [])) → code new ≡ onto mid (last_piece i e piece) → code new ≡ onto old (last_begun i lead e piece)
end_led i lead h e piece old mid new is puts last =
    last ∙ puts (last_piece i e piece)
    ∙ ap (λ c. onto old (by_state i.state (followed_by h done) (raised 0 1 c) (last_piece i e piece))) code_none
    ∙ ap (λ o. onto old (last_begun i o e piece)) (sym is)

-- ---- a call

-- where runs go to its end it has a block of its own
call_at_end : (i : GuardIndices) (lead : Option Code) (k : ℕ) (piece : Code) (call_of : Bool → Code) (next : Code)
    → nest a_block None (sought_begun i lead 1 2 k piece (call_of true)) next ≡ call_begun i lead (exit_of End) false k piece call_of next
call_at_end i None k piece call_of next = refl
call_at_end i (Some h) k piece call_of next = refl

call_at_label : (i : GuardIndices) (lead : Option Code) (l k : ℕ) (piece : Code) (call_of : Bool → Code) (next : Code)
    → sought_begun i lead (suc l) 1 k piece (call_of false) ≡ call_begun i lead (exit_of (Label l)) false k piece call_of next
call_at_label i None l k piece call_of next = refl
call_at_label i (Some h) l k piece call_of next = refl

call_alone : (i : GuardIndices) (lead : Option Code) (x : ExitTo) (k : ℕ) (piece : Code) (call_of : Bool → Code) (next : Code) → (x ≡ End → ⊥) → ((l : ℕ) → x ≡ Label l → ⊥)
    → guarded_begun i lead piece (call_of false) ≡ call_begun i lead (exit_of x) false k piece call_of next
call_alone i lead End k piece call_of next inner unlabelled = absurd (inner refl)
call_alone i lead (Label l) k piece call_of next inner unlabelled = absurd (unlabelled l refl)
call_alone i None Nowhere k piece call_of next inner unlabelled = refl
call_alone i (Some h) Nowhere k piece call_of next inner unlabelled = refl
call_alone i None FunctionEnd k piece call_of next inner unlabelled = refl
call_alone i (Some h) FunctionEnd k piece call_of next inner unlabelled = refl

no_block : (x : ExitTo) → (x ≡ End → ⊥) → ((l : ℕ) → x ≡ Label l → ⊥) → own_block (exit_of x) false ≡ false
no_block End inner unlabelled = absurd (inner refl)
no_block (Label l) inner unlabelled = absurd (unlabelled l refl)
no_block Nowhere inner unlabelled = refl
no_block FunctionEnd inner unlabelled = refl

module _ (i : GuardIndices) (lead : Option Code) (x : ExitTo) (d k : ℕ) (piece : Code) (slots : List ℕ) (c : Callee) (to : Option ℕ) (behind : Code) where
  abbrev call_of : Bool → Code
  call_of own = call_guarded i (exit_of x) own d k slots c to behind

  -- the call with its arguments, where this much is raised
  abbrev call_with : (label by : ℕ) → Code → Code
  call_with label by z = slots_got slots (plain (call_to c) (noted i label k (set_to to (followed_by (raised 0 by behind) z))))

  abbrev Called : (old new : List Instr) → Type 0
  Called old new = (next : Code) → (own_block (exit_of x) false ≡ false → next ≡ ending (exit_of x)) → onto new next ≡ onto old (call_begun i lead (exit_of x) false k piece call_of next)

  pub called_apart : (b0 b1 b2 : List Instr) (label : ℕ) (old new : List Instr) → x ≡ End → b0 ≡ [] → Puts b0 b1 (sought_begun i lead 1 2 k piece) → label ≡ d + 1
      → Puts b1 b2 (call_with label 1)
      → ((z : Code) → onto new z ≡ onto old (nest a_block None (code b2) z)) → Called old new
  called_apart b0 b1 b2 label old new is none search el called puts = λ next only.
      let z : label ≡ suc d = el ∙ omega arith in
      let whole : code b2 ≡ sought_begun i lead 1 2 k piece (call_of true) =
      sym (onto_done b2) ∙ called done ∙ (λ j. onto b1 (slots_got slots (plain (call_to c) (noted i (z j) k (set_to to (then_done (raised 0 1 behind) j)))))) ∙ search (call_of true)
      ∙ ap (λ xs. onto xs (sought_begun i lead 1 2 k piece (call_of true))) none ∙ onto_none _ in
      puts next ∙ ap (λ b. onto old (nest a_block None b next)) whole ∙ ap (onto old) (call_at_end i lead k piece call_of next)
      ∙ ap (λ y. onto old (call_begun i lead (exit_of y) false k piece call_of next)) (sym is)

  -- without a block of its own what ends the sequence comes next
  called_with_end : (mid new : List Instr) → Puts mid new (call_with d 0) → (next : Code) → next ≡ ending (exit_of x) → onto new next ≡ onto mid (call_of false)
  called_with_end mid new called next only =
      ap (onto new) only ∙ called (ending (exit_of x))
      ∙ ap (λ z. onto mid (slots_got slots (plain (call_to c) (noted i d k (set_to to z))))) (ending_is (exit_of x) (raised 0 0 behind))

  pub called_labelled : (l label : ℕ) (old mid new : List Instr) → x ≡ Label l → label ≡ l + 1 → Puts old mid (sought_begun i lead label 1 k piece) → Puts mid new (call_with d 0) → Called old new
  called_labelled l label old mid new is el search called = λ next only.
      let z : label ≡ suc l = el ∙ omega arith in
      called_with_end mid new called next (only (ap (λ y. own_block (exit_of y) false) is)) ∙ search (call_of false)
      ∙ ap (λ m. onto old (sought_begun i lead m 1 k piece (call_of false))) z ∙ ap (onto old) (call_at_label i lead l k piece call_of next)
      ∙ ap (λ y. onto old (call_begun i lead (exit_of y) false k piece call_of next)) (sym is)

  pub called_alone : (old mid new : List Instr) → (x ≡ End → ⊥) → ((l : ℕ) → x ≡ Label l → ⊥) → Puts old mid (guarded_begun i lead piece) → Puts mid new (call_with d 0) → Called old new
  called_alone old mid new inner unlabelled search called = λ next only.
      called_with_end mid new called next (only (no_block x inner unlabelled)) ∙ search (call_of false) ∙ ap (onto old) (call_alone i lead x k piece call_of next inner unlabelled)
