-- Instructions that hold no other.
use Rattle.std.proofs.Common.{Bool, true, false, ◌≡◌, refl, ap, sym, ◌∙◌, Option}
use Rattle.std.specs.declared.vec.Vec.{Vec}
use Rattle.std.specs.declared.alloc.Global.{Global}
use Rattle.wa_types.specs.declared.values.ValType.{ValType}
use Rattle.wa_types.specs.declared.instrs.Instr.{Instr}
use Rattle.wa_types.specs.declared.instrs.Instr.TheVariants.{Block, Loop, If, Block', Loop', If'}
use Rattle.wa_types.specs.Leaves.{is_leaf}
use Rattle.wa_types.specs.Syntax.{Plain, done, plain}
use Rattle.wa_types.specs.View.{in_front}
use Rattle.wa_types.proofs.ViewLemmas.{is_block, is_loop, is_if, is_plain, instr_kind, in_br_table}

block_no_leaf : (r : Option ValType) (v : Vec Instr Global) → is_leaf (Block r v) ≡ false
unfolding is_leaf
block_no_leaf r v = refl

loop_no_leaf : (r : Option ValType) (v : Vec Instr Global) → is_leaf (Loop r v) ≡ false
unfolding is_leaf
loop_no_leaf r v = refl

if_no_leaf : (r : Option ValType) (v w : Vec Instr Global) → is_leaf (If r v w) ≡ false
unfolding is_leaf
if_no_leaf r v w = refl

-- what stands as one plain instruction holds no other
plain_leaf : (x : Instr) (p : Plain) → in_front x done ≡ plain p done → is_leaf x ≡ true
unfolding is_leaf in_front
plain_leaf (Block' r s k) p e = cc
plain_leaf (Loop' r s k) p e = cc
plain_leaf (If' r s k t l) p e = cc
plain_leaf _ p e = refl

pub leaf_other : (x : Instr) → ((r : Option ValType) (v : Vec Instr Global) → x ≡ Block r v → ⊥) → ((r : Option ValType) (v : Vec Instr Global) → x ≡ Loop r v → ⊥)
    → ((r : Option ValType) (v w : Vec Instr Global) → x ≡ If r v w → ⊥) → is_leaf x ≡ true
leaf_other x not_block not_loop not_if = elim (instr_kind x) [
  | is_block r v e ↦ absurd (not_block r v e)
  | is_loop r v e ↦ absurd (not_loop r v e)
  | is_if r v w e ↦ absurd (not_if r v w e)
  | is_plain p e ↦ plain_leaf x p (e done)
]

-- no construct is a leaf
pub block_unlike : (x : Instr) (r : Option ValType) (v : Vec Instr Global) → is_leaf x ≡ true → x ≡ Block r v → ⊥
block_unlike x r v e f = let g : true ≡ false = sym e ∙ ap is_leaf f ∙ block_no_leaf r v in cc

pub loop_unlike : (x : Instr) (r : Option ValType) (v : Vec Instr Global) → is_leaf x ≡ true → x ≡ Loop r v → ⊥
loop_unlike x r v e f = let g : true ≡ false = sym e ∙ ap is_leaf f ∙ loop_no_leaf r v in cc

pub if_unlike : (x : Instr) (r : Option ValType) (v w : Vec Instr Global) → is_leaf x ≡ true → x ≡ If r v w → ⊥
if_unlike x r v w e f = let g : true ≡ false = sym e ∙ ap is_leaf f ∙ if_no_leaf r v w in cc

pub ruleset copying_leaf = (in_br_table, block_unlike, loop_unlike, if_unlike)
