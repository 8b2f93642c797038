-- How large and how deep rewritten functions are, and what they cost at a pause.
use Rattle.std.proofs.Common.{◌≡◌, false, ℕ, ◌+◌, ◌*◌, ◌≤◌, length, Option, Some, None, max, ap, arith}
use Rattle.wa_types.specs.Bounds.{code_weight, plain_weight}
use Rattle.wa_types.specs.Counts.{count_of, depth_of}
use Rattle.wa_types.specs.Pruned.{pruned}
use Rattle.wa_types.specs.Sizes.{label_count}
use Rattle.wa_types.specs.Syntax.{Plain, basic, local_get, local_set, local_tee, br, br_if, br_table, return, unreachable, call, call_indirect, Code, done, plain, nest, branch, Func, Module}
use Rattle.wa_types.specs.declared.values.ValType.{ValType}
use Rattle.run_theory.specs.Flat.{FlatFunc, body_of, code_of, followed_by, result_got}
use Rattle.wa_model.specs.Rewrites.{instructions_and_labels}
use Rattle.flat_laws.specs.Flatten.{flattened}
use Rattle.guard_form.specs.Bounds.{over}
use Rattle.guard_form.specs.Guarded.{GuardIndices, block_unit, function_end, guard_indices}
use Rattle.guard_form.specs.Pieces.{Units, first_piece, flat_units, units}
use Rattle.frame_laws.specs.Function.{result_type}
use Rattle.frame_laws.specs.Layout.{Layout, kept_count, restore_code}
use Rattle.frame_laws.specs.Sizes.{result_size}
use Rattle.headline.specs.Rewritten.{rewritten, RewrittenIsSmall}
use Rattle.flat_laws.proofs.Depths.{flat_is_flat}
use Rattle.flat_laws.proofs.Sizes.{flat_is_small}
use Rattle.guard_form.proofs.EntrySizes.{entry_depth, entry_size}
use Rattle.guard_form.proofs.Grouped.{joins_law}
use Rattle.guard_form.proofs.Sizes.{depth_law, size_law}
use Rattle.guard_form.proofs.UnitCounts.{counted_law, passing_small}
use Rattle.frame_laws.proofs.FrameSizes.{function_depth, function_size, restore_depth, restore_size}
use Rattle.slot_laws.proofs.Few.{slots_are_few}

-- ---- instructions weigh something

module _ (m : Module) where
  plain_weighs : (p : Plain) → 1 + label_count p ≤ plain_weight m p
  plain_weighs (basic b) = omega arith
  plain_weighs (local_get x) = omega arith
  plain_weighs (local_set x) = omega arith
  plain_weighs (local_tee x) = omega arith
  plain_weighs (br l) = omega arith
  plain_weighs (br_if l) = omega arith
  plain_weighs (br_table ls l) = omega arith
  plain_weighs return = omega arith
  plain_weighs unreachable = omega arith
  plain_weighs (call x) = omega arith
  plain_weighs (call_indirect t) = omega arith

  weighs : (c : Code) → instructions_and_labels c ≤ code_weight m c
  unfolding instructions_and_labels code_weight
  weighs done = omega arith
  weighs (plain p c) = let e = plain_weighs p in let ih = weighs c in omega arith
  weighs (nest s r b c) = let ib = weighs b in let ih = weighs c in omega arith
  weighs (branch r a b c) = let ia = weighs a in let ib = weighs b in let ih = weighs c in omega arith

  plain_counts : (p : Plain) → 1 ≤ plain_weight m p
  plain_counts p = let e = plain_weighs p in omega arith

  pub counts : (c : Code) → count_of c ≤ code_weight m c
  unfolding count_of code_weight
  counts done = omega arith
  counts (plain p c) = let e = plain_counts p in let ih = counts c in omega arith
  counts (nest s r b c) = let ib = counts b in let ih = counts c in omega arith
  counts (branch r a b c) = let ia = counts a in let ib = counts b in let ih = counts c in omega arith

  in_body : (g : FlatFunc) → 1 + code_weight m (code_of g.body) ≤ code_weight m (body_of g)
  unfolding code_weight
  in_body g = omega arith

-- ---- flat code

flat_size : (m : Module) (x : ℕ) (f : Func) → instructions_and_labels (code_of (flattened m x f).body) ≤ 8 * code_weight m (pruned f.body) + 3
flat_size m x f =
    let w = weighs m (code_of (flattened m x f).body) in
    let b = in_body m (flattened m x f) in
    let s = flat_is_small m x f in
    omega arith

result_small : (o : Option ValType) → result_size o ≤ 1
result_small None = omega arith
result_small (Some t) = omega arith

-- ---- its own block as a unit

block_size : (first : Code) (us : Units) (r : Option ℕ)
    → instructions_and_labels (followed_by done (flat_units (block_unit first us r))) ≤ 2 + instructions_and_labels (followed_by first (flat_units us))
unfolding followed_by instructions_and_labels
block_size first us None = omega arith
block_size first us (Some x) = omega arith

block_depth : (first : Code) (us : Units) (r : Option ℕ) → depth_of (followed_by done (flat_units (block_unit first us r))) ≤ 1 + depth_of (followed_by first (flat_units us))
unfolding followed_by depth_of
block_depth first us None = omega arith
block_depth first us (Some x) = omega arith

result_over : (r : Option ℕ) → over (result_got r) ≤ 3
result_over None = omega arith
result_over (Some x) = omega arith

restored_depth : (l : Layout) (c : Code) → depth_of (restore_code l c) ≤ max 0 (depth_of c)
restored_depth l c = let e = restore_depth l c in omega arith

none_more : (c : Code) → instructions_and_labels c ≡ 0 + instructions_and_labels c
none_more c = omega arith

pub small_law : RewrittenIsSmall
small_law m i x f st places l valid at keeps =
    let g = flattened m x f in
    let first = first_piece places 0 g.body in
    let us = units places 0 g.body in
    let own = block_unit first us g.result in
    let ids : GuardIndices = guard_indices st (length g.locals) false own in
    let result = result_type g.locals g.result in
    let joins = ap instructions_and_labels (joins_law places 0 g.body) in
    let joins_depth = ap depth_of (joins_law places 0 g.body) in
    let flat = flat_size m x f in
    let few = (counted_law places 0 g.body).few in
    let entered = entry_size ids (restore_code l) (10 + 3 * kept_count l.fields) function_end 0 0 done own (restore_size l) in
    let guarded = size_law ids function_end 0 0 done own in
    let bare = entry_size ids (λ c. c) 0 function_end 0 0 done own none_more in
    let block = block_size first us g.result in
    let whole = function_size l (rewritten m x f st places l).body result in
    let res = result_small result in
    let slots = slots_are_few m i f valid at in
    let count = counts m (pruned f.body) in
    let pass = passing_small first us in
    let end = result_over g.result in
    let entered_depth = entry_depth ids (restore_code l) 0 function_end 0 0 done own (restored_depth l) in
    let deep = depth_law ids function_end 0 0 done own in
    let block_deep = block_depth first us g.result in
    let shallow = flat_is_flat m x f in
    let whole_depth = function_depth l (rewritten m x f st places l).body result in
    record { guarded = omega arith; size = omega arith; nesting = omega arith; cost = omega arith }
