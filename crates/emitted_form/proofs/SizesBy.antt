-- How large and how deep a written function is, whatever the codes of its frame.
use Rattle.std.proofs.Common.{◌≡◌, ◌∙◌, ℕ, suc, ◌+◌, ◌-◌, ◌*◌, ◌≤◌, List, [], ◌∷◌, ◌++◌, length, drop, Option, Some, None, Bool, refl, sym, ap, arith}
use Rattle.std.specs.Prelude.{slice_get, max}
use Rattle.wa_types.specs.declared.values.ValType.{ValType}
use Rattle.wa_types.specs.Bounds.{plain_weight, code_weight}
use Rattle.wa_types.specs.Counts.{count_of, depth_of}
use Rattle.wa_types.specs.Modules.{around}
use Rattle.wa_types.specs.Pausing.{Settings, Numbered}
use Rattle.wa_types.specs.Pruned.{pruned}
use Rattle.wa_types.specs.Runtime.{global_space}
use Rattle.wa_types.specs.Sizes.{label_count}
use Rattle.wa_types.specs.Syntax.{basic, local_get, local_set, local_tee, br, br_if, br_table, return, unreachable, call, call_indirect, Plain, Code, done, plain, nest, branch, Func, Module}
use Rattle.wa_types.specs.Typing.{Around, listed, sig, label}
use Rattle.wa_types.specs.Points.{after}
use Rattle.wa_model.specs.Rewrites.{instructions_and_labels}
use Rattle.wa_model.specs.declared.flat.Operand.TheVariants.{Local}
use Rattle.run_theory.specs.Flat.{Stmts, no_more, leaps, leaps_if, leaps_by, followed_by, code_of, body_of, result_got}
use Rattle.flat_laws.specs.Flatten.{Names, names, top, carry_to, carry, carry_all, arrive, flat_plain, flat, flattened}
use Rattle.flat_laws.proofs.Depths.{flat_is_flat}
use Rattle.flat_laws.proofs.Sizes.{flat_is_small}
use Rattle.flat_laws.proofs.ValidModules.{flat_pruned}
use Rattle.frame_laws.specs.Function.{result_type, value_code}
use Rattle.guard_form.specs.Bounds.{unit_count}
use Rattle.guard_form.specs.Functions.{GuardedFunc, indices_of}
use Rattle.guard_form.specs.Guarded.{GuardIndices, nowhere, front, block_unit, written_body}
use Rattle.guard_form.specs.Pieces.{Units, first_piece, flat_units, units}
use Rattle.slim_laws.specs.SlimModule.{Pieces, SlimPieces, flat_terms}
use Rattle.slim_laws.specs.SlimUnitLaws.{SlimmerUnits}
use Rattle.slim_laws.proofs.UnitSizes.{slimmer_law}
use Rattle.slim_laws.proofs.UnitsAlike.{units_alike}
use Rattle.guard_form.proofs.Grouped.{joins_law}
use Rattle.guard_form.proofs.EntrySizes.{entry_depth, entry_size}
use Rattle.guard_form.proofs.Sizes.{depth_law, size_law, size_then}
use Rattle.emitted_form.proofs.UnitsFew.{calls_and_constructs, units_are_few}
use Rattle.emitted_form.specs.CodesHold.{codes_size}
use Rattle.emitted_form.specs.EmittedBy.{FrameCode, guarded_by, written_by}

-- ---- calls and constructs of flat code

module _ (n : Names) where
  abbrev cc : Stmts → ℕ
  cc s = calls_and_constructs s

  carried : (d : ℕ) (r : Option (Option ValType)) (ops : List ValType) (s : Stmts) → cc (carry_to n d r ops s) ≡ cc s
  carried d None ops s = refl
  carried d (Some None) ops s = refl
  carried d (Some (Some t)) ops s = refl

  carried_to : (ls : List (Option ValType)) (ops : List ValType) (l : ℕ) (s : Stmts) → cc (carry n ls ops l s) ≡ cc s
  carried_to ls ops l s = carried (length ls - suc l) (slice_get ls l) ops s

  all_carried : (ls : List (Option ValType)) (ops : List ValType) (labels : List ℕ) (s : Stmts) → cc (carry_all n ls ops labels s) ≡ cc s
  all_carried ls ops [] s = refl
  all_carried ls ops (l ∷ labels) s = carried_to ls ops l (carry_all n ls ops labels s) ∙ all_carried ls ops labels s

  arrived : (d : ℕ) (r : Option ValType) (ops : List ValType) (s : Stmts) → cc (arrive n d r ops s) ≡ cc s
  arrived d None ops s = refl
  arrived d (Some t) ops s = refl

  plain_few : (c : Around) (ls : List (Option ValType)) (ops behind : List ValType) (p : Plain) (s : Stmts) → cc (flat_plain n c ls ops behind p s) ≤ suc (cc s)
  plain_few c ls ops behind (basic b) s = omega arith
  plain_few c ls ops behind (local_get x) s = omega arith
  plain_few c ls ops behind (local_set x) s = omega arith
  plain_few c ls ops behind (local_tee x) s = omega arith
  plain_few c ls ops behind (br l) s = let e = carried_to ls ops l (leaps l no_more) in omega arith
  plain_few c ls ops behind (br_if l) s = let e = carried_to ls (drop 1 ops) l (leaps_if (Local (top n ops)) l s) in omega arith
  plain_few c ls ops behind (br_table ts l) s =
      let k : Stmts = carry n ls (drop 1 ops) l (leaps_by (Local (top n ops)) ts l no_more) in
      let e = all_carried ls (drop 1 ops) ts k in
      let g = carried_to ls (drop 1 ops) l (leaps_by (Local (top n ops)) ts l no_more) in omega arith
  plain_few c ls ops behind return s = let e = carried_to ls ops (length ls - 1) (leaps (length ls - 1) no_more) in omega arith
  plain_few c ls ops behind unreachable s = omega arith
  plain_few c ls ops behind (call x) s = omega arith
  plain_few c ls ops behind (call_indirect x) s = omega arith

  flat_few : (c : Around) (ls : List (Option ValType)) (code : Code) (ops : List ValType) → cc (flat n c ls code ops) ≤ count_of code
  unfolding flat count_of
  flat_few c ls done ops = let e = carried_to ls ops 0 no_more in omega arith
  flat_few c ls (plain p rest) ops =
      let behind : List ValType = after (sig c ls p) ops in
      let le = plain_few c ls ops behind p (flat n c ls rest behind) in
      let ih = flat_few c ls rest behind in omega arith
  flat_few c ls (nest s r body rest) ops =
      let e = arrived (length ls) (label s r) ops (flat n c ls rest (listed r ++ ops)) in
      let a = flat_few c (label s r ∷ ls) body ops in
      let b = flat_few c ls rest (listed r ++ ops) in omega arith
  flat_few c ls (branch r a b rest) ops =
      let e = arrived (length ls) r (drop 1 ops) (flat n c ls rest (listed r ++ drop 1 ops)) in
      let ia = flat_few c (r ∷ ls) a (drop 1 ops) in
      let ib = flat_few c (r ∷ ls) b (drop 1 ops) in
      let ic = flat_few c ls rest (listed r ++ drop 1 ops) in omega arith

-- ---- weight

plain_weighs : (m : Module) (p : Plain) → 1 + label_count p ≤ plain_weight m p
plain_weighs m (basic b) = omega arith
plain_weighs m (local_get x) = omega arith
plain_weighs m (local_set x) = omega arith
plain_weighs m (local_tee x) = omega arith
plain_weighs m (br l) = omega arith
plain_weighs m (br_if l) = omega arith
plain_weighs m (br_table ts l) = omega arith
plain_weighs m return = omega arith
plain_weighs m unreachable = omega arith
plain_weighs m (call x) = omega arith
plain_weighs m (call_indirect x) = omega arith

pub code_weighs : (m : Module) (c : Code) → instructions_and_labels c ≤ code_weight m c
unfolding instructions_and_labels code_weight
code_weighs m done = omega arith
code_weighs m (plain p rest) = let a = plain_weighs m p in let b = code_weighs m rest in omega arith
code_weighs m (nest s r body rest) = let a = code_weighs m body in let b = code_weighs m rest in omega arith
code_weighs m (branch r a b rest) = let ia = code_weighs m a in let ib = code_weighs m b in let ic = code_weighs m rest in omega arith

pub counts_less : (c : Code) → count_of c ≤ instructions_and_labels c
unfolding instructions_and_labels count_of
counts_less done = omega arith
counts_less (plain p rest) = let b = counts_less rest in omega arith
counts_less (nest s r body rest) = let a = counts_less body in let b = counts_less rest in omega arith
counts_less (branch r a b rest) = let ia = counts_less a in let ib = counts_less b in let ic = counts_less rest in omega arith

-- ---- the body of a function

result_has : (o : Option ℕ) → instructions_and_labels (result_got o) ≤ 1
unfolding instructions_and_labels
result_has None = omega arith
result_has (Some y) = omega arith

result_flat : (o : Option ℕ) → depth_of (result_got o) ≡ 0
unfolding depth_of
result_flat None = refl
result_flat (Some y) = refl

value_has : (t : Option ValType) → instructions_and_labels (value_code t) ≤ 1
unfolding instructions_and_labels
value_has None = omega arith
value_has (Some t) = omega arith

value_flat : (t : Option ValType) → depth_of (value_code t) ≡ 0
unfolding depth_of
value_flat None = refl
value_flat (Some t) = refl

deep_then : (c d : Code) → depth_of (followed_by c d) ≡ max (depth_of c) (depth_of d)
unfolding depth_of followed_by
deep_then done d = omega arith
deep_then (plain p c) d = deep_then c d
deep_then (nest s r b c) d = let e = deep_then c d in grind arith
deep_then (branch r x y c) d = let e = deep_then c d in grind arith

module _ (i : GuardIndices) (restoring saving first : Code) (us : Units) (o : Option ℕ) (t : Option ValType) where
  abbrev written : Code
  written = written_body i (followed_by restoring) (followed_by saving (value_code t)) done (block_unit first us o)

  -- the guarded sequence of the function's own block
  abbrev inside : Code
  inside = front i nowhere 1 0 first us

  pub body_size : instructions_and_labels written
      ≤ 6 + instructions_and_labels restoring + instructions_and_labels saving + instructions_and_labels inside + instructions_and_labels (result_got o)
  unfolding instructions_and_labels
  body_size =
      let a = entry_size i (followed_by restoring) (instructions_and_labels restoring) nowhere 1 0 first us (λ c. size_then restoring c) in
      let b = size_then saving (value_code t) in
      let e = size_then (result_got o) (plain return done) in
      let v = value_has t in omega arith

  pub body_depth : depth_of restoring ≤ 1 → depth_of saving ≤ 1 → depth_of written ≤ 4 + depth_of inside
  unfolding depth_of
  body_depth r s =
      let a = entry_depth i (followed_by restoring) 1 nowhere 1 0 first us (λ c. let e = deep_then restoring c in omega arith) in
      let b = deep_then saving (value_code t) in
      let e = deep_then (result_got o) (plain return done) in
      let n = result_flat o in
      let v = value_flat t in omega arith

-- ---- a written function

module _ (m : Module) (s : Settings) (which : List Bool) (codes : (index : ℕ) → Func → FrameCode) (x : ℕ) (f : Func) (sp : SlimPieces m (Numbered m s which f) x f (codes x f).pieces) where
  abbrev gf : GuardedFunc
  gf = guarded_by m s which codes x f

  abbrev ps : Pieces
  ps = (codes x f).pieces

  abbrev guarded : Code
  guarded = front (indices_of (global_space m) gf) nowhere 1 0 ps.first ps.units

  abbrev flat_code : Code
  flat_code = code_of (flattened m x f).body

  abbrev result : Option ℕ
  result = (flattened m x f).result

  abbrev w : ℕ
  w = code_weight m (pruned f.body)

  abbrev first0 : Code
  first0 = first_piece (Numbered m s which f) 0 (flattened m x f).body

  abbrev units0 : Units
  units0 = units (Numbered m s which f) 0 (flattened m x f).body

  joined : followed_by first0 (flat_units units0) ≡ flat_code
  joined = joins_law (Numbered m s which f) 0 (flattened m x f).body

  -- slim pieces are no larger
  slimmer : SlimmerUnits (global_space m) [] first0 ps.first units0 ps.units
  slimmer = slimmer_law (flat_terms m (Numbered m s which f) x f) 0 (sp.out ∷ []) sp.out sp.here [] first0 ps.first units0 ps.units (global_space m) sp.slim

  few_units : unit_count ps.units ≤ w
  few_units =
      let a = units_are_few (Numbered m s which f) 0 (flattened m x f).body in
      let b = flat_few (names m f) (around m f) ((around m f).result ∷ []) (pruned f.body) [] in
      let e : calls_and_constructs (flattened m x f).body ≡ calls_and_constructs (flat (names m f) (around m f) ((around m f).result ∷ []) (pruned f.body) []) =
      ap calls_and_constructs (sym (flat_pruned (names m f) (around m f) ((around m f).result ∷ []) f.body [])) in
      let c = counts_less (pruned f.body) in
      let d = code_weighs m (pruned f.body) in
      let same = (units_alike (flat_terms m (Numbered m s which f) x f) 0 (sp.out ∷ []) sp.out sp.here [] first0 ps.first units0 ps.units sp.slim).count in omega arith

  -- the flat code and its result, without the block around
  flat_size : instructions_and_labels flat_code + instructions_and_labels (result_got result) ≤ 8 * w + 3
  unfolding instructions_and_labels
  flat_size =
      let a = flat_is_small m x f in
      let b = code_weighs m (body_of (flattened m x f)) in omega arith

  guarded_size : instructions_and_labels guarded ≤ instructions_and_labels flat_code + 11 * w + 2
  guarded_size =
      let a = size_law (indices_of (global_space m) gf) nowhere 1 0 ps.first ps.units in
      let e = ap instructions_and_labels joined in
      let z = slimmer in
      let less = z.size in
      let b = few_units in omega arith

  pub written_size : instructions_and_labels (written_by m s which codes x f).body ≤ 19 * w + codes_size (codes x f) + 11
  written_size =
      let a = body_size (indices_of (global_space m) gf) (codes x f).restoring (codes x f).saving ps.first ps.units result (result_type (flattened m x f).locals result) in
      let g = guarded_size in
      let h = flat_size in omega arith

  pub written_depth : depth_of (codes x f).restoring ≤ 1 → depth_of (codes x f).saving ≤ 1 → depth_of (written_by m s which codes x f).body ≤ depth_of (pruned f.body) + 6
  written_depth r s =
      let a = body_depth (indices_of (global_space m) gf) (codes x f).restoring (codes x f).saving ps.first ps.units result (result_type (flattened m x f).locals result) r s in
      let b = depth_law (indices_of (global_space m) gf) nowhere 1 0 ps.first ps.units in
      let e = ap depth_of joined in
      let z = slimmer in
      let less = z.depth in
      let c = flat_is_flat m x f in omega arith
