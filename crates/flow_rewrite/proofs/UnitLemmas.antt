-- Units, one by one.
use Rattle.std.proofs.Common.{◌≡◌, ℕ, zero, suc, ◌+◌, ◌<◌, ◌≤◌, ◌^◌, ◌∷◌, ◌++◌, List, [], length, get_or, drop, Option, Some, None, Bool, true, false, subst, refl, sym, ap, ◌∙◌, arith, add-one, drop-cons}
use Rattle.std.specs.Prelude.{min, nat_eq}
use Rattle.std.proofs.lemmas.Bool.{ne_eqb}
use Rattle.std.specs.declared.vec.Vec.{Vec}
use Rattle.std.specs.declared.alloc.Global.{Global}
use Rattle.wa_types.specs.declared.instrs.Instr.{Instr}
use Rattle.wa_types.specs.Counts.{depth_of}
use Rattle.wa_types.specs.Pausing.{Callee}
use Rattle.wa_types.specs.Syntax.{a_block, a_loop, Plain, Shape, Code, plain, nest, branch}
use Rattle.wa_types.specs.View.{code}
use Rattle.wa_types.proofs.ViewLemmas.{code_none}
use Rattle.wa_model.specs.declared.flat.Operand.{Operand}
use Rattle.run_theory.specs.Flat.{followed_by, result_got, set_to}
use Rattle.guard_form.specs.Pieces.{Units, no_unit, call_unit, nest_unit, if_unit, any_unit, call_to, got_any, flat_units, numbers_in}
use Rattle.guard_form.specs.Bounds.{unit_count}
use Rattle.guard_form.specs.Guarded.{Exit, its_end, by_label, nowhere, function_end, block_unit, exit_behind, exit_inside}
use Rattle.guard_form.proofs.UnitLemmas.{Some_unit}
use Rattle.flow_rewrite.specs.Raising.{Raisable}
use Rattle.flow_rewrite.specs.declared.pieces.Target.{Target}
use Rattle.flow_rewrite.specs.declared.pieces.Unit.{Unit, Row_of-Unit, end_of-Unit, more_of-Unit, items-the_row-Unit, items_hidden-the_row-Unit-0}
use Rattle.flow_rewrite.specs.declared.pieces.Unit.TheBlock.{hidden-the_row-Unit-0}
use Rattle.flow_rewrite.specs.declared.pieces.Unit.TheVariants.{Call, Block, Loop, If, Block', Loop', If'}
use Rattle.flow_rewrite.specs.UnitView.{callee_of, unit_in_front, row_units, units_of}
use Rattle.flow_rewrite.specs.Exits.{exit_at, LabelBelow}
use Rattle.flow_rewrite.specs.Fronts.{UnitsRaisable, Ready, piece_behind}
use Rattle.flow_rewrite.proofs.PieceLemmas.{raisable_then, raisable_slots, raisable_to, raisable_got, raisable_done, shallow_of}

-- ---- the view

row_is : {m : _} → (k : Row_of-Unit m) → row_units k ≡ units_of (items-the_row-Unit m k)
unfolding units_of row_units unit_in_front
row_is end_of-Unit = refl
row_is (more_of-Unit i k) = ap (unit_in_front i) (row_is k)

vec_is : (v : Vec Unit Global) → row_units (hidden-the_row-Unit-0 v) ≡ units_of v.items
vec_is v = row_is (hidden-the_row-Unit-0 v) ∙ ap units_of (items_hidden-the_row-Unit-0 v)

pub call_is : (u : Unit) (slots : Vec ℕ Global) (x : Target) (to : Option ℕ) (behind : Vec Instr Global) → u ≡ Call slots x to behind → (rest : Units)
    → unit_in_front u rest ≡ call_unit slots.items (callee_of x) to (code behind.items) rest
unfolding unit_in_front
call_is u slots x to behind e rest = ap (λ y. unit_in_front y rest) e

pub block_is : (u : Unit) (first : Vec Instr Global) (body : Vec Unit Global) (behind : Vec Instr Global) → u ≡ Block first body behind → (rest : Units)
    → unit_in_front u rest ≡ nest_unit a_block (code first.items) (units_of body.items) (code behind.items) rest
unfolding unit_in_front row_units
block_is u first body behind e rest = ap (λ y. unit_in_front y rest) e ∙ ap (λ b. nest_unit a_block (code first.items) b (code behind.items) rest) (vec_is body)

pub loop_is : (u : Unit) (first : Vec Instr Global) (body : Vec Unit Global) (behind : Vec Instr Global) → u ≡ Loop first body behind → (rest : Units)
    → unit_in_front u rest ≡ nest_unit a_loop (code first.items) (units_of body.items) (code behind.items) rest
unfolding unit_in_front row_units
loop_is u first body behind e rest = ap (λ y. unit_in_front y rest) e ∙ ap (λ b. nest_unit a_loop (code first.items) b (code behind.items) rest) (vec_is body)

pub if_is : (u : Unit) (o : Option Operand) (fa : Vec Instr Global) (a : Vec Unit Global) (fb : Vec Instr Global) (b : Vec Unit Global) (behind : Vec Instr Global)
    → u ≡ If o fa a fb b behind → (rest : Units)
    → unit_in_front u rest ≡ if_unit o (code fa.items) (units_of a.items) (code fb.items) (units_of b.items) (code behind.items) rest
unfolding unit_in_front row_units
if_is u o fa a fb b behind e rest =
    ap (λ y. unit_in_front y rest) e ∙ (λ j. if_unit o (code fa.items) (vec_is a j) (code fb.items) (vec_is b j) (code behind.items) rest)

-- a list of one block
pub own_block_is : (first : Vec Instr Global) (body : Vec Unit Global) (behind : Vec Instr Global) (none new : List Unit) (o : Option ℕ) → none ≡ [] → new ≡ none ++ Block first body behind ∷ []
    → code behind.items ≡ result_got o → units_of new ≡ block_unit (code first.items) (units_of body.items) o
unfolding units_of
own_block_is first body behind none new o empty pushed got =
    ap units_of (pushed ∙ ap (λ xs. xs ++ Block first body behind ∷ []) empty) ∙ block_is (Block first body behind) first body behind refl no_unit
    ∙ ap (λ z. nest_unit a_block (code first.items) (units_of body.items) z no_unit) got

pub units_none : units_of [] ≡ no_unit
unfolding units_of
units_none = refl

pub units_empty : (xs : List Unit) → length xs ≤ 0 → units_of xs ≡ no_unit
units_empty [] le = units_none
units_empty (x ∷ xs) le = absurd (omega arith)

pub units_some : (xs : List Unit) → 0 < length xs → Some_unit (units_of xs)
unfolding units_of unit_in_front
units_some [] lt = absurd (omega arith)
units_some (Call slots x to behind ∷ xs) lt = tt
units_some (Block' first s body behind ∷ xs) lt = tt
units_some (Loop' first s body behind ∷ xs) lt = tt
units_some (If' o fa s a fb t b behind ∷ xs) lt = tt

pub units_step : (xs : List Unit) (i : ℕ) (x : Unit) → i < length xs → x ≡ get_or xs i x → units_of (drop i xs) ≡ unit_in_front x (units_of (drop (i + 1) xs))
unfolding units_of
units_step xs i x lt at = rw (add-one, drop-cons xs i x) (ap (λ y. unit_in_front y (units_of (drop (suc i) xs))) (sym at))

pub units_end : (xs : List Unit) (i : ℕ) → length xs ≤ i → units_of (drop i xs) ≡ no_unit
unfolding units_of
units_end [] zero le = refl
units_end [] (suc i) le = refl
units_end (y ∷ ys) zero le = absurd (omega arith)
units_end (y ∷ ys) (suc i) le = units_end ys i (omega arith)

unit_any : (u : Unit) (rest : Units) → any_unit (unit_in_front u rest) ≡ true
unfolding unit_in_front
unit_any (Call slots x to behind) rest = refl
unit_any (Block' first s body behind) rest = refl
unit_any (Loop' first s body behind) rest = refl
unit_any (If' o fa s a fb t b behind) rest = refl

any_there : (xs : List Unit) (i : ℕ) → i < length xs → any_unit (units_of (drop i xs)) ≡ true
unfolding units_of
any_there [] i lt = absurd (omega arith)
any_there (y ∷ ys) zero lt = unit_any y (units_of ys)
any_there (y ∷ ys) (suc i) lt = any_there ys i (omega arith)

-- whether units are left behind one
pub any_left : (xs : List Unit) (i left : ℕ) (more : Bool) → left + i ≡ length xs → (more ≡ true → 0 < left) → (more ≡ false → left ≤ 0) → any_unit (units_of (drop i xs)) ≡ more
any_left xs i left false e some none = let z = none refl in ap any_unit (units_end xs i (omega arith))
any_left xs i left true e some none = let z = some refl in any_there xs i (omega arith)

-- ---- one unit in front of others

pub ready_one : (e : Exit) (d k : ℕ) (piece : Code) (u : Unit) (rest : Units) → Ready e d k piece (unit_in_front u rest) → Ready e d k piece (unit_in_front u no_unit)
unfolding unit_in_front
ready_one e d k piece (Call slots x to behind) rest h = let n = h.numbers in record { label = h.label; piece = h.piece; units = (h.units.0, tt); numbers = omega arith }
ready_one e d k piece (Block' first s body behind) rest h = let n = h.numbers in record { label = h.label; piece = h.piece; units = (h.units.0, h.units.1, h.units.2, tt); numbers = omega arith }
ready_one e d k piece (Loop' first s body behind) rest h = let n = h.numbers in record { label = h.label; piece = h.piece; units = (h.units.0, h.units.1, h.units.2, tt); numbers = omega arith }
ready_one e d k piece (If' o fa s a fb t b behind) rest h =
    let n = h.numbers in record { label = h.label; piece = h.piece; units = (h.units.0, h.units.1, h.units.2, h.units.3, h.units.4, tt); numbers = omega arith }

pub ready_behind : (e : Exit) (d k j : ℕ) (piece : Code) (u : Unit) (rest : Units) → Ready e d k piece (unit_in_front u rest) → j ≡ k + numbers_in (unit_in_front u no_unit)
    → Ready e d j (code (piece_behind u)) rest × (k + numbers_in (unit_in_front u rest) ≡ j + numbers_in rest)
unfolding unit_in_front
ready_behind e d k j piece (Call slots x to behind) rest h ne =
    let n = h.numbers in (record { label = h.label; piece = nothing d (shallow_of d 2 piece h.piece); units = h.units.1; numbers = omega arith }, omega arith)
  where
    nothing : (d : ℕ) → d < 2 ^ 31 → Raisable d 2 (code [])
    nothing d lt = subst (Raisable d 2) (sym code_none) (raisable_done d lt)
ready_behind e d k j piece (Block' first s body behind) rest h ne = let n = h.numbers in (record { label = h.label; piece = h.units.2; units = h.units.3; numbers = omega arith }, omega arith)
ready_behind e d k j piece (Loop' first s body behind) rest h ne = let n = h.numbers in (record { label = h.label; piece = h.units.2; units = h.units.3; numbers = omega arith }, omega arith)
ready_behind e d k j piece (If' o fa s a fb t b behind) rest h ne = let n = h.numbers in (record { label = h.label; piece = h.units.4; units = h.units.5; numbers = omega arith }, omega arith)

pub count_front : (u : Unit) (rest : Units) → unit_count (unit_in_front u rest) ≡ unit_count (unit_in_front u no_unit) + unit_count rest
unfolding unit_in_front
count_front (Call slots x to behind) rest = omega arith
count_front (Block' first s body behind) rest = omega arith
count_front (Loop' first s body behind) rest = omega arith
count_front (If' o fa s a fb t b behind) rest = omega arith

pub numbers_front : (u : Unit) (rest : Units) → numbers_in (unit_in_front u rest) ≡ numbers_in (unit_in_front u no_unit) + numbers_in rest
unfolding unit_in_front
numbers_front (Call slots x to behind) rest = omega arith
numbers_front (Block' first s body behind) rest = omega arith
numbers_front (Loop' first s body behind) rest = omega arith
numbers_front (If' o fa s a fb t b behind) rest = omega arith

-- ---- how many numbered calls

-- so many were found, up to 2, with these units to come
pub record Found (all found left : ℕ) : Type 0 where
  pub few : found ≤ 2
  pub same : min (found + left) 2 ≡ min all 2

pub one_more_found : (all found new : ℕ) (xs : List Unit) (i : ℕ) (u : Unit) → i < length xs → u ≡ get_or xs i u → Found all found (numbers_in (units_of (drop i xs)))
    → new ≡ min (found + min (numbers_in (unit_in_front u no_unit)) 2) 2 → Found all new (numbers_in (units_of (drop (i + 1) xs)))
one_more_found all found new xs i u lt at h is =
    let n = ap numbers_in (units_step xs i u lt at) ∙ numbers_front u (units_of (drop (i + 1) xs)) in
    let few = h.few in
    let same = h.same in
    record { few = grind arith; same = grind arith }

pub all_found : (all found : ℕ) (xs : List Unit) (i : ℕ) → length xs ≤ i → Found all found (numbers_in (units_of (drop i xs))) → found ≡ min all 2
all_found all found xs i le h =
    let n = ap numbers_in (units_end xs i le) in
    let few = h.few in
    let same = h.same in
    grind arith

-- ---- from the labels of the flat code

inside : (d n : ℕ) (s : Shape) (body rest : Code) → Raisable d n (nest s None body rest) → Raisable (suc d) n body × Raisable d n rest
unfolding depth_of
inside d n s body rest h =
    let q = h.shallow in (record { few = h.few; labels = h.labels.0; shallow = omega arith }, record { few = h.few; labels = h.labels.1; shallow = omega arith })

arms : (d n : ℕ) (a b rest : Code) → Raisable d n (branch None a b rest) → Raisable (suc d) n a × Raisable (suc d) n b × Raisable d n rest
unfolding depth_of
arms d n a b rest h =
    let q = h.shallow in (
      record { few = h.few; labels = h.labels.0; shallow = omega arith },
      record { few = h.few; labels = h.labels.1; shallow = omega arith },
      record { few = h.few; labels = h.labels.2; shallow = omega arith },
    )

called : (d n : ℕ) (p : Plain) (rest : Code) → Raisable d n (plain p rest) → Raisable d n rest
unfolding depth_of
called d n p rest h = record { few = h.few; labels = h.labels.1; shallow = h.shallow }

raisable_any : (d n : ℕ) (o : Option Operand) (c : Code) → Raisable d n (got_any o c) → Raisable d n c
raisable_any d n None c h = h
raisable_any d n (Some o) c h = raisable_got d n o c h

pub pieces_raisable : (d : ℕ) (us : Units) → Raisable d 2 (flat_units us) → UnitsRaisable d us
pieces_raisable d no_unit h = tt
pieces_raisable d (call_unit slots x to behind rest) h =
    let c = followed_by behind (flat_units rest) in
    let q = raisable_then d 2 behind (flat_units rest) (raisable_to d 2 to c (called d 2 (call_to x) (set_to to c) (raisable_slots d 2 slots (plain (call_to x) (set_to to c)) h))) in
    (q.0, pieces_raisable d rest q.1)
pieces_raisable d (nest_unit s first body behind rest) h =
    let q = inside d 2 s (followed_by first (flat_units body)) (followed_by behind (flat_units rest)) h in
    let a = raisable_then (suc d) 2 first (flat_units body) q.0 in
    let b = raisable_then d 2 behind (flat_units rest) q.1 in
    (a.0, pieces_raisable (suc d) body a.1, b.0, pieces_raisable d rest b.1)
pieces_raisable d (if_unit o fa a fb b behind rest) h =
    let q = arms d 2 (followed_by fa (flat_units a)) (followed_by fb (flat_units b)) (followed_by behind (flat_units rest)) (raisable_any d 2 o _ h) in
    let x = raisable_then (suc d) 2 fa (flat_units a) q.0 in
    let y = raisable_then (suc d) 2 fb (flat_units b) q.1 in
    let z = raisable_then d 2 behind (flat_units rest) q.2 in
    (x.0, pieces_raisable (suc d) a x.1, y.0, pieces_raisable (suc d) b y.1, z.0, pieces_raisable d rest z.1)

-- ---- what is inside of a unit

behind_below : (s : Shape) (d : ℕ) → LabelBelow (d + 1) (exit_behind s)
behind_below a_block d = omega arith
behind_below a_loop d = tt

-- inside of a construct an exit's label is one further out
exit_below : (e : Exit) (s : Shape) (d : ℕ) → LabelBelow d e → LabelBelow (d + 1) (exit_inside e s false)
exit_below its_end s d h = behind_below s d
exit_below (by_label l) s d h = omega arith
exit_below nowhere s d h = tt
exit_below function_end s d h = tt

pub label_small : (e : Exit) (d : ℕ) → d < 2 ^ 31 → LabelBelow d e → LabelBelow (2 ^ 31) e
label_small its_end d lt h = tt
label_small (by_label l) d lt h = omega arith
label_small nowhere d lt h = tt
label_small function_end d lt h = tt

unit_below : (d : ℕ) (e : Exit) (more : Bool) → LabelBelow d e → LabelBelow d (exit_at e more)
unit_below d e true h = tt
unit_below d e false h = h

-- one unit of a sequence has its own exit
pub ready_at : (e v : Exit) (more : Bool) (d k : ℕ) (piece : Code) (us : Units) → v ≡ exit_at e more → Ready e d k piece us → Ready v d k piece us
ready_at e v more d k piece us is h = record { label = subst (LabelBelow d) (sym is) (unit_below d e more h.label); piece = h.piece; units = h.units; numbers = h.numbers }

pub call_ready : (e : Exit) (d k : ℕ) (piece : Code) (v : Units) (slots : List ℕ) (x : Callee) (to : Option ℕ) (behind : Code) → v ≡ call_unit slots x to behind no_unit → Ready e d k piece v
    → Raisable d 2 behind × (k + 1 < 2 ^ 32)
call_ready e d k piece v slots x to behind is h = let q = subst (Ready e d k piece) is h in let n = q.numbers in (q.units.0, omega arith)

pub nest_ready : (e w : Exit) (d k : ℕ) (piece : Code) (v : Units) (s : Shape) (first : Code) (body : Units) (behind : Code) → v ≡ nest_unit s first body behind no_unit
    → w ≡ exit_inside e s false → Ready e d k piece v → Ready w (d + 1) k first body
nest_ready e w d k piece v s first body behind is ew h =
    let q = subst (Ready e d k piece) is h in
    let n = q.numbers in
    let z : suc d ≡ d + 1 = omega arith in
    record {
      label = subst (LabelBelow (d + 1)) (sym ew) (exit_below e s d q.label);
      piece = subst (λ l. Raisable l 2 first) z q.units.0;
      units = subst (λ l. UnitsRaisable l body) z q.units.1;
      numbers = omega arith;
    }

pub arms_ready : (e w : Exit) (d k j : ℕ) (piece : Code) (v : Units) (o : Option Operand) (fa : Code) (a : Units) (fb : Code) (b : Units) (behind : Code)
    → v ≡ if_unit o fa a fb b behind no_unit
    → w ≡ exit_inside e a_block false → Ready e d k piece v → Ready w (d + 1) k fa a × (j ≡ k + numbers_in a → Ready w (d + 1) j fb b)
arms_ready e w d k j piece v o fa a fb b behind is ew h =
    let q = subst (Ready e d k piece) is h in
    let n = q.numbers in
    let z : suc d ≡ d + 1 = omega arith in
    let below = subst (LabelBelow (d + 1)) (sym ew) (exit_below e a_block d q.label) in (
      record { label = below; piece = subst (λ l. Raisable l 2 fa) z q.units.0; units = subst (λ l. UnitsRaisable l a) z q.units.1; numbers = omega arith },
      λ x. record { label = below; piece = subst (λ l. Raisable l 2 fb) z q.units.2; units = subst (λ l. UnitsRaisable l b) z q.units.3; numbers = omega arith },
    )

pub whole_ready : (xs first : List Instr) (ys us : List Unit) → xs ≡ first → ys ≡ us
    → Raisable 0 2 (followed_by (code first) (flat_units (units_of us))) → numbers_in (units_of us) < 2 ^ 32 → Ready function_end 0 0 (code xs) (units_of ys)
whole_ready xs first ys us e f h few =
    let q = raisable_then 0 2 (code first) (flat_units (units_of us)) h in
    subst (λ z. Ready function_end 0 0 (code z) (units_of ys)) (sym e)
    (subst (λ z. Ready function_end 0 0 (code first) (units_of z)) (sym f) (record { label = tt; piece = q.0; units = pieces_raisable 0 (units_of us) q.1; numbers = omega arith }))
