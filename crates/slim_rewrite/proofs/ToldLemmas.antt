-- Slim pieces of a module's function.
use Rattle.std.proofs.Common.{◌≡◌, ℕ, ◌+◌, ◌-◌, ◌<◌, ◌≤◌, List, [], ◌∷◌, ◌++◌, length, map, Option, Some, None, Bool, true, false, refl, sym, ap, ◌∙◌, subst, arith, length-append, ⊎_elim}
use Rattle.std.specs.Prelude.{nat_lt, not, slice_get, ◌&&◌}
use Rattle.std.proofs.lemmas.Bool.{cases_lt, lt-ltb, le-ltb}
use Rattle.std.proofs.lemmas.List.{length-map}
use Rattle.wa_types.specs.declared.values.ValType.{ValType}
use Rattle.wa_types.specs.Frames.{Pair, ResultPairs, SlotPairs}
use Rattle.wa_types.specs.Modules.{around, locals_of}
use Rattle.wa_types.specs.Syntax.{Code, Func, Module}
use Rattle.run_theory.specs.Flat.{FlatFunc, followed_by}
use Rattle.run_theory.specs.FlatFits.{FlatFits}
use Rattle.guard_form.specs.Guarded.{block_unit, leaves_first, guarded_body}
use Rattle.guard_form.specs.Pieces.{first_piece, units}
use Rattle.flat_laws.specs.FlatModule.{stacks_in}
use Rattle.flat_laws.specs.Flatten.{flattened, names, place, result_of}
use Rattle.slim_laws.specs.Emit.{free_by}
use Rattle.slim_laws.specs.Slim.{Free, Terms}
use Rattle.slim_laws.specs.SlimUnitLaws.{ToHeld}
use Rattle.flow_rewrite.specs.declared.pieces.Pieces.{Pieces}
use Rattle.slim_rewrite.specs.Functions.{is_between, are_plain, are_slim, AreSlim, ArePlain, SlimOrPlain}
use Rattle.slim_rewrite.specs.Inside.{first_code, units_in}
use Rattle.slim_laws.specs.SlimModule.{SlimPieces, flat_terms, is_slot}
use Rattle.slim_laws.specs.SlimUnits.{SlimUnits}
use Rattle.slim_laws.proofs.SlimModules.{plain_slim}
use Rattle.slim_rewrite.specs.Told.{GuardedTold}
use Rattle.slim_rewrite.proofs.FixedLemmas.{all_fixed, stacks_count}
use Rattle.slim_rewrite.proofs.GuardLemmas.{InBlock}

slot_between : (first count x : ℕ) → (not (nat_lt x first) && nat_lt x (first + count)) ≡ is_between first count x
slot_between first count x = ⊎_elim (λ lt. below lt) (λ ge. above ge) (cases_lt x first)
  where
    below : x < first → (not (nat_lt x first) && nat_lt x (first + count)) ≡ is_between first count x
    below lt = let e = lt-ltb x first lt in (λ j. not (e j) && nat_lt x (first + count)) ∙ sym (λ j. not (e j) && nat_lt (x - first) count)

    above : first ≤ x → (not (nat_lt x first) && nat_lt x (first + count)) ≡ is_between first count x
    above ge = ⊎_elim
        (λ lt. ap (λ b. not (nat_lt x first) && b) (lt-ltb x (first + count) lt ∙ sym (lt-ltb (x - first) count (omega arith))))
        (λ le. ap (λ b. not (nat_lt x first) && b) (le-ltb x (first + count) le ∙ sym (le-ltb (x - first) count (omega arith)))) (cases_lt x (first + count))

own_no_slot : (m : Module) (f : Func) (y : ℕ) → y < length (locals_of m f) → is_slot (names m f) y ≡ false
own_no_slot m f y lt = ap (λ b. not b && nat_lt y (length (locals_of m f) + length (SlotPairs m f))) (lt-ltb y (length (locals_of m f)) lt)

result_held : (m : Module) (f : Func) (t : Terms) → ((x : ℕ) → t.slot x ≡ is_slot (names m f) x) → (o : Option ValType) → ToHeld (free_by t.slot []) (result_of (names m f) o)
result_held m f t is None = tt
result_held m f t is (Some ty) =
    let n = names m f in
    let x = n.first + (length n.slots + place 0 ty n.results) in
    held (t.slot x) (is x ∙ ap (λ b. not (nat_lt x n.first) && b) (le-ltb x (n.first + length n.slots) (omega arith)) ∙ false_right (not (nat_lt x n.first)))
  where
    false_right : (b : Bool) → (b && false) ≡ false
    false_right true = refl
    false_right false = refl

    held : (b : Bool) → b ≡ false → (b && not false) ≡ false
    held true e = cc
    held false e = refl

-- Where this is the flat function of a function, and its slots are those, they are its slim pieces.
abbrev PiecesTold : (places : List ℕ) → (low count : ℕ) → FlatFunc → Pieces → Type 0
PiecesTold ps low count g p =
    (m : Module) (x : ℕ) (f : Func) → g ≡ flattened m x f → low ≡ length (locals_of m f) → count ≡ length (SlotPairs m f)
    → SlimPieces m ps x f (record { exits = true; first = first_code p; units = units_in p })

slim_told : (ps : List ℕ) (low count : ℕ) (g : FlatFunc) (p : Pieces) → FlatFits g → AreSlim ps low count g p → PiecesTold ps low count g p
slim_told ps low count g p fits h = λ m x f is low_is count_is.
    let t = flat_terms m ps x f in
    let out : Free = free_by t.slot [] in
    let body = (flattened m x f).body in
    let fit = subst FlatFits is fits in
    let st = stacks_in body in
    let slots : (y : ℕ) → t.slot y ≡ is_between low count y =
    λ y. slot_between (length (locals_of m f)) (length (SlotPairs m f)) y ∙ (λ j. is_between (sym low_is j) (sym count_is j) y) in
    let size : low + count ≤ t.size =
    let a = length-append (locals_of m f ++ map (λ (p : Pair). p.ty) (SlotPairs m f)) (map (λ (p : Pair). p.ty) (ResultPairs m f)) in
    let b = length-append (locals_of m f) (map (λ (p : Pair). p.ty) (SlotPairs m f)) in
    let c = length-map (SlotPairs m f) (λ (p : Pair). p.ty) in omega arith in
    let fixed = all_fixed ps (length (locals_of m f)) t st (λ j. refl) (own_no_slot m f) (length (flattened m x f).locals) 1 0 0 body fit.statements
    (let e = stacks_count body in omega arith) (λ i z e. let w : i ≡ 0 + i = omega arith in sym (ap (slice_get st) w) ∙ e) in
    let h1 : AreSlim ps low count (flattened m x f) p = subst (λ z. AreSlim ps low count z p) is h in
    record { out = out; here = out; slim = h1 t slots size fixed; result = result_held m f t (λ y. refl) (around m f).result }

-- plain pieces are slim too
plain_told : (ps : List ℕ) (low count : ℕ) (g : FlatFunc) (p : Pieces) → ArePlain ps g p → PiecesTold ps low count g p
plain_told ps low count g p h = λ m x f is low_is count_is.
    let b = plain_slim m ps x f in
    let body : g.body ≡ (flattened m x f).body = ap (λ (z : FlatFunc). z.body) is in
    let first : first_piece ps 0 (flattened m x f).body ≡ first_code p = sym (h.first ∙ ap (first_piece ps 0) body) in
    let us : units ps 0 (flattened m x f).body ≡ units_in p = sym (h.units ∙ ap (units ps 0) body) in
    record {
      out = b.out;
      here = b.here;
      slim = subst (λ z. SlimUnits (flat_terms m ps x f) 0 (b.out ∷ []) b.out b.here [] (first_piece ps 0 (flattened m x f).body) (units ps 0 (flattened m x f).body) z (units_in p)) first
          (subst (λ z. SlimUnits (flat_terms m ps x f) 0 (b.out ∷ []) b.out b.here [] (first_piece ps 0 (flattened m x f).body) (units ps 0 (flattened m x f).body)
          (first_piece ps 0 (flattened m x f).body) z) us b.slim);
      result = b.result;
    }

pieces_told : (ps : List ℕ) (low count : ℕ) (g : FlatFunc) (p : Pieces) → FlatFits g → SlimOrPlain ps low count g p → PiecesTold ps low count g p
pieces_told ps low count g p fits (are_slim h) = slim_told ps low count g p fits h
pieces_told ps low count g p fits (are_plain h) = plain_told ps low count g p h

-- ---- guarded code

pub guarded_told : (ps : List ℕ) (low count state index : ℕ) (first_unnoted : Bool) (g : FlatFunc) (p w : Pieces) (r c : Code) → FlatFits g → SlimOrPlain ps low count g p → InBlock p w g.result
    → index ≡ length g.locals → first_unnoted ≡ leaves_first true (units_in w)
    → c ≡ guarded_body (record { state = state; index = index; first_unnoted = first_unnoted }) (followed_by r) (first_code w) (units_in w) → GuardedTold ps low count state g r c
guarded_told ps low count state index first_unnoted g p w r c fits h inside e one is = λ m x f same low_is count_is.
    let us : units_in w ≡ block_unit (first_code p) (units_in p) (flattened m x f).result = inside.units ∙ ap (λ (z : FlatFunc). block_unit (first_code p) (units_in p) z.result) same in
    record {
      pieces = record { exits = true; first = first_code p; units = units_in p };
      slim = pieces_told ps low count g p fits h m x f same low_is count_is;
      code = is ∙ (λ j. guarded_body (record { state = state; index = (e ∙ ap (λ (z : FlatFunc). length z.locals) same) j; first_unnoted = (one ∙ ap (leaves_first true) us) j }) (followed_by r)
          (inside.first j) (us j));
    }
