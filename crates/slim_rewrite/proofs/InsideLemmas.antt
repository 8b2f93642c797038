-- Bodies of constructs.
use Rattle.std.proofs.Common.{◌≡◌, ℕ, zero, suc, ◌+◌, ◌≤◌, List, [], ◌∷◌, length, take, Bool, true, false, refl, sym, ap, ◌∙◌, subst, arith}
use Rattle.std.specs.Prelude.{◌-◌, nat_lt, not, ◌&&◌}
use Rattle.std.proofs.lemmas.List.{length-take-le}
use Rattle.std.proofs.Math.Seq.{take-length}
use Rattle.run_theory.specs.Flat.{Stmts, no_more, computes, copies, calls, leaps, leaps_if, leaps_by, nests, decides, halts}
use Rattle.guard_form.specs.Bounds.{unit_count}
use Rattle.guard_form.specs.Grouping.{is_place}
use Rattle.guard_form.specs.Pieces.{call_total, first_piece, units}
use Rattle.slim_laws.specs.Emit.{elem, free_by}
use Rattle.slim_laws.specs.Slim.{Free, Covers, Held, Reaches, Terms}
use Rattle.slim_laws.proofs.EmittedCode as E
use Rattle.slim_laws.specs.SlimUnits.{SlimUnits}
use Rattle.slim_laws.proofs.UnitsAlike.{alike_law}
use Rattle.slim_rewrite.specs.declared.stack.Walk.{Walk}
use Rattle.slim_rewrite.specs.Walking.{slot_in, free_at, shape_at, Among, Good, Kept}
use Rattle.slim_rewrite.proofs.BranchLemmas.{bare_shape, reaches_at}
use Rattle.slim_rewrite.proofs.StackLemmas.{cut_below, good_by}
use Rattle.slim_rewrite.proofs.StepLemmas.{alike_same, alike_then, elem_take}
use Rattle.slim_rewrite.specs.declared.constructs.Outside.{Outside}
use Rattle.slim_rewrite.specs.declared.sequence.Written.{Written}
use Rattle.slim_rewrite.specs.Coming.{Around, CallsFixed, FixedFor}
use Rattle.slim_rewrite.specs.Inside.{first_code, units_in, Claimed, Entered, IsInside, IsWritten, Left}

-- ---- terms that fix nothing

abbrev free_terms : Walk → Terms
free_terms w = record { slot = slot_in w; size = w.low + length w.places.items; fixed = λ k. [] }

fixed_none : (t : Terms) → ((k : ℕ) → t.fixed k ≡ []) → (b : Bool) (stack : List ℕ) (k : ℕ) → FixedFor t b stack k
fixed_none t is true stack k = λ f others held. subst (Held f) (sym (is k)) tt
fixed_none t is false stack k = is k

pub nothing_fixed : (t : Terms) → ((k : ℕ) → t.fixed k ≡ []) → (ps : List ℕ) (n k : ℕ) (s : Stmts) → CallsFixed t ps n k s
nothing_fixed t is ps n k no_more = tt
nothing_fixed t is ps n k (computes op args to rest) = nothing_fixed t is ps n k rest
nothing_fixed t is ps n k (copies to from rest) = nothing_fixed t is ps n k rest
nothing_fixed t is ps n k (calls op stack args to rest) = (fixed_none t is (is_place ps n) stack _, nothing_fixed t is ps (suc n) k rest)
nothing_fixed t is ps n k (leaps l rest) = nothing_fixed t is ps n k rest
nothing_fixed t is ps n k (leaps_if c l rest) = nothing_fixed t is ps n k rest
nothing_fixed t is ps n k (leaps_by c ls l rest) = nothing_fixed t is ps n k rest
nothing_fixed t is ps n k (nests y body rest) = (nothing_fixed t is ps n _ body, nothing_fixed t is ps (n + call_total body) k rest)
nothing_fixed t is ps n k (decides c a b rest) =
    (nothing_fixed t is ps n _ a, nothing_fixed t is ps (n + call_total a) _ b, nothing_fixed t is ps (n + call_total a + call_total b) k rest)
nothing_fixed t is ps n k (halts rest) = nothing_fixed t is ps n k rest

-- As many units are written as there are.
pub inside_count : (ps : List ℕ) (a : Walk) (n : ℕ) (s : Stmts) (kept : Bool) (b : Walk) (w : Written) → IsInside ps a n s kept b w → unit_count (units_in w.pieces) ≡ unit_count (units ps n s)
inside_count ps a n s kept b w h =
    let t = free_terms a in
    let among : Among t a = record { slots = λ x. refl; size = omega arith } in
    let sl = h.slim t among 0 [] (λ l. tt) (free_at t a) (λ y e. e) (nothing_fixed t (λ k. refl) ps n 0 s) (free_at t b) (λ z y e. e) in
    (alike_law t 0 (free_at t a ∷ []) (free_at t b) (free_at t a) [] (first_piece ps n s) (first_code w.pieces) (units ps n s) (units_in w.pieces) sl).count

-- ---- into a construct

pub entered_good : (a m : Walk) (o : Outside) → Good a → a.set ≡ length a.stack.items → Entered a m o → Good m
entered_good a m o good bare e =
    let s = e.set in let f = e.floor in
    good_by a m (length a.stack.items) good e.low e.places (e.stack ∙ sym (take-length a.stack.items)) (omega arith) (omega arith) (omega arith)

module _ (ps : List ℕ) (a m b d : Walk) (o : Outside) (place : ℕ) (s : Stmts) (kept : Bool) (w : Written) (good : Good a) (bare : a.set ≡ length a.stack.items) (e : Entered a m o)
    (h : IsWritten ps m place s b w) (l : Left b d o (kept && not w.ended)) where
  abbrev height : ℕ
  height = length a.stack.items

  floor_is : b.floor ≡ height
  floor_is = h.alike.floor ∙ e.floor

  below_is : take height b.stack.items ≡ a.stack.items
  below_is = ap (λ n. take n b.stack.items) (sym e.floor) ∙ h.alike.below ∙ (λ j. take (e.floor j) (e.stack j)) ∙ take-length a.stack.items

  -- so many slots are left
  record Cut (n : ℕ) : Type 0 where
    pub stack : d.stack.items ≡ take n b.stack.items
    pub set : d.set ≡ n
    pub low : height ≤ n
    pub high : n ≤ b.set
    pub least : kept ≡ false → n ≡ height

  inside_by : (n : ℕ) → Cut n → IsInside ps a place s kept d w
  inside_by n c =
      let q = c.set in let hb = h.good.set in let lo = c.low in let hi = c.high in
      let le : n ≤ length b.stack.items = omega arith in
      let count : length d.stack.items ≡ n = ap length c.stack ∙ length-take-le n b.stack.items le in
      let df : d.floor ≡ a.floor = l.floor ∙ e.below in
      let ga = good.floor in let gs = good.set in
      record {
        good = good_by b d n h.good l.low l.places c.stack le (omega arith) (omega arith);
        alike = record {
          alloc = l.alloc ∙ h.alike.alloc ∙ e.alloc;
          low = l.low ∙ h.alike.low ∙ e.low;
          places = ap length l.places ∙ h.alike.places ∙ ap length e.places;
          floor = df;
          below = ap (take a.floor) c.stack ∙ cut_below b.stack.items a.floor n (omega arith) ∙ sym (cut_below b.stack.items a.floor height (omega arith)) ∙ ap (take a.floor) below_is;
        };
        piece = l.piece ∙ e.outer;
        bare = c.set ∙ sym count;
        same = λ z. c.stack ∙ ap (λ k. take k b.stack.items) (c.least z) ∙ below_is;
        place = h.place;
        slim = λ t among k ts around g co fixed out reached.
            let am : Among t m = record {
              slots = λ x. among.slots x ∙ (λ j. slot_at x (sym e.low j) (sym e.places j));
              size = let z = among.size in let f = e.low in let y = ap length e.places in omega arith;
            } in
            let here : free_at t m ≡ free_at t a = λ j. free_by t.slot (take (e.set j) (e.stack j)) in
            let base : free_by t.slot (take m.floor m.stack.items) ≡ free_at t a =
            λ j. free_by t.slot (take ((e.floor ∙ sym bare) j) (e.stack j)) in
            let inner : Around t m (g ∷ ts) = labels t ts g (free_by t.slot (take m.floor m.stack.items)) (subst (λ f. Covers f g) (sym base) co)
            (λ i. subst (λ f. Reaches f ts i) (sym base) (reaches_at t a a ts i good (alike_same a) (around i))) in
            let cov : Covers (free_at t b) (free_at t d) = E.covers_by t (take b.set b.stack.items) (take d.set d.stack.items)
            (λ y x. elem_take y n (take b.set b.stack.items)
            (subst (λ ys. elem y ys ≡ true) (c.stack ∙ sym (cut_below b.stack.items n b.set hi)) (elem_take y d.set d.stack.items x))) in
            let sl = h.slim t am k (g ∷ ts) out inner fixed (λ z y q. cov y (reached z y q)) in
            subst (λ sh. SlimUnits t k (g ∷ ts) out (free_at t a) sh (first_piece ps place s) (units ps place s) (first_code w.pieces) (units_in w.pieces))
            (bare_shape m (e.set ∙ bare ∙ ap length (sym e.stack)))
            (subst (λ f. SlimUnits t k (g ∷ ts) out f (shape_at m) (first_piece ps place s) (units ps place s) (first_code w.pieces) (units_in w.pieces)) here sl);
      }
    where
      slot_at : ℕ → ℕ → List ℕ → Bool
      slot_at x low places = not (nat_lt x low) && nat_lt (x - low) (length places)

      labels : (t : Terms) (ts : List Free) (g f : Free) → Covers f g → ((i : ℕ) → Reaches f ts i) → (i : ℕ) → Reaches f (g ∷ ts) i
      labels t ts g f co re zero = co
      labels t ts g f co re (suc i) = re i

  pub inside_is : IsInside ps a place s kept d w
  inside_is = by kept w.ended refl refl
    where
      both : (k z : Bool) → k ≡ true → z ≡ false → (k && not z) ≡ true
      both true false e f = refl
      both true true e f = cc
      both false z e f = cc

      left : (k z : Bool) → k ≡ false → (k && not z) ≡ false
      left true z e = cc
      left false z e = refl

      right : (k z : Bool) → z ≡ true → (k && not z) ≡ false
      right true true e = refl
      right false true e = refl
      right k false e = cc

      cut : (kept && not w.ended) ≡ false → IsInside ps a place s kept d w
      cut least =
          let c = l.cut least in let f = floor_is in let g = h.good.floor in
          inside_by height (record {
            stack = c.0 ∙ ap (λ n. take n b.stack.items) e.height;
            set = c.1 ∙ e.height;
            low = omega arith;
            high = omega arith;
            least = λ z. refl;
          })

      by : (k z : Bool) → kept ≡ k → w.ended ≡ z → IsInside ps a place s kept d w
      by true false ke ze =
          let c = l.all (both kept w.ended ke ze) in let bar = h.bare ze in let f = floor_is in let g = h.good.floor in
          inside_by b.set (record {
            stack = c.0 ∙ sym (ap (λ n. take n b.stack.items) bar ∙ take-length b.stack.items);
            set = c.1;
            low = omega arith;
            high = omega arith;
            least = λ z. never kept ke z;
          })
        where
          never : (x : Bool) → x ≡ true → x ≡ false → b.set ≡ height
          never true e f = cc
          never false e f = cc
      by true true ke ze = cut (right kept w.ended ze)
      by false z ke ze = cut (left kept w.ended ke)

-- ---- behind what is never left

pub claimed_is : (a b : Walk) (x n : ℕ) → Kept a b x → n ≡ length b.stack.items → Claimed a (record b { set = n })
claimed_is a b x n kept is =
    let g = kept.good in
    let f = g.floor in let s = g.set in
    record {
      good = record { slots = g.slots; places = g.places; set = omega arith; floor = omega arith };
      alike = record { alloc = kept.alike.alloc; low = kept.alike.low; places = kept.alike.places; floor = kept.alike.floor; below = kept.alike.below };
      piece = kept.piece;
      bare = is;
    }

pub claimed_inside : (ps : List ℕ) (a : Walk) (n : ℕ) (s : Stmts) (kept : Bool) (b d : Walk) (w : Written) → kept ≡ true → w.ended ≡ true → IsInside ps a n s kept b w → Claimed b d
    → IsInside ps a n s kept d w
claimed_inside ps a n s kept b d w kept_is ended h c = record {
  good = c.good;
  alike = alike_then a b d h.alike c.alike;
  piece = c.piece ∙ h.piece;
  bare = c.bare;
  same = λ z. absurd (never kept kept_is z);
  place = h.place;
  slim = λ t among k ts around g co fixed out reached. h.slim t among k ts around g co fixed out (λ z. absurd (never w.ended ended z));
}
  where
    never : (x : Bool) → x ≡ true → x ≡ false → ⊥
    never true e f = cc
    never false e f = cc
