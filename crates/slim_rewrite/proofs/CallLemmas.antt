-- Calls in slim pieces.
use Rattle.std.proofs.Common.{◌≡◌, ℕ, suc, ◌+◌, ◌-◌, ◌≤◌, List, [], ◌∷◌, ◌++◌, length, take, drop, Option, Some, None, Bool, true, false, refl, sym, ap, ◌∙◌, subst, arith}
use Rattle.std.specs.Prelude.{nat_eq, not, ◌&&◌, ◌||◌}
use Rattle.std.specs.declared.vec.Vec.{Vec}
use Rattle.std.specs.declared.alloc.Global.{Global}
use Rattle.std.proofs.lemmas.List.{drop_all, drop-append-le, length-take-le, take-append-le}
use Rattle.std.proofs.Math.Seq.{take-length}
use Rattle.wa_types.specs.Pausing.{calls_of}
use Rattle.wa_types.specs.declared.instrs.Instr.{Instr}
use Rattle.wa_types.specs.declared.instrs.Instr.TheVariants.{Call as CallInstr, CallIndirect}
use Rattle.wa_types.specs.Syntax.{call, call_indirect, Plain, Code, done, plain}
use Rattle.wa_types.specs.Leaves.{is_leaf}
use Rattle.flow_rewrite.proofs.StmtLemmas.{leaf_of}
use Rattle.wa_types.specs.View.{in_front}
use Rattle.run_theory.specs.Flat.{no_more, calls, followed_by, last_of, set_to, slots_got}
use Rattle.run_theory.specs.FlatFits.{IsCallCode}
use Rattle.guard_form.specs.Grouping.{is_place}
use Rattle.guard_form.specs.Pieces.{call_unit, call_to, first_piece, flat_units, piece_call, unit_call, units}
use Rattle.guard_form.proofs.Counting.{calls_set}
use Rattle.flow_rewrite.specs.Statements.{one_code}
use Rattle.slim_laws.specs.Emit.{elem, free_by}
use Rattle.slim_laws.specs.Slim.{Free, Covers, Held, Terms}
use Rattle.slim_laws.proofs.EmittedCode as E
use Rattle.slim_laws.specs.SlimUnits.{before_call, has_none, is_kept, ResultSlim}
use Rattle.slim_rewrite.specs.declared.stack.Walk.{Walk}
use Rattle.slim_rewrite.specs.Walking.{free_at, kept_onto, shape_at, Alike, Among, Flushed, Good, KeptTold, Stepped}
use Rattle.slim_rewrite.proofs.BranchLemmas.{bare_shape, flushed_full}
use Rattle.slim_rewrite.proofs.MoveLemmas.{held_by}
use Rattle.slim_rewrite.proofs.StackLemmas.{cut_below, cut_good, elem_here}
use Rattle.slim_rewrite.proofs.StepLemmas.{alike_then, among_next, elem_drop, elem_take, small_of}
use Rattle.flow_rewrite.specs.declared.pieces.Target.{Target}
use Rattle.flow_rewrite.specs.UnitView.{callee_of}
use Rattle.slim_rewrite.specs.declared.sequence.Head.TheVariants.{Call}
use Rattle.slim_rewrite.specs.declared.sequence.Sequence.{Sequence}
use Rattle.slim_rewrite.specs.Coming.{FixedFor}
use Rattle.slim_rewrite.specs.Steps.{Opened, Put}
use Rattle.slim_rewrite.proofs.ComingLemmas.{flush_comes, from_slim, piece_put}
use Rattle.slim_rewrite.proofs.PieceLemmas.{calls_left, goes_calls, joined_calls, no_number, number_is}
use Rattle.slim_rewrite.proofs.UnitLemmas.{unit_comes}

pub call_front : (i : Instr) (x : ℕ) → i ≡ CallInstr x → in_front i done ≡ plain (call x) done
unfolding in_front
call_front i x e = ap (λ y. in_front y done) e

pub indirect_front : (i : Instr) (x : ℕ) → i ≡ CallIndirect x → in_front i done ≡ plain (call_indirect x) done
unfolding in_front
indirect_front i x e = ap (λ y. in_front y done) e

call_plain : (op : Code) → IsCallCode op → (p : Plain) × (op ≡ plain p done)
call_plain (plain (call x) done) h = (call x, refl)
call_plain (plain (call_indirect x) done) h = (call_indirect x, refl)
call_plain _ h = absurd h

pub call_leaf : (i : Instr) → IsCallCode (in_front i done) → is_leaf i ≡ true
call_leaf i h = let q = call_plain (in_front i done) h in leaf_of i q.0 q.1

-- ---- without number

none_fixed : (t : Terms) (b : Bool) (stack : List ℕ) (k : ℕ) → b ≡ false → FixedFor t b stack k → t.fixed k ≡ []
none_fixed t true stack k e h = cc
none_fixed t false stack k e h = h

pub free_call_put : (ps : List ℕ) (a b : Walk) (p : Sequence) (k : ℕ) (op : Code) (stack : List ℕ) (args : ℕ) (to : Option ℕ) → p.ended ≡ false → k ≡ suc p.place → is_place ps p.place ≡ false
    → IsCallCode op → Stepped a b true (one_code (calls op stack args to no_more)) → Put ps a p b (record p { place = k }) (calls op stack args to)
free_call_put ps a b p k op stack args to goes is free one st =
    piece_put ps a b p (calls op stack args to no_more) k goes is (no_number ps p.place op free) (λ c. goes_calls op (last_of args stack) to c one) st.slim st.good st.alike st.puts
    (λ t among n ts out around s fixed g c c' same sl. st.step t among (length (calls_of (flat_units (units ps (suc p.place) s))) + n) ts g c c' around
    (ap t.fixed (ap (λ i. i + (length (calls_of (flat_units (units ps (suc p.place) s))) + n)) same ∙ calls_left ps (suc p.place) n s) ∙ none_fixed t (is_place ps p.place) stack _ free fixed.0) sl)

-- ---- with a number

fixed_held : (t : Terms) (b : Bool) (stack : List ℕ) (k : ℕ) (f : Free) → b ≡ true → FixedFor t b stack k → ((y : ℕ) → t.slot y ≡ false → f y ≡ false) → Held f stack → Held f (t.fixed k)
fixed_held t true stack k f e h others held = h f others held
fixed_held t false stack k f e h others held = cc

or_right : (a b : Bool) → b ≡ true → (a || b) ≡ true
or_right true b e = refl
or_right false b e = e

held_all : (t : Terms) (base xs : List ℕ) → ((y : ℕ) → elem y xs ≡ true → elem y base ≡ true) → Held (free_by t.slot base) xs
held_all t base [] h = tt
held_all t base (x ∷ xs) h = (held_by t x base (h x (elem_here x xs)), held_all t base xs (λ y e. h y (or_right (nat_eq y x) (elem y xs) e)))

no_slot_held : (t : Terms) (base : List ℕ) (y : ℕ) → t.slot y ≡ false → free_by t.slot base y ≡ false
no_slot_held t base y e = by (t.slot y) e
  where
    by : (s : Bool) → s ≡ false → (s && not (elem y base)) ≡ false
    by true q = cc
    by false q = refl

-- the stack cut behind a flush, and the result kept
module _ (t : Terms) (m m1 d : Walk) (v : Vec ℕ Global) (kept : ℕ) (good : Good m1) (full : m1.set ≡ length m1.stack.items) (cut : v.items ≡ take kept m1.stack.items)
    (le : kept ≤ length m1.stack.items) (above : m1.floor ≤ kept) where
  abbrev m2 : Walk
  m2 = record m1 { stack = v; set = kept }

  count : length v.items ≡ kept
  count = ap length cut ∙ length-take-le kept m1.stack.items le

  good2 : Good m2
  good2 = cut_good m1 m2 kept good refl refl cut le refl (omega arith) above

  alike2 : Alike m1 m2
  alike2 = record { alloc = refl; low = refl; places = refl; floor = refl; below = ap (take m1.floor) cut ∙ cut_below m1.stack.items m1.floor kept above }

  pub told : (to : Option ℕ) → KeptTold m2 d to → Good d × Alike m1 d × (d.piece.items ≡ m1.piece.items)
  told None e = subst (λ w. Good w × Alike m1 w × (w.piece.items ≡ m1.piece.items)) (sym e) (good2, alike2, refl)
  told (Some x) k = (k.good, alike_then m1 m2 d alike2 k.alike, k.piece)

  covers : (base : List ℕ) → base ≡ v.items → Covers (free_by t.slot m1.stack.items) (free_by t.slot base)
  covers base e = E.covers_by t m1.stack.items base (λ y q. elem_take y kept m1.stack.items (subst (λ ys. elem y ys ≡ true) (e ∙ cut) q))

  pub result : (to : Option ℕ) → Among t m1 → KeptTold m2 d to → ResultSlim t (free_by t.slot m1.stack.items) to None (free_at t d) (shape_at d)
  result None among e = subst (λ w. ResultSlim t (free_by t.slot m1.stack.items) None None (free_at t w) (shape_at w)) (sym e)
      (subst (λ sh. ResultSlim t (free_by t.slot m1.stack.items) None None (free_at t m2) sh) (sym (bare_shape m2 (sym count)))
      (has_none (covers (take kept v.items) (ap (λ i. take i v.items) (sym count) ∙ take-length v.items))))
  result (Some x) among k =
      let xs = v.items in
      let set2 : kept ≤ length xs = omega (arith, count) in
      let e : take d.set d.stack.items ≡ xs = (λ j. take (k.set j) (k.stack j)) ∙ take-append-le kept xs (x ∷ []) set2 ∙ ap (λ i. take i xs) (sym count) ∙ take-length xs in
      let f : drop d.set d.stack.items ≡ x ∷ [] =
      (λ j. drop (k.set j) (k.stack j)) ∙ drop-append-le kept xs (x ∷ []) set2 ∙ ap (λ ys. ys ++ x ∷ []) (drop_all kept xs (omega (arith, count))) in
      let slot : t.slot x ≡ true = among.slots x ∙ k.slot in
      subst (λ sh. ResultSlim t (free_by t.slot m1.stack.items) (Some x) None (free_at t d) sh) (ap (λ ys. kept_onto ys []) (sym f))
      (is_kept x slot (small_of t m1 among x slot) (covers (take d.set d.stack.items) e)
      (subst (λ ys. free_by t.slot ys x ≡ true) (sym e) (free (t.slot x) (elem x xs) slot k.new)))
    where
      free : (s e : Bool) → s ≡ true → e ≡ false → (s && not e) ≡ true
      free true e p q = ap not q
      free false e p q = cc

pub numbered_put : (ps : List ℕ) (a m m1 d : Walk) (p q : Sequence) (k kept : ℕ) (v slots : Vec ℕ Global) (target : Target) (stack : List ℕ) (args : ℕ) (to : Option ℕ) → p.ended ≡ false
    → is_place ps p.place ≡ true → Good a → a.stack.items ≡ stack → kept ≡ length stack - args → a.floor ≤ kept → Flushed a m → Opened m p m1 q (Call slots target None)
    → slots.items ≡ last_of args stack → v.items ≡ take kept m1.stack.items → k ≡ suc p.place → KeptTold (record m1 { stack = v; set = kept }) d to
    → Put ps a p d (record q { place = k }) (calls (plain (call_to (callee_of target)) done) stack args to)
numbered_put ps a m m1 d p q k kept v slots target stack args to goes is good same cut above fl opened slots_are cut_is next kept_is =
    let op = plain (call_to (callee_of target)) done in
    let x = callee_of target in
    let full : m1.set ≡ length m1.stack.items = opened.set ∙ fl.set ∙ ap length (sym opened.stack) in
    let one : m1.stack.items ≡ stack = opened.stack ∙ fl.stack ∙ same in
    let le : kept ≤ length m1.stack.items = let e = ap length one in omega arith in
    let fit : m1.floor ≤ kept = let e = opened.alike.floor in let f = fl.alike.floor in omega arith in
    let ks = told t0 m m1 d v kept opened.good full cut_is le fit to kept_is in
    record {
      good = ks.0;
      alike = alike_then a m1 d (alike_then a m m1 fl.alike opened.alike) ks.1;
      place = next;
      step = λ t among n ts out around s fixed first us h.
          let mid : Among t m = among_next t a m fl.alike among in
          let g : Free = free_at t m in
          let base : free_at t m ≡ free_by t.slot m1.stack.items = flushed_full t a m fl ∙ ap (free_by t.slot) (sym (opened.stack ∙ fl.stack)) in
          let num = number_is ps p.place x is in
          let held : Held (free_by t.slot m1.stack.items) stack = subst (λ ys. Held (free_by t.slot m1.stack.items) ys) one (held_all t m1.stack.items m1.stack.items (λ y e. e)) in
          let arguments : Held (free_by t.slot m1.stack.items) slots.items =
          subst (λ ys. Held (free_by t.slot m1.stack.items) ys) (sym slots_are)
          (held_all t m1.stack.items (last_of args stack) (λ y e. subst (λ ys. elem y ys ≡ true) (sym one) (elem_drop y (length stack - args) stack e))) in
          flush_comes t n ts out ps a m p (calls op stack args to s) first us goes among good fl
          (unit_comes t n ts out ps m m m1 d p q p.place k (Call slots target None) (calls op stack args to s) s (λ c us. call_unit slots.items x to c us) goes (bare_shape m fl.set) refl opened
          (ks.2 ∙ opened.piece) (ap (λ o. piece_call o (slots_got (last_of args stack) (followed_by op (set_to to (first_piece ps (suc p.place) s))))) num)
          (ap (λ o. unit_call o (last_of args stack) to (first_piece ps (suc p.place) s) (units ps (suc p.place) s)) num
          ∙ (λ j. call_unit (sym slots_are j) x to (first_piece ps (sym next j) s) (units ps (sym next j) s)))
          (λ c us. refl) (λ c us. tt)
          (λ c' us' clear f.
          λ f0 sh c c2 go sl.
          before_call slots.items x g (free_at t d) go sl (subst (λ z. Held z slots.items) (sym base) arguments)
          (subst (λ z. Held z (t.fixed (length (calls_of (set_to to (followed_by (first_piece ps k s) (flat_units (units ps k s))))) + n))) (sym base)
          (subst (λ i. Held (free_by t.slot m1.stack.items) (t.fixed i))
          (sym (ap (λ cs. length cs + n) (calls_set to (followed_by (first_piece ps k s) (flat_units (units ps k s)))) ∙ joined_calls ps k n s))
          (fixed_held t (is_place ps p.place) stack _ (free_by t.slot m1.stack.items) is fixed.0 (no_slot_held t m1.stack.items) held)))
          (subst (λ z. ResultSlim t z to None (free_at t d) (shape_at d)) (sym base) (result t m m1 d v kept opened.good full cut_is le fit to (among_next t m m1 opened.alike mid) kept_is))
          (clear refl)
          (from_slim t n ts out d (first_piece ps k s) (units ps k s) c' us' f)) first us h);
    }
  where
    t0 : Terms
    t0 = record { slot = λ x. false; size = 0; fixed = λ k. [] }
