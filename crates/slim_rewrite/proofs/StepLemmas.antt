-- What steps do to slim code.
use Rattle.std.proofs.Common.{◌≡◌, ℕ, zero, suc, ◌+◌, ◌-◌, ◌<◌, ◌≤◌, List, [], ◌∷◌, ◌++◌, length, get_or, take, drop, Option, Some, None, Bool, true, false, not, refl, sym, ap, ◌∙◌, subst, arith, ◌≢◌, ◌⊎◌, inl, inr, length-drop}
use Rattle.std.specs.Prelude.{◌||◌, ◌&&◌, nat_eq}
use Rattle.std.proofs.lemmas.Bool.Decides.{eqb_tells}
use Rattle.std.proofs.Math.Seq.{take-length}
use Rattle.std.proofs.lemmas.List.{take-append-drop, take-append-le, drop-append-le, drop_all, length-take-le, get_or-drop}
use Rattle.std.specs.declared.vec.Vec.{Vec}
use Rattle.std.specs.declared.alloc.Global.{Global}
use Rattle.wa_types.specs.declared.instrs.Instr.{Instr}
use Rattle.wa_types.specs.View.{onto}
use Rattle.wa_types.specs.Syntax.{nop, drop as drop_operand, select, const, num, global_get, global_set, load, store, memory_size, memory_grow, memory_copy, memory_fill, Basic, basic, local_get, local_set, local_tee, Code, done, plain}
use Rattle.wa_model.specs.declared.flat.Operand.{Operand}
use Rattle.run_theory.specs.FlatFits.{ComputesFit, TellsResult}
use Rattle.wa_model.specs.Store.{gives}
use Rattle.run_theory.specs.Flat.{all_got, followed_by, set_to, slots_got}
use Rattle.flow_rewrite.specs.Putting.{Puts}
use Rattle.slim_laws.specs.Emit.{all_in, count, elem, free_by}
use Rattle.slim_laws.specs.Slim.{Free, CoversBut, StackShape, more, Takes, takes_none, takes_one, Rises, rises, rises_below, Lacks, lacks_all, lacks_slot, Terms, Slims, does, gets, sets, tees, keeps, uses, saves, narrows}
use Rattle.slim_laws.proofs.EmittedCode as E
use Rattle.slim_rewrite.specs.declared.stack.Walk.{Walk}
use Rattle.slim_rewrite.specs.Walking.{slot_in, kept_onto, unstacked, free_at, shape_at, Alike, Among, Good, Kept, KeptTold, OpTakes, Stepped, Taken, TakenBy, from_stack, from_slots}
use Rattle.slim_rewrite.proofs.StackLemmas.{elem_here, not_elem, cut_below, slot_low, slot_same}

-- how operands are taken: nothing is put, or all slots are set and these got
pub data Way (a b : Walk) (args : List Operand) (put : Code → Code) : Type 0 where
  in_place : a.set ≤ length b.stack.items → b.set ≡ a.set → ((c : Code) → put c ≡ c) → Way a b args put
  put_back : b.set ≡ length b.stack.items → ((c : Code) → put c ≡ unstacked (drop a.set a.stack.items) (all_got args c)) → Way a b args put

-- ---- lists

or_assoc : (a b c : Bool) → (a || (b || c)) ≡ ((a || b) || c)
or_assoc true b c = refl
or_assoc false b c = refl

or_swap : (a b : Bool) → (a || b) ≡ true → (b || a) ≡ true
or_swap true true e = refl
or_swap true false e = refl
or_swap false true e = refl
or_swap false false e = cc

elem_join : (y : ℕ) (a b : List ℕ) → elem y (a ++ b) ≡ (elem y a || elem y b)
elem_join y [] b = refl
elem_join y (x ∷ a) b = ap (λ z. nat_eq y x || z) (elem_join y a b) ∙ or_assoc (nat_eq y x) (elem y a) (elem y b)

elem_swap : (y : ℕ) (a b : List ℕ) → elem y (a ++ b) ≡ true → elem y (b ++ a) ≡ true
elem_swap y a b e = elem_join y b a ∙ or_swap (elem y a) (elem y b) (sym (elem_join y a b) ∙ e)

or_left : (a b : Bool) → a ≡ true → (a || b) ≡ true
or_left true b e = refl
or_left false b e = cc

pub elem_take : (y n : ℕ) (xs : List ℕ) → elem y (take n xs) ≡ true → elem y xs ≡ true
elem_take y n xs e = ap (elem y) (sym (take-append-drop n xs)) ∙ elem_join y (take n xs) (drop n xs) ∙ or_left (elem y (take n xs)) (elem y (drop n xs)) e

pub elem_drop : (y n : ℕ) (xs : List ℕ) → elem y (drop n xs) ≡ true → elem y xs ≡ true
elem_drop y n xs e = ap (elem y) (sym (take-append-drop n xs)) ∙ elem_swap y (drop n xs) (take n xs) (elem_join y (drop n xs) (take n xs) ∙ or_left (elem y (drop n xs)) (elem y (take n xs)) e)

all_in_by : (xs ys : List ℕ) → ((y : ℕ) → elem y xs ≡ true → elem y ys ≡ true) → all_in xs ys ≡ true
all_in_by [] ys h = refl
all_in_by (x ∷ xs) ys h = by (elem x ys) (h x (elem_here x xs)) (all_in_by xs ys (λ y e. h y (right y e)))
  where
    right : (y : ℕ) → elem y xs ≡ true → (nat_eq y x || elem y xs) ≡ true
    right y e = or_swap (elem y xs) (nat_eq y x) (or_left (elem y xs) (nat_eq y x) e)

    by : (b : Bool) → b ≡ true → all_in xs ys ≡ true → (b && all_in xs ys) ≡ true
    by true e f = f
    by false e f = cc

pub false_by : (a b : Bool) → (a ≡ true → b ≡ true) → b ≡ false → a ≡ false
false_by true b h e = let q = h refl in cc
false_by false b h e = refl

pub drop_split : (n m : ℕ) (xs : List ℕ) → n ≤ m → m ≤ length xs → drop n xs ≡ drop n (take m xs) ++ drop m xs
drop_split n m xs le lm = ap (drop n) (sym (take-append-drop m xs)) ∙ drop-append-le n (take m xs) (drop m xs) (let q = length-take-le m xs lm in omega arith)

pub kept_join : (xs ys : List ℕ) (sh : StackShape) → kept_onto (xs ++ ys) sh ≡ kept_onto ys (kept_onto xs sh)
kept_join [] ys sh = refl
kept_join (x ∷ xs) ys sh = kept_join xs ys (Some x ∷ sh)

kept_lacks : (x : ℕ) (xs : List ℕ) (sh : StackShape) → elem x xs ≡ false → Lacks x sh → Lacks x (kept_onto xs sh)
kept_lacks x [] sh e la = la
kept_lacks x (y ∷ xs) sh e la = by (eqb_tells x y) (λ f l. kept_lacks x xs (Some y ∷ sh) f l)
  where
    by : ((nat_eq x y ≡ true) × (x ≡ y)) ⊎ ((nat_eq x y ≡ false) × (x ≢ y)) → (elem x xs ≡ false → Lacks x (Some y ∷ sh) → Lacks x (kept_onto xs (Some y ∷ sh)))
        → Lacks x (kept_onto xs (Some y ∷ sh))
    by (inl q) ih = let z : (nat_eq x y || elem x xs) ≡ true = or_left (nat_eq x y) (elem x xs) q.0 in cc
    by (inr q) ih = ih (subst (λ b. (b || elem x xs) ≡ false) q.0 e) (lacks_slot (λ z. q.1 (sym z)) la)

rises_kept : (x : ℕ) (xs : List ℕ) (sh sh2 : StackShape) → Rises x sh sh2 → Rises x (kept_onto xs sh) (kept_onto xs sh2)
rises_kept x [] sh sh2 r = r
rises_kept x (y ∷ xs) sh sh2 r = rises_kept x xs (Some y ∷ sh) (Some y ∷ sh2) (rises_below r)

module _ (t : Terms) where
  abbrev fr : List ℕ → Free
  fr base = free_by t.slot base

  abbrev pub Slots : List ℕ → Type 0
  Slots [] = Prim.Unit {0}
  Slots (x ∷ xs) = (t.slot x ≡ true) × Slots xs

  but_one : (x : ℕ) (base : List ℕ) → CoversBut x (fr base) (fr (x ∷ base))
  but_one x base y e ne = by (eqb_tells y x)
    where
      by : ((nat_eq y x ≡ true) × (y ≡ x)) ⊎ ((nat_eq y x ≡ false) × (y ≢ x)) → fr base y ≡ false
      by (inl h) = absurd (ne h.1)
      by (inr h) = subst (λ b. (t.slot y && not (b || elem y base)) ≡ false) h.0 e

  module _ (small : (x : ℕ) → t.slot x ≡ true → x < t.size) (n : ℕ) (ts : List Free) (out : Free) where
    abbrev L : Free → StackShape → Code → Code → Type 0
    L f sh c c' = Slims t n ts out f sh c c'

    -- all slots set
    flush_slim : (xs base : List ℕ) (sh : StackShape) (c c' : Code) → Slots xs → L (fr (xs ++ base)) sh c c' → L (fr base) (kept_onto xs sh) c (unstacked xs c')
    flush_slim [] base sh c c' so sl = sl
    flush_slim (x ∷ xs) base sh c c' so sl = flush_slim xs base (Some x ∷ sh) c (plain (local_set x) c') so.1 (saves x (fr (x ∷ (xs ++ base))) (small x so.0) (but_one x (xs ++ base)) sl)

    pub flushed_slim : (w : Walk) (c c' : Code) → Slots (drop w.set w.stack.items) → L (fr w.stack.items) [] c c' → L (free_at t w) (shape_at w) c (unstacked (drop w.set w.stack.items) c')
    flushed_slim w c c' so sl =
        let xs = drop w.set w.stack.items in
        let base = take w.set w.stack.items in
        flush_slim xs base [] c c' so
        (narrows (fr w.stack.items) (E.covers_by t (xs ++ base) w.stack.items (λ y e. elem_swap y base xs (ap (elem y) (take-append-drop w.set w.stack.items) ∙ e))) sl)

    -- operands used where they stand
    uses_slim : (xs : List ℕ) (h : ℕ) (f : Free) (sh : StackShape) (c c' : Code) → Slots xs → L f (more (h + length xs) sh) c c' → L f (kept_onto xs (more h sh)) (slots_got xs c) c'
    uses_slim [] h f sh c c' so sl = let z : h + 0 ≡ h = omega arith in subst (λ k. L f (more k sh) c c') z sl
    uses_slim (x ∷ xs) h f sh c c' so sl =
        let z : h + suc (length xs) ≡ suc h + length xs = omega arith in
        uses x so.0 (rises_kept x xs (Some x ∷ more h sh) (None ∷ more h sh) rises) (uses_slim xs (suc h) f sh c c' so.1 (subst (λ k. L f (more k sh) c c') z sl))

    -- a result kept
    pub kept_slim : (a b : Walk) (x : ℕ) (c c' : Code) → Good a → Kept a b x → t.slot x ≡ true → L (free_at t b) (shape_at b) c c' → L (free_at t a) (more 1 (shape_at a)) (plain (local_set x) c) c'
    kept_slim a b x c c' good kept is sl =
        let xs = a.stack.items in
        let e : take b.set b.stack.items ≡ take a.set xs = (λ j. take (kept.set j) (kept.stack j)) ∙ take-append-le a.set xs (x ∷ []) good.set in
        let d : drop b.set b.stack.items ≡ drop a.set xs ++ x ∷ [] = (λ j. drop (kept.set j) (kept.stack j)) ∙ drop-append-le a.set xs (x ∷ []) good.set in
        let f = fr (take a.set xs) in
        let absent : elem x (take a.set xs) ≡ false = false_by (elem x (take a.set xs)) (elem x xs) (elem_take x a.set xs) kept.new in
        let above : elem x (drop a.set xs) ≡ false = false_by (elem x (drop a.set xs)) (elem x xs) (elem_drop x a.set xs) kept.new in
        let s2 : L f (Some x ∷ shape_at a) c c' =
        subst (λ sh. L f sh c c') (ap (λ ys. kept_onto ys []) d ∙ kept_join (drop a.set xs) (x ∷ []) []) (subst (λ ys. L (fr ys) (shape_at b) c c') e sl) in
        keeps x f is (small x is) (λ y q. q) (by (t.slot x) (elem x (take a.set xs)) is absent) (takes_one takes_none) (kept_lacks x (drop a.set xs) [] above lacks_all) s2
      where
        by : (s a : Bool) → s ≡ true → a ≡ false → (s && not a) ≡ true
        by true a es ea = ap not ea
        by false a es ea = cc

    slots_right : (xs ys : List ℕ) → Slots (xs ++ ys) → Slots ys
    slots_right [] ys so = so
    slots_right (x ∷ xs) ys so = slots_right xs ys so.1

    -- operands taken
    pub taken_slim : (a b : Walk) (args : List Operand) (alone : Bool) (put : Code → Code) (c c' : Code) → Good a → Taken a b args alone → Slots (drop a.set a.stack.items)
        → Way a b args put → L (free_at t b) (more (length args) (shape_at b)) c c' → L (free_at t a) (shape_at a) (all_got args c) (put c')
    taken_slim a b args alone put c c' good taken so (in_place above same is) sl =
        let xs = a.stack.items in
        let m = length xs - length args in
        let fits = taken.top.fits in
        let le : m ≤ length xs = omega arith in
        let n = length-take-le m xs le in
        let am : a.set ≤ m = let q = ap length taken.stack in omega arith in
        let e : take b.set b.stack.items ≡ take a.set xs = (λ j. take (same j) (taken.stack j)) ∙ cut_below xs a.set m am in
        let d : drop b.set b.stack.items ≡ drop a.set (take m xs) = λ j. drop (same j) (taken.stack j) in
        let f = fr (take a.set xs) in
        let sh = kept_onto (drop a.set (take m xs)) [] in
        let k : length args ≡ 0 + length (drop m xs) = let q = length-drop m xs in omega arith in
        let s2 : L f (more (0 + length (drop m xs)) sh) c c' =
        subst (λ i. L f (more i sh) c c') k (subst (λ ys. L f (more (length args) (kept_onto ys [])) c c') d (subst (λ ys. L (fr ys) (more (length args) (shape_at b)) c c') e sl)) in
        let split = drop_split a.set m xs am le in
        let s3 : L f (kept_onto (drop m xs) sh) (slots_got (drop m xs) c) c' = uses_slim (drop m xs) 0 f sh c c' (slots_right (drop a.set (take m xs)) (drop m xs) (subst Slots split so)) s2 in
        let s4 : L f (shape_at a) (slots_got (drop m xs) c) c' =
        subst (λ z. L f z (slots_got (drop m xs) c) c') (sym (ap (λ ys. kept_onto ys []) split ∙ kept_join (drop a.set (take m xs)) (drop m xs) [])) s3 in
        subst (λ z. L f (shape_at a) (all_got args c) z) (sym (is c')) (subst (λ z. L f (shape_at a) z c') (sym (taken.top.same c)) s4)
    taken_slim a b args alone put c c' good taken so (put_back full is) sl =
        let xs = a.stack.items in
        let m = length xs - length args in
        let fits = taken.top.fits in
        let le : m ≤ length xs = omega arith in
        let e : take b.set b.stack.items ≡ take m xs = ap (λ k. take k b.stack.items) full ∙ take-length b.stack.items ∙ taken.stack in
        let d : drop b.set b.stack.items ≡ [] = drop_all b.set b.stack.items (omega arith) in
        let k : length args ≡ 0 + length (drop m xs) = let q = length-drop m xs in omega arith in
        let s2 : L (fr (take m xs)) (more (0 + length (drop m xs)) []) c c' =
        subst (λ i. L (fr (take m xs)) (more i []) c c') k
        (subst (λ ys. L (fr (take m xs)) (more (length args) (kept_onto ys [])) c c') d (subst (λ ys. L (fr ys) (more (length args) (shape_at b)) c c') e sl)) in
        let s3 : L (fr xs) [] (slots_got (drop m xs) c) (slots_got (drop m xs) c') =
        E.gets_ok t small n ts out (drop m xs) 0 xs [] c c' (all_in_by (drop m xs) xs (λ y q. elem_drop y m xs q))
        (narrows (fr (take m xs)) (E.covers_by t xs (take m xs) (λ y q. elem_take y m xs q)) s2) in
        let s4 = flushed_slim a (slots_got (drop m xs) c) (slots_got (drop m xs) c') so s3 in
        subst (λ z. L (free_at t a) (shape_at a) (all_got args c) z) (sym (is c' ∙ ap (unstacked (drop a.set xs)) (taken.top.same c')))
        (subst (λ z. L (free_at t a) (shape_at a) z (unstacked (drop a.set xs) (slots_got (drop m xs) c'))) (sym (taken.top.same c)) s4)

    -- an instruction
    pub op_slim : (w : Walk) (op : Code) (locals k : ℕ) (to : Option ℕ) (f : Free) (sh : StackShape) (c c' : Code) → ComputesFit locals op to → OpTakes w op k
        → ((x : ℕ) → t.slot x ≡ slot_in w x) → ((x : ℕ) → t.slot x ≡ false → (f x ≡ false) × Lacks x sh) → L f (more (count to) sh) (set_to to c) c'
        → L f (more k sh) (followed_by op (set_to to c)) (followed_by op c')
    unfolding followed_by
    op_slim w (plain (basic b) done) locals k to f sh c c' fit takes slots held sl =
        does b (subst (λ j. Takes j (more k sh) sh) (sym takes) (takes_more k sh)) (subst (λ j. L f (more j sh) (set_to to c) c') (sym (told (gives b) to (few b) fit)) sl)
      where
        takes_more : (k : ℕ) (sh : StackShape) → Takes k (more k sh) sh
        takes_more zero sh = takes_none
        takes_more (suc k) sh = takes_one (takes_more k sh)

        few : (b : Basic) → gives b ≤ 1
        few nop = omega arith
        few drop_operand = omega arith
        few select = omega arith
        few (const v) = omega arith
        few (num o) = omega arith
        few (global_get x) = omega arith
        few (global_set x) = omega arith
        few (load o al off) = omega arith
        few (store o al off) = omega arith
        few memory_size = omega arith
        few memory_grow = omega arith
        few memory_copy = omega arith
        few memory_fill = omega arith

        told : (n : ℕ) (to : Option ℕ) → n ≤ 1 → TellsResult n to → n ≡ count to
        told zero to le e = sym (ap count e)
        told (suc zero) None le e = absurd e
        told (suc zero) (Some x) le e = refl
        told (suc (suc n)) to le e = absurd (omega arith)
    op_slim w (plain (local_get y) done) locals k None f sh c c' fit takes slots held sl = absurd fit.1
    op_slim w (plain (local_get y) done) locals k (Some x) f sh c c' fit takes slots held sl =
        subst (λ j. L f (more j sh) (plain (local_get y) (plain (local_set x) c)) (plain (local_get y) c')) (sym takes.1) (gets y (held y (slots y ∙ takes.0)).0 sl)
    op_slim w (plain (local_set y) done) locals k None f sh c c' fit takes slots held sl =
        subst (λ j. L f (more j sh) (plain (local_set y) c) (plain (local_set y) c')) (sym takes.1)
        (sets y f (λ z q ne. q) (takes_one takes_none) (held y (slots y ∙ takes.0)).1 sl)
    op_slim w (plain (local_set y) done) locals k (Some x) f sh c c' fit takes slots held sl = let q : Some x ≡ None = fit.1 in cc
    op_slim w (plain (local_tee y) done) locals k None f sh c c' fit takes slots held sl = absurd fit.1
    op_slim w (plain (local_tee y) done) locals k (Some x) f sh c c' fit takes slots held sl =
        subst (λ j. L f (more j sh) (plain (local_tee y) (plain (local_set x) c)) (plain (local_tee y) c')) (sym takes.1)
        (tees y f (λ z q ne. q) (takes_one takes_none) (held y (slots y ∙ takes.0)).1 sl)
    op_slim w _ locals k to f sh c c' fit takes slots held sl = absurd fit

  pub slots_of : (w : Walk) → Good w → ((x : ℕ) → t.slot x ≡ slot_in w x) → Slots (drop w.set w.stack.items)
  slots_of w good is = each (drop w.set w.stack.items)
      (λ i lt. let q = length-drop w.set w.stack.items in
      ap t.slot (get_or-drop w.set w.stack.items i 0) ∙ is (get_or w.stack.items (w.set + i) 0) ∙ good.slots (w.set + i) (omega arith))
    where
      each : (xs : List ℕ) → ((i : ℕ) → i < length xs → t.slot (get_or xs i 0) ≡ true) → Slots xs
      each [] h = tt
      each (x ∷ xs) h = (h 0 (omega arith), each xs (λ i lt. h (suc i) (omega arith)))

  -- a local that is no slot
  pub no_slot_at : (w : Walk) → Good w → ((x : ℕ) → t.slot x ≡ slot_in w x) → (x : ℕ) → t.slot x ≡ false → (free_at t w x ≡ false) × Lacks x (shape_at w)
  no_slot_at w good is x e =
      (E.no_slot t x (take w.set w.stack.items) (ap not e), kept_lacks x (drop w.set w.stack.items) [] (false_by _ _ (elem_drop x w.set w.stack.items) absent) lacks_all)
    where
      absent : elem x w.stack.items ≡ false
      absent = not_elem x w.stack.items (λ i lt q. let z : slot_in w x ≡ true = ap (slot_in w) (sym q) ∙ good.slots i lt in let y = is x in let u = e in cc)

pub small_of : (t : Terms) (w : Walk) → Among t w → (x : ℕ) → t.slot x ≡ true → x < t.size
small_of t w among x e = let h = slot_low w x (sym (among.slots x) ∙ e) in let h0 = h.0 in let h1 = h.1 in let s = among.size in omega arith

-- ---- statements

-- the same stack, with something else put
pub with_piece : (w : Walk) (v : Vec Instr Global) → Good w → Good (record w { piece = v })
with_piece w v g = record { slots = g.slots; places = g.places; set = g.set; floor = g.floor }

pub alike_piece : (a w : Walk) (v : Vec Instr Global) → Alike a w → Alike a (record w { piece = v })
alike_piece a w v k = record { alloc = k.alloc; low = k.low; places = k.places; floor = k.floor; below = k.below }

pub alike_same : (w : Walk) → Alike w w
alike_same w = record { alloc = refl; low = refl; places = refl; floor = refl; below = refl }

pub among_next : (t : Terms) (a b : Walk) → Alike a b → Among t a → Among t b
among_next t a b alike among = record {
  slots = λ x. among.slots x ∙ sym (slot_same a b x alike.low alike.places);
  size = let h = among.size in let l = alike.low in let p = alike.places in omega arith;
}

pub alike_then : (a b c : Walk) → Alike a b → Alike b c → Alike a c
alike_then a b c h g = record {
  alloc = g.alloc ∙ h.alloc;
  low = g.low ∙ h.low;
  places = g.places ∙ h.places;
  floor = g.floor ∙ h.floor;
  below = ap (λ n. take n c.stack.items) (sym h.floor) ∙ g.below ∙ ap (λ n. take n b.stack.items) h.floor ∙ h.below;
}

module _ (a b d : Walk) (v : Vec Instr Global) (op : Code) (args : List Operand) (to : Option ℕ) (locals : ℕ) (good : Good a) (taken : Taken a b args false)
    (fit : ComputesFit locals op to) (takes : OpTakes a op (length args)) (copied : Puts b.piece.items v.items (followed_by op)) (kept : KeptTold (record b { piece = v }) d to) where
  abbrev m : Walk
  m = record b { piece = v }

  good_m : Good m
  good_m = let g = taken.good in record { slots = g.slots; places = g.places; set = g.set; floor = g.floor }

  told : (to : Option ℕ) → KeptTold m d to → Good d × Alike m d × (d.piece.items ≡ v.items)
  told None e = subst (λ w. Good w × Alike m w × (w.piece.items ≡ v.items)) (sym e) (good_m, record { alloc = refl; low = refl; places = refl; floor = refl; below = refl }, refl)
  told (Some x) k = (k.good, k.alike, k.piece)

  result : (t : Terms) → Among t a → (n : ℕ) (ts : List Free) (out : Free) (to : Option ℕ) → KeptTold m d to → (c c' : Code) → Slims t n ts out (free_at t d) (shape_at d) c c'
      → Slims t n ts out (free_at t m) (more (count to) (shape_at m)) (set_to to c) c'
  result t among n ts out None e c c' sl = subst (λ w. Slims t n ts out (free_at t w) (shape_at w) c c') e sl
  result t among n ts out (Some x) k c c' sl = kept_slim t (small_of t a among) n ts out m d x c c' good_m k
      (among.slots x ∙ sym (slot_same a m x taken.alike.low taken.alike.places) ∙ k.slot) sl

  with_way : (put : Code → Code) → Way a b args put → Puts a.piece.items b.piece.items put → Stepped a d false (λ c. all_got args (followed_by op (set_to to c)))
  with_way put way puts =
      let k = told to kept in
      record {
        good = k.0;
        alike = alike_then a m d (record { alloc = taken.alike.alloc; low = taken.alike.low; places = taken.alike.places; floor = taken.alike.floor; below = taken.alike.below }) k.1;
        slim = λ c'. put (followed_by op c');
        puts = λ c'. ap (λ ys. onto ys c') k.2 ∙ copied c' ∙ puts (followed_by op c');
        step = λ t among n ts out c c' reach told sl.
            let small = small_of t a among in
            let is : (x : ℕ) → t.slot x ≡ slot_in b x = λ x. among.slots x ∙ sym (slot_same a b x taken.alike.low taken.alike.places) in
            taken_slim t small n ts out a b args false put (followed_by op (set_to to c)) (followed_by op c') good taken (slots_of t a good among.slots) way
            (op_slim t small n ts out a op locals (length args) to (free_at t b) (shape_at b) c c' fit takes among.slots (no_slot_at t b taken.good is) (result t among n ts out to kept c c' sl));
      }

  pub plain_stepped : Stepped a d false (λ c. all_got args (followed_by op (set_to to c)))
  plain_stepped = by taken.way
    where
      by : TakenBy a b args → Stepped a d false (λ c. all_got args (followed_by op (set_to to c)))
      by (from_stack above same piece) = with_way (λ c. c) (in_place above same (λ c. refl)) (λ c. ap (λ ys. onto ys c) piece)
      by (from_slots full puts) = with_way (λ c. unstacked (drop a.set a.stack.items) (all_got args c)) (put_back full (λ c. refl)) puts
