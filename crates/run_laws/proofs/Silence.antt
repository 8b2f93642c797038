-- Reductions that touch no store; and the test of those that stay off the area.
use Rattle.std.proofs.Common.{All, ◌≡◌, ◌≤◌, ◌+◌, ℕ, zero, suc, List, [], ◌∷◌, ◌++◌, inl, inr, length, take, drop, Option, Some, None, Bool, true, false, not, ◌||◌, refl, sym, ap, ◌∙◌}
use Rattle.std.specs.Prelude.{nat_le, slice_get, unwrap_or}
use Rattle.std.specs.List.{list_all}
use Rattle.std.proofs.lemmas.Bool.{leb-true, le-leb}
use Rattle.std.proofs.lemmas.List.Elements.{All-weaker}
use Rattle.std.proofs.lemmas.List.Sums.{AllPass-from_list_all, list_all-from_AllPass}
use Rattle.wa_types.specs.Syntax.{Basic, nop, drop as a_drop, select, const, num, global_get, global_set, load, store, memory_size, memory_grow, memory_copy, memory_fill, basic, local_get, local_set, local_tee, br}
use Rattle.wa_types.specs.Syntax.{br_if, br_table, return, unreachable, call, call_indirect, a_block, a_loop, Code, done, plain, nest, branch, Module}
use Rattle.wa_types.proofs.SlotLemmas.{either_true}
use Rattle.wa_types.specs.declared.values.Value.{Value}
use Rattle.wa_types.specs.declared.values.Value.TheVariants as V
use Rattle.wa_types.specs.declared.values.Trap.{Trap}
use Rattle.std.specs.Prelude.{Result, Ok, Err}
use Rattle.wa_model.specs.Operate.{operate}
use Rattle.wa_model.specs.declared.answers.Area.{Area}
use Rattle.wa_model.specs.Machine.{goes, stays, moves}
use Rattle.wa_model.specs.Store.{choose, Store, Did, works, fails, lacks, takes, extra_cost, act, computed, Range}
use Rattle.wa_model.specs.Configuration.{Label, block_label, loop_label, Activation, Configuration, running}
use Rattle.wa_model.specs.Step.{Next, steps, asks, returns, traps, stuck, result_count, leave, jump, finish, did, with_top, with_number, arity_of, memory_max, step_at, step}
use Rattle.run_theory.specs.Alone.{alone_next}
use Rattle.wa_model.specs.Blocking.{Note, overlap}
use Rattle.wa_model.specs.Untouched.{StaysOff, next_ranges}
use Rattle.run_theory.specs.Keeping.{keeps_basic, keeps_code, silent_basic, silent_code, silent, stays_off}
use Rattle.run_laws.specs.Stretches.{SilentIsKept, SilentStoresStay, CalmIsCalm}

-- ---- silence is kept

basic_kept : (g : ℕ) (area : Area) (b : Basic) (ops : List Value) → silent_basic b ≡ true → keeps_basic g area b ops ≡ true
basic_kept g area nop ops h = refl
basic_kept g area a_drop ops h = refl
basic_kept g area select ops h = refl
basic_kept g area (const v) ops h = refl
basic_kept g area (num op) ops h = refl
basic_kept g area (global_get x) ops h = refl
basic_kept g area (global_set x) ops h = cc
basic_kept g area (load op align offset) ops h = cc
basic_kept g area (store op align offset) ops h = cc
basic_kept g area memory_size ops h = refl
basic_kept g area memory_grow ops h = cc
basic_kept g area memory_copy ops h = cc
basic_kept g area memory_fill ops h = cc

code_kept : (g : ℕ) (area : Area) (ops : List Value) (code : Code) → silent_code code ≡ true → keeps_code g area ops code ≡ true
code_kept g area ops done h = refl
code_kept g area ops (plain (basic b) rest) h = basic_kept g area b (take (takes b) ops) h
code_kept g area ops (plain (local_get x) rest) h = refl
code_kept g area ops (plain (local_set x) rest) h = refl
code_kept g area ops (plain (local_tee x) rest) h = refl
code_kept g area ops (plain (br l) rest) h = refl
code_kept g area ops (plain (br_if l) rest) h = refl
code_kept g area ops (plain (br_table labels l) rest) h = refl
code_kept g area ops (plain return rest) h = refl
code_kept g area ops (plain unreachable rest) h = refl
code_kept g area ops (plain (call x) rest) h = cc
code_kept g area ops (plain (call_indirect sort) rest) h = cc
code_kept g area ops (nest s r body rest) h = refl
code_kept g area ops (branch r a b rest) h = refl

pub silent_is_kept : SilentIsKept
silent_is_kept g area c h = code_kept g area c.here.operands c.here.code h

-- ---- the store stays

abbrev NextStays : Store → Next → Type 0
NextStays s (steps k d) = d.store ≡ s
NextStays s _ = Unit {0}

module _ (s : Store) where
  abbrev DidStays : Did → Type 0
  DidStays (works s' results) = s' ≡ s
  DidStays _ = Unit {0}

  computed_stays : (o : Option (Result Value Trap)) → DidStays (computed s o)
  computed_stays None = tt
  computed_stays (Some (Ok v)) = refl
  computed_stays (Some (Err t)) = tt

  act_stays : (most : Option ℕ) (b : Basic) (ops : List Value) → silent_basic b ≡ true → DidStays (act most b s ops)
  act_stays most nop [] h = refl
  act_stays most a_drop (v ∷ []) h = refl
  act_stays most select (V.I32 k ∷ upper ∷ lower ∷ []) h = refl
  act_stays most (const v) [] h = refl
  act_stays most (num op) ops h = computed_stays (operate op ops)
  act_stays most (global_get x) [] h = refl
  act_stays most (global_set x) ops h = cc
  act_stays most (load op align offset) ops h = cc
  act_stays most (store op align offset) ops h = cc
  act_stays most memory_size [] h = refl
  act_stays most memory_grow ops h = cc
  act_stays most memory_copy ops h = cc
  act_stays most memory_fill ops h = cc
  act_stays most _ _ h = tt

  did_stays : (k fn : ℕ) (under : List Activation) (ls : List Value) (labels : List Label) (rest : Code) (ops : List Value) (d : Did) → DidStays d → NextStays s (did k fn under ls labels rest s ops d)
  did_stays k fn under ls labels rest ops (works s' results) h = h
  did_stays k fn under ls labels rest ops (fails trap) h = tt
  did_stays k fn under ls labels rest ops lacks h = tt

  leave_stays : (k : ℕ) (ops : List Value) (arity : ℕ) (under : List Activation) → NextStays s (leave k s ops arity under)
  leave_stays k ops arity [] = tt
  leave_stays k ops arity (a ∷ under) = refl

  choose_stays : (v : ℕ) (x y : Next) → NextStays s x → NextStays s y → NextStays s (choose v x y)
  choose_stays zero x y a b = b
  choose_stays (suc v) x y a b = a

  number_stays : (ops : List Value) (on : ℕ → List Value → Next) → ((v : ℕ) (below : List Value) → NextStays s (on v below)) → NextStays s (with_number ops on)
  number_stays [] on h = tt
  number_stays (V.I32 v ∷ ops) on h = h v ops
  number_stays (V.I64 v ∷ ops) on h = tt

  top_stays : (ops : List Value) (on : Value → List Value → Next) → ((v : Value) (below : List Value) → NextStays s (on v below)) → NextStays s (with_top ops on)
  top_stays [] on h = tt
  top_stays (v ∷ ops) on h = h v ops

  module _ (m : Module) (fn : ℕ) (under : List Activation) where
    jump_stays : (k : ℕ) (ls ops : List Value) (labels : List Label) (l : ℕ) → NextStays s (jump k m s fn under ls ops labels l)
    jump_stays k ls ops [] l = leave_stays k ops (result_count m fn) under
    jump_stays k ls ops (block_label h arity rest skipped ∷ labels) zero = refl
    jump_stays k ls ops (loop_label h body rest ∷ labels) zero = refl
    jump_stays k ls ops (block_label h arity rest skipped ∷ labels) (suc l) = jump_stays k ls ops labels l
    jump_stays k ls ops (loop_label h body rest ∷ labels) (suc l) = jump_stays k ls ops labels l

    finish_stays : (ls ops : List Value) (labels : List Label) → NextStays s (finish m s fn under ls ops labels)
    finish_stays ls ops [] = leave_stays 0 ops (result_count m fn) under
    finish_stays ls ops (block_label h arity rest skipped ∷ labels) = refl
    finish_stays ls ops (loop_label h body rest ∷ labels) = refl

    step_stays : (ls ops : List Value) (labels : List Label) (code : Code) → silent_code code ≡ true → NextStays s (step_at m s fn under ls ops labels code)
    step_stays ls ops labels done h = finish_stays ls ops labels
    step_stays ls ops labels (plain (basic b) rest) h =
        did_stays (extra_cost b (take (takes b) ops)) fn under ls labels rest (drop (takes b) ops) (act (memory_max m) b s (take (takes b) ops)) (act_stays (memory_max m) b (take (takes b) ops) h)
    step_stays ls ops labels (plain (local_get x) rest) h = refl
    step_stays ls ops labels (plain (local_set x) rest) h = top_stays ops _ (λ v below. refl)
    step_stays ls ops labels (plain (local_tee x) rest) h = top_stays ops _ (λ v below. refl)
    step_stays ls ops labels (plain (br l) rest) h = jump_stays 0 ls ops labels l
    step_stays ls ops labels (plain (br_if l) rest) h =
        number_stays ops _ (λ v below. choose_stays v (jump 0 m s fn under ls below labels l) (steps 0 (running s fn under ls below rest labels)) (jump_stays 0 ls below labels l) refl)
    step_stays ls ops labels (plain (br_table targets last) rest) h = number_stays ops _ (λ v below. jump_stays (length targets + 1) ls below labels (unwrap_or (slice_get targets v) last))
    step_stays ls ops labels (plain return rest) h = leave_stays 0 ops (result_count m fn) under
    step_stays ls ops labels (plain unreachable rest) h = tt
    step_stays ls ops labels (plain (call x) rest) h = cc
    step_stays ls ops labels (plain (call_indirect sort) rest) h = cc
    step_stays ls ops labels (nest a_block r body rest) h = refl
    step_stays ls ops labels (nest a_loop r body rest) h = refl
    step_stays ls ops labels (branch r a b rest) h = number_stays ops _ (λ v below. by_arm v below)
      where
        by_arm : (v : ℕ) (below : List Value)
            → (choose v (running s fn under ls below a (block_label (length below) (arity_of r) rest b ∷ labels))
            (running s fn under ls below b (block_label (length below) (arity_of r) rest done ∷ labels))).store ≡ s
        by_arm zero below = refl
        by_arm (suc v) below = refl

checked : (s : Store) (b : Bool) (o : Next) (k : ℕ) (es : List Note) (d : Configuration) → alone_next b o ≡ goes k es d → (b ≡ true → NextStays s o) → (es ≡ []) × (d.store ≡ s)
checked s true (steps j e) k es d q h =
    let d' : e ≡ d = cc in (cc, ap (λ (c : Configuration). c.store) (sym d') ∙ h refl)
checked s true (asks j import args e) k es d q h = cc
checked s true (returns j values t) k es d q h = cc
checked s true (traps j trap t) k es d q h = cc
checked s true stuck k es d q h = cc
checked s false o k es d q h = cc

pub silent_stores_stay : SilentStoresStay
silent_stores_stay m c d _ _ stays = (refl, refl)
silent_stores_stay m c d n es (moves {t = t} {k = k} {n = n1} {es = es1} {fs = fs} e rest em eg) =
    let first = checked c.store (silent c) (step m c) k es1 t e (λ h. step_stays c.store m c.here.func c.under c.here.locals c.here.operands c.here.labels c.here.code h) in
    let more = silent_stores_stay m t d n1 fs rest in
    (eg ∙ joined es1 fs first.0 more.0, more.1 ∙ first.1)
  where
    joined : (xs ys : List Note) → xs ≡ [] → ys ≡ [] → xs ++ ys ≡ []
    joined xs ys e f = cc

-- ---- the test of calm

abbrev inside : (size : ℕ) → Range → Bool
inside size = λ (x : Range). nat_le (x.at + x.len) size

abbrev off : Area → Range → Bool
off area = λ (x : Range). not (overlap x.at x.len area.at area.len)

abbrev IsInside : (size : ℕ) → Range → Type 0
IsInside size = λ (x : Range). x.at + x.len ≤ size

abbrev IsOff : Area → Range → Type 0
IsOff area = λ (x : Range). overlap x.at x.len area.at area.len ≡ false

not_true : (b : Bool) → not b ≡ true → b ≡ false
not_true true e = cc
not_true false e = refl

not_both : (b : Bool) → b ≡ true → not b ≡ true → ⊥
not_both true e h = cc
not_both false e h = cc

all_inside : (size : ℕ) (xs : List Range) → All (IsInside size) xs → list_all (inside size) xs ≡ true
all_inside size xs h =
    list_all-from_AllPass (inside size) xs (All-weaker (IsInside size) (λ (x : Range). inside size x ≡ true) (λ x le. le-leb (x.at + x.len) size le) xs h)

inside_all : (size : ℕ) (xs : List Range) → list_all (inside size) xs ≡ true → All (IsInside size) xs
inside_all size xs e =
    All-weaker (λ (x : Range). inside size x ≡ true) (IsInside size) (λ x h. leb-true (x.at + x.len) size h) xs (AllPass-from_list_all (inside size) xs e)

all_off : (area : Area) (xs : List Range) → All (IsOff area) xs → list_all (off area) xs ≡ true
all_off area xs h = list_all-from_AllPass (off area) xs (All-weaker (IsOff area) (λ (x : Range). off area x ≡ true) (λ x e. ap not e) xs h)

off_all : (area : Area) (xs : List Range) → list_all (off area) xs ≡ true → All (IsOff area) xs
off_all area xs e =
    All-weaker (λ (x : Range). off area x ≡ true) (IsOff area) (λ x h. not_true (overlap x.at x.len area.at area.len) h) xs (AllPass-from_list_all (off area) xs e)

ranges_calm : (area : Area) (size : ℕ) (xs : List Range) → (stays_off area size xs ≡ true → StaysOff area size xs) × (StaysOff area size xs → stays_off area size xs ≡ true)
ranges_calm area size xs = (to, by_inside (list_all (inside size) xs) refl)
  where
    to : (not (list_all (inside size) xs) || list_all (off area) xs) ≡ true → All (IsInside size) xs → All (IsOff area) xs
    to h all = elim (either_true (not (list_all (inside size) xs)) (list_all (off area) xs) h) [
      | inl e ↦ absurd (not_both (list_all (inside size) xs) (all_inside size xs all) e)
      | inr e ↦ off_all area xs e
    ]

    by_inside : (b : Bool) → list_all (inside size) xs ≡ b → StaysOff area size xs → (not b || list_all (off area) xs) ≡ true
    by_inside true e h = all_off area xs (h (inside_all size xs e))
    by_inside false e h = refl

pub calm_is_calm : CalmIsCalm
calm_is_calm area task c l = ranges_calm area (length c.store.memory) (next_ranges c)
