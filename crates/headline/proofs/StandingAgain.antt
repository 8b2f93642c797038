-- A flat stack that came back, but for what frames don't keep, stands beside the same suspended stack.
use Rattle.std.proofs.Common.{◌≡◌, ℕ, zero, suc, ◌+◌, ◌<◌, ◌≤◌, List, [], ◌∷◌, ◌++◌, length, drop, Option, Some, Bool, true, All, refl, sym, ap, ◌∙◌, arith, length-append, length-drop}
use Rattle.std.specs.Prelude.{slice_get}
use Rattle.std.proofs.lemmas.List.{get_or_append_left, length-map}
use Rattle.std.proofs.lemmas.List.Elements.{All-head, All-tail}
use Rattle.wa_types.specs.Base.{Base}
use Rattle.wa_types.specs.Frames.{Pair, Saved, SlotPairs}
use Rattle.wa_types.specs.Modules.{defined_at, locals_of}
use Rattle.wa_types.specs.Pausing.{Settings, is_told, save_all}
use Rattle.wa_types.specs.Syntax.{Module}
use Rattle.wa_types.specs.Typing.{type_of}
use Rattle.wa_types.specs.Validity.{Valid}
use Rattle.wa_types.specs.declared.values.ValType.{ValType}
use Rattle.wa_types.specs.declared.values.Value.{Value}
use Rattle.wa_types.specs.declared.values.Value.TheVariants as V
use Rattle.wa_model.specs.Configuration.{Activation, place_of}
use Rattle.run_theory.specs.Fitting.{types_of}
use Rattle.wa_model.specs.Store.{value_at}
use Rattle.flat_laws.specs.Flatten.{Names, names, place, slots}
use Rattle.flat_runs.specs.Beside.{Holds, Locals}
use Rattle.flat_runs.proofs.Slots.{extra_got}
use Rattle.frame_laws.specs.FrameMemory.{IsKept}
use Rattle.headline.specs.EmittedModule.{AllKeepEnough, fields_of}
use Rattle.headline.proofs.KeptFields.{own_kept, slot_kept}
use Rattle.headline.proofs.NumberedStacks.{AtNumber}
use Rattle.headline.proofs.PairedFlat.{base_defined, base_locals}

-- ---- lists

pub same_front : (xs zs : List Value) → length xs ≤ length zs → ((y : ℕ) → y < length xs → value_at zs y ≡ value_at xs y) → zs ≡ xs ++ drop (length xs) zs
same_front [] zs le h = refl
same_front (x ∷ xs) [] le h = absurd (omega arith)
same_front (x ∷ xs) (z ∷ zs) le h = ap (λ w. w ∷ zs) (h 0 (omega arith)) ∙ ap (λ ws. x ∷ ws) (same_front xs zs (omega arith) (λ y lt. h (suc y) (omega arith)))

pub there_is : (ps : List Pair) (i : ℕ) → i < length ps → (p : Pair) × (slice_get ps i ≡ Some p)
there_is [] i lt = absurd (omega arith)
there_is (p ∷ ps) zero lt = (p, refl)
there_is (p ∷ ps) (suc i) lt = there_is ps i (omega arith)

-- slots that are kept hold the same operands
pub holds_over : (n : Names) (extra extra2 : List Value) (keep : ℕ → Bool) (ops : List Value) → Holds n extra ops → All (λ y. keep y ≡ true) (slots n (types_of ops))
    → ((k : ℕ) (p : Pair) → slice_get n.slots k ≡ Some p → keep (n.first + k) ≡ true → value_at extra2 k ≡ value_at extra k) → Holds n extra2 ops
holds_over n extra extra2 keep [] holds ks each = tt
holds_over n extra extra2 keep (w ∷ ops) holds ks each =
    let k0 : keep (n.first + place (length (types_of ops)) (type_of w) n.slots) ≡ true =
    All-head (λ y. keep y ≡ true) (n.first + place (length (types_of ops)) (type_of w) n.slots) (slots n (types_of ops)) ks in
    let l : length (types_of ops) ≡ length ops = length-map ops type_of in
    let q = there_is n.slots (place (length ops) (type_of w) n.slots) holds.0 in
    let k1 : keep (n.first + place (length ops) (type_of w) n.slots) ≡ true = ap (λ i. keep (n.first + place i (type_of w) n.slots)) (sym l) ∙ k0 in (
      holds.0,
      each (place (length ops) (type_of w) n.slots) q.0 q.1 k1 ∙ holds.1,
      holds_over n extra extra2 keep ops holds.2 (All-tail (λ y. keep y ≡ true) (n.first + place (length (types_of ops)) (type_of w) n.slots) (slots n (types_of ops)) ks) each,
    )

-- ---- one activation

module _ (m : Module) (s : Settings) (which : List Bool) (keep : (func local : ℕ) → Bool) (valid : Valid m) (keeps : AllKeepEnough m s which keep)
    (a : Activation) (table : List (Option ℕ)) (g : ℕ) (num : AtNumber m s which valid table g a) (told : is_told (slice_get which a.func) ≡ true) (extra : List Value)
    (held : Locals (Base m) num.func a.locals extra (a.taken ++ a.operands)) (zs : List Value) (size : length zs ≡ length (a.locals ++ extra))
    (same : (y : ℕ) → IsKept y (fields_of (keep a.func) (Saved (Base m) save_all num.func 0)) → value_at zs y ≡ value_at (a.locals ++ extra) y) where
  abbrev own : List ValType
  own = locals_of (Base m) num.func

  abbrev pairs : List Pair
  pairs = SlotPairs (Base m) num.func

  abbrev pub extra2 : List Value
  extra2 = drop (length a.locals) zs

  is_defined : defined_at m a.func ≡ Some num.func
  is_defined = sym (base_defined m a.func) ∙ num.is

  own_size : length a.locals ≡ length own
  own_size = sym (length-map a.locals type_of) ∙ ap length num.typed

  got_type : (ts : List ValType) (y : ℕ) → y < length ts → (t : ValType) × (slice_get ts y ≡ Some t)
  got_type [] y lt = absurd (omega arith)
  got_type (t ∷ ts) zero lt = (t, refl)
  got_type (t ∷ ts) (suc y) lt = got_type ts y (omega arith)

  own_same : (y : ℕ) → y < length a.locals → value_at zs y ≡ value_at a.locals y
  own_same y lt =
      let o = own_size in
      let t = got_type own y (omega arith) in
      let same_own : length (locals_of (Base m) num.func) ≡ length (locals_of m num.func) = ap length (base_locals m num.func) in
      let k : keep a.func y ≡ true = (keeps a.func num.func is_defined told).own y (omega arith) in
      same y (own_kept (keep a.func) (λ x. true) (λ q. true) own pairs y t.0 t.1 refl k) ∙ get_or_append_left a.locals extra (V.I32 0) y lt

  -- own locals are as they were
  pub split : zs ≡ a.locals ++ extra2
  split = let l = length-append a.locals extra in same_front a.locals zs (omega arith) own_same

  slot_same : (i : ℕ) (q : Pair) → slice_get pairs i ≡ Some q → keep a.func (length own + i) ≡ true → value_at extra2 i ≡ value_at extra i
  slot_same i q e k =
      sym (extra_got a.locals extra2 (length own) i own_size) ∙ ap (λ ls. value_at ls (length own + i)) (sym split)
      ∙ same (length own + i) (slot_kept (keep a.func) (λ x. true) (λ q. true) own pairs i q e refl k) ∙ extra_got a.locals extra (length own) i own_size

  pub held_again : Locals (Base m) num.func a.locals extra2 (a.taken ++ a.operands)
  held_again = record {
    typed = held.typed;
    size = let l = length-append a.locals extra in let d = length-drop (length a.locals) zs in let h = held.size in omega arith;
    holds = holds_over (names (Base m) num.func) extra extra2 (keep a.func) (a.taken ++ a.operands) held.holds
        ((keeps a.func num.func is_defined told).stacked (place_of (Some num.func) a.code a.labels) (types_of (a.taken ++ a.operands)) num.listed num.points) slot_same;
  }
