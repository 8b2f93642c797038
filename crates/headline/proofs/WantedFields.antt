-- The fields of a frame hold what the definitions of a suspended stack want of it, and the call's number is the one they have.
use Rattle.std.proofs.Common.{◌≡◌, ℕ, zero, suc, ◌+◌, ◌-◌, ◌<◌, ◌≤◌, List, [], ◌∷◌, ◌++◌, length, Option, Some, None, Bool, true, false, All, cond, refl, sym, ap, ◌∙◌, subst, arith, length-append, eq-eqb, ne_eqb}
use Rattle.std.specs.Prelude.{slice_get, nat_lt, nat_eq, not, if◌then◌else◌}
use Rattle.std.specs.List.{prefix_len}
use Rattle.std.proofs.lemmas.List.{get_or_append_left}
use Rattle.std.proofs.lemmas.Option.{slice_get_within}
use Rattle.wa_types.specs.Base.{Base}
use Rattle.wa_types.specs.Frames.{Pair, Place, Saved, SlotPairs, call_number, greatest, operand_at, stands_at, wanted}
use Rattle.wa_types.specs.Modules.{defined_at, locals_of}
use Rattle.wa_types.specs.Pausing.{Callee, Numbered, Settings, calls_in, has_number, places_from}
use Rattle.wa_types.specs.Points.{func_points}
use Rattle.wa_types.specs.Syntax.{Func, Module}
use Rattle.wa_types.specs.Validity.{Valid}
use Rattle.wa_types.specs.declared.values.ValType.{ValType}
use Rattle.wa_types.specs.declared.values.Value.{Value}
use Rattle.wa_types.specs.declared.values.Value.TheVariants as V
use Rattle.wa_model.specs.Configuration.{Activation, place_of, suspended}
use Rattle.run_theory.specs.Fitting.{types_of}
use Rattle.wa_model.specs.Store.{value_at}
use Rattle.run_theory.proofs.Runs.{lt_false, lt_true}
use Rattle.flat_laws.specs.Flatten.{names, slots}
use Rattle.flat_laws.proofs.RuntimeModules.{base_slots}
use Rattle.flat_runs.proofs.Slots.{extra_got}
use Rattle.frame_laws.specs.Suspended.{Lays, Tells}
use Rattle.headline.specs.FlatLaw.{LocalsFit}
use Rattle.slot_laws.specs.SlotBounds.{StandOnce}
use Rattle.slot_laws.proofs.Order.{pairs_ascend, stand_once}
use Rattle.headline.specs.EmittedModule.{Emitted, Framing, fields_of}
use Rattle.headline.proofs.CallPoints.{base_saved}
use Rattle.headline.proofs.FrameFacts.{held, own_size}
use Rattle.headline.proofs.KeptFields.{LaysPlace, fields_lay, saved_each, slot_lays}
use Rattle.headline.proofs.NumberedStacks.{AtNumber}
use Rattle.headline.proofs.PairedFlat.{base_defined, base_locals}
use Rattle.headline.proofs.PairedStacks.{PairAt}

-- ---- the number of a place

the_number : (x y : ℕ) → Some x ≡ Some y → x ≡ y
the_number x y e = cc

places_rise : (test : Callee → Bool) (n : ℕ) (cs : List Callee) (k place : ℕ) → slice_get (places_from test n cs) k ≡ Some place → n ≤ place
places_rise test n [] k place e = cc
places_rise test n (c ∷ cs) k place e = by (test c) k e (λ j h. places_rise test (suc n) cs j place h)
  where
    by : (b : Bool) (k : ℕ) → slice_get (if b then n ∷ places_from test (suc n) cs else places_from test (suc n) cs) k ≡ Some place
        → ((j : ℕ) → slice_get (places_from test (suc n) cs) j ≡ Some place → suc n ≤ place) → n ≤ place
    by true zero e ih = let z = the_number n place e in omega arith
    by true (suc k) e ih = let h = ih k e in omega arith
    by false k e ih = let h = ih k e in omega arith

first_place : (test : Callee → Bool) (n : ℕ) (cs : List Callee) (k place : ℕ) → slice_get (places_from test n cs) k ≡ Some place → prefix_len (λ x. not (nat_eq place x)) (places_from test n cs) ≡ k
first_place test n [] k place e = cc
first_place test n (c ∷ cs) k place e = by (test c) k e (λ j h. first_place test (suc n) cs j place h)
  where
    by : (b : Bool) (k : ℕ) → slice_get (if b then n ∷ places_from test (suc n) cs else places_from test (suc n) cs) k ≡ Some place
        → ((j : ℕ) → slice_get (places_from test (suc n) cs) j ≡ Some place → prefix_len (λ x. not (nat_eq place x)) (places_from test (suc n) cs) ≡ j)
        → prefix_len (λ x. not (nat_eq place x)) (if b then n ∷ places_from test (suc n) cs else places_from test (suc n) cs) ≡ k
    by true zero e ih =
        let z : place ≡ n = sym (the_number n place e) in
        ap (λ b. cond (not b) (1 + prefix_len (λ x. not (nat_eq place x)) (places_from test (suc n) cs)) 0) (eq-eqb place n z)
    by true (suc k) e ih =
        let far = places_rise test (suc n) cs k place e in
        let h = ih k e in
        let w : 1 + prefix_len (λ x. not (nat_eq place x)) (places_from test (suc n) cs) ≡ suc k = omega arith in
        ap (λ b. cond (not b) (1 + prefix_len (λ x. not (nat_eq place x)) (places_from test (suc n) cs)) 0) (ne_eqb place n (λ q. absurd (omega arith))) ∙ w
    by false k e ih = ih k e

pub number_is : (m : Module) (s : Settings) (which : List Bool) (f : Func) (k place : ℕ) → slice_get (Numbered m s which f) k ≡ Some place → call_number m s which f place ≡ Some k
number_is m s which f k place e =
    let ps = Numbered m s which f in
    let first : prefix_len (λ x. not (nat_eq place x)) ps ≡ k = first_place (has_number m s which) 0 (calls_in f) k place e in
    let lt = slice_get_within ps k place e in
    ap (λ i. cond (nat_lt i (length ps)) (Some i) None) first ∙ ap (λ b. cond b (Some k) None) (lt_true k (length ps) lt)

-- ---- what is wanted

got_value : (ls : List Value) (y : ℕ) → y < length ls → slice_get ls y ≡ Some (value_at ls y)
got_value [] y lt = absurd (omega arith)
got_value (v ∷ ls) zero lt = refl
got_value (v ∷ ls) (suc y) lt = got_value ls y (omega arith)

clash : (b : Bool) → b ≡ true → b ≡ false → ⊥
clash true q r = cc
clash false q r = cc

slots_once : (m : Module) (f : Func) → StandOnce (SlotPairs m f)
slots_once m f = stand_once (SlotPairs m f) (pairs_ascend (λ h t. Rattle.std.specs.List.list_any (stands_at h t) (func_points m f)) 0 (greatest (func_points m f)))

module _ (m : Module) (s : Settings) (which : List Bool) (frames : (index : ℕ) → Framing) (p : Module) (valid : Valid m) (em : Emitted m s which frames p)
    (a a' : Activation) (pr : PairAt (Base m) which a a') (table : List (Option ℕ)) (g : ℕ) (num : AtNumber m s which valid table g a) (more : List Value)
    (fit : LocalsFit p a.func ((a.locals ++ pr.extra) ++ more))
    (keep : ℕ → Bool) (keeps_own : (y : ℕ) → y < length (locals_of m num.func) → keep y ≡ true)
    (stacked : All (λ y. keep y ≡ true) (slots (names (Base m) num.func) (types_of (a.taken ++ a.operands)))) where
  abbrev b : Module
  b = Base m

  abbrev own : List ValType
  own = locals_of (Base m) num.func

  abbrev pairs : List Pair
  pairs = SlotPairs (Base m) num.func

  abbrev zs : List Value
  zs = a.locals ++ pr.extra

  abbrev value : Place → Option Value
  value q = wanted m num.func (suspended (Base m) a) q

  is_defined : defined_at m a.func ≡ Some num.func
  is_defined = sym (base_defined m a.func) ∙ num.is

  same_slots : SlotPairs (Base m) num.func ≡ SlotPairs m num.func
  same_slots = base_slots m valid a.func num.func is_defined

  own_lays : (y : ℕ) (t : ValType) → slice_get own y ≡ Some t → LaysPlace keep value (zs ++ more) (record { local = y; ty = t })
  own_lays y t e =
      let lt = slice_get_within own y t e in
      let o = own_size m s which frames p valid em a a' pr table g num more fit in
      let l = length-append a.locals pr.extra in
      let own_same : length (locals_of (Base m) num.func) ≡ length (locals_of m num.func) = ap length (base_locals m num.func) in
      let below : nat_lt y (length (locals_of m num.func)) ≡ true = lt_true y (length (locals_of m num.func)) (omega arith) in
      let wants : value (record { local = y; ty = t }) ≡ Some (value_at a.locals y) =
      ap (λ b. if b then slice_get a.locals y else operand_at (a.taken ++ a.operands) (slice_get (SlotPairs m num.func) (y - length (locals_of m num.func)))) below
      ∙ got_value a.locals y (omega arith) in
      let has : value_at (zs ++ more) y ≡ value_at a.locals y = get_or_append_left zs more (V.I32 0) y (omega arith) ∙ get_or_append_left a.locals pr.extra (V.I32 0) y (omega arith) in
      let kept : keep y ≡ true = keeps_own y (omega arith) in
      (λ k. subst (λ w. Tells w (value_at (zs ++ more) y)) (sym wants) has, λ k. absurd (clash (keep y) kept k))

  slots_lay : (k : ℕ) (q : Pair) → slice_get pairs k ≡ Some q → LaysPlace keep value (zs ++ more) (record { local = length own + k; ty = q.ty })
  slots_lay k q e =
      let lt = slice_get_within pairs k q e in
      let h = held m s which frames p valid em a a' pr table g num more fit in
      let o = own_size m s which frames p valid em a a' pr table g num more fit in
      let size = h.size in
      let l = length-append a.locals pr.extra in
      let own_same : length (locals_of (Base m) num.func) ≡ length (locals_of m num.func) = ap length (base_locals m num.func) in
      let past : nat_lt (length own + k) (length (locals_of m num.func)) ≡ false = lt_false (length own + k) (length (locals_of m num.func)) (omega arith) in
      let index : length own + k - length (locals_of m num.func) ≡ k = omega arith in
      let wants : value (record { local = length own + k; ty = q.ty }) ≡ operand_at (a.taken ++ a.operands) (Some q) =
      ap (λ b. if b then slice_get a.locals (length own + k) else operand_at (a.taken ++ a.operands) (slice_get (SlotPairs m num.func) (length own + k - length (locals_of m num.func)))) past
      ∙ ap (λ i. operand_at (a.taken ++ a.operands) (slice_get (SlotPairs m num.func) i)) index
      ∙ ap (λ ps. operand_at (a.taken ++ a.operands) (slice_get ps k)) (sym same_slots) ∙ ap (operand_at (a.taken ++ a.operands)) e in
      let has : value_at (zs ++ more) (length own + k) ≡ value_at pr.extra k = get_or_append_left zs more (V.I32 0) (length own + k) (omega arith) ∙ extra_got a.locals pr.extra (length own) k o in
      let r = slot_lays (names b num.func) pr.extra keep (a.taken ++ a.operands) h.holds stacked (slots_once b num.func) k q e in
      (λ kept. subst (λ w. Tells w (value_at (zs ++ more) (length own + k))) (sym wants) (subst (Tells (operand_at (a.taken ++ a.operands) (Some q))) (sym has) (r.0 kept)), λ gone. wants ∙ r.1 gone)

  abbrev here : ℕ
  here = place_of (Some num.func) a.code a.labels

  -- THE FIELDS stand for what is wanted
  pub lays : Lays (wanted m num.func (suspended (Base m) a)) ((a.locals ++ pr.extra) ++ more) (fields_of keep (Saved (Base m) s.policy num.func (place_of (Some num.func) a.code a.labels)))
      (Saved m s.policy num.func (place_of (Some num.func) a.code a.labels))
  lays =
      subst (Lays value (zs ++ more) (fields_of keep (Saved (Base m) s.policy num.func here))) (base_saved m valid a.func num.func is_defined s.policy here)
      (fields_lay keep value (zs ++ more) (Saved (Base m) s.policy num.func here) (saved_each (LaysPlace keep value (zs ++ more)) (Base m) s.policy num.func here own_lays slots_lay))
