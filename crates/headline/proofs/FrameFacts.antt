-- An activation that waits at a numbered call: what its frame keeps of the flat locals, and which number the call has.
use Rattle.std.proofs.Common.{◌≡◌, ℕ, zero, suc, ◌+◌, ◌<◌, List, [], ◌∷◌, ◌++◌, length, map, take, reverse, Option, Some, false, Bool, true, All, refl, sym, ap, ◌∙◌, subst, arith, length-append}
use Rattle.std.specs.Prelude.{slice_get}
use Rattle.std.specs.Option.{option_map}
use Rattle.std.proofs.lemmas.List.{get_or_append_left, length-map, length-reverse, length-take-le}
use Rattle.std.proofs.lemmas.Option.{slice_get-map, slice_get_within}
use Rattle.wa_types.specs.Base.{Base}
use Rattle.wa_types.specs.Frames.{Pair, Saved, SlotPairs}
use Rattle.wa_types.specs.Modules.{around, func_type_at, locals_of, type_at}
use Rattle.wa_types.specs.Pausing.{Callee, Numbered, Settings, calls_in, calls_of, direct, has_number, indirect, places_from}
use Rattle.wa_types.specs.Sizes.{value_fits}
use Rattle.wa_types.specs.Syntax.{Code, Func, FuncType, Module}
use Rattle.wa_types.specs.Typing.{type_of}
use Rattle.wa_types.specs.Validity.{Valid}
use Rattle.wa_types.specs.declared.values.ValType.{ValType}
use Rattle.wa_types.specs.declared.values.Value.{Value}
use Rattle.wa_types.specs.declared.values.Value.TheVariants as V
use Rattle.wa_model.specs.Configuration.{Activation, call_count, calls_outside, place_of}
use Rattle.run_theory.specs.Fitting.{types_of}
use Rattle.run_theory.specs.Flat.{followed_by, last_of, set_to}
use Rattle.run_theory.specs.LawfulStacks.{LeadsTo}
use Rattle.wa_model.specs.Step.{param_count}
use Rattle.wa_model.specs.Store.{value_at}
use Rattle.run_theory.proofs.BaseValid.{base_valid}
use Rattle.run_theory.proofs.FittingNames.{func_types_true}
use Rattle.run_theory.proofs.FittingSteps.{body_typed}
use Rattle.flat_laws.specs.Flatten.{Names, flattened, names, slots}
use Rattle.flat_laws.proofs.GotLemmas.{last_reverse}
use Rattle.flat_laws.proofs.Calls.{calls_stay}
use Rattle.flat_runs.specs.Beside.{Locals}
use Rattle.flat_runs.proofs.Slots.{slots_got}
use Rattle.frame_laws.specs.Stack.{AllKept, slot_values}
use Rattle.guard_form.specs.Functions.{GuardedFunc}
use Rattle.guard_form.specs.Numbers.{NumberedAt, calls_behind}
use Rattle.guard_form.specs.Pieces.{Units, call_unit, first_piece, flat_units, units}
use Rattle.guard_form.specs.Places.{BodyPlace, Enclosing, flat_labels}
use Rattle.guard_form.proofs.Counting.{numbers_law, units_law}
use Rattle.guard_form.proofs.Grouped.{free_law, joins_law}
use Rattle.guard_runs.specs.Levels.{FlatFieldsFit}
use Rattle.headline.specs.FlatLaw.{LocalsFit}
use Rattle.slim_laws.specs.Slim.{Terms}
use Rattle.slim_laws.proofs.KeptSizes.{same_calls}
use Rattle.slim_laws.proofs.UnitsAlike.{pieces_call, units_alike}
use Rattle.slim_laws.proofs.UnitsSlim.{units_slim}
use Rattle.slim_laws.specs.SlimModule.{Pieces, SlimPieces, flat_terms}
use Rattle.headline.specs.EmittedModule.{Emitted, Framing, fields_of, guarded_of, pieces_in}
use Rattle.headline.proofs.KeptFields.{fields_fit, kept_reverse, kept_take, saved_each, saved_slot, slots_kept, taken_is, typed_at}
use Rattle.headline.proofs.NumberedCalls.{Took}
use Rattle.headline.proofs.NumberedStacks.{AtNumber}
use Rattle.headline.proofs.NumberedStmts.{flat_numbered}
use Rattle.headline.proofs.OwnBlocks.{block_calls, result_calls}
use Rattle.headline.proofs.PairedStacks.{PairAt}
use Rattle.headline.proofs.PlaceSlots.{args_of, slots_there}
use Rattle.headline.proofs.WrittenLocals.{written_locals}

left_got : {X : Type 0} (xs ys : List X) (i : ℕ) (x : X) → slice_get xs i ≡ Some x → slice_get (xs ++ ys) i ≡ Some x
left_got [] ys i x e = cc
left_got (z ∷ xs) ys zero x e = e
left_got (z ∷ xs) ys (suc i) x e = left_got xs ys i x e

right_got : {X : Type 0} (xs ys : List X) (i : ℕ) → slice_get (xs ++ ys) (length xs + i) ≡ slice_get ys i
right_got {X} [] ys i = let z : length {A = X} [] + i ≡ i = omega arith in ap (slice_get ys) z
right_got (x ∷ xs) ys i = let z : length (x ∷ xs) + i ≡ suc (length xs + i) = omega arith in ap (slice_get (x ∷ (xs ++ ys))) z ∙ right_got xs ys i

slots_long : (n : Names) (ts : List ValType) → length (slots n ts) ≡ length ts
slots_long n [] = refl
slots_long n (t ∷ ts) = ap suc (slots_long n ts)

the_func : (x y : Func) → Some x ≡ Some y → x ≡ y
the_func x y e = cc

-- ---- one activation

module _ (m : Module) (s : Settings) (which : List Bool) (frames : (index : ℕ) → Framing) (p : Module) (valid : Valid m) (em : Emitted m s which frames p)
    (a a' : Activation) (pr : PairAt (Base m) which a a') (table : List (Option ℕ)) (g : ℕ) (num : AtNumber m s which valid table g a) (more : List Value)
    (fit : LocalsFit p a.func ((a.locals ++ pr.extra) ++ more)) where
  abbrev b : Module
  b = Base m

  abbrev pub fu : Func
  fu = num.func

  abbrev own : List ValType
  own = locals_of (Base m) num.func

  abbrev pairs : List Pair
  pairs = SlotPairs (Base m) num.func

  abbrev zs : List Value
  zs = a.locals ++ pr.extra

  abbrev all : List Value
  all = a.taken ++ a.operands

  abbrev here : ℕ
  here = place_of (Some num.func) a.code a.labels

  same_func : pr.func ≡ num.func
  same_func = the_func pr.func num.func (sym pr.is ∙ num.is)

  pub held : Locals (Base m) num.func a.locals pr.extra (a.taken ++ a.operands)
  held = subst (λ (f : Func). Locals (Base m) f a.locals pr.extra (a.taken ++ a.operands)) same_func pr.held

  pub own_size : length a.locals ≡ length (locals_of (Base m) num.func)
  own_size = sym (length-map a.locals type_of) ∙ ap length num.typed

  -- the flat locals have their types
  types_there : (rest : List ValType) × (types_of (zs ++ more) ≡ own ++ (map (λ (q : Pair). q.ty) pairs ++ rest))
  types_there = let w = written_locals m s which frames p valid em a.func num.func fit.found num.is fit.is pr.told in (w.0, fit.typed ∙ w.1)

  abbrev Fits : ℕ → ValType → Type 0
  Fits y t = (y < length zs) × (type_of (value_at zs y) ≡ t) × value_fits (value_at zs y)

  typed_here : (y : ℕ) (t : ValType) → y < length zs → slice_get (types_of (zs ++ more)) y ≡ Some t → Fits y t
  typed_here y t lt e =
      let r = typed_at (zs ++ more) y t e fit.ranges in
      let same : value_at (zs ++ more) y ≡ value_at zs y = get_or_append_left zs more (V.I32 0) y lt in
      (lt, ap type_of (sym same) ∙ r.1, subst value_fits same r.2)

  own_fits : (y : ℕ) (t : ValType) → slice_get own y ≡ Some t → Fits y t
  own_fits y t e =
      let w = types_there in
      let lt = slice_get_within own y t e in
      let l = length-append a.locals pr.extra in let o = own_size in
      typed_here y t (omega arith) (ap (λ ts. slice_get ts y) w.1 ∙ left_got own (map (λ (q : Pair). q.ty) pairs ++ w.0) y t e)

  slot_fits : (k : ℕ) (q : Pair) → slice_get pairs k ≡ Some q → Fits (length own + k) q.ty
  slot_fits k q e =
      let w = types_there in
      let lt = slice_get_within pairs k q e in
      let l = length-append a.locals pr.extra in let o = own_size in let x = held.size in
      typed_here (length own + k) q.ty (omega arith)
      (ap (λ ts. slice_get ts (length own + k)) w.1 ∙ right_got own (map (λ (q : Pair). q.ty) pairs ++ w.0) k
      ∙ left_got (map (λ (q : Pair). q.ty) pairs) w.0 k q.ty (slice_get-map (λ (q : Pair). q.ty) pairs k ∙ ap (option_map (λ (q : Pair). q.ty)) e))

  -- what frames keep of the saved locals can be saved
  pub fields : (keep : ℕ → Bool) → FlatFieldsFit (a.locals ++ pr.extra) (fields_of keep (Saved (Base m) s.policy num.func (place_of (Some num.func) a.code a.labels)))
  fields keep = fields_fit keep zs (Saved (Base m) s.policy num.func here) (saved_each (λ q. Fits q.local q.ty) (Base m) s.policy num.func here own_fits slot_fits)

  -- and the slots of the operands are among them
  pub all_kept : (keep : ℕ → Bool) → All (λ y. keep y ≡ true) (slots (names (Base m) num.func) (types_of (a.taken ++ a.operands)))
      → AllKept (slots (names (Base m) num.func) (types_of (a.taken ++ a.operands))) (fields_of keep (Saved (Base m) s.policy num.func (place_of (Some num.func) a.code a.labels)))
  all_kept keep stacked =
      slots_kept (names b num.func) pr.extra keep (fields_of keep (Saved (Base m) s.policy num.func here)) (types_of all)
      (λ k q e stands h. saved_slot b s.policy num.func here keep (types_of all) k q num.points e stands h) all (λ h lt. refl) held.holds stacked

  -- the operands that the call took are those of its type
  pub took_args : length a.taken ≡ args_of (around (Base m) num.func) num.call
  took_args = by num.call num.leads num.took
    where
      by : (c : Callee) → LeadsTo (Base m) table c (a.taken ++ a.operands) g → Took c (param_count (func_type_at (Base m) g)) (length a.taken) → length a.taken ≡ args_of (around (Base m) num.func) c
      by (direct y) leads took = took ∙ ap (λ i. param_count (func_type_at (Base m) i)) (sym leads)
      by (indirect t) leads took = took ∙ ap (λ (z : FuncType). suc (length z.params)) (func_types_true (func_type_at (Base m) g) (type_at (Base m) t) leads.4)

  module _ (st k : ℕ) (call_slots : List ℕ) (x : Callee) (to : Option ℕ) (behind : Code) (rest : Units) (xs : List Enclosing)
      (pl : BodyPlace st (guarded_of m s which frames a.func num.func) k (call_unit call_slots x to behind rest) xs)
      (left : length (calls_of (set_to to (followed_by behind (flat_units rest)))) + calls_behind (flat_labels (guarded_of m s which frames a.func num.func) xs)
      ≡ call_count a.code + calls_outside a.labels) where
    abbrev gf : GuardedFunc
    gf = guarded_of m s which frames a.func num.func

    abbrev test : Callee → Bool
    test = has_number m s which

    abbrev ps : List ℕ
    ps = Numbered m s which num.func

    -- its pieces are slim
    sp : SlimPieces (Base m) (Numbered m s which num.func) a.func num.func (pieces_in m s which frames a.func)
    sp = em.slim a.func num.func num.is pr.told

    abbrev t : Terms
    t = flat_terms b ps a.func num.func

    -- the pieces in its own block
    abbrev us : Pieces
    us = pieces_in m s which frames a.func

    abbrev result : Option ℕ
    result = (flattened b a.func num.func).result

    abbrev first0 : Code
    first0 = first_piece ps 0 (flattened b a.func num.func).body

    abbrev units0 : Units
    units0 = units ps 0 (flattened b a.func num.func).body

    calls_are : calls_of (followed_by gf.first (flat_units gf.body)) ≡ calls_in num.func
    calls_are =
        block_calls us.first us.units result
        ∙ same_calls t 0 (sp.out ∷ []) sp.out sp.here [] (followed_by first0 (flat_units units0)) (followed_by us.first (flat_units us.units))
        (units_slim t 0 (sp.out ∷ []) sp.out sp.here [] first0 us.first units0 us.units sp.slim)
        ∙ ap calls_of (joins_law ps 0 (flattened b a.func num.func).body) ∙ calls_stay b a.func num.func

    at_place : NumberedAt test gf k x (length (calls_of (set_to to (followed_by behind (flat_units rest)))) + calls_behind (flat_labels gf xs))
    at_place =
        let told = flat_numbered b a.func num.func test in
        let free0 = free_law test ps 0 (flattened b a.func num.func).body told in
        let free = pieces_call t (λ c. test c ≡ false) 0 (sp.out ∷ []) sp.out sp.here [] first0 us.first units0 us.units sp.slim free0.0 free0.1 in
        let alike = units_alike t 0 (sp.out ∷ []) sp.out sp.here [] first0 us.first units0 us.units sp.slim in
        numbers_law test st k gf call_slots x to behind rest xs tt (free.0, free.1, result_calls (λ c. test c ≡ false) result, tt)
        (alike.numbered test (units_law test ps 0 (flattened b a.func num.func).body told), tt) pl

    -- the number of the call is that of its place
    pub number : slice_get (Numbered m s which num.func) k ≡ Some (place_of (Some num.func) a.code a.labels)
    number =
        let n = at_place in
        let len : length (calls_of (followed_by gf.first (flat_units gf.body))) ≡ length (calls_in num.func) = ap length calls_are in
        let counted = n.counted in
        let same : n.place ≡ place_of (Some num.func) a.code a.labels = omega arith in
        ap (λ cs. slice_get (places_from test 0 cs) k) (sym calls_are) ∙ n.number ∙ ap (λ i. Some i) same

    slots_are : call_slots ≡ reverse (take (length a.taken) (slots (names (Base m) num.func) (types_of (a.taken ++ a.operands))))
    slots_are =
        let e = slots_there m s which frames a.func num.func (body_typed b (base_valid m valid) a.func num.func num.is) sp st k
        (place_of (Some num.func) a.code a.labels) call_slots x to behind rest xs (types_of all) pl number num.call num.at num.points in
        let l = slots_long (names b num.func) (types_of all) in let l2 = length-map all type_of in let l3 = length-append a.taken a.operands in
        e ∙ ap (λ i. last_of i (reverse (slots (names b num.func) (types_of all)))) (sym took_args) ∙ last_reverse (length a.taken) (slots (names b num.func) (types_of all)) (omega arith)

    pub slots_few : length call_slots ≡ length a.taken
    slots_few =
        let sl = slots (names b num.func) (types_of all) in
        let l = slots_long (names b num.func) (types_of all) in let l2 = length-map all type_of in let l3 = length-append a.taken a.operands in
        ap length slots_are ∙ length-reverse (take (length a.taken) sl) ∙ length-take-le (length a.taken) sl (omega arith)

    pub kept_slots : (keep : ℕ → Bool) → All (λ y. keep y ≡ true) (slots (names (Base m) num.func) (types_of (a.taken ++ a.operands)))
        → AllKept call_slots (fields_of keep (Saved (Base m) s.policy num.func (place_of (Some num.func) a.code a.labels)))
    kept_slots keep stacked =
        let sl = slots (names b num.func) (types_of all) in
        let fs = fields_of keep (Saved (Base m) s.policy num.func here) in
        subst (λ xs. AllKept xs (fields_of keep (Saved (Base m) s.policy num.func here))) (sym slots_are)
        (kept_reverse (take (length a.taken) sl) fs (kept_take (length a.taken) sl fs (all_kept keep stacked)))

    pub took : a.taken ≡ slot_values (a.locals ++ pr.extra) call_slots []
    took =
        taken_is zs (slots (names b num.func) (types_of all)) a.taken a.operands (slots_got (names b num.func) a.locals own_size pr.extra all held.holds)
        ∙ ap (λ xs. slot_values zs xs []) (sym slots_are)
