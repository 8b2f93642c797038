-- A suspended stack of which memory holds the image, with the locals that its frames have there: it stands beside the same original.
use Rattle.std.proofs.Common.{◌≡◌, ◌≢◌, ℕ, zero, suc, ◌+◌, ◌-◌, ◌<◌, ◌≤◌, List, [], ◌∷◌, ◌++◌, length, map, drop, reverse, Option, Some, None, Bool, true, false, All, refl, sym, ap, ◌∙◌, subst, arith, length-append, length-drop}
use Rattle.std.specs.Prelude.{slice_get, if◌then◌else◌}
use Rattle.std.specs.List.{sum_by}
use Rattle.std.proofs.lemmas.List.{get_or_append_left, length-map, length-reverse, map-append, reverse-append}
use Rattle.std.proofs.lemmas.List.Elements.{All-append}
use Rattle.std.proofs.lemmas.List.Sums.{sum_by-cons}
use Rattle.wa_types.specs.Base.{Base}
use Rattle.wa_types.specs.Frames.{Pair, Place, Saved, SlotPairs, FrameSize, HoldsBytes, HoldsFrame, HoldsFrames, HoldsIndex, HoldsPlaces, call_number, frame_of, of_type, operand_at, same_pair, size_of_found, wanted, word}
use Rattle.wa_types.specs.Modules.{defined_at, locals_of}
use Rattle.wa_types.specs.Pausing.{Callee, Numbered, Settings, TellsMayPause, calls_of}
use Rattle.wa_types.specs.Runtime.{global_space}
use Rattle.wa_types.specs.Sizes.{value_fits}
use Rattle.wa_types.specs.Syntax.{Code, Func, Module}
use Rattle.wa_types.specs.Typing.{type_of}
use Rattle.wa_types.specs.Validity.{Valid}
use Rattle.wa_types.specs.declared.values.ValType.{ValType}
use Rattle.wa_types.specs.declared.values.Value.{Value}
use Rattle.wa_types.specs.declared.values.Value.TheVariants as V
use Rattle.wa_types.proofs.SlotLemmas.{own_pair, same_self}
use Rattle.wa_model.specs.Behaves.{StandsNumbered}
use Rattle.wa_model.specs.Configuration.{Activation, Configuration, call_count, calls_outside, place_of, stack_of, suspended, waiting}
use Rattle.run_theory.specs.Fitting.{ActFits, CallersFit, WaitingFits, results_of, types_of}
use Rattle.run_theory.specs.Flat.{followed_by, set_to}
use Rattle.run_theory.specs.Growth.{spaces_of}
use Rattle.wa_model.specs.Plan.{Plan}
use Rattle.wa_model.specs.Store.{value_at}
use Rattle.run_theory.proofs.GrownSteps.{front}
use Rattle.run_theory.proofs.Runs.{lt_false, lt_true}
use Rattle.run_laws.specs.Ranges.{CodesIn, byte_in}
use Rattle.flat_laws.specs.FlatModule.{flat_module}
use Rattle.flat_laws.specs.Flatten.{Names, names, past, place}
use Rattle.flat_laws.proofs.RuntimeModules.{base_slots}
use Rattle.frame_laws.specs.FrameMemory.{HoldsFields, HoldsFrameOf}
use Rattle.frame_laws.specs.Layout.{frame_size, fields_size}
use Rattle.frame_laws.specs.Stack.{HoldsStack}
use Rattle.frame_laws.specs.Suspended.{Lays, Tells}
use Rattle.guard_form.specs.Functions.{GuardedFunc, with_guards}
use Rattle.guard_form.specs.Numbers.{calls_behind}
use Rattle.guard_form.specs.Pieces.{Units, call_unit, flat_units}
use Rattle.guard_form.specs.Places.{BodyPlace, Enclosing, call_labels, flat_labels, noted_code}
use Rattle.guard_runs.specs.Joined.{CallFrame, one_frame}
use Rattle.guard_runs.specs.Levels.{flat_waiting, levels_of}
use Rattle.guard_runs.specs.Returned.{AllSameFlat}
use Rattle.guard_runs.specs.Alike.{Setting}
use Rattle.guard_runs.specs.Stopped.{Stopped, above, host}
use Rattle.headline.specs.FlatLaw.{AllLocalsFit, LocalsFit}
use Rattle.headline.specs.Given.{Given}
use Rattle.headline.specs.World.{setting}
use Rattle.headline.proofs.FromOpenings.{part_of}
use Rattle.headline.specs.Core.{Core, world_of}
use Rattle.headline.specs.Links.{LinkedWaits}
use Rattle.slim_laws.specs.Beside.{moved}
use Rattle.flat_runs.specs.Beside.{Holds, Locals}
use Rattle.flat_runs.proofs.Slots.{extra_got}
use Rattle.headline.specs.CoreOf.{RunsBeside, WaitsBeside, core_of}
use Rattle.headline.specs.EmittedModule.{Emitted, Framing, fields_of, guarded_of, role_at}
use Rattle.headline.specs.Framed.{Framed, FramedCalls}
use Rattle.headline.proofs.CallPoints.{base_saved}
use Rattle.headline.proofs.FrameFacts as F
use Rattle.headline.proofs.KeptFields.{EachPlace}
use Rattle.headline.proofs.MovedStacks.{AllAgain, callers_moved, fits_moved, moved_all, unders_moved}
use Rattle.headline.proofs.NumberedStacks.{AllAtNumbers, AtNumber}
use Rattle.headline.proofs.PairedFlat.{base_defined, base_locals}
use Rattle.headline.proofs.PairedStacks.{AllPairs, PairAt, call_frame_is}
use Rattle.headline.proofs.Standing.{the_guards}
use Rattle.headline.proofs.StandingAgain.{same_front}
use Rattle.headline.proofs.WaitsAgain.{all_told, named_again, numbers_at, pairs_at}
use Rattle.headline.proofs.WantedFields.{lays, number_is}
use Rattle.image_laws.proofs.ChosenFields as C
use Rattle.image_laws.proofs.ChosenFields.{each_all, each_with, fields_long, fit_each, lays_each, place_width, saved_rises}

the_func : (x y : Func) → Some x ≡ Some y → x ≡ y
the_func x y e = cc

got_value : (ls : List Value) (y : ℕ) → y < length ls → slice_get ls y ≡ Some (value_at ls y)
got_value [] y lt = absurd (omega arith)
got_value (v ∷ ls) zero lt = refl
got_value (v ∷ ls) (suc y) lt = got_value ls y (omega arith)

-- the pair at its place
pair_got : (h : ℕ) (t : ValType) (ps : List Pair) → place h t ps < length ps → slice_get ps (place h t ps) ≡ Some (record { number = h; ty = t })
pair_got h t [] lt = absurd (omega arith)
pair_got h t (p ∷ ps) lt = by (same_pair h t p) refl lt (λ g. pair_got h t ps g)
  where
    made : (p : Pair) (n : ℕ) (u : ValType) → n ≡ p.number → u ≡ p.ty → p ≡ record { number = n; ty = u }
    made p n u e f = ap (λ k. record { number = k; ty = p.ty }) (sym e) ∙ ap (λ v. record { number = n; ty = v }) (sym f)

    by : (b : Bool) → same_pair h t p ≡ b → past b (place h t ps) < suc (length ps) → (place h t ps < length ps → slice_get ps (place h t ps) ≡ Some (record { number = h; ty = t }))
        → slice_get (p ∷ ps) (past b (place h t ps)) ≡ Some (record { number = h; ty = t })
    by true e lt ih = let w = own_pair h p.number t p.ty e in ap (λ z. Some z) (made p h t w.0 w.1)
    by false e lt ih = ih (omega arith)

top_got : (xs : List Value) (w : Value) → slice_get (xs ++ w ∷ []) (length xs) ≡ Some w
top_got [] w = refl
top_got (x ∷ xs) w = top_got xs w

value_top : (w : Value) (ops : List Value) → slice_get (reverse (w ∷ ops)) (length ops) ≡ Some w
value_top w ops = ap (λ xs. slice_get xs (length ops)) (reverse-append (w ∷ []) ops) ∙ ap (slice_get (reverse ops ++ w ∷ [])) (sym (length-reverse ops)) ∙ top_got (reverse ops) w

value_left : (w : Value) (ops : List Value) (h : ℕ) → h < length ops → slice_get (reverse (w ∷ ops)) h ≡ slice_get (reverse ops) h
value_left w ops h lt = ap (λ xs. slice_get xs h) (reverse-append (w ∷ []) ops) ∙ front (reverse ops) (w ∷ []) h (let l = length-reverse ops in omega arith)

-- operands still stand in their slots, where each of those holds what it held
holds_moved : (n : Names) (extra extra2 all : List Value)
    → ((h : ℕ) (v : Value) → slice_get (reverse all) h ≡ Some v → place h (type_of v) n.slots < length n.slots
    → value_at extra2 (place h (type_of v) n.slots) ≡ value_at extra (place h (type_of v) n.slots))
    → (ops : List Value) → ((h : ℕ) → h < length ops → slice_get (reverse all) h ≡ slice_get (reverse ops) h) → Holds n extra ops → Holds n extra2 ops
holds_moved n extra extra2 all each [] same holds = tt
holds_moved n extra extra2 all each (w ∷ ops) same holds =
    let top : slice_get (reverse all) (length ops) ≡ Some w = same (length ops) (omega arith) ∙ value_top w ops in (
      holds.0,
      each (length ops) w top holds.0 ∙ holds.1,
      holds_moved n extra extra2 all each ops (λ h lt. same h (omega (arith, lt)) ∙ value_left w ops h (omega (arith, lt))) holds.2,
    )

-- a layout that keeps nothing
abbrev pub no_lay : Activation → CallFrame
no_lay a = one_frame (record { address = 0; index = 0; scratch = 0; fields = [] }) None

-- locals of the same types
abbrev pub AllTyped : List Activation → List Activation → Type 0
AllTyped [] [] = Unit {0}
AllTyped (v ∷ vs) (c ∷ cs) = (types_of c.locals ≡ types_of v.locals) × AllTyped vs cs
AllTyped _ _ = ⊥

module _ (m : Module) (s : Settings) (which : List Bool) (frames : (index : ℕ) → Framing) (plan : Plan) (p : Module) (valid : Valid m) (tells : TellsMayPause m s which)
    (em : Emitted m s which frames p) (plan_fits : Given m plan) (codes : CodesIn (Base m)) (framed : FramedCalls m s which frames) where
  abbrev k : Core
  k = core_of m s which frames plan p

  abbrev st : ℕ
  st = global_space m

  module _ (top : ℕ) (mem : List ℕ) (bytes : All byte_in mem) where
    abbrev v : Setting
    v = setting (world_of k) top

    -- ---- one activation

    -- locals chosen anew, which memory holds
    pub record NewLocals (a : Activation) (f : GuardedFunc) (n : ℕ) (to : Option ℕ) (behind : Code) (rest : Units) (xs : List Enclosing) (fn : ℕ) (ls extra ops taken : List Value) (at : ℕ) : Type 0 where
      pub locals : List Value
      pub pair : PairAt (Base m) which a (flat_waiting fn f to behind rest xs locals ops taken)
      pub types : types_of locals ≡ types_of ls
      pub fit : LocalsFit p fn (locals ++ extra)
      pub held : HoldsFrameOf (k.lay (flat_waiting fn f to behind rest xs locals ops taken)).layout mem at (locals ++ extra) n
      pub size : frame_size (k.lay (flat_waiting fn f to behind rest xs locals ops taken)).layout ≡ frame_of m s.policy (suspended (Base m) a)

    module _ (a : Activation) (table : List (Option ℕ)) (g : ℕ) (num : AtNumber m s which valid table g a) (f : GuardedFunc) (n : ℕ) (slots : List ℕ) (x : Callee) (to : Option ℕ)
        (behind : Code) (rest : Units) (xs : List Enclosing) (fn : ℕ) (ls extra ops taken : List Value) (is : v.role fn ≡ with_guards f)
        (pl : BodyPlace st f n (call_unit slots x to behind rest) xs) (pr : PairAt (Base m) which a (flat_waiting fn f to behind rest xs ls ops taken)) (fit : LocalsFit p fn (ls ++ extra))
        (at : ℕ) (room : at + frame_of m s.policy (suspended (Base m) a) ≤ length mem) (held : HoldsFrame m s which mem at (suspended (Base m) a) (defined_at m a.func)) where
      abbrev fu : Func
      fu = num.func

      abbrev here : ℕ
      here = place_of (Some num.func) a.code a.labels

      abbrev zs : List Value
      zs = a.locals ++ pr.extra

      abbrev all : List Value
      all = a.taken ++ a.operands

      abbrev value : Place → Option Value
      value q = wanted m num.func (suspended (Base m) a) q

      defined : defined_at m a.func ≡ Some num.func
      defined = sym (base_defined m a.func) ∙ num.is

      f_is : guarded_of m s which frames a.func num.func ≡ f
      f_is =
          the_guards (guarded_of m s which frames a.func num.func) f
          (sym (ap (λ t. role_at m s which frames t a.func (defined_at m a.func)) pr.told ∙ ap (λ o. role_at m s which frames true a.func o) defined)
          ∙ subst (λ y. v.role y ≡ with_guards f) pr.same_func is)

      fit0 : LocalsFit p a.func ((a.locals ++ pr.extra) ++ extra)
      fit0 = subst (λ zs. LocalsFit p a.func (zs ++ extra)) pr.locals (subst (λ y. LocalsFit p y (ls ++ extra)) pr.same_func fit)

      number : slice_get (Numbered m s which num.func) n ≡ Some (place_of (Some num.func) a.code a.labels)
      number =
          F.number m s which frames p valid em a (flat_waiting fn f to behind rest xs ls ops taken) pr table g num extra fit0 st n slots x to behind rest xs
          (subst (λ z. BodyPlace st z n (call_unit slots x to behind rest) xs) (sym f_is) pl)
          (subst (λ z. length (calls_of (set_to to (followed_by behind (flat_units rest)))) + calls_behind (flat_labels z xs) ≡ call_count a.code + calls_outside a.labels) (sym f_is) pr.left)

      fr : Framed m s which frames a.func num.func n (place_of (Some num.func) a.code a.labels)
      fr = framed a.func num.func defined pr.told n here number

      abbrev qs : List Place
      qs = Saved m s.policy num.func (place_of (Some num.func) a.code a.labels)

      saved_is : Saved (Base m) s.policy num.func (place_of (Some num.func) a.code a.labels) ≡ Saved m s.policy num.func (place_of (Some num.func) a.code a.labels)
      saved_is = base_saved m valid a.func num.func defined s.policy here

      own_size : length a.locals ≡ length (locals_of (Base m) num.func)
      own_size = sym (length-map a.locals type_of) ∙ ap length num.typed

      own_len : length (locals_of (Base m) num.func) ≡ length (locals_of m num.func)
      own_len = ap length (base_locals m num.func)

      -- kept places are locals of their types, and hold what is wanted
      locals_there : EachPlace (λ q. fr.keep q.local ≡ true → (q.local < length (a.locals ++ pr.extra)) × (type_of (value_at (a.locals ++ pr.extra) q.local) ≡ q.ty))
          (Saved m s.policy num.func (place_of (Some num.func) a.code a.labels))
      locals_there =
          fit_each fr.keep zs qs (subst (λ ps. Rattle.guard_runs.specs.Levels.FlatFieldsFit (a.locals ++ pr.extra) (fields_of fr.keep ps)) saved_is
          (F.fields m s which frames p valid em a (flat_waiting fn f to behind rest xs ls ops taken) pr table g num extra fit0 fr.keep))

      wanted_there : EachPlace (C.HasWanted mem fr.keep (wanted m num.func (suspended (Base m) a)) bytes (a.locals ++ pr.extra)) (Saved m s.policy num.func (place_of (Some num.func) a.code a.labels))
      wanted_there =
          each_with (λ q. fr.keep q.local ≡ true → (q.local < length (a.locals ++ pr.extra)) × (type_of (value_at (a.locals ++ pr.extra) q.local) ≡ q.ty))
          (λ q. fr.keep q.local ≡ true → Tells (wanted m num.func (suspended (Base m) a) q) (value_at ((a.locals ++ pr.extra) ++ extra) q.local))
          (C.HasWanted mem fr.keep (wanted m num.func (suspended (Base m) a)) bytes (a.locals ++ pr.extra))
          (λ q h t kept. let lt = (h kept).0 in
          (lt, subst (Tells (wanted m num.func (suspended (Base m) a) q)) (get_or_append_left zs extra (V.I32 0) q.local lt) (t kept)))
          qs locals_there
          (lays_each fr.keep value ((a.locals ++ pr.extra) ++ extra) qs (subst (λ ps. Lays (wanted m num.func (suspended (Base m) a)) ((a.locals ++ pr.extra) ++ extra) (fields_of fr.keep ps)
          (Saved m s.policy num.func (place_of (Some num.func) a.code a.labels))) saved_is
          (lays m s which frames p valid em a (flat_waiting fn f to behind rest xs ls ops taken) pr table g num extra fit0 fr.keep fr.own
          (fr.stacked (types_of (a.taken ++ a.operands)) num.points))))

      -- THE CHOICE
      abbrev new : List Value
      new = C.chosen mem fr.keep (wanted m num.func (suspended (Base m) a)) at (Saved m s.policy num.func (place_of (Some num.func) a.code a.labels)) (a.locals ++ pr.extra)

      new_types : types_of new ≡ types_of (a.locals ++ pr.extra)
      new_types = C.chosen_types mem fr.keep value at qs zs locals_there

      new_size : length new ≡ length (a.locals ++ pr.extra)
      new_size = C.chosen_size mem fr.keep value at qs zs

      -- ---- what is wanted stays

      wants_own : (q : Place) → q.local < length a.locals → wanted m num.func (suspended (Base m) a) q ≡ Some (value_at a.locals q.local)
      wants_own q lt =
          let o = own_size in let l = own_len in
          ap (λ b. if b then slice_get a.locals q.local else operand_at (a.taken ++ a.operands) (slice_get (SlotPairs m num.func) (q.local - length (locals_of m num.func))))
          (lt_true q.local (length (locals_of m num.func)) (omega arith))
          ∙ got_value a.locals q.local lt

      abbrev pairs : List Pair
      pairs = SlotPairs (Base m) num.func

      wants_slot : (q : Place) (h : ℕ) (w : Value) → slice_get (reverse (a.taken ++ a.operands)) h ≡ Some w
          → place h (type_of w) (SlotPairs (Base m) num.func) < length (SlotPairs (Base m) num.func)
          → q.local ≡ length (locals_of (Base m) num.func) + place h (type_of w) (SlotPairs (Base m) num.func) → wanted m num.func (suspended (Base m) a) q ≡ Some w
      wants_slot q h w e lt q_is =
          let l = own_len in
          let j = place h (type_of w) (SlotPairs (Base m) num.func) in
          let index : q.local - length (locals_of m num.func) ≡ place h (type_of w) (SlotPairs (Base m) num.func) = omega arith in
          ap (λ b. if b then slice_get a.locals q.local else operand_at (a.taken ++ a.operands) (slice_get (SlotPairs m num.func) (q.local - length (locals_of m num.func))))
          (lt_false q.local (length (locals_of m num.func)) (omega arith))
          ∙ ap (λ i. operand_at (a.taken ++ a.operands) (slice_get (SlotPairs m num.func) i)) index
          ∙ ap (λ ps. operand_at (a.taken ++ a.operands) (slice_get ps j)) (sym (base_slots m valid a.func num.func defined))
          ∙ ap (operand_at (a.taken ++ a.operands)) (pair_got h (type_of w) pairs lt)
          ∙ ap (of_type (type_of w)) e ∙ ap (λ b. if b then Some w else None) (same_self (type_of w))

      some_not : {X : Type 0} (o : Option X) (w : X) → o ≡ Some w → o ≡ None → ⊥
      some_not o w e n = let z : None ≡ Some w = sym n ∙ e in cc

      own_same : (y : ℕ) → y < length a.locals → value_at new y ≡ value_at a.locals y
      own_same y lt =
          C.chosen_same mem fr.keep value y at qs zs
          (each_all (λ q. wanted m num.func (suspended (Base m) a) q ≡ None → y ≢ q.local)
          (λ q none e. some_not (value q) (value_at a.locals q.local) (wants_own q (subst (λ i. i < length a.locals) e lt)) none) qs)
          ∙ get_or_append_left a.locals pr.extra (V.I32 0) y lt

      abbrev more : List Value
      more = drop (length a.locals) new

      split : new ≡ a.locals ++ drop (length a.locals) new
      split = let l = length-append a.locals pr.extra in let z = new_size in same_front a.locals new (omega arith) own_same

      slot_same : (h : ℕ) (w : Value) → slice_get (reverse (a.taken ++ a.operands)) h ≡ Some w
          → place h (type_of w) (SlotPairs (Base m) num.func) < length (SlotPairs (Base m) num.func)
          → value_at (drop (length a.locals) new) (place h (type_of w) (SlotPairs (Base m) num.func)) ≡ value_at pr.extra (place h (type_of w) (SlotPairs (Base m) num.func))
      slot_same h w e lt =
          let first = length (locals_of (Base m) num.func) in
          let j = place h (type_of w) (SlotPairs (Base m) num.func) in
          sym (extra_got a.locals (drop (length a.locals) new) first j own_size) ∙ ap (λ zs. value_at zs (first + j)) (sym split)
          ∙ C.chosen_same mem fr.keep value (first + j) at qs zs
          (each_all (λ q. wanted m num.func (suspended (Base m) a) q ≡ None → length (locals_of (Base m) num.func) + place h (type_of w) (SlotPairs (Base m) num.func) ≢ q.local)
          (λ q none is. some_not (value q) w (wants_slot q h w e lt (sym is)) none) qs)
          ∙ extra_got a.locals pr.extra first j own_size

      same_f : pr.func ≡ num.func
      same_f = the_func pr.func num.func (sym pr.is ∙ num.is)

      held0 : Locals (Base m) num.func a.locals pr.extra (a.taken ++ a.operands)
      held0 = subst (λ (z : Func). Locals (Base m) z a.locals pr.extra (a.taken ++ a.operands)) same_f pr.held

      held_new : Locals (Base m) num.func a.locals (drop (length a.locals) new) (a.taken ++ a.operands)
      held_new = record {
        typed = held0.typed;
        size = let l = length-append a.locals pr.extra in let d = length-drop (length a.locals) new in let h = held0.size in let z = new_size in omega arith;
        holds = holds_moved (names (Base m) num.func) pr.extra more all slot_same all (λ h lt. refl) held0.holds;
      }

      pair_new : PairAt (Base m) which a (flat_waiting fn f to behind rest xs new ops taken)
      pair_new = record {
        told = pr.told;
        same_func = pr.same_func;
        none = pr.none;
        same_taken = pr.same_taken;
        zero = pr.zero;
        func = num.func;
        is = num.is;
        extra = more;
        locals = split;
        held = held_new;
        left = pr.left;
      }

      -- ---- memory holds them

      fields_is : (k.lay (flat_waiting fn f to behind rest xs new ops taken)).layout.fields ≡ fields_of fr.keep (Saved m s.policy num.func (place_of (Some num.func) a.code a.labels))
      fields_is =
          ap (λ (z : CallFrame). z.layout.fields) (call_frame_is m s which frames plan p a (flat_waiting fn f to behind rest xs new ops taken) pair_new num.func defined) ∙ fr.fields
          ∙ ap (fields_of fr.keep) saved_is

      place_same : (suspended (Base m) a).place ≡ place_of (Some num.func) a.code a.labels
      place_same = ap (λ o. place_of o a.code a.labels) num.is

      held_there : HoldsFrame m s which mem at (suspended (Base m) a) (Some num.func)
      held_there = subst (HoldsFrame m s which mem at (suspended (Base m) a)) defined held

      places_held : HoldsPlaces mem (wanted m num.func (suspended (Base m) a)) at (Saved m s.policy num.func (place_of (Some num.func) a.code a.labels))
      places_held = subst (λ i. HoldsPlaces mem (wanted m num.func (suspended (Base m) a)) at (Saved m s.policy num.func i)) place_same held_there.0

      frame_is : frame_of m s.policy (suspended (Base m) a) ≡ 4 + sum_by place_width (Saved m s.policy num.func (place_of (Some num.func) a.code a.labels))
      frame_is = ap (λ o. size_of_found m s.policy o (suspended (Base m) a).place) defined ∙ ap (FrameSize m s.policy num.func) place_same

      total : fields_size (k.lay (flat_waiting fn f to behind rest xs new ops taken)).layout.fields ≡ sum_by place_width (Saved m s.policy num.func (place_of (Some num.func) a.code a.labels))
      total = ap fields_size fields_is ∙ fields_long fr.keep qs

      enough : at + sum_by place_width (Saved m s.policy num.func (place_of (Some num.func) a.code a.labels)) ≤ length mem
      enough = let z = frame_is in omega arith

      fields_new : HoldsFields mem (new ++ extra) at (fields_of fr.keep (Saved m s.policy num.func (place_of (Some num.func) a.code a.labels)))
      fields_new =
          C.fields_moved mem fr.keep value bytes new (new ++ extra) at qs
          (each_with (λ q. fr.keep q.local ≡ true → (q.local < length (a.locals ++ pr.extra)) × (type_of (value_at (a.locals ++ pr.extra) q.local) ≡ q.ty))
          (λ q. Unit {0}) (λ q. fr.keep q.local ≡ true → value_at (new ++ extra) q.local ≡ value_at new q.local)
          (λ q h u kept. let lt = (h kept).0 in let z = new_size in get_or_append_left new extra (V.I32 0) q.local (omega arith)) qs locals_there (each_all (λ q. Unit {0}) (λ q. tt) qs))
          (C.chosen_hold mem fr.keep value bytes 0 at qs zs (saved_rises m s.policy num.func here) enough wanted_there places_held)

      index_new : HoldsBytes mem (at + fields_size (k.lay (flat_waiting fn f to behind rest xs new ops taken)).layout.fields) (word n)
      index_new =
          let z : at + FrameSize m s.policy num.func (suspended (Base m) a).place - 4 ≡ at + fields_size (k.lay (flat_waiting fn f to behind rest xs new ops taken)).layout.fields =
          let t = total in let w = ap (FrameSize m s.policy num.func) place_same in omega arith in
          let i : HoldsIndex mem (at + FrameSize m s.policy num.func (suspended (Base m) a).place - 4) (Some n) =
          subst (HoldsIndex mem (at + FrameSize m s.policy num.func (suspended (Base m) a).place - 4))
          (ap (call_number m s which num.func) place_same ∙ number_is m s which num.func n here number) held_there.1 in
          subst (λ j. HoldsBytes mem j (word n)) z i

      pub one_new : NewLocals a f n to behind rest xs fn ls extra ops taken at
      one_new = record {
        locals = new;
        pair = pair_new;
        types = new_types ∙ ap types_of (sym pr.locals);
        fit = record {
          found = fit.found;
          is = fit.is;
          typed = map-append type_of new extra ∙ ap (λ ts. ts ++ types_of extra) (new_types ∙ ap types_of (sym pr.locals)) ∙ sym (map-append type_of ls extra) ∙ fit.typed;
          ranges = All-append value_fits new extra
              (C.chosen_ranges mem fr.keep value bytes at qs zs enough (subst (All value_fits) pr.locals ((part_of value_fits ls extra fit.ranges).0)))
              (part_of value_fits ls extra fit.ranges).1;
        };
        held = record {
          fields = subst (HoldsFields mem (new ++ extra) at) (sym fields_is) fields_new;
          index = index_new;
        };
        size = let t = total in let z = frame_is in omega arith;
      }

    -- ---- a whole stack

    pub record Chosen (c : ℕ) (us vs : List Activation) (at : ℕ) : Type 0 where
      pub cs : List Activation
      pub ws : List Activation
      pub stopped : Stopped (setting (world_of (core_of m s which frames plan p)) top) c cs ws
      pub pairs : AllPairs (Base m) which us cs
      pub same : AllSameFlat no_lay vs cs
      pub types : AllTyped vs cs
      pub fit : AllLocalsFit p ws
      pub holds : HoldsStack mem at (levels_of (setting (world_of (core_of m s which frames plan p)) top) (core_of m s which frames plan p).lay stopped)
      pub count : length cs ≡ length vs

    typed_long : (xs ys : List Value) → types_of xs ≡ types_of ys → length xs ≡ length ys
    typed_long xs ys e = sym (length-map xs type_of) ∙ ap length e ∙ length-map ys type_of

    pub choose : (table : List (Option ℕ)) (g c : ℕ) (us vs ws : List Activation) → Stopped (setting (world_of (core_of m s which frames plan p)) top) c vs ws → AllPairs (Base m) which us vs
        → AllAtNumbers m s which valid table g us → AllLocalsFit p ws → (at : ℕ) → at + sum_by (frame_of m s.policy) (map (suspended (Base m)) us) ≤ length mem
        → HoldsFrames m s which mem at (map (suspended (Base m)) us) → Chosen c us vs at
    choose table g c [] _ _ (host e) ps nums fit at room held =
        record { cs = []; ws = []; stopped = host e; pairs = tt; same = tt; types = tt; fit = tt; holds = tt; count = refl }
    choose table g c (a ∷ us) _ _ (host e) ps nums fit at room held = absurd ps
    choose table g c [] _ _ (above fn here is ls extra ops taken both h pl gt deep below) ps nums fit at room held = absurd ps
    choose table g c (a ∷ us) _ _ (above {f = f} {k = n} {slots = slots} {x = x} {to = to} {behind = behind} {rest = rest} {xs = xs} {under = under} {under' = under'} fn here is ls extra
        ops taken both h pl gt deep below) ps nums fit at room held =
        let total = sum_by-cons (frame_of m s.policy) (suspended (Base m) a) (map (suspended (Base m)) us) in
        let o = one_new a table g nums.0 f n slots x to behind rest xs fn ls extra ops taken is pl.place ps.0 fit.0 at (omega arith) held.0 in
        let ih = choose table a.func fn us under under' below ps.1 nums.1 fit.1 (at + frame_of m s.policy (suspended (Base m) a)) (omega arith) held.1 in
        let long : length o.locals ≡ length ls = typed_long o.locals ls o.types in
        let count = ih.count in
        record {
          cs = flat_waiting fn f to behind rest xs o.locals ops taken ∷ ih.cs;
          ws = waiting fn (o.locals ++ extra) ops taken (noted_code st f xs n to behind rest) (call_labels st f h xs n rest) ∷ ih.ws;
          stopped =
              above {k = n} {slots = slots} {x = x} {to = to} {behind = behind} {rest = rest} {xs = xs} fn here is o.locals extra ops taken
              (record { size = long ∙ both.size; more = both.more }) h pl gt (omega arith) ih.stopped;
          pairs = (o.pair, ih.pairs);
          same = (record { func = refl; taken = refl; code = refl; labels = refl; operands = (ps.0).none; size = long; kept_same = λ y none. absurd none }, ih.same);
          types = (o.types, ih.types);
          fit = (o.fit, ih.fit);
          holds = (o.held, subst (λ i. HoldsStack mem (at + i) (levels_of v k.lay ih.stopped)) (sym o.size) ih.holds);
          count = ap suc count;
        }

  -- ---- it stands beside the same original

  fits_typed : (outs types : List ValType) (us vs cs : List Activation) → AllPairs (Base m) which us vs → CallersFit k.flat outs types vs → AllSameFlat no_lay vs cs → AllTyped vs cs
      → CallersFit k.flat outs types cs
  fits_typed outs types us [] [] ps h same ts = h
  fits_typed outs types us [] (c ∷ cs) ps h same ts = absurd same
  fits_typed outs types us (v ∷ vs) [] ps h same ts = absurd same
  fits_typed outs types [] (v ∷ vs) (c ∷ cs) ps h same ts = absurd ps
  fits_typed outs types (a ∷ us) (v ∷ vs) (c ∷ cs) ps h same ts =
      let h0 = h.0 in
      let sm = same.0 in
      let act : ActFits k.flat v.func c.locals v.code v.labels (types ++ types_of v.operands) =
      record { func = h0.func; func_is = h0.func_is; locals_fit = ts.0 ∙ h0.locals_fit; results = h0.results; own = h0.own; below = h0.below; types_are = h0.types_are; stands = h0.stands } in (
        subst (λ os. ActFits k.flat c.func c.locals c.code c.labels (types ++ types_of os)) ((ps.0).none ∙ sym sm.operands)
            (subst (λ ls. ActFits k.flat c.func c.locals c.code ls (types ++ types_of v.operands)) (sym sm.labels)
            (subst (λ z. ActFits k.flat c.func c.locals z v.labels (types ++ types_of v.operands)) (sym sm.code)
            (subst (λ x. ActFits k.flat x c.locals v.code v.labels (types ++ types_of v.operands)) (sym sm.func) act))),
        subst (λ x. CallersFit k.flat outs (results_of k.flat x) cs) (sym sm.func) (fits_typed outs (results_of k.flat v.func) us vs cs ps.1 h.1 same.1 ts.1),
      )

  again_of : (us cs : List Activation) → AllPairs (Base m) which us cs → AllAgain (Base m) which us cs
  again_of [] [] ps = tt
  again_of [] (c ∷ cs) ps = absurd ps
  again_of (a ∷ us) [] ps = absurd ps
  again_of (a ∷ us) (c ∷ cs) ps = let pr = ps.0 in (record { func = pr.func; is = pr.is; extra = pr.extra; locals = pr.locals; held = pr.held }, again_of us cs ps.1)

  abbrev BB : (spare : ℕ) → Configuration → Configuration → Type 0
  BB = RunsBeside m s which frames plan p

  abbrev AA : ℕ → Configuration → Configuration → Type 0
  AA = WaitsBeside m s which frames plan p

  pub waits_chosen : (i : ℕ) (d f : Configuration) (c : Activation) (cs : List Activation)
      → (l : LinkedWaits (core_of m s which frames plan p) (RunsBeside m s which frames plan p) (WaitsBeside m s which frames plan p) i d f)
      → All (StandsNumbered m s which) (stack_of (Base m) d) → AllPairs (Base m) which (d.here ∷ d.under) (c ∷ cs) → AllSameFlat no_lay (f.here ∷ f.under) (c ∷ cs)
      → AllTyped (f.here ∷ f.under) (c ∷ cs)
      → LinkedWaits (core_of m s which frames plan p) (RunsBeside m s which frames plan p) (WaitsBeside m s which frames plan p) i d (record { store = f.store; here = c; under = cs })
  waits_chosen i d f c cs l nums pairs same types =
      let be = l.beside in
      let v = be.between in
      let ff = l.flat_fits in
      let nm = l.named in
      let at = numbers_at m s which frames plan p valid tells em plan_fits codes i d f l nums in
      let ps = pairs_at m s which frames plan p valid tells em plan_fits codes i d f l nums in
      let told = all_told m s which frames plan p valid tells em plan_fits codes d.store.table i (d.here ∷ d.under) at in
      let na = named_again (spaces_of k.flat) no_lay (f.here ∷ f.under) (c ∷ cs) same (nm.here, nm.under) in
      let new_fits : WaitingFits k.flat l.flat_outs i (record { store = f.store; here = c; under = cs }) =
      record { store = ff.store; waits = fits_typed l.flat_outs (results_of k.flat i) (d.here ∷ d.under) (f.here ∷ f.under) (c ∷ cs) ps ff.waits same types } in
      record {
        beside = record {
          between = record { store = v.store; here = moved v.here c.locals; under = moved_all v.under cs };
          asked = record {
            same_store = (be.asked).same_store;
            store = (be.asked).store;
            waits = callers_moved (Base m) which i (d.here ∷ d.under) (v.here ∷ v.under) (c ∷ cs) (be.asked).waits told (again_of (d.here ∷ d.under) (c ∷ cs) pairs);
          };
          outs = be.outs;
          fits = record {
            store = (be.fits).store;
            waits = fits_moved m s which frames plan p no_lay be.outs (results_of (flat_module (Base m) which) i) l.flat_outs (results_of k.flat i)
                (v.here ∷ v.under) (f.here ∷ f.under) (c ∷ cs) (be.slim_asked).stack same (be.fits).waits new_fits.waits;
          };
          slim_asked = record {
            store = (be.slim_asked).store;
            stack = unders_moved m s which frames plan p no_lay (d.here ∷ d.under) (v.here ∷ v.under) (f.here ∷ f.under) (c ∷ cs) (be.slim_asked).stack ps same;
          };
        };
        known = l.known;
        outs = l.outs;
        fits = l.fits;
        flat_outs = l.flat_outs;
        flat_fits = new_fits;
        named = record { store = nm.store; here = na.0; under = na.1 };
        ranges = l.ranges;
        spots = l.spots;
        root = l.root;
        stands = l.stands;
      }
