-- Suspended stacks of numbered calls, with slim pieces: what an activation of the flat module has at its call, that with slim code has.
use Rattle.std.proofs.Common.{◌≡◌, ℕ, zero, suc, ◌+◌, ◌-◌, ◌<◌, List, [], ◌∷◌, ◌++◌, length, drop, reverse, Option, Some, Bool, true, false, not, All, refl, sym, ap, ◌∙◌, subst, arith, length-append, length-drop, ⊎_elim}
use Rattle.std.specs.Prelude.{slice_get, nat_eq}
use Rattle.std.specs.Option.{option_map}
use Rattle.std.proofs.lemmas.Bool.{cases_lt, eq-eqb}
use Rattle.std.proofs.lemmas.List.{get_or_append_left, length-map, reverse-append, reverse-reverse}
use Rattle.std.proofs.lemmas.List.Elements.{All-append, All-cons, All-head, All-nil, All-tail}
use Rattle.std.proofs.lemmas.List.Folds.{list_any_at}
use Rattle.std.proofs.lemmas.Option.{slice_get-map}
use Rattle.wa_types.specs.declared.values.ValType.{ValType}
use Rattle.wa_types.specs.declared.values.Value.{Value}
use Rattle.wa_types.specs.declared.values.Value.TheVariants as V
use Rattle.wa_types.specs.Base.{Base}
use Rattle.wa_types.specs.Frames.{Pair}
use Rattle.wa_types.specs.Modules.{around, locals_of}
use Rattle.wa_types.specs.Pausing.{Numbered, Settings, calls_in, calls_of, is_told}
use Rattle.wa_types.specs.Points.{func_call_points}
use Rattle.wa_types.specs.Syntax.{Code, Func, Module}
use Rattle.wa_types.specs.Validity.{Valid}
use Rattle.wa_types.proofs.PlaceLemmas.{point_each}
use Rattle.wa_model.specs.Configuration.{Activation, Label, block_label, call_count, calls_outside, loop_label, place_of, waiting}
use Rattle.run_theory.specs.Fitting.{types_of}
use Rattle.wa_model.specs.Plan.{Plan}
use Rattle.wa_model.specs.Store.{value_at}
use Rattle.run_theory.proofs.BaseValid.{base_valid}
use Rattle.run_theory.proofs.FittingSteps.{body_typed}
use Rattle.flat_laws.specs.FlatModule.{stacks_in}
use Rattle.flat_laws.specs.Flatten.{flattened, names, slots}
use Rattle.flat_laws.proofs.Sizes.{stacks_are_slots}
use Rattle.flat_runs.specs.Beside.{AtZero, Locals}
use Rattle.flat_runs.proofs.Slots.{extra_got}
use Rattle.guard_form.specs.Grouping.{is_place}
use Rattle.guard_form.specs.Numbers.{calls_behind}
use Rattle.guard_runs.specs.Alike.{Setting}
use Rattle.guard_runs.specs.Stopped.{AllNumbered}
use Rattle.slim_laws.specs.Slim.{Free, Held, Slims, Terms}
use Rattle.slim_laws.proofs.KeptSizes.{same_calls}
use Rattle.slim_laws.specs.Beside as S
use Rattle.slim_laws.specs.Beside.{Agree, Around, Sides, Unders, above, bottom, in_block, in_body, in_loop, waits}
use Rattle.headline.specs.SlimBeside.{slim_sides}
use Rattle.slim_laws.specs.SlimModule.{fixed_where, flat_terms, locals_below, terms_where}
use Rattle.headline.specs.CoreOf.{flat_core}
use Rattle.headline.specs.EmittedModule.{Framing, pieces_in, places_in, slim_of, terms_of}
use Rattle.headline.proofs.NumberedStacks.{AllAtNumbers, AtNumber}
use Rattle.headline.proofs.PairedStacks.{AllPairs, PairAt}
use Rattle.headline.proofs.StandingAgain.{holds_over, same_front}

-- ---- labels

-- calls behind are counted in one way
same_behind : (labels : List Label) → S.calls_behind labels ≡ calls_behind labels
same_behind [] = refl
same_behind (block_label h arity rest skipped ∷ labels) = ap (λ i. length (calls_of skipped) + (length (calls_of rest) + i)) (same_behind labels)
same_behind (loop_label h body rest ∷ labels) = ap (λ i. length (calls_of rest) + i) (same_behind labels)

around_behind : (t : Terms) (n : ℕ) (ts : List Free) (out : Free) (labels labels' : List Label) → Around t n ts out labels labels' → calls_behind labels' ≡ calls_behind labels
around_behind t _ _ _ _ _ in_body = refl
around_behind t _ _ _ _ _ (in_block {n = n} {ts = ts} {out = out} {g = g} {rest = rest} {rest' = rest'} {labels = labels} {labels' = labels'} h arity sk sk' em es sl ar) =
    let e = around_behind t n ts out labels labels' ar in
    let c = ap length (same_calls t n ts out g [] rest rest' sl) in
    omega arith
around_behind t _ _ _ _ _ (in_loop {n = n} {ts = ts} {out = out} {g = g} {rest = rest} {rest' = rest'} {labels = labels} {labels' = labels'} h em sb sl ar) =
    let e = around_behind t n ts out labels labels' ar in
    let c = ap length (same_calls t n ts out g [] rest rest' sl) in
    omega arith

around_zero : (t : Terms) (n : ℕ) (ts : List Free) (out : Free) (labels labels' : List Label) → Around t n ts out labels labels' → AtZero labels → AtZero labels'
around_zero t _ _ _ _ _ in_body h = tt
around_zero t _ _ _ _ _ (in_block {n = n} {ts = ts} {out = out} {labels = labels} {labels' = labels'} hh arity sk sk' em es sl ar) h = (h.0, h.1, around_zero t n ts out labels labels' ar h.2)
around_zero t _ _ _ _ _ (in_loop {n = n} {ts = ts} {out = out} {labels = labels} {labels' = labels'} hh em sb sl ar) h = (h.0, around_zero t n ts out labels labels' ar h.1)

around_count : (t : Terms) (n : ℕ) (ts : List Free) (out : Free) (labels labels' : List Label) → Around t n ts out labels labels' → n ≡ calls_behind labels
around_count t _ _ _ _ _ in_body = refl
around_count t _ _ _ _ _ (in_block {n = n} {ts = ts} {out = out} {labels = labels} {labels' = labels'} h arity sk sk' em es sl ar) = let e = around_count t n ts out labels labels' ar in omega arith
around_count t _ _ _ _ _ (in_loop {n = n} {ts = ts} {out = out} {labels = labels} {labels' = labels'} h em sb sl ar) = let e = around_count t n ts out labels labels' ar in omega arith

-- ---- locals that may not differ

held_append : (f : Free) (xs ys : List ℕ) → Held f (xs ++ ys) → Held f xs × Held f ys
held_append f [] ys h = (tt, h)
held_append f (x ∷ xs) ys h = let r = held_append f xs ys h.1 in ((h.0, r.0), r.1)

held_below : (f : Free) (n y : ℕ) → y < n → Held f (locals_below n) → f y ≡ false
held_below f zero y lt h = absurd (omega arith)
held_below f (suc n) y lt h =
    ⊎_elim (λ less. held_below f n y less h.1) (λ ge. let z : n ≡ y = omega arith in subst (λ i. f i ≡ false) z h.0) (cases_lt y n)

held_all : (f : Free) (xs : List ℕ) → Held f xs → All (λ y. not (f y) ≡ true) xs
held_all f [] h = All-nil (λ y. not (f y) ≡ true)
held_all f (x ∷ xs) h = All-cons (λ y. not (f y) ≡ true) x xs (ap not h.0) (held_all f xs h.1)

all_back : (P : ℕ → Type 0) (xs : List ℕ) → All P xs → All P (reverse xs)
all_back P [] a = All-nil P
all_back P (x ∷ xs) a =
    subst (All P) (sym (reverse-append (x ∷ []) xs)) (All-append P (reverse xs) (x ∷ []) (all_back P xs (All-tail P x xs a)) (All-cons P x [] (All-head P x xs a) (All-nil P)))

not_free : (b : Bool) → not b ≡ true → b ≡ false
not_free true e = cc
not_free false e = refl

module _ (m : Module) (s : Settings) (which : List Bool) (frames : (index : ℕ) → Framing) (plan : Plan) (p : Module) (valid : Valid m) where
  abbrev b : Module
  b = Base m

  abbrev pub w : Sides
  w = slim_sides (flat_core m s which frames plan p) (slim_of m s which frames) (terms_of m s which frames)

  -- ---- numbers

  -- what the slim activations called has a number, where what the flat ones called has
  pub numbered_too : (v : Setting) (g : ℕ) (us us' : List Activation) → Unders (slim_sides (flat_core m s which frames plan p) (slim_of m s which frames) (terms_of m s which frames)) us us'
      → AllNumbered v g us → AllNumbered v g us'
  numbered_too v g _ _ bottom h = tt
  numbered_too v g _ _ (above {under = us} {under' = us'} (waits fn f ac ls ls' ops taken size ag sl ar) un) h = (h.0, numbered_too v fn us us' un h.1)

  -- ---- at a numbered call

  module _ (a : Activation) (table : List (Option ℕ)) (g : ℕ) (num : AtNumber m s which valid table g a) where
    abbrev fu : Func
    fu = num.func

    abbrev here : ℕ
    here = place_of (Some num.func) a.code a.labels

    abbrev all : List Value
    all = a.taken ++ a.operands

    abbrev ts : List ValType
    ts = types_of (a.taken ++ a.operands)

    stack_there : slice_get (stacks_in (flattened (Base m) a.func num.func).body) (place_of (Some num.func) a.code a.labels)
        ≡ Some (reverse (slots (names (Base m) num.func) (types_of (a.taken ++ a.operands))))
    stack_there =
        ap (λ z. slice_get z here) (stacks_are_slots b a.func fu (body_typed b (base_valid m valid) a.func fu num.is))
        ∙ slice_get-map (λ (os : List ValType). reverse (slots (names b fu) os)) (func_call_points b fu) here ∙ ap (option_map (λ (os : List ValType). reverse (slots (names b fu) os))) num.points

    stacks_long : length (stacks_in (flattened (Base m) a.func num.func).body) ≡ length (calls_in num.func)
    stacks_long =
        ap length (stacks_are_slots b a.func fu (body_typed b (base_valid m valid) a.func fu num.is)) ∙ length-map (func_call_points b fu) (λ (os : List ValType). reverse (slots (names b fu) os))
        ∙ point_each (around b fu) ((around b fu).result ∷ []) fu.body [] []

    at_place : is_place (Numbered m s which num.func) (place_of (Some num.func) a.code a.labels) ≡ true
    at_place = let l = num.listed in list_any_at (λ i. nat_eq i here) (Numbered m s which fu) l.0 here l.1 (ap (λ z. nat_eq z here) l.2 ∙ eq-eqb here here refl)

    -- what may not differ there
    fixed_there : (left : ℕ) → left ≡ call_count a.code + calls_outside a.labels
        → (flat_terms (Base m) (Numbered m s which num.func) a.func num.func).fixed left ≡ locals_below (length (locals_of (Base m) num.func))
        ++ reverse (slots (names (Base m) num.func) (types_of (a.taken ++ a.operands)))
    fixed_there left e =
        let stacks = stacks_in (flattened b a.func fu).body in
        let own = length (locals_of b fu) in
        let same : length stacks - suc left ≡ here = let l = stacks_long in omega arith in
        ap (λ i. fixed_where (is_place (Numbered m s which fu) i) own (slice_get stacks i)) same ∙ ap (λ z. fixed_where z own (slice_get stacks here)) at_place ∙ ap (fixed_where true own) stack_there

    terms_there : is_told (slice_get which a.func) ≡ true → flat_terms (Base m) (Numbered m s which num.func) a.func num.func ≡ terms_of m s which frames a.func
    terms_there told =
        ap (λ z. terms_where b which (places_in m s which) (pieces_in m s which frames) z a.func (Some fu)) (sym told)
        ∙ ap (terms_where b which (places_in m s which) (pieces_in m s which frames) (is_told (slice_get which a.func)) a.func) (sym num.is)

    -- what a slim activation has in common with the original's
    pair_with : (fn : ℕ) (f : Free) (ls ls' ops taken : List Value) (n : ℕ) (frees : List Free) (out : Free) (rest rest' : Code) (labels labels' : List Label)
        → Held f ((terms_of m s which frames fn).fixed (length (calls_of rest) + n)) → Agree f ls ls' → Slims (terms_of m s which frames fn) n frees out f [] rest rest'
        → Around (terms_of m s which frames fn) n frees out labels labels' → PairAt (Base m) which a (waiting fn ls ops taken rest labels)
        → PairAt (Base m) which a (waiting fn ls' ops taken rest' labels')
    pair_with fn f ls ls' ops taken n frees out rest rest' labels labels' ac ag sl ar pr = record {
      told = pr.told;
      same_func = pr.same_func;
      none = pr.none;
      same_taken = pr.same_taken;
      zero = around_zero (terms_of m s which frames fn) n frees out labels labels' ar pr.zero;
      func = fu;
      is = num.is;
      extra = drop (length a.locals) ls';
      locals = split;
      held = again;
      left = let e1 = ap length (same_calls (terms_of m s which frames fn) n frees out f [] rest rest' sl) in let e2 =
          around_behind (terms_of m s which frames fn) n frees out labels labels' ar in let e3 = pr.left in omega arith;
    }
      where
        same_f : pr.func ≡ num.func
        same_f = the_func pr.func num.func (sym pr.is ∙ num.is)
          where
            the_func : (x y : Func) → Some x ≡ Some y → x ≡ y
            the_func x y e = cc

        held0 : Locals (Base m) num.func a.locals pr.extra (a.taken ++ a.operands)
        held0 = subst (λ (z : Func). Locals (Base m) z a.locals pr.extra (a.taken ++ a.operands)) same_f pr.held

        fixed_now : (terms_of m s which frames fn).fixed (length (calls_of rest) + n) ≡ locals_below (length (locals_of (Base m) num.func))
            ++ reverse (slots (names (Base m) num.func) (types_of (a.taken ++ a.operands)))
        fixed_now =
            let e1 = around_count (terms_of m s which frames fn) n frees out labels labels' ar in
            let e2 = pr.left in
            ap (λ x. (terms_of m s which frames x).fixed (length (calls_of rest) + n)) pr.same_func ∙ ap (λ (z : Terms). z.fixed (length (calls_of rest) + n)) (sym (terms_there pr.told))
            ∙ fixed_there (length (calls_of rest) + n) (omega arith)

        both : Held f (locals_below (length (locals_of (Base m) num.func))) × Held f (reverse (slots (names (Base m) num.func) (types_of (a.taken ++ a.operands))))
        both = held_append f (locals_below (length (locals_of b fu))) (reverse (slots (names b fu) ts)) (subst (Held f) fixed_now ac)

        own_size : length a.locals ≡ length (locals_of (Base m) num.func)
        own_size = sym (length-map a.locals Rattle.wa_types.specs.Typing.type_of) ∙ ap length num.typed

        was : ls ≡ a.locals ++ pr.extra
        was = pr.locals

        own_same : (y : ℕ) → y < length a.locals → value_at ls' y ≡ value_at a.locals y
        own_same y lt =
            let o = own_size in
            ag.same y (held_below f (length (locals_of b fu)) y (omega arith) both.0) ∙ ap (λ zs. value_at zs y) was ∙ get_or_append_left a.locals pr.extra (V.I32 0) y lt

        split : ls' ≡ a.locals ++ drop (length a.locals) ls'
        split = let l = length-append a.locals pr.extra in let e = ap length was in let g = ag.long in same_front a.locals ls' (omega arith) own_same

        all_held : All (λ y. not (f y) ≡ true) (slots (names (Base m) num.func) (types_of (a.taken ++ a.operands)))
        all_held =
            subst (All (λ y. not (f y) ≡ true)) (reverse-reverse (slots (names b fu) ts))
            (all_back (λ y. not (f y) ≡ true) (reverse (slots (names b fu) ts)) (held_all f (reverse (slots (names b fu) ts)) both.1))

        slot_same : (k : ℕ) (q : Pair) → slice_get (names (Base m) num.func).slots k ≡ Some q → not (f ((names (Base m) num.func).first + k)) ≡ true
            → value_at (drop (length a.locals) ls') k ≡ value_at pr.extra k
        slot_same k q e h =
            let first = length (locals_of b fu) in
            sym (extra_got a.locals (drop (length a.locals) ls') first k own_size) ∙ ap (λ zs. value_at zs (first + k)) (sym split) ∙ ag.same (first + k) (not_free (f (first + k)) h)
            ∙ ap (λ zs. value_at zs (first + k)) was ∙ extra_got a.locals pr.extra first k own_size

        again : Locals (Base m) num.func a.locals (drop (length a.locals) ls') (a.taken ++ a.operands)
        again = record {
          typed = held0.typed;
          size = let l = length-append a.locals pr.extra in let d = length-drop (length a.locals) ls' in let h = held0.size in let e = ap length was in let g = ag.long in omega arith;
          holds = holds_over (names b fu) pr.extra (drop (length a.locals) ls') (λ y. not (f y)) all held0.holds all_held slot_same;
        }

  -- the pairs of a stack
  pub pairs_too : (table : List (Option ℕ)) (g : ℕ) (us vs vs' : List Activation) → AllAtNumbers m s which valid table g us → AllPairs (Base m) which us vs
      → Unders (slim_sides (flat_core m s which frames plan p) (slim_of m s which frames) (terms_of m s which frames)) vs vs' → AllPairs (Base m) which us vs'
  pairs_too table g [] _ _ nums ps bottom = tt
  pairs_too table g (a ∷ us) _ _ nums ps bottom = absurd ps
  pairs_too table g [] _ _ nums ps (above wt un) = absurd ps
  pairs_too table g (a ∷ us) _ _ nums ps
      (above {under = vs} {under' = vs'} (waits {n = n} {ts = frees} {out = out} {rest = rest} {rest' = rest'} {labels = labels} {labels' = labels'} fn f ac ls ls' ops taken size ag sl ar)
      un) = (
        pair_with a table g nums.0 fn f ls ls' ops taken n frees out rest rest' labels labels' ac ag sl ar ps.0,
        pairs_too table a.func us vs vs' nums.1 ps.1 un,
      )
