-- The slots that a numbered call of a guarded function takes, by its place among the calls of the original.
use Rattle.std.proofs.Common.{◌≡◌, ℕ, suc, ◌+◌, ◌-◌, List, [], ◌∷◌, ◌++◌, length, map, drop, reverse, Option, Some, None, Bool, true, refl, sym, ap, ◌∙◌, arith}
use Rattle.std.specs.Prelude.{slice_get, if◌then◌else◌}
use Rattle.std.specs.Option.{option_map}
use Rattle.std.proofs.lemmas.List.{append_assoc, map-append}
use Rattle.std.proofs.lemmas.Option.{slice_get-map}
use Rattle.wa_types.specs.Base.{Base}
use Rattle.wa_types.specs.declared.values.ValType.{ValType}
use Rattle.wa_types.specs.Syntax.{Plain, basic, local_get, local_set, local_tee, br, br_if, br_table, return, unreachable, call, call_indirect, Code, done, plain, nest, branch, Func, Module}
use Rattle.wa_types.specs.Typing.{Around, Typed, listed, sig, label}
use Rattle.wa_types.specs.Points.{after, func_call_points}
use Rattle.wa_types.specs.Pruned.{is_last, pruned}
use Rattle.wa_types.specs.Modules.{around, or_empty}
use Rattle.wa_types.specs.Pausing.{Callee, Numbered, Settings, direct, indirect, callee, callee_onto, calls_of, calls_in, has_number}
use Rattle.run_theory.specs.Flat.{Stmts, no_more, leaps, leaps_if, leaps_by, last_of}
use Rattle.flat_laws.specs.FlatModule.{stacks_in}
use Rattle.flat_laws.specs.Flatten.{Names, names, slots, top, carry_to, carry_all, arrive, flat, flat_plain, flattened}
use Rattle.flat_laws.proofs.Sizes.{stacks_are_slots}
use Rattle.wa_model.specs.declared.flat.Operand.TheVariants.{Local}
use Rattle.guard_form.specs.Grouping.{is_place}
use Rattle.guard_form.specs.Pieces.{Units, call_unit, first_piece, units}
use Rattle.slim_laws.specs.SlimModule.{SlimPieces, flat_terms}
use Rattle.guard_form.specs.Places.{Enclosing, BodyPlace}
use Rattle.headline.specs.EmittedModule.{Framing, guarded_of, pieces_in}
use Rattle.headline.proofs.CallSlots.{EachUnit, all_calls, args_in, at_place, call_slots, each_slim, each_unit, kinds_one, next_told, told_at, told_before, zip_got, zipped}
use Rattle.headline.proofs.NumberedStmts.{kinds_flat}

-- so many operands a call takes
abbrev pub args_of : Around → Callee → ℕ
args_of c (direct x) = length (or_empty (slice_get c.funcs x)).params
args_of c (indirect t) = suc (length (or_empty (slice_get c.types t)).params)

module _ (n : Names) (c : Around) where
  abbrev A : List Callee → List ℕ
  A cs = map (args_of c) cs

  args_carry : (d : ℕ) (o : Option (Option ValType)) (ops : List ValType) (rest : Stmts) → args_in (carry_to n d o ops rest) ≡ args_in rest
  args_carry d None ops rest = refl
  args_carry d (Some None) ops rest = refl
  args_carry d (Some (Some t)) ops rest = refl

  args_carries : (ls : List (Option ValType)) (ops : List ValType) (js : List ℕ) (rest : Stmts) → args_in (carry_all n ls ops js rest) ≡ args_in rest
  args_carries ls ops [] rest = refl
  args_carries ls ops (j ∷ js) rest = args_carry (length ls - suc j) (slice_get ls j) ops (carry_all n ls ops js rest) ∙ args_carries ls ops js rest

  args_arrive : (d : ℕ) (r : Option ValType) (ops : List ValType) (rest : Stmts) → args_in (arrive n d r ops rest) ≡ args_in rest
  args_arrive d None ops rest = refl
  args_arrive d (Some t) ops rest = refl

  args_plain : (ls : List (Option ValType)) (ops behind : List ValType) (i : Plain) (rest : Stmts) (more : Code) → args_in rest ≡ A (calls_of (pruned more))
      → args_in (flat_plain n c ls ops behind i rest) ≡ A (callee_onto (callee i) (calls_of (if is_last i then done else pruned more)))
  unfolding calls_of
  args_plain ls ops behind (basic b) rest more e = e
  args_plain ls ops behind (local_get x) rest more e = e
  args_plain ls ops behind (local_set x) rest more e = e
  args_plain ls ops behind (local_tee x) rest more e = e
  args_plain ls ops behind (br l) rest more e = args_carry (length ls - suc l) (slice_get ls l) ops (leaps l no_more)
  args_plain ls ops behind (br_if l) rest more e = args_carry (length ls - suc l) (slice_get ls l) (drop 1 ops) (leaps_if (Local (top n ops)) l rest) ∙ e
  args_plain ls ops behind (br_table ts l) rest more e =
      args_carries ls (drop 1 ops) ts (carry_to n (length ls - suc l) (slice_get ls l) (drop 1 ops) (leaps_by (Local (top n ops)) ts l no_more))
      ∙ args_carry (length ls - suc l) (slice_get ls l) (drop 1 ops) (leaps_by (Local (top n ops)) ts l no_more)
  args_plain ls ops behind return rest more e = args_carry (length ls - suc (length ls - 1)) (slice_get ls (length ls - 1)) ops (leaps (length ls - 1) no_more)
  args_plain ls ops behind unreachable rest more e = refl
  args_plain ls ops behind (call x) rest more e = ap (λ z. length (or_empty (slice_get c.funcs x)).params ∷ z) e
  args_plain ls ops behind (call_indirect t) rest more e = ap (λ z. suc (length (or_empty (slice_get c.types t)).params) ∷ z) e

  args_flat : (ls : List (Option ValType)) (code : Code) (ops : List ValType) → args_in (flat n c ls code ops) ≡ A (calls_of (pruned code))
  unfolding flat calls_of pruned
  args_flat ls done ops = args_carry (length ls - 1) (slice_get ls 0) ops no_more
  args_flat ls (plain i rest) ops = args_plain ls ops (after (sig c ls i) ops) i (flat n c ls rest (after (sig c ls i) ops)) rest (args_flat ls rest (after (sig c ls i) ops))
  args_flat ls (nest s r body rest) ops =
      ap (λ z. z ++ args_in (arrive n (length ls) (label s r) ops (flat n c ls rest (listed r ++ ops)))) (args_flat (label s r ∷ ls) body ops)
      ∙ ap (λ z. A (calls_of (pruned body)) ++ z) (args_arrive (length ls) (label s r) ops (flat n c ls rest (listed r ++ ops)) ∙ args_flat ls rest (listed r ++ ops))
      ∙ sym (map-append (args_of c) (calls_of (pruned body)) (calls_of (pruned rest)))
  args_flat ls (branch r a b rest) ops =
      let fa = args_flat (r ∷ ls) a (drop 1 ops) in
      let fb = args_flat (r ∷ ls) b (drop 1 ops) in
      let fr = args_arrive (length ls) r (drop 1 ops) (flat n c ls rest (listed r ++ drop 1 ops)) ∙ args_flat ls rest (listed r ++ drop 1 ops) in
      let ca = calls_of (pruned a) in let cb = calls_of (pruned b) in let cr = calls_of (pruned rest) in
      ap (λ z. z ++ (args_in (flat n c (r ∷ ls) b (drop 1 ops)) ++ args_in (arrive n (length ls) r (drop 1 ops) (flat n c ls rest (listed r ++ drop 1 ops))))) fa
      ∙ ap (λ z. A ca ++ (z ++ args_in (arrive n (length ls) r (drop 1 ops) (flat n c ls rest (listed r ++ drop 1 ops))))) fb
      ∙ ap (λ z. A ca ++ (A cb ++ z)) fr
      ∙ sym (append_assoc (A ca) (A cb) (A cr))
      ∙ ap (λ z. z ++ A cr) (sym (map-append (args_of c) ca cb))
      ∙ sym (map-append (args_of c) (ca ++ cb) cr)

the_number : (x y : ℕ) → Some x ≡ Some y → x ≡ y
the_number x y e = cc

the_list : (x y : List ℕ) → Some x ≡ Some y → x ≡ y
the_list x y e = cc

module _ (m : Module) (s : Settings) (which : List Bool) (frames : (index : ℕ) → Framing) (x : ℕ) (f : Func) (typed : Typed (around (Base m) f) f.body) where
  abbrev b : Module
  b = Base m

  abbrev test : Callee → Bool
  test = has_number m s which

  abbrev body : Stmts
  body = (flattened (Base m) x f).body

  abbrev ps : List ℕ
  ps = Numbered m s which f

  abbrev rank : ℕ → ℕ
  rank n = told_before test (calls_in f) n

  next : (n : ℕ) → rank (suc n) ≡ (if is_place ps n then suc (rank n) else rank n)
  next n = let z : 0 + n ≡ n = omega arith in next_told test 0 (calls_in f) n ∙ ap (λ i. if is_place ps i then suc (rank n) else rank n) z

  abbrev rows : List (List ℕ)
  rows = call_slots body

  -- what stands at a number
  abbrev AtRank : ℕ → List ℕ → Type 0
  AtRank k xs = (place : ℕ) → slice_get ps k ≡ Some place → slice_get rows place ≡ Some xs

  counts : (n : ℕ) (xs : List ℕ) → is_place ps n ≡ true → slice_get rows n ≡ Some xs → AtRank (rank n) xs
  counts n xs is e place at =
      let z : 0 + n ≡ n = omega arith in
      let same : n ≡ place = the_number n place (sym (told_at test 0 (calls_in f) n (ap (is_place ps) z ∙ is) ∙ ap (λ i. Some i) z) ∙ at) in ap (slice_get rows) (sym same) ∙ e

  each_plain : EachUnit AtRank 0 (units ps 0 (flattened (Base m) x f).body)
  each_plain = each_unit ps rank next (λ n xs. slice_get rows n ≡ Some xs) AtRank counts 0 body (kinds_one body (kinds_flat (names b f) (around b f) ((around b f).result ∷ []) f.body []))
      (all_calls rows body refl)

  each : (sp : SlimPieces (Base m) (Numbered m s which f) x f (pieces_in m s which frames x)) → EachUnit AtRank 0 (guarded_of m s which frames x f).body
  each sp = (
    each_slim AtRank (flat_terms b ps x f) 0 (sp.out ∷ []) sp.out sp.here [] (first_piece ps 0 body) (pieces_in m s which frames x).first (units ps 0 body)
        (pieces_in m s which frames x).units 0 sp.slim each_plain,
    tt,
  )

  -- the slots of the call of this number
  pub slots_there : (sp : SlimPieces (Base m) (Numbered m s which f) x f (pieces_in m s which frames x)) (st k place : ℕ) (xs : List ℕ) (c : Callee) (to : Option ℕ) (behind : Code)
      (rest : Units) (en : List Enclosing) (ops : List ValType)
      → BodyPlace st (guarded_of m s which frames x f) k (call_unit xs c to behind rest) en → slice_get ps k ≡ Some place → (cal : Callee) → slice_get (calls_in f) place ≡ Some cal
      → slice_get (func_call_points b f) place ≡ Some ops → xs ≡ last_of (args_of (around b f) cal) (reverse (slots (names b f) ops))
  slots_there sp st k place xs c to behind rest en ops pl number cal at points =
      let here = (at_place AtRank st (guarded_of m s which frames x f) k (call_unit xs c to behind rest) en (each sp) pl).0 in
      let got : slice_get rows place ≡ Some xs = here place number in
      let args : slice_get (args_in body) place ≡ Some (args_of (around b f) cal) =
      ap (λ z. slice_get z place) (args_flat (names b f) (around b f) ((around b f).result ∷ []) f.body []) ∙ slice_get-map (args_of (around b f)) (calls_in f) place
      ∙ ap (option_map (args_of (around b f))) at in
      let stack : slice_get (stacks_in body) place ≡ Some (reverse (slots (names b f) ops)) =
      ap (λ z. slice_get z place) (stacks_are_slots b x f typed) ∙ slice_get-map (λ (os : List ValType). reverse (slots (names b f) os)) (func_call_points b f) place
      ∙ ap (option_map (λ (os : List ValType). reverse (slots (names b f) os))) points in
      the_list xs _ (sym got ∙ ap (λ z. slice_get z place) (zipped body) ∙ zip_got (args_in body) (stacks_in body) place (args_of (around b f) cal) (reverse (slots (names b f) ops)) args stack)
