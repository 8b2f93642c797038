-- Bytes that reading refuses are refused for one cause: each stops at a stage that none behind it does, and says one number there.
use Rattle.std.proofs.Common.{arith, ◌≡◌, ◌<◌, ℕ, zero, suc, ◌≤◌, inl, inr, List, [], Option, Some, None, refl, sym, ap, ◌∙◌, subst, length, Contains}
use Rattle.std.proofs.lemmas.Bool.{cases_lt}
use Rattle.std.proofs.lemmas.List.Elements.{All-contains}
use Rattle.wa_types.specs.declared.bounds.LimitKind.TheVariants.{File, Functions, Parameters, Body, Locals, Output, Script, Programs}
use Rattle.wa_types.specs.Begun.{FaultAt}
use Rattle.wa_types.specs.Binary.{Section}
use Rattle.wa_types.specs.Marks.{floats, opens, IsLeast, function_count, parameter_counts, body_sizes, local_counts, first_above}
use Rattle.wa_types.specs.ModuleBounds.{ModuleBounds}
use Rattle.wa_types.specs.Reading.{IsModule}
use Rattle.wa_types.specs.Syntax.{Module}
use Rattle.file_laws.proofs.OneFault.{fault_spells_none, one_fault}
use Rattle.file_laws.proofs.OneModule.{one_module}
use Rattle.file_laws.proofs.UniqueCode.{one_file}
use Rattle.wasm_reader.specs.declared.read_fault.ReadFault.{ReadFault}
use Rattle.wasm_reader.specs.declared.read_fault.ReadFault.TheVariants.{Memory, Malformed, Float, Deep, Limit}
use Rattle.wasm_reader.specs.Answers.{IsFile, HasNoFloat, HasFewFunctions, HasFewParameters, HasShortBodies, IsShallow, HasFewLocals, IsAccepted, IsRefused}

-- ---- numbers that there is one of

one_least : (j k : ℕ) (ks : List ℕ) → IsLeast j ks → IsLeast k ks → j ≡ k
one_least j k ks a b =
    let le : j ≤ k = All-contains (λ i. j ≤ i) ks k a.least b.among in
    let ge : k ≤ j = All-contains (λ i. k ≤ i) ks j b.least a.among in
    omega (arith, le, ge)

no_least : (k : ℕ) (ks : List ℕ) → IsLeast k ks → ks ≡ [] → ⊥
no_least k ks h e = let c : Contains [] k = subst (λ (xs : List ℕ). Contains xs k) e h.among in let lt = c.1 in absurd (omega arith)

one_some : (o : Option ℕ) (x y : ℕ) → o ≡ Some x → o ≡ Some y → x ≡ y
one_some o x y e f = let both : ◌≡◌ {A = Option ℕ} (Some x) (Some y) = sym e ∙ f in cc

no_some : (o : Option ℕ) (x : ℕ) → o ≡ Some x → o ≡ None → ⊥
no_some o x e f = let bad = sym e ∙ f in cc

module _ (b : ModuleBounds) (bytes : List ℕ) where
  -- how far bytes come
  abbrev Reached : ℕ → Type 0
  Reached zero = Unit {0}
  Reached (suc zero) = length bytes ≤ b.file
  Reached (suc (suc zero)) = (ss : List Section) × IsFile b bytes ss
  Reached (suc (suc (suc zero))) = (ss : List Section) × HasNoFloat b bytes ss
  Reached (suc (suc (suc (suc zero)))) = (ss : List Section) × HasFewFunctions b bytes ss
  Reached (suc (suc (suc (suc (suc zero))))) = (ss : List Section) × HasFewParameters b bytes ss
  Reached (suc (suc (suc (suc (suc (suc zero)))))) = (ss : List Section) × HasShortBodies b bytes ss
  Reached (suc (suc (suc (suc (suc (suc (suc zero))))))) = (ss : List Section) × IsShallow b bytes ss
  Reached (suc (suc (suc (suc (suc (suc (suc (suc zero)))))))) = (ss : List Section) × HasFewLocals b bytes ss
  Reached (suc (suc (suc (suc (suc (suc (suc (suc (suc n))))))))) = ⊥

  down : (n : ℕ) → Reached (suc n) → Reached n
  down zero r = tt
  down (suc zero) r = r.1.few
  down (suc (suc zero)) r = (r.0, r.1.file)
  down (suc (suc (suc zero))) r = (r.0, r.1.before)
  down (suc (suc (suc (suc zero)))) r = (r.0, r.1.before)
  down (suc (suc (suc (suc (suc zero))))) r = (r.0, r.1.before)
  down (suc (suc (suc (suc (suc (suc zero)))))) r = (r.0, r.1.before)
  down (suc (suc (suc (suc (suc (suc (suc zero))))))) r = (r.0, r.1.before)
  down (suc (suc (suc (suc (suc (suc (suc (suc n)))))))) r = absurd r

  below : (n k : ℕ) → k ≤ n → Reached n → Reached k
  below zero k h r = let e : 0 ≡ k = omega (arith, h) in subst Reached e r
  below (suc n) k h r = elim (cases_lt n k) [
    | inl lt ↦ let e : suc n ≡ k = omega (arith, h, lt) in subst Reached e r
    | inr ge ↦ below n k ge (down n r)
  ]

  -- what a cause of each stage says
  abbrev Says : ℕ → ℕ → Type 0
  Says zero x = (b.file < length bytes) × (x ≡ suc b.file)
  Says (suc zero) x = (length bytes ≤ b.file) × FaultAt bytes x
  Says (suc (suc zero)) x = (ss : List Section) × IsFile b bytes ss × IsLeast x (floats ss)
  Says (suc (suc (suc zero))) x = (ss : List Section) × HasNoFloat b bytes ss × (x ≡ function_count ss) × (b.functions < x)
  Says (suc (suc (suc (suc zero)))) x = (ss : List Section) × HasFewFunctions b bytes ss × (first_above b.parameters (parameter_counts ss) ≡ Some x)
  Says (suc (suc (suc (suc (suc zero))))) x = (ss : List Section) × HasFewParameters b bytes ss × (first_above b.body (body_sizes ss) ≡ Some x)
  Says (suc (suc (suc (suc (suc (suc zero)))))) x = (ss : List Section) × HasShortBodies b bytes ss × IsLeast x (opens b.nesting ss)
  Says (suc (suc (suc (suc (suc (suc (suc zero))))))) x = (ss : List Section) × IsShallow b bytes ss × (first_above b.locals (local_counts ss) ≡ Some x)
  Says (suc (suc (suc (suc (suc (suc (suc (suc n)))))))) x = ⊥

  reaches : (n x : ℕ) → Says n x → Reached n
  reaches zero x h = tt
  reaches (suc zero) x h = h.0
  reaches (suc (suc zero)) x h = (h.0, h.1)
  reaches (suc (suc (suc zero))) x h = (h.0, h.1)
  reaches (suc (suc (suc (suc zero)))) x h = (h.0, h.1)
  reaches (suc (suc (suc (suc (suc zero))))) x h = (h.0, h.1)
  reaches (suc (suc (suc (suc (suc (suc zero)))))) x h = (h.0, h.1)
  reaches (suc (suc (suc (suc (suc (suc (suc zero))))))) x h = (h.0, h.1)
  reaches (suc (suc (suc (suc (suc (suc (suc (suc n)))))))) x h = absurd h

  -- the sections that the bytes spell
  same : (ss ts : List Section) → IsFile b bytes ss → IsFile b bytes ts → ss ≡ ts
  same ss ts f g = one_file bytes ss ts f.spells g.spells

  stops : (n x : ℕ) → Says n x → Reached (suc n) → ⊥
  stops zero x h r = absurd (omega (arith, h.0, r))
  stops (suc zero) x h r = fault_spells_none bytes x r.0 h.1 r.1.spells
  stops (suc (suc zero)) x h r = no_least x (floats h.0) h.2 (subst (λ (ss : List Section). floats ss ≡ []) (same r.0 h.0 r.1.file h.1) r.1.whole_numbers)
  stops (suc (suc (suc zero))) x h r =
      let few = subst (λ (ss : List Section). function_count ss ≤ b.functions) (same r.0 h.0 r.1.before.file h.1.file) r.1.functions in
      absurd (omega (arith, h.2, h.3, few))
  stops (suc (suc (suc (suc zero)))) x h r =
      no_some _ x h.2 (subst (λ (ss : List Section). first_above b.parameters (parameter_counts ss) ≡ None) (same r.0 h.0 r.1.before.before.file h.1.before.file) r.1.parameters)
  stops (suc (suc (suc (suc (suc zero))))) x h r =
      no_some _ x h.2 (subst (λ (ss : List Section). first_above b.body (body_sizes ss) ≡ None) (same r.0 h.0 r.1.before.before.before.file h.1.before.before.file) r.1.bodies)
  stops (suc (suc (suc (suc (suc (suc zero)))))) x h r =
      no_least x (opens b.nesting h.0) h.2
      (subst (λ (ss : List Section). opens b.nesting ss ≡ []) (same r.0 h.0 r.1.before.before.before.before.file h.1.before.before.before.file) r.1.nesting)
  stops (suc (suc (suc (suc (suc (suc (suc zero))))))) x h r =
      no_some _ x h.2
      (subst (λ (ss : List Section). first_above b.locals (local_counts ss) ≡ None)
      (same r.0 h.0 r.1.before.before.before.before.before.file h.1.before.before.before.before.file) r.1.locals)
  stops (suc (suc (suc (suc (suc (suc (suc (suc n)))))))) x h r = absurd h

  one_said : (n x y : ℕ) → Says n x → Says n y → x ≡ y
  one_said zero x y h k = h.1 ∙ sym k.1
  one_said (suc zero) x y h k = one_fault bytes x y h.1 k.1
  one_said (suc (suc zero)) x y h k = one_least x y (floats k.0) (subst (λ (ss : List Section). IsLeast x (floats ss)) (same h.0 k.0 h.1 k.1) h.2) k.2
  one_said (suc (suc (suc zero))) x y h k = h.2 ∙ ap function_count (same h.0 k.0 h.1.file k.1.file) ∙ sym k.2
  one_said (suc (suc (suc (suc zero)))) x y h k =
      one_some _ x y (subst (λ (ss : List Section). first_above b.parameters (parameter_counts ss) ≡ Some x) (same h.0 k.0 h.1.before.file k.1.before.file) h.2) k.2
  one_said (suc (suc (suc (suc (suc zero))))) x y h k =
      one_some _ x y (subst (λ (ss : List Section). first_above b.body (body_sizes ss) ≡ Some x) (same h.0 k.0 h.1.before.before.file k.1.before.before.file) h.2) k.2
  one_said (suc (suc (suc (suc (suc (suc zero)))))) x y h k =
      one_least x y (opens b.nesting k.0)
      (subst (λ (ss : List Section). IsLeast x (opens b.nesting ss)) (same h.0 k.0 h.1.before.before.before.file k.1.before.before.before.file) h.2) k.2
  one_said (suc (suc (suc (suc (suc (suc (suc zero))))))) x y h k =
      one_some _ x y
      (subst (λ (ss : List Section). first_above b.locals (local_counts ss) ≡ Some x) (same h.0 k.0 h.1.before.before.before.before.file k.1.before.before.before.before.file) h.2) k.2
  one_said (suc (suc (suc (suc (suc (suc (suc (suc n)))))))) x y h k = absurd h

  -- the cause of a stage that says this
  abbrev cause_at : ℕ → ℕ → ReadFault
  cause_at zero x = Limit File x
  cause_at (suc zero) x = Malformed x
  cause_at (suc (suc zero)) x = Float x
  cause_at (suc (suc (suc zero))) x = Limit Functions x
  cause_at (suc (suc (suc (suc zero)))) x = Limit Parameters x
  cause_at (suc (suc (suc (suc (suc zero))))) x = Limit Body x
  cause_at (suc (suc (suc (suc (suc (suc zero)))))) x = Deep x
  cause_at (suc (suc (suc (suc (suc (suc (suc n))))))) x = Limit Locals x

  record IsSaid (r : ReadFault) : Type 0 where
    stage : ℕ
    number : ℕ
    says : Says stage number
    cause_is : r ≡ cause_at stage number

  said : (n x : ℕ) → Says n x → IsSaid (cause_at n x)
  said n x h = record { stage = n; number = x; says = h; cause_is = refl }

  is_said : (r : ReadFault) → (r ≡ Memory → ⊥) → IsRefused b bytes r → IsSaid r
  is_said Memory never h = absurd (never refl)
  is_said (Malformed at) never h = said 1 at h
  is_said (Float at) never h = said 2 at h
  is_said (Deep at) never h = said 6 at h
  is_said (Limit File n) never h = said 0 n h
  is_said (Limit Functions n) never h = said 3 n h
  is_said (Limit Parameters n) never h = said 4 n h
  is_said (Limit Body n) never h = said 5 n h
  is_said (Limit Locals n) never h = said 7 n h
  is_said (Limit Output n) never h = absurd h
  is_said (Limit Script n) never h = absurd h
  is_said (Limit Programs n) never h = absurd h

  one_stage : (n k x y : ℕ) → Says n x → Says k y → n ≡ k
  one_stage n k x y h i = elim (cases_lt n k) [
    | inl lt ↦ absurd (stops n x h (below k (suc n) (omega (arith, lt)) (reaches k y i)))
    | inr ge ↦ elim (cases_lt k n) [
      | inl lt ↦ absurd (stops k y i (below n (suc k) (omega (arith, lt)) (reaches n x h)))
      | inr le ↦ omega (arith, ge, le)
    ]
  ]

  one_of : (r q : ReadFault) → IsSaid r → IsSaid q → r ≡ q
  one_of r q s t =
      let e = one_stage s.stage t.stage s.number t.number s.says t.says in
      let v = one_said t.stage s.number t.number (subst (λ (n : ℕ). Says n s.number) e s.says) t.says in
      s.cause_is ∙ ap (λ (n : ℕ). cause_at n s.number) e ∙ ap (cause_at t.stage) v ∙ sym t.cause_is

  -- Two causes for which reading refuses bytes are one.
  pub one_read_fault : (r q : ReadFault) → (r ≡ Memory → ⊥) → (q ≡ Memory → ⊥) → IsRefused b bytes r → IsRefused b bytes q → r ≡ q
  one_read_fault r q m n h k = one_of r q (is_said r m h) (is_said q n k)

  stage_low : (n x : ℕ) → Says n x → n ≤ 7
  stage_low zero x h = omega arith
  stage_low (suc zero) x h = omega arith
  stage_low (suc (suc zero)) x h = omega arith
  stage_low (suc (suc (suc zero))) x h = omega arith
  stage_low (suc (suc (suc (suc zero)))) x h = omega arith
  stage_low (suc (suc (suc (suc (suc zero))))) x h = omega arith
  stage_low (suc (suc (suc (suc (suc (suc zero)))))) x h = omega arith
  stage_low (suc (suc (suc (suc (suc (suc (suc zero))))))) x h = omega arith
  stage_low (suc (suc (suc (suc (suc (suc (suc (suc n)))))))) x h = absurd h

  -- What is accepted isn't refused.
  pub accepted_passes : (m : Module) (r : ReadFault) → (r ≡ Memory → ⊥) → IsAccepted b bytes m → IsRefused b bytes r → ⊥
  accepted_passes m r never a h =
      let s = is_said r never h in
      let low = stage_low s.stage s.number s.says in
      stops s.stage s.number s.says (below 8 (suc s.stage) (omega (arith, low)) (a.sections, a.within))

  -- One module is accepted.
  pub one_accepted : (m n : Module) → IsAccepted b bytes m → IsAccepted b bytes n → m ≡ n
  one_accepted m n a c =
      let e = same a.sections c.sections a.within.before.before.before.before.before.file c.within.before.before.before.before.before.file in
      one_module c.sections m n (subst (λ (ss : List Section). IsModule ss m) e a.is_module) c.is_module
