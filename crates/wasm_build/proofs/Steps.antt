-- Reading part by part: what is spelled from where the code is, for whatever is spelled from where it began.
use Rattle.std.proofs.Common.{◌≡◌, ℕ, ◌+◌, ◌<◌, List, [], ◌∷◌, ◌++◌, Result, Ok, Err, length, ap, ◌∙◌, arith, length-append, append_assoc}
use Rattle.leb_numbers.specs.Leb.{IsUnsigned}
use Rattle.wa_types.specs.Spells.{◌▸◌, Exactly, Number}
use Rattle.wasm_grammar.specs.declared.front.NotSpelled.{NotSpelled}
use Rattle.wasm_build.specs.declared.build_types.BuildFault.{BuildFault}
use Rattle.wasm_grammar.specs.Places.{Place, with_more, ReadsNumber}
use Rattle.wasm_build.specs.Builds.{Between, Builds, Passes}
use Rattle.wasm_build.proofs.Betweens.{Parts, parts, behind_first, spelled_so, number_is, number_fails, byte_is, no_byte, taken_is, nothing_between, fails, lacks}

-- For whatever is spelled from the old place, whatever follows the bytes, this is spelled from here on, and this is known.
pub record At {X : Type 0} (Spelled : X → ℕ → List ℕ → Type 0) (old : Place) (Rest : X → ℕ → List ℕ → Type 0) (Known : X → Type 0) (here : Place) : Type 0 where
  pub ahead : (more : List ℕ) (x : X) (end : Place) → Between (Spelled x) (with_more old more) end → Between (Rest x) (with_more here more) end
  pub known : (more : List ℕ) (x : X) (end : Place) → Between (Spelled x) (with_more old more) end → Known x

pub start : {X : Type 0} {Spelled : X → ℕ → List ℕ → Type 0} (Rest : X → ℕ → List ℕ → Type 0) (old : Place) → ((x : X) (at : ℕ) (bytes : List ℕ) → Spelled x at bytes → Rest x at bytes)
    → At Spelled old Rest (λ x. Unit {0}) old
start Rest old f = record { ahead = λ more x end b. spelled_so (with_more old more) end (f x) b; known = λ more x end b. tt }

split : {X : Type 0} {Spelled : X → ℕ → List ℕ → Type 0} {Known : X → Type 0} {old here : Place} (First Rest : X → ℕ → List ℕ → Type 0) → At Spelled old (λ x. First x ▸ Rest x) Known here
    → (more : List ℕ) (x : X) (end : Place) → Between (Spelled x) (with_more old more) end → Parts (First x) (Rest x) (with_more here more) end
split First Rest s more x end b = parts (First x) (Rest x) _ end (s.ahead more x end b)

-- a part is read
pub step : {A X Y : Type 0} {Spelled : X → ℕ → List ℕ → Type 0} {Known : X → Type 0} {Part : Y → ℕ → List ℕ → Type 0} {view : A → Y} {old here new : Place} {a : A} (part : X → Y) (Rest : X
    → ℕ → List ℕ → Type 0) → Builds view Part (Ok a) here new → At Spelled old (λ x. Part (part x) ▸ Rest x) Known here → At Spelled old Rest (λ x. Known x × (view a ≡ part x)) new
step {Part = Part} part Rest r s = record {
  ahead = λ more x end b.
      let k = split (λ x. Part (part x)) Rest s more x end b in
      behind_first _ _ _ end _ k (r.built more (part x) k.middle k.first).1;
  known = λ more x end b.
      let k = split (λ x. Part (part x)) Rest s more x end b in
      (s.known more x end b, (r.built more (part x) k.middle k.first).0);
}

-- the last part is read
pub last : {A X Y B : Type 0} {Spelled : X → ℕ → List ℕ → Type 0} {Known : X → Type 0} {Part : Y → ℕ → List ℕ → Type 0} {view : A → Y} {old here new : Place} {a : A} (whole : B → X) (c : B)
    (part : X → Y) → Builds view Part (Ok a) here new → ((x : X) → Known x → view a ≡ part x → whole c ≡ x) → At Spelled old (λ x. Part (part x)) Known here
    → Builds whole Spelled (Ok c) old new
last whole c part r f s = record {
  built = λ more x end b.
      let g = r.built more (part x) end (s.ahead more x end b) in
      (f x (s.known more x end b) g.0, g.1);
}

-- the exit of a `?` behind a part
pub stop : {A X Y B : Type 0} {Spelled : X → ℕ → List ℕ → Type 0} {Known : X → Type 0} {Part : Y → ℕ → List ℕ → Type 0} {view : A → Y} {whole : B
    → X} {old here new : Place} {d y : BuildFault} {q : Result B BuildFault} (part : X → Y) (Rest : X → ℕ → List ℕ → Type 0) → q ≡ Err y → y ≡ d → Builds view Part (Err d) here new
    → At Spelled old (λ x. Part (part x) ▸ Rest x) Known here → Builds whole Spelled q old new
stop {Part = Part} {whole = whole} part Rest e f r s = record {
  built = λ more x end b.
      let k = split (λ x. Part (part x)) Rest s more x end b in
      fails whole more _ x _ end _ _ e f (r.built more (part x) k.middle k.first);
}

pub stop_last : {A X Y B : Type 0} {Spelled : X → ℕ → List ℕ → Type 0} {Known : X → Type 0} {Part : Y → ℕ → List ℕ → Type 0} {view : A → Y} {whole : B
    → X} {old here new : Place} {d y : BuildFault} {q : Result B BuildFault} (part : X → Y) → q ≡ Err y → y ≡ d → Builds view Part (Err d) here new
    → At Spelled old (λ x. Part (part x)) Known here → Builds whole Spelled q old new
stop_last {whole = whole} part e f r s = record { built = λ more x end b. fails whole more _ x _ end _ _ e f (r.built more (part x) end (s.ahead more x end b)) }

-- a number is read
pub step_number : {X : Type 0} {Spelled : X → ℕ → List ℕ → Type 0} {Known : X → Type 0} {Spells : List ℕ → ℕ → Type 0} {old here new : Place} {n : ℕ} (part : X → ℕ) (Rest : X → ℕ → List ℕ
    → Type 0) → ReadsNumber Spells (Ok n) here new → At Spelled old (λ x. (λ at bytes. Spells bytes (part x)) ▸ Rest x) Known here → At Spelled old Rest (λ x. Known x × (n ≡ part x)) new
step_number {Spells = Spells} part Rest r s = record {
  ahead = λ more x end b.
      let k = split (λ x at bytes. Spells bytes (part x)) Rest s more x end b in
      behind_first _ _ _ end _ k (number_is Spells _ _ _ more k.middle (part x) r k.first).1;
  known = λ more x end b.
      let k = split (λ x at bytes. Spells bytes (part x)) Rest s more x end b in
      (s.known more x end b, (number_is Spells _ _ _ more k.middle (part x) r k.first).0);
}

pub last_number : {X B : Type 0} {Spelled : X → ℕ → List ℕ → Type 0} {Known : X → Type 0} {Spells : List ℕ → ℕ → Type 0} {old here new : Place} {n : ℕ} (whole : B → X) (c : B) (part : X
    → ℕ) → ReadsNumber Spells (Ok n) here new → ((x : X) → Known x → n ≡ part x → whole c ≡ x) → At Spelled old (λ x at bytes. Spells bytes (part x)) Known here
    → Builds whole Spelled (Ok c) old new
last_number {Spells = Spells} whole c part r f s = record {
  built = λ more x end b.
      let g = number_is Spells _ _ _ more end (part x) r (s.ahead more x end b) in
      (f x (s.known more x end b) g.0, g.1);
}

-- the exit of a `?` that is taken only where more bytes follow
pub never : {X B : Type 0} {Spelled : X → ℕ → List ℕ → Type 0} {whole : B → X} {old new : Place} {y : BuildFault} {q : Result B BuildFault} → q ≡ Err y
    → ((more : List ℕ) (x : X) (end : Place) → Between (Spelled x) (with_more old more) end → more ≡ [] → ⊥) → Builds whole Spelled q old new
never {whole = whole} {y = y} e f = record { built = λ more x end b. lacks whole more _ x _ end y e (f more x end b) }

pub stop_number : {X B : Type 0} {Spelled : X → ℕ → List ℕ → Type 0} {Known : X → Type 0} {Spells : List ℕ → ℕ → Type 0} {whole : B
    → X} {old here last : Place} {d : NotSpelled} {y : BuildFault} {q : Result B BuildFault} (part : X → ℕ) (Rest : X → ℕ → List ℕ → Type 0) → q ≡ Err y
    → ReadsNumber Spells (Err d) here here → At Spelled old (λ x. (λ at bytes. Spells bytes (part x)) ▸ Rest x) Known here → Builds whole Spelled q old last
stop_number {Spells = Spells} {here = here} part Rest e r s =
    never e (λ more x end b. let k = split (λ x at bytes. Spells bytes (part x)) Rest s more x end b in number_fails Spells _ here here more k.middle (part x) r k.first)

pub stop_last_number : {X B : Type 0} {Spelled : X → ℕ → List ℕ → Type 0} {Known : X → Type 0} {Spells : List ℕ → ℕ → Type 0} {whole : B
    → X} {old here last : Place} {d : NotSpelled} {y : BuildFault} {q : Result B BuildFault} (part : X → ℕ) → q ≡ Err y → ReadsNumber Spells (Err d) here here
    → At Spelled old (λ x at bytes. Spells bytes (part x)) Known here → Builds whole Spelled q old last
stop_last_number {Spells = Spells} {here = here} part e r s = never e (λ more x end b. number_fails Spells _ here here more end (part x) r (s.ahead more x end b))

-- bytes that are passed over
pub step_passed : {X : Type 0} {Spelled : X → ℕ → List ℕ → Type 0} {Known : X → Type 0} {First : ℕ → List ℕ → Type 0} {old here new : Place} {a : Unit {0}} (Rest : X → ℕ → List ℕ → Type 0)
    → Passes First (Ok a) here new → At Spelled old (λ x. First ▸ Rest x) Known here → At Spelled old Rest Known new
step_passed {First = First} Rest r s = record {
  ahead = λ more x end b.
      let k = split (λ x. First) Rest s more x end b in
      behind_first _ _ _ end _ k (r.passed more k.middle k.first);
  known = s.known;
}

pub stop_passed : {X B : Type 0} {Spelled : X → ℕ → List ℕ → Type 0} {Known : X → Type 0} {First : ℕ → List ℕ → Type 0} {whole : B
    → X} {old here new last : Place} {d : NotSpelled} {y : BuildFault} {q : Result B BuildFault} (Rest : X → ℕ → List ℕ → Type 0) → q ≡ Err y → Passes First (Err d) here new
    → At Spelled old (λ x. First ▸ Rest x) Known here → Builds whole Spelled q old last
stop_passed {First = First} Rest e r s = never e (λ more x end b. let k = split (λ x. First) Rest s more x end b in r.passed more k.middle k.first)

-- the rest is handed on
pub hand_on : {A X : Type 0} {Spelled Rest : X → ℕ → List ℕ → Type 0} {Known : X → Type 0} {view : A → X} {old here new : Place} {r : Result A BuildFault} → Builds view Rest r here new
    → At Spelled old Rest Known here → Builds view Spelled r old new
hand_on r s = record { built = λ more x end b. r.built more x end (s.ahead more x end b) }

-- what is spelled from here on is this, by what is known
pub turn : {X : Type 0} {Spelled Rest : X → ℕ → List ℕ → Type 0} {Known : X → Type 0} {old here : Place} (Turned : X → ℕ → List ℕ → Type 0)
    → ((x : X) (at : ℕ) (bytes : List ℕ) → Known x → Rest x at bytes → Turned x at bytes) → At Spelled old Rest Known here → At Spelled old Turned Known here
turn Turned f s = record { ahead = λ more x end b. spelled_so _ end (λ at bytes h. f x at bytes (s.known more x end b) h) (s.ahead more x end b); known = s.known }

-- a byte is read
pub step_byte : {X : Type 0} {Spelled : X → ℕ → List ℕ → Type 0} {Known : X → Type 0} {old here new : Place} {v : ℕ} (part : X → ℕ) (Rest : X → ℕ → List ℕ → Type 0)
    → here.left ≡ v ∷ new.left → new.at ≡ here.at + 1 → At Spelled old (λ x. Exactly (part x ∷ []) ▸ Rest x) Known here → At Spelled old Rest (λ x. Known x × (v ≡ part x)) new
step_byte part Rest e f s = record {
  ahead = λ more x end b.
      let k = split (λ x. Exactly (part x ∷ [])) Rest s more x end b in
      behind_first _ _ _ end _ k (byte_is _ (part x) _ _ k.middle (ap (λ z. z ++ more) e) f k.first).1;
  known = λ more x end b.
      let k = split (λ x. Exactly (part x ∷ [])) Rest s more x end b in
      (s.known more x end b, (byte_is _ (part x) _ _ k.middle (ap (λ z. z ++ more) e) f k.first).0);
}

pub more_left : (xs ys zs more : List ℕ) → xs ≡ ys ++ zs → xs ++ more ≡ ys ++ (zs ++ more)
more_left xs ys zs more e = ap (λ z. z ++ more) e ∙ append_assoc ys zs more

-- so many bytes are taken
pub step_taken : {X : Type 0} {Spelled : X → ℕ → List ℕ → Type 0} {Known : X → Type 0} {old here new : Place} {got : List ℕ} {count : ℕ} (part : X → List ℕ) (Rest : X → ℕ → List ℕ → Type 0)
    → here.left ≡ got ++ new.left → length got ≡ count → new.at ≡ here.at + count → ((x : X) → Known x → count ≡ length (part x))
    → At Spelled old (λ x. Exactly (part x) ▸ Rest x) Known here → At Spelled old Rest (λ x. Known x × (got ≡ part x)) new
step_taken {here = here} {new = new} {got = got} part Rest e f g h s = record {
  ahead = λ more x end b.
      let k = split (λ x. Exactly (part x)) Rest s more x end b in
      behind_first _ _ _ end _ k (taken_is got _ (part x) _ (with_more new more) k.middle (more_left here.left got new.left more e) f g (h x (s.known more x end b)) k.first).1;
  known = λ more x end b.
      let k = split (λ x. Exactly (part x)) Rest s more x end b in
      (s.known more x end b, (taken_is got _ (part x) _ (with_more new more) k.middle (more_left here.left got new.left more e) f g (h x (s.known more x end b)) k.first).0);
}

-- the end is reached
pub finish : {X B : Type 0} {Spelled : X → ℕ → List ℕ → Type 0} {Known : X → Type 0} {old here : Place} (whole : B → X) (c : B) → ((x : X) → Known x → whole c ≡ x)
    → At Spelled old (λ x. Exactly []) Known here → Builds whole Spelled (Ok c) old here
finish whole c f s = record { built = λ more x end b. (f x (s.known more x end b), nothing_between _ end (s.ahead more x end b)) }

-- a number is passed over, whatever it is
pub step_size : {X : Type 0} {Spelled : X → ℕ → List ℕ → Type 0} {old new : Place} {n : ℕ} (Rest : X → ℕ → List ℕ → Type 0) → ReadsNumber (IsUnsigned 32) (Ok n) old new
    → ((x : X) (at : ℕ) (bytes : List ℕ) → Spelled x at bytes → (size : ℕ) × (Number size ▸ Rest x) at bytes) → At Spelled old Rest (λ x. Unit {0}) new
step_size Rest r f = record {
  ahead = λ more x end b.
      let h = f x _ b.front b.spelled in
      let k = parts (Number h.0) (Rest x) _ end (record { front = b.front; spelled = h.1; left = b.left; place = b.place }) in
      behind_first _ _ _ end _ k (number_is (IsUnsigned 32) _ _ _ more k.middle h.0 r k.first).1;
  known = λ more x end b. tt;
}

pub stop_taken : {X B : Type 0} {Spelled : X → ℕ → List ℕ → Type 0} {Known : X → Type 0} {whole : B → X} {old here last : Place} {count : ℕ} {y : BuildFault} {q : Result B BuildFault} (part : X
    → List ℕ) (Rest : X → ℕ → List ℕ → Type 0) → q ≡ Err y → length here.left < count → ((x : X) → Known x → count ≡ length (part x))
    → At Spelled old (λ x. Exactly (part x) ▸ Rest x) Known here → Builds whole Spelled q old last
stop_taken {here = here} part Rest e few h s = never e (λ more x end b none.
    let k = split (λ x. Exactly (part x)) Rest s more x end b in
    let n = h x (s.known more x end b) in
    let l = ap length k.first.left in
    let m = ap length k.first.spelled in
    omega (arith, few, n, l, m, ap length none, length-append here.left more, length-append k.first.front k.middle.left))

-- a byte is wanted
pub stop_byte : {X B : Type 0} {Spelled : X → ℕ → List ℕ → Type 0} {Known : X → Type 0} {whole : B → X} {old here last : Place} {y : BuildFault} {q : Result B BuildFault} (part : X → ℕ) (Rest : X
    → ℕ → List ℕ → Type 0) → q ≡ Err y → here.left ≡ [] → At Spelled old (λ x. Exactly (part x ∷ []) ▸ Rest x) Known here → Builds whole Spelled q old last
stop_byte part Rest e empty s = never e (λ more x end b none.
    let k = split (λ x. Exactly (part x ∷ [])) Rest s more x end b in
    no_byte (part x) _ k.middle (ap (λ z. z ++ more) empty ∙ none) k.first)
