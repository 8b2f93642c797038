-- Programs that are staged one after another.
use Rattle.std.proofs.Common.{◌≡◌, ◌≤◌, ◌<◌, ℕ, zero, suc, List, [], ◌∷◌, ◌++◌, length, drop, get_or, refl, sym, ap, ◌∙◌, subst, arith, append_assoc, length-append}
use Rattle.std.specs.List.{AllZip}
use Rattle.wa_types.specs.declared.syntax.Module.{Module}
use Rattle.script_command.specs.declared.programs.Planned.{Planned}
use Rattle.script_command.specs.Views.{part_of, parts_of}
use Rattle.world_hosting.specs.Worlds.{Part}

-- Of the programs that are planned over these modules some are made, and the others are to come, and can be.
pub record Staging {S : Type 0} (Can : Module → Planned → Type 0) (IsMade : Part → S → Type 0) (modules : List Module) (planned rest : List Planned) (staged : List S) : Type 0 where
  pub parts : List Part
  pub left : List Module
  pub are : AllZip IsMade parts staged
  pub left_is : left ≡ drop (length staged) modules
  pub whole : parts_of modules planned ≡ parts ++ parts_of left rest
  pub each : AllZip Can left rest

-- ---- lists

-- what a list goes on with from a place on is its item there, and the rest
pub record GoesOn {A : Type 0} (n : ℕ) (xs : List A) (x : A) (rest : List A) : Type 0 where
  pub within : n < length xs
  pub item : (d : A) → get_or xs n d ≡ x
  pub behind : drop (suc n) xs ≡ rest

pub goes_on : {A : Type 0} (n : ℕ) (xs : List A) (x : A) (rest : List A) → x ∷ rest ≡ drop n xs → GoesOn n xs x rest
goes_on zero [] x rest e = cc
goes_on (suc n) [] x rest e = cc
goes_on zero (y ∷ ys) x rest e =
    let head : x ≡ y = cc in
    let tail : rest ≡ ys = cc in
    record { within = omega arith; item = λ d. sym head; behind = sym tail }
goes_on (suc n) (y ∷ ys) x rest e =
    let g = goes_on n ys x rest e in
    let lt = g.within in
    record { within = omega (arith, lt); item = g.item; behind = g.behind }

pub zip_more : {A B : Type 0} (R : A → B → Type 0) (xs : List A) (ys : List B) (x : A) (y : B) → AllZip R xs ys → R x y → AllZip R (xs ++ x ∷ []) (ys ++ y ∷ [])
zip_more R [] [] x y h r = (r, tt)
zip_more R [] (b ∷ ys) x y h r = absurd h
zip_more R (a ∷ xs) [] x y h r = absurd h
zip_more R (a ∷ xs) (b ∷ ys) x y h r = (h.0, zip_more R xs ys x y h.1 r)

pub zip_long : {A B : Type 0} (R : A → B → Type 0) (xs : List A) (ys : List B) → AllZip R xs ys → length xs ≡ length ys
zip_long R [] [] h = refl
zip_long R [] (b ∷ ys) h = absurd h
zip_long R (a ∷ xs) [] h = absurd h
zip_long R (a ∷ xs) (b ∷ ys) h = ap suc (zip_long R xs ys h.1)

pub none_behind : {A : Type 0} (xs : List A) → xs ++ [] ≡ xs
none_behind [] = refl
none_behind (x ∷ xs) = ap (λ ys. x ∷ ys) (none_behind xs)

-- there are no more parts than programs
parts_few : (vs : List Module) (ps : List Planned) → length (parts_of vs ps) ≤ length ps
parts_few [] ps = omega arith
parts_few (v ∷ vs) [] = omega arith
parts_few (v ∷ vs) (p ∷ ps) =
    let few = parts_few vs ps in
    omega (arith, few)

-- ---- one program more

-- the next module is there, and what is planned can be made over it
pub record NextProgram (Can : Module → Planned → Type 0) (modules : List Module) (n : ℕ) (p : Planned) : Type 0 where
  pub within : n < length modules
  pub can : (v : Module) → v ≡ get_or modules n v → Can v p

pub item_at : (modules : List Module) (v : Module) (k n l : ℕ) → v ≡ get_or modules k v → k ≡ n → n ≡ l → v ≡ get_or modules l v
item_at modules v k n l e a b = e ∙ ap (λ (i : ℕ). get_or modules i v) (a ∙ b)

pub next_at : (Can : Module → Planned → Type 0) (modules : List Module) (n : ℕ) (p : Planned) (rest : List Planned) (left : List Module) → left ≡ drop n modules → AllZip Can left (p ∷ rest)
    → NextProgram Can modules n p
next_at Can modules n p rest [] is each = absurd each
next_at Can modules n p rest (w ∷ ms) is each =
    let g = goes_on n modules w ms is in
    record { within = g.within; can = λ v e. subst (λ (x : Module). Can x p) (sym (e ∙ g.item v)) each.0 }

module _ {S : Type 0} (Can : Module → Planned → Type 0) (IsMade : Part → S → Type 0) where
  pub none_staged : (modules : List Module) (planned : List Planned) (staged : List S) → staged ≡ [] → AllZip Can modules planned → Staging Can IsMade modules planned planned staged
  none_staged modules planned staged none each =
      subst (Staging Can IsMade modules planned planned) (sym none) (record { parts = []; left = modules; are = tt; left_is = refl; whole = refl; each = each })

  module _ (modules : List Module) (planned : List Planned) (p : Planned) (rest : List Planned) (staged : List S) where
    pub next : Staging Can IsMade modules planned (p ∷ rest) staged → NextProgram Can modules (length staged) p
    next s = next_at Can modules (length staged) p rest s.left s.left_is s.each

    pub one_more : Staging Can IsMade modules planned (p ∷ rest) staged → (v : Module) → v ≡ get_or modules (length staged) v → (x : S) → IsMade (part_of v p) x
        → Staging Can IsMade modules planned rest (staged ++ x ∷ [])
    one_more s v e x is = by s.left s.left_is s.each s.whole where
      by : (left : List Module) → left ≡ drop (length staged) modules → AllZip Can left (p ∷ rest) → parts_of modules planned ≡ s.parts ++ parts_of left (p ∷ rest)
          → Staging Can IsMade modules planned rest (staged ++ x ∷ [])
      by [] l each whole = absurd each
      by (w ∷ ms) l each whole =
          let g = goes_on (length staged) modules w ms l in
          let same : v ≡ w = e ∙ g.item v in
          let n : suc (length staged) ≡ length (staged ++ x ∷ []) = omega (arith, length-append staged (x ∷ [])) in
          record {
            parts = s.parts ++ part_of w p ∷ [];
            left = ms;
            are = zip_more IsMade s.parts staged (part_of w p) x s.are (subst (λ (u : Module). IsMade (part_of u p) x) same is);
            left_is = sym g.behind ∙ ap (λ (k : ℕ). drop k modules) n;
            whole = whole ∙ sym (append_assoc s.parts (part_of w p ∷ []) (parts_of ms rest));
            each = each.1;
          }

  -- those to come, as they are held
  pub turned : (modules : List Module) (planned rest behind : List Planned) (p : Planned) (staged : List S) → rest ≡ p ∷ behind → Staging Can IsMade modules planned rest staged
      → Staging Can IsMade modules planned (p ∷ behind) staged
  turned modules planned rest behind p staged e s = subst (λ (ps : List Planned). Staging Can IsMade modules planned ps staged) e s

  pub ended : (modules : List Module) (planned rest : List Planned) (staged : List S) → rest ≡ [] → Staging Can IsMade modules planned rest staged → Staging Can IsMade modules planned [] staged
  ended modules planned rest staged e s = subst (λ (ps : List Planned). Staging Can IsMade modules planned ps staged) e s

  pub all_made : (modules : List Module) (planned : List Planned) (staged : List S) → Staging Can IsMade modules planned [] staged → AllZip IsMade (parts_of modules planned) staged
  all_made modules planned staged s = by s.left s.each s.whole where
    by : (left : List Module) → AllZip Can left [] → parts_of modules planned ≡ s.parts ++ parts_of left [] → AllZip IsMade (parts_of modules planned) staged
    by [] each whole = subst (λ (ps : List Part). AllZip IsMade ps staged) (sym (whole ∙ none_behind s.parts)) s.are
    by (w ∷ ms) each whole = absurd each

  -- over the modules that were opened
  pub made_parts : (planned : List Planned) (lent modules : List Module) (parts : List Part) (staged : List S) → parts ≡ parts_of modules planned → lent ≡ modules
      → AllZip IsMade (parts_of lent planned) staged → AllZip IsMade parts staged
  made_parts planned lent modules parts staged e same h =
      subst (λ (ps : List Part). AllZip IsMade ps staged) (sym e) (subst (λ (ms : List Module). AllZip IsMade (parts_of ms planned) staged) same h)

  -- they are few
  pub few_made : (modules : List Module) (planned : List Planned) (staged : List S) → length planned ≤ 16 → AllZip IsMade (parts_of modules planned) staged → length staged ≤ 16
  few_made modules planned staged most are =
      let l = zip_long IsMade (parts_of modules planned) staged are in
      let few = parts_few modules planned in
      omega (arith, l, few, most)

pub none_left : {A : Type 0} (xs : List A) → length xs ≡ 0 → xs ≡ []
none_left [] e = refl
none_left (x ∷ xs) e = absurd (omega (arith, e))
