-- Liveness, one instruction at a time, and at each call.
use Rattle.std.proofs.Common.{arith, ◌≡◌, ℕ, ◌+◌, ◌-◌, ◌<◌, ◌≤◌, List, [], ◌∷◌, ◌++◌, ◌||◌, ◌&&◌, map, reverse, drop, Option, Some, None, Bool, true, false, refl, ap, sym, ◌∙◌, append_assoc, slice_get, length, get_or, Result, Ok, Err, IfOk}
use Rattle.std.proofs.lemmas.List.{append-nil, reverse-append, length-reverse, get_or-reverse, reverse-reverse, map-append}
use Rattle.std.proofs.lemmas.Option.{slice_get_past, slice_get-get_or}
use Rattle.std.specs.declared.vec.Vec.{Vec}
use Rattle.std.specs.declared.alloc.Global.{Global}
use Rattle.wa_types.specs.declared.values.ValType.{ValType}
use Rattle.wa_types.specs.declared.instrs.Instr.{Instr}
use Rattle.wa_types.specs.declared.instrs.Instr.TheVariants.{Unreachable, Nop, Drop, Select, Return, MemorySize, MemoryGrow, MemoryCopy, MemoryFill, Const, Num, Br, BrIf, BrTable, Call, CallIndirect, LocalGet, LocalSet, LocalTee, GlobalGet, GlobalSet, Load, Store, Block, Loop, If, Block', Loop', If'}
use Rattle.wa_types.specs.Syntax.{Plain, Shape, a_block, a_loop, Code, done, plain, nest, branch}
use Rattle.wa_types.specs.View.{code, in_front}
use Rattle.wa_types.specs.Pausing.{Callee, callee, is_told}
use Rattle.wa_types.specs.Liveness.{Label, goes_behind, goes_again, position, live, live_plain, shape_live, told, live_at, behind_calls, if_call_here}
use Rattle.wa_types.proofs.ViewLemmas.{is_block as K_is_block, is_loop as K_is_loop, is_if as K_is_if, is_plain as K_is_plain, instr_kind, code_step, code_empty}
use Rattle.frame_sizes.specs.Lives.{live_first, label_live, lives, lives_first, if_called}
use Rattle.frame_sizes.proofs.VisitLemmas.{is_plain, is_nest, is_branch, front, no_call}

module _ (x : ℕ) (tos : List Bool) (out : Bool) where
  live_front : (i : Instr) (rest : Code) → live x tos out (in_front i rest) ≡ live_first x tos (live x tos out rest) (in_front i done)
  unfolding live
  live_front i rest = elim (front i) [
    | is_plain p e f ↦ ap (live x tos out) (e rest) ∙ ap (live_first x tos (live x tos out rest)) (sym (e done))
    | is_nest s r k e n ↦ ap (live x tos out) (e rest) ∙ ap (live_first x tos (live x tos out rest)) (sym (e done))
    | is_branch r a b e n ↦ ap (live x tos out) (e rest) ∙ ap (live_first x tos (live x tos out rest)) (sym (e done))
  ]

  lives_front : (i : Instr) (rest : Code) → lives x tos out (in_front i rest) ≡ lives_first x tos (live x tos out rest) (in_front i done) ++ lives x tos out rest
  unfolding lives
  lives_front i rest = elim (front i) [
    | is_plain p e f ↦ ap (lives x tos out) (e rest) ∙ called (callee p) (live x tos out rest) (lives x tos out rest)
        ∙ ap (λ k. lives_first x tos (live x tos out rest) k ++ lives x tos out rest) (sym (e done))
    | is_nest s r k e n ↦ ap (lives x tos out) (e rest) ∙ ap (λ k. lives_first x tos (live x tos out rest) k ++ lives x tos out rest) (sym (e done))
    | is_branch r a b e n ↦
        ap (lives x tos out) (e rest)
        ∙ sym (append_assoc (lives x (live x tos out rest ∷ tos) (live x tos out rest) a) (lives x (live x tos out rest ∷ tos) (live x tos out rest) b) (lives x tos out rest))
        ∙ ap (λ k. lives_first x tos (live x tos out rest) k ++ lives x tos out rest) (sym (e done))
  ]
    where
      called : (c : Option Callee) (k : Bool) (rest : List Bool) → if_called c k rest ≡ if_called c k [] ++ rest
      called None k rest = refl
      called (Some y) k rest = refl

  -- nothing is left behind the end
  pub live_end : (body : List Instr) → out ≡ live x tos out (code (drop (length body) body))
  unfolding live
  live_end body = sym (ap (live x tos out) (code_empty body (length body) (omega arith)))

  pub lives_end : (body : List Instr) → lives x tos out (code (drop (length body) body)) ≡ []
  unfolding lives
  lives_end body = ap (lives x tos out) (code_empty body (length body) (omega arith))

  module _ (body : List Instr) (left : ℕ) (i : Instr) (told new : Bool) (some : 0 < left) (within : left ≤ length body) (at : i ≡ get_or body (left - 1) i)
      (before : told ≡ live x tos out (code (drop left body))) (step : new ≡ live_first x tos told (in_front i done)) where
    one_on : code (drop (left - 1) body) ≡ in_front i (code (drop left body))
    one_on = let next : left - 1 + 1 ≡ left = omega arith in code_step body (left - 1) i (omega arith) at ∙ ap (λ n. in_front i (code (drop n body))) next

    pub live_before : new ≡ live x tos out (code (drop (left - 1) body))
    live_before = step ∙ ap (λ k. live_first x tos k (in_front i done)) before ∙ sym (live_front i (code (drop left body))) ∙ ap (live x tos out) (sym one_on)

    pub lives_before : (old found more : List Bool) → found ≡ old ++ reverse (lives x tos out (code (drop left body))) → more ≡ found ++ reverse (lives_first x tos told (in_front i done))
        → more ≡ old ++ reverse (lives x tos out (code (drop (left - 1) body)))
    lives_before old found more f m =
        let rest : List Bool = lives x tos out (code (drop left body)) in
        m ∙ ap (λ xs. xs ++ reverse (lives_first x tos told (in_front i done))) f ∙ append_assoc old (reverse rest) (reverse (lives_first x tos told (in_front i done)))
        ∙ ap (λ k. old ++ (reverse rest ++ reverse (lives_first x tos k (in_front i done)))) before
        ∙ ap (λ xs. old ++ xs) (sym (reverse-append (lives_first x tos (live x tos out (code (drop left body))) (in_front i done)) rest))
        ∙ ap (λ xs. old ++ reverse xs) (sym (lives_front i (code (drop left body))) ∙ ap (lives x tos out) (sym one_on))

-- ---- arms

pub or_then : (b k : Bool) → b ≡ true → b ≡ (b || k)
or_then true k e = refl
or_then false k e = cc

pub or_else : (b k : Bool) → b ≡ false → k ≡ (b || k)
or_else true k e = cc
or_else false k e = refl

pub and_then : (b k : Bool) → b ≡ true → k ≡ (b && k)
and_then true k e = refl
and_then false k e = cc

pub and_else : (b k : Bool) → b ≡ false → b ≡ (b && k)
and_else true k e = cc
and_else false k e = refl

module _ (x : ℕ) (tos : List Bool) (k : Bool) (i : Instr) where
  pub same_first : (j : Instr) → i ≡ j → live_first x tos k (in_front j done) ≡ live_first x tos k (in_front i done)
  same_first j e = ap (λ y. live_first x tos k (in_front y done)) (sym e)

  module _ (s : Shape) (r : Option ValType) (body : Code) (is : (rest : Code) → in_front i rest ≡ nest s r body rest) where
    pub nest_live : (b : Bool) → b ≡ live x (shape_live s k ∷ tos) k body → b ≡ live_first x tos k (in_front i done)
    nest_live b e = e ∙ ap (live_first x tos k) (sym (is done))

    pub nest_lives : (old new : List Bool) → new ≡ old ++ reverse (lives x (label_live x s tos k body ∷ tos) k body) → new ≡ old ++ reverse (lives_first x tos k (in_front i done))
    nest_lives old new e = e ∙ ap (λ c. old ++ reverse (lives_first x tos k c)) (sym (is done))

  module _ (r : Option ValType) (a b : Code) (is : (rest : Code) → in_front i rest ≡ branch r a b rest) where
    pub branch_live : (c d o : Bool) → c ≡ live x (k ∷ tos) k a → d ≡ live x (k ∷ tos) k b → o ≡ (c || d) → o ≡ live_first x tos k (in_front i done)
    branch_live c d o e f g = g ∙ ap (λ z. z || d) e ∙ ap (λ z. live x (k ∷ tos) k a || z) f ∙ ap (live_first x tos k) (sym (is done))

    pub branch_lives : (old mid new : List Bool) → mid ≡ old ++ reverse (lives x (k ∷ tos) k b) → new ≡ mid ++ reverse (lives x (k ∷ tos) k a)
        → new ≡ old ++ reverse (lives_first x tos k (in_front i done))
    branch_lives old mid new e f =
        let first : List Bool = lives x (k ∷ tos) k a in
        let second : List Bool = lives x (k ∷ tos) k b in
        f ∙ ap (λ xs. xs ++ reverse first) e ∙ append_assoc old (reverse second) (reverse first) ∙ ap (λ xs. old ++ xs) (sym (reverse-append first second))
        ∙ ap (λ c. old ++ reverse (lives_first x tos k c)) (sym (is done))

  pub call_lives : (p : Plain) → in_front i done ≡ plain p done → (y : Callee) → callee p ≡ Some y → (old new : List Bool) → new ≡ old ++ k ∷ []
      → new ≡ old ++ reverse (lives_first x tos k (in_front i done))
  call_lives p is y c old new e = e ∙ ap (λ o. old ++ reverse (if_called o k [])) (sym c) ∙ ap (λ z. old ++ reverse (lives_first x tos k z)) (sym is)

  pub none_lives : ((y : ℕ) → i ≡ Call y → ⊥) → ((y : ℕ) → i ≡ CallIndirect y → ⊥) → ((r : Option ValType) (v : Vec Instr Global) → i ≡ Block r v → ⊥)
      → ((r : Option ValType) (v : Vec Instr Global) → i ≡ Loop r v → ⊥) → ((r : Option ValType) (v u : Vec Instr Global) → i ≡ If r v u → ⊥)
      → (old : List Bool) → old ≡ old ++ reverse (lives_first x tos k (in_front i done))
  none_lives nc ni nb nl nf old = elim (instr_kind i) [
    | K_is_block r v e ↦ absurd (nb r v e)
    | K_is_loop r v e ↦ absurd (nl r v e)
    | K_is_if r v u e ↦ absurd (nf r v u e)
    | K_is_plain p e ↦ sym (append-nil old) ∙ ap (λ o. old ++ reverse (if_called o k [])) (sym (no_call i p e nc ni)) ∙ ap (λ z. old ++ reverse (lives_first x tos k z)) (sym (e done))
  ]

-- any other instruction leaves what is told behind it
pub other_live : (x : ℕ) (tos : List Bool) (k : Bool) (i : Instr) → ((y : ℕ) → i ≡ LocalGet y → ⊥) → ((y : ℕ) → i ≡ LocalSet y → ⊥) → ((y : ℕ) → i ≡ LocalTee y → ⊥)
    → ((l : ℕ) → i ≡ Br l → ⊥) → ((l : ℕ) → i ≡ BrIf l → ⊥) → ((ls : Vec ℕ Global) (l : ℕ) → i ≡ BrTable ls l → ⊥) → (i ≡ Return → ⊥) → (i ≡ Unreachable → ⊥)
    → ((r : Option ValType) (v : Vec Instr Global) → i ≡ Block r v → ⊥) → ((r : Option ValType) (v : Vec Instr Global) → i ≡ Loop r v → ⊥)
    → ((r : Option ValType) (v u : Vec Instr Global) → i ≡ If r v u → ⊥)
    → k ≡ live_first x tos k (in_front i done)
unfolding in_front
other_live x tos k i g s t b bi bt re un nb nl nf = elim (instr_kind i) [
  | K_is_block r v e ↦ absurd (nb r v e)
  | K_is_loop r v e ↦ absurd (nl r v e)
  | K_is_if r v u e ↦ absurd (nf r v u e)
  | K_is_plain p e ↦ leaf i p e g s t b bi bt re un ∙ ap (live_first x tos k) (sym (e done))
]
  where
    same : (p q : Plain) → plain p done ≡ plain q done → live_plain x tos q k ≡ live_plain x tos p k
    same p q e = let z : p ≡ q = cc in ap (λ w. live_plain x tos w k) (sym z)

    leaf : (i : Instr) (p : Plain) → ((rest : Code) → in_front i rest ≡ plain p rest) → ((y : ℕ) → i ≡ LocalGet y → ⊥) → ((y : ℕ) → i ≡ LocalSet y → ⊥) → ((y : ℕ) → i ≡ LocalTee y → ⊥)
        → ((l : ℕ) → i ≡ Br l → ⊥) → ((l : ℕ) → i ≡ BrIf l → ⊥) → ((ls : Vec ℕ Global) (l : ℕ) → i ≡ BrTable ls l → ⊥) → (i ≡ Return → ⊥) → (i ≡ Unreachable → ⊥)
        → k ≡ live_plain x tos p k
    leaf (LocalGet y) p e g s t b bi bt re un = absurd (g y refl)
    leaf (LocalSet y) p e g s t b bi bt re un = absurd (s y refl)
    leaf (LocalTee y) p e g s t b bi bt re un = absurd (t y refl)
    leaf (Br l) p e g s t b bi bt re un = absurd (b l refl)
    leaf (BrIf l) p e g s t b bi bt re un = absurd (bi l refl)
    leaf (BrTable ls l) p e g s t b bi bt re un = absurd (bt ls l refl)
    leaf Return p e g s t b bi bt re un = absurd (re refl)
    leaf Unreachable p e g s t b bi bt re un = absurd (un refl)
    leaf Nop p e g s t b bi bt re un = same p _ (sym (e done))
    leaf Drop p e g s t b bi bt re un = same p _ (sym (e done))
    leaf Select p e g s t b bi bt re un = same p _ (sym (e done))
    leaf MemorySize p e g s t b bi bt re un = same p _ (sym (e done))
    leaf MemoryGrow p e g s t b bi bt re un = same p _ (sym (e done))
    leaf MemoryCopy p e g s t b bi bt re un = same p _ (sym (e done))
    leaf MemoryFill p e g s t b bi bt re un = same p _ (sym (e done))
    leaf (Const v) p e g s t b bi bt re un = same p _ (sym (e done))
    leaf (Num op) p e g s t b bi bt re un = same p _ (sym (e done))
    leaf (Call y) p e g s t b bi bt re un = same p _ (sym (e done))
    leaf (CallIndirect y) p e g s t b bi bt re un = same p _ (sym (e done))
    leaf (GlobalGet y) p e g s t b bi bt re un = same p _ (sym (e done))
    leaf (GlobalSet y) p e g s t b bi bt re un = same p _ (sym (e done))
    leaf (Load op al o) p e g s t b bi bt re un = same p _ (sym (e done))
    leaf (Store op al o) p e g s t b bi bt re un = same p _ (sym (e done))
    leaf (Block' r v w) p e g s t b bi bt re un = let z = e done in cc
    leaf (Loop' r v w) p e g s t b bi bt re un = let z = e done in cc
    leaf (If' r v w u o) p e g s t b bi bt re un = let z = e done in cc

-- ---- by a call's place

pub told_behind : (x place : ℕ) (body : Code) (found : List Bool) (d : Bool) → found ≡ reverse (lives x [] false body) → place < length found
    → get_or found (length found - 1 - place) d ≡ is_told (slice_get (lives x [] false body) place)
told_behind x place body found d e lt =
    let all : List Bool = lives x [] false body in
    let n : length found ≡ length all = ap length e ∙ length-reverse all in
    sym (get_or-reverse found place d lt) ∙ ap (λ xs. get_or xs place d) (ap reverse e ∙ reverse-reverse all) ∙ sym (ap is_told (slice_get-get_or all place d (omega (arith, n, lt))))

pub told_none : (x place : ℕ) (body : Code) (found : List Bool) → found ≡ reverse (lives x [] false body) → length found ≤ place → false ≡ is_told (slice_get (lives x [] false body) place)
told_none x place body found e le =
    let all : List Bool = lives x [] false body in
    let n : length found ≡ length all = ap length e ∙ length-reverse all in
    sym (ap is_told (slice_get_past all place (omega (arith, n, le))))

-- ---- answers

pub told_as : {E : Type 0} (res : Result Bool E) (a b : Bool) → a ≡ b → IfOk res (λ r. r ≡ a) → IfOk res (λ r. r ≡ b)
told_as (Ok r) a b e h = h ∙ e
told_as (Err x) a b e h = tt

pub same_live : (x : ℕ) (tos inner : List Bool) (k : Bool) (body : Code) → inner ≡ tos → live x inner k body ≡ live x tos k body
same_live x tos inner k body e = ap (λ ts. live x ts k body) e

pub same_lives : (x : ℕ) (tos inner : List Bool) (k : Bool) (body other : Code) (old new : List Bool) → inner ≡ tos → other ≡ body → new ≡ old ++ reverse (lives x inner k other)
    → new ≡ old ++ reverse (lives x tos k body)
same_lives x tos inner k body other old new e f h = h ∙ ap (λ ts. old ++ reverse (lives x ts k other)) e ∙ ap (λ b. old ++ reverse (lives x tos k b)) f

-- ---- at each call it is told of the place behind it

pub told_calls : (x : ℕ) (ls : List Label) (code : Code) → lives x (told x ls).tos (told x ls).out code ≡ map (live_at x) (behind_calls ls code)
unfolding lives behind_calls
told_calls x ls done = refl
told_calls x ls (plain p rest) = by_callee (callee p) (told_calls x ls rest)
  where
    by_callee : (c : Option Callee) → lives x (told x ls).tos (told x ls).out rest ≡ map (live_at x) (behind_calls ls rest)
        → if_called c (live x (told x ls).tos (told x ls).out rest) (lives x (told x ls).tos (told x ls).out rest) ≡ map (live_at x) (if_call_here c (position rest ls) (behind_calls ls rest))
    by_callee None e = e
    by_callee (Some y) e = ap (λ z. live x (told x ls).tos (told x ls).out rest ∷ z) e
told_calls x ls (nest a_block r body rest) =
    ap (λ z. z ++ lives x (told x ls).tos (told x ls).out rest) (told_calls x (goes_behind rest ∷ ls) body)
    ∙ ap (λ z. map (live_at x) (behind_calls (goes_behind rest ∷ ls) body) ++ z) (told_calls x ls rest)
    ∙ sym (map-append (live_at x) (behind_calls (goes_behind rest ∷ ls) body) (behind_calls ls rest))
told_calls x ls (nest a_loop r body rest) =
    ap (λ z. z ++ lives x (told x ls).tos (told x ls).out rest) (told_calls x (goes_again body rest ∷ ls) body)
    ∙ ap (λ z. map (live_at x) (behind_calls (goes_again body rest ∷ ls) body) ++ z) (told_calls x ls rest)
    ∙ sym (map-append (live_at x) (behind_calls (goes_again body rest ∷ ls) body) (behind_calls ls rest))
told_calls x ls (branch r a b rest) =
    ap (λ z. z ++ (lives x (told x (goes_behind rest ∷ ls)).tos (told x (goes_behind rest ∷ ls)).out b ++ lives x (told x ls).tos (told x ls).out rest)) (told_calls x (goes_behind rest ∷ ls) a)
    ∙ ap (λ z. map (live_at x) (behind_calls (goes_behind rest ∷ ls) a) ++ (z ++ lives x (told x ls).tos (told x ls).out rest)) (told_calls x (goes_behind rest ∷ ls) b)
    ∙ ap (λ z. map (live_at x) (behind_calls (goes_behind rest ∷ ls) a) ++ (map (live_at x) (behind_calls (goes_behind rest ∷ ls) b) ++ z)) (told_calls x ls rest)
    ∙ ap (λ z. map (live_at x) (behind_calls (goes_behind rest ∷ ls) a) ++ z) (sym (map-append (live_at x) (behind_calls (goes_behind rest ∷ ls) b) (behind_calls ls rest)))
    ∙ sym (map-append (live_at x) (behind_calls (goes_behind rest ∷ ls) a) (behind_calls (goes_behind rest ∷ ls) b ++ behind_calls ls rest))
