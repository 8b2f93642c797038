-- A stack of known and unknown types stands for all the operands that fit it, before and behind an instruction.
use Rattle.std.proofs.Common.{arith, ◌≡◌, suc, ◌<◌, inl, inr, ◌++◌, List, [], ◌∷◌, Option, Some, None, Bool, true, false, if◌then◌else◌, refl, ap, sym, ◌∙◌, subst}
use Rattle.wa_types.specs.declared.rules.Rule.{Rule}
use Rattle.wa_types.specs.declared.rules.Rule.TheVariants.{StackTypes}
use Rattle.wa_types.specs.declared.values.ValType.{ValType}
use Rattle.wa_types.specs.declared.values.ValType.TheVariants.{I32, I64}
use Rattle.wa_types.specs.Rules.{number}
use Rattle.wa_types.specs.Encoding.{same_type}
use Rattle.wa_types.specs.Typing.{Sig, moves, leaves, drops, selects, lacks, late, Takes}
use Rattle.wa_types.specs.FirstFault.{Meets}
use Rattle.wa_types.proofs.SigLemmas.{Lawful}
use Rattle.validate_bodies.specs.Running.{may_be, chain, pops, knows, StackAfter, goes, stops, pushed, gone, too_late, dropped, two, selected, next}

-- what a stack of types may stand for: such operands, and any more where it is free
abbrev pub Is : Option ValType → ValType → Type 0
Is None t = Unit {0}
Is (Some u) t = u ≡ t

unfoldable pub Fits : List (Option ValType) → Bool → List ValType → Type 0
Fits [] true ts = Unit {0}
Fits [] false ts = ts ≡ []
Fits (o ∷ os) free [] = ⊥
Fits (o ∷ os) free (t ∷ ts) = Is o t × Fits os free ts

pub same_eq : (t u : ValType) → same_type t u ≡ true → t ≡ u
same_eq I32 I32 h = refl
same_eq I64 I64 h = refl
same_eq I32 I64 h = cc
same_eq I64 I32 h = cc

pub same_refl : (t : ValType) → same_type t t ≡ true
same_refl I32 = refl
same_refl I64 = refl

pub may_is : (o : Option ValType) (t : ValType) → may_be o t ≡ true → Is o t
may_is None t h = tt
may_is (Some u) t h = same_eq u t h

pub is_may : (o : Option ValType) (t : ValType) → Is o t → may_be o t ≡ true
is_may None t h = refl
is_may (Some u) t h = let P : ValType → Type 0 = λ x. same_type u x ≡ true in subst P h (same_refl u)

abbrev pub Left : Option (List (Option ValType)) → Bool → List ValType → Type 0
Left None free below = ⊥
Left (Some os) free below = Fits os free below

module _ (ps : List ValType) (os : List (Option ValType)) (free : Bool) (below : List ValType) where
  chain_left : (b : Bool) → Left (chain (if b then Some os else None) (λ os'. pops ps os' free)) free below → (b ≡ true) × Left (pops ps os free) free below
  chain_left true h = (refl, h)
  chain_left false h = absurd h

  left_chain : (b : Bool) → b ≡ true → Left (pops ps os free) free below → Left (chain (if b then Some os else None) (λ os'. pops ps os' free)) free below
  left_chain true e h = h
  left_chain false e h = cc

pub pop_to : (ps : List ValType) (os : List (Option ValType)) (free : Bool) (below : List ValType) → Left (pops ps os free) free below → Fits os free (ps ++ below)
unfolding Fits
pop_to [] os free below h = h
pop_to (p ∷ ps) [] true below h = tt
pop_to (p ∷ ps) [] false below h = absurd h
pop_to (p ∷ ps) (o ∷ os) free below h =
    let k = chain_left ps os free below (may_be o p) h in
    (may_is o p k.0, pop_to ps os free below k.1)

pub pop_of : (ps : List ValType) (os : List (Option ValType)) (free : Bool) (below : List ValType) → Fits os free (ps ++ below) → Left (pops ps os free) free below
unfolding Fits
pop_of [] os free below h = h
pop_of (p ∷ ps) [] true below h = pop_of ps [] true below tt
pop_of (p ∷ ps) [] false below h = cc
pop_of (p ∷ ps) (o ∷ os) free below h = left_chain ps os free below (may_be o p) (is_may o p h.0) (pop_of ps os free below h.1)

pub know_fit : (rs : List ValType) (os : List (Option ValType)) (free : Bool) (below : List ValType) → Fits os free below → Fits (knows rs ++ os) free (rs ++ below)
unfolding Fits
know_fit [] os free below h = h
know_fit (r ∷ rs) os free below h = (refl, know_fit rs os free below h)

pub know_split : (rs : List ValType) (os : List (Option ValType)) (free : Bool) (outs : List ValType) → Fits (knows rs ++ os) free outs
    → (below : List ValType) × (outs ≡ rs ++ below) × Fits os free below
unfolding Fits
know_split [] os free outs h = (outs, refl, h)
know_split (r ∷ rs) os free [] h = absurd h
know_split (r ∷ rs) os free (t ∷ outs) h =
    let k = know_split rs os free outs h.1 in
    (k.0, (let e : r ≡ t = h.0 in let f : outs ≡ rs ++ k.0 = k.1 in cc), k.2)

-- one of a kind
abbrev one_of : Option ValType → ValType
one_of None = I32
one_of (Some t) = t

one_is : (o : Option ValType) → Is o (one_of o)
one_is None = tt
one_is (Some t) = refl

pub some_fit : (os : List (Option ValType)) (free : Bool) → (ts : List ValType) × Fits os free ts
unfolding Fits
some_fit [] true = ([], tt)
some_fit [] false = ([], refl)
some_fit (o ∷ os) free = let k = some_fit os free in (one_of o ∷ k.0, (one_is o, k.1))

-- What the next stack says of the instruction.
abbrev pub Exact : Sig → List (Option ValType) → Bool → StackAfter → Type 0
Exact s os free (goes os' free') =
    ((outs : List ValType) → Fits os' free' outs → (ins : List ValType) × Fits os free ins × Takes s ins outs)
    × ((ins outs : List ValType) → Fits os free ins → Takes s ins outs → Fits os' free' outs)
Exact s os free (stops r) =
    ((ins : List ValType) × Fits os free ins × Meets (number r) s ins)
    × ((ins : List ValType) → Fits os free ins → Meets (suc (number r)) s ins → ⊥)

at_fit : (os : List (Option ValType)) (free : Bool) (a b : List ValType) → a ≡ b → Fits os free a → Fits os free b
at_fit os free a b e h = subst (Fits os free) e h

module _ (os : List (Option ValType)) (free : Bool) (ps : List ValType) where
  exact_moves : (rs : List ValType) (o : Option (List (Option ValType))) → ((below : List ValType) → Left o free below → Fits os free (ps ++ below))
      → ((below : List ValType) → Fits os free (ps ++ below) → Left o free below) → Exact (moves ps rs) os free (pushed rs free o)
  exact_moves rs None to of =
      let k = some_fit os free in
      ((k.0, k.1, inl (omega arith)), λ ins h m. elim m [ inl l ↦ absurd (omega arith) | inr w ↦ of w.1.0 (at_fit os free ins _ w.1.1 h) ])
  exact_moves rs (Some os') to of = (
    λ outs h. let k = know_split rs os' free outs h in (ps ++ k.0, to k.0 k.2, (k.0, refl, k.1)),
    λ ins outs h w. subst (Fits (knows rs ++ os') free) (sym w.2) (know_fit rs os' free w.0 (of w.0 (at_fit os free ins _ w.1 h))),
  )

  exact_leaves : (o : Option (List (Option ValType))) → ((below : List ValType) → Left o free below → Fits os free (ps ++ below))
      → ((below : List ValType) → Fits os free (ps ++ below) → Left o free below) → Exact (leaves ps) os free (gone o)
  unfolding Fits
  exact_leaves None to of =
      let k = some_fit os free in
      ((k.0, k.1, inl (omega arith)), λ ins h m. elim m [ inl l ↦ absurd (omega arith) | inr w ↦ of w.1.0 (at_fit os free ins _ w.1.1 h) ])
  exact_leaves (Some os') to of =
      (λ outs h. let k = some_fit os' free in (ps ++ k.0, to k.0 k.1, (k.0, refl)), λ ins outs h w. tt)

  exact_late : (r : Rule) (rs : List ValType) (o : Option (List (Option ValType))) → number StackTypes < number r → ((below : List ValType) → Left o free below → Fits os free (ps ++ below))
      → ((below : List ValType) → Fits os free (ps ++ below) → Left o free below) → Exact (late r ps rs) os free (too_late r o)
  exact_late r rs None big to of =
      let k = some_fit os free in
      ((k.0, k.1, inl (omega arith)), λ ins h m. elim m [ inl l ↦ absurd (omega arith) | inr w ↦ of w.1.0 (at_fit os free ins _ w.1.1 h) ])
  exact_late r rs (Some os') big to of =
      let k = some_fit os' free in
      ((ps ++ k.0, to k.0 k.1, inr (omega arith, (k.0, refl))), λ ins h m. elim m [ inl l ↦ absurd (omega arith) | inr w ↦ absurd (omega arith) ])

exact_dropped : (os : List (Option ValType)) (free : Bool) → Exact drops os free (dropped os free)
unfolding Fits
exact_dropped [] true = (λ outs h. (I32 ∷ outs, tt, (I32, refl)), λ ins outs h w. tt)
exact_dropped [] false = (([], refl, inl (omega arith)), λ ins h m. elim m [ inl l ↦ absurd (omega arith) | inr w ↦ (let e : ins ≡ [] = h in let f : ins ≡ w.1.0 ∷ w.0 = w.1.1 in cc) ])
exact_dropped (o ∷ os) free = (
  λ outs h. (one_of o ∷ outs, (one_is o, h), (one_of o, refl)),
  λ ins outs h w. (at_fit (o ∷ os) free ins (w.0 ∷ outs) w.1 h).1,
)

-- what two operands of one type leave
abbrev Twice : List (Option ValType) → Bool → StackAfter → Type 0
Twice os free (goes os' free') =
    ((outs : List ValType) → Fits os' free' outs → (t : ValType) × (below : List ValType) × (outs ≡ t ∷ below) × Fits os free (t ∷ t ∷ below))
    × ((t : ValType) (below : List ValType) → Fits os free (t ∷ t ∷ below) → Fits os' free' (t ∷ below))
Twice os free (stops r) = (r ≡ StackTypes) × ((t : ValType) (below : List ValType) → Fits os free (t ∷ t ∷ below) → ⊥)

is_along : (o : Option ValType) (t u : ValType) → t ≡ u → Is o t → Is o u
is_along o t u e h = subst (Is o) e h

twice_known : (t u : ValType) (os : List (Option ValType)) (free : Bool) (b : Bool) → b ≡ same_type t u → Twice (Some t ∷ Some u ∷ os) free (if b then goes (Some t ∷ os) free else stops StackTypes)
unfolding Fits
twice_known t u os free true e =
    (λ outs h. some_top outs h, λ v below h. (h.0, h.1.1))
  where
    some_top : (outs : List ValType) → Fits (Some t ∷ os) free outs → (v : ValType) × (below : List ValType) × (outs ≡ v ∷ below) × Fits (Some t ∷ Some u ∷ os) free (v ∷ v ∷ below)
    some_top [] h = absurd h
    some_top (v ∷ below) h = (v, below, refl, (h.0, (sym (same_eq t u (sym e)) ∙ h.0, h.1)))
twice_known t u os free false e = (refl, λ v below h. let P : ValType → Type 0 = λ x. same_type t x ≡ true in let f : same_type t u ≡ true = subst P (h.0 ∙ sym h.1.0) (same_refl t) in cc)

twice : (os : List (Option ValType)) (free : Bool) → Twice os free (two os free)
unfolding Fits
twice [] true = (λ outs h. top outs h, λ t below h. (tt, tt))
  where
    top : (outs : List ValType) → Fits (None ∷ []) true outs → (v : ValType) × (below : List ValType) × (outs ≡ v ∷ below) × Fits [] true (v ∷ v ∷ below)
    top [] h = absurd h
    top (v ∷ below) h = (v, below, refl, tt)
twice [] false = (refl, λ t below h. cc)
twice (o ∷ []) true = (λ outs h. top outs h, λ t below h. (h.0, tt))
  where
    top : (outs : List ValType) → Fits (o ∷ []) true outs → (v : ValType) × (below : List ValType) × (outs ≡ v ∷ below) × Fits (o ∷ []) true (v ∷ v ∷ below)
    top [] h = absurd h
    top (v ∷ below) h = (v, below, refl, (h.0, tt))
twice (o ∷ []) false = (refl, λ t below h. let e : t ∷ below ≡ [] = h.1 in cc)
twice (None ∷ p ∷ os) free = (λ outs h. top outs h, λ t below h. (h.1.0, h.1.1))
  where
    top : (outs : List ValType) → Fits (p ∷ os) free outs → (v : ValType) × (below : List ValType) × (outs ≡ v ∷ below) × Fits (None ∷ p ∷ os) free (v ∷ v ∷ below)
    top [] h = absurd h
    top (v ∷ below) h = (v, below, refl, (tt, (h.0, h.1)))
twice (Some t ∷ None ∷ os) free = (λ outs h. top outs h, λ t below h. (h.0, h.1.1))
  where
    top : (outs : List ValType) → Fits (Some t ∷ os) free outs → (v : ValType) × (below : List ValType) × (outs ≡ v ∷ below) × Fits (Some t ∷ None ∷ os) free (v ∷ v ∷ below)
    top [] h = absurd h
    top (v ∷ below) h = (v, below, refl, (h.0, (tt, h.1)))
twice (Some t ∷ Some u ∷ os) free = twice_known t u os free (same_type t u) refl

exact_selected : (os : List (Option ValType)) (free : Bool) (o : Option (List (Option ValType))) → ((below : List ValType) → Left o free below → Fits os free (I32 ∷ below))
    → ((below : List ValType) → Fits os free (I32 ∷ below) → Left o free below) → Exact selects os free (selected free o)
exact_selected os free None to of =
    let k = some_fit os free in
    ((k.0, k.1, inl (omega arith)), λ ins h m. elim m [ inl l ↦ absurd (omega arith) | inr w ↦ of _ (at_fit os free ins _ w.1.2 h) ])
exact_selected os free (Some os') to of = by_next (two os' free) (twice os' free)
  where
    by_next : (n : StackAfter) → Twice os' free n → Exact selects os free n
    by_next (goes os'' free'') w = (
      λ outs h. let k = w.0 outs h in (I32 ∷ k.0 ∷ k.0 ∷ k.1, to _ k.3, (k.0, k.1, refl, k.2)),
      λ ins outs h v. subst (Fits os'' free'') (sym v.3) (w.1 v.0 v.1 (of _ (at_fit os free ins _ v.2 h))),
    )
    by_next (stops r) w =
        let k = some_fit os free in
        let is : number r ≡ number StackTypes = ap number w.0 in
        ((k.0, k.1, inl (omega (arith, is))), λ ins h m. elim m [ inl l ↦ absurd (omega (arith, is, l)) | inr v ↦ w.1 v.1.0 v.1.1 (of _ (at_fit os free ins _ v.1.2 h)) ])

pub exact : (s : Sig) (os : List (Option ValType)) (free : Bool) → Lawful s → Exact s os free (next s os free)
exact (moves ps rs) os free l = exact_moves os free ps rs (pops ps os free) (pop_to ps os free) (pop_of ps os free)
exact (leaves ps) os free l = exact_leaves os free ps (pops ps os free) (pop_to ps os free) (pop_of ps os free)
exact drops os free l = exact_dropped os free
exact selects os free l = exact_selected os free (pops (I32 ∷ []) os free) (pop_to (I32 ∷ []) os free) (pop_of (I32 ∷ []) os free)
exact (lacks r) os free l =
    let k = some_fit os free in
    ((k.0, k.1, omega arith), λ ins h m. absurd (omega (arith, m)))
exact (late r ps rs) os free l = exact_late os free ps r rs (pops ps os free) l.0 (pop_to ps os free) (pop_of ps os free)
