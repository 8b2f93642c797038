-- Locals and operands of both sides, and what instructions do with them.
use Rattle.std.proofs.Common.{◌≡◌, ◌≢◌, ℕ, zero, suc, ◌≤◌, ◌<◌, ◌⊎◌, inl, inr, List, [], ◌∷◌, ◌++◌, length, take, drop, None, true, false, refl, sym, ap, ◌∙◌, subst, arith, eqb, leb, length-set, get_or-set_same, get_or-set_other}
use Rattle.std.specs.Prelude.{slice_set}
use Rattle.std.proofs.lemmas.Bool.Decides.{eqb_tells, leb_tells}
use Rattle.wa_types.specs.declared.values.Value.{Value}
use Rattle.wa_types.specs.declared.values.Value.TheVariants as V
use Rattle.wa_model.specs.Store.{value_at}
use Rattle.slim_laws.specs.Slim.{Free, Covers, CoversBut, StackShape, more, Takes, takes_none, takes_same, takes_one, Rises, rises, rises_below, Lacks, lacks_held, lacks_slot, Plainly, plainly_held}
use Rattle.slim_laws.specs.Beside.{Agree, Woven, woven, woven_both, woven_kept}

-- ---- one local set

pub at_same : (ls : List Value) (x : ℕ) (v : Value) → x < length ls → value_at (slice_set ls x v) x ≡ v
at_same ls x v lt = get_or-set_same ls x v (V.I32 0) lt

at_other : (ls : List Value) (x y : ℕ) (v : Value) → y ≢ x → value_at (slice_set ls x v) y ≡ value_at ls y
at_other ls x y v ne = get_or-set_other ls x y v (V.I32 0) ne

-- one way or the other
same_or_not : (y x : ℕ) → (y ≡ x) ⊎ (y ≢ x)
same_or_not y x = by (eqb_tells y x)
  where
    by : ((eqb y x ≡ true) × (y ≡ x)) ⊎ ((eqb y x ≡ false) × (y ≢ x)) → (y ≡ x) ⊎ (y ≢ x)
    by (inl h) = inl h.1
    by (inr h) = inr h.1

below_or_not : (x n : ℕ) → (x < n) ⊎ (n ≤ x)
below_or_not x n = by (leb_tells (suc x) n)
  where
    by : ((leb (suc x) n ≡ true) × (suc x ≤ n)) ⊎ ((leb (suc x) n ≡ false) × (n < suc x)) → (x < n) ⊎ (n ≤ x)
    by (inl h) = let l = h.1 in inl (omega arith)
    by (inr h) = let l = h.1 in inr (omega arith)

-- past the last local there is one value
past_all : (ls : List Value) (x : ℕ) → length ls ≤ x → value_at ls x ≡ V.I32 0
past_all [] x le = refl
past_all (a ∷ ls) zero le = absurd (omega arith)
past_all (a ∷ ls) (suc x) le = past_all ls x (omega arith)

pub agree_set : (f g : Free) (ls ls' : List Value) (x : ℕ) (v : Value) → CoversBut x f g → Agree f ls ls' → Agree g (slice_set ls x v) (slice_set ls' x v)
agree_set f g ls ls' x v co ag = record { long = length-set ls' x v ∙ ag.long ∙ sym (length-set ls x v); same = at }
  where
    inside : (y : ℕ) → (x < length ls) ⊎ (length ls ≤ x) → y ≡ x → value_at (slice_set ls' x v) y ≡ value_at (slice_set ls x v) y
    inside y (inl lt) e =
        let l = ag.long in
        subst (λ z. value_at (slice_set ls' x v) z ≡ value_at (slice_set ls x v) z) (sym e) (at_same ls' x v (omega arith) ∙ sym (at_same ls x v lt))
    inside y (inr le) e =
        let l = ag.long in
        let a = length-set ls' x v in
        let b = length-set ls x v in
        past_all (slice_set ls' x v) y (omega arith) ∙ sym (past_all (slice_set ls x v) y (omega arith))

    at : (y : ℕ) → g y ≡ false → value_at (slice_set ls' x v) y ≡ value_at (slice_set ls x v) y
    at y fr = by (same_or_not y x)
      where
        by : (y ≡ x) ⊎ (y ≢ x) → value_at (slice_set ls' x v) y ≡ value_at (slice_set ls x v) y
        by (inl e) = inside y (below_or_not x (length ls)) e
        by (inr ne) = at_other ls' x y v ne ∙ ag.same y (co y fr ne) ∙ sym (at_other ls x y v ne)

pub agree_wider : (f g : Free) (ls ls' : List Value) → Covers f g → Agree f ls ls' → Agree g ls ls'
agree_wider f g ls ls' co ag = record { long = ag.long; same = λ y fr. ag.same y (co y fr) }

-- the flat side alone sets it
pub agree_kept : (f g : Free) (ls ls' : List Value) (x : ℕ) (v : Value) → Covers f g → g x ≡ true → Agree f ls ls' → Agree g (slice_set ls x v) ls'
agree_kept f g ls ls' x v co gx ag = record { long = ag.long ∙ sym (length-set ls x v); same = at }
  where
    at : (y : ℕ) → g y ≡ false → value_at ls' y ≡ value_at (slice_set ls x v) y
    at y fr = by (same_or_not y x)
      where
        by : (y ≡ x) ⊎ (y ≢ x) → value_at ls' y ≡ value_at (slice_set ls x v) y
        by (inl e) = let q : g y ≡ true = ap g e ∙ gx in cc
        by (inr ne) = ag.same y (co y fr) ∙ sym (at_other ls x y v ne)

-- the slim side sets it now
pub agree_saved : (f g : Free) (ls ls' : List Value) (x : ℕ) (v : Value) → CoversBut x f g → x < length ls → v ≡ value_at ls x → Agree f ls ls' → Agree g ls (slice_set ls' x v)
agree_saved f g ls ls' x v co lt ev ag = record { long = length-set ls' x v ∙ ag.long; same = at }
  where
    at : (y : ℕ) → g y ≡ false → value_at (slice_set ls' x v) y ≡ value_at ls y
    at y fr = by (same_or_not y x)
      where
        by : (y ≡ x) ⊎ (y ≢ x) → value_at (slice_set ls' x v) y ≡ value_at ls y
        by (inl e) = let l = ag.long in subst (λ z. value_at (slice_set ls' x v) z ≡ value_at ls z) (sym e) (at_same ls' x v (omega arith) ∙ ev)
        by (inr ne) = at_other ls' x y v ne ∙ ag.same y (co y fr ne)

-- ---- operands

pub woven_set : (ls : List Value) (x : ℕ) (v : Value) (sh : StackShape) (ops ops' : List Value) → Lacks x sh → Woven ls sh ops ops' → Woven (slice_set ls x v) sh ops ops'
woven_set ls x v _ _ _ la woven = woven
woven_set ls x v _ _ _ (lacks_held la) (woven_both {sh = sh} {ops = ops} {ops' = ops'} u wo) = woven_both u (woven_set ls x v sh ops ops' la wo)
woven_set ls x v _ _ _ (lacks_slot ne la) (woven_kept {sh = sh} {ops = ops} {ops' = ops'} y u e wo) = woven_kept y u (e ∙ sym (at_other ls x y v ne)) (woven_set ls x v sh ops ops' la wo)

pub plainly_same : (ls : List Value) (sh : StackShape) (ops ops' : List Value) → Plainly sh → Woven ls sh ops ops' → ops' ≡ ops
plainly_same ls _ _ _ p woven = refl
plainly_same ls _ _ _ (plainly_held p) (woven_both {sh = sh} {ops = ops} {ops' = ops'} u wo) = ap (λ us. u ∷ us) (plainly_same ls sh ops ops' p wo)
plainly_same ls _ _ _ p (woven_kept x v e wo) = elim p [ ]

pub taken_same : (ls : List Value) (n : ℕ) (sh sh2 : StackShape) (ops ops' : List Value) → Takes n sh sh2 → Woven ls sh ops ops' → (take n ops' ≡ take n ops) × Woven ls sh2 (drop n ops) (drop n ops')
taken_same ls _ _ _ ops ops' takes_none wo = (refl, wo)
taken_same ls n _ _ _ _ takes_same woven = (refl, woven)
taken_same ls _ _ _ _ _ (takes_one {n = n} {sh = sh} {sh2 = sh2} ta) (woven_both {ops = ops} {ops' = ops'} v wo) =
    let h = taken_same ls n sh sh2 ops ops' ta wo in (ap (λ us. v ∷ us) h.0, h.1)

pub more_woven : (ls : List Value) (sh : StackShape) (vs ops ops' : List Value) → Woven ls sh ops ops' → Woven ls (more (length vs) sh) (vs ++ ops) (vs ++ ops')
more_woven ls sh [] ops ops' wo = wo
more_woven ls sh (v ∷ vs) ops ops' wo = let e : more (length (v ∷ vs)) sh ≡ None ∷ more (length vs) sh = refl in woven_both v (more_woven ls sh vs ops ops' wo)

pub risen : (ls : List Value) (x : ℕ) (sh sh2 : StackShape) (ops ops' : List Value) → Rises x sh sh2 → Woven ls sh ops ops' → Woven ls sh2 (value_at ls x ∷ ops) ops'
risen ls x _ _ _ _ rises (woven_kept {sh = sh} {ops = ops} {ops' = ops'} y v e wo) = subst (λ u. Woven ls (None ∷ sh) (value_at ls x ∷ ops) (u ∷ ops')) (sym e) (woven_both (value_at ls x) wo)
risen ls x _ _ _ _ (rises_below {sh = sh} {sh2 = sh2} ri) (woven_kept {ops = ops} {ops' = ops'} y v e wo) = woven_kept y v e (risen ls x sh sh2 ops ops' ri wo)
