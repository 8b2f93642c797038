-- What is computed of a body is its typing and its first fault.
use Rattle.std.proofs.Common.{arith, ◌≡◌, ℕ, zero, suc, ◌+◌, ◌-◌, ◌≤◌, inl, inr, ◌++◌, List, [], ◌∷◌, Option, Bool, true, false, if◌then◌else◌, refl, ap, sym, ◌∙◌, subst}
use Rattle.wa_types.specs.declared.rules.Rule.TheVariants.{StackTypes}
use Rattle.wa_types.specs.declared.values.ValType.{ValType}
use Rattle.wa_types.specs.declared.values.ValType.TheVariants.{I32}
use Rattle.wa_types.specs.Rules.{number}
use Rattle.wa_types.specs.Syntax.{Plain, Shape, Code, done, plain, nest, branch}
use Rattle.wa_types.specs.Typing.{Around, Sig, moves, leaves, drops, selects, lacks, late, listed, sig, Takes, label, Types, Typed}
use Rattle.wa_types.specs.FirstFault.{mid, size, Meets, UpTo, BodyFault}
use Rattle.wa_types.proofs.SigLemmas.{lawful}
use Rattle.wa_types.proofs.TypingLemmas.{upto_zero, at_upto, typed_upto}
use Rattle.validate_bodies.specs.Running.{may_be, knows, StackAfter, goes, stops, next, Verdict, fine, fault, both, onward, ended, checks, body_verdict}
use Rattle.validate_bodies.proofs.Exact.{Is, Fits, Exact, exact, some_fit, know_fit, know_split, may_is, is_may}

pub takes_meets : (q : ℕ) (s : Sig) (ins outs : List ValType) → Takes s ins outs → Meets q s ins
takes_meets q (moves ps rs) ins outs h = inr (outs, h)
takes_meets q (leaves ps) ins outs h = inr (outs, h)
takes_meets q drops ins outs h = inr (outs, h)
takes_meets q selects ins outs h = inr (outs, h)
takes_meets q (lacks r) ins outs h = absurd h
takes_meets q (late r ps rs) ins outs h = absurd h

by_test : (o : Option ValType) (t : ValType) (os : List (Option ValType)) (free e : Bool) (ts : List ValType) (b : Bool) → b ≡ may_be o t → (if b then e else false) ≡ true
    → (e ≡ true → Fits os free ts) → Is o t × Fits os free ts
by_test o t os free e ts true is h go = (may_is o t (sym is), go h)
by_test o t os free e ts false is h go = cc

ended_fits : (outs : List ValType) (os : List (Option ValType)) (free : Bool) → ended outs os free ≡ true → Fits os free outs
unfolding Fits
ended_fits [] [] true h = tt
ended_fits [] [] false h = refl
ended_fits [] (o ∷ os) free h = cc
ended_fits (t ∷ ts) [] true h = tt
ended_fits (t ∷ ts) [] false h = cc
ended_fits (t ∷ ts) (o ∷ os) free h = by_test o t os free (ended ts os free) ts (may_be o t) refl h (λ f. ended_fits ts os free f)

fits_ended : (outs : List ValType) (os : List (Option ValType)) (free : Bool) → Fits os free outs → ended outs os free ≡ true
unfolding Fits
fits_ended [] [] true h = refl
fits_ended [] [] false h = refl
fits_ended [] (o ∷ os) free h = absurd h
fits_ended (t ∷ ts) [] true h = refl
fits_ended (t ∷ ts) [] false h = cc
fits_ended (t ∷ ts) (o ∷ os) free h = rw (is_may o t h.0) (fits_ended ts os free h.1)

-- A fault at the place j of the code, for the operands that fit.
pub record FaultAt (c : Around) (ls : List (Option ValType)) (code : Code) (outs : List ValType) (os : List (Option ValType)) (free : Bool) (rule j : ℕ) : Type 0 where
  pub inside : j ≤ size code
  pub end : size code ≤ j → rule ≤ number StackTypes
  pub before : (ins : List ValType) × Fits os free ins × UpTo rule c ls code outs ins (suc j)
  pub fails : (ins : List ValType) → Fits os free ins → UpTo (suc rule) c ls code outs ins (suc j) → ⊥

abbrev pub Right : Around → List (Option ValType) → Code → List ValType → List (Option ValType) → Bool → ℕ → Verdict → Type 0
Right c ls code outs os free k fine = (ins : List ValType) × Fits os free ins × Types c ls code outs ins
Right c ls code outs os free k (fault r at) = (j : ℕ) × (at ≡ k + j) × FaultAt c ls code outs os free r j

module _ (c : Around) (ls : List (Option ValType)) (outs : List ValType) (os : List (Option ValType)) (free : Bool) (k : ℕ) where
  right_done : (b : Bool) → b ≡ ended outs os free → Right c ls done outs os free k (if b then fine else fault (number StackTypes) k)
  unfolding UpTo Types size
  right_done true e = (outs, ended_fits outs os free (sym e), refl)
  right_done false e = (
    0,
    omega arith,
    record {
      inside = omega arith;
      end = λ l. omega arith;
      before = (let w = some_fit os free in (w.0, w.1, inl (refl, omega arith)));
      fails = λ ins h u. elim u [
        | inl l ↦ absurd (omega (arith, l.1))
        | inr same ↦ (let f = fits_ended outs os free (subst (Fits os free) same h) in cc)
      ];
    },
  )

  right_plain : (p : Plain) (rest : Code) (n : StackAfter) (go : List (Option ValType) → Bool → Verdict) → Exact (sig c ls p) os free n
      → ((os' : List (Option ValType)) (free' : Bool) → Right c ls rest outs os' free' (suc k) (go os' free')) → Right c ls (plain p rest) outs os free k (onward n k go)
  unfolding UpTo Types size
  right_plain p rest (stops r) go x ih = (
    0,
    omega arith,
    record {
      inside = omega arith;
      end = λ l. absurd (omega arith);
      before = (x.0.0, x.0.1, inl (refl, x.0.2));
      fails = λ ins h u. elim u [
        | inl l ↦ x.1 ins h l.1
        | inr w ↦ x.1 ins h (takes_meets (suc (number r)) (sig c ls p) ins w.0 w.1)
      ];
    },
  )
  right_plain p rest (goes os' free') go x ih = by_verdict (go os' free') (ih os' free')
    where
      by_verdict : (v : Verdict) → Right c ls rest outs os' free' (suc k) v → Right c ls (plain p rest) outs os free k v
      by_verdict fine w = (let y = x.0 w.0 w.1 in (y.0, y.1, (w.0, y.2, w.2)))
      by_verdict (fault r at) w = (
        suc w.0,
        omega arith,
        record {
          inside = omega arith;
          end = λ l. w.2.end (omega arith);
          before = (let y = x.0 w.2.before.0 w.2.before.1 in (y.0, y.1, inr (w.2.before.0, y.2, w.2.before.2)));
          fails = λ ins h u. elim u [
            | inl l ↦ absurd (omega (arith, l.0))
            | inr z ↦ w.2.fails z.0 (x.1 ins z.0 h z.1) z.2
          ];
        },
      )

  right_nest : (s : Shape) (r : Option ValType) (body rest : Code) (v w : Verdict) → Right c (label s r ∷ ls) body (listed r) [] false (suc k) v
      → Right c ls rest outs (knows (listed r) ++ os) free (suc k + (size body + 1)) w → Right c ls (nest s r body rest) outs os free k (both v w)
  unfolding UpTo Types size Fits
  right_nest s r body rest (fault q at) w x y = (
    suc x.0,
    omega arith,
    record {
      inside = (let h = x.2.inside in omega arith);
      end = λ l. absurd (let h = x.2.inside in omega arith);
      before = (let z = some_fit os free in (
        z.0,
        z.1,
        (
          subst (λ (i : List ValType). UpTo q c (label s r ∷ ls) body (listed r) i (suc x.0)) x.2.before.1 x.2.before.2,
          at_upto q c ls rest outs (listed r ++ z.0) 0 (suc x.0 - (size body + 1)) (let h = x.2.inside in omega arith) (upto_zero q c ls rest outs (listed r ++ z.0)),
        ),
      ));
      fails = λ ins h u. x.2.fails [] refl u.0;
    },
  )
  right_nest s r body rest fine fine x y =
      let z = know_split (listed r) os free y.0 y.1 in
      (z.0, z.2, (subst (Types c (label s r ∷ ls) body (listed r)) x.1 x.2, subst (Types c ls rest outs) z.1 y.2))
  right_nest s r body rest fine (fault q at) x y = (
    suc (size body + 1 + y.0),
    omega arith,
    record {
      inside = (let h = y.2.inside in omega arith);
      end = λ l. y.2.end (omega arith);
      before = (let z = know_split (listed r) os free y.2.before.0 y.2.before.1 in (
        z.0,
        z.2,
        (
          typed_upto q c (label s r ∷ ls) body (listed r) [] _ (subst (Types c (label s r ∷ ls) body (listed r)) x.1 x.2),
          at_upto q c ls rest outs (listed r ++ z.0) (suc y.0) (suc (size body + 1 + y.0) - (size body + 1)) (omega arith)
              (subst (λ (i : List ValType). UpTo q c ls rest outs i (suc y.0)) z.1 y.2.before.2),
        ),
      ));
      fails = λ ins h u.
          y.2.fails (listed r ++ ins) (know_fit (listed r) os free ins h)
          (at_upto (suc q) c ls rest outs (listed r ++ ins) (suc (size body + 1 + y.0) - (size body + 1)) (suc y.0) (omega arith) u.1);
    },
  )

-- the else arm, while the then arm isn't over
module _ (q : ℕ) (c : Around) (ls : List (Option ValType)) (outs : List ValType) where
  at_most_one : (n : ℕ) → n ≤ 1 → (1 ≤ n → q ≤ number StackTypes) → UpTo q c ls done outs [] n
  unfolding UpTo
  at_most_one zero h l = tt
  at_most_one (suc zero) h l = inl (refl, l (omega arith))
  at_most_one (suc (suc n)) h l = absurd (omega arith)

  else_waits : (b : Code) (n j : ℕ) → j ≤ n → (n ≤ j → q ≤ number StackTypes) → UpTo q c ls b outs [] (suc j - (n + mid b))
  else_waits done n j h l = at_most_one (suc j - (n + 0)) (omega arith) (λ m. l (omega arith))
  else_waits (plain p rest) n j h l = at_upto q c ls (plain p rest) outs [] 0 (suc j - (n + 1)) (omega arith) (upto_zero q c ls (plain p rest) outs [])
  else_waits (nest s r body rest) n j h l = at_upto q c ls (nest s r body rest) outs [] 0 (suc j - (n + 1)) (omega arith) (upto_zero q c ls (nest s r body rest) outs [])
  else_waits (branch r a b rest) n j h l = at_upto q c ls (branch r a b rest) outs [] 0 (suc j - (n + 1)) (omega arith) (upto_zero q c ls (branch r a b rest) outs [])

module _ (c : Around) (ls : List (Option ValType)) (outs : List ValType) (os : List (Option ValType)) (free : Bool) (k : ℕ) (r : Option ValType) (a b rest : Code)
    (os' : List (Option ValType)) (free' : Bool) (x : Exact (moves (I32 ∷ []) []) os free (goes os' free')) where
  right_arms : (u v w : Verdict) → Right c (r ∷ ls) a (listed r) [] false (suc k) u → Right c (r ∷ ls) b (listed r) [] false (suc k + (size a + mid b)) v
      → Right c ls rest outs (knows (listed r) ++ os') free' (suc k + (size a + mid b + size b + 1)) w → Right c ls (branch r a b rest) outs os free k (both u (both v w))
  unfolding UpTo Types size Fits
  right_arms (fault q at) v w e f g = (
    suc e.0,
    omega arith,
    record {
      inside = (let h = e.2.inside in omega arith);
      end = λ l. absurd (let h = e.2.inside in omega arith);
      before = (let z = some_fit os' free' in let y = x.0 z.0 z.1 in (
        y.0,
        y.1,
        inr (
          y.2.0,
          y.2.1,
          subst (λ (i : List ValType). UpTo q c (r ∷ ls) a (listed r) i (suc e.0)) e.2.before.1 e.2.before.2,
          else_waits q c (r ∷ ls) (listed r) b (size a) e.0 e.2.inside e.2.end,
          at_upto q c ls rest outs (listed r ++ y.2.0) 0 (suc e.0 - (size a + mid b + size b + 1)) (let h = e.2.inside in omega arith) (upto_zero q c ls rest outs (listed r ++ y.2.0)),
        ),
      ));
      fails = λ ins h t. elim t [ inl l ↦ absurd (omega (arith, l.0)) | inr t ↦ e.2.fails [] refl t.2 ];
    },
  )
  right_arms fine (fault q at) w e f g = (
    suc (size a + mid b + f.0),
    omega arith,
    record {
      inside = (let h = f.2.inside in omega arith);
      end = λ l. absurd (let h = f.2.inside in omega arith);
      before = (let z = some_fit os' free' in let y = x.0 z.0 z.1 in (
        y.0,
        y.1,
        inr (
          y.2.0,
          y.2.1,
          typed_upto q c (r ∷ ls) a (listed r) [] _ (subst (Types c (r ∷ ls) a (listed r)) e.1 e.2),
          at_upto q c (r ∷ ls) b (listed r) [] (suc f.0) (suc (size a + mid b + f.0) - (size a + mid b)) (omega arith)
              (subst (λ (i : List ValType). UpTo q c (r ∷ ls) b (listed r) i (suc f.0)) f.2.before.1 f.2.before.2),
          at_upto q c ls rest outs (listed r ++ y.2.0) 0 (suc (size a + mid b + f.0) - (size a + mid b + size b + 1)) (let h = f.2.inside in omega arith)
              (upto_zero q c ls rest outs (listed r ++ y.2.0)),
        ),
      ));
      fails = λ ins h t. elim t [
        | inl l ↦ absurd (omega (arith, l.0))
        | inr t ↦ f.2.fails [] refl (at_upto (suc q) c (r ∷ ls) b (listed r) [] (suc (size a + mid b + f.0) - (size a + mid b)) (suc f.0) (omega arith) t.3)
      ];
    },
  )
  right_arms fine fine fine e f g =
      let z = know_split (listed r) os' free' g.0 g.1 in
      let y = x.0 z.0 z.2 in (
        y.0,
        y.1,
        (
          y.2.0,
          y.2.1,
          subst (Types c (r ∷ ls) a (listed r)) e.1 e.2,
          subst (Types c (r ∷ ls) b (listed r)) f.1 f.2,
          subst (Types c ls rest outs) (z.1 ∙ ap (λ i. listed r ++ i) y.2.2) g.2,
        ),
      )
  right_arms fine fine (fault q at) e f g = (
    suc (size a + mid b + size b + 1 + g.0),
    omega arith,
    record {
      inside = (let h = g.2.inside in omega arith);
      end = λ l. g.2.end (omega arith);
      before = (let z = know_split (listed r) os' free' g.2.before.0 g.2.before.1 in
          let y = x.0 z.0 z.2 in (
            y.0,
            y.1,
            inr (
              y.2.0,
              y.2.1,
              typed_upto q c (r ∷ ls) a (listed r) [] _ (subst (Types c (r ∷ ls) a (listed r)) e.1 e.2),
              typed_upto q c (r ∷ ls) b (listed r) [] _ (subst (Types c (r ∷ ls) b (listed r)) f.1 f.2),
              at_upto q c ls rest outs (listed r ++ y.2.0) (suc g.0) (suc (size a + mid b + size b + 1 + g.0) - (size a + mid b + size b + 1)) (omega arith)
                  (subst (λ (i : List ValType). UpTo q c ls rest outs i (suc g.0)) (z.1 ∙ ap (λ i. listed r ++ i) y.2.2) g.2.before.2),
            ),
          ));
      fails = λ ins h t. elim t [
        | inl l ↦ absurd (omega (arith, l.0))
        | inr t ↦ g.2.fails (listed r ++ t.0) (know_fit (listed r) os' free' t.0 (x.1 ins t.0 h (t.0, t.1, refl)))
            (at_upto (suc q) c ls rest outs (listed r ++ t.0) (suc (size a + mid b + size b + 1 + g.0) - (size a + mid b + size b + 1)) (suc g.0) (omega arith) t.4)
      ];
    },
  )

module _ (c : Around) (ls : List (Option ValType)) (outs : List ValType) (os : List (Option ValType)) (free : Bool) (k : ℕ) (r : Option ValType) (a b rest : Code)
    (arms : List (Option ValType) → Bool → Verdict) where
  right_branch : (n : StackAfter) → Exact (moves (I32 ∷ []) []) os free n → ((os' : List (Option ValType)) (free' : Bool) → Exact (moves (I32 ∷ []) []) os free (goes os' free')
      → Right c ls (branch r a b rest) outs os free k (arms os' free')) → Right c ls (branch r a b rest) outs os free k (onward n k arms)
  unfolding UpTo size
  right_branch (goes os' free') x ih = ih os' free' x
  right_branch (stops q) x ih = (
    0,
    omega arith,
    record {
      inside = omega arith;
      end = λ l. absurd (omega arith);
      before = (x.0.0, x.0.1, inl (refl, x.0.2));
      fails = λ ins h u. elim u [
        | inl l ↦ x.1 ins h l.1
        | inr w ↦ x.1 ins h (takes_meets (suc (number q)) (moves (I32 ∷ []) []) ins w.0 (w.0, w.1, refl))
      ];
    },
  )

-- The validator's verdict on code is its typing, or its first fault.
pub checks_right : (c : Around) (ls : List (Option ValType)) (code : Code) (outs : List ValType) (os : List (Option ValType)) (free : Bool) (k : ℕ)
    → Right c ls code outs os free k (checks c ls code outs os free k)
unfolding checks
checks_right c ls done outs os free k = right_done c ls outs os free k (ended outs os free) refl
checks_right c ls (plain p rest) outs os free k =
    right_plain c ls outs os free k p rest (next (sig c ls p) os free) (λ os' free'. checks c ls rest outs os' free' (suc k)) (exact (sig c ls p) os free (lawful c ls p))
    (λ os' free'. checks_right c ls rest outs os' free' (suc k))
checks_right c ls (nest s r body rest) outs os free k =
    right_nest c ls outs os free k s r body rest _ _ (checks_right c (label s r ∷ ls) body (listed r) [] false (suc k))
    (checks_right c ls rest outs (knows (listed r) ++ os) free (suc k + (size body + 1)))
checks_right c ls (branch r a b rest) outs os free k =
    right_branch c ls outs os free k r a b rest
    (λ os' free'. both (checks c (r ∷ ls) a (listed r) [] false (suc k))
    (both (checks c (r ∷ ls) b (listed r) [] false (suc k + (size a + mid b)))
    (checks c ls rest outs (knows (listed r) ++ os') free' (suc k + (size a + mid b + size b + 1)))))
    (next (moves (I32 ∷ []) []) os free) (exact (moves (I32 ∷ []) []) os free tt)
    (λ os' free' x. right_arms c ls outs os free k r a b rest os' free' x _ _ _
    (checks_right c (r ∷ ls) a (listed r) [] false (suc k))
    (checks_right c (r ∷ ls) b (listed r) [] false (suc k + (size a + mid b)))
    (checks_right c ls rest outs (knows (listed r) ++ os') free' (suc k + (size a + mid b + size b + 1))))

to_typed : (c : Around) (body : Code) → Right c (c.result ∷ []) body (listed c.result) [] false 0 fine → Typed c body
unfolding Fits
to_typed c body h = subst (Types c (c.result ∷ []) body (listed c.result)) h.1 h.2

to_fault : (c : Around) (body : Code) (r at : ℕ) → Right c (c.result ∷ []) body (listed c.result) [] false 0 (fault r at) → BodyFault c body r at
unfolding Fits
to_fault c body r at h =
    let e : h.0 ≡ at = omega (arith, h.1) in
    record {
      before = subst (λ (n : ℕ). UpTo r c (c.result ∷ []) body (listed c.result) [] (suc n)) e
          (subst (λ (i : List ValType). UpTo r c (c.result ∷ []) body (listed c.result) i (suc h.0)) h.2.before.1 h.2.before.2);
      fails = λ u. h.2.fails [] refl (subst (λ (n : ℕ). UpTo (suc r) c (c.result ∷ []) body (listed c.result) [] (suc n)) (sym e) u);
    }

right_at : (c : Around) (body : Code) (v : Verdict) → body_verdict c body ≡ v → Right c (c.result ∷ []) body (listed c.result) [] false 0 v
right_at c body v e = subst (Right c (c.result ∷ []) body (listed c.result) [] false 0) e (checks_right c (c.result ∷ []) body (listed c.result) [] false 0)

-- a body that passes is typed
pub passes_typed : (c : Around) (body : Code) → body_verdict c body ≡ fine → Typed c body
passes_typed c body e = to_typed c body (right_at c body fine e)

-- one that doesn't has that first fault
pub fails_fault : (c : Around) (body : Code) (r at : ℕ) → body_verdict c body ≡ fault r at → BodyFault c body r at
fails_fault c body r at e = to_fault c body r at (right_at c body (fault r at) e)
