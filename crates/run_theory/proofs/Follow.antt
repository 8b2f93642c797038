-- One machine follows another: each move of A is matched by some moves of B that cost no less. What B has to spare from
-- earlier moves may pay for a later one.
use Rattle.std.proofs.Common.{◌≡◌, ℕ, zero, suc, ◌+◌, ◌-◌, ◌*◌, ◌≤◌, ◌<◌, List, [], ◌∷◌, ◌++◌, refl, sym, ap, ◌∙◌, subst, ⊎_elim, arith}
use Rattle.std.proofs.lemmas.Bool.{cases_lt}
use Rattle.wa_model.specs.Machine.{Turn, stops, goes, Ran, run, Leads, stays}
use Rattle.run_theory.proofs.Runs.{one_move, too_dear, no_move, leads_run, leads_on}

-- the second list is related to a beginning of the first
abbrev pub Begins : {A B : Type 0} → (A → B → Type 0) → List A → List B → Type 0
Begins Q xs [] = Unit {0}
Begins Q [] (y ∷ ys) = ⊥
Begins Q (x ∷ xs) (y ∷ ys) = Q x y × Begins Q xs ys

abbrev pub Alike : {A B : Type 0} → (A → B → Type 0) → List A → List B → Type 0
Alike Q [] [] = Unit {0}
Alike Q [] (y ∷ ys) = ⊥
Alike Q (x ∷ xs) [] = ⊥
Alike Q (x ∷ xs) (y ∷ ys) = Q x y × Alike Q xs ys

pub alike_on : {A B : Type 0} (Q : A → B → Type 0) (xs xs' : List A) (ys ys' : List B) → Alike Q xs ys → Alike Q xs' ys' → Alike Q (xs ++ xs') (ys ++ ys')
alike_on Q [] xs' [] ys' h g = g
alike_on Q [] xs' (y ∷ ys) ys' h g = absurd h
alike_on Q (x ∷ xs) xs' [] ys' h g = absurd h
alike_on Q (x ∷ xs) xs' (y ∷ ys) ys' h g = (h.0, alike_on Q xs xs' ys ys' h.1 g)

pub begins_on : {A B : Type 0} (Q : A → B → Type 0) (xs xs' : List A) (ys ys' : List B) → Alike Q xs ys → Begins Q xs' ys' → Begins Q (xs ++ xs') (ys ++ ys')
begins_on Q [] xs' [] ys' h g = g
begins_on Q [] xs' (y ∷ ys) ys' h g = absurd h
begins_on Q (x ∷ xs) xs' [] ys' h g = absurd h
begins_on Q (x ∷ xs) xs' (y ∷ ys) ys' h g = (h.0, begins_on Q xs xs' ys ys' h.1 g)

-- a beginning of a longer list
pub begins_more : {A B : Type 0} (Q : A → B → Type 0) (xs xs' : List A) (ys : List B) → Begins Q xs ys → Begins Q (xs ++ xs') ys
begins_more Q xs xs' [] h = tt
begins_more Q [] xs' (y ∷ ys) h = absurd h
begins_more Q (x ∷ xs) xs' (y ∷ ys) h = (h.0, begins_more Q xs xs' ys h.1)

pub begins_alike : {A B : Type 0} (Q : A → B → Type 0) (xs : List A) (ys : List B) → Alike Q xs ys → Begins Q xs ys
begins_alike Q [] [] h = tt
begins_alike Q [] (y ∷ ys) h = absurd h
begins_alike Q (x ∷ xs) [] h = tt
begins_alike Q (x ∷ xs) (y ∷ ys) h = (h.0, begins_alike Q xs ys h.1)

split_on : {A : Type 0} (xs ys : List A) (x : A) → xs ++ x ∷ ys ≡ (xs ++ x ∷ []) ++ ys
split_on [] ys x = refl
split_on (y ∷ xs) ys x = ap (λ zs. y ∷ zs) (split_on xs ys x)

module _ (SA SB EA EB : Type 0) (na : SA → Turn SA EA) (nb : SB → Turn SB EB) (R : (n spare : ℕ) → SA → SB → Type 0) (Q : EA → EB → Type 0) (dear : List EA → ℕ) (Sees : SA → SB → Type 0)
    (Sees_at : List EA → EA → SB → Type 0) where
  -- Where B stands within a match: it has made the events of A before the move, or all of the move, or those up to one of its
  -- events. What is seen there may depend on those before it.
  pub data On_way (k : ℕ) (es : List EA) (a a' : SA) (m : ℕ) (r : Ran SB EB) : Type 0 where
    not_yet : r.events ≡ [] → Sees a r.last → On_way k es a a' m r
    all_made : suc k ≤ m → Alike Q es r.events → Sees a' r.last → On_way k es a a' m r
    up_to : (es1 es2 : List EA) (x : EA) → suc k ≤ m → es ≡ es1 ++ x ∷ es2 → Alike Q (es1 ++ x ∷ []) r.events → Sees_at es1 x r.last → On_way k es a a' m r

  -- as long as nothing is made
  abbrev pub Waits : SA → SB → ℕ → Type 0
  Waits a b m = ((run nb m b).events ≡ []) × Sees a (run nb m b).last

  -- How B makes one move of A that costs `suc k`, and where it stands at each lower cost. It may spend what is spare, and
  -- leaves something.
  pub record Match (n spare k : ℕ) (es : List EA) (a a' : SA) (b : SB) : Type 0 where
    pub cost : ℕ
    pub left : ℕ
    pub events : List EB
    pub to : SB
    pub leads : Leads nb b cost events to
    pub no_less : suc k ≤ cost
    pub bound : cost + left ≤ 256 * suc k + dear es + spare
    pub alike : Alike Q es events
    pub rel : R (n - suc k) left a' to
    pub on_way : (m : ℕ) → m < cost → On_way k es a a' m (run nb m b)

  -- R n spare: as long as A has cost up to n left, and B so much to spare
  pub record Follows : Type 0 where
    pub less : (n k spare : ℕ) (a : SA) (b : SB) → R n spare a b → k ≤ n → R k spare a b
    pub stop : (n spare : ℕ) (a : SA) (b : SB) → R n spare a b → na a ≡ stops → (m : ℕ) → m ≤ n → Waits a b m
    pub slow : (n spare k : ℕ) (es : List EA) (a' a : SA) (b : SB) → R n spare a b → na a ≡ goes k es a' → n ≤ k → (m : ℕ) → m ≤ n → Waits a b m
    pub move : (n spare : ℕ) (a : SA) (b : SB) (k : ℕ) (es : List EA) (a' : SA) → R n spare a b → na a ≡ goes k es a' → suc k ≤ n → Match n spare k es a a' b

  -- nothing is made before the move of A is paid
  quiet : (k : ℕ) (es : List EA) (a a' : SA) (m : ℕ) (r : Ran SB EB) → On_way k es a a' m r → m ≤ k → r.events ≡ []
  quiet k es a a' m r (not_yet none sees) le = none
  quiet k es a a' m r (all_made ge al sees) le = absurd (omega arith)
  quiet k es a a' m r (up_to es1 es2 x ge split al sees) le = absurd (omega arith)

  -- and no more than its events later
  early : (k : ℕ) (es : List EA) (a a' : SA) (m : ℕ) (r : Ran SB EB) → On_way k es a a' m r → Begins Q es r.events
  early k es a a' m r (not_yet none sees) = rw none tt
  early k es a a' m r (all_made ge al sees) = begins_alike Q es r.events al
  early k es a a' m r (up_to es1 es2 x ge split al sees) =
      subst (λ xs. Begins Q xs r.events) (sym (split ∙ split_on es1 es2 x)) (begins_more Q (es1 ++ x ∷ []) es2 r.events (begins_alike Q (es1 ++ x ∷ []) r.events al))

  module _ (f : Follows) (dear_on : (es fs : List EA) → dear (es ++ fs) ≡ dear es + dear fs) (dear_none : dear [] ≡ 0) where
    run_a : (k m : ℕ) (es : List EA) (a a' : SA) → na a ≡ goes k es a' → suc k ≤ m → (run na m a).events ≡ es ++ (run na (m - suc k) a').events
    run_a k m es a a' e le =
        let z : m ≡ suc (k + (m - suc k)) = omega arith in
        ap (λ n. (run na n a).events) z ∙ ap (λ r. r.events) (one_move SA EA na k (m - suc k) es a a' e)

    run_b : (j n : ℕ) (fs : List EB) (b b' : SB) → Leads nb b j fs b' → j ≤ n → (run nb n b).events ≡ fs ++ (run nb (n - j) b').events
    run_b j n fs b b' l le =
        let z : n ≡ j + (n - j) = omega arith in
        ap (λ n. (run nb n b).events) z ∙ ap (λ r. r.events) (leads_run SB EB nb b b' j (n - j) fs l)

    -- within one move of A
    within : (n m k : ℕ) (es : List EA) (a a' : SA) (b : SB) → na a ≡ goes k es a' → {w v : ℕ} → (mt : Match w v k es a a' b) → n ≤ m → n < mt.cost → Begins Q (run na m a).events (run nb n b).events
    within n m k es a a' b e mt le lt =
        ⊎_elim
        (λ dear. let z = quiet k es a a' n (run nb n b) (mt.on_way n lt) (omega arith) in rw z tt)
        (λ paid. let z = run_a k m es a a' e (omega arith) in rw z (begins_more Q es (run na (m - suc k) a').events (run nb n b).events (early k es a a' n (run nb n b) (mt.on_way n lt))))
        (cases_lt n (suc k))

    beyond : (n m k : ℕ) (es : List EA) (a a' : SA) (b : SB) → na a ≡ goes k es a' → {w v : ℕ} → (mt : Match w v k es a a' b) → n ≤ m → mt.cost ≤ n
        → Begins Q (run na (m - suc k) a').events (run nb (n - mt.cost) mt.to).events → Begins Q (run na m a).events (run nb n b).events
    beyond n m k es a a' b e mt le ge ih =
        let le' = mt.no_less in
        let za = run_a k m es a a' e (omega arith) in
        let zb = run_b mt.cost n mt.events b mt.to mt.leads ge in
        rw (za, zb) (begins_on Q es (run na (m - suc k) a').events mt.events (run nb (n - mt.cost) mt.to).events mt.alike ih)

    -- what B makes within n begins what A makes within m, for each m from n on
    pub back : (fuel n m spare : ℕ) (a : SA) (b : SB) → R n spare a b → n ≤ fuel → n ≤ m → Begins Q (run na m a).events (run nb n b).events
    back zero n m spare a b r le le2 =
        let z : n ≡ 0 = omega arith in
        let none : (run nb n b).events ≡ [] = ap (λ k. (run nb k b).events) z in
        rw none tt
    back (suc fuel) n m spare a b r le le2 = by_turn (λ n' m' spare' a' b' r' h h2. back fuel n' m' spare' a' b' r' h h2) (na a) refl
      where
        by_turn : ((n' m' spare' : ℕ) (a' : SA) (b' : SB) → R n' spare' a' b' → n' ≤ fuel → n' ≤ m' → Begins Q (run na m' a').events (run nb n' b').events) → (o : Turn SA EA) → na a ≡ o
            → Begins Q (run na m a).events (run nb n b).events
        by_turn ih stops e = let z = (f.stop n spare a b r e n (omega arith)).0 in rw z tt
        by_turn ih (goes k es a') e =
            ⊎_elim
            (λ few. let z = (f.slow n spare k es a' a b r e (omega arith) n (omega arith)).0 in rw z tt)
            (λ enough.
            let mt = f.move n spare a b k es a' r e enough in
            let pos = mt.no_less in
            ⊎_elim
            (λ lt. within n m k es a a' b e mt le2 lt)
            (λ ge. beyond n m k es a a' b e mt le2 ge (ih (n - mt.cost) (m - suc k) mt.left a' mt.to (f.less (n - suc k) (n - mt.cost) mt.left a' mt.to mt.rel (omega arith)) (omega arith)
            (omega arith)))
            (cases_lt n mt.cost))
            (cases_lt n (suc k))

    -- what A makes within n B makes within 256 n, what its events cost, and what is spare
    abbrev pub Reaches : (n spare : ℕ) → SA → SB → Type 0
    Reaches n spare a b = (j : ℕ) × (fs : List EB) × (b' : SB) × Leads nb b j fs b' × (j ≤ 256 * n + dear (run na n a).events + spare) × Alike Q (run na n a).events fs

    pub forth : (fuel n spare : ℕ) (a : SA) (b : SB) → R n spare a b → n ≤ fuel → Reaches n spare a b
    forth zero n spare a b r le =
        let z : n ≡ 0 = omega arith in
        let none : (run na n a).events ≡ [] = ap (λ k. (run na k a).events) z in
        (0, [], b, stays, omega arith, rw none tt)
    forth (suc fuel) n spare a b r le = by_turn (λ n' spare' a' b' r' h. forth fuel n' spare' a' b' r' h) (na a) refl
      where
        by_turn : ((n' spare' : ℕ) (a' : SA) (b' : SB) → R n' spare' a' b' → n' ≤ fuel → Reaches n' spare' a' b') → (o : Turn SA EA) → na a ≡ o → Reaches n spare a b
        by_turn ih stops e =
            let none : (run na n a).events ≡ [] = ap (λ r. r.events) (no_move SA EA na n a e) in
            (0, [], b, stays, omega arith, rw none tt)
        by_turn ih (goes k es a') e =
            ⊎_elim
            (λ lt.
            let none : (run na n a).events ≡ [] = ap (λ r. r.events) (too_dear SA EA na k n es a a' e (omega arith)) in
            (0, [], b, stays, omega arith, rw none tt))
            (λ ge.
            let mt = f.move n spare a b k es a' r e ge in
            let on = ih (n - suc k) mt.left a' mt.to mt.rel (omega arith) in
            let z = run_a k n es a a' e ge in
            let d = ap dear z ∙ dear_on es (run na (n - suc k) a').events in (
              mt.cost + on.0,
              mt.events ++ on.1,
              on.2,
              leads_on SB EB nb b mt.to on.2 mt.cost on.0 mt.events on.1 mt.leads on.3,
              omega (arith, mt.bound, on.4, d),
              rw z (alike_on Q es (run na (n - suc k) a').events mt.events on.1 mt.alike on.5),
            ))
            (cases_lt n (suc k))
