-- Of two machines, of which one follows the other, where one is over the other is.
use Rattle.std.proofs.Common.{arith, ◌≡◌, ◌<◌, ◌≤◌, ℕ, zero, suc, ◌+◌, ◌-◌, ◌⊎◌, inl, inr, List, [], ◌∷◌, ◌++◌, length, Bool, true, false, refl, sym, ap, ◌∙◌, subst, append-nil, length-append, ⊎_elim}
use Rattle.std.proofs.lemmas.Bool.{cases_lt}
use Rattle.run_theory.proofs.Follow.{Alike, Follows, Match}
use Rattle.run_theory.proofs.Runs.{leads_run, no_move, one_move, run_is_run, too_dear}
use Rattle.wa_model.specs.Machine.{IsRun, Turn, stops, goes, Ran, after, still, run, Leads, stays, moves}

true_or_false : (x : Bool) → (x ≡ true) ⊎ (x ≡ false)
true_or_false true = inl refl
true_or_false false = inr refl

never_both : {C : Type 0} (x : Bool) → x ≡ true → x ≡ false → C
never_both x t f = let e : true ≡ false = sym t ∙ f in let no_way : ⊥ = cc in absurd no_way

none_left : {E : Type 0} (xs : List E) → length xs ≡ 0 → xs ≡ []
none_left [] e = refl
none_left (x ∷ xs) e = let no_way : ⊥ = omega (arith, e) in absurd no_way

front_none : {E : Type 0} (xs ys : List E) → xs ++ ys ≡ [] → xs ≡ []
front_none [] ys e = refl
front_none (x ∷ xs) ys e = let no_way : ⊥ = cc in absurd no_way

pub alike_long : {A B : Type 0} (Q : A → B → Type 0) (xs : List A) (ys : List B) → Alike Q xs ys → length xs ≡ length ys
alike_long Q [] [] h = refl
alike_long Q [] (y ∷ ys) h = absurd h
alike_long Q (x ∷ xs) [] h = absurd h
alike_long Q (x ∷ xs) (y ∷ ys) h = ap suc (alike_long Q xs ys h.1)

-- ---- one machine, that tells something where it ends

-- whether a machine goes on, which it does as long as it tells nothing
pub record EndsTold (S E : Type 0) (next : S → Turn S E) (on : S → Bool) : Type 0 where
  pub over_stops : (s : S) → on s ≡ false → next s ≡ stops
  pub quiet : (s t : S) (k : ℕ) → on s ≡ true → next s ≡ goes k [] t → on t ≡ true

module _ (S E : Type 0) (next : S → Turn S E) (on : S → Bool) (told : EndsTold S E next on) where
  leads_quiet : (s t : S) (n : ℕ) (es : List E) → Leads next s n es t → es ≡ [] → on s ≡ true → on t ≡ true
  leads_quiet s _ _ _ stays none h = h
  leads_quiet s t n es (moves {t = v} {k = k} {n = m} {es = xs} {fs = ys} e rest c q) none h =
      let both : xs ++ ys ≡ [] = sym q ∙ none in
      let first : xs ≡ [] = front_none xs ys both in
      let second : ys ≡ [] = sym (ap (λ (z : List E). z ++ ys) first) ∙ both in
      leads_quiet v t m ys rest second (told.quiet s v k h (e ∙ ap (λ (z : List E). goes k z v) first))

  pub run_quiet : (n : ℕ) (s : S) → (run next n s).events ≡ [] → on s ≡ true → on (run next n s).last ≡ true
  run_quiet n s none h =
      let ir : IsRun next n s (run next n s) = run_is_run S E next n n s (omega arith) in
      leads_quiet s (run next n s).last ir.cost (run next n s).events ir.leads none h

  pub run_over : (n : ℕ) (s : S) → on s ≡ false → run next n s ≡ still s
  run_over n s h = no_move S E next n s (told.over_stops s h)

  -- a run that has gone so far
  pub run_split : (n more : ℕ) (s : S) → (j : ℕ) × (j ≤ n) × (run next (n + more) s ≡ after (run next n s).events (run next ((n - j) + more) (run next n s).last))
  run_split n more s =
      let ir : IsRun next n s (run next n s) = run_is_run S E next n n s (omega arith) in
      let le = ir.within in
      let z : n + more ≡ ir.cost + ((n - ir.cost) + more) = omega arith in
      (ir.cost, le, ap (λ j. run next j s) z ∙ leads_run S E next s (run next n s).last ir.cost ((n - ir.cost) + more) (run next n s).events ir.leads)

  pub last_over : (n more : ℕ) (s : S) → on (run next n s).last ≡ false → (run next (n + more) s).last ≡ (run next n s).last
  last_over n more s h =
      let r = run_split n more s in
      ap (λ (q : Ran S E). q.last) r.2 ∙ ap (λ (q : Ran S E). q.last) (run_over ((n - r.0) + more) (run next n s).last h)

-- ---- two machines

module _ (SA SB EA EB : Type 0) (na : SA → Turn SA EA) (nb : SB → Turn SB EB) (R : (n spare : ℕ) → SA → SB → Type 0) (Q : EA → EB → Type 0) (dear : List EA → ℕ) (Sees : SA → SB → Type 0)
    (Sees_at : List EA → EA → SB → Type 0) (f : Follows SA SB EA EB na nb R Q dear Sees Sees_at) (on_a : SA → Bool) (on_b : SB → Bool) (ta : EndsTold SA EA na on_a) (tb : EndsTold SB EB nb on_b)
    (agree : (n spare : ℕ) (a : SA) (b : SB) → R n spare a b → on_a a ≡ on_b b) where
  abbrev Matched : (n spare k : ℕ) → List EA → SA → SA → SB → Type 0
  Matched = Match SA SB EA EB na nb R Q dear Sees Sees_at

  run_a : (k m : ℕ) (es : List EA) (a a' : SA) → na a ≡ goes k es a' → suc k ≤ m → run na m a ≡ after es (run na (m - suc k) a')
  run_a k m es a a' e le =
      let z : m ≡ suc (k + (m - suc k)) = omega arith in
      ap (λ n. run na n a) z ∙ one_move SA EA na k (m - suc k) es a a' e

  run_b : (j n : ℕ) (fs : List EB) (b b' : SB) → Leads nb b j fs b' → j ≤ n → run nb n b ≡ after fs (run nb (n - j) b')
  run_b j n fs b b' l le =
      let z : n ≡ j + (n - j) = omega arith in
      ap (λ n. run nb n b) z ∙ leads_run SB EB nb b b' j (n - j) fs l

  -- where a match leads
  leads_there : (j : ℕ) (fs : List EB) (b b' : SB) → Leads nb b j fs b' → run nb j b ≡ after fs (still b')
  leads_there j fs b b' l =
      let z : j ≡ j + 0 = omega arith in
      ap (λ n. run nb n b) z ∙ leads_run SB EB nb b b' j 0 fs l

  -- what makes nothing isn't over
  not_over : {C : Type 0} (n : ℕ) (b : SB) → on_b b ≡ true → (run nb n b).events ≡ [] → on_b (run nb n b).last ≡ false → C
  not_over n b h none over = never_both (on_b (run nb n b).last) (run_quiet SB EB nb on_b tb n b none h) over

  a_is_over : (m k : ℕ) (es : List EA) (a a' : SA) → na a ≡ goes k es a' → suc k ≤ m → on_a a' ≡ false → on_a (run na m a).last ≡ false
  a_is_over m k es a a' e le over =
      ap (λ (q : Ran SA EA). on_a q.last) (run_a k m es a a' e le) ∙ ap (λ (q : Ran SA EA). on_a q.last) (run_over SA EA na on_a ta (m - suc k) a' over) ∙ over

  at_end : (m n spare : ℕ) (a : SA) (b : SB) → R m spare a b → on_b b ≡ false → on_a (run na m a).last ≡ false
  at_end m n spare a b r h =
      let over : on_a a ≡ false = agree m spare a b r ∙ h in
      ap (λ (q : Ran SA EA). on_a q.last) (run_over SA EA na on_a ta m a over) ∙ over

  -- where the second is over within n, the first is within m, for each m from n on
  pub over_back : (fuel m n spare : ℕ) (a : SA) (b : SB) → R m spare a b → n ≤ fuel → n ≤ m → on_b (run nb n b).last ≡ false → on_a (run na m a).last ≡ false
  over_back zero m n spare a b r le le2 over =
      let z : n ≡ 0 = omega arith in
      at_end m n spare a b r (subst (λ k. on_b (run nb k b).last ≡ false) z over)
  over_back (suc fuel) m n spare a b r le le2 over =
      ⊎_elim (λ goes_on. by_turn (λ m' n' spare' a' b' r' h h2 o. over_back fuel m' n' spare' a' b' r' h h2 o) goes_on (na a) refl) (λ ended. at_end m n spare a b r ended) (true_or_false (on_b b))
    where
      by_turn : ((m' n' spare' : ℕ) (a' : SA) (b' : SB) → R m' spare' a' b' → n' ≤ fuel → n' ≤ m' → on_b (run nb n' b').last ≡ false → on_a (run na m' a').last ≡ false)
          → on_b b ≡ true → (o : Turn SA EA) → na a ≡ o → on_a (run na m a).last ≡ false
      by_turn ih h stops e = not_over n b h (f.stop m spare a b r e n le2).0 over
      by_turn ih h (goes k es a') e =
          ⊎_elim
          (λ few. not_over n b h (f.slow m spare k es a' a b r e (omega arith) n le2).0 over)
          (λ enough. by_match (f.move m spare a b k es a' r e enough) enough)
          (cases_lt m (suc k))
        where
          by_match : Matched m spare k es a a' b → suc k ≤ m → on_a (run na m a).last ≡ false
          by_match mt enough =
              let pos = mt.no_less in
              ⊎_elim
              (λ lt.
              let z : n + (mt.cost - n) ≡ mt.cost = omega arith in
              let there : mt.to ≡ (run nb n b).last =
              ap (λ (q : Ran SB EB). q.last) (sym (ap (λ j. run nb j b) z ∙ leads_there mt.cost mt.events b mt.to mt.leads)) ∙ last_over SB EB nb on_b tb n (mt.cost - n) b over in
              a_is_over m k es a a' e enough (agree (m - suc k) mt.left a' mt.to mt.rel ∙ ap on_b there ∙ over))
              (λ ge.
              let rb = run_b mt.cost n mt.events b mt.to mt.leads ge in
              let on = ih (m - suc k) (n - mt.cost) mt.left a' mt.to mt.rel (omega arith) (omega arith) (sym (ap (λ (q : Ran SB EB). on_b q.last) rb) ∙ over) in
              ap (λ (q : Ran SA EA). on_a q.last) (run_a k m es a a' e enough) ∙ on)
              (cases_lt n mt.cost)

  b_at_end : (m n spare : ℕ) (a : SA) (b : SB) → R m spare a b → on_a a ≡ false → on_b (run nb n b).last ≡ false
  b_at_end m n spare a b r h =
      let over : on_b b ≡ false = sym (agree m spare a b r) ∙ h in
      ap (λ (q : Ran SB EB). on_b q.last) (run_over SB EB nb on_b tb n b over) ∙ over

  -- where the first is over, and the second has made as much, so is the second
  pub over_forth : (fuel m n spare : ℕ) (a : SA) (b : SB) → R m spare a b → m ≤ fuel → on_a (run na m a).last ≡ false → length (run na m a).events ≡ length (run nb n b).events
      → on_b (run nb n b).last ≡ false
  over_forth zero m n spare a b r le over same =
      let z : m ≡ 0 = omega arith in
      b_at_end m n spare a b r (subst (λ k. on_a (run na k a).last ≡ false) z over)
  over_forth (suc fuel) m n spare a b r le over same =
      ⊎_elim (λ goes_on. by_turn (λ m' n' spare' a' b' r' h o s. over_forth fuel m' n' spare' a' b' r' h o s) goes_on (na a) refl) (λ ended. b_at_end m n spare a b r ended) (true_or_false (on_a a))
    where
      by_turn : ((m' n' spare' : ℕ) (a' : SA) (b' : SB) → R m' spare' a' b' → m' ≤ fuel → on_a (run na m' a').last ≡ false
          → length (run na m' a').events ≡ length (run nb n' b').events → on_b (run nb n' b').last ≡ false)
          → on_a a ≡ true → (o : Turn SA EA) → na a ≡ o → on_b (run nb n b).last ≡ false
      by_turn ih h stops e = never_both (on_a a) h (sym (ap (λ (q : Ran SA EA). on_a q.last) (no_move SA EA na m a e)) ∙ over)
      by_turn ih h (goes k es a') e =
          ⊎_elim
          (λ few. never_both (on_a a) h (sym (ap (λ (q : Ran SA EA). on_a q.last) (too_dear SA EA na k m es a a' e (omega arith))) ∙ over))
          (λ enough. by_match (f.move m spare a b k es a' r e enough) enough)
          (cases_lt m (suc k))
        where
          by_match : Matched m spare k es a a' b → suc k ≤ m → on_b (run nb n b).last ≡ false
          by_match mt enough =
              let pos = mt.no_less in
              let made = run_a k m es a a' e enough in
              let over_a : on_a (run na (m - suc k) a').last ≡ false = sym (ap (λ (q : Ran SA EA). on_a q.last) made) ∙ over in
              let long_a : length (run na m a).events ≡ length es + length (run na (m - suc k) a').events =
              ap (λ (q : Ran SA EA). length q.events) made ∙ length-append es (run na (m - suc k) a').events in
              let alike : length es ≡ length mt.events = alike_long Q es mt.events mt.alike in
              ⊎_elim
              (λ lt. within mt lt over_a long_a alike)
              (λ ge.
              let rb = run_b mt.cost n mt.events b mt.to mt.leads ge in
              let long_b : length (run nb n b).events ≡ length mt.events + length (run nb (n - mt.cost) mt.to).events =
              ap (λ (q : Ran SB EB). length q.events) rb ∙ length-append mt.events (run nb (n - mt.cost) mt.to).events in
              let on = ih (m - suc k) (n - mt.cost) mt.left a' mt.to mt.rel (omega arith) over_a (omega (arith, same, long_a, long_b, alike)) in
              ap (λ (q : Ran SB EB). on_b q.last) rb ∙ on)
              (cases_lt n mt.cost)
            where
              within : (mt : Matched m spare k es a a' b) → n < mt.cost → on_a (run na (m - suc k) a').last ≡ false
                  → length (run na m a).events ≡ length es + length (run na (m - suc k) a').events → length es ≡ length mt.events → on_b (run nb n b).last ≡ false
              within mt lt over_a long_a alike =
                  let z : n + (mt.cost - n) ≡ mt.cost = omega arith in
                  let sp = run_split SB EB nb on_b tb n (mt.cost - n) b in
                  let more = (n - sp.0) + (mt.cost - n) in
                  let all : after mt.events (still mt.to) ≡ after (run nb n b).events (run nb ((n - sp.0) + (mt.cost - n)) (run nb n b).last) =
                  sym (ap (λ j. run nb j b) z ∙ leads_there mt.cost mt.events b mt.to mt.leads) ∙ sp.2 in
                  let long_b : length mt.events ≡ length (run nb n b).events + length (run nb ((n - sp.0) + (mt.cost - n)) (run nb n b).last).events =
                  ap length (sym (append-nil mt.events)) ∙ ap (λ (q : Ran SB EB). length q.events) all
                  ∙ length-append (run nb n b).events (run nb ((n - sp.0) + (mt.cost - n)) (run nb n b).last).events in
                  let quiet_a : (run na (m - suc k) a').events ≡ [] = none_left (run na (m - suc k) a').events (omega (arith, same, long_a, long_b, alike)) in
                  let quiet_b : (run nb ((n - sp.0) + (mt.cost - n)) (run nb n b).last).events ≡ [] =
                  none_left (run nb ((n - sp.0) + (mt.cost - n)) (run nb n b).last).events (omega (arith, same, long_a, long_b, alike)) in
                  let off_a : on_a a' ≡ false =
                  ⊎_elim (λ h. never_both (on_a (run na (m - suc k) a').last) (run_quiet SA EA na on_a ta (m - suc k) a' quiet_a h) over_a) (λ h. h) (true_or_false (on_a a')) in
                  let off_to : on_b mt.to ≡ false = sym (agree (m - suc k) mt.left a' mt.to mt.rel) ∙ off_a in
                  ⊎_elim
                  (λ h. never_both (on_b mt.to)
                  (ap (λ (q : Ran SB EB). on_b q.last) all ∙ run_quiet SB EB nb on_b tb ((n - sp.0) + (mt.cost - n)) (run nb n b).last quiet_b h) off_to)
                  (λ h. h) (true_or_false (on_b (run nb n b).last))
