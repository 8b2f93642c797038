-- Two machines, the second of which makes each move of the first by quiet moves, one that makes its events, and quiet ones.
use Rattle.std.proofs.Common.{◌≡◌, ◌∙◌, ℕ, zero, suc, ◌+◌, ◌-◌, ◌*◌, ◌≤◌, ◌<◌, List, [], ◌∷◌, ◌++◌, map, refl, sym, ap, subst, ⊎_elim, arith}
use Rattle.std.specs.List.{sum}
use Rattle.std.proofs.lemmas.Bool.{cases_lt}
use Rattle.std.proofs.lemmas.List.{map-append}
use Rattle.wa_model.specs.Machine.{Turn, stops, goes, Ran, after, run, CostsMore}
use Rattle.wa_model.specs.Blocking.{Note, State, events_of, store_of}
use Rattle.wa_model.specs.Outside.{Event}
use Rattle.wa_model.specs.Store.{Store}
use Rattle.run_theory.specs.Touches.{trace, Seen, seen_at, seen_note, made}
use Rattle.run_theory.proofs.Runs.{one_move, too_dear, no_move}
use Rattle.run_laws.proofs.Seeing.{one_seen, no_further}
use Rattle.std.proofs.lemmas.List.Sums.{sum_by-append, sum_by-cons}

no_sum : (es : List Note) → sum (map (λ (x : Note). 0) es) ≡ 0
no_sum [] = refl
no_sum (e ∷ es) = let ih = no_sum es in let c = sum_by-cons (λ n. n) 0 (map (λ (x : Note). 0) es) in omega arith

pub events_on : (xs ys : List Note) → events_of (xs ++ ys) ≡ events_of xs ++ events_of ys
events_on xs ys = map-append (λ (x : Note). x.event) xs ys

-- what is seen of notes goes by their events
seen_alike : (xs ys : List Note) → events_of xs ≡ events_of ys → map seen_note xs ≡ map seen_note ys
seen_alike xs ys e = sym (by_event xs) ∙ ap made_all e ∙ by_event ys
  where
    made_all : List Event → List Seen
    made_all es = map made es

    by_event : (zs : List Note) → made_all (events_of zs) ≡ map seen_note zs
    by_event [] = refl
    by_event (z ∷ zs) = ap (λ rest. seen_note z ∷ rest) (by_event zs)

-- ---- one machine

module _ (next : State → Turn State Note) where
  abbrev seen : ℕ → State → List Seen
  seen n s = trace next seen_at seen_note n s

  -- what a run makes and sees, and where it stands
  pub record Shows (n : ℕ) (s : State) (es : List Note) (xs : List Seen) (st : Store) : Type 0 where
    pub events : events_of (run next n s).events ≡ events_of es
    pub touches : seen n s ≡ xs
    pub store : store_of (run next n s).last ≡ st

  pub too_few : (k n : ℕ) (es : List Note) (s t : State) → next s ≡ goes k es t → n ≤ k → Shows n s [] [] (store_of s)
  too_few k n es s t e le = record {
    events = ap (λ (r : Ran State Note). events_of r.events) (too_dear State Note next k n es s t e le);
    touches = no_further next seen_at seen_note s n (subst (CostsMore n) (sym e) le);
    store = ap (λ (r : Ran State Note). store_of r.last) (too_dear State Note next k n es s t e le);
  }

  pub none_made : (n : ℕ) (s : State) → next s ≡ stops → Shows n s [] [] (store_of s)
  none_made n s e = record {
    events = ap (λ (r : Ran State Note). events_of r.events) (no_move State Note next n s e);
    touches = no_further next seen_at seen_note s n (subst (CostsMore n) (sym e) tt);
    store = ap (λ (r : Ran State Note). store_of r.last) (no_move State Note next n s e);
  }

  pub at_zero : (s : State) → Shows 0 s [] [] (store_of s)
  at_zero s = record { events = refl; touches = refl; store = refl }

  pub one_on : (k n : ℕ) (es : List Note) (s t : State) (fs : List Note) (xs : List Seen) (st : Store) → next s ≡ goes k es t → Shows n t fs xs st
      → Shows (suc k + n) s (es ++ fs) (seen_at s ++ (map seen_note es ++ xs)) st
  one_on k n es s t fs xs st e sh =
      let z : suc k + n ≡ suc (k + n) = omega arith in
      let ran : run next (suc k + n) s ≡ after es (run next n t) = ap (λ j. run next j s) z ∙ one_move State Note next k n es s t e in
      record {
        events = ap (λ (r : Ran State Note). events_of r.events) ran ∙ events_on es (run next n t).events ∙ ap (λ vs. events_of es ++ vs) sh.events ∙ sym (events_on es fs);
        touches = one_seen next seen_at seen_note s t k n es e ∙ ap (λ ys. seen_at s ++ (map seen_note es ++ ys)) sh.touches;
        store = ap (λ (r : Ran State Note). store_of r.last) ran ∙ sh.store;
      }

  pub same_shows : (n m : ℕ) (s : State) (es : List Note) (xs ys : List Seen) (st : Store) → n ≡ m → xs ≡ ys → Shows n s es xs st → Shows m s es ys st
  same_shows n m s es xs ys st e f sh = subst (λ k. Shows k s es ys st) e (subst (λ zs. Shows n s es zs st) f sh)

-- ---- the second machine

module _ (nb : State → Turn State Note) (lean_at : State → List ℕ) where
  abbrev pub lean : ℕ → State → ℕ
  lean n s = sum (trace nb lean_at (λ (x : Note). 0) n s)

  pub lean_on : (k n : ℕ) (es : List Note) (s t : State) → nb s ≡ goes k es t → lean (suc k + n) s ≡ sum (lean_at s) + lean n t
  lean_on k n es s t e =
      let a = ap sum (one_seen nb lean_at (λ (x : Note). 0) s t k n es e) in
      let b = sum_by-append (λ n. n) (lean_at s) (map (λ (x : Note). 0) es ++ trace nb lean_at (λ (x : Note). 0) n t) in
      let d = sum_by-append (λ n. n) (map (λ (x : Note). 0) es) (trace nb lean_at (λ (x : Note). 0) n t) in
      let f = no_sum es in
      omega arith

  -- moves of this cost, and of this lean cost at least, that make no events, touch nothing and leave the store
  pub data Quiet : State → (cost few : ℕ) → State → Type 0 where
    q_none : {s : State} → Quiet s 0 0 s
    q_one : {s t u : State} {k n l cost few : ℕ} → nb s ≡ goes k [] t → seen_at s ≡ [] → store_of t ≡ store_of s → (here : ℕ) → here ≤ sum (lean_at s) → Quiet t n l u
        → cost ≡ suc k + n → few ≡ here + l → Quiet s cost few u

  -- behind them
  pub quiet_on : (s u : State) (cost few n : ℕ) (fs : List Note) (xs : List Seen) (st : Store) → Quiet s cost few u → Shows nb n u fs xs st → Shows nb (cost + n) s fs xs st
  quiet_on s _ _ _ n fs xs st q_none sh = let z : n ≡ 0 + n = omega arith in same_shows nb n (0 + n) s fs xs xs st z refl sh
  quiet_on s u _ _ n fs xs st (q_one {t = t} {k = k} {n = j} {l = l} e sees keeps here le q ec el) sh =
      let on = one_on nb k (j + n) [] s t fs xs st e (quiet_on t u j l n fs xs st q sh) in
      same_shows nb (suc k + (j + n)) _ s fs (seen_at s ++ ([] ++ xs)) xs st (omega arith) (ap (λ ys. ys ++ xs) sees) on

  pub quiet_lean : (s u : State) (cost few n : ℕ) → Quiet s cost few u → few + lean n u ≤ lean (cost + n) s
  quiet_lean s _ _ _ n q_none = let z : lean n s ≡ lean (0 + n) s = ap (λ k. lean k s) (nothing n) in omega arith
    where
      nothing : (n : ℕ) → n ≡ 0 + n
      nothing n = omega arith
  quiet_lean s u _ _ n (q_one {t = t} {k = k} {n = j} {l = l} {cost = cost} e sees keeps here le q ec el) =
      let ih = quiet_lean t u j l n q in
      let on = lean_on k (j + n) [] s t e in
      let z : suc k + (j + n) ≡ cost + n = omega arith in
      let same = ap (λ i. lean i s) z in
      omega arith

  -- among them
  pub quiet_within : (s u : State) (cost few n : ℕ) → Quiet s cost few u → n < cost → Shows nb n s [] [] (store_of s)
  quiet_within s _ _ _ n q_none lt = absurd (omega arith)
  quiet_within s u _ _ n (q_one {t = t} {k = k} {n = j} {l = l} e sees keeps here le q ec el) lt =
      ⊎_elim
      (λ dear. too_few nb k n [] s t e (omega arith))
      (λ paid.
      let ih = quiet_within t u j l (n - suc k) q (omega arith) in
      let on = one_on nb k (n - suc k) [] s t [] [] (store_of t) e ih in
      subst (Shows nb n s [] []) keeps (same_shows nb (suc k + (n - suc k)) n s [] (seen_at s ++ ([] ++ [])) [] (store_of t) (omega arith) (ap (λ ys. ys ++ []) sees) on))
      (cases_lt n (suc k))

  pub quiet_store : (s u : State) (cost few : ℕ) → Quiet s cost few u → store_of u ≡ store_of s
  quiet_store s _ _ _ q_none = refl
  quiet_store s u _ _ (q_one {t = t} {n = j} {l = l} e sees keeps here le q ec el) = quiet_store t u j l q ∙ keeps

  -- ---- both machines

  module _ (na : State → Turn State Note) (R : State → State → Type 0) where
    -- How the second makes a move of the first that costs `suc k`.
    pub record Match (k : ℕ) (es : List Note) (a a' b : State) : Type 0 where
      pub n1 : ℕ
      pub l1 : ℕ
      pub mid : State
      pub before : Quiet b n1 l1 mid
      pub j : ℕ
      pub fs : List Note
      pub after_it : State
      pub acts : nb mid ≡ goes j fs after_it
      pub sees : seen_at mid ≡ seen_at a
      pub alike : events_of fs ≡ events_of es
      pub here : ℕ
      pub counted : here ≤ sum (lean_at mid)
      pub n2 : ℕ
      pub l2 : ℕ
      pub to : State
      pub behind : Quiet after_it n2 l2 to
      pub least : suc k ≤ l1 + here
      pub most : n1 + suc j + n2 ≤ 16 * suc k
      pub rel : R a' to

    pub record Follows : Type 0 where
      pub store : (a b : State) → R a b → store_of b ≡ store_of a
      pub stop : (a b : State) → R a b → na a ≡ stops → nb b ≡ stops
      pub move : (a b : State) (k : ℕ) (es : List Note) (a' : State) → R a b → na a ≡ goes k es a' → Match k es a a' b

    -- both show the same
    pub record Alike (a b : State) (i n : ℕ) : Type 0 where
      pub es : List Note
      pub fs : List Note
      pub xs : List Seen
      pub st : Store
      pub first : Shows na i a es xs st
      pub second : Shows nb n b fs xs st
      pub events : events_of fs ≡ events_of es

    none_yet : (a b : State) (n : ℕ) → store_of b ≡ store_of a → Shows nb n b [] [] (store_of b) → Alike a b 0 n
    none_yet a b n e sh = record { es = []; fs = []; xs = []; st = store_of a; first = at_zero na a; second = subst (Shows nb n b [] []) e sh; events = refl }

    module _ (f : Follows) where
      -- the acting move and what stands behind it
      past : (a a' b : State) (k : ℕ) (es : List Note) → na a ≡ goes k es a' → (mt : Match k es a a' b) → (i n : ℕ) → Alike a' mt.after_it i n → Alike a b (suc k + i) (mt.n1 + (suc mt.j + n))
      past a a' b k es e mt i n al =
          let one = one_on na k i es a a' al.es al.xs al.st e al.first in
          let two = quiet_on b mt.mid mt.n1 mt.l1 (suc mt.j + n) (mt.fs ++ al.fs) (seen_at mt.mid ++ (map seen_note mt.fs ++ al.xs)) al.st mt.before
          (one_on nb mt.j n mt.fs mt.mid mt.after_it al.fs al.xs al.st mt.acts al.second) in
          let same : seen_at mt.mid ++ (map seen_note mt.fs ++ al.xs) ≡ seen_at a ++ (map seen_note es ++ al.xs) =
          ap (λ ys. ys ++ (map seen_note mt.fs ++ al.xs)) mt.sees ∙ ap (λ ys. seen_at a ++ (ys ++ al.xs)) (seen_alike mt.fs es mt.alike) in
          record {
            es = es ++ al.es;
            fs = mt.fs ++ al.fs;
            xs = seen_at a ++ (map seen_note es ++ al.xs);
            st = al.st;
            first = one;
            second = same_shows nb (mt.n1 + (suc mt.j + n)) (mt.n1 + (suc mt.j + n)) b (mt.fs ++ al.fs) _ _ al.st refl same two;
            events = events_on mt.fs al.fs ∙ ap (λ vs. vs ++ events_of al.fs) mt.alike ∙ ap (λ vs. events_of es ++ vs) al.events ∙ sym (events_on es al.es);
          }

      -- what stands behind it, at the end
      through : (a' b u : State) (cost few i n : ℕ) → Quiet b cost few u → Alike a' u i n → Alike a' b i (cost + n)
      through a' b u cost few i n q al = record { es = al.es; fs = al.fs; xs = al.xs; st = al.st; first = al.first; second = quiet_on b u cost few n al.fs al.xs al.st q al.second; events = al.events }

      move_lean : (a a' b : State) (k : ℕ) (es : List Note) (mt : Match k es a a' b) (n : ℕ) → suc k + lean n mt.after_it ≤ lean (mt.n1 + (suc mt.j + n)) b
      move_lean a a' b k es mt n =
          let x = quiet_lean b mt.mid mt.n1 mt.l1 (suc mt.j + n) mt.before in
          let y = lean_on mt.j n mt.fs mt.mid mt.after_it mt.acts in
          let c = mt.counted in
          let l = mt.least in
          omega arith

      -- at each cost of the second the first stands alike, at no more than the lean cost
      pub follows : (fuel n : ℕ) (a b : State) → R a b → n ≤ fuel → (i : ℕ) × (i ≤ lean n b) × Alike a b i n
      follows fuel n a b r le = by_fuel fuel n a b r le
        where
          early : (n : ℕ) (a a' b : State) (k : ℕ) (es : List Note) → R a b → (mt : Match k es a a' b) → n < mt.n1 + suc mt.j → Shows nb n b [] [] (store_of b)
          early n a a' b k es r mt lt =
              ⊎_elim
              (λ before. quiet_within b mt.mid mt.n1 mt.l1 n mt.before before)
              (λ at_it.
              let z : mt.n1 + (n - mt.n1) ≡ n = omega arith in
              let sh = quiet_on b mt.mid mt.n1 mt.l1 (n - mt.n1) [] [] (store_of mt.mid) mt.before (too_few nb mt.j (n - mt.n1) mt.fs mt.mid mt.after_it mt.acts (omega arith)) in
              subst (Shows nb n b [] []) (quiet_store b mt.mid mt.n1 mt.l1 mt.before) (subst (λ k. Shows nb k b [] [] (store_of mt.mid)) z sh))
              (cases_lt n mt.n1)

          later : (n : ℕ) (a a' b : State) (k : ℕ) (es : List Note) → na a ≡ goes k es a' → (mt : Match k es a a' b) → (m : ℕ) → mt.n1 + (suc mt.j + m) ≡ n
              → (i : ℕ) × (i ≤ lean m mt.after_it) × Alike a' mt.after_it i m → (i : ℕ) × (i ≤ lean n b) × Alike a b i n
          later n a a' b k es e mt m em got =
              let l = move_lean a a' b k es mt m in
              let same = ap (λ j. lean j b) em in
              let few = got.1 in
              (suc k + got.0, omega arith, subst (Alike a b (suc k + got.0)) em (past a a' b k es e mt got.0 m got.2))

          -- behind the acting move
          behind : (a a' b : State) (k : ℕ) (es : List Note) (mt : Match k es a a' b) (m : ℕ) → m < mt.n2 → (i : ℕ) × (i ≤ lean m mt.after_it) × Alike a' mt.after_it i m
          behind a a' b k es mt m lt =
              let s : store_of mt.after_it ≡ store_of a' = sym (quiet_store mt.after_it mt.to mt.n2 mt.l2 mt.behind) ∙ f.store a' mt.to mt.rel in
              (0, omega arith, none_yet a' mt.after_it m s (quiet_within mt.after_it mt.to mt.n2 mt.l2 m mt.behind lt))

          beyond : (a a' b : State) (k : ℕ) (es : List Note) (mt : Match k es a a' b) (m : ℕ) → mt.n2 ≤ m → (i : ℕ) × (i ≤ lean (m - mt.n2) mt.to) × Alike a' mt.to i (m - mt.n2)
              → (i : ℕ) × (i ≤ lean m mt.after_it) × Alike a' mt.after_it i m
          beyond a a' b k es mt m le got =
              let z : mt.n2 + (m - mt.n2) ≡ m = omega arith in
              let l = quiet_lean mt.after_it mt.to mt.n2 mt.l2 (m - mt.n2) mt.behind in
              let same = ap (λ j. lean j mt.after_it) z in
              let few = got.1 in
              (got.0, omega arith, subst (Alike a' mt.after_it got.0) z (through a' mt.after_it mt.to mt.n2 mt.l2 got.0 (m - mt.n2) mt.behind got.2))

          by_turn : (fuel n : ℕ) (a b : State) → R a b → n ≤ suc fuel → ((n' : ℕ) (a' b' : State) → R a' b' → n' ≤ fuel → (i : ℕ) × (i ≤ lean n' b') × Alike a' b' i n')
              → (o : Turn State Note) → na a ≡ o
              → (i : ℕ) × (i ≤ lean n b) × Alike a b i n
          by_turn fuel n a b r le ih stops e = (0, omega arith, none_yet a b n (f.store a b r) (none_made nb n b (f.stop a b r e)))
          by_turn fuel n a b r le ih (goes k es a') e =
              let mt = f.move a b k es a' r e in
              ⊎_elim
              (λ lt. (0, omega arith, none_yet a b n (f.store a b r) (early n a a' b k es r mt lt)))
              (λ ge.
              let m : ℕ = n - (mt.n1 + suc mt.j) in
              let z : mt.n1 + (suc mt.j + m) ≡ n = omega arith in
              later n a a' b k es e mt m z
              (⊎_elim
              (λ lt2. behind a a' b k es mt m lt2)
              (λ ge2. beyond a a' b k es mt m (omega arith) (ih (m - mt.n2) a' mt.to mt.rel (omega arith)))
              (cases_lt m mt.n2)))
              (cases_lt n (mt.n1 + suc mt.j))

          by_fuel : (fuel n : ℕ) (a b : State) → R a b → n ≤ fuel → (i : ℕ) × (i ≤ lean n b) × Alike a b i n
          by_fuel zero n a b r le =
              let z : 0 ≡ n = omega arith in
              subst (λ k. (i : ℕ) × (i ≤ lean k b) × Alike a b i k) z (0, omega arith, none_yet a b 0 (f.store a b r) (at_zero nb b))
          by_fuel (suc fuel) n a b r le = by_turn fuel n a b r le (λ n' a' b' r' h. by_fuel fuel n' a' b' r' h) (na a) refl

      -- at each cost of the first the second stands alike, at 16 times it at most
      pub reaches : (fuel i : ℕ) (a b : State) → R a b → i ≤ fuel → (n : ℕ) × (n ≤ 16 * i) × Alike a b i n
      reaches fuel i a b r le = by_fuel fuel i a b r le
        where
          few : (i : ℕ) (a b : State) → R a b → Shows na i a [] [] (store_of a) → (n : ℕ) × (n ≤ 16 * i) × Alike a b i n
          few i a b r sh =
              (0, omega arith, record { es = []; fs = []; xs = []; st = store_of a; first = sh; second = subst (Shows nb 0 b [] []) (f.store a b r) (at_zero nb b); events = refl })

          by_turn : (fuel i : ℕ) (a b : State) → R a b → i ≤ suc fuel → ((i' : ℕ) (a' b' : State) → R a' b' → i' ≤ fuel → (n : ℕ) × (n ≤ 16 * i') × Alike a' b' i' n) → (o : Turn State Note) → na a ≡ o
              → (n : ℕ) × (n ≤ 16 * i) × Alike a b i n
          by_turn fuel i a b r le ih stops e = few i a b r (none_made na i a e)
          by_turn fuel i a b r le ih (goes k es a') e =
              ⊎_elim
              (λ lt. few i a b r (too_few na k i es a a' e (omega arith)))
              (λ ge.
              let mt = f.move a b k es a' r e in
              let got = ih (i - suc k) a' mt.to mt.rel (omega arith) in
              let z : suc k + (i - suc k) ≡ i = omega arith in
              let most = mt.most in
              let small = got.1 in (
                mt.n1 + (suc mt.j + (mt.n2 + got.0)),
                omega arith,
                subst (λ j. Alike a b j (mt.n1 + (suc mt.j + (mt.n2 + got.0)))) z
                    (past a a' b k es e mt (i - suc k) (mt.n2 + got.0) (through a' mt.after_it mt.to mt.n2 mt.l2 (i - suc k) got.0 mt.behind got.2)),
              ))
              (cases_lt i (suc k))

          by_fuel : (fuel i : ℕ) (a b : State) → R a b → i ≤ fuel → (n : ℕ) × (n ≤ 16 * i) × Alike a b i n
          by_fuel zero i a b r le =
              let z : 0 ≡ i = omega arith in
              subst (λ k. (n : ℕ) × (n ≤ 16 * k) × Alike a b k n) z (few 0 a b r (at_zero na a))
          by_fuel (suc fuel) i a b r le = by_turn fuel i a b r le (λ i' a' b' r' h. by_fuel fuel i' a' b' r' h) (na a) refl
