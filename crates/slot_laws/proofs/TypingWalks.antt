-- Walks as `Typing` makes them go as the typing of operands goes.
use Rattle.std.proofs.Common.{arith, ◌≡◌, ◌-◌, ◌++◌, inl, inr, List, [], ◌∷◌, length, take, drop, Option, refl, sym, ap, ◌∙◌, subst}
use Rattle.std.proofs.lemmas.List.{take_at, drop_at, length-append}
use Rattle.wa_types.specs.declared.values.ValType.{ValType}
use Rattle.wa_types.specs.Syntax.{Code, done, plain, nest, branch}
use Rattle.wa_types.specs.Typing.{Around, Types, label, listed}
use Rattle.wa_types.specs.Points.{AtPoint}
use Rattle.wasm_validate.specs.Walk.{Walk, TypedAt, Stays, Inside, left_at}
use Rattle.slot_laws.specs.WalkPoints.{Walked, at_outset, behind_plain, behind_nest, behind_branch, into_nest, into_arm, into_else}
use Rattle.slot_laws.specs.TypingWalks.{first_of, rest_of, GoesOn, OpensTo, result_of, Entered, StandsBefore, started, advanced, entered, restarted, left_behind, TypingStandsAtPoints}
use Rattle.slot_laws.proofs.WalkPoints.{walks_at_points}

-- the operands of the construct around stand apart from those below them
split_take : (xs ys : List ValType) → take (length (xs ++ ys) - length ys) (xs ++ ys) ≡ xs
split_take xs ys = take_at xs ys _ (let n = length-append xs ys in omega (arith, n))

split_drop : (xs ys : List ValType) → drop (length (xs ++ ys) - length ys) (xs ++ ys) ≡ ys
split_drop xs ys = drop_at xs ys _ (let n = length-append xs ys in omega (arith, n))

walk_is : (v w : Walk) → Stays v w → record { around = v.around; labels = v.labels; own = w.own; under = v.under } ≡ w
walk_is v w s =
    ap (λ a. record { around = a; labels = v.labels; own = w.own; under = v.under }) (sym s.around)
    ∙ ap (λ l. record { around = w.around; labels = l; own = w.own; under = v.under }) (sym s.labels)
    ∙ ap (λ u. record { around = w.around; labels = w.labels; own = w.own; under = u }) (sym s.under)

module _ (c : Around) (start : Code) where
  abbrev Goes : Code → Walk → Type 0
  Goes code w = (w.around ≡ c) × Walked c start w.labels code w.own w.under

  -- the labels and the operands below of a walk inside the construct that this code begins with
  abbrev InsideOf : Code → Walk → Walk → Type 0
  InsideOf (nest s r body rest) v w = (w.labels ≡ label s r ∷ v.labels) × (w.under ≡ v.own ++ v.under)
  InsideOf (branch r a b rest) v w = (w.labels ≡ r ∷ v.labels) × (w.under ≡ drop 1 v.own ++ v.under)
  InsideOf _ v w = ⊥

  abbrev Into : List Entered → Walk → Type 0
  Into [] w = Unit {0}
  Into (e ∷ into) w = Goes e.code e.before × TypedAt e.before (first_of e.code) × InsideOf e.code e.before w × Into into e.before

  abbrev Good : List Entered → Code → Walk → Type 0
  Good into code w = Goes code w × Into into w

  -- a walk of the same labels over the same operands below is inside the same constructs
  into_same : (into : List Entered) (v : Walk) (own : List ValType) → Into into v → Into into (record { around = v.around; labels = v.labels; own = own; under = v.under })
  into_same [] v own h = tt
  into_same (e ∷ into) v own h = (h.0, h.1, same e.code h.2, h.3)
    where
      same : (k : Code) → InsideOf k e.before v → InsideOf k e.before (record { around = v.around; labels = v.labels; own = own; under = v.under })
      same (nest s r body rest) i = i
      same (branch r a b rest) i = i
      same done i = i
      same (plain p rest) i = i

  advance_walked : (code : Code) (v : Walk) (own : List ValType) → v.around ≡ c → Walked c start v.labels code v.own v.under → GoesOn code
      → Types v.around v.labels (first_of code) own v.own → Walked c start v.labels (rest_of code) own v.under
  advance_walked done v own a h on t = absurd on
  advance_walked (plain p rest) v own a h on t = behind_plain p own h on (subst (λ d. Types d v.labels (plain p done) own v.own) a t)
  advance_walked (nest s r body rest) v own a h on t = behind_nest s r body own h (subst (λ d. Types d v.labels (nest s r body done) own v.own) a t)
  advance_walked (branch r x y rest) v own a h on t = behind_branch r x y own h (subst (λ d. Types d v.labels (branch r x y done) own v.own) a t)

  good : (into : List Entered) (code : Code) (w : Walk) → StandsBefore c start into code w → Good into code w
  unfolding Types
  good _ _ _ started = ((refl, at_outset), tt)
  good into _ _ (advanced {code} {v} w h typed on stays t) =
      let g = good into code v h in
      let moved : Good into (rest_of code) (record { around = v.around; labels = v.labels; own = w.own; under = v.under }) =
      ((g.0.0, advance_walked code v w.own g.0.0 g.0.1 on t), into_same into v w.own g.1) in
      subst (Good into (rest_of code)) (walk_is v w stays) moved
  good _ _ _ (entered {into} {code} {v} body w h typed opens inside) = enter_good code body w (good into code v h) typed opens inside
    where
      enter_good : (k body : Code) (w : Walk) → Good into k v → TypedAt v (first_of k) → OpensTo k body → Inside v (first_of k) w → Good (record { before = v; code = k } ∷ into) body w
      enter_good done body w g t o i = absurd o
      enter_good (plain p rest) body w g t o i = absurd o
      enter_good (nest s r inner rest) body w g t o i =
          let at : Good (record { before = v; code = nest s r inner rest } ∷ into) body (record { around = v.around; labels = label s r ∷ v.labels; own = []; under = v.own ++ v.under }) =
          ((g.0.0, subst (λ k. Walked c start (label s r ∷ v.labels) k [] (v.own ++ v.under)) (sym o) (into_nest s r rest g.0.1)), (g.0, t, (refl, refl), g.1)) in
          subst (Good (record { before = v; code = nest s r inner rest } ∷ into) body) (sym i) at
      enter_good (branch r a b rest) body w g t o i =
          let typed : Types c v.labels (branch r a b done) t.0 v.own = subst (λ d. Types d v.labels (branch r a b done) t.0 v.own) g.0.0 t.1 in
          let walked : Walked c start (r ∷ v.labels) body [] (drop 1 v.own ++ v.under) =
          elim o [
            | inl e ↦ subst (λ k. Walked c start (r ∷ v.labels) k [] (drop 1 v.own ++ v.under)) (sym e) (into_arm r b rest t.0 g.0.1 typed)
            | inr e ↦ subst (λ k. Walked c start (r ∷ v.labels) k [] (drop 1 v.own ++ v.under)) (sym e) (into_else r a rest t.0 g.0.1 typed)
          ] in
          let at : Good (record { before = v; code = branch r a b rest } ∷ into) body (record { around = v.around; labels = r ∷ v.labels; own = []; under = drop 1 v.own ++ v.under }) =
          ((g.0.0, walked), (g.0, t, (refl, refl), g.1)) in
          subst (Good (record { before = v; code = branch r a b rest } ∷ into) body) (sym i) at
  good _ _ _ (restarted {into} {e} {code} {v} body h opens) =
      let g = good (e ∷ into) code v h in
      ((g.0.0, again e.code e.before g.1.0 g.1.1 g.1.2 opens), into_same (e ∷ into) v [] g.1)
    where
      placed : (ls : List (Option ValType)) (under : List ValType) → v.labels ≡ ls → v.under ≡ under → Walked c start ls body [] under → Walked c start v.labels body [] v.under
      placed ls under e f w = subst (λ l. Walked c start l body [] v.under) (sym e) (subst (λ u. Walked c start ls body [] u) (sym f) w)

      again : (k : Code) (u : Walk) → Goes k u → TypedAt u (first_of k) → InsideOf k u v → OpensTo k body → Walked c start v.labels body [] v.under
      again done u g t i o = absurd o
      again (plain p rest) u g t i o = absurd o
      again (nest s r inner rest) u g t i o =
          placed (label s r ∷ u.labels) (u.own ++ u.under) i.0 i.1 (subst (λ k. Walked c start (label s r ∷ u.labels) k [] (u.own ++ u.under)) (sym o) (into_nest s r rest g.1))
      again (branch r a b rest) u g t i o =
          let typed : Types c u.labels (branch r a b done) t.0 u.own = subst (λ d. Types d u.labels (branch r a b done) t.0 u.own) g.0 t.1 in
          placed (r ∷ u.labels) (drop 1 u.own ++ u.under) i.0 i.1 (elim o [
            | inl e ↦ subst (λ k. Walked c start (r ∷ u.labels) k [] (drop 1 u.own ++ u.under)) (sym e) (into_arm r b rest t.0 g.1 typed)
            | inr e ↦ subst (λ k. Walked c start (r ∷ u.labels) k [] (drop 1 u.own ++ u.under)) (sym e) (into_else r a rest t.0 g.1 typed)
          ])
  good _ _ _ (left_behind {into} {e} {code} {v} h) =
      let g = good (e ∷ into) code v h in
      behind e.code e.before g.0.0 g.1.0 g.1.1 g.1.2 g.1.3
    where
      -- where the operands of the construct around are again its own
      left_is : (u : Walk) (l : Option ValType) (own : List ValType) (r : Option ValType) → v.labels ≡ l ∷ u.labels → v.under ≡ own ++ u.under
          → record { around = v.around; labels = u.labels; own = listed r ++ own; under = u.under } ≡ left_at r (length u.under) v
      left_is u l own r e f =
          let labels : u.labels ≡ drop 1 v.labels = sym (ap (drop 1) e) in
          let mine : own ≡ take (length v.under - length u.under) v.under = sym (ap (λ xs. take (length xs - length u.under) xs) f ∙ split_take own u.under) in
          let below : u.under ≡ drop (length v.under - length u.under) v.under = sym (ap (λ xs. drop (length xs - length u.under) xs) f ∙ split_drop own u.under) in
          ap (λ ls. record { around = v.around; labels = ls; own = listed r ++ own; under = u.under }) labels
          ∙ ap (λ xs. record { around = v.around; labels = drop 1 v.labels; own = listed r ++ xs; under = u.under }) mine
          ∙ ap (λ xs. record { around = v.around; labels = drop 1 v.labels; own = listed r ++ take (length v.under - length u.under) v.under; under = xs }) below

      moved : (k : Code) (u : Walk) (l : Option ValType) (own new : List ValType) (r : Option ValType) → v.around ≡ c → Goes k u → v.labels ≡ l ∷ u.labels → v.under ≡ own ++ u.under
          → new ≡ listed r ++ own → Walked c start u.labels (rest_of k) new u.under → Into into u → Good into (rest_of k) (left_at r (length u.under) v)
      moved k u l own new r a g e f z w o =
          let here : Good into (rest_of k) (record { around = u.around; labels = u.labels; own = listed r ++ own; under = u.under }) =
          ((g.0, subst (λ xs. Walked c start u.labels (rest_of k) xs u.under) z w), into_same into u (listed r ++ own) o) in
          let there : Good into (rest_of k) (record { around = v.around; labels = u.labels; own = listed r ++ own; under = u.under }) =
          subst (λ d. Good into (rest_of k) (record { around = d; labels = u.labels; own = listed r ++ own; under = u.under })) (g.0 ∙ sym a) here in
          subst (Good into (rest_of k)) (left_is u l own r e f) there

      behind : (k : Code) (u : Walk) → v.around ≡ c → Goes k u → TypedAt u (first_of k) → InsideOf k u v → Into into u → Good into (rest_of k) (left_at (result_of k) (length u.under) v)
      behind done u a g t i o = absurd i
      behind (plain p rest) u a g t i o = absurd i
      behind (nest s r inner rest) u a g t i o =
          moved (nest s r inner rest) u (label s r) u.own t.0 r a g i.0 i.1 (sym t.1.1)
          (behind_nest s r inner t.0 g.1 (subst (λ d. Types d u.labels (nest s r inner done) t.0 u.own) g.0 t.1)) o
      behind (branch r x y rest) u a g t i o =
          let below : drop 1 u.own ≡ t.1.0 = ap (drop 1) t.1.1 in
          moved (branch r x y rest) u r (drop 1 u.own) t.0 r a g i.0 i.1 (sym t.1.4 ∙ ap (λ xs. listed r ++ xs) (sym below))
          (behind_branch r x y t.0 g.1 (subst (λ d. Types d u.labels (branch r x y done) t.0 u.own) g.0 t.1)) o

pub typing_at_points : TypingStandsAtPoints
typing_at_points c start into code w types h e =
    let g = good c start into code w h in
    (g.0.1, subst (AtPoint c (c.result ∷ []) start [] []) (sym e) (walks_at_points c start w.labels code w.own w.under g.0.1))
