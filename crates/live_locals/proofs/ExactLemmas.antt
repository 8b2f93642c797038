-- What is kept at calls, told exactly.
use Rattle.std.proofs.Common.{◌≡◌, ◌∙◌, ℕ, zero, suc, ◌-◌, ◌+◌, ◌<◌, ◌≤◌, ◌↔◌, ◌⊎◌, inl, inr, List, [], ◌∷◌, ◌++◌, length, map, get_or, Option, Some, None, Bool, true, false, ◌||◌, All, refl, sym, ap, arith, subst}
use Rattle.std.specs.Prelude.{if◌then◌else◌, nat_eq, slice_get}
use Rattle.std.specs.List.{list_any}
use Rattle.std.proofs.lemmas.Bool.{cases_eq, eqb-true, eq-eqb, ne_eqb}
use Rattle.std.proofs.lemmas.List.{append-nil}
use Rattle.wa_types.specs.Syntax.{basic, local_get, local_set, local_tee, br_if, br_table, call, call_indirect, a_block, a_loop, Code, done, plain, branch}
use Rattle.wa_types.specs.Liveness.{Label, goes_behind, goes_again, Position, position, behind_calls, live, told, live_at}
use Rattle.wa_types.proofs.LiveLemmas.{live_reads, reads_live}
use Rattle.wa_model.specs.declared.flat.Operand.{Operand}
use Rattle.wa_model.specs.declared.flat.Operand.TheVariants.{Local, Const}
use Rattle.run_theory.specs.Flat.{Stmts, no_more, computes, copies, calls, leaps, leaps_if, leaps_by, nests, decides, halts, FlatFunc, followed_by, got, all_got, set_to, slots_got, last_of, code_of, result_got, body_of}
use Rattle.run_theory.specs.FlatFits.{IsCallCode}
use Rattle.guard_form.specs.Grouping.{is_place}
use Rattle.flat_laws.specs.FlatModule.{stacks_in}
use Rattle.flat_laws.specs.Behind.{Among}
use Rattle.flow_rewrite.specs.Emitting.{Rises}
use Rattle.live_locals.specs.Ops.{IsComputation, OpsFit}
use Rattle.live_locals.specs.Rows.{kept, chosen}
use Rattle.live_locals.specs.LiveAt.{KeepsAt}
use Rattle.live_locals.proofs.CodeLemmas.{live_slots}

-- ---- places that rise

-- they rise, and none is below n
abbrev Up : ℕ → List ℕ → Type 0
Up n [] = Unit {0}
Up n (q ∷ qs) = (n ≤ q) × Up (suc q) qs

up_less : (m n : ℕ) (qs : List ℕ) → m ≤ n → Up n qs → Up m qs
up_less m n [] le h = tt
up_less m n (q ∷ qs) le h = (let a = h.0 in omega (arith, a, le), h.1)

-- a place below all of them is none of them
none_below : (n p : ℕ) (qs : List ℕ) → p < n → Up n qs → is_place qs p ≡ false
none_below n p [] lt h = refl
none_below n p (q ∷ qs) lt h =
    let a = h.0 in ap (λ b. b || is_place qs p) (ne_eqb q p (λ e. absurd (omega (arith, a, lt, e)))) ∙ none_below (suc q) p qs (omega (arith, a, lt)) h.1

rises_tail : (q : ℕ) (qs : List ℕ) → Rises (q ∷ qs) → Rises qs
rises_tail q qs h i j lt l = h (suc i) (suc j) (omega (arith, lt)) (omega (arith, l))

up_of : (n : ℕ) (qs : List ℕ) → Rises qs → ((d : ℕ) → 0 < length qs → n ≤ get_or qs 0 d) → Up n qs
up_of n [] h f = tt
up_of n (q ∷ qs) h f = (f 0 (omega arith), up_of (suc q) qs (rises_tail q qs h) (next qs h))
  where
    next : (rs : List ℕ) → Rises (q ∷ rs) → (d : ℕ) → 0 < length rs → suc q ≤ get_or rs 0 d
    next [] g d l = absurd (omega (arith, l))
    next (r ∷ rs) g d l = g 0 1 (omega arith) (omega arith)

pub up_first : (qs : List ℕ) → Rises qs → Up 0 qs
up_first qs h = up_of 0 qs h (λ d l. omega arith)

module _ {X : Type 0} (ns : List ℕ) (d : X) where
  map_next : (n : ℕ) (x : X) (xs : List X) (qs : List ℕ) → Up (suc n) qs → map (λ p. get_or xs (p - suc n) d) qs ≡ map (λ p. get_or (x ∷ xs) (p - n) d) qs
  map_next n x xs [] u = refl
  map_next n x xs (q ∷ qs) u =
      let a = u.0 in let z : q - n ≡ suc (q - suc n) = omega (arith, a) in
      (λ i. (ap (λ k. get_or (x ∷ xs) k d) (sym z)) i ∷ map_next n x xs qs (up_less (suc n) (suc q) qs (omega (arith, a)) u.1) i)

  -- the chosen items are those at the numbers from here on
  chosen_from : (n : ℕ) (xs : List X) (qs : List ℕ) → Up n qs → All (λ q. q < n + length xs) qs → ((p : ℕ) → n ≤ p → is_place ns p ≡ is_place qs p)
      → chosen ns n xs ≡ map (λ p. get_or xs (p - n) d) qs
  chosen_from n [] [] u b s = refl
  chosen_from n [] (q ∷ qs) u b s = let a = u.0 in let c = b 0 0 (omega arith) in absurd (omega (arith, a, c))
  chosen_from n (x ∷ xs) [] u b s =
      ap (λ c. if c then x ∷ chosen ns (suc n) xs else chosen ns (suc n) xs) (s n (omega arith)) ∙ chosen_from (suc n) xs [] tt (λ i z l. absurd (omega (arith, l))) (λ p le. s p (omega (arith, le)))
  chosen_from n (x ∷ xs) (q ∷ qs) u b s =
      by (cases_eq q n) (λ v d2 t. chosen_from (suc n) xs qs v d2 t) (λ v d2 t. chosen_from (suc n) xs (q ∷ qs) v d2 t)
    where
      by : (q ≡ n) ⊎ (q ≡ n → ⊥)
          → (Up (suc n) qs → All (λ r. r < suc n + length xs) qs → ((p : ℕ) → suc n ≤ p → is_place ns p ≡ is_place qs p) → chosen ns (suc n) xs ≡ map (λ p. get_or xs (p - suc n) d) qs)
          → (Up (suc n) (q ∷ qs) → All (λ r. r < suc n + length xs) (q ∷ qs) → ((p : ℕ) → suc n ≤ p → is_place ns p ≡ is_place (q ∷ qs) p)
          → chosen ns (suc n) xs ≡ map (λ p. get_or xs (p - suc n) d) (q ∷ qs))
          → (if is_place ns n then x ∷ chosen ns (suc n) xs else chosen ns (suc n) xs) ≡ map (λ p. get_or (x ∷ xs) (p - n) d) (q ∷ qs)
      by (inl e) here later =
          let up : Up (suc n) qs = subst (λ k. Up (suc k) qs) e u.1 in
          let z : q - n ≡ 0 = omega (arith, e) in
          ap (λ c. if c then x ∷ chosen ns (suc n) xs else chosen ns (suc n) xs) (s n (omega arith) ∙ ap (λ c. c || is_place qs n) (eq-eqb q n e))
          ∙ (λ i. (ap (λ k. get_or (x ∷ xs) k d) (sym z)) i
          ∷ (here up (λ i w l. let r = b (suc i) w (omega (arith, l)) in omega (arith, r))
          (λ p le. s p (omega (arith, le)) ∙ ap (λ c. c || is_place qs p) (ne_eqb q p (λ f. absurd (omega (arith, e, f, le))))) ∙ map_next n x xs qs up) i)
      by (inr ne) here later =
          let a = u.0 in
          let up : Up (suc n) (q ∷ qs) = (omega (arith, a, ne), u.1) in
          ap (λ c. if c then x ∷ chosen ns (suc n) xs else chosen ns (suc n) xs) (s n (omega arith) ∙ none_below (suc n) n (q ∷ qs) (omega arith) up)
          ∙ later up (λ i w l. let r = b i w l in omega (arith, r)) (λ p le. s p (omega (arith, le))) ∙ map_next n x xs (q ∷ qs) up

-- Of items by places those at rising numbers in range are the items there.
pub chosen_is : {X : Type 0} (ns : List ℕ) (d : X) (xs : List X) → Rises ns → All (λ n. n < length xs) ns → chosen ns 0 xs ≡ map (λ p. get_or xs (p - 0) d) ns
chosen_is ns d xs h b = chosen_from ns d 0 xs ns (up_first ns h) (λ i z l. let r = b i z l in omega (arith, r)) (λ p le. refl)

-- ---- each call with its stack and the place behind it

module _ (x : ℕ) where
  abbrev Matches : List Bool → List (List ℕ) → List Position → Type 0
  Matches [] [] [] = Unit {0}
  Matches (b ∷ bs) (s ∷ ss) (p ∷ ps) = (b ≡ (list_any (nat_eq x) s || live_at x p)) × Matches bs ss ps
  Matches _ _ _ = ⊥

  matches_on : (bs cs : List Bool) (ss ts : List (List ℕ)) (ps qs : List Position) → Matches bs ss ps → Matches cs ts qs → Matches (bs ++ cs) (ss ++ ts) (ps ++ qs)
  matches_on [] cs [] ts [] qs h g = g
  matches_on (b ∷ bs) cs (s ∷ ss) ts (p ∷ ps) qs h g = (h.0, matches_on bs cs ss ts ps qs h.1 g)
  matches_on [] cs [] ts (p ∷ ps) qs h g = absurd h
  matches_on [] cs (s ∷ ss) ts ps qs h g = absurd h
  matches_on (b ∷ bs) cs [] ts ps qs h g = absurd h
  matches_on (b ∷ bs) cs (s ∷ ss) ts [] qs h g = absurd h

  pub matches_at : (bs : List Bool) (ss : List (List ℕ)) (ps : List Position) (i : ℕ) → Matches bs ss ps → i < length bs
      → (s : List ℕ) × (p : Position) × (slice_get ss i ≡ Some s) × (slice_get ps i ≡ Some p) × (get_or bs i false ≡ (list_any (nat_eq x) s || live_at x p))
  matches_at [] ss ps i h l = absurd (omega (arith, l))
  matches_at (b ∷ bs) (s ∷ ss) (p ∷ ps) zero h l = (s, p, refl, refl, h.0)
  matches_at (b ∷ bs) (s ∷ ss) (p ∷ ps) (suc i) h l = matches_at bs ss ps i h.1 (omega (arith, l))
  matches_at (b ∷ bs) [] ps i h l = absurd h
  matches_at (b ∷ bs) (s ∷ ss) [] i h l = absurd h

-- ---- the places behind calls, statement by statement

behind_all : (ls : List Label) (xs : List Operand) (k : Code) → behind_calls ls (all_got xs k) ≡ behind_calls ls k
unfolding behind_calls
behind_all ls [] k = refl
behind_all ls (Local x ∷ xs) k = behind_all ls xs k
behind_all ls (Const v ∷ xs) k = behind_all ls xs k

behind_slots : (ls : List Label) (xs : List ℕ) (k : Code) → behind_calls ls (slots_got xs k) ≡ behind_calls ls k
unfolding behind_calls
behind_slots ls [] k = refl
behind_slots ls (x ∷ xs) k = behind_slots ls xs k

behind_set : (ls : List Label) (to : Option ℕ) (k : Code) → behind_calls ls (set_to to k) ≡ behind_calls ls k
unfolding behind_calls
behind_set ls None k = refl
behind_set ls (Some x) k = refl

behind_op : (ls : List Label) (op k : Code) → IsComputation op → behind_calls ls (followed_by op k) ≡ behind_calls ls k
unfolding behind_calls followed_by
behind_op ls (plain (basic b) done) k h = refl
behind_op ls (plain (local_get x) done) k h = refl
behind_op ls (plain (local_set x) done) k h = refl
behind_op ls (plain (local_tee x) done) k h = refl
behind_op ls _ k h = absurd h

behind_call : (ls : List Label) (op k : Code) → IsCallCode op → behind_calls ls (followed_by op k) ≡ position k ls ∷ behind_calls ls k
unfolding behind_calls followed_by
behind_call ls (plain (call x) done) k h = refl
behind_call ls (plain (call_indirect s) done) k h = refl
behind_call ls _ k h = absurd h

behind_got : (ls : List Label) (o : Operand) (k : Code) → behind_calls ls (got o k) ≡ behind_calls ls k
unfolding behind_calls
behind_got ls (Local x) k = refl
behind_got ls (Const v) k = refl

module _ (x : ℕ) where
  abbrev tos_at : List Label → List Bool
  tos_at ls = (told x ls).tos

  abbrev out_at : List Label → Bool
  out_at ls = (told x ls).out

  abbrev M : List Label → Stmts → Type 0
  M ls s = Matches x (kept x (tos_at ls) (out_at ls) s) (stacks_in s) (behind_calls ls (code_of s))

  -- the same where code in front holds no call
  quiet_front : (ls : List Label) (bs : List Bool) (ss : List (List ℕ)) (ps qs : List Position) → ps ≡ qs → Matches x bs ss qs → Matches x bs ss ps
  quiet_front ls bs ss ps qs e h = subst (Matches x bs ss) (sym e) h

  pub all_match : (ls : List Label) (s : Stmts) → OpsFit s → M ls s
  unfolding kept stacks_in behind_calls code_of
  all_match ls no_more h = tt
  all_match ls (computes op args to rest) h =
      quiet_front ls (kept x (tos_at ls) (out_at ls) rest) (stacks_in rest) (behind_calls ls (all_got args (followed_by op (set_to to (code_of rest))))) (behind_calls ls (code_of rest))
      (behind_all ls args (followed_by op (set_to to (code_of rest))) ∙ behind_op ls op (set_to to (code_of rest)) h.0 ∙ behind_set ls to (code_of rest)) (all_match ls rest h.1)
  all_match ls (copies to from rest) h =
      quiet_front ls (kept x (tos_at ls) (out_at ls) rest) (stacks_in rest) (behind_calls ls (got from (plain (local_set to) (code_of rest)))) (behind_calls ls (code_of rest))
      (behind_got ls from (plain (local_set to) (code_of rest))) (all_match ls rest h)
  all_match ls (calls op stack args to rest) h =
      let after : Code = set_to to (code_of rest) in
      let ih = all_match ls rest h.1 in
      quiet_front ls (live x (tos_at ls) (out_at ls) (slots_got stack after) ∷ kept x (tos_at ls) (out_at ls) rest) (stack ∷ stacks_in rest)
      (behind_calls ls (slots_got (last_of args stack) (followed_by op after))) (position after ls ∷ behind_calls ls (code_of rest))
      (behind_slots ls (last_of args stack) (followed_by op after) ∙ behind_call ls op after h.0 ∙ ap (λ ps. position after ls ∷ ps) (behind_set ls to (code_of rest)))
      (live_slots x (tos_at ls) (out_at ls) stack after, ih)
  all_match ls (leaps l rest) h = all_match ls rest h
  all_match ls (leaps_if o l rest) h =
      quiet_front ls (kept x (tos_at ls) (out_at ls) rest) (stacks_in rest) (behind_calls ls (got o (plain (br_if l) (code_of rest)))) (behind_calls ls (code_of rest))
      (behind_got ls o (plain (br_if l) (code_of rest))) (all_match ls rest h)
  all_match ls (leaps_by o ts l rest) h =
      quiet_front ls (kept x (tos_at ls) (out_at ls) rest) (stacks_in rest) (behind_calls ls (got o (plain (br_table ts l) (code_of rest)))) (behind_calls ls (code_of rest))
      (behind_got ls o (plain (br_table ts l) (code_of rest))) (all_match ls rest h)
  all_match ls (nests a_block body rest) h =
      let la : List Label = goes_behind (code_of rest) ∷ ls in
      matches_on x (kept x (tos_at la) (out_at la) body) (kept x (tos_at ls) (out_at ls) rest) (stacks_in body) (stacks_in rest) (behind_calls la (code_of body)) (behind_calls ls (code_of rest))
      (all_match la body h.0) (all_match ls rest h.1)
  all_match ls (nests a_loop body rest) h =
      let la : List Label = goes_again (code_of body) (code_of rest) ∷ ls in
      matches_on x (kept x (tos_at la) (out_at la) body) (kept x (tos_at ls) (out_at ls) rest) (stacks_in body) (stacks_in rest) (behind_calls la (code_of body)) (behind_calls ls (code_of rest))
      (all_match la body h.0) (all_match ls rest h.1)
  all_match ls (decides o s t rest) h =
      let la : List Label = goes_behind (code_of rest) ∷ ls in
      quiet_front ls (kept x (tos_at la) (out_at la) s ++ (kept x (tos_at la) (out_at la) t ++ kept x (tos_at ls) (out_at ls) rest)) (stacks_in s ++ (stacks_in t ++ stacks_in rest))
      (behind_calls ls (got o (branch None (code_of s) (code_of t) (code_of rest)))) (behind_calls la (code_of s) ++ (behind_calls la (code_of t) ++ behind_calls ls (code_of rest)))
      (behind_got ls o (branch None (code_of s) (code_of t) (code_of rest)))
      (matches_on x (kept x (tos_at la) (out_at la) s) (kept x (tos_at la) (out_at la) t ++ kept x (tos_at ls) (out_at ls) rest) (stacks_in s) (stacks_in t ++ stacks_in rest)
      (behind_calls la (code_of s)) (behind_calls la (code_of t) ++ behind_calls ls (code_of rest)) (all_match la s h.0)
      (matches_on x (kept x (tos_at la) (out_at la) t) (kept x (tos_at ls) (out_at ls) rest) (stacks_in t) (stacks_in rest) (behind_calls la (code_of t)) (behind_calls ls (code_of rest))
      (all_match la t h.1) (all_match ls rest h.2)))
  all_match ls (halts rest) h = all_match ls rest h

  among_any : (xs : List ℕ) → Among x xs → list_any (nat_eq x) xs ≡ true
  among_any [] a = absurd a
  among_any (y ∷ xs) (inl e) = ap (λ b. b || list_any (nat_eq x) xs) (eq-eqb x y e)
  among_any (y ∷ xs) (inr a) = or_true (nat_eq x y) (list_any (nat_eq x) xs) (among_any xs a)
    where
      or_true : (a b : Bool) → b ≡ true → (a || b) ≡ true
      or_true true b e = refl
      or_true false b e = e

  any_among : (xs : List ℕ) → list_any (nat_eq x) xs ≡ true → Among x xs
  any_among [] e = cc
  any_among (y ∷ xs) e = by (nat_eq x y) refl e (λ q. any_among xs q)
    where
      by : (b : Bool) → nat_eq x y ≡ b → (b || list_any (nat_eq x) xs) ≡ true → (list_any (nat_eq x) xs ≡ true → Among x xs) → (x ≡ y) ⊎ Among x xs
      by true q e go = inl (eqb-true x y q)
      by false q e go = inr (go e)

  no_calls : (ls : List Label) (to : Option ℕ) → behind_calls ls (result_got to) ≡ []
  unfolding behind_calls
  no_calls ls None = refl
  no_calls ls (Some y) = refl

  -- the places behind the calls of the whole body are those of its statements
  places_are : (f : FlatFunc) → behind_calls [] (body_of f) ≡ behind_calls (goes_behind (result_got f.result) ∷ []) (code_of f.body)
  unfolding behind_calls
  places_are f =
      ap (λ ps. behind_calls (goes_behind (result_got f.result) ∷ []) (code_of f.body) ++ ps) (no_calls [] f.result)
      ∙ append-nil (behind_calls (goes_behind (result_got f.result) ∷ []) (code_of f.body))

  some_same : {X : Type 0} (a b : X) → Some a ≡ Some b → a ≡ b
  some_same a b e = cc

  -- At each call exactly what it keeps is told.
  pub told_exactly : (f : FlatFunc) (k : Bool) (place : ℕ) → k ≡ live x [] false (result_got f.result) → OpsFit f.body → place < length (kept x (k ∷ []) k f.body)
      → (get_or (kept x (k ∷ []) k f.body) place false ≡ true) ↔ KeepsAt f place x
  told_exactly f k place e fit lt =
      let ls : List Label = goes_behind (result_got f.result) ∷ [] in
      let all : Matches x (kept x (k ∷ []) k f.body) (stacks_in f.body) (behind_calls ls (code_of f.body)) =
      subst (λ c. Matches x (kept x (c ∷ []) c f.body) (stacks_in f.body) (behind_calls ls (code_of f.body))) (sym e) (all_match ls f.body fit) in
      let w = matches_at x (kept x (k ∷ []) k f.body) (stacks_in f.body) (behind_calls ls (code_of f.body)) place all lt in
      (there w.0 w.1 w.2 w.3 w.4, back w.0 w.1 w.2 w.3 w.4)
    where
      there : (s : List ℕ) (p : Position) → slice_get (stacks_in f.body) place ≡ Some s → slice_get (behind_calls (goes_behind (result_got f.result) ∷ []) (code_of f.body)) place ≡ Some p
          → get_or (kept x (k ∷ []) k f.body) place false ≡ (list_any (nat_eq x) s || live_at x p) → get_or (kept x (k ∷ []) k f.body) place false ≡ true → KeepsAt f place x
      there s p es ep eb t = by (list_any (nat_eq x) s) refl (sym eb ∙ t)
        where
          by : (b : Bool) → list_any (nat_eq x) s ≡ b → (b || live_at x p) ≡ true → KeepsAt f place x
          by true q z = inl (s, es, any_among s q)
          by false q z = inr (p, ap (λ ps. slice_get ps place) (places_are f) ∙ ep, live_reads x p z)

      back : (s : List ℕ) (p : Position) → slice_get (stacks_in f.body) place ≡ Some s → slice_get (behind_calls (goes_behind (result_got f.result) ∷ []) (code_of f.body)) place ≡ Some p
          → get_or (kept x (k ∷ []) k f.body) place false ≡ (list_any (nat_eq x) s || live_at x p) → KeepsAt f place x → get_or (kept x (k ∷ []) k f.body) place false ≡ true
      back s p es ep eb (inl o) = eb ∙ ap (λ b. b || live_at x p) (among_any s (subst (Among x) (some_same o.0 s (sym o.1 ∙ es)) o.2))
      back s p es ep eb (inr r) =
          eb ∙ or_true (list_any (nat_eq x) s) (live_at x p)
          (subst (λ (q : Position). live_at x q ≡ true) (some_same r.0 p (sym r.1 ∙ ap (λ ps. slice_get ps place) (places_are f) ∙ ep)) (reads_live x r.0 r.2))
        where
          or_true : (a b : Bool) → b ≡ true → (a || b) ≡ true
          or_true true b e = refl
          or_true false b e = e
