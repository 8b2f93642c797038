-- What flat code reads behind each of its calls.
use Rattle.std.proofs.Common.{◌≡◌, ◌∙◌, ℕ, zero, suc, ◌-◌, ◌≤◌, List, [], ◌∷◌, ◌++◌, length, drop, reverse, Option, Some, None, Bool, true, false, ◌||◌, ◌⊎◌, inl, inr, refl, sym, ap, subst}
use Rattle.std.specs.Prelude.{slice_get, nat_eq}
use Rattle.std.proofs.lemmas.Bool.{eqb-true}
use Rattle.std.proofs.lemmas.List.{append_assoc}
use Rattle.wa_types.specs.declared.values.ValType.{ValType}
use Rattle.wa_types.specs.Syntax.{Plain, basic, local_get, local_set, local_tee, br, br_if, br_table, return, unreachable, call, call_indirect, a_block, a_loop, Code, done, plain, nest, branch, Func, Module}
use Rattle.wa_types.specs.Pruned.{is_last}
use Rattle.wa_types.specs.Typing.{Around, listed, sig, Takes}
use Rattle.wa_types.specs.Points.{after}
use Rattle.wa_types.specs.Pausing.{Callee, callee}
use Rattle.wa_types.specs.Liveness.{Label, goes_behind, goes_again, Position, position, if_call_here, behind_calls, live, live_at, told}
use Rattle.wa_types.specs.Modules.{locals_of, around}
use Rattle.wa_model.specs.declared.flat.Operand.{Operand}
use Rattle.wa_model.specs.declared.flat.Operand.TheVariants.{Local, Const}
use Rattle.run_theory.specs.Flat.{Stmts, no_more, computes, copies, calls, leaps, leaps_if, leaps_by, decides, halts, followed_by, all_got, set_to, slots_got, last_of, code_of, result_got}
use Rattle.flat_laws.specs.Flatten.{Names, names, slots, result_local, top, carry_to, carry, carry_all, arrive, flat, flat_plain, result_of, flattened}
use Rattle.flat_laws.specs.FlatModule.{stacks_in}
use Rattle.flat_laws.specs.Placed.{GoesOn, Good}
use Rattle.flat_laws.proofs.OperandTypes.{after_all}
use Rattle.flat_laws.proofs.ValidModules.{Facts}
use Rattle.flat_laws.specs.Behind.{Among}
use Rattle.flat_laws.proofs.LiveFlat.{among_reversed, S, AtLabel, Conds, Ends, code_live, call_behind, indirect_behind, arrive_live, inner_conds, label_deeper}

-- ---- code without calls

behind_all : (ls : List Label) (xs : List Operand) (k : Code) → behind_calls ls (all_got xs k) ≡ behind_calls ls k
unfolding behind_calls
behind_all ls [] k = refl
behind_all ls (Local x ∷ xs) k = behind_all ls xs k
behind_all ls (Const v ∷ xs) k = behind_all ls xs k

behind_slots : (ls : List Label) (xs : List ℕ) (k : Code) → behind_calls ls (slots_got xs k) ≡ behind_calls ls k
unfolding behind_calls
behind_slots ls [] k = refl
behind_slots ls (x ∷ xs) k = behind_slots ls xs k

behind_set : (ls : List Label) (to : Option ℕ) (k : Code) → behind_calls ls (set_to to k) ≡ behind_calls ls k
unfolding behind_calls
behind_set ls None k = refl
behind_set ls (Some x) k = refl

-- statements have the calls of others, with their stacks
record SameCalls (ls : List Label) (k rest : Stmts) : Type 0 where
  calls_too : behind_calls ls (code_of k) ≡ behind_calls ls (code_of rest)
  stacks_too : stacks_in k ≡ stacks_in rest

calls_on : (ls : List Label) (a b k : Stmts) → SameCalls ls a b → SameCalls ls b k → SameCalls ls a k
calls_on ls a b k x y = record { calls_too = x.calls_too ∙ y.calls_too; stacks_too = x.stacks_too ∙ y.stacks_too }

copy_calls : (ls : List Label) (to x : ℕ) (rest : Stmts) → SameCalls ls (copies to (Local x) rest) rest
unfolding behind_calls code_of stacks_in
copy_calls ls to x rest = record { calls_too = refl; stacks_too = refl }

carry_calls : (n : Names) (ls : List Label) (d : ℕ) (o : Option (Option ValType)) (ops : List ValType) (rest : Stmts) → SameCalls ls (carry_to n d o ops rest) rest
carry_calls n ls d None ops rest = record { calls_too = refl; stacks_too = refl }
carry_calls n ls d (Some None) ops rest = record { calls_too = refl; stacks_too = refl }
carry_calls n ls d (Some (Some t)) ops rest = copy_calls ls (result_local n d t) (top n ops) rest

carries_calls : (n : Names) (ls : List Label) (lt : List (Option ValType)) (ops : List ValType) (js : List ℕ) (rest : Stmts) → SameCalls ls (carry_all n lt ops js rest) rest
carries_calls n ls lt ops [] rest = record { calls_too = refl; stacks_too = refl }
carries_calls n ls lt ops (j ∷ js) rest =
    calls_on ls (carry_all n lt ops (j ∷ js) rest) (carry_all n lt ops js rest) rest (carry_calls n ls (length lt - suc j) (slice_get lt j) ops (carry_all n lt ops js rest))
    (carries_calls n ls lt ops js rest)

arrive_calls : (n : Names) (ls : List Label) (d : ℕ) (r : Option ValType) (ops : List ValType) (rest : Stmts) → SameCalls ls (arrive n d r ops rest) rest
arrive_calls n ls d None ops rest = record { calls_too = refl; stacks_too = refl }
arrive_calls n ls d (Some t) ops rest = copy_calls ls _ (result_local n d t) rest

computes_calls : (ls : List Label) (b : _) (xs : List Operand) (to : Option ℕ) (rest : Stmts) → SameCalls ls (computes (plain (basic b) done) xs to rest) rest
unfolding behind_calls code_of followed_by stacks_in
computes_calls ls b xs to rest = record { calls_too = behind_all ls xs (plain (basic b) (set_to to (code_of rest))) ∙ behind_set ls to (code_of rest); stacks_too = refl }

-- ---- places behind calls, with the calls' stacks

module _ (y : ℕ) where
  -- at each place what is read first is of the stack
  abbrev Paired : List Position → List (List ℕ) → Type 0
  Paired [] [] = Unit {0}
  Paired (p ∷ ps) (s ∷ ss) = (live_at y p ≡ true → Among y s) × Paired ps ss
  Paired _ _ = ⊥

  paired_on : (ps qs : List Position) (ss ts : List (List ℕ)) → Paired ps ss → Paired qs ts → Paired (ps ++ qs) (ss ++ ts)
  paired_on [] qs [] ts h g = g
  paired_on [] qs (s ∷ ss) ts h g = absurd h
  paired_on (p ∷ ps) qs [] ts h g = absurd h
  paired_on (p ∷ ps) qs (s ∷ ss) ts h g = (h.0, paired_on ps qs ss ts h.1 g)

  pub paired_at : (ps : List Position) (ss : List (List ℕ)) (i : ℕ) (at : Position) → Paired ps ss → slice_get ps i ≡ Some at → live_at y at ≡ true
      → (s : List ℕ) × (slice_get ss i ≡ Some s) × Among y s
  paired_at [] ss i at h e l = cc
  paired_at (p ∷ ps) [] i at h e l = absurd h
  paired_at (p ∷ ps) (s ∷ ss) zero at h e l = let z : p ≡ at = cc in (s, refl, h.0 (subst (λ q. live_at y q ≡ true) (sym z) l))
  paired_at (p ∷ ps) (s ∷ ss) (suc i) at h e l = paired_at ps ss i at h.1 e l

  abbrev P : List Label → Stmts → Type 0
  P ls k = Paired (behind_calls ls (code_of k)) (stacks_in k)

  by_calls : (ls : List Label) (k rest : Stmts) → SameCalls ls k rest → P ls rest → P ls k
  by_calls ls k rest s h = subst (λ ps. Paired ps (stacks_in k)) (sym s.calls_too) (subst (Paired (behind_calls ls (code_of rest))) (sym s.stacks_too) h)

  none_left : (ls : List Label) → P ls no_more
  unfolding behind_calls code_of stacks_in
  none_left ls = tt

  leap_left : (ls : List Label) (j : ℕ) → P ls (leaps j no_more)
  unfolding behind_calls code_of stacks_in
  leap_left ls j = tt

  halt_left : (ls : List Label) → P ls (halts no_more)
  unfolding behind_calls code_of stacks_in
  halt_left ls = tt

  if_left : (ls : List Label) (x j : ℕ) (rest : Stmts) → P ls rest → P ls (leaps_if (Local x) j rest)
  unfolding behind_calls code_of stacks_in
  if_left ls x j rest h = h

  table_left : (ls : List Label) (x : ℕ) (ts : List ℕ) (j : ℕ) → P ls (leaps_by (Local x) ts j no_more)
  unfolding behind_calls code_of stacks_in
  table_left ls x ts j = tt

  one_call : (ls : List Label) (i : Plain) (to_call : Callee) (stack : List ℕ) (k : ℕ) (to : Option ℕ) (rest : Stmts) → callee i ≡ Some to_call
      → (live_at y (position (set_to to (code_of rest)) ls) ≡ true → Among y stack) → P ls rest
      → P ls (calls (plain i done) stack k to rest)
  unfolding behind_calls code_of followed_by stacks_in
  one_call ls i to_call stack k to rest e h g =
      let behind_it : Code = set_to to (code_of rest) in
      subst (λ ps. Paired ps (stack ∷ stacks_in rest))
      (sym (behind_slots ls (last_of k stack) (plain i behind_it) ∙ ap (λ o. if_call_here o (position behind_it ls) (behind_calls ls behind_it)) e))
      (h, subst (λ ps. Paired ps (stacks_in rest)) (sym (behind_set ls to (code_of rest))) g)

module _ (m : Module) (f : Func) (y : ℕ) (extra : length (locals_of m f) ≤ y) (ft : Facts m) where
  abbrev n : Names
  n = names m f

  abbrev c : Around
  c = around m f

  on_paired : (ls : List Label) (lt : List (Option ValType)) (own mids low : List ValType) (i : Plain) (rest : Stmts) → Conds m f y extra (told y ls).tos (told y ls).out lt low
      → is_last i ≡ false → Takes (sig c lt i) own mids
      → (live y (told y ls).tos (told y ls).out (code_of rest) ≡ true → S m f y extra (mids ++ low)) → P y ls rest → P y ls (flat_plain n c lt (own ++ low) (mids ++ low) i rest)
  on_paired ls lt own mids low (basic b) rest cs z t ih h = by_calls y ls _ rest (computes_calls ls b _ _ rest) h
  on_paired ls lt own mids low (local_get x) rest cs z t ih h = by_calls y ls _ rest (copy_calls ls _ x rest) h
  on_paired ls lt own mids low (local_set x) rest cs z t ih h = by_calls y ls _ rest (copy_calls ls x _ rest) h
  on_paired ls lt own mids low (local_tee x) rest cs z t ih h = by_calls y ls _ rest (copy_calls ls x _ rest) h
  on_paired ls lt own mids low (br j) rest cs z t ih h = cc
  on_paired ls lt own mids low (br_if j) rest cs z t ih h =
      by_calls y ls _ (leaps_if (Local (top n (own ++ low))) j rest) (carry_calls n ls (length lt - suc j) (slice_get lt j) (drop 1 (own ++ low))
      (leaps_if (Local (top n (own ++ low))) j rest)) (if_left y ls (top n (own ++ low)) j rest h)
  on_paired ls lt own mids low (br_table ts j) rest cs z t ih h = cc
  on_paired ls lt own mids low return rest cs z t ih h = cc
  on_paired ls lt own mids low unreachable rest cs z t ih h = cc
  on_paired ls lt own mids low (call x) rest cs z t ih h =
      one_call y ls (call x) _ (reverse (slots n (own ++ low))) _ _ rest refl
      (λ l. among_reversed y (slots n (own ++ low)) (call_behind m f y extra (told y ls).tos (told y ls).out lt own mids low cs ft.small ft.small_sort x rest t ih l)) h
  on_paired ls lt own mids low (call_indirect sort) rest cs z t ih h =
      one_call y ls (call_indirect sort) _ (reverse (slots n (own ++ low))) _ _ rest refl
      (λ l. among_reversed y (slots n (own ++ low)) (indirect_behind m f y extra (told y ls).tos (told y ls).out lt own mids low cs ft.small ft.small_sort sort rest t ih l)) h

  last_paired : (ls : List Label) (lt : List (Option ValType)) (ops behind : List ValType) (i : Plain) (rest : Stmts) → is_last i ≡ true → P y ls (flat_plain n c lt ops behind i rest)
  last_paired ls lt ops behind (br j) rest z = by_calls y ls _ (leaps j no_more) (carry_calls n ls (length lt - suc j) (slice_get lt j) ops (leaps j no_more)) (leap_left y ls j)
  last_paired ls lt ops behind (br_table ts j) rest z =
      by_calls y ls _ (carry n lt (drop 1 ops) j (leaps_by (Local (top n ops)) ts j no_more))
      (carries_calls n ls lt (drop 1 ops) ts (carry n lt (drop 1 ops) j (leaps_by (Local (top n ops)) ts j no_more)))
      (by_calls y ls _ (leaps_by (Local (top n ops)) ts j no_more) (carry_calls n ls (length lt - suc j) (slice_get lt j) (drop 1 ops) (leaps_by (Local (top n ops)) ts j no_more))
      (table_left y ls (top n ops) ts j))
  last_paired ls lt ops behind return rest z =
      by_calls y ls _ (leaps (length lt - 1) no_more) (carry_calls n ls (length lt - suc (length lt - 1)) (slice_get lt (length lt - 1)) ops (leaps (length lt - 1) no_more))
      (leap_left y ls (length lt - 1))
  last_paired ls lt ops behind unreachable rest z = halt_left y ls
  last_paired ls lt ops behind (basic b) rest z = cc
  last_paired ls lt ops behind (local_get x) rest z = cc
  last_paired ls lt ops behind (local_set x) rest z = cc
  last_paired ls lt ops behind (local_tee x) rest z = cc
  last_paired ls lt ops behind (br_if j) rest z = cc
  last_paired ls lt ops behind (call x) rest z = cc
  last_paired ls lt ops behind (call_indirect sort) rest z = cc

  abbrev Tos : List Label → List Bool
  Tos ls = (told y ls).tos

  abbrev Out : List Label → Bool
  Out ls = (told y ls).out

  code_paired : (ls : List Label) (q : Option ValType) (lt : List (Option ValType)) (code : Code) (outs own low : List ValType) → slice_get (q ∷ lt) (length lt) ≡ Some c.result
      → (q ≡ None) ⊎ (outs ≡ listed q)
      → Conds m f y extra (Tos ls) (Out ls) (q ∷ lt) low → Ends m f y extra (Tos ls) (Out ls) (length lt) q outs low → Good n c (q ∷ lt) code outs own low
      → P y ls (flat n c (q ∷ lt) code (own ++ low))
  unfolding flat Good behind_calls code_of stacks_in
  code_paired ls q lt done outs own low la hd cs en g = by_calls y ls _ no_more (carry_calls n ls (length (q ∷ lt) - 1) (Some q) (own ++ low) no_more) (none_left y ls)
  code_paired ls q lt (plain i rest) outs own low la hd cs en g =
      by (is_last i) refl (λ gr. code_paired ls q lt rest outs g.1 low la hd cs en gr)
      (λ gr z. code_live m f y extra ft.small ft.small_sort (Tos ls) (Out ls) q lt rest outs g.1 low la hd cs en gr z) g.3
    where
      by : (b : Bool) → is_last i ≡ b → (Good n c (q ∷ lt) rest outs g.1 low → P y ls (flat n c (q ∷ lt) rest (g.1 ++ low)))
          → (Good n c (q ∷ lt) rest outs g.1 low → live y (Tos ls) (Out ls) (code_of (flat n c (q ∷ lt) rest (g.1 ++ low))) ≡ true → S m f y extra (g.1 ++ low))
          → GoesOn b (Good n c (q ∷ lt) rest outs g.1 low)
          → P y ls (flat_plain n c (q ∷ lt) (own ++ low) (after (sig c (q ∷ lt) i) (own ++ low)) i (flat n c (q ∷ lt) rest (after (sig c (q ∷ lt) i) (own ++ low))))
      by true z ih il gr = last_paired ls (q ∷ lt) (own ++ low) (after (sig c (q ∷ lt) i) (own ++ low)) i (flat n c (q ∷ lt) rest (after (sig c (q ∷ lt) i) (own ++ low))) z
      by false z ih il gr =
          subst (λ behind. P y ls (flat_plain n c (q ∷ lt) (own ++ low) behind i (flat n c (q ∷ lt) rest behind))) (sym (after_all c (q ∷ lt) i own g.1 low (own ++ low) z g.2 refl))
          (on_paired ls (q ∷ lt) own g.1 low i (flat n c (q ∷ lt) rest (g.1 ++ low)) cs z g.2 (il gr) (ih gr))
  code_paired ls q lt (nest a_block r body rest) outs own low la hd cs en g =
      let behind_code : Stmts = arrive n (length (q ∷ lt)) r (own ++ low) (flat n c (q ∷ lt) rest (listed r ++ (own ++ low))) in
      let k : Bool = live y (Tos ls) (Out ls) (code_of behind_code) in
      let assoc : (listed r ++ own) ++ low ≡ listed r ++ (own ++ low) = append_assoc (listed r) own low in
      let rest_it : live y (Tos ls) (Out ls) (code_of (flat n c (q ∷ lt) rest (listed r ++ (own ++ low)))) ≡ true → S m f y extra (listed r ++ (own ++ low)) =
      subst (λ ts. live y (Tos ls) (Out ls) (code_of (flat n c (q ∷ lt) rest ts)) ≡ true → S m f y extra ts) assoc
      (code_live m f y extra ft.small ft.small_sort (Tos ls) (Out ls) q lt rest outs (listed r ++ own) low la hd cs en g.3) in
      let behind : k ≡ true → AtLabel m f y extra (Tos ls) (Out ls) (length (q ∷ lt)) r (own ++ low) =
      arrive_live m f y extra (Tos ls) (Out ls) (length (q ∷ lt)) r (own ++ low) (flat n c (q ∷ lt) rest (listed r ++ (own ++ low))) rest_it in
      let inner = code_paired (goes_behind (code_of behind_code) ∷ ls) r (q ∷ lt) body (listed r) [] (own ++ low) la (inr refl)
      (inner_conds m f y extra (Tos ls) (Out ls) k (q ∷ lt) r own low cs behind k)
      (λ e. label_deeper m f y extra (Tos ls) (Out ls) (length (q ∷ lt)) r (listed r) (own ++ low) (behind e)) g.2 in
      let outer = by_calls y ls behind_code (flat n c (q ∷ lt) rest (listed r ++ (own ++ low))) (arrive_calls n ls (length (q ∷ lt)) r (own ++ low) (flat n c (q ∷ lt) rest (listed r ++ (own ++ low))))
      (subst (λ ts. P y ls (flat n c (q ∷ lt) rest ts)) assoc (code_paired ls q lt rest outs (listed r ++ own) low la hd cs en g.3)) in
      paired_on y (behind_calls (goes_behind (code_of behind_code) ∷ ls) (code_of (flat n c (r ∷ q ∷ lt) body (own ++ low)))) (behind_calls ls (code_of behind_code))
      (stacks_in (flat n c (r ∷ q ∷ lt) body (own ++ low))) (stacks_in behind_code) inner outer
  code_paired ls q lt (nest a_loop r body rest) outs own low la hd cs en g =
      let behind_code : Stmts = flat n c (q ∷ lt) rest (listed r ++ (own ++ low)) in
      let inner_code : Stmts = flat n c (None ∷ q ∷ lt) body (own ++ low) in
      let k : Bool = live y (Tos ls) (Out ls) (code_of behind_code) in
      let again : Bool = live y (false ∷ Tos ls) k (code_of inner_code) in
      let assoc : (listed r ++ own) ++ low ≡ listed r ++ (own ++ low) = append_assoc (listed r) own low in
      let rest_it : k ≡ true → S m f y extra (listed r ++ (own ++ low)) =
      subst (λ ts. live y (Tos ls) (Out ls) (code_of (flat n c (q ∷ lt) rest ts)) ≡ true → S m f y extra ts) assoc
      (code_live m f y extra ft.small ft.small_sort (Tos ls) (Out ls) q lt rest outs (listed r ++ own) low la hd cs en g.3) in
      let at_again : again ≡ true → S m f y extra (own ++ low) =
      code_live m f y extra ft.small ft.small_sort (false ∷ Tos ls) k None (q ∷ lt) body (listed r) [] (own ++ low) la (inl refl)
      (inner_conds m f y extra (Tos ls) (Out ls) false (q ∷ lt) None own low cs (λ e. cc) k) rest_it g.2 in
      let inner = code_paired (goes_again (code_of inner_code) (code_of behind_code) ∷ ls) None (q ∷ lt) body (listed r) [] (own ++ low) la (inl refl)
      (inner_conds m f y extra (Tos ls) (Out ls) again (q ∷ lt) None own low cs at_again k) rest_it g.2 in
      let outer = subst (λ ts. P y ls (flat n c (q ∷ lt) rest ts)) assoc (code_paired ls q lt rest outs (listed r ++ own) low la hd cs en g.3) in
      paired_on y (behind_calls (goes_again (code_of inner_code) (code_of behind_code) ∷ ls) (code_of inner_code)) (behind_calls ls (code_of behind_code)) (stacks_in inner_code)
      (stacks_in behind_code) inner outer
  code_paired ls q lt (branch r a b rest) outs own low la hd cs en g =
      let below : List ValType = g.2 in
      let eo : drop 1 (own ++ low) ≡ below ++ low = ap (λ z. drop 1 (z ++ low)) g.3 in
      subst (λ ds. P y ls (decides (Local (top n (own ++ low))) (flat n c (r ∷ q ∷ lt) a ds) (flat n c (r ∷ q ∷ lt) b ds)
      (arrive n (length (q ∷ lt)) r ds (flat n c (q ∷ lt) rest (listed r ++ ds))))) (sym eo)
      (let behind_code : Stmts = arrive n (length (q ∷ lt)) r (below ++ low) (flat n c (q ∷ lt) rest (listed r ++ (below ++ low))) in
      let k : Bool = live y (Tos ls) (Out ls) (code_of behind_code) in
      let assoc : (listed r ++ below) ++ low ≡ listed r ++ (below ++ low) = append_assoc (listed r) below low in
      let rest_it : live y (Tos ls) (Out ls) (code_of (flat n c (q ∷ lt) rest (listed r ++ (below ++ low)))) ≡ true → S m f y extra (listed r ++ (below ++ low)) =
      subst (λ ts. live y (Tos ls) (Out ls) (code_of (flat n c (q ∷ lt) rest ts)) ≡ true → S m f y extra ts) assoc
      (code_live m f y extra ft.small ft.small_sort (Tos ls) (Out ls) q lt rest outs (listed r ++ below) low la hd cs en g.6) in
      let behind : k ≡ true → AtLabel m f y extra (Tos ls) (Out ls) (length (q ∷ lt)) r (below ++ low) =
      arrive_live m f y extra (Tos ls) (Out ls) (length (q ∷ lt)) r (below ++ low) (flat n c (q ∷ lt) rest (listed r ++ (below ++ low))) rest_it in
      let conds = inner_conds m f y extra (Tos ls) (Out ls) k (q ∷ lt) r below low cs behind k in
      let ends : k ≡ true → AtLabel m f y extra (k ∷ Tos ls) k (length (q ∷ lt)) r (listed r ++ (below ++ low)) = λ e. label_deeper m f y extra (k ∷ Tos ls) k (length (q ∷ lt)) r
      (listed r) (below ++ low) (behind e) in
      let one = code_paired (goes_behind (code_of behind_code) ∷ ls) r (q ∷ lt) a (listed r) [] (below ++ low) la (inr refl) conds ends g.4 in
      let two = code_paired (goes_behind (code_of behind_code) ∷ ls) r (q ∷ lt) b (listed r) [] (below ++ low) la (inr refl) conds ends g.5 in
      let outer = by_calls y ls behind_code (flat n c (q ∷ lt) rest (listed r ++ (below ++ low)))
      (arrive_calls n ls (length (q ∷ lt)) r (below ++ low) (flat n c (q ∷ lt) rest (listed r ++ (below ++ low))))
      (subst (λ ts. P y ls (flat n c (q ∷ lt) rest ts)) assoc (code_paired ls q lt rest outs (listed r ++ below) low la hd cs en g.6)) in
      let la1 : List Label = goes_behind (code_of behind_code) ∷ ls in
      paired_on y (behind_calls la1 (code_of (flat n c (r ∷ q ∷ lt) a (below ++ low)))) (behind_calls la1 (code_of (flat n c (r ∷ q ∷ lt) b (below ++ low))) ++ behind_calls ls (code_of behind_code))
      (stacks_in (flat n c (r ∷ q ∷ lt) a (below ++ low))) (stacks_in (flat n c (r ∷ q ∷ lt) b (below ++ low)) ++ stacks_in behind_code) one
      (paired_on y (behind_calls la1 (code_of (flat n c (r ∷ q ∷ lt) b (below ++ low)))) (behind_calls ls (code_of behind_code)) (stacks_in (flat n c (r ∷ q ∷ lt) b (below ++ low)))
      (stacks_in behind_code) two outer))

  -- ---- the whole body

  -- behind the block of the body its result local is read
  result_live : (r : Option ValType) → live y [] false (result_got (result_of n r)) ≡ true → AtLabel m f y extra [] false 0 r []
  unfolding live
  result_live None h = cc
  result_live (Some t) h = inl (eqb-true y (result_local n 0 t) (first_of_two (nat_eq y (result_local n 0 t)) h))
    where
      first_of_two : (b : Bool) → (b || false) ≡ true → b ≡ true
      first_of_two true e = refl
      first_of_two false e = cc

  body_conds : (k : Bool) → (k ≡ true → AtLabel m f y extra [] false 0 c.result []) → Conds m f y extra (k ∷ []) k (c.result ∷ []) []
  body_conds k h zero r e told = subst (λ q. AtLabel m f y extra (k ∷ []) k 0 q []) (some_is c.result r e) (same c.result (h told))
    where
      some_is : (q r : Option ValType) → Some q ≡ Some r → q ≡ r
      some_is q r e = cc

      same : (q : Option ValType) → AtLabel m f y extra [] false 0 q [] → AtLabel m f y extra (k ∷ []) k 0 q []
      same None z = z
      same (Some t) z = z
  body_conds k h (suc j) r e told = cc

  pub body_paired : (x : ℕ) → Good n c (c.result ∷ []) f.body (listed c.result) [] [] → P y (goes_behind (result_got (result_of n c.result)) ∷ []) (flattened m x f).body
  body_paired x g =
      let k : Bool = live y [] false (result_got (result_of n c.result)) in
      let at : k ≡ true → AtLabel m f y extra [] false 0 c.result [] = result_live c.result in
      code_paired (goes_behind (result_got (result_of n c.result)) ∷ []) c.result [] f.body (listed c.result) [] [] refl (inr refl) (body_conds k at)
      (λ e. deeper (listed c.result) c.result (at e)) g
    where
      deeper : (ts : List ValType) (q : Option ValType) → AtLabel m f y extra [] false 0 q [] → AtLabel m f y extra [] false 0 q (ts ++ [])
      deeper ts q z = label_deeper m f y extra [] false 0 q ts [] z
