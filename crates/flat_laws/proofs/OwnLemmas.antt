-- Flat code accesses own locals where its original does.
use Rattle.std.proofs.Common.{◌≡◌, ◌∙◌, ℕ, zero, suc, ◌+◌, ◌-◌, ◌≤◌, ◌<◌, List, [], ◌∷◌, ◌++◌, length, map, take, drop, reverse, Option, Some, None, Bool, true, false, ◌⊎◌, inl, inr, All, refl, sym, ap, subst, arith, length-append}
use Rattle.std.specs.Prelude.{slice_get, if◌then◌else◌}
use Rattle.std.proofs.lemmas.Bool.{le-ltb, lt-ltb}
use Rattle.std.proofs.lemmas.List.{append_assoc, reverse-append, length-reverse}
use Rattle.std.proofs.lemmas.List.Elements.{All-nil, All-cons, All-head, All-tail, All-append, All-take}
use Rattle.std.proofs.lemmas.Option.{slice_get_within}
use Rattle.wa_types.specs.declared.values.ValType.{ValType}
use Rattle.wa_types.specs.declared.values.ValType.TheVariants.{I32}
use Rattle.wa_types.specs.Syntax.{Basic, Plain, basic, local_get, local_set, local_tee, br, br_if, br_table, return, unreachable, call, call_indirect, a_block, a_loop, Code, done, plain, nest, branch, FuncType, Func, Module}
use Rattle.wa_types.specs.Pruned.{is_last, pruned}
use Rattle.wa_types.specs.Typing.{Around, listed, sig, jump as jump_sig, may_jump, jumps as jumps_sig, calls as calls_sig, calls_at, gets, sets, tees, Takes}
use Rattle.wa_types.specs.Points.{after}
use Rattle.wa_types.specs.Validity.{Valid}
use Rattle.wa_types.specs.Modules.{or_empty, func_types, defined_at, locals_of, around}
use Rattle.wa_model.specs.declared.flat.Operand.TheVariants.{Local}
use Rattle.wa_model.specs.Store.{takes, gives}
use Rattle.run_theory.specs.Flat.{Stmts, no_more, copies, leaps, leaps_if, leaps_by, followed_by, all_got, set_to, slots_got, last_of, code_of}
use Rattle.run_theory.proofs.HeightLemmas.{basic_height}
use Rattle.flat_laws.specs.Flatten.{Names, names, slot, slots, result_local, top, top_of, carry_to, carry, carry_all, arrive, flat, flat_plain, flattened}
use Rattle.flat_laws.specs.Placed.{GoesOn, Good}
use Rattle.flat_laws.proofs.OperandTypes.{after_all}
use Rattle.flat_laws.proofs.TableLabels.{AllLabels, table_typed}
use Rattle.flat_laws.proofs.ValidModules.{good_func}
use Rattle.flat_laws.specs.OwnUses.{keep_if, uses}

all_reversed : (P : ℕ → Type 0) (xs : List ℕ) → All P xs → All P (reverse xs)
all_reversed P [] a = All-nil P
all_reversed P (x ∷ xs) a =
    subst (All P) (sym (reverse-append (x ∷ []) xs)) (All-append P (reverse xs) (x ∷ []) (all_reversed P xs (All-tail P x xs a)) (All-cons P x [] (All-head P x xs a) (All-nil P)))

all_dropped : (P : ℕ → Type 0) (k : ℕ) (xs : List ℕ) → All P xs → All P (drop k xs)
all_dropped P zero xs a = a
all_dropped P (suc k) [] a = a
all_dropped P (suc k) (x ∷ xs) a = all_dropped P k xs (All-tail P x xs a)

module _ (n : Names) where
  abbrev first : ℕ
  first = n.first

  -- a local behind the own ones
  abbrev Extra : ℕ → Type 0
  Extra x = first ≤ x

  extra_slots : (ops : List ValType) → All Extra (slots n ops)
  extra_slots [] = All-nil Extra
  extra_slots (t ∷ ops) = All-cons Extra (slot n (length ops) t) (slots n ops) (omega arith) (extra_slots ops)

  top_extra : (t : ValType) (ops all : List ValType) → all ≡ t ∷ ops → Extra (top n all)
  top_extra t ops [] e = cc
  top_extra t ops (u ∷ all) e = omega arith

  top_of_extra : (k : ℕ) (ops : List ValType) → k ≤ length ops → (to : ℕ) → top_of n k ops ≡ Some to → Extra to
  top_of_extra zero ops le to e = cc
  top_of_extra (suc k) [] le to e = absurd (omega arith)
  top_of_extra (suc k) (t ∷ ops) le to e = let z : slot n (length ops) t ≡ to = cc in omega arith

  module _ (d : ℕ) where
    abbrev U : Code → Code
    U = uses first d

    -- accesses of other locals leave no trace
    got_gone : (x : ℕ) (rest : Code) → Extra x → U (plain (local_get x) rest) ≡ U rest
    unfolding uses
    got_gone x rest e = ap (λ b. keep_if b (local_get x) (U rest)) (le-ltb x first e)

    set_gone : (x : ℕ) (rest : Code) → Extra x → U (plain (local_set x) rest) ≡ U rest
    unfolding uses
    set_gone x rest e = ap (λ b. keep_if b (local_set x) (U rest)) (le-ltb x first e)

    got_kept : (x : ℕ) (rest : Code) → x < first → U (plain (local_get x) rest) ≡ plain (local_get x) (U rest)
    unfolding uses
    got_kept x rest e = ap (λ b. keep_if b (local_get x) (U rest)) (lt-ltb x first e)

    set_kept : (x : ℕ) (rest : Code) → x < first → U (plain (local_set x) rest) ≡ plain (local_set x) (U rest)
    unfolding uses
    set_kept x rest e = ap (λ b. keep_if b (local_set x) (U rest)) (lt-ltb x first e)

    tee_kept : (x : ℕ) (rest : Code) → x < first → U (plain (local_tee x) rest) ≡ plain (local_set x) (U rest)
    unfolding uses
    tee_kept x rest e = ap (λ b. keep_if b (local_set x) (U rest)) (lt-ltb x first e)

    all_gone : (xs : List ℕ) (rest : Code) → All Extra xs → U (all_got (map Local xs) rest) ≡ U rest
    all_gone [] rest a = refl
    all_gone (x ∷ xs) rest a = got_gone x (all_got (map Local xs) rest) (All-head Extra x xs a) ∙ all_gone xs rest (All-tail Extra x xs a)

    slots_gone : (xs : List ℕ) (rest : Code) → All Extra xs → U (slots_got xs rest) ≡ U rest
    slots_gone [] rest a = refl
    slots_gone (x ∷ xs) rest a = got_gone x (slots_got xs rest) (All-head Extra x xs a) ∙ slots_gone xs rest (All-tail Extra x xs a)

    to_gone : (to : Option ℕ) (rest : Code) → ((x : ℕ) → to ≡ Some x → Extra x) → U (set_to to rest) ≡ U rest
    to_gone None rest h = refl
    to_gone (Some x) rest h = set_gone x rest (h x refl)

    copy_gone : (to x : ℕ) (rest : Stmts) → Extra to → Extra x → U (code_of (copies to (Local x) rest)) ≡ U (code_of rest)
    unfolding code_of
    copy_gone to x rest a b = got_gone x (plain (local_set to) (code_of rest)) b ∙ set_gone to (code_of rest) a

    carry_gone : (k : ℕ) (r : Option ValType) (ops more : List ValType) (rest : Stmts) → ops ≡ listed r ++ more → U (code_of (carry_to n k (Some r) ops rest)) ≡ U (code_of rest)
    carry_gone k None ops more rest e = refl
    carry_gone k (Some t) ops more rest e = copy_gone (result_local n k t) (top n ops) rest (omega arith) (top_extra t more ops e)

    carry_at : (ls : List (Option ValType)) (j : ℕ) (r : Option ValType) (ops more : List ValType) (rest : Stmts) → slice_get ls j ≡ Some r → ops ≡ listed r ++ more
        → U (code_of (carry n ls ops j rest)) ≡ U (code_of rest)
    carry_at ls j r ops more rest er e = ap (λ o. U (code_of (carry_to n (length ls - suc j) o ops rest))) er ∙ carry_gone (length ls - suc j) r ops more rest e

    carry_each : (ls : List (Option ValType)) (js : List ℕ) (r : Option ValType) (ops more : List ValType) (rest : Stmts) → AllLabels ls r js → ops ≡ listed r ++ more
        → U (code_of (carry_all n ls ops js rest)) ≡ U (code_of rest)
    carry_each ls [] r ops more rest al e = refl
    carry_each ls (j ∷ js) r ops more rest al e = carry_at ls j r ops more (carry_all n ls ops js rest) al.0 e ∙ carry_each ls js r ops more rest al.1 e

    arrive_gone : (k : ℕ) (r : Option ValType) (ops : List ValType) (rest : Stmts) → U (code_of (arrive n k r ops rest)) ≡ U (code_of rest)
    arrive_gone k None ops rest = refl
    arrive_gone k (Some t) ops rest = copy_gone (slot n (length ops) t) (result_local n k t) rest (omega arith) (omega arith)

module _ (m : Module) (f : Func) where
  abbrev nn : Names
  nn = names m f

  abbrev c : Around
  c = around m f

  own_local : (y : ℕ) (t : ValType) → slice_get (locals_of m f) y ≡ Some t → y < nn.first
  own_local y t e = slice_get_within (locals_of m f) y t e

  module _ (ls : List (Option ValType)) (d : ℕ) (own mids low : List ValType) where
    abbrev ops : List ValType
    ops = own ++ low

    abbrev V : Code → Code
    V = uses (names m f).first d

    -- what an instruction stands for, before statements that leave the same as what stands behind it
    module _ (rest : Stmts) (k : Code) (e : V (code_of rest) ≡ V k) where
      basic_uses : (b : Basic) → Takes (sig c ls (basic b)) own mids → V (code_of (flat_plain nn c ls ops (mids ++ low) (basic b) rest)) ≡ V (plain (basic b) k)
      unfolding code_of followed_by uses
      basic_uses b t =
          let xs : List ℕ = reverse (take (takes b) (slots nn ops)) in
          let h = basic_height c b own mids low t in
          all_gone nn d xs (plain (basic b) (set_to (top_of nn (gives b) (mids ++ low)) (code_of rest)))
          (all_reversed (Extra nn) (take (takes b) (slots nn ops)) (All-take (Extra nn) (takes b) (slots nn ops) (extra_slots nn ops)))
          ∙ to_gone nn d (top_of nn (gives b) (mids ++ low)) (code_of rest) (top_of_extra nn (gives b) (mids ++ low) (omega arith))
          ∙ e

      get_uses : (y : ℕ) → Takes (gets (slice_get c.locals y)) own mids → V (code_of (flat_plain nn c ls ops (mids ++ low) (local_get y) rest)) ≡ V (plain (local_get y) k)
      unfolding code_of
      get_uses y t = by (slice_get (locals_of m f) y) refl t
        where
          by : (o : Option ValType) → slice_get (locals_of m f) y ≡ o → Takes (gets o) own mids
              → V (plain (local_get y) (plain (local_set (top nn (mids ++ low))) (code_of rest))) ≡ V (plain (local_get y) k)
          by None eo t = absurd t
          by (Some u) eo t =
              got_kept nn d y (plain (local_set (top nn (mids ++ low))) (code_of rest)) (own_local y u eo)
              ∙ ap (plain (local_get y)) (set_gone nn d (top nn (mids ++ low)) (code_of rest) (top_extra nn u (t.0 ++ low) (mids ++ low) (ap (λ z. z ++ low) t.2)) ∙ e)
              ∙ sym (got_kept nn d y k (own_local y u eo))

      set_uses : (y : ℕ) → Takes (sets (slice_get c.locals y)) own mids → V (code_of (flat_plain nn c ls ops (mids ++ low) (local_set y) rest)) ≡ V (plain (local_set y) k)
      unfolding code_of
      set_uses y t = by (slice_get (locals_of m f) y) refl t
        where
          by : (o : Option ValType) → slice_get (locals_of m f) y ≡ o → Takes (sets o) own mids → V (plain (local_get (top nn ops)) (plain (local_set y) (code_of rest))) ≡ V (plain (local_set y) k)
          by None eo t = absurd t
          by (Some u) eo t =
              got_gone nn d (top nn ops) (plain (local_set y) (code_of rest)) (top_extra nn u (t.0 ++ low) ops (ap (λ z. z ++ low) t.1)) ∙ set_kept nn d y (code_of rest) (own_local y u eo)
              ∙ ap (plain (local_set y)) e ∙ sym (set_kept nn d y k (own_local y u eo))

      tee_uses : (y : ℕ) → Takes (tees (slice_get c.locals y)) own mids → V (code_of (flat_plain nn c ls ops (mids ++ low) (local_tee y) rest)) ≡ V (plain (local_tee y) k)
      unfolding code_of
      tee_uses y t = by (slice_get (locals_of m f) y) refl t
        where
          by : (o : Option ValType) → slice_get (locals_of m f) y ≡ o → Takes (tees o) own mids → V (plain (local_get (top nn ops)) (plain (local_set y) (code_of rest))) ≡ V (plain (local_tee y) k)
          by None eo t = absurd t
          by (Some u) eo t =
              got_gone nn d (top nn ops) (plain (local_set y) (code_of rest)) (top_extra nn u (t.0 ++ low) ops (ap (λ z. z ++ low) t.1)) ∙ set_kept nn d y (code_of rest) (own_local y u eo)
              ∙ ap (plain (local_set y)) e ∙ sym (tee_kept nn d y k (own_local y u eo))

      if_uses : (j : ℕ) → Takes (may_jump (slice_get ls j)) own mids → V (code_of (flat_plain nn c ls ops (mids ++ low) (br_if j) rest)) ≡ V (plain (br_if j) k)
      unfolding code_of uses
      if_uses j t = by (slice_get ls j) refl t
        where
          by : (o : Option (Option ValType)) → slice_get ls j ≡ o → Takes (may_jump o) own mids
              → V (code_of (carry nn ls (drop 1 ops) j (leaps_if (Local (top nn ops)) j rest))) ≡ V (plain (br_if j) k)
          by None eo t = absurd t
          by (Some r) eo t =
              let all : ops ≡ I32 ∷ (listed r ++ (t.0 ++ low)) = ap (λ z. z ++ low) t.1 ∙ ap (λ z. I32 ∷ z) (append_assoc (listed r) t.0 low) in
              carry_at nn d ls j r (drop 1 ops) (t.0 ++ low) (leaps_if (Local (top nn ops)) j rest) eo (ap (drop 1) all)
              ∙ got_gone nn d (top nn ops) (plain (br_if j) (code_of rest)) (top_extra nn I32 (listed r ++ (t.0 ++ low)) ops all) ∙ ap (plain (br_if j)) e

      call_uses : (y : ℕ) → Takes (calls_sig (slice_get c.funcs y)) own mids → V (code_of (flat_plain nn c ls ops (mids ++ low) (call y) rest)) ≡ V (plain (call y) k)
      unfolding code_of followed_by uses
      call_uses y t = by (slice_get (func_types m) y) refl t
        where
          by : (o : Option FuncType) → slice_get (func_types m) y ≡ o → Takes (calls_sig o) own mids → V (code_of (flat_plain nn c ls ops (mids ++ low) (call y) rest)) ≡ V (plain (call y) k)
          by None eo t = absurd t
          by (Some u) eo t =
              let v : FuncType = or_empty (slice_get c.funcs y) in
              let eu : u ≡ v = sym (ap or_empty eo) in
              let lb = length-append mids low in
              let lm : length mids ≡ length (reverse u.results) + length t.0 = ap length t.2 ∙ length-append (reverse u.results) t.0 in
              let rr : length (reverse u.results) ≡ length v.results = length-reverse u.results ∙ ap (λ (q : FuncType). length q.results) eu in
              let xs : List ℕ = reverse (slots nn ops) in
              slots_gone nn d (last_of (length v.params) xs) (plain (call y) (set_to (top_of nn (length v.results) (mids ++ low)) (code_of rest)))
              (all_dropped (Extra nn) (length xs - length v.params) xs (all_reversed (Extra nn) (slots nn ops) (extra_slots nn ops)))
              ∙ ap (plain (call y)) (to_gone nn d (top_of nn (length v.results) (mids ++ low)) (code_of rest) (top_of_extra nn (length v.results) (mids ++ low) (omega arith)) ∙ e)

      indirect_uses : (sort : ℕ) → Takes (calls_at c.table (slice_get m.types sort)) own mids
          → V (code_of (flat_plain nn c ls ops (mids ++ low) (call_indirect sort) rest)) ≡ V (plain (call_indirect sort) k)
      unfolding code_of followed_by uses
      indirect_uses sort t = by c.table (slice_get m.types sort) refl t
        where
          by : (b : Bool) (o : Option FuncType) → slice_get m.types sort ≡ o → Takes (calls_at b o) own mids
              → V (code_of (flat_plain nn c ls ops (mids ++ low) (call_indirect sort) rest)) ≡ V (plain (call_indirect sort) k)
          by b None eo t = absurd t
          by false (Some u) eo t = absurd t
          by true (Some u) eo t =
              let v : FuncType = or_empty (slice_get m.types sort) in
              let eu : u ≡ v = sym (ap or_empty eo) in
              let lb = length-append mids low in
              let lm : length mids ≡ length (reverse u.results) + length t.0 = ap length t.2 ∙ length-append (reverse u.results) t.0 in
              let rr : length (reverse u.results) ≡ length v.results = length-reverse u.results ∙ ap (λ (q : FuncType). length q.results) eu in
              let xs : List ℕ = reverse (slots nn ops) in
              slots_gone nn d (last_of (suc (length v.params)) xs) (plain (call_indirect sort) (set_to (top_of nn (length v.results) (mids ++ low)) (code_of rest)))
              (all_dropped (Extra nn) (length xs - suc (length v.params)) xs (all_reversed (Extra nn) (slots nn ops) (extra_slots nn ops)))
              ∙ ap (plain (call_indirect sort)) (to_gone nn d (top_of nn (length v.results) (mids ++ low)) (code_of rest) (top_of_extra nn (length v.results) (mids ++ low) (omega arith)) ∙ e)

      on_uses : (i : Plain) → is_last i ≡ false → Takes (sig c ls i) own mids → V (code_of (flat_plain nn c ls ops (mids ++ low) i rest)) ≡ V (plain i k)
      on_uses (basic b) z t = basic_uses b t
      on_uses (local_get y) z t = get_uses y t
      on_uses (local_set y) z t = set_uses y t
      on_uses (local_tee y) z t = tee_uses y t
      on_uses (br j) z t = cc
      on_uses (br_if j) z t = if_uses j t
      on_uses (br_table ts j) z t = cc
      on_uses return z t = cc
      on_uses unreachable z t = cc
      on_uses (call y) z t = call_uses y t
      on_uses (call_indirect sort) z t = indirect_uses sort t

    -- one behind which control never goes on
    leap_uses : (j : ℕ) (r : Option ValType) (more : List ValType) → slice_get ls j ≡ Some r → ops ≡ listed r ++ more → V (code_of (carry nn ls ops j (leaps j no_more))) ≡ V (plain (br j) done)
    unfolding code_of uses
    leap_uses j r more er e = carry_at nn d ls j r ops more (leaps j no_more) er e

    br_uses : (j : ℕ) → Takes (jump_sig (slice_get ls j)) own mids → V (code_of (carry nn ls ops j (leaps j no_more))) ≡ V (plain (br j) done)
    br_uses j t = by (slice_get ls j) refl t
      where
        by : (o : Option (Option ValType)) → slice_get ls j ≡ o → Takes (jump_sig o) own mids → V (code_of (carry nn ls ops j (leaps j no_more))) ≡ V (plain (br j) done)
        by None eo t = absurd t
        by (Some r) eo t = leap_uses j r (t.0 ++ low) eo (ap (λ z. z ++ low) t.1 ∙ append_assoc (listed r) t.0 low)

    table_uses : (ts : List ℕ) (j : ℕ) (behind : List ValType) (rest : Stmts) → Takes (jumps_sig ls ts (slice_get ls j)) own mids
        → V (code_of (flat_plain nn c ls ops behind (br_table ts j) rest)) ≡ V (plain (br_table ts j) done)
    unfolding code_of uses
    table_uses ts j behind rest t = by (slice_get ls j) refl t
      where
        by : (o : Option (Option ValType)) → slice_get ls j ≡ o → Takes (jumps_sig ls ts o) own mids
            → V (code_of (carry_all nn ls (drop 1 ops) ts (carry nn ls (drop 1 ops) j (leaps_by (Local (top nn ops)) ts j no_more)))) ≡ V (plain (br_table ts j) done)
        by None eo t = absurd t
        by (Some r) eo t =
            let q = table_typed ls ts r own mids t in
            let all : ops ≡ I32 ∷ (listed r ++ (q.1 ++ low)) = ap (λ z. z ++ low) q.2 ∙ ap (λ z. I32 ∷ z) (append_assoc (listed r) q.1 low) in
            carry_each nn d ls ts r (drop 1 ops) (q.1 ++ low) (carry nn ls (drop 1 ops) j (leaps_by (Local (top nn ops)) ts j no_more)) q.0 (ap (drop 1) all)
            ∙ carry_at nn d ls j r (drop 1 ops) (q.1 ++ low) (leaps_by (Local (top nn ops)) ts j no_more) eo (ap (drop 1) all)
            ∙ got_gone nn d (top nn ops) (plain (br_table ts j) done) (top_extra nn I32 (listed r ++ (q.1 ++ low)) ops all)

    last_uses : (i : Plain) (behind : List ValType) (rest : Stmts) → d ≡ length ls - 1 → slice_get ls (length ls - 1) ≡ Some c.result → is_last i ≡ true → Takes (sig c ls i) own mids
        → V (code_of (flat_plain nn c ls ops behind i rest)) ≡ V (plain i done)
    unfolding code_of uses
    last_uses (br j) behind rest ed la z t = br_uses j t
    last_uses (br_table ts j) behind rest ed la z t = table_uses ts j behind rest t
    last_uses return behind rest ed la z t =
        leap_uses (length ls - 1) c.result (t.0 ++ low) la (ap (λ q. q ++ low) t.1 ∙ append_assoc (listed c.result) t.0 low) ∙ ap (λ j. plain (br j) done) (sym ed)
    last_uses unreachable behind rest ed la z t = refl
    last_uses (basic b) behind rest ed la z t = cc
    last_uses (local_get y) behind rest ed la z t = cc
    last_uses (local_set y) behind rest ed la z t = cc
    last_uses (local_tee y) behind rest ed la z t = cc
    last_uses (br_if j) behind rest ed la z t = cc
    last_uses (call y) behind rest ed la z t = cc
    last_uses (call_indirect sort) behind rest ed la z t = cc

  -- ---- code

  abbrev W : (d : ℕ) → Code → Code
  W d = uses (names m f).first d

  code_uses : (q : Option ValType) (lt : List (Option ValType)) (code : Code) (outs own low : List ValType) → slice_get (q ∷ lt) (length lt) ≡ Some c.result
      → (q ≡ None) ⊎ (outs ≡ listed q) → Good nn c (q ∷ lt) code outs own low
      → W (length lt) (code_of (flat nn c (q ∷ lt) code (own ++ low))) ≡ W (length lt) (pruned code)
  unfolding flat Good uses code_of pruned
  code_uses q lt done outs own low la (inl none) g = carry_at nn (length lt) (q ∷ lt) 0 None (own ++ low) (own ++ low) no_more (ap Some none) refl
  code_uses q lt done outs own low la (inr value) g = carry_at nn (length lt) (q ∷ lt) 0 q (own ++ low) low no_more refl (ap (λ z. z ++ low) (g.1 ∙ value))
  code_uses q lt (plain i rest) outs own low la hd g = by (is_last i) refl (λ gr. code_uses q lt rest outs g.1 low la hd gr) g.3
    where
      by : (b : Bool) → is_last i ≡ b → (Good nn c (q ∷ lt) rest outs g.1 low → W (length lt) (code_of (flat nn c (q ∷ lt) rest (g.1 ++ low))) ≡ W (length lt) (pruned rest))
          → GoesOn b (Good nn c (q ∷ lt) rest outs g.1 low)
          → W (length lt) (code_of (flat_plain nn c (q ∷ lt) (own ++ low) (after (sig c (q ∷ lt) i) (own ++ low)) i (flat nn c (q ∷ lt) rest (after (sig c (q ∷ lt) i) (own ++ low)))))
          ≡ W (length lt) (plain i (if b then done else pruned rest))
      by true z ih gr =
          let one : length lt ≡ length (q ∷ lt) - 1 = omega arith in
          last_uses (q ∷ lt) (length lt) own g.1 low i (after (sig c (q ∷ lt) i) (own ++ low)) (flat nn c (q ∷ lt) rest (after (sig c (q ∷ lt) i) (own ++ low))) one
          (subst (λ j. slice_get (q ∷ lt) j ≡ Some c.result) one la) z g.2
      by false z ih gr =
          ap (λ behind. W (length lt) (code_of (flat_plain nn c (q ∷ lt) (own ++ low) behind i (flat nn c (q ∷ lt) rest behind)))) (after_all c (q ∷ lt) i own g.1 low (own ++ low) z g.2 refl)
          ∙ on_uses (q ∷ lt) (length lt) own g.1 low (flat nn c (q ∷ lt) rest (g.1 ++ low)) (pruned rest) (ih gr) i z g.2
  code_uses q lt (nest a_block r body rest) outs own low la hd g =
      let assoc : (listed r ++ own) ++ low ≡ listed r ++ (own ++ low) = append_assoc (listed r) own low in
      let inner = code_uses r (q ∷ lt) body (listed r) [] (own ++ low) la (inr refl) g.2 in
      let behind = arrive_gone nn (length lt) (length (q ∷ lt)) r (own ++ low) (flat nn c (q ∷ lt) rest (listed r ++ (own ++ low)))
      ∙ subst (λ ts. W (length lt) (code_of (flat nn c (q ∷ lt) rest ts)) ≡ W (length lt) (pruned rest)) assoc (code_uses q lt rest outs (listed r ++ own) low la hd g.3) in
      ap (λ k. nest a_block None k (W (length lt) (code_of (arrive nn (length (q ∷ lt)) r (own ++ low) (flat nn c (q ∷ lt) rest (listed r ++ (own ++ low))))))) inner
      ∙ ap (nest a_block None (W (suc (length lt)) (pruned body))) behind
  code_uses q lt (nest a_loop r body rest) outs own low la hd g =
      let assoc : (listed r ++ own) ++ low ≡ listed r ++ (own ++ low) = append_assoc (listed r) own low in
      let inner = code_uses None (q ∷ lt) body (listed r) [] (own ++ low) la (inl refl) g.2 in
      let behind = subst (λ ts. W (length lt) (code_of (flat nn c (q ∷ lt) rest ts)) ≡ W (length lt) (pruned rest)) assoc (code_uses q lt rest outs (listed r ++ own) low la hd g.3) in
      ap (λ k. nest a_loop None k (W (length lt) (code_of (flat nn c (q ∷ lt) rest (listed r ++ (own ++ low)))))) inner
      ∙ ap (nest a_loop None (W (suc (length lt)) (pruned body))) behind
  code_uses q lt (branch r a b rest) outs own low la hd g =
      let below : List ValType = g.2 in
      let eo : drop 1 (own ++ low) ≡ below ++ low = ap (λ z. drop 1 (z ++ low)) g.3 in
      let assoc : (listed r ++ below) ++ low ≡ listed r ++ (below ++ low) = append_assoc (listed r) below low in
      let ua = code_uses r (q ∷ lt) a (listed r) [] (below ++ low) la (inr refl) g.4 in
      let ub = code_uses r (q ∷ lt) b (listed r) [] (below ++ low) la (inr refl) g.5 in
      let behind = arrive_gone nn (length lt) (length (q ∷ lt)) r (below ++ low) (flat nn c (q ∷ lt) rest (listed r ++ (below ++ low)))
      ∙ subst (λ ts. W (length lt) (code_of (flat nn c (q ∷ lt) rest ts)) ≡ W (length lt) (pruned rest)) assoc (code_uses q lt rest outs (listed r ++ below) low la hd g.6) in
      let flat_code : List ValType → Code = λ ds. branch None (code_of (flat nn c (r ∷ q ∷ lt) a ds)) (code_of (flat nn c (r ∷ q ∷ lt) b ds))
      (code_of (arrive nn (length (q ∷ lt)) r ds (flat nn c (q ∷ lt) rest (listed r ++ ds)))) in
      got_gone nn (length lt) (top nn (own ++ low)) (flat_code (drop 1 (own ++ low))) (top_extra nn I32 (below ++ low) (own ++ low) (ap (λ z. z ++ low) g.3))
      ∙ ap (λ ds. W (length lt) (flat_code ds)) eo
      ∙ ap (λ k. branch None k (W (suc (length lt)) (code_of (flat nn c (r ∷ q ∷ lt) b (below ++ low))))
      (W (length lt) (code_of (arrive nn (length (q ∷ lt)) r (below ++ low) (flat nn c (q ∷ lt) rest (listed r ++ (below ++ low))))))) ua
      ∙ ap (λ k. branch None (W (suc (length lt)) (pruned a)) k (W (length lt) (code_of (arrive nn (length (q ∷ lt)) r (below ++ low) (flat nn c (q ∷ lt) rest (listed r ++ (below ++ low))))))) ub
      ∙ ap (branch None (W (suc (length lt)) (pruned a)) (W (suc (length lt)) (pruned b))) behind

  pub body_uses : (x : ℕ) → Good nn c (c.result ∷ []) f.body (listed c.result) [] [] → uses nn.first 0 (code_of (flattened m x f).body) ≡ uses nn.first 0 (pruned f.body)
  body_uses x g = code_uses c.result [] f.body (listed c.result) [] [] refl (inr refl) g

pub own_uses : (m : Module) (x : ℕ) (f : Func) → Valid m → defined_at m x ≡ Some f → uses (length (locals_of m f)) 0 (code_of (flattened m x f).body) ≡ uses (length (locals_of m f)) 0 (pruned f.body)
own_uses m x f v is = body_uses m f x (good_func m f v x is)
