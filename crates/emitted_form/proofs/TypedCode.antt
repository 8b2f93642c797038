-- The immediates of typed code are in range where its constants and offsets are.
use Rattle.std.proofs.Common.{◌≡◌, ℕ, ◌+◌, ◌<◌, ◌≤◌, ◌^◌, List, [], ◌∷◌, length, Option, Some, None, Bool, true, false, refl, arith}
use Rattle.std.specs.Prelude.{slice_get, nat_lt, if◌then◌else◌}
use Rattle.std.specs.List.{All}
use Rattle.std.proofs.lemmas.Bool.{and_parts, ltb-true}
use Rattle.std.proofs.lemmas.List.Elements.{All-nil, All-cons}
use Rattle.std.proofs.lemmas.Option.{slice_get_within}
use Rattle.wa_types.specs.declared.values.ValType.{ValType}
use Rattle.wa_types.specs.declared.values.ValType.TheVariants.{I32}
use Rattle.wa_types.specs.Counts.{depth_of}
use Rattle.wa_types.specs.Sizes.{PlainFits, CodeFits}
use Rattle.wa_types.specs.Syntax.{basic, local_get, local_set, local_tee, br, br_if, br_table, return, unreachable, call, call_indirect, Plain, Code, done, plain, nest, branch, FuncType}
use Rattle.wa_types.specs.declared.rules.Rule.TheVariants.{UnknownLabel, StackTypes}
use Rattle.wa_types.specs.Typing.{Around, leaves, lacks, all_there, all_alike, jump, may_jump, jumps, calls, calls_at, gets, sets, tees, Takes, sig, listed, label, Types}
use Rattle.emitted_form.proofs.BasicCode.{PlainBasic, BasicsFit}

-- few functions, types and locals stand around code
pub record AroundFew (c : Around) : Type 0 where
  pub funcs : length c.funcs ≤ 2 ^ 32
  pub types : length c.types ≤ 2 ^ 32
  pub locals : length c.locals ≤ 2 ^ 32

module _ (c : Around) (few : AroundFew c) (ls : List (Option ValType)) (shallow : length ls ≤ 2 ^ 32) where
  got_there : (x : ℕ) (o : Option ValType) → slice_get c.locals x ≡ o → (ins outs : List ValType) → Takes (gets o) ins outs → x < 2 ^ 32
  got_there x None e ins outs h = absurd h
  got_there x (Some t) e ins outs h = let l = slice_get_within c.locals x t e in omega (arith, l, few.locals)

  set_there : (x : ℕ) (o : Option ValType) → slice_get c.locals x ≡ o → (ins outs : List ValType) → Takes (sets o) ins outs → x < 2 ^ 32
  set_there x None e ins outs h = absurd h
  set_there x (Some t) e ins outs h = let l = slice_get_within c.locals x t e in omega (arith, l, few.locals)

  teed_there : (x : ℕ) (o : Option ValType) → slice_get c.locals x ≡ o → (ins outs : List ValType) → Takes (tees o) ins outs → x < 2 ^ 32
  teed_there x None e ins outs h = absurd h
  teed_there x (Some t) e ins outs h = let l = slice_get_within c.locals x t e in omega (arith, l, few.locals)

  jump_there : (l : ℕ) (o : Option (Option ValType)) → slice_get ls l ≡ o → (ins outs : List ValType) → Takes (jump o) ins outs → l < 2 ^ 32
  jump_there l None e ins outs h = absurd h
  jump_there l (Some r) e ins outs h = let k = slice_get_within ls l r e in omega (arith, k, shallow)

  may_jump_there : (l : ℕ) (o : Option (Option ValType)) → slice_get ls l ≡ o → (ins outs : List ValType) → Takes (may_jump o) ins outs → l < 2 ^ 32
  may_jump_there l None e ins outs h = absurd h
  may_jump_there l (Some r) e ins outs h = let k = slice_get_within ls l r e in omega (arith, k, shallow)

  labels_there : (labels : List ℕ) → all_there ls labels ≡ true → All (λ l. l < 2 ^ 32) labels
  labels_there [] h = All-nil (λ l. l < 2 ^ 32)
  labels_there (l ∷ labels) h =
      let p = and_parts (nat_lt l (length ls)) (all_there ls labels) h in
      let k = ltb-true l (length ls) p.0 in
      All-cons (λ l. l < 2 ^ 32) l labels (omega (arith, k, shallow)) (labels_there labels p.1)

  table_there : (labels : List ℕ) (l : ℕ) (o : Option (Option ValType)) → slice_get ls l ≡ o → (ins outs : List ValType) → Takes (jumps ls labels o) ins outs
      → All (λ l. l < 2 ^ 32) labels × (l < 2 ^ 32)
  table_there labels l None e ins outs h = absurd h
  table_there labels l (Some r) e ins outs h = by (all_there ls labels) refl h
    where
      by : (b : Bool) → all_there ls labels ≡ b → Takes (if b then (if all_alike ls r labels then leaves (I32 ∷ listed r) else lacks StackTypes) else lacks UnknownLabel) ins outs
          → All (λ l. l < 2 ^ 32) labels × (l < 2 ^ 32)
      by true t h = let k = slice_get_within ls l r e in (labels_there labels t, omega (arith, k, shallow))
      by false t h = absurd h

  call_there : (x : ℕ) (o : Option FuncType) → slice_get c.funcs x ≡ o → (ins outs : List ValType) → Takes (calls o) ins outs → x < 2 ^ 32
  call_there x None e ins outs h = absurd h
  call_there x (Some t) e ins outs h = let l = slice_get_within c.funcs x t e in omega (arith, l, few.funcs)

  sort_there : (x : ℕ) (b : Bool) (o : Option FuncType) → slice_get c.types x ≡ o → (ins outs : List ValType) → Takes (calls_at b o) ins outs → x < 2 ^ 32
  sort_there x b None e ins outs h = absurd h
  sort_there x true (Some t) e ins outs h = let l = slice_get_within c.types x t e in omega (arith, l, few.types)
  sort_there x false (Some t) e ins outs h = absurd h

  plain_fits : (p : Plain) (ins outs : List ValType) → Takes (sig c ls p) ins outs → PlainBasic p → PlainFits p
  plain_fits (basic b) ins outs h k = k
  plain_fits (local_get x) ins outs h k = got_there x (slice_get c.locals x) refl ins outs h
  plain_fits (local_set x) ins outs h k = set_there x (slice_get c.locals x) refl ins outs h
  plain_fits (local_tee x) ins outs h k = teed_there x (slice_get c.locals x) refl ins outs h
  plain_fits (br l) ins outs h k = jump_there l (slice_get ls l) refl ins outs h
  plain_fits (br_if l) ins outs h k = may_jump_there l (slice_get ls l) refl ins outs h
  plain_fits (br_table labels l) ins outs h k = table_there labels l (slice_get ls l) refl ins outs h
  plain_fits return ins outs h k = tt
  plain_fits unreachable ins outs h k = tt
  plain_fits (call x) ins outs h k = call_there x (slice_get c.funcs x) refl ins outs h
  plain_fits (call_indirect x) ins outs h k = sort_there x c.table (slice_get c.types x) refl ins outs h

-- code that isn't too deep under these labels
pub typed_fits : (c : Around) → AroundFew c → (ls : List (Option ValType)) (code : Code) (outs ins : List ValType) → Types c ls code outs ins → BasicsFit code
    → length ls + depth_of code ≤ 2 ^ 32 → CodeFits code
unfolding Types depth_of
typed_fits c few ls done outs ins h b d = tt
typed_fits c few ls (plain p rest) outs ins h b d =
    (plain_fits c few ls (omega (arith, d)) p ins h.0 h.1 b.0, typed_fits c few ls rest outs h.0 h.2 b.1 d)
typed_fits c few ls (nest s r body rest) outs ins h b d =
    (typed_fits c few (label s r ∷ ls) body (listed r) [] h.0 b.0 (grind arith), typed_fits c few ls rest outs _ h.1 b.1 (grind arith))
typed_fits c few ls (branch r x y rest) outs ins h b d =
    (typed_fits c few (r ∷ ls) x (listed r) [] h.2 b.0 (grind arith), typed_fits c few (r ∷ ls) y (listed r) [] h.3 b.1 (grind arith), typed_fits c few ls rest outs _ h.4 b.2 (grind arith))
