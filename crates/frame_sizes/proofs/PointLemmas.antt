-- The operands at the points of code, one instruction at a time.
use Rattle.std.proofs.Common.{◌≡◌, ◌++◌, List, [], ◌∷◌, reverse, drop, Option, None, true, false, refl, ap, sym, ◌∙◌, append_assoc}
use Rattle.std.specs.Prelude.{Vec}
use Rattle.std.specs.declared.alloc.Global.{Global}
use Rattle.wa_types.specs.declared.values.ValType.{ValType}
use Rattle.wa_types.specs.Syntax.{Plain, basic, local_get, local_set, local_tee, br, br_if, br_table, return, unreachable, call, call_indirect, Shape, Code, done, plain, nest, branch}
use Rattle.wa_types.specs.Pruned.{is_last}
use Rattle.wa_types.specs.Typing.{sig, Types, listed}
use Rattle.wa_types.specs.Pausing.{callee}
use Rattle.wa_types.specs.Points.{after, unless_last, points, call_points, if_call}
use Rattle.wa_types.proofs.PointLemmas.{takes_after, passes}
use Rattle.wasm_validate.specs.Walk.{Walk, Stays}
use Rattle.frame_sizes.specs.Points.{lists_of, all_of, points_at, calls_at, points_inside, calls_inside}

pub lists_more : (xs : List (Vec ValType Global)) (x : Vec ValType Global) → lists_of (xs ++ x ∷ []) ≡ lists_of xs ++ reverse x.items ∷ []
lists_more [] x = refl
lists_more (y ∷ ys) x = ap (λ z. reverse y.items ∷ z) (lists_more ys x)

pub one_more : (xs : List (Vec ValType Global)) (x : Vec ValType Global) (types all : List ValType) → x.items ≡ types → reverse types ≡ all → lists_of (xs ++ x ∷ []) ≡ lists_of xs ++ all ∷ []
one_more xs x types all e f = lists_more xs x ∙ ap (λ ts. lists_of xs ++ ts ∷ []) (ap reverse e ∙ f)

pub ruleset putting = (one_more)

-- ---- first instructions

-- what an instruction leaves
left_by : (w : Walk) (p : Plain) (new : List ValType) → is_last p ≡ false → Types w.around w.labels (plain p done) new w.own → after (sig w.around w.labels p) w.own ≡ new
unfolding Types
left_by w p new on t = sym (takes_after (sig w.around w.labels p) w.own t.0 (passes w.around w.labels p on) t.1) ∙ t.2

module _ (w u : Walk) (rest : Code) (st : Stays w u) where
  -- from where the walk goes on
  on_points : points w.around w.labels rest w.under u.own ≡ points_at u rest
  on_points =
      ap (λ c. points c w.labels rest w.under u.own) (sym st.around) ∙ ap (λ ls. points u.around ls rest w.under u.own) (sym st.labels)
      ∙ ap (λ us. points u.around u.labels rest us u.own) (sym st.under)

  on_calls : call_points w.around w.labels rest w.under u.own ≡ calls_at u rest
  on_calls =
      ap (λ c. call_points c w.labels rest w.under u.own) (sym st.around) ∙ ap (λ ls. call_points u.around ls rest w.under u.own) (sym st.labels)
      ∙ ap (λ us. call_points u.around u.labels rest us u.own) (sym st.under)

  -- a plain instruction
  pub plain_points : (p : Plain) → is_last p ≡ false → Types w.around w.labels (plain p done) u.own w.own
      → points_at w (plain p rest) ≡ all_of w ∷ (points_inside w (plain p done) ++ points_at u rest)
  unfolding points
  plain_points p on t =
      ap (λ b. all_of w ∷ unless_last b (points w.around w.labels rest w.under (after (sig w.around w.labels p) w.own))) on
      ∙ ap (λ own. all_of w ∷ points w.around w.labels rest w.under own) (left_by w p u.own on t) ∙ ap (λ ps. all_of w ∷ ps) on_points

  pub plain_calls : (p : Plain) → is_last p ≡ false → Types w.around w.labels (plain p done) u.own w.own
      → calls_at w (plain p rest) ≡ calls_inside w (plain p done) ++ calls_at u rest
  unfolding call_points
  plain_calls p on t =
      ap (λ b. if_call (callee p) (all_of w) ++ unless_last b (call_points w.around w.labels rest w.under (after (sig w.around w.labels p) w.own))) on
      ∙ ap (λ own. if_call (callee p) (all_of w) ++ call_points w.around w.labels rest w.under own) (left_by w p u.own on t) ∙ ap (λ ps. if_call (callee p) (all_of w) ++ ps) on_calls

  -- a construct
  pub nest_points : (s : Shape) (r : Option ValType) (body : Code) → Types w.around w.labels (nest s r body done) u.own w.own
      → points_at w (nest s r body rest) ≡ all_of w ∷ (points_inside w (nest s r body done) ++ points_at u rest)
  unfolding points Types
  nest_points s r body t =
      ap (λ own. all_of w ∷ (points_inside w (nest s r body done) ++ points w.around w.labels rest w.under own)) t.1 ∙ ap (λ ps. all_of w ∷ (points_inside w (nest s r body done) ++ ps)) on_points

  pub nest_calls : (s : Shape) (r : Option ValType) (body : Code) → Types w.around w.labels (nest s r body done) u.own w.own
      → calls_at w (nest s r body rest) ≡ calls_inside w (nest s r body done) ++ calls_at u rest
  unfolding call_points Types
  nest_calls s r body t =
      ap (λ own. calls_inside w (nest s r body done) ++ call_points w.around w.labels rest w.under own) t.1 ∙ ap (λ ps. calls_inside w (nest s r body done) ++ ps) on_calls

  pub branch_points : (r : Option ValType) (a b : Code) → Types w.around w.labels (branch r a b done) u.own w.own
      → points_at w (branch r a b rest) ≡ all_of w ∷ (points_inside w (branch r a b done) ++ points_at u rest)
  unfolding points Types
  branch_points r a b t =
      let one : List (List ValType) = points w.around (r ∷ w.labels) a (drop 1 w.own ++ w.under) [] in
      let two : List (List ValType) = points w.around (r ∷ w.labels) b (drop 1 w.own ++ w.under) [] in
      ap (λ own. all_of w ∷ (one ++ (two ++ points w.around w.labels rest w.under own))) (ap (λ (xs : List ValType). listed r ++ drop 1 xs) t.1 ∙ t.4)
      ∙ ap (λ ps. all_of w ∷ ps) (sym (append_assoc one two (points w.around w.labels rest w.under u.own))) ∙ ap (λ ps. all_of w ∷ ((one ++ two) ++ ps)) on_points

  pub branch_calls : (r : Option ValType) (a b : Code) → Types w.around w.labels (branch r a b done) u.own w.own
      → calls_at w (branch r a b rest) ≡ calls_inside w (branch r a b done) ++ calls_at u rest
  unfolding call_points Types
  branch_calls r a b t =
      let one : List (List ValType) = call_points w.around (r ∷ w.labels) a (drop 1 w.own ++ w.under) [] in
      let two : List (List ValType) = call_points w.around (r ∷ w.labels) b (drop 1 w.own ++ w.under) [] in
      ap (λ own. one ++ (two ++ call_points w.around w.labels rest w.under own)) (ap (λ (xs : List ValType). listed r ++ drop 1 xs) t.1 ∙ t.4)
      ∙ sym (append_assoc one two (call_points w.around w.labels rest w.under u.own)) ∙ ap (λ ps. (one ++ two) ++ ps) on_calls

-- ---- ends of sequences

pub done_points : (w : Walk) → points_at w done ≡ all_of w ∷ []
unfolding points
done_points w = refl

pub done_calls : (w : Walk) → calls_at w done ≡ []
unfolding call_points
done_calls w = refl

pub last_points : (w : Walk) (p : Plain) (rest : Code) → is_last p ≡ true → points_at w (plain p rest) ≡ all_of w ∷ []
unfolding points
last_points w p rest e = ap (λ b. all_of w ∷ unless_last b (points w.around w.labels rest w.under (after (sig w.around w.labels p) w.own))) e

-- an instruction after which control never goes on is no call
last_is_none : (p : Plain) → is_last p ≡ true → callee p ≡ None
last_is_none (basic b) e = cc
last_is_none (local_get x) e = cc
last_is_none (local_set x) e = cc
last_is_none (local_tee x) e = cc
last_is_none (br l) e = refl
last_is_none (br_if l) e = cc
last_is_none (br_table ls l) e = refl
last_is_none return e = refl
last_is_none unreachable e = refl
last_is_none (call x) e = cc
last_is_none (call_indirect x) e = cc

pub last_calls : (w : Walk) (p : Plain) (rest : Code) → is_last p ≡ true → calls_at w (plain p rest) ≡ []
unfolding call_points
last_calls w p rest e =
    ap (λ b. if_call (callee p) (all_of w) ++ unless_last b (call_points w.around w.labels rest w.under (after (sig w.around w.labels p) w.own))) e
    ∙ ap (λ c. if_call c (all_of w) ++ []) (last_is_none p e)
