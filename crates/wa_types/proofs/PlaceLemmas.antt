-- Each list by the places of a function's calls has one element a call.
use Rattle.std.proofs.Common.{arith, ◌≡◌, ◌++◌, drop, length, length-append, List, [], ◌∷◌, Option, Some, None, Bool, true, false, if◌then◌else◌, refl}
use Rattle.wa_types.specs.declared.values.ValType.{ValType}
use Rattle.wa_types.specs.Syntax.{Plain, basic, local_get, local_set, local_tee, br, br_if, br_table, return, unreachable, call, call_indirect, Code, done, plain, nest, branch}
use Rattle.wa_types.specs.Pruned.{is_last, pruned}
use Rattle.wa_types.specs.Typing.{Around, sig, listed, label}
use Rattle.wa_types.specs.Pausing.{Callee, callee, callee_onto, calls_of}
use Rattle.wa_types.specs.Points.{after, unless_last, if_call, call_points}
use Rattle.wa_types.specs.Liveness.{Label, Position, position, label_of, goes_behind, if_call_here, behind_calls}

onto_position : (o : Option Callee) (at : Position) (rest : List Position) (cs : List Callee) → length rest ≡ length cs → length (if_call_here o at rest) ≡ length (callee_onto o cs)
onto_position None at rest cs e = e
onto_position (Some x) at rest cs e = omega (arith, e)

pub behind_each : (ls : List Label) (k : Code) → length (behind_calls ls k) ≡ length (calls_of k)
unfolding behind_calls calls_of
behind_each ls done = refl
behind_each ls (plain p rest) = onto_position (callee p) (position rest ls) (behind_calls ls rest) (calls_of rest) (behind_each ls rest)
behind_each ls (nest s r body rest) =
    omega (
      arith,
      length-append (behind_calls (label_of s body rest ∷ ls) body) (behind_calls ls rest),
      length-append (calls_of body) (calls_of rest),
      behind_each (label_of s body rest ∷ ls) body,
      behind_each ls rest,
    )
behind_each ls (branch r a b rest) =
    omega (
      arith,
      length-append (behind_calls (goes_behind rest ∷ ls) a) (behind_calls (goes_behind rest ∷ ls) b ++ behind_calls ls rest),
      length-append (behind_calls (goes_behind rest ∷ ls) b) (behind_calls ls rest),
      length-append (calls_of a ++ calls_of b) (calls_of rest),
      length-append (calls_of a) (calls_of b),
      behind_each (goes_behind rest ∷ ls) a,
      behind_each (goes_behind rest ∷ ls) b,
      behind_each ls rest,
    )

-- a last instruction is no call
pub last_no_call : (p : Plain) → is_last p ≡ true → callee p ≡ None
last_no_call (basic b) e = refl
last_no_call (local_get x) e = refl
last_no_call (local_set x) e = refl
last_no_call (local_tee x) e = refl
last_no_call (br l) e = refl
last_no_call (br_if l) e = refl
last_no_call (br_table labels l) e = refl
last_no_call return e = refl
last_no_call unreachable e = refl
last_no_call (call x) e = cc
last_no_call (call_indirect t) e = cc

onto_point : (o : Option Callee) (ops : List ValType) (rest : List (List ValType)) (cs : List Callee) → length rest ≡ length cs → length (if_call o ops ++ rest) ≡ length (callee_onto o cs)
onto_point None ops rest cs e = e
onto_point (Some x) ops rest cs e = omega (arith, e)

plain_point : (c : Around) (ls : List (Option ValType)) (p : Plain) (rest : Code) (under ops next : List ValType) (b : Bool) → is_last p ≡ b
    → length (call_points c ls (pruned rest) under next) ≡ length (calls_of (pruned rest))
    → length (if_call (callee p) (ops ++ under) ++ unless_last b (call_points c ls (if b then done else pruned rest) under next))
    ≡ length (callee_onto (callee p) (calls_of (if b then done else pruned rest)))
unfolding calls_of
plain_point c ls p rest under ops next true e h = onto_point (callee p) (ops ++ under) [] [] refl
plain_point c ls p rest under ops next false e h = onto_point (callee p) (ops ++ under) (call_points c ls (pruned rest) under next) (calls_of (pruned rest)) h

three : (xs ys zs : List (List ValType)) (us vs ws : List Callee) → length xs ≡ length us → length ys ≡ length vs → length zs ≡ length ws → length (xs ++ (ys ++ zs)) ≡ length (us ++ vs ++ ws)
three xs ys zs us vs ws e f g =
    omega (arith, length-append xs (ys ++ zs), length-append ys zs, length-append (us ++ vs) ws, length-append us vs, e, f, g)

pub point_each : (c : Around) (ls : List (Option ValType)) (k : Code) (under ops : List ValType) → length (call_points c ls (pruned k) under ops) ≡ length (calls_of (pruned k))
unfolding call_points calls_of pruned
point_each c ls done under ops = refl
point_each c ls (plain p rest) under ops =
    plain_point c ls p rest under ops (after (sig c ls p) ops) (is_last p) refl (point_each c ls rest under (after (sig c ls p) ops))
point_each c ls (nest s r body rest) under ops =
    omega (
      arith,
      length-append (call_points c (label s r ∷ ls) (pruned body) (ops ++ under) []) (call_points c ls (pruned rest) under (listed r ++ ops)),
      length-append (calls_of (pruned body)) (calls_of (pruned rest)),
      point_each c (label s r ∷ ls) body (ops ++ under) [],
      point_each c ls rest under (listed r ++ ops),
    )
point_each c ls (branch r a b rest) under ops =
    three (call_points c (r ∷ ls) (pruned a) (drop 1 ops ++ under) []) (call_points c (r ∷ ls) (pruned b) (drop 1 ops ++ under) [])
    (call_points c ls (pruned rest) under (listed r ++ drop 1 ops)) (calls_of (pruned a)) (calls_of (pruned b)) (calls_of (pruned rest))
    (point_each c (r ∷ ls) a (drop 1 ops ++ under) []) (point_each c (r ∷ ls) b (drop 1 ops ++ under) []) (point_each c ls rest under (listed r ++ drop 1 ops))
