-- Where code stands in a typed body: by the steps that lead there from its start, with the operands' types.
use Rattle.std.proofs.Common.{◌≡◌, ℕ, ◌++◌, List, [], ◌∷◌, map, length, drop, Option, Some, None, Bool, true, false, refl, sym, ap, ◌∙◌, subst, append_assoc}
use Rattle.std.specs.Prelude.{if◌then◌else◌}
use Rattle.std.proofs.lemmas.List.{length-map, map-append}
use Rattle.wa_types.specs.declared.values.ValType.{ValType}
use Rattle.wa_types.specs.declared.values.ValType.TheVariants.{I32}
use Rattle.wa_types.specs.Syntax.{Plain, a_block, a_loop, Shape, Code, done, plain, nest, branch}
use Rattle.wa_types.specs.Pruned.{is_last, pruned}
use Rattle.wa_types.specs.Typing.{Around, Takes, Types, Typed, listed, label, sig}
use Rattle.wa_types.specs.Pausing.{Callee, callee, callee_onto, calls_of}
use Rattle.wa_types.specs.Points.{after, unless_last, if_call, call_points}
use Rattle.wa_types.specs.Liveness.{Label as Continuation, goes_behind, label_of, Position, position, if_call_here, behind_calls}
use Rattle.wa_types.proofs.PointLemmas.{takes_after, passes}
use Rattle.wa_types.proofs.PlaceLemmas.{last_no_call}
use Rattle.wa_model.specs.Configuration.{Label, block_label, loop_label, call_count}
use Rattle.wa_model.specs.Step.{arity_of}
use Rattle.run_laws.specs.Sites.{Site, site_of, sites}

-- ---- the calls of code, seen three ways

abbrev pub callees : List Site → List Callee
callees xs = map (λ (x : Site). x.callee) xs

abbrev pub places : List Site → List Position
places xs = map (λ (x : Site). x.behind) xs

abbrev pub points : List Site → List (List ValType)
points xs = map (λ (x : Site). x.operands) xs

pub callees_of : (c : Around) (ls : List (Option ValType)) (labels : List Continuation) (k : Code) (under ops : List ValType) → callees (sites c ls labels k under ops) ≡ calls_of (pruned k)
unfolding sites calls_of pruned
callees_of c ls labels done under ops = refl
callees_of c ls labels (plain p rest) under ops = by_call (callee p) (is_last p) (callees_of c ls labels rest under (after (sig c ls p) ops))
  where
    by_call : (o : Option Callee) (b : Bool) → callees (sites c ls labels rest under (after (sig c ls p) ops)) ≡ calls_of (pruned rest)
        → callees (site_of o (position (pruned rest) labels) (ops ++ under) ++ unless_last b (sites c ls labels rest under (after (sig c ls p) ops))) ≡ callee_onto o
        (calls_of (if b then done else pruned rest))
    by_call None true h = refl
    by_call None false h = h
    by_call (Some x) true h = refl
    by_call (Some x) false h = ap (λ xs. x ∷ xs) h
callees_of c ls labels (nest s r body rest) under ops =
    let first : List Site = sites c (label s r ∷ ls) (label_of s (pruned body) (pruned rest) ∷ labels) body (ops ++ under) [] in
    let second : List Site = sites c ls labels rest under (listed r ++ ops) in
    map-append (λ (x : Site). x.callee) first second
    ∙ ap (λ xs. xs ++ callees second) (callees_of c (label s r ∷ ls) (label_of s (pruned body) (pruned rest) ∷ labels) body (ops ++ under) [])
    ∙ ap (λ xs. calls_of (pruned body) ++ xs) (callees_of c ls labels rest under (listed r ++ ops))
callees_of c ls labels (branch r a b rest) under ops =
    let inner : List Continuation = goes_behind (pruned rest) ∷ labels in
    let first : List Site = sites c (r ∷ ls) inner a (drop 1 ops ++ under) [] in
    let second : List Site = sites c (r ∷ ls) inner b (drop 1 ops ++ under) [] in
    let third : List Site = sites c ls labels rest under (listed r ++ drop 1 ops) in
    map-append (λ (x : Site). x.callee) first (second ++ third)
    ∙ ap (λ xs. callees first ++ xs) (map-append (λ (x : Site). x.callee) second third)
    ∙ three (callees first) (callees second) (callees third) (calls_of (pruned a)) (calls_of (pruned b)) (calls_of (pruned rest))
    (callees_of c (r ∷ ls) inner a (drop 1 ops ++ under) []) (callees_of c (r ∷ ls) inner b (drop 1 ops ++ under) []) (callees_of c ls labels rest under (listed r ++ drop 1 ops))
  where
    three : (xs ys zs us vs ws : List Callee) → xs ≡ us → ys ≡ vs → zs ≡ ws → xs ++ (ys ++ zs) ≡ us ++ vs ++ ws
    three xs ys zs us vs ws e f g = ap (λ q. q ++ (ys ++ zs)) e ∙ ap (λ q. us ++ (q ++ zs)) f ∙ ap (λ q. us ++ (vs ++ q)) g ∙ sym (append_assoc us vs ws)

pub places_of : (c : Around) (ls : List (Option ValType)) (labels : List Continuation) (k : Code) (under ops : List ValType) → places (sites c ls labels k under ops) ≡ behind_calls labels (pruned k)
unfolding sites behind_calls pruned
places_of c ls labels done under ops = refl
places_of c ls labels (plain p rest) under ops = by_call (callee p) (is_last p) refl refl (places_of c ls labels rest under (after (sig c ls p) ops))
  where
    by_call : (o : Option Callee) (b : Bool) → callee p ≡ o → is_last p ≡ b → places (sites c ls labels rest under (after (sig c ls p) ops)) ≡ behind_calls labels (pruned rest)
        → places (site_of o (position (pruned rest) labels) (ops ++ under) ++ unless_last b (sites c ls labels rest under (after (sig c ls p) ops)))
        ≡ if_call_here o (position (if b then done else pruned rest) labels) (behind_calls labels (if b then done else pruned rest))
    by_call None true e f h = refl
    by_call None false e f h = h
    by_call (Some x) true e f h = let bad = sym e ∙ last_no_call p f in cc
    by_call (Some x) false e f h = ap (λ xs. position (pruned rest) labels ∷ xs) h
places_of c ls labels (nest s r body rest) under ops =
    let inner : List Continuation = label_of s (pruned body) (pruned rest) ∷ labels in
    let first : List Site = sites c (label s r ∷ ls) inner body (ops ++ under) [] in
    let second : List Site = sites c ls labels rest under (listed r ++ ops) in
    map-append (λ (x : Site). x.behind) first second
    ∙ ap (λ xs. xs ++ places second) (places_of c (label s r ∷ ls) inner body (ops ++ under) [])
    ∙ ap (λ xs. behind_calls inner (pruned body) ++ xs) (places_of c ls labels rest under (listed r ++ ops))
places_of c ls labels (branch r a b rest) under ops =
    let inner : List Continuation = goes_behind (pruned rest) ∷ labels in
    let first : List Site = sites c (r ∷ ls) inner a (drop 1 ops ++ under) [] in
    let second : List Site = sites c (r ∷ ls) inner b (drop 1 ops ++ under) [] in
    let third : List Site = sites c ls labels rest under (listed r ++ drop 1 ops) in
    map-append (λ (x : Site). x.behind) first (second ++ third)
    ∙ ap (λ xs. places first ++ xs) (map-append (λ (x : Site). x.behind) second third)
    ∙ ap (λ xs. xs ++ (places second ++ places third)) (places_of c (r ∷ ls) inner a (drop 1 ops ++ under) [])
    ∙ ap (λ xs. behind_calls inner (pruned a) ++ (xs ++ places third)) (places_of c (r ∷ ls) inner b (drop 1 ops ++ under) [])
    ∙ ap (λ xs. behind_calls inner (pruned a) ++ (behind_calls inner (pruned b) ++ xs)) (places_of c ls labels rest under (listed r ++ drop 1 ops))

pub points_of : (c : Around) (ls : List (Option ValType)) (labels : List Continuation) (k : Code) (under ops : List ValType)
    → points (sites c ls labels k under ops) ≡ call_points c ls (pruned k) under ops
unfolding sites call_points pruned
points_of c ls labels done under ops = refl
points_of c ls labels (plain p rest) under ops = by_call (callee p) (is_last p) (points_of c ls labels rest under (after (sig c ls p) ops))
  where
    by_call : (o : Option Callee) (b : Bool) → points (sites c ls labels rest under (after (sig c ls p) ops)) ≡ call_points c ls (pruned rest) under (after (sig c ls p) ops)
        → points (site_of o (position (pruned rest) labels) (ops ++ under) ++ unless_last b (sites c ls labels rest under (after (sig c ls p) ops)))
        ≡ if_call o (ops ++ under) ++ unless_last b (call_points c ls (if b then done else pruned rest) under (after (sig c ls p) ops))
    by_call None true h = refl
    by_call None false h = h
    by_call (Some x) true h = refl
    by_call (Some x) false h = ap (λ xs. (ops ++ under) ∷ xs) h
points_of c ls labels (nest s r body rest) under ops =
    let inner : List Continuation = label_of s (pruned body) (pruned rest) ∷ labels in
    let first : List Site = sites c (label s r ∷ ls) inner body (ops ++ under) [] in
    let second : List Site = sites c ls labels rest under (listed r ++ ops) in
    map-append (λ (x : Site). x.operands) first second
    ∙ ap (λ xs. xs ++ points second) (points_of c (label s r ∷ ls) inner body (ops ++ under) [])
    ∙ ap (λ xs. call_points c (label s r ∷ ls) (pruned body) (ops ++ under) [] ++ xs) (points_of c ls labels rest under (listed r ++ ops))
points_of c ls labels (branch r a b rest) under ops =
    let inner : List Continuation = goes_behind (pruned rest) ∷ labels in
    let below : List ValType = drop 1 ops ++ under in
    let first : List Site = sites c (r ∷ ls) inner a below [] in
    let second : List Site = sites c (r ∷ ls) inner b below [] in
    let third : List Site = sites c ls labels rest under (listed r ++ drop 1 ops) in
    map-append (λ (x : Site). x.operands) first (second ++ third)
    ∙ ap (λ xs. points first ++ xs) (map-append (λ (x : Site). x.operands) second third)
    ∙ ap (λ xs. xs ++ (points second ++ points third)) (points_of c (r ∷ ls) inner a below [])
    ∙ ap (λ xs. call_points c (r ∷ ls) (pruned a) below [] ++ (xs ++ points third)) (points_of c (r ∷ ls) inner b below [])
    ∙ ap (λ xs. call_points c (r ∷ ls) (pruned a) below [] ++ (call_points c (r ∷ ls) (pruned b) below [] ++ xs)) (points_of c ls labels rest under (listed r ++ drop 1 ops))

pub sites_length : (c : Around) (ls : List (Option ValType)) (labels : List Continuation) (k : Code) (under ops : List ValType) → length (sites c ls labels k under ops) ≡ call_count k
sites_length c ls labels k under ops =
    sym (length-map (sites c ls labels k under ops) (λ (x : Site). x.callee)) ∙ ap length (callees_of c ls labels k under ops)

-- ---- spots

-- Code of a body, inside these labels, over operands of these types: its own and those below.
pub data Spot (c : Around) (body : Code) : List (Option ValType) → List Label → Code → List ValType → List ValType → Type 0 where
  at_start : {results : List (Option ValType)} → results ≡ c.result ∷ [] → Spot c body results [] body [] []
  past : {results : List (Option ValType)} {labels : List Label} {rest : Code} {mids below : List ValType} (p : Plain) (own : List ValType)
      → is_last p ≡ false → Takes (sig c results p) own mids → Spot c body results labels (plain p rest) own below → Spot c body results labels rest mids below
  in_block : {results : List (Option ValType)} {labels : List Label} {r : Option ValType} {inner rest skipped : Code} {height arity : ℕ} {all : List ValType} (own below : List ValType)
      → all ≡ own ++ below → height ≡ length all → arity ≡ arity_of r → skipped ≡ done
      → Spot c body results labels (nest a_block r inner rest) own below → Spot c body (r ∷ results) (block_label height arity rest skipped ∷ labels) inner [] all
  in_loop : {results : List (Option ValType)} {labels : List Label} {inner rest : Code} {height : ℕ} {all : List ValType} (r : Option ValType) (own below : List ValType)
      → all ≡ own ++ below → height ≡ length all
      → Spot c body results labels (nest a_loop r inner rest) own below → Spot c body (None ∷ results) (loop_label height inner rest ∷ labels) inner [] all
  behind_nest : {results : List (Option ValType)} {labels : List Label} {rest : Code} {ops below : List ValType} (s : Shape) (r : Option ValType) (inner : Code) (own : List ValType)
      → ops ≡ listed r ++ own → Spot c body results labels (nest s r inner rest) own below → Spot c body results labels rest ops below
  in_arm : {results : List (Option ValType)} {labels : List Label} {r : Option ValType} {a b rest : Code} {height arity : ℕ} {all : List ValType} (own lower below : List ValType)
      → own ≡ I32 ∷ lower → all ≡ lower ++ below → height ≡ length all → arity ≡ arity_of r
      → Spot c body results labels (branch r a b rest) own below → Spot c body (r ∷ results) (block_label height arity rest b ∷ labels) a [] all
  in_else : {results : List (Option ValType)} {labels : List Label} {r : Option ValType} {b rest skipped : Code} {height arity : ℕ} {all : List ValType} (a : Code) (own lower below : List ValType)
      → own ≡ I32 ∷ lower → all ≡ lower ++ below → height ≡ length all → arity ≡ arity_of r → skipped ≡ done
      → Spot c body results labels (branch r a b rest) own below → Spot c body (r ∷ results) (block_label height arity rest skipped ∷ labels) b [] all
  behind_branch : {results : List (Option ValType)} {labels : List Label} {rest : Code} {ops below : List ValType} (r : Option ValType) (a b : Code) (own lower : List ValType)
      → own ≡ I32 ∷ lower → ops ≡ listed r ++ lower → Spot c body results labels (branch r a b rest) own below → Spot c body results labels rest ops below

-- What a spot tells: the type of its code, and the spots that its innermost label leads to.
abbrev pub Placed : Around → Code → List (Option ValType) → List Label → Code → List ValType → List ValType → Type 0
Placed c body results [] code own below = (results ≡ c.result ∷ []) × (below ≡ []) × Types c results code (listed c.result) own
Placed c body results (block_label height arity rest skipped ∷ labels) code own below =
    (r : Option ValType) × (outer : List (Option ValType)) × (outer_own : List ValType) × (outer_below : List ValType)
    × (results ≡ r ∷ outer) × (below ≡ outer_own ++ outer_below) × (height ≡ length below) × (arity ≡ arity_of r)
    × Types c results code (listed r) own × Spot c body outer labels rest (listed r ++ outer_own) outer_below
Placed c body results (loop_label height inner rest ∷ labels) code own below =
    (r : Option ValType) × (outer : List (Option ValType)) × (outer_own : List ValType) × (outer_below : List ValType)
    × (results ≡ None ∷ outer) × (below ≡ outer_own ++ outer_below) × (height ≡ length below)
    × Types c results code (listed r) own × Spot c body outer labels rest (listed r ++ outer_own) outer_below
    × Spot c body results (loop_label height inner rest ∷ labels) inner [] below

-- the code's type, and that other code of the same type has the same labels
pub record Retyped (c : Around) (body : Code) (results : List (Option ValType)) (labels : List Label) (code : Code) (own below : List ValType) : Type 0 where
  pub outs : List ValType
  pub typed : Types c results code outs own
  pub again : (code' : Code) (own' : List ValType) → Types c results code' outs own' → Placed c body results labels code' own' below

pub retyped : (c : Around) (body : Code) (results : List (Option ValType)) (labels : List Label) (code : Code) (own below : List ValType)
    → Placed c body results labels code own below → Retyped c body results labels code own below
retyped c body results [] code own below h = record { outs = listed c.result; typed = h.2; again = λ code' own' t. (h.0, h.1, t) }
retyped c body results (block_label height arity rest skipped ∷ labels) code own below h =
    record { outs = listed h.0; typed = h.8; again = λ code' own' t. (h.0, h.1, h.2, h.3, h.4, h.5, h.6, h.7, t, h.9) }
retyped c body results (loop_label height inner rest ∷ labels) code own below h =
    record { outs = listed h.0; typed = h.7; again = λ code' own' t. (h.0, h.1, h.2, h.3, h.4, h.5, h.6, t, h.8, h.9) }

pub placed : (c : Around) (body : Code) (results : List (Option ValType)) (labels : List Label) (code : Code) (own below : List ValType) → Typed c body
    → Spot c body results labels code own below → Placed c body results labels code own below
unfolding Types
placed c body results labels code own below t (at_start e) = (e, refl, subst (λ ls. Types c ls body (listed c.result) []) (sym e) t)
placed c body results labels code own below t (past p own' last takes s) =
    let k = retyped c body results labels (plain p code) own' below (placed c body results labels (plain p code) own' below t s) in
    let w = k.typed in
    let same : w.0 ≡ own = takes_after (sig c results p) own' w.0 (passes c results p last) w.1 ∙ sym (takes_after (sig c results p) own' own (passes c results p last) takes) in
    k.again code own (subst (Types c results code k.outs) same w.2)
placed c body _ _ code own below t (in_block {results} {labels} {r} {inner} {rest} own' below' ea eh er es s) =
    let k = retyped c body results labels (nest a_block r code rest) own' below' (placed c body results labels (nest a_block r code rest) own' below' t s) in
    (r, results, own', below', refl, ea, eh, er, k.typed.0, behind_nest a_block r code own' refl s)
placed c body _ _ code own below t (in_loop {results} {labels} {inner} {rest} r own' below' ea eh s) =
    let k = retyped c body results labels (nest a_loop r code rest) own' below' (placed c body results labels (nest a_loop r code rest) own' below' t s) in
    (r, results, own', below', refl, ea, eh, k.typed.0, behind_nest a_loop r code own' refl s, in_loop r own' below' ea eh s)
placed c body results labels code own below t (behind_nest s r inner own' e p) =
    let k = retyped c body results labels (nest s r inner code) own' below (placed c body results labels (nest s r inner code) own' below t p) in
    k.again code own (subst (Types c results code k.outs) (sym e) k.typed.1)
placed c body _ _ code own below t (in_arm {results} {labels} {r} {a} {b} {rest} own' lower below' ei ea eh er s) =
    let k = retyped c body results labels (branch r code b rest) own' below' (placed c body results labels (branch r code b rest) own' below' t s) in
    (r, results, lower, below', refl, ea, eh, er, k.typed.2, behind_branch r code b own' lower ei refl s)
placed c body _ _ code own below t (in_else {results} {labels} {r} {b} {rest} a own' lower below' ei ea eh er es s) =
    let k = retyped c body results labels (branch r a code rest) own' below' (placed c body results labels (branch r a code rest) own' below' t s) in
    (r, results, lower, below', refl, ea, eh, er, k.typed.3, behind_branch r a code own' lower ei refl s)
placed c body results labels code own below t (behind_branch r a b own' lower ei e s) =
    let k = retyped c body results labels (branch r a b code) own' below (placed c body results labels (branch r a b code) own' below t s) in
    let w = k.typed in
    let same : w.0 ≡ lower = ap (drop 1) (sym w.1 ∙ ei) in
    k.again code own (subst (Types c results code k.outs) (ap (λ xs. listed r ++ xs) same ∙ sym e) w.4)
