-- The laws.
use Rattle.std.proofs.Common.{◌≡◌, ℕ, suc, ◌+◌, ◌≤◌, List, [], ◌∷◌, ◌++◌, length, map, Some, refl, sym, ap, ◌∙◌, subst, arith, length-append, length-set}
use Rattle.std.specs.Prelude.{slice_set}
use Rattle.std.proofs.lemmas.List.{length-map}
use Rattle.wa_types.specs.declared.values.Value.{Value}
use Rattle.wa_types.specs.Modules.{declared_locals}
use Rattle.wa_types.specs.Pausing.{calls_of}
use Rattle.wa_types.specs.Syntax.{local_set, local_tee, Code, plain}
use Rattle.wa_model.specs.Store.{Store, value_at}
use Rattle.wa_model.specs.Configuration.{Label, Activation, Configuration, running}
use Rattle.wa_model.specs.Step.{Next, steps, zero_of, entered, step}
use Rattle.slim_laws.specs.Beside.{Sides, Twin, both_import, both_defined, woven, in_body, waits, bottom, above, Beside, beside, lean, Way, way_ends, way_same, way_sets, ComesToo, it_steps, it_asks, it_returns, it_traps, it_is_stuck, EachStep, EachStretch, stays, moves, Follows, CallsBegin, AnswersGoOn, WaitsWithAny, WaitingAgrees, Around, in_block, in_loop, calls_behind, Agree, copying, lean_code, Unders, Woven, woven_kept}
use Rattle.slim_laws.specs.Slim.{Free, CoversBut, Held, kept, Lacks, StackShape, Slims, Terms}
use Rattle.slim_laws.proofs.Locals.{agree_set, woven_set}
use Rattle.slim_laws.proofs.Stretches.{Comes, none, one, on}
use Rattle.slim_laws.proofs.StepTable.{lean_below, table}

-- behind the get of a slot that is copied: the flat side sets the other local, and so does the slim one, with what it keeps
copied : (w : Sides) (s : Store) (fn : ℕ) (under under' : List Activation) → Unders w under under' → (f g : Free) (x y : ℕ) (sh : StackShape) (n : ℕ) (ts : List Free) (out : Free)
    (ls ls' ops ops' : List Value) (rest rest' : Code) (labels labels' : List Label) → length ls ≡ (w.terms fn).size → Agree f ls ls' → Woven ls (Some x ∷ sh) ops ops' → CoversBut y f g
    → Lacks y (Some x ∷ sh) → Slims (w.terms fn) n ts out g (Some x ∷ sh) rest rest' → Around (w.terms fn) n ts out labels labels'
    → ComesToo w (running s fn under ls (value_at ls x ∷ ops) (plain (local_set y) rest) labels) (running s fn under' ls' ops' (plain (local_tee y) rest') labels') (suc (kept sh))
    (lean_code (w.terms fn) (plain (local_set y) rest)) (steps 0 (running s fn under (slice_set ls y (value_at ls x)) ops rest labels))
copied w s fn under under' us f g x y sh n ts out ls ls' ops _ rest rest' labels labels' size ag (woven_kept {ops' = ops'} z v ev wo) co la sl ar =
    let u = value_at ls x in
    subst (λ v. ComesToo w (running s fn under ls (u ∷ ops) (plain (local_set y) rest) labels) (running s fn under' ls' (v ∷ ops') (plain (local_tee y) rest') labels') (suc (kept sh))
    (lean_code (w.terms fn) (plain (local_set y) rest)) (steps 0 (running s fn under (slice_set ls y u) ops rest labels))) (sym ev)
    (it_steps 1 (suc (kept sh)) (running s fn under' (slice_set ls' y u) (u ∷ ops') rest' labels') (way_sets refl refl way_ends refl) (lean_below w fn (plain (local_set y) rest) 1) (omega arith)
    (beside s fn g refl (length-set ls y u ∙ size) (agree_set f g ls ls' y u co ag) (woven_set ls y u (Some x ∷ sh) ops (u ∷ ops') la (woven_kept x u refl wo)) sl ar us))

pub each_step : EachStep
each_step w spare _ _ ok (beside {n = n} {ts = ts} {out = out} {sh = sh} {code = code} {code' = code'} {labels = labels} {labels' = labels'} {ls = ls} {ls' = ls'} {ops =
    ops} {ops' = ops'} {under = under} {under' = under'} s fn f e size ag wo sl ar us) pr =
    subst (λ n. ComesToo w (running s fn under ls ops code labels) (running s fn under' ls' ops' code' labels') n (lean w (running s fn under ls ops code labels))
    (step w.flat (running s fn under ls ops code labels))) e
    (table w ok s fn under under' us ls size f ls' ag n ts out sh ops ops' code code' labels labels' wo sl ar pr)
each_step w spare _ _ ok (copying {n = n} {ts = ts} {out = out} {sh = sh} {rest = rest} {rest' = rest'} {labels = labels} {labels' = labels'} {ls = ls} {ls' = ls'} {ops = ops} {ops' =
    ops'} {under = under} {under' = under'} s fn f g x y e size ag wo co la sl ar us) pr =
    subst (λ n. ComesToo w (running s fn under ls (value_at ls x ∷ ops) (plain (local_set y) rest) labels) (running s fn under' ls' ops' (plain (local_tee y) rest') labels') n
    (lean_code (w.terms fn) (plain (local_set y) rest)) (steps 0 (running s fn under (slice_set ls y (value_at ls x)) ops rest labels))) e
    (copied w s fn under under' us f g x y sh n ts out ls ls' ops ops' rest rest' labels labels' size ag wo co la sl ar)

-- a way is a stretch
pub way_goes : (w : Sides) (c c' d : Configuration) (n : ℕ) → Way w c c' n d → Comes w.slim c' n d
way_goes w c c' _ _ way_ends = none w.slim c'
way_goes w c c' d _ (way_same {k = k} sn e) = one w.slim k c' d e
way_goes w c c' d _ (way_sets {n = n} {c2 = c2} is e go em) = subst (λ j. Comes w.slim c' j d) (sym em) (on w.slim 1 n c' c2 d (one w.slim 0 c' c2 e) (way_goes w c c2 d n go))

pub each_stretch : EachStretch
each_stretch w spare _ _ c c' _ ok bs stays = record { took = 0; left = spare; to = c'; goes = (none w.slim c').by; enough = omega arith; no_more = omega arith; near = bs }
each_stretch w spare m j c c' d ok bs (moves {d = e} {k = k} {n = n} {l = l} pr is rest em ej) =
    by_next (step w.flat c) is (each_step w spare c c' ok bs pr) (λ left to b. each_stretch w left n l e to d ok b rest)
  where
    by_next : (o : Next) → o ≡ steps k e → ComesToo w c c' spare (lean w c) o → ((left : ℕ) (to : Configuration) → Beside w left e to → Follows w to left n l d) → Follows w c' spare m j d
    by_next _ z (it_steps {k = k2} {d = e2} cost left to go le mo b) ih =
        let qk : k2 ≡ k = cc in
        let qe : e2 ≡ e = cc in
        let r = ih left to (subst (λ y. Beside w left y to) qe b) in
        let le2 : lean w c (suc k) ≤ cost = subst (λ i. lean w c (suc i) ≤ cost) qk le in
        let re = r.enough in let rn = r.no_more in
        record {
          took = cost + r.took;
          left = r.left;
          to = r.to;
          goes = (on w.slim cost r.took c' to r.to (way_goes w c c' to cost go) (record { by = r.goes })).by;
          enough =
              omega arith;
          no_more = omega arith;
          near = r.near;
        }
    by_next _ z (it_asks cost at to go mo sn st a) ih = cc
    by_next _ z (it_returns cost at go mo sn st) ih = cc
    by_next _ z (it_traps cost at go mo sn st) ih = cc
    by_next _ z it_is_stuck ih = cc

pub calls_begin : CallsBegin
calls_begin w s args x g g' ok is is' la = by_twin (ok.twin x)
  where
    by_twin : Twin w x → Beside w 0 (entered s [] args x g) (entered s [] args x g')
    by_twin (both_import e e') = cc
    by_twin (both_defined h h' e e' zeros size out f sl) =
        let qg : h ≡ g = cc in
        let qg' : h' ≡ g' = cc in
        subst (λ y. Beside w 0 (entered s [] args x y) (entered s [] args x g')) qg
        (subst (λ y. Beside w 0 (entered s [] args x h) (entered s [] args x y)) qg' at_h)
      where
        zs : List Value
        zs = map zero_of (declared_locals h.locals)

        same_zeros : args ++ map zero_of (declared_locals h'.locals) ≡ args ++ zs
        same_zeros = ap (λ ts. args ++ map zero_of ts) zeros

        long : length (args ++ zs) ≡ (w.terms x).size
        long = let l1 = length-append args zs in let l2 = length-map (declared_locals h.locals) zero_of in omega arith

        at_h : Beside w 0 (entered s [] args x h) (entered s [] args x h')
        at_h = beside s x f refl long (record { long = ap length same_zeros; same = λ z fr. ap (λ us. value_at us z) same_zeros }) woven sl in_body bottom

pub answers_go_on : AnswersGoOn
answers_go_on w s _ _ _ _ vs (above (waits fn f ac ls ls' ops taken size ag sl ar) us) = beside s fn f refl size ag woven sl ar us

pub waits_with_any : WaitsWithAny
waits_with_any w _ _ us (waits fn f ac ls ls' ops taken size ag sl ar) e = waits fn f ac us us ops taken (e ∙ size) (record { long = refl; same = λ x fr. refl }) sl ar

behind_is : (t : Terms) (n : ℕ) (ts : List Free) (out : Free) (labels labels' : List Label) → Around t n ts out labels labels' → n ≡ calls_behind labels
behind_is t _ _ _ _ _ in_body = refl
behind_is t m _ _ _ _ (in_block {n = n} {ts = ts} {out = out} {labels = lb} {labels' = lb'} h arity sk sk' em es sl ar) = let e = behind_is t n ts out lb lb' ar in omega arith
behind_is t m _ _ _ _ (in_loop {n = n} {ts = ts} {out = out} {labels = lb} {labels' = lb'} h em sl sl2 ar) = let e = behind_is t n ts out lb lb' ar in omega arith

pub waiting_agrees : WaitingAgrees
waiting_agrees w _ _ (waits {n = n} {ts = ts} {out = out} {rest = rest} {labels = labels} {labels' = labels'} fn f ac ls ls' ops taken size ag sl ar) =
    record {
      func = refl;
      operands = refl;
      taken = refl;
      free = f;
      held =
          subst (λ j. Held f ((w.terms fn).fixed (length (calls_of rest) + j))) (behind_is (w.terms fn) n ts out labels labels' ar) ac;
      locals = ag;
    }
