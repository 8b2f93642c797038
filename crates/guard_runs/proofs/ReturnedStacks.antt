-- A written stack that came back has a flat stack beside it again.
use Rattle.std.proofs.Common.{◌≡◌, ℕ, suc, ◌<◌, List, [], ◌∷◌, ◌++◌, length, take, drop, refl, sym, ap, ◌∙◌, subst, arith, length-append, length-drop, take-append-drop, ⊎_elim}
use Rattle.std.proofs.lemmas.List.{length-take-le}
use Rattle.wa_types.specs.declared.values.Value.{Value}
use Rattle.wa_types.specs.declared.values.Value.TheVariants as V
use Rattle.wa_types.specs.Syntax.{Code}
use Rattle.wa_model.specs.Store.{value_at}
use Rattle.wa_model.specs.Configuration.{Activation, waiting}
use Rattle.run_theory.specs.Flat.{set_to, followed_by}
use Rattle.frame_laws.specs.FrameMemory.{IsKept}
use Rattle.frame_laws.specs.Layout.{FrameField, kept, gap}
use Rattle.frame_laws.specs.Stack.{AllCameBack}
use Rattle.guard_form.specs.Functions.{with_guards}
use Rattle.guard_form.specs.Pieces.{call_unit, flat_units}
use Rattle.guard_form.specs.Places.{flat_labels, noted_code, call_labels}
use Rattle.guard_runs.proofs.HeldPlaces.{first_comes}
use Rattle.guard_runs.specs.Joined.{CallFrame}
use Rattle.guard_runs.specs.Levels.{flat_waiting, levels_of, FlatFieldsFit, MayStand}
use Rattle.guard_runs.specs.Returned.{FlatAgain, StacksReturn}
use Rattle.guard_runs.specs.Alike.{Setting}
use Rattle.guard_runs.specs.Beside.{HeldPlace, Locals}
use Rattle.guard_runs.specs.Stopped.{Stopped, host, above}
use Rattle.guard_runs.proofs.WaitingLevels.{got_left, got_behind, kept_left}

kept_there : (ls : List Value) (x : ℕ) (ps : List FrameField) → FlatFieldsFit ls ps → IsKept x ps → x < length ls
kept_there ls x [] h k = absurd k
kept_there ls x (kept y t ∷ ps) h k = ⊎_elim (λ e. subst (λ z. z < length ls) (sym e) h.0) (λ q. kept_there ls x ps h.3 q) k
kept_there ls x (gap t ∷ ps) h k = kept_there ls x ps h k

module _ (v : Setting) (lay : Activation → CallFrame) where
  again : (callee : ℕ) (us us' new' : List Activation) (d : Stopped v callee us us') → MayStand v lay d → AllCameBack (levels_of v lay d) new' → FlatAgain v lay callee us new'
  again callee _ _ [] (host top) may re = record { new = []; stopped = host top; same = tt; count = refl }
  again callee _ _ (a ∷ new') (host top) may re = absurd re
  again callee _ _ [] (above fn here is ls extra ops taken both h pl gt deep under) may re = absurd re
  again callee _ _ (a ∷ new') (above {f = f} {k = k} {slots = slots} {x = x} {to = to} {behind = behind} {rest = rest} {xs = xs} {under = us} {under' = us'} fn here is ls extra ops
      taken both h pl gt deep under) may re =
      let ih = again fn us us' new' under may.10 re.1 in
      let r = re.0 in
      let ks = r.kept_same in
      let size = ks.size in
      let long = length-append ls extra in
      let ls2 = take (length ls) r.locals in
      let extra2 = drop (length ls) r.locals in
      let n1 : length ls2 ≡ length ls = length-take-le (length ls) r.locals (omega arith) in
      let n2 : length extra2 ≡ length extra = length-drop (length ls) r.locals ∙ omega arith in
      let whole : ls2 ++ extra2 ≡ r.locals = take-append-drop (length ls) r.locals in
      let index : value_at extra2 0 ≡ V.I32 k = sym (got_behind ls2 extra2 f.size (n1 ∙ both.size)) ∙ ap (λ ys. value_at ys f.size) whole ∙ ap (value_at r.locals) (sym may.1.index) ∙ ks.index in
      let both2 : Locals (with_guards f) ls2 extra2 = record {
        size = n1 ∙ both.size;
        more = n2 ∙ both.more;
      } in
      let pl2 : HeldPlace v.globals f extra2 k (call_unit slots x to behind rest) xs = record { place = pl.place; first_held = λ e c. index ∙ ap V.I32 (first_comes v.globals f pl.place e c) } in
      let count = ih.count in
      let code : Code = noted_code v.globals f xs k to behind rest in
      let made : Stopped v callee (waiting fn ls2 [] taken (set_to to (followed_by behind (flat_units rest))) (flat_labels f xs) ∷ ih.new)
      (waiting fn (ls2 ++ extra2) [] taken code (call_labels v.globals f 0 xs k rest) ∷ new') =
      above {k = k} {slots = slots} {x = x} {to = to} {behind = behind} {rest = rest} {xs = xs} fn here is ls2 extra2 [] taken both2 0 pl2 gt (omega arith) ih.stopped in
      let act : waiting fn (ls2 ++ extra2) [] taken code (call_labels v.globals f 0 xs k rest) ≡ a =
      ap (λ ys. waiting fn ys [] taken code (call_labels v.globals f 0 xs k rest)) whole ∙ sym r.is in
      record {
        new = waiting fn ls2 [] taken (set_to to (followed_by behind (flat_units rest))) (flat_labels f xs) ∷ ih.new;
        stopped = subst (λ b. Stopped v callee (waiting fn ls2 [] taken (set_to to (followed_by behind (flat_units rest))) (flat_labels f xs) ∷ ih.new) (b ∷ new')) act made;
        same = (
          record {
            func = refl;
            taken = refl;
            code = refl;
            labels = refl;
            operands = refl;
            size = n1;
            kept_same = λ y q.
                let lt = kept_there ls y (lay (flat_waiting fn f to behind rest xs ls ops taken)).layout.fields may.6 q in
                sym (got_left ls2 extra2 y (omega arith)) ∙ ap (λ ys. value_at ys y) whole ∙ ks.same y q
                ∙ kept_left ls extra y (lay (flat_waiting fn f to behind rest xs ls ops taken)).layout.fields may.6 q;
          },
          ih.same,
        );
        count = ap suc ih.count;
      }

pub stacks_return : StacksReturn
stacks_return v lay callee us us' new' d may re = again v lay callee us us' new' d may re
