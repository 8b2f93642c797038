-- A flat stack that came back from frames of the policy `live`, activation by activation.
use Rattle.std.proofs.Common.{◌≡◌, ◌∙◌, ℕ, List, [], ◌∷◌, ◌++◌, Bool, true, false, sym, ap, subst}
use Rattle.wa_types.specs.Syntax.{Code, Module}
use Rattle.wa_types.specs.declared.values.Value.{Value}
use Rattle.wa_model.specs.Configuration.{Activation, Label, waiting}
use Rattle.run_theory.specs.Fitting.{results_of, types_of}
use Rattle.run_theory.specs.Flat.{code_of, set_to}
use Rattle.wa_model.specs.Step.{result_count}
use Rattle.run_laws.proofs.SpotSteps.{CallersAtSpots}
use Rattle.flat_laws.specs.Flatten.{names, top_of}
use Rattle.flat_runs.specs.Beside.{Callers, above, above_same, host}
use Rattle.frame_laws.specs.FrameMemory.{IsKept}
use Rattle.guard_runs.specs.Joined.{CallFrame}
use Rattle.guard_runs.specs.Returned.{AllSameFlat}
use Rattle.emitted_form.specs.SameLive.{also, none}
use Rattle.emitted_form.specs.LiveFrames.{AllFramed, AllTold, LiveStacksComeBack, StackComesBack}
use Rattle.emitted_form.proofs.BackAgain.{comes_back}

act_is : (c : Activation) (fn : ℕ) (ls ops taken : List Value) (code : Code) (labels : List Label) → c.func ≡ fn → c.locals ≡ ls → c.operands ≡ ops → c.taken ≡ taken → c.code ≡ code
    → c.labels ≡ labels
    → waiting fn ls ops taken code labels ≡ c
act_is c fn ls ops taken code labels e1 e2 e3 e4 e5 e6 =
    ap (λ z. waiting z ls ops taken code labels) (sym e1) ∙ ap (λ z. waiting c.func z ops taken code labels) (sym e2) ∙ ap (λ z. waiting c.func c.locals z taken code labels) (sym e3)
    ∙ ap (λ z. waiting c.func c.locals c.operands z code labels) (sym e4) ∙ ap (λ z. waiting c.func c.locals c.operands c.taken z labels) (sym e5)
    ∙ ap (λ z. waiting c.func c.locals c.operands c.taken c.code z) (sym e6)

module _ (m : Module) (which : List Bool) (lay : Activation → CallFrame) where
  again : (g : ℕ) (us vs cs : List Activation) → Callers m which g us vs → CallersAtSpots m g us → AllTold which us → AllSameFlat lay vs cs → AllFramed m lay us vs cs → StackComesBack m which g us cs
  again g _ _ [] host at tells same fr = record { chosen = []; live = none; beside = host }
  again g _ _ (c ∷ cs) host at tells same fr = absurd same
  again g _ _ [] (above told is under l sp) at tells same fr = absurd same
  again g _ _ [] (above_same told is under act) at tells same fr = absurd same
  again _ _ _ (c ∷ cs) (above {g = g} {fn = fn} {f = f} {under = under} {under' = under'} {ls = ls} {extra = extra} {ops = ops} {taken = taken} {code = code} {labels = labels} {labels' =
      labels'} {stmts = stmts} told is us l sp) at tells same fr =
      let a = waiting fn ls ops taken code labels in
      let code' = set_to (top_of (names m f) (result_count m g) (results_of m g ++ types_of ops)) (code_of stmts) in
      let sm = same.0 in
      let fr0 = fr.0 f is in
      let back = comes_back m f g a extra c.locals is at.0 l sm.size fr0.1 (λ y h. sm.kept_same y (subst (λ ps. IsKept y ps) (sym fr0.0) h)) in
      let rest = again fn under under' cs us at.1 tells.1 same.1 fr.1 in
      record {
        chosen = waiting fn back.own ops taken code labels ∷ rest.chosen;
        live = also back.live rest.live;
        beside =
            subst (λ z. Callers m which g (waiting fn back.own ops taken code labels ∷ rest.chosen) (z ∷ cs))
            (act_is c fn (back.own ++ back.extra) [] taken code' labels' sm.func back.split sm.operands sm.taken sm.code sm.labels)
            (above told is rest.beside back.held sp);
      }
  again _ _ _ (c ∷ cs) (above_same told is us act) at tells same fr = let e : false ≡ true = sym told ∙ tells.0 in cc

pub stacks_come_back : LiveStacksComeBack
stacks_come_back m which lay g us vs cs h at tells same fr = again m which lay g us vs cs h at tells same fr
