-- The laws.
use Rattle.std.proofs.Common.{◌≡◌, ◌∙◌, ℕ, List, [], ◌∷◌, ◌++◌, map, Some, None, sym, ap, subst}
use Rattle.std.specs.Prelude.{if◌then◌else◌}
use Rattle.wa_types.specs.declared.values.Value.{Value}
use Rattle.wa_types.specs.declared.values.Value.TheVariants as V
use Rattle.wa_types.specs.Modules.{declared_locals}
use Rattle.wa_types.specs.Syntax.{Func}
use Rattle.wa_model.specs.Configuration.{Activation, running}
use Rattle.wa_model.specs.Step.{entered, zero_of}
use Rattle.wa_model.specs.Store.{Store, value_at}
use Rattle.guard_form.specs.Asserts.{assert_code}
use Rattle.assert_laws.specs.Beside.{Sides, Twin, both_import, both_defined, no_label, waits, Unders, bottom, above, Beside, beside, Comes, EachStep, AnswersGoOn, CallsBegin, WaitingStands}
use Rattle.assert_laws.proofs.StepTable.{lands, table}

pub each_step : EachStep
each_step w _ _ ok (beside {code = code} {code' = code'} {labels = labels} {labels' = labels'} {under = us} {under' = us'} s e fn ls ops t la un) pr =
    table w ok s e fn us us' un ls ops code code' labels labels' pr t la

pub answered : (w : Sides) (s : Store) (g : ℕ) (a a' : Activation) (us us' : List Activation) (vs : List Value) → Unders w g (a ∷ us) (a' ∷ us') → value_at s.globals w.state ≡ V.I32 0
    → Comes w (running s a.func us a.locals (vs ++ a.operands) a.code a.labels) (running s a'.func us' a'.locals (vs ++ a'.operands) a'.code a'.labels)
answered w s g a a' us us' vs (above wt un) e = lands w s e g a a' us us' wt un vs

pub answers_go_on : AnswersGoOn
answers_go_on w s g d d' vs asked e = answered w s g d.here d'.here d.under d'.under vs asked.stack e

pub calls_begin : CallsBegin
calls_begin w s args x g g' ok e is is' = by (ok.twin x)
  where
    no : (f : Func) → None ≡ Some f → ⊥
    no f z = cc

    one : (f h : Func) → Some f ≡ Some h → f ≡ h
    one f h z = cc

    by : Twin w x → Beside w (entered s [] args x g) (entered s [] args x g')
    by (both_import e1 e2) = absurd (no g (sym e1 ∙ is))
    by (both_defined h h' e1 e2 loc tb) =
        let z = one h g (sym e1 ∙ is) in let z' = one h' g' (sym e2 ∙ is') in
        subst (λ f. Beside w (entered s [] args x f) (entered s [] args x g')) z (subst (λ f. Beside w (entered s [] args x h) (entered s [] args x f)) z'
        (subst (λ ts. Beside w (entered s [] args x h) (running s x [] (args ++ map zero_of ts) [] h'.body [])) (sym loc)
        (beside s e x (args ++ map zero_of (declared_locals h.locals)) [] tb no_label bottom)))

pub waiting_stands : WaitingStands
waiting_stands w g _ _ (waits {rest' = rest'} {labels' = labels'} fn ls ops taken x c t la) =
    (x, c, λ q. record { rest = rest'; test = ap (λ b. if b then assert_code w.state rest' else rest') q })
