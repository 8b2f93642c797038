-- A guarded body keeps the promise that frames ask for.
use Rattle.std.proofs.Common.{◌≡◌, ℕ, List, [], ◌∷◌, length, None, Bool, true, false, refl, sym, ap, ◌∙◌, subst, arith}
use Rattle.std.specs.Prelude.{slice_set}
use Rattle.wa_types.specs.declared.values.Value.{Value}
use Rattle.wa_types.specs.declared.values.Value.TheVariants as V
use Rattle.wa_types.specs.Syntax.{Code, done, nest, Module, a_block}
use Rattle.wa_model.specs.declared.answers.Area.{Area}
use Rattle.wa_model.specs.Machine.{goes, Leads, stays, moves}
use Rattle.wa_model.specs.Store.{Store, value_at}
use Rattle.wa_model.specs.Configuration.{block_label, Activation, Configuration, running}
use Rattle.wa_model.specs.Step.{Next, step}
use Rattle.wa_model.specs.Blocking.{Note}
use Rattle.run_theory.specs.Alone.{alone, alone_next}
use Rattle.run_theory.specs.Flat.{result_got}
use Rattle.frame_laws.specs.Layout.{save_code}
use Rattle.frame_laws.specs.Stretches.{GoesKeeping}
use Rattle.guard_form.specs.Functions.{indices_of}
use Rattle.guard_form.specs.Guarded.{by_state, front}
use Rattle.guard_form.specs.Places.{call_code, noted_code, call_labels}
use Rattle.guard_runs.specs.Joined.{written_of, SameCode, BodyKeeps}
use Rattle.run_theory.specs.Keeping.{keeps, silent}
use Rattle.run_laws.proofs.Silence.{silent_is_kept}
use Rattle.guard_runs.proofs.Seeking.{unwinds_law}
use Rattle.guard_runs.proofs.Entering.{enters_law}

module _ (g : ℕ) (area : Area) (p : Module) where
  move_keeps : (c : Configuration) (a b : Bool) (o : Next) (k : ℕ) (es : List Note) (d : Configuration) → (a ≡ true → b ≡ true) → alone_next a o ≡ goes k es d
      → alone_next b o ≡ goes k es d
  move_keeps c true b o k es d h e = ap (λ z. alone_next z o) (h refl) ∙ e
  move_keeps c false b o k es d h e = cc

  all_keep : (c d : Configuration) (n : ℕ) (es : List Note) → Leads (alone silent p) c n es d → Leads (alone (keeps g area) p) c n es d
  all_keep c d _ _ stays = stays
  all_keep c d n _ (moves {t = t} {k = k} {n = n1} {es = es1} {fs = fs} e rest em eg) =
      moves (move_keeps c (silent c) (keeps g area c) (step p c) k es1 t (λ q. silent_is_kept g area c q) e) (all_keep t d n1 fs rest) em eg

pub same_code : SameCode
same_code st f l = refl

pub body_keeps : BodyKeeps
body_keeps g area p st k h f l slots x to behind rest xs ls u arms place bottom held =
    record {
      leaves = λ n s fn under ops e.
          let q = unwinds_law p st n k h f s fn under ls ops slots x to behind rest xs e place held in
          let d1 = all_keep g area p _ _ q.cost [] q.goes in
          record {
            cost = q.cost;
            within = q.within;
            goes = subst (λ i. GoesKeeping g area p (from s fn under ls ops) q.cost
                (running s fn under (slice_set ls i (V.I32 k)) [] f.saving [])) (sym u.index)
                d1;
          };
      enters = λ n s fn under ls2 e.
          let q = enters_law p st n k f s fn under ls2 slots x to behind rest xs e arms place bottom in
          let r = q.restores in
          record {
            mid = q.mid;
            inner = q.inner;
            first = q.first;
            restores = record { cost = r.cost; within = r.within; goes = all_keep g area p _ _ r.cost [] r.goes };
            finds = λ s2 ls3 e2 i2.
                let z = q.finds s2 ls3 e2 (ap (value_at ls3) (sym u.index) ∙ i2) in
                (z.0, z.1, all_keep g area p _ _ z.0 [] z.2);
          };
    }
  where
    from : Store → ℕ → List Activation → List Value → List Value → Configuration
    from s fn under ls ops = running s fn under ls ops (noted_code st f xs k to behind rest) (call_labels st f h xs k rest)
