-- Behind a call flat code reads slots of its stack alone.
use Rattle.std.proofs.Common.{◌≡◌, ◌∙◌, ℕ, ◌≤◌, List, [], ◌∷◌, ◌++◌, length, Option, Some, None, refl, sym, ap}
use Rattle.std.specs.Prelude.{slice_get}
use Rattle.std.proofs.lemmas.List.{append-nil}
use Rattle.wa_types.specs.Syntax.{Func, Module}
use Rattle.wa_types.specs.Pruned.{pruned}
use Rattle.wa_types.specs.Liveness.{Label, goes_behind, behind_calls, LiveAfter}
use Rattle.wa_types.specs.Validity.{Valid}
use Rattle.wa_types.specs.Modules.{defined_at, locals_of, around}
use Rattle.wa_types.proofs.LiveLemmas.{reads_live}
use Rattle.run_theory.specs.Flat.{code_of, result_got, body_of}
use Rattle.flat_laws.specs.Flatten.{names, result_of, flattened}
use Rattle.flat_laws.specs.FlatModule.{stacks_in, flat_func}
use Rattle.flat_laws.proofs.ValidModules.{facts, good_func}
use Rattle.flat_laws.specs.Behind.{Among}
use Rattle.flat_laws.proofs.PrunedFlat.{whole_flat, whole_result}
use Rattle.flat_laws.proofs.BehindCalls.{paired_at, body_paired}

no_calls : (ls : List Label) (to : Option ℕ) → behind_calls ls (result_got to) ≡ []
unfolding behind_calls
no_calls ls None = refl
no_calls ls (Some x) = refl

module _ (m : Module) (x : ℕ) (f : Func) where
  abbrev to : Option ℕ
  to = result_of (names m f) (around m f).result

  -- the places behind the calls of the whole body are those of its statements
  places_are : behind_calls [] (pruned (body_of (flattened m x f))) ≡ behind_calls (goes_behind (result_got to) ∷ []) (code_of (flattened m x f).body)
  unfolding pruned behind_calls
  places_are =
      let a = whole_flat (names m f) (around m f) ((around m f).result ∷ []) f.body [] in
      let b = whole_result to in
      ap (λ k. behind_calls (goes_behind (pruned (result_got to)) ∷ []) k ++ behind_calls [] (pruned (result_got to))) a
      ∙ ap (λ k. behind_calls (goes_behind k ∷ []) (code_of (flattened m x f).body) ++ behind_calls [] k) b
      ∙ ap (λ ps. behind_calls (goes_behind (result_got to) ∷ []) (code_of (flattened m x f).body) ++ ps) (no_calls [] to)
      ∙ append-nil (behind_calls (goes_behind (result_got to) ∷ []) (code_of (flattened m x f).body))

  pub stack_reads : (place y : ℕ) → Valid m → defined_at m x ≡ Some f → length (locals_of m f) ≤ y → LiveAfter (flat_func m x f) place y
      → (stack : List ℕ) × (slice_get (stacks_in (flattened m x f).body) place ≡ Some stack) × Among y stack
  stack_reads place y v is extra l =
      paired_at y (behind_calls (goes_behind (result_got to) ∷ []) (code_of (flattened m x f).body)) (stacks_in (flattened m x f).body) place l.0
      (body_paired m f y extra (facts m v) x (good_func m f v x is)) (sym (ap (λ ps. slice_get ps place) places_are) ∙ l.1) (reads_live y l.0 l.2)
