-- What the call of a countdown loop keeps.
use Rattle.std.proofs.Common.{◌≡◌, ◌∙◌, ℕ, ◌<◌, [], ◌∷◌, get_or, Bool, true, false, refl, sym, ap, arith, subst}
use Rattle.std.specs.Prelude.{length}
use Rattle.wa_types.specs.Liveness.{live}
use Rattle.run_theory.specs.Flat.{code_of, followed_by, result_got}
use Rattle.live_locals.specs.Ops.{OpsFit}
use Rattle.live_locals.specs.Rows.{kept}
use Rattle.live_locals.specs.LiveAt.{KeepsAt}
use Rattle.live_locals.specs.Countdown.{countdown, CountdownKeeps}
use Rattle.live_locals.proofs.ExactLemmas.{told_exactly}

fits : OpsFit countdown.body
fits = ((tt, (tt, tt), (tt, (tt, tt))), tt)

-- what is told of a local behind the body
abbrev behind : ℕ → Bool
behind x = live x [] false (result_got countdown.result)

is_kept : (x : ℕ) → kept x (behind x ∷ []) (behind x) countdown.body ≡ true ∷ [] → KeepsAt countdown 0 x
is_kept x e =
    (told_exactly x countdown (behind x) 0 refl fits (subst (λ bs. 0 < length bs) (sym e) (omega arith))).0 (ap (λ bs. get_or bs 0 false) e)

isnt_kept : (x : ℕ) → kept x (behind x ∷ []) (behind x) countdown.body ≡ false ∷ [] → KeepsAt countdown 0 x → ⊥
isnt_kept x e h =
    let t : get_or (kept x (behind x ∷ []) (behind x) countdown.body) 0 false ≡ true =
    (told_exactly x countdown (behind x) 0 refl fits (subst (λ bs. 0 < length bs) (sym e) (omega arith))).1 h in
    let f : false ≡ true = sym (ap (λ bs. get_or bs 0 false) e) ∙ t in cc

pub countdown_case : CountdownKeeps
unfolding kept live code_of followed_by
countdown_case = record {
  counter = is_kept 0 refl;
  sum = isnt_kept 1 refl;
  waits = is_kept 2 refl;
  argument = is_kept 3 refl;
  unused = isnt_kept 4 refl;
}
