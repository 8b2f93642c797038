use Rattle.std.proofs.Common.{ℕ, [], List, refl, sym, ◌∙◌, subst, length, append-nil}
use Rattle.std.specs.Str.{IsUtf8}
use Rattle.std.proofs.lemmas.Result.{err_from_is_err_and}
use Rattle.wa_types.specs.Spells.{◌▸◌, Exactly, Number, TextBytes}
use Rattle.wasm_build.proofs.Steps.{start, step_number, step_taken, stop_taken, turn, finish, never}
use Rattle.wasm_build.proofs.types.name.Goals as goal

pub returns-in_ok-new-in-Ok-clause-built : goal.returns-in_ok-new-in-Ok-clause-built
returns-in_ok-new-in-Ok-clause-built c =
    let s = step_number length TextBytes c.in_ok-count.ensures.read (start (λ n. Number (length n) ▸ TextBytes n) _ (λ n at bytes h. h)) in
    let t = turn (λ n. Exactly n ▸ Exactly []) (λ n at bytes k h. (bytes, [], sym (append-nil bytes), h.0, refl)) s in
    finish (λ n. n) _ (λ n k. c.in_ok-new-in-Ok.ensures ∙ c.in-Ok.ensures.cases.0 ∙ k.1)
    (step_taken (λ n. n) (λ n. Exactly []) c.in_ok-bytes.ensures.ok c.in_ok-bytes.ensures.len c.in_ok-bytes.ensures.at (λ n k. k.1) t)

pub returns-in-Err-clause-built : goal.returns-in-Err-clause-built
returns-in-Err-clause-built c =
    let s = step_number length TextBytes c.in_ok-count.ensures.read (start (λ n. Number (length n) ▸ TextBytes n) _ (λ n at bytes h. h)) in
    let t = turn (λ n. Exactly n ▸ Exactly []) (λ n at bytes k h. (bytes, [], sym (append-nil bytes), h.0, refl)) s in
    let u = step_taken (λ n. n) (λ n. Exactly []) c.in_ok-bytes.ensures.ok c.in_ok-bytes.ensures.len c.in_ok-bytes.ensures.at (λ n k. k.1) t in
    let P : List ℕ → Type 0 = λ s. IsUtf8 s in
    never refl (λ more n end b none. c.in-Err.ensures.cases.0 (subst P (sym (u.known more n end b).1) (s.ahead more n end b).spelled.1))

pub returns-in_err-bytes-clause-built : goal.returns-in_err-bytes-clause-built
returns-in_err-bytes-clause-built c =
    let p = err_from_is_err_and c.from_residual-in_err-bytes.result c.from_residual-in_err-bytes.ensures.1 in
    let s = step_number length TextBytes c.in_ok-count.ensures.read (start (λ n. Number (length n) ▸ TextBytes n) _ (λ n at bytes h. h)) in
    let t = turn (λ n. Exactly n ▸ Exactly []) (λ n at bytes k h. (bytes, [], sym (append-nil bytes), h.0, refl)) s in
    stop_taken (λ n. n) (λ n. Exactly []) p.1 c.in_err-bytes.ensures.err (λ n k. k.1) t
