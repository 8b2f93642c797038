use Rattle.std.proofs.Common.{refl, ap, ◌∙◌}
use Rattle.std.specs.Int.{w32, cast_unsigned, cast_signed}
use Rattle.std.proofs.lemmas.Result.{err_from_is_err_and}
use Rattle.std.proofs.lemmas.Int.{of_z-to_z}
use Rattle.leb_numbers.proofs.LebAnswers.{ok-injective}
use Rattle.file_laws.proofs.SpelledFits.{signed_fits}
use Rattle.wasm_grammar.proofs.Cursors.{lost_gives, some_read, signed_given, signed_lost, signed_on}
use Rattle.wasm_grammar.proofs.front.Cursor.signed_32.Goals as goal

pub returns-in_err-n-clause-read : goal.returns-in_err-n-clause-read
returns-in_err-n-clause-read c = λ n front rest more e s.
    let p = err_from_is_err_and c.from_residual.result c.from_residual.ensures.1 in
    lost_gives n _ more _ p.1 (signed_lost _ 32 _ _ _ _ _ c.self.view_is c.in_err-n.ensures.exact n front rest more e s)

pub returns-in_err-n-clause-onward : goal.returns-in_err-n-clause-onward
returns-in_err-n-clause-onward c = signed_on _ 32 _ _ _ _ _ c.self.view_is c.in_err-n.ensures.exact c.signed_32.ensures.place

pub returns-clause-read : goal.returns-clause-read
returns-clause-read c = λ n front rest more e s.
    let f = signed_given _ 32 _ _ _ _ _ (some_read _) c.signed_32.ensures.place c.self.view_is c.in_ok-n.ensures.exact n front rest more e s in
    let g = f.0 in
    (c.cast_unsigned.ensures ∙ ap (λ x. cast_unsigned w32 (cast_signed w32 x)) (ok-injective _ _ _ refl g) ∙ of_z-to_z w32 n (signed_fits 32 front n s), f.1)

pub returns-clause-onward : goal.returns-clause-onward
returns-clause-onward c = signed_on _ 32 _ _ _ _ _ c.self.view_is c.in_ok-n.ensures.exact c.signed_32.ensures.place
