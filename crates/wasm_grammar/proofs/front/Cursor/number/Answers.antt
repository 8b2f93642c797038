use Rattle.wasm_grammar.proofs.Cursors.{lost_gives, some_read, unsigned_given, unsigned_lost, unsigned_falls, unsigned_on}
use Rattle.std.proofs.Common.{refl}
use Rattle.std.proofs.lemmas.Result.{err_from_is_err_and}
use Rattle.leb_numbers.proofs.LebAnswers.{ok-injective}
use Rattle.wasm_grammar.proofs.front.Cursor.number.Goals as goal

pub returns-in_err-unsigned_32-clause-read : goal.returns-in_err-unsigned_32-clause-read
returns-in_err-unsigned_32-clause-read c = λ n front rest more e s.
    let p = err_from_is_err_and c.from_residual.result c.from_residual.ensures.1 in
    lost_gives n _ more _ p.1 (unsigned_lost _ 32 _ _ _ _ _ c.self.view_is c.in_err-unsigned_32.ensures.exact n front rest more e s)

pub returns-in_err-unsigned_32-clause-onward : goal.returns-in_err-unsigned_32-clause-onward
returns-in_err-unsigned_32-clause-onward c = unsigned_on _ 32 _ _ _ _ _ c.self.view_is c.in_err-unsigned_32.ensures.exact c.unsigned_32.ensures.place

pub returns-clause-read : goal.returns-clause-read
returns-clause-read c = λ n front rest more e s.
    let f = unsigned_given _ 32 _ _ _ _ _ (some_read _) c.unsigned_32.ensures.place c.self.view_is c.in_ok-unsigned_32.ensures.exact n front rest more e s in
    (ok-injective _ _ _ refl f.0, f.1)

pub returns-clause-falls : goal.returns-clause-falls
returns-clause-falls c = unsigned_falls _ 32 _ _ _ _ _ c.self.view_is c.in_ok-unsigned_32.ensures.exact c.unsigned_32.ensures.place

pub returns-clause-onward : goal.returns-clause-onward
returns-clause-onward c = unsigned_on _ 32 _ _ _ _ _ c.self.view_is c.in_ok-unsigned_32.ensures.exact c.unsigned_32.ensures.place
