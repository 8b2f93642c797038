-- What steps of the walk over a sequence do.
use Rattle.std.specs.Prelude.{◌≡◌, ℕ, List, [], Option, Some, None, true}
use Rattle.wa_types.specs.Syntax.{Code, done, plain}
use Rattle.wa_types.specs.View.{code}
use Rattle.run_theory.specs.Flat.{Stmts, no_more}
use Rattle.guard_form.specs.Grouping.{is_place}
use Rattle.guard_form.specs.Pieces.{Units, call_to}
use Rattle.flow_rewrite.specs.Statements.{one_place}
use Rattle.slim_laws.specs.Slim.{Free, Terms}
use Rattle.slim_rewrite.specs.declared.stack.Walk.{Walk}
use Rattle.slim_rewrite.specs.Walking.{Alike, Among, Good}
use Rattle.flow_rewrite.specs.declared.pieces.Target.{Target}
use Rattle.flow_rewrite.specs.UnitView.{callee_of}
use Rattle.slim_rewrite.specs.declared.sequence.Head.{Head}
use Rattle.slim_rewrite.specs.declared.sequence.Sequence.{Sequence}
use Rattle.slim_rewrite.specs.Coming.{Around, CallsFixed, Comes}
use Rattle.slim_rewrite.specs.SequenceView.{first_with, head_in_front, units_with}

-- A statement was put: what the statements behind it come to from there, all come to from here.
pub record Put (ps : List ℕ) (a : Walk) (p : Sequence) (b : Walk) (q : Sequence) (x : Stmts → Stmts) : Type 0 where
  pub good : Good b
  pub alike : Alike a b
  pub place : q.place ≡ one_place p.place (x no_more)
  pub step : (t : Terms) → Among t a → (n : ℕ) (ts : List Free) (out : Free) → Around t a ts → (s : Stmts) → CallsFixed t ps p.place n (x s) → (first : Code) (us : Units)
      → Comes t n ts out ps b q s first us → Comes t n ts out ps a p (x s) first us

-- so it was, where its call is numbered
abbrev pub PutNumbered : (a : Walk) (p : Sequence) (b : Walk) (q : Sequence) (x : Stmts → Stmts) → Type 0
PutNumbered a p b q x = (ps : List ℕ) → is_place ps p.place ≡ true → Put ps a p b q x

-- The piece was taken, and a unit is open behind it.
pub record Opened (a : Walk) (p : Sequence) (b : Walk) (q : Sequence) (head : Head) : Type 0 where
  pub good : Good b
  pub alike : Alike a b
  pub stack : b.stack.items ≡ a.stack.items
  pub set : b.set ≡ a.set
  pub piece : b.piece.items ≡ []
  pub place : q.place ≡ p.place
  pub ended : q.ended ≡ p.ended
  pub is : q.open ≡ Some head
  pub first : (c : Code) → first_with q c ≡ first_with p (code a.piece.items)
  pub units : (c : Code) (us : Units) → units_with q c us ≡ units_with p (code a.piece.items) (head_in_front head c us)

-- an instruction calls this
abbrev pub Calls : Option Target → Code → Type 0
Calls None c = Prim.Unit {0}
Calls (Some x) c = c ≡ plain (call_to (callee_of x)) done
