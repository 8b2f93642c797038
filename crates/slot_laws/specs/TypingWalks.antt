-- Walks as the calls of `Typing` make them (`wasm_validate/specs/Walk`): they stand at points.
use Rattle.std.specs.Prelude.{◌≡◌, ◌⊎◌, ◌++◌, List, [], ◌∷◌, length, reverse, Option, None, false}
use Rattle.wa_types.specs.declared.values.ValType.{ValType}
use Rattle.wa_types.specs.Syntax.{Code, done, plain, nest, branch}
use Rattle.wa_types.specs.Pruned.{is_last}
use Rattle.wa_types.specs.Typing.{Around, Types}
use Rattle.wa_types.specs.Points.{AtPoint}
use Rattle.wasm_validate.specs.Walk.{Walk, outset, TypedAt, Stays, Inside, left_at}
use Rattle.slot_laws.specs.WalkPoints.{Walked}

-- the first instruction of code alone
abbrev pub first_of : Code → Code
first_of done = done
first_of (plain p rest) = plain p done
first_of (nest s r body rest) = nest s r body done
first_of (branch r a b rest) = branch r a b done

-- what stands behind it
abbrev pub rest_of : Code → Code
rest_of done = done
rest_of (plain p rest) = rest
rest_of (nest s r body rest) = rest
rest_of (branch r a b rest) = rest

-- there is one, and control goes on behind it
abbrev pub GoesOn : Code → Type 0
GoesOn done = ⊥
GoesOn (plain p rest) = is_last p ≡ false
GoesOn (nest s r body rest) = Unit {0}
GoesOn (branch r a b rest) = Unit {0}

-- this code is the body, or one of the arms, of the construct that code begins with
abbrev pub OpensTo : Code → Code → Type 0
OpensTo (nest s r body rest) k = k ≡ body
OpensTo (branch r a b rest) k = (k ≡ a) ⊎ (k ≡ b)
OpensTo _ k = ⊥

-- the result of the construct that code begins with
abbrev pub result_of : Code → Option ValType
result_of (nest s r body rest) = r
result_of (branch r a b rest) = r
result_of _ = None

-- A construct that a walk has gone into: where it stood before it, and the code from the construct on.
pub record Entered : Type 0 where
  pub before : Walk
  pub code : Code

-- A walk that began before the code `start` stands before `code`, inside these constructs, the innermost first. Each
-- constructor is a call, with what the call asks and what it promises: `start`; `advance`; `enter`, or `inside`, which
-- answers a walk of its own; `restart`, for the other arm; `leave`, with the construct's result and as many operands as lay
-- below those of the construct around it.
pub data StandsBefore (c : Around) (start : Code) : (into : List Entered) → (code : Code) → Walk → Type 0 where
  started : StandsBefore c start [] start (outset c)
  advanced : {into : List Entered} {code : Code} {v : Walk} (w : Walk)
      → StandsBefore c start into code v → TypedAt v (first_of code) → GoesOn code → Stays v w
      → Types v.around v.labels (first_of code) w.own v.own → StandsBefore c start into (rest_of code) w
  entered : {into : List Entered} {code : Code} {v : Walk} (body : Code) (w : Walk)
      → StandsBefore c start into code v → TypedAt v (first_of code) → OpensTo code body → Inside v (first_of code) w
      → StandsBefore c start (record { before = v; code = code } ∷ into) body w
  restarted : {into : List Entered} {e : Entered} {code : Code} {v : Walk} (body : Code)
      → StandsBefore c start (e ∷ into) code v → OpensTo e.code body
      → StandsBefore c start (e ∷ into) body (record { around = v.around; labels = v.labels; own = []; under = v.under })
  left_behind : {into : List Entered} {e : Entered} {code : Code} {v : Walk}
      → StandsBefore c start (e ∷ into) code v → StandsBefore c start into (rest_of e.code) (left_at (result_of e.code) (length e.before.under) v)

-- Such a walk goes as the typing of operands goes, and what its `types` answers (the deepest first) is at a point of the code
-- where it began.
abbrev pub TypingStandsAtPoints : Type 0
TypingStandsAtPoints =
    (c : Around) (start : Code) (into : List Entered) (code : Code) (w : Walk) (types : List ValType)
    → StandsBefore c start into code w → reverse types ≡ w.own ++ w.under
    → Walked c start w.labels code w.own w.under × AtPoint c (c.result ∷ []) start [] [] (reverse types)
