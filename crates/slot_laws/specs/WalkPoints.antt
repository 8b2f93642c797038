-- Walks over code that go as the typing of its operands goes: they stand at points.
use Rattle.std.specs.Prelude.{◌≡◌, ◌++◌, List, [], ◌∷◌, drop, Option, false}
use Rattle.wa_types.specs.declared.values.ValType.{ValType}
use Rattle.wa_types.specs.Syntax.{Plain, Shape, Code, done, plain, nest, branch}
use Rattle.wa_types.specs.Pruned.{is_last}
use Rattle.wa_types.specs.Typing.{Around, Types, label}
use Rattle.wa_types.specs.Points.{AtPoint}

-- A walk that began before the code `start` now stands before `code`, inside these labels, over the operands `own` of the
-- innermost construct and those below them. It goes behind an instruction or a whole construct that is typed where it stands,
-- and into a construct's body or arms.
pub data Walked (c : Around) (start : Code) : (labels : List (Option ValType)) → (code : Code) → (own under : List ValType) → Type 0 where
  at_outset : Walked c start (c.result ∷ []) start [] []
  behind_plain : {ls : List (Option ValType)} {rest : Code} {own under : List ValType} (p : Plain) (new : List ValType)
      → Walked c start ls (plain p rest) own under → is_last p ≡ false → Types c ls (plain p done) new own → Walked c start ls rest new under
  behind_nest : {ls : List (Option ValType)} {rest : Code} {own under : List ValType} (s : Shape) (r : Option ValType) (body : Code) (new : List ValType)
      → Walked c start ls (nest s r body rest) own under → Types c ls (nest s r body done) new own → Walked c start ls rest new under
  behind_branch : {ls : List (Option ValType)} {rest : Code} {own under : List ValType} (r : Option ValType) (a b : Code) (new : List ValType)
      → Walked c start ls (branch r a b rest) own under → Types c ls (branch r a b done) new own → Walked c start ls rest new under
  into_nest : {ls : List (Option ValType)} {body : Code} {own under : List ValType} (s : Shape) (r : Option ValType) (rest : Code)
      → Walked c start ls (nest s r body rest) own under → Walked c start (label s r ∷ ls) body [] (own ++ under)
  into_arm : {ls : List (Option ValType)} {a : Code} {own under : List ValType} (r : Option ValType) (b rest : Code) (new : List ValType)
      → Walked c start ls (branch r a b rest) own under → Types c ls (branch r a b done) new own → Walked c start (r ∷ ls) a [] (drop 1 own ++ under)
  into_else : {ls : List (Option ValType)} {b : Code} {own under : List ValType} (r : Option ValType) (a rest : Code) (new : List ValType)
      → Walked c start ls (branch r a b rest) own under → Types c ls (branch r a b done) new own → Walked c start (r ∷ ls) b [] (drop 1 own ++ under)

-- Wherever it stands, its operands are those of a point of the code where it began.
abbrev pub WalksStandAtPoints : Type 0
WalksStandAtPoints =
    (c : Around) (start : Code) (ls : List (Option ValType)) (code : Code) (own under : List ValType) → Walked c start ls code own under
    → AtPoint c (c.result ∷ []) start [] [] (own ++ under)
