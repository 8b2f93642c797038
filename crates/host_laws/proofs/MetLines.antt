-- What a call meets among answer lines.
use Rattle.std.proofs.Common.{◌≡◌, ℕ, List, [], ◌∷◌, ◌++◌, Option, Some, None, Bool, true, false, cond, map, length, refl, sym, ap, ◌∙◌, subst, arith}
use Rattle.std.specs.Prelude.{MatchBool, nat_eq, ◌&&◌, ◌<◌, slice_index_or}
use Rattle.std.specs.Option.{option_to_list}
use Rattle.std.specs.Str.{bytes_eq}
use Rattle.wa_types.specs.Validity.{same_name}
use Rattle.wa_model.specs.declared.answers.AnswerLine.{AnswerLine as AnswerLineValue}
use Rattle.wa_model.specs.declared.events.End.{End}
use Rattle.wa_model.specs.declared.events.End.TheVariants.{NoAnswer, OtherImport}
use Rattle.wa_model.specs.Outside.{AnswerLine}
use Rattle.wa_model.specs.Plan.{Outcome, given, refused}
use Rattle.wa_model.specs.View.{answer_of, answer_line_of}
use Rattle.world_model.specs.World.{MeetsLine}
use Rattle.host_laws.specs.Answering.{line_fault}

pub same_bytes : (xs ys : List ℕ) → same_name xs ys ≡ bytes_eq xs ys
same_bytes [] [] = refl
same_bytes [] (y ∷ ys) = refl
same_bytes (x ∷ xs) [] = refl
same_bytes (x ∷ xs) (y ∷ ys) = ap (λ b. nat_eq x y && b) (same_bytes xs ys)

-- by the first line as the program finds it
pub same_line : (import : ℕ) (name : List ℕ) (lines : List AnswerLineValue) (l : AnswerLineValue) (b : Bool) → 0 < length lines → l ≡ slice_index_or lines 0 l → bytes_eq l.import name ≡ b
    → line_fault import name (map answer_line_of lines) ≡ cond b None (Some (OtherImport import l.import))
same_line import name [] l b lt e t = let no : ⊥ = omega arith in absurd no
same_line import name (x ∷ xs) l b lt e t =
    ap (λ (y : AnswerLineValue). cond (same_name y.import name) None (Some (OtherImport import y.import))) (sym e)
    ∙ ap (λ z. cond z None (Some (OtherImport import l.import))) (same_bytes l.import name ∙ t)
