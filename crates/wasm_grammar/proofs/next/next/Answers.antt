use Rattle.std.proofs.Common.{◌≡◌, ◌∙◌, ℕ, [], ◌∷◌, Some, None, Bool, true, false, cond, nat_eq, refl, ap, sym}
use Rattle.wa_types.specs.Begun.{and_then, behind_flag, number, next}
use Rattle.wasm_grammar.specs.Goals.{goal_of}
use Rattle.wasm_grammar.proofs.next.next.Goals as goal

-- limits alone
flag_alone : (v : ℕ) → and_then (behind_flag v) [] ≡ behind_flag v
flag_alone v = by_test (nat_eq v 0) (nat_eq v 1) where
  by_test : (s t : Bool) → and_then (cond s (Some (number ∷ [])) (cond t (Some (number ∷ number ∷ [])) None)) [] ≡ cond s (Some (number ∷ [])) (cond t (Some (number ∷ number ∷ [])) None)
  by_test true t = refl
  by_test false true = refl
  by_test false false = refl

pub returns-in-Limits : goal.returns-in-Limits
unfolding next
returns-in-Limits c = c.behind_flag.ensures ∙ flag_alone c.args.value ∙ ap (λ g. next (goal_of g) c.args.value c.args.at) (sym c.in-Limits.is)

pub returns-in-Exact : goal.returns-in-Exact
unfolding next
returns-in-Exact c = c.when.ensures ∙ ap (λ g. next (goal_of g) c.args.value c.args.at) (sym c.in-Exact.is)

pub returns-in-Sections : goal.returns-in-Sections
unfolding next
returns-in-Sections c = c.behind_id.ensures ∙ ap (λ g. next (goal_of g) c.args.value c.args.at) (sym c.in-Sections.is)

pub returns-in-Head : goal.returns-in-Head
unfolding next
returns-in-Head c = c.content.ensures ∙ ap (λ g. next (goal_of g) c.args.value c.args.at) (sym c.in-Head.is)

pub returns-in-Entries : goal.returns-in-Entries
unfolding next
returns-in-Entries c = c.entry.ensures ∙ ap (λ g. next (goal_of g) c.args.value c.args.at) (sym c.in-Entries.is)

pub returns-in-ImportKind : goal.returns-in-ImportKind
unfolding next
returns-in-ImportKind c = c.behind_kind.ensures ∙ ap (λ g. next (goal_of g) c.args.value c.args.at) (sym c.in-ImportKind.is)

pub returns-in-BulkNumber : goal.returns-in-BulkNumber
unfolding next
returns-in-BulkNumber c = c.zeros.ensures ∙ ap (λ g. next (goal_of g) c.args.value c.args.at) (sym c.in-BulkNumber.is)

pub returns-in-Code : goal.returns-in-Code
unfolding next
returns-in-Code c = c.behind_opcode.ensures ∙ ap (λ g. next (goal_of g) c.args.value c.args.at) (sym c.in-Code.is)
