-- Outcomes that the calls of an unbound program met: the answers are those of the lines that were taken, in order.
use Rattle.std.proofs.Common.{◌≡◌, ◌≤◌, ℕ, List, [], ◌∷◌, ◌++◌, length, Option, Some, None, Bool, true, false, MatchBool, refl, sym, ap, ◌∙◌, subst, arith}
use Rattle.wa_types.specs.declared.values.Value.{Value}
use Rattle.wa_types.specs.Validity.{same_name}
use Rattle.wa_model.specs.declared.events.End.TheVariants.{OtherImport}
use Rattle.wa_model.specs.Blocking.{Note}
use Rattle.wa_model.specs.Outside.{Answer, AnswerLine, Call}
use Rattle.wa_model.specs.Plan.{Outcome, given, refused}
use Rattle.world_model.specs.World.{CallsMeet, Device, Meets, MeetsBound, MeetsLine, NoteMeets, Program, call_in, import_names, name_at}
use Rattle.world_laws.specs.AloneLines.{Unbound}

-- Each answer is that of the next line, nothing else takes one, and these are left.
abbrev pub LinesMet : List AnswerLine → List Outcome → List AnswerLine → Type 0
LinesMet lines [] left = lines ≡ left
LinesMet lines (given a ∷ os) left = (l : AnswerLine) × (rest : List AnswerLine) × (lines ≡ l ∷ rest) × (l.answer ≡ a) × LinesMet rest os left
LinesMet lines (refused e ∷ os) left = LinesMet lines os left

pub met_on : (lines mid left : List AnswerLine) (os os' : List Outcome) → LinesMet lines os mid → LinesMet mid os' left → LinesMet lines (os ++ os') left
met_on lines mid left [] os' h k = subst (λ (ls : List AnswerLine). LinesMet ls os' left) (sym h) k
met_on lines mid left (given a ∷ os) os' h k = (h.0, h.1, h.2, h.3, met_on h.1 mid left os os' h.4 k)
met_on lines mid left (refused e ∷ os) os' h k = met_on lines mid left os os' h k

-- one call
line_met : (import : ℕ) (name : List ℕ) (lines : List AnswerLine) (o : Outcome) (left : List AnswerLine) → MeetsLine import name lines o left → LinesMet lines (o ∷ []) left
line_met import name [] o left h = subst (λ (z : Outcome). LinesMet [] (z ∷ []) left) (sym h.0) (sym h.1)
line_met import name (l ∷ ls) o left h = by (same_name l.import name) h
  where
    by : (b : Bool) → MatchBool b ((o ≡ given l.answer) × (left ≡ ls)) ((o ≡ refused (OtherImport import l.import)) × (left ≡ l ∷ ls)) → LinesMet (l ∷ ls) (o ∷ []) left
    by true m = subst (λ (z : Outcome). LinesMet (l ∷ ls) (z ∷ []) left) (sym m.0) (l, ls, refl, refl, sym m.1)
    by false m = subst (λ (z : Outcome). LinesMet (l ∷ ls) (z ∷ []) left) (sym m.0) (sym m.1)

module _ (w : Program) (unbound : Unbound w) where
  call_met : (import : ℕ) (args : List Value) (lines left : List AnswerLine) (ds ds' : List Device) (o : Outcome) → Meets w import args lines ds o left ds' → LinesMet lines (o ∷ []) left
  call_met import args lines left ds ds' o h =
      let m = subst (λ (b : Option (List ℕ)). MeetsBound w.source import args b lines ds o left ds') (unbound import) h in
      line_met import (name_at (import_names w.source) import) lines o left m.0

  -- the calls of notes
  pub calls_met : (xs : List Note) (os : List Outcome) (lines left : List AnswerLine) (ds ds' : List Device) → CallsMeet w xs os lines ds [] left ds' → LinesMet lines os left
  calls_met [] os lines left ds ds' h = subst (λ (z : List Outcome). LinesMet lines z left) h.0 (sym h.1)
  calls_met (x ∷ xs) os lines left ds ds' h = by (call_in x.event) h (λ o l d. calls_met xs o l left d ds') where
    by : (c : Option Call) → NoteMeets w c os lines ds (λ o l d. CallsMeet w xs o l d [] left ds')
        → ((o : List Outcome) (l : List AnswerLine) (d : List Device) → CallsMeet w xs o l d [] left ds' → LinesMet l o left) → LinesMet lines os left
    by None m on = on os lines ds m
    by (Some c) m on =
        subst (λ (z : List Outcome). LinesMet lines z left) (sym m.4)
        (met_on lines m.2 left (m.0 ∷ []) m.1 (call_met c.import c.args lines m.2 ds m.3 m.0 m.5) (on m.1 m.2 m.3 m.6))

-- ---- the last answer

-- the line that was taken last, behind these
pub record LastTaken (lines left : List AnswerLine) (a : Answer) (met : ℕ) : Type 0 where
  pub before : List AnswerLine
  pub line : AnswerLine
  pub is : lines ≡ before ++ line ∷ left
  pub answer : line.answer ≡ a
  pub few : length before ≤ met

pub last_taken : (lines left : List AnswerLine) (done : List Outcome) (a : Answer) → LinesMet lines (done ++ given a ∷ []) left → LastTaken lines left a (length done)
last_taken lines left [] a h = record { before = []; line = h.0; is = h.2 ∙ ap (λ (ls : List AnswerLine). h.0 ∷ ls) h.4; answer = h.3; few = omega arith }
last_taken lines left (given b ∷ done) a h =
    let r = last_taken h.1 left done a h.4 in
    record { before = h.0 ∷ r.before; line = r.line; is = h.2 ∙ ap (λ (ls : List AnswerLine). h.0 ∷ ls) r.is; answer = r.answer; few = omega (arith, r.few) }
last_taken lines left (refused e ∷ done) a h =
    let r = last_taken lines left done a h in
    record { before = r.before; line = r.line; is = r.is; answer = r.answer; few = omega (arith, r.few) }
