-- What is planned of further strands, one after another.
use Rattle.std.proofs.Common.{◌∙◌, ◌++◌, List, [], ◌∷◌, map, sym, ap, subst, append_assoc}
use Rattle.std.specs.List.{AllZip}
use Rattle.script_model.specs.Script.{StrandText}
use Rattle.script_reader.specs.declared.script.StrandText.{StrandText as StrandValue}
use Rattle.script_reader.specs.Views.{strand_of}
use Rattle.strand_host.specs.declared.plan.StrandPart.{StrandPart}
use Rattle.script_command.specs.StrandViews.{IsStrandPart}
use Rattle.script_command.proofs.StagedParts.{none_behind, none_left, zip_more}
use Rattle.script_command.proofs.strand_planning.strand_parts.Goals as goal

pub loop-text-init : goal.loop-text-init
loop-text-init c = (
  [],
  subst (AllZip IsStrandPart []) (sym c.new-parts.ensures.items) tt,
  ap (λ (ts : List StrandValue). map strand_of ts) (sym c.into_iter-text-iterator.ensures.into_iter_gives.0),
)

pub loop-text-preserved : goal.loop-text-preserved
loop-text-preserved c =
    let before = c.loop-text.invariant in
    let one = strand_of c.in-Some.text in (
      before.0 ++ one ∷ [],
      subst (AllZip IsStrandPart (before.0 ++ one ∷ [])) (sym {A = List StrandPart} c.in_ok-push.ensures.items) (zip_more IsStrandPart before.0 c.loop-text.parts.items one c.in_ok-part.part before.1 c.in_ok-part.ensures),
      before.2 ∙ ap (λ (ts : List StrandValue). before.0 ++ map strand_of ts) c.in-Some.ensures.steps.0 ∙ sym (append_assoc before.0 (one ∷ []) (map strand_of c.next.new.self.rest.items)),
    )

pub returns : goal.returns
returns c =
    let all = c.loop-text.invariant in
    let none = none_left c.loop-text.text-iterator.rest.items (sym c.loop-text.text-iterator.rest.ok.0 ∙ c.in-None.ensures.steps.0) in
    subst (λ (ss : List StrandText). AllZip IsStrandPart ss c.loop-text.parts.items)
    (sym (all.2 ∙ ap (λ (ts : List StrandValue). all.0 ++ map strand_of ts) none ∙ none_behind all.0)) all.1
