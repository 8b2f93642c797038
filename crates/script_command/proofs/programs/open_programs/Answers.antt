-- The programs so far, and the next.
use Rattle.std.proofs.Common.{◌∙◌, ◌≤◌, length, map, subst, sym, arith}
use Rattle.std.proofs.lemmas.List.{length-map}
use Rattle.vault_port.specs.Files.{Files}
use Rattle.std.specs.Prelude.{Option}
use Rattle.script_reader.specs.Views.{program_of}
use Rattle.world_hosting.specs.Worlds.{FitsPlan}
use Rattle.script_command.specs.Playing.{HasChoice}
use Rattle.script_command.specs.Views.{OpensNext, box_names_of}
use Rattle.script_command.proofs.Openings.{all_opened, ended, few_so_far, next_blamed, next_has, none_left, one_more, reached, turned}
use Rattle.script_command.proofs.programs.open_programs.Goals as goal

pub open_next-requires-clause-few : goal.open_next-requires-clause-few
open_next-requires-clause-few g c =
    let n = length-map c.args.texts.items program_of in
    let least = c.requires.few in
    let few_texts : length (map program_of c.args.texts.items) ≤ 16 = omega (arith, n, least) in
    let few = few_so_far c.args.way (box_names_of c.args.mailboxes.now) _ _ _ _ _ (turned c.args.way (box_names_of c.args.mailboxes.now) _ _ _ _ _ _ c.in-Some.ensures.steps.0 c.loop-text.invariant.so_far) few_texts in
    omega (arith, few)

pub open_next-requires-clause-fits : goal.open_next-requires-clause-fits
open_next-requires-clause-fits g c = next_has c.args.way (box_names_of c.args.mailboxes.now) _ FitsPlan _ _ _ _ (turned c.args.way (box_names_of c.args.mailboxes.now) _ _ _ _ _ _ c.in-Some.ensures.steps.0 c.loop-text.invariant.so_far) c.requires.fits

pub loop-text-preserved : goal.loop-text-preserved
loop-text-preserved g c = record {
  so_far =
      one_more c.args.way (box_names_of c.args.mailboxes.now) (g.V.Vault.files c.args.vault.now) _ _ _ _ _ (turned c.args.way (box_names_of c.args.mailboxes.now) _ _ _ _ _ _ c.in-Some.ensures.steps.0 c.loop-text.invariant.so_far)
      (subst (λ (all : Option Files). OpensNext c.args.way (box_names_of c.args.mailboxes.now) all (program_of c.in-Some.text) c.loop-text.programs c.open_next.new.programs) c.loop-text.invariant.kept c.in_default.ensures.opened);
  kept = c.open_next.ensures.kept ∙ c.loop-text.invariant.kept;
  steady = c.in_default.ensures.stays ∙ c.loop-text.invariant.steady;
  saves = c.open_next.ensures.saves ∙ c.loop-text.invariant.saves;
}

pub returns-in-Err-clause-refused : goal.returns-in-Err-clause-refused
returns-in-Err-clause-refused g c = (
  _,
  program_of c.in-Some.text,
  reached c.args.way (box_names_of c.args.mailboxes.now) _ _ _ _ _ (turned c.args.way (box_names_of c.args.mailboxes.now) _ _ _ _ _ _ c.in-Some.ensures.steps.0 c.loop-text.invariant.so_far),
  next_blamed c.args.way (box_names_of c.args.mailboxes.now) _ _ _ _ _ _ (program_of c.in-Some.text) _ c.loop-text.invariant.kept c.loop-text.invariant.steady c.in-Err.ensures.refused,
)

pub returns-clause-opened : goal.returns-clause-opened
returns-clause-opened g c =
    let none = none_left c.loop-text.text-iterator.rest.items (sym c.loop-text.text-iterator.rest.ok.0 ∙ c.in-None.ensures.steps.0) in
    all_opened c.args.way (box_names_of c.args.mailboxes.now) _ _ _ (ended c.args.way (box_names_of c.args.mailboxes.now) _ _ _ _ none c.loop-text.invariant.so_far)

pub open_next-requires-clause-choice : goal.open_next-requires-clause-choice
open_next-requires-clause-choice g c =
    next_has c.args.way (box_names_of c.args.mailboxes.now) _ HasChoice _ _ _ _ (turned c.args.way (box_names_of c.args.mailboxes.now) _ _ _ _ _ _ c.in-Some.ensures.steps.0 c.loop-text.invariant.so_far) c.requires.choices
