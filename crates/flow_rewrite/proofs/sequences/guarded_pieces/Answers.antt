use Rattle.std.proofs.Common.{◌∙◌}
use Rattle.wa_types.specs.View.{code}
use Rattle.run_theory.specs.Flat.{followed_by}
use Rattle.guard_form.specs.Guarded.{entry, function_end}
use Rattle.flow_rewrite.specs.Emitting.{indices}
use Rattle.flow_rewrite.specs.UnitView.{units_of}
use Rattle.flow_rewrite.proofs.UnitLemmas.{whole_ready}
use Rattle.flow_rewrite.proofs.sequences.guarded_pieces.Goals as goal

pub write_sequence-requires : goal.write_sequence-requires
write_sequence-requires c = record {
  empty = c.new-out.ensures.items;
  ready = whole_ready _ _ _ _ c.deref.ensures.value c.deref-2.ensures.value c.requires.labels c.requires.few;
}

pub returns : goal.returns
returns c =
    c.in_ok-write_sequence.ensures.written
    ∙ (λ j. entry (indices c.args.guards.now) (followed_by (code c.args.restoring.items)) function_end 0 0 (code (c.deref.ensures.value j)) (units_of (c.deref-2.ensures.value j)))
