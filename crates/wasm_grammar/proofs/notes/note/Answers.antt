use Rattle.std.proofs.Common.{sym, subst, drop}
use Rattle.wasm_grammar.specs.Goals.{goal_of}
use Rattle.file_laws.specs.Showing.{Noted, shown}
use Rattle.wasm_grammar.proofs.Marking.{at_level, awaits_second}
use Rattle.wasm_grammar.proofs.notes.note.Goals as goal

pub returns-in-Code : goal.returns-in-Code
returns-in-Code c =
    subst (λ g. Noted c.args.bounds.now (shown c.args.bounds.now (goal_of g) (drop 1 c.args.goals.now) c.args.value c.args.at) c.args.marks.now c.note_code.new.marks) (sym c.in-Code.is)
    (at_level c.args.bounds.now c.args.value c.args.at c.outer_levels.result _ c.args.marks.now c.note_code.new.marks c.outer_levels.ensures c.note_code.ensures)

pub returns-in-Count : goal.returns-in-Count
returns-in-Count c =
    subst (λ g. Noted c.args.bounds.now (shown c.args.bounds.now (goal_of g) (drop 1 c.args.goals.now) c.args.value c.args.at) c.args.marks.now c.note_count.new.marks) (sym c.in-Count.is)
    (c.note_count.ensures (drop 1 c.args.goals.now) (awaits_second c.args.goals.now c.second.result c.second.ensures.none c.second.ensures.some))

pub returns-in-ValueType : goal.returns-in-ValueType
returns-in-ValueType c =
    subst (λ g. Noted c.args.bounds.now (shown c.args.bounds.now (goal_of g) (drop 1 c.args.goals.now) c.args.value c.args.at) c.args.marks.now c.note_type.new.self) (sym c.in-ValueType.is)
    (c.note_type.ensures c.args.bounds.now)

pub returns-in-BlockType : goal.returns-in-BlockType
returns-in-BlockType c =
    subst (λ g. Noted c.args.bounds.now (shown c.args.bounds.now (goal_of g) (drop 1 c.args.goals.now) c.args.value c.args.at) c.args.marks.now c.note_type-in-BlockType.new.self)
    (sym c.in-BlockType.is)
    (c.note_type-in-BlockType.ensures c.args.bounds.now)

pub returns-in-ImportKind : goal.returns-in-ImportKind
returns-in-ImportKind c =
    subst (λ g. Noted c.args.bounds.now (shown c.args.bounds.now (goal_of g) (drop 1 c.args.goals.now) c.args.value c.args.at) c.args.marks.now c.note_import.new.marks) (sym c.in-ImportKind.is)
    (c.note_import.ensures c.args.bounds.now)

pub returns-in-Head : goal.returns-in-Head
returns-in-Head c =
    subst (λ g. Noted c.args.bounds.now (shown c.args.bounds.now (goal_of g) (drop 1 c.args.goals.now) c.args.value c.args.at) c.args.marks.now c.note_head.new.marks) (sym c.in-Head.is)
    (c.note_head.ensures c.args.bounds.now)

pub returns-in-Entries : goal.returns-in-Entries
returns-in-Entries c =
    subst (λ g. Noted c.args.bounds.now (shown c.args.bounds.now (goal_of g) (drop 1 c.args.goals.now) c.args.value c.args.at) c.args.marks.now c.note_entry.new.marks)
    (sym c.in-Entries.is) c.note_entry.ensures
