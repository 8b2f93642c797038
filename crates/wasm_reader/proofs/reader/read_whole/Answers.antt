use Rattle.std.proofs.Common.{sym, ◌∙◌}
use Rattle.wa_types.specs.View.{module_of}
use Rattle.wasm_reader.proofs.Accepting.{file_of, module_in, stands, few_runs, few_bytes, short_file, accepted, accepted_spelled, too_many, accepted_sizes, accepted_strictly}
use Rattle.wasm_reader.proofs.GoingOn.{left_built, left_fails, not_memory}
use Rattle.wasm_reader.proofs.ShortFile.{written_short}
use Rattle.wasm_reader.proofs.reader.read_whole.Goals as goal

pub returns-in-Some-clause-refused : goal.returns-in-Some-clause-refused
returns-in-Some-clause-refused c =
    let f = file_of c.args.bounds.now c.args.file.now.all c.requires.few c.requires.whole in
    c.in-Some.ensures c.args.file.now.all f.0 f.1 (c.requires.marks (short_file c.args.bounds.now c.args.file.now.all c.requires.columns c.requires.few) f.0 f.1.spells)

pub unreachable-requires : goal.unreachable-requires
unreachable-requires c =
    let f = file_of c.args.bounds.now c.args.file.now.all c.requires.few c.requires.whole in
    let shallow = c.in_default.ensures c.args.file.now.all f.0 f.1 (c.requires.marks (short_file c.args.bounds.now c.args.file.now.all c.requires.columns c.requires.few) f.0 f.1.spells) in
    let m = module_in c.args.bounds.now c.args.file.now.all f.0 shallow in
    let e = left_fails c.args.bounds.now c.args.file.now.all c.args.rest.left.now c.args.rest.base c.args.rest.builder c.in-Err-NotSpelled.field-0 c.requires.left c.in-Err-NotSpelled.ensures f.0 shallow m.0 m.1 in
    not_memory (sym c.in-Err-NotSpelled.field-0-is ∙ e)

pub locals_above-requires : goal.locals_above-requires
locals_above-requires c =
    let s = stands c.args.bounds.now c.args.file.now.all (module_of c.in-Ok.module) c.requires.few c.requires.whole
    (λ ss f. c.in_default.ensures c.args.file.now.all ss f (c.requires.marks (short_file c.args.bounds.now c.args.file.now.all c.requires.columns c.requires.few) ss f.spells))
    (left_built c.args.bounds.now c.args.file.now.all c.args.rest.left.now c.args.rest.base c.args.rest.builder c.in-Ok.module c.requires.left c.in-Ok.ensures) in
    few_runs c.args.bounds.now c.args.file.now.all c.in-Ok.module s (few_bytes c.args.bounds.now c.args.file.now.all c.requires.columns c.requires.few)

pub returns-in-Some-locals_above-clause-refused : goal.returns-in-Some-locals_above-clause-refused
returns-in-Some-locals_above-clause-refused c =
    let s = stands c.args.bounds.now c.args.file.now.all (module_of c.in-Ok.module) c.requires.few c.requires.whole
    (λ ss f. c.in_default.ensures c.args.file.now.all ss f (c.requires.marks (short_file c.args.bounds.now c.args.file.now.all c.requires.columns c.requires.few) ss f.spells))
    (left_built c.args.bounds.now c.args.file.now.all c.args.rest.left.now c.args.rest.base c.args.rest.builder c.in-Ok.module c.requires.left c.in-Ok.ensures) in
    (s.sections, s.shallow, too_many c.args.bounds.now c.args.file.now.all (module_of c.in-Ok.module) c.locals.result c.in-Some-locals_above.found s c.locals.ensures c.in-Some-locals_above.ensures)

pub returns-clause-ok : goal.returns-clause-ok
returns-clause-ok c =
    let s = stands c.args.bounds.now c.args.file.now.all (module_of c.in-Ok.module) c.requires.few c.requires.whole
    (λ ss f. c.in_default.ensures c.args.file.now.all ss f (c.requires.marks (short_file c.args.bounds.now c.args.file.now.all c.requires.columns c.requires.few) ss f.spells))
    (left_built c.args.bounds.now c.args.file.now.all c.args.rest.left.now c.args.rest.base c.args.rest.builder c.in-Ok.module c.requires.left c.in-Ok.ensures) in
    accepted c.args.bounds.now c.args.file.now.all (module_of c.in-Ok.module) c.locals.result s c.locals.ensures c.in_default-locals_above.ensures

pub returns-clause-sizes : goal.returns-clause-sizes
returns-clause-sizes c =
    let s = stands c.args.bounds.now c.args.file.now.all (module_of c.in-Ok.module) c.requires.few c.requires.whole
    (λ ss f. c.in_default.ensures c.args.file.now.all ss f (c.requires.marks (short_file c.args.bounds.now c.args.file.now.all c.requires.columns c.requires.few) ss f.spells))
    (left_built c.args.bounds.now c.args.file.now.all c.args.rest.left.now c.args.rest.base c.args.rest.builder c.in-Ok.module c.requires.left c.in-Ok.ensures) in
    accepted_sizes c.args.bounds.now c.args.file.now.all (module_of c.in-Ok.module) c.requires.columns
    (accepted c.args.bounds.now c.args.file.now.all (module_of c.in-Ok.module) c.locals.result s c.locals.ensures c.in_default-locals_above.ensures)

pub returns-clause-source_sizes : goal.returns-clause-source_sizes
returns-clause-source_sizes c = λ source.
    let s = stands c.args.bounds.now c.args.file.now.all (module_of c.in-Ok.module) c.requires.few c.requires.whole
    (λ ss f. c.in_default.ensures c.args.file.now.all ss f (c.requires.marks (short_file c.args.bounds.now c.args.file.now.all c.requires.columns c.requires.few) ss f.spells))
    (left_built c.args.bounds.now c.args.file.now.all c.args.rest.left.now c.args.rest.base c.args.rest.builder c.in-Ok.module c.requires.left c.in-Ok.ensures) in
    accepted_strictly c.args.bounds.now c.args.file.now.all (module_of c.in-Ok.module) source
    (accepted c.args.bounds.now c.args.file.now.all (module_of c.in-Ok.module) c.locals.result s c.locals.ensures c.in_default-locals_above.ensures)

pub returns-clause-short : goal.returns-clause-short
returns-clause-short c =
    let s = stands c.args.bounds.now c.args.file.now.all (module_of c.in-Ok.module) c.requires.few c.requires.whole
    (λ ss f. c.in_default.ensures c.args.file.now.all ss f (c.requires.marks (short_file c.args.bounds.now c.args.file.now.all c.requires.columns c.requires.few) ss f.spells))
    (left_built c.args.bounds.now c.args.file.now.all c.args.rest.left.now c.args.rest.base c.args.rest.builder c.in-Ok.module c.requires.left c.in-Ok.ensures) in
    written_short c.args.file.now.all (module_of c.in-Ok.module) (accepted_spelled c.args.bounds.now c.args.file.now.all (module_of c.in-Ok.module)
    (accepted c.args.bounds.now c.args.file.now.all (module_of c.in-Ok.module) c.locals.result s c.locals.ensures c.in_default-locals_above.ensures))
