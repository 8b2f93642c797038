use Rattle.std.proofs.Common.{rules, length, drop, ap, ◌∙◌, Vec, Global}
use Rattle.std.specs.List.{slice_split}
use Rattle.std.proofs.lemmas.List.{length_push}
use Rattle.std.proofs.lemmas.Iterator.Consumers.{YieldsList-turn, YieldsList-end}
use Rattle.std.proofs.lemmas.Iterator.Splits.{YieldsList-from_slice_split}
use Rattle.wa_types.specs.declared.names.Name.{Name}
use Rattle.script_model.specs.ScriptLines.{is_blank}
use Rattle.script_reader.specs.Reading.{behind_words, or_breaks, told_words}
use Rattle.script_reader.proofs.Pieces.{handed_on, piece_read, piece_fails, pieces_read}
use Rattle.script_reader.proofs.words.split_words.Goals as goal

pub loop-piece-preserved : goal.loop-piece-preserved
loop-piece-preserved c =
    let turn = YieldsList-turn
    (YieldsList-from_slice_split {s = c.into_iter-piece-iterator.result} _ is_blank c.args.line.now (search rules) (search rules) (search rules) (search rules)) c.loop-piece.yielded _
    c.loop-piece.yielded_by _ _ c.in-Some.piece c.in-Some.is c.next.ensures.steps in
    ap (λ k. behind_words c.put_word.new.words.items (told_words (drop k (slice_split is_blank c.args.line.now)))) (length_push c.loop-piece.yielded c.in-Some.piece)
    ∙ piece_read (slice_split is_blank c.args.line.now) (length c.loop-piece.yielded) c.in-Some.piece.now turn.0 turn.1 c.loop-piece.words.items
    (told_words (slice_split is_blank c.args.line.now)) c.loop-piece.invariant
    c.put_word.new.words.items c.in_ok-put_word.ensures

pub returns-in_err-put_word : goal.returns-in_err-put_word
returns-in_err-put_word c =
    let turn = YieldsList-turn
    (YieldsList-from_slice_split {s = c.into_iter-piece-iterator.result} _ is_blank c.args.line.now (search rules) (search rules) (search rules) (search rules)) c.loop-piece.yielded _
    c.loop-piece.yielded_by _ _ c.in-Some.piece c.in-Some.is c.next.ensures.steps in
    handed_on (λ (words : Vec Name Global). words.items) c.from_residual.result c.in_err-put_word.field-0.0
    (or_breaks 1 (told_words (slice_split is_blank c.args.line.now))) c.from_residual.ensures.1
    (piece_fails (slice_split is_blank c.args.line.now) (length c.loop-piece.yielded) c.in-Some.piece.now turn.0 turn.1 c.loop-piece.words.items
    (told_words (slice_split is_blank c.args.line.now)) c.loop-piece.invariant
    c.in_err-put_word.field-0.0 c.in_err-put_word.ensures)

pub returns : goal.returns
returns c =
    let all = YieldsList-end
    (YieldsList-from_slice_split {s = c.into_iter-piece-iterator.result} _ is_blank c.args.line.now (search rules) (search rules) (search rules) (search rules)) c.loop-piece.yielded _
    c.loop-piece.yielded_by _ _ c.in-None.is c.next.ensures.steps in
    pieces_read (slice_split is_blank c.args.line.now) (length c.loop-piece.yielded) c.loop-piece.words.items (told_words (slice_split is_blank c.args.line.now)) all.1 c.loop-piece.invariant
