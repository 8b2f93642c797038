use Rattle.std.proofs.Common.{rules, length, take, ap, ◌∙◌, lit<}
use Rattle.std.proofs.lemmas.List.{length_push}
use Rattle.std.proofs.lemmas.Iterator.Consumers.{YieldsList-turn, YieldsList-end}
use Rattle.std.proofs.lemmas.Iterator.Splits.{YieldsList-from_str_split}
use Rattle.wa_types.specs.Pausing.{entries_of, list_of}
use Rattle.call_graph.proofs.ParseLemmas.{parts, entry_read, entry_fails, entries_read, blamed, parses_err}
use Rattle.call_graph.proofs.lists.ImportList.parse.Goals as goal

pub returns-in_err-entry : goal.returns-in_err-entry
returns-in_err-entry c =
    let turn = YieldsList-turn (YieldsList-from_str_split {s = c.into_iter-piece-iterator.result} 44 c.args.text.now (lit< tt) (search rules) (search rules) (search rules))
    c.loop-piece.yielded _ c.loop-piece.yielded_by _ _ c.in-Some.piece c.in-Some.is c.next.ensures.steps in
    parses_err c.from_residual.result c.in_err-entry.field-0.0 (list_of c.args.text.now) c.from_residual.ensures.1
    (blamed c.args.text.now c.in_err-entry.field-0.0 (entry_fails (parts c.args.text.now)
    (length c.loop-piece.yielded) c.in-Some.piece.now c.loop-piece.entries.items turn.0 turn.1 c.loop-piece.invariant c.in_err-entry.field-0.0 c.in_err-entry.ensures))

pub loop-piece-preserved : goal.loop-piece-preserved
loop-piece-preserved c =
    let turn = YieldsList-turn (YieldsList-from_str_split {s = c.into_iter-piece-iterator.result} 44 c.args.text.now (lit< tt) (search rules) (search rules) (search rules))
    c.loop-piece.yielded _ c.loop-piece.yielded_by _ _ c.in-Some.piece c.in-Some.is c.next.ensures.steps in
    ap (λ k. entries_of (take k (parts c.args.text.now))) (length_push c.loop-piece.yielded c.in-Some.piece)
    ∙ entry_read (parts c.args.text.now) (length c.loop-piece.yielded) c.in-Some.piece.now c.loop-piece.entries.items turn.0 turn.1 c.loop-piece.invariant c.in_ok-entry.entry
    c.put_entry.new.entries.items c.in_ok-entry.ensures c.in_ok-put_entry.ensures

pub returns : goal.returns
returns c =
    let all = YieldsList-end (YieldsList-from_str_split {s = c.into_iter-piece-iterator.result} 44 c.args.text.now (lit< tt) (search rules) (search rules) (search rules))
    c.loop-piece.yielded _ c.loop-piece.yielded_by _ _ c.in-None.is c.next.ensures.steps in
    entries_read c.args.text.now (length c.loop-piece.yielded) c.loop-piece.entries.items all.1 c.loop-piece.invariant
