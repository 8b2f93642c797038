use Rattle.std.proofs.Common.{subst, sym}
use Rattle.std.proofs.lemmas.Result.{on_ok_weaker}
use Rattle.std.specs.List.{flat_map}
use Rattle.wa_types.specs.View.{func_of}
use Rattle.wasm_encode.specs.Around.{code_entry, HoldsEntries}
use Rattle.module_rewrite.proofs.EntryLemmas.{entry_more}
use Rattle.module_rewrite.proofs.sink.CodeEntriesFuncSink.keep.Goals as goal

pub put-requires-clause-locals : goal.put-requires-clause-locals
put-requires-clause-locals c = c.requires.locals

pub put-requires-clause-fits : goal.put-requires-clause-fits
put-requires-clause-fits c = c.requires.bytes

pub returns : goal.returns
returns c =
    on_ok_weaker c.put.result (λ put fs h. subst (HoldsEntries c.put.new.self) (sym (entry_more fs (func_of c.args.func.now))) (put (flat_map code_entry fs) h)) c.put.ensures
