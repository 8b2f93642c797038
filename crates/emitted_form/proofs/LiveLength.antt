-- How many bytes the module that the policy `live` emits takes: each numbered call of a function takes bytes of the original.
use Rattle.std.proofs.Common.{◌≡◌, ℕ, ◌+◌, ◌*◌, ◌≤◌, List, [], ◌∷◌, ◌++◌, length, Bool, true, false, arith, length-append}
use Rattle.std.specs.Prelude.{if◌then◌else◌}
use Rattle.std.specs.List.{flat_map, sum_by}
use Rattle.std.proofs.lemmas.List.Sums.{sum_by-cons}
use Rattle.wa_types.specs.Encoding.{Enc, body_bytes, code_bytes, else_bytes, expression_bytes, plain_bytes, run_bytes, merged, vector}
use Rattle.leb_numbers.specs.Leb.{shortest}
use Rattle.wa_types.specs.Pausing.{Callee, Numbered, Settings, callee, callee_onto, calls_in, calls_of, has_number}
use Rattle.wa_types.specs.Pruned.{is_last, pruned}
use Rattle.wa_types.specs.Syntax.{basic, local_get, local_set, local_tee, br, br_if, br_table, return, unreachable, call, call_indirect, Plain, Code, done, plain, nest, branch, Func, Module}
use Rattle.file_laws.proofs.FileWriting.{written_spells}
use Rattle.call_frames.specs.PlainFrames.{SavedParts}
use Rattle.emitted_form.proofs.EmittedSo.{numbered_few}
use Rattle.emitted_form.proofs.Grown.{enc_length}
use Rattle.emitted_form.proofs.Lengths.{entries_within}
use Rattle.emitted_form.proofs.LengthBy.{AllCodesShort, emitted_few, emitted_short, entry}
use Rattle.emitted_form.proofs.Prepared.{prepared_by}
use Rattle.slim_laws.specs.SlimModule.{Pieces}
use Rattle.emitted_form.specs.LiveModuleLaws.{LiveRewriting}
use Rattle.emitted_form.specs.LiveParts.{live_asyncified, live_codes}
use Rattle.emitted_form.proofs.LiveModules.{few_codes, hold, well_formed_law}
use Rattle.emitted_form.specs.LiveBytes.{LiveHasFewLocals, LiveIsPrepared, LiveIsShort, LiveIsSpelled}

-- ---- calls take bytes

plain_calls : (p : Plain) (cs : List Callee) → length (callee_onto (callee p) cs) ≤ length (plain_bytes p) + length cs
plain_calls (call x) cs = omega arith
plain_calls (call_indirect sort) cs = omega arith
plain_calls (basic b) cs = omega arith
plain_calls (local_get x) cs = omega arith
plain_calls (local_set x) cs = omega arith
plain_calls (local_tee x) cs = omega arith
plain_calls (br l) cs = omega arith
plain_calls (br_if l) cs = omega arith
plain_calls (br_table ls l) cs = omega arith
plain_calls return cs = omega arith
plain_calls unreachable cs = omega arith

else_longer : (b : Code) → length (code_bytes b) ≤ length (else_bytes b (code_bytes b))
unfolding code_bytes
else_longer done = omega arith
else_longer (plain p rest) = omega arith
else_longer (nest s r body rest) = omega arith
else_longer (branch r a b rest) = omega arith

calls_take : (c : Code) → length (calls_of (pruned c)) ≤ length (code_bytes c)
unfolding calls_of pruned code_bytes
calls_take done = omega arith
calls_take (plain p rest) = by (is_last p) (calls_take rest)
  where
    by : (b : Bool) → length (calls_of (pruned rest)) ≤ length (code_bytes rest) → length (callee_onto (callee p) (calls_of (if b then done else pruned rest))) ≤ length
        (plain_bytes p ++ code_bytes rest)
    by true h = omega (arith, plain_calls p [], length-append (plain_bytes p) (code_bytes rest))
    by false h = omega (arith, h, plain_calls p (calls_of (pruned rest)), length-append (plain_bytes p) (code_bytes rest))
calls_take (nest s r body rest) =
    omega (
      arith,
      length-append (calls_of (pruned body)) (calls_of (pruned rest)),
      length-append (code_bytes body) (0x0B ∷ code_bytes rest),
      calls_take body,
      calls_take rest,
    )
calls_take (branch r a b rest) =
    omega (
      arith,
      length-append (calls_of (pruned a) ++ calls_of (pruned b)) (calls_of (pruned rest)),
      length-append (calls_of (pruned a)) (calls_of (pruned b)),
      length-append (code_bytes a ++ else_bytes b (code_bytes b)) (0x0B ∷ code_bytes rest),
      length-append (code_bytes a) (else_bytes b (code_bytes b)),
      else_longer b,
      calls_take a,
      calls_take b,
      calls_take rest,
    )

entry_holds : (f : Func) → length (code_bytes f.body) ≤ length (entry f)
entry_holds f =
    omega (
      arith,
      length-append (shortest (length (body_bytes f))) (body_bytes f),
      length-append (vector run_bytes (merged f.locals)) (expression_bytes f.body),
      length-append (code_bytes f.body) (0x0B ∷ []),
    )

pub numbers_take : (m : Module) (s : Settings) (which : List Bool) (f : Func) → length (Numbered m s which f) ≤ length (entry f)
numbers_take m s which f = omega (arith, numbered_few (has_number m s which) 0 (calls_in f), calls_take f.body, entry_holds f)

-- ---- all functions

-- what the codes of a function have at most, by its bytes
abbrev more : Func → ℕ
more f = 1500000 * length (entry f)

all_more : (fs : List Func) → sum_by more fs ≡ 1500000 * length (flat_map entry fs)
all_more [] = omega arith
all_more (f ∷ fs) = omega (arith, sum_by-cons more f fs, all_more fs, length-append (entry f) (flat_map entry fs))

pub entries_short : (m : Module) → length (flat_map entry m.funcs) ≤ length (Enc m)
entries_short m = omega (arith, enc_length m, entries_within 10 entry m.funcs)

module _ (m : Module) (s : Settings) (which : List Bool) (pieces : (index : ℕ) → Pieces) (parts : (index : ℕ) → SavedParts) (r : LiveRewriting m s which pieces parts) where
  codes_short : AllCodesShort m which (live_codes pieces parts) more
  codes_short x f is told = omega (arith, few_codes m s which pieces parts r x f is told, numbers_take m s which f)

pub few_law : LiveHasFewLocals
few_law m s which pieces parts r = emitted_few m s which (live_codes pieces parts) r.sizes r.few

pub short_law : LiveIsShort
short_law m s which pieces parts r n l =
    emitted_short m s which (live_codes pieces parts) r.sizes r.few more r.slim (codes_short m s which pieces parts r) n (omega (arith, l))
    (omega (arith, all_more m.funcs, entries_short m, l))

pub spelled_law : LiveIsSpelled
spelled_law m s which pieces parts r wf short =
    written_spells (live_asyncified m s which pieces parts) (well_formed_law m s which pieces parts r wf) (few_law m s which pieces parts r) (omega (arith, short))

pub prepared_law : LiveIsPrepared
prepared_law m s which pieces parts bytes r read short spelled = prepared_by m s which (live_codes pieces parts) bytes read r.valid (hold m s which pieces parts r) r.few short spelled
