use Rattle.std.proofs.Common.{◌≡◌, ℕ, List, map, take, true}
use Rattle.std.specs.List.{list_any}
use Rattle.std.specs.Borrow.{Bor}
use Rattle.wa_types.specs.declared.syntax.Export.{Export}
use Rattle.wa_types.specs.Validity.{all_differ, same_name}
use Rattle.wasm_validate.proofs.names.names_differ.Given as goal

abbrev pub invariant-loop-export : goal.invariant-loop-export
invariant-loop-export l = record {
  seen : (name : List ℕ) → list_any (same_name name) (map (λ (k : Bor (List ℕ)). k.now) l.seen.keys) ≡ list_any (same_name name) (map (λ (e : Export). e.name) (take l.export-index l.exports));
  differ : all_differ (map (λ (e : Export). e.name) (take l.export-index l.exports)) ≡ true;
}
